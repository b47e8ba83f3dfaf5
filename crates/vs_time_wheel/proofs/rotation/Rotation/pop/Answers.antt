use Rattle.std.proofs.Common.{◌≡◌, [], drop, ap, sym, ◌∙◌, true≢false}
use Rattle.std.proofs.Math.ListN.{set}
use Rattle.vs_time_wheel.specs.Rotation.{slot_at, flag_of}
use Rattle.vs_time_wheel.proofs.Slots.{flagged_set, flagged_kept, popped_rest, popped_flag, slot_read}
use Rattle.vs_time_wheel.proofs.rotation.Rotation.pop.Goals as goal

pub invariant_of-self : goal.invariant_of-self
invariant_of-self g c =
    flagged_set c.self.inside.slots.items c.self.inside.flags c.clear_flag.new.flags c.args.slot 0 c.pop-event.new.chain c.requires c.self.invariant (ap flag_of (c.is_empty.ensures.0 c.if-is_empty.true)) c.clear_flag.ensures

pub invariant_of-self-else-is_empty : goal.invariant_of-self-else-is_empty
invariant_of-self-else-is_empty g c =
    let before = slot_read _ _ _ _ c.requires c.self.invariant c.index_mut-chain.ensures.value in
    let some = λ (none : c.pop-event.new.chain ≡ []). true≢false (sym (c.is_empty.ensures.1 none) ∙ c.if-is_empty.false) in
    flagged_kept c.self.inside.slots.items c.self.inside.flags c.args.slot c.pop-event.new.chain c.requires c.self.invariant (popped_flag c.pop-event.result _ _ c.pop-event.ensures some ∙ ap flag_of before)

pub returns-then-is_empty-clause-rest : goal.returns-then-is_empty-clause-rest
returns-then-is_empty-clause-rest g c =
    let before = slot_read _ _ _ _ c.requires c.self.invariant c.index_mut-chain.ensures.value in
    ap (set c.self.inside.slots.items c.args.slot) (popped_rest c.pop-event.result _ _ c.pop-event.ensures ∙ ap (drop 1) before) ∙ ap (λ slots. set slots c.args.slot (drop 1 (slot_at slots c.args.slot))) c.self.view_is

pub returns-else-is_empty-clause-rest : goal.returns-else-is_empty-clause-rest
returns-else-is_empty-clause-rest g c =
    let before = slot_read _ _ _ _ c.requires c.self.invariant c.index_mut-chain.ensures.value in
    ap (set c.self.inside.slots.items c.args.slot) (popped_rest c.pop-event.result _ _ c.pop-event.ensures ∙ ap (drop 1) before) ∙ ap (λ slots. set slots c.args.slot (drop 1 (slot_at slots c.args.slot))) c.self.view_is
