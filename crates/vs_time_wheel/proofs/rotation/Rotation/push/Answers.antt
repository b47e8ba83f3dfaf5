use Rattle.std.proofs.Common.{[], ◌∷◌, ◌++◌, ap, ◌∙◌}
use Rattle.std.proofs.Math.ListN.{set}
use Rattle.std.proofs.lemmas.List.{set-get_or}
use Rattle.vs_time_wheel.specs.Rotation.{slot_at, flag_of}
use Rattle.vs_time_wheel.proofs.Outcomes.{OnErr-any}
use Rattle.vs_time_wheel.proofs.Slots.{flagged_set, flagged_kept, flag_of-push, slot_read}
use Rattle.vs_time_wheel.proofs.rotation.Rotation.push.Goals as goal

pub invariant_of-self : goal.invariant_of-self
invariant_of-self g c =
    let before = slot_read _ _ _ _ c.requires c.self.invariant c.index_mut-chain.ensures.value in
    flagged_kept c.self.inside.slots.items c.self.inside.flags c.args.slot c.push.new.chain c.requires c.self.invariant (ap flag_of (c.in_err-push.ensures.unchanged ∙ before))

pub invariant_of-self-2 : goal.invariant_of-self-2
invariant_of-self-2 g c =
    flagged_set c.self.inside.slots.items c.self.inside.flags c.set_flag.new.flags c.args.slot 1 c.push.new.chain c.requires c.self.invariant (ap flag_of c.in_ok-push.ensures.linked ∙ flag_of-push _ c.args.event) c.set_flag.ensures

pub returns-in_err-push-clause-unchanged : goal.returns-in_err-push-clause-unchanged
returns-in_err-push-clause-unchanged g c =
    let before = slot_read _ _ _ _ c.requires c.self.invariant c.index_mut-chain.ensures.value in
    OnErr-any _ (ap (set c.self.inside.slots.items c.args.slot) (c.in_err-push.ensures.unchanged ∙ before) ∙ set-get_or c.self.inside.slots.items c.args.slot [] ∙ c.self.view_is)

pub returns-clause-added : goal.returns-clause-added
returns-clause-added g c =
    let before = slot_read _ _ _ _ c.requires c.self.invariant c.index_mut-chain.ensures.value in
    ap (set c.self.inside.slots.items c.args.slot) (c.in_ok-push.ensures.linked ∙ ap (λ events. events ++ c.args.event ∷ []) before) ∙ ap (λ slots. set slots c.args.slot (slot_at slots c.args.slot ++ c.args.event ∷ [])) c.self.view_is
