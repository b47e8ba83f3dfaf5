use Rattle.std.proofs.Common.{refl, sym, ◌∙◌}
use Rattle.std.proofs.lemmas.Bool.{false≢true}
use Rattle.std.proofs.lemmas.Result.{on_ok_weaker}
use Rattle.vs_rules_of_processes.proofs.HungLemmas.{bare_needs, all_needs_of}
use Rattle.vs_rules_of_processes.proofs.hung.push_needs.Goals as goal

pub returns-then-not-displays : goal.returns-then-not-displays
returns-then-not-displays c =
    let k = c.args.facts.now in
    bare_needs k c.args.i c.args.out.now.items c.extend_from_slice.new.self.items c.block_needs.result.now (λ e. false≢true (c.if-not-displays.ensures ∙ e))
    c.in_ok-extend_from_slice.ensures.items (c.block_needs.ensures k.design k.claims c.requires)

pub returns : goal.returns
returns c =
    let k = c.args.facts.now in
    on_ok_weaker c.push_shown.result
    (λ shown. all_needs_of k c.args.i c.args.out.now.items c.extend_from_slice.new.self.items c.push_shown.new.out.items c.block_needs.result.now
    (c.if-not-is_block.ensures.0 refl) (sym c.if-not-displays.ensures) c.in_ok-extend_from_slice.ensures.items (c.block_needs.ensures k.design k.claims c.requires) shown)
    c.push_shown.ensures
