use Rattle.std.proofs.Common.{◌≡◌, ℕ, ◌+◌, ◌-◌, List, map, drop, get_or, ap, sym, subst, arith}
use Rattle.vs_scopes.specs.vs_widths.specs.declared.bindings.Binding.TheVariants.{Pending}
use Rattle.vs_widths.specs.Names.{meaning_of}
use Rattle.vs_scopes.specs.Parameters.{with_given}
use Rattle.vs_scopes.specs.scopes_passes.Parts.{read_given}
use Rattle.vs_elab_constants.proofs.SearchLemmas.{pending_step}
use Rattle.vs_elab_constants.proofs.finding.bind_pending.Goals as goal

pub loop-number-preserved : goal.loop-number-preserved
loop-number-preserved c =
    let i = c.loop-number.number - 1 in
    let next : i + 1 ≡ c.loop-number.number = omega (arith, c.loop-number-test.true) in
    let x = get_or c.args.list.now i c.index-list-number.result in
    pending_step c.args.list.now i x (meaning_of c.args.names.now) c.loop-number.names c.bind.new.names (omega (arith, c.loop-number-test.true, c.loop-number.auto.number)) (ap (get_or c.args.list.now i) c.index-list-number.is) c.in_ok-bind.ensures
    (subst (λ (k : ℕ). (n : List ℕ) → meaning_of c.loop-number.names n ≡ with_given (λ g. Pending) (map read_given (drop k c.args.list.now)) (meaning_of c.args.names.now) n) (sym next) c.loop-number.invariant)
