use Rattle.std.proofs.Common.{◌≡◌, ℕ, ◌+◌, Some, List, [], ◌∷◌, ◌++◌, length, slice_get, sym, ◌∙◌, ap, subst, arith}
use Rattle.std.proofs.lemmas.List.{length-append}
use Rattle.vs_design.specs.Parts.{Parts}
use Rattle.vs_design.specs.vs_logic4.proofs.Basics.{each_more}
use Rattle.vs_slots.specs.declared.runs.Runs.{Runs}
use Rattle.vs_slots.specs.Kept.{RunsWhere}
use Rattle.vs_slots.specs.Runs.{DelayPauseEnds}
use Rattle.vs_slots.proofs.delay_runs.delay_runs.Goals as goal

pub loop-i-preserved : goal.loop-i-preserved
loop-i-preserved c =
    let old = c.loop-i.runs.items in
    let own = c.in_ok-own.own in
    let f = c.args.facts.now in
    let e : c.push.new.self.items ≡ old ++ own ∷ [] = c.in_ok-push.ensures.items in
    let here : RunsWhere DelayPauseEnds f (length old) own = subst (λ (n : ℕ). RunsWhere DelayPauseEnds f n own) (sym c.loop-i.invariant.0) c.in_ok-own.ensures in (
      ap length e ∙ length-append old (own ∷ []) ∙ ap (λ (n : ℕ). n + 1) c.loop-i.invariant.0,
      λ k x is. each_more (λ n y. RunsWhere DelayPauseEnds f n y) old own c.loop-i.invariant.1 here k x (subst (λ (l : List Runs). slice_get l k ≡ Some x) e is),
    )

pub returns : goal.returns
returns c =
    let at : c.loop-i.i ≡ length c.processes-i-end.result.now = omega (arith, c.loop-i-test.false, c.loop-i.auto.i-end) in record {
      long = c.loop-i.invariant.0 ∙ at ∙ ap length (c.processes-i-end.ensures ∙ ap (λ (d : Parts). d.processes) c.design.ensures);
      each = c.loop-i.invariant.1;
    }
