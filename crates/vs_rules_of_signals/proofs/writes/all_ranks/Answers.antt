use Rattle.std.proofs.Common.{◌≡◌, ℕ, ◌+◌, Some, List, [], ◌∷◌, ◌++◌, length, slice_get, sym, ◌∙◌, ap, subst}
use Rattle.std.proofs.lemmas.List.{length-append}
use Rattle.vs_design.specs.vs_logic4.proofs.Basics.{each_more}
use Rattle.vs_rules_of_signals.specs.declared.ranks.Ranks.{Ranks}
use Rattle.vs_rules_of_signals.specs.Ranks.{AreRanksOf}
use Rattle.vs_rules_of_signals.proofs.writes.all_ranks.Goals as goal

pub loop-i-preserved : goal.loop-i-preserved
loop-i-preserved c =
    let old = c.loop-i.ranks.items in
    let own = c.in_ok-own.own in
    let f = c.args.facts.now in
    let e : c.push.new.self.items ≡ old ++ own ∷ [] = c.in_ok-push.ensures.items in
    let here : AreRanksOf f (length old) own = subst (λ (n : ℕ). AreRanksOf f n own) (sym c.loop-i.invariant.0) c.in_ok-own.ensures in (
      ap length e ∙ length-append old (own ∷ []) ∙ ap (λ (n : ℕ). n + 1) c.loop-i.invariant.0,
      λ k x is. each_more (λ n y. AreRanksOf f n y) old own c.loop-i.invariant.1 here k x (subst (λ (l : List Ranks). slice_get l k ≡ Some x) e is),
    )

pub returns : goal.returns
returns c = c.loop-i.invariant.1
