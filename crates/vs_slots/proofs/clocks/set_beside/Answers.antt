use Rattle.std.proofs.Common.{◌≡◌, ℕ, ◌↔◌, Some, None, sym, ◌∙◌, subst}
use Rattle.std.proofs.lemmas.Option.{same_Some}
use Rattle.std.proofs.lemmas.Result.{IfOk-weaker}
use Rattle.vs_design.specs.vs_logic4.specs.declared.digit.Digit.{Digit}
use Rattle.vs_maps.specs.vs_rules.specs.Claims.{is_wide}
use Rattle.vs_maps.specs.vs_rules.specs.Constants.{SetsAlike}
use Rattle.vs_slots_constants.specs.Clocks.{IsOther, IsSetBy}
use Rattle.vs_slots.proofs.clocks.set_beside.Goals as goal

pub returns-in_default-other : goal.returns-in_default-other
returns-in_default-other c i is wide j o digit =
    let same = same_Some c.in-Some.i i (sym c.in-Some.is ∙ is) in
    let n : None ≡ Some j = (c.in_default-other.ensures j).0 (subst (λ (n : ℕ). IsOther c.args.writers.now n j) (sym same) o) in
    absurd (cc)

pub returns : goal.returns
returns c =
    let f = c.args.facts.now in
    IfOk-weaker c.set_by.result
    (λ o. (digit : Digit) → (SetsAlike f.design c.args.v digit c.in-Some-other.j ↔ o ≡ Some digit))
    (λ o. (i : ℕ) → c.args.writer ≡ Some i → IsSetBy f.design (is_wide f.claims) c.args.v i c.args.writers.now o)
    (λ o h i is wide j other digit.
    let same = same_Some c.in-Some.i i (sym c.in-Some.is ∙ is) in
    let there = same_Some c.in-Some-other.j j ((c.in-Some-other.ensures j).0 (subst (λ (n : ℕ). IsOther c.args.writers.now n j) (sym same) other)) in
    subst (λ (k : ℕ). (SetsAlike f.design c.args.v digit k ↔ o ≡ Some digit)) there (h digit))
    c.set_by.ensures
