use Rattle.std.proofs.Common.{◌≡◌, ℕ, List, [], ◌∷◌, ◌++◌, ◌+◌, ◌-◌, ◌∙◌, ap, arith, map, reverse, subst, sym, take}
use Rattle.std.proofs.lemmas.List.{append-nil, take_all}
use Rattle.vs_design.specs.vs_logic4.specs.declared.digit.Digit.{Digit}
use Rattle.vs_design.specs.vs_logic4.specs.Tables.{letter}
use Rattle.vs_program.specs.Races.{value_text}
use Rattle.vs_program.proofs.Values.{digit_more}
use Rattle.vs_program.proofs.racing.push_value.Goals as goal

pub loop-left-init : goal.loop-left-init
loop-left-init c = record {
  within = omega (arith, c.width-left.ensures.digits);
  so_far =
      ap (λ (l : List Digit). c.args.text.now.items ++ reverse (map letter l))
      (take_all c.width-left.result c.args.value (omega (arith, c.width-left.ensures.digits)));
}

pub loop-left-preserved : goal.loop-left-preserved
loop-left-preserved c =
    let v = c.args.value in
    let m : ℕ = c.loop-left.left - 1 in
    let all : List ℕ = c.args.text.now.items ++ value_text v in
    let back : c.loop-left.left ≡ m + 1 = omega (arith, c.loop-left-test.true) in
    record {
      within = omega (arith, c.loop-left.invariant.within);
      so_far =
          ap (λ (t : List ℕ). t ++ reverse (map letter (take m v)))
          (c.in_ok-push.ensures.items ∙ ap (λ (x : ℕ). c.loop-left.text.items ++ x ∷ []) c.character.ensures)
          ∙ digit_more v m c.digit.result c.loop-left.text.items all c.digit.ensures
          (subst (λ (n : ℕ). c.loop-left.text.items ++ reverse (map letter (take n v)) ≡ all) back c.loop-left.invariant.so_far);
    }

pub returns : goal.returns
returns c =
    let v = c.args.value in
    let all : List ℕ = c.args.text.now.items ++ value_text v in
    let zero : c.loop-left.left ≡ 0 = omega (arith, c.loop-left-test.false) in
    sym (append-nil c.loop-left.text.items)
    ∙ subst (λ (n : ℕ). c.loop-left.text.items ++ reverse (map letter (take n v)) ≡ all) zero c.loop-left.invariant.so_far
