use Rattle.std.proofs.Common.{◌≡◌, ℕ, suc, ◌+◌, ◌-◌, ◌≤◌, ◌++◌, List, length, map, sym, ap, ◌∙◌, subst, arith}
use Rattle.vs_cert_check.specs.declared.verdict.Broken.{Broken}
use Rattle.vs_cert_check.specs.Broken.{broken_view, violation_at, AreFirstBroken}
use Rattle.vs_cert_check.proofs.BrokenLemmas.{none_told, at_most, next_told}
use Rattle.vs_cert_check.proofs.listing.broken_from.Goals as goal

pub loop-rule-init : goal.loop-rule-init
loop-rule-init c =
    let d = c.args.sheet.now.design in
    let n = c.args.sheet.now.claims in
    subst (λ (l : List Broken). AreFirstBroken d n c.args.first c.args.most l) (sym c.new-list.ensures.items) (none_told d n c.args.first c.args.most c.requires.kept)

pub overflow_sub-most : goal.overflow_sub-most
overflow_sub-most c =
    let few = at_most c.args.sheet.now.design c.args.sheet.now.claims c.loop-rule.rule c.args.most c.loop-rule.list.items c.loop-rule.invariant in
    grind (arith, few, c.len.ensures)

pub loop-rule-preserved : goal.loop-rule-preserved
loop-rule-preserved c =
    let d = c.args.sheet.now.design in
    let n = c.args.sheet.now.claims in
    let old = c.loop-rule.list.items in
    let few : length old ≤ c.args.most = at_most d n c.loop-rule.rule c.args.most old c.loop-rule.invariant in
    let room : length old + (c.args.most - c.len.result) ≡ c.args.most = grind (arith, few, c.len.ensures) in
    let put = c.in_ok-tell.ensures
    ∙ ap (λ (xs : List ℕ). map broken_view old ++ map (λ (i : ℕ). violation_at d n (c.loop-rule.rule, i)) xs) c.deref.ensures.value in
    let one : suc c.loop-rule.rule ≡ c.loop-rule.rule + 1 = omega arith in
    subst (λ (k : ℕ). AreFirstBroken d n k c.args.most c.tell.new.list.items) one
    (next_told d n c.loop-rule.rule c.args.most (c.args.most - c.len.result) c.count.result old c.tell.new.list.items c.in_ok-found.found.items
    c.loop-rule.invariant c.count.ensures room c.in_ok-found.ensures.first put)
