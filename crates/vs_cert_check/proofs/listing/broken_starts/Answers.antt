use Rattle.std.proofs.Common.{◌≡◌, ℕ, ◌+◌, ◌++◌, List, length, map, refl, sym, ap, ◌∙◌, subst, arith}
use Rattle.vs_rules_of_starts.specs.vs_rules.specs.Verdict.{subjects}
use Rattle.vs_cert_check.specs.declared.verdict.Broken.{Broken}
use Rattle.vs_cert_check.specs.Broken.{broken_view, violation_at, AreFirstBroken}
use Rattle.vs_cert_check.proofs.BrokenLemmas.{none_told, none_asked, next_told}
use Rattle.vs_cert_check.proofs.listing.broken_starts.Goals as goal

pub returns-then-most-eq0 : goal.returns-then-most-eq0
returns-then-most-eq0 c =
    let d = c.args.sheet.now.design in
    let n = c.args.sheet.now.claims in
    subst (λ (l : List Broken). AreFirstBroken d n 11 c.args.most l) (sym c.new-list.ensures.items) (none_asked d n 11 c.args.most c.if-most-eq0.true)

pub returns : goal.returns
returns c =
    let d = c.args.sheet.now.design in
    let n = c.args.sheet.now.claims in
    let old = c.new-list.result.items in
    let before = subst (λ (l : List Broken). AreFirstBroken d n 10 c.args.most l) (sym c.new-list.ensures.items) (none_told d n 10 c.args.most c.requires) in
    let room : length old + c.args.most ≡ c.args.most = ap (λ (l : List Broken). length l + c.args.most) c.new-list.ensures.items ∙ omega arith in
    let put = c.in_ok-tell.ensures
    ∙ ap (λ (xs : List ℕ). map broken_view old ++ map (λ (i : ℕ). violation_at d n (10, i)) xs) c.deref.ensures.value in
    next_told d n 10 c.args.most c.args.most (length (subjects d n)) old c.tell.new.list.items c.in_ok-found.found.items before refl room
    c.in_ok-found.ensures.first put
