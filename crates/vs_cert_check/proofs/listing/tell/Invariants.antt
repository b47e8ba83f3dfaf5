use Rattle.std.proofs.Common.{ℕ, ◌≡◌, ◌++◌, map, take}
use Rattle.vs_cert_check.specs.Broken.{broken_view, violation_at}
use Rattle.vs_cert_check.proofs.listing.tell.Given as goal

abbrev pub invariant-loop-i : goal.invariant-loop-i
invariant-loop-i l =
    map broken_view l.list.items
    ≡ map broken_view l.fn.list.items ++ map (λ (i : ℕ). violation_at l.sheet.design l.sheet.claims (l.rule, i)) (take l.i-index l.found)
