use Rattle.std.proofs.Common.{◌≡◌, ℕ, ◌<◌, ◌↔◌, IsTrue, Some, List, slice_get, subst, arith}
use Rattle.std.specs.List.{Contains}
use Rattle.vs_design.specs.declared.statement.EventTerm.{EventTerm}
use Rattle.vs_rules.specs.Claims.{IsRootOf}
use Rattle.vs_claims.specs.Facts.{Case}
use Rattle.vs_rules_of_processes.specs.ReadingPlaces.{IsTermApart}
use Rattle.vs_rules_of_processes.proofs.ReadingLemmas.{roots_apart_are}
use Rattle.vs_rules_of_processes.proofs.readings.Reader.are_roots_apart.Goals as goal

pub returns : goal.returns
returns c =
    let f = c.args.self.now.slots.now in
    let t = c.args.self.now.tables.now in
    let roots = c.in_ok-roots.roots.items in
    let listed = subst (λ (g : Case). (r : ℕ) → (Contains roots r ↔ IsRootOf g.design g.claims r c.args.v)) c.facts.ensures c.in_ok-roots.ensures in
    let kept = subst (λ (l : List ℕ). (IsTrue c.in_ok-all.all ↔ ((j : ℕ) → j < c.len.result → (root : ℕ) → slice_get l j ≡ Some root → (k : ℕ) (x : EventTerm) →
    slice_get c.args.terms.now k ≡ Some x → IsTermApart f.design f.claims root x))) c.deref.ensures.value c.in_ok-all.ensures in
    roots_apart_are f.design f.claims t c.args.v c.args.terms.now roots c.len.result c.in_ok-all.all (omega (arith, c.len.ensures)) c.requires listed kept
