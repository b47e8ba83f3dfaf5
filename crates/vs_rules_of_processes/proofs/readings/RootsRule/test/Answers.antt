use Rattle.std.proofs.Common.{◌≡◌, ℕ, Some, slice_get, arith}
use Rattle.vs_design.specs.declared.statement.EventTerm.{EventTerm}
use Rattle.std.proofs.lemmas.Option.{slice_get_within}
use Rattle.vs_rules_of_processes.specs.ReadingPlaces.{IsTermApart}
use Rattle.vs_rules_of_processes.proofs.PairLemmas.{here_only, none_past}
use Rattle.vs_rules_of_processes.proofs.readings.RootsRule.test.Goals as goal

pub returns-then-i-self : goal.returns-then-i-self
returns-then-i-self c =
    let s = c.args.self.now in
    none_past (λ (root : ℕ). (k : ℕ) (x : EventTerm) → slice_get s.terms.now k ≡ Some x → IsTermApart s.slots.now.design s.slots.now.claims root x) s.roots.now c.args.i
    (omega (arith, c.if-i-self.true))

pub returns : goal.returns
returns c =
    let s = c.args.self.now in
    let d = s.slots.now.design in
    let e = c.in_ok-all.ensures in
    here_only (λ (root : ℕ). (k : ℕ) (x : EventTerm) → slice_get s.terms.now k ≡ Some x → IsTermApart d s.slots.now.claims root x) s.roots.now c.args.i 0 c.in_ok-all.all
    (omega (arith, c.if-i-self.false)) (λ t k x is. e.0 t k (slice_get_within s.terms.now k x is) x is, λ h. e.1 (λ k l x is. h k x is))
