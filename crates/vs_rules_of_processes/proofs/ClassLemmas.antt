-- Signals that hang on variables which are written in a class of residues.
use Rattle.std.proofs.Common.{◌≡◌, ℕ, ◌+◌, ◌<◌, ◌↔◌, Bool, true, false, IsTrue, List, length, slice_index_or, refl, sym, ◌∙◌, subst, arith}
use Rattle.std.specs.Prelude.{not}
use Rattle.std.specs.List.{Contains}
use Rattle.std.proofs.lemmas.Bool.{false≢true}
use Rattle.std.proofs.lemmas.Option.{slice_get_within}
use Rattle.vs_design.specs.declared.range.BitRange.{BitRange}
use Rattle.vs_design.specs.Parts.{Parts}
use Rattle.vs_graph.specs.Reached.{AreReached}
use Rattle.vs_rules.specs.Claims.{Claims}
use Rattle.vs_rules.specs.Drivers.{InCone}
use Rattle.vs_rules.specs.Drivers as r
use Rattle.vs_rules_of_processes.specs.Classes.{AreReachedFrom, IsClear, IsWrittenIn, class_of}
use Rattle.vs_rules_of_processes.specs.Forward.{AreForward, forward}
use Rattle.vs_rules_of_processes.proofs.ForwardLemmas.{leads_on}

-- what is in a cone is a variable of the design
source_within : (d : Parts) (c : Claims) (u : ℕ) (p : BitRange) → InCone d c u p → u < length d.signals
source_within d c u _ (r.InCone.here p source e t) = slice_get_within d.signals u source.variable.0 source.variable.1
source_within d c u _ (r.InCone.through p w q k is writes meets needs cone) = source_within d c u q cone

-- the marks of what is reached from all that are written in a class
pub marked : (d : Parts) (c : Claims) (k : ℕ) (users outs : List (List ℕ)) (n : ℕ) (seeds : List ℕ) (marks : List Bool) → AreForward d c users outs → n ≡ length users →
    ((v : ℕ) → (Contains seeds v ↔ ((i : ℕ) × (i < n) × (IsWrittenIn d c k i × (i ≡ v))))) →
    AreReached (forward users outs) seeds (length users + length outs) marks → AreReachedFrom d c k marks
marked d c k users outs n seeds marks are long listed reached u p written cone =
    let within = source_within d c u p cone in
    let seed = (listed u).1 (u, omega (arith, within, long, are.users_long), (written, refl)) in
    let there = leads_on d c users outs are seeds u p seed cone in
    (reached p.signal (omega (arith, there.0, are.users_long))).1 there.1

pub off_by : (b : Bool) → IsTrue (not b) → b ≡ false
off_by true h = absurd (false≢true h)
off_by false h = refl

-- a signal that isn't marked in a class has no variable in its cones that is written there
pub clear : (d : Parts) (c : Claims) (v k residue : ℕ) (marks : List Bool) → class_of residue ≡ k → AreReachedFrom d c k marks → slice_index_or marks v false ≡ false → IsClear d c v residue
clear d c v k residue marks class from off u p of cone slot =
    false≢true (sym off ∙ subst (λ (n : ℕ). IsTrue (slice_index_or marks n false)) of (from u p (record { residue = residue; slot = slot; class = class }) cone))
