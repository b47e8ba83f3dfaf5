use Rattle.std.proofs.Common.{◌≡◌, ℕ}
use Rattle.vs_rules_of_processes.specs.Classes.{class_of}
use Rattle.vs_rules_of_processes.proofs.ListLemmas.{Before}
use Rattle.vs_rules_of_processes.proofs.classes.has_class.Given as goal

abbrev pub invariant-loop-residue : goal.invariant-loop-residue
invariant-loop-residue l = Before (λ (r : ℕ). class_of r ≡ l.class → ⊥) l.residues l.residue-index
