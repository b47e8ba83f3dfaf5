use Rattle.std.proofs.Common.{ℕ}
use Rattle.vs_rules_of_processes.specs.Classes.{IsClear}
use Rattle.vs_rules_of_processes.proofs.ListLemmas.{Before}
use Rattle.vs_rules_of_processes.proofs.classes.WriteClasses.are_clear.Given as goal

abbrev pub invariant-loop-residue : goal.invariant-loop-residue
invariant-loop-residue l = Before (λ (r : ℕ). IsClear l.self.design l.self.claims l.v r) l.residues l.residue-index
