use Rattle.std.proofs.Common.{◌≡◌, ℕ, sym, ◌∙◌}
use Rattle.vs_rules_of_processes.specs.Classes.{class_of}
use Rattle.vs_rules_of_processes.proofs.ListLemmas.{found_one, none_found, one_more}
use Rattle.vs_rules_of_processes.proofs.classes.has_class.Goals as goal

pub returns-then-class_of-class : goal.returns-then-class_of-class
returns-then-class_of-class c =
    found_one (λ (r : ℕ). class_of r ≡ c.args.class) c.args.residues.now c.loop-residue.residue-index 0 c.loop-residue-test.true (sym c.class_of.ensures ∙ c.if-class_of-class.true)

pub loop-residue-preserved : goal.loop-residue-preserved
loop-residue-preserved c =
    one_more (λ (r : ℕ). class_of r ≡ c.args.class → ⊥) c.args.residues.now c.loop-residue.residue-index 0 c.loop-residue-test.true c.loop-residue.invariant
    (λ h. c.if-class_of-class.false (c.class_of.ensures ∙ h))

pub returns : goal.returns
returns c = none_found (λ (r : ℕ). class_of r ≡ c.args.class) c.args.residues.now c.loop-residue.residue-index c.loop-residue-test.false c.loop-residue.invariant
