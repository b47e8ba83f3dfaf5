use Rattle.std.proofs.Common.{ℕ, refl}
use Rattle.std.proofs.lemmas.Bool.{false≢true}
use Rattle.vs_rules_of_processes.specs.Classes.{IsClear}
use Rattle.vs_rules_of_processes.proofs.ListLemmas.{all_in, one_more}
use Rattle.vs_rules_of_processes.proofs.classes.WriteClasses.are_clear.Goals as goal

pub returns-then-not-is_clear : goal.returns-then-not-is_clear
returns-then-not-is_clear c = λ t. absurd (false≢true t)

pub loop-residue-preserved : goal.loop-residue-preserved
loop-residue-preserved c =
    one_more (λ (r : ℕ). IsClear c.args.self.now.design c.args.self.now.claims c.args.v r) c.args.residues.now c.loop-residue.residue-index 0 c.loop-residue-test.true c.loop-residue.invariant
    (c.if-not-is_clear.ensures refl)

pub returns : goal.returns
returns c = λ t. all_in (λ (r : ℕ). IsClear c.args.self.now.design c.args.self.now.claims c.args.v r) c.args.residues.now c.loop-residue.residue-index c.loop-residue-test.false c.loop-residue.invariant
