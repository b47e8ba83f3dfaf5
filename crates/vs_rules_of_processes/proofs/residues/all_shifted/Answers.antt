use Rattle.std.proofs.Common.{ℕ, List, ◌+◌, ◌%◌, refl, subst, sym}
use Rattle.std.specs.List.{Contains}
use Rattle.vs_design.specs.vs_logic4.proofs.Basics.{all_do, one_not}
use Rattle.vs_rules_of_processes.proofs.Shifts.{further}
use Rattle.vs_rules_of_processes.proofs.residues.all_shifted.Goals as goal

pub returns-then-not-has_residue : goal.returns-then-not-has_residue
returns-then-not-has_residue c = one_not (λ r. Contains c.args.list.now ((r + c.args.ticks) % c.args.modulus)) c.args.from.now c.loop-r.r-index c.loop-r-test.true
    (λ h. c.if-not-has_residue.ensures.1 (subst (λ (l : List ℕ). Contains l c.shifted.result) (sym c.of-all.ensures) (subst (Contains c.args.list.now) (sym c.shifted.ensures) h)))

pub loop-r-preserved : goal.loop-r-preserved
loop-r-preserved c = further (λ r. Contains c.args.list.now ((r + c.args.ticks) % c.args.modulus)) c.args.from.now c.loop-r.r-index c.loop-r.invariant
    (subst (Contains c.args.list.now) c.shifted.ensures (subst (λ (l : List ℕ). Contains l c.shifted.result) c.of-all.ensures (c.if-not-has_residue.ensures.0 refl)))

pub returns : goal.returns
returns c = all_do (λ r. Contains c.args.list.now ((r + c.args.ticks) % c.args.modulus)) c.args.from.now c.loop-r.r-index c.loop-r-test.false c.loop-r.invariant
