use Rattle.std.proofs.Common.{ℕ, List, get_or, refl, sym, subst, arith}
use Rattle.std.specs.List.{Contains}
use Rattle.vs_graph.proofs.Sets.{shared, further, apart}
use Rattle.vs_graph.proofs.residues.are_apart.Goals as goal

pub returns-then-has : goal.returns-then-has
returns-then-has c =
    shared c.args.a.now c.args.b.now c.loop-residue.residue-index c.loop-residue-test.true
    (subst (λ (l : List ℕ). Contains l (get_or c.args.a.now c.loop-residue.residue-index 0)) c.of-others.ensures (c.if-has.ensures.0 refl))

pub loop-residue-preserved : goal.loop-residue-preserved
loop-residue-preserved c =
    further c.args.a.now c.args.b.now c.loop-residue.residue-index c.loop-residue.invariant
    (λ h. absurd (grind (
      arith,
      c.if-has.ensures.1
          (subst (λ (l : List ℕ). Contains l (get_or c.args.a.now c.loop-residue.residue-index 0)) (sym c.of-others.ensures) h),
    )))

pub returns : goal.returns
returns c = apart c.args.a.now c.args.b.now c.loop-residue.residue-index c.loop-residue-test.false c.loop-residue.invariant
