use Rattle.std.proofs.Common.{◌≡◌, ℕ, refl, subst}
use Rattle.std.specs.List.{Contains}
use Rattle.vs_slots.specs.Firing.{InPhaseOf}
use Rattle.vs_slots.proofs.Unions.{one_more, all_before, alone}
use Rattle.vs_slots.proofs.firing.phased.Goals as goal

pub loop-residue-preserved : goal.loop-residue-preserved
loop-residue-preserved c r =
    one_more ⊥ (Contains c.loop-residue.all.items r) (Contains c.put_phased.new.all.items r) c.args.residues.now c.loop-residue.residue-index
    (λ (x : ℕ). (x ≡ r) × InPhaseOf c.args.clock c.args.edge c.args.modulus x) c.loop-residue-test.true (c.loop-residue.invariant r) (c.in_ok-put_phased.ensures r)

pub returns : goal.returns
returns c r =
    let phase = InPhaseOf c.args.clock c.args.edge c.args.modulus in
    let both = alone ⊥ (Contains c.loop-residue.all.items r) ((x : ℕ) × Contains c.args.residues.now x × ((x ≡ r) × phase x)) (λ h. h)
    (all_before ⊥ (Contains c.loop-residue.all.items r) c.args.residues.now c.loop-residue.residue-index (λ (x : ℕ). (x ≡ r) × phase x)
    c.loop-residue-test.false (c.loop-residue.invariant r)) in (
      λ h. let y = both.0 h in (subst (Contains c.args.residues.now) y.2.0 y.1, subst phase y.2.0 y.2.1),
      λ y. both.1 (r, y.0, (refl, y.1)),
    )
