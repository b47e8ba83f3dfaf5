use Rattle.std.proofs.Common.{ℕ, refl}
use Rattle.std.specs.List.{Contains}
use Rattle.vs_rules.specs.Slots.{HasWriteSlot}
use Rattle.vs_rules_of_processes.proofs.PairLemmas.{all_in, one_more, one_out}
use Rattle.vs_rules_of_processes.proofs.readings.Reader.none_written.Goals as goal

pub returns-then-not-are_apart : goal.returns-then-not-are_apart
returns-then-not-are_apart c =
    let f = c.args.self.now.slots.now in
    one_out (λ (root : ℕ). (r : ℕ) → HasWriteSlot f.design f.claims root r → Contains c.args.residues.now r → ⊥) c.args.roots.now c.loop-root.root-index 0 c.loop-root-test.true
    (λ h. c.if-not-are_apart.ensures.1 (λ r x y. h r ((c.write_slots.ensures r).0 x) y))

pub loop-root-preserved : goal.loop-root-preserved
loop-root-preserved c =
    let f = c.args.self.now.slots.now in
    one_more (λ (root : ℕ). (r : ℕ) → HasWriteSlot f.design f.claims root r → Contains c.args.residues.now r → ⊥) c.args.roots.now c.loop-root.root-index 0 c.loop-root-test.true
    c.loop-root.invariant (λ r x y. c.if-not-are_apart.ensures.0 refl r ((c.write_slots.ensures r).1 x) y)

pub returns : goal.returns
returns c =
    let f = c.args.self.now.slots.now in
    all_in (λ (root : ℕ). (r : ℕ) → HasWriteSlot f.design f.claims root r → Contains c.args.residues.now r → ⊥) c.args.roots.now c.loop-root.root-index c.loop-root-test.false c.loop-root.invariant
