use Rattle.std.proofs.Common.{ℕ, refl, sym, subst}
use Rattle.std.specs.List.{Contains}
use Rattle.vs_process.specs.Ways.{Pause}
use Rattle.vs_maps.specs.Reaches.{pause_at}
use Rattle.vs_slots.specs.Controls.{list_by}
use Rattle.vs_slots.specs.Runs.{DelayEndsBy}
use Rattle.vs_rules_of_processes.proofs.PairLemmas.{all_in, one_more, one_out}
use Rattle.vs_rules_of_processes.proofs.arrivals.are_all_apart.Goals as goal

pub returns-then-not-are_apart : goal.returns-then-not-are_apart
returns-then-not-are_apart c =
    let list = list_by c.args.lists.now in
    one_out (λ (q : ℕ). (r : ℕ) → DelayEndsBy list (pause_at c.args.tables.now q) r → Contains c.args.residues.now r → ⊥) c.args.controls.now c.loop-control.control-index 0 c.loop-control-test.true
    (λ h. c.if-not-are_apart.ensures.1 (λ r x y. h r (subst (λ (z : Pause). DelayEndsBy list z r) c.pause.ensures ((c.pause_ends.ensures r).0 x)) y))

pub loop-control-preserved : goal.loop-control-preserved
loop-control-preserved c =
    let list = list_by c.args.lists.now in
    one_more (λ (q : ℕ). (r : ℕ) → DelayEndsBy list (pause_at c.args.tables.now q) r → Contains c.args.residues.now r → ⊥) c.args.controls.now c.loop-control.control-index 0 c.loop-control-test.true
    c.loop-control.invariant
    (λ r x y. c.if-not-are_apart.ensures.0 refl r ((c.pause_ends.ensures r).1 (subst (λ (z : Pause). DelayEndsBy list z r) (sym c.pause.ensures) x)) y)

pub returns : goal.returns
returns c =
    all_in (λ (q : ℕ). (r : ℕ) → DelayEndsBy (list_by c.args.lists.now) (pause_at c.args.tables.now q) r → Contains c.args.residues.now r → ⊥) c.args.controls.now c.loop-control.control-index
    c.loop-control-test.false c.loop-control.invariant
