use Rattle.std.proofs.Common.{ℕ, subst, ◌⊎◌, ◌↔◌, List}
use Rattle.std.specs.List.{Contains}
use Rattle.vs_graph.specs.Rows.{row}
use Rattle.vs_slots.proofs.Unions.{none_before, one_more, all_before}
use Rattle.vs_slots.proofs.listing.put_residues.Goals as goal

pub loop-i-init : goal.loop-i-init
loop-i-init c r = none_before (Contains c.args.out.now r) (Contains c.args.out.now r) c.args.numbers.now (λ (i : ℕ). Contains (row c.args.table.now i) r) (λ h. h, λ h. h)

pub loop-i-preserved : goal.loop-i-preserved
loop-i-preserved c r =
    one_more (Contains c.args.out.now r) (Contains c.loop-i.out r) (Contains c.put.new.self r) c.args.numbers.now
    c.loop-i.i-index (λ (i : ℕ). Contains (row c.args.table.now i) r) c.loop-i-test.true (c.loop-i.invariant r)
    (subst (λ (l : List ℕ). (Contains c.put.new.self r ↔ (Contains c.loop-i.out r ⊎ Contains l r))) c.row.ensures (c.in_ok-put.ensures r))

pub returns : goal.returns
returns c r =
    all_before (Contains c.args.out.now r) (Contains c.loop-i.out r) c.args.numbers.now c.loop-i.i-index (λ (i : ℕ). Contains (row c.args.table.now i) r)
    c.loop-i-test.false (c.loop-i.invariant r)
