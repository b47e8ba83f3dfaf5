use Rattle.std.proofs.Common.{false, Some, None, length, subst}
use Rattle.vs_vcd_writing.specs.Kept.{chosen_change}
use Rattle.vs_vcd_writing.specs.Marks.{IsBlock}
use Rattle.vs_vcd_writing.proofs.KeptLemmas.{none_marked, none_within, block_later, block_before, block_listed}
use Rattle.vs_vcd_writing.proofs.changes.list_marked.Goals as goal

pub returns-in_default-clause-changes : goal.returns-in_default-clause-changes
returns-in_default-clause-changes c = none_marked c.args.marks.now c.args.store.now c.loop-from.from c.args.changes.now.items _ c.args.kept.now c.in_default.ensures c.loop-from.invariant.changes

pub returns-in_default-block_range-clause-changes : goal.returns-in_default-block_range-clause-changes
returns-in_default-block_range-clause-changes c =
    none_within c.args.marks.now c.args.store.now c.loop-from.from c.in-Some.block c.args.changes.now.items _ c.args.kept.now c.in-Some.ensures
    (subst (λ n. IsBlock c.in-Some.block n None) c.len-in-loop-from.ensures c.in_default-block_range.ensures) c.loop-from.invariant.changes

pub loop-from-preserved : goal.loop-from-preserved
loop-from-preserved c =
    let by = chosen_change false c.args.marks.now c.args.store.now in
    let next = c.in-Some.ensures in
    let block = c.in-Some.block in
    let r = c.in-Some-block_range.range in
    let range : IsBlock block (length c.args.kept.now) (Some r) = subst (λ n. IsBlock block n (Some r)) c.len-in-loop-from.ensures c.in-Some-block_range.ensures in record {
      room = c.list_range.ensures.room;
      changes = block_listed by block r c.args.changes.now.items _ c.args.kept.now range
          (c.in_ok-list_range.ensures.changes c.args.changes.now.items by
          (block_later c.args.marks.now c.args.store.now c.loop-from.from block _ r next range)
          (block_before c.args.marks.now c.args.store.now c.loop-from.from block _ r c.args.changes.now.items _ c.args.kept.now next range c.loop-from.invariant.changes));
    }
