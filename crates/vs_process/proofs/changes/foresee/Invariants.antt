use Rattle.std.proofs.Common.{◌≡◌, ◌≤◌, ◌+◌, ◌-◌, ◌++◌, drop, length, vec_len, vec_capacity}
use Rattle.vs_design.specs.Stores.{put}
use Rattle.vs_process.specs.Changes.{changed_words}
use Rattle.vs_process.proofs.changes.foresee.Given as goal

abbrev pub invariant-loop-part : goal.invariant-loop-part
invariant-loop-part l = record {
  noted : l.changes.items ++ changed_words l.store (put l.store l.write) (drop l.part-index l.parts)
      ≡ l.fn.changes.items ++ changed_words l.store (put l.store l.write) l.write;
  room : vec_len l.changes + (length l.parts - l.part-index) ≤ vec_capacity l.changes;
}
