use Rattle.std.proofs.Common.{◌≡◌, length, drop}
use Rattle.vs_vcd_writing.specs.Kept.{kept_after}
use Rattle.vs_vcd_writing.specs.Words.{kept_of}
use Rattle.vs_vcd_writing.proofs.kept.Written.keep.Given as goal

abbrev pub invariant-loop-change : goal.invariant-loop-change
invariant-loop-change l = record {
  codes : length l.self-inside.words ≡ length l.self-inside.codes.items;
  long : length l.self-inside.words ≡ length l.initial.self-inside.words;
  kept : kept_after (kept_of l.self-inside.codes.items l.self-inside.words) (drop l.change-index l.changes)
      ≡ kept_after (kept_of l.initial.self-inside.codes.items l.initial.self-inside.words) l.changes;
}
