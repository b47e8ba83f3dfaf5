use Rattle.std.proofs.Common.{◌≡◌, ℕ, ◌*◌, ◌<◌, ◌≤◌, false}
use Rattle.vs_vcd_writing.specs.Marks.{is_block_marked}
use Rattle.vs_vcd_writing.proofs.marks.first_mark.Given as goal

abbrev pub invariant-loop-word : goal.invariant-loop-word
invariant-loop-word l = (b : ℕ) → 64 * l.from ≤ b → b < 64 * l.word → is_block_marked l.marks b ≡ false
