use Rattle.std.proofs.Common.{◌≡◌, ℕ, ◌-◌, ◌<◌, ◌≤◌, true, get_or, length}
use Rattle.vs_vcd_lines.specs.Names.{is_further}
use Rattle.vs_vcd_lines.proofs.beginnings_names.from_other.Given as goal

abbrev pub invariant-loop-place : goal.invariant-loop-place
invariant-loop-place l = record {
  most : l.place ≤ length l.fn.text;
  further : (j : ℕ) → j < l.place → is_further (get_or l.fn.text j 0) ≡ true;
}

abbrev pub decreases-loop-place : goal.decreases-loop-place
decreases-loop-place l = length l.fn.text - l.place
