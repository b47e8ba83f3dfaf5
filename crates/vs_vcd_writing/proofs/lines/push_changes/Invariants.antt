use Rattle.std.proofs.Common.{◌≡◌, ◌++◌, take}
use Rattle.vs_vcd_writing.specs.Text.{text_of}
use Rattle.vs_vcd_writing.specs.Kept.{change_texts}
use Rattle.vs_vcd_writing.proofs.lines.push_changes.Given as goal

abbrev pub invariant-loop-change : goal.invariant-loop-change
invariant-loop-change l = l.text.items ≡ l.initial.text.items ++ text_of (change_texts (take l.change-index l.changes))
