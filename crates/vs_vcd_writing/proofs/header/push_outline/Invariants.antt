use Rattle.std.proofs.Common.{◌≡◌, ◌++◌, take}
use Rattle.vs_vcd_writing.specs.Text.{text_of, outline_lines}
use Rattle.vs_vcd_writing.proofs.header.push_outline.Given as goal

abbrev pub invariant-loop-entry : goal.invariant-loop-entry
invariant-loop-entry l = l.text.items ≡ l.initial.text.items ++ text_of (outline_lines l.design (take l.entry-index l.design.outline))
