use Rattle.std.proofs.Common.{◌≡◌, ◌++◌, OnOk, subst}
use Rattle.vs_vcd_writing.specs.Text.{text_of}
use Rattle.vs_vcd_writing.proofs.CodeTableLemmas.{entry_declared}
use Rattle.vs_vcd_writing.proofs.header.push_entry.Goals as goal

pub returns-in-Declare : goal.returns-in-Declare
returns-in-Declare c =
    subst (λ ls. OnOk c.push_declared.result (c.push_declared.new.text.items ≡ c.args.text.now.items ++ text_of ls))
    (entry_declared c.args.design.now _ c.args.table.now _ c.args.entry.now c.signals.ensures c.requires.table c.in-Declare.is) c.push_declared.ensures
