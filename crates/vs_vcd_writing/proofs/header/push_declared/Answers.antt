use Rattle.std.proofs.Common.{◌≡◌, ◌++◌, OnOk, sym, ap, ◌∙◌, subst}
use Rattle.std.proofs.lemmas.List.{append-nil}
use Rattle.vs_vcd_writing.specs.Text.{text_of}
use Rattle.vs_vcd_writing.proofs.CodeTableLemmas.{declared_at, none_declared}
use Rattle.vs_vcd_writing.proofs.header.push_declared.Goals as goal

pub returns-in-Some : goal.returns-in-Some
returns-in-Some c =
    subst (λ ls. OnOk c.push_declaration.result (c.push_declaration.new.text.items ≡ c.args.text.now.items ++ text_of ls))
    (declared_at c.args.signals.now c.args.table.now c.args.signal c.index-signals-signal.result c.in-Some.number
    c.if-signal-signals.false c.if-signal-table.false c.index-signals-signal.is c.in-Some.is)
    c.push_declaration.ensures

pub returns-in-None : goal.returns-in-None
returns-in-None c =
    sym (append-nil c.args.text.now.items)
    ∙ ap (λ ls. c.args.text.now.items ++ text_of ls) (sym (none_declared _ c.args.table.now c.args.signal c.if-signal-table.false c.in-None.is))
