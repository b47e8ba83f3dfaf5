use Rattle.std.proofs.Common.{rules, ap, ◌∙◌, subst}
use Rattle.std.specs.Io.KnownBytes.{Appends}
use Rattle.vs_vcd_writing.specs.CodeTables.{code_table}
use Rattle.vs_vcd_writing.specs.Progress.{WritesPiece}
use Rattle.vs_vcd_writing.proofs.writer.Writer.header.Goals as goal

pub header_text-requires : goal.header_text-requires
header_text-requires g c = record { table = c.deref.ensures.value ∙ c.in_ok-table.ensures ∙ ap (code_table 0) c.signals.ensures }

pub returns-in_err-write_all-clause-bytes : goal.returns-in_err-write_all-clause-bytes
returns-in_err-write_all-clause-bytes g c =
    subst (WritesPiece c.from_residual-in_err-write_all.result (g.S.Sink.bytes c.args.sink.now) (g.S.Sink.bytes c.write_all.new.sink))
    (c.deref-2.ensures.value ∙ c.in_ok-text.ensures) (search rules)

pub returns-clause-written : goal.returns-clause-written
returns-clause-written g c = record {
  codes = c.in_ok-writer.ensures.codes ∙ c.in_ok-table.ensures ∙ ap (code_table 0) c.signals.ensures;
  last = c.in_ok-writer.ensures.last;
  values = tt;
}

pub returns-clause-bytes : goal.returns-clause-bytes
returns-clause-bytes g c =
    subst (Appends (g.S.Sink.bytes c.args.sink.now) (g.S.Sink.bytes c.write_all.new.sink))
    (c.deref-2.ensures.value ∙ c.in_ok-text.ensures) c.in_ok-write_all.ensures.ok

pub returns-clause-failures : goal.returns-clause-failures
returns-clause-failures g c = c.in_ok-write_all.ensures.failures
