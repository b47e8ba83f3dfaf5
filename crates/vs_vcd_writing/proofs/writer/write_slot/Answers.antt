use Rattle.std.proofs.Common.{rules, ◌++◌, ap, ap₂, ◌∙◌, subst}
use Rattle.std.specs.Io.KnownBytes.{Appends}
use Rattle.vs_vcd_writing.specs.Kept.{change_texts, slot_lines, slot_time}
use Rattle.vs_vcd_writing.specs.Progress.{WritesPiece}
use Rattle.vs_vcd_writing.specs.Text.{text_of}
use Rattle.vs_vcd_writing.proofs.writer.write_slot.Goals as goal

pub returns-in_err-write_all-clause-bytes : goal.returns-in_err-write_all-clause-bytes
returns-in_err-write_all-clause-bytes g c =
    subst (WritesPiece c.from_residual-in_err-write_all.result (g.S.Sink.bytes c.args.sink.now) (g.S.Sink.bytes c.write_all.new.sink))
    (c.deref-2.ensures.value ∙ c.in_ok-written.ensures.text
    ∙ ap₂ (λ old cs. old ++ text_of (slot_lines c.args.last c.args.time (change_texts cs))) c.clear.ensures.items (c.deref.ensures.value ∙ c.in_ok-list_changes.ensures.changes))
    (search rules)

pub returns-clause-room : goal.returns-clause-room
returns-clause-room g c = c.list_changes.ensures.room

pub returns-clause-changes : goal.returns-clause-changes
returns-clause-changes g c = c.in_ok-list_changes.ensures.changes

pub returns-clause-time : goal.returns-clause-time
returns-clause-time g c =
    c.in_ok-written.ensures.time
    ∙ ap (λ cs. slot_time c.args.last c.args.time (change_texts cs)) (c.deref.ensures.value ∙ c.in_ok-list_changes.ensures.changes)

pub returns-clause-bytes : goal.returns-clause-bytes
returns-clause-bytes g c =
    subst (Appends (g.S.Sink.bytes c.args.sink.now) (g.S.Sink.bytes c.write_all.new.sink))
    (c.deref-2.ensures.value ∙ c.in_ok-written.ensures.text
    ∙ ap₂ (λ old cs. old ++ text_of (slot_lines c.args.last c.args.time (change_texts cs))) c.clear.ensures.items (c.deref.ensures.value ∙ c.in_ok-list_changes.ensures.changes))
    c.in_ok-write_all.ensures.ok

pub returns-clause-failures : goal.returns-clause-failures
returns-clause-failures g c = c.in_ok-write_all.ensures.failures
