use Rattle.std.proofs.Common.{◌∙◌, sym, ap, refl}
use Rattle.std.proofs.lemmas.Option.{slice_get_past, slice_get_read}
use Rattle.vs_design.specs.Tables.{ends_with, ending_with}
use Rattle.vs_design.proofs.Tables.{rows-changed, rows-past, ending-stays, ending-pushed}
use Rattle.vs_design.proofs.listeners.note.Goals as goal

pub returns-in_ok-push : goal.returns-in_ok-push
returns-in_ok-push c =
    rows-changed (ending_with c.args.process) c.args.signal c.args.table.now.items c.in-Some.row.now c.push.new.self
    (slice_get_read _ _ _ _ refl c.in-Some.ensures.item.3.0 c.in-Some.ensures.item.1)
    (c.in_ok-push.ensures.items
    ∙ sym (ending-pushed c.args.process c.in-Some.row.now.items (ap (ends_with c.args.process) (sym c.deref.ensures.value) ∙ sym c.ends_with.ensures ∙ c.if-not-ends_with.true)))

pub returns-else-not-ends_with : goal.returns-else-not-ends_with
returns-else-not-ends_with c =
    rows-changed (ending_with c.args.process) c.args.signal c.args.table.now.items c.in-Some.row.now c.in-Some.row.now
    (slice_get_read _ _ _ _ refl c.in-Some.ensures.item.3.0 c.in-Some.ensures.item.1)
    (sym (ending-stays c.args.process c.in-Some.row.now.items (ap (ends_with c.args.process) (sym c.deref.ensures.value) ∙ sym c.ends_with.ensures ∙ c.if-not-ends_with.false)))

pub returns-in_default : goal.returns-in_default
returns-in_default c =
    rows-past (ending_with c.args.process) c.args.signal c.args.table.now.items (slice_get_past _ _ c.in_default.ensures.item.3)
