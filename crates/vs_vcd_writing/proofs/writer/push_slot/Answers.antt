use Rattle.std.proofs.Common.{◌++◌, sym, ap, ◌∙◌, append-nil}
use Rattle.std.proofs.lemmas.Bool.{eqb-true}
use Rattle.std.proofs.lemmas.List.{nil_from_length}
use Rattle.vs_vcd_writing.specs.Kept.{change_texts, slot_lines, slot_time}
use Rattle.vs_vcd_writing.specs.Text.{text_of}
use Rattle.vs_vcd_writing.proofs.LineLemmas.{slot_silent, slot_timed}
use Rattle.vs_vcd_writing.proofs.writer.push_slot.Goals as goal

pub returns-in_default-clause-text : goal.returns-in_default-clause-text
returns-in_default-clause-text c =
    c.in_ok-push_first.ensures ∙ ap (λ last. c.args.text.now.items ++ text_of (slot_lines last c.args.time (change_texts c.args.changes.now))) (sym c.in_default.is)

pub returns-in_default-clause-time : goal.returns-in_default-clause-time
returns-in_default-clause-time c = ap (λ last. slot_time last c.args.time (change_texts c.args.changes.now)) (sym c.in_default.is)

pub returns-then-is_empty-clause-text : goal.returns-then-is_empty-clause-text
returns-then-is_empty-clause-text c =
    let none = nil_from_length c.args.changes.now (eqb-true _ _ (sym c.is_empty.ensures ∙ c.if-is_empty.true)) in
    sym (append-nil c.args.text.now.items)
    ∙ ap (λ lines. c.args.text.now.items ++ text_of lines) (slot_silent c.args.last c.in-Some.before c.args.time c.args.changes.now c.in-Some.is none).0

pub returns-then-is_empty-clause-time : goal.returns-then-is_empty-clause-time
returns-then-is_empty-clause-time c =
    let none = nil_from_length c.args.changes.now (eqb-true _ _ (sym c.is_empty.ensures ∙ c.if-is_empty.true)) in
    (slot_silent c.args.last c.in-Some.before c.args.time c.args.changes.now c.in-Some.is none).1

pub returns-clause-text : goal.returns-clause-text
returns-clause-text c =
    c.in_ok-push_later.ensures
    ∙ ap (λ lines. c.args.text.now.items ++ text_of lines)
    (slot_timed c.args.last c.in-Some.before c.args.time c.args.changes.now c.in-Some.is (sym c.is_empty.ensures ∙ c.if-is_empty.false)).0

pub returns-clause-time : goal.returns-clause-time
returns-clause-time c =
    (slot_timed c.args.last c.in-Some.before c.args.time c.args.changes.now c.in-Some.is (sym c.is_empty.ensures ∙ c.if-is_empty.false)).1
