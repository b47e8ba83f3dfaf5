use Rattle.std.proofs.lemmas.Result.{err_from_is_err_and}
use Rattle.vs_vcd_reader.proofs.BodyLemmas.{after_first, after_values, after_zero, end_told, first_made, first_net, zero_told}
use Rattle.vs_vcd_reader.proofs.first.read_first.Goals as goal

pub returns-in_err-after_time : goal.returns-in_err-after_time
returns-in_err-after_time c =
    let p = err_from_is_err_and c.from_residual.result c.from_residual.ensures.1 in
    rw (p.1, p.2) (zero_told c.args.widths.now c.args.text.now _ c.in_err-after_time.ensures)

pub returns-in_err-after_word : goal.returns-in_err-after_word
returns-in_err-after_word c =
    let p = err_from_is_err_and c.from_residual-in_err-after_word.result c.from_residual-in_err-after_word.ensures.1 in
    rw (p.1, p.2)
    (after_zero c.args.widths.now c.args.text.now c.in_ok-after_time.after_time.now _ c.in_ok-after_time.ensures
    (first_net c.args.widths.now c.in_ok-after_time.after_time.now _ c.in_err-after_word.ensures))

pub returns-in_err-changes : goal.returns-in_err-changes
returns-in_err-changes c =
    let p = err_from_is_err_and c.from_residual-in_err-changes.result c.from_residual-in_err-changes.ensures.1 in
    rw (p.1, p.2)
    (after_zero c.args.widths.now c.args.text.now c.in_ok-after_time.after_time.now _ c.in_ok-after_time.ensures
    (after_first c.args.widths.now c.in_ok-after_time.after_time.now c.in_ok-after_word.after_word.now _ c.in_ok-after_word.ensures c.in_err-changes.ensures))

pub returns-in_err-rest : goal.returns-in_err-rest
returns-in_err-rest c =
    let p = err_from_is_err_and c.from_residual-in_err-rest.result c.from_residual-in_err-rest.ensures.1 in
    let ws = c.args.widths.now in
    rw (p.1, p.2)
    (after_zero ws c.args.text.now c.in_ok-after_time.after_time.now _ c.in_ok-after_time.ensures
    (after_first ws c.in_ok-after_time.after_time.now c.in_ok-after_word.after_word.now _ c.in_ok-after_word.ensures
    (after_values ws c.in_ok-after_word.after_word.now c.in_ok-changes.after_values.now c.in_ok-changes.changes.items _ c.in_ok-changes.ensures.0
    (end_told ws c.in_ok-changes.after_values.now c.in_ok-changes.changes.items _ c.in_ok-changes.ensures.1 c.in_err-rest.ensures))))

pub returns : goal.returns
returns c =
    first_made c.args.widths.now c.args.text.now c.in_ok-after_time.after_time.now c.in_ok-after_word.after_word.now c.in_ok-changes.after_values.now
    c.in_ok-rest.rest.now c.in_ok-changes.changes.items c.in_ok-after_time.ensures c.in_ok-after_word.ensures c.in_ok-changes.ensures.0 c.in_ok-changes.ensures.1
    c.in_ok-rest.ensures
