use Rattle.std.proofs.Common.{refl, ap, ◌∙◌, ◌++◌, length}
use Rattle.std.proofs.lemmas.Result.{err_from_is_err_and}
use Rattle.std.proofs.lemmas.Slice.Zip.{AllZip-long}
use Rattle.vs_widths.specs.Names.{meaning_of}
use Rattle.vs_elab_statements.specs.Statements.{IsArgument}
use Rattle.vs_elab_statements.proofs.CallLemmas.{values_refused, format_refused, call_made}
use Rattle.vs_elab_statements.proofs.calls.call_of.Goals as goal

pub returns-in_err-args : goal.returns-in_err-args
returns-in_err-args c envs p v =
    let q = err_from_is_err_and c.from_residual.result c.from_residual.ensures.1 in
    rw (q.1, q.2) (values_refused (envs p) p c.args.kind c.args.text.now c.args.all.now c.in_err-args.field-0.0 (rw v.names at c.in_err-args.ensures))

pub returns-in_err-check_format : goal.returns-in_err-check_format
returns-in_err-check_format c envs p v =
    let q = err_from_is_err_and c.from_residual-in_err-check_format.result c.from_residual-in_err-check_format.ensures.1 in
    let args = c.in_ok-args.args.items in
    let many = AllZip-long (IsArgument (meaning_of c.args.view.now.names.now)) c.args.all.now args c.in_ok-args.ensures.1 in
    rw (q.1, q.2) (format_refused (envs p) p c.args.kind c.args.text.now c.args.all.now (length args) c.in_err-check_format.field-0.0 many (rw c.deref.ensures.value at c.in_err-check_format.ensures))

pub returns : goal.returns
returns c envs p v =
    call_made (envs p) p c.args.kind c.args.text.now c.args.all.now _ c.in_ok-args.args.items (rw v.names at c.in_ok-args.ensures) (rw c.deref.ensures.value at c.in_ok-check_format.ensures) refl
    (c.in_ok-extend_from_slice.ensures.items ∙ ap (λ z. z ++ c.args.text.now) c.new-bytes.ensures.items) refl (c.in_ok-path.ensures envs p v) v.ratio
