use Rattle.std.proofs.Common.{◌≡◌, ◌<◌, length, ◌∙◌, arith}
use Rattle.std.proofs.lemmas.Result.{err_from_is_err_and}
use Rattle.std.proofs.lemmas.List.{length-map}
use Rattle.vs_vcd_lines.specs.declared.dump.ValueChange.{ValueChange}
use Rattle.vs_vcd_reader.specs.Layout.{values_of}
use Rattle.vs_vcd_reader.specs.Steps.{Place as p}
use Rattle.vs_vcd_reader.proofs.BodyLemmas.{unended_by, value_bad, value_more, values_end, values_none}
use Rattle.vs_vcd_reader.proofs.NoneLemmas.{value_at}
use Rattle.vs_vcd_reader.proofs.first.read_values.Goals as goal

pub loop-rest-init : goal.loop-rest-init
loop-rest-init c = values_none c.args.widths.now c.args.text.now c.new-changes.result.items c.new-changes.ensures.items

pub returns-in_default : goal.returns-in_default
returns-in_default c =
    let ws = c.args.widths.now in
    let cs = c.loop-rest.changes.items in
    let vs = values_of cs in
    let size = length-map cs (λ (x : ValueChange). x.value) in
    values_end ws c.args.text.now c.loop-rest.rest.now cs c.body_end.result c.loop-rest.invariant c.in_default.ensures
    (unended_by (p.Values ws vs) (length ws) c.loop-rest.rest.now c.value_goes_on-goes_on.result c.body_end.result (λ line g k. k)
    (c.value_goes_on-goes_on.ensures vs (omega (arith, size))) c.body_end.ensures.cut c.body_end.ensures.kind)

pub value_goes_on-goes_on-requires-clause-within : goal.value_goes_on-goes_on-requires-clause-within
value_goes_on-goes_on-requires-clause-within c = omega (arith, c.loop-rest-test.true)

pub returns-in_err-change : goal.returns-in_err-change
returns-in_err-change c =
    let p = err_from_is_err_and c.from_residual.result c.from_residual.ensures.1 in
    let cs = c.loop-rest.changes.items in
    let less : length cs < length c.args.widths.now = omega (arith, c.loop-rest-test.true) in
    let number : c.len-in-loop-rest.result ≡ length cs = omega arith in
    rw (p.1, p.2)
    (value_bad c.args.widths.now c.args.text.now c.loop-rest.rest.now c.in-Some.line.now c.in-Some.after.now cs _ c.loop-rest.invariant c.in-Some.ensures less
    (value_at c.args.widths.now c.in-Some.line.now _ c.len-in-loop-rest.result (length cs) number c.in_err-change.ensures))

pub loop-rest-preserved : goal.loop-rest-preserved
loop-rest-preserved c =
    let cs = c.loop-rest.changes.items in
    let number : c.len-in-loop-rest.result ≡ length cs = omega arith in
    value_more c.args.widths.now c.args.text.now c.loop-rest.rest.now c.in-Some.line.now c.in-Some.after.now cs c.push.new.self.items c.in_ok-change.change
    c.loop-rest.invariant c.in-Some.ensures.is (c.in_ok-change.ensures.0 ∙ number, c.in_ok-change.ensures.1, c.in_ok-change.ensures.2) c.in_ok-push.ensures.items
