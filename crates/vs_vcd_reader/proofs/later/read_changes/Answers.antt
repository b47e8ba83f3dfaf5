use Rattle.std.proofs.Common.{length, sym, ap, ◌∙◌, arith}
use Rattle.std.proofs.lemmas.Bool.{false≢true}
use Rattle.std.proofs.lemmas.List.{length-set}
use Rattle.std.proofs.lemmas.Option.{slice_get_within}
use Rattle.std.proofs.lemmas.Result.{err_from_is_err_and}
use Rattle.vs_vcd_reader.specs.Bodies.{is_bare, IsAtTime}
use Rattle.vs_vcd_reader.specs.Steps.{Place as p}
use Rattle.vs_vcd_reader.proofs.BodyLemmas.{change_bad, change_more, changes_end, changes_none, unended_by}
use Rattle.vs_vcd_reader.proofs.later.read_changes.Goals as goal

pub loop-rest-init : goal.loop-rest-init
loop-rest-init c = record {
  some = changes_none c.args.widths.now c.args.text.now c.args.values.now c.new-changes.result.items c.new-changes.ensures.items;
  sizes = c.requires.values;
}

pub returns-in_default : goal.returns-in_default
returns-in_default c = λ last.
    let cs = c.loop-rest.changes.items in
    let away : IsAtTime c.loop-rest.rest.now → ⊥ = λ at. false≢true (sym c.loop-rest-test.true ∙ c.is_at_time.ensures.1 at) in
    changes_end c.args.widths.now c.args.text.now c.loop-rest.rest.now c.args.values.now c.loop-rest.values cs c.loop-rest.from last c.body_end.result
    c.loop-rest.invariant.some c.in_default.ensures away
    (unended_by (p.Later c.args.widths.now c.loop-rest.values last c.loop-rest.from (is_bare cs)) (length c.args.widths.now) c.loop-rest.rest.now
    c.change_goes_on-goes_on.result c.body_end.result (λ line g k. k) (c.change_goes_on-goes_on.ensures last (is_bare cs) away)
    c.body_end.ensures.cut c.body_end.ensures.kind)

pub returns-in_err-change : goal.returns-in_err-change
returns-in_err-change c =
    let p = err_from_is_err_and c.from_residual.result c.from_residual.ensures.1 in
    rw (p.1, p.2)
    (λ last.
    change_bad c.args.widths.now c.args.text.now c.loop-rest.rest.now c.in-Some.line.now c.in-Some.after.now c.args.values.now c.loop-rest.values
    c.loop-rest.changes.items c.loop-rest.from last _ c.loop-rest.invariant.some c.in-Some.ensures
    (λ at. false≢true (sym c.loop-rest-test.true ∙ c.is_at_time.ensures.1 at)) c.in_err-change.ensures)

pub keep-requires : goal.keep-requires
keep-requires c =
    let below = slice_get_within c.args.widths.now c.in_ok-change.change.number (length c.in_ok-change.change.value) c.in_ok-change.ensures.1.sized in
    let sizes = c.loop-rest.invariant.sizes in
    omega (arith, below, sizes)

pub overflow_add-from : goal.overflow_add-from
overflow_add-from c =
    let below = slice_get_within c.args.widths.now c.in_ok-change.change.number (length c.in_ok-change.change.value) c.in_ok-change.ensures.1.sized in
    omega (arith, below)

pub loop-rest-preserved : goal.loop-rest-preserved
loop-rest-preserved c =
    let change = c.in_ok-change.change in
    record {
      some =
          change_more c.args.widths.now c.args.text.now c.loop-rest.rest.now c.in-Some.line.now c.in-Some.after.now c.args.values.now c.loop-rest.values
          c.keep.new.values c.loop-rest.changes.items c.push.new.self.items c.loop-rest.from change c.loop-rest.invariant.some c.in-Some.ensures.is
          c.in_ok-change.ensures c.keep.ensures c.in_ok-push.ensures.items;
      sizes = ap length c.keep.ensures ∙ length-set c.loop-rest.values change.number change.value ∙ c.loop-rest.invariant.sizes;
    }
