use Rattle.std.proofs.Common.{◌≡◌, ℕ, true, List, drop, length, refl, sym, ap, subst, take, ◌++◌, ◌∙◌, arith}
use Rattle.std.specs.Prelude.{◌==◌}
use Rattle.std.specs.Vec.{vec_len}
use Rattle.std.proofs.lemmas.Bool.{false≢true}
use Rattle.std.proofs.lemmas.Result.{err_from_is_err_and}
use Rattle.vs_vcd_reader.specs.declared.dump.Moment.{Moment}
use Rattle.vs_vcd_reader.specs.Bodies.{AreLast, AreTimed}
use Rattle.vs_vcd_reader.specs.Steps.{Place as p}
use Rattle.vs_vcd_reader.specs.Stops.{IsReportedAt}
use Rattle.vs_vcd_reader.proofs.BodyLemmas.{bare_is, changes_told, later_none, later_told, time_bad, time_more, unended_by, whole_slice}
use Rattle.vs_vcd_reader.proofs.later.read_later.Goals as goal

pub loop-rest-init : goal.loop-rest-init
loop-rest-init c =
    record { some = later_none c.args.widths.now c.args.text.now c.args.values.items c.args.moments.now.items; sizes = c.requires.values }

pub returns-in_default : goal.returns-in_default
returns-in_default c =
    let ws = c.args.widths.now in
    let vs = c.loop-rest.values.items in
    let h = c.loop-rest.invariant.some in
    later_told ws c.args.text.now c.loop-rest.rest.now c.args.values.items vs c.loop-rest.last c.loop-rest.bare c.args.moments.now.items c.loop-rest.moments.items
    c.body_end.result h c.in_default.ensures
    (λ none. false≢true (sym c.loop-rest-test.true ∙ c.is_empty.ensures ∙ ap (λ (l : List ℕ). length l == 0) none))
    (unended_by (p.Later ws vs c.loop-rest.last h.from c.loop-rest.bare) (length ws) c.loop-rest.rest.now c.time_goes_on-goes_on.result c.body_end.result
    (λ line g k. k) (c.time_goes_on-goes_on.ensures ws vs h.from h.timed) c.body_end.ensures.cut c.body_end.ensures.kind)

pub returns-in_err-time : goal.returns-in_err-time
returns-in_err-time c =
    let q = err_from_is_err_and c.from_residual.result c.from_residual.ensures.1 in
    rw (q.1, q.2)
    (time_bad c.args.widths.now c.args.text.now c.loop-rest.rest.now c.in-Some.line.now c.in-Some.after.now c.args.values.items c.loop-rest.values.items
    c.loop-rest.last c.loop-rest.bare c.args.moments.now.items c.loop-rest.moments.items _ c.loop-rest.invariant.some c.in-Some.ensures c.in_err-time.ensures)

pub returns-in_err-changes : goal.returns-in_err-changes
returns-in_err-changes c =
    let q = err_from_is_err_and c.from_residual-in_err-changes.result c.from_residual-in_err-changes.ensures.1 in
    rw (q.1, q.2)
    (changes_told c.args.widths.now c.args.text.now c.loop-rest.rest.now c.in-Some.line.now c.in-Some.after.now c.args.values.items c.loop-rest.values.items
    c.loop-rest.last c.in_ok-time.time c.loop-rest.bare c.args.moments.now.items c.loop-rest.moments.items _ c.loop-rest.invariant.some c.in-Some.ensures.is
    c.in_ok-time.ensures
    (subst (λ v. IsReportedAt (p.Later c.args.widths.now v c.in_ok-time.time 0 true) c.in-Some.after.now c.in_err-changes.field-0.0) c.deref_mut.ensures.value
    (c.in_err-changes.ensures c.in_ok-time.time)))

pub loop-rest-preserved : goal.loop-rest-preserved
loop-rest-preserved c =
    let new = c.read_changes.new.values in
    let vs = c.loop-rest.values.items in
    let sizes = c.loop-rest.invariant.sizes in
    let sized = c.in_ok-changes.ensures.1 in
    let kept = c.loop-rest.values.ok.0 in
    let n : c.loop-rest.values.len ≡ length new = omega (arith, kept, sizes, sized) in
    let whole : take c.loop-rest.values.len (new ++ drop (length new) vs) ≡ new = whole_slice c.loop-rest.values.len new vs n in
    let held = c.in_ok-changes.changes.ok.0 in
    let size : vec_len c.in_ok-changes.changes ≡ length c.in_ok-changes.changes.items = omega (arith, held) in
    let m : Moment = record { time = c.in_ok-time.time; changes = c.in_ok-changes.changes } in
    record {
      some =
          subst
          (λ v. AreLast c.args.widths.now c.args.text.now c.args.values.items v c.in_ok-time.time c.is_empty-bare.result c.args.moments.now.items
          c.push.new.self.items c.in_ok-changes.next.now)
          (sym whole)
          (time_more c.args.widths.now c.args.text.now c.loop-rest.rest.now c.in-Some.line.now c.in-Some.after.now c.in_ok-changes.next.now c.args.values.items vs
          new c.loop-rest.last c.in_ok-time.time c.loop-rest.bare c.is_empty-bare.result c.args.moments.now.items c.loop-rest.moments.items c.push.new.self.items m
          c.loop-rest.invariant.some c.in-Some.ensures.is c.in_ok-time.ensures
          (subst (λ v. AreTimed c.args.widths.now c.in-Some.after.now v new c.in_ok-changes.changes.items c.in_ok-changes.next.now) c.deref_mut.ensures.value
          c.in_ok-changes.ensures.0) refl
          (c.is_empty-bare.ensures ∙ ap (λ n. n == 0) size ∙ bare_is c.in_ok-changes.changes.items) c.in_ok-push.ensures.items);
      sizes = ap length whole ∙ sized;
    }
