use Rattle.std.proofs.Common.{Some, sym, ap, ◌∙◌, List, ℕ, map, subst}
use Rattle.std.proofs.lemmas.Option.{IfSome_then}
use Rattle.std.proofs.lemmas.Result.{IfOk-weaker}
use Rattle.vs_vcd_reader.specs.Values.{values_at}
use Rattle.vs_vcd_reader.specs.declared.dump.Moment.{Moment}
use Rattle.vs_vcd_reader.specs.Layout.{IsDump}
use Rattle.vs_vcd_reader.specs.Plain.{plain_moment}
use Rattle.vs_sign_off.proofs.GiveLemmas.{gives}
use Rattle.vs_sign_off.proofs.shown.shown_under.Goals as goal

pub returns : goal.returns
returns g c =
    IfOk-weaker c.values_at.result _ _
    (λ o h. IfSome_then o h
    (λ values is.
    gives c.args.design.now c.args.time c.args.steps c.in-Ok.outcome c.into_inner-text.result.items c.in-Ok-read.dump values.items _ _ _ _
    c.run_dumps_are_read.ensures c.dumps_show_slot_ends.ensures c.complete_runs_end_slots.ensures c.requires.outlined c.requires.names c.requires.time
    c.in-Ok.ensures.ran (c.new-vcd.ensures.bytes ∙ ap Some c.new-room.ensures.items) (sym c.into_inner-text.ensures)
    (sym c.is_whole.ensures ∙ c.if-not-is_whole.false)
    (subst (λ (t : List ℕ). IsDump t c.in-Ok-read.dump) c.as_slice.ensures.value c.in-Ok-read.ensures.dump)
    (is ∙ ap (λ (l : List Moment). values_at c.args.time (map plain_moment l)) c.deref.ensures.value)))
    c.values_at.ensures
