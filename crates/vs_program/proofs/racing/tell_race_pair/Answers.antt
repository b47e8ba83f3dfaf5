use Rattle.std.proofs.Common.{ℕ, List, inr, refl, subst, sym}
use Rattle.std.proofs.lemmas.Result.{err_from_is_err_and}
use Rattle.std.specs.Io.KnownBytes.{Appends}
use Rattle.vs_sign_off.specs.vs_vcd_writing.specs.Sinks.{AppendsPart}
use Rattle.vs_run_steps.proofs.Appending.{append_none}
use Rattle.vs_sign_off.specs.vs_simulate.specs.Honesty.{SimulationFails, is_refusal}
use Rattle.vs_sign_off.specs.Races.{IsAnswerBy}
use Rattle.vs_program.specs.Races.{WroteDumps}
use Rattle.vs_program.proofs.Fails.{if_err}
use Rattle.vs_program.proofs.RacingLemmas.{defined_of, not_late}
use Rattle.vs_program.proofs.racing.tell_race_pair.Goals as goal

pub returns-in_err-found-clause-begun : goal.returns-in_err-found-clause-begun
returns-in_err-found-clause-begun g c =
    let p = err_from_is_err_and c.from_residual.result c.from_residual.ensures.1 in
    rw (p.1, p.2) (not_late (is_refusal c.in_err-found.field-0.0) c.in_err-found.ensures.early)

pub returns-in_err-write_pair-clause-begun : goal.returns-in_err-write_pair-clause-begun
returns-in_err-write_pair-clause-begun g c = if_err c.from_residual-in_err-write_pair.result _ (λ e running. record {
  race = c.in_ok-found.found;
  answered = subst (λ (t : List ℕ). IsAnswerBy c.args.hunt.rules c.args.source.now t c.in_ok-found.found) c.as_bytes-top.ensures.value c.in_ok-found.ensures.answered;
  text = c.in_ok-text.text.items;
  told = c.in_ok-text.ensures;
  begun = (0, append_none _);
})

pub returns-in_err-show-clause-err : goal.returns-in_err-show-clause-err
returns-in_err-show-clause-err g c =
    let p = err_from_is_err_and c.from_residual-in_err-show.result c.from_residual-in_err-show.ensures.1 in
    let answered = subst (λ (t : List ℕ). IsAnswerBy c.args.hunt.rules c.args.source.now t c.in_ok-found.found) c.as_bytes-top.ensures.value c.in_ok-found.ensures.answered in
    rw (p.1, p.2)
    (subst (SimulationFails c.args.source.now c.args.hunt.top.now) (sym c.in_err-show.ensures.err.0)
    (defined_of c.args.hunt.rules c.args.source.now c.args.hunt.top.now c.in_ok-found.found answered, inr refl))

pub returns-clause-ok : goal.returns-clause-ok
returns-clause-ok g c = record {
  answered = subst (λ (t : List ℕ). IsAnswerBy c.args.hunt.rules c.args.source.now t c.in_ok-found.found) c.as_bytes-top.ensures.value c.in_ok-found.ensures.answered;
  text = c.in_ok-text.text.items;
  told = c.in_ok-text.ensures;
  written = subst (λ (l : List ℕ). Appends (g.S.Sink.bytes c.args.shown.now) (g.S.Sink.bytes c.show.new.shown) l) c.deref.ensures.value c.in_ok-show.ensures.ok;
}

pub returns-clause-dumps : goal.returns-clause-dumps
returns-clause-dumps g c =
    subst
    (λ (t : List ℕ). WroteDumps c.args.source.now t c.in_ok-found.found c.args.hunt.steps.count (g.V.Sink.bytes c.args.first.now)
    (g.V.Sink.bytes c.write_pair.new.first) (g.V.Sink.bytes c.args.other.now) (g.V.Sink.bytes c.write_pair.new.other)) c.as_bytes-top.ensures.value
    c.in_ok-write_pair.ensures.dumps

pub returns-in_err-show-clause-begun : goal.returns-in_err-show-clause-begun
returns-in_err-show-clause-begun g c = if_err c.from_residual-in_err-show.result _ (λ e running. record {
  race = c.in_ok-found.found;
  answered = subst (λ (t : List ℕ). IsAnswerBy c.args.hunt.rules c.args.source.now t c.in_ok-found.found) c.as_bytes-top.ensures.value c.in_ok-found.ensures.answered;
  text = c.in_ok-text.text.items;
  told = c.in_ok-text.ensures;
  begun = subst (λ (l : List ℕ). AppendsPart (g.S.Sink.bytes c.args.shown.now) (g.S.Sink.bytes c.show.new.shown) l) c.deref.ensures.value
      c.in_err-show.ensures.err.1;
})
