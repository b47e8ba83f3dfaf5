use Rattle.std.proofs.Common.{◌∙◌, ℕ, List, subst}
use Rattle.vs_sign_off.specs.vs_vcd_writing.specs.Sinks.{AppendsPart}
use Rattle.vs_program.proofs.Fails.{if_err}
use Rattle.vs_program.proofs.doing.tell_proposal.Goals as goal

pub returns-in_err-show-clause-begun : goal.returns-in_err-show-clause-begun
returns-in_err-show-clause-begun g c = if_err c.from_residual-in_err-show.result _ (λ e running. record {
  proposal = c.in_ok-found.found.proposal;
  proposed = c.in_ok-found.ensures.ok.proposed;
  begun = subst (λ (l : List ℕ). AppendsPart (g.S.Sink.bytes c.args.shown.now) (g.S.Sink.bytes c.show.new.shown) l) (c.deref.ensures.value ∙ c.in_ok-found.ensures.ok.line)
      c.in_err-show.ensures.err.1;
})
