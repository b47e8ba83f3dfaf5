use Rattle.vs_scopes.specs.vs_widths.specs.Constants.{constant_finding}
use Rattle.vs_widths.specs.Names.{meaning_of}
use Rattle.vs_widths.specs.Expressions.{meant}
use Rattle.std.proofs.Common.{ap}
use Rattle.vs_scopes.specs.scopes_passes.Parts.{read_parameter, read_end}
use Rattle.vs_elab_constants.proofs.ValueLemmas.{refuses_own, refuses_outer}
use Rattle.vs_elab_constants.proofs.evaluating.constant_given.Goals as goal

pub returns-in-Err-clause-fault : goal.returns-in-Err-clause-fault
returns-in-Err-clause-fault c =
    let p = read_parameter c.args.given.now.parameter in
    refuses_own (meaning_of c.args.around.now) (meaning_of c.args.known.now) p (read_end c.args.given.now.over) c.own.result (ap read_end c.in-None.is) (c.own.ensures (constant_finding (meant (meaning_of c.args.known.now) p.value)) c.in-Err.ensures.fault)

pub returns-in-Err-valued-clause-fault : goal.returns-in-Err-valued-clause-fault
returns-in-Err-valued-clause-fault c =
    let p = read_parameter c.args.given.now.parameter in
    refuses_outer (meaning_of c.args.around.now) (meaning_of c.args.known.now) p (read_end c.args.given.now.over) c.in-Some.e.now c.outer.result (ap read_end c.in-Some.is) (c.outer.ensures (constant_finding (meant (meaning_of c.args.around.now) c.in-Some.e.now)) c.in-Err-valued.ensures.fault)
