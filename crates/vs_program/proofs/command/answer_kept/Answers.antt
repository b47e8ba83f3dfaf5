use Rattle.std.proofs.Common.{ap, refl}
use Rattle.vs_program.proofs.Ends.{ends_in_file, ends_making, ends_on_out, keeps_same, other_call}
use Rattle.vs_program.proofs.command.answer_kept.Goals as goal

pub returns-in-None : goal.returns-in-None
returns-in-None g c =
    let call = c.args.call.now in
    ends_on_out c.args.kept.now.certificate.items c.args.kept.now.source.items call.outputs call.subcommand _ _ c.answer_shown.result.0 c.in-None.is
    c.answer_shown.ensures.ends (keeps_same _ _ (ap g.F.OutputFile.bytes c.answer_shown.ensures.kept))

pub returns-in-Certify : goal.returns-in-Certify
returns-in-Certify g c =
    let call = c.args.call.now in
    ends_making c.in-Certify.rules c.args.kept.now.certificate.items c.args.kept.now.source.items _ call.outputs call.subcommand c.in-Certify.top c.in-Certify.grain c.in-Some.name _ _ _
    c.in-Some.is c.in-Certify.is refl c.certify_in_file.ensures

pub returns : goal.returns
returns g c =
    let call = c.args.call.now in
    ends_in_file c.args.kept.now.certificate.items c.args.kept.now.source.items call.outputs call.subcommand c.in-Some.name _ _ _ c.in-Some.is
    (other_call call.subcommand c.in_default.not-Certify) c.answer_in_file.ensures.ends (keeps_same _ _ (ap g.O.Write.contents c.answer_in_file.ensures.kept))
