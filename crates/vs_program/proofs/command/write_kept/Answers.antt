use Rattle.std.proofs.Common.{◌∙◌, List, ℕ, ap, subst, sym}
use Rattle.std.specs.Prelude.{false, ◌≡◌, Option}
use Rattle.std.specs.Io.KnownBytes.{Keeps}
use Rattle.std.proofs.KnownBytes.{Keeps-refl}
use Rattle.vs_sign_off.specs.Certified.{is_before_run}
use Rattle.vs_outputs.specs.Buffers.{all_bytes, writer_of}
use Rattle.vs_program.specs.Ends.{HasBegunWriting, HasWritten}
use Rattle.vs_program.proofs.Ends.{ends_by_doing, ends_by_fault}
use Rattle.vs_program.proofs.command.write_kept.Goals as goal

pub returns-in-Ok-do_call : goal.returns-in-Ok-do_call
returns-in-Ok-do_call g c =
    let call = c.args.call.now in
    let kept = c.args.kept.now in
    let begun = c.new-buffers.ensures in
    let text = all_bytes g.O.Write.contents c.do_call.new.shown in
    let dump = all_bytes g.D.Write.contents c.do_call.new.dumps.first in
    ends_by_doing (g.O.Write.contents c.args.out) text (g.O.Write.contents c.finish.result.1) (g.D.Write.contents c.args.dumps.first) dump
    (g.D.Write.contents c.finish.result.2.first) c.in-Ok-do_call.done call.outputs call.subcommand kept.certificate.items kept.source.items c.finish.result.0
    (subst (λ (old : Option (List ℕ)). HasWritten kept.source.items kept.certificate.items call.outputs call.subcommand c.in-Ok-do_call.done old text
    (g.D.Write.contents c.args.dumps.first) dump) begun.text
    (subst (λ (dump_old : Option (List ℕ)). HasWritten kept.source.items kept.certificate.items call.outputs call.subcommand c.in-Ok-do_call.done
    (all_bytes g.O.Write.contents c.new-buffers.result.text) text dump_old dump) begun.dump c.in-Ok-do_call.ensures.ok))
    c.finish.ensures

pub returns-in-Err : goal.returns-in-Err
returns-in-Err g c =
    let call = c.args.call.now in
    let kept = c.args.kept.now in
    let begun = c.new-buffers.ensures in
    let out = g.O.Write.contents c.args.out in
    let file = g.D.Write.contents c.args.dumps.first in
    let text = all_bytes g.O.Write.contents c.do_call.new.shown in
    let dump = all_bytes g.D.Write.contents c.do_call.new.dumps.first in
    ends_by_fault out text (g.O.Write.contents c.give_up.result.1) file dump (g.D.Write.contents c.give_up.result.2.first) c.in-Err.fault call.outputs call.subcommand
    kept.certificate.items kept.source.items c.give_up.result.0 c.in-Err.ensures.err
    (λ refused. (
      subst (Keeps out) (sym ((c.give_up.ensures.refused refused).0 ∙ ap (λ b. g.O.Write.contents (writer_of b)) (c.in-Err.ensures.refused refused).0
          ∙ ap g.O.Write.contents begun.writer)) (Keeps-refl out),
      subst (Keeps file) (sym ((c.give_up.ensures.refused refused).1 ∙ ap (λ d. g.D.Write.contents (writer_of d.first)) (c.in-Err.ensures.refused refused).1
          ∙ ap g.D.Write.contents begun.file)) (Keeps-refl file),
    ))
    (subst (λ (old : Option (List ℕ)). is_before_run c.in-Err.fault ≡ false → HasBegunWriting kept.source.items kept.certificate.items call.outputs call.subcommand
    old text file dump) begun.text
    (subst (λ (dump_old : Option (List ℕ)). is_before_run c.in-Err.fault ≡ false → HasBegunWriting kept.source.items kept.certificate.items call.outputs call.subcommand
    (all_bytes g.O.Write.contents c.new-buffers.result.text) text dump_old dump) begun.dump c.in-Err.ensures.begun))
    c.give_up.ensures.begun c.give_up.ensures.status
