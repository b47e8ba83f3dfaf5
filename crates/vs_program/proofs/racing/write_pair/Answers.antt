use Rattle.std.proofs.Common.{subst, sym}
use Rattle.std.specs.Prelude.{OnOk}
use Rattle.vs_sign_off.specs.declared.answer.Race.{Race}
use Rattle.vs_program.specs.Races.{WroteDumps}
use Rattle.vs_program.proofs.racing.write_pair.Goals as goal

pub returns-in-Found-clause-dumps : goal.returns-in-Found-clause-dumps
returns-in-Found-clause-dumps g c =
    subst
    (λ (r : Race). OnOk c.write_dumps.result
    (WroteDumps c.args.source.now c.args.top.now r c.args.steps (g.V.Sink.bytes c.args.first.now) (g.V.Sink.bytes c.write_dumps.new.first)
    (g.V.Sink.bytes c.args.other.now) (g.V.Sink.bytes c.write_dumps.new.other))) (sym c.in-Found.is)
    c.write_dumps.ensures.dumps

pub returns-in-FoundLine-clause-dumps : goal.returns-in-FoundLine-clause-dumps
returns-in-FoundLine-clause-dumps g c =
    subst
    (λ (r : Race). OnOk c.write_dumps-in-FoundLine.result
    (WroteDumps c.args.source.now c.args.top.now r c.args.steps (g.V.Sink.bytes c.args.first.now) (g.V.Sink.bytes c.write_dumps-in-FoundLine.new.first)
    (g.V.Sink.bytes c.args.other.now) (g.V.Sink.bytes c.write_dumps-in-FoundLine.new.other))) (sym c.in-FoundLine.is)
    c.write_dumps-in-FoundLine.ensures.dumps
