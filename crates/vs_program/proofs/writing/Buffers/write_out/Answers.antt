use Rattle.std.proofs.KnownBytes.{Keeps-trans}
use Rattle.vs_program.proofs.Cuts.{cut_kept, is_open}
use Rattle.vs_program.proofs.writing.Buffers.write_out.Goals as goal

pub returns-in_err-open_text-clause-text : goal.returns-in_err-open_text-clause-text
returns-in_err-open_text-clause-text g c =
    let h = c.cut.ensures in
    let cuts = c.cuts_of-cuts in
    (h.0, cut_kept _ _ _ h.0 h.1 c.open_text.ensures.text, is_open c.args.call.now.subcommand cuts.result.text h.0 cuts.ensures.text h.2)

pub returns-in_err-open_text-clause-dump : goal.returns-in_err-open_text-clause-dump
returns-in_err-open_text-clause-dump g c =
    let h = c.cut-2.ensures in
    let cuts = c.cuts_of-cuts in
    (h.0, rw c.open_text.ensures.dumps h.1, is_open c.args.call.now.subcommand cuts.result.dump h.0 cuts.ensures.dump h.2)

pub returns-clause-text : goal.returns-clause-text
returns-clause-text g c =
    let h = c.cut.ensures in
    let cuts = c.cuts_of-cuts in (
      h.0,
      cut_kept _ _ _ h.0 h.1 (Keeps-trans _ _ _ c.open_text.ensures.text c.write_all.ensures.text),
      is_open c.args.call.now.subcommand cuts.result.text h.0 cuts.ensures.text h.2,
    )

pub returns-clause-dump : goal.returns-clause-dump
returns-clause-dump g c =
    let h = c.cut-2.ensures in
    let cuts = c.cuts_of-cuts in (
      h.0,
      cut_kept _ _ _ h.0 h.1 (rw c.open_text.ensures.dumps at c.write_all.ensures.dump),
      is_open c.args.call.now.subcommand cuts.result.dump h.0 cuts.ensures.dump h.2,
    )
