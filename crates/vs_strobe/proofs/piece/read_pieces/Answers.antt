use Rattle.std.proofs.Common.{◌∙◌, ap, sym}
use Rattle.vs_strobe.specs.Pieces.{pieces_of}
use Rattle.vs_strobe.proofs.PieceLemmas.{pieces_before, behind_none, behind_more, behind_all}
use Rattle.vs_strobe.proofs.piece.read_pieces.Goals as goal

pub loop-rest-preserved : goal.loop-rest-preserved
loop-rest-preserved c =
    c.loop-rest.invariant ∙ ap (pieces_before c.loop-rest.pieces.items) c.in-Some.ensures.0
    ∙ behind_more c.loop-rest.pieces.items c.in-Some.piece (pieces_of c.in-Some.after.now)
    ∙ ap (λ ps. pieces_before ps (pieces_of c.in-Some.after.now)) (sym c.in_ok-push.ensures.items)

pub returns-in_default : goal.returns-in_default
returns-in_default c = c.loop-rest.invariant ∙ ap (pieces_before c.loop-rest.pieces.items) c.in_default.ensures

pub returns : goal.returns
returns c = c.loop-rest.invariant ∙ behind_all c.loop-rest.pieces.items c.loop-rest.rest.now (sym c.loop-rest-test.ensures)

pub loop-rest-init : goal.loop-rest-init
loop-rest-init c = behind_none (pieces_of c.args.text.now) ∙ ap (λ ps. pieces_before ps (pieces_of c.args.text.now)) (sym c.new-pieces.ensures.items)

pub loop-rest-smaller : goal.loop-rest-smaller
loop-rest-smaller c = c.in-Some.ensures.1
