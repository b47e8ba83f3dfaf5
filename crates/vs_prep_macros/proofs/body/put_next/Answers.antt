use Rattle.vs_prep_macros.proofs.BodiesRead.{put_none}
use Rattle.vs_prep_macros.proofs.body.put_next.Goals as goal

pub returns-in-None-first_piece-clause-put : goal.returns-in-None-first_piece-clause-put
returns-in-None-first_piece-clause-put c = put_none c.args.body.now.items c.args.bytes.now c.in-None.ensures.behind c.in-None-first_piece.ensures.parts
