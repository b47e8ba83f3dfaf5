use Rattle.vs_outputs.proofs.Buffers.{write_kept}
use Rattle.vs_outputs.proofs.buffered.Buffered.take_whole.Goals as goal

pub returns-clause-bytes : goal.returns-clause-bytes
returns-clause-bytes g c = write_kept _ _ _ c.take_piece-result.result c.args.piece.now c.take_piece-result.ensures.bytes c.end_line.ensures.bytes
