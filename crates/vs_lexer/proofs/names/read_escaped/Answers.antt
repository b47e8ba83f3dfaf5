use Rattle.vs_lexer.specs.Bytes.{in_escaped}
use Rattle.vs_lexer.specs.Pieces.{escaped_piece}
use Rattle.vs_lexer.proofs.LongestRuns.{run_reads}
use Rattle.vs_lexer.proofs.names.read_escaped.Goals as goal

pub returns : goal.returns
returns c = run_reads in_escaped escaped_piece _ _ _ c.split_run.ensures.splits c.split_run.ensures.all c.split_run.ensures.stops c.escaped_piece-piece.ensures
