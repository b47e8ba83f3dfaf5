use Rattle.vs_lexer.specs.Bytes.{in_name}
use Rattle.vs_lexer.specs.Pieces.{name_piece}
use Rattle.vs_lexer.proofs.LongestRuns.{run_reads}
use Rattle.vs_lexer.proofs.names.read_name.Goals as goal

pub returns : goal.returns
returns c = run_reads in_name name_piece _ _ _ c.split_run.ensures.splits c.split_run.ensures.all c.split_run.ensures.stops (rw c.word_or_name.ensures at c.limited-piece.ensures)
