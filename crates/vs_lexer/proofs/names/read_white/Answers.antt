use Rattle.std.proofs.Common.{refl}
use Rattle.vs_lexer.specs.Bytes.{is_white}
use Rattle.vs_lexer.specs.Pieces.{white_piece}
use Rattle.vs_lexer.proofs.LongestRuns.{run_reads}
use Rattle.vs_lexer.proofs.names.read_white.Goals as goal

pub returns : goal.returns
returns c = run_reads is_white white_piece _ _ _ c.split_run.ensures.splits c.split_run.ensures.all c.split_run.ensures.stops refl
