use Rattle.std.proofs.Common.{refl}
use Rattle.vs_lexer.specs.Bytes.{in_line}
use Rattle.vs_lexer.specs.Pieces.{line_piece}
use Rattle.vs_lexer.proofs.LongestRuns.{run_reads}
use Rattle.vs_lexer.proofs.Openings.{heads_differ, slash_alone, slash_line, slash_block}
use Rattle.vs_lexer.proofs.comments.read_slash.Goals as goal

pub returns-in_default : goal.returns-in_default
returns-in_default c = slash_alone _ _ _ refl refl (λ b more e. cc c.in_default.ensures)

pub returns-then-second-eq47 : goal.returns-then-second-eq47
returns-then-second-eq47 c = rw c.in-Some.ensures (slash_line _ _ _ _ c.if-second-eq47.true (run_reads in_line line_piece _ _ _ c.split_run.ensures.splits c.split_run.ensures.all c.split_run.ensures.stops c.among-piece.ensures))

pub returns-then-second-eq42 : goal.returns-then-second-eq42
returns-then-second-eq42 c = rw c.in-Some.ensures (slash_block _ _ _ _ c.if-second-eq42.true c.read_closed.ensures)

pub returns : goal.returns
returns c = slash_alone _ _ _ refl refl (λ b more e. (heads_differ _ _ more _ b 47 c.in-Some.ensures e c.if-second-eq47.false, heads_differ _ _ more _ b 42 c.in-Some.ensures e c.if-second-eq42.false))
