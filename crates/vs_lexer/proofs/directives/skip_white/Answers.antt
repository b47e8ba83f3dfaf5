use Rattle.std.proofs.Common.{sym, ap, ◌∙◌}
use Rattle.vs_lexer.specs.Bytes.{is_white, after_run}
use Rattle.vs_lexer.specs.Directives.{skip_white}
use Rattle.vs_lexer.proofs.LongestRuns.{after_all}
use Rattle.vs_lexer.proofs.directives.skip_white.Goals as goal

pub returns : goal.returns
unfolding skip_white
returns c = sym (ap (after_run is_white) c.split_run.ensures.splits ∙ after_all is_white c.split_run.result.0.now c.split_run.result.1.now c.split_run.ensures.all c.split_run.ensures.stops)
