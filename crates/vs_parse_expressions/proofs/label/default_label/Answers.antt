use Rattle.std.proofs.Common.{true, false}
use Rattle.vs_parse_expressions.proofs.Labels.{colon_read, colon_none, default_beyond}
use Rattle.vs_parse_expressions.proofs.label.default_label.Goals as goal

pub returns-in-Some : goal.returns-in-Some
returns-in-Some c = λ depth h. default_beyond depth _ _ _ true h c.requires (colon_read depth _ _ c.in-Some.ensures)

pub returns-in-None : goal.returns-in-None
returns-in-None c = λ depth h. default_beyond depth _ _ _ false h c.requires (colon_none depth _ c.in-None.ensures)
