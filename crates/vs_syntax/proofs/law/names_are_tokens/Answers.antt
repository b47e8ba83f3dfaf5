use Rattle.vs_syntax.proofs.SourceNamesLemmas.{names_are_tokens}
use Rattle.vs_syntax.proofs.law.names_are_tokens.Goals as goal

pub returns : goal.returns
returns c = names_are_tokens
