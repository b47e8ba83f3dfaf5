use Rattle.vs_scopes.proofs.UsedLemmas.{used_are_tokens}
use Rattle.vs_scopes.proofs.law.used_are_tokens.Goals as goal

pub returns : goal.returns
returns c = used_are_tokens
