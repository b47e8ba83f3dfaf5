use Rattle.std.proofs.Common.{◌∙◌, ◌∷◌, ap, sym}
use denote.Enum.Bare.{same_true}
use Rattle.vs_syntax.specs.vs_lexer.specs.contracts.token.Mark.{the_type}
use Rattle.vs_syntax.specs.Symbols.{a_mark}
use Rattle.vs_parse_expressions.specs.Answers.{seen}
use Rattle.vs_parse_expressions.proofs.token.mark_at.Goals as goal

pub returns-then-eq : goal.returns-then-eq
returns-then-eq c = c.in_ok-found.ensures ∙ ap (λ u. a_mark u ∷ seen c.in_ok-found.rest.now) (same_true the_type tt c.in_ok-found.found c.args.wanted (sym c.if-eq.ensures))
