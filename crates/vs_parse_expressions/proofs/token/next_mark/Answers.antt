use Rattle.std.proofs.Common.{refl, ◌∷◌, ap, ◌∙◌, sym}
use Rattle.vs_syntax.specs.vs_lexer.specs.declared.token.Kind.TheVariants as k
use Rattle.vs_syntax.specs.Symbols.{the_mark, a_mark}
use Rattle.vs_syntax.specs.Grammar.{mark}
use Rattle.vs_parse_expressions.specs.Answers.{seen}
use Rattle.vs_parse_expressions.proofs.Tokens.{none_at, other_at, no_mark, seen_kind}
use Rattle.vs_parse_expressions.proofs.token.next_mark.Goals as goal

pub returns-in_err-first : goal.returns-in_err-first
returns-in_err-first c = rw (c.from_residual.ensures) (λ x. none_at _ (mark x) _ c.in_err-first.ensures refl)

pub returns-in-Mark : goal.returns-in-Mark
returns-in-Mark c = seen_kind _ c.in_ok-first.first.now _ (k.Mark c.in-Mark.found) c.in_ok-first.ensures c.in-Mark.is ∙ ap (λ u. a_mark u ∷ seen c.in_ok-first.rest.now) (sym c.spelled.ensures)

pub returns-in_default : goal.returns-in_default
returns-in_default c = λ x. other_at (the_mark x) _ c.in_ok-first.first.now _ c.in_ok-first.ensures (no_mark _ _ x c.in_default.not-Mark)
