use Rattle.std.proofs.Common.{refl, ◌∷◌, ap, ◌∙◌, sym}
use denote.Enum.Bare.{same_true}
use Rattle.vs_syntax.specs.vs_lexer.specs.contracts.token.Word.{the_type}
use Rattle.vs_syntax.specs.vs_lexer.specs.declared.token.Kind.TheVariants as k
use Rattle.vs_syntax.specs.Symbols.{a_word, the_word}
use Rattle.vs_syntax.specs.Grammar.{word}
use Rattle.vs_parse_expressions.specs.Answers.{seen}
use Rattle.vs_parse_expressions.proofs.Tokens.{none_at, other_at, no_word, seen_kind}
use Rattle.vs_parse_expressions.proofs.token.word_at.Goals as goal

pub returns-in_err-first : goal.returns-in_err-first
returns-in_err-first c = rw (c.from_residual.ensures) (none_at _ (word c.args.wanted) _ c.in_err-first.ensures refl)

pub returns-then-eq : goal.returns-then-eq
returns-then-eq c = seen_kind _ c.in_ok-first.first.now _ (k.Word c.in-Word.found) c.in_ok-first.ensures c.in-Word.is ∙ ap (λ u. a_word u ∷ seen c.in_ok-first.rest.now) (same_true the_type tt c.in-Word.found c.args.wanted (sym c.if-eq.ensures))

pub returns-in_default : goal.returns-in_default
returns-in_default c = other_at (the_word c.args.wanted) _ c.in_ok-first.first.now _ c.in_ok-first.ensures (no_word _ _ c.args.wanted c.in_default.not-Word)
