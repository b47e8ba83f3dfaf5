-- Lists with commas.
use Rattle.std.specs.Prelude.{◌≡◌, ℕ, List, ◌++◌, map}
use Rattle.vs_syntax.specs.vs_lexer.specs.declared.token.Mark.TheVariants as m
use Rattle.vs_syntax.specs.Symbols.{Symbol}
use Rattle.vs_syntax.specs.Grammar.{Grammar, ◌·◌, many, mark}
use Rattle.vs_syntax.specs.Derivation.{Tree}
use Rattle.vs_syntax.specs.Reading.{Gets}
use Rattle.vs_syntax.specs.Views.{commas_tree}

-- parts with a comma before each of them
abbrev pub comma_tail : Grammar → Grammar
comma_tail g = many (mark m.Comma · g)

-- To the elements `xs` those were added that the symbols begin with, each behind its comma.
pub record Grown {X : Type 0} (g : Grammar) (depth : ℕ) (tree : X → Tree) (ts rest : List Symbol) (xs ys : List X) : Type 0 where
  pub others : List X
  pub all : ys ≡ xs ++ others
  pub gets : Gets (comma_tail g) depth ts (commas_tree (map tree others)) rest
