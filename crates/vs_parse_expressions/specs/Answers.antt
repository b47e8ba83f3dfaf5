-- What a function that reads a part of a source answers.
use Rattle.std.specs.Prelude.{◌≡◌, ℕ, true, false, List, Result, Ok, Err}
use Rattle.vs_syntax.specs.vs_lexer.specs.declared.token.Token.{Token}
use Rattle.vs_syntax.specs.vs_lexer.specs.Tokens.{lexemes}
use Rattle.vs_syntax.specs.Symbols.{Symbol, symbols}
use Rattle.vs_syntax.specs.Grammar.{Grammar}
use Rattle.vs_syntax.specs.Derivation.{Tree, height}
use Rattle.vs_syntax.specs.Reading.{Gets, Stuck}
use Rattle.vs_syntax.specs.Views.{expr_tree}
use Rattle.vs_parse_expressions.specs.declared.expression.Nested.{Nested}
use Rattle.vs_parse_expressions.specs.declared.reading.Parsed.{Parsed}
use Rattle.vs_parse_expressions.specs.declared.reading.ReadFault.{ReadFault}
use Rattle.vs_parse_expressions.specs.declared.reading.ReadFault.TheVariants as stop

-- the symbols of tokens
abbrev pub seen : List Token → List Symbol
seen ts = symbols (lexemes ts)

-- why and where reading stopped at these symbols, unless memory ran out
abbrev pub FailsToRead : Grammar → ℕ → List Symbol → ReadFault → Type 0
FailsToRead a depth ts stop.Memory = Unit {0}
FailsToRead a depth ts (stop.Unexpected at) = Stuck a depth false ts (seen at.now)
FailsToRead a depth ts (stop.TooDeep at) = Stuck a depth true ts (seen at.now)

-- a tree of the part and the symbols behind it, or why and where reading stopped
abbrev pub Answers : {X : Type 0} → Grammar → ℕ → List Symbol → (X → Tree) → (X → List Symbol) → Result X ReadFault → Type 0
Answers a depth ts tree rest (Ok x) = Gets a depth ts (tree x) (rest x)
Answers a depth ts tree rest (Err e) = FailsToRead a depth ts e

-- the same of what is read of tokens
abbrev pub ReadsTree : {X : Type 0} → Grammar → ℕ → List Token → (X → Tree) → Result (Parsed X) ReadFault → Type 0
ReadsTree a depth ts tree r = Answers a depth (seen ts) (λ x. tree x.tree) (λ x. seen x.rest.now) r

-- the same of an expression with its nesting
abbrev pub Nests : Grammar → ℕ → List Symbol → Result Nested ReadFault → Type 0
Nests a depth ts r = Answers a depth ts (λ x. expr_tree x.tree) (λ x. seen x.rest.now) r

-- a tree of the part, its nesting and the symbols behind it, or why and where reading stopped
abbrev pub Measures : {X : Type 0} → Grammar → ℕ → List Symbol → (X → Tree) → (X → ℕ) → (X → List Symbol) → Result X ReadFault → Type 0
Measures a depth ts tree nesting rest (Ok x) = Gets a depth ts (tree x) (rest x) × (nesting x ≡ height (tree x))
Measures a depth ts tree nesting rest (Err e) = FailsToRead a depth ts e

-- the same of an expression
abbrev pub Measured : Grammar → ℕ → List Symbol → Result Nested ReadFault → Type 0
Measured a depth ts r = Measures a depth ts (λ x. expr_tree x.tree) (λ x. x.height) (λ x. seen x.rest.now) r
