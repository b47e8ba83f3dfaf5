-- Copies of expressions.
use Rattle.std.specs.Prelude.{◌≡◌, ℕ, List, map}
use Rattle.vs_design.specs.vs_logic4.specs.declared.digit.Digit.{Digit}
use Rattle.vs_design.specs.declared.expression.Link.{Link}
use Rattle.vs_design.specs.declared.expression.Typed.{Typed}
use Rattle.vs_design.specs.Stores.{Store}
use Rattle.vs_eval.specs.Values.{value_of}

-- the values after operators
abbrev pub links_of : List (Link × Typed) → Store → ℕ → List (Link × List Digit)
links_of links store time = map (λ l. (l.0, value_of l.1 store time)) links

-- the values of conditions and of the operands after them
abbrev pub pairs_of : List (Typed × Typed) → Store → ℕ → List (List Digit × List Digit)
pairs_of pairs store time = map (λ p. (value_of p.0 store time, value_of p.1 store time)) pairs

-- the values of parts
abbrev pub parts_of : List Typed → Store → ℕ → List (List Digit)
parts_of parts store time = map (λ e. value_of e store time) parts

-- whether an expression has another one's value in each store
abbrev pub HasValueOf : Typed → Typed → Type 0
HasValueOf copy e = (store : Store) (time : ℕ) → value_of copy store time ≡ value_of e store time

-- so of operands after operators, one by one
abbrev pub HaveLinksOf : List (Link × Typed) → List (Link × Typed) → Type 0
HaveLinksOf copies links = (store : Store) (time : ℕ) → links_of copies store time ≡ links_of links store time

-- so of conditions and of the operands after them
abbrev pub HavePairsOf : List (Typed × Typed) → List (Typed × Typed) → Type 0
HavePairsOf copies pairs = (store : Store) (time : ℕ) → pairs_of copies store time ≡ pairs_of pairs store time

-- so of parts
abbrev pub HavePartsOf : List Typed → List Typed → Type 0
HavePartsOf copies parts = (store : Store) (time : ℕ) → parts_of copies store time ≡ parts_of parts store time
