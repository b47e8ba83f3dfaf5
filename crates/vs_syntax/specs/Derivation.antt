-- Derivations of the grammar.
use Rattle.std.specs.Prelude.{◌≡◌, ℕ, suc, max, true, false, List, [], ◌∷◌, ◌++◌}
use Rattle.vs_syntax.specs.Symbols.{Symbol, Class, class_of}
use Rattle.vs_syntax.specs.Grammar.{Nonterminal, Grammar, nothing, token, seq, either, many, part, node, chain, optional, rule}
use Rattle.vs_syntax.specs.Tables.{goes}

-- a tree over symbols
pub data Tree : Type 0 where
  empty : Tree
  leaf : Symbol → Tree
  both : Tree → Tree → Tree
  -- a node, which counts for the nesting
  down : Tree → Tree

-- the symbols of a tree, from left to right
abbrev pub tokens : Tree → List Symbol
tokens empty = []
tokens (leaf x) = x ∷ []
tokens (both x y) = tokens x ++ tokens y
tokens (down x) = tokens x

-- the nesting: how many nodes lie below one another
abbrev pub height : Tree → ℕ
height empty = 0
height (leaf x) = 0
height (both x y) = max (height x) (height y)
height (down x) = suc (height x)

-- The tree derives from the grammar, where these symbols follow it.
pub data Is : Grammar → Tree → List Symbol → Type 0 where
  is_nothing : {more : List Symbol} → Is nothing empty more
  is_token : {c : Class} {x : Symbol} {more : List Symbol} → class_of x ≡ c → Is (token c) (leaf x) more
  is_seq : {a b : Grammar} {x y : Tree} {more : List Symbol} → Is a x (tokens y ++ more) → Is b y more → Is (seq a b) (both x y) more
  is_left : {a b : Grammar} {x : Tree} {more : List Symbol} → goes a (tokens x ++ more) ≡ true → Is a x more → Is (either a b) x more
  is_right : {a b : Grammar} {x : Tree} {more : List Symbol} → goes a (tokens x ++ more) ≡ false → Is b x more → Is (either a b) x more
  is_stop : {a : Grammar} {more : List Symbol} → goes a more ≡ false → Is (many a) empty more
  is_more : {a : Grammar} {x y : Tree} {more : List Symbol} → goes a (tokens x ++ (tokens y ++ more)) ≡ true →
      Is a x (tokens y ++ more) → Is (many a) y more → Is (many a) (both x y) more
  is_part : {p : Nonterminal} {x : Tree} {more : List Symbol} → Is (rule p) x more → Is (part p) x more
  is_node : {a : Grammar} {x : Tree} {more : List Symbol} → Is a x more → Is (node a) (down x) more
  is_one : {a b : Grammar} {x : Tree} {more : List Symbol} → goes b more ≡ false → Is a x more → Is (chain a b) x more
  is_chain : {a b : Grammar} {x y : Tree} {more : List Symbol} → goes b (tokens y ++ more) ≡ true →
      Is a x (tokens y ++ more) → Is b y more → Is (chain a b) (down (both x y)) more
  is_present : {c : Class} {a : Grammar} {s : Symbol} {x : Tree} {more : List Symbol} → class_of s ≡ c → Is a x more →
      Is (optional c a) (both (leaf s) x) more
  is_absent : {c : Class} {a : Grammar} {more : List Symbol} → goes (optional c a) more ≡ false → Is (optional c a) empty more
