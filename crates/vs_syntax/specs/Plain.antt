-- The plain reading of the grammar: it looks at the next token only where a part is left out whose first token could stand there.
use Rattle.std.specs.Prelude.{◌≡◌, List, ◌++◌}
use Rattle.vs_syntax.specs.Symbols.{Symbol, Class, class_of, first}
use Rattle.vs_syntax.specs.Grammar.{Nonterminal, Grammar, nothing, token, seq, either, many, part, node, chain, optional, rule}
use Rattle.vs_syntax.specs.Derivation.{Tree, empty, leaf, both, down, tokens}

-- The tree is one of the grammar, where these symbols follow it. An optional part is left out only where a symbol of its
-- class doesn't follow: so an `else` belongs to the nearest `if` (clause 9.4).
pub data IsPlain : Grammar → Tree → List Symbol → Type 0 where
  plain_nothing : {more : List Symbol} → IsPlain nothing empty more
  plain_token : {c : Class} {x : Symbol} {more : List Symbol} → class_of x ≡ c → IsPlain (token c) (leaf x) more
  plain_seq : {a b : Grammar} {x y : Tree} {more : List Symbol} → IsPlain a x (tokens y ++ more) → IsPlain b y more →
      IsPlain (seq a b) (both x y) more
  plain_left : {a b : Grammar} {x : Tree} {more : List Symbol} → IsPlain a x more → IsPlain (either a b) x more
  plain_right : {a b : Grammar} {x : Tree} {more : List Symbol} → IsPlain b x more → IsPlain (either a b) x more
  plain_stop : {a : Grammar} {more : List Symbol} → IsPlain (many a) empty more
  plain_more : {a : Grammar} {x y : Tree} {more : List Symbol} → IsPlain a x (tokens y ++ more) →
      IsPlain (many a) y more → IsPlain (many a) (both x y) more
  plain_part : {p : Nonterminal} {x : Tree} {more : List Symbol} → IsPlain (rule p) x more → IsPlain (part p) x more
  plain_node : {a : Grammar} {x : Tree} {more : List Symbol} → IsPlain a x more → IsPlain (node a) (down x) more
  plain_one : {a b : Grammar} {x : Tree} {more : List Symbol} → IsPlain a x more → IsPlain (chain a b) x more
  plain_chain : {a b : Grammar} {x y : Tree} {more : List Symbol} → IsPlain a x (tokens y ++ more) → IsPlain b y more →
      IsPlain (chain a b) (down (both x y)) more
  plain_present : {c : Class} {a : Grammar} {s : Symbol} {x : Tree} {more : List Symbol} → class_of s ≡ c →
      IsPlain a x more → IsPlain (optional c a) (both (leaf s) x) more
  plain_absent : {c : Class} {a : Grammar} {more : List Symbol} → (first more ≡ c → ⊥) → IsPlain (optional c a) empty more
