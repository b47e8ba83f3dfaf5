-- What reading a part of a source answers: a tree of it, or why and where no tree goes on.
use Rattle.std.specs.Prelude.{◌≡◌, ℕ, ◌-◌, ◌<◌, ◌≤◌, Bool, true, false, List, ◌∷◌, ◌++◌}
use Rattle.vs_syntax.specs.Symbols.{Symbol, Class, class_of, first}
use Rattle.vs_syntax.specs.Grammar.{Nonterminal, Grammar, seq, either, many, part, node, chain, optional, rule}
use Rattle.vs_syntax.specs.Tables.{null, low, fronts, need, goes}
use Rattle.vs_syntax.specs.Derivation.{Tree, tokens, height, Is}

-- The symbols are those of the tree and then the rest, and the tree derives from the grammar there, of at most this nesting.
pub record Gets (a : Grammar) (depth : ℕ) (ts : List Symbol) (x : Tree) (rest : List Symbol) : Type 0 where
  pub is : Is a x rest
  pub text : ts ≡ tokens x ++ rest
  pub fits : height x ≤ depth

-- Reading a part from these symbols stops before the rest: it would be too deep there, or no such part goes on so.
pub data Stuck : Grammar → ℕ → Bool → List Symbol → List Symbol → Type 0 where
  stuck_here : {a : Grammar} {depth : ℕ} {ts : List Symbol} → null a ≡ false → goes a ts ≡ false → Stuck a depth false ts ts
  stuck_deep : {a : Grammar} {depth : ℕ} {ts : List Symbol} → goes a ts ≡ true → depth < need (first ts) (fronts a) →
      Stuck a depth true ts ts
  stuck_first : {a b : Grammar} {depth : ℕ} {deep : Bool} {ts rest : List Symbol} → Stuck a depth deep ts rest →
      Stuck (seq a b) depth deep ts rest
  stuck_second : {a b : Grammar} {depth : ℕ} {deep : Bool} {ts mid rest : List Symbol} {x : Tree} →
      Gets a depth ts x mid → Stuck b depth deep mid rest → Stuck (seq a b) depth deep ts rest
  stuck_left : {a b : Grammar} {depth : ℕ} {deep : Bool} {ts rest : List Symbol} → goes a ts ≡ true → low a ≤ depth →
      Stuck a depth deep ts rest → Stuck (either a b) depth deep ts rest
  stuck_right : {a b : Grammar} {depth : ℕ} {deep : Bool} {ts rest : List Symbol} → goes a ts ≡ false → low b ≤ depth →
      Stuck b depth deep ts rest → Stuck (either a b) depth deep ts rest
  stuck_many : {a : Grammar} {depth : ℕ} {deep : Bool} {ts rest : List Symbol} → goes a ts ≡ true → low a ≤ depth →
      Stuck a depth deep ts rest → Stuck (many a) depth deep ts rest
  stuck_more : {a : Grammar} {depth : ℕ} {deep : Bool} {ts mid rest : List Symbol} {x : Tree} → goes a ts ≡ true →
      Gets a depth ts x mid → Stuck (many a) depth deep mid rest → Stuck (many a) depth deep ts rest
  stuck_part : {p : Nonterminal} {depth : ℕ} {deep : Bool} {ts rest : List Symbol} → Stuck (rule p) depth deep ts rest →
      Stuck (part p) depth deep ts rest
  stuck_node : {a : Grammar} {depth : ℕ} {deep : Bool} {ts rest : List Symbol} → 0 < depth →
      Stuck a (depth - 1) deep ts rest → Stuck (node a) depth deep ts rest
  stuck_one : {a b : Grammar} {depth : ℕ} {deep : Bool} {ts rest : List Symbol} → Stuck a depth deep ts rest →
      Stuck (chain a b) depth deep ts rest
  stuck_link : {a b : Grammar} {depth : ℕ} {deep : Bool} {ts mid rest : List Symbol} {x : Tree} → Gets a depth ts x mid →
      height x < depth → goes b mid ≡ true → Stuck b (depth - 1) deep mid rest → Stuck (chain a b) depth deep ts rest
  stuck_high : {a b : Grammar} {depth : ℕ} {ts mid : List Symbol} {x : Tree} → Gets a depth ts x mid → goes b mid ≡ true →
      depth ≤ height x → Stuck (chain a b) depth true ts mid
  stuck_behind : {c : Class} {a : Grammar} {depth : ℕ} {deep : Bool} {s : Symbol} {ts rest : List Symbol} →
      class_of s ≡ c → low a ≤ depth → Stuck a depth deep ts rest → Stuck (optional c a) depth deep (s ∷ ts) rest
