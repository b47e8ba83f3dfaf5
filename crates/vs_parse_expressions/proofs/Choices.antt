-- One of several parts, each behind a token of its class: the part of the next token's class.
use Rattle.std.specs.Prelude.{◌≡◌, ℕ, max, min, ◌≤◌, Bool, true, false, cond, List, [], ◌∷◌, Option, None, Some, refl}
use Rattle.std.proofs.Common.{sym, ap, subst, arith}
use Rattle.vs_syntax.specs.Symbols.{Symbol, Class, class_of, same_class}
use Rattle.vs_syntax.specs.Grammar.{Grammar, token, seq, one_or, one_of}
use Rattle.vs_syntax.specs.Tables.{low, goes}
use Rattle.vs_syntax.specs.Derivation.{Tree, leaf, both}
use Rattle.vs_syntax.specs.Reading.{Gets, Stuck, stuck_second, stuck_left, stuck_right}
use Rattle.vs_syntax.proofs.Gets.{gets_token, gets_seq, gets_left, gets_right}
use Rattle.vs_syntax.proofs.Plainly.{same_class-true}

-- the part behind a token of the class, if there is one
abbrev pub branch : Class → List (Class × Grammar) → Option Grammar
branch c [] = None
branch c (x ∷ xs) = cond (same_class c x.0) (Some x.1) (branch c xs)

begins_row : (c : Class) (g : Grammar) (s : Symbol) (ts : List Symbol) (b : Bool) → same_class (class_of s) c ≡ b → goes (seq (token c) g) (s ∷ ts) ≡ b
begins_row c g s ts true e = rw e refl
begins_row c g s ts false e = rw e refl

none_is : (g : Grammar) → None ≡ Some g → ⊥
none_is g e = cc

-- a branch has at least the nesting of the choice
branch_low : (c : Class) (g : Grammar) (x : Class × Grammar) (xs : List (Class × Grammar)) → branch c (x ∷ xs) ≡ Some g → low (one_or x xs) ≤ low g
branch_low c g x [] h =
    elim (same_class c x.0) as (λ b. cond b (Some x.1) None ≡ Some g → max 0 (low x.1) ≤ low g) [
      | true ↦ λ e. let i : x.1 ≡ g = cc in omega (arith, ap low i)
      | false ↦ λ e. absurd (none_is g e)
    ] h
branch_low c g x (y ∷ ys) h =
    elim (same_class c x.0) as (λ b. cond b (Some x.1) (branch c (y ∷ ys)) ≡ Some g → min (max 0 (low x.1)) (low (one_or y ys)) ≤ low g) [
      | true ↦ λ e. let i : x.1 ≡ g = cc in omega (arith, ap low i)
      | false ↦ λ e. let k : low (one_or y ys) ≤ low g = branch_low c g y ys e in omega (arith, k)
    ] h

row_read : (c : Class) (g g' : Grammar) (depth : ℕ) (s : Symbol) (ts rest : List Symbol) (t : Tree) → same_class (class_of s) c ≡ true → g' ≡ g → Gets g depth ts t rest → Gets (seq (token c) g') depth (s ∷ ts) (both (leaf s) t) rest
row_read c g g' depth s ts rest t e h p = gets_seq (gets_token (same_class-true (class_of s) c e)) (subst (λ (u : Grammar). Gets u depth ts t rest) (sym h) p)

row_stuck : (c : Class) (g g' : Grammar) (depth : ℕ) (deep : Bool) (s : Symbol) (ts at : List Symbol) → same_class (class_of s) c ≡ true → g' ≡ g → Stuck g depth deep ts at → Stuck (seq (token c) g') depth deep (s ∷ ts) at
row_stuck c g g' depth deep s ts at e h p = stuck_second (gets_token (same_class-true (class_of s) c e)) (subst (λ (u : Grammar). Stuck u depth deep ts at) (sym h) p)

-- what stands behind the next token makes the choice
pub branch_read : (x : Class × Grammar) (xs : List (Class × Grammar)) (g : Grammar) (depth : ℕ) (s : Symbol) (ts rest : List Symbol) (t : Tree) → branch (class_of s) (x ∷ xs) ≡ Some g → Gets g depth ts t rest → Gets (one_or x xs) depth (s ∷ ts) (both (leaf s) t) rest
branch_read x [] g depth s ts rest t h p =
    elim (same_class (class_of s) x.0) as (λ b. same_class (class_of s) x.0 ≡ b → cond b (Some x.1) None ≡ Some g → Gets (one_or x []) depth (s ∷ ts) (both (leaf s) t) rest) [
      | true ↦ λ e i. row_read x.0 g x.1 depth s ts rest t e (cc) p
      | false ↦ λ e i. absurd (none_is g i)
    ] refl h
branch_read x (y ∷ ys) g depth s ts rest t h p =
    elim (same_class (class_of s) x.0) as (λ b. same_class (class_of s) x.0 ≡ b → cond b (Some x.1) (branch (class_of s) (y ∷ ys)) ≡ Some g → Gets (one_or x (y ∷ ys)) depth (s ∷ ts) (both (leaf s) t) rest) [
      | true ↦ λ e i. gets_left (begins_row x.0 x.1 s ts true e) (row_read x.0 g x.1 depth s ts rest t e (cc) p)
      | false ↦ λ e i. gets_right (begins_row x.0 x.1 s ts false e) (branch_read y ys g depth s ts rest t i p)
    ] refl h

-- where it stops the choice stops
pub branch_stuck : (x : Class × Grammar) (xs : List (Class × Grammar)) (g : Grammar) (depth : ℕ) (deep : Bool) (s : Symbol) (ts at : List Symbol) → branch (class_of s) (x ∷ xs) ≡ Some g → low g ≤ depth → Stuck g depth deep ts at → Stuck (one_or x xs) depth deep (s ∷ ts) at
branch_stuck x [] g depth deep s ts at h n p =
    elim (same_class (class_of s) x.0) as (λ b. same_class (class_of s) x.0 ≡ b → cond b (Some x.1) None ≡ Some g → Stuck (one_or x []) depth deep (s ∷ ts) at) [
      | true ↦ λ e i. row_stuck x.0 g x.1 depth deep s ts at e (cc) p
      | false ↦ λ e i. absurd (none_is g i)
    ] refl h
branch_stuck x (y ∷ ys) g depth deep s ts at h n p =
    elim (same_class (class_of s) x.0) as (λ b. same_class (class_of s) x.0 ≡ b → cond b (Some x.1) (branch (class_of s) (y ∷ ys)) ≡ Some g → Stuck (one_or x (y ∷ ys)) depth deep (s ∷ ts) at) [
      | true ↦ λ e i.
          let k : x.1 ≡ g = cc in
          let l : max 0 (low x.1) ≤ depth = omega (arith, n, ap low k) in
          stuck_left (begins_row x.0 x.1 s ts true e) l (row_stuck x.0 g x.1 depth deep s ts at e k p)
      | false ↦ λ e i.
          let l : low (one_or y ys) ≤ low g = branch_low (class_of s) g y ys i in
          stuck_right (begins_row x.0 x.1 s ts false e) (omega (arith, l, n)) (branch_stuck y ys g depth deep s ts at i n p)
    ] refl h

-- the same of a list of them
pub choice_read : (xs : List (Class × Grammar)) (g : Grammar) (depth : ℕ) (s : Symbol) (ts rest : List Symbol) (t : Tree) → branch (class_of s) xs ≡ Some g → Gets g depth ts t rest → Gets (one_of xs) depth (s ∷ ts) (both (leaf s) t) rest
choice_read [] g depth s ts rest t h p = absurd (none_is g h)
choice_read (x ∷ xs) g depth s ts rest t h p = branch_read x xs g depth s ts rest t h p

pub choice_stuck : (xs : List (Class × Grammar)) (g : Grammar) (depth : ℕ) (deep : Bool) (s : Symbol) (ts at : List Symbol) → branch (class_of s) xs ≡ Some g → low g ≤ depth → Stuck g depth deep ts at → Stuck (one_of xs) depth deep (s ∷ ts) at
choice_stuck [] g depth deep s ts at h n p = absurd (none_is g h)
choice_stuck (x ∷ xs) g depth deep s ts at h n p = branch_stuck x xs g depth deep s ts at h n p
