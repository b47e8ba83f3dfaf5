-- Stores by their digits: what a write makes of each of them.
use Rattle.std.proofs.Common.{◌≡◌, ℕ, zero, suc, ◌==◌, ◌&&◌, ◌⊎◌, true, false, Option, Some, None, option_map, List, [], ◌∷◌, map, length, slice_get, refl, sym, ◌∙◌, ap, ap₂, inl, inr, pos, negsuc, ◌+ℤ◌, neg_ℤ, ℤ, eqb-true, if◌then◌else◌}
use Rattle.std.specs.Prelude.{slice_index_or}
use Rattle.std.proofs.lemmas.Bool.{cases_Bool, eqb-false, or_parts}
use Rattle.std.proofs.lemmas.Option.{slice_get-map}
use Rattle.vs_design.specs.vs_logic4.specs.declared.digit.Digit.{Digit}
use Rattle.vs_design.specs.vs_logic4.specs.Parts.{digit_at}
use Rattle.vs_design.specs.declared.write.Part.{Part}
use Rattle.vs_design.specs.Stores.{Store, changed_at, overlaid, put_part, put, word_in, word_of}
use Rattle.vs_design.specs.Writes.{Write, names}
use Rattle.vs_eval.specs.Laws.{digit_in, digit_of}
use Rattle.vs_design.specs.vs_logic4.proofs.Basics.{same_lists as same_gets}
use Rattle.vs_process.proofs.Stores.{changed_other, shape, shape-put}
use Rattle.vs_design.proofs.Stores.{slice_get-changed_at as changed_same}
use Rattle.vs_design.proofs.Stores.{word_changes as word_same}
use Rattle.vs_eval.proofs.Digits.{replaced_digit as get-replaced_from}
use Rattle.vs_design.specs.vs_logic4.proofs.Basics.{same_first as head_is, tail_is}

-- ---- digits of a word behind a part

digit-overlaid : (low : ℤ) (part : List Digit) (o : Option (List Digit)) (k : ℕ) → digit_in (option_map (overlaid low part) o) k ≡ option_map (digit_at (neg_ℤ low +ℤ pos k) part) (digit_in o k)
digit-overlaid low part None k = refl
digit-overlaid low part (Some word) k = get-replaced_from (neg_ℤ low) part word k

pub map_kept : {A : Type 0} (f : A → A) (o : Option A) → ((x : A) → f x ≡ x) → option_map f o ≡ o
map_kept f None h = refl
map_kept f (Some x) h = ap (λ y. Some y) (h x)

map_like : {A : Type 0} (f g : A → A) (o : Option A) → ((x : A) → f x ≡ g x) → option_map f o ≡ option_map g o
map_like f g None h = refl
map_like f g (Some x) h = ap (λ y. Some y) (h x)

map_twice : {A : Type 0} (f g : A → A) (o : Option A) → option_map f (option_map g o) ≡ option_map (λ x. f (g x)) o
map_twice f g None = refl
map_twice f g (Some x) = refl

-- ---- digits of a store behind a write

-- what a part makes of the digit at a place of a word of a signal
abbrev pub laid_part : Part → ℕ → ℕ → ℕ → Digit → Digit
laid_part p v w k d = if p.signal == v && p.word == w then digit_at (neg_ℤ p.low +ℤ pos k) p.digits d else d

-- what a write makes of it
abbrev pub laid : Write → ℕ → ℕ → ℕ → Digit → Digit
laid [] v w k d = d
laid (p ∷ ps) v w k d = laid ps v w k (laid_part p v w k d)

pub laid_there : (p : Part) (v w k : ℕ) (d : Digit) → (p.signal == v && p.word == w) ≡ true → laid_part p v w k d ≡ digit_at (neg_ℤ p.low +ℤ pos k) p.digits d
laid_there p v w k d h = ap (λ b. if b then digit_at (neg_ℤ p.low +ℤ pos k) p.digits d else d) h

pub laid_elsewhere : (p : Part) (v w k : ℕ) (d : Digit) → (p.signal == v && p.word == w) ≡ false → laid_part p v w k d ≡ d
laid_elsewhere p v w k d h = ap (λ b. if b then digit_at (neg_ℤ p.low +ℤ pos k) p.digits d else d) h

word_other : (f : List Digit → List Digit) (i w : ℕ) (o : Option (List (List Digit))) → (w ≡ i → ⊥) → word_in (option_map (changed_at f i) o) w ≡ word_in o w
word_other f i w None h = refl
word_other f i w (Some words) h = changed_other f i w words h

-- a digit of a store behind a part
digit-put_part : (store : Store) (p : Part) (v w k : ℕ) → digit_of (put_part store p) v w k ≡ option_map (laid_part p v w k) (digit_of store v w k)
digit-put_part store p v w k =
    elim (cases_Bool (p.signal == v)) [
      | inl at_v ↦ elim (cases_Bool (p.word == w)) [
        | inl at_w ↦
            let both : (p.signal == v && p.word == w) ≡ true = rw (at_v, at_w) refl in
            ap (λ o. digit_in (word_in o w) k) (ap (slice_get (put_part store p)) (sym (eqb-true p.signal v at_v)) ∙ changed_same change p.signal store)
            ∙ ap (λ n. digit_in (word_in (option_map change (slice_get store p.signal)) n) k) (sym (eqb-true p.word w at_w))
            ∙ ap (λ o. digit_in o k) (word_same (overlaid p.low p.digits) p.word (slice_get store p.signal))
            ∙ digit-overlaid p.low p.digits (word_of store p.signal p.word) k
            ∙ ap₂ (λ n m. option_map (digit_at (neg_ℤ p.low +ℤ pos k) p.digits) (digit_of store n m k)) (eqb-true p.signal v at_v) (eqb-true p.word w at_w)
            ∙ map_like (digit_at (neg_ℤ p.low +ℤ pos k) p.digits) (laid_part p v w k) (digit_of store v w k) (λ d. sym (laid_there p v w k d both))
        | inr off_w ↦
            let none : (p.signal == v && p.word == w) ≡ false = rw (at_v, off_w) refl in
            ap (λ o. digit_in (word_in o w) k) (ap (slice_get (put_part store p)) (sym (eqb-true p.signal v at_v)) ∙ changed_same change p.signal store)
            ∙ ap (λ o. digit_in o k) (word_other (overlaid p.low p.digits) p.word w (slice_get store p.signal) (λ e. eqb-false p.word w off_w (sym e)))
            ∙ ap (λ n. digit_of store n w k) (eqb-true p.signal v at_v)
            ∙ sym (map_kept (laid_part p v w k) (digit_of store v w k) (λ d. laid_elsewhere p v w k d none))
      ]
      | inr off_v ↦
          let none : (p.signal == v && p.word == w) ≡ false = rw off_v refl in
          ap (λ o. digit_in (word_in o w) k) (changed_other change p.signal v store (λ e. eqb-false p.signal v off_v (sym e)))
          ∙ sym (map_kept (laid_part p v w k) (digit_of store v w k) (λ d. laid_elsewhere p v w k d none))
    ]
  where
    change : List (List Digit) → List (List Digit)
    change = changed_at (overlaid p.low p.digits) p.word

-- a digit of a store behind a write
pub digit-put : (store : Store) (ps : Write) (v w k : ℕ) → digit_of (put store ps) v w k ≡ option_map (laid ps v w k) (digit_of store v w k)
digit-put store [] v w k = sym (map_kept (λ d. d) (digit_of store v w k) (λ d. refl))
digit-put store (p ∷ ps) v w k =
    digit-put (put_part store p) ps v w k ∙ ap (option_map (laid ps v w k)) (digit-put_part store p v w k)
    ∙ map_twice (laid ps v w k) (laid_part p v w k) (digit_of store v w k)

-- ---- a write either keeps a digit or fixes it

-- a write leaves the digit
abbrev pub Keeps : Write → ℕ → ℕ → ℕ → Type 0
Keeps ps v w k = (d : Digit) → laid ps v w k d ≡ d

-- a write gives the place a digit of its own
abbrev pub Fixes : Write → ℕ → ℕ → ℕ → Type 0
Fixes ps v w k = (d e : Digit) → laid ps v w k d ≡ laid ps v w k e

abbrev KeepsOrFixes : (Digit → Digit) → Type 0
KeepsOrFixes f = ((d : Digit) → f d ≡ d) ⊎ ((d e : Digit) → f d ≡ f e)

index_cases : (ds : List Digit) (n : ℕ) → KeepsOrFixes (slice_index_or ds n)
index_cases [] n = inl (λ d. refl)
index_cases (x ∷ ds) zero = inr (λ d e. refl)
index_cases (x ∷ ds) (suc n) = index_cases ds n

digit_cases : (z : ℤ) (part : List Digit) → KeepsOrFixes (digit_at z part)
digit_cases (pos n) part = index_cases part n
digit_cases (negsuc n) part = inl (λ d. refl)

part_cases : (p : Part) (v w k : ℕ) → KeepsOrFixes (laid_part p v w k)
part_cases p v w k =
    elim (cases_Bool (p.signal == v && p.word == w)) [
      | inl hit ↦ elim (digit_cases (neg_ℤ p.low +ℤ pos k) p.digits) [
        | inl kept ↦ inl (λ d. laid_there p v w k d hit ∙ kept d)
        | inr fixed ↦ inr (λ d e. laid_there p v w k d hit ∙ fixed d e ∙ sym (laid_there p v w k e hit))
      ]
      | inr miss ↦ inl (λ d. laid_elsewhere p v w k d miss)
    ]

pub write_cases : (ps : Write) (v w k : ℕ) → Keeps ps v w k ⊎ Fixes ps v w k
write_cases [] v w k = inl (λ d. refl)
write_cases (p ∷ ps) v w k =
    elim (write_cases ps v w k) [
      | inr fixed ↦ inr (λ d e. fixed (laid_part p v w k d) (laid_part p v w k e))
      | inl kept ↦ elim (part_cases p v w k) [
        | inl same ↦ inl (λ d. kept (laid_part p v w k d) ∙ same d)
        | inr one ↦ inr (λ d e. ap (laid ps v w k) (one d e))
      ]
    ]

-- a write keeps the digits of a signal that it doesn't name
pub unnamed_keeps : (ps : Write) (v w k : ℕ) → names ps v ≡ false → Keeps ps v w k
unnamed_keeps [] v w k h d = refl
unnamed_keeps (p ∷ ps) v w k h d =
    let parts = or_parts (p.signal == v) (names ps v) h in
    unnamed_keeps ps v w k parts.1 (laid_part p v w k d) ∙ laid_elsewhere p v w k d (rw parts.0 refl)

pub kept_digit : (store : Store) (ps : Write) (v w k : ℕ) → Keeps ps v w k → digit_of (put store ps) v w k ≡ digit_of store v w k
kept_digit store ps v w k h = digit-put store ps v w k ∙ map_kept (laid ps v w k) (digit_of store v w k) h

-- ---- equal stores

same_word_lists : (xs ys : List (List Digit)) → map length xs ≡ map length ys → ((w k : ℕ) → digit_in (slice_get xs w) k ≡ digit_in (slice_get ys w) k) → xs ≡ ys
same_word_lists [] [] h same = refl
same_word_lists [] (y ∷ ys) h same = cc
same_word_lists (x ∷ xs) [] h same = cc
same_word_lists (x ∷ xs) (y ∷ ys) h same =
    ap₂ (λ z zs. z ∷ zs) (same_gets x y (same 0)) (same_word_lists xs ys (tail_is (length x) (length y) (map length xs) (map length ys) h) (λ w. same (suc w)))

-- stores of one shape with equal digits are equal
pub same_stores : (a b : Store) → shape a ≡ shape b → ((v w k : ℕ) → digit_of a v w k ≡ digit_of b v w k) → a ≡ b
same_stores [] [] h same = refl
same_stores [] (y ∷ b) h same = cc
same_stores (x ∷ a) [] h same = cc
same_stores (x ∷ a) (y ∷ b) h same =
    ap₂ (λ z zs. z ∷ zs)
    (same_word_lists x y (head_is (map length x) (map length y) (shape a) (shape b) h) (same 0))
    (same_stores a b (tail_is (map length x) (map length y) (shape a) (shape b) h) (λ v. same (suc v)))

option_same : {A B : Type 0} (f : A → B) (o : Option A) (g : A → B) → ((x : A) → o ≡ Some x → f x ≡ g x) → option_map f o ≡ option_map g o
option_same f None g h = refl
option_same f (Some x) g h = ap (λ y. Some y) (h x refl)

-- two writes of which one keeps each digit leave the same in either order
pub put_swapped : (store : Store) (a c : Write) → ((v w k : ℕ) (d : Digit) → digit_of store v w k ≡ Some d → Keeps a v w k ⊎ Keeps c v w k) → put (put store a) c ≡ put (put store c) a
put_swapped store a c h =
    same_stores (put (put store a) c) (put (put store c) a)
    (shape-put (put store a) c ∙ shape-put store a ∙ sym (shape-put (put store c) a ∙ shape-put store c))
    (λ v w k. twice a c v w k ∙ option_same (λ d. laid c v w k (laid a v w k d)) (digit_of store v w k) (λ d. laid a v w k (laid c v w k d)) (either v w k) ∙ sym (twice c a v w k))
  where
    twice : (a c : Write) (v w k : ℕ) → digit_of (put (put store a) c) v w k ≡ option_map (λ d. laid c v w k (laid a v w k d)) (digit_of store v w k)
    twice a c v w k = digit-put (put store a) c v w k ∙ ap (option_map (laid c v w k)) (digit-put store a v w k) ∙ map_twice (laid c v w k) (laid a v w k) (digit_of store v w k)

    either : (v w k : ℕ) (d : Digit) → digit_of store v w k ≡ Some d → laid c v w k (laid a v w k d) ≡ laid a v w k (laid c v w k d)
    either v w k d is = elim (h v w k d is) [
      | inl kept ↦ ap (laid c v w k) (kept d) ∙ sym (kept (laid c v w k d))
      | inr kept ↦ kept (laid a v w k d) ∙ sym (ap (laid a v w k) (kept d))
    ]

-- a write once more
pub put_again : (store : Store) (a : Write) → put (put store a) a ≡ put store a
put_again store a =
    same_stores (put (put store a) a) (put store a) (shape-put (put store a) a)
    (λ v w k. digit-put (put store a) a v w k ∙ ap (option_map (laid a v w k)) (digit-put store a v w k) ∙ map_twice (laid a v w k) (laid a v w k) (digit_of store v w k)
    ∙ map_like (λ d. laid a v w k (laid a v w k d)) (laid a v w k) (digit_of store v w k) (again v w k) ∙ sym (digit-put store a v w k))
  where
    again : (v w k : ℕ) (d : Digit) → laid a v w k (laid a v w k d) ≡ laid a v w k d
    again v w k d = elim (write_cases a v w k) [
      | inl kept ↦ kept (laid a v w k d)
      | inr fixed ↦ fixed (laid a v w k d) d
    ]

-- ---- sizes

abbrev pub length_in : Option (List ℕ) → ℕ → Option ℕ
length_in None w = None
length_in (Some ls) w = slice_get ls w

lengths_in : (o : Option (List (List Digit))) (w : ℕ) → option_map length (word_in o w) ≡ length_in (option_map (λ words. map length words) o) w
lengths_in None w = refl
lengths_in (Some words) w = sym (slice_get-map length words w)

-- the size of a word by the shape
pub lengths : (store : Store) (v w : ℕ) → option_map length (word_of store v w) ≡ length_in (slice_get (shape store) v) w
lengths store v w = lengths_in (slice_get store v) w ∙ ap (λ o. length_in o w) (sym (slice_get-map (λ words. map length words) store v))
