-- An expression that has a size has values of that size.
use Rattle.std.proofs.Common.{◌≡◌, ℕ, ℤ, ◌+◌, ◌*◌, ◌≤◌, ◌==◌, ◌&&◌, Bool, true, false, cond, Option, Some, None, option_map, List, [], ◌∷◌, map, length, take, nat_le, if◌then◌else◌, refl, sym, ◌∙◌, ap, subst, arith}
use Rattle.std.proofs.lemmas.Bool.{eqb-true}
use Rattle.std.proofs.lemmas.List.{length-take}
use borrow.Author.Tests.{leb-true}
use Rattle.vs_design.specs.vs_logic4.specs.declared.digit.Digit.{Digit}
use Rattle.vs_design.specs.vs_logic4.specs.declared.digit.Digit.TheVariants.{Zero, One, X, Z}
use Rattle.vs_design.specs.vs_logic4.specs.declared.operators.Unary.{Unary}
use Rattle.vs_design.specs.vs_logic4.specs.declared.operators.Sizing.{Sizing}
use Rattle.vs_design.specs.vs_logic4.specs.declared.operators.Sizing.TheVariants.{Alike, Shift, Comparison, Logical}
use Rattle.vs_design.specs.vs_logic4.specs.Bitwise.{merged}
use Rattle.vs_design.specs.vs_logic4.specs.Comparisons.{truth}
use Rattle.vs_design.specs.vs_logic4.specs.Extensions.{length-resized}
use Rattle.vs_design.specs.vs_logic4.specs.Lengths.{length-all_unknown, length-digitwise, length-concatenation, length-replication, length-unary, length-binary, length-selected}
use Rattle.vs_design.specs.vs_logic4.specs.Operators.{unary, gives_bit, sizing_of, is_even, is_one_bit}
use Rattle.vs_design.specs.vs_logic4.specs.Parts.{concatenation, replication}
use Rattle.vs_design.specs.vs_logic4.specs.Tables.{merged_digit}
use Rattle.vs_design.specs.vs_logic4.specs.Vectors.{resized}
use Rattle.vs_design.specs.declared.expression.Link.{Link}
use Rattle.vs_design.specs.declared.expression.Typed.{Typed, Typed-F, fold-roll-Typed, map-Typed, ind-Typed, roll-Typed}
use Rattle.vs_design.specs.declared.expression.Typed.TheOpen as t
use Rattle.vs_design.specs.Selects.{place_of, word_place}
use Rattle.vs_design.specs.Stores.{Store, word_of}
use Rattle.vs_design.specs.WellFormed.{sized_by, linked_size, chain_size, picked_size, choice_size, sum_size, indexed_size, at_most_64, size_step, size_of}
use Rattle.vs_eval.specs.Values.{left_side, right_side, linked, chained, picked, chosen, concatenated, operand_value, bits_value, value_step, value_of}

-- operands that are to have one size are brought to one
pub one_size : (s : Sizing) (width : ℕ) (left right : List Digit) → is_even s ≡ true → length (left_side s width left) ≡ length (right_side s width right)
one_size Alike width left right h = length-resized false width left ∙ sym (length-resized false width right)
one_size Shift width left right h = cc
one_size Comparison width left right h = length-resized false width left ∙ sym (length-resized false width right)
one_size Logical width left right h = cc

-- ---- sizes

-- a vector of this size, where there is one
abbrev Has : Option ℕ → List Digit → Type 0
Has o ds = (n : ℕ) → o ≡ Some n → length ds ≡ n

when_true : (b : Bool) (m n : ℕ) → (if b then Some m else None) ≡ Some n → (b ≡ true) × (m ≡ n)
when_true true m n h = (refl, cc)
when_true false m n h = cc

mapped : (f : ℕ → ℕ) (o : Option ℕ) (n : ℕ) → option_map f o ≡ Some n → (m : ℕ) × (o ≡ Some m) × (f m ≡ n)
mapped f None n h = cc
mapped f (Some m) n h = (m, refl, cc)

limited : (o : Option ℕ) (n : ℕ) → at_most_64 o ≡ Some n → (o ≡ Some n) × (n ≤ 64)
limited None n h = cc
limited (Some m) n h =
    let parts = when_true (nat_le m 64) m n h in
    let most : m ≤ 64 = leb-true m 64 parts.0 in
    (ap Some parts.1, omega arith)

-- ---- chains

by_sizing : (s : Sizing) (width left right n : ℕ) (ds : List Digit) → sized_by s width left right ≡ Some n → cond (is_one_bit s) 1 (length (left_side s width ds)) ≡ n
by_sizing Alike width left right n ds h = length-resized false width ds ∙ (when_true ((left == width) && (right == width)) width n h).1
by_sizing Shift width left right n ds h = length-resized false width ds ∙ (when_true (left == width) width n h).1
by_sizing Comparison width left right n ds h = (when_true (nat_le left width && (right == width)) 1 n h).1
by_sizing Logical width left right n ds h = cc

linked_has : (o p : Option ℕ) (l : Link) (left right : List Digit) → Has (linked_size o (l, p)) (linked left (l, right))
linked_has None p l left right n h = cc
linked_has (Some a) None l left right n h = cc
linked_has (Some a) (Some b) l left right n h =
    let s = sizing_of l.operator in
    length-binary l.operator l.signed (left_side s l.width left) (right_side s l.width right) (one_size s l.width left right)
    ∙ by_sizing s l.width a b n left h

module _ (store : Store) (time : ℕ) where
  -- an expression whose values have its size, where it has one
  abbrev Sized : Typed → Type 0
  Sized e = Has (size_of e) (value_of e store time)

  abbrev bare : (e : Typed) × Sized e → Typed
  bare e = e.0

  abbrev bare_link : Link × ((e : Typed) × Sized e) → Link × Typed
  bare_link l = (l.0, l.1.0)

  abbrev bare_pair : ((e : Typed) × Sized e) × ((e : Typed) × Sized e) → Typed × Typed
  bare_pair p = (p.0.0, p.1.0)

  chain_has : (o : Option ℕ) (first : List Digit) (links : List (Link × ((e : Typed) × Sized e))) → Has o first →
      Has (chain_size o (map (λ (l : Link × Typed). (l.0, size_of l.1)) (map bare_link links))) (chained first (map (λ (l : Link × Typed). (l.0, value_of l.1 store time)) (map bare_link links)))
  chain_has o first [] h = h
  chain_has o first (l ∷ ls) h =
      let v = value_of l.1.0 store time in
      chain_has (linked_size o (l.0, size_of l.1.0)) (linked first (l.0, v)) ls (linked_has o (size_of l.1.0) l.0 first v)

  -- ---- choices

  merged_has : (x y : ℕ) (v w : List Digit) → length v ≡ x → length (merged v (resized false (length v) w)) ≡ x
  merged_has x y v w h = length-digitwise merged_digit v (resized false (length v) w) (sym (length-resized false (length v) w)) ∙ h

  by_truth : (c : Digit) (x y n : ℕ) (v w : List Digit) → length v ≡ x → length w ≡ y → (if x == y then Some x else None) ≡ Some n → length (picked c v w) ≡ n
  by_truth One x y n v w h k is = h ∙ (when_true (x == y) x n is).1
  by_truth Zero x y n v w h k is = let parts = when_true (x == y) x n is in k ∙ sym (eqb-true x y parts.0) ∙ parts.1
  by_truth X x y n v w h k is = merged_has x y v w h ∙ (when_true (x == y) x n is).1
  by_truth Z x y n v w h k is = merged_has x y v w h ∙ (when_true (x == y) x n is).1

  picked_has : (c : Digit) (o p q : Option ℕ) (v w : List Digit) → Has p v → Has q w → Has (picked_size o p q) (picked c v w)
  picked_has c None p q v w h k n is = cc
  picked_has c (Some a) None q v w h k n is = cc
  picked_has c (Some a) (Some x) None v w h k n is = cc
  picked_has c (Some a) (Some x) (Some y) v w h k n is = by_truth c x y n v w (h x refl) (k y refl) is

  choice_has : (pairs : List (((e : Typed) × Sized e) × ((e : Typed) × Sized e))) (o : Option ℕ) (last : List Digit) → Has o last →
      Has (choice_size (map (λ (p : Typed × Typed). (size_of p.0, size_of p.1)) (map bare_pair pairs)) o) (chosen (map (λ (p : Typed × Typed). (value_of p.0 store time, value_of p.1 store time)) (map bare_pair pairs)) last)
  choice_has [] o last h = h
  choice_has (p ∷ ps) o last h =
      let rest = map bare_pair ps in
      picked_has (truth (value_of p.0.0 store time)) (size_of p.0.0) (size_of p.1.0)
      (choice_size (map (λ (p : Typed × Typed). (size_of p.0, size_of p.1)) rest) o) (value_of p.1.0 store time)
      (chosen (map (λ (p : Typed × Typed). (value_of p.0 store time, value_of p.1 store time)) rest) last) p.1.1 (choice_has ps o last h)

  -- ---- concatenations

  summed : (o : Option ℕ) (os : List (Option ℕ)) (n : ℕ) → sum_size (o ∷ os) ≡ Some n → (a : ℕ) × (m : ℕ) × (o ≡ Some a) × (sum_size os ≡ Some m) × (a + m ≡ n)
  summed None os n h = cc
  summed (Some a) os n h = let rest = mapped (λ m. a + m) (sum_size os) n h in (a, rest.0, refl, rest.1, rest.2)

  length-joined : (high low : List Digit) → length high + length low ≤ 64 → length (take 64 (concatenation high low)) ≡ length high + length low
  length-joined high low h = omega (arith, length-take 64 (concatenation high low), length-concatenation high low)

  parts_have : (parts : List ((e : Typed) × Sized e)) (high : List Digit) (m : ℕ) → sum_size (map size_of (map bare parts)) ≡ Some m → length high + m ≤ 64 →
      length (concatenated high (map (λ (e : Typed). value_of e store time) (map bare parts))) ≡ length high + m
  parts_have [] high m h most = let none : 0 ≡ m = cc in omega arith
  parts_have (e ∷ es) high m h most =
      let sum = summed (size_of e.0) (map size_of (map bare es)) m h in
      let v = value_of e.0 store time in
      let size : length v ≡ sum.0 = e.1 sum.0 sum.2 in
      let all : sum.0 + sum.1 ≡ m = sum.4 in
      let both : length (take 64 (concatenation high v)) ≡ length high + length v = length-joined high v (omega arith) in
      parts_have es (take 64 (concatenation high v)) sum.1 sum.3 (omega arith) ∙ omega arith

  concat_has : (x : (e : Typed) × Sized e) (parts : List ((e : Typed) × Sized e)) →
      Has (at_most_64 (sum_size (size_of x.0 ∷ map size_of (map bare parts)))) (concatenated (value_of x.0 store time) (map (λ (e : Typed). value_of e store time) (map bare parts)))
  concat_has x parts n h =
      let most = limited (sum_size (size_of x.0 ∷ map size_of (map bare parts))) n h in
      let sum = summed (size_of x.0) (map size_of (map bare parts)) n most.0 in
      let first : length (value_of x.0 store time) ≡ sum.0 = x.1 sum.0 sum.2 in
      let all : sum.0 + sum.1 ≡ n = sum.4 in
      let short : n ≤ 64 = most.1 in
      parts_have parts (value_of x.0 store time) sum.1 sum.3 (omega arith) ∙ omega arith

  repeat_has : (times : ℕ) (o : Option ℕ) (v : List Digit) → Has o v → Has (at_most_64 (option_map (λ m. times * m) o)) (take 64 (replication times v))
  repeat_has times o v h n is =
      let most = limited (option_map (λ m. times * m) o) n is in
      let some = mapped (λ m. times * m) o n most.0 in
      let whole : length (replication times v) ≡ n = length-replication times v ∙ ap (λ m. times * m) (h some.0 some.1) ∙ some.2 in
      let short : n ≤ 64 = most.1 in
      omega (arith, length-take 64 (replication times v))

  -- ---- expressions

  operand_has : (signed : Bool) (width : ℕ) (o : Option (List Digit)) → length (operand_value signed width o) ≡ width
  operand_has signed width None = length-all_unknown width
  operand_has signed width (Some word) = length-resized signed width word

  bits_has : (low : ℤ) (width : ℕ) (o : Option (List Digit)) → length (bits_value low width o) ≡ width
  bits_has low width None = length-all_unknown width
  bits_has low width (Some word) = length-selected low width word

  indexed : (width : ℕ) (o p : Option ℕ) (n : ℕ) → indexed_size width o p ≡ Some n → width ≡ n
  indexed width None p n h = cc
  indexed width (Some a) None n h = cc
  indexed width (Some a) (Some b) n h = cc

  unary_has : (op : Unary) (o : Option ℕ) (v : List Digit) → Has o v → Has (option_map (λ n. if gives_bit op then 1 else n) o) (unary op v)
  unary_has op o v h n is =
      let some = mapped (λ n. if gives_bit op then 1 else n) o n is in
      length-unary op v ∙ ap (λ m. if gives_bit op then 1 else m) (h some.0 some.1) ∙ some.2

  inner : (y : Typed-F ((e : Typed) × Sized e)) →
      Has (size_step (map-Typed Typed (Option ℕ) size_of (map-Typed ((e : Typed) × Sized e) Typed (λ e. e.0) y)))
      (value_step store time (map-Typed Typed (List Digit) (λ e. value_of e store time) (map-Typed ((e : Typed) × Sized e) Typed (λ e. e.0) y)))
  inner (t.Number digits) n h = cc
  inner (t.Signal o) n h = let is : o.width ≡ n = cc in operand_has o.signed o.width (word_of store o.signal 0) ∙ is
  inner (t.Slice s) n h = let is : s.width ≡ n = cc in bits_has s.low s.width (word_of store s.signal s.word) ∙ is
  inner (t.Select s word low) n h =
      bits_has (place_of s.bits s.width (value_of low.value.0 store time)) s.width (word_of store s.signal (word_place s.words (value_of word.value.0 store time)))
      ∙ indexed s.width (size_of word.value.0) (size_of low.value.0) n h
  inner (t.Excerpt s low) n h =
      let some = mapped (λ m. s.width) (size_of low.value.0) n h in
      bits_has (place_of s.bits s.width (value_of low.value.0 store time)) s.width (Some s.digits) ∙ some.2
  inner (t.Unary op x) n h = unary_has op (size_of x.value.0) (value_of x.value.0 store time) x.value.1 n h
  inner (t.Chain x links) n h = chain_has (size_of x.value.0) (value_of x.value.0 store time) links.items x.value.1 n h
  inner (t.Choice pairs last) n h = choice_has pairs.items (size_of last.value.0) (value_of last.value.0 store time) last.value.1 n h
  inner (t.Concat x parts) n h = concat_has x.value parts.items n h
  inner (t.Repeat count x) n h = repeat_has count.times (size_of x.value.0) (value_of x.value.0 store time) x.value.1 n h
  inner (t.Resized size x) n h =
      let some = mapped (λ m. size.width) (size_of x.value.0) n h in
      length-resized size.signed size.width (value_of x.value.0 store time) ∙ some.2

  layer : (y : Typed-F ((e : Typed) × Sized e)) → Sized (roll-Typed (map-Typed ((e : Typed) × Sized e) Typed (λ e. e.0) y))
  layer y n h =
      let x : Typed-F Typed = map-Typed ((e : Typed) × Sized e) Typed (λ e. e.0) y in
      ap length (fold-roll-Typed (List Digit) (value_step store time) x) ∙ inner y n (sym (fold-roll-Typed (Option ℕ) size_step x) ∙ h)

  -- an expression that has a size has a value of that size
  pub value_has : (e : Typed) → Sized e
  value_has e = ind-Typed Sized (λ x y is. subst (λ z. Sized (roll-Typed z)) is (layer y)) e
