-- What a process writes, in two stores.
use Rattle.std.proofs.Common.{◌≡◌, ◌↔◌, ℕ, zero, suc, ◌+◌, ◌<◌, ◌≤◌, Bool, true, false, IsTrue, Option, Some, None, option_map, List, [], ◌∷◌, map, length, replicate, slice_get, refl, sym, ◌∙◌, ap, subst, inl, inr, arith}
use Rattle.std.specs.List.{Contains}
use Rattle.std.proofs.lemmas.Bool.{and_from, cases_lt}
use Rattle.std.proofs.lemmas.List.{length-replicate}
use Rattle.std.proofs.lemmas.Option.{none-some, same_Some, slice_get_past, slice_get_within}
use Rattle.vs_design.specs.vs_logic4.specs.declared.digit.Digit.{Digit}
use Rattle.vs_design.specs.vs_logic4.specs.Vectors.{same_digits}
use Rattle.vs_design.specs.vs_logic4.proofs.Basics.{same_lists, and_left}
use Rattle.vs_design.specs.declared.design.Assign.{Assign}
use Rattle.vs_design.specs.declared.design.Process.{Process}
use Rattle.vs_design.specs.declared.range.BitRange.{BitRange}
use Rattle.vs_design.specs.declared.signal.Signal.{Signal}
use Rattle.vs_design.specs.Parts.{Parts}
use Rattle.vs_design.specs.Stores.{Store, same_words, start_store, start_word, start_words, word_of}
use Rattle.vs_design.proofs.Stores.{same_words-true, same_words_self}
use Rattle.vs_rules.specs.vs_process.specs.Writes.{statement_writes}
use Rattle.vs_rules.specs.vs_process.specs.BlockDrivers.{outputs_for, sizes}
use Rattle.vs_rules.specs.vs_process.proofs.Copying.{start_at}
use Rattle.vs_rules.specs.vs_process.proofs.ThreadLists.{contains_at, place_of}
use Rattle.vs_rules.specs.vs_process.proofs.Ranges.{same_sizes}
use Rattle.vs_rules_of_starts.specs.Cold.{SameWritten}
use Rattle.vs_rules_of_starts.proofs.MissingLemmas.{is_true, true_is}

-- ---- a word

head_is : (x y : List Digit) → x ∷ [] ≡ y ∷ [] → x ≡ y
head_is x y e = cc

digits_alike : (x y : List Digit) → same_digits x y ≡ true → x ≡ y
digits_alike x y h = head_is x y (same_words-true (x ∷ []) (y ∷ []) (and_from (same_digits x y) true h refl))

digits_self : (x : List Digit) → same_digits x x ≡ true
digits_self x = and_left (same_digits x x) true (same_words_self (x ∷ []))

pub same_word : (o p : Option (List Digit)) (x y : List Digit) (t : Bool) → o ≡ Some x → p ≡ Some y → t ≡ same_digits x y → (IsTrue t ↔ (o ≡ p))
same_word o p x y t is_x is_y told = (
  λ h. is_x ∙ ap (λ w. Some w) (digits_alike x y (sym told ∙ is_true t h)) ∙ sym is_y,
  λ e. true_is t (told ∙ ap (same_digits x) (sym (same_Some x y (sym is_x ∙ e ∙ is_y))) ∙ digits_self x),
)

-- ---- a signal

there : (o : Option (List (List Digit))) (ys : List (List Digit)) → option_map (λ words. map length words) o ≡ Some (map length ys) → (xs : List (List Digit)) × (o ≡ Some xs) × (map length xs ≡ map length ys)
there None ys h = absurd (none-some (map length ys) h)
there (Some xs) ys h = (xs, refl, same_Some (map length xs) (map length ys) h)

count_same : (xs ys : List (List Digit)) → map length xs ≡ map length ys → length xs ≡ length ys
count_same [] [] h = refl
count_same [] (y ∷ ys) h = cc
count_same (x ∷ xs) [] h = cc
count_same (x ∷ xs) (y ∷ ys) h = let e : map length xs ≡ map length ys = cc in ap suc (count_same xs ys e)

words_alike : (xs ys : List (List Digit)) (n : ℕ) → length xs ≡ n → length ys ≡ n → ((w : ℕ) → w < n → slice_get xs w ≡ slice_get ys w) → xs ≡ ys
words_alike xs ys n long as_long h = same_lists xs ys (λ k. elim (cases_lt k n) [
  | inl lt ↦ h k lt
  | inr le ↦ slice_get_past xs k (subst (λ m. m ≤ k) (sym long) le) ∙ sym (slice_get_past ys k (subst (λ m. m ≤ k) (sym as_long) le))
])

pub same_signal : (d : Parts) (a b : Store) → sizes a ≡ sizes (start_store d) → b ≡ start_store d → (v : ℕ) (s : Signal) → slice_get d.signals v ≡ Some s → (t : Bool) →
    (IsTrue t ↔ ((w : ℕ) → w < s.count → word_of a v w ≡ word_of b v w)) → (IsTrue t ↔ (slice_get a v ≡ slice_get b v))
same_signal d a b sized begins v s is t told = (λ h. alike (told.0 h), λ e. told.1 (λ w lt. ap (λ o. Rattle.vs_design.specs.Stores.word_in o w) e))
  where
    ys : List (List Digit)
    ys = replicate s.count (start_word d.assigns (0 + v) s)

    at_b : slice_get b v ≡ Some ys
    at_b = ap (λ (x : Store). slice_get x v) begins ∙ start_at d.assigns 0 d.signals v s is

    at_a : (xs : List (List Digit)) × (slice_get a v ≡ Some xs) × (map length xs ≡ map length ys)
    at_a = there (slice_get a v) ys (same_sizes a b v (sized ∙ ap sizes (sym begins)) ∙ ap (option_map (λ words. map length words)) at_b)

    alike : ((w : ℕ) → w < s.count → word_of a v w ≡ word_of b v w) → slice_get a v ≡ slice_get b v
    alike h =
        let xs = at_a.0 in
        at_a.1 ∙ ap (λ x. Some x) (words_alike xs ys s.count (count_same xs ys at_a.2 ∙ length-replicate s.count (start_word d.assigns (0 + v) s)) (length-replicate s.count (start_word d.assigns (0 + v) s))
        (λ w lt. sym (ap (λ o. Rattle.vs_design.specs.Stores.word_in o w) at_a.1) ∙ h w lt ∙ ap (λ o. Rattle.vs_design.specs.Stores.word_in o w) at_b)) ∙ sym at_b

past_start : (assigns : List Assign) (first : ℕ) (ss : List Signal) (v : ℕ) → slice_get ss v ≡ None → slice_get (start_words assigns first ss) v ≡ None
past_start assigns first [] v h = refl
past_start assigns first (s ∷ ss) zero h = absurd (none-some s (sym h))
past_start assigns first (s ∷ ss) (suc v) h = past_start assigns (suc first) ss v h

nothing_there : (o : Option (List (List Digit))) → option_map (λ words. map length words) o ≡ None → o ≡ None
nothing_there None h = refl
nothing_there (Some xs) h = absurd (none-some (map length xs) (sym h))

pub no_signal : (d : Parts) (a b : Store) → sizes a ≡ sizes (start_store d) → b ≡ start_store d → (v : ℕ) → slice_get d.signals v ≡ None → slice_get a v ≡ slice_get b v
no_signal d a b sized begins v is =
    let at_b : slice_get b v ≡ None = ap (λ (x : Store). slice_get x v) begins ∙ past_start d.assigns 0 d.signals v is in
    nothing_there (slice_get a v) (same_sizes a b v (sized ∙ ap sizes (sym begins)) ∙ ap (option_map (λ words. map length words)) at_b) ∙ sym at_b

-- ---- all that a process writes

-- the first so many of some ranges are of signals that are the same in both stores
abbrev pub SameBelow : List BitRange → ℕ → Store → Store → Type 0
SameBelow ranges n a b = (k : ℕ) (r : BitRange) → k < n → slice_get ranges k ≡ Some r → slice_get a r.signal ≡ slice_get b r.signal

pub one_more : (ranges : List BitRange) (i : ℕ) (a b : Store) (range : BitRange) → slice_get ranges i ≡ Some range → SameBelow ranges i a b → slice_get a range.signal ≡ slice_get b range.signal →
    SameBelow ranges (i + 1) a b
one_more ranges i a b range is before here k r lt at = elim (cases_lt k i) [
  | inl below ↦ before k r below at
  | inr above ↦
      let e : k ≡ i = omega (arith, lt, above) in
      let same : r ≡ range = same_Some r range (sym at ∙ ap (slice_get ranges) e ∙ is) in
      subst (λ (x : BitRange). slice_get a x.signal ≡ slice_get b x.signal) (sym same) here
]

of_process : (d : Parts) (i : ℕ) (q : Process) (ranges : List BitRange) → slice_get d.processes i ≡ Some q → ranges ≡ statement_writes q.body → ranges ≡ outputs_for (slice_get d.processes i)
of_process d i q ranges is told = told ∙ ap outputs_for (sym is)

pub all_same : (d : Parts) (i : ℕ) (q : Process) (ranges : List BitRange) (n : ℕ) (a b : Store) → slice_get d.processes i ≡ Some q → ranges ≡ statement_writes q.body → length ranges ≤ n → SameBelow ranges n a b →
    (IsTrue true ↔ SameWritten d i a b)
all_same d i q ranges n a b is told past all = (
  λ t v w.
      let at = place_of ranges w.range (subst (λ (l : List BitRange). Contains l w.range) (sym (of_process d i q ranges is told)) w.listed.0) in
      let lt : at.0 < length ranges = slice_get_within ranges at.0 w.range at.1 in
      subst (λ (x : ℕ). slice_get a x ≡ slice_get b x) w.of (all at.0 w.range (omega (arith, lt, past)) at.1),
  λ same. grind arith,
)

pub one_differs : (d : Parts) (i : ℕ) (q : Process) (ranges : List BitRange) (k : ℕ) (range : BitRange) (a b : Store) → slice_get d.processes i ≡ Some q → ranges ≡ statement_writes q.body → slice_get ranges k ≡ Some range →
    ((slice_get a range.signal ≡ slice_get b range.signal) → IsTrue false) → (IsTrue false ↔ SameWritten d i a b)
one_differs d i q ranges k range a b is told at differs = (
  λ t. absurd (grind (arith, t)),
  λ same. differs (same range.signal (record {
    range = range;
    listed = (subst (λ (l : List BitRange). Contains l range) (of_process d i q ranges is told) (contains_at ranges k range at), tt);
    of = refl;
  })),
)
