-- What wakes an event control, word by word.
use Rattle.std.proofs.Common.{◌≡◌, ℕ, ◌==◌, ◌||◌, ◌&&◌, Bool, true, false, Option, Some, None, List, [], ◌∷◌, map, length, slice_get, inl, inr, refl, sym, ◌∙◌, ap, ap₂}
use Rattle.std.specs.List.{list_any}
use Rattle.std.proofs.lemmas.Bool.{cases_Bool, eqb-true, eq-eqb, false≢true, false_from_ne_true}
use Rattle.vs_design.specs.vs_logic4.specs.declared.digit.Digit.{Digit}
use Rattle.vs_design.specs.vs_logic4.specs.declared.digit.Digit.TheVariants.{Zero, One, X, Z}
use Rattle.vs_design.specs.vs_logic4.specs.declared.edge.Edge.{Edge}
use Rattle.vs_design.specs.vs_logic4.specs.declared.edge.Edge.TheVariants.{Any, Posedge, Negedge}
use Rattle.vs_design.specs.vs_logic4.specs.Sameness.{same_digits-true}
use Rattle.vs_design.specs.vs_logic4.specs.Vectors.{same_digits}
use Rattle.vs_design.specs.declared.range.Bits.{Bits}
use Rattle.vs_design.specs.declared.range.BitRange.{BitRange}
use Rattle.vs_design.specs.declared.statement.EventTerm.{EventTerm}
use Rattle.vs_design.specs.declared.write.Part.{Part}
use Rattle.vs_design.specs.Stores.{Store, content, word_of, word_in, words_in, one_word, chosen_words, chosen_bits, put}
use Rattle.vs_design.specs.Uses.{is_of, has_word}
use Rattle.vs_design.specs.Writes.{Write}
use Rattle.vs_eval.specs.Differences.{bits_differ, difference, sees}
use Rattle.vs_eval.specs.Waking.{lowest_digit, is_edge_of, wakes_by, wakes, first_digit, edge_digit, edge_word, edge_in, range_wakes, term_wakes, word_wakes, part_wakes}
use Rattle.vs_eval.proofs.DifferencesLemmas.{sees_difference}
use Rattle.vs_eval.proofs.StoresLemmas.{is_at, put_keeps, changed_by_parts, same_bits_differ}
use Rattle.vs_design.proofs.Stores.{word_in-words}
use Rattle.vs_design.specs.vs_logic4.proofs.Basics.{any_none}

-- ---- no change

and_none : (a b c : Bool) → c ≡ false → (a && (b && c)) ≡ false
and_none true true c h = h
and_none true false c h = refl
and_none false b c h = refl

edge_none : (edge : Edge) (o : Option Digit) → is_edge_of edge o o ≡ false
edge_none edge None = refl
edge_none Any (Some Zero) = refl
edge_none Any (Some One) = refl
edge_none Any (Some X) = refl
edge_none Any (Some Z) = refl
edge_none Posedge (Some Zero) = refl
edge_none Posedge (Some One) = refl
edge_none Posedge (Some X) = refl
edge_none Posedge (Some Z) = refl
edge_none Negedge (Some Zero) = refl
edge_none Negedge (Some One) = refl
edge_none Negedge (Some X) = refl
edge_none Negedge (Some Z) = refl

same_wakes_range : (edge : Edge) (signal word : ℕ) (o : Option (List Digit)) (r : BitRange) → range_wakes edge signal word o o r ≡ false
same_wakes_range Any signal word o r = and_none (is_of signal r) (has_word r.word word) (bits_differ r.bits o o) (same_bits_differ r.bits o)
same_wakes_range Posedge signal word o r = and_none (is_of signal r) (edge_word r.word == word) _ (edge_none Posedge (edge_digit r.bits o))
same_wakes_range Negedge signal word o r = and_none (is_of signal r) (edge_word r.word == word) _ (edge_none Negedge (edge_digit r.bits o))

-- a word that keeps its value wakes nothing
pub same_wakes_none : (terms : List EventTerm) (signal word : ℕ) (o : Option (List Digit)) → word_wakes terms signal word o o ≡ false
same_wakes_none [] signal word o = refl
same_wakes_none (t ∷ ts) signal word o = ap₂ (λ (a b : Bool). a || b) (same_wakes_range t.edge signal word o t.range) (same_wakes_none ts signal word o)

-- two values that are the same wake nothing
pub equal_wakes_none : (terms : List EventTerm) (signal word : ℕ) (before behind : List Digit) → same_digits before behind ≡ true → false ≡ word_wakes terms signal word (Some before) (Some behind)
equal_wakes_none terms signal word before behind h =
    sym (ap (λ (ds : List Digit). word_wakes terms signal word (Some before) (Some ds)) (sym (same_digits-true before behind h)) ∙ same_wakes_none terms signal word (Some before))

-- ---- in code

-- a level term is woken where its range has a place at which the two values differ
pub level_wakes : (signal word : ℕ) (before behind : List Digit) (t : EventTerm) (n : ℕ) (b : Bool) → length before ≡ length behind → t.range.signal ≡ signal → t.edge ≡ Any →
    n ≡ difference before behind → b ≡ sees word n t.range → b ≡ term_wakes signal word (Some before) (Some behind) t
level_wakes signal word before behind t n b size here level differing seen =
    let r = t.range in
    let bits = bits_differ r.bits (Some before) (Some behind) in
    seen ∙ ap (λ m. sees word m r) differing
    ∙ ap (λ c. has_word r.word word && c) (sees_difference r.bits (Some before) (Some behind) (ap Some size))
    ∙ sym (ap (λ c. c && (has_word r.word word && bits)) (eq-eqb r.signal signal here))
    ∙ sym (ap (λ e. range_wakes e signal word (Some before) (Some behind) r) level)

-- ---- an edge

lowest_of_first : (ds : List Digit) (rest : List (List Digit)) → lowest_digit (ds ∷ rest) ≡ first_digit ds
lowest_of_first [] rest = refl
lowest_of_first (d ∷ ds) rest = refl

lowest_of_one : (bits : Option Bits) (o : Option (List Digit)) → lowest_digit (map (chosen_bits bits) (one_word o)) ≡ edge_digit bits o
lowest_of_one bits None = refl
lowest_of_one bits (Some word) = lowest_of_first (chosen_bits bits word) []

-- the lowest digit of what a range holds is that of its first word
lowest_is : (only : Option ℕ) (bits : Option Bits) (o : Option (List (List Digit))) →
    lowest_digit (map (chosen_bits bits) (chosen_words only (words_in o))) ≡ edge_digit bits (word_in o (edge_word only))
lowest_is None bits None = refl
lowest_is None bits (Some []) = refl
lowest_is None bits (Some (w ∷ ws)) = lowest_of_first (chosen_bits bits w) (map (chosen_bits bits) ws)
lowest_is (Some word) bits o = lowest_of_one bits (slice_get (words_in o) word) ∙ ap (edge_digit bits) (sym (word_in-words o word))

pub same_eqb : (m n : ℕ) → (m == n) ≡ (n == m)
same_eqb m n = elim (cases_Bool (m == n)) [
  | inl h ↦ h ∙ sym (eq-eqb n m (sym (eqb-true m n h)))
  | inr h ↦ h ∙ sym (false_from_ne_true (n == m) (λ t. false≢true (sym h ∙ eq-eqb m n (sym (eqb-true n m t)))))
]

-- a test of the parts of one word of a signal
one_guarded : (signal word : ℕ) (test : ℕ → ℕ → Bool) (p : Part) → ((signal == p.signal) && ((word == p.word) && test p.signal p.word)) ≡ (is_at signal word p && test signal word)
one_guarded signal word test p = elim (cases_Bool (p.signal == signal)) [
  | inl here ↦
      let s : p.signal ≡ signal = eqb-true p.signal signal here in
      elim (cases_Bool (p.word == word)) [
        | inl there ↦
            let w : p.word ≡ word = eqb-true p.word word there in
            ap₂ (λ (a b : Bool). a && (b && test p.signal p.word)) (same_eqb signal p.signal ∙ here) (same_eqb word p.word ∙ there)
            ∙ ap₂ test s w ∙ sym (ap₂ (λ (a b : Bool). (a && b) && test signal word) here there)
        | inr other ↦
            ap₂ (λ (a b : Bool). a && (b && test p.signal p.word)) (same_eqb signal p.signal ∙ here) (same_eqb word p.word ∙ other)
            ∙ sym (ap₂ (λ (a b : Bool). (a && b) && test signal word) here other)
      ]
  | inr other ↦
      ap (λ (a : Bool). a && ((word == p.word) && test p.signal p.word)) (same_eqb signal p.signal ∙ other)
      ∙ sym (ap (λ (a : Bool). (a && (p.word == word)) && test signal word) other)
]

or_and : (a b c : Bool) → ((a && c) || (b && c)) ≡ ((a || b) && c)
or_and true true true = refl
or_and true true false = refl
or_and true false true = refl
or_and true false false = refl
or_and false b c = refl

any_guarded : (signal word : ℕ) (test : ℕ → ℕ → Bool) (ps : Write) →
    list_any (λ (p : Part). (signal == p.signal) && ((word == p.word) && test p.signal p.word)) ps ≡ (list_any (is_at signal word) ps && test signal word)
any_guarded signal word test [] = refl
any_guarded signal word test (p ∷ ps) =
    ap₂ (λ (a b : Bool). a || b) (one_guarded signal word test p) (any_guarded signal word test ps)
    ∙ or_and (is_at signal word p) (list_any (is_at signal word) ps) (test signal word)

-- whether the change of a word between two stores is an edge of the lowest of some of its bits
abbrev edge_at : Edge → Option Bits → Store → Store → ℕ → ℕ → Bool
edge_at edge bits old new signal word = is_edge_of edge (edge_digit bits (word_of old signal word)) (edge_digit bits (word_of new signal word))

edge_kept : (edge : Edge) (bits : Option Bits) (store : Store) (w : Write) (signal word : ℕ) (named : Bool) → list_any (is_at signal word) w ≡ named →
    edge_at edge bits store (put store w) signal word ≡ (named && edge_at edge bits store (put store w) signal word)
edge_kept edge bits store w signal word true h = refl
edge_kept edge bits store w signal word false h =
    ap (λ o. is_edge_of edge (edge_digit bits (word_of store signal word)) (edge_digit bits o)) (put_keeps w store signal word h) ∙ edge_none edge (edge_digit bits (word_of store signal word))

-- a write is an edge of a range where one of its parts is
edge_by_parts : (edge : Edge) (signal : ℕ) (only : Option ℕ) (bits : Option Bits) (store : Store) (w : Write) →
    let r : BitRange = record { signal = signal; word = only; bits = bits } in
    is_edge_of edge (lowest_digit (content r store)) (lowest_digit (content r (put store w)))
    ≡ list_any (λ (p : Part). edge_in edge p.signal p.word (word_of store p.signal p.word) (word_of (put store w) p.signal p.word) r) w
edge_by_parts edge signal only bits store w =
    let new = put store w in
    let word = edge_word only in
    ap₂ (is_edge_of edge) (lowest_is only bits (slice_get store signal)) (lowest_is only bits (slice_get new signal))
    ∙ edge_kept edge bits store w signal word (list_any (is_at signal word) w) refl
    ∙ sym (any_guarded signal word (edge_at edge bits store new) w)

-- ---- terms

-- a write wakes a term where one of its parts does
range_by_parts : (edge : Edge) (t : EventTerm) (store : Store) (w : Write) →
    wakes_by edge store (put store w) t ≡ list_any (λ (p : Part). range_wakes edge p.signal p.word (word_of store p.signal p.word) (word_of (put store w) p.signal p.word) t.range) w
range_by_parts Any t store w = changed_by_parts w store t.range
range_by_parts Posedge t store w = edge_by_parts Posedge t.range.signal t.range.word t.range.bits store w
range_by_parts Negedge t store w = edge_by_parts Negedge t.range.signal t.range.word t.range.bits store w

four : (a b c d : Bool) → ((a || c) || (b || d)) ≡ ((a || b) || (c || d))
four true b c d = refl
four false true true d = refl
four false true false d = refl
four false false c d = refl

any_either : {A : Type 0} (f g : A → Bool) (xs : List A) → (list_any f xs || list_any g xs) ≡ list_any (λ x. f x || g x) xs
any_either f g [] = refl
any_either f g (x ∷ xs) = four (f x) (g x) (list_any f xs) (list_any g xs) ∙ ap (λ b. (f x || g x) || b) (any_either f g xs)

-- a write wakes one of some terms where one of its parts does
pub waking_by_parts : (terms : List EventTerm) (store : Store) (w : Write) → list_any (wakes store (put store w)) terms ≡ list_any (part_wakes terms store (put store w)) w
waking_by_parts [] store w = sym (any_none w)
waking_by_parts (t ∷ ts) store w =
    let new = put store w in
    ap₂ (λ (a b : Bool). a || b) (range_by_parts t.edge t store w) (waking_by_parts ts store w)
    ∙ any_either (λ (p : Part). term_wakes p.signal p.word (word_of store p.signal p.word) (word_of new p.signal p.word) t) (part_wakes ts store new) w
