-- What a write keeps, and where two stores differ.
use Rattle.std.proofs.Common.{◌≡◌, ℕ, zero, suc, ◌==◌, ◌||◌, ◌&&◌, not, Bool, true, false, Option, Some, None, option_map, ◌⊎◌, List, [], ◌∷◌, map, length, slice_get, inl, inr, refl, sym, ◌∙◌, ap, ap₂, subst, ⊎_elim}
use Rattle.std.specs.List.{list_any}
use Rattle.std.specs.Option.{option_eq}
use Rattle.std.proofs.lemmas.Bool.{and_parts, and_from, or_parts, or_from, eqb-true, eq-eqb, cases_Bool, false≢true}
use Rattle.std.proofs.lemmas.Bool.Decides.{eqb_tells}
use Rattle.std.proofs.lemmas.Option.{slice_get-map}
use Rattle.vs_design.specs.vs_logic4.specs.declared.digit.Digit.{Digit}
use Rattle.vs_design.specs.vs_logic4.specs.Lengths.{length-with_part}
use Rattle.vs_design.specs.vs_logic4.specs.Sameness.{same_digits_self, same_digits-true}
use Rattle.vs_design.specs.vs_logic4.specs.Vectors.{same_digits}
use Rattle.vs_design.specs.declared.range.Bits.{Bits}
use Rattle.vs_design.specs.declared.range.BitRange.{BitRange}
use Rattle.vs_design.specs.declared.write.Part.{Part}
use Rattle.vs_design.specs.Stores.{Store, word_of, word_in, words_in, one_word, content, chosen_bits, same_words, is_changed, changed_at, overlaid, put_part, put}
use Rattle.vs_design.specs.Uses.{is_of, has_word}
use Rattle.vs_design.specs.Writes.{Write}
use Rattle.vs_eval.specs.Differences.{HaveOneSize, bits_differ, part_changes}
use Rattle.vs_design.proofs.Stores.{same_words-true, same_words_self, slice_get-changed_at as changed_at-here, word_in-words}
use Rattle.vs_design.specs.vs_logic4.proofs.Basics.{not_false, same_lists}

-- ---- one part

changed_at-other : {A : Type 0} (f : A → A) (i k : ℕ) (xs : List A) → (i ≡ k → ⊥) → slice_get (changed_at f i xs) k ≡ slice_get xs k
changed_at-other f i k [] h = refl
changed_at-other f zero zero (x ∷ xs) h = absurd (h refl)
changed_at-other f zero (suc k) (x ∷ xs) h = refl
changed_at-other f (suc i) zero (x ∷ xs) h = refl
changed_at-other f (suc i) (suc k) (x ∷ xs) h = changed_at-other f i k xs (λ e. h (ap suc e))

-- whether a part is of a word of a signal
abbrev pub is_at : ℕ → ℕ → Part → Bool
is_at signal word p = (p.signal == signal) && (p.word == word)

-- the digits of a part over a word, where there is one
abbrev laid : Part → Option (List Digit) → Option (List Digit)
laid p o = option_map (overlaid p.low p.digits) o

part_here : (p : Part) (store : Store) → word_of (put_part store p) p.signal p.word ≡ laid p (word_of store p.signal p.word)
part_here p store = ap (λ o. word_in o p.word) (changed_at-here (changed_at (overlaid p.low p.digits) p.word) p.signal store) ∙ within (slice_get store p.signal)
  where
    within : (o : Option (List (List Digit))) → word_in (option_map (changed_at (overlaid p.low p.digits) p.word) o) p.word ≡ laid p (word_in o p.word)
    within None = refl
    within (Some words) = changed_at-here (overlaid p.low p.digits) p.word words

part_word : (p : Part) (store : Store) (word : ℕ) → (p.word ≡ word → ⊥) → word_of (put_part store p) p.signal word ≡ word_of store p.signal word
part_word p store word h = ap (λ o. word_in o word) (changed_at-here (changed_at (overlaid p.low p.digits) p.word) p.signal store) ∙ within (slice_get store p.signal)
  where
    within : (o : Option (List (List Digit))) → word_in (option_map (changed_at (overlaid p.low p.digits) p.word) o) word ≡ word_in o word
    within None = refl
    within (Some words) = changed_at-other (overlaid p.low p.digits) p.word word words h

part_signal : (p : Part) (store : Store) (signal word : ℕ) → (p.signal ≡ signal → ⊥) → word_of (put_part store p) signal word ≡ word_of store signal word
part_signal p store signal word h = ap (λ o. word_in o word) (changed_at-other (changed_at (overlaid p.low p.digits) p.word) p.signal signal store h)

-- a part keeps each word that it isn't of
part_keeps : (p : Part) (store : Store) (signal word : ℕ) → is_at signal word p ≡ false → word_of (put_part store p) signal word ≡ word_of store signal word
part_keeps p store signal word h =
    ⊎_elim
    (λ same. ap (λ s. word_of (put_part store p) s word) (sym same.1)
    ∙ part_word p store word (λ e. false≢true (sym h ∙ and_from (p.signal == signal) (p.word == word) same.0 (eq-eqb p.word word e)))
    ∙ ap (λ s. word_of store s word) same.1)
    (λ other. part_signal p store signal word other.1)
    (eqb_tells p.signal signal)

laid_size : (p : Part) (o : Option (List Digit)) → HaveOneSize o (laid p o)
laid_size p None = refl
laid_size p (Some word) = ap Some (sym (length-with_part p.low p.digits word))

-- a part keeps the size of each word
part_size : (p : Part) (store : Store) (signal word : ℕ) → HaveOneSize (word_of store signal word) (word_of (put_part store p) signal word)
part_size p store signal word = elim (cases_Bool (is_at signal word p)) [
  | inl here ↦
      let parts = and_parts (p.signal == signal) (p.word == word) here in
      subst (λ s. HaveOneSize (word_of store s word) (word_of (put_part store p) s word)) (eqb-true p.signal signal parts.0)
      (subst (λ k. HaveOneSize (word_of store p.signal k) (word_of (put_part store p) p.signal k)) (eqb-true p.word word parts.1)
      (laid_size p (word_of store p.signal p.word) ∙ ap (option_map (λ (ds : List Digit). length ds)) (sym (part_here p store))))
  | inr other ↦ ap (option_map (λ (ds : List Digit). length ds)) (sym (part_keeps p store signal word other))
]

-- ---- a write

-- a write keeps the size of each word
pub put_size : (w : Write) (store : Store) (signal word : ℕ) → HaveOneSize (word_of store signal word) (word_of (put store w) signal word)
put_size [] store signal word = refl
put_size (p ∷ ps) store signal word = part_size p store signal word ∙ put_size ps (put_part store p) signal word

-- a write keeps each word that no part is of
pub put_keeps : (w : Write) (store : Store) (signal word : ℕ) → list_any (is_at signal word) w ≡ false → word_of (put store w) signal word ≡ word_of store signal word
put_keeps [] store signal word h = refl
put_keeps (p ∷ ps) store signal word h =
    let parts = or_parts (is_at signal word p) (list_any (is_at signal word) ps) h in
    put_keeps ps (put_part store p) signal word parts.1 ∙ part_keeps p store signal word parts.0

-- ---- where two stores differ

-- the bits of a range are the same in two values of a word
abbrev AreSame : Option Bits → Option (List Digit) → Option (List Digit) → Type 0
AreSame bits before behind = option_map (chosen_bits bits) before ≡ option_map (chosen_bits bits) behind

same_option : (a b : Option (List Digit)) → option_eq same_digits a b ≡ true → a ≡ b
same_option None None h = refl
same_option None (Some ds) h = cc
same_option (Some ds) None h = cc
same_option (Some ds) (Some es) h = ap Some (same_digits-true ds es h)

option_self : (a : Option (List Digit)) → option_eq same_digits a a ≡ true
option_self None = refl
option_self (Some ds) = same_digits_self ds

same_from : (bits : Option Bits) (a b : Option (List Digit)) → bits_differ bits a b ≡ false → AreSame bits a b
same_from bits a b h = same_option (option_map (chosen_bits bits) a) (option_map (chosen_bits bits) b) (not_false _ h)

same_to : (bits : Option Bits) (a b : Option (List Digit)) → AreSame bits a b → bits_differ bits a b ≡ false
same_to bits a b h = ap not (ap (option_eq same_digits (option_map (chosen_bits bits) a)) (sym h) ∙ option_self (option_map (chosen_bits bits) a))

-- bits of one value of a word don't differ
pub same_bits_differ : (bits : Option Bits) (a : Option (List Digit)) → bits_differ bits a a ≡ false
same_bits_differ bits a = same_to bits a a refl

-- words of a signal whose chosen bits are the same
abbrev AllSame : BitRange → Store → Store → Type 0
AllSame r old new = (k : ℕ) → has_word r.word k ≡ true → AreSame r.bits (word_of old r.signal k) (word_of new r.signal k)

one_content : (f : List Digit → List Digit) (o : Option (List Digit)) → map f (one_word o) ≡ one_word (option_map f o)
one_content f None = refl
one_content f (Some ds) = refl

one_word-self : (a b : Option (List Digit)) → one_word a ≡ one_word b → a ≡ b
one_word-self None None h = refl
one_word-self None (Some ds) h = cc
one_word-self (Some ds) None h = cc
one_word-self (Some ds) (Some es) h = cc

-- what a range holds is the same where each chosen word has the same chosen bits
content_from : (signal : ℕ) (word : Option ℕ) (bits : Option Bits) (old new : Store) →
    AllSame (record { signal = signal; word = word; bits = bits }) old new → content (record { signal = signal; word = word; bits = bits }) old ≡ content (record { signal = signal; word = word; bits = bits }) new
content_from signal None bits old new h =
    same_lists _ _ (λ k.
    slice_get-map (chosen_bits bits) (words_in (slice_get old signal)) k
    ∙ ap (option_map (chosen_bits bits)) (sym (word_in-words (slice_get old signal) k)) ∙ h k refl ∙ ap (option_map (chosen_bits bits)) (word_in-words (slice_get new signal) k)
    ∙ sym (slice_get-map (chosen_bits bits) (words_in (slice_get new signal)) k))
content_from signal (Some word) bits old new h =
    one_content (chosen_bits bits) (slice_get (words_in (slice_get old signal)) word)
    ∙ ap one_word (ap (option_map (chosen_bits bits)) (sym (word_in-words (slice_get old signal) word)) ∙ h word (eq-eqb word word refl)
    ∙ ap (option_map (chosen_bits bits)) (word_in-words (slice_get new signal) word))
    ∙ sym (one_content (chosen_bits bits) (slice_get (words_in (slice_get new signal)) word))

content_to : (signal : ℕ) (word : Option ℕ) (bits : Option Bits) (old new : Store) →
    content (record { signal = signal; word = word; bits = bits }) old ≡ content (record { signal = signal; word = word; bits = bits }) new → AllSame (record { signal = signal; word = word; bits = bits }) old new
content_to signal None bits old new h = λ k has.
    ap (option_map (chosen_bits bits)) (word_in-words (slice_get old signal) k) ∙ sym (slice_get-map (chosen_bits bits) (words_in (slice_get old signal)) k)
    ∙ ap (λ ws. slice_get ws k) h
    ∙ slice_get-map (chosen_bits bits) (words_in (slice_get new signal)) k ∙ ap (option_map (chosen_bits bits)) (sym (word_in-words (slice_get new signal) k))
content_to signal (Some word) bits old new h = λ k has.
    let here : word ≡ k = eqb-true word k has in
    let one = one_word-self (option_map (chosen_bits bits) (slice_get (words_in (slice_get old signal)) word)) (option_map (chosen_bits bits) (slice_get (words_in (slice_get new signal)) word))
    (sym (one_content (chosen_bits bits) (slice_get (words_in (slice_get old signal)) word)) ∙ h ∙ one_content (chosen_bits bits) (slice_get (words_in (slice_get new signal)) word))
    in
    subst (λ n. AreSame bits (word_of old signal n) (word_of new signal n)) here
    (ap (option_map (chosen_bits bits)) (word_in-words (slice_get old signal) word) ∙ one ∙ ap (option_map (chosen_bits bits)) (sym (word_in-words (slice_get new signal) word)))

unchanged_from : (r : BitRange) (old new : Store) → AllSame r old new → is_changed old new r ≡ false
unchanged_from r old new h =
    ap not (ap (same_words (content r old)) (sym (content_from r.signal r.word r.bits old new h)) ∙ same_words_self (content r old))

unchanged_to : (r : BitRange) (old new : Store) → is_changed old new r ≡ false → AllSame r old new
unchanged_to r old new h = content_to r.signal r.word r.bits old new (same_words-true (content r old) (content r new) (not_false _ h))

-- ---- a write changes a range where a part does

-- a word of which a part is, and that no part changes, has the same bits
same_named : (old new : Store) (r : BitRange) (k : ℕ) → has_word r.word k ≡ true → (ps : Write) → list_any (λ p. part_changes old new p r) ps ≡ false → list_any (is_at r.signal k) ps ≡ true →
    AreSame r.bits (word_of old r.signal k) (word_of new r.signal k)
same_named old new r k has [] none h = cc
same_named old new r k has (p ∷ ps) none h =
    let parts = or_parts (part_changes old new p r) (list_any (λ p. part_changes old new p r) ps) none in
    elim (cases_Bool (is_at r.signal k p)) [
      | inl here ↦
          let at = and_parts (p.signal == r.signal) (p.word == k) here in
          let signal : p.signal ≡ r.signal = eqb-true p.signal r.signal at.0 in
          let word : p.word ≡ k = eqb-true p.word k at.1 in
          let same : bits_differ r.bits (word_of old p.signal p.word) (word_of new p.signal p.word) ≡ false =
          sym (ap₂ (λ a b. a && (b && bits_differ r.bits (word_of old p.signal p.word) (word_of new p.signal p.word))) (eq-eqb r.signal p.signal (sym signal)) (ap (has_word r.word) word ∙ has)) ∙ parts.0
          in
          subst (λ s. AreSame r.bits (word_of old s k) (word_of new s k)) signal
          (subst (λ n. AreSame r.bits (word_of old p.signal n) (word_of new p.signal n)) word (same_from r.bits (word_of old p.signal p.word) (word_of new p.signal p.word) same))
      | inr other ↦ same_named old new r k has ps parts.1 (ap (λ b. b || list_any (is_at r.signal k) ps) (sym other) ∙ h)
    ]

three : (a b c : Bool) → ((a && b) ≡ false) ⊎ (c ≡ false) → (a && (b && c)) ≡ false
three false b c h = refl
three true false c h = refl
three true true c (inl h) = cc
three true true c (inr h) = h

changes_none : (old new : Store) (r : BitRange) → AllSame r old new → (p : Part) → part_changes old new p r ≡ false
changes_none old new r all p =
    let before = word_of old p.signal p.word in
    let behind = word_of new p.signal p.word in
    elim (cases_Bool (is_of p.signal r && has_word r.word p.word)) [
      | inl here ↦
          let parts = and_parts (is_of p.signal r) (has_word r.word p.word) here in
          let same : AreSame r.bits before behind = subst (λ s. AreSame r.bits (word_of old s p.word) (word_of new s p.word)) (eqb-true r.signal p.signal parts.0) (all p.word parts.1) in
          three (is_of p.signal r) (has_word r.word p.word) (bits_differ r.bits before behind) (inr (same_to r.bits before behind same))
      | inr other ↦ three (is_of p.signal r) (has_word r.word p.word) (bits_differ r.bits before behind) (inl other)
    ]

changes_no_part : (old new : Store) (r : BitRange) → AllSame r old new → (ps : Write) → list_any (λ p. part_changes old new p r) ps ≡ false
changes_no_part old new r all [] = refl
changes_no_part old new r all (p ∷ ps) = or_from (part_changes old new p r) (list_any (λ p. part_changes old new p r) ps) (changes_none old new r all p) (changes_no_part old new r all ps)

same_tests : (a b : Bool) → (a ≡ false → b ≡ false) → (b ≡ false → a ≡ false) → a ≡ b
same_tests true true f g = refl
same_tests true false f g = g refl
same_tests false true f g = sym (f refl)
same_tests false false f g = refl

-- a write changes a range where one of its parts does
pub changed_by_parts : (w : Write) (store : Store) (r : BitRange) → is_changed store (put store w) r ≡ list_any (λ p. part_changes store (put store w) p r) w
changed_by_parts w store r =
    let new = put store w in
    same_tests (is_changed store new r) (list_any (λ p. part_changes store new p r) w)
    (λ h. changes_no_part store new r (unchanged_to r store new h) w)
    (λ h. unchanged_from r store new (λ k has.
    elim (cases_Bool (list_any (is_at r.signal k) w)) [
      | inl named ↦ same_named store new r k has w h named
      | inr kept ↦ ap (option_map (chosen_bits r.bits)) (sym (put_keeps w store r.signal k kept))
    ]))
