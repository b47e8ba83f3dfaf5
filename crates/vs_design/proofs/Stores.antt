-- Lemmas on stores.
use Rattle.std.proofs.Common.{◌≡◌, ◌≢◌, ℕ, zero, suc, ◌==◌, ◌&&◌, ◌||◌, ◌⊎◌, inl, inr, Bool, true, false, not, if◌then◌else◌, Option, Some, None, List, [], ◌∷◌, map, length, slice_get, option_map, refl, sym, ◌∙◌, ap, ap₂, ⊎_elim}
use Rattle.std.specs.Prelude.{slice_set}
use Rattle.std.specs.List.{list_any, list_all}
use Rattle.std.proofs.lemmas.Bool.{eqb-false}
use Rattle.std.proofs.lemmas.Bool.Decides.{eqb_tells}
use Rattle.std.proofs.lemmas.Option.{none-some, same_Some}
use Rattle.vs_logic4.specs.declared.digit.Digit.{Digit}
use Rattle.vs_logic4.specs.Vectors.{same_digits}
use Rattle.vs_logic4.specs.Sameness.{same_digits_self, same_digits-true}
use Rattle.vs_design.specs.declared.write.Part.{Part}
use Rattle.vs_design.specs.WordWrites.{after_parts, is_kept, keeps}
use Rattle.vs_design.specs.Stores.{Store, word_in, words_in, word_of, changed_at, put_part, put, overlaid, same_words, is_changed, chosen_bits, changes_nothing}
use Rattle.vs_design.specs.Uses.{all_words}
use Rattle.vs_design.specs.Writes.{Write}
use Rattle.vs_logic4.proofs.Basics.{and_left, and_right, left_false as or_left, not_false, right_false as or_right, same_lists as same_elements}

-- ---- a list with a change at a place

pub changed_at-kept : {A : Type 0} (f : A → A) (i : ℕ) (xs : List A) → ((x : A) → slice_get xs i ≡ Some x → f x ≡ x) → changed_at f i xs ≡ xs
changed_at-kept f i [] h = refl
changed_at-kept f zero (x ∷ xs) h = ap (λ y. y ∷ xs) (h x refl)
changed_at-kept f (suc i) (x ∷ xs) h = ap (λ ys. x ∷ ys) (changed_at-kept f i xs h)

pub length-changed_at : {A : Type 0} (f : A → A) (i : ℕ) (xs : List A) → length (changed_at f i xs) ≡ length xs
length-changed_at f i [] = refl
length-changed_at f zero (x ∷ xs) = refl
length-changed_at f (suc i) (x ∷ xs) = ap suc (length-changed_at f i xs)

pub slice_get-changed_at : {A : Type 0} (f : A → A) (i : ℕ) (xs : List A) → slice_get (changed_at f i xs) i ≡ option_map f (slice_get xs i)
slice_get-changed_at f i [] = refl
slice_get-changed_at f zero (x ∷ xs) = refl
slice_get-changed_at f (suc i) (x ∷ xs) = slice_get-changed_at f i xs

pub slice_get-changed_at_other : {A : Type 0} (f : A → A) (i j : ℕ) (xs : List A) → i ≢ j → slice_get (changed_at f i xs) j ≡ slice_get xs j
slice_get-changed_at_other f i j [] h = refl
slice_get-changed_at_other f zero zero (x ∷ xs) h = absurd (h refl)
slice_get-changed_at_other f zero (suc j) (x ∷ xs) h = refl
slice_get-changed_at_other f (suc i) zero (x ∷ xs) h = refl
slice_get-changed_at_other f (suc i) (suc j) (x ∷ xs) h = slice_get-changed_at_other f i j xs (λ e. h (ap suc e))

-- one element written, as its change
pub changed_at-set : {A : Type 0} (f : A → A) (i : ℕ) (xs : List A) (x : A) → slice_get xs i ≡ Some x → slice_set xs i (f x) ≡ changed_at f i xs
changed_at-set f i [] x h = absurd (none-some x h)
changed_at-set f zero (y ∷ xs) x h = ap (λ z. f z ∷ xs) (sym (same_Some y x h))
changed_at-set f (suc i) (y ∷ xs) x h = ap (λ ys. y ∷ ys) (changed_at-set f i xs x h)

-- a change past the end
pub changed_at-past : {A : Type 0} (f : A → A) (i : ℕ) (xs : List A) → slice_get xs i ≡ None → xs ≡ changed_at f i xs
changed_at-past f i xs h = sym (changed_at-kept f i xs (λ x found. absurd (none-some x (sym h ∙ found))))

-- ---- a word behind a write

-- a change of one word keeps each other word
pub word_keeps : (f : List Digit → List Digit) (i k : ℕ) (o : Option (List (List Digit))) → i ≢ k → word_in (option_map (changed_at f i) o) k ≡ word_in o k
word_keeps f i k None h = refl
word_keeps f i k (Some words) h = slice_get-changed_at_other f i k words h

pub word_changes : (f : List Digit → List Digit) (k : ℕ) (o : Option (List (List Digit))) → word_in (option_map (changed_at f k) o) k ≡ option_map f (word_in o k)
word_changes f k None = refl
word_changes f k (Some words) = slice_get-changed_at f k words

-- a part changes the word that it names
pub part_changes : (p : Part) (store : Store) → word_of (put_part store p) p.signal p.word ≡ option_map (overlaid p.low p.digits) (word_of store p.signal p.word)
part_changes p store =
    ap (λ o. word_in o p.word) (slice_get-changed_at (changed_at (overlaid p.low p.digits) p.word) p.signal store)
    ∙ word_changes (overlaid p.low p.digits) p.word (slice_get store p.signal)

-- a part keeps each other signal
pub part_keeps : (p : Part) (store : Store) (signal : ℕ) → (p.signal == signal) ≡ false → slice_get (put_part store p) signal ≡ slice_get store signal
part_keeps p store signal h = slice_get-changed_at_other (changed_at (overlaid p.low p.digits) p.word) p.signal signal store (eqb-false p.signal signal h)

-- a part keeps each other word of its signal
part_keeps_word : (p : Part) (store : Store) (word : ℕ) → (p.word == word) ≡ false → word_of (put_part store p) p.signal word ≡ word_of store p.signal word
part_keeps_word p store word h =
    ap (λ o. word_in o word) (slice_get-changed_at (changed_at (overlaid p.low p.digits) p.word) p.signal store)
    ∙ word_keeps (overlaid p.low p.digits) p.word word (slice_get store p.signal) (eqb-false p.word word h)

-- a word behind one part
abbrev after_part : Part → ℕ → ℕ → List Digit → List Digit
after_part p signal word before = if (p.signal == signal) && (p.word == word) then overlaid p.low p.digits before else before

option_same : {A : Type 0} (o : Option A) → o ≡ option_map (λ x. x) o
option_same None = refl
option_same (Some x) = refl

word_after : (p : Part) (store : Store) (signal word : ℕ) → word_of (put_part store p) signal word ≡ option_map (after_part p signal word) (word_of store signal word)
word_after p store signal word =
    ⊎_elim
    (λ here.
    ⊎_elim
    (λ same.
    ap₂ (λ s k. word_of (put_part store p) s k) (sym here.1) (sym same.1)
    ∙ part_changes p store
    ∙ ap₂ (λ s k. option_map (overlaid p.low p.digits) (word_of store s k)) here.1 same.1
    ∙ ap₂ (λ a b. option_map (λ before. if a && b then overlaid p.low p.digits before else before) (word_of store signal word)) (sym here.0) (sym same.0))
    (λ other.
    ap (λ s. word_of (put_part store p) s word) (sym here.1)
    ∙ part_keeps_word p store word other.0
    ∙ ap (λ s. word_of store s word) here.1
    ∙ option_same (word_of store signal word)
    ∙ ap₂ (λ a b. option_map (λ before. if a && b then overlaid p.low p.digits before else before) (word_of store signal word)) (sym here.0) (sym other.0))
    (eqb_tells p.word word))
    (λ other.
    ap (λ o. word_in o word) (part_keeps p store signal other.0)
    ∙ option_same (word_of store signal word)
    ∙ ap (λ a. option_map (λ before. if a && (p.word == word) then overlaid p.low p.digits before else before) (word_of store signal word)) (sym other.0))
    (eqb_tells p.signal signal)

option_twice : {A : Type 0} (f g : A → A) (o : Option A) → option_map g (option_map f o) ≡ option_map (λ x. g (f x)) o
option_twice f g None = refl
option_twice f g (Some x) = refl

-- a word behind a write, where there is one
pub word_after_write : (w : Write) (store : Store) (signal word : ℕ) → word_of (put store w) signal word ≡ option_map (after_parts w signal word) (word_of store signal word)
word_after_write [] store signal word = option_same (word_of store signal word)
word_after_write (p ∷ ps) store signal word =
    word_after_write ps (put_part store p) signal word
    ∙ ap (option_map (after_parts ps signal word)) (word_after p store signal word)
    ∙ option_twice (after_part p signal word) (after_parts ps signal word) (word_of store signal word)

pub behind_Some : (w : Write) (store : Store) (signal word : ℕ) (before : List Digit) → word_of store signal word ≡ Some before →
    Some (after_parts w signal word before) ≡ word_of (put store w) signal word
behind_Some w store signal word before h = sym (word_after_write w store signal word ∙ ap (option_map (after_parts w signal word)) h)

pub behind_None : (w : Write) (store : Store) (signal word : ℕ) → word_of store signal word ≡ None → None ≡ word_of (put store w) signal word
behind_None w store signal word h = sym (word_after_write w store signal word ∙ ap (option_map (after_parts w signal word)) h)

-- ---- changes

pub same_words_self : (ws : List (List Digit)) → same_words ws ws ≡ true
same_words_self [] = refl
same_words_self (w ∷ ws) = rw (same_digits_self w, same_words_self ws) refl

pub same_words-true : (as' bs : List (List Digit)) → same_words as' bs ≡ true → as' ≡ bs
same_words-true [] [] h = refl
same_words-true [] (b ∷ bs) h = cc
same_words-true (a ∷ as') [] h = cc
same_words-true (a ∷ as') (b ∷ bs) h =
    ap₂ (λ x xs. x ∷ xs) (same_digits-true a b (and_left (same_digits a b) (same_words as' bs) h)) (same_words-true as' bs (and_right (same_digits a b) (same_words as' bs) h))

pub map_none : (ws : List (List Digit)) → map (chosen_bits None) ws ≡ ws
map_none [] = refl
map_none (w ∷ ws) = ap (λ xs. w ∷ xs) (map_none ws)

pub word_in-words : (o : Option (List (List Digit))) (k : ℕ) → word_in o k ≡ slice_get (words_in o) k
word_in-words None k = refl
word_in-words (Some words) k = refl

-- stores with the same words of a signal hold the same of it
pub unchanged_signal : (old new : Store) (signal : ℕ) → ((word : ℕ) → word_of old signal word ≡ word_of new signal word) → is_changed old new (all_words signal) ≡ false
unchanged_signal old new signal h =
    let same : words_in (slice_get old signal) ≡ words_in (slice_get new signal) =
    same_elements _ _ (λ k. sym (word_in-words (slice_get old signal) k) ∙ h k ∙ word_in-words (slice_get new signal) k) in
    ap (λ ws. not (same_words (map (chosen_bits None) ws) (map (chosen_bits None) (words_in (slice_get new signal))))) same
    ∙ ap not (same_words_self (map (chosen_bits None) (words_in (slice_get new signal))))

-- stores that hold the same of a signal have the same words of it
pub same_signal : (old new : Store) (signal word : ℕ) → is_changed old new (all_words signal) ≡ false → word_of old signal word ≡ word_of new signal word
same_signal old new signal word h =
    let same : words_in (slice_get old signal) ≡ words_in (slice_get new signal) =
    sym (map_none (words_in (slice_get old signal))) ∙ same_words-true _ _ (not_false _ h) ∙ map_none (words_in (slice_get new signal)) in
    word_in-words (slice_get old signal) word ∙ ap (λ ws. slice_get ws word) same ∙ sym (word_in-words (slice_get new signal) word)

-- ---- whether a write changes nothing

kept_true : (f : List Digit → List Digit) (o : Option (List Digit)) → is_kept f o ≡ true → option_map f o ≡ o
kept_true f None h = refl
kept_true f (Some b) h = ap Some (sym (same_digits-true b (f b) h))

kept_from : (f : List Digit → List Digit) (o : Option (List Digit)) → option_map f o ≡ o → is_kept f o ≡ true
kept_from f None h = refl
kept_from f (Some b) h = ap (same_digits b) (same_Some (f b) b h) ∙ same_digits_self b

-- whether a part names a word
abbrev names_word : ℕ → ℕ → Part → Bool
names_word signal word p = (p.signal == signal) && (p.word == word)

behind_unnamed : (ps : Write) (signal word : ℕ) (b : List Digit) → list_any (names_word signal word) ps ≡ false → after_parts ps signal word b ≡ b
behind_unnamed [] signal word b h = refl
behind_unnamed (p ∷ ps) signal word b h =
    ap (λ c. after_parts ps signal word (if c then overlaid p.low p.digits b else b)) (or_left (names_word signal word p) (list_any (names_word signal word) ps) h)
    ∙ behind_unnamed ps signal word b (or_right (names_word signal word p) (list_any (names_word signal word) ps) h)

map_kept : (f : List Digit → List Digit) (o : Option (List Digit)) → ((b : List Digit) → f b ≡ b) → option_map f o ≡ o
map_kept f None h = refl
map_kept f (Some b) h = ap Some (h b)

module _ (store : Store) (w : Write) where
  keeps_true : (p : Part) → keeps store w p ≡ true → word_of (put store w) p.signal p.word ≡ word_of store p.signal p.word
  keeps_true p h = word_after_write w store p.signal p.word ∙ kept_true (after_parts w p.signal p.word) (word_of store p.signal p.word) h

  keeps_from : (p : Part) → word_of (put store w) p.signal p.word ≡ word_of store p.signal p.word → keeps store w p ≡ true
  keeps_from p h = kept_from (after_parts w p.signal p.word) (word_of store p.signal p.word) (sym (word_after_write w store p.signal p.word) ∙ h)

  -- of parts that keep their words none names a word, or it is kept
  each_kept : (ps : Write) (signal word : ℕ) → list_all (keeps store w) ps ≡ true →
      (list_any (names_word signal word) ps ≡ false) ⊎ (word_of (put store w) signal word ≡ word_of store signal word)
  each_kept [] signal word h = inl refl
  each_kept (p ∷ ps) signal word h =
      ⊎_elim
      (λ here.
      ⊎_elim
      (λ same. inr (ap₂ (λ s k. word_of (put store w) s k) (sym here.1) (sym same.1) ∙ keeps_true p (and_left (keeps store w p) _ h) ∙ ap₂ (λ s k. word_of store s k) here.1 same.1))
      (λ other. ⊎_elim (λ none. inl (ap₂ (λ a b. (a && b) || list_any (names_word signal word) ps) here.0 other.0 ∙ none)) (λ kept. inr kept) (each_kept ps signal word (and_right (keeps store w p) _ h)))
      (eqb_tells p.word word))
      (λ other. ⊎_elim (λ none. inl (ap (λ a. (a && (p.word == word)) || list_any (names_word signal word) ps) other.0 ∙ none)) (λ kept. inr kept) (each_kept ps signal word (and_right (keeps store w p) _ h)))
      (eqb_tells p.signal signal)

  all_kept : (signal word : ℕ) → list_all (keeps store w) w ≡ true → word_of store signal word ≡ word_of (put store w) signal word
  all_kept signal word h =
      ⊎_elim
      (λ none. sym (word_after_write w store signal word ∙ map_kept (after_parts w signal word) (word_of store signal word) (λ b. behind_unnamed w signal word b none)))
      (λ kept. sym kept)
      (each_kept w signal word h)

  none_changed : (ps : Write) → list_all (keeps store w) w ≡ true → list_any (λ (p : Part). is_changed store (put store w) (all_words p.signal)) ps ≡ false
  none_changed [] h = refl
  none_changed (p ∷ ps) h =
      ap (λ b. b || list_any (λ (p : Part). is_changed store (put store w) (all_words p.signal)) ps) (unchanged_signal store (put store w) p.signal (λ word. all_kept p.signal word h))
      ∙ none_changed ps h

  all_keep : (ps : Write) → list_any (λ (p : Part). is_changed store (put store w) (all_words p.signal)) ps ≡ false → list_all (keeps store w) ps ≡ true
  all_keep [] h = refl
  all_keep (p ∷ ps) h =
      ap₂ (λ a b. a && b)
      (keeps_from p (sym (same_signal store (put store w) p.signal p.word (or_left (is_changed store (put store w) (all_words p.signal)) _ h))))
      (all_keep ps (or_right (is_changed store (put store w) (all_words p.signal)) _ h))

same_tests : (b c : Bool) → (b ≡ true → c ≡ false) → (c ≡ false → b ≡ true) → b ≡ not c
same_tests true true h k = h refl
same_tests true false h k = refl
same_tests false true h k = refl
same_tests false false h k = k refl

-- a write changes nothing where each word that it names is kept
pub keeps_all : (store : Store) (w : Write) → list_all (keeps store w) w ≡ changes_nothing store w
keeps_all store w = same_tests (list_all (keeps store w) w) _ (λ h. none_changed store w w h) (λ h. all_keep store w w h)
