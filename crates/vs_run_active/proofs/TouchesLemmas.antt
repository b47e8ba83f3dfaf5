-- Which continuous assignments the words wake that a write changes.
use Rattle.std.proofs.Common.{◌≡◌, ℕ, suc, ◌+◌, ◌<◌, ◌||◌, ◌&&◌, Bool, true, false, Option, Some, None, List, [], ◌∷◌, ◌++◌, map, length, take, get_or, if◌then◌else◌, refl, sym, ◌∙◌, ap, ap₂, arith, append_assoc}
use Rattle.std.specs.List.{list_any}
use Rattle.std.proofs.Math.Bool.{or-false}
use Rattle.std.proofs.lemmas.List.{length-append, map-append, take_more}
use Rattle.vs_design.specs.vs_logic4.specs.declared.digit.Digit.{Digit}
use Rattle.vs_design.specs.vs_logic4.specs.Sameness.{same_digits-true}
use Rattle.vs_design.specs.vs_logic4.specs.Vectors.{same_digits}
use Rattle.vs_design.specs.declared.design.Assign.{Assign}
use Rattle.vs_design.specs.declared.expression.Typed.{Typed}
use Rattle.vs_design.specs.declared.range.BitRange.{BitRange}
use Rattle.vs_design.specs.declared.readers.Reader.{Reader}
use Rattle.vs_design.specs.Parts.{Parts}
use Rattle.vs_design.specs.Readers.{readers, readers_from, readings}
use Rattle.vs_design.specs.Stores.{Store, word_of, is_changed, put}
use Rattle.vs_design.specs.Uses.{reads, is_of, has_word}
use Rattle.vs_design.specs.Writes.{Write}
use Rattle.vs_process.specs.declared.changes.Change.{Change}
use Rattle.vs_process.specs.Changes.{changed_word, changed_words}
use Rattle.vs_run_active.specs.vs_process.specs.States.{AssignState, start_assign, touched}
use Rattle.vs_eval.specs.Differences.{bits_differ, HaveOneSize, difference, word_difference, sees, word_changes, part_changes}
use Rattle.vs_run_active.proofs.ChangedLemmas.{changed_behind}
use Rattle.vs_run_active.specs.Touches.{AreOf, woken, woken_in, all_woken, woken_by, woken_changes}
use Rattle.vs_eval.proofs.DifferencesLemmas.{sees_difference}
use Rattle.vs_eval.proofs.StoresLemmas.{same_bits_differ, changed_by_parts, put_size}

-- ---- waking the readers of a signal

abbrev more_needed : Bool → AssignState → AssignState
more_needed b x = record x { needs = x.needs || b }

-- a test of the ranges of a signal
abbrev among : ℕ → (BitRange → Bool) → BitRange → Bool
among signal test r = is_of signal r && test r

or_true : (b : Bool) → b || true ≡ true
or_true true = refl
or_true false = refl

module _ (test : BitRange → Bool) (signal : ℕ) where
  all_woken-append : (rs qs : List Reader) (xs : List AssignState) → all_woken test (rs ++ qs) xs ≡ all_woken test qs (all_woken test rs xs)
  all_woken-append [] qs xs = refl
  all_woken-append (r ∷ rs) qs xs = all_woken-append rs qs (if test r.range then woken_in r.assign xs else xs)

  by_test : (front : List AssignState) (x : AssignState) (xs : List AssignState) (n : ℕ) (rs : List BitRange) → n ≡ length front →
      ((y : AssignState) → all_woken test (readings n rs signal) (front ++ y ∷ xs) ≡ front ++ more_needed (list_any (among signal test) rs) y ∷ xs) →
      (t : Bool) → all_woken test (readings n rs signal) (if t then woken_in n (front ++ x ∷ xs) else front ++ x ∷ xs) ≡ front ++ more_needed (t || list_any (among signal test) rs) x ∷ xs
  by_test front x xs n rs h rest true =
      ap (all_woken test (readings n rs signal)) (changed_behind woken front x xs n h) ∙ rest (woken x) ∙ ap (λ (b : Bool). front ++ record x { needs = b } ∷ xs) (sym (or_true x.needs))
  by_test front x xs n rs h rest false = rest x

  one_by : (front : List AssignState) (x : AssignState) (xs : List AssignState) (n : ℕ) (r : BitRange) (rs : List BitRange) → n ≡ length front →
      ((y : AssignState) → all_woken test (readings n rs signal) (front ++ y ∷ xs) ≡ front ++ more_needed (list_any (among signal test) rs) y ∷ xs) →
      (b : Bool) → all_woken test (if b then record { assign = n; range = r } ∷ readings n rs signal else readings n rs signal) (front ++ x ∷ xs)
      ≡ front ++ more_needed ((b && test r) || list_any (among signal test) rs) x ∷ xs
  one_by front x xs n r rs h rest true = by_test front x xs n rs h rest (test r)
  one_by front x xs n r rs h rest false = rest x

  -- the readings of one assignment wake it, where one of them passes the test
  wake_one : (front : List AssignState) (x : AssignState) (xs : List AssignState) (n : ℕ) (rs : List BitRange) → n ≡ length front →
      all_woken test (readings n rs signal) (front ++ x ∷ xs) ≡ front ++ more_needed (list_any (among signal test) rs) x ∷ xs
  wake_one front x xs n [] h = ap (λ (b : Bool). front ++ record x { needs = b } ∷ xs) (sym (or-false x.needs))
  wake_one front x xs n (r ∷ rs) h = one_by front x xs n r rs h (λ y. wake_one front y xs n rs h) (is_of signal r)

  -- the readers of a signal among assignments are those that read it
  wake_from : (front : List AssignState) (as' : List Assign) (xs : List AssignState) (n : ℕ) → n ≡ length front → map (λ (x : AssignState). x.source) xs ≡ map (λ (a : Assign). a.source) as' →
      all_woken test (readers_from n as' signal) (front ++ xs) ≡ front ++ map (woken_by (among signal test)) xs
  wake_from front [] [] n h same = refl
  wake_from front [] (x ∷ xs) n h same = cc
  wake_from front (a ∷ rest) [] n h same = cc
  wake_from front (a ∷ rest) (x ∷ xs) n h same =
      let first : a.source ≡ x.source = cc in
      let others : map (λ (x : AssignState). x.source) xs ≡ map (λ (a : Assign). a.source) rest = cc in
      let y = woken_by (among signal test) x in
      let next : suc n ≡ length (front ++ y ∷ []) = omega (arith, length-append front (y ∷ [])) in
      all_woken-append (readings n (reads a.source) signal) (readers_from (suc n) rest signal) (front ++ x ∷ xs)
      ∙ ap (all_woken test (readers_from (suc n) rest signal))
      (wake_one front x xs n (reads a.source) h ∙ ap (λ (e : Typed). front ++ more_needed (list_any (among signal test) (reads e)) x ∷ xs) first ∙ sym (append_assoc front (y ∷ []) xs))
      ∙ wake_from (front ++ y ∷ []) rest xs (suc n) next others
      ∙ append_assoc front (y ∷ []) (map (woken_by (among signal test)) xs)

any_alike : {A : Type 0} (f g : A → Bool) → ((x : A) → f x ≡ g x) → (xs : List A) → list_any f xs ≡ list_any g xs
any_alike f g h [] = refl
any_alike f g h (x ∷ xs) = ap₂ (λ (a b : Bool). a || b) (h x) (any_alike f g h xs)

-- equal tests wake the same
wakes_alike : (f g : BitRange → Bool) → ((r : BitRange) → f r ≡ g r) → (xs : List AssignState) → map (woken_by f) xs ≡ map (woken_by g) xs
wakes_alike f g h [] = refl
wakes_alike f g h (x ∷ xs) =
    ap₂ (λ (b : Bool) (l : List AssignState). record x { needs = x.needs || b } ∷ l) (any_alike f g h (reads x.source)) (wakes_alike f g h xs)

-- the readers of a word at which two values of it differ
pub wake_word_readers : (d : Parts) (xs : List AssignState) (signal word : ℕ) (before behind : Option (List Digit)) → AreOf d xs → HaveOneSize before behind →
    all_woken (sees word (word_difference before behind)) (readers d.assigns signal) xs ≡ map (woken_by (word_changes signal word before behind)) xs
wake_word_readers d xs signal word before behind same size =
    let test = sees word (word_difference before behind) in
    wake_from test signal [] d.assigns xs 0 refl same
    ∙ wakes_alike (among signal test) (word_changes signal word before behind)
    (λ r. ap (λ (b : Bool). is_of signal r && (has_word r.word word && b)) (sees_difference r.bits before behind size)) xs

-- what is woken for a word, both of whose values are known
pub woken_for_word : (d : Parts) (xs ys : List AssignState) (signal word : ℕ) (before behind : List Digit) (number : ℕ) (rs : List Reader) → AreOf d xs → length before ≡ length behind →
    number ≡ difference before behind → rs ≡ readers d.assigns signal → ys ≡ all_woken (sees word number) rs xs → ys ≡ map (woken_by (word_changes signal word (Some before) (Some behind))) xs
woken_for_word d xs ys signal word before behind number rs same size differing read woken =
    woken ∙ ap₂ (λ (n : ℕ) (l : List Reader). all_woken (sees word n) l xs) differing read ∙ wake_word_readers d xs signal word (Some before) (Some behind) same (ap Some size)

pub same_bits : (signal word : ℕ) (o : Option (List Digit)) (r : BitRange) → word_changes signal word o o r ≡ false
same_bits signal word o r = and_none (is_of signal r) (has_word r.word word) (bits_differ r.bits o o) (same_bits_differ r.bits o)
  where
    and_none : (a b c : Bool) → c ≡ false → (a && (b && c)) ≡ false
    and_none true true c h = h
    and_none true false c h = refl
    and_none false b c h = refl

-- ---- the parts of a write

-- what one test wakes and then another
wakes_both : (f g : BitRange → Bool) → (xs : List AssignState) → map (woken_by g) (map (woken_by f) xs) ≡ map (woken_by (λ r. f r || g r)) xs
wakes_both f g [] = refl
wakes_both f g (x ∷ xs) =
    ap₂ (λ (b : Bool) (l : List AssignState). record x { needs = b } ∷ l) (or_assoc x.needs (list_any f (reads x.source)) (list_any g (reads x.source)) ∙ ap (λ b. x.needs || b) (any_or (reads x.source)))
    (wakes_both f g xs)
  where
    or_assoc : (a b c : Bool) → ((a || b) || c) ≡ (a || (b || c))
    or_assoc true b c = refl
    or_assoc false b c = refl

    four : (a b c d : Bool) → ((a || c) || (b || d)) ≡ ((a || b) || (c || d))
    four true b c d = refl
    four false true c d = or_true c
    four false false c d = refl

    any_or : (rs : List BitRange) → (list_any f rs || list_any g rs) ≡ list_any (λ r. f r || g r) rs
    any_or [] = refl
    any_or (r ∷ rs) = four (f r) (g r) (list_any f rs) (list_any g rs) ∙ ap (λ b. (f r || g r) || b) (any_or rs)

wakes_none : (xs : List AssignState) → xs ≡ map (woken_by (λ r. false)) xs
wakes_none [] = refl
wakes_none (x ∷ xs) = ap₂ (λ (b : Bool) (l : List AssignState). record x { needs = b } ∷ l) (sym (or-false x.needs) ∙ ap (λ b. x.needs || b) (sym (none (reads x.source)))) (wakes_none xs)
  where
    none : (rs : List BitRange) → list_any (λ (r : BitRange). false) rs ≡ false
    none [] = refl
    none (r ∷ rs) = none rs

-- a word that isn't there wakes none, nor does one that keeps its value
pub same_wakes_none : (xs : List AssignState) (signal word : ℕ) (o : Option (List Digit)) → xs ≡ map (woken_by (word_changes signal word o o)) xs
same_wakes_none xs signal word o = wakes_none xs ∙ wakes_alike (λ r. false) (word_changes signal word o o) (λ r. sym (same_bits signal word o r)) xs

-- continuous assignments that the parts of a write wake between two stores, one after another
abbrev woken_parts : Store → Store → Write → List AssignState → List AssignState
woken_parts old new [] xs = xs
woken_parts old new (p ∷ ps) xs = woken_parts old new ps (map (woken_by (part_changes old new p)) xs)

parts_wake : (old new : Store) (ps : Write) (xs : List AssignState) → woken_parts old new ps xs ≡ map (woken_by (λ r. list_any (λ p. part_changes old new p r) ps)) xs
parts_wake old new [] xs = wakes_none xs
parts_wake old new (p ∷ ps) xs =
    parts_wake old new ps (map (woken_by (part_changes old new p)) xs) ∙ wakes_both (part_changes old new p) (λ r. list_any (λ q. part_changes old new q r) ps) xs

-- the parts of a write wake what reads a bit that it changes
parts_touch : (w : Write) (store : Store) (xs : List AssignState) → woken_parts store (put store w) w xs ≡ map (touched store (put store w)) xs
parts_touch w store xs =
    parts_wake store (put store w) w xs
    ∙ wakes_alike (λ r. list_any (λ p. part_changes store (put store w) p r) w) (is_changed store (put store w)) (λ r. sym (changed_by_parts w store r)) xs

-- a word wakes as much where only a change of it counts
woken_word : (signal word : ℕ) (before behind : Option (List Digit)) (cs : List Change) (xs : List AssignState) → HaveOneSize before behind →
    woken_changes (changed_word signal word before behind ++ cs) xs ≡ woken_changes cs (map (woken_by (word_changes signal word before behind)) xs)
woken_word signal word None None cs xs size = ap (woken_changes cs) (same_wakes_none xs signal word None)
woken_word signal word None (Some ds) cs xs size = cc
woken_word signal word (Some ds) None cs xs size = cc
woken_word signal word (Some before) (Some behind) cs xs size = by_test (same_digits before behind) refl
  where
    by_test : (b : Bool) → same_digits before behind ≡ b →
        woken_changes ((if b then [] else record { signal = signal; word = word; before = before; behind = behind } ∷ []) ++ cs) xs
        ≡ woken_changes cs (map (woken_by (word_changes signal word (Some before) (Some behind))) xs)
    by_test true h =
        ap (woken_changes cs)
        (same_wakes_none xs signal word (Some before)
        ∙ ap (λ (ds : List Digit). map (woken_by (word_changes signal word (Some before) (Some ds))) xs) (same_digits-true before behind h))
    by_test false h = refl

woken_words : (old new : Store) (ps : Write) (xs : List AssignState) → ((signal word : ℕ) → HaveOneSize (word_of old signal word) (word_of new signal word)) →
    woken_changes (changed_words old new ps) xs ≡ woken_parts old new ps xs
woken_words old new [] xs size = refl
woken_words old new (p ∷ ps) xs size =
    woken_word p.signal p.word (word_of old p.signal p.word) (word_of new p.signal p.word) (changed_words old new ps) xs (size p.signal p.word)
    ∙ woken_words old new ps (map (woken_by (part_changes old new p)) xs) size

-- the words that a write changes wake what reads a bit that it changes
pub changes_touch : (w : Write) (store : Store) (xs : List AssignState) → woken_changes (changed_words store (put store w) w) xs ≡ map (touched store (put store w)) xs
changes_touch w store xs = woken_words store (put store w) w xs (put_size w store) ∙ parts_touch w store xs

-- what is woken evaluates the same
pub woken_of : (d : Parts) (test : BitRange → Bool) (xs : List AssignState) → AreOf d xs → AreOf d (map (woken_by test) xs)
woken_of d test xs h = sources xs ∙ h
  where
    sources : (xs : List AssignState) → map (λ (x : AssignState). x.source) (map (woken_by test) xs) ≡ map (λ (x : AssignState). x.source) xs
    sources [] = refl
    sources (x ∷ xs) = ap (λ (l : List Typed). x.source ∷ l) (sources xs)

-- one continuous assignment more begins
pub begun_more : (xs : List Assign) (i : ℕ) (x : Assign) (all more : List AssignState) (y : AssignState) → i < length xs → x ≡ get_or xs i x → all ≡ map start_assign (take i xs) → y ≡ start_assign x
    → more ≡ all ++ y ∷ [] → more ≡ map start_assign (take (i + 1) xs)
begun_more xs i x all more y lt at so_far is pushed =
    pushed ∙ ap₂ (λ (l : List AssignState) (a : AssignState). l ++ a ∷ []) so_far (is ∙ ap start_assign at)
    ∙ sym (ap (map start_assign) (take_more xs i x lt) ∙ map-append start_assign (take i xs) (get_or xs i x ∷ []))
