-- Which processes the words wake that a write changes.
use Rattle.std.proofs.Common.{◌≡◌, ℕ, ◌||◌, Bool, true, false, Option, Some, None, List, [], ◌∷◌, ◌++◌, map, if◌then◌else◌, refl, sym, ◌∙◌, ap, ap₂}
use Rattle.std.specs.List.{list_any}
use Rattle.vs_design.specs.vs_logic4.specs.declared.digit.Digit.{Digit}
use Rattle.vs_design.specs.vs_logic4.specs.Sameness.{same_digits-true}
use Rattle.vs_design.specs.vs_logic4.specs.Vectors.{same_digits}
use Rattle.vs_design.specs.declared.statement.EventTerm.{EventTerm}
use Rattle.vs_design.specs.declared.write.Part.{Part}
use Rattle.vs_design.specs.Stores.{Store, word_of, put}
use Rattle.vs_design.specs.Writes.{Write}
use Rattle.vs_eval.specs.Differences.{HaveOneSize}
use Rattle.vs_eval.specs.Waking.{word_wakes, part_wakes}
use Rattle.vs_eval.proofs.StoresLemmas.{put_size}
use Rattle.vs_eval.proofs.WakingLemmas.{same_wakes_none, waking_by_parts}
use Rattle.vs_process.specs.Places.{Place, going, sleeping, inactive, waiting, ended}
use Rattle.vs_process.specs.declared.changes.Change.{Change}
use Rattle.vs_process.specs.Changes.{changed_word, changed_words}
use Rattle.vs_process.specs.declared.gait.Gait.TheVariants.{Woken}
use Rattle.vs_run_active.specs.vs_process.specs.States.{terms_of, triggered, wakened}
use Rattle.vs_run_active.specs.vs_process.proofs.Waking.{wakened-triggered}
use Rattle.vs_run_active.specs.Triggers.{triggered_by}
use Rattle.vs_run_active.specs.Waits.{triggered_changes}
use Rattle.vs_run_active.proofs.ProcessPlacesLemmas.{active_waits}

untriggered : (signal word : ℕ) (before behind : Option (List Digit)) (x : Place) → word_wakes (terms_of x) signal word before behind ≡ false → triggered_by signal word before behind x ≡ x
untriggered signal word before behind x h = ap (λ (b : Bool). if b then triggered x else x) h

map_none : (f : Place → Place) → ((x : Place) → f x ≡ x) → (xs : List Place) → xs ≡ map f xs
map_none f h [] = refl
map_none f h (x ∷ xs) = ap₂ (λ (a : Place) (l : List Place). a ∷ l) (sym (h x)) (map_none f h xs)

-- a word that isn't there wakes none, nor does one that keeps its value
pub same_wakes_no_place : (xs : List Place) (signal word : ℕ) (o : Option (List Digit)) → xs ≡ map (triggered_by signal word o o) xs
same_wakes_no_place xs signal word o =
    map_none (triggered_by signal word o o) (λ x. untriggered signal word o o x (same_wakes_none (terms_of x) signal word o)) xs

-- ---- what a process that is woken waits for

triggered_terms : (x : Place) → terms_of (triggered x) ≡ []
triggered_terms (waiting terms todo) = active_waits Woken todo
triggered_terms (going gait todo) = refl
triggered_terms (sleeping due todo) = refl
triggered_terms (inactive todo) = refl
triggered_terms ended = refl

-- ---- the parts of a write

-- a process behind the change of the word of a part between two stores
abbrev triggered_part : Store → Store → Part → Place → Place
triggered_part old new p = triggered_by p.signal p.word (word_of old p.signal p.word) (word_of new p.signal p.word)

-- processes that the parts of a write wake between two stores, one after another
abbrev triggered_parts : Store → Store → Write → List Place → List Place
triggered_parts old new [] xs = xs
triggered_parts old new (p ∷ ps) xs = triggered_parts old new ps (map (triggered_part old new p) xs)

-- a place behind the parts of a write, one after another
through : Store → Store → Write → Place → Place
through old new [] x = x
through old new (p ∷ ps) x = through old new ps (triggered_part old new p x)

through_none : (old new : Store) (ps : Write) (x : Place) → terms_of x ≡ [] → through old new ps x ≡ x
unfolding through
through_none old new [] x h = refl
through_none old new (p ∷ ps) x h =
    let stays : triggered_part old new p x ≡ x = ap (λ (terms : List EventTerm). if part_wakes terms old new p then triggered x else x) h in
    ap (through old new ps) stays ∙ through_none old new ps x h

through_at : (old new : Store) (ps : Write) (x : Place) (b : Bool) → through old new ps x ≡ (if list_any (part_wakes (terms_of x) old new) ps then triggered x else x) →
    through old new ps (if b then triggered x else x) ≡ (if b || list_any (part_wakes (terms_of x) old new) ps then triggered x else x)
through_at old new ps x true h = through_none old new ps (triggered x) (triggered_terms x)
through_at old new ps x false h = h

through_is : (old new : Store) (ps : Write) (x : Place) → through old new ps x ≡ (if list_any (part_wakes (terms_of x) old new) ps then triggered x else x)
unfolding through
through_is old new [] x = refl
through_is old new (p ∷ ps) x = through_at old new ps x (part_wakes (terms_of x) old new p) (through_is old new ps x)

-- a place behind a whole write
through_write : (store : Store) (w : Write) (x : Place) → through store (put store w) w x ≡ wakened store (put store w) x
through_write store w x =
    through_is store (put store w) w x ∙ ap (λ (b : Bool). if b then triggered x else x) (sym (waking_by_parts (terms_of x) store w))
    ∙ sym (wakened-triggered store (put store w) x)

map_through : (old new : Store) (ps : Write) (xs : List Place) → triggered_parts old new ps xs ≡ map (through old new ps) xs
unfolding through
map_through old new [] xs = map_none (λ (x : Place). x) (λ x. refl) xs
map_through old new (p ∷ ps) xs = map_through old new ps (map (triggered_part old new p) xs) ∙ both xs
  where
    both : (xs : List Place) → map (through old new ps) (map (triggered_part old new p) xs) ≡ map (λ (x : Place). through old new ps (triggered_part old new p x)) xs
    both [] = refl
    both (x ∷ xs) = ap (λ (l : List Place). through old new ps (triggered_part old new p x) ∷ l) (both xs)

map_alike : (f g : Place → Place) → ((x : Place) → f x ≡ g x) → (xs : List Place) → map f xs ≡ map g xs
map_alike f g h [] = refl
map_alike f g h (x ∷ xs) = ap₂ (λ (a : Place) (l : List Place). a ∷ l) (h x) (map_alike f g h xs)

-- the parts of a write wake the processes that wait for a change which the whole of it makes
parts_wake_places : (w : Write) (store : Store) (xs : List Place) → triggered_parts store (put store w) w xs ≡ map (wakened store (put store w)) xs
parts_wake_places w store xs =
    map_through store (put store w) w xs ∙ map_alike (through store (put store w) w) (wakened store (put store w)) (through_write store w) xs

-- a word wakes as many where only a change of it counts
triggered_word : (signal word : ℕ) (before behind : Option (List Digit)) (cs : List Change) (xs : List Place) → HaveOneSize before behind →
    triggered_changes (changed_word signal word before behind ++ cs) xs ≡ triggered_changes cs (map (triggered_by signal word before behind) xs)
triggered_word signal word None None cs xs size = ap (triggered_changes cs) (same_wakes_no_place xs signal word None)
triggered_word signal word None (Some ds) cs xs size = cc
triggered_word signal word (Some ds) None cs xs size = cc
triggered_word signal word (Some before) (Some behind) cs xs size = by_test (same_digits before behind) refl
  where
    by_test : (b : Bool) → same_digits before behind ≡ b →
        triggered_changes ((if b then [] else record { signal = signal; word = word; before = before; behind = behind } ∷ []) ++ cs) xs
        ≡ triggered_changes cs (map (triggered_by signal word (Some before) (Some behind)) xs)
    by_test true h =
        ap (triggered_changes cs)
        (same_wakes_no_place xs signal word (Some before)
        ∙ ap (λ (ds : List Digit). map (triggered_by signal word (Some before) (Some ds)) xs) (same_digits-true before behind h))
    by_test false h = refl

triggered_words : (old new : Store) (ps : Write) (xs : List Place) → ((signal word : ℕ) → HaveOneSize (word_of old signal word) (word_of new signal word)) →
    triggered_changes (changed_words old new ps) xs ≡ triggered_parts old new ps xs
triggered_words old new [] xs size = refl
triggered_words old new (p ∷ ps) xs size =
    triggered_word p.signal p.word (word_of old p.signal p.word) (word_of new p.signal p.word) (changed_words old new ps) xs (size p.signal p.word)
    ∙ triggered_words old new ps (map (triggered_part old new p) xs) size

-- the words that a write changes wake the processes that wait for a change which the whole of it makes
pub changes_wake_places : (w : Write) (store : Store) (xs : List Place) → triggered_changes (changed_words store (put store w) w) xs ≡ map (wakened store (put store w)) xs
changes_wake_places w store xs = triggered_words store (put store w) w xs (put_size w store) ∙ parts_wake_places w store xs
