-- What follows from writes.
use Rattle.std.proofs.Common.{◌≡◌, ℕ, zero, suc, ◌<◌, if◌then◌else◌, replicate, Bool, true, false, Option, Some, None, List, [], ◌∷◌, ◌++◌, map, length, refl, sym, ◌∙◌, ap, ap₂, subst, append-nil, arith}
use Rattle.std.proofs.lemmas.Option.{same_Some, slice_get_within}
use Rattle.vs_design.specs.vs_logic4.specs.declared.digit.Digit.{Digit}
use Rattle.vs_design.specs.vs_logic4.specs.Vectors.{same_digits}
use Rattle.vs_design.specs.vs_logic4.proofs.Basics.{same_first, tail_is}
use Rattle.vs_design.specs.declared.signal.Signal.{Signal}
use Rattle.vs_design.specs.declared.write.Part.{Part}
use Rattle.vs_design.specs.InOrder.{IsStoreOf, sizes_of_signals, word_sizes}
use Rattle.vs_design.specs.Parts.{Parts}
use Rattle.vs_design.specs.Stores.{Store, put, word_of}
use Rattle.vs_design.specs.Writes.{Write}
use Rattle.vs_design.proofs.InOrderLemmas.{head_long as long}
use Rattle.vs_run_active.specs.vs_eval.specs.declared.masks.WordChange.{WordChange}
use Rattle.vs_run_active.specs.vs_eval.specs.Differences.{HaveOneSize}
use Rattle.vs_run_active.specs.vs_eval.specs.Masks.{IsChangeOf, every_word}
use Rattle.vs_run_active.specs.vs_eval.proofs.StoresLemmas.{put_size}
use Rattle.vs_process.specs.declared.changes.Change.{Change}
use Rattle.vs_process.specs.Changes.{changed_part, changed_word, changed_words}
use Rattle.vs_process.specs.Places.{Place}
use Rattle.vs_run_active.specs.vs_process.specs.States.{AssignState, State, wakened, written}
use Rattle.vs_run_active.specs.declared.process.Process.{Process}
use Rattle.vs_run_active.specs.declared.tables.Tables.{Tables}
use Rattle.vs_run_active.specs.declared.watchers.ProcessTerm.{ProcessTerm}
use Rattle.vs_run_active.specs.ProcessPlaces.{GoneOn}
use Rattle.vs_run_active.specs.Waiting.{places_of}
use Rattle.vs_run_active.proofs.GoneLemmas.{gone_more, gone_none}
use Rattle.vs_run_active.specs.Wakes.{AreWatched, Wakes}
use Rattle.vs_run_active.specs.Changes.{MarkChanges}
use Rattle.vs_run_active.specs.Touches.{woken_changes}
use Rattle.vs_run_active.specs.Waits.{triggered_changes}
use Rattle.vs_run_active.proofs.ChangesLemmas.{part_words, word_other}
use Rattle.vs_run_active.proofs.TouchesLemmas.{changes_touch}
use Rattle.vs_run_active.proofs.WaitsLemmas.{changes_wake_places}
use Rattle.vs_process.specs.declared.spot.Spot.{Spot}
use Rattle.vs_process.specs.Spots.{IsSpotIn}
use Rattle.vs_run_steps.specs.Writes.{AreNamed, Follows, IsMade, Makes}

-- ---- what follows from changes

-- no change wakes nothing
pub follows_none : (tables : Tables) (cs : List Change) (a : List AssignState) (p : List Process) → cs ≡ [] → Follows tables cs a p a p
follows_none tables cs a p none = λ d terms watched. record {
  assigns_are = sym (ap (λ l. woken_changes l a) none);
  places_are = λ counters. sym (ap (λ l. triggered_changes l (places_of counters p)) none);
  gone = gone_none p;
  watched = watched;
}

-- one change wakes what it wakes
pub follows_one : (tables : Tables) (signal word : ℕ) (change : WordChange) (before after : List Digit) (a a' : List AssignState) (p p' : List Process) → same_digits before after ≡ false →
    Wakes tables signal word change a p a' p' → IsChangeOf change before after → Follows tables (changed_word signal word (Some before) (Some after)) a p a' p'
follows_one tables signal word change before after a a' p p' other wakes is = λ d terms watched.
    let w = wakes d terms before after watched is in
    let one = word_other signal word before after other in
    record {
      assigns_are = w.assigns_are ∙ sym (ap (λ l. woken_changes l a) one);
      places_are = λ counters. w.places_are counters ∙ sym (ap (λ l. triggered_changes l (places_of counters p)) one);
      gone = w.gone;
      watched = w.watched;
    }

-- ---- what a write makes

pub made_of : (tables : Tables) (w : Write) (store new : Store) (cs : List Change) (a a' : List AssignState) (p p' : List Process) → new ≡ put store w → cs ≡ changed_words store new w →
    Follows tables cs a p a' p' → Makes tables store w a p a' p'
made_of tables w store new cs a a' p p' wrote words follows = λ d terms watched.
    let f = follows d terms watched in
    let all : cs ≡ changed_words store (put store w) w = words ∙ ap (λ (r : Store). changed_words store r w) wrote in
    record {
      assigns_are = f.assigns_are ∙ ap (λ l. woken_changes l a) all ∙ changes_touch w store a;
      places_are = λ counters.
          f.places_are counters ∙ ap (λ l. triggered_changes l (places_of counters p)) all ∙ changes_wake_places w store (places_of counters p);
      gone = f.gone;
      watched = f.watched;
    }

-- the word that one part changes
pub words_of_part : (store new : Store) (part : Part) (before after : List Digit) → word_of store part.signal part.word ≡ Some before → word_of new part.signal part.word ≡ Some after →
    changed_word part.signal part.word (Some before) (Some after) ≡ changed_words store new (part ∷ [])
words_of_part store new part before after a b = sym (append-nil (changed_part store new part) ∙ part_words store new part before after a b)

pub makes_written : (s : State) (w : Write) (d : Parts) (terms : List ProcessTerm) (tables : Tables) (counters : List (List ℕ)) (p p' : List Process) (a' : List AssignState) →
    s.places ≡ places_of counters p → IsMade d terms tables s.store w s.assigns a' p p' → record s { store = put s.store w; assigns = a'; places = places_of counters p' } ≡ written s w
makes_written s w d terms tables counters p p' a' places h =
    let there : places_of counters p' ≡ map (wakened s.store (put s.store w)) s.places =
    h.places_are counters ∙ ap (map (wakened s.store (put s.store w))) (sym places)
    in
    ap₂ (λ (a : List AssignState) (l : List Place). record s { store = put s.store w; assigns = a; places = l }) h.assigns_are there

-- ---- a spot's word

pub spot_signal : (signals : List Signal) (spot : Spot) (n : ℕ) → IsSpotIn signals spot → length signals ≡ n → spot.signal < n
spot_signal signals spot n h long = let below = slice_get_within signals spot.signal h.declared h.at in omega (arith, below, long)

pub spot_word : (signals : List Signal) (spot : Spot) → IsSpotIn signals spot → spot.word < every_word
spot_word signals spot h = let most = h.declared.counted.1 in let below = h.below in omega (arith, most, below)

-- ---- the words of a store

-- a word that a store has is one of a signal, and its number doesn't stand for all words
word_there : (signals : List Signal) (store : Store) (signal word : ℕ) (ds : List Digit) → IsStoreOf signals store → word_of store signal word ≡ Some ds → (signal < length signals) × (word < every_word)
word_there signals [] signal word ds is h = cc
word_there [] (ws ∷ rest) signal word ds is h = cc
word_there (s ∷ ss) (ws ∷ rest) zero word ds is h =
    let size = long ws s (same_first (map length ws) (replicate s.count s.width) (word_sizes rest) (sizes_of_signals ss) is) in
    let below = slice_get_within ws word ds h in
    let most = s.counted.1 in
    (omega arith, omega (arith, size, below, most))
word_there (s ∷ ss) (ws ∷ rest) (suc i) word ds is h =
    let inner = word_there ss rest i word ds (tail_is (map length ws) (replicate s.count s.width) (word_sizes rest) (sizes_of_signals ss) is) h in
    let below = inner.0 in
    (omega (arith, below), inner.1)

named_append : (n : ℕ) (xs ys : List Change) → AreNamed n xs → AreNamed n ys → AreNamed n (xs ++ ys)
named_append n [] ys a b = b
named_append n (x ∷ xs) ys a b = (a.0, named_append n xs ys a.1 b)

named_word : (signals : List Signal) (store : Store) (signal word : ℕ) (before after : Option (List Digit)) → IsStoreOf signals store → word_of store signal word ≡ before →
    HaveOneSize before after → AreNamed (length signals) (changed_word signal word before after)
named_word signals store signal word None None is at size = tt
named_word signals store signal word None (Some a) is at size = tt
named_word signals store signal word (Some b) None is at size = tt
named_word signals store signal word (Some b) (Some a) is at size = by_test (same_digits b a)
  where
    by_test : (c : Bool) → AreNamed (length signals) (if c then [] else record { signal = signal; word = word; before = b; behind = a } ∷ [])
    by_test true = tt
    by_test false =
        let there = word_there signals store signal word b is at in
        ((there.0, there.1, same_Some (length b) (length a) size), tt)

-- the words that a write changes are words of signals
pub named_words : (signals : List Signal) (store new : Store) (ps : Write) → IsStoreOf signals store → ((signal word : ℕ) → HaveOneSize (word_of store signal word) (word_of new signal word)) →
    AreNamed (length signals) (changed_words store new ps)
named_words signals store new [] is size = tt
named_words signals store new (p ∷ ps) is size =
    named_append (length signals) (changed_part store new p) (changed_words store new ps)
    (named_word signals store p.signal p.word (word_of store p.signal p.word) (word_of new p.signal p.word) is refl (size p.signal p.word))
    (named_words signals store new ps is size)

pub named_by_write : (signals : List Signal) (store new : Store) (w : Write) (cs : List Change) (n : ℕ) → IsStoreOf signals store → length signals ≡ n → new ≡ put store w →
    cs ≡ changed_words store new w → AreNamed n cs
named_by_write signals store new w cs n is all wrote words =
    subst (λ k. AreNamed k cs) all
    (subst (AreNamed (length signals)) (sym (words ∙ ap (λ (r : Store). changed_words store r w) wrote)) (named_words signals store (put store w) w is (put_size w store)))

-- ---- one change after another

-- what the changes that are left wake of what the others have woken is what all wake
pub record LeftAt (d : Parts) (terms : List ProcessTerm) (tables : Tables) (all left : List Change) (a now : List AssignState) (p p_now : List Process) : Type 0 where
  pub assigns : woken_changes left now ≡ woken_changes all a
  pub places : (counters : List (List ℕ)) → triggered_changes left (places_of counters p_now) ≡ triggered_changes all (places_of counters p)
  pub gone : GoneOn p p_now
  pub watched : AreWatched d terms tables now p_now

abbrev pub LeftToFollow : Tables → List Change → List Change → List AssignState → List AssignState → List Process → List Process → Type 0
LeftToFollow tables all left a now p p_now = (d : Parts) (terms : List ProcessTerm) → AreWatched d terms tables a p → LeftAt d terms tables all left a now p p_now

pub left_at_first : (tables : Tables) (cs : List Change) (a : List AssignState) (p : List Process) → LeftToFollow tables cs cs a a p p
left_at_first tables cs a p = λ d terms watched. record { assigns = refl; places = λ counters. refl; gone = gone_none p; watched = watched }

pub left_at_next : (tables : Tables) (all left rest : List Change) (c : Change) (change : WordChange) (a now next : List AssignState) (p p_now p_next : List Process) → left ≡ c ∷ rest →
    LeftToFollow tables all left a now p p_now → Wakes tables c.signal c.word change now p_now next p_next → IsChangeOf change c.before c.behind → LeftToFollow tables all rest a next p p_next
left_at_next tables all left rest c change a now next p p_now p_next is h wakes of = λ d terms watched.
    let l = h d terms watched in
    let w = wakes d terms c.before c.behind l.watched of in
    record {
      assigns = ap (woken_changes rest) w.assigns_are ∙ sym (ap (λ cs. woken_changes cs now) is) ∙ l.assigns;
      places = λ counters.
          ap (triggered_changes rest) (w.places_are counters) ∙ sym (ap (λ cs. triggered_changes cs (places_of counters p_now)) is) ∙ l.places counters;
      gone = gone_more p p_now p_next l.gone w.gone;
      watched = w.watched;
    }

pub none_left : (tables : Tables) (all left : List Change) (a now : List AssignState) (p p_now : List Process) → left ≡ [] → LeftToFollow tables all left a now p p_now → Follows tables all a p now p_now
none_left tables all left a now p p_now none h = λ d terms watched.
    let l = h d terms watched in
    record {
      assigns_are = sym (ap (λ cs. woken_changes cs now) none) ∙ l.assigns;
      places_are = λ counters. sym (ap (λ cs. triggered_changes cs (places_of counters p_now)) none) ∙ l.places counters;
      gone = l.gone;
      watched = l.watched;
    }

-- what is known of the next of some changes
pub next_named : (n : ℕ) (left rest : List Change) (c : Change) → left ≡ c ∷ rest → AreNamed n left → ((c.signal < n) × (c.word < every_word) × (length c.before ≡ length c.behind)) × AreNamed n rest
next_named n left rest c is h = subst (AreNamed n) is h

-- the marks of a store that has stayed since
pub marks_since : (marks later now : List ℕ) (old new current : Store) → now ≡ later → current ≡ new → MarkChanges marks later old new → MarkChanges marks now old current
marks_since marks later now old new current same kept h = subst (λ (l : List ℕ). MarkChanges marks l old current) (sym same) (subst (MarkChanges marks later old) (sym kept) h)
