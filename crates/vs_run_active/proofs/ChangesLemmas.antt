-- Which words and signals a move may change.
use Rattle.std.proofs.Common.{◌≡◌, ℕ, ◌+◌, ◌<◌, ◌==◌, ◌&&◌, Bool, true, false, Option, Some, None, List, [], ◌∷◌, ◌++◌, length, drop, get_or, slice_get, if◌then◌else◌, refl, sym, ◌∙◌, ap, ap₂, subst}
use Rattle.std.specs.List.{list_any}
use Rattle.std.proofs.lemmas.Bool.{cond-true, ne_eqb, eqb-false, or_parts, or_from}
use Rattle.std.proofs.lemmas.List.{drop_more}
use Rattle.std.proofs.lemmas.List.Folds.{list_any-append}
use Rattle.std.proofs.lemmas.Option.{same_Some}
use Rattle.vs_design.specs.vs_logic4.specs.declared.digit.Digit.{Digit}
use Rattle.vs_design.specs.vs_logic4.specs.Sameness.{same_digits-true, same_digits_self}
use Rattle.vs_design.specs.vs_logic4.specs.Vectors.{same_digits}
use Rattle.vs_design.specs.declared.write.Part.{Part}
use Rattle.vs_design.specs.Stores.{Store, word_of, put, put_part}
use Rattle.vs_design.specs.Uses.{all_words, has_word}
use Rattle.vs_design.specs.Writes.{Write}
use Rattle.vs_eval.specs.Differences.{HaveOneSize, bits_differ, word_changes, part_changes}
use Rattle.vs_eval.proofs.StoresLemmas.{changed_by_parts, put_size}
use Rattle.vs_process.specs.declared.changes.Change.{Change}
use Rattle.vs_process.specs.Changes.{changed_word, changed_part, changed_words}
use Rattle.vs_run_active.specs.vs_process.proofs.Assigns.{signal_kept}
use Rattle.vs_run_active.specs.Changes.{MarkChanges, MarkWords}
use Rattle.vs_run_active.proofs.TouchesLemmas.{same_bits}

-- whether one of some words is of a signal
abbrev pub is_among : List Change → ℕ → Bool
is_among cs v = list_any (λ (c : Change). c.signal == v) cs

-- ---- signals

-- a word that isn't among the changed ones doesn't change its signal
quiet_word : (signal word : ℕ) (before behind : Option (List Digit)) (v : ℕ) → HaveOneSize before behind → is_among (changed_word signal word before behind) v ≡ false →
    word_changes signal word before behind (all_words v) ≡ false
quiet_word signal word None None v size h = same_bits signal word None (all_words v)
quiet_word signal word None (Some ds) v size h = cc
quiet_word signal word (Some ds) None v size h = cc
quiet_word signal word (Some before) (Some behind) v size h = by_test (same_digits before behind) refl h
  where
    by_test : (b : Bool) → same_digits before behind ≡ b →
        is_among (if b then [] else record { signal = signal; word = word; before = before; behind = behind } ∷ []) v ≡ false → word_changes signal word (Some before) (Some behind) (all_words v) ≡ false
    by_test true same none =
        ap (λ (ds : List Digit). word_changes signal word (Some before) (Some ds) (all_words v)) (sym (same_digits-true before behind same)) ∙ same_bits signal word (Some before) (all_words v)
    by_test false same none =
        let parts = or_parts (signal == v) false none in
        ap (λ (b : Bool). b && (has_word (all_words v).word word && bits_differ (all_words v).bits (Some before) (Some behind))) (ne_eqb v signal (λ e. eqb-false signal v parts.0 (sym e)))

quiet_parts : (old new : Store) (ps : Write) (v : ℕ) → ((signal word : ℕ) → HaveOneSize (word_of old signal word) (word_of new signal word)) → is_among (changed_words old new ps) v ≡ false →
    list_any (λ p. part_changes old new p (all_words v)) ps ≡ false
quiet_parts old new [] v size h = refl
quiet_parts old new (p ∷ ps) v size h =
    let parts = or_parts (is_among (changed_part old new p) v) (is_among (changed_words old new ps) v)
    (sym (list_any-append (λ (c : Change). c.signal == v) (changed_part old new p) (changed_words old new ps)) ∙ h)
    in
    or_from (part_changes old new p (all_words v)) (list_any (λ p. part_changes old new p (all_words v)) ps)
    (quiet_word p.signal p.word (word_of old p.signal p.word) (word_of new p.signal p.word) v (size p.signal p.word) parts.0)
    (quiet_parts old new ps v size parts.1)

-- the next of some changes stands in front of the others that are left
pub next_change : (changes items : List Change) (i : ℕ) (change : Change) → items ≡ changes → i < length items → change ≡ get_or items i change →
    drop i changes ≡ change ∷ drop (i + 1) changes
next_change changes items i change same below is =
    subst (λ (l : List Change). drop i l ≡ change ∷ drop (i + 1) l) same
    (drop_more items i change below ∙ ap (λ (c : Change). c ∷ drop (i + 1) items) (sym is))

-- a signal of which a write changes no word
kept_put : (w : Write) (old new : Store) (cs : List Change) (v : ℕ) → is_among cs v ≡ false → cs ≡ changed_words old new w → new ≡ put old w → slice_get new v ≡ slice_get old v
kept_put w old new cs v none words is =
    let quiet : is_among (changed_words old (put old w) w) v ≡ false = ap (λ (l : List Change). is_among l v) (sym (words ∙ ap (λ (s : Store). changed_words old s w) is)) ∙ none in
    ap (λ (s : Store). slice_get s v) is
    ∙ signal_kept old w v (changed_by_parts w old (all_words v) ∙ quiet_parts old (put old w) w v (put_size w old) quiet)

-- a write of whose changed words the signals are marked
pub marks_put : (marks later : List ℕ) (w : Write) (old new : Store) (cs : List Change) → MarkWords marks later cs → cs ≡ changed_words old new w → new ≡ put old w → MarkChanges marks later old new
marks_put marks later w old new cs h words is = record {
  len = h.len;
  marked = λ v off within.
      let m = h.marked v off in
      (m.0, kept_put w old new cs v (m.1 within) words is);
}

-- ---- a write of one part

-- the word that it names has one size before and behind
pub part_size : (store new : Store) (p : Part) (before behind : List Digit) → new ≡ put_part store p → word_of store p.signal p.word ≡ Some before → word_of new p.signal p.word ≡ Some behind →
    length before ≡ length behind
part_size store new p before behind is a b =
    let size : HaveOneSize (word_of store p.signal p.word) (word_of new p.signal p.word) =
    subst (λ (s : Store). HaveOneSize (word_of store p.signal p.word) (word_of s p.signal p.word)) (sym is) (put_size (p ∷ []) store p.signal p.word)
    in
    let one : HaveOneSize (Some before) (Some behind) =
    subst (λ (o : Option (List Digit)). HaveOneSize o (Some behind)) a (subst (HaveOneSize (word_of store p.signal p.word)) b size)
    in
    same_Some (length before) (length behind) one

pub part_words : (store new : Store) (p : Part) (before behind : List Digit) → word_of store p.signal p.word ≡ Some before → word_of new p.signal p.word ≡ Some behind →
    changed_part store new p ≡ changed_word p.signal p.word (Some before) (Some behind)
part_words store new p before behind a b = ap₂ (changed_word p.signal p.word) a b

-- without such a word nothing is changed
pub part_none : (store new : Store) (p : Part) → word_of store p.signal p.word ≡ None → changed_part store new p ≡ []
part_none store new p a = ap (λ (o : Option (List Digit)). changed_word p.signal p.word o (word_of new p.signal p.word)) a ∙ none (word_of new p.signal p.word)
  where
    none : (o : Option (List Digit)) → changed_word p.signal p.word None o ≡ []
    none None = refl
    none (Some ds) = refl

-- a word that is as it was, and one that isn't
pub word_kept : (signal word : ℕ) (before behind : List Digit) → same_digits before behind ≡ true → changed_word signal word (Some before) (Some behind) ≡ []
word_kept signal word before behind h = ap (λ (b : Bool). if b then [] else record { signal = signal; word = word; before = before; behind = behind } ∷ []) h

pub word_other : (signal word : ℕ) (before behind : List Digit) → same_digits before behind ≡ false →
    changed_word signal word (Some before) (Some behind) ≡ record { signal = signal; word = word; before = before; behind = behind } ∷ []
word_other signal word before behind h = ap (λ (b : Bool). if b then [] else record { signal = signal; word = word; before = before; behind = behind } ∷ []) h

-- a write that changes nothing changes no word
pub nothing_words : (store : Store) (p : Part) → changed_words store store (p ∷ []) ≡ []
nothing_words store p = ap (λ (l : List Change). l ++ []) (kept (word_of store p.signal p.word))
  where
    kept : (o : Option (List Digit)) → changed_word p.signal p.word o o ≡ []
    kept None = refl
    kept (Some ds) = word_kept p.signal p.word ds ds (same_digits_self ds)

-- ---- a word or none

-- without a changed word the marks stay
pub no_words : (marks : List ℕ) → MarkWords marks marks []
no_words marks = record { len = refl; marked = λ v off. (off, λ within. refl) }

-- a word that is the same behind is no change
pub word_same : (signal word : ℕ) (before behind : List Digit) → same_digits before behind ≡ true → changed_word signal word (Some before) (Some behind) ≡ []
word_same signal word before behind same = cond-true (same_digits before behind) [] (record { signal = signal; word = word; before = before; behind = behind } ∷ []) same
