-- A value depends on what its expression reads.
use Rattle.std.proofs.Common.{◌≡◌, ℕ, not, false, map, slice_get, refl, sym, ◌∙◌, ap}
use Rattle.std.specs.List.{list_any}
use Rattle.std.proofs.lemmas.Bool.{not-false, not_from_true}
use Rattle.vs_design.specs.vs_logic4.specs.Vectors.{resized}
use Rattle.vs_design.specs.declared.expression.Typed.{Typed}
use Rattle.vs_design.specs.declared.range.BitRange.{BitRange}
use Rattle.vs_design.specs.declared.statement.Target.{Target}
use Rattle.vs_design.specs.Stores.{Store, same_words, words_in, chosen_words, chosen_bits, content, is_changed}
use Rattle.vs_design.specs.Uses.{reads}
use Rattle.vs_eval.specs.Values.{value_of, target_value}
use Rattle.vs_eval.proofs.ReadsHold.{value_kept}
use Rattle.vs_design.proofs.Stores.{same_words-true, same_words_self}

-- ---- changes of ranges

-- a range that isn't changed has the same content
pub unchanged : (old new : Store) (r : BitRange) → is_changed old new r ≡ false → content r old ≡ content r new
unchanged old new r h = same_words-true (content r old) (content r new) (not-false (same_words (content r old) (content r new)) h)

-- a range of a signal that two stores have alike isn't changed
pub not_changed : (old new : Store) (r : BitRange) → slice_get new r.signal ≡ slice_get old r.signal → is_changed old new r ≡ false
not_changed old new r same =
    ap (λ o. not (same_words (content r old) (map (chosen_bits r.bits) (chosen_words r.word (words_in o))))) same
    ∙ not_from_true (same_words (content r old) (content r old)) (same_words_self (content r old))

-- nor is one that holds the same in both
pub same_unchanged : (old new : Store) (r : BitRange) → content r old ≡ content r new → is_changed old new r ≡ false
same_unchanged old new r same = ap (λ c. not (same_words (content r old) c)) (sym same) ∙ not_from_true (same_words (content r old) (content r old)) (same_words_self (content r old))

-- ---- values

-- no value hangs on the time yet
value_any_time : (store : Store) (m n : ℕ) (e : Typed) → value_of e store m ≡ value_of e store n
value_any_time store m n e = refl

-- an expression has the same value in two stores between which nothing that it reads is changed, whatever the time
pub value_unchanged : (a b : Store) (m n : ℕ) (e : Typed) → list_any (is_changed a b) (reads e) ≡ false → value_of e a m ≡ value_of e b n
value_unchanged a b m n e h = value_kept a b m e h ∙ value_any_time b m n e

pub target_value_unchanged : (a b : Store) (m n : ℕ) (t : Target) (e : Typed) → list_any (is_changed a b) (reads e) ≡ false → target_value t e a m ≡ target_value t e b n
target_value_unchanged a b m n t e h = ap (resized false t.width) (value_unchanged a b m n e h)
