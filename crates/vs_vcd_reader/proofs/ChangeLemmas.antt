-- The values and the changes of slots are those of times of a dump.
use Rattle.std.proofs.Common.{◌≡◌, ℕ, suc, ◌≤◌, ◌-◌, false, Some, List, [], ◌∷◌, ◌++◌, length, map, take, drop, refl, sym, ap, subst, ◌∙◌, append_assoc, length-drop, arith}
use Rattle.std.proofs.lemmas.Bool.{cond_both, false≢true}
use Rattle.std.proofs.lemmas.List.{take-append-drop, drop-set-lt}
use Rattle.std.proofs.Math.Seq.{take-suc-set}
use Rattle.std.specs.Prelude.{slice_set}
use Rattle.std.specs.List.{All}
use Rattle.vs_design.specs.vs_logic4.specs.declared.digit.Digit.{Digit}
use Rattle.vs_design.specs.vs_logic4.specs.Sameness.{same_digits-true, same_digits_self}
use Rattle.vs_design.specs.vs_logic4.specs.Vectors.{same_digits}
use Rattle.vs_design.specs.Stores.{Store}
use Rattle.vs_vcd_writing.specs.Text.{is_same}
use Rattle.vs_vcd_writing.specs.Values.{shown_value}
use Rattle.vs_vcd_reader.specs.Layout.{written, values_of, IsChange, AreAll, AreChanges}
use Rattle.vs_vcd_reader.specs.Layout.{AreAll as a, AreChanges as c}
use Rattle.vs_vcd_reader.specs.Said.{value_in, values_in, changes_in}
use Rattle.vs_vcd_reader.proofs.ListLemmas.{drop_head, take_head, all_head, all_tail}

-- a value that a store shows has this size
abbrev pub IsOfSize : (ℕ → ℕ) → Store → ℕ → Type 0
IsOfSize size store s = length (shown_value store s) ≡ size s

-- ---- all values

pub all_values : (widths : List ℕ) (size : ℕ → ℕ) (store : Store) (n : ℕ) (ss : List ℕ) → drop n widths ≡ map size ss → n ≤ length widths
    → All (IsOfSize size store) ss → AreAll widths n (values_in store n ss)
all_values widths size store n [] e least sized =
    let none : length widths - n ≡ 0 = sym (length-drop n widths) ∙ ap length e in
    subst (λ k. AreAll widths k []) (omega (arith, none, least)) a.none
all_values widths size store n (s ∷ ss) e least sized =
    let h = drop_head n widths (size s) (map size ss) e in
    a.more (value_in store n s) (values_in store (suc n) ss) (h.0 ∙ ap Some (sym (all_head (IsOfSize size store) s ss sized)))
    (all_values widths size store (suc n) ss h.1 (omega (arith, h.2)) (all_tail (IsOfSize size store) s ss sized))

pub values_are : (store : Store) (n : ℕ) (ss : List ℕ) → values_of (values_in store n ss) ≡ map (shown_value store) ss
values_are store n [] = refl
values_are store n (s ∷ ss) = ap (λ l. shown_value store s ∷ l) (values_are store (suc n) ss)

-- ---- changes

-- a change of the signal at a place: the values from the next one on stay
changed_rest : (values : List (List Digit)) (n : ℕ) (v w : List Digit) (rest : List (List Digit)) → drop n values ≡ w ∷ rest
    → (drop (suc n) (slice_set values n v) ≡ rest) × (take (suc n) (slice_set values n v) ≡ take n values ++ v ∷ [])
changed_rest values n v w rest e =
    let h = drop_head n values w rest e in
    (drop-set-lt (suc n) values n v (omega arith) ∙ h.1, take-suc-set values n v h.2)

-- after the changes the values are those of the second store
pub written_are : (before after : Store) (n : ℕ) (ss : List ℕ) (values : List (List Digit)) → drop n values ≡ map (shown_value before) ss
    → written values (changes_in before after n ss) ≡ take n values ++ map (shown_value after) ss
written_are before after n [] values e = sym (take-append-drop n values) ∙ ap (λ l. take n values ++ l) e
written_are before after n (s ∷ ss) values e =
    let old = shown_value before s in
    let new = shown_value after s in
    let rest = map (shown_value after) ss in
    let more = changes_in before after (suc n) ss in
    let h = drop_head n values old (map (shown_value before) ss) e in
    let set = changed_rest values n new old (map (shown_value before) ss) e in
    cond_both (is_same before after s) [] (value_in after n s ∷ []) (λ cs. written values (cs ++ more) ≡ take n values ++ new ∷ rest)
    (λ same.
    written_are before after (suc n) ss values h.1
    ∙ ap (λ l. l ++ rest) (take_head n values old (map (shown_value before) ss) e ∙ ap (λ v. take n values ++ v ∷ []) (same_digits-true old new same))
    ∙ append_assoc (take n values) (new ∷ []) rest)
    (λ other.
    written_are before after (suc n) ss (slice_set values n new) set.0
    ∙ ap (λ l. l ++ rest) set.1 ∙ append_assoc (take n values) (new ∷ []) rest)

-- a value that differs is a change
is_change : (widths : List ℕ) (size : ℕ → ℕ) (before after : Store) (n s : ℕ) (ws : List ℕ) (vs values : List (List Digit)) → drop n widths ≡ size s ∷ ws
    → drop n values ≡ shown_value before s ∷ vs → IsOfSize size after s → is_same before after s ≡ false → IsChange widths values (value_in after n s)
is_change widths size before after n s ws vs values w e sized other = record {
  old = shown_value before s;
  sized = (drop_head n widths (size s) ws w).0 ∙ ap Some (sym sized);
  before = (drop_head n values (shown_value before s) vs e).0;
  differs = λ same.
      false≢true (sym other ∙ ap (same_digits (shown_value before s)) same ∙ same_digits_self (shown_value before s));
}

pub changes_are : (widths : List ℕ) (size : ℕ → ℕ) (before after : Store) (from n : ℕ) (ss : List ℕ) (values : List (List Digit)) → from ≤ n
    → drop n widths ≡ map size ss → drop n values ≡ map (shown_value before) ss → All (IsOfSize size after) ss
    → AreChanges widths values from (changes_in before after n ss)
changes_are widths size before after from n [] values least w e sized = c.none values from
changes_are widths size before after from n (s ∷ ss) values least w e sized =
    let vs = map (shown_value before) ss in
    let more = changes_in before after (suc n) ss in
    let wide = drop_head n widths (size s) (map size ss) w in
    let h = drop_head n values (shown_value before s) vs e in
    let tail = all_tail (IsOfSize size after) s ss sized in
    cond_both (is_same before after s) [] (value_in after n s ∷ []) (λ cs. AreChanges widths values from (cs ++ more))
    (λ same. changes_are widths size before after from (suc n) ss values (omega (arith, least)) wide.1 h.1 tail)
    (λ other.
    c.more values from (value_in after n s) more least
    (is_change widths size before after n s (map size ss) vs values w e (all_head (IsOfSize size after) s ss sized) other)
    (changes_are widths size before after (suc n) (suc n) ss (slice_set values n (shown_value after s)) (omega arith) wide.1
    (changed_rest values n (shown_value after s) (shown_value before s) vs e).0 tail))
