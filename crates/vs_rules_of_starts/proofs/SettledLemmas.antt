-- Continuous assignments that are made in an order settle the store in which executions begin, where it can be settled.
use Rattle.std.proofs.Common.{◌≡◌, ℕ, suc, ◌+◌, ◌<◌, ◌⊎◌, true, false, Option, Some, None, List, [], ◌∷◌, length, slice_get, refl, sym, ◌∙◌, ap, ap₂, subst, inl, inr, arith, ◌↔◌}
use Rattle.std.specs.List.{Contains, list_any}
use Rattle.std.proofs.lemmas.Bool.{cases_Bool, cases_lt, true≢false}
use Rattle.std.proofs.lemmas.Option.{none-some, same_Some, slice_get_within}
use Rattle.vs_design.specs.vs_logic4.proofs.Basics.{element_of as any_at}
use Rattle.vs_design.specs.vs_logic4.specs.declared.digit.Digit.{Digit}
use Rattle.vs_design.specs.declared.design.Assign.{Assign}
use Rattle.vs_design.specs.declared.range.BitRange.{BitRange}
use Rattle.vs_design.specs.Parts.{Parts}
use Rattle.vs_design.specs.Stores.{Store, put, is_changed, start_store}
use Rattle.vs_design.specs.Uses.{covers, reads, writes}
use Rattle.vs_design.specs.WellFormed.{WellFormed}
use Rattle.vs_rules.specs.vs_process.specs.vs_eval.specs.Laws.{digit_of}
use Rattle.vs_rules.specs.vs_process.specs.vs_eval.specs.Values.{target_value}
use Rattle.vs_rules.specs.vs_process.specs.Steps.{assignment}
use Rattle.vs_rules.specs.vs_process.proofs.Assigns.{DrivesApart, drives, nothing_changed}
use Rattle.vs_rules.specs.vs_process.proofs.Digits.{kept_digit, put_again, same_stores}
use Rattle.vs_rules.specs.vs_process.proofs.ProcessLists.{none_from}
use Rattle.vs_rules.specs.vs_process.proofs.Ranges.{assigned_fixed, covered_fixes, fixed_write, same_content, uncovered_keeps}
use Rattle.vs_rules.specs.vs_process.proofs.Stores.{shape, shape-put}
use Rattle.vs_rules.specs.vs_process.proofs.Values.{same_unchanged, target_value_unchanged}
use Rattle.vs_rules.specs.vs_process.proofs.WellFormed.{drives_apart}
use Rattle.vs_rules.specs.vs_process.specs.Bits.{HasBit}
use Rattle.vs_rules.specs.vs_process.specs.BlockDrivers.{IsSettledStart}
use Rattle.vs_rules.specs.vs_process.proofs.Bits.{by_bit}
use Rattle.vs_rules.specs.vs_process.proofs.ThreadLists.{contains_at, place_of}
use Rattle.vs_rules.specs.vs_process.proofs.Settle.{same_fixed}
use Rattle.vs_rules_of_starts.specs.Settled.{put_assign, put_all, is_idle, are_idle, Drives, IsDrivenBefore, IsInOrder}

-- ---- bits whose digits are known

-- no continuous assignment drives it, or one of the first so many of a list does
abbrev IsKnown : Parts → List ℕ → ℕ → ℕ → ℕ → ℕ → Type 0
IsKnown d order i v w n = (drives d.assigns v w n ≡ false) ⊎ IsDrivenBefore d order i v w n

-- two stores agree on the bits that are known after so many of a list
record Agree (d : Parts) (order : List ℕ) (i : ℕ) (s t : Store) : Type 0 where
  sized : shape s ≡ shape (start_store d)
  alike : (v w n : ℕ) → IsKnown d order i v w n → digit_of s v w n ≡ digit_of t v w n

-- who drives a bit
driver_of : (d : Parts) (v w n : ℕ) → drives d.assigns v w n ≡ true → (j : ℕ) × Drives d j v w n
driver_of d v w n h =
    let found = any_at (λ (a : Assign). list_any (covers v w n) (writes a.target)) d.assigns h in
    (found.0, record { assign = found.1; is = found.2; covers = found.3 })

undriven_not : (d : Parts) (j v w n : ℕ) → drives d.assigns v w n ≡ false → Drives d j v w n → ⊥
undriven_not d j v w n none by =
    true≢false (sym (Rattle.std.proofs.lemmas.Map.Keys.any_passes_from_place (λ (a : Assign). list_any (covers v w n) (writes a.target)) d.assigns j by.assign by.is by.covers) ∙ none)

-- what a settled store is after an assignment of its own
settled_left : (d : Parts) → DrivesApart d → (t : Store) → IsSettledStart d t → (j : ℕ) (a : Assign) → slice_get d.assigns j ≡ Some a →
    put t (fixed_write a.target (target_value a.target a.source t 0)) ≡ t
settled_left d well t settled j a is =
    ap (put t) (sym (assigned_fixed a.target (target_value a.target a.source t 0) t 0 (well.fixed j a is)))
    ∙ nothing_changed t (assignment a.target a.source t 0) (settled.settled j a is)

-- ---- one assignment

-- what it reads is alike in both stores
reads_alike : (d : Parts) (order : List ℕ) → IsInOrder d order → (i : ℕ) (s t : Store) → shape t ≡ shape (start_store d) → Agree d order i s t → (j : ℕ) (a : Assign) → slice_get order i ≡ Some j → slice_get d.assigns j ≡ Some a →
    list_any (is_changed s t) (reads a.source) ≡ false
reads_alike d order ordered i s t sized same j a at is =
    none_from (is_changed s t) (reads a.source) (λ k r here. same_unchanged s t r (same_content s t r (same.sized ∙ sym sized) (λ w n cov.
    by_bit d s t same.sized (same.sized ∙ sym sized) r.signal w n (λ bit.
    same.alike r.signal w n (known r w n (contains_at (reads a.source) k r here) bit cov (cases_Bool (drives d.assigns r.signal w n)))))))
  where
    known : (r : BitRange) (w n : ℕ) → Contains (reads a.source) r → HasBit d r.signal w n → covers r.signal w n r ≡ true →
        ((drives d.assigns r.signal w n ≡ true) ⊎ (drives d.assigns r.signal w n ≡ false)) → IsKnown d order i r.signal w n
    known r w n read bit cov (inl hit) =
        let by = driver_of d r.signal w n hit in
        inr (ordered.behind i j by.0 w n a r at is read bit cov by.1)
    known r w n read bit cov (inr miss) = inl miss

-- after it both stores agree on what it drives too
agree_one : (d : Parts) → DrivesApart d → (order : List ℕ) → IsInOrder d order → (i : ℕ) (s t : Store) → IsSettledStart d t → Agree d order i s t → (j : ℕ) (a : Assign) → slice_get order i ≡ Some j → slice_get d.assigns j ≡ Some a →
    Agree d order (suc i) (put s (assignment a.target a.source s 0)) t
agree_one d well order ordered i s t settled same j a at is =
    subst (λ p. Agree d order (suc i) (put s p) t) (sym (assigned_fixed a.target value s 0 (well.fixed j a is)))
    (record { sized = shape-put s p ∙ same.sized; alike = λ v w n known. bit v w n known (cases_Bool (list_any (covers v w n) (writes a.target))) })
  where
    value : List Digit
    value = target_value a.target a.source s 0

    p : Rattle.vs_design.specs.Writes.Write
    p = fixed_write a.target value

    shaped : shape (put s p) ≡ shape t
    shaped = shape-put s p ∙ same.sized ∙ sym settled.sized

    left : put t p ≡ t
    left =
        ap (λ x. put t (fixed_write a.target x)) (target_value_unchanged s t 0 0 a.target a.source (reads_alike d order ordered i s t settled.sized same j a at is))
        ∙ settled_left d well t settled j a is

    before : (v w n : ℕ) → list_any (covers v w n) (writes a.target) ≡ false → IsKnown d order (suc i) v w n → IsKnown d order i v w n
    before v w n miss (inl none) = inl none
    before v w n miss (inr by) = elim (cases_lt by.place i) [
      | inl lt ↦ inr (record { place = by.place; number = by.number; below = lt; is = by.is; drives = by.drives })
      | inr le ↦
          let here : by.place ≡ i = omega (arith, by.below, le) in
          let one : by.number ≡ j = same_Some by.number j (sym by.is ∙ ap (slice_get order) here ∙ at) in
          let other : by.drives.assign ≡ a = same_Some by.drives.assign a (sym by.drives.is ∙ ap (slice_get d.assigns) one ∙ is) in
          absurd (true≢false (sym by.drives.covers ∙ ap (λ (x : Assign). list_any (covers v w n) (writes x.target)) other ∙ miss))
    ]

    bit : (v w n : ℕ) → IsKnown d order (suc i) v w n → ((list_any (covers v w n) (writes a.target) ≡ true) ⊎ (list_any (covers v w n) (writes a.target) ≡ false)) →
        digit_of (put s p) v w n ≡ digit_of t v w n
    bit v w n known (inl hit) = same_fixed (put s p) t p v w n shaped (covered_fixes a.target value v w n (well.fixed j a is) hit) (put_again s p) left
    bit v w n known (inr miss) =
        kept_digit s p v w n (uncovered_keeps a.target value v w n (well.fixed j a is) miss) ∙ same.alike v w n (before v w n miss known)

agree_next : (d : Parts) → DrivesApart d → (order : List ℕ) → IsInOrder d order → (i : ℕ) (s t : Store) → IsSettledStart d t → Agree d order i s t → (j : ℕ) → slice_get order i ≡ Some j →
    Agree d order (suc i) (put_assign (slice_get d.assigns j) s) t
agree_next d well order ordered i s t settled same j at = by_assign (slice_get d.assigns j) refl
  where
    before : (v w n : ℕ) → slice_get d.assigns j ≡ None → IsKnown d order (suc i) v w n → IsKnown d order i v w n
    before v w n none (inl miss) = inl miss
    before v w n none (inr by) = elim (cases_lt by.place i) [
      | inl lt ↦ inr (record { place = by.place; number = by.number; below = lt; is = by.is; drives = by.drives })
      | inr le ↦
          let here : by.place ≡ i = omega (arith, by.below, le) in
          let one : by.number ≡ j = same_Some by.number j (sym by.is ∙ ap (slice_get order) here ∙ at) in
          absurd (none-some by.drives.assign (sym none ∙ ap (slice_get d.assigns) (sym one) ∙ by.drives.is))
    ]

    by_assign : (o : Option Assign) → slice_get d.assigns j ≡ o → Agree d order (suc i) (put_assign o s) t
    by_assign None none = record { sized = same.sized; alike = λ v w n known. same.alike v w n (before v w n none known) }
    by_assign (Some a) is = agree_one d well order ordered i s t settled same j a at is

-- ---- all

agree_all : (d : Parts) → DrivesApart d → (order : List ℕ) → IsInOrder d order → (t : Store) → IsSettledStart d t → (js : List ℕ) (i : ℕ) (s : Store) → ((k : ℕ) → slice_get js k ≡ slice_get order (i + k)) →
    Agree d order i s t → Agree d order (i + length js) (put_all d.assigns js s) t
agree_all d well order ordered t settled [] i s is same = subst (λ k. Agree d order k s t) (omega arith) same
agree_all d well order ordered t settled (j ∷ js) i s is same =
    subst (λ k. Agree d order k (put_all d.assigns (j ∷ js) s) t) (omega arith)
    (agree_all d well order ordered t settled js (suc i) (put_assign (slice_get d.assigns j) s) (λ k. is (suc k) ∙ ap (slice_get order) (omega arith))
    (agree_next d well order ordered i s t settled same j (ap (slice_get order) (omega arith) ∙ sym (is 0))))

-- a store that is settled is the one that they make
pub settles : (d : Parts) → WellFormed d → (order : List ℕ) → IsInOrder d order → (t : Store) → IsSettledStart d t → put_all d.assigns order (start_store d) ≡ t
settles d formed order ordered t settled =
    let well = drives_apart d formed in
    let all = agree_all d well order ordered t settled order 0 (start_store d) (λ k. ap (slice_get order) (omega arith)) (record { sized = refl; alike = first }) in
    same_stores (put_all d.assigns order (start_store d)) t (all.sized ∙ sym settled.sized) (λ v w n. all.alike v w n (known v w n (cases_Bool (drives d.assigns v w n))))
  where
    first : (v w n : ℕ) → IsKnown d order 0 v w n → digit_of (start_store d) v w n ≡ digit_of t v w n
    first v w n (inl none) = sym (settled.undriven v w n none)
    first v w n (inr by) = absurd (let h = by.below in omega (arith, h))

    known : (v w n : ℕ) → ((drives d.assigns v w n ≡ true) ⊎ (drives d.assigns v w n ≡ false)) → IsKnown d order (0 + length order) v w n
    known v w n (inr miss) = inl miss
    known v w n (inl hit) =
        let by = driver_of d v w n hit in
        let at = place_of order by.0 (ordered.all by.0 by.1.assign by.1.is) in
        let lt : at.0 < length order = slice_get_within order at.0 by.0 at.1 in
        inr (record { place = at.0; number = by.0; below = omega (arith, lt); is = at.1; drives = by.1 })

-- ---- the store that they make

-- it keeps its sizes and the bits that are undriven
record IsFrom (d : Parts) (s : Store) : Type 0 where
  sized : shape s ≡ shape (start_store d)
  undriven : (v w n : ℕ) → drives d.assigns v w n ≡ false → digit_of s v w n ≡ digit_of (start_store d) v w n

from_assign : (d : Parts) → DrivesApart d → (j : ℕ) (s : Store) → IsFrom d s → IsFrom d (put_assign (slice_get d.assigns j) s)
from_assign d well j s from = by_assign (slice_get d.assigns j) refl
  where
    by_assign : (o : Option Assign) → slice_get d.assigns j ≡ o → IsFrom d (put_assign o s)
    by_assign None is = from
    by_assign (Some a) is =
        let value = target_value a.target a.source s 0 in
        subst (λ p. IsFrom d (put s p)) (sym (assigned_fixed a.target value s 0 (well.fixed j a is)))
        (record {
          sized = shape-put s (fixed_write a.target value) ∙ from.sized;
          undriven = λ v w n none.
              kept_digit s (fixed_write a.target value) v w n (uncovered_keeps a.target value v w n (well.fixed j a is) (misses v w n none (cases_Bool (list_any (covers v w n) (writes a.target)))))
              ∙ from.undriven v w n none;
        })
      where
        misses : (v w n : ℕ) → drives d.assigns v w n ≡ false → ((list_any (covers v w n) (writes a.target) ≡ true) ⊎ (list_any (covers v w n) (writes a.target) ≡ false)) → list_any (covers v w n) (writes a.target) ≡ false
        misses v w n none (inl hit) = absurd (undriven_not d j v w n none (record { assign = a; is = is; covers = hit }))
        misses v w n none (inr miss) = miss

from_all : (d : Parts) → DrivesApart d → (js : List ℕ) (s : Store) → IsFrom d s → IsFrom d (put_all d.assigns js s)
from_all d well [] s from = from
from_all d well (j ∷ js) s from = from_all d well js (put_assign (slice_get d.assigns j) s) (from_assign d well j s from)

-- where no assignment would change anything, the store that they make is settled
pub made_settled : (d : Parts) → WellFormed d → (order : List ℕ) → are_idle d.assigns (put_all d.assigns order (start_store d)) ≡ true → IsSettledStart d (put_all d.assigns order (start_store d))
made_settled d formed order idle =
    let from = from_all d (drives_apart d formed) order (start_store d) (record { sized = refl; undriven = λ v w n none. refl }) in
    record {
      sized = from.sized;
      undriven = from.undriven;
      settled = λ j a is. Rattle.vs_design.specs.vs_logic4.proofs.Basics.all_at (is_idle (put_all d.assigns order (start_store d))) d.assigns j a is idle;
    }

-- and where one is settled, none would
pub settled_idle : (d : Parts) (t : Store) → IsSettledStart d t → are_idle d.assigns t ≡ true
settled_idle d t settled = all_from d.assigns settled.settled
  where
    all_from : (as' : List Assign) → ((j : ℕ) (a : Assign) → slice_get as' j ≡ Some a → is_idle t a ≡ true) → are_idle as' t ≡ true
    all_from [] h = refl
    all_from (a ∷ as') h = Rattle.std.proofs.lemmas.Bool.and_from (is_idle t a) (are_idle as' t) (h 0 a refl) (all_from as' (λ j. h (suc j)))

-- ---- what is found

pub settled_found : (d : Parts) → WellFormed d → (order : List ℕ) → IsInOrder d order → (assigns : List Assign) (first made : Store) → assigns ≡ d.assigns → first ≡ start_store d →
    made ≡ put_all assigns order first → are_idle assigns made ≡ true → (store : Store) → (IsSettledStart d store ↔ (Some made ≡ Some store))
settled_found d formed order ordered assigns first made same begins makes idle store =
    let is : made ≡ put_all d.assigns order (start_store d) = makes ∙ ap₂ (λ (as' : List Assign) (s : Store). put_all as' order s) same begins in (
      λ settled. ap (λ (s : Store). Some s) (is ∙ settles d formed order ordered store settled),
      λ found. subst (IsSettledStart d) (sym is ∙ same_Some made store found)
          (made_settled d formed order (ap₂ are_idle (sym same) (sym is) ∙ idle)),
    )

pub settled_missed : (d : Parts) → WellFormed d → (order : List ℕ) → IsInOrder d order → (assigns : List Assign) (first made : Store) → assigns ≡ d.assigns → first ≡ start_store d →
    made ≡ put_all assigns order first → are_idle assigns made ≡ false → (store : Store) → (IsSettledStart d store ↔ (None ≡ Some store))
settled_missed d formed order ordered assigns first made same begins makes idle store = (
  λ settled. absurd (true≢false (sym (settled_idle d store settled)
      ∙ ap₂ are_idle (sym same) (sym (makes ∙ ap₂ (λ (as' : List Assign) (s : Store). put_all as' order s) same begins ∙ settles d formed order ordered store settled)) ∙ idle)),
  λ found. absurd (none-some store found),
)
