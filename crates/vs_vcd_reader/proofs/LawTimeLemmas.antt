-- The values that a dump of slots gives at a time.
use Rattle.std.proofs.Common.{◌≡◌, ℕ, ◌<◌, ◌≤◌, Bool, true, false, Some, IfSome, List, [], ◌∷◌, ◌++◌, map, refl, sym, ap, subst, ◌∙◌, append_assoc, arith, inl, inr}
use Rattle.std.proofs.lemmas.Bool.{cases_lt, cond-true, cond-false, le-leb, lt-leb}
use Rattle.std.specs.Prelude.{◌==◌, nat_le, unwrap_or, if◌then◌else◌}
use Rattle.vs_design.specs.vs_logic4.specs.declared.digit.Digit.{Digit}
use Rattle.vs_design.specs.Stores.{Store}
use Rattle.vs_design.specs.Traces.{Slot, AreRisingAfter}
use Rattle.vs_vcd_writing.specs.Values.{shown_value}
use Rattle.vs_vcd_writing.specs.Shown.{slot_at}
use Rattle.vs_vcd_writing.proofs.ChangeLemmas.{slot_at-cons, slot_at-before}
use Rattle.vs_vcd_reader.specs.vs_vcd_lines.specs.declared.dump.ValueChange.{ValueChange}
use Rattle.vs_vcd_reader.specs.Plain.{PlainMoment}
use Rattle.vs_vcd_reader.specs.Layout.{moment_at, values_of, written}
use Rattle.vs_vcd_reader.specs.Said.{values_in, changes_in, timed_changes, moments_after, moments_of, end_moments}
use Rattle.vs_vcd_reader.specs.Values.{values_after, values_at}
use Rattle.vs_vcd_reader.proofs.ChangeLemmas.{values_are, written_are}

-- times that change no value
abbrev pub AreQuiet : ℕ → List PlainMoment → Type 0
AreQuiet time ends = (values : List (List Digit)) → values_after time values ends ≡ values

either : {A : Type 0} (b : Bool) (x : A) → (if b then x else x) ≡ x
either true x = refl
either false x = refl

pub quiet_nothing : (time : ℕ) → AreQuiet time []
quiet_nothing time values = refl

quiet_one : (b : Bool) (time end : ℕ) → AreQuiet time (if b then [] else moment_at end [] ∷ [])
quiet_one true time end values = refl
quiet_one false time end values = either (nat_le end time) values

pub quiet_end : (time last end : ℕ) → AreQuiet time (end_moments (Some last) end)
quiet_end time last end = quiet_one (last == end) time end

-- a time at or before the one asked for
timed_before : (time at : ℕ) (values : List (List Digit)) (cs : List ValueChange) (rest : List PlainMoment) → at ≤ time
    → values_after time values (timed_changes at cs ++ rest) ≡ values_after time (written values cs) rest
timed_before time at values [] rest there = refl
timed_before time at values (c ∷ cs) rest there =
    cond-true (nat_le at time) (values_after time (written values (c ∷ cs)) rest) values (le-leb at time there)

-- a later one
timed_after : (time at : ℕ) (values : List (List Digit)) (cs : List ValueChange) (rest : List PlainMoment) → time < at
    → values_after time values rest ≡ values → values_after time values (timed_changes at cs ++ rest) ≡ values
timed_after time at values [] rest late h = h
timed_after time at values (c ∷ cs) rest late h =
    cond-false (nat_le at time) (values_after time (written values (c ∷ cs)) rest) values (lt-leb at time late)

slots_after : (time now : ℕ) (signals : List ℕ) (before : Store) (ss : List Slot) (ends : List PlainMoment) (values : List (List Digit)) → time ≤ now
    → AreRisingAfter now ss → AreQuiet time ends → values_after time values (moments_after signals before ss ++ ends) ≡ values
slots_after time now signals before [] ends values passed rising quiet = quiet values
slots_after time now signals before (s ∷ ss) ends values passed rising quiet =
    let cs = changes_in before s.store 0 signals in
    let more = moments_after signals s.store ss in
    let late : time < s.time = omega (arith, passed, rising.0) in
    ap (values_after time values) (append_assoc (timed_changes s.time cs) more ends)
    ∙ timed_after time s.time values cs (more ++ ends) late (slots_after time s.time signals s.store ss ends values (omega (arith, late)) rising.2 quiet)

-- the values after a slot and later ones
values_later : (time : ℕ) (signals : List ℕ) (b : Slot) (ss : List Slot) (ends : List PlainMoment) → AreRisingAfter b.time ss → AreQuiet time ends
    → values_after time (map (shown_value b.store) signals) (moments_after signals b.store ss ++ ends)
    ≡ map (shown_value (unwrap_or (slot_at time ss) b).store) signals
values_later time signals b [] ends rising quiet = quiet (map (shown_value b.store) signals)
values_later time signals b (s ∷ ss) ends rising quiet =
    let values = map (shown_value b.store) signals in
    let cs = changes_in b.store s.store 0 signals in
    let more = moments_after signals s.store ss in
    elim (cases_lt time s.time) [
      | inl early ↦
          slots_after time time signals b.store (s ∷ ss) ends values (omega arith) (early, rising.1, rising.2) quiet
          ∙ ap (λ o. map (shown_value (unwrap_or o b).store) signals) (sym (slot_at-before time s ss early rising.2))
      | inr there ↦
          ap (values_after time values) (append_assoc (timed_changes s.time cs) more ends)
          ∙ timed_before time s.time values cs (more ++ ends) there
          ∙ ap (λ v. values_after time v (more ++ ends)) (written_are b.store s.store 0 signals values refl)
          ∙ values_later time signals s ss ends rising.2 quiet
          ∙ ap (λ o. map (shown_value (unwrap_or o b).store) signals) (sym (slot_at-cons time s ss there))
    ]

-- the values at a time are those of the last slot at or before it
pub values_shown : (time : ℕ) (signals : List ℕ) (s : Slot) (ss : List Slot) (ends : List PlainMoment) → AreRisingAfter s.time ss → AreQuiet time ends
    → IfSome (slot_at time (s ∷ ss)) (λ x. values_at time (moments_of signals (s ∷ ss) ++ ends) ≡ map (shown_value x.store) signals)
values_shown time signals s ss ends rising quiet =
    let all = moments_of signals (s ∷ ss) ++ ends in
    let more = moments_after signals s.store ss ++ ends in
    elim (cases_lt time s.time) [
      | inl early ↦ subst (λ o. IfSome o (λ (x : Slot). values_at time all ≡ map (shown_value x.store) signals)) (sym (slot_at-before time s ss early rising)) tt
      | inr there ↦
          subst (λ o. IfSome o (λ (x : Slot). values_at time all ≡ map (shown_value x.store) signals)) (sym (slot_at-cons time s ss there))
          (cond-true (nat_le s.time time) (values_after time (values_of (values_in s.store 0 signals)) more) [] (le-leb s.time time there)
          ∙ ap (λ v. values_after time v more) (values_are s.store 0 signals) ∙ values_later time signals s ss ends rising quiet)
    ]
