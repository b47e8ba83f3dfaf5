-- What a value change dump shows of two traces that are the same.
use Rattle.std.proofs.Common.{◌≡◌, ℕ, Option, Some, None, IfSome, List, [], ◌∷◌, ◌++◌, refl, sym, ◌∙◌, ap, ap₂, subst, Bool, true, false}
use Rattle.std.specs.Prelude.{nat_le, unwrap_or, if◌then◌else◌}
use Rattle.std.specs.Option.{option_or}
use Rattle.vs_design.specs.Parts.{Parts}
use Rattle.vs_design.specs.Stores.{Store}
use Rattle.vs_design.specs.Traces.{Slot, Trace, SameSlots, SameTrace}
use Rattle.vs_simulate.specs.vs_kernel.specs.vs_vcd_writing.specs.Codes.{shown}
use Rattle.vs_simulate.specs.vs_kernel.specs.vs_vcd_writing.specs.Shown.{slot_at}
use Rattle.vs_simulate.specs.vs_kernel.specs.vs_vcd_writing.specs.Text.{end_time, first_lines, is_written, last_time, last_time_after, later_lines, lines_after, slots_lines, text_of, end_lines, vcd_end, vcd_header, vcd_slots, vcd_text}

after_same : (signals : List ℕ) (before : Store) (ss ts : List Slot) → SameSlots ss ts → lines_after signals before ss ≡ lines_after signals before ts
after_same signals before [] [] h = refl
after_same signals before [] (t ∷ ts) h = absurd h
after_same signals before (s ∷ ss) [] h = absurd h
after_same signals before (s ∷ ss) (t ∷ ts) h =
    ap₂ (λ (time : ℕ) (store : Store). later_lines signals before time store ++ lines_after signals store ss) h.0.time h.0.store
    ∙ ap (λ (l : List (List ℕ)). later_lines signals before t.time t.store ++ l) (after_same signals t.store ss ts h.1)

lines_same : (signals : List ℕ) (ss ts : List Slot) → SameSlots ss ts → slots_lines signals ss ≡ slots_lines signals ts
lines_same signals [] [] h = refl
lines_same signals [] (t ∷ ts) h = absurd h
lines_same signals (s ∷ ss) [] h = absurd h
lines_same signals (s ∷ ss) (t ∷ ts) h =
    ap₂ (λ (time : ℕ) (store : Store). first_lines signals time store ++ lines_after signals store ss) h.0.time h.0.store
    ∙ ap (λ (l : List (List ℕ)). first_lines signals t.time t.store ++ l) (after_same signals t.store ss ts h.1)

last_after_same : (signals : List ℕ) (time : ℕ) (before : Store) (ss ts : List Slot) → SameSlots ss ts →
    last_time_after signals time before ss ≡ last_time_after signals time before ts
last_after_same signals time before [] [] h = refl
last_after_same signals time before [] (t ∷ ts) h = absurd h
last_after_same signals time before (s ∷ ss) [] h = absurd h
last_after_same signals time before (s ∷ ss) (t ∷ ts) h =
    ap₂ (λ (now : ℕ) (store : Store). last_time_after signals (if is_written (later_lines signals before now store) then now else time) store ss) h.0.time h.0.store
    ∙ last_after_same signals (if is_written (later_lines signals before t.time t.store) then t.time else time) t.store ss ts h.1

last_same : (signals : List ℕ) (ss ts : List Slot) → SameSlots ss ts → last_time signals ss ≡ last_time signals ts
last_same signals [] [] h = refl
last_same signals [] (t ∷ ts) h = absurd h
last_same signals (s ∷ ss) [] h = absurd h
last_same signals (s ∷ ss) (t ∷ ts) h =
    ap₂ (λ (time : ℕ) (store : Store). Some (last_time_after signals time store ss)) h.0.time h.0.store
    ∙ ap Some (last_after_same signals t.time t.store ss ts h.1)

-- the value change dumps of two traces that are the same are equal
pub text_same : (d : Parts) (until : ℕ) (a b : Trace) → SameTrace a b → vcd_text d a until ≡ vcd_text d b until
text_same d until a b h =
    ap₂ (λ (lines : List (List ℕ)) (last : Option ℕ). vcd_header d ++ text_of lines ++ text_of (end_lines last (end_time a until)))
    (lines_same (shown d) a.slots b.slots h.slots) (last_same (shown d) a.slots b.slots h.slots)
    ∙ ap (λ (finish : Option ℕ). vcd_header d ++ vcd_slots d b.slots ++ vcd_end d b.slots (unwrap_or finish until)) h.finish

-- the same where there are none, or one each with the same store
abbrev SameFound : Option Slot → Option Slot → Type 0
SameFound None None = Unit {0}
SameFound (Some s) (Some t) = s.store ≡ t.store
SameFound _ _ = ⊥

found_or : (a b a' b' : Option Slot) → SameFound a b → SameFound a' b' → SameFound (option_or a a') (option_or b b')
found_or None None a' b' h k = k
found_or (Some s) (Some t) a' b' h k = h
found_or None (Some t) a' b' h k = absurd h
found_or (Some s) None a' b' h k = absurd h

found_if : (time : ℕ) (s t : Slot) → s.time ≡ t.time → s.store ≡ t.store →
    SameFound (if nat_le s.time time then Some s else None) (if nat_le t.time time then Some t else None)
found_if time s t at is =
    subst (λ (n : ℕ). SameFound (if nat_le s.time time then Some s else None) (if nat_le n time then Some t else None)) at (by (nat_le s.time time))
  where
    by : (b : Bool) → SameFound (if b then Some s else None) (if b then Some t else None)
    by true = is
    by false = tt

found_same : (time : ℕ) (ss ts : List Slot) → SameSlots ss ts → SameFound (slot_at time ss) (slot_at time ts)
found_same time [] [] h = tt
found_same time [] (t ∷ ts) h = absurd h
found_same time (s ∷ ss) [] h = absurd h
found_same time (s ∷ ss) (t ∷ ts) h =
    found_or (slot_at time ss) (slot_at time ts) (if nat_le s.time time then Some s else None) (if nat_le t.time time then Some t else None)
    (found_same time ss ts h.1) (found_if time s t h.0.time h.0.store)

by_found : (P : Store → Type 0) (a b : Option Slot) → SameFound a b → IfSome b (λ s. P s.store) → IfSome a (λ s. P s.store)
by_found P None None h k = tt
by_found P (Some s) (Some t) h k = subst P (sym h) k
by_found P None (Some t) h k = absurd h
by_found P (Some s) None h k = absurd h

-- what holds of the store of a slot at or before a time holds of that of the other list
pub shown_same : (P : Store → Type 0) (time : ℕ) (ss ts : List Slot) → SameSlots ss ts →
    IfSome (slot_at time ts) (λ s. P s.store) → IfSome (slot_at time ss) (λ s. P s.store)
shown_same P time ss ts h k = by_found P (slot_at time ss) (slot_at time ts) (found_same time ss ts h) k
