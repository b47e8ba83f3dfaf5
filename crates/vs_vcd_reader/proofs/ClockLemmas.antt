-- The times of the slots of an execution: the first is 0, and none is after the execution's.
use Rattle.std.proofs.Common.{◌≡◌, ℕ, ◌≤◌, Bool, true, false, Option, Some, None, List, [], ◌∷◌, ◌++◌, slice_get, refl, sym, subst, arith}
use Rattle.std.proofs.lemmas.Bool.{ltb-false, or_parts}
use Rattle.std.proofs.lemmas.List.{append-nil}
use Rattle.std.specs.Prelude.{nat_lt}
use Rattle.vs_design.specs.Parts.{Parts}
use Rattle.vs_design.specs.Traces.{Slot}
use Rattle.vs_process.specs.declared.moves.Grain.{Grain}
use Rattle.vs_process.specs.declared.moves.Move.{Move}
use Rattle.vs_process.specs.declared.moves.Move.TheVariants.{Step, Evaluate, Propagate, Make, Rouse, Activate, EndSlot}
use Rattle.vs_process.specs.Executions.{after, apply, ended_slot, ends, is_enabled, Legal, next_time, after_slot, slots, time_at}
use Rattle.vs_process.specs.States.{State}
use Rattle.vs_process.proofs.Times.{Above, Each, Timed, enabled_of, next_above, timed, stepped_time}
use Rattle.vs_kernel.specs.Runs.{StopsAt}
use Rattle.vs_kernel.specs.vs_run_steps.proofs.MoveLemmas.{evaluated_time, propagated_time, make_time}

-- the first slot ends at 0; where there is none, this is the time
abbrev pub BeginsAtZero : ℕ → List Slot → Type 0
BeginsAtZero time [] = time ≡ 0
BeginsAtZero time (x ∷ xs) = x.time ≡ 0

-- slots of an execution whose time is this
pub record IsClocked (xs : List Slot) (time : ℕ) : Type 0 where
  pub begins : BeginsAtZero time xs
  pub passed : Each (λ (x : Slot). x.time ≤ time) xs

each_more : (P : Slot → Type 0) (xs : List Slot) (x : Slot) → Each P xs → P x → Each P (xs ++ x ∷ [])
each_more P [] x h p = (p, tt)
each_more P (y ∷ ys) x h p = (h.0, each_more P ys x h.1 p)

each_later : (time next : ℕ) (xs : List Slot) → time ≤ next → Each (λ (x : Slot). x.time ≤ time) xs → Each (λ (x : Slot). x.time ≤ next) xs
each_later time next [] up h = tt
each_later time next (x ∷ xs) up h = (omega (arith, up, h.0), each_later time next xs up h.1)

begins_more : (time next : ℕ) (xs : List Slot) (x : Slot) → x.time ≡ time → BeginsAtZero time xs → BeginsAtZero next (xs ++ x ∷ [])
begins_more time next [] x here h = omega (arith, here, h)
begins_more time next (y ∷ ys) x here h = h

-- a move that ends no slot
same_clock : (xs : List Slot) (time next : ℕ) → next ≡ time → IsClocked xs time → IsClocked (xs ++ []) next
same_clock xs time next same h = subst (IsClocked (xs ++ [])) (sym same) (subst (λ l. IsClocked l time) (sym (append-nil xs)) h)

-- the end of a slot
end_clock : (xs : List Slot) (x : Slot) (time next : ℕ) → x.time ≡ time → time ≤ next → IsClocked xs time → IsClocked (xs ++ x ∷ []) next
end_clock xs x time next here up h = record {
  begins = begins_more time next xs x here h.begins;
  passed = each_more (λ (y : Slot). y.time ≤ next) xs x (each_later time next xs up h.passed) (omega (arith, here, up));
}

time_up : (b : Bool) (o : Option ℕ) (time : ℕ) → Above time o → time ≤ time_at b o time
time_up true o time h = omega arith
time_up false None time h = omega arith
time_up false (Some t) time h = omega (arith, h)

clocked_applied : (xs : List Slot) (m : Move) (s : State) → is_enabled s m ≡ true → Timed s → IsClocked xs s.time → IsClocked (xs ++ ended_slot m s) (apply m s).time
clocked_applied xs (Step i) s e h k = same_clock xs s.time (apply (Step i) s).time (stepped_time s i (slice_get s.places i)) k
clocked_applied xs (Evaluate j) s e h k = same_clock xs s.time (apply (Evaluate j) s).time (evaluated_time s j (slice_get s.assigns j)) k
clocked_applied xs (Propagate j) s e h k = same_clock xs s.time (apply (Propagate j) s).time (propagated_time s j (slice_get s.assigns j)) k
clocked_applied xs (Make i) s e h k = same_clock xs s.time (apply (Make i) s).time (make_time s i (slice_get s.updates i)) k
clocked_applied xs Rouse s e h k = same_clock xs s.time s.time refl k
clocked_applied xs Activate s e h k = same_clock xs s.time s.time refl k
clocked_applied xs EndSlot s e h k =
    end_clock xs _ s.time (after_slot s).time refl (time_up (ends s) (next_time s) s.time (next_above s e h)) k

pub clocked : (grain : Grain) (d : Parts) (moves : List Move) → Legal grain d moves → IsClocked (slots d moves) (after d moves).time
clocked grain d [] h = record { begins = refl; passed = tt }
clocked grain d (m ∷ before) h =
    let s = after d before in
    clocked_applied (slots d before) m s (enabled_of grain d s m h.1).1 (timed grain d before h.0) (clocked grain d before h.0)

-- ---- the moment asked for

each_join : (P : Slot → Type 0) (xs ys : List Slot) → Each P xs → Each P ys → Each P (xs ++ ys)
each_join P [] ys h k = k
each_join P (x ∷ xs) ys h k = (h.0, each_join P xs ys h.1 k)

ended_by : (until : ℕ) (m : Move) (s : State) → s.time ≤ until → Each (λ (x : Slot). x.time ≤ until) (ended_slot m s)
ended_by until EndSlot s h = (h, tt)
ended_by until (Step i) s h = tt
ended_by until (Evaluate j) s h = tt
ended_by until (Propagate j) s h = tt
ended_by until (Make i) s h = tt
ended_by until Rouse s h = tt
ended_by until Activate s h = tt

-- no slot of an execution that stops at a moment ends after it
pub all_by : (until : ℕ) (d : Parts) (moves : List Move) → StopsAt until d moves → Each (λ (x : Slot). x.time ≤ until) (slots d moves)
all_by until d [] h = tt
all_by until d (m ∷ before) h =
    let s = after d before in
    each_join (λ (x : Slot). x.time ≤ until) (slots d before) (ended_slot m s) (all_by until d before h.0)
    (ended_by until m s (ltb-false until s.time (or_parts s.over (nat_lt until s.time) h.1).1))
