-- The slots of an execution are those of a whole dump.
use Rattle.std.proofs.Common.{◌≡◌, ℕ, ◌<◌, ◌≤◌, ◌^◌, ◌&&◌, Bool, true, false, Some, None, List, [], ◌∷◌, refl, subst, arith, leb}
use Rattle.std.proofs.lemmas.Bool.{and_parts, leb-true}
use Rattle.std.proofs.lemmas.List.Elements.{All-cons, Contains-get_or}
use Rattle.std.specs.Prelude.{All, get_or, unwrap_or, if◌then◌else◌}
use Rattle.vs_design.specs.Parts.{Parts}
use Rattle.vs_design.specs.Stores.{Store}
use Rattle.vs_design.specs.Traces.{Slot, AreRising, AreRisingAfter}
use Rattle.vs_process.specs.declared.moves.Grain.{Grain}
use Rattle.vs_process.specs.declared.moves.Move.{Move}
use Rattle.vs_process.specs.Executions.{after, finish_time, Legal, slots}
use Rattle.vs_process.specs.Laws.{IsStoreOf}
use Rattle.vs_process.proofs.Times.{Each}
use Rattle.vs_kernel.specs.vs_vcd_writing.specs.Codes.{shown}
use Rattle.vs_kernel.specs.vs_vcd_writing.specs.Shown.{HasSize}
use Rattle.vs_vcd_reader.specs.Conditions.{AreSized, AreWhole, IsEnd}
use Rattle.vs_kernel.specs.Runs.{StopsAt}
use Rattle.vs_kernel.proofs.ShowsLemmas.{shown_sized}
use Rattle.vs_vcd_reader.proofs.ClockLemmas.{BeginsAtZero, all_by, clocked}

each_all : (P : Slot → Type 0) (xs : List Slot) → Each P xs → All P xs
each_all P [] h = λ k x within. absurd (omega (arith, within))
each_all P (x ∷ xs) h = All-cons P x xs h.0 (each_all P xs h.1)

-- a slot with this store
abbrev slot_of : Store → Slot
slot_of store = record { time = 0; store = store; lines = [] }

alone : (P : Slot → Type 0) (s : Slot) → P s → All P (s ∷ [])
alone P s h = each_all P (s ∷ []) (h, tt)

-- the values that a store of a design shows have their signals' sizes
sized : (d : Parts) (store : Store) → IsStoreOf d store → AreSized d store
sized d store h = λ k x within.
    let signal = get_or (shown d) k x in
    let size : Slot → Type 0 = λ (s : Slot). HasSize d s.store signal in
    shown_sized d 0 signal (slot_of store ∷ []) size (Contains-get_or (shown d) k x within)
    (alone (λ (s : Slot). IsStoreOf d s.store) (slot_of store) h) (λ z. z)

all_sized : (d : Parts) (xs : List Slot) → All (λ (s : Slot). IsStoreOf d s.store) xs → All (λ (s : Slot). AreSized d s.store) xs
all_sized d xs h = λ k x within. sized d (get_or xs k x).store (h k x within)

whole_list : (d : Parts) (time : ℕ) (xs : List Slot) → (xs ≡ [] → ⊥) → BeginsAtZero time xs → AreRising xs → All (λ (s : Slot). AreSized d s.store) xs
    → AreWhole d xs
whole_list d time [] some begins rising sizes = absurd (some refl)
whole_list d time (x ∷ xs) some begins rising sizes = record {
  first = x;
  later = xs;
  are = refl;
  zero = begins;
  rising = subst (λ t. AreRisingAfter t xs) begins rising.1;
  sized = sizes;
}

-- the slots of an execution
pub whole : (grain : Grain) (d : Parts) (moves : List Move) → Legal grain d moves → (slots d moves ≡ [] → ⊥) → AreRising (slots d moves)
    → All (λ (s : Slot). IsStoreOf d s.store) (slots d moves) → AreWhole d (slots d moves)
whole grain d moves legal some rising stores =
    whole_list d (after d moves).time (slots d moves) some (clocked grain d moves legal).begins rising (all_sized d (slots d moves) stores)

end_by : (b early : Bool) (time until : ℕ) (xs : List Slot) → (b && early ≡ true → time ≤ until) → until < 2 ^ 62 → Each (λ (x : Slot). x.time ≤ time) xs
    → Each (λ (x : Slot). x.time ≤ until) xs → IsEnd xs (unwrap_or (if b && early then Some time else None) until)
end_by true true time until xs by bound passed within = record {
  small = let early = by refl in omega (arith, early, bound);
  after = each_all (λ (x : Slot). x.time ≤ time) xs passed;
}
end_by true false time until xs by bound passed within = record { small = omega (arith, bound); after = each_all (λ (x : Slot). x.time ≤ until) xs within }
end_by false early time until xs by bound passed within = record { small = omega (arith, bound); after = each_all (λ (x : Slot). x.time ≤ until) xs within }

-- the moment at which the dump of an execution ends
pub ended : (grain : Grain) (d : Parts) (moves : List Move) (until : ℕ) → Legal grain d moves → until < 2 ^ 62 → StopsAt until d moves
    → IsEnd (slots d moves) (unwrap_or (finish_time until (after d moves)) until)
ended grain d moves until legal bound stops =
    let s = after d moves in
    end_by (s.over && s.finishing) (leb s.time until) s.time until (slots d moves)
    (λ h. leb-true s.time until (and_parts (s.over && s.finishing) (leb s.time until) h).1) bound (clocked grain d moves legal).passed (all_by until d moves stops)
