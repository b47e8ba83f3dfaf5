-- The values that the dump of an execution shows have the sizes of their signals.
use Rattle.std.proofs.Common.{◌≡◌, ℕ, zero, suc, ◌+◌, Bool, true, false, Option, Some, None, IfSome, List, [], ◌∷◌, length, slice_get, refl, sym, ap, ◌∙◌, subst, arith}
use Rattle.std.specs.Prelude.{All, nat_le, unwrap_or, if◌then◌else◌}
use Rattle.std.specs.List.{Contains}
use Rattle.std.specs.Option.{option_or}
use Rattle.std.proofs.lemmas.List.Elements.{All-head, All-tail}
use Rattle.std.proofs.lemmas.Option.{slice_get-get_or}
use Rattle.vs_design.specs.vs_logic4.specs.declared.digit.Digit.{Digit}
use Rattle.vs_design.specs.vs_logic4.specs.declared.digit.Digit.TheVariants.{X}
use Rattle.vs_design.specs.declared.signal.Signal.{Signal}
use Rattle.vs_design.specs.Parts.{Parts}
use Rattle.vs_design.specs.Stores.{Store}
use Rattle.vs_design.specs.Traces.{Slot}
use Rattle.vs_design.specs.WellFormed.{width_at}
use Rattle.vs_run_regions.specs.vs_process.specs.Laws.{IsStoreOf}
use Rattle.vs_vcd_writing.specs.Codes.{is_array, shown, shown_from}
use Rattle.vs_vcd_writing.specs.Shown.{HasSize, slot_at}

-- ---- shown signals are signals

-- the number of a signal of a list whose first one has this number
abbrev IsNumberOf : ℕ → List Signal → ℕ → Type 0
IsNumberOf n ss x = (i : ℕ) × (s : Signal) × (slice_get ss i ≡ Some s) × (x ≡ n + i)

one_more : (n : ℕ) (s : Signal) (ss : List Signal) (x : ℕ) → IsNumberOf (suc n) ss x → IsNumberOf n (s ∷ ss) x
one_more n s ss x h = let place = h.3 in (suc h.0, h.1, h.2, omega (arith, place))

by_kind : (n : ℕ) (s : Signal) (ss : List Signal) (x : ℕ) (ns : List ℕ) → ((k : ℕ) → slice_get ns k ≡ Some x → IsNumberOf (suc n) ss x) →
    (b : Bool) (k : ℕ) → slice_get (if b then ns else n ∷ ns) k ≡ Some x → IsNumberOf n (s ∷ ss) x
by_kind n s ss x ns rest true k h = one_more n s ss x (rest k h)
by_kind n s ss x ns rest false zero h = let e : n ≡ x = cc in (0, s, refl, omega (arith, e))
by_kind n s ss x ns rest false (suc k) h = one_more n s ss x (rest k h)

shown_get : (n : ℕ) (ss : List Signal) (k x : ℕ) → slice_get (shown_from n ss) k ≡ Some x → IsNumberOf n ss x
shown_get n [] k x h = cc
shown_get n (s ∷ ss) k x h = by_kind n s ss x (shown_from (suc n) ss) (λ k. shown_get (suc n) ss k x) (is_array s) k h

shown_signal : (d : Parts) (signal : ℕ) → Contains (shown d) signal → (s : Signal) × (slice_get d.signals signal ≡ Some s)
shown_signal d signal k =
    let there = shown_get 0 d.signals k.0 signal (slice_get-get_or (shown d) k.0 signal k.1 ∙ ap Some k.2) in
    let place : there.0 ≡ signal = let e = there.3 in omega (arith, e) in
    (there.1, subst (λ i. slice_get d.signals i ≡ Some there.1) place there.2)

-- ---- sizes

-- the value that a store of a design shows of a signal has the signal's size
sized : (d : Parts) (store : Store) (signal : ℕ) → Contains (shown d) signal → IsStoreOf d store → HasSize d store signal
sized d store signal k h =
    let known = shown_signal d signal k in
    let word = h signal 0 known.0 known.1 known.0.counted.0 in
    ap (λ (o : Option (List Digit)). length (unwrap_or o (X ∷ []))) word.1 ∙ word.2 ∙ sym (ap width_at known.1)

-- ---- slots

some_or : {A : Type 0} (P : A → Type 0) (a b : Option A) → IfSome a P → IfSome b P → IfSome (option_or a b) P
some_or P None b p q = q
some_or P (Some x) b p q = p

some_if : {A : Type 0} (P : A → Type 0) (b : Bool) (x : A) → P x → IfSome (if b then Some x else None) P
some_if P true x p = p
some_if P false x p = tt

slot_all : (P : Slot → Type 0) (time : ℕ) (ss : List Slot) → All P ss → IfSome (slot_at time ss) P
slot_all P time [] h = tt
slot_all P time (s ∷ ss) h =
    some_or P (slot_at time ss) (if nat_le s.time time then Some s else None) (slot_all P time ss (All-tail P s ss h)) (some_if P (nat_le s.time time) s (All-head P s ss h))

meet : {A : Type 0} (P Q : A → Type 0) (o : Option A) → IfSome o (λ x. P x → Q x) → IfSome o P → IfSome o Q
meet P Q None h p = tt
meet P Q (Some x) h p = h p

-- what is shown where sizes are right is shown of the slots of an execution
pub shown_sized : (d : Parts) (time signal : ℕ) (ss : List Slot) (Q : Slot → Type 0) → Contains (shown d) signal → All (λ (s : Slot). IsStoreOf d s.store) ss →
    IfSome (slot_at time ss) (λ s. HasSize d s.store signal → Q s) → IfSome (slot_at time ss) Q
shown_sized d time signal ss Q k stores h =
    meet (λ (s : Slot). HasSize d s.store signal) Q (slot_at time ss) h
    (meet (λ (s : Slot). IsStoreOf d s.store) (λ (s : Slot). HasSize d s.store signal) (slot_at time ss) (with_all (slot_at time ss)) (slot_all (λ (s : Slot). IsStoreOf d s.store) time ss stores))
  where
    with_all : (o : Option Slot) → IfSome o (λ s. IsStoreOf d s.store → HasSize d s.store signal)
    with_all None = tt
    with_all (Some s) = sized d s.store signal k
