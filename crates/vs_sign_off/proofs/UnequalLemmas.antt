-- Signals with codes and the places of their values.
use Rattle.std.proofs.Common.{◌≡◌, ℕ, suc, ◌+◌, ◌<◌, Bool, true, false, Option, Some, None, List, ◌∷◌, length, get_or, drop, sym, ◌∙◌, ap, zero-add, arith}
use Rattle.std.proofs.lemmas.Bool.{cond-true, cond-false}
use Rattle.std.proofs.Math.Numerals.{add-one}
use Rattle.std.proofs.lemmas.List.{drop_more}
use Rattle.std.specs.Prelude.{IfSome, if◌then◌else◌, slice_get}
use Rattle.vs_design.specs.vs_logic4.specs.declared.digit.Digit.{Digit}
use Rattle.vs_design.specs.declared.signal.Signal.{Signal}
use Rattle.vs_kernel.specs.vs_vcd_writing.specs.Codes.{is_array, shown_from}
use Rattle.vs_sign_off.specs.declared.unequal.Unequal.{Unequal}
use Rattle.vs_sign_off.specs.passes.Unequal.{AreUnequal}

-- behind so many values those of the signals from a number on follow
abbrev pub AreLeft : List Signal → ℕ → ℕ → Type 0
AreLeft ss place i = (k : ℕ) → slice_get (shown_from 0 ss) (place + k) ≡ slice_get (shown_from i (drop i ss)) k

pub all_left : (ss : List Signal) → AreLeft ss 0 0
all_left ss = λ k. ap (λ (n : ℕ). slice_get (shown_from 0 ss) n) (zero-add k)

array_step : (ss : List Signal) (i : ℕ) (d : Signal) → i < length ss → is_array (get_or ss i d) ≡ true →
    shown_from i (drop i ss) ≡ shown_from (i + 1) (drop (i + 1) ss)
array_step ss i d lt is =
    ap (λ (l : List Signal). shown_from i l) (drop_more ss i d lt)
    ∙ cond-true (is_array (get_or ss i d)) (shown_from (suc i) (drop (i + 1) ss)) (i ∷ shown_from (suc i) (drop (i + 1) ss)) is
    ∙ ap (λ (n : ℕ). shown_from n (drop (i + 1) ss)) (sym (add-one i))

coded_step : (ss : List Signal) (i : ℕ) (d : Signal) → i < length ss → is_array (get_or ss i d) ≡ false →
    shown_from i (drop i ss) ≡ i ∷ shown_from (i + 1) (drop (i + 1) ss)
coded_step ss i d lt is =
    ap (λ (l : List Signal). shown_from i l) (drop_more ss i d lt)
    ∙ cond-false (is_array (get_or ss i d)) (shown_from (suc i) (drop (i + 1) ss)) (i ∷ shown_from (suc i) (drop (i + 1) ss)) is
    ∙ ap (λ (n : ℕ). i ∷ shown_from n (drop (i + 1) ss)) (sym (add-one i))

-- a signal on: an array has no value, any other one has the next one
pub stepped : (ss : List Signal) (place i : ℕ) (d : Signal) (b : Bool) → i < length ss → b ≡ is_array (get_or ss i d) → AreLeft ss place i →
    AreLeft ss (place + (if b then 0 else 1)) (i + 1)
stepped ss place i d true lt is h = λ k.
    (let same : (place + 0) + k ≡ place + k = omega arith in
    ap (λ (n : ℕ). slice_get (shown_from 0 ss) n) same ∙ h k ∙ ap (λ (l : List ℕ). slice_get l k) (array_step ss i d lt (sym is)))
stepped ss place i d false lt is h = λ k.
    (let next : (place + 1) + k ≡ place + suc k = omega arith in
    ap (λ (n : ℕ). slice_get (shown_from 0 ss) n) next ∙ h (suc k) ∙ ap (λ (l : List ℕ). slice_get l (suc k)) (coded_step ss i d lt (sym is)))

coded_here : (ss : List Signal) (place i : ℕ) (d : Signal) → i < length ss → is_array (get_or ss i d) ≡ false → AreLeft ss place i →
    slice_get (shown_from 0 ss) place ≡ Some i
coded_here ss place i d lt is h =
    let same : place ≡ place + 0 = omega arith in
    ap (λ (n : ℕ). slice_get (shown_from 0 ss) n) same ∙ h 0 ∙ ap (λ (l : List ℕ). slice_get l 0) (coded_step ss i d lt is)

-- the values of a signal that is no array are different
pub told : (ss : List Signal) (one other : List (List Digit)) (place i : ℕ) (d : Signal) (b : Bool) (o : Option Unequal) → i < length ss →
    b ≡ is_array (get_or ss i d) → b ≡ false → AreLeft ss place i → IfSome o (λ (u : Unequal). u.signal ≡ i) → IfSome o (λ (u : Unequal). slice_get one place ≡ Some u.first) →
    IfSome o (λ (u : Unequal). slice_get other place ≡ Some u.other) → IfSome o (λ (u : Unequal). u.first ≡ u.other → ⊥) → IfSome o (λ (u : Unequal). AreUnequal ss one other u)
told ss one other place i d b None lt array is h signal first second differ = tt
told ss one other place i d b (Some u) lt array is h signal first second differ = record {
  place = place;
  shown = coded_here ss place i d lt (sym array ∙ is) h ∙ ap Some (sym signal);
  first = first;
  second = second;
  differ = differ;
}
