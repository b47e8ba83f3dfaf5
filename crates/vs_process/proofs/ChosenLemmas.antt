-- Lemmas on places that indices choose.
use Rattle.std.proofs.Common.{◌≡◌, ℕ, ℤ, pos, false, List, [], ◌∷◌, Some, zero, suc, length, get_or, slice_get, arith, sym, ◌∙◌, ap, ap₂, subst}
use Rattle.std.proofs.lemmas.Option.{none-some, same_Some}
use Rattle.std.specs.List.{All}
use Rattle.vs_design.specs.vs_logic4.specs.declared.digit.Digit.{Digit}
use Rattle.vs_design.specs.vs_logic4.specs.Extensions.{length-resized}
use Rattle.vs_design.specs.vs_logic4.specs.Parts.{selected}
use Rattle.vs_design.specs.vs_logic4.specs.Vectors.{resized}
use Rattle.vs_design.specs.declared.expression.Selection.{Selection}
use Rattle.vs_design.specs.declared.expression.Typed.{Typed}
use Rattle.vs_design.specs.declared.signal.Signal.{Signal}
use Rattle.vs_design.specs.declared.statement.Aim.{Aim}
use Rattle.vs_design.specs.declared.statement.Aim.TheVariants.{Chosen}
use Rattle.vs_design.specs.declared.statement.Target.{Target}
use Rattle.vs_design.specs.declared.write.Part.{Part}
use Rattle.vs_design.specs.InOrder.{IsStoreOf}
use Rattle.vs_design.specs.Selects.{from_zero, place_of}
use Rattle.vs_design.specs.Stores.{Store}
use Rattle.vs_design.specs.Writes.{Write}
use Rattle.vs_eval.specs.Meant.{Meaning}
use Rattle.vs_eval.specs.Targets.{parts_from}
use Rattle.vs_eval.specs.Values.{value_of}
use Rattle.vs_process.specs.declared.chosen_place.ChosenPlace.{ChosenPlace}
use Rattle.vs_process.specs.declared.chosen_place.Index.{Index}
use Rattle.vs_process.specs.declared.chosen_place.Index.TheVariants as i
use Rattle.vs_process.specs.ChosenPlaces.{AreReadIn, IsChosenIn, IsChosenOf, IsIndexIn, IsReadIn, chosen_by, chosen_low, chosen_part, chosen_value, chosen_word, chosen_write}
use Rattle.vs_process.specs.Instructions.{meaning}
use Rattle.vs_process.specs.Steps.{assignment}
use Rattle.vs_process.proofs.Quick.{selected_whole}
use Rattle.vs_process.proofs.SpotLemmas.{part_of}

-- ---- targets

-- what an index of a target chooses in each store
abbrev Chooses : Index → ℕ → (Store → ℕ → ℤ) → Type 0
Chooses x width place = (store : Store) (time : ℕ) → chosen_by x width store time ≡ place store time

-- two indices are of a design where each is
two_in : (signals : List Signal) (x y : Index) → IsIndexIn signals x → IsIndexIn signals y → All (IsIndexIn signals) (x ∷ y ∷ [])
two_in signals x y first second zero d lt = first
two_in signals x y first second (suc zero) d lt = second
two_in signals x y first second (suc (suc k)) d lt = absurd (omega (arith, lt))

-- one place that indices choose is that of its indices resolved
pub chosen_is : (signals : List Signal) (t : Target) (s : Selection) (word low : Typed) (p : ChosenPlace) → t.parts.items ≡ Chosen s word low ∷ [] → s.width ≡ t.width → p.signal ≡ s.signal → p.width ≡ s.width →
    (w l : Index) → p.indices.items ≡ w ∷ l ∷ [] → IsIndexIn signals w → IsIndexIn signals l → Chooses w 1 (λ store time. place_of s.words 1 (value_of word store time)) →
    Chooses l s.width (λ store time. place_of s.bits s.width (value_of low store time)) → IsChosenOf signals t p
chosen_is signals t s word low p parts wide signal width x y both word_in low_in word_is low_is = record {
  inside = subst (λ (xs : List Index). All (IsIndexIn signals) xs) (sym both) (two_in signals x y word_in low_in);
  writes = λ digits store time.
      let ds : List Digit = resized false t.width digits in
      let own : List Digit = resized false p.width digits in
      let w : ℤ = place_of s.words 1 (value_of word store time) in
      let l : ℤ = place_of s.bits s.width (value_of low store time) in
      let whole : selected (pos 0) s.width ds ≡ own =
      sym (selected_whole s.width ds (length-resized false t.width digits ∙ sym wide)) ∙ ap (λ (n : ℕ). resized false n digits) (sym wide ∙ sym width) in
      ap (λ (as' : List Aim). parts_from 0 as' ds store time) parts
      ∙ ap (λ (d : List Digit). part_of s.signal (from_zero w) l d) whole
      ∙ ap (λ (z : ℤ). part_of s.signal (from_zero z) l own) (sym (word_is store time))
      ∙ ap (λ (z : ℤ). part_of s.signal (from_zero (chosen_by x 1 store time)) z own) (sym (low_is store time))
      ∙ ap₂ (λ (n k : ℕ). part_of n (from_zero (chosen_by x 1 store time)) (chosen_by y k store time) own) (sym signal) (sym width)
      ∙ ap (λ (xs : List Index). part_of p.signal (from_zero (chosen_word xs store time)) (chosen_low xs p.width store time) own) (sym both);
}

-- what an assignment to it writes
pub chosen_assigned : (signals : List Signal) (t : Target) (e : Typed) (p : ChosenPlace) (r : Meaning) (store : Store) (time : ℕ) → IsChosenOf signals t p → r ≡ meaning signals e →
    assignment t e store time ≡ chosen_write p (chosen_value p r store time) store time
chosen_assigned signals t e p r store time h is =
    h.writes (value_of e store time) store time
    ∙ ap (λ (v : Typed). chosen_write p (resized false p.width (value_of v store time)) store time) (sym (ap (λ (m : Meaning). m.expression) is))

-- ---- stores

index_read : (signals : List Signal) (x : Index) (store : Store) → IsIndexIn signals x → IsStoreOf signals store → IsReadIn x store
index_read signals (i.Constant place) store h is = tt
index_read signals (i.Variable axis e) store h is = subst (λ (l : List Signal). IsStoreOf l store) (sym h) is

-- its indices are read in a store of the design
pub chosen_read : (signals : List Signal) (p : ChosenPlace) (store : Store) → IsChosenIn signals p → IsStoreOf signals store → AreReadIn p store
chosen_read signals p store h is k d lt = index_read signals (get_or p.indices.items k d) store (h k d lt) is

-- ---- what its indices choose

-- the word by the first of them
pub word_chosen : (xs : List Index) (x : Index) (store : Store) (time : ℕ) → slice_get xs 0 ≡ Some x → chosen_by x 1 store time ≡ chosen_word xs store time
word_chosen [] x store time is = absurd (none-some x is)
word_chosen (y ∷ ys) x store time is = ap (λ (z : Index). chosen_by z 1 store time) (sym (same_Some y x is))

-- the lowest bit by the second one
pub low_chosen : (xs : List Index) (x : Index) (width : ℕ) (store : Store) (time : ℕ) → slice_get xs 1 ≡ Some x → chosen_by x width store time ≡ chosen_low xs width store time
low_chosen [] x width store time is = absurd (none-some x is)
low_chosen (y ∷ []) x width store time is = absurd (none-some x is)
low_chosen (y ∷ z ∷ zs) x width store time is = ap (λ (v : Index). chosen_by v width store time) (sym (same_Some z x is))

-- ---- writes

-- the write of a part that gives the place the value of an expression
pub chosen_written : (p : ChosenPlace) (r : Meaning) (store : Store) (time now : ℕ) (ds : List Digit) (part : Part) (w : Write) → w ≡ part ∷ [] → part ≡ chosen_part p ds store time →
    ds ≡ resized false p.width (value_of r.expression store time) → time ≡ now → w ≡ chosen_write p (chosen_value p r store now) store now
chosen_written p r store time now ds part w one is digits same =
    one
    ∙ ap (λ (x : Part). x ∷ []) (is ∙ ap (λ (d : List Digit). chosen_part p d store time) digits)
    ∙ ap (λ (t : ℕ). chosen_write p (chosen_value p r store t) store t) same
