-- Lemmas on how continuous assignments are evaluated and driven.
use Rattle.std.proofs.Common.{◌≡◌, ℕ, zero, suc, ◌+◌, ◌≤◌, ◌==◌, pos, Bool, false, not, Some, List, [], ◌∷◌, ◌++◌, length, slice_get, sym, ◌∙◌, ap, subst, arith}
use Rattle.std.proofs.lemmas.Option.{none-some, same_Some}
use Rattle.vs_design.specs.vs_logic4.specs.declared.digit.Digit.{Digit}
use Rattle.vs_design.specs.vs_logic4.specs.declared.edge.Edge.TheVariants.{Any}
use Rattle.vs_design.specs.vs_logic4.specs.Extensions.{length-resized}
use Rattle.vs_design.specs.vs_logic4.specs.Parts.{selected}
use Rattle.vs_design.specs.vs_logic4.specs.Planes.{digits_of_planes}
use Rattle.vs_design.specs.vs_logic4.specs.Vectors.{resized, same_digits}
use Rattle.vs_design.specs.vs_logic4.proofs.Properties.{resized-own_width}
use Rattle.vs_design.specs.declared.design.Assign.{Assign}
use Rattle.vs_design.specs.declared.expression.Operand.{Operand}
use Rattle.vs_design.specs.declared.signal.Signal.{Signal}
use Rattle.vs_design.specs.declared.statement.Target.{Target}
use Rattle.vs_design.specs.InOrder.{IsStoreOf, numbered_word, words_before}
use Rattle.vs_design.specs.Parts.{Parts}
use Rattle.vs_design.specs.Stores.{Store, changes_nothing, word_of}
use Rattle.vs_design.proofs.InOrderLemmas.{word_numbered}
use Rattle.vs_run_active.specs.vs_process.specs.vs_eval.specs.declared.masks.WordChange.{WordChange}
use Rattle.vs_run_active.specs.vs_process.specs.vs_eval.specs.Masks.{AreEdgesOf, IsChangeOf}
use Rattle.vs_eval.specs.Targets.{assigned}
use Rattle.vs_eval.specs.Values.{operand_value, target_value, value_of}
use Rattle.vs_eval.specs.Meant.{IsWordOf, Meaning}
use Rattle.vs_eval.proofs.MeantLemmas.{word_named}
use Rattle.vs_eval.proofs.WordLemmas.{all_selected}
use Rattle.vs_run_active.specs.vs_process.specs.declared.spot.Spot.{Spot}
use Rattle.vs_run_active.specs.vs_process.specs.Spots.{IsSpotIn, SpotHolds, spot_part, spot_write}
use Rattle.vs_run_active.specs.vs_process.proofs.SpotLemmas.{spots_hold}
use Rattle.vs_run_steps.specs.declared.forms.Form.{Form}
use Rattle.vs_run_active.specs.vs_process.specs.States.{State, written}
use Rattle.vs_run_steps.proofs.RunsLemmas.{planes_hold}
use Rattle.vs_run_steps.proofs.FastLemmas.{word_differs}
use Rattle.vs_run_steps.specs.Evaluations.{HasDigits, IsDriven, IsEvaluation}
use Rattle.vs_run_steps.specs.Forms.{IsCopy, IsFixed, IsForm, IsPlaceOf, IsSized}
use Rattle.vs_run_steps.proofs.DiffersLemmas.{bits_held, one_kept, twice_not}

-- ---- copies

-- a whole signal that is given to another whole one of its size
pub copy_is : (signals : List Signal) (a : Assign) (spot : Spot) (o : Operand) (from : ℕ) → IsPlaceOf signals a.target spot →
    ((store : Store) (time : ℕ) → value_of a.source store time ≡ operand_value o.signed o.width (word_of store o.signal 0)) → o.width ≡ spot.width → IsSized signals spot.signal spot.width →
    IsSized signals o.signal spot.width → from ≡ words_before signals o.signal → IsCopy signals a spot from
copy_is signals a spot o from place law wide whole sized first = record {
  place = place;
  whole = λ store is.
      let in_it : IsSpotIn signals spot = place.spot_of.inside in
      let same : in_it.declared ≡ whole.declared = same_Some in_it.declared whole.declared (sym in_it.at ∙ whole.at) in
      let word = word_numbered signals store spot.signal spot.word in_it.declared is in_it.at in_it.below in
      ap (λ (n : ℕ). length (numbered_word store n)) in_it.numbered ∙ word.size ∙ ap (λ (s : Signal). s.width) same ∙ whole.wide;
  copied = λ store time is.
      let named : IsWordOf signals o.signal 0 from spot.width =
      record { declared = sized.declared; at = sized.at; below = sized.declared.counted.0; numbered = first ∙ (let none : words_before signals o.signal ≡ words_before signals o.signal + 0 = omega arith in none); wide = sym sized.wide }
      in
      let found = word_named signals store o.signal 0 from spot.width is named in
      let word : List Digit = numbered_word store from in
      let own : resized o.signed o.width word ≡ word = ap (λ (n : ℕ). resized o.signed n word) (wide ∙ sym found.1) ∙ resized-own_width o.signed word in
      let cut : resized false a.target.width word ≡ word = ap (λ (n : ℕ). resized false n word) (sym place.wide ∙ sym found.1) ∙ resized-own_width false word in
      ap (resized false a.target.width) (law store time ∙ ap (operand_value o.signed o.width) found.0 ∙ own) ∙ cut;
}

-- ---- forms one after another

pub one_more : (d : Parts) (forms : List Form) (assigns : List Assign) (form : Form) (a : Assign) → slice_get assigns (length forms) ≡ Some a → IsForm d.signals a form →
    ((j : ℕ) (b : Assign) (f : Form) → slice_get forms j ≡ Some f → slice_get assigns j ≡ Some b → IsForm d.signals b f) →
    (j : ℕ) (b : Assign) (f : Form) → slice_get (forms ++ form ∷ []) j ≡ Some f → slice_get assigns j ≡ Some b → IsForm d.signals b f
one_more d [] assigns form a at own h zero b f is there =
    subst (λ (c : Assign). IsForm d.signals c f) (same_Some a b (sym at ∙ there)) (subst (IsForm d.signals a) (same_Some form f is) own)
one_more d [] assigns form a at own h (suc j) b f is there = absurd (none-some f is)
one_more d (x ∷ xs) [] form a at own h j b f is there = absurd (none-some b there)
one_more d (x ∷ xs) (c ∷ cs) form a at own h zero b f is there = h zero b f is there
one_more d (x ∷ xs) (c ∷ cs) form a at own h (suc j) b f is there =
    one_more d xs cs form a at own (λ k e g g_at e_at. h (suc k) e g g_at e_at) j b f is there

-- ---- what is driven

-- digits, as many as a target has, are written to its bits
pub place_writes : (signals : List Signal) (t : Target) (spot : Spot) → IsPlaceOf signals t spot → (v : List Digit) (store : Store) (time : ℕ) → length v ≡ t.width →
    assigned t v store time ≡ spot_write spot v
place_writes signals t spot h v store time long =
    let own : resized false t.width v ≡ v = ap (λ (n : ℕ). resized false n v) (sym long) ∙ resized-own_width false v in
    ap (λ (l : List Digit). assigned t l store time) (sym own) ∙ h.spot_of.writes v store time ∙ ap (spot_write spot) (ap (λ (n : ℕ). resized false n v) h.wide ∙ own)

-- whether they change anything is told by the bits
pub spot_kept : (signals : List Signal) (spot : Spot) (store : Store) → IsSpotIn signals spot → IsStoreOf signals store → (v : List Digit) → length v ≡ spot.width →
    changes_nothing store (spot_write spot v) ≡ same_digits (selected (pos spot.shift) spot.width (numbered_word store spot.index)) v
spot_kept signals spot store inside is v long =
    let holds : SpotHolds spot store = spots_hold signals spot store inside is in
    let word : List Digit = numbered_word store spot.index in
    let within : spot.shift + length v ≤ length word = omega (arith, holds.within, long) in
    one_kept store (spot_part spot v) word holds.word ∙ sym (bits_held spot.shift v word within) ∙ ap (λ (n : ℕ). same_digits (selected (pos spot.shift) n word) v) long

-- the bits are in the word
pub spot_within : (signals : List Signal) (spot : Spot) (store : Store) → IsSpotIn signals spot → IsStoreOf signals store → spot.shift + spot.width ≤ length (numbered_word store spot.index)
spot_within signals spot store inside is = (spots_hold signals spot store inside is).within

-- ---- evaluations

-- that of a copy
pub copy_value : (signals : List Signal) (a : Assign) (spot : Spot) (from : ℕ) (store : Store) (time : ℕ) → IsCopy signals a spot from → IsStoreOf signals store → length (numbered_word store from) ≡ spot.width
copy_value signals a spot from store time h is =
    ap (λ (l : List Digit). length l) (sym (h.copied store time is)) ∙ length-resized false a.target.width (value_of a.source store time) ∙ sym h.place.wide

pub copy_held : (signals : List Signal) (a : Assign) (spot : Spot) (from : ℕ) (store : Store) (time : ℕ) (b : Bool) → IsCopy signals a spot from → IsStoreOf signals store →
    same_digits (numbered_word store spot.index) (numbered_word store from) ≡ b → changes_nothing store (assigned a.target (numbered_word store from) store time) ≡ b
copy_held signals a spot from store time b h is same =
    let word : List Digit = numbered_word store spot.index in
    let v : List Digit = numbered_word store from in
    let long : length v ≡ spot.width = copy_value signals a spot from store time h is in
    let none : spot.shift ≡ 0 = omega (arith, spot_within signals spot store h.place.spot_of.inside is, h.whole store is) in
    ap (changes_nothing store) (place_writes signals a.target spot h.place v store time (long ∙ h.place.wide))
    ∙ spot_kept signals spot store h.place.spot_of.inside is v long
    ∙ ap (λ (n : ℕ). same_digits (selected (pos n) spot.width word) v) none
    ∙ ap (λ (n : ℕ). same_digits (selected (pos 0) n word) v) (sym (h.whole store is))
    ∙ ap (λ (l : List Digit). same_digits l v) (sym (all_selected word))
    ∙ same

-- the places at which they differ tell whether it would change anything
pub copy_evaluated : (d : Parts) (j : ℕ) (store : Store) (time : ℕ) (spot : Spot) (from : ℕ) (change : WordChange) → ((a : Assign) → slice_get d.assigns j ≡ Some a → IsCopy d.signals a spot from) →
    IsStoreOf d.signals store → length (numbered_word store from) ≡ spot.width → IsChangeOf change (numbered_word store spot.index) (numbered_word store from) →
    (differing : ℕ) → AreEdgesOf Any change differing → IsEvaluation d j store time (digits_of_planes spot.width change.new_value change.new_unknown) (not (differing == 0))
copy_evaluated d j store time spot from change form is long of differing differ =
    let old : List Digit = numbered_word store spot.index in
    let word : List Digit = numbered_word store from in
    let digits : digits_of_planes spot.width change.new_value change.new_unknown ≡ word =
    planes_hold spot.width change.new_value change.new_unknown word long of.new_value of.new_unknown
    in
    let same : same_digits old word ≡ (differing == 0) = word_differs old word differing of.size (differ old word of) in
    record {
      value = λ a at. digits ∙ sym ((form a at).copied store time is);
      held = λ a at.
          ap (λ (v : List Digit). changes_nothing store (assigned a.target v store time)) digits
          ∙ copy_held d.signals a spot from store time (not (not (differing == 0))) (form a at) is (same ∙ twice_not (differing == 0));
    }

-- that of a fixed place
pub fixed_value : (signals : List Signal) (a : Assign) (spot : Spot) (source : Meaning) (store : Store) (time : ℕ) → IsFixed signals a spot source →
    resized false spot.width (value_of source.expression store time) ≡ target_value a.target a.source store time
fixed_value signals a spot source store time h =
    ap (λ (n : ℕ). resized false n (value_of source.expression store time)) h.place.wide ∙ ap (λ (m : Meaning). resized false a.target.width (value_of m.expression store time)) h.resolved

pub fixed_held : (signals : List Signal) (a : Assign) (spot : Spot) (source : Meaning) (store : Store) (time : ℕ) (v : List Digit) (b : Bool) → IsFixed signals a spot source → IsStoreOf signals store →
    length v ≡ spot.width → same_digits (selected (pos spot.shift) spot.width (numbered_word store spot.index)) v ≡ b → changes_nothing store (assigned a.target v store time) ≡ b
fixed_held signals a spot source store time v b h is long same =
    ap (changes_nothing store) (place_writes signals a.target spot h.place v store time (long ∙ h.place.wide)) ∙ spot_kept signals spot store h.place.spot_of.inside is v long ∙ same

-- ---- updates

-- digits that are written to the bits of a target are those of the assignment
pub driven_by : (d : Parts) (j : ℕ) (s t : State) (spot : Spot) (v : List Digit) → HasDigits d j v → ((a : Assign) → slice_get d.assigns j ≡ Some a → IsPlaceOf d.signals a.target spot) →
    t ≡ written s (spot_write spot v) → IsDriven d j v s t
driven_by d j s t spot v has place made a at =
    let same : has.assign ≡ a = same_Some has.assign a (sym has.at ∙ at) in
    let long : length v ≡ a.target.width = has.long ∙ ap (λ (x : Assign). x.target.width) same in
    made ∙ ap (written s) (sym (place_writes d.signals a.target spot (place a at) v s.store s.time long))

-- they are as many as the bits
pub digits_wide : (d : Parts) (j : ℕ) (spot : Spot) (v : List Digit) (has : HasDigits d j v) → IsPlaceOf d.signals has.assign.target spot → length v ≡ spot.width
digits_wide d j spot v has place = has.long ∙ sym place.wide
