use Rattle.std.proofs.Common.{◌≡◌, ℕ, not, false, Some, List, length, slice_get, sym, ◌∙◌, ap, subst}
use Rattle.vs_design.specs.vs_logic4.specs.declared.digit.Digit.{Digit}
use Rattle.vs_design.specs.vs_logic4.specs.Extensions.{length-resized}
use Rattle.vs_design.specs.vs_logic4.specs.Vectors.{resized, same_digits}
use Rattle.vs_design.specs.declared.design.Assign.{Assign}
use Rattle.vs_eval.specs.Values.{value_of}
use Rattle.vs_run_steps.specs.Forms.{IsFixed, IsForm}
use Rattle.vs_run_steps.proofs.DiffersLemmas.{twice_not}
use Rattle.vs_run_steps.proofs.FormsLemmas.{fixed_held, fixed_value, spot_within}
use Rattle.vs_run_steps.proofs.evaluation.spot_evaluation.Goals as goal

pub bits_of-requires : goal.bits_of-requires
bits_of-requires g c =
    let a : Assign = c.requires.there.0 in
    let form : IsFixed c.args.forms.now.signals a c.in-Fixed.spot c.in-Fixed.source =
    subst (IsForm c.args.forms.now.signals a) c.in-Fixed.is (c.in_ok-form.ensures a c.requires.there.1)
    in
    spot_within c.args.forms.now.signals c.in-Fixed.spot c.args.run.now.watched.store form.place.spot_of.inside c.requires.store

pub returns-in-Fixed : goal.returns-in-Fixed
returns-in-Fixed g c =
    let signals = c.args.forms.now.signals in
    let store = c.args.run.now.watched.store in
    let time : ℕ = c.args.run.now.regions.time in
    let spot = c.in-Fixed.spot in
    let source = c.in-Fixed.source in
    let digits : List Digit = c.cut_value-digits.result in
    let form : (a : Assign) → slice_get c.args.forms.now.assigns c.args.assign ≡ Some a → IsFixed signals a spot source =
    λ a at. subst (IsForm signals a) c.in-Fixed.is (c.in_ok-form.ensures a at)
    in
    let made : digits ≡ resized false spot.width (value_of source.expression store time) =
    c.cut_value-digits.ensures ∙ ap (λ (t : ℕ). resized false spot.width (value_of source.expression store t)) c.time.ensures
    in
    let long : length digits ≡ spot.width =
    ap (λ (l : List Digit). length l) made ∙ length-resized false spot.width (value_of source.expression store time)
    in
    let test : same_digits c.bits_of.result digits ≡ not (not c.eq-held.result) = sym c.eq-held.ensures ∙ twice_not c.eq-held.result in
    record {
      evaluation = record {
        value = λ a at. made ∙ fixed_value signals a spot source store time (form a at);
        held = λ a at.
            fixed_held signals a spot source store time digits (not (not c.eq-held.result)) (form a at) c.requires.store long
            (ap (λ (w : List Digit). same_digits w digits) (sym c.bits_of.ensures) ∙ test);
      };
      place = λ a at. (form a at).place;
    }
