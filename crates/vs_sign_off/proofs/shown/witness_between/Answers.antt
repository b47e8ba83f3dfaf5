use Rattle.std.proofs.Common.{List, length, refl, sym, ap, subst, ◌∙◌}
use Rattle.std.proofs.lemmas.Bool.{ltb-true}
use Rattle.std.proofs.lemmas.Option.{slice_get_read}
use Rattle.std.specs.Prelude.{slice_get}
use Rattle.vs_design.specs.vs_logic4.specs.declared.digit.Digit.{Digit}
use Rattle.vs_design.specs.declared.signal.Signal.{Signal}
use Rattle.vs_sign_off.specs.passes.Unequal.{AreUnequal}
use Rattle.vs_sign_off.proofs.GiveLemmas.{of_signal}
use Rattle.vs_sign_off.proofs.shown.witness_between.Goals as goal

pub returns : goal.returns
returns c =
    let u = c.in-Some.unequal in
    let d = c.args.design.now in
    let is : AreUnequal d.signals c.in_ok-first.first.items c.in_ok-other.other.items u =
    subst (λ (ss : List Signal). AreUnequal ss c.in_ok-first.first.items c.in_ok-other.other.items u) c.signals-signals.ensures
    (subst (λ (vs : List (List Digit)). AreUnequal c.signals-signals.result.now vs c.in_ok-other.other.items u) c.as_slice-one.ensures.value
    (subst (λ (vs : List (List Digit)). AreUnequal c.signals-signals.result.now c.as_slice-one.result.now vs u) c.as_slice-two.ensures.value c.in-Some.ensures))
    in
    record {
      path = record {
        signal = c.in-Some-get.known.now;
        is =
            ap (λ (ss : List Signal). slice_get ss u.signal) (sym c.signals-signals.ensures)
            ∙ slice_get_read c.signals-signals.result.now (length c.signals-signals.result.now) u.signal c.in-Some-get.known.now refl
            (ltb-true u.signal (length c.signals-signals.result.now) (sym c.in-Some-get.ensures.lookup.0)) c.in-Some-get.ensures.lookup.1;
        printed = sym (c.in_ok-path.ensures.items ∙ c.as_slice.ensures.value);
      };
      first = of_signal c.in_ok-first.ensures is.place u.signal u.first is.shown is.first;
      other = of_signal c.in_ok-other.ensures is.place u.signal u.other is.shown is.second;
      unequal = is.differ;
    }
