use Rattle.std.proofs.Common.{List, ◌∙◌, ap, map}
use Rattle.vs_design.specs.vs_logic4.specs.declared.digit.Digit.{Digit}
use Rattle.vs_vcd_reader.specs.Values.{values_after}
use Rattle.vs_vcd_reader.specs.Layout.{values_of}
use Rattle.vs_vcd_reader.specs.Plain.{plain_moment}
use Rattle.vs_sign_off.proofs.ValueLemmas.{all_at}
use Rattle.vs_sign_off.proofs.values.values_at.Goals as goal

pub returns : goal.returns
returns c =
    all_at c.args.time c.args.moments.now c.in-Some.first.now c.in-Some.later.now c.put_later.new.values.items c.in-Some.ensures.cases.0
    c.if-first-time.false
    (c.put_later.ensures
    ∙ ap (λ (v : List (List Digit)). values_after c.args.time v (map plain_moment c.in-Some.later.now))
    (c.in_ok-values.ensures ∙ ap values_of c.deref.ensures.value))
