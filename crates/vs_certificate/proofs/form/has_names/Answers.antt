use Rattle.std.proofs.Common.{map, drop, ap, sym, ◌∙◌, arith}
use Rattle.serde_json.specs.View.{members_view}
use Rattle.vs_certificate.specs.Shape.{are_names}
use Rattle.vs_certificate.proofs.Names.{are_names-end, are_names-next}
use Rattle.vs_certificate.proofs.form.has_names.Goals as goal

pub loop-key-preserved : goal.loop-key-preserved
loop-key-preserved c =
    let member = ap members_view c.in-Some-2.ensures.steps in
    let same = rw c.as_str.ensures.value at (sym c.ne.ensures ∙ c.if-ne.false) in
    record { within = omega arith; rest = are_names-next c.args.names.now c.loop-key.next member _ c.if-next-names.false same ∙ c.loop-key.invariant.rest }

pub returns : goal.returns
returns c =
    let names = c.args.names.now in
    are_names-end names c.loop-key.next c.loop-key.invariant.within ∙ ap (λ es. are_names (map (λ n. n.now) (drop c.loop-key.next names)) (members_view es)) (sym c.in-None.ensures.steps.0) ∙ c.loop-key.invariant.rest
