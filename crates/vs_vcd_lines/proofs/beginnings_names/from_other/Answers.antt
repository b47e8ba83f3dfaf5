use Rattle.std.proofs.Common.{sym, ◌∙◌, arith}
use Rattle.vs_vcd_lines.specs.Names.{is_further}
use Rattle.vs_vcd_lines.proofs.BeginningsNameLemmas.{all_by_index, further_cut, further_next}
use Rattle.vs_vcd_lines.proofs.beginnings_names.from_other.Goals as goal

pub loop-place-init : goal.loop-place-init
loop-place-init c = record { most = omega arith; further = λ j below. absurd (omega (arith, below)) }

pub loop-place-preserved : goal.loop-place-preserved
loop-place-preserved c = record {
  most = omega (arith, c.loop-place-test.true);
  further = λ j below.
      further_next c.args.text.now c.loop-place.place j c.loop-place.invariant.further (sym c.is_further-further.ensures ∙ c.if-not-further.false)
      (omega (arith, below));
}

pub returns-then-not-further : goal.returns-then-not-further
returns-then-not-further c =
    further_cut c.args.text.now c.loop-place.place (omega (arith, c.loop-place-test.true)) c.loop-place.invariant.further
    (sym c.is_further-further.ensures ∙ c.if-not-further.true)

pub returns : goal.returns
returns c =
    all_by_index is_further c.args.text.now (λ j below. c.loop-place.invariant.further j (omega (arith, below, c.loop-place-test.false)))
