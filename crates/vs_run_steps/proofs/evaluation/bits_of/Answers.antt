use Rattle.std.proofs.Common.{ℕ, ◌/◌, ◌^◌, List, ◌∙◌, ap₂}
use Rattle.vs_design.specs.vs_logic4.specs.declared.digit.Digit.{Digit}
use Rattle.vs_design.specs.vs_logic4.specs.Planes.{digits_of_planes}
use Rattle.vs_design.specs.InOrder.{numbered_word}
use Rattle.vs_run_steps.proofs.DiffersLemmas.{bits_read}
use Rattle.vs_run_steps.proofs.evaluation.bits_of.Goals as goal

pub returns : goal.returns
returns c =
    let shift : ℕ = c.args.spot.now.shift in
    let width : ℕ = c.args.spot.now.width in
    let word : List Digit = numbered_word c.args.store.now c.args.spot.now.index in
    c.from_planes.ensures
    ∙ ap₂ (λ (v u : ℕ). digits_of_planes width (v / 2 ^ shift) (u / 2 ^ shift)) c.planes_of-value.ensures.value c.planes_of-value.ensures.unknown
    ∙ bits_read shift width word c.requires
