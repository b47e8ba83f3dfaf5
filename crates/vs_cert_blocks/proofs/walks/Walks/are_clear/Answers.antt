use Rattle.std.proofs.Common.{sym, ◌∙◌}
use Rattle.std.proofs.lemmas.Bool.{false≢true}
use Rattle.vs_design.specs.vs_logic4.proofs.Basics.{all_do, one_not}
use Rattle.vs_cert_blocks.specs.Walks.{IsClear}
use Rattle.vs_cert_blocks.proofs.walks.Walks.are_clear.Goals as goal

pub returns-then-not-is_clear : goal.returns-then-not-is_clear
returns-then-not-is_clear c =
    one_not (IsClear c.args.self.now.tables.now c.args.signal) c.args.places.now c.loop-place.place-index c.loop-place-test.true
    (λ h. absurd (false≢true (sym c.if-not-is_clear.true ∙ c.is_clear.ensures.1 h)))

pub returns : goal.returns
returns c =
    all_do (IsClear c.args.self.now.tables.now c.args.signal) c.args.places.now c.loop-place.place-index c.loop-place-test.false c.loop-place.invariant
