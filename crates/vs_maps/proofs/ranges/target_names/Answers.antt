use Rattle.std.proofs.Common.{◌∙◌, sym, ap}
use Rattle.std.specs.List.{list_any}
use Rattle.vs_design.specs.Uses.{aim_range, is_of, writes_signal}
use Rattle.vs_design.proofs.LoopLemmas.{any_here, any_next, any_none}
use Rattle.vs_design.specs.vs_logic4.proofs.Basics.{any_map}
use Rattle.vs_maps.proofs.ranges.target_names.Goals as goal

pub loop-aim-init : goal.loop-aim-init
loop-aim-init c =
    ap (list_any (λ a. is_of c.args.signal (aim_range a))) c.deref-aim-items.ensures.value
    ∙ sym (any_map (is_of c.args.signal) aim_range c.args.target.now.parts.items)

pub returns-then-is_aim_of : goal.returns-then-is_aim_of
returns-then-is_aim_of c =
    any_here (λ a. is_of c.args.signal (aim_range a)) c.deref-aim-items.result.now c.loop-aim.aim-index c.aim-item.result (writes_signal c.args.target.now c.args.signal)
    c.loop-aim-test.true c.aim-item.is (sym c.is_aim_of.ensures ∙ c.if-is_aim_of.true) c.loop-aim.invariant

pub loop-aim-preserved : goal.loop-aim-preserved
loop-aim-preserved c =
    any_next (λ a. is_of c.args.signal (aim_range a)) c.deref-aim-items.result.now c.loop-aim.aim-index c.aim-item.result (writes_signal c.args.target.now c.args.signal)
    c.loop-aim-test.true c.aim-item.is (sym c.is_aim_of.ensures ∙ c.if-is_aim_of.false) c.loop-aim.invariant

pub returns : goal.returns
returns c =
    any_none (λ a. is_of c.args.signal (aim_range a)) c.deref-aim-items.result.now c.loop-aim.aim-index (writes_signal c.args.target.now c.args.signal)
    c.loop-aim-test.false c.loop-aim.invariant
