use Rattle.std.proofs.Common.{◌<◌, ◌+◌, ◌≡◌, ℕ, true, false, List, length, sym, ◌∙◌, ap, subst, take, arith}
use Rattle.std.specs.List.{Contains}
use Rattle.vs_design.specs.declared.signal.Signal.{Signal}
use Rattle.vs_maps.specs.vs_graph.specs.Reached.{AreReached}
use Rattle.vs_slots_constants.specs.Inverted.{AreInverted}
use Rattle.vs_drivers.specs.Inverses.{AreWithin, mirrored}
use Rattle.vs_drivers.proofs.InverseLemmas.{back_within, inverted_are, mirrored_within, starts_within}
use Rattle.vs_drivers.proofs.inverses.inverted_of.Goals as goal

pub reach-requires : goal.reach-requires
reach-requires c s h =
    let d = c.args.design.now in
    let k = subst (λ (l : List ℕ). Contains l s) c.deref.ensures.value h in
    subst (λ (ss : List Signal). s < length ss + length ss) (sym c.signals-count.ensures) (starts_within d c.in_ok-starts.starts.items c.in_ok-starts.ensures s k)

pub invariant_of-graph : goal.invariant_of-graph
invariant_of-graph c =
    let d = c.args.design.now in
    let n = length c.signals-count.result.now in
    let C = c.in_ok-copies.copies in
    let I = c.in_ok-inverses.inverses in
    let e = sym c.signals-count.ensures in
    let these : AreWithin C n = subst (λ (ss : List Signal). AreWithin C (length ss)) e (back_within d false C (c.in_ok-copies.ensures false c.requires.sources)) in
    let those : AreWithin I n = subst (λ (ss : List Signal). AreWithin I (length ss)) e (back_within d true I (c.in_ok-inverses.ensures true c.requires.inverses)) in
    record { small = omega (arith, c.signals-count.type_inv); copied = these; inverted = those; within = mirrored_within C I n these those }

pub returns : goal.returns
returns c =
    let d = c.args.design.now in
    let C = c.in_ok-copies.copies in
    let I = c.in_ok-inverses.inverses in
    let seeds = c.in_ok-starts.starts.items in
    let marks = c.in_ok-marks.marks.items in
    let n = length c.signals-count.result.now in
    let e = c.signals-count.ensures in
    let m = length d.signals in
    let long : length marks ≡ m + m = subst (λ (ss : List Signal). length marks ≡ length ss + length ss) e c.in_ok-marks.ensures.len in
    let told : AreReached (mirrored C I n) seeds (n + n) marks =
    subst (λ (l : List ℕ). AreReached (mirrored C I n) l (n + n) marks) c.deref.ensures.value c.in_ok-marks.ensures.exact in
    let are : AreReached (mirrored C I m) seeds (m + m) marks =
    subst (λ (ss : List Signal). AreReached (mirrored C I (length ss)) seeds (length ss + length ss) marks) e told in
    subst (AreInverted d true) (sym (c.truncate.ensures.items ∙ ap (λ (ss : List Signal). take (length ss) marks) e))
    (inverted_are d C I seeds marks (c.in_ok-copies.ensures false c.requires.sources) (c.in_ok-inverses.ensures true c.requires.inverses) c.in_ok-starts.ensures long are)
