use Rattle.vs_vcd_writing.proofs.PlanesLemmas.{unknown_words}
use Rattle.vs_vcd_writing.proofs.planes.Planes.unknown.Goals as goal

pub invariant_of-result : goal.invariant_of-result
invariant_of-result c =
    (unknown_words c.args.count c.in_ok-vec.field-0.items c.in_ok-vec-2.field-0.items c.in_ok-vec-3.field-0.items
    (c.in_ok-vec.ensures.items_if_clones_equal (λ y e. e)) (c.in_ok-vec-2.ensures.items_if_clones_equal (λ y e. e)) (c.in_ok-vec-3.ensures.items_if_clones_equal (λ y e. e))).0

pub returns : goal.returns
returns c =
    (unknown_words c.args.count c.in_ok-vec.field-0.items c.in_ok-vec-2.field-0.items c.in_ok-vec-3.field-0.items
    (c.in_ok-vec.ensures.items_if_clones_equal (λ y e. e)) (c.in_ok-vec-2.ensures.items_if_clones_equal (λ y e. e)) (c.in_ok-vec-3.ensures.items_if_clones_equal (λ y e. e))).1
