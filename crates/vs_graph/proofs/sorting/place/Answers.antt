use Rattle.std.proofs.Common.{refl, sym, subst, arith}
use Rattle.std.specs.List.{Contains}
use Rattle.std.proofs.lemmas.Option.{slice_get_read}
use Rattle.vs_graph.specs.Sorting.{IsPlaced, LacksOne}
use Rattle.vs_graph.proofs.Sorts.{placed_now, lacks_one, is_clear}
use Rattle.vs_graph.proofs.sorting.place.Goals as goal

pub returns-in_ok-push : goal.returns-in_ok-push
returns-in_ok-push c =
    placed_now c.args.needs.now c.args.order.now.items c.push.new.self.items c.args.placed.now.items c.args.x c.index-needs-x.result c.requires
    (omega arith) (λ h. is_clear c.args.placed.now.items c.args.x c.index.result.now (omega arith) c.index.ensures c.if-index.false h)
    (slice_get_read _ _ _ _ refl c.if-x-needs.false c.index-needs-x.is)
    (λ y h. subst (λ t. IsPlaced t y) c.deref.ensures.value
    (c.are_placed.ensures.all c.if-are_placed.true y (subst (λ t. Contains t y) (sym c.deref-2.ensures.value) h)))
    c.in_ok-push.ensures.items

pub returns-else-are_placed : goal.returns-else-are_placed
returns-else-are_placed c =
    lacks_one c.args.needs.now c.args.order.now.items c.args.placed.now.items c.args.x c.index-needs-x.result c.requires
    (slice_get_read _ _ _ _ refl c.if-x-needs.false c.index-needs-x.is)
    (subst (λ t. LacksOne t c.index-needs-x.result.items) c.deref.ensures.value
    (subst (λ t. LacksOne c.deref.result.now t) c.deref-2.ensures.value (c.are_placed.ensures.lacks c.if-are_placed.false)))
