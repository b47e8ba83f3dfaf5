use Rattle.std.proofs.Common.{ℕ, List, length, ◌<◌, subst, ap, ◌∙◌, ◌≡◌, arith}
use Rattle.vs_design.specs.declared.design.Assign.{Assign}
use Rattle.vs_design.specs.Parts.{Parts}
use Rattle.vs_rules_of_starts.specs.Order.{AreAtPlaces}
use Rattle.vs_rules_of_starts.proofs.OrderLemmas.{next_is, in_order_is}
use Rattle.vs_rules_of_starts.proofs.order.in_order.Goals as goal

pub loop-j-preserved : goal.loop-j-preserved
loop-j-preserved c =
    next_is c.args.facts.now.design c.args.facts.now.claims c.is_well_formed.ensures c.requires.listed (length c.assigns-count.result.now) c.loop-j.j c.assign_place.result
    c.loop-j.table.items c.put_where.new.table.items
    (subst (λ (l : List Assign). c.loop-j.j < length l) (c.assigns-count.ensures ∙ ap (λ (d : Parts). d.assigns) c.design.ensures) c.loop-j-test.true)
    c.assign_place.ensures c.in_ok-put_where.ensures c.loop-j.invariant

pub returns : goal.returns
returns c =
    let end : c.loop-j.j ≡ length c.assigns-count.result.now = omega (arith, c.loop-j-test.false, c.loop-j.auto) in
    in_order_is c.args.facts.now.design c.args.facts.now.claims c.requires.listed c.requires.ordered (length c.assigns-count.result.now) c.loop-j.table.items
    (ap length (c.assigns-count.ensures ∙ ap (λ (d : Parts). d.assigns) c.design.ensures))
    (subst (λ (k : ℕ). AreAtPlaces c.args.facts.now.design c.args.facts.now.claims (length c.assigns-count.result.now) k c.loop-j.table.items) end c.loop-j.invariant)
