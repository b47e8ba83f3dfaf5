use Rattle.std.proofs.Common.{◌≡◌, ◌++◌, map, drop}
use Rattle.vs_design.specs.Uses.{joined}
use Rattle.vs_rules.specs.Controls.{controls_in}
use Rattle.vs_maps.proofs.delays.+controls.Given as goal

abbrev pub invariant-push_block_controls-loop-s : goal.invariant-push_block_controls-loop-s
invariant-push_block_controls-loop-s l = l.out.items ++ joined (map controls_in (drop l.s-index l.all)) ≡ l.fn.out.items ++ joined (map controls_in l.all)

abbrev pub invariant-push_item_controls-loop-body : goal.invariant-push_item_controls-loop-body
invariant-push_item_controls-loop-body l =
    l.out.items ++ joined (map (λ i. controls_in i.1) (drop l.body-index l.items)) ≡ l.fn.out.items ++ joined (map (λ i. controls_in i.1) l.items)
