use Rattle.std.proofs.Common.{◌≡◌, drop}
use Rattle.std.specs.List.{list_any}
use Rattle.vs_design.specs.Statements.{has_control}
use Rattle.vs_design.proofs.statement_uses.+has_control.Given as goal

abbrev pub invariant-has_control_in_block-loop-s : goal.invariant-has_control_in_block-loop-s
invariant-has_control_in_block-loop-s l = list_any has_control (drop l.s-index l.all) ≡ list_any has_control l.all

abbrev pub invariant-has_control_in_items-loop-body : goal.invariant-has_control_in_items-loop-body
invariant-has_control_in_items-loop-body l = list_any (λ i. has_control i.1) (drop l.body-index l.items) ≡ list_any (λ i. has_control i.1) l.items
