use Rattle.std.proofs.Common.{◌≡◌, drop}
use Rattle.std.specs.List.{list_any}
use Rattle.vs_sign_off.specs.Displays.{has_display}
use Rattle.vs_sign_off.proofs.displays.+has_display.Given as goal

abbrev pub invariant-has_display_in_block-loop-s : goal.invariant-has_display_in_block-loop-s
invariant-has_display_in_block-loop-s l = list_any has_display (drop l.s-index l.all) ≡ list_any has_display l.all

abbrev pub invariant-has_display_in_items-loop-body : goal.invariant-has_display_in_items-loop-body
invariant-has_display_in_items-loop-body l = list_any (λ i. has_display i.1) (drop l.body-index l.items) ≡ list_any (λ i. has_display i.1) l.items
