use Rattle.std.proofs.Common.{length, sym, subst}
use Rattle.vs_maps.specs.Texts.{AreLate, Texts}
use Rattle.vs_maps.proofs.uses.Uses.new.Goals as goal

pub invariant_of-result : goal.invariant_of-result
invariant_of-result c = subst (λ (x : Texts). AreLate x.charts c.in_ok-late.late.items (length x.charts)) (sym c.in_ok-sites.ensures) c.in_ok-late.ensures
