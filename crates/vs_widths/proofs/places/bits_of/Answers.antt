use Rattle.std.proofs.Common.{sym, subst, arith}
use Rattle.vs_widths.specs.select_passes.Places.{IsFlexibleSelect}
use Rattle.vs_widths.proofs.PlaceLemmas.{no_range, too_many}
use Rattle.vs_widths.proofs.places.bits_of.Goals as goal

pub returns-in_default : goal.returns-in_default
returns-in_default c = rw c.in_default.is (no_range c.args.shape c.args.selects.items (λ h. absurd (omega (arith, c.len.ensures, c.if-len-eq0.false, h))))

pub returns-then-len-gt1 : goal.returns-then-len-gt1
returns-then-len-gt1 c = rw c.in-Some.is (too_many c.in-Some.bounds c.args.shape c.args.selects.items (omega (arith, c.len-2.ensures, c.if-len-gt1.true)))

pub selected-requires-clause-flexible : goal.selected-requires-clause-flexible
selected-requires-clause-flexible c =
    subst IsFlexibleSelect (sym c.remove-select.ensures.value) (c.requires.flexible 0 c.remove-select.result (omega (arith, c.len.ensures, c.if-len-eq0.false)))
