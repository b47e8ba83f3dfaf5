use Rattle.vs_widths.proofs.ExprLemmas.{concat_is_left}
use Rattle.vs_widths.proofs.lefts.+is_left.Goals as goal

pub is_left-returns-then-is_left : goal.is_left-returns-then-is_left
is_left-returns-then-is_left t c =
    rw c.in-Concat.is (concat_is_left c.in-Concat.first c.in-Concat.rest _ _ _ _ c.is_left.ensures c.are_left.ensures c.deref.ensures c.deref-then-is_left.ensures.value c.if-is_left.true)
