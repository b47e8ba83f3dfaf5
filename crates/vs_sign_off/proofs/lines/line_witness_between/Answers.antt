use Rattle.std.proofs.Common.{ℕ, List, ◌∙◌, ap, sym, subst}
use Rattle.vs_sign_off.specs.Rows.{AreUneven, rows, times}
use Rattle.vs_sign_off.proofs.PrintLemmas.{of_row}
use Rattle.vs_sign_off.proofs.lines.line_witness_between.Goals as goal

pub returns : goal.returns
returns c =
    let u = c.in-Some.uneven in
    let is = rw c.in-Some.is at c.in_ok-found.ensures in
    record {
      first = of_row c.in_ok-one.ensures u.row.items u.first (ap (λ (t : List ℕ). times u.row.items (rows t)) (sym c.as_slice-left.ensures.value) ∙ is.first);
      other = of_row c.in_ok-two.ensures u.row.items u.other (ap (λ (t : List ℕ). times u.row.items (rows t)) (sym c.as_slice-right.ensures.value) ∙ is.other);
      unequal = is.unequal;
    }
