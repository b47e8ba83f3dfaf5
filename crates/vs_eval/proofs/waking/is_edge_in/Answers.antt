use Rattle.std.proofs.Common.{◌≡◌, false, Option, Some, ◌∙◌, sym, ap, arith}
use Rattle.vs_design.specs.declared.range.Bits.{Bits}
use Rattle.vs_design.specs.Stores.{chosen_bits}
use Rattle.vs_eval.specs.Waking.{first_digit, is_edge_of}
use Rattle.vs_eval.proofs.Edges.{edge_lowest, edge_taken, no_edge_in_none, no_edge_past}
use Rattle.vs_eval.proofs.waking.is_edge_in.Goals.{then-b-eq0-via-then-b-eq0, then-b-eq0-via-else-b-eq0+then-b-width}
use Rattle.vs_eval.proofs.waking.is_edge_in.Goals as goal

pub returns-in_default : goal.returns-in_default
returns-in_default c =
    c.is_edge_at.ensures ∙ edge_lowest c.args.edge c.args.before c.args.behind c.requires
    ∙ sym (ap (λ (bits : Option Bits). is_edge_of c.args.edge (first_digit (chosen_bits bits c.args.before)) (first_digit (chosen_bits bits c.args.behind))) c.in_default.is)

pub returns-then-b-eq0 : goal.returns-then-b-eq0
returns-then-b-eq0 c =
    let b = c.in-Some.b in
    let by_bits = λ (bits : Option Bits). is_edge_of c.args.edge (first_digit (chosen_bits bits c.args.before)) (first_digit (chosen_bits bits c.args.behind)) in
    let none : false ≡ by_bits (Some b) = elim c.then-b-eq0.branch [
      | then-b-eq0-via-then-b-eq0 w ↦ no_edge_in_none c.args.edge b.low b.width c.args.before c.args.behind (omega (arith, w.if-b-eq0.true))
      | then-b-eq0-via-else-b-eq0+then-b-width w ↦ no_edge_past c.args.edge b.low b.width c.args.before c.args.behind (omega (arith, w.if-b-width.true, w.width.ensures.digits))
    ] in
    none ∙ sym (ap by_bits c.in-Some.is)

pub returns : goal.returns
returns c =
    let b = c.in-Some.b in
    c.is_edge_at-2.ensures
    ∙ edge_taken c.args.edge b.low b.width c.args.before c.args.behind c.requires (omega (arith, c.if-b-eq0.false))
    ∙ sym (ap (λ (bits : Option Bits). is_edge_of c.args.edge (first_digit (chosen_bits bits c.args.before)) (first_digit (chosen_bits bits c.args.behind))) c.in-Some.is)
