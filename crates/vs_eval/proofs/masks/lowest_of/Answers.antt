use Rattle.std.proofs.Common.{◌∙◌, sym, ap, arith, Option, Some}
use Rattle.vs_design.specs.declared.range.Bits.{Bits}
use Rattle.vs_eval.specs.Masks.{lowest_bit}
use Rattle.vs_eval.specs.Waking.{edge_digit, is_edge_of}
use Rattle.vs_eval.proofs.MasksLemmas.{lowest_above, lowest_none, lowest_of_all, lowest_of_none, lowest_of_some, lowest_past, lowest_shifted}
use Rattle.vs_eval.proofs.masks.lowest_of.Goals as goal

pub returns-in_default-clause-has : goal.returns-in_default-clause-has
returns-in_default-clause-has c = λ edge number before after same short edges.
    lowest_of_all edge number before after same short edges
    ∙ sym (ap (λ (bits : Option Bits). is_edge_of edge (edge_digit bits (Some before)) (edge_digit bits (Some after))) c.in_default.is)

pub returns-then-b-eq0-clause-has : goal.returns-then-b-eq0-clause-has
returns-then-b-eq0-clause-has c = λ edge number before after same short edges.
    lowest_of_none c.in-Some.b (omega (arith, c.if-b-eq0.true)) edge number before after same short edges
    ∙ sym (ap (λ (bits : Option Bits). is_edge_of edge (edge_digit bits (Some before)) (edge_digit bits (Some after))) c.in-Some.is)

pub returns-then-b-gt63-clause-has : goal.returns-then-b-gt63-clause-has
returns-then-b-gt63-clause-has c = λ edge number before after same short edges.
    lowest_past c.in-Some.b c.if-b-gt63.true edge number before after same short edges
    ∙ sym (ap (λ (bits : Option Bits). is_edge_of edge (edge_digit bits (Some before)) (edge_digit bits (Some after))) c.in-Some.is)

pub returns-clause-has : goal.returns-clause-has
returns-clause-has c = λ edge number before after same short edges.
    lowest_of_some c.in-Some.b (omega (arith, c.if-b-eq0.false)) c.if-b-gt63.false edge number before after same short edges
    ∙ sym (ap (λ (bits : Option Bits). is_edge_of edge (edge_digit bits (Some before)) (edge_digit bits (Some after))) c.in-Some.is)

pub returns-in_default-clause-is : goal.returns-in_default-clause-is
returns-in_default-clause-is c = sym (ap lowest_bit c.in_default.is)

pub returns-then-b-eq0-clause-is : goal.returns-then-b-eq0-clause-is
returns-then-b-eq0-clause-is c = lowest_none c.in-Some.b (omega (arith, c.if-b-eq0.true)) ∙ sym (ap lowest_bit c.in-Some.is)

pub returns-then-b-gt63-clause-is : goal.returns-then-b-gt63-clause-is
returns-then-b-gt63-clause-is c = lowest_above c.in-Some.b (omega (arith, c.if-b-eq0.false)) c.if-b-gt63.true ∙ sym (ap lowest_bit c.in-Some.is)

pub returns-clause-is : goal.returns-clause-is
returns-clause-is c = lowest_shifted c.in-Some.b (omega (arith, c.if-b-eq0.false)) ∙ sym (ap lowest_bit c.in-Some.is)
