use Rattle.std.proofs.Common.{◌∙◌, ◌==◌, ◌&&◌, ℕ, not, bit_and, sym, ap, refl, Some}
use Rattle.vs_design.specs.declared.range.BitRange.{BitRange}
use Rattle.vs_eval.specs.Masks.{has_bits}
use Rattle.vs_eval.proofs.MasksLemmas.{any_edges, edge_term, term_mask_any, term_mask_edge}
use Rattle.vs_eval.proofs.WakingLemmas.{level_wakes}
use Rattle.vs_eval.proofs.masks.WordMask.of_term.Goals as goal

pub returns-in-Any-clause-wakes : goal.returns-in-Any-clause-wakes
returns-in-Any-clause-wakes c = λ word number before after within below same short edges.
    level_wakes c.args.term.range.signal word before after c.args.term number (has_bits c.of_range.result word number)
    same refl c.in-Any.is (any_edges c.args.term.edge before after number c.in-Any.is edges) (c.of_range.ensures.has word number within below)

pub returns-in_default-clause-wakes : goal.returns-in_default-clause-wakes
returns-in_default-clause-wakes c = λ word number before after within below same short edges.
    c.in_word.ensures.has word number within
    ∙ ap (λ (n : ℕ). (n == word) && not (bit_and c.lowest_of.result number == 0)) c.first_word.ensures
    ∙ edge_term c.args.term.edge c.args.term.range c.lowest_of.result word number before after c.in_default.not-Any c.lowest_of.ensures.has same short edges

pub returns-in-Any-clause-is : goal.returns-in-Any-clause-is
returns-in-Any-clause-is c = term_mask_any c.args.term c.of_range.result c.in-Any.is c.of_range.ensures.is

pub returns-in_default-clause-is : goal.returns-in_default-clause-is
returns-in_default-clause-is c =
    term_mask_edge c.args.term c.in_word.result c.first_word.result c.lowest_of.result c.in_default.not-Any c.first_word.ensures c.lowest_of.ensures.is c.in_word.ensures.is
