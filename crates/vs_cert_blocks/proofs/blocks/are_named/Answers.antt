use Rattle.std.proofs.Common.{◌↔◌, ◌++◌, List, sym, ◌∙◌, ap, subst}
use Rattle.std.specs.List.{Contains}
use Rattle.vs_design.specs.declared.range.BitRange.{BitRange}
use Rattle.vs_design.specs.declared.statement.EventTerm.{EventTerm}
use Rattle.vs_drivers.specs.Names.{ranges_of_terms}
use Rattle.vs_claims.specs.vs_maps.specs.Ranges.{HasTermAt}
use Rattle.vs_cert_blocks.proofs.BlockLemmas.{named_is}
use Rattle.vs_cert_blocks.proofs.blocks.are_named.Goals as goal

pub returns : goal.returns
returns c =
    let terms = c.deref.result.now in
    named_is c.args.design.now c.args.tables.now c.args.signals.now c.in_ok-written.written c.args.read.now terms
    c.push_ranges.new.out.items c.of-named.result
    (subst (λ (l : List EventTerm). (term : EventTerm) → (Contains l term ↔ HasTermAt c.args.tables.now term)) (sym c.deref.ensures.value) c.in_ok-terms.ensures)
    (c.in_ok-push_ranges.ensures ∙ ap (λ (l : List BitRange). l ++ ranges_of_terms terms) c.new-ranges.ensures.items) c.of-named.ensures c.in_ok-written.ensures c.are_of_or_covered.result
    c.are_of_or_covered.ensures
