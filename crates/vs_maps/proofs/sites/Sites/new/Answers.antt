use Rattle.std.proofs.Common.{◌≡◌, ℕ, List, length, refl, ◌∙◌, ap, subst}
use Rattle.vs_graph.specs.Rows.{empty_rows}
use Rattle.vs_maps.specs.Sites.{all_filed}
use Rattle.vs_maps.specs.Texts.{texts_of}
use Rattle.vs_maps.specs.declared.sites.Site.{Site}
use Rattle.vs_maps.proofs.SiteLemmas.{none_below, one_below, all_below}
use Rattle.vs_maps.proofs.sites.Sites.new.Goals as goal

pub loop-i-init : goal.loop-i-init
loop-i-init c =
    none_below c.args.tables.now (length c.args.design.now.signals) c.in_ok-of_signals.of_signals
    (subst (λ (n : ℕ). c.in_ok-of_signals.of_signals ≡ empty_rows n) (ap length c.signals.ensures) c.in_ok-of_signals.ensures)

pub loop-i-preserved : goal.loop-i-preserved
loop-i-preserved c =
    one_below c.args.tables.now (length c.args.design.now.signals) c.loop-i.i c.index-tables-i.result c.loop-i.of_signals c.file.new.rows
    c.in_ok-own.own.items c.loop-i.invariant c.loop-i-test.true c.index-tables-i.is c.in_ok-own.ensures
    (c.in_ok-file.ensures ∙ ap (λ (l : List Site). all_filed l c.loop-i.of_signals) c.deref.ensures.value)

pub invariant_of-result : goal.invariant_of-result
invariant_of-result c =
    all_below (texts_of c.args.design.now c.args.tables.now) (length c.args.design.now.signals) c.loop-i.i c.loop-i.of_signals refl c.loop-i-test.false c.loop-i.invariant
