use Rattle.std.proofs.Common.{refl, ap}
use Rattle.vs_design.specs.Tables.{empty_rows, rows}
use Rattle.vs_design.proofs.LoopLemmas.{went_on, went_through}
use Rattle.vs_run_active.specs.Lists.{all_noted, noted}
use Rattle.vs_run_active.proofs.ListsLemmas.{by_signals}
use Rattle.vs_run_active.proofs.lists.by_signal.Goals as goal

pub loop-term-init : goal.loop-term-init
loop-term-init c = ap (all_noted c.args.terms.now) c.in_ok-lists.ensures

pub loop-term-preserved : goal.loop-term-preserved
loop-term-preserved c =
    went_on all_noted noted (λ t ts lists. refl) c.args.terms.now c.loop-term.term-index _ _ (rows c.loop-term.lists.items) (rows c.push_at.new.lists.items) _
    c.loop-term-test.true refl c.in_ok-push_at.ensures c.loop-term.invariant

pub returns : goal.returns
returns c =
    by_signals c.args.terms.now c.args.signals (empty_rows c.args.signals) (rows c.loop-term.lists.items) refl
    (went_through all_noted (λ lists. refl) c.args.terms.now c.loop-term.term-index (rows c.loop-term.lists.items) _ c.loop-term-test.false c.loop-term.invariant)
