use Rattle.std.proofs.Common.{refl}
use Rattle.vs_design.specs.Stores.{changed_at}
use Rattle.vs_design.specs.Tables.{rows, ending_with, all_heard}
use Rattle.vs_design.proofs.LoopLemmas.{went_on, went_through}
use Rattle.vs_design.proofs.listeners.note_all.Goals as goal

pub loop-term-preserved : goal.loop-term-preserved
loop-term-preserved c =
    went_on (all_heard c.args.process) (λ t table. changed_at (ending_with c.args.process) t.range.signal table) (λ t ts table. refl) c.args.terms.now c.loop-term.term-index _ _
    (rows c.loop-term.table.items) (rows c.note.new.table.items) _
    c.loop-term-test.true refl c.in_ok-note.ensures c.loop-term.invariant

pub returns : goal.returns
returns c =
    went_through (all_heard c.args.process) (λ table. refl) c.args.terms.now c.loop-term.term-index (rows c.loop-term.table.items) _ c.loop-term-test.false c.loop-term.invariant
