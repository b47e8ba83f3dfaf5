use Rattle.std.proofs.Common.{◌+◌, ℕ, List, ◌∷◌, [], length, ◌∙◌, ap, subst}
use Rattle.std.proofs.lemmas.List.{length-append}
use Rattle.std.specs.declared.vec.Vec.{Vec}
use Rattle.std.specs.declared.alloc.Global.{Global}
use Rattle.vs_design.specs.Tables.{rows}
use Rattle.vs_run_active.specs.declared.watchers.Watcher.{Watcher}
use Rattle.vs_run_active.specs.Watchers.{between}
use Rattle.vs_run_active.specs.Words.{AreSeeing}
use Rattle.vs_run_active.proofs.TablesLemmas.{list_is, readers_below, rows_fit, rows_next}
use Rattle.vs_run_active.proofs.WordsLemmas.{by_word_next}
use Rattle.vs_run_active.proofs.tables.Tables.of.Goals as goal

pub add_row-requires-clause-numbers : goal.add_row-requires-clause-numbers
add_row-requires-clause-numbers c =
    readers_below c.args.design.now.assigns c.loop-signal.signal c.loop-signal.groups.assigns c.deref.result.now c.readers.result.now c.loop-signal.invariant.rows.known
    (c.deref.ensures.value ∙ c.in_ok-plain.ensures) c.readers.ensures

pub loop-signal-preserved : goal.loop-signal-preserved
loop-signal-preserved c = record {
  rows = rows_next c.loop-signal.signal c.args.design.now.assigns c.args.terms.now c.loop-signal.groups c.add_row.new.groups c.loop-signal.rows.items c.push.new.self.items
      c.loop-signal.watchers.items c.add_row.new.watchers.items c.in_ok-row.row c.deref.result.now c.readers.result.now c.deref-in-loop-signal.result.now
      c.loop-signal.invariant.rows (c.deref.ensures.value ∙ c.in_ok-plain.ensures) c.readers.ensures
      (c.deref-in-loop-signal.ensures.value
      ∙ list_is c.args.terms.now c.args.signals c.loop-signal.signal c.in_ok-lists.lists.items c.index.result.now c.in_ok-lists.ensures c.loop-signal-test.true c.index.ensures)
      c.in_ok-row.ensures c.in_ok-push.ensures.items;
  words = by_word_next c.loop-signal.signal c.args.design.now.assigns c.args.terms.now c.deref-in-loop-signal.result.now c.loop-signal.groups c.add_row.new.groups
      c.loop-signal.rows.items c.push.new.self.items c.loop-signal.watchers.items c.add_row.new.watchers.items c.deref.result.now c.loop-signal.words.items
      c.push-in-loop-signal.new.self.items c.in_ok-row.row c.in_ok-seen.seen c.loop-signal.invariant.rows c.loop-signal.invariant.words c.loop-signal.invariant.size
      c.in_ok-row.ensures c.in_ok-push.ensures.items c.in_ok-push-2.ensures.items
      (subst (λ (l : List Watcher). AreSeeing (between c.in_ok-row.row.readers c.in_ok-row.row.any l) (rows c.in_ok-seen.seen.items)) c.deref-in-loop-signal-2.ensures.value c.in_ok-seen.ensures);
  size = ap (λ (l : List (Vec (Vec Watcher Global) Global)). length l) c.in_ok-push-2.ensures.items
      ∙ length-append c.loop-signal.words.items (c.in_ok-seen.seen ∷ []) ∙ ap (λ (k : ℕ). k + 1) c.loop-signal.invariant.size;
}

pub invariant_of-result : goal.invariant_of-result
invariant_of-result c = record { fit = rows_fit c.loop-signal.invariant.rows; by_word = c.loop-signal.invariant.words }
