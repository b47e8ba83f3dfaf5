use Rattle.std.proofs.Common.{◌++◌, sym, ap, ◌∙◌, append-nil, arith}
use Rattle.std.proofs.lemmas.List.{take_all}
use Rattle.vs_vcd_writing.specs.Kept.{kept_changes, first_change}
use Rattle.vs_vcd_writing.proofs.KeptLemmas.{signals_more}
use Rattle.vs_vcd_writing.proofs.changes.list_values.Goals as goal

pub loop-signal-init : goal.loop-signal-init
loop-signal-init c = sym (append-nil c.args.changes.now.items)

pub at-requires : goal.at-requires
at-requires c = omega (arith, c.loop-signal-test.true, c.len-signal-end.ensures)

pub loop-signal-preserved : goal.loop-signal-preserved
loop-signal-preserved c =
    signals_more c.args.changes.now.items _ _ (first_change c.args.store.now) c.args.kept.now c.loop-signal.signal c.at.result c.at.ensures
    c.loop-signal.invariant c.in_ok-list_value.ensures

pub returns : goal.returns
returns c =
    c.loop-signal.invariant
    ∙ ap (λ l. c.args.changes.now.items ++ kept_changes (first_change c.args.store.now) 0 l)
    (take_all c.loop-signal.signal c.args.kept.now (omega (arith, c.loop-signal-test.false, c.len-signal-end.ensures)))
