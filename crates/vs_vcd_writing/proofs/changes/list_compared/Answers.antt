use Rattle.std.proofs.Common.{sym, ap, ◌∙◌, ◌≡◌, ◌++◌, take, arith}
use Rattle.vs_vcd_writing.specs.Kept.{kept_changes}
use Rattle.vs_vcd_writing.proofs.KeptLemmas.{signals_more}
use Rattle.vs_vcd_writing.proofs.changes.list_compared.Goals as goal

pub loop-signal-preserved : goal.loop-signal-preserved
loop-signal-preserved c start by store compared later so_far =
    let item = c.at.result in
    signals_more start c.loop-signal.changes.items _ by c.args.kept.now c.loop-signal.signal item c.at.ensures
    (c.loop-signal.invariant start by store compared later so_far)
    (c.in_ok-list_change.ensures store (compared c.loop-signal.signal item (omega arith) c.loop-signal-test.true c.at.ensures)
    ∙ ap (λ l. c.loop-signal.changes.items ++ l) (sym (later c.loop-signal.signal item (omega arith) c.loop-signal-test.true)))

pub returns : goal.returns
returns c start by store compared later so_far =
    let end : c.loop-signal.signal ≡ c.args.to = omega arith in
    c.loop-signal.invariant start by store compared later so_far ∙ ap (λ n. start ++ kept_changes by 0 (take n c.args.kept.now)) end
