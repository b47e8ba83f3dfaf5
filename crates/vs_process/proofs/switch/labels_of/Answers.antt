use Rattle.std.proofs.Common.{Global, List, sym, ap, ◌∙◌, if◌then◌else◌}
use Rattle.std.specs.Prelude.{Vec}
use Rattle.std.specs.List.{list_any}
use Rattle.vs_design.specs.vs_logic4.specs.Cases.{matches}
use Rattle.vs_design.specs.declared.expression.Typed.{Typed}
use Rattle.vs_design.specs.declared.statement.Statement.{Statement}
use Rattle.vs_strobe.specs.vs_eval.specs.Values.{value_of}
use Rattle.vs_process.specs.Switches.{walked}
use Rattle.vs_process.proofs.SwitchLemmas.{item_step, items_end}
use Rattle.vs_process.proofs.switch.labels_of.Goals as goal

pub loop-i-preserved : goal.loop-i-preserved
loop-i-preserved c = λ digits store time.
    item_step c.args.case c.args.starts.now c.args.otherwise digits store time c.loop-i.all.items c.push_labels.new.all.items c.loop-i.i c.index_at-index.result c.index-items-i.result
    c.loop-i-test.true c.index-items-i.is c.index_at-index.ensures
    (λ o.
    c.in_ok-push_labels.ensures c.args.case.kind digits store time o
    ∙ ap (λ (ls : List Typed). walked c.args.case.kind digits store time c.loop-i.all.items (if list_any (λ e. matches c.args.case.kind digits (value_of e store time)) ls then c.index_at-index.result else o))
    c.deref.ensures.value
    ∙ ap
    (λ (x : Vec Typed Global × Statement).
    walked c.args.case.kind digits store time c.loop-i.all.items (if list_any (λ e. matches c.args.case.kind digits (value_of e store time)) x.0.items then c.index_at-index.result else o))
    (sym c.index-items-i.is))
    (c.loop-i.invariant digits store time)

pub returns : goal.returns
returns c = λ digits store time.
    items_end c.args.case c.args.starts.now c.args.otherwise digits store time c.loop-i.all.items c.loop-i.i c.loop-i-test.false
    ∙ c.loop-i.invariant digits store time
