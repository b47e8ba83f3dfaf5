use Rattle.std.proofs.Common.{◌↔◌, IsTrue, sym, ap, ◌∙◌}
use Rattle.std.proofs.lemmas.Result.{IfOk-weaker}
use Rattle.vs_design.specs.declared.design.Process.{Process}
use Rattle.vs_rules.specs.vs_process.specs.Places.{Todo}
use Rattle.vs_rules_of_starts.specs.Cold.{IsAfterControl, SameWritten, StaysWithin}
use Rattle.vs_rules_of_starts.proofs.ColdLemmas.{process_at, ran, run_sized, stays_is, stays_not}
use Rattle.vs_rules_of_starts.proofs.cold.stays_within.Goals as goal

pub is_same_written-requires-clause-sized : goal.is_same_written-requires-clause-sized
is_same_written-requires-clause-sized c =
    let q = c.index-processes-i.result in
    let is = process_at c.args.design.now.processes c.processes.result.now c.args.i q c.processes.ensures c.requires.within c.index-processes-i.is in
    let shape = c.requires.shape q is in
    run_sized c.args.design.now c.args.i q is shape c.args.settled.now c.requires.settled c.args.most c.in_ok-arrives.arrives c.if-not-arrives.false c.returns_to_control.new.store
    (ran c.args.design.now c.args.i q is shape c.in_ok-code.code c.in_ok-store.store c.args.settled.now (c.in_ok-code.ensures ∙ ap (λ (x : Process). x.body) (sym c.index-processes-i.is)) c.in_ok-store.ensures c.args.most c.in_ok-arrives.arrives c.returns_to_control.new.store c.in_ok-arrives.ensures)

pub returns : goal.returns
returns c =
    let q = c.index-processes-i.result in
    let is = process_at c.args.design.now.processes c.processes.result.now c.args.i q c.processes.ensures c.requires.within c.index-processes-i.is in
    let shape = c.requires.shape q is in
    IfOk-weaker c.is_same_written.result
    (λ t. (IsTrue t ↔ SameWritten c.args.design.now c.args.i c.returns_to_control.new.store c.args.start.now))
    (λ t. (behind : Todo) → IsAfterControl c.args.design.now c.args.i behind → (IsTrue t ↔ StaysWithin c.args.most c.args.design.now c.args.i behind c.args.settled.now))
    (stays_is c.args.design.now c.args.i c.args.settled.now c.args.start.now c.requires.start c.args.most c.in_ok-arrives.arrives c.if-not-arrives.false c.returns_to_control.new.store
    (ran c.args.design.now c.args.i q is shape c.in_ok-code.code c.in_ok-store.store c.args.settled.now (c.in_ok-code.ensures ∙ ap (λ (x : Process). x.body) (sym c.index-processes-i.is)) c.in_ok-store.ensures c.args.most c.in_ok-arrives.arrives c.returns_to_control.new.store c.in_ok-arrives.ensures))
    c.is_same_written.ensures

pub returns-then-not-arrives : goal.returns-then-not-arrives
returns-then-not-arrives c =
    let q = c.index-processes-i.result in
    let is = process_at c.args.design.now.processes c.processes.result.now c.args.i q c.processes.ensures c.requires.within c.index-processes-i.is in
    let shape = c.requires.shape q is in
    stays_not c.args.design.now c.args.i c.args.settled.now c.args.most c.in_ok-arrives.arrives c.if-not-arrives.true c.returns_to_control.new.store
    (ran c.args.design.now c.args.i q is shape c.in_ok-code.code c.in_ok-store.store c.args.settled.now (c.in_ok-code.ensures ∙ ap (λ (x : Process). x.body) (sym c.index-processes-i.is)) c.in_ok-store.ensures c.args.most c.in_ok-arrives.arrives c.returns_to_control.new.store c.in_ok-arrives.ensures)
