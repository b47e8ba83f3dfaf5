use Rattle.std.proofs.Common.{sym, ◌∙◌, ◌-◌, arith}
use Rattle.std.proofs.lemmas.Result.{err_from_is_err_and}
use Rattle.vs_widths.specs.Names.{meaning_of, nested_names}
use Rattle.vs_scopes.specs.Generate.{turns_from}
use Rattle.vs_elab_constants.proofs.TurnsLemmas.{more_turns, over_turns, fault_of_turn, fault_of_last, endless_turns, all_turns, no_fault}
use Rattle.vs_elab_constants.proofs.loops.turns_within.Goals as goal

pub returns-in_err-next : goal.returns-in_err-next
returns-in_err-next c =
    let env = meaning_of (nested_names c.args.around.now) in
    let h = c.args.header.now in
    let p = err_from_is_err_and c.from_residual.result c.from_residual.ensures.1 in
    rw (p.1, p.2) (fault_of_turn c.args.limit c.loop-count._count env h c.loop-count.value c.loop-count.done.items (turns_from c.args.limit env h c.args.first) _ (omega arith) c.loop-count.invariant c.in_err-next.ensures)

pub returns-in-None : goal.returns-in-None
returns-in-None c =
    let env = meaning_of (nested_names c.args.around.now) in
    let h = c.args.header.now in
    let all = turns_from c.args.limit env h c.args.first in
    let k = over_turns (c.args.limit - c.loop-count._count) env h c.loop-count.value c.in_ok-next.field-0 c.loop-count.done.items all c.in_ok-next.ensures c.in-None.is c.loop-count.invariant in
    (no_fault all c.loop-count.done.items k, k)

pub returns-in_err-goes_on : goal.returns-in_err-goes_on
returns-in_err-goes_on c =
    let env = meaning_of (nested_names c.args.around.now) in
    let h = c.args.header.now in
    let p = err_from_is_err_and c.from_residual-in_err-goes_on.result c.from_residual-in_err-goes_on.ensures.1 in
    rw (p.1, p.2) (fault_of_last c.args.limit c.loop-count._count env h c.loop-count.value c.loop-count.done.items (turns_from c.args.limit env h c.args.first) _ (omega arith) c.loop-count.invariant c.in_err-goes_on.ensures)

pub returns-then-branch : goal.returns-then-branch
returns-then-branch c =
    let env = meaning_of (nested_names c.args.around.now) in
    let h = c.args.header.now in
    let known = c.in_ok-goes_on.ensures in
    endless_turns c.args.limit c.loop-count._count env h c.loop-count.value c.loop-count.done.items (turns_from c.args.limit env h c.args.first) (omega arith) c.loop-count.invariant known.0 (sym known.1 ∙ c.if-branch.true)

pub returns : goal.returns
returns c =
    let env = meaning_of (nested_names c.args.around.now) in
    let h = c.args.header.now in
    let all = turns_from c.args.limit env h c.args.first in
    let known = c.in_ok-goes_on.ensures in
    let k = all_turns c.args.limit c.loop-count._count env h c.loop-count.value c.loop-count.done.items all (omega arith) c.loop-count.invariant known.0 (sym known.1 ∙ c.if-branch.false) in
    (no_fault all c.loop-count.done.items k, k)

pub loop-count-preserved : goal.loop-count-preserved
loop-count-preserved c =
    let env = meaning_of (nested_names c.args.around.now) in
    let h = c.args.header.now in
    more_turns c.args.limit c.loop-count._count env h c.loop-count.value c.in-Some.next c.in_ok-next.field-0 c.loop-count.done.items c.push_value.new.values.items (turns_from c.args.limit env h c.args.first) (omega arith)
    c.in_ok-push_value-in-Some.ensures c.in_ok-next.ensures c.in-Some.is c.loop-count.invariant
