use Rattle.std.proofs.Common.{sym, [], ◌∙◌, ap}
use Rattle.vs_elab_statements.specs.Statements.{print_text, print_values}
use Rattle.vs_elab_statements.proofs.CallLemmas.{call_is}
use Rattle.vs_elab_statements.proofs.calls.call.Goals as goal

pub returns-in-Missing : goal.returns-in-Missing
returns-in-Missing c envs p v =
    call_is (envs p) p c.args.task c.args.all.now c.call_kind-kind.result [] [] c.call_of.result c.call_kind-kind.ensures (sym (ap print_text c.in-Missing.is)) (sym (ap print_values c.in-Missing.is))
    (c.call_of.ensures envs p v)

pub returns-in-Empty : goal.returns-in-Empty
returns-in-Empty c envs p v =
    call_is (envs p) p c.args.task c.args.all.now c.call_kind-kind.result [] [] c.call_of-in-Empty.result c.call_kind-kind.ensures (sym (ap print_text c.in-Empty.is)) (sym (ap print_values c.in-Empty.is))
    (c.call_of-in-Empty.ensures envs p v)

pub returns-in-Text : goal.returns-in-Text
returns-in-Text c envs p v =
    call_is (envs p) p c.args.task c.args.all.now c.call_kind-kind.result c.deref.result.now c.deref-in-Text.result.now c.call_of-in-Text.result c.call_kind-kind.ensures (c.deref.ensures.value ∙ sym (ap print_text c.in-Text.is)) (c.deref-in-Text.ensures.value ∙ sym (ap print_values c.in-Text.is))
    (c.call_of-in-Text.ensures envs p v)
