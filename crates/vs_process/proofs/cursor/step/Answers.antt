use Rattle.std.proofs.Common.{◌≡◌, refl, sym, ap, subst}
use Rattle.vs_process.specs.Changes.{store_after}
use Rattle.vs_process.specs.Landings.{next_of}
use Rattle.vs_process.specs.Places.{Todo}
use Rattle.vs_process.specs.Steps.{step}
use Rattle.vs_process.specs.declared.halt.Halt.TheVariants as h
use Rattle.vs_process.proofs.Follows.{code_next, ok_step}
use Rattle.vs_process.proofs.cursor.step.Goals as goal

pub returns-in_default-clause-next : goal.returns-in_default-clause-next
returns-in_default-clause-next c =
    subst (λ (t : Todo). (step t c.args.store.now c.args.time).next ≡ next_of h.Nothing t) (sym (c.in_default.ensures c.args.counters.now.items)) refl

pub returns-in_default-clause-store : goal.returns-in_default-clause-store
returns-in_default-clause-store c =
    ap (λ (t : Todo). store_after c.args.store.now (step t c.args.store.now c.args.time).write) (sym (c.in_default.ensures c.args.counters.now.items))

pub returns-clause-code : goal.returns-clause-code
returns-clause-code c =
    code_next c.args.ops.now c.in-Some.op.now c.args.counters.now.items c.run.new.counters.items c.args.store.now c.args.time c.run.result c.requires.code c.run.ensures.lands c.run.ensures.counters_kept

pub returns-clause-next : goal.returns-clause-next
returns-clause-next c = (ok_step c.args.ops.now c.args.counters.now.items c.run.new.counters.items c.args.place c.in-Some.ensures.0 c.in-Some.op.now c.args.store.now c.run.new.store c.args.time
    c.run.result c.requires.code c.in-Some.ensures.1 c.in-Some.ensures.2 c.run.ensures.lands c.run.ensures.ends).0

pub returns-clause-store : goal.returns-clause-store
returns-clause-store c = (ok_step c.args.ops.now c.args.counters.now.items c.run.new.counters.items c.args.place c.in-Some.ensures.0 c.in-Some.op.now c.args.store.now c.run.new.store c.args.time
    c.run.result c.requires.code c.in-Some.ensures.1 c.in-Some.ensures.2 c.run.ensures.lands c.run.ensures.ends).1
