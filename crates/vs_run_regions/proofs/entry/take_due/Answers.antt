use Rattle.std.proofs.Common.{length, ap, sym, ◌∙◌, arith}
use Rattle.vs_time_wheel.specs.Bag.{events_at}
use Rattle.vs_run_regions.proofs.ItemsLemmas.{take_some, take_none, taken_none, take_others, take_from, from_least, more_wakes, all_wakes}
use Rattle.vs_run_regions.proofs.HeldLemmas.{all_whats, more_whats}
use Rattle.vs_run_regions.proofs.entry.take_due.Goals as goal

pub take_due-requires-clause-none_before : goal.take_due-requires-clause-none_before
take_due-requires-clause-none_before g c = from_least c.args.time (g.Q.EventQueue.bag c.loop-item.queue) c.loop-item.invariant.none_before

pub loop-item-smaller-then-not-place : goal.loop-item-smaller-then-not-place
loop-item-smaller-then-not-place g c =
    let bag = g.Q.EventQueue.bag c.loop-item.queue in
    let bag' = g.Q.EventQueue.bag c.take_due.new.self in
    let some = take_some c.args.time bag bag' c.in-Some.item (sym c.take_due.ensures.oldest ∙ c.in-Some.is) c.take_due.ensures.rest in
    omega (arith, ap length some)

pub loop-item-preserved-then-not-place : goal.loop-item-preserved-then-not-place
loop-item-preserved-then-not-place g c =
    let bag = g.Q.EventQueue.bag c.loop-item.queue in
    let bag' = g.Q.EventQueue.bag c.take_due.new.self in
    let rest = c.take_due.ensures.rest in
    record {
      due = λ no. cc;
      woken = λ no. cc;
      others = λ t apart. take_others c.args.time bag bag' rest t apart ∙ c.loop-item.invariant.others t apart;
      not_over = omega (arith, c.take_due.ensures.moved_on);
      none_before = take_from c.args.time bag bag' rest c.loop-item.invariant.none_before;
      active = c.place.ensures.active ∙ c.loop-item.invariant.active;
      signals = c.place.ensures.signals ∙ c.loop-item.invariant.signals;
      writes = c.place.ensures.writes ∙ c.loop-item.invariant.writes;
    }

pub loop-item-smaller : goal.loop-item-smaller
loop-item-smaller g c =
    let bag = g.Q.EventQueue.bag c.loop-item.queue in
    let bag' = g.Q.EventQueue.bag c.take_due.new.self in
    let some = take_some c.args.time bag bag' c.in-Some.item (sym c.take_due.ensures.oldest ∙ c.in-Some.is) c.take_due.ensures.rest in
    omega (arith, ap length some)

pub loop-item-preserved : goal.loop-item-preserved
loop-item-preserved g c =
    let bag = g.Q.EventQueue.bag c.loop-item.queue in
    let bag' = g.Q.EventQueue.bag c.take_due.new.self in
    let rest = c.take_due.ensures.rest in
    let some = take_some c.args.time bag bag' c.in-Some.item (sym c.take_due.ensures.oldest ∙ c.in-Some.is) rest in
    record {
      due = λ room. more_whats c.loop-item.updates.due c.place.new.updates.due _ c.in-Some.item (events_at c.args.time bag) (events_at c.args.time bag') (c.place.ensures.due c.if-not-place.false) some (c.loop-item.invariant.due room);
      woken = λ room. more_wakes c.loop-item.woken.items c.place.new.woken.items _ c.in-Some.item (events_at c.args.time bag) (events_at c.args.time bag') (c.place.ensures.woken c.if-not-place.false) some (c.loop-item.invariant.woken room);
      others = λ t apart. take_others c.args.time bag bag' rest t apart ∙ c.loop-item.invariant.others t apart;
      not_over = omega (arith, c.take_due.ensures.moved_on);
      none_before = take_from c.args.time bag bag' rest c.loop-item.invariant.none_before;
      active = c.place.ensures.active ∙ c.loop-item.invariant.active;
      signals = c.place.ensures.signals ∙ c.loop-item.invariant.signals;
      writes = c.place.ensures.writes ∙ c.loop-item.invariant.writes;
    }

pub returns-clause-due : goal.returns-clause-due
returns-clause-due g c = λ room.
    let bag = g.Q.EventQueue.bag c.loop-item.queue in
    all_whats c.loop-item.updates.due _ (events_at c.args.time bag) (take_none c.args.time bag (sym c.take_due.ensures.oldest ∙ c.in_default.is)) (c.loop-item.invariant.due room)

pub returns-clause-woken : goal.returns-clause-woken
returns-clause-woken g c = λ room.
    let bag = g.Q.EventQueue.bag c.loop-item.queue in
    all_wakes c.loop-item.woken.items _ (events_at c.args.time bag) (take_none c.args.time bag (sym c.take_due.ensures.oldest ∙ c.in_default.is)) (c.loop-item.invariant.woken room)

pub returns-clause-taken : goal.returns-clause-taken
returns-clause-taken g c =
    taken_none c.args.time (g.Q.EventQueue.bag c.loop-item.queue) (g.Q.EventQueue.bag c.take_due.new.self) (sym c.take_due.ensures.oldest ∙ c.in_default.is) c.take_due.ensures.rest

pub returns-clause-others : goal.returns-clause-others
returns-clause-others g c = λ t apart.
    take_others c.args.time (g.Q.EventQueue.bag c.loop-item.queue) (g.Q.EventQueue.bag c.take_due.new.self) c.take_due.ensures.rest t apart ∙ c.loop-item.invariant.others t apart
