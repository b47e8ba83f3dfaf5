use Rattle.std.proofs.Common.{◌∷◌, [], ◌++◌, ◌∙◌, refl, sym, ap, subst}
use Rattle.std.specs.Vec.Iter.{into_iter_items}
use Rattle.vs_time_wheel.specs.Bag.{SameBag}
use Rattle.vs_time_wheel.specs.Calls.{AreAllowed, answers_of, bag_in_the_end, clock_in_the_end}
use Rattle.vs_time_wheel.proofs.Bags.{SameBag-refl, SameBag-trans}
use Rattle.vs_time_wheel.proofs.Outcomes.{OnErr-any}
use Rattle.vs_time_wheel.proofs.Replayed.{after_first, made_one_more, clock_one_more, next_told, next_allowed, next_call, all_made, all_told}
use Rattle.vs_time_wheel.proofs.calls.replay.Goals as goal

pub loop-call-init : goal.loop-call-init
loop-call-init g c =
    let gives = c.into_iter-call-iterator.ensures.into_iter_gives.0 in
    let bag = g.Q.EventQueue.bag c.args.queue.now in let clock = g.Q.EventQueue.clock c.args.queue.now in
    record {
      can = tt;
      finite = tt;
      calls = gives;
      allowed = subst (λ cs. AreAllowed cs bag clock) (sym gives) c.requires;
      told = rw (c.new-answers.ensures.items, gives) refl;
      made = SameBag-refl bag;
      time = refl;
    }

pub make_call-requires : goal.make_call-requires
make_call-requires g c = (rw c.in-Some.ensures.steps.0 at c.loop-call.invariant.allowed).0

pub returns-in_err-answer-clause-cut : goal.returns-in_err-answer-clause-cut
returns-in_err-answer-clause-cut g c =
    OnErr-any _ (after_first c.args.calls.items c.loop-call.yielded (into_iter_items c.loop-call.call-iterator) (g.Q.EventQueue.bag c.args.queue.now) (g.Q.EventQueue.clock c.args.queue.now)
    (g.Q.EventQueue.bag c.make_call.new.queue) (g.Q.EventQueue.clock c.make_call.new.queue) c.loop-call.invariant.calls (SameBag-trans c.in_err-answer.ensures.unchanged c.loop-call.invariant.made) (c.in_err-answer.ensures.same_clock ∙ c.loop-call.invariant.time))

pub returns-in-Err-clause-cut : goal.returns-in-Err-clause-cut
returns-in-Err-clause-cut g c =
    let bag = g.Q.EventQueue.bag in let clock = g.Q.EventQueue.clock in
    after_first c.args.calls.items (c.loop-call.yielded ++ c.in-Some.call ∷ []) (into_iter_items c.next.new.self) (bag c.args.queue.now) (clock c.args.queue.now) (bag c.make_call.new.queue) (clock c.make_call.new.queue)
    (next_call c.loop-call.yielded (into_iter_items c.loop-call.call-iterator) (into_iter_items c.next.new.self) c.args.calls.items c.in-Some.call c.loop-call.invariant.calls c.in-Some.ensures.steps.0)
    (made_one_more c.loop-call.yielded c.in-Some.call (bag c.args.queue.now) (bag c.loop-call.queue) (bag c.make_call.new.queue) c.loop-call.invariant.made c.in_ok-answer.ensures.bag)
    (clock_one_more c.loop-call.yielded c.in-Some.call (clock c.args.queue.now) (clock c.loop-call.queue) (clock c.make_call.new.queue) c.loop-call.invariant.time c.in_ok-answer.ensures.clock)

pub loop-call-preserved : goal.loop-call-preserved
loop-call-preserved g c =
    let bag = g.Q.EventQueue.bag in let clock = g.Q.EventQueue.clock in
    let left = into_iter_items c.loop-call.call-iterator in let rest = into_iter_items c.next.new.self in
    record {
      can = tt;
      finite = tt;
      calls = next_call c.loop-call.yielded left rest c.args.calls.items c.in-Some.call c.loop-call.invariant.calls c.in-Some.ensures.steps.0;
      allowed = next_allowed c.in-Some.call left rest (bag c.loop-call.queue) (bag c.make_call.new.queue) (clock c.loop-call.queue) (clock c.make_call.new.queue)
          c.loop-call.invariant.allowed c.in-Some.ensures.steps.0 c.in_ok-answer.ensures.bag c.in_ok-answer.ensures.clock;
      told = next_told c.loop-call.answers.items c.push.new.self.items c.in_ok-answer.answer c.in-Some.call left rest (bag c.loop-call.queue) (bag c.make_call.new.queue) (clock c.loop-call.queue) (clock c.make_call.new.queue) (answers_of c.args.calls.items (bag c.args.queue.now) (clock c.args.queue.now))
          c.loop-call.invariant.told c.in-Some.ensures.steps.0 c.in_ok-answer.ensures.answer c.in_default.ensures.items c.in_ok-answer.ensures.bag c.in_ok-answer.ensures.clock;
      made = made_one_more c.loop-call.yielded c.in-Some.call (bag c.args.queue.now) (bag c.loop-call.queue) (bag c.make_call.new.queue) c.loop-call.invariant.made c.in_ok-answer.ensures.bag;
      time = clock_one_more c.loop-call.yielded c.in-Some.call (clock c.args.queue.now) (clock c.loop-call.queue) (clock c.make_call.new.queue) c.loop-call.invariant.time c.in_ok-answer.ensures.clock;
    }

pub returns-clause-answers : goal.returns-clause-answers
returns-clause-answers g c =
    let none = sym c.loop-call.call-iterator.rest.ok.0 ∙ c.in-None.ensures.steps.0 in
    all_told c.loop-call.answers.items _ _ _ _ c.loop-call.invariant.told none

pub returns-clause-bag : goal.returns-clause-bag
returns-clause-bag g c =
    let none = sym c.loop-call.call-iterator.rest.ok.0 ∙ c.in-None.ensures.steps.0 in
    subst (λ cs. SameBag (g.Q.EventQueue.bag c.loop-call.queue) (bag_in_the_end cs (g.Q.EventQueue.bag c.args.queue.now))) (all_made c.loop-call.yielded _ _ c.loop-call.invariant.calls none) c.loop-call.invariant.made

pub returns-clause-clock : goal.returns-clause-clock
returns-clause-clock g c =
    let none = sym c.loop-call.call-iterator.rest.ok.0 ∙ c.in-None.ensures.steps.0 in
    c.loop-call.invariant.time ∙ ap (λ cs. clock_in_the_end cs (g.Q.EventQueue.clock c.args.queue.now)) (all_made c.loop-call.yielded _ _ c.loop-call.invariant.calls none)
