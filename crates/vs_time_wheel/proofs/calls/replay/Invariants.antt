use Rattle.std.proofs.Common.{◌≡◌, ◌++◌}
use Rattle.std.specs.Vec.Iter.{into_iter_items}
use Rattle.vs_time_wheel.specs.Bag.{SameBag}
use Rattle.vs_time_wheel.specs.Calls.{AreAllowed, answers_of, bag_in_the_end, clock_in_the_end}
use Rattle.vs_time_wheel.proofs.calls.replay.Given as goal

-- the answers so far and those to what is left are the answers to all
abbrev pub invariant-loop-call : goal.invariant-loop-call
invariant-loop-call g l =
    let bag = g.Q.EventQueue.bag in let clock = g.Q.EventQueue.clock in let rest = into_iter_items l.call-iterator in
    record {
      can : (goal.iterator-loop-call g).can_next l.call-iterator;
      finite : (goal.iterator-loop-call g).is_finite l.call-iterator;
      calls : l.yielded ++ rest ≡ l.fn.calls.items;
      allowed : AreAllowed rest (bag l.queue) (clock l.queue);
      told : l.answers.items ++ answers_of rest (bag l.queue) (clock l.queue) ≡ answers_of l.fn.calls.items (bag l.fn.queue) (clock l.fn.queue);
      made : SameBag (bag l.queue) (bag_in_the_end l.yielded (bag l.fn.queue));
      time : clock l.queue ≡ clock_in_the_end l.yielded (clock l.fn.queue);
    }
