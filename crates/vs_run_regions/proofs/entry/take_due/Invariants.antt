use Rattle.std.proofs.Common.{◌≡◌, ◌≢◌, ◌≤◌, ◌++◌, ℕ, true, length}
use Rattle.vs_time_wheel.specs.Bag.{IsFrom, events_at}
use Rattle.vs_run_regions.specs.Items.{wakes, lates}
use Rattle.vs_run_regions.specs.Regions.{what_all}
use Rattle.vs_run_regions.proofs.entry.take_due.Given as goal

abbrev pub invariant-loop-item : goal.invariant-loop-item
invariant-loop-item g l = record {
  due : l.room ≡ true → l.updates.due ++ what_all (lates (events_at l.time (g.Q.EventQueue.bag l.queue))) ≡ l.fn.updates.due ++ what_all (lates (events_at l.time (g.Q.EventQueue.bag l.fn.queue)));
  woken : l.room ≡ true → l.woken.items ++ wakes (events_at l.time (g.Q.EventQueue.bag l.queue)) ≡ l.fn.woken.items ++ wakes (events_at l.time (g.Q.EventQueue.bag l.fn.queue));
  others : (t : ℕ) → l.time ≢ t → events_at t (g.Q.EventQueue.bag l.queue) ≡ events_at t (g.Q.EventQueue.bag l.fn.queue);
  not_over : g.Q.EventQueue.clock l.queue ≤ l.time;
  none_before : IsFrom l.time (g.Q.EventQueue.bag l.queue);
  active : l.updates.active ≡ l.fn.updates.active;
  signals : l.updates.signals ≡ l.fn.updates.signals;
  writes : l.updates.writes ≡ l.fn.updates.writes;
}

abbrev pub decreases-loop-item : goal.decreases-loop-item
decreases-loop-item g l = length (events_at l.time (g.Q.EventQueue.bag l.queue))
