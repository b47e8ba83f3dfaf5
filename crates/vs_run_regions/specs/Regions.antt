-- What waits in a slot and after it.
use Rattle.std.specs.Prelude.{ℕ, ◌≡◌, ◌≢◌, List, [], filter, map, length, take}
use Rattle.vs_design.specs.Writes.{Write}
use Rattle.vs_time_wheel.specs.declared.timing.Timed.{Timed}
use Rattle.vs_time_wheel.specs.Bag.{events_at}
use Rattle.vs_process.specs.States.{Update, is_due, without}
use Rattle.vs_run_regions.specs.declared.item.Due.{Due}
use Rattle.vs_run_regions.specs.declared.update.Update as declared
use Rattle.vs_run_regions.specs.declared.update.Update.TheVariants as r
use Rattle.vs_run_regions.specs.Active.{is_active, place_of_active}
use Rattle.vs_run_regions.specs.Items.{lates}
use Rattle.vs_run_regions.specs.Updates.{SlotView, somes}

-- the time of the slot, the inactive processes in the order of their arrival, the ends of delays, and the nonblocking updates in the order of
-- execution (clauses 11.3 and 11.4); and what is known of the updates of the slot by their numbers
pub record Waiting : Type 0 where
  pub time : ℕ
  pub inactive : List ℕ
  pub sleepers : List (Timed ℕ)
  pub updates : List Update
  pub listed : SlotView

-- what updates write
abbrev pub what_all : List Update → List Write
what_all us = map (λ (u : Update). u.what) us

-- two lists and a bag hold the updates: the activated ones, those due in the slot and not activated, and the later ones by their times
pub record AreKept (updates active due : List Update) (bag : List (Timed Due)) (time : ℕ) : Type 0 where
  pub active_ones : filter is_active updates ≡ active
  pub due_ones : filter (is_due time) updates ≡ due
  pub late_ones : (t : ℕ) → time ≢ t → filter (is_due t) updates ≡ lates (events_at t bag)
  pub none_now : lates (events_at time bag) ≡ []

-- the same, where of those of the slot it is known what they write
pub record AreHeld (updates : List Update) (listed : SlotView) (bag : List (Timed Due)) (time : ℕ) : Type 0 where
  pub kept : AreKept updates (filter is_active updates) (filter (is_due time) updates) bag time
  pub active_ones : what_all (filter is_active updates) ≡ somes listed.active
  pub due_ones : what_all (filter (is_due time) updates) ≡ listed.due

-- the place in the whole list of the activated update of a number, where the older ones that are gone don't count
abbrev pub place_of_number : ℕ → Waiting → ℕ
place_of_number number w = place_of_active (length (somes (take number w.listed.active))) w.updates

-- the updates after the oldest activated one was taken out, where it isn't gone
abbrev pub without_oldest : declared.Update → List Update → List Update
without_oldest r.Gone us = us
without_oldest (r.Bits b) us = without (place_of_active 0 us) us
without_oldest (r.Any n) us = without (place_of_active 0 us) us
