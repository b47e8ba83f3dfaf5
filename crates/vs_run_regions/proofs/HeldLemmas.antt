-- The updates, of which those of the slot are known by what they write, after each call.
use Rattle.std.proofs.Common.{◌≡◌, ◌≢◌, ℕ, zero, suc, ◌&&◌, ◌||◌, not, Bool, true, false, cond, Option, Some, None, List, [], ◌∷◌, ◌++◌, map, filter, length, take, get_or, slice_get, option_map, refl, sym, ◌∙◌, ap, ap₂, subst, append-nil}
use Rattle.std.specs.List.{list_any, remove}
use Rattle.std.specs.Prelude.{IfSome}
use Rattle.std.proofs.lemmas.List.{append_assoc, map-append}
use Rattle.vs_run_regions.proofs.ItemsLemmas.{lates-append, sleepers_append, sleepers_same}
use Rattle.std.proofs.lemmas.Option.{none-some, same_Some, slice_get-map}
use Rattle.vs_design.specs.Writes.{Write, shares}
use Rattle.vs_time_wheel.specs.declared.timing.Timed.{Timed}
use Rattle.vs_time_wheel.specs.Bag.{events_at, SameBag}
use Rattle.vs_time_wheel.proofs.Bags.{SameBag-from_eq, SameBag-trans}
use Rattle.vs_process.specs.Executions.{if_some, is_first}
use Rattle.vs_process.specs.States.{Update, activated, is_due, without}
use Rattle.vs_run_regions.specs.declared.item.Due.{Due}
use Rattle.vs_run_regions.specs.declared.item.Due.TheVariants.{Late, Wake}
use Rattle.vs_run_regions.specs.Active.{is_active, not_due, place_of_active}
use Rattle.vs_run_regions.specs.Entries.{HasScheduled, now_of}
use Rattle.vs_run_regions.specs.Items.{lates, sleepers_of}
use Rattle.vs_run_regions.specs.Regions.{AreHeld, AreKept, what_all, without_oldest}
use Rattle.vs_run_regions.specs.declared.update.Update as declared
use Rattle.vs_run_regions.specs.declared.update.Update.TheVariants as r
use Rattle.vs_run_regions.specs.Updates.{SlotView, bits_write, is_first_left, is_shared, is_shown, is_there, left_of, somes}
use Rattle.vs_run_regions.specs.FilterLaws.{is_filled}
use Rattle.vs_run_regions.proofs.FilterLemmas.{any_filled, none_any}
use Rattle.vs_run_regions.proofs.ActiveLemmas.{place-first, place-get}
use Rattle.vs_run_regions.proofs.RegionsLemmas.{kept_activated, kept_advanced, kept_entered, kept_lost, kept_none, kept_same, kept_slept, kept_taken, later_none, later_one, now_none, now_one}
use Rattle.vs_run_regions.proofs.UpdatesLemmas.{any_somes, somes_all, somes_before, somes_there}

-- ---- the same updates, seen by themselves
own_kept : {us active due : List Update} {bag : List (Timed Due)} {time : ℕ} → AreKept us active due bag time → AreKept us (filter is_active us) (filter (is_due time) us) bag time
own_kept h = record { active_ones = refl; due_ones = refl; late_ones = h.late_ones; none_now = h.none_now }

pub held_none : (listed : SlotView) (bag : List (Timed Due)) (time : ℕ) → listed.active ≡ [] → listed.due ≡ [] → bag ≡ [] → AreHeld [] listed bag time
held_none listed bag time active due none = record {
  kept = own_kept (kept_none bag time none);
  active_ones = sym (ap somes active);
  due_ones = sym due;
}

pub held_same : {us : List Update} {listed : SlotView} {bag bag' : List (Timed Due)} {time : ℕ} → AreHeld us listed bag time → SameBag bag' bag → AreHeld us listed bag' time
held_same h s = record { kept = kept_same h.kept s; active_ones = h.active_ones; due_ones = h.due_ones }

pub held_slept : {us : List Update} {listed : SlotView} {bag bag' : List (Timed Due)} {time : ℕ} (until p : ℕ) → AreHeld us listed bag time →
    SameBag bag' (bag ++ record { time = until; event = Wake p } ∷ []) → AreHeld us listed bag' time
held_slept until p h s = record { kept = kept_slept until p h.kept s; active_ones = h.active_ones; due_ones = h.due_ones }

-- ---- an update enters
module _ (us : List Update) (listed new : SlotView) (bag : List (Timed Due)) (time : ℕ) (h : AreHeld us listed bag time) (u : Update) (off : u.active ≡ false) where
  entered_now : u.due ≡ time → HasScheduled u time (filter (is_due time) us) (filter (is_due time) us ++ now_of time u) bag bag
  entered_now e = record { now = refl; later = SameBag-from_eq (sym (ap (λ l. bag ++ l) (later_none u time e) ∙ append-nil bag)) }

  -- one that is due in the slot
  pub held_pushed : u.due ≡ time → new.active ≡ listed.active → new.due ≡ listed.due ++ u.what ∷ [] → AreHeld (us ++ u ∷ []) new bag time
  held_pushed e active due =
      let kept = kept_entered u off h.kept (entered_now e) in
      record {
        kept = own_kept kept;
        active_ones = ap what_all kept.active_ones ∙ h.active_ones ∙ ap somes (sym active);
        due_ones =
            ap what_all kept.due_ones
            ∙ map-append (λ (v : Update). v.what) (filter (is_due time) us) (now_of time u)
            ∙ ap₂ (λ (a b : List Write). a ++ b) h.due_ones (ap what_all (now_one u time time e))
            ∙ sym due;
      }

  -- one that is due later
  pub held_late : {bag' : List (Timed Due)} → u.due ≢ time → SameBag bag' (bag ++ record { time = u.due; event = Late u } ∷ []) → AreHeld (us ++ u ∷ []) listed bag' time
  held_late {bag'} apart s =
      let entered : HasScheduled u time (filter (is_due time) us) (filter (is_due time) us) bag bag' =
      record {
        now = sym (ap (λ l. filter (is_due time) us ++ l) (now_none u time time apart) ∙ append-nil (filter (is_due time) us));
        later = subst (λ l. SameBag bag' (bag ++ l)) (sym (later_one u time apart)) s;
      } in
      let kept = kept_entered u off h.kept entered in
      record { kept = own_kept kept; active_ones = ap what_all kept.active_ones ∙ h.active_ones; due_ones = ap what_all kept.due_ones ∙ h.due_ones }

-- ---- an activated update is taken out
remove-map : {A B : Type 0} (f : A → B) (xs : List A) (k : ℕ) → map f (remove xs k) ≡ remove (map f xs) k
remove-map f [] zero = refl
remove-map f [] (suc k) = refl
remove-map f (x ∷ xs) zero = refl
remove-map f (x ∷ xs) (suc k) = ap (λ l. f x ∷ l) (remove-map f xs k)

module _ (us : List Update) (listed new : SlotView) (bag : List (Timed Due)) (time : ℕ) (h : AreHeld us listed bag time) (due : new.due ≡ listed.due) where
  pub held_taken : (k : ℕ) → somes new.active ≡ remove (somes listed.active) k → AreHeld (without (place_of_active k us) us) new bag time
  held_taken k e =
      let kept = kept_taken k h.kept refl in
      record {
        kept = own_kept kept;
        active_ones = ap what_all kept.active_ones ∙ remove-map (λ (v : Update). v.what) (filter is_active us) k ∙ ap (λ l. remove l k) h.active_ones ∙ sym e;
        due_ones = ap what_all kept.due_ones ∙ h.due_ones ∙ sym due;
      }

  -- one that is gone is none
  pub held_gone : somes new.active ≡ somes listed.active → AreHeld us new bag time
  held_gone e = record { kept = h.kept; active_ones = h.active_ones ∙ sym e; due_ones = h.due_ones ∙ sym due }

-- ---- what the one of a number writes
pub what_there : (us : List Update) (active : List (Option Write)) (k : ℕ) (w : Write) → what_all (filter is_active us) ≡ somes active → slice_get (somes active) k ≡ Some w →
    option_map (λ (v : Update). v.what) (slice_get us (place_of_active k us)) ≡ Some w
what_there us active k w e there =
    ap (option_map (λ (v : Update). v.what)) (place-get k us)
    ∙ sym (slice_get-map (λ (v : Update). v.what) (filter is_active us) k)
    ∙ ap (λ l. slice_get l k) e
    ∙ there

-- ---- the first of its signals
active_by : (u : Update) (us : List Update) (v : Update) → ((i : ℕ) → slice_get (filter is_active us) i ≡ Some v → v.active ≡ true) →
    (b : Bool) → u.active ≡ b → (k : ℕ) → slice_get (cond b (u ∷ filter is_active us) (filter is_active us)) k ≡ Some v → v.active ≡ true
active_by u us v rest true e zero h = ap (λ (x : Update). x.active) (sym (same_Some u v h)) ∙ e
active_by u us v rest true e (suc k) h = rest k h
active_by u us v rest false e k h = rest k h

all_active : (us : List Update) (k : ℕ) (v : Update) → slice_get (filter is_active us) k ≡ Some v → v.active ≡ true
all_active [] zero v h = cc
all_active [] (suc k) v h = cc
all_active (u ∷ us) k v h = active_by u us v (λ i. all_active us i v) u.active refl k h

shared_by_test : (u : Update) (us : List Update) (w : Write) →
    ((i : ℕ) → list_any (λ (older : Update). older.active && shares older.what w) (take i (filter is_active us)) ≡ list_any (λ (x : Write). shares x w) (take i (what_all (filter is_active us)))) →
    (b : Bool) → u.active ≡ b → (k : ℕ) →
    list_any (λ (older : Update). older.active && shares older.what w) (take k (cond b (u ∷ filter is_active us) (filter is_active us)))
    ≡ list_any (λ (x : Write). shares x w) (take k (what_all (cond b (u ∷ filter is_active us) (filter is_active us))))
shared_by_test u us w rest true e zero = refl
shared_by_test u us w rest true e (suc k) = ap₂ (λ (a c : Bool). a || c) (ap (λ b. b && shares u.what w) e) (rest k)
shared_by_test u us w rest false e k = rest k

shared_active : (us : List Update) (w : Write) (k : ℕ) →
    list_any (λ (older : Update). older.active && shares older.what w) (take k (filter is_active us)) ≡ list_any (λ (x : Write). shares x w) (take k (what_all (filter is_active us)))
shared_active [] w zero = refl
shared_active [] w (suc k) = refl
shared_active (u ∷ us) w k = shared_by_test u us w (shared_active us w) u.active refl k

module _ (us : List Update) (active : List (Option Write)) (n : ℕ) (e : what_all (filter is_active us) ≡ somes active) where
  abbrev k : ℕ
  k = length (somes (take n active))

  abbrev fs : List Update
  fs = filter is_active us

  shown : (w : Write) → list_any (is_shared w) (take n active) ≡ list_any (λ (older : Update). older.active && shares older.what w) (take k fs)
  shown w =
      any_somes w (take n active)
      ∙ ap (list_any (λ (x : Write). shares x w)) (somes_before active n ∙ ap (take k) (sym e))
      ∙ sym (shared_active us w k)

  first_at : (w : Write) (o : Option Update) → slice_get fs k ≡ o → option_map (λ (v : Update). v.what) o ≡ Some w → not (list_any (is_shared w) (take n active)) ≡ if_some (is_first fs k) o
  first_at w None at is = absurd (none-some w is)
  first_at w (Some v) at is =
      let same : v.what ≡ w = same_Some v.what w is in
      let on : v.active ≡ true = all_active us k v at in
      ap not (shown w ∙ ap (λ x. list_any (λ (older : Update). older.active && shares older.what x) (take k fs)) (sym same))
      ∙ sym (ap (λ b. b && not (list_any (λ (older : Update). older.active && shares older.what v.what) (take k fs))) on)

  first_one : (w : Write) → slice_get active n ≡ Some (Some w) → not (list_any (is_shared w) (take n active)) ≡ if_some (is_first us (place_of_active k us)) (slice_get us (place_of_active k us))
  first_one w there =
      first_at w (slice_get fs k) refl (sym (slice_get-map (λ (v : Update). v.what) fs k) ∙ ap (λ l. slice_get l k) e ∙ somes_there active n w there)
      ∙ sym (place-first k us)

  -- the one of a number is the first of its signals where it is so by what the others write
  pub first_of_number : is_first_left active n ≡ (is_there (slice_get active n) && if_some (is_first us (place_of_active k us)) (slice_get us (place_of_active k us)))
  first_of_number = by_one (slice_get active n) refl
    where
      by_one : (o : Option (Option Write)) → slice_get active n ≡ o →
          is_shown (take n active) o ≡ (is_there o && if_some (is_first us (place_of_active k us)) (slice_get us (place_of_active k us)))
      by_one None h = refl
      by_one (Some None) h = refl
      by_one (Some (Some w)) h = first_one w h

-- ---- activation
whats_kept : (time : ℕ) (us : List Update) → what_all (map (activated time) us) ≡ what_all us
whats_kept time [] = refl
whats_kept time (u ∷ us) = ap (λ l. u.what ∷ l) (whats_kept time us)

pub held_activated : {us : List Update} {bag : List (Timed Due)} {time : ℕ} (listed new : SlotView) → list_any is_active us ≡ false → AreHeld us listed bag time →
    new.active ≡ map Some listed.due → new.due ≡ [] → AreHeld (map (activated time) us) new bag time
held_activated {us} {bag} {time} listed new none h active due =
    let kept = kept_activated none h.kept refl refl in
    record {
      kept = own_kept kept;
      active_ones = ap what_all kept.active_ones ∙ whats_kept time (filter (is_due time) us) ∙ h.due_ones ∙ sym (ap somes active ∙ somes_all listed.due);
      due_ones = ap what_all (kept.due_ones ∙ none_any is_active us none) ∙ sym due;
    }

-- none is left where none is activated
pub none_left : {us : List Update} {listed : SlotView} {bag : List (Timed Due)} {time : ℕ} → list_any is_active us ≡ false → AreHeld us listed bag time → somes listed.active ≡ []
none_left {us} none h = sym h.active_ones ∙ ap what_all (none_any is_active us none)

-- ---- time goes on
pub held_advanced : {us : List Update} {bag bag' : List (Timed Due)} {now : ℕ} (listed new : SlotView) (time : ℕ) → AreHeld us listed bag now → list_any (is_due now) us ≡ false →
    new.active ≡ listed.active → new.due ≡ listed.due ++ what_all (lates (events_at time bag)) → events_at time bag' ≡ [] →
    ((t : ℕ) → time ≢ t → events_at t bag' ≡ events_at t bag) → AreHeld us new bag' time
held_advanced {us} {bag} {bag'} {now} listed new time h none active due taken others =
    let kept = kept_advanced time h.kept none refl taken others in
    record {
      kept = own_kept kept;
      active_ones = h.active_ones ∙ ap somes (sym active);
      due_ones =
          ap what_all kept.due_ones
          ∙ map-append (λ (v : Update). v.what) (filter (is_due now) us) (lates (events_at time bag))
          ∙ ap (λ l. l ++ what_all (lates (events_at time bag))) h.due_ones
          ∙ sym due;
    }

pub held_lost : {us : List Update} {bag bag' : List (Timed Due)} {now : ℕ} (listed new : SlotView) (time : ℕ) → AreHeld us listed bag now → list_any (is_due now) us ≡ false →
    new.active ≡ listed.active → new.due ≡ [] → events_at time bag' ≡ [] → ((t : ℕ) → time ≢ t → events_at t bag' ≡ events_at t bag) →
    AreHeld (filter (not_due time) us) new bag' time
held_lost listed new time h none active due taken others =
    let kept = kept_lost time h.kept none refl taken others in
    record { kept = own_kept kept; active_ones = ap what_all kept.active_ones ∙ h.active_ones ∙ ap somes (sym active); due_ones = ap what_all kept.due_ones ∙ sym due }

-- ---- whether there is one
filled_map : {A B : Type 0} (f : A → B) (xs : List A) → is_filled xs ≡ is_filled (map f xs)
filled_map f [] = refl
filled_map f (x ∷ xs) = refl

pub held_any : {us : List Update} {listed : SlotView} {bag : List (Timed Due)} {time : ℕ} → AreHeld us listed bag time → is_filled (somes listed.active) ≡ list_any is_active us
held_any {us} h = sym (any_filled is_active us ∙ filled_map (λ (v : Update). v.what) (filter is_active us) ∙ ap is_filled h.active_ones)

pub held_due : {us : List Update} {listed : SlotView} {bag : List (Timed Due)} {time : ℕ} → AreHeld us listed bag time → is_filled listed.due ≡ list_any (is_due time) us
held_due {us} {time = time} h = sym (any_filled (is_due time) us ∙ filled_map (λ (v : Update). v.what) (filter (is_due time) us) ∙ ap is_filled h.due_ones)

-- ---- the items of a time are taken one after another
pub more_whats : (xs xs' target : List Write) (item : Due) (ys ys' : List Due) → xs' ≡ xs ++ what_all (lates (item ∷ [])) → ys ≡ item ∷ ys' → xs ++ what_all (lates ys) ≡ target →
    xs' ++ what_all (lates ys') ≡ target
more_whats xs xs' target item ys ys' e f h =
    ap (λ l. l ++ what_all (lates ys')) e
    ∙ append_assoc xs (what_all (lates (item ∷ []))) (what_all (lates ys'))
    ∙ ap (λ l. xs ++ l) (sym (map-append (λ (v : Update). v.what) (lates (item ∷ [])) (lates ys')))
    ∙ ap (λ l. xs ++ what_all l) (sym (lates-append (item ∷ []) ys'))
    ∙ ap (λ l. xs ++ what_all (lates l)) (sym f)
    ∙ h

pub all_whats : (xs target : List Write) (ys : List Due) → ys ≡ [] → xs ++ what_all (lates ys) ≡ target → xs ≡ target
all_whats xs target ys none h = sym (ap (λ l. xs ++ what_all (lates l)) none ∙ append-nil xs) ∙ h

-- a late update is no end of a delay
pub late_sleepers : (bag bag' : List (Timed Due)) (u : Update) → SameBag bag' (bag ++ record { time = u.due; event = Late u } ∷ []) → SameBag (sleepers_of bag') (sleepers_of bag)
late_sleepers bag bag' u s =
    SameBag-trans (sleepers_same s) (SameBag-from_eq (sleepers_append bag (record { time = u.due; event = Late u } ∷ []) ∙ append-nil (sleepers_of bag)))

-- ---- the oldest one is taken out
pub held_next : (us : List Update) (listed new : SlotView) (bag : List (Timed Due)) (time : ℕ) → AreHeld us listed bag time → new.due ≡ listed.due → (ws : List Write) (u : declared.Update) →
    listed.active ≡ left_of ws u ∷ new.active → AreHeld (without_oldest u us) new bag time
held_next us listed new bag time h due ws r.Gone taken = held_gone us listed new bag time h due (sym (ap somes taken))
held_next us listed new bag time h due ws (r.Bits b) taken = held_taken us listed new bag time h due 0 (sym (ap (λ l. remove (somes l) 0) taken))
held_next us listed new bag time h due ws (r.Any n) taken = held_taken us listed new bag time h due 0 (sym (ap (λ l. remove (somes l) 0) taken))

-- and what it writes is what it wrote in the execution
pub next_there : (us : List Update) (listed : SlotView) (bag : List (Timed Due)) (time : ℕ) → AreHeld us listed bag time → (ws : List Write) (u : declared.Update) (rest : List (Option Write)) →
    listed.active ≡ left_of ws u ∷ rest → IfSome (left_of ws u) (λ what. option_map (λ (v : Update). v.what) (slice_get us (place_of_active 0 us)) ≡ Some what)
next_there us listed bag time h ws r.Gone rest taken = tt
next_there us listed bag time h ws (r.Bits b) rest taken = what_there us listed.active 0 (bits_write b) h.active_ones (ap (λ (l : List (Option Write)). slice_get (somes l) 0) taken)
next_there us listed bag time h ws (r.Any n) rest taken = what_there us listed.active 0 (get_or ws n []) h.active_ones (ap (λ (l : List (Option Write)). slice_get (somes l) 0) taken)

-- and no older one names a signal that it names
first_left : (us : List Update) (w : Write) (rest : List (Option Write)) → what_all (filter is_active us) ≡ somes (Some w ∷ rest) → if_some (is_first us (place_of_active 0 us)) (slice_get us (place_of_active 0 us)) ≡ true
first_left us w rest e = sym (first_of_number us (Some w ∷ rest) 0 e)

pub next_first : (us : List Update) (listed : SlotView) (bag : List (Timed Due)) (time : ℕ) → AreHeld us listed bag time → (ws : List Write) (u : declared.Update) (rest : List (Option Write)) →
    listed.active ≡ left_of ws u ∷ rest → IfSome (left_of ws u) (λ what. if_some (is_first us (place_of_active 0 us)) (slice_get us (place_of_active 0 us)) ≡ true)
next_first us listed bag time h ws r.Gone rest taken = tt
next_first us listed bag time h ws (r.Bits b) rest taken = first_left us (bits_write b) rest (h.active_ones ∙ ap somes taken)
next_first us listed bag time h ws (r.Any n) rest taken = first_left us (get_or ws n []) rest (h.active_ones ∙ ap somes taken)
