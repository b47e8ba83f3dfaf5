-- The lists and the bag that hold the updates, behind each call.
use Rattle.std.proofs.Common.{◌≡◌, ◌≢◌, ℕ, ◌&&◌, not, true, false, cond, List, [], ◌∷◌, ◌++◌, map, filter, refl, sym, ◌∙◌, ap, subst, inl, inr, append-nil}
use Rattle.std.specs.Prelude.{nat_eq}
use Rattle.std.specs.List.{list_any, remove}
use Rattle.std.proofs.lemmas.Bool.{eq-eqb, ne_eqb, eqb-true, cases_eq, not-true}
use Rattle.std.proofs.lemmas.List.Elements.{filter-append}
use Rattle.vs_time_wheel.specs.declared.timing.Timed.{Timed}
use Rattle.vs_time_wheel.specs.Bag.{events_at, SameBag}
use Rattle.vs_time_wheel.proofs.Bags.{events_at-append, events_at-here, events_at-apart, SameBag-trans, SameBag-from_eq}
use Rattle.vs_process.specs.States.{Update, without, is_due, activated}
use Rattle.vs_run_regions.specs.declared.item.Due.{Due}
use Rattle.vs_run_regions.specs.declared.item.Due.TheVariants.{Wake, Late}
use Rattle.vs_run_regions.specs.Items.{lates, sleepers_of}
use Rattle.vs_run_regions.specs.Active.{is_active, not_due, place_of_active}
use Rattle.vs_run_regions.specs.Entries.{now_of, later_of, HasScheduled}
use Rattle.vs_run_regions.specs.Regions.{AreKept}
use Rattle.vs_run_regions.proofs.ItemsLemmas.{lates-append, sleepers_same, sleepers_append}
use Rattle.vs_run_regions.proofs.FilterLemmas.{none_any, filter_within, filter_out}
use Rattle.vs_run_regions.proofs.ActiveLemmas.{place-left, place-others, active_not_due, without-remove, activated_ones, activated_due, activated_later}
use Rattle.std.proofs.lemmas.Bool.{and_right as away, not_from_false as not_other}
use Rattle.vs_design.specs.vs_logic4.proofs.Basics.{and_right}

pub kept_none : (bag : List (Timed Due)) (time : ℕ) → bag ≡ [] → AreKept [] [] [] bag time
kept_none bag time none = record {
  active_ones = refl;
  due_ones = refl;
  late_ones = λ t apart. sym (ap (λ b. lates (events_at t b)) none);
  none_now = ap (λ b. lates (events_at time b)) none;
}

pub kept_same : {us active due : List Update} {bag bag' : List (Timed Due)} {time : ℕ} → AreKept us active due bag time → SameBag bag' bag → AreKept us active due bag' time
kept_same {time = time} h s = record {
  active_ones = h.active_ones;
  due_ones = h.due_ones;
  late_ones = λ t apart. h.late_ones t apart ∙ sym (ap lates (s.at_each t));
  none_now = ap lates (s.at_each time) ∙ h.none_now;
}

-- ---- the end of a delay enters the queue
wake_late : (t due p : ℕ) → lates (events_at t (record { time = due; event = Wake p } ∷ [])) ≡ []
wake_late t due p = elim (cases_eq due t) [
  | inl here ↦ ap lates (events_at-here t (record { time = due; event = Wake p }) [] here)
  | inr other ↦ ap lates (events_at-apart t (record { time = due; event = Wake p }) [] other)
]

slept_late : (bag bag' : List (Timed Due)) (due p : ℕ) → SameBag bag' (bag ++ record { time = due; event = Wake p } ∷ []) → (t : ℕ) → lates (events_at t bag') ≡ lates (events_at t bag)
slept_late bag bag' due p s t =
    ap lates (s.at_each t ∙ events_at-append t bag (record { time = due; event = Wake p } ∷ []))
    ∙ lates-append (events_at t bag) (events_at t (record { time = due; event = Wake p } ∷ []))
    ∙ ap (λ l. lates (events_at t bag) ++ l) (wake_late t due p) ∙ append-nil (lates (events_at t bag))

pub kept_slept : {us active due : List Update} {bag bag' : List (Timed Due)} {time : ℕ} (until p : ℕ) → AreKept us active due bag time → SameBag bag' (bag ++ record { time = until; event = Wake p } ∷ []) → AreKept us active due bag' time
kept_slept {bag = bag} {bag' = bag'} {time = time} until p h s = record {
  active_ones = h.active_ones;
  due_ones = h.due_ones;
  late_ones = λ t apart. h.late_ones t apart ∙ sym (slept_late bag bag' until p s t);
  none_now = slept_late bag bag' until p s time ∙ h.none_now;
}

pub slept_sleepers : (bag bag' : List (Timed Due)) (until p : ℕ) → SameBag bag' (bag ++ record { time = until; event = Wake p } ∷ []) → SameBag (sleepers_of bag') (sleepers_of bag ++ record { time = until; event = p } ∷ [])
slept_sleepers bag bag' until p s = SameBag-trans (sleepers_same s) (SameBag-from_eq (sleepers_append bag (record { time = until; event = Wake p } ∷ [])))

-- ---- an update enters
new_active : (u : Update) → u.active ≡ false → filter is_active (u ∷ []) ≡ []
new_active u off = ap (λ b. cond b (u ∷ []) []) off

new_due : (u : Update) → u.active ≡ false → (t : ℕ) → filter (is_due t) (u ∷ []) ≡ now_of t u
new_due u off t = ap (λ b. cond (not b && nat_eq u.due t) (u ∷ []) []) off

module _ (u : Update) (time : ℕ) where
  pub later_none : u.due ≡ time → later_of time u ≡ []
  later_none e = ap (λ b. cond b [] (record { time = u.due; event = Late u } ∷ [])) (eq-eqb u.due time e)

  pub later_one : u.due ≢ time → later_of time u ≡ record { time = u.due; event = Late u } ∷ []
  later_one e = ap (λ b. cond b [] (record { time = u.due; event = Late u } ∷ [])) (ne_eqb u.due time e)

  pub now_none : (t : ℕ) → u.due ≢ t → now_of t u ≡ []
  now_none t e = ap (λ b. cond b (u ∷ []) []) (ne_eqb u.due t e)

  pub now_one : (t : ℕ) → u.due ≡ t → now_of t u ≡ u ∷ []
  now_one t e = ap (λ b. cond b (u ∷ []) []) (eq-eqb u.due t e)

  -- the item at a time
  item_at : (t : ℕ) → u.due ≢ time → lates (events_at t (later_of time u)) ≡ now_of t u
  item_at t e = ap (λ b. lates (events_at t b)) (later_one e) ∙ elim (cases_eq u.due t) [
    | inl here ↦ ap lates (events_at-here t (record { time = u.due; event = Late u }) [] here) ∙ sym (now_one t here)
    | inr other ↦ ap lates (events_at-apart t (record { time = u.due; event = Late u }) [] other) ∙ sym (now_none t other)
  ]

  entered_later : (t : ℕ) → time ≢ t → lates (events_at t (later_of time u)) ≡ now_of t u
  entered_later t apart = elim (cases_eq u.due time) [
    | inl here ↦ ap (λ b. lates (events_at t b)) (later_none here) ∙ sym (now_none t (λ e. apart (sym here ∙ e)))
    | inr other ↦ item_at t other
  ]

  entered_now : lates (events_at time (later_of time u)) ≡ []
  entered_now = elim (cases_eq u.due time) [
    | inl here ↦ ap (λ b. lates (events_at time b)) (later_none here)
    | inr other ↦ item_at time other ∙ now_none time other
  ]

  late_entered : (bag bag' : List (Timed Due)) → SameBag bag' (bag ++ later_of time u) → (t : ℕ) → lates (events_at t bag') ≡ lates (events_at t bag) ++ lates (events_at t (later_of time u))
  late_entered bag bag' s t = ap lates (s.at_each t ∙ events_at-append t bag (later_of time u)) ∙ lates-append (events_at t bag) (events_at t (later_of time u))

  no_sleeper : sleepers_of (later_of time u) ≡ []
  no_sleeper = elim (cases_eq u.due time) [
    | inl here ↦ ap sleepers_of (later_none here)
    | inr other ↦ ap sleepers_of (later_one other)
  ]

pub kept_entered : {us active due due' : List Update} {bag bag' : List (Timed Due)} {time : ℕ} (u : Update) → u.active ≡ false → AreKept us active due bag time → HasScheduled u time due due' bag bag' → AreKept (us ++ u ∷ []) active due' bag' time
kept_entered {us} {active} {due} {due'} {bag} {bag'} {time} u off h e = record {
  active_ones = filter-append is_active us (u ∷ []) ∙ ap (λ l. filter is_active us ++ l) (new_active u off) ∙ append-nil (filter is_active us) ∙ h.active_ones;
  due_ones =
      filter-append (is_due time) us (u ∷ []) ∙ ap (λ l. filter (is_due time) us ++ l) (new_due u off time) ∙ ap (λ l. l ++ now_of time u) h.due_ones ∙ sym e.now;
  late_ones = λ t apart.
      filter-append (is_due t) us (u ∷ []) ∙ ap (λ l. filter (is_due t) us ++ l) (new_due u off t ∙ sym (entered_later u time t apart))
      ∙ ap (λ l. l ++ lates (events_at t (later_of time u))) (h.late_ones t apart) ∙ sym (late_entered u time bag bag' e.later t);
  none_now = late_entered u time bag bag' e.later time ∙ ap (λ l. lates (events_at time bag) ++ l) (entered_now u time) ∙ append-nil (lates (events_at time bag)) ∙ h.none_now;
}

pub entered_sleepers : {due due' : List Update} {bag bag' : List (Timed Due)} {time : ℕ} (u : Update) → HasScheduled u time due due' bag bag' → SameBag (sleepers_of bag') (sleepers_of bag)
entered_sleepers {bag = bag} {time = time} u e =
    SameBag-trans (sleepers_same e.later)
    (SameBag-from_eq (sleepers_append bag (later_of time u) ∙ ap (λ l. sleepers_of bag ++ l) (no_sleeper u time) ∙ append-nil (sleepers_of bag)))

-- ---- an activated update is taken out
pub kept_taken : {us active active' due : List Update} {bag : List (Timed Due)} {time : ℕ} (k : ℕ) → AreKept us active due bag time → active' ≡ remove active k → AreKept (without (place_of_active k us) us) active' due bag time
kept_taken {us} {active} {active'} {due} {bag} {time} k h e = record {
  active_ones = place-left k us ∙ ap (without k) h.active_ones ∙ without-remove active k ∙ sym e;
  due_ones = place-others (is_due time) (active_not_due time) k us ∙ h.due_ones;
  late_ones = λ t apart. place-others (is_due t) (active_not_due t) k us ∙ h.late_ones t apart;
  none_now = h.none_now;
}

-- ---- those due in the slot are activated
pub kept_activated : {us active due active' due' : List Update} {bag : List (Timed Due)} {time : ℕ} → list_any is_active us ≡ false → AreKept us active due bag time → active' ≡ map (activated time) due → due' ≡ active →
    AreKept (map (activated time) us) active' due' bag time
kept_activated {us} {active} {due} {active'} {due'} {bag} {time} none h e f = record {
  active_ones = activated_ones time us none ∙ ap (map (activated time)) h.due_ones ∙ sym e;
  due_ones = activated_due time us ∙ sym (none_any is_active us none) ∙ h.active_ones ∙ sym f;
  late_ones = λ t apart. activated_later time t us apart ∙ h.late_ones t apart;
  none_now = h.none_now;
}

-- ---- time goes on
none_due : {us active due : List Update} {bag : List (Timed Due)} {now : ℕ} → AreKept us active due bag now → list_any (is_due now) us ≡ false → filter (is_due now) us ≡ []
none_due {us} {now = now} h none = none_any (is_due now) us none

late_at : {us active due : List Update} {bag : List (Timed Due)} {now : ℕ} → AreKept us active due bag now → list_any (is_due now) us ≡ false → (t : ℕ) → filter (is_due t) us ≡ lates (events_at t bag)
late_at {us} {active} {due} {bag} {now} h none t = elim (cases_eq now t) [
  | inl here ↦ subst (λ n. filter (is_due n) us ≡ lates (events_at n bag)) here (none_due h none ∙ sym h.none_now)
  | inr other ↦ h.late_ones t other
]

pub kept_advanced : {us active due due' : List Update} {bag bag' : List (Timed Due)} {now : ℕ} (time : ℕ) → AreKept us active due bag now → list_any (is_due now) us ≡ false →
    due' ≡ due ++ lates (events_at time bag) → events_at time bag' ≡ [] → ((t : ℕ) → time ≢ t → events_at t bag' ≡ events_at t bag) → AreKept us active due' bag' time
kept_advanced {us} {active} {due} {due'} {bag} {bag'} {now} time h none new taken others = record {
  active_ones = h.active_ones;
  due_ones = late_at h none time ∙ sym (new ∙ ap (λ l. l ++ lates (events_at time bag)) (sym h.due_ones ∙ none_due h none));
  late_ones = λ t apart. late_at h none t ∙ sym (ap lates (others t apart));
  none_now = ap lates taken;
}

due_elsewhere : (time t : ℕ) → time ≢ t → (u : Update) → is_due t u ≡ true → not_due time u ≡ true
due_elsewhere time t apart u h =
    let due : u.due ≡ t = eqb-true u.due t (and_right (not u.active) (nat_eq u.due t) h) in
    not_other (is_due time u) (away (not u.active) (nat_eq u.due time) (ne_eqb u.due time (λ e. apart (sym e ∙ due))))

-- without memory those that are due then are lost
pub kept_lost : {us active due due' : List Update} {bag bag' : List (Timed Due)} {now : ℕ} (time : ℕ) → AreKept us active due bag now → list_any (is_due now) us ≡ false →
    due' ≡ [] → events_at time bag' ≡ [] → ((t : ℕ) → time ≢ t → events_at t bag' ≡ events_at t bag) → AreKept (filter (not_due time) us) active due' bag' time
kept_lost {us} {active} {due} {due'} {bag} {bag'} {now} time h none new taken others = record {
  active_ones = filter_within is_active (not_due time) (λ u e. not_other (is_due time u) (active_not_due time u e)) us ∙ h.active_ones;
  due_ones = filter_out (is_due time) (not_due time) (λ u e. not-true (is_due time u) e) us ∙ sym new;
  late_ones = λ t apart. filter_within (is_due t) (not_due time) (due_elsewhere time t apart) us ∙ late_at h none t ∙ sym (ap lates (others t apart));
  none_now = ap lates taken;
}
