-- The processes of a run by what they wait for.
use Rattle.std.proofs.Common.{◌≡◌, ◌≢◌, ℕ, zero, suc, ◌≤◌, ◌==◌, ◌||◌, ◌<◌, ◌⊎◌, ◌↔◌, IsTrue, inl, inr, min, Bool, true, false, if◌then◌else◌, Option, Some, None, List, [], ◌∷◌, ◌++◌, map, length, slice_get, slice_set, refl, sym, ◌∙◌, ap, subst, arith}
use Rattle.std.specs.List.{list_any}
use Rattle.std.proofs.lemmas.Bool.{eqb-true, eq-eqb, ne_eqb, cases_lt, cases_eq, false≢true}
use Rattle.vs_time_wheel.specs.declared.timing.Timed.{Timed}
use Rattle.vs_time_wheel.specs.Bag.{events_at, least_time, SameBag}
use Rattle.vs_time_wheel.proofs.Bags.{IsLeast, least_time-from, events_at-append, events_at-here, events_at-apart}
use Rattle.vs_design.specs.declared.statement.Statement.{Statement}
use Rattle.vs_process.specs.declared.gait.Gait.{Gait}
use Rattle.vs_process.specs.declared.gait.Gait.TheVariants.{Fresh, Woken}
use Rattle.vs_process.specs.Places.{Place, Todo, going, sleeping, inactive, waiting, ended, active_at, is_going, is_inactive, start_place, flat}
use Rattle.vs_process.proofs.ProcessLists.{set_same}
use Rattle.vs_process.specs.Executions.{if_some, earlier, next_wake}
use Rattle.vs_process.specs.States.{roused, woken_at, due_of}
use Rattle.vs_design.specs.vs_logic4.proofs.Basics.{set_twice}
use Rattle.vs_run_active.specs.ListCounts.{is_number, names, Lists}
use Rattle.vs_run_active.specs.Timelines.{sleeps_until, AreKept, AreKeptBut}
use Rattle.vs_run_active.specs.Triggers.{changed_all}
use Rattle.vs_run_active.proofs.ListCountLemmas.{set_itself, is_itself, lists_same, lists_new, lists_map, lists_none, visited}
use Rattle.vs_run_active.proofs.ProcessPlacesLemmas.{active_still}

-- ---- what a place waits for

active_sleeps : (gait : Gait) (time : ℕ) (todo : Todo) → sleeps_until time (active_at gait todo) ≡ false
active_sleeps gait time [] = refl
active_sleeps gait time (i ∷ rest) = refl

pub going_inactive : (x : Place) → is_going x ≡ true → is_inactive x ≡ false
going_inactive (going gait todo) h = refl
going_inactive _ h = cc

pub going_sleeps : (x : Place) → is_going x ≡ true → (time : ℕ) → sleeps_until time x ≡ false
going_sleeps (going gait todo) h time = refl
going_sleeps _ h time = cc

pub roused_inactive : (x : Place) → is_inactive (roused x) ≡ false
roused_inactive (inactive todo) = active_still Woken todo
roused_inactive (going gait todo) = refl
roused_inactive (sleeping due todo) = refl
roused_inactive (waiting terms todo) = refl
roused_inactive ended = refl

pub roused_sleeps : (time : ℕ) (x : Place) → sleeps_until time (roused x) ≡ sleeps_until time x
roused_sleeps time (inactive todo) = active_sleeps Woken time todo
roused_sleeps time (going gait todo) = refl
roused_sleeps time (sleeping due todo) = refl
roused_sleeps time (waiting terms todo) = refl
roused_sleeps time ended = refl

pub roused_stays : (x : Place) → is_inactive x ≡ false → roused x ≡ x
roused_stays (inactive todo) h = cc
roused_stays (going gait todo) h = refl
roused_stays (sleeping due todo) h = refl
roused_stays (waiting terms todo) h = refl
roused_stays ended h = refl

pub woken_stays : (time : ℕ) (x : Place) → sleeps_until time x ≡ false → woken_at time x ≡ x
woken_stays time (sleeping due todo) h = ap (λ (b : Bool). if b then active_at Woken todo else sleeping due todo) h
woken_stays time (going gait todo) h = refl
woken_stays time (inactive todo) h = refl
woken_stays time (waiting terms todo) h = refl
woken_stays time ended h = refl

pub woken_sleeps : (time : ℕ) (x : Place) → sleeps_until time (woken_at time x) ≡ false
woken_sleeps time (sleeping due todo) = by_test (due == time) refl
  where
    by_test : (b : Bool) → (due == time) ≡ b → sleeps_until time (if b then active_at Woken todo else sleeping due todo) ≡ false
    by_test true h = active_sleeps Woken time todo
    by_test false h = h
woken_sleeps time (going gait todo) = refl
woken_sleeps time (inactive todo) = refl
woken_sleeps time (waiting terms todo) = refl
woken_sleeps time ended = refl

pub woken_inactive : (time : ℕ) (x : Place) → is_inactive (woken_at time x) ≡ is_inactive x
woken_inactive time (sleeping due todo) = by_test (due == time)
  where
    by_test : (b : Bool) → is_inactive (if b then active_at Woken todo else sleeping due todo) ≡ false
    by_test true = active_still Woken todo
    by_test false = refl
woken_inactive time (going gait todo) = refl
woken_inactive time (inactive todo) = refl
woken_inactive time (waiting terms todo) = refl
woken_inactive time ended = refl

pub woken_others : (time : ℕ) (u : ℕ) → time ≢ u → (x : Place) → sleeps_until u (woken_at time x) ≡ sleeps_until u x
woken_others time u apart (sleeping due todo) = by_test (due == time) refl
  where
    by_test : (b : Bool) → (due == time) ≡ b → sleeps_until u (if b then active_at Woken todo else sleeping due todo) ≡ (due == u)
    by_test true h = active_sleeps Woken u todo ∙ sym (ne_eqb due u (λ e. apart (sym (eqb-true due time h) ∙ e)))
    by_test false h = refl
woken_others time u apart (going gait todo) = refl
woken_others time u apart (inactive todo) = refl
woken_others time u apart (waiting terms todo) = refl
woken_others time u apart ended = refl

due_sleeps : (x : Place) (due : ℕ) → due_of x ≡ Some due → (time : ℕ) → sleeps_until time x ≡ (due == time)
due_sleeps (sleeping u todo) due h time = let e : u ≡ due = cc in ap (λ (v : ℕ). v == time) e
due_sleeps (going gait todo) due h time = cc
due_sleeps (inactive todo) due h time = cc
due_sleeps (waiting terms todo) due h time = cc
due_sleeps ended due h time = cc

due_inactive : (x : Place) (due : ℕ) → due_of x ≡ Some due → is_inactive x ≡ false
due_inactive (sleeping u todo) due h = refl
due_inactive (going gait todo) due h = refl
due_inactive (inactive todo) due h = cc
due_inactive (waiting terms todo) due h = refl
due_inactive ended due h = refl

none_sleeps : (x : Place) → due_of x ≡ None → (time : ℕ) → sleeps_until time x ≡ false
none_sleeps (sleeping u todo) h time = cc
none_sleeps (going gait todo) h time = refl
none_sleeps (inactive todo) h time = refl
none_sleeps (waiting terms todo) h time = refl
none_sleeps ended h time = refl

inactive_sleeps : (x : Place) → is_inactive x ≡ true → (time : ℕ) → sleeps_until time x ≡ false
inactive_sleeps (inactive todo) h time = refl
inactive_sleeps (going gait todo) h time = refl
inactive_sleeps (sleeping u todo) h time = cc
inactive_sleeps (waiting terms todo) h time = refl
inactive_sleeps ended h time = refl

-- ---- what is kept

kept_start : (bodies : List Statement) (bag : List (Timed ℕ)) → bag ≡ [] → AreKept (map start_place bodies) [] bag
kept_start bodies bag none = record {
  inactive_ones = lists_none is_inactive start_place (λ s. active_still Fresh (flat s)) bodies;
  sleeping_ones = λ t. subst (λ (l : List ℕ). Lists (sleeps_until t) (map start_place bodies) l) (sym (ap (events_at t) none)) (lists_none (sleeps_until t) start_place (λ s. active_sleeps Fresh t (flat s)) bodies);
}

kept_as : {ps qs : List Place} {ns : List ℕ} {bag : List (Timed ℕ)} → ps ≡ qs → AreKept ps ns bag → AreKept qs ns bag
kept_as {ps} {qs} {ns} {bag} e h = subst (λ (l : List Place). AreKept l ns bag) e h

pub kept_started : {ps : List Place} {ns : List ℕ} {bag : List (Timed ℕ)} (bodies : List Statement) → ps ≡ map start_place bodies → ns ≡ [] → bag ≡ [] → AreKept ps ns bag
kept_started {ps} {ns} {bag} bodies all none bare = kept_as (sym all) (subst (λ (l : List ℕ). AreKept (map start_place bodies) l bag) (sym none) (kept_start bodies bag bare))

-- a place that is neither inactive nor sleeps takes that of an active process
kept_set : {ps : List Place} {ns : List ℕ} {bag : List (Timed ℕ)} → AreKept ps ns bag → (p : ℕ) (x y : Place) → slice_get ps p ≡ Some x → is_going x ≡ true → is_inactive y ≡ false → ((t : ℕ) → sleeps_until t y ≡ false) →
    AreKept (slice_set ps p y) ns bag
kept_set h p x y here active awake none = record {
  inactive_ones = lists_same h.inactive_ones p x y here (awake ∙ sym (going_inactive x active));
  sleeping_ones = λ t. lists_same (h.sleeping_ones t) p x y here (none t ∙ sym (going_sleeps x active t));
}

set_back : {A : Type 0} (xs : List A) (p : ℕ) (x y : A) → slice_get xs p ≡ Some y → slice_set (slice_set xs p x) p y ≡ xs
set_back [] p x y h = cc
set_back {A} (z ∷ zs) zero x y h = let e : z ≡ y = cc in ap (λ (v : A). v ∷ zs) (sym e)
set_back {A} (z ∷ zs) (suc p) x y h = ap (λ (l : List A). z ∷ l) (set_back zs p x y h)

pub kept_but : {ps qs : List Place} {ns : List ℕ} {bag : List (Timed ℕ)} → AreKept ps ns bag → (p : ℕ) (x y : Place) → slice_get ps p ≡ Some x → is_going x ≡ true → qs ≡ slice_set ps p y → AreKeptBut qs ns bag p
kept_but {ps} {qs} {ns} {bag} h p x y here active set = record {
  old = x;
  active = active;
  kept = kept_as (sym (ap (λ (l : List Place). slice_set l p x) set ∙ set_twice ps p y x ∙ set_itself ps p x here)) h;
}

-- it neither is inactive nor sleeps
pub kept_other : {ps : List Place} {ns : List ℕ} {bag : List (Timed ℕ)} (p : ℕ) (y : Place) → AreKeptBut ps ns bag p → slice_get ps p ≡ Some y → is_inactive y ≡ false → due_of y ≡ None → AreKept ps ns bag
kept_other {ps} p y h here awake none =
    kept_as (set_back ps p h.old y here) (kept_set h.kept p h.old y (set_same ps p y h.old here) h.active awake (none_sleeps y none))

pub same_bag : {ps : List Place} {ns : List ℕ} {bag bag' : List (Timed ℕ)} → SameBag bag' bag → AreKept ps ns bag → AreKept ps ns bag'
same_bag {ps} same h = record {
  inactive_ones = h.inactive_ones;
  sleeping_ones = λ t. subst (λ (l : List ℕ). Lists (sleeps_until t) ps l) (sym (same.at_each t)) (h.sleeping_ones t);
}

-- it is inactive, and stands in the list
pub kept_inactive : {ps qs : List Place} {ns ms : List ℕ} {bag : List (Timed ℕ)} (p : ℕ) (y : Place) → AreKeptBut ps ns bag p → slice_get ps p ≡ Some y → is_inactive y ≡ true → qs ≡ ps → ms ≡ ns ++ p ∷ [] → AreKept qs ms bag
kept_inactive {ps} {qs} {ns} {ms} {bag} p y h here is same more =
    let there = set_same ps p y h.old here in
    subst (λ (l : List ℕ). AreKept qs l bag) (sym more)
    (kept_as (set_back ps p h.old y here ∙ sym same)
    (record {
      inactive_ones = lists_new h.kept.inactive_ones p h.old y there is;
      sleeping_ones = λ t. lists_same (h.kept.sleeping_ones t) p h.old y there (inactive_sleeps y is t ∙ sym (going_sleeps h.old h.active t));
    }))

none_behind : (l : List ℕ) → l ++ [] ≡ l
none_behind [] = refl
none_behind (x ∷ l) = ap (λ (m : List ℕ). x ∷ m) (none_behind l)

-- it sleeps, and stands in the queue
pub kept_sleeping : {ps qs : List Place} {ns : List ℕ} {bag bag' : List (Timed ℕ)} (p due : ℕ) (y : Place) → AreKeptBut ps ns bag p → slice_get ps p ≡ Some y → due_of y ≡ Some due → qs ≡ ps →
    SameBag bag' (bag ++ record { time = due; event = p } ∷ []) → AreKept qs ns bag'
kept_sleeping {ps} {qs} {ns} {bag} p due y h here is same more =
    same_bag more
    (kept_as (set_back ps p h.old y here ∙ sym same)
    (record {
      inactive_ones = lists_same h.kept.inactive_ones p h.old y there (due_inactive y due is ∙ sym (going_inactive h.old h.active));
      sleeping_ones = λ t. subst (λ (l : List ℕ). Lists (sleeps_until t) (slice_set (slice_set ps p h.old) p y) l) (sym (events_at-append t bag (record { time = due; event = p } ∷ []))) (by_time t (cases_eq due t));
    }))
  where
    there : slice_get (slice_set ps p h.old) p ≡ Some h.old
    there = set_same ps p y h.old here

    by_time : (t : ℕ) → (due ≡ t) ⊎ (due ≢ t) → Lists (sleeps_until t) (slice_set (slice_set ps p h.old) p y) (events_at t bag ++ events_at t (record { time = due; event = p } ∷ []))
    by_time t (inl e) =
        subst (λ (l : List ℕ). Lists (sleeps_until t) (slice_set (slice_set ps p h.old) p y) (events_at t bag ++ l)) (sym (events_at-here t (record { time = due; event = p }) [] e))
        (lists_new (h.kept.sleeping_ones t) p h.old y there (due_sleeps y due is t ∙ eq-eqb due t e))
    by_time t (inr n) =
        subst (λ (l : List ℕ). Lists (sleeps_until t) (slice_set (slice_set ps p h.old) p y) l) (sym (ap (λ (l : List ℕ). events_at t bag ++ l) (events_at-apart t (record { time = due; event = p }) [] n) ∙ none_behind (events_at t bag)))
        (lists_same (h.kept.sleeping_ones t) p h.old y there (due_sleeps y due is t ∙ ne_eqb due t n ∙ sym (going_sleeps h.old h.active t)))

covered : (test : Place → Bool) (ps : List Place) (ns : List ℕ) → Lists test ps ns → (i : ℕ) → names ns i ≡ false → if_some test (slice_get ps i) ≡ false
covered test ps ns h i none = sym (h.each i) ∙ none

-- all inactive processes become active
pub all_roused : (ps : List Place) (ns : List ℕ) (bag : List (Timed ℕ)) → AreKept ps ns bag → changed_all roused ns ps ≡ map roused ps
all_roused ps ns bag h = visited is_inactive roused roused_stays roused_inactive ns ps (covered is_inactive ps ns h.inactive_ones)

pub kept_all_roused : {ps qs : List Place} {ns ms : List ℕ} {bag : List (Timed ℕ)} → AreKept ps ns bag → qs ≡ map roused ps → ms ≡ [] → AreKept qs ms bag
kept_all_roused {ps} {qs} {ns} {ms} {bag} h changed none =
    subst (λ (l : List ℕ). AreKept qs l bag) (sym none)
    (kept_as (sym changed)
    (record {
      inactive_ones = lists_none is_inactive roused roused_inactive ps;
      sleeping_ones = λ t. lists_map (h.sleeping_ones t) roused (roused_sleeps t);
    }))

-- numbers behind others
named_behind : (others ns : List ℕ) (i : ℕ) → names (others ++ ns) i ≡ false → names ns i ≡ false
named_behind [] ns i h = h
named_behind (n ∷ others) ns i h = named_behind others ns i (right (is_number n i) (names (others ++ ns) i) h)
  where
    right : (a b : Bool) → (a || b) ≡ false → b ≡ false
    right true b h = cc
    right false b h = h

-- all processes become active whose delay ends at a time
pub all_woken_at : (ps : List Place) (ns : List ℕ) (bag : List (Timed ℕ)) (time : ℕ) (others woken : List ℕ) → AreKept ps ns bag → woken ≡ others ++ events_at time bag → changed_all (woken_at time) woken ps ≡ map (woken_at time) ps
all_woken_at ps ns bag time others woken h e =
    visited (sleeps_until time) (woken_at time) (woken_stays time) (woken_sleeps time) woken ps
    (λ i none. covered (sleeps_until time) ps (events_at time bag) (h.sleeping_ones time) i
    (named_behind others (events_at time bag) i (sym (ap (λ (l : List ℕ). names l i) e) ∙ none)))

pub kept_all_woken : {ps qs : List Place} {ns : List ℕ} {bag bag' : List (Timed ℕ)} (time : ℕ) → AreKept ps ns bag → qs ≡ map (woken_at time) ps → events_at time bag' ≡ [] →
    ((t : ℕ) → time ≢ t → events_at t bag' ≡ events_at t bag) → AreKept qs ns bag'
kept_all_woken {ps} {qs} {ns} {bag} {bag'} time h changed taken others =
    kept_as (sym changed)
    (record {
      inactive_ones = lists_map h.inactive_ones (woken_at time) (woken_inactive time);
      sleeping_ones = λ t. by_time t (cases_eq time t);
    })
  where
    by_time : (t : ℕ) → (time ≡ t) ⊎ (time ≢ t) → Lists (sleeps_until t) (map (woken_at time) ps) (events_at t bag')
    by_time t (inl e) =
        subst (λ (v : ℕ). Lists (sleeps_until v) (map (woken_at time) ps) (events_at v bag')) e
        (subst (λ (l : List ℕ). Lists (sleeps_until time) (map (woken_at time) ps) l) (sym taken) (lists_none (sleeps_until time) (woken_at time) (woken_sleeps time) ps))
    by_time t (inr n) =
        subst (λ (l : List ℕ). Lists (sleeps_until t) (map (woken_at time) ps) l) (sym (others t n)) (lists_map (h.sleeping_ones t) (woken_at time) (woken_others time t n))

-- ---- the least time at which a delay ends

record Wakes (best : Option ℕ) (ps : List Place) (o : Option ℕ) : Type 0 where
  found : (t : ℕ) → o ≡ Some t → (best ≡ Some t) ⊎ ((i : ℕ) × (if_some (sleeps_until t) (slice_get ps i) ≡ true))
  below_best : (b : ℕ) → best ≡ Some b → (t : ℕ) × (o ≡ Some t) × (t ≤ b)
  below : (u i : ℕ) → if_some (sleeps_until u) (slice_get ps i) ≡ true → (t : ℕ) × (o ≡ Some t) × (t ≤ u)

skip : (best : Option ℕ) (x : Place) (ps : List Place) (o : Option ℕ) → ((u : ℕ) → sleeps_until u x ≡ false) → Wakes best ps o → Wakes best (x ∷ ps) o
skip best x ps o none w = record {
  found = λ t e. elim (w.found t e) [ inl h ↦ inl h | inr h ↦ inr (suc h.0, h.1) ];
  below_best = w.below_best;
  below = λ u i. at_index u i;
}
  where
    at_index : (u i : ℕ) → if_some (sleeps_until u) (slice_get (x ∷ ps) i) ≡ true → (t : ℕ) × (o ≡ Some t) × (t ≤ u)
    at_index u zero h = absurd (false≢true (sym (none u) ∙ h))
    at_index u (suc i) h = w.below u i h

sleeps : (best : Option ℕ) (due : ℕ) (todo : Todo) (ps : List Place) (o : Option ℕ) → Wakes (earlier best due) ps o → Wakes best (sleeping due todo ∷ ps) o
sleeps best due todo ps o w = record {
  found = λ t e. elim (w.found t e) [ inl h ↦ first best t h | inr h ↦ inr (suc h.0, h.1) ];
  below_best = λ b e. of_best best b e w.below_best;
  below = λ u i. at_index u i;
}
  where
    first : (best : Option ℕ) (t : ℕ) → earlier best due ≡ Some t → (best ≡ Some t) ⊎ ((i : ℕ) × (if_some (sleeps_until t) (slice_get (sleeping due todo ∷ ps) i) ≡ true))
    first None t h = let e : due ≡ t = cc in inr (0, eq-eqb due t e)
    first (Some b) t h =
        let e : min b due ≡ t = cc in
        elim (cases_lt due b) [
          | inl below ↦ let d : due ≡ t = omega arith in inr (0, eq-eqb due t d)
          | inr above ↦ let d : b ≡ t = omega arith in inl (ap Some d)
        ]

    of_best : (best : Option ℕ) (b : ℕ) → best ≡ Some b → ((m : ℕ) → earlier best due ≡ Some m → (t : ℕ) × (o ≡ Some t) × (t ≤ m)) → (t : ℕ) × (o ≡ Some t) × (t ≤ b)
    of_best None b e h = cc
    of_best (Some c) b e h = let same : c ≡ b = cc in let r = h (min c due) refl in (r.0, r.1, omega (arith, r.2))

    of_due : (best : Option ℕ) → ((m : ℕ) → earlier best due ≡ Some m → (t : ℕ) × (o ≡ Some t) × (t ≤ m)) → (t : ℕ) × (o ≡ Some t) × (t ≤ due)
    of_due None h = h due refl
    of_due (Some c) h = let r = h (min c due) refl in (r.0, r.1, omega (arith, r.2))

    at_index : (u i : ℕ) → if_some (sleeps_until u) (slice_get (sleeping due todo ∷ ps) i) ≡ true → (t : ℕ) × (o ≡ Some t) × (t ≤ u)
    at_index u zero h = let e : due ≡ u = eqb-true due u h in subst (λ (v : ℕ). (t : ℕ) × (o ≡ Some t) × (t ≤ v)) e (of_due best w.below_best)
    at_index u (suc i) h = w.below u i h

wakes : (best : Option ℕ) (ps : List Place) → Wakes best ps (next_wake best ps)
wakes best [] = record { found = λ t e. inl e; below_best = λ b e. (b, e, omega arith); below = λ u i h. absurd (false≢true h) }
wakes best (sleeping due todo ∷ ps) = sleeps best due todo ps (next_wake (earlier best due) ps) (wakes (earlier best due) ps)
wakes best (going gait todo ∷ ps) = skip best (going gait todo) ps (next_wake best ps) (λ u. refl) (wakes best ps)
wakes best (inactive todo ∷ ps) = skip best (inactive todo) ps (next_wake best ps) (λ u. refl) (wakes best ps)
wakes best (waiting terms todo ∷ ps) = skip best (waiting terms todo) ps (next_wake best ps) (λ u. refl) (wakes best ps)
wakes best (ended ∷ ps) = skip best ended ps (next_wake best ps) (λ u. refl) (wakes best ps)

names_none : (ns : List ℕ) → ((i : ℕ) → names ns i ≡ true → ⊥) → ns ≡ []
names_none [] h = refl
names_none (n ∷ ns) h = absurd (h n (ap (λ (b : Bool). b || names ns n) (is_itself n)))

least_of : (ps : List Place) (bag : List (Timed ℕ)) → ((t : ℕ) → Lists (sleeps_until t) ps (events_at t bag)) → (o : Option ℕ) → Wakes None ps o → IsLeast o bag
least_of ps bag h None w = record {
  nothing_at = λ t. names_none (events_at t bag) (λ i n. let r = w.below t i (sym ((h t).each i) ∙ n) in absurd (none_some r.0 r.1));
}
  where
    none_some : (t : ℕ) → None ≡ Some t → ⊥
    none_some t e = cc
least_of ps bag h (Some t) w = record {
  something = λ none. elim (w.found t refl) [
    | inl e ↦ absurd (none_some t e)
    | inr r ↦ absurd (false≢true (ap (λ (l : List ℕ). names l r.0) (sym none) ∙ (h t).each r.0 ∙ r.1))
  ];
  nothing_before = λ u before. names_none (events_at u bag) (λ i n. let r = w.below u i (sym ((h u).each i) ∙ n) in let e : t ≡ r.0 = some_same t r.0 r.1 in absurd (omega (arith, r.2)));
}
  where
    none_some : (t : ℕ) → None ≡ Some t → ⊥
    none_some t e = cc

    some_same : (t u : ℕ) → Some t ≡ Some u → t ≡ u
    some_same t u e = cc

-- the queue's least time is the least at which a delay ends
pub least_wake : (ps : List Place) (ns : List ℕ) (bag : List (Timed ℕ)) → AreKept ps ns bag → least_time bag ≡ next_wake None ps
least_wake ps ns bag h = least_time-from (next_wake None ps) bag (least_of ps bag h.sleeping_ones (next_wake None ps) (wakes None ps))

-- ---- whether a process is inactive

some_number : (n : ℕ) (ns : List ℕ) (ps : List Place) → Lists is_inactive ps (n ∷ ns) → true ≡ list_any is_inactive ps
some_number n ns ps h = sym (by_get ps n (sym (h.each n) ∙ ap (λ (b : Bool). b || names ns n) (is_itself n)))
  where
    or_true : (b : Bool) → (b || true) ≡ true
    or_true true = refl
    or_true false = refl

    by_get : (ps : List Place) (i : ℕ) → if_some is_inactive (slice_get ps i) ≡ true → list_any is_inactive ps ≡ true
    by_get [] i e = absurd (false≢true e)
    by_get (x ∷ ps) zero e = ap (λ (b : Bool). b || list_any is_inactive ps) e
    by_get (x ∷ ps) (suc i) e = ap (λ (b : Bool). is_inactive x || b) (by_get ps i e) ∙ or_true (is_inactive x)

no_number : (ps : List Place) → Lists is_inactive ps [] → false ≡ list_any is_inactive ps
no_number ps h = sym (by_all ps (λ i. sym (h.each i)))
  where
    by_all : (ps : List Place) → ((i : ℕ) → if_some is_inactive (slice_get ps i) ≡ false) → list_any is_inactive ps ≡ false
    by_all [] h = refl
    by_all (x ∷ ps) h = ap (λ (b : Bool). b || list_any is_inactive ps) (h zero) ∙ by_all ps (λ i. h (suc i))

abbrev pub has_number : List ℕ → Bool
has_number [] = false
has_number (n ∷ ns) = true

pub any_inactive : (ps : List Place) (ns : List ℕ) (bag : List (Timed ℕ)) → AreKept ps ns bag → has_number ns ≡ list_any is_inactive ps
any_inactive ps [] bag h = no_number ps h.inactive_ones
any_inactive ps (n ∷ ns) bag h = some_number n ns ps h.inactive_ones

pub any_number : (ns : List ℕ) (b : Bool) → IsTrue b ↔ (0 < length ns) → b ≡ has_number ns
any_number [] true h = let none : 0 < 0 = h.0 refl in absurd (omega arith)
any_number [] false h = refl
any_number (m ∷ ns) b h = h.1 (omega arith)
