-- What holds in a slot once its updates are activated: all processes have stopped, and what the updates will make of the undriven signals is fixed.
use Rattle.std.proofs.Common.{Option, None, ◌≤◌, ◌⊎◌, cond, ltb, leb, leb-true, lt-ltb, eq-eqb, ap₂, arith, ◌≡◌, ℕ, zero, suc, ◌==◌, Bool, true, false, ◌&&◌, ◌||◌, not, Some, List, [], ◌∷◌, map, take, get_or, slice_get, slice_set, refl, sym, ◌∙◌, ap, subst, inl, inr, eqb-true}
use Rattle.std.specs.List.{list_any, list_all}
use Rattle.std.proofs.lemmas.Bool.{false_from_ne_true, cases_eq, not_from_true, or_from, cases_Bool, and_parts, and_from, or_parts, or_left, or_right, not-true, true_from_ne_false, true≢false}
use Rattle.std.proofs.lemmas.List.Folds.{list_all-map}
use Rattle.std.proofs.lemmas.Option.{get_or_from_slice_get}
use Rattle.vs_design.specs.vs_logic4.specs.declared.digit.Digit.{Digit}
use Rattle.vs_design.specs.Parts.{Parts}
use Rattle.vs_design.specs.Stores.{Store, put, is_changed}
use Rattle.vs_design.specs.Uses.{reads, writes_signal}
use Rattle.vs_design.specs.Writes.{Write, names, shares}
use Rattle.vs_design.specs.declared.write.Part.{Part}
use Rattle.vs_process.specs.vs_eval.specs.Targets.{assigned}
use Rattle.vs_process.specs.Places.{Place, ended, is_going, is_inactive}
use Rattle.vs_process.specs.Idle.{IsIdle}
use Rattle.vs_process.specs.States.{State, AssignState, Update, touched, evaluated, without, make, evaluate, propagate_value, settled, is_due, activated, place_after_step, wakened, performed}
use Rattle.vs_process.specs.Executions.{is_first}
use Rattle.vs_process.proofs.ProcessLists.{any_without, none_at, list_all_like, map_cases, set_cases}
use Rattle.std.proofs.lemmas.Map.Keys.{any_passes_from_place as at_any}
use Rattle.vs_design.specs.vs_logic4.proofs.Basics.{element_of as any_at}
use Rattle.vs_process.proofs.Stores.{put_other}
use Rattle.vs_process.proofs.Assigns.{assigned_other, AssignsSound, sound_written, sound_evaluated, sound_propagated, IsUndriven, sound_behind}
use Rattle.vs_process.proofs.WellFormed.{any_activated}
use Rattle.vs_process.specs.Edges.{IsLink, itself, through, IsRoot}
use Rattle.vs_process.specs.Threads.{Thread, any_names, store_after}
use Rattle.vs_process.proofs.ThreadStores.{put_swap, names_some, put_active, put_active_local, by, left, filter_miss}
use Rattle.vs_process.proofs.Threads.{is_stopped, stopped_from}
use Rattle.vs_process.proofs.ThreadAssigns.{DrivesWell, assigns_after_write, places_after_write}
use Rattle.vs_process.proofs.ThreadLists.{filter_none}
use Rattle.vs_design.specs.vs_logic4.proofs.Basics.{filter_some}
use Rattle.vs_process.proofs.Settle.{AllIdle}
use Rattle.vs_process.proofs.ThreadLinks.{Chain, link_driven, link_state, link_alone, link_unread}
use Rattle.vs_independence.proofs.Still.{SameEdges, asleep}
use Rattle.vs_process.proofs.Events.{block_nowhere}
use Rattle.vs_independence.proofs.Running.{WithinSlot, Apart, AllThreads, threads_of, is_waiting, Mades, Running}
use Rattle.vs_independence.proofs.Moves.{propagated_undriven, OutputsUndriven, behind_sound, length_behind, performed_is, performed_at}
use Rattle.vs_process.proofs.BlockRuns.{BlockStep}
use Rattle.vs_process.specs.BlockDrivers.{IsSource, outputs, puts_out}
use Rattle.vs_process.specs.ThreadLaws.{LiesIn}
use Rattle.vs_process.specs.Steps.{Out}
use Rattle.vs_independence.proofs.BlockSteps.{calls_same, lies_edges, source_behind, updates_same}
use Rattle.vs_design.specs.vs_logic4.proofs.Basics.{or_false}
use Rattle.std.proofs.lemmas.List.{length-map, length-set, get_or-set_other}
use Rattle.vs_process.proofs.ThreadsNamed.{named}

-- an update that is activated, or is due later
abbrev pub is_settled : ℕ → Update → Bool
is_settled time u = (u.active || ltb time u.due) && names_some u.what

-- a link of a chain has nothing to do
abbrev pub LinksIdle : Parts → (ℕ → Bool) → List AssignState → Type 0
LinksIdle d blocks assigns = (root m n : ℕ) (c : Chain d blocks root m n) (x : AssignState) → slice_get assigns c.link.number ≡ Some x → IsIdle x

-- the state `before` had no update activated, no process could go and no assignment had anything to do
pub record Making (d : Parts) (blocks : ℕ → Bool) (b s : State) : Type 0 where
  pub before : State
  pub th : ℕ → Thread
  pub runs : Running d blocks b before th
  pub still : (i : ℕ) → is_stopped (th i).place ≡ true
  pub slot : WithinSlot b s
  pub sound : AssignsSound d s.store s.assigns
  pub places : (i : ℕ) → blocks i ≡ false → get_or s.places i ended ≡ get_or before.places i ended
  pub finishing : s.finishing ≡ before.finishing
  pub calls : s.calls ≡ before.calls
  pub store : (v : ℕ) → IsSource d blocks v → slice_get (put_active s.store s.updates) v ≡ slice_get (put_active before.store (map (activated b.time) before.updates)) v
  pub rest : (v : ℕ) → by v (left s.updates) ≡ by v (left (map (activated b.time) before.updates))
  pub settled : list_all (is_settled b.time) s.updates ≡ true
  pub undriven : (v : ℕ) → any_names s.updates v ≡ true → IsSource d blocks v
  pub idle : AllIdle before.assigns
  pub edges : SameEdges d blocks before.store s.store
  pub links : LinksIdle d blocks s.assigns
  pub roots : (root : ℕ) → IsRoot d blocks root → any_names s.updates root ≡ false

-- no update of the slot names a root
pub roots_free : (d : Parts) (blocks : ℕ → Bool) (b : State) → Apart d blocks b → (updates : List Update) (th : ℕ → Thread) → AllThreads d blocks b th → Mades d blocks b updates th → (root : ℕ) → IsRoot d blocks root → any_names updates root ≡ false
roots_free d blocks b apart updates th all ma root is = elim (ma.unmade root) [
  | inl same ↦ filter_some (λ (u : Update). names u.what root) updates (same ∙ filter_none (λ (u : Update). names u.what root) b.updates (apart.now root is))
  | inr made ↦ absurd (apart.keeps.root_now made.0 root (th made.0) is (all made.0) made.1)
]

pub none_get : {A : Type 0} (p : A → Bool) (xs : List A) (i : ℕ) (x : A) → p x ≡ false → list_any p xs ≡ false → p (get_or xs i x) ≡ false
none_get p [] i x h g = h
none_get p (y ∷ xs) zero x h g = (or_parts (p y) (list_any p xs) g).0
none_get p (y ∷ xs) (suc i) x h g = none_get p xs i x h (or_parts (p y) (list_any p xs) g).1

-- where no process can go, all threads have stopped
pub all_still : (d : Parts) (blocks : ℕ → Bool) (b s : State) (th : ℕ → Thread) → Running d blocks b s th → list_any is_going s.places ≡ false → list_any is_inactive s.places ≡ false → (i : ℕ) → is_stopped (th i).place ≡ true
all_still d blocks b s th r no_goer no_rester i =
    elim (cases_Bool (blocks i)) [
      | inl is ↦ ap is_stopped (block_nowhere d blocks b i (th i) (r.stands i).is is)
      | inr other ↦ of_process other
    ]
  where
    of_process : blocks i ≡ false → is_stopped (th i).place ≡ true
    of_process other = ap is_stopped (sym (r.places i other)) ∙ stopped_from (get_or s.places i ended) (none_get is_going s.places i ended refl no_goer) (none_get is_inactive s.places i ended refl no_rester)

settled_activated : (time : ℕ) (u : Update) → is_waiting time u ≡ true → is_settled time (activated time u) ≡ true
settled_activated time u h =
    let last = and_parts (not u.active && leb time u.due) (names_some u.what) h in
    let due : time ≤ u.due = leb-true time u.due (and_parts (not u.active) (leb time u.due) last.0).1 in
    and_from (u.active || u.due == time || ltb time u.due) (names_some u.what)
    (elim (cases_eq u.due time) [
      | inl e ↦ or_left (u.active || u.due == time) (ltb time u.due) (or_right u.active (u.due == time) (eq-eqb u.due time e))
      | inr ne ↦ or_right (u.active || u.due == time) (ltb time u.due) (lt-ltb time u.due (omega (arith, due, ne)))
    ])
    last.1

all_settled : (time : ℕ) (us : List Update) → list_all (is_waiting time) us ≡ true → list_all (is_settled time) (map (activated time) us) ≡ true
all_settled time us h = list_all-map (is_settled time) (activated time) us ∙ list_all_like (is_waiting time) (λ u. is_settled time (activated time u)) us (settled_activated time) h

-- where no update is due, none is activated
pub none_activated : (time : ℕ) (us : List Update) → list_all (is_waiting time) us ≡ true → list_any (is_due time) us ≡ false → map (activated time) us ≡ us
none_activated time [] h g = refl
none_activated time (u ∷ us) h g =
    let all = and_parts (is_waiting time u) (list_all (is_waiting time) us) h in
    let any = or_parts (is_due time u) (list_any (is_due time) us) g in
    let idle : not u.active ≡ true = (and_parts (not u.active) (leb time u.due) (and_parts (not u.active && leb time u.due) (names_some u.what) all.0).0).0 in
    let inactive : u.active ≡ false = not-true u.active idle in
    let later : (u.due == time) ≡ false = sym (ap (λ b. b && (u.due == time)) idle) ∙ any.0 in
    let same : (u.active || u.due == time) ≡ u.active = or_from u.active (u.due == time) inactive later ∙ sym inactive in
    ap₂ (λ (y : Update) ys. y ∷ ys) (ap (λ a. record u { active = a }) same) (none_activated time us all.1 any.1)

-- it begins with these threads
abbrev pub GoesFrom : Parts → (ℕ → Bool) → State → State → (ℕ → Thread) → State → Type 0
GoesFrom d blocks b s th t = (n : Making d blocks b t) × (n.before ≡ s) × (n.th ≡ th)

-- the updates are activated
pub activate_makes : (d : Parts) (blocks : ℕ → Bool) (b s : State) → Apart d blocks b → (th : ℕ → Thread) → Running d blocks b s th → list_any is_going s.places ≡ false → list_any is_inactive s.places ≡ false → AllIdle s.assigns → GoesFrom d blocks b s th (record s { updates = map (activated s.time) s.updates })
activate_makes d blocks b s apart th r no_goer no_rester idle = (
  record {
    before = s;
    th = th;
    runs = r;
    still = all_still d blocks b s th r no_goer no_rester;
    slot = record { time = r.slot.time; over = r.slot.over; count = r.slot.count };
    sound = r.sound;
    places = λ i other. refl;
    finishing = refl;
    calls = refl;
    store = λ v undriven. ap (λ t. slice_get (put_active s.store (map (activated t) s.updates)) v) r.slot.time;
    rest = λ v. ap (λ t. by v (left (map (activated t) s.updates))) r.slot.time;
    settled = ap (λ t. list_all (is_settled b.time) (map (activated t) s.updates)) r.slot.time ∙ all_settled b.time s.updates r.mades.waiting;
    undriven = λ v h. r.mades.undriven v (sym (any_activated s.time s.updates v) ∙ h);
    idle = idle;
    edges = λ root v is c. refl;
    links = λ root m n c x at_x. idle c.link.number x at_x;
    roots = λ root is. any_activated s.time s.updates root ∙ roots_free d blocks b apart s.updates th (threads_of d blocks b s.store th r.stands) r.mades root is;
  },
  refl,
  refl,
)

-- a slot without updates that are due
pub none_makes : (d : Parts) (blocks : ℕ → Bool) (b s : State) → Apart d blocks b → (th : ℕ → Thread) → Running d blocks b s th → list_any is_going s.places ≡ false → list_any is_inactive s.places ≡ false → AllIdle s.assigns → list_any (is_due b.time) s.updates ≡ false → GoesFrom d blocks b s th s
none_makes d blocks b s apart th r no_goer no_rester idle none =
    let same : map (activated b.time) s.updates ≡ s.updates = none_activated b.time s.updates r.mades.waiting none in (
      record {
        before = s;
        th = th;
        runs = r;
        still = all_still d blocks b s th r no_goer no_rester;
        slot = r.slot;
        sound = r.sound;
        places = λ i other. refl;
        finishing = refl;
        calls = refl;
        store = λ v undriven. ap (λ us. slice_get (put_active s.store us) v) (sym same);
        rest = λ v. ap (λ us. by v (left us)) (sym same);
        settled = ap (list_all (is_settled b.time)) (sym same) ∙ all_settled b.time s.updates r.mades.waiting;
        undriven = r.mades.undriven;
        idle = idle;
        edges = λ root v is c. refl;
        links = λ root m n c x at_x. idle c.link.number x at_x;
        roots = roots_free d blocks b apart s.updates th (threads_of d blocks b s.store th r.stands) r.mades;
      },
      refl,
      refl,
    )

-- the same before the updates were activated
abbrev pub GoesOn : (d : Parts) (blocks : ℕ → Bool) (b s : State) → Making d blocks b s → State → Type 0
GoesOn d blocks b s m t = (n : Making d blocks b t) × (n.before ≡ m.before) × (n.th ≡ m.th)

pub unshared : (w y : Write) (v : ℕ) → shares w y ≡ false → names w v ≡ true → names y v ≡ false
unshared w y v none named =
    let found = any_at (λ (p : Part). p.signal == v) w named in
    let at_v : found.1.signal ≡ v = eqb-true found.1.signal v found.3 in
    ap (names y) (sym at_v) ∙ none_at (λ (p : Part). names y p.signal) w found.0 found.1 found.2 none

-- an activated update that shares no signal with an older one may come first
make_first : (store : Store) (us : List Update) (i : ℕ) (u : Update) (v : ℕ) → slice_get us i ≡ Some u → u.active ≡ true →
    list_any (λ (older : Update). older.active && shares older.what u.what) (take i us) ≡ false → slice_get (put_active (put store u.what) (without i us)) v ≡ slice_get (put_active store us) v
make_first store [] i u v is on first = cc
make_first store (x ∷ us) zero u v is on first =
    let e : x ≡ u = cc in
    ap (λ t. slice_get (put_active (cond t (put store u.what) store) us) v) (sym on) ∙ ap (λ (y : Update). slice_get (put_active (cond y.active (put store y.what) store) us) v) (sym e)
make_first store (x ∷ us) (suc i) u v is on first =
    let parts = or_parts (x.active && shares x.what u.what) (list_any (λ (older : Update). older.active && shares older.what u.what) (take i us)) first in
    by_active (λ a. make_first a us i u v is on parts.1) parts.0 (cases_Bool x.active)
  where
    by_active : ((a : Store) → slice_get (put_active (put a u.what) (without i us)) v ≡ slice_get (put_active a us) v) → (x.active && shares x.what u.what) ≡ false → ((x.active ≡ true) ⊎ (x.active ≡ false)) →
        slice_get (put_active (cond x.active (put (put store u.what) x.what) (put store u.what)) (without i us)) v ≡ slice_get (put_active (cond x.active (put store x.what) store) us) v
    by_active below apart (inl e) =
        let free : shares x.what u.what ≡ false = sym (ap (λ b. b && shares x.what u.what) e) ∙ apart in
        ap (λ t. slice_get (put_active (cond t (put (put store u.what) x.what) (put store u.what)) (without i us)) v) e
        ∙ put_active_local (put (put store u.what) x.what) (put (put store x.what) u.what) (without i us) v (sym (put_swap store x.what u.what v (unshared x.what u.what v free)))
        ∙ below (put store x.what)
        ∙ ap (λ t. slice_get (put_active (cond t (put store x.what) store) us) v) (sym e)
    by_active below apart (inr e) =
        ap (λ t. slice_get (put_active (cond t (put (put store u.what) x.what) (put store u.what)) (without i us)) v) e
        ∙ below store
        ∙ ap (λ t. slice_get (put_active (cond t (put store x.what) store) us) v) (sym e)

-- an activated update is none of the rest
left_without : (us : List Update) (i : ℕ) (u : Update) → slice_get us i ≡ Some u → u.active ≡ true → left (without i us) ≡ left us
left_without [] i u is on = cc
left_without (x ∷ us) zero u is on =
    let e : x ≡ u = cc in
    sym (filter_miss (λ (y : Update). not y.active) x us (ap (λ (y : Update). not y.active) e ∙ not_from_true u.active on))
left_without (x ∷ us) (suc i) u is on = ap (λ l. cond (not x.active) (x ∷ l) l) (left_without us i u is on)

all_without : {A : Type 0} (p : A → Bool) (i : ℕ) (xs : List A) → list_all p xs ≡ true → list_all p (without i xs) ≡ true
all_without p i [] h = refl
all_without p zero (x ∷ xs) h = (and_parts (p x) (list_all p xs) h).1
all_without p (suc i) (x ∷ xs) h = let parts = and_parts (p x) (list_all p xs) h in and_from (p x) (list_all p (without i xs)) parts.0 (all_without p i xs parts.1)

-- the places behind a change that leaves all signals with a root
places_still : (d : Parts) (blocks : ℕ → Bool) (b s : State) → Apart d blocks b → (m : Making d blocks b s) → (new : Store) → SameEdges d blocks s.store new → (i : ℕ) → blocks i ≡ false →
    get_or (map (wakened s.store new) s.places) i ended ≡ get_or m.before.places i ended
places_still d blocks b s apart m new same i other =
    asleep d blocks b s.store new apart same s.places m.th (threads_of d blocks b m.before.store m.th m.runs.stands) (λ k at_k. m.places k at_k ∙ m.runs.places k at_k) i other ∙ m.places i other

-- links behind such a change
links_touched : (d : Parts) (blocks : ℕ → Bool) (old new : Store) (assigns : List AssignState) → SameEdges d blocks old new →
    ((m n : ℕ) (l : IsLink d m n) (x : AssignState) → slice_get assigns l.number ≡ Some x → l.assign.source ≡ x.source) → LinksIdle d blocks assigns → LinksIdle d blocks (map (touched old new) assigns)
links_touched d blocks old new assigns same sources links root m n c y at_y =
    let x = map_cases (touched old new) assigns c.link.number y at_y in
    let idle = links root m n c x.0 x.1 in
    subst (λ (z : AssignState). IsIdle z) x.2 (
      or_from x.0.needs (list_any (is_changed old new) (reads x.0.source)) idle.0 (link_unread d m n c.link x.0.source (sources m n c.link x.0 x.1) old new (same root m c.is_root c.before)),
      idle.1,
    )

-- an activated update is made
pub make_makes : (d : Parts) (blocks : ℕ → Bool) (b s : State) → Apart d blocks b → (m : Making d blocks b s) → (i : ℕ) (u : Update) → slice_get s.updates i ≡ Some u → is_first s.updates i u ≡ true → GoesOn d blocks b s m (make s i (Some u))
make_makes d blocks b s apart m i u is first = (
  record {
    before = m.before;
    th = m.th;
    runs = m.runs;
    still = m.still;
    slot = record { time = m.slot.time; over = m.slot.over; count = length-map s.places (wakened s.store (put s.store u.what)) ∙ m.slot.count };
    sound = sound_written d s.store s.assigns u.what (λ v h. (m.undriven v (at_any (λ (x : Update). names x.what v) s.updates i u is h)).undriven) m.sound;
    places = places_still d blocks b s apart m (put s.store u.what) same;
    finishing = m.finishing;
    calls = m.calls;
    store = λ v undriven. make_first s.store s.updates i u v is active none ∙ m.store v undriven;
    rest = λ v. ap (by v) (left_without s.updates i u is active) ∙ m.rest v;
    settled = all_without (is_settled b.time) i s.updates m.settled;
    undriven = λ v h. m.undriven v (any_without (λ (x : Update). names x.what v) i s.updates h);
    idle = m.idle;
    edges = λ root v r c. same root v r c ∙ m.edges root v r c;
    links = links_touched d blocks s.store (put s.store u.what) s.assigns same (λ k n l x at_x. (link_state d s.store s.assigns m.sound k n l x at_x).1) m.links;
    roots = λ root r. false_from_ne_true (any_names (without i s.updates) root) (λ h. true≢false (sym (any_without (λ (x : Update). names x.what root) i s.updates h) ∙ m.roots root r));
  },
  refl,
  refl,
)
  where
    same : SameEdges d blocks s.store (put s.store u.what)
    same root v r (itself bit free) = put_other s.store u.what root (none_at (λ (x : Update). names x.what root) s.updates i u is (m.roots root r))
    same root v r (through k n before link bit) = put_other s.store u.what n (false_from_ne_true (names u.what n) (λ named.
        true≢false (sym (link_driven d k n link) ∙ (m.undriven n (at_any (λ (x : Update). names x.what n) s.updates i u is named)).undriven)))

    active : u.active ≡ true
    active = (and_parts u.active (not (list_any (λ (older : Update). older.active && shares older.what u.what) (take i s.updates))) first).0

    none : list_any (λ (older : Update). older.active && shares older.what u.what) (take i s.updates) ≡ false
    none = not-true (list_any (λ (older : Update). older.active && shares older.what u.what) (take i s.updates))
        (and_parts u.active (not (list_any (λ (older : Update). older.active && shares older.what u.what) (take i s.updates))) first).1

pub evaluate_makes : (d : Parts) (blocks : ℕ → Bool) → DrivesWell d → (b s : State) → (m : Making d blocks b s) → (j : ℕ) (x : AssignState) → slice_get s.assigns j ≡ Some x → x.needs ≡ true → GoesOn d blocks b s m (evaluate s j (Some x))
evaluate_makes d blocks well b s m j x is needs = (
  record {
    before = m.before;
    th = m.th;
    runs = m.runs;
    still = m.still;
    slot = record { time = m.slot.time; over = m.slot.over; count = m.slot.count };
    sound = sound_evaluated d well.places s.store s.time s.assigns j x is m.sound;
    places = m.places;
    finishing = m.finishing;
    calls = m.calls;
    store = m.store;
    rest = m.rest;
    settled = m.settled;
    undriven = m.undriven;
    idle = m.idle;
    edges = m.edges;
    links = λ root k n c y at_y. elim (set_cases s.assigns j c.link.number x (evaluated s.store s.time x) y is at_y) [
      | inl own ↦ absurd (true≢false (sym needs ∙ (m.links root k n c x (ap (slice_get s.assigns) own.0 ∙ is)).0))
      | inr other ↦ m.links root k n c y other.1
    ];
    roots = m.roots;
  },
  refl,
  refl,
)

pub propagate_makes : (d : Parts) (blocks : ℕ → Bool) → DrivesWell d → (b s : State) → Apart d blocks b → (m : Making d blocks b s) → (j : ℕ) (x : AssignState) (digits : List Digit) → slice_get s.assigns j ≡ Some x → x.pending ≡ Some digits → GoesOn d blocks b s m (propagate_value s j x (Some digits))
propagate_makes d blocks well b s apart m j x digits is waits = (
  record {
    before = m.before;
    th = m.th;
    runs = m.runs;
    still = m.still;
    slot = record { time = m.slot.time; over = m.slot.over; count = length-map s.places (wakened s.store (put s.store (assigned x.target digits s.store s.time))) ∙ m.slot.count };
    sound = sound_propagated d well.places s.store s.time s.assigns j x digits is waits m.sound;
    places = places_still d blocks b s apart m new same;
    finishing = m.finishing;
    calls = m.calls;
    store = λ v undriven. put_active_local (put s.store (assigned x.target digits s.store s.time)) s.store s.updates v (propagated_undriven d s.store s.time s.assigns m.sound j x digits is v undriven.undriven) ∙ m.store v undriven;
    rest = m.rest;
    settled = m.settled;
    undriven = m.undriven;
    idle = m.idle;
    edges = λ root v r c. same root v r c ∙ m.edges root v r c;
    links = links_touched d blocks s.store new (slice_set s.assigns j (settled x)) same
        (λ k n l z at_z. elim (set_cases s.assigns j l.number x (settled x) z is at_z) [
          | inl own ↦ (link_state d s.store s.assigns m.sound k n l x (ap (slice_get s.assigns) own.0 ∙ is)).1 ∙ ap (λ (y : AssignState). y.source) (sym own.1)
          | inr other ↦ (link_state d s.store s.assigns m.sound k n l z other.1).1
        ])
        (λ root k n c y at_y. elim (set_cases s.assigns j c.link.number x (settled x) y is at_y) [
          | inl own ↦ absurd (no_link root k n c own.0)
          | inr other ↦ m.links root k n c y other.1
        ]);
    roots = m.roots;
  },
  refl,
  refl,
)
  where
    new : Store
    new = put s.store (assigned x.target digits s.store s.time)

    no_link : (root k n : ℕ) (c : Chain d blocks root k n) → c.link.number ≡ j → ⊥
    no_link root k n c same = let no_way : None ≡ Some digits = sym (m.links root k n c x (ap (slice_get s.assigns) same ∙ is)).1 ∙ waits in cc

    same : SameEdges d blocks s.store new
    same root v r (itself bit undriven) = propagated_undriven d s.store s.time s.assigns m.sound j x digits is root undriven
    same root v r (through k n before link bit) = assigned_other s.store x.target digits s.store s.time n (false_from_ne_true (writes_signal x.target n) (λ named.
        no_link root k n (record { is_root = r; before = before; link = link; bit = bit }) (sym (link_alone d s.store s.assigns m.sound k n link j x is named))))

-- no process goes, none is inactive and none of the updates is due once more
pub stopped_at : (d : Parts) (blocks : ℕ → Bool) (b s : State) → Making d blocks b s → (i : ℕ) → blocks i ≡ false → (p : Place) → slice_get s.places i ≡ Some p → is_stopped p ≡ true
stopped_at d blocks b s m i other p is =
    let here : (m.th i).place ≡ p = sym (m.runs.places i other) ∙ sym (m.places i other) ∙ get_or_from_slice_get s.places i p ended is in
    ap is_stopped (sym here) ∙ m.still i

-- what a step of a block that may write leaves
record StillLeaves (d : Parts) (blocks : ℕ → Bool) (b s : State) (m : Making d blocks b s) (o : Option Write) : Type 0 where
  follow : (i : ℕ) → blocks i ≡ false → get_or (places_after_write s.store o s.places) i ended ≡ get_or m.before.places i ended
  edges : SameEdges d blocks s.store (store_after s.store o)
  links : LinksIdle d blocks (assigns_after_write s.store o s.assigns)

still_leaves : (d : Parts) (blocks : ℕ → Bool) → OutputsUndriven d blocks → (b s : State) → Apart d blocks b → (m : Making d blocks b s) → (k : ℕ) → blocks k ≡ true → (o : Option Write) →
    ((w : Write) → o ≡ Some w → LiesIn (outputs d k) w) → StillLeaves d blocks b s m o
still_leaves d blocks own b s apart m k is None lies = record { follow = m.places; edges = λ root v r c. refl; links = m.links }
still_leaves d blocks own b s apart m k is (Some w) lies =
    let same = lies_edges d blocks b apart own k is s.store w (lies w refl) in
    record {
      follow = places_still d blocks b s apart m (put s.store w) same;
      edges = same;
      links = links_touched d blocks s.store (put s.store w) s.assigns same (λ p n l x at_x. (link_state d s.store s.assigns m.sound p n l x at_x).1) m.links;
    }

-- a step of a block, once the updates are activated
pub block_makes : (d : Parts) (blocks : ℕ → Bool) → OutputsUndriven d blocks → (b s : State) → Apart d blocks b → (m : Making d blocks b s) → (k : ℕ) → blocks k ≡ true → (place : Place) (out : Out) → BlockStep d k out →
    GoesOn d blocks b s m (performed s k place out)
block_makes d blocks own b s apart m k is place out step_made = (
  record {
    before = m.before;
    th = m.th;
    runs = m.runs;
    still = m.still;
    slot = subst (WithinSlot b) back (record {
      time = m.slot.time;
      over = m.slot.over;
      count = length-set (places_after_write s.store out.write s.places) k (place_after_step place s.time out.next) ∙ length_behind s.store out.write s.places ∙ m.slot.count;
    });
    sound = subst (λ (t : State). AssignsSound d t.store t.assigns) back (behind_sound d s out.write (sound_behind d s out.write undriven m.sound));
    places = λ i other.
        ap (λ (t : State). get_or t.places i ended) (performed_is s k place out)
        ∙ get_or-set_other (places_after_write s.store out.write s.places) k i (place_after_step place s.time out.next) ended (λ e. true≢false (sym is ∙ ap blocks (sym e) ∙ other))
        ∙ leaves.follow i other;
    finishing = ap (λ (t : State). t.finishing) (performed_is s k place out) ∙ or_false s.finishing out.finish step_made.finish ∙ m.finishing;
    calls = ap (λ (t : State). t.calls) (performed_is s k place out) ∙ calls_same k out.call s.calls step_made.call ∙ m.calls;
    store = λ v source.
        ap (λ (t : State). slice_get (put_active t.store t.updates) v) (performed_is s k place out)
        ∙ ap (λ us. slice_get (put_active (store_after s.store out.write) us) v) (updates_same k s.time out.update s.updates step_made.update)
        ∙ put_active_local (store_after s.store out.write) s.store s.updates v (source_behind d blocks k s.store out.write is step_made.lies v source) ∙ m.store v source;
    rest = λ v. ap (λ us. by v (left us)) same_updates ∙ m.rest v;
    settled = ap (list_all (is_settled b.time)) same_updates ∙ m.settled;
    undriven = λ v h. m.undriven v (ap (λ us. any_names us v) (sym same_updates) ∙ h);
    idle = m.idle;
    edges = λ root v r c. ap (λ (t : State). slice_get t.store v) (performed_is s k place out) ∙ leaves.edges root v r c ∙ m.edges root v r c;
    links = subst (λ (t : State). LinksIdle d blocks t.assigns) back leaves.links;
    roots = λ root r. ap (λ us. any_names us root) same_updates ∙ m.roots root r;
  },
  refl,
  refl,
)
  where
    leaves : StillLeaves d blocks b s m out.write
    leaves = still_leaves d blocks own b s apart m k is out.write step_made.lies

    back : performed_at s k place out ≡ performed s k place out
    back = sym (performed_is s k place out)

    same_updates : (performed s k place out).updates ≡ s.updates
    same_updates = ap (λ (t : State). t.updates) (performed_is s k place out) ∙ updates_same k s.time out.update s.updates step_made.update

    undriven : (w : Write) → out.write ≡ Some w → IsUndriven d w
    undriven w e v named = own k v is (true_from_ne_false (puts_out d k v) (λ miss. true≢false (sym named ∙ (step_made.lies w e).signals v miss)))
