-- Who writes a root, and when.
use Rattle.std.proofs.Common.{◌≡◌, ℕ, zero, suc, ◌+◌, ◌<◌, ◌==◌, ◌⊎◌, true, false, Option, Some, None, List, [], ◌∷◌, map, get_or, slice_get, refl, sym, ◌∙◌, ap, subst, inl, inr}
use Rattle.std.proofs.lemmas.Bool.{cond_both, false≢true, false_from_ne_true, or_cases, or_right}
use Rattle.std.proofs.lemmas.Option.{get_or_from_slice_get}
use Rattle.vs_independence.specs.vs_process.specs.vs_eval.specs.Waking.{wake_any}
use Rattle.vs_design.specs.Parts.{Parts}
use Rattle.vs_design.specs.Stores.{Store}
use Rattle.vs_design.specs.WellFormed.{WellFormed}
use Rattle.vs_design.specs.Writes.{names}
use Rattle.vs_process.specs.declared.gait.Gait.{Gait}
use Rattle.vs_process.specs.declared.gait.Gait.TheVariants.{Woken}
use Rattle.vs_process.specs.Nexts.{erased, erased_next}
use Rattle.vs_process.specs.Places.{Todo, Place, going, sleeping, inactive, waiting, ended, active_at, stepped_gait, is_going, todo_of}
use Rattle.vs_process.specs.Steps.{Next, on, after, wait, step}
use Rattle.vs_independence.specs.vs_process.specs.declared.moves.Grain.{Grain}
use Rattle.vs_independence.specs.vs_process.specs.declared.moves.Move.{Move}
use Rattle.vs_independence.specs.vs_process.specs.declared.moves.Move.TheVariants.{Step, Evaluate, Propagate, Make, Rouse, Activate, EndSlot}
use Rattle.vs_independence.specs.vs_process.specs.States.{AssignState, Update, start, place_after_step, roused, woken_at, wakened, performed, stepped, evaluate, propagate, propagate_value, make, without, activated}
use Rattle.vs_independence.specs.vs_process.specs.Executions.{after as reached, Legal}
use Rattle.std.proofs.lemmas.Map.Keys.{any_passes_from_place as at_any}
use Rattle.vs_independence.specs.vs_process.proofs.Times.{enabled_of}
use Rattle.vs_rules.specs.vs_process.specs.Threads.{any_names}
use Rattle.vs_independence.specs.vs_process.proofs.Permitted.{some_of}
use Rattle.vs_rules.specs.vs_process.proofs.Threads.{is_stopped}
use Rattle.vs_rules.specs.Points.{Point, first_todo, nexts_by}
use Rattle.vs_rules.proofs.Points.{by_goes, step_goes}
use Rattle.vs_rules.specs.Claims.{Claims, IsWriter, IsSecond, IsRoot, is_wide}
use Rattle.vs_rules.specs.Paths.{PathBy, begins, goes, is_zero_time, IsPoint, IsSlot0, IsLate, WritesNow, WritesLater}
use Rattle.vs_rules.specs.Rules.{IsSoundRoot, NeverLater}
use Rattle.vs_rules.specs.Claims.{blocking}
use Rattle.vs_design.specs.vs_logic4.specs.declared.digit.Digit.{Digit}
use Rattle.vs_rules.specs.Verdict.{Keeping}
use Rattle.vs_independence.proofs.Boundary.{IsSteady, holds_after}
use Rattle.vs_independence.proofs.Beginning.{IsBeginning, start_begins}
use Rattle.vs_independence.proofs.RulesFire.{zero_less}
use Rattle.vs_independence.proofs.Firing.{one_writer}
use Rattle.vs_rules.proofs.Texts.{writes_now, writes_later}
use Rattle.vs_independence.proofs.Walks.{Leads, from_wide, late_on, late_behind, made_cases, point_on}
use Rattle.vs_independence.proofs.Words.{step_later}

-- ---- where a process can be, whatever its kind

-- at a slot-0 point at time 0, or behind a control
abbrev pub LedAt : Parts → Claims → ℕ → ℕ → Todo → Type 0
LedAt d c i time k = IsPoint d i k × (((time ≡ 0) × IsSlot0 d (is_wide c) i k) ⊎ IsLate d i k)

abbrev pub Led : Parts → Claims → ℕ → ℕ → Place → Type 0
Led d c i time (going gait k) = LedAt d c i time (erased k)
Led d c i time (inactive k) = LedAt d c i time (erased k)
Led d c i time (sleeping due k) = IsPoint d i (erased k) × IsLate d i (erased k)
Led d c i time (waiting terms k) = IsPoint d i (erased k) × IsLate d i (erased k)
Led d c i time ended = Unit {0}

led_active : (d : Parts) (c : Claims) (i time : ℕ) (gait : Gait) (k : Todo) → LedAt d c i time (erased k) → Led d c i time (active_at gait k)
led_active d c i time gait [] h = tt
led_active d c i time gait (x ∷ rest) h = h

led_on : (d : Parts) (c : Claims) (i time : ℕ) (k l : Todo) → LedAt d c i time k → Leads c k (on l) → LedAt d c i time l
led_on d c i time k l (p, inl (z, s)) g = (point_on d i k (on l) p (by_goes (is_wide c) k (on l) g), inl (z, goes k l (on l) s g refl refl))
led_on d c i time k l (p, inr late) g = let way = by_goes (is_wide c) k (on l) g in (point_on d i k (on l) p way, inr (late_on d i k (on l) late way))

led_behind : (d : Parts) (c : Claims) (i time : ℕ) (gait : Gait) (k : Todo) (next : Next) → LedAt d c i time (erased k) → Leads c (erased k) (erased_next next) → Led d c i time (place_after_step (going gait k) time next)
led_behind d c i time gait k (on l) h g = led_active d c i time (stepped_gait gait) l (led_on d c i time (erased k) (erased l) h g)
led_behind d c i time gait k (after number ticks l) h g =
    let way = by_goes (is_wide c) (erased k) (after number ticks (erased l)) g in
    let p = point_on d i (erased k) (after number ticks (erased l)) h.0 way in
    let late = late_behind d i (erased k) (after number ticks (erased l)) h.0 way refl in
    cond_both (ticks == 0) (inactive l) (sleeping (time + ticks) l) (Led d c i time) (λ e. (p, inr late)) (λ e. (p, late))
led_behind d c i time gait k (wait number terms l) h g =
    let way = by_goes (is_wide c) (erased k) (wait number terms (erased l)) g in
    (point_on d i (erased k) (wait number terms (erased l)) h.0 way, late_behind d i (erased k) (wait number terms (erased l)) h.0 way refl)

led_rouses : (d : Parts) (c : Claims) (i time : ℕ) (p : Place) → Led d c i time p → Led d c i time (roused p)
led_rouses d c i time (going gait k) h = h
led_rouses d c i time (inactive k) h = led_active d c i time Woken k h
led_rouses d c i time (sleeping due k) h = h
led_rouses d c i time (waiting terms k) h = h
led_rouses d c i time ended h = h

led_wakes : (d : Parts) (c : Claims) (i time : ℕ) (old new : Store) (p : Place) → Led d c i time p → Led d c i time (wakened old new p)
led_wakes d c i time old new (going gait k) h = h
led_wakes d c i time old new (inactive k) h = h
led_wakes d c i time old new (sleeping due k) h = h
led_wakes d c i time old new ended h = h
led_wakes d c i time old new (waiting terms k) h =
    cond_both (wake_any terms old new) (active_at Woken k) (waiting terms k) (Led d c i time) (λ e. led_active d c i time Woken k (h.0, inr h.1)) (λ e. h)

led_later : (d : Parts) (c : Claims) (i time t : ℕ) (p : Place) → is_stopped p ≡ true → Led d c i time p → Led d c i t (woken_at t p)
led_later d c i time t (going gait k) still h = absurd (false≢true still)
led_later d c i time t (inactive k) still h = absurd (false≢true still)
led_later d c i time t (waiting terms k) still h = h
led_later d c i time t ended still h = h
led_later d c i time t (sleeping due k) still h =
    cond_both (due == t) (active_at Woken k) (sleeping due k) (Led d c i t) (λ e. led_active d c i t Woken k (h.0, inr h.1)) (λ e. h)

led_steady : (d : Parts) (c : Claims) (i : ℕ) → IsSteady (Led d c i)
led_steady d c i = record {
  steps = λ time gait k store h. led_behind d c i time gait k (step k store time).next h (step_goes (is_wide c) k store time);
  rouses = λ time p h. led_rouses d c i time p h;
  wakes = λ time old new p h. led_wakes d c i time old new p h;
  goes_on = λ time t p still up h. led_later d c i time t p still h;
}

led_begins : (d : Parts) (c : Claims) (i : ℕ) (p : Place) → get_or (start d).places i ended ≡ p → IsBeginning p → Led d c i 0 p
led_begins d c i (going gait k) e b =
    let first : first_todo d i ≡ erased k = ap todo_of e ∙ sym b in
    (subst (IsPoint d i) first Point.begins, inl (refl, subst (PathBy (nexts_by (is_wide c)) is_zero_time (first_todo d i)) first begins))
led_begins d c i (sleeping due k) e b = absurd b
led_begins d c i (waiting terms k) e b = absurd b
led_begins d c i (inactive k) e b = absurd b
led_begins d c i ended e b = tt

start_led : (d : Parts) (c : Claims) (i : ℕ) → Led d c i 0 (get_or (start d).places i ended)
start_led d c i = led_begins d c i (get_or (start d).places i ended) refl (start_begins d.processes i)

-- where an execution finds a process that is active
pub led_at : (grain : Grain) (d : Parts) (c : Claims) (moves : List Move) → Legal grain d moves → (i : ℕ) (gait : Gait) (k : Todo) → slice_get (reached d moves).places i ≡ Some (going gait k) →
    LedAt d c i (reached d moves).time (erased k)
led_at grain d c moves l i gait k is =
    subst (Led d c i (reached d moves).time) (get_or_from_slice_get (reached d moves).places i (going gait k) ended is) (holds_after grain d (Led d c i) (led_steady d c i) i (start_led d c i) moves l)

-- ---- a root

-- what the rules say of it
pub record RootOf (d : Parts) (c : Claims) (v : ℕ) : Type 0 where
  pub formed : WellFormed d
  pub rules : Keeping d c
  pub is_root : IsRoot d c v
  pub sound : IsSoundRoot d c v

-- a write of it, by the writer or by a second at a slot-0 point in the first slot
pub role_now : (d : Parts) (c : Claims) (v : ℕ) → RootOf d c v → (time j : ℕ) (k : Todo) → LedAt d c j time k → WritesNow d k v → IsWriter d c v j ⊎ (IsSecond d c v j × (time ≡ 0) × IsSlot0 d (is_wide c) j k)
role_now d c v root time j k (p, led) w = by_role ((root.rules.writers v).named j (writes_now d j k v p w)) led
  where
    by_role : IsWriter d c v j ⊎ IsSecond d c v j → ((time ≡ 0) × IsSlot0 d (is_wide c) j k) ⊎ IsLate d j k → IsWriter d c v j ⊎ (IsSecond d c v j × (time ≡ 0) × IsSlot0 d (is_wide c) j k)
    by_role (inl writer) led = inl writer
    by_role (inr second) (inl (z, s)) = inr (second, z, s)
    by_role (inr second) (inr late) = absurd ((root.rules.writers v).early j k second p (inl w) late)

-- no `<=` names it
never_later : (d : Parts) (c : Claims) (v : ℕ) → RootOf d c v → (time j : ℕ) (k : Todo) → LedAt d c j time k → WritesLater d k v → ⊥
never_later d c v root time j k (p, led) w = by_role ((root.rules.writers v).named j (writes_later d j k v p w)) led
  where
    by_role : IsWriter d c v j ⊎ IsSecond d c v j → ((time ≡ 0) × IsSlot0 d (is_wide c) j k) ⊎ IsLate d j k → ⊥
    by_role (inl writer) led =
        let mode = root.rules.modes v blocking root.sound.mode in
        let same : mode.0 ≡ j = one_writer d c root.formed v mode.0 j mode.1 writer in
        subst (NeverLater d v) same mode.2.1 k p w
    by_role (inr second) (inl (z, s)) = (root.rules.first_roots v).now j k root.is_root s w
    by_role (inr second) (inr late) = (root.rules.writers v).early j k second p (inr w) late

-- above time 0, and where the writer writes it at a slot-0 point of every version, it alone does
pub alone_now : (d : Parts) (c : Claims) (v : ℕ) → RootOf d c v → (i : ℕ) → IsWriter d c v i → (time j : ℕ) (k : Todo) → LedAt d c j time k → WritesNow d k v →
    (0 < time) ⊎ ((l : Todo) × IsSlot0 d true i l × WritesNow d l v) → (i ≡ j → ⊥) → ⊥
alone_now d c v root i writer time j k led w guard ne = by_role (role_now d c v root time j k led w) guard
  where
    by_role : IsWriter d c v j ⊎ (IsSecond d c v j × (time ≡ 0) × IsSlot0 d (is_wide c) j k) → (0 < time) ⊎ ((l : Todo) × IsSlot0 d true i l × WritesNow d l v) → ⊥
    by_role (inl other) guard = ne (one_writer d c root.formed v i j writer other)
    by_role (inr (second, z, s)) (inl up) = zero_less time up z
    by_role (inr (second, z, s)) (inr (l, first, writes)) = (root.rules.writers v).first_alone j i l second writer (from_wide (is_wide c) is_zero_time (first_todo d i) l first) writes

-- ---- no update names it

all_named : (time : ℕ) (us : List Update) (v : ℕ) → any_names (map (activated time) us) v ≡ true → any_names us v ≡ true
all_named time [] v h = h
all_named time (u ∷ us) v h = elim (or_cases (names u.what v) (any_names (map (activated time) us) v) h) [
  | inl hit ↦ rw hit refl
  | inr old ↦ or_right (names u.what v) (any_names us v) (all_named time us v old)
]

less_named : (us : List Update) (n v : ℕ) → any_names (without n us) v ≡ true → any_names us v ≡ true
less_named [] n v h = h
less_named (u ∷ us) zero v h = or_right (names u.what v) (any_names us v) h
less_named (u ∷ us) (suc n) v h = elim (or_cases (names u.what v) (any_names (without n us) v) h) [
  | inl hit ↦ rw hit refl
  | inr old ↦ or_right (names u.what v) (any_names us v) (less_named us n v old)
]

never_named : (grain : Grain) (d : Parts) (c : Claims) (v : ℕ) → RootOf d c v → (moves : List Move) → Legal grain d moves → any_names (reached d moves).updates v ≡ true → ⊥
never_named grain d c v root [] l h = false≢true h
never_named grain d c v root (Step j ∷ moves) l h =
    let s = reached d moves in
    let p = some_of is_going (slice_get s.places j) (enabled_of grain d s (Step j) l.1).1 in
    by_place (never_named grain d c v root moves l.0) p.0 p.1 p.2 (subst (λ (o : Option Place). any_names (stepped s j o).updates v ≡ true) p.1 h)
  where
    by_place : (any_names (reached d moves).updates v ≡ true → ⊥) → (p : Place) → slice_get (reached d moves).places j ≡ Some p → is_going p ≡ true → any_names (performed (reached d moves) j p (step (todo_of p) (reached d moves).store (reached d moves).time)).updates v ≡ true → ⊥
    by_place before (going gait k) is g h =
        let s = reached d moves in
        elim (made_cases s.updates j s.time (step k s.store s.time).update v h) [
          | inl new ↦ never_later d c v root s.time j (erased k) (led_at grain d c moves l.0 j gait k is) (step_later d k s.store s.time new.0 v new.1 new.2)
          | inr old ↦ before old
        ]
    by_place before (sleeping due k) is g h = absurd (false≢true g)
    by_place before (inactive k) is g h = absurd (false≢true g)
    by_place before (waiting terms k) is g h = absurd (false≢true g)
    by_place before ended is g h = absurd (false≢true g)
never_named grain d c v root (Evaluate j ∷ moves) l h = never_named grain d c v root moves l.0 (by_assign (slice_get (reached d moves).assigns j) h)
  where
    by_assign : (o : Option AssignState) → any_names (evaluate (reached d moves) j o).updates v ≡ true → any_names (reached d moves).updates v ≡ true
    by_assign None h = h
    by_assign (Some x) h = h
never_named grain d c v root (Propagate j ∷ moves) l h = never_named grain d c v root moves l.0 (by_assign (slice_get (reached d moves).assigns j) h)
  where
    by_value : (x : AssignState) (o : Option (List Digit)) → any_names (propagate_value (reached d moves) j x o).updates v ≡ true → any_names (reached d moves).updates v ≡ true
    by_value x None h = h
    by_value x (Some digits) h = h

    by_assign : (o : Option AssignState) → any_names (propagate (reached d moves) j o).updates v ≡ true → any_names (reached d moves).updates v ≡ true
    by_assign None h = h
    by_assign (Some x) h = by_value x x.pending h
never_named grain d c v root (Make j ∷ moves) l h = never_named grain d c v root moves l.0 (by_update (slice_get (reached d moves).updates j) h)
  where
    by_update : (o : Option Update) → any_names (make (reached d moves) j o).updates v ≡ true → any_names (reached d moves).updates v ≡ true
    by_update None h = h
    by_update (Some u) h = less_named (reached d moves).updates j v h
never_named grain d c v root (Rouse ∷ moves) l h = never_named grain d c v root moves l.0 h
never_named grain d c v root (Activate ∷ moves) l h = never_named grain d c v root moves l.0 (all_named (reached d moves).time (reached d moves).updates v h)
never_named grain d c v root (EndSlot ∷ moves) l h = never_named grain d c v root moves l.0 h

pub updates_miss : (grain : Grain) (d : Parts) (c : Claims) (v : ℕ) → RootOf d c v → (moves : List Move) → Legal grain d moves → (j : ℕ) (u : Update) → slice_get (reached d moves).updates j ≡ Some u → names u.what v ≡ false
updates_miss grain d c v root moves l j u is =
    false_from_ne_true (names u.what v) (λ hit. never_named grain d c v root moves l (at_any (λ (x : Update). names x.what v) (reached d moves).updates j u is hit))
