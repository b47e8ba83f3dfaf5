-- Where a process can be in a slot, by the rules on residues.
use Rattle.std.proofs.Common.{◌≡◌, ℕ, zero, suc, ◌+◌, ◌%◌, ◌<◌, ◌==◌, ◌⊎◌, Bool, true, false, ◌||◌, Option, Some, None, List, [], ◌∷◌, refl, sym, ◌∙◌, ap, subst, inl, inr, arith, add-zero}
use Rattle.std.specs.List.{list_any}
use Rattle.std.proofs.lemmas.Bool.{cond_both, eqb-false, eqb-true, or_cases, false≢true}
use Rattle.std.proofs.lemmas.List.Folds.{list_any-append}
use Rattle.vs_design.specs.declared.statement.EventTerm.{EventTerm}
use Rattle.vs_design.specs.Parts.{Parts}
use Rattle.vs_design.specs.Stores.{Store}
use Rattle.vs_design.specs.Writes.{Write, names}
use Rattle.vs_process.specs.declared.gait.Gait.{Gait}
use Rattle.vs_process.specs.declared.gait.Gait.TheVariants.{Woken}
use Rattle.vs_process.specs.Landings.{todo_after}
use Rattle.vs_process.specs.Nexts.{erased, erased_next}
use Rattle.vs_process.specs.Places.{Todo, Place, going, sleeping, inactive, waiting, ended, active_at, stepped_gait}
use Rattle.vs_process.specs.Steps.{Next, on, after, wait, Out, step}
use Rattle.vs_independence.specs.vs_process.specs.States.{Update, place_after_step, paused, updates_after, roused}
use Rattle.vs_rules.specs.vs_process.specs.Threads.{Thread, log_after, turn_at, turn, iterate, writes, any_names}
use Rattle.vs_rules.specs.Points.{Among, Goes, nexts_by, Point}
use Rattle.vs_rules.proofs.Points.{by_goes, by_path, step_goes, mod_sum}
use Rattle.vs_rules.specs.Claims.{Claims, kind_of, is_wide}
use Rattle.vs_rules.specs.Paths.{PathBy, begins, goes, is_plain, is_zero_time, IsPoint, IsSlot0, IsLate, IsHot, WritesNow, WritesLater}
use Rattle.vs_rules.specs.Slots.{Ends, HasSlot}
use Rattle.vs_independence.proofs.Words.{step_now, step_later}

-- ---- points

-- a point behind another one
pub point_on : (d : Parts) (i : ℕ) (k : Todo) (next : Next) → IsPoint d i k → Goes k next → IsPoint d i (todo_after next)
point_on d i k (on l) p g = Point.goes_on k l p g
point_on d i k (after number ticks l) p g = Point.waits k l number ticks p g
point_on d i k (wait number terms l) p g = Point.listens k l number terms p g

-- a process can be at a point in a slot
pub data At (d : Parts) (c : Claims) (i time : ℕ) (k : Todo) : Type 0 where
  at_zero : time ≡ 0 → IsSlot0 d (is_wide c) i k → At d c i time k
  at_later : 0 < time → IsLate d i k → HasSlot d c i k (time % c.modulus) → At d c i time k

pub record Here (d : Parts) (c : Claims) (i time : ℕ) (k : Todo) : Type 0 where
  pub point : IsPoint d i k
  pub at : At d c i time k

-- behind a delay control of its text, of more than zero ticks, that can end then
pub record Delayed (d : Parts) (c : Claims) (i due : ℕ) (k : Todo) : Type 0 where
  pub control : Todo
  pub number : ℕ
  pub ticks : ℕ
  pub point : IsPoint d i control
  pub way : Goes control (after number ticks k)
  pub above : 0 < ticks
  pub ends : Ends d c i (kind_of d c i) (after number ticks k) (due % c.modulus)

pub record Asleep (d : Parts) (c : Claims) (i time due : ℕ) (k : Todo) : Type 0 where
  pub up : time < due
  pub delayed : Delayed d c i due k

-- it waits behind an event control of its text
pub record Heard (d : Parts) (i : ℕ) (terms : List EventTerm) (k : Todo) : Type 0 where
  pub control : Todo
  pub number : ℕ
  pub point : IsPoint d i control
  pub way : Goes control (wait number terms k)

abbrev pub IsAtPlace : Parts → Claims → ℕ → ℕ → Place → Type 0
IsAtPlace d c i time (going gait k) = Here d c i time (erased k)
IsAtPlace d c i time (inactive k) = Here d c i time (erased k)
IsAtPlace d c i time (sleeping due k) = Asleep d c i time due (erased k)
IsAtPlace d c i time (waiting terms k) = Heard d i terms (erased k)
IsAtPlace d c i time ended = Unit {0}

-- a process's controls end at the residues at which the rules say that they can
pub record Closed (d : Parts) (c : Claims) (i : ℕ) : Type 0 where
  pub from_start : (k l : Todo) (number ticks : ℕ) → IsSlot0 d (is_wide c) i k → Goes k (after number ticks l) → 0 < ticks →
      Ends d c i (kind_of d c i) (after number ticks l) (ticks % c.modulus)
  pub from_residue : (k l : Todo) (number ticks r : ℕ) → HasSlot d c i k r → Goes k (after number ticks l) →
      Ends d c i (kind_of d c i) (after number ticks l) ((r + ticks) % c.modulus)

-- ---- paths behind a step

pub late_on : (d : Parts) (i : ℕ) (k : Todo) (next : Next) → IsLate d i k → Goes k next → IsLate d i (todo_after next)
late_on d i k next h g = record { at = h.at; next = h.next; point = h.point; goes = h.goes; starts = h.starts; path = goes k (todo_after next) next h.path g refl refl }

pub late_behind : (d : Parts) (i : ℕ) (k : Todo) (next : Next) → IsPoint d i k → Goes k next → is_plain next ≡ false → IsLate d i (todo_after next)
late_behind d i k next p g pauses = record { at = k; next = next; point = p; goes = g; starts = pauses; path = begins }

-- it is a way in the version of a certificate
abbrev pub Leads : Claims → Todo → Next → Type 0
Leads c k next = Among next (nexts_by (is_wide c) k)

-- a path of version 3 is one of each version
pub from_wide : (wide : Bool) (ok : Next → Bool) (from k : Todo) → PathBy (nexts_by true) ok from k → PathBy (nexts_by wide) ok from k
from_wide true ok from k path = path
from_wide false ok from k path = by_path true ok from k path

slot_on : (d : Parts) (c : Claims) (i : ℕ) (k l : Todo) (r : ℕ) → HasSlot d c i k r → Leads c k (on l) → HasSlot d c i l r
slot_on d c i k l r h g = record { at = h.at; next = h.next; point = h.point; goes = h.goes; starts = h.starts; path = goes k l (on l) h.path g refl refl }

pub after_slot : (d : Parts) (c : Claims) (i : ℕ) (k : Todo) (next : Next) (r : ℕ) → IsPoint d i k → Goes k next → Ends d c i (kind_of d c i) next r → HasSlot d c i (todo_after next) r
after_slot d c i k next r p g e = record { at = k; next = next; point = p; goes = g; starts = e; path = begins }

pub stands_active : (d : Parts) (c : Claims) (i time : ℕ) (gait : Gait) (k : Todo) → Here d c i time (erased k) → IsAtPlace d c i time (active_at gait k)
stands_active d c i time gait [] h = tt
stands_active d c i time gait (x ∷ rest) h = h

here_on : (d : Parts) (c : Claims) (i time : ℕ) (k l : Todo) → Here d c i time k → Leads c k (on l) → Here d c i time l
here_on d c i time k l h g = record { point = point_on d i k (on l) h.point way; at = on_at h.at }
  where
    way : Goes k (on l)
    way = by_goes (is_wide c) k (on l) g

    on_at : At d c i time k → At d c i time l
    on_at (at_zero z s) = at_zero z (goes k l (on l) s g refl refl)
    on_at (at_later up late slot) = at_later up (late_on d i k (on l) late way) (slot_on d c i k l (time % c.modulus) slot g)

here_zero : (d : Parts) (c : Claims) (i : ℕ) → Closed d c i → (time number : ℕ) (k l : Todo) → Here d c i time k → Leads c k (after number 0 l) → Here d c i time l
here_zero d c i closed time number k l h g = record { point = point_on d i k (after number 0 l) h.point way; at = zero_at h.at }
  where
    way : Goes k (after number 0 l)
    way = by_goes (is_wide c) k (after number 0 l) g

    zero_at : At d c i time k → At d c i time l
    zero_at (at_zero z s) = at_zero z (goes k l (after number 0 l) s g refl refl)
    zero_at (at_later up late slot) =
        at_later up (late_on d i k (after number 0 l) late way)
        (after_slot d c i k (after number 0 l) (time % c.modulus) h.point way
        (subst (Ends d c i (kind_of d c i) (after number 0 l)) (mod_sum time 0 c.modulus ∙ ap (λ n. n % c.modulus) (add-zero time)) (closed.from_residue k l number 0 (time % c.modulus) slot way)))

-- where it can be then
pub delayed_here : (d : Parts) (c : Claims) (i time : ℕ) (k : Todo) → 0 < time → Delayed d c i time k → Here d c i time k
delayed_here d c i time k up h =
    let next = after h.number h.ticks k in
    record {
      point = point_on d i h.control next h.point h.way;
      at = at_later up (late_behind d i h.control next h.point h.way refl) (after_slot d c i h.control next (time % c.modulus) h.point h.way h.ends);
    }

asleep_after : (d : Parts) (c : Claims) (i : ℕ) → Closed d c i → (time number ticks : ℕ) (k l : Todo) → 0 < ticks → Here d c i time k → Goes k (after number ticks l) → Asleep d c i time (time + ticks) l
asleep_after d c i closed time number ticks k l up h g = record {
  up = omega (arith, up);
  delayed = record { control = k; number = number; ticks = ticks; point = h.point; way = g; above = up; ends = ends_of h.at };
}
  where
    ends_of : At d c i time k → Ends d c i (kind_of d c i) (after number ticks l) ((time + ticks) % c.modulus)
    ends_of (at_zero z s) =
        let e : ticks ≡ time + ticks = omega (arith, z) in
        subst (λ n. Ends d c i (kind_of d c i) (after number ticks l) (n % c.modulus)) e (closed.from_start k l number ticks s g up)
    ends_of (at_later later late slot) =
        subst (Ends d c i (kind_of d c i) (after number ticks l)) (mod_sum time ticks c.modulus) (closed.from_residue k l number ticks (time % c.modulus) slot g)

stands_paused : (d : Parts) (c : Claims) (i : ℕ) → Closed d c i → (time number ticks : ℕ) (k l : Todo) → Here d c i time k → Leads c k (after number ticks (erased l)) → IsAtPlace d c i time (paused time ticks l)
stands_paused d c i closed time number ticks k l h g =
    cond_both (ticks == 0) (inactive l) (sleeping (time + ticks) l) (IsAtPlace d c i time)
    (λ e. here_zero d c i closed time number k (erased l) h (subst (λ n. Leads c k (after number n (erased l))) (eqb-true ticks 0 e) g))
    (λ e. let ne : ticks ≡ 0 → ⊥ = eqb-false ticks 0 e in asleep_after d c i closed time number ticks k (erased l) (omega (arith, ne)) h (by_goes (is_wide c) k (after number ticks (erased l)) g))

stands_behind : (d : Parts) (c : Claims) (i : ℕ) → Closed d c i → (time : ℕ) (gait : Gait) (k : Todo) (next : Next) → Here d c i time (erased k) → Leads c (erased k) (erased_next next) →
    IsAtPlace d c i time (place_after_step (going gait k) time next)
stands_behind d c i closed time gait k (on l) h g = stands_active d c i time (stepped_gait gait) l (here_on d c i time (erased k) (erased l) h g)
stands_behind d c i closed time gait k (after number ticks l) h g = stands_paused d c i closed time number ticks (erased k) l h g
stands_behind d c i closed time gait k (wait number terms l) h g =
    record { control = erased k; number = number; point = h.point; way = by_goes (is_wide c) (erased k) (wait number terms (erased l)) g }

-- a process that takes a step stands where it can be
pub stands_step : (d : Parts) (c : Claims) (i : ℕ) → Closed d c i → (time : ℕ) (gait : Gait) (k : Todo) (store : Store) → Here d c i time (erased k) →
    IsAtPlace d c i time (place_after_step (going gait k) time (step k store time).next)
stands_step d c i closed time gait k store h = stands_behind d c i closed time gait k (step k store time).next h (step_goes (is_wide c) k store time)

pub stands_roused : (d : Parts) (c : Claims) (i time : ℕ) (p : Place) → IsAtPlace d c i time p → IsAtPlace d c i time (roused p)
stands_roused d c i time (going gait k) h = h
stands_roused d c i time (inactive k) h = stands_active d c i time Woken k h
stands_roused d c i time (sleeping due k) h = h
stands_roused d c i time (waiting terms k) h = h
stands_roused d c i time ended h = h

-- ---- what a thread has written is hot where it is

abbrev pub HotAt : Parts → Claims → ℕ → ℕ → Place → Type 0
HotAt d c i v (going gait k) = IsHot d (is_wide c) i v (erased k)
HotAt d c i v (inactive k) = IsHot d (is_wide c) i v (erased k)
HotAt d c i v (sleeping due k) = Unit {0}
HotAt d c i v (waiting terms k) = Unit {0}
HotAt d c i v ended = Unit {0}

hot_active : (d : Parts) (c : Claims) (i v : ℕ) (gait : Gait) (k : Todo) → IsHot d (is_wide c) i v (erased k) → HotAt d c i v (active_at gait k)
hot_active d c i v gait [] h = tt
hot_active d c i v gait (x ∷ rest) h = h

hot_paused : (d : Parts) (c : Claims) (i v time ticks : ℕ) (l : Todo) → ((ticks ≡ 0) → IsHot d (is_wide c) i v (erased l)) → HotAt d c i v (paused time ticks l)
hot_paused d c i v time ticks l h = cond_both (ticks == 0) (inactive l) (sleeping (time + ticks) l) (HotAt d c i v) (λ e. h (eqb-true ticks 0 e)) (λ e. tt)

hot_on : (d : Parts) (c : Claims) (i v : ℕ) (k : Todo) (next : Next) → IsHot d (is_wide c) i v k → Leads c k next → is_zero_time next ≡ true → IsHot d (is_wide c) i v (todo_after next)
hot_on d c i v k next h g zero_time =
    record { at = h.at; next = h.next; point = h.point; starts = h.starts; goes = h.goes; path = goes k (todo_after next) next h.path g zero_time refl }

hot_new : (d : Parts) (c : Claims) (i v : ℕ) (k : Todo) (next : Next) → IsPoint d i k → WritesNow d k v → Leads c k next → IsHot d (is_wide c) i v (todo_after next)
hot_new d c i v k next p w g = record { at = k; next = next; point = p; starts = w; goes = by_goes (is_wide c) k next g; path = begins }

hot_behind : (d : Parts) (c : Claims) (i v time : ℕ) (gait : Gait) (k : Todo) (next : Next) → IsHot d (is_wide c) i v (erased k) → Leads c (erased k) (erased_next next) → HotAt d c i v (place_after_step (going gait k) time next)
hot_behind d c i v time gait k (on l) h g = hot_active d c i v (stepped_gait gait) l (hot_on d c i v (erased k) (on (erased l)) h g refl)
hot_behind d c i v time gait k (after number ticks l) h g =
    hot_paused d c i v time ticks l (λ e. hot_on d c i v (erased k) (after number 0 (erased l)) h (subst (λ n. Leads c (erased k) (after number n (erased l))) e g) refl)
hot_behind d c i v time gait k (wait number terms l) h g = tt

hot_written : (d : Parts) (c : Claims) (i v time : ℕ) (gait : Gait) (k : Todo) (next : Next) → IsPoint d i (erased k) → WritesNow d (erased k) v → Leads c (erased k) (erased_next next) →
    HotAt d c i v (place_after_step (going gait k) time next)
hot_written d c i v time gait k (on l) p w g = hot_active d c i v (stepped_gait gait) l (hot_new d c i v (erased k) (on (erased l)) p w g)
hot_written d c i v time gait k (after number ticks l) p w g = hot_paused d c i v time ticks l (λ e. hot_new d c i v (erased k) (after number ticks (erased l)) p w g)
hot_written d c i v time gait k (wait number terms l) p w g = tt

-- ---- threads

-- a process wrote a signal where it can be
pub record Wrote (d : Parts) (c : Claims) (i time v : ℕ) : Type 0 where
  pub k : Todo
  pub here : Here d c i time k
  pub writes : WritesNow d k v

pub record Made (d : Parts) (c : Claims) (i time v : ℕ) : Type 0 where
  pub k : Todo
  pub here : Here d c i time k
  pub writes : WritesLater d k v

-- a thread is where the rules say, and so it was where it wrote
pub record Walked (d : Parts) (c : Claims) (i time : ℕ) (th : Thread) : Type 0 where
  pub stands : IsAtPlace d c i time th.place
  pub wrote : (v : ℕ) → writes th v ≡ true → Wrote d c i time v
  pub hot : (v : ℕ) → writes th v ≡ true → HotAt d c i v th.place
  pub made : (v : ℕ) → any_names th.made v ≡ true → Made d c i time v

pub log_cases : (log : List Write) (o : Option Write) (v : ℕ) → list_any (λ w. names w v) (log_after log o) ≡ true → ((w : Write) × (o ≡ Some w) × (names w v ≡ true)) ⊎ (list_any (λ w. names w v) log ≡ true)
log_cases log None v h = inr h
log_cases log (Some w) v h = elim (or_cases (names w v) (list_any (λ w. names w v) log) h) [
  | inl hit ↦ inl (w, refl, hit)
  | inr old ↦ inr old
]

pub made_cases : (us : List Update) (i time : ℕ) (o : Option (ℕ × Write)) (v : ℕ) → any_names (updates_after i time o us) v ≡ true →
    ((u : ℕ × Write) × (o ≡ Some u) × (names u.1 v ≡ true)) ⊎ (any_names us v ≡ true)
made_cases us i time None v h = inr h
made_cases us i time (Some u) v h =
    elim (or_cases (any_names us v) (names u.1 v || false) (sym (list_any-append (λ (x : Update). names x.what v) us (record { by = i; due = time + u.0; active = false; what = u.1 } ∷ [])) ∙ h)) [
      | inl old ↦ inr old
      | inr new ↦ elim (or_cases (names u.1 v) false new) [
        | inl hit ↦ inl (u, refl, hit)
        | inr never ↦ absurd (false≢true never)
      ]
    ]

walked_turn : (d : Parts) (c : Claims) (i : ℕ) → Closed d c i → (time : ℕ) (p : Place) (th : Thread) → th.place ≡ p → Walked d c i time th → Walked d c i time (turn_at time i p th)
walked_turn d c i closed time (going gait k) th e w = record {
  stands = stands_step d c i closed time gait k th.view here;
  wrote = λ v h. elim (log_cases th.log out.write v h) [
    | inl new ↦ record { k = erased k; here = here; writes = step_now d k th.view time new.0 v new.1 new.2 }
    | inr old ↦ w.wrote v old
  ];
  hot = λ v h. elim (log_cases th.log out.write v h) [
    | inl new ↦ hot_written d c i v time gait k out.next here.point (step_now d k th.view time new.0 v new.1 new.2) (step_goes (is_wide c) k th.view time)
    | inr old ↦ hot_behind d c i v time gait k out.next (subst (HotAt d c i v) e (w.hot v old)) (step_goes (is_wide c) k th.view time)
  ];
  made = λ v h. elim (made_cases th.made i time out.update v h) [
    | inl new ↦ record { k = erased k; here = here; writes = step_later d k th.view time new.0 v new.1 new.2 }
    | inr old ↦ w.made v old
  ];
}
  where
    out : Out
    out = step k th.view time

    here : Here d c i time (erased k)
    here = subst (IsAtPlace d c i time) e w.stands
walked_turn d c i closed time (inactive k) th e w = record {
  stands = stands_active d c i time Woken k (subst (IsAtPlace d c i time) e w.stands);
  wrote = w.wrote;
  hot = λ v h. hot_active d c i v Woken k (subst (HotAt d c i v) e (w.hot v h));
  made = w.made;
}
walked_turn d c i closed time (sleeping due k) th e w = w
walked_turn d c i closed time (waiting terms k) th e w = w
walked_turn d c i closed time ended th e w = w

-- a thread that has begun where it can be, with nothing written, is where it can be after any turns
pub walked_iterate : (d : Parts) (c : Claims) (i : ℕ) → Closed d c i → (time n : ℕ) (th : Thread) → th.log ≡ [] → th.made ≡ [] → IsAtPlace d c i time th.place → Walked d c i time (iterate n (turn time i) th)
walked_iterate d c i closed time zero th no_log no_made h = record {
  stands = h;
  wrote = λ v is. absurd (false≢true (subst (λ (log : List Write). list_any (λ w. names w v) log ≡ true) no_log is));
  hot = λ v is. absurd (false≢true (subst (λ (log : List Write). list_any (λ w. names w v) log ≡ true) no_log is));
  made = λ v is. absurd (false≢true (subst (λ (us : List Update). any_names us v ≡ true) no_made is));
}
walked_iterate d c i closed time (suc n) th no_log no_made h =
    let one = iterate n (turn time i) th in
    walked_turn d c i closed time one.place one refl (walked_iterate d c i closed time n th no_log no_made h)
