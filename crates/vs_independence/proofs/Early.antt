-- Zero-time paths lead a process through a slot, where no event fires it; in the first slot it waits at event controls at slot-0 points alone.
use Rattle.std.proofs.Common.{◌≡◌, ℕ, zero, suc, ◌+◌, ◌==◌, Bool, true, false, None, List, [], ◌∷◌, get_or, if◌then◌else◌, refl, sym, ◌∙◌, ap, subst}
use Rattle.std.specs.List.{Contains}
use Rattle.std.proofs.lemmas.Bool.{cond_both, eqb-true}
use Rattle.vs_design.specs.declared.statement.EventTerm.{EventTerm}
use Rattle.vs_design.specs.Parts.{Parts}
use Rattle.vs_process.specs.declared.gait.Gait.{Gait}
use Rattle.vs_process.specs.declared.gait.Gait.TheVariants.{Woken}
use Rattle.vs_process.specs.Nexts.{erased, erased_next}
use Rattle.vs_process.specs.Places.{Todo, Place, going, sleeping, inactive, waiting, ended, active_at, stepped_gait}
use Rattle.vs_process.specs.Steps.{Next, on, after, wait, step}
use Rattle.vs_independence.specs.vs_process.specs.States.{State, paused, place_after_step, start}
use Rattle.vs_rules.specs.vs_process.specs.Threads.{Thread, IsTimed, found, opening, turn, turn_at, iterate}
use Rattle.vs_rules.specs.Points.{Among, Goes, first_todo, nexts_by}
use Rattle.vs_rules.proofs.Points.{by_goes, step_goes}
use Rattle.vs_rules.specs.Paths.{begins, goes, is_zero_time, PathBy, IsHeardAtStart}
use Rattle.vs_independence.proofs.Beginning.{IsBeginning, start_begins, start_first}

-- it waits behind an event control to which a zero-time path leads from a point, as version 3 has them
pub record HeardFrom (from : Todo) (terms : List EventTerm) : Type 0 where
  pub control : Todo
  pub number : ℕ
  pub behind : Todo
  pub path : PathBy (nexts_by true) is_zero_time from control
  pub way : Goes control (wait number terms behind)

-- one leads from a point to where a process stands
abbrev pub LedFrom : Todo → Place → Type 0
LedFrom from (going gait k) = PathBy (nexts_by true) is_zero_time from (erased k)
LedFrom from (inactive k) = PathBy (nexts_by true) is_zero_time from (erased k)
LedFrom from (sleeping due k) = Unit {0}
LedFrom from (waiting terms k) = HeardFrom from terms
LedFrom from ended = Unit {0}

led_active : (from : Todo) (gait : Gait) (k : Todo) → PathBy (nexts_by true) is_zero_time from (erased k) → LedFrom from (active_at gait k)
led_active from gait [] s = tt
led_active from gait (x ∷ rest) s = s

led_paused : (from : Todo) (time ticks : ℕ) (l : Todo) → ((ticks ≡ 0) → PathBy (nexts_by true) is_zero_time from (erased l)) → LedFrom from (paused time ticks l)
led_paused from time ticks l h = cond_both (ticks == 0) (inactive l) (sleeping (time + ticks) l) (LedFrom from) (λ e. h (eqb-true ticks 0 e)) (λ e. tt)

led_behind : (from : Todo) (time : ℕ) (gait : Gait) (k : Todo) (next : Next) → PathBy (nexts_by true) is_zero_time from (erased k) → Among (erased_next next) (nexts_by true (erased k)) → LedFrom from (place_after_step (going gait k) time next)
led_behind from time gait k (on l) s g = led_active from (stepped_gait gait) l (goes (erased k) (erased l) (on (erased l)) s g refl refl)
led_behind from time gait k (after number ticks l) s g =
    led_paused from time ticks l (λ e. goes (erased k) (erased l) (after number 0 (erased l)) s (subst (λ n. Among (after number n (erased l)) (nexts_by true (erased k))) e g) refl refl)
led_behind from time gait k (wait number terms l) s g = record { control = erased k; number = number; behind = erased l; path = s; way = by_goes true (erased k) (wait number terms (erased l)) g }

led_turn : (from : Todo) (i time : ℕ) (p : Place) (th : Thread) → th.place ≡ p → LedFrom from p → LedFrom from (turn_at time i p th).place
led_turn from i time (going gait k) th e h = led_behind from time gait k (step k th.view time).next h (step_goes true k th.view time)
led_turn from i time (inactive k) th e h = led_active from Woken k h
led_turn from i time (sleeping due k) th e h = subst (LedFrom from) (sym e) h
led_turn from i time (waiting terms k) th e h = subst (LedFrom from) (sym e) h
led_turn from i time ended th e h = subst (LedFrom from) (sym e) h

pub led_iterate : (from : Todo) (i time n : ℕ) (th : Thread) → LedFrom from th.place → LedFrom from (iterate n (turn time i) th).place
led_iterate from i time zero th h = h
led_iterate from i time (suc n) th h = let one = iterate n (turn time i) th in led_turn from i time one.place one refl (led_iterate from i time n th h)

-- ---- in the first slot

-- from where the process begins
abbrev FirstAt : Parts → ℕ → Place → Type 0
FirstAt d i = LedFrom (first_todo d i)

-- where all begin
first_begins : (d : Parts) (i : ℕ) (p : Place) → get_or (start d).places i ended ≡ p → IsBeginning p → FirstAt d i p
first_begins d i (going gait k) e b = subst (PathBy (nexts_by true) is_zero_time (first_todo d i)) (start_first d i gait k e) begins
first_begins d i (sleeping due k) e b = absurd b
first_begins d i (inactive k) e b = absurd b
first_begins d i (waiting terms k) e b = absurd b
first_begins d i ended e b = tt

first_found : (d : Parts) (i : ℕ) (at_block : Bool) → FirstAt d i (if at_block then ended else get_or (start d).places i ended)
first_found d i true = tt
first_found d i false = first_begins d i (get_or (start d).places i ended) refl (start_begins d.processes i)

none_waits : (d : Parts) (i : ℕ) (at_block : Bool) (terms : List EventTerm) (k : Todo) → (if at_block then ended else get_or (start d).places i ended) ≡ waiting terms k → ⊥
none_waits d i true terms k e = cc e
none_waits d i false terms k e = subst IsBeginning e (start_begins d.processes i)

-- no process waits where all begin
pub found_waits : (d : Parts) (blocks : ℕ → Bool) (b : State) → b ≡ start d → (i : ℕ) (terms : List EventTerm) (k : Todo) → found blocks b i ≡ waiting terms k → ⊥
found_waits d blocks b e i terms k is = none_waits d i (blocks i) terms k (sym (ap (λ (s : State). found blocks s i) e) ∙ is)

timed_first : (d : Parts) (blocks : ℕ → Bool) (i : ℕ) (th : Thread) → IsTimed blocks (start d) i th → FirstAt d i th.place
timed_first d blocks i th is =
    subst (λ (t : Thread). FirstAt d i t.place) is.is (led_iterate (first_todo d i) i (start d).time is.count (opening blocks (start d) i None) (first_found d i (blocks i)))

heard_first : (d : Parts) (i : ℕ) (terms : List EventTerm) (t : EventTerm) → HeardFrom (first_todo d i) terms → Contains terms t → IsHeardAtStart d i t
heard_first d i terms t h is = record { control = h.control; number = h.number; terms = terms; behind = h.behind; slot0 = h.path; goes = h.way; is = is }

-- a term that a process waits for in the first slot where no event fires it is one of an event control at a slot-0 point
pub timed_hears : (d : Parts) (blocks : ℕ → Bool) (b : State) → b ≡ start d → (i : ℕ) (th : Thread) → IsTimed blocks b i th → (terms : List EventTerm) (k : Todo) (t : EventTerm) → th.place ≡ waiting terms k → Contains terms t →
    IsHeardAtStart d i t
timed_hears d blocks b e i th is terms k t at among =
    heard_first d i terms t (subst (FirstAt d i) at (timed_first d blocks i th (subst (λ (s : State). IsTimed blocks s i th) e is))) among
