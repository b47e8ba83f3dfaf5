-- Where a process stands in its script, and what it waits for.
use Rattle.std.specs.Prelude.{ℕ, ◌≡◌, ◌==◌, ◌⊎◌, Bool, true, false, Option, Some, List, [], length, slice_get, if◌then◌else◌}
use Rattle.vs_design.specs.vs_logic4.specs.declared.digit.Digit.{Digit}
use Rattle.vs_design.specs.declared.statement.EventTerm.{EventTerm}
use Rattle.vs_process.specs.vs_eval.specs.Waking.{word_wakes}
use Rattle.vs_process.specs.declared.gait.Gait.TheVariants.{Woken}
use Rattle.vs_process.specs.Places.{Todo, Place, sleeping, inactive, waiting, active_at, is_going}
use Rattle.vs_process.specs.Scripts.{todo_on}
use Rattle.vs_process.specs.Texts.{AreApart, HasControl, Text}
use Rattle.vs_process.specs.States.{roused, woken_at}
use Rattle.vs_run_active.specs.declared.process.Process.{Process}
use Rattle.vs_run_active.specs.declared.process.Wait.{Wait}
use Rattle.vs_run_active.specs.declared.process.Wait.TheVariants.{Nothing, Until, Inactive, Terms}
use Rattle.vs_run_active.specs.Triggers.{triggered_by}

-- the place of a process by what it waits for and what it still has to do
abbrev pub place_by : Wait → Todo → Place
place_by (Nothing gait) todo = active_at gait todo
place_by (Until due) todo = sleeping due todo
place_by Inactive todo = inactive todo
place_by (Terms n terms) todo = waiting terms.now todo

-- the place of a process with these counters
abbrev pub place_in : Process → List ℕ → Place
place_in p counters = place_by p.wait (todo_on p.script.now counters p.index)

-- whether a process is active: its counters have no part in this
abbrev pub is_active : Process → Bool
is_active p = is_going (place_in p [])

-- a process waits at an event control of its text alone
abbrev pub IsWaitOf : Text → Wait → Type 0
IsWaitOf c (Terms n terms) = HasControl c n terms.now
IsWaitOf c _ = Unit {0}

-- whether a process waits at the event control of this number
abbrev pub waits_at : ℕ → Wait → Bool
waits_at n (Terms m terms) = m == n
waits_at n _ = false

-- a process that goes on
abbrev pub gone_on : Process → Process
gone_on p = record p { wait = Nothing Woken }

-- a process that goes on where it waits at the event control of this number (clause 9.7.2)
abbrev pub triggered_at : ℕ → Process → Process
triggered_at n p = if waits_at n p.wait then gone_on p else p

-- whether a process waits at an event control
abbrev pub waits_some : Wait → Bool
waits_some (Terms n terms) = true
waits_some _ = false

-- a process is as it was, or goes on where it waited at an event control
abbrev pub HasGone : Process → Option Process → Type 0
HasGone p now = (now ≡ Some p) ⊎ ((waits_some p.wait ≡ true) × (now ≡ Some (gone_on p)))

-- processes of which some that waited at event controls have gone on
pub record GoneOn (old new : List Process) : Type 0 where
  pub len : length new ≡ length old
  pub each : (i : ℕ) (p : Process) → slice_get old i ≡ Some p → HasGone p (slice_get new i)

abbrev pub roused_wait : Wait → Wait
roused_wait Inactive = Nothing Woken
roused_wait w = w

-- a process that goes on where it is inactive
abbrev pub roused_in : Process → Process
roused_in p = record p { wait = roused_wait p.wait }

abbrev pub woken_wait : ℕ → Wait → Wait
woken_wait time (Until due) = if due == time then Nothing Woken else Until due
woken_wait time w = w

-- a process that goes on where its delay ends at this time
abbrev pub woken_in : ℕ → Process → Process
woken_in time p = record p { wait = woken_wait time p.wait }

-- the change of one word of a signal wakes a process that waits at an event control where it wakes one of the control's terms: these are known by the
-- control's number
abbrev pub WakesAreDetermined : Type 0
WakesAreDetermined = (p : Process) (counters : List ℕ) (n : ℕ) (terms : List EventTerm) (signal word : ℕ) (before after : Option (List Digit)) →
    AreApart p.script.now.links → IsWaitOf p.script.now p.wait → HasControl p.script.now n terms → waits_at n p.wait ≡ true →
    triggered_by signal word before after (place_in p counters)
    ≡ place_in (if word_wakes terms signal word before after then triggered_at n p else p) counters

-- a process that waits at none of a text's event controls stays where it is, whatever changes
abbrev pub OthersStay : Type 0
OthersStay = (p : Process) (counters : List ℕ) (signal word : ℕ) (before after : Option (List Digit)) →
    ((n : ℕ) → waits_at n p.wait ≡ false) → triggered_by signal word before after (place_in p counters) ≡ place_in p counters

-- an inactive process that goes on is at the place of one (clause 11.3)
abbrev pub RousedAreDetermined : Type 0
RousedAreDetermined = (p : Process) (counters : List ℕ) → place_in (roused_in p) counters ≡ roused (place_in p counters)

-- so is one whose delay ends (clause 9.7.1)
abbrev pub WokenAreDetermined : Type 0
WokenAreDetermined = (time : ℕ) (p : Process) (counters : List ℕ) → place_in (woken_in time p) counters ≡ woken_at time (place_in p counters)

-- whether a process is active at a place is known without its counters
abbrev pub ActiveIsDetermined : Type 0
ActiveIsDetermined = (p : Process) (counters : List ℕ) → is_going (place_in p counters) ≡ is_active p
