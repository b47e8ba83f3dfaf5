-- What a run holds, and the state of the execution that it stands for.
use Rattle.std.specs.Prelude.{ℕ, ◌≡◌, Some, List, [], length, map, slice_get, get_or}
use Rattle.std.specs.declared.alloc.Global.{Global}
use Rattle.std.specs.declared.vec.Vec.{Vec}
use Rattle.vs_design.specs.declared.signal.Signal.{Signal}
use Rattle.vs_design.specs.declared.statement.EventTerm.{EventTerm}
use Rattle.vs_design.specs.InOrder.{IsStoreOf}
use Rattle.vs_design.specs.Parts.{Parts}
use Rattle.vs_process.specs.Texts.{HasControl, Text}
use Rattle.vs_run_active.specs.vs_process.specs.States.{State}
use Rattle.vs_run_active.specs.declared.process.Process.{Process}
use Rattle.vs_run_active.specs.ProcessPlaces.{GoneOn}
use Rattle.vs_run_active.specs.Timelines.{AreKept}
use Rattle.vs_run_steps.specs.vs_run_active.specs.declared.watchers.ProcessTerm.{ProcessTerm}
use Rattle.vs_run_steps.specs.vs_run_active.specs.Waiting.{places_of}
use Rattle.vs_run_steps.specs.vs_run_active.specs.Waking.{terms_at}
use Rattle.vs_run_steps.specs.vs_run_active.specs.Wakes.{AreWatched}
use Rattle.vs_run_steps.specs.Turns.{IsReached}
use Rattle.vs_run_steps.specs.vs_run_active.specs.Changes.{MarkChanges}
use Rattle.vs_run_steps.specs.declared.run.RunState.{RunState}

-- the design of a run, and the terms of its processes' event controls
pub record Plan : Type 0 where
  pub design : Parts
  pub terms : List ProcessTerm

-- what a contract sees of a run, whatever its queue is
abbrev pub Running : Type 0
Running = RunState (Unit {0})

abbrev pub running_of : {Q : Type 0} → RunState Q → Running
running_of r = record {
  alloc = r.alloc;
  design = r.design;
  terms = r.terms;
  watched = r.watched;
  regions = r.regions;
  counters = r.counters;
  calls = r.calls;
  finishing = r.finishing;
  over = r.over;
  changes = r.changes;
  woken = r.woken;
}

-- its design and its terms
abbrev pub plan_of : {Q : Type 0} → RunState Q → Plan
plan_of r = record { design = r.design.now; terms = r.terms.items }

-- the counters of each process
abbrev pub counters_of : {Q : Type 0} → RunState Q → List (List ℕ)
counters_of r = map (λ (c : Vec ℕ Global). c.items) r.counters.items

-- those of a process
abbrev pub counters_at : {Q : Type 0} → ℕ → RunState Q → List ℕ
counters_at number r = get_or (counters_of r) number []

-- the state of the execution that a run stands for
abbrev pub state_of : {Q : Type 0} → RunState Q → State
state_of r = record {
  store = r.watched.store;
  places = places_of (counters_of r) r.watched.events.processes;
  assigns = r.watched.events.assigns;
  updates = r.regions.updates;
  calls = r.calls.items;
  time = r.regions.time;
  finishing = r.finishing;
  over = r.over;
}

-- the marks of what has changed in it since the last slot
abbrev pub marks_of : {Q : Type 0} → RunState Q → List ℕ
marks_of r = r.watched.marks.items

-- the script of a process is of a design with these signals and has so many counters, and its event controls have the terms that are listed for them
pub record IsScriptIn (signals : List Signal) (terms : List ProcessTerm) (number : ℕ) (c : Text) (counters : List ℕ) : Type 0 where
  pub signals_are : c.signals ≡ signals
  pub counted : length counters ≡ c.counters
  pub listed : (n : ℕ) (ts : List EventTerm) → HasControl c n ts → ts ≡ terms_at number n terms

pub record AreScriptsIn (signals : List Signal) (terms : List ProcessTerm) (counters : List (List ℕ)) (processes : List Process) : Type 0 where
  pub each : (number : ℕ) (p : Process) → slice_get processes number ≡ Some p →
      IsScriptIn signals terms number p.script.now (get_or counters number [])

-- the parts of a run agree with each other, and with the design and the terms of its processes' event controls
pub record PartsAgree (d : Parts) (terms : List ProcessTerm) (r : Running) : Type 0 where
  pub store : IsStoreOf d.signals r.watched.store
  pub watched : AreWatched d terms r.watched.tables r.watched.events.assigns r.watched.events.processes
  pub rows : length d.signals ≡ length r.watched.tables.rows.items
  pub kept : AreKept (state_of r).places r.regions.inactive r.regions.sleepers
  pub signals : r.regions.listed.signals ≡ d.signals
  pub counted : length (counters_of r) ≡ length r.watched.events.processes
  pub scripts : AreScriptsIn d.signals terms (counters_of r) r.watched.events.processes
  pub plan : plan_of r ≡ record { design = d; terms = terms }

abbrev pub Agrees : {Q : Type 0} → Parts → List ProcessTerm → RunState Q → Type 0
Agrees d terms r = PartsAgree d terms (running_of r)

-- so do they where the state is one to which moves of the design lead
pub record IsRunning (d : Parts) (terms : List ProcessTerm) (r : Running) : Type 0 where
  pub reached : IsReached d (state_of r)
  pub agrees : PartsAgree d terms r

abbrev pub IsRun : {Q : Type 0} → Parts → List ProcessTerm → RunState Q → Type 0
IsRun d terms r = IsRunning d terms (running_of r)

-- it is a run of a design
abbrev pub IsRunOf : {Q : Type 0} → Parts → RunState Q → Type 0
IsRunOf d r = (terms : List ProcessTerm) × IsRun d terms r

-- something was done in a run: its parts agree still, at the same time, each process is as it was or has gone on from an event control, and the
-- signals that changed are marked
pub record Keeps {Q : Type 0} (d : Parts) (terms : List ProcessTerm) (old new : RunState Q) : Type 0 where
  pub agrees : Agrees d terms new
  pub time : new.regions.time ≡ old.regions.time
  pub gone : GoneOn old.watched.events.processes new.watched.events.processes
  pub marked : MarkChanges old.watched.marks.items new.watched.marks.items old.watched.store new.watched.store
