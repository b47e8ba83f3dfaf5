-- Processes at the start of a run.
use Rattle.std.specs.Prelude.{ℕ, ◌≡◌, List, [], ◌∷◌, length}
use Rattle.vs_design.specs.declared.statement.Statement.{Statement}
use Rattle.vs_process.specs.Places.{start_place}
use Rattle.vs_process.specs.Scripts.{StartsWith}
use Rattle.vs_process.specs.Texts.{Text}
use Rattle.vs_run_active.specs.declared.process.Process.{Process}
use Rattle.vs_run_active.specs.ProcessPlaces.{IsWaitOf, place_in}

-- a process is at the start of a script
pub record IsStarted (c : Text) (p : Process) : Type 0 where
  pub script : p.script.now ≡ c
  pub place : (body : Statement) (counters : List ℕ) → StartsWith c body → place_in p counters ≡ start_place body
  pub waits : IsWaitOf c p.wait

-- processes are, one of each script in order
abbrev pub AreStarted : List Text → List Process → Type 0
AreStarted [] [] = Unit {0}
AreStarted [] (p ∷ ps) = ⊥
AreStarted (c ∷ cs) [] = ⊥
AreStarted (c ∷ cs) (p ∷ ps) = IsStarted c p × AreStarted cs ps

-- scripts have so many counters, one list of them each in order
abbrev pub AreCounted : List Text → List (List ℕ) → Type 0
AreCounted [] [] = Unit {0}
AreCounted [] (k ∷ ks) = ⊥
AreCounted (c ∷ cs) [] = ⊥
AreCounted (c ∷ cs) (k ∷ ks) = (length k ≡ c.counters) × AreCounted cs ks
