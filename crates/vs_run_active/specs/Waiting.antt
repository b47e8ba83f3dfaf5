-- Which event controls processes wait for.
use Rattle.std.specs.Prelude.{ℕ, ◌≡◌, Bool, Some, List, [], ◌∷◌, slice_get}
use Rattle.vs_process.specs.Places.{Place}
use Rattle.vs_run_active.specs.declared.process.Process.{Process}
use Rattle.vs_run_active.specs.declared.process.Wait.{Wait}
use Rattle.vs_run_active.specs.declared.process.Wait.TheVariants.{Terms}
use Rattle.vs_run_active.specs.declared.watchers.ProcessTerm.{ProcessTerm}
use Rattle.vs_run_active.specs.ProcessPlaces.{place_in, waits_at}
use Rattle.vs_run_active.specs.Waking.{terms_at}

-- whether a process waits for the event control of a number
abbrev pub waits_for : Process → ℕ → Bool
waits_for x control = waits_at control x.wait

-- where processes are, each with counters of its own
abbrev pub places_of : List (List ℕ) → List Process → List Place
places_of counters [] = []
places_of [] (x ∷ xs) = place_in x [] ∷ places_of [] xs
places_of (c ∷ counters) (x ∷ xs) = place_in x c ∷ places_of counters xs

-- a process that waits for an event control waits for the terms that are listed for it
abbrev pub IsWaiting : List ProcessTerm → ℕ → Wait → Type 0
IsWaiting terms i (Terms n ts) = ts.now ≡ terms_at i n terms
IsWaiting terms i _ = Unit {0}

-- each of some processes does
pub record AreWaiting (terms : List ProcessTerm) (xs : List Process) : Type 0 where
  pub each : (i : ℕ) (x : Process) → slice_get xs i ≡ Some x → IsWaiting terms i x.wait
