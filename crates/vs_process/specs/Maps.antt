-- Maps of texts: the points of a text as numbered places.
use Rattle.std.specs.Prelude.{ℕ, ◌≡◌, Bool, Some, List, [], ◌∷◌, map, if◌then◌else◌}
use Rattle.vs_design.specs.declared.statement.Statement.{Statement}
use Rattle.vs_design.specs.declared.statement.Statement.TheOpen.{Statement-F}
use Rattle.vs_design.specs.declared.statement.Statement.TheViews.{out-Statement}
use Rattle.vs_process.specs.Places.{Item, perform, Todo}
use Rattle.vs_process.specs.Nexts.{nexts}
use Rattle.vs_process.specs.Numbers.{number_next}
use Rattle.vs_process.specs.Ways.{Pause, none, delay, event, next_by}

-- how a path goes on from a statement: all ways from it go on alike
abbrev pub statement_pause : Statement-F Statement → Pause
statement_pause (Statement-F.Delay n ticks body) = delay n ticks.count
statement_pause (Statement-F.Event n terms body) = event n terms.items
statement_pause _ = none

abbrev pub todo_pause : Todo → Pause
todo_pause (perform s ∷ rest) = statement_pause (out-Statement s)
todo_pause _ = none

-- a map of a text: what is left to be done at each place, the place where it starts, for each place that of what is left without its first item, and
-- the places where each leads
pub record IsMap (first : Todo) (at : ℕ → Todo) (start : ℕ) (behind : ℕ → ℕ) (tos : ℕ → List ℕ) : Type 0 where
  pub start_is : at start ≡ first
  pub ways : (p : ℕ) → nexts (at p) ≡ map (λ t. next_by (todo_pause (at p)) (at t)) (tos p)
  pub rest : (p : ℕ) (i : Item) (rest : Todo) → at p ≡ i ∷ rest → at (behind p) ≡ rest
  -- from the end it goes no further
  pub stays : (p : ℕ) → at p ≡ [] → at (behind p) ≡ []
  -- two places where statements are done and that are one point are one place
  pub one : (p q n : ℕ) → number_next (at p) ≡ Some n → at p ≡ at q → p ≡ q

-- where a place leads, where the ways from it go on so
abbrev pub tos_by : (Pause → Bool) → (ℕ → Todo) → (ℕ → List ℕ) → ℕ → List ℕ
tos_by passes at tos p = if passes (todo_pause (at p)) then tos p else []

-- where a place leads, and the place of what is left without its first item
abbrev pub steps : (ℕ → ℕ) → (ℕ → List ℕ) → ℕ → List ℕ
steps behind tos p = behind p ∷ tos p
