-- Terms of event controls by the signals that they name.
use Rattle.std.specs.Prelude.{ℕ, ◌≡◌, ◌<◌, List, [], ◌∷◌, ◌++◌, get_or, length, if◌then◌else◌}
use Rattle.vs_design.specs.Stores.{changed_at}
use Rattle.vs_run_active.specs.declared.watchers.ProcessTerm.{ProcessTerm}
use Rattle.vs_run_active.specs.Watchers.{names}

-- those of some terms that name a signal, in their order
abbrev pub named : ℕ → List ProcessTerm → List ProcessTerm
named signal [] = []
named signal (t ∷ ts) = if names signal t then t ∷ named signal ts else named signal ts

-- lists with one term more, in that of the signal that it names
abbrev pub noted : ProcessTerm → List (List ProcessTerm) → List (List ProcessTerm)
noted t lists = changed_at (λ list. list ++ t ∷ []) t.term.range.signal lists

abbrev pub all_noted : List ProcessTerm → List (List ProcessTerm) → List (List ProcessTerm)
all_noted [] lists = lists
all_noted (t ∷ ts) lists = all_noted ts (noted t lists)

-- for each of so many signals a list of the terms that name it
pub record AreBySignal (terms : List ProcessTerm) (signals : ℕ) (lists : List (List ProcessTerm)) : Type 0 where
  pub all : length lists ≡ signals
  pub each : (signal : ℕ) → signal < signals → get_or lists signal [] ≡ named signal terms
