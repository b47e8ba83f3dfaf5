-- Which processes wait for changes of a signal.
use Rattle.std.specs.Prelude.{ℕ, suc, List, [], ◌∷◌, if◌then◌else◌}
use Rattle.vs_design.specs.declared.design.Process.{Process}
use Rattle.vs_design.specs.Statements.{listens}

-- of processes that are numbered from a number on, those of which an event control names the signal
abbrev pub listeners_from : ℕ → List Process → ℕ → List ℕ
listeners_from number [] signal = []
listeners_from number (p ∷ rest) signal =
    if listens p.body signal then number ∷ listeners_from (suc number) rest signal else listeners_from (suc number) rest signal

-- the processes of which an event control names a signal, by their numbers, in design order (clause 9.7.2)
abbrev pub listeners : List Process → ℕ → List ℕ
listeners processes signal = listeners_from 0 processes signal
