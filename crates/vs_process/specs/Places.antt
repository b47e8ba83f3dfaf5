-- Where a process is.
use Rattle.std.specs.Prelude.{ℕ, Bool, true, false, List, [], ◌∷◌, ◌++◌}
use Rattle.vs_design.specs.declared.statement.Statement.{Statement, Row_of-Statement, end_of-Statement, more_of-Statement}
use Rattle.vs_design.specs.declared.statement.Statement.TheVariants.{Block'}
use Rattle.vs_design.specs.declared.statement.EventTerm.{EventTerm}
use Rattle.vs_process.specs.declared.gait.Gait.{Gait}
use Rattle.vs_process.specs.declared.gait.Gait.TheVariants.{Fresh, Woken, Inside}

-- something that a process still has to do
pub data Item : Type 0 where
  -- a statement
  perform : Statement → Item
  -- a `repeat` that has its count, with turns left (clause 9.6)
  turns : ℕ → Statement → Item

-- what a process still has to do, the next first
abbrev pub Todo : Type 0
Todo = List Item

-- the place of a process (clauses 9.7 and 11.3)
pub data Place : Type 0 where
  -- it is active
  going : Gait → Todo → Place
  -- a delay ends at this time
  sleeping : ℕ → Todo → Place
  -- it is inactive: a delay of zero
  inactive : Todo → Place
  -- it waits for one of these terms (clause 9.7.2)
  waiting : List EventTerm → Todo → Place
  -- it has nothing left to do
  ended : Place

-- a statement as what is to be done: `begin` and `end` are no steps, so blocks are opened (clause 9.8.1)
abbrev mutual
  pub flat : Statement → Todo
  flat (Block' shape all) = flat_row all
  flat s = perform s ∷ []

  pub flat_row : {m : _} → Row_of-Statement m → Todo
  flat_row end_of-Statement = []
  flat_row (more_of-Statement s rest) = flat s ++ flat_row rest

-- an active process; one with nothing left to do has ended, with no step
abbrev pub active_at : Gait → Todo → Place
active_at gait [] = ended
active_at gait (i ∷ rest) = going gait (i ∷ rest)

-- the gait behind a step
abbrev pub stepped_gait : Gait → Gait
stepped_gait Fresh = Fresh
stepped_gait Woken = Inside
stepped_gait Inside = Inside

abbrev pub is_going : Place → Bool
is_going (going gait todo) = true
is_going _ = false

abbrev pub is_inactive : Place → Bool
is_inactive (inactive todo) = true
is_inactive _ = false

-- whether a process has taken a step since its timing control ended
abbrev pub is_inside : Place → Bool
is_inside (going Inside todo) = true
is_inside _ = false

-- the place at which a process of this body starts
abbrev pub start_place : Statement → Place
start_place body = active_at Fresh (flat body)

-- what a process at a place still has to do
abbrev pub todo_of : Place → Todo
todo_of (going gait todo) = todo
todo_of (sleeping due todo) = todo
todo_of (inactive todo) = todo
todo_of (waiting terms todo) = todo
todo_of ended = []
