-- Processes run alone.
use Rattle.std.specs.Prelude.{ℕ, zero, suc, ◌≡◌, Bool, true, false, Option, Some, None}
use Rattle.vs_design.specs.declared.statement.Statement.{Statement}
use Rattle.vs_design.specs.Stores.{Store}
use Rattle.vs_rules.specs.vs_process.specs.Changes.{store_after}
use Rattle.vs_rules.specs.vs_process.specs.Places.{Todo, flat}
use Rattle.vs_rules.specs.vs_process.specs.Steps.{Next, on, after, wait, step}

-- a process that has come to an event control: what it has to do after it, and the store there
pub record Arrival : Type 0 where
  pub todo : Todo
  pub store : Store

abbrev pub arrives : Next → (Todo → Option Arrival) → Store → Option Arrival
arrives (on l) rest store = rest l
arrives (after number ticks l) rest store = None
arrives (wait number terms l) rest store = Some (record { todo = l; store = store })

-- a process run alone at time 0 for so many steps at most, to its next arrival at an event control, where it arrives (clause 9.7.2)
abbrev pub arrival : ℕ → Todo → Store → Option Arrival
arrival zero k store = None
arrival (suc most) k store =
    arrives (step k store 0).next (λ l. arrival most l (store_after store (step k store 0).write)) (store_after store (step k store 0).write)

-- it has arrived here, or doesn't
abbrev pub arrived_if : Bool → Todo → Store → Option Arrival
arrived_if true k store = Some (record { todo = k; store = store })
arrived_if false k store = None

abbrev pub store_if : Bool → Store → Option Store
store_if true store = Some store
store_if false store = None

-- a process with this text, run alone on a store, has come to an event control after two steps, the store as it was
pub record ReachesControl (body : Statement) (store : Store) (behind : Todo) : Type 0 where
  pub is : arrival 2 (flat body) store ≡ arrived_if true behind store
