-- What a well formed design drives: constant places, no bit twice, in an order.
use Rattle.std.proofs.Common.{◌≡◌, Option, Some, None, List, map, refl}
use Rattle.vs_design.specs.Parts.{Parts}
use Rattle.vs_design.specs.Stores.{Store, put}
use Rattle.vs_design.specs.Writes.{Write}
use Rattle.vs_process.specs.Places.{Place}
use Rattle.vs_process.specs.States.{State, AssignState, touched, wakened, written_after}
use Rattle.vs_process.specs.Threads.{store_after}
use Rattle.vs_process.proofs.Assigns.{DrivesApart}

-- continuous assignments: they drive constant places, no bit twice
pub record DrivesWell (d : Parts) : Type 0 where
  pub places : DrivesApart d

-- the places of processes behind a step that may write
abbrev pub places_after_write : Store → Option Write → List Place → List Place
places_after_write store None places = places
places_after_write store (Some w) places = map (wakened store (put store w)) places

-- the continuous assignments behind a step that may write
abbrev pub assigns_after_write : Store → Option Write → List AssignState → List AssignState
assigns_after_write store None assigns = assigns
assigns_after_write store (Some w) assigns = map (touched store (put store w)) assigns

-- a state behind a step that may write, written out
pub behind_is : (s : State) (o : Option Write) →
    written_after s o ≡ record s { store = store_after s.store o; places = places_after_write s.store o s.places; assigns = assigns_after_write s.store o s.assigns }
behind_is s None = refl
behind_is s (Some w) = refl
