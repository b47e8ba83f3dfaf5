-- Which processes a change of the store wakes, by what they wait for.
use Rattle.std.proofs.Common.{◌≡◌, if◌then◌else◌, refl}
use Rattle.vs_design.specs.Stores.{Store}
use Rattle.vs_eval.specs.Waking.{wake_any}
use Rattle.vs_process.specs.Places.{Place, going, sleeping, inactive, waiting, ended}
use Rattle.vs_process.specs.States.{terms_of, triggered, wakened}

-- a process becomes active where a change wakes one of the terms that it waits for, and otherwise stays as it is
pub wakened-triggered : (old new : Store) (place : Place) → wakened old new place ≡ (if wake_any (terms_of place) old new then triggered place else place)
wakened-triggered old new (waiting terms todo) = refl
wakened-triggered old new (going gait todo) = refl
wakened-triggered old new (sleeping due todo) = refl
wakened-triggered old new (inactive todo) = refl
wakened-triggered old new ended = refl
