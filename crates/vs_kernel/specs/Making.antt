-- Nonblocking updates that are made.
use Rattle.std.specs.Prelude.{◌≡◌, Bool, true, false, List, [], get_or}
use Rattle.vs_design.specs.Writes.{Write}
use Rattle.vs_run_regions.specs.vs_process.specs.States.{State, written}
use Rattle.vs_run_regions.specs.declared.update.Update.{Update}
use Rattle.vs_run_regions.specs.declared.update.Update.TheVariants as u
use Rattle.vs_run_regions.specs.Updates.{bits_write}

-- what an update writes is written, where these are the writes of any kind, and it is told that something is; one that is gone writes nothing
abbrev pub WritesUpdate : Update → List Write → State → State → Bool → Type 0
WritesUpdate (u.Bits b) writes s t made = (made ≡ true) × (t ≡ written s (bits_write b))
WritesUpdate (u.Any n) writes s t made = (made ≡ true) × (t ≡ written s (get_or writes n []))
WritesUpdate u.Gone writes s t made = (made ≡ false) × (t ≡ s)
