use Rattle.std.proofs.Common.{length, take}
use Rattle.vs_process.specs.States.{without}
use Rattle.vs_run_regions.specs.Active.{place_of_active}
use Rattle.vs_run_regions.specs.Updates.{somes}
use Rattle.vs_run_regions.proofs.regions.Regions.take.Given as goal

abbrev pub ghost-pick : goal.ghost-pick
ghost-pick g a = without (place_of_active (length (somes (take a._by.now a._at.now.active))) a.self.now.items) a.self.now.items
