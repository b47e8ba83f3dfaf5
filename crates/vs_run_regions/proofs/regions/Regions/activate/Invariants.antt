use Rattle.std.proofs.Common.{map}
use Rattle.vs_process.specs.States.{activated}
use Rattle.vs_run_regions.proofs.regions.Regions.activate.Given as goal

abbrev pub ghost-next : goal.ghost-next
ghost-next g a = map (activated a._by.now) a.self.now.items
