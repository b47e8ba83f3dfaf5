use Rattle.std.proofs.Common.{filter}
use Rattle.vs_run_regions.specs.Active.{not_due}
use Rattle.vs_run_regions.proofs.regions.Regions.advance.Given as goal

abbrev pub ghost-next : goal.ghost-next
ghost-next g a = filter (not_due a._by.now) a.self.now.items
