use Rattle.vs_run_regions.specs.Regions.{without_oldest}
use Rattle.vs_run_regions.proofs.regions.Regions.next.Given as goal

abbrev pub ghost-next : goal.ghost-next
ghost-next g a = without_oldest a._by.now a.self.now.items
