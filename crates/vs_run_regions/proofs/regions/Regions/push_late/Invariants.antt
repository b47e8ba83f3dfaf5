use Rattle.std.proofs.Common.{◌∷◌, ◌++◌, []}
use Rattle.vs_run_regions.proofs.regions.Regions.push_late.Given as goal

abbrev pub ghost-next : goal.ghost-next
ghost-next g a = a.self.now.items ++ a._by.now ∷ []
