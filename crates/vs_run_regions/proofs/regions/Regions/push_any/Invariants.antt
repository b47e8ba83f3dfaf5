use Rattle.std.proofs.Common.{◌∷◌, ◌++◌, [], false}
use Rattle.vs_run_regions.proofs.regions.Regions.push_any.Given as goal

abbrev pub ghost-next : goal.ghost-next
ghost-next g a = a.self.now.items ++ record { by = a._by.now.0.0; due = a._by.now.0.1; active = false; what = a._by.now.1.now } ∷ []
