-- Which processes changes of words wake.
use Rattle.std.specs.Prelude.{Some, List, [], ◌∷◌, map}
use Rattle.vs_process.specs.declared.changes.Change.{Change}
use Rattle.vs_process.specs.Places.{Place}
use Rattle.vs_run_active.specs.Triggers.{triggered_by}

-- processes that the changes of some words wake, one after another
abbrev pub triggered_changes : List Change → List Place → List Place
triggered_changes [] xs = xs
triggered_changes (c ∷ cs) xs = triggered_changes cs (map (triggered_by c.signal c.word (Some c.before) (Some c.behind)) xs)
