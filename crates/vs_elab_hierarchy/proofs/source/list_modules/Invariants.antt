use Rattle.std.proofs.Common.{◌≡◌, true, take}
use Rattle.vs_elab_hierarchy.specs.passes.Entering.{Lists}
use Rattle.vs_elab_hierarchy.proofs.SourceLemmas.{permits_all}
use Rattle.vs_elab_hierarchy.proofs.source.list_modules.Given as goal

abbrev pub invariant-loop-module : goal.invariant-loop-module
invariant-loop-module l = record { lists : Lists (take l.module-index l.modules) l.names; nets : l.nets ≡ permits_all true (take l.module-index l.modules) }
