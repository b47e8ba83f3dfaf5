use Rattle.std.proofs.Common.{ℕ, map, take}
use Rattle.std.specs.declared.vec.Vec.{Vec}
use Rattle.std.specs.declared.alloc.Global.{Global}
use Rattle.vs_scopes.specs.vs_widths.specs.declared.bindings.Binding.TheVariants.{Genvar}
use Rattle.vs_scopes.specs.Declarations.{bound_to}
use Rattle.vs_scopes.specs.scopes_passes.Declared.{AddsNames}
use Rattle.vs_elab_constants.proofs.early.add_genvar_names.Given as goal

abbrev pub invariant-loop-name : goal.invariant-loop-name
invariant-loop-name l = AddsNames l.fn.names l.names (bound_to Genvar (map (λ (n : Vec ℕ Global). n.items) (take l.name-index l.list)))
