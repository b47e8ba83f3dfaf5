-- What names of a scope are bound to before the values of its parameters are known.
use Rattle.std.specs.Prelude.{◌≡◌, ℕ, List}
use Rattle.vs_design.specs.declared.signal.SignalKind.{SignalKind}
use Rattle.vs_scopes.specs.vs_widths.specs.declared.bindings.Binding.{Binding}
use Rattle.vs_scopes.specs.Pieces.{Piece}
use Rattle.vs_widths.specs.Names.{meaning_of}
use Rattle.vs_scopes.specs.Parameters.{Parameter}
use Rattle.vs_scopes.specs.Ports.{ModulePort}
use Rattle.vs_scopes.specs.Declarations.{Bindings, unsized_of, valueless_of, early_names}
use Rattle.vs_elab_constants.specs.declared.early.SignalNames.{SignalNames}
use Rattle.vs_elab_constants.specs.declared.early.SignalNames.TheVariants.{Kinds, Valueless}

-- what the name of a signal of a kind is bound to
abbrev pub bound_by : SignalNames → SignalKind → Binding
bound_by Kinds = unsized_of
bound_by Valueless = valueless_of

-- the names of these parameters, ports and pieces, each bound as the first of that name, and signals so
abbrev pub AreEarly : (SignalKind → Binding) → List Parameter → List ModulePort → List Piece → Bindings → Type 0
AreEarly bound xs ports ps names = (n : List ℕ) → meaning_of names n ≡ meaning_of (early_names bound xs ports ps) n
