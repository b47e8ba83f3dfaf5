-- What opens scopes, by what it refers to.
use Rattle.std.specs.Prelude.{ℕ, List, [], ◌∷◌, Option, None, Some, map}
use Rattle.std.specs.Borrow.{Bor}
use Rattle.vs_scopes.specs.vs_widths.specs.declared.constants.Const.{Const}
use Rattle.vs_scopes.specs.Reads.{referred, read_block}
use Rattle.vs_scopes.specs.Declarations.{Use}
use Rattle.vs_scopes.specs.Generate.{Inner, instance, generated, named}
use Rattle.vs_scopes.specs.scopes_passes.Names.{read_title}
use Rattle.vs_elab_constants.specs.declared.opening.Use.{Use as FoundUse}
use Rattle.vs_elab_constants.specs.declared.opening.Inner.{Inner as FoundInner}
use Rattle.vs_elab_constants.specs.declared.opening.Inner.TheVariants as f

-- an instance, by what it refers to
abbrev pub read_use : FoundUse → Use
read_use u = record { of = u.of.now; overrides = referred u.overrides; name = u.name.now; ports = u.ports.now }

-- a genvar with its value, where there is one
abbrev pub read_constant : Option (Bor (List ℕ) × Const) → List (List ℕ × Const)
read_constant None = []
read_constant (Some p) = (p.0.now, p.1) ∷ []

-- what opens a scope, by what it refers to
abbrev pub read_inner : FoundInner → Inner
read_inner (f.Instance u) = instance (read_use u)
read_inner (f.Generated place n c xs) = generated place (read_title n) (read_constant c) xs.now
read_inner (f.Named b) = named (read_block b)

abbrev pub read_inners : List FoundInner → List Inner
read_inners xs = map read_inner xs
