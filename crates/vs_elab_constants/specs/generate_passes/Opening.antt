-- What the functions on what opens scopes answer.
use Rattle.std.specs.Prelude.{ℕ, Bool, false, is_none, List, [], ◌∷◌, Option, map}
use Rattle.vs_syntax.specs.declared.tree.ModuleItem.{ModuleItem}
use Rattle.vs_scopes.specs.vs_widths.specs.declared.constants.Const.{Const}
use Rattle.vs_scopes.specs.declared.faults.Reason.{Reason}
use Rattle.vs_scopes.specs.declared.faults.Reason.TheVariants.{Unnamed}
use Rattle.vs_scopes.specs.Generate.{Inner, generated, genvar_number, name_of_block}

-- why a block has no name
abbrev pub nameless_fault : List (List ℕ) → ℕ → Option (List ℕ) → Reason → Bool
nameless_fault names k name Unnamed = is_none (name_of_block names k name)
nameless_fault names k name r = false

-- what a turn of the loop at a place generates: a block of this name and of these items, where the genvar has this value
abbrev pub turn_block : ℕ → List ℕ → List ℕ → List ModuleItem → Const → Inner
turn_block place name genvar xs c = generated place (record { name = name; turn = genvar_number c }) ((genvar, c) ∷ []) xs

abbrev pub turn_blocks : ℕ → List ℕ → List ℕ → List ModuleItem → List Const → List Inner
turn_blocks place name genvar xs cs = map (turn_block place name genvar xs) cs
