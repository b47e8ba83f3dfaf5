-- The declarations as they are read: nothing that is promised rests on these.
use Rattle.std.specs.Prelude.{◌≡◌, ℕ, ◌+◌, ◌-◌, ◌≤◌, true, false, Bool, List, [], ◌∷◌, ◌++◌, map, length}
use Rattle.vs_vcd_lines.specs.declared.dump.Declaration.{Declaration}
use Rattle.vs_vcd_lines.specs.declared.dump.Declaration.TheVariants as v
use Rattle.vs_vcd_reader.specs.declared.fault.VcdFault.{VcdFault}
use Rattle.vs_vcd_reader.specs.declared.fault.VcdFault.TheVariants as f
use Rattle.vs_vcd_reader.specs.declared.header.Header.{Header}
use Rattle.vs_vcd_reader.specs.Plain.{plain_declaration, plain_variable, PlainDeclaration}
use Rattle.vs_vcd_reader.specs.Layout.{widths_of}
use Rattle.vs_vcd_reader.specs.Steps.{Item, Place, Steps, Follows, declared_items, line_of, text_from}
use Rattle.vs_vcd_reader.specs.Steps.{Item as i, Place as p}

abbrev pub declared : Header → List PlainDeclaration
declared h = map plain_declaration h.declarations.items

abbrev pub header_items : Header → List Item
header_items h = declared_items 0 (declared h)

abbrev pub header_place : Header → Place
header_place h = p.Header h.widths.items h.depth h.own

-- the declarations lead to a place, with their sizes
pub record IsHeader (h : Header) : Type 0 where
  pub steps : Steps p.Top (header_items h) (header_place h)
  pub widths : h.widths.items ≡ widths_of (declared h)
  pub deep : h.depth ≤ length h.declarations.items

-- a declaration may stand where a variable may or may not
abbrev pub MayOccur : Bool → Declaration → Type 0
MayOccur own (v.Scope kind name) = Unit {0}
MayOccur own (v.Variable x) = own ≡ true
MayOccur own v.Upscope = Unit {0}

-- how many scopes are open after a declaration
abbrev pub depth_with : ℕ → Declaration → ℕ
depth_with depth (v.Scope kind name) = depth + 1
depth_with depth (v.Variable x) = depth
depth_with depth v.Upscope = depth - 1

-- whether a variable may stand after a declaration
abbrev pub own_with : Bool → Declaration → Bool
own_with own (v.Scope kind name) = true
own_with own (v.Variable x) = own
own_with own v.Upscope = false

-- what the line of a declaration says, where the code of the next variable has this number
abbrev pub item_for : ℕ → Declaration → Item
item_for number (v.Scope kind name) = i.Scope kind name.items
item_for number (v.Variable x) = i.Variable (plain_variable x) number
item_for number v.Upscope = i.Upscope

-- the declarations with one more
pub record IsExtendedBy (old : Header) (x : Declaration) (new : Header) : Type 0 where
  pub kept : IsHeader new
  pub items : header_items new ≡ header_items old ++ item_for (length old.widths.items) x ∷ []

-- the declarations with that of one more line
pub record Goes (old : Header) (line : List ℕ) (new : Header) : Type 0 where
  pub item : Item
  pub kept : IsHeader new
  pub items : header_items new ≡ header_items old ++ item ∷ []
  pub is : line ≡ line_of item

-- why a line isn't taken
abbrev pub IsHeaderFault : Header → List ℕ → VcdFault → Type 0
IsHeaderFault h line f.Memory = Unit {0}
IsHeaderFault h line f.Header = Follows (header_place h) line → ⊥
IsHeaderFault h line f.Line = ⊥
IsHeaderFault h line f.Code = ⊥
IsHeaderFault h line f.Time = ⊥
IsHeaderFault h line f.Cut = ⊥

-- the declarations that a text begins with
pub record IsBegun (text : List ℕ) (h : Header) (rest : List ℕ) : Type 0 where
  pub kept : IsHeader h
  pub is : text ≡ text_from (header_items h) ++ rest

-- all declarations, and the line after them
pub record IsClosed (text : List ℕ) (h : Header) (rest : List ℕ) : Type 0 where
  pub steps : Steps p.Top (header_items h ++ i.Definitions ∷ []) (p.Zero h.widths.items)
  pub widths : h.widths.items ≡ widths_of (declared h)
  pub is : text ≡ text_from (header_items h ++ i.Definitions ∷ []) ++ rest
