-- What a value change dump says, as lists.
use Rattle.std.specs.Prelude.{ℕ, Option, List, map}
use Rattle.vs_design.specs.declared.design.ScopeKind.{ScopeKind}
use Rattle.vs_design.specs.declared.signal.Bounds.{Bounds}
use Rattle.vs_design.specs.declared.signal.SignalKind.{SignalKind}
use Rattle.vs_design.specs.declared.timescale.TimeSpan.{TimeSpan}
use Rattle.vs_vcd_lines.specs.declared.dump.Declaration.{Declaration}
use Rattle.vs_vcd_lines.specs.declared.dump.Declaration.TheVariants as d
use Rattle.vs_vcd_lines.specs.declared.dump.ValueChange.{ValueChange}
use Rattle.vs_vcd_lines.specs.declared.dump.Variable.{Variable as DeclaredVariable}
use Rattle.vs_vcd_reader.specs.declared.dump.Dump.{Dump}
use Rattle.vs_vcd_reader.specs.declared.dump.Moment.{Moment}

-- a variable: what it was declared as, its size in bits, its name as it is printed, and its range
pub record PlainVariable : Type 0 where
  pub kind : SignalKind
  pub width : ℕ
  pub name : List ℕ
  pub range : Option Bounds

-- a line of the declarations
pub data PlainDeclaration : Type 0 where
  Scope : ScopeKind → List ℕ → PlainDeclaration
  Variable : PlainVariable → PlainDeclaration
  Upscope : PlainDeclaration

-- a time, and the values that are written at it
pub record PlainMoment : Type 0 where
  pub time : ℕ
  pub changes : List ValueChange

-- a dump
pub record PlainDump : Type 0 where
  pub tick : TimeSpan
  pub declarations : List PlainDeclaration
  pub moments : List PlainMoment

-- ---- of values

abbrev pub plain_variable : DeclaredVariable → PlainVariable
plain_variable v = record { kind = v.kind; width = v.width; name = v.name.items; range = v.range }

abbrev pub plain_declaration : Declaration → PlainDeclaration
plain_declaration (d.Scope kind name) = PlainDeclaration.Scope kind name.items
plain_declaration (d.Variable v) = PlainDeclaration.Variable (plain_variable v)
plain_declaration d.Upscope = PlainDeclaration.Upscope

abbrev pub plain_moment : Moment → PlainMoment
plain_moment m = record { time = m.time; changes = m.changes.items }

abbrev pub plain_dump : Dump → PlainDump
plain_dump x = record {
  tick = x.tick;
  declarations = map plain_declaration x.declarations.items;
  moments = map plain_moment x.moments.items;
}
