-- The layout, line by line: nothing that is promised rests on these.
use Rattle.std.specs.Prelude.{◌≡◌, ℕ, zero, suc, ◌<◌, ◌≤◌, ◌^◌, Bool, true, false, List, [], ◌∷◌, ◌++◌, codes, length, map}
use Rattle.vs_design.specs.vs_logic4.specs.declared.digit.Digit.{Digit}
use Rattle.vs_design.specs.declared.design.ScopeKind.{ScopeKind}
use Rattle.vs_design.specs.declared.design.ScopeKind.TheVariants.{Module}
use Rattle.vs_design.specs.declared.timescale.TimeSpan.{TimeSpan}
use Rattle.vs_vcd_lines.specs.vs_vcd_writing.specs.Text.{text_of, end_of_definitions, time_line, scope_line}
use Rattle.vs_vcd_lines.specs.declared.dump.ValueChange.{ValueChange}
use Rattle.vs_vcd_lines.specs.Lines.{span_line, change_line, IsSized}
use Rattle.vs_vcd_lines.specs.Names.{IsName, IsScopeName}
use Rattle.vs_vcd_reader.specs.Plain.{PlainDeclaration, PlainDump, PlainMoment, PlainVariable}
use Rattle.vs_vcd_reader.specs.Plain.{PlainDeclaration as d}
use Rattle.vs_vcd_reader.specs.Layout.{variable_text, IsPlainVariable, IsChange, with_change}

-- ---- lines

-- what a line says
pub data Item : Type 0 where
  Tick : TimeSpan → Item
  Scope : ScopeKind → List ℕ → Item
  Variable : PlainVariable → ℕ → Item
  Upscope : Item
  Definitions : Item
  Time : ℕ → Item
  Values : Item
  Change : ValueChange → Item
  End : Item

abbrev pub line_of : Item → List ℕ
line_of (Item.Tick span) = span_line span
line_of (Item.Scope kind name) = scope_line kind name
line_of (Item.Variable v number) = variable_text v number
line_of Item.Upscope = codes "$upscope $end"
line_of Item.Definitions = end_of_definitions
line_of (Item.Time time) = time_line time
line_of Item.Values = codes "$dumpvars"
line_of (Item.Change c) = change_line c
line_of Item.End = codes "$end"

abbrev pub text_from : List Item → List ℕ
text_from items = text_of (map line_of items)

-- ---- a dump

abbrev pub declared_items : ℕ → List PlainDeclaration → List Item
declared_items number [] = []
declared_items number (d.Scope kind name ∷ ds) = Item.Scope kind name ∷ declared_items number ds
declared_items number (d.Variable v ∷ ds) = Item.Variable v number ∷ declared_items (suc number) ds
declared_items number (d.Upscope ∷ ds) = Item.Upscope ∷ declared_items number ds

abbrev pub change_items : List ValueChange → List Item
change_items cs = map Item.Change cs

abbrev pub later_items : List PlainMoment → List Item
later_items [] = []
later_items (m ∷ ms) = Item.Time m.time ∷ (change_items m.changes ++ later_items ms)

abbrev pub body_items : List PlainMoment → List Item
body_items [] = []
body_items (m ∷ ms) = Item.Time m.time ∷ Item.Values ∷ (change_items m.changes ++ (Item.End ∷ later_items ms))

abbrev pub items_of : PlainDump → List Item
items_of x = Item.Tick x.tick ∷ (declared_items 0 x.declarations ++ (Item.Definitions ∷ body_items x.moments))

-- ---- places

-- a place in a dump: before all; after the tick; among the declarations, with the sizes so far, how many scopes are open, and whether
-- a variable may stand next; before the first time, before its values, and among them; among the later times, with the values written
-- last, the last time, the least number of the next change, and whether that time has no change yet
pub data Place : Type 0 where
  Start : Place
  Top : Place
  Header : List ℕ → ℕ → Bool → Place
  Zero : List ℕ → Place
  First : List ℕ → Place
  Values : List ℕ → List (List Digit) → Place
  Later : List ℕ → List (List Digit) → ℕ → ℕ → Bool → Place

-- from one place to the next by a line
pub data Step : Place → Item → Place → Type 0 where
  tick : (span : TimeSpan) → Step Place.Start (Item.Tick span) Place.Top
  top : (name : List ℕ) → IsName name → Step Place.Top (Item.Scope Module name) (Place.Header [] 1 true)
  scope : (ws : List ℕ) (depth : ℕ) (own : Bool) (kind : ScopeKind) (name : List ℕ) → IsScopeName kind name →
      Step (Place.Header ws (suc depth) own) (Item.Scope kind name) (Place.Header ws (suc (suc depth)) true)
  variable : (ws : List ℕ) (depth : ℕ) (v : PlainVariable) → IsPlainVariable v →
      Step (Place.Header ws (suc depth) true) (Item.Variable v (length ws)) (Place.Header (ws ++ v.width ∷ []) (suc depth) true)
  upscope : (ws : List ℕ) (depth : ℕ) (own : Bool) → Step (Place.Header ws (suc depth) own) Item.Upscope (Place.Header ws depth false)
  definitions : (ws : List ℕ) (own : Bool) → Step (Place.Header ws zero own) Item.Definitions (Place.Zero ws)
  at_zero : (ws : List ℕ) → Step (Place.Zero ws) (Item.Time 0) (Place.First ws)
  values : (ws : List ℕ) → Step (Place.First ws) Item.Values (Place.Values ws [])
  value : (ws : List ℕ) (vs : List (List Digit)) (c : ValueChange) → c.number ≡ length vs → IsSized ws c →
      Step (Place.Values ws vs) (Item.Change c) (Place.Values ws (vs ++ c.value ∷ []))
  end : (ws : List ℕ) (vs : List (List Digit)) → length vs ≡ length ws →
      Step (Place.Values ws vs) Item.End (Place.Later ws vs 0 (length ws) false)
  time : (ws : List ℕ) (vs : List (List Digit)) (last from time : ℕ) → last < time → time < 2 ^ 64 →
      Step (Place.Later ws vs last from false) (Item.Time time) (Place.Later ws vs time 0 true)
  change : (ws : List ℕ) (vs : List (List Digit)) (last from : ℕ) (bare : Bool) (c : ValueChange) → from ≤ c.number → IsChange ws vs c →
      Step (Place.Later ws vs last from bare) (Item.Change c) (Place.Later ws (with_change vs c) last (suc c.number) false)

-- from one place to another by lines
pub data Steps : Place → List Item → Place → Type 0 where
  stay : (p : Place) → Steps p [] p
  go : (p : Place) (i : Item) (q : Place) (items : List Item) (r : Place) → Step p i q → Steps q items r → Steps p (i ∷ items) r

-- a text can end here
abbrev pub IsLast : Place → Type 0
IsLast (Place.Later ws vs last from bare) = Unit {0}
IsLast Place.Start = ⊥
IsLast Place.Top = ⊥
IsLast (Place.Header ws depth own) = ⊥
IsLast (Place.Zero ws) = ⊥
IsLast (Place.First ws) = ⊥
IsLast (Place.Values ws vs) = ⊥

-- a line can stand here
pub record Follows (p : Place) (line : List ℕ) : Type 0 where
  pub item : Item
  pub next : Place
  pub step : Step p item next
  pub is : line ≡ line_of item
