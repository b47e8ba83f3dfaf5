-- The layout of a value change dump, as a relation between a text and what it says.
use Rattle.std.specs.Prelude.{◌≡◌, ℕ, suc, ◌<◌, ◌≤◌, ◌^◌, Some, List, [], ◌∷◌, ◌++◌, codes, decimal, length, map, slice_get, slice_set}
use Rattle.std.specs.List.{flat_map}
use Rattle.vs_design.specs.vs_logic4.specs.declared.digit.Digit.{Digit}
use Rattle.vs_design.specs.declared.design.ScopeKind.{ScopeKind}
use Rattle.vs_design.specs.declared.design.ScopeKind.TheVariants.{Module}
use Rattle.vs_vcd_lines.specs.vs_vcd_writing.specs.Codes.{code}
use Rattle.vs_vcd_lines.specs.vs_vcd_writing.specs.Text.{text_of, end_of_definitions, time_line, scope_line, kind_word, range_text}
use Rattle.vs_vcd_lines.specs.declared.dump.ValueChange.{ValueChange}
use Rattle.vs_vcd_lines.specs.Lines.{span_line, change_line, IsRange, IsSized}
use Rattle.vs_vcd_lines.specs.Names.{IsName, IsScopeName}
use Rattle.vs_vcd_reader.specs.declared.dump.Dump.{Dump}
use Rattle.vs_vcd_reader.specs.Plain.{PlainDeclaration, PlainDump, PlainMoment, PlainVariable, plain_dump}
use Rattle.vs_vcd_reader.specs.Plain.{PlainDeclaration as d}

-- ---- lines

-- the line of a variable, whose code has this number (clause 18.2.3)
abbrev pub variable_text : PlainVariable → ℕ → List ℕ
variable_text v number =
    codes "$var " ++ kind_word v.kind ++ codes " " ++ decimal v.width ++ codes " " ++ code number ++ codes " " ++ v.name
    ++ range_text v.range ++ codes " $end"

-- the lines of declarations, where the code of the first variable has this number (clause 18.2.3)
abbrev pub declaration_lines : ℕ → List PlainDeclaration → List (List ℕ)
declaration_lines number [] = []
declaration_lines number (d.Scope kind name ∷ ds) = scope_line kind name ∷ declaration_lines number ds
declaration_lines number (d.Variable v ∷ ds) = variable_text v number ∷ declaration_lines (suc number) ds
declaration_lines number (d.Upscope ∷ ds) = codes "$upscope $end" ∷ declaration_lines number ds

-- the lines of the first time: every variable has a value (clause 18.1.2)
abbrev pub first_lines : PlainMoment → List (List ℕ)
first_lines m = time_line m.time ∷ codes "$dumpvars" ∷ map change_line m.changes ++ codes "$end" ∷ []

-- the lines of a later time
abbrev pub later_lines : PlainMoment → List (List ℕ)
later_lines m = time_line m.time ∷ map change_line m.changes

-- the lines of the body
abbrev pub body_lines : List PlainMoment → List (List ℕ)
body_lines [] = []
body_lines (m ∷ ms) = first_lines m ++ flat_map later_lines ms

-- the lines before the body
abbrev pub header_lines : PlainDump → List (List ℕ)
header_lines x = span_line x.tick ∷ declaration_lines 0 x.declarations ++ end_of_definitions ∷ []

abbrev pub dump_lines : PlainDump → List (List ℕ)
dump_lines x = header_lines x ++ body_lines x.moments

-- ---- declarations

-- a variable has a name and a size of 1 to 64 bits (profile)
pub record IsPlainVariable (v : PlainVariable) : Type 0 where
  pub named : IsName v.name
  pub some : 0 < v.width
  pub most : v.width ≤ 64
  pub ranged : IsRange v.range

-- the lines of variables one after another
pub data AreVariables : List PlainDeclaration → Type 0 where
  none : AreVariables []
  more : (v : PlainVariable) (ds : List PlainDeclaration) → IsPlainVariable v → AreVariables ds → AreVariables (d.Variable v ∷ ds)

-- scopes one after another: of each its line, its variables, its inner scopes, and the line that closes it (clause 18.2.3)
pub data AreScopes : List PlainDeclaration → Type 0 where
  none : AreScopes []
  more : (kind : ScopeKind) (name : List ℕ) (own inner others : List PlainDeclaration) → IsScopeName kind name → AreVariables own →
      AreScopes inner → AreScopes others → AreScopes (d.Scope kind name ∷ own ++ inner ++ d.Upscope ∷ others)

-- the declarations of a dump: the top module alone (clause 12.1.1)
pub record AreDeclared (ds : List PlainDeclaration) : Type 0 where
  pub name : List ℕ
  pub own : List PlainDeclaration
  pub inner : List PlainDeclaration
  pub named : IsName name
  pub variables : AreVariables own
  pub scopes : AreScopes inner
  pub are : ds ≡ d.Scope Module name ∷ own ++ inner ++ d.Upscope ∷ []

-- the sizes of the variables that declarations declare; the code of the first has number 0
abbrev pub widths_of : List PlainDeclaration → List ℕ
widths_of [] = []
widths_of (d.Variable v ∷ ds) = v.width ∷ widths_of ds
widths_of (d.Scope kind name ∷ ds) = widths_of ds
widths_of (d.Upscope ∷ ds) = widths_of ds

-- ---- values

-- the values of the variables from a number on, each as wide as its variable
pub data AreAll (widths : List ℕ) : ℕ → List ValueChange → Type 0 where
  none : AreAll widths (length widths) []
  more : (c : ValueChange) (cs : List ValueChange) → IsSized widths c → AreAll widths (suc c.number) cs → AreAll widths c.number (c ∷ cs)

abbrev pub values_of : List ValueChange → List (List Digit)
values_of cs = map (λ (c : ValueChange). c.value) cs

-- the values written last, after a change
abbrev pub with_change : List (List Digit) → ValueChange → List (List Digit)
with_change values c = slice_set values c.number c.value

-- the values written last, after changes
abbrev pub written : List (List Digit) → List ValueChange → List (List Digit)
written values [] = values
written values (c ∷ cs) = written (with_change values c) cs

-- a value of a variable at its size, that isn't the one written last
pub record IsChange (widths : List ℕ) (values : List (List Digit)) (c : ValueChange) : Type 0 where
  pub old : List Digit
  pub sized : IsSized widths c
  pub before : slice_get values c.number ≡ Some old
  pub differs : c.value ≡ old → ⊥

-- changes of variables from a number on, in the order of the codes, from the values written last
pub data AreChanges (widths : List ℕ) : List (List Digit) → ℕ → List ValueChange → Type 0 where
  none : (values : List (List Digit)) (from : ℕ) → AreChanges widths values from []
  more : (values : List (List Digit)) (from : ℕ) (c : ValueChange) (cs : List ValueChange) → from ≤ c.number → IsChange widths values c →
      AreChanges widths (with_change values c) (suc c.number) cs → AreChanges widths values from (c ∷ cs)

-- changes at a time
abbrev pub moment_at : ℕ → List ValueChange → PlainMoment
moment_at time cs = record { time = time; changes = cs }

-- times that rise, below 2^64, each with changes; the last one may have none (profile)
pub data AreLater (widths : List ℕ) : List (List Digit) → ℕ → List PlainMoment → Type 0 where
  none : (values : List (List Digit)) (last : ℕ) → AreLater widths values last []
  end : (values : List (List Digit)) (last time : ℕ) → last < time → time < 2 ^ 64 → AreLater widths values last (moment_at time [] ∷ [])
  more : (values : List (List Digit)) (last time : ℕ) (c : ValueChange) (cs : List ValueChange) (ms : List PlainMoment) → last < time →
      time < 2 ^ 64 → AreChanges widths values 0 (c ∷ cs) → AreLater widths (written values (c ∷ cs)) time ms →
      AreLater widths values last (moment_at time (c ∷ cs) ∷ ms)

-- the times of a dump: 0 with a value of every variable, and later ones with changes
pub record AreMoments (widths : List ℕ) (ms : List PlainMoment) : Type 0 where
  pub first : List ValueChange
  pub later : List PlainMoment
  pub are : ms ≡ moment_at 0 first ∷ later
  pub all : AreAll widths 0 first
  pub changes : AreLater widths (values_of first) 0 later

-- ---- the whole

-- the text is of the layout, and says this
pub record IsLayout (text : List ℕ) (x : PlainDump) : Type 0 where
  pub is : text ≡ text_of (dump_lines x)
  pub declared : AreDeclared x.declarations
  pub moments : AreMoments (widths_of x.declarations) x.moments

-- the text is of the layout, and says what a dump says
abbrev pub IsDump : List ℕ → Dump → Type 0
IsDump text x = IsLayout text (plain_dump x)
