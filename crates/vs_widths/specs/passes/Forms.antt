-- Expressions of a source as their parts are measured.
use Rattle.std.specs.Prelude.{◌≡◌, ℕ, ◌*◌, ◌≤◌, Bool, true, false, IsSome, List, [], ◌∷◌, ◌++◌, Option, Some, Result, Ok, Err, option_map, map, take}
use Rattle.vs_design.specs.vs_logic4.specs.declared.digit.Digit.{Digit}
use Rattle.vs_design.specs.vs_logic4.specs.declared.operators.Binary.{Binary}
use Rattle.vs_design.specs.vs_logic4.specs.Operators.{sizing_of, is_one_bit}
use Rattle.vs_design.specs.vs_logic4.specs.Vectors.{resized}
use Rattle.vs_design.specs.vs_logic4.specs.Parts.{replication}
use Rattle.vs_syntax.specs.declared.tree.Expr.{Expr}
use Rattle.vs_design.specs.declared.expression.Link.{Link}
use Rattle.vs_design.specs.Stores.{Store}
use Rattle.vs_design.specs.WellFormed.{linked_size, at_most_64}
use Rattle.vs_widths.specs.vs_eval.specs.Values.{left_side, linked}
use Rattle.vs_widths.specs.declared.shape.Shape.{Shape}
use Rattle.vs_widths.specs.declared.forms.Sizable.{Sizable}
use Rattle.vs_widths.specs.declared.forms.Measured.{Measured}
use Rattle.vs_widths.specs.Operations.{operated}
use Rattle.vs_widths.specs.Senses.{sense, open_link}
use Rattle.vs_widths.specs.declared.faults.WidthFault.{WidthFault}
use Rattle.vs_widths.specs.declared.faults.WidthFault.TheVariants.{Memory}
use Rattle.vs_widths.specs.Environment.{Environment}
use Rattle.vs_widths.specs.Findings.{Has, unsigned, Refuses}
use Rattle.vs_widths.specs.Layers.{other}
use Rattle.vs_widths.specs.Meants.{Meant, own}
use Rattle.vs_widths.specs.select_passes.Measures.{IsFlexible, IsOwnPart, IsClosedPart}
use Rattle.vs_widths.specs.Expressions.{meant, concat_meant, joined_value}

-- whether the last of the operators gives one bit
abbrev pub ends_in_test : {A : Type 0} → List (Link × A) → Bool
ends_in_test [] = false
ends_in_test (l ∷ []) = is_one_bit (sizing_of l.0.operator)
ends_in_test (l ∷ k ∷ ls) = ends_in_test (k ∷ ls)

-- ---- operators of two operands

-- what operands with the operators before them mean
abbrev pub links_meant : Environment → List (Binary × Expr) → List (Binary × Meant)
links_meant env ls = map (λ (l : Binary × Expr). (l.0, meant env l.1)) ls

-- what conditions and the operands behind them mean
abbrev pub pairs_meant : Environment → List (Expr × Expr) → List (Meant × Meant)
pairs_meant env ps = map (λ (p : Expr × Expr). (meant env p.0, meant env p.1)) ps

-- an operator between two operands of one context, or a shift
pub record IsOperated (left : Sizable) (op : Binary) (right y : Sizable) : Type 0 where
  pub size : (width : ℕ) → (sense y).size width ≡ open_link width ((sense left).size width) (op, (sense right).size width)
  pub ranges : (sense y).reads ≡ (sense left).reads ++ (sense right).reads
  pub value : (store : Store) (time width : ℕ) (signed : Bool) →
      (sense y).at store time width signed
      ≡ operated op width signed ((sense left).at store time width signed) ((sense right).at store time width signed)
  pub layer : (width : ℕ) → (sense y).layer width ≡ other

-- a link of a comparison, `&&` or `||`, whose left side has this size or one bit: it takes a digit as it takes it at its own size
pub record IsTestLink (size : ℕ) (link : Link) (right : Option ℕ) : Type 0 where
  pub bit : is_one_bit (sizing_of link.operator) ≡ true
  pub whole : linked_size (Some size) (link, right) ≡ Some 1
  pub narrow : linked_size (Some 1) (link, right) ≡ Some 1
  pub same : (d : Digit) →
      left_side (sizing_of link.operator) link.width (resized false link.width (d ∷ []))
      ≡ left_side (sizing_of link.operator) link.width (d ∷ [])

-- a comparison, `&&` or `||` of two operands, brought to the context
pub record IsTested (left : Sizable) (at : Shape) (link : Link) (right y : Sizable) : Type 0 where
  pub size : (width : ℕ) → (sense y).size width ≡ Some width
  pub ranges : (sense y).reads ≡ (sense left).reads ++ (sense right).reads
  pub value : (store : Store) (time width : ℕ) (signed : Bool) →
      (sense y).at store time width signed
      ≡ resized signed width
      (linked ((sense left).at store time at.width at.signed) (link, (sense right).at store time link.width link.signed))
  pub layer : (width : ℕ) → (sense y).layer width ≡ other

-- ---- parts of choices and concatenations

-- a condition and the operand behind it
pub record IsChoicePair (env : Environment) (p : Expr × Expr) (q : Sizable × Sizable) : Type 0 where
  pub condition_size : (width : ℕ) → IsSome ((sense q.0).size width)
  pub condition_ranges : (sense q.0).reads ≡ (meant env p.0).reads
  pub condition_value : (store : Store) (time width : ℕ) (signed : Bool) →
      (sense q.0).at store time width signed ≡ own (meant env p.0) store time
  pub size : IsFlexible q.1
  pub ranges : (sense q.1).reads ≡ (meant env p.1).reads
  pub value : (store : Store) (time width : ℕ) (signed : Bool) →
      (sense q.1).at store time width signed ≡ (meant env p.1).at store time width signed

-- a part of a concatenation
pub record IsJoinedPart (m : Meant) (y : Sizable) : Type 0 where
  pub ranges : (sense y).reads ≡ m.reads
  pub value : (store : Store) (time width : ℕ) (signed : Bool) → (sense y).at store time width signed ≡ own m store time

-- the same of a part of a source
abbrev pub IsPartOf : Environment → Expr → Sizable → Type 0
IsPartOf env e y = IsJoinedPart (meant env e) y

-- a condition at its own size and sign and the operand behind it, added to those before them
pub record AddsPair (condition : Measured) (operand : Sizable) (before after : List (Sizable × Sizable)) : Type 0 where
  pub part : Sizable
  pub own_part : IsOwnPart condition part
  pub added : after ≡ before ++ (part, operand) ∷ []

-- a part at its own size and sign, added to those before it
pub record AddsPart (x : Measured) (before after : List Sizable) : Type 0 where
  pub part : Sizable
  pub own_part : IsOwnPart x part
  pub added : after ≡ before ++ part ∷ []

-- the parts of a concatenation, joined, before they are brought to a context
pub record AreJoined (first : Meant) (rest : List Meant) (x : Measured) : Type 0 where
  pub found : (concat_meant first rest).finding ≡ Has x.shape.width x.shape.signed
  pub size : (width : ℕ) → (sense x.form).size width ≡ Some x.shape.width
  pub ranges : (sense x.form).reads ≡ (concat_meant first rest).reads
  pub value : (store : Store) (time width : ℕ) (signed : Bool) →
      (sense x.form).at store time width signed ≡ joined_value first rest store time
  pub layer : (width : ℕ) → (sense x.form).layer width ≡ other

-- joined parts, or a fault of them
abbrev pub Joins : Meant → List Meant → Result Measured WidthFault → Type 0
Joins first rest (Ok x) = AreJoined first rest x
Joins first rest (Err e) = Refuses (concat_meant first rest).finding e

-- a part at its own size and sign, brought to those of its context, or no memory for it
abbrev pub Closes : Measured → Shape → Result Measured WidthFault → Type 0
Closes x shape (Ok y) = IsClosedPart x shape y
Closes x shape (Err e) = e ≡ Memory

-- joined parts so many times
pub record IsRepetition (n : ℕ) (x y : Measured) : Type 0 where
  pub found : unsigned (n * x.shape.width) ≡ Has y.shape.width y.shape.signed
  pub most : n * x.shape.width ≤ 64
  pub size : (width : ℕ) →
      (sense y.form).size width ≡ option_map (λ m. width) (at_most_64 (option_map (λ m. n * m) ((sense x.form).size y.shape.width)))
  pub ranges : (sense y.form).reads ≡ (sense x.form).reads
  pub value : (store : Store) (time width : ℕ) (signed : Bool) →
      (sense y.form).at store time width signed
      ≡ resized signed width (take 64 (replication n ((sense x.form).at store time y.shape.width y.shape.signed)))
  pub layer : (width : ℕ) → (sense y.form).layer width ≡ other

-- joined parts so many times, or the fault that these are too many bits
abbrev pub Repeats : ℕ → Measured → Result Measured WidthFault → Type 0
Repeats n x (Ok y) = IsRepetition n x y
Repeats n x (Err e) = Refuses (unsigned (n * x.shape.width)) e
