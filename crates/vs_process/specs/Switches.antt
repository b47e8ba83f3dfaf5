-- What the labels of a `case` choose, resolved: nothing that is promised rests on these.
use Rattle.std.specs.Prelude.{ℕ, ◌≡◌, ◌&&◌, ◌==◌, true, if◌then◌else◌, Option, Some, None, List, [], ◌∷◌, length, get_or, map}
use Rattle.std.specs.Coded.{codes, Unit-prop}
use Rattle.std.specs.List.{All}
use Rattle.std.proofs.Props.{props}
use Rattle.vs_design.specs.vs_logic4.specs.declared.case.CaseKind.{CaseKind}
use Rattle.vs_design.specs.vs_logic4.specs.declared.case.CaseKind.TheVariants as kinds
use Rattle.vs_design.specs.vs_logic4.specs.declared.digit.Digit.{Digit}
use Rattle.vs_design.specs.vs_logic4.specs.Arithmetic.{number}
use Rattle.vs_design.specs.vs_logic4.specs.Cases.{matches}
use Rattle.vs_design.specs.vs_logic4.specs.Comparisons.{is_known}
use Rattle.vs_design.specs.contracts.expression.Typed as expression
use Rattle.vs_design.specs.declared.expression.Typed.{Typed}
use Rattle.vs_design.specs.declared.expression.Typed.TheVariants as t
use Rattle.vs_design.specs.declared.signal.Signal.{Signal}
use Rattle.vs_design.specs.Stores.{Store}
use Rattle.vs_eval.specs.Meant.{Meaning}
use Rattle.vs_strobe.specs.vs_eval.specs.Values.{value_of}
use Rattle.vs_process.specs.declared.choice.Case.{Case}
use Rattle.vs_process.specs.declared.switch.Label.{Label}
use Rattle.vs_process.specs.declared.switch.Labels.{Labels}
use Rattle.vs_process.specs.declared.switch.Labels.TheVariants as l
use Rattle.vs_process.specs.Choices.{case_place, index_of}
use Rattle.vs_process.specs.Landings.{start_where}
use Rattle.vs_process.specs.Steps.{item_matches}

-- the index of a place among so many instructions, where there is one
abbrev pub index_or : ℕ → ℕ → Option ℕ → ℕ
index_or count otherwise None = otherwise
index_or count otherwise (Some place) = index_of count place

-- the index of the first label that matches
abbrev pub walked : CaseKind → List Digit → Store → ℕ → List Label → ℕ → ℕ
walked kind digits store time [] otherwise = otherwise
walked kind digits store time (x ∷ xs) otherwise =
    if matches kind digits (value_of x.e.now store time) then x.index else walked kind digits store time xs otherwise

-- the same of labels that are resolved
abbrev pub any_index : CaseKind → List Digit → Store → ℕ → List (Meaning × ℕ) → ℕ → ℕ
any_index kind digits store time [] otherwise = otherwise
any_index kind digits store time (x ∷ xs) otherwise =
    if matches kind digits (value_of x.0.expression store time) then x.1 else any_index kind digits store time xs otherwise

-- the index of a number of this size
abbrev pub table_index : List Digit → ℕ → List ℕ → ℕ → ℕ
table_index digits width indices otherwise =
    if is_known digits && (length digits == width) then get_or indices (number digits) otherwise else otherwise

-- whether labels lead where the items of a `case` do that match
abbrev pub AreLabels : Case → List ℕ → ℕ → List Label → Type 0
AreLabels c starts otherwise labels = (digits : List Digit) (store : Store) (time : ℕ) →
    walked c.kind digits store time labels otherwise
    ≡ index_or c.count otherwise (start_where (item_matches c.kind digits store time) c.items.now starts)

-- a label with the signals of its design
abbrev pub resolved_label : List Signal → Label → Meaning × ℕ
resolved_label signals x = (record { signals = signals; expression = x.e.now }, x.index)

abbrev pub AreResolved : List Signal → List Label → List (Meaning × ℕ) → Type 0
AreResolved signals labels all = all ≡ map (resolved_label signals) labels

-- whether an expression is a literal of this size without x and z, and has this number
pub record IsNumber (e : Typed) (width n : ℕ) : Type 0 where
  pub digits : List Digit
  pub same : e ≡ t.Number digits
  pub known : is_known digits ≡ true
  pub long : length digits ≡ width
  pub counts : n ≡ number digits

-- whether the index of each number of this size is that of the first label that matches it
abbrev pub IsTable : List Label → ℕ → List ℕ → ℕ → Type 0
IsTable labels width indices otherwise = (digits : List Digit) (store : Store) (time : ℕ) →
    table_index digits width indices otherwise ≡ walked kinds.Case digits store time labels otherwise

-- the index to which labels lead
abbrev pub switch_index : CaseKind → List Digit → Store → ℕ → Labels → ℕ → ℕ
switch_index kind digits store time (l.Numbers width indices) otherwise = table_index digits width indices.items otherwise
switch_index kind digits store time (l.Any labels) otherwise = any_index kind digits store time labels.items otherwise

-- whether labels are of a design's signals
abbrev pub AreOfSignals : List Signal → Labels → Type 0
AreOfSignals signals (l.Numbers width indices) = Unit {0}
AreOfSignals signals (l.Any labels) = All (λ (x : Meaning × ℕ). x.0.signals ≡ signals) labels.items

-- whether a subject and labels are those of a `case`, and lead where it does
pub record IsSwitch (c : Case) (subject : Meaning) (labels : Labels) (otherwise : ℕ) : Type 0 where
  pub same : subject.expression ≡ c.e.now
  pub known : AreOfSignals subject.signals labels
  pub leads : (store : Store) (time : ℕ) →
      switch_index c.kind (value_of c.e.now store time) store time labels otherwise ≡ index_of c.count (case_place c store time)

-- each of these facts holds in one way
pub AreOfSignals-prop : (signals : List Signal) (labels : Labels) → IsProp (AreOfSignals signals labels)
AreOfSignals-prop signals (l.Numbers width indices) = Unit-prop
AreOfSignals-prop signals (l.Any labels) = Prim.hlevel (props, codes)

pub IsSwitch-prop : (c : Case) (subject : Meaning) (labels : Labels) (otherwise : ℕ) → IsProp (IsSwitch c subject labels otherwise)
IsSwitch-prop c subject labels otherwise = Prim.hlevel (AreOfSignals-prop, props, codes, expression.the_row.coded)
