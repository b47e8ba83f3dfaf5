-- Designs whose executions differ in one thing alone.
use Rattle.std.specs.Prelude.{ℕ, ◌≡◌, true, List, map}
use Rattle.std.specs.declared.alloc.Global.{Global}
use Rattle.std.proofs.Common.{lit<, lit≤}
use Rattle.vs_design.specs.vs_logic4.specs.declared.digit.Digit.TheVariants.{One}
use Rattle.vs_design.specs.declared.statement.CallKind.TheVariants.{Strobe}
use Rattle.vs_design.specs.declared.statement.Statement.{Statement}
use Rattle.vs_design.specs.declared.statement.Statement.TheVariants as y
use Rattle.vs_design.specs.Parts.{Parts}
use Rattle.vs_design.specs.Stores.{Store}
use Rattle.vs_design.specs.Traces.{Slot, Trace, SameSlots}
use Rattle.vs_design.specs.WellFormed.{WellFormed}
use Rattle.vs_process.specs.declared.moves.Grain.{Grain}
use Rattle.vs_process.specs.declared.moves.Move.{Move}
use Rattle.vs_process.specs.Executions.{after, Legal, is_complete, trace}
use Rattle.vs_laws.specs.vs_independence.specs.Discipline.{Independent}
use Rattle.vs_laws.specs.Lines.{shows_bit, two_letters}
use Rattle.vs_laws.specs.Race.{boxed, letter, operand, set_to, two_initials}

-- ---- the designs

-- `$strobe("%b", a);`
abbrev pub strobes_bit : Global → Statement
strobes_bit g = y.Call 1 (record {
  kind = Strobe;
  text = two_letters g 37 98;
  args = shows_bit g;
  path = letter g 116;
  ratio = 1;
  scaled = (lit< tt, lit≤ tt);
})

-- `if (a) STATEMENT`
abbrev pub where_set : Global → Statement → Statement
where_set g body = y.If 0 (operand 0) (boxed g body) (boxed g (y.Null 2))

-- `module t; reg a; initial a = 1; initial if (a) STATEMENT endmodule`
abbrev pub testing : Global → Statement → Parts
testing g body = two_initials g (set_to g 0 One) (where_set g body)

-- ---- how traces differ

-- the times of slots, and the stores at which they end, whatever their lines
abbrev pub stores : List Slot → List (ℕ × Store)
stores slots = map (λ (s : Slot). (s.time, s.store)) slots

-- two traces differ in their lines alone
pub record DifferInLines (a b : Trace) : Type 0 where
  pub stores : stores a.slots ≡ stores b.slots
  pub finish : a.finish ≡ b.finish
  pub lines : SameSlots a.slots b.slots → ⊥

-- two traces differ in the slot in which `$finish` takes effect alone, or in whether it does
pub record DifferInFinish (a b : Trace) : Type 0 where
  pub slots : SameSlots a.slots b.slots
  pub finish : a.finish ≡ b.finish → ⊥

-- two executions that are complete to a moment, and whose traces to it differ so
pub record HasTwo (grain : Grain) (d : Parts) (DifferSo : Trace → Trace → Type 0) : Type 0 where
  pub until : ℕ
  pub one : List Move
  pub other : List Move
  pub one_legal : Legal grain d one
  pub other_legal : Legal grain d other
  pub one_complete : is_complete until (after d one) ≡ true
  pub other_complete : is_complete until (after d other) ≡ true
  pub differ : DifferSo (trace d one until) (trace d other until)

-- a well formed design with two such executions, which is not independent
abbrev pub IsSeen : Grain → Parts → (Trace → Trace → Type 0) → Type 0
IsSeen grain d DifferSo = WellFormed d × HasTwo grain d DifferSo × (Independent grain d → ⊥)

abbrev pub StrobeLinesAloneDiffer : Type 0
StrobeLinesAloneDiffer = (g : Global) (grain : Grain) → IsSeen grain (testing g (strobes_bit g)) DifferInLines

abbrev pub FinishAloneDiffers : Type 0
FinishAloneDiffers = (g : Global) (grain : Grain) → IsSeen grain (testing g (y.Finish 1)) DifferInFinish
