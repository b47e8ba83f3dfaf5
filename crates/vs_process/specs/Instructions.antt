-- What the instructions of a script are made of: nothing that is promised rests on these.
use Rattle.std.specs.Prelude.{ℕ, ◌≡◌, Bool, Some, None, List, [], ◌∷◌}
use Rattle.std.specs.declared.vec.Vec.{Vec}
use Rattle.std.specs.declared.alloc.Global.{Global}
use Rattle.vs_design.specs.vs_logic4.specs.declared.case.CaseKind.{CaseKind}
use Rattle.vs_design.specs.declared.expression.Typed.{Typed}
use Rattle.vs_design.specs.declared.signal.Signal.{Signal}
use Rattle.vs_design.specs.declared.statement.Call.{Call}
use Rattle.vs_design.specs.declared.statement.CallKind.TheVariants as k
use Rattle.vs_design.specs.declared.statement.EventTerm.{EventTerm}
use Rattle.vs_design.specs.declared.statement.Statement.{Statement}
use Rattle.vs_design.specs.declared.statement.Statement.TheOpen.{Statement-F}
use Rattle.vs_design.specs.declared.statement.Statement.TheViews.{out-Statement}
use Rattle.vs_design.specs.declared.statement.Target.{Target}
use Rattle.vs_design.specs.declared.statement.Ticks.{Ticks}
use Rattle.vs_process.specs.declared.choice.Case.{Case}
use Rattle.vs_process.specs.declared.choice.Repeat.{Repeat}
use Rattle.vs_process.specs.declared.draft.Op.{Op}
use Rattle.vs_process.specs.declared.draft.Task.{Task}
use Rattle.vs_process.specs.declared.draft.Task.TheVariants as t
use Rattle.vs_process.specs.declared.script.Action.{Action}
use Rattle.vs_process.specs.declared.script.Action.TheVariants as a
use Rattle.vs_process.specs.declared.script.Instruction.{Instruction}
use Rattle.vs_process.specs.declared.switch.Switch.{Switch}
use Rattle.vs_process.specs.Choices.{index_of}
use Rattle.vs_process.specs.ChosenPlaces.{IsChosenOf}
use Rattle.vs_process.specs.Extras.{format_in}
use Rattle.vs_eval.specs.Meant.{Meaning}
use Rattle.vs_process.specs.Spots.{IsSpotOf}

-- an expression with the signals of its design
abbrev pub meaning : List Signal → Typed → Meaning
meaning signals e = record { signals = signals; expression = e }

-- of a blocking assignment
abbrev pub IsAssign : List Signal → Target → Typed → Action → Type 0
IsAssign signals t e (a.Assign spot r) = IsSpotOf signals t spot × (r ≡ meaning signals e)
IsAssign signals t e (a.AssignChosen place r) = IsChosenOf signals t place × (r ≡ meaning signals e)
IsAssign signals t e (a.AssignAny target x) = (target.now ≡ t) × (x.now ≡ e)
IsAssign signals t e _ = ⊥

-- of a nonblocking assignment
abbrev pub IsUpdate : List Signal → Ticks → Target → Typed → Action → Type 0
IsUpdate signals ticks t e (a.Update spot r) = (ticks.count ≡ 0) × IsSpotOf signals t spot × (r ≡ meaning signals e)
IsUpdate signals ticks t e (a.UpdateChosen place r) = (ticks.count ≡ 0) × IsChosenOf signals t place × (r ≡ meaning signals e)
IsUpdate signals ticks t e (a.UpdateAny due target x) = (due.count ≡ ticks.count) × (target.now ≡ t) × (x.now ≡ e)
IsUpdate signals ticks t e _ = ⊥

-- of a call
abbrev pub IsCall : Op → Call → Action → Type 0
IsCall x call (a.Display format) = (call.kind ≡ k.Display) × (format_in x ≡ Some format.now)
IsCall x call (a.Strobe format) = (call.kind ≡ k.Strobe) × (format_in x ≡ Some format.now)
IsCall x call a.Nothing = format_in x ≡ None
IsCall x call _ = ⊥

-- of a condition, which leads elsewhere where it isn't true
abbrev pub IsBranch : List Signal → Typed → ℕ → Action → Type 0
IsBranch signals e other (a.Branch r there) = (r ≡ meaning signals e) × (there ≡ other)
IsBranch signals e other _ = ⊥

-- what the instruction of a `case` keeps
pub record IsCaseOf (count : ℕ) (x : Op) (kind : CaseKind) (e : Typed) (items : List (Vec Typed Global × Statement)) (c : Case) : Type 0 where
  pub same_op : c.op.now ≡ x
  pub same_kind : c.kind ≡ kind
  pub same_value : c.e.now ≡ e
  pub same_items : c.items.now ≡ items
  pub same_count : c.count ≡ count

-- that of a `repeat`
pub record IsRepeatOf (count : ℕ) (x : Op) (signed : Bool) (e : Typed) (r : Repeat) : Type 0 where
  pub same_op : r.op.now ≡ x
  pub same_sign : r.signed ≡ signed
  pub same_value : r.e.now ≡ e
  pub same_count : r.count ≡ count

-- the only one of some `case`s is this one
abbrev pub IsCaseIn : List Signal → ℕ → Op → CaseKind → Typed → List (Vec Typed Global × Statement) → List Switch → Type 0
IsCaseIn signals count x kind e items (s ∷ []) = (s.subject.signals ≡ signals) × IsCaseOf count x kind e items s.case
IsCaseIn signals count x kind e items _ = ⊥

abbrev pub IsCase : List Signal → ℕ → Op → CaseKind → Typed → List (Vec Typed Global × Statement) → Action → Type 0
IsCase signals count x kind e items (a.Case all) = IsCaseIn signals count x kind e items all.items
IsCase signals count x kind e items _ = ⊥

abbrev pub IsRepeat : ℕ → Op → Bool → Typed → Action → Type 0
IsRepeat count x signed e (a.Repeat r) = IsRepeatOf count x signed e r
IsRepeat count x signed e _ = ⊥

abbrev pub IsTurns : ℕ → Op → Action → Type 0
IsTurns count x (a.Turns later) = (later.op.now ≡ x) × (later.count ≡ count)
IsTurns count x _ = ⊥

abbrev pub IsDelay : ℕ → Ticks → Action → Type 0
IsDelay n ticks (a.Delay m due) = (m ≡ n) × (due.count ≡ ticks.count)
IsDelay n ticks _ = ⊥

abbrev pub IsWait : ℕ → List EventTerm → Action → Type 0
IsWait n terms (a.Wait m ts) = (m ≡ n) × (ts.now ≡ terms)
IsWait n terms _ = ⊥

-- what the instruction of a statement does, by the statement's outermost layer, among so many instructions
abbrev pub IsActionOf : List Signal → ℕ → Op → Statement-F Statement → Action → Type 0
IsActionOf signals count x (Statement-F.Null n) action = action ≡ a.Nothing
IsActionOf signals count x (Statement-F.Assign n t e) action = IsAssign signals t e action
IsActionOf signals count x (Statement-F.Later n ticks t e) action = IsUpdate signals ticks t e action
IsActionOf signals count x (Statement-F.Call n call) action = IsCall x call action
IsActionOf signals count x (Statement-F.Finish n) action = action ≡ a.Finish
IsActionOf signals count x (Statement-F.Block all) action = action ≡ a.Nothing
IsActionOf signals count x (Statement-F.Delay n ticks body) action = IsDelay n ticks action
IsActionOf signals count x (Statement-F.Event n terms body) action = IsWait n terms.items action
IsActionOf signals count x (Statement-F.If n e p q) action = IsBranch signals e (index_of count x.second) action
IsActionOf signals count x (Statement-F.Case n kind e items) action = IsCase signals count x kind e items.items action
IsActionOf signals count x (Statement-F.While n e body) action = IsBranch signals e (index_of count x.behind) action
IsActionOf signals count x (Statement-F.Repeat n signed e body) action = IsRepeat count x signed e action
IsActionOf signals count x (Statement-F.Forever n body) action = action ≡ a.Nothing

-- the place where it goes on, where it doesn't choose another one
abbrev pub next_place : Op → Statement-F Statement → ℕ
next_place x (Statement-F.Null n) = x.behind
next_place x (Statement-F.Assign n t e) = x.behind
next_place x (Statement-F.Later n ticks t e) = x.behind
next_place x (Statement-F.Call n call) = x.behind
next_place x (Statement-F.Finish n) = x.behind
next_place x (Statement-F.Block all) = x.first
next_place x (Statement-F.Delay n ticks body) = x.first
next_place x (Statement-F.Event n terms body) = x.first
next_place x (Statement-F.If n e p q) = x.first
next_place x (Statement-F.Case n kind e items) = x.behind
next_place x (Statement-F.While n e body) = x.first
next_place x (Statement-F.Repeat n signed e body) = x.behind
next_place x (Statement-F.Forever n body) = x.first

-- the instruction of a statement
abbrev pub IsOfStatement : List Signal → ℕ → Op → Statement → Instruction → Type 0
IsOfStatement signals count x s i =
    IsActionOf signals count x (out-Statement s) i.action × (i.next ≡ index_of count (next_place x (out-Statement s)))

abbrev pub IsOfTask : List Signal → ℕ → Op → Task → Instruction → Type 0
IsOfTask signals count x (t.Perform s) i = IsOfStatement signals count x s.now i
IsOfTask signals count x (t.Turns s) i = IsTurns count x i.action

-- the instruction of what an instruction of the code does
abbrev pub IsInstructionOf : List Signal → ℕ → Op → Instruction → Type 0
IsInstructionOf signals count x i = IsOfTask signals count x x.task i

-- the instructions of a code, one after another
abbrev pub AreInstructionsOf : List Signal → ℕ → List Op → List Instruction → Type 0
AreInstructionsOf signals count [] [] = Unit {0}
AreInstructionsOf signals count (x ∷ ops) (i ∷ script) = IsInstructionOf signals count x i × AreInstructionsOf signals count ops script
AreInstructionsOf signals count _ _ = ⊥
