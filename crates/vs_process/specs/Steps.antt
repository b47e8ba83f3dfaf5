-- One step of a process.
use Rattle.std.specs.Prelude.{ℕ, zero, suc, ℤ, Bool, true, false, Option, Some, None, List, [], ◌∷◌, ◌++◌, find}
use Rattle.std.specs.List.{list_any}
use Rattle.std.specs.declared.vec.Vec.{Vec}
use Rattle.std.specs.declared.alloc.Global.{Global}
use Rattle.vs_design.specs.vs_logic4.specs.declared.digit.Digit.{Digit}
use Rattle.vs_design.specs.vs_logic4.specs.declared.digit.Digit.TheVariants.{One}
use Rattle.vs_design.specs.vs_logic4.specs.declared.case.CaseKind.{CaseKind}
use Rattle.vs_design.specs.vs_logic4.specs.Cases.{matches}
use Rattle.vs_design.specs.vs_logic4.specs.Comparisons.{truth}
use Rattle.vs_design.specs.declared.statement.CallKind.{CallKind}
use Rattle.vs_design.specs.declared.statement.CallKind.TheVariants.{Display, Strobe}
use Rattle.vs_design.specs.declared.statement.EventTerm.{EventTerm}
use Rattle.vs_design.specs.declared.statement.Statement.{Statement}
use Rattle.vs_design.specs.declared.statement.Statement.TheOpen.{Statement-F}
use Rattle.vs_design.specs.declared.statement.Statement.TheViews.{out-Statement}
use Rattle.vs_design.specs.declared.statement.Target.{Target}
use Rattle.vs_design.specs.declared.expression.Typed.{Typed}
use Rattle.vs_design.specs.Selects.{index_number, from_zero}
use Rattle.vs_design.specs.Stores.{Store}
use Rattle.vs_design.specs.Writes.{Write}
use Rattle.vs_strobe.specs.vs_eval.specs.Targets.{assigned}
use Rattle.vs_strobe.specs.vs_eval.specs.Values.{target_value, value_of}
use Rattle.vs_strobe.specs.Lines.{Format, format_of_call, full_line}
use Rattle.vs_process.specs.Places.{perform, turns, Todo, flat}

-- where a step leads
pub data Next : Type 0 where
  -- the process stays active
  on : Todo → Next
  -- a delay of so many ticks, by the delay control of this number in the process's text
  after : ℕ → ℕ → Todo → Next
  -- a wait for one of these terms, by the event control of this number in the process's text
  wait : ℕ → List EventTerm → Todo → Next

-- what one step of a process makes
pub record Out : Type 0 where
  pub next : Next
  -- the write of a blocking assignment
  pub write : Option Write
  -- a nonblocking update, and in how many ticks it is due
  pub update : Option (ℕ × Write)
  -- what a `$strobe` prints at the end of the slot (clause 17.1.2)
  pub call : Option Format
  -- the line of a `$display`, with the line feed that ends it (clause 17.1.1)
  pub line : Option (List ℕ)
  -- whether it is a `$finish` (clause 17.4.1)
  pub finish : Bool

-- a step that goes somewhere and does no more
abbrev pub goes : Next → Out
goes next = record { next = next; write = None; update = None; call = None; line = None; finish = false }

-- the write of an assignment, evaluated in a store at a time (clause 9.2)
abbrev pub assignment : Target → Typed → Store → ℕ → Write
assignment t e store time = assigned t (target_value t e store time) store time

-- the line of a `$display` with this format, of the store and at the time of its step (clause 17.1.1)
abbrev pub display_line : CallKind → Format → Store → ℕ → Option (List ℕ)
display_line Display f store time = Some (full_line f store time)
display_line Strobe f store time = None

-- what a `$strobe` with this format prints at the end of the slot (clause 17.1.2)
abbrev pub strobe_call : CallKind → Format → Option Format
strobe_call Display f = None
strobe_call Strobe f = Some f

-- the step of a call with this format
abbrev pub called : CallKind → Format → Todo → Store → ℕ → Out
called kind f rest store time = record (goes (on rest)) { call = strobe_call kind f; line = display_line kind f store time }

-- what is done where a condition is true, and else; x and z count as false (clauses 9.4 and 9.6)
abbrev pub branch : {A : Type 0} → Digit → A → A → A
branch One a b = a
branch _ a b = b

-- whether a `case` item has an expression that matches (clause 9.5)
abbrev pub item_matches : CaseKind → List Digit → Store → ℕ → Vec Typed Global × Statement → Bool
item_matches kind digits store time i = list_any (λ e. matches kind digits (value_of e store time)) i.0.items

abbrev pub has_nothing : {A : Type 0} → List A → Bool
has_nothing [] = true
has_nothing (x ∷ xs) = false

-- whether a `case` item is a `default`: it has no expression (clause 9.5)
abbrev pub is_default : Vec Typed Global × Statement → Bool
is_default i = has_nothing i.0.items

abbrev pub first_of : {A : Type 0} → Option A → Option A → Option A
first_of (Some x) other = Some x
first_of None other = other

-- the statement of an item, where there is one, as what is to be done
abbrev pub flat_item : Option (Vec Typed Global × Statement) → Todo
flat_item None = []
flat_item (Some i) = flat i.1

-- the item of a `case` that is taken: the first with an expression that matches, else the `default` (clause 9.5)
abbrev pub taken : CaseKind → List Digit → Store → ℕ → List (Vec Typed Global × Statement) → Option (Vec Typed Global × Statement)
taken kind digits store time items = first_of (find (item_matches kind digits store time) items) (find is_default items)

abbrev pub turns_of : Option ℤ → ℕ
turns_of None = 0
turns_of (Some n) = from_zero n

-- how many turns a count stands for: none where it is negative, or has a digit x or z (clause 9.6; negative: profile)
abbrev pub turns_for : Bool → List Digit → ℕ
turns_for signed digits = turns_of (index_number signed digits)

-- a test of a `repeat` with so many turns left, in front of what else is to be done (clause 9.6)
abbrev pub repeated : ℕ → Statement → Todo → Todo
repeated zero s rest = rest
repeated (suc n) s rest = flat s ++ turns n s ∷ rest

-- the step of a statement, in front of what else is to be done (clauses 9.2, 9.4 to 9.7, 17.1 and 17.4.1)
abbrev pub statement_step : Statement → Statement-F Statement → Todo → Store → ℕ → Out
statement_step s (Statement-F.Null n) rest store time = goes (on rest)
statement_step s (Statement-F.Assign n t e) rest store time = record (goes (on rest)) { write = Some (assignment t e store time) }
statement_step s (Statement-F.Later n ticks t e) rest store time =
    record (goes (on rest)) { update = Some (ticks.count, assignment t e store time) }
statement_step s (Statement-F.Call n c) rest store time = called c.kind (format_of_call c) rest store time
statement_step s (Statement-F.Finish n) rest store time = record (goes (on rest)) { finish = true }
statement_step s (Statement-F.Block all) rest store time = goes (on (flat s ++ rest))
statement_step s (Statement-F.Delay n ticks body) rest store time = goes (after n ticks.count (flat body.value ++ rest))
statement_step s (Statement-F.Event n terms body) rest store time = goes (wait n terms.items (flat body.value ++ rest))
statement_step s (Statement-F.If n e a b) rest store time =
    goes (on (branch (truth (value_of e store time)) (flat a.value) (flat b.value) ++ rest))
statement_step s (Statement-F.Case n kind x items) rest store time =
    goes (on (flat_item (taken kind (value_of x store time) store time items.items) ++ rest))
statement_step s (Statement-F.While n e body) rest store time =
    goes (on (branch (truth (value_of e store time)) (flat body.value ++ perform s ∷ rest) rest))
statement_step s (Statement-F.Repeat n signed e body) rest store time =
    goes (on (repeated (turns_for signed (value_of e store time)) body.value rest))
statement_step s (Statement-F.Forever n body) rest store time = goes (on (flat body.value ++ perform s ∷ rest))

-- one step of a process: what it still has to do, the store and the time, and what comes of it
abbrev pub step : Todo → Store → ℕ → Out
step [] store time = goes (on [])
step (perform s ∷ rest) store time = statement_step s (out-Statement s) rest store time
step (turns n s ∷ rest) store time = goes (on (repeated n s rest))
