-- Bits, points of processes, and the paths of their texts.
use Rattle.std.specs.Prelude.{ℕ, ◌≡◌, ◌==◌, ◌⊎◌, Bool, true, false, Option, Some, None, List, [], ◌∷◌, ◌++◌, map, slice_get}
use Rattle.std.specs.List.{Contains}
use Rattle.std.specs.declared.vec.Vec.{Vec}
use Rattle.std.specs.declared.alloc.Global.{Global}
use Rattle.vs_design.specs.declared.design.Process.{Process}
use Rattle.vs_design.specs.declared.expression.Typed.{Typed}
use Rattle.vs_design.specs.declared.range.BitRange.{BitRange}
use Rattle.vs_design.specs.declared.statement.EventTerm.{EventTerm}
use Rattle.vs_design.specs.declared.statement.Statement.{Statement}
use Rattle.vs_design.specs.declared.statement.Statement.TheOpen.{Statement-F}
use Rattle.vs_design.specs.declared.statement.Statement.TheOpen as f
use Rattle.vs_design.specs.declared.statement.Statement.TheFolds.{fold-Statement}
use Rattle.vs_design.specs.declared.statement.Statement.TheViews.{out-Statement}
use Rattle.vs_design.specs.Parts.{Parts}
use Rattle.vs_design.specs.Statements.{all_reads, assignment_reads}
use Rattle.vs_design.specs.Uses.{covers, joined, reads, writes}
use Rattle.vs_process.specs.Landings.{todo_after}
use Rattle.vs_process.specs.Places.{perform, Todo}
use Rattle.vs_process.specs.Steps.{Next, on, after, wait}
use Rattle.vs_process.specs.Bits.{HasBit, meet_in}
use Rattle.vs_process.specs.BlockDrivers.{outputs}
use Rattle.vs_process.specs.Threads.{todo_reads, todo_shows}
use Rattle.vs_process.specs.Nexts.{nexts}
use Rattle.vs_rules.specs.Points.{Among, Goes, first_todo, nexts_by, Point}

-- ---- bits

-- a bit: a signal, a word of it and a place in the word
pub record Bit : Type 0 where
  pub signal : ℕ
  pub word : ℕ
  pub place : ℕ

-- a bit of the design
abbrev pub IsBit : Parts → Bit → Type 0
IsBit d b = HasBit d b.signal b.word b.place

-- a range has the bit
abbrev pub Has : BitRange → Bit → Type 0
Has r b = covers b.signal b.word b.place r ≡ true

-- a range counts, be its bits in range or not: a text that names a signal reads or writes it (profile)
abbrev pub Touches : Parts → BitRange → Type 0
Touches d r = Unit {0}

-- two ranges have a bit in common: what is named whole has the bits of its signal, what is chosen has the bits that are chosen, in range or not
-- (profile)
abbrev pub Meet : Parts → BitRange → BitRange → Type 0
Meet d r q = meet_in d r q ≡ true

-- a list has a range that counts
abbrev pub Lists : Parts → List BitRange → BitRange → Type 0
Lists d rs r = Contains rs r × Touches d r

-- and that is one of this signal
pub record ListsSignal (d : Parts) (rs : List BitRange) (v : ℕ) : Type 0 where
  pub range : BitRange
  pub listed : Lists d rs range
  pub of : range.signal ≡ v

-- ---- what is done at a point

-- the ranges that the statement writes by `=`
abbrev pub statement_now : Statement-F Statement → List BitRange
statement_now (Statement-F.Assign n t e) = writes t
statement_now _ = []

-- those that it writes by `<=`
abbrev pub statement_later : Statement-F Statement → List BitRange
statement_later (Statement-F.Later n ticks t e) = writes t
statement_later _ = []

abbrev pub todo_now : Todo → List BitRange
todo_now (perform s ∷ rest) = statement_now (out-Statement s)
todo_now _ = []

abbrev pub todo_later : Todo → List BitRange
todo_later (perform s ∷ rest) = statement_later (out-Statement s)
todo_later _ = []

-- the statement at a point has a target that names the signal, by `=`, by `<=`, by either
abbrev pub WritesNow : Parts → Todo → ℕ → Type 0
WritesNow d k v = ListsSignal d (todo_now k) v

abbrev pub WritesLater : Parts → Todo → ℕ → Type 0
WritesLater d k v = ListsSignal d (todo_later k) v

abbrev pub WritesAny : Parts → Todo → ℕ → Type 0
WritesAny d k v = WritesNow d k v ⊎ WritesLater d k v

-- it reads the range, indices of targets included; arguments of calls and event terms are none
abbrev pub ReadsNow : Parts → Todo → BitRange → Type 0
ReadsNow d k r = Lists d (todo_reads k) r

-- the range is one of an argument of a `$display` there
abbrev pub ShowsNow : Parts → Todo → BitRange → Type 0
ShowsNow d k r = Lists d (todo_shows k) r

-- ---- paths

-- a path leads from one point to another, where from each point these are the ways, by such ways alone
pub data PathBy (ways : Todo → List Next) (ok : Next → Bool) (from : Todo) : Todo → Type 0 where
  begins : PathBy ways ok from from
  goes : (k l : Todo) (next : Next) → PathBy ways ok from k → Among next (ways k) → ok next ≡ true → todo_after next ≡ l → PathBy ways ok from l

-- a path of the text
abbrev pub Path : (Next → Bool) → Todo → Todo → Type 0
Path ok from k = PathBy nexts ok from k

-- any way
abbrev pub any_way : Next → Bool
any_way next = true

-- a way through no control
abbrev pub is_plain : Next → Bool
is_plain (on l) = true
is_plain (after number ticks l) = false
is_plain (wait number terms l) = false

-- a way that takes no time: through no control, or through a delay of zero ticks
abbrev pub is_zero_time : Next → Bool
is_zero_time (on l) = true
is_zero_time (after number ticks l) = ticks == 0
is_zero_time (wait number terms l) = false

-- the points of a process, by its number: all places of its text, be it that a path leads there or not, as behind a `forever`
abbrev pub IsPoint : Parts → ℕ → Todo → Type 0
IsPoint d i k = Point (first_todo d i) k

-- a zero-time path leads there from the start; in version 3 past a `repeat` with a constant count above 0 by a turn alone
abbrev pub IsSlot0 : Parts → Bool → ℕ → Todo → Type 0
IsSlot0 d wide i k = PathBy (nexts_by wide) is_zero_time (first_todo d i) k

-- one without any delay does
abbrev pub IsPrologue : Parts → Bool → ℕ → Todo → Type 0
IsPrologue d wide i k = PathBy (nexts_by wide) is_plain (first_todo d i) k

-- a path of such ways leads there once a way of this sort has been gone, from a point of a process
pub record PathFromBy (ways : Todo → List Next) (d : Parts) (i : ℕ) (sort : Todo → Next → Type 0) (ok : Next → Bool) (k : Todo) : Type 0 where
  pub at : Todo
  pub next : Next
  pub point : IsPoint d i at
  pub goes : Goes at next
  pub starts : sort at next
  pub path : PathBy ways ok (todo_after next) k

abbrev pub PathFrom : Parts → ℕ → (Todo → Next → Type 0) → (Next → Bool) → Todo → Type 0
PathFrom d i sort ok k = PathFromBy nexts d i sort ok k

-- from a control, one of zero ticks too
abbrev pub IsLate : Parts → ℕ → Todo → Type 0
IsLate d i k = PathFrom d i (λ at next. is_plain next ≡ false) any_way k

-- by a zero-time path from a write of the variable by `=`, of the same process; in version 3 past such a `repeat` by a turn alone
abbrev pub IsHot : Parts → Bool → ℕ → ℕ → Todo → Type 0
IsHot d wide i v k = PathFromBy (nexts_by wide) d i (λ at next. WritesNow d at v) is_zero_time k

-- without a further control from a control that can end at a residue; in version 3 past such a `repeat` by a turn alone
abbrev pub RunsFrom : Parts → Bool → ℕ → (Next → ℕ → Type 0) → Todo → ℕ → Type 0
RunsFrom d wide i can_end k r = PathFromBy (nexts_by wide) d i (λ at next. can_end next r) is_plain k

-- ---- whole texts

-- one layer of a statement: the ranges that its own step reads, without those of the arguments of calls
abbrev pub own_step_reads : Statement-F (List BitRange) → List BitRange
own_step_reads (f.Assign n t e) = assignment_reads t e
own_step_reads (f.Later n ticks t e) = assignment_reads t e
own_step_reads (f.If n e a b) = reads e
own_step_reads (f.Case n kind x items) = reads x ++ joined (map (λ (i : Vec Typed Global × List BitRange). all_reads i.0.items) items.items)
own_step_reads (f.While n e body) = reads e
own_step_reads (f.Repeat n signed e body) = reads e
own_step_reads _ = []

-- one layer of a statement: what each inner statement has
abbrev pub inner_step : {A : Type 0} → Statement-F (List A) → List A
inner_step (f.Block all) = joined all.items
inner_step (f.Delay n ticks body) = body.value
inner_step (f.Event n terms body) = body.value
inner_step (f.If n e a b) = a.value ++ b.value
inner_step {A} (f.Case n kind x items) = joined (map (λ (i : Vec Typed Global × List A). i.1) items.items)
inner_step (f.While n e body) = body.value
inner_step (f.Repeat n signed e body) = body.value
inner_step (f.Forever n body) = body.value
inner_step _ = []

abbrev pub text_reads_step : Statement-F (List BitRange) → List BitRange
text_reads_step x = own_step_reads x ++ inner_step x

-- the ranges that a text reads, indices of targets included; arguments of calls and event terms are none
abbrev pub text_reads : Statement → List BitRange
text_reads = fold-Statement (List BitRange) text_reads_step

abbrev pub reads_for : Option Process → List BitRange
reads_for None = []
reads_for (Some p) = text_reads p.body

-- the ranges that the text of a process reads, and those that it writes, by `=` and by `<=`, the locals of its named blocks included
abbrev pub reads_of : Parts → ℕ → List BitRange
reads_of d i = reads_for (slice_get d.processes i)

abbrev pub writes_of : Parts → ℕ → List BitRange
writes_of d i = outputs d i

-- the text of a process writes the signal
abbrev pub Writes : Parts → ℕ → ℕ → Type 0
Writes d i v = ListsSignal d (writes_of d i) v

-- an event control at a slot-0 point, by the paths of version 3, has this term
pub record IsHeardAtStart (d : Parts) (i : ℕ) (t : EventTerm) : Type 0 where
  pub control : Todo
  pub number : ℕ
  pub terms : List EventTerm
  pub behind : Todo
  pub slot0 : IsSlot0 d true i control
  pub goes : Goes control (wait number terms behind)
  pub is : Contains terms t

-- an event control of the text has this term
pub record HasTerm (d : Parts) (i : ℕ) (t : EventTerm) : Type 0 where
  pub control : Todo
  pub number : ℕ
  pub terms : List EventTerm
  pub behind : Todo
  pub point : IsPoint d i control
  pub goes : Goes control (wait number terms behind)
  pub is : Contains terms t
