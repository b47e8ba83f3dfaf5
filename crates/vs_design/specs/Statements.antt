-- What statements read and wait for.
use Rattle.std.specs.Prelude.{ℕ, Bool, true, false, ◌||◌, List, [], ◌++◌, map}
use Rattle.std.specs.List.{list_any}
use Rattle.std.specs.declared.vec.Vec.{Vec}
use Rattle.std.specs.declared.alloc.Global.{Global}
use Rattle.vs_design.specs.declared.expression.Typed.{Typed}
use Rattle.vs_design.specs.declared.range.BitRange.{BitRange}
use Rattle.vs_design.specs.declared.statement.EventTerm.{EventTerm}
use Rattle.vs_design.specs.declared.statement.Target.{Target}
use Rattle.vs_design.specs.declared.statement.FormatArg.{FormatArg}
use Rattle.vs_design.specs.declared.statement.FormatArg.TheVariants as arg
use Rattle.vs_design.specs.declared.statement.Call.{Call}
use Rattle.vs_design.specs.declared.statement.Statement.{Statement}
use Rattle.vs_design.specs.declared.statement.Statement.TheOpen.{Statement-F}
use Rattle.vs_design.specs.declared.statement.Statement.TheOpen as f
use Rattle.vs_design.specs.declared.statement.Statement.TheFolds.{fold-Statement}
use Rattle.vs_design.specs.Uses.{reads, target_reads, joined, is_of}

-- the ranges that expressions read
abbrev pub all_reads : List Typed → List BitRange
all_reads es = joined (map reads es)

-- the ranges that an assignment reads: those of its expression, and those of the indices of its target (clause 6)
abbrev pub assignment_reads : Target → Typed → List BitRange
assignment_reads t e = reads e ++ target_reads t

-- the ranges that an argument of a call reads; `$time` reads none (clause 17.1)
abbrev pub arg_reads : FormatArg → List BitRange
arg_reads (arg.Value signed e) = reads e
arg_reads arg.Time = []

-- the ranges that the arguments of a call read (clause 17.1)
abbrev pub call_reads : Call → List BitRange
call_reads c = joined (map arg_reads c.args.items)

-- one layer of a statement: the ranges that it reads, with those of each inner statement in its place; the terms of an event control are none
abbrev pub statement_reads_step : Statement-F (List BitRange) → List BitRange
statement_reads_step (f.Null n) = []
statement_reads_step (f.Assign n t e) = assignment_reads t e
statement_reads_step (f.Later n ticks t e) = assignment_reads t e
statement_reads_step (f.Call n c) = call_reads c
statement_reads_step (f.Finish n) = []
statement_reads_step (f.Block all) = joined all.items
statement_reads_step (f.Delay n ticks body) = body.value
statement_reads_step (f.Event n terms body) = body.value
statement_reads_step (f.If n e a b) = reads e ++ a.value ++ b.value
statement_reads_step (f.Case n kind x items) =
    reads x ++ joined (map (λ (i : Vec Typed Global × List BitRange). all_reads i.0.items ++ i.1) items.items)
statement_reads_step (f.While n e body) = reads e ++ body.value
statement_reads_step (f.Repeat n signed e body) = reads e ++ body.value
statement_reads_step (f.Forever n body) = body.value

-- the ranges that a statement reads, those of its text: what `@*` before it waits for (clause 9.7.5)
abbrev pub statement_reads : Statement → List BitRange
statement_reads = fold-Statement (List BitRange) statement_reads_step

-- one layer of a statement: the terms of its event controls, with those of each inner statement in its place
abbrev pub event_terms_step : Statement-F (List EventTerm) → List EventTerm
event_terms_step (f.Null n) = []
event_terms_step (f.Assign n t e) = []
event_terms_step (f.Later n ticks t e) = []
event_terms_step (f.Call n c) = []
event_terms_step (f.Finish n) = []
event_terms_step (f.Block all) = joined all.items
event_terms_step (f.Delay n ticks body) = body.value
event_terms_step (f.Event n terms body) = terms.items ++ body.value
event_terms_step (f.If n e a b) = a.value ++ b.value
event_terms_step (f.Case n kind x items) = joined (map (λ (i : Vec Typed Global × List EventTerm). i.1) items.items)
event_terms_step (f.While n e body) = body.value
event_terms_step (f.Repeat n signed e body) = body.value
event_terms_step (f.Forever n body) = body.value

-- the terms of all event controls of a statement (clause 9.7.2)
abbrev pub event_terms : Statement → List EventTerm
event_terms = fold-Statement (List EventTerm) event_terms_step

-- whether an event control of a statement names a signal (clause 9.7.2)
abbrev pub listens : Statement → ℕ → Bool
listens s signal = list_any (λ (t : EventTerm). is_of signal t.range) (event_terms s)

-- one layer of a statement: whether it has a timing control, with the answer for each inner statement in its place
abbrev pub has_control_step : Statement-F Bool → Bool
has_control_step (f.Null n) = false
has_control_step (f.Assign n t e) = false
has_control_step (f.Later n ticks t e) = false
has_control_step (f.Call n c) = false
has_control_step (f.Finish n) = false
has_control_step (f.Block all) = list_any (λ b. b) all.items
has_control_step (f.Delay n ticks body) = true
has_control_step (f.Event n terms body) = true
has_control_step (f.If n e a b) = a.value || b.value
has_control_step (f.Case n kind x items) = list_any (λ (i : Vec Typed Global × Bool). i.1) items.items
has_control_step (f.While n e body) = body.value
has_control_step (f.Repeat n signed e body) = body.value
has_control_step (f.Forever n body) = body.value

-- whether a statement has a timing control: a delay or an event control (clause 9.7); the delay of a nonblocking assignment is none (profile)
abbrev pub has_control : Statement → Bool
has_control = fold-Statement Bool has_control_step
