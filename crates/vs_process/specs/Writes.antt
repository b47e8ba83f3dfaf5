-- Which bits statements write.
use Rattle.std.specs.Prelude.{List, [], ◌++◌, map}
use Rattle.std.specs.declared.vec.Vec.{Vec}
use Rattle.std.specs.declared.alloc.Global.{Global}
use Rattle.vs_design.specs.declared.expression.Typed.{Typed}
use Rattle.vs_design.specs.declared.range.BitRange.{BitRange}
use Rattle.vs_design.specs.declared.statement.Statement.{Statement}
use Rattle.vs_design.specs.declared.statement.Statement.TheOpen.{Statement-F}
use Rattle.vs_design.specs.declared.statement.Statement.TheOpen as f
use Rattle.vs_design.specs.declared.statement.Statement.TheFolds.{fold-Statement}
use Rattle.vs_design.specs.Uses.{joined, writes}
use Rattle.vs_process.specs.Places.{Item, perform, turns, Todo}

-- one layer of a statement: the ranges that it can write, with those of each inner statement in its place
abbrev pub statement_writes_step : Statement-F (List BitRange) → List BitRange
statement_writes_step (f.Null n) = []
statement_writes_step (f.Assign n t e) = writes t
statement_writes_step (f.Later n ticks t e) = writes t
statement_writes_step (f.Call n c) = []
statement_writes_step (f.Finish n) = []
statement_writes_step (f.Block all) = joined all.items
statement_writes_step (f.Delay n ticks body) = body.value
statement_writes_step (f.Event n terms body) = body.value
statement_writes_step (f.If n e a b) = a.value ++ b.value
statement_writes_step (f.Case n kind x items) = joined (map (λ (i : Vec Typed Global × List BitRange). i.1) items.items)
statement_writes_step (f.While n e body) = body.value
statement_writes_step (f.Repeat n signed e body) = body.value
statement_writes_step (f.Forever n body) = body.value

-- the ranges that a statement can write, those of its text: of each blocking and each nonblocking assignment in it (clause 9.2)
abbrev pub statement_writes : Statement → List BitRange
statement_writes = fold-Statement (List BitRange) statement_writes_step

-- the ranges that something which is to be done can write
abbrev pub item_writes : Item → List BitRange
item_writes (perform s) = statement_writes s
item_writes (turns n s) = statement_writes s

-- the ranges that all that is to be done can write
abbrev pub todo_writes : Todo → List BitRange
todo_writes todo = joined (map item_writes todo)
