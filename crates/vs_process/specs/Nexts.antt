-- Where the paths of a text go.
use Rattle.std.specs.Prelude.{◌++◌, Bool, true, false, List, [], ◌∷◌, map}
use Rattle.std.specs.List.{list_any}
use Rattle.std.specs.declared.vec.Vec.{Vec}
use Rattle.std.specs.declared.alloc.Global.{Global}
use Rattle.vs_design.specs.declared.expression.Typed.{Typed}
use Rattle.vs_design.specs.declared.statement.Statement.{Statement}
use Rattle.vs_design.specs.declared.statement.Statement.TheOpen.{Statement-F}
use Rattle.vs_design.specs.declared.statement.Statement.TheViews.{out-Statement}
use Rattle.vs_process.specs.Places.{Item, perform, turns, Todo, flat}
use Rattle.vs_process.specs.Steps.{Next, on, after, wait, is_default}

-- something that is to be done, but for the turns that a `repeat` has left: 0 stand for any
abbrev pub erased_item : Item → Item
erased_item (perform s) = perform s
erased_item (turns n s) = turns 0 s

-- what is to be done, but for turns that are left
abbrev pub erased : Todo → Todo
erased todo = map erased_item todo

-- where a step leads, but for turns that are left
abbrev pub erased_next : Next → Next
erased_next (on rest) = on (erased rest)
erased_next (after number ticks rest) = after number ticks (erased rest)
erased_next (wait number terms rest) = wait number terms (erased rest)

-- past a `case`, where none of its items is a `default` (clause 9.5)
abbrev pub past : Bool → Todo → List Next
past true rest = []
past false rest = on rest ∷ []

-- where a path can go from a `case`: to each item, or past them
abbrev pub case_nexts : List (Vec Typed Global × Statement) → Todo → List Next
case_nexts items rest = map (λ (i : Vec Typed Global × Statement). on (flat i.1 ++ rest)) items ++ past (list_any is_default items) rest

-- where a path of the text can go from a statement in one step, and how: on, or through a control; every branch and both outcomes of every test
-- count, whatever the stores (profile)
abbrev pub statement_nexts : Statement → Statement-F Statement → Todo → List Next
statement_nexts s (Statement-F.Null n) rest = on rest ∷ []
statement_nexts s (Statement-F.Assign n t e) rest = on rest ∷ []
statement_nexts s (Statement-F.Later n ticks t e) rest = on rest ∷ []
statement_nexts s (Statement-F.Call n c) rest = on rest ∷ []
statement_nexts s (Statement-F.Finish n) rest = on rest ∷ []
statement_nexts s (Statement-F.Block all) rest = on (flat s ++ rest) ∷ []
statement_nexts s (Statement-F.Delay n ticks body) rest = after n ticks.count (flat body.value ++ rest) ∷ []
statement_nexts s (Statement-F.Event n terms body) rest = wait n terms.items (flat body.value ++ rest) ∷ []
statement_nexts s (Statement-F.If n e a b) rest = on (flat a.value ++ rest) ∷ on (flat b.value ++ rest) ∷ []
statement_nexts s (Statement-F.Case n kind x items) rest = case_nexts items.items rest
statement_nexts s (Statement-F.While n e body) rest = on (flat body.value ++ perform s ∷ rest) ∷ on rest ∷ []
statement_nexts s (Statement-F.Repeat n signed e body) rest = on (flat body.value ++ turns 0 body.value ∷ rest) ∷ on rest ∷ []
statement_nexts s (Statement-F.Forever n body) rest = on (flat body.value ++ perform s ∷ rest) ∷ []

-- where a path of the text can go from a point in one step
abbrev pub nexts : Todo → List Next
nexts [] = on [] ∷ []
nexts (perform s ∷ rest) = statement_nexts s (out-Statement s) rest
nexts (turns n s ∷ rest) = on (flat s ++ turns 0 s ∷ rest) ∷ on rest ∷ []
