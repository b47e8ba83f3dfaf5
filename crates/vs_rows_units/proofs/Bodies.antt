-- The numbers of the statements of a body.
use Rattle.std.proofs.Common.{◌≡◌, true, List, [], ◌∷◌, map, ◌∙◌, ap}
use Rattle.std.specs.Prelude.{Vec}
use Rattle.std.specs.declared.alloc.Global.{Global}
use Rattle.vs_design.specs.declared.expression.Typed.{Typed}
use Rattle.vs_design.specs.declared.statement.Call.{Call}
use Rattle.vs_design.specs.declared.statement.Statement.{Statement}
use Rattle.vs_design.specs.declared.statement.Statement.TheVariants as d
use Rattle.vs_design.specs.declared.statement.Target.{Target}
use Rattle.vs_design.specs.declared.statement.Ticks.{Ticks}
use Rattle.vs_design.specs.Uses.{joined}
use Rattle.vs_design.specs.WellFormed.{counts_from, numbers}
use Rattle.vs_design.proofs.FormLemmas.{numbers_Assign, numbers_Later, numbers_Call, numbers_Finish, numbers_Block}

-- a block of two calls, two blocking assignments and a nonblocking one, and a `$finish`, in the order of its numbers
pub body_counts : (v : Vec Statement Global) (a b : Call) (t u w : Target) (x y z : Typed) (ticks : Ticks) →
    v.items ≡ d.Call 0 a ∷ d.Assign 1 t x ∷ d.Assign 2 u y ∷ d.Call 3 b ∷ d.Later 4 ticks w z ∷ d.Finish 5 ∷ [] →
    counts_from 0 (numbers (d.Block v)) ≡ true
body_counts v a b t u w x y z ticks is =
    ap (counts_from 0) (numbers_Block v ∙ ap (λ (all : List Statement). joined (map numbers all)) is)
    ∙ simp (numbers_Call, numbers_Assign, numbers_Later, numbers_Finish)
