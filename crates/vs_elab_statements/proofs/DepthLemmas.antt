-- Depths of statements.
use Rattle.std.proofs.Common.{◌≡◌, ℕ, max, ◌<◌, ◌≤◌, List, length, get_or, subst, sym, rules, arith}
use Rattle.std.specs.declared.vec.Vec.{Vec}
use Rattle.std.specs.declared.boxed.Box.{Box}
use Rattle.std.specs.declared.alloc.Global.{Global}
use denote.Param.Weighed.{most, at_most}
use Rattle.vs_design.specs.vs_logic4.specs.declared.case.CaseKind.{CaseKind}
use Rattle.vs_syntax.specs.declared.tree.Expr.{Expr}
use Rattle.vs_syntax.specs.declared.tree.CaseLabel.{CaseLabel}
use Rattle.vs_syntax.specs.declared.tree.Stmt.{Stmt, size-Stmt, the_lemmas}
use Rattle.vs_syntax.specs.declared.tree.Stmt.TheVariants as s

-- the depth of the deepest statement of some items of a `case`
abbrev pub items_depth : List (CaseLabel × Stmt) → ℕ
items_depth xs = most (λ (x : CaseLabel × Stmt). max 0 (max (size-Stmt x.1) 0)) xs

-- the statements of the items of a `case` are less deep than it
pub items_falls : (k : CaseKind) (e : Box Expr Global) (v : Vec (CaseLabel × Stmt) Global) → items_depth v.items < size-Stmt (s.Case k e v)
items_falls k e v = search (rules, the_lemmas)

-- the statement of an item is at most as deep as the deepest
pub item_within : (xs : List (CaseLabel × Stmt)) (i : ℕ) (x : CaseLabel × Stmt) → i < length xs → x ≡ get_or xs i x → size-Stmt x.1 ≤ items_depth xs
item_within xs i x p h =
    let k : max 0 (max (size-Stmt x.1) 0) ≤ items_depth xs = subst (λ (y : CaseLabel × Stmt). max 0 (max (size-Stmt y.1) 0) ≤ items_depth xs) (sym h) (at_most (λ (y : CaseLabel × Stmt). max 0 (max (size-Stmt y.1) 0)) xs i x p) in
    omega arith
