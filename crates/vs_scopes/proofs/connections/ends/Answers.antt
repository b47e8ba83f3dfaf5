use Rattle.std.proofs.Common.{◌≡◌, ◌∷◌, ℕ, List, Option, Result, Ok, Err, Some, None, IfOk, subst, sym, Bor}
use Rattle.std.specs.declared.vec.Vec.{Vec}
use Rattle.std.specs.declared.alloc.Global.{Global}
use Rattle.std.specs.declared.alloc.AllocError.{AllocError}
use Rattle.vs_syntax.specs.declared.tree.Expr.{Expr}
use Rattle.vs_syntax.specs.declared.tree.Connection.{Connection}
use Rattle.vs_syntax.specs.declared.tree.Connections.{Connections}
use Rattle.vs_syntax.specs.declared.tree.Connections.TheVariants.{Named}
use Rattle.vs_scopes.specs.passes.Ends.{borrowed, AreEnds, AreNamedEnds}
use Rattle.vs_scopes.proofs.connections.ends.Goals as goal

-- connections by name, as connections
named_are : (k : Connections) (c : Connection) (cs : Vec Connection Global) (rest : List Connection) (ns : List (List ℕ)) (r : Result (Option (Vec (Option (Bor Expr)) Global)) AllocError) → k ≡ Named c cs → rest ≡ cs.items → IfOk r (AreNamedEnds (c ∷ rest) ns) → IfOk r (AreEnds k ns)
named_are k c cs rest ns r e d h = subst (λ z. IfOk r (AreEnds z ns)) (sym e) (by r (subst (λ z. IfOk r (AreNamedEnds (c ∷ z) ns)) d h))
  where
    by : (r : Result (Option (Vec (Option (Bor Expr)) Global)) AllocError) → IfOk r (AreNamedEnds (c ∷ cs.items) ns) → IfOk r (AreEnds (Named c cs) ns)
    by (Ok None) h = h
    by (Ok (Some v)) h = h
    by (Err e) h = h

pub returns-in-Named : goal.returns-in-Named
returns-in-Named c = named_are _ c.in-Named.first c.in-Named.rest c.deref-in-Named.result.now (borrowed c.args.names.now) c.named_ends.result c.in-Named.is c.deref-in-Named.ensures.value c.named_ends.ensures
