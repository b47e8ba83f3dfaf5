use Rattle.std.proofs.Common.{◌∷◌, ◌∙◌, map, ap, subst, ℕ, List, Option}
use Rattle.std.proofs.Math.Path.{fun_ext}
use Rattle.vs_syntax.specs.declared.tree.Expr.{Expr}
use Rattle.vs_scopes.specs.passes.Ends.{borrowed, Gathers, GathersAll}
use Rattle.std.proofs.lemmas.Bool.{or_from as both_false}
use Rattle.vs_scopes.proofs.connections.named_ends.Goals as goal

pub returns-in-Some : goal.returns-in-Some
returns-in-Some c =
    let ns = borrowed c.args.names.now in
    let cs = c.args.first.now ∷ c.args.rest.now in
    let g : Gathers ns cs c.in-Some.given = subst (GathersAll ns cs) c.in-Some.is (c.in_ok-given.ensures ns c.in_ok-set.ensures) in
    (both_false _ _ g.once g.known, c.in_ok-found_for-in-Some.ensures ∙ ap (λ (f : List ℕ → Option Expr). map f ns) (fun_ext g.values))
