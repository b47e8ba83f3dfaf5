use Rattle.std.proofs.Common.{ap, drop, arith}
use Rattle.std.proofs.lemmas.List.{drop_all}
use Rattle.vs_scopes.proofs.PassLemmas.{ordered_at, moved, ended}
use Rattle.vs_scopes.specs.Connections.{in_text, in_order}
use Rattle.vs_scopes.specs.Overrides.{first_end}
use Rattle.vs_scopes.specs.passes.Ends.{read_end}
use Rattle.vs_scopes.proofs.connections.ordered.Goals as goal

pub loop-place-preserved : goal.loop-place-preserved
loop-place-preserved c ns h =
    let xs = in_text c.args.first.now c.args.rest.now in
    moved read_end c.loop-place.ends.items c.push.new.self.items c.placed.result (first_end (drop c.loop-place.place xs)) _ _ _ c.in_ok-push.ensures.items c.placed.ensures (ordered_at xs ns c.loop-place.place (omega (arith, h))) (c.loop-place.invariant ns h)

pub returns : goal.returns
returns c ns h =
    let left = drop c.loop-place.place (in_text c.args.first.now c.args.rest.now) in
    ended _ _ _ (ap (in_order left) (drop_all c.loop-place.place ns (omega (arith, h)))) (c.loop-place.invariant ns h)
