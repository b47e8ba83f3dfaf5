use Rattle.std.proofs.Common.{◌≡◌, ◌+◌, ◌++◌, ◌∷◌, [], true, subst, sym, take, drop, arith}
use Rattle.std.proofs.lemmas.List.{take_all}
use Rattle.vs_scopes.specs.passes.Ends.{Gathers, GathersMore, is_named_mismatch}
use Rattle.vs_syntax.specs.vs_logic4.proofs.Basics.{take_push}
use Rattle.vs_scopes.proofs.ConnectionLemmas.{mismatch_left, whole_at}
use Rattle.vs_scopes.proofs.connections.gather_rest.Goals as goal

pub returns-then-not-branch : goal.returns-then-not-branch
returns-then-not-branch c ns first s g =
    let i = c.loop-connection.connection-index in
    let x = c.connection-item.result in
    let before = first ∷ take i c.args.rest.now in
    let bad : is_named_mismatch (before ++ x ∷ []) ns ≡ true = subst (λ t. GathersMore ns before x t c.gather.new.given) c.if-not-branch.true (c.in_ok-gather.ensures ns before s (c.loop-connection.invariant ns first s g)) in
    subst (λ z. is_named_mismatch z ns ≡ true) (whole_at first c.args.rest.now i x (omega arith) c.connection-item.is) (mismatch_left (before ++ x ∷ []) (drop (i + 1) c.args.rest.now) ns bad)

pub loop-connection-preserved : goal.loop-connection-preserved
loop-connection-preserved c ns first s g =
    let i = c.loop-connection.connection-index in
    let x = c.connection-item.result in
    let before = first ∷ take i c.args.rest.now in
    let good : Gathers ns (before ++ x ∷ []) c.gather.new.given = subst (λ t. GathersMore ns before x t c.gather.new.given) c.if-not-branch.false (c.in_ok-gather.ensures ns before s (c.loop-connection.invariant ns first s g)) in
    subst (λ z. Gathers ns (first ∷ z) c.gather.new.given) (sym (take_push c.args.rest.now i x (omega arith) c.connection-item.is)) good

pub returns : goal.returns
returns c ns first s g =
    subst (λ z. Gathers ns (first ∷ z) c.loop-connection.given) (take_all c.loop-connection.connection-index c.args.rest.now (omega arith)) (c.loop-connection.invariant ns first s g)
