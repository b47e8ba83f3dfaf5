use Rattle.std.proofs.Common.{◌∷◌, [], subst, sym}
use Rattle.vs_scopes.specs.passes.Ends.{Gathers, GathersMore, GathersEach}
use Rattle.vs_scopes.proofs.ConnectionLemmas.{gathers_none, mismatch_left}
use Rattle.vs_scopes.proofs.connections.gathered.Goals as goal

pub returns-then-not-branch : goal.returns-then-not-branch
returns-then-not-branch c ns s =
    let g = subst (Gathers ns []) (sym c.new-given.ensures) (gathers_none ns) in
    mismatch_left (c.args.first.now ∷ []) c.args.rest.now ns (subst (λ t. GathersMore ns [] c.args.first.now t c.gather.new.given) c.if-not-branch.true (c.in_ok-gather.ensures ns [] s g))

pub returns-then-not-branch-2 : goal.returns-then-not-branch-2
returns-then-not-branch-2 c ns s =
    let f = c.args.first.now in
    let g = subst (Gathers ns []) (sym c.new-given.ensures) (gathers_none ns) in
    let one = subst (λ t. GathersMore ns [] f t c.gather.new.given) c.if-not-branch.false (c.in_ok-gather.ensures ns [] s g) in
    subst (λ t. GathersEach ns (f ∷ c.args.rest.now) t c.gather_rest.new.given) c.if-not-branch-2.true (c.in_ok-gather_rest.ensures ns f s one)

pub returns : goal.returns
returns c ns s =
    let f = c.args.first.now in
    let g = subst (Gathers ns []) (sym c.new-given.ensures) (gathers_none ns) in
    let one = subst (λ t. GathersMore ns [] f t c.gather.new.given) c.if-not-branch.false (c.in_ok-gather.ensures ns [] s g) in
    subst (λ t. GathersEach ns (f ∷ c.args.rest.now) t c.gather_rest.new.given) c.if-not-branch-2.false (c.in_ok-gather_rest.ensures ns f s one)
