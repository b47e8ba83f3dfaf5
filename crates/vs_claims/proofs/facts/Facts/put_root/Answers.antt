use Rattle.std.proofs.Common.{ℕ, Some, sym, ◌∙◌, ap}
use Rattle.std.proofs.lemmas.Option.{none-some, same_Some}
use Rattle.vs_claims.specs.Facts.{IsRootAt}
use Rattle.vs_claims.proofs.RootLemmas.{put_one, put_none}
use Rattle.vs_claims.proofs.facts.Facts.put_root.Goals as goal

pub returns-in_ok-push : goal.returns-in_ok-push
returns-in_ok-push c =
    let k = c.args.self.now in
    let root = c.in-Some.root in
    put_one (λ r. IsRootAt k.design k.claims.edges c.args.place r c.args.v) c.args.out.now.items c.push.new.self.items root c.in_ok-push.ensures.items
    ((c.edge.ensures root c.args.v).1 (c.in-Some.is ∙ ap (λ (v : ℕ). Some (root, v)) c.if-of-v.true))
    (λ r h. ap (λ (x : ℕ × ℕ). x.0) (same_Some (root, c.in-Some.of) (r, c.args.v) (sym c.in-Some.is ∙ (c.edge.ensures r c.args.v).0 h)))

pub returns-else-of-v : goal.returns-else-of-v
returns-else-of-v c =
    let k = c.args.self.now in
    put_none (λ r. IsRootAt k.design k.claims.edges c.args.place r c.args.v) c.args.out.now.items
    (λ r h. c.if-of-v.false (ap (λ (x : ℕ × ℕ). x.1) (same_Some (c.in-Some.root, c.in-Some.of) (r, c.args.v) (sym c.in-Some.is ∙ (c.edge.ensures r c.args.v).0 h))))

pub returns-in_default : goal.returns-in_default
returns-in_default c =
    let k = c.args.self.now in
    put_none (λ r. IsRootAt k.design k.claims.edges c.args.place r c.args.v) c.args.out.now.items
    (λ r h. none-some (r, c.args.v) (sym c.in_default.is ∙ (c.edge.ensures r c.args.v).0 h))
