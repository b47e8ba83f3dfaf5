use Rattle.std.proofs.Common.{◌≡◌, ℕ, Some, sym, ◌∙◌, ap}
use Rattle.std.proofs.lemmas.Option.{none-some, same_Some}
use Rattle.vs_claims.specs.facts_passes.Kept.{both_at}
use Rattle.vs_claims.proofs.RootLemmas.{put_one, put_none}
use Rattle.vs_claims.proofs.places.ByRootFamily.put.Goals as goal

pub returns-in-None : goal.returns-in-None
returns-in-None c =
    put_none (λ r. (v : ℕ) × (both_at c.args.self.now.ends.now c.args.i ≡ Some (r, v))) c.args.out.now.items
    (λ r h. none-some (r, h.0) (sym c.in-None.is ∙ c.both.ensures ∙ h.1))

pub returns-in_ok-push-in-Some : goal.returns-in_ok-push-in-Some
returns-in_ok-push-in-Some c =
    let root = c.in-Some.root in
    let v = c.in-Some.field-0-1 in
    put_one (λ r. (v : ℕ) × (both_at c.args.self.now.ends.now c.args.i ≡ Some (r, v))) c.args.out.now.items c.push.new.self.items root
    c.in_ok-push-in-Some.ensures.items (v, sym c.both.ensures ∙ c.in-Some.is)
    (λ r h. ap (λ (x : ℕ × ℕ). x.0) (same_Some (root, v) (r, h.0) (sym c.in-Some.is ∙ c.both.ensures ∙ h.1)))
