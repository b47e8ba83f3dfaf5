use Rattle.std.proofs.Common.{◌≡◌, ℕ, Some, None, slice_index_or, sym, ◌∙◌}
use Rattle.std.proofs.lemmas.Option.{none-some, same_Some}
use Rattle.vs_claims.proofs.RootLemmas.{put_one, put_none}
use Rattle.vs_claims.proofs.places.BySignalFamily.put.Goals as goal

pub returns-in-None : goal.returns-in-None
returns-in-None c =
    put_none (λ v. slice_index_or c.args.self.now.ends.now.signals.items c.args.i None ≡ Some v) c.args.out.now.items
    (λ v h. none-some v (sym c.in-None.is ∙ c.signal.ensures ∙ h))

pub returns-in_ok-push-in-Some : goal.returns-in_ok-push-in-Some
returns-in_ok-push-in-Some c =
    let v = c.in-Some.v in
    put_one (λ w. slice_index_or c.args.self.now.ends.now.signals.items c.args.i None ≡ Some w) c.args.out.now.items c.push.new.self.items v
    c.in_ok-push-in-Some.ensures.items (sym c.signal.ensures ∙ c.in-Some.is) (λ w h. same_Some v w (sym c.in-Some.is ∙ c.signal.ensures ∙ h))
