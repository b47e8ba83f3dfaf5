use Rattle.std.proofs.Common.{◌≡◌, ℕ, ◌+◌, ◌-◌, ◌<◌, List, ◌∷◌, length, drop, get_or, ap, sym, subst, ◌∙◌, arith}
use Rattle.std.specs.Borrow.{Bor}
use Rattle.std.proofs.lemmas.List.{drop_more}
use Rattle.vs_scopes.specs.Declarations.{each_once}
use Rattle.vs_scopes.specs.scopes_passes.Answers.{borrowed}
use Rattle.vs_elab_signals.specs.signal_passes.Naming.{KeepsOnce}
use Rattle.vs_elab_signals.proofs.InnerLemmas.{map_reverse}
use Rattle.vs_elab_signals.proofs.inner.once_from_last.Goals as goal

-- the last names, with one more of them
more_last : (list : List (Bor (List ℕ))) (s : ℕ) (d : Bor (List ℕ)) → s < length list → borrowed (drop (length list - (s + 1)) list) ≡ (get_or list (length list - 1 - s) d).now ∷ borrowed (drop (length list - s) list)
more_last list s d h =
    let k = length list - (s + 1) in
    let here : k ≡ length list - 1 - s = omega arith in
    let next : k + 1 ≡ length list - s = omega arith in
    ap borrowed (drop_more list k d (omega arith)) ∙ ap (λ j. (get_or list j d).now ∷ borrowed (drop (k + 1) list)) here ∙ ap (λ j. (get_or list (length list - 1 - s) d).now ∷ borrowed (drop j list)) next

pub loop-step-preserved : goal.loop-step-preserved
loop-step-preserved c =
    subst (λ z. KeepsOnce z c.keep_fresh.new.there (borrowed c.keep_fresh.new.kept.items)) (sym (more_last c.args.list.now c.loop-step.step _ (omega arith))) (c.in_ok-keep_fresh.ensures _ c.loop-step.invariant)

pub returns : goal.returns
returns c =
    let none : length c.args.list.now - c.loop-step.step ≡ 0 = omega arith in
    map_reverse (λ (n : Bor (List ℕ)). n.now) c.loop-step.kept.items ∙ c.loop-step.invariant.once ∙ ap (λ k. each_once (borrowed (drop k c.args.list.now))) none
