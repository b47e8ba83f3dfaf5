use Rattle.std.proofs.Common.{ℕ, List, [], ◌∷◌, is_some, ap, sym, ◌∙◌}
use Rattle.std.specs.Borrow.{Bor}
use Rattle.std.proofs.lemmas.List.{map-append}
use Rattle.vs_scopes.specs.scopes_passes.Answers.{borrowed}
use Rattle.vs_elab_signals.proofs.InnerLemmas.{keeps_old, keeps_fresh}
use Rattle.vs_elab_signals.proofs.inner.keep_fresh.Goals as goal

pub returns-then-is_some : goal.returns-then-is_some
returns-then-is_some c ns h =
    keeps_old c.args.name.now ns c.args.there.now (borrowed c.args.kept.now.items) (sym (ap is_some c.find.ensures) ∙ sym c.is_some.ensures ∙ c.if-is_some.true) h

pub returns : goal.returns
returns c ns h =
    keeps_fresh c.args.name.now ns c.args.there.now c.bind.new.self (borrowed c.args.kept.now.items) (borrowed c.push.new.self.items) (sym (ap is_some c.find.ensures) ∙ sym c.is_some.ensures ∙ c.if-is_some.false) c.in_ok-bind.ensures
    (ap borrowed c.in_ok-push.ensures.items ∙ map-append (λ (n : Bor (List ℕ)). n.now) c.args.kept.now.items (c.args.name ∷ [])) h
