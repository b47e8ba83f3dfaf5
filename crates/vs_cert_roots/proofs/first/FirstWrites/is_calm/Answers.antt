use Rattle.std.proofs.Common.{◌≡◌, ◌↔◌, ◌<◌, ℕ, Option, Some, None, IsTrue, length, refl, subst, ◌∙◌}
use Rattle.vs_design.specs.vs_logic4.specs.declared.digit.Digit.{Digit}
use Rattle.vs_rules_of_signals.specs.vs_claims.specs.Facts.{Case, IsRootAt}
use Rattle.vs_cert_roots.specs.First.{KeepsFirst, WakesSignal, left_out}
use Rattle.vs_cert_roots.proofs.FirstRows.{no_entry_calm, other_root_calm, entry_calm, entry_within}
use Rattle.vs_cert_roots.proofs.SeenLemmas.{woken_is}
use Rattle.vs_cert_roots.proofs.first.FirstWrites.is_calm.Goals as goal

-- what an entry is told to be, of a case
abbrev Told : Case → ℕ → Option (ℕ × ℕ) → Type 0
Told k place o = (r v : ℕ) → (IsRootAt k.design k.claims.edges place r v ↔ o ≡ Some (r, v))

pub returns-in-None : goal.returns-in-None
returns-in-None c =
    let K = c.args.self.now in
    let here = subst (λ (o : Option (ℕ × ℕ)). Told c.facts.result.now c.args.place o) c.in-None.is c.edge.ensures in
    let f = subst (λ (k : Case). Told k c.args.place None) (c.facts.ensures ∙ c.self.view_is) here in
    (λ t. no_entry_calm K.design K.claims c.args.writer c.args.place c.args.root c.args.digit f, λ n. refl)

pub returns-then-of-root : goal.returns-then-of-root
returns-then-of-root c =
    let K = c.args.self.now in
    let here = subst (λ (o : Option (ℕ × ℕ)). Told c.facts.result.now c.args.place o) c.in-Some.is c.edge.ensures in
    let f = subst (λ (k : Case). Told k c.args.place (Some (c.in-Some.of, c.in-Some.v))) (c.facts.ensures ∙ c.self.view_is) here in
    (λ t. other_root_calm K.design K.claims c.args.writer c.args.place c.args.root c.in-Some.of c.in-Some.v c.args.digit f c.if-of-root.true, λ n. refl)

pub is_calm-requires : goal.is_calm-requires
is_calm-requires c =
    let F = c.facts.result.now in
    let here = subst (λ (o : Option (ℕ × ℕ)). Told F c.args.place o) c.in-Some.is c.edge.ensures in
    subst (λ (k : Case). c.in-Some.v < length k.design.signals) c.facts.ensures
    (entry_within F.design F.claims.edges c.args.place c.in-Some.of c.in-Some.v ((here c.in-Some.of c.in-Some.v).1 refl))

pub returns-else-of-root : goal.returns-else-of-root
returns-else-of-root c =
    let K = c.args.self.now in
    let here = subst (λ (o : Option (ℕ × ℕ)). Told c.facts.result.now c.args.place o) c.in-Some.is c.edge.ensures in
    let f = subst (λ (k : Case). Told k c.args.place (Some (c.in-Some.of, c.in-Some.v))) (c.facts.ensures ∙ c.self.view_is) here in
    let l = entry_calm K.design K.claims c.args.writer c.args.place c.args.root c.in-Some.of c.in-Some.v c.args.digit f c.if-of-root.false in
    let inverted = c.self.inside.inverted.now in
    let inv : KeepsFirst K inverted = subst (λ (k : Case). KeepsFirst k inverted) c.self.view_is c.self.invariant in
    let except = left_out c.args.writer c.args.root c.in-Some.v in
    let g = woken_is K.design K.claims except inverted inv.inverted_are c.in-Some.v c.args.digit in
    let same = λ (k : Case) (out : Option ℕ) (digit : Digit). IsTrue c.is_calm.result ↔ (WakesSignal k.design k.claims out c.in-Some.v digit → ⊥) in
    let here_calm = subst (λ (k : Case). same k c.left_out-except.result c.shown.result) c.self.view_is c.is_calm.ensures in
    let e = subst (same K except) c.shown.ensures (subst (λ (out : Option ℕ). same K out c.shown.result) c.left_out-except.ensures here_calm) in
    (λ t. l.0 (λ w. e.0 t (g.1 w)), λ n. e.1 (λ w. l.1 n (g.0 w)))
