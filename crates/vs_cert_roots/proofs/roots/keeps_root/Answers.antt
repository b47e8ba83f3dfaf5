use Rattle.std.proofs.Common.{List, ◌↔◌, ℕ, Bool, IsTrue, refl, sym, ap, ◌∙◌, subst}
use Rattle.std.specs.List.{Contains}
use Rattle.std.proofs.lemmas.Result.{IfOk-weaker}
use Rattle.vs_rules_of_signals.specs.vs_claims.specs.Facts.{Case}
use Rattle.vs_cert_roots.specs.Roots.{IsRight}
use Rattle.vs_cert_roots.proofs.HotLemmas.{k6_is, k6_not}
use Rattle.vs_cert_roots.proofs.roots.keeps_root.Goals as goal

pub returns-then-not-has_right_entries : goal.returns-then-not-has_right_entries
returns-then-not-has_right_entries c = (λ t. cc, λ h. c.if-not-has_right_entries.ensures.1 (k6_not c.args.entries.now.design c.args.entries.now.claims c.args.v h))

pub are_right-requires-clause-writes : goal.are_right-requires-clause-writes
are_right-requires-clause-writes c = c.writes.ensures ∙ sym c.facts.ensures

pub are_right-requires-clause-copies : goal.are_right-requires-clause-copies
are_right-requires-clause-copies c = c.requires ∙ ap (λ (k : Case). k.design) (sym c.facts.ensures)

pub returns : goal.returns
returns c =
    let K = c.args.entries.now in
    let v = c.args.v in
    let R = c.in_ok-roots.roots.items in
    let l = k6_is K.design K.claims v R c.in_ok-roots.ensures (c.if-not-has_right_entries.ensures.0 refl) in
    let same = λ (F : Case) (rs : List ℕ) (b : Bool). IsTrue b ↔ ((r : ℕ) → Contains rs r → IsRight F.design F.claims v r) in
    IfOk-weaker _ (λ (b : Bool). same c.facts.result.now c.deref.result.now b) _
    (λ b e.
    let f = subst (λ (k : Case). same k c.deref.result.now b) c.facts.ensures e in
    let g = subst (λ (rs : List ℕ). same K rs b) c.deref.ensures.value f in
    (λ t. l.0 (g.0 t), λ h. g.1 (l.1 h)))
    c.are_right.ensures
