use Rattle.std.proofs.Common.{ℕ, ◌≡◌, ◌↔◌, ◌∙◌, IsTrue, Option, Some, List, length, vec_len, refl, rules, subst, sym}
use Rattle.std.proofs.lemmas.Result.{IfOk-weaker}
use Rattle.std.specs.List.{Contains}
use Rattle.vs_design.specs.declared.range.BitRange.{BitRange}
use Rattle.vs_design.specs.Parts.{Parts}
use Rattle.vs_rules_of_starts.specs.Beginnings.{AreNamed}
use Rattle.vs_rules_of_starts.specs.Started.{AreTerms, IsOf, IsStartedBy, MayStart, StartsFor}
use Rattle.vs_rules_of_starts.proofs.StartedLemmas.{are_named, may_within, no_names, no_start, none_left, some_first, started_is}
use Rattle.vs_rules_of_starts.proofs.starter.is_started.Goals as goal

pub returns-in_default : goal.returns-in_default
returns-in_default c i are =
    no_start c.args.facts.now.design c.args.facts.now.claims i c.args.g
    (subst (λ (o : Option ℕ). (v : ℕ) → (MayStart c.args.facts.now.design c.args.facts.now.claims c.args.g v ↔ o ≡ Some v)) c.in_default.is c.may_start.ensures)

pub returns-then-len-eq0 : goal.returns-then-len-eq0
returns-then-len-eq0 c i are =
    let count : vec_len c.in_ok-named.named ≡ length c.in_ok-named.named.items = search rules in
    no_names c.args.facts.now.design c.args.facts.now.claims i c.args.g c.in_ok-named.named.items
    (are_named c.args.facts.now.design i c.args.g c.args.terms.now c.in_ok-named.named.items are
    (subst (λ (d : Parts). (r : BitRange) → (Contains c.in_ok-named.named.items r ↔ IsOf d c.args.g c.args.terms.now r)) c.requires c.in_ok-named.ensures))
    (none_left c.in_ok-named.named.items (sym count ∙ sym c.len.ensures ∙ c.if-len-eq0.true))

pub starts_for-requires : goal.starts_for-requires
starts_for-requires c =
    may_within c.args.facts.now.design c.args.facts.now.claims c.args.g c.in-Some.w ((c.in-Some.ensures c.in-Some.w).1 refl)

pub returns : goal.returns
returns c =
    let d = c.args.facts.now.design in
    let named = c.in_ok-named.named.items in
    let count : vec_len c.in_ok-named.named ≡ length c.in_ok-named.named.items = search rules in
    let first = some_first named (λ e. c.if-len-eq0.false (c.len.ensures ∙ count ∙ e)) in
    IfOk-weaker c.starts_for.result
    (λ b. (i : ℕ) → AreNamed d i c.args.g c.deref.result.now → (IsTrue b ↔ StartsFor d i c.args.g c.in-Some.w))
    (λ b. (i : ℕ) → AreTerms d i c.args.terms.now → (IsTrue b ↔ IsStartedBy d c.args.facts.now.claims i c.args.g))
    (λ b h i are.
    let all = are_named d i c.args.g c.args.terms.now named are (subst (λ (p : Parts). (r : BitRange) → (Contains named r ↔ IsOf p c.args.g c.args.terms.now r)) c.requires c.in_ok-named.ensures) in
    started_is d c.args.facts.now.claims i c.args.g c.in-Some.w named all first.0 first.1 c.in-Some.ensures b
    (subst (λ (l : List BitRange). (i : ℕ) → AreNamed d i c.args.g l → (IsTrue b ↔ StartsFor d i c.args.g c.in-Some.w)) c.deref.ensures.value h i all))
    c.starts_for.ensures
