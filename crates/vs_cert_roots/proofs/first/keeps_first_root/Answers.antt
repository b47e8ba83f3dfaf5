use Rattle.std.proofs.Common.{◌≡◌, ◌==◌, ◌↔◌, ℕ, length, Bool, IsTrue, List, refl, sym, ◌∙◌, ap, subst, arith}
use Rattle.std.specs.List.{Contains}
use Rattle.std.proofs.lemmas.Result.{IfOk-weaker}
use Rattle.vs_rules.specs.Claims.{is_wide}
use Rattle.vs_rules_of_signals.specs.vs_claims.specs.Facts.{Case, AreCharts}
use Rattle.vs_cert_roots.specs.First.{HasSite, StartsWell}
use Rattle.vs_cert_roots.proofs.FirstLemmas.{no_root}
use Rattle.vs_cert_roots.proofs.FirstRows.{none_kept, one_kept, within_of_root}
use Rattle.vs_cert_roots.proofs.first.keeps_first_root.Goals as goal

pub returns-then-not-is_root : goal.returns-then-not-is_root
returns-then-not-is_root c = (λ t. no_root c.args.first.now.design c.args.first.now.claims c.args.v (λ r. let f = c.if-not-is_root.ensures.1 r in cc), λ k. refl)

pub writers-requires : goal.writers-requires
writers-requires c = within_of_root c.args.first.now.design c.args.first.now.claims c.args.v (c.if-not-is_root.ensures.0 refl)

pub starts_well-requires : goal.starts_well-requires
starts_well-requires c = within_of_root c.args.first.now.design c.args.first.now.claims c.args.v (c.if-not-is_root.ensures.0 refl)

pub returns-in-Some : goal.returns-in-Some
returns-in-Some c =
    let K = c.args.first.now in
    let maps = subst (λ (k : Case). AreCharts k.design k.charts) c.first.view_is c.first.invariant.maps in
    let root = c.if-not-is_root.ensures.0 refl in
    let are = subst (λ (l : List ℕ). (i : ℕ) → (Contains l i ↔ HasSite (is_wide K.claims) K.charts i c.args.v)) (sym c.deref.ensures.value) c.in_ok-writers.ensures in
    let l = one_kept K.design K.claims K.charts maps c.args.v c.in-Some.j c.deref.result.now are (λ x. c.in-Some.ensures x) root in
    IfOk-weaker _ (λ (b : Bool). (IsTrue b ↔ StartsWell K.design K.claims K.charts c.in-Some.j c.args.v)) _ (λ b g. (λ t. l.0 (g.0 t), λ h. g.1 (l.1 h))) c.starts_well.ensures

pub returns : goal.returns
returns c =
    let K = c.args.first.now in
    let maps = subst (λ (k : Case). AreCharts k.design k.charts) c.first.view_is c.first.invariant.maps in
    let root = c.if-not-is_root.ensures.0 refl in
    let are = subst (λ (l : List ℕ). (i : ℕ) → (Contains l i ↔ HasSite (is_wide K.claims) K.charts i c.args.v)) (sym c.deref.ensures.value) c.in_ok-writers.ensures in
    let all = c.in_ok-writers.writers in
    let long : all.len ≡ length c.deref.result.now = omega (arith, all.ok.0, ap length c.deref.ensures.value) in
    none_kept K.design K.claims K.charts maps c.args.v c.deref.result.now are (λ x. c.in-None.ensures x) root c.is_empty.result
    (c.is_empty.ensures ∙ ap (λ (n : ℕ). n == 0) long)
