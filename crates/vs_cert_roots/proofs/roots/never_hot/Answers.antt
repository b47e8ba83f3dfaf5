use Rattle.std.proofs.Common.{◌≡◌, ◌↔◌, Bool, IsTrue, IfOk, Some, slice_get, refl, sym, subst}
use Rattle.std.proofs.lemmas.Result.{IfOk-weaker}
use Rattle.vs_rules.specs.Claims.{IsDelay, IsWriter, is_wide}
use Rattle.vs_rules_of_signals.specs.vs_claims.specs.Facts.{Case}
use Rattle.vs_rules_of_signals.specs.Places.{NeverHotIn}
use Rattle.vs_cert_roots.proofs.HotLemmas.{past_never_hot, roots_by_places}
use Rattle.vs_drivers.specs.vs_maps.proofs.TermLemmas.{chart_is}
use Rattle.vs_cert_roots.proofs.TermLemmas.{no_chart}
use Rattle.vs_cert_roots.proofs.roots.never_hot.Goals as goal

pub returns-in-None : goal.returns-in-None
returns-in-None c =
    let F = c.args.facts.now in
    (λ t. past_never_hot F.design (is_wide F.claims) c.args.i c.args.v (no_chart F.design F.charts c.maps.ensures c.args.i c.in-None.ensures), λ h. refl)

pub returns-in-Some : goal.returns-in-Some
returns-in-Some c =
    let F = c.args.facts.now in
    let t = c.in-Some.tables.now in
    let h = chart_is F.design F.charts c.maps.ensures c.args.i t (sym c.in-Some.ensures) in
    let l = roots_by_places F.design (is_wide F.claims) c.args.i h.process t.stops t.start c.args.v h.is h.text in
    IfOk-weaker _ (λ (b : Bool). (IsTrue b ↔ NeverHotIn (is_wide F.claims) t c.args.v)) _ (λ b e. (λ k. l.0 (e.0 k), λ k. e.1 (l.1 k)))
    (subst (λ (k : Case). IfOk c.never_hot_by.result (λ b. (IsTrue b ↔ NeverHotIn (is_wide k.claims) t c.args.v))) c.requires.writes c.never_hot_by.ensures)

pub never_hot_by-requires-clause-text : goal.never_hot_by-requires-clause-text
never_hot_by-requires-clause-text c =
    subst (λ (k : Case). slice_get k.charts c.args.i ≡ Some c.in-Some.tables.now) (sym c.requires.writes) (sym c.in-Some.ensures)

pub never_hot_by-requires-clause-delay : goal.never_hot_by-requires-clause-delay
never_hot_by-requires-clause-delay c = subst (λ (k : Case). IsDelay k.design k.claims c.args.i) (sym c.requires.writes) c.requires.delay

pub never_hot_by-requires-clause-writer : goal.never_hot_by-requires-clause-writer
never_hot_by-requires-clause-writer c = subst (λ (k : Case). IsWriter k.design k.claims c.args.v c.args.i) (sym c.requires.writes) c.requires.writer
