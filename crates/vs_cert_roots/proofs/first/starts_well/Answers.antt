use Rattle.std.proofs.Common.{◌≡◌, ◌↔◌, Bool, IsTrue, Some, None, slice_get, sym, ap, ◌∙◌}
use Rattle.std.proofs.lemmas.Result.{IfOk-weaker}
use Rattle.vs_rules_of_signals.specs.vs_claims.specs.Facts.{Case}
use Rattle.vs_cert_roots.specs.First.{StartsWellIn}
use Rattle.vs_cert_roots.proofs.FirstRows.{well_at}
use Rattle.vs_cert_roots.proofs.first.starts_well.Goals as goal

pub returns-in-None : goal.returns-in-None
returns-in-None c = (
  λ t. cc,
  λ w. let e : None ≡ Some w.0 = c.in-None.ensures ∙ ap (λ (k : Case). slice_get k.charts c.args.j) (c.facts.ensures ∙ c.first.view_is) ∙ w.1 in cc,
)

pub starts_well_in-requires-clause-text : goal.starts_well_in-requires-clause-text
starts_well_in-requires-clause-text c = sym (c.in-Some.ensures ∙ ap (λ (k : Case). slice_get k.charts c.args.j) (c.facts.ensures ∙ c.first.view_is))

pub returns-in-Some : goal.returns-in-Some
returns-in-Some c =
    let K = c.args.first.now in
    let t = c.in-Some.tables.now in
    let l = well_at K.design K.claims K.charts c.args.j c.args.v t (sym (c.in-Some.ensures ∙ ap (λ (k : Case). slice_get k.charts c.args.j) (c.facts.ensures ∙ c.first.view_is))) in
    IfOk-weaker _ (λ (b : Bool). (IsTrue b ↔ StartsWellIn K.design K.claims c.args.j t c.args.v)) _ (λ b e. (λ h. l.0 (e.0 h), λ w. e.1 (l.1 w))) c.starts_well_in.ensures
