use Rattle.std.proofs.Common.{◌↔◌, ℕ, List, Bool, IsTrue, sym, subst}
use Rattle.std.specs.List.{Contains}
use Rattle.std.proofs.lemmas.Result.{IfOk-weaker}
use Rattle.vs_rules.specs.Claims.{is_wide}
use Rattle.vs_cert_roots.specs.First.{SiteAt, StartsSilently}
use Rattle.vs_cert_roots.proofs.FirstRows.{no_place, one_site}
use Rattle.vs_cert_roots.proofs.first.starts_well_in.Goals as goal

pub returns-in-None : goal.returns-in-None
returns-in-None c =
    let K = c.args.first.now in
    let t = c.args.tables.now in
    let v = c.args.v in
    let there = subst (λ (l : List ℕ). (q : ℕ) → (Contains l q ↔ SiteAt (is_wide K.claims) t v q)) (sym c.deref.ensures.value) (c.in_ok-places.ensures t c.requires.text) in
    (λ h. cc, λ w. absurd (no_place K.design K.claims c.args.j t v c.deref.result.now there (λ x. c.in-None.ensures x) w))

pub returns : goal.returns
returns c =
    let K = c.args.first.now in
    let t = c.args.tables.now in
    let v = c.args.v in
    let there = subst (λ (l : List ℕ). (q : ℕ) → (Contains l q ↔ SiteAt (is_wide K.claims) t v q)) (sym c.deref.ensures.value) (c.in_ok-places.ensures t c.requires.text) in
    let l = one_site K.design K.claims c.args.j t v c.in-Some.p c.deref.result.now there (λ x. c.in-Some.ensures x) in
    IfOk-weaker _ (λ (b : Bool). (IsTrue b ↔ StartsSilently K.design K.claims c.args.j t v c.in-Some.p)) _ (λ b e. (λ h. l.0 (e.0 h), λ w. e.1 (l.1 w))) c.starts_silently.ensures
