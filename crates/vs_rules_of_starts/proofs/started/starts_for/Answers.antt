use Rattle.std.proofs.Common.{ℕ, ◌↔◌, ◌∙◌, IsTrue, ap, subst, sym}
use Rattle.std.proofs.lemmas.Result.{IfOk-weaker}
use Rattle.vs_design.specs.Parts.{Parts}
use Rattle.vs_claims.specs.Facts.{seen}
use Rattle.vs_rules_of_starts.specs.Beginnings.{AreNamed, StartsSurely}
use Rattle.vs_rules_of_starts.specs.Started.{StartsFor}
use Rattle.vs_rules_of_starts.proofs.StartedLemmas.{starts_by_map}
use Rattle.vs_rules_of_starts.proofs.StartLemmas.{no_chart}
use Rattle.vs_rules_of_starts.proofs.started.starts_for.Goals as goal

pub returns-in-None : goal.returns-in-None
returns-in-None c =
    absurd (no_chart c.args.facts.now.design c.args.facts.now.charts c.maps.ensures c.args.w c.requires (sym c.tables.ensures ∙ ap seen c.in-None.is))

pub returns-in-Some : goal.returns-in-Some
returns-in-Some c =
    let f = c.args.facts.now in
    let named = c.args.named.now in
    let t = c.in-Some.tables.now in
    IfOk-weaker c.starts_surely.result
    (λ b. (IsTrue b ↔ StartsSurely c.design.result.now named c.args.g t))
    (λ b. (i : ℕ) → AreNamed f.design i c.args.g named → (IsTrue b ↔ StartsFor f.design i c.args.g c.args.w))
    (λ b h. starts_by_map f.design f.charts c.maps.ensures c.args.w c.requires t (sym c.tables.ensures ∙ ap seen c.in-Some.is) c.args.g named b
    (subst (λ (p : Parts). (IsTrue b ↔ StartsSurely p named c.args.g t)) c.design.ensures h))
    c.starts_surely.ensures
