use Rattle.std.proofs.Common.{◌≡◌, None, Some, sym, ◌∙◌, subst}
use Rattle.std.proofs.lemmas.Option.{same_Some}
use Rattle.vs_maps.specs.Reaches.{Chart, InSlot0}
use Rattle.vs_claims.proofs.facts.Facts.is_slot0.Goals as goal

pub returns-in-None : goal.returns-in-None
returns-in-None c = (λ t. cc, λ h. let e : None ≡ Some h.0 = c.in-None.ensures ∙ h.1 in cc)

pub returns-in-Some : goal.returns-in-Some
returns-in-Some c =
    let t = c.in-Some.tables.now in (
      λ h. (t, sym c.in-Some.ensures, c.is_early.ensures.0 h),
      λ h. c.is_early.ensures.1 (subst (λ (x : Chart). InSlot0 c.args.wide x c.args.place) (sym (same_Some t h.0 (c.in-Some.ensures ∙ h.1))) h.2),
    )
