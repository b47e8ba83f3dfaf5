use Rattle.std.proofs.Common.{◌≡◌, ℕ, ◌%◌, Bool, List, refl, sym, ◌∙◌, ap, subst, arith}
use Rattle.std.specs.List.{Contains}
use Rattle.std.proofs.lemmas.Bool.{false≢true}
use Rattle.vs_rules.specs.Claims.{is_wide}
use Rattle.vs_maps.specs.Reaches.{InSlot0}
use Rattle.vs_claims.specs.Facts.{Case}
use Rattle.vs_rules_of_processes.proofs.residues.Waits.starts_well.Goals as goal

pub returns-then-ticks-eq0 : goal.returns-then-ticks-eq0
returns-then-ticks-eq0 c = (λ t early some. absurd (omega (arith, some, c.if-ticks-eq0.true)), λ h. refl)

pub returns-then-not-is_slot0 : goal.returns-then-not-is_slot0
returns-then-not-is_slot0 c =
    let s = c.args.self.now in
    let version : c.is_wide.result ≡ is_wide s.slots.now.claims = c.is_wide.ensures ∙ ap (λ (k : Case). is_wide k.claims) c.facts.ensures in
    (λ t early some. absurd (false≢true (c.if-not-is_slot0.ensures.1 (subst (λ (wide : Bool). InSlot0 wide s.tables.now c.args.place) (sym version) early))), λ h. refl)

pub returns : goal.returns
returns c =
    let s = c.args.self.now in
    let version : c.is_wide.result ≡ is_wide s.slots.now.claims = c.is_wide.ensures ∙ ap (λ (k : Case). is_wide k.claims) c.facts.ensures in
    let early = subst (λ (wide : Bool). InSlot0 wide s.tables.now c.args.place) version (c.if-not-is_slot0.ensures.0 refl) in
    let r = c.args.ticks % s.modulus in (
      λ t early some. subst (λ (l : List ℕ). Contains l r) c.of.ensures (c.has_residue.ensures.0 t),
      λ h. c.has_residue.ensures.1 (subst (λ (l : List ℕ). Contains l r) (sym c.of.ensures) (h early (omega (arith, c.if-ticks-eq0.false)))),
    )
