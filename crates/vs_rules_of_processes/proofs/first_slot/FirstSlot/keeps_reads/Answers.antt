use Rattle.std.proofs.Common.{ℕ, refl, sym, subst}
use Rattle.std.proofs.lemmas.Bool.{false≢true}
use Rattle.vs_maps.specs.vs_rules.specs.Claims.{IsSequential, is_wide}
use Rattle.vs_drivers.specs.vs_maps.specs.Reaches.{InSlot0}
use Rattle.vs_claims.specs.Facts.{Case}
use Rattle.vs_rules_of_processes.specs.FirstSlot.{ReadsOwn}
use Rattle.vs_rules_of_processes.proofs.PlaceLemmas.{reads_past}
use Rattle.vs_rules_of_processes.proofs.SlotLemmas.{all_places, some_reads}
use Rattle.vs_rules_of_processes.proofs.first_slot.FirstSlot.keeps_reads.Goals as goal

pub returns-then-not-is_sequential : goal.returns-then-not-is_sequential
returns-then-not-is_sequential c =
    let i = c.args.i in (
      λ t kind. absurd (false≢true (c.if-not-is_sequential.ensures.1 (subst (λ (x : Case). IsSequential x.design x.claims i) (sym c.self.view_is) kind))),
      λ h. refl,
    )

pub returns : goal.returns
returns c =
    let k = c.args.self.now in
    let t = c.args.tables.now in
    let i = c.args.i in
    some_reads (IsSequential k.design k.claims i) ((p : ℕ) → InSlot0 (is_wide k.claims) t p → ReadsOwn k.design k.claims i t p) c.in_ok-all.all
    (subst (λ (x : Case). IsSequential x.design x.claims i) c.self.view_is (c.if-not-is_sequential.ensures.0 refl))
    (all_places t c.places.result (InSlot0 (is_wide k.claims) t) (ReadsOwn k.design k.claims i t) c.in_ok-all.all c.places.ensures (reads_past k.design k.claims i t) c.in_ok-all.ensures)
