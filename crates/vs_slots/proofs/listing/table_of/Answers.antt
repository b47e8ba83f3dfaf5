use Rattle.std.proofs.Common.{◌≡◌, ℕ, ◌+◌, ◌<◌, ◌↔◌, [], ◌∷◌, ◌++◌, length, sym, ◌∙◌, ap, subst}
use Rattle.std.specs.List.{Contains}
use Rattle.std.proofs.lemmas.List.{length-append}
use Rattle.vs_slots.proofs.TableLemmas.{AreRows, row_more}
use Rattle.vs_slots.proofs.listing.table_of.Goals as goal

pub loop-i-preserved : goal.loop-i-preserved
loop-i-preserved g c =
    let old = c.loop-i.table in
    let own = c.in_ok-list.list.items in
    let has = g.L.Listing.has c.args.listing.now in
    let e : c.push.new.self ≡ old ++ own ∷ [] = c.in_ok-push.ensures in
    let long : length (old ++ own ∷ []) ≡ length old + 1 = length-append old (own ∷ []) in
    let here : (r : ℕ) → (Contains own r ↔ has (length old) r) = subst (λ (n : ℕ). (r : ℕ) → (Contains own r ↔ has n r)) (sym c.loop-i.invariant.0) c.in_ok-list.ensures in (
      ap length e ∙ long ∙ ap (λ (n : ℕ). n + 1) c.loop-i.invariant.0,
      subst (AreRows has) (sym e) (λ k r h. row_more has old own c.loop-i.invariant.1 here k r (subst (λ (n : ℕ). k < n) long h)),
    )
