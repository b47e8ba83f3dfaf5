-- The places at which signals are written by their writers, and the ranks of processes.
use Rattle.std.proofs.Common.{◌≡◌, ℕ, ◌+◌, ◌<◌, ◌⊎◌, inl, inr, List, [], ◌∷◌, ◌++◌, length, refl, sym, ◌∙◌, ap, subst, arith}
use Rattle.std.specs.List.{Contains}
use Rattle.std.proofs.lemmas.List.{length-append}
use Rattle.vs_graph.specs.Rows.{row}
use Rattle.vs_maps.specs.Sites.{IsSite, IsWrite, site_of}
use Rattle.vs_maps.specs.declared.sites.Site.{Site}
use Rattle.vs_maps.specs.declared.sites.Use.TheVariants.{Now, Later}
use Rattle.vs_maps.proofs.SiteLemmas.{row_before, row_last}
use Rattle.vs_maps.specs.vs_rules.specs.Claims.{IsWriter}
use Rattle.vs_claims.specs.Facts.{Case}
use Rattle.vs_rules_of_signals.specs.Ranks.{AreAllPlaces, ArePlacesOf}

-- a signal that has no writer
pub none_placed : (f : Case) (v : ℕ) (row : List ℕ) → ((i : ℕ) → IsWriter f.design f.claims v i → ⊥) → ArePlacesOf f v row
none_placed f v row not i t is writer p place writes = absurd (not i writer)

-- the places of the sites of its writer that are writes
pub writer_placed : (f : Case) (v j : ℕ) (sites : List Site) (row : List ℕ) → ((i : ℕ) → IsWriter f.design f.claims v i → i ≡ j) →
    ((s : Site) → IsSite f.charts s → s.range.signal ≡ v → Contains sites s) →
    ((p : ℕ) (s : Site) → Contains sites s → s.process ≡ j → s.place ≡ p → IsWrite s.usage → Contains row p) → ArePlacesOf f v row
writer_placed f v j sites row one filed placed i t is writer p place (inl (r, has, of)) =
    placed p (site_of i p Now r) (filed (site_of i p Now r) (record { chart = t; is = is; point = place; uses = has }) of) (one i writer) refl tt
writer_placed f v j sites row one filed placed i t is writer p place (inr (r, has, of)) =
    placed p (site_of i p Later r) (filed (site_of i p Later r) (record { chart = t; is = is; point = place; uses = has }) of) (one i writer) refl tt

-- no rows
pub none_rows : (f : Case) (table : List (List ℕ)) → table ≡ [] → (length table ≡ 0) × AreAllPlaces f table
none_rows f table e = (ap length e, λ v within. absurd (omega (arith, within, ap length e)))

-- a row more
pub more_placed : (f : Case) (old new : List (List ℕ)) (n : ℕ) (more : List ℕ) → length old ≡ n → new ≡ old ++ more ∷ [] → AreAllPlaces f old → ArePlacesOf f n more → AreAllPlaces f new
more_placed f old new n more long made before here v within = subst (λ rs. ArePlacesOf f v (row rs v)) (sym made) (elim (below_or v n (omega (arith, within, made_long))) [
  | inl l ↦ subst (ArePlacesOf f v) (sym (row_before old more v (omega (arith, l, long)))) (before v (omega (arith, l, long)))
  | inr e ↦ subst (λ k. ArePlacesOf f k (row (old ++ more ∷ []) k)) (long ∙ sym e) row_last_here
]) where
  below_or : (i k : ℕ) → i < k + 1 → (i < k) ⊎ (i ≡ k)
  below_or i k h = grind (arith, h)

  made_long : length new ≡ n + 1
  made_long = ap length made ∙ length-append old (more ∷ []) ∙ ap (λ k. k + 1) long

  row_last_here : ArePlacesOf f (length old) (row (old ++ more ∷ []) (length old))
  row_last_here = subst (ArePlacesOf f (length old)) (sym (row_last old more)) (subst (λ k. ArePlacesOf f k more) (sym long) here)
