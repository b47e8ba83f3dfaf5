-- Places at which no bit of a signal is read, and there is no control.
use Rattle.std.proofs.Common.{◌≡◌, ℕ, ◌↔◌, Bool, false, IsTrue, List, sym, subst, arith}
use Rattle.std.specs.List.{Contains}
use Rattle.vs_design.specs.declared.range.BitRange.{BitRange}
use Rattle.vs_process.specs.Ways.{none}
use Rattle.vs_graph.specs.Reached.{Reached}
use Rattle.vs_drivers.specs.vs_rules.specs.Paths.{Bit}
use Rattle.vs_claims.specs.vs_maps.specs.Reaches.{Chart, pause_at}
use Rattle.vs_claims.specs.vs_maps.specs.Ranges.{reads_at, HasSignal}
use Rattle.vs_cert_blocks.specs.Starts.{IsClearFrom}
use Rattle.vs_cert_blocks.specs.Walks.{open_tos, IsClear}

pub clear_not : (t : Chart) (v p : ℕ) (row : List BitRange) → row ≡ reads_at t p → HasSignal row v → (IsTrue false ↔ IsClear t v p)
clear_not t v p row e h = (λ f. absurd (grind (arith, f)), λ c. absurd (c.0 (subst (λ (l : List BitRange). HasSignal l v) e h)))

pub clear_is : (t : Chart) (v p : ℕ) (row : List BitRange) → row ≡ reads_at t p → (HasSignal row v → ⊥) → (good : Bool) → (IsTrue good ↔ (pause_at t p ≡ none)) →
    (IsTrue good ↔ IsClear t v p)
clear_is t v p row e never good h = (λ g. (λ s. never (subst (λ (l : List BitRange). HasSignal l v) (sym e) s), h.0 g), λ c. h.1 c.1)

-- so at the places that are found
pub clear_found : (t : Chart) (b : Bit) (seeds found same : List ℕ) → ((k : ℕ) → (Contains found k ↔ Reached (open_tos b t.stops) seeds k)) → same ≡ found →
    (good : Bool) → (IsTrue good ↔ ((p : ℕ) → Contains same p → IsClear t b.signal p)) → (IsTrue good ↔ IsClearFrom t b seeds)
clear_found t b seeds found same are e good h = (
  λ g q r. h.0 g q (subst (λ (l : List ℕ). Contains l q) (sym e) ((are q).1 r)),
  λ all. h.1 (λ p c. all p ((are p).0 (subst (λ (l : List ℕ). Contains l p) e c))),
)
