-- The continuous assignments at their places in the order of a certificate.
use Rattle.std.specs.Prelude.{ℕ, ◌≡◌, ◌<◌, ◌⊎◌, Some, None, Option, List, option_map, slice_get}
use Rattle.vs_design.specs.Parts.{Parts}
use Rattle.vs_rules.specs.Claims.{Claims, Name, assign_name, place_of}

-- the place of a continuous assignment in the order, by its number
abbrev pub place_at : Parts → Claims → ℕ → Option ℕ
place_at d c j = option_map (λ (n : Name). place_of n c.order) (assign_name (slice_get d.assigns j))

-- a table that has grown by entries of none
pub record IsGrown (none : ℕ) (old new : List ℕ) : Type 0 where
  pub kept : (i x : ℕ) → slice_get old i ≡ Some x → slice_get new i ≡ Some x
  pub other : (i x : ℕ) → slice_get new i ≡ Some x → (slice_get old i ≡ Some x) ⊎ (x ≡ none)

-- and one that has a number at a place besides
pub record IsPut (place x none : ℕ) (old new : List ℕ) : Type 0 where
  pub here : slice_get new place ≡ Some x
  pub kept : (i y : ℕ) → (i ≡ place → ⊥) → slice_get old i ≡ Some y → slice_get new i ≡ Some y
  pub other : (i y : ℕ) → (i ≡ place → ⊥) → slice_get new i ≡ Some y → (slice_get old i ≡ Some y) ⊎ (y ≡ none)

-- the same, where there is a place
abbrev pub IsPutWhere : Option ℕ → ℕ → ℕ → List ℕ → List ℕ → Type 0
IsPutWhere None x none old new = new ≡ old
IsPutWhere (Some place) x none old new = IsPut place x none old new

-- the continuous assignments below a number stand at their places, and no other ones
pub record AreAtPlaces (d : Parts) (c : Claims) (none k : ℕ) (table : List ℕ) : Type 0 where
  pub sound : (i x : ℕ) → slice_get table i ≡ Some x → (x ≡ none) ⊎ ((x < k) × (place_at d c x ≡ Some i))
  pub complete : (j p : ℕ) → j < k → place_at d c j ≡ Some p → slice_get table p ≡ Some j
