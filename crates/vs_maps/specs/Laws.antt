-- What is reached on a map of a text is what paths of the text lead to.
use Rattle.std.specs.Prelude.{ℕ, ◌≡◌, ◌↔◌, Bool, Some, List, [], ◌∷◌}
use Rattle.std.specs.List.{Contains}
use Rattle.vs_process.specs.Places.{Todo}
use Rattle.vs_process.specs.Steps.{Next}
use Rattle.vs_process.specs.Numbers.{number_next}
use Rattle.vs_process.specs.Ways.{Pause, next_by}
use Rattle.vs_process.specs.Maps.{todo_pause, IsMap, tos_by, steps}
use Rattle.vs_graph.specs.Reached.{Reached}
use Rattle.vs_rules.specs.Points.{Point}
use Rattle.vs_rules.specs.Paths.{Path}

-- a path by such ways is one by such pauses
abbrev pub Alike : (Next → Bool) → (Pause → Bool) → Type 0
Alike ok passes = (pause : Pause) (l : Todo) → ok (next_by pause l) ≡ passes pause

-- a way of this sort leads to the place, from a place of the map that is a point
pub record IsBegun
    (at : ℕ → Todo) (start : ℕ) (behind : ℕ → ℕ) (tos : ℕ → List ℕ) (sort : Todo → Next → Type 0) (seed : ℕ) : Type 0 where
  pub point : ℕ
  pub reached : Reached (steps behind tos) (start ∷ []) point
  pub leads : Contains (tos point) seed
  pub starts : sort (at point) (next_by (todo_pause (at point)) (at seed))

-- of a map of a text: each point is a place that is reached, and each place where a statement is done is reached exactly where it is a
-- point; alike for paths
pub record IsExactMap (first : Todo) (at : ℕ → Todo) (start : ℕ) (behind : ℕ → ℕ) (tos : ℕ → List ℕ) : Type 0 where
  pub points : (k : Todo) → Point first k → (p : ℕ) × Reached (steps behind tos) (start ∷ []) p × (at p ≡ k)
  pub point : (p n : ℕ) → number_next (at p) ≡ Some n → (Reached (steps behind tos) (start ∷ []) p ↔ Point first (at p))
  pub paths : (ok : Next → Bool) (passes : Pause → Bool) → Alike ok passes → (p : ℕ) (l : Todo) → Path ok (at p) l →
      (q : ℕ) × Reached (tos_by passes at tos) (p ∷ []) q × (at q ≡ l)
  pub path : (ok : Next → Bool) (passes : Pause → Bool) → Alike ok passes → (p q n : ℕ) → number_next (at q) ≡ Some n →
      (Reached (tos_by passes at tos) (p ∷ []) q ↔ Path ok (at p) (at q))

abbrev pub MapsAreExact : Type 0
MapsAreExact = (first : Todo) (at : ℕ → Todo) (start : ℕ) (behind : ℕ → ℕ) (tos : ℕ → List ℕ) → IsMap first at start behind tos →
    IsExactMap first at start behind tos
