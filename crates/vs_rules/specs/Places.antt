-- Paths of a text as ways of its flat code: what a checker walks.
use Rattle.std.specs.Prelude.{ℕ, suc, ◌≡◌, Bool, true, Some, List, slice_get}
use Rattle.vs_design.specs.declared.statement.Statement.{Statement}
use Rattle.vs_process.specs.declared.draft.Op.{Op}
use Rattle.vs_process.specs.Codes.{links_of, IsCodeOf}
use Rattle.vs_process.specs.Links.{Link}
use Rattle.vs_process.specs.Places.{Todo, flat}
use Rattle.vs_process.specs.Steps.{Next}
use Rattle.vs_process.specs.Ways.{Way, ways, next_at, point_at}
use Rattle.vs_rules.specs.Points.{Among, Point}
use Rattle.vs_rules.specs.Paths.{Path}

-- the ways of a code that a test passes lead from one place to another
pub data Reach (ok : Next → Bool) (ops : List Op) (from : ℕ) : ℕ → Type 0 where
  begins : Reach ok ops from from
  goes : (p : ℕ) (w : Way) → Reach ok ops from p → Among w (ways ops p) → ok (next_at (links_of ops) w) ≡ true → Reach ok ops from w.to

-- each path of the text from a place is one of the code, and the other way round
pub record ArePaths (ops : List Op) (ok : Next → Bool) (from : ℕ) : Type 0 where
  pub to_code : (k : Todo) → Path ok (point_at (links_of ops) from) k → (p : ℕ) × Reach ok ops from p × (point_at (links_of ops) p ≡ k)
  pub to_text : (p : ℕ) → Reach ok ops from p → Path ok (point_at (links_of ops) from) (point_at (links_of ops) p)

abbrev pub PathsAre : Type 0
PathsAre = (s : Statement) (ops : List Op) (counters start : ℕ) → IsCodeOf s ops counters start → (ok : Next → Bool) (from : ℕ) → ArePaths ops ok from

-- the places of a text: those to which ways lead from its start, and what is behind each
pub data PlaceOf (ops : List Op) (start : ℕ) : ℕ → Type 0 where
  begins : PlaceOf ops start start
  goes : (p : ℕ) (w : Way) → PlaceOf ops start p → Among w (ways ops p) → PlaceOf ops start w.to
  skips : (i : ℕ) (l : Link) → PlaceOf ops start (suc i) → slice_get (links_of ops) i ≡ Some l → PlaceOf ops start l.behind

-- each point of the text is such a place, and the other way round
pub record ArePoints (s : Statement) (ops : List Op) (start : ℕ) : Type 0 where
  pub to_code : (k : Todo) → Point (flat s) k → (p : ℕ) × PlaceOf ops start p × (point_at (links_of ops) p ≡ k)
  pub to_text : (p : ℕ) → PlaceOf ops start p → Point (flat s) (point_at (links_of ops) p)

abbrev pub PointsAre : Type 0
PointsAre = (s : Statement) (ops : List Op) (counters start : ℕ) → IsCodeOf s ops counters start → ArePoints s ops start
