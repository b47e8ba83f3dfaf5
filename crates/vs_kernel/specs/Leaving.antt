-- Processes that go on between events.
use Rattle.std.specs.Prelude.{ℕ, List, [], ◌∷◌}
use Rattle.vs_design.specs.Stores.{changed_at}

-- a list of which the elements of these numbers are changed, one after another
abbrev pub changed_each : {A : Type 0} → (A → A) → List ℕ → List A → List A
changed_each f [] xs = xs
changed_each f (n ∷ ns) xs = changed_each f ns (changed_at f n xs)
