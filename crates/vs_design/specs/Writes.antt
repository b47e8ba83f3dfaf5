-- Writes: what an assignment does to a store.
use Rattle.std.specs.Prelude.{ℕ, ◌==◌, Bool, List}
use Rattle.std.specs.List.{list_any}
use Rattle.vs_design.specs.declared.write.Part.{Part}
use Rattle.vs_design.specs.declared.write.PartList.{PartList}
use Rattle.vs_design.specs.declared.write.PartList.TheVariants.{One, Many}

-- one assignment's write, evaluated: its parts, the lowest first (clause 6); it has at least one
abbrev pub Write : Type 0
Write = List Part

-- whether a write names a signal, in range or not
abbrev pub names : Write → ℕ → Bool
names w signal = list_any (λ (p : Part). p.signal == signal) w

-- whether two writes name one signal
abbrev pub shares : Write → Write → Bool
shares a b = list_any (λ (p : Part). names b p.signal) a

-- the parts that are kept of a write: one, or a list
abbrev pub parts_of : PartList → Write
parts_of (One part) = part
parts_of (Many parts) = parts.items
