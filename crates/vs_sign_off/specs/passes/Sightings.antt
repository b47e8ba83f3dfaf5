-- What the orders of a search show.
use Rattle.vs_design.specs.Parts.{Parts}
use Rattle.vs_sign_off.specs.Witnesses.{IsLineWitness, IsWitness}
use Rattle.vs_sign_off.specs.declared.racing.Sighting.{Sighting}
use Rattle.vs_sign_off.specs.declared.racing.Sighting.TheVariants.{Shown, ShownLine, Missed}

-- a witness is one of the design
abbrev pub IsSighting : Parts → Sighting → Type 0
IsSighting d (Shown w) = IsWitness d w
IsSighting d (ShownLine w) = IsLineWitness d w
IsSighting d (Missed missed) = Unit {0}
