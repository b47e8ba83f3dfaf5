-- What processes set signals to, by the sites of their writes.
use Rattle.std.specs.Prelude.{ℕ, ◌≡◌, Some, List}
use Rattle.std.specs.List.{Contains}
use Rattle.vs_design.specs.vs_logic4.specs.declared.digit.Digit.{Digit}
use Rattle.vs_maps.specs.vs_rules.specs.Constants.{bit_of, IsKnown}
use Rattle.vs_slots_constants.specs.Givings.{given_here}
use Rattle.vs_claims.specs.vs_maps.specs.Ranges.{statement_at}
use Rattle.vs_claims.specs.vs_maps.specs.Reaches.{Chart}
use Rattle.vs_maps.specs.Sites.{IsWrite}
use Rattle.vs_maps.specs.declared.sites.Site.{Site}
use Rattle.vs_maps.specs.declared.sites.Use.TheVariants.{Now}

-- a site is a write of a process
abbrev pub IsWriteOf : ℕ → Site → Type 0
IsWriteOf j s = (s.process ≡ j) × IsWrite s.usage

-- the statement at a site gives a signal this digit by `=`, and it is 0 or 1
abbrev pub IsSetAt : Chart → ℕ → Digit → Site → Type 0
IsSetAt t v digit s = (s.usage ≡ Now) × IsKnown digit × (given_here (statement_at t s.place) (bit_of v) ≡ Some digit)

-- each of some sites that is a write of a process does
abbrev pub AreSetTo : Chart → List Site → ℕ → ℕ → Digit → Type 0
AreSetTo t sites v j digit = (s : Site) → Contains sites s → IsWriteOf j s → IsSetAt t v digit s

-- and there is one
abbrev pub AreSetAlike : Chart → List Site → ℕ → ℕ → Digit → Type 0
AreSetAlike t sites v j digit = ((s : Site) × Contains sites s × IsWriteOf j s) × AreSetTo t sites v j digit
