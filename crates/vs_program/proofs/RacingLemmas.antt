-- What is answered of a race says of its source.
use Rattle.std.proofs.Common.{◌≡◌, ◌∙◌, Bool, true, false, List, ℕ, sym}
use Rattle.std.proofs.lemmas.Bool.{false≢true}
use Rattle.vs_design.specs.Parts.{Parts}
use Rattle.vs_sign_off.specs.vs_simulate.specs.Honesty.{Defines}
use Rattle.vs_program_words.specs.vs_certificate.specs.declared.members.Rules.{Rules}
use Rattle.vs_sign_off.specs.Races.{IsAnswerBy}
use Rattle.vs_sign_off.specs.declared.answer.Race.{Race}
use Rattle.vs_sign_off.specs.declared.answer.Race.TheVariants.{Certified, Found, FoundLine, NotFound}

-- what is answered is of a source that defines a design
pub defined_of : (rules : Rules) (source top : List ℕ) (r : Race) → IsAnswerBy rules source top r → (d : Parts) × Defines source top d
defined_of rules source top (Certified c) is = (is.design, is.defined)
defined_of rules source top (Found w refused) is = (is.design, is.defined)
defined_of rules source top (FoundLine w refused) is = (is.design, is.defined)
defined_of rules source top (NotFound missed refused) is = is

-- what is told before a run is no fault of one
pub not_late : {X : Type 0} (b : Bool) → b ≡ true → b ≡ false → X
not_late b early late = absurd (false≢true (sym late ∙ early))
