-- What the program tells of a search for a race.
use Rattle.std.specs.Prelude.{ℕ, ◌≡◌, Option, List, [], ◌∷◌, ◌++◌, codes, decimal, map, reverse}
use Rattle.std.specs.List.{flat_map}
use Rattle.std.specs.Io.KnownBytes.{Appends}
use Rattle.vs_design.specs.vs_logic4.specs.declared.digit.Digit.{Digit}
use Rattle.vs_design.specs.vs_logic4.specs.Tables.{letter}
use Rattle.vs_elaborate.specs.vs_scopes.specs.Texts.{shown_byte}
use Rattle.vs_sign_off.specs.vs_vcd_writing.specs.Sinks.{AppendsPart}
use Rattle.vs_sign_off.specs.Dumps.{AreDumps}
use Rattle.vs_program_words.specs.vs_certificate.specs.declared.members.Rules.{Rules}
use Rattle.vs_sign_off.specs.Races.{IsAnswerBy}
use Rattle.vs_sign_off.specs.declared.answer.Race.{Race}
use Rattle.vs_sign_off.specs.declared.answer.Race.TheVariants.{Certified, Found, FoundLine, NotFound}
use Rattle.vs_sign_off.specs.declared.witness.LineWitness.{LineWitness}
use Rattle.vs_sign_off.specs.declared.witness.Witness.{Witness}

-- the text of a value: its digits, the highest first
abbrev pub value_text : List Digit → List ℕ
value_text value = reverse (map letter value)

-- the line of a race: the signal, the moment, and its two values then
abbrev pub witness_line : Witness → List ℕ
witness_line w =
    flat_map shown_byte w.path.items ++ codes " at " ++ decimal w.time ++ codes ": " ++ value_text w.first ++ codes " or " ++ value_text w.other ++ 10 ∷ []

-- the line of a race in what `$strobe` prints: the row, the moment, and how often it is printed to it
abbrev pub row_line : LineWitness → List ℕ
row_line w =
    codes "line `" ++ w.row.items ++ codes "` to " ++ decimal w.time ++ codes ": " ++ decimal w.first ++ codes " or " ++ decimal w.other ++ codes " times"
    ++ 10 ∷ []

-- the first line of what is told
abbrev pub race_line : Race → List ℕ
race_line (Certified c) = codes "certified: no order of events makes a difference" ++ 10 ∷ []
race_line (Found w refused) = witness_line w
race_line (FoundLine w refused) = row_line w
race_line (NotFound missed refused) = codes "none found" ++ 10 ∷ []

-- a text begins with the first line of what is told
abbrev pub IsRaceText : Race → List ℕ → Type 0
IsRaceText race text = (more : List ℕ) × (text ≡ race_line race ++ more)

-- what is told of a search, with certificates by these rules, was written
pub record WroteRace (rules : Rules) (bytes top : List ℕ) (race : Race) (old new : Option (List ℕ)) : Type 0 where
  pub answered : IsAnswerBy rules bytes top race
  pub text : List ℕ
  pub told : IsRaceText race text
  pub written : Appends old new text

-- the dumps of the two runs of a race that was found were written to its moment; else nothing was
abbrev pub WroteDumps : List ℕ → List ℕ → Race → ℕ → Option (List ℕ) → Option (List ℕ) → Option (List ℕ) → Option (List ℕ) → Type 0
WroteDumps bytes top (Found w refused) steps first first' other other' = AreDumps bytes top w.time steps first first' other other'
WroteDumps bytes top (FoundLine w refused) steps first first' other other' = AreDumps bytes top w.time steps first first' other other'
WroteDumps bytes top (Certified c) steps first first' other other' = (first' ≡ first) × (other' ≡ other)
WroteDumps bytes top (NotFound missed refused) steps first first' other other' = (first' ≡ first) × (other' ≡ other)

-- a beginning of it
pub record HasBegunRace (rules : Rules) (bytes top : List ℕ) (old new : Option (List ℕ)) : Type 0 where
  pub race : Race
  pub answered : IsAnswerBy rules bytes top race
  pub text : List ℕ
  pub told : IsRaceText race text
  pub begun : AppendsPart old new text

-- the status: 0 where a certificate was made, 1 where a race is shown, 2 where none was found
abbrev pub race_status : Race → ℕ
race_status (Certified c) = 0
race_status (Found w refused) = 1
race_status (FoundLine w refused) = 1
race_status (NotFound missed refused) = 2
