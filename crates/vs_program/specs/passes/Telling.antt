-- How a fault of the words is told, for private clauses.
use Rattle.std.specs.Prelude.{ℕ, ◌≡◌, ◌⊎◌, Option, List}
use Rattle.std.specs.Io.KnownBytes.{Keeps}
use Rattle.clap.specs.Words.{kind_of}
use Rattle.vs_program.specs.Statuses.{words_status}
use Rattle.vs_program_words.specs.declared.words.WordsFault.{WordsFault}
use Rattle.vs_program_words.specs.declared.words.WordsFault.TheVariants as fault

-- the status that goes with a fault of the words, and what the writer holds before and after it is told
abbrev pub TellsWords : WordsFault → Option (List ℕ) → Option (List ℕ) → ℕ → Type 0
TellsWords (fault.Refused e) old new status =
    ((status ≡ 3) ⊎ (status ≡ words_status (kind_of e))) × ((words_status (kind_of e) ≡ 0) ⊎ Keeps old new)
TellsWords (fault.Misused e) old new status = Keeps old new × (status ≡ 64)
TellsWords (fault.NoUntil text) old new status = Keeps old new × (status ≡ 64)
TellsWords (fault.NoOrder text) old new status = Keeps old new × (status ≡ 64)
TellsWords fault.OrderOfCertified old new status = Keeps old new × (status ≡ 64)
TellsWords fault.TwoDumps old new status = Keeps old new × (status ≡ 64)
TellsWords fault.Unread old new status = Keeps old new × (status ≡ 64)
TellsWords fault.Memory old new status = Keeps old new × (status ≡ 3)
