-- Why a moment or an order isn't read, for private clauses.
use Rattle.std.specs.Prelude.{ℕ, ◌≡◌, Option, Some, List}
use Rattle.vs_program_words.specs.Asks.{IsNoPolicy}
use Rattle.vs_program_words.specs.Moments.{IsNoMoment}
use Rattle.vs_program_words.specs.declared.words.WordsFault.{WordsFault}
use Rattle.vs_program_words.specs.declared.words.WordsFault.TheVariants as fault

-- a word that is there is no moment
abbrev pub UntilFails : Option (List ℕ) → WordsFault → Type 0
UntilFails word (fault.NoUntil text) = (word ≡ Some text.now) × IsNoMoment text.now
UntilFails word _ = ⊥

-- a word that is there names no order, or memory was refused
abbrev pub PolicyFails : Option (List ℕ) → WordsFault → Type 0
PolicyFails word (fault.NoOrder text) = (word ≡ Some text.now) × IsNoPolicy (Some text.now)
PolicyFails word fault.Memory = Unit {0}
PolicyFails word _ = ⊥
