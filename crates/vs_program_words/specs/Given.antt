-- What the options of a subcommand have, where the words have no fault.
use Rattle.std.specs.Prelude.{ℕ, ◌≡◌, ◌||◌, true, Option, Some, None, List, codes, is_some}
use Rattle.std.specs.Str.{bytes_eq}
use Rattle.clap.specs.Words.{IsUnsignedIn}
use Rattle.vs_program_words.specs.Asks.{Name, Values, certify, check, race, run}

-- there is a text, of a number from 0 to 2^62 - 1
abbrev pub IsCount : Option (List ℕ) → Type 0
IsCount None = ⊥
IsCount (Some text) = IsUnsignedIn 0 4611686018427387903 text

-- there is a text, `true` or `false`
abbrev pub IsFlag : Option (List ℕ) → Type 0
IsFlag None = ⊥
IsFlag (Some text) = (bytes_eq text (codes "true") || bytes_eq text (codes "false")) ≡ true

-- the options of `vsim run` have values, those that are numbers can be read, and flags are given or not
pub record AreGiven (words values : Values) : Type 0 where
  pub steps : IsCount (values (codes "steps"))
  pub out : is_some (words (codes "out")) ≡ true
  pub cert : IsFlag (values (codes "cert"))
  pub rules : is_some (words (codes "rules")) ≡ true

-- those of `vsim certify`
pub record AreGivenToCertify (words : Values) : Type 0 where
  pub grain : is_some (words (codes "grain")) ≡ true
  pub rules : is_some (words (codes "rules")) ≡ true

-- those of `vsim race`
pub record AreGivenToRace (words values : Values) : Type 0 where
  pub steps : IsCount (values (codes "steps"))
  pub tries : IsCount (values (codes "tries"))
  pub seed : IsCount (values (codes "seed"))
  pub start : IsCount (values (codes "from"))
  pub rules : is_some (words (codes "rules")) ≡ true

-- the options of a subcommand that it alone has have their values
abbrev pub AreGivenAs : Name → Values → Values → Type 0
AreGivenAs run words values = AreGiven words values
AreGivenAs check words values = is_some (words (codes "rules")) ≡ true
AreGivenAs certify words values = AreGivenToCertify words
AreGivenAs race words values = AreGivenToRace words values
AreGivenAs _ words values = Unit {0}

-- all options of a subcommand that have a default have their values
pub record AreAllGiven (name : Name) (words values : Values) : Type 0 where
  pub own : AreGivenAs name words values
  pub explain : IsFlag (values (codes "explain"))
  pub short : IsFlag (values (codes "short"))
