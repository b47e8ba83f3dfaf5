-- What a source gives a call that leaves it to it.
use Rattle.std.specs.Prelude.{ℕ, ◌≡◌, Bool, true, false, Option, Some, None, List, [], ◌∷◌, map, string_bytes}
use Rattle.std.specs.Option.{option_map}
use Rattle.vs_design.specs.declared.timescale.TimeUnit.{TimeUnit}
use Rattle.vs_syntax.specs.declared.tree.Source.{Source}
use Rattle.vs_program_words.specs.declared.words.Call as asked
use Rattle.vs_program_words.specs.declared.words.Subcommand.{Subcommand}
use Rattle.vs_program_words.specs.Targets.{IsNoSource, IsSourceOf, MeansUntil, until_of}
use Rattle.vs_program_words.specs.declared.target.Target.{Target}
use Rattle.vs_program_words.specs.declared.target.TargetFault.{TargetFault}
use Rattle.vs_program_words.specs.declared.target.TargetFault.TheVariants as fault
use Rattle.vs_program_words.specs.Tops.{top_modules}

-- the top that a source gives, where it is left to it
abbrev pub GivesTop : Source → Bool → Option (List ℕ) → Type 0
GivesTop source false top = top ≡ None
GivesTop source true None = ⊥
GivesTop source true (Some top) = top_modules source ≡ top ∷ []

-- the top that is given
abbrev pub given_top : Target → Option (List ℕ)
given_top t = option_map (λ top. string_bytes top) t.top

-- what a source gives
pub record IsOf (source : Source) (finds : Bool) (unit : Option TimeUnit) (call : Subcommand) (t : Target) : Type 0 where
  pub top : GivesTop source finds (given_top t)
  pub until : MeansUntil source unit (until_of call) t.until.count

-- nothing is left to the source, or it gives this, or the text is no source and gives nothing
pub data IsTarget (text : List ℕ) (c : asked.Call) (t : Target) : Type 0 where
  given : c.finds_top ≡ false → c.unit ≡ None → given_top t ≡ None → t.until.count ≡ until_of c.subcommand → IsTarget text c t
  found : (source : Source) → IsSourceOf text source → IsOf source c.finds_top c.unit c.subcommand t → IsTarget text c t
  unread : IsNoSource text → given_top t ≡ None → t.until.count ≡ until_of c.subcommand → IsTarget text c t

-- why a source gives no top
abbrev pub WantsTop : Source → TargetFault → Type 0
WantsTop source (fault.Top names) = map (λ n. n.items) names.items ≡ top_modules source
WantsTop source fault.Memory = Unit {0}
WantsTop source (fault.Until tick) = ⊥
