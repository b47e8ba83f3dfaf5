-- What a call leaves to its source.
use Rattle.std.specs.Prelude.{ℕ, ◌≡◌, ◌≢◌, ◌⊎◌, Bool, true, false, Option, Some, None, List, [], ◌∷◌, map}
use Rattle.vs_design.specs.declared.timescale.TimeUnit.{TimeUnit}
use Rattle.vs_syntax.specs.vs_lexer.specs.Tokens.{Lexeme}
use Rattle.vs_syntax.specs.vs_lexer.specs.Spelling.{IsSpelled, Fails as LexFails}
use Rattle.vs_syntax.specs.vs_lexer.specs.declared.fault.LexFault.{LexFault}
use Rattle.vs_syntax.specs.vs_lexer.specs.declared.fault.LexFault.TheVariants as lex
use Rattle.vs_syntax.specs.Symbols.{symbols}
use Rattle.vs_syntax.specs.Derives.{Derives}
use Rattle.vs_syntax.specs.declared.tree.Source.{Source}
use Rattle.vs_parser.specs.Faults.{IsRefused}
use Rattle.vs_parser.specs.declared.fault.ParseFault.{ParseFault}
use Rattle.vs_parser.specs.declared.fault.ParseFault.TheVariants as parse
use Rattle.vs_program_words.specs.declared.words.Call as asked
use Rattle.vs_program_words.specs.declared.words.Subcommand.{Subcommand}
use Rattle.vs_program_words.specs.declared.words.Subcommand.TheVariants.{Run, RunCertified, Check, Certify, Race, Elab, Preprocess}
use Rattle.vs_program_words.specs.Ticks.{AreTicks, tick_exponent}
use Rattle.vs_program_words.specs.declared.target.TargetFault.{TargetFault}
use Rattle.vs_program_words.specs.declared.target.TargetFault.TheVariants as fault
use Rattle.vs_program_words.specs.Tops.{top_modules}

-- a text spells tokens, which derive a source (clause 3, annex A)
abbrev pub IsSourceOf : List ℕ → Source → Type 0
IsSourceOf text source = (tokens : List Lexeme) × IsSpelled text tokens × Derives (symbols tokens) source

-- tokens derive no source, as a fault says
abbrev pub DerivesNone : List Lexeme → Type 0
DerivesNone tokens = (f : ParseFault) × IsRefused tokens f × (f ≢ parse.Memory)

-- a text spells no tokens, as a fault says, or tokens that derive no source
abbrev pub IsNoSource : List ℕ → Type 0
IsNoSource text =
    ((f : LexFault) × LexFails text f × (f ≢ lex.Memory)) ⊎ ((tokens : List Lexeme) × IsSpelled text tokens × DerivesNone tokens)

-- the top and the moment that a subcommand names
abbrev pub top_of : Subcommand → List ℕ
top_of (Run q) = q.top.now
top_of (RunCertified q) = q.top.now
top_of (Check top rules) = top.now
top_of (Certify top grain rules) = top.now
top_of (Race q) = q.top.now
top_of (Elab top) = top.now
top_of Preprocess = []

abbrev pub until_of : Subcommand → ℕ
until_of (Run q) = q.until.count
until_of (RunCertified q) = q.until.count
until_of (Race q) = q.until.count
until_of _ = 0

-- a subcommand is another one with this top and this moment
abbrev pub IsAt : Subcommand → Subcommand → List ℕ → ℕ → Type 0
IsAt (Run q) (Run r) top until =
    (r.top.now ≡ top) × (r.until.count ≡ until) × (r.steps ≡ q.steps) × (r.order ≡ q.order) × (r.text ≡ q.text)
IsAt (RunCertified q) (RunCertified r) top until =
    (r.top.now ≡ top) × (r.until.count ≡ until) × (r.steps ≡ q.steps) × (r.order ≡ q.order) × (r.text ≡ q.text) × (r.rules ≡ q.rules)
IsAt (Check t a) (Check u b) top until = (u.now ≡ top) × (b ≡ a)
IsAt (Certify t g a) (Certify u h b) top until = (u.now ≡ top) × (h ≡ g) × (b ≡ a)
IsAt (Race q) (Race r) top until = (r.top.now ≡ top) × (r.until.count ≡ until) × (r.steps ≡ q.steps) × (r.tries ≡ q.tries)
    × (r.seed ≡ q.seed) × (r.from ≡ q.from) × (r.rules ≡ q.rules)
IsAt (Elab t) (Elab u) top until = u.now ≡ top
IsAt Preprocess Preprocess top until = Unit {0}
IsAt _ _ top until = ⊥

-- the top that a call means by a source: the one that it names, or the one module that no module of the source instantiates
abbrev pub MeansTop : Source → Bool → List ℕ → List ℕ → Type 0
MeansTop source false given top = top ≡ given
MeansTop source true given top = top_modules source ≡ top ∷ []

-- the moment that it means: the ticks that it names, or those of so many of a unit
abbrev pub MeansUntil : Source → Option TimeUnit → ℕ → ℕ → Type 0
MeansUntil source None given until = until ≡ given
MeansUntil source (Some unit) given until = AreTicks given unit (tick_exponent source) until

-- what a call means by the source that a text is
pub record MeansBy (text : List ℕ) (finds : Bool) (unit : Option TimeUnit) (call s : Subcommand) : Type 0 where
  pub source : Source
  pub read : IsSourceOf text source
  pub top : List ℕ
  pub until : ℕ
  pub named : MeansTop source finds (top_of call) top
  pub timed : MeansUntil source unit (until_of call) until
  pub is : IsAt call s top until

-- what a call means by a text: what it says itself where it leaves nothing to its source; else what it means by the source, where the text is one
pub data IsMeant (text : List ℕ) (c : asked.Call) (s : Subcommand) : Type 0 where
  by_words : c.finds_top ≡ false → c.unit ≡ None → IsAt c.subcommand s (top_of c.subcommand) (until_of c.subcommand) → IsMeant text c s
  by_source : MeansBy text c.finds_top c.unit c.subcommand s → IsMeant text c s
  by_none : IsNoSource text → IsAt c.subcommand s (top_of c.subcommand) (until_of c.subcommand) → IsMeant text c s

-- why a source doesn't give what a call leaves to it: no module or more than one is instantiated by none, or the time isn't that of so many ticks
abbrev pub FailsBy : Source → asked.Call → TargetFault → Type 0
FailsBy source c (fault.Top names) = (c.finds_top ≡ true) × (map (λ n. n.items) names.items ≡ top_modules source)
FailsBy source c (fault.Until tick) = c.unit ≢ None
FailsBy source c fault.Memory = Unit {0}

-- the same of the source that a text is
abbrev pub Fails : List ℕ → asked.Call → TargetFault → Type 0
Fails text c fault.Memory = Unit {0}
Fails text c f = (source : Source) × IsSourceOf text source × FailsBy source c f
