-- What it is that bytes spell tokens: they are the longest pieces, one after another.
use Rattle.std.specs.Prelude.{ℕ, ◌+◌, ◌<◌, ◌≤◌, List, [], ◌∷◌, length}
use Rattle.vs_lexer.specs.declared.fault.LexFault.{LexFault}
use Rattle.vs_lexer.specs.declared.fault.LexFault.TheVariants as f
use Rattle.vs_lexer.specs.declared.refusal.Refusal.{Refusal}
use Rattle.vs_lexer.specs.declared.refusal.Refusal.TheVariants as r
use Rattle.vs_lexer.specs.declared.piece.Piece.TheVariants.{Skipped, Token, Refused}
use Rattle.vs_lexer.specs.declared.token.Kind.{Kind}
use Rattle.vs_lexer.specs.Forms.{Begins}
use Rattle.vs_lexer.specs.Pieces.{piece_of}
use Rattle.vs_lexer.specs.Tokens.{Lexeme}

-- The bytes from this place on are these tokens in order, with white space, comments and attributes between them.
pub data Spells : ℕ → List ℕ → List Lexeme → Type 0 where
  ends : {place : ℕ} → Spells place [] []
  skips : {place : ℕ} {bytes : List ℕ} {tokens : List Lexeme} (text rest : List ℕ) → Begins piece_of Skipped text rest bytes → Spells (place + length text) rest tokens → Spells place bytes tokens
  reads : {place : ℕ} {bytes : List ℕ} {tokens : List Lexeme} (kind : Kind) (text rest : List ℕ) → Begins piece_of (Token kind) text rest bytes → Spells (place + length text) rest tokens → Spells place bytes (record { kind = kind; place = place; bytes = text } ∷ tokens)

-- From the place on the bytes have no refused piece up to the place at, from which on the others remain.
pub data Reaches : ℕ → List ℕ → ℕ → List ℕ → Type 0 where
  stays : {place : ℕ} {bytes : List ℕ} → Reaches place bytes place bytes
  passes : {place at : ℕ} {bytes others : List ℕ} (text rest : List ℕ) → Begins piece_of Skipped text rest bytes → Reaches (place + length text) rest at others → Reaches place bytes at others
  takes : {place at : ℕ} {bytes others : List ℕ} (kind : Kind) (text rest : List ℕ) → Begins piece_of (Token kind) text rest bytes → Reaches (place + length text) rest at others → Reaches place bytes at others

-- the most bytes that a source has (profile: 4 MiB)
abbrev pub source_limit : ℕ
source_limit = 4194304

-- The source is spelled by these tokens.
pub record IsSpelled (source : List ℕ) (tokens : List Lexeme) : Type 0 where
  pub small : length source ≤ source_limit
  pub spells : Spells 0 source tokens

-- The first thing in the source that is refused stands at this place: a piece, or the first byte past the limit.
pub data IsRefused : List ℕ → Refusal → ℕ → Type 0 where
  at_piece : {source : List ℕ} {why : Refusal} {at : ℕ} (bytes text rest : List ℕ) → at < source_limit → Reaches 0 source at bytes → Begins piece_of (Refused why) text rest bytes → IsRefused source why at
  at_limit : {source : List ℕ} (at : ℕ) (bytes : List ℕ) → source_limit < length source → source_limit ≤ at → Reaches 0 source at bytes → IsRefused source r.TooLong source_limit

-- Why there are no tokens, unless memory ran out.
abbrev pub Fails : List ℕ → LexFault → Type 0
Fails source f.Memory = Unit {0}
Fails source (f.Refused why place) = IsRefused source why place
