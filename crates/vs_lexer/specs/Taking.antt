-- What the readers of marks and directives answer, and what a token read does to the tokens.
use Rattle.std.specs.Prelude.{ℕ, ◌≡◌, List, [], ◌∷◌, ◌++◌, Option, None, Some}
use Rattle.vs_lexer.specs.declared.fault.LexFault.{LexFault}
use Rattle.vs_lexer.specs.declared.fault.LexFault.TheVariants as f
use Rattle.vs_lexer.specs.declared.piece.Piece.TheVariants.{Skipped, Token, Refused}
use Rattle.vs_lexer.specs.declared.token.Kind.{Kind}
use Rattle.vs_lexer.specs.Pieces.{piece_of}
use Rattle.std.specs.Borrow.{Bor}
use Rattle.vs_lexer.specs.Directives.{Reader}
use Rattle.vs_lexer.specs.Reserved.{kind_in, two_byte_marks, three_byte_marks}
use Rattle.vs_lexer.specs.Forms.{Begins}
use Rattle.vs_lexer.specs.Tokens.{Lexeme}

-- no mark of three bytes stands at the front
abbrev pub HasNoMarkOfThree : List ℕ → Type 0
HasNoMarkOfThree bytes = (a b c : ℕ) (after : List ℕ) → bytes ≡ a ∷ b ∷ c ∷ after → kind_in three_byte_marks (a ∷ b ∷ c ∷ []) ≡ None

-- no mark of two bytes stands at the front, nor one of three
abbrev pub HasNoMarkOfTwo : List ℕ → Type 0
HasNoMarkOfTwo bytes = HasNoMarkOfThree bytes × ((a b : ℕ) (after : List ℕ) → bytes ≡ a ∷ b ∷ after → kind_in two_byte_marks (a ∷ b ∷ []) ≡ None)

-- from the tokens old to the tokens new, by the piece with which the bytes begin; the rest follows it
pub data Takes (place : ℕ) (bytes : List ℕ) (old : List Lexeme) : List Lexeme → List ℕ → Type 0 where
  nothing : {rest : List ℕ} (text : List ℕ) → Begins piece_of Skipped text rest bytes → Takes place bytes old old rest
  one : {new : List Lexeme} {rest : List ℕ} (kind : Kind) (text : List ℕ) → Begins piece_of (Token kind) text rest bytes → new ≡ old ++ record { kind = kind; place = place; bytes = text } ∷ [] → Takes place bytes old new rest

-- the bytes begin with a piece that is refused, unless memory ran out
abbrev pub Stops : ℕ → List ℕ → LexFault → Type 0
Stops place bytes f.Memory = Unit {0}
Stops place bytes (f.Refused why at) = (at ≡ place) × ((text : List ℕ) × (rest : List ℕ) × Begins piece_of (Refused why) text rest bytes)

-- what a reader of a part answers
abbrev pub Gives : {A : Type 0} → Reader A → List ℕ → Option (A × Bor (List ℕ)) → Type 0
Gives reader bytes None = reader bytes ≡ None
Gives reader bytes (Some x) = reader bytes ≡ Some (x.0, x.1.now)
