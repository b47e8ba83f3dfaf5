-- Forms of pieces: what piece a text is, given the bytes that follow it, and the longest that bytes begin with.
use Rattle.std.specs.Prelude.{ℕ, Bool, List, ◌∷◌, ◌++◌, Option, None, Some, if◌then◌else◌, ◌≡◌}
use Rattle.std.specs.List.{list_all}
use Rattle.vs_lexer.specs.declared.piece.Piece.{Piece}

-- a form of piece: what piece a text is, where these bytes follow it, or none
abbrev pub Form : Type 0
Form = List ℕ → List ℕ → Option Piece

-- a text whose bytes all pass
abbrev pub run_of : (ℕ → Bool) → (List ℕ → List ℕ → Piece) → Form
run_of p piece text rest = if list_all p text then Some (piece text rest) else None

-- The text is a piece of the form, where the rest follows it, and no longer text at its place is one.
pub record Longest (form : Form) (piece : Piece) (text rest : List ℕ) : Type 0 where
  pub is : form text rest ≡ Some piece
  pub longest : (b : ℕ) (more after : List ℕ) → rest ≡ b ∷ more ++ after → form (text ++ b ∷ more) after ≡ None

-- The bytes begin with such a piece, and the rest follows it.
pub record Begins (form : Form) (piece : Piece) (text rest bytes : List ℕ) : Type 0 where
  pub splits : bytes ≡ text ++ rest
  pub reads : Longest form piece text rest
