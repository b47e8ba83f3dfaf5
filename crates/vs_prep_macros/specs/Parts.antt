-- The pieces of a text in a list (clauses 3 and 19).
use Rattle.std.specs.Prelude.{ℕ, zero, suc, ◌-◌, List, [], ◌∷◌, ◌++◌, length, take}
use Rattle.vs_prep_macros.specs.Pieces.{cut_by}
use Rattle.vs_prep_macros.specs.declared.piece.Form.{Form}
use Rattle.vs_prep_macros.specs.declared.piece.Piece.{Piece}

-- a piece of a text: what it is, its bytes, and the bytes behind it
pub record Part : Type 0 where
  pub form : Form
  pub text : List ℕ
  pub rest : List ℕ

-- the piece at the front of bytes, behind which these bytes stand
abbrev pub part_of : Form → List ℕ → List ℕ → Part
part_of form bytes rest = record { form = form; text = take (length bytes - length rest) bytes; rest = rest }

-- the first pieces of bytes, so many
abbrev pub parts_by : ℕ → List ℕ → List Part
parts_by zero bytes = []
parts_by (suc n) [] = []
parts_by (suc n) (b ∷ bs) = part_of (cut_by b bs).0 (b ∷ bs) (cut_by b bs).1 ∷ parts_by n (cut_by b bs).1

-- the pieces of bytes: there are no more than bytes
unfoldable pub parts_of : List ℕ → List Part
parts_of bytes = parts_by (length bytes) bytes

-- the bytes from a piece on
abbrev pub bytes_from : Part → List ℕ
bytes_from p = p.text ++ p.rest

-- a piece without where its bytes lie in memory
abbrev pub seen : Piece → Part
seen p = record { form = p.form; text = p.text.now; rest = p.rest.now }
