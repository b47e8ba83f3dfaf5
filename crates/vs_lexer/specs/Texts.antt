-- Texts in quotes (IEEE 1364-2005, clause 3.6).
use Rattle.std.specs.Prelude.{ℕ, ◌+◌, ◌-◌, ◌*◌, ◌%◌, ◌==◌, ◌&&◌, ◌||◌, Bool, false, List, [], ◌∷◌, if◌then◌else◌, nat_le, Option, None, Some}
use Rattle.std.specs.Int.{is_in_range}
use Rattle.vs_lexer.specs.declared.refusal.Refusal.TheVariants as r
use Rattle.vs_lexer.specs.declared.piece.Piece.{Piece}
use Rattle.vs_lexer.specs.declared.piece.Piece.TheVariants.{Token, Refused}
use Rattle.vs_lexer.specs.declared.token.Kind.TheVariants as k
use Rattle.vs_lexer.specs.Bytes.{in_comment}
use Rattle.vs_lexer.specs.Forms.{Form}

-- what may stand behind a backslash: `n`, `t`, a backslash, a quotation mark (clause 3.6.3)
abbrev pub is_escape : ℕ → Bool
is_escape b = b == 110 || (b == 116 || (b == 92 || b == 34))

-- an octal digit
abbrev pub is_octal : ℕ → Bool
is_octal b = is_in_range 48 55 b

-- the first two bytes are octal digits
abbrev pub has_two_octal : List ℕ → Bool
has_two_octal [] = false
has_two_octal (b ∷ []) = false
has_two_octal (b ∷ c ∷ bs) = is_octal b && is_octal c

-- three octal digits are above 377 where the first is above 3
abbrev pub is_above_377 : ℕ → List ℕ → Bool
is_above_377 b bs = nat_le 52 b && has_two_octal bs

-- what ends a text, and the bytes after that; or it goes on past these bytes
pub data TextEnd : Type 0 where
  ended : Piece → List ℕ → TextEnd
  open_yet : TextEnd

-- the end of three octal digits that are above 377, behind the first of them
abbrev pub after_octal : List ℕ → TextEnd
after_octal [] = open_yet
after_octal (b ∷ []) = open_yet
after_octal (b ∷ c ∷ bs) = ended (Refused r.BadLiteral) bs

-- what ends a text, behind its first quotation mark: the other one, a line's end, a byte that may not stand there, a bad
-- escape (clause 3.6.3; profile: no number above 377 and no other escape)
abbrev pub text_end : List ℕ → TextEnd
text_end [] = open_yet
text_end (b ∷ []) =
    if b == 34 then ended (Token k.Text) []
    else (if b == 10 then ended (Refused r.Unclosed) []
    else (if in_comment b then open_yet
    else ended (Refused r.BadByte) []))
text_end (b ∷ c ∷ bs) =
    if b == 34 then ended (Token k.Text) (c ∷ bs)
    else (if b == 10 then ended (Refused r.Unclosed) (c ∷ bs)
    else (if b == 92 then
    (if is_escape c then text_end bs
    else (if is_octal c then (if is_above_377 c bs then after_octal bs else text_end bs)
    else ended (Refused r.BadLiteral) bs))
    else (if in_comment b then text_end (c ∷ bs)
    else ended (Refused r.BadByte) (c ∷ bs))))

-- what has been read of an escape: nothing yet, its backslash, or octal digits with their number
pub data Pending : Type 0 where
  no_escape : Pending
  a_backslash : Pending
  one_octal : ℕ → Pending
  two_octal : ℕ → Pending

-- the byte that an escape without octal digits stands for (clause 3.6.3)
abbrev pub escape_byte : ℕ → ℕ
escape_byte b = if b == 110 then 10 else (if b == 116 then 9 else b)

-- The bytes that a text stands for, behind its first quotation mark (clause 3.6.3): an escape is one byte, with up to three octal
-- digits, all that stand there.
abbrev pub resolved : Pending → List ℕ → List ℕ
resolved no_escape [] = []
resolved no_escape (b ∷ bs) = if b == 34 then [] else (if b == 92 then resolved a_backslash bs else b ∷ resolved no_escape bs)
resolved a_backslash [] = []
resolved a_backslash (b ∷ bs) = if is_octal b then resolved (one_octal (b - 48)) bs else escape_byte b ∷ resolved no_escape bs
resolved (one_octal n) [] = n ∷ []
resolved (one_octal n) (b ∷ bs) =
    if is_octal b then resolved (two_octal (n * 8 + (b - 48))) bs
    else n ∷ (if b == 34 then [] else (if b == 92 then resolved a_backslash bs else b ∷ resolved no_escape bs))
resolved (two_octal n) [] = n ∷ []
resolved (two_octal n) (b ∷ bs) =
    if is_octal b then (n * 8 + (b - 48)) % 256 ∷ resolved no_escape bs
    else n ∷ (if b == 34 then [] else (if b == 92 then resolved a_backslash bs else b ∷ resolved no_escape bs))

-- the bytes that a text token stands for
abbrev pub text_value : List ℕ → List ℕ
text_value [] = []
text_value (b ∷ bs) = resolved no_escape bs

-- a text that has ended at its end, or that is not closed
abbrev pub text_piece : TextEnd → Option Piece
text_piece (ended piece []) = Some piece
text_piece (ended piece (_ ∷ _)) = None
text_piece open_yet = Some (Refused r.Unclosed)

-- what a quotation mark begins: a text (clause 3.6)
unfoldable pub text_form : Form
text_form [] rest = None
text_form (b ∷ bs) rest = text_piece (text_end bs)
