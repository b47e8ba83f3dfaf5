-- Numbers as pieces of a source (IEEE 1364-2005, clause 3.5).
use Rattle.std.specs.Prelude.{ℕ, ◌^◌, ◌==◌, ◌&&◌, ◌||◌, Bool, true, false, List, [], ◌∷◌, Option, None, Some, if◌then◌else◌, nat_lt}
use Rattle.std.specs.Char.{is_ascii_digit, is_ascii_alphabetic}
use Rattle.std.specs.List.{list_all}
use Rattle.vs_lexer.specs.declared.refusal.Refusal.TheVariants as r
use Rattle.vs_lexer.specs.declared.piece.Piece.{Piece}
use Rattle.vs_lexer.specs.declared.piece.Piece.TheVariants.{Token, Refused}
use Rattle.vs_lexer.specs.declared.token.Kind.TheVariants as k
use Rattle.vs_lexer.specs.Bytes.{is_white, in_decimal, front_run, after_run}
use Rattle.vs_lexer.specs.declared.base.Base.{Base}
use Rattle.vs_lexer.specs.Numbers.{value_after, plain_literal, based_literal, is_well_formed, fits_unsized, starts_digits, in_digits, base_of, is_sign}
use Rattle.vs_lexer.specs.Forms.{Form}

-- what may not follow a decimal number at once: a letter, or a point and a digit (profile)
abbrev pub continues_number : List ℕ → Bool
continues_number [] = false
continues_number (b ∷ []) = is_ascii_alphabetic b
continues_number (b ∷ c ∷ cs) = is_ascii_alphabetic b || (b == 46 && is_ascii_digit c)

-- a decimal number without size and base; one that needs more than 32 bits is refused (clause 3.5.1, profile)
abbrev pub decimal_piece : List ℕ → List ℕ → Piece
decimal_piece text rest =
    if continues_number rest then Refused r.BadLiteral
    else (if nat_lt (value_after 0 text) (2 ^ 32) then Token (k.Number (plain_literal (value_after 0 text)))
    else Refused r.TooLarge)

-- the piece of well formed digits at a size of 1 to 64
abbrev pub sized_piece : ℕ → Bool → Base → List ℕ → Piece
sized_piece size signed base digits =
    if size == 0 || nat_lt 64 size then Refused r.TooLarge else Token (k.Number (based_literal base size signed digits))

-- the piece of a base's digits: without a size it has 32 bits (clause 3.5.1, profile)
unfoldable pub literal_piece : Option (List ℕ) → Bool → Base → List ℕ → Piece
literal_piece None signed base digits =
    if is_well_formed base digits then (if fits_unsized base digits then Token (k.Number (based_literal base 32 signed digits)) else Refused r.TooLarge)
    else Refused r.BadLiteral
literal_piece (Some size) signed base digits =
    if is_well_formed base digits then sized_piece (value_after 0 size) signed base digits else Refused r.BadLiteral

-- digits of a base
abbrev pub digits_form : Option (List ℕ) → Bool → Option Base → List ℕ → Option Piece
digits_form size signed None digits = None
digits_form size signed (Some base) [] = None
digits_form size signed (Some base) (d ∷ ds) =
    if starts_digits base d && list_all (in_digits base) ds then Some (literal_piece size signed base (d ∷ ds)) else None

-- a base's letter, white space, and its digits (clause 3.5.1)
unfoldable pub base_form : Option (List ℕ) → Bool → Form
base_form size signed [] rest = None
base_form size signed (b ∷ bs) rest = digits_form size signed (base_of b) (after_run is_white bs)

-- what stands behind the quote of a number; with no literal there the quote is refused (clause 3.5.1, profile)
unfoldable pub quote_form : Option (List ℕ) → Form
quote_form size [] rest = Some (Refused r.BadLiteral)
quote_form size (b ∷ bs) rest =
    if is_sign b then base_form size true bs rest else base_form size false (b ∷ bs) rest

-- what stands behind a size and white space
unfoldable pub after_size : List ℕ → Form
after_size size [] rest = None
after_size size (b ∷ bs) rest = if b == 39 then quote_form (Some size) bs rest else None

-- what a digit begins: a decimal number, or one with a size and a base (clause 3.5.1)
unfoldable pub number_form : Form
number_form text rest =
    if list_all in_decimal text then Some (decimal_piece text rest)
    else after_size (front_run in_decimal text) (after_run is_white (after_run in_decimal text)) rest

-- what a quote begins: a number with a base and without a size (clause 3.5.1)
unfoldable pub apostrophe_form : Form
apostrophe_form [] rest = None
apostrophe_form (b ∷ bs) rest = quote_form None bs rest
