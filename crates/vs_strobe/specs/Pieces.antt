-- What the text of a format is made of (clause 17.1.1).
use Rattle.std.specs.Prelude.{ℕ, ◌+◌, ◌==◌, ◌||◌, Bool, true, false, if◌then◌else◌, nat_lt, Option, Some, None, option_map, List, [], ◌∷◌, ◌≡◌}
use Rattle.vs_strobe.specs.declared.piece.Show.{Show}
use Rattle.vs_strobe.specs.declared.piece.Show.TheVariants.{Binary, Octal, Hex, Decimal, Time, Character, Text}
use Rattle.vs_strobe.specs.declared.piece.FormatPiece.{FormatPiece}
use Rattle.vs_strobe.specs.declared.piece.FormatPiece.TheVariants.{Byte, Path, Shown}
use Rattle.vs_strobe.specs.declared.fault.FormatReason.{FormatReason}
use Rattle.vs_strobe.specs.declared.fault.FormatReason.TheVariants.{BadDirective, TooFewArguments, TooManyArguments}
use Rattle.vs_strobe.specs.declared.fault.FormatFault.{FormatFault}
use Rattle.vs_strobe.specs.declared.fault.FormatFault.TheVariants.{Memory, Refused}

-- how the letter of a directive, in either case, shows an argument (clause 17.1.1.2, table 17-2)
abbrev pub show_of : ℕ → Option Show
show_of b =
    if b == 98 || b == 66 then Some Binary
    else (if b == 111 || b == 79 then Some Octal
    else (if b == 104 || b == 72 then Some Hex
    else (if b == 100 || b == 68 then Some Decimal
    else (if b == 116 || b == 84 then Some Time
    else (if b == 99 || b == 67 then Some Character
    else (if b == 115 || b == 83 then Some Text
    else None))))))

-- the directive of a letter, behind a `0` or not; `m` takes no argument (clause 17.1.1.2, table 17-2)
abbrev pub directive_of : Bool → ℕ → Option FormatPiece
directive_of bare b = if b == 109 || b == 77 then Some Path else option_map (λ show. Shown show bare) (show_of b)

-- where a byte of a text stands: among those printed as they are, behind a `%`, or behind a `%0`
pub data FormatState : Type 0 where
  plain : FormatState
  after_percent : FormatState
  after_percent_zero : FormatState

-- a piece and those behind it, where both are good
abbrev pub joined : Option FormatPiece → Option (List FormatPiece) → Option (List FormatPiece)
joined (Some p) (Some ps) = Some (p ∷ ps)
joined _ _ = None

-- the pieces of a text from a byte on; none where it has a bad directive (clause 17.1.1; a width other than 0 is one: profile)
abbrev pub pieces_from : FormatState → List ℕ → Option (List FormatPiece)
pieces_from plain [] = Some []
pieces_from plain (b ∷ bs) = if b == 37 then pieces_from after_percent bs else joined (Some (Byte b)) (pieces_from plain bs)
pieces_from after_percent [] = None
pieces_from after_percent (b ∷ bs) =
    if b == 37 then joined (Some (Byte 37)) (pieces_from plain bs)
    else (if b == 48 then pieces_from after_percent_zero bs
    else joined (directive_of false b) (pieces_from plain bs))
pieces_from after_percent_zero [] = None
pieces_from after_percent_zero (b ∷ bs) = joined (directive_of true b) (pieces_from plain bs)

-- the pieces of a text
abbrev pub pieces_of : List ℕ → Option (List FormatPiece)
pieces_of text = pieces_from plain text

-- how many arguments pieces take: each that shows one takes one
abbrev pub wanted : List FormatPiece → ℕ
wanted [] = 0
wanted (Byte _ ∷ ps) = wanted ps
wanted (Path ∷ ps) = wanted ps
wanted (Shown _ _ ∷ ps) = wanted ps + 1

-- what is wrong with pieces for so many arguments
abbrev pub fault_for : Option (List FormatPiece) → ℕ → Option FormatReason
fault_for None given = Some BadDirective
fault_for (Some ps) given =
    if nat_lt given (wanted ps) then Some TooFewArguments else (if nat_lt (wanted ps) given then Some TooManyArguments else None)

-- what is wrong with a text for so many arguments (clause 17.1.1)
abbrev pub format_fault : List ℕ → ℕ → Option FormatReason
format_fault text given = fault_for (pieces_of text) given

-- a fault that stands, or want of memory
abbrev pub Refuses : Option FormatReason → FormatFault → Type 0
Refuses found Memory = Unit {0}
Refuses found (Refused r) = found ≡ Some r
