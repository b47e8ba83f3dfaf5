-- Codes and digits of lines that can't stand where they do: nothing that is promised rests on these.
use Rattle.std.specs.Prelude.{◌≡◌, ℕ, ◌≤◌, ◌<◌, ◌==◌, ◌||◌, Bool, false, List, [], ◌∷◌, length, map, slice_index, EachIndex}
use Rattle.std.specs.List.{list_all}
use Rattle.vs_design.specs.vs_logic4.specs.declared.digit.Digit.{Digit}
use Rattle.vs_vcd_lines.specs.vs_vcd_writing.specs.Codes.{code}
use Rattle.vs_vcd_lines.specs.vs_vcd_writing.specs.Values.{digit_character}

-- a text is of one character from `!` to `~` or more
pub record AreCodeCharacters (text : List ℕ) : Type 0 where
  pub some : 0 < length text
  pub all : EachIndex text (λ k. (33 ≤ slice_index text k) × (slice_index text k ≤ 126))

-- a text is the code of a number that isn't below a count
pub record IsOtherCode (count : ℕ) (text : List ℕ) : Type 0 where
  pub number : ℕ
  pub is : text ≡ code number
  pub least : count ≤ number

-- a text is of one digit or more
pub record AreCharacters (text : List ℕ) : Type 0 where
  pub digits : List Digit
  pub some : 0 < length digits
  pub is : text ≡ map digit_character digits

-- whether a byte is the character of a digit
abbrev pub is_character : ℕ → Bool
is_character b = b == 48 || b == 49 || b == 120 || b == 122

-- whether a text is of one of these or more
abbrev pub are_characters : List ℕ → Bool
are_characters [] = false
are_characters (b ∷ bs) = list_all is_character (b ∷ bs)
