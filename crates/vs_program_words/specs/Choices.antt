-- Choices of items, as the words of a run have them.
use Rattle.std.specs.Prelude.{ℕ, ◌==◌, ◌&&◌, leb, Bool, true, false, List, [], ◌∷◌, if◌then◌else◌}
use Rattle.vs_program_words.specs.declared.choices.Read.{Read}
use Rattle.vs_program_words.specs.declared.choices.Read.TheVariants as read

-- whether a byte is a decimal digit
abbrev pub is_digit : ℕ → Bool
is_digit byte = leb 48 byte && leb byte 57

-- what has been read behind a byte that follows digits of a choice's number, or is one of them
abbrev pub after_choice : ℕ → Read → Read → Read
after_choice byte digits comma =
    if is_digit byte then digits
    else (if byte == 46 then read.Dot else (if byte == 61 then read.Equals else (if byte == 44 then comma else read.Wrong)))

-- what has been read behind one more byte
abbrev pub read_byte : Read → ℕ → Read
read_byte read.Nothing byte = if is_digit byte then read.First else read.Wrong
read_byte read.First byte = after_choice byte read.First read.Comma
read_byte read.Comma byte = if is_digit byte then read.Own else read.Wrong
read_byte read.Own byte = if is_digit byte then read.Own else (if byte == 44 then read.Comma else read.Wrong)
read_byte read.Behind byte = if is_digit byte then read.Choice else read.Wrong
read_byte read.Choice byte = after_choice byte read.Choice read.Wrong
read_byte read.Dot byte = if byte == 46 then read.Dots else read.Wrong
read_byte read.Dots byte = if is_digit byte then read.Last else read.Wrong
read_byte read.Last byte = if is_digit byte then read.Last else (if byte == 61 then read.Equals else read.Wrong)
read_byte read.Equals byte = if is_digit byte then read.Item else read.Wrong
read_byte read.Item byte = if is_digit byte then read.Item else (if byte == 44 then read.Behind else read.Wrong)
read_byte read.Wrong byte = read.Wrong

-- what has been read behind some bytes
abbrev pub read_bytes : Read → List ℕ → Read
read_bytes so_far [] = so_far
read_bytes so_far (byte ∷ rest) = read_bytes (read_byte so_far byte) rest

-- whether a text may end there
abbrev pub may_end : Read → Bool
may_end read.First = true
may_end read.Own = true
may_end read.Item = true
may_end _ = false

-- whether a text has choices, with a comma between them: items by their places, as `0,2,1`, those of the first choices; or choices as
-- `17..22=1` and `30=2`
abbrev pub is_choices : List ℕ → Bool
is_choices text = may_end (read_bytes read.Nothing text)
