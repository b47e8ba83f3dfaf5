-- The bits at which values of a word differ.
use Rattle.std.specs.Prelude.{ℕ, ◌≡◌, ◌+◌, ◌*◌, ◌/◌, ◌%◌, ◌^◌, ◌==◌, ◌&&◌, not, Bool, Option, Some, None, option_map, List, ◌∷◌, length, if◌then◌else◌}
use Rattle.std.specs.Option.{option_eq}
use Rattle.vs_design.specs.vs_logic4.specs.declared.digit.Digit.{Digit}
use Rattle.vs_design.specs.vs_logic4.specs.Vectors.{same_digit, same_digits}
use Rattle.vs_design.specs.declared.range.Bits.{Bits}
use Rattle.vs_design.specs.declared.range.BitRange.{BitRange}
use Rattle.vs_design.specs.declared.write.Part.{Part}
use Rattle.vs_design.specs.Stores.{Store, word_of, chosen_bits}
use Rattle.vs_design.specs.Uses.{is_of, has_word}

-- the places at which two vectors of one size differ, as the bits of a number
abbrev pub difference : List Digit → List Digit → ℕ
difference (d ∷ ds) (e ∷ es) = (if same_digit d e then 0 else 1) + 2 * difference ds es
difference _ _ = 0

-- the same of two values of a word, where there is one
abbrev pub word_difference : Option (List Digit) → Option (List Digit) → ℕ
word_difference (Some before) (Some behind) = difference before behind
word_difference _ _ = 0

-- whether a number has a bit that a range of bits has
abbrev pub has_some : Option Bits → ℕ → Bool
has_some None number = not (number == 0)
has_some (Some b) number = not (number / 2 ^ b.low % 2 ^ b.width == 0)

-- whether a range has one of these bits of a word
abbrev pub sees : ℕ → ℕ → BitRange → Bool
sees word number r = has_word r.word word && has_some r.bits number

-- whether the bits of a range differ between two values of a word, where there is one
abbrev pub bits_differ : Option Bits → Option (List Digit) → Option (List Digit) → Bool
bits_differ bits before behind = not (option_eq same_digits (option_map (chosen_bits bits) before) (option_map (chosen_bits bits) behind))

-- two values of a word have one size
abbrev pub HaveOneSize : Option (List Digit) → Option (List Digit) → Type 0
HaveOneSize before behind = option_map (λ (ds : List Digit). length ds) before ≡ option_map (λ (ds : List Digit). length ds) behind

-- whether a range has a bit that differs between two values of a word of a signal
abbrev pub word_changes : ℕ → ℕ → Option (List Digit) → Option (List Digit) → BitRange → Bool
word_changes signal word before behind r = is_of signal r && (has_word r.word word && bits_differ r.bits before behind)

-- whether a range has a bit that differs between two stores in the word of a part
abbrev pub part_changes : Store → Store → Part → BitRange → Bool
part_changes old new p = word_changes p.signal p.word (word_of old p.signal p.word) (word_of new p.signal p.word)
