-- A word behind a write, made from that word alone: nothing that is promised rests on these.
use Rattle.std.specs.Prelude.{ℕ, ◌==◌, ◌&&◌, Bool, true, if◌then◌else◌, Option, Some, None, List, [], ◌∷◌}
use Rattle.vs_logic4.specs.declared.digit.Digit.{Digit}
use Rattle.vs_logic4.specs.Vectors.{same_digits}
use Rattle.vs_design.specs.declared.write.Part.{Part}
use Rattle.vs_design.specs.Stores.{Store, overlaid, word_of}
use Rattle.vs_design.specs.Writes.{Write}

-- a word of a signal behind parts of a write
abbrev pub after_parts : Write → ℕ → ℕ → List Digit → List Digit
after_parts [] signal word before = before
after_parts (p ∷ ps) signal word before =
    after_parts ps signal word (if (p.signal == signal) && (p.word == word) then overlaid p.low p.digits before else before)

-- whether a word, where there is one, is behind a change as before
abbrev pub is_kept : (List Digit → List Digit) → Option (List Digit) → Bool
is_kept change None = true
is_kept change (Some before) = same_digits before (change before)

-- whether the word that a part of a write names is behind the write as before
abbrev pub keeps : Store → Write → Part → Bool
keeps store w p = is_kept (after_parts w p.signal p.word) (word_of store p.signal p.word)
