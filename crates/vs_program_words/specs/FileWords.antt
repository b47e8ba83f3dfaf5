-- The words of a command line that name files, whether they can be read or not.
use Rattle.std.specs.Prelude.{ℕ, zero, suc, ◌==◌, ◌||◌, not, Bool, true, false, List, [], ◌∷◌, codes, if◌then◌else◌}
use Rattle.std.specs.Str.{bytes_eq}

-- how many words behind a word are values of it, as an option
abbrev pub option_values : List ℕ → ℕ
option_values word = if bytes_eq word (codes "--vcd-pair") then 2
    else (if bytes_eq word (codes "-o") then 1 else (if bytes_eq word (codes "-D") then 1
    else (if bytes_eq word (codes "-I") then 1 else (if bytes_eq word (codes "--top") then 1
    else (if bytes_eq word (codes "--until") then 1 else (if bytes_eq word (codes "--steps") then 1
    else (if bytes_eq word (codes "--policy") then 1 else (if bytes_eq word (codes "--out") then 1
    else (if bytes_eq word (codes "--vcd") then 1 else (if bytes_eq word (codes "--certificate") then 1
    else (if bytes_eq word (codes "--grain") then 1 else (if bytes_eq word (codes "--tries") then 1
    else (if bytes_eq word (codes "--seed") then 1 else (if bytes_eq word (codes "--from") then 1
    else (if bytes_eq word (codes "--rules") then 1 else 0)))))))))))))))

-- whether a word that is no option's value is a file's name: `-` is one, and what doesn't begin so
abbrev pub is_file : List ℕ → Bool
is_file (first ∷ (next ∷ rest)) = not (first == 45)
is_file _ = true

-- whether a word names a file, where so many words from it on name none
abbrev pub is_named : ℕ → List ℕ → Bool
is_named zero word = is_file word
is_named (suc due) word = false

-- how many words behind it name none
abbrev pub due_after : ℕ → List ℕ → ℕ
due_after zero word = option_values word
due_after (suc due) word = due

-- whether words name a file, of which so many name none: a word that is neither an option nor an option's value
abbrev pub names_file : ℕ → List (List ℕ) → Bool
names_file due [] = false
names_file due (word ∷ rest) = is_named due word || names_file (due_after due word) rest
