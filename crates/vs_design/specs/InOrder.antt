-- The words of a store by one number each: those of one signal behind those of another, in design order.
use Rattle.std.specs.Prelude.{◌≡◌, ℕ, zero, suc, ◌+◌, ◌-◌, nat_lt, if◌then◌else◌, List, [], ◌∷◌, ◌++◌, map, length, replicate, get_or}
use Rattle.vs_logic4.specs.declared.digit.Digit.{Digit}
use Rattle.vs_design.specs.declared.signal.Signal.{Signal}
use Rattle.vs_design.specs.Stores.{Store, changed_at}

-- the words of all signals, in design order
abbrev pub words_in_order : Store → List (List Digit)
words_in_order [] = []
words_in_order (words ∷ rest) = words ++ words_in_order rest

-- the word of a number; of one past the end no digits
abbrev pub numbered_word : Store → ℕ → List Digit
numbered_word store number = get_or (words_in_order store) number []

-- a store with these digits as the word of a number; past the end nothing is changed
abbrev pub with_word : Store → ℕ → List Digit → Store
with_word [] number digits = []
with_word (words ∷ rest) number digits =
    if nat_lt number (length words)
    then changed_at (λ (word : List Digit). digits) number words ∷ rest
    else words ∷ with_word rest (number - length words) digits

-- how many words are before those of a signal
abbrev pub words_before : List Signal → ℕ → ℕ
words_before signals zero = 0
words_before [] (suc i) = 0
words_before (s ∷ ss) (suc i) = s.count + words_before ss i

-- the sizes of the words of each signal of a store
abbrev pub word_sizes : Store → List (List ℕ)
word_sizes store = map (λ words. map length words) store

-- the sizes of the words of each of some signals
abbrev pub sizes_of_signals : List Signal → List (List ℕ)
sizes_of_signals signals = map (λ (s : Signal). replicate s.count s.width) signals

-- whether a store has as many words of each of some signals as it was declared with, of its size
abbrev pub IsStoreOf : List Signal → Store → Type 0
IsStoreOf signals store = word_sizes store ≡ sizes_of_signals signals
