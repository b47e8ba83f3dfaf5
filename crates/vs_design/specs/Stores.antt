-- Stores: the values of a design's variables and nets.
use Rattle.std.specs.Prelude.{ℕ, ℤ, zero, suc, ◌&&◌, not, Bool, true, false, Option, Some, None, List, [], ◌∷◌, map, take, drop, replicate, slice_get}
use Rattle.std.specs.List.{list_any}
use Rattle.vs_logic4.specs.declared.digit.Digit.{Digit}
use Rattle.vs_logic4.specs.declared.digit.Digit.TheVariants.{X, Z}
use Rattle.vs_logic4.specs.Vectors.{same_digits}
use Rattle.vs_logic4.specs.Parts.{with_part}
use Rattle.vs_design.specs.declared.signal.Signal.{Signal}
use Rattle.vs_design.specs.declared.signal.SignalKind.{SignalKind}
use Rattle.vs_design.specs.declared.signal.SignalKind.TheVariants.{Wire, Reg, Integer}
use Rattle.vs_design.specs.declared.design.Assign.{Assign}
use Rattle.vs_design.specs.declared.range.Bits.{Bits}
use Rattle.vs_design.specs.declared.range.BitRange.{BitRange}
use Rattle.vs_design.specs.declared.write.Part.{Part}
use Rattle.vs_design.specs.Parts.{Parts}
use Rattle.vs_design.specs.Uses.{all_words, covers, writes, writes_signal}
use Rattle.vs_design.specs.Writes.{Write}

-- a vector for each word of each signal: by signal, by word, the digits, lowest first
abbrev pub Store : Type 0
Store = List (List (List Digit))

abbrev pub word_in : Option (List (List Digit)) → ℕ → Option (List Digit)
word_in None word = None
word_in (Some words) word = slice_get words word

-- a word of a signal, where there is one
abbrev pub word_of : Store → ℕ → ℕ → Option (List Digit)
word_of store signal word = word_in (slice_get store signal) word

-- ---- writes

-- a list whose element at a place is changed; past the end nothing is
abbrev pub changed_at : {A : Type 0} → (A → A) → ℕ → List A → List A
changed_at f i [] = []
changed_at f zero (x ∷ xs) = f x ∷ xs
changed_at f (suc i) (x ∷ xs) = x ∷ changed_at f i xs

-- a word with these digits laid over it from the place `low` on; digits out of range are dropped (clause 5.2.1)
abbrev pub overlaid : ℤ → List Digit → List Digit → List Digit
overlaid low digits word = with_part low digits word

-- a store after one part of a write; a part without a word is dropped
abbrev pub put_part : Store → Part → Store
put_part store p = changed_at (changed_at (overlaid p.low p.digits) p.word) p.signal store

-- a store after a write: its parts one after another, so that the highest stays where a bit is named twice (profile)
abbrev pub put : Store → Write → Store
put store [] = store
put store (p ∷ ps) = put (put_part store p) ps

-- ---- changes

abbrev pub same_words : List (List Digit) → List (List Digit) → Bool
same_words [] [] = true
same_words (a ∷ as') (b ∷ bs) = same_digits a b && same_words as' bs
same_words _ _ = false

-- the words of a signal; of none there are none
abbrev pub words_in : Option (List (List Digit)) → List (List Digit)
words_in None = []
words_in (Some words) = words

abbrev pub one_word : Option (List Digit) → List (List Digit)
one_word None = []
one_word (Some word) = word ∷ []

-- those of a signal's words that a range has
abbrev pub chosen_words : Option ℕ → List (List Digit) → List (List Digit)
chosen_words None words = words
chosen_words (Some word) words = one_word (slice_get words word)

-- those of a word's digits that a range has
abbrev pub chosen_bits : Option Bits → List Digit → List Digit
chosen_bits None word = word
chosen_bits (Some b) word = take b.width (drop b.low word)

-- what a range holds in a store
abbrev pub content : BitRange → Store → List (List Digit)
content r store = map (chosen_bits r.bits) (chosen_words r.word (words_in (slice_get store r.signal)))

-- whether a bit of a range differs between two stores
abbrev pub is_changed : Store → Store → BitRange → Bool
is_changed old new r = not (same_words (content r old) (content r new))

-- whether a write would change nothing in a store: of each signal that it names each word is behind it as before
abbrev pub changes_nothing : Store → Write → Bool
changes_nothing store w = not (list_any (λ (p : Part). is_changed store (put store w) (all_words p.signal)) w)

-- ---- the start

-- whether a continuous assignment names the signal
abbrev pub is_driven : List Assign → ℕ → Bool
is_driven assigns signal = list_any (λ (a : Assign). writes_signal a.target signal) assigns

-- whether a continuous assignment drives this bit of a net (clause 6.1)
abbrev pub drives_bit : List Assign → ℕ → ℕ → Bool
drives_bit assigns signal place = list_any (λ (a : Assign). list_any (covers signal 0 place) (writes a.target)) assigns

-- what a bit holds before the first step: that of a variable x, that of a net z without a driver and x with one (clauses 4.2.2 and 4.6.1; the driven bit: profile)
abbrev pub start_digit : Bool → SignalKind → Digit
start_digit driven Reg = X
start_digit driven Integer = X
start_digit true Wire = X
start_digit false Wire = Z

-- what so many bits from a place on hold before the first step
abbrev pub start_digits : (ℕ → Bool) → SignalKind → ℕ → ℕ → List Digit
start_digits driven kind place zero = []
start_digits driven kind place (suc n) = start_digit (driven place) kind ∷ start_digits driven kind (suc place) n

-- what each word of a signal holds before the first step
abbrev pub start_word : List Assign → ℕ → Signal → List Digit
start_word assigns number s = start_digits (drives_bit assigns number) s.kind 0 s.width

abbrev pub start_words : List Assign → ℕ → List Signal → Store
start_words assigns first [] = []
start_words assigns first (s ∷ ss) = replicate s.count (start_word assigns first s) ∷ start_words assigns (suc first) ss

-- the store in which every execution of a design begins
abbrev pub start_store : Parts → Store
start_store d = start_words d.assigns 0 d.signals
