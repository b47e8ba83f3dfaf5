-- The words of a store in two planes of bits: nothing that is promised rests on these.
use Rattle.std.specs.Prelude.{◌≡◌, ℕ, zero, suc, ◌+◌, ◌<◌, nat_lt, if◌then◌else◌, Option, Some, None, List, [], ◌∷◌, map, length, sum_by, slice_get, slice_index}
use Rattle.vs_logic4.specs.declared.digit.Digit.{Digit}
use Rattle.vs_logic4.specs.Planes.{digits_of_planes, ArePlanes}
use Rattle.vs_design.specs.declared.extent.Layout.{Layout}
use Rattle.vs_design.specs.declared.extent.Spot.{Spot}
use Rattle.vs_design.specs.Stores.{Store}

-- ---- what planes hold

-- the digits of the word at an index of the planes
abbrev pub word_at : ℕ → List ℕ → List ℕ → ℕ → List Digit
word_at width values unknowns index = digits_of_planes width (slice_index values index) (slice_index unknowns index)

-- the digits of so many words of one width, from an index of the planes on
abbrev pub words_from : ℕ → List ℕ → List ℕ → ℕ → ℕ → List (List Digit)
words_from width values unknowns index zero = []
words_from width values unknowns index (suc n) = word_at width values unknowns index ∷ words_from width values unknowns (suc index) n

-- the words of a signal
abbrev pub words_of : Layout → List ℕ → List ℕ → List (List Digit)
words_of e values unknowns = words_from e.width values unknowns e.first e.count

-- the store that planes hold
abbrev pub store_of : List Layout → List ℕ → List ℕ → Store
store_of extents values unknowns = map (λ (e : Layout). words_of e values unknowns) extents

-- ---- where the words are

-- where a word is among those of a signal
abbrev pub spot_in : Option Layout → ℕ → Option Spot
spot_in None word = None
spot_in (Some e) word = if nat_lt word e.count then Some (record { index = e.first + word; width = e.width }) else None

-- where a word of a signal is, where there is one
abbrev pub spot_of : List Layout → ℕ → ℕ → Option Spot
spot_of extents signal word = spot_in (slice_get extents signal) word

-- the words of signals are one after another, from an index of the planes to an end
abbrev pub InTurn : ℕ → List Layout → ℕ → Type 0
InTurn index [] end = index ≡ end
InTurn index (e ∷ es) end = (e.first ≡ index) × InTurn (index + e.count) es end

-- the words of signals are one after another from the start of the planes on
abbrev pub AreInTurn : List Layout → Type 0
AreInTurn extents = InTurn 0 extents (sum_by (λ (e : Layout). e.count) extents)

-- how many words each signal has
abbrev pub counts_of : List Layout → List ℕ
counts_of extents = map (λ (e : Layout). e.count) extents

-- the size of each signal's words
abbrev pub widths_of : List Layout → List ℕ
widths_of extents = map (λ (e : Layout). e.width) extents

-- a word of this width is at an index of the planes, and they are zero above it
abbrev pub IsWord : ℕ → List ℕ → List ℕ → ℕ → Type 0
IsWord width values unknowns index = ArePlanes width (slice_index values index) (slice_index unknowns index)

-- each word of each signal has the signal's width, and the planes are zero above it
abbrev pub AreWords : List Layout → List ℕ → List ℕ → Type 0
AreWords [] values unknowns = Unit {0}
AreWords (e ∷ es) values unknowns = ((k : ℕ) → k < e.count → IsWord e.width values unknowns (e.first + k)) × AreWords es values unknowns

-- the planes of a store
pub record ArePlanesOf (extents : List Layout) (values unknowns : List ℕ) : Type 0 where
  pub in_turn : InTurn 0 extents (length values)
  pub as_long : length unknowns ≡ length values
  pub words : AreWords extents values unknowns

-- a word of this width is at this index
pub record IsSpot (s : Spot) (values unknowns : List ℕ) : Type 0 where
  pub in_values : s.index < length values
  pub in_unknowns : s.index < length unknowns
  pub is_word : IsWord s.width values unknowns s.index
