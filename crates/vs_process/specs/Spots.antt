-- Bits of one word, all in range, by the place of the word in a store.
use Rattle.std.specs.Prelude.{ℕ, ◌≡◌, ◌<◌, ◌≤◌, ◌+◌, ◌-◌, ◌^◌, pos, false, Some, List, [], ◌∷◌, length, slice_get}
use Rattle.vs_design.specs.vs_logic4.specs.declared.digit.Digit.{Digit}
use Rattle.vs_design.specs.vs_logic4.specs.Vectors.{resized}
use Rattle.vs_design.specs.declared.signal.Signal.{Signal}
use Rattle.vs_design.specs.declared.statement.Target.{Target}
use Rattle.vs_design.specs.declared.write.Part.{Part}
use Rattle.vs_design.specs.InOrder.{IsStoreOf, numbered_word, words_before, words_in_order}
use Rattle.vs_design.specs.Stores.{Store, changed_at, overlaid, put, word_of}
use Rattle.vs_design.specs.Writes.{Write}
use Rattle.vs_strobe.specs.vs_eval.specs.Targets.{assigned}
use Rattle.vs_process.specs.declared.spot.Spot.{Spot}

-- the word is one of its signal, its index counts the words of all signals in design order, the bits are in it, and the mask has them
pub record IsSpotIn (signals : List Signal) (spot : Spot) : Type 0 where
  pub declared : Signal
  pub at : slice_get signals spot.signal ≡ Some declared
  pub below : spot.word < declared.count
  pub numbered : spot.index ≡ words_before signals spot.signal + spot.word
  pub inside : spot.shift + spot.width ≤ declared.width
  pub masked : spot.mask ≡ 2 ^ (spot.shift + spot.width) - 2 ^ spot.shift

-- the part of a write that gives the bits these digits
abbrev pub spot_part : Spot → List Digit → Part
spot_part spot digits = record { signal = spot.signal; word = spot.word; low = pos spot.shift; digits = digits }

-- the write of it alone
abbrev pub spot_write : Spot → List Digit → Write
spot_write spot digits = spot_part spot digits ∷ []

-- what a target gets of a value is written to a spot, in every store and at all times (clauses 5.4.1 and 6)
abbrev pub WritesTo : Target → Spot → Type 0
WritesTo t spot = (digits : List Digit) (store : Store) (time : ℕ) →
    assigned t (resized false t.width digits) store time ≡ spot_write spot (resized false spot.width digits)

-- the bits are those of a target, which is one fixed place
pub record IsSpotOf (signals : List Signal) (t : Target) (spot : Spot) : Type 0 where
  pub inside : IsSpotIn signals spot
  pub writes : WritesTo t spot

-- the word of a spot is the one at its index, of which a write to the spot changes the bits, and no other word (clause 5.2.1)
pub record SpotHolds (spot : Spot) (store : Store) : Type 0 where
  pub word : word_of store spot.signal spot.word ≡ Some (numbered_word store spot.index)
  pub within : spot.shift + spot.width ≤ length (numbered_word store spot.index)
  pub write : (digits : List Digit) →
      words_in_order (put store (spot_write spot digits)) ≡ changed_at (overlaid (pos spot.shift) digits) spot.index (words_in_order store)

-- so in each store of the design of a spot
abbrev pub SpotsHold : Type 0
SpotsHold = (signals : List Signal) (spot : Spot) (store : Store) → IsSpotIn signals spot → IsStoreOf signals store → SpotHolds spot store
