-- Segments that are put behind others, for private clauses.
use Rattle.std.specs.Prelude.{ℕ, ◌≡◌, ◌+◌, ◌-◌, ◌<◌, ◌≤◌, List, [], ◌∷◌, None, Some, get_or, length, min, slice_get}
use Rattle.std.specs.Coded.{×_prop, Unit-prop}
use Rattle.std.proofs.Props.{props}
use Rattle.vs_prep_macros.specs.declared.fault.Spot.{Spot}
use Rattle.vs_preprocess.specs.declared.places.Form.{Form}
use Rattle.vs_preprocess.specs.declared.places.Form.TheVariants as form
use Rattle.vs_preprocess.specs.declared.places.Origin.{Origin}
use Rattle.vs_preprocess.specs.declared.places.Segment.{Segment}
use Rattle.vs_preprocess.specs.Places.{reach}

-- so many bytes that come from a spot in some form lie in a file
abbrev pub IsReached : List (List ℕ) → ℕ → Spot → Form → Type 0
IsReached files n spot f = (spot.file < length files) × (spot.place + reach f n ≤ length (get_or files spot.file []))

-- a segment is the last one with so many bytes more, which are copied from a spot
pub record IsJoined (last : Segment) (n : ℕ) (spot : Spot) (s : Segment) : Type 0 where
  pub offset : s.offset ≡ last.offset
  pub size : s.size ≡ last.size + n
  pub begins : s.spot ≡ last.spot
  pub copied : s.form ≡ form.Copied
  pub was : last.form ≡ form.Copied
  pub file : last.spot.file ≡ spot.file
  pub place : last.spot.place + last.size ≡ spot.place

-- the first segment, if there is one, begins behind an offset
abbrev pub BeginsAfter : ℕ → List Segment → Type 0
BeginsAfter offset [] = Unit {0}
BeginsAfter offset (s ∷ ss) = offset < s.offset

-- segments stand one behind another, from an offset on
abbrev pub AreInLine : ℕ → List Segment → Type 0
AreInLine n [] = Unit {0}
AreInLine n (s ∷ ss) = (s.offset ≡ n) × AreInLine (n + s.size) ss

-- that holds in one way
pub AreInLine-prop : (n : ℕ) (ss : List Segment) → IsProp (AreInLine n ss)
AreInLine-prop n [] = Unit-prop
AreInLine-prop n (s ∷ ss) = ×_prop (Prim.hlevel props) (AreInLine-prop (n + s.size) ss)

-- the segment of a number begins at or before an offset, and the next one behind it
pub record IsLastAt (offset : ℕ) (ss : List Segment) (k : ℕ) : Type 0 where
  pub within : k < length ss
  pub begun : (s : Segment) → slice_get ss k ≡ Some s → s.offset ≤ offset
  pub next : (s : Segment) → slice_get ss (k + 1) ≡ Some s → offset < s.offset

-- where the byte at an offset comes from that is one of a segment's
abbrev pub origin_in : Form → ℕ → Segment → Origin
origin_in form.Copied offset s = record { spot = record { file = s.spot.file; place = s.spot.place + min (offset - s.offset) s.size }; definition = None }
origin_in form.Made offset s = record { spot = s.spot; definition = None }
origin_in (form.Expanded number) offset s = record { spot = s.spot; definition = Some number }
