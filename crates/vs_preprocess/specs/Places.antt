-- Where the bytes of a text come from.
use Rattle.std.specs.Prelude.{ℕ, zero, suc, ◌≡◌, ◌+◌, ◌<◌, ◌≤◌, List, [], ◌∷◌, ◌++◌, None, Some, get_or, length, replicate, slice_get}
use Rattle.std.specs.Coded.{×_prop, Unit-prop, le_prop}
use Rattle.std.proofs.Props.{props}
use Rattle.vs_prep_macros.specs.declared.fault.Spot.{Spot}
use Rattle.vs_preprocess.specs.declared.places.Form.{Form}
use Rattle.vs_preprocess.specs.declared.places.Form.TheVariants as form
use Rattle.vs_preprocess.specs.declared.places.Origin.{Origin}
use Rattle.vs_preprocess.specs.declared.places.Segment.{Segment}

-- where a byte of a text comes from: it is the byte at a spot, or stands for what is at a spot, or it is of the expansion of a use at a spot, by the
-- definition of a number
pub data Source : Type 0 where
  Copied : Spot → Source
  Made : Spot → Source
  Expanded : Spot → ℕ → Source

-- the bytes of the files that were opened, and where each byte of the text comes from
pub record Map : Type 0 where
  pub files : List (List ℕ)
  pub sources : List Source

-- where a byte comes from, as it is told
abbrev pub origin_of : Source → Origin
origin_of (Copied s) = record { spot = s; definition = None }
origin_of (Made s) = record { spot = s; definition = None }
origin_of (Expanded s number) = record { spot = s; definition = Some number }

-- a spot lies in a file that was opened, or at its end
abbrev pub IsInside : List (List ℕ) → Spot → Type 0
IsInside files s = (s.file < length files) × (s.place ≤ length (get_or files s.file []))

-- a file has this byte at a spot
abbrev pub HasByte : List (List ℕ) → Spot → ℕ → Type 0
HasByte files s byte = slice_get (get_or files s.file []) s.place ≡ Some byte

-- what is true of a byte of the text that comes from there
abbrev pub IsFrom : List (List ℕ) → Source → ℕ → Type 0
IsFrom files (Copied s) byte = HasByte files s byte
IsFrom files (Made s) byte = IsInside files s
IsFrom files (Expanded s number) byte = IsInside files s

-- the bytes of a text come from there, one by one
abbrev pub AreFrom : List (List ℕ) → List Source → List ℕ → Type 0
AreFrom files [] [] = Unit {0}
AreFrom files [] (b ∷ bs) = ⊥
AreFrom files (s ∷ ss) [] = ⊥
AreFrom files (s ∷ ss) (b ∷ bs) = IsFrom files s b × AreFrom files ss bs

-- so many bytes of a file from a place on
abbrev pub copied_from : ℕ → ℕ → ℕ → List Source
copied_from file place zero = []
copied_from file place (suc n) = Copied (record { file = file; place = place }) ∷ copied_from file (suc place) n

-- where so many bytes come from that come from a spot in some form
abbrev pub sources_in : Form → Spot → ℕ → List Source
sources_in form.Copied s n = copied_from s.file s.place n
sources_in form.Made s n = replicate n (Made s)
sources_in (form.Expanded number) s n = replicate n (Expanded s number)

-- where the bytes of segments come from
abbrev pub sources_of : List Segment → List Source
sources_of [] = []
sources_of (s ∷ ss) = sources_in s.form s.spot s.size ++ sources_of ss

-- how many bytes of its file a segment is
abbrev pub reach : Form → ℕ → ℕ
reach form.Copied n = n
reach _ n = 0

-- how many bytes a segment has
abbrev pub size_of : Segment → ℕ
size_of s = s.size

-- a segment lies in a file that was opened
abbrev pub IsSegmentInside : List (List ℕ) → Segment → Type 0
IsSegmentInside files s = (s.spot.file < length files) × (s.spot.place + reach s.form s.size ≤ length (get_or files s.spot.file []))

-- where the first segment begins, and 0 where there is none
abbrev pub begin_of : List Segment → ℕ
begin_of [] = 0
begin_of (s ∷ ss) = s.offset

-- the first segment is at the text's beginning
abbrev pub BeginsAtFirst : List Segment → Type 0
BeginsAtFirst ss = begin_of ss ≡ 0

-- each of these facts holds in one way
pub IsFrom-prop : (files : List (List ℕ)) (s : Source) (byte : ℕ) → IsProp (IsFrom files s byte)
IsFrom-prop files (Copied s) byte = Prim.hlevel props
IsFrom-prop files (Made s) byte = ×_prop le_prop le_prop
IsFrom-prop files (Expanded s number) byte = ×_prop le_prop le_prop

pub AreFrom-prop : (files : List (List ℕ)) (ss : List Source) (bs : List ℕ) → IsProp (AreFrom files ss bs)
AreFrom-prop files [] [] = Unit-prop
AreFrom-prop files [] (b ∷ bs) = λ p q. absurd p
AreFrom-prop files (s ∷ ss) [] = λ p q. absurd p
AreFrom-prop files (s ∷ ss) (b ∷ bs) = ×_prop (IsFrom-prop files s b) (AreFrom-prop files ss bs)
