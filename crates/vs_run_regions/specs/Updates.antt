-- Nonblocking updates of a slot, in memory: what they write.
use Rattle.std.specs.Prelude.{ℕ, ◌≡◌, ◌<◌, not, Bool, true, false, Option, Some, None, List, [], ◌∷◌, map, length, drop, take, slice_get, get_or}
use Rattle.std.specs.List.{list_any}
use Rattle.vs_design.specs.vs_logic4.specs.Planes.{digits_of_planes}
use Rattle.vs_design.specs.declared.signal.Signal.{Signal}
use Rattle.vs_design.specs.Writes.{Write, shares}
use Rattle.vs_run_regions.specs.declared.update.Bits.{Bits}
use Rattle.vs_run_regions.specs.declared.update.Update.{Update}
use Rattle.vs_run_regions.specs.declared.update.Update.TheVariants as u
use Rattle.vs_process.specs.Spots.{IsSpotIn, spot_write}

-- what is written to bits of one word
abbrev pub bits_write : Bits → Write
bits_write b = spot_write b.spot.now (digits_of_planes b.spot.now.width b.value b.unknown)

-- what an update writes, where these are the writes of any kind; one that is gone nothing
abbrev pub what_of : List Write → Update → Write
what_of writes (u.Bits b) = bits_write b
what_of writes (u.Any n) = get_or writes n []
what_of writes u.Gone = []

-- the same, where it isn't gone
abbrev pub left_of : List Write → Update → Option Write
left_of writes (u.Bits b) = Some (bits_write b)
left_of writes (u.Any n) = Some (get_or writes n [])
left_of writes u.Gone = None

-- those that there are
abbrev pub somes : {A : Type 0} → List (Option A) → List A
somes [] = []
somes (None ∷ xs) = somes xs
somes (Some x ∷ xs) = x ∷ somes xs

-- an update is one of bits of these signals, or one of the writes of any kind
abbrev pub IsIn : List Signal → List Write → Update → Type 0
IsIn signals writes (u.Bits b) = IsSpotIn signals b.spot.now
IsIn signals writes (u.Any n) = n < length writes
IsIn signals writes u.Gone = Unit {0}

abbrev pub AreIn : List Signal → List Write → List Update → Type 0
AreIn signals writes [] = Unit {0}
AreIn signals writes (x ∷ xs) = IsIn signals writes x × AreIn signals writes xs

-- what a contract sees of the updates of a slot: the design's signals, what the activated ones write, by their numbers, where they aren't gone, what those
-- write that are due and not activated, and the writes of any kind of the activated ones
pub record SlotView : Type 0 where
  pub signals : List Signal
  pub active : List (Option Write)
  pub due : List Write
  pub writes : List Write

-- the activated ones, of which so many are made and so many are left, and those that are due, of which none is gone
pub record AreSlotUpdates (signals : List Signal) (active : List Update) (made left : ℕ) (writes : List Write) (due : List Update) (due_writes : List Write) : Type 0 where
  pub active_in : AreIn signals writes active
  pub counted : left ≡ length (somes (map (left_of writes) (drop made active)))
  pub due_in : AreIn signals due_writes due
  pub none_gone : map (left_of due_writes) due ≡ map Some (map (what_of due_writes) due)

-- whether one of these writes names a signal that another one names
abbrev pub is_shared : Write → Option Write → Bool
is_shared newer None = false
is_shared newer (Some older) = shares older newer

-- whether an update is left, and no older one names a signal that it names
abbrev pub is_shown : List (Option Write) → Option (Option Write) → Bool
is_shown older None = false
is_shown older (Some None) = false
is_shown older (Some (Some w)) = not (list_any (is_shared w) older)

abbrev pub is_first_left : List (Option Write) → ℕ → Bool
is_first_left active number = is_shown (take number active) (slice_get active number)

-- whether an update of a number is left
abbrev pub is_there : Option (Option Write) → Bool
is_there (Some (Some w)) = true
is_there _ = false
