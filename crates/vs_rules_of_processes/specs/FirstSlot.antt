-- The rule K10 of processes, by the places of maps.
use Rattle.std.specs.Prelude.{ℕ, ◌≡◌, ◌⊎◌, ◌↔◌, Bool, true, false, Some, List, slice_get, slice_index_or, IsTrue}
use Rattle.std.specs.List.{Contains}
use Rattle.vs_design.specs.declared.range.BitRange.{BitRange}
use Rattle.vs_design.specs.Parts.{Parts}
use Rattle.vs_maps.specs.vs_rules.specs.Claims.{Claims, HasKind, IsBlock, IsSequential, IsWide, is_wide}
use Rattle.vs_maps.specs.vs_rules.specs.Drivers.{block, DriverNeeds, InCone}
use Rattle.vs_maps.specs.vs_rules.specs.Paths.{IsSlot0, Writes, WritesNow}
use Rattle.vs_maps.specs.vs_rules.specs.Rules.{BlockNeeds}
use Rattle.vs_drivers.specs.vs_maps.specs.Ranges.{HasSignal, now_at, reads_at, shows_at}
use Rattle.vs_drivers.specs.vs_maps.specs.Reaches.{Chart, IsPlace, InSlot0, InPrologue}
use Rattle.vs_process.specs.Places.{Todo}
use Rattle.vs_maps.specs.Texts.{AllNow, texts_of}
use Rattle.vs_claims.specs.Facts.{Case}

-- ---- what blocks hang on

-- a range is shown at some place of a map, which is a point
pub record Shows (t : Chart) (r : BitRange) : Type 0 where
  pub place : ℕ
  pub is_place : IsPlace t place
  pub shows : Contains (shows_at t place) r

-- it is at one of the map of a process
abbrev pub ShowsIn : List Chart → ℕ → BitRange → Type 0
ShowsIn charts i r = (t : Chart) × (slice_get charts i ≡ Some t) × Shows t r

-- a process of kind comb needs the range, or where the certificate says so it shows it
pub data NeedsIn (k : Case) (i : ℕ) (r : BitRange) : Type 0 where
  needs : IsBlock k.design k.claims i → DriverNeeds k.design (block i) r → NeedsIn k i r
  shows : IsBlock k.design k.claims i → k.claims.displays ≡ true → ShowsIn k.charts i r → NeedsIn k i r

-- the signal is in the cone of what a block needs
pub record Hangs (d : Parts) (c : Claims) (u : ℕ) : Type 0 where
  pub range : BitRange
  pub needs : BlockNeeds d c range
  pub cone : InCone d c u range

-- marks say of which signals this holds
abbrev pub AreHung : Parts → Claims → List Bool → Type 0
AreHung d c marks = (u : ℕ) → (IsTrue (slice_index_or marks u false) ↔ Hangs d c u)

-- what is known of facts: which signals blocks hang on
pub record AreFirst (k : Case) (hung : List Bool) : Type 0 where
  pub hung_are : AreHung k.design k.claims hung

-- ---- places

-- a place is of this process, or isn't done in the first slot, by the paths of version 3
abbrev pub IsPast : List Chart → ℕ → ℕ → ℕ → Type 0
IsPast charts i j p = (j ≡ i) ⊎ ((t : Chart) → slice_get charts j ≡ Some t → InSlot0 true t p → ⊥)

-- a variable that the process writes, and no other one; in version 3 one that no other process writes by `=` in the first slot, nor a block
pub record IsOwn (d : Parts) (c : Claims) (i v : ℕ) : Type 0 where
  pub variable : HasKind true d v
  pub written : (IsWide c → ⊥) → Writes d i v
  pub alone : (j : ℕ) → Writes d j v → (j ≡ i) ⊎ (IsWide c × (IsBlock d c j → ⊥))
  pub first : (j : ℕ) (l : Todo) → IsWide c → IsSlot0 d (is_wide c) j l → WritesNow d l v → j ≡ i

-- no process but this one is a block and writes the variable, and by the maps none but this one writes it by `=` in the first slot
pub record IsFirst (k : Case) (i v : ℕ) : Type 0 where
  pub others : (j : ℕ) → Writes k.design j v → (j ≡ i) ⊎ (IsBlock k.design k.claims j → ⊥)
  pub now : AllNow (texts_of k.design k.charts) v (IsPast k.charts i)

-- all ranges are of such variables
abbrev pub AreOwn : Parts → Claims → ℕ → List BitRange → Type 0
AreOwn d c i rs = (r : BitRange) → Contains rs r → IsOwn d c i r.signal

-- what is read at a place is a variable of the process's own, and where the certificate says so what is shown
pub record ReadsOwn (d : Parts) (c : Claims) (i : ℕ) (t : Chart) (p : ℕ) : Type 0 where
  pub reads : AreOwn d c i (reads_at t p)
  pub shows : c.displays ≡ true → AreOwn d c i (shows_at t p)

-- no range is of a signal on which blocks hang
abbrev pub NoneHangs : Parts → Claims → List BitRange → Type 0
NoneHangs d c rs = (u : ℕ) → HasSignal rs u → Hangs d c u → ⊥

-- the places of a process's map keep the rule
pub record KeepsFirst (d : Parts) (c : Claims) (i : ℕ) (t : Chart) : Type 0 where
  pub reads : IsSequential d c i → (p : ℕ) → InSlot0 (is_wide c) t p → ReadsOwn d c i t p
  pub untouched : (p : ℕ) → InPrologue (is_wide c) t p → NoneHangs d c (now_at t p)
