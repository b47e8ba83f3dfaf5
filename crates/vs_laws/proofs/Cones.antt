-- Drivers, sources and cones of designs that say the same.
use Rattle.std.proofs.Common.{◌≡◌, ℕ, ◌<◌, true, Option, slice_get, refl, sym, subst, ◌∙◌, inl, inr}
use Rattle.vs_syntax.specs.Same.{SameOption, both_absent, both_there}
use Rattle.vs_design.specs.declared.design.Process.{Process}
use Rattle.vs_design.specs.declared.range.BitRange.{BitRange}
use Rattle.vs_design.specs.Parts.{Parts}
use Rattle.vs_design.specs.Uses.{reads, writes}
use Rattle.vs_elab_statements.specs.vs_elab_signals.specs.Outlines.{Declared}
use Rattle.vs_process.specs.BlockDrivers.{outputs_for}
use Rattle.vs_rules.specs.Claims.{Claims}
use Rattle.vs_rules.specs.Controls.{controls_at, controls_of}
use Rattle.vs_rules.specs.Drivers.{Driver, assign, block, IsDriver, DriverWrites, DriverReads, Names, DriverNeeds, driver_name, Precedes, IsSource, IsBlocking, InCone, Passes, WritesBit}
use Rattle.vs_rules.specs.Paths.{Bit, IsBit, reads_for, reads_of, writes_of, Writes}
use Rattle.vs_laws.proofs.Designs.{AlikeProcess, Twins, back, processes_alike, signal_there, assign_there, meets_same}
use Rattle.vs_laws.proofs.Done.{lists_same, listed_as, writes_now_as}
use Rattle.vs_laws.proofs.Named.{kind_as, block_as, assign_names_same, process_names_same}
use Rattle.vs_laws.proofs.SourceTexts.{reads_same, writes_same, controls_same}
use Rattle.vs_laws.proofs.Walks.{point_as, term_as}

-- ---- whole texts

reads_by : (o o' : Option Process) → SameOption AlikeProcess o o' → reads_for o ≡ reads_for o'
reads_by _ _ both_absent = refl
reads_by _ _ (both_there p p' h) = reads_same p.body p'.body h.body

writes_by : (o o' : Option Process) → SameOption AlikeProcess o o' → outputs_for o ≡ outputs_for o'
writes_by _ _ both_absent = refl
writes_by _ _ (both_there p p' h) = writes_same p.body p'.body h.body

controls_by : (o o' : Option Process) → SameOption AlikeProcess o o' → controls_at o ≡ controls_at o'
controls_by _ _ both_absent = refl
controls_by _ _ (both_there p p' h) = controls_same p.body p'.body h.body

pub texts_read : {d d' : Parts} → Twins d d' → (i : ℕ) → reads_of d i ≡ reads_of d' i
texts_read {d} {d'} t i = reads_by (slice_get d.processes i) (slice_get d'.processes i) (processes_alike t i)

pub texts_write : {d d' : Parts} → Twins d d' → (i : ℕ) → writes_of d i ≡ writes_of d' i
texts_write {d} {d'} t i = writes_by (slice_get d.processes i) (slice_get d'.processes i) (processes_alike t i)

pub texts_control : {d d' : Parts} → Twins d d' → (i : ℕ) → controls_of d i ≡ controls_of d' i
texts_control {d} {d'} t i = controls_by (slice_get d.processes i) (slice_get d'.processes i) (processes_alike t i)

pub writes_as : {d d' : Parts} → Twins d d' → (i v : ℕ) → Writes d i v → Writes d' i v
writes_as {d} {d'} t i v h = listed_as d d' (writes_of d i) (writes_of d' i) v (texts_write t i) h

pub bit_as : {d d' : Parts} → Twins d d' → (b : Bit) → IsBit d b → IsBit d' b
bit_as t b h =
    let o = signal_there t b.signal h.signal h.is in
    record {
      signal = o.other;
      is = o.is;
      word = subst (λ (z : Declared). b.word < z.count) o.same h.word;
      place = subst (λ (z : Declared). b.place < z.width) o.same h.place;
    }

-- ---- drivers

pub driver_as : {d d' : Parts} → Twins d d' → (c : Claims) (x : Driver) → IsDriver d c x → IsDriver d' c x
driver_as t c (assign j) h = tt
driver_as t c (block i) h = block_as t c i h

pub driver_writes_as : {d d' : Parts} → Twins d d' → (x : Driver) (r : BitRange) → DriverWrites d x r → DriverWrites d' x r
driver_writes_as {d} {d'} t (assign j) r h =
    let o = assign_there t j h.0 h.1 in
    (o.other, o.is, lists_same d d' (writes h.0.target) (writes o.other.target) r o.same.sides.target.ranges h.2)
driver_writes_as {d} {d'} t (block i) r h = lists_same d d' (writes_of d i) (writes_of d' i) r (texts_write t i) h

pub driver_reads_as : {d d' : Parts} → Twins d d' → (x : Driver) (r : BitRange) → DriverReads d x r → DriverReads d' x r
driver_reads_as {d} {d'} t (assign j) r h =
    let o = assign_there t j h.0 h.1 in
    (o.other, o.is, lists_same d d' (reads h.0.source) (reads o.other.source) r o.same.sides.source.ranges h.2)
driver_reads_as {d} {d'} t (block i) r h = lists_same d d' (reads_of d i) (reads_of d' i) r (texts_read t i) h

pub names_as : {d d' : Parts} → Twins d d' → (i : ℕ) (r : BitRange) → Names d i r → Names d' i r
names_as t i r h = record { term = h.term; has = term_as t i h.term h.has; is = h.is; touches = tt }

pub driver_needs_as : {d d' : Parts} → Twins d d' → (x : Driver) (r : BitRange) → DriverNeeds d x r → DriverNeeds d' x r
driver_needs_as t (assign j) r h = driver_reads_as t (assign j) r h
driver_needs_as t (block i) r (inl h) = inl (driver_reads_as t (block i) r h)
driver_needs_as t (block i) r (inr h) = inr (names_as t i r h)

driver_names_same : {d d' : Parts} → Twins d d' → (x : Driver) → driver_name d x ≡ driver_name d' x
driver_names_same t (assign j) = assign_names_same t j
driver_names_same t (block i) = process_names_same t i

pub stands_before_as : {d d' : Parts} → Twins d d' → (c : Claims) (x y : Driver) → Precedes d c x y → Precedes d' c x y
stands_before_as t c x y h = record {
  one = h.one;
  other = h.other;
  is = sym (driver_names_same t x) ∙ h.is;
  other_is = sym (driver_names_same t y) ∙ h.other_is;
  before = h.before;
}

pub writes_bit_as : {d d' : Parts} → Twins d d' → (x : Driver) (b : Bit) → WritesBit d x b → WritesBit d' x b
writes_bit_as t x b h = record { range = h.range; writes = driver_writes_as t x h.range h.writes; has = h.has }

-- ---- sources and cones

pub source_as : {d d' : Parts} → Twins d d' → (c : Claims) (v : ℕ) → IsSource d c v → IsSource d' c v
source_as t c v h = record {
  variable = kind_as t true v h.variable;
  undriven = λ i b w. h.undriven i (block_as (back t) c i b) (writes_as (back t) i v w);
}

pub blocking_as : {d d' : Parts} → Twins d d' → (c : Claims) (u : ℕ) → IsBlocking d c u → IsBlocking d' c u
blocking_as {d} {d'} t c u h =
    let p = point_as t h.process h.point h.is in
    record { source = source_as t c u h.source; process = h.process; point = p.to; is = p.is; writes = writes_now_as d d' h.point p.to u p.same h.writes }

pub cone_as : {d d' : Parts} → Twins d d' → (c : Claims) (u : ℕ) (r : BitRange) → InCone d c u r → InCone d' c u r
cone_as t c u _ (InCone.here r s e m) = InCone.here r (source_as t c u s) e tt
cone_as t c u _ (InCone.through r w q x i h m n k) =
    InCone.through r w q x (driver_as t c x i) (driver_writes_as t x w h) (sym (meets_same t w r) ∙ m) (driver_needs_as t x q n) (cone_as t c u q k)

pub passes_as : {d d' : Parts} → Twins d d' → (c : Claims) (y : Driver) (r : BitRange) → Passes d c y r → Passes d' c y r
passes_as t c y _ (Passes.here r w i h m) = Passes.here r w (driver_as t c y i) (driver_writes_as t y w h) (sym (meets_same t w r) ∙ m)
passes_as t c y _ (Passes.through r w q x i h m n k) =
    Passes.through r w q x (driver_as t c x i) (driver_writes_as t x w h) (sym (meets_same t w r) ∙ m) (driver_needs_as t x q n) (passes_as t c y q k)
