-- The continuous assignments from which each one reads, as they are gathered.
use Rattle.std.proofs.Common.{◌≡◌, ℕ, ◌+◌, ◌-◌, ◌<◌, ◌≤◌, ◌⊎◌, ◌↔◌, inl, inr, Bool, true, false, ◌&&◌, nat_lt, Some, List, [], ◌∷◌, ◌++◌, length, get_or, slice_get, slice_index_or, IsTrue, Vec, Global, if◌then◌else◌, refl, sym, ◌∙◌, ap, subst, arith}
use Rattle.std.specs.List.{Contains}
use Rattle.std.proofs.lemmas.Bool.{lt-ltb, eqb-true, and_parts, true≢false}
use Rattle.std.proofs.lemmas.List.{length-append}
use Rattle.std.proofs.lemmas.List.Elements.{Contains-append_left, Contains-push, Contains-push_cases}
use Rattle.std.proofs.lemmas.Option.{none-some, same_Some, slice_get_within, slice_get-get_or}
use Rattle.vs_design.specs.declared.range.BitRange.{BitRange}
use Rattle.vs_design.specs.Parts.{Parts}
use Rattle.vs_design.specs.Uses.{covers, has_bit, has_word, is_of}
use Rattle.vs_process.specs.declared.moves.Grain.TheVariants.{Block}
use Rattle.vs_drivers.specs.vs_rules.specs.Claims.{Claims}
use Rattle.vs_drivers.specs.vs_rules.specs.Drivers.{Driver, IsDriver, DriverWrites, DriverNeeds}
use Rattle.vs_drivers.specs.vs_rules.specs.Drivers as drivers
use Rattle.vs_graph.specs.Order.{Needs}
use Rattle.vs_graph.proofs.Sorts.{push_cases}
use Rattle.vs_drivers.specs.declared.writers.Written.{Written}
use Rattle.vs_drivers.specs.vs_maps.specs.Texts.{AreCharts}
use Rattle.vs_drivers.specs.Wires.{Wiring, wiring, driver_at, IsWiringOf}
use Rattle.vs_drivers.specs.Ranges.{Share}
use Rattle.vs_design.specs.vs_logic4.proofs.Basics.{below_or, there as get_at}
use Rattle.vs_propose.specs.Needs.{ReadsFrom, AreNeeds, ArePut}
use Rattle.vs_propose.proofs.Places.{contains_at, at_contains}
use Rattle.vs_propose.proofs.Rules.{no_block}

-- ---- of one range

-- the drivers of the first so many of a row have been put
pub record PutBelow (d : Parts) (row : List Written) (range : BitRange) (old : List ℕ) (i : ℕ) (now : List ℕ) : Type 0 where
  pub sound : (y : ℕ) → Contains now y → Contains old y ⊎ ((w : Written) × Contains row w × Share d range w.range × (w.driver ≡ y))
  pub kept : (y : ℕ) → Contains old y → Contains now y
  pub whole : (k : ℕ) (w : Written) → k < i → slice_get row k ≡ Some w → Share d range w.range → Contains now w.driver

pub none_put : (d : Parts) (row : List Written) (range : BitRange) (old : List ℕ) → PutBelow d row range old 0 old
none_put d row range old = record { sound = λ y h. inl h; kept = λ y h. h; whole = λ k w low is share. absurd (omega (arith, low)) }

put_one : (d : Parts) (row : List Written) (range : BitRange) (old : List ℕ) (i : ℕ) (now new : List ℕ) (w : Written) → PutBelow d row range old i now → slice_get row i ≡ Some w →
    Share d range w.range → new ≡ now ++ w.driver ∷ [] → PutBelow d row range old (i + 1) new
put_one d row range old i now new w h is share e = subst (PutBelow d row range old (i + 1)) (sym e) (record {
  sound = λ y has. elim (Contains-push_cases now w.driver y has) [ inl before ↦ h.sound y before | inr same ↦ inr (w, contains_at row i w is, share, same) ];
  kept = λ y has. Contains-append_left now (w.driver ∷ []) y (h.kept y has);
  whole = λ k v low at other. elim (below_or k i low) [
    | inl l ↦ Contains-append_left now (w.driver ∷ []) v.driver (h.whole k v l at other)
    | inr same ↦ subst (λ (u : Written). Contains (now ++ w.driver ∷ []) u.driver) (same_Some w v (sym is ∙ ap (slice_get row) (sym same) ∙ at)) (Contains-push now w.driver)
  ];
})

put_none : (d : Parts) (row : List Written) (range : BitRange) (old : List ℕ) (i : ℕ) (now : List ℕ) (w : Written) → PutBelow d row range old i now → slice_get row i ≡ Some w →
    (Share d range w.range → ⊥) → PutBelow d row range old (i + 1) now
put_none d row range old i now w h is apart = record {
  sound = h.sound;
  kept = h.kept;
  whole = λ k v low at other. elim (below_or k i low) [
    | inl l ↦ h.whole k v l at other
    | inr same ↦ absurd (apart (subst (λ (u : Written). Share d range u.range) (sym (same_Some w v (sym is ∙ ap (slice_get row) (sym same) ∙ at))) other))
  ];
}

-- the next one of the row is put, or passed over, as a test says
pub one_put : (d : Parts) (row : List Written) (range : BitRange) (old : List ℕ) (i : ℕ) (now new : Vec ℕ Global) (more : List ℕ) (z : Written) → i < length row → (b : Bool) →
    (IsTrue b ↔ Share d range (get_or row i z).range) → b ≡ true → more ≡ now.items ++ (get_or row i z).driver ∷ [] → new.items ≡ more → PutBelow d row range old i now.items →
    PutBelow d row range old (i + 1) new.items
one_put d row range old i now new more z within b tells holds e same h =
    put_one d row range old i now.items new.items (get_or row i z) h (slice_get-get_or row i z within) (tells.0 holds) (same ∙ e)

pub none_put_more : (d : Parts) (row : List Written) (range : BitRange) (old : List ℕ) (i : ℕ) (now new : Vec ℕ Global) (z : Written) → i < length row → (b : Bool) →
    (IsTrue b ↔ Share d range (get_or row i z).range) → b ≡ false → new ≡ now → PutBelow d row range old i now.items → PutBelow d row range old (i + 1) new.items
none_put_more d row range old i now new z within b tells fails same h =
    subst (λ (v : Vec ℕ Global). PutBelow d row range old (i + 1) v.items) (sym same)
    (put_none d row range old i now.items (get_or row i z) h (slice_get-get_or row i z within) (λ share. true≢false (sym (tells.1 share) ∙ fails)))

pub all_put : (d : Parts) (row : List Written) (range : BitRange) (old : List ℕ) (i : ℕ) (now : List ℕ) → length row ≤ i → PutBelow d row range old i now → ArePut d row range old now
all_put d row range old i now all h = record {
  sound = h.sound;
  kept = h.kept;
  whole = λ w has share. let p = at_contains row w has in h.whole p.0 w (omega (arith, slice_get_within row p.0 w p.1, all)) p.1 share;
}

-- ---- what drivers write, and read, where there are no processes

pub nothing : Claims
nothing = record { version = 1; displays = false; grain = Block; modulus = 1; edges = []; order = []; processes = []; signals = [] }

wired : (d : Parts) → d.processes ≡ [] → IsWiringOf d nothing (wiring d [])
wired d still = record { design = refl; blocks = λ i. (λ h. absurd (unmarked i h), λ b. absurd (no_block d nothing still i b)) } where
  unmarked : (i : ℕ) → IsTrue (slice_index_or [] i false) → ⊥
  unmarked i h = absurd (true≢false (sym h))

pub wired_of : (d : Parts) (y : Wiring) → d.processes ≡ [] → y ≡ wiring d [] → IsWiringOf d nothing y
wired_of d y still is = subst (IsWiringOf d nothing) (sym is) (wired d still)

-- no text has a map
pub no_maps : (d : Parts) → d.processes ≡ [] → AreCharts d []
no_maps d still = record { as_many = sym (ap length still); each = λ i q t is at. absurd (none-some t at) }

-- the driver of a number is a continuous assignment
as_assign : (d : Parts) (P : Driver → Type 0) → d.processes ≡ [] → (n : ℕ) → IsDriver d nothing (driver_at d n) → P (driver_at d n) → P (drivers.assign n)
as_assign d P still n driver h = by (nat_lt n (length d.assigns)) driver h where
  by : (b : Bool) → IsDriver d nothing (if b then drivers.assign n else drivers.block (n - length d.assigns)) → P (if b then drivers.assign n else drivers.block (n - length d.assigns)) → P (drivers.assign n)
  by true driver h = h
  by false driver h = absurd (no_block d nothing still (n - length d.assigns) driver)

as_driver : (d : Parts) (P : Driver → Type 0) (n : ℕ) → n < length d.assigns → P (drivers.assign n) → IsDriver d nothing (driver_at d n) × P (driver_at d n)
as_driver d P n within h = by (nat_lt n (length d.assigns)) (lt-ltb n (length d.assigns) within) where
  by : (b : Bool) → b ≡ true → IsDriver d nothing (if b then drivers.assign n else drivers.block (n - length d.assigns)) × P (if b then drivers.assign n else drivers.block (n - length d.assigns))
  by true e = (tt, h)
  by false e = absurd (true≢false (sym e))

-- ---- of all ranges that one reads

-- what a row has, of a signal, and what a list has, of a reader
pub record RowIs (d : Parts) (row : List Written) (v : ℕ) : Type 0 where
  pub are : (n : ℕ) (r : BitRange) → (Contains row (record { driver = n; range = r }) ↔
      ((v < length d.signals) × (r.signal ≡ v) × IsDriver d nothing (driver_at d n) × DriverWrites d (driver_at d n) r))

pub record NeedsAre (d : Parts) (x : ℕ) (ranges : List BitRange) : Type 0 where
  pub are : (r : BitRange) → (Contains ranges r ↔ (IsDriver d nothing (driver_at d x) × DriverNeeds d (driver_at d x) r))

signal_of : (r : BitRange) (v w n : ℕ) → covers v w n r ≡ true → r.signal ≡ v
signal_of r v w n h =
    let a = and_parts (is_of v r && has_word r.word w) (has_bit r.bits n) h in
    let b = and_parts (is_of v r) (has_word r.word w) a.0 in
    eqb-true r.signal v b.0

-- what has been gathered by the first so many ranges
pub record GatheredBelow (d : Parts) (x : ℕ) (ranges : List BitRange) (i : ℕ) (now : List ℕ) : Type 0 where
  pub sound : (y : ℕ) → Contains now y → ReadsFrom d x y
  pub whole : (k : ℕ) (r : BitRange) → k < i → slice_get ranges k ≡ Some r → (y : ℕ) (q : BitRange) → DriverWrites d (drivers.assign y) q → Share d r q → Contains now y

pub none_gathered : (d : Parts) (x : ℕ) (ranges : List BitRange) (now : List ℕ) → now ≡ [] → GatheredBelow d x ranges 0 now
none_gathered d x ranges now e = record {
  sound = λ y h. let none : Contains [] y = subst (λ t. Contains t y) e h in absurd (omega (arith, none.1));
  whole = λ k r low. absurd (omega (arith, low));
}

gather_one : (d : Parts) (x : ℕ) (ranges : List BitRange) (row : List Written) (i : ℕ) (now new : List ℕ) (r : BitRange) → d.processes ≡ [] → NeedsAre d x ranges →
    slice_get ranges i ≡ Some r → RowIs d row r.signal → ArePut d row r now new → GatheredBelow d x ranges i now → GatheredBelow d x ranges (i + 1) new
gather_one d x ranges row i now new r still needs is rows put h = record {
  sound = λ y has. elim (put.sound y has) [
    | inl before ↦ h.sound y before
    | inr w ↦ subst (ReadsFrom d x) w.3 (from w.0 w.1 w.2)
  ];
  whole = λ k q low at y written writes share. elim (below_or k i low) [
    | inl l ↦ put.kept y (h.whole k q l at y written writes share)
    | inr same ↦ last y written writes (subst (λ (t : BitRange). Share d t written) (sym (same_Some r q (sym is ∙ ap (slice_get ranges) (sym same) ∙ at))) share)
  ];
} where
  from : (w : Written) → Contains row w → Share d r w.range → ReadsFrom d x w.driver
  from w has share =
      let n = (needs.are r).0 (contains_at ranges i r is) in
      let e = (rows.are w.driver w.range).0 has in
      record {
        read = r;
        reads = as_assign d (λ (z : Driver). DriverNeeds d z r) still x n.0 n.1;
        written = w.range;
        writes = as_assign d (λ (z : Driver). DriverWrites d z w.range) still w.driver e.2 e.3;
        share = share;
      }

  last : (y : ℕ) (written : BitRange) → DriverWrites d (drivers.assign y) written → Share d r written → Contains new y
  last y written writes share =
      let one = signal_of r share.bit.signal share.bit.word share.bit.place share.has in
      let other = signal_of written share.bit.signal share.bit.word share.bit.place share.other_has in
      let within : r.signal < length d.signals = omega (arith, one, slice_get_within d.signals share.bit.signal share.is.signal share.is.is) in
      let driver = as_driver d (λ (z : Driver). DriverWrites d z written) y (slice_get_within d.assigns y writes.0 writes.1) writes in
      put.whole (record { driver = y; range = written }) ((rows.are y written).1 (within, other ∙ sym one, driver.0, driver.1)) share

pub one_gathered : (d : Parts) (x : ℕ) (ranges : List BitRange) (row : List Written) (i : ℕ) (now new : List ℕ) (z : BitRange) → d.processes ≡ [] → NeedsAre d x ranges →
    i < length ranges → RowIs d row (get_or ranges i z).signal → ArePut d row (get_or ranges i z) now new → GatheredBelow d x ranges i now → GatheredBelow d x ranges (i + 1) new
one_gathered d x ranges row i now new z still needs within rows put h =
    gather_one d x ranges row i now new (get_or ranges i z) still needs (slice_get-get_or ranges i z within) rows put h

pub all_gathered : (d : Parts) (x : ℕ) (ranges : List BitRange) (i : ℕ) (now : List ℕ) → length ranges ≤ i → NeedsAre d x ranges → GatheredBelow d x ranges i now →
    (y : ℕ) → (Contains now y ↔ ReadsFrom d x y)
all_gathered d x ranges i now all needs h y = (h.sound y, back) where
  back : ReadsFrom d x y → Contains now y
  back reads =
      let driver = as_driver d (λ (z : Driver). DriverNeeds d z reads.read) x (slice_get_within d.assigns x reads.reads.0 reads.reads.1) reads.reads in
      let p = at_contains ranges reads.read ((needs.are reads.read).1 driver) in
      h.whole p.0 reads.read (omega (arith, slice_get_within ranges p.0 reads.read p.1, all)) p.1 y reads.written reads.writes reads.share

-- ---- of all continuous assignments

pub record NeedsBelow (d : Parts) (i : ℕ) (table : List (Vec ℕ Global)) : Type 0 where
  pub long : length table ≡ i
  pub exact : (k : ℕ) (row : Vec ℕ Global) → slice_get table k ≡ Some row → (y : ℕ) → (Contains row.items y ↔ ReadsFrom d k y)

pub none_needed : (d : Parts) (table : List (Vec ℕ Global)) → table ≡ [] → NeedsBelow d 0 table
none_needed d table e = record {
  long = ap length e;
  exact = λ k row at. absurd (none-some row (subst (λ t. slice_get t k ≡ Some row) e at));
}

pub one_needed : (d : Parts) (i : ℕ) (table more : List (Vec ℕ Global)) (row : Vec ℕ Global) → ((y : ℕ) → (Contains row.items y ↔ ReadsFrom d i y)) → more ≡ table ++ row ∷ [] →
    NeedsBelow d i table → NeedsBelow d (i + 1) more
one_needed d i table more row needs e h = subst (NeedsBelow d (i + 1)) (sym e) (record {
  long = omega (arith, length-append table (row ∷ []), h.long);
  exact = λ k r at y. elim (push_cases table row k r at) [
    | inl before ↦ h.exact k r before y
    | inr last ↦ subst (λ (n : ℕ). (Contains r.items y ↔ ReadsFrom d n y)) (sym (last.0 ∙ h.long)) (subst (λ (v : Vec ℕ Global). (Contains v.items y ↔ ReadsFrom d i y)) last.1 (needs y))
  ];
})

pub all_needed : (d : Parts) (i : ℕ) (table : List (Vec ℕ Global)) → length d.assigns ≡ i → NeedsBelow d i table → AreNeeds d table
all_needed d i table all h = record {
  long = h.long ∙ sym all;
  exact = λ x y. (λ n. (h.exact x n.list n.is y).0 n.has, back x y);
} where
  back : (x y : ℕ) → ReadsFrom d x y → Needs table x y
  back x y reads =
      let within : x < length table = omega (arith, slice_get_within d.assigns x reads.reads.0 reads.reads.1, all, h.long) in
      let row = get_at table x within in
      record { list = row.0; is = row.1; has = (h.exact x row.0 row.1 y).1 reads }
