-- The rule K4, by what drivers write of a signal.
use Rattle.std.proofs.Common.{◌≡◌, ℕ, ◌+◌, ◌-◌, ◌<◌, ◌≤◌, ◌⊎◌, inl, inr, ◌↔◌, nat_lt, Bool, true, false, IsTrue, Some, List, [], ◌∷◌, length, get_or, slice_get, if◌then◌else◌, refl, sym, ◌∙◌, ap, subst, arith}
use Rattle.std.specs.List.{Contains}
use Rattle.std.proofs.lemmas.Bool.{false≢true, lt-ltb, ltb-true, not-true as not_so}
use Rattle.std.proofs.lemmas.List.{get_or_default}
use Rattle.std.proofs.lemmas.Option.{same_Some, slice_get_read, slice_get_within}
use Rattle.vs_design.specs.declared.design.Assign.{Assign}
use Rattle.vs_design.specs.declared.range.BitRange.{BitRange}
use Rattle.vs_design.specs.Parts.{Parts}
use Rattle.vs_design.specs.Uses.{reads}
use Rattle.vs_design.specs.declared.design.Process.{Process}
use Rattle.std.proofs.lemmas.List.Elements.{Contains-get_or}
use Rattle.vs_drivers.specs.vs_rules.specs.Claims.{Claims, HasKind, IsBlock}
use Rattle.vs_drivers.specs.vs_rules.specs.Drivers.{Driver, assign, block, IsDriver, DriverReads, DriverWrites, IsSource, Precedes, WritesBit}
use Rattle.vs_drivers.specs.vs_rules.specs.Paths.{Bit, IsBit, Has, reads_for, text_reads}
use Rattle.vs_drivers.specs.vs_rules.specs.Rules.{K4, IsSelf, IsCovered}
use Rattle.vs_drivers.specs.vs_maps.proofs.RangeLemmas.{later_in, in_either}
use Rattle.vs_drivers.specs.Ranges.{Cover, Share}
use Rattle.vs_drivers.proofs.Words.{parted}
use Rattle.vs_drivers.specs.declared.writers.Written.{Written}
use Rattle.vs_drivers.specs.Wires.{driver_at}
use Rattle.vs_design.specs.vs_logic4.proofs.Basics.{below_or}
use Rattle.vs_graph.proofs.RowLemmas.{head_in as first_in}
use Rattle.vs_rules_of_signals.specs.Order.{AreWriters, ranges_of, MayRead, IsKnown, IsEarlier, KeepsRead, KeepsReads}

-- ---- loops over lists

pub one_more : {A : Type 0} (xs : List A) (P : A → Type 0) (i : ℕ) (z : A) → i < length xs → ((k : ℕ) (x : A) → k < i → get_or xs k x ≡ x → P x) →
    P (get_or xs i z) → (k : ℕ) (x : A) → k < i + 1 → get_or xs k x ≡ x → P x
one_more xs P i z within before here k x less is = elim (below_or k i less) [
  | inl l ↦ before k x l is
  | inr e ↦ subst P (get_or_default xs i z x within ∙ ap (λ (m : ℕ). get_or xs m x) (sym e) ∙ is) here
]

map_on : (row : List Written) (r : BitRange) → Contains (ranges_of row) r → (w : Written) × Contains row w × (w.range ≡ r)
map_on [] r h = absurd (omega (arith, h.1))
map_on (w ∷ row) r h = elim (in_either w.range (ranges_of row) r h) [
  | inl e ↦ (w, first_in w row, e)
  | inr c ↦ let y = map_on row r c in (y.0, later_in w row y.0 y.1, y.2)
]

map_back : (row : List Written) (w : Written) → Contains row w → Contains (ranges_of row) w.range
map_back [] w h = absurd (omega (arith, h.1))
map_back (x ∷ row) w h = elim (in_either x row w h) [
  | inl e ↦ subst (λ (y : Written). Contains (x.range ∷ ranges_of row) y.range) e (first_in x.range (ranges_of row))
  | inr c ↦ later_in x.range (ranges_of row) w.range (map_back row w c)
]

-- ---- signals

pub known_by : (d : Parts) (row : List Written) (ranges : List BitRange) (source : Bool) (r : BitRange) (b : Bool) → ranges ≡ ranges_of row → (HasKind false d r.signal → ⊥) →
    source ≡ false → (IsTrue b ↔ Cover d ranges r) → (IsTrue b ↔ (HasKind false d r.signal ⊎ (IsTrue source ⊎ Cover d (ranges_of row) r)))
known_by d row ranges source r b e no_net no_source h = (
  λ y. inr (inr (subst (λ (l : List BitRange). Cover d l r) e (h.0 y))),
  λ k. elim k [
    | inl net ↦ absurd (no_net net)
    | inr other ↦ elim other [
      | inl s ↦ absurd (false≢true (sym no_source ∙ s))
      | inr c ↦ h.1 (subst (λ (l : List BitRange). Cover d l r) (sym e) c)
    ]
  ],
)

-- ---- drivers by numbers

not_below : (n m : ℕ) → nat_lt (m + n) m ≡ false
not_below n m = by_test (nat_lt (m + n) m) refl where
  by_test : (x : Bool) → nat_lt (m + n) m ≡ x → nat_lt (m + n) m ≡ false
  by_test false e = e
  by_test true e = absurd (let l : m + n < m = ltb-true (m + n) m e in omega (arith, l))

pub assign_number : (d : Parts) (j : ℕ) → j < length d.assigns → driver_at d j ≡ assign j
assign_number d j h = ap (λ (x : Bool). if x then assign j else block (j - length d.assigns)) (lt-ltb j (length d.assigns) h)

pub block_number : (d : Parts) (i : ℕ) → driver_at d (length d.assigns + i) ≡ block i
block_number d i =
    ap (λ (x : Bool). if x then assign (length d.assigns + i) else block ((length d.assigns + i) - length d.assigns)) (not_below i (length d.assigns))
    ∙ ap block (omega arith)

-- the number of a driver that writes something
pub number_of : (d : Parts) (y : Driver) (r : BitRange) → DriverWrites d y r → (n : ℕ) × (driver_at d n ≡ y)
number_of d (assign j) r h = (j, assign_number d j (slice_get_within d.assigns j h.0 h.1))
number_of d (block i) r h = (length d.assigns + i, block_number d i)

-- it stands among those of the signal
listed : (d : Parts) (c : Claims) (v : ℕ) (row : List Written) → AreWriters d c v row → (b : Bit) → IsBit d b → b.signal ≡ v → (y : Driver) → IsDriver d c y → (h : WritesBit d y b) →
    (n : ℕ) × (driver_at d n ≡ y) × Contains row (record { driver = n; range = h.range })
listed d c v row are b is of y driver h =
    let n = number_of d y h.range h.writes in (
      n.0,
      n.1,
      (are n.0 h.range).1 (
        subst (λ (x : ℕ). x < length d.signals) of (slice_get_within d.signals b.signal is.signal is.is),
        (parted h.range b.signal b.word b.place h.has).of ∙ of,
        subst (IsDriver d c) (sym n.1) driver,
        subst (λ (x : Driver). DriverWrites d x h.range) (sym n.1) h.writes,
      ),
    )

-- ---- what is known

cover_driven : (d : Parts) (c : Claims) (r : BitRange) (row : List Written) → AreWriters d c r.signal row → Cover d (ranges_of row) r → IsCovered d c r
cover_driven d c r row are h b is has =
    let x = h b is has in
    let y = map_on row x.range x.listed in
    let w = (are y.0.driver y.0.range).0 y.1 in record {
      driver = driver_at d y.0.driver;
      is = w.2;
      writes = record { range = y.0.range; writes = w.3; has = subst (λ (q : BitRange). Has q b) (sym y.2) x.has };
    }

driven_cover : (d : Parts) (c : Claims) (r : BitRange) (row : List Written) → AreWriters d c r.signal row → IsCovered d c r → Cover d (ranges_of row) r
driven_cover d c r row are h b is has =
    let x = h b is has in
    let l = listed d c r.signal row are b is (sym (parted r b.signal b.word b.place has).of) x.driver x.is x.writes in record {
      range = x.writes.range;
      listed = map_back row (record { driver = l.0; range = x.writes.range }) l.2;
      has = x.writes.has;
    }

pub known_is : (d : Parts) (c : Claims) (r : BitRange) (row : List Written) (source : Bool) → AreWriters d c r.signal row → (IsTrue source ↔ IsSource d c r.signal) → (b : Bool) →
    (IsTrue b ↔ (HasKind false d r.signal ⊎ (IsTrue source ⊎ Cover d (ranges_of row) r))) → (IsTrue b ↔ IsKnown d c r)
known_is d c r row source are sources b h = (
  λ y. elim (h.0 y) [
    | inl net ↦ inl net
    | inr other ↦ inr (elim other [ inl s ↦ inl (sources.0 s) | inr k ↦ inr (cover_driven d c r row are k) ])
  ],
  λ k. h.1 (elim k [
    | inl net ↦ inl net
    | inr other ↦ inr (elim other [ inl s ↦ inl (sources.1 s) | inr k ↦ inr (driven_cover d c r row are k) ])
  ]),
)

-- ---- what is earlier

pub earlier_is : (d : Parts) (c : Claims) (reader : ℕ) (r : BitRange) (row : List Written) → AreWriters d c r.signal row → (b : Bool) →
    (IsTrue b ↔ ((w : Written) → Contains row w → Share d r w.range → MayRead d c reader w.driver)) → (IsTrue b ↔ IsEarlier d c (driver_at d reader) r)
earlier_is d c reader r row are good h = (
  λ t b y is has driver writes.
      let l = listed d c r.signal row are b is (sym (parted r b.signal b.word b.place has).of) y driver writes in
      subst (λ (x : Driver). IsSelf (driver_at d reader) x ⊎ Precedes d c x (driver_at d reader)) l.1
      (h.0 t (record { driver = l.0; range = writes.range }) l.2 (record { bit = b; is = is; has = has; other_has = writes.has })),
  λ all. h.1 (λ w at share. let x = (are w.driver w.range).0 at in
      all share.bit (driver_at d w.driver) share.is share.has x.2 (record { range = w.range; writes = x.3; has = share.other_has })),
)

pub both_are : (d : Parts) (c : Claims) (x : Driver) (r : BitRange) → IsKnown d c r → (b : Bool) → (IsTrue b ↔ IsEarlier d c x r) → (IsTrue b ↔ KeepsRead d c x r)
both_are d c x r known b h = (λ y. (known, h.0 y), λ k. h.1 k.1)

pub unknown : (d : Parts) (c : Claims) (x : Driver) (r : BitRange) (b : Bool) → (IsTrue b ↔ IsKnown d c r) → b ≡ false → (IsTrue false ↔ KeepsRead d c x r)
unknown d c x r b h not_known = (λ y. absurd (grind (arith, y)), λ k. sym not_known ∙ h.1 k.0)

pub known_at : (d e : Parts) → e ≡ d → (c : Claims) (r : BitRange) (row : List Written) (source : Bool) → AreWriters d c r.signal row → (IsTrue source ↔ IsSource d c r.signal) →
    (b : Bool) → (IsTrue b ↔ (HasKind false e r.signal ⊎ (IsTrue source ⊎ Cover e (ranges_of row) r))) → (IsTrue b ↔ IsKnown d c r)
known_at d e same c r row source are sources b h =
    known_is d c r row source are sources b (subst (λ (x : Parts). (IsTrue b ↔ (HasKind false x r.signal ⊎ (IsTrue source ⊎ Cover x (ranges_of row) r)))) same h)

pub not_shared : (d e : Parts) (r q : BitRange) → e ≡ d → (b : Bool) → (IsTrue b ↔ Share e r q) → b ≡ false → Share d r q → ⊥
not_shared d e r q same b h not_so s = false≢true (sym not_so ∙ h.1 (subst (λ (x : Parts). Share x r q) (sym same) s))

-- ---- of all that is read

pub one_breaks : (rs : List BitRange) (P : BitRange → Type 0) (i : ℕ) (z : BitRange) → i < length rs → (b : Bool) → (IsTrue b ↔ P (get_or rs i z)) → b ≡ false →
    (IsTrue false ↔ ((r : BitRange) → Contains rs r → P r))
one_breaks rs P i z within b h not_so = (λ y. absurd (grind (arith, y)), λ all. sym not_so ∙ h.1 (all (get_or rs i z) (Contains-get_or rs i z within)))

assign_reads : (d : Parts) (j : ℕ) (a : Assign) → slice_get d.assigns j ≡ Some a → (r : BitRange) → DriverReads d (assign j) r → Contains (reads a.source) r
assign_reads d j a is r h = subst (λ (x : Assign). Contains (reads x.source) r) (same_Some h.0 a (sym h.1 ∙ is)) h.2.0

-- the rule of a continuous assignment is one of what it reads
pub assign_is : (d : Parts) (c : Claims) (j : ℕ) (a : Assign) → slice_get d.assigns j ≡ Some a → (KeepsReads d c (assign j) (reads a.source) ↔ K4 d c (assign j))
assign_is d c j a is = (
  λ h. record {
    known = λ r driver read. (h r (assign_reads d j a is r read)).0;
    earlier = λ r b y driver read bit has other writes. (h r (assign_reads d j a is r read)).1 b y bit has other writes;
  },
  λ k r at. (k.known r tt (a, is, (at, tt)), λ b y bit has other writes. k.earlier r b y tt (a, is, (at, tt)) bit has other writes),
)

-- that of a block
pub block_is : (d : Parts) (c : Claims) (i : ℕ) (q : Process) → slice_get d.processes i ≡ Some q → IsBlock d c i → (KeepsReads d c (block i) (text_reads q.body) ↔ K4 d c (block i))
block_is d c i q is is_block = (
  λ h. record {
    known = λ r driver read. (h r (subst (λ (l : List BitRange). Contains l r) (ap reads_for is) read.0)).0;
    earlier = λ r b y driver read bit has other writes.
        (h r (subst (λ (l : List BitRange). Contains l r) (ap reads_for is) read.0)).1 b y bit has other writes;
  },
  λ k r at. let read = subst (λ (l : List BitRange). Contains l r) (sym (ap reads_for is)) at in
      (k.known r is_block (read, tt), λ b y bit has other writes. k.earlier r b y is_block (read, tt) bit has other writes),
)

-- the assignment and the process of a number, as they are read
pub assign_kept : (d : Parts) (c : Claims) (j : ℕ) (list : List Assign) (a : Assign) (read : List BitRange) → list ≡ d.assigns → j < length list → a ≡ get_or list j a → read ≡ reads (get_or list j a).source →
    (b : Bool) → (IsTrue b ↔ KeepsReads d c (driver_at d j) read) → (IsTrue b ↔ K4 d c (assign j))
assign_kept d c j list a read same within is reads_are b h =
    let at : slice_get d.assigns j ≡ Some a = ap (λ (l : List Assign). slice_get l j) (sym same) ∙ slice_get_read list (length list) j a refl within is in
    let rule : (KeepsReads d c (assign j) (reads a.source) ↔ K4 d c (assign j)) = assign_is d c j a at in
    let here : (IsTrue b ↔ KeepsReads d c (assign j) (reads a.source)) =
    subst (λ (x : Driver). (IsTrue b ↔ KeepsReads d c x (reads a.source))) (assign_number d j (subst (λ (l : List Assign). j < length l) same within))
    (subst (λ (l : List BitRange). (IsTrue b ↔ KeepsReads d c (driver_at d j) l)) (reads_are ∙ ap (λ (x : Assign). reads x.source) (sym is)) h) in
    (λ y. rule.0 (here.0 y), λ k. here.1 (rule.1 k))

pub block_kept : (d : Parts) (c : Claims) (i n : ℕ) (list : List Process) (q : Process) (read : List BitRange) → list ≡ d.processes → i < length list → q ≡ get_or list i q →
    read ≡ text_reads (get_or list i q).body → n ≡ length d.assigns + i → IsBlock d c i → (b : Bool) → (IsTrue b ↔ KeepsReads d c (driver_at d n) read) → (IsTrue b ↔ K4 d c (block i))
block_kept d c i n list q read same within is reads_are number is_block b h =
    let at : slice_get d.processes i ≡ Some q = ap (λ (l : List Process). slice_get l i) (sym same) ∙ slice_get_read list (length list) i q refl within is in
    let rule : (KeepsReads d c (block i) (text_reads q.body) ↔ K4 d c (block i)) = block_is d c i q at is_block in
    let here : (IsTrue b ↔ KeepsReads d c (block i) (text_reads q.body)) =
    subst (λ (x : Driver). (IsTrue b ↔ KeepsReads d c x (text_reads q.body))) (ap (driver_at d) number ∙ block_number d i)
    (subst (λ (l : List BitRange). (IsTrue b ↔ KeepsReads d c (driver_at d n) l)) (reads_are ∙ ap (λ (x : Process). text_reads x.body) (sym is)) h) in
    (λ y. rule.0 (here.0 y), λ k. here.1 (rule.1 k))

pub all_kept : (rs : List BitRange) (P : BitRange → Type 0) (i : ℕ) → length rs ≤ i → ((k : ℕ) (r : BitRange) → k < i → get_or rs k r ≡ r → P r) →
    (IsTrue true ↔ ((r : BitRange) → Contains rs r → P r))
all_kept rs P i past all = (λ y r c. all c.0 r (omega (arith, c.1, past)) c.2, λ f. refl)

-- ranges that are the same, each once
pub same_reads : (d : Parts) (c : Claims) (x : Driver) (read once : List BitRange) (b : Bool) → ((r : BitRange) → (Contains once r ↔ Contains read r)) →
    (IsTrue b ↔ KeepsReads d c x once) → (IsTrue b ↔ KeepsReads d c x read)
same_reads d c x read once b same h = (λ t r k. h.0 t r ((same r).1 k), λ all. h.1 (λ r k. all r ((same r).0 k)))
