-- Variables that a process is sure to change in the first slot.
use Rattle.std.proofs.Common.{◌≡◌, ◌↔◌, ℕ, ◌+◌, ◌<◌, ◌≤◌, ◌⊎◌, Bool, true, false, IsTrue, Option, Some, None, List, [], ◌∷◌, length, slice_get, refl, sym, ◌∙◌, ap, subst, inl, inr, arith}
use Rattle.std.specs.List.{Contains}
use Rattle.std.proofs.lemmas.Bool.{cases_lt}
use Rattle.std.proofs.lemmas.Option.{none-some, same_Some, slice_get_within, slice_get_past}
use Rattle.vs_design.specs.declared.design.Process.{Process}
use Rattle.vs_design.specs.declared.range.BitRange.{BitRange}
use Rattle.vs_design.specs.declared.signal.Signal.{Signal}
use Rattle.vs_design.specs.declared.statement.EventTerm.{EventTerm}
use Rattle.vs_design.specs.Parts.{Parts}
use Rattle.vs_design.specs.vs_logic4.proofs.Basics.{inside}
use Rattle.vs_rules.specs.vs_process.proofs.ThreadLists.{contains_at, place_of}
use Rattle.vs_claims.specs.Facts.{AreCharts}
use Rattle.vs_drivers.specs.vs_maps.specs.Reaches.{Chart}
use Rattle.vs_rules.specs.Claims.{Claims, Kind, Mode, claim_for, delays, edges, mixed, mode_in, kind_for, kind_of, nonblocking, HasMode, IsDelay, IsSequential, IsWriter}
use Rattle.vs_rules.specs.Claims as claims
use Rattle.vs_rules.specs.Blocks.{MayStart as MayBegin, CopiesWhole, HasStarter}
use Rattle.vs_rules_of_starts.specs.Beginnings.{AreNamed, StartsSurely}
use Rattle.vs_rules_of_starts.specs.Started.{StartsFor, AreTerms, IsOf, MayStart, IsStartedBy}
use Rattle.vs_rules_of_starts.proofs.BeginningLemmas.{starts_for}
use Rattle.vs_rules_of_starts.proofs.StartLemmas.{false_not, true_here}

pub both : (A B C : Type 0) → (A ↔ B) → (B ↔ C) → (A ↔ C)
both A B C x y = (λ a. y.0 (x.0 a), λ c. x.1 (y.1 c))

-- ---- a writer, by the map of its text

pub starts_by_map : (d : Parts) (charts : List Chart) → AreCharts d charts → (w : ℕ) → w < length d.processes → (t : Chart) → slice_get charts w ≡ Some t → (g : ℕ) (named : List BitRange) (b : Bool) →
    (IsTrue b ↔ StartsSurely d named g t) → (i : ℕ) → AreNamed d i g named → (IsTrue b ↔ StartsFor d i g w)
starts_by_map d charts maps w lt t at g named b told i are = by_process (slice_get d.processes w) refl where
  by_process : (o : Option Process) → slice_get d.processes w ≡ o → (IsTrue b ↔ StartsFor d i g w)
  by_process None none = absurd (inside d.processes w lt none)
  by_process (Some q) is =
      both (IsTrue b) (StartsSurely d named g t) (StartsFor d i g w) told (starts_for d i g w named are q t.stops t.start (maps.each w q t is at) is)

-- ---- who may start

-- a process with a kind is one of the design
kind_within : (d : Parts) (c : Claims) (w : ℕ) (kind : Kind) → kind_of d c w ≡ Some kind → w < length d.processes
kind_within d c w kind h = elim (cases_lt w (length d.processes)) [
  | inl lt ↦ lt
  | inr past ↦ absurd (none-some kind (ap (kind_for c) (sym (slice_get_past d.processes w past)) ∙ h))
]

pub delay_within : (d : Parts) (c : Claims) (w : ℕ) → IsDelay d c w → w < length d.processes
delay_within d c w h = kind_within d c w (delays h.0) h.1

pub mode_within : (d : Parts) (c : Claims) (g : ℕ) (m : Mode) → HasMode d c g m → g < length d.signals
mode_within d c g m h = elim (cases_lt g (length d.signals)) [
  | inl lt ↦ lt
  | inr past ↦ absurd (none-some m (ap (λ (o : Option Signal). mode_in (claim_for c o)) (sym (slice_get_past d.signals g past)) ∙ h))
]

sequential_within : (d : Parts) (c : Claims) (w : ℕ) → IsSequential d c w → w < length d.processes
sequential_within d c w (inl edge) = kind_within d c w edges edge
sequential_within d c w (inr (inl h)) = delay_within d c w h
sequential_within d c w (inr (inr h)) = kind_within d c w (mixed h.0) h.1

pub may_within : (d : Parts) (c : Claims) (g w : ℕ) → MayStart d c g w → w < length d.processes
may_within d c g w m = by m.may where
  by : MayBegin d c g w → w < length d.processes
  by (inl h) = delay_within d c w h.1
  by (inr h) = sequential_within d c w h.2

-- so is the variable one of it
pub starter_within : (d : Parts) (c : Claims) (g w : ℕ) → MayBegin d c g w → g < length d.signals
starter_within d c g w (inl h) = mode_within d c g nonblocking h.0
starter_within d c g w (inr h) = by h.1 where
  by : HasMode d c g nonblocking ⊎ HasMode d c g claims.both → g < length d.signals
  by (inl m) = mode_within d c g nonblocking m
  by (inr m) = mode_within d c g claims.both m

pub no_writer : (d : Parts) (c : Claims) (g : ℕ) → ((w : ℕ) → IsWriter d c g w → ⊥) → (w : ℕ) → (MayStart d c g w ↔ None ≡ Some w)
no_writer d c g none w = (λ m. absurd (none w m.writer), λ e. absurd (none-some w e))

pub a_writer : (d : Parts) (c : Claims) (g v : ℕ) → ((w : ℕ) → (IsWriter d c g w ↔ Some v ≡ Some w)) → MayBegin d c g v → (w : ℕ) → (MayStart d c g w ↔ Some v ≡ Some w)
a_writer d c g v writer may w = (
  λ m. (writer w).0 m.writer,
  λ e. record { may = subst (MayBegin d c g) (same_Some v w e) may; writer = (writer w).1 e },
)

pub no_starting : (d : Parts) (c : Claims) (g v : ℕ) → ((w : ℕ) → (IsWriter d c g w ↔ Some v ≡ Some w)) → (MayBegin d c g v → ⊥) → (w : ℕ) → (MayStart d c g w ↔ None ≡ Some w)
no_starting d c g v writer none w = (
  λ m. absurd (none (subst (MayBegin d c g) (sym (same_Some v w ((writer w).0 m.writer))) m.may)),
  λ e. absurd (none-some w e),
)

-- ---- ranges

pub are_named : (d : Parts) (i g : ℕ) (terms : List EventTerm) (named : List BitRange) → AreTerms d i terms → ((r : BitRange) → (Contains named r ↔ IsOf d g terms r)) → AreNamed d i g named
are_named d i g terms named are told r = (
  λ h. let x = (told r).0 h in (record { term = x.term; has = (are x.term).0 x.listed; is = x.is; touches = tt }, x.copies),
  λ n. (told r).1 (record { term = n.0.term; listed = (are n.0.term).1 n.0.has; is = n.0.is; copies = n.1 }),
)

-- one of the first so many terms is of the variable
abbrev pub IsOfBelow : Parts → ℕ → List EventTerm → ℕ → BitRange → Type 0
IsOfBelow d g terms n r = (k : ℕ) × (t : EventTerm) × (k < n) × (slice_get terms k ≡ Some t) × (t.range ≡ r) × CopiesWhole d g r.signal

nothing_in : {r : BitRange} → Contains [] r → ⊥
nothing_in h = omega (arith, h.1)

pub of_none : (d : Parts) (g : ℕ) (terms : List EventTerm) (named : List BitRange) → named ≡ [] → (r : BitRange) → (Contains named r ↔ IsOfBelow d g terms 0 r)
of_none d g terms named none r = (λ h. absurd (nothing_in (subst (λ (l : List BitRange). Contains l r) none h)), λ y. absurd (let lt = y.2 in omega (arith, lt)))

pub of_next : (d : Parts) (g : ℕ) (terms : List EventTerm) (i : ℕ) (term : EventTerm) → slice_get terms i ≡ Some term → (old new : List BitRange) →
    ((r : BitRange) → (Contains new r ↔ (Contains old r ⊎ ((term.range ≡ r) × CopiesWhole d g r.signal)))) → ((r : BitRange) → (Contains old r ↔ IsOfBelow d g terms i r)) →
    (r : BitRange) → (Contains new r ↔ IsOfBelow d g terms (i + 1) r)
of_next d g terms i term is old new put told r = (
  λ h. elim ((put r).0 h) [
    | inl before ↦ let y = (told r).0 before in let lt = y.2 in (y.0, y.1, omega (arith, lt), y.3, y.4, y.5)
    | inr here ↦ (i, term, omega arith, is, here.0, here.1)
  ],
  λ y. elim (cases_lt y.0 i) [
    | inl below ↦ (put r).1 (inl ((told r).1 (y.0, y.1, below, y.3, y.4, y.5)))
    | inr above ↦
        let lt = y.2 in
        let e : y.0 ≡ i = omega (arith, lt, above) in
        let same : y.1 ≡ term = same_Some y.1 term (sym y.3 ∙ ap (slice_get terms) e ∙ is) in
        (put r).1 (inr (ap (λ (t : EventTerm). t.range) (sym same) ∙ y.4, y.5))
  ],
)

pub of_all : (d : Parts) (g : ℕ) (terms : List EventTerm) (n : ℕ) (named : List BitRange) → length terms ≤ n → ((r : BitRange) → (Contains named r ↔ IsOfBelow d g terms n r)) →
    (r : BitRange) → (Contains named r ↔ IsOf d g terms r)
of_all d g terms n named past told r = (
  λ h. let y = (told r).0 h in record { term = y.1; listed = contains_at terms y.0 y.1 y.3; is = y.4; copies = y.5 },
  λ o. let at = place_of terms o.term o.listed in
      let lt : at.0 < length terms = slice_get_within terms at.0 o.term at.1 in
      (told r).1 (at.0, o.term, omega (arith, lt, past), at.1, o.is, o.copies),
)

pub some_first : (xs : List BitRange) → (length xs ≡ 0 → ⊥) → (x : BitRange) × Contains xs x
some_first [] h = absurd (h refl)
some_first (x ∷ xs) h = (x, (0, omega arith, refl))

pub none_left : (xs : List BitRange) → length xs ≡ 0 → xs ≡ []
none_left [] h = refl
none_left (x ∷ xs) h = absurd (omega (arith, h))

-- ---- starts

pub started_is : (d : Parts) (c : Claims) (i g w : ℕ) (named : List BitRange) → AreNamed d i g named → (r : BitRange) → Contains named r → ((v : ℕ) → (MayStart d c g v ↔ Some w ≡ Some v)) → (b : Bool) → (IsTrue b ↔ StartsFor d i g w) →
    (IsTrue b ↔ IsStartedBy d c i g)
started_is d c i g w named are r listed may b told = (
  λ h.
      let m = (may w).1 refl in
      let s = told.0 h in
      (w, record { may = m.may; writer = m.writer; named = (r, ((are r).0 listed).0, ((are r).0 listed).1); only = s.only; before_end = s.ends.before_end; before_delay = s.ends.before_delay; before_wait = s.ends.before_wait }),
  λ y.
      let s = y.1 in
      let same : w ≡ y.0 = same_Some w y.0 ((may y.0).0 (record { may = s.may; writer = s.writer })) in
      told.1 (subst (StartsFor d i g) (sym same) (record { only = s.only; ends = record { before_end = s.before_end; before_delay = s.before_delay; before_wait = s.before_wait } })),
)

pub no_names : (d : Parts) (c : Claims) (i g : ℕ) (named : List BitRange) → AreNamed d i g named → named ≡ [] → (IsTrue false ↔ IsStartedBy d c i g)
no_names d c i g named are none = (
  λ t. absurd (false_not t),
  λ y. absurd (empty (subst (λ (l : List BitRange). Contains l y.1.named.0) none ((are y.1.named.0).1 (y.1.named.1, y.1.named.2)))),
)
  where
    empty : {r : BitRange} → Contains [] r → ⊥
    empty h = omega (arith, h.1)

pub no_start : (d : Parts) (c : Claims) (i g : ℕ) → ((v : ℕ) → (MayStart d c g v ↔ None ≡ Some v)) → (IsTrue false ↔ IsStartedBy d c i g)
no_start d c i g may = (
  λ t. absurd (false_not t),
  λ y. absurd (none-some y.0 ((may y.0).0 (record { may = y.1.may; writer = y.1.writer }))),
)

pub one_starter : (d : Parts) (c : Claims) (i g : ℕ) → IsStartedBy d c i g → (IsTrue true ↔ HasStarter d c i)
one_starter d c i g h = (λ t. (g, h.0, h.1), λ x. true_here)

pub no_starter : (d : Parts) (c : Claims) (i n : ℕ) → length d.signals ≤ n → ((k : ℕ) → k < n → IsStartedBy d c i k → ⊥) → (IsTrue false ↔ HasStarter d c i)
no_starter d c i n past none = (
  λ t. absurd (false_not t),
  λ h. let lt : h.0 < length d.signals = starter_within d c h.0 h.1 h.2.may in absurd (none h.0 (omega (arith, lt, past)) (h.1, h.2)),
)
