-- Where a process writes what is hot.
use Rattle.std.proofs.Common.{◌≡◌, ℕ, ◌<◌, ◌≤◌, ◌⊎◌, ◌↔◌, inl, inr, Bool, true, false, IsTrue, Option, Some, None, List, [], ◌∷◌, length, option_map, slice_index_or, refl, sym, subst, arith}
use Rattle.std.specs.List.{Contains}
use Rattle.std.proofs.lemmas.Option.{same_Some}
use Rattle.vs_rules.specs.vs_certificate.specs.declared.members.SignalMode.{SignalMode}
use Rattle.vs_rules.specs.vs_certificate.specs.declared.members.SignalMode.TheVariants as modes
use Rattle.vs_design.specs.declared.range.BitRange.{BitRange}
use Rattle.vs_design.specs.declared.statement.Statement.{Statement}
use Rattle.vs_design.specs.declared.statement.Statement.TheOpen.{Statement-F}
use Rattle.vs_design.specs.declared.statement.Statement.TheViews.{out-Statement}
use Rattle.vs_design.specs.Parts.{Parts}
use Rattle.vs_process.specs.Places.{perform, turns, Todo}
use Rattle.vs_process.specs.Numbers.{number_next, number_of}
use Rattle.vs_rules.specs.Certificates.{mode_from}
use Rattle.vs_rules.specs.Claims.{Claims, blocking, HasKind, HasMode, IsDelay, IsWriter, IsRootOf, is_wide}
use Rattle.vs_rules.specs.Paths.{IsHot, ListsSignal, WritesNow, WritesLater, WritesAny, statement_now, statement_later}
use Rattle.vs_rules.specs.Rules.{IsSoundRoot, K6}
use Rattle.vs_drivers.specs.vs_maps.specs.Ranges.{HasSignal, now_at, later_at}
use Rattle.vs_drivers.specs.vs_maps.specs.Reaches.{Chart, places, IsPlace}
use Rattle.vs_drivers.specs.vs_maps.specs.Walks.{AreMarked, InHot}
use Rattle.vs_drivers.specs.vs_maps.proofs.Texts.{place_of, place_back}
use Rattle.vs_drivers.specs.vs_maps.proofs.EachWalk.{hot_exact, writes_now_at, writes_later_at}
use Rattle.vs_cert_roots.specs.Entries.{HasEntries}
use Rattle.vs_rules_of_signals.specs.Places.{WritesAt, NeverHotIn}
use Rattle.vs_cert_roots.specs.Roots.{NeverHot, RootsByPlaces, IsSoundlyWritten, IsRight, is_blocking_mode}
use Rattle.vs_rules.proofs.Past.{past_points}

-- ---- what writes something has a number

none_now : (v : ℕ) (rs : List BitRange) → rs ≡ [] → (d : Parts) → ListsSignal d rs v → ⊥
none_now v rs e d h = omega (arith, (subst (λ (l : List BitRange). Contains l h.range) e h.listed.0).1)

layer_numbered : (d : Parts) (v : ℕ) (x : Statement-F Statement) → ListsSignal d (statement_now x) v ⊎ ListsSignal d (statement_later x) v → (n : ℕ) × (number_of x ≡ Some n)
layer_numbered d v (Statement-F.Assign n t e) h = (n, refl)
layer_numbered d v (Statement-F.Later n ticks t e) h = (n, refl)
layer_numbered d v x (inl h) = absurd (none_now v (statement_now x) refl d h)
layer_numbered d v x (inr h) = absurd (none_now v (statement_later x) refl d h)

pub writes_numbered : (d : Parts) (v : ℕ) (k : Todo) → WritesAny d k v → (n : ℕ) × (number_next k ≡ Some n)
writes_numbered d v [] (inl h) = absurd (none_now v [] refl d h)
writes_numbered d v [] (inr h) = absurd (none_now v [] refl d h)
writes_numbered d v (perform s ∷ rest) h = layer_numbered d v (out-Statement s) h
writes_numbered d v (turns n s ∷ rest) (inl h) = absurd (none_now v [] refl d h)
writes_numbered d v (turns n s ∷ rest) (inr h) = absurd (none_now v [] refl d h)

-- the end writes nothing
pub end_writes : (d : Parts) (v : ℕ) (k : Todo) → k ≡ [] → WritesAny d k v → ⊥
end_writes d v k e h = by (subst (λ (x : Todo). WritesAny d x v) e h) where
  by : WritesAny d [] v → ⊥
  by (inl w) = none_now v [] refl d w
  by (inr w) = none_now v [] refl d w

pub past_never_hot : (d : Parts) (wide : Bool) (i v : ℕ) → length d.processes ≤ i → NeverHot d wide i v
past_never_hot d wide i v past k point writes heat = end_writes d v k (past_points d i k past point) writes

-- ---- by places

pub either : (A B C D : Type 0) → (A → C) → (B → D) → A ⊎ B → C ⊎ D
either A B C D f g (inl a) = inl (f a)
either A B C D f g (inr b) = inr (g b)

pub roots_by_places : RootsByPlaces
roots_by_places d wide i q stops start v is t = (
  λ h k point writes heat.
      let y = place_of d i q stops start t is k point in
      let w = subst (λ (x : Todo). WritesAny d x v) (sym y.2) writes in
      let n = writes_numbered d v (t.at y.0) w in
      h y.0 y.1
      (either (WritesNow d (t.at y.0) v) (WritesLater d (t.at y.0) v) (HasSignal (now_at (record { stops = stops; start = start }) y.0) v) (HasSignal (later_at (record { stops = stops; start = start }) y.0) v)
      (writes_now_at d q stops start t v y.0).1 (writes_later_at d q stops start t v y.0).1 w)
      ((hot_exact d i q stops start t is wide v y.0 n.0 n.1).1 (subst (IsHot d wide i v) (sym y.2) heat)),
  λ h p place writes heat.
      let w = either (HasSignal (now_at (record { stops = stops; start = start }) p) v) (HasSignal (later_at (record { stops = stops; start = start }) p) v) (WritesNow d (t.at p) v) (WritesLater d (t.at p) v)
      (writes_now_at d q stops start t v p).0 (writes_later_at d q stops start t v p).0 writes in
      let n = writes_numbered d v (t.at p) w in
      h (t.at p) (place_back d i q stops start t is p place) w ((hot_exact d i q stops start t is wide v p n.0 n.1).0 heat),
)

-- places that keep the rule by their marks
pub marks_keep : (wide : Bool) (t : Chart) (v : ℕ) (marks : List Bool) → length marks ≡ places t → AreMarked (InHot wide t v) (places t) marks → ((p : ℕ) → IsPlace t p → p < places t) →
    (((p : ℕ) → p < places t → p < length marks → p < places t → IsPlace t p → WritesAt t p v → IsTrue (slice_index_or marks p false) → ⊥) ↔ NeverHotIn wide t v)
marks_keep wide t v marks long exact within = (
  λ h p place writes heat. let l = within p place in h p l (subst (λ (n : ℕ). p < n) (sym long) l) l place writes ((exact p l).1 heat),
  λ h p l m n place writes mark. h p place writes ((exact p l).0 mark),
)

-- ---- roots

pub mode_is : (o : Option SignalMode) → (is_blocking_mode o ≡ true ↔ option_map mode_from o ≡ Some blocking)
mode_is None = (λ h. cc, λ h. cc)
mode_is (Some modes.Net) = (λ h. cc, λ h. let e = same_Some (mode_from modes.Net) blocking h in cc)
mode_is (Some modes.Unwritten) = (λ h. cc, λ h. let e = same_Some (mode_from modes.Unwritten) blocking h in cc)
mode_is (Some modes.Combinational) = (λ h. cc, λ h. let e = same_Some (mode_from modes.Combinational) blocking h in cc)
mode_is (Some modes.Nonblocking) = (λ h. cc, λ h. let e = same_Some (mode_from modes.Nonblocking) blocking h in cc)
mode_is (Some modes.Blocking) = (λ h. refl, λ h. refl)
mode_is (Some modes.Private) = (λ h. cc, λ h. let e = same_Some (mode_from modes.Private) blocking h in cc)
mode_is (Some modes.Both) = (λ h. cc, λ h. let e = same_Some (mode_from modes.Both) blocking h in cc)

pub written_is : (d : Parts) (c : Claims) (root i : ℕ) → ((k : ℕ) → (IsWriter d c root k ↔ Some i ≡ Some k)) → IsDelay d c i → (NeverHot d (is_wide c) i root ↔ IsSoundlyWritten d c root)
written_is d c root i writer delay = (
  λ h. record { writer = (i, (writer i).1 refl, delay); once = λ k w. subst (λ (n : ℕ). NeverHot d (is_wide c) n root) (same_Some i k ((writer k).0 w)) h },
  λ h. h.once i ((writer i).1 refl),
)

pub written_not : (d : Parts) (c : Claims) (root i : ℕ) → ((k : ℕ) → (IsWriter d c root k ↔ Some i ≡ Some k)) → (IsDelay d c i → ⊥) → IsSoundlyWritten d c root → ⊥
written_not d c root i writer not h = not (subst (IsDelay d c) (sym (same_Some i h.writer.0 ((writer h.writer.0).0 h.writer.1))) h.writer.2)

pub sound_is : (d : Parts) (c : Claims) (root : ℕ) → HasKind true d root → HasMode d c root blocking → (IsSoundlyWritten d c root ↔ IsSoundRoot d c root)
sound_is d c root variable mode = (
  λ h. record { variable = variable; mode = mode; writer = h.writer; once = λ i k w. h.once i w k },
  λ h. record { writer = h.writer; once = λ i w k. h.once i k w },
)

pub k6_is : (d : Parts) (c : Claims) (v : ℕ) (roots : List ℕ) → ((r : ℕ) → (Contains roots r ↔ IsRootOf d c r v)) → HasEntries d c v →
    (((r : ℕ) → Contains roots r → IsRight d c v r) ↔ K6 d c v)
k6_is d c v roots are entries = (
  λ h. record {
    one_entry = entries.one;
    no_entry = entries.none;
    copies = λ r root. (h r ((are r).1 root)).0;
    root = λ r root. (h r ((are r).1 root)).1;
  },
  λ k r m. let root = (are r).0 m in (k.copies r root, k.root r root),
)

pub k6_not : (d : Parts) (c : Claims) (v : ℕ) → K6 d c v → HasEntries d c v
k6_not d c v k = record { one = k.one_entry; none = k.no_entry }
