-- Ranges of variables of a process's own, and places past the end of a map.
use Rattle.std.proofs.Common.{◌≡◌, ℕ, zero, suc, ◌+◌, ◌<◌, ◌≤◌, ◌↔◌, inl, inr, true, false, IsTrue, Some, None, List, [], length, get_or, slice_get, refl, sym, ◌∙◌, ap, subst, arith}
use Rattle.std.specs.List.{Contains}
use Rattle.std.proofs.lemmas.Bool.{false≢true}
use Rattle.std.proofs.lemmas.List.Elements.{Contains-get_or}
use Rattle.std.proofs.lemmas.Option.{none-some, same_Some, slice_get_past}
use Rattle.std.proofs.lemmas.List.{get_or_default}
use Rattle.vs_design.specs.declared.range.BitRange.{BitRange}
use Rattle.vs_design.specs.declared.signal.Signal.{Signal}
use Rattle.vs_design.specs.Kinds.{is_variable}
use Rattle.vs_design.specs.Parts.{Parts}
use Rattle.vs_process.specs.Stops.{Stop, stop_at, stop_statement}
use Rattle.vs_maps.specs.vs_rules.specs.vs_process.specs.Threads.{own_reads, own_shows}
use Rattle.vs_maps.specs.vs_rules.specs.Claims.{Claims}
use Rattle.vs_maps.specs.vs_rules.specs.Paths.{statement_now}
use Rattle.vs_drivers.specs.vs_maps.specs.Ranges.{ranges_of, now_at, reads_at, shows_at}
use Rattle.vs_drivers.specs.vs_maps.specs.Reaches.{Chart, places}
use Rattle.vs_design.specs.vs_logic4.proofs.Basics.{below_or}
use Rattle.vs_rules_of_processes.specs.FirstSlot.{IsOwn, AreOwn, Hangs, NoneHangs, ReadsOwn}

-- ---- own variables

pub own_unknown : (d : Parts) (c : Claims) (i v : ℕ) → slice_get d.signals v ≡ None → (IsTrue false ↔ IsOwn d c i v)
own_unknown d c i v is = (λ h. absurd (false≢true h), λ o. absurd (none-some o.variable.0 (sym is ∙ o.variable.1)))

pub own_net : (d : Parts) (c : Claims) (i v : ℕ) (s : Signal) → slice_get d.signals v ≡ Some s → is_variable s.kind ≡ false → (IsTrue false ↔ IsOwn d c i v)
own_net d c i v s is net = (
  λ h. absurd (false≢true h),
  λ o. absurd (false≢true (sym net ∙ ap (λ (k : Signal). is_variable k.kind) (same_Some s o.variable.0 (sym is ∙ o.variable.1)) ∙ o.variable.2)),
)

-- the first of some ranges are of own variables, or of no signal that blocks hang on
abbrev pub OwnSoFar : Parts → Claims → ℕ → List BitRange → ℕ → Type 0
OwnSoFar d c i rs n = (k : ℕ) (e : BitRange) → k < n → k < length rs → IsOwn d c i (get_or rs k e).signal

pub own_more : (d : Parts) (c : Claims) (i : ℕ) (rs : List BitRange) (n : ℕ) (e : BitRange) → IsOwn d c i (get_or rs n e).signal → OwnSoFar d c i rs n → OwnSoFar d c i rs (n + 1)
own_more d c i rs n e here h k f less within = elim (below_or k n less) [
  | inl l ↦ h k f l within
  | inr s ↦ subst (λ (r : BitRange). IsOwn d c i r.signal) (get_or_default rs k e f within) (subst (λ (j : ℕ). IsOwn d c i (get_or rs j e).signal) (sym s) here)
]

pub own_not : (d : Parts) (c : Claims) (i : ℕ) (rs : List BitRange) (n : ℕ) (e : BitRange) → n < length rs → (IsOwn d c i (get_or rs n e).signal → ⊥) → (IsTrue false ↔ AreOwn d c i rs)
own_not d c i rs n e within not = (λ h. absurd (false≢true h), λ all. absurd (not (all (get_or rs n e) (Contains-get_or rs n e within))))

pub own_all : (d : Parts) (c : Claims) (i : ℕ) (rs : List BitRange) (n : ℕ) → length rs ≤ n → OwnSoFar d c i rs n → (IsTrue true ↔ AreOwn d c i rs)
own_all d c i rs n past h = (
  λ t r has. subst (λ (x : BitRange). IsOwn d c i x.signal) has.2 (h has.0 r (omega (arith, has.1, past)) has.1),
  λ all. refl,
)

-- ---- signals that blocks hang on

abbrev pub FreeSoFar : Parts → Claims → List BitRange → ℕ → Type 0
FreeSoFar d c rs n = (k : ℕ) (e : BitRange) → k < n → k < length rs → Hangs d c (get_or rs k e).signal → ⊥

pub free_more : (d : Parts) (c : Claims) (rs : List BitRange) (n : ℕ) (e : BitRange) → (Hangs d c (get_or rs n e).signal → ⊥) → FreeSoFar d c rs n → FreeSoFar d c rs (n + 1)
free_more d c rs n e here h k f less within = elim (below_or k n less) [
  | inl l ↦ h k f l within
  | inr s ↦ subst (λ (r : BitRange). (Hangs d c r.signal → ⊥)) (get_or_default rs k e f within) (subst (λ (j : ℕ). (Hangs d c (get_or rs j e).signal → ⊥)) (sym s) here)
]

pub free_not : (d : Parts) (c : Claims) (rs : List BitRange) (n : ℕ) (e : BitRange) → n < length rs → Hangs d c (get_or rs n e).signal → (IsTrue false ↔ NoneHangs d c rs)
free_not d c rs n e within hangs = (
  λ h. absurd (false≢true h),
  λ all. absurd (all (get_or rs n e).signal (get_or rs n e, Contains-get_or rs n e within, refl) hangs),
)

pub free_all : (d : Parts) (c : Claims) (rs : List BitRange) (n : ℕ) → length rs ≤ n → FreeSoFar d c rs n → (IsTrue true ↔ NoneHangs d c rs)
free_all d c rs n past h = (
  λ t u has hangs.
      let x = has.1 in
      h x.0 has.0 (omega (arith, x.1, past)) x.1
      (subst (Hangs d c) (sym (ap (λ (r : BitRange). r.signal) x.2 ∙ has.2)) hangs),
  λ all. refl,
)

-- ---- places past the end

no_stop : (stops : List Stop) (p : ℕ) → suc (length stops) ≤ p → stop_at stops p ≡ None
no_stop stops zero h = absurd (omega (arith, h))
no_stop stops (suc p) h = slice_get_past stops p (omega (arith, h))

nothing : (t : Chart) (p : ℕ) → places t ≤ p → stop_statement (stop_at t.stops p) ≡ None
nothing t p past = ap stop_statement (no_stop t.stops p past)

none_own : (d : Parts) (c : Claims) (i : ℕ) (rs : List BitRange) → rs ≡ [] → AreOwn d c i rs
none_own d c i rs is r has = absurd (let h = subst (λ (l : List BitRange). Contains l r) is has in omega (arith, h.1))

pub reads_past : (d : Parts) (c : Claims) (i : ℕ) (t : Chart) (p : ℕ) → places t ≤ p → ReadsOwn d c i t p
reads_past d c i t p past = record {
  reads = none_own d c i (reads_at t p) (ap (ranges_of own_reads) (nothing t p past));
  shows = λ displays. none_own d c i (shows_at t p) (ap (ranges_of own_shows) (nothing t p past));
}

pub writes_past : (d : Parts) (c : Claims) (t : Chart) (p : ℕ) → places t ≤ p → NoneHangs d c (now_at t p)
writes_past d c t p past u has hangs =
    let h = subst (λ (l : List BitRange). Contains l has.0) (ap (ranges_of statement_now) (nothing t p past)) has.1 in omega (arith, h.1)
