-- Variables that a process may read in the first slot.
use Rattle.std.proofs.Common.{◌≡◌, ℕ, ◌==◌, ◌⊎◌, ◌↔◌, inl, inr, Bool, true, false, not, IsTrue, Some, List, [], slice_get, refl, sym, ◌∙◌, ap, subst, arith}
use Rattle.std.specs.List.{Contains}
use Rattle.std.proofs.lemmas.Bool.{cases_Bool, eqb-false, eqb-true, false≢true, not-true}
use Rattle.std.proofs.lemmas.Option.{same_Some, slice_get_cases, slice_get_within}
use Rattle.vs_design.specs.declared.design.Process.{Process}
use Rattle.vs_design.specs.declared.signal.Signal.{Signal}
use Rattle.vs_design.specs.Kinds.{is_variable}
use Rattle.vs_design.specs.Parts.{Parts}
use Rattle.vs_process.specs.Places.{Todo}
use Rattle.vs_process.specs.Stops.{IsText}
use Rattle.vs_maps.specs.vs_rules.specs.Claims.{Claims, IsBlock, IsWide, is_wide}
use Rattle.vs_maps.specs.vs_rules.specs.Paths.{IsSlot0, Writes, WritesNow, is_zero_time, todo_now}
use Rattle.vs_maps.specs.vs_rules.proofs.Past.{past_paths}
use Rattle.vs_drivers.specs.vs_maps.specs.declared.along.Along.TheVariants.{ZeroTime}
use Rattle.vs_drivers.specs.vs_maps.specs.Ranges.{HasSignal, now_at}
use Rattle.vs_drivers.specs.vs_maps.specs.Reaches.{Chart, InSlot0}
use Rattle.vs_drivers.specs.vs_maps.proofs.EachWalk.{writes_now_at}
use Rattle.vs_drivers.specs.vs_maps.proofs.Texts.{from_on, from_back}
use Rattle.vs_drivers.specs.vs_maps.proofs.WalkLemmas.{start_walked}
use Rattle.vs_maps.specs.Texts.{AllNow, Texts, texts_of}
use Rattle.vs_claims.specs.Facts.{Case, AreCharts}
use Rattle.vs_rules_of_processes.specs.FirstSlot.{IsOwn, IsFirst, IsPast}

-- ---- versions

-- a certificate of version 3 is one
pub wide_is : (c : Claims) → IsWide c → is_wide c ≡ true
wide_is c h = ap (λ (n : ℕ). n == 3) h

pub is_of_wide : (c : Claims) → is_wide c ≡ true → IsWide c
is_of_wide c h = eqb-true c.version 3 h

pub no_wide : (c : Claims) → is_wide c ≡ false → IsWide c → ⊥
no_wide c narrow h = false≢true (sym narrow ∙ wide_is c h)

-- ---- writes by `=` in the first slot

-- none but this process has one, by places and by points
pub past_is : (d : Parts) (charts : List Chart) → AreCharts d charts → (i v : ℕ) →
    (AllNow (texts_of d charts) v (IsPast charts i) ↔ ((j : ℕ) (l : Todo) → IsSlot0 d true j l → WritesNow d l v → j ≡ i))
past_is d charts maps i v = (there, back) where
  none_now : (k : Todo) → k ≡ [] → WritesNow d k v → ⊥
  none_now k e w = let h = subst (λ (l : Todo). Contains (todo_now l) w.range) e w.listed.0 in omega (arith, h.1)

  of_place : (q : Process) (t : Chart) (j : ℕ) (l : Todo) → slice_get d.processes j ≡ Some q → slice_get charts j ≡ Some t → IsText q.body t.stops t.start →
      AllNow (texts_of d charts) v (IsPast charts i) → IsSlot0 d true j l → WritesNow d l v → j ≡ i
  of_place q t j l is at text all slot now =
      let y = from_on d j q t.stops t.start text is (ZeroTime true) l slot in
      let place = start_walked t (ZeroTime true) y.0 y.1 in
      let here = (writes_now_at d q t.stops t.start text v y.0).1 (subst (λ (k : Todo). WritesNow d k v) (sym y.2) now) in
      elim (all j y.0 t at place here) [
        | inl same ↦ same
        | inr past ↦ absurd (past t at y.1)
      ]

  there : AllNow (texts_of d charts) v (IsPast charts i) → (j : ℕ) (l : Todo) → IsSlot0 d true j l → WritesNow d l v → j ≡ i
  there all j l slot now = elim (slice_get_cases d.processes j).1 [
    | inl q ↦ elim (slice_get_cases charts j).1 [
      | inl t ↦ of_place q.0 t.0 j l q.2 t.2 (maps.each j q.0 t.0 q.2 t.2) all slot now
      | inr none ↦ absurd (let within = slice_get_within d.processes j q.0 q.2 in omega (arith, within, none.0, maps.as_many))
    ]
    | inr none ↦ absurd (none_now l (past_paths true is_zero_time d j l none.0 slot) now)
  ]

  back : ((j : ℕ) (l : Todo) → IsSlot0 d true j l → WritesNow d l v → j ≡ i) → AllNow (texts_of d charts) v (IsPast charts i)
  back h j p t at place here = elim (cases_Bool (j == i)) [
    | inl same ↦ inl (eqb-true j i same)
    | inr other ↦ inr (λ s is slot. absurd (eqb-false j i other (of_process s is slot)))
  ]
    where
      of_process : (s : Chart) → slice_get charts j ≡ Some s → InSlot0 true s p → j ≡ i
      of_process s is slot = elim (slice_get_cases d.processes j).1 [
        | inl q ↦
            let text = maps.each j q.0 s q.2 is in
            let same : t ≡ s = same_Some t s (sym at ∙ is) in
            h j (text.at p) (from_back d j q.0 s.stops s.start text q.2 (ZeroTime true) p slot)
            ((writes_now_at d q.0 s.stops s.start text v p).0 (subst (λ (x : Chart). HasSignal (now_at x p) v) same here))
        | inr none ↦ absurd (let within = slice_get_within charts j s is in omega (arith, within, none.0, maps.as_many))
      ]

-- what is tested of a place of another process
pub past_told : (charts : List Chart) (i j p : ℕ) (b : Bool) → (j ≡ i → ⊥) → (IsTrue b ↔ ((t : Chart) × (slice_get charts j ≡ Some t) × InSlot0 true t p)) →
    (IsTrue (not b) ↔ IsPast charts i j p)
past_told charts i j p b other told = (
  λ h. inr (λ t is slot. false≢true (sym (not-true b h) ∙ told.1 (t, is, slot))),
  λ past. elim past [
    | inl same ↦ absurd (other same)
    | inr none ↦ elim (cases_Bool b) [ inl holds ↦ absurd (let y = told.0 holds in none y.0 y.1 y.2) | inr fails ↦ ap not fails ]
  ],
)

-- ---- blocks

-- who writes the variable is this process, or no block
abbrev pub NoBlocks : Case → ℕ → ℕ → Type 0
NoBlocks k i v = (j : ℕ) → Writes k.design j v → (j ≡ i) ⊎ (IsBlock k.design k.claims j → ⊥)

-- what is tested of the processes that write the variable, and of its writes
pub first_not : (k x : Case) (i v : ℕ) → x ≡ k → (IsTrue false ↔ NoBlocks x i v) → (IsTrue false ↔ IsFirst k i v)
first_not k x i v same h = subst (λ (y : Case). (IsTrue false ↔ IsFirst y i v)) same (λ no. absurd (false≢true no), λ f. h.1 f.others)

pub first_is : (k x : Case) (t : Texts) (i v : ℕ) (b : Bool) → x ≡ k → t ≡ texts_of x.design x.charts → (IsTrue true ↔ NoBlocks x i v) → (IsTrue b ↔ AllNow t v (IsPast x.charts i)) →
    (IsTrue b ↔ IsFirst k i v)
first_is k x t i v b same of h now = subst (λ (y : Case). (IsTrue b ↔ IsFirst y i v)) same (
  λ is. record { others = h.0 refl; now = subst (λ (z : Texts). AllNow z v (IsPast x.charts i)) of (now.0 is) },
  λ f. now.1 (subst (λ (z : Texts). AllNow z v (IsPast x.charts i)) (sym of) f.now),
)

-- ---- variables

-- of versions 1 and 2
pub own_narrow : (d : Parts) (c : Claims) (i v : ℕ) (s : Signal) (b : Bool) → is_wide c ≡ false → slice_get d.signals v ≡ Some s → is_variable s.kind ≡ true →
    (IsTrue b ↔ (Writes d i v × ((j : ℕ) → Writes d j v → j ≡ i))) → (IsTrue b ↔ IsOwn d c i v)
own_narrow d c i v s b narrow is kind sole = (
  λ t. let y = sole.0 t in record {
    variable = (s, is, kind);
    written = λ version. y.0;
    alone = λ j w. inl (y.1 j w);
    first = λ j l wide slot now. absurd (no_wide c narrow wide);
  },
  λ o. sole.1 (o.written (no_wide c narrow), λ j w. elim (o.alone j w) [ inl same ↦ same | inr other ↦ absurd (no_wide c narrow other.0) ]),
)

-- of version 3
pub own_wide : (k : Case) → AreCharts k.design k.charts → (i v : ℕ) (s : Signal) (b : Bool) → is_wide k.claims ≡ true → slice_get k.design.signals v ≡ Some s → is_variable s.kind ≡ true →
    (IsTrue b ↔ IsFirst k i v) → (IsTrue b ↔ IsOwn k.design k.claims i v)
own_wide k maps i v s b wide is kind h = (
  λ t. let f = h.0 t in record {
    variable = (s, is, kind);
    written = λ narrow. absurd (narrow (is_of_wide k.claims wide));
    alone = λ j w. elim (f.others j w) [ inl same ↦ inl same | inr other ↦ inr (is_of_wide k.claims wide, other) ];
    first = λ j l version slot now. (past_is k.design k.charts maps i v).0 f.now j l (subst (λ (x : Bool). IsSlot0 k.design x j l) wide slot) now;
  },
  λ o. h.1 (record {
    others = λ j w. elim (o.alone j w) [ inl same ↦ inl same | inr other ↦ inr other.1 ];
    now = (past_is k.design k.charts maps i v).1 (λ j l slot now. o.first j l (is_of_wide k.claims wide) (subst (λ (x : Bool). IsSlot0 k.design x j l) (sym wide) slot) now);
  }),
)
