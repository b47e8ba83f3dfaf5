-- The rule K10 of a process is one of the places of its map.
use Rattle.std.proofs.Common.{◌≡◌, ℕ, ◌<◌, ◌≤◌, ◌↔◌, inl, inr, Bool, true, false, IsTrue, Some, None, List, [], length, slice_get, refl, sym, ◌∙◌, subst, arith}
use Rattle.std.specs.List.{Contains}
use Rattle.std.proofs.lemmas.Bool.{cases_lt, false≢true}
use Rattle.std.proofs.lemmas.Option.{none-some, slice_get_cases, slice_get_within}
use Rattle.vs_design.specs.declared.design.Process.{Process}
use Rattle.vs_design.specs.declared.range.BitRange.{BitRange}
use Rattle.vs_design.specs.Parts.{Parts}
use Rattle.vs_process.specs.Places.{Todo}
use Rattle.vs_process.specs.Stops.{IsText}
use Rattle.vs_maps.specs.vs_rules.specs.vs_process.specs.Threads.{todo_reads, todo_shows}
use Rattle.vs_maps.specs.vs_rules.specs.Claims.{Claims, IsSequential, is_wide}
use Rattle.vs_maps.specs.vs_rules.specs.Paths.{IsSlot0, IsPrologue, WritesNow, todo_now, is_plain, is_zero_time}
use Rattle.vs_maps.specs.vs_rules.specs.Rules.{K10_Process, Reads}
use Rattle.vs_drivers.specs.vs_maps.specs.declared.along.Along.TheVariants.{Plain, ZeroTime}
use Rattle.vs_drivers.specs.vs_maps.specs.Ranges.{now_at, reads_at, shows_at}
use Rattle.vs_drivers.specs.vs_maps.specs.Reaches.{Chart, places, InSlot0, InPrologue}
use Rattle.vs_drivers.specs.vs_maps.proofs.EachPoint.{reads_here, shows_here}
use Rattle.vs_drivers.specs.vs_maps.proofs.EachWalk.{each_from, writes_now_at}
use Rattle.vs_maps.specs.vs_rules.proofs.Past.{past_paths}
use Rattle.vs_claims.specs.Facts.{Case, AreCharts}
use Rattle.vs_rules_of_processes.specs.FirstSlot.{IsOwn, AreOwn, Hangs, NoneHangs, ReadsOwn, KeepsFirst}

-- what is read at a point is of the process's own
abbrev pub OwnAt : Parts → Claims → ℕ → Todo → Type 0
OwnAt d c i k = (r : BitRange) → Reads d c k r → IsOwn d c i r.signal

-- no `=` at a point writes what blocks hang on
abbrev pub UntouchedAt : Parts → Claims → Todo → Type 0
UntouchedAt d c k = (u : ℕ) → WritesNow d k u → Hangs d c u → ⊥

own_at : (d : Parts) (c : Claims) (i : ℕ) (q : Process) (t : Chart) (text : IsText q.body t.stops t.start) (p : ℕ) → (ReadsOwn d c i t p ↔ OwnAt d c i (text.at p))
own_at d c i q t text p = (there, back) where
  there : ReadsOwn d c i t p → OwnAt d c i (text.at p)
  there h r (inl n) = h.reads r (subst (λ (l : List BitRange). Contains l r) (reads_here q.body t.stops t.start text p) n.0)
  there h r (inr s) = h.shows s.0 r (subst (λ (l : List BitRange). Contains l r) (shows_here q.body t.stops t.start text p) s.1.0)

  back : OwnAt d c i (text.at p) → ReadsOwn d c i t p
  back h = record {
    reads = λ r n. h r (inl (subst (λ (l : List BitRange). Contains l r) (sym (reads_here q.body t.stops t.start text p)) n, tt));
    shows = λ displays r s. h r (inr (displays, (subst (λ (l : List BitRange). Contains l r) (sym (shows_here q.body t.stops t.start text p)) s, tt)));
  }

untouched_at : (d : Parts) (c : Claims) (q : Process) (t : Chart) (text : IsText q.body t.stops t.start) (p : ℕ) →
    (NoneHangs d c (now_at t p) ↔ UntouchedAt d c (text.at p))
untouched_at d c q t text p = (
  λ h u w. h u ((writes_now_at d q t.stops t.start text u p).1 w),
  λ h u s. h u ((writes_now_at d q t.stops t.start text u p).0 s),
)

-- the rule, of points that do something
record OfPoints (d : Parts) (c : Claims) (i : ℕ) : Type 0 where
  reads : IsSequential d c i → (k : Todo) → IsSlot0 d (is_wide c) i k → OwnAt d c i k
  untouched : (k : Todo) → IsPrologue d (is_wide c) i k → UntouchedAt d c k

points_are : (d : Parts) (c : Claims) (i : ℕ) → (OfPoints d c i ↔ K10_Process d c i)
points_are d c i = (
  λ h. record {
    variable = λ k r seq early reads. (h.reads seq k early r reads).variable;
    written = λ k r seq early reads. (h.reads seq k early r reads).written;
    alone = λ k r j seq early reads. (h.reads seq k early r reads).alone j;
    first = λ k l r j wide seq early reads slot. (h.reads seq k early r reads).first j l wide slot;
    untouched = λ k u r first writes needs cone. h.untouched k first u writes (record { range = r; needs = needs; cone = cone });
  },
  λ n. record {
    reads = λ seq k early r reads. record {
      variable = n.variable k r seq early reads;
      written = n.written k r seq early reads;
      alone = λ j. n.alone k r j seq early reads;
      first = λ j l wide slot. n.first k l r j wide seq early reads slot;
    };
    untouched = λ k first u writes hangs. n.untouched k u hangs.range first writes hangs.needs hangs.cone;
  },
)

-- a process keeps the rule exactly where the places of its map do
pub places_are : (d : Parts) (c : Claims) (i : ℕ) (q : Process) (t : Chart) → slice_get d.processes i ≡ Some q → IsText q.body t.stops t.start →
    (KeepsFirst d c i t ↔ K10_Process d c i)
places_are d c i q t is text = (
  λ h. (points_are d c i).0 (record {
    reads = λ seq. early.0 (λ p walk. (own_at d c i q t text p).0 (h.reads seq p walk));
    untouched = first.0 (λ p walk. (untouched_at d c q t text p).0 (h.untouched p walk));
  }),
  λ n. let h = (points_are d c i).1 n in record {
    reads = λ seq p walk. (own_at d c i q t text p).1 (early.1 (h.reads seq) p walk);
    untouched = λ p walk. (untouched_at d c q t text p).1 (first.1 h.untouched p walk);
  },
) where
  early : ((p : ℕ) → InSlot0 (is_wide c) t p → OwnAt d c i (text.at p)) ↔ ((k : Todo) → IsSlot0 d (is_wide c) i k → OwnAt d c i k)
  early = each_from d i q t.stops t.start text is (ZeroTime (is_wide c)) (OwnAt d c i)

  first : ((p : ℕ) → InPrologue (is_wide c) t p → UntouchedAt d c (text.at p)) ↔ ((k : Todo) → IsPrologue d (is_wide c) i k → UntouchedAt d c k)
  first = each_from d i q t.stops t.start text is (Plain (is_wide c)) (UntouchedAt d c)

-- a process past the end keeps it
pub past_keeps : (d : Parts) (c : Claims) (i : ℕ) → length d.processes ≤ i → K10_Process d c i
past_keeps d c i past = (points_are d c i).0 (record {
  reads = λ seq k early r reads. absurd (none k (past_paths (is_wide c) is_zero_time d i k past early) r reads);
  untouched = λ k first u writes hangs. none_now k (past_paths (is_wide c) is_plain d i k past first) u writes;
}) where
  none : (k : Todo) → k ≡ [] → (r : BitRange) → Reads d c k r → ⊥
  none k e r (inl n) = let h = subst (λ (l : Todo). Contains (todo_reads l) r) e n.0 in omega (arith, h.1)
  none k e r (inr s) = let h = subst (λ (l : Todo). Contains (todo_shows l) r) e s.1.0 in omega (arith, h.1)

  none_now : (k : Todo) → k ≡ [] → (u : ℕ) → WritesNow d k u → ⊥
  none_now k e u w = let h = subst (λ (l : Todo). Contains (todo_now l) w.range) e w.listed.0 in omega (arith, h.1)

-- ---- all places

-- a rule of the places below the end is one of all, where those past the end keep it
pub all_places : (t : Chart) (n : ℕ) (walk keeps : ℕ → Type 0) (b : Bool) → n ≡ places t → ((p : ℕ) → places t ≤ p → keeps p) →
    (IsTrue b ↔ ((p : ℕ) → p < n → walk p → keeps p)) → (IsTrue b ↔ ((p : ℕ) → walk p → keeps p))
all_places t n walk keeps b is past h = (
  λ h1 p w. elim (cases_lt p n) [ inl l ↦ h.0 h1 p l w | inr g ↦ past p (omega (arith, g, is)) ],
  λ all. h.1 (λ p l w. all p w),
)

-- of a process that isn't of kind edge or delay nothing is asked of what it reads
pub no_reads : (A : Type 0) (B : Type 0) → (A → ⊥) → (IsTrue true ↔ (A → B))
no_reads A B not = (λ t a. absurd (not a), λ h. refl)

pub some_reads : (A : Type 0) (B : Type 0) (b : Bool) → A → (IsTrue b ↔ B) → (IsTrue b ↔ (A → B))
some_reads A B b a h = (λ t x. h.0 t, λ f. h.1 (f a))

pub keeps_is : (d : Parts) (c : Claims) (i : ℕ) (t : Chart) (b : Bool) → (IsSequential d c i → (p : ℕ) → InSlot0 (is_wide c) t p → ReadsOwn d c i t p) →
    (IsTrue b ↔ ((p : ℕ) → InPrologue (is_wide c) t p → NoneHangs d c (now_at t p))) → (IsTrue b ↔ KeepsFirst d c i t)
keeps_is d c i t b reads h = (λ t. record { reads = reads; untouched = h.0 t }, λ k. h.1 k.untouched)

pub keeps_not : (d : Parts) (c : Claims) (i : ℕ) (t : Chart) → ((IsSequential d c i → (p : ℕ) → InSlot0 (is_wide c) t p → ReadsOwn d c i t p) → ⊥) → (IsTrue false ↔ KeepsFirst d c i t)
keeps_not d c i t not = (λ h. absurd (false≢true h), λ k. absurd (not k.reads))

-- of a process by its number
pub of_process : (k : Case) → AreCharts k.design k.charts → (i : ℕ) (t : Chart) → Some t ≡ slice_get k.charts i →
    (KeepsFirst k.design k.claims i t ↔ K10_Process k.design k.claims i)
of_process k maps i t is = elim (slice_get_cases k.design.processes i).1 [
  | inl y ↦ places_are k.design k.claims i y.0 t y.2 (maps.each i y.0 t y.2 (sym is))
  | inr y ↦ let within = slice_get_within k.charts i t (sym is) in absurd (omega (arith, within, y.0, maps.as_many))
]

pub no_process : (k : Case) → AreCharts k.design k.charts → (i : ℕ) → None ≡ slice_get k.charts i → (IsTrue true ↔ K10_Process k.design k.claims i)
no_process k maps i is = elim (slice_get_cases k.charts i).1 [
  | inl z ↦ absurd (none-some z.0 (is ∙ z.2))
  | inr z ↦ (λ h. past_keeps k.design k.claims i (omega (arith, z.0, maps.as_many)), λ n. refl)
]

-- ---- what is read at a place

pub reads_not : (d : Parts) (c : Claims) (i : ℕ) (t : Chart) (p : ℕ) → (AreOwn d c i (reads_at t p) → ⊥) → (IsTrue false ↔ ReadsOwn d c i t p)
reads_not d c i t p not = (λ h. absurd (false≢true h), λ k. absurd (not k.reads))

pub reads_mute : (d : Parts) (c : Claims) (i : ℕ) (t : Chart) (p : ℕ) → AreOwn d c i (reads_at t p) → (c.displays ≡ true → ⊥) → (IsTrue true ↔ ReadsOwn d c i t p)
reads_mute d c i t p reads mute = (λ h. record { reads = reads; shows = λ displays. absurd (mute displays) }, λ k. refl)

pub reads_shown : (d : Parts) (c : Claims) (i : ℕ) (t : Chart) (p : ℕ) (b : Bool) → AreOwn d c i (reads_at t p) → c.displays ≡ true → (IsTrue b ↔ AreOwn d c i (shows_at t p)) →
    (IsTrue b ↔ ReadsOwn d c i t p)
reads_shown d c i t p b reads displays h = (λ t1. record { reads = reads; shows = λ e. h.0 t1 }, λ k. h.1 (k.shows displays))
