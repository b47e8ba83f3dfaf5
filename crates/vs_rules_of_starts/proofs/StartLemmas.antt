-- The starts of combinational blocks.
use Rattle.std.proofs.Common.{◌≡◌, ◌↔◌, ℕ, zero, suc, ◌+◌, ◌<◌, ◌≤◌, ◌⊎◌, Bool, true, false, IsTrue, Option, Some, None, List, [], ◌∷◌, ◌++◌, length, slice_get, slice_index_or, refl, sym, ◌∙◌, ap, subst, inl, inr, arith}
use Rattle.std.specs.List.{Contains}
use Rattle.std.proofs.lemmas.Bool.{cases_lt}
use Rattle.std.proofs.lemmas.List.Elements.{Contains-append_left, Contains-append_right, Contains-append_cases}
use Rattle.std.proofs.lemmas.Option.{none-some, same_Some, slice_get_within}
use Rattle.vs_design.specs.declared.design.Process.{Process}
use Rattle.vs_design.specs.declared.range.BitRange.{BitRange}
use Rattle.vs_design.specs.declared.statement.EventTerm.{EventTerm}
use Rattle.vs_design.specs.Parts.{Parts}
use Rattle.vs_rules.specs.vs_process.specs.BlockDrivers.{outputs_for}
use Rattle.vs_rules.specs.vs_process.proofs.ThreadLists.{contains_at, place_of}
use Rattle.vs_drivers.specs.vs_process.specs.Writes.{statement_writes}
use Rattle.vs_rules.specs.Claims.{Claims, Kind, Start, block, cold, starter, kind_of, HasStart, IsBlock}
use Rattle.vs_rules.specs.Paths.{Writes}
use Rattle.vs_rules.specs.Drivers.{block as driver, DriverNeeds, IsSource, Passes}
use Rattle.vs_rules.specs.Blocks.{K11, IsCold, Starts, WaitsForSources}
use Rattle.vs_drivers.specs.vs_maps.specs.Reaches.{Chart}
use Rattle.vs_drivers.specs.vs_maps.specs.Ranges.{HasSignal, HasTermAt}
use Rattle.vs_drivers.specs.vs_maps.proofs.EachWalk.{terms_exact}
use Rattle.vs_design.specs.vs_logic4.proofs.Basics.{below_or, inside}
use Rattle.vs_rules_of_starts.specs.Cold.{StaysAtEach}
use Rattle.vs_drivers.specs.Wires.{IsWiringOf, Wiring, OfWiring}
use Rattle.vs_drivers.proofs.ConeLemmas.{claimed_within}
use Rattle.vs_claims.specs.Facts.{AreCharts}
use Rattle.vs_rules_of_starts.specs.Started.{AreTerms}
use Rattle.vs_rules_of_starts.specs.Starts.{AreApart, IsFine, AreFine, NeedsCold, NoStarterIn}

pub false_not : (IsTrue false) → ⊥
false_not t = grind (arith, t)

pub true_here : IsTrue true
true_here = grind arith

-- ---- signals of ranges

pub no_signal : (ranges : List BitRange) (n v : ℕ) → length ranges ≤ n → ((k : ℕ) (r : BitRange) → k < n → slice_get ranges k ≡ Some r → (r.signal ≡ v) → ⊥) → (IsTrue false ↔ HasSignal ranges v)
no_signal ranges n v past none = (
  λ t. absurd (false_not t),
  λ h. let at = place_of ranges h.0 h.1 in
      let lt : at.0 < length ranges = slice_get_within ranges at.0 h.0 at.1 in
      absurd (none at.0 h.0 (omega (arith, lt, past)) at.1 h.2),
)

pub other_signal : (A B : Type 0) → (A → ⊥) → (t : Bool) → (IsTrue t ↔ B) → (IsTrue t ↔ (A ⊎ B))
other_signal A B never t told = (λ h. inr (told.0 h), λ s. elim s [ inl a ↦ absurd (never a) | inr b ↦ told.1 b ])

pub a_source : (A B : Type 0) → A → (IsTrue true ↔ (A ⊎ B))
a_source A B a = (λ t. inl a, λ s. true_here)

pub all_fine : (d : Parts) (c : Claims) (written : List BitRange) (terms : List EventTerm) (n : ℕ) → length terms ≤ n →
    ((k : ℕ) (t : EventTerm) → k < n → slice_get terms k ≡ Some t → IsFine d c written t.range.signal) → (IsTrue true ↔ AreFine d c written terms)
all_fine d c written terms n past all = (
  λ x t h. let at = place_of terms t h in
      let lt : at.0 < length terms = slice_get_within terms at.0 t at.1 in
      all at.0 t (omega (arith, lt, past)) at.1,
  λ f. true_here,
)

pub not_fine : (d : Parts) (c : Claims) (written : List BitRange) (terms : List EventTerm) (i : ℕ) (t : EventTerm) → slice_get terms i ≡ Some t → (IsFine d c written t.range.signal → IsTrue false) →
    (IsTrue false ↔ AreFine d c written terms)
not_fine d c written terms i t is never = (λ x. absurd (false_not x), λ f. never (f t (contains_at terms i t is)))

pub fine_more : (d : Parts) (c : Claims) (written : List BitRange) (terms : List EventTerm) (i : ℕ) (x : EventTerm) → slice_get terms i ≡ Some x →
    ((k : ℕ) (t : EventTerm) → k < i → slice_get terms k ≡ Some t → IsFine d c written t.range.signal) → IsFine d c written x.range.signal →
    (k : ℕ) (t : EventTerm) → k < i + 1 → slice_get terms k ≡ Some t → IsFine d c written t.range.signal
fine_more d c written terms i x is before here k t lt at = elim (cases_lt k i) [
  | inl below ↦ before k t below at
  | inr above ↦
      let e : k ≡ i = omega (arith, lt, above) in
      subst (λ (y : EventTerm). IsFine d c written y.range.signal) (same_Some x t (sym is ∙ ap (slice_get terms) (sym e) ∙ at)) here
]

-- ---- marks

past_marks : (marks : List Bool) (j : ℕ) → length marks ≤ j → slice_index_or marks j false ≡ false
past_marks [] j h = refl
past_marks (m ∷ marks) zero h = absurd (omega (arith, h))
past_marks (m ∷ marks) (suc j) h = past_marks marks j (omega (arith, h))

pub none_marked : (d : Parts) (c : Claims) (marks : List Bool) (n : ℕ) → length marks ≤ n →
    ((j : ℕ) → j < n → (IsTrue (slice_index_or marks j false) × HasStart d c j starter) → ⊥) → (IsTrue true ↔ NoStarterIn d c marks)
none_marked d c marks n past none = (
  λ t j mark has. elim (cases_lt j n) [
    | inl lt ↦ none j lt (mark, has)
    | inr above ↦ false_not (subst IsTrue (past_marks marks j (omega (arith, past, above))) mark)
  ],
  λ f. true_here,
)

pub one_marked : (d : Parts) (c : Claims) (marks : List Bool) (j : ℕ) → (IsTrue (slice_index_or marks j false) × HasStart d c j starter) → (IsTrue false ↔ NoStarterIn d c marks)
one_marked d c marks j h = (λ t. absurd (false_not t), λ f. absurd (f j h.0 h.1))

-- ---- starts by kinds

pub start_is : (d : Parts) (c : Claims) (j : ℕ) (kind : Option Kind) (o : Option Start) (start s : Start) → kind ≡ kind_of d c j → ((s : Start) → ((kind ≡ Some (block s)) ↔ (o ≡ Some s))) → o ≡ Some start →
    (t : Bool) → (IsTrue t ↔ (start ≡ s)) → (IsTrue t ↔ HasStart d c j s)
start_is d c j kind o start s same all is t told = (
  λ h. sym same ∙ (all s).1 (is ∙ ap (λ x. Some x) (told.0 h)),
  λ has. told.1 (same_Some start s (sym is ∙ (all s).0 (same ∙ has))),
)

pub start_not : (d : Parts) (c : Claims) (j : ℕ) (kind : Option Kind) (o : Option Start) (s : Start) → kind ≡ kind_of d c j → ((s : Start) → ((kind ≡ Some (block s)) ↔ (o ≡ Some s))) → o ≡ None →
    (IsTrue false ↔ HasStart d c j s)
start_not d c j kind o s same all is = (λ t. absurd (false_not t), λ has. absurd (none-some s (sym is ∙ (all s).0 (same ∙ has))))

pub claimed : (d : Parts) (c : Claims) (j : ℕ) (kind : Option Kind) (o p : Option Start) → kind ≡ kind_of d c j → ((s : Start) → ((kind ≡ Some (block s)) ↔ (o ≡ Some s))) → o ≡ p →
    (s : Start) → (HasStart d c j s ↔ p ≡ Some s)
claimed d c j kind o p same all is s = (λ has. sym is ∙ (all s).0 (same ∙ has), λ e. sym same ∙ (all s).1 (is ∙ e))

-- ---- cold

pub cold_is : (d : Parts) (c : Claims) (i : ℕ) (x : Wiring) → IsWiringOf d c x → IsBlock d c i → StaysAtEach d i → (needs : List BitRange) (marks : List Bool) →
    OfWiring x (λ d c. (r : BitRange) → (Contains needs r ↔ (IsBlock d c i × DriverNeeds d (driver i) r))) →
    OfWiring x (λ d c. (j : ℕ) → (IsTrue (slice_index_or marks j false) ↔ ((r : BitRange) × Contains needs r × Passes d c (driver j) r))) →
    (b : Bool) → (IsTrue b ↔ NoStarterIn d c marks) → (IsTrue b ↔ IsCold d c i)
cold_is d c i x wiring blk stays needs marks needed passed b told = (
  λ h. record { stays = stays; no_starter = λ j r need passes has. told.0 h j ((passed d c wiring j).1 (r, (needed d c wiring r).1 (blk, need), passes)) has },
  λ k. told.1 (λ j mark has. let y = (passed d c wiring j).0 mark in k.no_starter j y.0 ((needed d c wiring y.0).0 y.1).1 y.2 has),
)

pub cold_not : (d : Parts) (c : Claims) (i : ℕ) → (StaysAtEach d i → ⊥) → (IsTrue false ↔ IsCold d c i)
cold_not d c i never = (λ t. absurd (false_not t), λ k. absurd (never k.stays))

-- ---- terms

pub terms_are : (d : Parts) (charts : List Chart) → AreCharts d charts → (i : ℕ) → i < length d.processes → (t : Chart) → slice_get charts i ≡ Some t → (all : List EventTerm) →
    ((term : EventTerm) → (Contains all term ↔ HasTermAt t term)) → AreTerms d i all
terms_are d charts are i lt t at all told = by_process (slice_get d.processes i) refl
  where
    by_process : (o : Option Process) → slice_get d.processes i ≡ o → AreTerms d i all
    by_process None none = absurd (inside d.processes i lt none)
    by_process (Some q) is = λ term.
        let e = terms_exact d i q t.stops t.start (are.each i q t is at) is term in
        (λ h. e.0 ((told term).0 h), λ h. (told term).1 (e.1 h))

pub no_chart : (d : Parts) (charts : List Chart) → AreCharts d charts → (i : ℕ) → i < length d.processes → slice_get charts i ≡ None → ⊥
no_chart d charts are i lt none = inside charts i (subst (λ (n : ℕ). i < n) (sym are.as_many) lt) none

-- ---- sources

pub sources_are : (d : Parts) (c : Claims) (i : ℕ) (q : Process) → slice_get d.processes i ≡ Some q → (terms : List EventTerm) → AreTerms d i terms → (written : List BitRange) → written ≡ statement_writes q.body →
    (b : Bool) → (IsTrue b ↔ AreFine d c written terms) → (IsTrue b ↔ WaitsForSources d c i)
sources_are d c i q is terms are written writes b told = (there, back)
  where
    same : written ≡ outputs_for (slice_get d.processes i)
    same = writes ∙ ap outputs_for (sym is)

    fine : (v : ℕ) → IsFine d c written v → IsSource d c v ⊎ Writes d i v
    fine v (inl s) = inl s
    fine v (inr h) = inr (record { range = h.0; listed = (subst (λ (l : List BitRange). Contains l h.0) same h.1, tt); of = h.2 })

    fine_back : (v : ℕ) → IsSource d c v ⊎ Writes d i v → IsFine d c written v
    fine_back v (inl s) = inl s
    fine_back v (inr w) = inr (w.range, subst (λ (l : List BitRange). Contains l w.range) (sym same) w.listed.0, w.of)

    there : IsTrue b → WaitsForSources d c i
    there h r n = subst (λ (x : BitRange). IsSource d c x.signal ⊎ Writes d i x.signal) n.is (fine n.term.range.signal (told.0 h n.term ((are n.term).1 n.has)))

    back : WaitsForSources d c i → IsTrue b
    back w = told.1 (λ t h. fine_back t.range.signal (w t.range (record { term = t; has = (are t).0 h; is = refl; touches = tt })))

-- ---- all

pub no_claim : (d : Parts) (c : Claims) (i : ℕ) → ((s : Start) → (HasStart d c i s ↔ None ≡ Some s)) → (IsTrue true ↔ K11 d c i)
no_claim d c i none = (λ t start has. absurd (none-some start ((none start).0 has)), λ k. true_here)

pub one_claim : (d : Parts) (c : Claims) (i : ℕ) (start : Start) → ((s : Start) → (HasStart d c i s ↔ Some start ≡ Some s)) → (b : Bool) → (IsTrue b ↔ Starts d c i start) → (IsTrue b ↔ K11 d c i)
one_claim d c i start one b told = (
  λ h s has. subst (Starts d c i) (same_Some start s ((one s).0 has)) (told.0 h),
  λ k. told.1 (k start ((one start).1 refl)),
)

-- ---- what blocks of start `cold` need

-- what those below a number need
abbrev pub AreNeedsBelow : Parts → Claims → ℕ → List BitRange → Type 0
AreNeedsBelow d c n all = (r : BitRange) → (Contains all r ↔ ((i : ℕ) × (i < n) × NeedsCold d c i r))

pub no_needs_yet : (d : Parts) (c : Claims) (all : List BitRange) → all ≡ [] → AreNeedsBelow d c 0 all
no_needs_yet d c all e r = (λ h. absurd (omega (arith, (subst (λ (l : List BitRange). Contains l r) e h).1)), λ h. absurd (omega (arith, h.1)))

pub needs_more : (d : Parts) (c : Claims) (n : ℕ) (old new : List BitRange) → AreNeedsBelow d c n old → ((r : BitRange) → (Contains new r ↔ (Contains old r ⊎ NeedsCold d c n r))) → AreNeedsBelow d c (n + 1) new
needs_more d c n old new so more r = (λ h. into ((more r).0 h), λ h. (more r).1 (back h (below_or h.0 n h.1))) where
  into : Contains old r ⊎ NeedsCold d c n r → (i : ℕ) × (i < n + 1) × NeedsCold d c i r
  into (inl a) = let y = (so r).0 a in (y.0, omega (arith, y.1), y.2)
  into (inr b) = (n, omega arith, b)

  back : (h : (i : ℕ) × (i < n + 1) × NeedsCold d c i r) → (h.0 < n) ⊎ (h.0 ≡ n) → Contains old r ⊎ NeedsCold d c n r
  back h (inl l) = inl ((so r).1 (h.0, l, h.2))
  back h (inr e) = inr (subst (λ (i : ℕ). NeedsCold d c i r) e h.2)

pub needs_all : (d : Parts) (c : Claims) (n : ℕ) (all : List BitRange) → length d.processes ≤ n → AreNeedsBelow d c n all → (r : BitRange) → (Contains all r ↔ ((i : ℕ) × NeedsCold d c i r))
needs_all d c n all past so r = (
  λ h. let y = (so r).0 h in (y.0, y.2),
  λ h. (so r).1 (h.0, omega (arith, claimed_within d c h.0 (cold, h.1.0), past), h.1),
)

-- nothing more
pub not_cold : (d : Parts) (c : Claims) (i : ℕ) (old : List BitRange) → (HasStart d c i cold → ⊥) → (r : BitRange) → (Contains old r ↔ (Contains old r ⊎ NeedsCold d c i r))
not_cold d c i old never r = (λ h. inl h, λ h. elim h [ inl a ↦ a | inr b ↦ absurd (never b.0) ])

pub cold_more : (d : Parts) (c : Claims) (i : ℕ) (old needs new : List BitRange) → HasStart d c i cold → new ≡ old ++ needs → ((r : BitRange) → (Contains needs r ↔ (IsBlock d c i × DriverNeeds d (driver i) r))) →
    (r : BitRange) → (Contains new r ↔ (Contains old r ⊎ NeedsCold d c i r))
cold_more d c i old needs new has e are r = (
  λ h. elim (Contains-append_cases old needs r (subst (λ (l : List BitRange). Contains l r) e h)) [ inl a ↦ inl a | inr b ↦ inr (has, ((are r).0 b).1) ],
  λ h. subst (λ (l : List BitRange). Contains l r) (sym e) (elim h [ inl a ↦ Contains-append_left old needs r a | inr b ↦ Contains-append_right old needs r ((are r).1 ((cold, has), b.1)) ]),
)

-- no driver that is passed through has start `starter` exactly where all are apart
pub apart_is : (d : Parts) (c : Claims) (x : Wiring) → IsWiringOf d c x → (needs one : List BitRange) (marks other : List Bool) → one ≡ needs → other ≡ marks → ((r : BitRange) → (Contains needs r ↔ ((i : ℕ) × NeedsCold d c i r))) →
    OfWiring x (λ d c. (j : ℕ) → (IsTrue (slice_index_or marks j false) ↔ ((r : BitRange) × Contains one r × Passes d c (driver j) r))) →
    (b : Bool) → (IsTrue b ↔ NoStarterIn d c other) → (IsTrue b ↔ AreApart d c)
apart_is d c x wiring needs one marks other same also are passed b told = (
  λ h i j r need passes has.
      told.0 h j (subst (λ (l : List Bool). IsTrue (slice_index_or l j false)) (sym also) ((passed d c wiring j).1 (r, subst (λ (l : List BitRange). Contains l r) (sym same) ((are r).1 (i, need)), passes))) has,
  λ k. told.1 (λ j mark has.
      let y = (passed d c wiring j).0 (subst (λ (l : List Bool). IsTrue (slice_index_or l j false)) also mark) in
      let z = (are y.0).0 (subst (λ (l : List BitRange). Contains l y.0) same y.1) in
      k z.0 j y.0 z.1 y.2 has),
)

-- a block that is apart
pub cold_apart : (d : Parts) (c : Claims) (i : ℕ) → HasStart d c i cold → StaysAtEach d i → AreApart d c → (IsTrue true ↔ IsCold d c i)
cold_apart d c i has stays apart = (λ t. record { stays = stays; no_starter = λ j r need passes. apart i j r (has, need) passes }, λ k. true_here)
