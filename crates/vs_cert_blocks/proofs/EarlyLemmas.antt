-- Ranges that a block is sure to write first.
use Rattle.std.proofs.Common.{◌≡◌, ℕ, suc, ◌+◌, ◌<◌, ◌≤◌, ◌⊎◌, ◌↔◌, ◌++◌, ◌||◌, ◌&&◌, not, inl, inr, Bool, true, false, List, [], ◌∷◌, length, get_or, refl, sym, ◌∙◌, ap, subst, arith, if◌then◌else◌}
use Rattle.std.specs.List.{Contains, list_any}
use Rattle.std.proofs.lemmas.List.{get_or_default}
use Rattle.std.proofs.lemmas.List.Elements.{Contains-push_cases, Contains-get_or}
use Rattle.std.proofs.lemmas.Option.{slice_get_within, get_or_from_slice_get}
use Rattle.vs_design.specs.vs_logic4.proofs.Basics.{element_of, below_or}
use Rattle.vs_design.specs.declared.range.BitRange.{BitRange}
use Rattle.vs_design.specs.Uses.{covers}
use Rattle.vs_process.specs.Stops.{stop_at, stop_statement, stops_tos}
use Rattle.vs_process.specs.Ways.{none}
use Rattle.vs_drivers.specs.vs_rules.specs.Paths.{Bit, Has}
use Rattle.vs_claims.specs.vs_maps.specs.Reaches.{Chart, pause_at, pause_of}
use Rattle.vs_claims.specs.vs_maps.specs.Ranges.{ranges_of, reads_at, HasSignal}
use Rattle.vs_claims.specs.vs_maps.proofs.RangeLemmas.{in_either}
use Rattle.vs_drivers.proofs.Words.{parted}
use Rattle.vs_drivers.specs.Signals.{AreOf}
use Rattle.vs_cert_blocks.specs.Early.{AreEarly, IsScanned, IsUnseen}
use Rattle.vs_cert_blocks.specs.Walks.{surely_at, is_at_once, open_tos, statement_sure, sure_at, AreWoken, IsUnwritten, begins, goes_on, IsClear, IsWrittenFirst}
use Rattle.vs_cert_blocks.proofs.Open.{sure_is}

-- ---- walks of a span

pub chosen_in : (x : Bool) (xs : List ℕ) (q : ℕ) → Contains (if x then xs else []) q → Contains xs q
chosen_in true xs q c = c
chosen_in false xs q c = absurd (omega (arith, c.1))

pub at_or_after : (a p : ℕ) → p ≤ a → (a ≡ p) ⊎ (suc p ≤ a)
at_or_after a p h = grind (arith, h)

closed : (t : Chart) (b : Bit) (p q : ℕ) → surely_at b (stop_statement (stop_at t.stops p)) ≡ true → Contains (open_tos b t.stops p) q → ⊥
closed t b p q sure c =
    let s = stop_statement (stop_at t.stops p) in
    let shut : open_tos b t.stops p ≡ [] = ap (λ (x : Bool). if not x && is_at_once (pause_of s) then stops_tos t.stops p else []) sure in
    omega (arith, (subst (λ (l : List ℕ). Contains l q) shut c).1)

spans : (t : Chart) (b : Bit) (high p least : ℕ) (seen : List ℕ) → IsScanned t high (suc p) least seen → p ≤ least → surely_at b (stop_statement (stop_at t.stops p)) ≡ true →
    (q : ℕ) → IsUnwritten t b q → (p ≤ q) × (q ≤ high)
spans t b high p least seen so near sure _ (begins q w) = let y = so.woken q w in (omega (arith, near, y.0), y.1)
spans t b high p least seen so near sure _ (goes_on a q u c) = by (spans t b high p least seen so near sure a u) where
  step : (p ≤ a) × (a ≤ high) → (a ≡ p) ⊎ (suc p ≤ a) → (p ≤ q) × (q ≤ high)
  step s (inl e) = absurd (closed t b p q sure (subst (λ (n : ℕ). Contains (open_tos b t.stops n) q) e c))
  step s (inr l) =
      let y = so.leads a q l s.1 (chosen_in (not (surely_at b (stop_statement (stop_at t.stops a))) && is_at_once (pause_of (stop_statement (stop_at t.stops a)))) (stops_tos t.stops a) q c) in
      (omega (arith, near, y.0), y.1)

  by : (p ≤ a) × (a ≤ high) → (p ≤ q) × (q ≤ high)
  by s = step s (at_or_after a p s.0)

any_step : (f : BitRange → Bool) (x : BitRange) (xs : List BitRange) (r : BitRange) → f r ≡ true → (Contains xs r → list_any f xs ≡ true) → (x ≡ r) ⊎ Contains xs r → (f x || list_any f xs) ≡ true
any_step f x xs r h more (inl e) = ap (λ (y : Bool). y || list_any f xs) (ap f e ∙ h)
any_step f x xs r h more (inr d) = later (f x) (list_any f xs) (more d) where
  later : (a b : Bool) → b ≡ true → (a || b) ≡ true
  later true b e = refl
  later false b e = e

any_of : (f : BitRange → Bool) (rs : List BitRange) (r : BitRange) → Contains rs r → f r ≡ true → list_any f rs ≡ true
any_of f [] r c h = absurd (omega (arith, c.1))
any_of f (x ∷ xs) r c h = any_step f x xs r h (λ d. any_of f xs r d h) (in_either x xs r c)

-- what a place is sure to write is written first, where all ways of the span lead to it or to places after it, and nothing of its signal was read
early_here : (t : Chart) (high p least : ℕ) (seen more : List ℕ) → IsScanned t high (suc p) least seen → pause_at t p ≡ none → ((v : ℕ) → Contains seen v ⊎ HasSignal (reads_at t p) v → Contains more v) → p ≤ least →
    (r : BitRange) → IsUnseen (sure_at t p) more r → (b : Bit) → Has r b → IsWrittenFirst t b
early_here t high p least seen more so calm noted near r un b has q u = by (spans t b high p least seen so near sure q u) where
  sure : surely_at b (stop_statement (stop_at t.stops p)) ≡ true
  sure = sure_is b (stop_statement (stop_at t.stops p)) ∙ any_of (covers b.signal b.word b.place) (ranges_of statement_sure (stop_statement (stop_at t.stops p))) r un.0 has

  unread : Contains more b.signal → ⊥
  unread c = un.1 (subst (λ (v : ℕ). Contains more v) (sym of) c) where
    of : r.signal ≡ b.signal
    of = (parted r b.signal b.word b.place has).of

  step : (p ≤ q) × (q ≤ high) → (q ≡ p) ⊎ (suc p ≤ q) → IsClear t b.signal q
  step y (inl e) = subst (IsClear t b.signal) (sym e) (λ h. unread (noted b.signal (inr h)), calm)
  step y (inr l) = (λ h. unread (noted b.signal (inl (so.read q b.signal l y.1 h))), so.calm q l y.1)

  by : (p ≤ q) × (q ≤ high) → IsClear t b.signal q
  by y = step y (at_or_after q p y.0)

-- ---- the loop

pub scan_begins : (t : Chart) (seeds : List ℕ) (high place least : ℕ) (seen : List ℕ) → AreWoken t seeds → high < place → ((q : ℕ) → Contains seeds q → q ≤ high) → ((q : ℕ) → Contains seeds q → least ≤ q) →
    IsScanned t high place least seen
scan_begins t seeds high place least seen are past below above = record {
  woken = λ q w. let c = (are q).1 w in (above q c, below q c);
  leads = λ a q l m c. absurd (omega (arith, past, l, m));
  calm = λ a l m. absurd (omega (arith, past, l, m));
  read = λ a v l m h. absurd (omega (arith, past, l, m));
}

pub scan_more : (t : Chart) (high p least less : ℕ) (seen more : List ℕ) → IsScanned t high (suc p) least seen → pause_at t p ≡ none → ((v : ℕ) → Contains seen v ⊎ HasSignal (reads_at t p) v → Contains more v) →
    ((q : ℕ) → Contains (stops_tos t.stops p) q → q ≤ high) → less ≤ least → ((q : ℕ) → Contains (stops_tos t.stops p) q → less ≤ q) → IsScanned t high p less more
scan_more t high p least less seen more so calm noted up few each = record {
  woken = λ q w. let y = so.woken q w in (omega (arith, few, y.0), y.1);
  leads = λ a q l m c. elim (at_or_after a p l) [
    | inl e ↦ let d = subst (λ (n : ℕ). Contains (stops_tos t.stops n) q) e c in (each q d, up q d)
    | inr g ↦ let y = so.leads a q g m c in (omega (arith, few, y.0), y.1)
  ];
  calm = λ a l m. elim (at_or_after a p l) [ inl e ↦ subst (λ (n : ℕ). pause_at t n ≡ none) (sym e) calm | inr g ↦ so.calm a g m ];
  read = λ a v l m h. elim (at_or_after a p l) [
    | inl e ↦ noted v (inr (subst (λ (n : ℕ). HasSignal (reads_at t n) v) e h))
    | inr g ↦ noted v (inl (so.read a v g m h))
  ];
}

pub early_more : (t : Chart) (high p least : ℕ) (seen more : List ℕ) (old new : List BitRange) → IsScanned t high (suc p) least seen → pause_at t p ≡ none →
    ((v : ℕ) → Contains seen v ⊎ HasSignal (reads_at t p) v → Contains more v) → AreEarly t old →
    ((r : BitRange) → Contains new r → (Contains old r ⊎ ((p ≤ least) × IsUnseen (sure_at t p) more r))) → AreEarly t new
early_more t high p least seen more old new so calm noted before put r b c has = by (put r c) where
  by : Contains old r ⊎ ((p ≤ least) × IsUnseen (sure_at t p) more r) → IsWrittenFirst t b
  by (inl a) = before r b a has
  by (inr y) = early_here t high p least seen more so calm noted y.0 r y.1 b has

pub none_early : (t : Chart) (rs : List BitRange) → rs ≡ [] → AreEarly t rs
none_early t rs e r b c has = absurd (omega (arith, (subst (λ (l : List BitRange). Contains l r) e c).1))

-- ---- what is put

pub unseen_more : (ranges : List BitRange) (seen : List ℕ) (i : ℕ) (z : BitRange) (old mid new : List BitRange) → i < length ranges → ((r : BitRange) → Contains mid r → (Contains old r ⊎ IsUnseen ranges seen r)) →
    new ≡ mid ++ get_or ranges i z ∷ [] → (Contains seen (get_or ranges i z).signal → ⊥) → (r : BitRange) → Contains new r → (Contains old r ⊎ IsUnseen ranges seen r)
unseen_more ranges seen i z old mid new within before e never r c = by (Contains-push_cases mid (get_or ranges i z) r (subst (λ (l : List BitRange). Contains l r) e c)) where
  by : Contains mid r ⊎ (get_or ranges i z ≡ r) → Contains old r ⊎ IsUnseen ranges seen r
  by (inl o) = before r o
  by (inr s) = inr (subst (IsUnseen ranges seen) s (Contains-get_or ranges i z within, never))

-- signals that were there, and those of the first of some ranges
pub record NotedSoFar (ranges : List BitRange) (i : ℕ) (old now : List ℕ) : Type 0 where
  pub kept : (v : ℕ) → Contains old v → Contains now v
  pub noted : (k : ℕ) (q : BitRange) → k < i → get_or ranges k q ≡ q → Contains now q.signal

pub noted_more : (ranges : List BitRange) (i : ℕ) (z : BitRange) (old now new : List ℕ) → i < length ranges → NotedSoFar ranges i old now →
    ((v : ℕ) → (Contains new v ↔ (Contains now v ⊎ (v ≡ (get_or ranges i z).signal)))) → NotedSoFar ranges (i + 1) old new
noted_more ranges i z old now new within so put = record {
  kept = λ v c. (put v).1 (inl (so.kept v c));
  noted = λ k q less is. elim (below_or k i less) [
    | inl l ↦ (put q.signal).1 (inl (so.noted k q l is))
    | inr same ↦ (put q.signal).1 (inr (ap (λ (x : BitRange). x.signal)
        (sym (get_or_default ranges i z q within ∙ ap (λ (m : ℕ). get_or ranges m q) (sym same) ∙ is))))
  ];
}

pub noted_all : (ranges : List BitRange) (i : ℕ) (old now : List ℕ) → length ranges ≤ i → NotedSoFar ranges i old now → (v : ℕ) → Contains old v ⊎ HasSignal ranges v → Contains now v
noted_all ranges i old now past so v h = by h where
  by : Contains old v ⊎ HasSignal ranges v → Contains now v
  by (inl c) = so.kept v c
  by (inr y) = subst (Contains now) y.2 (so.noted y.1.0 y.0 (omega (arith, past, y.1.1)) y.1.2)

-- ---- a bit of such a range

pub early_has : (t : Chart) (rs : List BitRange) → AreEarly t rs → (b : Bit) → list_any (covers b.signal b.word b.place) rs ≡ true → IsWrittenFirst t b
early_has t rs are b h =
    let y = element_of (covers b.signal b.word b.place) rs h in
    are y.1 b (y.0, slice_get_within rs y.0 y.1 y.2, get_or_from_slice_get rs y.0 y.1 y.1 y.2) y.3

-- of the ranges of one signal, and of the same ranges in another order
pub early_of : (t : Chart) (all some : List BitRange) (v : ℕ) → AreEarly t all → AreOf all v some → AreEarly t some
early_of t all some v early are r b c has = early r b ((are r).0 c).0 has

pub early_same : (t : Chart) (all some : List BitRange) → AreEarly t all → ((r : BitRange) → (Contains some r ↔ Contains all r)) → AreEarly t some
early_same t all some early are r b c has = early r b ((are r).0 c) has
