-- Places from which walks decide whether the bits of a signal are written first.
use Rattle.std.proofs.Common.{◌≡◌, ℕ, suc, ◌≤◌, ◌⊎◌, ◌↔◌, ◌&&◌, not, inl, inr, Bool, true, false, cond, Option, Some, None, List, [], ◌∷◌, refl, sym, ◌∙◌, ap, subst, arith}
use Rattle.std.specs.BTreeMap as tree
use Rattle.std.specs.BTreeMap.{BTreeMap, get, is_at}
use Rattle.std.specs.List.{Contains}
use Rattle.std.specs.Map.{lookup}
use Rattle.std.specs.Ordering.{nat_cmp}
use Rattle.std.proofs.lemmas.Map.Lookups.{exact_unsigned}
use Rattle.std.proofs.lemmas.Map.Views.{tells_apart}
use Rattle.std.proofs.lemmas.Option.{same_Some}
use Rattle.vs_process.specs.Stops.{stop_at, stop_statement, stops_tos}
use Rattle.vs_graph.specs.Reached as reach
use Rattle.vs_drivers.specs.vs_rules.specs.Paths.{Bit}
use Rattle.vs_claims.specs.vs_maps.specs.Reaches.{Chart, pause_of}
use Rattle.vs_cert_blocks.specs.Early.{IsScanned}
use Rattle.vs_cert_blocks.specs.Starts.{ArePut, ArePutAt, AreStarts, DecidesAt, IsClearFrom, IsJoin}
use Rattle.vs_cert_blocks.specs.Walks.{surely_at, is_at_once, open_tos, AreWoken, IsUnwritten, begins, goes_on, IsWrittenFirst}
use Rattle.vs_cert_blocks.proofs.EarlyLemmas.{at_or_after, chosen_in}
use Rattle.vs_cert_blocks.proofs.Open.{reached_back, reached_on}

-- ---- walks from a place to which all paths come

-- a walk is in the span before the place, or comes from the place
parts : (t : Chart) (b : Bit) (high p least : ℕ) (seen : List ℕ) → IsScanned t high (suc p) least seen → p ≤ least → (q : ℕ) → IsUnwritten t b q →
    ((suc p ≤ q) × (q ≤ high)) ⊎ reach.Reached (open_tos b t.stops) (p ∷ []) q
parts t b high p least seen so near q u = by q u where
  first : reach.Reached (open_tos b t.stops) (p ∷ []) p
  first = reach.begins p (0, omega arith, refl)

  either : (q : ℕ) → (least ≤ q) × (q ≤ high) → ((suc p ≤ q) × (q ≤ high)) ⊎ reach.Reached (open_tos b t.stops) (p ∷ []) q
  either q y = elim (at_or_after q p (omega (arith, near, y.0))) [
    | inl e ↦ inr (subst (reach.Reached (open_tos b t.stops) (p ∷ [])) (sym e) first)
    | inr l ↦ inl (l, y.1)
  ]

  by : (q : ℕ) → IsUnwritten t b q → ((suc p ≤ q) × (q ≤ high)) ⊎ reach.Reached (open_tos b t.stops) (p ∷ []) q
  by _ (begins q w) = either q (so.woken q w)
  by _ (goes_on a q v c) = elim (by a v) [
    | inl s ↦ either q (so.leads a q s.0 s.1
        (chosen_in (not (surely_at b (stop_statement (stop_at t.stops a))) && is_at_once (pause_of (stop_statement (stop_at t.stops a)))) (stops_tos t.stops a) q c))
    | inr r ↦ inr (reach.goes_on a q r c)
  ]

decides : (t : Chart) (high p least : ℕ) (seen : List ℕ) → IsScanned t high (suc p) least seen → p ≤ least → IsJoin t seen (Some p)
decides t high p least seen so near v unseen b of clear q u = elim (parts t b high p least seen so near q u) [
  | inl s ↦ (λ h. unseen (subst (Contains seen) of (so.read q b.signal s.0 s.1 h)), so.calm q s.0 s.1)
  | inr r ↦ clear q r
]

pub next_join : (t : Chart) (high p least : ℕ) (seen : List ℕ) (old new : Option ℕ) → IsScanned t high (suc p) least seen → IsJoin t seen old →
    (new ≡ old) ⊎ ((p ≤ least) × (new ≡ Some p)) → IsJoin t seen new
next_join t high p least seen old new so before h = by h where
  by : (new ≡ old) ⊎ ((p ≤ least) × (new ≡ Some p)) → IsJoin t seen new
  by (inl e) = subst (IsJoin t seen) (sym e) before
  by (inr y) = subst (IsJoin t seen) (sym y.1) (decides t high p least seen so y.0)

pub no_join : (t : Chart) (seen : List ℕ) → IsJoin t seen None
no_join t seen = tt

pub still_join : (t : Chart) (seen more : List ℕ) (join : Option ℕ) → ((v : ℕ) → Contains seen v → Contains more v) → IsJoin t seen join → IsJoin t more join
still_join t seen more None kept h = h
still_join t seen more (Some p) kept h = λ v unseen. h v (λ c. unseen (kept v c))

-- ---- signals with their places

same_or : (starts : BTreeMap ℕ ℕ) (seen : List ℕ) (p : ℕ) → ArePut starts starts seen p
same_or starts seen p v q h = inl h

pub put_same : (old new : BTreeMap ℕ ℕ) (seen : List ℕ) (p : ℕ) → new ≡ old → ArePut old new seen p
put_same old new seen p e = subst (λ (m : BTreeMap ℕ ℕ). ArePut old m seen p) (sym e) (same_or old seen p)

pub put_one : (old new : BTreeMap ℕ ℕ) (seen : List ℕ) (v p : ℕ) → tree.Updates nat_cmp old new v (Some p) → (Contains seen v → ⊥) → ArePut old new seen p
put_one old new seen v p up unseen w q h = by (is_at (nat_cmp v) w) refl where
  by : (b : Bool) → is_at (nat_cmp v) w ≡ b → (get nat_cmp old w ≡ Some q) ⊎ ((q ≡ p) × (Contains seen w → ⊥))
  by true e =
      let is : Some p ≡ Some q = sym (ap (λ (x : Bool). cond x (Some p) (get nat_cmp old w)) e) ∙ sym (up.0 w) ∙ h in
      inr (sym (same_Some p q is), λ c. unseen (subst (Contains seen) (sym (tells_apart exact_unsigned v w e)) c))
  by false e = inl (sym (ap (λ (x : Bool). cond x (Some p) (get nat_cmp old w)) e) ∙ sym (up.0 w) ∙ h)

pub put_more : (old mid new : BTreeMap ℕ ℕ) (seen : List ℕ) (p : ℕ) → ArePut old mid seen p → ArePut mid new seen p → ArePut old new seen p
put_more old mid new seen p a b v q h = elim (b v q h) [ inl m ↦ a v q m | inr y ↦ inr y ]

pub starts_more : (t : Chart) (seen : List ℕ) (join : Option ℕ) (old new : BTreeMap ℕ ℕ) → IsJoin t seen join → AreStarts t old → ArePutAt old new seen join → AreStarts t new
starts_more t seen None old new h before put v p is = before v p (put v p is)
starts_more t seen (Some s) old new h before put v p is = elim (put v p is) [
  | inl o ↦ before v p o
  | inr y ↦ subst (DecidesAt t v) (sym y.0) (h v y.1)
]

none_found : (p : ℕ) (x : Option ℕ) → x ≡ None → x ≡ Some p → ⊥
none_found p x e h = absurd (cc)

pub no_starts : (t : Chart) (starts : BTreeMap ℕ ℕ) → tree.IsEmpty starts → AreStarts t starts
no_starts t starts none v p h = absurd (none_found p (get nat_cmp starts v) (ap (λ (es : List (ℕ × ℕ)). lookup (is_at (nat_cmp v)) es) none) h)

-- ---- what walks tell

pub clear_from_is : (t : Chart) (b : Bit) (seeds : List ℕ) → AreWoken t seeds → (IsClearFrom t b seeds ↔ IsWrittenFirst t b)
clear_from_is t b seeds are = (λ h p u. h p (reached_back t b seeds are p u), λ h p r. h p (reached_on t b seeds are p r))
