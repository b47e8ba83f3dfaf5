-- Walks on which nothing is sure to write a bit.
use Rattle.std.proofs.Common.{◌≡◌, ℕ, ◌<◌, ◌≤◌, ◌⊎◌, inl, inr, ◌↔◌, ◌||◌, ◌&&◌, not, Bool, true, false, IsTrue, Option, Some, None, List, [], ◌∷◌, ◌==◌, eqb-true, map, length, get_or, refl, sym, ◌∙◌, ap, subst, arith, if◌then◌else◌}
use Rattle.std.specs.List.{Contains, list_any}
use Rattle.vs_design.specs.declared.range.BitRange.{BitRange}
use Rattle.vs_design.specs.declared.statement.Aim.{Aim}
use Rattle.vs_design.specs.declared.statement.Aim.TheVariants.{Fixed, Chosen}
use Rattle.vs_design.specs.declared.statement.Statement.{Statement}
use Rattle.vs_design.specs.declared.statement.Statement.TheOpen.{Statement-F}
use Rattle.vs_design.specs.declared.statement.Statement.TheViews.{out-Statement}
use Rattle.vs_design.specs.Uses.{covers, has_bit, has_word, joined}
use Rattle.vs_process.specs.Stops.{LeadsIn, stop_at, stop_statement, stops_tos}
use Rattle.vs_graph.specs.Reached as reach
use Rattle.vs_graph.proofs.RowLemmas.{head_in as first_in}
use Rattle.vs_drivers.specs.vs_rules.specs.Blocks.{is_sure, statement_surely}
use Rattle.vs_drivers.specs.vs_rules.specs.Paths.{Bit}
use Rattle.vs_claims.specs.vs_maps.specs.Reaches.{Chart, places, pause_of}
use Rattle.vs_claims.specs.vs_maps.proofs.RangeLemmas.{later_in}
use Rattle.vs_drivers.specs.Places.{bit}
use Rattle.vs_drivers.specs.Signals.{AreOf}
use Rattle.vs_cert_blocks.specs.Corners.{Alike, AlikePlaces, AlikeWords}
use Rattle.vs_cert_blocks.specs.Inside.{open_in}
use Rattle.vs_claims.specs.vs_maps.specs.Ranges.{ranges_of}
use Rattle.vs_cert_blocks.specs.Walks.{surely_at, is_at_once, open_tos, AreWoken, IsUnwritten, begins, goes_on, IsClear, IsWrittenFirst, fixed_range, statement_sure, HaveSure, HaveSureOf}

-- ---- what is sure to be written

aims_sure : (b : Bit) (aims : List Aim) → list_any (is_sure b) aims ≡ list_any (covers b.signal b.word b.place) (joined (map fixed_range aims))
aims_sure b [] = refl
aims_sure b (Fixed s ∷ aims) = ap (λ (x : Bool). is_sure b (Fixed s) || x) (aims_sure b aims)
aims_sure b (Chosen s word low ∷ aims) = aims_sure b aims

layer_sure : (b : Bit) (f : Statement-F Statement) → statement_surely b f ≡ list_any (covers b.signal b.word b.place) (statement_sure f)
layer_sure b (Statement-F.Assign n t e) = aims_sure b t.parts.items
layer_sure b (Statement-F.Null n) = refl
layer_sure b (Statement-F.Later n ticks t e) = refl
layer_sure b (Statement-F.Call n c) = refl
layer_sure b (Statement-F.Finish n) = refl
layer_sure b (Statement-F.Block all) = refl
layer_sure b (Statement-F.Delay n ticks body) = refl
layer_sure b (Statement-F.Event n terms body) = refl
layer_sure b (Statement-F.If n e x y) = refl
layer_sure b (Statement-F.Case n kind x items) = refl
layer_sure b (Statement-F.While n e body) = refl
layer_sure b (Statement-F.Repeat n signed e body) = refl
layer_sure b (Statement-F.Forever n body) = refl

pub sure_is : (b : Bit) (s : Option Statement) → surely_at b s ≡ list_any (covers b.signal b.word b.place) (ranges_of statement_sure s)
sure_is b None = refl
sure_is b (Some s) = layer_sure b (out-Statement s)

any_same : (f g : BitRange → Bool) (rs : List BitRange) → ((r : BitRange) → Contains rs r → f r ≡ g r) → list_any f rs ≡ list_any g rs
any_same f g [] h = refl
any_same f g (r ∷ rs) h = ap (λ (x : Bool). x || list_any f rs) (h r (first_in r rs)) ∙ ap (λ (x : Bool). g r || x) (any_same f g rs (λ q c. h q (later_in r rs q c)))

-- ---- bits that behave alike

-- the ranges of one signal
pub have_of : (t : Chart) (all some : List BitRange) (v : ℕ) → HaveSure t all → AreOf all v some → HaveSureOf t v some
have_of t all some v have are p r c of = (are r).1 (have p r c, of)

-- where only the ranges of their signal are known
not_of : (v w n : ℕ) (r : BitRange) → (r.signal == v) ≡ false → covers v w n r ≡ false
not_of v w n r h = ap (λ (b : Bool). b && has_word r.word w && has_bit r.bits n) h

alike_of : (rs : List BitRange) (v w n x m : ℕ) → Alike rs v w n x m → (r : BitRange) → (r.signal ≡ v → Contains rs r) → covers v x m r ≡ covers v w n r
alike_of rs v w n x m alike r inside = by (r.signal == v) refl where
  by : (b : Bool) → (r.signal == v) ≡ b → covers v x m r ≡ covers v w n r
  by true e = alike r (inside (eqb-true r.signal v e))
  by false e = not_of v x m r e ∙ sym (not_of v w n r e)

open_alike : (t : Chart) (rs : List BitRange) (v : ℕ) → HaveSureOf t v rs → (w n x m : ℕ) → Alike rs v w n x m → (p : ℕ) → open_tos (bit v x m) t.stops p ≡ open_tos (bit v w n) t.stops p
open_alike t rs v have w n x m alike p =
    let s = stop_statement (stop_at t.stops p) in
    ap (λ (y : Bool). if not y && is_at_once (pause_of s) then stops_tos t.stops p else []) (
    sure_is (bit v x m) s ∙ any_same (covers v x m) (covers v w n) (ranges_of statement_sure s) (λ r c. alike_of rs v w n x m alike r (have p r c)) ∙ sym (sure_is (bit v w n) s)
    )

unwritten_alike : (t : Chart) (rs : List BitRange) (v : ℕ) → HaveSureOf t v rs → (w n x m : ℕ) → Alike rs v w n x m → (p : ℕ) → IsUnwritten t (bit v x m) p → IsUnwritten t (bit v w n) p
unwritten_alike t rs v have w n x m alike _ (begins q h) = begins q h
unwritten_alike t rs v have w n x m alike _ (goes_on p q h c) =
    goes_on p q (unwritten_alike t rs v have w n x m alike p h) (subst (λ (l : List ℕ). Contains l q) (open_alike t rs v have w n x m alike p) c)

pub first_alike : (t : Chart) (rs : List BitRange) (v : ℕ) → HaveSureOf t v rs → (w n x m : ℕ) → Alike rs v w n x m → IsWrittenFirst t (bit v w n) → IsWrittenFirst t (bit v x m)
first_alike t rs v have w n x m alike first p h = first p (unwritten_alike t rs v have w n x m alike p h)

-- ---- what is marked

pub woken_in : (t : Chart) (seeds : List ℕ) → LeadsIn (places t) t.stops → AreWoken t seeds → (s : ℕ) → Contains seeds s → s < places t
woken_in t seeds within are s h = let w = (are s).0 h in within.ways w.0 s w.1.leads

unwritten_in : (t : Chart) (b : Bit) → LeadsIn (places t) t.stops → (p : ℕ) → IsUnwritten t b p → p < places t
unwritten_in t b within _ (begins q h) = within.ways h.0 q h.1.leads
unwritten_in t b within _ (goes_on p q h c) = open_in b (places t) t.stops within p q c

pub reached_on : (t : Chart) (b : Bit) (seeds : List ℕ) → AreWoken t seeds → (p : ℕ) → reach.Reached (open_tos b t.stops) seeds p → IsUnwritten t b p
reached_on t b seeds are _ (reach.begins a h) = begins a ((are a).0 h)
reached_on t b seeds are _ (reach.goes_on a q h c) = goes_on a q (reached_on t b seeds are a h) c

pub reached_back : (t : Chart) (b : Bit) (seeds : List ℕ) → AreWoken t seeds → (p : ℕ) → IsUnwritten t b p → reach.Reached (open_tos b t.stops) seeds p
reached_back t b seeds are _ (begins q h) = reach.begins q ((are q).1 h)
reached_back t b seeds are _ (goes_on p q h c) = reach.goes_on p q (reached_back t b seeds are p h) c

pub first_is : (t : Chart) (b : Bit) (seeds : List ℕ) (marks : List Bool) (n : ℕ) → LeadsIn (places t) t.stops → AreWoken t seeds → length marks ≡ places t → n ≡ length marks →
    reach.AreReached (open_tos b t.stops) seeds (places t) marks → (good : Bool) →
    (IsTrue good ↔ ((i : ℕ) → i < n → IsTrue (get_or marks i false) → IsClear t b.signal i)) → (IsTrue good ↔ IsWrittenFirst t b)
first_is t b seeds marks n within are long count marked good h = (
  λ y p u. let below : p < places t = unwritten_in t b within p u in
      h.0 y p (omega (arith, below, long, count)) ((marked p below).1 (reached_back t b seeds are p u)),
  λ first. h.1 (λ i l m. first i (reached_on t b seeds are i ((marked i (omega (arith, l, long, count))).0 m))),
)

-- ---- of a word and of a signal

below_cases : (n a b : ℕ) → n < b → (n < a) ⊎ ((a ≤ n) × (n < b))
below_cases n a b h = elim (either n a) [ inl l ↦ inl l | inr g ↦ inr (g, h) ] where
  either : (n a : ℕ) → (n < a) ⊎ (a ≤ n)
  either n a = grind arith

pub places_go_on : (t : Chart) (rs : List BitRange) (v : ℕ) → HaveSureOf t v rs → (w width place end : ℕ) → AlikePlaces rs v w width place end →
    ((n : ℕ) → n < place → IsWrittenFirst t (bit v w n)) → IsWrittenFirst t (bit v w place) → (n : ℕ) → n < end → IsWrittenFirst t (bit v w n)
places_go_on t rs v have w width place end alike before here n less = elim (below_cases n place end less) [
  | inl l ↦ before n l
  | inr g ↦ first_alike t rs v have w place w n (alike.alike n g.0 g.1) here
]

pub words_go_on : (t : Chart) (rs : List BitRange) (v : ℕ) → HaveSureOf t v rs → (count width word end : ℕ) → AlikeWords rs v count word end →
    ((w n : ℕ) → w < word → n < width → IsWrittenFirst t (bit v w n)) → ((n : ℕ) → n < width → IsWrittenFirst t (bit v word n)) →
    (w n : ℕ) → w < end → n < width → IsWrittenFirst t (bit v w n)
words_go_on t rs v have count width word end alike before here w n less inside = elim (below_cases w word end less) [
  | inl l ↦ before w n l inside
  | inr g ↦ first_alike t rs v have word n w n (alike.alike w n g.0 g.1) (here n inside)
]
