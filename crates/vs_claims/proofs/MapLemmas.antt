-- The maps of all processes, one after another.
use Rattle.std.proofs.Common.{◌≡◌, ℕ, zero, suc, ◌+◌, ◌<◌, ◌≤◌, ◌⊎◌, inl, inr, ◌&&◌, true, Option, Some, None, List, [], ◌∷◌, ◌++◌, length, map, get_or, slice_get, option_map, refl, sym, ◌∙◌, ap, subst, arith, length-append}
use Rattle.std.proofs.lemmas.Bool.{and_parts}
use Rattle.std.proofs.lemmas.List.{length-map, map-append}
use Rattle.std.proofs.lemmas.List.Elements.{All-contains, Contains-get_or}
use Rattle.std.proofs.lemmas.Option.{same_Some, slice_get-map, slice_get_within, slice_get_read, slice_get-get_or}
use Rattle.vs_design.specs.declared.design.Process.{Process}
use Rattle.vs_design.specs.declared.statement.Statement.{Statement}
use Rattle.vs_design.specs.Parts.{Parts}
use Rattle.vs_design.specs.WellFormed.{WellFormed, is_sound_process, is_sound_statement, counts_from, numbers, is_body_of}
use Rattle.vs_process.specs.declared.stops.TextMap as h
use Rattle.vs_process.specs.Stops.{IsText}
use Rattle.vs_maps.specs.Reaches.{Chart, chart_of}
use Rattle.vs_claims.specs.Facts.{AreCharts, bodies}

-- a body is that of a process
body_of : (o : Option Process) (b : Statement) → option_map (λ (p : Process). p.body) o ≡ Some b → (p : Process) × (o ≡ Some p) × (p.body ≡ b)
body_of None b h = absurd (cc)
body_of (Some p) b h = (p, refl, same_Some p.body b h)

body_at : (ps : List Process) (i : ℕ) (b : Statement) → slice_get (bodies ps) i ≡ Some b → (p : Process) × (slice_get ps i ≡ Some p) × (p.body ≡ b)
body_at ps i b h = body_of (slice_get ps i) b (sym (slice_get-map (λ (p : Process). p.body) ps i) ∙ h)

sound_at : (d : Parts) → WellFormed d → (i : ℕ) (p : Process) → slice_get d.processes i ≡ Some p → is_sound_process d.signals p ≡ true
sound_at d w i p is =
    let l = slice_get_within d.processes i p is in
    let e = same_Some (get_or d.processes i p) p (sym (slice_get-get_or d.processes i p l) ∙ is) in
    subst (λ (p : Process). is_sound_process d.signals p ≡ true) e
    (All-contains (λ (p : Process). is_sound_process d.signals p ≡ true) d.processes (get_or d.processes i p) w.processes (Contains-get_or d.processes i p l))

counts : (d : Parts) (p : Process) → is_sound_process d.signals p ≡ true → counts_from 0 (numbers p.body) ≡ true
counts d p sound =
    (and_parts (is_sound_statement d.signals p.body) (counts_from 0 (numbers p.body))
    (and_parts (is_sound_statement d.signals p.body && counts_from 0 (numbers p.body)) (is_body_of p.kind p.body) sound).0).1

-- the statements of each body are numbered from 0 on
pub counts_at : (d : Parts) → WellFormed d → (bs : List Statement) → bs ≡ bodies d.processes → (i : ℕ) (b : Statement) → i < length bs → b ≡ get_or bs i b →
    counts_from 0 (numbers b) ≡ true
counts_at d w bs are i b l is =
    let at = slice_get_read bs _ i b refl l is in
    let p = body_at d.processes i b (subst (λ (bs : List Statement). slice_get bs i ≡ Some b) are at) in
    subst (λ (b : Statement). counts_from 0 (numbers b) ≡ true) p.2 (counts d p.0 (sound_at d w i p.0 p.1))

-- ---- maps

-- these are maps of the first of some bodies
pub record AreFirst (bs : List Statement) (ts : List Chart) (n : ℕ) : Type 0 where
  pub as_many : length ts ≡ n
  pub each : (k : ℕ) (b : Statement) (t : Chart) → slice_get bs k ≡ Some b → slice_get ts k ≡ Some t → IsText b t.stops t.start

-- what stands at a place of a list with one element more
at_snoc : {A : Type 0} (xs : List A) (x y : A) (k : ℕ) → slice_get (xs ++ x ∷ []) k ≡ Some y → (slice_get xs k ≡ Some y) ⊎ ((k ≡ length xs) × (x ≡ y))
at_snoc [] x y zero h = inr (refl, same_Some x y h)
at_snoc [] x y (suc k) h = absurd (cc)
at_snoc (z ∷ xs) x y zero h = inl h
at_snoc (z ∷ xs) x y (suc k) h = elim (at_snoc xs x y k h) [ inl a ↦ inl a | inr a ↦ inr (ap suc a.0, a.1) ]

pub none_first : (bs : List Statement) (ts : List h.TextMap) → ts ≡ [] → AreFirst bs (map chart_of ts) 0
none_first bs ts e = subst (λ (ts : List h.TextMap). AreFirst bs (map chart_of ts) 0) (sym e) (record { as_many = refl; each = λ k b t one other. absurd (cc) })

pub more_first : (bs : List Statement) (ts new : List h.TextMap) (n : ℕ) (b : Statement) (x : h.TextMap) → AreFirst bs (map chart_of ts) n → n < length bs →
    b ≡ get_or bs n b → IsText b (chart_of x).stops (chart_of x).start → new ≡ ts ++ x ∷ [] → AreFirst bs (map chart_of new) (n + 1)
more_first bs ts new n b x h l is text pushed =
    subst (λ (ts : List Chart). AreFirst bs ts (n + 1)) (sym (ap (map chart_of) pushed ∙ map-append chart_of ts (x ∷ []))) (record {
      as_many = length-append (map chart_of ts) (chart_of x ∷ []) ∙ ap (λ (k : ℕ). k + 1) h.as_many;
      each = each;
    }) where
      each : (k : ℕ) (c : Statement) (t : Chart) → slice_get bs k ≡ Some c → slice_get (map chart_of ts ++ chart_of x ∷ []) k ≡ Some t → IsText c t.stops t.start
      each k c t one other = elim (at_snoc (map chart_of ts) (chart_of x) t k other) [
        | inl a ↦ h.each k c t one a
        | inr a ↦
            let at = slice_get_read bs _ n b refl l is in
            let same = same_Some b c (sym at ∙ subst (λ (k : ℕ). slice_get bs k ≡ Some c) (a.0 ∙ h.as_many) one) in
            subst (λ (t : Chart). IsText c t.stops t.start) a.1 (subst (λ (b : Statement). IsText b (chart_of x).stops (chart_of x).start) same text)
      ]

pub all_first : (d : Parts) (bs : List Statement) (ts : List h.TextMap) (n : ℕ) → bs ≡ bodies d.processes → AreFirst bs (map chart_of ts) n → length bs ≤ n →
    n ≤ length bs → AreCharts d (map chart_of ts)
all_first d bs ts n are h past within = record {
  as_many = h.as_many ∙ many ∙ ap length are ∙ length-map d.processes (λ (p : Process). p.body);
  each = λ i q t is at. h.each i q.body t (ap (λ (bs : List Statement). slice_get bs i) are ∙ slice_get-map (λ (p : Process). p.body) d.processes i
      ∙ ap (option_map (λ (p : Process). p.body)) is) at;
} where
  many : n ≡ length bs
  many = omega (arith, past, within)

-- the map of a text leads to places of it
pub chart_at : (d : Parts) (ts : List h.TextMap) → AreCharts d (map chart_of ts) → (i : ℕ) (t : h.TextMap) → i < length ts → t ≡ get_or ts i t →
    (q : Process) × IsText q.body (chart_of t).stops (chart_of t).start
chart_at d ts h i t l is =
    let many = sym (length-map ts chart_of) ∙ h.as_many in
    let found = found_process d.processes i (omega (arith, l, many)) in
    let at = slice_get-map chart_of ts i ∙ ap (option_map chart_of) (slice_get_read ts _ i t refl l is) in
    (found.0, h.each i found.0 (chart_of t) found.1 at) where
      found_process : (ps : List Process) (i : ℕ) → i < length ps → (q : Process) × (slice_get ps i ≡ Some q)
      found_process [] i l = absurd (omega (arith, l))
      found_process (p ∷ ps) zero l = (p, refl)
      found_process (p ∷ ps) (suc i) l = found_process ps i (omega (arith, l))
