-- Parameters one after another, whose values are looked for.
use Rattle.std.proofs.Common.{◌≡◌, ℕ, zero, suc, ◌+◌, ◌<◌, ◌≤◌, Bool, true, false, true≢false, not, ◌||◌, cond, is_some, List, [], ◌∷◌, Option, Some, None, option_map, length, map, drop, get_or, slice_get, refl, ap, ap₂, sym, subst, ◌∙◌, ⊎_elim, arith}
use Rattle.std.specs.List.{list_any}
use Rattle.std.specs.Str.{bytes_eq}
use Rattle.std.proofs.lemmas.List.{length-map}
use Rattle.std.proofs.lemmas.Option.{none-some, same_Some, slice_get_read, slice_get-get_or, get_or_from_slice_get}
use Rattle.vs_scopes.specs.vs_widths.specs.declared.bindings.Binding.TheVariants.{Pending}
use Rattle.vs_scopes.specs.vs_widths.specs.declared.constants.Const.{Const}
use Rattle.vs_scopes.specs.vs_widths.specs.declared.faults.WidthReason.{WidthReason}
use Rattle.vs_scopes.specs.vs_widths.specs.declared.faults.WidthReason.TheVariants.{TooWide, Unknown, NotConstant, WrongKind}
use Rattle.vs_scopes.specs.vs_widths.specs.Environment.{Environment}
use Rattle.vs_widths.specs.Names.{meaning_of, Binds}
use Rattle.vs_scopes.specs.Parameters.{Given, own_fault, outer_fault, outer_faults, with_given}
use Rattle.vs_scopes.specs.Declarations.{Bindings}
use Rattle.vs_scopes.specs.declared.parameters.Given.{Given as FoundGiven}
use Rattle.vs_scopes.specs.declared.faults.ParameterRefusal.{ParameterRefusal}
use Rattle.vs_scopes.specs.declared.faults.ParameterRefusal.TheVariants as r
use Rattle.vs_scopes.specs.scopes_passes.Declared.{first_of}
use Rattle.vs_scopes.specs.scopes_passes.Parts.{read_given}
use Rattle.vs_scopes.proofs.DeclaredLemmas.{bytes_eq-sym}
use Rattle.vs_scopes.proofs.PassLemmas.{map_at}
use Rattle.vs_design.specs.vs_logic4.proofs.Basics.{front_of as drop_at, below_or}
use Rattle.vs_elab_constants.specs.passes.Values.{RefusesValues, IsGiven}
use Rattle.vs_elab_constants.specs.passes.Finding.{number_of, found_constants, AreAll, AreFaulty, reported_fault, AreWaiting, IsNext, IsStuck}
use Rattle.std.proofs.lemmas.Map.Keys.{any_passes_from_place as any_true_at}
use Rattle.vs_design.specs.vs_logic4.proofs.Basics.{at_place as get_map}

-- a value that isn't found
pub unfound_at : (vs : List (Option Const)) (k : ℕ) (v : Option Const) (t : Bool) → k < length vs → v ≡ get_or vs k v → is_some v ≡ not t → t ≡ true → slice_get vs k ≡ Some None
unfound_at vs k None t h e s b = slice_get_read vs (length vs) k None refl h e
unfound_at vs k (Some c) t h e s b = absurd (true≢false (s ∙ ap not b))

-- a value that is found
pub record IsAt (vs : List (Option Const)) (k : ℕ) : Type 0 where
  pub constant : Const
  pub there : slice_get vs k ≡ Some (Some constant)

pub found_at : (vs : List (Option Const)) (k : ℕ) (v : Option Const) (t : Bool) → k < length vs → v ≡ get_or vs k v → is_some v ≡ not t → t ≡ false → IsAt vs k
found_at vs k None t h e s b = absurd (true≢false (sym (s ∙ ap not b)))
found_at vs k (Some c) t h e s b = record { constant = c; there = slice_get_read vs (length vs) k (Some c) refl h e }

-- ---- numbers of names

-- names of the first parameters with their numbers
abbrev pub Numbers : List FoundGiven → ℕ → List (List ℕ × ℕ) → Type 0
Numbers xs i ns = (n : List ℕ) → first_of (meaning_of ns n) (option_map (λ k. i + k) (number_of (map read_given (drop i xs)) n)) ≡ number_of (map read_given xs) n

-- ---- names without values

pub pending_step : (xs : List FoundGiven) (i : ℕ) (x : FoundGiven) (first : Environment) (old new : Bindings) → i < length xs → x ≡ get_or xs i x → Binds old new x.parameter.name.now Pending →
    ((n : List ℕ) → meaning_of old n ≡ with_given (λ g. Pending) (map read_given (drop (i + 1) xs)) first n) → (n : List ℕ) → meaning_of new n ≡ with_given (λ g. Pending) (map read_given (drop i xs)) first n
pending_step xs i x first old new h k binds all n =
    binds n ∙ ap (λ t. cond t (Some Pending) (meaning_of old n)) (bytes_eq-sym x.parameter.name.now n) ∙ ap (cond (bytes_eq n x.parameter.name.now) (Some Pending)) (all n)
    ∙ ap (λ gs. with_given (λ g. Pending) gs first n) (sym (map_at read_given xs i x h k))

-- ---- faults

-- a fault of what overrides one parameter is one among all
pub refused_among : (around : Environment) (gs : List Given) (k : ℕ) (g : Given) (e : ParameterRefusal) → slice_get gs k ≡ Some g → RefusesValues false (λ w. outer_fault w around g) (λ w. false) e → RefusesValues false (λ w. outer_faults w around gs) (λ w. false) e
refused_among around gs k g r.Memory h f = tt
refused_among around gs k g r.Mismatch h f = f
refused_among around gs k g (r.Outer w) h f = any_true_at (outer_fault w around) gs k g h f
refused_among around gs k g (r.Own w) h f = f

-- a refusal that is none of the module is one, whatever stands in the module
pub refused_outside : (outer own : WidthReason → Bool) (e : ParameterRefusal) → RefusesValues false outer (λ w. false) e → RefusesValues false outer own e
refused_outside outer own r.Memory h = tt
refused_outside outer own r.Mismatch h = h
refused_outside outer own (r.Outer w) h = h
refused_outside outer own (r.Own w) h = absurd (true≢false (sym h))

-- ---- the next value

-- parameters up to a number, of which none is found next, with a fault of one that isn't found
pub record IsSearched (env : Environment) (gs : List Given) (vs : List (Option Const)) (fault : Option WidthReason) (n : ℕ) : Type 0 where
  pub none : fault ≡ None → (k : ℕ) → k < n → slice_get vs k ≡ Some None → ⊥
  pub stands : (w : WidthReason) → fault ≡ Some w → list_any (own_fault w env) gs ≡ true
  pub faulty : AreFaulty env gs vs n
  pub waiting : (w : WidthReason) → fault ≡ Some w → AreWaiting env gs vs w n

pub searched_none : (env : Environment) (gs : List Given) (vs : List (Option Const)) → IsSearched env gs vs None 0
searched_none env gs vs = record { none = λ h k l. absurd (omega (arith, l)); stands = λ w h. absurd (none-some w h); faulty = λ k g l. absurd (omega (arith, l)); waiting = λ w h. absurd (none-some w h) }

-- one more that is found
pub searched_found : (env : Environment) (gs : List Given) (vs : List (Option Const)) (fault : Option WidthReason) (n : ℕ) (c : Const) → slice_get vs n ≡ Some (Some c) → IsSearched env gs vs fault n → IsSearched env gs vs fault (n + 1)
searched_found env gs vs fault n c at h = record {
  none = λ e k l i. ⊎_elim (λ m. h.none e k m i) (λ m. none-some c (same_Some None (Some c) (sym i ∙ ap (slice_get vs) m ∙ at))) (below_or k n l);
  stands = h.stands;
  faulty = λ k g l i j. ⊎_elim (λ m. h.faulty k g m i j) (λ m. absurd (none-some c (same_Some None (Some c) (sym j ∙ ap (slice_get vs) m ∙ at)))) (below_or k n l);
  waiting = λ w e f k g l i j.
      ⊎_elim (λ m. h.waiting w e f k g m i j) (λ m. absurd (none-some c (same_Some None (Some c) (sym j ∙ ap (slice_get vs) m ∙ at)))) (below_or k n l);
}

-- one more that has a fault
module _ (env : Environment) (gs : List Given) (vs : List (Option Const)) (n : ℕ) (g : Given) (w : WidthReason) (at : slice_get gs n ≡ Some g) (bad : own_fault w env g ≡ true) where
  one_stands : (u : WidthReason) → w ≡ u → list_any (own_fault u env) gs ≡ true
  one_stands u e = any_true_at (own_fault u env) gs n g at (ap (λ z. own_fault z env g) (sym e) ∙ bad)

  one_faulty : AreFaulty env gs vs n → AreFaulty env gs vs (n + 1)
  one_faulty h k x l i j = ⊎_elim (λ m. h k x m i j) (λ m. record { reason = w; stands = ap (own_fault w env) (same_Some x g (sym i ∙ ap (slice_get gs) m ∙ at)) ∙ bad }) (below_or k n l)

  one_waiting : AreWaiting env gs vs NotConstant n → AreWaiting env gs vs w (n + 1)
  one_waiting h e k x l i j =
      ⊎_elim (λ m. h refl k x m i j) (λ m. ap (own_fault NotConstant env) (same_Some x g (sym i ∙ ap (slice_get gs) m ∙ at)) ∙ ap (λ z. own_fault z env g) (sym e) ∙ bad) (below_or k n l)

  pub searched_faulty : (fault : Option WidthReason) → IsSearched env gs vs fault n → IsSearched env gs vs (Some (reported_fault fault w)) (n + 1)
  searched_faulty None h = record {
    none = λ e. absurd (none-some w (sym e));
    stands = λ u e. one_stands u (same_Some w u e);
    faulty = one_faulty h.faulty;
    waiting = λ u e. subst (λ z. AreWaiting env gs vs z (n + 1)) (same_Some w u e) (one_waiting (λ f k x l i j. absurd (h.none refl k l j)));
  }
  searched_faulty (Some NotConstant) h = record {
    none = λ e. absurd (none-some w (sym e));
    stands = λ u e. one_stands u (same_Some w u e);
    faulty = one_faulty h.faulty;
    waiting = λ u e. subst (λ z. AreWaiting env gs vs z (n + 1)) (same_Some w u e) (one_waiting (h.waiting NotConstant refl));
  }
  searched_faulty (Some TooWide) h = record { none = λ e. absurd (none-some TooWide (sym e)); stands = h.stands; faulty = one_faulty h.faulty; waiting = λ u e f. cc }
  searched_faulty (Some Unknown) h = record { none = λ e. absurd (none-some Unknown (sym e)); stands = h.stands; faulty = one_faulty h.faulty; waiting = λ u e f. cc }
  searched_faulty (Some WrongKind) h = record { none = λ e. absurd (none-some WrongKind (sym e)); stands = h.stands; faulty = one_faulty h.faulty; waiting = λ u e f. cc }

pub searched_all : (env : Environment) (gs : List Given) (vs : List (Option Const)) (fault : Option WidthReason) (n : ℕ) → length vs ≤ n → fault ≡ None → IsSearched env gs vs fault n → AreAll vs
searched_all env gs vs fault n h e s k i = s.none e k (omega (arith, h, there vs k None i)) i
  where
    there : (vs : List (Option Const)) (k : ℕ) (v : Option Const) → slice_get vs k ≡ Some v → k < length vs
    there [] k v i = absurd (none-some v i)
    there (x ∷ xs) zero v i = omega arith
    there (x ∷ xs) (suc k) v i = omega (arith, there xs k v i)

pub searched_stuck : (env : Environment) (gs : List Given) (vs : List (Option Const)) (fault : Option WidthReason) (n : ℕ) (w : WidthReason) → length gs ≤ n → fault ≡ Some w → IsSearched env gs vs fault n → IsStuck env gs vs w
searched_stuck env gs vs fault n w h e s = record {
  fault = s.stands w e;
  faulty = λ k g l i j. s.faulty k g (omega (arith, h, l)) i j;
  waiting = λ f k g l i j. s.waiting w e f k g (omega (arith, h, l)) i j;
}

pub next_is : (around env : Environment) (xs : List FoundGiven) (vs : List (Option Const)) (k : ℕ) (x : FoundGiven) (c : Const) → k < length xs → x ≡ get_or xs k x → slice_get vs k ≡ Some None → IsGiven around env (read_given x) c → IsNext around env (map read_given xs) vs k c
next_is around env xs vs k x c h e n given = record {
  within = omega (arith, h, length-map xs read_given);
  new = n;
  given = λ g at. subst (λ z. IsGiven around env z c) (same_Some (read_given x) g (sym (get_map read_given xs k x h e) ∙ at)) given;
}

-- ---- constants one after another

pub found_next : (xs : List FoundGiven) (vs : List (Option Const)) (i : ℕ) (x : FoundGiven) (c : Const) → i < length xs → length vs ≡ length xs → x ≡ get_or xs i x → slice_get vs i ≡ Some (Some c) →
    found_constants (map read_given (drop i xs)) (drop i vs) ≡ (x.parameter.name.now, c) ∷ found_constants (map read_given (drop (i + 1) xs)) (drop (i + 1) vs)
found_next xs vs i x c h all e s = ap₂ found_constants (map_at read_given xs i x h e) (drop_at vs i (Some c) (omega (arith, h, all)) (sym (get_or_from_slice_get vs i (Some c) (Some c) s)))

pub found_skipped : (xs : List FoundGiven) (vs : List (Option Const)) (i : ℕ) → i < length xs → length vs ≡ length xs → slice_get vs i ≡ Some None →
    found_constants (map read_given (drop i xs)) (drop i vs) ≡ found_constants (map read_given (drop (i + 1) xs)) (drop (i + 1) vs)
found_skipped [] vs i h all s = absurd (omega (arith, h))
found_skipped (y ∷ ys) vs i h all s =
    let x = get_or (y ∷ ys) i y in
    ap₂ found_constants (map_at read_given (y ∷ ys) i x h (sym (get_or_from_slice_get (y ∷ ys) i x x (slice_get-get_or (y ∷ ys) i y h)))) (drop_at vs i None (omega (arith, h, all)) (sym (get_or_from_slice_get vs i None None s)))
