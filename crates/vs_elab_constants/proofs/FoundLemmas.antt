-- Where the values of all parameters are found, or no other is.
use Rattle.std.proofs.Common.{◌≡◌, ℕ, zero, suc, ◌-◌, ◌<◌, ◌≤◌, ◌⊎◌, inl, inr, Bool, true, false, true≢false, cond, List, [], ◌∷◌, ◌++◌, Option, Some, None, length, map, get_or, slice_get, refl, ap, ap₂, sym, subst, ◌∙◌, ⊎_elim, arith}
use Rattle.std.specs.List.{list_any}
use Rattle.std.specs.Str.{bytes_eq}
use Rattle.std.proofs.Math.Path.{fun_ext}
use Rattle.std.proofs.lemmas.Option.{slice_get_within, slice_get-get_or, none-some}
use Rattle.vs_scopes.specs.vs_widths.specs.declared.bindings.Binding.{Binding}
use Rattle.vs_scopes.specs.vs_widths.specs.declared.bindings.Binding.TheVariants.{Constant, Pending}
use Rattle.vs_scopes.specs.vs_widths.specs.declared.constants.Const.{Const}
use Rattle.vs_scopes.specs.vs_widths.specs.declared.faults.WidthReason.{WidthReason}
use Rattle.vs_scopes.specs.vs_widths.specs.declared.faults.WidthReason.TheVariants.{TooWide, Unknown, NotConstant, WrongKind}
use Rattle.vs_scopes.specs.vs_widths.specs.Environment.{Environment}
use Rattle.vs_widths.specs.Names.{meaning_of, by_bytes}
use Rattle.vs_scopes.specs.Parameters.{Given, constant_given, own_fault, own_faults, outer_faults, with_given, bound_given, known_after, known_in_module}
use Rattle.vs_scopes.specs.Declarations.{Bindings}
use Rattle.vs_elab_constants.specs.declared.evaluating.ParameterValues.{ParameterValues}
use Rattle.vs_elab_constants.specs.passes.Values.{IsGiven, AddsConstants}
use Rattle.vs_elab_constants.specs.passes.Finding.{as_found, found_names, count_found, found_constants, Below, AreGiven, AreFound, AreAll, AreFaulty, IsFaulty, AreWaiting, IsStuck}
use Rattle.vs_elab_constants.proofs.FindingLemmas.{stays, below_then, below_both, bound_cases, IsBound, taken, rounds_below, rounds_with, count_most}
use Rattle.vs_elab_constants.proofs.BlameLemmas.{IsSound, faults_known}

-- ---- no value more

-- a parameter's name is bound to what is found, or to no value yet
abbrev Bounded : (Given → Binding) → Given → Option Const → Type 0
Bounded f g v = (f g ≡ as_found v) ⊎ (f g ≡ Pending)

bounded_below : (f : Given → Binding) (gs : List Given) (vs : List (Option Const)) (env : Environment) → length vs ≡ length gs → ((k : ℕ) (g : Given) (v : Option Const) → slice_get gs k ≡ Some g → slice_get vs k ≡ Some v → Bounded f g v) →
    Below (with_given f gs env) (found_names gs vs env)
bounded_below f [] vs env h each n = inl refl
bounded_below f (g ∷ gs) [] env h each n = absurd (omega (arith, h))
bounded_below f (g ∷ gs) (v ∷ vs) env h each n =
    taken (bytes_eq n g.0.name) (f g) (as_found v) (with_given f gs env n) (found_names gs vs env n) (each zero g v refl refl) (bounded_below f gs vs env (omega (arith, h)) (λ k x w i j. each (suc k) x w i j) n)

module _ (around env : Environment) (outward : Bindings) (gs : List Given) (vs : List (Option Const)) (known : Bindings) (all : length vs ≡ length gs) (found : AreFound around env outward gs vs known) where
  here : meaning_of (known ++ outward) ≡ found_names gs vs env
  here = fun_ext found.named

  -- after the last round no less is known
  found_last : Below (found_names gs vs env) (known_in_module around env gs)
  found_last =
      let most : count_found vs ≤ length vs = count_most vs in
      below_then (found_names gs vs env) (known_after (count_found vs) around env gs) (known_in_module around env gs) found.below (rounds_below around env gs (count_found vs) (length gs - count_found vs) (length gs) (omega (arith, all, most)))

  -- where each other parameter has a fault, no round knows more
  stuck_below : AreFaulty (meaning_of (known ++ outward)) gs vs (length gs) → (k : ℕ) → Below (known_after k around env gs) (found_names gs vs env)
  stuck_below faulty zero = bounded_below (λ g. Pending) gs vs env all (λ k g v i j. inr refl)
  stuck_below faulty (suc n) = bounded_below (bound_given around (known_after n around env gs)) gs vs env all (λ k g v i j. by (stuck_below faulty n) k g v i j (bound_cases around (known_after n around env gs) g))
    where
      by : Below (known_after n around env gs) (found_names gs vs env) → (k : ℕ) (g : Given) (v : Option Const) → slice_get gs k ≡ Some g → slice_get vs k ≡ Some v →
          (bound_given around (known_after n around env gs) g ≡ Pending) ⊎ IsBound around (known_after n around env gs) g → Bounded (bound_given around (known_after n around env gs)) g v
      by below k g v i j (inl e) = inr e
      by below k g None i j (inr b) =
          let fault : IsFaulty (meaning_of (known ++ outward)) g = faulty k g (slice_get_within gs k g i) i j in
          let given : IsGiven around (found_names gs vs env) g b.constant = stays (known_after n around env gs) (found_names gs vs env) below around g b.constant b.given in
          absurd (true≢false (sym fault.stands ∙ ap (λ (z : Environment). own_fault fault.reason z g) here ∙ given.own fault.reason))
      by below k g (Some c) i j (inr b) =
          let last : Environment = known_after (count_found vs) around env gs in
          let given : IsGiven around (found_names gs vs env) g b.constant = stays (known_after n around env gs) (found_names gs vs env) below around g b.constant b.given in
          let late : IsGiven around last g b.constant = stays (found_names gs vs env) last found.below around g b.constant given in
          let is : IsGiven around last g c = found.given k g c i j in
          inl (b.bound ∙ ap (λ z. Constant z) (late.value ∙ sym is.value))

  stuck_same : AreFaulty (meaning_of (known ++ outward)) gs vs (length gs) → known_in_module around env gs ≡ meaning_of (known ++ outward)
  stuck_same faulty = below_both (known_in_module around env gs) (found_names gs vs env) (stuck_below faulty (length gs)) found_last ∙ sym here

  -- where none has another fault than that it is no constant, a parameter has this one or none
  stuck_each : known_in_module around env gs ≡ meaning_of (known ++ outward) → AreWaiting (meaning_of (known ++ outward)) gs vs NotConstant (length gs) →
      (k : ℕ) (g : Given) → slice_get gs k ≡ Some g → (own_fault NotConstant (known_in_module around env gs) g ≡ true) ⊎ IsSound around (known_in_module around env gs) g
  stuck_each same waiting k g at = by (slice_get vs k) refl
    where
      within : k < length gs
      within = slice_get_within gs k g at

      by : (o : Option (Option Const)) → slice_get vs k ≡ o → (own_fault NotConstant (known_in_module around env gs) g ≡ true) ⊎ IsSound around (known_in_module around env gs) g
      by None e = absurd (none-some (get_or vs k None) (sym e ∙ slice_get-get_or vs k None (omega (arith, all, within))))
      by (Some None) e = inl (ap (λ (z : Environment). own_fault NotConstant z g) same ∙ waiting refl k g within at e)
      by (Some (Some c)) e =
          let most : count_found vs ≤ length vs = count_most vs in
          let below = rounds_below around env gs (count_found vs) (length gs - count_found vs) (length gs) (omega (arith, all, most)) in
          let is : IsGiven around (known_in_module around env gs) g c = stays (known_after (count_found vs) around env gs) (known_in_module around env gs) below around g c (found.given k g c at e) in
          inr (record { own = is.own; outer = is.outer })

  -- a fault where no other value is found is one of the parameters
  pub stuck_refused : (w : WidthReason) → IsStuck (meaning_of (known ++ outward)) gs vs w → own_faults w around env gs ≡ true
  stuck_refused TooWide h = ap (λ (z : Environment). list_any (own_fault TooWide z) gs) (stuck_same h.faulty) ∙ h.fault
  stuck_refused Unknown h = ap (λ (z : Environment). list_any (own_fault Unknown z) gs) (stuck_same h.faulty) ∙ h.fault
  stuck_refused NotConstant h =
      let same = stuck_same h.faulty in
      faults_known around env gs (stuck_each same h.waiting) NotConstant ∙ ap (λ (z : Environment). list_any (own_fault NotConstant z) gs) same ∙ h.fault
  stuck_refused WrongKind h = ap (λ (z : Environment). list_any (own_fault WrongKind z) gs) (stuck_same h.faulty) ∙ h.fault

-- ---- all values

count_all : (gs : List Given) (vs : List (Option Const)) → length vs ≡ length gs → AreAll vs → count_found vs ≡ length gs
count_all [] [] h all = refl
count_all [] (v ∷ vs) h all = absurd (omega (arith, h))
count_all (g ∷ gs) [] h all = absurd (omega (arith, h))
count_all (g ∷ gs) (None ∷ vs) h all = absurd (all zero refl)
count_all (g ∷ gs) (Some c ∷ vs) h all = ap suc (count_all gs vs (omega (arith, h)) (λ k e. all (suc k) e))

-- a name that has no value where all values are found is none of a parameter
all_named : (f : Given → Binding) (gs : List Given) (vs : List (Option Const)) (env : Environment) (n : List ℕ) → length vs ≡ length gs → AreAll vs → found_names gs vs env n ≡ Some Pending → found_names gs vs env n ≡ with_given f gs env n
all_named f [] vs env n h all e = refl
all_named f (g ∷ gs) [] env n h all e = absurd (omega (arith, h))
all_named f (g ∷ gs) (None ∷ vs) env n h all e = absurd (all zero refl)
all_named f (g ∷ gs) (Some c ∷ vs) env n h all e = by (bytes_eq n g.0.name) (λ i. all_named f gs vs env n (omega (arith, h)) (λ k j. all (suc k) j) i) e
  where
    by : (t : Bool) → (found_names gs vs env n ≡ Some Pending → found_names gs vs env n ≡ with_given f gs env n) → cond t (Some (Constant c)) (found_names gs vs env n) ≡ Some Pending → cond t (Some (Constant c)) (found_names gs vs env n) ≡ cond t (Some (f g)) (with_given f gs env n)
    by true rest i = cc
    by false rest i = rest i

listed : (around k : Environment) (gs : List Given) (vs : List (Option Const)) → length vs ≡ length gs → AreAll vs → AreGiven around k gs vs → found_constants gs vs ≡ map (λ (g : Given). (g.0.name, constant_given around k g)) gs
listed around k [] vs h all given = refl
listed around k (g ∷ gs) [] h all given = absurd (omega (arith, h))
listed around k (g ∷ gs) (None ∷ vs) h all given = absurd (all zero refl)
listed around k (g ∷ gs) (Some c ∷ vs) h all given =
    let is : IsGiven around k g c = given zero g c refl refl in
    ap₂ (λ d ds. (g.0.name, d) ∷ ds) is.value (listed around k gs vs (omega (arith, h)) (λ j e. all (suc j) e) (λ j x d i l. given (suc j) x d i l))

no_own : (w : WidthReason) (around k : Environment) (gs : List Given) (vs : List (Option Const)) → length vs ≡ length gs → AreAll vs → AreGiven around k gs vs → list_any (own_fault w k) gs ≡ false
no_own w around k [] vs h all given = refl
no_own w around k (g ∷ gs) [] h all given = absurd (omega (arith, h))
no_own w around k (g ∷ gs) (None ∷ vs) h all given = absurd (all zero refl)
no_own w around k (g ∷ gs) (Some c ∷ vs) h all given =
    let is : IsGiven around k g c = given zero g c refl refl in
    rw (is.own w) (no_own w around k gs vs (omega (arith, h)) (λ j e. all (suc j) e) (λ j x d i l. given (suc j) x d i l))

no_outer : (w : WidthReason) (around k : Environment) (gs : List Given) (vs : List (Option Const)) → length vs ≡ length gs → AreAll vs → AreGiven around k gs vs → outer_faults w around gs ≡ false
no_outer w around k [] vs h all given = refl
no_outer w around k (g ∷ gs) [] h all given = absurd (omega (arith, h))
no_outer w around k (g ∷ gs) (None ∷ vs) h all given = absurd (all zero refl)
no_outer w around k (g ∷ gs) (Some c ∷ vs) h all given =
    let is : IsGiven around k g c = given zero g c refl refl in
    rw (is.outer w) (no_outer w around k gs vs (omega (arith, h)) (λ j e. all (suc j) e) (λ j x d i l. given (suc j) x d i l))

all_sound : (around k : Environment) (gs : List Given) (vs : List (Option Const)) → length vs ≡ length gs → AreAll vs → AreGiven around k gs vs →
    (j : ℕ) (g : Given) → slice_get gs j ≡ Some g → (own_fault NotConstant k g ≡ true) ⊎ IsSound around k g
all_sound around k [] vs h all given j g at = absurd (none-some g at)
all_sound around k (x ∷ gs) [] h all given j g at = absurd (omega (arith, h))
all_sound around k (x ∷ gs) (None ∷ vs) h all given j g at = absurd (all zero refl)
all_sound around k (x ∷ gs) (Some c ∷ vs) h all given zero g at =
    let is : IsGiven around k g c = given zero g c at refl in
    inr (record { own = is.own; outer = is.outer })
all_sound around k (x ∷ gs) (Some c ∷ vs) h all given (suc j) g at =
    all_sound around k gs vs (omega (arith, h)) (λ i e. all (suc i) e) (λ i y d l m. given (suc i) y d l m) j g at

-- the constants that parameters are, once all values are found
pub all_added : (around : Environment) (outward : Bindings) (gs : List Given) (vs : List (Option Const)) (old new : ParameterValues) → length vs ≡ length gs → AreAll vs → AreFound around (meaning_of (old.known ++ outward)) outward gs vs new.known →
    by_bytes new.constants.items ≡ by_bytes old.constants.items ++ found_constants gs vs → AddsConstants around outward gs old new
all_added around outward gs vs old new h all found is =
    let env : Environment = meaning_of (old.known ++ outward) in
    let last : Environment = known_in_module around env gs in
    let count : count_found vs ≡ length gs = count_all gs vs h all in
    let given : AreGiven around last gs vs = subst (λ n. AreGiven around (known_after n around env gs) gs vs) count found.given in
    let below : Below (found_names gs vs env) last = subst (λ n. Below (found_names gs vs env) (known_after n around env gs)) count found.below in
    let made = rounds_with around env gs (length gs) in
    record {
      outer = λ w. no_outer w around last gs vs h all given;
      own = λ w. faults_known around env gs (all_sound around last gs vs h all given) w ∙ no_own w around last gs vs h all given;
      constants = is ∙ ap (λ z. by_bytes old.constants.items ++ z) (listed around last gs vs h all given);
      known = λ n. found.named n ∙ ⊎_elim (λ e. e) (λ e. all_named made.0 gs vs env n h all e ∙ ap (λ (z : Environment). z n) (sym made.1)) (below n);
    }
