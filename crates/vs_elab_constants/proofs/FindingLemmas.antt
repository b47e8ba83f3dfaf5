-- Values of parameters that may name one another, found one after another.
use Rattle.std.proofs.Common.{◌≡◌, ℕ, zero, suc, ℤ, ◌+◌, ◌-◌, ◌<◌, ◌≤◌, ◌==◌, ◌⊎◌, inl, inr, Bool, true, false, true≢false, ◌||◌, ◌&&◌, cond, List, [], ◌∷◌, ◌++◌, Option, Some, None, option_map, length, slice_get, set, replicate, refl, ap, ap₂, sym, subst, ◌∙◌, ⊎_elim, arith}
use Rattle.std.specs.Str.{bytes_eq}
use Rattle.std.proofs.Math.Path.{fun_ext}
use Rattle.std.proofs.Math.Dec.{eqb-suc-zero, eqb-zero-suc}
use Rattle.std.proofs.lemmas.Bool.{or_parts, eqb-true, eq-eqb}
use Rattle.std.proofs.lemmas.Bool.Decides.{same_from_decides, Decides-eqb}
use Rattle.std.proofs.lemmas.List.{length-set}
use Rattle.std.proofs.lemmas.Option.{none-some, same_Some}
use Rattle.std.proofs.lemmas.Slice.Eq.{bytes_eq-Decides}
use Rattle.vs_syntax.specs.declared.tree.Expr.{Expr}
use Rattle.vs_syntax.specs.declared.tree.Range.{Range}
use Rattle.vs_syntax.specs.declared.tree.ParameterForm.{ParameterForm}
use Rattle.vs_syntax.specs.declared.tree.ParameterForm.TheVariants.{Integer, Vector}
use Rattle.vs_scopes.specs.vs_widths.specs.declared.bindings.Binding.{Binding}
use Rattle.vs_scopes.specs.vs_widths.specs.declared.bindings.Binding.TheVariants.{Constant, Pending}
use Rattle.vs_scopes.specs.vs_widths.specs.declared.constants.Const.{Const}
use Rattle.vs_scopes.specs.vs_widths.specs.declared.faults.WidthReason.{WidthReason}
use Rattle.vs_scopes.specs.vs_widths.specs.declared.faults.WidthReason.TheVariants.{TooWide, Unknown, NotConstant, WrongKind}
use Rattle.vs_scopes.specs.vs_widths.specs.Environment.{Environment}
use Rattle.vs_scopes.specs.vs_widths.specs.Findings.{Finding, Has, Lacks, has_width_fault, too_wide}
use Rattle.vs_scopes.specs.vs_widths.specs.Meants.{Meant, own}
use Rattle.vs_scopes.specs.vs_widths.specs.Constants.{where_none, constant_finding, whole_at}
use Rattle.vs_widths.specs.Expressions.{meant}
use Rattle.vs_widths.specs.Names.{meaning_of, Binds}
use Rattle.vs_widths.proofs.SettledLemmas.{settled}
use Rattle.vs_widths.proofs.AimLemmas.{stands_alone}
use Rattle.vs_scopes.specs.Ranges.{number_fault, bound_of, bound_fault, both_bounds, shape_with, distance_or, is_over}
use Rattle.vs_scopes.specs.Parameters.{Parameter, Given, Takes, neither, takes_by, vector_takes, takes_fault, constant_by, constant_given, own_fault, outer_fault, any_fault, with_given, bound_given, known_after}
use Rattle.vs_scopes.specs.Declarations.{Bindings}
use Rattle.vs_scopes.specs.scopes_passes.Declared.{first_of}
use Rattle.vs_scopes.proofs.DeclaredLemmas.{bytes_eq-sym, meaning_of-append}
use Rattle.vs_elab_constants.specs.passes.Values.{IsGiven}
use Rattle.vs_elab_constants.specs.passes.Finding.{number_of, is_number, as_found, found_names, AreNamed, count_found, Below, AreGiven, AreFound, IsNext}
use Rattle.vs_elab_constants.proofs.ValueLemmas.{bound_under}

-- ---- a parameter where more names have values

number_waits : (f : Finding) (o : Option ℤ) → has_width_fault NotConstant f ≡ true → number_fault NotConstant f o ≡ true
number_waits (Has width signed) o h = absurd (true≢false (sym h))
number_waits (Lacks faults) o h = h

module _ (a b : Environment) (below : Below a b) where
  -- a constant means the same
  constant_same : (e : Expr) → has_width_fault NotConstant (constant_finding (meant a e)) ≡ false → meant a e ≡ meant b e
  constant_same e h =
      ⊎_elim (λ same. same) (λ waits. absurd (true≢false (sym (stands_alone (where_none (meant a e).reads) (meant a e).finding NotConstant waits) ∙ h))) (settled a b below e)

  bound_same : (e : Expr) → bound_fault NotConstant a e ≡ false → meant a e ≡ meant b e
  bound_same e h =
      ⊎_elim (λ same. same)
      (λ waits. absurd (true≢false (sym (number_waits (constant_finding (meant a e)) (bound_of a e) (stands_alone (where_none (meant a e).reads) (meant a e).finding NotConstant waits)) ∙ h)))
      (settled a b below e)

  -- what a parameter with this sign takes by a range whose bounds mean these
  abbrev range_takes : Bool → Meant → Meant → Takes
  range_takes signed x y =
      let left = whole_at (constant_finding x) (own x [] 0) in
      let right = whole_at (constant_finding y) (own y [] 0) in
      neither (record {
        shape = shape_with (distance_or 0 (both_bounds left right)) signed;
        bounds = both_bounds left right;
        faults = λ w. (number_fault w (constant_finding x) left || number_fault w (constant_finding y) right) || (too_wide w && is_over 63 (both_bounds left right));
      })

  vector_same : (signed : Bool) (o : Option Range) → takes_fault NotConstant (vector_takes a signed o) ≡ false → vector_takes a signed o ≡ vector_takes b signed o
  vector_same signed None h = refl
  vector_same signed (Some r) h =
      let bounds : (bound_fault NotConstant a r.left || bound_fault NotConstant a r.right) ≡ false = (or_parts _ _ h).0 in
      ap₂ (range_takes signed) (bound_same r.left (or_parts _ _ bounds).0) (bound_same r.right (or_parts _ _ bounds).1)

  takes_same : (o : Option ParameterForm) → takes_fault NotConstant (takes_by a o) ≡ false → takes_by a o ≡ takes_by b o
  takes_same None h = refl
  takes_same (Some Integer) h = refl
  takes_same (Some (Vector f)) h = vector_same f.signed f.range h

  -- a parameter that has a value has it
  given_stays : (around : Environment) (p : Parameter) (o : Option Expr) (c : Const) → IsGiven around a (p, o) c → IsGiven around b (p, o) c
  given_stays around p None c h =
      let takes : takes_by a p.form ≡ takes_by b p.form = takes_same p.form (or_parts _ _ (h.own NotConstant)).0 in
      let means : meant a p.value ≡ meant b p.value = constant_same p.value (or_parts _ _ (h.own NotConstant)).1 in
      record {
        outer = h.outer;
        own = λ w. ap₂ (λ t m. takes_fault w t || has_width_fault w (constant_finding m)) (sym takes) (sym means) ∙ h.own w;
        value = h.value ∙ ap₂ constant_by takes means;
      }
  given_stays around p (Some e) c h =
      let takes : takes_by a p.form ≡ takes_by b p.form = takes_same p.form (h.own NotConstant) in
      record {
        outer = h.outer;
        own = λ w. ap (takes_fault w) (sym takes) ∙ h.own w;
        value = h.value ∙ ap (λ t. constant_by t (meant around e)) takes;
      }

  -- a parameter that is no constant for no name has the same faults
  pub fault_same : (g : Given) → own_fault NotConstant a g ≡ false → (w : WidthReason) → own_fault w a g ≡ own_fault w b g
  fault_same (p, None) h w = ap₂ (λ t m. takes_fault w t || has_width_fault w (constant_finding m)) (takes_same p.form (or_parts _ _ h).0) (constant_same p.value (or_parts _ _ h).1)
  fault_same (p, Some e) h w = ap (takes_fault w) (takes_same p.form h)

  pub stays : (around : Environment) (g : Given) (c : Const) → IsGiven around a g c → IsGiven around b g c
  stays around (p, o) c h = given_stays around p o c h

pub below_then : (a b c : Environment) → Below a b → Below b c → Below a c
below_then a b c h k n = by (h n) (k n)
  where
    by : (a n ≡ b n) ⊎ (a n ≡ Some Pending) → (b n ≡ c n) ⊎ (b n ≡ Some Pending) → (a n ≡ c n) ⊎ (a n ≡ Some Pending)
    by (inr e) f = inr e
    by (inl e) (inl f) = inl (e ∙ f)
    by (inl e) (inr f) = inr (e ∙ f)

pub below_both : (a b : Environment) → Below a b → Below b a → a ≡ b
below_both a b h k = fun_ext (λ n. by n (h n) (k n))
  where
    by : (n : List ℕ) → (a n ≡ b n) ⊎ (a n ≡ Some Pending) → (b n ≡ a n) ⊎ (b n ≡ Some Pending) → a n ≡ b n
    by n (inl e) f = e
    by n (inr e) (inl f) = sym f
    by n (inr e) (inr f) = e ∙ sym f

-- ---- what a parameter's name is bound to

pub none_any : (f : WidthReason → Bool) → ((w : WidthReason) → f w ≡ false) → any_fault f ≡ false
none_any f h = rw (h TooWide, h Unknown, h NotConstant, h WrongKind) refl

-- where no fault stands, none does
pub no_any : (f : WidthReason → Bool) → any_fault f ≡ false → (w : WidthReason) → f w ≡ false
no_any f h TooWide = (or_parts _ _ (or_parts _ _ (or_parts _ _ h).0).0).0
no_any f h Unknown = (or_parts _ _ (or_parts _ _ (or_parts _ _ h).0).0).1
no_any f h NotConstant = (or_parts _ _ (or_parts _ _ h).0).1
no_any f h WrongKind = (or_parts _ _ h).1

bound_is : (around env : Environment) (g : Given) (c : Const) → IsGiven around env g c → bound_given around env g ≡ Constant c
bound_is around env g c h =
    ap (λ t. cond t Pending (Constant (constant_given around env g))) (none_any (λ w. own_fault w env g || outer_fault w around g) (λ w. rw (h.own w, h.outer w) refl)) ∙ ap (λ z. Constant z) (sym h.value)

-- a constant to which a parameter's name is bound
pub record IsBound (around env : Environment) (g : Given) : Type 0 where
  pub constant : Const
  pub given : IsGiven around env g constant
  pub bound : bound_given around env g ≡ Constant constant

pub bound_cases : (around env : Environment) (g : Given) → (bound_given around env g ≡ Pending) ⊎ IsBound around env g
bound_cases around env g = by (any_fault faults) refl
  where
    faults : WidthReason → Bool
    faults w = own_fault w env g || outer_fault w around g

    by : (t : Bool) → any_fault (λ w. own_fault w env g || outer_fault w around g) ≡ t → (bound_given around env g ≡ Pending) ⊎ IsBound around env g
    by true h = inl (ap (λ t. cond t Pending (Constant (constant_given around env g))) h)
    by false h =
        let none = no_any (λ w. own_fault w env g || outer_fault w around g) h in
        let is : IsGiven around env g (constant_given around env g) = record { outer = λ w. (or_parts _ _ (none w)).1; own = λ w. (or_parts _ _ (none w)).0; value = refl } in
        inr (record { constant = constant_given around env g; given = is; bound = bound_is around env g _ is })

-- ---- rounds

-- a test of an environment, by what two names are bound to where one of two is taken
pub taken : (t : Bool) (x y : Binding) (o p : Option Binding) → (x ≡ y) ⊎ (x ≡ Pending) → (o ≡ p) ⊎ (o ≡ Some Pending) → (cond t (Some x) o ≡ cond t (Some y) p) ⊎ (cond t (Some x) o ≡ Some Pending)
taken true x y o p (inl e) k = inl (ap Some e)
taken true x y o p (inr e) k = inr (ap Some e)
taken false x y o p h k = k

below_with : (f h : Given → Binding) → ((g : Given) → (f g ≡ h g) ⊎ (f g ≡ Pending)) → (gs : List Given) (env : Environment) → Below (with_given f gs env) (with_given h gs env)
below_with f h each [] env n = inl refl
below_with f h each (g ∷ gs) env n = taken (bytes_eq n g.0.name) (f g) (h g) (with_given f gs env n) (with_given h gs env n) (each g) (below_with f h each gs env n)

module _ (around env : Environment) (gs : List Given) where
  abbrev K : ℕ → Environment
  K k = known_after k around env gs

  -- one round more
  pub round_below : (k : ℕ) → Below (known_after k around env gs) (known_after (suc k) around env gs)
  round_below zero = below_with (λ g. Pending) (bound_given around (K zero)) (λ g. inr refl) gs env
  round_below (suc k) = below_with (bound_given around (K k)) (bound_given around (K (suc k))) (λ g. by (round_below k) g (bound_cases around (K k) g)) gs env
    where
      by : Below (known_after k around env gs) (known_after (suc k) around env gs) → (g : Given) → (bound_given around (known_after k around env gs) g ≡ Pending) ⊎ IsBound around (known_after k around env gs) g →
          (bound_given around (known_after k around env gs) g ≡ bound_given around (known_after (suc k) around env gs) g) ⊎ (bound_given around (known_after k around env gs) g ≡ Pending)
      by below g (inl e) = inr e
      by below g (inr b) = inl (b.bound ∙ sym (bound_is around (known_after (suc k) around env gs) g b.constant (stays (known_after k around env gs) (known_after (suc k) around env gs) below around g b.constant b.given)))

  pub rounds_below : (r d n : ℕ) → d + r ≡ n → Below (known_after r around env gs) (known_after n around env gs)
  rounds_below r zero n h =
      let same : r ≡ n = omega (arith, h) in
      λ m. inl (ap (λ k. known_after k around env gs m) same)
  rounds_below r (suc d) zero h = absurd (omega (arith, h))
  rounds_below r (suc d) (suc n) h =
      below_then (known_after r around env gs) (known_after n around env gs) (known_after (suc n) around env gs) (rounds_below r d n (omega (arith, h))) (round_below n)

  -- what names are bound to after some round
  pub rounds_with : (k : ℕ) → (f : Given → Binding) × (known_after k around env gs ≡ with_given f gs env)
  rounds_with zero = ((λ g. Pending), refl)
  rounds_with (suc k) = (bound_given around (known_after k around env gs), refl)

-- ---- values that are found

given_up : (around a b : Environment) (gs : List Given) (vs : List (Option Const)) → Below a b → AreGiven around a gs vs → AreGiven around b gs vs
given_up around a b gs vs below h k g c i j = stays a b below around g c (h k g c i j)

given_behind : (around env : Environment) (g : Given) (gs : List Given) (v : Option Const) (vs : List (Option Const)) → AreGiven around env (g ∷ gs) (v ∷ vs) → AreGiven around env gs vs
given_behind around env g gs v vs h k x c i j = h (suc k) x c i j

-- values that are found where names are bound so are there in the next round
found_below : (around env k : Environment) (gs : List Given) (vs : List (Option Const)) → AreGiven around k gs vs → Below (found_names gs vs env) (with_given (bound_given around k) gs env)
found_below around env k [] vs h n = inl refl
found_below around env k (g ∷ gs) [] h n =
    taken (bytes_eq n g.0.name) Pending (bound_given around k g) (found_names gs [] env n) (with_given (bound_given around k) gs env n) (inr refl) (found_below around env k gs [] (λ j x c i l. absurd (none-some (Some c) l)) n)
found_below around env k (g ∷ gs) (None ∷ vs) h n =
    taken (bytes_eq n g.0.name) Pending (bound_given around k g) (found_names gs vs env n) (with_given (bound_given around k) gs env n) (inr refl) (found_below around env k gs vs (given_behind around k g gs None vs h) n)
found_below around env k (g ∷ gs) (Some c ∷ vs) h n =
    taken (bytes_eq n g.0.name) (Constant c) (bound_given around k g) (found_names gs vs env n) (with_given (bound_given around k) gs env n) (inl (sym (bound_is around k g c (h zero g c refl refl))))
    (found_below around env k gs vs (given_behind around k g gs (Some c) vs h) n)

-- an element of a list of which one was set
set_cases : {A : Type 0} (xs : List A) (i : ℕ) (x : A) (k : ℕ) (y : A) → slice_get (set xs i x) k ≡ Some y → ((k ≡ i) × (y ≡ x)) ⊎ (slice_get xs k ≡ Some y)
set_cases [] i x k y h = inr h
set_cases (z ∷ zs) zero x zero y h = inl (refl, sym (same_Some x y h))
set_cases (z ∷ zs) zero x (suc k) y h = inr h
set_cases (z ∷ zs) (suc i) x zero y h = inr h
set_cases (z ∷ zs) (suc i) x (suc k) y h = ⊎_elim (λ p. inl (ap suc p.0, p.1)) (λ e. inr e) (set_cases zs i x k y h)

count_set : (vs : List (Option Const)) (k : ℕ) (c : Const) → slice_get vs k ≡ Some None → count_found (set vs k (Some c)) ≡ suc (count_found vs)
count_set [] k c h = absurd (none-some None h)
count_set (None ∷ vs) zero c h = refl
count_set (Some d ∷ vs) zero c h = absurd (none-some d (sym (same_Some (Some d) None h)))
count_set (None ∷ vs) (suc k) c h = count_set vs k c h
count_set (Some d ∷ vs) (suc k) c h = ap suc (count_set vs k c h)

pub count_most : (vs : List (Option Const)) → count_found vs ≤ length vs
count_most [] = omega arith
count_most (None ∷ vs) = omega (arith, count_most vs)
count_most (Some c ∷ vs) = omega (arith, count_most vs)

-- fewer values are left to find
pub count_less : (vs ws : List (Option Const)) (k : ℕ) (c : Const) → slice_get vs k ≡ Some None → ws ≡ set vs k (Some c) → length ws - count_found ws < length vs - count_found vs
count_less vs ws k c h e =
    let count : count_found ws ≡ suc (count_found vs) = ap count_found e ∙ count_set vs k c h in
    let same : length ws ≡ length vs = ap length e ∙ length-set vs k (Some c) in
    let most : count_found ws ≤ length ws = count_most ws in
    omega (arith, count, same, most)

-- one value more
pub found_more : (around env : Environment) (outward : Bindings) (gs : List Given) (vs ws : List (Option Const)) (known new : Bindings) (k : ℕ) (g : Given) (c : Const) → AreFound around env outward gs vs known → slice_get gs k ≡ Some g → slice_get vs k ≡ Some None →
    IsGiven around (meaning_of (known ++ outward)) g c → ws ≡ set vs k (Some c) → AreNamed outward env gs ws new → AreFound around env outward gs ws new
found_more around env outward gs vs ws known new k g c h at none given is named =
    let r = count_found vs in
    let here : meaning_of (known ++ outward) ≡ found_names gs vs env = fun_ext h.named in
    let now : IsGiven around (known_after r around env gs) g c = stays (found_names gs vs env) (known_after r around env gs) h.below around g c (subst (λ (z : Environment). IsGiven around z g c) here given) in
    let count : count_found ws ≡ suc r = ap count_found is ∙ count_set vs k c none in
    let all : AreGiven around (known_after r around env gs) gs ws = λ j x d i l.
    ⊎_elim (λ p. subst (λ y. IsGiven around (known_after r around env gs) x y) (sym (same_Some d c p.1)) (subst (λ y. IsGiven around (known_after r around env gs) y c) (same_Some g x (sym at ∙ ap (slice_get gs) (sym p.0) ∙ i)) now)) (λ e. h.given j x d i e)
    (set_cases vs k (Some c) j (Some d) (ap (λ z. slice_get z j) (sym is) ∙ l)) in
    record {
      named = named;
      below = subst (λ n. Below (found_names gs ws env) (known_after n around env gs)) (sym count) (found_below around env (known_after r around env gs) gs ws all);
      given = subst (λ n. AreGiven around (known_after n around env gs) gs ws) (sym count) (given_up around (known_after r around env gs) (known_after (suc r) around env gs) gs ws (round_below around env gs r) all);
    }

-- the element of a number
record IsThere (gs : List Given) (k : ℕ) : Type 0 where
  pub element : Given
  pub there : slice_get gs k ≡ Some element

there : (gs : List Given) (k : ℕ) → k < length gs → IsThere gs k
there [] k h = absurd (omega (arith, h))
there (g ∷ gs) zero h = record { element = g; there = refl }
there (g ∷ gs) (suc k) h =
    let rest = there gs k (omega (arith, h)) in
    record { element = rest.element; there = rest.there }

-- the value that is found next
pub found_then : (around env : Environment) (outward : Bindings) (gs : List Given) (vs ws : List (Option Const)) (known new : Bindings) (k : ℕ) (c : Const) → IsNext around (meaning_of (known ++ outward)) gs vs k c → ws ≡ set vs k (Some c) →
    AreNamed outward env gs ws new → AreFound around env outward gs vs known → AreFound around env outward gs ws new
found_then around env outward gs vs ws known new k c n is named h =
    let g = there gs k n.within in
    found_more around env outward gs vs ws known new k g.element c h g.there n.new (n.given g.element g.there) is named

-- ---- before the first value

none_found : (gs : List Given) (n : ℕ) (env : Environment) (m : List ℕ) → found_names gs (replicate n None) env m ≡ with_given (λ g. Pending) gs env m
none_found [] n env m = refl
none_found (g ∷ gs) zero env m = ap (cond (bytes_eq m g.0.name) (Some Pending)) (none_found gs zero env m)
none_found (g ∷ gs) (suc n) env m = ap (cond (bytes_eq m g.0.name) (Some Pending)) (none_found gs n env m)

none_counted : (n : ℕ) → count_found (replicate n None) ≡ 0
none_counted zero = refl
none_counted (suc n) = none_counted n

none_there : (n k : ℕ) (c : Const) → slice_get (replicate n None) k ≡ Some (Some c) → ⊥
none_there zero k c h = none-some (Some c) h
none_there (suc n) zero c h = none-some c (same_Some None (Some c) h)
none_there (suc n) (suc k) c h = none_there n k c h

-- names outward of those of parameters
with_outward : (f : Given → Binding) (gs : List Given) (own outer : Bindings) (n : List ℕ) → first_of (with_given f gs (meaning_of own) n) (meaning_of outer n) ≡ with_given f gs (meaning_of (own ++ outer)) n
with_outward f [] own outer n = sym (meaning_of-append own outer n)
with_outward f (g ∷ gs) own outer n = by (bytes_eq n g.0.name) (with_outward f gs own outer n)
  where
    by : (t : Bool) → first_of (with_given f gs (meaning_of own) n) (meaning_of outer n) ≡ with_given f gs (meaning_of (own ++ outer)) n →
        first_of (cond t (Some (f g)) (with_given f gs (meaning_of own) n)) (meaning_of outer n) ≡ cond t (Some (f g)) (with_given f gs (meaning_of (own ++ outer)) n)
    by true h = refl
    by false h = h

pub found_none : (around : Environment) (outer old new : Bindings) (gs : List Given) (vs : List (Option Const)) (n : ℕ) → vs ≡ replicate n None → ((m : List ℕ) → meaning_of new m ≡ with_given (λ g. Pending) gs (meaning_of old) m) →
    AreFound around (meaning_of (old ++ outer)) outer gs vs new
found_none around outer old new gs vs n is pending =
    let env : Environment = meaning_of (old ++ outer) in
    let start : (m : List ℕ) → found_names gs vs env m ≡ with_given (λ g. Pending) gs env m = λ m. ap (λ z. found_names gs z env m) is ∙ none_found gs n env m in
    let count : count_found vs ≡ 0 = ap count_found is ∙ none_counted n in
    record {
      named = λ m. meaning_of-append new outer m ∙ ap (λ o. first_of o (meaning_of outer m)) (pending m) ∙ with_outward (λ g. Pending) gs old outer m ∙ sym (start m);
      below = subst (λ k. Below (found_names gs vs env) (known_after k around env gs)) (sym count) (λ m. inl (start m));
      given = λ k g c i j. absurd (none_there n k c (ap (λ z. slice_get z k) (sym is) ∙ j));
    }

-- ---- names of the values that are found

found_other : (gs : List Given) (vs : List (Option Const)) (k : ℕ) (v : Option Const) (env : Environment) (n : List ℕ) (g : Given) → slice_get gs k ≡ Some g → bytes_eq n g.0.name ≡ false →
    found_names gs (set vs k v) env n ≡ found_names gs vs env n
found_other [] vs k v env n g at other = refl
found_other (x ∷ gs) [] k v env n g at other = refl
found_other (x ∷ gs) (w ∷ vs) zero v env n g at other =
    let no : bytes_eq n x.0.name ≡ false = ap (λ (z : Given). bytes_eq n z.0.name) (same_Some x g at) ∙ other in
    rw no refl
found_other (x ∷ gs) (w ∷ vs) (suc k) v env n g at other = ap (cond (bytes_eq n x.0.name) (Some (as_found w))) (found_other gs vs k v env n g at other)

number_suc : (o : Option ℕ) (k : ℕ) → is_number (option_map (λ j. suc j) o) (suc k) ≡ is_number o k
number_suc None k = refl
number_suc (Some j) k =
    same_from_decides (suc j == suc k) (j == k) ((λ h. let e : suc j ≡ suc k = eqb-true (suc j) (suc k) h in omega arith), (λ (e : j ≡ k). eq-eqb (suc j) (suc k) (ap suc e))) (Decides-eqb j k)

number_zero : (o : Option ℕ) → is_number (option_map (λ j. suc j) o) 0 ≡ false
number_zero None = refl
number_zero (Some j) = eqb-suc-zero j

-- the first parameter of a name gets its value
found_first : (gs : List Given) (vs : List (Option Const)) (k : ℕ) (c : Const) (env : Environment) (n : List ℕ) → k < length vs → is_number (number_of gs n) k ≡ true → found_names gs (set vs k (Some c)) env n ≡ Some (Constant c)
found_first [] vs k c env n within first = absurd (true≢false (sym first))
found_first (g ∷ gs) [] k c env n within first = absurd (omega (arith, within))
found_first (g ∷ gs) (v ∷ vs) k c env n within first = by (bytes_eq n g.0.name) k within first (found_first gs vs) refl
  where
    by : (t : Bool) (k : ℕ) → k < length (v ∷ vs) → is_number (cond t (Some 0) (option_map (λ j. suc j) (number_of gs n))) k ≡ true →
        ((k : ℕ) (c : Const) (env : Environment) (n : List ℕ) → k < length vs → is_number (number_of gs n) k ≡ true → found_names gs (set vs k (Some c)) env n ≡ Some (Constant c)) →
        bytes_eq n g.0.name ≡ t → found_names (g ∷ gs) (set (v ∷ vs) k (Some c)) env n ≡ Some (Constant c)
    by true zero w f rest e = rw e refl
    by true (suc k) w f rest e = absurd (true≢false (sym f ∙ eqb-zero-suc k))
    by false zero w f rest e = absurd (true≢false (sym f ∙ number_zero (number_of gs n)))
    by false (suc k) w f rest e = rw e (rest k c env n (omega (arith, w)) (sym (number_suc (number_of gs n) k) ∙ f))

-- another parameter of that name leaves it
found_later : (gs : List Given) (vs : List (Option Const)) (k : ℕ) (v : Option Const) (env : Environment) (n : List ℕ) (g : Given) → slice_get gs k ≡ Some g → bytes_eq n g.0.name ≡ true → is_number (number_of gs n) k ≡ false →
    found_names gs (set vs k v) env n ≡ found_names gs vs env n
found_later [] vs k v env n g at same other = refl
found_later (x ∷ gs) [] k v env n g at same other = refl
found_later (x ∷ gs) (w ∷ vs) k v env n g at same other = by (bytes_eq n x.0.name) k at other (λ j i o. found_later gs vs j v env n g i same o) refl
  where
    by : (t : Bool) (k : ℕ) → slice_get (x ∷ gs) k ≡ Some g → is_number (cond t (Some 0) (option_map (λ j. suc j) (number_of gs n))) k ≡ false →
        ((j : ℕ) → slice_get gs j ≡ Some g → is_number (number_of gs n) j ≡ false → found_names gs (set vs j v) env n ≡ found_names gs vs env n) → bytes_eq n x.0.name ≡ t → found_names (x ∷ gs) (set (w ∷ vs) k v) env n ≡ found_names (x ∷ gs) (w ∷ vs) env n
    by true zero at f rest e = absurd (true≢false f)
    by true (suc k) at f rest e = rw e refl
    by false zero at f rest e = absurd (true≢false (sym same ∙ ap (λ (z : Given). bytes_eq n z.0.name) (sym (same_Some x g at)) ∙ e))
    by false (suc k) at f rest e = rw e (rest k at (sym (number_suc (number_of gs n) k) ∙ f))

-- names with the value of one parameter more: its name is bound to it where it is the first one
pub named_first : (outward : Bindings) (env : Environment) (gs : List Given) (vs ws : List (Option Const)) (known new : Bindings) (k : ℕ) (g : Given) (c : Const) → slice_get gs k ≡ Some g → k < length vs → is_number (number_of gs g.0.name) k ≡ true → ws ≡ set vs k (Some c) →
    Binds known new g.0.name (Constant c) → AreNamed outward env gs vs known → AreNamed outward env gs ws new
named_first outward env gs vs ws known new k g c at within first is binds h n =
    ap (λ (z : Environment). z n) (bound_under known new outward g.0.name c binds) ∙ ap (λ t. cond t (Some (Constant c)) (meaning_of (known ++ outward) n)) (bytes_eq-sym g.0.name n) ∙ by (bytes_eq n g.0.name) refl ∙ sym (ap (λ z. found_names gs z env n) is)
  where
    by : (t : Bool) → bytes_eq n g.0.name ≡ t → cond t (Some (Constant c)) (meaning_of (known ++ outward) n) ≡ found_names gs (set vs k (Some c)) env n
    by true e =
        let same : n ≡ g.0.name = (bytes_eq-Decides n g.0.name).0 e in
        sym (found_first gs vs k c env n within (ap (λ z. is_number (number_of gs z) k) same ∙ first))
    by false e = h n ∙ sym (found_other gs vs k (Some c) env n g at e)

pub named_later : (outward : Bindings) (env : Environment) (gs : List Given) (vs ws : List (Option Const)) (known new : Bindings) (k : ℕ) (g : Given) (c : Const) → slice_get gs k ≡ Some g → is_number (number_of gs g.0.name) k ≡ false → ws ≡ set vs k (Some c) →
    known ≡ new → AreNamed outward env gs vs known → AreNamed outward env gs ws new
named_later outward env gs vs ws known new k g c at later is same h n =
    ap (λ (z : Bindings). meaning_of (z ++ outward) n) (sym same) ∙ h n ∙ sym (by (bytes_eq n g.0.name) refl) ∙ sym (ap (λ z. found_names gs z env n) is)
  where
    by : (t : Bool) → bytes_eq n g.0.name ≡ t → found_names gs (set vs k (Some c)) env n ≡ found_names gs vs env n
    by true e =
        let named : n ≡ g.0.name = (bytes_eq-Decides n g.0.name).0 e in
        found_later gs vs k (Some c) env n g at e (ap (λ z. is_number (number_of gs z) k) named ∙ later)
    by false e = found_other gs vs k (Some c) env n g at e
