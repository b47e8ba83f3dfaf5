-- Values of parameters, from what is computed of them.
use Rattle.std.proofs.Common.{◌≡◌, ℕ, ◌+◌, ◌-◌, ◌<◌, ◌≤◌, Bool, true, false, true≢false, ◌||◌, cond, max, is_some, List, [], ◌∷◌, ◌++◌, Option, Some, None, length, take, drop, replicate, get_or, refl, ap, ap₂, sym, subst, ◌∙◌, arith, Bor}
use Rattle.std.specs.Str.{bytes_eq}
use Rattle.std.proofs.Math.Path.{fun_ext}
use Rattle.std.proofs.lemmas.List.{append-nil}
use Rattle.vs_design.specs.vs_logic4.specs.declared.digit.Digit.{Digit}
use Rattle.vs_design.specs.vs_logic4.specs.Vectors.{resized, extension_digit}
use Rattle.vs_syntax.specs.declared.tree.Expr.{Expr}
use Rattle.vs_syntax.specs.declared.tree.Connections.{Connections}
use Rattle.vs_syntax.specs.declared.tree.Module.{Module}
use Rattle.vs_syntax.specs.declared.tree.Range.{Range}
use Rattle.vs_design.specs.declared.range.BitRange.{BitRange}
use Rattle.vs_design.specs.declared.signal.Bounds.{Bounds}
use Rattle.vs_scopes.specs.vs_widths.specs.declared.shape.Shape.{Shape}
use Rattle.vs_scopes.specs.vs_widths.specs.declared.bindings.Binding.TheVariants.{Constant}
use Rattle.vs_scopes.specs.vs_widths.specs.declared.constants.Const.{Const}
use Rattle.vs_scopes.specs.vs_widths.specs.declared.faults.WidthReason.{WidthReason}
use Rattle.vs_scopes.specs.vs_widths.specs.declared.faults.WidthFault.{WidthFault}
use Rattle.vs_scopes.specs.vs_widths.specs.declared.faults.WidthFault.TheVariants as f
use Rattle.vs_scopes.specs.vs_widths.specs.Environment.{Environment}
use Rattle.vs_scopes.specs.vs_widths.specs.Findings.{Finding, Has, Lacks, Refuses, has_width_fault, alone}
use Rattle.vs_scopes.specs.vs_widths.specs.Meants.{Meant, own}
use Rattle.vs_scopes.specs.vs_widths.specs.Selects.{size_found}
use Rattle.vs_scopes.specs.vs_widths.specs.Constants.{where_none, constant_finding, constant_in}
use Rattle.vs_widths.specs.Expressions.{meant}
use Rattle.vs_widths.specs.Names.{meaning_of, by_bytes, Binds}
use Rattle.vs_widths.proofs.AimLemmas.{stands_alone as stands_too}
use Rattle.vs_scopes.specs.declared.sizes.Size.{Size}
use Rattle.vs_scopes.specs.declared.faults.BodyFault.{BodyFault}
use Rattle.vs_scopes.specs.declared.faults.Reason.{Reason}
use Rattle.vs_scopes.specs.declared.faults.Reason.TheVariants.{Width}
use Rattle.vs_scopes.specs.declared.faults.ParameterRefusal.{ParameterRefusal}
use Rattle.vs_scopes.specs.declared.faults.ParameterRefusal.TheVariants as r
use Rattle.vs_elab_constants.specs.declared.evaluating.Taking.{Taking}
use Rattle.vs_elab_constants.specs.declared.evaluating.Taking.TheVariants.{TheSize, Shaped}
use Rattle.vs_scopes.specs.Ranges.{sized_as}
use Rattle.vs_scopes.specs.Parameters.{Parameter, parameters_of, parameters_among, Given, given_from, given_to, overriding, is_override_mismatch, takes_by, vector_takes, takes_fault, sign_found, own_fault, outer_fault, own_faults, outer_faults, constants_of, known_in_module, with_constant}
use Rattle.vs_scopes.specs.Ports.{ModulePort, ports_of}
use Rattle.vs_scopes.specs.scopes_passes.Answers.{Refuses as RefusesBody}
use Rattle.vs_scopes.specs.scopes_passes.Sizes.{width_faults, IsSize}
use Rattle.vs_scopes.specs.scopes_passes.Declared.{first_of}
use Rattle.vs_elab_constants.specs.passes.Early.{AreEarly}
use Rattle.vs_elab_constants.specs.passes.Values.{constant_as, IsTaking, IsGivenBy, IsGiven, RefusesValues, AddsConstants, BindsConstants, AreValues, AreNoValues, early_inside, block_faults, AreBlockValues}
use Rattle.vs_elab_constants.specs.declared.evaluating.ParameterValues.{ParameterValues}
use Rattle.vs_scopes.specs.Pieces.{Piece, pieces_of}
use Rattle.vs_scopes.specs.Declarations.{Bindings, valueless_of, early_names}
use Rattle.vs_scopes.specs.Scopes.{nowhere, outward, early, block_given, with_constants}
use Rattle.vs_scopes.proofs.DeclaredLemmas.{first_none, said_first, meaning_of-append}
use Rattle.vs_scopes.proofs.PassLemmas.{map_at, moved_by}
use Rattle.std.proofs.lemmas.Bool.{or_from as both_false, or_left as left_true, or_right as right_true}

-- ---- what a parameter takes

pub vector_taken : (env : Environment) (signed : Bool) (o : Option Range) (s : Size) → is_some o ≡ true → ((q : Reason) → width_faults (sized_as env signed 0 o).faults q ≡ false) × IsSize (sized_as env signed 0 o) s → IsTaking (vector_takes env signed o) (Shaped s)
vector_taken env signed None s h k = absurd (true≢false (sym h))
vector_taken env signed (Some r) s h k = record { sound = λ w. k.0 (Width w); same = λ m. ap₂ (λ (z : Shape) (b : Option Bounds). constant_as (Shaped (record { shape = z; bounds = b })) m) k.1.shape k.1.bounds }

pub vector_refused : (env : Environment) (signed : Bool) (o : Option Range) (e : BodyFault) → is_some o ≡ true → RefusesBody (width_faults (sized_as env signed 0 o).faults) e → RefusesBody (width_faults (λ w. takes_fault w (vector_takes env signed o))) e
vector_refused env signed None e h k = absurd (true≢false (sym h))
vector_refused env signed (Some r) e h k = k

-- ---- what an expression gives

pub refused_too : (m : Meant) (e : WidthFault) → Refuses m.finding e → Refuses (constant_finding m) e
refused_too m f.Memory h = tt
refused_too m (f.Refused r) h = stands_too (where_none m.reads) m.finding r h

pub cut : (w : ℕ) (v : List Digit) → w ≤ length v → resized false w v ≡ take w v
cut w v h =
    let none : w - length v ≡ 0 = omega arith in
    ap (λ n. take w v ++ replicate n (extension_digit false v)) none ∙ append-nil (take w v)

-- a value at the larger size, cut to that of the parameter
pub shaped_is : (m : Meant) (s : Size) (size w : ℕ) (signed : Bool) (v r : List Digit) → ((q : WidthReason) → has_width_fault q (constant_finding m) ≡ false) → m.finding ≡ Has size signed → w ≡ max s.shape.width size →
    m.at [] 0 w signed ≡ v → length v ≡ w → r ≡ resized false s.shape.width v → IsGivenBy (Shaped s) m (constant_in s.bounds s.shape.signed r)
shaped_is m s size w signed v r sound has wide at long given =
    let n = s.shape.width in
    let fits : s.shape.width ≤ length v = omega (arith, wide, long) in
    let K : List Digit → Const = constant_in s.bounds s.shape.signed in
    let A : ℕ → Bool → Const = λ k g. K (take n (m.at [] 0 k g)) in
    record {
      sound = sound;
      value = ap K (given ∙ cut n v fits) ∙ ap (λ z. K (take n z)) (sym at) ∙ ap₂ A (wide ∙ ap (λ z. max n (size_found z)) (sym has)) (ap sign_found (sym has));
    }

none_read : (reads : List BitRange) (found : Finding) (size : ℕ) (signed : Bool) → alone (where_none reads) found ≡ Has size signed → sign_found found ≡ signed
none_read [] (Has width sign) size signed h = ap sign_found h
none_read (r ∷ rs) (Has width sign) size signed h = cc
none_read rs (Lacks faults) size signed h = cc

-- a value with its own size
pub sized_is : (m : Meant) (g : Bool) (c : Const) → constant_finding m ≡ Has (length c.value) c.signed → own m [] 0 ≡ c.value → IsGivenBy (TheSize g) m (constant_in None (g || c.signed) c.value)
sized_is m g c has at =
    let sign : sign_found m.finding ≡ c.signed = none_read m.reads m.finding (length c.value) c.signed has in
    let K : List Digit → Bool → Const = λ z t. constant_in None (g || t) z in
    record { sound = λ w. ap (has_width_fault w) has; value = ap₂ K (sym at) (sym sign) }

-- ---- one parameter after another

-- what names are bound to behind one that is bound to a constant, with those outward
first_cond : {A : Type 0} (t : Bool) (x : A) (o p : Option A) → first_of (cond t (Some x) o) p ≡ cond t (Some x) (first_of o p)
first_cond true x o p = refl
first_cond false x o p = refl

pub bound_under : (old known outer : Bindings) (n : List ℕ) (c : Const) → Binds old known n (Constant c) → meaning_of (known ++ outer) ≡ with_constant (meaning_of (old ++ outer)) n c
bound_under old known outer n c h =
    fun_ext (λ k. meaning_of-append known outer k ∙ ap (λ o. first_of o (meaning_of outer k)) (h k) ∙ first_cond (bytes_eq n k) (Constant c) (meaning_of old k) (meaning_of outer k)
    ∙ ap (cond (bytes_eq n k) (Some (Constant c))) (sym (meaning_of-append old outer k)))

-- ---- the parameters of a module

-- what names of a module are bound to before the values are known
pub values_start : (m : Module) (ps : List Parameter) (ports : List ModulePort) (pieces : List Piece) (known : Bindings) → ps ≡ parameters_of m → ports ≡ ports_of m → pieces ≡ pieces_of m.items.items → AreEarly valueless_of ps ports pieces known → meaning_of (known ++ []) ≡ early m
values_start m ps ports pieces known hp hq hr e =
    fun_ext (λ n. ap (λ z. meaning_of z n) (append-nil known) ∙ e n ∙ ap (λ z. meaning_of (early_names valueless_of z ports pieces) n) hp ∙ ap (λ z. meaning_of (early_names valueless_of (parameters_of m) z pieces) n) hq
    ∙ ap (λ z. meaning_of (early_names valueless_of (parameters_of m) (ports_of m) z) n) hr
    ∙ sym (said_first (meaning_of (early_names valueless_of (parameters_of m) (ports_of m) (pieces_of m.items.items)) n) None ∙ first_none (meaning_of (early_names valueless_of (parameters_of m) (ports_of m) (pieces_of m.items.items)) n)))

pub module_given : (o : Option Connections) (m : Module) (ps : List Parameter) (gs : List Given) → ps ≡ parameters_of m → gs ≡ given_from ps (overriding o ps) → gs ≡ given_to o m
module_given o m ps gs hp h = h ∙ ap (λ z. given_from z (overriding o z)) hp

-- the values of the parameters of a module
pub values_are : (around : Environment) (o : Option Connections) (m : Module) (gs : List Given) (v new : ParameterValues) → is_override_mismatch o m ≡ false → gs ≡ given_to o m → v.constants.items ≡ [] → meaning_of (v.known ++ []) ≡ early m → AddsConstants around [] gs v new → AreValues around o m new
values_are around o m gs v new fits fit empty start h =
    record {
      fits = fits;
      outer = λ w. ap (outer_faults w around) (sym fit) ∙ h.outer w;
      own = λ w. ap₂ (own_faults w around) (sym start) (sym fit) ∙ h.own w;
      constants = h.constants ∙ ap (λ z. by_bytes z ++ constants_of around (meaning_of (v.known ++ [])) gs) empty ∙ ap₂ (constants_of around) start fit;
      known = λ n. ap (λ z. meaning_of z n) (sym (append-nil new.known)) ∙ h.known n ∙ ap₂ (λ (z : Environment) (ys : List Given). known_in_module around z ys n) start fit;
    }

pub values_refused : (around : Environment) (o : Option Connections) (m : Module) (gs : List Given) (first : Environment) (e : ParameterRefusal) → gs ≡ given_to o m → first ≡ early m →
    RefusesValues false (λ w. outer_faults w around gs) (λ w. own_faults w around first gs) e → AreNoValues around o m e
values_refused around o m gs first r.Memory fit start h = tt
values_refused around o m gs first r.Mismatch fit start h = absurd (true≢false (sym h))
values_refused around o m gs first (r.Outer w) fit start h = ap (outer_faults w around) (sym fit) ∙ h
values_refused around o m gs first (r.Own w) fit start h = ap₂ (own_faults w around) (sym start) (sym fit) ∙ h

-- ---- the parameters of a block

-- what names are bound to in a block before the values of its parameters are known
pub block_start : (outer : Bindings) (cs : List (List ℕ × Const)) (qs : List Parameter) (ps : List Piece) (first v : ParameterValues) → qs ≡ parameters_among ps → AreEarly valueless_of qs [] ps first.known → BindsConstants cs first v → meaning_of (v.known ++ outer) ≡ early_inside outer cs ps
block_start outer cs qs ps first v hq e b =
    let start : meaning_of (first.known ++ outer) ≡ outward (early_names valueless_of (parameters_among ps) [] ps) (meaning_of outer) =
    fun_ext (λ n. meaning_of-append first.known outer n ∙ ap (λ o. first_of o (meaning_of outer n)) (e n ∙ ap (λ z. meaning_of (early_names valueless_of z [] ps) n) hq) ∙ sym (said_first (meaning_of (early_names valueless_of (parameters_among ps) [] ps) n) (meaning_of outer n))) in
    b.known outer ∙ ap (λ z. with_constants z cs) start

-- the values of the parameters of a block
pub block_are : (outer : Bindings) (cs : List (List ℕ × Const)) (ps : List Piece) (gs : List Given) (first v new : ParameterValues) → gs ≡ block_given ps → first.constants.items ≡ [] → BindsConstants cs first v → meaning_of (v.known ++ outer) ≡ early_inside outer cs ps →
    AddsConstants nowhere outer gs v new → AreBlockValues outer cs ps new
block_are outer cs ps gs first v new fit empty b start h =
    record {
      own = λ w. ap₂ (own_faults w nowhere) (sym start) (sym fit) ∙ h.own w;
      constants = h.constants ∙ ap (λ z. z ++ constants_of nowhere (meaning_of (v.known ++ outer)) gs) (b.constants ∙ ap (λ z. by_bytes z ++ cs) empty) ∙ ap (λ z. cs ++ z) (ap₂ (constants_of nowhere) start fit);
      known = λ n. h.known n ∙ ap₂ (λ (z : Environment) (ys : List Given). known_in_module nowhere z ys n) start fit;
    }

-- parameters that nothing overrides have no fault around their module
pub none_outer : (w : WidthReason) (around : Environment) (qs : List Parameter) → outer_faults w around (given_from qs []) ≡ false
none_outer w around [] = refl
none_outer w around (q ∷ qs) = by q.fixed (none_outer w around qs)
  where
    by : (t : Bool) → outer_faults w around (given_from qs []) ≡ false → outer_faults w around (cond t ((q, None) ∷ given_from qs []) ((q, None) ∷ given_from qs [])) ≡ false
    by true rest = rest
    by false rest = rest

pub block_refused : (outer : Bindings) (cs : List (List ℕ × Const)) (ps : List Piece) (gs : List Given) (first : Environment) (e : ParameterRefusal) → gs ≡ block_given ps → first ≡ early_inside outer cs ps →
    RefusesValues false (λ w. outer_faults w nowhere gs) (λ w. own_faults w nowhere first gs) e → RefusesValues false (λ w. false) (block_faults outer cs ps) e
block_refused outer cs ps gs first r.Memory fit start h = tt
block_refused outer cs ps gs first r.Mismatch fit start h = h
block_refused outer cs ps gs first (r.Outer w) fit start h = absurd (true≢false (sym h ∙ ap (outer_faults w nowhere) fit ∙ none_outer w nowhere (parameters_among ps)))
block_refused outer cs ps gs first (r.Own w) fit start h = ap₂ (own_faults w nowhere) (sym start) (sym fit) ∙ h

-- ---- constants that are known

module _ (cs : List (Bor (List ℕ) × Const)) (i : ℕ) (x : Bor (List ℕ) × Const) (h : i < length cs) (k : x ≡ get_or cs i x) where
  one : by_bytes (drop i cs) ≡ (x.0.now, x.1) ∷ by_bytes (drop (i + 1) cs)
  one = map_at (λ (e : Bor (List ℕ) × Const). (e.0.now, e.1)) cs i x h k

  pub listed_on : (before after whole : List (List ℕ × Const)) → after ≡ before ++ (x.0.now, x.1) ∷ [] → before ++ by_bytes (drop i cs) ≡ whole → after ++ by_bytes (drop (i + 1) cs) ≡ whole
  listed_on before after whole e f = moved_by before after ((x.0.now, x.1) ∷ []) (by_bytes (drop i cs)) (by_bytes (drop (i + 1) cs)) whole e one f

  pub bound_on : (old known outer : Bindings) (whole : Environment) → Binds old known x.0.now (Constant x.1) → with_constants (meaning_of (old ++ outer)) (by_bytes (drop i cs)) ≡ whole → with_constants (meaning_of (known ++ outer)) (by_bytes (drop (i + 1) cs)) ≡ whole
  bound_on old known outer whole b f =
      ap (λ z. with_constants z (by_bytes (drop (i + 1) cs))) (bound_under old known outer x.0.now x.1 b) ∙ sym (ap (with_constants (meaning_of (old ++ outer))) one) ∙ f

-- ---- refusals

pub refuses_own : (around env : Environment) (p : Parameter) (o : Option Expr) (e : ParameterRefusal) → o ≡ None → RefusesValues false (λ w. false) (λ w. has_width_fault w (constant_finding (meant env p.value))) e → RefusesValues false (λ w. outer_fault w around (p, o)) (λ w. own_fault w env (p, o)) e
refuses_own around env p o e h k = subst (λ z. RefusesValues false (λ w. outer_fault w around (p, z)) (λ w. own_fault w env (p, z)) e) (sym h) (by e k)
  where
    by : (q : ParameterRefusal) → RefusesValues false (λ w. false) (λ w. has_width_fault w (constant_finding (meant env p.value))) q → RefusesValues false (λ w. outer_fault w around (p, None)) (λ w. own_fault w env (p, None)) q
    by r.Memory x = tt
    by r.Mismatch x = x
    by (r.Outer w) x = absurd (true≢false (sym x))
    by (r.Own w) x = right_true _ _ x

pub refuses_outer : (around env : Environment) (p : Parameter) (o : Option Expr) (y : Expr) (e : ParameterRefusal) → o ≡ Some y → RefusesValues false (λ w. has_width_fault w (constant_finding (meant around y))) (λ w. false) e → RefusesValues false (λ w. outer_fault w around (p, o)) (λ w. own_fault w env (p, o)) e
refuses_outer around env p o y e h k = subst (λ z. RefusesValues false (λ w. outer_fault w around (p, z)) (λ w. own_fault w env (p, z)) e) (sym h) (by e k)
  where
    by : (q : ParameterRefusal) → RefusesValues false (λ w. has_width_fault w (constant_finding (meant around y))) (λ w. false) q → RefusesValues false (λ w. outer_fault w around (p, Some y)) (λ w. own_fault w env (p, Some y)) q
    by r.Memory x = tt
    by r.Mismatch x = x
    by (r.Outer w) x = x
    by (r.Own w) x = absurd (true≢false (sym x))

-- a fault of what is said of a parameter
pub refuses_taking : (around env : Environment) (p : Parameter) (o : Option Expr) (e : ParameterRefusal) → RefusesValues false (λ w. false) (λ w. takes_fault w (takes_by env p.form)) e → RefusesValues false (λ w. outer_fault w around (p, o)) (λ w. own_fault w env (p, o)) e
refuses_taking around env p o r.Memory h = tt
refuses_taking around env p o r.Mismatch h = h
refuses_taking around env p o (r.Outer w) h = absurd (true≢false (sym h))
refuses_taking around env p None (r.Own w) h = left_true _ _ h
refuses_taking around env p (Some y) (r.Own w) h = h

-- ---- what a parameter is

pub given_own : (around env : Environment) (p : Parameter) (o : Option Expr) (t : Taking) (c : Const) → o ≡ None → IsTaking (takes_by env p.form) t → IsGivenBy t (meant env p.value) c → IsGiven around env (p, o) c
given_own around env p o t c h k m = subst (λ z. IsGiven around env (p, z) c) (sym h) (record {
  outer = λ w. refl;
  own = λ w. both_false _ _ (k.sound w) (m.sound w);
  value = m.value ∙ k.same (meant env p.value);
})

pub given_outer : (around env : Environment) (p : Parameter) (o : Option Expr) (y : Expr) (t : Taking) (c : Const) → o ≡ Some y → IsTaking (takes_by env p.form) t → IsGivenBy t (meant around y) c → IsGiven around env (p, o) c
given_outer around env p o y t c h k m = subst (λ z. IsGiven around env (p, z) c) (sym h) (record {
  outer = λ w. m.sound w;
  own = λ w. k.sound w;
  value = m.value ∙ k.same (meant around y);
})
