-- Sizes of declarations, from what is computed of them.
use Rattle.std.proofs.Common.{◌≡◌, ℕ, suc, ◌+◌, ◌<◌, ◌≤◌, Bool, true, false, ◌^◌, true≢false, not, nat_lt, min, Option, Some, None, refl, ap, ap₂, sym, subst, ◌∙◌, arith}
use Rattle.std.proofs.Math.Bridge.{le_prop}
use Rattle.std.proofs.lemmas.Bool.{lt-ltb, ltb-true}
use Rattle.vs_syntax.specs.declared.tree.Range.{Range}
use Rattle.vs_design.specs.declared.signal.Bounds.{Bounds}
use Rattle.vs_design.specs.declared.signal.SignalKind.{SignalKind}
use Rattle.vs_design.specs.declared.signal.SignalKind.TheVariants as k
use Rattle.vs_design.specs.Kinds.{is_variable}
use Rattle.vs_widths.specs.declared.shape.Shape.{Shape}
use Rattle.vs_widths.specs.declared.bindings.Meaning.{Meaning}
use Rattle.vs_widths.specs.declared.faults.WidthReason.TheVariants.{TooWide, Unknown, NotConstant, WrongKind}
use Rattle.vs_widths.specs.declared.faults.WidthReason.{WidthReason}
use Rattle.vs_widths.specs.Environment.{Environment}
use Rattle.vs_scopes.specs.declared.faults.Reason.{Reason}
use Rattle.vs_scopes.specs.declared.faults.Reason.TheVariants.{NoModule, Inside, PortMismatch, ParameterMismatch, DeclaredTwice, DrivenTwice, Limit, Endless, Unnamed, Timescales, Format, Width}
use Rattle.vs_scopes.specs.declared.faults.BodyFault.{BodyFault}
use Rattle.vs_scopes.specs.declared.sizes.Size.{Size}
use Rattle.vs_scopes.specs.declared.words.WordCount.{WordCount}
use Rattle.vs_scopes.specs.Ranges.{range_bounds, distance, bounds_fault, range_fault, is_over, shape_with, distance_or, sized_as, is_array_of_nets, words_fault, words_as, word_count}
use Rattle.vs_scopes.specs.scopes_passes.Answers.{Refuses}
use Rattle.vs_scopes.specs.scopes_passes.Sizes.{width_faults, IsSize, AreWords, IsRange}
use Rattle.vs_scopes.proofs.AnswerLemmas.{refused_by}
use Rattle.std.proofs.lemmas.Bool.{or_from as both_false, or_left as left_true, or_right as right_true}

-- ---- shapes

-- shapes of one size and sign are one, whatever shows that they have a size
pub shape_is : (w v : ℕ) (g : Bool) (p : (0 < w) × (w ≤ 64)) (q : (0 < v) × (v ≤ 64)) → w ≡ v → ◌≡◌ {A = Shape} (record { width = w; signed = g; sized = p }) (record { width = v; signed = g; sized = q })
shape_is w v g p q e =
    let S : (n : ℕ) → (0 < n) → (n ≤ 64) → Shape = λ n x y. record { width = n; signed = g; sized = (x, y) } in
    let Q : ℕ → Type 0 = λ n. (r : (0 < n) × (n ≤ 64)) → ◌≡◌ {A = Shape} (record { width = w; signed = g; sized = p }) (record { width = n; signed = g; sized = r }) in
    subst Q e (λ r. ap₂ (S w) (le_prop p.0 r.0) (le_prop p.1 r.1)) q

-- what names mean is one where its parts are, whatever shows that they have words
pub meaning_is : (kind : SignalKind) (s t : Shape) (b c w x : Option Bounds) (m n : ℕ) (p : (0 < m) × (m ≤ 2 ^ 16)) (q : (0 < n) × (n ≤ 2 ^ 16)) → s ≡ t → b ≡ c → w ≡ x → m ≡ n →
    ◌≡◌ {A = Meaning} (record { kind = kind; shape = s; bits = b; words = w; count = m; counted = p }) (record { kind = kind; shape = t; bits = c; words = x; count = n; counted = q })
meaning_is kind s t b c w x m n p q e f g h =
    let M : (i : ℕ) → (0 < i) → (i ≤ 2 ^ 16) → Meaning = λ i y z. record { kind = kind; shape = t; bits = c; words = x; count = i; counted = (y, z) } in
    let Q : ℕ → Type 0 = λ i. (r : (0 < i) × (i ≤ 2 ^ 16)) → ◌≡◌ {A = Meaning} (M m p.0 p.1) (M i r.0 r.1) in
    let S : Shape → Meaning = λ z. record { kind = kind; shape = z; bits = b; words = w; count = m; counted = p } in
    let B : Option Bounds → Meaning = λ z. record { kind = kind; shape = t; bits = z; words = w; count = m; counted = p } in
    let W : Option Bounds → Meaning = λ z. record { kind = kind; shape = t; bits = c; words = z; count = m; counted = p } in
    ap S e ∙ ap B f ∙ ap W g ∙ subst Q h (λ r. ap₂ (M m) (le_prop p.0 r.0) (le_prop p.1 r.1)) q

-- ---- sizes

-- faults of sizes, where none of them stands
pub no_faults : (faults : WidthReason → Bool) → ((w : WidthReason) → faults w ≡ false) → (r : Reason) → width_faults faults r ≡ false
no_faults faults h (Width w) = h w
no_faults faults h NoModule = refl
no_faults faults h Inside = refl
no_faults faults h PortMismatch = refl
no_faults faults h ParameterMismatch = refl
no_faults faults h DeclaredTwice = refl
no_faults faults h DrivenTwice = refl
no_faults faults h Endless = refl
no_faults faults h Unnamed = refl
no_faults faults h Timescales = refl
no_faults faults h (Format wrong) = refl
no_faults faults h Limit = refl

-- a fault of a part of a size is one of the whole
pub width_refused : (part whole : WidthReason → Bool) (f : BodyFault) → ((w : WidthReason) → part w ≡ true → whole w ≡ true) → Refuses (width_faults part) f → Refuses (width_faults whole) f
width_refused part whole f more h = refused_by (width_faults part) (width_faults whole) f by h
  where
    by : (q : Reason) → width_faults part q ≡ true → width_faults whole q ≡ true
    by (Width w) k = more w k
    by NoModule k = k
    by Inside k = k
    by PortMismatch k = k
    by ParameterMismatch k = k
    by DeclaredTwice k = k
    by DrivenTwice k = k
    by Endless k = k
    by Unnamed k = k
    by Timescales k = k
    by (Format wrong) k = k
    by Limit k = k

module _ (env : Environment) (signed : Bool) (n : ℕ) (o : Option Range) where
  pub size_ranged : (r : Range) (b : Bounds) (width : ℕ) (s : Size) → o ≡ Some r → ((q : Reason) → width_faults (λ w. range_fault w env (Some r)) q ≡ false) × IsRange env r (b, width) →
      s.shape.width ≡ width → s.shape.signed ≡ signed → s.bounds ≡ Some b →
      ((q : Reason) → width_faults (sized_as env signed n o).faults q ≡ false) × IsSize (sized_as env signed n o) s
  size_ranged r b width s i h k m q =
      let found : range_bounds env o ≡ Some b = ap (range_bounds env) i ∙ h.1.found in
      let wide : s.shape.width ≡ suc (min (distance b) 63) = omega (arith, k, h.1.size, h.1.narrow) in (
        no_faults (sized_as env signed n o).faults (λ w. ap (range_fault w env) i ∙ h.0 (Width w)),
        record {
          shape = shape_is s.shape.width (suc (min (distance b) 63)) s.shape.signed s.shape.sized (shape_with (distance b) true).sized wide ∙ ap (shape_with (distance b)) m ∙ ap (λ z. shape_with (distance_or n z) signed) (sym found);
          bounds = q ∙ sym found;
        },
      )

  pub size_plain : (s : Size) → n < 64 → o ≡ None → s.shape.width ≡ n + 1 → s.shape.signed ≡ signed → s.bounds ≡ None →
      ((q : Reason) → width_faults (sized_as env signed n o).faults q ≡ false) × IsSize (sized_as env signed n o) s
  size_plain s l i k m q =
      let wide : s.shape.width ≡ suc (min n 63) = omega (arith, k, l) in (
        no_faults (sized_as env signed n o).faults (λ w. ap (range_fault w env) i),
        record {
          shape = shape_is s.shape.width (suc (min n 63)) s.shape.signed s.shape.sized (shape_with n true).sized wide ∙ ap (shape_with n) m ∙ ap (λ z. shape_with (distance_or n (range_bounds env z)) signed) (sym i);
          bounds = q ∙ ap (range_bounds env) (sym i);
        },
      )

-- ---- words

module _ (env : Environment) (kind : SignalKind) where
  -- a signal that is no array
  pub words_none : (w : WordCount) (o : Option Range) → o ≡ None → w.bounds ≡ None → w.count ≡ 1 → ((q : Reason) → words_fault q env kind o ≡ false) × AreWords (words_as env kind o) w
  words_none w o i h k = subst (λ z. ((q : Reason) → words_fault q env kind z ≡ false) × AreWords (words_as env kind z) w) (sym i) (by, record { bounds = h; count = k })
    where
      by : (q : Reason) → words_fault q env kind None ≡ false
      by (Width v) = refl
      by Limit = refl
      by NoModule = refl
      by Inside = refl
      by PortMismatch = refl
      by ParameterMismatch = refl
      by DeclaredTwice = refl
      by DrivenTwice = refl
      by Endless = refl
      by Unnamed = refl
      by Timescales = refl
      by (Format wrong) = refl

  module _ (r : Range) (o : Option Range) (i : o ≡ Some r) where
    -- a fault of a bound
    pub words_refused : (f : BodyFault) → Refuses (width_faults (λ w. bounds_fault w env r)) f → Refuses (words_as env kind o).faults f
    words_refused f h = subst (λ z. Refuses (words_as env kind z).faults f) (sym i) (refused_by (width_faults (λ w. bounds_fault w env r)) (words_as env kind (Some r)).faults f by h)
      where
        by : (q : Reason) → width_faults (λ w. bounds_fault w env r) q ≡ true → words_fault q env kind (Some r) ≡ true
        by (Width w) k = left_true (bounds_fault w env r) _ k
        by Limit k = absurd (true≢false (sym k))
        by NoModule k = k
        by Inside k = k
        by PortMismatch k = k
        by ParameterMismatch k = k
        by DeclaredTwice k = k
        by DrivenTwice k = k
        by Endless k = k
        by Unnamed k = k
        by Timescales k = k
        by (Format wrong) k = k

    -- an array of nets
    pub words_of_net : kind ≡ k.Wire → words_fault (Width WrongKind) env kind o ≡ true
    words_of_net h = ap (words_fault (Width WrongKind) env kind) i ∙ right_true (bounds_fault WrongKind env r) _ (ap (is_array_of_nets WrongKind) h)

    -- too many words
    pub words_over : (b : Bounds) → range_bounds env (Some r) ≡ Some b → 65535 < distance b → words_fault Limit env kind o ≡ true
    words_over b h l = ap (words_fault Limit env kind) i ∙ ap (is_over 65535) h ∙ lt-ltb 65535 (distance b) l

    -- words without faults
    pub words_are : (b : Bounds) (w : WordCount) → is_variable kind ≡ true → ((q : Reason) → width_faults (λ w. bounds_fault w env r) q ≡ false) × (range_bounds env (Some r) ≡ Some b) → distance b ≤ 65535 → w.bounds ≡ Some b → w.count ≡ distance b + 1 →
        ((q : Reason) → words_fault q env kind o ≡ false) × AreWords (words_as env kind o) w
    words_are b w v h l m n = subst (λ z. ((q : Reason) → words_fault q env kind z ≡ false) × AreWords (words_as env kind z) w) (sym i) (by, record { bounds = m ∙ sym h.1; count = count ∙ ap word_count (sym h.1) })
      where
        count : w.count ≡ word_count (Some b)
        count = omega (arith, n, l)

        kinds : (w : WidthReason) → is_array_of_nets w kind ≡ false
        kinds WrongKind = ap not v
        kinds TooWide = refl
        kinds Unknown = refl
        kinds NotConstant = refl

        small : (t : Bool) → nat_lt 65535 (distance b) ≡ t → t ≡ false
        small false e = refl
        small true e = absurd (let over : 65535 < distance b = ltb-true 65535 (distance b) e in omega (arith, over, l))

        by : (q : Reason) → words_fault q env kind (Some r) ≡ false
        by (Width w) = both_false (bounds_fault w env r) _ (h.0 (Width w)) (kinds w)
        by Limit = ap (is_over 65535) h.1 ∙ small (nat_lt 65535 (distance b)) refl
        by NoModule = refl
        by Inside = refl
        by PortMismatch = refl
        by ParameterMismatch = refl
        by DeclaredTwice = refl
        by DrivenTwice = refl
        by Endless = refl
        by Unnamed = refl
        by Timescales = refl
        by (Format wrong) = refl
