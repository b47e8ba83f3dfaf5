-- Names with selects, measured.
use Rattle.std.proofs.Common.{◌≡◌, ℕ, zero, suc, ◌+◌, ◌<◌, Bool, true, false, ◌||◌, ◌⊎◌, inl, inr, List, [], ◌∷◌, ◌++◌, Option, Some, None, Result, length, map, take, get_or, refl, ap, ap₂, sym, subst, ◌∙◌, ⊎_elim, arith}
use Rattle.std.specs.List.{All, list_any}
use Rattle.std.proofs.lemmas.List.{take_more}
use Rattle.std.proofs.lemmas.List.Elements.{All-push}
use Rattle.std.proofs.lemmas.Option.{same_Some}
use Rattle.std.specs.declared.vec.Vec.{Vec}
use Rattle.std.specs.declared.alloc.Global.{Global}
use Rattle.vs_syntax.specs.declared.tree.Expr.{Expr}
use Rattle.vs_syntax.specs.declared.tree.Expr.TheVariants as e
use Rattle.vs_syntax.specs.declared.tree.Expr.TheOpen as x
use Rattle.vs_syntax.specs.declared.tree.Expr.TheShapes.{former-Expr-Select-1, former-Expr-Select-1-at-5}
use Rattle.vs_syntax.specs.declared.tree.PartSelect.{PartSelect}
use Rattle.vs_syntax.specs.declared.tree.PartSelect.TheVariants as p
use Rattle.vs_design.specs.declared.signal.Bounds.{Bounds}
use Rattle.vs_syntax.proofs.Deeper.{or_nil}
use Rattle.vs_widths.specs.declared.shape.Shape.{Shape}
use Rattle.vs_widths.specs.declared.forms.Measured.{Measured}
use Rattle.vs_widths.specs.declared.bindings.Meaning.{Meaning}
use Rattle.vs_widths.specs.declared.bindings.Binding.{Binding}
use Rattle.vs_widths.specs.declared.bindings.Binding.TheVariants.{Signal, Constant, Pending, Other, Genvar}
use Rattle.vs_widths.specs.declared.constants.Const.{Const}
use Rattle.vs_widths.specs.declared.faults.WidthReason.{WidthReason}
use Rattle.vs_widths.specs.declared.faults.WidthFault.{WidthFault}
use Rattle.vs_widths.specs.Environment.{Environment}
use Rattle.vs_widths.specs.Findings.{Has, Lacks, has_width_fault, second, wrong_kind, unknown, not_constant, Refuses}
use Rattle.vs_widths.specs.Meants.{Meant}
use Rattle.vs_widths.specs.Constants.{where_none, constant_finding, natural_of, whole_of, positive}
use Rattle.vs_widths.specs.Selects.{Select, select_has_fault, between, counted, select_span, span_of, constant_span, in_array, of_words, named, select_meant}
use Rattle.vs_widths.specs.select_passes.Measures.{IsMeasured, Measures}
use Rattle.vs_widths.specs.select_passes.Places.{select_meaning, selects_meaning, IsFlexibleSelect}
use Rattle.vs_widths.specs.Expressions.{meant, meant_select, meant_selects}
use Rattle.vs_widths.specs.passes.Selects.{AreMeasured}
use Rattle.vs_widths.proofs.MeasuringLemmas.{form}
use Rattle.std.proofs.lemmas.Bool.{or_right}
use Rattle.vs_widths.proofs.PlaceLemmas.{refused_by}
use Rattle.vs_widths.proofs.AimLemmas.{stands_left, stands_right, stands_alone}
use Rattle.vs_design.specs.vs_logic4.proofs.Basics.{or_parts}

-- ---- faults

constant_stands : (m : Meant) (r : WidthReason) → has_width_fault r m.finding ≡ true → has_width_fault r (constant_finding m) ≡ true
constant_stands m r h = stands_alone (where_none m.reads) m.finding r h

select_stands : (b : Bounds) (size : ℕ) (s : Select) (r : WidthReason) → select_has_fault r s ≡ true → has_width_fault r (select_span b size s).finding ≡ true
select_stands b size (i, None) r h = stands_alone (λ width signed. Has 1 false) i.finding r h
select_stands b size (i, Some (p.Bounds, m)) r h =
    let f = λ (width : ℕ) (signed : Bool) (size : ℕ) (sign : Bool). between b (whole_of i) (whole_of m) in
    ⊎_elim (λ k. stands_left f (constant_finding i) (constant_finding m) r (constant_stands i r k)) (λ k. stands_right f (constant_finding i) (constant_finding m) r (constant_stands m r k))
    (or_parts (has_width_fault r i.finding) (has_width_fault r m.finding) h)
select_stands b size (i, Some (p.Upward, m)) r h =
    let f = λ (n : ℕ) (signed : Bool) (size : ℕ) (sign : Bool). counted (positive (natural_of m)) in
    ⊎_elim (λ k. stands_left f i.finding (constant_finding m) r k) (λ k. stands_right f i.finding (constant_finding m) r (constant_stands m r k))
    (or_parts (has_width_fault r i.finding) (has_width_fault r m.finding) h)
select_stands b size (i, Some (p.Downward, m)) r h =
    let f = λ (n : ℕ) (signed : Bool) (size : ℕ) (sign : Bool). counted (positive (natural_of m)) in
    ⊎_elim (λ k. stands_left f i.finding (constant_finding m) r k) (λ k. stands_right f i.finding (constant_finding m) r (constant_stands m r k))
    (or_parts (has_width_fault r i.finding) (has_width_fault r m.finding) h)

span_stands : (o : Option Bounds) (s : Shape) (ss : List Select) (r : WidthReason) → list_any (select_has_fault r) ss ≡ true → has_width_fault r (span_of o s ss).finding ≡ true
span_stands o s [] r h = cc
span_stands None s (a ∷ ss) r h = or_right (wrong_kind r) (list_any (select_has_fault r) (a ∷ ss)) h
span_stands (Some b) s (a ∷ []) r h = select_stands b s.width a r (or_nil (select_has_fault r a) h)
span_stands (Some b) s (a ∷ c ∷ ss) r h = or_right (wrong_kind r) (list_any (select_has_fault r) (a ∷ c ∷ ss)) h

array_stands : (b : Bounds) (y : Meaning) (signal : ℕ) (ss : List Select) (r : WidthReason) → list_any (select_has_fault r) ss ≡ true → has_width_fault r (in_array b y signal ss).finding ≡ true
array_stands b y signal [] r h = cc
array_stands b y signal ((i, None) ∷ ss) r h =
    let rest = (span_of y.bits y.shape ss).finding in
    ⊎_elim (λ k. stands_left second i.finding rest r k) (λ k. stands_right second i.finding rest r (span_stands y.bits y.shape ss r k))
    (or_parts (has_width_fault r i.finding) (list_any (select_has_fault r) ss) h)
array_stands b y signal ((i, Some m) ∷ ss) r h = or_right (wrong_kind r) (list_any (select_has_fault r) ((i, Some m) ∷ ss)) h

words_stand : (o : Option Bounds) (y : Meaning) (signal : ℕ) (ss : List Select) (r : WidthReason) → list_any (select_has_fault r) ss ≡ true → has_width_fault r (of_words o y signal ss).finding ≡ true
words_stand None y signal ss r h = span_stands y.bits y.shape ss r h
words_stand (Some b) y signal ss r h = array_stands b y signal ss r h

-- a fault of an expression of a select is one of the whole
pub named_stands : (o : Option Binding) (ss : List Select) (r : WidthReason) → list_any (select_has_fault r) ss ≡ true → has_width_fault r (named o ss).finding ≡ true
named_stands None ss r h = or_right (unknown r) (list_any (select_has_fault r) ss) h
named_stands (Some (Signal y signal)) ss r h = words_stand y.words y signal ss r h
named_stands (Some (Constant c)) ss r h = or_right (wrong_kind r) (list_any (select_has_fault r) ss) h
named_stands (Some Pending) ss r h = or_right (not_constant r) (list_any (select_has_fault r) ss) h
named_stands (Some Other) ss r h = or_right (wrong_kind r) (list_any (select_has_fault r) ss) h
named_stands (Some Genvar) ss r h = or_right (wrong_kind r) (list_any (select_has_fault r) ss) h

excerpt_stands : (c : Const) (ss : List Select) (r : WidthReason) → list_any (select_has_fault r) ss ≡ true → has_width_fault r (constant_span c ss).finding ≡ true
excerpt_stands c [] r h = cc
excerpt_stands c (a ∷ []) r h = select_stands c.bits (length c.value) a r (or_nil (select_has_fault r a) h)
excerpt_stands c (a ∷ b ∷ ss) r h = or_right (wrong_kind r) (list_any (select_has_fault r) (a ∷ b ∷ ss)) h

-- a fault of an expression of a select is one of the operand
pub operand_stands : (o : Option Binding) (ss : List Select) (r : WidthReason) → list_any (select_has_fault r) ss ≡ true → has_width_fault r (select_meant o ss).finding ≡ true
operand_stands None ss r h = named_stands None ss r h
operand_stands (Some (Constant c)) ss r h = excerpt_stands c ss r h
operand_stands (Some (Signal y signal)) ss r h = named_stands (Some (Signal y signal)) ss r h
operand_stands (Some Pending) ss r h = named_stands (Some Pending) ss r h
operand_stands (Some Other) ss r h = named_stands (Some Other) ss r h
operand_stands (Some Genvar) ss r h = named_stands (Some Genvar) ss r h

any_in : {A B : Type 0} (f : A → B) (q : B → Bool) (xs : List A) (i : ℕ) (a : A) → i < length xs → a ≡ get_or xs i a → q (f a) ≡ true → list_any q (map f xs) ≡ true
any_in f q [] i a h k l = absurd (omega arith)
any_in f q (y ∷ ys) zero a h k l =
    let here : q (f y) ≡ true = ap (λ z. q (f z)) (sym k) ∙ l in
    rw here refl
any_in f q (y ∷ ys) (suc i) a h k l = or_right (q (f y)) (list_any q (map f ys)) (any_in f q ys i a (omega arith) k l)

-- ---- forms

module _ (env : Environment) where
  layered : (s : Expr × Option (PartSelect × Expr)) → former-Expr-Select-1-at-5.map Expr Meant (meant env) s ≡ meant_select env s
  layered (a, None) = refl
  layered (a, Some (how, m)) = refl

  all_layered : (ss : List (Expr × Option (PartSelect × Expr))) → map (former-Expr-Select-1-at-5.map Expr Meant (meant env)) ss ≡ meant_selects env ss
  all_layered [] = refl
  all_layered (s ∷ ss) = ap₂ (λ a b. a ∷ b) (layered s) (all_layered ss)

  selects_same : (ss : Vec (Expr × Option (PartSelect × Expr)) Global) → (former-Expr-Select-1.map Expr Meant (meant env) ss).items ≡ meant_selects env ss.items
  selects_same ss = all_layered ss.items

  pub meant_Select : (n : Vec ℕ Global) (ss : Vec (Expr × Option (PartSelect × Expr)) Global) → meant env (e.Select n ss) ≡ select_meant (env n.items) (meant_selects env ss.items)
  meant_Select n ss = form env (x.Select n ss) (e.Select n ss) (e.rolls-Select n ss) ∙ ap (select_meant (env n.items)) (selects_same ss)

  -- a fault of an expression of a select
  pub select_refused : (n : Vec ℕ Global) (ss : Vec (Expr × Option (PartSelect × Expr)) Global) (xs : List (Expr × Option (PartSelect × Expr))) (d : WidthFault) → xs ≡ ss.items →
      Refuses (Lacks (λ r. list_any (select_has_fault r) (meant_selects env xs))) d → Refuses (meant env (e.Select n ss)).finding d
  select_refused n ss xs d h k =
      rw meant_Select (refused_by (Lacks (λ r. list_any (select_has_fault r) (meant_selects env ss.items))) (select_meant (env n.items) (meant_selects env ss.items)).finding d
      (operand_stands (env n.items) (meant_selects env ss.items)) (subst (λ z. Refuses (Lacks (λ r. list_any (select_has_fault r) (meant_selects env z))) d) h k))

  -- the whole
  pub place_measures : (n : Vec ℕ Global) (ss : Vec (Expr × Option (PartSelect × Expr)) Global) (o : Option Binding) (name : List ℕ) (xs : List (Expr × Option (PartSelect × Expr))) (ms : List (Measured × Option (PartSelect × Measured))) (r : Result Measured WidthFault) →
      o ≡ env name → name ≡ n.items → xs ≡ ss.items → AreMeasured (meant_selects env xs) ms → Measures (select_meant o (selects_meaning ms)) r → Measures (meant env (e.Select n ss)) r
  place_measures n ss o name xs ms r h k l p q =
      subst (λ z. Measures z r) (ap₂ select_meant (h ∙ ap env k) (p.means ∙ ap (meant_selects env) l) ∙ sym (meant_Select n ss)) q

  -- ---- a loop over selects

  selects_push : (ds : List (Measured × Option (PartSelect × Measured))) (d : Measured × Option (PartSelect × Measured)) → selects_meaning (ds ++ d ∷ []) ≡ selects_meaning ds ++ select_meaning d ∷ []
  selects_push [] d = refl
  selects_push (a ∷ ds) d = ap (λ z. select_meaning a ∷ z) (selects_push ds d)

  meants_push : (xs : List (Expr × Option (PartSelect × Expr))) (a : Expr × Option (PartSelect × Expr)) → meant_selects env (xs ++ a ∷ []) ≡ meant_selects env xs ++ meant_select env a ∷ []
  meants_push [] a = refl
  meants_push (b ∷ xs) a = ap (λ z. meant_select env b ∷ z) (meants_push xs a)

  pub selects_step : (xs : List (Expr × Option (PartSelect × Expr))) (i : ℕ) (a : Expr × Option (PartSelect × Expr)) (ds zs : List (Measured × Option (PartSelect × Measured))) (d : Measured × Option (PartSelect × Measured)) → i < length xs → a ≡ get_or xs i a →
      zs ≡ ds ++ d ∷ [] → AreMeasured (meant_selects env (take i xs)) ds → select_meaning d ≡ meant_select env a → IsFlexibleSelect d → AreMeasured (meant_selects env (take (i + 1) xs)) zs
  selects_step xs i a ds zs d h k l p q g =
      let front : take (i + 1) xs ≡ take i xs ++ a ∷ [] = take_more xs i a h ∙ ap (λ z. take i xs ++ z ∷ []) (sym k) in
      record {
        means = ap selects_meaning l ∙ selects_push ds d ∙ ap₂ (λ u v. u ++ v ∷ []) p.means q ∙ sym (meants_push (take i xs) a) ∙ ap (meant_selects env) (sym front);
        flexible = subst (All IsFlexibleSelect) (sym l) (All-push IsFlexibleSelect ds d p.flexible g);
      }

  pub bit_meaning : (a : Expr × Option (PartSelect × Expr)) (y : Measured) → a.1 ≡ None → IsMeasured (meant env a.0) y → select_meaning (y, None) ≡ meant_select env a
  bit_meaning (i, None) y h p = ap (λ z. (z, None)) (sym p.means)
  bit_meaning (i, Some m) y h p = cc

  pub part_meaning : (a : Expr × Option (PartSelect × Expr)) (how : PartSelect) (m : Expr) (y z : Measured) → a.1 ≡ Some (how, m) → IsMeasured (meant env a.0) y → IsMeasured (meant env m) z → select_meaning (y, Some (how, z)) ≡ meant_select env a
  part_meaning (i, None) how m y z2 h p q = cc
  part_meaning (i, Some (how', m')) how m y z2 h p q =
      subst (λ (z : PartSelect × Expr). select_meaning (y, Some (how, z2)) ≡ meant_select env (i, Some z)) (sym (same_Some _ _ h)) (ap₂ (λ u v. (u, Some (how, v))) (sym p.means) (sym q.means))

  -- a fault of an expression of a select, among them
  pub index_refused : (xs : List (Expr × Option (PartSelect × Expr))) (i : ℕ) (a : Expr × Option (PartSelect × Expr)) (d : WidthFault) → i < length xs → a ≡ get_or xs i a → Refuses (meant env a.0).finding d →
      Refuses (Lacks (λ r. list_any (select_has_fault r) (meant_selects env xs))) d
  index_refused xs i a d h k q =
      refused_by (meant env a.0).finding (Lacks (λ r. list_any (select_has_fault r) (meant_selects env xs))) d (λ r l. any_in (meant_select env) (select_has_fault r) xs i a h k (index_stands a r l)) q where
        index_stands : (a : Expr × Option (PartSelect × Expr)) (r : WidthReason) → has_width_fault r (meant env a.0).finding ≡ true → select_has_fault r (meant_select env a) ≡ true
        index_stands (i, None) r h = h
        index_stands (i, Some (how, m)) r h = rw h refl

  pub other_refused : (xs : List (Expr × Option (PartSelect × Expr))) (i : ℕ) (a : Expr × Option (PartSelect × Expr)) (how : PartSelect) (m : Expr) (d : WidthFault) → i < length xs → a ≡ get_or xs i a → a.1 ≡ Some (how, m) → Refuses (meant env m).finding d →
      Refuses (Lacks (λ r. list_any (select_has_fault r) (meant_selects env xs))) d
  other_refused xs i a how m d h k e q =
      refused_by (meant env m).finding (Lacks (λ r. list_any (select_has_fault r) (meant_selects env xs))) d (λ r l. any_in (meant_select env) (select_has_fault r) xs i a h k (other_stands a e r l)) q where
        other_stands : (a : Expr × Option (PartSelect × Expr)) → a.1 ≡ Some (how, m) → (r : WidthReason) → has_width_fault r (meant env m).finding ≡ true → select_has_fault r (meant_select env a) ≡ true
        other_stands (i, None) e r h = cc
        other_stands (i, Some (how', m')) e r h = subst (λ (z : PartSelect × Expr). (has_width_fault r (meant env i).finding || has_width_fault r (meant env z.1).finding) ≡ true) (sym (same_Some _ _ e)) (or_right (has_width_fault r (meant env i).finding) (has_width_fault r (meant env m).finding) h)
