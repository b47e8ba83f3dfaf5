-- An expression of a source reads signals of its names alone.
use Rattle.std.proofs.Common.{◌≡◌, ℕ, Bool, true, ◌&&◌, List, [], ◌∷◌, ◌++◌, Option, Some, None, length, map, refl, ap, ap₂, sym, subst, ◌∙◌}
use Rattle.std.specs.List.{list_all}
use Rattle.std.proofs.lemmas.List.Folds.{list_all-append}
use Rattle.vs_design.specs.vs_logic4.specs.declared.operators.Binary.{Binary}
use Rattle.vs_syntax.specs.declared.tree.Expr.{Expr, Expr-F, roll-Expr, map-Expr, ind-Expr, fold-roll-Expr}
use Rattle.vs_syntax.specs.declared.tree.Expr.TheShapes.{former-Expr-Select-1-at-5}
use Rattle.vs_syntax.specs.declared.tree.Expr.TheOpen as f
use Rattle.vs_design.specs.declared.range.BitRange.{BitRange}
use Rattle.vs_design.specs.Uses.{joined}
use Rattle.vs_syntax.specs.declared.tree.PartSelect.{PartSelect}
use Rattle.vs_syntax.specs.declared.tree.PartSelect.TheVariants as p
use Rattle.vs_design.specs.declared.signal.Bounds.{Bounds}
use Rattle.vs_widths.specs.declared.shape.Shape.{Shape}
use Rattle.vs_widths.specs.declared.bindings.Meaning.{Meaning}
use Rattle.vs_widths.specs.declared.bindings.Binding.{Binding}
use Rattle.vs_widths.specs.declared.bindings.Binding.TheVariants.{Signal, Constant, Pending, Other, Genvar}
use Rattle.vs_widths.specs.declared.constants.Const.{Const}
use Rattle.vs_widths.specs.Findings.{Finding, Has, Lacks}
use Rattle.vs_widths.specs.Meants.{Meant}
use Rattle.vs_widths.specs.Selects.{Select, select_span, span_of, constant_span, Named, in_array, of_words, range_by, named_reads, select_meant}
use Rattle.vs_widths.specs.Typing.{HoldsOfSignals, ReadsNamed}
use Rattle.vs_widths.specs.Environment.{Environment}
use Rattle.vs_widths.specs.Expressions.{meant, meant_step, name_meant, linked_meant, chain_meant}
use Rattle.std.proofs.lemmas.Bool.{and_from as both_true}

module _ (test : ℕ → Bool) where
  -- ranges of signals that pass a test
  abbrev pub Within : List BitRange → Type 0
  Within rs = list_all (λ (r : BitRange). test r.signal) rs ≡ true

  both_within : (rs qs : List BitRange) → Within rs → Within qs → Within (rs ++ qs)
  both_within rs qs h k = list_all-append (λ (r : BitRange). test r.signal) rs qs ∙ both_true _ _ h k

  all_within : {A : Type 0} (g : A → List BitRange) → ((x : A) → Within (g x)) → (xs : List A) → Within (joined (map g xs))
  all_within g each [] = refl
  all_within g each (x ∷ xs) = both_within (g x) (joined (map g xs)) (each x) (all_within g each xs)

  map_map : {A B C : Type 0} (g : B → C) (k : A → B) (xs : List A) → map g (map k xs) ≡ map (λ x. g (k x)) xs
  map_map g k [] = refl
  map_map g k (x ∷ xs) = ap (λ ys. g (k x) ∷ ys) (map_map g k xs)

  -- the indices of selects read such ranges alone
  abbrev AllWithin : List Select → Type 0
  AllWithin [] = Unit {0}
  AllWithin (x ∷ xs) = Within x.0.reads × AllWithin xs

  one_span : (b : Bounds) (size : ℕ) (x : Select) → Within x.0.reads → Within (select_span b size x).reads
  one_span b size (i, None) h = h
  one_span b size (i, Some (p.Bounds, m)) h = refl
  one_span b size (i, Some (p.Upward, m)) h = h
  one_span b size (i, Some (p.Downward, m)) h = h

  span_within : (b : Option Bounds) (s : Shape) (xs : List Select) → AllWithin xs → Within (span_of b s xs).reads
  span_within b s [] h = refl
  span_within None s (x ∷ xs) h = refl
  span_within (Some b) s (x ∷ []) h = one_span b s.width x h.0
  span_within (Some b) s (x ∷ y ∷ xs) h = refl

  -- what is named, of a signal that passes
  abbrev Names : Named → Type 0
  Names n = (test n.signal ≡ true) × Within n.reads

  array_within : (b : Bounds) (m : Meaning) (n : ℕ) (xs : List Select) → test n ≡ true → AllWithin xs → Names (in_array b m n xs)
  array_within b m n [] k h = (k, refl)
  array_within b m n ((i, None) ∷ xs) k h = (k, both_within i.reads (span_of m.bits m.shape xs).reads h.0 (span_within m.bits m.shape xs h.1))
  array_within b m n ((i, Some x) ∷ xs) k h = (k, refl)

  words_within : (o : Option Bounds) (m : Meaning) (n : ℕ) (xs : List Select) → test n ≡ true → AllWithin xs → Names (of_words o m n xs)
  words_within None m n xs k h = (k, span_within m.bits m.shape xs h)
  words_within (Some b) m n xs k h = array_within b m n xs k h

  constant_within : (c : Const) (xs : List Select) → AllWithin xs → Within (constant_span c xs).reads
  constant_within c [] h = refl
  constant_within c (x ∷ []) h = one_span c.bits (length c.value) x h.0
  constant_within c (x ∷ y ∷ xs) h = refl

  operand_within : (n : Named) (found : Finding) → Names n → Within (named_reads found n)
  operand_within n (Has width signed) h = both_true _ _ (range_signal n.reads) h.1
    where
      range_signal : (rs : List BitRange) → test (range_by rs n).signal ≡ true
      range_signal [] = h.0
      range_signal (r ∷ rs) = h.0
  operand_within n (Lacks faults) h = refl

  module _ (env : Environment) (good : HoldsOfSignals env test) where
    abbrev StaysWithin : Expr → Type 0
    StaysWithin e = Within (meant env e).reads

    abbrev bare : (e : Expr) × StaysWithin e → Expr
    bare e = e.0

    abbrev ReadLink : Type 0
    ReadLink = Binary × ((e : Expr) × StaysWithin e)

    abbrev link_meant : ReadLink → Binary × Meant
    link_meant l = (l.0, meant env l.1.0)

    name_within : (m : List ℕ) (o : Option Binding) → env m ≡ o → Within (name_meant o).reads
    name_within m None h = refl
    name_within m (Some (Signal x n)) h = both_true _ _ (good m x n h) refl
    name_within m (Some (Constant c)) h = refl
    name_within m (Some Pending) h = refl
    name_within m (Some Other) h = refl
    name_within m (Some Genvar) h = refl

    chain_within : (first : Meant) (links : List ReadLink) → Within first.reads → Within (chain_meant first (map link_meant links)).reads
    chain_within first [] h = h
    chain_within first (l ∷ ls) h = chain_within (linked_meant first (link_meant l)) ls (both_within first.reads (meant env l.1.0).reads h l.1.1)

    -- the parts behind the first one of a concatenation
    parts_within : (parts : List ((e : Expr) × StaysWithin e)) → Within (joined (map (λ (m : Meant). m.reads) (map (meant env) (map bare parts))))
    parts_within parts =
        subst (λ z. Within (joined z)) (sym (ap (map (λ (m : Meant). m.reads)) (map_map (meant env) bare parts) ∙ map_map (λ (m : Meant). m.reads) (λ e. meant env (bare e)) parts))
        (all_within (λ (e : (e : Expr) × StaysWithin e). (meant env e.0).reads) (λ e. e.1) parts)

    abbrev bare_pair : ((e : Expr) × StaysWithin e) × ((e : Expr) × StaysWithin e) → Expr × Expr
    bare_pair p = (p.0.0, p.1.0)

    abbrev pair_meant : Expr × Expr → Meant × Meant
    pair_meant p = (meant env p.0, meant env p.1)

    -- the conditions and operands of a `?:`
    pairs_within : (pairs : List (((e : Expr) × StaysWithin e) × ((e : Expr) × StaysWithin e))) →
        Within (joined (map (λ (p : Meant × Meant). p.0.reads ++ p.1.reads) (map pair_meant (map bare_pair pairs))))
    pairs_within pairs =
        subst (λ z. Within (joined z)) (sym (ap (map (λ (p : Meant × Meant). p.0.reads ++ p.1.reads)) (map_map pair_meant bare_pair pairs) ∙ map_map (λ (p : Meant × Meant). p.0.reads ++ p.1.reads) (λ p. pair_meant (bare_pair p)) pairs))
        (all_within (λ p. (meant env p.0.0).reads ++ (meant env p.1.0).reads) (λ p. both_within (meant env p.0.0).reads (meant env p.1.0).reads p.0.1 p.1.1) pairs)

    abbrev bare_link : ReadLink → Binary × Expr
    bare_link l = (l.0, l.1.0)

    abbrev Selected : Type 0
    Selected = ((e : Expr) × StaysWithin e) × Option (PartSelect × ((e : Expr) × StaysWithin e))

    abbrev meanings : List Selected → List Select
    meanings xs = map (λ x. former-Expr-Select-1-at-5.map Expr Meant (meant env) x) (map (λ x. former-Expr-Select-1-at-5.map ((e : Expr) × StaysWithin e) Expr bare x) xs)

    meanings_within : (xs : List Selected) → AllWithin (meanings xs)
    meanings_within [] = tt
    meanings_within (x ∷ xs) = (x.0.1, meanings_within xs)

    select_within : (m : List ℕ) (o : Option Binding) (xs : List Select) → env m ≡ o → AllWithin xs → Within (select_meant o xs).reads
    select_within m None xs h k = refl
    select_within m (Some (Signal x n)) xs h k = operand_within (of_words x.words x n xs) (of_words x.words x n xs).finding (words_within x.words x n xs (good m x n h) k)
    select_within m (Some (Constant c)) xs h k = constant_within c xs k
    select_within m (Some Pending) xs h k = refl
    select_within m (Some Other) xs h k = refl
    select_within m (Some Genvar) xs h k = refl

    inner : (y : Expr-F ((e : Expr) × StaysWithin e)) → Within (meant_step env (map-Expr Expr Meant (meant env) (map-Expr ((e : Expr) × StaysWithin e) Expr bare y))).reads
    inner (f.Number l) = refl
    inner (f.Name m) = name_within m.items (env m.items) refl
    inner (f.Select m ss) = select_within m.items (env m.items) (meanings ss.items) refl (meanings_within ss.items)
    inner (f.Group x) = x.value.1
    inner (f.Unary op x) = x.value.1
    inner (f.Chain x links) =
        subst (λ z. Within (chain_meant (meant env x.value.0) z).reads) (sym (map_map (λ (l : Binary × Expr). (l.0, meant env l.1)) bare_link links.items)) (chain_within (meant env x.value.0) links.items x.value.1)
    inner (f.Choice pairs last) =
        both_within (joined (map (λ (p : Meant × Meant). p.0.reads ++ p.1.reads) (map pair_meant (map bare_pair pairs.items)))) (meant env last.value.0).reads (pairs_within pairs.items) last.value.1
    inner (f.Concat x parts) =
        both_within (meant env x.value.0).reads (joined (map (λ (m : Meant). m.reads) (map (meant env) (map bare parts.items)))) x.value.1 (parts_within parts.items)
    inner (f.Repeat count x parts) =
        both_within (meant env x.value.0).reads (joined (map (λ (m : Meant). m.reads) (map (meant env) (map bare parts.items)))) x.value.1 (parts_within parts.items)
    inner (f.Cast sign x) = x.value.1

    layer : (y : Expr-F ((e : Expr) × StaysWithin e)) → StaysWithin (roll-Expr (map-Expr ((e : Expr) × StaysWithin e) Expr bare y))
    layer y =
        subst (λ (m : Meant). Within m.reads) (sym (fold-roll-Expr Meant (meant_step env) (map-Expr ((e : Expr) × StaysWithin e) Expr bare y))) (inner y)

    each_within : (e : Expr) → Within (meant env e).reads
    each_within e = ind-Expr StaysWithin (λ x y is. subst (λ z. StaysWithin (roll-Expr z)) is (layer y)) e

-- what an expression reads are signals of its names
pub reads_within : ReadsNamed
reads_within env test good e = each_within test env good e
