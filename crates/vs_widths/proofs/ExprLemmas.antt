-- Expressions that have the form of a left side.
use Rattle.std.proofs.Common.{◌≡◌, ℕ, zero, suc, ◌<◌, ◌≤◌, Bool, true, false, ◌&&◌, List, [], ◌∷◌, Option, Some, None, length, map, get_or, refl, ap, ap₂, sym, ◌∙◌, arith}
use Rattle.std.specs.List.{list_all}
use Rattle.std.proofs.lemmas.List.Folds.{list_all-map}
use Rattle.std.specs.declared.vec.Vec.{Vec}
use Rattle.std.specs.declared.boxed.Box.{Box}
use Rattle.std.specs.declared.alloc.Global.{Global}
use Rattle.vs_syntax.specs.declared.tree.Expr.{Expr, Expr-F, map-Expr, roll-Expr, fold-roll-Expr, para-roll-Expr}
use Rattle.vs_syntax.specs.declared.tree.Expr.TheVariants as e
use Rattle.vs_syntax.specs.declared.tree.Expr.TheOpen as x
use Rattle.vs_syntax.specs.declared.tree.Expr.TheShapes.{former-Expr-Select-1-at-5}
use Rattle.vs_syntax.specs.declared.tree.PartSelect.{PartSelect}
use Rattle.vs_widths.specs.Environment.{Environment}
use Rattle.vs_widths.specs.Expressions.{meant_selects}
use Rattle.vs_widths.specs.declared.kinds.AssignmentKind.{AssignmentKind}
use Rattle.vs_widths.specs.Lefts.{Aimed, name_aimed, concat_aimed, is_left, is_left_step, bare_select, as_left_step, as_left}
use Rattle.vs_design.specs.vs_logic4.proofs.Basics.{and_left, and_right}

-- ---- the form

is_left_Concat : (b : Box Expr Global) (es : Vec Expr Global) → is_left (e.Concat b es) ≡ (is_left b.value && list_all is_left es.items)
is_left_Concat b es =
    ap is_left (sym (e.rolls-Concat b es)) ∙ fold-roll-Expr Bool is_left_step (x.Concat b es) ∙ ap (λ z. is_left b.value && z) (list_all-map (λ (p : Bool). p) is_left es.items)

and_true : (p q : Bool) → p ≡ true → q ≡ (p && q)
and_true p q h = rw h refl

pub concat_is_left : (b : Box Expr Global) (es : Vec Expr Global) (first : Expr) (rest : List Expr) (p q : Bool) → p ≡ is_left first → q ≡ list_all is_left rest → first ≡ b.value → rest ≡ es.items → p ≡ true → q ≡ is_left (e.Concat b es)
concat_is_left b es first rest p q h k m n t =
    k ∙ and_true p (list_all is_left rest) t ∙ ap (λ z. z && list_all is_left rest) h ∙ ap₂ (λ y z. is_left y && list_all is_left z) m n ∙ sym (is_left_Concat b es)

left_in : (es : List Expr) (i : ℕ) (y : Expr) → i < length es → y ≡ get_or es i y → list_all is_left es ≡ true → is_left y ≡ true
left_in [] i y h k t = absurd (omega arith)
left_in (z ∷ es) zero y h k t = ap is_left k ∙ and_left (is_left z) (list_all is_left es) t
left_in (z ∷ es) (suc i) y h k t = left_in es i y (omega arith) k (and_right (is_left z) (list_all is_left es) t)

pub left_at : (es : List Expr) (i : ℕ) (y : Expr) → i < length es → y ≡ get_or es i y → list_all (λ p. p) (map is_left es) ≡ true → is_left y ≡ true
left_at es i y h k t = left_in es i y h k (sym (list_all-map (λ (p : Bool). p) is_left es) ∙ t)

pub no_deeper : (n : ℕ) → n ≤ n
no_deeper n = omega arith

-- ---- what is meant

module _ (how : AssignmentKind) (env : Environment) where
  abbrev both : Expr → Expr × Aimed
  both y = (y, as_left how env y)

  form : (y : Expr-F Expr) (z : Expr) → roll-Expr y ≡ z → as_left how env z ≡ as_left_step how env (map-Expr Expr (Expr × Aimed) both y)
  form y z h = ap (as_left how env) (sym h) ∙ para-roll-Expr Aimed (as_left_step how env) y

  pub as_left_Name : (n : Vec ℕ Global) → as_left how env (e.Name n) ≡ name_aimed how (env n.items) []
  as_left_Name n = form (x.Name n) (e.Name n) (e.rolls-Name n)

  bare : (s : Expr × Option (PartSelect × Expr)) → bare_select (former-Expr-Select-1-at-5.map Expr (Expr × Aimed) both s) ≡ s
  bare (a, None) = refl
  bare (a, Some (k, m)) = refl

  all_bare : (ss : List (Expr × Option (PartSelect × Expr))) → map bare_select (map (former-Expr-Select-1-at-5.map Expr (Expr × Aimed) both) ss) ≡ ss
  all_bare [] = refl
  all_bare (s ∷ ss) = ap₂ (λ y z. y ∷ z) (bare s) (all_bare ss)

  pub as_left_Select : (n : Vec ℕ Global) (ss : Vec (Expr × Option (PartSelect × Expr)) Global) → as_left how env (e.Select n ss) ≡ name_aimed how (env n.items) (meant_selects env ss.items)
  as_left_Select n ss = form (x.Select n ss) (e.Select n ss) (e.rolls-Select n ss) ∙ ap (λ z. name_aimed how (env n.items) (meant_selects env z)) (all_bare ss.items)

  all_aimed : (es : List Expr) → map (λ (p : Expr × Aimed). p.1) (map both es) ≡ map (as_left how env) es
  all_aimed [] = refl
  all_aimed (y ∷ es) = ap (λ z. as_left how env y ∷ z) (all_aimed es)

  pub as_left_Concat : (b : Box Expr Global) (es : Vec Expr Global) → as_left how env (e.Concat b es) ≡ concat_aimed (as_left how env b.value) (map (as_left how env) es.items)
  as_left_Concat b es = form (x.Concat b es) (e.Concat b es) (e.rolls-Concat b es) ∙ ap (concat_aimed (as_left how env b.value)) (all_aimed es.items)
