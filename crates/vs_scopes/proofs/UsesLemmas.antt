-- Names in expressions and left sides, by their forms.
use Rattle.std.proofs.Common.{◌≡◌, Bool, List, [], ◌∷◌, ◌++◌, Option, None, Some, map, refl, ap, ap₂, sym, ◌∙◌}
use Rattle.std.specs.List.{flat_map}
use Rattle.std.proofs.lemmas.List.Folds.{flat_map-map}
use Rattle.std.specs.declared.vec.Vec.{Vec}
use Rattle.std.specs.declared.boxed.Box.{Box}
use Rattle.std.specs.declared.alloc.Global.{Global}
use Rattle.vs_syntax.specs.vs_logic4.specs.declared.operators.Binary.{Binary}
use Rattle.vs_syntax.specs.vs_logic4.specs.declared.operators.Unary.{Unary}
use Rattle.vs_syntax.specs.declared.tree.Expr.{Expr, Expr-F, roll-Expr, fold-roll-Expr, map-Expr}
use Rattle.vs_syntax.specs.declared.tree.Expr.TheOpen as x
use Rattle.vs_syntax.specs.declared.tree.Expr.TheVariants as e
use Rattle.vs_syntax.specs.declared.tree.Expr.TheShapes.{former-Expr-Select-1-at-5}
use Rattle.vs_syntax.specs.declared.tree.Left.{Left, fold-roll-Left}
use Rattle.vs_syntax.specs.declared.tree.Left.TheOpen as y
use Rattle.vs_syntax.specs.declared.tree.Left.TheVariants as l
use Rattle.vs_syntax.specs.declared.tree.PartSelect.{PartSelect}
use Rattle.vs_scopes.specs.Uses.{Bytes, select_names, expr_names_step, expr_names, select_expr_names, left_names_step, left_names}
use Rattle.vs_scopes.specs.pieces_passes.Parts.{exprs_names, links_names, pairs_names, selects_names, lefts_names}

-- ---- expressions

pub names_form : (y : Expr-F Expr) (z : Expr) → roll-Expr y ≡ z → expr_names z ≡ expr_names_step (map-Expr Expr Bytes expr_names y)
names_form y z h = ap expr_names (sym h) ∙ fold-roll-Expr Bytes expr_names_step y

pub names_Group : (b : Box Expr Global) → expr_names (e.Group b) ≡ expr_names b.value
names_Group b = names_form (x.Group b) (e.Group b) (e.rolls-Group b)

pub names_Unary : (o : Unary) (b : Box Expr Global) → expr_names (e.Unary o b) ≡ expr_names b.value
names_Unary o b = names_form (x.Unary o b) (e.Unary o b) (e.rolls-Unary o b)

pub names_Cast : (s : Bool) (b : Box Expr Global) → expr_names (e.Cast s b) ≡ expr_names b.value
names_Cast s b = names_form (x.Cast s b) (e.Cast s b) (e.rolls-Cast s b)

layered : (s : Expr × Option (PartSelect × Expr)) → select_names (former-Expr-Select-1-at-5.map Expr Bytes expr_names s) ≡ select_expr_names s
layered (a, None) = refl
layered (a, Some (how, m)) = refl

all_layered : (ss : List (Expr × Option (PartSelect × Expr))) → flat_map select_names (map (former-Expr-Select-1-at-5.map Expr Bytes expr_names) ss) ≡ selects_names ss
all_layered [] = refl
all_layered (s ∷ ss) = ap₂ (λ a b. a ++ b) (layered s) (all_layered ss)

pub names_Select : (n : Vec _ Global) (ss : Vec (Expr × Option (PartSelect × Expr)) Global) → expr_names (e.Select n ss) ≡ n.items ∷ selects_names ss.items
names_Select n ss = names_form (x.Select n ss) (e.Select n ss) (e.rolls-Select n ss) ∙ ap (λ (z : Bytes). n.items ∷ z) (all_layered ss.items)

pub names_Chain : (b : Box Expr Global) (ls : Vec (Binary × Expr) Global) → expr_names (e.Chain b ls) ≡ expr_names b.value ++ links_names ls.items
names_Chain b ls = names_form (x.Chain b ls) (e.Chain b ls) (e.rolls-Chain b ls) ∙ ap (λ (z : Bytes). expr_names b.value ++ z) (flat_map-map (λ (m : Binary × Bytes). m.1) (λ (m : Binary × Expr). (m.0, expr_names m.1)) ls.items)

pub names_Choice : (ps : Vec (Expr × Expr) Global) (b : Box Expr Global) → expr_names (e.Choice ps b) ≡ pairs_names ps.items ++ expr_names b.value
names_Choice ps b =
    names_form (x.Choice ps b) (e.Choice ps b) (e.rolls-Choice ps b)
    ∙ ap (λ (z : Bytes). z ++ expr_names b.value) (flat_map-map (λ (p : Bytes × Bytes). p.0 ++ p.1) (λ (p : Expr × Expr). (expr_names p.0, expr_names p.1)) ps.items)

rest_names : (xs : List Expr) → flat_map (λ (ns : Bytes). ns) (map expr_names xs) ≡ exprs_names xs
rest_names xs = flat_map-map (λ (ns : Bytes). ns) expr_names xs

pub names_Concat : (b : Box Expr Global) (xs : Vec Expr Global) → expr_names (e.Concat b xs) ≡ expr_names b.value ++ exprs_names xs.items
names_Concat b xs = names_form (x.Concat b xs) (e.Concat b xs) (e.rolls-Concat b xs) ∙ ap (λ (z : Bytes). expr_names b.value ++ z) (rest_names xs.items)

pub names_Repeat : (n b : Box Expr Global) (xs : Vec Expr Global) → expr_names (e.Repeat n b xs) ≡ expr_names n.value ++ (expr_names b.value ++ exprs_names xs.items)
names_Repeat n b xs = names_form (x.Repeat n b xs) (e.Repeat n b xs) (e.rolls-Repeat n b xs) ∙ ap (λ (z : Bytes). expr_names n.value ++ (expr_names b.value ++ z)) (rest_names xs.items)

-- ---- left sides

pub names_Lefts : (b : Box Left Global) (xs : Vec Left Global) → left_names (l.Concat b xs) ≡ left_names b.value ++ lefts_names xs.items
names_Lefts b xs =
    ap left_names (sym (l.rolls-Concat b xs)) ∙ fold-roll-Left Bytes left_names_step (y.Concat b xs)
    ∙ ap (λ (z : Bytes). left_names b.value ++ z) (flat_map-map (λ (ns : Bytes). ns) left_names xs.items)
