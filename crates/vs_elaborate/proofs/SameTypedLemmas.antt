-- Expressions that say the same mean one thing.
use Rattle.std.proofs.Common.{◌≡◌, ℕ, Bool, ◌&&◌, cond, Option, Some, None, List, [], ◌∷◌, map, refl, ap, ap₂, sym, subst, ◌∙◌}
use Rattle.std.specs.List.{list_all}
use Rattle.std.specs.declared.vec.Vec.{Vec}
use Rattle.std.specs.declared.boxed.Box.{Box}
use Rattle.std.specs.declared.alloc.Global.{Global}
use Rattle.vs_design.specs.vs_logic4.specs.declared.operators.Unary.{Unary}
use Rattle.vs_design.specs.vs_logic4.specs.declared.operators.Binary.{Binary}
use Rattle.vs_syntax.specs.declared.tree.Expr.{Expr, Expr-F, map-Expr, roll-Expr, fold-roll-Expr, para-roll-Expr}
use Rattle.vs_syntax.specs.declared.tree.Expr.TheVariants as e
use Rattle.vs_syntax.specs.declared.tree.Expr.TheVariants.{rolls-Name, rolls-Select, rolls-Group, rolls-Unary, rolls-Chain, rolls-Choice, rolls-Concat, rolls-Repeat, rolls-Cast}
use Rattle.vs_syntax.specs.declared.tree.Expr.TheShapes.{former-Expr-Select-1-at-4, former-Expr-Select-1-at-5}
use Rattle.vs_syntax.specs.declared.tree.Expr.TheOpen as f
use Rattle.vs_syntax.specs.declared.tree.PartSelect.{PartSelect}
use Rattle.vs_syntax.specs.declared.tree.Left.{Left, fold-roll-Left}
use Rattle.vs_syntax.specs.declared.tree.Left.TheVariants as l
use Rattle.vs_syntax.specs.declared.tree.Left.TheVariants.{rolls-Name as rolls-Place, rolls-Concat as rolls-Places}
use Rattle.vs_syntax.specs.declared.tree.Left.TheOpen as g
use Rattle.vs_syntax.specs.Same.{SameExpr, same_number, same_name, same_select, SameSelects, same_no_select, same_more_selects, SameSecond, same_no_second, same_second, SameLeft, same_place, same_places, SameLefts, same_no_left, same_more_lefts, same_group, same_unary, same_chain, same_choice, same_concat, same_repeat, same_cast, SameLinks, same_no_link, same_link, SamePairs, same_no_pair, same_pair, SameExprs, same_no_expr, same_more_exprs}
use Rattle.vs_design.specs.declared.expression.Typed.{Typed}
use Rattle.vs_elab_statements.specs.vs_widths.specs.Environment.{Environment}
use Rattle.vs_elab_statements.specs.vs_widths.specs.Meants.{Meant}
use Rattle.vs_elab_statements.specs.vs_widths.specs.Selects.{Select, select_meant}
use Rattle.vs_elab_statements.specs.vs_widths.specs.declared.kinds.AssignmentKind.{AssignmentKind}
use Rattle.vs_elab_statements.specs.vs_widths.specs.Lefts.{Aimed, aimed, aimed_step, name_aimed, concat_aimed, is_left, is_left_step, as_left, as_left_step, expr_aimed, no_target}
use Rattle.vs_elab_statements.specs.vs_widths.proofs.ExprLemmas.{as_left_Name, as_left_Select, as_left_Concat}
use Rattle.vs_elab_statements.specs.vs_widths.specs.Expressions.{meant, meant_step, meant_select, meant_selects, name_meant, unary_meant, chain_meant, choice_meant, concat_meant, repeat_meant, cast_meant}
use Rattle.vs_elab_statements.specs.vs_widths.specs.Typing.{IsTypedAs}
use Rattle.vs_elaborate.specs.Same.{SameTyped}

-- what is related to what one is
pub by_both : {A : Type 0} (R : A → A → Type 0) (x x' y y' : A) → x ≡ y → x' ≡ y' → R y y' → R x x'
by_both R x x' y y' p q h = subst (λ z. R z x') (sym p) (subst (R y) (sym q) h)

module _ (env : Environment) where
  abbrev linked : List (Binary × Expr) → List (Binary × Meant)
  linked ls = map (λ (l : Binary × Expr). (l.0, meant env l.1)) ls

  abbrev paired : List (Expr × Expr) → List (Meant × Meant)
  paired ps = map (λ (p : Expr × Expr). (meant env p.0, meant env p.1)) ps

  meant_Name : (n : Vec ℕ Global) → meant env (e.Name n) ≡ name_meant (env n.items)
  meant_Name n = ap (meant env) (sym (rolls-Name n)) ∙ fold-roll-Expr Meant (meant_step env) (f.Name n)

  meant_Group : (x : Box Expr Global) → meant env (e.Group x) ≡ meant env x.value
  meant_Group x = ap (meant env) (sym (rolls-Group x)) ∙ fold-roll-Expr Meant (meant_step env) (f.Group x)

  meant_Unary : (op : Unary) (x : Box Expr Global) → meant env (e.Unary op x) ≡ unary_meant op (meant env x.value)
  meant_Unary op x = ap (meant env) (sym (rolls-Unary op x)) ∙ fold-roll-Expr Meant (meant_step env) (f.Unary op x)

  meant_Chain : (x : Box Expr Global) (ls : Vec (Binary × Expr) Global) → meant env (e.Chain x ls) ≡ chain_meant (meant env x.value) (linked ls.items)
  meant_Chain x ls = ap (meant env) (sym (rolls-Chain x ls)) ∙ fold-roll-Expr Meant (meant_step env) (f.Chain x ls)

  meant_Choice : (ps : Vec (Expr × Expr) Global) (x : Box Expr Global) → meant env (e.Choice ps x) ≡ choice_meant (paired ps.items) (meant env x.value)
  meant_Choice ps x = ap (meant env) (sym (rolls-Choice ps x)) ∙ fold-roll-Expr Meant (meant_step env) (f.Choice ps x)

  meant_Concat : (x : Box Expr Global) (xs : Vec Expr Global) → meant env (e.Concat x xs) ≡ concat_meant (meant env x.value) (map (meant env) xs.items)
  meant_Concat x xs = ap (meant env) (sym (rolls-Concat x xs)) ∙ fold-roll-Expr Meant (meant_step env) (f.Concat x xs)

  meant_Repeat : (n x : Box Expr Global) (xs : Vec Expr Global) → meant env (e.Repeat n x xs) ≡ repeat_meant (meant env n.value) (meant env x.value) (map (meant env) xs.items)
  meant_Repeat n x xs = ap (meant env) (sym (rolls-Repeat n x xs)) ∙ fold-roll-Expr Meant (meant_step env) (f.Repeat n x xs)

  meant_Cast : (s : Bool) (x : Box Expr Global) → meant env (e.Cast s x) ≡ cast_meant s (meant env x.value)
  meant_Cast s x = ap (meant env) (sym (rolls-Cast s x)) ∙ fold-roll-Expr Meant (meant_step env) (f.Cast s x)

  -- what the selects of an operand mean
  abbrev chosen_by : List (Expr × Option (PartSelect × Expr)) → List Select
  chosen_by ss = map (λ x. former-Expr-Select-1-at-5.map Expr Meant (meant env) x) ss

  meant_Select : (n : Vec ℕ Global) (ss : Vec (Expr × Option (PartSelect × Expr)) Global) → meant env (e.Select n ss) ≡ select_meant (env n.items) (chosen_by ss.items)
  meant_Select n ss = ap (meant env) (sym (rolls-Select n ss)) ∙ fold-roll-Expr Meant (meant_step env) (f.Select n ss)

  mutual
    -- expressions that say the same mean one thing
    pub same_meant : (x x' : Expr) → SameExpr x x' → meant env x ≡ meant env x'
    same_meant _ _ (same_number l) = refl
    same_meant _ _ (same_name n n' i) = meant_Name n ∙ ap (λ m. name_meant (env m)) i ∙ sym (meant_Name n')
    same_meant _ _ (same_select n n' ss ss' i r) = meant_Select n ss ∙ ap₂ (λ m cs. select_meant (env m) cs) i (same_chosen ss.items ss'.items r) ∙ sym (meant_Select n' ss')
    same_meant _ _ (same_group x x' m) = meant_Group x ∙ same_meant x.value x'.value m ∙ sym (meant_Group x')
    same_meant _ _ (same_unary op x x' m) = meant_Unary op x ∙ ap (unary_meant op) (same_meant x.value x'.value m) ∙ sym (meant_Unary op x')
    same_meant _ _ (same_chain x x' ls ls' m r) = meant_Chain x ls ∙ ap₂ chain_meant (same_meant x.value x'.value m) (same_linked ls.items ls'.items r) ∙ sym (meant_Chain x' ls')
    same_meant _ _ (same_choice ps ps' x x' r m) = meant_Choice ps x ∙ ap₂ choice_meant (same_paired ps.items ps'.items r) (same_meant x.value x'.value m) ∙ sym (meant_Choice ps' x')
    same_meant _ _ (same_concat x x' xs xs' m r) = meant_Concat x xs ∙ ap₂ concat_meant (same_meant x.value x'.value m) (same_parts xs.items xs'.items r) ∙ sym (meant_Concat x' xs')
    same_meant _ _ (same_repeat n n' x x' xs xs' k m r) =
        meant_Repeat n x xs ∙ ap (λ c. repeat_meant c (meant env x.value) (map (meant env) xs.items)) (same_meant n.value n'.value k)
        ∙ ap₂ (repeat_meant (meant env n'.value)) (same_meant x.value x'.value m) (same_parts xs.items xs'.items r) ∙ sym (meant_Repeat n' x' xs')
    same_meant _ _ (same_cast s x x' m) = meant_Cast s x ∙ ap (cast_meant s) (same_meant x.value x'.value m) ∙ sym (meant_Cast s x')

    same_chosen : (ss ss' : List (Expr × Option (PartSelect × Expr))) → SameSelects ss ss' → chosen_by ss ≡ chosen_by ss'
    same_chosen _ _ same_no_select = refl
    same_chosen _ _ (same_more_selects x x' xs xs' m r rs) = ap₂ (λ k ks. k ∷ ks) (ap₂ (λ a b. (a, b)) (same_meant x.0 x'.0 m) (same_seconds x.1 x'.1 r)) (same_chosen xs xs' rs)

    same_seconds : (o o' : Option (PartSelect × Expr)) → SameSecond o o' → former-Expr-Select-1-at-4.map Expr Meant (meant env) o ≡ former-Expr-Select-1-at-4.map Expr Meant (meant env) o'
    same_seconds _ _ same_no_second = refl
    same_seconds _ _ (same_second x x' i m) = ap₂ (λ a b. Some (a, b)) i (same_meant x.1 x'.1 m)

    same_linked : (ls ls' : List (Binary × Expr)) → SameLinks ls ls' → linked ls ≡ linked ls'
    same_linked _ _ same_no_link = refl
    same_linked _ _ (same_link l l' ls ls' i m r) = ap₂ (λ k ks. k ∷ ks) (ap₂ (λ o x. (o, x)) i (same_meant l.1 l'.1 m)) (same_linked ls ls' r)

    same_paired : (ps ps' : List (Expr × Expr)) → SamePairs ps ps' → paired ps ≡ paired ps'
    same_paired _ _ same_no_pair = refl
    same_paired _ _ (same_pair p p' ps ps' c m r) = ap₂ (λ k ks. k ∷ ks) (ap₂ (λ x y. (x, y)) (same_meant p.0 p'.0 c) (same_meant p.1 p'.1 m)) (same_paired ps ps' r)

    same_parts : (xs xs' : List Expr) → SameExprs xs xs' → map (meant env) xs ≡ map (meant env) xs'
    same_parts _ _ same_no_expr = refl
    same_parts _ _ (same_more_exprs x x' xs xs' m r) = ap₂ (λ k ks. k ∷ ks) (same_meant x x' m) (same_parts xs xs' r)

  -- what the selects of a left side mean
  pub same_named : (ss ss' : List (Expr × Option (PartSelect × Expr))) → SameSelects ss ss' → meant_selects env ss ≡ meant_selects env ss'
  same_named _ _ same_no_select = refl
  same_named _ _ (same_more_selects (x, o) (x', o') xs xs' m r rs) = ap₂ (λ k ks. k ∷ ks) (one o o' r) (same_named xs xs' rs)
    where
      one : (o o' : Option (PartSelect × Expr)) → SameSecond o o' → meant_select env (x, o) ≡ meant_select env (x', o')
      one _ _ same_no_second = ap (λ a. (a, None)) (same_meant x x' m)
      one _ _ (same_second (h, y) (h', y') i n) = ap₂ (λ a b. (a, Some b)) (same_meant x x' m) (ap₂ (λ a b. (a, b)) i (same_meant y y' n))

  module _ (how : AssignmentKind) where
    aimed_Name : (n : Vec ℕ Global) (ss : Vec (Expr × Option (PartSelect × Expr)) Global) → aimed how env (l.Name n ss) ≡ name_aimed how (env n.items) (meant_selects env ss.items)
    aimed_Name n ss = ap (aimed how env) (sym (rolls-Place n ss)) ∙ fold-roll-Left Aimed (aimed_step how env) (g.Name n ss)

    aimed_Concat : (x : Box Left Global) (xs : Vec Left Global) → aimed how env (l.Concat x xs) ≡ concat_aimed (aimed how env x.value) (map (aimed how env) xs.items)
    aimed_Concat x xs = ap (aimed how env) (sym (rolls-Places x xs)) ∙ fold-roll-Left Aimed (aimed_step how env) (g.Concat x xs)

    mutual
      -- left sides that say the same mean one thing
      pub same_aimed : (x x' : Left) → SameLeft x x' → aimed how env x ≡ aimed how env x'
      same_aimed _ _ (same_place n n' ss ss' i r) = aimed_Name n ss ∙ ap₂ (λ m cs. name_aimed how (env m) cs) i (same_named ss.items ss'.items r) ∙ sym (aimed_Name n' ss')
      same_aimed _ _ (same_places x x' xs xs' m r) = aimed_Concat x xs ∙ ap₂ concat_aimed (same_aimed x.value x'.value m) (same_aims xs.items xs'.items r) ∙ sym (aimed_Concat x' xs')

      same_aims : (xs xs' : List Left) → SameLefts xs xs' → map (aimed how env) xs ≡ map (aimed how env) xs'
      same_aims _ _ same_no_left = refl
      same_aims _ _ (same_more_lefts x x' xs xs' m r) = ap₂ (λ k ks. k ∷ ks) (same_aimed x x' m) (same_aims xs xs' r)

  -- ---- expressions with the form of a left side

  has_form : (y : Expr-F Expr) (z : Expr) → roll-Expr y ≡ z → is_left z ≡ is_left_step (map-Expr Expr Bool is_left y)
  has_form y z h = ap is_left (sym h) ∙ fold-roll-Expr Bool is_left_step y

  module _ (how : AssignmentKind) where
    abbrev with_aim : Expr → Expr × Aimed
    with_aim y = (y, as_left how env y)

    as_form : (y : Expr-F Expr) (z : Expr) → roll-Expr y ≡ z → as_left how env z ≡ as_left_step how env (map-Expr Expr (Expr × Aimed) with_aim y)
    as_form y z h = ap (as_left how env) (sym h) ∙ para-roll-Expr Aimed (as_left_step how env) y

    -- two expressions have the form of a left side, or neither, and mean one thing as targets
    record IsAimedAlike (x x' : Expr) : Type 0 where
      form : is_left x ≡ is_left x'
      aim : as_left how env x ≡ as_left how env x'

    -- two expressions of one layer that is none of a left side
    no_form : (y y' : Expr-F Expr) (x x' : Expr) → roll-Expr y ≡ x → roll-Expr y' ≡ x' → is_left_step (map-Expr Expr Bool is_left y) ≡ is_left_step (map-Expr Expr Bool is_left y') → as_left_step how env (map-Expr Expr (Expr × Aimed) with_aim y) ≡ as_left_step how env (map-Expr Expr (Expr × Aimed) with_aim y') → IsAimedAlike x x'
    no_form y y' x x' h h' p q = record { form = has_form y x h ∙ p ∙ sym (has_form y' x' h'); aim = as_form y x h ∙ q ∙ sym (as_form y' x' h') }

    mutual
      alike : (x x' : Expr) → SameExpr x x' → IsAimedAlike x x'
      alike _ _ (same_number l) = record { form = refl; aim = refl }
      alike _ _ (same_name n n' i) = record {
        form = has_form (f.Name n) (e.Name n) (rolls-Name n) ∙ sym (has_form (f.Name n') (e.Name n') (rolls-Name n'));
        aim = as_left_Name how env n ∙ ap (λ m. name_aimed how (env m) []) i ∙ sym (as_left_Name how env n');
      }
      alike _ _ (same_select n n' ss ss' i r) = record {
        form = has_form (f.Select n ss) (e.Select n ss) (rolls-Select n ss) ∙ sym (has_form (f.Select n' ss') (e.Select n' ss') (rolls-Select n' ss'));
        aim = as_left_Select how env n ss ∙ ap₂ (λ m cs. name_aimed how (env m) cs) i (same_named ss.items ss'.items r) ∙ sym (as_left_Select how env n' ss');
      }
      alike _ _ (same_group x x' m) = no_form (f.Group x) (f.Group x') (e.Group x) (e.Group x') (rolls-Group x) (rolls-Group x') refl refl
      alike _ _ (same_unary op x x' m) = no_form (f.Unary op x) (f.Unary op x') (e.Unary op x) (e.Unary op x') (rolls-Unary op x) (rolls-Unary op x') refl refl
      alike _ _ (same_chain x x' ls ls' m r) = no_form (f.Chain x ls) (f.Chain x' ls') (e.Chain x ls) (e.Chain x' ls') (rolls-Chain x ls) (rolls-Chain x' ls') refl refl
      alike _ _ (same_choice ps ps' x x' r m) = no_form (f.Choice ps x) (f.Choice ps' x') (e.Choice ps x) (e.Choice ps' x') (rolls-Choice ps x) (rolls-Choice ps' x') refl refl
      alike _ _ (same_concat x x' xs xs' m r) =
          let first = alike x.value x'.value m in
          let rest = all_alike xs.items xs'.items r in
          record {
            form = has_form (f.Concat x xs) (e.Concat x xs) (rolls-Concat x xs) ∙ ap₂ (λ a as'. a && list_all (λ b. b) as') first.form rest.0 ∙ sym (has_form (f.Concat x' xs') (e.Concat x' xs') (rolls-Concat x' xs'));
            aim = as_left_Concat how env x xs ∙ ap₂ concat_aimed first.aim rest.1 ∙ sym (as_left_Concat how env x' xs');
          }
      alike _ _ (same_repeat n n' x x' xs xs' k m r) = no_form (f.Repeat n x xs) (f.Repeat n' x' xs') (e.Repeat n x xs) (e.Repeat n' x' xs') (rolls-Repeat n x xs) (rolls-Repeat n' x' xs') refl refl
      alike _ _ (same_cast s x x' m) = no_form (f.Cast s x) (f.Cast s x') (e.Cast s x) (e.Cast s x') (rolls-Cast s x) (rolls-Cast s x') refl refl

      all_alike : (xs xs' : List Expr) → SameExprs xs xs' → (map is_left xs ≡ map is_left xs') × (map (as_left how env) xs ≡ map (as_left how env) xs')
      all_alike _ _ same_no_expr = (refl, refl)
      all_alike _ _ (same_more_exprs x x' xs xs' m r) =
          let first = alike x x' m in
          let rest = all_alike xs xs' r in
          (ap₂ (λ a as'. a ∷ as') first.form rest.0, ap₂ (λ a as'. a ∷ as') first.aim rest.1)

    -- expressions that say the same mean one thing as targets
    pub same_expr_aimed : (x x' : Expr) → SameExpr x x' → expr_aimed how env x ≡ expr_aimed how env x'
    same_expr_aimed x x' m = let a = alike x x' m in ap₂ (λ b t. cond b t no_target) a.form a.aim

-- two expressions of a design that mean one thing say the same
pub one_typed : (m : Meant) (w : ℕ) (g : Bool) (y y' : Typed) → IsTypedAs m w g y → IsTypedAs m w g y' → SameTyped y y'
one_typed m w g y y' h k = record {
  size = h.size ∙ sym k.size;
  value = λ store time. h.value store time ∙ sym (k.value store time);
  ranges = h.ranges ∙ sym k.ranges;
  layer = h.layer ∙ sym k.layer;
}
