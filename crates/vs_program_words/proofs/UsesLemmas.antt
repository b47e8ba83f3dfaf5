-- Lemmas on the modules that a module item instantiates.
use Rattle.std.proofs.Common.{◌≡◌, ◌∙◌, ℕ, List, [], ◌∷◌, ◌++◌, Option, None, Some, map, refl, ap, sym, append_assoc}
use Rattle.std.specs.Prelude.{Result, Ok, Err, OnOk}
use Rattle.std.specs.List.{flat_map}
use Rattle.std.specs.declared.vec.Vec.{Vec}
use Rattle.std.specs.declared.boxed.Box.{Box}
use Rattle.std.specs.declared.alloc.Global.{Global}
use Rattle.vs_syntax.specs.declared.tree.Expr.{Expr}
use Rattle.vs_syntax.specs.declared.tree.ModuleItem.{ModuleItem}
use Rattle.vs_syntax.specs.declared.tree.ModuleItem.TheVariants as i
use Rattle.vs_syntax.specs.declared.tree.ModuleItem.TheOpen.{ModuleItem-F}
use Rattle.vs_syntax.specs.declared.tree.ModuleItem.TheOpen as m
use Rattle.vs_syntax.specs.declared.tree.ModuleItem.TheViews.{roll-ModuleItem}
use Rattle.vs_syntax.specs.declared.tree.ModuleItem.TheFolds.{fold-roll-ModuleItem, map-ModuleItem}
use Rattle.vs_program_words.specs.Tops.{else_uses, used_among, used_in, uses_step}

-- one layer of a module item
uses_layer : (l : ModuleItem-F ModuleItem) (x : ModuleItem) → roll-ModuleItem l ≡ x → used_in x ≡ uses_step (map-ModuleItem ModuleItem (List (List ℕ)) used_in l)
uses_layer l x h = ap used_in (sym h) ∙ fold-roll-ModuleItem (List (List ℕ)) uses_step l

flat_of_map : {A B : Type 0} (f : A → List B) (xs : List A) → flat_map (λ ns. ns) (map f xs) ≡ flat_map f xs
flat_of_map f [] = refl
flat_of_map f (x ∷ xs) = ap (λ l. f x ++ l) (flat_of_map f xs)

pub uses_Region : (xs : Vec ModuleItem Global) → used_in (i.Region xs) ≡ used_among xs.items
uses_Region xs = uses_layer (m.Region xs) _ (i.rolls-Region xs) ∙ flat_of_map used_in xs.items

pub uses_Block : (n : Option (Vec ℕ Global)) (xs : Vec ModuleItem Global) → used_in (i.Block n xs) ≡ used_among xs.items
uses_Block n xs = uses_layer (m.Block n xs) _ (i.rolls-Block n xs) ∙ flat_of_map used_in xs.items

pub uses_If : (e : Expr) (x : Box ModuleItem Global) (o : Option (Box ModuleItem Global)) → used_in (i.If e x o) ≡ used_in x.value ++ else_uses o
uses_If e x None = uses_layer (m.If e x None) _ (i.rolls-If e x None)
uses_If e x (Some y) = uses_layer (m.If e x (Some y)) _ (i.rolls-If e x (Some y))

-- what a call added is what was to be added
module _ {T E : Type 0} (r : Result T E) where
  pub added : (old new a b : List (List ℕ)) → OnOk r (new ≡ old ++ a) → a ≡ b → OnOk r (new ≡ old ++ b)
  added old new a b h same = go r h
    where
      go : (r : Result T E) → OnOk r (new ≡ old ++ a) → OnOk r (new ≡ old ++ b)
      go (Ok x) h = h ∙ ap (λ (l : List (List ℕ)). old ++ l) same
      go (Err e) h = tt

  pub added_behind : (old mid new a b all : List (List ℕ)) → mid ≡ old ++ a → OnOk r (new ≡ mid ++ b) → a ++ b ≡ all → OnOk r (new ≡ old ++ all)
  added_behind old mid new a b all first h same = go r h
    where
      go : (r : Result T E) → OnOk r (new ≡ mid ++ b) → OnOk r (new ≡ old ++ all)
      go (Ok x) h = h ∙ ap (λ (l : List (List ℕ)). l ++ b) first ∙ append_assoc old a b ∙ ap (λ (l : List (List ℕ)). old ++ l) same
      go (Err e) h = tt
