-- The block that a branch of an `if` generates has one of the names that the branch may have.
use Rattle.std.proofs.Common.{◌≡◌, ℕ, Bool, true, false, ◌||◌, cond, List, [], ◌∷◌, ◌++◌, Option, Some, None, refl, ap, sym, subst, ◌∙◌}
use Rattle.std.specs.List.{list_any}
use Rattle.std.specs.Str.{bytes_eq}
use Rattle.std.proofs.lemmas.Bool.{or_left, or_right}
use Rattle.std.proofs.lemmas.List.Folds.{list_any-append}
use Rattle.std.proofs.lemmas.Slice.Eq.{bytes_eq-Decides}
use Rattle.vs_syntax.specs.declared.tree.Expr.{Expr}
use Rattle.vs_syntax.specs.declared.tree.ModuleItem.{ModuleItem, ModuleItem-F, roll-ModuleItem, map-ModuleItem, ind-ModuleItem}
use Rattle.vs_syntax.specs.declared.tree.ModuleItem.TheOpen as m
use Rattle.vs_syntax.specs.declared.tree.ModuleItem.TheFolds.{fold-ModuleItem, fold-roll-ModuleItem}
use Rattle.vs_syntax.specs.declared.tree.ModuleItem.TheViews.{out-ModuleItem, out-roll-ModuleItem}
use Rattle.vs_scopes.specs.vs_widths.specs.declared.faults.WidthReason.{WidthReason}
use Rattle.vs_scopes.specs.vs_widths.specs.Environment.{Environment}
use Rattle.vs_scopes.specs.Pieces.{nothing, block, names_step, branch_names, other_names}
use Rattle.vs_scopes.specs.Parameters.{any_fault}
use Rattle.vs_scopes.specs.Declarations.{each_once}
use Rattle.vs_scopes.specs.Generate.{holds, condition_fault, Taken, takes, refused, decided, taken_step, branch_taken, other_taken, chosen}

-- ---- names in lists

-- a name is in a list
abbrev pub Among : List ℕ → List (List ℕ) → Type 0
Among n ns = list_any (bytes_eq n) ns ≡ true

pub same_bytes : (n : List ℕ) → bytes_eq n n ≡ true
same_bytes n = (bytes_eq-Decides n n).1 refl

pub among_first : (n : List ℕ) (ns : List (List ℕ)) → Among n (n ∷ ns)
among_first n ns = or_left (bytes_eq n n) (list_any (bytes_eq n) ns) (same_bytes n)

pub among_left : (n : List ℕ) (xs ys : List (List ℕ)) → Among n xs → Among n (xs ++ ys)
among_left n xs ys h = list_any-append (bytes_eq n) xs ys ∙ or_left (list_any (bytes_eq n) xs) (list_any (bytes_eq n) ys) h

pub among_right : (n : List ℕ) (xs ys : List (List ℕ)) → Among n ys → Among n (xs ++ ys)
among_right n xs ys h = list_any-append (bytes_eq n) xs ys ∙ or_right (list_any (bytes_eq n) xs) (list_any (bytes_eq n) ys) h

-- a name that is in a list is so where each name stands once
pub among_once : (n : List ℕ) (ns : List (List ℕ)) → Among n ns → Among n (each_once ns)
among_once n [] h = h
among_once n (m ∷ ms) h = by (bytes_eq n m) (list_any (bytes_eq m) ms) refl refl h (among_once n ms)
  where
    by : (a b : Bool) → bytes_eq n m ≡ a → list_any (bytes_eq m) ms ≡ b → a || list_any (bytes_eq n) ms ≡ true → (Among n ms → Among n (each_once ms)) → Among n (cond b (each_once ms) (m ∷ each_once ms))
    by true true e k h rest = rest (ap (λ x. list_any (bytes_eq x) ms) ((bytes_eq-Decides n m).0 e) ∙ k)
    by true false e k h rest = or_left (bytes_eq n m) (list_any (bytes_eq n) (each_once ms)) e
    by false true e k h rest = rest h
    by false false e k h rest = or_right (bytes_eq n m) (list_any (bytes_eq n) (each_once ms)) (rest h)

-- ---- branches

-- what a branch generates has one of these names, where the text names it
abbrev pub IsNamedIn : List (List ℕ) → Taken → Type 0
IsNamedIn ns (takes nothing) = Unit {0}
IsNamedIn ns (takes (block None xs)) = Unit {0}
IsNamedIn ns (takes (block (Some n) xs)) = Among n ns
IsNamedIn ns (refused w) = Unit {0}

named_more : (ns ms : List (List ℕ)) (t : Taken) → ((n : List ℕ) → Among n ns → Among n ms) → IsNamedIn ns t → IsNamedIn ms t
named_more ns ms (takes nothing) f h = tt
named_more ns ms (takes (block None xs)) f h = tt
named_more ns ms (takes (block (Some n) xs)) f h = f n h
named_more ns ms (refused w) f h = tt

decided_named : (a b : Bool) (w : WidthReason → Bool) (ns : List (List ℕ)) (x y : Taken) → IsNamedIn ns x → IsNamedIn ns y → IsNamedIn ns (cond a (refused w) (cond b x y))
decided_named true b w ns x y h k = tt
decided_named false true w ns x y h k = h
decided_named false false w ns x y h k = k

-- a decision between two branches
either_named : (env : Environment) (e : Expr) (ns ms : List (List ℕ)) (x y : Taken) → IsNamedIn ns x → IsNamedIn ms y → IsNamedIn (ns ++ ms) (decided env e x y)
either_named env e ns ms x y h k =
    decided_named (any_fault (condition_fault env e)) (holds env e) (condition_fault env e) (ns ++ ms) x y
    (named_more ns (ns ++ ms) x (λ n i. among_left n ns ms i) h) (named_more ms (ns ++ ms) y (λ n i. among_right n ns ms i) k)

module _ (env : Environment) where
  abbrev Named : ModuleItem → Type 0
  Named x = IsNamedIn (branch_names x) (branch_taken env x)

  abbrev Known : Type 0
  Known = (x : ModuleItem) × Named x

  abbrev bare : Known → ModuleItem
  bare x = x.0

  abbrev step : ModuleItem-F (ModuleItem → Taken) → ModuleItem → Taken
  step l y = taken_step env l (out-ModuleItem y) y

  abbrev taken_each : ModuleItem-F ModuleItem → ModuleItem-F (ModuleItem → Taken)
  taken_each z = map-ModuleItem ModuleItem (ModuleItem → Taken) (fold-ModuleItem (ModuleItem → Taken) step) z

  abbrev names_each : ModuleItem-F ModuleItem → ModuleItem-F (List (List ℕ))
  names_each z = map-ModuleItem ModuleItem (List (List ℕ)) branch_names z

  abbrev layer_of : ModuleItem-F Known → ModuleItem-F ModuleItem
  layer_of y = map-ModuleItem Known ModuleItem bare y

  inner : (y : ModuleItem-F Known) (whole : ModuleItem) → IsNamedIn (names_step (names_each (layer_of y))) (taken_step env (taken_each (layer_of y)) (layer_of y) whole)
  inner (m.Plain i) whole = tt
  inner (m.Region xs) whole = tt
  inner (m.For h x) whole = tt
  inner (m.If e x None) whole = either_named env e (branch_names x.value.0) [] (branch_taken env x.value.0) (takes nothing) x.value.1 tt
  inner (m.If e x (Some z)) whole = either_named env e (branch_names x.value.0) (branch_names z.value.0) (branch_taken env x.value.0) (branch_taken env z.value.0) x.value.1 z.value.1
  inner m.Null whole = tt
  inner (m.Block None xs) whole = tt
  inner (m.Block (Some n) xs) whole = among_first n.items []

  layer : (y : ModuleItem-F Known) → Named (roll-ModuleItem (layer_of y))
  layer y =
      let z = layer_of y in
      let names : branch_names (roll-ModuleItem z) ≡ names_step (names_each z) = fold-roll-ModuleItem (List (List ℕ)) names_step z in
      let taken : branch_taken env (roll-ModuleItem z) ≡ taken_step env (taken_each z) z (roll-ModuleItem z) =
      ap (λ g. g (roll-ModuleItem z)) (fold-roll-ModuleItem (ModuleItem → Taken) step z) ∙ ap (λ l. taken_step env (taken_each z) l (roll-ModuleItem z)) (out-roll-ModuleItem z) in
      subst (λ ns. IsNamedIn ns (branch_taken env (roll-ModuleItem z))) (sym names) (subst (IsNamedIn (names_step (names_each z))) (sym taken) (inner y (roll-ModuleItem z)))

  branch_named : (x : ModuleItem) → Named x
  branch_named x = ind-ModuleItem Named (λ x y is. subst (λ z. Named (roll-ModuleItem z)) is (layer y)) x

  other_named : (o : Option ModuleItem) → IsNamedIn (other_names o) (other_taken env o)
  other_named None = tt
  other_named (Some x) = branch_named x

-- what an `if` generates has one of the names that its branches may have
pub chosen_named : (env : Environment) (e : Expr) (x : ModuleItem) (o : Option ModuleItem) → IsNamedIn (each_once (branch_names x ++ other_names o)) (chosen env e x o)
chosen_named env e x o =
    named_more (branch_names x ++ other_names o) (each_once (branch_names x ++ other_names o)) (chosen env e x o) (λ n. among_once n (branch_names x ++ other_names o))
    (either_named env e (branch_names x) (other_names o) (branch_taken env x) (other_taken env o) (branch_named env x) (other_named env o))
