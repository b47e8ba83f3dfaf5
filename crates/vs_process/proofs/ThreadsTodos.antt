-- What is to be done for a statement, and what a condition or a `case` chooses of it.
use Rattle.std.proofs.Common.{◌≡◌, ℕ, suc, Bool, true, false, Option, Some, None, List, [], ◌∷◌, slice_get, refl, sym, subst}
use Rattle.std.specs.Prelude.{find}
use Rattle.std.specs.List.{list_any}
use Rattle.std.specs.declared.vec.Vec.{Vec}
use Rattle.std.specs.declared.alloc.Global.{Global}
use Rattle.std.proofs.lemmas.Bool.{cond_both, or_from}
use Rattle.vs_design.specs.vs_logic4.specs.declared.case.CaseKind.{CaseKind}
use Rattle.vs_design.specs.vs_logic4.specs.declared.digit.Digit.{Digit}
use Rattle.vs_design.specs.declared.expression.Typed.{Typed}
use Rattle.vs_design.specs.declared.statement.Statement.{Statement}
use Rattle.vs_design.specs.declared.statement.Statement.TheVariants.{Block, rolls-Block}
use Rattle.vs_design.specs.declared.statement.Statement.TheViews.{roll-Statement}
use Rattle.vs_design.specs.declared.statement.Statement.TheOpen.{Statement-F}
use Rattle.vs_design.specs.declared.statement.Statement.TheFolds.{ind-Statement, map-Statement}
use Rattle.vs_design.specs.Stores.{Store}
use Rattle.vs_process.specs.Places.{perform, Todo, flat}
use Rattle.vs_process.specs.Steps.{first_of, is_default, item_matches, taken}
use Rattle.vs_process.specs.Drafts.{flat_all}
use Rattle.vs_process.proofs.ProcessLists.{map_cases}
use Rattle.vs_process.proofs.Shapes.{flat-Block}

-- ---- statements, blocks opened

-- whether one layer of a statement is a block
abbrev is_block : Statement-F Statement → Bool
is_block (Statement-F.Block v) = true
is_block _ = false

flat-leaf : (x : Statement-F Statement) → is_block x ≡ false → flat (roll-Statement x) ≡ perform (roll-Statement x) ∷ []
unfolding roll-Statement denote.Hole.Carrier.roll
flat-leaf (Statement-F.Block v) h = cc
flat-leaf _ h = refl

-- what holds of each statement but blocks alone, and of a block where it holds of its statements, holds of what is to be done for any
pub flat_each : (R : Statement → Todo → Type 0) → ((s : Statement) → R s (perform s ∷ [])) →
    ((v : Vec Statement Global) → ((i : ℕ) (s : Statement) → slice_get v.items i ≡ Some s → R s (flat s)) → R (Block v) (flat_all v.items)) →
    (s : Statement) → R s (flat s)
flat_each R leaf block s = ind-Statement Each (λ x y is. subst (λ z. Each (roll-Statement z)) is (layer y)) s
  where
    Each : Statement → Type 0
    Each s = R s (flat s)

    With : Type 0
    With = (s : Statement) × Each s

    first : With → Statement
    first p = p.0

    of_leaf : (x : Statement-F Statement) → is_block x ≡ false → Each (roll-Statement x)
    of_leaf x h = subst (R (roll-Statement x)) (sym (flat-leaf x h)) (leaf (roll-Statement x))

    of_block : (v : Vec Statement Global) → ((i : ℕ) (s : Statement) → slice_get v.items i ≡ Some s → Each s) → Each (Block v)
    of_block v each = subst (R (Block v)) (sym (flat-Block v)) (block v each)

    rolled : (v : Vec Statement Global) → ((i : ℕ) (s : Statement) → slice_get v.items i ≡ Some s → Each s) → Each (roll-Statement (Statement-F.Block v))
    rolled v each = subst Each (sym (rolls-Block v)) (of_block v each)

    layer : (y : Statement-F With) → Each (roll-Statement (map-Statement With Statement first y))
    layer (Statement-F.Null n) = of_leaf (Statement-F.Null n) refl
    layer (Statement-F.Assign n t e) = of_leaf (Statement-F.Assign n t e) refl
    layer (Statement-F.Later n ticks t e) = of_leaf (Statement-F.Later n ticks t e) refl
    layer (Statement-F.Call n c) = of_leaf (Statement-F.Call n c) refl
    layer (Statement-F.Finish n) = of_leaf (Statement-F.Finish n) refl
    layer (Statement-F.Block all) = rolled _ (λ i s is. let p = map_cases first all.items i s is in subst Each p.2 p.0.1)
    layer (Statement-F.Delay n ticks body) = of_leaf (map-Statement With Statement first (Statement-F.Delay n ticks body)) refl
    layer (Statement-F.Event n terms body) = of_leaf (map-Statement With Statement first (Statement-F.Event n terms body)) refl
    layer (Statement-F.If n e a b) = of_leaf (map-Statement With Statement first (Statement-F.If n e a b)) refl
    layer (Statement-F.Case n kind x items) = of_leaf (map-Statement With Statement first (Statement-F.Case n kind x items)) refl
    layer (Statement-F.While n e body) = of_leaf (map-Statement With Statement first (Statement-F.While n e body)) refl
    layer (Statement-F.Repeat n signed e body) = of_leaf (map-Statement With Statement first (Statement-F.Repeat n signed e body)) refl
    layer (Statement-F.Forever n body) = of_leaf (map-Statement With Statement first (Statement-F.Forever n body)) refl

-- ---- choices

find_each : {A : Type 0} (P : Option A → Type 0) (p : A → Bool) (xs : List A) → (list_any p xs ≡ false → P None) → ((i : ℕ) (x : A) → slice_get xs i ≡ Some x → P (Some x)) → P (find p xs)
find_each P p [] none some = none refl
find_each P p (x ∷ xs) none some =
    cond_both (p x) (Some x) (find p xs) P (λ e. some 0 x refl) (λ e. find_each P p xs (λ n. none (or_from (p x) (list_any p xs) e n)) (λ i. some (suc i)))

-- the item that a `case` takes is one of its items; it takes none only where none is a `default`
pub taken_each : (P : Option (Vec Typed Global × Statement) → Type 0) (kind : CaseKind) (digits : List Digit) (store : Store) (time : ℕ) (items : List (Vec Typed Global × Statement)) →
    (list_any is_default items ≡ false → P None) → ((i : ℕ) (x : Vec Typed Global × Statement) → slice_get items i ≡ Some x → P (Some x)) → P (taken kind digits store time items)
taken_each P kind digits store time items none some =
    find_each (λ o. P (first_of o (find is_default items))) (item_matches kind digits store time) items (λ e. find_each P is_default items none some) some
