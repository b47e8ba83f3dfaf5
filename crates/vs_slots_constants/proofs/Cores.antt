-- What a statement is without `begin` and `end` round one statement.
use Rattle.std.proofs.Common.{◌≡◌, true, false, List, [], ◌∷◌, length, get_or, refl, sym, ◌∙◌, ap, subst, arith}
use Rattle.std.specs.declared.vec.Vec.{Vec}
use Rattle.std.specs.declared.alloc.Global.{Global}
use Rattle.vs_design.specs.vs_logic4.proofs.Basics.{same_first}
use Rattle.vs_design.specs.declared.statement.Statement.{Statement}
use Rattle.vs_design.specs.declared.statement.Statement.TheVariants as y
use Rattle.vs_design.specs.declared.statement.Statement.TheVariants.{rolls-Block}
use Rattle.vs_design.specs.declared.statement.Statement.TheOpen.{Statement-F}
use Rattle.vs_design.specs.declared.statement.Statement.TheViews.{out-Statement, roll-Statement, out-roll-Statement, roll-out-Statement}
use Rattle.vs_rules.specs.Constants.{IsBare, itself, inside}
use Rattle.vs_slots_constants.specs.Clocks.{is_one, is_single, IsCore}

abbrev items_of : Statement-F Statement → List Statement
items_of (Statement-F.Block all) = all.items
items_of _ = []

same_itself : (s : Statement) (x y : Statement-F Statement) → out-Statement s ≡ x → is_single x ≡ false → IsBare s y → x ≡ y
same_itself _ x _ is single (itself s y e) = sym is ∙ e
same_itself _ x _ is single (inside s all inner y e one deep) =
    let twice : false ≡ true = sym single ∙ ap is_single (sym is ∙ e) ∙ ap is_one one in
    cc

same_inside : (s : Statement) (all : Vec Statement Global) (inner : Statement) (y : Statement-F Statement) → out-Statement s ≡ Statement-F.Block all → all.items ≡ inner ∷ [] → is_single y ≡ false →
    IsBare s y → IsBare inner y
same_inside _ all inner _ is only last (itself s y e) =
    let twice : false ≡ true = sym last ∙ ap is_single (sym e ∙ is) ∙ ap is_one only in
    cc
same_inside _ all inner _ is only last (inside s other within y e one deep) =
    subst (λ (z : Statement). IsBare z y) (same_first within inner [] [] (sym one ∙ ap items_of (sym e ∙ is) ∙ only)) deep

pub one_core : (s : Statement) (x y : Statement-F Statement) → IsBare s x → is_single x ≡ false → IsBare s y → is_single y ≡ false → x ≡ y
one_core _ _ y (itself s x is) single other last = same_itself s x y is single other
one_core _ _ y (inside s all inner x is only deep) single other last = one_core inner x y deep single (same_inside s all inner y is only last other) last

-- a statement with this layer, but for `begin` and `end` round it, has a core with this layer
pub core_has : (s core : Statement) (x : Statement-F Statement) → IsCore s core → is_single x ≡ false → IsBare s x → out-Statement core ≡ x
core_has s core x c single bare = one_core s (out-Statement core) x c.bare c.end bare single

pub core_bare : (s core : Statement) (x : Statement-F Statement) → IsCore s core → out-Statement core ≡ x → IsBare s x
core_bare s core x c is = subst (IsBare s) is c.bare

-- ---- how it is found

pub core_inside : (s : Statement) (all : Vec Statement Global) (inner core : Statement) → out-Statement s ≡ Statement-F.Block all → all.items ≡ inner ∷ [] → IsCore inner core → IsCore s core
core_inside s all inner core is only c = record { bare = inside s all inner (out-Statement core) is only c.bare; end = c.end }

pub core_itself : (s : Statement) → is_single (out-Statement s) ≡ false → IsCore s s
core_itself s h = record { bare = itself s (out-Statement s) refl; end = h }

pub not_one : {A : Type 0} (xs : List A) → (length xs ≡ 1 → ⊥) → is_one xs ≡ false
not_one [] h = refl
not_one (y ∷ []) h = absurd (h refl)
not_one (y ∷ z ∷ zs) h = refl

-- the outermost layer of a statement that is made of it
pub layer_of : (s : Statement) (x : Statement-F Statement) → roll-Statement x ≡ s → out-Statement s ≡ x
layer_of s x is = ap out-Statement (sym is) ∙ out-roll-Statement x

layer_single : (s : Statement) (x : Statement-F Statement) → out-Statement s ≡ x → ((all : Vec Statement Global) → s ≡ y.Block all → ⊥) → is_single x ≡ false
layer_single s (Statement-F.Block all) is other = absurd (other all (sym (roll-out-Statement s) ∙ ap roll-Statement is ∙ rolls-Block all))
layer_single s _ is other = refl

-- what is no block is its own core
pub core_other : (s : Statement) → ((all : Vec Statement Global) → s ≡ y.Block all → ⊥) → IsCore s s
core_other s other = core_itself s (layer_single s (out-Statement s) refl other)

pub only_two : {A : Type 0} (xs : List A) (a b : A) → length xs ≡ 2 → a ≡ get_or xs 0 a → b ≡ get_or xs 1 b → xs ≡ a ∷ b ∷ []
only_two [] a b h e f = absurd (omega (arith, h))
only_two (x ∷ []) a b h e f = absurd (omega (arith, h))
only_two (x ∷ y ∷ []) a b h e f = ap (λ z. z ∷ y ∷ []) (sym e) ∙ ap (λ z. a ∷ z ∷ []) (sym f)
only_two (x ∷ y ∷ z ∷ zs) a b h e f = absurd (omega (arith, h))
