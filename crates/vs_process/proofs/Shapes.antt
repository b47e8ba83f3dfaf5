-- Lemmas on statements by their outermost layer.
use Rattle.std.proofs.Common.{◌≡◌, ◌∙◌, false, List, [], ◌∷◌, ◌++◌, refl, sym, ap, subst, rules, Global, ℕ, ◌<◌, ◌+◌, length, drop, get_or}
use Rattle.std.proofs.lemmas.List.{drop_more}
use Rattle.std.specs.Prelude.{Vec}
use mathlib.Core.Former.{Count}
use Rattle.vs_design.specs.declared.statement.Statement.{Statement, Row_of-Statement, end_of-Statement, more_of-Statement, items-the_row-Statement}
use Rattle.vs_design.specs.declared.statement.Statement.TheVariants.{Block}
use Rattle.vs_design.specs.declared.statement.Statement.TheViews.{the_lemmas, roll-Statement, out-Statement, roll-out-Statement, out-roll-Statement}
use Rattle.vs_design.specs.declared.statement.Statement.TheOpen.{Statement-F}
use Rattle.vs_process.specs.Places.{perform, flat, flat_row}
use Rattle.vs_process.specs.Drafts.{flat_all, is_block}

pub flat_row-all : (n : Count) (row : Row_of-Statement n) → flat_row row ≡ flat_all (items-the_row-Statement n row)
flat_row-all _ end_of-Statement = refl
flat_row-all _ (more_of-Statement s rest) = ap (λ l. flat s ++ l) (flat_row-all _ rest)

pub flat_all-drop : (xs : List Statement) (i : ℕ) (s : Statement) → i < length xs → flat_all (drop i xs) ≡ flat (get_or xs i s) ++ flat_all (drop (i + 1) xs)
flat_all-drop xs i s h = ap flat_all (drop_more xs i s h)

pub flat-Block : (v : Vec Statement Global) → flat (Block v) ≡ flat_all v.items
flat-Block v = search (rules, the_lemmas, flat_row-all)

pub flat-rolled : (x : Statement-F Statement) → is_block x ≡ false → flat (roll-Statement x) ≡ perform (roll-Statement x) ∷ []
unfolding roll-Statement denote.Hole.Carrier.roll
flat-rolled (Statement-F.Block v) h = absurd (cc)
flat-rolled _ h = refl

pub flat-single : (s : Statement) → is_block (out-Statement s) ≡ false → flat s ≡ perform s ∷ []
flat-single s h = subst (λ t. flat t ≡ perform t ∷ []) (roll-out-Statement s) (flat-rolled (out-Statement s) h)

-- the outermost layer of a statement that is built of it
pub layer_of : (s t : Statement) (f : Statement-F Statement) → s ≡ t → roll-Statement f ≡ t → out-Statement s ≡ f
layer_of s t f is built = ap out-Statement (is ∙ sym built) ∙ out-roll-Statement f
