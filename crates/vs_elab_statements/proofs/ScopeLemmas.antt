-- Named blocks that have their scopes, in parts of statements.
use denote.Param.Weighed.{most, at_most}
use Rattle.std.proofs.Common.{◌≡◌, ℕ, zero, suc, ◌<◌, ◌≤◌, length, get_or, Option, List, [], ◌∷◌, ◌++◌, Some, slice_get, refl, sym, ◌∙◌, ap, subst}
use Rattle.std.proofs.lemmas.Option.{none-some, same_Some}
use Rattle.std.specs.List.{flat_map}
use Rattle.std.specs.declared.alloc.Global.{Global}
use Rattle.std.specs.declared.boxed.Box.{Box}
use Rattle.std.specs.declared.vec.Vec.{Vec}
use Rattle.vs_design.specs.vs_logic4.specs.declared.case.CaseKind.{CaseKind}
use Rattle.vs_syntax.specs.declared.tree.CaseLabel.{CaseLabel}
use Rattle.vs_syntax.specs.declared.tree.Expr.{Expr}
use Rattle.vs_syntax.specs.declared.tree.LocalDeclaration.{LocalDeclaration}
use Rattle.vs_syntax.specs.declared.tree.Stmt.{Stmt, size-Stmt}
use Rattle.vs_syntax.specs.declared.tree.Stmt.TheVariants as s
use Rattle.vs_elab_statements.specs.vs_widths.specs.Names.{meaning_of}
use Rattle.vs_scopes.specs.Pieces.{NamedBlock, blocks_among, blocks_in}
use Rattle.vs_scopes.specs.pieces_passes.Parts.{blocks_in_items}
use Rattle.vs_scopes.proofs.PiecesLemmas.{blocks_Block, blocks_Case}
use Rattle.vs_elab_statements.specs.vs_elab_signals.specs.declared.opened.ElabScope.{ElabScope as FoundScope}
use Rattle.vs_elab_statements.specs.passes.Bodies.{else_list}
use Rattle.vs_elab_statements.proofs.BlockLemmas.{blocks_Named}
use Rattle.vs_elab_statements.proofs.PartLemmas.{if_blocks}
use Rattle.vs_elab_statements.specs.Blocks.{HasScope, HaveScopes}

-- ---- one block

-- it is found
pub has_place : (list : List FoundScope) (place : ℕ) (name : List ℕ) (xs : List Stmt) (o : FoundScope) → HasScope list place name xs → slice_get list place ≡ Some o → (k : ℕ) × (meaning_of o.blocks name ≡ Some k)
has_place list _ _ _ o (HasScope.stands place name xs outer inner at found within) here =
    (inner, ap (λ (z : FoundScope). meaning_of z.blocks name) (same_Some o outer (sym here ∙ at)) ∙ found)

-- those in it have their scopes in the one of that place
pub has_inside : (list : List FoundScope) (place : ℕ) (name : List ℕ) (xs : List Stmt) (o : FoundScope) (k : ℕ) → HasScope list place name xs → slice_get list place ≡ Some o → meaning_of o.blocks name ≡ Some k → HaveScopes list k (blocks_among xs)
has_inside list _ _ _ o k (HasScope.stands place name xs outer inner at found within) here is =
    subst (λ j. HaveScopes list j (blocks_among xs)) (same_Some inner k (sym found ∙ ap (λ (z : FoundScope). meaning_of z.blocks name) (same_Some outer o (sym at ∙ here)) ∙ is)) within

pub have_one : (list : List FoundScope) (place : ℕ) (x : NamedBlock) (bs : List NamedBlock) → bs ≡ x ∷ [] → HaveScopes list place bs → HasScope list place x.name x.statements
have_one list place x bs same h = subst (HaveScopes list place) same h 0 x refl

-- ---- several

pub have_same : (list : List FoundScope) (place : ℕ) (bs cs : List NamedBlock) → bs ≡ cs → HaveScopes list place bs → HaveScopes list place cs
have_same list place bs cs same h = subst (HaveScopes list place) same h

module _ {A : Type 0} where
  at_first : (xs rest : List A) (i : ℕ) (x : A) → slice_get xs i ≡ Some x → slice_get (xs ++ rest) i ≡ Some x
  at_first [] rest i x h = absurd (none-some x h)
  at_first (y ∷ ys) rest zero x h = h
  at_first (y ∷ ys) rest (suc i) x h = at_first ys rest i x h

  at_behind : (front xs : List A) (i : ℕ) (x : A) → slice_get xs i ≡ Some x → (j : ℕ) × (slice_get (front ++ xs) j ≡ Some x)
  at_behind [] xs i x h = (i, h)
  at_behind (y ∷ ys) xs i x h = let q = at_behind ys xs i x h in (suc q.0, q.1)

pub have_left : (list : List FoundScope) (place : ℕ) (bs cs : List NamedBlock) → HaveScopes list place (bs ++ cs) → HaveScopes list place bs
have_left list place bs cs h k x is = h k x (at_first bs cs k x is)

pub have_right : (list : List FoundScope) (place : ℕ) (bs cs : List NamedBlock) → HaveScopes list place (bs ++ cs) → HaveScopes list place cs
have_right list place bs cs h k x is = let there = at_behind bs cs k x is in h there.0 x there.1

-- those of one part of a list
pub have_at : {A : Type 0} (list : List FoundScope) (place : ℕ) (f : A → List NamedBlock) (xs : List A) (i : ℕ) (x : A) → HaveScopes list place (flat_map f xs) → slice_get xs i ≡ Some x → HaveScopes list place (f x)
have_at list place f [] i x h is = absurd (none-some x is)
have_at list place f (y ∷ ys) zero x h is = subst (λ z. HaveScopes list place (f z)) (same_Some y x is) (have_left list place (f y) (flat_map f ys) h)
have_at list place f (y ∷ ys) (suc i) x h is = have_at list place f ys i x (have_right list place (f y) (flat_map f ys) h) is

-- ---- those of parts of a statement

module _ (list : List FoundScope) (place : ℕ) (x : Stmt) (h : HaveScopes list place (blocks_in x)) where
  pub in_block : (v : Vec Stmt Global) (xs : List Stmt) → x ≡ s.Block v → xs ≡ v.items → HaveScopes list place (blocks_among xs)
  in_block v xs is same = have_same list place (blocks_in x) (blocks_among xs) (ap blocks_in is ∙ blocks_Block v ∙ ap blocks_among (sym same)) h

  pub in_named : (n : Vec ℕ Global) (ls : Vec LocalDeclaration Global) (v : Vec Stmt Global) (name : List ℕ) (xs : List Stmt) → x ≡ s.Named n ls v → name ≡ n.items → xs ≡ v.items → HasScope list place name xs
  in_named n ls v name xs is named same =
      let one = have_one list place (record { name = n.items; locals = ls.items; statements = v.items }) (blocks_in x) (ap blocks_in is ∙ blocks_Named n ls v) h in
      subst (λ z. HasScope list place z xs) (sym named) (subst (HasScope list place n.items) (sym same) one)

  pub in_case : (kind : CaseKind) (e : Box Expr Global) (v : Vec (CaseLabel × Stmt) Global) (xs : List (CaseLabel × Stmt)) → x ≡ s.Case kind e v → xs ≡ v.items → HaveScopes list place (blocks_in_items xs)
  in_case kind e v xs is same = have_same list place (blocks_in x) (blocks_in_items xs) (ap blocks_in is ∙ blocks_Case kind e v ∙ ap blocks_in_items (sym same)) h

  pub in_then : (e : Box Expr Global) (y : Box Stmt Global) (o : Option (Box Stmt Global)) (z : Stmt) → x ≡ s.If e y o → z ≡ y.value → HaveScopes list place (blocks_in z)
  in_then e y o z is same =
      have_left list place (blocks_in z) (blocks_among (else_list o))
      (have_same list place (blocks_in x) (blocks_in z ++ blocks_among (else_list o)) (ap blocks_in is ∙ if_blocks e y o ∙ ap (λ w. blocks_in w ++ blocks_among (else_list o)) (sym same)) h)

  pub in_else : (e : Box Expr Global) (y : Box Stmt Global) (o : Option (Box Stmt Global)) → x ≡ s.If e y o → HaveScopes list place (blocks_among (else_list o))
  in_else e y o is =
      have_right list place (blocks_in y.value) (blocks_among (else_list o)) (have_same list place (blocks_in x) (blocks_in y.value ++ blocks_among (else_list o)) (ap blocks_in is ∙ if_blocks e y o) h)

  -- of the statement in another one
  pub in_around : (whole y z : Stmt) → x ≡ whole → blocks_in whole ≡ blocks_in y → z ≡ y → HaveScopes list place (blocks_in z)
  in_around whole y z is blocks same = have_same list place (blocks_in x) (blocks_in z) (ap blocks_in is ∙ blocks ∙ ap blocks_in (sym same)) h

-- of what stands behind `else`
pub in_other : (list : List FoundScope) (place : ℕ) (o : Option (Box Stmt Global)) (y : Box Stmt Global) (z : Stmt) → o ≡ Some y → z ≡ y.value → HaveScopes list place (blocks_among (else_list o)) → HaveScopes list place (blocks_in z)
in_other list place o y z is same h =
    subst (λ w. HaveScopes list place (blocks_in w)) (sym same) (have_left list place (blocks_in y.value) [] (have_same list place (blocks_among (else_list o)) (blocks_in y.value ++ []) (ap (λ w. blocks_among (else_list w)) is) h))

-- ---- depths

-- a statement is at most as deep as the deepest
pub stmt_within : (xs : List Stmt) (i : ℕ) (x : Stmt) → i < length xs → x ≡ get_or xs i x → size-Stmt x ≤ most size-Stmt xs
stmt_within xs i x p h = subst (λ y. size-Stmt y ≤ most size-Stmt xs) (sym h) (at_most size-Stmt xs i x p)
