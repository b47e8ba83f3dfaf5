-- Faults of scopes: where they stand, and that none stands in scopes without faults.
use Rattle.std.proofs.Common.{◌≡◌, ℕ, zero, suc, ◌+◌, ℤ, Bool, false, ◌||◌, List, [], ◌∷◌, ◌++◌, Option, Some, None, inl, inr, ⊎_elim, length, map, get_or, option_map, refl, ap, sym, subst, ◌∙◌, arith, true≢false}
use Rattle.std.specs.List.{slice_get, All, IsDistinct}
use Rattle.std.specs.Str.{bytes_eq}
use Rattle.std.proofs.lemmas.Option.{none-some, same_Some, slice_get-map, slice_get_within, get_or_from_slice_get}
use Rattle.std.proofs.lemmas.Map.Keys.{apart_from_distinct}
use Rattle.std.proofs.lemmas.Slice.Eq.{bytes_eq-Decides}
use Rattle.vs_syntax.specs.declared.tree.Module.{Module}
use Rattle.vs_syntax.specs.declared.tree.ModuleItem.{ModuleItem}
use Rattle.vs_scopes.specs.vs_widths.specs.declared.constants.Const.{Const}
use Rattle.vs_scopes.specs.vs_widths.specs.Environment.{Environment}
use Rattle.vs_elab_signals.specs.vs_scopes.specs.Pieces.{NamedBlock, blocks_of, Piece, plain, loop, choice, local, inside, net, Content, nothing, block, content_of}
use Rattle.vs_scopes.specs.declared.faults.Reason.{Reason}
use Rattle.vs_scopes.specs.declared.faults.Reason.TheVariants.{NoModule, Inside, PortMismatch, ParameterMismatch, DeclaredTwice, DrivenTwice, Limit, Width, Endless, Unnamed, Timescales, Format}
use Rattle.vs_scopes.specs.declared.faults.BodyFault.{BodyFault}
use Rattle.vs_scopes.specs.declared.faults.ElabFault.{ElabFault}
use Rattle.vs_scopes.specs.Printed.{PathName, Path}
use Rattle.vs_scopes.specs.Parameters.{is_override_mismatch}
use Rattle.vs_scopes.specs.Declarations.{Use, uses_in, uses_by_item, uses_among, is_unlike}
use Rattle.vs_scopes.specs.Generate.{Inner, instance, generated, Turns, turns, faulty, endless, Taken, takes, refused, turns_of, chosen, name_of_block, generates, content_inner, turns_inner, loop_inner, choice_inner, genvar_number, inner_in, inner_from, after_piece, turns_fault, taken_fault, construct_fault, constructs_fault}
use Rattle.vs_scopes.specs.Generate as g
use Rattle.vs_scopes.specs.Scopes.{Scope, Before, before_following, within_first, all_names_of, text_names, environment, uses_of, inner_of, is_named_as_net, opened, of_opened, below, scopes_within, is_inside, is_port_mismatch}
use Rattle.vs_scopes.specs.scopes_passes.Answers.{IsReported, Refuses, IsRefusal}
use Rattle.vs_scopes.proofs.Folds.{any_false_at}
use Rattle.vs_scopes.proofs.AnswerLemmas.{told_by, told_part}
use Rattle.vs_elab_signals.specs.ScopeFaults.{Repeated, of_module, AtInstance, parameter_fault, override_fault, HasConstructFault, PassesLimit, PassesTurns, HoldsOpening, HoldsOpeningIn}
use Rattle.vs_elab_hierarchy.specs.vs_elab_signals.specs.nets_passes.Nets.{IsNamedAsNet}
use Rattle.vs_elab_hierarchy.specs.passes.Entering.{IsSoundUse, IsSoundInner, EntersNot}
use Rattle.vs_elab_hierarchy.specs.scope_passes.Own.{IsSoundOwn, HoldsOwn}
use Rattle.vs_elab_hierarchy.specs.scope_passes.Adding.{AddsInnerNot}
use Rattle.vs_elab_hierarchy.specs.hierarchy_passes.Opens.{HasInnerNot, IsSoundInside}
use Rattle.vs_elab_hierarchy.proofs.ListLemmas.{slice_either, all_at}
use Rattle.vs_design.specs.vs_logic4.proofs.Basics.{slice_front, slice_back}
use Rattle.vs_elab_hierarchy.proofs.OwnLemmas.{is_deep, is_few}
use Rattle.vs_elab_hierarchy.proofs.OpenLemmas.{below_append, within_inside}

-- ---- instances among what opens scopes

-- none of these is an instance
abbrev NoUse : List Inner → Type 0
NoUse xs = (i : ℕ) (u : Use) → slice_get xs i ≡ Some (instance u) → ⊥

no_use_none : NoUse []
no_use_none i u h = none-some (instance u) h

no_use_append : (xs ys : List Inner) → NoUse xs → NoUse ys → NoUse (xs ++ ys)
no_use_append xs ys h k i u e = ⊎_elim (λ p. h i u p.1) (λ p. k p.0 u p.2) (slice_either xs ys i (instance u) e)

no_use_generates : (i : ℕ) (n : Option (List ℕ)) (turn : Option ℤ) (cs : List (List ℕ × Const)) (xs : List ModuleItem) → NoUse (generates i n turn cs xs)
no_use_generates i None turn cs xs j u h = none-some (instance u) h
no_use_generates i (Some n) turn cs xs zero u h = wrong (same_Some (generated i (record { name = n; turn = turn }) cs xs) (instance u) h)
  where
    wrong : generated i (record { name = n; turn = turn }) cs xs ≡ instance u → ⊥
    wrong e = cc
no_use_generates i (Some n) turn cs xs (suc j) u h = none-some (instance u) h

no_use_content : (i : ℕ) (names : List (List ℕ)) (k : ℕ) (turn : Option ℤ) (cs : List (List ℕ × Const)) (x : Content) → NoUse (content_inner i names k turn cs x)
no_use_content i names k turn cs nothing = no_use_none
no_use_content i names k turn cs (block n xs) = no_use_generates i (name_of_block names k n) turn cs xs

no_use_turns : (i : ℕ) (names : List (List ℕ)) (k : ℕ) (n : List ℕ) (x : Content) (cs : List Const) → NoUse (turns_inner i names k n x cs)
no_use_turns i names k n x [] = no_use_none
no_use_turns i names k n x (c ∷ cs) = no_use_append (content_inner i names k (genvar_number c) ((n, c) ∷ []) x) (turns_inner i names k n x cs) (no_use_content i names k (genvar_number c) ((n, c) ∷ []) x) (no_use_turns i names k n x cs)

no_use_loop : (i : ℕ) (names : List (List ℕ)) (k : ℕ) (n : List ℕ) (x : Content) (t : Turns) → NoUse (loop_inner i names k n x t)
no_use_loop i names k n x (turns cs) = no_use_turns i names k n x cs
no_use_loop i names k n x (faulty w) = no_use_none
no_use_loop i names k n x endless = no_use_none

no_use_choice : (i : ℕ) (names : List (List ℕ)) (k : ℕ) (t : Taken) → NoUse (choice_inner i names k t)
no_use_choice i names k (takes x) = no_use_content i names k None [] x
no_use_choice i names k (refused w) = no_use_none

no_use_named : (bs : List NamedBlock) → NoUse (map g.named bs)
no_use_named [] i u h = none-some (instance u) h
no_use_named (b ∷ bs) zero u h = wrong (same_Some (g.named b) (instance u) h)
  where
    wrong : g.named b ≡ instance u → ⊥
    wrong e = cc
no_use_named (b ∷ bs) (suc i) u h = no_use_named bs i u h

mapped_use : (us : List Use) (i : ℕ) (u : Use) → slice_get (map instance us) i ≡ Some (instance u) → slice_get us i ≡ Some u
mapped_use [] i u h = absurd (none-some (instance u) h)
mapped_use (v ∷ us) zero u h = ap Some (same (same_Some (instance v) (instance u) h))
  where
    same : instance v ≡ instance u → v ≡ u
    same e = cc
mapped_use (v ∷ us) (suc i) u h = mapped_use us i u h

module _ (env : Environment) (names : List (List ℕ)) where
  piece_use : (at k : ℕ) (p : Piece) (i : ℕ) (u : Use) → slice_get (inner_in at env names k p) i ≡ Some (instance u) → (j : ℕ) × (slice_get (uses_in p) j ≡ Some u)
  piece_use at k (plain x) i u h =
      ⊎_elim (λ p. (i, mapped_use (uses_by_item x) i u p.1)) (λ p. absurd (no_use_named (blocks_of x) p.0 u p.2)) (slice_either (map instance (uses_by_item x)) (map g.named (blocks_of x)) i (instance u) h)
  piece_use at k (loop h x) i u e = absurd (no_use_loop at names k h.name.items (content_of x) (turns_of env h) i u e)
  piece_use at k (choice c x o) i u e = absurd (no_use_choice at names k (chosen env c x o) i u e)
  piece_use at k (local x) i u e = absurd (none-some (instance u) e)
  piece_use at k (inside b) i u e = absurd (no_use_named (b ∷ []) i u e)
  piece_use at k (net n) i u e = absurd (none-some (instance u) e)

  -- an instance that pieces open is one of theirs
  pub inner_use : (at k : ℕ) (ps : List Piece) (i : ℕ) (u : Use) → slice_get (inner_from at env names k ps) i ≡ Some (instance u) → (j : ℕ) × (slice_get (uses_among ps) j ≡ Some u)
  inner_use at k [] i u h = absurd (none-some (instance u) h)
  inner_use at k (p ∷ ps) i u h =
      ⊎_elim (λ q. (let one = piece_use at k p i u q.1 in (one.0, slice_front (uses_in p) (uses_among ps) one.0 u one.1)))
      (λ q. (let rest = inner_use (suc at) (after_piece k p) ps q.0 u q.2 in (length (uses_in p) + rest.0, slice_back (uses_in p) (uses_among ps) rest.0 ∙ rest.1)))
      (slice_either (inner_in at env names k p) (inner_from (suc at) env names (after_piece k p) ps) i (instance u) h)

  use_piece : (at k : ℕ) (p : Piece) (j : ℕ) (u : Use) → slice_get (uses_in p) j ≡ Some u → (i : ℕ) × (slice_get (inner_in at env names k p) i ≡ Some (instance u))
  use_piece at k (plain x) j u h = (j, slice_front (map instance (uses_by_item x)) (map g.named (blocks_of x)) j (instance u) (slice_get-map instance (uses_by_item x) j ∙ ap (option_map instance) h))
  use_piece at k (loop h x) j u e = absurd (none-some u e)
  use_piece at k (choice c x o) j u e = absurd (none-some u e)
  use_piece at k (local x) j u e = absurd (none-some u e)
  use_piece at k (inside b) j u e = absurd (none-some u e)
  use_piece at k (net n) j u e = absurd (none-some u e)

  -- each instance of pieces is opened by them
  pub use_inner : (at k : ℕ) (ps : List Piece) (j : ℕ) (u : Use) → slice_get (uses_among ps) j ≡ Some u → (i : ℕ) × (slice_get (inner_from at env names k ps) i ≡ Some (instance u))
  use_inner at k [] j u h = absurd (none-some u h)
  use_inner at k (p ∷ ps) j u h =
      let own = inner_in at env names k p in
      let others = inner_from (suc at) env names (after_piece k p) ps in
      ⊎_elim (λ q. (let one = use_piece at k p j u q.1 in (one.0, slice_front own others one.0 (instance u) one.1)))
      (λ q. (let rest = use_inner (suc at) (after_piece k p) ps q.0 u q.2 in (length own + rest.0, slice_back own others rest.0 ∙ rest.1)))
      (slice_either (uses_in p) (uses_among ps) j u h)

-- ---- where faults stand

own_holds : (ms : List Module) (s : Scope) (r : Reason) (p : Path) → HoldsOwn s r p → HoldsOpening ms s r p
own_holds ms s PortMismatch p (inl h) = inr (inl h)
own_holds ms s PortMismatch p (inr h) = inr (inr h)
own_holds ms s ParameterMismatch p h = inr h
own_holds ms s DeclaredTwice p (inl h) = inl h
own_holds ms s DeclaredTwice p (inr (inl h)) = inr (inl h)
own_holds ms s DeclaredTwice p (inr (inr h)) = inr (inr (inl h))
own_holds ms s Limit p h = h
own_holds ms s (Width w) p h = inr (inr (inr (inr h)))
own_holds ms s NoModule p h = absurd h
own_holds ms s Inside p h = absurd h
own_holds ms s DrivenTwice p h = absurd h
own_holds ms s Endless p h = absurd h
own_holds ms s Unnamed p h = absurd h
own_holds ms s Timescales p h = absurd h
own_holds ms s (Format wrong) p h = absurd h

use_holds : (ms : List Module) (s : Scope) (j : ℕ) (u : Use) (r : Reason) (p : Path) → slice_get (uses_of s) j ≡ Some u → EntersNot ms s (instance u) r p → HoldsOpening ms s r p
use_holds ms s j u NoModule p k h = record { place = j; instance = u; stands = k; none = h.0; path = h.1 }
use_holds ms s j u Inside p k h = record { place = j; instance = u; stands = k; holds = h.0; path = h.1 }
use_holds ms s j u PortMismatch p k h = inl (record { place = j; instance = u; stands = k; holds = h.0; path = h.1 })
use_holds ms s j u ParameterMismatch p k h = inl (record { place = j; instance = u; stands = k; holds = h.0; path = h.1 })
use_holds ms s j u (Width w) p k (inl h) = inl (record { place = j; instance = u; stands = k; holds = h.0; path = h.1 })
use_holds ms s j u (Width w) p k (inr h) = inr (inl (record { place = j; instance = u; stands = k; holds = h.0; path = h.1 }))
use_holds ms s j u DeclaredTwice p k h = absurd h
use_holds ms s j u DrivenTwice p k h = absurd h
use_holds ms s j u Limit p k h = absurd h
use_holds ms s j u Endless p k h = absurd h
use_holds ms s j u Unnamed p k h = absurd h
use_holds ms s j u Timescales p k h = absurd h
use_holds ms s j u (Format wrong) p k h = absurd h

block_holds : (ms : List Module) (s : Scope) (i at : ℕ) (n : PathName) (cs : List (List ℕ × Const)) (xs : List ModuleItem) (r : Reason) (p : Path) → slice_get (inner_of s) i ≡ Some (generated at n cs xs) → EntersNot ms s (generated at n cs xs) r p → HoldsOpening ms s r p
block_holds ms s i at n cs xs (Width w) p k h = inr (inr (inl (record { place = i; piece = at; title = n; constants = cs; items = xs; stands = k; holds = h.0; path = h.1 })))
block_holds ms s i at n cs xs NoModule p k h = absurd h
block_holds ms s i at n cs xs Inside p k h = absurd h
block_holds ms s i at n cs xs PortMismatch p k h = absurd h
block_holds ms s i at n cs xs ParameterMismatch p k h = absurd h
block_holds ms s i at n cs xs DeclaredTwice p k h = absurd h
block_holds ms s i at n cs xs DrivenTwice p k h = absurd h
block_holds ms s i at n cs xs Limit p k h = absurd h
block_holds ms s i at n cs xs Endless p k h = absurd h
block_holds ms s i at n cs xs Unnamed p k h = absurd h
block_holds ms s i at n cs xs Timescales p k h = absurd h
block_holds ms s i at n cs xs (Format wrong) p k h = absurd h

enters_holds : (ms : List Module) (s : Scope) (i : ℕ) (x : Inner) (r : Reason) (p : Path) → slice_get (inner_of s) i ≡ Some x → EntersNot ms s x r p → HoldsOpening ms s r p
enters_holds ms s i (instance u) r p k h = let one = inner_use (environment s) (text_names s) 0 1 s.pieces i u k in use_holds ms s one.0 u r p one.1 h
enters_holds ms s i (generated at n cs xs) r p k h = block_holds ms s i at n cs xs r p k h
enters_holds ms s i (g.named x) r p k h = absurd h

-- a reason that is none of a generate construct
abbrev Quiet : Reason → Type 0
Quiet (Width w) = ⊥
Quiet Endless = ⊥
Quiet Unnamed = ⊥
Quiet r = Unit {0}

turns_quiet : (r : Reason) → Quiet r → (names : List (List ℕ)) (k : ℕ) (x : Content) (t : Turns) → turns_fault r names k x t ≡ false
turns_quiet NoModule q names k x t = refl
turns_quiet Inside q names k x t = refl
turns_quiet PortMismatch q names k x t = refl
turns_quiet ParameterMismatch q names k x t = refl
turns_quiet DeclaredTwice q names k x t = refl
turns_quiet DrivenTwice q names k x t = refl
turns_quiet Limit q names k x t = refl
turns_quiet (Width w) q names k x t = absurd q
turns_quiet Endless q names k x t = absurd q
turns_quiet Unnamed q names k x t = absurd q
turns_quiet Timescales q names k x t = refl
turns_quiet (Format wrong) q names k x t = refl

taken_quiet : (r : Reason) → Quiet r → (names : List (List ℕ)) (k : ℕ) (t : Taken) → taken_fault r names k t ≡ false
taken_quiet NoModule q names k t = refl
taken_quiet Inside q names k t = refl
taken_quiet PortMismatch q names k t = refl
taken_quiet ParameterMismatch q names k t = refl
taken_quiet DeclaredTwice q names k t = refl
taken_quiet DrivenTwice q names k t = refl
taken_quiet Limit q names k t = refl
taken_quiet (Width w) q names k t = absurd q
taken_quiet Endless q names k t = absurd q
taken_quiet Unnamed q names k t = absurd q
taken_quiet Timescales q names k t = refl
taken_quiet (Format wrong) q names k t = refl

construct_quiet : (r : Reason) → Quiet r → (env : Environment) (names : List (List ℕ)) (k : ℕ) (p : Piece) → construct_fault r env names k p ≡ false
construct_quiet r q env names k (loop h x) = turns_quiet r q names k (content_of x) (turns_of env h)
construct_quiet r q env names k (choice e x o) = taken_quiet r q names k (chosen env e x o)
construct_quiet r q env names k (plain x) = refl
construct_quiet r q env names k (local x) = refl
construct_quiet r q env names k (inside b) = refl
construct_quiet r q env names k (net n) = refl

constructs_quiet : (r : Reason) → Quiet r → (env : Environment) (names : List (List ℕ)) (k : ℕ) (ps : List Piece) → constructs_fault r env names k ps ≡ false
constructs_quiet r q env names k [] = refl
constructs_quiet r q env names k (p ∷ ps) =
    ap (λ z. z || constructs_fault r env names (after_piece k p) ps) (construct_quiet r q env names k p) ∙ constructs_quiet r q env names (after_piece k p) ps

construct_holds : (ms : List Module) (s : Scope) (r : Reason) (p : Path) → HasConstructFault s r p → HoldsOpening ms s r p
construct_holds ms s (Width w) p h = inr (inr (inr (inl h)))
construct_holds ms s Endless p h = h
construct_holds ms s Unnamed p h = h
construct_holds ms s Timescales p h = absurd (true≢false (sym h.0 ∙ constructs_quiet Timescales tt (environment s) (text_names s) 1 s.pieces))
construct_holds ms s (Format wrong) p h = absurd (true≢false (sym h.0 ∙ constructs_quiet (Format wrong) tt (environment s) (text_names s) 1 s.pieces))
construct_holds ms s NoModule p h = absurd (true≢false (sym h.0 ∙ constructs_quiet NoModule tt (environment s) (text_names s) 1 s.pieces))
construct_holds ms s Inside p h = absurd (true≢false (sym h.0 ∙ constructs_quiet Inside tt (environment s) (text_names s) 1 s.pieces))
construct_holds ms s PortMismatch p h = absurd (true≢false (sym h.0 ∙ constructs_quiet PortMismatch tt (environment s) (text_names s) 1 s.pieces))
construct_holds ms s ParameterMismatch p h = absurd (true≢false (sym h.0 ∙ constructs_quiet ParameterMismatch tt (environment s) (text_names s) 1 s.pieces))
construct_holds ms s DeclaredTwice p h = absurd (true≢false (sym h.0 ∙ constructs_quiet DeclaredTwice tt (environment s) (text_names s) 1 s.pieces))
construct_holds ms s DrivenTwice p h = absurd (true≢false (sym h.0 ∙ constructs_quiet DrivenTwice tt (environment s) (text_names s) 1 s.pieces))
construct_holds ms s Limit p h = absurd (true≢false (sym h.0 ∙ constructs_quiet Limit tt (environment s) (text_names s) 1 s.pieces))

-- a construct's fault, as it is told
pub construct_told : (s : Scope) (f : BodyFault) (e : ElabFault) → Refuses (λ r. constructs_fault r (environment s) (text_names s) 1 s.pieces) f → IsRefusal s.path f e → IsReported (HasConstructFault s) e
construct_told s f e h k = told_part (HasConstructFault s) (λ r. constructs_fault r (environment s) (text_names s) 1 s.pieces) s.path f e (λ r q. (q, refl)) h k

-- ---- among scopes

holds_left : (ms : List Module) (xs ys : List Scope) (r : Reason) (p : Path) → HoldsOpeningIn ms xs r p → HoldsOpeningIn ms (xs ++ ys) r p
holds_left ms [] ys r p h = absurd h
holds_left ms (x ∷ xs) ys r p (inl h) = inl h
holds_left ms (x ∷ xs) ys r p (inr h) = inr (holds_left ms xs ys r p h)

holds_right : (ms : List Module) (xs ys : List Scope) (r : Reason) (p : Path) → HoldsOpeningIn ms ys r p → HoldsOpeningIn ms (xs ++ ys) r p
holds_right ms [] ys r p h = h
holds_right ms (x ∷ xs) ys r p h = inr (holds_right ms xs ys r p h)

-- a fault of the scope itself
scope_holds : (room : ℕ) (ms : List Module) (s : Scope) (r : Reason) (p : Path) → HoldsOpening ms s r p → HoldsOpeningIn ms (scopes_within room ms s) r p
scope_holds room ms s r p h = subst (λ z. HoldsOpeningIn ms z r p) (sym (within_inside room ms s)) (inl h)

pub own_told : (room : ℕ) (ms : List Module) (s : Scope) (e : ElabFault) → IsReported (HoldsOwn s) e → IsReported (HoldsOpeningIn ms (scopes_within room ms s)) e
own_told room ms s e h = told_by (HoldsOwn s) (HoldsOpeningIn ms (scopes_within room ms s)) e (λ r p k. scope_holds room ms s r p (own_holds ms s r p k)) h

blocks_hold : (ms : List Module) (s : Scope) (r : Reason) (p : Path) → IsNamedAsNet s (inner_of s) r p → HoldsOpening ms s r p
blocks_hold ms s DeclaredTwice p h =
    inr (inr (inr (record { place = h.place; piece = h.piece; title = h.title; constants = h.constants; items = h.items; stands = h.stands; holds = h.holds; path = h.path })))
blocks_hold ms s NoModule p h = absurd h
blocks_hold ms s Inside p h = absurd h
blocks_hold ms s PortMismatch p h = absurd h
blocks_hold ms s ParameterMismatch p h = absurd h
blocks_hold ms s DrivenTwice p h = absurd h
blocks_hold ms s Limit p h = absurd h
blocks_hold ms s (Width w) p h = absurd h
blocks_hold ms s Endless p h = absurd h
blocks_hold ms s Unnamed p h = absurd h
blocks_hold ms s Timescales p h = absurd h
blocks_hold ms s (Format wrong) p h = absurd h

-- why nothing is opened in it
pub inner_not_told : (room : ℕ) (ms : List Module) (s : Scope) (e : ElabFault) → IsReported (HasInnerNot s) e → IsReported (HoldsOpeningIn ms (scopes_within room ms s)) e
inner_not_told room ms s e h = told_by (HasInnerNot s) (HoldsOpeningIn ms (scopes_within room ms s)) e (λ r p k. scope_holds room ms s r p (⊎_elim (construct_holds ms s r p) (blocks_hold ms s r p) k)) h

module _ (n : ℕ) (ms : List Module) (s : Scope) (done : List Inner) (x : Inner) (rest : List Inner) (whole : (done ++ x ∷ []) ++ rest ≡ inner_of s) (at : Before) (here : at ≡ before_following (within_first s) (below ms (scopes_within n ms) s (within_first s) done)) where
  -- a fault in a scope that one of them opens
  inner_holds : (inner : Scope) (r : Reason) (p : Path) → opened ms s at x ≡ Some inner → HoldsOpeningIn ms (scopes_within n ms inner) r p → HoldsOpeningIn ms (scopes_within (suc n) ms s) r p
  inner_holds inner r p o h =
      let F = scopes_within n ms in
      let first = within_first s in
      let these = below ms F s first done in
      let one : F inner ++ below ms F s (before_following at (F inner)) rest ≡ below ms F s at (x ∷ rest) = ap (λ z. of_opened F z ++ below ms F s (before_following at (of_opened F z)) rest) (sym o) in
      let all : these ++ below ms F s at (x ∷ rest) ≡ below ms F s first (inner_of s) =
      ap (λ z. these ++ below ms F s z (x ∷ rest)) here ∙ sym (below_append ms F s first done (x ∷ rest)) ∙ ap (below ms F s first) (split done ∙ whole) in
      subst (λ z. HoldsOpeningIn ms z r p) (sym (within_inside (suc n) ms s)) (inr (subst (λ z. HoldsOpeningIn ms z r p) all (holds_right ms these (below ms F s at (x ∷ rest)) r p
      (subst (λ z. HoldsOpeningIn ms z r p) one (holds_left ms (F inner) (below ms F s (before_following at (F inner)) rest) r p h)))))
    where
      split : (ys : List Inner) → ys ++ (x ∷ rest) ≡ (ys ++ x ∷ []) ++ rest
      split [] = refl
      split (y ∷ ys) = ap (λ z. y ∷ z) (split ys)

  pub inner_told : (inner : Scope) (e : ElabFault) → opened ms s at x ≡ Some inner → IsReported (HoldsOpeningIn ms (scopes_within n ms inner)) e → IsReported (HoldsOpeningIn ms (scopes_within (suc n) ms s)) e
  inner_told inner e o h = told_by (HoldsOpeningIn ms (scopes_within n ms inner)) (HoldsOpeningIn ms (scopes_within (suc n) ms s)) e (λ r p k. inner_holds inner r p o k) h

  stands_here : slice_get (inner_of s) (length done) ≡ Some x
  stands_here = ap (λ z. slice_get z (length done)) (sym whole) ∙ slice_front (done ++ x ∷ []) rest (length done) x (at_end done)
    where
      at_end : (ys : List Inner) → slice_get (ys ++ x ∷ []) (length ys) ≡ Some x
      at_end [] = refl
      at_end (y ∷ ys) = at_end ys

  -- one that wasn't added
  pub adds_told : (e : ElabFault) → IsReported (AddsInnerNot ms s at x) e → IsReported (HoldsOpeningIn ms (scopes_within (suc n) ms s)) e
  adds_told e h = told_by (AddsInnerNot ms s at x) (HoldsOpeningIn ms (scopes_within (suc n) ms s)) e by h
    where
      by : (r : Reason) (p : Path) → AddsInnerNot ms s at x r p → HoldsOpeningIn ms (scopes_within (suc n) ms s) r p
      by r p (inl k) = scope_holds (suc n) ms s r p (enters_holds ms s (length done) x r p stands_here k)
      by r p (inr k) = inner_holds k.0 r p k.1 (scope_holds n ms k.0 r p (own_holds ms k.0 r p k.2))

-- ---- scopes without faults

-- names that differ aren't repeated
pub not_repeated : (ns : List (List ℕ)) (n : List ℕ) → IsDistinct bytes_eq ns → Repeated ns n → ⊥
not_repeated ns n u r =
    let apart = apart_from_distinct bytes_eq ns r.first r.second [] u r.before (slice_get_within ns r.second n r.other) in
    let one = get_or_from_slice_get ns r.first n [] r.one in
    let other = get_or_from_slice_get ns r.second n [] r.other in
    let same : bytes_eq n n ≡ false = sym (ap (λ z. bytes_eq z n) one) ∙ sym (ap (bytes_eq (get_or ns r.first [])) other) ∙ apart in
    true≢false (sym ((bytes_eq-Decides n n).1 refl) ∙ same)

module _ (ms : List Module) (s : Scope) (own : IsSoundOwn s) (within : IsSoundInside ms s) where
  use_at : (j : ℕ) (u : Use) → slice_get (uses_of s) j ≡ Some u → IsSoundUse ms s u
  use_at j u h = let i = use_inner (environment s) (text_names s) 0 1 s.pieces j u h in all_at (IsSoundInner ms s) (inner_of s) i.0 (instance u) within.inner i.1

  -- a test that the module of no sound instance passes
  no_instance : (test : Use → Module → Bool) → ((u : Use) (h : IsSoundUse ms s u) → test u h.body ≡ false) → (p : Path) → AtInstance ms s test p → ⊥
  no_instance test f p h =
      let u = use_at h.place h.instance h.stands in
      true≢false (sym h.holds ∙ ap (of_module (test h.instance)) u.found ∙ f h.instance u)

  within_limits : (p : Path) → PassesLimit s p → ⊥
  within_limits p (inl (deep, e)) = omega (arith, deep, own.shallow)
  within_limits p (inr (inl many, e)) = let h = is_few s own.few many.0 in omega (arith, many.1, h)
  within_limits p (inr (inr (inl many), e)) = omega (arith, many, own.room)
  within_limits p (inr (inr (inr deep), e)) = let h = is_deep s own.few in omega (arith, deep, h)

  in_time : (p : Path) → PassesTurns s p → ⊥
  in_time p h = omega (arith, h.0, own.turns)

  pub none_holds : (r : Reason) (p : Path) → HoldsOpening ms s r p → ⊥
  none_holds NoModule p h = let u = use_at h.place h.instance h.stands in none-some u.body (sym h.none ∙ u.found)
  none_holds Inside p h = no_instance (λ u m. is_inside s m) (λ u k. k.outside) p h
  none_holds PortMismatch p (inl h) = no_instance is_port_mismatch (λ u k. k.ports) p h
  none_holds PortMismatch p (inr (inl h)) = true≢false (sym h.0 ∙ own.ports)
  none_holds PortMismatch p (inr (inr h)) = true≢false (sym h.0 ∙ own.stray)
  none_holds ParameterMismatch p (inl h) = no_instance (λ u m. is_override_mismatch u.overrides m) (λ u k. k.fits) p h
  none_holds ParameterMismatch p (inr h) = true≢false (sym h.0 ∙ own.parameters)
  none_holds DeclaredTwice p (inl h) = not_repeated (all_names_of s) h.name own.distinct h.repeated
  none_holds DeclaredTwice p (inr (inl h)) = true≢false (sym h.unlike ∙ any_false_at (is_unlike s.known s.pieces) s.ports h.place h.port own.alike h.stands)
  none_holds DeclaredTwice p (inr (inr (inl h))) = none-some p (sym (ap (λ z. slice_get z h.place) own.nets) ∙ h.stands)
  none_holds DeclaredTwice p (inr (inr (inr h))) =
      true≢false (sym h.holds ∙ any_false_at (is_named_as_net s) (inner_of s) h.place (generated h.piece h.title h.constants h.items) within.nets h.stands)
  none_holds DrivenTwice p h = h
  none_holds Limit p (inl h) = within_limits p h
  none_holds Limit p (inr (inl h)) = in_time p h
  none_holds Limit p (inr (inr h)) = true≢false (sym h.0 ∙ own.sized Limit)
  none_holds (Width w) p (inl h) = no_instance (parameter_fault w s) (λ u k. k.parameters w) p h
  none_holds (Width w) p (inr (inl h)) = let u = use_at h.place h.instance h.stands in true≢false (sym h.holds ∙ ap (of_module (override_fault w s h.instance)) u.found ∙ u.overrides w)
  none_holds (Width w) p (inr (inr (inl h))) = true≢false (sym h.holds ∙ all_at (IsSoundInner ms s) (inner_of s) h.place (generated h.piece h.title h.constants h.items) within.inner h.stands w)
  none_holds (Width w) p (inr (inr (inr (inl h)))) = true≢false (sym h.0 ∙ within.constructs (Width w))
  none_holds (Width w) p (inr (inr (inr (inr h)))) = true≢false (sym h.0 ∙ own.sized (Width w))
  none_holds Endless p h = true≢false (sym h.0 ∙ within.constructs Endless)
  none_holds Unnamed p h = true≢false (sym h.0 ∙ within.constructs Unnamed)
  none_holds Timescales p h = h
  none_holds (Format wrong) p h = h

pub none_in : (ms : List Module) (ss : List Scope) → All IsSoundOwn ss → All (IsSoundInside ms) ss → (r : Reason) (p : Path) → HoldsOpeningIn ms ss r p → ⊥
none_in ms [] own within r p h = h
none_in ms (s ∷ ss) own within r p (inl h) = none_holds ms s (own 0 s (omega arith)) (within 0 s (omega arith)) r p h
none_in ms (s ∷ ss) own within r p (inr h) = none_in ms ss (λ i d l. own (suc i) d (omega (arith, l))) (λ i d l. within (suc i) d (omega (arith, l))) r p h
