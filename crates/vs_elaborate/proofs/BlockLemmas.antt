-- The named blocks of the processes of a source have their scopes.
use Rattle.std.proofs.Common.{◌≡◌, ℕ, zero, suc, ◌+◌, ◌<◌, ◌≤◌, ◌⊎◌, inl, inr, ⊎_elim, Bool, true, false, cond, List, [], ◌∷◌, ◌++◌, Option, Some, None, IsSome, length, map, slice_get, refl, ap, ap₂, sym, subst, ◌∙◌, arith, true≢false}
use Rattle.std.specs.List.{IsDistinct}
use Rattle.std.proofs.lemmas.Option.{none-some, same_Some, slice_get_within}
use Rattle.vs_syntax.specs.declared.tree.Module.{Module}
use Rattle.vs_syntax.specs.declared.tree.Source.{Source}
use Rattle.vs_elab_statements.specs.vs_scopes.specs.vs_widths.specs.Environment.{Environment}
use Rattle.vs_elab_statements.specs.vs_widths.specs.Names.{meaning_of}
use Rattle.vs_elab_hierarchy.specs.vs_scopes.specs.Pieces.{NamedBlock, Piece, plain, loop, choice, local, inside, net, block_pieces, blocks_among, blocks_of}
use Rattle.vs_elab_hierarchy.specs.vs_scopes.specs.Reads.{read_piece}
use Rattle.vs_elab_hierarchy.specs.vs_scopes.specs.Uses.{names_used}
use Rattle.vs_elab_statements.specs.vs_scopes.specs.Printed.{PathName, plainly, Path, same_part, same_path}
use Rattle.vs_elab_statements.specs.vs_scopes.specs.Declarations.{Bindings, uses_by_item}
use Rattle.vs_elab_statements.specs.vs_scopes.specs.Nets.{Sight, new_among, permits_nets, pieces_with_nets, is_known, with_nets}
use Rattle.vs_elab_statements.specs.vs_scopes.specs.Generate.{Inner, instance, inner_in, inner_from, after_piece}
use Rattle.vs_elab_statements.specs.vs_scopes.specs.Generate as g
use Rattle.vs_elab_statements.specs.vs_scopes.specs.Parameters.{any_fault}
use Rattle.vs_elab_statements.specs.vs_scopes.specs.Scopes.{Scope, Before, before_following, within_first, inner_of, module_named, named, opened, of_opened, below, block_fault, block_scope, block_text, environment, scopes_within, deepest, opened_top, scopes_of, sight_in, text_names}
use Rattle.vs_elab_hierarchy.specs.Laws.{scope_paths}
use Rattle.vs_elab_hierarchy.proofs.PathsDiffer.{part_decides, paths_not_same, first_same}
use Rattle.vs_elab_hierarchy.proofs.PathsOpened.{IsOpenedTop, title_of, what_is_opened, what_is_opened_top}
use Rattle.vs_elab_hierarchy.proofs.PathsText.{HasText}
use Rattle.vs_elab_hierarchy.proofs.TitleLemmas.{titles_differ}
use Rattle.vs_elab_statements.specs.vs_elab_signals.specs.declared.opened.ElabScope.{ElabScope as FoundScope}
use Rattle.vs_elab_statements.specs.vs_elab_signals.specs.declared.opened.Hierarchy.{Hierarchy}
use Rattle.vs_elab_statements.specs.vs_elab_signals.specs.Opened.{HasBlocks, IsOpened, IsOutermost, IsWithin, OpensAll}
use Rattle.vs_elab_statements.specs.Blocks.{HasScope}
use Rattle.vs_elaborate.specs.passes.Filling.{HaveBlockScopes, process_blocks}
use Rattle.vs_elaborate.proofs.SignalLemmas.{each_at}
use Rattle.vs_elaborate.proofs.MadeLemmas.{opened_at, named_once, counted_at, inside as stands_inside, differ, long}
use Rattle.vs_design.specs.vs_logic4.proofs.Basics.{there, zip_at, map_at}

-- ---- lists

module _ {A : Type 0} where
  at_first : (xs rest : List A) (i : ℕ) (x : A) → slice_get xs i ≡ Some x → slice_get (xs ++ rest) i ≡ Some x
  at_first [] rest i x h = absurd (none-some x h)
  at_first (y ∷ ys) rest zero x h = h
  at_first (y ∷ ys) rest (suc i) x h = at_first ys rest i x h

  at_behind : (front xs : List A) (i : ℕ) (x : A) → slice_get xs i ≡ Some x → (j : ℕ) × (slice_get (front ++ xs) j ≡ Some x)
  at_behind [] xs i x h = (i, h)
  at_behind (y ∷ ys) xs i x h = let q = at_behind ys xs i x h in (suc q.0, q.1)

  -- an element that stands at two places of a list whose elements differ stands at one
  one_place : (test : A → A → Bool) → ((x : A) → test x x ≡ false → ⊥) → (xs : List A) → IsDistinct test xs → (i j : ℕ) (x : A) → slice_get xs i ≡ Some x → slice_get xs j ≡ Some x → i ≡ j
  unfolding IsDistinct
  one_place test self [] d i j x h k = absurd (none-some x h)
  one_place test self (y ∷ ys) d zero zero x h k = refl
  one_place test self (y ∷ ys) d zero (suc j) x h k = absurd (self x (subst (λ z. test z x ≡ false) (same_Some y x h) (each_at (λ q. test y q ≡ false) ys j x d.0 k)))
  one_place test self (y ∷ ys) d (suc i) zero x h k = absurd (self x (subst (λ z. test z x ≡ false) (same_Some y x k) (each_at (λ q. test y q ≡ false) ys i x d.0 h)))
  one_place test self (y ∷ ys) d (suc i) (suc j) x h k = ap suc (one_place test self ys d.1 i j x h k)

-- ---- paths

same_rest : (p q : PathName) (ps qs : Path) → p ∷ ps ≡ q ∷ qs → ps ≡ qs
same_rest p q ps qs e = cc

no_longer : (q : Path) (n : PathName) → [] ≡ q ++ n ∷ [] → ⊥
no_longer [] n e = cc
no_longer (y ∷ ys) n e = cc

-- paths that end alike
record EndAlike (p q : Path) (m n : PathName) : Type 0 where
  front : p ≡ q
  end : m ≡ n

ends_alike : (p q : Path) (m n : PathName) → p ++ m ∷ [] ≡ q ++ n ∷ [] → EndAlike p q m n
ends_alike [] [] m n e = record { front = refl; end = first_same m n [] [] e }
ends_alike [] (y ∷ ys) m n e = absurd (no_longer ys n (same_rest m y [] (ys ++ n ∷ []) e))
ends_alike (x ∷ xs) [] m n e = absurd (no_longer xs m (sym (same_rest x n (xs ++ m ∷ []) [] e)))
ends_alike (x ∷ xs) (y ∷ ys) m n e =
    let rest = ends_alike xs ys m n (same_rest x y (xs ++ m ∷ []) (ys ++ n ∷ []) e) in
    record { front = ap₂ (λ z zs. z ∷ zs) (first_same x y (xs ++ m ∷ []) (ys ++ n ∷ []) e) rest.front; end = rest.end }

same_self : (n : PathName) → same_part n n ≡ false → ⊥
same_self n h = true≢false (sym ((part_decides n n).1 refl) ∙ h)

-- ---- what opens a scope

record IsScopeAmong (ss : List Scope) (s : Scope) : Type 0 where
  place : ℕ
  is : slice_get ss place ≡ Some s

listed_right : (xs ys : List Scope) (s : Scope) → IsScopeAmong ys s → IsScopeAmong (xs ++ ys) s
listed_right xs ys s h = let q = at_behind xs ys h.place s h.is in record { place = q.0; is = q.1 }

listed_left : (xs ys : List Scope) (s : Scope) → IsScopeAmong xs s → IsScopeAmong (xs ++ ys) s
listed_left xs ys s h = record { place = h.place; is = at_first xs ys h.place s h.is }

listed_later : (x : Scope) (xs : List Scope) (s : Scope) → IsScopeAmong xs s → IsScopeAmong (x ∷ xs) s
listed_later x xs s h = record { place = suc h.place; is = h.is }

listed_either : (xs ys : List Scope) (s : Scope) (i : ℕ) → slice_get (xs ++ ys) i ≡ Some s → IsScopeAmong xs s ⊎ IsScopeAmong ys s
listed_either [] ys s i e = inr (record { place = i; is = e })
listed_either (x ∷ xs) ys s zero e = inl (record { place = zero; is = e })
listed_either (x ∷ xs) ys s (suc i) e = ⊎_elim (λ h. inl (listed_later x xs s h)) (λ h. inr h) (listed_either xs ys s i e)

-- an instance or a block in one of these scopes opens the scope
record IsOpenedIn (ms : List Module) (all : List Scope) (t : Scope) : Type 0 where
  outer : Scope
  place : ℕ
  stands : slice_get all place ≡ Some outer
  at : Before
  number : ℕ
  inner : Inner
  holds : slice_get (inner_of outer) number ≡ Some inner
  opens : opened ms outer at inner ≡ Some t

-- or a top module does
abbrev HasOrigin : List Module → List Scope → Scope → Type 0
HasOrigin ms all t = ((m : Module) × IsOpenedTop m t) ⊎ IsOpenedIn ms all t

abbrev AreAmong : List Scope → List Scope → Type 0
AreAmong ss all = (s : Scope) → IsScopeAmong ss s → IsScopeAmong all s

module _ (ms : List Module) (all : List Scope) (f : Scope → List Scope) (within : (t : Scope) → AreAmong (f t) all → HasOrigin ms all t → (s : Scope) → IsScopeAmong (f t) s → HasOrigin ms all s) (s : Scope) (known : IsScopeAmong all s) where
  opened_from : (at : Before) (k : ℕ) (x : Inner) → slice_get (inner_of s) k ≡ Some x → (o : Option Scope) → opened ms s at x ≡ o → AreAmong (of_opened f o) all → (t : Scope) → IsScopeAmong (of_opened f o) t → HasOrigin ms all t
  opened_from at k x is None e among t h = absurd (none-some t h.is)
  opened_from at k x is (Some z) e among t h =
      within z among (inr (record { outer = s; place = known.place; stands = known.is; at = at; number = k; inner = x; holds = is; opens = e })) t h

  below_from : (at : Before) (xs : List Inner) → ((k : ℕ) (x : Inner) → slice_get xs k ≡ Some x → (j : ℕ) × (slice_get (inner_of s) j ≡ Some x)) → AreAmong (below ms f s at xs) all → (t : Scope) → IsScopeAmong (below ms f s at xs) t → HasOrigin ms all t
  below_from at [] held among t h = absurd (none-some t h.is)
  below_from at (x ∷ xs) held among t h =
      let o = opened ms s at x in
      let first = of_opened f o in
      let others = below ms f s (before_following at first) xs in
      let here = held 0 x refl in
      ⊎_elim (opened_from at here.0 x here.1 o refl (λ z k. among z (listed_left first others z k)) t)
      (below_from (before_following at first) xs (λ k y is. held (suc k) y is) (λ z k. among z (listed_right first others z k)) t)
      (listed_either first others t h.place h.is)

first_from : (ms : List Module) (all ss : List Scope) (s t : Scope) → HasOrigin ms all s → (IsScopeAmong ss t → HasOrigin ms all t) → (i : ℕ) → slice_get (s ∷ ss) i ≡ Some t → HasOrigin ms all t
first_from ms all ss s t p rest zero e = subst (HasOrigin ms all) (same_Some s t e) p
first_from ms all ss s t p rest (suc i) e = rest (record { place = i; is = e })

within_from : (n : ℕ) (ms : List Module) (all : List Scope) (s : Scope) → AreAmong (scopes_within n ms s) all → HasOrigin ms all s → (t : Scope) → IsScopeAmong (scopes_within n ms s) t → HasOrigin ms all t
unfolding scopes_within
within_from zero ms all s among p t h = first_from ms all [] s t p (λ k. absurd (none-some t k.is)) h.place h.is
within_from (suc n) ms all s among p t h =
    let scopes = below ms (scopes_within n ms) s (within_first s) (inner_of s) in
    let known : IsScopeAmong all s = among s (record { place = zero; is = refl }) in
    first_from ms all scopes s t p (below_from ms all (scopes_within n ms) (within_from n ms all) s known (within_first s) (inner_of s) (λ k x is. (k, is)) (λ x k. among x (listed_later s scopes x k)) t) h.place h.is

top_from : (n : ℕ) (ms : List Module) (nets : Bool) (o : Option Module) (t : Option Scope) → opened_top nets o ≡ t → (s : Scope) → IsScopeAmong (of_opened (scopes_within n ms) t) s → HasOrigin ms (of_opened (scopes_within n ms) t) s
top_from n ms nets o None e s h = absurd (none-some s h.is)
top_from n ms nets o (Some t) e s h = within_from n ms (scopes_within n ms t) t (λ x k. k) (inl (what_is_opened_top nets o t e)) s h

origin_of : (ms : List Module) (top : List ℕ) (i : ℕ) (s : Scope) → slice_get (scopes_of ms top) i ≡ Some s → HasOrigin ms (scopes_of ms top) s
origin_of ms top i s e =
    top_from deepest ms (permits_nets ms top) (module_named ms top) (opened_top (permits_nets ms top) (module_named ms top)) refl s (record { place = i; is = e })

text_of_origin : (ms : List Module) (all : List Scope) (s : Scope) → HasOrigin ms all s → HasText s
text_of_origin ms all s (inl h) = h.1.text
text_of_origin ms all s (inr h) = (what_is_opened ms h.outer h.at h.inner s h.opens).text

-- ---- named blocks among what opens scopes

-- a named block is among what opens scopes in a scope
abbrev IsInside : Scope → NamedBlock → Type 0
IsInside s b = (k : ℕ) × (slice_get (inner_of s) k ≡ Some (g.named b))

abbrev IsOpenedBy : NamedBlock → Piece → Type 0
IsOpenedBy b p = (i : ℕ) (env : Environment) (names : List (List ℕ)) (k : ℕ) → (j : ℕ) × (slice_get (inner_in i env names k p) j ≡ Some (g.named b))

-- what a piece opens is among what all of them open
opened_among : (i : ℕ) (env : Environment) (names : List (List ℕ)) (k : ℕ) (ps : List Piece) (n : ℕ) (p : Piece) (b : NamedBlock) → slice_get ps n ≡ Some p → IsOpenedBy b p → (j : ℕ) × (slice_get (inner_from i env names k ps) j ≡ Some (g.named b))
opened_among i env names k [] n p b h opens = absurd (none-some p h)
opened_among i env names k (q ∷ ps) zero p b h opens =
    let here = opens i env names k in
    (here.0, at_first (inner_in i env names k q) (inner_from (suc i) env names (after_piece k q) ps) here.0 (g.named b) (subst (λ z. slice_get (inner_in i env names k z) here.0 ≡ Some (g.named b)) (sym (same_Some q p h)) here.1))
opened_among i env names k (q ∷ ps) (suc n) p b h opens =
    let rest = opened_among (suc i) env names (after_piece k q) ps n p b h opens in
    at_behind (inner_in i env names k q) (inner_from (suc i) env names (after_piece k q) ps) rest.0 (g.named b) rest.1

inside_here : (s : Scope) (n : ℕ) (p : Piece) (b : NamedBlock) → slice_get s.pieces n ≡ Some p → IsOpenedBy b p → IsInside s b
inside_here s n p b h opens = opened_among 0 (environment s) (text_names s) 1 s.pieces n p b h opens

-- the named blocks of a process
opened_by_process : (p : Piece) (n : ℕ) (b : NamedBlock) → slice_get (process_blocks p) n ≡ Some b → IsOpenedBy b p
opened_by_process (plain x) n b h i env names k = at_behind (map instance (uses_by_item x)) (map g.named (blocks_of x)) n (g.named b) (map_at g.named (blocks_of x) n b h)
opened_by_process (loop l x) n b h i env names k = absurd (none-some b h)
opened_by_process (choice e x o) n b h i env names k = absurd (none-some b h)
opened_by_process (local x) n b h i env names k = absurd (none-some b h)
opened_by_process (inside x) n b h i env names k = absurd (none-some b h)
opened_by_process (net m) n b h i env names k = absurd (none-some b h)

-- implicit nets stand among the pieces
kept_with_nets : (known : List ℕ → Bool) (before : List (List ℕ)) (ps : List Piece) (n : ℕ) (p : Piece) → slice_get ps n ≡ Some p → (j : ℕ) × (slice_get (with_nets known before ps) j ≡ Some p)
kept_with_nets known before [] n p h = absurd (none-some p h)
kept_with_nets known before (q ∷ ps) zero p h = at_behind (map net (new_among known before (names_used q))) (q ∷ with_nets known (before ++ names_used q) ps) 0 p h
kept_with_nets known before (q ∷ ps) (suc n) p h =
    let rest = kept_with_nets known (before ++ names_used q) ps n p h in
    at_behind (map net (new_among known before (names_used q))) (q ∷ with_nets known (before ++ names_used q) ps) (suc rest.0) p rest.1

kept_piece : (nets : Bool) (text : Bindings) (around : List ℕ → Sight) (ps : List Piece) (n : ℕ) (p : Piece) → slice_get ps n ≡ Some p → (j : ℕ) × (slice_get (pieces_with_nets nets text around ps) j ≡ Some p)
kept_piece false text around ps n p h = (n, h)
kept_piece true text around ps n p h = kept_with_nets (is_known text around) [] ps n p h

-- the scope of a named block
block_opened : (a : Bool) (t u : Scope) → cond a None (Some u) ≡ Some t → u ≡ t
block_opened true t u e = absurd (none-some t e)
block_opened false t u e = same_Some u t e

-- the named blocks in it
block_inside : (ms : List Module) (s : Scope) (at : Before) (b : NamedBlock) (t : Scope) → opened ms s at (g.named b) ≡ Some t → (k : ℕ) (c : NamedBlock) → slice_get (blocks_among b.statements) k ≡ Some c → IsInside t c
block_inside ms s at b t e k c h =
    let ps = block_pieces b in
    let whole = block_scope 0 s at (plainly b.name) [] ps in
    let same : whole ≡ t = block_opened (any_fault (block_fault s [] ps)) t whole e in
    let own = at_behind (map local b.locals) (map inside (blocks_among b.statements)) k (inside c) (map_at inside (blocks_among b.statements) k c h) in
    let kept = kept_piece s.nets (block_text [] ps) (sight_in s 0) ps own.0 (inside c) own.1 in
    subst (λ z. IsInside z c) same (inside_here whole kept.0 (inside c) c kept.1 (λ i env names j. (0, refl)))

is_some_is : (o : Option ℕ) → IsSome o → (k : ℕ) × (o ≡ Some k)
is_some_is None h = absurd (true≢false (sym h))
is_some_is (Some k) h = (k, refl)

-- ---- the scopes of named blocks

-- where the scope of a named block stands among these
record IsBlockScopeAt (all : List Scope) (place : ℕ) (y : FoundScope) (b : NamedBlock) : Type 0 where
  number : ℕ
  scope : Scope
  found : meaning_of y.blocks b.name ≡ Some number
  stands : slice_get all number ≡ Some scope
  before : place < number
  within : (k : ℕ) (c : NamedBlock) → slice_get (blocks_among b.statements) k ≡ Some c → IsInside scope c

module _ (source : Source) (top : List ℕ) (x : Hierarchy) (o : OpensAll source.modules.items top x) where
  -- scopes of one path stand at one place
  same_place : (i j : ℕ) (s t : Scope) → slice_get (scopes_of source.modules.items top) i ≡ Some s → slice_get (scopes_of source.modules.items top) j ≡ Some t → s.path ≡ t.path → i ≡ j
  same_place i j s t h k e =
      one_place same_path (λ p q. paths_not_same p p q refl) (scope_paths (scopes_of source.modules.items top)) (differ source top x o).0 i j s.path (map_at (λ (z : Scope). z.path) (scopes_of source.modules.items top) i s h)
      (map_at (λ (z : Scope). z.path) (scopes_of source.modules.items top) j t k ∙ ap Some (sym e))

  -- no path is empty
  has_path : (i : ℕ) (s : Scope) → slice_get (scopes_of source.modules.items top) i ≡ Some s → s.path ≡ [] → ⊥
  has_path i s h e = by (stands_inside source top x o i s h)
    where
      by : IsOutermost s ⊎ ((j : ℕ) × ((j < i) × IsWithin (scopes_of source.modules.items top) j s)) → ⊥
      by (inl u) = no_longer [] s.title (sym e ∙ u.path)
      by (inr u) = no_longer u.1.1.outer_scope.path s.title (sym e ∙ u.1.1.path)

  -- what opens the scope of a named block is the block
  opened_by : (place : ℕ) (s : Scope) (k : ℕ) (b : NamedBlock) (number : ℕ) (t : Scope) → slice_get (scopes_of source.modules.items top) place ≡ Some s → slice_get (inner_of s) k ≡ Some (g.named b) →
      slice_get (scopes_of source.modules.items top) number ≡ Some t → t.path ≡ named s b.name → (at : Before) × (opened source.modules.items s at (g.named b) ≡ Some t)
  opened_by place s k b number t h is stands path = by (origin_of source.modules.items top number t stands)
    where
      by : HasOrigin source.modules.items (scopes_of source.modules.items top) t → (at : Before) × (opened source.modules.items s at (g.named b) ≡ Some t)
      by (inl u) = absurd (has_path place s h (ends_alike s.path [] (plainly b.name) (plainly u.0.name.items) (sym path ∙ u.1.path)).front)
      by (inr u) =
          let alike = ends_alike s.path u.outer.path (plainly b.name) (title_of u.inner) (sym path ∙ (what_is_opened source.modules.items u.outer u.at u.inner t u.opens).path) in
          let one : place ≡ u.place = same_place place u.place s u.outer h u.stands alike.front in
          let outer : u.outer ≡ s = same_Some u.outer s (sym u.stands ∙ ap (slice_get (scopes_of source.modules.items top)) (sym one) ∙ h) in
          let holds : slice_get (inner_of s) u.number ≡ Some u.inner = subst (λ z. slice_get (inner_of z) u.number ≡ Some u.inner) outer u.holds in
          let text : HasText s = text_of_origin source.modules.items (scopes_of source.modules.items top) s (origin_of source.modules.items top place s h) in
          let same : k ≡ u.number = one_place same_part same_self (map title_of (inner_of s)) (titles_differ s (named_once source top x o place s h) (counted_at source top x o place s h) text) k u.number (plainly b.name)
          (map_at title_of (inner_of s) k (g.named b) is) (map_at title_of (inner_of s) u.number u.inner holds ∙ ap Some (sym alike.end)) in
          let inner : u.inner ≡ g.named b = same_Some u.inner (g.named b) (sym holds ∙ ap (slice_get (inner_of s)) (sym same) ∙ is) in
          (u.at, subst (λ z. opened source.modules.items s u.at z ≡ Some t) inner (subst (λ z. opened source.modules.items z u.at u.inner ≡ Some t) outer u.opens))

  stands_at : (place : ℕ) (s : Scope) (y : FoundScope) (b : NamedBlock) → slice_get (scopes_of source.modules.items top) place ≡ Some s → slice_get x.scopes.items place ≡ Some y → IsInside s b → IsBlockScopeAt (scopes_of source.modules.items top) place y b
  stands_at place s y b h at is =
      let blocks = zip_at (HasBlocks (scopes_of source.modules.items top)) x.scopes.items (scopes_of source.modules.items top) place y s o.blocks at h in
      let found = is_some_is (meaning_of y.blocks b.name) (blocks.all is.0 b is.1) in
      let there = blocks.found b.name found.0 found.1 in
      let by_block = opened_by place s is.0 b found.0 there.inner h is.1 there.stands there.path in
      record {
        number = found.0;
        scope = there.inner;
        found = found.1;
        stands = there.stands;
        before = behind_it found.0 there.inner there.stands there.path (stands_inside source top x o found.0 there.inner there.stands);
        within = block_inside source.modules.items s by_block.0 b there.inner by_block.1;
      }
    where
      behind_it : (number : ℕ) (t : Scope) → slice_get (scopes_of source.modules.items top) number ≡ Some t → t.path ≡ named s b.name →
          IsOutermost t ⊎ ((j : ℕ) × ((j < number) × IsWithin (scopes_of source.modules.items top) j t)) → place < number
      behind_it number t stands path (inl u) = absurd (has_path place s h (ends_alike s.path [] (plainly b.name) t.title (sym path ∙ u.path)).front)
      behind_it number t stands path (inr u) =
          let alike = ends_alike s.path u.1.1.outer_scope.path (plainly b.name) t.title (sym path ∙ u.1.1.path) in
          let same : place ≡ u.0 = same_place place u.0 s u.1.1.outer_scope h u.1.1.stands alike.front in
          let before : u.0 < number = u.1.0 in
          omega arith

  -- at most so many scopes stand behind the one at a place
  has_scope : (n place : ℕ) (s : Scope) (b : NamedBlock) → length (scopes_of source.modules.items top) ≤ place + n → slice_get (scopes_of source.modules.items top) place ≡ Some s → IsInside s b → HasScope x.scopes.items place b.name b.statements
  has_scope zero place s b few h is = (let within : place < length (scopes_of source.modules.items top) = slice_get_within (scopes_of source.modules.items top) place s h in absurd (omega arith))
  has_scope (suc n) place s b few h is =
      let y = opened_at source top x o place s h in
      let w = stands_at place s y.0 b h y.1.0 is in
      HasScope.stands place b.name b.statements y.0 w.number y.1.0 w.found (λ k c e. has_scope n w.number w.scope c (let before : place < w.number = w.before in omega (arith, few, before)) w.stands (w.within k c e))

  pub block_scopes : (place : ℕ) (y : FoundScope) → slice_get x.scopes.items place ≡ Some y → HaveBlockScopes x.scopes.items place y.pieces.items
  block_scopes place y at n p is k b has =
      let s = scope_here in
      let opened = zip_at (IsOpened (scopes_of source.modules.items top)) x.scopes.items (scopes_of source.modules.items top) place y s.0 o.scopes.each at s.1 in
      let stands : slice_get s.0.pieces n ≡ Some (read_piece p) = ap (λ ps. slice_get ps n) (sym opened.entered.pieces) ∙ map_at read_piece y.pieces.items n p is in
      has_scope (length (scopes_of source.modules.items top)) place s.0 b (omega arith) s.1 (inside_here s.0 n (read_piece p) b stands (opened_by_process (read_piece p) k b has))
    where
      scope_here : (s : Scope) × (slice_get (scopes_of source.modules.items top) place ≡ Some s)
      scope_here = there (scopes_of source.modules.items top) place (let l = long source top x o in omega (arith, l, slice_get_within x.scopes.items place y at))
