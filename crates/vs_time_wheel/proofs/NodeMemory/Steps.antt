-- What the nodes own is taken apart and made, at any element type. Assumes `Logic`.
--     nodes_made, nodes_opens, nodes_closes      the three words by value, and behind a `&mut`
--     cons_out, cons_in, snoc_out, snoc_in, append_in      one node at an end, beside the others;  two rows of nodes
--     one_opens, one_closes      a node is [its element; `next`; what frees it]
--     node_made, node_unmade      a block that was written whole is a node;  a node's cells are read, and then room
use mathlib.Core.Path.{◌≡◌, refl, ap, ◌∙◌}
use Prim.Native.Nat.{ℕ, ◌+◌, ◌<◌}
use native.Mathlib.Omega.{arith}
use mathlib.Core.List.{List, [], ◌∷◌, ◌++◌}
use lib.ListN.{length}
use seplogic.Ra.Ura.{Ura}
use base.Fraction.{full_share}
use base.Stored.{Gv}
use mir.Syntax.{Ty, Tys, Sym, ty_ptr, ty_struct, tcons, tnil}
use mir.Val.{Val, Vals, vstruct, vcons, vnil, of_list}
use mir.Raw.{raw as bare}
use base.Logic.{SProp, ent, sep, all, wand, via, mono_r, never, fst∗, apply∗}
use base.Fml.{Fml, Lft, GName, Share, ftrue, fsep, feq, fat, froom, flft, fobs, fauth, fbor, fobor}
use prog.Model.{fields_at, rooms_at}
use types.Logic.{Logic, sem}
use contract.Monad.{conj_r}
use types.Kit.{Item, Goal, Seq, Step, Soaks, step, ‵, raw, some, given, ◌⊛◌, ◌$◌, ◌∵◌, !, qed, by, move, keep, drop, use1, use2, pick, learn, group, split, split3, assume, fsplit, fsplit3, fjoin, fjoin3, fpick, fpack, feq_i, feq_l, rewrite, done}
use types.SemTy.{Body as Borrowed}
use denote.RattleType.{RattleType, Valss}
use denote.Memory.{cell_at, part_at, mem}
use denote.RawPtr.{Ptr, RawPtr, block_ptr, null_ptr, ptr_val, lies_at, in_a_block, ◌+ₚ◌}
use denote.Steps.{nothing, only, opens, closes}
use denote.Struct.Struct.{within}
use denote.Struct.Owning.{Owning, shape}
use borrow.Table.OneValue.{part_in, part_out}
use Rattle.std.proofs.alloc.Calls.{α, token, Fits}
use Rattle.std.proofs.RawLayout.{as_raw, as_written}
use Rattle.std.proofs.RcSteps.{Good}
use Rattle.std.proofs.BoxSteps.Form.{Bx, X, τ, own, R, P}
use Rattle.std.proofs.BoxSteps.Steps.{el_out, el_in}
use Rattle.vs_time_wheel.specs.declared.nodes.Nodes.{Nodes}
use Rattle.vs_time_wheel.specs.contracts.nodes.Nodes as N
use Rattle.vs_time_wheel.specs.Links.{Link}
use Rattle.vs_time_wheel.specs.Ownership.{elem_offset, heap_offset, node_type, link_owns, fields_rejoin, frees, nodes_own}

pub uncons : {Y : Type 0} (xs : List Y) → 0 < length xs → (y : Y) × (ys : List Y) × (xs ≡ y ∷ ys)
uncons [] p = absurd (omega arith)
uncons (y ∷ ys) p = (y, ys, refl)

last_of : {Y : Type 0} (x : Y) (xs : List Y) → (ys : List Y) × (y : Y) × (x ∷ xs ≡ ys ++ y ∷ [])
last_of x [] = ([], x, refl)
last_of x (z ∷ zs) = let on = last_of z zs in (x ∷ on.0, on.1, ap (λ l. x ∷ l) on.2)

pub unsnoc : {Y : Type 0} (xs : List Y) → 0 < length xs → (ys : List Y) × (y : Y) × (xs ≡ ys ++ y ∷ [])
unsnoc [] p = absurd (omega arith)
unsnoc (x ∷ xs) p = last_of x xs

abbrev pub words : Ptr → Ptr → Val
words h t = vstruct (vcons (ptr_val h) (vcons (ptr_val t) vnil))

abbrev pub node_val : Ptr → Val → Val → Val
node_val n v hv = vstruct (vcons (ptr_val n) (vcons v (vcons hv vnil)))

abbrev pub pointer : ℕ → ℕ → Ptr → Fml
pointer b o p = fat full_share ty_ptr b o (ptr_val p)

module _ (E : Bx) where
  abbrev pub Hd : Type 0
  Hd = E.al.row.Denot

  abbrev pub D : Type 0
  D = Nodes (X E) Hd

  abbrev pub owning : Owning
  owning = N.the_type (R E) (P E) E.al.g

  abbrev pub Nr : RattleType
  Nr = N.the_row (R E) (P E) E.al.g

  abbrev pub eo : ℕ
  eo = elem_offset (R E)

  abbrev pub ho : ℕ
  ho = heap_offset (R E) (P E)

  abbrev pub block_ty : Ty
  block_ty = node_type (R E) (P E)

  abbrev pub Held : List (Link × Hd) → List (X E) → Fml
  Held = nodes_own (R E) (P E) (token E.al)

  abbrev pub Frees : Ptr → Hd → Fml
  Frees = frees (R E) (P E) (token E.al)

  abbrev pub One : Link × Hd → X E → Fml
  One n x = fsep (lies_at (R E) full_share (n.0.0 +ₚ eo) x) (fsep (link_owns n.0) (Frees n.0.0 n.1))

module _ (E : Bx) {M : Type 1} {𝓤 : Ura M} (𝓛 : Logic 𝓤) where
  pub cons_out : (n : Link × Hd E) (ns : List (Link × Hd E)) (x : X E) (xs : List (X E)) → ent 𝓤 (sem 𝓛 (Held E (n ∷ ns) (x ∷ xs))) (sep 𝓤 (sem 𝓛 (One E n x)) (sem 𝓛 (Held E ns xs)))
  cons_out n ns x xs = qed 𝓛 (‵ (Held E (n ∷ ns) (x ∷ xs)) ∷ []) ∵ fsplit ! $ fsplit ! $ move ! (2 ∷ []) $ fsplit ! $ move ! (3 ∷ 1 ∷ []) $ fjoin ! $ move ! (2 ∷ 1 ∷ []) $ fjoin ! $ done !

  pub cons_in : (n : Link × Hd E) (ns : List (Link × Hd E)) (x : X E) (xs : List (X E)) → ent 𝓤 (sep 𝓤 (sem 𝓛 (One E n x)) (sem 𝓛 (Held E ns xs))) (sem 𝓛 (Held E (n ∷ ns) (x ∷ xs)))
  cons_in n ns x xs = qed 𝓛 (‵ (One E n x) ∷ ‵ (Held E ns xs) ∷ []) ∵ fsplit ! $ move ! (2 ∷ []) $ fsplit ! $ move ! (3 ∷ 1 ∷ []) $ fjoin ! $ move ! (2 ∷ 1 ∷ []) $ fjoin ! $ fjoin ! $ done !

  append_out : (ns ms : List (Link × Hd E)) (xs ys : List (X E)) → length ns ≡ length xs → ent 𝓤 (sem 𝓛 (Held E (ns ++ ms) (xs ++ ys))) (sep 𝓤 (sem 𝓛 (Held E ns xs)) (sem 𝓛 (Held E ms ys)))
  append_out [] ms [] ys e = qed 𝓛 (‵ (Held E ms ys) ∷ []) ∵ nothing ! $ nothing ! $ fjoin ! $ done !
  append_out [] ms (x ∷ xs) ys e = absurd (omega arith)
  append_out (n ∷ ns) ms [] ys e = absurd (omega arith)
  append_out (n ∷ ns) ms (x ∷ xs) ys e = qed 𝓛 (‵ (Held E (n ∷ ns ++ ms) (x ∷ xs ++ ys)) ∷ []) ∵
      use1 𝓛 (‵ (One E n x) ⊛ ‵ (Held E (ns ++ ms) (xs ++ ys))) (cons_out n (ns ++ ms) x (xs ++ ys)) $ split ! $ move ! (1 ∷ []) $
      use1 𝓛 (‵ (Held E ns xs) ⊛ ‵ (Held E ms ys)) (append_out ns ms xs ys (omega arith)) $ split ! $ move ! (2 ∷ 0 ∷ []) $ use2 𝓛 (‵ (Held E (n ∷ ns) (x ∷ xs))) (cons_in n ns x xs) $ done !

  pub append_in : (ns ms : List (Link × Hd E)) (xs ys : List (X E)) → length ns ≡ length xs → ent 𝓤 (sep 𝓤 (sem 𝓛 (Held E ns xs)) (sem 𝓛 (Held E ms ys))) (sem 𝓛 (Held E (ns ++ ms) (xs ++ ys)))
  append_in [] ms [] ys e = qed 𝓛 (‵ (Held E [] []) ∷ ‵ (Held E ms ys) ∷ []) ∵ drop ! $ done !
  append_in [] ms (x ∷ xs) ys e = absurd (omega arith)
  append_in (n ∷ ns) ms [] ys e = absurd (omega arith)
  append_in (n ∷ ns) ms (x ∷ xs) ys e = qed 𝓛 (‵ (Held E (n ∷ ns) (x ∷ xs)) ∷ ‵ (Held E ms ys) ∷ []) ∵
      use1 𝓛 (‵ (One E n x) ⊛ ‵ (Held E ns xs)) (cons_out n ns x xs) $ split ! $ move ! (1 ∷ 2 ∷ []) $
      use2 𝓛 (‵ (Held E (ns ++ ms) (xs ++ ys))) (append_in ns ms xs ys (omega arith)) $ move ! (1 ∷ []) $ by ! (cons_in n (ns ++ ms) x (xs ++ ys))

  pub snoc_out : (ns : List (Link × Hd E)) (n : Link × Hd E) (xs : List (X E)) (x : X E) → length ns ≡ length xs
      → ent 𝓤 (sem 𝓛 (Held E (ns ++ n ∷ []) (xs ++ x ∷ []))) (sep 𝓤 (sem 𝓛 (One E n x)) (sem 𝓛 (Held E ns xs)))
  snoc_out ns n xs x e = qed 𝓛 (‵ (Held E (ns ++ n ∷ []) (xs ++ x ∷ [])) ∷ []) ∵
      use1 𝓛 (‵ (Held E ns xs) ⊛ ‵ (Held E (n ∷ []) (x ∷ []))) (append_out ns (n ∷ []) xs (x ∷ []) e) $ split ! $ move ! (1 ∷ []) $
      use1 𝓛 (‵ (One E n x) ⊛ ‵ (Held E [] [])) (cons_out n [] x []) $ split ! $ keep ! (0 ∷ 2 ∷ []) $ done !

  pub snoc_in : (ns : List (Link × Hd E)) (n : Link × Hd E) (xs : List (X E)) (x : X E) → length ns ≡ length xs
      → ent 𝓤 (sep 𝓤 (sem 𝓛 (One E n x)) (sem 𝓛 (Held E ns xs))) (sem 𝓛 (Held E (ns ++ n ∷ []) (xs ++ x ∷ [])))
  snoc_in ns n xs x e = qed 𝓛 (‵ (One E n x) ∷ ‵ (Held E ns xs) ∷ []) ∵ nothing ! $ nothing ! $ fjoin ! $ move ! (1 ∷ 0 ∷ []) $
      use2 𝓛 (‵ (Held E (n ∷ []) (x ∷ []))) (cons_in n [] x []) $ move ! (1 ∷ []) $ by ! (append_in ns (n ∷ []) xs (x ∷ []) e)

module _ {M : Type 1} {𝓤 : Ura M} {𝓛 : Logic 𝓤} {K : Type 0} {Γ : List (Item 𝓤)} {G : Goal 𝓤 𝓛.H} where
  pointer_out : K → (p : Ptr) (b o : ℕ) → Step K 𝓛 (‵ (pointer b o p) ∷ Γ) G (‵ (part_at RawPtr full_share p b o) ∷ Γ) G
  pointer_out t p b o = use1 𝓛 (‵ (pointer b o p)) (qed 𝓛 (‵ (part_at RawPtr full_share p b o) ∷ []) {P = sem 𝓛 (pointer b o p)} (
      use1 𝓛 (some (λ (v : Val). ‵ (fat full_share ty_ptr b o v) ⊛ ‵ (feq (List Val) (v ∷ []) (ptr_val p ∷ [])))) (part_out 𝓛 RawPtr refl full_share p b o) $ pick ! (λ v. split ! $ move ! (1 ∷ []) $ feq_l ! (λ e.
      rewrite ! 0 (λ (w : Val). ‵ (fat full_share ty_ptr b o w)) (ap only e) refl $ done !))))

  pointer_in : K → (p : Ptr) (b o : ℕ) → Step K 𝓛 (‵ (part_at RawPtr full_share p b o) ∷ Γ) G (‵ (pointer b o p) ∷ Γ) G
  pointer_in t p b o = step (λ s.
      feq_i t (List Val) (ptr_val p ∷ []) (ptr_val p ∷ []) refl $ move t (1 ∷ 0 ∷ []) $ use2 𝓛 (‵ (part_at RawPtr full_share p b o)) (part_in 𝓛 RawPtr refl full_share p b o (ptr_val p)) $ s)

module _ (E : Bx) {M : Type 1} {𝓤 : Ura M} {𝓛 : Logic 𝓤} {K : Type 0} {Γ : List (Item 𝓤)} {G : Goal 𝓤 𝓛.H} where
  open 𝓛 use {H}

  nodes_had : K → (d : D E) (vs : List Val) → (vs ≡ words d.first d.last ∷ [] → Seq K 𝓛 (‵ (Held E d.blocks d.events) ∷ Γ) G) → Seq K 𝓛 (‵ ((Nr E).own_val d vs) ∷ Γ) G
  nodes_had t d vs k =
      fsplit t $ fpick t (λ vss. fsplit t $ feq_l t (λ all. fsplit t $ feq_l t (λ e₀. fsplit t $ feq_l t (λ e₁. drop t $
      k (all ∙ (λ i. vstruct (of_list (e₀ i ++ (e₁ i ++ []))) ∷ []))))))

  pub nodes_made : K → (d : D E) → Step K 𝓛 (‵ ((Nr E).own_val d (words d.first d.last ∷ [])) ∷ Γ) G (‵ (Held E d.blocks d.events) ∷ Γ) G
  nodes_made t d = step (λ s.
      let v = words d.first d.last in
      nothing t $ feq_i t (List Val) (ptr_val d.last ∷ []) (ptr_val d.last ∷ []) refl $ fjoin t $ feq_i t (List Val) (ptr_val d.first ∷ []) (ptr_val d.first ∷ []) refl $ fjoin t $
      feq_i t (List Val) (v ∷ []) (v ∷ []) refl $ fjoin t $
      fpack t (Valss (shape (owning E)).fields) (within (shape (owning E)) (d.first, (d.last, tt)) (v ∷ [])) (ptr_val d.first ∷ [], (ptr_val d.last ∷ [], tt)) $ fjoin t $ s)

  pub one_opens : K → (l : Link) (h : Hd E) (x : X E)
      → ((b o : ℕ) → l.0 ≡ block_ptr b o → Seq K 𝓛 (‵ (part_at (R E) full_share x b (o + eo E)) ∷ ‵ (pointer b (o + 0) l.1) ∷ ‵ (Frees E (block_ptr b o) h) ∷ Γ) G)
      → Seq K 𝓛 (‵ (One E (l, h) x) ∷ Γ) G
  one_opens t l h x k =
      in_a_block t l.0 (λ p. One E ((p, l.1), h) x) (fst∗ 𝓤 (never 𝓤) (sem 𝓛 (fsep (link_owns (null_ptr, l.1)) (Frees E null_ptr h)))) (λ b o e. fsplit3 t $ move t (1 ∷ []) $ pointer_out t l.1 b (o + 0) $
      move t (1 ∷ 0 ∷ []) $ k b o e)

  pub one_closes : K → (b o : ℕ) (n : Ptr) (h : Hd E) (x : X E)
      → Step K 𝓛 (‵ (One E ((block_ptr b o, n), h) x) ∷ Γ) G (‵ (part_at (R E) full_share x b (o + eo E)) ∷ ‵ (pointer b (o + 0) n) ∷ ‵ (Frees E (block_ptr b o) h) ∷ Γ) G
  one_closes t b o n h x = step (λ s. move t (1 ∷ []) $ pointer_in t n b (o + 0) $ move t (1 ∷ 0 ∷ []) $ fjoin3 t $ s)

  -- [`next`; the element's cell; the handle's cell; the way back to the block; the token; what the handle owns; what the element owns]
  pub node_unmade : K → (b o : ℕ) (n : Ptr) (h : Hd E) (x : X E)
      → ((v hv : Val) → Good (τ E) v → Fits E.al hv → Seq K 𝓛 (‵ (pointer b (o + 0) n) ∷ ‵ (fat full_share (τ E) b (o + eo E) v) ∷ ‵ (fat full_share (α E.al) b (o + ho E) hv)
      ∷ ‵ (fields_rejoin (R E) (P E) (block_ptr b o)) ∷ ‵ (token E.al h (block_ty E) (block_ptr b o)) ∷ ‵ (E.al.row.own_val h (hv ∷ [])) ∷ ‵ (own E x (v ∷ [])) ∷ Γ) G)
      → Seq K 𝓛 (‵ (part_at (R E) full_share x b (o + eo E)) ∷ ‵ (pointer b (o + 0) n) ∷ ‵ (Frees E (block_ptr b o) h) ∷ Γ) G
  node_unmade t b o n h x k =
      use1 𝓛 (some (λ (v : Val). given (Good (τ E) v) (‵ (fat full_share (τ E) b (o + eo E) v) ⊛ ‵ (own E x (v ∷ []))))) (el_out E 𝓛 x b (o + eo E)) $ pick t (λ v. learn t (λ good. split t $
      move t (3 ∷ []) $ fsplit3 t $
      use1 𝓛 (some (λ (u : Val). ‵ (fat full_share (α E.al) b (o + ho E) u) ⊛ ‵ (E.al.row.own_val h (u ∷ [])))) (part_out 𝓛 (P E) refl full_share h b (o + ho E)) $ pick t (λ hv. split t $
      use1 𝓛 (given (Fits E.al hv) (‵ (fat full_share (α E.al) b (o + ho E) hv))) (𝓛.laws.at_wt full_share (α E.al) b (o + ho E) hv) $ learn t (λ fa.
      move t (6 ∷ 4 ∷ 0 ∷ 3 ∷ 2 ∷ 1 ∷ 5 ∷ []) $ k v hv good fa))))

  pub block_back : K → (b o : ℕ) (n : Ptr) (v hv : Val)
      → Step K 𝓛 (‵ (froom (block_ty E) b o) ∷ Γ) G
      (‵ (pointer b (o + 0) n) ∷ ‵ (fat full_share (τ E) b (o + eo E) v) ∷ ‵ (fat full_share (α E.al) b (o + ho E) hv) ∷ ‵ (fields_rejoin (R E) (P E) (block_ptr b o)) ∷ Γ) G
  block_back t b o n v hv = step (λ next.
      use1 𝓛 (‵ (froom ty_ptr b (o + 0))) (𝓛.laws.at_room ty_ptr b (o + 0) (ptr_val n)) $ move t (1 ∷ []) $
      use1 𝓛 (‵ (froom (τ E) b (o + eo E))) (𝓛.laws.at_room (τ E) b (o + eo E) v) $ as_raw t (τ E) b (o + eo E) $ move t (2 ∷ []) $
      use1 𝓛 (‵ (froom (α E.al) b (o + ho E))) (𝓛.laws.at_room (α E.al) b (o + ho E) hv) $ as_raw t (α E.al) b (o + ho E) $ move t (2 ∷ 1 ∷ 0 ∷ []) $ group t 3 $
      use2 𝓛 (‵ (froom (block_ty E) b o)) (apply∗ 𝓤 (sep 𝓤 (H.room ty_ptr b (o + 0)) (sep 𝓤 (H.room (bare (τ E)) b (o + eo E)) (H.room (bare (α E.al)) b (o + ho E)))) (H.room (block_ty E) b o)) $ next)

module _ (E : Bx) {M : Type 1} {𝓤 : Ura M} {𝓛 : Logic 𝓤} {K : Type 0} {Γ : List (Item 𝓤)} {G : Goal 𝓤 𝓛.H} where
  -- [the nodes; the words; the open borrow; obs; auth]
  pub nodes_opens : K → Soaks G → {κ : Lft} {q : Share} {γ : GName} (d : D E) (rb ro : ℕ)
      → Step K 𝓛 (‵ (Held E d.blocks d.events) ∷ ‵ (cell_at full_share (Nr E).mir (words d.first d.last ∷ []) rb ro) ∷ ‵ (fobor κ q (Borrowed (mem (Nr E)) rb ro γ)) ∷ ‵ (fobs γ ((Nr E).coded.code d)) ∷ ‵ (fauth γ ((Nr E).coded.code d)) ∷ Γ) G
      (‵ (fobs γ ((Nr E).coded.code d)) ∷ ‵ (fbor κ (Borrowed (mem (Nr E)) rb ro γ)) ∷ ‵ (flft κ q) ∷ Γ) G
  nodes_opens t z d rb ro = step (λ s.
      opens t z (Nr E) {h = d} rb ro (λ vs. move t (1 ∷ []) $ nodes_had E t d vs (λ is. rewrite t 1 (λ (ws : List Val). ‵ (cell_at full_share (Nr E).mir ws rb ro)) is refl $ s)))

  pub nodes_closes : K → Soaks G → {κ : Lft} {q : Share} {u v : Gv} {γ : GName} (d : D E) (rb ro : ℕ)
      → Step K 𝓛 (‵ (fobs γ ((Nr E).coded.code d)) ∷ ‵ (fbor κ (Borrowed (mem (Nr E)) rb ro γ)) ∷ ‵ (flft κ q) ∷ Γ) G
      (‵ (Held E d.blocks d.events) ∷ ‵ (cell_at full_share (Nr E).mir (words d.first d.last ∷ []) rb ro) ∷ ‵ (fobor κ q (Borrowed (mem (Nr E)) rb ro γ)) ∷ ‵ (fobs γ u) ∷ ‵ (fauth γ v) ∷ Γ) G
  nodes_closes t z d rb ro = step (λ s. nodes_made E t d $ move t (1 ∷ 0 ∷ []) $ closes t z (Nr E) d (words d.first d.last ∷ []) rb ro $ s)

module _ (E : Bx) {M : Type 1} {𝓤 : Ura M} (𝓛 : Logic 𝓤) (ν : Sym) (b o : ℕ) where
  open 𝓛 use {H}

  abbrev fields : Tys
  fields = tcons ty_ptr (tcons (τ E) (tcons (α E.al) tnil))

  abbrev Joins : SProp 𝓤
  Joins = wand 𝓤 (rooms_at 𝓤 H fields 0 b o) (H.room (ty_struct ν fields) b o)

  rejoins : ent 𝓤 Joins (sem 𝓛 (fields_rejoin (R E) (P E) (block_ptr b o)))
  rejoins =
      qed 𝓛 (raw Joins ∷ []) ∵
      assume ! (‵ (froom ty_ptr b (o + 0)) ⊛ ‵ (froom (bare (τ E)) b (o + eo E)) ⊛ ‵ (froom (bare (α E.al)) b (o + ho E))) $ split3 ! $ move ! (1 ∷ []) $
      as_written ! (τ E) b (o + eo E) $ move ! (2 ∷ []) $ as_written ! (α E.al) b (o + ho E) $ nothing ! $ move ! (3 ∷ 2 ∷ 1 ∷ 0 ∷ []) $ group ! 4 $
      use2 𝓛 (‵ (froom (ty_struct ν fields) b o)) (apply∗ 𝓤 (rooms_at 𝓤 H fields 0 b o) (H.room (ty_struct ν fields) b o)) $ by ! (𝓛.laws.room-raw (ty_struct ν fields) b o)

  pub node_made : (n : Ptr) (h : Hd E) (x : X E) (v hv : Val)
      → ent 𝓤 (sep 𝓤 (H.at full_share (ty_struct ν fields) b o (node_val n v hv)) (sep 𝓤 (sem 𝓛 (token E.al h (block_ty E) (block_ptr b o))) (sep 𝓤 (sem 𝓛 (E.al.row.own_val h (hv ∷ []))) (sem 𝓛 (own E x (v ∷ []))))))
      (sem 𝓛 (One E ((block_ptr b o, n), h) x))
  node_made n h x v hv =
      let vs : Vals = vcons (ptr_val n) (vcons v (vcons hv vnil)) in
      qed 𝓛 (‵ (fat full_share (ty_struct ν fields) b o (node_val n v hv)) ∷ ‵ (token E.al h (block_ty E) (block_ptr b o)) ∷ ‵ (E.al.row.own_val h (hv ∷ [])) ∷ ‵ (own E x (v ∷ [])) ∷ []) ∵
      use1 𝓛 ((‵ (pointer b (o + 0) n) ⊛ ‵ (fat full_share (τ E) b (o + eo E) v) ⊛ ‵ (fat full_share (α E.al) b (o + ho E) hv) ⊛ ‵ ftrue) ⊛ raw Joins)
      (via 𝓤 _ (𝓛.laws.at_fields_free ν fields b o vs) (mono_r 𝓤 (fields_at 𝓤 H full_share fields 0 b o vs)
      (conj_r 𝓤 (all 𝓤 (λ (ws : Vals). wand 𝓤 (fields_at 𝓤 H full_share fields 0 b o ws) (H.at full_share (ty_struct ν fields) b o (vstruct ws)))) Joins))) $
      split ! $ split3 ! $ move ! (2 ∷ []) $ split ! $
      -- [the handle's cell; nothing; next; the element's cell; the way back; the token; the handle; the element]
      move ! (0 ∷ 6 ∷ []) $ use2 𝓛 (‵ (part_at (P E) full_share h b (o + ho E))) (part_in 𝓛 (P E) refl full_share h b (o + ho E) hv) $ move ! (4 ∷ []) $
      use1 𝓛 (‵ (fields_rejoin (R E) (P E) (block_ptr b o))) rejoins $ move ! (1 ∷ 5 ∷ 0 ∷ []) $ fjoin3 ! $ move ! (3 ∷ 4 ∷ []) $
      use2 𝓛 (‵ (part_at (R E) full_share x b (o + eo E))) (el_in E 𝓛 x b (o + eo E) v) $ keep ! (0 ∷ 3 ∷ 1 ∷ []) $ one_closes E ! b o n h x $ done !
