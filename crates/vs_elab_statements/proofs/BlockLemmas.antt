-- Named blocks of statements, and the faults in them.
use Rattle.std.proofs.Common.{◌≡◌, ℕ, zero, suc, ◌<◌, ◌≤◌, ◌^◌, ◌⊎◌, inl, inr, Bool, true, false, ◌||◌, List, [], ◌∷◌, ◌++◌, Option, None, Some, length, slice_get, refl, ap, sym, subst, ◌∙◌, arith, true≢false}
use Rattle.std.specs.List.{list_any, AllZip}
use Rattle.std.specs.declared.vec.Vec.{Vec}
use Rattle.std.specs.declared.boxed.Box.{Box}
use Rattle.std.specs.declared.alloc.Global.{Global}
use Rattle.std.proofs.Math.Path.{fun_ext}
use Rattle.std.proofs.lemmas.Option.{none-some, same_Some}
use Rattle.vs_syntax.specs.declared.tree.Expr.{Expr}
use Rattle.vs_syntax.specs.declared.tree.Left.{Left}
use Rattle.vs_syntax.specs.declared.tree.ForHeader.{ForHeader}
use Rattle.vs_syntax.specs.declared.tree.LocalDeclaration.{LocalDeclaration}
use Rattle.vs_syntax.specs.declared.tree.DelayValue.{DelayValue}
use Rattle.vs_syntax.specs.declared.tree.EventControl.{EventControl}
use Rattle.vs_syntax.specs.vs_lexer.specs.declared.token.Literal.{Literal}
use Rattle.vs_syntax.specs.declared.tree.PrintTask.{PrintTask}
use Rattle.vs_syntax.specs.declared.tree.PrintArguments.{PrintArguments}
use Rattle.vs_syntax.specs.declared.tree.DumpTask.{DumpTask}
use Rattle.vs_syntax.specs.declared.tree.DumpArgument.{DumpArgument}
use Rattle.vs_syntax.specs.declared.tree.Stmt.{Stmt}
use Rattle.vs_syntax.specs.declared.tree.Stmt.TheVariants as s
use Rattle.vs_syntax.specs.declared.tree.Stmt.TheOpen.{Stmt-F}
use Rattle.vs_syntax.specs.declared.tree.Stmt.TheOpen as f
use Rattle.vs_syntax.specs.declared.tree.Stmt.TheVariants.{rolls-Null, rolls-Assign, rolls-Later, rolls-Named, rolls-For, rolls-While, rolls-Repeat, rolls-Forever, rolls-Delay, rolls-Event, rolls-Print, rolls-Finish, rolls-Dump}
use Rattle.vs_syntax.specs.declared.tree.Stmt.TheViews.{roll-Stmt, out-Stmt, out-roll-Stmt}
use Rattle.vs_syntax.specs.declared.tree.Stmt.TheFolds.{fold-Stmt, fold-roll-Stmt, map-Stmt}
use Rattle.vs_elab_signals.specs.vs_scopes.specs.Pieces.{NamedBlock, blocks_step, blocks_in, blocks_among}
use Rattle.vs_widths.specs.Names.{meaning_of}
use Rattle.vs_widths.proofs.NameLemmas.{or_else, meaning_of_append}
use Rattle.vs_scopes.specs.declared.faults.Reason.{Reason}
use Rattle.vs_scopes.specs.declared.faults.BodyFault.{BodyFault}
use Rattle.vs_scopes.specs.declared.faults.BodyFault.TheVariants as b
use Rattle.vs_scopes.specs.Printed.{plainly, Path}
use Rattle.vs_scopes.specs.Parameters.{said}
use Rattle.vs_scopes.specs.Declarations.{Bindings}
use Rattle.vs_scopes.specs.Scopes.{Scope, environment, seen_from, bindings_of}
use Rattle.vs_scopes.specs.scopes_passes.Answers.{Refuses}
use Rattle.vs_scopes.proofs.Folds.{any_false_at}
use Rattle.vs_elab_signals.specs.declared.opened.ElabScope.{ElabScope as FoundScope}
use Rattle.vs_elab_signals.specs.Opened.{IsOpened, AreOpened, HasParentScope, HasBlocks}
use Rattle.vs_elab_signals.specs.signal_passes.Sites.{outward_place}
use Rattle.vs_design.specs.declared.design.ScopeKind.{ScopeKind}
use Rattle.vs_design.specs.declared.design.ScopeKind.TheVariants as opened_by
use Rattle.vs_elab_statements.specs.declared.faults.StatementFault.{StatementFault}
use Rattle.vs_elab_statements.specs.declared.faults.StatementFault.TheVariants.{Memory, Overfull, Refused, Inside}
use Rattle.vs_elab_statements.specs.Surroundings.{Surroundings}
use Rattle.vs_elab_statements.specs.Statements.{has_fault, HasFaultAt, in_statement, in_block}
use Rattle.vs_elab_statements.specs.passes.Faults.{as_statement_fault, deeper, IsBelow}
use Rattle.vs_elab_statements.specs.passes.Views.{IsSite, IsPlaced}
use Rattle.vs_elab_statements.specs.passes.Bodies.{Burden, statements_burden, named_burden, HasInnerFault, IsFree, BurdenFails}
use Rattle.vs_design.specs.vs_logic4.proofs.Basics.{zip_at}

-- ---- named blocks, by form

abbrev blocks_by : Stmt → Stmt → List NamedBlock
blocks_by = fold-Stmt (Stmt → List NamedBlock) (λ l y. blocks_step l (out-Stmt y))

-- the named blocks of one layer
blocks_layer : (l : Stmt-F Stmt) (x : Stmt) → roll-Stmt l ≡ x → blocks_in x ≡ blocks_step (map-Stmt Stmt (Stmt → List NamedBlock) blocks_by l) l
blocks_layer l x h =
    ap blocks_in (sym h) ∙ ap (λ (g : Stmt → List NamedBlock). g (roll-Stmt l)) (fold-roll-Stmt (Stmt → List NamedBlock) (λ l y. blocks_step l (out-Stmt y)) l)
    ∙ ap (blocks_step (map-Stmt Stmt (Stmt → List NamedBlock) blocks_by l)) (out-roll-Stmt l)

pub blocks_Null : blocks_in s.Null ≡ []
blocks_Null = blocks_layer f.Null _ rolls-Null

pub blocks_Assign : (l : Box Left Global) (e : Expr) → blocks_in (s.Assign l e) ≡ []
blocks_Assign l e = blocks_layer (f.Assign l e) _ (rolls-Assign l e)

pub blocks_Later : (l : Box Left Global) (v : Option DelayValue) (e : Box Expr Global) → blocks_in (s.Later l v e) ≡ []
blocks_Later l v e = blocks_layer (f.Later l v e) _ (rolls-Later l v e)

pub blocks_Named : (n : Vec ℕ Global) (ls : Vec LocalDeclaration Global) (xs : Vec Stmt Global) →
    blocks_in (s.Named n ls xs) ≡ record { name = n.items; locals = ls.items; statements = xs.items } ∷ []
blocks_Named n ls xs = blocks_layer (f.Named n ls xs) _ (rolls-Named n ls xs)

pub blocks_For : (head : Box ForHeader Global) (x : Box Stmt Global) → blocks_in (s.For head x) ≡ blocks_in x.value
blocks_For head x = blocks_layer (f.For head x) _ (rolls-For head x)

pub blocks_While : (e : Expr) (x : Box Stmt Global) → blocks_in (s.While e x) ≡ blocks_in x.value
blocks_While e x = blocks_layer (f.While e x) _ (rolls-While e x)

pub blocks_Repeat : (e : Expr) (x : Box Stmt Global) → blocks_in (s.Repeat e x) ≡ blocks_in x.value
blocks_Repeat e x = blocks_layer (f.Repeat e x) _ (rolls-Repeat e x)

pub blocks_Forever : (x : Box Stmt Global) → blocks_in (s.Forever x) ≡ blocks_in x.value
blocks_Forever x = blocks_layer (f.Forever x) _ (rolls-Forever x)

pub blocks_Delay : (l : DelayValue) (x : Box Stmt Global) → blocks_in (s.Delay l x) ≡ blocks_in x.value
blocks_Delay l x = blocks_layer (f.Delay l x) _ (rolls-Delay l x)

pub blocks_Event : (e : EventControl) (x : Box Stmt Global) → blocks_in (s.Event e x) ≡ blocks_in x.value
blocks_Event e x = blocks_layer (f.Event e x) _ (rolls-Event e x)

pub blocks_Print : (task : PrintTask) (xs : PrintArguments) → blocks_in (s.Print task xs) ≡ []
blocks_Print task xs = blocks_layer (f.Print task xs) _ (rolls-Print task xs)

pub blocks_Finish : (n : Option Literal) → blocks_in (s.Finish n) ≡ []
blocks_Finish n = blocks_layer (f.Finish n) _ (rolls-Finish n)

pub blocks_Dump : (task : DumpTask) (xs : Option (DumpArgument × Vec DumpArgument Global)) → blocks_in (s.Dump task xs) ≡ []
blocks_Dump task xs = blocks_layer (f.Dump task xs) _ (rolls-Dump task xs)

-- ---- places in lists

module _ {A : Type 0} where
  at_first : (xs rest : List A) (i : ℕ) (x : A) → slice_get xs i ≡ Some x → slice_get (xs ++ rest) i ≡ Some x
  at_first [] rest i x h = absurd (none-some x h)
  at_first (y ∷ ys) rest zero x h = h
  at_first (y ∷ ys) rest (suc i) x h = at_first ys rest i x h

  at_behind : (front xs : List A) (i : ℕ) (x : A) → slice_get xs i ≡ Some x → (j : ℕ) × (slice_get (front ++ xs) j ≡ Some x)
  at_behind [] xs i x h = (i, h)
  at_behind (y ∷ ys) xs i x h = let q = at_behind ys xs i x h in (suc q.0, q.1)

  at_split : (xs ys : List A) (i : ℕ) (x : A) → slice_get (xs ++ ys) i ≡ Some x → ((j : ℕ) × (slice_get xs j ≡ Some x)) ⊎ ((j : ℕ) × (slice_get ys j ≡ Some x))
  at_split [] ys i x h = inr (i, h)
  at_split (z ∷ zs) ys zero x h = inl (zero, h)
  at_split (z ∷ zs) ys (suc i) x h = by (at_split zs ys i x h)
    where
      by : ((j : ℕ) × (slice_get zs j ≡ Some x)) ⊎ ((j : ℕ) × (slice_get ys j ≡ Some x)) → ((j : ℕ) × (slice_get (z ∷ zs) j ≡ Some x)) ⊎ ((j : ℕ) × (slice_get ys j ≡ Some x))
      by (inl q) = inl (suc q.0, q.1)
      by (inr q) = inr q

  -- an element that passes a test
  any_found : (test : A → Bool) (xs : List A) → list_any test xs ≡ true → (j : ℕ) × ((x : A) × ((slice_get xs j ≡ Some x) × (test x ≡ true)))
  any_found test [] h = absurd (true≢false (sym h))
  any_found test (y ∷ ys) h = by (test y) refl (any_found test ys) h
    where
      by : (t : Bool) → test y ≡ t → (list_any test ys ≡ true → (j : ℕ) × ((x : A) × ((slice_get ys j ≡ Some x) × (test x ≡ true)))) → (t || list_any test ys) ≡ true →
          (j : ℕ) × ((x : A) × ((slice_get (y ∷ ys) j ≡ Some x) × (test x ≡ true)))
      by true e others h = (zero, (y, (refl, e)))
      by false e others h = let q = others h in (suc q.0, (q.1.0, (q.1.1.0, q.1.1.1)))

-- the other one of two
pub zip_other : {A B : Type 0} (R : A → B → Type 0) (xs : List A) (ys : List B) (k : ℕ) (y : B) → AllZip R xs ys → slice_get ys k ≡ Some y → (x : A) × ((slice_get xs k ≡ Some x) × R x y)
zip_other R [] [] k y h g = absurd (none-some y g)
zip_other R [] (c ∷ cs) k y h g = absurd h
zip_other R (a ∷ us) [] k y h g = absurd h
zip_other R (a ∷ us) (c ∷ cs) zero y h g = (a, (refl, subst (R a) (same_Some c y g) h.0))
zip_other R (a ∷ us) (c ∷ cs) (suc k) y h g = zip_other R us cs k y h.1 g

-- a named block of statements is one of one of them
flat_found : (xs : List Stmt) (i : ℕ) (x : NamedBlock) → slice_get (blocks_among xs) i ≡ Some x → (j : ℕ) × ((y : Stmt) × ((k : ℕ) × ((slice_get xs j ≡ Some y) × (slice_get (blocks_in y) k ≡ Some x))))
flat_found [] i x h = absurd (none-some x h)
flat_found (y ∷ ys) i x h = by (λ k u. flat_found ys k x u) (at_split (blocks_in y) (blocks_among ys) i x h)
  where
    by : ((k : ℕ) → slice_get (blocks_among ys) k ≡ Some x → (j : ℕ) × ((z : Stmt) × ((l : ℕ) × ((slice_get ys j ≡ Some z) × (slice_get (blocks_in z) l ≡ Some x))))) →
        ((j : ℕ) × (slice_get (blocks_in y) j ≡ Some x)) ⊎ ((j : ℕ) × (slice_get (blocks_among ys) j ≡ Some x)) →
        (j : ℕ) × ((z : Stmt) × ((k : ℕ) × ((slice_get (y ∷ ys) j ≡ Some z) × (slice_get (blocks_in z) k ≡ Some x))))
    by others (inl q) = (zero, (y, (q.0, (refl, q.1))))
    by others (inr q) = let r = others q.0 q.1 in (suc r.0, (r.1.0, (r.1.1.0, (r.1.1.1.0, r.1.1.1.1))))

flat_back : (xs : List Stmt) (j : ℕ) (y : Stmt) (k : ℕ) (x : NamedBlock) → slice_get xs j ≡ Some y → slice_get (blocks_in y) k ≡ Some x → (i : ℕ) × (slice_get (blocks_among xs) i ≡ Some x)
flat_back [] j y k x h g = absurd (none-some y h)
flat_back (z ∷ zs) zero y k x h g = (k, at_first (blocks_in z) (blocks_among zs) k x (subst (λ o. slice_get (blocks_in o) k ≡ Some x) (sym (same_Some z y h)) g))
flat_back (z ∷ zs) (suc j) y k x h g = let q = flat_back zs j y k x h g in at_behind (blocks_in z) (blocks_among zs) q.0 x q.1

-- ---- what can be wrong, in parts

-- what can be wrong with a part can be wrong with the whole
pub record IsPart (a whole : Burden) : Type 0 where
  pub own : (r : Reason) → a.own r ≡ true → whole.own r ≡ true
  pub last : a.last ≤ whole.last
  pub before : List NamedBlock
  pub behind : List NamedBlock
  pub blocks : whole.blocks ≡ before ++ (a.blocks ++ behind)

module _ (list : List FoundScope) (envs : Path → Surroundings) (p : Path) where
  inner_more : (us bs front rest : List NamedBlock) (r : Reason) (at : Path) → bs ≡ front ++ (us ++ rest) → HasInnerFault envs p us r at → HasInnerFault envs p bs r at
  inner_more us bs front rest r at e h =
      let q = at_behind front (us ++ rest) h.place h.block (at_first us rest h.place h.block h.stands) in record {
        place = q.0;
        index = h.index;
        block = h.block;
        inner = h.inner;
        stands = ap (λ z. slice_get z q.0) e ∙ q.1;
        holds = h.holds;
        fault = h.fault;
      }

  -- a fault of a part
  pub fails_part : (a whole : Burden) (e : StatementFault) → IsPart a whole → BurdenFails list envs p a e → BurdenFails list envs p whole e
  fails_part a whole Memory q h = tt
  fails_part a whole Overfull q h = let k = q.last in omega (arith, k, h)
  fails_part a whole (Refused r) q h = q.own r h
  fails_part a whole (Inside k r) q h = (h.0, (h.1.0, inner_more a.blocks whole.blocks q.before q.behind r h.0 q.blocks h.1.1))

  -- a fault of an expression
  pub fails_by : (own : Reason → Bool) (whole : Burden) (fault : BodyFault) → ((r : Reason) → own r ≡ true → whole.own r ≡ true) → Refuses own fault → BurdenFails list envs p whole (as_statement_fault fault)
  fails_by own whole b.Memory g h = tt
  fails_by own whole (b.Refused r) g h = g r h

  -- too many statements
  pub fails_overfull : (whole : Burden) (n : ℕ) (e : StatementFault) → n ≤ whole.last → (e ≡ Overfull) × (2 ^ 32 ≤ n) → BurdenFails list envs p whole e
  fails_overfull whole n e m h = let k : 2 ^ 32 ≤ n = h.1 in let g : 2 ^ 32 ≤ whole.last = omega arith in subst (λ z. BurdenFails list envs p whole z) (sym h.0) g

-- no fault in any of these named blocks
abbrev pub AreFree : (Path → Surroundings) → Path → List NamedBlock → Type 0
AreFree envs p bs = (r : Reason) (at : Path) → HasInnerFault envs p bs r at → ⊥

pub free_none : (envs : Path → Surroundings) (p : Path) (bs : List NamedBlock) → bs ≡ [] → AreFree envs p bs
free_none envs p bs e r at h = none-some h.block (sym (ap (λ z. slice_get z h.place) e) ∙ h.stands)

pub free_same : (envs : Path → Surroundings) (p : Path) (us bs : List NamedBlock) → bs ≡ us → AreFree envs p us → AreFree envs p bs
free_same envs p us bs e g = subst (AreFree envs p) (sym e) g

pub free_both : (envs : Path → Surroundings) (p : Path) (us cs : List NamedBlock) → AreFree envs p us → AreFree envs p cs → AreFree envs p (us ++ cs)
free_both envs p us cs g k r at h = by (at_split us cs h.place h.block h.stands)
  where
    by : ((j : ℕ) × (slice_get us j ≡ Some h.block)) ⊎ ((j : ℕ) × (slice_get cs j ≡ Some h.block)) → ⊥
    by (inl q) = g r at (record { place = q.0; index = h.index; block = h.block; inner = h.inner; stands = q.1; holds = h.holds; fault = h.fault })
    by (inr q) = k r at (record { place = q.0; index = h.index; block = h.block; inner = h.inner; stands = q.1; holds = h.holds; fault = h.fault })

-- ---- the statements of a named block

-- the path of the scope of a named block
abbrev pub inside_path : Path → NamedBlock → Path
inside_path p x = p ++ plainly x.name ∷ []

module _ (list : List FoundScope) (envs : Path → Surroundings) (p : Path) (first place : ℕ) (x : NamedBlock) where
  pub inside_fails : (e : StatementFault) → IsSite list envs place (inside_path p x) → BurdenFails list envs (inside_path p x) (statements_burden (envs (inside_path p x)) first x.statements) e →
      BurdenFails list envs p (named_burden first x) (deeper place e)
  inside_fails Memory site h = tt
  inside_fails Overfull site h = h
  inside_fails (Refused r) site h =
      let q = any_found (has_fault r (envs (inside_path p x))) x.statements h in (
        inside_path p x,
        (
          site,
          record { place = zero; index = q.0; block = x; inner = q.1.0; stands = refl; holds = q.1.1.0; fault = in_statement (inside_path p x) q.1.0 q.1.1.1 refl },
        ),
      )
  inside_fails (Inside k r) site h =
      let i = h.1.1 in
      let q = flat_found x.statements i.place i.block i.stands in (
        h.0,
        (
          h.1.0,
          record {
            place = zero;
            index = q.0;
            block = x;
            inner = q.1.0;
            stands = refl;
            holds = q.1.1.1.0;
            fault = in_block (inside_path p x) q.1.0 i.inner q.1.1.0 i.index i.block q.1.1.1.1 i.holds i.fault;
          },
        ),
      )

no_fault_inside : (envs : Path → Surroundings) (q : Path) (xs : List Stmt) (first : ℕ) (j : ℕ) (y : Stmt) (r : Reason) (at : Path) → IsFree envs q (statements_burden (envs q) first xs) → slice_get xs j ≡ Some y → HasFaultAt envs r at q y → ⊥
no_fault_inside envs _ xs first j _ r at h e (in_statement q y g k) = true≢false (sym g ∙ any_false_at (has_fault r (envs q)) xs j y (h.own r) e)
no_fault_inside envs _ xs first j _ r at h e (in_block q y z i l c g k u) =
    let w = flat_back xs j y i c e g in
    h.blocks r at (record { place = w.0; index = l; block = c; inner = z; stands = w.1; holds = k; fault = u })

one_block : (x y : NamedBlock) (i : ℕ) → slice_get (x ∷ []) i ≡ Some y → x ≡ y
one_block x y zero h = same_Some x y h
one_block x y (suc i) h = absurd (none-some y h)

pub inside_free : (envs : Path → Surroundings) (p : Path) (first : ℕ) (x : NamedBlock) → IsFree envs (inside_path p x) (statements_burden (envs (inside_path p x)) first x.statements) → IsFree envs p (named_burden first x)
inside_free envs p first x h = record {
  own = λ r. refl;
  room = h.room;
  blocks = λ r at i.
      let same = one_block x i.block i.place i.stands in
      no_fault_inside envs (inside_path p x) x.statements first i.index i.inner r at h
      (subst (λ z. slice_get z.statements i.index ≡ Some i.inner) (sym same) i.holds)
      (subst (λ z. HasFaultAt envs r at (inside_path p z) i.inner) (sym same) i.fault);
}

-- ---- the scope of a named block

pub site_inside : (list : List FoundScope) (envs : Path → Surroundings) (place : ℕ) (p : Path) (o : FoundScope) (n : List ℕ) (inner : ℕ) → IsSite list envs place p → slice_get list place ≡ Some o → meaning_of o.blocks n ≡ Some inner →
    IsSite list envs inner (p ++ plainly n ∷ [])
site_inside list envs place p o n inner h at found =
    let t = (zip_at (HasBlocks h.scopes) list h.scopes place o h.scope h.sites.blocks at h.stands).found n inner found in
    record { scopes = h.scopes; sites = h.sites; scope = t.inner; stands = t.stands; path = t.path ∙ ap (λ z. z ++ plainly n ∷ []) h.path }

-- a unit of time is as many ticks in the scope of a named block as around it
pub ratio_inside : (list : List FoundScope) (envs : Path → Surroundings) (place : ℕ) (p : Path) (o : FoundScope) (n : List ℕ) (inner ratio : ℕ) → IsSite list envs place p → slice_get list place ≡ Some o → meaning_of o.blocks n ≡ Some inner → ratio ≡ (envs p).ratio →
    ratio ≡ (envs (p ++ plainly n ∷ [])).ratio
ratio_inside list envs place p o n inner ratio h at found e =
    let t = (zip_at (HasBlocks h.scopes) list h.scopes place o h.scope h.sites.blocks at h.stands).found n inner found in
    let path : t.inner.path ≡ p ++ plainly n ∷ [] = t.path ∙ ap (λ z. z ++ plainly n ∷ []) h.path in
    e ∙ sym (ap (λ (z : Path). (envs z).ratio) h.path) ∙ h.sites.ratios place h.scope h.stands ∙ sym (h.sites.ratios inner t.inner t.stands) ∙ ap (λ (z : Path). (envs z).ratio) path

said_else : {A : Type 0} (a b : Option A) → or_else a b ≡ said b a
said_else None b = refl
said_else (Some x) b = refl

-- what names are bound to in a scope, by its own names and those around it
pub site_names : (list : List FoundScope) (envs : Path → Surroundings) (place : ℕ) (p : Path) (o : FoundScope) (outer names : Bindings) (site : IsSite list envs place p) → slice_get list place ≡ Some o → names ≡ o.names ++ outer →
    ((n : List ℕ) → meaning_of outer n ≡ seen_from site.scope.kind site.scope.outer n) → meaning_of names ≡ (envs p).names
site_names list envs place p o outer names site at e seen =
    let t = site.scope in
    let opened : IsOpened site.scopes o t = zip_at (IsOpened site.scopes) list site.scopes place o t site.sites.opened.each at site.stands in
    let one : (n : List ℕ) → meaning_of names n ≡ environment t n =
    λ n.
    ap (λ z. meaning_of z n) e ∙ meaning_of_append o.names outer n ∙ said_else (meaning_of o.names n) (meaning_of outer n) ∙ ap (said (meaning_of outer n)) (opened.names n) ∙ ap (λ z. said z (meaning_of (bindings_of t) n)) (seen n) in
    fun_ext one ∙ sym (site.sites.names place t site.stands) ∙ ap (λ (z : Path). (envs z).names) site.path

-- ---- places

-- the scope around one stands among them
pub around_within : (list : List FoundScope) (place : ℕ) (o : FoundScope) → IsPlaced list place → slice_get list place ≡ Some o → (k : ℕ) → o.around ≡ Some k → k < length list
around_within list place o h at k e = let before : k < place = h.seated.around place k o at e in let within : place < length list = h.within in omega arith

outward_is : (kind : ScopeKind) (around : Option ℕ) (k : ℕ) → outward_place kind around ≡ Some k → around ≡ Some k
outward_is opened_by.Module around k e = absurd (none-some k e)
outward_is opened_by.Begin around k e = e

pub outward_within : (list : List FoundScope) (place : ℕ) (o : FoundScope) → IsPlaced list place → slice_get list place ≡ Some o → (k : ℕ) → outward_place o.kind o.around ≡ Some k → k < length list
outward_within list place o h at k e = around_within list place o h at k (outward_is o.kind o.around k e)

-- a place that a scope has for a scope inside
pub placed_inside : (list : List FoundScope) (place : ℕ) (o : FoundScope) (n : List ℕ) (inner : ℕ) → IsPlaced list place → slice_get list place ≡ Some o → meaning_of o.blocks n ≡ Some inner → IsPlaced list inner
placed_inside list place o n inner h at e = record { within = h.blocks place o n inner at e; seated = h.seated; blocks = h.blocks }

-- what a site says of the scope that stands there
pub site_opened : (list : List FoundScope) (envs : Path → Surroundings) (place : ℕ) (p : Path) (o : FoundScope) (site : IsSite list envs place p) → slice_get list place ≡ Some o → IsOpened site.scopes o site.scope
site_opened list envs place p o site at = zip_at (IsOpened site.scopes) list site.scopes place o site.scope site.sites.opened.each at site.stands

-- what names are bound to in the scope of a place, by its own names and those around it
pub names_at : (list : List FoundScope) (envs : Path → Surroundings) (place : ℕ) (p : Path) (o : FoundScope) (names around : Bindings) (site : IsSite list envs place p) → slice_get list place ≡ Some o → names ≡ o.names ++ around →
    ((ss : List Scope) (s : Scope) → AreOpened list ss → HasParentScope ss o.around s → o.kind ≡ s.kind → (n : List ℕ) → meaning_of around n ≡ seen_from s.kind s.outer n) → meaning_of names ≡ (envs p).names
names_at list envs place p o names around site at e seen =
    let opened = site_opened list envs place p o site at in
    site_names list envs place p o around names site at e (seen site.scopes site.scope site.sites.opened opened.entered.around opened.entered.kind)

pub below_deeper : (n place : ℕ) (e : StatementFault) → place < n → IsBelow n e → IsBelow n (deeper place e)
below_deeper n place Memory h k = tt
below_deeper n place Overfull h k = tt
below_deeper n place (Refused r) h k = h
below_deeper n place (Inside j r) h k = k
