-- Statements of a design are sound, where names are bound to its signals.
use Rattle.std.proofs.Common.{◌≡◌, ℕ, ◌≤◌, Bool, true, false, ◌&&◌, subst, not, nat_lt, List, [], ◌∷◌, ◌++◌, Option, Some, None, is_some, length, map, max, slice_get, refl, ap, ap₂, sym, ◌∙◌, arith, true≢false, eq-eqb}
use Rattle.std.specs.List.{list_all, AllZip}
use Rattle.std.specs.declared.vec.Vec.{Vec}
use Rattle.std.specs.declared.boxed.Box.{Box}
use Rattle.std.specs.declared.alloc.Global.{Global}
use Rattle.vs_syntax.specs.declared.tree.Expr.{Expr}
use Rattle.vs_syntax.specs.declared.tree.CaseLabel.{CaseLabel}
use Rattle.vs_syntax.specs.declared.tree.EventControl.{EventControl}
use Rattle.vs_syntax.specs.declared.tree.EventExpr.{EventExpr}
use Rattle.vs_syntax.specs.declared.tree.Argument.{Argument}
use Rattle.vs_syntax.specs.declared.tree.Argument.TheVariants as given
use Rattle.vs_syntax.specs.declared.tree.Stmt.{Stmt}
use Rattle.vs_design.specs.vs_logic4.specs.declared.case.CaseKind.{CaseKind}
use Rattle.vs_design.specs.vs_logic4.specs.declared.edge.Edge.{Edge}
use Rattle.vs_design.specs.vs_logic4.specs.declared.edge.Edge.TheVariants.{Any}
use Rattle.vs_design.specs.declared.expression.Slice.{Slice}
use Rattle.vs_design.specs.declared.statement.EventTerm.{EventTerm}
use Rattle.vs_design.specs.Statements.{statement_reads}
use Rattle.vs_elab_statements.proofs.ReadsLemmas.{statement_within}
use Rattle.vs_design.specs.declared.range.BitRange.{BitRange}
use Rattle.vs_design.specs.Kinds.{is_variable}
use Rattle.vs_design.specs.Uses.{reads}
use Rattle.vs_design.specs.declared.statement.Aim.{Aim}
use Rattle.vs_design.specs.declared.statement.Aim.TheVariants.{Fixed, Chosen}
use Rattle.vs_design.specs.declared.write.Part.{Part}
use Rattle.vs_design.specs.WellFormed.{size_of, is_at_least, are_within, is_within, is_of_variable, is_of_net, is_variable_aim, is_net_aim, is_sound_target, is_source, is_sound_assignment, sound_step, is_sound_statement, is_sound_operand, is_sound_arg, are_sound_labels, are_sound_terms, same_size, is_forever, is_body_of}
use Rattle.vs_design.proofs.FormLemmas.{sound_Null, sound_Assign, sound_Later, sound_Call, sound_Finish, sound_Forever}
use Rattle.vs_design.specs.declared.signal.Signal.{Signal}
use Rattle.vs_design.specs.declared.expression.Typed.{Typed}
use Rattle.vs_design.specs.declared.statement.Target.{Target}
use Rattle.vs_design.specs.declared.statement.Ticks.{Ticks}
use Rattle.vs_design.specs.declared.statement.FormatArg.{FormatArg}
use Rattle.vs_design.specs.declared.statement.FormatArg.TheVariants as made
use Rattle.vs_design.specs.declared.statement.Statement.{Statement}
use Rattle.vs_design.specs.declared.statement.Statement.TheVariants as d
use Rattle.vs_design.specs.declared.statement.Statement.TheVariants.{rolls-Block, rolls-If, rolls-Case, rolls-While, rolls-Repeat, rolls-Delay, rolls-Event}
use Rattle.vs_design.specs.declared.statement.Statement.TheOpen as f
use Rattle.vs_design.specs.declared.statement.Statement.TheFolds.{fold-roll-Statement}
use Rattle.vs_design.specs.declared.statement.Statement.TheViews.{out-Statement}
use Rattle.std.proofs.lemmas.Bool.{and_parts, le-leb, lt-ltb, not-true}
use Rattle.std.proofs.lemmas.List.Folds.{list_all-append}
use Rattle.std.proofs.lemmas.Option.{slice_get_within}
use Rattle.vs_scopes.specs.vs_widths.specs.declared.bindings.Meaning.{Meaning}
use Rattle.vs_scopes.specs.vs_widths.specs.declared.bindings.Binding.{Binding}
use Rattle.vs_scopes.specs.vs_widths.specs.declared.bindings.Binding.TheVariants as b
use Rattle.vs_widths.specs.declared.kinds.AssignmentKind.{AssignmentKind}
use Rattle.vs_widths.specs.declared.kinds.AssignmentKind.TheVariants.{Procedural, Continuous, Event}
use Rattle.vs_scopes.specs.vs_widths.specs.Environment.{Environment}
use Rattle.vs_scopes.specs.vs_widths.specs.Meants.{Meant}
use Rattle.vs_scopes.specs.vs_widths.specs.Each.{Each, each_none, each_more}
use Rattle.vs_scopes.specs.vs_widths.specs.Selects.{Named}
use Rattle.vs_widths.specs.Expressions.{meant, name_meant}
use Rattle.vs_widths.specs.Typing.{HoldsOfSignals, IsTypedAs}
use Rattle.vs_widths.specs.Lefts.{Aimed, name_aimed, takes_reads}
use Rattle.vs_widths.specs.Aiming.{is_none_read, IsPlace, IsTarget}
use Rattle.vs_widths.proofs.ReadLemmas.{reads_within}
use Rattle.vs_elab_statements.specs.Statements.{assigned_to, IsSource, IsAssignment, IsStatement, is_null, is_assign, is_later, is_block, is_named, is_if, is_case, is_for, is_while, is_repeat, is_forever as repeats_forever, is_delay, is_event, is_print, is_finish, is_dump, print_values, IsArgument, IsElse, no_else, an_else, AreItems, no_items, more_items, AreTypedAt, no_typed, more_typed, label_exprs, IsTerm, AreTerms, no_terms, more_terms, AreEvents, are_star, are_grouped, are_name, are_terms, event_aimed, level_term, AreStatements, are_none, are_more}
use Rattle.vs_scopes.specs.Printed.{Path}
use Rattle.vs_elab_statements.specs.Surroundings.{Surroundings}
use Rattle.vs_elab_statements.specs.Members.{Assignee, places, Behavior}
use Rattle.vs_elab_statements.specs.Processes.{IsBody, is_set, is_run, is_repeat, kind_of}
use Rattle.vs_scopes.proofs.Folds.{all_of_map}
use Rattle.std.proofs.lemmas.Bool.{and_from as both_true}

-- ---- statements

sound_Block : (ss : List Signal) (xs : Vec Statement Global) → is_sound_statement ss (d.Block xs) ≡ list_all (is_sound_statement ss) xs.items
sound_Block ss xs = ap (is_sound_statement ss) (sym (rolls-Block xs)) ∙ fold-roll-Statement Bool (sound_step ss) (f.Block xs) ∙ all_of_map (is_sound_statement ss) xs.items

sound_Delay : (ss : List Signal) (k : ℕ) (n : Ticks) (x : Box Statement Global) → is_sound_statement ss (d.Delay k n x) ≡ is_sound_statement ss x.value
sound_Delay ss k n x = ap (is_sound_statement ss) (sym (rolls-Delay k n x)) ∙ fold-roll-Statement Bool (sound_step ss) (f.Delay k n x)

sound_If : (ss : List Signal) (k : ℕ) (e : Typed) (a b : Box Statement Global) → is_sound_statement ss (d.If k e a b) ≡ (is_sound_operand ss e && is_sound_statement ss a.value && is_sound_statement ss b.value)
sound_If ss k e a b = ap (is_sound_statement ss) (sym (rolls-If k e a b)) ∙ fold-roll-Statement Bool (sound_step ss) (f.If k e a b)

-- whether an item of a `case` with this expression is sound
abbrev is_sound_item : List Signal → Typed → Vec Typed Global × Statement → Bool
is_sound_item ss x i = are_sound_labels ss x i.0.items && is_sound_statement ss i.1

items_each : (ss : List Signal) (x : Typed) (is : List (Vec Typed Global × Statement)) → list_all (λ (i : Vec Typed Global × Bool). are_sound_labels ss x i.0.items && i.1) (map (λ (i : Vec Typed Global × Statement). (i.0, is_sound_statement ss i.1)) is) ≡ list_all (is_sound_item ss x) is
items_each ss x [] = refl
items_each ss x (i ∷ is) = ap (λ b. is_sound_item ss x i && b) (items_each ss x is)

sound_Case : (ss : List Signal) (k : ℕ) (kind : CaseKind) (x : Typed) (is : Vec (Vec Typed Global × Statement) Global) → is_sound_statement ss (d.Case k kind x is) ≡ (is_sound_operand ss x && list_all (is_sound_item ss x) is.items)
sound_Case ss k kind x is =
    ap (is_sound_statement ss) (sym (rolls-Case k kind x is)) ∙ fold-roll-Statement Bool (sound_step ss) (f.Case k kind x is) ∙ ap (λ b. is_sound_operand ss x && b) (items_each ss x is.items)

sound_While : (ss : List Signal) (k : ℕ) (e : Typed) (x : Box Statement Global) → is_sound_statement ss (d.While k e x) ≡ (is_sound_operand ss e && is_sound_statement ss x.value)
sound_While ss k e x = ap (is_sound_statement ss) (sym (rolls-While k e x)) ∙ fold-roll-Statement Bool (sound_step ss) (f.While k e x)

sound_Repeat : (ss : List Signal) (k : ℕ) (g : Bool) (e : Typed) (x : Box Statement Global) → is_sound_statement ss (d.Repeat k g e x) ≡ (is_sound_operand ss e && is_sound_statement ss x.value)
sound_Repeat ss k g e x = ap (is_sound_statement ss) (sym (rolls-Repeat k g e x)) ∙ fold-roll-Statement Bool (sound_step ss) (f.Repeat k g e x)

sound_Event : (ss : List Signal) (k : ℕ) (ts : Vec EventTerm Global) (x : Box Statement Global) → is_sound_statement ss (d.Event k ts x) ≡ (are_sound_terms ss ts.items && is_sound_statement ss x.value)
sound_Event ss k ts x = ap (is_sound_statement ss) (sym (rolls-Event k ts x)) ∙ fold-roll-Statement Bool (sound_step ss) (f.Event k ts x)

forever_body : (k : ℕ) (x : Box Statement Global) → is_forever (out-Statement (d.Forever k x)) ≡ true
unfolding out-Statement denote.Hole.Carrier.out
forever_body k x = refl

-- ---- what names mean

-- the signal of a number is what its name means; a net is no array
pub record IsMeant (ss : List Signal) (m : Meaning) (k : ℕ) : Type 0 where
  pub signal : Signal
  pub stands : slice_get ss k ≡ Some signal
  pub kind : signal.kind ≡ m.kind
  pub of_net : is_variable m.kind ≡ false → (m.words ≡ None) × (signal.count ≡ 1)

-- each signal to which a name is bound is what its name means
abbrev pub IsGood : List Signal → Environment → Type 0
IsGood ss env = (n : List ℕ) (m : Meaning) (k : ℕ) → env n ≡ Some (b.Signal m k) → IsMeant ss m k

-- places of which each passes a test
places_pass : {how : AssignmentKind} {env : Environment} (test : Aim → Bool) → ((n : Named) (a : Aim) → IsPlace how env n a → test a ≡ true) → (ns : List Named) (aims : List Aim) → Each (IsPlace how env) ns aims → list_all test aims ≡ true
places_pass test one _ _ each_none = refl
places_pass test one _ _ (each_more n a ns aims p ps) = both_true _ _ (one n a p) (places_pass test one ns aims ps)

-- what an expression means reads signals of the design alone
abbrev ReadsWithin : List Signal → Meant → Type 0
ReadsWithin ss m = list_all (λ (r : BitRange). nat_lt r.signal (length ss)) m.reads ≡ true

pub source_sound : (ss : List Signal) (m : Meant) (u : Target) (x : Typed) → ReadsWithin ss m → IsSource m u.width x → is_source ss u x ≡ true
source_sound ss m u x reads h =
    let y = h.typed in
    let within : is_within ss x ≡ true = ap (are_within ss) y.ranges ∙ reads in
    let wide : u.width ≤ max u.width h.width = omega arith in
    both_true _ _ within (ap (is_at_least u.width) y.size ∙ le-leb u.width (max u.width h.width) wide)

module _ (ss : List Signal) (env : Environment) (good : IsGood ss env) where
  pub in_design : HoldsOfSignals env (λ k. nat_lt k (length ss))
  in_design n m k e = let g = good n m k e in lt-ltb k (length ss) (slice_get_within ss k g.signal g.stands)

  pub name_within : (n : List ℕ) (o : Option Binding) → env n ≡ o → ReadsWithin ss (name_meant o)
  name_within n None e = refl
  name_within n (Some (b.Signal m k)) e = both_true _ _ (in_design n m k e) refl
  name_within n (Some (b.Constant c)) e = refl
  name_within n (Some b.Pending) e = refl
  name_within n (Some b.Genvar) e = refl
  name_within n (Some b.Other) e = refl

  -- a place of a variable
  variable_place : (n : Named) (a : Aim) → IsPlace Procedural env n a → is_variable_aim ss a ≡ true
  variable_place n (Fixed s) p =
      let g = good p.name p.meaning p.number p.bound in
      let at : s.signal ≡ p.number = ap (λ (z : Part). z.signal) (p.part [] [] 0) ∙ p.signal in
      ap (λ i. is_of_variable (slice_get ss i)) at ∙ ap is_of_variable g.stands ∙ ap is_variable g.kind ∙ p.taken
  variable_place n (Chosen s word low) p =
      let g = good p.name p.meaning p.number p.bound in
      let at : s.signal ≡ p.number = ap (λ (z : Part). z.signal) (p.part [] [] 0) ∙ p.signal in
      let of_variable : is_of_variable (slice_get ss s.signal) ≡ true = ap (λ i. is_of_variable (slice_get ss i)) at ∙ ap is_of_variable g.stands ∙ ap is_variable g.kind ∙ p.taken in
      let inside : are_within ss (reads word ++ reads low) ≡ true = ap (are_within ss) p.reads ∙ p.within (λ k. nat_lt k (length ss)) in_design in
      let parts = and_parts (is_within ss word) (is_within ss low) (sym (list_all-append (λ (r : BitRange). nat_lt r.signal (length ss)) (reads word) (reads low)) ∙ inside) in
      let sizes = and_parts (is_some (size_of word)) (is_some (size_of low)) p.sizes in
      both_true _ _ (both_true _ _ (both_true _ _ (both_true _ _ of_variable parts.0) parts.1) sizes.0) sizes.1

  -- a place of a net
  net_place : (n : Named) (a : Aim) → IsPlace Continuous env n a → is_net_aim ss a ≡ true
  net_place n (Chosen s word low) p = absurd (by n.reads p.constant p.fixed)
    where
      by : (rs : List BitRange) → takes_reads Continuous rs ≡ true → false ≡ is_none_read rs → ⊥
      by [] h k = true≢false (sym k)
      by (r ∷ rs) h k = true≢false (sym h)
  net_place n (Fixed s) p =
      let g = good p.name p.meaning p.number p.bound in
      let same = p.part [] [] 0 in
      let at : s.signal ≡ p.number = ap (λ (z : Part). z.signal) same ∙ p.signal in
      let kind : is_variable p.meaning.kind ≡ false = not-true _ p.taken in
      let net = g.of_net kind in
      let first : s.word ≡ 0 = ap (λ (z : Part). z.word) same ∙ p.scalar net.0 [] 0 in
      let of_net : is_of_net (slice_get ss s.signal) ≡ true =
      ap (λ i. is_of_net (slice_get ss i)) at ∙ ap is_of_net g.stands ∙ both_true _ _ (ap not (ap is_variable g.kind ∙ kind)) (eq-eqb g.signal.count 1 net.1) in
      both_true _ _ of_net (eq-eqb s.word 0 first)

  variable_target : (m : Aimed) (u : Target) → IsTarget Procedural env m u → is_sound_target (is_variable_aim ss) u ≡ true
  variable_target m u h = both_true _ _ (places_pass (is_variable_aim ss) variable_place _ u.parts.items h.places) (eq-eqb _ u.width h.width)

  pub net_target : (m : Aimed) (u : Target) → IsTarget Continuous env m u → is_sound_target (is_net_aim ss) u ≡ true
  net_target m u h = both_true _ _ (places_pass (is_net_aim ss) net_place _ u.parts.items h.places) (eq-eqb _ u.width h.width)

  assignment_sound : (a : Assignee) (e : Expr) (u : Target) (x : Typed) → IsAssignment Procedural env a e u x → is_sound_assignment ss u x ≡ true
  assignment_sound a e u x h =
      both_true _ _ (variable_target (assigned_to Procedural env a) u h.target) (source_sound ss (meant env e) u x (reads_within env (λ k. nat_lt k (length ss)) in_design e) h.source)

  -- an expression at a size and a sign
  typed_sound : (e : Expr) (width : ℕ) (signed : Bool) (z : Typed) → IsTypedAs (meant env e) width signed z → is_sound_operand ss z ≡ true
  typed_sound e width signed z h =
      both_true _ _ (ap (are_within ss) h.ranges ∙ reads_within env (λ k. nat_lt k (length ss)) in_design e) (ap is_some h.size)

  labels_sound : (width : ℕ) (signed : Bool) (x : Typed) (es : List Expr) (zs : List Typed) → size_of x ≡ Some width → AreTypedAt env width signed es zs → are_sound_labels ss x zs ≡ true
  labels_sound width signed x _ _ h no_typed = refl
  labels_sound width signed x _ _ h (more_typed e z es zs p ps) =
      both_true _ _ (both_true _ _ (typed_sound e width signed z p) (ap₂ same_size h p.size ∙ eq-eqb width width refl)) (labels_sound width signed x es zs h ps)

  args_sound : (xs : List Argument) (ys : List FormatArg) → AllZip (IsArgument env) xs ys → list_all (is_sound_arg ss) ys ≡ true
  args_sound [] [] h = refl
  args_sound [] (y ∷ ys) h = absurd h
  args_sound (x ∷ xs) [] h = absurd h
  args_sound (given.Value e ∷ xs) (made.Value signed z ∷ ys) h = both_true _ _ (typed_sound e h.0.width signed z h.0.typed) (args_sound xs ys h.1)
  args_sound (given.Time ∷ xs) (made.Time ∷ ys) h = args_sound xs ys h.1
  args_sound (given.Value e ∷ xs) (made.Time ∷ ys) h = absurd h.0
  args_sound (given.Time ∷ xs) (made.Value signed z ∷ ys) h = absurd h.0

  -- the place of a term is one of a signal of the design
  place_sound : (a : Aimed) (t : Target) (place : Slice) → IsTarget Event env a t → t.parts.items ≡ Fixed place ∷ [] → nat_lt place.signal (length ss) ≡ true
  place_sound a t place h e = by a.places (subst (λ aims. Each (IsPlace Event env) a.places aims) e h.places)
    where
      by : (ns : List Named) → Each (IsPlace Event env) ns (Fixed place ∷ []) → nat_lt place.signal (length ss) ≡ true
      by _ (each_more n _ ns _ p ps) =
          let at : place.signal ≡ p.number = ap (λ (z : Part). z.signal) (p.part [] [] 0) ∙ p.signal in
          ap (λ i. nat_lt i (length ss)) at ∙ in_design p.name p.meaning p.number p.bound

  term_sound : (edge : Edge) (a : Aimed) (y : EventTerm) → IsTerm env edge a y → nat_lt y.range.signal (length ss) ≡ true
  term_sound edge a y h = ap (λ (r : BitRange). nat_lt r.signal (length ss)) h.range ∙ place_sound a h.target h.place h.named h.alone

  terms_sound : (ts : List EventExpr) (ys : List EventTerm) → AreTerms env ts ys → are_sound_terms ss ys ≡ true
  terms_sound _ _ no_terms = refl
  terms_sound _ _ (more_terms t y ts ys h k) = both_true _ _ (term_sound t.edge (event_aimed env t) y h) (terms_sound ts ys k)

  level_sound : (rs : List BitRange) → are_within ss rs ≡ true → are_sound_terms ss (map level_term rs) ≡ true
  level_sound [] h = refl
  level_sound (r ∷ rs) h = let parts = and_parts (nat_lt r.signal (length ss)) (are_within ss rs) h in both_true _ _ parts.0 (level_sound rs parts.1)

  events_sound : (z : Statement) (e : EventControl) (ys : List EventTerm) → is_sound_statement ss z ≡ true → AreEvents env z e ys → are_sound_terms ss ys ≡ true
  events_sound z _ _ h are_star = level_sound (statement_reads z) (statement_within ss z h)
  events_sound z _ _ h are_grouped = level_sound (statement_reads z) (statement_within ss z h)
  events_sound z _ _ h (are_name n y k) = both_true _ _ (term_sound Any (name_aimed Event (env n.items) []) y k) refl
  events_sound z _ _ h (are_terms t ts ys k) = terms_sound _ ys k

-- statements of the scopes of paths, where names are bound so in each
module _ (ss : List Signal) (envs : Path → Surroundings) (good : (p : Path) → IsGood ss (envs p).names) where
  typed_at : (p : Path) (e : Expr) (width : ℕ) (signed : Bool) (z : Typed) → IsTypedAs (meant (envs p).names e) width signed z → is_sound_operand ss z ≡ true
  typed_at p = typed_sound ss (envs p).names (good p)

  assigned_at : (p : Path) (a : Assignee) (e : Expr) (u : Target) (x : Typed) → IsAssignment Procedural (envs p).names a e u x → is_sound_assignment ss u x ≡ true
  assigned_at p = assignment_sound ss (envs p).names (good p)

  mutual
    statement_sound : (p : Path) (x : Stmt) (z : Statement) → IsStatement envs p x z → is_sound_statement ss z ≡ true
    statement_sound _ _ _ (is_null p j) = sound_Null ss j
    statement_sound _ _ _ (is_assign p l e j u x h) = sound_Assign ss j u x ∙ assigned_at p (places l.value) e u x h
    statement_sound _ _ _ (is_later p l v e j n u x h due) = sound_Later ss j n u x ∙ assigned_at p (places l.value) e.value u x h
    statement_sound _ _ _ (is_block p xs zs h) = sound_Block ss zs ∙ statements_sound p _ _ h
    statement_sound _ _ _ (is_named p n ls xs zs h) = sound_Block ss zs ∙ statements_sound _ _ _ h
    statement_sound _ _ _ (is_if p e j z signed x o y w h g k) =
        sound_If ss j z y w ∙ both_true _ _ (both_true _ _ (typed_at p e.value h.width signed z h.typed) (statement_sound p _ _ g)) (else_sound p _ _ k)
    statement_sound _ _ _ (is_case p kind e j z width signed xs ys found h two k) =
        sound_Case ss j kind z ys ∙ both_true _ _ (typed_at p e.value width signed z h) (items_sound p width signed z _ _ h.size k)
    statement_sound _ _ _ (is_for p head x i j k t u y w z signed all inner body one h g o q turns turn parts) =
        let step : is_sound_statement ss (d.Assign k u w) ≡ true = sound_Assign ss k u w ∙ assigned_at p (places head.value.step.0) head.value.step.1 u w o in
        let block : is_sound_statement ss body.value ≡ true =
        ap (is_sound_statement ss) turn ∙ sound_Block ss inner ∙ ap (list_all (is_sound_statement ss)) turns ∙ both_true _ _ (statement_sound p _ _ q) (both_true _ _ step refl) in
        let loop : is_sound_statement ss (d.While j z body) ≡ true = sound_While ss j z body ∙ both_true _ _ (typed_at p head.value.condition g.width signed z g.typed) block in
        sound_Block ss all ∙ ap (list_all (is_sound_statement ss)) parts ∙ both_true _ _ (sound_Assign ss i t y ∙ assigned_at p (places head.value.first.0) head.value.first.1 t y h) (both_true _ _ loop refl)
    statement_sound _ _ _ (is_while p e j z signed x y h g) = sound_While ss j z y ∙ both_true _ _ (typed_at p e h.width signed z h.typed) (statement_sound p _ _ g)
    statement_sound _ _ _ (is_repeat p e j z signed x y h g) = sound_Repeat ss j signed z y ∙ both_true _ _ (typed_at p e h.width signed z h.typed) (statement_sound p _ _ g)
    statement_sound _ _ _ (repeats_forever p j x y g) = sound_Forever ss j y ∙ statement_sound p _ _ g
    statement_sound _ _ _ (is_delay p l j n x z h g) = sound_Delay ss j n z ∙ statement_sound p _ _ g
    statement_sound _ _ _ (is_event p e j ts x y g h) =
        let inside = statement_sound p _ _ g in
        sound_Event ss j ts y ∙ both_true _ _ (events_sound ss (envs p).names (good p) y.value e ts.items inside h) inside
    statement_sound _ _ _ (is_print p task xs j c h) = sound_Call ss j c ∙ args_sound ss (envs p).names (good p) (print_values xs) c.args.items h.args
    statement_sound _ _ _ (is_finish p n j) = sound_Finish ss j
    statement_sound _ _ _ (is_dump p task xs j) = sound_Null ss j

    else_sound : (p : Path) (o : Option (Box Stmt Global)) (z : Statement) → IsElse envs p o z → is_sound_statement ss z ≡ true
    else_sound _ _ _ (no_else p ys h) = sound_Block ss ys ∙ ap (list_all (is_sound_statement ss)) h
    else_sound _ _ _ (an_else p x y h) = statement_sound p _ _ h

    items_sound : (p : Path) (width : ℕ) (signed : Bool) (z : Typed) (xs : List (CaseLabel × Stmt)) (ys : List (Vec Typed Global × Statement)) → size_of z ≡ Some width → AreItems envs p width signed xs ys → list_all (is_sound_item ss z) ys ≡ true
    items_sound _ _ _ z _ _ e (no_items p width signed) = refl
    items_sound _ _ _ z _ _ e (more_items p width signed x y xs ys h g k) =
        both_true _ _ (both_true _ _ (labels_sound ss (envs p).names (good p) width signed z (label_exprs x.0) y.0.items e h) (statement_sound p _ _ g)) (items_sound p width signed z xs ys e k)

    statements_sound : (p : Path) (xs : List Stmt) (zs : List Statement) → AreStatements envs p xs zs → list_all (is_sound_statement ss) zs ≡ true
    statements_sound _ _ _ (are_none p) = refl
    statements_sound _ _ _ (are_more p x z xs zs h g) = both_true _ _ (statement_sound p x z h) (statements_sound p xs zs g)

  pub body_sound : (p : Path) (b : Behavior) (z : Statement) → IsBody envs p b z → (is_sound_statement ss z ≡ true) × (is_body_of (kind_of b) z ≡ true)
  body_sound p _ _ (is_set a j u x h) = (sound_Assign ss j u x ∙ assigned_at p a.target a.value u x h, refl)
  body_sound p _ _ (is_run x z h) = (statement_sound p x z h, refl)
  body_sound p _ _ (is_repeat x j z h) = (sound_Forever ss j z ∙ statement_sound p x z.value h, forever_body j z)
