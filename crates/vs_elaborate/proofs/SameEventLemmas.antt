-- Event controls of sources that say the same are one in a design.
use Rattle.std.proofs.Common.{◌≡◌, ℕ, List, [], ◌∷◌, ◌++◌, ℤ, pos, Some, map, sum, arith, refl, ap, ap₂, sym, subst, ◌∙◌}
use Rattle.std.specs.List.{AllZip}
use Rattle.std.specs.declared.vec.Vec.{Vec}
use Rattle.std.specs.declared.alloc.Global.{Global}
use Rattle.vs_design.specs.vs_logic4.specs.declared.edge.Edge.{Edge}
use Rattle.vs_design.specs.vs_logic4.specs.declared.edge.Edge.TheVariants.{Any}
use Rattle.vs_syntax.specs.declared.tree.EventControl.{EventControl}
use Rattle.vs_syntax.specs.declared.tree.EventExpr.{EventExpr}
use Rattle.vs_syntax.specs.declared.tree.Separator.{Separator}
use Rattle.vs_syntax.specs.Same.{Pairwise, no_pair, pair_more, SameEventExpr, SameOtherEvent, SameEvent, same_star, same_grouped_star, same_event_name, same_terms}
use Rattle.vs_design.specs.declared.expression.Slice.{Slice}
use Rattle.vs_design.specs.declared.expression.Typed.{Typed}
use Rattle.vs_design.specs.declared.range.BitRange.{BitRange}
use Rattle.vs_design.specs.declared.statement.Aim.TheVariants.{Fixed}
use Rattle.vs_design.specs.declared.statement.EventTerm.{EventTerm}
use Rattle.vs_design.specs.declared.statement.Target.{Target}
use Rattle.vs_design.specs.declared.statement.FormatArg.{FormatArg}
use Rattle.vs_design.specs.declared.statement.FormatArg.TheVariants as arg
use Rattle.vs_design.specs.declared.statement.Statement.{Statement, Statement-F, roll-Statement, map-Statement, fold-roll-Statement}
use Rattle.vs_design.specs.declared.statement.Statement.TheVariants as d
use Rattle.vs_design.specs.declared.statement.Statement.TheVariants.{rolls-Null, rolls-Assign, rolls-Later, rolls-Block, rolls-Delay, rolls-Event, rolls-If, rolls-Case, rolls-While, rolls-Repeat, rolls-Forever, rolls-Call, rolls-Finish}
use Rattle.vs_design.specs.declared.statement.Statement.TheOpen as f
use Rattle.vs_design.specs.declared.write.Part.{Part}
use Rattle.vs_design.specs.Statements.{all_reads, assignment_reads, arg_reads, statement_reads, statement_reads_step}
use Rattle.vs_design.specs.Uses.{bits_from, joined, reads, target_reads}
use Rattle.vs_design.specs.WellFormed.{aim_width}
use Rattle.vs_elab_statements.specs.vs_widths.specs.vs_eval.specs.Targets.{parts_from}
use Rattle.vs_elab_statements.specs.vs_widths.specs.Environment.{Environment}
use Rattle.vs_elab_statements.specs.vs_widths.specs.declared.kinds.AssignmentKind.TheVariants.{Event}
use Rattle.vs_elab_statements.specs.vs_widths.specs.Lefts.{Aimed, name_aimed}
use Rattle.vs_elab_statements.specs.Statements.{event_aimed, watched, watched_width, IsTerm, AreTerms, no_terms, more_terms, AreEvents, are_star, are_grouped, are_name, are_terms, level_term}
use Rattle.vs_elaborate.specs.Same.{SameTyped, SameFormatArg, SameSides, SameStatement, null_same, assign_same, later_same, call_same, finish_same, block_same, delay_same, event_same, if_same, case_same, while_same, repeat_same, forever_same, SameItems, items_end, item_same, SameStatements, statements_end, statement_same}
use Rattle.vs_elaborate.proofs.PairLemmas.{pair_map}
use Rattle.vs_elaborate.proofs.SameTargetLemmas.{one_target}
use Rattle.vs_elaborate.proofs.SameTypedLemmas.{same_named}

-- ---- what statements read

reads_form : (y : Statement-F Statement) (z : Statement) → roll-Statement y ≡ z → statement_reads z ≡ statement_reads_step (map-Statement Statement (List BitRange) statement_reads y)
reads_form y z h = ap statement_reads (sym h) ∙ fold-roll-Statement (List BitRange) statement_reads_step y

-- statements of two layers that read the same
both_read : (y y' : Statement-F Statement) (z z' : Statement) → roll-Statement y ≡ z → roll-Statement y' ≡ z' →
    statement_reads_step (map-Statement Statement (List BitRange) statement_reads y) ≡ statement_reads_step (map-Statement Statement (List BitRange) statement_reads y') →
    statement_reads z ≡ statement_reads z'
both_read y y' z z' h h' e = reads_form y z h ∙ e ∙ sym (reads_form y' z' h')

one_after : {A : Type 0} (a a' b b' : List A) → a ≡ a' → b ≡ b' → a ++ b ≡ a' ++ b'
one_after a a' b b' h k = ap₂ (λ x y. x ++ y) h k

same_sides_read : (t t' : Target) (x x' : Typed) → SameSides t t' x x' → assignment_reads t x ≡ assignment_reads t' x'
same_sides_read t t' x x' m = one_after (reads x) (reads x') (target_reads t) (target_reads t') m.source.ranges m.target.indices

same_all_read : (es es' : List Typed) → AllZip SameTyped es es' → all_reads es ≡ all_reads es'
same_all_read [] [] m = refl
same_all_read [] (e' ∷ es') m = absurd m
same_all_read (e ∷ es) [] m = absurd m
same_all_read (e ∷ es) (e' ∷ es') m = one_after (reads e) (reads e') (all_reads es) (all_reads es') m.0.ranges (same_all_read es es' m.1)

same_args_read : (xs xs' : List FormatArg) → AllZip SameFormatArg xs xs' → joined (map arg_reads xs) ≡ joined (map arg_reads xs')
same_args_read [] [] m = refl
same_args_read [] (x' ∷ xs') m = absurd m
same_args_read (x ∷ xs) [] m = absurd m
same_args_read (arg.Value g x ∷ xs) (arg.Value g' x' ∷ xs') m = one_after (reads x) (reads x') _ _ m.0.1.ranges (same_args_read xs xs' m.1)
same_args_read (arg.Time ∷ xs) (arg.Time ∷ xs') m = same_args_read xs xs' m.1
same_args_read (arg.Value g x ∷ xs) (arg.Time ∷ xs') m = absurd m.0
same_args_read (arg.Time ∷ xs) (arg.Value g' x' ∷ xs') m = absurd m.0

-- an item of a `case` with what its statement reads
abbrev with_reads : Vec Typed Global × Statement → Vec Typed Global × List BitRange
with_reads i = (i.0, statement_reads i.1)

-- what an item of a `case` reads, with what its statement reads
abbrev item_reads : Vec Typed Global × List BitRange → List BitRange
item_reads i = all_reads i.0.items ++ i.1

mutual
  -- statements that say the same read the same
  pub same_reads : (y y' : Statement) → SameStatement y y' → statement_reads y ≡ statement_reads y'
  same_reads _ _ (null_same k k') = both_read (f.Null k) (f.Null k') (d.Null k) (d.Null k') (rolls-Null k) (rolls-Null k') refl
  same_reads _ _ (assign_same k k' t t' x x' m) =
      both_read (f.Assign k t x) (f.Assign k' t' x') (d.Assign k t x) (d.Assign k' t' x') (rolls-Assign k t x) (rolls-Assign k' t' x') (same_sides_read t t' x x' m)
  same_reads _ _ (later_same k k' n n' t t' x x' c m) =
      both_read (f.Later k n t x) (f.Later k' n' t' x') (d.Later k n t x) (d.Later k' n' t' x') (rolls-Later k n t x) (rolls-Later k' n' t' x') (same_sides_read t t' x x' m)
  same_reads _ _ (call_same k k' c c' m) =
      both_read (f.Call k c) (f.Call k' c') (d.Call k c) (d.Call k' c') (rolls-Call k c) (rolls-Call k' c') (same_args_read c.args.items c'.args.items m.args)
  same_reads _ _ (finish_same k k') = both_read (f.Finish k) (f.Finish k') (d.Finish k) (d.Finish k') (rolls-Finish k) (rolls-Finish k') refl
  same_reads _ _ (block_same xs xs' m) = both_read (f.Block xs) (f.Block xs') (d.Block xs) (d.Block xs') (rolls-Block xs) (rolls-Block xs') (same_block_reads xs.items xs'.items m)
  same_reads _ _ (delay_same k k' n n' x x' h m) =
      both_read (f.Delay k n x) (f.Delay k' n' x') (d.Delay k n x) (d.Delay k' n' x') (rolls-Delay k n x) (rolls-Delay k' n' x') (same_reads x.value x'.value m)
  same_reads _ _ (event_same k k' ts ts' x x' h m) =
      both_read (f.Event k ts x) (f.Event k' ts' x') (d.Event k ts x) (d.Event k' ts' x') (rolls-Event k ts x) (rolls-Event k' ts' x') (same_reads x.value x'.value m)
  same_reads _ _ (if_same k k' e e' x x' z z' h m r) =
      both_read (f.If k e x z) (f.If k' e' x' z') (d.If k e x z) (d.If k' e' x' z') (rolls-If k e x z) (rolls-If k' e' x' z')
      (one_after (reads e ++ statement_reads x.value) (reads e' ++ statement_reads x'.value) _ _ (one_after (reads e) (reads e') _ _ h.ranges (same_reads x.value x'.value m)) (same_reads z.value z'.value r))
  same_reads _ _ (case_same k k' kind e e' xs xs' h m) =
      both_read (f.Case k kind e xs) (f.Case k' kind e' xs') (d.Case k kind e xs) (d.Case k' kind e' xs') (rolls-Case k kind e xs) (rolls-Case k' kind e' xs')
      (one_after (reads e) (reads e') _ _ h.ranges (same_item_reads xs.items xs'.items m))
  same_reads _ _ (while_same k k' e e' x x' h m) =
      both_read (f.While k e x) (f.While k' e' x') (d.While k e x) (d.While k' e' x') (rolls-While k e x) (rolls-While k' e' x')
      (one_after (reads e) (reads e') _ _ h.ranges (same_reads x.value x'.value m))
  same_reads _ _ (repeat_same k k' signed e e' x x' h m) =
      both_read (f.Repeat k signed e x) (f.Repeat k' signed e' x') (d.Repeat k signed e x) (d.Repeat k' signed e' x') (rolls-Repeat k signed e x) (rolls-Repeat k' signed e' x')
      (one_after (reads e) (reads e') _ _ h.ranges (same_reads x.value x'.value m))
  same_reads _ _ (forever_same k k' x x' m) =
      both_read (f.Forever k x) (f.Forever k' x') (d.Forever k x) (d.Forever k' x') (rolls-Forever k x) (rolls-Forever k' x') (same_reads x.value x'.value m)

  same_block_reads : (xs xs' : List Statement) → SameStatements xs xs' → joined (map statement_reads xs) ≡ joined (map statement_reads xs')
  same_block_reads _ _ statements_end = refl
  same_block_reads _ _ (statement_same x x' xs xs' m r) = one_after (statement_reads x) (statement_reads x') _ _ (same_reads x x' m) (same_block_reads xs xs' r)

  same_item_reads : (xs xs' : List (Vec Typed Global × Statement)) → SameItems xs xs' → joined (map item_reads (map with_reads xs)) ≡ joined (map item_reads (map with_reads xs'))
  same_item_reads _ _ items_end = refl
  same_item_reads _ _ (item_same x x' xs xs' h m r) =
      one_after (item_reads (with_reads x)) (item_reads (with_reads x')) _ _ (one_after (all_reads x.0.items) (all_reads x'.0.items) _ _ (same_all_read x.0.items x'.0.items h) (same_reads x.1 x'.1 m)) (same_item_reads xs xs' r)

-- ---- terms

-- the bits that a term waits for a change of, by what is chosen
abbrev watched_by : Edge → ℕ → ℕ → ℤ → ℕ → BitRange
watched_by edge signal word low width = record { signal = signal; word = Some word; bits = Some (bits_from low (watched_width edge width)) }

-- of two places with one width that get one part of a write, a term waits for the same
one_watched : (edge : Edge) (s s' : Slice) → s.width ≡ s'.width → parts_from 0 (Fixed s ∷ []) [] [] 0 ≡ parts_from 0 (Fixed s' ∷ []) [] [] 0 → watched edge s ≡ watched edge s'
one_watched edge s s' h k = ap₂ (λ (p : Part) w. watched_by edge p.signal p.word p.low w) (ap first k) h
  where
    first : List Part → Part
    first [] = record { signal = 0; word = 0; low = pos 0; digits = [] }
    first (p ∷ ps) = p

-- the terms of what is named are one
one_term : (env : Environment) (edge : Edge) (m : Aimed) (y y' : EventTerm) → IsTerm env edge m y → IsTerm env edge m y' → y ≡ y'
one_term env edge m y y' h k =
    let same = one_target Event env m h.target k.target h.named k.named in
    let write : parts_from 0 (Fixed h.place ∷ []) [] [] 0 ≡ parts_from 0 (Fixed k.place ∷ []) [] [] 0
    = ap (λ as'. parts_from 0 as' [] [] 0) (sym h.alone) ∙ same.write [] [] 0 ∙ ap (λ as'. parts_from 0 as' [] [] 0) k.alone in
    let sizes : sum (map aim_width (Fixed h.place ∷ [])) ≡ sum (map aim_width (Fixed k.place ∷ []))
    = ap (λ as'. sum (map aim_width as')) (sym h.alone) ∙ h.named.width ∙ same.width ∙ sym k.named.width ∙ ap (λ as'. sum (map aim_width as')) k.alone in
    let width : h.place.width ≡ k.place.width = omega (arith, sizes) in
    ap₂ (λ e r. term_of e r) (h.edge_is ∙ sym k.edge_is) (h.range ∙ one_watched edge h.place k.place width write ∙ sym k.range)
  where
    term_of : Edge → BitRange → EventTerm
    term_of e r = record { edge = e; range = r }

-- terms that name the same mean one thing
same_event_aimed : (env : Environment) (t t' : EventExpr) → SameEventExpr t t' → event_aimed env t ≡ event_aimed env t'
same_event_aimed env t t' m = ap₂ (λ n ss. name_aimed Event (env n) ss) m.name (same_named env t.selects.items t'.selects.items m.selects)

one_terms : (env : Environment) (ts ts' : List EventExpr) (ys ys' : List EventTerm) → Pairwise SameEventExpr ts ts' → AreTerms env ts ys → AreTerms env ts' ys' → ys ≡ ys'
one_terms env _ _ _ _ no_pair no_terms no_terms = refl
one_terms env _ _ _ _ (pair_more t t' ts ts' m r) (more_terms _ y _ ys h hs) (more_terms _ y' _ ys' k ks) =
    let aimed = subst (λ a. IsTerm env t'.edge a y') (sym (same_event_aimed env t t' m)) k in
    let edged = subst (λ e. IsTerm env e (event_aimed env t) y') (sym m.edge) aimed in
    ap₂ (λ z zs. z ∷ zs) (one_term env t.edge (event_aimed env t) y y' h edged) (one_terms env ts ts' ys ys' r hs ks)

-- ---- event controls

-- event controls that say the same, before statements that do, have one list of terms
pub one_events : (env : Environment) (b b' : Statement) (e e' : EventControl) (ys ys' : List EventTerm) → SameStatement b b' → SameEvent e e' → AreEvents env b e ys → AreEvents env b' e' ys' → ys ≡ ys'
one_events env b b' _ _ _ _ m same_star are_star are_star = ap (map level_term) (same_reads b b' m)
one_events env b b' _ _ _ _ m same_grouped_star are_grouped are_grouped = ap (map level_term) (same_reads b b' m)
one_events env b b' _ _ _ _ m (same_event_name n n' i) (are_name _ y h) (are_name _ y' k) =
    ap (λ z. z ∷ []) (one_term env Any (name_aimed Event (env n.items) []) y y' h (subst (λ a. IsTerm env Any (name_aimed Event (env a) []) y') (sym i) k))
one_events env b b' _ _ ys ys' m (same_terms t t' ts ts' i r) (are_terms _ _ _ h) (are_terms _ _ _ k) =
    one_terms env (t.value ∷ map (λ (x : Separator × EventExpr). x.1) ts.items) (t'.value ∷ map (λ (x : Separator × EventExpr). x.1) ts'.items) ys ys'
    (pair_more t.value t'.value _ _ i (pair_map SameOtherEvent SameEventExpr (λ (x : Separator × EventExpr). x.1) (λ (x : Separator × EventExpr). x.1) (λ x x' g. g.event) ts.items ts'.items r)) h k
