-- What sound statements read.
use Rattle.std.proofs.Common.{◌≡◌, Bool, true, ◌&&◌, nat_lt, List, [], ◌∷◌, ◌++◌, length, map, sum, refl, ap, sym, subst, ◌∙◌, ◌==◌}
use Rattle.std.specs.Prelude.{is_some}
use Rattle.std.specs.List.{list_all}
use Rattle.std.specs.declared.vec.Vec.{Vec}
use Rattle.std.specs.declared.alloc.Global.{Global}
use Rattle.std.proofs.lemmas.Bool.{and_parts, and_from}
use Rattle.std.proofs.lemmas.List.Folds.{list_all-append}
use Rattle.vs_design.specs.declared.expression.Typed.{Typed}
use Rattle.vs_design.specs.declared.range.BitRange.{BitRange}
use Rattle.vs_design.specs.declared.signal.Signal.{Signal}
use Rattle.vs_design.specs.declared.statement.Aim.{Aim}
use Rattle.vs_design.specs.declared.statement.Aim.TheVariants.{Fixed, Chosen}
use Rattle.vs_design.specs.declared.statement.Target.{Target}
use Rattle.vs_design.specs.declared.statement.FormatArg.{FormatArg}
use Rattle.vs_design.specs.declared.statement.FormatArg.TheVariants as arg
use Rattle.vs_design.specs.declared.statement.Statement.{Statement}
use Rattle.vs_design.specs.declared.statement.Statement.TheViews.{roll-Statement}
use Rattle.vs_design.specs.declared.statement.Statement.TheOpen.{Statement-F}
use Rattle.vs_design.specs.declared.statement.Statement.TheOpen as f
use Rattle.vs_design.specs.declared.statement.Statement.TheFolds.{fold-roll-Statement, ind-Statement, map-Statement}
use Rattle.vs_design.specs.Uses.{reads, joined, aim_reads, target_reads}
use Rattle.vs_design.specs.Statements.{all_reads, assignment_reads, arg_reads, statement_reads, statement_reads_step}
use Rattle.vs_design.specs.WellFormed.{are_within, is_within, size_of, is_at_least, aim_width, is_of_variable, is_variable_aim, is_sound_target, is_source, is_sound_assignment, is_sound_operand, is_sound_arg, is_alike, are_sound_labels, are_sound_terms, sound_step, is_sound_statement}
use Rattle.std.specs.Prelude.{slice_get}

module _ (ss : List Signal) where
  both_within : (xs ys : List BitRange) → are_within ss xs ≡ true → are_within ss ys ≡ true → are_within ss (xs ++ ys) ≡ true
  both_within xs ys h k = list_all-append (λ (r : BitRange). nat_lt r.signal (length ss)) xs ys ∙ and_from (are_within ss xs) (are_within ss ys) h k

  aim_within : (a : Aim) → is_variable_aim ss a ≡ true → are_within ss (aim_reads a) ≡ true
  aim_within (Fixed s) h = refl
  aim_within (Chosen s word low) h =
      let four = (and_parts (is_of_variable (slice_get ss s.signal) && is_within ss word && is_within ss low && is_some (size_of word)) (is_some (size_of low)) h).0 in
      let three = (and_parts (is_of_variable (slice_get ss s.signal) && is_within ss word && is_within ss low) (is_some (size_of word)) four).0 in
      let two = and_parts (is_of_variable (slice_get ss s.signal) && is_within ss word) (is_within ss low) three in
      both_within (reads word) (reads low) (and_parts (is_of_variable (slice_get ss s.signal)) (is_within ss word) two.0).1 two.1

  aims_within : (aims : List Aim) → list_all (is_variable_aim ss) aims ≡ true → are_within ss (joined (map aim_reads aims)) ≡ true
  aims_within [] h = refl
  aims_within (a ∷ aims) h =
      let parts = and_parts (is_variable_aim ss a) (list_all (is_variable_aim ss) aims) h in
      both_within (aim_reads a) (joined (map aim_reads aims)) (aim_within a parts.0) (aims_within aims parts.1)

  assignment_within : (t : Target) (e : Typed) → is_sound_assignment ss t e ≡ true → are_within ss (assignment_reads t e) ≡ true
  assignment_within t e h =
      let sides = and_parts (is_sound_target (is_variable_aim ss) t) (is_source ss t e) h in
      let places = and_parts (list_all (is_variable_aim ss) t.parts.items) (sum (map aim_width t.parts.items) == t.width) sides.0 in
      both_within (reads e) (target_reads t) (and_parts (is_within ss e) (is_at_least t.width (size_of e)) sides.1).0 (aims_within t.parts.items places.0)

  operand_within : (e : Typed) → is_sound_operand ss e ≡ true → are_within ss (reads e) ≡ true
  operand_within e h = (and_parts (is_within ss e) (is_some (size_of e)) h).0

  arg_within : (a : FormatArg) → is_sound_arg ss a ≡ true → are_within ss (arg_reads a) ≡ true
  arg_within (arg.Value signed e) h = operand_within e h
  arg_within arg.Time h = refl

  args_within : (xs : List FormatArg) → list_all (is_sound_arg ss) xs ≡ true → are_within ss (joined (map arg_reads xs)) ≡ true
  args_within [] h = refl
  args_within (a ∷ xs) h =
      let parts = and_parts (is_sound_arg ss a) (list_all (is_sound_arg ss) xs) h in
      both_within (arg_reads a) (joined (map arg_reads xs)) (arg_within a parts.0) (args_within xs parts.1)

  labels_within : (x : Typed) (es : List Typed) → are_sound_labels ss x es ≡ true → are_within ss (all_reads es) ≡ true
  labels_within x [] h = refl
  labels_within x (e ∷ es) h =
      let parts = and_parts (is_sound_operand ss e && is_alike x e) (are_sound_labels ss x es) h in
      both_within (reads e) (all_reads es) (operand_within e (and_parts (is_sound_operand ss e) (is_alike x e) parts.0).0) (labels_within x es parts.1)

  abbrev Within : Statement → Type 0
  Within s = is_sound_statement ss s ≡ true → are_within ss (statement_reads s) ≡ true

  abbrev Inner : Type 0
  Inner = (s : Statement) × Within s

  abbrev bare : Statement-F Inner → Statement-F Statement
  bare y = map-Statement Inner Statement (λ p. p.0) y

  in_block : (ps : List Inner) → list_all (λ b. b) (map (is_sound_statement ss) (map (λ (p : Inner). p.0) ps)) ≡ true → are_within ss (joined (map statement_reads (map (λ (p : Inner). p.0) ps))) ≡ true
  in_block [] h = refl
  in_block (p ∷ ps) h =
      let parts = and_parts (is_sound_statement ss p.0) _ h in
      both_within (statement_reads p.0) _ (p.1 parts.0) (in_block ps parts.1)

  in_items : (x : Typed) (is : List (Vec Typed Global × Inner)) →
      list_all (λ (i : Vec Typed Global × Bool). are_sound_labels ss x i.0.items && i.1) (map (λ (i : Vec Typed Global × Statement). (i.0, is_sound_statement ss i.1)) (map (λ (i : Vec Typed Global × Inner). (i.0, i.1.0)) is)) ≡ true →
      are_within ss (joined (map (λ (i : Vec Typed Global × List BitRange). all_reads i.0.items ++ i.1) (map (λ (i : Vec Typed Global × Statement). (i.0, statement_reads i.1)) (map (λ (i : Vec Typed Global × Inner). (i.0, i.1.0)) is)))) ≡ true
  in_items x [] h = refl
  in_items x (i ∷ is) h =
      let parts = and_parts (are_sound_labels ss x i.0.items && is_sound_statement ss i.1.0) _ h in
      let own = and_parts (are_sound_labels ss x i.0.items) (is_sound_statement ss i.1.0) parts.0 in
      both_within (all_reads i.0.items ++ statement_reads i.1.0) _ (both_within (all_reads i.0.items) (statement_reads i.1.0) (labels_within x i.0.items own.0) (i.1.1 own.1)) (in_items x is parts.1)

  -- a condition or a count, and the statement behind it
  put_headed_within : (e : Typed) (p : Inner) → (is_sound_operand ss e && is_sound_statement ss p.0) ≡ true → are_within ss (reads e ++ statement_reads p.0) ≡ true
  put_headed_within e p h =
      let parts = and_parts (is_sound_operand ss e) (is_sound_statement ss p.0) h in
      both_within (reads e) (statement_reads p.0) (operand_within e parts.0) (p.1 parts.1)

  layer : (y : Statement-F Inner) → sound_step ss (map-Statement Statement Bool (is_sound_statement ss) (bare y)) ≡ true → are_within ss (statement_reads_step (map-Statement Statement (List BitRange) statement_reads (bare y))) ≡ true
  layer (f.Null n) h = refl
  layer (f.Assign n t e) h = assignment_within t e h
  layer (f.Later n ticks t e) h = assignment_within t e h
  layer (f.Call n c) h = args_within c.args.items h
  layer (f.Finish n) h = refl
  layer (f.Block all) h = in_block all.items h
  layer (f.Delay n ticks body) h = body.value.1 h
  layer (f.Event n terms body) h = body.value.1 (and_parts (are_sound_terms ss terms.items) (is_sound_statement ss body.value.0) h).1
  layer (f.If n e a b) h =
      let parts = and_parts (is_sound_operand ss e && is_sound_statement ss a.value.0) (is_sound_statement ss b.value.0) h in
      both_within (reads e ++ statement_reads a.value.0) (statement_reads b.value.0) (put_headed_within e a.value parts.0) (b.value.1 parts.1)
  layer (f.Case n kind x items) h =
      let parts = and_parts (is_sound_operand ss x) _ h in
      both_within (reads x) _ (operand_within x parts.0) (in_items x items.items parts.1)
  layer (f.While n e body) h = put_headed_within e body.value h
  layer (f.Repeat n signed e body) h = put_headed_within e body.value h
  layer (f.Forever n body) h = body.value.1 h

  settled : (x : Statement-F Statement) (y : Statement-F Inner) → bare y ≡ x → Within (roll-Statement x)
  settled x y is =
      subst (λ (u : Statement-F Statement). Within (roll-Statement u)) is
      (λ h. ap (are_within ss) (fold-roll-Statement (List BitRange) statement_reads_step (bare y)) ∙ layer y (sym (fold-roll-Statement Bool (sound_step ss) (bare y)) ∙ h))

  -- a sound statement reads signals of the design alone
  pub statement_within : (s : Statement) → is_sound_statement ss s ≡ true → are_within ss (statement_reads s) ≡ true
  statement_within = ind-Statement Within settled
