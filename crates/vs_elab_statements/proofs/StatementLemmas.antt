-- Statements, by their form.
use Rattle.std.proofs.Common.{◌≡◌, ℕ, suc, ◌+◌, ◌<◌, ◌≤◌, ◌^◌, Bool, true, false, List, [], ◌∷◌, ◌++◌, inl, inr, true≢false, Option, None, Some, Result, Ok, Err, length, map, take, get_or, refl, ap, sym, subst, ◌∙◌, arith}
use Rattle.std.proofs.lemmas.List.Concat.{flat_map-append}
use Rattle.std.specs.List.{list_any, flat_map}
use Rattle.std.specs.declared.vec.Vec.{Vec}
use Rattle.std.specs.declared.boxed.Box.{Box}
use Rattle.std.specs.declared.alloc.Global.{Global}
use Rattle.std.proofs.lemmas.Bool.{le-leb}
use Rattle.std.proofs.lemmas.List.{map-append, append-nil, take_all}
use Rattle.vs_syntax.specs.declared.tree.Expr.{Expr}
use Rattle.vs_syntax.specs.declared.tree.Left.{Left}
use Rattle.vs_syntax.specs.declared.tree.ForHeader.{ForHeader}
use Rattle.vs_syntax.specs.declared.tree.LocalDeclaration.{LocalDeclaration}
use Rattle.vs_syntax.specs.declared.tree.Stmt.{Stmt}
use Rattle.vs_syntax.specs.declared.tree.Stmt.TheVariants as s
use Rattle.vs_syntax.specs.declared.tree.CaseLabel.{CaseLabel}
use Rattle.vs_syntax.specs.declared.tree.DelayValue.{DelayValue}
use Rattle.vs_syntax.specs.declared.tree.EventControl.{EventControl}
use Rattle.vs_syntax.specs.vs_lexer.specs.declared.token.Literal.{Literal}
use Rattle.vs_syntax.specs.declared.tree.PrintTask.{PrintTask}
use Rattle.vs_syntax.specs.declared.tree.PrintArguments.{PrintArguments}
use Rattle.vs_syntax.specs.declared.tree.DumpTask.{DumpTask}
use Rattle.vs_syntax.specs.declared.tree.DumpArgument.{DumpArgument}
use Rattle.vs_design.specs.Uses.{joined}
use Rattle.vs_design.specs.WellFormed.{numbers}
use Rattle.vs_design.specs.declared.expression.Typed.{Typed}
use Rattle.vs_design.specs.declared.statement.Target.{Target}
use Rattle.vs_design.specs.declared.statement.EventTerm.{EventTerm}
use Rattle.vs_design.specs.declared.statement.Ticks.{Ticks}
use Rattle.vs_design.specs.declared.statement.Call.{Call}
use Rattle.vs_design.specs.vs_logic4.specs.declared.case.CaseKind.{CaseKind}
use Rattle.vs_scopes.specs.vs_widths.specs.declared.shape.Shape.{Shape}
use Rattle.vs_design.specs.declared.statement.Statement.{Statement}
use Rattle.vs_design.specs.declared.statement.Statement.TheVariants as d
use Rattle.vs_widths.specs.declared.kinds.AssignmentKind.TheVariants.{Procedural}
use Rattle.vs_scopes.specs.declared.faults.Reason.{Reason}
use Rattle.vs_scopes.specs.declared.faults.Reason.TheVariants.{Limit}
use Rattle.vs_scopes.specs.declared.faults.BodyFault.{BodyFault}
use Rattle.vs_scopes.specs.declared.faults.BodyFault.TheVariants as b
use Rattle.vs_elab_statements.proofs.CaseLemmas.{exprs_in}
use Rattle.vs_elab_signals.specs.vs_scopes.specs.Pieces.{NamedBlock, blocks_in, blocks_among}
use Rattle.vs_elab_signals.specs.vs_scopes.proofs.PiecesLemmas.{blocks_Block, blocks_Case}
use Rattle.vs_elab_statements.specs.Statements.{IsAssignment, IsOperand, IsStatement, is_null, is_assign, is_later, is_block, is_named, is_if, is_case, is_for, is_while, is_repeat, is_forever, is_delay, is_event, is_print, is_finish, is_dump, IsElse, no_else, an_else, AreItems, no_items, more_items, AreTypedAt, AreEvents, AreStatements, are_none, are_more, assign_fault, operand_fault, delay_of, delay_fault, due_of, due_fault, IsCall, print_fault, event_fault, case_fault, label_exprs, has_fault, HasFaultAt, in_statement, in_block, count_of, total, is_overfull}
use Rattle.vs_elab_statements.specs.Members.{Assignment, places, sets, runs, repeats}
use Rattle.vs_elab_statements.specs.Surroundings.{Surroundings}
use Rattle.vs_elab_statements.specs.Processes.{is_set, is_run, is_repeat, HasBehaviorFault}
use Rattle.vs_scopes.specs.Printed.{plainly, Path}
use Rattle.vs_scopes.specs.scopes_passes.Answers.{Refuses}
use Rattle.vs_elab_signals.specs.declared.opened.ElabScope.{ElabScope as FoundScope}
use Rattle.vs_elab_statements.specs.declared.faults.StatementFault.{StatementFault}
use Rattle.vs_elab_statements.specs.declared.faults.StatementFault.TheVariants as t
use Rattle.vs_elab_statements.specs.passes.Faults.{as_statement_fault}
use Rattle.vs_elab_statements.specs.passes.Bodies.{counting, statement_burden, statements_burden, numbered_burden, named_burden, items_burden, IsFree, BurdenFails, Answers, MeansStatement, MeansStatements, MeansBody, IsCase, IsNumbered, IsRepeated, else_list, MeansElse, MeansItems, item_fault, BodyFails, Embodies}
use Rattle.vs_elab_statements.proofs.BlockLemmas.{blocks_Null, blocks_Assign, blocks_Later, blocks_Named, blocks_For, blocks_Print, blocks_Finish, blocks_Dump, IsPart, fails_part, fails_by, fails_overfull, AreFree, free_none, free_same, free_both}
use Rattle.vs_scopes.proofs.Folds.{any_push, any_at}
use Rattle.std.proofs.lemmas.Bool.{or_from as both_false, or_left as left_true, or_right as right_true}
use Rattle.vs_design.specs.vs_logic4.proofs.Basics.{take_push}
use Rattle.vs_elab_statements.proofs.FormLemmas.{count_Assign, count_Block, count_Case, count_Dump, count_Finish, count_For, count_If, count_Later, count_Named, count_Null, count_Print, counting_more, counts, fault_Assign, fault_Block, fault_Case, fault_Dump, fault_Finish, fault_For, fault_If, fault_Later, fault_Named, fault_Null, fault_Print, item_count, item_numbers, joined_push, labels_of, numbers_Case, numbers_Delay, numbers_If, numbers_Repeat, numbers_While, total_push, total_within}
use Rattle.vs_elab_statements.proofs.PartLemmas.{IsAround, KeepsItems, Stated, Takes, around_Delay, around_Event, around_Forever, around_Repeat, around_While, around_part, begin_part, behind_count, block_part, counting_one, else_part, flat_parts, if_blocks, items_part, items_parts, named_part, not_overfull, step_part, then_part, turn_part}
use Rattle.vs_design.specs.vs_logic4.proofs.Basics.{right_false}
use Rattle.vs_design.proofs.FormLemmas.{numbers_Null, numbers_Assign, numbers_Later, numbers_Call, numbers_Finish, numbers_Block, numbers_Forever, numbers_Event}

-- ---- statements

module _ (list : List FoundScope) (envs : Path → Surroundings) (p : Path) where
  -- what is answered
  abbrev pub States : ℕ → Stmt → Statement → ℕ → Type 0
  States first x y next = IsFree envs p (statement_burden (envs p) first x) × MeansStatement envs p first x y next

  abbrev pub FailsIn : ℕ → Stmt → StatementFault → Type 0
  FailsIn first x e = BurdenFails list envs p (statement_burden (envs p) first x) e

  -- named blocks of one more element
  pushed_free : {A : Type 0} (f : A → List NamedBlock) (xs : List A) (x : A) → AreFree envs p (flat_map f xs) → AreFree envs p (f x) → AreFree envs p (flat_map f (xs ++ x ∷ []))
  pushed_free f xs x h k =
      free_same envs p (flat_map f xs ++ f x) (flat_map f (xs ++ x ∷ [])) (flat_map-append f xs (x ∷ []) ∙ ap (λ l. flat_map f xs ++ l) (append-nil (f x))) (free_both envs p (flat_map f xs) (f x) h k)

  -- a statement without others in it
  one_statement : (first k next : ℕ) (x : Stmt) (y : Statement) → Takes first k next → count_of x ≡ 1 → ((r : Reason) → has_fault r (envs p) x ≡ false) → blocks_in x ≡ [] → IsStatement envs p x y → numbers y ≡ k ∷ [] → States first x y next
  one_statement first k next x y h c u b m n = (
    record { own = u; room = let e : first + 1 < 2 ^ 32 = h.1.1 in omega (arith, c, e); blocks = free_none envs p (blocks_in x) b },
    record { means = m; next_is = h.1.0 ∙ ap (λ z. first + z) (sym c); numbered = n ∙ ap (λ z. z ∷ []) h.0 ∙ ap (counting first) (sym c) },
  )

  pub states_Null : (first k next : ℕ) → Takes first k next → States first s.Null (d.Null k) next
  states_Null first k next h = one_statement first k next s.Null (d.Null k) h count_Null (λ r. fault_Null r (envs p)) blocks_Null (is_null p k) (numbers_Null k)

  pub null_refused : (first : ℕ) (e : StatementFault) → (e ≡ t.Overfull) × (2 ^ 32 ≤ first + 1) → FailsIn first s.Null e
  null_refused first e h = fails_overfull list envs p (statement_burden (envs p) first s.Null) (first + 1) e (let c = count_Null in omega (arith, c)) h

  -- an assignment with its number
  abbrev pub Numbers : ℕ → Left → Expr → ℕ → Target → Typed → ℕ → Type 0
  Numbers first l e k t x next = IsFree envs p (numbered_burden (envs p) first l e) × IsNumbered (envs p) first l e k t x next

  abbrev pub FailsNumbered : ℕ → Left → Expr → StatementFault → Type 0
  FailsNumbered first l e f = BurdenFails list envs p (numbered_burden (envs p) first l e) f

  pub states_numbered : (first k mid : ℕ) (l : Left) (e : Expr) (t : Target) (x : Typed) → Takes first k mid → ((r : Reason) → assign_fault r Procedural (envs p).names (places l) e ≡ false) × IsAssignment Procedural (envs p).names (places l) e t x → Numbers first l e k t x mid
  states_numbered first k mid l e t x h q = (record { own = q.0; room = h.1.1; blocks = free_none envs p [] refl }, record { number = h.0; next_is = h.1.0; sides = q.1 })

  pub numbered_refused : (first : ℕ) (l : Left) (e : Expr) (f : StatementFault) → (f ≡ t.Overfull) × (2 ^ 32 ≤ first + 1) → FailsNumbered first l e f
  numbered_refused first l e f h = fails_overfull list envs p (numbered_burden (envs p) first l e) (first + 1) f (omega arith) h

  pub sides_refused : (first : ℕ) (l : Left) (e : Expr) (f : BodyFault) → Refuses (λ r. assign_fault r Procedural (envs p).names (places l) e) f → FailsNumbered first l e (as_statement_fault f)
  sides_refused first l e f h = fails_by list envs p (λ r. assign_fault r Procedural (envs p).names (places l) e) (numbered_burden (envs p) first l e) f (λ r u. u) h

  takes_of : (first k next : ℕ) (l : Left) (e : Expr) (t : Target) (x : Typed) → Numbers first l e k t x next → Takes first k next
  takes_of first k next l e t x h = (h.1.number, (h.1.next_is, h.0.room))

  pub states_Assign : (first k next : ℕ) (l : Box Left Global) (e : Expr) (t : Target) (x : Typed) → Numbers first l.value e k t x next → States first (s.Assign l e) (d.Assign k t x) next
  states_Assign first k next l e t x h =
      one_statement first k next (s.Assign l e) (d.Assign k t x) (takes_of first k next l.value e t x h) (count_Assign l e) (λ r. fault_Assign r (envs p) l e ∙ h.0.own r) (blocks_Assign l e) (is_assign p l e k t x h.1.sides) (numbers_Assign k t x)

  pub states_Later : (first k next : ℕ) (l : Box Left Global) (v : Option DelayValue) (e : Box Expr Global) (n : Ticks) (t : Target) (x : Typed) → Numbers first l.value e.value k t x next → ((r : Reason) → due_fault r (envs p).names (envs p).ratio v ≡ false) × (due_of (envs p).names (envs p).ratio v ≡ Some n.count) →
      States first (s.Later l v e) (d.Later k n t x) next
  states_Later first k next l v e n t x h u =
      one_statement first k next (s.Later l v e) (d.Later k n t x) (takes_of first k next l.value e.value t x h) (count_Later l v e) (λ r. fault_Later r (envs p) l v e ∙ both_false _ _ (h.0.own r) (u.0 r)) (blocks_Later l v e) (is_later p l v e k n t x h.1.sides u.1) (numbers_Later k n t x)

  pub assign_refused : (first : ℕ) (l : Box Left Global) (e : Expr) (f : StatementFault) → FailsNumbered first l.value e f → FailsIn first (s.Assign l e) f
  assign_refused first l e f h =
      let c : count_of (s.Assign l e) ≡ 1 = count_Assign l e in
      fails_part list envs p (numbered_burden (envs p) first l.value e) (statement_burden (envs p) first (s.Assign l e)) f
      (record { own = λ r u. fault_Assign r (envs p) l e ∙ u; last = omega (arith, c); before = []; behind = []; blocks = blocks_Assign l e }) h

  pub later_refused : (first : ℕ) (l : Box Left Global) (v : Option DelayValue) (e : Box Expr Global) (f : StatementFault) → FailsNumbered first l.value e.value f → FailsIn first (s.Later l v e) f
  later_refused first l v e f h =
      let c : count_of (s.Later l v e) ≡ 1 = count_Later l v e in
      fails_part list envs p (numbered_burden (envs p) first l.value e.value) (statement_burden (envs p) first (s.Later l v e)) f
      (record { own = λ r u. fault_Later r (envs p) l v e ∙ left_true _ (due_fault r (envs p).names (envs p).ratio v) u; last = omega (arith, c); before = []; behind = []; blocks = blocks_Later l v e }) h

  -- a fault of the delay of a nonblocking assignment
  pub due_refused : (first : ℕ) (l : Box Left Global) (v : Option DelayValue) (e : Box Expr Global) (f : BodyFault) → Refuses (λ r. due_fault r (envs p).names (envs p).ratio v) f → FailsIn first (s.Later l v e) (as_statement_fault f)
  due_refused first l v e f h =
      fails_by list envs p (λ r. due_fault r (envs p).names (envs p).ratio v) (statement_burden (envs p) first (s.Later l v e)) f
      (λ r u. fault_Later r (envs p) l v e ∙ right_true (assign_fault r Procedural (envs p).names (places l.value) e.value) _ u) h

  -- ---- system tasks

  -- a statement whose number there isn't
  one_overfull : (first : ℕ) (x : Stmt) (f : StatementFault) → count_of x ≡ 1 → (f ≡ t.Overfull) × (2 ^ 32 ≤ first + 1) → FailsIn first x f
  one_overfull first x f c h = fails_overfull list envs p (statement_burden (envs p) first x) (first + 1) f (omega (arith, c)) h

  pub states_Print : (first k next : ℕ) (task : PrintTask) (xs : PrintArguments) (c : Call) → Takes first k next → ((r : Reason) → print_fault r (envs p).names xs ≡ false) × IsCall (envs p).names (envs p).ratio p task xs c →
      States first (s.Print task xs) (d.Call k c) next
  states_Print first k next task xs c h u =
      one_statement first k next (s.Print task xs) (d.Call k c) h (count_Print task xs) (λ r. fault_Print r (envs p) task xs ∙ u.0 r) (blocks_Print task xs) (is_print p task xs k c u.1) (numbers_Call k c)

  pub print_overfull : (first : ℕ) (task : PrintTask) (xs : PrintArguments) (f : StatementFault) → (f ≡ t.Overfull) × (2 ^ 32 ≤ first + 1) → FailsIn first (s.Print task xs) f
  print_overfull first task xs f h = one_overfull first (s.Print task xs) f (count_Print task xs) h

  pub print_refused : (first : ℕ) (task : PrintTask) (xs : PrintArguments) (f : BodyFault) → Refuses (λ r. print_fault r (envs p).names xs) f → FailsIn first (s.Print task xs) (as_statement_fault f)
  print_refused first task xs f h = fails_by list envs p (λ r. print_fault r (envs p).names xs) (statement_burden (envs p) first (s.Print task xs)) f (λ r u. fault_Print r (envs p) task xs ∙ u) h

  pub states_Finish : (first k next : ℕ) (n : Option Literal) → Takes first k next → States first (s.Finish n) (d.Finish k) next
  states_Finish first k next n h = one_statement first k next (s.Finish n) (d.Finish k) h (count_Finish n) (λ r. fault_Finish r (envs p) n) (blocks_Finish n) (is_finish p n k) (numbers_Finish k)

  pub finish_refused : (first : ℕ) (n : Option Literal) (f : StatementFault) → (f ≡ t.Overfull) × (2 ^ 32 ≤ first + 1) → FailsIn first (s.Finish n) f
  finish_refused first n f h = one_overfull first (s.Finish n) f (count_Finish n) h

  pub states_Dump : (first k next : ℕ) (task : DumpTask) (xs : Option (DumpArgument × Vec DumpArgument Global)) → Takes first k next → States first (s.Dump task xs) (d.Null k) next
  states_Dump first k next task xs h =
      one_statement first k next (s.Dump task xs) (d.Null k) h (count_Dump task xs) (λ r. fault_Dump r (envs p) task xs) (blocks_Dump task xs) (is_dump p task xs k) (numbers_Null k)

  pub dump_refused : (first : ℕ) (task : DumpTask) (xs : Option (DumpArgument × Vec DumpArgument Global)) (f : StatementFault) → (f ≡ t.Overfull) × (2 ^ 32 ≤ first + 1) → FailsIn first (s.Dump task xs) f
  dump_refused first task xs f h = one_overfull first (s.Dump task xs) f (count_Dump task xs) h

  abbrev pub StateAll : Path → ℕ → List Stmt → List Statement → ℕ → Type 0
  StateAll q first xs ys next = IsFree envs q (statements_burden (envs q) first xs) × MeansStatements envs q first xs ys next

  pub states_Block : (first next : ℕ) (xs : Vec Stmt Global) (ks : List Stmt) (ys : Vec Statement Global) → ks ≡ xs.items → StateAll p first ks ys.items next → States first (s.Block xs) (d.Block ys) next
  states_Block first next xs ks ys k h =
      let q : StateAll p first xs.items ys.items next = subst (λ z. StateAll p first z ys.items next) k h in
      let c : count_of (s.Block xs) ≡ counts xs.items = count_Block xs in
      let room : first + counts xs.items < 2 ^ 32 = q.0.room in (
        record { own = λ r. fault_Block r (envs p) xs ∙ q.0.own r; room = omega (arith, c, room); blocks = free_same envs p (blocks_among xs.items) (blocks_in (s.Block xs)) (blocks_Block xs) q.0.blocks },
        record {
          means = is_block p xs ys q.1.means;
          next_is = q.1.next_is ∙ ap (λ z. first + z) (sym c);
          numbered = numbers_Block ys ∙ q.1.numbered ∙ ap (counting first) (sym c);
        },
      )

  pub block_refused : (first : ℕ) (xs : Vec Stmt Global) (ks : List Stmt) (e : StatementFault) → ks ≡ xs.items → BurdenFails list envs p (statements_burden (envs p) first ks) e → FailsIn first (s.Block xs) e
  block_refused first xs ks e k h =
      fails_part list envs p (statements_burden (envs p) first xs.items) (statement_burden (envs p) first (s.Block xs)) e (block_part (envs p) first xs) (subst (λ z. BurdenFails list envs p (statements_burden (envs p) first z) e) k h)

  -- ---- named blocks

  pub states_Named : (first next : ℕ) (n : Vec ℕ Global) (ls : Vec LocalDeclaration Global) (xs : Vec Stmt Global) (name : List ℕ) (ks : List Stmt) (ys : Vec Statement Global) → name ≡ n.items → ks ≡ xs.items →
      IsFree envs p (named_burden first (record { name = name; locals = ls.items; statements = ks })) × MeansStatements envs (p ++ plainly name ∷ []) first ks ys.items next → States first (s.Named n ls xs) (d.Block ys) next
  states_Named first next n ls xs name ks ys i k h =
      let g = subst (λ z. IsFree envs p (named_burden first (record { name = name; locals = ls.items; statements = z })) × MeansStatements envs (p ++ plainly name ∷ []) first z ys.items next) k h in
      let q : IsFree envs p (named_burden first (record { name = n.items; locals = ls.items; statements = xs.items })) × MeansStatements envs (p ++ plainly n.items ∷ []) first xs.items ys.items next =
      subst (λ z. IsFree envs p (named_burden first (record { name = z; locals = ls.items; statements = xs.items })) × MeansStatements envs (p ++ plainly z ∷ []) first xs.items ys.items next) i g in
      let c : count_of (s.Named n ls xs) ≡ counts xs.items = count_Named n ls xs in
      let room : first + counts xs.items < 2 ^ 32 = q.0.room in (
        record {
          own = λ r. fault_Named r (envs p) n ls xs;
          room = omega (arith, c, room);
          blocks = free_same envs p (record { name = n.items; locals = ls.items; statements = xs.items } ∷ []) (blocks_in (s.Named n ls xs)) (blocks_Named n ls xs) q.0.blocks;
        },
        record {
          means = is_named p n ls xs ys q.1.means;
          next_is = q.1.next_is ∙ ap (λ z. first + z) (sym c);
          numbered = numbers_Block ys ∙ q.1.numbered ∙ ap (counting first) (sym c);
        },
      )

  pub named_refused : (first : ℕ) (n : Vec ℕ Global) (ls : Vec LocalDeclaration Global) (xs : Vec Stmt Global) (name : List ℕ) (ks : List Stmt) (e : StatementFault) → name ≡ n.items → ks ≡ xs.items →
      BurdenFails list envs p (named_burden first (record { name = name; locals = ls.items; statements = ks })) e → FailsIn first (s.Named n ls xs) e
  named_refused first n ls xs name ks e i k h =
      let g = subst (λ z. BurdenFails list envs p (named_burden first (record { name = name; locals = ls.items; statements = z })) e) k h in
      fails_part list envs p (named_burden first (record { name = n.items; locals = ls.items; statements = xs.items })) (statement_burden (envs p) first (s.Named n ls xs)) e (named_part (envs p) first n ls xs)
      (subst (λ z. BurdenFails list envs p (named_burden first (record { name = z; locals = ls.items; statements = xs.items })) e) i g)

  -- ---- a statement in another

  -- a number, and the statement with the numbers behind it
  abbrev pub IsNumberedFrom : ℕ → Stmt → ℕ → Statement → ℕ → Type 0
  IsNumberedFrom first x k y next = IsFree envs p (statement_burden (envs p) (first + 1) x) × ((k ≡ first) × MeansStatement envs p (first + 1) x y next)

  pub states_behind : (first k mid next : ℕ) (x : Stmt) (y : Statement) → Takes first k mid → States mid x y next → IsNumberedFrom first x k y next
  states_behind first k mid next x y h q =
      let g : States (first + 1) x y next = subst (λ z. States z x y next) h.1.0 q in
      (g.0, (h.0, g.1))

  -- a fault of the statement behind a number that was taken
  pub behind_refused : (first mid : ℕ) (x : Stmt) (e : StatementFault) → mid ≡ first + 1 → FailsIn mid x e → FailsIn (first + 1) x e
  behind_refused first mid x e h k = subst (λ z. FailsIn z x e) h k

  pub behind_overfull : (first : ℕ) (x : Stmt) (e : StatementFault) → (e ≡ t.Overfull) × (2 ^ 32 ≤ first + 1) → FailsIn (first + 1) x e
  behind_overfull first x e h = fails_overfull list envs p (statement_burden (envs p) (first + 1) x) (first + 1) e (omega arith) h

  inner_refused : (part : Reason → Bool) (first : ℕ) (x whole : Stmt) (e : StatementFault) → IsAround (envs p) part x whole → FailsIn (first + 1) x e → FailsIn first whole e
  inner_refused part first x whole e a h = fails_part list envs p (statement_burden (envs p) (first + 1) x) (statement_burden (envs p) first whole) e (around_part (envs p) part first x whole a) h

  part_refused : (part : Reason → Bool) (first : ℕ) (x whole : Stmt) (f : BodyFault) → IsAround (envs p) part x whole → Refuses part f → FailsIn first whole (as_statement_fault f)
  part_refused part first x whole f a h = fails_by list envs p part (statement_burden (envs p) first whole) f (λ r u. a.fault r ∙ left_true (part r) _ u) h

  states_around : (part : Reason → Bool) (first k next : ℕ) (x whole : Stmt) (y made : Statement) → IsAround (envs p) part x whole → IsNumberedFrom first x k y next → ((r : Reason) → part r ≡ false) → IsStatement envs p whole made → numbers made ≡ k ∷ numbers y → States first whole made next
  states_around part first k next x whole y made a h u m n =
      let c : count_of whole ≡ 1 + count_of x = a.count in
      let room : first + 1 + count_of x < 2 ^ 32 = h.0.room in
      let whole_count : first + 1 + count_of x ≡ first + count_of whole = behind_count first (count_of x) ∙ ap (λ z. first + z) (sym c) in (
        record { own = λ r. a.fault r ∙ both_false _ _ (u r) (h.0.own r); room = omega (arith, c, room); blocks = free_same envs p (blocks_in x) (blocks_in whole) a.blocks h.0.blocks },
        record {
          means = m;
          next_is = h.1.1.next_is ∙ whole_count;
          numbered = n ∙ ap (λ z. z ∷ numbers y) h.1.0 ∙ ap (λ z. first ∷ z) h.1.1.numbered ∙ counting_one first (count_of x) ∙ ap (counting first) (sym c);
        },
      )

  -- an expression that stands alone
  abbrev pub Operates : Expr → Bool → Typed → Type 0
  Operates e signed z = ((r : Reason) → operand_fault r (envs p).names e ≡ false) × IsOperand (envs p).names e signed z

  module _ (first : ℕ) (x : Box Stmt Global) (a : Stmt) (i : a ≡ x.value) where
    body_fails : (e : StatementFault) → FailsIn (first + 1) a e → FailsIn (first + 1) x.value e
    body_fails e h = subst (λ z. FailsIn (first + 1) z e) i h

    pub while_inner : (e : Expr) (f : StatementFault) → FailsIn (first + 1) a f → FailsIn first (s.While e x) f
    while_inner e f h = inner_refused (λ r. operand_fault r (envs p).names e) first x.value (s.While e x) f (around_While (envs p) e x) (body_fails f h)

    pub repeat_inner : (e : Expr) (f : StatementFault) → FailsIn (first + 1) a f → FailsIn first (s.Repeat e x) f
    repeat_inner e f h = inner_refused (λ r. operand_fault r (envs p).names e) first x.value (s.Repeat e x) f (around_Repeat (envs p) e x) (body_fails f h)

    pub forever_inner : (f : StatementFault) → FailsIn (first + 1) a f → FailsIn first (s.Forever x) f
    forever_inner f h = inner_refused (λ r. false) first x.value (s.Forever x) f (around_Forever (envs p) x) (body_fails f h)

    pub delay_inner : (l : DelayValue) (f : StatementFault) → FailsIn (first + 1) a f → FailsIn first (s.Delay l x) f
    delay_inner l f h = inner_refused (λ r. delay_fault r (envs p).names (envs p).ratio l) first x.value (s.Delay l x) f (around_Delay (envs p) l x) (body_fails f h)

    pub event_inner : (e : EventControl) (f : StatementFault) → FailsIn (first + 1) a f → FailsIn first (s.Event e x) f
    event_inner e f h = inner_refused (λ r. event_fault r (envs p).names e) first x.value (s.Event e x) f (around_Event (envs p) e x) (body_fails f h)

  module _ (first : ℕ) (x : Box Stmt Global) where
    pub while_refused : (e : Expr) (f : BodyFault) → Refuses (λ r. operand_fault r (envs p).names e) f → FailsIn first (s.While e x) (as_statement_fault f)
    while_refused e f h = part_refused (λ r. operand_fault r (envs p).names e) first x.value (s.While e x) f (around_While (envs p) e x) h

    pub repeat_refused : (e : Expr) (f : BodyFault) → Refuses (λ r. operand_fault r (envs p).names e) f → FailsIn first (s.Repeat e x) (as_statement_fault f)
    repeat_refused e f h = part_refused (λ r. operand_fault r (envs p).names e) first x.value (s.Repeat e x) f (around_Repeat (envs p) e x) h

    pub delay_refused : (l : DelayValue) (f : BodyFault) → Refuses (λ r. delay_fault r (envs p).names (envs p).ratio l) f → FailsIn first (s.Delay l x) (as_statement_fault f)
    delay_refused l f h = part_refused (λ r. delay_fault r (envs p).names (envs p).ratio l) first x.value (s.Delay l x) f (around_Delay (envs p) l x) h

    pub event_refused : (e : EventControl) (f : BodyFault) → Refuses (λ r. event_fault r (envs p).names e) f → FailsIn first (s.Event e x) (as_statement_fault f)
    event_refused e f h = part_refused (λ r. event_fault r (envs p).names e) first x.value (s.Event e x) f (around_Event (envs p) e x) h

  -- what the statement inside is, by its two names
  inside : (x : Box Stmt Global) (y : Box Statement Global) (a : Stmt) (b : Statement) → a ≡ x.value → y.value ≡ b → IsStatement envs p a b → IsStatement envs p x.value y.value
  inside x y a b i j h = subst (λ z. IsStatement envs p z y.value) i (subst (λ z. IsStatement envs p a z) (sym j) h)

  module _ (first k next : ℕ) (x : Box Stmt Global) (y : Box Statement Global) (a : Stmt) (b : Statement) (h : IsNumberedFrom first a k b next) (i : a ≡ x.value) (j : y.value ≡ b) where
    body : IsNumberedFrom first x.value k b next
    body = subst (λ z. IsNumberedFrom first z k b next) i h

    made : IsStatement envs p x.value y.value
    made = inside x y a b i j h.1.1.means

    pub states_While : (e : Expr) (signed : Bool) (z : Typed) → Operates e signed z → States first (s.While e x) (d.While k z y) next
    states_While e signed z u =
        states_around (λ r. operand_fault r (envs p).names e) first k next x.value (s.While e x) b (d.While k z y) (around_While (envs p) e x) body u.0
        (is_while p e k z signed x y u.1 made) (numbers_While k z y ∙ ap (λ w. k ∷ numbers w) j)

    pub states_Repeat : (e : Expr) (signed : Bool) (z : Typed) → Operates e signed z → States first (s.Repeat e x) (d.Repeat k signed z y) next
    states_Repeat e signed z u =
        states_around (λ r. operand_fault r (envs p).names e) first k next x.value (s.Repeat e x) b (d.Repeat k signed z y) (around_Repeat (envs p) e x) body u.0
        (is_repeat p e k z signed x y u.1 made) (numbers_Repeat k signed z y ∙ ap (λ w. k ∷ numbers w) j)

    pub states_Forever : States first (s.Forever x) (d.Forever k y) next
    states_Forever =
        states_around (λ r. false) first k next x.value (s.Forever x) b (d.Forever k y) (around_Forever (envs p) x) body (λ r. refl)
        (is_forever p k x y made) (numbers_Forever k y ∙ ap (λ w. k ∷ numbers w) j)

    pub states_Delay : (l : DelayValue) (n : Ticks) → ((r : Reason) → delay_fault r (envs p).names (envs p).ratio l ≡ false) × (delay_of (envs p).names (envs p).ratio l ≡ Some n.count) → States first (s.Delay l x) (d.Delay k n y) next
    states_Delay l n u =
        states_around (λ r. delay_fault r (envs p).names (envs p).ratio l) first k next x.value (s.Delay l x) b (d.Delay k n y) (around_Delay (envs p) l x) body u.0
        (is_delay p l k n x y u.1 made) (numbers_Delay k n y ∙ ap (λ w. k ∷ numbers w) j)

    pub states_Event : (e : EventControl) (ts : Vec EventTerm Global) → ((r : Reason) → event_fault r (envs p).names e ≡ false) × AreEvents (envs p).names b e ts.items → States first (s.Event e x) (d.Event k ts y) next
    states_Event e ts u =
        states_around (λ r. event_fault r (envs p).names e) first k next x.value (s.Event e x) b (d.Event k ts y) (around_Event (envs p) e x) body u.0
        (is_event p e k ts x y made (subst (λ w. AreEvents (envs p).names w e ts.items) (sym j) u.1)) (numbers_Event k ts y ∙ ap (λ w. k ∷ numbers w) j)

  -- ---- `if`

  -- what stands behind `else`
  abbrev pub Otherwise : ℕ → Option (Box Stmt Global) → Statement → ℕ → Type 0
  Otherwise first o y next = IsFree envs p (statements_burden (envs p) first (else_list o)) × MeansElse envs p first o y next

  -- one statement, as a list of them
  one_part : (first : ℕ) (x : Stmt) → IsPart (statement_burden (envs p) first x) (statements_burden (envs p) first (x ∷ []))
  one_part first x = record {
    own = λ r u. left_true (has_fault r (envs p) x) false u;
    last = omega arith;
    before = [];
    behind = [];
    blocks = refl;
  }

  pub otherwise_states : (first next : ℕ) (x : Box Stmt Global) (a : Stmt) (y : Statement) → a ≡ x.value → States first a y next → Otherwise first (Some x) y next
  otherwise_states first next x a y i h =
      let q : States first x.value y next = subst (λ z. States first z y next) i h in
      let one : count_of x.value ≡ counts (else_list (Some x)) = omega arith in
      let room : first + count_of x.value < 2 ^ 32 = q.0.room in (
        record {
          own = λ r. both_false (has_fault r (envs p) x.value) false (q.0.own r) refl;
          room = omega (arith, room, one);
          blocks = free_same envs p (blocks_in x.value) (blocks_among (else_list (Some x))) (append-nil (blocks_in x.value)) q.0.blocks;
        },
        record { means = an_else p x y q.1.means; next_is = q.1.next_is ∙ ap (λ n. first + n) one; numbered = q.1.numbered ∙ ap (counting first) one },
      )

  pub otherwise_fails : (first : ℕ) (x : Box Stmt Global) (a : Stmt) (e : StatementFault) → a ≡ x.value → FailsIn first a e → BurdenFails list envs p (statements_burden (envs p) first (else_list (Some x))) e
  otherwise_fails first x a e i h =
      fails_part list envs p (statement_burden (envs p) first x.value) (statements_burden (envs p) first (x.value ∷ [])) e (one_part first x.value) (subst (λ z. FailsIn first z e) i h)

  pub otherwise_some : (first next : ℕ) (x : Box Stmt Global) (a : Stmt) (r : Result Statement StatementFault) → a ≡ x.value → Answers list envs p (statement_burden (envs p) first a) (λ y. MeansStatement envs p first a y next) r →
      Answers list envs p (statements_burden (envs p) first (else_list (Some x))) (λ y. MeansElse envs p first (Some x) y next) r
  otherwise_some first next x a (Ok y) i h = otherwise_states first next x a y i h
  otherwise_some first next x a (Err e) i h = otherwise_fails first x a e i h

  pub otherwise_none : (first : ℕ) (ys : Vec Statement Global) → first < 2 ^ 32 → ys.items ≡ [] → Otherwise first None (d.Block ys) first
  otherwise_none first ys small h =
      let e : first ≡ first + 0 = omega arith in (
        record { own = λ r. refl; room = omega arith; blocks = free_none envs p [] refl },
        record { means = no_else p ys h; next_is = e; numbered = numbers_Block ys ∙ ap (λ z. joined (map numbers z)) h },
      )

  -- a fault of the condition of an `if`
  pub if_refused : (first : ℕ) (e : Box Expr Global) (x : Box Stmt Global) (o : Option (Box Stmt Global)) (f : BodyFault) → Refuses (λ r. operand_fault r (envs p).names e.value) f → FailsIn first (s.If e x o) (as_statement_fault f)
  if_refused first e x o f h =
      fails_by list envs p (λ r. operand_fault r (envs p).names e.value) (statement_burden (envs p) first (s.If e x o)) f
      (λ r u. fault_If r (envs p) e x o ∙ left_true _ _ (left_true (operand_fault r (envs p).names e.value) (has_fault r (envs p) x.value) u)) h

  -- a fault of the statement behind the condition
  pub then_refused : (first : ℕ) (e : Box Expr Global) (x : Box Stmt Global) (o : Option (Box Stmt Global)) (a : Stmt) (f : StatementFault) → a ≡ x.value → FailsIn (first + 1) a f → FailsIn first (s.If e x o) f
  then_refused first e x o a f i h =
      fails_part list envs p (statement_burden (envs p) (first + 1) x.value) (statement_burden (envs p) first (s.If e x o)) f (then_part (envs p) first e x o) (subst (λ z. FailsIn (first + 1) z f) i h)

  -- a fault of the statement behind `else`
  pub else_refused : (first mid : ℕ) (e : Box Expr Global) (x : Box Stmt Global) (o : Option (Box Stmt Global)) (a : Stmt) (f : StatementFault) → a ≡ x.value → mid ≡ first + 1 + count_of a → BurdenFails list envs p (statements_burden (envs p) mid (else_list o)) f → FailsIn first (s.If e x o) f
  else_refused first mid e x o a f i m h =
      fails_part list envs p (statements_burden (envs p) mid (else_list o)) (statement_burden (envs p) first (s.If e x o)) f (else_part (envs p) first mid e x o (m ∙ ap (λ z. first + 1 + count_of z) i)) h

  pub states_If : (first k mid next : ℕ) (e : Box Expr Global) (signed : Bool) (z : Typed) (x : Box Stmt Global) (o : Option (Box Stmt Global)) (y w : Box Statement Global) (a : Stmt) (b c : Statement) → IsNumberedFrom first a k b mid → Otherwise mid o c next → Operates e.value signed z →
      a ≡ x.value → y.value ≡ b → w.value ≡ c → States first (s.If e x o) (d.If k z y w) next
  states_If first k mid next e signed z x o y w a b c h g u i j l =
      let at : mid ≡ first + 1 + count_of x.value = h.1.1.next_is ∙ ap (λ v. first + 1 + count_of v) i in
      let same : mid + counts (else_list o) ≡ first + (1 + count_of x.value + counts (else_list o)) = omega (arith, at) in
      let shift : suc (count_of x.value + counts (else_list o)) ≡ 1 + count_of x.value + counts (else_list o) = omega arith in
      let n : count_of (s.If e x o) ≡ 1 + count_of x.value + counts (else_list o) = count_If e x o in
      let room : mid + counts (else_list o) < 2 ^ 32 = g.0.room in
      let inner : numbers b ≡ counting (suc first) (count_of x.value) = h.1.1.numbered ∙ ap (λ v. counting (first + 1) (count_of v)) i ∙ ap (λ n. counting n (count_of x.value)) (let e : first + 1 ≡ suc first = omega arith in e) in
      let outer : numbers c ≡ counting (suc first + count_of x.value) (counts (else_list o)) = g.1.numbered ∙ ap (λ n. counting n (counts (else_list o))) (at ∙ (let e : first + 1 + count_of x.value ≡ suc first + count_of x.value = omega arith in e)) in (
        record {
          own = λ r. fault_If r (envs p) e x o ∙ both_false _ _ (both_false _ _ (u.0 r) (ap (has_fault r (envs p)) (sym i) ∙ h.0.own r)) (g.0.own r);
          room = omega (arith, n, room, same);
          blocks = free_same envs p (blocks_in x.value ++ blocks_among (else_list o)) (blocks_in (s.If e x o)) (if_blocks e x o)
              (free_both envs p (blocks_in x.value) (blocks_among (else_list o)) (subst (λ v. AreFree envs p (blocks_in v)) i h.0.blocks) g.0.blocks);
        },
        record {
          means = is_if p e k z signed x o y w u.1 (inside x y a b i j h.1.1.means) (subst (λ v. IsElse envs p o v) (sym l) g.1.means);
          next_is = g.1.next_is ∙ same ∙ ap (λ n. first + n) (sym (count_If e x o));
          numbered = numbers_If k z y w ∙ ap (λ v. k ∷ numbers v ++ numbers w.value) j ∙ ap (λ v. k ∷ numbers b ++ numbers v) l ∙ ap (λ n. n ∷ numbers b ++ numbers c) h.1.0
              ∙ ap (λ v. first ∷ v ++ numbers c) inner ∙ ap (λ v. first ∷ counting (suc first) (count_of x.value) ++ v) outer
              ∙ ap (λ v. first ∷ v) (counting_more (suc first) (count_of x.value) (counts (else_list o))) ∙ ap (counting first) (shift ∙ sym (count_If e x o));
        },
      )

  -- ---- `for`

  module _ (first : ℕ) (head : Box ForHeader Global) (x : Box Stmt Global) where
    pub begin_refused : (f : StatementFault) → FailsNumbered first head.value.first.0 head.value.first.1 f → FailsIn first (s.For head x) f
    begin_refused f h = fails_part list envs p (numbered_burden (envs p) first head.value.first.0 head.value.first.1) (statement_burden (envs p) first (s.For head x)) f (begin_part (envs p) first head x) h

    pub turn_refused : (mid : ℕ) (q : Stmt) (f : StatementFault) → mid ≡ first + 1 → q ≡ x.value → FailsIn (mid + 1) q f → FailsIn first (s.For head x) f
    turn_refused mid q f e i h =
        fails_part list envs p (statement_burden (envs p) (mid + 1) x.value) (statement_burden (envs p) first (s.For head x)) f (turn_part (envs p) first head x mid e) (subst (λ z. FailsIn (mid + 1) z f) i h)

    pub test_refused : (f : BodyFault) → Refuses (λ r. operand_fault r (envs p).names head.value.condition) f → FailsIn first (s.For head x) (as_statement_fault f)
    test_refused f h =
        fails_by list envs p (λ r. operand_fault r (envs p).names head.value.condition) (statement_burden (envs p) first (s.For head x)) f
        (λ r u. fault_For r (envs p) head x ∙ left_true _ _ (left_true _ _ (right_true (assign_fault r Procedural (envs p).names (places head.value.first.0) head.value.first.1) _ u))) h

    pub step_refused : (m1 m2 : ℕ) (q : Stmt) (f : StatementFault) → m1 ≡ first + 1 → m2 ≡ m1 + 1 + count_of q → q ≡ x.value → FailsNumbered m2 head.value.step.0 head.value.step.1 f → FailsIn first (s.For head x) f
    step_refused m1 m2 q f e g i h =
        let n : count_of q ≡ count_of x.value = ap count_of i in
        let at : m2 ≡ first + 2 + count_of x.value = omega (arith, e, g, n) in
        fails_part list envs p (numbered_burden (envs p) m2 head.value.step.0 head.value.step.1) (statement_burden (envs p) first (s.For head x)) f (step_part (envs p) first head x m2 at) h

  pub states_For : (first m1 m2 next i j k : ℕ) (head : Box ForHeader Global) (x : Box Stmt Global) (t u : Target) (y z w : Typed) (signed : Bool) (q : Stmt) (one made : Statement) → Numbers first head.value.first.0 head.value.first.1 i t y m1 → IsNumberedFrom m1 q j one m2 → Operates head.value.condition signed z → Numbers m2 head.value.step.0 head.value.step.1 k u w next →
      q ≡ x.value → IsRepeated (d.Assign i t y) j z one (d.Assign k u w) made → States first (s.For head x) made next
  states_For first m1 m2 next i j k head x t u y z w signed q one made h g v o e r =
      let n = count_of x.value in
      let at1 : m1 ≡ first + 1 = h.1.next_is in
      let at2 : m2 ≡ first + 1 + 1 + n = g.1.1.next_is ∙ ap (λ o. m1 + 1 + count_of o) e ∙ ap (λ o. o + 1 + n) at1 in
      let at3 : next ≡ first + (3 + n) = o.1.next_is ∙ ap (λ o. o + 1) at2 ∙ (let e : first + 1 + 1 + n + 1 ≡ first + (3 + n) = omega arith in e) in
      let two : first + 1 + 1 ≡ suc (suc first) = omega arith in
      let count : count_of (s.For head x) ≡ 3 + n = count_For head x in
      let whole : first + (3 + n) ≡ first + count_of (s.For head x) = ap (λ o. first + o) (sym count) in
      let long : suc (suc (n + 1)) ≡ 3 + n = omega arith in
      let inner : numbers one ≡ counting (suc (suc first)) n = g.1.1.numbered ∙ ap (λ o. counting (m1 + 1) (count_of o)) e ∙ ap (λ o. counting (o + 1) n) at1 ∙ ap (λ o. counting o n) two in
      let last : k ∷ [] ≡ counting (suc (suc first) + n) 1 = ap (λ o. o ∷ []) (o.1.number ∙ at2 ∙ ap (λ o. o + n) two) in
      let turn : numbers r.body.value ≡ counting (suc (suc first)) (n + 1) =
      ap numbers r.turn ∙ numbers_Block r.inner ∙ ap (λ o. joined (map numbers o)) r.turns ∙ ap (λ o. numbers one ++ (o ++ [])) (numbers_Assign k u w) ∙ ap (λ o. o ++ k ∷ []) inner ∙ ap (λ o. counting (suc (suc first)) n ++ o) last
      ∙ counting_more (suc (suc first)) n 1 in
      let begin : numbers (d.Assign i t y) ≡ first ∷ [] = numbers_Assign i t y ∙ ap (λ o. o ∷ []) h.1.number in
      let loop : numbers (d.While j z r.body) ≡ suc first ∷ counting (suc (suc first)) (n + 1) =
      numbers_While j z r.body ∙ ap (λ o. j ∷ o) turn ∙ ap (λ o. o ∷ counting (suc (suc first)) (n + 1)) (g.1.0 ∙ at1 ∙ (let e : first + 1 ≡ suc first = omega arith in e)) in
      let all : numbers made ≡ counting first (3 + n) =
      ap numbers r.whole ∙ numbers_Block r.all ∙ ap (λ o. joined (map numbers o)) r.parts ∙ ap (λ o. o ++ (numbers (d.While j z r.body) ++ [])) begin ∙ ap (λ o. first ∷ o ++ []) loop
      ∙ ap (λ o. first ∷ suc first ∷ o) (append-nil (counting (suc (suc first)) (n + 1))) ∙ ap (counting first) long in
      let body : IsStatement envs p x.value one = subst (λ o. IsStatement envs p o one) e g.1.1.means in
      let room : m2 + 1 < 2 ^ 32 = o.0.room in (
        record {
          own = λ f.
              fault_For f (envs p) head x
              ∙ both_false _ _ (both_false _ _ (both_false _ _ (h.0.own f) (v.0 f)) (o.0.own f)) (ap (has_fault f (envs p)) (sym e) ∙ g.0.own f);
          room = omega (arith, count, room, at2);
          blocks = free_same envs p (blocks_in x.value) (blocks_in (s.For head x)) (blocks_For head x) (subst (λ o. AreFree envs p (blocks_in o)) e g.0.blocks);
        },
        record {
          means = subst (IsStatement envs p (s.For head x)) (sym r.whole) (is_for p head x i j k t u y w z signed r.all r.inner r.body one h.1.sides v.1 o.1.sides body r.turns r.turn r.parts);
          next_is = at3 ∙ whole;
          numbered = all ∙ ap (counting first) (sym count);
        },
      )

  -- ---- `case`

  -- a fault of the expressions of a `case`
  pub case_refused_by : (first : ℕ) (kind : CaseKind) (e : Box Expr Global) (v : Vec (CaseLabel × Stmt) Global) (xs : List (CaseLabel × Stmt)) (f : BodyFault) → xs ≡ v.items → Refuses (λ r. case_fault r (envs p).names e.value (labels_of xs)) f → FailsIn first (s.Case kind e v) (as_statement_fault f)
  case_refused_by first kind e v xs f i h =
      fails_by list envs p (λ r. case_fault r (envs p).names e.value (labels_of v.items)) (statement_burden (envs p) first (s.Case kind e v)) f
      (λ r u. fault_Case r (envs p) kind e v ∙ left_true (case_fault r (envs p).names e.value (labels_of v.items)) _ u) (subst (λ z. Refuses (λ r. case_fault r (envs p).names e.value (labels_of z)) f) i h)

  pub case_overfull : (first : ℕ) (kind : CaseKind) (e : Box Expr Global) (v : Vec (CaseLabel × Stmt) Global) (f : StatementFault) → (f ≡ t.Overfull) × (2 ^ 32 ≤ first + 1) → FailsIn first (s.Case kind e v) f
  case_overfull first kind e v f h = fails_overfull list envs p (statement_burden (envs p) first (s.Case kind e v)) (first + 1) f (let n = count_Case kind e v in omega (arith, n)) h

  -- a fault of the items of a `case`
  pub items_refused : (first mid : ℕ) (kind : CaseKind) (e : Box Expr Global) (v : Vec (CaseLabel × Stmt) Global) (xs : List (CaseLabel × Stmt)) (f : StatementFault) → mid ≡ first + 1 → xs ≡ v.items → BurdenFails list envs p (items_burden (envs p) mid xs) f → FailsIn first (s.Case kind e v) f
  items_refused first mid kind e v xs f m i h =
      fails_part list envs p (items_burden (envs p) mid v.items) (statement_burden (envs p) first (s.Case kind e v)) f (items_part (envs p) first mid kind e v m) (subst (λ z. BurdenFails list envs p (items_burden (envs p) mid z) f) i h)

  -- the items of a `case`, of which none has a fault
  abbrev pub Lists : Shape → ℕ → List (CaseLabel × Stmt) → List (Vec Typed Global × Statement) → ℕ → Type 0
  Lists s first xs ys next = IsFree envs p (items_burden (envs p) first xs) × MeansItems envs p s first xs ys next

  pub states_Case : (first k mid next : ℕ) (kind : CaseKind) (e : Box Expr Global) (v : Vec (CaseLabel × Stmt) Global) (sh : Shape) (z : Typed) (ws : Vec (Vec Typed Global × Statement) Global) (xs ys : List (CaseLabel × Stmt)) → Takes first k mid →
      ((r : Reason) → case_fault r (envs p).names e.value (labels_of xs) ≡ false) × IsCase (envs p).names e.value (labels_of xs) sh z → Lists sh mid ys ws.items next → xs ≡ v.items → ys ≡ v.items → States first (s.Case kind e v) (d.Case k kind z ws) next
  states_Case first k mid next kind e v sh z ws xs ys h g q i j =
      let env = envs p in
      let n = total (map item_count v.items) in
      let one = subst (λ o. ((r : Reason) → case_fault r env.names e.value (labels_of o) ≡ false) × IsCase env.names e.value (labels_of o) sh z) i g in
      let all : Lists sh mid v.items ws.items next = subst (λ o. Lists sh mid o ws.items next) j q in
      let count : count_of (s.Case kind e v) ≡ 1 + n = count_Case kind e v in
      let same : mid + n ≡ first + (1 + n) = ap (λ o. o + n) h.1.0 ∙ behind_count first n in
      let room : mid + n < 2 ^ 32 = all.0.room in (
        record {
          own = λ r.
              fault_Case r env kind e v
              ∙ both_false _ _ (one.0 r) (right_false (list_any (operand_fault r env.names) (exprs_in v.items)) _ (sym (items_parts r env v.items) ∙ all.0.own r));
          room = omega (arith, count, room, same);
          blocks = free_same envs p (flat_map (λ (x : CaseLabel × Stmt). blocks_in x.1) v.items) (blocks_in (s.Case kind e v)) (blocks_Case kind e v) all.0.blocks;
        },
        record {
          means = is_case p kind e k z sh.width sh.signed v ws one.1.found one.1.typed one.1.defaults all.1.means;
          next_is = all.1.next_is ∙ same ∙ ap (λ o. first + o) (sym count);
          numbered = numbers_Case k kind z ws ∙ ap (λ o. k ∷ o) all.1.numbered ∙ ap (λ o. o ∷ counting mid n) h.0 ∙ ap (λ o. first ∷ counting o n) h.1.0 ∙ counting_one first n ∙ ap (counting first) (sym count);
        },
      )

  items_push : (q : Path) (width : ℕ) (signed : Bool) (xs : List (CaseLabel × Stmt)) (ys : List (Vec Typed Global × Statement)) (x : CaseLabel × Stmt) (y : Vec Typed Global × Statement) → AreItems envs q width signed xs ys → AreTypedAt (envs q).names width signed (label_exprs x.0) y.0.items → IsStatement envs q x.1 y.1 →
      AreItems envs q width signed (xs ++ x ∷ []) (ys ++ y ∷ [])
  items_push _ _ _ _ _ x y (no_items q w g) h k = more_items q w g x y [] [] h k (no_items q w g)
  items_push _ _ _ _ _ x y (more_items q w g a b us vs o r os) h k = more_items q w g a b _ _ o r (items_push q w g us vs x y os h k)

  pub listed_none : (s : Shape) (first : ℕ) (ys : List (Vec Typed Global × Statement)) → ys ≡ [] → KeepsItems envs p s first [] ys first
  listed_none s first ys h =
      let e : first ≡ first + 0 = omega arith in
      record {
        sound = λ r. refl;
        free = free_none envs p [] refl;
        means = record { means = subst (AreItems envs p s.width s.signed []) (sym h) (no_items p s.width s.signed); next_is = e; numbered = ap (λ z. joined (map item_numbers z)) h };
      }

  pub listed_more : (s : Shape) (first mid next : ℕ) (xs : List (CaseLabel × Stmt)) (i : ℕ) (x : CaseLabel × Stmt) (ys zs : List (Vec Typed Global × Statement)) (v : Vec Typed Global) (y : Statement) → i < length xs → x ≡ get_or xs i x → zs ≡ ys ++ (v, y) ∷ [] → KeepsItems envs p s first (take i xs) ys mid →
      ((r : Reason) → list_any (operand_fault r (envs p).names) (label_exprs x.0) ≡ false) × AreTypedAt (envs p).names s.width s.signed (label_exprs x.0) v.items → States mid x.1 y next → KeepsItems envs p s first (take (i + 1) xs) zs next
  listed_more s first mid next xs i x ys zs v y h k e o t q =
      let front = take i xs in
      let more : total (map item_count (front ++ x ∷ [])) ≡ total (map item_count front) + count_of x.1 = total_push item_count front x in
      let at : next ≡ first + total (map item_count (front ++ x ∷ [])) =
      q.1.next_is ∙ ap (λ z. z + count_of x.1) o.means.next_is ∙ (let e : first + total (map item_count front) + count_of x.1 ≡ first + (total (map item_count front) + count_of x.1) = omega arith in e) ∙ ap (λ z. first + z) (sym more) in
      let numbered : joined (map item_numbers (ys ++ (v, y) ∷ [])) ≡ counting first (total (map item_count (front ++ x ∷ []))) =
      ap joined (map-append item_numbers ys ((v, y) ∷ [])) ∙ joined_push (map item_numbers ys) (numbers y) ∙ ap (λ z. z ++ numbers y) o.means.numbered ∙ ap (λ z. counting first (total (map item_count front)) ++ z) (q.1.numbered ∙ ap (λ z. counting z (count_of x.1)) o.means.next_is)
      ∙ counting_more first (total (map item_count front)) (count_of x.1) ∙ ap (counting first) (sym more) in
      let done : KeepsItems envs p s first (front ++ x ∷ []) (ys ++ (v, y) ∷ []) next = record {
        sound = λ r. any_push (item_fault (envs p) r) front x (o.sound r) (both_false _ _ (t.0 r) (q.0.own r));
        free = pushed_free (λ (x : CaseLabel × Stmt). blocks_in x.1) front x o.free q.0.blocks;
        means = record { means = items_push p s.width s.signed front ys x (v, y) o.means.means t.1 q.1.means; next_is = at; numbered = numbered };
      } in
      subst (λ z. KeepsItems envs p s first z zs next) (sym (take_push xs i x h k)) (subst (λ z. KeepsItems envs p s first (front ++ x ∷ []) z next) (sym e) done)

  pub listed_all : (s : Shape) (first next : ℕ) (xs : List (CaseLabel × Stmt)) (i : ℕ) (ys : List (Vec Typed Global × Statement)) → length xs ≤ i → next < 2 ^ 32 → KeepsItems envs p s first (take i xs) ys next → Lists s first xs ys next
  listed_all s first next xs i ys h small o =
      let q : KeepsItems envs p s first xs ys next = subst (λ z. KeepsItems envs p s first z ys next) (take_all i xs h) o in
      (record { own = q.sound; room = subst (λ z. z < 2 ^ 32) q.means.next_is small; blocks = q.free }, q.means)

  -- a fault of the labels of an item
  pub label_refused : (first : ℕ) (xs : List (CaseLabel × Stmt)) (i : ℕ) (x : CaseLabel × Stmt) (f : BodyFault) → i < length xs → x ≡ get_or xs i x → Refuses (λ r. list_any (operand_fault r (envs p).names) (label_exprs x.0)) f → BurdenFails list envs p (items_burden (envs p) first xs) (as_statement_fault f)
  label_refused first xs i x f h k g =
      fails_by list envs p (λ r. list_any (operand_fault r (envs p).names) (label_exprs x.0)) (items_burden (envs p) first xs) f
      (λ r u. any_at (item_fault (envs p) r) xs i x h k (left_true _ (has_fault r (envs p) x.1) u)) g

  -- a fault of the statement of an item
  pub item_refused : (first mid : ℕ) (xs : List (CaseLabel × Stmt)) (i : ℕ) (x : CaseLabel × Stmt) (f : StatementFault) → i < length xs → x ≡ get_or xs i x → mid ≡ first + total (map item_count (take i xs)) → FailsIn mid x.1 f → BurdenFails list envs p (items_burden (envs p) first xs) f
  item_refused first mid xs i x f h k m g =
      let parts = flat_parts (λ (x : CaseLabel × Stmt). blocks_in x.1) xs i x h k in
      let within : total (map item_count (take i xs)) + item_count x ≤ total (map item_count xs) = total_within item_count xs i x h k in
      fails_part list envs p (statement_burden (envs p) mid x.1) (items_burden (envs p) first xs) f
      (record {
        own = λ r u. any_at (item_fault (envs p) r) xs i x h k (right_true (list_any (operand_fault r (envs p).names) (label_exprs x.0)) _ u);
        last = omega (arith, m, within);
        before = parts.0;
        behind = parts.1.0;
        blocks = parts.1.1;
      }) g

  -- ---- several

  are_push : (q : Path) (xs : List Stmt) (ys : List Statement) (x : Stmt) (y : Statement) → AreStatements envs q xs ys → IsStatement envs q x y → AreStatements envs q (xs ++ x ∷ []) (ys ++ y ∷ [])
  are_push _ _ _ x y (are_none q) h = are_more q x y [] [] h (are_none q)
  are_push _ _ _ x y (are_more q a b us vs g gs) h = are_more q a b _ _ g (are_push q us vs x y gs h)

  pub statement_refused : (first mid : ℕ) (xs : List Stmt) (i : ℕ) (x : Stmt) (e : StatementFault) → i < length xs → x ≡ get_or xs i x → mid ≡ first + counts (take i xs) → FailsIn mid x e → BurdenFails list envs p (statements_burden (envs p) first xs) e
  statement_refused first mid xs i x e h k m g =
      let parts = flat_parts blocks_in xs i x h k in
      let within : counts (take i xs) + count_of x ≤ counts xs = total_within count_of xs i x h k in
      fails_part list envs p (statement_burden (envs p) mid x) (statements_burden (envs p) first xs) e
      (record {
        own = λ r u. any_at (has_fault r (envs p)) xs i x h k u;
        last = omega (arith, m, within);
        before = parts.0;
        behind = parts.1.0;
        blocks = parts.1.1;
      }) g

  pub stated_none : (first : ℕ) (ys : List Statement) → ys ≡ [] → Stated envs p first [] ys first
  stated_none first ys h =
      let e : first ≡ first + 0 = omega arith in
      record { sound = λ r. refl; free = free_none envs p [] refl; means = record { means = subst (λ z. AreStatements envs p [] z) (sym h) (are_none p); next_is = e; numbered = ap (λ z. joined (map numbers z)) h } }

  pub stated_more : (first mid next : ℕ) (xs : List Stmt) (i : ℕ) (x : Stmt) (ys zs : List Statement) (y : Statement) → i < length xs → x ≡ get_or xs i x → zs ≡ ys ++ y ∷ [] → Stated envs p first (take i xs) ys mid → States mid x y next → Stated envs p first (take (i + 1) xs) zs next
  stated_more first mid next xs i x ys zs y h k e o q =
      let front = take i xs in
      let more : counts (front ++ x ∷ []) ≡ counts front + count_of x = total_push count_of front x in
      let at : next ≡ first + counts (front ++ x ∷ []) = q.1.next_is ∙ ap (λ z. z + count_of x) o.means.next_is ∙ (let e : first + counts front + count_of x ≡ first + (counts front + count_of x) = omega arith in e) ∙ ap (λ z. first + z) (sym more) in
      let numbered : joined (map numbers (ys ++ y ∷ [])) ≡ counting first (counts (front ++ x ∷ [])) =
      ap joined (map-append numbers ys (y ∷ [])) ∙ joined_push (map numbers ys) (numbers y) ∙ ap (λ z. z ++ numbers y) o.means.numbered ∙ ap (λ z. counting first (counts front) ++ z) (q.1.numbered ∙ ap (λ z. counting z (count_of x)) o.means.next_is) ∙ counting_more first (counts front) (count_of x) ∙ ap (counting first) (sym more) in
      let done : Stated envs p first (front ++ x ∷ []) (ys ++ y ∷ []) next = record {
        sound = λ r. any_push (has_fault r (envs p)) front x (o.sound r) (q.0.own r);
        free = pushed_free blocks_in front x o.free q.0.blocks;
        means = record { means = are_push p front ys x y o.means.means q.1.means; next_is = at; numbered = numbered };
      } in
      subst (λ z. Stated envs p first z zs next) (sym (take_push xs i x h k)) (subst (λ z. Stated envs p first (front ++ x ∷ []) z next) (sym e) done)

  pub stated_all : (first next : ℕ) (xs : List Stmt) (i : ℕ) (ys : List Statement) → length xs ≤ i → next < 2 ^ 32 → Stated envs p first (take i xs) ys next → StateAll p first xs ys next
  stated_all first next xs i ys h small o =
      let q : Stated envs p first xs ys next = subst (λ z. Stated envs p first z ys next) (take_all i xs h) o in
      (record { own = q.sound; room = subst (λ z. z < 2 ^ 32) q.means.next_is small; blocks = q.free }, q.means)

  -- ---- bodies of processes

  pub means_set : (a : Assignment) (t : Target) (x : Typed) → ((r : Reason) → assign_fault r Procedural (envs p).names a.target a.value ≡ false) × IsAssignment Procedural (envs p).names a.target a.value t x →
      ((r : Reason) (at : Path) → HasBehaviorFault envs r at p (sets a) → ⊥) × MeansBody envs p (sets a) (d.Assign 0 t x)
  means_set a t x h = (λ r at u. by r at u, record { means = is_set a 0 t x h.1; numbered = numbers_Assign 0 t x })
    where
      by : (r : Reason) (at : Path) → HasBehaviorFault envs r at p (sets a) → ⊥
      by r at (inl u) = true≢false (sym u.0 ∙ h.0 r)
      by r at (inr u) = true≢false (sym u.0 ∙ not_overfull r 1 (omega arith))

  pub set_refused : (a : Assignment) (f : BodyFault) → Refuses (λ r. assign_fault r Procedural (envs p).names a.target a.value) f → BodyFails list envs p (sets a) (as_statement_fault f)
  set_refused a b.Memory h = tt
  set_refused a (b.Refused r) h = inl (h, refl)

  -- a statement without faults has none in any scope
  no_fault : (first : ℕ) (x : Stmt) → IsFree envs p (statement_burden (envs p) first x) → (r : Reason) (at q : Path) → p ≡ q → HasFaultAt envs r at q x → ⊥
  no_fault first _ g r at _ e (in_statement q x u k) = true≢false (sym u ∙ ap (λ z. has_fault r (envs z) x) (sym e) ∙ g.own r)
  no_fault first _ g r at _ e (in_block q x y i j c s k u) =
      g.blocks r at (record { place = i; index = j; block = c; inner = y; stands = s; holds = k; fault = subst (λ z. HasFaultAt envs r at (z ++ plainly c.name ∷ []) y) (sym e) u })

  pub means_run : (x : Stmt) (next : ℕ) (y : Statement) → States 0 x y next → ((r : Reason) (at : Path) → HasBehaviorFault envs r at p (runs x) → ⊥) × MeansBody envs p (runs x) y
  means_run x next y h = (by, record { means = is_run x y h.1.means; numbered = h.1.numbered })
    where
      by : (r : Reason) (at : Path) → HasBehaviorFault envs r at p (runs x) → ⊥
      by r at (inl u) = no_fault 0 x h.0 r at p refl u
      by r at (inr u) = let room : 0 + count_of x < 2 ^ 32 = h.0.room in true≢false (sym u.0 ∙ not_overfull r (count_of x) (omega (arith, room)))

  overfull_limit : (n : ℕ) → 2 ^ 32 ≤ n → is_overfull Limit n ≡ true
  overfull_limit n h = le-leb (2 ^ 32) n h

  pub run_refused : (x : Stmt) (e : StatementFault) → FailsIn 0 x e → BodyFails list envs p (runs x) e
  run_refused x t.Memory h = tt
  run_refused x t.Overfull h = let k : 2 ^ 32 ≤ count_of x = omega (arith, h) in inr (overfull_limit (count_of x) k, refl)
  run_refused x (t.Refused r) h = inl (in_statement p x h refl)
  run_refused x (t.Inside k r) h = let i = h.1.1 in (h.0, (h.1.0, inl (in_block p x i.inner i.place i.index i.block i.stands i.holds i.fault)))

  pub means_run_all : (x : Stmt) (next : ℕ) (r : Result Statement StatementFault) → Answers list envs p (statement_burden (envs p) 0 x) (λ y. MeansStatement envs p 0 x y next) r → Embodies list envs p (runs x) r
  means_run_all x next (Ok y) h = means_run x next y h
  means_run_all x next (Err e) h = run_refused x e h

  one_more : (n : ℕ) → suc n ≡ 1 + n
  one_more n = omega arith

  pub means_repeat : (k mid : ℕ) (x : Stmt) (next : ℕ) (y : Statement) (b : Box Statement Global) → Takes 0 k mid → b.value ≡ y → States mid x y next → ((r : Reason) (at : Path) → HasBehaviorFault envs r at p (repeats x) → ⊥) × MeansBody envs p (repeats x) (d.Forever k b)
  means_repeat k mid x next y b u j h =
      let at : mid ≡ 1 = u.1.0 ∙ (let e : 0 + 1 ≡ 1 = omega arith in e) in
      let q : States 1 x y next = subst (λ z. States z x y next) at h in (
        none q.0,
        record {
          means = is_repeat x k b (subst (λ z. IsStatement envs p x z) (sym j) q.1.means);
          numbered = numbers_Forever k b ∙ ap (λ z. z ∷ numbers b.value) u.0 ∙ ap (λ z. 0 ∷ numbers z) j ∙ ap (λ z. 0 ∷ z) q.1.numbered ∙ ap (counting 0) (one_more (count_of x));
        },
      )
    where
      none : IsFree envs p (statement_burden (envs p) 1 x) → (r : Reason) (at : Path) → HasBehaviorFault envs r at p (repeats x) → ⊥
      none g r at (inl u) = no_fault 1 x g r at p refl u
      none g r at (inr u) = let room : 1 + count_of x < 2 ^ 32 = g.room in true≢false (sym u.0 ∙ not_overfull r (1 + count_of x) room)

  pub repeat_body_refused : (mid : ℕ) (x : Stmt) (e : StatementFault) → mid ≡ 0 + 1 → FailsIn mid x e → BodyFails list envs p (repeats x) e
  repeat_body_refused mid x e m h = by e (subst (λ z. FailsIn z x e) m h)
    where
      by : (e : StatementFault) → FailsIn (0 + 1) x e → BodyFails list envs p (repeats x) e
      by t.Memory h = tt
      by t.Overfull h = let k : 2 ^ 32 ≤ 1 + count_of x = omega (arith, h) in inr (overfull_limit (1 + count_of x) k, refl)
      by (t.Refused r) h = inl (in_statement p x h refl)
      by (t.Inside k r) h = let i = h.1.1 in (h.0, (h.1.0, inl (in_block p x i.inner i.place i.index i.block i.stands i.holds i.fault)))

  pub repeat_overfull : (x : Stmt) (e : StatementFault) → (e ≡ t.Overfull) × (2 ^ 32 ≤ 0 + 1) → BodyFails list envs p (repeats x) e
  repeat_overfull x e h = absurd (let k : 2 ^ 32 ≤ 0 + 1 = h.1 in omega arith)
