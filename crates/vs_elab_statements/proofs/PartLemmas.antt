-- Parts of statements: what can be wrong with one can be wrong with the whole.
use Rattle.std.proofs.Common.{◌≡◌, ℕ, zero, suc, ◌+◌, ◌<◌, ◌≤◌, ◌^◌, Bool, true, false, ◌||◌, List, [], ◌∷◌, ◌++◌, true≢false, Option, None, Some, length, map, get_or, refl, ap, sym, ◌∙◌, arith, append_assoc, nat_le}
use Rattle.std.specs.List.{list_any, flat_map}
use Rattle.std.specs.declared.vec.Vec.{Vec}
use Rattle.std.specs.declared.boxed.Box.{Box}
use Rattle.std.specs.declared.alloc.Global.{Global}
use Rattle.std.proofs.lemmas.Bool.{leb-true}
use Rattle.std.proofs.lemmas.List.{append-nil}
use Rattle.vs_syntax.specs.declared.tree.Expr.{Expr}
use Rattle.vs_syntax.specs.declared.tree.ForHeader.{ForHeader}
use Rattle.vs_syntax.specs.declared.tree.LocalDeclaration.{LocalDeclaration}
use Rattle.vs_syntax.specs.declared.tree.Stmt.{Stmt}
use Rattle.vs_syntax.specs.declared.tree.Stmt.TheVariants as s
use Rattle.vs_syntax.specs.declared.tree.CaseLabel.{CaseLabel}
use Rattle.vs_syntax.specs.declared.tree.DelayValue.{DelayValue}
use Rattle.vs_syntax.specs.declared.tree.EventControl.{EventControl}
use Rattle.vs_design.specs.declared.expression.Typed.{Typed}
use Rattle.vs_design.specs.vs_logic4.specs.declared.case.CaseKind.{CaseKind}
use Rattle.vs_scopes.specs.vs_widths.specs.declared.shape.Shape.{Shape}
use Rattle.vs_design.specs.declared.statement.Statement.{Statement}
use Rattle.vs_widths.specs.declared.kinds.AssignmentKind.TheVariants.{Procedural}
use Rattle.vs_scopes.specs.declared.faults.Reason.{Reason}
use Rattle.vs_scopes.specs.declared.faults.Reason.TheVariants.{NoModule, Inside, PortMismatch, ParameterMismatch, DeclaredTwice, DrivenTwice, Limit, Width, Endless, Unnamed, Timescales, Format}
use Rattle.vs_scopes.specs.vs_widths.specs.Environment.{Environment}
use Rattle.vs_scopes.specs.vs_widths.specs.Findings.{has_width_fault}
use Rattle.vs_widths.specs.Expressions.{meant}
use Rattle.vs_elab_statements.proofs.CaseLemmas.{exprs_in, exprs_of, stands_common}
use Rattle.std.proofs.lemmas.List.Folds.{list_any-append}
use Rattle.vs_elab_signals.specs.vs_scopes.specs.Pieces.{NamedBlock, blocks_in, blocks_among}
use Rattle.vs_elab_signals.specs.vs_scopes.specs.pieces_passes.Parts.{blocks_of_else}
use Rattle.vs_elab_signals.specs.vs_scopes.proofs.PiecesLemmas.{blocks_Block, blocks_If, blocks_Case}
use Rattle.vs_elab_statements.specs.Statements.{assign_fault, operand_fault, delay_fault, event_fault, case_fault, label_exprs, has_fault, count_of, total, is_overfull}
use Rattle.vs_elab_statements.specs.Members.{places}
use Rattle.vs_elab_statements.specs.Surroundings.{Surroundings}
use Rattle.vs_scopes.specs.Printed.{Path}
use Rattle.vs_elab_statements.specs.passes.Bodies.{counting, statement_burden, statements_burden, numbered_burden, named_burden, items_burden, MeansStatements, else_list, MeansItems, item_fault}
use Rattle.vs_elab_statements.proofs.BlockLemmas.{blocks_Named, blocks_For, blocks_While, blocks_Repeat, blocks_Forever, blocks_Delay, blocks_Event, IsPart, AreFree}
use Rattle.std.proofs.lemmas.Bool.{or_left as left_true, or_right as right_true}
use Rattle.vs_elab_statements.proofs.FormLemmas.{count_Block, count_Case, count_Delay, count_Event, count_For, count_Forever, count_If, count_Named, count_Repeat, count_While, counts, fault_Block, fault_Case, fault_Delay, fault_Event, fault_For, fault_Forever, fault_If, fault_Repeat, fault_While, item_count, labels_of}
use Rattle.vs_design.specs.vs_logic4.proofs.Basics.{any_none as none_any, left_false, or_four, right_false}

-- ---- too many statements

-- a number that is small
small_false : (b : Bool) (m n : ℕ) → (b ≡ true → n ≤ m) → m < n → b ≡ false
small_false false m n f h = refl
small_false true m n f h = absurd (let e : n ≤ m = f refl in omega arith)

pub not_overfull : (r : Reason) (n : ℕ) → n < 2 ^ 32 → is_overfull r n ≡ false
not_overfull Limit n h = small_false (nat_le (2 ^ 32) n) n (2 ^ 32) (λ e. leb-true (2 ^ 32) n e) h
not_overfull NoModule n h = refl
not_overfull Inside n h = refl
not_overfull PortMismatch n h = refl
not_overfull ParameterMismatch n h = refl
not_overfull DeclaredTwice n h = refl
not_overfull DrivenTwice n h = refl
not_overfull (Width w) n h = refl
not_overfull Endless n h = refl
not_overfull Unnamed n h = refl
not_overfull Timescales n h = refl
not_overfull (Format wrong) n h = refl

-- ---- tests

pub behind_count : (first n : ℕ) → first + 1 + n ≡ first + (1 + n)
behind_count first n = omega arith

pub counting_one : (first n : ℕ) → first ∷ counting (first + 1) n ≡ counting first (1 + n)
counting_one first n =
    let e : first + 1 ≡ suc first = omega arith in
    let l : suc n ≡ 1 + n = omega arith in
    ap (λ z. first ∷ counting z n) e ∙ ap (counting first) l

-- a number that was taken
abbrev pub Takes : ℕ → ℕ → ℕ → Type 0
Takes first k next = (k ≡ first) × ((next ≡ first + 1) × (first + 1 < 2 ^ 32))

-- a statement around another one, with this fault of its own
pub record IsAround (env : Surroundings) (part : Reason → Bool) (x whole : Stmt) : Type 0 where
  pub fault : (r : Reason) → has_fault r env whole ≡ (part r || has_fault r env x)
  pub count : count_of whole ≡ 1 + count_of x
  pub blocks : blocks_in whole ≡ blocks_in x

pub around_While : (env : Surroundings) (e : Expr) (x : Box Stmt Global) → IsAround env (λ r. operand_fault r env.names e) x.value (s.While e x)
around_While env e x = record { fault = λ r. fault_While r env e x; count = count_While e x; blocks = blocks_While e x }

pub around_Repeat : (env : Surroundings) (e : Expr) (x : Box Stmt Global) → IsAround env (λ r. operand_fault r env.names e) x.value (s.Repeat e x)
around_Repeat env e x = record { fault = λ r. fault_Repeat r env e x; count = count_Repeat e x; blocks = blocks_Repeat e x }

pub around_Forever : (env : Surroundings) (x : Box Stmt Global) → IsAround env (λ r. false) x.value (s.Forever x)
around_Forever env x = record { fault = λ r. fault_Forever r env x; count = count_Forever x; blocks = blocks_Forever x }

pub around_Delay : (env : Surroundings) (l : DelayValue) (x : Box Stmt Global) → IsAround env (λ r. delay_fault r env.names env.ratio l) x.value (s.Delay l x)
around_Delay env l x = record { fault = λ r. fault_Delay r env l x; count = count_Delay l x; blocks = blocks_Delay l x }

pub around_Event : (env : Surroundings) (e : EventControl) (x : Box Stmt Global) → IsAround env (λ r. event_fault r env.names e) x.value (s.Event e x)
around_Event env e x = record { fault = λ r. fault_Event r env e x; count = count_Event e x; blocks = blocks_Event e x }

whole_blocks : (us bs : List NamedBlock) → us ≡ bs → us ≡ [] ++ (bs ++ [])
whole_blocks us bs e = e ∙ sym (append-nil bs)

-- the statement inside is part of the one around it
pub around_part : (env : Surroundings) (part : Reason → Bool) (first : ℕ) (x whole : Stmt) → IsAround env part x whole → IsPart (statement_burden env (first + 1) x) (statement_burden env first whole)
around_part env part first x whole a =
    let n : count_of whole ≡ 1 + count_of x = a.count in
    record {
      own = λ r u. a.fault r ∙ right_true (part r) _ u;
      last = omega (arith, n);
      before = [];
      behind = [];
      blocks = whole_blocks (blocks_in whole) (blocks_in x) a.blocks;
    }

-- what stands behind `else`
else_blocks : (o : Option (Box Stmt Global)) → blocks_of_else o ≡ blocks_among (else_list o)
else_blocks None = refl
else_blocks (Some x) = sym (append-nil (blocks_in x.value))

pub if_blocks : (e : Box Expr Global) (x : Box Stmt Global) (o : Option (Box Stmt Global)) → blocks_in (s.If e x o) ≡ blocks_in x.value ++ blocks_among (else_list o)
if_blocks e x o = blocks_If e x o ∙ ap (λ z. blocks_in x.value ++ z) (else_blocks o)

-- ---- `case`

any_parts : {A : Type 0} (p q : A → Bool) (xs : List A) → list_any (λ x. p x || q x) xs ≡ (list_any p xs || list_any q xs)
any_parts p q [] = refl
any_parts p q (x ∷ xs) = ap (λ b. (p x || q x) || b) (any_parts p q xs) ∙ or_four (p x) (q x) (list_any p xs) (list_any q xs)

any_exprs : (r : Reason) (env : Environment) (xs : List (CaseLabel × Stmt)) → list_any (λ (x : CaseLabel × Stmt). list_any (operand_fault r env) (label_exprs x.0)) xs ≡ list_any (operand_fault r env) (exprs_in xs)
any_exprs r env [] = refl
any_exprs r env (x ∷ xs) = ap (λ b. list_any (operand_fault r env) (label_exprs x.0) || b) (any_exprs r env xs) ∙ sym (list_any-append (operand_fault r env) (label_exprs x.0) (exprs_in xs))

-- a fault of the labels is one of the `case`
labels_stand : (r : Reason) (env : Environment) (e : Expr) (xs : List (CaseLabel × Stmt)) → list_any (operand_fault r env) (exprs_in xs) ≡ true → case_fault r env e (labels_of xs) ≡ true
labels_stand (Width w) env e xs h =
    stands_common w env (meant env e).finding (flat_map label_exprs (labels_of xs)) ∙ right_true (has_width_fault w (meant env e).finding) _ (ap (list_any (operand_fault (Width w) env)) (exprs_of xs) ∙ h)
labels_stand NoModule env e xs h = absurd (true≢false (sym h ∙ none_any (exprs_in xs)))
labels_stand Inside env e xs h = absurd (true≢false (sym h ∙ none_any (exprs_in xs)))
labels_stand PortMismatch env e xs h = absurd (true≢false (sym h ∙ none_any (exprs_in xs)))
labels_stand ParameterMismatch env e xs h = absurd (true≢false (sym h ∙ none_any (exprs_in xs)))
labels_stand DeclaredTwice env e xs h = absurd (true≢false (sym h ∙ none_any (exprs_in xs)))
labels_stand DrivenTwice env e xs h = absurd (true≢false (sym h ∙ none_any (exprs_in xs)))
labels_stand Limit env e xs h = absurd (true≢false (sym h ∙ none_any (exprs_in xs)))
labels_stand Endless env e xs h = absurd (true≢false (sym h ∙ none_any (exprs_in xs)))
labels_stand Unnamed env e xs h = absurd (true≢false (sym h ∙ none_any (exprs_in xs)))
labels_stand Timescales env e xs h = absurd (true≢false (sym h ∙ none_any (exprs_in xs)))
labels_stand (Format wrong) env e xs h = absurd (true≢false (sym h ∙ none_any (exprs_in xs)))

-- whether an item's statement has a fault
abbrev inner_fault : Reason → Surroundings → CaseLabel × Stmt → Bool
inner_fault r env x = has_fault r env x.1

pub items_parts : (r : Reason) (env : Surroundings) (xs : List (CaseLabel × Stmt)) → list_any (item_fault env r) xs ≡ (list_any (operand_fault r env.names) (exprs_in xs) || list_any (inner_fault r env) xs)
items_parts r env xs =
    any_parts (λ (x : CaseLabel × Stmt). list_any (operand_fault r env.names) (label_exprs x.0)) (inner_fault r env) xs ∙ ap (λ b. b || list_any (inner_fault r env) xs) (any_exprs r env.names xs)

case_by : (p q t : Bool) → (p ≡ true → q ≡ true) → (p || t) ≡ true → (q || t) ≡ true
case_by true q t k u = left_true q t (k refl)
case_by false q t k u = right_true q t u

-- ---- parts of statements: what can be wrong with one can be wrong with the whole

module _ (env : Surroundings) (first : ℕ) where
  pub block_part : (xs : Vec Stmt Global) → IsPart (statements_burden env first xs.items) (statement_burden env first (s.Block xs))
  block_part xs =
      let n : count_of (s.Block xs) ≡ counts xs.items = count_Block xs in
      record {
        own = λ r u. fault_Block r env xs ∙ u;
        last = omega (arith, n);
        before = [];
        behind = [];
        blocks = whole_blocks (blocks_in (s.Block xs)) (blocks_among xs.items) (blocks_Block xs);
      }

  pub named_part : (n : Vec ℕ Global) (ls : Vec LocalDeclaration Global) (xs : Vec Stmt Global) → IsPart (named_burden first (record { name = n.items; locals = ls.items; statements = xs.items })) (statement_burden env first (s.Named n ls xs))
  named_part n ls xs =
      let c : count_of (s.Named n ls xs) ≡ counts xs.items = count_Named n ls xs in
      record {
        own = λ r u. absurd (true≢false (sym u));
        last = omega (arith, c);
        before = [];
        behind = [];
        blocks = blocks_Named n ls xs;
      }

  pub then_part : (e : Box Expr Global) (x : Box Stmt Global) (o : Option (Box Stmt Global)) → IsPart (statement_burden env (first + 1) x.value) (statement_burden env first (s.If e x o))
  then_part e x o =
      let n : count_of (s.If e x o) ≡ 1 + count_of x.value + counts (else_list o) = count_If e x o in
      record {
        own = λ r u. fault_If r env e x o ∙ left_true _ _ (right_true (operand_fault r env.names e.value) _ u);
        last = omega (arith, n);
        before = [];
        behind = blocks_among (else_list o);
        blocks = if_blocks e x o;
      }

  pub else_part : (mid : ℕ) (e : Box Expr Global) (x : Box Stmt Global) (o : Option (Box Stmt Global)) → mid ≡ first + 1 + count_of x.value → IsPart (statements_burden env mid (else_list o)) (statement_burden env first (s.If e x o))
  else_part mid e x o m =
      let n : count_of (s.If e x o) ≡ 1 + count_of x.value + counts (else_list o) = count_If e x o in
      record {
        own = λ r u. fault_If r env e x o ∙ right_true (operand_fault r env.names e.value || has_fault r env x.value) _ u;
        last = omega (arith, n, m);
        before = blocks_in x.value;
        behind = [];
        blocks = if_blocks e x o ∙ ap (λ z. blocks_in x.value ++ z) (sym (append-nil (blocks_among (else_list o))));
      }

  pub items_part : (mid : ℕ) (kind : CaseKind) (e : Box Expr Global) (v : Vec (CaseLabel × Stmt) Global) → mid ≡ first + 1 → IsPart (items_burden env mid v.items) (statement_burden env first (s.Case kind e v))
  items_part mid kind e v m =
      let n : count_of (s.Case kind e v) ≡ 1 + total (map item_count v.items) = count_Case kind e v in
      record {
        own = λ r u.
            fault_Case r env kind e v
            ∙ case_by (list_any (operand_fault r env.names) (exprs_in v.items)) (case_fault r env.names e.value (labels_of v.items)) (list_any (inner_fault r env) v.items) (labels_stand r env.names e.value v.items) (sym (items_parts r env v.items) ∙ u);
        last = omega (arith, n, m);
        before = [];
        behind = [];
        blocks = whole_blocks (blocks_in (s.Case kind e v)) (flat_map (λ (x : CaseLabel × Stmt). blocks_in x.1) v.items) (blocks_Case kind e v);
      }

  module _ (head : Box ForHeader Global) (x : Box Stmt Global) where
    for_count : count_of (s.For head x) ≡ 3 + count_of x.value
    for_count = count_For head x

    pub begin_part : IsPart (numbered_burden env first head.value.first.0 head.value.first.1) (statement_burden env first (s.For head x))
    begin_part =
        let n = for_count in
        record {
          own = λ r u. fault_For r env head x ∙ left_true _ _ (left_true _ _ (left_true _ (operand_fault r env.names head.value.condition) u));
          last = omega (arith, n);
          before = [];
          behind = blocks_in x.value;
          blocks = blocks_For head x;
        }

    pub turn_part : (mid : ℕ) → mid ≡ first + 1 → IsPart (statement_burden env (mid + 1) x.value) (statement_burden env first (s.For head x))
    turn_part mid h =
        let n = for_count in
        record {
          own = λ r u. fault_For r env head x ∙ right_true ((assign_fault r Procedural env.names (places head.value.first.0) head.value.first.1 || operand_fault r env.names head.value.condition) || assign_fault r Procedural env.names (places head.value.step.0) head.value.step.1) _ u;
          last = omega (arith, n, h);
          before = [];
          behind = [];
          blocks = whole_blocks _ _ (blocks_For head x);
        }

    pub step_part : (mid : ℕ) → mid ≡ first + 2 + count_of x.value → IsPart (numbered_burden env mid head.value.step.0 head.value.step.1) (statement_burden env first (s.For head x))
    step_part mid h =
        let n = for_count in
        record {
          own = λ r u. fault_For r env head x ∙ left_true _ _ (right_true (assign_fault r Procedural env.names (places head.value.first.0) head.value.first.1 || operand_fault r env.names head.value.condition) _ u);
          last = omega (arith, n, h);
          before = [];
          behind = blocks_in x.value;
          blocks = blocks_For head x;
        }

-- the parts of a list of lists: those before an element's, its own, and those behind
pub flat_parts : {A B : Type 0} (f : A → List B) (xs : List A) (i : ℕ) (x : A) → i < length xs → x ≡ get_or xs i x → (front : List B) × ((rest : List B) × (flat_map f xs ≡ front ++ (f x ++ rest)))
flat_parts f [] i x h k = absurd (omega arith)
flat_parts f (y ∷ ys) zero x h k = ([], (flat_map f ys, ap (λ z. f z ++ flat_map f ys) (sym k)))
flat_parts f (y ∷ ys) (suc i) x h k =
    let q = flat_parts f ys i x (omega arith) k in (f y ++ q.0, (q.1.0, ap (λ z. f y ++ z) q.1.1 ∙ sym (append_assoc (f y) q.0 (f x ++ q.1.0))))

-- what a pass over items keeps
pub record KeepsItems (envs : Path → Surroundings) (p : Path) (s : Shape) (first : ℕ) (xs : List (CaseLabel × Stmt)) (ys : List (Vec Typed Global × Statement)) (next : ℕ) : Type 0 where
  pub sound : (r : Reason) → list_any (item_fault (envs p) r) xs ≡ false
  pub free : AreFree envs p (flat_map (λ (x : CaseLabel × Stmt). blocks_in x.1) xs)
  pub means : MeansItems envs p s first xs ys next

-- what a pass over statements keeps
pub record Stated (envs : Path → Surroundings) (p : Path) (first : ℕ) (xs : List Stmt) (ys : List Statement) (next : ℕ) : Type 0 where
  pub sound : (r : Reason) → list_any (has_fault r (envs p)) xs ≡ false
  pub free : AreFree envs p (blocks_among xs)
  pub means : MeansStatements envs p first xs ys next
