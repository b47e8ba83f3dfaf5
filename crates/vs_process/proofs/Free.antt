-- Steps of statements without timing control: the process stays active, in front of what else is to be done.
use Rattle.std.proofs.Common.{◌≡◌, ℕ, zero, suc, ◌++◌, Bool, false, Some, List, [], ◌∷◌, map, slice_get, refl, sym, ◌∙◌, ap, append_assoc}
use Rattle.std.specs.List.{list_any}
use Rattle.std.specs.declared.vec.Vec.{Vec}
use Rattle.std.specs.declared.alloc.Global.{Global}
use Rattle.std.proofs.lemmas.Bool.{or_from, or_parts, true≢false}
use Rattle.std.proofs.lemmas.List.Folds.{list_any-append}
use Rattle.vs_design.specs.vs_logic4.specs.Comparisons.{truth}
use Rattle.vs_design.specs.declared.expression.Typed.{Typed}
use Rattle.vs_design.specs.declared.statement.Statement.{Statement}
use Rattle.vs_design.specs.declared.statement.Statement.TheViews.{out-Statement}
use Rattle.vs_design.specs.declared.statement.Statement.TheOpen.{Statement-F}
use Rattle.vs_design.specs.declared.statement.Statement.TheFolds.{fold_out-Statement, map-Statement}
use Rattle.vs_design.specs.Statements.{has_control, has_control_step}
use Rattle.vs_design.specs.Stores.{Store}
use Rattle.vs_design.proofs.StatementLemmas.{control_Block}
use Rattle.vs_process.specs.vs_eval.specs.Values.{value_of}
use Rattle.vs_process.specs.Places.{Item, perform, turns, Todo, flat}
use Rattle.vs_process.specs.Steps.{Next, on, step, statement_step, flat_item, turns_for, repeated}
use Rattle.vs_process.specs.Drafts.{flat_all}
use Rattle.vs_process.proofs.ProcessLists.{none_at}
use Rattle.vs_process.proofs.WellFormed.{branch_each}
use Rattle.vs_process.proofs.ThreadsTodos.{flat_each, taken_each}

-- whether something that is to be done has a timing control
abbrev pub item_control : Item → Bool
item_control (perform s) = has_control s
item_control (turns n s) = has_control s

abbrev pub todo_control : Todo → Bool
todo_control todo = list_any item_control todo

pub both_free : (xs ys : Todo) → todo_control xs ≡ false → todo_control ys ≡ false → todo_control (xs ++ ys) ≡ false
both_free xs ys x y = list_any-append item_control xs ys ∙ or_from (todo_control xs) (todo_control ys) x y

pub one_free : (i : Item) → item_control i ≡ false → todo_control (i ∷ []) ≡ false
one_free i h = or_from (item_control i) false h refl

-- what is to be done for a statement without timing control has none
pub flat_free : (s : Statement) → has_control s ≡ false → todo_control (flat s) ≡ false
flat_free =
    flat_each (λ s todo. has_control s ≡ false → todo_control todo ≡ false) (λ s h. one_free (perform s) h)
    (λ v each h. row v.items (λ i s is. each i s is (none_at has_control v.items i s is (sym (control_Block v) ∙ h))))
  where
    row : (xs : List Statement) → ((i : ℕ) (s : Statement) → slice_get xs i ≡ Some s → todo_control (flat s) ≡ false) → todo_control (flat_all xs) ≡ false
    row [] h = refl
    row (x ∷ xs) h = both_free (flat x) (flat_all xs) (h 0 x refl) (row xs (λ i. h (suc i)))

-- a step leads on: to something without timing control, in front of the rest
pub record GoesOn (rest : Todo) (next : Next) : Type 0 where
  pub front : Todo
  pub free : todo_control front ≡ false
  pub is : next ≡ on (front ++ rest)

pub goes_to : (rest front whole : Todo) → todo_control front ≡ false → whole ≡ front ++ rest → GoesOn rest (on whole)
goes_to rest front whole free is = record { front = front; free = free; is = ap (λ t. on t) is }

repeated_on : (n : ℕ) (s : Statement) (rest : Todo) → has_control s ≡ false → GoesOn rest (on (repeated n s rest))
repeated_on zero s rest h = goes_to rest [] rest refl refl
repeated_on (suc n) s rest h =
    goes_to rest (flat s ++ turns n s ∷ []) (flat s ++ turns n s ∷ rest) (both_free (flat s) (turns n s ∷ []) (flat_free s h) (one_free (turns n s) h)) (sym (append_assoc (flat s) (turns n s ∷ []) rest))

items_free : (xs : List (Vec Typed Global × Statement)) → list_any (λ (i : Vec Typed Global × Bool). i.1) (map (λ (i : Vec Typed Global × Statement). (i.0, has_control i.1)) xs) ≡ false →
    (i : ℕ) (z : Vec Typed Global × Statement) → slice_get xs i ≡ Some z → has_control z.1 ≡ false
items_free [] h i z is = cc
items_free (y ∷ xs) h zero z is = let e : y ≡ z = cc in ap (λ (i : Vec Typed Global × Statement). has_control i.1) (sym e) ∙ (or_parts (has_control y.1) _ h).0
items_free (y ∷ xs) h (suc i) z is = items_free xs (or_parts (has_control y.1) _ h).1 i z is

statement_on : (s : Statement) (f : Statement-F Statement) (rest : Todo) (store : Store) (time : ℕ) →
    has_control s ≡ false → has_control_step (map-Statement Statement Bool has_control f) ≡ false → GoesOn rest (statement_step s f rest store time).next
statement_on s (Statement-F.Null n) rest store time whole h = goes_to rest [] rest refl refl
statement_on s (Statement-F.Assign n t e) rest store time whole h = goes_to rest [] rest refl refl
statement_on s (Statement-F.Later n ticks t e) rest store time whole h = goes_to rest [] rest refl refl
statement_on s (Statement-F.Call n c) rest store time whole h = goes_to rest [] rest refl refl
statement_on s (Statement-F.Finish n) rest store time whole h = goes_to rest [] rest refl refl
statement_on s (Statement-F.Block all) rest store time whole h = goes_to rest (flat s) (flat s ++ rest) (flat_free s whole) refl
statement_on s (Statement-F.Delay n ticks body) rest store time whole h = absurd (true≢false h)
statement_on s (Statement-F.Event n terms body) rest store time whole h = absurd (true≢false h)
statement_on s (Statement-F.If n e a b) rest store time whole h =
    let parts = or_parts (has_control a.value) (has_control b.value) h in
    branch_each (λ (t : Todo). GoesOn rest (on (t ++ rest))) (truth (value_of e store time)) (flat a.value) (flat b.value)
    (goes_to rest (flat a.value) (flat a.value ++ rest) (flat_free a.value parts.0) refl) (goes_to rest (flat b.value) (flat b.value ++ rest) (flat_free b.value parts.1) refl)
statement_on s (Statement-F.Case n kind x items) rest store time whole h =
    taken_each (λ o. GoesOn rest (on (flat_item o ++ rest))) kind (value_of x store time) store time items.items (λ none. goes_to rest [] rest refl refl)
    (λ i z is. goes_to rest (flat z.1) (flat z.1 ++ rest) (flat_free z.1 (items_free items.items h i z is)) refl)
statement_on s (Statement-F.While n e body) rest store time whole h =
    branch_each (λ (t : Todo). GoesOn rest (on t)) (truth (value_of e store time)) (flat body.value ++ perform s ∷ rest) rest
    (goes_to rest (flat body.value ++ perform s ∷ []) (flat body.value ++ perform s ∷ rest) (both_free (flat body.value) (perform s ∷ []) (flat_free body.value h) (one_free (perform s) whole))
    (sym (append_assoc (flat body.value) (perform s ∷ []) rest)))
    (goes_to rest [] rest refl refl)
statement_on s (Statement-F.Repeat n signed e body) rest store time whole h = repeated_on (turns_for signed (value_of e store time)) body.value rest h
statement_on s (Statement-F.Forever n body) rest store time whole h =
    goes_to rest (flat body.value ++ perform s ∷ []) (flat body.value ++ perform s ∷ rest) (both_free (flat body.value) (perform s ∷ []) (flat_free body.value h) (one_free (perform s) whole))
    (sym (append_assoc (flat body.value) (perform s ∷ []) rest))

pub item_on : (i : Item) (rest : Todo) (store : Store) (time : ℕ) → item_control i ≡ false → GoesOn rest (step (i ∷ rest) store time).next
item_on (perform s) rest store time h = statement_on s (out-Statement s) rest store time h (sym (fold_out-Statement Bool has_control_step s) ∙ h)
item_on (turns n s) rest store time h = repeated_on n s rest h
