-- The points of a combinational block, and the one at which it waits.
use Rattle.std.proofs.Common.{◌≡◌, ℕ, ◌++◌, not, Bool, true, false, List, [], ◌∷◌, map, refl, sym, ◌∙◌, ap, subst, append_assoc}
use Rattle.std.specs.List.{list_any}
use Rattle.std.specs.declared.vec.Vec.{Vec}
use Rattle.std.specs.declared.alloc.Global.{Global}
use Rattle.std.specs.declared.boxed.Box.{Box}
use Rattle.std.proofs.lemmas.Bool.{and_parts, or_parts, not-true, false≢true, true≢false}
use Rattle.vs_design.specs.declared.design.Process.{Process}
use Rattle.vs_design.specs.declared.expression.Typed.{Typed}
use Rattle.vs_design.specs.declared.statement.EventTerm.{EventTerm}
use Rattle.vs_design.specs.declared.statement.Statement.{Statement}
use Rattle.vs_design.specs.declared.statement.Statement.TheFolds.{fold_out-Statement, map-Statement}
use Rattle.vs_design.specs.declared.statement.Statement.TheOpen.{Statement-F}
use Rattle.vs_design.specs.declared.statement.Statement.TheViews.{out-Statement}
use Rattle.vs_design.specs.Statements.{has_control, has_control_step}
use Rattle.vs_design.specs.Stores.{Store}
use Rattle.vs_rules.specs.vs_process.specs.Drafts.{is_block}
use Rattle.vs_rules.specs.vs_process.specs.Nexts.{past, nexts, statement_nexts}
use Rattle.vs_rules.specs.vs_process.specs.Changes.{store_after}
use Rattle.vs_rules.specs.vs_process.specs.Places.{Item, perform, turns, Todo, flat}
use Rattle.vs_rules.specs.vs_process.specs.Steps.{Next, Out, on, after, wait, goes, is_default, statement_step, step}
use Rattle.vs_rules.specs.vs_process.proofs.Shapes.{flat-single}
use Rattle.vs_rules.specs.vs_process.specs.Executions.{is_always, is_block_body, is_combinational, waits_for_levels}
use Rattle.vs_rules.specs.vs_process.proofs.Free.{GoesOn, item_control, todo_control, both_free, flat_free, one_free, goes_to}
use Rattle.vs_rules.specs.Points.{Among, first, further, Goes, Point, first_todo}
use Rattle.vs_rules.specs.Points as r
use Rattle.vs_rules_of_starts.specs.Alone.{arrival, arrived_if}
use Rattle.vs_rules_of_starts.proofs.AloneLemmas.{by_step}

-- ---- the ways from what has no timing control

abbrev AllBy : (Next → Type 0) → List Next → Type 0
AllBy P [] = Unit {0}
AllBy P (x ∷ xs) = P x × AllBy P xs

one_of : (P : Next → Type 0) (n : Next) (xs : List Next) → AllBy P xs → Among n xs → P n
one_of P n _ all (first xs) = all.0
one_of P n _ all (further y xs h) = one_of P n xs all.1 h

all_append : (P : Next → Type 0) (xs ys : List Next) → AllBy P xs → AllBy P ys → AllBy P (xs ++ ys)
all_append P [] ys hx hy = hy
all_append P (x ∷ xs) ys hx hy = (hx.0, all_append P xs ys hx.1 hy)

-- to a statement, then to something else, and on
then_item : (s : Statement) (i : Item) (rest : Todo) → has_control s ≡ false → item_control i ≡ false → GoesOn rest (on (flat s ++ i ∷ rest))
then_item s i rest h g =
    goes_to rest (flat s ++ i ∷ []) (flat s ++ i ∷ rest) (both_free (flat s) (i ∷ []) (flat_free s h) (one_free i g)) (sym (append_assoc (flat s) (i ∷ []) rest))

to_statement : (s : Statement) (rest : Todo) → has_control s ≡ false → GoesOn rest (on (flat s ++ rest))
to_statement s rest h = goes_to rest (flat s) (flat s ++ rest) (flat_free s h) refl

straight_on : (rest : Todo) → GoesOn rest (on rest)
straight_on rest = goes_to rest [] rest refl refl

items_free : (items : List (Vec Typed Global × Statement)) (rest : Todo) →
    list_any (λ (i : Vec Typed Global × Bool). i.1) (map (λ (i : Vec Typed Global × Statement). (i.0, has_control i.1)) items) ≡ false →
    AllBy (GoesOn rest) (map (λ (i : Vec Typed Global × Statement). on (flat i.1 ++ rest)) items)
items_free [] rest h = tt
items_free (i ∷ items) rest h = let parts = or_parts (has_control i.1) _ h in (to_statement i.1 rest parts.0, items_free items rest parts.1)

past_free : (b : Bool) (rest : Todo) → AllBy (GoesOn rest) (past b rest)
past_free true rest = tt
past_free false rest = (straight_on rest, tt)

statement_free : (s : Statement) (f : Statement-F Statement) (rest : Todo) → has_control s ≡ false → has_control_step (map-Statement Statement Bool has_control f) ≡ false →
    AllBy (GoesOn rest) (statement_nexts s f rest)
statement_free s (Statement-F.Null n) rest whole h = (straight_on rest, tt)
statement_free s (Statement-F.Assign n t e) rest whole h = (straight_on rest, tt)
statement_free s (Statement-F.Later n ticks t e) rest whole h = (straight_on rest, tt)
statement_free s (Statement-F.Call n c) rest whole h = (straight_on rest, tt)
statement_free s (Statement-F.Finish n) rest whole h = (straight_on rest, tt)
statement_free s (Statement-F.Block all) rest whole h = (to_statement s rest whole, tt)
statement_free s (Statement-F.Delay n ticks body) rest whole h = absurd (true≢false h)
statement_free s (Statement-F.Event n terms body) rest whole h = absurd (true≢false h)
statement_free s (Statement-F.If n e a b) rest whole h =
    let parts = or_parts (has_control a.value) (has_control b.value) h in (to_statement a.value rest parts.0, (to_statement b.value rest parts.1, tt))
statement_free s (Statement-F.Case n kind x items) rest whole h =
    all_append (GoesOn rest) (map (λ (i : Vec Typed Global × Statement). on (flat i.1 ++ rest)) items.items) (past (list_any is_default items.items) rest)
    (items_free items.items rest h) (past_free (list_any is_default items.items) rest)
statement_free s (Statement-F.While n e body) rest whole h = (then_item body.value (perform s) rest h whole, (straight_on rest, tt))
statement_free s (Statement-F.Repeat n signed e body) rest whole h = (then_item body.value (turns 0 body.value) rest h h, (straight_on rest, tt))
statement_free s (Statement-F.Forever n body) rest whole h = (then_item body.value (perform s) rest h whole, tt)

next_free : (i : Item) (rest : Todo) (n : Next) → item_control i ≡ false → Goes (i ∷ rest) n → GoesOn rest n
next_free (perform s) rest n h g =
    one_of (GoesOn rest) n (statement_nexts s (out-Statement s) rest) (statement_free s (out-Statement s) rest h (sym (fold_out-Statement Bool has_control_step s) ∙ h)) g
next_free (turns m s) rest n h g = one_of (GoesOn rest) n (nexts (turns m s ∷ rest)) (then_item s (turns 0 s) rest h h, (straight_on rest, tt)) g

-- ---- the text of a combinational block

pub record IsLoop (body : Statement) : Type 0 where
  pub number : ℕ
  pub loop : Box Statement Global
  pub control : ℕ
  pub terms : Vec EventTerm Global
  pub inner : Box Statement Global
  pub is : out-Statement body ≡ Statement-F.Forever number loop
  pub waits : out-Statement loop.value ≡ Statement-F.Event control terms inner
  pub calm : has_control inner.value ≡ false

of_event : (body : Statement) (number : ℕ) (loop : Box Statement Global) → out-Statement body ≡ Statement-F.Forever number loop → (f : Statement-F Statement) → out-Statement loop.value ≡ f → waits_for_levels f ≡ true → IsLoop body
of_event body number loop is (Statement-F.Event control terms inner) e h = record {
  number = number;
  loop = loop;
  control = control;
  terms = terms;
  inner = inner;
  is = is;
  waits = e;
  calm = not-true (has_control inner.value) (and_parts _ (not (has_control inner.value)) h).1;
}
of_event body number loop is _ e h = absurd (false≢true h)

of_body : (body : Statement) (f : Statement-F Statement) → out-Statement body ≡ f → is_block_body f ≡ true → IsLoop body
of_body body (Statement-F.Forever number loop) e h = of_event body number loop e (out-Statement loop.value) refl h
of_body body _ e h = absurd (false≢true h)

pub loop_of : (p : Process) → is_combinational p ≡ true → IsLoop p.body
loop_of p h = of_body p.body (out-Statement p.body) refl (and_parts (is_always p.kind) (is_block_body (out-Statement p.body)) h).1

-- what is to be done after its control
abbrev pub todo_after_control : (body : Statement) → IsLoop body → Todo
todo_after_control body b = flat b.inner.value ++ perform body ∷ []

whole_is : (body : Statement) (b : IsLoop body) → flat body ≡ perform body ∷ []
whole_is body b = flat-single body (ap is_block b.is)

event_is : (body : Statement) (b : IsLoop body) → flat b.loop.value ≡ perform b.loop.value ∷ []
event_is body b = flat-single b.loop.value (ap is_block b.waits)

-- ---- its points

-- it does its whole statement again after something without timing control; or waits; or is at the end
data Stage (body : Statement) (b : IsLoop body) (k : Todo) : Type 0 where
  within : (front : Todo) → todo_control front ≡ false → k ≡ front ++ perform body ∷ [] → Stage body b k
  before : k ≡ perform b.loop.value ∷ perform body ∷ [] → Stage body b k
  gone : k ≡ [] → Stage body b k

-- the ways from a point
data Way (body : Statement) (b : IsLoop body) (n : Next) : Type 0 where
  stays : (l : Todo) → n ≡ on l → Stage body b l → Way body b n
  waiting : n ≡ wait b.control b.terms.items (todo_after_control body b) → Way body b n

whole_way : (body : Statement) (b : IsLoop body) (n : Next) → Goes (perform body ∷ []) n → Way body b n
whole_way body b n g =
    one_of (Way body b) n (statement_nexts body (out-Statement body) [])
    (subst (λ (f : Statement-F Statement). AllBy (Way body b) (statement_nexts body f [])) (sym b.is)
    (stays (flat b.loop.value ++ perform body ∷ []) refl (before (ap (λ (t : Todo). t ++ perform body ∷ []) (event_is body b))), tt)) g

event_way : (body : Statement) (b : IsLoop body) (n : Next) → Goes (perform b.loop.value ∷ perform body ∷ []) n → Way body b n
event_way body b n g =
    one_of (Way body b) n (statement_nexts b.loop.value (out-Statement b.loop.value) (perform body ∷ []))
    (subst (λ (f : Statement-F Statement). AllBy (Way body b) (statement_nexts b.loop.value f (perform body ∷ []))) (sym b.waits) (waiting refl, tt)) g

way : (body : Statement) (b : IsLoop body) (k : Todo) (n : Next) → Stage body b k → Goes k n → Way body b n
way body b k n (gone is) g = one_of (Way body b) n (nexts []) (stays [] refl (gone refl), tt) (subst (λ (x : Todo). Goes x n) is g)
way body b k n (before is) g = event_way body b n (subst (λ (x : Todo). Goes x n) is g)
way body b k n (within [] free is) g = whole_way body b n (subst (λ (x : Todo). Goes x n) is g)
way body b k n (within (i ∷ front) free is) g =
    let parts = or_parts (item_control i) (todo_control front) free in
    let go = next_free i (front ++ perform body ∷ []) n parts.0 (subst (λ (x : Todo). Goes x n) is g) in
    stays ((go.front ++ front) ++ perform body ∷ []) (go.is ∙ ap (λ t. on t) (sym (append_assoc go.front front (perform body ∷ []))))
    (within (go.front ++ front) (both_free go.front front go.free parts.1) refl)

-- after a way on
on_stage : (body : Statement) (b : IsLoop body) (l : Todo) → Way body b (on l) → Stage body b l
on_stage body b l (stays m is s) = let e : m ≡ l = cc in subst (Stage body b) e s
on_stage body b l (waiting is) = cc

never_delays : (body : Statement) (b : IsLoop body) (number ticks : ℕ) (l : Todo) → Way body b (after number ticks l) → ⊥
never_delays body b number ticks l (stays m is s) = cc
never_delays body b number ticks l (waiting is) = cc

-- after a wait
wait_behind : (body : Statement) (b : IsLoop body) (number : ℕ) (terms : List EventTerm) (l : Todo) → Way body b (wait number terms l) → l ≡ todo_after_control body b
wait_behind body b number terms l (stays m is s) = cc
wait_behind body b number terms l (waiting is) = cc

-- without its first item
skip : (body : Statement) (b : IsLoop body) (i : Item) (rest : Todo) → Stage body b (i ∷ rest) → Stage body b rest
skip body b i rest (gone is) = cc
skip body b i rest (before is) = within [] refl (let e : rest ≡ perform body ∷ [] = cc in e)
skip body b i rest (within [] free is) = gone (let e : rest ≡ [] = cc in e)
skip body b i rest (within (j ∷ front) free is) = within front (or_parts (item_control j) (todo_control front) free).1 (let e : rest ≡ front ++ perform body ∷ [] = cc in e)

stage : (body : Statement) (b : IsLoop body) (k : Todo) → Point (flat body) k → Stage body b k
stage body b _ r.Point.begins = within [] refl (whole_is body b)
stage body b _ (r.Point.goes_on k l p g) = on_stage body b l (way body b k (on l) (stage body b k p) g)
stage body b _ (r.Point.waits k l number ticks p g) = absurd (never_delays body b number ticks l (way body b k (after number ticks l) (stage body b k p) g))
stage body b _ (r.Point.listens k l number terms p g) =
    let e = wait_behind body b number terms l (way body b k (wait number terms l) (stage body b k p) g) in
    within (flat b.inner.value) (flat_free b.inner.value b.calm) e
stage body b _ (r.Point.skips i rest p) = skip body b i rest (stage body b (i ∷ rest) p)

-- a control of the block leads to what comes after it
pub waits_once : (body : Statement) (b : IsLoop body) (k l : Todo) (number : ℕ) (terms : List EventTerm) → Point (flat body) k → Goes k (wait number terms l) → l ≡ todo_after_control body b
waits_once body b k l number terms p g = wait_behind body b number terms l (way body b k (wait number terms l) (stage body b k p) g)

-- and there is one
pub record Waits (body : Statement) (b : IsLoop body) : Type 0 where
  pub at : Todo
  pub point : Point (flat body) at
  pub goes : Goes at (wait b.control b.terms.items (todo_after_control body b))

pub waits_there : (body : Statement) (b : IsLoop body) → Waits body b
waits_there body b = record {
  at = perform b.loop.value ∷ perform body ∷ [];
  point = subst (Point (flat body)) (ap (λ (t : Todo). t ++ perform body ∷ []) (event_is body b))
      (r.Point.goes_on (perform body ∷ []) (flat b.loop.value ++ perform body ∷ []) (subst (Point (flat body)) (whole_is body b) r.Point.begins)
      (subst (λ (f : Statement-F Statement). Among (on (flat b.loop.value ++ perform body ∷ [])) (statement_nexts body f [])) (sym b.is) (first [])));
  goes = subst (λ (f : Statement-F Statement). Among (wait b.control b.terms.items (todo_after_control body b)) (statement_nexts b.loop.value f (perform body ∷ []))) (sym b.waits) (first []);
}

-- ---- its first two steps

-- in two steps it is at its control, the store as it was
pub comes_in_two : (body : Statement) (b : IsLoop body) (store : Store) → arrival 2 (flat body) store ≡ arrived_if true (todo_after_control body b) store
comes_in_two body b store =
    ap (λ (k : Todo). arrival 2 k store) (whole_is body b)
    ∙ by_step 1 (perform body ∷ []) store (on (flat b.loop.value ++ perform body ∷ [])) store (ap (λ (o : Out). o.next) first_step) (sym (ap (λ (o : Out). store_after store o.write) first_step))
    ∙ ap (λ (t : Todo). arrival 1 (t ++ perform body ∷ []) store) (event_is body b)
    ∙ by_step 0 (perform b.loop.value ∷ perform body ∷ []) store (wait b.control b.terms.items (todo_after_control body b)) store (ap (λ (o : Out). o.next) second_step) (sym (ap (λ (o : Out). store_after store o.write) second_step))
  where
    first_step : step (perform body ∷ []) store 0 ≡ goes (on (flat b.loop.value ++ perform body ∷ []))
    first_step = ap (λ (f : Statement-F Statement). statement_step body f [] store 0) b.is

    second_step : step (perform b.loop.value ∷ perform body ∷ []) store 0 ≡ goes (wait b.control b.terms.items (todo_after_control body b))
    second_step = ap (λ (f : Statement-F Statement). statement_step b.loop.value f (perform body ∷ []) store 0) b.waits
