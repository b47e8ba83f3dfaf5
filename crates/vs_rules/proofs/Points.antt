-- Each step of a process goes along a path of its text, and writes and updates what the statement at its point names.
use Rattle.std.proofs.Common.{◌≡◌, ℕ, zero, suc, ◌+◌, ◌%◌, ◌⊎◌, Bool, true, false, ◌++◌, Some, List, [], ◌∷◌, map, slice_get, refl, sym, ◌∙◌, ap, ap₂, subst, add_comm, inl, inr}
use Rattle.std.proofs.lemmas.Bool.{and_parts, cond_both, false≢true}
use Rattle.std.specs.declared.vec.Vec.{Vec}
use Rattle.std.specs.declared.alloc.Global.{Global}
use Rattle.std.proofs.lemmas.List.{map-append}
use Rattle.std.proofs.Math.Nat.{add-mod-mod}
use Rattle.std.specs.List.{list_any}
use Rattle.vs_design.specs.Stores.{Store}
use Rattle.vs_design.specs.Writes.{Write, names}
use Rattle.vs_process.specs.Places.{Todo, flat, perform, turns}
use Rattle.vs_process.specs.Steps.{Next, on, after, wait, step, assignment, statement_step, has_nothing, is_default, flat_item, taken, turns_for, repeated}
use Rattle.vs_process.specs.Drafts.{flat_all}
use Rattle.vs_process.specs.Threads.{todo_reads}
use Rattle.vs_process.proofs.WellFormed.{branch_each}
use Rattle.vs_process.proofs.ThreadsTodos.{flat_each, taken_each}
use Rattle.vs_design.specs.vs_logic4.specs.declared.case.CaseKind.{CaseKind}
use Rattle.vs_design.specs.vs_logic4.specs.declared.digit.Digit.{Digit}
use Rattle.vs_design.specs.vs_logic4.specs.Comparisons.{truth}
use Rattle.vs_design.specs.declared.expression.Typed.{Typed}
use Rattle.std.proofs.lemmas.Option.{none-some, same_Some}
use Rattle.vs_design.specs.declared.statement.Statement.{Statement}
use Rattle.vs_design.specs.declared.statement.Statement.TheOpen.{Statement-F}
use Rattle.vs_design.specs.declared.statement.Statement.TheViews.{out-Statement}
use Rattle.vs_process.proofs.Ranges.{assigned_names}
use Rattle.vs_process.proofs.Values.{value_unchanged}
use Rattle.vs_process.specs.vs_eval.specs.Values.{target_value, value_of}
use Rattle.vs_process.specs.Nexts.{erased_item, erased, erased_next, past, case_nexts, nexts, statement_nexts}
use Rattle.vs_design.specs.declared.range.BitRange.{BitRange}
use Rattle.vs_design.specs.Stores.{is_changed}
use Rattle.vs_design.specs.Uses.{reads}
use Rattle.vs_rules.specs.Points.{Among, first_alone, has_turn, nexts_by, statement_writes, statement_updates, surely_turns, todo_turns, Goes, WritesNow, WritesLater}
use Rattle.vs_rules.specs.Paths.{Path, PathBy, begins, goes}

-- ---- what is to be done, but for the turns that are left

erased_before : (xs ys : Todo) → erased (xs ++ ys) ≡ erased xs ++ erased ys
erased_before xs ys = map-append erased_item xs ys

-- a statement has no turns that are left
pub erased_flat : (s : Statement) → erased (flat s) ≡ flat s
erased_flat = flat_each (λ s todo. erased todo ≡ todo) (λ s. refl) (λ v each. row v.items each)
  where
    row : (xs : List Statement) → ((i : ℕ) (s : Statement) → slice_get xs i ≡ Some s → erased (flat s) ≡ flat s) → erased (flat_all xs) ≡ flat_all xs
    row [] h = refl
    row (x ∷ xs) h = erased_before (flat x) (flat_all xs) ∙ ap₂ (λ (a b : Todo). a ++ b) (h 0 x refl) (row xs (λ i. h (suc i)))

erased_first : (s : Statement) (rest : Todo) → erased (flat s ++ rest) ≡ flat s ++ erased rest
erased_first s rest = erased_before (flat s) rest ∙ ap (λ (t : Todo). t ++ erased rest) (erased_flat s)

-- it reads the same
pub erased_reads : (k : Todo) → todo_reads (erased k) ≡ todo_reads k
erased_reads [] = refl
erased_reads (perform s ∷ rest) = refl
erased_reads (turns n s ∷ rest) = refl

-- ---- steps and paths

-- a way on, by what is to be done there
among_on : (t l : Todo) (nexts : List Next) → t ≡ l → Among (on l) nexts → Among (on t) nexts
among_on t l nexts e h = subst (λ k. Among (on k) nexts) (sym e) h

pub among_left : (n : Next) (xs ys : List Next) → Among n xs → Among n (xs ++ ys)
among_left n _ ys (Among.first xs) = Among.first (xs ++ ys)
among_left n _ ys (Among.further y xs h) = Among.further y (xs ++ ys) (among_left n xs ys h)

among_right : (n : Next) (xs ys : List Next) → Among n ys → Among n (xs ++ ys)
among_right n [] ys h = h
among_right n (x ∷ xs) ys h = Among.further x (xs ++ ys) (among_right n xs ys h)

among_map : {A : Type 0} (f : A → Next) (xs : List A) (i : ℕ) (x : A) → slice_get xs i ≡ Some x → Among (f x) (map f xs)
among_map f [] i x is = absurd (none-some x is)
among_map f (y ∷ xs) zero x is = subst (λ z. Among (f z) (f y ∷ map f xs)) (same_Some y x is) (Among.first (map f xs))
among_map f (y ∷ xs) (suc i) x is = Among.further (f y) (map f xs) (among_map f xs i x is)

-- the item of a `case` that is taken
case_follows : (kind : CaseKind) (digits : List Digit) (store : Store) (time : ℕ) (items : List (Vec Typed Global × Statement)) (rest : Todo) →
    Among (on (erased (flat_item (taken kind digits store time items) ++ rest))) (case_nexts items (erased rest))
case_follows kind digits store time items rest =
    taken_each (λ o. Among (on (erased (flat_item o ++ rest))) (case_nexts items (erased rest))) kind digits store time items
    (λ none. among_right (on (erased rest)) (map way items) (past (list_any is_default items) (erased rest)) (subst (λ b. Among (on (erased rest)) (past b (erased rest))) (sym none) (Among.first [])))
    (λ i x is. among_on (erased (flat x.1 ++ rest)) (flat x.1 ++ erased rest) (case_nexts items (erased rest)) (erased_first x.1 rest)
    (among_left (way x) (map way items) (past (list_any is_default items) (erased rest)) (among_map way items i x is)))
  where
    way : Vec Typed Global × Statement → Next
    way i = on (flat i.1 ++ erased rest)

repeated_follows : (n : ℕ) (s : Statement) (rest : Todo) → Among (on (erased (repeated n s rest))) (on (flat s ++ turns 0 s ∷ erased rest) ∷ on (erased rest) ∷ [])
repeated_follows zero s rest = Among.further _ _ (Among.first [])
repeated_follows (suc n) s rest = among_on (erased (flat s ++ turns n s ∷ rest)) (flat s ++ turns 0 s ∷ erased rest) _ (erased_first s (turns n s ∷ rest)) (Among.first _)

-- where a step leads, a path of the text goes
statement_follows : (s : Statement) (f : Statement-F Statement) (rest : Todo) (store : Store) (time : ℕ) →
    Among (erased_next (statement_step s f rest store time).next) (statement_nexts s f (erased rest))
statement_follows s (Statement-F.Null m) rest store time = Among.first []
statement_follows s (Statement-F.Assign m t e) rest store time = Among.first []
statement_follows s (Statement-F.Later m ticks t e) rest store time = Among.first []
statement_follows s (Statement-F.Call m c) rest store time = Among.first []
statement_follows s (Statement-F.Finish m) rest store time = Among.first []
statement_follows s (Statement-F.Block all) rest store time = among_on (erased (flat s ++ rest)) (flat s ++ erased rest) _ (erased_first s rest) (Among.first [])
statement_follows s (Statement-F.Delay m ticks body) rest store time =
    subst (λ l. Among (after m ticks.count l) (after m ticks.count (flat body.value ++ erased rest) ∷ [])) (sym (erased_first body.value rest)) (Among.first [])
statement_follows s (Statement-F.Event m terms body) rest store time =
    subst (λ l. Among (wait m terms.items l) (wait m terms.items (flat body.value ++ erased rest) ∷ [])) (sym (erased_first body.value rest)) (Among.first [])
statement_follows s (Statement-F.If m e a b) rest store time =
    branch_each (λ (t : Todo). Among (on (erased (t ++ rest))) (on (flat a.value ++ erased rest) ∷ on (flat b.value ++ erased rest) ∷ [])) (truth (value_of e store time)) (flat a.value) (flat b.value)
    (among_on (erased (flat a.value ++ rest)) (flat a.value ++ erased rest) _ (erased_first a.value rest) (Among.first _))
    (among_on (erased (flat b.value ++ rest)) (flat b.value ++ erased rest) _ (erased_first b.value rest) (Among.further _ _ (Among.first [])))
statement_follows s (Statement-F.Case m kind x items) rest store time = case_follows kind (value_of x store time) store time items.items rest
statement_follows s (Statement-F.While m e body) rest store time =
    branch_each (λ (t : Todo). Among (on (erased t)) (on (flat body.value ++ perform s ∷ erased rest) ∷ on (erased rest) ∷ [])) (truth (value_of e store time)) (flat body.value ++ perform s ∷ rest) rest
    (among_on (erased (flat body.value ++ perform s ∷ rest)) (flat body.value ++ perform s ∷ erased rest) _ (erased_first body.value (perform s ∷ rest)) (Among.first _))
    (Among.further _ _ (Among.first []))
statement_follows s (Statement-F.Repeat m signed e body) rest store time = repeated_follows (turns_for signed (value_of e store time)) body.value rest
statement_follows s (Statement-F.Forever m body) rest store time =
    among_on (erased (flat body.value ++ perform s ∷ rest)) (flat body.value ++ perform s ∷ erased rest) _ (erased_first body.value (perform s ∷ rest)) (Among.first [])

pub step_follows : (k : Todo) (store : Store) (time : ℕ) → Goes (erased k) (erased_next (step k store time).next)
step_follows [] store time = Among.first []
step_follows (perform s ∷ rest) store time = statement_follows s (out-Statement s) rest store time
step_follows (turns n s ∷ rest) store time = repeated_follows n s rest

-- ---- turns that are sure

head_next : (x y : Next) (xs ys : List Next) → x ∷ xs ≡ y ∷ ys → x ≡ y
head_next x y xs ys e = cc e

tail_next : (x y : Next) (xs ys : List Next) → x ∷ xs ≡ y ∷ ys → xs ≡ ys
tail_next x y xs ys e = cc e

among_cases : (n : Next) (xs : List Next) → Among n xs → (y : Next) (ys : List Next) → xs ≡ y ∷ ys → (n ≡ y) ⊎ Among n ys
among_cases n _ (Among.first xs) y ys e = inl (head_next n y xs ys e)
among_cases n _ (Among.further x xs h) y ys e = inr (subst (Among n) (tail_next x y xs ys e) h)

among_none : (n : Next) (xs : List Next) → Among n xs → xs ≡ [] → ⊥
among_none n _ (Among.first xs) e = cc e
among_none n _ (Among.further x xs h) e = cc e

first_among : (n : Next) (xs : List Next) → Among n (first_alone xs) → Among n xs
first_among n [] h = h
first_among n (x ∷ xs) h = elim (among_cases n (x ∷ []) h x [] refl) [
  | inl same ↦ subst (λ (m : Next). Among m (x ∷ xs)) (sym same) (Among.first xs)
  | inr none ↦ absurd (among_none n [] none refl)
]

-- what is a way in one version is a way of the text
pub by_goes : (wide : Bool) (k : Todo) (next : Next) → Among next (nexts_by wide k) → Goes k next
by_goes false k next h = h
by_goes true k next h =
    cond_both (todo_turns k) (first_alone (nexts k)) (nexts k) (λ (ns : List Next). Among next ns → Goes k next) (λ sure. first_among next (nexts k)) (λ any g. g) h

-- so is a path
pub by_path : (wide : Bool) (ok : Next → Bool) (from k : Todo) → PathBy (nexts_by wide) ok from k → Path ok from k
by_path wide ok from k begins = begins
by_path wide ok from k (goes j l next path g may is) = goes j l next (by_path wide ok from j path) (by_goes wide j next g) may is

unread : (rs : List BitRange) (store : Store) → has_nothing rs ≡ true → list_any (is_changed store []) rs ≡ false
unread [] store h = refl
unread (r ∷ rs) store h = absurd (false≢true h)

-- there is a turn, whatever the store
sure_turns : (signed : Bool) (e : Typed) (store : Store) (time : ℕ) → has_nothing (reads e) ≡ true → has_turn (turns_for signed (value_of e [] 0)) ≡ true → has_turn (turns_for signed (value_of e store time)) ≡ true
sure_turns signed e store time none h = ap (λ ds. has_turn (turns_for signed ds)) (value_unchanged store [] time 0 e (unread (reads e) store none)) ∙ h

sure_repeated : (n : ℕ) (s : Statement) (rest : Todo) → has_turn n ≡ true → Among (on (erased (repeated n s rest))) (on (flat s ++ turns 0 s ∷ erased rest) ∷ [])
sure_repeated zero s rest h = absurd (false≢true h)
sure_repeated (suc n) s rest h = among_on (erased (flat s ++ turns n s ∷ rest)) (flat s ++ turns 0 s ∷ erased rest) _ (erased_first s (turns n s ∷ rest)) (Among.first [])

statement_turns : (s : Statement) (f : Statement-F Statement) (rest : Todo) (store : Store) (time : ℕ) → surely_turns f ≡ true →
    Among (erased_next (statement_step s f rest store time).next) (first_alone (statement_nexts s f (erased rest)))
statement_turns s (Statement-F.Repeat m signed e body) rest store time sure =
    let parts = and_parts (has_nothing (reads e)) (has_turn (turns_for signed (value_of e [] 0))) sure in
    sure_repeated (turns_for signed (value_of e store time)) body.value rest (sure_turns signed e store time parts.0 parts.1)
statement_turns s _ rest store time sure = absurd (false≢true sure)

todo_step_turns : (k : Todo) (store : Store) (time : ℕ) → todo_turns (erased k) ≡ true → Among (erased_next (step k store time).next) (first_alone (nexts (erased k)))
todo_step_turns [] store time sure = absurd (false≢true sure)
todo_step_turns (perform s ∷ rest) store time sure = statement_turns s (out-Statement s) rest store time sure
todo_step_turns (turns n s ∷ rest) store time sure = absurd (false≢true sure)

-- where a step leads, a path of each version goes
pub step_goes : (wide : Bool) (k : Todo) (store : Store) (time : ℕ) → Among (erased_next (step k store time).next) (nexts_by wide (erased k))
step_goes false k store time = step_follows k store time
step_goes true k store time =
    cond_both (todo_turns (erased k)) (first_alone (nexts (erased k))) (nexts (erased k)) (Among (erased_next (step k store time).next))
    (λ sure. todo_step_turns k store time sure) (λ any. step_follows k store time)

-- and what it writes, the text names
statement_write_follows : (s : Statement) (f : Statement-F Statement) (rest : Todo) (store : Store) (time : ℕ) (w : Write) (v : ℕ) →
    (statement_step s f rest store time).write ≡ Some w → names w v ≡ true → statement_writes f v ≡ true
statement_write_follows s (Statement-F.Null m) rest store time w v h n = absurd (none-some _ h)
statement_write_follows s (Statement-F.Assign m t e) rest store time w v h n =
    sym (assigned_names t (target_value t e store time) store time v) ∙ ap (λ x. names x v) (same_Some (assignment t e store time) w h) ∙ n
statement_write_follows s (Statement-F.Later m ticks t e) rest store time w v h n = absurd (none-some _ h)
statement_write_follows s (Statement-F.Call m c) rest store time w v h n = absurd (none-some _ h)
statement_write_follows s (Statement-F.Finish m) rest store time w v h n = absurd (none-some _ h)
statement_write_follows s (Statement-F.Block all) rest store time w v h n = absurd (none-some _ h)
statement_write_follows s (Statement-F.Delay m ticks body) rest store time w v h n = absurd (none-some _ h)
statement_write_follows s (Statement-F.Event m terms body) rest store time w v h n = absurd (none-some _ h)
statement_write_follows s (Statement-F.If m e a b) rest store time w v h n = absurd (none-some _ h)
statement_write_follows s (Statement-F.Case m kind x items) rest store time w v h n = absurd (none-some _ h)
statement_write_follows s (Statement-F.While m e body) rest store time w v h n = absurd (none-some _ h)
statement_write_follows s (Statement-F.Repeat m signed e body) rest store time w v h n = absurd (none-some _ h)
statement_write_follows s (Statement-F.Forever m body) rest store time w v h n = absurd (none-some _ h)

pub write_follows : (k : Todo) (store : Store) (time : ℕ) (w : Write) (v : ℕ) → (step k store time).write ≡ Some w → names w v ≡ true → WritesNow (erased k) v
write_follows [] store time w v h n = absurd (none-some _ h)
write_follows (perform s ∷ rest) store time w v h n = statement_write_follows s (out-Statement s) rest store time w v h n
write_follows (turns m s ∷ rest) store time w v h n = absurd (none-some _ h)

statement_update_follows : (s : Statement) (f : Statement-F Statement) (rest : Todo) (store : Store) (time : ℕ) (u : ℕ × Write) (v : ℕ) →
    (statement_step s f rest store time).update ≡ Some u → names u.1 v ≡ true → statement_updates f v ≡ true
statement_update_follows s (Statement-F.Null m) rest store time u v h n = absurd (none-some _ h)
statement_update_follows s (Statement-F.Assign m t e) rest store time u v h n = absurd (none-some _ h)
statement_update_follows s (Statement-F.Call m c) rest store time u v h n = absurd (none-some _ h)
statement_update_follows s (Statement-F.Finish m) rest store time u v h n = absurd (none-some _ h)
statement_update_follows s (Statement-F.Later m ticks t e) rest store time u v h n =
    sym (assigned_names t (target_value t e store time) store time v) ∙ ap (λ (x : ℕ × Write). names x.1 v) (same_Some (ticks.count, assignment t e store time) u h) ∙ n
statement_update_follows s (Statement-F.Block all) rest store time u v h n = absurd (none-some _ h)
statement_update_follows s (Statement-F.Delay m ticks body) rest store time u v h n = absurd (none-some _ h)
statement_update_follows s (Statement-F.Event m terms body) rest store time u v h n = absurd (none-some _ h)
statement_update_follows s (Statement-F.If m e a b) rest store time u v h n = absurd (none-some _ h)
statement_update_follows s (Statement-F.Case m kind x items) rest store time u v h n = absurd (none-some _ h)
statement_update_follows s (Statement-F.While m e body) rest store time u v h n = absurd (none-some _ h)
statement_update_follows s (Statement-F.Repeat m signed e body) rest store time u v h n = absurd (none-some _ h)
statement_update_follows s (Statement-F.Forever m body) rest store time u v h n = absurd (none-some _ h)

pub update_follows : (k : Todo) (store : Store) (time : ℕ) (u : ℕ × Write) (v : ℕ) → (step k store time).update ≡ Some u → names u.1 v ≡ true → WritesLater (erased k) v
update_follows [] store time u v h n = absurd (none-some _ h)
update_follows (perform s ∷ rest) store time u v h n = statement_update_follows s (out-Statement s) rest store time u v h n
update_follows (turns m s ∷ rest) store time u v h n = absurd (none-some _ h)

-- a sum modulo a number
pub mod_sum : (a b m : ℕ) → (a % m + b) % m ≡ (a + b) % m
mod_sum a b m = ap (λ n. n % m) (add_comm (a % m) b) ∙ add-mod-mod b a m ∙ ap (λ n. n % m) (add_comm b a)
