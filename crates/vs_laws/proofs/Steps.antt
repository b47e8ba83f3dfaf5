-- Steps of processes whose texts say the same, and runs of such texts alone.
use Rattle.std.proofs.Common.{◌≡◌, ℕ, zero, suc, Bool, true, false, ◌||◌, cond, Option, Some, List, [], ◌∷◌, ◌++◌, refl, ap, ap₂, subst, ◌∙◌}
use Rattle.std.specs.Prelude.{find}
use Rattle.std.specs.List.{AllZip, list_any}
use Rattle.vs_syntax.specs.Same.{no_pair, pair_more, SameOption, both_absent, both_there}
use Rattle.vs_design.specs.vs_logic4.specs.declared.case.CaseKind.{CaseKind}
use Rattle.vs_design.specs.vs_logic4.specs.declared.digit.Digit.{Digit}
use Rattle.vs_design.specs.vs_logic4.specs.declared.digit.Digit.TheVariants.{Zero, One, X, Z}
use Rattle.vs_design.specs.vs_logic4.specs.Cases.{matches}
use Rattle.vs_design.specs.vs_logic4.specs.Comparisons.{truth}
use Rattle.vs_design.specs.vs_logic4.specs.Vectors.{resized}
use Rattle.vs_design.specs.declared.expression.Typed.{Typed}
use Rattle.vs_design.specs.declared.statement.Statement.{Statement}
use Rattle.vs_design.specs.declared.statement.Statement.TheOpen.{Statement-F}
use Rattle.vs_design.specs.declared.statement.Statement.TheViews.{out-Statement}
use Rattle.vs_design.specs.declared.statement.Target.{Target}
use Rattle.vs_design.specs.Stores.{Store}
use Rattle.vs_process.specs.vs_eval.specs.Targets.{assigned}
use Rattle.vs_process.specs.vs_eval.specs.Values.{target_value, value_of}
use Rattle.vs_process.specs.Places.{Item, perform, turns, Todo, flat}
use Rattle.vs_process.specs.Steps.{Next, on, after, wait, Out, assignment, branch, item_matches, is_default, first_of, flat_item, taken, turns_for, repeated, statement_step, step}
use Rattle.vs_process.specs.Threads.{store_after}
use Rattle.vs_elaborate.specs.Same.{SameTyped, SameSides}
use Rattle.vs_elaborate.proofs.PairLemmas.{pair_append}
use Rattle.vs_rules.specs.Blocks.{arrived, run_alone}
use Rattle.vs_laws.proofs.Alike.{Choice, Alike, alike, AlikeLayer, of_null, of_assign, of_later, of_call, of_finish, of_block, of_delay, of_event, of_if, of_case, of_while, of_repeat, of_forever, AlikeChoices, choices_end, choices_more}
use Rattle.vs_laws.proofs.Todos.{AlikeItem, performs, turning, AlikeTodo, AlikeNext, both_on, both_after, both_wait, flat_alike, in_front}

-- ---- assignments

pub value_same : (t t' : Target) (x x' : Typed) (store : Store) (time : ℕ) → SameSides t t' x x' → target_value t x store time ≡ target_value t' x' store time
value_same t t' x x' store time m = ap₂ (λ w ds. resized false w ds) m.target.width (m.source.value store time)

pub assignment_same : (t t' : Target) (x x' : Typed) (store : Store) (time : ℕ) → SameSides t t' x x' → assignment t x store time ≡ assignment t' x' store time
assignment_same t t' x x' store time m =
    m.target.write (target_value t x store time) store time ∙ ap (λ ds. assigned t' ds store time) (value_same t t' x x' store time m)

-- ---- tests

branch_alike : (digit : Digit) (a a' b b' : Todo) → AlikeTodo a a' → AlikeTodo b b' → AlikeTodo (branch digit a b) (branch digit a' b')
branch_alike One a a' b b' h k = h
branch_alike Zero a a' b b' h k = k
branch_alike X a a' b b' h k = k
branch_alike Z a a' b b' h k = k

-- what is done where a condition is true, and else
tested : (e e' : Typed) (store : Store) (time : ℕ) (a a' b b' : Todo) → SameTyped e e' → AlikeTodo a a' → AlikeTodo b b' →
    AlikeTodo (branch (truth (value_of e store time)) a b) (branch (truth (value_of e' store time)) a' b')
tested e e' store time a a' b b' i h k =
    subst (λ ds. AlikeTodo (branch (truth (value_of e store time)) a b) (branch (truth ds) a' b')) (i.value store time)
    (branch_alike (truth (value_of e store time)) a a' b b' h k)

-- ---- items of a `case`

abbrev AlikeChoice : Choice → Choice → Type 0
AlikeChoice x x' = AllZip SameTyped x.0.items x'.0.items × Alike x.1 x'.1

matches_same : (kind : CaseKind) (digits : List Digit) (store : Store) (time : ℕ) (es es' : List Typed) → AllZip SameTyped es es' →
    list_any (λ (e : Typed). matches kind digits (value_of e store time)) es ≡ list_any (λ (e : Typed). matches kind digits (value_of e store time)) es'
matches_same kind digits store time [] [] h = refl
matches_same kind digits store time [] (e' ∷ es') h = absurd h
matches_same kind digits store time (e ∷ es) [] h = absurd h
matches_same kind digits store time (e ∷ es) (e' ∷ es') h =
    ap₂ (λ a b. a || b) (ap (matches kind digits) (h.0.value store time)) (matches_same kind digits store time es es' h.1)

as_few : (es es' : List Typed) → AllZip SameTyped es es' → (x x' : Statement) (v v' : Choice) → v.0.items ≡ es → v'.0.items ≡ es' → is_default v ≡ is_default v'
as_few [] [] h x x' v v' p q = rw (p, q) refl
as_few [] (e' ∷ es') h x x' v v' p q = absurd h
as_few (e ∷ es) [] h x x' v v' p q = absurd h
as_few (e ∷ es) (e' ∷ es') h x x' v v' p q = rw (p, q) refl

picked : (b b' : Bool) (x x' : Choice) (o o' : Option Choice) → b ≡ b' → AlikeChoice x x' → SameOption AlikeChoice o o' → SameOption AlikeChoice (cond b (Some x) o) (cond b' (Some x') o')
picked true b' x x' o o' e h k = subst (λ z. SameOption AlikeChoice (Some x) (cond z (Some x') o')) e (both_there x x' h)
picked false b' x x' o o' e h k = subst (λ z. SameOption AlikeChoice o (cond z (Some x') o')) e k

module _ (test test' : Choice → Bool) (agree : (x x' : Choice) → AlikeChoice x x' → test x ≡ test' x') where
  found : (xs xs' : List Choice) → AlikeChoices xs xs' → SameOption AlikeChoice (find test xs) (find test' xs')
  found _ _ choices_end = both_absent
  found _ _ (choices_more x x' xs xs' h m r) = picked (test x) (test' x') x x' (find test xs) (find test' xs') (agree x x' (h, m)) (h, m) (found xs xs' r)

first_alike : (o o' p p' : Option Choice) → SameOption AlikeChoice o o' → SameOption AlikeChoice p p' → SameOption AlikeChoice (first_of o p) (first_of o' p')
first_alike _ _ p p' both_absent k = k
first_alike _ _ p p' (both_there x x' h) k = both_there x x' h

item_flat : (o o' : Option Choice) → SameOption AlikeChoice o o' → AlikeTodo (flat_item o) (flat_item o')
item_flat _ _ both_absent = no_pair
item_flat _ _ (both_there x x' h) = flat_alike x.1 x'.1 h.1

taken_alike : (kind : CaseKind) (e e' : Typed) (store : Store) (time : ℕ) (xs xs' : List Choice) → SameTyped e e' → AlikeChoices xs xs' →
    AlikeTodo (flat_item (taken kind (value_of e store time) store time xs)) (flat_item (taken kind (value_of e' store time) store time xs'))
taken_alike kind e e' store time xs xs' i h =
    subst (λ ds. AlikeTodo (flat_item (taken kind (value_of e store time) store time xs)) (flat_item (taken kind ds store time xs'))) (i.value store time)
    (item_flat _ _
    (first_alike _ _ _ _
    (found (item_matches kind (value_of e store time) store time) (item_matches kind (value_of e store time) store time)
    (λ x x' m. matches_same kind (value_of e store time) store time x.0.items x'.0.items m.0) xs xs' h)
    (found is_default is_default (λ x x' m. as_few x.0.items x'.0.items m.0 x.1 x'.1 x x' refl refl) xs xs' h)))

repeated_alike : (n : ℕ) (s s' : Statement) (rest rest' : Todo) → Alike s s' → AlikeTodo rest rest' → AlikeTodo (repeated n s rest) (repeated n s' rest')
repeated_alike zero s s' rest rest' m r = r
repeated_alike (suc n) s s' rest rest' m r = in_front s s' (turns n s ∷ rest) (turns n s' ∷ rest') m (pair_more (turns n s) (turns n s') rest rest' (turning n s s' m) r)

before : {a a' : Todo} (rest rest' : Todo) → AlikeTodo a a' → AlikeTodo rest rest' → AlikeTodo (a ++ rest) (a' ++ rest')
before {a} {a'} rest rest' h r = pair_append AlikeItem a a' rest rest' h r

-- ---- steps

-- two steps go to what says the same, and write the same
pub record StepAlike (o o' : Out) : Type 0 where
  pub next : AlikeNext o.next o'.next
  pub write : o.write ≡ o'.write

statement_steps : (s s' : Statement) (x x' : Statement-F Statement) → Alike s s' → AlikeLayer x x' → (rest rest' : Todo) → AlikeTodo rest rest' → (store : Store) (time : ℕ) →
    StepAlike (statement_step s x rest store time) (statement_step s' x' rest' store time)
statement_steps s s' _ _ m (of_null k) rest rest' r store time = record { next = both_on rest rest' r; write = refl }
statement_steps s s' _ _ m (of_assign k t t' x x' h) rest rest' r store time =
    record { next = both_on rest rest' r; write = ap Some (assignment_same t t' x x' store time h) }
statement_steps s s' _ _ m (of_later k n n' t t' x x' c h) rest rest' r store time = record { next = both_on rest rest' r; write = refl }
statement_steps s s' _ _ m (of_call k c c' h) rest rest' r store time = record { next = both_on rest rest' r; write = refl }
statement_steps s s' _ _ m (of_finish k) rest rest' r store time = record { next = both_on rest rest' r; write = refl }
statement_steps s s' _ _ m (of_block xs xs' h) rest rest' r store time = record { next = both_on _ _ (in_front s s' rest rest' m r); write = refl }
statement_steps s s' _ _ m (of_delay k n n' x x' c h) rest rest' r store time =
    record { next = subst (λ z. AlikeNext (after k n.count (flat x.value ++ rest)) (after k z (flat x'.value ++ rest'))) c (both_after k n.count _ _ (in_front x.value x'.value rest rest' h r)); write = refl }
statement_steps s s' _ _ m (of_event k ts ts' x x' c h) rest rest' r store time =
    record { next = subst (λ z. AlikeNext (wait k ts.items (flat x.value ++ rest)) (wait k z (flat x'.value ++ rest'))) c (both_wait k ts.items _ _ (in_front x.value x'.value rest rest' h r)); write = refl }
statement_steps s s' _ _ m (of_if k e e' x x' z z' i h j) rest rest' r store time =
    record { next = both_on _ _ (before rest rest' (tested e e' store time (flat x.value) (flat x'.value) (flat z.value) (flat z'.value) i (flat_alike x.value x'.value h) (flat_alike z.value z'.value j)) r); write = refl }
statement_steps s s' _ _ m (of_case k kind e e' xs xs' i h) rest rest' r store time =
    record { next = both_on _ _ (before rest rest' (taken_alike kind e e' store time xs.items xs'.items i h) r); write = refl }
statement_steps s s' _ _ m (of_while k e e' x x' i h) rest rest' r store time =
    record {
      next = both_on _ _ (tested e e' store time (flat x.value ++ perform s ∷ rest) (flat x'.value ++ perform s' ∷ rest') rest rest' i
          (in_front x.value x'.value (perform s ∷ rest) (perform s' ∷ rest') h (pair_more (perform s) (perform s') rest rest' (performs s s' m) r)) r);
      write = refl;
    }
statement_steps s s' _ _ m (of_repeat k signed e e' x x' i h) rest rest' r store time =
    record {
      next = subst (λ ds. AlikeNext (on (repeated (turns_for signed (value_of e store time)) x.value rest)) (on (repeated (turns_for signed ds) x'.value rest'))) (i.value store time)
          (both_on _ _ (repeated_alike (turns_for signed (value_of e store time)) x.value x'.value rest rest' h r));
      write = refl;
    }
statement_steps s s' _ _ m (of_forever k x x' h) rest rest' r store time =
    record { next = both_on _ _ (in_front x.value x'.value (perform s ∷ rest) (perform s' ∷ rest') h (pair_more (perform s) (perform s') rest rest' (performs s s' m) r)); write = refl }

item_steps : (i i' : Item) (rest rest' : Todo) → AlikeItem i i' → AlikeTodo rest rest' → (store : Store) (time : ℕ) → StepAlike (step (i ∷ rest) store time) (step (i' ∷ rest') store time)
item_steps _ _ rest rest' (performs _ _ (alike s s' l)) r store time = statement_steps s s' (out-Statement s) (out-Statement s') (alike s s' l) l rest rest' r store time
item_steps _ _ rest rest' (turning n s s' m) r store time = record { next = both_on _ _ (repeated_alike n s s' rest rest' m r); write = refl }

pub step_alike : (k k' : Todo) → AlikeTodo k k' → (store : Store) (time : ℕ) → StepAlike (step k store time) (step k' store time)
step_alike _ _ no_pair store time = record { next = both_on [] [] no_pair; write = refl }
step_alike _ _ (pair_more i i' rest rest' h r) store time = item_steps i i' rest rest' h r store time

-- ---- runs alone

arrives : (rest : Todo → Store → Option Store) → ((l l' : Todo) (new : Store) → AlikeTodo l l' → rest l new ≡ rest l' new) → (next next' : Next) (new : Store) → AlikeNext next next' →
    arrived next rest new ≡ arrived next' rest new
arrives rest same _ _ new (both_on l l' r) = same l l' new r
arrives rest same _ _ new (both_after number ticks l l' r) = refl
arrives rest same _ _ new (both_wait number terms l l' r) = refl

-- run from what says the same on one store, a process arrives with one store
pub run_same : (most : ℕ) (k k' : Todo) (store : Store) → AlikeTodo k k' → run_alone most k store ≡ run_alone most k' store
run_same zero k k' store h = refl
run_same (suc most) k k' store h =
    let s = step_alike k k' h store 0 in
    ap (λ w. arrived (step k store 0).next (run_alone most) (store_after store w)) s.write
    ∙ arrives (run_alone most) (λ l l' new r. run_same most l l' new r) (step k store 0).next (step k' store 0).next (store_after store (step k' store 0).write) s.next
