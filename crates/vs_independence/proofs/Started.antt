-- A block with a starter is woken in the first slot.
use Rattle.std.proofs.Common.{ap, subst, inl, inr, Bool, List, None, Option, Some, [], arith, false, get_or, if◌then◌else◌, map, option_map, refl, replicate, slice_get, suc, sym, true, zero, ℕ, ◌++◌, ◌+◌, ◌<◌, ◌∙◌, ◌∷◌, ◌≡◌, ◌⊎◌}
use Rattle.std.proofs.lemmas.Bool.{false≢true, cases_Bool, false_from_ne_true, true≢false}
use Rattle.std.proofs.lemmas.Option.{none-some, same_Some}
use Rattle.vs_design.specs.vs_logic4.proofs.Basics.{none_in}
use Rattle.vs_independence.proofs.Apart.{alone_later}
use Rattle.vs_independence.proofs.Beginning.{IsBeginning, slot0_point, start_begins, start_first, start_stands}
use Rattle.vs_independence.proofs.Cones.{writer_alone, is_block, out_writes}
use Rattle.vs_independence.proofs.Copied.{copies_cone, copies_start, copy_bit, shows}
use Rattle.vs_independence.proofs.RulesFire.{Begun, closed, seq_found, zero_less}
use Rattle.vs_independence.proofs.Firing.{one_writer}
use Rattle.vs_independence.proofs.Follow.{control_covers}
use Rattle.vs_independence.proofs.Gave.{assignment_gives, gives_names}
use Rattle.vs_independence.proofs.Shapes.{Shape}
use Rattle.vs_rules.proofs.Texts.{writes_now}
use Rattle.vs_independence.proofs.Threads.{makes_walks, writes_walks}
use Rattle.vs_independence.proofs.Variables.{writes_variable}
use Rattle.vs_independence.proofs.Walks.{At, Here, Made, IsAtPlace, Wrote, at_later, at_zero, late_behind, late_on, walked_iterate}
use Rattle.vs_independence.proofs.Words.{step_later}
use Rattle.vs_rules.specs.Blocks.{Begins, CopiesWhole, IsStarted, MayStart, Missing, NamesBit, itself, statement_update, todo_update}
use Rattle.vs_rules.specs.Claims.{Claims, HasKind, IsSecond, IsSequential, IsWriter, blocks_of, claim_of, is_block_kind, is_wide}
use Rattle.vs_rules.specs.Constants.{GivesDigit, IsKnown}
use Rattle.vs_independence.specs.RuleLaws.{ClockTurns}
use Rattle.vs_rules.specs.Paths.{Bit, IsBit, IsLate, IsPrologue, IsSlot0, ListsSignal, WritesNow, begins, goes, is_plain, is_zero_time, statement_now}
use Rattle.vs_rules.specs.Rules.{BlockNeeds}
use Rattle.vs_rules.specs.Verdict.{Keeping}
use Rattle.vs_design.specs.Parts.{Parts}
use Rattle.vs_design.specs.Stores.{Store, put, start_store, word_in}
use Rattle.vs_design.specs.Uses.{covers}
use Rattle.vs_design.specs.WellFormed.{WellFormed}
use Rattle.vs_design.specs.Writes.{Write, names}
use Rattle.vs_design.specs.declared.expression.Typed.{Typed}
use Rattle.vs_design.specs.declared.statement.Statement.{Statement}
use Rattle.vs_design.specs.declared.statement.Statement.TheOpen.{Statement-F}
use Rattle.vs_design.specs.declared.statement.Statement.TheViews.{out-Statement}
use Rattle.vs_design.specs.declared.statement.Target.{Target}
use Rattle.vs_independence.specs.vs_process.specs.vs_eval.specs.Laws.{digit_in, digit_of}
use Rattle.vs_process.specs.Nexts.{erased, erased_next}
use Rattle.vs_process.specs.Places.{Place, Todo, active_at, ended, going, inactive, is_going, is_inactive, perform, sleeping, stepped_gait, todo_of, turns, waiting}
use Rattle.vs_process.specs.Steps.{Next, after, assignment, statement_step, step, wait, on}
use Rattle.vs_process.specs.declared.gait.Gait.{Gait}
use Rattle.vs_process.specs.declared.gait.Gait.TheVariants.{Woken}
use Rattle.vs_rules.specs.vs_process.specs.BlockDrivers.{StartsMoved, put_active, puts_out}
use Rattle.vs_rules.specs.vs_process.specs.Threads.{Fired, IsThread, MayOpen, Thread, iterate, opening, turn, turn_at, writes}
use Rattle.vs_design.specs.vs_logic4.specs.declared.digit.Digit.{Digit}
use Rattle.vs_design.specs.vs_logic4.specs.declared.digit.Digit.TheVariants.{X}
use Rattle.vs_independence.specs.vs_process.proofs.Digits.{digit-put, laid}
use Rattle.vs_independence.specs.vs_process.proofs.Stores.{put_other}
use Rattle.vs_independence.specs.vs_process.proofs.WellFormed.{variable_undriven}
use Rattle.vs_independence.specs.vs_process.specs.States.{Update, activated, paused, place_after_step, start, updates_after}
use Rattle.vs_rules.proofs.Points.{by_goes, by_path, step_follows}
use Rattle.vs_rules.specs.Claims.{Name, names_process, writer_in}
use Rattle.vs_rules.specs.Points.{Goes, first_todo}
use Rattle.vs_design.specs.declared.design.Process.{Process}
use Rattle.vs_design.specs.declared.statement.EventTerm.{EventTerm}
use Rattle.vs_rules.specs.Drivers as v

-- ---- the updates of a thread, put into the first store

put_more : (store : Store) (us : List Update) (u : Update) → put_active store (us ++ u ∷ []) ≡ (if u.active then put (put_active store us) u.what else put_active store us)
put_more store [] u = refl
put_more store (x ∷ us) u = put_more (if x.active then put store x.what else store) us u

activated_more : (us : List Update) (u : Update) → map (activated 0) (us ++ u ∷ []) ≡ map (activated 0) us ++ activated 0 u ∷ []
activated_more [] u = refl
activated_more (x ∷ us) u = ap (λ xs. activated 0 x ∷ xs) (activated_more us u)

-- the first store behind the updates that are due there
abbrev pub put_due : Store → List Update → Store
put_due store us = put_active store (map (activated 0) us)

due_more : (store : Store) (us : List Update) (u : Update) → put_due store (us ++ u ∷ []) ≡ (if (activated 0 u).active then put (put_due store us) u.what else put_due store us)
due_more store us u = ap (put_active store) (activated_more us u) ∙ put_more store (map (activated 0) us) (activated 0 u)

-- a digit stays where there was one
some_digit : (store : Store) (us : List Update) (v w p : ℕ) (y : Digit) → digit_of store v w p ≡ Some y → (z : Digit) × (digit_of (put_active store us) v w p ≡ Some z)
some_digit store [] v w p y is = (y, is)
some_digit store (u ∷ us) v w p y is =
    by_active u.active (λ z at. some_digit (put store u.what) us v w p z at) (some_digit store us v w p y is)
  where
    by_active : (b : Bool) → ((z : Digit) → digit_of (put store u.what) v w p ≡ Some z → (x : Digit) × (digit_of (put_active (put store u.what) us) v w p ≡ Some x)) →
        (z : Digit) × (digit_of (put_active store us) v w p ≡ Some z) → (z : Digit) × (digit_of (put_active (if b then put store u.what else store) us) v w p ≡ Some z)
    by_active true again plain = again (laid u.what v w p y) (digit-put store u.what v w p ∙ ap (option_map (laid u.what v w p)) is)
    by_active false again plain = plain

-- an update that doesn't name a signal leaves its digits
other_due : (store : Store) (us : List Update) (u : Update) (v w p : ℕ) → names u.what v ≡ false → digit_of (put_due store (us ++ u ∷ [])) v w p ≡ digit_of (put_due store us) v w p
other_due store us u v w p miss = ap (λ s. digit_of s v w p) (due_more store us u) ∙ by_active (activated 0 u).active
  where
    by_active : (b : Bool) → digit_of (if b then put (put_due store us) u.what else put_due store us) v w p ≡ digit_of (put_due store us) v w p
    by_active true = ap (λ o. digit_in (word_in o w) p) (put_other (put_due store us) u.what v miss)
    by_active false = refl

-- one of a constant gives it
own_due : (store : Store) (us : List Update) (i time : ℕ) (target : Target) (value : Typed) (view : Store) (b : Bit) (digit y : Digit) → GivesDigit target value b digit → digit_of store b.signal b.word b.place ≡ Some y →
    digit_of (put_due store (us ++ record { by = i; due = 0 + 0; active = false; what = assignment target value view time } ∷ [])) b.signal b.word b.place ≡ Some digit
own_due store us i time target value view b digit y g is =
    let old = some_digit store (map (activated 0) us) b.signal b.word b.place y is in
    let w = assignment target value view time in
    ap (λ s. digit_of s b.signal b.word b.place) (due_more store us (record { by = i; due = 0 + 0; active = false; what = w }))
    ∙ digit-put (put_due store us) w b.signal b.word b.place ∙ ap (option_map (laid w b.signal b.word b.place)) old.1
    ∙ ap (λ z. Some z) (assignment_gives target value view time b digit old.0 g)

-- ---- what a step at a point updates

statement_updates : (s : Statement) (f : Statement-F Statement) (rest : Todo) (store : Store) (time n : ℕ) (target : Target) (value : Typed) → statement_update f ≡ Some (n, target, value) →
    (statement_step s f rest store time).update ≡ Some (n, assignment target value store time)
statement_updates s (Statement-F.Later m ticks t e) rest store time n target value is =
    ap (λ (x : ℕ × Target × Typed). Some (x.0, assignment x.1 x.2 store time)) (same_Some (ticks.count, t, e) (n, target, value) is)
statement_updates s (Statement-F.Null m) rest store time n target value is = absurd (none-some _ is)
statement_updates s (Statement-F.Assign m t e) rest store time n target value is = absurd (none-some _ is)
statement_updates s (Statement-F.Call m x) rest store time n target value is = absurd (none-some _ is)
statement_updates s (Statement-F.Finish m) rest store time n target value is = absurd (none-some _ is)
statement_updates s (Statement-F.Block all) rest store time n target value is = absurd (none-some _ is)
statement_updates s (Statement-F.Delay m ticks body) rest store time n target value is = absurd (none-some _ is)
statement_updates s (Statement-F.Event m terms body) rest store time n target value is = absurd (none-some _ is)
statement_updates s (Statement-F.If m e p q) rest store time n target value is = absurd (none-some _ is)
statement_updates s (Statement-F.Case m kind x items) rest store time n target value is = absurd (none-some _ is)
statement_updates s (Statement-F.While m e body) rest store time n target value is = absurd (none-some _ is)
statement_updates s (Statement-F.Repeat m signed e body) rest store time n target value is = absurd (none-some _ is)
statement_updates s (Statement-F.Forever m body) rest store time n target value is = absurd (none-some _ is)

step_updates : (k : Todo) (store : Store) (time n : ℕ) (target : Target) (value : Typed) → todo_update (erased k) ≡ Some (n, target, value) → (step k store time).update ≡ Some (n, assignment target value store time)
step_updates [] store time n target value is = absurd (none-some _ is)
step_updates (perform s ∷ rest) store time n target value is = statement_updates s (out-Statement s) rest store time n target value is
step_updates (turns m s ∷ rest) store time n target value is = absurd (none-some _ is)

-- what a point updates by `<=` it doesn't write by `=`
statement_apart : (d : Parts) (f : Statement-F Statement) (v : ℕ) (x : ℕ × Target × Typed) → statement_update f ≡ Some x → ListsSignal d (statement_now f) v → ⊥
statement_apart d (Statement-F.Later m ticks t e) v x is now = none_in now.range now.listed.0
statement_apart d (Statement-F.Null m) v x is now = none-some x is
statement_apart d (Statement-F.Assign m t e) v x is now = none-some x is
statement_apart d (Statement-F.Call m y) v x is now = none-some x is
statement_apart d (Statement-F.Finish m) v x is now = none-some x is
statement_apart d (Statement-F.Block all) v x is now = none-some x is
statement_apart d (Statement-F.Delay m ticks body) v x is now = none-some x is
statement_apart d (Statement-F.Event m terms body) v x is now = none-some x is
statement_apart d (Statement-F.If m e p q) v x is now = none-some x is
statement_apart d (Statement-F.Case m kind y items) v x is now = none-some x is
statement_apart d (Statement-F.While m e body) v x is now = none-some x is
statement_apart d (Statement-F.Repeat m signed e body) v x is now = none-some x is
statement_apart d (Statement-F.Forever m body) v x is now = none-some x is

now_later : (d : Parts) (v : ℕ) (k : Todo) {x : ℕ × Target × Typed} → todo_update k ≡ Some x → WritesNow d k v → ⊥
now_later d v [] {x} is now = none-some x is
now_later d v (perform s ∷ rest) {x} is now = statement_apart d (out-Statement s) v x is now
now_later d v (turns m s ∷ rest) {x} is now = none-some x is

-- its writer is of kind edge, delay or mixed
seq_of : (d : Parts) (c : Claims) (g w : ℕ) → MayStart d c g w → IsSequential d c w
seq_of d c g w (inl may) = inr (inl may.1)
seq_of d c g w (inr may) = may.2

-- ---- along the turns of the process that starts the block

-- no path without such an update leads where the process stands
abbrev pub MissingAt : Parts → ℕ → ℕ → ℕ → Place → Type 0
MissingAt d i g w (going gait k) = Missing d i g w (erased k)
MissingAt d i g w (inactive k) = Missing d i g w (erased k)
MissingAt d i g w (sleeping due k) = ⊥
MissingAt d i g w (waiting terms k) = ⊥
MissingAt d i g w ended = ⊥

-- what the thread made leaves a bit that the control of the block names a known one
pub record Leaves (d : Parts) (c : Claims) (i g w : ℕ) (made : List Update) : Type 0 where
  pub point : Made d c w 0 g
  pub bit : Bit
  pub named : NamesBit d i g bit
  pub digit : Digit
  pub known : IsKnown digit
  pub holds : digit_of (put_due (start_store d) made) g bit.word bit.place ≡ Some digit

-- of a block, by its number, with a starter
pub record Starting (d : Parts) (c : Claims) (i g w : ℕ) : Type 0 where
  pub begun : Begun d c (start d)
  pub rule : IsStarted d c i g w
  pub variable : HasKind true d g

-- either, or such a bit is left
abbrev Fared : Parts → Claims → ℕ → ℕ → ℕ → Thread → Type 0
Fared d c i g w th = MissingAt d i g w th.place ⊎ Leaves d c i g w th.made

missing_active : (d : Parts) (c : Claims) (i g w : ℕ) → Starting d c i g w → (gait : Gait) (k : Todo) → Missing d i g w (erased k) → MissingAt d i g w (active_at gait k)
missing_active d c i g w h gait [] m = h.rule.before_end m
missing_active d c i g w h gait (x ∷ rest) m = m

missing_paused : (d : Parts) (c : Claims) (i g w : ℕ) → Starting d c i g w → (number ticks : ℕ) (k l : Todo) → Missing d i g w k → Goes k (after number ticks (erased l)) → MissingAt d i g w (paused 0 ticks l)
missing_paused d c i g w h number zero k l m way = Missing.waits k (erased l) number m way
missing_paused d c i g w h number (suc ticks) k l m way = absurd (h.rule.before_delay k (erased l) number ticks m way)

missing_behind : (d : Parts) (c : Claims) (i g w : ℕ) → Starting d c i g w → (gait : Gait) (k : Todo) (next : Next) → (Begins d i g (erased k) → ⊥) → Missing d i g w (erased k) → Goes (erased k) (erased_next next) →
    MissingAt d i g w (place_after_step (going gait k) 0 next)
missing_behind d c i g w h gait k (on l) off m way = missing_active d c i g w h (stepped_gait gait) l (Missing.goes_on (erased k) (erased l) m off way)
missing_behind d c i g w h gait k (after number ticks l) off m way = missing_paused d c i g w h number ticks (erased k) l m way
missing_behind d c i g w h gait k (wait number terms l) off m way = absurd (h.rule.before_wait (erased k) (erased l) number terms m way)

-- each bit of the variable starts as x, and so does it where a copy shows it
bit_x : (d : Parts) (g n : ℕ) → HasKind true d g → CopiesWhole d g n → (w p : ℕ) → IsBit d (record { signal = n; word = w; place = p }) → digit_of (start_store d) n w p ≡ Some X
bit_x d g n kind more w p bit =
    ap (λ o. digit_in (word_in o w) p) (copies_start d g n bit.signal kind bit.is more)
    ∙ ap (λ o. digit_in o p) (replicate_at bit.signal.count w (replicate bit.signal.width X) bit.word) ∙ replicate_at bit.signal.width p X bit.place
  where
    replicate_at : {A : Type 0} (n k : ℕ) (x : A) → k < n → slice_get (replicate n x) k ≡ Some x
    replicate_at zero k x lt = absurd (omega (arith, lt))
    replicate_at (suc n) zero x lt = refl
    replicate_at (suc n) (suc k) x lt = replicate_at n k x (omega (arith, lt))

-- the bit of the variable
own_bit : (d : Parts) (g : ℕ) (b : Bit) → b.signal ≡ g → IsBit d b → IsBit d (record { signal = g; word = b.word; place = b.place })
own_bit d g b e bit = subst (λ v. IsBit d (record { signal = v; word = b.word; place = b.place })) e bit

-- a step at such a point
left_begins : (d : Parts) (c : Claims) (i g w : ℕ) → Starting d c i g w → (k : Todo) (view : Store) (made : List Update) → Made d c w 0 g → (b : Begins d i g (erased k)) →
    Leaves d c i g w (updates_after w 0 (step k view 0).update made)
left_begins d c i g w h k view made point b =
    subst (λ o. Leaves d c i g w (updates_after w 0 o made)) (sym (step_updates k view 0 0 b.target b.value b.is))
    (record {
      point = point;
      bit = b.bit;
      named = b.named;
      digit = b.digit;
      known = b.known;
      holds = subst (λ v. digit_of (put_due (start_store d) (made ++ record { by = w; due = 0 + 0; active = false; what = assignment b.target b.value view 0 } ∷ [])) v b.bit.word b.bit.place ≡ Some b.digit) b.named.of
          (own_due (start_store d) made w 0 b.target b.value view b.bit b.digit X b.gives
          (subst (λ v. digit_of (start_store d) v b.bit.word b.bit.place ≡ Some X) (sym b.named.of) (bit_x d g g h.variable itself b.bit.word b.bit.place (own_bit d g b.bit b.named.of b.named.is))));
    })

fared_step : (d : Parts) (c : Claims) (i g w : ℕ) → Starting d c i g w → (gait : Gait) (k : Todo) (th : Thread) → th.place ≡ going gait k → Here d c w 0 (erased k) → Fared d c i g w th → Fared d c i g w (turn_at 0 w (going gait k) th)
fared_step d c i g w h gait k th e here fared = by_update (step k th.view 0).update refl
  where
    way : Goes (erased k) (erased_next (step k th.view 0).next)
    way = step_follows k th.view 0

    slot0 : Here d c w 0 (erased k) → IsSlot0 d false w (erased k)
    slot0 x = by_at x.at
      where
        by_at : At d c w 0 (erased k) → IsSlot0 d false w (erased k)
        by_at (at_zero z s) = by_path (is_wide c) is_zero_time (first_todo d w) (erased k) s
        by_at (at_later up late slot) = absurd (zero_less 0 up refl)

    -- no step that names nothing of the variable is such an update
    off : ((u : ℕ × Write) → (step k th.view 0).update ≡ Some u → names u.1 g ≡ false) → Begins d i g (erased k) → ⊥
    off miss b =
        false≢true (sym (miss (0, assignment b.target b.value th.view 0) (step_updates k th.view 0 0 b.target b.value b.is))
        ∙ subst (λ v. names (assignment b.target b.value th.view 0) v ≡ true) b.named.of (gives_names b.target b.value b.bit b.digit th.view 0 b.gives))

    missed : ((u : ℕ × Write) → (step k th.view 0).update ≡ Some u → names u.1 g ≡ false) → MissingAt d i g w th.place → MissingAt d i g w (place_after_step (going gait k) 0 (step k th.view 0).next)
    missed miss m = missing_behind d c i g w h gait k (step k th.view 0).next (off miss) (subst (MissingAt d i g w) e m) way

    by_update : (o : Option (ℕ × Write)) → (step k th.view 0).update ≡ o → Fared d c i g w (turn_at 0 w (going gait k) th)
    by_update None is = elim fared [
      | inl m ↦ inl (missed (λ u at_u. absurd (none-some u (sym is ∙ at_u))) m)
      | inr l ↦ inr (subst (λ o. Leaves d c i g w (updates_after w 0 o th.made)) (sym is) l)
    ]
    by_update (Some u) is = elim (cases_Bool (names u.1 g)) [
      | inl hit ↦
          let later = step_later d k th.view 0 u g is hit in
          inr (left_begins d c i g w h k th.view th.made (record { k = erased k; here = here; writes = later }) (h.rule.only (erased k) (slot0 here) (inr later)))
      | inr off_g ↦ elim fared [
        | inl m ↦ inl (missed (λ x at_x. ap (λ (y : ℕ × Write). names y.1 g) (same_Some x u (sym at_x ∙ is)) ∙ off_g) m)
        | inr l ↦ inr (subst (λ o. Leaves d c i g w (updates_after w 0 o th.made)) (sym is)
            (record {
              point = l.point;
              bit = l.bit;
              named = l.named;
              digit = l.digit;
              known = l.known;
              holds = other_due (start_store d) th.made (record { by = w; due = 0 + u.0; active = false; what = u.1 }) g l.bit.word l.bit.place off_g ∙ l.holds;
            }))
      ]
    ]

fared_turn : (d : Parts) (c : Claims) (i g w : ℕ) → Starting d c i g w → (p : Place) (th : Thread) → th.place ≡ p → IsAtPlace d c w 0 p → Fared d c i g w th → Fared d c i g w (turn_at 0 w p th)
fared_turn d c i g w h (going gait k) th e stands fared = fared_step d c i g w h gait k th e stands fared
fared_turn d c i g w h (inactive k) th e stands fared = elim fared [
  | inl m ↦ inl (missing_active d c i g w h Woken k (subst (MissingAt d i g w) e m))
  | inr l ↦ inr l
]
fared_turn d c i g w h (sleeping due k) th e stands fared = fared
fared_turn d c i g w h (waiting terms k) th e stands fared = fared
fared_turn d c i g w h ended th e stands fared = fared

-- where the process begins
missing_first : (d : Parts) (c : Claims) (i g w : ℕ) → Starting d c i g w → (p : Place) → get_or (start d).places w ended ≡ p → IsBeginning p → MissingAt d i g w p
missing_first d c i g w h (going gait k) e b = subst (Missing d i g w) (start_first d w gait k e) Missing.begins
missing_first d c i g w h (sleeping due k) e b = absurd b
missing_first d c i g w h (inactive k) e b = absurd b
missing_first d c i g w h (waiting terms k) e b = absurd b
missing_first d c i g w h ended e b = h.rule.before_end (subst (Missing d i g w) (ap todo_of e) Missing.begins)

fared_iterate : (d : Parts) (c : Claims) (i g w : ℕ) → Starting d c i g w → (n : ℕ) → Fared d c i g w (iterate n (turn 0 w) (opening (blocks_of d c) (start d) w None))
fared_iterate d c i g w h zero =
    inl (subst (MissingAt d i g w) (sym (seq_found d c (start d) w (seq_of d c g w h.rule.may))) (missing_first d c i g w h (get_or (start d).places w ended) refl (start_begins d.processes w)))
fared_iterate d c i g w h (suc n) =
    let blocks = blocks_of d c in
    let one = iterate n (turn 0 w) (opening blocks (start d) w None) in
    let seq = seq_of d c g w h.rule.may in
    let stands = subst (IsAtPlace d c w 0) (sym (seq_found d c (start d) w seq)) (start_stands d c w) in
    let walked = walked_iterate d c w (closed d c (start d) h.begun w seq) 0 n (opening blocks (start d) w None) refl refl stands in
    fared_turn d c i g w h one.place one refl walked.stands (fared_iterate d c i g w h n)

-- where it comes to a stop, it has left such a bit
stopped_left : (d : Parts) (c : Claims) (i g w : ℕ) → Starting d c i g w → (th : Thread) → IsThread d (blocks_of d c) (start d) w th → is_going th.place ≡ false → is_inactive th.place ≡ false → Leaves d c i g w th.made
stopped_left d c i g w h th is gone rests = elim (by_input is.input is.may is.is) [
  | inl m ↦ absurd (by_place th.place gone rests m)
  | inr l ↦ l
]
  where
    blocks : ℕ → Bool
    blocks = blocks_of d c

    waits_first : (p : Place) (terms : List EventTerm) (k : Todo) → IsBeginning p → p ≡ waiting terms k → ⊥
    waits_first p terms k b e = subst IsBeginning e b

    by_input : (input : Option Fired) → MayOpen d blocks (start d) w input → iterate is.count (turn (start d).time w) (opening blocks (start d) w input) ≡ th → Fared d c i g w th
    by_input None may e = subst (Fared d c i g w) e (fared_iterate d c i g w h is.count)
    by_input (Some f) may e = absurd (waits_first (get_or (start d).places w ended) may.terms may.todo (start_begins d.processes w) (sym (seq_found d c (start d) w (seq_of d c g w h.rule.may)) ∙ may.at))

    by_place : (p : Place) → is_going p ≡ false → is_inactive p ≡ false → MissingAt d i g w p → ⊥
    by_place (going gait k) gone rests m = true≢false gone
    by_place (sleeping due k) gone rests m = m
    by_place (inactive k) gone rests m = true≢false rests
    by_place (waiting terms k) gone rests m = m
    by_place ended gone rests m = m

-- ---- all

-- a path that takes no time leads through no control, or its end is late
plain_or_late : (d : Parts) (wide : Bool) (i : ℕ) (k : Todo) → IsSlot0 d wide i k → IsPrologue d wide i k ⊎ IsLate d i k
plain_or_late d wide i _ begins = inl begins
plain_or_late d wide i l (goes k l' next path way ok e) = elim (plain_or_late d wide i k path) [
  | inl plain ↦ elim (cases_Bool (is_plain next)) [
    | inl is ↦ inl (goes k l next plain way is e)
    | inr pauses ↦ inr (subst (IsLate d i) e (late_behind d i k next (slot0_point d wide i k path) (by_goes wide k next way) pauses))
  ]
  | inr late ↦ inr (subst (IsLate d i) e (late_on d i k next late (by_goes wide k next way)))
]

writer_named : (o : Option Name) (p : Option Process) → names_process o p ≡ true → (name : Name) × (o ≡ Some name)
writer_named None p h = absurd (false≢true h)
writer_named (Some name) p h = (name, refl)

known_x : (digit : Digit) → IsKnown digit → digit ≡ X → ⊥
known_x _ IsKnown.zero e = cc e
known_x _ IsKnown.one e = cc e

pub starts_moved : (d : Parts) (c : Claims) → WellFormed d → Keeping d c → Begun d c (start d) → ClockTurns d c (start d) → (k : ℕ) → Shape d k → blocks_of d c k ≡ true → (g w : ℕ) → IsStarted d c k g w →
    StartsMoved d (blocks_of d c) k
starts_moved d c formed r begun clocks k shape blk g w rule = record {
  root = g;
  source = record {
    undriven = variable_undriven d formed g variable;
    unwritten = λ j blk. false_from_ne_true (puts_out d j g) (λ hit. writer_alone d c (start d) begun w j g (seq_of d c g w rule.may) rule.writer blk (out_writes d j g hit));
  };
  writer = w;
  untouched = λ i th last is is_last gone rests. false_from_ne_true (writes th g) (λ hit. touched i th is hit last.made (stopped_left d c k g w h last is_last gone rests));
  alone = λ i th last is named is_last gone rests.
      let l = stopped_left d c k g w h last is_last gone rests in
      let m = (makes_walks d c (start d) begun clocks i g th is named).walked.made g named in
      alone_later d c formed g (r.writers g) 0 w i l.point.k m.k l.point.here m.here l.point.writes m.writes;
  moved = λ th is gone rests same.
      let l = stopped_left d c k g w h th is gone rests in
      let bit = own_bit d g l.bit l.named.of l.named.is in
      let n = l.named.range.signal in
      let covered = control_covers d k shape l.named.names.term n l.bit.word l.bit.place l.named.names.has (subst (λ q. covers n l.bit.word l.bit.place q ≡ true) (sym l.named.names.is) l.named.has) in
      let e : Some l.digit ≡ Some X =
      sym l.holds ∙ same n l.bit.word l.bit.place (shows d formed g n variable l.named.copies) covered
      ∙ bit_x d g n variable l.named.copies l.bit.word l.bit.place (copy_bit d g n l.bit.word l.bit.place l.named.copies bit) in
      known_x l.digit l.known (same_Some l.digit X e);
}
  where
    variable : HasKind true d g
    variable =
        let name = writer_named (writer_in (claim_of d c g)) (slice_get d.processes w) rule.writer in
        let found = (r.writers g).writer_writes name.0 name.1 in
        writes_variable d formed found.0 g found.2

    h : Starting d c k g w
    h = record { begun = begun; rule = rule; variable = variable }

    source : v.IsSource d c g
    source = record { variable = variable; undriven = λ j b wj. writer_alone d c (start d) begun w j g (seq_of d c g w rule.may) rule.writer (ap is_block_kind b.1) wj }

    touched : (i : ℕ) (th : Thread) → IsThread d (blocks_of d c) (start d) i th → writes th g ≡ true → (made : List Update) → Leaves d c k g w made → ⊥
    touched i th is hit made l = by_role ((r.writers g).named i (writes_now d i wrote.k g wrote.here.point wrote.writes))
      where
        wrote : Wrote d c i 0 g
        wrote = (writes_walks d c (start d) begun clocks i g th is hit).walked.wrote g hit

        by_second : IsSecond d c g i → At d c i 0 wrote.k → ⊥
        by_second second (at_later up late slot) = zero_less 0 up refl
        by_second second (at_zero z path) = elim (plain_or_late d (is_wide c) i wrote.k path) [
          | inl plain ↦ (r.first_slot i).untouched wrote.k g l.named.range plain wrote.writes (BlockNeeds.needs k (is_block d c k blk) (inr l.named.names))
              (copies_cone d c g l.named.range.signal l.bit.word l.bit.place l.named.range source l.named.copies (own_bit d g l.bit l.named.of l.named.is) l.named.has)
          | inr late ↦ (r.writers g).early i wrote.k second wrote.here.point (inl wrote.writes) late
        ]

        -- its writer updates it alone
        by_writer : i ≡ w → At d c i 0 wrote.k → ⊥
        by_writer same (at_later up late slot) = zero_less 0 up refl
        by_writer same (at_zero z path) =
            let slot0 = by_path (is_wide c) is_zero_time (first_todo d w) wrote.k (subst (λ j. IsSlot0 d (is_wide c) j wrote.k) same path) in
            now_later d g wrote.k (rule.only wrote.k slot0 (inl wrote.writes)).is wrote.writes

        by_role : IsWriter d c g i ⊎ IsSecond d c g i → ⊥
        by_role (inl writer) = by_writer (one_writer d c formed g i w writer rule.writer) wrote.here.at
        by_role (inr second) = by_second second wrote.here.at
