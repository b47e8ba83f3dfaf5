-- The outputs of a block are a function of what its control names.
use Rattle.std.proofs.Common.{◌≡◌, ℕ, zero, suc, ◌+◌, ◌++◌, ◌||◌, ◌⊎◌, true, false, Option, Some, None, option_map, List, [], ◌∷◌, map, slice_get, refl, sym, ◌∙◌, ap, ap₂, subst, inl, inr, pos, ◌-◌, le_of_lt}
use Rattle.std.specs.List.{Contains, list_any}
use Rattle.std.proofs.lemmas.Bool.{cases_Bool, cases_lt, true≢false}
use Rattle.std.proofs.lemmas.Option.{none-some}
use Rattle.vs_design.specs.vs_logic4.specs.declared.digit.Digit.{Digit}
use Rattle.vs_design.specs.vs_logic4.specs.Parts.{selected}
use Rattle.vs_design.specs.declared.expression.Typed.{Typed}
use Rattle.vs_design.specs.declared.range.BitRange.{BitRange}
use Rattle.vs_design.specs.declared.statement.Aim.{Aim}
use Rattle.vs_design.specs.declared.statement.Aim.TheVariants.{Fixed, Chosen}
use Rattle.vs_design.specs.declared.statement.EventTerm.{EventTerm}
use Rattle.vs_design.specs.declared.statement.Statement.{Statement}
use Rattle.vs_design.specs.declared.statement.Statement.TheOpen.{Statement-F}
use Rattle.vs_design.specs.declared.statement.Statement.TheViews.{out-Statement}
use Rattle.vs_design.specs.declared.statement.Target.{Target}
use Rattle.vs_design.specs.Parts.{Parts}
use Rattle.vs_design.specs.Stores.{Store, chosen_bits, chosen_words, put, is_changed, start_store, words_in}
use Rattle.vs_design.specs.Uses.{covers, is_of}
use Rattle.vs_design.specs.Writes.{Write, names}
use Rattle.vs_independence.specs.vs_process.specs.vs_eval.specs.Laws.{digit_of}
use Rattle.vs_independence.specs.vs_process.specs.vs_eval.specs.Targets.{part_at, parts_from}
use Rattle.vs_process.specs.declared.gait.Gait.{Gait}
use Rattle.vs_process.specs.Nexts.{erased, erased_item, erased_next}
use Rattle.vs_process.specs.Places.{Todo, Place, going, sleeping, inactive, waiting, ended, active_at, perform, turns, stepped_gait, flat, todo_of}
use Rattle.vs_process.specs.Steps.{Next, on, after, wait, Out, assignment, called, step, statement_step}
use Rattle.vs_independence.specs.vs_process.specs.States.{place_after_step, terms_of, updates_after, calls_after}
use Rattle.vs_design.specs.Statements.{event_terms_step}
use Rattle.vs_rules.specs.vs_process.proofs.Threads.{is_stopped}
use Rattle.vs_process.specs.vs_strobe.specs.Lines.{Format, format_of_call}
use Rattle.vs_design.specs.declared.statement.CallKind.{CallKind}
use Rattle.vs_design.specs.declared.statement.CallKind.TheVariants.{Display, Strobe}
use Rattle.vs_independence.specs.vs_process.proofs.Digits.{laid, digit-put, Fixes}
use Rattle.vs_independence.specs.vs_process.proofs.ProcessLists.{none_from}
use Rattle.std.proofs.lemmas.Map.Keys.{any_passes_from_place as at_any}
use Rattle.vs_design.specs.vs_logic4.proofs.Basics.{element_of as any_at, none_in, map_at}
use Rattle.vs_independence.specs.vs_process.proofs.Ranges.{covers_signal, same_content}
use Rattle.vs_independence.specs.vs_process.proofs.Stores.{shape, shape-put, put_other}
use Rattle.vs_independence.specs.vs_process.proofs.Values.{unchanged, same_unchanged}
use Rattle.vs_rules.specs.vs_process.specs.Reads.{mute}
use Rattle.vs_rules.specs.vs_process.specs.Threads.{Thread, store_after, turn_at, turn, iterate, todo_reads}
use Rattle.vs_rules.specs.vs_process.proofs.ThreadLists.{place_of, contains_at}
use Rattle.vs_rules.specs.vs_process.proofs.StepReads.{step_reads}
use Rattle.vs_rules.specs.Controls.{controls_step}
use Rattle.vs_rules.specs.Points.{Goes, first_todo}
use Rattle.std.proofs.lemmas.List.{map-append}
use Rattle.vs_rules.proofs.Points.{erased_flat, erased_reads, step_follows}
use Rattle.vs_design.specs.vs_logic4.proofs.Basics.{same_self as both_same}
use Rattle.vs_rules.specs.Claims.{Claims, IsBlock}
use Rattle.vs_rules.specs.Paths.{Bit, IsBit, IsPoint, reads_of, writes_of, Writes}
use Rattle.vs_rules.specs.Blocks.{K5, Unwritten, begins, goes_on, is_strobe, is_late_effect, has_late_effect, todo_surely}
use Rattle.vs_independence.proofs.RulesFire.{stopped_iterate}
use Rattle.vs_independence.proofs.Once.{iterate_later}
use Rattle.vs_rules.specs.vs_process.specs.BlockDrivers.{home, control, puts_out, woken_on, Arrives, AgreeOn, SameOutputs, IsBlock as Follows}
use Rattle.vs_rules.specs.Paths.{HasTerm}
use Rattle.vs_independence.proofs.Shapes.{Shape, first_is}
use Rattle.vs_independence.proofs.Controls.{next_in, delays_collect, terms_collect}
use Rattle.vs_rules.specs.vs_process.proofs.Bits.{bit_there, missing}
use Rattle.vs_independence.proofs.Surely.{step_sure, sure_writes}
use Rattle.vs_rules.proofs.Texts.{Sub, reads_text, now_text, todo_all, point_sub, all_there}
use Rattle.vs_independence.proofs.Walks.{point_on}
use Rattle.vs_independence.proofs.Words.{lists_signal, step_now}

-- ---- a step does not hang on the time, but for the line of a `$display`

parts_any_time : (place : ℕ) (aims : List Aim) (digits : List Digit) (store : Store) (m n : ℕ) → parts_from place aims digits store m ≡ parts_from place aims digits store n
parts_any_time place [] digits store m n = refl
parts_any_time place (Fixed s ∷ aims) digits store m n = ap (λ ps. part_at (Fixed s) (selected (pos place) s.width digits) store m ∷ ps) (parts_any_time (place + s.width) aims digits store m n)
parts_any_time place (Chosen s word low ∷ aims) digits store m n =
    ap (λ ps. part_at (Chosen s word low) (selected (pos place) s.width digits) store m ∷ ps) (parts_any_time (place + s.width) aims digits store m n)

assignment_any_time : (t : Target) (e : Typed) (store : Store) (m n : ℕ) → assignment t e store m ≡ assignment t e store n
assignment_any_time t e store m n = parts_any_time 0 t.parts.items _ store m n

statement_any_time : (s : Statement) (f : Statement-F Statement) (rest : Todo) (store : Store) (m n : ℕ) → mute (statement_step s f rest store m) ≡ mute (statement_step s f rest store n)
statement_any_time s (Statement-F.Null k) rest store m n = refl
statement_any_time s (Statement-F.Assign k t e) rest store m n = ap (λ w. record (Rattle.vs_process.specs.Steps.goes (on rest)) { write = Some w }) (assignment_any_time t e store m n)
statement_any_time s (Statement-F.Later k ticks t e) rest store m n = ap (λ w. record (Rattle.vs_process.specs.Steps.goes (on rest)) { update = Some (ticks.count, w) }) (assignment_any_time t e store m n)
statement_any_time s (Statement-F.Call k c) rest store m n = refl
statement_any_time s (Statement-F.Finish k) rest store m n = refl
statement_any_time s (Statement-F.Block all) rest store m n = refl
statement_any_time s (Statement-F.Delay k ticks body) rest store m n = refl
statement_any_time s (Statement-F.Event k terms body) rest store m n = refl
statement_any_time s (Statement-F.If k e a b) rest store m n = refl
statement_any_time s (Statement-F.Case k kind x items) rest store m n = refl
statement_any_time s (Statement-F.While k e body) rest store m n = refl
statement_any_time s (Statement-F.Repeat k signed e body) rest store m n = refl
statement_any_time s (Statement-F.Forever k body) rest store m n = refl

pub any_time : (k : Todo) (store : Store) (m n : ℕ) → mute (step k store m) ≡ mute (step k store n)
any_time [] store m n = refl
any_time (perform s ∷ rest) store m n = statement_any_time s (out-Statement s) rest store m n
any_time (turns k s ∷ rest) store m n = refl

-- ---- lockstep

-- what two runs agree on at a place: a bit of an output that is written, and at the control each
abbrev pub Settled : Parts → ℕ → Place → Bit → Store → Store → Type 0
Settled d k (going gait t) b x y = (digit_of x b.signal b.word b.place ≡ digit_of y b.signal b.word b.place) ⊎ Unwritten d k b (erased t)
Settled d k (waiting terms t) b x y = IsBit d b → digit_of x b.signal b.word b.place ≡ digit_of y b.signal b.word b.place
Settled d k (inactive t) b x y = Unit {0}
Settled d k (sleeping due t) b x y = Unit {0}
Settled d k ended b x y = Unit {0}

abbrev pub AtPoint : Parts → ℕ → Place → Type 0
AtPoint d k (going gait t) = IsPoint d k (erased t)
AtPoint d k (waiting terms t) = Unit {0}
AtPoint d k (inactive t) = ⊥
AtPoint d k (sleeping due t) = ⊥
AtPoint d k ended = Unit {0}

pub record Lock (d : Parts) (k : ℕ) (a b x y : Store) (p : Place) : Type 0 where
  pub point : AtPoint d k p
  pub kept_x : (v : ℕ) → puts_out d k v ≡ false → slice_get x v ≡ slice_get a v
  pub kept_y : (v : ℕ) → puts_out d k v ≡ false → slice_get y v ≡ slice_get b v
  pub shape_x : shape x ≡ shape (start_store d)
  pub shape_y : shape y ≡ shape (start_store d)
  pub bits : (bit : Bit) → puts_out d k bit.signal ≡ true → Settled d k p bit x y

-- no delay control stands in the text of a block
pub no_delay : (d : Parts) (k : ℕ) → Shape d k → (t l : Todo) (number ticks : ℕ) → IsPoint d k t → Goes t (after number ticks l) → ⊥
no_delay d k s t l number ticks p g =
    none_in number (subst (λ l. Contains l number) (ap (todo_all controls_step) (first_is d.processes k s.process s.is) ∙ all_there controls_step delays_collect s.process.body ∙ s.text_delays)
    (point_sub controls_step delays_collect (first_todo d k) t p number (next_in t (after number ticks l) g)))

-- ---- what two stores of one shape have

both_digits : (o p : Option Digit) → (o ≡ None → p ≡ None) → (p ≡ None → o ≡ None) → (f : Digit → Digit) → ((d e : Digit) → f d ≡ f e) → option_map f o ≡ option_map f p
both_digits None None hx hy f fix = refl
both_digits None (Some e) hx hy f fix = absurd (none-some e (sym (hx refl)))
both_digits (Some d) None hx hy f fix = absurd (none-some d (sym (hy refl)))
both_digits (Some d) (Some e) hx hy f fix = ap (λ x. Some x) (fix d e)

-- a write that fixes a bit makes two stores agree on it
fixed_same : (x y : Store) (w : Write) (b : Bit) → shape x ≡ shape y → Fixes w b.signal b.word b.place → digit_of (put x w) b.signal b.word b.place ≡ digit_of (put y w) b.signal b.word b.place
fixed_same x y w b e fix =
    digit-put x w b.signal b.word b.place
    ∙ both_digits (digit_of x b.signal b.word b.place) (digit_of y b.signal b.word b.place) (missing x y b.signal b.word b.place e) (missing y x b.signal b.word b.place (sym e)) (laid w b.signal b.word b.place) fix
    ∙ sym (digit-put y w b.signal b.word b.place)

-- so does any write, where they agreed
kept_same : (x y : Store) (o : Option Write) (b : Bit) → digit_of x b.signal b.word b.place ≡ digit_of y b.signal b.word b.place →
    digit_of (store_after x o) b.signal b.word b.place ≡ digit_of (store_after y o) b.signal b.word b.place
kept_same x y None b e = e
kept_same x y (Some w) b e = digit-put x w b.signal b.word b.place ∙ ap (option_map (laid w b.signal b.word b.place)) e ∙ sym (digit-put y w b.signal b.word b.place)

-- ---- one step of both

contains_any : (rs : List BitRange) (r : BitRange) (v : ℕ) → Contains rs r → r.signal ≡ v → list_any (is_of v) rs ≡ true
contains_any rs r v c e =
    let there = place_of rs r c in
    at_any (is_of v) rs there.0 r there.1 (both_same r.signal v e)

-- what a step of a block writes, it puts out
puts_named : (d : Parts) (k : ℕ) (t : Todo) (store : Store) (time : ℕ) (w : Write) (v : ℕ) → IsPoint d k (erased t) → (step t store time).write ≡ Some w → puts_out d k v ≡ false → names w v ≡ false
puts_named d k t store time w v p is out = elim (cases_Bool (names w v)) [
  | inl hit ↦
      let now = step_now d t store time w v is hit in
      absurd (true≢false (sym (contains_any (writes_of d k) now.range v (now_text d k (erased t) p now.range now.listed.0) now.of) ∙ out))
  | inr miss ↦ miss
]

pub record Block (d : Parts) (c : Claims) (k : ℕ) : Type 0 where
  pub rule : K5 d c k
  pub blk : IsBlock d c k
  pub shaped : Shape d k

out_writes : (d : Parts) (k v : ℕ) → puts_out d k v ≡ true → Writes d k v
out_writes d k v h = lists_signal d (writes_of d k) v h

-- two runs agree on what a step reads
reads_agree : (d : Parts) (c : Claims) (k : ℕ) → Block d c k → (a b x y : Store) (gait : Gait) (t : Todo) → AgreeOn d k (reads_of d k) a b → Lock d k a b x y (going gait t) → list_any (is_changed x y) (todo_reads t) ≡ false
reads_agree d c k h a b x y gait t agree l = none_from (is_changed x y) (todo_reads t) each
  where
    shapes : shape x ≡ shape y
    shapes = l.shape_x ∙ sym l.shape_y

    each : (i : ℕ) (r : BitRange) → slice_get (todo_reads t) i ≡ Some r → is_changed x y r ≡ false
    each i r is = elim (cases_Bool (puts_out d k r.signal)) [
      | inl own ↦ same_unchanged x y r (same_content x y r shapes (λ w n cov. by_bit own (record { signal = r.signal; word = w; place = n }) refl))
      | inr other ↦
          same_unchanged x y r
          (ap (λ o. map (chosen_bits r.bits) (chosen_words r.word (words_in o))) (l.kept_x r.signal other)
          ∙ unchanged a b r (agree r (reads_text d k (erased t) l.point r listed) other)
          ∙ sym (ap (λ o. map (chosen_bits r.bits) (chosen_words r.word (words_in o))) (l.kept_y r.signal other)))
    ]
      where
        listed : Contains (todo_reads (erased t)) r
        listed = subst (λ rs. Contains rs r) (sym (erased_reads t)) (contains_at (todo_reads t) i r is)

        by_digit : (bit : Bit) → bit.signal ≡ r.signal → puts_out d k bit.signal ≡ true → Unwritten d k bit (erased t) → (o : Option Digit) → digit_of x bit.signal bit.word bit.place ≡ o → digit_of x bit.signal bit.word bit.place ≡ digit_of y bit.signal bit.word bit.place
        by_digit bit e own un None is = is ∙ sym (missing x y bit.signal bit.word bit.place shapes is)
        by_digit bit e own un (Some z) is = absurd (h.rule.before_reads bit (erased t) r h.blk (bit_there d x l.shape_x bit.signal bit.word bit.place z is) (out_writes d k bit.signal own) un (listed, tt) (sym e))

        by_bit : puts_out d k r.signal ≡ true → (bit : Bit) → bit.signal ≡ r.signal → digit_of x bit.signal bit.word bit.place ≡ digit_of y bit.signal bit.word bit.place
        by_bit own bit e =
            let out : puts_out d k bit.signal ≡ true = ap (puts_out d k) e ∙ own in
            elim (l.bits bit out) [
              | inl same ↦ same
              | inr un ↦ by_digit bit e out un (digit_of x bit.signal bit.word bit.place) refl
            ]

-- the place behind is one for both
place_same : (gait : Gait) (t : Todo) (m n : ℕ) (next : Next) → ((number ticks : ℕ) (l : Todo) → next ≡ after number ticks l → ⊥) → place_after_step (going gait t) m next ≡ place_after_step (going gait t) n next
place_same gait t m n (on l) h = refl
place_same gait t m n (after number ticks l) h = absurd (h number ticks l refl)
place_same gait t m n (wait number terms l) h = refl

active_settled : (d : Parts) (k : ℕ) (gait : Gait) (l : Todo) (b : Bit) (x y : Store) → (digit_of x b.signal b.word b.place ≡ digit_of y b.signal b.word b.place) ⊎ Unwritten d k b (erased l) → Settled d k (active_at gait l) b x y
active_settled d k gait [] b x y h = tt
active_settled d k gait (i ∷ l) b x y h = h

active_point : (d : Parts) (k : ℕ) (gait : Gait) (l : Todo) → IsPoint d k (erased l) → AtPoint d k (active_at gait l)
active_point d k gait [] p = tt
active_point d k gait (i ∷ l) p = p

lock_behind : (d : Parts) (c : Claims) (k : ℕ) → Block d c k → (a b x y : Store) (m : ℕ) (gait : Gait) (t : Todo) → Lock d k a b x y (going gait t) → (next : Next) (o : Option Write) → (step t x m).next ≡ next → (step t x m).write ≡ o →
    Lock d k a b (store_after x o) (store_after y o) (place_after_step (going gait t) m next)
lock_behind d c k h a b x y m gait t l next o next_is write_is = record {
  point = by_next next next_is;
  kept_x = λ v out. by_write x o write_is v out ∙ l.kept_x v out;
  kept_y = λ v out. by_write y o write_is v out ∙ l.kept_y v out;
  shape_x = shaped x o ∙ l.shape_x;
  shape_y = shaped y o ∙ l.shape_y;
  bits = λ bit out. by_bits bit out next next_is;
}
  where
    way : (next : Next) → (step t x m).next ≡ next → Goes (erased t) (erased_next next)
    way next e = subst (λ n. Goes (erased t) (erased_next n)) e (step_follows t x m)

    by_next : (next : Next) → (step t x m).next ≡ next → AtPoint d k (place_after_step (going gait t) m next)
    by_next (on r) e = active_point d k (stepped_gait gait) r (point_on d k (erased t) (on (erased r)) l.point (way (on r) e))
    by_next (after number ticks r) e = absurd (no_delay d k h.shaped (erased t) (erased r) number ticks l.point (way (after number ticks r) e))
    by_next (wait number terms r) e = tt

    by_write : (store : Store) (o : Option Write) → (step t x m).write ≡ o → (v : ℕ) → puts_out d k v ≡ false → slice_get (store_after store o) v ≡ slice_get store v
    by_write store None is v out = refl
    by_write store (Some w) is v out = put_other store w v (puts_named d k t x m w v l.point is out)

    shaped : (store : Store) (o : Option Write) → shape (store_after store o) ≡ shape store
    shaped store None = refl
    shaped store (Some w) = shape-put store w

    sure : (bit : Bit) → todo_surely bit (erased t) ≡ true → (o : Option Write) → (step t x m).write ≡ o →
        digit_of (store_after x o) bit.signal bit.word bit.place ≡ digit_of (store_after y o) bit.signal bit.word bit.place
    sure bit s None is = absurd (sure_writes bit t x m s is)
    sure bit s (Some w) is = fixed_same x y w bit (l.shape_x ∙ sym l.shape_y) (step_sure bit t x m w s is)

    by_bits : (bit : Bit) → puts_out d k bit.signal ≡ true → (next : Next) → (step t x m).next ≡ next → Settled d k (place_after_step (going gait t) m next) bit (store_after x o) (store_after y o)
    by_bits bit out (on r) e =
        active_settled d k (stepped_gait gait) r bit (store_after x o) (store_after y o) (elim (l.bits bit out) [
          | inl same ↦ inl (kept_same x y o bit same)
          | inr un ↦ elim (cases_Bool (todo_surely bit (erased t))) [
            | inl s ↦ inl (sure bit s o write_is)
            | inr miss ↦ inr (goes_on (erased t) (erased r) un miss (way (on r) e))
          ]
        ])
    by_bits bit out (after number ticks r) e = absurd (no_delay d k h.shaped (erased t) (erased r) number ticks l.point (way (after number ticks r) e))
    by_bits bit out (wait number terms r) e = λ is. elim (l.bits bit out) [
      | inl same ↦ kept_same x y o bit same
      | inr un ↦ absurd (h.rule.before_end bit (erased t) (wait number terms (erased r)) h.blk is (out_writes d k bit.signal out) un (way (wait number terms r) e) refl)
    ]

-- ---- two threads

pub record Locked (d : Parts) (k : ℕ) (a b : Store) (x y : Thread) : Type 0 where
  pub same : y.place ≡ x.place
  pub lock : Lock d k a b x.view y.view x.place

lock_turn : (d : Parts) (c : Claims) (k : ℕ) → Block d c k → (a b : Store) (m n : ℕ) → AgreeOn d k (reads_of d k) a b → (p : Place) (x y : Thread) → x.place ≡ p → y.place ≡ p → Lock d k a b x.view y.view p →
    Locked d k a b (turn_at m k p x) (turn_at n k p y)
lock_turn d c k h a b m n agree (going gait t) x y ex ey l = record {
  same = ap (place_after_step (going gait t) n) (sym next_same) ∙ sym (place_same gait t m n (step t x.view m).next delays);
  lock = subst (λ o. Lock d k a b (store_after x.view (step t x.view m).write) (store_after y.view o) (place_after_step (going gait t) m (step t x.view m).next)) write_same
      (lock_behind d c k h a b x.view y.view m gait t l (step t x.view m).next (step t x.view m).write refl refl);
}
  where
    steps : mute (step t x.view m) ≡ mute (step t y.view n)
    steps = step_reads x.view y.view t m (reads_agree d c k h a b x.view y.view gait t agree l) ∙ any_time t y.view m n

    next_same : (step t x.view m).next ≡ (step t y.view n).next
    next_same = ap (λ (o : Out). o.next) steps

    write_same : (step t x.view m).write ≡ (step t y.view n).write
    write_same = ap (λ (o : Out). o.write) steps

    delays : (number ticks : ℕ) (r : Todo) → (step t x.view m).next ≡ after number ticks r → ⊥
    delays number ticks r e = no_delay d k h.shaped (erased t) (erased r) number ticks l.point (subst (λ n. Goes (erased t) (erased_next n)) e (step_follows t x.view m))
lock_turn d c k h a b m n agree (waiting terms t) x y ex ey l = record { same = ey ∙ sym ex; lock = subst (Lock d k a b x.view y.view) (sym ex) l }
lock_turn d c k h a b m n agree (sleeping due t) x y ex ey l = absurd l.point
lock_turn d c k h a b m n agree (inactive t) x y ex ey l = absurd l.point
lock_turn d c k h a b m n agree ended x y ex ey l = record { same = ey ∙ sym ex; lock = subst (Lock d k a b x.view y.view) (sym ex) l }

home_point : (d : Parts) (k : ℕ) → Shape d k → IsPoint d k (erased (todo_of (home d k)))
home_point d k s =
    let end = flat s.body ++ perform s.process.body ∷ [] in
    let plain : erased end ≡ end = map-append erased_item (flat s.body) (perform s.process.body ∷ []) ∙ ap (λ (t : Todo). t ++ perform s.process.body ∷ []) (erased_flat s.body) in
    subst (IsPoint d k) (sym (ap (λ (p : Place). erased (todo_of p)) s.home ∙ plain)) (point_on d k s.waits (wait s.number s.terms end) s.point s.goes)

lock_first : (d : Parts) (c : Claims) (k : ℕ) → Block d c k → (a b : Store) → shape a ≡ shape (start_store d) → shape b ≡ shape (start_store d) → Locked d k a b (woken_on d k a) (woken_on d k b)
lock_first d c k h a b sa sb = record {
  same = refl;
  lock = record {
    point = subst (IsPoint d k) (sym (ap erased home)) behind;
    kept_x = λ v out. refl;
    kept_y = λ v out. refl;
    shape_x = sa;
    shape_y = sb;
    bits = λ bit out. inr (subst (Unwritten d k bit) (sym (ap erased home)) (begins h.shaped.waits (erased end) h.shaped.number h.shaped.terms h.shaped.point way));
  };
}
  where
    end : Todo
    end = flat h.shaped.body ++ perform h.shaped.process.body ∷ []

    home : todo_of (Rattle.vs_rules.specs.vs_process.specs.BlockDrivers.home d k) ≡ end
    home = ap todo_of h.shaped.home

    plain : erased end ≡ end
    plain = map-append erased_item (flat h.shaped.body) (perform h.shaped.process.body ∷ []) ∙ ap (λ (t : Todo). t ++ perform h.shaped.process.body ∷ []) (erased_flat h.shaped.body)

    way : Goes h.shaped.waits (wait h.shaped.number h.shaped.terms (erased end))
    way = subst (λ (t : Todo). Goes h.shaped.waits (wait h.shaped.number h.shaped.terms t)) (sym plain) h.shaped.goes

    behind : IsPoint d k (erased end)
    behind = point_on d k h.shaped.waits (wait h.shaped.number h.shaped.terms (erased end)) h.shaped.point way

lock_iterate : (d : Parts) (c : Claims) (k : ℕ) → Block d c k → (a b : Store) (m n : ℕ) → AgreeOn d k (reads_of d k) a b → shape a ≡ shape (start_store d) → shape b ≡ shape (start_store d) → (j : ℕ) →
    Locked d k a b (iterate j (turn m k) (woken_on d k a)) (iterate j (turn n k) (woken_on d k b))
lock_iterate d c k h a b m n agree sa sb zero = lock_first d c k h a b sa sb
lock_iterate d c k h a b m n agree sa sb (suc j) =
    let x = iterate j (turn m k) (woken_on d k a) in
    let y = iterate j (turn n k) (woken_on d k b) in
    let r = lock_iterate d c k h a b m n agree sa sb j in
    subst (λ p. Locked d k a b (turn_at m k x.place x) (turn_at n k p y)) (sym r.same) (lock_turn d c k h a b m n agree x.place x y refl r.same r.lock)

home_stopped : (d : Parts) (k : ℕ) → Shape d k → is_stopped (home d k) ≡ true
home_stopped d k s = ap is_stopped s.home

-- two runs that are at the control agree on what is put out
locked_same : (d : Parts) (c : Claims) (k : ℕ) → Block d c k → (a b : Store) (x y : Thread) → Locked d k a b x y → x.place ≡ home d k → SameOutputs d k x.view y.view
locked_same d c k h a b x y r at_home v w i cov = by_digit (digit_of x.view v w i) refl
  where
    bit : Bit
    bit = record { signal = v; word = w; place = i }

    out : puts_out d k v ≡ true
    out =
        let found = any_at (covers v w i) (writes_of d k) cov in
        at_any (is_of v) (writes_of d k) found.0 found.1 found.2 (covers_signal v w i found.1 found.3)

    settled : IsBit d bit → digit_of x.view v w i ≡ digit_of y.view v w i
    settled = subst (λ p. Settled d k p bit x.view y.view) (at_home ∙ h.shaped.home) (r.lock.bits bit out)

    by_digit : (o : Option Digit) → digit_of x.view v w i ≡ o → digit_of x.view v w i ≡ digit_of y.view v w i
    by_digit None is = is ∙ sym (missing x.view y.view v w i (r.lock.shape_x ∙ sym r.lock.shape_y) is)
    by_digit (Some z) is = settled (bit_there d x.view r.lock.shape_x v w i z is)

-- what a block puts out is a function of what it reads
pub function : (d : Parts) (c : Claims) (k : ℕ) → Block d c k → (m n : ℕ) (a b : Store) (x y : Thread) → shape a ≡ shape (start_store d) → shape b ≡ shape (start_store d) → Arrives d k m a x → Arrives d k n b y →
    AgreeOn d k (reads_of d k) a b → SameOutputs d k x.view y.view
function d c k h m n a b x y sa sb ax ay agree = elim (cases_lt ax.run.count ay.run.count) [
  | inl lt ↦
      let r = lock_iterate d c k h a b m n agree sa sb ax.run.count in
      let one = iterate ax.run.count (turn n k) (woken_on d k b) in
      let x_home = ap (λ (t : Thread). t.place) ax.run.is ∙ ax.home in
      let same : one ≡ y =
      sym (stopped_iterate n k (ay.run.count - ax.run.count) one (ap is_stopped (r.same ∙ x_home) ∙ home_stopped d k h.shaped))
      ∙ sym (iterate_later (turn n k) (woken_on d k b) ax.run.count ay.run.count (le_of_lt lt)) ∙ ay.run.is in
      locked_same d c k h a b x y (subst (λ t. Locked d k a b t y) ax.run.is (subst (λ t. Locked d k a b (iterate ax.run.count (turn m k) (woken_on d k a)) t) same r)) ax.home
  | inr le ↦
      let r = lock_iterate d c k h a b m n agree sa sb ay.run.count in
      let one = iterate ay.run.count (turn m k) (woken_on d k a) in
      let y_home = ap (λ (t : Thread). t.place) ay.run.is ∙ ay.home in
      let same : one ≡ x =
      sym (stopped_iterate m k (ax.run.count - ay.run.count) one (ap is_stopped (sym r.same ∙ y_home) ∙ home_stopped d k h.shaped))
      ∙ sym (iterate_later (turn m k) (woken_on d k a) ay.run.count ax.run.count le) ∙ ax.run.is in
      locked_same d c k h a b x y (subst (λ t. Locked d k a b x t) ay.run.is (subst (λ t. Locked d k a b t (iterate ay.run.count (turn n k) (woken_on d k b))) same r)) ax.home
]

-- ---- its effects

-- a run makes no update, no call of `$strobe` and no `$finish`
record Quiet (d : Parts) (k : ℕ) (th : Thread) : Type 0 where
  point : AtPoint d k th.place
  made : th.made ≡ []
  asked : th.asked ≡ []
  fin : th.fin ≡ false

record IsQuietOut (out : Out) : Type 0 where
  update : out.update ≡ None
  call : out.call ≡ None
  finish : out.finish ≡ false

quiet_call : (kind : CallKind) (f : Format) (rest : Todo) (store : Store) (time : ℕ) → is_strobe kind ≡ false → IsQuietOut (called kind f rest store time)
quiet_call Display f rest store time h = record { update = refl; call = refl; finish = refl }
quiet_call Strobe f rest store time h = absurd (true≢false h)

quiet_statement : (s : Statement) (f : Statement-F Statement) (rest : Todo) (store : Store) (time : ℕ) → is_late_effect f ≡ false → IsQuietOut (statement_step s f rest store time)
quiet_statement s (Statement-F.Null n) rest store time h = record { update = refl; call = refl; finish = refl }
quiet_statement s (Statement-F.Assign n t e) rest store time h = record { update = refl; call = refl; finish = refl }
quiet_statement s (Statement-F.Later n ticks t e) rest store time h = absurd (true≢false h)
quiet_statement s (Statement-F.Call n c) rest store time h = quiet_call c.kind (format_of_call c) rest store time h
quiet_statement s (Statement-F.Finish n) rest store time h = absurd (true≢false h)
quiet_statement s (Statement-F.Block all) rest store time h = record { update = refl; call = refl; finish = refl }
quiet_statement s (Statement-F.Delay n ticks body) rest store time h = record { update = refl; call = refl; finish = refl }
quiet_statement s (Statement-F.Event n terms body) rest store time h = record { update = refl; call = refl; finish = refl }
quiet_statement s (Statement-F.If n e x y) rest store time h = record { update = refl; call = refl; finish = refl }
quiet_statement s (Statement-F.Case n kind x items) rest store time h = record { update = refl; call = refl; finish = refl }
quiet_statement s (Statement-F.While n e body) rest store time h = record { update = refl; call = refl; finish = refl }
quiet_statement s (Statement-F.Repeat n signed e body) rest store time h = record { update = refl; call = refl; finish = refl }
quiet_statement s (Statement-F.Forever n body) rest store time h = record { update = refl; call = refl; finish = refl }

quiet_step : (t : Todo) (store : Store) (time : ℕ) → has_late_effect (erased t) ≡ false → IsQuietOut (step t store time)
quiet_step [] store time h = record { update = refl; call = refl; finish = refl }
quiet_step (perform s ∷ rest) store time h = quiet_statement s (out-Statement s) rest store time h
quiet_step (turns n s ∷ rest) store time h = record { update = refl; call = refl; finish = refl }

quiet_turn : (d : Parts) (c : Claims) (k : ℕ) → Block d c k → (time : ℕ) (p : Place) (th : Thread) → th.place ≡ p → Quiet d k th → Quiet d k (turn_at time k p th)
quiet_turn d c k h time (going gait t) th e q = record {
  point = by_next (step t th.view time).next refl;
  made = ap (λ u. updates_after k time u th.made) quiet.update ∙ q.made;
  asked = ap (λ u. calls_after k u th.asked) quiet.call ∙ q.asked;
  fin = ap₂ (λ a b. a || b) q.fin quiet.finish;
}
  where
    point : IsPoint d k (erased t)
    point = subst (AtPoint d k) e q.point

    quiet : IsQuietOut (step t th.view time)
    quiet = quiet_step t th.view time (h.rule.quiet (erased t) h.blk point)

    way : (next : Next) → (step t th.view time).next ≡ next → Goes (erased t) (erased_next next)
    way next is = subst (λ n. Goes (erased t) (erased_next n)) is (step_follows t th.view time)

    by_next : (next : Next) → (step t th.view time).next ≡ next → AtPoint d k (place_after_step (going gait t) time next)
    by_next (on r) is = active_point d k (stepped_gait gait) r (point_on d k (erased t) (on (erased r)) point (way (on r) is))
    by_next (after number ticks r) is = absurd (no_delay d k h.shaped (erased t) (erased r) number ticks point (way (after number ticks r) is))
    by_next (wait number terms r) is = tt
quiet_turn d c k h time (waiting terms t) th e q = q
quiet_turn d c k h time (sleeping due t) th e q = absurd (subst (AtPoint d k) e q.point)
quiet_turn d c k h time (inactive t) th e q = absurd (subst (AtPoint d k) e q.point)
quiet_turn d c k h time ended th e q = q

quiet_iterate : (d : Parts) (c : Claims) (k : ℕ) → Block d c k → (time : ℕ) (store : Store) (n : ℕ) → Quiet d k (iterate n (turn time k) (woken_on d k store))
quiet_iterate d c k h time store zero = record { point = home_point d k h.shaped; made = refl; asked = refl; fin = refl }
quiet_iterate d c k h time store (suc n) = let th = iterate n (turn time k) (woken_on d k store) in quiet_turn d c k h time th.place th refl (quiet_iterate d c k h time store n)

-- ---- its control

-- the terms of each event control of a block are among those of its one control
one_control : (d : Parts) (k : ℕ) (s : Shape d k) (t l : Todo) (number : ℕ) (terms : List EventTerm) → IsPoint d k t → Goes t (wait number terms l) → Sub terms s.terms
one_control d k s t l number terms p g x c =
    subst (λ ts. Contains ts x) (ap (todo_all event_terms_step) (first_is d.processes k s.process s.is) ∙ all_there event_terms_step terms_collect s.process.body ∙ s.text_terms)
    (point_sub event_terms_step terms_collect (first_todo d k) t p x (next_in t (wait number terms l) g x c))

-- what a term of a block covers, its control covers
pub control_covers : (d : Parts) (k : ℕ) → Shape d k → (t : EventTerm) (v w n : ℕ) → HasTerm d k t → covers v w n t.range ≡ true → list_any (covers v w n) (control d k) ≡ true
control_covers d k s t v w n has cov =
    let listed = one_control d k s has.control has.behind has.number has.terms has.point has.goes t has.is in
    let there = place_of s.terms t listed in
    subst (λ (p : Place). list_any (covers v w n) (map (λ (t : EventTerm). t.range) (terms_of p)) ≡ true) (sym s.home)
    (at_any (covers v w n) (map (λ (t : EventTerm). t.range) s.terms) there.0 t.range (map_at (λ (t : EventTerm). t.range) s.terms there.0 t there.1) cov)

-- ---- all

-- a process of kind comb is a block that follows what it reads
pub follows : (d : Parts) (c : Claims) (k : ℕ) → Block d c k → Follows d (reads_of d k) k
follows d c k h = record {
  process = h.shaped.process;
  is = h.shaped.is;
  shape = h.rule.shape h.shaped.process h.blk h.shaped.is;
  covered = λ r w n bit con other cov. elim (h.rule.covered r (record { signal = r.signal; word = w; place = n }) h.blk (con, tt) bit cov) [
    | inl own ↦ absurd (true≢false (sym (contains_any (writes_of d k) own.range r.signal own.listed.0 own.of) ∙ other))
    | inr term ↦ control_covers d k h.shaped term.0 r.signal w n term.1 term.2
  ];
  function = λ m n a b x y sa sb ax ay agree. function d c k h m n a b x y sa sb ax ay agree;
  makes = λ time store th is. subst (λ (t : Thread). t.made ≡ []) is.is (quiet_iterate d c k h time store is.count).made;
  asks = λ time store th is. subst (λ (t : Thread). t.asked ≡ []) is.is (quiet_iterate d c k h time store is.count).asked;
  ends = λ time store th is. subst (λ (t : Thread). t.fin ≡ false) is.is (quiet_iterate d c k h time store is.count).fin;
}
