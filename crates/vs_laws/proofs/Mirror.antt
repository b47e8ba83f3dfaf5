-- A design with a combinational block is disciplined.
use Rattle.vs_process.specs.Edges.{Copies, IsHeard}
use Rattle.vs_process.proofs.Threads.{timed_thread, is_stopped, stopped_stays, stays_from}
use Rattle.std.proofs.Common.{◌≡◌, ℕ, zero, suc, ◌<◌, ◌≤◌, ◌⊎◌, Bool, true, false, Option, Some, None, List, [], ◌∷◌, length, get_or, slice_get, eqb, refl, sym, ◌∙◌, ap, subst, inl, inr, lit<, arith, nat_lt, eqb-true, ◌&&◌, not}
use Rattle.std.specs.declared.alloc.Global.{Global}
use Rattle.std.specs.declared.boxed.Box.{Box}
use Rattle.std.specs.declared.vec.Vec.{Vec}
use Rattle.std.specs.List.{IsDistinct, Contains, list_any}
use Rattle.std.proofs.lemmas.Bool.{true≢false, cases_lt, or_from, or_left, and_from, eqb-false, cond_both, false≢true}
use Rattle.std.proofs.lemmas.List.{get_or_past, length-map, length-set}
use Rattle.std.proofs.lemmas.List.Elements.{All-nil, All-cons}
use Rattle.vs_design.specs.declared.design.Process.{Process}
use Rattle.vs_design.specs.declared.design.ProcessKind.TheVariants.{Always}
use Rattle.vs_independence.specs.vs_process.specs.declared.moves.Move.TheVariants.{Step, Evaluate, Propagate, Make, Rouse, Activate, EndSlot}
use Rattle.vs_independence.specs.vs_process.specs.States.{start, evaluate, propagate, make, stepped, AssignState, Update, place_after_step, propagate_value, roused, woken_at, triggered, State}
use Rattle.vs_independence.specs.vs_process.specs.Steps.{step, assignment}
use Rattle.vs_design.specs.declared.range.BitRange.{BitRange}
use Rattle.vs_design.specs.declared.signal.Signal.{Signal}
use Rattle.vs_design.specs.declared.statement.EventTerm.{EventTerm}
use Rattle.vs_design.specs.declared.statement.Statement.{Statement, out-Statement}
use Rattle.vs_design.specs.declared.statement.Statement.TheVariants as y
use Rattle.vs_design.specs.declared.statement.Statement.TheOpen as f
use Rattle.vs_design.specs.declared.statement.Statement.TheFolds.{fold-roll-Statement}
use Rattle.vs_design.specs.Statements.{has_control, has_control_step}
use Rattle.vs_design.specs.Stores.{Store, put, is_changed, start_store}
use Rattle.vs_design.specs.Uses.{covers, reads, whole, is_of}
use Rattle.vs_process.specs.Bits.{meet_in}
use Rattle.vs_design.specs.Uses as uses
use Rattle.vs_design.specs.WellFormed.{WellFormed, are_sound_terms, is_sound_process, is_sound_statement, numbers, sound_step, counts_from, is_forever}
use Rattle.vs_independence.specs.vs_process.specs.Places.{ended, Place, todo_of, waiting}
use Rattle.vs_independence.specs.vs_process.specs.declared.moves.Grain.TheVariants.{Block}
use Rattle.vs_independence.specs.vs_process.specs.Executions.{after, ends, is_combinational, next_time, places_at}
use Rattle.vs_process.specs.Writes.{statement_writes, statement_writes_step}
use Rattle.vs_process.specs.BlockDrivers.{Start, cold, starter, Roles, sources, control, home, outputs, puts_out, puts_into, woken_on, sizes, AgreeOn, Arrives, IsBlock, SameOutputs, IsSource}
use Rattle.vs_laws.specs.Mirror.{ABlockIsDisciplined, change, copied, mirroring, one_of, watching}
use Rattle.vs_laws.specs.Race.{name, operand, target}
use Rattle.vs_process.specs.Threads.{Awaits, Fired, found, IsThread, Thread, any_names, early_at, early_turn, iterate, opening, place_reads, turn, writes}
use Rattle.vs_laws.proofs.Race.{reads_operand, size_operand}
use Rattle.vs_laws.proofs.Carry.{stays_open}
use Rattle.vs_independence.specs.vs_process.proofs.Ranges.{IsFixed, assigned_fixed, covered_fixes, fixed_write}
use Rattle.vs_independence.specs.vs_process.specs.declared.moves.Move.{Move}
use Rattle.vs_design.specs.Writes.{Write, names}
use Rattle.vs_process.proofs.Held.{puts_covered}
use Rattle.vs_process.proofs.ThreadsNamed.{named}
use Rattle.vs_process.proofs.Settle.{same_fixed}
use Rattle.vs_independence.specs.vs_process.proofs.Stores.{shape-put}
use Rattle.vs_process.specs.vs_eval.specs.Values.{target_value}
use Rattle.vs_independence.specs.vs_process.proofs.Values.{target_value_unchanged}
use Rattle.vs_independence.specs.vs_process.proofs.Digits.{put_again}
use Rattle.vs_independence.specs.Discipline.{BeginsSlot, Disciplined, KeepsApart}
use Rattle.vs_process.specs.vs_eval.specs.Targets.{assigned}
use Rattle.vs_independence.proofs.Whole.{independent}
use Rattle.vs_independence.proofs.Moves.{length_behind, performed_is}
use Rattle.std.proofs.lemmas.Option.{none-some}
use Rattle.vs_process.proofs.ThreadAssigns.{places_after_write}
use Rattle.vs_laws.specs.Rise.{terms}
use Rattle.vs_design.specs.vs_logic4.proofs.Basics.{declared_at}
use Rattle.vs_design.proofs.FormLemmas.{numbers_Assign as numbers_assign, numbers_Forever, numbers_Event, sound_Assign as sound_assign, sound_Forever}

-- ---- folds

sound_event : (ss : List Signal) (n : ℕ) (terms : Vec EventTerm Global) (body : Box Statement Global) → are_sound_terms ss terms.items ≡ true → is_sound_statement ss (y.Event n terms body) ≡ is_sound_statement ss body.value
sound_event ss n terms body h =
    ap (is_sound_statement ss) (sym (y.rolls-Event n terms body)) ∙ fold-roll-Statement Bool (sound_step ss) (f.Event n terms body) ∙ ap (λ b. b && is_sound_statement ss body.value) h

writes_copied : (g : Global) → statement_writes (watching g) ≡ uses.writes (target g 1)
writes_copied g =
    ap statement_writes (sym (y.rolls-Forever 0 _)) ∙ fold-roll-Statement (List BitRange) statement_writes_step (f.Forever 0 _)
    ∙ ap statement_writes (sym (y.rolls-Event 1 (one_of g change) _)) ∙ fold-roll-Statement (List BitRange) statement_writes_step (f.Event 1 (one_of g change) _)
    ∙ ap statement_writes (sym (y.rolls-Assign 2 (target g 1) (operand 0))) ∙ fold-roll-Statement (List BitRange) statement_writes_step (f.Assign 2 (target g 1) (operand 0))

-- ---- it is well formed

sound : (g : Global) → is_sound_statement (mirroring g).signals (watching g) ≡ true
sound g =
    sound_Forever (mirroring g).signals 0 _ ∙ sound_event (mirroring g).signals 1 (one_of g change) _ refl ∙ sound_assign (mirroring g).signals 2 (target g 1) (operand 0) ∙ rw (reads_operand 0, size_operand 0) refl

counted : (g : Global) → numbers (watching g) ≡ 0 ∷ 1 ∷ 2 ∷ []
counted g = numbers_Forever 0 _ ∙ ap (λ l. 0 ∷ l) (numbers_Event 1 (one_of g change) _ ∙ ap (λ l. 1 ∷ l) (numbers_assign 2 (target g 1) (operand 0)))

abbrev the_process : Global → Process
the_process g = record { name = name g 116 35 112 48; kind = Always; body = watching g }

abbrev SoundProcess : Global → Process → Type 0
SoundProcess g p = is_sound_process (mirroring g).signals p ≡ true

is_loop : (g : Global) → is_forever (out-Statement (watching g)) ≡ true
unfolding out-Statement denote.Hole.Carrier.out
is_loop g = refl

process_sound : (g : Global) → is_sound_process (mirroring g).signals (the_process g) ≡ true
process_sound g =
    and_from (is_sound_statement (mirroring g).signals (watching g) && counts_from 0 (numbers (watching g))) (is_forever (out-Statement (watching g)))
    (and_from (is_sound_statement (mirroring g).signals (watching g)) (counts_from 0 (numbers (watching g))) (sound g) (ap (counts_from 0) (counted g))) (is_loop g)

formed : (g : Global) → WellFormed (mirroring g)
unfolding IsDistinct
formed g = record {
  processes = All-cons (SoundProcess g) (the_process g) [] (process_sound g) (All-nil (SoundProcess g));
  assigns = All-nil _;
  drivers = tt;
  declared = All-cons (λ n. nat_lt n 2 ≡ true) 0 (1 ∷ []) refl (All-cons (λ n. nat_lt n 2 ≡ true) 1 [] refl (All-nil (λ n. nat_lt n 2 ≡ true)));
  declared_once = ((refl, tt), (tt, tt));
  all_declared = declared_at;
  paths = ((refl, tt), (tt, tt));
  names = (tt, tt);
  assign_names = tt;
}

-- ---- its block

abbrev only_block : ℕ → Bool
only_block k = eqb k 0

abbrev mirror_roles : Roles
mirror_roles = record { blocks = only_block; inputs = λ k. whole 0 ∷ []; start = λ k. sources }

uncontrolled : (g : Global) → has_control (copied g) ≡ false
uncontrolled g = ap has_control (sym (y.rolls-Assign 2 (target g 1) (operand 0))) ∙ fold-roll-Statement Bool has_control_step (f.Assign 2 (target g 1) (operand 0))

combinational : (g : Global) → is_combinational (the_process g) ≡ true
unfolding out-Statement denote.Hole.Carrier.out
combinational g = ap not (uncontrolled g)

control_is : (g : Global) → control (mirroring g) 0 ≡ whole 0 ∷ []
unfolding out-Statement denote.Hole.Carrier.out
control_is g = refl

outputs_is : (g : Global) → outputs (mirroring g) 0 ≡ uses.writes (target g 1)
outputs_is g = writes_copied g

one_range : (q r : BitRange) → Contains (q ∷ []) r → q ≡ r
one_range q r (zero, within, is) = is
one_range q r (suc n, within, is) = absurd (omega (arith, within))

-- what it writes, on a store
abbrev mirrored : Global → Store → Write
mirrored g store = assignment (target g 1) (operand 0) store 0

-- three turns lead it to its control, and it has written once
abbrev third : Global → ℕ → Store → Thread
third g time store = iterate 3 (turn time 0) (woken_on (mirroring g) 0 store)

third_home : (g : Global) (time : ℕ) (store : Store) → (third g time store).place ≡ home (mirroring g) 0
unfolding out-Statement denote.Hole.Carrier.out
third_home g time store = refl

third_view : (g : Global) (time : ℕ) (store : Store) → (third g time store).view ≡ put store (assignment (target g 1) (operand 0) store time)
unfolding out-Statement denote.Hole.Carrier.out
third_view g time store = refl

home_waits : (g : Global) → is_stopped (home (mirroring g) 0) ≡ true
unfolding out-Statement denote.Hole.Carrier.out
home_waits g = refl

-- from then on it stays
past_third : (g : Global) (time : ℕ) (store : Store) (n : ℕ) → 3 ≤ n → iterate n (turn time 0) (woken_on (mirroring g) 0 store) ≡ third g time store
past_third g time store n le =
    let th = third g time store in
    stays_from (turn time 0) (woken_on (mirroring g) 0 store) 3 n le (stopped_stays time 0 th.place th (ap is_stopped (third_home g time store) ∙ home_waits g))

third_made : (g : Global) (time : ℕ) (store : Store) → ((third g time store).made ≡ []) × ((third g time store).asked ≡ []) × ((third g time store).fin ≡ false)
unfolding out-Statement denote.Hole.Carrier.out
third_made g time store = (refl, refl, refl)

early_turns : (g : Global) (time : ℕ) (store : Store) (n : ℕ) → n < 3 → ((iterate n (turn time 0) (woken_on (mirroring g) 0 store)).made ≡ []) × ((iterate n (turn time 0) (woken_on (mirroring g) 0 store)).asked ≡ []) × ((iterate n (turn time 0) (woken_on (mirroring g) 0 store)).fin ≡ false)
unfolding out-Statement denote.Hole.Carrier.out
early_turns g time store zero lt = (refl, refl, refl)
early_turns g time store (suc zero) lt = (refl, refl, refl)
early_turns g time store (suc (suc zero)) lt = (refl, refl, refl)
early_turns g time store (suc (suc (suc n))) lt = absurd (omega (arith, lt))

-- it makes nothing else, however far it has come
makes_nothing : (g : Global) (time : ℕ) (store : Store) (n : ℕ) → let th = iterate n (turn time 0) (woken_on (mirroring g) 0 store) in (th.made ≡ []) × (th.asked ≡ []) × (th.fin ≡ false)
makes_nothing g time store n = by_count n (cases_lt n 3)
  where
    Nothing : ℕ → Type 0
    Nothing n = ((iterate n (turn time 0) (woken_on (mirroring g) 0 store)).made ≡ []) × ((iterate n (turn time 0) (woken_on (mirroring g) 0 store)).asked ≡ []) × ((iterate n (turn time 0) (woken_on (mirroring g) 0 store)).fin ≡ false)

    by_count : (n : ℕ) → ((n < 3) ⊎ (3 ≤ n)) → Nothing n
    by_count n (inl lt) = early_turns g time store n lt
    by_count n (inr le) = subst (λ (t : Thread). (t.made ≡ []) × (t.asked ≡ []) × (t.fin ≡ false)) (sym (past_third g time store n le)) (third_made g time store)

-- before that it is not there
not_yet : (g : Global) (time : ℕ) (store : Store) (n : ℕ) → n < 3 → is_stopped (iterate n (turn time 0) (woken_on (mirroring g) 0 store)).place ≡ false
unfolding out-Statement denote.Hole.Carrier.out
not_yet g time store zero lt = refl
not_yet g time store (suc zero) lt = refl
not_yet g time store (suc (suc zero)) lt = refl
not_yet g time store (suc (suc (suc n))) lt = absurd (omega (arith, lt))

arrived : (g : Global) (time : ℕ) (store : Store) (th : Thread) → Arrives (mirroring g) 0 time store th → th.view ≡ put store (assignment (target g 1) (operand 0) store time)
arrived g time store th a = elim (cases_lt a.run.count 3) [
  | inl lt ↦ absurd (true≢false (sym (ap is_stopped (ap (λ (t : Thread). t.place) a.run.is ∙ a.home) ∙ home_waits g) ∙ not_yet g time store a.run.count lt))
  | inr le ↦ ap (λ (t : Thread). t.view) (sym a.run.is ∙ past_third g time store a.run.count le) ∙ third_view g time store
]

function : (g : Global) (m n : ℕ) (a b : Store) (x y : Thread) → sizes a ≡ sizes (start_store (mirroring g)) → sizes b ≡ sizes (start_store (mirroring g)) → Arrives (mirroring g) 0 m a x → Arrives (mirroring g) 0 n b y →
    AgreeOn (mirroring g) 0 (whole 0 ∷ []) a b → SameOutputs (mirroring g) 0 x.view y.view
function g m n a b x y sized_a sized_b at_x at_y agree v w k hit =
    same_fixed x.view y.view wrote v w k (shaped_x ∙ sym shaped_y) (covered_fixes (target g 1) (target_value (target g 1) (operand 0) a m) v w k refl_fixed (ap (list_any (covers v w k)) (sym (outputs_is g)) ∙ hit)) left_x left_y
  where
    wrote : Write
    wrote = fixed_write (target g 1) (target_value (target g 1) (operand 0) a m)

    refl_fixed : IsFixed (target g 1)
    refl_fixed = refl

    unread : is_changed a b (whole 0) ≡ false
    unread = agree (whole 0) (0, lit< tt, refl) (ap (list_any (is_of 0)) (outputs_is g))

    same_value : target_value (target g 1) (operand 0) b n ≡ target_value (target g 1) (operand 0) a m
    same_value = sym (target_value_unchanged a b m n (target g 1) (operand 0) (ap (list_any (is_changed a b)) (reads_operand 0) ∙ or_from (is_changed a b (whole 0)) false unread refl))

    view_x : x.view ≡ put a wrote
    view_x = arrived g m a x at_x ∙ ap (put a) (assigned_fixed (target g 1) (target_value (target g 1) (operand 0) a m) a m refl_fixed)

    view_y : y.view ≡ put b wrote
    view_y = arrived g n b y at_y ∙ ap (put b) (assigned_fixed (target g 1) (target_value (target g 1) (operand 0) b n) b n refl_fixed) ∙ ap (λ ds. put b (fixed_write (target g 1) ds)) same_value

    shaped_x : sizes x.view ≡ sizes (start_store (mirroring g))
    shaped_x = ap sizes view_x ∙ shape-put a wrote ∙ sized_a

    shaped_y : sizes y.view ≡ sizes (start_store (mirroring g))
    shaped_y = ap sizes view_y ∙ shape-put b wrote ∙ sized_b

    left_x : put x.view wrote ≡ x.view
    left_x = ap (λ s. put s wrote) view_x ∙ put_again a wrote ∙ sym view_x

    left_y : put y.view wrote ≡ y.view
    left_y = ap (λ s. put s wrote) view_y ∙ put_again b wrote ∙ sym view_y

block_is : (g : Global) → IsBlock (mirroring g) (whole 0 ∷ []) 0
block_is g = record {
  process = the_process g;
  is = refl;
  shape = combinational g;
  covered = λ r w n bit named other at_r. ap (list_any (covers r.signal w n)) (control_is g) ∙ ap (λ (q : BitRange). list_any (covers r.signal w n) (q ∷ [])) (one_range (whole 0) r named) ∙ or_left (covers r.signal w n r) false at_r;
  function = function g;
  makes = λ time store th run. ap (λ (t : Thread). t.made) (sym run.is) ∙ (makes_nothing g time store run.count).0;
  asks = λ time store th run. ap (λ (t : Thread). t.asked) (sym run.is) ∙ (makes_nothing g time store run.count).1;
  ends = λ time store th run. ap (λ (t : Thread). t.fin) (sym run.is) ∙ (makes_nothing g time store run.count).2;
}

only_one : (k : ℕ) → only_block k ≡ true → 0 ≡ k
only_one k is = sym (eqb-true k 0 is)

follows : (g : Global) (k : ℕ) → only_block k ≡ true → IsBlock (mirroring g) (whole 0 ∷ []) k
follows g k is = subst (IsBlock (mirroring g) (whole 0 ∷ [])) (only_one k is) (block_is g)

-- ---- its processes

stepped_length : (s : State) (i : ℕ) (o : Option Place) → length (stepped s i o).places ≡ length s.places
stepped_length s i None = refl
stepped_length s i (Some p) =
    let out = step (todo_of p) s.store s.time in
    ap (λ (t : State). length t.places) (performed_is s i p out) ∙ length-set (places_after_write s.store out.write s.places) i (place_after_step p s.time out.next) ∙ length_behind s.store out.write s.places

evaluated_length : (s : State) (j : ℕ) (o : Option AssignState) → length (evaluate s j o).places ≡ length s.places
evaluated_length s j None = refl
evaluated_length s j (Some x) = refl

propagated_length : (s : State) (j : ℕ) (o : Option AssignState) → length (propagate s j o).places ≡ length s.places
propagated_length s j None = refl
propagated_length s j (Some x) = at_value x.pending
  where
    at_value : (o : _) → length (propagate_value s j x o).places ≡ length s.places
    at_value None = refl
    at_value (Some digits) = length_behind s.store (Some (assigned x.target digits s.store s.time)) s.places

made_length : (s : State) (i : ℕ) (o : Option Update) → length (make s i o).places ≡ length s.places
made_length s i None = refl
made_length s i (Some u) = length_behind s.store (Some u.what) s.places

slot_length : (over : Bool) (next : Option ℕ) (places : List Place) → length (places_at over next places) ≡ length places
slot_length true next places = refl
slot_length false None places = refl
slot_length false (Some t) places = length-map places (woken_at t)

one_place : (g : Global) (moves : List Move) → length (after (mirroring g) moves).places ≡ 1
one_place g [] = refl
one_place g (Step i ∷ moves) = let s = after (mirroring g) moves in stepped_length s i (slice_get s.places i) ∙ one_place g moves
one_place g (Evaluate j ∷ moves) = let s = after (mirroring g) moves in evaluated_length s j (slice_get s.assigns j) ∙ one_place g moves
one_place g (Propagate j ∷ moves) = let s = after (mirroring g) moves in propagated_length s j (slice_get s.assigns j) ∙ one_place g moves
one_place g (Make i ∷ moves) = let s = after (mirroring g) moves in made_length s i (slice_get s.updates i) ∙ one_place g moves
one_place g (Rouse ∷ moves) = length-map (after (mirroring g) moves).places roused ∙ one_place g moves
one_place g (Activate ∷ moves) = one_place g moves
one_place g (EndSlot ∷ moves) = let s = after (mirroring g) moves in slot_length (ends s) (next_time s) s.places ∙ one_place g moves

-- no thread has anything to do
thread_over : (b : State) → length b.places ≡ 1 → (i : ℕ) → found only_block b i ≡ ended
thread_over b one i =
    cond_both (only_block i) ended (get_or b.places i ended) (λ p. p ≡ ended) (λ e. refl)
    (λ e. let ne : i ≡ 0 → ⊥ = eqb-false i 0 e in get_or_past b.places i ended (omega (arith, one, ne)))

-- fired or not, it is nowhere and has made nothing
record IsNowhere (th : Thread) : Type 0 where
  place : th.place ≡ ended
  log : th.log ≡ []
  made : th.made ≡ []

opens_nowhere : (b : State) → length b.places ≡ 1 → (i : ℕ) (o : Option Fired) → IsNowhere (opening only_block b i o)
opens_nowhere b one i None = record { place = thread_over b one i; log = refl; made = refl }
opens_nowhere b one i (Some f) = record { place = ap triggered (thread_over b one i); log = refl; made = refl }

early_silent : (b : State) → length b.places ≡ 1 → (i n : ℕ) → iterate n (early_turn b.time i) (opening only_block b i None) ≡ opening only_block b i None
early_silent b one i zero = refl
early_silent b one i (suc n) = ap (early_turn b.time i) (early_silent b one i n) ∙ ap (λ p. early_at b.time i p (opening only_block b i None)) (thread_over b one i)

apart : (g : Global) (b : State) → BeginsSlot Block (mirroring g) b → KeepsApart (mirroring g) only_block b
apart g b begins = record {
  only = λ i k v th other is that wrote by. absurd (true≢false (sym wrote ∙ none i v th is));
  only_later = λ i k v th other is that made by. absurd (true≢false (sym made ∙ none_later i v th is));
  outputs_alone = λ i k v th is at_k hit. none i v th is;
  outputs_alone_later = λ i k v th is at_k hit. none_later i v th is;
  reads_others = λ i k u r th other is that named wrote reach. absurd (blind i r th is named);
  reads_own = λ i u r th is named wrote reach. absurd (blind i r th is named);
  reads_settled = λ i j u r th x is named at_j needs hit reach. blind i r th is named;
  reads_rested = λ i k u r th is named at_k goes hit reach. blind i r th is named;
  root_timed = λ i root th r is wrote. absurd (true≢false (sym wrote ∙ none i root th is));
  root_once = λ i root th later r is that wrote more. absurd (true≢false (sym wrote ∙ none i root th (timed_thread (mirroring g) only_block b i th is)));
  root_now = λ i root th r is made. true≢false (sym made ∙ none_later i root th is);
  unfired = λ i th f is awaits other. deaf i th f (timed_thread (mirroring g) only_block b i th is) awaits;
  fired_by_one = λ i th other f h waits is that awaits also. absurd (deaf i th f is awaits);
}
  where
    one : length b.places ≡ 1
    one = ap (λ (s : State). length s.places) (sym begins.is) ∙ one_place g begins.moves

    nowhere : (i : ℕ) (th : Thread) → IsThread (mirroring g) only_block b i th → IsNowhere th
    nowhere i th is =
        let opened = opens_nowhere b one i is.input in
        subst IsNowhere (sym (stays_open b.time i is.count (opening only_block b i is.input) opened.place) ∙ is.is) opened

    none : (i v : ℕ) (th : Thread) → IsThread (mirroring g) only_block b i th → writes th v ≡ false
    none i v th is = ap (λ l. list_any (λ w. names w v) l) (nowhere i th is).log

    none_later : (i v : ℕ) (th : Thread) → IsThread (mirroring g) only_block b i th → any_names th.made v ≡ false
    none_later i v th is = ap (λ l. any_names l v) (nowhere i th is).made

    blind : (i : ℕ) (r : BitRange) (th : Thread) → IsThread (mirroring g) only_block b i th → Contains (place_reads th.place) r → ⊥
    blind i r th is named =
        let nothing : Contains [] r = subst (λ p. Contains (place_reads p) r) (nowhere i th is).place named in
        let within = nothing.1 in
        omega (arith, within)

    deaf : (i : ℕ) (th : Thread) (f : Fired) → IsThread (mirroring g) only_block b i th → Awaits (mirroring g) only_block b th f → ⊥
    deaf i th f is awaits = let no_way : ended ≡ waiting awaits.terms awaits.todo = sym (nowhere i th is).place ∙ awaits.at in cc

edges : (g : Global) (v : ℕ) → IsHeard (mirroring g) only_block v → (root : ℕ) × Copies (mirroring g) root v × IsSource (mirroring g) only_block root
edges g v heard = by_number heard.number heard.other heard.is
  where
    by_number : (n : ℕ) → only_block n ≡ false → slice_get (mirroring g).processes n ≡ Some heard.process → (root : ℕ) × Copies (mirroring g) root v × IsSource (mirroring g) only_block root
    by_number zero other is = absurd (true≢false other)
    by_number (suc n) other is = absurd (none-some heard.process is)

unwritten : (g : Global) (k : ℕ) → only_block k ≡ true → puts_out (mirroring g) k 0 ≡ false
unwritten g k is = subst (λ l. puts_out (mirroring g) l 0 ≡ false) (only_one k is) (ap (list_any (is_of 0)) (outputs_is g))

unfed : (g : Global) (k : ℕ) → only_block k ≡ true → puts_into (mirroring g) k (whole 0) ≡ false
unfed g k is = subst (λ l. puts_into (mirroring g) l (whole 0) ≡ false) (only_one k is) (ap (list_any (λ (q : BitRange). meet_in (mirroring g) q (whole 0))) (outputs_is g))

source_0 : (g : Global) → IsSource (mirroring g) only_block 0
source_0 g = record { undriven = refl; unwritten = unwritten g }

abbrev is_starter : Start → Bool
is_starter cold = false
is_starter sources = false
is_starter starter = true

disciplined : (g : Global) → Disciplined Block (mirroring g)
disciplined g = record {
  roles = mirror_roles;
  grained = λ k is. refl;
  follows = follows g;
  exclusive = λ k l v at_k at_l hit own. sym (only_one k at_k) ∙ only_one l at_l;
  starts = λ k is r named other.
      let e : whole 0 ≡ r = one_range (whole 0) r (subst (λ l. Contains l r) (control_is g) (subst (λ l. Contains (control (mirroring g) l) r) (sym (only_one k is)) named)) in
      subst (λ (q : BitRange). IsSource (mirroring g) only_block q.signal) e (source_0 g);
  unstarted = λ k l q r is c named at_l s_l into. absurd (false≢true (ap is_starter s_l));
  ordered = record {
    rank = λ j. 0;
    block_rank = λ k. 0;
    falls = λ i j a c r at_i. absurd (none-some a at_i);
    falls_from_block = λ k j c r is at_j. absurd (none-some c at_j);
    falls_to_block = λ i k a r at_i. absurd (none-some a at_i);
    falls_between = λ l k r at_l at_k named other shares.
        let into = puts_covered (mirroring g) l r r.signal shares.word shares.place shares.bit shares.listed shares.has in
        absurd (true≢false (sym into ∙ ap (puts_into (mirroring g) l) (sym (one_range (whole 0) r named)) ∙ unfed g l at_l));
  };
  edges = edges g;
  apart = apart g;
  first = λ i k u r th early is named wrote.
      absurd (true≢false (sym wrote ∙ ap (λ t. writes t u) (sym early.is ∙ early_silent (start (mirroring g)) refl i early.count)));
}

pub mirror : ABlockIsDisciplined
unfolding disciplined
mirror g = (formed g, disciplined g, refl, independent Block (mirroring g) (formed g) (disciplined g))
