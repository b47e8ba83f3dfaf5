-- Every word of every signal keeps its size.
use Rattle.std.proofs.Common.{◌≡◌, ℕ, zero, suc, ◌<◌, Option, Some, None, List, [], ◌∷◌, length, replicate, map, slice_get, refl, sym, ap, ◌∙◌, subst, arith}
use Rattle.std.specs.Prelude.{All}
use Rattle.std.proofs.lemmas.List.Elements.{All-nil, All-cons, All-append}
use Rattle.vs_design.specs.vs_logic4.specs.declared.digit.Digit.{Digit}
use Rattle.vs_design.specs.declared.design.Assign.{Assign}
use Rattle.vs_design.specs.declared.signal.Signal.{Signal}
use Rattle.vs_design.specs.Parts.{Parts}
use Rattle.vs_design.specs.Stores.{Store, word_of, start_store, start_word, start_words}
use Rattle.vs_design.specs.Traces.{Slot}
use Rattle.vs_design.specs.Writes.{Write}
use Rattle.vs_eval.specs.Targets.{assigned}
use Rattle.vs_process.specs.Places.{Place, todo_of}
use Rattle.vs_process.specs.Steps.{step}
use Rattle.vs_process.specs.declared.moves.Move.{Move}
use Rattle.vs_process.specs.declared.moves.Move.TheVariants.{Step, Evaluate, Propagate, Make, Rouse, Activate, EndSlot}
use Rattle.vs_process.specs.States.{State, AssignState, Update, stepped, written_after, evaluate, propagate_value, propagate, make}
use Rattle.vs_process.specs.Executions.{after, apply, ended_slot, slots}
use Rattle.vs_process.specs.Laws.{IsStoreOf, StoresAreSized}
use Rattle.vs_design.proofs.Drivers.{length-start_digits}
use Rattle.vs_process.proofs.Stores.{shape, shape-put}

-- ---- moves keep the shape

behind_shape : (s : State) (o : Option Write) → shape (written_after s o).store ≡ shape s.store
behind_shape s None = refl
behind_shape s (Some w) = shape-put s.store w

stepped_shape : (s : State) (i : ℕ) (o : Option Place) → shape (stepped s i o).store ≡ shape s.store
stepped_shape s i None = refl
stepped_shape s i (Some place) = behind_shape s (step (todo_of place) s.store s.time).write

evaluate_shape : (s : State) (j : ℕ) (o : Option AssignState) → shape (evaluate s j o).store ≡ shape s.store
evaluate_shape s j None = refl
evaluate_shape s j (Some x) = refl

value_shape : (s : State) (j : ℕ) (x : AssignState) (o : Option (List Digit)) → shape (propagate_value s j x o).store ≡ shape s.store
value_shape s j x None = refl
value_shape s j x (Some digits) = shape-put s.store (assigned x.target digits s.store s.time)

propagate_shape : (s : State) (j : ℕ) (o : Option AssignState) → shape (propagate s j o).store ≡ shape s.store
propagate_shape s j None = refl
propagate_shape s j (Some x) = value_shape s j x x.pending

make_shape : (s : State) (i : ℕ) (o : Option Update) → shape (make s i o).store ≡ shape s.store
make_shape s i None = refl
make_shape s i (Some u) = shape-put s.store u.what

applied_shape : (m : Move) (s : State) → shape (apply m s).store ≡ shape s.store
applied_shape (Step i) s = stepped_shape s i (slice_get s.places i)
applied_shape (Evaluate j) s = evaluate_shape s j (slice_get s.assigns j)
applied_shape (Propagate j) s = propagate_shape s j (slice_get s.assigns j)
applied_shape (Make i) s = make_shape s i (slice_get s.updates i)
applied_shape Rouse s = refl
applied_shape Activate s = refl
applied_shape EndSlot s = refl

after_shape : (d : Parts) (moves : List Move) → shape (after d moves).store ≡ shape (start_store d)
after_shape d [] = refl
after_shape d (m ∷ before) = applied_shape m (after d before) ∙ after_shape d before

-- ---- the shape of the first store

replicate_at : {A : Type 0} (n k : ℕ) (x : A) → k < n → slice_get (replicate n x) k ≡ Some x
replicate_at zero k x h = absurd (omega (arith, h))
replicate_at (suc n) zero x h = refl
replicate_at (suc n) (suc k) x h = replicate_at n k x (omega (arith, h))

start_word_at : (assigns : List Assign) (first : ℕ) (ss : List Signal) (v w : ℕ) (s : Signal) → slice_get ss v ≡ Some s → w < s.count →
    (digits : List Digit) × (word_of (start_words assigns first ss) v w ≡ Some digits) × (length digits ≡ s.width)
start_word_at assigns first [] v w s is h = cc
start_word_at assigns first (z ∷ ss) zero w s is h =
    let same : z ≡ s = cc in
    subst (λ (x : Signal). (digits : List Digit) × (word_of (start_words assigns first (z ∷ ss)) zero w ≡ Some digits) × (length digits ≡ x.width)) same (
      start_word assigns first z,
      replicate_at z.count w (start_word assigns first z) (subst (λ (x : Signal). w < x.count) (sym same) h),
      length-start_digits _ z.kind 0 z.width,
    )
start_word_at assigns first (z ∷ ss) (suc v) w s is h = start_word_at assigns (suc first) ss v w s is h

-- ---- stores of one shape

word_sized : (a b : List (List Digit)) (w : ℕ) (digits : List Digit) → map length a ≡ map length b → slice_get a w ≡ Some digits →
    (other : List Digit) × (slice_get b w ≡ Some other) × (length other ≡ length digits)
word_sized [] b w digits e is = cc
word_sized (x ∷ a) [] w digits e is = cc
word_sized (x ∷ a) (y ∷ b) zero digits e is =
    let same : x ≡ digits = cc in
    let size : length y ≡ length x = cc in
    (y, refl, size ∙ ap length same)
word_sized (x ∷ a) (y ∷ b) (suc w) digits e is =
    let rest : map length a ≡ map length b = cc in
    word_sized a b w digits rest is

store_sized : (a b : Store) (v w : ℕ) (digits : List Digit) → shape a ≡ shape b → word_of a v w ≡ Some digits →
    (other : List Digit) × (word_of b v w ≡ Some other) × (length other ≡ length digits)
store_sized [] b v w digits e is = cc
store_sized (x ∷ a) [] v w digits e is = cc
store_sized (x ∷ a) (y ∷ b) zero w digits e is =
    let first : map length x ≡ map length y = cc in
    word_sized x y w digits first is
store_sized (x ∷ a) (y ∷ b) (suc v) w digits e is =
    let rest : shape a ≡ shape b = cc in
    store_sized a b v w digits rest is

state_sized : (d : Parts) (moves : List Move) → IsStoreOf d (after d moves).store
state_sized d moves signal word s is within =
    let begun = start_word_at d.assigns 0 d.signals signal word s is within in
    let now = store_sized (start_store d) (after d moves).store signal word begun.0 (sym (after_shape d moves)) begun.1 in
    (now.0, now.1, now.2 ∙ begun.2)

-- ---- slots

ended_sized : (d : Parts) (moves : List Move) (m : Move) → All (λ (s : Slot). IsStoreOf d s.store) (ended_slot m (after d moves))
ended_sized d moves EndSlot = All-cons (λ (s : Slot). IsStoreOf d s.store) _ [] (state_sized d moves) (All-nil (λ (s : Slot). IsStoreOf d s.store))
ended_sized d moves (Step i) = All-nil (λ (s : Slot). IsStoreOf d s.store)
ended_sized d moves (Evaluate j) = All-nil (λ (s : Slot). IsStoreOf d s.store)
ended_sized d moves (Propagate j) = All-nil (λ (s : Slot). IsStoreOf d s.store)
ended_sized d moves (Make i) = All-nil (λ (s : Slot). IsStoreOf d s.store)
ended_sized d moves Rouse = All-nil (λ (s : Slot). IsStoreOf d s.store)
ended_sized d moves Activate = All-nil (λ (s : Slot). IsStoreOf d s.store)

slots_sized : (d : Parts) (moves : List Move) → All (λ (s : Slot). IsStoreOf d s.store) (slots d moves)
slots_sized d [] = All-nil (λ (s : Slot). IsStoreOf d s.store)
slots_sized d (m ∷ before) = All-append (λ (s : Slot). IsStoreOf d s.store) (slots d before) (ended_slot m (after d before)) (slots_sized d before) (ended_sized d before m)

pub stores_are_sized : StoresAreSized
stores_are_sized = record { states = state_sized; slots = slots_sized }
