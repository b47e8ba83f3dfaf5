-- The moves of the continuous assignments of a group.
use Rattle.std.proofs.Common.{◌≡◌, ℕ, zero, suc, ◌+◌, ◌≤◌, ◌<◌, ◌||◌, Bool, true, false, Option, Some, None, List, [], ◌∷◌, length, slice_get, get_or, is_some, if◌then◌else◌, refl, sym, ◌∙◌, ap, subst, arith}
use Rattle.std.proofs.lemmas.Option.{none-some, same_Some, slice_get_past}
use Rattle.vs_design.specs.Parts.{Parts}
use Rattle.vs_run_active.specs.vs_process.specs.declared.moves.Move.{Move}
use Rattle.vs_run_active.specs.vs_process.specs.declared.moves.Move.TheVariants.{Evaluate, Propagate}
use Rattle.vs_run_active.specs.vs_process.specs.Executions.{apply, if_some, is_enabled}
use Rattle.vs_run_active.specs.vs_process.specs.States.{AssignState, State}
use Rattle.vs_run_steps.specs.Turns.{AreMade, is_silent}
use Rattle.vs_run_steps.proofs.MadeLemmas.{made_more, made_then}
use Rattle.vs_run_active.specs.Changes.{MarkChanges}
use Rattle.vs_run_active.proofs.MarkingLemmas.{changes_more as marks_then, changes_none as none_marked}
use Rattle.vs_run_steps.specs.declared.run.RunState.{RunState}
use Rattle.vs_run_steps.specs.Runs.{IsRunOf, marks_of, state_of}
use Rattle.vs_run_steps.specs.Members.{assign_move, members_in}
use Rattle.vs_run_steps.specs.MembersMade.{AreDone, HasBegun}

-- ---- what a group has to do

move_by : (s : State) (j : ℕ) (b : Bool) → is_enabled s (Propagate j) ≡ b → is_enabled s (if b then Propagate j else Evaluate j) ≡ (b || is_enabled s (Evaluate j))
move_by s j true h = h
move_by s j false h = refl

-- a continuous assignment has something to do where it is pending or has to be evaluated
pub move_told : (s : State) (j : ℕ) → is_enabled s (assign_move s.assigns j) ≡ (is_enabled s (Propagate j) || is_enabled s (Evaluate j))
move_told s j = move_by s j (is_enabled s (Propagate j)) refl

pub first_there : (members : List ℕ) (n first : ℕ) → slice_get members 0 ≡ Some first → get_or members 0 n ≡ first
first_there [] n first h = absurd (none-some first h)
first_there (m ∷ ms) n first h = same_Some m first h

pub no_first : (members : List ℕ) (n : ℕ) → slice_get members 0 ≡ None → get_or members 0 n ≡ n
no_first [] n h = refl
no_first (m ∷ ms) n h = absurd (none-some m (sym h))

-- past the end there is nothing to do
past_told : (s : State) (n : ℕ) → n ≡ length s.assigns → is_enabled s (assign_move s.assigns n) ≡ false
past_told s n h =
    let none : slice_get s.assigns n ≡ None = slice_get_past s.assigns n (omega (arith, h)) in
    move_told s n ∙ ap (λ (o : Option AssignState). if_some (λ (x : AssignState). is_some x.pending) o || if_some (λ (x : AssignState). x.needs) o) none

-- ---- moves of members

pub group_told : (s : State) (members : List ℕ) (first : ℕ) → slice_get members 0 ≡ Some first →
    is_enabled s (assign_move s.assigns (get_or members 0 (length s.assigns))) ≡ (is_enabled s (Propagate first) || is_enabled s (Evaluate first))
group_told s members first h =
    ap (λ (j : ℕ). is_enabled s (assign_move s.assigns j)) (first_there members (length s.assigns) first h) ∙ move_told s first

pub no_group_told : (s : State) (members : List ℕ) → slice_get members 0 ≡ None → is_enabled s (assign_move s.assigns (get_or members 0 (length s.assigns))) ≡ false
no_group_told s members h =
    ap (λ (j : ℕ). is_enabled s (assign_move s.assigns j)) (no_first members (length s.assigns) h) ∙ past_told s (length s.assigns) refl

-- none yet
pub none_done : {Q : Type 0} (d : Parts) (limit : ℕ) (r : RunState Q) → IsRunOf d r → AreDone d limit r 0 r
none_done d limit r h = record { run = h; within = omega arith; made = refl; marked = none_marked (marks_of r) (state_of r).store }

-- one more
pub one_done : {Q : Type 0} (d : Parts) (limit taken : ℕ) (old now new : RunState Q) (m : Move) → AreDone d limit old taken now → taken < limit → IsRunOf d new → is_silent m ≡ true →
    is_enabled (state_of now) m ≡ true → state_of new ≡ apply m (state_of now) → MarkChanges (marks_of now) (marks_of new) (state_of now).store (state_of new).store →
    AreDone d limit old (taken + 1) new
one_done d limit taken old now new m h fewer run silent enabled made marked = record {
  run = run;
  within = omega arith;
  made = made_more taken (state_of old) (state_of now) (state_of new) m h.made silent enabled made;
  marked =
      marks_then (marks_of old) (marks_of now) (marks_of new) (state_of old).store (state_of now).store (state_of new).store h.marked marked;
}

-- some more, at most as many as are left
pub some_done : {Q : Type 0} (d : Parts) (limit taken more : ℕ) (old now new : RunState Q) → AreDone d limit old taken now → taken + more ≤ limit → IsRunOf d new →
    AreMade more (state_of now) (state_of new) → MarkChanges (marks_of now) (marks_of new) (state_of now).store (state_of new).store → AreDone d limit old (taken + more) new
some_done d limit taken more old now new h within run made marked = record {
  run = run;
  within = within;
  made = made_then taken more (state_of old) (state_of now) (state_of new) h.made made;
  marked =
      marks_then (marks_of old) (marks_of now) (marks_of new) (state_of old).store (state_of now).store (state_of new).store h.marked marked;
}

-- ---- members one after another

-- where the first member could make a move, some were made after one more member
pub begun_more : {Q : Type 0} (kind : ℕ → Move) (old now : RunState Q) (group i assign taken next : ℕ) (made : Bool) → (i ≡ 0 → now ≡ old) →
    (0 < i → HasBegun (members_in old.watched.tables group) kind (state_of old) taken) → slice_get (members_in now.watched.tables group) i ≡ Some assign →
    made ≡ is_enabled (state_of now) (kind assign) → (made ≡ true → taken < next) → taken ≤ next → HasBegun (members_in old.watched.tables group) kind (state_of old) next
begun_more {Q} kind old now group zero assign taken next made start begun there told grows more = λ first at able.
    let same : now ≡ old = start refl in
    let here : slice_get (members_in old.watched.tables group) 0 ≡ Some assign =
    subst (λ (r : RunState Q). slice_get (members_in r.watched.tables group) 0 ≡ Some assign) same there
    in
    let is : assign ≡ first = same_Some assign first (sym here ∙ at) in
    let yes : made ≡ true =
    told ∙ ap (λ (r : RunState Q). is_enabled (state_of r) (kind assign)) same ∙ ap (λ (j : ℕ). is_enabled (state_of old) (kind j)) is ∙ able
    in
    let one : taken < next = grows yes in omega arith
begun_more kind old now group (suc i) assign taken next made start begun there told grows more = λ first at able.
    let some : 0 < taken = begun (omega arith) first at able in omega arith

-- where no member is left, each was looked at
pub begun_all : {Q : Type 0} (kind : ℕ → Move) (old : RunState Q) (group i taken : ℕ) → (0 < i → HasBegun (members_in old.watched.tables group) kind (state_of old) taken) →
    length (members_in old.watched.tables group) ≤ i → HasBegun (members_in old.watched.tables group) kind (state_of old) taken
begun_all kind old group zero taken begun past = λ first at able.
    absurd (none-some first (sym (slice_get_past (members_in old.watched.tables group) 0 past) ∙ at))
begun_all kind old group (suc i) taken begun past = begun (omega arith)

-- the same number, and the same run
pub done_as : {Q : Type 0} (d : Parts) (limit : ℕ) (old : RunState Q) (taken next : ℕ) (now new : RunState Q) → next ≡ taken → new ≡ now → AreDone d limit old taken now →
    AreDone d limit old next new
done_as {Q} d limit old taken next now new count same h =
    subst (λ (r : RunState Q). AreDone d limit old next r) (sym same) (subst (λ (n : ℕ). AreDone d limit old n now) (sym count) h)
