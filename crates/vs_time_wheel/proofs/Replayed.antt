-- Calls on bags: two bags that are alike stay alike, and calls one after another.
use Rattle.std.proofs.Common.{◌≡◌, ℕ, ◌≤◌, List, [], ◌∷◌, ◌++◌, refl, sym, ap, ◌∙◌, subst, arith, take, length, length-append, append_assoc}
use Rattle.std.specs.Option.{ForSome}
use Rattle.std.proofs.lemmas.List.{append-nil}
use Rattle.std.proofs.Math.Seq.{take-append_seam}
use Rattle.vs_time_wheel.specs.declared.timing.Timed.{Timed}
use Rattle.vs_time_wheel.specs.declared.calls.QueueCall.{QueueCall}
use Rattle.vs_time_wheel.specs.declared.calls.QueueCall.TheVariants.{Schedule, NextTime, TakeDue, Now}
use Rattle.vs_time_wheel.specs.declared.calls.QueueAnswer.{QueueAnswer}
use Rattle.vs_time_wheel.specs.declared.calls.QueueAnswer.TheVariants.{Next, Due}
use Rattle.vs_time_wheel.specs.Bag.{SameBag}
use Rattle.vs_time_wheel.specs.Calls.{IsAllowed, answer_of, bag_after, clock_after, AreAllowed, answers_of, bag_in_the_end, clock_in_the_end, AnswerAlike, IsAfterFirst}
use Rattle.vs_time_wheel.proofs.Bags.{SameBag-sym, SameBag-trans, least_time-same, oldest_at-same, SameBag-append, SameBag-without_oldest}

-- ---- one call
IsAllowed-same : {E : Type 0} (call : QueueCall E) (a b : List (Timed E)) (clock : ℕ) → SameBag a b → IsAllowed call a clock → IsAllowed call b clock
IsAllowed-same (Schedule time event) a b clock s h = h
IsAllowed-same NextTime a b clock s h = h
IsAllowed-same (TakeDue time) a b clock s h = (h.0, subst (λ o. ForSome o (λ next. time ≤ next)) (least_time-same a b s) h.1)
IsAllowed-same Now a b clock s h = h

answer_of-same : {E : Type 0} (call : QueueCall E) (a b : List (Timed E)) (clock : ℕ) → SameBag a b → answer_of call a clock ≡ answer_of call b clock
answer_of-same (Schedule time event) a b clock s = refl
answer_of-same NextTime a b clock s = ap Next (least_time-same a b s)
answer_of-same (TakeDue time) a b clock s = ap Due (oldest_at-same time a b s)
answer_of-same Now a b clock s = refl

bag_after-same : {E : Type 0} (call : QueueCall E) (a b : List (Timed E)) → SameBag a b → SameBag (bag_after call a) (bag_after call b)
bag_after-same (Schedule time event) a b s = SameBag-append a b (record { time = time; event = event } ∷ []) s
bag_after-same NextTime a b s = s
bag_after-same (TakeDue time) a b s = SameBag-without_oldest time a b s
bag_after-same Now a b s = s

-- ---- many calls
pub AreAllowed-same : {E : Type 0} (calls : List (QueueCall E)) (a b : List (Timed E)) (clock : ℕ) → SameBag a b → AreAllowed calls a clock → AreAllowed calls b clock
AreAllowed-same [] a b clock s h = tt
AreAllowed-same (call ∷ calls) a b clock s h = (IsAllowed-same call a b clock s h.0, AreAllowed-same calls (bag_after call a) (bag_after call b) (clock_after call clock) (bag_after-same call a b s) h.1)

pub answers_of-same : {E : Type 0} (calls : List (QueueCall E)) (a b : List (Timed E)) (clock : ℕ) → SameBag a b → answers_of calls a clock ≡ answers_of calls b clock
answers_of-same [] a b clock s = refl
answers_of-same (call ∷ calls) a b clock s =
    ap (λ x. x ∷ answers_of calls (bag_after call a) (clock_after call clock)) (answer_of-same call a b clock s)
    ∙ ap (λ xs. answer_of call b clock ∷ xs) (answers_of-same calls (bag_after call a) (bag_after call b) (clock_after call clock) (bag_after-same call a b s))

pub bag_in_the_end-same : {E : Type 0} (calls : List (QueueCall E)) (a b : List (Timed E)) → SameBag a b → SameBag (bag_in_the_end calls a) (bag_in_the_end calls b)
bag_in_the_end-same [] a b s = s
bag_in_the_end-same (call ∷ calls) a b s = bag_in_the_end-same calls (bag_after call a) (bag_after call b) (bag_after-same call a b s)

answer_alike_at : {E : Type 0} (calls : List (QueueCall E)) (a b : List (Timed E)) (clock : ℕ) → SameBag a b → AnswerAlike calls a clock b clock
answer_alike_at calls a b clock s = record {
  allowed = (AreAllowed-same calls a b clock s, AreAllowed-same calls b a clock (SameBag-sym s));
  answers = answers_of-same calls a b clock s;
  same_bag = bag_in_the_end-same calls a b s;
  same_clock = refl;
}

pub answer_alike : {E : Type 0} (calls : List (QueueCall E)) (a b : List (Timed E)) (clock clock' : ℕ) → SameBag a b → clock ≡ clock' → AnswerAlike calls a clock b clock'
answer_alike calls a b clock clock' s e = subst (λ k. AnswerAlike calls a clock b k) e (answer_alike_at calls a b clock s)

-- ---- calls one after another
pub bag_in_the_end-snoc : {E : Type 0} (calls : List (QueueCall E)) (call : QueueCall E) (bag : List (Timed E)) → bag_in_the_end (calls ++ call ∷ []) bag ≡ bag_after call (bag_in_the_end calls bag)
bag_in_the_end-snoc [] call bag = refl
bag_in_the_end-snoc (c ∷ cs) call bag = bag_in_the_end-snoc cs call (bag_after c bag)

pub clock_in_the_end-snoc : {E : Type 0} (calls : List (QueueCall E)) (call : QueueCall E) (clock : ℕ) → clock_in_the_end (calls ++ call ∷ []) clock ≡ clock_after call (clock_in_the_end calls clock)
clock_in_the_end-snoc [] call clock = refl
clock_in_the_end-snoc (c ∷ cs) call clock = clock_in_the_end-snoc cs call (clock_after c clock)

-- one call more
pub made_one_more : {E : Type 0} (calls : List (QueueCall E)) (call : QueueCall E) (bag now now' : List (Timed E)) → SameBag now (bag_in_the_end calls bag) → SameBag now' (bag_after call now) → SameBag now' (bag_in_the_end (calls ++ call ∷ []) bag)
made_one_more calls call bag now now' before step = subst (λ b. SameBag now' b) (sym (bag_in_the_end-snoc calls call bag)) (SameBag-trans step (bag_after-same call now (bag_in_the_end calls bag) before))

pub clock_one_more : {E : Type 0} (calls : List (QueueCall E)) (call : QueueCall E) (clock now now' : ℕ) → now ≡ clock_in_the_end calls clock → now' ≡ clock_after call now → now' ≡ clock_in_the_end (calls ++ call ∷ []) clock
clock_one_more calls call clock now now' before step = step ∙ ap (clock_after call) before ∙ sym (clock_in_the_end-snoc calls call clock)

-- some first calls were made
pub after_first : {E : Type 0} (calls first rest : List (QueueCall E)) (bag : List (Timed E)) (clock : ℕ) (bag' : List (Timed E)) (clock' : ℕ) → first ++ rest ≡ calls →
    SameBag bag' (bag_in_the_end first bag) → clock' ≡ clock_in_the_end first clock → IsAfterFirst calls bag clock bag' clock'
after_first calls first rest bag clock bag' clock' e same time =
    let cut : take (length first) calls ≡ first = ap (take (length first)) (sym e) ∙ take-append_seam first rest in
    record {
      made = length first;
      within = let h : length (first ++ rest) ≡ length calls = ap length e in omega (arith, h, length-append first rest);
      same_bag = subst (λ cs. SameBag bag' (bag_in_the_end cs bag)) (sym cut) same;
      same_clock = time ∙ ap (λ cs. clock_in_the_end cs clock) (sym cut);
    }

-- the next of the calls that are left
pub next_told : {E : Type 0} (answers answers' : List (QueueAnswer E)) (answer : QueueAnswer E) (call : QueueCall E) (left rest : List (QueueCall E)) (now now' : List (Timed E)) (clock clock' : ℕ) (all : List (QueueAnswer E)) →
    answers ++ answers_of left now clock ≡ all → left ≡ call ∷ rest → answer ≡ answer_of call now clock → answers' ≡ answers ++ answer ∷ [] →
    SameBag now' (bag_after call now) → clock' ≡ clock_after call clock → answers' ++ answers_of rest now' clock' ≡ all
next_told answers answers' answer call left rest now now' clock clock' all told next is more same time =
    let tail : answers_of rest now' clock' ≡ answers_of rest (bag_after call now) (clock_after call clock) = answers_of-same rest now' (bag_after call now) clock' same ∙ ap (λ k. answers_of rest (bag_after call now) k) time in
    ap (λ xs. xs ++ answers_of rest now' clock') more ∙ append_assoc answers (answer ∷ []) (answers_of rest now' clock')
    ∙ ap (λ xs. answers ++ answer ∷ xs) tail ∙ ap (λ x. answers ++ x ∷ answers_of rest (bag_after call now) (clock_after call clock)) is
    ∙ ap (λ cs. answers ++ answers_of cs now clock) (sym next) ∙ told

pub next_allowed : {E : Type 0} (call : QueueCall E) (left rest : List (QueueCall E)) (now now' : List (Timed E)) (clock clock' : ℕ) →
    AreAllowed left now clock → left ≡ call ∷ rest → SameBag now' (bag_after call now) → clock' ≡ clock_after call clock → AreAllowed rest now' clock'
next_allowed call left rest now now' clock clock' allowed next same time =
    let h : AreAllowed (call ∷ rest) now clock = subst (λ cs. AreAllowed cs now clock) next allowed in
    subst (λ k. AreAllowed rest now' k) (sym time) (AreAllowed-same rest (bag_after call now) now' (clock_after call clock) (SameBag-sym same) h.1)

pub next_call : {E : Type 0} (yielded left rest calls : List (QueueCall E)) (call : QueueCall E) → yielded ++ left ≡ calls → left ≡ call ∷ rest → (yielded ++ call ∷ []) ++ rest ≡ calls
next_call yielded left rest calls call all next = append_assoc yielded (call ∷ []) rest ∙ ap (λ cs. yielded ++ cs) (sym next) ∙ all

-- no call is left
pub all_made : {E : Type 0} (yielded left calls : List (QueueCall E)) → yielded ++ left ≡ calls → length left ≡ 0 → yielded ≡ calls
all_made yielded [] calls all none = sym (append-nil yielded) ∙ all
all_made yielded (call ∷ left) calls all none = absurd (omega arith)

pub all_told : {E : Type 0} (answers : List (QueueAnswer E)) (left : List (QueueCall E)) (now : List (Timed E)) (clock : ℕ) (all : List (QueueAnswer E)) → answers ++ answers_of left now clock ≡ all → length left ≡ 0 → answers ≡ all
all_told answers [] now clock all told none = sym (append-nil answers) ∙ told
all_told answers (call ∷ left) now clock all told none = absurd (omega arith)
