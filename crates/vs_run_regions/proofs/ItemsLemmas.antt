-- Items of an event queue.
use Rattle.std.proofs.Common.{◌≡◌, ◌≢◌, ℕ, ◌≤◌, drop, Bool, true, false, cond, Option, Some, None, List, [], ◌∷◌, ◌++◌, refl, sym, ◌∙◌, ap, arith, append_assoc, append-nil}
use Rattle.std.specs.Prelude.{nat_eq}
use Rattle.std.specs.Option.{ForSome, IfSome}
use Rattle.vs_time_wheel.specs.declared.timing.Timed.{Timed}
use Rattle.vs_time_wheel.specs.Bag.{events_at, least_time, SameBag, IsFrom, oldest_at, without_oldest}
use Rattle.vs_time_wheel.specs.Rotation.{first_of}
use Rattle.vs_time_wheel.proofs.Bags.{least_time-from_time, oldest_at-first, events_at-without_oldest, events_at-without_other}
use Rattle.vs_process.specs.States.{Update}
use Rattle.vs_run_regions.specs.declared.item.Due.{Due}
use Rattle.vs_run_regions.specs.declared.item.Due.TheVariants.{Wake, Late}
use Rattle.vs_run_regions.specs.Items.{wakes, lates, sleeper, sleepers_of}

-- ---- lists of items
pub wakes-append : (xs ys : List Due) → wakes (xs ++ ys) ≡ wakes xs ++ wakes ys
wakes-append [] ys = refl
wakes-append (Wake p ∷ xs) ys = ap (λ (l : List ℕ). p ∷ l) (wakes-append xs ys)
wakes-append (Late u ∷ xs) ys = wakes-append xs ys

pub lates-append : (xs ys : List Due) → lates (xs ++ ys) ≡ lates xs ++ lates ys
lates-append [] ys = refl
lates-append (Wake p ∷ xs) ys = lates-append xs ys
lates-append (Late u ∷ xs) ys = ap (λ (l : List Update). u ∷ l) (lates-append xs ys)

-- without ends of delays and without updates there is no item
pub no_items : (xs : List Due) → wakes xs ≡ [] → lates xs ≡ [] → xs ≡ []
no_items [] w l = refl
no_items (Wake p ∷ xs) w l = absurd cc
no_items (Late u ∷ xs) w l = absurd cc

-- ---- ends of delays
wake_by : (c : Bool) (p : ℕ) (xs : List ℕ) (ys : List Due) → xs ≡ wakes ys → cond c (p ∷ xs) xs ≡ wakes (cond c (Wake p ∷ ys) ys)
wake_by true p xs ys e = ap (λ (l : List ℕ). p ∷ l) e
wake_by false p xs ys e = e

late_by : (c : Bool) (u : Update) (xs : List ℕ) (ys : List Due) → xs ≡ wakes ys → xs ≡ wakes (cond c (Late u ∷ ys) ys)
late_by true u xs ys e = e
late_by false u xs ys e = e

sleeper_at : (t time : ℕ) (x : Due) (others : List (Timed ℕ)) (ys : List Due) → events_at t others ≡ wakes ys → events_at t (sleeper time x others) ≡ wakes (cond (nat_eq time t) (x ∷ ys) ys)
sleeper_at t time (Wake p) others ys e = wake_by (nat_eq time t) p (events_at t others) ys e
sleeper_at t time (Late u) others ys e = late_by (nat_eq time t) u (events_at t others) ys e

pub sleepers_at : (t : ℕ) (b : List (Timed Due)) → events_at t (sleepers_of b) ≡ wakes (events_at t b)
sleepers_at t [] = refl
sleepers_at t (e ∷ es) = sleeper_at t e.time e.event (sleepers_of es) (events_at t es) (sleepers_at t es)

pub sleepers_same : {a b : List (Timed Due)} → SameBag a b → SameBag (sleepers_of a) (sleepers_of b)
sleepers_same {a} {b} s = record { at_each = λ t. sleepers_at t a ∙ ap wakes (s.at_each t) ∙ sym (sleepers_at t b) }

sleeper_before : (time : ℕ) (x : Due) (ls bs : List (Timed ℕ)) → sleeper time x (ls ++ bs) ≡ sleeper time x ls ++ bs
sleeper_before time (Wake p) ls bs = refl
sleeper_before time (Late u) ls bs = refl

pub sleepers_append : (a b : List (Timed Due)) → sleepers_of (a ++ b) ≡ sleepers_of a ++ sleepers_of b
sleepers_append [] b = refl
sleepers_append (e ∷ es) b = ap (sleeper e.time e.event) (sleepers_append es b) ∙ sleeper_before e.time e.event (sleepers_of es) (sleepers_of b)

-- ---- what is taken out of a queue
first_some : {E : Type 0} (xs : List E) (x : E) → first_of xs ≡ Some x → xs ≡ x ∷ drop 1 xs
first_some [] x e = cc
first_some (y ∷ ys) x e = let same : y ≡ x = cc in ap (λ z. z ∷ ys) same

first_none : {E : Type 0} (xs : List E) → first_of xs ≡ None → xs ≡ []
first_none [] e = refl
first_none (y ∷ ys) e = cc

pub take_some : {E : Type 0} (time : ℕ) (bag bag' : List (Timed E)) (x : E) → oldest_at time bag ≡ Some x → SameBag bag' (without_oldest time bag) → events_at time bag ≡ x ∷ events_at time bag'
take_some time bag bag' x h same =
    first_some (events_at time bag) x (sym (oldest_at-first time bag) ∙ h) ∙ ap (λ l. x ∷ l) (sym (same.at_each time ∙ events_at-without_oldest time bag))

pub take_none : {E : Type 0} (time : ℕ) (bag : List (Timed E)) → oldest_at time bag ≡ None → events_at time bag ≡ []
take_none time bag h = first_none (events_at time bag) (sym (oldest_at-first time bag) ∙ h)

pub taken_none : {E : Type 0} (time : ℕ) (bag bag' : List (Timed E)) → oldest_at time bag ≡ None → SameBag bag' (without_oldest time bag) → events_at time bag' ≡ []
taken_none time bag bag' h same = same.at_each time ∙ events_at-without_oldest time bag ∙ ap (drop 1) (take_none time bag h)

pub take_others : {E : Type 0} (time : ℕ) (bag bag' : List (Timed E)) → SameBag bag' (without_oldest time bag) → (t : ℕ) → time ≢ t → events_at t bag' ≡ events_at t bag
take_others time bag bag' same t apart = same.at_each t ∙ events_at-without_other time t bag apart

pub take_from : {E : Type 0} (time : ℕ) (bag bag' : List (Timed E)) → SameBag bag' (without_oldest time bag) → IsFrom time bag → IsFrom time bag'
take_from time bag bag' same from = record { none_before = λ t before. take_others time bag bag' same t (λ e. omega arith) ∙ from.none_before t before }

for_some : (o : Option ℕ) (time : ℕ) → IfSome o (λ next. time ≤ next) → ForSome o (λ next. time ≤ next)
for_some None time h = λ next e. absurd cc
for_some (Some t) time h = λ next e. let same : t ≡ next = cc in omega arith

pub from_least : {E : Type 0} (time : ℕ) (bag : List (Timed E)) → IsFrom time bag → ForSome (least_time bag) (λ next. time ≤ next)
from_least time bag from = for_some (least_time bag) time (least_time-from_time time bag from)

-- ---- an item goes to its list
pub more_lates : (xs xs' target : List Update) (item : Due) (ys ys' : List Due) → xs' ≡ xs ++ lates (item ∷ []) → ys ≡ item ∷ ys' → xs ++ lates ys ≡ target → xs' ++ lates ys' ≡ target
more_lates xs xs' target item ys ys' e f h =
    ap (λ l. l ++ lates ys') e ∙ append_assoc xs (lates (item ∷ [])) (lates ys') ∙ ap (λ l. xs ++ l) (sym (lates-append (item ∷ []) ys')) ∙ ap (λ l. xs ++ lates l) (sym f) ∙ h

pub more_wakes : (xs xs' target : List ℕ) (item : Due) (ys ys' : List Due) → xs' ≡ xs ++ wakes (item ∷ []) → ys ≡ item ∷ ys' → xs ++ wakes ys ≡ target → xs' ++ wakes ys' ≡ target
more_wakes xs xs' target item ys ys' e f h =
    ap (λ l. l ++ wakes ys') e ∙ append_assoc xs (wakes (item ∷ [])) (wakes ys') ∙ ap (λ l. xs ++ l) (sym (wakes-append (item ∷ []) ys')) ∙ ap (λ l. xs ++ wakes l) (sym f) ∙ h

pub all_lates : (xs target : List Update) (ys : List Due) → ys ≡ [] → xs ++ lates ys ≡ target → xs ≡ target
all_lates xs target ys none h = sym (ap (λ l. xs ++ lates l) none ∙ append-nil xs) ∙ h

pub all_wakes : (xs target : List ℕ) (ys : List Due) → ys ≡ [] → xs ++ wakes ys ≡ target → xs ≡ target
all_wakes xs target ys none h = sym (ap (λ l. xs ++ wakes l) none ∙ append-nil xs) ∙ h
