-- Points and paths of texts that say the same.
use Rattle.std.proofs.Common.{◌≡◌, ℕ, zero, suc, ◌≤◌, ◌<◌, ◌⊎◌, Bool, true, false, Some, None, List, [], ◌∷◌, length, map, get_or, slice_get, refl, ap, sym, subst, ◌∙◌, inl, inr}
use Rattle.std.proofs.lemmas.Option.{none-some, same_Some, slice_get_cases}
use Rattle.std.specs.List.{AllZip}
use Rattle.vs_syntax.specs.Same.{no_pair, pair_more}
use Rattle.vs_design.specs.declared.design.Process.{Process}
use Rattle.vs_design.specs.declared.statement.EventTerm.{EventTerm}
use Rattle.vs_design.specs.Parts.{Parts}
use Rattle.vs_design.specs.WellFormed.{numbers}
use Rattle.vs_process.specs.declared.gait.Gait.{Gait}
use Rattle.vs_process.specs.declared.gait.Gait.TheVariants.{Fresh}
use Rattle.vs_process.specs.Landings.{todo_after}
use Rattle.vs_process.specs.Numbers.{number_next}
use Rattle.vs_process.specs.Places.{Item, Todo, ended, active_at, flat, start_place, todo_of}
use Rattle.vs_process.specs.Steps.{Next, on, after, wait}
use Rattle.vs_rules.proofs.Past.{past_points}
use Rattle.vs_rules.specs.Points.{Goes, Point, first_todo, nexts_by}
use Rattle.vs_rules.proofs.Points.{by_path}
use Rattle.vs_rules.specs.Paths.{Path, begins, goes, any_way, is_plain, is_zero_time, IsPoint, IsSlot0, IsPrologue, PathBy, PathFromBy, RunsFrom, IsLate, IsHot, HasTerm, IsHeardAtStart, WritesNow}
use Rattle.vs_laws.proofs.Designs.{AlikeProcess, AreNumbered, Twins}
use Rattle.vs_laws.proofs.Done.{writes_now_as}
use Rattle.vs_laws.proofs.Spots.{one_point, counted_once}
use Rattle.vs_laws.proofs.Todos.{AlikeTodo, AlikeNext, both_on, both_after, both_wait, flat_alike, goes_as, leads_as}

-- something to be done that says the same as this, of which this holds
pub record TwinOf (k : Todo) (P : Todo → Type 0) : Type 0 where
  pub to : Todo
  pub is : P to
  pub same : AlikeTodo k to

-- ---- what a process does first

at_active : (g : Gait) (k : Todo) → todo_of (active_at g k) ≡ k
at_active g [] = refl
at_active g (i ∷ k) = refl

-- what the process of a number does first
abbrev first_by : List Process → ℕ → Todo
first_by ps i = todo_of (get_or (map (λ (p : Process). start_place p.body) ps) i ended)

firsts_alike : (ps ps' : List Process) → AllZip AlikeProcess ps ps' → (i : ℕ) → AlikeTodo (first_by ps i) (first_by ps' i)
firsts_alike [] [] h i = no_pair
firsts_alike [] (p' ∷ ps') h i = absurd h
firsts_alike (p ∷ ps) [] h i = absurd h
firsts_alike (p ∷ ps) (p' ∷ ps') h zero =
    subst (λ (k : Todo). AlikeTodo k (first_by (p' ∷ ps') zero)) (sym (at_active Fresh (flat p.body)))
    (subst (AlikeTodo (flat p.body)) (sym (at_active Fresh (flat p'.body))) (flat_alike p.body p'.body h.0.body))
firsts_alike (p ∷ ps) (p' ∷ ps') h (suc i) = firsts_alike ps ps' h.1 i

pub first_alike : {d d' : Parts} → Twins d d' → (i : ℕ) → AlikeTodo (first_todo d i) (first_todo d' i)
first_alike {d} {d'} t i = firsts_alike d.processes d'.processes t.processes i

first_is : (ps : List Process) (i : ℕ) (p : Process) → slice_get ps i ≡ Some p → first_by ps i ≡ flat p.body
first_is [] i p e = absurd (none-some p e)
first_is (q ∷ ps) zero p e = at_active Fresh (flat q.body) ∙ ap (λ (r : Process). flat r.body) (same_Some q p e)
first_is (q ∷ ps) (suc i) p e = first_is ps i p e

-- ---- one step of a path

on_as : (l : Todo) (next : Next) → AlikeNext (on l) next → TwinOf l (λ (m : Todo). next ≡ on m)
on_as _ _ (both_on l l' r) = record { to = l'; is = refl; same = r }

after_as : (number ticks : ℕ) (l : Todo) (next : Next) → AlikeNext (after number ticks l) next → TwinOf l (λ (m : Todo). next ≡ after number ticks m)
after_as _ _ _ _ (both_after number ticks l l' r) = record { to = l'; is = refl; same = r }

wait_as : (number : ℕ) (terms : List EventTerm) (l : Todo) (next : Next) → AlikeNext (wait number terms l) next → TwinOf l (λ (m : Todo). next ≡ wait number terms m)
wait_as _ _ _ _ (both_wait number terms l l' r) = record { to = l'; is = refl; same = r }

pub goes_on_as : (k k' l : Todo) → AlikeTodo k k' → Goes k (on l) → TwinOf l (λ (m : Todo). Goes k' (on m))
goes_on_as k k' l h g =
    let n = goes_as k k' (on l) h g in
    let m = on_as l n.to n.same in
    record { to = m.to; is = subst (Goes k') m.is n.goes; same = m.same }

pub goes_after_as : (k k' l : Todo) (number ticks : ℕ) → AlikeTodo k k' → Goes k (after number ticks l) → TwinOf l (λ (m : Todo). Goes k' (after number ticks m))
goes_after_as k k' l number ticks h g =
    let n = goes_as k k' (after number ticks l) h g in
    let m = after_as number ticks l n.to n.same in
    record { to = m.to; is = subst (Goes k') m.is n.goes; same = m.same }

pub goes_wait_as : (k k' l : Todo) (number : ℕ) (terms : List EventTerm) → AlikeTodo k k' → Goes k (wait number terms l) → TwinOf l (λ (m : Todo). Goes k' (wait number terms m))
goes_wait_as k k' l number terms h g =
    let n = goes_as k k' (wait number terms l) h g in
    let m = wait_as number terms l n.to n.same in
    record { to = m.to; is = subst (Goes k') m.is n.goes; same = m.same }

pub behind_as : (next next' : Next) → AlikeNext next next' → AlikeTodo (todo_after next) (todo_after next')
behind_as _ _ (both_on l l' r) = r
behind_as _ _ (both_after number ticks l l' r) = r
behind_as _ _ (both_wait number terms l l' r) = r

pub plain_same : (next next' : Next) → AlikeNext next next' → is_plain next ≡ is_plain next'
plain_same _ _ (both_on l l' r) = refl
plain_same _ _ (both_after number ticks l l' r) = refl
plain_same _ _ (both_wait number terms l l' r) = refl

pub zero_same : (next next' : Next) → AlikeNext next next' → is_zero_time next ≡ is_zero_time next'
zero_same _ _ (both_on l l' r) = refl
zero_same _ _ (both_after number ticks l l' r) = refl
zero_same _ _ (both_wait number terms l l' r) = refl

any_same : (next next' : Next) → AlikeNext next next' → any_way next ≡ any_way next'
any_same next next' h = refl

-- ---- points

-- what is to be done behind something, of what says the same
record Rest (i : Item) (rest k : Todo) : Type 0 where
  item : Item
  behind : Todo
  is : k ≡ item ∷ behind
  same : AlikeTodo rest behind

rest_as : (i : Item) (rest k : Todo) → AlikeTodo (i ∷ rest) k → Rest i rest k
rest_as _ _ _ (pair_more i i' rest rest' h r) = record { item = i'; behind = rest'; is = refl; same = r }

points_as : (first first' k : Todo) → AlikeTodo first first' → Point first k → TwinOf k (Point first')
points_as first first' _ h Point.begins = record { to = first'; is = Point.begins; same = h }
points_as first first' _ h (Point.goes_on k l p g) =
    let q = points_as first first' k h p in
    let m = goes_on_as k q.to l q.same g in
    record { to = m.to; is = Point.goes_on q.to m.to q.is m.is; same = m.same }
points_as first first' _ h (Point.waits k l number ticks p g) =
    let q = points_as first first' k h p in
    let m = goes_after_as k q.to l number ticks q.same g in
    record { to = m.to; is = Point.waits q.to m.to number ticks q.is m.is; same = m.same }
points_as first first' _ h (Point.listens k l number terms p g) =
    let q = points_as first first' k h p in
    let m = goes_wait_as k q.to l number terms q.same g in
    record { to = m.to; is = Point.listens q.to m.to number terms q.is m.is; same = m.same }
points_as first first' _ h (Point.skips i rest p) =
    let q = points_as first first' (i ∷ rest) h p in
    let m = rest_as i rest q.to q.same in
    record { to = m.behind; is = Point.skips m.item m.behind (subst (Point first') m.is q.is); same = m.same }

pub point_as : {d d' : Parts} → Twins d d' → (i : ℕ) (k : Todo) → IsPoint d i k → TwinOf k (IsPoint d' i)
point_as {d} {d'} t i k h = points_as (first_todo d i) (first_todo d' i) k (first_alike t i) h

pub point_on : (d : Parts) (i : ℕ) (k : Todo) (next : Next) → IsPoint d i k → Goes k next → IsPoint d i (todo_after next)
point_on d i k (on l) p g = Point.goes_on k l p g
point_on d i k (after number ticks l) p g = Point.waits k l number ticks p g
point_on d i k (wait number terms l) p g = Point.listens k l number terms p g

pub path_point : (d : Parts) (i : ℕ) (ok : Next → Bool) (from k : Todo) → IsPoint d i from → Path ok from k → IsPoint d i k
path_point d i ok from _ p begins = p
path_point d i ok from _ p (goes j l next path g may is) = subst (IsPoint d i) is (point_on d i j next (path_point d i ok from j p path) g)

-- ---- paths

-- by the ways of one version
pub path_by_as : (wide : Bool) (ok : Next → Bool) → ((next next' : Next) → AlikeNext next next' → ok next ≡ ok next') → (from from' k : Todo) → AlikeTodo from from' → PathBy (nexts_by wide) ok from k →
    TwinOf k (PathBy (nexts_by wide) ok from')
path_by_as wide ok respects from from' _ h begins = record { to = from'; is = begins; same = h }
path_by_as wide ok respects from from' _ h (goes k l next p g passes e) =
    let q = path_by_as wide ok respects from from' k h p in
    let n = leads_as wide k q.to next q.same g in
    record {
      to = todo_after n.to;
      is = goes q.to (todo_after n.to) n.to q.is n.leads (sym (respects next n.to n.same) ∙ passes) refl;
      same = subst (λ (m : Todo). AlikeTodo m (todo_after n.to)) e (behind_as next n.to n.same);
    }

pub slot0_as : {d d' : Parts} → Twins d d' → (wide : Bool) (i : ℕ) (k : Todo) → IsSlot0 d wide i k → TwinOf k (IsSlot0 d' wide i)
slot0_as {d} {d'} t wide i k h = path_by_as wide is_zero_time zero_same (first_todo d i) (first_todo d' i) k (first_alike t i) h

pub prologue_as : {d d' : Parts} → Twins d d' → (wide : Bool) (i : ℕ) (k : Todo) → IsPrologue d wide i k → TwinOf k (IsPrologue d' wide i)
prologue_as {d} {d'} t wide i k h = path_by_as wide is_plain plain_same (first_todo d i) (first_todo d' i) k (first_alike t i) h

pub slot0_point : (d : Parts) (wide : Bool) (i : ℕ) (k : Todo) → IsSlot0 d wide i k → IsPoint d i k
slot0_point d wide i k h = path_point d i is_zero_time (first_todo d i) k Point.begins (by_path wide is_zero_time (first_todo d i) k h)

-- one way leads as another one does
abbrev pub SortAs : (sort sort' : Todo → Next → Type 0) → Type 0
SortAs sort sort' = (k k' : Todo) (next next' : Next) → AlikeTodo k k' → AlikeNext next next' → sort k next → sort' k' next'

path_from_by_as : {d d' : Parts} → Twins d d' → (wide : Bool) (i : ℕ) (sort sort' : Todo → Next → Type 0) → SortAs sort sort' → (ok : Next → Bool) →
    ((next next' : Next) → AlikeNext next next' → ok next ≡ ok next') → (k : Todo) → PathFromBy (nexts_by wide) d i sort ok k → TwinOf k (PathFromBy (nexts_by wide) d' i sort' ok)
path_from_by_as t wide i sort sort' starts ok respects k h =
    let p = point_as t i h.at h.point in
    let n = goes_as h.at p.to h.next p.same h.goes in
    let q = path_by_as wide ok respects (todo_after h.next) (todo_after n.to) k (behind_as h.next n.to n.same) h.path in
    record {
      to = q.to;
      is = record { at = p.to; next = n.to; point = p.is; goes = n.goes; starts = starts h.at p.to h.next n.to p.same n.same h.starts; path = q.is };
      same = q.same;
    }

pub from_point : (d : Parts) (wide : Bool) (i : ℕ) (sort : Todo → Next → Type 0) (ok : Next → Bool) (k : Todo) → PathFromBy (nexts_by wide) d i sort ok k → IsPoint d i k
from_point d wide i sort ok k h = path_point d i ok (todo_after h.next) k (point_on d i h.at h.next h.point h.goes) (by_path wide ok (todo_after h.next) k h.path)

-- run slots go without a further control
pub runs_as : {d d' : Parts} → Twins d d' → (wide : Bool) (i : ℕ) (can_end can_end' : Next → ℕ → Type 0) → ((next next' : Next) (r : ℕ) → AlikeNext next next' → can_end next r → can_end' next' r) →
    (k : Todo) (r : ℕ) → RunsFrom d wide i can_end k r → TwinOf k (λ (m : Todo). RunsFrom d' wide i can_end' m r)
runs_as t wide i can_end can_end' ends k r h =
    path_from_by_as t wide i (λ at next. can_end next r) (λ at next. can_end' next r) (λ a a' next next' p n e. ends next next' r n e) is_plain plain_same k h

pub runs_point : (d : Parts) (wide : Bool) (i : ℕ) (can_end : Next → ℕ → Type 0) (k : Todo) (r : ℕ) → RunsFrom d wide i can_end k r → IsPoint d i k
runs_point d wide i can_end k r h = from_point d wide i (λ at next. can_end next r) is_plain k h

pub late_as : {d d' : Parts} → Twins d d' → (i : ℕ) (k : Todo) → IsLate d i k → TwinOf k (IsLate d' i)
late_as t i k h =
    path_from_by_as t false i (λ at next. is_plain next ≡ false) (λ at next. is_plain next ≡ false) (λ a a' next next' p n e. sym (plain_same next next' n) ∙ e) any_way any_same k h

pub hot_as : {d d' : Parts} → Twins d d' → (wide : Bool) (i v : ℕ) (k : Todo) → IsHot d wide i v k → TwinOf k (IsHot d' wide i v)
hot_as {d} {d'} t wide i v k h =
    path_from_by_as t wide i (λ at next. WritesNow d at v) (λ at next. WritesNow d' at v) (λ a a' next next' p n w. writes_now_as d d' a a' v p w) is_zero_time zero_same k h

-- ---- terms of event controls

pub term_as : {d d' : Parts} → Twins d d' → (i : ℕ) (term : EventTerm) → HasTerm d i term → HasTerm d' i term
term_as t i term h =
    let p = point_as t i h.control h.point in
    let m = goes_wait_as h.control p.to h.behind h.number h.terms p.same h.goes in
    record { control = p.to; number = h.number; terms = h.terms; behind = m.to; point = p.is; goes = m.is; is = h.is }

pub heard_at_start_as : {d d' : Parts} → Twins d d' → (i : ℕ) (term : EventTerm) → IsHeardAtStart d i term → IsHeardAtStart d' i term
heard_at_start_as t i term h =
    let p = slot0_as t true i h.control h.slot0 in
    let m = goes_wait_as h.control p.to h.behind h.number h.terms p.same h.goes in
    record { control = p.to; number = h.number; terms = h.terms; behind = m.to; slot0 = p.is; goes = m.is; is = h.is }

-- ---- points of one number

one_by : (d : Parts) → AreNumbered d → (i : ℕ) (k l : Todo) (n : ℕ) → IsPoint d i k → IsPoint d i l → number_next k ≡ Some n → number_next l ≡ Some n →
    ((p : Process) × (i < length d.processes) × (slice_get d.processes i ≡ Some p) × (get_or d.processes i p ≡ p)) ⊎ ((length d.processes ≤ i) × (slice_get d.processes i ≡ None)) → k ≡ l
one_by d counted i k l n p q h g (inl there) =
    let first : first_todo d i ≡ flat there.0.body = first_is d.processes i there.0 there.2 in
    one_point there.0.body k l n (counted_once n (numbers there.0.body) (counted i there.0 there.2)) (subst (λ (z : Todo). Point z k) first p) (subst (λ (z : Todo). Point z l) first q) h g
one_by d counted i k l n p q h g (inr past) = absurd (none-some n (ap number_next (sym (past_points d i k past.0 p)) ∙ h))

-- two points of a process at which a statement of one number stands are one
pub one_here : (d : Parts) → AreNumbered d → (i : ℕ) (k l : Todo) (n : ℕ) → IsPoint d i k → IsPoint d i l → number_next k ≡ Some n → number_next l ≡ Some n → k ≡ l
one_here d counted i k l n p q h g = one_by d counted i k l n p q h g (slice_get_cases d.processes i).1
