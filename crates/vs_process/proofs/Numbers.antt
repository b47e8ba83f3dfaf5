-- Lemmas on the numbers of the statements in a code.
use Rattle.std.proofs.Common.{Global, ◌≡◌, ◌≢◌, ℕ, zero, suc, ◌+◌, ◌<◌, ◌≤◌, ◌==◌, Bool, true, false, Option, Some, None, List, [], ◌∷◌, ◌++◌, map, drop, get_or, length, refl, rules, sym, ◌∙◌, ap, subst, arith, ⊎_elim}
use Rattle.std.specs.Prelude.{slice_get, Vec, IfOk, Result, Ok, Err}
use Rattle.std.specs.declared.boxed.Box.{Box}
use Rattle.std.specs.declared.alloc.AllocError.{AllocError}
use Rattle.std.proofs.lemmas.Bool.{eqb-true, eq-eqb, cases_lt as below_or}
use Rattle.std.proofs.lemmas.Bool.Decides.{eqb_tells}
use Rattle.std.proofs.lemmas.List.{map-append, drop_more}
use Rattle.std.proofs.lemmas.Option.{none-some, same_Some}
use Rattle.vs_design.specs.Uses.{joined}
use Rattle.vs_design.specs.WellFormed.{numbers, numbers_step, counts_from}
use Rattle.vs_design.specs.vs_logic4.specs.declared.case.CaseKind.{CaseKind}
use Rattle.vs_design.specs.declared.expression.Typed.{Typed}
use Rattle.vs_design.specs.declared.statement.EventTerm.{EventTerm}
use Rattle.vs_design.specs.declared.statement.Ticks.{Ticks}
use Rattle.vs_design.specs.declared.statement.Statement.{Statement}
use Rattle.vs_design.specs.declared.statement.Statement.TheOpen.{Statement-F}
use Rattle.vs_design.specs.declared.statement.Statement.TheVariants as d
use Rattle.vs_design.specs.declared.statement.Statement.TheViews.{the_lemmas, roll-Statement, out-Statement, roll-out-Statement}
use Rattle.vs_design.specs.declared.statement.Statement.TheFolds.{fold-roll-Statement}
use Rattle.vs_process.specs.declared.draft.Op.{Op}
use Rattle.vs_process.specs.declared.draft.Draft.{Draft}
use Rattle.vs_process.specs.Places.{Todo}
use Rattle.vs_process.specs.Links.{Link, Job, performs, tests, item_of, todo_from, todo_within}
use Rattle.vs_process.specs.Codes.{links_of, link_of, IsCodeOf}
use Rattle.vs_process.specs.Ways.{point_at}
use Rattle.vs_process.specs.Numbers.{number_of, number_next, number_at, once_where, times_here, times_in, times_done, AllPlaced}
use Rattle.vs_process.specs.Drafts.{numbers_all, numbers_in, numbers_inside, AddsOne, Adds}
use Rattle.vs_design.specs.vs_logic4.proofs.Basics.{and_left as both_left, and_right as both_right}

-- ---- the numbers of a statement by its outermost layer

pub joined_all : (xs : List Statement) → joined (map numbers xs) ≡ numbers_all xs
joined_all [] = refl
joined_all (s ∷ xs) = ap (λ (ns : List ℕ). numbers s ++ ns) (joined_all xs)

joined_in : (xs : List (Vec Typed Global × Statement)) →
    joined (map (λ (i : Vec Typed Global × List ℕ). i.1) (map (λ (i : Vec Typed Global × Statement). (i.0, numbers i.1)) xs)) ≡ numbers_in xs
joined_in [] = refl
joined_in (i ∷ xs) = ap (λ (ns : List ℕ). numbers i.1 ++ ns) (joined_in xs)

pub times_rolled : (n : ℕ) (x : Statement-F Statement) → times_in n (numbers (roll-Statement x)) ≡ times_here n (number_of x) + times_in n (numbers_inside x)
times_rolled n (Statement-F.Null k) = ap (times_in n) (fold-roll-Statement (List ℕ) numbers_step (Statement-F.Null k))
times_rolled n (Statement-F.Assign k t e) = ap (times_in n) (fold-roll-Statement (List ℕ) numbers_step (Statement-F.Assign k t e))
times_rolled n (Statement-F.Later k ticks t e) = ap (times_in n) (fold-roll-Statement (List ℕ) numbers_step (Statement-F.Later k ticks t e))
times_rolled n (Statement-F.Call k c) = ap (times_in n) (fold-roll-Statement (List ℕ) numbers_step (Statement-F.Call k c))
times_rolled n (Statement-F.Finish k) = ap (times_in n) (fold-roll-Statement (List ℕ) numbers_step (Statement-F.Finish k))
times_rolled n (Statement-F.Block all) = omega (arith, ap (times_in n) (fold-roll-Statement (List ℕ) numbers_step (Statement-F.Block all) ∙ joined_all all.items))
times_rolled n (Statement-F.Delay k ticks body) = ap (times_in n) (fold-roll-Statement (List ℕ) numbers_step (Statement-F.Delay k ticks body))
times_rolled n (Statement-F.Event k terms body) = ap (times_in n) (fold-roll-Statement (List ℕ) numbers_step (Statement-F.Event k terms body))
times_rolled n (Statement-F.If k e a b) = ap (times_in n) (fold-roll-Statement (List ℕ) numbers_step (Statement-F.If k e a b))
times_rolled n (Statement-F.Case k kind e items) =
    ap (times_in n) (fold-roll-Statement (List ℕ) numbers_step (Statement-F.Case k kind e items) ∙ ap (λ (ns : List ℕ). k ∷ ns) (joined_in items.items))
times_rolled n (Statement-F.While k e body) = ap (times_in n) (fold-roll-Statement (List ℕ) numbers_step (Statement-F.While k e body))
times_rolled n (Statement-F.Repeat k signed e body) = ap (times_in n) (fold-roll-Statement (List ℕ) numbers_step (Statement-F.Repeat k signed e body))
times_rolled n (Statement-F.Forever k body) = ap (times_in n) (fold-roll-Statement (List ℕ) numbers_step (Statement-F.Forever k body))

pub times_whole : (n : ℕ) (s : Statement) → times_in n (numbers s) ≡ times_here n (number_of (out-Statement s)) + times_in n (numbers_inside (out-Statement s))
times_whole n s = ap (λ (t : Statement). times_in n (numbers t)) (sym (roll-out-Statement s)) ∙ times_rolled n (out-Statement s)

pub numbers-Block : (all : Vec Statement Global) → numbers (d.Block all) ≡ numbers_all all.items
numbers-Block all = ap numbers (sym (d.rolls-Block all)) ∙ fold-roll-Statement (List ℕ) numbers_step (Statement-F.Block all) ∙ joined_all all.items

pub inside-Delay : (n : ℕ) (ticks : Ticks) (body : Box Statement Global) → numbers_inside (out-Statement (d.Delay n ticks body)) ≡ numbers body.value
inside-Delay n ticks body = search (rules, the_lemmas)

pub inside-Event : (n : ℕ) (terms : Vec EventTerm Global) (body : Box Statement Global) → numbers_inside (out-Statement (d.Event n terms body)) ≡ numbers body.value
inside-Event n terms body = search (rules, the_lemmas)

pub inside-If : (n : ℕ) (e : Typed) (a b : Box Statement Global) → numbers_inside (out-Statement (d.If n e a b)) ≡ numbers a.value ++ numbers b.value
inside-If n e a b = search (rules, the_lemmas)

pub inside-Case : (n : ℕ) (kind : CaseKind) (e : Typed) (items : Vec (Vec Typed Global × Statement) Global) → numbers_inside (out-Statement (d.Case n kind e items)) ≡ numbers_in items.items
inside-Case n kind e items = search (rules, the_lemmas)

pub inside-Repeat : (n : ℕ) (signed : Bool) (e : Typed) (body : Box Statement Global) → numbers_inside (out-Statement (d.Repeat n signed e body)) ≡ numbers body.value
inside-Repeat n signed e body = search (rules, the_lemmas)

-- ---- code that is being written

pub times-append : (n : ℕ) (xs ys : List ℕ) → times_in n (xs ++ ys) ≡ times_in n xs + times_in n ys
times-append n [] ys = omega arith
times-append n (x ∷ xs) ys = omega (arith, times-append n xs ys)

stands-append : (n : ℕ) (ks ls : List Link) → times_done n (ks ++ ls) ≡ times_done n ks + times_done n ls
stands-append n [] ls = omega arith
stands-append n (k ∷ ks) ls = omega (arith, stands-append n ks ls)

-- one instruction more
pub adds_put : (old new : Draft) (x : Op) → new.ops.items ≡ old.ops.items ++ x ∷ [] → AddsOne old new (number_at (link_of x).job)
adds_put old new x e = λ n.
    let links : links_of new.ops.items ≡ links_of old.ops.items ++ link_of x ∷ [] = ap links_of e ∙ map-append link_of old.ops.items (x ∷ []) in
    omega (arith, ap (times_done n) links, stands-append n (links_of old.ops.items) (link_of x ∷ []))

pub adds_none : (d : Draft) → Adds d d []
adds_none d = λ n. omega arith

-- code in front of other code
pub adds_then : (a b c : Draft) (ms ns : List ℕ) → Adds a b ns → Adds b c ms → Adds a c (ms ++ ns)
adds_then a b c ms ns h k = λ n. omega (arith, h n, k n, times-append n ms ns)

-- a draft that differs in where its instructions start alone
pub adds_same : (a b c : Draft) (ns : List ℕ) → links_of c.ops.items ≡ links_of b.ops.items → Adds a b ns → Adds a c ns
adds_same a b c ns e h = λ n. ap (times_done n) e ∙ h n

-- a statement whose parts are there already
pub adds_whole : (a b c : Draft) (s : Statement) → Adds a b (numbers_inside (out-Statement s)) → AddsOne b c (number_of (out-Statement s)) → Adds a c (numbers s)
adds_whole a b c s h k = λ n. omega (arith, h n, k n, times_whole n s)

pub ok_whole : (a b c : Draft) (s : Statement) (r : Result ℕ AllocError) → Adds a b (numbers_inside (out-Statement s)) →
    IfOk r (λ p. AddsOne b c (number_of (out-Statement s))) → IfOk r (λ p. Adds a c (numbers s))
ok_whole a b c s (Ok p) h k = adds_whole a b c s h k
ok_whole a b c s (Err e) h k = tt

-- a statement that has been put before the one in it
pub adds_head : (a b c : Draft) (s : Statement) → AddsOne a b (number_of (out-Statement s)) → Adds b c (numbers_inside (out-Statement s)) → Adds a c (numbers s)
adds_head a b c s h k = λ n. omega (arith, h n, k n, times_whole n s)

-- a test of a `repeat` has no number
pub adds_test : (a b c : Draft) (ns : List ℕ) → AddsOne a b None → Adds b c ns → Adds a c ns
adds_test a b c ns h k = λ n. omega (arith, h n, k n)

pub numbers_all-drop : (xs : List Statement) (i : ℕ) (s : Statement) → i < length xs → numbers_all (drop i xs) ≡ numbers (get_or xs i s) ++ numbers_all (drop (i + 1) xs)
numbers_all-drop xs i s h = ap numbers_all (drop_more xs i s h)

times_in-snoc : (n : ℕ) (items : List (Vec Typed Global × Statement)) (i : Vec Typed Global × Statement) → times_in n (numbers_in (items ++ i ∷ [])) ≡ times_in n (numbers_in items) + times_in n (numbers i.1)
times_in-snoc n [] i = times-append n (numbers i.1) [] ∙ omega arith
times_in-snoc n (j ∷ items) i = omega (arith, times-append n (numbers j.1) (numbers_in (items ++ i ∷ [])), times-append n (numbers j.1) (numbers_in items), times_in-snoc n items i)

pub adds_item : (a b c : Draft) (items : List (Vec Typed Global × Statement)) (i : Vec Typed Global × Statement) → Adds a b (numbers_in items) → Adds b c (numbers i.1) → Adds a c (numbers_in (items ++ i ∷ []))
adds_item a b c items i h k = λ n. omega (arith, h n, k n, times_in-snoc n items i)

-- the whole code of a process
pub all_stand : (a d : Draft) (s : Statement) → a.ops.items ≡ [] → Adds a d (numbers s) → AllPlaced s (links_of d.ops.items)
all_stand a d s e h = λ n. let none : times_done n (links_of a.ops.items) ≡ 0 = ap (λ (ops : List Op). times_done n (links_of ops)) e in omega (arith, h n, none)

-- ---- how often a number is there

pub here_once : (n : ℕ) (o : Option ℕ) → o ≡ Some n → times_here n o ≡ 1
here_once n o e = ap (times_here n) e ∙ ap once_where (eq-eqb n n refl)

one_stands : (n : ℕ) (links : List Link) (i : ℕ) (l : Link) → slice_get links i ≡ Some l → number_at l.job ≡ Some n → 1 ≤ times_done n links
one_stands n [] i l e h = absurd (none-some l e)
one_stands n (k ∷ links) zero l e h =
    let is : number_at k.job ≡ Some n = ap (λ (m : Link). number_at m.job) (same_Some k l e) ∙ h in
    omega (arith, here_once n (number_at k.job) is)
one_stands n (k ∷ links) (suc i) l e h = omega (arith, one_stands n links i l e h)

two_stand : (n : ℕ) (links : List Link) (i j : ℕ) (k l : Link) → i < j → slice_get links i ≡ Some k → number_at k.job ≡ Some n →
    slice_get links j ≡ Some l → number_at l.job ≡ Some n → 2 ≤ times_done n links
two_stand n [] i j k l lt e h f g = absurd (none-some k e)
two_stand n (m ∷ links) i zero k l lt e h f g = absurd (omega (arith, lt))
two_stand n (m ∷ links) zero (suc j) k l lt e h f g =
    let is : number_at m.job ≡ Some n = ap (λ (o : Link). number_at o.job) (same_Some m k e) ∙ h in
    omega (arith, here_once n (number_at m.job) is, one_stands n links j l f g)
two_stand n (m ∷ links) (suc i) (suc j) k l lt e h f g = omega (arith, two_stand n links i j k l (omega (arith, lt)) e h f g)

-- numbers that count up from one on are there at most once, and none below it
pub counted_once : (n a : ℕ) (xs : List ℕ) → counts_from a xs ≡ true → (times_in n xs ≤ 1) × (n < a → times_in n xs ≡ 0)
counted_once n a [] h = (omega arith, λ lt. refl)
counted_once n a (m ∷ ms) h =
    let at : m ≡ a = eqb-true m a (both_left (m == a) (counts_from (suc a) ms) h) in
    let later = counted_once n (suc a) ms (both_right (m == a) (counts_from (suc a) ms) h) in
    ⊎_elim
    (λ (w : ((m == n) ≡ true) × (m ≡ n)).
    let none : times_in n ms ≡ 0 = later.1 (omega (arith, at, w.1)) in
    let one : times_here n (Some m) ≡ 1 = ap once_where w.0 in
    (omega (arith, none, one), λ (lt : n < a). absurd (omega (arith, lt, at, w.1))))
    (λ (w : ((m == n) ≡ false) × (m ≢ n)).
    let none : times_here n (Some m) ≡ 0 = ap once_where w.0 in
    (omega (arith, none, later.0), λ (lt : n < a). omega (arith, none, later.1 (omega (arith, lt)))))
    (eqb_tells m n)

-- ---- the place of a number

-- a place where the statement of a number is done
record Spot (links : List Link) (n p : ℕ) : Type 0 where
  index : ℕ
  link : Link
  at : p ≡ suc index
  is : slice_get links index ≡ Some link
  number : number_at link.job ≡ Some n

job_number : (n : ℕ) (j : Job) (rest : Todo) → number_next (item_of [] j ∷ rest) ≡ Some n → number_at j ≡ Some n
job_number n (performs s) rest h = h
job_number n (tests k s) rest h = absurd (none-some n h)

spot_of : (links : List Link) (n i : ℕ) (r : ℕ → Todo) (o : Option Link) → slice_get links i ≡ o → number_next (todo_from [] r o) ≡ Some n → Spot links n (suc i)
spot_of links n i r None e h = absurd (none-some n h)
spot_of links n i r (Some l) e h = record { index = i; link = l; at = refl; is = e; number = job_number n l.job (r l.behind) h }

spot : (links : List Link) (n p : ℕ) → number_next (point_at links p) ≡ Some n → Spot links n p
spot links n zero h = absurd (none-some n h)
spot links n (suc i) h = spot_of links n i (λ p. todo_within i links [] p) (slice_get links i) refl h

same_spot : (links : List Link) (n p q : ℕ) → times_done n links ≤ 1 → Spot links n p → Spot links n q → p ≡ q
same_spot links n p q le a b = ⊎_elim
    (λ (lt : a.index < b.index). absurd (omega (arith, le, two_stand n links a.index b.index a.link b.link lt a.is a.number b.is b.number)))
    (λ (ge : b.index ≤ a.index). ⊎_elim
    (λ (lt : b.index < a.index). absurd (omega (arith, le, two_stand n links b.index a.index b.link a.link lt b.is b.number a.is a.number)))
    (λ (le : a.index ≤ b.index). omega (arith, a.at, b.at, ge, le))
    (below_or b.index a.index))
    (below_or a.index b.index)

-- a statement's number stands at one place alone
pub numbers_apart : (s : Statement) (ops : List Op) (counters start : ℕ) → IsCodeOf s ops counters start → counts_from 0 (numbers s) ≡ true →
    (i j n : ℕ) (k l : Link) → slice_get (links_of ops) i ≡ Some k → slice_get (links_of ops) j ≡ Some l → number_at k.job ≡ Some n → number_at l.job ≡ Some n → i ≡ j
numbers_apart s ops counters start code rise i j n k l at there is same =
    let once : times_done n (links_of ops) ≤ 1 = omega (arith, code.stand n, (counted_once n 0 (numbers s) rise).0) in
    let one : suc i ≡ suc j =
    same_spot (links_of ops) n (suc i) (suc j) once (record { index = i; link = k; at = refl; is = at; number = is })
    (record { index = j; link = l; at = refl; is = there; number = same }) in
    omega (arith, one)

pub one_place : (s : Statement) (ops : List Op) (counters start : ℕ) → IsCodeOf s ops counters start → counts_from 0 (numbers s) ≡ true →
    (p q n : ℕ) → number_next (point_at (links_of ops) p) ≡ Some n → point_at (links_of ops) p ≡ point_at (links_of ops) q → p ≡ q
one_place s ops counters start code rise p q n is same =
    same_spot (links_of ops) n p q (omega (arith, code.stand n, (counted_once n 0 (numbers s) rise).0)) (spot (links_of ops) n p is) (spot (links_of ops) n q (ap number_next (sym same) ∙ is))

-- the instruction of a statement with none in it
pub ok_single : (a c : Draft) (s : Statement) (f : Statement-F Statement) (r : Result ℕ AllocError) → out-Statement s ≡ f → numbers_inside f ≡ [] →
    IfOk r (λ p. AddsOne a c (number_of (out-Statement s))) → IfOk r (λ p. Adds a c (numbers s))
ok_single a c s f r is none one =
    ok_whole a a c s r (subst (λ (ns : List ℕ). Adds a a ns) (sym (ap (λ (g : Statement-F Statement). numbers_inside g) is ∙ none)) (adds_none a)) one

-- the instruction of a statement in front of the code of those in it
pub ok_known : (a b c : Draft) (s : Statement) (ns : List ℕ) (r : Result ℕ AllocError) → numbers_inside (out-Statement s) ≡ ns → Adds a b ns →
    IfOk r (λ p. AddsOne b c (number_of (out-Statement s))) → IfOk r (λ p. Adds a c (numbers s))
ok_known a b c s ns r is inside one = ok_whole a b c s r (subst (λ (ms : List ℕ). Adds a b ms) (sym is) inside) one
