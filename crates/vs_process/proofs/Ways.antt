-- Lemmas on the ways of a code.
use Rattle.std.proofs.Common.{Global, ◌≡◌, ℕ, zero, suc, Bool, true, false, Option, Some, None, List, [], ◌∷◌, ◌++◌, map, length, get_or, refl, sym, ◌∙◌, ap, ap₂, arith}
use Rattle.std.specs.Prelude.{slice_get, slice_set, Vec, option_map}
use Rattle.std.specs.List.{list_any}
use Rattle.std.proofs.lemmas.List.{map-append}
use Rattle.std.proofs.lemmas.Option.{slice_get-map}
use Rattle.vs_design.specs.declared.expression.Typed.{Typed}
use Rattle.vs_design.specs.declared.statement.Statement.{Statement}
use Rattle.vs_design.specs.declared.statement.Statement.TheOpen.{Statement-F}
use Rattle.vs_design.specs.declared.statement.Statement.TheViews.{out-Statement}
use Rattle.vs_process.specs.declared.draft.Op.{Op}
use Rattle.vs_process.specs.declared.draft.Task.{Task}
use Rattle.vs_process.specs.declared.draft.Task.TheVariants.{Perform, Turns}
use Rattle.vs_process.specs.Extras.{starts_in}
use Rattle.vs_process.specs.Places.{Item, Todo, flat, perform, turns}
use Rattle.vs_process.specs.Steps.{Next, on, after, wait, is_default}
use Rattle.vs_process.specs.Nexts.{erased_item, erased, past, statement_nexts, nexts}
use Rattle.vs_process.specs.Links.{Link, Job, performs, tests, item_of, todo_from, todo_within, todo_at}
use Rattle.vs_process.specs.Codes.{Layout, IsCode, IsCodeOf, IsTurn, LeadAll, FitsStatement, FitsTask, links_of, link_of, layout_of, job_of}
use Rattle.vs_process.specs.Ways.{way_on, past_ways, statement_ways, task_ways, op_ways, ways, point_at, next_at, HasWays}
use Rattle.vs_process.proofs.Links.{todo_here}
use Rattle.vs_process.proofs.Drafts.{link_here}
use Rattle.vs_process.proofs.Codes.{todo_start}

-- ---- counters

erased_job : (cs : List ℕ) (j : Job) → erased_item (item_of cs j) ≡ item_of [] j
erased_job cs (performs s) = refl
erased_job cs (tests k s) = refl

erased_from : (cs : List ℕ) (r t : ℕ → Todo) (l : Option Link) → ((p : ℕ) → erased (r p) ≡ t p) → erased (todo_from cs r l) ≡ todo_from [] t l
erased_from cs r t None h = refl
erased_from cs r t (Some l) h = ap₂ (λ (i : Item) (k : Todo). i ∷ k) (erased_job cs l.job) (h l.behind)

erased_within : (most : ℕ) (links : List Link) (cs : List ℕ) (p : ℕ) → erased (todo_within most links cs p) ≡ todo_within most links [] p
erased_within zero links cs p = refl
erased_within (suc most) links cs zero = refl
erased_within (suc most) links cs (suc i) =
    erased_from cs (λ p. todo_within most links cs p) (λ p. todo_within most links [] p) (slice_get links i) (λ p. erased_within most links cs p)

-- counters that count nothing
abbrev zeros : ℕ → List ℕ
zeros zero = []
zeros (suc n) = 0 ∷ zeros n

zeros_long : (n : ℕ) → length (zeros n) ≡ n
zeros_long zero = refl
zeros_long (suc n) = ap suc (zeros_long n)

zeros_set : (n k : ℕ) → slice_set (zeros n) k 0 ≡ zeros n
zeros_set zero k = refl
zeros_set (suc n) zero = refl
zeros_set (suc n) (suc k) = ap (λ (l : List ℕ). 0 ∷ l) (zeros_set n k)

zeros_get : (n k : ℕ) → get_or (zeros n) k 0 ≡ 0
zeros_get zero k = refl
zeros_get (suc n) zero = refl
zeros_get (suc n) (suc k) = zeros_get n k

zero_job : (n : ℕ) (j : Job) → item_of (zeros n) j ≡ item_of [] j
zero_job n (performs s) = refl
zero_job n (tests k s) = ap (λ (m : ℕ). turns m s) (zeros_get n k)

zero_from : (n : ℕ) (r t : ℕ → Todo) (l : Option Link) → ((p : ℕ) → r p ≡ t p) → todo_from (zeros n) r l ≡ todo_from [] t l
zero_from n r t None h = refl
zero_from n r t (Some l) h = ap₂ (λ (i : Item) (k : Todo). i ∷ k) (zero_job n l.job) (h l.behind)

zero_within : (most n : ℕ) (links : List Link) (p : ℕ) → todo_within most links (zeros n) p ≡ todo_within most links [] p
zero_within zero n links p = refl
zero_within (suc most) n links zero = refl
zero_within (suc most) n links (suc i) =
    zero_from n (λ p. todo_within most links (zeros n) p) (λ p. todo_within most links [] p) (slice_get links i) (λ p. zero_within most n links p)

-- where the statement of a `repeat` starts
turn_point : (c : Layout) (counter : ℕ) (s : Statement) (first behind : ℕ) → IsTurn c counter s first behind →
    point_at c.links first ≡ flat s ++ turns 0 s ∷ point_at c.links behind
turn_point c counter s first behind h =
    let cs = zeros (suc counter) in
    sym (zero_within first (suc counter) c.links first)
    ∙ ap (λ (k : List ℕ). todo_at c.links k first) (sym (zeros_set (suc counter) counter))
    ∙ h.leads cs 0 (omega (arith, zeros_long (suc counter)))
    ∙ ap (λ (t : Todo). flat s ++ turns 0 s ∷ t) (zero_within behind (suc counter) c.links behind)

-- ---- ways

case_points : (links : List Link) (items : List (Vec Typed Global × Statement)) (starts : List ℕ) (behind : ℕ) → LeadAll links items starts behind →
    map (λ (i : Vec Typed Global × Statement). on (flat i.1 ++ point_at links behind)) items ≡ map (next_at links) (map way_on starts)
case_points links [] [] behind h = refl
case_points links (i ∷ items) (p ∷ starts) behind h =
    ap₂ (λ (n : Next) (l : List Next). n ∷ l) (ap on (sym (h.0 []))) (case_points links items starts behind h.1)
case_points links [] (p ∷ starts) behind h = absurd h
case_points links (i ∷ items) [] behind h = absurd h

past_points : (links : List Link) (b : Bool) (behind : ℕ) → past b (point_at links behind) ≡ map (next_at links) (past_ways b behind)
past_points links true behind = refl
past_points links false behind = refl

turn_ways : (c : Layout) (x : Op) (s : Statement) → IsTurn c x.counter s x.first x.behind →
    on (flat s ++ turns 0 s ∷ point_at c.links x.behind) ∷ on (point_at c.links x.behind) ∷ [] ≡ map (next_at c.links) (way_on x.first ∷ way_on x.behind ∷ [])
turn_ways c x s h = ap (λ (t : Todo). on t ∷ on (point_at c.links x.behind) ∷ []) (sym (turn_point c x.counter s x.first x.behind h))

statement_points : (c : Layout) (x : Op) (here : ℕ) (s : Statement) (f : Statement-F Statement) → FitsStatement c x here s f →
    point_at c.links here ≡ perform s ∷ point_at c.links x.behind →
    statement_nexts s f (point_at c.links x.behind) ≡ map (next_at c.links) (statement_ways x f)
statement_points c x here s (Statement-F.Null n) h at = refl
statement_points c x here s (Statement-F.Assign n t e) h at = refl
statement_points c x here s (Statement-F.Later n ticks t e) h at = refl
statement_points c x here s (Statement-F.Call n call) h at = refl
statement_points c x here s (Statement-F.Finish n) h at = refl
statement_points c x here s (Statement-F.Block all) h at = ap (λ (t : Todo). on t ∷ []) (sym (h []))
statement_points c x here s (Statement-F.Delay n ticks body) h at = ap (λ (t : Todo). after n ticks.count t ∷ []) (sym (h []))
statement_points c x here s (Statement-F.Event n terms body) h at = ap (λ (t : Todo). wait n terms.items t ∷ []) (sym (h []))
statement_points c x here s (Statement-F.If n e a b) h at = ap₂ (λ (t r : Todo). on t ∷ on r ∷ []) (sym (h.0 [])) (sym (h.1 []))
statement_points c x here s (Statement-F.Case n kind e items) h at =
    ap₂ (λ (l r : List Next). l ++ r) (case_points c.links items.items (starts_in x) x.behind h) (past_points c.links (list_any is_default items.items) x.behind)
    ∙ sym (map-append (next_at c.links) (map way_on (starts_in x)) (past_ways (list_any is_default items.items) x.behind))
statement_points c x here s (Statement-F.While n e body) h at =
    ap (λ (t : Todo). on t ∷ on (point_at c.links x.behind) ∷ []) (sym (h [] ∙ ap (λ (t : Todo). flat body.value ++ t) at))
statement_points c x here s (Statement-F.Repeat n signed e body) h at = turn_ways c x body.value h
statement_points c x here s (Statement-F.Forever n body) h at = ap (λ (t : Todo). on t ∷ []) (sym (h [] ∙ ap (λ (t : Todo). flat body.value ++ t) at))

task_points : (c : Layout) (x : Op) (here : ℕ) (task : Task) → FitsTask c x here task →
    point_at c.links here ≡ item_of [] (job_of x.counter task) ∷ point_at c.links x.behind →
    nexts (item_of [] (job_of x.counter task) ∷ point_at c.links x.behind) ≡ map (next_at c.links) (task_ways x task)
task_points c x here (Perform s) h at = statement_points c x here s.now (out-Statement s.now) h at
task_points c x here (Turns s) h at = turn_ways c x s.now h

-- behind the last instruction there is no place
pub link_none : (ops : List Op) (i : ℕ) → slice_get ops i ≡ None → slice_get (links_of ops) i ≡ None
link_none ops i e = slice_get-map link_of ops i ∙ ap (option_map link_of) e

op_points : (ops : List Op) (n i : ℕ) (o : Option Op) → IsCode ops n → slice_get ops i ≡ o → nexts (point_at (links_of ops) (suc i)) ≡ map (next_at (links_of ops)) (op_ways o)
op_points ops n i None h e = ap (λ (l : Option Link). nexts (todo_from [] (λ p. todo_within i (links_of ops) [] p) l)) (link_none ops i e)
op_points ops n i (Some x) h e =
    let at : point_at (links_of ops) (suc i) ≡ item_of [] (job_of x.counter x.task) ∷ point_at (links_of ops) x.behind =
    todo_here (links_of ops) [] i (link_of x) h.linked (link_here ops i x e) in
    ap nexts at ∙ task_points (layout_of ops n) x (suc i) x.task (h.fits i x e) at

has_ways_at : (ops : List Op) (n : ℕ) → IsCode ops n → (place : ℕ) → nexts (point_at (links_of ops) place) ≡ map (next_at (links_of ops)) (ways ops place)
has_ways_at ops n h zero = refl
has_ways_at ops n h (suc i) = op_points ops n i (slice_get ops i) h refl

pub has_ways : (s : Statement) (ops : List Op) (n start : ℕ) → IsCodeOf s ops n start → HasWays s ops start
has_ways s ops n start h = record {
  starts = todo_start s ops n start [] h;
  points = λ cs place. erased_within place (links_of ops) cs place;
  ways = has_ways_at ops n h.code;
}
