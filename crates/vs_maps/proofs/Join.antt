-- What is reached on a map is what paths of the text lead to.
use Rattle.std.proofs.Common.{◌≡◌, ℕ, zero, suc, ◌⊎◌, ◌↔◌, ◌&&◌, inl, inr, Bool, true, false, Some, List, [], ◌∷◌, map, refl, sym, ◌∙◌, ap, subst, arith, if◌then◌else◌}
use Rattle.std.specs.List.{Contains}
use Rattle.std.proofs.lemmas.Bool.{false≢true}
use Rattle.vs_process.specs.Landings.{todo_after}
use Rattle.vs_process.specs.Places.{Todo}
use Rattle.vs_process.specs.Steps.{Next, on, after, wait}
use Rattle.vs_process.specs.Numbers.{number_next}
use Rattle.vs_process.specs.Ways.{Pause, none, delay, event, next_by}
use Rattle.vs_design.specs.Parts.{Parts}
use Rattle.vs_rules.specs.Points.{Among, Goes, Point, first_alone, first_todo, nexts_by, todo_turns}
use Rattle.vs_rules.specs.Points as r
use Rattle.vs_rules.specs.Paths.{Path, PathBy, PathFromBy}
use Rattle.vs_rules.specs.Paths as x
use Rattle.vs_graph.specs.Reached.{Reached, begins, goes_on}
use Rattle.vs_graph.proofs.Sweep.{none_in}
use Rattle.vs_process.specs.Maps.{todo_pause, IsMap, tos_by, steps}
use Rattle.vs_maps.specs.Laws.{Alike, IsBegun, MapsAreExact}
use Rattle.vs_maps.specs.Reaches.{tos_by_turn}

-- ---- lists

split : (x b : ℕ) (xs : List ℕ) → Contains (x ∷ xs) b → (x ≡ b) ⊎ Contains xs b
split x b xs (zero, l, e) = inl e
split x b xs (suc n, l, e) = inr (n, omega (arith, l), e)

pub head_in : (x : ℕ) (xs : List ℕ) → Contains (x ∷ xs) x
head_in x xs = (0, omega arith, refl)

pub tail_in : (x b : ℕ) (xs : List ℕ) → Contains xs b → Contains (x ∷ xs) b
tail_in x b xs h = (suc h.0, omega (arith, h.1), h.2)

among_map : (f : ℕ → Next) (xs : List ℕ) (next : Next) → Among next (map f xs) → (t : ℕ) × Contains xs t × (f t ≡ next)
among_map f [] next h = elim h [ ]
among_map f (x ∷ xs) _ (Among.first _) = (x, head_in x xs, refl)
among_map f (x ∷ xs) next (Among.further _ _ h) = let y = among_map f xs next h in (y.0, tail_in x y.0 xs y.1, y.2)

map_among : (f : ℕ → Next) (xs : List ℕ) (t : ℕ) → Contains xs t → Among (f t) (map f xs)
map_among f [] t h = absurd (none_in t h)
map_among f (x ∷ xs) t h = elim (split x t xs h) [
  | inl e ↦ subst (λ y. Among (f y) (f x ∷ map f xs)) e (Among.first (map f xs))
  | inr i ↦ Among.further (f x) (map f xs) (map_among f xs t i)
]

-- what is left after a way
pub behind_next : (pause : Pause) (l : Todo) → todo_after (next_by pause l) ≡ l
behind_next none l = refl
behind_next (delay number ticks) l = refl
behind_next (event number terms) l = refl

-- ---- one step

pub go : (first : Todo) (at : ℕ → Todo) (start : ℕ) (behind : ℕ → ℕ) (tos : ℕ → List ℕ) → IsMap first at start behind tos → (p : ℕ) (next : Next) → Goes (at p) next →
    (t : ℕ) × Contains (tos p) t × (next_by (todo_pause (at p)) (at t) ≡ next)
go first at start behind tos m p next h = among_map (λ t. next_by (todo_pause (at p)) (at t)) (tos p) next (subst (Among next) (m.ways p) h)

pub gone : (first : Todo) (at : ℕ → Todo) (start : ℕ) (behind : ℕ → ℕ) (tos : ℕ → List ℕ) → IsMap first at start behind tos → (p t : ℕ) → Contains (tos p) t →
    Goes (at p) (next_by (todo_pause (at p)) (at t))
gone first at start behind tos m p t h = subst (Among (next_by (todo_pause (at p)) (at t))) (sym (m.ways p)) (map_among (λ t. next_by (todo_pause (at p)) (at t)) (tos p) t h)

if_true : (b : Bool) (xs : List ℕ) (t : ℕ) → b ≡ true → Contains xs t → Contains (if b then xs else []) t
if_true true xs t e h = h
if_true false xs t e h = absurd (false≢true e)

pub true_if : (b : Bool) (xs : List ℕ) (t : ℕ) → Contains (if b then xs else []) t → (b ≡ true) × Contains xs t
true_if true xs t h = (refl, h)
true_if false xs t h = absurd (none_in t h)

-- ---- one step of a path, which may pass a turn that is sure by it alone

by_turn_map : (first : Bool) (f : ℕ → Next) (xs : List ℕ) → (if first then first_alone (map f xs) else map f xs) ≡ map f (tos_by_turn first xs)
by_turn_map false f xs = refl
by_turn_map true f [] = refl
by_turn_map true f (x ∷ xs) = refl

pub by_turn_in : (first : Bool) (xs : List ℕ) (t : ℕ) → Contains (tos_by_turn first xs) t → Contains xs t
by_turn_in false xs t h = h
by_turn_in true [] t h = h
by_turn_in true (x ∷ xs) t h = elim (split x t [] h) [ inl e ↦ subst (Contains (x ∷ xs)) e (head_in x xs) | inr i ↦ absurd (none_in t i) ]

nexts_are : (first : Todo) (at : ℕ → Todo) (start : ℕ) (behind : ℕ → ℕ) (tos : ℕ → List ℕ) (wide : Bool) → IsMap first at start behind tos → (p : ℕ) →
    nexts_by wide (at p) ≡ map (λ t. next_by (todo_pause (at p)) (at t)) (tos_by_turn (wide && todo_turns (at p)) (tos p))
nexts_are first at start behind tos wide m p =
    ap (λ (l : List Next). if wide && todo_turns (at p) then first_alone l else l) (m.ways p)
    ∙ by_turn_map (wide && todo_turns (at p)) (λ t. next_by (todo_pause (at p)) (at t)) (tos p)

go_by : (first : Todo) (at : ℕ → Todo) (start : ℕ) (behind : ℕ → ℕ) (tos : ℕ → List ℕ) (wide : Bool) → IsMap first at start behind tos → (p : ℕ) (next : Next) →
    Among next (nexts_by wide (at p)) → (t : ℕ) × Contains (tos_by_turn (wide && todo_turns (at p)) (tos p)) t × (next_by (todo_pause (at p)) (at t) ≡ next)
go_by first at start behind tos wide m p next h =
    among_map (λ t. next_by (todo_pause (at p)) (at t)) (tos_by_turn (wide && todo_turns (at p)) (tos p)) next (subst (Among next) (nexts_are first at start behind tos wide m p) h)

gone_by : (first : Todo) (at : ℕ → Todo) (start : ℕ) (behind : ℕ → ℕ) (tos : ℕ → List ℕ) (wide : Bool) → IsMap first at start behind tos → (p t : ℕ) →
    Contains (tos_by_turn (wide && todo_turns (at p)) (tos p)) t → Among (next_by (todo_pause (at p)) (at t)) (nexts_by wide (at p))
gone_by first at start behind tos wide m p t h =
    subst (Among (next_by (todo_pause (at p)) (at t))) (sym (nexts_are first at start behind tos wide m p))
    (map_among (λ t. next_by (todo_pause (at p)) (at t)) (tos_by_turn (wide && todo_turns (at p)) (tos p)) t h)

-- where a place leads, where the ways from it go on so
abbrev pub tos_along : Bool → (Pause → Bool) → (ℕ → Todo) → (ℕ → List ℕ) → ℕ → List ℕ
tos_along wide passes at tos p = if passes (todo_pause (at p)) then tos_by_turn (wide && todo_turns (at p)) (tos p) else []

-- ---- paths

-- a path leads to a place that is reached
pub path_on : (first : Todo) (at : ℕ → Todo) (start : ℕ) (behind : ℕ → ℕ) (tos : ℕ → List ℕ) (wide : Bool) (ok : Next → Bool) (passes : Pause → Bool) → IsMap first at start behind tos →
    Alike ok passes → (seeds : List ℕ) (p : ℕ) → Contains seeds p → (l : Todo) → PathBy (nexts_by wide) ok (at p) l → (q : ℕ) × Reached (tos_along wide passes at tos) seeds q × (at q ≡ l)
path_on first at start behind tos wide ok passes m alike seeds p in_seeds _ x.begins = (p, begins p in_seeds, refl)
path_on first at start behind tos wide ok passes m alike seeds p in_seeds _ (x.goes k l next path goes passes_it is) =
    let a = path_on first at start behind tos wide ok passes m alike seeds p in_seeds k path in
    let b = go_by first at start behind tos wide m a.0 next (subst (λ (y : Todo). Among next (nexts_by wide y)) (sym a.2) goes) in
    let c : passes (todo_pause (at a.0)) ≡ true = sym (alike (todo_pause (at a.0)) (at b.0)) ∙ ap ok b.2 ∙ passes_it in (
      b.0,
      goes_on a.0 b.0 a.1 (if_true (passes (todo_pause (at a.0))) (tos_by_turn (wide && todo_turns (at a.0)) (tos a.0)) b.0 c b.1),
      sym (behind_next (todo_pause (at a.0)) (at b.0)) ∙ ap todo_after b.2 ∙ is,
    )

-- a place that is reached is one that a path leads to
pub path_back : (first : Todo) (at : ℕ → Todo) (start : ℕ) (behind : ℕ → ℕ) (tos : ℕ → List ℕ) (wide : Bool) (ok : Next → Bool) (passes : Pause → Bool) → IsMap first at start behind tos →
    Alike ok passes → (seeds : List ℕ) (q : ℕ) → Reached (tos_along wide passes at tos) seeds q → (p : ℕ) × Contains seeds p × PathBy (nexts_by wide) ok (at p) (at q)
path_back first at start behind tos wide ok passes m alike seeds _ (begins a h) = (a, h, x.begins)
path_back first at start behind tos wide ok passes m alike seeds _ (goes_on a b h e) =
    let c = path_back first at start behind tos wide ok passes m alike seeds a h in
    let d = true_if (passes (todo_pause (at a))) (tos_by_turn (wide && todo_turns (at a)) (tos a)) b e in (
      c.0,
      c.1,
      x.goes (at a) (at b) (next_by (todo_pause (at a)) (at b)) c.2 (gone_by first at start behind tos wide m a b d.1) (alike (todo_pause (at a)) (at b) ∙ d.0)
          (behind_next (todo_pause (at a)) (at b)),
    )

pub only : (p q : ℕ) → Contains (p ∷ []) q → p ≡ q
only p q h = elim (split p q [] h) [ inl e ↦ e | inr n ↦ absurd (none_in q n) ]

-- a place with a number is the one of its point
pub same_place : (first : Todo) (at : ℕ → Todo) (start : ℕ) (behind : ℕ → ℕ) (tos : ℕ → List ℕ) → IsMap first at start behind tos → (R : ℕ → Type 0) (q n : ℕ) →
    number_next (at q) ≡ Some n → (x : ℕ) × R x × (at x ≡ at q) → R q
same_place first at start behind tos m R q n is y = subst R (sym (m.one q y.0 n is (sym y.2))) y.1

pub path_exact : (first : Todo) (at : ℕ → Todo) (start : ℕ) (behind : ℕ → ℕ) (tos : ℕ → List ℕ) (ok : Next → Bool) (passes : Pause → Bool) → IsMap first at start behind tos →
    Alike ok passes → (p q n : ℕ) → number_next (at q) ≡ Some n → (Reached (tos_by passes at tos) (p ∷ []) q ↔ Path ok (at p) (at q))
path_exact first at start behind tos ok passes m alike p q n is = (there, back) where
  there : Reached (tos_by passes at tos) (p ∷ []) q → Path ok (at p) (at q)
  there h = let y = path_back first at start behind tos false ok passes m alike (p ∷ []) q h in subst (λ (a : ℕ). Path ok (at a) (at q)) (sym (only p y.0 y.1)) y.2

  back : Path ok (at p) (at q) → Reached (tos_by passes at tos) (p ∷ []) q
  back h = same_place first at start behind tos m (Reached (tos_by passes at tos) (p ∷ [])) q n is (path_on first at start behind tos false ok passes m alike (p ∷ []) p (head_in p []) (at q) h)

-- ---- points

-- a point to which a way leads
stepped : (first : Todo) (k : Todo) (pause : Pause) (l : Todo) → Point first k → Goes k (next_by pause l) → Point first l
stepped first k none l h g = r.goes_on k l h g
stepped first k (delay number ticks) l h g = r.waits k l number ticks h g
stepped first k (event number terms) l h g = r.listens k l number terms h g

-- what is left without what is done first
left : (first : Todo) (at : ℕ → Todo) (start : ℕ) (behind : ℕ → ℕ) (tos : ℕ → List ℕ) → IsMap first at start behind tos → (p : ℕ) (k : Todo) → at p ≡ k → Point first k → Point first (at (behind p))
left first at start behind tos m p [] e h = subst (Point first) (sym (m.stays p e)) h
left first at start behind tos m p (i ∷ rest) e h = subst (Point first) (sym (m.rest p i rest e)) (r.skips i rest h)

pub point_back : (first : Todo) (at : ℕ → Todo) (start : ℕ) (behind : ℕ → ℕ) (tos : ℕ → List ℕ) → IsMap first at start behind tos → (p : ℕ) → Reached (steps behind tos) (start ∷ []) p → Point first (at p)
point_back first at start behind tos m _ (begins a h) = subst (Point first) (sym m.start_is ∙ ap at (only start a h)) r.begins
point_back first at start behind tos m _ (goes_on a b h e) =
    let p = point_back first at start behind tos m a h in
    elim (split (behind a) b (tos a) e) [
      | inl s ↦ subst (λ (x : ℕ). Point first (at x)) s (left first at start behind tos m a (at a) refl p)
      | inr t ↦ stepped first (at a) (todo_pause (at a)) (at b) p (gone first at start behind tos m a b t)
    ]

-- a way from a point
pointed : (first : Todo) (at : ℕ → Todo) (start : ℕ) (behind : ℕ → ℕ) (tos : ℕ → List ℕ) → IsMap first at start behind tos → (k : Todo) (next : Next) →
    (p : ℕ) × Reached (steps behind tos) (start ∷ []) p × (at p ≡ k) → Goes k next → (p : ℕ) × Reached (steps behind tos) (start ∷ []) p × (at p ≡ todo_after next)
pointed first at start behind tos m k next y g =
    let b = go first at start behind tos m y.0 next (subst (λ (z : Todo). Goes z next) (sym y.2) g) in
    (b.0, goes_on y.0 b.0 y.1 (tail_in (behind y.0) b.0 (tos y.0) b.1), sym (behind_next (todo_pause (at y.0)) (at b.0)) ∙ ap todo_after b.2)

pub point_on : (first : Todo) (at : ℕ → Todo) (start : ℕ) (behind : ℕ → ℕ) (tos : ℕ → List ℕ) → IsMap first at start behind tos → (k : Todo) → Point first k →
    (p : ℕ) × Reached (steps behind tos) (start ∷ []) p × (at p ≡ k)
point_on first at start behind tos m _ r.begins = (start, begins start (head_in start []), m.start_is)
point_on first at start behind tos m _ (r.goes_on k l h g) = pointed first at start behind tos m k (on l) (point_on first at start behind tos m k h) g
point_on first at start behind tos m _ (r.waits k l number ticks h g) = pointed first at start behind tos m k (after number ticks l) (point_on first at start behind tos m k h) g
point_on first at start behind tos m _ (r.listens k l number terms h g) = pointed first at start behind tos m k (wait number terms l) (point_on first at start behind tos m k h) g
point_on first at start behind tos m _ (r.skips i rest h) =
    let y = point_on first at start behind tos m (i ∷ rest) h in
    (behind y.0, goes_on y.0 (behind y.0) y.1 (head_in (behind y.0) (tos y.0)), m.rest y.0 i rest y.2)

pub point_exact : (first : Todo) (at : ℕ → Todo) (start : ℕ) (behind : ℕ → ℕ) (tos : ℕ → List ℕ) → IsMap first at start behind tos → (p n : ℕ) →
    number_next (at p) ≡ Some n → (Reached (steps behind tos) (start ∷ []) p ↔ Point first (at p))
point_exact first at start behind tos m p n is = (
  point_back first at start behind tos m p,
  λ h. same_place first at start behind tos m (Reached (steps behind tos) (start ∷ [])) p n is (point_on first at start behind tos m (at p) h),
)

-- ---- paths once a way of some sort has been gone

pub path_from_exact : (d : Parts) (i : ℕ) (at : ℕ → Todo) (start : ℕ) (behind : ℕ → ℕ) (tos : ℕ → List ℕ) (wide : Bool) (ok : Next → Bool) (passes : Pause → Bool)
    (sort : Todo → Next → Type 0) (seeds : List ℕ) → IsMap (first_todo d i) at start behind tos → Alike ok passes →
    ((s : ℕ) → (Contains seeds s ↔ IsBegun at start behind tos sort s)) → (q n : ℕ) → number_next (at q) ≡ Some n →
    (Reached (tos_along wide passes at tos) seeds q ↔ PathFromBy (nexts_by wide) d i sort ok (at q))
path_from_exact d i at start behind tos wide ok passes sort seeds m alike all q n is = (there, back) where
  there : Reached (tos_along wide passes at tos) seeds q → PathFromBy (nexts_by wide) d i sort ok (at q)
  there h =
      let y = path_back (first_todo d i) at start behind tos wide ok passes m alike seeds q h in
      let b = (all y.0).0 y.1 in
      record {
        at = at b.point;
        next = next_by (todo_pause (at b.point)) (at y.0);
        point = point_back (first_todo d i) at start behind tos m b.point b.reached;
        goes = gone (first_todo d i) at start behind tos m b.point y.0 b.leads;
        starts = b.starts;
        path = subst (λ (t : Todo). PathBy (nexts_by wide) ok t (at q)) (sym (behind_next (todo_pause (at b.point)) (at y.0))) y.2;
      }

  back : PathFromBy (nexts_by wide) d i sort ok (at q) → Reached (tos_along wide passes at tos) seeds q
  back b =
      let y = point_on (first_todo d i) at start behind tos m b.at b.point in
      let g = go (first_todo d i) at start behind tos m y.0 b.next (subst (λ (z : Todo). Goes z b.next) (sym y.2) b.goes) in
      let f : sort (at y.0) (next_by (todo_pause (at y.0)) (at g.0)) =
      subst (λ (z : Todo). sort z (next_by (todo_pause (at y.0)) (at g.0))) (sym y.2) (subst (sort b.at) (sym g.2) b.starts) in
      let e : todo_after b.next ≡ at g.0 = sym (ap todo_after g.2) ∙ behind_next (todo_pause (at y.0)) (at g.0) in
      same_place (first_todo d i) at start behind tos m (Reached (tos_along wide passes at tos) seeds) q n is
      (path_on (first_todo d i) at start behind tos wide ok passes m alike seeds g.0
      ((all g.0).1 (record { point = y.0; reached = y.1; leads = g.1; starts = f })) (at q) (subst (λ (t : Todo). PathBy (nexts_by wide) ok t (at q)) e b.path))

pub exact : MapsAreExact
exact first at start behind tos m = record {
  points = point_on first at start behind tos m;
  point = point_exact first at start behind tos m;
  paths = λ ok passes alike p l h. path_on first at start behind tos false ok passes m alike (p ∷ []) p (head_in p []) l h;
  path = λ ok passes alike. path_exact first at start behind tos ok passes m alike;
}
