-- Paths of a text are ways of its flat code.
use Rattle.std.proofs.Common.{true, ◌≡◌, ℕ, zero, suc, Bool, Option, Some, None, List, [], ◌∷◌, map, slice_get, refl, sym, ◌∙◌, ap, subst}
use Rattle.vs_design.specs.declared.statement.Statement.{Statement}
use Rattle.vs_process.specs.declared.draft.Op.{Op}
use Rattle.vs_process.specs.Codes.{links_of}
use Rattle.vs_process.specs.Landings.{todo_after}
use Rattle.vs_process.specs.Links.{todo_from, todo_within, Link, item_of, AreLinked}
use Rattle.vs_process.specs.Places.{Todo, Item, flat}
use Rattle.vs_process.specs.Steps.{Next, on, after, wait}
use Rattle.vs_process.specs.Ways.{Pause, none, delay, event, Way, ways, next_by, next_at, point_at, HasWays}
use Rattle.vs_process.proofs.Links.{todo_here}
use Rattle.vs_process.proofs.Ways.{has_ways}
use Rattle.vs_rules.specs.Points.{Among, Goes, Point}
use Rattle.vs_rules.specs.Points as r
use Rattle.vs_rules.specs.Paths.{Path}
use Rattle.vs_rules.specs.Paths as t
use Rattle.vs_rules.specs.Places.{Reach, PlaceOf, ArePaths, PathsAre, PointsAre}
use Rattle.vs_rules.specs.Places as c

-- ---- members of a list

among_map : {A B : Type 0} (f : A → B) (x : A) (xs : List A) → Among x xs → Among (f x) (map f xs)
among_map f x _ (r.first xs) = r.first (map f xs)
among_map f x _ (r.further y xs h) = r.further (f y) (map f xs) (among_map f x xs h)

among_of : {A B : Type 0} (f : A → B) (y : B) (xs : List A) → Among y (map f xs) → (x : A) × Among x xs × (f x ≡ y)
among_of f y [] h = elim h [ ]
among_of f y (x ∷ xs) (r.first _) = (x, r.first xs, refl)
among_of f y (x ∷ xs) (r.further _ _ h) = let there = among_of f y xs h in (there.0, r.further x xs there.1, there.2)

-- ---- ways

-- where a way leads
behind_way : (pause : Pause) (k : Todo) → todo_after (next_by pause k) ≡ k
behind_way none k = refl
behind_way (delay number ticks) k = refl
behind_way (event number terms) k = refl

way_of : (s : Statement) (ops : List Op) (start : ℕ) → HasWays s ops start → (p : ℕ) (next : Next) → Goes (point_at (links_of ops) p) next → (w : Way) × Among w (ways ops p) × (next_at (links_of ops) w ≡ next)
way_of s ops start h p next g = among_of (next_at (links_of ops)) next (ways ops p) (subst (Among next) (h.ways p) g)

to_code : (s : Statement) (ops : List Op) (start : ℕ) → HasWays s ops start → (ok : Next → Bool) (from : ℕ) (k : Todo) → Path ok (point_at (links_of ops) from) k →
    (p : ℕ) × Reach ok ops from p × (point_at (links_of ops) p ≡ k)
to_code s ops start h ok from _ t.begins = (from, c.Reach.begins, refl)
to_code s ops start h ok from _ (t.goes k l next path g may is) =
    let there = to_code s ops start h ok from k path in
    let way = way_of s ops start h there.0 next (subst (λ (k : Todo). Goes k next) (sym there.2) g) in
    (way.0.to, c.Reach.goes there.0 way.0 there.1 way.1 (ap ok way.2 ∙ may), sym (behind_way way.0.pause (point_at (links_of ops) way.0.to)) ∙ ap todo_after way.2 ∙ is)

to_text : (s : Statement) (ops : List Op) (start : ℕ) → HasWays s ops start → (ok : Next → Bool) (from p : ℕ) → Reach ok ops from p → Path ok (point_at (links_of ops) from) (point_at (links_of ops) p)
to_text s ops start h ok from _ c.Reach.begins = t.begins
to_text s ops start h ok from _ (c.Reach.goes p w before among may) =
    t.goes (point_at (links_of ops) p) (point_at (links_of ops) w.to) (next_at (links_of ops) w) (to_text s ops start h ok from p before)
    (subst (Among (next_at (links_of ops) w)) (sym (h.ways p)) (among_map (next_at (links_of ops)) w (ways ops p) among)) may (behind_way w.pause (point_at (links_of ops) w.to))

pub paths_are : PathsAre
paths_are s ops counters start code ok from = record {
  to_code = to_code s ops start (has_ways s ops counters start code) ok from;
  to_text = to_text s ops start (has_ways s ops counters start code) ok from;
}

-- ---- points

-- behind the thing that is done at a place stands another place
behind_place : (ops : List Op) (start : ℕ) → AreLinked (links_of ops) → (p : ℕ) (i : Item) (rest : Todo) → PlaceOf ops start p → point_at (links_of ops) p ≡ i ∷ rest →
    (q : ℕ) × PlaceOf ops start q × (point_at (links_of ops) q ≡ rest)
behind_place ops start linked zero i rest of e = cc
behind_place ops start linked (suc p) i rest of e = by_link (slice_get (links_of ops) p) refl
  where
    by_link : (o : Option Link) → slice_get (links_of ops) p ≡ o → (q : ℕ) × PlaceOf ops start q × (point_at (links_of ops) q ≡ rest)
    by_link None is =
        let none_here : [] ≡ i ∷ rest = sym (ap (todo_from [] (λ q. todo_within p (links_of ops) [] q)) is) ∙ e in
        cc
    by_link (Some l) is =
        let both : item_of [] l.job ∷ point_at (links_of ops) l.behind ≡ i ∷ rest = sym (todo_here (links_of ops) [] p l linked is) ∙ e in
        let same : point_at (links_of ops) l.behind ≡ rest = cc in
        (l.behind, c.PlaceOf.skips p l of is, same)

abbrev Found : List Op → ℕ → Todo → Type 0
Found ops start k = (p : ℕ) × PlaceOf ops start p × (point_at (links_of ops) p ≡ k)

at_way : (s : Statement) (ops : List Op) (start : ℕ) → HasWays s ops start → (k l : Todo) (next : Next) → Goes k next → todo_after next ≡ l → Found ops start k → Found ops start l
at_way s ops start h k l next g is there =
    let way = way_of s ops start h there.0 next (subst (λ (k : Todo). Goes k next) (sym there.2) g) in
    (way.0.to, c.PlaceOf.goes there.0 way.0 there.1 way.1, sym (behind_way way.0.pause (point_at (links_of ops) way.0.to)) ∙ ap todo_after way.2 ∙ is)

at_point : (s : Statement) (ops : List Op) (start : ℕ) → HasWays s ops start → AreLinked (links_of ops) → (k : Todo) → Point (flat s) k → Found ops start k
at_point s ops start h linked _ r.begins = (start, c.PlaceOf.begins, h.starts)
at_point s ops start h linked _ (r.goes_on k l point g) = at_way s ops start h k l (on l) g refl (at_point s ops start h linked k point)
at_point s ops start h linked _ (r.waits k l number ticks point g) = at_way s ops start h k l (after number ticks l) g refl (at_point s ops start h linked k point)
at_point s ops start h linked _ (r.listens k l number terms point g) = at_way s ops start h k l (wait number terms l) g refl (at_point s ops start h linked k point)
at_point s ops start h linked _ (r.skips i rest point) =
    let there = at_point s ops start h linked (i ∷ rest) point in
    behind_place ops start linked there.0 i rest there.1 there.2

-- a way leads from a point to a point
point_way : (first k l : Todo) (pause : Pause) → Point first k → Goes k (next_by pause l) → Point first l
point_way first k l none point g = r.goes_on k l point g
point_way first k l (delay number ticks) point g = r.waits k l number ticks point g
point_way first k l (event number terms) point g = r.listens k l number terms point g

place_point : (s : Statement) (ops : List Op) (start : ℕ) → HasWays s ops start → AreLinked (links_of ops) → (p : ℕ) → PlaceOf ops start p → Point (flat s) (point_at (links_of ops) p)
place_point s ops start h linked _ c.PlaceOf.begins = subst (Point (flat s)) (sym h.starts) r.begins
place_point s ops start h linked _ (c.PlaceOf.goes p w of among) =
    point_way (flat s) (point_at (links_of ops) p) (point_at (links_of ops) w.to) w.pause (place_point s ops start h linked p of)
    (subst (Among (next_at (links_of ops) w)) (sym (h.ways p)) (among_map (next_at (links_of ops)) w (ways ops p) among))
place_point s ops start h linked _ (c.PlaceOf.skips i l of is) =
    r.skips (item_of [] l.job) (point_at (links_of ops) l.behind) (subst (Point (flat s)) (todo_here (links_of ops) [] i l linked is) (place_point s ops start h linked (suc i) of))

pub points_are : PointsAre
points_are s ops counters start code = record {
  to_code = at_point s ops start (has_ways s ops counters start code) code.code.linked;
  to_text = place_point s ops start (has_ways s ops counters start code) code.code.linked;
}

-- ---- closed sets

-- what holds at the first point, behind each way and of each tail, holds at all points: of a design that is given, by a list of todos
pub closed_points : (P : Todo → Type 0) (first : Todo) → P first → ((k : Todo) (next : Next) → P k → Goes k next → P (todo_after next)) →
    ((i : Item) (rest : Todo) → P (i ∷ rest) → P rest) → (k : Todo) → Point first k → P k
closed_points P first h ways tails _ r.begins = h
closed_points P first h ways tails _ (r.goes_on k l point g) = ways k (on l) (closed_points P first h ways tails k point) g
closed_points P first h ways tails _ (r.waits k l number ticks point g) = ways k (after number ticks l) (closed_points P first h ways tails k point) g
closed_points P first h ways tails _ (r.listens k l number terms point g) = ways k (wait number terms l) (closed_points P first h ways tails k point) g
closed_points P first h ways tails _ (r.skips i rest point) = tails i rest (closed_points P first h ways tails (i ∷ rest) point)

-- alike of the ways that a test passes
pub closed_paths : (P : Todo → Type 0) (ok : Next → Bool) (from : Todo) → P from → ((k : Todo) (next : Next) → P k → Goes k next → ok next ≡ true → P (todo_after next)) →
    (k : Todo) → Path ok from k → P k
closed_paths P ok from h ways _ t.begins = h
closed_paths P ok from h ways _ (t.goes k l next path g may is) = subst P is (ways k next (closed_paths P ok from h ways k path) g may)

-- marks of places that have the first one and go on along each way that passes are on all that it leads to
pub closed_reach : (P : ℕ → Type 0) (ok : Next → Bool) (ops : List Op) (from : ℕ) → P from → ((p : ℕ) (w : Way) → P p → Among w (ways ops p) → ok (next_at (links_of ops) w) ≡ true → P w.to) →
    (p : ℕ) → Reach ok ops from p → P p
closed_reach P ok ops from h on_way _ c.Reach.begins = h
closed_reach P ok ops from h on_way _ (c.Reach.goes p w before among may) = on_way p w (closed_reach P ok ops from h on_way p before) among may
