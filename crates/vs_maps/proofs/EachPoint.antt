-- What holds of all points holds of all places, and what a point does is told by its statement.
use Rattle.std.proofs.Common.{◌≡◌, ℕ, ◌↔◌, Some, List, [], ◌∷◌, slice_get, refl, sym, ◌∙◌, ap, subst, arith}
use Rattle.std.specs.List.{Contains}
use Rattle.vs_design.specs.declared.design.Process.{Process}
use Rattle.vs_design.specs.declared.range.BitRange.{BitRange}
use Rattle.vs_design.specs.declared.statement.Statement.{Statement}
use Rattle.vs_design.specs.declared.statement.Statement.TheOpen.{Statement-F}
use Rattle.vs_design.specs.declared.statement.Statement.TheViews.{out-Statement}
use Rattle.vs_design.specs.Parts.{Parts}
use Rattle.vs_process.specs.Places.{perform, turns, Todo}
use Rattle.vs_process.specs.Numbers.{number_next, number_of}
use Rattle.vs_process.specs.Stops.{Stop, stop_at, stop_statement, next_statement, IsText}
use Rattle.vs_rules.specs.vs_process.specs.Threads.{todo_reads, own_reads, own_shows, todo_shows}
use Rattle.vs_rules.specs.Paths.{IsPoint, todo_now, todo_later, statement_now, statement_later}
use Rattle.vs_maps.specs.Ranges.{ranges_of}
use Rattle.vs_maps.specs.Reaches.{IsPlace}
use Rattle.vs_maps.proofs.Texts.{place_of, place_back}

-- a rule of all points is one of all places
pub all_points : (d : Parts) (i : ℕ) (q : Process) (stops : List Stop) (start : ℕ) (t : IsText q.body stops start) → slice_get d.processes i ≡ Some q → (P : Todo → Type 0) →
    (((p : ℕ) → IsPlace (record { stops = stops; start = start }) p → P (t.at p)) ↔ ((k : Todo) → IsPoint d i k → P k))
all_points d i q stops start t is P =
    (λ all k point. let y = place_of d i q stops start t is k point in subst P y.2 (all y.0 y.1), λ all p place. all (t.at p) (place_back d i q stops start t is p place))

-- there is a point where there is a place
pub some_point : (d : Parts) (i : ℕ) (q : Process) (stops : List Stop) (start : ℕ) (t : IsText q.body stops start) → slice_get d.processes i ≡ Some q → (P : Todo → Type 0) →
    (((p : ℕ) × IsPlace (record { stops = stops; start = start }) p × P (t.at p)) ↔ ((k : Todo) × IsPoint d i k × P k))
some_point d i q stops start t is P =
    (λ y. (t.at y.0, place_back d i q stops start t is y.0 y.1, y.2), λ y. let x = place_of d i q stops start t is y.0 y.1 in (x.0, x.1, subst P (sym x.2) y.2))

now_told : (k : Todo) → todo_now k ≡ ranges_of statement_now (next_statement k)
now_told [] = refl
now_told (perform s ∷ rest) = refl
now_told (turns n s ∷ rest) = refl

later_told : (k : Todo) → todo_later k ≡ ranges_of statement_later (next_statement k)
later_told [] = refl
later_told (perform s ∷ rest) = refl
later_told (turns n s ∷ rest) = refl

shows_told : (k : Todo) → todo_shows k ≡ ranges_of own_shows (next_statement k)
shows_told [] = refl
shows_told (perform s ∷ rest) = refl
shows_told (turns n s ∷ rest) = refl

reads_told : (k : Todo) → todo_reads k ≡ ranges_of own_reads (next_statement k)
reads_told [] = refl
reads_told (perform s ∷ rest) = refl
reads_told (turns n s ∷ rest) = refl

-- of a place
pub now_here : (body : Statement) (stops : List Stop) (start : ℕ) (t : IsText body stops start) (p : ℕ) → todo_now (t.at p) ≡ ranges_of statement_now (stop_statement (stop_at stops p))
now_here body stops start t p = now_told (t.at p) ∙ ap (ranges_of statement_now) (t.says p)

pub later_here : (body : Statement) (stops : List Stop) (start : ℕ) (t : IsText body stops start) (p : ℕ) → todo_later (t.at p) ≡ ranges_of statement_later (stop_statement (stop_at stops p))
later_here body stops start t p = later_told (t.at p) ∙ ap (ranges_of statement_later) (t.says p)

pub shows_here : (body : Statement) (stops : List Stop) (start : ℕ) (t : IsText body stops start) (p : ℕ) → todo_shows (t.at p) ≡ ranges_of own_shows (stop_statement (stop_at stops p))
shows_here body stops start t p = shows_told (t.at p) ∙ ap (ranges_of own_shows) (t.says p)

pub reads_here : (body : Statement) (stops : List Stop) (start : ℕ) (t : IsText body stops start) (p : ℕ) → todo_reads (t.at p) ≡ ranges_of own_reads (stop_statement (stop_at stops p))
reads_here body stops start t p = reads_told (t.at p) ∙ ap (ranges_of own_reads) (t.says p)

-- what reads something has a number
statement_numbered : (f : Statement-F Statement) (r : BitRange) → Contains (own_reads f) r → (n : ℕ) × (number_of f ≡ Some n)
statement_numbered (Statement-F.Null n) r h = (n, refl)
statement_numbered (Statement-F.Assign n t e) r h = (n, refl)
statement_numbered (Statement-F.Later n ticks t e) r h = (n, refl)
statement_numbered (Statement-F.Call n c) r h = (n, refl)
statement_numbered (Statement-F.Finish n) r h = (n, refl)
statement_numbered (Statement-F.Block all) r h = absurd (omega (arith, h.1))
statement_numbered (Statement-F.Delay n ticks body) r h = (n, refl)
statement_numbered (Statement-F.Event n terms body) r h = (n, refl)
statement_numbered (Statement-F.If n e a b) r h = (n, refl)
statement_numbered (Statement-F.Case n kind e items) r h = (n, refl)
statement_numbered (Statement-F.While n e body) r h = (n, refl)
statement_numbered (Statement-F.Repeat n signed e body) r h = (n, refl)
statement_numbered (Statement-F.Forever n body) r h = (n, refl)

pub reads_numbered : (k : Todo) (r : BitRange) → Contains (todo_reads k) r → (n : ℕ) × (number_next k ≡ Some n)
reads_numbered [] r h = absurd (omega (arith, h.1))
reads_numbered (perform s ∷ rest) r h = statement_numbered (out-Statement s) r h
reads_numbered (turns n s ∷ rest) r h = absurd (omega (arith, h.1))
