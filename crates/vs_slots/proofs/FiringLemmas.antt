-- When event terms can fire, of points and of places.
use Rattle.std.proofs.Common.{◌≡◌, ℕ, ◌↔◌, inl, inr, true, Option, Some, List, [], ◌∷◌, slice_get, refl, sym, ◌∙◌, ap, subst, arith}
use Rattle.std.specs.List.{Contains}
use Rattle.std.specs.declared.vec.Vec.{Vec}
use Rattle.std.specs.declared.alloc.Global.{Global}
use Rattle.vs_design.specs.vs_logic4.specs.declared.digit.Digit.{Digit}
use Rattle.vs_design.specs.vs_logic4.specs.declared.edge.Edge.{Edge}
use Rattle.vs_design.specs.declared.design.Process.{Process}
use Rattle.vs_design.specs.declared.range.BitRange.{BitRange}
use Rattle.vs_design.specs.declared.statement.EventTerm.{EventTerm}
use Rattle.vs_design.specs.declared.statement.Statement.{Statement}
use Rattle.vs_design.specs.declared.statement.Statement.TheOpen.{Statement-F}
use Rattle.vs_design.specs.declared.statement.Statement.TheViews.{out-Statement}
use Rattle.vs_design.specs.Parts.{Parts}
use Rattle.vs_process.specs.Places.{perform, turns, Todo}
use Rattle.vs_process.specs.Numbers.{number_next, number_of}
use Rattle.vs_process.specs.Stops.{Stop, next_statement, IsText}
use Rattle.vs_maps.specs.vs_rules.specs.Claims.{Claims, Kind, is_wide, HasLists, IsDelay, IsWriter}
use Rattle.vs_maps.specs.vs_rules.specs.Constants.{bit_of, given_by, todo_assigns, Gives}
use Rattle.vs_maps.specs.vs_rules.specs.Paths.{ListsSignal, RunsFrom, WritesNow, WritesAny, todo_now, todo_later, statement_now, statement_later}
use Rattle.vs_maps.specs.vs_rules.specs.Slots.{counts, Ends, Fires, HasSlot, RunsByDelays}
use Rattle.vs_claims.specs.vs_maps.proofs.EachPoint.{now_here, later_here}
use Rattle.vs_claims.specs.vs_maps.proofs.Texts.{place_of, place_back}
use Rattle.vs_slots_constants.specs.Givings.{given_here}
use Rattle.vs_claims.specs.vs_maps.specs.Ranges.{HasSignal, now_at, later_at, statement_at}
use Rattle.vs_slots.specs.Firing.{RootFiresBy, TermFires, WritesAt, CountsAt, FiresAt, FiringIsExact}
use Rattle.vs_slots.proofs.RunLemmas.{runs_are_exact}

-- run slots of a process of kind delay
pub by_lists : (d : Parts) (c : Claims) (i : ℕ) (lists : List (List ℕ)) (k : Todo) (r : ℕ) → HasLists d c i lists → (HasSlot d c i k r ↔ RunsByDelays d (is_wide c) i lists k r)
by_lists d c i lists k r has = subst (λ (x : Option Kind). (RunsFrom d (is_wide c) i (Ends d c i x) k r ↔ RunsByDelays d (is_wide c) i lists k r)) (sym has) (λ h. h, λ h. h)

terms_are : (d : Parts) (c : Claims) (t : EventTerm) (r : ℕ) → (TermFires d c t r ↔ Fires d c t r)
terms_are d c t r = (
  λ y. let s = y.2 in let f = s.2.1 in record {
    root = y.0;
    writer = s.2.0;
    lists = f.kind.0;
    at = f.at;
    is_root = y.1;
    is_writer = f.is_writer;
    kind = f.kind.1;
    point = f.point;
    writes = f.writes;
    runs = (by_lists d c s.2.0 f.kind.0 f.at r f.kind.1).0 f.runs;
    edge = s.0;
    seen = s.1;
    counted = f.counted;
    in_phase = f.in_phase;
  },
  λ f. (
    f.root,
    f.is_root,
    (
      f.edge,
      f.seen,
      (
        f.writer,
        record {
          at = f.at;
          is_writer = f.is_writer;
          kind = (f.lists, f.kind);
          point = f.point;
          writes = f.writes;
          runs = (by_lists d c f.writer f.lists f.at r f.kind).1 f.runs;
          counted = f.counted;
          in_phase = f.in_phase;
        },
      ),
    ),
  ),
)

-- ---- places

-- what a statement but a block does has a number
pub numbered_layer : (layer : Statement-F Statement → List BitRange) → ((all : Vec Statement Global) → layer (Statement-F.Block all) ≡ []) → (f : Statement-F Statement) (r : BitRange) → Contains (layer f) r →
    (n : ℕ) × (number_of f ≡ Some n)
numbered_layer layer blocks (Statement-F.Null n) r h = (n, refl)
numbered_layer layer blocks (Statement-F.Assign n t e) r h = (n, refl)
numbered_layer layer blocks (Statement-F.Later n ticks t e) r h = (n, refl)
numbered_layer layer blocks (Statement-F.Call n c) r h = (n, refl)
numbered_layer layer blocks (Statement-F.Finish n) r h = (n, refl)
numbered_layer layer blocks (Statement-F.Block all) r h = let e = subst (λ (l : List BitRange). Contains l r) (blocks all) h in absurd (omega (arith, e.1))
numbered_layer layer blocks (Statement-F.Delay n ticks body) r h = (n, refl)
numbered_layer layer blocks (Statement-F.Event n terms body) r h = (n, refl)
numbered_layer layer blocks (Statement-F.If n e a b) r h = (n, refl)
numbered_layer layer blocks (Statement-F.Case n kind e items) r h = (n, refl)
numbered_layer layer blocks (Statement-F.While n e body) r h = (n, refl)
numbered_layer layer blocks (Statement-F.Repeat n signed e body) r h = (n, refl)
numbered_layer layer blocks (Statement-F.Forever n body) r h = (n, refl)

pub now_numbered : (k : Todo) (r : BitRange) → Contains (todo_now k) r → (n : ℕ) × (number_next k ≡ Some n)
now_numbered [] r h = absurd (omega (arith, h.1))
now_numbered (perform s ∷ rest) r h = numbered_layer statement_now (λ all. refl) (out-Statement s) r h
now_numbered (turns n s ∷ rest) r h = absurd (omega (arith, h.1))

pub later_numbered : (k : Todo) (r : BitRange) → Contains (todo_later k) r → (n : ℕ) × (number_next k ≡ Some n)
later_numbered [] r h = absurd (omega (arith, h.1))
later_numbered (perform s ∷ rest) r h = numbered_layer statement_later (λ all. refl) (out-Statement s) r h
later_numbered (turns n s ∷ rest) r h = absurd (omega (arith, h.1))

writes_numbered : (d : Parts) (k : Todo) (v : ℕ) → WritesAny d k v → (n : ℕ) × (number_next k ≡ Some n)
writes_numbered d k v (inl h) = now_numbered k h.range h.listed.0
writes_numbered d k v (inr h) = later_numbered k h.range h.listed.0

pub lists_signal : (d : Parts) (rs qs : List BitRange) (v : ℕ) → rs ≡ qs → (HasSignal qs v ↔ ListsSignal d rs v)
lists_signal d rs qs v e = (
  λ y. record { range = y.0; listed = (subst (λ (l : List BitRange). Contains l y.0) (sym e) y.1, tt); of = y.2 },
  λ h. (h.range, subst (λ (l : List BitRange). Contains l h.range) e h.listed.0, h.of),
)

-- a place writes `=` what its point does
pub now_exact : (d : Parts) (body : Statement) (stops : List Stop) (start : ℕ) (t : IsText body stops start) (p v : ℕ) →
    (HasSignal (now_at (record { stops = stops; start = start }) p) v ↔ WritesNow d (t.at p) v)
now_exact d body stops start t p v = lists_signal d (todo_now (t.at p)) (now_at (record { stops = stops; start = start }) p) v (now_here body stops start t p)

writes_exact : (d : Parts) (body : Statement) (stops : List Stop) (start : ℕ) (t : IsText body stops start) (p v : ℕ) →
    (WritesAt (record { stops = stops; start = start }) p v ↔ WritesAny d (t.at p) v)
writes_exact d body stops start t p v = (
  λ w. elim w [ inl h ↦ inl (now.0 h) | inr h ↦ inr (later.0 h) ],
  λ w. elim w [ inl h ↦ inl (now.1 h) | inr h ↦ inr (later.1 h) ],
) where
  now : HasSignal (now_at (record { stops = stops; start = start }) p) v ↔ WritesNow d (t.at p) v
  now = now_exact d body stops start t p v

  later : HasSignal (later_at (record { stops = stops; start = start }) p) v ↔ ListsSignal d (todo_later (t.at p)) v
  later = lists_signal d (todo_later (t.at p)) (later_at (record { stops = stops; start = start }) p) v (later_here body stops start t p)

given_told : (k : Todo) (v : ℕ) → given_by (todo_assigns k) (bit_of v) ≡ given_here (next_statement k) (bit_of v)
given_told [] v = refl
given_told (perform s ∷ rest) v = refl
given_told (turns n s ∷ rest) v = refl

counts_exact : (body : Statement) (stops : List Stop) (start : ℕ) (t : IsText body stops start) (p v : ℕ) (edge : Edge) →
    (CountsAt (record { stops = stops; start = start }) p v edge ↔ ((digit : Digit) → Gives (t.at p) (bit_of v) digit → counts edge digit ≡ true))
counts_exact body stops start t p v edge = (λ h digit g. h digit (sym given ∙ g), λ h digit g. h digit (given ∙ g)) where
  given : given_by (todo_assigns (t.at p)) (bit_of v) ≡ given_here (statement_at (record { stops = stops; start = start }) p) (bit_of v)
  given = given_told (t.at p) v ∙ ap (λ (s : Option Statement). given_here s (bit_of v)) (t.says p)

roots_are : (d : Parts) (c : Claims) (root : ℕ) (edge : Edge) (i : ℕ) (q : Process) (stops : List Stop) (start r : ℕ) → slice_get d.processes i ≡ Some q → IsText q.body stops start →
    IsWriter d c root i → IsDelay d c i → (((p : ℕ) × FiresAt d c root edge i (record { stops = stops; start = start }) p r) ↔ RootFiresBy d c root edge i r)
roots_are d c root edge i q stops start r is t writer kind = (there, back) where
  there : ((p : ℕ) × FiresAt d c root edge i (record { stops = stops; start = start }) p r) → RootFiresBy d c root edge i r
  there y =
      let p = y.0 in
      let f = y.1 in
      let w = (writes_exact d q.body stops start t p root).0 f.writes in
      let n = writes_numbered d (t.at p) root w in record {
        at = t.at p;
        is_writer = writer;
        kind = kind;
        point = place_back d i q stops start t is p f.is_place;
        writes = w;
        runs = (runs_are_exact d c i q stops start is t p n.0 r n.1).0 f.runs;
        counted = (counts_exact q.body stops start t p root edge).0 f.counted;
        in_phase = f.in_phase;
      }

  back : RootFiresBy d c root edge i r → (p : ℕ) × FiresAt d c root edge i (record { stops = stops; start = start }) p r
  back f =
      let y = place_of d i q stops start t is f.at f.point in
      let p = y.0 in
      let w : WritesAny d (t.at p) root = subst (λ (k : Todo). WritesAny d k root) (sym y.2) f.writes in
      let n = writes_numbered d (t.at p) root w in
      let run : HasSlot d c i (t.at p) r = subst (λ (k : Todo). HasSlot d c i k r) (sym y.2) f.runs in (
        p,
        record {
          is_place = y.1;
          writes = (writes_exact d q.body stops start t p root).1 w;
          counted = (counts_exact q.body stops start t p root edge).1
              (subst (λ (k : Todo). (digit : Digit) → Gives k (bit_of root) digit → counts edge digit ≡ true) (sym y.2) f.counted);
          runs = (runs_are_exact d c i q stops start is t p n.0 r n.1).1 run;
          in_phase = f.in_phase;
        },
      )

pub firing_is_exact : FiringIsExact
firing_is_exact = record { terms = terms_are; roots = roots_are }
