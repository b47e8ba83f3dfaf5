-- What ranks of places tell.
use Rattle.std.proofs.Common.{◌≡◌, ℕ, zero, suc, ◌+◌, ◌<◌, ◌≤◌, ◌⊎◌, inl, inr, ◌&&◌, Bool, true, false, List, [], ◌∷◌, length, get_or, set, refl, sym, ◌∙◌, ap, subst, arith, if◌then◌else◌}
use Rattle.std.specs.List.{Contains}
use Rattle.vs_process.specs.Stops.{LeadsIn, stop_at, stop_statement, stops_tos}
use Rattle.vs_process.specs.Ways.{Pause, none, delay, event}
use Rattle.vs_graph.specs.Owed.{owed}
use Rattle.vs_graph.specs.Reached.{Reached, begins, goes_on}
use Rattle.vs_graph.proofs.Sweep.{owed_set}
use Rattle.vs_graph.proofs.Sets.{same_read}
use Rattle.vs_claims.specs.vs_maps.specs.declared.along.Along.TheVariants.{ZeroTime}
use Rattle.vs_claims.specs.vs_maps.specs.Inside.{along_in}
use Rattle.vs_claims.specs.vs_maps.specs.Reaches.{Chart, IsPlace, passes, pause_at, places, statement_turns, stops_along, tos_by_turn}
use Rattle.vs_claims.specs.vs_maps.proofs.Join.{by_turn_in, only}
use Rattle.vs_design.specs.vs_logic4.proofs.Basics.{below_or}
use Rattle.vs_rules_of_signals.specs.declared.ranks.Ranks.{Ranks}
use Rattle.vs_rules_of_signals.specs.Ranks.{AreRanks, ApartAt, GoesUp, IsApart, Rises, rank_of}
use Rattle.vs_rules_of_signals.specs.Places.{NeverHotIn, WritesAt}

either_way : (i j : ℕ) → (i < j) ⊎ ((j < i) ⊎ (i ≡ j))
either_way i j = grind arith

-- where no place has a rank, none goes down
pub none_rises : (t : Chart) → Rises t []
none_rises t a h b leads = omega arith

-- the ways that take no time are the same by the rules of any version, but past a turn that is sure
same_pass : (wide : Bool) (pause : Pause) → passes (ZeroTime wide) pause ≡ passes (ZeroTime false) pause
same_pass wide none = refl
same_pass wide (delay number ticks) = refl
same_pass wide (event number terms) = refl

any_turn : (passing first : Bool) (tos : List ℕ) (b : ℕ) → Contains (if passing then tos_by_turn first tos else []) b → Contains (if passing then tos else []) b
any_turn true first tos b c = by_turn_in first tos b c
any_turn false first tos b c = c

-- where a walk by wide rules leads, one by all ways does too
walk_by_all : (wide : Bool) (t : Chart) (seeds : List ℕ) (p : ℕ) → Reached (stops_along (ZeroTime wide) t.stops) seeds p → Reached (stops_along (ZeroTime false) t.stops) seeds p
walk_by_all wide t seeds _ (begins a c) = begins a c
walk_by_all wide t seeds _ (goes_on a b r c) =
    let first = wide && statement_turns (stop_statement (stop_at t.stops a)) in
    goes_on a b (walk_by_all wide t seeds a r) (any_turn (passes (ZeroTime false) (pause_at t a)) first (stops_tos t.stops a) b
    (subst (λ (x : Bool). Contains (if x then tos_by_turn first (stops_tos t.stops a) else []) b) (same_pass wide (pause_at t a)) c))

-- a walk that takes no time doesn't go down
pub walk_rises : (t : Chart) (ranks : List ℕ) → LeadsIn (places t) t.stops → Rises t ranks → (to : ℕ) → to < places t → (p : ℕ) →
    Reached (stops_along (ZeroTime false) t.stops) (to ∷ []) p → (p < places t) × (rank_of ranks to ≤ rank_of ranks p)
walk_rises t ranks leads rises to inside _ (begins a c) = subst (λ (x : ℕ). (x < places t) × (rank_of ranks to ≤ rank_of ranks x)) (only to a c) (inside, omega arith)
walk_rises t ranks leads rises to inside _ (goes_on a b r c) =
    let y = walk_rises t ranks leads rises to inside a r in
    (along_in (ZeroTime false) (places t) t.stops leads a b c, omega (arith, y.1, rises a y.0 b c))

-- of places in a row each is apart from all that come later
pub all_apart : (t : Chart) (x : Ranks) (row : List ℕ) → ((k : ℕ) → k < length row → ApartAt t x row k) → (i j : ℕ) → i < j → j < length row →
    IsApart x (get_or row i 0) (get_or row j 0)
all_apart t x row all i zero less inside = absurd (omega (arith, less))
all_apart t x row all i (suc j) less inside = elim (below_or i j (omega (arith, less))) [
  | inl l ↦ let a = all_apart t x row all i j l (omega (arith, inside)) in (omega (arith, a.0, next.0), omega (arith, a.1, next.1))
  | inr e ↦ subst (λ (n : ℕ). IsApart x (get_or row n 0) (get_or row (suc j) 0)) (sym e) next
] where
  next : IsApart x (get_or row j 0) (get_or row (suc j) 0)
  next = subst (λ (n : ℕ). IsApart x (get_or row j 0) (get_or row n 0)) (omega arith) ((all j (omega (arith, inside))).1 (omega (arith, inside)))

-- what all has so far, in a row
apart_from : (x : Ranks) (t : Chart) (row : List ℕ) (i j from to p : ℕ) → ((k : ℕ) → k < length row → ApartAt t x row k) → i < length row → j < length row →
    get_or row i 0 ≡ from → get_or row j 0 ≡ p → rank_of x.by_text.items from < rank_of x.by_text.items to → rank_of x.against_text.items from ≤ rank_of x.against_text.items to →
    rank_of x.by_text.items to ≤ rank_of x.by_text.items p → rank_of x.against_text.items to ≤ rank_of x.against_text.items p → ⊥
apart_from x t row i j from to p all inside inside' is is' a b c d = elim (either_way i j) [
  | inl less ↦ let h = all_apart t x row all i j less inside' in omega (arith, h.0, ap (rank_of x.by_text.items) is, ap (rank_of x.by_text.items) is', a, c)
  | inr other ↦ elim other [
    | inl less ↦ let h = all_apart t x row all j i less inside in omega (arith, h.1, ap (rank_of x.against_text.items) is, ap (rank_of x.against_text.items) is', b, d)
    | inr e ↦ let same : from ≡ p = sym is ∙ ap (λ (n : ℕ). get_or row n 0) e ∙ is' in omega (arith, ap (rank_of x.by_text.items) same, a, c)
  ]
]

-- a signal is hot at none of the places that write it, where these are apart
pub apart_never_hot : (wide : Bool) (t : Chart) (x : Ranks) (v : ℕ) (row : List ℕ) → LeadsIn (places t) t.stops → AreRanks t x →
    ((p : ℕ) → IsPlace t p → WritesAt t p v → Contains row p) → ((k : ℕ) → k < length row → ApartAt t x row k) → NeverHotIn wide t v
apart_never_hot wide t x v row leads ranks those all p place writes heat =
    let a = those heat.from heat.is_place (inl heat.starts) in
    let b = those p place writes in
    let is : get_or row a.0 0 ≡ heat.from = same_read row a.0 0 heat.from a.1 ∙ a.2 in
    let is' : get_or row b.0 0 ≡ p = same_read row b.0 0 p b.1 ∙ b.2 in
    let inside = leads.ways heat.from heat.to heat.leads in
    let walk = walk_by_all wide t (heat.to ∷ []) p heat.reached in
    let up = subst (λ (n : ℕ). GoesUp t x n) is (all a.0 a.1).0 heat.to heat.leads in
    apart_from x t row a.0 b.0 heat.from heat.to p all a.1 b.1 is is' up.0 up.1
    (walk_rises t x.by_text.items leads ranks.0 heat.to inside p walk).1 (walk_rises t x.against_text.items leads ranks.1 heat.to inside p walk).1

-- ---- a search

-- a place that is entered for the first time leaves less to do
pub entered_less : (nexts : ℕ → List ℕ) (marks marks' : List Bool) (k before rest after : ℕ) → k < length marks → get_or marks k true ≡ false → marks' ≡ set marks k true →
    before ≡ rest + 1 → after ≡ rest + 1 + length (nexts k) → after + owed nexts 0 marks' < before + owed nexts 0 marks
entered_less nexts marks marks' k before rest after within fresh same is is' =
    let c : owed nexts 0 marks' ≡ owed nexts 0 (set marks k true) = ap (owed nexts 0) same in
    let d : owed nexts 0 (set marks k true) + (1 + length (nexts k)) ≡ owed nexts 0 marks =
    subst (λ (n : ℕ). owed nexts 0 (set marks k true) + (1 + length (nexts n)) ≡ owed nexts 0 marks) (omega arith) (owed_set nexts 0 marks k within fresh) in
    omega (arith, c, d, is, is')
