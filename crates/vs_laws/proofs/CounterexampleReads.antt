-- Reads and first values in which the order of steps tells break a rule of version 3.
use Rattle.std.proofs.Common.{◌≡◌, ◌==◌, ℕ, zero, suc, ◌⊎◌, true, false, List, [], ◌∷◌, ◌++◌, refl, sym, ◌∙◌, ap, subst, inl, inr, lit<}
use Rattle.std.proofs.lemmas.Bool.{false≢true, true≢false}
use Rattle.std.proofs.lemmas.Option.{same_Some}
use Rattle.std.specs.declared.alloc.Global.{Global}
use Rattle.std.specs.List.{Contains}
use Rattle.vs_design.specs.vs_logic4.specs.declared.digit.Digit.TheVariants.{Zero, One, X}
use Rattle.vs_design.specs.vs_logic4.specs.declared.edge.Edge.TheVariants.{Posedge}
use Rattle.vs_design.specs.vs_logic4.specs.Edges.{is_edge}
use Rattle.vs_design.specs.vs_logic4.proofs.Basics.{none_in}
use Rattle.vs_design.specs.declared.signal.SignalKind.TheVariants.{Reg}
use Rattle.vs_design.specs.declared.statement.EventTerm.{EventTerm}
use Rattle.vs_design.specs.declared.statement.Statement.{out-Statement}
use Rattle.vs_design.specs.declared.statement.Statement.TheVariants as y
use Rattle.vs_design.specs.Parts.{Parts}
use Rattle.vs_design.specs.Uses.{whole}
use Rattle.vs_independence.specs.vs_process.specs.declared.moves.Grain.{Grain}
use Rattle.vs_process.specs.Executions.{is_level}
use Rattle.vs_process.specs.Places.{perform, Todo}
use Rattle.vs_process.specs.Steps.{after, wait}
use Rattle.vs_rules.specs.Claims.{Claims, EdgeClaim, delays, mixed, IsBlock, IsRootOf, IsSequential, is_block_kind}
use Rattle.vs_rules.specs.Controls.{controls_of, list_of}
use Rattle.vs_rules.specs.Copies.{SeenAs}
use Rattle.vs_rules.specs.Drivers.{InCone, IsBlocking, IsSource}
use Rattle.vs_rules.specs.Paths.{HasTerm, IsHeardAtStart, IsPoint, IsSlot0, PathBy, ReadsNow, WritesNow}
use Rattle.vs_rules.specs.Points.{Among, Goes, Point}
use Rattle.vs_rules.specs.Rules.{AreApart, IsOwnEdge, IsOwnRead, K10_Signal}
use Rattle.vs_rules.specs.Slots.{HasSlot, HasWriteSlot, RunsByDelays, RunsByEdges}
use Rattle.vs_laws.specs.Counterexamples.{ADelayAfterAnEdgeBreaksTheRules, AFirstEdgeBreaksTheRules, AFirstInverseEdgeBreaksTheRules, AFirstReadBreaksTheRules, ALateReadOfAnEdgeBreaksTheRules, at_edge, claims, edge_of_n, fall_of_n, one_later, own_edge, pulse, pulsed, pulsed_claims, reads_first, reads_late, starting, starting_claims, waiting}
use Rattle.vs_laws.specs.Race.{bit, operand, target}
use Rattle.vs_laws.specs.Resets.{gives}
use Rattle.vs_laws.specs.Rise.{rise}
use Rattle.vs_laws.specs.Swap.{copies_now}
use Rattle.vs_laws.proofs.Race.{reads_operand}
use Rattle.vs_laws.proofs.Texts.{controls_assign, controls_delay, controls_event}
use Rattle.vs_laws.proofs.CounterexampleEdges.{fires_rise, gives_a, lists_a, point_a, rising_a, root_a, runs_a, seen_inverse, seen_plain, writes_it}

-- ---- K8 and K9

-- from `#1 b = a` on, from `b = a` on
abbrev delaying : Global → Todo
delaying g = perform (one_later g 1 (copies_now g 1 0)) ∷ []

abbrev copying : Global → Todo
copying g = perform (copies_now g 1 0) ∷ []

abbrev late : Global → Parts
late g = pulsed g (reads_late g)

abbrev late_claims : Grain → List ℕ → Claims
late_claims grain list = pulsed_claims grain (own_edge 97 ∷ []) list

controls_late : (g : Global) → controls_of (late g) 2 ≡ 1 ∷ []
controls_late g = simp (controls_event, controls_delay, controls_assign)

point_late : (g : Global) → IsPoint (late g) 2 (delaying g)
unfolding out-Statement denote.Hole.Carrier.out
point_late g = Point.listens (perform (reads_late g) ∷ []) (delaying g) 0 (rise ∷ []) Point.begins (Among.first [])

runs_delaying : (g : Global) (grain : Grain) → RunsByEdges (late g) (late_claims grain []) 2 (delaying g) 0
unfolding out-Statement denote.Hole.Carrier.out
runs_delaying g grain = record {
  at = perform (reads_late g) ∷ [];
  next = wait 0 (rise ∷ []) (delaying g);
  point = Point.begins;
  goes = Among.first [];
  starts = (rise, (0, lit< tt, refl), fires_rise g (reads_late g) grain []);
  path = PathBy.begins;
}

goes_on : (g : Global) → Goes (delaying g) (after 1 1 (copying g))
unfolding out-Statement denote.Hole.Carrier.out
goes_on g = Among.first []

pub delay_behind : ADelayAfterAnEdgeBreaksTheRules
delay_behind g grain h =
    let ends = h.from_edge ([] ∷ []) (delaying g) (copying g) 1 1 0 refl (runs_delaying g grain) (goes_on g) in
    none_in 0 (subst (λ ns. Contains (list_of ns ([] ∷ []) 1) 0) (controls_late g) ends)

abbrev lists_b : List (List ℕ)
lists_b = (0 ∷ []) ∷ []

-- the certificate with this list
abbrev right_claims : Grain → Claims
right_claims grain = late_claims grain (0 ∷ [])

ends_late : (g : Global) → Contains (list_of (controls_of (late g) 2) lists_b 1) 0
ends_late g = subst (λ ns. Contains (list_of ns lists_b 1) 0) (sym (controls_late g)) (0, lit< tt, refl)

runs_copying : (g : Global) → RunsByDelays (late g) true 2 lists_b (copying g) 0
runs_copying g = record {
  at = delaying g;
  next = after 1 1 (copying g);
  point = point_late g;
  goes = goes_on g;
  starts = ends_late g;
  path = PathBy.begins;
}

slot_copying : (g : Global) (grain : Grain) → HasSlot (late g) (right_claims grain) 2 (copying g) 0
slot_copying g grain = record {
  at = delaying g;
  next = after 1 1 (copying g);
  point = point_late g;
  goes = goes_on g;
  starts = inl (ends_late g);
  path = PathBy.begins;
}

point_copying : (g : Global) → IsPoint (late g) 2 (copying g)
point_copying g = Point.waits (delaying g) (copying g) 1 1 (point_late g) (goes_on g)

reads_it : (d : Parts) (g : Global) (number : ℕ) → ReadsNow d (perform (y.Assign number (target g 1) (operand 0)) ∷ []) (whole 0)
unfolding out-Statement denote.Hole.Carrier.out
reads_it d g number = (subst (λ rs. Contains (rs ++ []) (whole 0)) (sym (reads_operand 0)) (0, lit< tt, refl), tt)

writes_a : (g : Global) → WritesNow (late g) (rising_a g) 0
writes_a g = writes_it (late g) g 1 0 (perform (one_later g 2 (gives g 3 0 Zero)) ∷ [])

write_slot : (g : Global) (grain : Grain) → HasWriteSlot (late g) (right_claims grain) 0 0
write_slot g grain = record {
  writer = 0;
  at = rising_a g;
  is = refl;
  point = point_a g (reads_late g);
  writes = writes_a g;
  slot = runs_a g (reads_late g);
}

no_block : (g : Global) (grain : Grain) (i : ℕ) → IsBlock (late g) (right_claims grain) i → ⊥
no_block g grain zero (start, is) = false≢true (ap is_block_kind is)
no_block g grain (suc zero) (start, is) = false≢true (ap is_block_kind is)
no_block g grain (suc (suc zero)) (start, is) = false≢true (ap is_block_kind is)
no_block g grain (suc (suc (suc i))) (start, is) = false≢true (ap is_block_kind is)

source_a : (g : Global) (grain : Grain) → IsSource (late g) (right_claims grain) 0
source_a g grain = record { variable = (bit g 97 Reg, refl, refl); undriven = λ i is w. no_block g grain i is }

blocking_a : (g : Global) (grain : Grain) → IsBlocking (late g) (right_claims grain) 0
blocking_a g grain = record {
  source = source_a g grain;
  process = 0;
  point = rising_a g;
  is = point_a g (reads_late g);
  writes = writes_a g;
}

pub late_read : ALateReadOfAnEdgeBreaksTheRules
late_read g grain h =
    never (h.fixed (copying g) (whole 0) 0 (inr (inr (lists_b, refl))) (point_copying g) (inl (reads_it (late g) g 2)) (blocking_a g grain)
    (InCone.here (whole 0) (source_a g grain) refl tt))
  where
    never :
        IsOwnRead (late g) (right_claims grain) 2 0 0 (copying g)
        ⊎ (IsOwnEdge (late g) (right_claims grain) 2 0 (copying g) ⊎ AreApart (late g) (right_claims grain) 2 0 (copying g)) → ⊥
    never (inl own) = false≢true own.0
    never (inr (inl edge)) =
        let root = root_a g (pulse g) (reads_late g) grain [] lists_a (mixed lists_b) in
        edge.undelayed lists_b 0 0 refl root (write_slot g grain) (runs_copying g)
    never (inr (inr apart)) = apart 0 (write_slot g grain) (slot_copying g grain)

-- ---- K10

abbrev setting : Global → Todo
setting g = perform (gives g 0 0 One) ∷ []

abbrev hearing : Global → EventTerm → Todo
hearing g t = perform (at_edge g 0 t (gives g 1 1 One)) ∷ []

slot_first : (g : Global) (t : EventTerm) → IsSlot0 (starting g t) true 0 (setting g)
unfolding out-Statement denote.Hole.Carrier.out
slot_first g t = PathBy.begins

has_term : (g : Global) (t : EventTerm) → HasTerm (starting g t) 2 t
unfolding out-Statement denote.Hole.Carrier.out
has_term g t = record {
  control = hearing g t;
  number = 0;
  terms = t ∷ [];
  behind = perform (gives g 1 1 One) ∷ [];
  point = Point.begins;
  goes = Among.first [];
  is = (0, lit< tt, refl);
}

heard_term : (g : Global) (t : EventTerm) → IsHeardAtStart (starting g t) 2 t
unfolding out-Statement denote.Hole.Carrier.out
heard_term g t = record {
  control = hearing g t;
  number = 0;
  terms = t ∷ [];
  behind = perform (gives g 1 1 One) ∷ [];
  slot0 = PathBy.begins;
  goes = Among.first [];
  is = (0, lit< tt, refl);
}

-- the term is a rise of `a`, which `a = 1` makes
fires_first : (g : Global) (grain : Grain) (t : EventTerm) (entry : EdgeClaim) →
    IsRootOf (starting g t) (starting_claims grain entry) 0 t.range.signal → is_level t ≡ false →
    SeenAs (starting g t) true t Posedge → K10_Signal (starting g t) (starting_claims grain entry) 0 → ⊥
fires_first g grain t entry root edge seen h =
    let none = h.constant 0 (setting g) (t.range.signal, root) (slot_first g t) (writes_it (starting g t) g 0 0 []) in
    let quiet = none.silent 2 t Posedge (has_term g t) (λ wide. (heard_term g t, λ own. other own.0)) edge root seen in
    let digit = same_Some One none.digit (sym (gives_a g 0 []) ∙ none.gives) in
    true≢false (ap (λ d. is_edge Posedge X d) digit ∙ quiet)
  where
    other : ◌≡◌ {A = ℕ} 2 0 → ⊥
    other e = false≢true (ap (λ (n : ℕ). n == 0) e)

pub first_edge : AFirstEdgeBreaksTheRules
first_edge g grain h =
    fires_first g grain rise (own_edge 97) (record { place = 0; entry = own_edge 97; is = refl; signal = refl; root_is = refl }) refl
    (seen_plain (starting g rise) 0 (bit g 97 Reg, refl, refl)) h

pub first_inverse : AFirstInverseEdgeBreaksTheRules
first_inverse g grain h =
    fires_first g grain fall_of_n edge_of_n (record { place = 0; entry = edge_of_n; is = refl; signal = refl; root_is = refl }) refl
    (seen_inverse g (gives g 0 0 One) (at_edge g 0 fall_of_n (gives g 1 1 One))) h

abbrev reading : Global → Parts
reading g = waiting g (gives g 0 0 One) (reads_first g)

slot_reading : (g : Global) → IsSlot0 (reading g) true 2 (perform (reads_first g) ∷ [])
unfolding out-Statement denote.Hole.Carrier.out
slot_reading g = PathBy.begins

slot_setting : (g : Global) → IsSlot0 (reading g) true 0 (setting g)
unfolding out-Statement denote.Hole.Carrier.out
slot_setting g = PathBy.begins

pub first_read : AFirstReadBreaksTheRules
first_read g grain h =
    let seq : IsSequential (reading g) (claims grain [] [] (delays [])) 2 = inr (inl ([], refl)) in
    false≢true (ap (λ (n : ℕ). n == 2)
    (h.first (perform (reads_first g) ∷ []) (setting g) (whole 0) 0 refl seq (slot_reading g) (inl (reads_it (reading g) g 0)) (slot_setting g) (writes_it (reading g) g 0 0 [])))
