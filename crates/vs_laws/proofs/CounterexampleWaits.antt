-- Processes that wait for edges in a way in which the order of steps tells break a rule of version 3.
use Rattle.std.proofs.Common.{◌≡◌, true, [], ◌∷◌, refl, sym, subst, inr, lit<}
use Rattle.std.specs.declared.alloc.Global.{Global}
use Rattle.std.specs.List.{Contains}
use Rattle.vs_design.specs.vs_logic4.specs.declared.digit.Digit.TheVariants.{One}
use Rattle.vs_design.specs.vs_logic4.specs.declared.edge.Edge.TheVariants.{Posedge}
use Rattle.vs_design.specs.declared.signal.SignalKind.TheVariants.{Reg}
use Rattle.vs_design.specs.declared.statement.EventTerm.{EventTerm}
use Rattle.vs_design.specs.declared.statement.Statement.{out-Statement}
use Rattle.vs_design.specs.Parts.{Parts}
use Rattle.vs_independence.specs.vs_process.specs.declared.moves.Grain.{Grain}
use Rattle.vs_process.specs.Places.{perform, Todo}
use Rattle.vs_process.specs.Steps.{after, wait}
use Rattle.vs_rules.specs.Claims.{Claims, EdgeClaim, mixed, IsRootOf}
use Rattle.vs_rules.specs.Controls.{controls_of, list_of}
use Rattle.vs_rules.specs.Copies.{SeenAs}
use Rattle.vs_rules.specs.Paths.{HasTerm, PathBy}
use Rattle.vs_rules.specs.Points.{Among, Point}
use Rattle.vs_rules.specs.Rules.{Arrives, K7}
use Rattle.vs_rules.specs.Slots.{FiresOf}
use Rattle.vs_laws.specs.Counterexamples.{AnArrivalBreaksTheRules, AnInverseEdgeBreaksTheRules, TwoEdgesAtOnceBreakTheRules, TwoSignalsOfARootBreakTheRules, arrives, at_edge, edge_of_n, fall_of_n, one_later, own_edge, pulse, pulsed, pulsed_claims, waits_twice}
use Rattle.vs_laws.specs.Race.{bit}
use Rattle.vs_laws.specs.Resets.{gives}
use Rattle.vs_laws.specs.Rise.{rise}
use Rattle.vs_laws.specs.Roots.{rise_of}
use Rattle.vs_laws.proofs.Texts.{controls_assign, controls_delay, controls_event, differ}
use Rattle.vs_laws.proofs.CounterexampleEdges.{fires_a, fires_c, fires_rise, lists_a, root_a, seen_inverse, seen_plain}

-- ---- K7

controls_arrives : (g : Global) → controls_of (pulsed g (arrives g)) 2 ≡ 0 ∷ []
controls_arrives g = simp (controls_delay, controls_event, controls_assign)

-- from `@(posedge a) b = 1` on, from `b = 1` on
abbrev listening : Global → Todo
listening g = perform (at_edge g 1 rise (gives g 2 1 One)) ∷ []

abbrev giving : Global → Todo
giving g = perform (gives g 2 1 One) ∷ []

arrives_there : (g : Global) → Arrives (pulsed g (arrives g)) 2 (after 0 1 (listening g)) (wait 1 (rise ∷ []) (giving g))
unfolding out-Statement denote.Hole.Carrier.out
arrives_there g = record {
  from = perform (arrives g) ∷ [];
  number = 0;
  ticks = 1;
  behind = listening g;
  delay_is = refl;
  point = Point.begins;
  goes = Among.first [];
  above = lit< tt;
  to = listening g;
  path = PathBy.begins;
  waits = Among.first [];
}

pub arrival : AnArrivalBreaksTheRules
arrival g grain h =
    h.arrives ((0 ∷ []) ∷ []) (after 0 1 (listening g)) (wait 1 (rise ∷ []) (giving g)) 0 refl (arrives_there g)
    (subst (λ ns. Contains (list_of ns ((0 ∷ []) ∷ []) 0) 0) (sym (controls_arrives g)) (0, lit< tt, refl))
    (rise, (0, lit< tt, refl), fires_rise g (arrives g) grain (0 ∷ []))

-- the terms of a process that waits twice
abbrev waiting_once : Global → EventTerm → Todo
waiting_once g second = perform (at_edge g 1 second (one_later g 2 (gives g 3 1 One))) ∷ []

first_term : (g : Global) (first second : EventTerm) → HasTerm (pulsed g (waits_twice g first second)) 2 first
unfolding out-Statement denote.Hole.Carrier.out
first_term g first second = record {
  control = perform (waits_twice g first second) ∷ [];
  number = 0;
  terms = first ∷ [];
  behind = waiting_once g second;
  point = Point.begins;
  goes = Among.first [];
  is = (0, lit< tt, refl);
}

second_term : (g : Global) (first second : EventTerm) → HasTerm (pulsed g (waits_twice g first second)) 2 second
unfolding out-Statement denote.Hole.Carrier.out
second_term g first second = record {
  control = waiting_once g second;
  number = 1;
  terms = second ∷ [];
  behind = perform (one_later g 2 (gives g 3 1 One)) ∷ [];
  point = Point.listens (perform (waits_twice g first second) ∷ []) (waiting_once g second) 0 (first ∷ []) Point.begins (Among.first []);
  goes = Among.first [];
  is = (0, lit< tt, refl);
}

-- one that waits for a rise of `c` and then for a term that is a rise of `a`
abbrev waits_for : Global → EventTerm → Parts
waits_for g t = pulsed g (waits_twice g (rise_of 2) t)

abbrev both_claims : Grain → EdgeClaim → Claims
both_claims grain entry = pulsed_claims grain (own_edge 99 ∷ entry ∷ []) (0 ∷ [])

two_roots : (g : Global) (grain : Grain) (t : EventTerm) (entry : EdgeClaim) →
    IsRootOf (waits_for g t) (both_claims grain entry) 0 t.range.signal → SeenAs (waits_for g t) true t Posedge →
    K7 (waits_for g t) (both_claims grain entry) 2 → ⊥
two_roots g grain t entry is seen h = differ 2 0 refl (h.apart 2 0 0 (inr ((0 ∷ []) ∷ [], refl)) of_c of_a)
  where
    root_c : IsRootOf (waits_for g t) (both_claims grain entry) 2 2
    root_c = record { place = 0; entry = own_edge 99; is = refl; signal = refl; root_is = refl }

    of_c : FiresOf (waits_for g t) (both_claims grain entry) 2 2 0
    of_c = record {
      term = rise_of 2;
      has = first_term g (rise_of 2) t;
      is_root = root_c;
      fires =
          fires_c g (waits_twice g (rise_of 2) t) grain (own_edge 99 ∷ entry ∷ []) (0 ∷ []) (rise_of 2) root_c
          (seen_plain (waits_for g t) 2 (bit g 99 Reg, refl, refl));
    }

    of_a : FiresOf (waits_for g t) (both_claims grain entry) 2 0 0
    of_a = record {
      term = t;
      has = second_term g (rise_of 2) t;
      is_root = is;
      fires = fires_a g (waits_twice g (rise_of 2) t) grain (own_edge 99 ∷ entry ∷ []) (0 ∷ []) t is seen;
    }

pub two_edges : TwoEdgesAtOnceBreakTheRules
two_edges g grain h =
    two_roots g grain rise (own_edge 97) (record { place = 1; entry = own_edge 97; is = refl; signal = refl; root_is = refl })
    (seen_plain (waits_for g rise) 0 (bit g 97 Reg, refl, refl)) h

pub inverse_edge : AnInverseEdgeBreaksTheRules
inverse_edge g grain h =
    two_roots g grain fall_of_n edge_of_n (record { place = 1; entry = edge_of_n; is = refl; signal = refl; root_is = refl })
    (seen_inverse g (pulse g) (waits_twice g (rise_of 2) fall_of_n)) h

pub two_signals : TwoSignalsOfARootBreakTheRules
two_signals g grain h =
    let is : 0 ≡ 3 =
    h.one_signal rise fall_of_n 0 (inr ((0 ∷ []) ∷ [], refl)) (first_term g rise fall_of_n) (second_term g rise fall_of_n)
    (root_a g (pulse g) (waits_twice g rise fall_of_n) grain (edge_of_n ∷ []) lists_a (mixed ((0 ∷ []) ∷ [])))
    (record { place = 1; entry = edge_of_n; is = refl; signal = refl; root_is = refl }) in
    differ 0 3 refl is
