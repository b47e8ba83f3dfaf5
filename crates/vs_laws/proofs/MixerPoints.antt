-- The points of a design whose block has two results, what is done at them, and its certificates.
use Rattle.std.proofs.Common.{◌≡◌, ℕ, zero, suc, ◌<◌, ◌⊎◌, Bool, true, false, Some, None, List, [], ◌∷◌, ◌++◌, slice_get, refl, sym, ◌∙◌, ap, subst, inl, inr, lit<, arith}
use Rattle.std.proofs.lemmas.Bool.{eq-eqb, false≢true, or_left, true≢false}
use Rattle.std.proofs.lemmas.Option.{none-some, same_Some}
use Rattle.std.specs.declared.alloc.Global.{Global}
use Rattle.std.specs.List.{Contains}
use Rattle.vs_design.specs.vs_logic4.specs.declared.digit.Digit.{Digit}
use Rattle.vs_design.specs.vs_logic4.specs.declared.digit.Digit.TheVariants.{Zero, One}
use Rattle.vs_design.specs.vs_logic4.specs.declared.edge.Edge.TheVariants.{Any}
use Rattle.vs_design.specs.vs_logic4.specs.declared.operators.Binary.TheVariants.{And, Or}
use Rattle.vs_design.specs.declared.design.Process.{Process}
use Rattle.vs_design.specs.declared.range.BitRange.{BitRange}
use Rattle.vs_design.specs.declared.signal.Signal.{Signal}
use Rattle.vs_design.specs.declared.statement.EventTerm.{EventTerm}
use Rattle.vs_design.specs.declared.statement.Statement.{Statement, out-Statement}
use Rattle.vs_design.specs.declared.statement.Statement.TheVariants as y
use Rattle.vs_design.specs.declared.statement.Statement.TheOpen as f
use Rattle.vs_design.specs.declared.statement.Statement.TheFolds.{fold-roll-Statement}
use Rattle.vs_design.specs.declared.statement.Target.{Target}
use Rattle.vs_design.specs.Statements.{has_control, has_control_step}
use Rattle.vs_design.proofs.StatementLemmas.{control_Block}
use Rattle.vs_design.specs.Kinds.{is_variable}
use Rattle.vs_design.specs.declared.design.ProcessKind.TheVariants.{Always}
use Rattle.vs_design.specs.declared.expression.Typed.{Typed}
use Rattle.vs_design.specs.declared.expression.Typed.TheVariants as e
use Rattle.vs_design.specs.Uses.{covers, slice_range, whole}
use Rattle.vs_independence.specs.vs_process.specs.Examples.{between, boxed, four_of, mixer, target, term, two_of}
use Rattle.vs_independence.specs.vs_process.specs.Executions.{is_combinational, is_level}
use Rattle.vs_process.specs.declared.gait.Gait.TheVariants.{Fresh}
use Rattle.vs_process.specs.Landings.{todo_after}
use Rattle.vs_process.specs.Places.{active_at, flat, perform, todo_of, Todo}
use Rattle.vs_process.specs.Steps.{Next, on, after, wait}
use Rattle.vs_process.proofs.Shapes.{flat-Block}
use Rattle.vs_rules.specs.vs_process.specs.BlockDrivers.{outputs}
use Rattle.vs_design.specs.vs_logic4.proofs.Basics.{none_in}
use Rattle.vs_laws.specs.Race.{the_bit}
use Rattle.vs_laws.proofs.Certificates.{none_mixed}
use Rattle.vs_laws.proofs.Race.{reads_number}
use Rattle.vs_rules.specs.Claims.{names_process, claim_of, second_in, Kind, Start, HasLists, HasStart, IsBlock, IsEdge, IsRootOf, IsSecond, IsSequential, IsWriter}
use Rattle.vs_rules.specs.Drivers.{IsSource, Names}
use Rattle.vs_rules.specs.Paths.{Bit, HasTerm, IsBit, IsPoint, IsPrologue, IsSlot0, Lists, Path, ReadsNow, Writes, WritesNow, is_plain, is_zero_time, reads_of}
use Rattle.vs_rules.specs.Points.{Among, Goes, Point, first_todo}
use Rattle.vs_rules.specs.Rules.{IsEdgeSignal, Reads}
use Rattle.vs_rules.specs.Blocks.{Unwritten, begins, goes_on, has_late_effect, todo_surely}
use Rattle.vs_rules.specs.Slots.{DelayEnds}
use Rattle.vs_rules.proofs.Places.{closed_paths, closed_points}
use Rattle.vs_laws.specs.Mixer.{mixing, mixing_claims, number_of, process_of_m, sets_later, three_of, variable_in_m}
use Rattle.vs_laws.proofs.Texts.{differ, each_in, no_signal, only, plain_is_still, reads_assign, reads_between, reads_block, reads_event, reads_forever, reads_source, writes_assign, writes_block, writes_event, writes_forever, writes_later}

-- ---- its statements

-- `a & b`, `t | c`
abbrev pub conjunction : Global → Typed
conjunction g = between g And 0 1

abbrev pub disjunction : Global → Typed
disjunction g = between g Or 3 2

-- `t = a & b`, `y = t | c`
abbrev pub first_result : Global → Statement
first_result g = y.Assign 2 (target g 3) (conjunction g)

abbrev pub second_result : Global → Statement
second_result g = y.Assign 3 (target g 4) (disjunction g)

abbrev pub results : Global → Statement
results g = y.Block (two_of g (first_result g) (second_result g))

-- what `@*` waits for
abbrev pub the_terms : List EventTerm
the_terms = term Any 0 ∷ term Any 1 ∷ term Any 3 ∷ term Any 2 ∷ []

abbrev pub watched : Global → Statement
watched g = y.Event 1 (four_of g (term Any 0) (term Any 1) (term Any 3) (term Any 2)) (boxed g (results g))

abbrev pub watching : Global → Statement
watching g = y.Forever 0 (boxed g (watched g))

-- ---- its points

-- what is to be done: from `a <= 1`, from `b <= 1`, from `c <= 0` on
abbrev pub from_third : Global → Todo
from_third g = perform (sets_later g 2 Zero) ∷ []

abbrev pub from_second : Global → Todo
from_second g = perform (sets_later g 1 One) ∷ from_third g

abbrev pub from_first : Global → Todo
from_first g = perform (sets_later g 0 One) ∷ from_second g

-- the loop, the control, from `t = a & b`, from `y = t | c` on
abbrev pub looping : Global → Todo
looping g = perform (watching g) ∷ []

abbrev pub listening : Global → Todo
listening g = perform (watched g) ∷ looping g

abbrev pub disjoining : Global → Todo
disjoining g = perform (second_result g) ∷ looping g

abbrev pub conjoining : Global → Todo
conjoining g = perform (first_result g) ∷ disjoining g

-- blocks are opened
first_is : (g : Global) → first_todo (mixing g) 0 ≡ from_first g
unfolding out-Statement denote.Hole.Carrier.out
first_is g = ap (λ k. todo_of (active_at Fresh k)) (flat-Block (three_of g (sets_later g 0 One) (sets_later g 1 One) (sets_later g 2 Zero)))

results_are : (g : Global) → flat (results g) ++ looping g ≡ conjoining g
unfolding out-Statement denote.Hole.Carrier.out
results_are g = ap (λ k. k ++ looping g) (flat-Block (two_of g (first_result g) (second_result g)))

pub data Spot (g : Global) : ℕ → Todo → Type 0 where
  first : Spot g 0 (from_first g)
  second : Spot g 0 (from_second g)
  third : Spot g 0 (from_third g)
  loops : Spot g 1 (looping g)
  listens : Spot g 1 (listening g)
  conjoins : Spot g 1 (conjoining g)
  disjoins : Spot g 1 (disjoining g)
  rests : (i : ℕ) → Spot g i []

-- the ways on from them
pub data Way (g : Global) : ℕ → Todo → Next → Type 0 where
  first : Way g 0 (from_first g) (on (from_second g))
  second : Way g 0 (from_second g) (on (from_third g))
  third : Way g 0 (from_third g) (on [])
  loops : Way g 1 (looping g) (on (listening g))
  listens : Way g 1 (listening g) (wait 1 the_terms (conjoining g))
  conjoins : Way g 1 (conjoining g) (on (disjoining g))
  disjoins : Way g 1 (disjoining g) (on (looping g))
  rests : (i : ℕ) → Way g i [] (on [])

-- those of the first slot, before the block is woken
pub data Early (g : Global) : ℕ → Todo → Type 0 where
  first : Early g 0 (from_first g)
  second : Early g 0 (from_second g)
  third : Early g 0 (from_third g)
  loops : Early g 1 (looping g)
  listens : Early g 1 (listening g)
  rests : (i : ℕ) → Early g i []

pub way_at : (g : Global) (i : ℕ) (k : Todo) (next : Next) → Spot g i k → Goes k next → Way g i k next
unfolding out-Statement denote.Hole.Carrier.out
way_at g _ _ next Spot.first h = only (Way g 0 (from_first g)) next _ h Way.first
way_at g _ _ next Spot.second h = only (Way g 0 (from_second g)) next _ h Way.second
way_at g _ _ next Spot.third h = only (Way g 0 (from_third g)) next _ h Way.third
way_at g _ _ next Spot.loops h = only (Way g 1 (looping g)) next _ h Way.loops
way_at g _ _ next Spot.listens h = only (Way g 1 (listening g)) next _ h (subst (λ k. Way g 1 (listening g) (wait 1 the_terms k)) (sym (results_are g)) Way.listens)
way_at g _ _ next Spot.conjoins h = only (Way g 1 (conjoining g)) next _ h Way.conjoins
way_at g _ _ next Spot.disjoins h = only (Way g 1 (disjoining g)) next _ h Way.disjoins
way_at g _ _ next (Spot.rests i) h = only (Way g i []) next _ h (Way.rests i)

spot_behind : (g : Global) (i : ℕ) (k : Todo) (next : Next) → Way g i k next → Spot g i (todo_after next)
spot_behind g _ _ _ Way.first = Spot.second
spot_behind g _ _ _ Way.second = Spot.third
spot_behind g _ _ _ Way.third = Spot.rests 0
spot_behind g _ _ _ Way.loops = Spot.listens
spot_behind g _ _ _ Way.listens = Spot.conjoins
spot_behind g _ _ _ Way.conjoins = Spot.disjoins
spot_behind g _ _ _ Way.disjoins = Spot.loops
spot_behind g _ _ _ (Way.rests i) = Spot.rests i

abbrev pub RestSpot : Global → ℕ → Todo → Type 0
RestSpot g i [] = Unit {0}
RestSpot g i (x ∷ rest) = Spot g i rest

spot_rest : (g : Global) (i : ℕ) (k : Todo) → Spot g i k → RestSpot g i k
spot_rest g _ _ Spot.first = Spot.second
spot_rest g _ _ Spot.second = Spot.third
spot_rest g _ _ Spot.third = Spot.rests 0
spot_rest g _ _ Spot.loops = Spot.rests 1
spot_rest g _ _ Spot.listens = Spot.loops
spot_rest g _ _ Spot.conjoins = Spot.disjoins
spot_rest g _ _ Spot.disjoins = Spot.loops
spot_rest g _ _ (Spot.rests i) = tt

first_early : (g : Global) (i : ℕ) → Early g i (first_todo (mixing g) i)
unfolding out-Statement denote.Hole.Carrier.out
first_early g zero = subst (Early g 0) (sym (first_is g)) Early.first
first_early g (suc zero) = Early.loops
first_early g (suc (suc i)) = Early.rests (suc (suc i))

pub early_spot : (g : Global) (i : ℕ) (k : Todo) → Early g i k → Spot g i k
early_spot g _ _ Early.first = Spot.first
early_spot g _ _ Early.second = Spot.second
early_spot g _ _ Early.third = Spot.third
early_spot g _ _ Early.loops = Spot.loops
early_spot g _ _ Early.listens = Spot.listens
early_spot g _ _ (Early.rests i) = Spot.rests i

pub spot_at : (g : Global) (i : ℕ) (k : Todo) → IsPoint (mixing g) i k → Spot g i k
spot_at g i k point =
    closed_points (Spot g i) (first_todo (mixing g) i) (early_spot g i _ (first_early g i)) (λ l next s h. spot_behind g i l next (way_at g i l next s h)) (λ x rest s. spot_rest g i (x ∷ rest) s) k point

-- ---- the first slot

early_behind : (g : Global) (i : ℕ) (k : Todo) (next : Next) → Early g i k → Goes k next → is_zero_time next ≡ true → Early g i (todo_after next)
unfolding out-Statement denote.Hole.Carrier.out
early_behind g _ _ next Early.first h still = only (λ n. Early g 0 (todo_after n)) next _ h Early.second
early_behind g _ _ next Early.second h still = only (λ n. Early g 0 (todo_after n)) next _ h Early.third
early_behind g _ _ next Early.third h still = only (λ n. Early g 0 (todo_after n)) next _ h (Early.rests 0)
early_behind g _ _ next Early.loops h still = only (λ n. Early g 1 (todo_after n)) next _ h Early.listens
early_behind g _ _ next Early.listens h still = absurd (only (λ n. is_zero_time n ≡ true → ⊥) next _ h (λ e. false≢true e) still)
early_behind g _ _ next (Early.rests i) h still = only (λ n. Early g i (todo_after n)) next _ h (Early.rests i)

-- where paths that take no time lead from the start
early_path : (g : Global) (i : ℕ) (k : Todo) (ok : Next → Bool) → ((next : Next) → ok next ≡ true → is_zero_time next ≡ true) → Path ok (first_todo (mixing g) i) k → Early g i k
early_path g i k ok still path =
    closed_paths (Early g i) ok (first_todo (mixing g) i) (first_early g i) (λ l next s h may. early_behind g i l next s h (still next may)) k path

pub early_at : (g : Global) (i : ℕ) (k : Todo) → IsSlot0 (mixing g) false i k → Early g i k
early_at g i k path = early_path g i k is_zero_time (λ next may. may) path

pub prologue_at : (g : Global) (i : ℕ) (k : Todo) → IsPrologue (mixing g) false i k → Early g i k
prologue_at g i k path = early_path g i k is_plain plain_is_still path

pub early_now : (g : Global) (i v : ℕ) (k : Todo) → Early g i k → WritesNow (mixing g) k v → ⊥
unfolding out-Statement denote.Hole.Carrier.out
early_now g _ v _ Early.first w = no_signal (mixing g) v w
early_now g _ v _ Early.second w = no_signal (mixing g) v w
early_now g _ v _ Early.third w = no_signal (mixing g) v w
early_now g _ v _ Early.loops w = no_signal (mixing g) v w
early_now g _ v _ Early.listens w = no_signal (mixing g) v w
early_now g _ v _ (Early.rests i) w = no_signal (mixing g) v w

-- ---- what is done at its points

-- the block alone writes by `=`
pub now_who : (g : Global) (i v : ℕ) (k : Todo) → Spot g i k → WritesNow (mixing g) k v → i ≡ 1
unfolding out-Statement denote.Hole.Carrier.out
now_who g _ v _ Spot.first w = absurd (no_signal (mixing g) v w)
now_who g _ v _ Spot.second w = absurd (no_signal (mixing g) v w)
now_who g _ v _ Spot.third w = absurd (no_signal (mixing g) v w)
now_who g _ v _ Spot.loops w = refl
now_who g _ v _ Spot.listens w = refl
now_who g _ v _ Spot.conjoins w = refl
now_who g _ v _ Spot.disjoins w = refl
now_who g _ v _ (Spot.rests i) w = absurd (no_signal (mixing g) v w)

-- and it alone reads
no_input : (digit : Digit) (r : BitRange) → Contains (Rattle.vs_design.specs.Uses.reads (e.Number (number_of digit)) ++ []) r → ⊥
no_input digit r h = none_in r (subst (λ rs. Contains rs r) (reads_number (number_of digit)) (reads_source (e.Number (number_of digit)) r h))

pub read_who : (g : Global) (i : ℕ) (k : Todo) (r : BitRange) → Spot g i k → ReadsNow (mixing g) k r → i ≡ 1
unfolding out-Statement denote.Hole.Carrier.out
read_who g _ _ r Spot.first h = absurd (no_input One r h.0)
read_who g _ _ r Spot.second h = absurd (no_input One r h.0)
read_who g _ _ r Spot.third h = absurd (no_input Zero r h.0)
read_who g _ _ r Spot.loops h = refl
read_who g _ _ r Spot.listens h = refl
read_who g _ _ r Spot.conjoins h = refl
read_who g _ _ r Spot.disjoins h = refl
read_who g _ _ r (Spot.rests i) h = absurd (none_in r h.0)

-- `t = a & b` reads none of its results, and `y = t | c` no `y`
pub conjoins_inputs : (g : Global) (r : BitRange) → ReadsNow (mixing g) (conjoining g) r → r.signal < 3
unfolding out-Statement denote.Hole.Carrier.out
conjoins_inputs g r h =
    each_in (λ (q : BitRange). q.signal < 3) (whole 0 ∷ whole 1 ∷ []) (lit< tt, (lit< tt, tt)) r
    (subst (λ rs. Contains rs r) (reads_between g And 0 1) (reads_source (conjunction g) r h.0))

pub disjoins_inputs : (g : Global) (r : BitRange) → ReadsNow (mixing g) (disjoining g) r → r.signal < 4
unfolding out-Statement denote.Hole.Carrier.out
disjoins_inputs g r h =
    each_in (λ (q : BitRange). q.signal < 4) (whole 3 ∷ whole 2 ∷ []) (lit< tt, (lit< tt, tt)) r
    (subst (λ rs. Contains rs r) (reads_between g Or 3 2) (reads_source (disjunction g) r h.0))

-- none of the block has a late effect
pub quiet : (g : Global) (i : ℕ) (k : Todo) → Spot g i k → i ≡ 1 → has_late_effect k ≡ false
unfolding out-Statement denote.Hole.Carrier.out
quiet g _ _ Spot.first e = cc
quiet g _ _ Spot.second e = cc
quiet g _ _ Spot.third e = cc
quiet g _ _ Spot.loops e = refl
quiet g _ _ Spot.listens e = refl
quiet g _ _ Spot.conjoins e = refl
quiet g _ _ Spot.disjoins e = refl
quiet g _ _ (Spot.rests i) e = refl

-- ---- its controls

pub record IsEvent (g : Global) (i : ℕ) (terms : List EventTerm) (l : Todo) : Type 0 where
  pub process : i ≡ 1
  pub terms_are : the_terms ≡ terms
  pub landing : l ≡ conjoining g

event_at : (g : Global) (i : ℕ) (k : Todo) (next : Next) → Way g i k next → (number : ℕ) (terms : List EventTerm) (l : Todo) → next ≡ wait number terms l → IsEvent g i terms l
event_at g _ _ _ Way.first number terms l e = cc
event_at g _ _ _ Way.second number terms l e = cc
event_at g _ _ _ Way.third number terms l e = cc
event_at g _ _ _ Way.loops number terms l e = cc
event_at g _ _ _ Way.listens number terms l e = record { process = refl; terms_are = cc; landing = cc }
event_at g _ _ _ Way.conjoins number terms l e = cc
event_at g _ _ _ Way.disjoins number terms l e = cc
event_at g _ _ _ (Way.rests i) number terms l e = cc

pub event : (g : Global) (i : ℕ) (k l : Todo) (number : ℕ) (terms : List EventTerm) → IsPoint (mixing g) i k → Goes k (wait number terms l) → IsEvent g i terms l
event g i k l number terms point h = event_at g i k (wait number terms l) (way_at g i k (wait number terms l) (spot_at g i k point) h) number terms l refl

pauses_at : (g : Global) (i : ℕ) (k : Todo) (next : Next) → Way g i k next → (number ticks : ℕ) (l : Todo) → next ≡ after number ticks l → ⊥
pauses_at g _ _ _ Way.first number ticks l e = cc
pauses_at g _ _ _ Way.second number ticks l e = cc
pauses_at g _ _ _ Way.third number ticks l e = cc
pauses_at g _ _ _ Way.loops number ticks l e = cc
pauses_at g _ _ _ Way.listens number ticks l e = cc
pauses_at g _ _ _ Way.conjoins number ticks l e = cc
pauses_at g _ _ _ Way.disjoins number ticks l e = cc
pauses_at g _ _ _ (Way.rests i) number ticks l e = cc

pub no_pause : (g : Global) (i : ℕ) (k l : Todo) (number ticks : ℕ) → Spot g i k → Goes k (after number ticks l) → ⊥
no_pause g i k l number ticks s h = pauses_at g i k (after number ticks l) (way_at g i k (after number ticks l) s h) number ticks l refl

pub ends_never : (g : Global) (i : ℕ) (k : Todo) (next : Next) → Way g i k next → (lists : List (List ℕ)) (r : ℕ) → DelayEnds (mixing g) i lists next r → ⊥
ends_never g _ _ _ Way.first lists r ends = ends
ends_never g _ _ _ Way.second lists r ends = ends
ends_never g _ _ _ Way.third lists r ends = ends
ends_never g _ _ _ Way.loops lists r ends = ends
ends_never g _ _ _ Way.listens lists r ends = ends
ends_never g _ _ _ Way.conjoins lists r ends = ends
ends_never g _ _ _ Way.disjoins lists r ends = ends
ends_never g _ _ _ (Way.rests i) lists r ends = ends

-- it has those terms
pub term_is : (g : Global) (i : ℕ) (t : EventTerm) → HasTerm (mixing g) i t → (i ≡ 1) × Contains the_terms t
term_is g i t h =
    let there = event g i h.control h.behind h.number h.terms h.point h.goes in
    (there.process, subst (λ ts. Contains ts t) (sym there.terms_are) h.is)

pub has_term : (g : Global) (t : EventTerm) → Contains the_terms t → HasTerm (mixing g) 1 t
unfolding out-Statement denote.Hole.Carrier.out
has_term g t has = record {
  control = listening g;
  number = 1;
  terms = the_terms;
  behind = flat (results g) ++ looping g;
  point = Point.goes_on (looping g) (listening g) Point.begins (Among.first []);
  goes = Among.first [];
  is = has;
}

-- what it waits for
pub named_in : (g : Global) (i : ℕ) (r : BitRange) → Names (mixing g) i r → (P : ℕ → Type 0) → P 0 → P 1 → P 2 → P 3 → P r.signal
named_in g i r h P zero_is one_is two_is three_is =
    subst (λ (q : BitRange). P q.signal) h.is
    (each_in (λ (t : EventTerm). P t.range.signal) the_terms (zero_is, (one_is, (three_is, (two_is, tt)))) h.term (term_is g i h.term h.has).1)

pub no_edge_signal : (g : Global) (v : ℕ) → IsEdgeSignal (mixing g) v → ⊥
no_edge_signal g v h =
    true≢false (sym (each_in (λ (t : EventTerm). is_level t ≡ true) the_terms (refl, (refl, (refl, (refl, tt)))) h.term (term_is g h.process h.term h.has).1) ∙ h.edge)

-- ---- its texts

-- who writes what
pub data Written : ℕ → ℕ → Type 0 where
  input_a : Written 0 0
  input_b : Written 0 1
  input_c : Written 0 2
  result_t : Written 1 3
  result_y : Written 1 4

writes_first : (g : Global) → outputs (mixing g) 0 ≡ slice_range (the_bit 0) ∷ slice_range (the_bit 1) ∷ slice_range (the_bit 2) ∷ []
writes_first g = writes_block (three_of g (sets_later g 0 One) (sets_later g 1 One) (sets_later g 2 Zero)) ∙ simp writes_later

writes_second : (g : Global) → outputs (mixing g) 1 ≡ slice_range (the_bit 3) ∷ slice_range (the_bit 4) ∷ []
writes_second g =
    writes_forever g 0 (watched g) ∙ writes_event g 1 (four_of g (term Any 0) (term Any 1) (term Any 3) (term Any 2)) (results g)
    ∙ writes_block (two_of g (first_result g) (second_result g)) ∙ simp writes_assign

pub written : (g : Global) (i v : ℕ) → Writes (mixing g) i v → Written i v
written g zero v w =
    subst (Written 0) w.of
    (each_in (λ (r : BitRange). Written 0 r.signal) (slice_range (the_bit 0) ∷ slice_range (the_bit 1) ∷ slice_range (the_bit 2) ∷ []) (Written.input_a, (Written.input_b, (Written.input_c, tt))) w.range
    (subst (λ rs. Contains rs w.range) (writes_first g) w.listed.0))
written g (suc zero) v w =
    subst (Written 1) w.of
    (each_in (λ (r : BitRange). Written 1 r.signal) (slice_range (the_bit 3) ∷ slice_range (the_bit 4) ∷ []) (Written.result_t, (Written.result_y, tt)) w.range
    (subst (λ rs. Contains rs w.range) (writes_second g) w.listed.0))
written g (suc (suc i)) v w = absurd (no_signal (mixing g) v w)

writes_at : (g : Global) (i : ℕ) (rs : List BitRange) → outputs (mixing g) i ≡ rs → (r : BitRange) → Contains rs r → Writes (mixing g) i r.signal
writes_at g i rs are r has = record { range = r; listed = (subst (λ qs. Contains qs r) (sym are) has, tt); of = refl }

pub writes_it : (g : Global) (i v : ℕ) → Written i v → Writes (mixing g) i v
writes_it g _ _ Written.input_a = writes_at g 0 _ (writes_first g) (slice_range (the_bit 0)) (0, lit< tt, refl)
writes_it g _ _ Written.input_b = writes_at g 0 _ (writes_first g) (slice_range (the_bit 1)) (1, lit< tt, refl)
writes_it g _ _ Written.input_c = writes_at g 0 _ (writes_first g) (slice_range (the_bit 2)) (2, lit< tt, refl)
writes_it g _ _ Written.result_t = writes_at g 1 _ (writes_second g) (slice_range (the_bit 3)) (0, lit< tt, refl)
writes_it g _ _ Written.result_y = writes_at g 1 _ (writes_second g) (slice_range (the_bit 4)) (1, lit< tt, refl)

pub t_listed : (g : Global) → Lists (mixing g) (outputs (mixing g) 1) (slice_range (the_bit 3))
t_listed g = (subst (λ rs. Contains rs (slice_range (the_bit 3))) (sym (writes_second g)) (0, lit< tt, refl), tt)

reads_second : (g : Global) → reads_of (mixing g) 1 ≡ whole 0 ∷ whole 1 ∷ whole 3 ∷ whole 2 ∷ []
reads_second g =
    reads_forever g 0 (watched g) ∙ reads_event g 1 (four_of g (term Any 0) (term Any 1) (term Any 3) (term Any 2)) (results g)
    ∙ reads_block (two_of g (first_result g) (second_result g)) ∙ simp (reads_assign, reads_between)

-- what the text of the block reads is what it waits for
pub reads_are : (g : Global) (r : BitRange) → Lists (mixing g) (reads_of (mixing g) 1) r → Contains (whole 0 ∷ whole 1 ∷ whole 3 ∷ whole 2 ∷ []) r
reads_are g r h = subst (λ rs. Contains rs r) (reads_second g) h.0

-- ---- its certificates

pub is_writer : (g : Global) (start : Start) (v i : ℕ) → Written i v → IsWriter (mixing g) (mixing_claims start) v i
is_writer g start _ _ Written.input_a = refl
is_writer g start _ _ Written.input_b = refl
is_writer g start _ _ Written.input_c = refl
is_writer g start _ _ Written.result_t = refl
is_writer g start _ _ Written.result_y = refl

pub none_second : (g : Global) (start : Start) (v : ℕ) → second_in (claim_of (mixing g) (mixing_claims start) v) ≡ None
none_second g start zero = refl
none_second g start (suc zero) = refl
none_second g start (suc (suc zero)) = refl
none_second g start (suc (suc (suc zero))) = refl
none_second g start (suc (suc (suc (suc zero)))) = refl
none_second g start (suc (suc (suc (suc (suc v))))) = refl

pub no_second : (g : Global) (start : Start) (v i : ℕ) → IsSecond (mixing g) (mixing_claims start) v i → ⊥
no_second g start v i h = false≢true (sym (ap (λ o. names_process o (slice_get (mixing g).processes i)) (none_second g start v)) ∙ h)

pub start_is : (g : Global) (start : Start) (i : ℕ) (other : Start) → HasStart (mixing g) (mixing_claims start) i other → (i ≡ 1) × (start ≡ other)
start_is g start zero other e = cc
start_is g start (suc zero) other e = (refl, cc)
start_is g start (suc (suc i)) other e = absurd (none-some (Kind.block other) e)

pub block_is : (g : Global) (start : Start) (i : ℕ) → IsBlock (mixing g) (mixing_claims start) i → i ≡ 1
block_is g start i h = (start_is g start i h.0 h.1).0

pub no_edge : (g : Global) (start : Start) (i : ℕ) → IsEdge (mixing g) (mixing_claims start) i → ⊥
no_edge g start zero e = cc
no_edge g start (suc zero) e = cc
no_edge g start (suc (suc i)) e = none-some Kind.edges e

pub lists_are : (g : Global) (start : Start) (i : ℕ) (lists : List (List ℕ)) → HasLists (mixing g) (mixing_claims start) i lists → (i ≡ 0) × ([] ≡ lists)
lists_are g start zero lists e = (refl, cc)
lists_are g start (suc zero) lists e = cc
lists_are g start (suc (suc i)) lists e = absurd (none-some (Kind.delays lists) e)

-- what reads by `Reads` is of kind comb
pub no_sequential_read : (g : Global) (start : Start) (i : ℕ) (k : Todo) (r : BitRange) → IsSequential (mixing g) (mixing_claims start) i → Spot g i k → Reads (mixing g) (mixing_claims start) k r → ⊥
no_sequential_read g start i k r (inl edge) s read = no_edge g start i edge
no_sequential_read g start i k r (inr (inl delay)) s (inl read) = differ 1 0 refl (sym (read_who g i k r s read) ∙ (lists_are g start i delay.0 delay.1).0)
no_sequential_read g start i k r (inr (inl delay)) s (inr shown) = false≢true shown.0
no_sequential_read g start i k r (inr (inr mix)) s read = none_mixed (mixing g) (mixing_claims start) i mix.0 refl mix.1

pub no_root : (g : Global) (start : Start) (root v : ℕ) → IsRootOf (mixing g) (mixing_claims start) root v → ⊥
no_root g start root v h = none-some h.entry h.is

-- what the block writes
result_at : (v : ℕ) → Written 1 v → (v ≡ 3) ⊎ (v ≡ 4)
result_at v w = by_process 1 v w refl
  where
    by_process : (i n : ℕ) → Written i n → i ≡ 1 → (n ≡ 3) ⊎ (n ≡ 4)
    by_process _ _ Written.input_a e = absurd (differ 0 1 refl e)
    by_process _ _ Written.input_b e = absurd (differ 0 1 refl e)
    by_process _ _ Written.input_c e = absurd (differ 0 1 refl e)
    by_process _ _ Written.result_t e = inl refl
    by_process _ _ Written.result_y e = inr refl

pub block_writes : (g : Global) (start : Start) (i v : ℕ) → IsBlock (mixing g) (mixing_claims start) i → Writes (mixing g) i v → (v ≡ 3) ⊎ (v ≡ 4)
block_writes g start i v blk w = result_at v (subst (λ n. Written n v) (block_is g start i blk) (written g i v w))

-- `a`, `b` and `c` are sources
source_at : (g : Global) (start : Start) (v : ℕ) (s : Signal) → slice_get (mixing g).signals v ≡ Some s → is_variable s.kind ≡ true → v < 3 → IsSource (mixing g) (mixing_claims start) v
source_at g start v s is variable low = record {
  variable = (s, is, variable);
  undriven = λ i blk w. elim (block_writes g start i v blk w) [
    | inl three ↦ absurd (omega arith)
    | inr four ↦ absurd (omega arith)
  ];
}

pub source_a : (g : Global) (start : Start) → IsSource (mixing g) (mixing_claims start) 0
source_a g start = source_at g start 0 (variable_in_m g 97) refl refl (lit< tt)

pub source_b : (g : Global) (start : Start) → IsSource (mixing g) (mixing_claims start) 1
source_b g start = source_at g start 1 (variable_in_m g 98) refl refl (lit< tt)

pub source_c : (g : Global) (start : Start) → IsSource (mixing g) (mixing_claims start) 2
source_c g start = source_at g start 2 (variable_in_m g 99) refl refl (lit< tt)

-- ---- the block

control_assign : (n : ℕ) (x : Target) (v : Typed) → has_control (y.Assign n x v) ≡ false
control_assign n x v = ap has_control (sym (y.rolls-Assign n x v)) ∙ fold-roll-Statement Bool has_control_step (f.Assign n x v)

combinational_is : (g : Global) → is_combinational (process_of_m g 49 Always (mixer g).body) ≡ true
unfolding out-Statement denote.Hole.Carrier.out
combinational_is g = simp (control_Block, control_assign)

pub shape_at : (g : Global) (i : ℕ) (p : Process) → i ≡ 1 → slice_get (mixing g).processes i ≡ Some p → is_combinational p ≡ true
shape_at g i p at is =
    subst (λ (q : Process). is_combinational q ≡ true) (same_Some (process_of_m g 49 Always (mixer g).body) p (ap (slice_get (mixing g).processes) (sym at) ∙ is)) (combinational_is g)

-- the one bit of a result
pub result_bit : (g : Global) (v letter : ℕ) (b : Bit) → slice_get (mixing g).signals v ≡ Some (variable_in_m g letter) → IsBit (mixing g) b → b.signal ≡ v → covers b.signal b.word b.place (slice_range (the_bit v)) ≡ true
result_bit g v letter b signal_is bit_is at = covered b.signal b.word b.place at no_word no_place
  where
    same : variable_in_m g letter ≡ bit_is.signal
    same = same_Some (variable_in_m g letter) bit_is.signal (sym signal_is ∙ ap (slice_get (mixing g).signals) (sym at) ∙ bit_is.is)

    no_word : b.word ≡ 0
    no_word = let within : b.word < 1 = subst (λ (s : Signal). b.word < s.count) (sym same) bit_is.word in omega (arith, within)

    no_place : b.place ≡ 0
    no_place = let within : b.place < 1 = subst (λ (s : Signal). b.place < s.width) (sym same) bit_is.place in omega (arith, within)

    covered : (s w p : ℕ) → s ≡ v → w ≡ 0 → p ≡ 0 → covers s w p (slice_range (the_bit v)) ≡ true
    covered s w p s_is w_is p_is = rw (s_is, w_is, p_is, eq-eqb v v refl) refl

sure_t : (g : Global) (b : Bit) → IsBit (mixing g) b → b.signal ≡ 3 → todo_surely b (conjoining g) ≡ true
unfolding out-Statement denote.Hole.Carrier.out
sure_t g b bit_is at = or_left (covers b.signal b.word b.place (slice_range (the_bit 3))) false (result_bit g 3 116 b refl bit_is at)

sure_y : (g : Global) (b : Bit) → IsBit (mixing g) b → b.signal ≡ 4 → todo_surely b (disjoining g) ≡ true
unfolding out-Statement denote.Hole.Carrier.out
sure_y g b bit_is at = or_left (covers b.signal b.word b.place (slice_range (the_bit 4))) false (result_bit g 4 121 b refl bit_is at)

-- where `t` is not written yet, and where `y` is not
pub unwritten_t : (g : Global) (i : ℕ) (b : Bit) (k : Todo) → IsBit (mixing g) b → b.signal ≡ 3 → Unwritten (mixing g) i b k → k ≡ conjoining g
unwritten_t g i b _ bit_is at (begins k l number terms point goes) = (event g i k l number terms point goes).landing
unwritten_t g i b _ bit_is at (goes_on k l before sure goes) =
    absurd (true≢false (sym (sure_t g b bit_is at) ∙ ap (todo_surely b) (sym (unwritten_t g i b k bit_is at before)) ∙ sure))

conjoins_on : (g : Global) (next : Next) → Goes (conjoining g) next → on (disjoining g) ≡ next
unfolding out-Statement denote.Hole.Carrier.out
conjoins_on g next h = only (λ n. on (disjoining g) ≡ n) next _ h refl

disjoins_on : (g : Global) (next : Next) → Goes (disjoining g) next → on (looping g) ≡ next
unfolding out-Statement denote.Hole.Carrier.out
disjoins_on g next h = only (λ n. on (looping g) ≡ n) next _ h refl

same_on : (k l : Todo) → on k ≡ on l → l ≡ k
same_on k l e = cc

pub unwritten_y : (g : Global) (i : ℕ) (b : Bit) (k : Todo) → IsBit (mixing g) b → b.signal ≡ 4 → Unwritten (mixing g) i b k → (k ≡ conjoining g) ⊎ (k ≡ disjoining g)
unwritten_y g i b _ bit_is at (begins k l number terms point goes) = inl (event g i k l number terms point goes).landing
unwritten_y g i b _ bit_is at (goes_on k l before sure goes) = elim (unwritten_y g i b k bit_is at before) [
  | inl one ↦ inr (same_on (disjoining g) l (conjoins_on g (on l) (subst (λ j. Goes j (on l)) one goes)))
  | inr other ↦ absurd (true≢false (sym (sure_y g b bit_is at) ∙ ap (todo_surely b) (sym other) ∙ sure))
]

pub conjoins_plain : (g : Global) (next : Next) → Goes (conjoining g) next → is_plain next ≡ true
conjoins_plain g next h = subst (λ n. is_plain n ≡ true) (conjoins_on g next h) refl

pub disjoins_plain : (g : Global) (next : Next) → Goes (disjoining g) next → is_plain next ≡ true
disjoins_plain g next h = subst (λ n. is_plain n ≡ true) (disjoins_on g next h) refl
