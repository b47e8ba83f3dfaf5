-- The points of a clocked design, what is done at them, and its certificate.
use Rattle.std.proofs.Common.{◌≡◌, ℕ, zero, suc, ◌+◌, ◌<◌, ◌⊎◌, Bool, true, false, Some, List, [], ◌∷◌, slice_get, refl, sym, ◌∙◌, ap, subst, inl, inr, lit<, arith}
use Rattle.std.proofs.lemmas.Bool.{false≢true}
use Rattle.std.proofs.lemmas.Option.{none-some, same_Some}
use Rattle.std.proofs.lemmas.Slice.Eq.{bytes_eq-Decides}
use Rattle.std.specs.declared.alloc.Global.{Global}
use Rattle.std.specs.List.{Contains}
use Rattle.vs_design.specs.vs_logic4.specs.declared.digit.Digit.{Digit}
use Rattle.vs_design.specs.vs_logic4.specs.declared.digit.Digit.TheVariants.{Zero, One}
use Rattle.vs_design.specs.declared.range.BitRange.{BitRange}
use Rattle.vs_design.specs.declared.statement.EventTerm.{EventTerm}
use Rattle.vs_design.specs.declared.statement.Statement.{out-Statement}
use Rattle.vs_design.specs.declared.expression.Typed.TheVariants as e
use Rattle.vs_design.specs.Uses.{slice_range, whole}
use Rattle.vs_independence.specs.vs_process.specs.declared.moves.Grain.{Grain}
use Rattle.vs_process.specs.Landings.{todo_after}
use Rattle.vs_process.specs.Places.{perform, Todo}
use Rattle.vs_process.specs.Steps.{Next, on, after, wait}
use Rattle.vs_process.specs.Writes.{statement_writes}
use Rattle.vs_rules.specs.vs_process.specs.BlockDrivers.{outputs}
use Rattle.vs_design.specs.vs_logic4.proofs.Basics.{one_in, none_in}
use Rattle.vs_laws.specs.Mirror.{one_of}
use Rattle.vs_laws.specs.Race.{operand, target, the_bit}
use Rattle.vs_laws.specs.Rise.{rise}
use Rattle.vs_laws.proofs.Race.{reads_number, reads_operand}
use Rattle.vs_rules.specs.Claims.{EdgeClaim, Kind, kind_of, names_process, IsSignalNamed, IsWriter, IsSecond, HasLists, IsBlock, IsEdge, IsRootOf}
use Rattle.vs_rules.specs.Controls.{controls_of}
use Rattle.vs_rules.specs.Paths.{HasTerm, IsPoint, IsSlot0, ListsSignal, Path, ReadsNow, Writes, WritesAny, WritesLater, WritesNow, is_plain, is_zero_time}
use Rattle.vs_rules.specs.Points.{Among, Goes, Point, first_todo}
use Rattle.vs_rules.specs.Rules.{IsEdgeSignal, Reads}
use Rattle.vs_rules.proofs.Places.{closed_paths, closed_points}
use Rattle.vs_laws.specs.Block.{no_ticks}
use Rattle.vs_laws.specs.Names.{signal_in_t, process_in_t}
use Rattle.vs_laws.specs.Swap.{clock, copies_later, each_rise, five, half, inverse, on_rise, sets, swap_claims, swapping_later, turned}
use Rattle.vs_laws.proofs.Texts.{controls_assign, controls_delay, controls_forever, no_signal, one_signal, only, other_name, reads_inverse, reads_source, writes_assign, writes_delay, writes_event, writes_forever, writes_later}

-- ---- its points

-- the processes that set a signal first
pub data IsInit : ℕ → ℕ → Digit → Type 0 where
  sets_c : IsInit 0 0 Zero
  sets_a : IsInit 1 1 Zero
  sets_b : IsInit 2 2 One

-- those at the edges, with the signal that each writes and the one that it reads
pub data IsSide : ℕ → ℕ → ℕ → Type 0 where
  first_side : IsSide 4 1 2
  second_side : IsSide 5 2 1

-- what is to be done
abbrev pub setting : Global → ℕ → Digit → Todo
setting g v digit = perform (sets g v digit) ∷ []

abbrev pub looping : Global → Todo
looping g = perform (clock g) ∷ []

abbrev pub pausing : Global → Todo
pausing g = perform (half g) ∷ perform (clock g) ∷ []

abbrev pub turning : Global → Todo
turning g = perform (turned g) ∷ perform (clock g) ∷ []

abbrev pub again : Global → ℕ → ℕ → Todo
again g to from = perform (each_rise g (copies_later g to from)) ∷ []

abbrev pub listening : Global → ℕ → ℕ → Todo
listening g to from = perform (on_rise g (copies_later g to from)) ∷ again g to from

abbrev pub copying : Global → ℕ → ℕ → Todo
copying g to from = perform (copies_later g to from) ∷ again g to from

pub data Spot (g : Global) : ℕ → Todo → Type 0 where
  inits : (i v : ℕ) (digit : Digit) → IsInit i v digit → Spot g i (setting g v digit)
  loops : Spot g 3 (looping g)
  pauses : Spot g 3 (pausing g)
  turns : Spot g 3 (turning g)
  begins : (i to from : ℕ) → IsSide i to from → Spot g i (again g to from)
  listens : (i to from : ℕ) → IsSide i to from → Spot g i (listening g to from)
  copies : (i to from : ℕ) → IsSide i to from → Spot g i (copying g to from)
  rests : (i : ℕ) → Spot g i []

-- the ways on from them
pub data Way (g : Global) : ℕ → Todo → Next → Type 0 where
  inits : (i v : ℕ) (digit : Digit) → IsInit i v digit → Way g i (setting g v digit) (on [])
  loops : Way g 3 (looping g) (on (pausing g))
  pauses : Way g 3 (pausing g) (after 1 5 (turning g))
  turns : Way g 3 (turning g) (on (looping g))
  begins : (i to from : ℕ) → IsSide i to from → Way g i (again g to from) (on (listening g to from))
  listens : (i to from : ℕ) → IsSide i to from → Way g i (listening g to from) (wait 1 (rise ∷ []) (copying g to from))
  copies : (i to from : ℕ) → IsSide i to from → Way g i (copying g to from) (on (again g to from))
  rests : (i : ℕ) → Way g i [] (on [])

-- those of the first slot
pub data Early (g : Global) : ℕ → Todo → Type 0 where
  inits : (i v : ℕ) (digit : Digit) → IsInit i v digit → Early g i (setting g v digit)
  loops : Early g 3 (looping g)
  pauses : Early g 3 (pausing g)
  begins : (i to from : ℕ) → IsSide i to from → Early g i (again g to from)
  listens : (i to from : ℕ) → IsSide i to from → Early g i (listening g to from)
  rests : (i : ℕ) → Early g i []

pub way_at : (g : Global) (i : ℕ) (k : Todo) (next : Next) → Spot g i k → Goes k next → Way g i k next
unfolding out-Statement denote.Hole.Carrier.out
way_at g _ _ next (Spot.inits i v digit s) h = only (Way g i (setting g v digit)) next _ h (Way.inits i v digit s)
way_at g _ _ next Spot.loops h = only (Way g 3 (looping g)) next _ h Way.loops
way_at g _ _ next Spot.pauses h = only (Way g 3 (pausing g)) next _ h Way.pauses
way_at g _ _ next Spot.turns h = only (Way g 3 (turning g)) next _ h Way.turns
way_at g _ _ next (Spot.begins i to from s) h = only (Way g i (again g to from)) next _ h (Way.begins i to from s)
way_at g _ _ next (Spot.listens i to from s) h = only (Way g i (listening g to from)) next _ h (Way.listens i to from s)
way_at g _ _ next (Spot.copies i to from s) h = only (Way g i (copying g to from)) next _ h (Way.copies i to from s)
way_at g _ _ next (Spot.rests i) h = only (Way g i []) next _ h (Way.rests i)

pub spot_behind : (g : Global) (i : ℕ) (k : Todo) (next : Next) → Way g i k next → Spot g i (todo_after next)
spot_behind g _ _ _ (Way.inits i v digit s) = Spot.rests i
spot_behind g _ _ _ Way.loops = Spot.pauses
spot_behind g _ _ _ Way.pauses = Spot.turns
spot_behind g _ _ _ Way.turns = Spot.loops
spot_behind g _ _ _ (Way.begins i to from s) = Spot.listens i to from s
spot_behind g _ _ _ (Way.listens i to from s) = Spot.copies i to from s
spot_behind g _ _ _ (Way.copies i to from s) = Spot.begins i to from s
spot_behind g _ _ _ (Way.rests i) = Spot.rests i

abbrev pub RestSpot : Global → ℕ → Todo → Type 0
RestSpot g i [] = Unit {0}
RestSpot g i (x ∷ rest) = Spot g i rest

spot_rest : (g : Global) (i : ℕ) (k : Todo) → Spot g i k → RestSpot g i k
spot_rest g _ _ (Spot.inits i v digit s) = Spot.rests i
spot_rest g _ _ Spot.loops = Spot.rests 3
spot_rest g _ _ Spot.pauses = Spot.loops
spot_rest g _ _ Spot.turns = Spot.loops
spot_rest g _ _ (Spot.begins i to from s) = Spot.rests i
spot_rest g _ _ (Spot.listens i to from s) = Spot.begins i to from s
spot_rest g _ _ (Spot.copies i to from s) = Spot.begins i to from s
spot_rest g _ _ (Spot.rests i) = tt

first_early : (g : Global) (i : ℕ) → Early g i (first_todo (swapping_later g) i)
unfolding out-Statement denote.Hole.Carrier.out
first_early g zero = Early.inits 0 0 Zero IsInit.sets_c
first_early g (suc zero) = Early.inits 1 1 Zero IsInit.sets_a
first_early g (suc (suc zero)) = Early.inits 2 2 One IsInit.sets_b
first_early g (suc (suc (suc zero))) = Early.loops
first_early g (suc (suc (suc (suc zero)))) = Early.begins 4 1 2 IsSide.first_side
first_early g (suc (suc (suc (suc (suc zero))))) = Early.begins 5 2 1 IsSide.second_side
first_early g (suc (suc (suc (suc (suc (suc i)))))) = Early.rests (suc (suc (suc (suc (suc (suc i))))))

pub early_spot : (g : Global) (i : ℕ) (k : Todo) → Early g i k → Spot g i k
early_spot g _ _ (Early.inits i v digit s) = Spot.inits i v digit s
early_spot g _ _ Early.loops = Spot.loops
early_spot g _ _ Early.pauses = Spot.pauses
early_spot g _ _ (Early.begins i to from s) = Spot.begins i to from s
early_spot g _ _ (Early.listens i to from s) = Spot.listens i to from s
early_spot g _ _ (Early.rests i) = Spot.rests i

spot_on : (g : Global) (i : ℕ) (k : Todo) (next : Next) → Spot g i k → Goes k next → Spot g i (todo_after next)
spot_on g i k next s h = spot_behind g i k next (way_at g i k next s h)

pub spot_at : (g : Global) (i : ℕ) (k : Todo) → IsPoint (swapping_later g) i k → Spot g i k
spot_at g i k point =
    closed_points (Spot g i) (first_todo (swapping_later g) i) (early_spot g i (first_todo (swapping_later g) i) (first_early g i)) (λ l next s h. spot_on g i l next s h)
    (λ x rest s. spot_rest g i (x ∷ rest) s) k point

pub spot_path : (g : Global) (i : ℕ) (ok : Next → Bool) (from k : Todo) → Spot g i from → Path ok from k → Spot g i k
spot_path g i ok from k s path = closed_paths (Spot g i) ok from s (λ l next at h may. spot_on g i l next at h) k path

-- ---- the first slot

early_behind : (g : Global) (i : ℕ) (k : Todo) (next : Next) → Way g i k next → is_zero_time next ≡ true → Early g i (todo_after next)
early_behind g _ _ _ (Way.inits i v digit s) still = Early.rests i
early_behind g _ _ _ Way.loops still = Early.pauses
early_behind g _ _ _ Way.pauses still = absurd (false≢true still)
early_behind g _ _ _ Way.turns still = Early.loops
early_behind g _ _ _ (Way.begins i to from s) still = Early.listens i to from s
early_behind g _ _ _ (Way.listens i to from s) still = absurd (false≢true still)
early_behind g _ _ _ (Way.copies i to from s) still = Early.begins i to from s
early_behind g _ _ _ (Way.rests i) still = Early.rests i

-- where paths that take no time lead from such a point
pub early_path : (g : Global) (i : ℕ) (from k : Todo) (ok : Next → Bool) → ((next : Next) → ok next ≡ true → is_zero_time next ≡ true) → Early g i from → Path ok from k → Early g i k
early_path g i from k ok still at path =
    closed_paths (Early g i) ok from at (λ l next s h may. early_behind g i l next (way_at g i l next (early_spot g i l s) h) (still next may)) k path

pub early_at : (g : Global) (i : ℕ) (k : Todo) → IsSlot0 (swapping_later g) false i k → Early g i k
early_at g i k path = early_path g i (first_todo (swapping_later g) i) k is_zero_time (λ next may. may) (first_early g i) path

-- ---- what is done at its points

pub data Wrote (g : Global) : ℕ → Todo → ℕ → Type 0 where
  inits : (i v : ℕ) (digit : Digit) → IsInit i v digit → Wrote g i (setting g v digit) v
  turns : Wrote g 3 (turning g) 0

pub wrote : (g : Global) (i v : ℕ) (k : Todo) → Spot g i k → WritesNow (swapping_later g) k v → Wrote g i k v
unfolding out-Statement denote.Hole.Carrier.out
wrote g _ v _ (Spot.inits i to digit s) w = subst (Wrote g i (setting g to digit)) (one_signal (swapping_later g) (slice_range (the_bit to)) v w) (Wrote.inits i to digit s)
wrote g _ v _ Spot.loops w = absurd (no_signal (swapping_later g) v w)
wrote g _ v _ Spot.pauses w = absurd (no_signal (swapping_later g) v w)
wrote g _ v _ Spot.turns w = subst (Wrote g 3 (turning g)) (one_signal (swapping_later g) (slice_range (the_bit 0)) v w) Wrote.turns
wrote g _ v _ (Spot.begins i to from s) w = absurd (no_signal (swapping_later g) v w)
wrote g _ v _ (Spot.listens i to from s) w = absurd (no_signal (swapping_later g) v w)
wrote g _ v _ (Spot.copies i to from s) w = absurd (no_signal (swapping_later g) v w)
wrote g _ v _ (Spot.rests i) w = absurd (no_signal (swapping_later g) v w)

pub data Updated (g : Global) : ℕ → Todo → ℕ → Type 0 where
  copies : (i to from : ℕ) → IsSide i to from → Updated g i (copying g to from) to

pub made : (g : Global) (i v : ℕ) (k : Todo) → Spot g i k → WritesLater (swapping_later g) k v → Updated g i k v
unfolding out-Statement denote.Hole.Carrier.out
made g _ v _ (Spot.inits i to digit s) w = absurd (no_signal (swapping_later g) v w)
made g _ v _ Spot.loops w = absurd (no_signal (swapping_later g) v w)
made g _ v _ Spot.pauses w = absurd (no_signal (swapping_later g) v w)
made g _ v _ Spot.turns w = absurd (no_signal (swapping_later g) v w)
made g _ v _ (Spot.begins i to from s) w = absurd (no_signal (swapping_later g) v w)
made g _ v _ (Spot.listens i to from s) w = absurd (no_signal (swapping_later g) v w)
made g _ v _ (Spot.copies i to from s) w = subst (Updated g i (copying g to from)) (one_signal (swapping_later g) (slice_range (the_bit to)) v w) (Updated.copies i to from s)
made g _ v _ (Spot.rests i) w = absurd (no_signal (swapping_later g) v w)

-- in the first slot only what is set first is written
pub early_now : (g : Global) (i v : ℕ) (k : Todo) → Early g i k → WritesNow (swapping_later g) k v → (digit : Digit) × IsInit i v digit × (k ≡ setting g v digit)
unfolding out-Statement denote.Hole.Carrier.out
early_now g _ v _ (Early.inits i to digit s) w =
    subst (λ n. (d : Digit) × IsInit i n d × (setting g to digit ≡ setting g n d)) (one_signal (swapping_later g) (slice_range (the_bit to)) v w) (digit, s, refl)
early_now g _ v _ Early.loops w = absurd (no_signal (swapping_later g) v w)
early_now g _ v _ Early.pauses w = absurd (no_signal (swapping_later g) v w)
early_now g _ v _ (Early.begins i to from s) w = absurd (no_signal (swapping_later g) v w)
early_now g _ v _ (Early.listens i to from s) w = absurd (no_signal (swapping_later g) v w)
early_now g _ v _ (Early.rests i) w = absurd (no_signal (swapping_later g) v w)

pub early_later : (g : Global) (i v : ℕ) (k : Todo) → Early g i k → WritesLater (swapping_later g) k v → ⊥
unfolding out-Statement denote.Hole.Carrier.out
early_later g _ v _ (Early.inits i to digit s) w = no_signal (swapping_later g) v w
early_later g _ v _ Early.loops w = no_signal (swapping_later g) v w
early_later g _ v _ Early.pauses w = no_signal (swapping_later g) v w
early_later g _ v _ (Early.begins i to from s) w = no_signal (swapping_later g) v w
early_later g _ v _ (Early.listens i to from s) w = no_signal (swapping_later g) v w
early_later g _ v _ (Early.rests i) w = no_signal (swapping_later g) v w

pub early_any : (g : Global) (i v : ℕ) (k : Todo) → Early g i k → WritesAny (swapping_later g) k v → (digit : Digit) × IsInit i v digit × (k ≡ setting g v digit)
early_any g i v k s (inl w) = early_now g i v k s w
early_any g i v k s (inr w) = absurd (early_later g i v k s w)

early_reads : (g : Global) (i : ℕ) (k : Todo) (r : BitRange) → Early g i k → ReadsNow (swapping_later g) k r → ⊥
unfolding out-Statement denote.Hole.Carrier.out
early_reads g _ _ r (Early.inits i v digit s) h = none_in r (subst (λ rs. Contains rs r) (reads_number (digit ∷ [])) (reads_source (e.Number (digit ∷ [])) r h.0))
early_reads g _ _ r Early.loops h = none_in r h.0
early_reads g _ _ r Early.pauses h = none_in r h.0
early_reads g _ _ r (Early.begins i to from s) h = none_in r h.0
early_reads g _ _ r (Early.listens i to from s) h = none_in r h.0
early_reads g _ _ r (Early.rests i) h = none_in r h.0

-- the clock reads itself, and each side the other's signal
pub data Read : ℕ → BitRange → Type 0 where
  turns : Read 3 (whole 0)
  copies : (i to from : ℕ) → IsSide i to from → Read i (whole from)

read_at : (g : Global) (i : ℕ) (k : Todo) (r : BitRange) → Spot g i k → ReadsNow (swapping_later g) k r → Read i r
unfolding out-Statement denote.Hole.Carrier.out
read_at g _ _ r (Spot.inits i v digit s) h = absurd (none_in r (subst (λ rs. Contains rs r) (reads_number (digit ∷ [])) (reads_source (e.Number (digit ∷ [])) r h.0)))
read_at g _ _ r Spot.loops h = absurd (none_in r h.0)
read_at g _ _ r Spot.pauses h = absurd (none_in r h.0)
read_at g _ _ r Spot.turns h = subst (Read 3) (one_in (whole 0) r (subst (λ rs. Contains rs r) (reads_inverse g) (reads_source (inverse g) r h.0))) Read.turns
read_at g _ _ r (Spot.begins i to from s) h = absurd (none_in r h.0)
read_at g _ _ r (Spot.listens i to from s) h = absurd (none_in r h.0)
read_at g _ _ r (Spot.copies i to from s) h =
    subst (Read i) (one_in (whole from) r (subst (λ rs. Contains rs r) (reads_operand from) (reads_source (operand from) r h.0))) (Read.copies i to from s)
read_at g _ _ r (Spot.rests i) h = absurd (none_in r h.0)

pub needs : (g : Global) (grain : Grain) (i : ℕ) (k : Todo) (r : BitRange) → Spot g i k → Reads (swapping_later g) (swap_claims grain) k r → Read i r
needs g grain i k r s (inl h) = read_at g i k r s h
needs g grain i k r s (inr h) = absurd (false≢true h.0)

pub no_early_needs : (g : Global) (grain : Grain) (i : ℕ) (k : Todo) (r : BitRange) → Early g i k → Reads (swapping_later g) (swap_claims grain) k r → ⊥
no_early_needs g grain i k r s (inl h) = early_reads g i k r s h
no_early_needs g grain i k r s (inr h) = false≢true h.0

-- ---- its controls

pub record IsEvent (i : ℕ) (terms : List EventTerm) : Type 0 where
  pub to : ℕ
  pub from : ℕ
  pub side : IsSide i to from
  pub terms_are : rise ∷ [] ≡ terms

event_at : (g : Global) (i : ℕ) (k : Todo) (next : Next) → Way g i k next → (number : ℕ) (terms : List EventTerm) (l : Todo) → next ≡ wait number terms l → IsEvent i terms
event_at g _ _ _ (Way.inits i v digit s) number terms l e = cc
event_at g _ _ _ Way.loops number terms l e = cc
event_at g _ _ _ Way.pauses number terms l e = cc
event_at g _ _ _ Way.turns number terms l e = cc
event_at g _ _ _ (Way.begins i to from s) number terms l e = cc
event_at g _ _ _ (Way.listens i to from s) number terms l e = record { to = to; from = from; side = s; terms_are = cc }
event_at g _ _ _ (Way.copies i to from s) number terms l e = cc
event_at g _ _ _ (Way.rests i) number terms l e = cc

pub event : (g : Global) (i : ℕ) (k l : Todo) (number : ℕ) (terms : List EventTerm) → IsPoint (swapping_later g) i k → Goes k (wait number terms l) → IsEvent i terms
event g i k l number terms point h = event_at g i k (wait number terms l) (way_at g i k (wait number terms l) (spot_at g i k point) h) number terms l refl

pub record IsPause (i number ticks : ℕ) : Type 0 where
  pub process : i ≡ 3
  pub number_is : 1 ≡ number
  pub ticks_are : 5 ≡ ticks

pause_at : (g : Global) (i : ℕ) (k : Todo) (next : Next) → Way g i k next → (number ticks : ℕ) (l : Todo) → next ≡ after number ticks l → IsPause i number ticks
pause_at g _ _ _ (Way.inits i v digit s) number ticks l e = cc
pause_at g _ _ _ Way.loops number ticks l e = cc
pause_at g _ _ _ Way.pauses number ticks l e = record { process = refl; number_is = cc; ticks_are = cc }
pause_at g _ _ _ Way.turns number ticks l e = cc
pause_at g _ _ _ (Way.begins i to from s) number ticks l e = cc
pause_at g _ _ _ (Way.listens i to from s) number ticks l e = cc
pause_at g _ _ _ (Way.copies i to from s) number ticks l e = cc
pause_at g _ _ _ (Way.rests i) number ticks l e = cc

pub pause : (g : Global) (i : ℕ) (k l : Todo) (number ticks : ℕ) → Spot g i k → Goes k (after number ticks l) → IsPause i number ticks
pause g i k l number ticks s h = pause_at g i k (after number ticks l) (way_at g i k (after number ticks l) s h) number ticks l refl

-- its one event term
pub term_is : (g : Global) (i : ℕ) (t : EventTerm) → HasTerm (swapping_later g) i t → rise ≡ t
term_is g i t h = one_in rise t (subst (λ ts. Contains ts t) (sym (event g i h.control h.behind h.number h.terms h.point h.goes).terms_are) h.is)

has_rise : (g : Global) → HasTerm (swapping_later g) 4 rise
unfolding out-Statement denote.Hole.Carrier.out
has_rise g = record {
  control = listening g 1 2;
  number = 1;
  terms = rise ∷ [];
  behind = copying g 1 2;
  point = Point.goes_on (again g 1 2) (listening g 1 2) Point.begins (Among.first []);
  goes = Among.first [];
  is = (0, lit< tt, refl);
}

pub edge_signal : (g : Global) → IsEdgeSignal (swapping_later g) 0
edge_signal g = record { process = 4; term = rise; has = has_rise g; edge = refl; of = refl }

pub edge_signal_is : (g : Global) (v : ℕ) → IsEdgeSignal (swapping_later g) v → 0 ≡ v
edge_signal_is g v h = ap (λ (t : EventTerm). t.range.signal) (term_is g h.process h.term h.has) ∙ h.of

-- ---- numbers of processes

pub init_is : (i v : ℕ) (digit : Digit) → IsInit i v digit → (i ≡ v) × (v < 3)
init_is _ _ _ IsInit.sets_c = (refl, lit< tt)
init_is _ _ _ IsInit.sets_a = (refl, lit< tt)
init_is _ _ _ IsInit.sets_b = (refl, lit< tt)

pub side_is : (i to from : ℕ) → IsSide i to from → (i ≡ to + 3) × (0 < to) × (to < 3)
side_is _ _ _ IsSide.first_side = (refl, lit< tt, lit< tt)
side_is _ _ _ IsSide.second_side = (refl, lit< tt, lit< tt)

-- the first three processes have no control
pub init_plain : (g : Global) (i : ℕ) (k : Todo) (next : Next) → Way g i k next → i < 3 → is_plain next ≡ true
init_plain g _ _ _ (Way.inits i v digit s) small = refl
init_plain g _ _ _ Way.loops small = refl
init_plain g _ _ _ Way.pauses small = absurd (omega (arith, small))
init_plain g _ _ _ Way.turns small = refl
init_plain g _ _ _ (Way.begins i to from s) small = refl
init_plain g _ _ _ (Way.listens i to from s) small = let far = (side_is i to from s).0 in absurd (omega (arith, far, small))
init_plain g _ _ _ (Way.copies i to from s) small = refl
init_plain g _ _ _ (Way.rests i) small = refl

-- what a side reads the other side writes
pub read_is : (i to from : ℕ) → IsSide i to from → (0 < from) × (from < 3)
read_is _ _ _ IsSide.first_side = (lit< tt, lit< tt)
read_is _ _ _ IsSide.second_side = (lit< tt, lit< tt)

-- who writes what first, and who later
abbrev pub IsFirst : ℕ → ℕ → Type 0
IsFirst i v = (digit : Digit) × IsInit i v digit

pub data IsLater : ℕ → ℕ → Type 0 where
  turns : IsLater 3 0
  copies : (i to from : ℕ) → IsSide i to from → IsLater i to

pub wrote_who : (g : Global) (i v : ℕ) (k : Todo) → Wrote g i k v → (i < 3) ⊎ ((i ≡ 3) × (v ≡ 0) × (k ≡ turning g))
wrote_who g _ _ _ (Wrote.inits i v digit s) = let at = init_is i v digit s in let same = at.0 in let small = at.1 in inl (omega (arith, same, small))
wrote_who g _ _ _ Wrote.turns = inr (refl, refl, refl)

-- the writer of what a side writes has no `=` of it
pub side_now : (g : Global) (i v : ℕ) (k : Todo) → i ≡ v + 3 → 0 < v → (i < 3) ⊎ ((i ≡ 3) × (v ≡ 0) × (k ≡ turning g)) → ⊥
side_now g i v k far above (inl small) = omega (arith, far, small)
side_now g i v k far above (inr turn) = let none = turn.1 in omega (arith, above, none)

-- once the clock has turned, no time has gone by
pub turned_early : (g : Global) (i v : ℕ) (k : Todo) (next : Next) → i ≡ 3 → (i < 3) ⊎ ((i ≡ 3) × (v ≡ 0) × (k ≡ turning g)) → Goes k next → Early g i (todo_after next)
unfolding out-Statement denote.Hole.Carrier.out
turned_early g i v k next at (inl small) h = absurd (omega (arith, at, small))
turned_early g i v k next at (inr turn) h =
    subst (λ n. Early g n (todo_after next)) (sym at) (only (λ n. Early g 3 (todo_after n)) next _ (subst (λ l. Goes l next) turn.2 h) Early.loops)

pub made_who : (g : Global) (i v : ℕ) (k : Todo) → Updated g i k v → (i ≡ v + 3) × (0 < v)
made_who g _ _ _ (Updated.copies i to from s) = let at = side_is i to from s in (at.0, at.1)

-- ---- its texts

pub writes_init : (g : Global) (i v : ℕ) (digit : Digit) → IsInit i v digit → outputs (swapping_later g) i ≡ slice_range (the_bit v) ∷ []
writes_init g _ _ _ IsInit.sets_c = writes_assign 0 (target g 0) (e.Number (Zero ∷ []))
writes_init g _ _ _ IsInit.sets_a = writes_assign 0 (target g 1) (e.Number (Zero ∷ []))
writes_init g _ _ _ IsInit.sets_b = writes_assign 0 (target g 2) (e.Number (One ∷ []))

pub writes_clock : (g : Global) → outputs (swapping_later g) 3 ≡ slice_range (the_bit 0) ∷ []
writes_clock g = writes_forever g 0 (half g) ∙ writes_delay g 1 five (turned g) ∙ writes_assign 2 (target g 0) (inverse g)

writes_rise : (g : Global) (to from : ℕ) → statement_writes (each_rise g (copies_later g to from)) ≡ slice_range (the_bit to) ∷ []
writes_rise g to from =
    writes_forever g 0 (on_rise g (copies_later g to from)) ∙ writes_event g 1 (one_of g rise) (copies_later g to from) ∙ writes_later 2 no_ticks (target g to) (operand from)

pub writes_side : (g : Global) (i to from : ℕ) → IsSide i to from → outputs (swapping_later g) i ≡ slice_range (the_bit to) ∷ []
writes_side g _ _ _ IsSide.first_side = writes_rise g 1 2
writes_side g _ _ _ IsSide.second_side = writes_rise g 2 1

text_signal : (g : Global) (i q v : ℕ) → outputs (swapping_later g) i ≡ slice_range (the_bit q) ∷ [] → Writes (swapping_later g) i v → q ≡ v
text_signal g i q v text w = one_signal (swapping_later g) (slice_range (the_bit q)) v (subst (λ rs. ListsSignal (swapping_later g) rs v) text w)

pub signal_text : (g : Global) (i q : ℕ) → outputs (swapping_later g) i ≡ slice_range (the_bit q) ∷ [] → Writes (swapping_later g) i q
signal_text g i q text =
    subst (λ rs. ListsSignal (swapping_later g) rs q) (sym text) (record { range = slice_range (the_bit q); listed = ((0, lit< tt, refl), tt); of = refl })

pub written : (g : Global) (i v : ℕ) → Writes (swapping_later g) i v → IsLater i v ⊎ IsFirst i v
written g zero v w = inr (subst (IsFirst 0) (text_signal g 0 0 v (writes_init g 0 0 Zero IsInit.sets_c) w) (Zero, IsInit.sets_c))
written g (suc zero) v w = inr (subst (IsFirst 1) (text_signal g 1 1 v (writes_init g 1 1 Zero IsInit.sets_a) w) (Zero, IsInit.sets_a))
written g (suc (suc zero)) v w = inr (subst (IsFirst 2) (text_signal g 2 2 v (writes_init g 2 2 One IsInit.sets_b) w) (One, IsInit.sets_b))
written g (suc (suc (suc zero))) v w = inl (subst (IsLater 3) (text_signal g 3 0 v (writes_clock g) w) IsLater.turns)
written g (suc (suc (suc (suc zero)))) v w = inl (subst (IsLater 4) (text_signal g 4 1 v (writes_side g 4 1 2 IsSide.first_side) w) (IsLater.copies 4 1 2 IsSide.first_side))
written g (suc (suc (suc (suc (suc zero))))) v w = inl (subst (IsLater 5) (text_signal g 5 2 v (writes_side g 5 2 1 IsSide.second_side) w) (IsLater.copies 5 2 1 IsSide.second_side))
written g (suc (suc (suc (suc (suc (suc i)))))) v w = absurd (no_signal (swapping_later g) v w)

pub controls_3 : (g : Global) → controls_of (swapping_later g) 3 ≡ 1 ∷ []
controls_3 g = controls_forever g 0 (half g) ∙ controls_delay g 1 five (turned g) ∙ ap (λ ns. 1 ∷ ns) (controls_assign 2 (target g 0) (inverse g))

-- ---- its certificate

same_digit : (x z : ℕ) → process_in_t x ≡ process_in_t z → x ≡ z
same_digit x z e = cc

-- a process by the last character of its name
who : (g : Global) (digit i : ℕ) → names_process (Some (process_in_t digit)) (slice_get (swapping_later g).processes i) ≡ true → digit ≡ i + 48
who g digit zero h = same_digit digit 48 ((bytes_eq-Decides (process_in_t digit) (process_in_t 48)).0 h)
who g digit (suc zero) h = same_digit digit 49 ((bytes_eq-Decides (process_in_t digit) (process_in_t 49)).0 h)
who g digit (suc (suc zero)) h = same_digit digit 50 ((bytes_eq-Decides (process_in_t digit) (process_in_t 50)).0 h)
who g digit (suc (suc (suc zero))) h = same_digit digit 51 ((bytes_eq-Decides (process_in_t digit) (process_in_t 51)).0 h)
who g digit (suc (suc (suc (suc zero)))) h = same_digit digit 52 ((bytes_eq-Decides (process_in_t digit) (process_in_t 52)).0 h)
who g digit (suc (suc (suc (suc (suc zero))))) h = same_digit digit 53 ((bytes_eq-Decides (process_in_t digit) (process_in_t 53)).0 h)
who g digit (suc (suc (suc (suc (suc (suc i)))))) h = absurd (false≢true h)

pub writer_is : (g : Global) (grain : Grain) (v i : ℕ) → IsWriter (swapping_later g) (swap_claims grain) v i → i ≡ v + 3
writer_is g grain zero i h = let at = who g 51 i h in omega (arith, at)
writer_is g grain (suc zero) i h = let at = who g 52 i h in omega (arith, at)
writer_is g grain (suc (suc zero)) i h = let at = who g 53 i h in omega (arith, at)
writer_is g grain (suc (suc (suc v))) i h = absurd (false≢true h)

pub second_is : (g : Global) (grain : Grain) (v i : ℕ) → IsSecond (swapping_later g) (swap_claims grain) v i → i < 3
second_is g grain zero i h = let at = who g 48 i h in omega (arith, at)
second_is g grain (suc zero) i h = let at = who g 49 i h in omega (arith, at)
second_is g grain (suc (suc zero)) i h = let at = who g 50 i h in omega (arith, at)
second_is g grain (suc (suc (suc v))) i h = absurd (false≢true h)

pub is_writer : (g : Global) (grain : Grain) (i v : ℕ) → IsLater i v → IsWriter (swapping_later g) (swap_claims grain) v i
is_writer g grain _ _ IsLater.turns = refl
is_writer g grain _ _ (IsLater.copies i to from s) = side_writer i to from s
  where
    side_writer : (i to from : ℕ) → IsSide i to from → IsWriter (swapping_later g) (swap_claims grain) to i
    side_writer _ _ _ IsSide.first_side = refl
    side_writer _ _ _ IsSide.second_side = refl

pub is_second : (g : Global) (grain : Grain) (i v : ℕ) (digit : Digit) → IsInit i v digit → IsSecond (swapping_later g) (swap_claims grain) v i
is_second g grain _ _ _ IsInit.sets_c = refl
is_second g grain _ _ _ IsInit.sets_a = refl
is_second g grain _ _ _ IsInit.sets_b = refl

-- the lists of the residues
abbrev pub lists_of : ℕ → List (List ℕ)
lists_of (suc (suc (suc i))) = (0 ∷ 5 ∷ []) ∷ []
lists_of _ = []

edges_no_delays : (lists : List (List ℕ)) → Some Kind.edges ≡ Some (Kind.delays lists) → ⊥
edges_no_delays lists is = cc

pub lists_are : (g : Global) (grain : Grain) (i : ℕ) (lists : List (List ℕ)) → HasLists (swapping_later g) (swap_claims grain) i lists → (i < 4) × (lists_of i ≡ lists)
lists_are g grain zero lists is = (lit< tt, cc)
lists_are g grain (suc zero) lists is = (lit< tt, cc)
lists_are g grain (suc (suc zero)) lists is = (lit< tt, cc)
lists_are g grain (suc (suc (suc zero))) lists is = (lit< tt, cc)
lists_are g grain (suc (suc (suc (suc zero)))) lists is = absurd (edges_no_delays lists is)
lists_are g grain (suc (suc (suc (suc (suc zero))))) lists is = absurd (edges_no_delays lists is)
lists_are g grain (suc (suc (suc (suc (suc (suc i)))))) lists is = absurd (none-some (Kind.delays lists) is)

pub edge_is : (g : Global) (grain : Grain) (i : ℕ) → IsEdge (swapping_later g) (swap_claims grain) i → 3 < i
edge_is g grain zero is = absurd (edges_no_delays [] (sym is))
edge_is g grain (suc zero) is = absurd (edges_no_delays [] (sym is))
edge_is g grain (suc (suc zero)) is = absurd (edges_no_delays [] (sym is))
edge_is g grain (suc (suc (suc zero))) is = absurd (edges_no_delays ((0 ∷ 5 ∷ []) ∷ []) (sym is))
edge_is g grain (suc (suc (suc (suc i)))) is = omega (arith)

pub no_block : (g : Global) (grain : Grain) (i : ℕ) → IsBlock (swapping_later g) (swap_claims grain) i → ⊥
no_block g grain i h = by_number i h.0 h.1
  where
    by_number : (n : ℕ) (start : _) → kind_of (swapping_later g) (swap_claims grain) n ≡ Some (Kind.block start) → ⊥
    by_number zero start is = cc
    by_number (suc zero) start is = cc
    by_number (suc (suc zero)) start is = cc
    by_number (suc (suc (suc zero))) start is = cc
    by_number (suc (suc (suc (suc zero)))) start is = cc
    by_number (suc (suc (suc (suc (suc zero))))) start is = cc
    by_number (suc (suc (suc (suc (suc (suc n)))))) start is = none-some (Kind.block start) is

signal_is : (g : Global) (v : ℕ) → IsSignalNamed (swapping_later g) v (signal_in_t 99) → v ≡ 0
signal_is g zero is = refl
signal_is g (suc zero) is = absurd (other_name (signal_in_t 99) (Some (signal_in_t 97)) refl refl is)
signal_is g (suc (suc zero)) is = absurd (other_name (signal_in_t 99) (Some (signal_in_t 98)) refl refl is)
signal_is g (suc (suc (suc v))) is = absurd (none-some (signal_in_t 99) is)

pub root_is : (g : Global) (grain : Grain) (root v : ℕ) → IsRootOf (swapping_later g) (swap_claims grain) root v → (root ≡ 0) × (v ≡ 0)
root_is g grain root v h = at_place h.place h.is
  where
    at_place : (n : ℕ) → slice_get (swap_claims grain).edges n ≡ Some h.entry → (root ≡ 0) × (v ≡ 0)
    at_place zero is =
        let same : record { root = signal_in_t 99; signal = signal_in_t 99 } ≡ h.entry = same_Some _ h.entry is in (
          signal_is g root (subst (λ (x : EdgeClaim). IsSignalNamed (swapping_later g) root x.root) (sym same) h.root_is),
          signal_is g v (subst (λ (x : EdgeClaim). IsSignalNamed (swapping_later g) v x.signal) (sym same) h.signal),
        )
    at_place (suc n) is = absurd (none-some h.entry is)
