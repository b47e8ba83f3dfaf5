-- A design in which a process waits for an edge keeps the rules.
use Rattle.std.proofs.Common.{◌≡◌, ℕ, zero, suc, ◌%◌, ◌<◌, Bool, true, false, Some, List, [], ◌∷◌, length, slice_get, refl, sym, ◌∙◌, ap, subst, inl, inr, lit<, lit≤, arith}
use Rattle.std.proofs.lemmas.Bool.{false≢true}
use Rattle.std.proofs.lemmas.Option.{none-some, same_Some}
use Rattle.std.specs.declared.alloc.Global.{Global}
use Rattle.std.specs.List.{Contains}
use Rattle.vs_design.specs.vs_logic4.specs.declared.digit.Digit.TheVariants.{One}
use Rattle.vs_design.specs.declared.range.BitRange.{BitRange}
use Rattle.vs_design.specs.declared.statement.EventTerm.{EventTerm}
use Rattle.vs_design.specs.declared.statement.Statement.{out-Statement}
use Rattle.vs_design.specs.declared.expression.Typed.TheVariants as e
use Rattle.vs_design.specs.Uses.{slice_range, whole}
use Rattle.vs_independence.specs.vs_process.specs.declared.moves.Grain.{Grain}
use Rattle.vs_process.specs.Landings.{todo_after}
use Rattle.vs_process.specs.Places.{perform, Todo}
use Rattle.vs_process.specs.Steps.{Next, on, after, wait}
use Rattle.vs_rules.specs.vs_process.specs.BlockDrivers.{outputs}
use Rattle.vs_design.specs.declared.signal.SignalKind.TheVariants.{Reg}
use Rattle.vs_design.specs.vs_logic4.proofs.Basics.{one_in, none_in}
use Rattle.vs_laws.specs.Race.{bit, operand, set_to, target, the_bit}
use Rattle.vs_laws.specs.Rise.{copies_bit, copies_then, one_tick, rise, rising, sets_late, terms}
use Rattle.vs_laws.proofs.Race.{reads_number, reads_operand}
use Rattle.vs_laws.proofs.Rise.{rise_is_disciplined}
use Rattle.vs_rules.specs.Claims.{Mode, nonblocking, Name, EdgeClaim, Kind, blocking, private, all_names, claim_of, edge_names, edge_signals, process_names, signal_names, second_in, times_in, writer_in, IsSignalNamed, IsProcessNamed, IsWriter, IsSecond, HasLists, IsBlock, IsEdge, IsRootOf}
use Rattle.vs_rules.specs.Controls.{controls_of, list_of}
use Rattle.vs_rules.specs.Drivers.{Driver, assign, block as block_driver}
use Rattle.vs_rules.specs.Paths.{IsHot, IsPoint, IsPrologue, IsSlot0, ListsSignal, Path, ReadsNow, ShowsNow, Writes, WritesAny, WritesLater, WritesNow, HasTerm, is_plain, is_zero_time, reads_of}
use Rattle.vs_rules.specs.Points.{Among, Goes, Point, first_todo}
use Rattle.vs_rules.specs.Rules.{K1_Signal, K1_Assign, K1_Process, K1_Name, K2, K3, K4, K6, K7, K8, K9, K10_Signal, K10_Process, AreEdges, IsAsModeSays, IsOnlyIn, IsSoundRoot, IsEdgeSignal, IsOwnEdge, NeverNow, Reads}
use Rattle.vs_rules.specs.Copies.{CopiesRoot, itself}
use Rattle.vs_rules.specs.Blocks.{K5}
use Rattle.vs_rules.specs.Slots.{DelayEnds}
use Rattle.vs_rules.specs.Limits.{IsCertificate}
use Rattle.vs_rules.specs.Verdict.{Keeping, Keeps, KeepsAll, Rule, Subject, k1, k2, k3, k4, k5, k6, k7, k8, k9, k10, k11, number, signal, subjects}
use Rattle.vs_rules.proofs.Places.{closed_paths, closed_points}
use Rattle.vs_laws.specs.Names.{signal_in_t, process_in_t}
use Rattle.vs_laws.specs.RiseRules.{ARiseKeepsTheRules, AWrongModeIsReported, rise_claims}
use Rattle.vs_laws.proofs.Certificates.{lists_unmixed, none_mixed, one_list, sound_lists}
use Rattle.vs_laws.proofs.Kept.{keeps_rules, names_kept, writers_kept}
use Rattle.vs_laws.proofs.Texts.{controls_assign, controls_delay, differ, ends_there, no_signal, one_signal, only, other_name, plain_is_still, reads_assign, reads_delay, reads_event, reads_source, writes_assign, writes_delay, writes_event}

-- ---- its points

-- what is to be done: `#1 a = 1`, `a = 1`, `@(posedge a) b = a`, `b = a`
abbrev delayed : Global → Todo
delayed g = perform (sets_late g) ∷ []

abbrev set : Global → Todo
set g = perform (set_to g 1 One) ∷ []

abbrev listening : Global → Todo
listening g = perform (copies_then g) ∷ []

abbrev copying : Global → Todo
copying g = perform (copies_bit g) ∷ []

data Spot (g : Global) : ℕ → Todo → Type 0 where
  delays : Spot g 0 (delayed g)
  sets : Spot g 0 (set g)
  listens : Spot g 1 (listening g)
  copies : Spot g 1 (copying g)
  rests : (i : ℕ) → Spot g i []

-- the ways on from them
data Way (g : Global) : ℕ → Todo → Next → Type 0 where
  delays : Way g 0 (delayed g) (after 0 1 (set g))
  sets : Way g 0 (set g) (on [])
  listens : Way g 1 (listening g) (wait 0 (rise ∷ []) (copying g))
  copies : Way g 1 (copying g) (on [])
  rests : (i : ℕ) → Way g i [] (on [])

-- those of the first slot
data Early (g : Global) : ℕ → Todo → Type 0 where
  delays : Early g 0 (delayed g)
  listens : Early g 1 (listening g)
  rests : (i : ℕ) → Early g i []

-- those at which the first process runs later
data RunsLater (g : Global) : Todo → Type 0 where
  sets : RunsLater g (set g)
  rests : RunsLater g []

way_at : (g : Global) (i : ℕ) (k : Todo) (next : Next) → Spot g i k → Goes k next → Way g i k next
unfolding out-Statement denote.Hole.Carrier.out
way_at g _ _ next Spot.delays h = only (Way g 0 (delayed g)) next _ h Way.delays
way_at g _ _ next Spot.sets h = only (Way g 0 (set g)) next _ h Way.sets
way_at g _ _ next Spot.listens h = only (Way g 1 (listening g)) next _ h Way.listens
way_at g _ _ next Spot.copies h = only (Way g 1 (copying g)) next _ h Way.copies
way_at g _ _ next (Spot.rests i) h = only (Way g i []) next _ h (Way.rests i)

spot_behind : (g : Global) (i : ℕ) (k : Todo) (next : Next) → Way g i k next → Spot g i (todo_after next)
spot_behind g _ _ _ Way.delays = Spot.sets
spot_behind g _ _ _ Way.sets = Spot.rests 0
spot_behind g _ _ _ Way.listens = Spot.copies
spot_behind g _ _ _ Way.copies = Spot.rests 1
spot_behind g _ _ _ (Way.rests i) = Spot.rests i

abbrev RestSpot : Global → ℕ → Todo → Type 0
RestSpot g i [] = Unit {0}
RestSpot g i (x ∷ rest) = Spot g i rest

spot_rest : (g : Global) (i : ℕ) (k : Todo) → Spot g i k → RestSpot g i k
spot_rest g _ _ Spot.delays = Spot.rests 0
spot_rest g _ _ Spot.sets = Spot.rests 0
spot_rest g _ _ Spot.listens = Spot.rests 1
spot_rest g _ _ Spot.copies = Spot.rests 1
spot_rest g _ _ (Spot.rests i) = tt

first_spot : (g : Global) (i : ℕ) → Spot g i (first_todo (rising g) i)
unfolding out-Statement denote.Hole.Carrier.out
first_spot g zero = Spot.delays
first_spot g (suc zero) = Spot.listens
first_spot g (suc (suc i)) = Spot.rests (suc (suc i))

spot_at : (g : Global) (i : ℕ) (k : Todo) → IsPoint (rising g) i k → Spot g i k
spot_at g i k point =
    closed_points (Spot g i) (first_todo (rising g) i) (first_spot g i) (λ l next s h. spot_behind g i l next (way_at g i l next s h)) (λ x rest s. spot_rest g i (x ∷ rest) s) k point

-- ---- the first slot

first_early : (g : Global) (i : ℕ) → Early g i (first_todo (rising g) i)
unfolding out-Statement denote.Hole.Carrier.out
first_early g zero = Early.delays
first_early g (suc zero) = Early.listens
first_early g (suc (suc i)) = Early.rests (suc (suc i))

early_spot : (g : Global) (i : ℕ) (k : Todo) → Early g i k → Spot g i k
early_spot g _ _ Early.delays = Spot.delays
early_spot g _ _ Early.listens = Spot.listens
early_spot g _ _ (Early.rests i) = Spot.rests i

early_behind : (g : Global) (i : ℕ) (k : Todo) (next : Next) → Way g i k next → is_zero_time next ≡ true → Early g i (todo_after next)
early_behind g _ _ _ Way.delays still = absurd (false≢true still)
early_behind g _ _ _ Way.sets still = Early.rests 0
early_behind g _ _ _ Way.listens still = absurd (false≢true still)
early_behind g _ _ _ Way.copies still = Early.rests 1
early_behind g _ _ _ (Way.rests i) still = Early.rests i

-- where paths that take no time lead from the start
early_path : (g : Global) (i : ℕ) (k : Todo) (ok : Next → Bool) → ((next : Next) → ok next ≡ true → is_zero_time next ≡ true) → Path ok (first_todo (rising g) i) k → Early g i k
early_path g i k ok still path =
    closed_paths (Early g i) ok (first_todo (rising g) i) (first_early g i) (λ l next s h may. early_behind g i l next (way_at g i l next (early_spot g i l s) h) (still next may)) k path

early_at : (g : Global) (i : ℕ) (k : Todo) → IsSlot0 (rising g) false i k → Early g i k
early_at g i k path = early_path g i k is_zero_time (λ next may. may) path

prologue_at : (g : Global) (i : ℕ) (k : Todo) → IsPrologue (rising g) false i k → Early g i k
prologue_at g i k path = early_path g i k is_plain plain_is_still path

early_now : (g : Global) (i v : ℕ) (k : Todo) → Early g i k → WritesNow (rising g) k v → ⊥
unfolding out-Statement denote.Hole.Carrier.out
early_now g _ v _ Early.delays w = no_signal (rising g) v w
early_now g _ v _ Early.listens w = no_signal (rising g) v w
early_now g _ v _ (Early.rests i) w = no_signal (rising g) v w

early_reads : (g : Global) (i : ℕ) (k : Todo) (r : BitRange) → Early g i k → ReadsNow (rising g) k r → ⊥
unfolding out-Statement denote.Hole.Carrier.out
early_reads g _ _ r Early.delays h = none_in r h.0
early_reads g _ _ r Early.listens h = none_in r h.0
early_reads g _ _ r (Early.rests i) h = none_in r h.0

-- ---- what is done at its points

-- two of them write by `=`
data Wrote (g : Global) : ℕ → Todo → ℕ → Type 0 where
  sets : Wrote g 0 (set g) 0
  copies : Wrote g 1 (copying g) 1

wrote : (g : Global) (i v : ℕ) (k : Todo) → Spot g i k → WritesNow (rising g) k v → Wrote g i k v
unfolding out-Statement denote.Hole.Carrier.out
wrote g _ v _ Spot.delays w = absurd (no_signal (rising g) v w)
wrote g _ v _ Spot.sets w = subst (Wrote g 0 (set g)) (one_signal (rising g) (slice_range (the_bit 0)) v w) Wrote.sets
wrote g _ v _ Spot.listens w = absurd (no_signal (rising g) v w)
wrote g _ v _ Spot.copies w = subst (Wrote g 1 (copying g)) (one_signal (rising g) (slice_range (the_bit 1)) v w) Wrote.copies
wrote g _ v _ (Spot.rests i) w = absurd (no_signal (rising g) v w)

-- none by `<=`
updates : (g : Global) (i v : ℕ) (k : Todo) → Spot g i k → WritesLater (rising g) k v → ⊥
unfolding out-Statement denote.Hole.Carrier.out
updates g _ v _ Spot.delays w = no_signal (rising g) v w
updates g _ v _ Spot.sets w = no_signal (rising g) v w
updates g _ v _ Spot.listens w = no_signal (rising g) v w
updates g _ v _ Spot.copies w = no_signal (rising g) v w
updates g _ v _ (Spot.rests i) w = no_signal (rising g) v w

early_any : (g : Global) (i v : ℕ) (k : Todo) → Early g i k → WritesAny (rising g) k v → ⊥
early_any g i v k s (inl w) = early_now g i v k s w
early_any g i v k s (inr w) = updates g i v k (early_spot g i k s) w

-- each is the last thing that is done
wrote_last : (g : Global) (i v : ℕ) (k : Todo) (next : Next) → Wrote g i k v → Goes k next → todo_after next ≡ []
unfolding out-Statement denote.Hole.Carrier.out
wrote_last g _ _ _ next Wrote.sets h = only (λ n. todo_after n ≡ []) next _ h refl
wrote_last g _ _ _ next Wrote.copies h = only (λ n. todo_after n ≡ []) next _ h refl

-- one reads
data Read (g : Global) : ℕ → Todo → BitRange → Type 0 where
  copies : Read g 1 (copying g) (whole 0)

read_at : (g : Global) (i : ℕ) (k : Todo) (r : BitRange) → Spot g i k → ReadsNow (rising g) k r → Read g i k r
unfolding out-Statement denote.Hole.Carrier.out
read_at g _ _ r Spot.delays h = absurd (none_in r h.0)
read_at g _ _ r Spot.sets h = absurd (none_in r (subst (λ rs. Contains rs r) (reads_number (One ∷ [])) (reads_source (e.Number (One ∷ [])) r h.0)))
read_at g _ _ r Spot.listens h = absurd (none_in r h.0)
read_at g _ _ r Spot.copies h = subst (Read g 1 (copying g)) (one_in (whole 0) r (subst (λ rs. Contains rs r) (reads_operand 0) (reads_source (operand 0) r h.0))) Read.copies
read_at g _ _ r (Spot.rests i) h = absurd (none_in r h.0)

-- none is a `$display`
shows : (g : Global) (i : ℕ) (k : Todo) (r : BitRange) → Spot g i k → ShowsNow (rising g) k r → ⊥
unfolding out-Statement denote.Hole.Carrier.out
shows g _ _ r Spot.delays h = none_in r h.0
shows g _ _ r Spot.sets h = none_in r h.0
shows g _ _ r Spot.listens h = none_in r h.0
shows g _ _ r Spot.copies h = none_in r h.0
shows g _ _ r (Spot.rests i) h = none_in r h.0

needs : (g : Global) (mode : Mode) (grain : Grain) (i : ℕ) (k : Todo) (r : BitRange) → Spot g i k → Reads (rising g) (rise_claims mode grain) k r → Read g i k r
needs g mode grain i k r s (inl h) = read_at g i k r s h
needs g mode grain i k r s (inr h) = absurd (shows g i k r s h.1)

no_early_needs : (g : Global) (mode : Mode) (grain : Grain) (i : ℕ) (k : Todo) (r : BitRange) → Early g i k → Reads (rising g) (rise_claims mode grain) k r → ⊥
no_early_needs g mode grain i k r s (inl h) = early_reads g i k r s h
no_early_needs g mode grain i k r s (inr h) = shows g i k r (early_spot g i k s) h.1

-- ---- its controls

record IsEvent (i : ℕ) (terms : List EventTerm) : Type 0 where
  process : i ≡ 1
  terms_are : rise ∷ [] ≡ terms

event_at : (g : Global) (i : ℕ) (k : Todo) (next : Next) → Way g i k next → (number : ℕ) (terms : List EventTerm) (l : Todo) → next ≡ wait number terms l → IsEvent i terms
event_at g _ _ _ Way.delays number terms l e = cc
event_at g _ _ _ Way.sets number terms l e = cc
event_at g _ _ _ Way.listens number terms l e = record { process = refl; terms_are = cc }
event_at g _ _ _ Way.copies number terms l e = cc
event_at g _ _ _ (Way.rests i) number terms l e = cc

event : (g : Global) (i : ℕ) (k l : Todo) (number : ℕ) (terms : List EventTerm) → IsPoint (rising g) i k → Goes k (wait number terms l) → IsEvent i terms
event g i k l number terms point h = event_at g i k (wait number terms l) (way_at g i k (wait number terms l) (spot_at g i k point) h) number terms l refl

record IsPause (i number ticks : ℕ) : Type 0 where
  process : i ≡ 0
  number_is : 0 ≡ number
  ticks_are : 1 ≡ ticks

pause_at : (g : Global) (i : ℕ) (k : Todo) (next : Next) → Way g i k next → (number ticks : ℕ) (l : Todo) → next ≡ after number ticks l → IsPause i number ticks
pause_at g _ _ _ Way.delays number ticks l e = record { process = refl; number_is = cc; ticks_are = cc }
pause_at g _ _ _ Way.sets number ticks l e = cc
pause_at g _ _ _ Way.listens number ticks l e = cc
pause_at g _ _ _ Way.copies number ticks l e = cc
pause_at g _ _ _ (Way.rests i) number ticks l e = cc

pause : (g : Global) (i : ℕ) (k l : Todo) (number ticks : ℕ) → Spot g i k → Goes k (after number ticks l) → IsPause i number ticks
pause g i k l number ticks s h = pause_at g i k (after number ticks l) (way_at g i k (after number ticks l) s h) number ticks l refl

-- its one event term
term_is : (g : Global) (i : ℕ) (t : EventTerm) → HasTerm (rising g) i t → (i ≡ 1) × (rise ≡ t)
term_is g i t h =
    let there = event g i h.control h.behind h.number h.terms h.point h.goes in
    (there.process, one_in rise t (subst (λ ts. Contains ts t) (sym there.terms_are) h.is))

has_rise : (g : Global) → HasTerm (rising g) 1 rise
unfolding out-Statement denote.Hole.Carrier.out
has_rise g = record {
  control = listening g;
  number = 0;
  terms = rise ∷ [];
  behind = copying g;
  point = Point.begins;
  goes = Among.first [];
  is = (0, lit< tt, refl);
}

edge_signal : (g : Global) → IsEdgeSignal (rising g) 0
edge_signal g = record { process = 1; term = rise; has = has_rise g; edge = refl; of = refl }

edge_signal_is : (g : Global) (v : ℕ) → IsEdgeSignal (rising g) v → 0 ≡ v
edge_signal_is g v h = ap (λ (t : EventTerm). t.range.signal) (term_is g h.process h.term h.has).1 ∙ h.of

-- the number of its one delay control
controls : (g : Global) → controls_of (rising g) 0 ≡ 0 ∷ []
controls g = controls_delay g 0 one_tick (set_to g 1 One) ∙ ap (λ ns. 0 ∷ ns) (controls_assign 1 (target g 0) (e.Number (One ∷ [])))

-- once it has ended no control stands
behind_pause : (g : Global) (k : Todo) → Path is_plain (set g) k → RunsLater g k
unfolding out-Statement denote.Hole.Carrier.out
behind_pause g k path = closed_paths (RunsLater g) is_plain (set g) RunsLater.sets (λ l next s h may. goes_on l next s h) k path
  where
    goes_on : (l : Todo) (next : Next) → RunsLater g l → Goes l next → RunsLater g (todo_after next)
    goes_on _ next RunsLater.sets h = only (λ n. RunsLater g (todo_after n)) next _ h RunsLater.rests
    goes_on _ next RunsLater.rests h = only (λ n. RunsLater g (todo_after n)) next _ h RunsLater.rests

behind_plain : (g : Global) (k : Todo) (next : Next) → RunsLater g k → Goes k next → on [] ≡ next
unfolding out-Statement denote.Hole.Carrier.out
behind_plain g _ next RunsLater.sets h = only (λ n. on [] ≡ n) next _ h refl
behind_plain g _ next RunsLater.rests h = only (λ n. on [] ≡ n) next _ h refl

runs_behind : (g : Global) (i : ℕ) (c k : Todo) (next : Next) → Way g i c next → (lists : List (List ℕ)) (r : ℕ) → DelayEnds (rising g) i lists next r → Path is_plain (todo_after next) k → RunsLater g k
runs_behind g _ _ k _ Way.delays lists r ends path = behind_pause g k path
runs_behind g _ _ k _ Way.sets lists r ends path = absurd ends
runs_behind g _ _ k _ Way.listens lists r ends path = absurd ends
runs_behind g _ _ k _ Way.copies lists r ends path = absurd ends
runs_behind g _ _ k _ (Way.rests i) lists r ends path = absurd ends

-- ---- its texts

-- who writes what
data Written : ℕ → ℕ → Type 0 where
  first : Written 0 0
  second : Written 1 1

writes_first : (g : Global) → outputs (rising g) 0 ≡ slice_range (the_bit 0) ∷ []
writes_first g = writes_delay g 0 one_tick (set_to g 1 One) ∙ writes_assign 1 (target g 0) (e.Number (One ∷ []))

writes_second : (g : Global) → outputs (rising g) 1 ≡ slice_range (the_bit 1) ∷ []
writes_second g = writes_event g 0 (terms g) (copies_bit g) ∙ writes_assign 1 (target g 1) (operand 0)

written : (g : Global) (i v : ℕ) → Writes (rising g) i v → Written i v
written g zero v w = subst (Written 0) (one_signal (rising g) (slice_range (the_bit 0)) v (subst (λ rs. ListsSignal (rising g) rs v) (writes_first g) w)) Written.first
written g (suc zero) v w = subst (Written 1) (one_signal (rising g) (slice_range (the_bit 1)) v (subst (λ rs. ListsSignal (rising g) rs v) (writes_second g) w)) Written.second
written g (suc (suc i)) v w = absurd (no_signal (rising g) v w)

one_listed : (g : Global) (r : BitRange) → ListsSignal (rising g) (r ∷ []) r.signal
one_listed g r = record { range = r; listed = ((0, lit< tt, refl), tt); of = refl }

first_writes : (g : Global) → Writes (rising g) 0 0
first_writes g = subst (λ rs. ListsSignal (rising g) rs 0) (sym (writes_first g)) (one_listed g (slice_range (the_bit 0)))

second_writes : (g : Global) → Writes (rising g) 1 1
second_writes g = subst (λ rs. ListsSignal (rising g) rs 1) (sym (writes_second g)) (one_listed g (slice_range (the_bit 1)))

reads_first : (g : Global) → reads_of (rising g) 0 ≡ []
reads_first g = reads_delay g 0 one_tick (set_to g 1 One) ∙ reads_assign 1 (target g 0) (e.Number (One ∷ [])) ∙ rw reads_number refl

reads_second : (g : Global) → reads_of (rising g) 1 ≡ whole 0 ∷ []
reads_second g = reads_event g 0 (terms g) (copies_bit g) ∙ reads_assign 1 (target g 1) (operand 0) ∙ rw reads_operand refl

-- nobody reads `b`
unread : (g : Global) (i : ℕ) → ListsSignal (rising g) (reads_of (rising g) i) 1 → ⊥
unread g zero h = no_signal (rising g) 1 (subst (λ rs. ListsSignal (rising g) rs 1) (reads_first g) h)
unread g (suc zero) h = absurd (differ 0 1 refl (one_signal (rising g) (whole 0) 1 (subst (λ rs. ListsSignal (rising g) rs 1) (reads_second g) h)))
unread g (suc (suc i)) h = no_signal (rising g) 1 h

-- ---- its certificate

writer_is : (g : Global) (mode : Mode) (grain : Grain) (v i : ℕ) → IsWriter (rising g) (rise_claims mode grain) v i → Written i v
writer_is g mode grain zero zero h = Written.first
writer_is g mode grain zero (suc zero) h = absurd (false≢true h)
writer_is g mode grain zero (suc (suc i)) h = absurd (false≢true h)
writer_is g mode grain (suc zero) zero h = absurd (false≢true h)
writer_is g mode grain (suc zero) (suc zero) h = Written.second
writer_is g mode grain (suc zero) (suc (suc i)) h = absurd (false≢true h)
writer_is g mode grain (suc (suc v)) i h = absurd (false≢true h)

is_writer : (g : Global) (mode : Mode) (grain : Grain) (v i : ℕ) → Written i v → IsWriter (rising g) (rise_claims mode grain) v i
is_writer g mode grain _ _ Written.first = refl
is_writer g mode grain _ _ Written.second = refl

no_second : (g : Global) (mode : Mode) (grain : Grain) (v i : ℕ) → IsSecond (rising g) (rise_claims mode grain) v i → ⊥
no_second g mode grain zero i h = false≢true h
no_second g mode grain (suc zero) i h = false≢true h
no_second g mode grain (suc (suc v)) i h = false≢true h

no_block : (g : Global) (mode : Mode) (grain : Grain) (i : ℕ) → IsBlock (rising g) (rise_claims mode grain) i → ⊥
no_block g mode grain zero h = let e = h.1 in cc
no_block g mode grain (suc zero) h = let e = h.1 in cc
no_block g mode grain (suc (suc i)) h = none-some (Kind.block h.0) h.1

edge_is : (g : Global) (mode : Mode) (grain : Grain) (i : ℕ) → IsEdge (rising g) (rise_claims mode grain) i → i ≡ 1
edge_is g mode grain zero e = cc
edge_is g mode grain (suc zero) e = refl
edge_is g mode grain (suc (suc i)) e = absurd (none-some Kind.edges e)

lists_are : (g : Global) (mode : Mode) (grain : Grain) (i : ℕ) (lists : List (List ℕ)) → HasLists (rising g) (rise_claims mode grain) i lists → (i ≡ 0) × ((1 ∷ []) ∷ [] ≡ lists)
lists_are g mode grain zero lists e = (refl, cc)
lists_are g mode grain (suc zero) lists e = cc
lists_are g mode grain (suc (suc i)) lists e = absurd (none-some (Kind.delays lists) e)

signal_is : (g : Global) (v : ℕ) → IsSignalNamed (rising g) v (signal_in_t 97) → v ≡ 0
signal_is g zero is = refl
signal_is g (suc zero) is = absurd (other_name (signal_in_t 97) (Some (signal_in_t 98)) refl refl is)
signal_is g (suc (suc v)) is = absurd (none-some (signal_in_t 97) is)

root_is : (g : Global) (mode : Mode) (grain : Grain) (root v : ℕ) → IsRootOf (rising g) (rise_claims mode grain) root v → (root ≡ 0) × (v ≡ 0)
root_is g mode grain root v h = at_place h.place h.is
  where
    at_place : (n : ℕ) → slice_get (rise_claims mode grain).edges n ≡ Some h.entry → (root ≡ 0) × (v ≡ 0)
    at_place zero is =
        let same : record { root = signal_in_t 97; signal = signal_in_t 97 } ≡ h.entry = same_Some _ h.entry is in (
          signal_is g root (subst (λ (x : EdgeClaim). IsSignalNamed (rising g) root x.root) (sym same) h.root_is),
          signal_is g v (subst (λ (x : EdgeClaim). IsSignalNamed (rising g) v x.signal) (sym same) h.signal),
        )
    at_place (suc n) is = absurd (none-some h.entry is)

-- ---- the rules

abbrev Listed : Mode → Grain → Name → Type 0
Listed mode grain name = IsOnlyIn name (signal_names (rise_claims mode grain)) [] (process_names (rise_claims mode grain))

names_signals : (g : Global) (mode : Mode) (grain : Grain) (v : ℕ) → K1_Signal (rising g) (rise_claims mode grain) v
names_signals g mode grain zero name is = subst (Listed mode grain) (same_Some (signal_in_t 97) name is) (record { once = refl; nowhere = refl; nowhere_else = refl })
names_signals g mode grain (suc zero) name is = subst (Listed mode grain) (same_Some (signal_in_t 98) name is) (record { once = refl; nowhere = refl; nowhere_else = refl })
names_signals g mode grain (suc (suc v)) name is = absurd (none-some name is)

no_assign : (g : Global) (mode : Mode) (grain : Grain) (j : ℕ) → K1_Assign (rising g) (rise_claims mode grain) j
no_assign g mode grain j = record { listed = λ name is. absurd (none-some name is); no_edge = λ name is. absurd (none-some name is) }

abbrev ListedProcess : Mode → Grain → Name → Type 0
ListedProcess mode grain name = IsOnlyIn name (process_names (rise_claims mode grain)) (signal_names (rise_claims mode grain)) (edge_names (rise_claims mode grain))

names_processes : (g : Global) (mode : Mode) (grain : Grain) (i : ℕ) → K1_Process (rising g) (rise_claims mode grain) i
names_processes g mode grain i = record {
  listed = λ name is. listed_at i name is;
  block_ordered = λ name is blk. absurd (no_block g mode grain i blk);
  not_ordered = λ name is other. refl;
}
  where
    listed_at : (n : ℕ) (name : Name) → IsProcessNamed (rising g) n name → ListedProcess mode grain name
    listed_at zero name is = subst (ListedProcess mode grain) (same_Some (process_in_t 48) name is) (record { once = refl; nowhere = refl; nowhere_else = refl })
    listed_at (suc zero) name is = subst (ListedProcess mode grain) (same_Some (process_in_t 49) name is) (record { once = refl; nowhere = refl; nowhere_else = refl })
    listed_at (suc (suc n)) name is = absurd (none-some name is)

names_known : (g : Global) (mode : Mode) (grain : Grain) (n : ℕ) (name : Name) → slice_get (all_names (rise_claims mode grain)) n ≡ Some name → K1_Name (rising g) (rise_claims mode grain) name
names_known g mode grain zero name is = subst (K1_Name (rising g) (rise_claims mode grain)) (same_Some (signal_in_t 97) name is) (inl (0, refl))
names_known g mode grain (suc zero) name is = subst (K1_Name (rising g) (rise_claims mode grain)) (same_Some (signal_in_t 97) name is) (inl (0, refl))
names_known g mode grain (suc (suc zero)) name is = subst (K1_Name (rising g) (rise_claims mode grain)) (same_Some (process_in_t 48) name is) (inr (inr (0, refl)))
names_known g mode grain (suc (suc (suc zero))) name is = subst (K1_Name (rising g) (rise_claims mode grain)) (same_Some (process_in_t 49) name is) (inr (inr (1, refl)))
names_known g mode grain (suc (suc (suc (suc zero)))) name is = subst (K1_Name (rising g) (rise_claims mode grain)) (same_Some (signal_in_t 97) name is) (inl (0, refl))
names_known g mode grain (suc (suc (suc (suc (suc zero))))) name is = subst (K1_Name (rising g) (rise_claims mode grain)) (same_Some (signal_in_t 98) name is) (inl (1, refl))
names_known g mode grain (suc (suc (suc (suc (suc (suc n)))))) name is = absurd (none-some name is)

writers : (g : Global) (mode : Mode) (grain : Grain) (v : ℕ) → K2 (rising g) (rise_claims mode grain) v
writers g mode grain v = record {
  named = λ i w. inl (is_writer g mode grain v i (written g i v w));
  writer_writes = λ name is. writes_at v name is;
  second_writes = λ name is. absurd (none_named v name is);
  no_block = λ i j is blk w. no_second g mode grain v i is;
  early = λ i k is point w late. no_second g mode grain v i is;
  first_alone = λ i j l is writer slot w. no_second g mode grain v i is;
  first_alone_later = λ i j k l is point w writer slot more. no_second g mode grain v i is;
}
  where
    writes_at : (n : ℕ) (name : Name) → writer_in (claim_of (rising g) (rise_claims mode grain) n) ≡ Some name → (i : ℕ) × IsWriter (rising g) (rise_claims mode grain) n i × Writes (rising g) i n
    writes_at zero name is = (0, refl, first_writes g)
    writes_at (suc zero) name is = (1, refl, second_writes g)
    writes_at (suc (suc n)) name is = absurd (none-some name is)

    none_named : (n : ℕ) (name : Name) → second_in (claim_of (rising g) (rise_claims mode grain) n) ≡ Some name → ⊥
    none_named zero name is = none-some name is
    none_named (suc zero) name is = none-some name is
    none_named (suc (suc n)) name is = none-some name is

root_mode : (g : Global) (mode : Mode) (grain : Grain) → K3 (rising g) (rise_claims mode grain) 0
root_mode g mode grain claimed is =
    subst (IsAsModeSays (rising g) (rise_claims mode grain) 0) (same_Some blocking claimed is)
    (0, refl, (inl ((1 ∷ []) ∷ [], refl), λ k point w. updates g 0 0 k (spot_at g 0 k point) w))

modes : (g : Global) (grain : Grain) (v : ℕ) → K3 (rising g) (rise_claims private grain) v
modes g grain zero claimed is = root_mode g private grain claimed is
modes g grain (suc zero) claimed is =
    subst (IsAsModeSays (rising g) (rise_claims private grain) 1) (same_Some private claimed is) (
      1,
      refl,
      (
        inl refl,
        record {
          processes = λ j listed. absurd (unread g j listed);
          assigns = λ j a is_at listed. none-some a is_at;
          terms = λ j t has of. absurd (differ 0 1 refl (ap (λ (t : EventTerm). t.range.signal) (term_is g j t has).1 ∙ of));
        },
      ),
    )
modes g grain (suc (suc v)) claimed is = absurd (none-some claimed is)

order : (g : Global) (mode : Mode) (grain : Grain) (x : Driver) → K4 (rising g) (rise_claims mode grain) x
order g mode grain (assign j) = record {
  known = λ r is reads. absurd (none-some reads.0 reads.1);
  earlier = λ r b y is reads bit has other writes. absurd (none-some reads.0 reads.1);
}
order g mode grain (block_driver i) = record {
  known = λ r is reads. absurd (no_block g mode grain i is);
  earlier = λ r b y is reads bit has other writes. absurd (no_block g mode grain i is);
}

blocks : (g : Global) (mode : Mode) (grain : Grain) (i : ℕ) → K5 (rising g) (rise_claims mode grain) i
blocks g mode grain i = record {
  grain = λ blk. absurd (no_block g mode grain i blk);
  shape = λ p blk is. absurd (no_block g mode grain i blk);
  quiet = λ k blk point. absurd (no_block g mode grain i blk);
  covered = λ r b blk l s h. absurd (no_block g mode grain i blk);
  before_reads = λ b k r blk is w u n same. no_block g mode grain i blk;
  before_end = λ b k next blk is w u goes pauses. no_block g mode grain i blk;
}

copies_root : (g : Global) (mode : Mode) (grain : Grain) (root v : ℕ) → IsRootOf (rising g) (rise_claims mode grain) root v → CopiesRoot (rising g) false root v
copies_root g mode grain root v h =
    let at = root_is g mode grain root v h in
    subst (λ n. CopiesRoot (rising g) false n v) (sym at.0) (subst (CopiesRoot (rising g) false 0) (sym at.1) (itself (bit g 97 Reg, refl, refl, refl, refl)))

sound_root : (g : Global) (mode : Mode) (grain : Grain) → IsSoundRoot (rising g) (rise_claims mode grain) 0
sound_root g mode grain = record {
  variable = (bit g 97 Reg, refl, refl);
  mode = refl;
  writer = (0, refl, ((1 ∷ []) ∷ [], refl));
  once = λ i k writer point w hot. never_hot i k w hot;
}
  where
    -- a way from the write of `a` leads to the end, where nothing is written
    never_hot : (i : ℕ) (k : Todo) → WritesAny (rising g) k 0 → IsHot (rising g) false i 0 k → ⊥
    never_hot i k w hot =
        let last : todo_after hot.next ≡ [] = wrote_last g i 0 hot.at hot.next (wrote g i 0 hot.at (spot_at g i hot.at hot.point) hot.starts) hot.goes in
        let over : k ≡ [] = ends_there is_zero_time k (subst (λ l. Path is_zero_time l k) last hot.path) in
        early_any g i 0 [] (Early.rests i) (subst (λ l. WritesAny (rising g) l 0) over w)

roots : (g : Global) (mode : Mode) (grain : Grain) (v : ℕ) → K6 (rising g) (rise_claims mode grain) v
roots g mode grain v = record {
  one_entry = λ name is edge. entry_at v name is (edge_signal_is g v edge);
  no_entry = λ name is none. no_entry_at v name is none;
  copies = λ root is. copies_root g mode grain root v is;
  root = λ root is. subst (IsSoundRoot (rising g) (rise_claims mode grain)) (sym (root_is g mode grain root v is).0) (sound_root g mode grain);
}
  where
    Once : Name → Type 0
    Once name = times_in name (edge_signals (rise_claims mode grain)) ≡ 1

    Never : Name → Type 0
    Never name = times_in name (edge_signals (rise_claims mode grain)) ≡ 0

    entry_at : (n : ℕ) (name : Name) → IsSignalNamed (rising g) n name → 0 ≡ n → Once name
    entry_at zero name is at = subst Once (same_Some (signal_in_t 97) name is) refl
    entry_at (suc n) name is at = cc

    no_entry_at : (n : ℕ) (name : Name) → IsSignalNamed (rising g) n name → (IsEdgeSignal (rising g) n → ⊥) → Never name
    no_entry_at zero name is none = absurd (none (edge_signal g))
    no_entry_at (suc zero) name is none = subst Never (same_Some (signal_in_t 98) name is) refl
    no_entry_at (suc (suc n)) name is none = absurd (none-some name is)

waits : (g : Global) (mode : Mode) (grain : Grain) (i : ℕ) → K7 (rising g) (rise_claims mode grain) i
waits g mode grain i = record {
  events = λ k l number ts edge point goes. subst AreEdges (event g i k l number ts point goes).terms_are refl;
  no_delay = λ k l number ticks edge point goes.
      absurd (differ 0 1 refl (sym (pause g i k l number ticks (spot_at g i k point) goes).process ∙ edge_is g mode grain i edge));
  one_signal = λ t u root edge has also is is_too.
      ap (λ (t : EventTerm). t.range.signal) (sym (term_is g i t has).1 ∙ (term_is g i u also).1);
  apart = λ one other r edge fires fires_too.
      (root_is g mode grain one fires.term.range.signal fires.is_root).0 ∙ sym (root_is g mode grain other fires_too.term.range.signal fires_too.is_root).0;
  arrives = λ lists delay event r is a b e. none_mixed (rising g) (rise_claims mode grain) i lists refl is;
}

-- the delay control ends at the residue 1
ends_at : (ns : List ℕ) (lists : List (List ℕ)) (number ticks : ℕ) → 0 ∷ [] ≡ ns → (1 ∷ []) ∷ [] ≡ lists → 0 ≡ number → 1 ≡ ticks → Contains (list_of ns lists number) (ticks % 2)
ends_at ns lists number ticks ns_are lists_are number_is ticks_are =
    subst (λ l. Contains (list_of l lists number) (ticks % 2)) ns_are
    (subst (λ l. Contains (list_of (0 ∷ []) l number) (ticks % 2)) lists_are
    (subst (λ n. Contains (list_of (0 ∷ []) ((1 ∷ []) ∷ []) n) (ticks % 2)) number_is
    (subst (λ n. Contains (list_of (0 ∷ []) ((1 ∷ []) ∷ []) 0) (n % 2)) ticks_are (0, lit< tt, refl))))

residues : (g : Global) (mode : Mode) (grain : Grain) (i : ℕ) → K8 (rising g) (rise_claims mode grain) i
residues g mode grain i = record {
  no_event = λ k l number ts delay point goes.
      absurd (differ 0 1 refl (sym (lists_are g mode grain i delay.0 delay.1).0 ∙ (event g i k l number ts point goes).process));
  one_each = λ lists is.
      let there = lists_are g mode grain i lists (lists_unmixed (rising g) (rise_claims mode grain) i lists refl is) in
      sym (ap length there.1) ∙ sym (ap length (controls_at i there.0));
  from_start = λ lists k l number ticks is slot goes above.
      let there = lists_are g mode grain i lists (lists_unmixed (rising g) (rise_claims mode grain) i lists refl is) in
      let here = pause g i k l number ticks (early_spot g i k (early_at g i k slot)) goes in
      ends_at (controls_of (rising g) i) lists number ticks (sym (controls_at i there.0)) there.1 here.number_is here.ticks_are;
  from_residue = λ lists k l number ticks r is runs goes.
      let behind = runs_behind g i runs.at k runs.next (way_at g i runs.at runs.next (spot_at g i runs.at runs.point) runs.goes) lists r runs.starts runs.path in
      let no_way : on [] ≡ after number ticks l = behind_plain g k (after number ticks l) behind goes in
      cc;
  from_edge = λ lists k l number ticks r is runs goes. absurd (none_mixed (rising g) (rise_claims mode grain) i lists refl is);
}
  where
    controls_at : (n : ℕ) → n ≡ 0 → controls_of (rising g) n ≡ 0 ∷ []
    controls_at n e = ap (controls_of (rising g)) e ∙ controls g

-- the process that waits for the edge reads its own edge signal
own_edge : (g : Global) (mode : Mode) (grain : Grain) (k : Todo) → IsOwnEdge (rising g) (rise_claims mode grain) 1 0 k
own_edge g mode grain k = record {
  term = rise;
  has = has_rise g;
  edge = refl;
  of = refl;
  apart = λ root other r is slot fires. (root_is g mode grain other fires.term.range.signal fires.is_root).0 ∙ sym (root_is g mode grain root 0 is).0;
  undelayed = λ lists root r is root_at slot runs. none_mixed (rising g) (rise_claims mode grain) 1 lists refl is;
}

readings : (g : Global) (mode : Mode) (grain : Grain) (i : ℕ) → K9 (rising g) (rise_claims mode grain) i
readings g mode grain i = record {
  fixed = λ k r u seq point reads blocking cone. inr (inl (own_at i k r (needs g mode grain i k r (spot_at g i k point) reads)));
}
  where
    own_at : (i : ℕ) (k : Todo) (r : BitRange) → Read g i k r → IsOwnEdge (rising g) (rise_claims mode grain) i r.signal k
    own_at _ _ _ Read.copies = own_edge g mode grain _

first_roots : (g : Global) (mode : Mode) (grain : Grain) (v : ℕ) → K10_Signal (rising g) (rise_claims mode grain) v
first_roots g mode grain v = record {
  once = λ i j k l root slot w late also. absurd (early_any g i v k (early_at g i k slot) w);
  now = λ i k root slot w. early_any g i v k (early_at g i k slot) (inr w);
  constant = λ i k root slot w. absurd (early_any g i v k (early_at g i k slot) (inl w));
}

first_slot : (g : Global) (mode : Mode) (grain : Grain) (i : ℕ) → K10_Process (rising g) (rise_claims mode grain) i
first_slot g mode grain i = record {
  variable = λ k r seq slot reads. absurd (no_early_needs g mode grain i k r (early_at g i k slot) reads);
  written = λ k r seq slot reads. absurd (no_early_needs g mode grain i k r (early_at g i k slot) reads);
  alone = λ k r j seq slot reads w. absurd (no_early_needs g mode grain i k r (early_at g i k slot) reads);
  first = λ k l r j wide seq slot reads there now. absurd (no_early_needs g mode grain i k r (early_at g i k slot) reads);
  untouched = λ k u r prologue w needed cone. early_now g i u k (prologue_at g i k prologue) w;
}

keeping : (g : Global) (grain : Grain) → Keeping (rising g) (rise_claims private grain)
keeping g grain = record {
  names_signals = λ v. names_signals g private grain v;
  names_assigns = λ j. no_assign g private grain j;
  names_processes = λ i. names_processes g private grain i;
  names_known = λ n name is. names_known g private grain n name is;
  writers = λ v. writers g private grain v;
  modes = λ v. modes g grain v;
  order = λ x. order g private grain x;
  blocks = λ i. blocks g private grain i;
  roots = λ v. roots g private grain v;
  edges = λ i. waits g private grain i;
  residues = λ i. residues g private grain i;
  readings = λ i. readings g private grain i;
  first_roots = λ v. first_roots g private grain v;
  first_slot = λ i. first_slot g private grain i;
  starts = λ i start is. absurd (no_block g private grain i (start, is));
}

-- ---- its certificate is one

certificate : (grain : Grain) → IsCertificate (rise_claims private grain)
certificate grain = record {
  version = inr refl;
  displays = λ one. absurd (differ 2 1 refl one);
  starts = λ p one has is. differ 2 1 refl one;
  narrow = inr refl;
  unmixed = inr refl;
  above = lit< tt;
  below = lit≤ tt;
  few_edges = lit≤ tt;
  few_ordered = lit≤ tt;
  few_processes = lit≤ tt;
  few_signals = lit≤ tt;
  lists = sound_lists (rise_claims private grain).modulus (rise_claims private grain).processes (one_list 2 (1 ∷ []) (record { few = lit≤ tt; rising = refl }), (tt, tt));
}

pub rise_keeps_the_rules : ARiseKeepsTheRules
rise_keeps_the_rules g grain = keeps_rules (rising g) (rise_claims private grain) (rise_is_disciplined g grain).0 (certificate grain) (keeping g grain)

-- ---- with a wrong mode

-- t#p1 writes `b` by `=`
writes_b : (g : Global) → WritesNow (rising g) (copying g) 1
unfolding out-Statement denote.Hole.Carrier.out
writes_b g = one_listed g (slice_range (the_bit 1))

copying_point : (g : Global) → IsPoint (rising g) 1 (copying g)
unfolding out-Statement denote.Hole.Carrier.out
copying_point g = Point.listens (listening g) (copying g) 0 (rise ∷ []) Point.begins (Among.first [])

broken : (g : Global) (grain : Grain) → K3 (rising g) (rise_claims nonblocking grain) 1 → ⊥
broken g grain h =
    let there = h nonblocking refl in
    never there.0 (writer_is g nonblocking grain 1 there.0 there.1) there.2.1
  where
    never : (i : ℕ) → Written i 1 → NeverNow (rising g) 1 i → ⊥
    never _ Written.second none = none (copying g) (copying_point g) (writes_b g)

lesser : (g : Global) (grain : Grain) (j : Rule) → number j < 3 → KeepsAll (rising g) (rise_claims nonblocking grain) j
lesser g grain k1 below =
    names_kept (rising g) (rise_claims nonblocking grain) (names_signals g nonblocking grain) (λ j. no_assign g nonblocking grain j) (names_processes g nonblocking grain) (names_known g nonblocking grain)
lesser g grain k2 below = writers_kept (rising g) (rise_claims nonblocking grain) (writers g nonblocking grain)
lesser g grain k3 below = absurd (omega (arith, below))
lesser g grain k4 below = absurd (omega (arith, below))
lesser g grain k5 below = absurd (omega (arith, below))
lesser g grain k6 below = absurd (omega (arith, below))
lesser g grain k7 below = absurd (omega (arith, below))
lesser g grain k8 below = absurd (omega (arith, below))
lesser g grain k9 below = absurd (omega (arith, below))
lesser g grain k10 below = absurd (omega (arith, below))
lesser g grain k11 below = absurd (omega (arith, below))

pub wrong_mode_is_reported : AWrongModeIsReported
wrong_mode_is_reported g grain = record {
  below = λ j below. lesser g grain j below;
  n = 1;
  subject = signal 1;
  is = refl;
  told = refl;
  first = λ m s below is. first_kept m s below is;
  broken = broken g grain;
}
  where
    first_kept : (m : ℕ) (s : Subject) → m < 1 → slice_get (subjects (rising g) (rise_claims nonblocking grain)) m ≡ Some s → Keeps (rising g) (rise_claims nonblocking grain) k3 s
    first_kept zero s below is = subst (Keeps (rising g) (rise_claims nonblocking grain) k3) (same_Some (signal 0) s is) (root_mode g nonblocking grain)
    first_kept (suc m) s below is = absurd (omega (arith, below))
