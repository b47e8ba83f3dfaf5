-- The points of a design with a combinational block, what is done at them, and its certificate.
use Rattle.std.proofs.Common.{◌≡◌, ℕ, zero, suc, ◌<◌, Bool, true, false, not, Some, None, List, [], ◌∷◌, slice_get, refl, sym, ◌∙◌, ap, subst, inl, inr, lit<, arith}
use Rattle.std.proofs.lemmas.Bool.{false≢true, or_left, true≢false}
use Rattle.std.proofs.lemmas.Option.{none-some, same_Some}
use Rattle.std.specs.declared.alloc.Global.{Global}
use Rattle.std.specs.List.{Contains}
use Rattle.vs_design.specs.vs_logic4.specs.declared.digit.Digit.TheVariants.{One}
use Rattle.vs_design.specs.declared.design.Process.{Process}
use Rattle.vs_design.specs.declared.range.BitRange.{BitRange}
use Rattle.vs_design.specs.declared.signal.Signal.{Signal}
use Rattle.vs_design.specs.declared.signal.SignalKind.TheVariants.{Reg}
use Rattle.vs_design.specs.declared.statement.EventTerm.{EventTerm}
use Rattle.vs_design.specs.declared.statement.Statement.{out-Statement}
use Rattle.vs_design.specs.declared.statement.Statement.TheVariants as y
use Rattle.vs_design.specs.declared.statement.Statement.TheOpen as f
use Rattle.vs_design.specs.declared.statement.Statement.TheFolds.{fold-roll-Statement}
use Rattle.vs_design.specs.declared.expression.Typed.TheVariants as e
use Rattle.vs_design.specs.Statements.{has_control, has_control_step}
use Rattle.vs_design.specs.Uses.{covers, slice_range, whole}
use Rattle.vs_independence.specs.vs_process.specs.Executions.{is_combinational, is_level}
use Rattle.vs_process.specs.Landings.{todo_after}
use Rattle.vs_process.specs.Places.{perform, Todo}
use Rattle.vs_process.specs.Steps.{Next, on, after, wait}
use Rattle.vs_rules.specs.vs_process.specs.BlockDrivers.{outputs}
use Rattle.vs_design.specs.vs_logic4.proofs.Basics.{one_in, none_in}
use Rattle.vs_laws.specs.Race.{bit, operand, target, the_bit}
use Rattle.vs_laws.specs.Mirror.{one_of}
use Rattle.vs_laws.proofs.Certificates.{none_mixed}
use Rattle.vs_laws.proofs.Race.{reads_number, reads_operand}
use Rattle.vs_rules.specs.Claims.{names_process, Kind, Start, claim_of, second_in, writer_in, IsWriter, IsSecond, HasLists, HasStart, IsBlock, IsEdge, IsSequential, IsRootOf}
use Rattle.vs_rules.specs.Drivers.{IsSource, Names}
use Rattle.vs_rules.specs.Paths.{Bit, HasTerm, IsBit, IsPoint, IsPrologue, IsSlot0, Lists, ListsSignal, Path, ReadsNow, ShowsNow, Writes, WritesLater, WritesNow, is_plain, is_zero_time, reads_of}
use Rattle.vs_rules.specs.Points.{Among, Goes, Point, first_todo}
use Rattle.vs_rules.specs.Rules.{IsEdgeSignal, Reads}
use Rattle.vs_rules.specs.Blocks.{Unwritten, begins, goes_on, has_late_effect, todo_surely}
use Rattle.vs_rules.specs.Slots.{DelayEnds}
use Rattle.vs_rules.proofs.Places.{closed_paths, closed_points}
use Rattle.vs_laws.specs.Block.{block_claims, change_of, copied, follower, following, heard, no_ticks, updated, watched, watching}
use Rattle.vs_laws.proofs.Texts.{differ, no_signal, one_signal, only, plain_is_still, reads_assign, reads_event, reads_forever, reads_later, reads_source, writes_assign, writes_event, writes_forever, writes_later}

-- ---- its points

-- what is to be done: `a <= 1`, `always @(a) y = a`, `@(a) y = a`, `y = a`
abbrev pub updating : Global → Todo
updating g = perform (updated g) ∷ []

abbrev pub looping : Global → Bool → Todo
looping g net = perform (watching g (heard net)) ∷ []

abbrev pub listening : Global → Bool → Todo
listening g net = perform (watched g (heard net)) ∷ perform (watching g (heard net)) ∷ []

abbrev pub copying : Global → Bool → Todo
copying g net = perform (copied g (heard net)) ∷ perform (watching g (heard net)) ∷ []

pub data Spot (g : Global) (net : Bool) : ℕ → Todo → Type 0 where
  updates : Spot g net 0 (updating g)
  loops : Spot g net 1 (looping g net)
  listens : Spot g net 1 (listening g net)
  copies : Spot g net 1 (copying g net)
  rests : (i : ℕ) → Spot g net i []

-- the ways on from them
pub data Way (g : Global) (net : Bool) : ℕ → Todo → Next → Type 0 where
  updates : Way g net 0 (updating g) (on [])
  loops : Way g net 1 (looping g net) (on (listening g net))
  listens : Way g net 1 (listening g net) (wait 1 (change_of (heard net) ∷ []) (copying g net))
  copies : Way g net 1 (copying g net) (on (looping g net))
  rests : (i : ℕ) → Way g net i [] (on [])

-- those of the first slot, before the block is woken
pub data Early (g : Global) (net : Bool) : ℕ → Todo → Type 0 where
  updates : Early g net 0 (updating g)
  loops : Early g net 1 (looping g net)
  listens : Early g net 1 (listening g net)
  rests : (i : ℕ) → Early g net i []

pub way_at : (g : Global) (net : Bool) (i : ℕ) (k : Todo) (next : Next) → Spot g net i k → Goes k next → Way g net i k next
unfolding out-Statement denote.Hole.Carrier.out
way_at g net _ _ next Spot.updates h = only (Way g net 0 (updating g)) next _ h Way.updates
way_at g net _ _ next Spot.loops h = only (Way g net 1 (looping g net)) next _ h Way.loops
way_at g net _ _ next Spot.listens h = only (Way g net 1 (listening g net)) next _ h Way.listens
way_at g net _ _ next Spot.copies h = only (Way g net 1 (copying g net)) next _ h Way.copies
way_at g net _ _ next (Spot.rests i) h = only (Way g net i []) next _ h (Way.rests i)

spot_behind : (g : Global) (net : Bool) (i : ℕ) (k : Todo) (next : Next) → Way g net i k next → Spot g net i (todo_after next)
spot_behind g net _ _ _ Way.updates = Spot.rests 0
spot_behind g net _ _ _ Way.loops = Spot.listens
spot_behind g net _ _ _ Way.listens = Spot.copies
spot_behind g net _ _ _ Way.copies = Spot.loops
spot_behind g net _ _ _ (Way.rests i) = Spot.rests i

abbrev pub RestSpot : Global → Bool → ℕ → Todo → Type 0
RestSpot g net i [] = Unit {0}
RestSpot g net i (x ∷ rest) = Spot g net i rest

spot_rest : (g : Global) (net : Bool) (i : ℕ) (k : Todo) → Spot g net i k → RestSpot g net i k
spot_rest g net _ _ Spot.updates = Spot.rests 0
spot_rest g net _ _ Spot.loops = Spot.rests 1
spot_rest g net _ _ Spot.listens = Spot.loops
spot_rest g net _ _ Spot.copies = Spot.loops
spot_rest g net _ _ (Spot.rests i) = tt

first_spot : (g : Global) (net : Bool) (i : ℕ) → Spot g net i (first_todo (following g net) i)
unfolding out-Statement denote.Hole.Carrier.out
first_spot g net zero = Spot.updates
first_spot g net (suc zero) = Spot.loops
first_spot g net (suc (suc i)) = Spot.rests (suc (suc i))

pub spot_at : (g : Global) (net : Bool) (i : ℕ) (k : Todo) → IsPoint (following g net) i k → Spot g net i k
spot_at g net i k point =
    closed_points (Spot g net i) (first_todo (following g net) i) (first_spot g net i) (λ l next s h. spot_behind g net i l next (way_at g net i l next s h)) (λ x rest s. spot_rest g net i (x ∷ rest) s) k point

-- ---- the first slot

first_early : (g : Global) (net : Bool) (i : ℕ) → Early g net i (first_todo (following g net) i)
unfolding out-Statement denote.Hole.Carrier.out
first_early g net zero = Early.updates
first_early g net (suc zero) = Early.loops
first_early g net (suc (suc i)) = Early.rests (suc (suc i))

pub early_spot : (g : Global) (net : Bool) (i : ℕ) (k : Todo) → Early g net i k → Spot g net i k
early_spot g net _ _ Early.updates = Spot.updates
early_spot g net _ _ Early.loops = Spot.loops
early_spot g net _ _ Early.listens = Spot.listens
early_spot g net _ _ (Early.rests i) = Spot.rests i

early_behind : (g : Global) (net : Bool) (i : ℕ) (k : Todo) (next : Next) → Way g net i k next → is_zero_time next ≡ true → Early g net i (todo_after next)
early_behind g net _ _ _ Way.updates still = Early.rests 0
early_behind g net _ _ _ Way.loops still = Early.listens
early_behind g net _ _ _ Way.listens still = absurd (false≢true still)
early_behind g net _ _ _ Way.copies still = Early.loops
early_behind g net _ _ _ (Way.rests i) still = Early.rests i

-- where paths that take no time lead from the start
early_path : (g : Global) (net : Bool) (i : ℕ) (k : Todo) (ok : Next → Bool) → ((next : Next) → ok next ≡ true → is_zero_time next ≡ true) → Path ok (first_todo (following g net) i) k → Early g net i k
early_path g net i k ok still path =
    closed_paths (Early g net i) ok (first_todo (following g net) i) (first_early g net i) (λ l next s h may. early_behind g net i l next (way_at g net i l next (early_spot g net i l s) h) (still next may)) k path

pub early_at : (g : Global) (net : Bool) (i : ℕ) (k : Todo) → IsSlot0 (following g net) false i k → Early g net i k
early_at g net i k path = early_path g net i k is_zero_time (λ next may. may) path

pub prologue_at : (g : Global) (net : Bool) (i : ℕ) (k : Todo) → IsPrologue (following g net) false i k → Early g net i k
prologue_at g net i k path = early_path g net i k is_plain plain_is_still path

pub early_now : (g : Global) (net : Bool) (i v : ℕ) (k : Todo) → Early g net i k → WritesNow (following g net) k v → ⊥
unfolding out-Statement denote.Hole.Carrier.out
early_now g net _ v _ Early.updates w = no_signal (following g net) v w
early_now g net _ v _ Early.loops w = no_signal (following g net) v w
early_now g net _ v _ Early.listens w = no_signal (following g net) v w
early_now g net _ v _ (Early.rests i) w = no_signal (following g net) v w

-- ---- what is done at its points

-- one of them writes by `=`
pub data Wrote (g : Global) (net : Bool) : ℕ → Todo → ℕ → Type 0 where
  copies : Wrote g net 1 (copying g net) 1

pub wrote : (g : Global) (net : Bool) (i v : ℕ) (k : Todo) → Spot g net i k → WritesNow (following g net) k v → Wrote g net i k v
unfolding out-Statement denote.Hole.Carrier.out
wrote g net _ v _ Spot.updates w = absurd (no_signal (following g net) v w)
wrote g net _ v _ Spot.loops w = absurd (no_signal (following g net) v w)
wrote g net _ v _ Spot.listens w = absurd (no_signal (following g net) v w)
wrote g net _ v _ Spot.copies w = subst (Wrote g net 1 (copying g net)) (one_signal (following g net) (slice_range (the_bit 1)) v w) Wrote.copies
wrote g net _ v _ (Spot.rests i) w = absurd (no_signal (following g net) v w)

pub wrote_who : (g : Global) (net : Bool) (i v : ℕ) (k : Todo) → Wrote g net i k v → i ≡ 1
wrote_who g net _ _ _ Wrote.copies = refl

-- one by `<=`
pub data Updated (g : Global) (net : Bool) : ℕ → Todo → ℕ → Type 0 where
  updates : Updated g net 0 (updating g) 0

pub made : (g : Global) (net : Bool) (i v : ℕ) (k : Todo) → Spot g net i k → WritesLater (following g net) k v → Updated g net i k v
unfolding out-Statement denote.Hole.Carrier.out
made g net _ v _ Spot.updates w = subst (Updated g net 0 (updating g)) (one_signal (following g net) (slice_range (the_bit 0)) v w) Updated.updates
made g net _ v _ Spot.loops w = absurd (no_signal (following g net) v w)
made g net _ v _ Spot.listens w = absurd (no_signal (following g net) v w)
made g net _ v _ Spot.copies w = absurd (no_signal (following g net) v w)
made g net _ v _ (Spot.rests i) w = absurd (no_signal (following g net) v w)

pub updated_where : (g : Global) (net : Bool) (i v : ℕ) (k : Todo) → Updated g net i k v → updating g ≡ k
updated_where g net _ _ _ Updated.updates = refl

-- one reads
pub record IsRead (g : Global) (net : Bool) (i : ℕ) (r : BitRange) : Type 0 where
  pub process : 1 ≡ i
  pub range : whole (heard net) ≡ r

pub read_at : (g : Global) (net : Bool) (i : ℕ) (k : Todo) (r : BitRange) → Spot g net i k → ReadsNow (following g net) k r → IsRead g net i r
unfolding out-Statement denote.Hole.Carrier.out
read_at g net _ _ r Spot.updates h = absurd (none_in r (subst (λ rs. Contains rs r) (reads_number (One ∷ [])) (reads_source (e.Number (One ∷ [])) r h.0)))
read_at g net _ _ r Spot.loops h = absurd (none_in r h.0)
read_at g net _ _ r Spot.listens h = absurd (none_in r h.0)
read_at g net _ _ r Spot.copies h = record { process = refl; range = one_in (whole (heard net)) r (subst (λ rs. Contains rs r) (reads_operand (heard net)) (reads_source (operand (heard net)) r h.0)) }
read_at g net _ _ r (Spot.rests i) h = absurd (none_in r h.0)

-- none is a `$display`
shows : (g : Global) (net : Bool) (i : ℕ) (k : Todo) (r : BitRange) → Spot g net i k → ShowsNow (following g net) k r → ⊥
unfolding out-Statement denote.Hole.Carrier.out
shows g net _ _ r Spot.updates h = none_in r h.0
shows g net _ _ r Spot.loops h = none_in r h.0
shows g net _ _ r Spot.listens h = none_in r h.0
shows g net _ _ r Spot.copies h = none_in r h.0
shows g net _ _ r (Spot.rests i) h = none_in r h.0

pub needs : (g : Global) (net : Bool) (start : Start) (i : ℕ) (k : Todo) (r : BitRange) → Spot g net i k → Reads (following g net) (block_claims net start) k r → IsRead g net i r
needs g net start i k r s (inl h) = read_at g net i k r s h
needs g net start i k r s (inr h) = absurd (shows g net i k r s h.1)

-- none of the block has a late effect
pub quiet : (g : Global) (net : Bool) (i : ℕ) (k : Todo) → Spot g net i k → i ≡ 1 → has_late_effect k ≡ false
unfolding out-Statement denote.Hole.Carrier.out
quiet g net _ _ Spot.updates e = cc
quiet g net _ _ Spot.loops e = refl
quiet g net _ _ Spot.listens e = refl
quiet g net _ _ Spot.copies e = refl
quiet g net _ _ (Spot.rests i) e = refl

-- ---- its controls

pub record IsEvent (g : Global) (net : Bool) (i : ℕ) (terms : List EventTerm) (l : Todo) : Type 0 where
  pub process : i ≡ 1
  pub terms_are : change_of (heard net) ∷ [] ≡ terms
  pub behind : l ≡ copying g net

event_at : (g : Global) (net : Bool) (i : ℕ) (k : Todo) (next : Next) → Way g net i k next → (number : ℕ) (terms : List EventTerm) (l : Todo) → next ≡ wait number terms l → IsEvent g net i terms l
event_at g net _ _ _ Way.updates number terms l e = cc
event_at g net _ _ _ Way.loops number terms l e = cc
event_at g net _ _ _ Way.listens number terms l e = record { process = refl; terms_are = cc; behind = cc }
event_at g net _ _ _ Way.copies number terms l e = cc
event_at g net _ _ _ (Way.rests i) number terms l e = cc

pub event : (g : Global) (net : Bool) (i : ℕ) (k l : Todo) (number : ℕ) (terms : List EventTerm) → IsPoint (following g net) i k → Goes k (wait number terms l) → IsEvent g net i terms l
event g net i k l number terms point h = event_at g net i k (wait number terms l) (way_at g net i k (wait number terms l) (spot_at g net i k point) h) number terms l refl

pauses_at : (g : Global) (net : Bool) (i : ℕ) (k : Todo) (next : Next) → Way g net i k next → (number ticks : ℕ) (l : Todo) → next ≡ after number ticks l → ⊥
pauses_at g net _ _ _ Way.updates number ticks l e = cc
pauses_at g net _ _ _ Way.loops number ticks l e = cc
pauses_at g net _ _ _ Way.listens number ticks l e = cc
pauses_at g net _ _ _ Way.copies number ticks l e = cc
pauses_at g net _ _ _ (Way.rests i) number ticks l e = cc

pub no_pause : (g : Global) (net : Bool) (i : ℕ) (k l : Todo) (number ticks : ℕ) → Spot g net i k → Goes k (after number ticks l) → ⊥
no_pause g net i k l number ticks s h = pauses_at g net i k (after number ticks l) (way_at g net i k (after number ticks l) s h) number ticks l refl

pub ends_never : (g : Global) (net : Bool) (i : ℕ) (k : Todo) (next : Next) → Way g net i k next → (lists : List (List ℕ)) (r : ℕ) → DelayEnds (following g net) i lists next r → ⊥
ends_never g net _ _ _ Way.updates lists r ends = ends
ends_never g net _ _ _ Way.loops lists r ends = ends
ends_never g net _ _ _ Way.listens lists r ends = ends
ends_never g net _ _ _ Way.copies lists r ends = ends
ends_never g net _ _ _ (Way.rests i) lists r ends = ends

term_is : (g : Global) (net : Bool) (i : ℕ) (t : EventTerm) → HasTerm (following g net) i t → (i ≡ 1) × (change_of (heard net) ≡ t)
term_is g net i t h =
    let there = event g net i h.control h.behind h.number h.terms h.point h.goes in
    (there.process, one_in (change_of (heard net)) t (subst (λ ts. Contains ts t) (sym there.terms_are) h.is))

-- it waits for `a`
pub named_is : (g : Global) (net : Bool) (i : ℕ) (r : BitRange) → Names (following g net) i r → whole (heard net) ≡ r
named_is g net i r h = ap (λ (t : EventTerm). t.range) (term_is g net i h.term h.has).1 ∙ h.is

pub has_change : (g : Global) (net : Bool) → HasTerm (following g net) 1 (change_of (heard net))
unfolding out-Statement denote.Hole.Carrier.out
has_change g net = record {
  control = listening g net;
  number = 1;
  terms = change_of (heard net) ∷ [];
  behind = copying g net;
  point = Point.goes_on (looping g net) (listening g net) Point.begins (Among.first []);
  goes = Among.first [];
  is = (0, lit< tt, refl);
}

pub names_a : (g : Global) (net : Bool) → Names (following g net) 1 (whole (heard net))
names_a g net = record { term = change_of (heard net); has = has_change g net; is = refl; touches = tt }

pub no_edge_signal : (g : Global) (net : Bool) (v : ℕ) → IsEdgeSignal (following g net) v → ⊥
no_edge_signal g net v h = true≢false (ap is_level (term_is g net h.process h.term h.has).1 ∙ h.edge)

-- ---- its texts

-- who writes what
pub data Written : ℕ → ℕ → Type 0 where
  first : Written 0 0
  second : Written 1 1

pub written_same : (i v : ℕ) → Written i v → i ≡ v
written_same _ _ Written.first = refl
written_same _ _ Written.second = refl

writes_first : (g : Global) (net : Bool) → outputs (following g net) 0 ≡ slice_range (the_bit 0) ∷ []
writes_first g net = writes_later 0 no_ticks (target g 0) (e.Number (One ∷ []))

writes_second : (g : Global) (net : Bool) → outputs (following g net) 1 ≡ slice_range (the_bit 1) ∷ []
writes_second g net = writes_forever g 0 (watched g (heard net)) ∙ writes_event g 1 (one_of g (change_of (heard net))) (copied g (heard net)) ∙ writes_assign 2 (target g 1) (operand (heard net))

pub written : (g : Global) (net : Bool) (i v : ℕ) → Writes (following g net) i v → Written i v
written g net zero v w = subst (Written 0) (one_signal (following g net) (slice_range (the_bit 0)) v (subst (λ rs. ListsSignal (following g net) rs v) (writes_first g net) w)) Written.first
written g net (suc zero) v w = subst (Written 1) (one_signal (following g net) (slice_range (the_bit 1)) v (subst (λ rs. ListsSignal (following g net) rs v) (writes_second g net) w)) Written.second
written g net (suc (suc i)) v w = absurd (no_signal (following g net) v w)

one_listed : (g : Global) (net : Bool) (r : BitRange) → ListsSignal (following g net) (r ∷ []) r.signal
one_listed g net r = record { range = r; listed = ((0, lit< tt, refl), tt); of = refl }

pub first_writes : (g : Global) (net : Bool) → Writes (following g net) 0 0
first_writes g net = subst (λ rs. ListsSignal (following g net) rs 0) (sym (writes_first g net)) (one_listed g net (slice_range (the_bit 0)))

pub second_writes : (g : Global) (net : Bool) → Writes (following g net) 1 1
second_writes g net = subst (λ rs. ListsSignal (following g net) rs 1) (sym (writes_second g net)) (one_listed g net (slice_range (the_bit 1)))

reads_first : (g : Global) (net : Bool) → reads_of (following g net) 0 ≡ []
reads_first g net = reads_later 0 no_ticks (target g 0) (e.Number (One ∷ [])) ∙ rw (reads_number (One ∷ [])) refl

reads_second : (g : Global) (net : Bool) → reads_of (following g net) 1 ≡ whole (heard net) ∷ []
reads_second g net = reads_forever g 0 (watched g (heard net)) ∙ reads_event g 1 (one_of g (change_of (heard net))) (copied g (heard net)) ∙ reads_assign 2 (target g 1) (operand (heard net)) ∙ rw (reads_operand (heard net)) refl

-- what a text reads is `a`
pub reads_are : (g : Global) (net : Bool) (i : ℕ) (r : BitRange) → Lists (following g net) (reads_of (following g net) i) r → whole (heard net) ≡ r
reads_are g net zero r h = absurd (none_in r (subst (λ rs. Contains rs r) (reads_first g net) h.0))
reads_are g net (suc zero) r h = one_in (whole (heard net)) r (subst (λ rs. Contains rs r) (reads_second g net) h.0)
reads_are g net (suc (suc i)) r h = absurd (none_in r h.0)

-- ---- its certificate

-- a net has no writer
pub no_writer : (g : Global) (net : Bool) (start : Start) (v : ℕ) → writer_in (claim_of (following g net) (block_claims net start) (suc (suc v))) ≡ None
no_writer g false start v = refl
no_writer g true start zero = refl
no_writer g true start (suc v) = refl

pub none_second : (g : Global) (net : Bool) (start : Start) (v : ℕ) → second_in (claim_of (following g net) (block_claims net start) v) ≡ None
none_second g net start zero = refl
none_second g net start (suc zero) = refl
none_second g false start (suc (suc v)) = refl
none_second g true start (suc (suc zero)) = refl
none_second g true start (suc (suc (suc v))) = refl

writer_is : (g : Global) (net : Bool) (start : Start) (v i : ℕ) → IsWriter (following g net) (block_claims net start) v i → Written i v
writer_is g net start zero zero h = Written.first
writer_is g net start zero (suc zero) h = absurd (false≢true h)
writer_is g net start zero (suc (suc i)) h = absurd (false≢true h)
writer_is g net start (suc zero) zero h = absurd (false≢true h)
writer_is g net start (suc zero) (suc zero) h = Written.second
writer_is g net start (suc zero) (suc (suc i)) h = absurd (false≢true h)
writer_is g net start (suc (suc v)) i h = absurd (false≢true (sym (ap (λ o. names_process o (slice_get (following g net).processes i)) (no_writer g net start v)) ∙ h))

pub is_writer : (g : Global) (net : Bool) (start : Start) (v i : ℕ) → Written i v → IsWriter (following g net) (block_claims net start) v i
is_writer g net start _ _ Written.first = refl
is_writer g net start _ _ Written.second = refl

pub no_second : (g : Global) (net : Bool) (start : Start) (v i : ℕ) → IsSecond (following g net) (block_claims net start) v i → ⊥
no_second g net start v i h = false≢true (sym (ap (λ o. names_process o (slice_get (following g net).processes i)) (none_second g net start v)) ∙ h)

pub start_is : (g : Global) (net : Bool) (start : Start) (i : ℕ) (other : Start) → HasStart (following g net) (block_claims net start) i other → (i ≡ 1) × (start ≡ other)
start_is g net start zero other e = cc
start_is g net start (suc zero) other e = (refl, cc)
start_is g net start (suc (suc i)) other e = absurd (none-some (Kind.block other) e)

pub block_is : (g : Global) (net : Bool) (start : Start) (i : ℕ) → IsBlock (following g net) (block_claims net start) i → i ≡ 1
block_is g net start i h = (start_is g net start i h.0 h.1).0

pub no_edge : (g : Global) (net : Bool) (start : Start) (i : ℕ) → IsEdge (following g net) (block_claims net start) i → ⊥
no_edge g net start zero e = cc
no_edge g net start (suc zero) e = cc
no_edge g net start (suc (suc i)) e = none-some Kind.edges e

pub lists_are : (g : Global) (net : Bool) (start : Start) (i : ℕ) (lists : List (List ℕ)) → HasLists (following g net) (block_claims net start) i lists → (i ≡ 0) × ([] ≡ lists)
lists_are g net start zero lists e = (refl, cc)
lists_are g net start (suc zero) lists e = cc
lists_are g net start (suc (suc i)) lists e = absurd (none-some (Kind.delays lists) e)

pub no_sequential_read : (g : Global) (net : Bool) (start : Start) (i : ℕ) (k : Todo) (r : BitRange) → IsSequential (following g net) (block_claims net start) i → IsRead g net i r → ⊥
no_sequential_read g net start i k r (inl edge) read = no_edge g net start i edge
no_sequential_read g net start i k r (inr (inl delay)) read = absurd (differ 1 0 refl (read.process ∙ (lists_are g net start i delay.0 delay.1).0))
no_sequential_read g net start i k r (inr (inr mix)) read = none_mixed (following g net) (block_claims net start) i mix.0 refl mix.1

pub no_root : (g : Global) (net : Bool) (start : Start) (root v : ℕ) → IsRootOf (following g net) (block_claims net start) root v → ⊥
no_root g net start root v h = none-some h.entry h.is

pub source_a : (g : Global) (net : Bool) (start : Start) → IsSource (following g net) (block_claims net start) 0
source_a g net start = record {
  variable = (bit g 97 Reg, refl, refl);
  undriven = λ i blk w. absurd (differ 1 0 refl (sym (block_is g net start i blk) ∙ written_same i 0 (written g net i 0 w)));
}

-- ---- the block

uncontrolled : (g : Global) (net : Bool) → has_control (copied g (heard net)) ≡ false
uncontrolled g net = ap has_control (sym (y.rolls-Assign 2 (target g 1) (operand (heard net)))) ∙ fold-roll-Statement Bool has_control_step (f.Assign 2 (target g 1) (operand (heard net)))

combinational_is : (g : Global) (net : Bool) → is_combinational (follower g (heard net)) ≡ true
unfolding out-Statement denote.Hole.Carrier.out
combinational_is g net = ap not (uncontrolled g net)

pub shape_at : (g : Global) (net : Bool) (i : ℕ) (p : Process) → i ≡ 1 → slice_get (following g net).processes i ≡ Some p → is_combinational p ≡ true
shape_at g net i p at is =
    subst (λ (q : Process). is_combinational q ≡ true) (same_Some (follower g (heard net)) p (ap (slice_get (following g net).processes) (sym at) ∙ is)) (combinational_is g net)

-- `y = a` is sure to write the one bit of `y`
covered_bit : (s w p : ℕ) → s ≡ 1 → w ≡ 0 → p ≡ 0 → covers s w p (slice_range (the_bit 1)) ≡ true
covered_bit s w p s_is w_is p_is = rw (s_is, w_is, p_is) refl

sure_copy : (g : Global) (net : Bool) (b : Bit) → IsBit (following g net) b → b.signal ≡ 1 → todo_surely b (copying g net) ≡ true
unfolding out-Statement denote.Hole.Carrier.out
sure_copy g net b bit_is at = or_left (covers b.signal b.word b.place (slice_range (the_bit 1))) false (covered_bit b.signal b.word b.place at no_word no_place)
  where
    same : bit g 121 Reg ≡ bit_is.signal
    same = same_Some (bit g 121 Reg) bit_is.signal (ap (slice_get (following g net).signals) (sym at) ∙ bit_is.is)

    no_word : b.word ≡ 0
    no_word = let within : b.word < 1 = subst (λ (s : Signal). b.word < s.count) (sym same) bit_is.word in omega (arith, within)

    no_place : b.place ≡ 0
    no_place = let within : b.place < 1 = subst (λ (s : Signal). b.place < s.width) (sym same) bit_is.place in omega (arith, within)

-- before that nothing else stands
pub unwritten : (g : Global) (net : Bool) (i : ℕ) (b : Bit) (k : Todo) → IsBit (following g net) b → b.signal ≡ 1 → Unwritten (following g net) i b k → k ≡ copying g net
unwritten g net i b _ bit_is at (begins k l number terms point goes) = (event g net i k l number terms point goes).behind
unwritten g net i b _ bit_is at (goes_on k l before sure goes) =
    absurd (true≢false (sym (sure_copy g net b bit_is at) ∙ ap (todo_surely b) (sym (unwritten g net i b k bit_is at before)) ∙ sure))

pub copy_goes_on : (g : Global) (net : Bool) (next : Next) → Goes (copying g net) next → is_plain next ≡ true
unfolding out-Statement denote.Hole.Carrier.out
copy_goes_on g net next h = only (λ n. is_plain n ≡ true) next _ h refl

pub heard_apart : (net : Bool) → heard net ≡ 1 → ⊥
heard_apart false e = differ 0 1 refl e
heard_apart true e = differ 2 1 refl e

-- it writes `y` alone
pub block_writes : (g : Global) (net : Bool) (start : Start) (i v : ℕ) → IsBlock (following g net) (block_claims net start) i → Writes (following g net) i v → v ≡ 1
block_writes g net start i v blk w = sym (written_same i v (written g net i v w)) ∙ block_is g net start i blk
