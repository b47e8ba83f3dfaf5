-- The points of a design that reads late, and what is done at them.
use Rattle.std.proofs.Common.{◌≡◌, ℕ, zero, suc, ◌⊎◌, Bool, true, false, List, [], ◌∷◌, refl, sym, ◌∙◌, ap, subst, inl, inr, lit<}
use Rattle.std.proofs.lemmas.Bool.{false≢true}
use Rattle.std.specs.declared.alloc.Global.{Global}
use Rattle.std.specs.List.{Contains}
use Rattle.vs_design.specs.vs_logic4.specs.declared.digit.Digit.TheVariants.{One}
use Rattle.vs_design.specs.declared.range.BitRange.{BitRange}
use Rattle.vs_design.specs.declared.statement.EventTerm.{EventTerm}
use Rattle.vs_design.specs.declared.statement.Statement.{out-Statement}
use Rattle.vs_design.specs.declared.expression.Typed.TheVariants as e
use Rattle.vs_design.specs.Uses.{slice_range, whole}
use Rattle.vs_process.specs.Landings.{todo_after}
use Rattle.vs_process.specs.Places.{perform, Todo}
use Rattle.vs_process.specs.Steps.{Next, on, after, wait}
use Rattle.vs_rules.specs.vs_process.specs.BlockDrivers.{outputs}
use Rattle.vs_design.specs.vs_logic4.proofs.Basics.{one_in, none_in}
use Rattle.vs_laws.specs.Mirror.{one_of}
use Rattle.vs_laws.specs.Race.{operand, target, the_bit}
use Rattle.vs_laws.proofs.Race.{reads_number, reads_operand}
use Rattle.vs_rules.specs.Controls.{controls_of}
use Rattle.vs_rules.specs.Paths.{IsPoint, IsPrologue, IsSlot0, ListsSignal, Path, ReadsNow, ShowsNow, Writes, WritesAny, WritesLater, WritesNow, HasTerm, is_plain, is_zero_time}
use Rattle.vs_rules.specs.Points.{Among, Goes, Point, first_todo}
use Rattle.vs_rules.specs.Rules.{IsEdgeSignal}
use Rattle.vs_rules.specs.Slots.{DelayEnds}
use Rattle.vs_rules.proofs.Places.{closed_paths, closed_points}
use Rattle.vs_laws.proofs.Texts.{controls_assign, controls_delay, no_signal, one_signal, only, plain_is_still, reads_source, writes_assign, writes_delay, writes_event}
use Rattle.vs_laws.specs.Roots.{rise_of, sets, sets_late, ticks_before}
use Rattle.vs_laws.specs.Late.{answers, copies, copies_late, reading_late}
use Rattle.vs_laws.proofs.RootsPoints.{in_list}

-- ---- its points

-- what is to be done: `#1 a = 1`, `s = 1`, `@(posedge a) b = 1`, `#2 c = b`, `c = b`
abbrev pub delayed : Global → Todo
delayed g = perform (sets_late g 0) ∷ []

abbrev pub set : Global → ℕ → Todo
set g signal = perform (sets g signal) ∷ []

abbrev pub listening : Global → Todo
listening g = perform (answers g) ∷ []

abbrev pub pausing : Global → Todo
pausing g = perform (copies_late g) ∷ []

abbrev pub copying : Global → Todo
copying g = perform (copies g) ∷ []

pub data Spot (g : Global) : ℕ → Todo → Type 0 where
  delays_a : Spot g 0 (delayed g)
  sets_a : Spot g 0 (set g 0)
  listens_there : Spot g 1 (listening g)
  sets_b : Spot g 1 (set g 1)
  delays_c : Spot g 2 (pausing g)
  copies_there : Spot g 2 (copying g)
  rests : (i : ℕ) → Spot g i []

-- the ways on from them
pub data Way (g : Global) : ℕ → Todo → Next → Type 0 where
  delays_a : Way g 0 (delayed g) (after 0 1 (set g 0))
  sets_a : Way g 0 (set g 0) (on [])
  listens_there : Way g 1 (listening g) (wait 0 (rise_of 0 ∷ []) (set g 1))
  sets_b : Way g 1 (set g 1) (on [])
  delays_c : Way g 2 (pausing g) (after 0 2 (copying g))
  copies_there : Way g 2 (copying g) (on [])
  rests : (i : ℕ) → Way g i [] (on [])

-- those of the first slot
pub data Early (g : Global) : ℕ → Todo → Type 0 where
  delays_a : Early g 0 (delayed g)
  listens_there : Early g 1 (listening g)
  delays_c : Early g 2 (pausing g)
  rests : (i : ℕ) → Early g i []

pub way_at : (g : Global) (i : ℕ) (k : Todo) (next : Next) → Spot g i k → Goes k next → Way g i k next
unfolding out-Statement denote.Hole.Carrier.out
way_at g _ _ next Spot.delays_a h = only (Way g 0 (delayed g)) next _ h Way.delays_a
way_at g _ _ next Spot.sets_a h = only (Way g 0 (set g 0)) next _ h Way.sets_a
way_at g _ _ next Spot.listens_there h = only (Way g 1 (listening g)) next _ h Way.listens_there
way_at g _ _ next Spot.sets_b h = only (Way g 1 (set g 1)) next _ h Way.sets_b
way_at g _ _ next Spot.delays_c h = only (Way g 2 (pausing g)) next _ h Way.delays_c
way_at g _ _ next Spot.copies_there h = only (Way g 2 (copying g)) next _ h Way.copies_there
way_at g _ _ next (Spot.rests i) h = only (Way g i []) next _ h (Way.rests i)

spot_behind : (g : Global) (i : ℕ) (k : Todo) (next : Next) → Way g i k next → Spot g i (todo_after next)
spot_behind g _ _ _ Way.delays_a = Spot.sets_a
spot_behind g _ _ _ Way.sets_a = Spot.rests 0
spot_behind g _ _ _ Way.listens_there = Spot.sets_b
spot_behind g _ _ _ Way.sets_b = Spot.rests 1
spot_behind g _ _ _ Way.delays_c = Spot.copies_there
spot_behind g _ _ _ Way.copies_there = Spot.rests 2
spot_behind g _ _ _ (Way.rests i) = Spot.rests i

abbrev RestSpot : Global → ℕ → Todo → Type 0
RestSpot g i [] = Unit {0}
RestSpot g i (x ∷ rest) = Spot g i rest

spot_rest : (g : Global) (i : ℕ) (k : Todo) → Spot g i k → RestSpot g i k
spot_rest g _ _ Spot.delays_a = Spot.rests 0
spot_rest g _ _ Spot.sets_a = Spot.rests 0
spot_rest g _ _ Spot.listens_there = Spot.rests 1
spot_rest g _ _ Spot.sets_b = Spot.rests 1
spot_rest g _ _ Spot.delays_c = Spot.rests 2
spot_rest g _ _ Spot.copies_there = Spot.rests 2
spot_rest g _ _ (Spot.rests i) = tt

first_spot : (g : Global) (i : ℕ) → Spot g i (first_todo (reading_late g) i)
unfolding out-Statement denote.Hole.Carrier.out
first_spot g zero = Spot.delays_a
first_spot g (suc zero) = Spot.listens_there
first_spot g (suc (suc zero)) = Spot.delays_c
first_spot g (suc (suc (suc i))) = Spot.rests (suc (suc (suc i)))

pub spot_at : (g : Global) (i : ℕ) (k : Todo) → IsPoint (reading_late g) i k → Spot g i k
spot_at g i k point =
    closed_points (Spot g i) (first_todo (reading_late g) i) (first_spot g i) (λ l next s h. spot_behind g i l next (way_at g i l next s h))
    (λ x rest s. spot_rest g i (x ∷ rest) s) k point

-- ---- the first slot

first_early : (g : Global) (i : ℕ) → Early g i (first_todo (reading_late g) i)
unfolding out-Statement denote.Hole.Carrier.out
first_early g zero = Early.delays_a
first_early g (suc zero) = Early.listens_there
first_early g (suc (suc zero)) = Early.delays_c
first_early g (suc (suc (suc i))) = Early.rests (suc (suc (suc i)))

pub early_spot : (g : Global) (i : ℕ) (k : Todo) → Early g i k → Spot g i k
early_spot g _ _ Early.delays_a = Spot.delays_a
early_spot g _ _ Early.listens_there = Spot.listens_there
early_spot g _ _ Early.delays_c = Spot.delays_c
early_spot g _ _ (Early.rests i) = Spot.rests i

early_behind : (g : Global) (i : ℕ) (k : Todo) (next : Next) → Way g i k next → is_zero_time next ≡ true → Early g i (todo_after next)
early_behind g _ _ _ Way.delays_a still = absurd (false≢true still)
early_behind g _ _ _ Way.sets_a still = Early.rests 0
early_behind g _ _ _ Way.listens_there still = absurd (false≢true still)
early_behind g _ _ _ Way.sets_b still = Early.rests 1
early_behind g _ _ _ Way.delays_c still = absurd (false≢true still)
early_behind g _ _ _ Way.copies_there still = Early.rests 2
early_behind g _ _ _ (Way.rests i) still = Early.rests i

-- where paths that take no time lead from the start
early_path : (g : Global) (i : ℕ) (k : Todo) (ok : Next → Bool) → ((next : Next) → ok next ≡ true → is_zero_time next ≡ true) →
    Path ok (first_todo (reading_late g) i) k → Early g i k
early_path g i k ok still path =
    closed_paths (Early g i) ok (first_todo (reading_late g) i) (first_early g i)
    (λ l next s h may. early_behind g i l next (way_at g i l next (early_spot g i l s) h) (still next may)) k path

pub early_at : (g : Global) (i : ℕ) (k : Todo) → IsSlot0 (reading_late g) false i k → Early g i k
early_at g i k path = early_path g i k is_zero_time (λ next may. may) path

pub prologue_at : (g : Global) (i : ℕ) (k : Todo) → IsPrologue (reading_late g) false i k → Early g i k
prologue_at g i k path = early_path g i k is_plain plain_is_still path

pub early_now : (g : Global) (i v : ℕ) (k : Todo) → Early g i k → WritesNow (reading_late g) k v → ⊥
unfolding out-Statement denote.Hole.Carrier.out
early_now g _ v _ Early.delays_a w = no_signal (reading_late g) v w
early_now g _ v _ Early.listens_there w = no_signal (reading_late g) v w
early_now g _ v _ Early.delays_c w = no_signal (reading_late g) v w
early_now g _ v _ (Early.rests i) w = no_signal (reading_late g) v w

pub early_reads : (g : Global) (i : ℕ) (k : Todo) (r : BitRange) → Early g i k → ReadsNow (reading_late g) k r → ⊥
unfolding out-Statement denote.Hole.Carrier.out
early_reads g _ _ r Early.delays_a h = none_in r h.0
early_reads g _ _ r Early.listens_there h = none_in r h.0
early_reads g _ _ r Early.delays_c h = none_in r h.0
early_reads g _ _ r (Early.rests i) h = none_in r h.0

-- ---- what is done at its points

-- three of them write by `=`
pub data Wrote (g : Global) : ℕ → Todo → ℕ → Type 0 where
  sets_a : Wrote g 0 (set g 0) 0
  sets_b : Wrote g 1 (set g 1) 1
  copies_there : Wrote g 2 (copying g) 2

pub wrote : (g : Global) (i v : ℕ) (k : Todo) → Spot g i k → WritesNow (reading_late g) k v → Wrote g i k v
unfolding out-Statement denote.Hole.Carrier.out
wrote g _ v _ Spot.delays_a w = absurd (no_signal (reading_late g) v w)
wrote g _ v _ Spot.sets_a w = subst (Wrote g 0 (set g 0)) (one_signal (reading_late g) (slice_range (the_bit 0)) v w) Wrote.sets_a
wrote g _ v _ Spot.listens_there w = absurd (no_signal (reading_late g) v w)
wrote g _ v _ Spot.sets_b w = subst (Wrote g 1 (set g 1)) (one_signal (reading_late g) (slice_range (the_bit 1)) v w) Wrote.sets_b
wrote g _ v _ Spot.delays_c w = absurd (no_signal (reading_late g) v w)
wrote g _ v _ Spot.copies_there w = subst (Wrote g 2 (copying g)) (one_signal (reading_late g) (slice_range (the_bit 2)) v w) Wrote.copies_there
wrote g _ v _ (Spot.rests i) w = absurd (no_signal (reading_late g) v w)

-- none by `<=`
pub updates : (g : Global) (i v : ℕ) (k : Todo) → Spot g i k → WritesLater (reading_late g) k v → ⊥
unfolding out-Statement denote.Hole.Carrier.out
updates g _ v _ Spot.delays_a w = no_signal (reading_late g) v w
updates g _ v _ Spot.sets_a w = no_signal (reading_late g) v w
updates g _ v _ Spot.listens_there w = no_signal (reading_late g) v w
updates g _ v _ Spot.sets_b w = no_signal (reading_late g) v w
updates g _ v _ Spot.delays_c w = no_signal (reading_late g) v w
updates g _ v _ Spot.copies_there w = no_signal (reading_late g) v w
updates g _ v _ (Spot.rests i) w = no_signal (reading_late g) v w

pub early_any : (g : Global) (i v : ℕ) (k : Todo) → Early g i k → WritesAny (reading_late g) k v → ⊥
early_any g i v k s (inl w) = early_now g i v k s w
early_any g i v k s (inr w) = updates g i v k (early_spot g i k s) w

-- each is the last thing that is done
pub wrote_last : (g : Global) (i v : ℕ) (k : Todo) (next : Next) → Wrote g i k v → Goes k next → todo_after next ≡ []
unfolding out-Statement denote.Hole.Carrier.out
wrote_last g _ _ _ next Wrote.sets_a h = only (λ n. todo_after n ≡ []) next _ h refl
wrote_last g _ _ _ next Wrote.sets_b h = only (λ n. todo_after n ≡ []) next _ h refl
wrote_last g _ _ _ next Wrote.copies_there h = only (λ n. todo_after n ≡ []) next _ h refl

-- one reads
pub data Read (g : Global) : ℕ → Todo → BitRange → Type 0 where
  copies_there : Read g 2 (copying g) (whole 1)

pub read_at : (g : Global) (i : ℕ) (k : Todo) (r : BitRange) → Spot g i k → ReadsNow (reading_late g) k r → Read g i k r
unfolding out-Statement denote.Hole.Carrier.out
read_at g _ _ r Spot.delays_a h = absurd (none_in r h.0)
read_at g _ _ r Spot.sets_a h = absurd (none_in r (subst (λ rs. Contains rs r) (reads_number (One ∷ [])) (reads_source (e.Number (One ∷ [])) r h.0)))
read_at g _ _ r Spot.listens_there h = absurd (none_in r h.0)
read_at g _ _ r Spot.sets_b h = absurd (none_in r (subst (λ rs. Contains rs r) (reads_number (One ∷ [])) (reads_source (e.Number (One ∷ [])) r h.0)))
read_at g _ _ r Spot.delays_c h = absurd (none_in r h.0)
read_at g _ _ r Spot.copies_there h =
    subst (Read g 2 (copying g)) (one_in (whole 1) r (subst (λ rs. Contains rs r) (reads_operand 1) (reads_source (operand 1) r h.0))) Read.copies_there
read_at g _ _ r (Spot.rests i) h = absurd (none_in r h.0)

-- none is a `$display`
pub shows : (g : Global) (i : ℕ) (k : Todo) (r : BitRange) → Spot g i k → ShowsNow (reading_late g) k r → ⊥
unfolding out-Statement denote.Hole.Carrier.out
shows g _ _ r Spot.delays_a h = none_in r h.0
shows g _ _ r Spot.sets_a h = none_in r h.0
shows g _ _ r Spot.listens_there h = none_in r h.0
shows g _ _ r Spot.sets_b h = none_in r h.0
shows g _ _ r Spot.delays_c h = none_in r h.0
shows g _ _ r Spot.copies_there h = none_in r h.0
shows g _ _ r (Spot.rests i) h = none_in r h.0

-- ---- its controls

pub record IsEvent (i : ℕ) (terms : List EventTerm) : Type 0 where
  pub process : i ≡ 1
  pub terms_are : rise_of 0 ∷ [] ≡ terms

event_at : (g : Global) (i : ℕ) (k : Todo) (next : Next) → Way g i k next → (number : ℕ) (terms : List EventTerm) (l : Todo) →
    next ≡ wait number terms l → IsEvent i terms
event_at g _ _ _ Way.delays_a number terms l e = cc
event_at g _ _ _ Way.sets_a number terms l e = cc
event_at g _ _ _ Way.listens_there number terms l e = record { process = refl; terms_are = cc }
event_at g _ _ _ Way.sets_b number terms l e = cc
event_at g _ _ _ Way.delays_c number terms l e = cc
event_at g _ _ _ Way.copies_there number terms l e = cc
event_at g _ _ _ (Way.rests i) number terms l e = cc

pub event : (g : Global) (i : ℕ) (k l : Todo) (number : ℕ) (terms : List EventTerm) → IsPoint (reading_late g) i k → Goes k (wait number terms l) →
    IsEvent i terms
event g i k l number terms point h =
    event_at g i k (wait number terms l) (way_at g i k (wait number terms l) (spot_at g i k point) h) number terms l refl

-- `#1` of the first process, and `#2` of the third one
pub record IsPause (i number ticks : ℕ) : Type 0 where
  pub number_is : 0 ≡ number
  pub which : (i ≡ 0) × (1 ≡ ticks) ⊎ (i ≡ 2) × (2 ≡ ticks)

pause_at : (g : Global) (i : ℕ) (k : Todo) (next : Next) → Way g i k next → (number ticks : ℕ) (l : Todo) → next ≡ after number ticks l →
    IsPause i number ticks
pause_at g _ _ _ Way.delays_a number ticks l e = record { number_is = cc; which = inl (refl, cc) }
pause_at g _ _ _ Way.sets_a number ticks l e = cc
pause_at g _ _ _ Way.listens_there number ticks l e = cc
pause_at g _ _ _ Way.sets_b number ticks l e = cc
pause_at g _ _ _ Way.delays_c number ticks l e = record { number_is = cc; which = inr (refl, cc) }
pause_at g _ _ _ Way.copies_there number ticks l e = cc
pause_at g _ _ _ (Way.rests i) number ticks l e = cc

pub pause : (g : Global) (i : ℕ) (k l : Todo) (number ticks : ℕ) → Spot g i k → Goes k (after number ticks l) → IsPause i number ticks
pause g i k l number ticks s h = pause_at g i k (after number ticks l) (way_at g i k (after number ticks l) s h) number ticks l refl

-- its event term
pub term_is : (g : Global) (i : ℕ) (t : EventTerm) → HasTerm (reading_late g) i t → (i ≡ 1) × (rise_of 0 ≡ t)
term_is g i t h =
    let there = event g i h.control h.behind h.number h.terms h.point h.goes in
    (there.process, one_in (rise_of 0) t (subst (λ ts. Contains ts t) (sym there.terms_are) h.is))

pub has_rise : (g : Global) → HasTerm (reading_late g) 1 (rise_of 0)
unfolding out-Statement denote.Hole.Carrier.out
has_rise g = record {
  control = listening g;
  number = 0;
  terms = rise_of 0 ∷ [];
  behind = set g 1;
  point = Point.begins;
  goes = Among.first [];
  is = (0, lit< tt, refl);
}

pub edge_signal : (g : Global) → IsEdgeSignal (reading_late g) 0
edge_signal g = record { process = 1; term = rise_of 0; has = has_rise g; edge = refl; of = refl }

pub edge_signal_is : (g : Global) (v : ℕ) → IsEdgeSignal (reading_late g) v → 0 ≡ v
edge_signal_is g v h = ap (λ (t : EventTerm). t.range.signal) (term_is g h.process h.term h.has).1 ∙ h.of

-- the number of the one delay control of the first and of the third process
pub controls_a : (g : Global) → controls_of (reading_late g) 0 ≡ 0 ∷ []
controls_a g = controls_delay g 0 (ticks_before 0) (sets g 0) ∙ ap (λ ns. 0 ∷ ns) (controls_assign 1 (target g 0) (e.Number (One ∷ [])))

pub controls_c : (g : Global) → controls_of (reading_late g) 2 ≡ 0 ∷ []
controls_c g = controls_delay g 0 (ticks_before 2) (copies g) ∙ ap (λ ns. 0 ∷ ns) (controls_assign 1 (target g 2) (operand 1))

-- ---- where a process runs once its delay has ended

pub data AfterDelay (g : Global) : Todo → Type 0 where
  sets_a : AfterDelay g (set g 0)
  copies_there : AfterDelay g (copying g)
  rests : AfterDelay g []

behind_on : (g : Global) (l : Todo) (next : Next) → AfterDelay g l → Goes l next → AfterDelay g (todo_after next)
unfolding out-Statement denote.Hole.Carrier.out
behind_on g _ next AfterDelay.sets_a h = only (λ n. AfterDelay g (todo_after n)) next _ h AfterDelay.rests
behind_on g _ next AfterDelay.copies_there h = only (λ n. AfterDelay g (todo_after n)) next _ h AfterDelay.rests
behind_on g _ next AfterDelay.rests h = only (λ n. AfterDelay g (todo_after n)) next _ h AfterDelay.rests

behind_path : (g : Global) (l k : Todo) → AfterDelay g l → Path is_plain l k → AfterDelay g k
behind_path g l k s path = closed_paths (AfterDelay g) is_plain l s (λ m next s h may. behind_on g m next s h) k path

pub behind_plain : (g : Global) (k : Todo) (next : Next) → AfterDelay g k → Goes k next → on [] ≡ next
unfolding out-Statement denote.Hole.Carrier.out
behind_plain g _ next AfterDelay.sets_a h = only (λ n. on [] ≡ n) next _ h refl
behind_plain g _ next AfterDelay.copies_there h = only (λ n. on [] ≡ n) next _ h refl
behind_plain g _ next AfterDelay.rests h = only (λ n. on [] ≡ n) next _ h refl

pub runs_behind : (g : Global) (i : ℕ) (c k : Todo) (next : Next) → Way g i c next → (lists : List (List ℕ)) (r : ℕ) →
    DelayEnds (reading_late g) i lists next r → Path is_plain (todo_after next) k → AfterDelay g k
runs_behind g _ _ k _ Way.delays_a lists r ends path = behind_path g (set g 0) k AfterDelay.sets_a path
runs_behind g _ _ k _ Way.sets_a lists r ends path = absurd ends
runs_behind g _ _ k _ Way.listens_there lists r ends path = absurd ends
runs_behind g _ _ k _ Way.sets_b lists r ends path = absurd ends
runs_behind g _ _ k _ Way.delays_c lists r ends path = behind_path g (copying g) k AfterDelay.copies_there path
runs_behind g _ _ k _ Way.copies_there lists r ends path = absurd ends
runs_behind g _ _ k _ (Way.rests i) lists r ends path = absurd ends

-- the residue at which a delay ends, by lists that have one residue each
pub ends_at : (g : Global) (i one : ℕ) (c : Todo) (next : Next) → Way g i c next → (lists : List (List ℕ)) (r : ℕ) → (one ∷ []) ∷ [] ≡ lists →
    DelayEnds (reading_late g) i lists next r → one ≡ r
ends_at g _ one _ _ Way.delays_a lists r are ends = in_list (controls_of (reading_late g) 0) lists one r (controls_a g) are ends
ends_at g _ one _ _ Way.sets_a lists r are ends = absurd ends
ends_at g _ one _ _ Way.listens_there lists r are ends = absurd ends
ends_at g _ one _ _ Way.sets_b lists r are ends = absurd ends
ends_at g _ one _ _ Way.delays_c lists r are ends = in_list (controls_of (reading_late g) 2) lists one r (controls_c g) are ends
ends_at g _ one _ _ Way.copies_there lists r are ends = absurd ends
ends_at g _ one _ _ (Way.rests i) lists r are ends = absurd ends

-- ---- its texts

-- the process of a number writes the signal of this number
pub data Written : ℕ → ℕ → Type 0 where
  first : Written 0 0
  second : Written 1 1
  third : Written 2 2

writes_first : (g : Global) → outputs (reading_late g) 0 ≡ slice_range (the_bit 0) ∷ []
writes_first g = writes_delay g 0 (ticks_before 0) (sets g 0) ∙ writes_assign 1 (target g 0) (e.Number (One ∷ []))

writes_second : (g : Global) → outputs (reading_late g) 1 ≡ slice_range (the_bit 1) ∷ []
writes_second g = writes_event g 0 (one_of g (rise_of 0)) (sets g 1) ∙ writes_assign 1 (target g 1) (e.Number (One ∷ []))

writes_third : (g : Global) → outputs (reading_late g) 2 ≡ slice_range (the_bit 2) ∷ []
writes_third g = writes_delay g 0 (ticks_before 2) (copies g) ∙ writes_assign 1 (target g 2) (operand 1)

abbrev Lists : Global → ℕ → List BitRange → Type 0
Lists g v rs = ListsSignal (reading_late g) rs v

pub written : (g : Global) (i v : ℕ) → Writes (reading_late g) i v → Written i v
written g zero v w = subst (Written 0) (one_signal (reading_late g) (slice_range (the_bit 0)) v (subst (Lists g v) (writes_first g) w)) Written.first
written g (suc zero) v w = subst (Written 1) (one_signal (reading_late g) (slice_range (the_bit 1)) v (subst (Lists g v) (writes_second g) w)) Written.second
written g (suc (suc zero)) v w = subst (Written 2) (one_signal (reading_late g) (slice_range (the_bit 2)) v (subst (Lists g v) (writes_third g) w)) Written.third
written g (suc (suc (suc i))) v w = absurd (no_signal (reading_late g) v w)

one_listed : (g : Global) (r : BitRange) → ListsSignal (reading_late g) (r ∷ []) r.signal
one_listed g r = record { range = r; listed = ((0, lit< tt, refl), tt); of = refl }

pub first_writes : (g : Global) → Writes (reading_late g) 0 0
first_writes g = subst (Lists g 0) (sym (writes_first g)) (one_listed g (slice_range (the_bit 0)))

pub second_writes : (g : Global) → Writes (reading_late g) 1 1
second_writes g = subst (Lists g 1) (sym (writes_second g)) (one_listed g (slice_range (the_bit 1)))

pub third_writes : (g : Global) → Writes (reading_late g) 2 2
third_writes g = subst (Lists g 2) (sym (writes_third g)) (one_listed g (slice_range (the_bit 2)))
