-- Whole executions: slot by slot each process that is no block makes the same lines.
use Rattle.std.proofs.Common.{Bool, ◌≡◌, ℕ, zero, suc, ◌+◌, ◌-◌, ◌<◌, ◌⊎◌, true, false, cond, filter, not, None, List, [], ◌∷◌, ◌++◌, leb, refl, sym, ◌∙◌, ap, subst, inl, inr, arith, append-nil}
use Rattle.std.proofs.lemmas.Bool.{cases_lt, lt-leb, not-true, true≢false}
use Rattle.std.proofs.lemmas.List.Elements.{filter-append}
use Rattle.vs_design.specs.Parts.{Parts}
use Rattle.vs_design.specs.Traces.{Line}
use Rattle.vs_process.specs.declared.moves.Grain.{Grain}
use Rattle.vs_process.specs.declared.moves.Move.{Move}
use Rattle.vs_process.specs.declared.moves.Move.TheVariants.{Step, Evaluate, Propagate, Make, Rouse, Activate, EndSlot}
use Rattle.vs_process.specs.States.{State, start}
use Rattle.vs_process.specs.Executions.{allowed, apply, after, Legal, after_slot}
use Rattle.vs_process.proofs.Times.{enabled_of}
use Rattle.vs_process.specs.Threads.{opening}
use Rattle.vs_process.proofs.ThreadAssigns.{DrivesWell}
use Rattle.vs_independence.specs.Discipline.{BeginsSlot}
use Rattle.vs_independence.specs.Displays.{DisciplineMakesDisplaysAlike, DisplaySlot, SameDisplays, SameDisplaySlot, ShowsApart, display_slots, displayed, displays, ended_display, is_display_by, lines_of_process, lines_so_far}
use Rattle.vs_independence.proofs.Running.{Apart}
use Rattle.vs_independence.proofs.Times.{goes_on}
use Rattle.vs_independence.proofs.InnerMoves.{IsInner, sure}
use Rattle.vs_independence.proofs.Ends.{Alike, all_future, same_threads, stopped_of}
use Rattle.vs_independence.proofs.Tells.{Tells, one_telling, tells_alike, tells_opens}
use Rattle.vs_independence.proofs.ThreadLines.{Tale, HasThreadLines, inner_tale, tale_ends}
use Rattle.vs_independence.proofs.Whole.{Fits, IsComplete, LastSlot, NoSlot, behind_runs, complete_from, count, cut, cut_legal, cut_starts, further, holds, is_past, last_ends, last_legal, last_slot, ran_after, same_so_far, setting, slot_later, start_runs}

-- what processes show is steady in each slot that an execution begins
abbrev ShowsApartAll : (grain : Grain) (d : Parts) → Fits grain d → Type 0
ShowsApartAll grain d fits = (b : State) → BeginsSlot grain d b → ShowsApart d fits.dis.roles.blocks b

-- where the slot that goes on began
begins : (grain : Grain) (d : Parts) (moves : List Move) → Legal grain d moves → BeginsSlot grain d (after d (cut moves))
begins grain d moves l = record { moves = cut moves; legal = cut_legal grain d moves l; at_start = cut_starts moves; is = refl }

inner_told : (grain : Grain) (d : Parts) (fits : Fits grain d) → ShowsApartAll grain d fits → (moves : List Move) → Legal grain d moves → (m : Move) → IsInner m → allowed grain d (after d moves) m ≡ true →
    Tale d fits.dis.roles.blocks (after d (cut moves)) (after d moves) (lines_so_far d moves) → Tale d fits.dis.roles.blocks (after d (cut moves)) (apply m (after d moves)) (lines_so_far d moves ++ displayed m (after d moves))
inner_told grain d fits shows moves l m inner h tale =
    let at_here = holds grain d fits moves l in
    inner_tale d fits.dis.roles (setting grain d fits) (after d (cut moves)) (after d moves) (is_past moves) (ran_after d fits.dis.roles moves)
    at_here.apart (shows (after d (cut moves)) (begins grain d moves l)) at_here.moment.blocks (lines_so_far d moves) m inner (enabled_of grain d (after d moves) m h).1 tale

-- at each moment of an execution each process has made the lines of its thread
told : (grain : Grain) (d : Parts) (fits : Fits grain d) → ShowsApartAll grain d fits → (moves : List Move) → Legal grain d moves → Tale d fits.dis.roles.blocks (after d (cut moves)) (after d moves) (lines_so_far d moves)
told grain d fits shows [] l = inl (record {
  th = λ i. opening fits.dis.roles.blocks (start d) i None;
  runs = start_runs d fits.dis.roles (setting grain d fits).z;
  tells = λ i other. tells_opens d fits.dis.roles.blocks (start d) i;
})
told grain d fits shows (Step i ∷ moves) l = inner_told grain d fits shows moves l.0 (Step i) tt l.1 (told grain d fits shows moves l.0)
told grain d fits shows (Evaluate j ∷ moves) l = inner_told grain d fits shows moves l.0 (Evaluate j) tt l.1 (told grain d fits shows moves l.0)
told grain d fits shows (Propagate j ∷ moves) l = inner_told grain d fits shows moves l.0 (Propagate j) tt l.1 (told grain d fits shows moves l.0)
told grain d fits shows (Make i ∷ moves) l = inner_told grain d fits shows moves l.0 (Make i) tt l.1 (told grain d fits shows moves l.0)
told grain d fits shows (Rouse ∷ moves) l = inner_told grain d fits shows moves l.0 Rouse tt l.1 (told grain d fits shows moves l.0)
told grain d fits shows (Activate ∷ moves) l = inner_told grain d fits shows moves l.0 Activate tt l.1 (told grain d fits shows moves l.0)
told grain d fits shows (EndSlot ∷ moves) l =
    let b = after d (cut moves) in
    let s = after d moves in
    let roles = fits.dis.roles in
    let set = setting grain d fits in
    let ran0 = ran_after d roles (cut moves) in
    let ran = sure roles (ran_after d roles moves) in
    let e = last_ends grain d fits moves l in
    let g = goes_on s (slot_later d roles set b s ran0 ran (holds grain d fits moves l.0).later e) (all_future d roles set b s ran0 ran e) in
    inl (record {
      th = λ i. opening roles.blocks (after_slot s) i None;
      runs = behind_runs d roles set b s ran0 ran e g.waiting;
      tells = λ i other. tells_opens d roles.blocks (after_slot s) i;
    })

-- ---- two slots

-- processes made the same lines in two slots that began alike
same_lines : (d : Parts) (blocks : ℕ → Bool) → DrivesWell d → (b c s t : State) → Apart d blocks b → Alike b c → (lines more : List Line) → HasThreadLines d blocks b s lines → HasThreadLines d blocks c t more →
    (i : ℕ) → blocks i ≡ false → lines_of_process i lines ≡ lines_of_process i more
same_lines d blocks well b c s t apart al lines more x y i other =
    one_telling d blocks b x.making.before.store x.making.th apart (stopped_of d blocks well b s x.making) i (lines_of_process i lines) (lines_of_process i more) (x.tells i other)
    (subst (λ z. Tells d blocks b i z (lines_of_process i more)) (sym (same_threads d blocks b c s t well apart al x.making y.making i))
    (tells_alike d blocks b c al.store al.places al.time i (y.making.th i) (lines_of_process i more) (y.tells i other)))

-- ---- slots

same_displays_self : (counts : ℕ → Bool) (ss : List DisplaySlot) → SameDisplays counts ss ss
same_displays_self counts [] = tt
same_displays_self counts (s ∷ ss) = (record { time = refl; lines = λ i is. refl }, same_displays_self counts ss)

same_displays_back : (counts : ℕ → Bool) (ss ts : List DisplaySlot) → SameDisplays counts ss ts → SameDisplays counts ts ss
same_displays_back counts [] [] h = tt
same_displays_back counts (a ∷ ss) (b ∷ ts) h = (record { time = sym h.0.time; lines = λ i is. sym (h.0.lines i is) }, same_displays_back counts ss ts h.1)
same_displays_back counts [] (b ∷ ts) h = absurd h
same_displays_back counts (a ∷ ss) [] h = absurd h

same_displays_then : (counts : ℕ → Bool) (ss ts cs es : List DisplaySlot) → SameDisplays counts ss ts → SameDisplays counts cs es → SameDisplays counts (ss ++ cs) (ts ++ es)
same_displays_then counts [] [] cs es h k = k
same_displays_then counts (a ∷ ss) (b ∷ ts) cs es h k = (h.0, same_displays_then counts ss ts cs es h.1 k)
same_displays_then counts [] (b ∷ ts) cs es h k = absurd h
same_displays_then counts (a ∷ ss) [] cs es h k = absurd h

-- a slot in front of others, where it stands at a moment or before it
abbrev kept_slot : Bool → DisplaySlot → List DisplaySlot → List DisplaySlot
kept_slot t s ss = cond t (s ∷ ss) ss

same_displays_kept : (counts : ℕ → Bool) (t u : Bool) (a b : DisplaySlot) (ss ts : List DisplaySlot) → t ≡ u → SameDisplaySlot counts a b → SameDisplays counts ss ts → SameDisplays counts (kept_slot t a ss) (kept_slot u b ts)
same_displays_kept counts true true a b ss ts e h k = (h, k)
same_displays_kept counts false false a b ss ts e h k = k
same_displays_kept counts true false a b ss ts e h k = cc
same_displays_kept counts false true a b ss ts e h k = cc

-- those to a moment
same_displays_by : (counts : ℕ → Bool) (until : ℕ) (ss ts : List DisplaySlot) → SameDisplays counts ss ts → SameDisplays counts (filter (is_display_by until) ss) (filter (is_display_by until) ts)
same_displays_by counts until [] [] h = tt
same_displays_by counts until (a ∷ ss) (b ∷ ts) h =
    same_displays_kept counts (is_display_by until a) (is_display_by until b) a b (filter (is_display_by until) ss) (filter (is_display_by until) ts) (ap (λ n. leb n until) h.0.time) h.0 (same_displays_by counts until ss ts h.1)
same_displays_by counts until [] (b ∷ ts) h = absurd h
same_displays_by counts until (a ∷ ss) [] h = absurd h

-- the last slot that ended, by the lines made in it
abbrev Grows : Parts → List Move → List Move → Type 0
Grows d moves before = display_slots d moves ≡ display_slots d before ++ ended_display EndSlot (after d before) (lines_so_far d before)

last_display : (d : Parts) (moves before : List Move) → cut moves ≡ EndSlot ∷ before → Grows d moves before
last_display d [] before e = cc
last_display d (Step i ∷ moves) before e = append-nil (display_slots d moves) ∙ last_display d moves before e
last_display d (Evaluate j ∷ moves) before e = append-nil (display_slots d moves) ∙ last_display d moves before e
last_display d (Propagate j ∷ moves) before e = append-nil (display_slots d moves) ∙ last_display d moves before e
last_display d (Make i ∷ moves) before e = append-nil (display_slots d moves) ∙ last_display d moves before e
last_display d (Rouse ∷ moves) before e = append-nil (display_slots d moves) ∙ last_display d moves before e
last_display d (Activate ∷ moves) before e = append-nil (display_slots d moves) ∙ last_display d moves before e
last_display d (EndSlot ∷ moves) before e = let same : moves ≡ before = cc in subst (Grows d (EndSlot ∷ moves)) same refl

no_display : (d : Parts) (moves : List Move) → cut moves ≡ [] → display_slots d moves ≡ []
no_display d [] e = refl
no_display d (Step i ∷ moves) e = append-nil (display_slots d moves) ∙ no_display d moves e
no_display d (Evaluate j ∷ moves) e = append-nil (display_slots d moves) ∙ no_display d moves e
no_display d (Propagate j ∷ moves) e = append-nil (display_slots d moves) ∙ no_display d moves e
no_display d (Make i ∷ moves) e = append-nil (display_slots d moves) ∙ no_display d moves e
no_display d (Rouse ∷ moves) e = append-nil (display_slots d moves) ∙ no_display d moves e
no_display d (Activate ∷ moves) e = append-nil (display_slots d moves) ∙ no_display d moves e
no_display d (EndSlot ∷ moves) e = cc

-- ---- executions

-- the processes that are no blocks
abbrev plain : (grain : Grain) (d : Parts) → Fits grain d → ℕ → Bool
plain grain d fits i = not (fits.dis.roles.blocks i)

-- in executions in which as many slots have ended, these processes made the same lines in each
same_displays : (grain : Grain) (d : Parts) (fits : Fits grain d) → ShowsApartAll grain d fits → (n : ℕ) (xs ys : List Move) → Legal grain d xs → Legal grain d ys → count xs ≡ n → count ys ≡ n →
    SameDisplays (plain grain d fits) (display_slots d xs) (display_slots d ys)
same_displays grain d fits shows zero xs ys lx ly cx cy = start_cases (last_slot d xs) (last_slot d ys)
  where
    start_cases : (NoSlot d xs ⊎ LastSlot d xs) → (NoSlot d ys ⊎ LastSlot d ys) → SameDisplays (plain grain d fits) (display_slots d xs) (display_slots d ys)
    start_cases (inr x) other = absurd (let e : suc (count x.before) ≡ 0 = sym x.counts ∙ cx in omega (arith, e))
    start_cases (inl x) (inr y) = absurd (let e : suc (count y.before) ≡ 0 = sym y.counts ∙ cy in omega (arith, e))
    start_cases (inl x) (inl y) =
        subst (SameDisplays (plain grain d fits) (display_slots d xs)) (no_display d xs x.is ∙ sym (no_display d ys y.is)) (same_displays_self (plain grain d fits) (display_slots d xs))
same_displays grain d fits shows (suc n) xs ys lx ly cx cy = step_cases (same_displays grain d fits shows n) (last_slot d xs) (last_slot d ys)
  where
    step_cases : ((xs ys : List Move) → Legal grain d xs → Legal grain d ys → count xs ≡ n → count ys ≡ n → SameDisplays (plain grain d fits) (display_slots d xs) (display_slots d ys)) →
        (NoSlot d xs ⊎ LastSlot d xs) → (NoSlot d ys ⊎ LastSlot d ys) → SameDisplays (plain grain d fits) (display_slots d xs) (display_slots d ys)
    step_cases below (inl x) other = absurd (let e : 0 ≡ suc n = sym x.counts ∙ cx in omega (arith, e))
    step_cases below (inr x) (inl y) = absurd (let e : 0 ≡ suc n = sym y.counts ∙ cy in omega (arith, e))
    step_cases below (inr x) (inr y) =
        let kx = last_legal grain d xs x.before lx x.is in
        let ky = last_legal grain d ys y.before ly y.is in
        let nx : count x.before ≡ n = let e : suc (count x.before) ≡ suc n = sym x.counts ∙ cx in omega (arith, e) in
        let ny : count y.before ≡ n = let e : suc (count y.before) ≡ suc n = sym y.counts ∙ cy in omega (arith, e) in
        let r = same_so_far grain d fits n x.before y.before kx.0 ky.0 nx ny in
        let blocks = fits.dis.roles.blocks in
        let bx = after d (cut x.before) in
        let by = after d (cut y.before) in
        let sx = after d x.before in
        let sy = after d y.before in
        let apart = (holds grain d fits x.before kx.0).apart in
        let tx = tale_ends d blocks bx sx apart (lines_so_far d x.before) (enabled_of grain d sx EndSlot kx.1).1 (told grain d fits shows x.before kx.0) in
        let ty = tale_ends d blocks by sy (holds grain d fits y.before ky.0).apart (lines_so_far d y.before) (enabled_of grain d sy EndSlot ky.1).1 (told grain d fits shows y.before ky.0) in
        let time : sx.time ≡ sy.time = tx.making.slot.time ∙ r.alike.time ∙ sym ty.making.slot.time in
        let ended : SameDisplays (plain grain d fits) (ended_display EndSlot sx (lines_so_far d x.before)) (ended_display EndSlot sy (lines_so_far d y.before)) = (
          record {
            time = time;
            lines = λ i is. same_lines d blocks (setting grain d fits).well bx by sx sy apart r.alike (lines_so_far d x.before) (lines_so_far d y.before) tx ty i (not-true (blocks i) is);
          },
          tt,
        ) in
        subst (λ l. SameDisplays (plain grain d fits) l (display_slots d ys)) (sym (last_display d xs x.before x.is))
        (subst (λ l. SameDisplays (plain grain d fits) (display_slots d x.before ++ ended_display EndSlot sx (lines_so_far d x.before)) l) (sym (last_display d ys y.before y.is))
        (same_displays_then (plain grain d fits) (display_slots d x.before) (display_slots d y.before)
        (ended_display EndSlot sx (lines_so_far d x.before)) (ended_display EndSlot sy (lines_so_far d y.before)) (below x.before y.before kx.0 ky.0 nx ny) ended))

-- a slot past the moment is left out
past_left_out : (until : ℕ) (s : State) (lines : List Line) → until < s.time → filter (is_display_by until) (ended_display EndSlot s lines) ≡ []
past_left_out until s lines lt = ap (λ b. cond b (ended_display EndSlot s lines) []) (lt-leb s.time until lt)

-- an execution in which more slots have ended than in one that is complete to a moment: the further ones are past it
further_displays : (grain : Grain) (d : Parts) (fits : Fits grain d) → ShowsApartAll grain d fits → (until : ℕ) (xs : List Move) → Legal grain d xs → IsComplete until (after d xs) → (k : ℕ) (ys : List Move) → Legal grain d ys → count ys ≡ count xs + k →
    SameDisplays (plain grain d fits) (displays d ys until) (displays d xs until)
further_displays grain d fits shows until xs lx complete zero ys ly c =
    let n : count ys ≡ count xs = omega (arith, c) in
    same_displays_by (plain grain d fits) until (display_slots d ys) (display_slots d xs) (same_displays grain d fits shows (count xs) ys xs ly lx n refl)
further_displays grain d fits shows until xs lx complete (suc k) ys ly c = step_cases (further_displays grain d fits shows until xs lx complete k) (last_slot d ys)
  where
    at_past : (y : LastSlot d ys) → Legal grain d (EndSlot ∷ y.before) → IsComplete until (after d y.before) → SameDisplays (plain grain d fits) (displays d y.before until) (displays d xs until) → SameDisplays (plain grain d fits) (displays d ys until) (displays d xs until)
    at_past y ky (inl over) same = absurd (true≢false (sym over ∙ (enabled_of grain d (after d y.before) EndSlot ky.1).0))
    at_past y ky (inr lt) same =
        let last = ended_display EndSlot (after d y.before) (lines_so_far d y.before) in
        subst (λ l. SameDisplays (plain grain d fits) l (displays d xs until))
        (sym (ap (filter (is_display_by until)) (last_display d ys y.before y.is) ∙ filter-append (is_display_by until) (display_slots d y.before) last
        ∙ ap (λ l. displays d y.before until ++ l) (past_left_out until (after d y.before) (lines_so_far d y.before) lt) ∙ append-nil (displays d y.before until)))
        same

    step_cases : ((ys : List Move) → Legal grain d ys → count ys ≡ count xs + k → SameDisplays (plain grain d fits) (displays d ys until) (displays d xs until)) → (NoSlot d ys ⊎ LastSlot d ys) →
        SameDisplays (plain grain d fits) (displays d ys until) (displays d xs until)
    step_cases below (inl y) = absurd (let e : 0 ≡ count xs + suc k = sym y.counts ∙ c in omega (arith, e))
    step_cases below (inr y) =
        let ky = last_legal grain d ys y.before ly y.is in
        let ny : count y.before ≡ count xs + k = let e : suc (count y.before) ≡ count xs + suc k = sym y.counts ∙ c in omega (arith, e) in
        at_past y ky (further grain d fits until xs lx complete k y.before ky.0 ny).complete (below y.before ky.0 ny)

-- the theorem
pub displays_alike : DisciplineMakesDisplaysAlike
displays_alike grain d formed dis shows until xs ys lx ly cx cy =
    elim (cases_lt (count xs) (count ys)) [
      | inl lt ↦
          same_displays_back (plain grain d fits) (displays d ys until) (displays d xs until)
          (further_displays grain d fits shows until xs lx (complete_from until (after d xs) cx) (count ys - count xs) ys ly (omega (arith, lt)))
      | inr le ↦ further_displays grain d fits shows until ys ly (complete_from until (after d ys) cy) (count xs - count ys) xs lx (omega (arith, le))
    ]
  where
    fits : Fits grain d
    fits = record { formed = formed; dis = dis }
