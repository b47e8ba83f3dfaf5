-- The first quiet moment: what the blocks that start cold follow is as in the settled first store, so that each has what a run would give.
use Rattle.std.proofs.Common.{◌≡◌, ℕ, ◌||◌, ◌⊎◌, Bool, true, false, Some, List, get_or, slice_get, refl, sym, ◌∙◌, ap, subst, inl, inr, eq-eqb, eqb-true, ◌&&◌}
use Rattle.vs_design.specs.Parts.{Parts}
use Rattle.vs_design.specs.Stores.{Store, put, start_store, is_driven, word_in}
use Rattle.vs_design.specs.Uses as uses
use Rattle.vs_design.specs.Uses.{covers, reads, is_of, writes_signal, all_words}
use Rattle.vs_design.specs.declared.range.BitRange.{BitRange}
use Rattle.vs_process.specs.Bits.{HasBit}
use Rattle.vs_process.specs.BlockDrivers.{starter, Start, cold, sources, StartsAs, StartsCold, IsSettledStart, AgreeOn, IsSource, Roles, SameOutputs, outputs, puts_out, control, home, puts_into}
use Rattle.vs_independence.specs.Discipline.{Leads, stays, goes_through, goes_past, past, Reaches, here, through, IsOrdered}
use Rattle.vs_process.proofs.Settle.{AllIdle, assign_leaves}
use Rattle.vs_design.specs.declared.design.Assign.{Assign}
use Rattle.vs_process.specs.States.{AssignState, State}
use Rattle.vs_process.proofs.Assigns.{AssignsSound, drives, nothing_changed}
use Rattle.vs_independence.proofs.BlocksAt.{Blocked, BlocksAt, text_at}
use Rattle.vs_independence.proofs.Compare.{Comparing, Hangs, compared, compared_inputs}
use Rattle.std.specs.List.{Contains, list_any}
use Rattle.vs_process.proofs.ThreadAssigns.{DrivesWell}
use Rattle.vs_process.proofs.Fares.{Fares, Follows, agree_then, covered_puts, or_last, or_none, or_some, fed, fresh, unfed, woken, inside}
use Rattle.vs_process.specs.declared.gait.Gait.TheVariants.{Fresh, Inside, Woken}
use Rattle.vs_process.specs.declared.gait.Gait.{Gait}
use Rattle.vs_process.proofs.Held.{HasBlock, held}
use Rattle.vs_process.specs.Places.{Place, Todo, is_going, ended, going}
use Rattle.vs_independence.proofs.Running.{Sources}
use Rattle.vs_process.specs.Threads.{Thread, writes}
use Rattle.std.proofs.lemmas.Bool.{and_from, false_from_ne_true, true≢false}
use Rattle.std.proofs.lemmas.Map.Keys.{any_passes_from_place as at_any}
use Rattle.vs_design.specs.vs_logic4.proofs.Basics.{element_of as any_at}
use Rattle.vs_process.proofs.Ranges.{assigned_fixed, covered_signal, covers_signal, fixed_write}
use Rattle.vs_process.specs.Steps.{assignment}
use Rattle.vs_process.proofs.ThreadLists.{contains_at}
use Rattle.vs_process.specs.vs_eval.specs.Laws.{digit_in, digit_of}
use Rattle.vs_process.proofs.Digits.{same_stores}
use Rattle.vs_process.proofs.Values.{same_unchanged, unchanged}
use Rattle.vs_process.specs.vs_eval.specs.Values.{target_value}
use Rattle.vs_process.proofs.Stores.{shape}

abbrev pub is_cold : Start → Bool
is_cold cold = true
is_cold sources = false
is_cold starter = false

-- ---- the settled first store

settled_left : (d : Parts) → DrivesWell d → (store : Store) → IsSettledStart d store → (j : ℕ) (e : Assign) → slice_get d.assigns j ≡ Some e → put store (fixed_write e.target (target_value e.target e.source store 0)) ≡ store
settled_left d well store settled j e is =
    ap (put store) (sym (assigned_fixed e.target (target_value e.target e.source store 0) store 0 (well.places.fixed j e is)))
    ∙ nothing_changed store (assignment e.target e.source store 0) (settled.settled j e is)

undriven_bit : (d : Parts) (v w n : ℕ) → is_driven d.assigns v ≡ false → drives d.assigns v w n ≡ false
undriven_bit d v w n h = false_from_ne_true (drives d.assigns v w n) (λ hit.
    let by = any_at (λ (e : Assign). list_any (covers v w n) (uses.writes e.target)) d.assigns hit in
    true≢false (sym (at_any (λ (e : Assign). writes_signal e.target v) d.assigns by.0 by.1 by.2 (covered_signal v w n by.1.target by.3)) ∙ h))

-- what blocks put out is there as at the start
settled_outputs : (d : Parts) (roles : Roles) → Blocked d roles → (store : Store) → IsSettledStart d store → (k : ℕ) → roles.blocks k ≡ true → SameOutputs d k store (start_store d)
settled_outputs d roles z store settled k is v w n hit = settled.undriven v w n (undriven_bit d v w n (z.own k v is (covered_puts d k v w n hit)))

abbrev pub Anything : BitRange → Type 0
Anything r = Unit {0}

pub covers_all : (v w n : ℕ) → covers v w n (all_words v) ≡ true
covers_all v w n = and_from (is_of v (all_words v) && true) true (and_from (is_of v (all_words v)) true (eq-eqb v v refl) refl) refl

-- there is one
settled_unique : (d : Parts) (roles : Roles) → DrivesWell d → Blocked d roles → IsOrdered d roles → (a c : Store) → IsSettledStart d a → IsSettledStart d c → a ≡ c
settled_unique d roles well z order a c one other =
    same_stores a c shaped (λ v w n.
    let r : BitRange = all_words v in
    compared d roles a c Anything (record {
      well = well;
      z = z;
      order = order;
      started = one.sized;
      shaped = shaped;
      left_one = settled_left d well a one;
      left_other = settled_left d well c other;
      plain = λ v w n r up at_r none uncovered. one.undriven v w n none ∙ sym (other.undriven v w n none);
      up = λ r q j e up is into named. tt;
      block = λ r k up is into. inl (λ v w n hit. settled_outputs d roles z a one k is v w n hit ∙ sym (settled_outputs d roles z c other k is v w n hit));
    }) v w n r tt (covered v w n))
  where
    shaped : shape a ≡ shape c
    shaped = one.sized ∙ sym other.sized

    covered : (v w n : ℕ) → covers v w n (all_words v) ≡ true
    covered v w n = and_from (is_of v (all_words v) && true) true (and_from (is_of v (all_words v)) true (eq-eqb v v refl) refl) refl

-- ---- the first quiet moment

-- a range leads to the control of a block that starts cold
record IsUp (d : Parts) (roles : Roles) (r : BitRange) : Type 0 where
  block : ℕ
  is : roles.blocks block ≡ true
  cold_one : roles.start block ≡ cold
  range : BitRange
  named : Contains (control d block) range
  leads : Leads d roles.blocks range r

-- what reaches a range reaches what that leads to
leads_on : (d : Parts) (blocks : ℕ → Bool) (u : ℕ) (q r : BitRange) → Leads d blocks q r → Reaches d blocks u r → Reaches d blocks u q
leads_on d blocks u q _ (stays r e) reach = subst (Reaches d blocks u) e reach
leads_on d blocks u q _ (goes_through p r j a is reads into on_it) reach = leads_on d blocks u q r on_it (through p r j a reach is reads into)
leads_on d blocks u q _ (goes_past p r k is named into on_it) reach = leads_on d blocks u q r on_it (past p r k reach is named into)

-- no block with a starter leads to one that starts cold
abbrev pub Unstarted : Parts → Roles → Type 0
Unstarted d roles = (k l : ℕ) (q r : BitRange) → roles.blocks k ≡ true → roles.start k ≡ cold → Contains (control d k) q → roles.blocks l ≡ true → roles.start l ≡ starter →
    puts_into d l r ≡ true → Leads d roles.blocks q r → ⊥

-- before any delay has ended no thread writes what can reach the control of a block
abbrev pub FirstWrites : Parts → (ℕ → Bool) → (ℕ → Thread) → Type 0
FirstWrites d blocks th = (i k u : ℕ) (r : BitRange) → blocks k ≡ true → Contains (control d k) r → writes (th i) u ≡ true → Reaches d blocks u r → ⊥

pub record AtFirst (d : Parts) (roles : Roles) (z : Blocked d roles) (b : State) (store : Store) (assigns : List AssignState) (places : List Place) (th : ℕ → Thread) (time : ℕ) (ran : ℕ → Bool) : Type 0 where
  pub begin : b.store ≡ start_store d
  pub sound : AssignsSound d store assigns
  pub idle : AllIdle assigns
  pub from : Sources d roles.blocks b store th
  pub first : FirstWrites d roles.blocks th
  pub blocks : BlocksAt d roles z false ran time store places
  pub quiet : (k : ℕ) → is_going (get_or places k ended) ≡ false
  -- blocks whose control names sources were never woken
  pub unwoken : (k : ℕ) → roles.blocks k ≡ true → roles.start k ≡ sources → ran k ≡ false

pub agree_back : (d : Parts) (inputs : List BitRange) (k : ℕ) (a c : Store) → AgreeOn d k inputs a c → AgreeOn d k inputs c a
agree_back d inputs k a c same r named other = same_unchanged c a r (sym (unchanged a c r (same r named other)))

goes_loud : (gait : Gait) (todo : Todo) (p : Place) → p ≡ going gait todo → is_going p ≡ false → ⊥
goes_loud gait todo p is quiet = true≢false (sym (ap is_going is) ∙ quiet)

comparing_first : (d : Parts) (roles : Roles) → DrivesWell d → (z : Blocked d roles) → IsOrdered d roles → Unstarted d roles → ((k : ℕ) → roles.blocks k ≡ true → StartsAs d roles.blocks k (roles.start k)) →
    (b : State) (store : Store) (assigns : List AssignState) (places : List Place) (th : ℕ → Thread) (time : ℕ) (ran : ℕ → Bool) → AtFirst d roles z b store assigns places th time ran →
    (star : Store) → IsSettledStart d star → Comparing d roles store star (IsUp d roles)
comparing_first d roles well z order unstarted starts b store assigns places th time ran f star settled = record {
  well = well;
  z = z;
  order = order;
  started = f.blocks.sized;
  shaped = f.blocks.sized ∙ sym settled.sized;
  left_one = λ j e is. assign_leaves d well store assigns f.sound f.idle j e is;
  left_other = settled_left d well star settled;
  plain = λ v w n r up at_r none uncovered. bit v w n r up at_r none uncovered (held d roles.blocks v) ∙ sym (settled.undriven v w n none);
  up = λ r q j e up is into named. record { block = up.block; is = up.is; cold_one = up.cold_one; range = up.range; named = up.named; leads = goes_through q r j e is named into up.leads };
  block = λ r k up is into. at_block r up k into is (f.blocks.fares k is);
}
  where
    source_bit : (v w n : ℕ) (r : BitRange) → IsUp d roles r → covers v w n r ≡ true → ((slice_get store v ≡ slice_get b.store v) ⊎ ((i : ℕ) × (writes (th i) v ≡ true))) → digit_of store v w n ≡ digit_of (start_store d) v w n
    source_bit v w n r up at_r (inl same) = ap (λ o. digit_in (word_in o w) n) (same ∙ ap (λ (s : Store). slice_get s v) f.begin)
    source_bit v w n r up at_r (inr (i, wrote)) =
        absurd (f.first i up.block v up.range up.is up.named wrote (leads_on d roles.blocks v up.range r up.leads (here r (eqb-true r.signal v (covers_signal v w n r at_r)))))

    bit : (v w n : ℕ) (r : BitRange) → IsUp d roles r → covers v w n r ≡ true → drives d.assigns v w n ≡ false → ((k : ℕ) → roles.blocks k ≡ true → list_any (covers v w n) (outputs d k) ≡ false) →
        (IsSource d roles.blocks v ⊎ ((is_driven d.assigns v ≡ true) ⊎ HasBlock d roles.blocks v)) → digit_of store v w n ≡ digit_of (start_store d) v w n
    bit v w n r up at_r none uncovered (inl source) = source_bit v w n r up at_r (f.from.fresh v source)
    bit v w n r up at_r none uncovered (inr (inl driven)) = f.sound.bare v w n driven none
    bit v w n r up at_r none uncovered (inr (inr (k, is, hit))) = f.blocks.bare k v w n is hit (uncovered k is)

    looked_at : (into_r : BitRange) → IsUp d roles into_r → (k : ℕ) → puts_into d k into_r ≡ true → roles.blocks k ≡ true → (r : BitRange) (w n : ℕ) → HasBit d r.signal w n → Contains (roles.inputs k) r → puts_out d k r.signal ≡ false →
        covers r.signal w n r ≡ true → (q : BitRange) × IsUp d roles q × (covers r.signal w n q ≡ true)
    looked_at into_r up k into is r w n bit named other at_r =
        let found = any_at (covers r.signal w n) (control d k) ((z.follows k is).covered r w n bit named other at_r) in
        (found.1, record { block = up.block; is = up.is; cold_one = up.cold_one; range = up.range; named = up.named; leads = goes_past found.1 into_r k is (contains_at (control d k) found.0 found.1 found.2) into up.leads }, found.3)

    cold_same : (k : ℕ) → roles.blocks k ≡ true → Follows d (roles.inputs k) k store → StartsCold d k → AgreeOn d k (roles.inputs k) store star → SameOutputs d k store star
    cold_same k is follows start agree v w n hit =
        let same_star : start.store ≡ star = settled_unique d roles well z order start.store star start.is settled in
        let agreed : AgreeOn d k (roles.inputs k) follows.from start.store =
        subst (λ s. AgreeOn d k (roles.inputs k) follows.from s) (sym same_star) (agree_then d (roles.inputs k) k follows.from store star follows.agrees agree) in
        let made = (z.follows k is).function follows.time 0 follows.from start.store follows.end start.end follows.sized start.is.sized follows.run start.run agreed in
        sym (follows.same v w n hit) ∙ made v w n hit ∙ start.same v w n hit ∙ sym (settled_outputs d roles z star settled k is v w n hit)

    by_start : (r : BitRange) → IsUp d roles r → (k : ℕ) → puts_into d k r ≡ true → roles.blocks k ≡ true → (s : Start) → roles.start k ≡ s → Follows d (roles.inputs k) k store → ran k ≡ true → SameOutputs d k store star ⊎ Hangs d roles store star (IsUp d roles) k
    by_start r up k into is cold e follows some = inr (record {
      same = cold_same k is follows (subst (StartsAs d roles.blocks k) e (starts k is));
      up = looked_at r up k into is;
    })
    by_start r up k into is sources e follows some = absurd (true≢false (sym some ∙ f.unwoken k is e))
    by_start r up k into is starter e follows some = absurd (unstarted up.block k up.range r up.is up.cold_one up.named is e into up.leads)

    at_block : (r : BitRange) → IsUp d roles r → (k : ℕ) → puts_into d k r ≡ true → (is : roles.blocks k ≡ true) → Fares d (roles.inputs k) k (text_at d roles z k is) false (ran k) time store (get_or places k ended) → SameOutputs d k store star ⊎ Hangs d roles store star (IsUp d roles) k
    at_block r up k into is (fresh todo at way same none first) = absurd (goes_loud Fresh todo (get_or places k ended) at (f.quiet k))
    at_block r up k into is (unfed at same none) = inl (λ v w n hit. same v w n hit ∙ sym (settled_outputs d roles z star settled k is v w n hit))
    at_block r up k into is (fed at follows some) = by_start r up k into is (roles.start k) refl follows some
    at_block r up k into is (woken at some) = absurd (goes_loud Woken _ (get_or places k ended) at (f.quiet k))
    at_block r up k into is (inside todo from th at run sized th_at same some) = absurd (goes_loud Inside todo (get_or places k ended) at (f.quiet k))

-- from then on each cold block has what a run of it gives, whether it ran or not
pub first_quiet : (d : Parts) (roles : Roles) → DrivesWell d → (z : Blocked d roles) → IsOrdered d roles → Unstarted d roles → ((k : ℕ) → roles.blocks k ≡ true → StartsAs d roles.blocks k (roles.start k)) →
    (b : State) (store : Store) (assigns : List AssignState) (places : List Place) (th : ℕ → Thread) (time : ℕ) (ran : ℕ → Bool) → AtFirst d roles z b store assigns places th time ran →
    BlocksAt d roles z true (λ k. ran k || is_cold (roles.start k)) time store places
first_quiet d roles well z order unstarted starts b store assigns places th time ran f = record {
  fares = λ k is. at_block k is (f.blocks.fares k is);
  bare = f.blocks.bare;
  sized = f.blocks.sized;
}
  where
    agreed : (k : ℕ) → roles.blocks k ≡ true → roles.start k ≡ cold → (start : StartsCold d k) → AgreeOn d k (roles.inputs k) store start.store
    agreed k is c start =
        compared_inputs d roles store start.store (IsUp d roles) (comparing_first d roles well z order unstarted starts b store assigns places th time ran f start.store start.is) k (looked k is c)
      where
        looked : (k : ℕ) → roles.blocks k ≡ true → roles.start k ≡ cold → (r : BitRange) (w n : ℕ) → HasBit d r.signal w n → Contains (roles.inputs k) r → puts_out d k r.signal ≡ false →
            covers r.signal w n r ≡ true → (q : BitRange) × IsUp d roles q × (covers r.signal w n q ≡ true)
        looked k is c r w n bit named other at_r =
            let found = any_at (covers r.signal w n) (control d k) ((z.follows k is).covered r w n bit named other at_r) in
            (found.1, record { block = k; is = is; cold_one = c; range = found.1; named = contains_at (control d k) found.0 found.1 found.2; leads = stays found.1 refl }, found.3)

    cold_fed : (k : ℕ) (is : roles.blocks k ≡ true) → get_or places k ended ≡ home d k → SameOutputs d k store (start_store d) → (s : Start) → roles.start k ≡ s → ran k ≡ false →
        Fares d (roles.inputs k) k (text_at d roles z k is) true (ran k || is_cold s) time store (get_or places k ended)
    cold_fed k is at same cold e none =
        let start : StartsCold d k = subst (StartsAs d roles.blocks k) e (starts k is) in
        fed at (record {
          time = 0;
          from = start.store;
          end = start.end;
          run = start.run;
          sized = start.is.sized;
          agrees = agree_back d (roles.inputs k) k store start.store (agreed k is e start);
          same = λ v w n hit. start.same v w n hit ∙ sym (same v w n hit);
        }) (or_last (ran k) true refl)
    cold_fed k is at same sources e none = unfed at same (or_none (ran k) false none refl)
    cold_fed k is at same starter e none = unfed at same (or_none (ran k) false none refl)

    at_block : (k : ℕ) (is : roles.blocks k ≡ true) → Fares d (roles.inputs k) k (text_at d roles z k is) false (ran k) time store (get_or places k ended) →
        Fares d (roles.inputs k) k (text_at d roles z k is) true (ran k || is_cold (roles.start k)) time store (get_or places k ended)
    at_block k is (fresh todo at way same none first) = absurd (goes_loud Fresh todo (get_or places k ended) at (f.quiet k))
    at_block k is (unfed at same none) = cold_fed k is at same (roles.start k) refl none
    at_block k is (fed at follows some) = fed at follows (or_some (ran k) (is_cold (roles.start k)) some)
    at_block k is (woken at some) = absurd (goes_loud Woken _ (get_or places k ended) at (f.quiet k))
    at_block k is (inside todo from th at run sized th_at same some) = absurd (goes_loud Inside todo (get_or places k ended) at (f.quiet k))
