-- A design in which a process waits for an edge is disciplined.
use Rattle.std.proofs.Common.{eqb-true, ◌≡◌, ℕ, zero, suc, ◌==◌, ◌⊎◌, true, false, Option, Some, None, List, [], ◌∷◌, get_or, slice_get, refl, sym, ◌∙◌, ap, subst, inl, inr, nat_lt}
use Rattle.std.specs.declared.alloc.Global.{Global}
use Rattle.std.specs.List.{list_any, IsDistinct, Contains}
use Rattle.std.proofs.lemmas.Bool.{or_cases, false≢true, true≢false}
use Rattle.std.proofs.lemmas.List.Elements.{All-nil, All-cons}
use Rattle.std.proofs.lemmas.Option.{none-some, same_Some}
use Rattle.vs_design.specs.vs_logic4.specs.declared.digit.Digit.TheVariants.{One}
use Rattle.vs_design.specs.declared.design.Process.{Process}
use Rattle.vs_design.specs.declared.range.BitRange.{BitRange}
use Rattle.vs_design.specs.declared.statement.EventTerm.{EventTerm}
use Rattle.vs_design.specs.declared.statement.Statement.{out-Statement}
use Rattle.vs_design.specs.declared.statement.Statement.TheVariants as y
use Rattle.vs_design.specs.declared.statement.Statement.TheOpen as f
use Rattle.vs_design.specs.declared.statement.Statement.TheFolds.{fold-roll-Statement}
use Rattle.vs_design.specs.declared.expression.Typed.TheVariants as e
use Rattle.vs_design.specs.declared.expression.Typed.TheOpen as t
use Rattle.vs_design.specs.Statements.{event_terms, event_terms_step, listens}
use Rattle.vs_design.specs.Uses.{is_of, reads}
use Rattle.vs_design.specs.WellFormed.{WellFormed, sound_step, is_sound_statement, numbers_step, numbers, is_sound_process}
use Rattle.vs_design.specs.Stores.{Store, put}
use Rattle.vs_independence.specs.vs_process.specs.declared.moves.Grain.{Grain}
use Rattle.vs_independence.specs.vs_process.specs.declared.moves.Grain.TheVariants as grain
use Rattle.vs_independence.specs.vs_process.specs.declared.moves.Move.{Move}
use Rattle.vs_independence.specs.vs_process.specs.declared.moves.Move.TheVariants.{Step, EndSlot}
use Rattle.vs_independence.specs.vs_process.specs.Executions.{after as state_after, Legal}
use Rattle.vs_independence.specs.vs_process.specs.States.{State}
use Rattle.vs_independence.specs.vs_process.specs.Places.{ended}
use Rattle.vs_independence.specs.Discipline.{BeginsSlot, IsOrdered, KeepsApart, Reaches, here, through as reaches_through, past}
use Rattle.vs_process.specs.Threads.{any_names, is_timed, Awaits, Fired, IsFiredBy, IsThread, IsTimed, MayOpen, Thread, opening}
use Rattle.vs_process.specs.Edges.{one_bit, Copies, itself, through, IsHeard, IsRoot}
use Rattle.vs_process.proofs.Threads.{thread_opens}
use Rattle.vs_laws.specs.Race.{operand, initially, set_to, target}
use Rattle.vs_process.specs.BlockDrivers.{IsSource, no_blocks}
use Rattle.vs_laws.specs.Rise.{ARiseIsDisciplined, rise, sets_late, copies_bit, copies_then, rising, Fires}
use Rattle.vs_laws.proofs.Race.{value_number, size_number, reads_number, reads_operand, size_operand, terms_assign}
use Rattle.vs_design.specs.vs_logic4.proofs.Basics.{declared_at}
use Rattle.vs_design.proofs.FormLemmas.{numbers_Assign as numbers_assign, sound_Assign as sound_assign}
use Rattle.vs_laws.proofs.RiseThreads.{begins, sets_now, listens_first, hears, set_write, Good, all_good, Begun, begun, Shape, shape_of, timed_shape, IsSet, IsCopied, none_written, wrote, none_made, one_in, IsReading, reading, hearing, first_starts}
use Rattle.vs_laws.proofs.Texts.{value_operand}

-- ---- it is well formed

sound_delay : (g : Global) → is_sound_statement (rising g).signals (sets_late g) ≡ is_sound_statement (rising g).signals (set_to g 1 One)
sound_delay g = ap (is_sound_statement (rising g).signals) (sym (y.rolls-Delay 0 _ _)) ∙ fold-roll-Statement _ (sound_step (rising g).signals) (f.Delay 0 _ _)

sound_event : (g : Global) → is_sound_statement (rising g).signals (copies_then g) ≡ is_sound_statement (rising g).signals (copies_bit g)
sound_event g = ap (is_sound_statement (rising g).signals) (sym (y.rolls-Event 0 _ _)) ∙ fold-roll-Statement _ (sound_step (rising g).signals) (f.Event 0 _ _)

numbers_delay : (g : Global) → numbers (sets_late g) ≡ 0 ∷ numbers (set_to g 1 One)
numbers_delay g = ap numbers (sym (y.rolls-Delay 0 _ _)) ∙ fold-roll-Statement (List ℕ) numbers_step (f.Delay 0 _ _)

numbers_event : (g : Global) → numbers (copies_then g) ≡ 0 ∷ numbers (copies_bit g)
numbers_event g = ap numbers (sym (y.rolls-Event 0 _ _)) ∙ fold-roll-Statement (List ℕ) numbers_step (f.Event 0 _ _)

abbrev Sound : Global → Process → Type 0
Sound g p = is_sound_process (rising g).signals p ≡ true

first_sound : (g : Global) → Sound g (initially g 48 (sets_late g))
first_sound g = simp (sound_delay, numbers_delay, sound_assign, numbers_assign, reads_number, size_number)

second_sound : (g : Global) → Sound g (initially g 49 (copies_then g))
second_sound g = simp (sound_event, numbers_event, sound_assign, numbers_assign, reads_operand, size_operand)

formed : (g : Global) → WellFormed (rising g)
unfolding IsDistinct
formed g = record {
  processes = All-cons (Sound g) (initially g 48 (sets_late g)) (initially g 49 (copies_then g) ∷ []) (first_sound g) (All-cons (Sound g) (initially g 49 (copies_then g)) [] (second_sound g) (All-nil (Sound g)));
  assigns = All-nil _;
  drivers = tt;
  declared = All-cons (λ n. nat_lt n 2 ≡ true) 0 (1 ∷ []) refl (All-cons (λ n. nat_lt n 2 ≡ true) 1 [] refl (All-nil (λ n. nat_lt n 2 ≡ true)));
  declared_once = ((refl, tt), (tt, tt));
  all_declared = declared_at;
  paths = ((refl, tt), (tt, tt));
  names = ((refl, tt), (tt, tt));
  assign_names = tt;
}

-- ---- it fires

fired_moves : List Move
fired_moves = Step 1 ∷ Step 0 ∷ EndSlot ∷ Step 1 ∷ Step 0 ∷ []

legal_fired : (g : Global) (grain : Grain) → Legal grain (rising g) fired_moves
unfolding out-Statement denote.Hole.Carrier.out fired_moves
legal_fired g grain.Statement = (((((tt, refl), refl), refl), refl), simp value_number)
legal_fired g grain.Block = (((((tt, refl), refl), refl), refl), simp value_number)

seen_fired : (g : Global) → slice_get (state_after (rising g) fired_moves).store 1 ≡ Some (one_bit One)
unfolding out-Statement denote.Hole.Carrier.out fired_moves
seen_fired g = simp (value_number, value_operand)

fires : (g : Global) (grain : Grain) → Fires grain g
fires g grain = record { moves = fired_moves; legal = legal_fired g grain; fired = seen_fired g }

-- ---- roots

terms_delay : (g : Global) → event_terms (sets_late g) ≡ []
terms_delay g = ap event_terms (sym (y.rolls-Delay 0 _ _)) ∙ fold-roll-Statement (List EventTerm) event_terms_step (f.Delay 0 _ _) ∙ terms_assign 1 (target g 0) (e.Number (One ∷ []))

terms_event : (g : Global) → event_terms (copies_then g) ≡ rise ∷ event_terms (copies_bit g)
terms_event g = ap event_terms (sym (y.rolls-Event 0 _ _)) ∙ fold-roll-Statement (List EventTerm) event_terms_step (f.Event 0 _ _)

terms_all : (g : Global) → event_terms (copies_then g) ≡ rise ∷ []
terms_all g = terms_event g ∙ ap (λ l. rise ∷ l) (terms_assign 1 (target g 1) (operand 0))

heard_is : (g : Global) (v : ℕ) → IsHeard (rising g) no_blocks.blocks v → v ≡ 0
heard_is g v h = at_number h.number h.is
  where
    at_number : (n : ℕ) → slice_get (rising g).processes n ≡ Some h.process → v ≡ 0
    at_number zero is = absurd (false≢true (ap (list_any (λ (t : EventTerm). is_of v t.range)) (sym (terms_delay g))
        ∙ ap (λ (p : Process). listens p.body v) (same_Some (initially g 48 (sets_late g)) h.process is) ∙ h.hears))
    at_number (suc zero) is = elim (or_cases (0 == v) false (ap (list_any (λ (t : EventTerm). is_of v t.range)) (sym (terms_all g))
        ∙ ap (λ (p : Process). listens p.body v) (same_Some (initially g 49 (copies_then g)) h.process is) ∙ h.hears)) [
          | inl hit ↦ sym (eqb-true 0 v hit)
          | inr none ↦ absurd (false≢true none)
        ]
    at_number (suc (suc n)) is = absurd (none-some h.process is)

copies_itself : (g : Global) (root v : ℕ) → Copies (rising g) root v → root ≡ v
copies_itself g root v (itself bit undriven) = refl
copies_itself g root v (through m n before link bit) = absurd (none-some link.assign link.is)

root_is : (g : Global) (root : ℕ) → IsRoot (rising g) no_blocks.blocks root → root ≡ 0
root_is g root r = copies_itself g root r.signal r.copies ∙ heard_is g r.signal r.heard

edges : (g : Global) (v : ℕ) → IsHeard (rising g) no_blocks.blocks v → (root : ℕ) × Copies (rising g) root v × IsSource (rising g) no_blocks.blocks root
edges g v h = (0, subst (Copies (rising g) 0) (sym (heard_is g v h)) (itself refl refl), record { undriven = refl; unwritten = λ k is. absurd (false≢true is) })

-- ---- the processes of a slot

awaited : (g : Global) (b : State) → Begun g b → (i : ℕ) (th : Thread) (f : Fired) → IsThread (rising g) no_blocks.blocks b i th → Awaits (rising g) no_blocks.blocks b th f → f.signal ≡ 0
awaited g b begun i th f is aw =
    let h = hearing g b i is.input th aw.terms aw.todo (shape_of g b begun i th is) aw.at in
    let t : aw.term ≡ rise = one_in rise aw.term (subst (λ ts. Contains ts aw.term) h.terms aw.is) in
    sym aw.fires.term ∙ ap (λ (t : EventTerm). t.range.signal) t

reached : (g : Global) (u : ℕ) (r : BitRange) → Reaches (rising g) no_blocks.blocks u r → r.signal ≡ u
reached g u _ (here r same) = same
reached g u _ (reaches_through q s j a before is reads into) = absurd (none-some a is)
reached g u _ (past q s k before is named into) = absurd (false≢true is)

no_input : (f : Fired) → None ≡ Some f → ⊥
no_input f e = cc

apart : (g : Global) (grain : Grain) (b : State) → BeginsSlot grain (rising g) b → KeepsApart (rising g) no_blocks.blocks b
apart g grain b begins_slot = record {
  outputs_alone = λ i k v th is at_k. absurd (false≢true at_k);
  outputs_alone_later = λ i k v th is at_k. absurd (false≢true at_k);
  reads_rested = λ i k u r th is reads at_k. absurd (false≢true at_k);
  only = λ i k v th other is that h k_h. one_writer i k v th other is that (wrote g b i v is.input th (shape i th is) h) (wrote g b k v that.input other (shape k other that) k_h);
  only_later = λ i k v th other is that h k_h. absurd (unmade i v th is h);
  reads_others = λ i k u r th other is that reads h reach. at_others i k u r th other is that (reading g b i is.input th r (shape i th is) reads) (reached g u r reach) (wrote g b k u that.input other (shape k other that) h);
  reads_own = λ i u r th is reads h reach. absurd (none_written th u (reading g b i is.input th r (shape i th is) reads).log h);
  reads_settled = λ i j u r th x is reads at_j needs named reach. let no_way : None ≡ Some x = ap (λ l. slice_get l j) (sym good.assigns) ∙ at_j in cc;
  root_timed = λ i root th r is h. timed_at i root th r (wrote g b i root is.input th (shape i th is) h);
  root_once = λ i root th other r is that h more. ap (λ (s : Store). slice_get s root)
      (view_at i root th r (wrote g b i root None th (timed_shape g b first_is i th is) h) ∙ sym (view_at i root other r (wrote g b i root None other (timed_shape g b first_is i other that) more)));
  root_now = λ i root th r is h. unmade i root th is h;
  unfired = λ i th f is aw other. never i th f is aw;
  fired_by_one = λ i th other f h waits is that aw more. awaited g b first_is i th f is aw ∙ sym (awaited g b first_is i other h that more);
}
  where
    first_is : Begun g b
    first_is = subst (Begun g) begins_slot.is (begun g grain begins_slot.moves begins_slot.legal begins_slot.at_start)

    good : Good g b
    good = subst (Good g) begins_slot.is (all_good g begins_slot.moves)

    shape : (i : ℕ) (th : Thread) (is : IsThread (rising g) no_blocks.blocks b i th) → Shape g b i is.input th
    shape i th is = shape_of g b first_is i th is

    unmade : (i v : ℕ) (th : Thread) → IsThread (rising g) no_blocks.blocks b i th → any_names th.made v ≡ true → ⊥
    unmade i v th is h = false≢true (ap (λ l. any_names l v) (sym (none_made g b i is.input th (shape i th is))) ∙ h)

    one_writer : (i k v : ℕ) (th other : Thread) (is : IsThread (rising g) no_blocks.blocks b i th) (that : IsThread (rising g) no_blocks.blocks b k other) → (IsSet g b i v th ⊎ IsCopied i v is.input) → (IsSet g b k v other ⊎ IsCopied k v that.input) → k ≡ i
    one_writer i k v th other is that (inl x) (inl z) = z.who ∙ sym x.who
    one_writer i k v th other is that (inr x) (inr z) = z.who ∙ sym x.who
    one_writer i k v th other is that (inl x) (inr z) = absurd (let no_way : 0 ≡ 1 = sym x.what ∙ z.what in cc)
    one_writer i k v th other is that (inr x) (inl z) = absurd (let no_way : 0 ≡ 1 = sym z.what ∙ x.what in cc)

    at_others : (i k u : ℕ) (r : BitRange) (th other : Thread) (is : IsThread (rising g) no_blocks.blocks b i th) (that : IsThread (rising g) no_blocks.blocks b k other) → IsReading i is.input th r → r.signal ≡ u → (IsSet g b k u other ⊎ IsCopied k u that.input) →
        (k ≡ i) ⊎ IsFiredBy (rising g) no_blocks.blocks b i th is r.signal
    at_others i k u r th other is that x same (inl z) =
        let f = x.input in
        let may = subst (MayOpen (rising g) no_blocks.blocks b i) f.1 is.may in
        inr (f.0, f.1, awaited g b first_is i (opening no_blocks.blocks b i None) f.0 (thread_opens (rising g) no_blocks.blocks b i) may ∙ ap (λ (q : BitRange). q.signal) (sym x.range))
    at_others i k u r th other is that x same (inr z) = absurd (let no_way : 0 ≡ 1 = ap (λ (q : BitRange). q.signal) (sym x.range) ∙ same ∙ z.what in cc)

    timed_at : (i root : ℕ) (th : Thread) → IsRoot (rising g) no_blocks.blocks root → {o : Option Fired} → (IsSet g b i root th ⊎ IsCopied i root o) → is_timed (get_or b.places i ended) ≡ true
    timed_at i root th r (inl x) = ap (λ k. is_timed (get_or b.places k ended)) x.who ∙ ap is_timed x.found
    timed_at i root th r (inr x) = absurd (let no_way : 0 ≡ 1 = sym (root_is g root r) ∙ x.what in cc)

    view_at : (i root : ℕ) (th : Thread) → IsRoot (rising g) no_blocks.blocks root → (IsSet g b i root th ⊎ IsCopied i root None) → th.view ≡ put b.store set_write
    view_at i root th r (inl x) = x.view
    view_at i root th r (inr x) = absurd (no_input x.input.0 x.input.1)

    never : (i : ℕ) (th : Thread) (f : Fired) → IsTimed no_blocks.blocks b i th → Awaits (rising g) no_blocks.blocks b th f → ⊥
    never i th f is aw = by_place (hearing g b i None th aw.terms aw.todo (timed_shape g b first_is i th is) aw.at).found
      where
        by_writer : get_or b.places 0 ended ≡ begins g → (IsSet g b aw.fires.writer aw.fires.root aw.fires.by ⊎ IsCopied aw.fires.writer aw.fires.root None) → ⊥
        by_writer starts (inl x) = let no_way : begins g ≡ sets_now g = sym starts ∙ x.found in cc
        by_writer starts (inr x) = no_input x.input.0 x.input.1

        by_place : ((get_or b.places i ended ≡ listens_first g) ⊎ (get_or b.places i ended ≡ hears g)) → ⊥
        by_place (inr waits) = true≢false (sym is.timed ∙ ap is_timed waits)
        by_place (inl starts) = by_writer (first_starts g b first_is i starts)
            (wrote g b aw.fires.writer aw.fires.root None aw.fires.by (timed_shape g b first_is aw.fires.writer aw.fires.by aw.fires.timed) aw.fires.writes)

ordered : (g : Global) → IsOrdered (rising g) no_blocks
ordered g = record {
  rank = λ j. j;
  block_rank = λ k. 0;
  falls_from_block = λ k j b r is. absurd (false≢true is);
  falls_to_block = λ i k a r at_i is. absurd (false≢true is);
  falls_between = λ l k r is. absurd (false≢true is);
  falls = λ i j a c r is_a is_c named shares. absurd (none-some a is_a);
}

pub rise_is_disciplined : ARiseIsDisciplined
rise_is_disciplined g grain = (formed g, record { roles = no_blocks; grained = λ k is. absurd (false≢true is); follows = λ k is. absurd (false≢true is); exclusive = λ k l v is. absurd (false≢true is); starts = λ k is. absurd (false≢true is); unstarted = λ k l q r is. absurd (false≢true is); first = λ i k u r th is at_k. absurd (false≢true at_k); ordered = ordered g; edges = edges g; apart = apart g grain }, fires g grain)
