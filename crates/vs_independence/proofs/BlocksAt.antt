-- All combinational blocks of a state, and that each move keeps how they fare.
use Rattle.std.proofs.Common.{◌≡◌, ℕ, zero, suc, ◌+◌, ◌<◌, ◌&&◌, ◌||◌, not, Bool, true, false, Option, Some, None, List, [], ◌∷◌, length, map, get_or, slice_get, slice_set, refl, sym, ◌∙◌, ap, subst, inl, inr, arith}
use Rattle.vs_design.specs.Parts.{Parts}
use Rattle.vs_design.specs.Stores.{Store, put, start_store}
use Rattle.vs_process.specs.Places.{Todo, Place, going, waiting, ended, is_inside}
use Rattle.vs_process.specs.Steps.{Out, step, goes}
use Rattle.vs_process.specs.Executions.{is_combinational, is_free, is_kept_out, is_step_of}
use Rattle.vs_process.specs.declared.moves.Grain.TheVariants.{Block}
use Rattle.vs_independence.proofs.Running.{BlockBare}
use Rattle.vs_process.proofs.BlockRuns.{BlockStep, view_sized}
use Rattle.vs_design.specs.declared.statement.EventTerm.{EventTerm}
use Rattle.vs_independence.proofs.BlockSteps.{Exclusive, bare_step, lies_other}
use Rattle.vs_process.proofs.Fares.{Fares, OwnStep, fares_still, fares_written, is_awake, own_step, fresh, unfed, fed, woken, inside}
use Rattle.vs_process.specs.declared.gait.Gait.TheVariants.{Fresh, Inside, Woken}
use Rattle.vs_process.specs.declared.gait.Gait.{Gait}
use Rattle.vs_process.specs.BlockDrivers.{IsBlock, Roles, outputs, puts_out, sizes}
use Rattle.vs_process.specs.ThreadLaws.{LiesIn}
use Rattle.vs_process.specs.declared.moves.Move.{Move}
use Rattle.vs_independence.proofs.Moves.{OutputsUndriven, bare_behind, length_behind, performed_is}
use Rattle.vs_design.specs.declared.design.Process.{Process}
use Rattle.vs_process.specs.States.{State, place_after_step, wakened, performed}
use Rattle.vs_process.proofs.Texts.{Text, text_of}
use Rattle.vs_design.specs.Writes.{Write, names}
use Rattle.std.proofs.lemmas.Bool.{cases_eq, false≢true, not-true, or_parts, true≢false, not-false}
use Rattle.std.proofs.Math.ListN.{get_or-map}
use Rattle.std.proofs.lemmas.List.{get_or-set_other, get_or-set_same}
use Rattle.std.proofs.lemmas.Option.{get_or_from_slice_get, slice_get_within}
use Rattle.vs_process.proofs.ThreadAssigns.{places_after_write}
use Rattle.vs_process.proofs.Stores.{shape-put}
use Rattle.vs_process.specs.Threads.{store_after}
use Rattle.vs_design.specs.declared.range.BitRange.{BitRange}

-- what the proof takes of blocks
pub record Blocked (d : Parts) (roles : Roles) : Type 0 where
  pub follows : (k : ℕ) → roles.blocks k ≡ true → IsBlock d (roles.inputs k) k
  pub exclusive : Exclusive d roles.blocks
  pub own : OutputsUndriven d roles.blocks

pub text_at : (d : Parts) (roles : Roles) → Blocked d roles → (k : ℕ) → roles.blocks k ≡ true → Text d k
text_at d roles z k is = let block = z.follows k is in text_of d k block.process block.is block.shape

pub record BlocksAt (d : Parts) (roles : Roles) (z : Blocked d roles) (late : Bool) (ran : ℕ → Bool) (time : ℕ) (store : Store) (places : List Place) : Type 0 where
  pub fares : (k : ℕ) (is : roles.blocks k ≡ true) → Fares d (roles.inputs k) k (text_at d roles z k is) late (ran k) time store (get_or places k ended)
  pub bare : BlockBare d roles.blocks store
  pub sized : sizes store ≡ sizes (start_store d)

-- a place behind a change of the store
abbrev pub place_after : Store → Option Write → Place → Place
place_after store None p = p
place_after store (Some w) p = wakened store (put store w) p

-- which blocks have ever been woken, behind a move that leaves these places
abbrev pub woken_more : (ℕ → Bool) → List Place → ℕ → Bool
woken_more ran places k = ran k || is_awake (get_or places k ended)

-- no block is inside its run
abbrev pub NoneInside : Roles → List Place → Type 0
NoneInside roles places = (k : ℕ) → roles.blocks k ≡ true → is_inside (get_or places k ended) ≡ true → ⊥

-- a write names nothing that a block writes
abbrev pub IsFree : Parts → Roles → Write → Type 0
IsFree d roles w = (k v : ℕ) → roles.blocks k ≡ true → puts_out d k v ≡ true → names w v ≡ false

pub blocks_still : (d : Parts) (roles : Roles) (z : Blocked d roles) (late : Bool) (ran : ℕ → Bool) (time : ℕ) (store : Store) (places : List Place) → BlocksAt d roles z late ran time store places →
    BlocksAt d roles z late (woken_more ran places) time store places
blocks_still d roles z late ran time store places at_them = record {
  fares = λ k is. fares_still d (roles.inputs k) k (text_at d roles z k is) late (ran k) time store (get_or places k ended) (at_them.fares k is);
  bare = at_them.bare;
  sized = at_them.sized;
}

pub blocks_of_else : (d : Parts) (roles : Roles) (z : Blocked d roles) (late : Bool) (ran : ℕ → Bool) (time : ℕ) (store : Store) (places : List Place) (o : Option Write) → ((w : Write) → o ≡ Some w → IsFree d roles w) → NoneInside roles places →
    BlocksAt d roles z late ran time store places → BlocksAt d roles z late (woken_more ran (places_after_write store o places)) time (store_after store o) (places_after_write store o places)
blocks_of_else d roles z late ran time store places None free out at_them = blocks_still d roles z late ran time store places at_them
blocks_of_else d roles z late ran time store places (Some w) free out at_them = record {
  fares = λ k is. subst (λ p. Fares d (roles.inputs k) k (text_at d roles z k is) late (ran k || is_awake p) time (put store w) p) (sym (get_or-map (wakened store (put store w)) places k ended))
      (fares_written d (roles.inputs k) k (text_at d roles z k is) (z.follows k is) late (ran k) time store (get_or places k ended) w at_them.sized (λ v hit. free w refl k v is hit) (out k is) (at_them.fares k is));
  bare = bare_behind d roles.blocks store (Some w) free at_them.bare;
  sized = shape-put store w ∙ at_them.sized;
}

-- the place of another process
pub blocks_set : (d : Parts) (roles : Roles) (z : Blocked d roles) (late : Bool) (ran : ℕ → Bool) (time : ℕ) (store : Store) (places : List Place) (i : ℕ) (p : Place) → roles.blocks i ≡ false →
    BlocksAt d roles z late (woken_more ran places) time store places → BlocksAt d roles z late (woken_more ran (slice_set places i p)) time store (slice_set places i p)
blocks_set d roles z late ran time store places i p other at_them = record {
  fares = λ k is. subst (λ q. Fares d (roles.inputs k) k (text_at d roles z k is) late (ran k || is_awake q) time store q) (sym (get_or-set_other places i k p ended (λ e. true≢false (sym is ∙ ap roles.blocks e ∙ other)))) (at_them.fares k is);
  bare = at_them.bare;
  sized = at_them.sized;
}

-- a step of a process that is no block
pub blocks_stepped : (d : Parts) (roles : Roles) (z : Blocked d roles) (late : Bool) (ran : ℕ → Bool) (s : State) (i : ℕ) (place : Place) (out : Out) → roles.blocks i ≡ false →
    ((w : Write) → out.write ≡ Some w → IsFree d roles w) → NoneInside roles s.places → BlocksAt d roles z late ran s.time s.store s.places →
    BlocksAt d roles z late (woken_more ran (performed s i place out).places) s.time (performed s i place out).store (performed s i place out).places
blocks_stepped d roles z late ran s i place out other free none at_them =
    subst (λ (t : State). BlocksAt d roles z late (woken_more ran t.places) s.time t.store t.places) (sym (performed_is s i place out))
    (blocks_set d roles z late ran s.time (store_after s.store out.write) (places_after_write s.store out.write s.places) i (place_after_step place s.time out.next) other
    (blocks_of_else d roles z late ran s.time s.store s.places out.write free none at_them))

-- a step of a block: what it makes
pub block_made : (d : Parts) (roles : Roles) (z : Blocked d roles) (late : Bool) (ran : ℕ → Bool) (s : State) (k : ℕ) → roles.blocks k ≡ true → (gait : Gait) (todo : Todo) → slice_get s.places k ≡ Some (going gait todo) →
    BlocksAt d roles z late ran s.time s.store s.places → BlockStep d k (step todo s.store s.time)
block_made d roles z late ran s k is gait todo at_k at_them =
    (own_step d (roles.inputs k) k (text_at d roles z k is) (z.follows k is) late (ran k) s.time s.store (get_or s.places k ended) gait todo at_them.sized
    (get_or_from_slice_get s.places k (going gait todo) ended at_k) (at_them.fares k is)).made

-- and how all fare behind it
pub blocks_own : (d : Parts) (roles : Roles) (z : Blocked d roles) (late : Bool) (ran : ℕ → Bool) (s : State) (k : ℕ) → roles.blocks k ≡ true → (gait : Gait) (todo : Todo) → slice_get s.places k ≡ Some (going gait todo) →
    ((l : ℕ) → roles.blocks l ≡ true → (l ≡ k → ⊥) → is_inside (get_or s.places l ended) ≡ true → ⊥) → BlocksAt d roles z late ran s.time s.store s.places →
    let t = performed s k (going gait todo) (step todo s.store s.time) in BlocksAt d roles z late (woken_more ran t.places) s.time t.store t.places
blocks_own d roles z late ran s k is gait todo at_k none at_them =
    subst (λ (t : State). BlocksAt d roles z late (woken_more ran t.places) s.time t.store t.places) (sym (performed_is s k (going gait todo) out)) (record {
      fares = fares_at;
      bare = bare_step d roles.blocks z.exclusive k s.store out.write is own.made.lies at_them.bare;
      sized = view_sized s.store out.write ∙ at_them.sized;
    })
  where
    out : Out
    out = step todo s.store s.time

    own : OwnStep d (roles.inputs k) k (text_at d roles z k is) late (ran k) s.time s.store gait todo
    own = own_step d (roles.inputs k) k (text_at d roles z k is) (z.follows k is) late (ran k) s.time s.store (get_or s.places k ended) gait todo at_them.sized
        (get_or_from_slice_get s.places k (going gait todo) ended at_k) (at_them.fares k is)

    behind : List Place
    behind = places_after_write s.store out.write s.places

    next : Place
    next = place_after_step (going gait todo) s.time out.next

    within : k < length behind
    within = subst (λ n. k < n) (sym (length_behind s.store out.write s.places)) (slice_get_within s.places k (going gait todo) at_k)

    other_at : (o : Option Write) → ((w : Write) → o ≡ Some w → LiesIn (outputs d k) w) → (l : ℕ) (at_l : roles.blocks l ≡ true) → (l ≡ k → ⊥) →
        Fares d (roles.inputs l) l (text_at d roles z l at_l) late (ran l || is_awake (get_or (places_after_write s.store o s.places) l ended)) s.time (store_after s.store o) (get_or (places_after_write s.store o s.places) l ended)
    other_at None lies l at_l ne = fares_still d (roles.inputs l) l (text_at d roles z l at_l) late (ran l) s.time s.store (get_or s.places l ended) (at_them.fares l at_l)
    other_at (Some w) lies l at_l ne =
        subst (λ p. Fares d (roles.inputs l) l (text_at d roles z l at_l) late (ran l || is_awake p) s.time (put s.store w) p) (sym (get_or-map (wakened s.store (put s.store w)) s.places l ended))
        (fares_written d (roles.inputs l) l (text_at d roles z l at_l) (z.follows l at_l) late (ran l) s.time s.store (get_or s.places l ended) w at_them.sized
        (λ v hit. lies_other d roles.blocks z.exclusive k l w is at_l ne (lies w refl) v hit) (none l at_l ne) (at_them.fares l at_l))

    at_own : (l : ℕ) → l ≡ k → (at_l : roles.blocks l ≡ true) → Fares d (roles.inputs l) l (text_at d roles z l at_l) late (ran l || is_awake (get_or (slice_set behind k next) l ended)) s.time (store_after s.store out.write) (get_or (slice_set behind k next) l ended)
    at_own l e at_l =
        subst (λ p. Fares d (roles.inputs l) l (text_at d roles z l at_l) late (ran l || is_awake p) s.time (store_after s.store out.write) p)
        (sym (ap (λ m. get_or (slice_set behind k next) m ended) e ∙ get_or-set_same behind k next ended within))
        (own_step d (roles.inputs l) l (text_at d roles z l at_l) (z.follows l at_l) late (ran l) s.time s.store (get_or s.places l ended) gait todo at_them.sized
        (ap (λ m. get_or s.places m ended) e ∙ get_or_from_slice_get s.places k (going gait todo) ended at_k) (at_them.fares l at_l)).fares

    fares_at : (l : ℕ) (at_l : roles.blocks l ≡ true) → Fares d (roles.inputs l) l (text_at d roles z l at_l) late (ran l || is_awake (get_or (slice_set behind k next) l ended)) s.time (store_after s.store out.write) (get_or (slice_set behind k next) l ended)
    fares_at l at_l =
        elim (cases_eq l k) [
          | inl e ↦ at_own l e at_l
          | inr ne ↦ subst (λ p. Fares d (roles.inputs l) l (text_at d roles z l at_l) late (ran l || is_awake p) s.time (store_after s.store out.write) p) (sym (get_or-set_other behind k l next ended ne))
              (other_at out.write own.made.lies l at_l ne)
        ]

-- ---- where the store stays

-- a change of places that leaves what goes and what waits leaves blocks
pub mapped_place : (d : Parts) (inputs : List BitRange) (k : ℕ) (t : Text d k) (late ran : Bool) (time : ℕ) (store : Store) (places : List Place) (f : Place → Place) → f ended ≡ ended →
    ((gait : Gait) (todo : Todo) → f (going gait todo) ≡ going gait todo) → ((terms : List EventTerm) (todo : Todo) → f (waiting terms todo) ≡ waiting terms todo) →
    Fares d inputs k t late ran time store (get_or places k ended) → get_or (map f places) k ended ≡ get_or places k ended
mapped_place d inputs k t late ran time store places f last goes waits fares = by_fares fares
  where
    get_mapped : get_or (map f places) k ended ≡ f (get_or places k ended)
    get_mapped = ap (λ e. get_or (map f places) k e) (sym last) ∙ get_or-map f places k ended

    by_fares : Fares d inputs k t late ran time store (get_or places k ended) → get_or (map f places) k ended ≡ get_or places k ended
    by_fares (fresh todo is way same none first) = get_mapped ∙ ap f is ∙ goes Fresh todo ∙ sym is
    by_fares (unfed is same none) = get_mapped ∙ ap f (is ∙ t.home_is) ∙ waits t.terms _ ∙ sym (is ∙ t.home_is)
    by_fares (fed is follows some) = get_mapped ∙ ap f (is ∙ t.home_is) ∙ waits t.terms _ ∙ sym (is ∙ t.home_is)
    by_fares (woken is some) = get_mapped ∙ ap f is ∙ goes Woken _ ∙ sym is
    by_fares (inside todo from th is run sized at same some) = get_mapped ∙ ap f is ∙ goes Inside todo ∙ sym is

pub blocks_mapped : (d : Parts) (roles : Roles) (z : Blocked d roles) (late : Bool) (ran : ℕ → Bool) (time : ℕ) (store : Store) (places : List Place) (f : Place → Place) → f ended ≡ ended →
    ((gait : Gait) (todo : Todo) → f (going gait todo) ≡ going gait todo) → ((terms : List EventTerm) (todo : Todo) → f (waiting terms todo) ≡ waiting terms todo) →
    BlocksAt d roles z late ran time store places → BlocksAt d roles z late (woken_more ran (map f places)) time store (map f places)
blocks_mapped d roles z late ran time store places f last goes waits at_them = record {
  fares = λ k is. subst (λ p. Fares d (roles.inputs k) k (text_at d roles z k is) late (ran k || is_awake p) time store p)
      (sym (mapped_place d (roles.inputs k) k (text_at d roles z k is) late (ran k) time store places f last goes waits (at_them.fares k is)))
      (fares_still d (roles.inputs k) k (text_at d roles z k is) late (ran k) time store (get_or places k ended) (at_them.fares k is));
  bare = at_them.bare;
  sized = at_them.sized;
}

-- the place of another process behind a step
pub performed_place : (s : State) (i : ℕ) (place : Place) (out : Out) (k : ℕ) → (k ≡ i → ⊥) → get_or (performed s i place out).places k ended ≡ place_after s.store out.write (get_or s.places k ended)
performed_place s i place out k ne =
    ap (λ (t : State). get_or t.places k ended) (performed_is s i place out)
    ∙ get_or-set_other (places_after_write s.store out.write s.places) i k (place_after_step place s.time out.next) ended ne ∙ by_write out.write
  where
    by_write : (o : Option Write) → get_or (places_after_write s.store o s.places) k ended ≡ place_after s.store o (get_or s.places k ended)
    by_write None = refl
    by_write (Some w) = get_or-map (wakened s.store (put s.store w)) s.places k ended

-- and its own
pub performed_own : (s : State) (i : ℕ) (place old : Place) (out : Out) → slice_get s.places i ≡ Some old → get_or (performed s i place out).places i ended ≡ place_after_step place s.time out.next
performed_own s i place old out is =
    ap (λ (t : State). get_or t.places i ended) (performed_is s i place out)
    ∙ get_or-set_same (places_after_write s.store out.write s.places) i (place_after_step place s.time out.next) ended
    (subst (λ n. i < n) (sym (length_behind s.store out.write s.places)) (slice_get_within s.places i old is))

-- ---- exclusion

kept_at : (ps : List Process) (xs : List Place) (first : ℕ) (m : Move) (k : ℕ) (p : Process) (x : Place) → slice_get ps k ≡ Some p → slice_get xs k ≡ Some x → is_kept_out ps xs first m ≡ false →
    (is_combinational p && is_inside x && not (is_step_of (first + k) m)) ≡ false
kept_at [] xs first m k p x at_p at_x h = cc
kept_at (q ∷ ps) [] first m k p x at_p at_x h = cc
kept_at (q ∷ ps) (y ∷ xs) first m zero p x at_p at_x h =
    let e : q ≡ p = cc in
    let g : y ≡ x = cc in
    let n : first + 0 ≡ first = omega arith in
    ap (λ n. is_combinational p && is_inside x && not (is_step_of n m)) n ∙ ap (λ p. is_combinational p && is_inside x && not (is_step_of first m)) (sym e) ∙ ap (λ x. is_combinational q && is_inside x && not (is_step_of first m)) (sym g)
    ∙ (or_parts (is_combinational q && is_inside y && not (is_step_of first m)) (is_kept_out ps xs (suc first) m) h).0
kept_at (q ∷ ps) (y ∷ xs) first m (suc k) p x at_p at_x h =
    let n : first + suc k ≡ suc first + k = omega arith in
    ap (λ n. is_combinational p && is_inside x && not (is_step_of n m)) n
    ∙ kept_at ps xs (suc first) m k p x at_p at_x (or_parts (is_combinational q && is_inside y && not (is_step_of first m)) (is_kept_out ps xs (suc first) m) h).1

-- at grain block a block that is inside its run keeps all out but its own step
pub kept_out : (d : Parts) (roles : Roles) (z : Blocked d roles) (s : State) (m : Move) → is_free Block d s m ≡ true → (k : ℕ) → roles.blocks k ≡ true → is_inside (get_or s.places k ended) ≡ true → is_step_of k m ≡ true
kept_out d roles z s m free k is inside_it = by_place (slice_get s.places k) refl
  where
    by_place : (o : Option Place) → slice_get s.places k ≡ o → is_step_of k m ≡ true
    by_place None e = absurd (false≢true (ap is_inside (sym (get_or_none s.places k e)) ∙ inside_it))
      where
        get_or_none : (xs : List Place) (k : ℕ) → slice_get xs k ≡ None → get_or xs k ended ≡ ended
        get_or_none [] k e = refl
        get_or_none (x ∷ xs) zero e = cc
        get_or_none (x ∷ xs) (suc k) e = get_or_none xs k e
    by_place (Some x) e =
        let block = z.follows k is in
        let h = kept_at d.processes s.places 0 m k block.process x block.is e (not-true (is_kept_out d.processes s.places 0 m) free) in
        let at_x : get_or s.places k ended ≡ x = get_or_from_slice_get s.places k x ended e in
        let in_x : is_inside x ≡ true = ap is_inside (sym at_x) ∙ inside_it in
        let n : 0 + k ≡ k = omega arith in
        let g : not (is_step_of k m) ≡ false = sym (ap (λ b. b && is_inside x && not (is_step_of k m)) block.shape ∙ ap (λ b. b && not (is_step_of k m)) in_x) ∙ ap (λ n. is_combinational block.process && is_inside x && not (is_step_of n m)) (sym n) ∙ h in
        not-false (is_step_of k m) g
