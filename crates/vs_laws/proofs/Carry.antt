-- A chain of continuous assignments through the bits of one net is disciplined.
use Rattle.std.proofs.Common.{◌≡◌, ℕ, zero, suc, ◌<◌, Bool, true, false, Option, Some, None, List, [], ◌∷◌, get_or, map, slice_get, refl, sym, ◌∙◌, ap, subst, lit<, arith, nat_lt}
use Rattle.std.specs.declared.alloc.Global.{Global}
use Rattle.std.specs.List.{list_any, IsDistinct, Contains}
use Rattle.std.proofs.lemmas.Bool.{false≢true}
use Rattle.std.proofs.lemmas.List.Elements.{All-nil, All-cons}
use Rattle.std.proofs.lemmas.Option.{none-some, same_Some}
use Rattle.vs_design.specs.declared.design.Assign.{Assign}
use Rattle.vs_design.specs.declared.range.BitRange.{BitRange}
use Rattle.vs_design.specs.declared.expression.Slice.{Slice}
use Rattle.vs_design.specs.declared.expression.Typed.{fold-roll-Typed}
use Rattle.vs_design.specs.declared.expression.Typed.TheVariants as e
use Rattle.vs_design.specs.declared.expression.Typed.TheOpen as t
use Rattle.vs_design.specs.Uses.{reads, reads_step, slice_range, whole, writes as target_writes}
use Rattle.vs_design.specs.WellFormed.{WellFormed, size_step, size_of, is_sound_assign}
use Rattle.vs_independence.specs.vs_process.specs.declared.moves.Grain.{Grain}
use Rattle.vs_independence.specs.vs_process.specs.declared.moves.Move.{Move}
use Rattle.vs_independence.specs.vs_process.specs.declared.moves.Move.TheVariants.{Step, Evaluate, Propagate, Make, Rouse, Activate, EndSlot}
use Rattle.vs_independence.specs.vs_process.specs.Places.{Place, ended, waiting}
use Rattle.vs_independence.specs.vs_process.specs.States.{AssignState, State, Update, evaluate, make, propagate, propagate_value, roused, stepped, triggered, wakened}
use Rattle.vs_design.specs.Stores.{put}
use Rattle.vs_design.specs.Writes.{names}
use Rattle.vs_process.specs.vs_eval.specs.Targets.{assigned}
use Rattle.vs_independence.specs.vs_process.specs.Executions.{after, ends, next_time, places_at}
use Rattle.vs_laws.specs.Carry.{ACarryIsDisciplined, carried, carrying, first_assign, low_bit, second_assign}
use Rattle.vs_independence.specs.Discipline.{BeginsSlot, IsOrdered, KeepsApart}
use Rattle.vs_process.specs.Bits.{SharesBit}
use Rattle.vs_process.specs.Feeds.{writes_into}
use Rattle.vs_process.specs.BlockDrivers.{IsSource, no_blocks}
use Rattle.vs_process.specs.Edges.{Copies, IsHeard}
use Rattle.vs_process.specs.Threads.{Awaits, Fired, IsThread, Thread, any_names, iterate, opening, place_reads, turn, turn_at, writes}
use Rattle.vs_process.proofs.Feeds.{into_covered}
use Rattle.vs_process.proofs.ThreadLists.{place_of}
use Rattle.vs_process.proofs.Threads.{timed_thread}
use Rattle.std.proofs.lemmas.Map.Keys.{any_passes_from_place as at_any}
use Rattle.vs_laws.proofs.Race.{reads_operand, size_operand}
use Rattle.vs_design.specs.vs_logic4.proofs.Basics.{declared_at}

-- ---- it is well formed

reads_slice : (s : Slice) → reads (e.Slice s) ≡ slice_range s ∷ []
reads_slice s = ap reads (sym (e.rolls-Slice s)) ∙ fold-roll-Typed (List BitRange) reads_step (t.Slice s)

size_slice : (s : Slice) → size_of (e.Slice s) ≡ Some s.width
size_slice s = ap size_of (sym (e.rolls-Slice s)) ∙ fold-roll-Typed (Option ℕ) size_step (t.Slice s)

reads_carried : (g : Global) → reads (carried g) ≡ whole 0 ∷ slice_range low_bit ∷ []
reads_carried g = ap reads (sym (e.rolls-Chain _ _)) ∙ fold-roll-Typed (List BitRange) reads_step (t.Chain _ _) ∙ rw (reads_operand 0, reads_slice low_bit) refl

size_carried : (g : Global) → size_of (carried g) ≡ Some 1
size_carried g = ap size_of (sym (e.rolls-Chain _ _)) ∙ fold-roll-Typed (Option ℕ) size_step (t.Chain _ _) ∙ rw (size_operand 0, size_slice low_bit) refl

abbrev SoundAssign : Global → Assign → Type 0
SoundAssign g a = is_sound_assign (carrying g).signals a ≡ true

first_sound : (g : Global) → SoundAssign g (first_assign g)
first_sound g = rw (reads_operand 0, size_operand 0) refl

second_sound : (g : Global) → SoundAssign g (second_assign g)
second_sound g = rw (reads_carried g, size_carried g) refl

formed : (g : Global) → WellFormed (carrying g)
unfolding IsDistinct
formed g = record {
  processes = All-nil _;
  assigns = All-cons (SoundAssign g) (first_assign g) (second_assign g ∷ []) (first_sound g) (All-cons (SoundAssign g) (second_assign g) [] (second_sound g) (All-nil (SoundAssign g)));
  drivers = ((refl, tt), (tt, tt));
  declared = All-cons (λ n. nat_lt n 2 ≡ true) 0 (1 ∷ []) refl (All-cons (λ n. nat_lt n 2 ≡ true) 1 [] refl (All-nil (λ n. nat_lt n 2 ≡ true)));
  declared_once = ((refl, tt), (tt, tt));
  all_declared = declared_at;
  paths = ((refl, tt), (tt, tt));
  names = tt;
  assign_names = ((refl, tt), (tt, tt));
}

-- ---- its assignments have an order: none writes a bit that it reads

-- whether an assignment writes a bit that another one reads
abbrev feeds : Global → Assign → Assign → Bool
feeds g a b = list_any (writes_into (carrying g) a.target) (reads b.source)

shared_feeds : (g : Global) (a b : Assign) (r : BitRange) → Contains (reads b.source) r → SharesBit (carrying g) (target_writes a.target) r → feeds g a b ≡ true
shared_feeds g a b r named shares =
    let there = place_of (reads b.source) r named in
    at_any (writes_into (carrying g) a.target) (reads b.source) there.0 r there.1
    (into_covered (carrying g) a.target r r.signal shares.word shares.place shares.bit shares.listed shares.has)

-- what an assignment that reads these ranges is fed by
fed_by : (g : Global) (a b : Assign) (rs : List BitRange) → reads b.source ≡ rs → feeds g a b ≡ true → list_any (writes_into (carrying g) a.target) rs ≡ true
fed_by g a b rs is fed = ap (list_any (writes_into (carrying g) a.target)) (sym is) ∙ fed

first_unfed : (g : Global) (j : ℕ) (a : Assign) → slice_get (carrying g).assigns j ≡ Some a → feeds g a (first_assign g) ≡ true → ⊥
first_unfed g zero a is fed = false≢true (ap (λ (x : Assign). list_any (writes_into (carrying g) x.target) (whole 0 ∷ [])) (same_Some (first_assign g) a is) ∙ fed_by g a (first_assign g) (whole 0 ∷ []) (reads_operand 0) fed)
first_unfed g (suc zero) a is fed = false≢true (ap (λ (x : Assign). list_any (writes_into (carrying g) x.target) (whole 0 ∷ [])) (same_Some (second_assign g) a is) ∙ fed_by g a (first_assign g) (whole 0 ∷ []) (reads_operand 0) fed)
first_unfed g (suc (suc j)) a is fed = absurd (none-some a is)

second_unfed : (g : Global) → feeds g (second_assign g) (second_assign g) ≡ true → ⊥
second_unfed g fed = false≢true (fed_by g (second_assign g) (second_assign g) (whole 0 ∷ slice_range low_bit ∷ []) (reads_carried g) fed)

falls_at : (g : Global) (i j : ℕ) (a b : Assign) → slice_get (carrying g).assigns i ≡ Some a → slice_get (carrying g).assigns j ≡ Some b → feeds g a b ≡ true → i < j
falls_at g i zero a b at_i at_j fed = absurd (first_unfed g i a at_i (subst (λ x. feeds g a x ≡ true) (sym (same_Some (first_assign g) b at_j)) fed))
falls_at g zero (suc zero) a b at_i at_j fed = lit< tt
falls_at g (suc zero) (suc zero) a b at_i at_j fed =
    absurd (second_unfed g (subst (λ x. feeds g (second_assign g) x ≡ true) (sym (same_Some (second_assign g) b at_j)) (subst (λ x. feeds g x b ≡ true) (sym (same_Some (second_assign g) a at_i)) fed)))
falls_at g (suc (suc i)) (suc zero) a b at_i at_j fed = absurd (none-some a at_i)
falls_at g i (suc (suc j)) a b at_i at_j fed = absurd (none-some b at_j)

ordered : (g : Global) → IsOrdered (carrying g) no_blocks
ordered g = record {
  rank = λ j. j;
  block_rank = λ k. 0;
  falls_from_block = λ k j b r is. absurd (false≢true is);
  falls_to_block = λ i k a r at_i is. absurd (false≢true is);
  falls_between = λ l k r is. absurd (false≢true is);
  falls = λ i j a b r at_i at_j named shares. falls_at g i j a b at_i at_j (shared_feeds g a b r named shares);
}

-- ---- it has no processes

no_places_behind : (over : Bool) (next : Option ℕ) (places : List Place) → places ≡ [] → places_at over next places ≡ []
no_places_behind true next places h = h
no_places_behind false None places h = h
no_places_behind false (Some n) places h = ap (places_at false (Some n)) h

stepped_nowhere : (s : State) (i : ℕ) (o : Option Place) → slice_get s.places i ≡ o → s.places ≡ [] → (stepped s i o).places ≡ []
stepped_nowhere s i None is h = h
stepped_nowhere s i (Some p) is h = absurd (none-some p (sym (ap (λ l. slice_get l i) h) ∙ is))

evaluated_nowhere : (s : State) (j : ℕ) (o : Option AssignState) → s.places ≡ [] → (evaluate s j o).places ≡ []
evaluated_nowhere s j None h = h
evaluated_nowhere s j (Some x) h = h

propagated_nowhere : (s : State) (j : ℕ) (o : Option AssignState) → s.places ≡ [] → (propagate s j o).places ≡ []
propagated_nowhere s j None h = h
propagated_nowhere s j (Some x) h = at_value x.pending
  where
    at_value : (o : _) → (propagate_value s j x o).places ≡ []
    at_value None = h
    at_value (Some digits) = ap (λ l. map (wakened s.store (put s.store (assigned x.target digits s.store s.time))) l) h

made_nowhere : (s : State) (i : ℕ) (o : Option Update) → s.places ≡ [] → (make s i o).places ≡ []
made_nowhere s i None h = h
made_nowhere s i (Some u) h = ap (λ l. map (wakened s.store (put s.store u.what)) l) h

nowhere : (g : Global) (moves : List Move) → (after (carrying g) moves).places ≡ []
nowhere g [] = refl
nowhere g (Step i ∷ moves) = let s = after (carrying g) moves in stepped_nowhere s i (slice_get s.places i) refl (nowhere g moves)
nowhere g (Evaluate j ∷ moves) = let s = after (carrying g) moves in evaluated_nowhere s j (slice_get s.assigns j) (nowhere g moves)
nowhere g (Propagate j ∷ moves) = let s = after (carrying g) moves in propagated_nowhere s j (slice_get s.assigns j) (nowhere g moves)
nowhere g (Make i ∷ moves) = let s = after (carrying g) moves in made_nowhere s i (slice_get s.updates i) (nowhere g moves)
nowhere g (Rouse ∷ moves) = ap (λ l. map roused l) (nowhere g moves)
nowhere g (Activate ∷ moves) = nowhere g moves
nowhere g (EndSlot ∷ moves) = let s = after (carrying g) moves in no_places_behind (ends s) (next_time s) s.places (nowhere g moves)

-- a thread of no process stays as it opens
pub stays_open : (time i n : ℕ) (o : Thread) → o.place ≡ ended → iterate n (turn time i) o ≡ o
stays_open time i zero o h = refl
stays_open time i (suc n) o h = ap (turn time i) (stays_open time i n o h) ∙ ap (λ p. turn_at time i p o) h

-- it is nowhere, and has written and updated nothing
record IsNowhere (th : Thread) : Type 0 where
  place : th.place ≡ ended
  log : th.log ≡ []
  made : th.made ≡ []

opens_nowhere : (b : State) (i : ℕ) (o : Option Fired) → get_or b.places i ended ≡ ended → IsNowhere (opening no_blocks.blocks b i o)
opens_nowhere b i None h = record { place = h; log = refl; made = refl }
opens_nowhere b i (Some f) h = record { place = ap triggered h; log = refl; made = refl }

no_thread : (g : Global) (grain : Grain) (b : State) → BeginsSlot grain (carrying g) b → (i : ℕ) (th : Thread) → IsThread (carrying g) no_blocks.blocks b i th → IsNowhere th
no_thread g grain b begins i th is =
    let none : get_or b.places i ended ≡ ended = ap (λ l. get_or l i ended) (ap (λ (s : State). s.places) (sym begins.is) ∙ nowhere g begins.moves) in
    let opened = opens_nowhere b i is.input none in
    subst IsNowhere (sym (stays_open b.time i is.count (opening no_blocks.blocks b i is.input) opened.place) ∙ is.is) opened

apart : (g : Global) (grain : Grain) (b : State) → BeginsSlot grain (carrying g) b → KeepsApart (carrying g) no_blocks.blocks b
apart g grain b begins = record {
  outputs_alone = λ i k v th is at_k. absurd (false≢true at_k);
  outputs_alone_later = λ i k v th is at_k. absurd (false≢true at_k);
  reads_rested = λ i k u r th is reads at_k. absurd (false≢true at_k);
  only = λ i k v th other is that wrote by. absurd (silent i v th is wrote);
  only_later = λ i k v th other is that made by. absurd (quiet i v th is made);
  reads_others = λ i k u r th other is that reads wrote reach. absurd (blind i r th is reads);
  reads_own = λ i u r th is reads wrote reach. absurd (blind i r th is reads);
  reads_settled = λ i j u r th x is reads at_j needs named reach. blind i r th is reads;
  root_timed = λ i root th r is wrote. absurd (silent i root th is wrote);
  root_once = λ i root th later r is that wrote more. absurd (silent i root th (timed_thread (carrying g) no_blocks.blocks b i th is) wrote);
  root_now = λ i root th r is made. quiet i root th is made;
  unfired = λ i th f is awaits other. deaf i th f (timed_thread (carrying g) no_blocks.blocks b i th is) awaits;
  fired_by_one = λ i th other f h waits is that awaits also. absurd (deaf i th f is awaits);
}
  where
    silent : (i v : ℕ) (th : Thread) → IsThread (carrying g) no_blocks.blocks b i th → writes th v ≡ true → ⊥
    silent i v th is wrote = false≢true (subst (λ l. list_any (λ w. names w v) l ≡ true) (no_thread g grain b begins i th is).log wrote)

    quiet : (i v : ℕ) (th : Thread) → IsThread (carrying g) no_blocks.blocks b i th → any_names th.made v ≡ true → ⊥
    quiet i v th is made = false≢true (subst (λ l. any_names l v ≡ true) (no_thread g grain b begins i th is).made made)

    blind : (i : ℕ) (r : BitRange) (th : Thread) → IsThread (carrying g) no_blocks.blocks b i th → Contains (place_reads th.place) r → ⊥
    blind i r th is reads =
        let none : Contains [] r = subst (λ p. Contains (place_reads p) r) (no_thread g grain b begins i th is).place reads in
        let within = none.1 in
        omega (arith, within)

    deaf : (i : ℕ) (th : Thread) (f : Fired) → IsThread (carrying g) no_blocks.blocks b i th → Awaits (carrying g) no_blocks.blocks b th f → ⊥
    deaf i th f is awaits = let no_way : ended ≡ waiting awaits.terms awaits.todo = sym (no_thread g grain b begins i th is).place ∙ awaits.at in cc

edges : (g : Global) (v : ℕ) → IsHeard (carrying g) no_blocks.blocks v → (root : ℕ) × Copies (carrying g) root v × IsSource (carrying g) no_blocks.blocks root
edges g v heard = absurd (none-some heard.process heard.is)

pub carry : ACarryIsDisciplined
carry g grain = (
  formed g,
  record {
    roles = no_blocks;
    grained = λ k is. absurd (false≢true is);
    follows = λ k is. absurd (false≢true is);
    exclusive = λ k l v is. absurd (false≢true is);
    starts = λ k is. absurd (false≢true is);
    unstarted = λ k l q r is. absurd (false≢true is);
    first = λ i k u r th is at_k. absurd (false≢true at_k);
    ordered = ordered g;
    edges = edges g;
    apart = apart g grain;
  },
)
