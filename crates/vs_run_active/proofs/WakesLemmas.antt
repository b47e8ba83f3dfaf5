-- What the change of a word wakes, by the watchers of its signal.
use Rattle.std.proofs.Common.{◌≡◌, ℕ, zero, suc, ◌+◌, ◌-◌, ◌<◌, ◌≤◌, ◌^◌, ◌==◌, ◌&&◌, ◌||◌, not, Bool, true, false, Option, Some, List, [], ◌∷◌, ◌++◌, map, drop, take, length, get_or, slice_get, if◌then◌else◌, bit_and, refl, sym, ◌∙◌, ap, ap₂, subst, arith}
use Rattle.std.proofs.lemmas.Bool.{and_right, false≢true}
use Rattle.std.proofs.lemmas.List.{drop_more, length-map}
use Rattle.std.proofs.lemmas.Nat.{and_le_r}
use Rattle.std.proofs.lemmas.Option.{none-some, same_Some}
use Rattle.vs_design.specs.vs_logic4.specs.declared.digit.Digit.{Digit}
use Rattle.vs_design.specs.vs_logic4.specs.declared.edge.Edge.TheVariants.{Any, Posedge, Negedge}
use Rattle.vs_design.specs.declared.readers.Reader.{Reader}
use Rattle.vs_design.specs.declared.statement.EventTerm.{EventTerm}
use Rattle.vs_design.specs.Parts.{Parts}
use Rattle.vs_design.specs.Readers.{readers}
use Rattle.vs_eval.proofs.WakingLemmas.{same_eqb}
use Rattle.vs_run_active.specs.vs_eval.specs.declared.masks.WordChange.{WordChange}
use Rattle.vs_run_active.specs.vs_eval.specs.Differences.{sees, word_changes}
use Rattle.vs_run_active.specs.vs_eval.specs.Masks.{AreEdges, AreEdgesOf, IsChangeOf, every_word, has_bits}
use Rattle.vs_run_active.specs.vs_eval.specs.Waking.{word_wakes}
use Rattle.vs_run_active.proofs.MasksTell.{range_mask-has}
use Rattle.vs_process.specs.declared.gait.Gait.{Gait}
use Rattle.vs_process.specs.declared.gait.Gait.TheVariants.{Woken}
use Rattle.vs_process.specs.Places.{Place, Todo, active_at, waiting}
use Rattle.vs_run_active.specs.vs_process.specs.States.{AssignState, triggered}
use Rattle.vs_run_active.specs.Triggers.{triggered_by}
use Rattle.vs_run_active.specs.declared.rows.Row.{Row}
use Rattle.vs_run_active.specs.declared.tables.Tables.{Tables}
use Rattle.vs_run_active.specs.declared.watchers.ProcessTerm.{ProcessTerm}
use Rattle.vs_run_active.specs.declared.watchers.Watcher.{Watcher}
use Rattle.vs_run_active.specs.Groups.{meaning, numbered_as, spelled, spelled_one}
use Rattle.vs_run_active.specs.Lists.{named}
use Rattle.vs_run_active.specs.Rows.{Fits, HasRow, IsRow}
use Rattle.vs_run_active.specs.Waking.{kinds_watched, watched}
use Rattle.vs_run_active.specs.Walks.{is_hit, numbered, woken_where}
use Rattle.vs_run_active.specs.Watchers.{between, kind_watchers, reader_watcher}
use Rattle.vs_run_active.proofs.EdgesExist.{edge_number, edge_number-fits, falls-are, rises-are}
use Rattle.vs_run_active.proofs.TablesLemmas.{row_is, row_means}
use Rattle.vs_run_active.proofs.WakingLemmas.{kinds_wake, listed_wake}
use Rattle.vs_run_active.proofs.WalksLemmas.{numbered_map, walked_none, walks_are}
use Rattle.vs_run_active.specs.Touches.{AreOf, all_woken, woken_by, woken_in}
use Rattle.vs_run_active.proofs.TouchesLemmas.{woken_for_word, woken_of}
use Rattle.vs_run_active.proofs.GoneLemmas.{triggered_by_test}
use Rattle.vs_run_active.specs.declared.process.Process.{Process}
use Rattle.vs_run_active.specs.declared.process.Wait.{Wait}
use Rattle.vs_run_active.specs.declared.process.Wait.TheVariants.{Nothing, Until, Inactive, Terms}
use Rattle.vs_process.specs.Scripts.{todo_on}
use Rattle.vs_run_active.specs.ProcessPlaces.{GoneOn, HasGone, gone_on, place_by, place_in, waits_at, waits_some}
use Rattle.vs_run_active.specs.Waiting.{AreWaiting, IsWaiting, places_of, waits_for}
use Rattle.vs_run_active.specs.Wakes.{AreWalked, AreWatched, AreWoken, KindsWalked, has_one, walked_by, woken_all, woken_watched}

-- ---- continuous assignments

-- the watchers of readers wake them as their ranges do
readers_watched : (word bits : ℕ) → word < every_word → bits < 2 ^ 64 → (rs : List Reader) (xs : List AssignState) →
    woken_watched (has_one word bits) (map reader_watcher rs) xs ≡ all_woken (sees word bits) rs xs
readers_watched word bits h k [] xs = refl
readers_watched word bits h k (r ∷ rs) xs =
    ap (λ (b : Bool). woken_watched (has_one word bits) (map reader_watcher rs) (if b then woken_in r.assign xs else xs)) (range_mask-has r.range word bits h k)
    ∙ readers_watched word bits h k rs (if sees word bits r.range then woken_in r.assign xs else xs)

-- ---- groups

pub woken_watched-append : (test : Watcher → Bool) (us ws : List Watcher) (xs : List AssignState) →
    woken_watched test (us ++ ws) xs ≡ woken_watched test ws (woken_watched test us xs)
woken_watched-append test [] ws xs = refl
woken_watched-append test (u ∷ us) ws xs = woken_watched-append test us ws (if test u then woken_in u.number xs else xs)

-- what a watcher stands for, where it sees a bit
pub all_spelled : (word bits : ℕ) (w : Watcher) (ns : List ℕ) (xs : List AssignState) → has_one word bits w ≡ true →
    woken_all ns xs ≡ woken_watched (has_one word bits) (map (numbered_as w) ns) xs
all_spelled word bits w [] xs h = refl
all_spelled word bits w (n ∷ ns) xs h =
    all_spelled word bits w ns (woken_in n xs) h
    ∙ sym (ap (λ (b : Bool). woken_watched (has_one word bits) (map (numbered_as w) ns) (if b then woken_in n xs else xs)) h)

-- and where it sees none
pub none_spelled : (word bits : ℕ) (w : Watcher) (ns : List ℕ) (xs : List AssignState) → has_one word bits w ≡ false →
    xs ≡ woken_watched (has_one word bits) (map (numbered_as w) ns) xs
none_spelled word bits w [] xs h = refl
none_spelled word bits w (n ∷ ns) xs h =
    none_spelled word bits w ns xs h ∙ sym (ap (λ (b : Bool). woken_watched (has_one word bits) (map (numbered_as w) ns) (if b then woken_in n xs else xs)) h)

-- one watcher more is looked at, and what it stands for
pub spelled_more : (test : Watcher → Bool) (meant : ℕ → List ℕ) (ws : List Watcher) (i : ℕ) (d : Watcher) (xs ys all : List AssignState) → i < length ws →
    ys ≡ woken_watched test (spelled_one meant (get_or ws i d)) xs → woken_watched test (spelled meant (drop i ws)) xs ≡ all →
    woken_watched test (spelled meant (drop (i + 1) ws)) ys ≡ all
spelled_more test meant ws i d xs ys all lt is so_far =
    ap (woken_watched test (spelled meant (drop (i + 1) ws))) is
    ∙ sym (ap (λ (l : List Watcher). woken_watched test (spelled meant l) xs) (drop_more ws i d lt)
    ∙ woken_watched-append test (spelled_one meant (get_or ws i d)) (spelled meant (drop (i + 1) ws)) xs)
    ∙ so_far

-- one member more
pub member_more : (ns : List ℕ) (i d : ℕ) (xs ys all : List AssignState) → i < length ns → ys ≡ woken_in (get_or ns i d) xs → woken_all (drop i ns) xs ≡ all → woken_all (drop (i + 1) ns) ys ≡ all
member_more ns i d xs ys all lt is so_far =
    ap (woken_all (drop (i + 1) ns)) is ∙ sym (ap (λ (l : List ℕ). woken_all l xs) (drop_more ns i d lt)) ∙ so_far

-- ---- processes

-- the terms that a process waits for; none where it waits for no event
abbrev waited : Wait → List EventTerm
waited (Terms n ts) = ts.now
waited _ = []

-- a process that the change of a word of a signal wakes goes on
abbrev triggered_process : ℕ → ℕ → List Digit → List Digit → Process → Process
triggered_process signal word before after x = if word_wakes (waited x.wait) signal word (Some before) (Some after) then gone_on x else x

-- a process that goes on waits for no event
pub idle : (x : Process) (control : ℕ) → waits_for (gone_on x) control ≡ false
idle x control = refl

-- the watchers of a control that a process waits for hit it
hit_watched : (x : Process) (n : ℕ) → ((control : ℕ) → waits_at control x.wait ≡ (n == control)) → (word bits number : ℕ) (ws : List Watcher) →
    is_hit waits_for (has_one word bits) ws number x ≡ watched number n word bits ws
hit_watched x n waits word bits number [] = refl
hit_watched x n waits word bits number (w ∷ ws) =
    ap₂ (λ (a b : Bool). (has_bits w.mask word bits && ((w.number == number) && a)) || b) (waits w.control ∙ same_eqb n w.control)
    (hit_watched x n waits word bits number ws)

-- none hits a process that waits for nothing
hit_none : (x : Process) → ((control : ℕ) → waits_at control x.wait ≡ false) → (word bits number : ℕ) (ws : List Watcher) → is_hit waits_for (has_one word bits) ws number x ≡ false
hit_none x none word bits number [] = refl
hit_none x none word bits number (w ∷ ws) =
    ap₂ (λ (a b : Bool). a || b)
    (and_right (has_bits w.mask word bits) _ (and_right (w.number == number) _ (none w.control)))
    (hit_none x none word bits number ws)

-- whether a watcher of one of the three kinds hits a process
abbrev hits : ℕ → ℕ → ℕ → ℕ → List ProcessTerm → ℕ → Process → Bool
hits word differing rising falling ts number x =
    (is_hit waits_for (has_one word differing) (kind_watchers Any ts) number x || is_hit waits_for (has_one word rising) (kind_watchers Posedge ts) number x)
    || is_hit waits_for (has_one word falling) (kind_watchers Negedge ts) number x

hits_some : (word differing rising falling : ℕ) (ts : List ProcessTerm) (number : ℕ) (x : Process) (n : ℕ) → ((control : ℕ) → waits_at control x.wait ≡ (n == control)) →
    hits word differing rising falling ts number x ≡ kinds_watched number n word differing rising falling ts
hits_some word differing rising falling ts number x n some =
    ap₂ (λ (a b : Bool). a || b)
    (ap₂ (λ (a b : Bool). a || b) (hit_watched x n some word differing number (kind_watchers Any ts)) (hit_watched x n some word rising number (kind_watchers Posedge ts)))
    (hit_watched x n some word falling number (kind_watchers Negedge ts))

hits_none : (word differing rising falling : ℕ) (ts : List ProcessTerm) (number : ℕ) (x : Process) → ((control : ℕ) → waits_at control x.wait ≡ false) →
    hits word differing rising falling ts number x ≡ false
hits_none word differing rising falling ts number x none =
    ap₂ (λ (a b : Bool). a || b)
    (ap₂ (λ (a b : Bool). a || b) (hit_none x none word differing number (kind_watchers Any ts)) (hit_none x none word rising number (kind_watchers Posedge ts)))
    (hit_none x none word falling number (kind_watchers Negedge ts))

module _ (terms : List ProcessTerm) (signal word differing rising falling : ℕ) (before after : List Digit) (within : word < every_word)
    (d : differing < 2 ^ 64) (r : rising < 2 ^ 64) (f : falling < 2 ^ 64) (same : length before ≡ length after) (short : length before ≤ 64)
    (differ : AreEdges Any before after differing) (rise : AreEdges Posedge before after rising) (fall : AreEdges Negedge before after falling) where
  -- the watchers hit a process where the change wakes it
  one_hit : (number : ℕ) (x : Process) (w : Wait) → x.wait ≡ w → IsWaiting terms number w →
      hits word differing rising falling (named signal terms) number x ≡ word_wakes (waited w) signal word (Some before) (Some after)
  one_hit number x (Nothing gait) is listed = hits_none word differing rising falling (named signal terms) number x (λ control. ap (waits_at control) is)
  one_hit number x (Until due) is listed = hits_none word differing rising falling (named signal terms) number x (λ control. ap (waits_at control) is)
  one_hit number x Inactive is listed = hits_none word differing rising falling (named signal terms) number x (λ control. ap (waits_at control) is)
  one_hit number x (Terms n ts) is listed =
      hits_some word differing rising falling (named signal terms) number x n (λ control. ap (waits_at control) is)
      ∙ kinds_wake number n signal word differing rising falling before after within d r f same short differ rise fall terms
      ∙ listed_wake number n signal word before after terms
      ∙ sym (ap (λ (l : List EventTerm). word_wakes l signal word (Some before) (Some after)) listed)

  -- the processes that are hit are those that the change wakes
  hit_processes : (xs : List Process) → AreWaiting terms xs →
      numbered (woken_where gone_on (hits word differing rising falling (named signal terms))) 0 xs ≡ map (triggered_process signal word before after) xs
  hit_processes xs waits =
      numbered_map (woken_where gone_on (hits word differing rising falling (named signal terms))) (triggered_process signal word before after) 0 xs
      (λ i x here m at.
      let same_number : i ≡ m = omega (arith, at) in
      ap (λ (b : Bool). if b then gone_on x else x) (one_hit m x x.wait refl (subst (λ (k : ℕ). IsWaiting terms k x.wait) same_number (waits.each i x here))))

  -- the walks over the three lists wake those processes
  walked_processes : (us vs ws : List Watcher) (xs new : List Process) → AreWaiting terms xs → us ≡ kind_watchers Any (named signal terms) →
      vs ≡ kind_watchers Posedge (named signal terms) → ws ≡ kind_watchers Negedge (named signal terms) →
      new ≡ walked_by word falling ws (walked_by word rising vs (walked_by word differing us xs)) → new ≡ map (triggered_process signal word before after) xs
  walked_processes us vs ws xs new waits any ups downs is =
      is
      ∙ ap (λ (l : List Watcher). walked_by word falling l (walked_by word rising vs (walked_by word differing us xs))) downs
      ∙ ap₂ (λ (k l : List Watcher). walked_by word falling (kind_watchers Negedge (named signal terms)) (walked_by word rising k (walked_by word differing l xs))) ups any
      ∙ walks_are waits_for gone_on idle (has_one word differing) (has_one word rising) (has_one word falling) (kind_watchers Any (named signal terms))
      (kind_watchers Posedge (named signal terms)) (kind_watchers Negedge (named signal terms)) xs
      ∙ hit_processes xs waits

-- where the processes are that a change wakes

placed_if : (b : Bool) (n : ℕ) (w : Wait) (terms : List EventTerm) (todo : Todo) → place_by w todo ≡ waiting terms todo →
    place_by (if b then Nothing Woken else w) todo ≡ (if b then triggered (waiting terms todo) else waiting terms todo)
placed_if true n w terms todo h = refl
placed_if false n w terms todo h = h

active_stays : (gait : Gait) (todo : Todo) (signal word : ℕ) (before after : Option (List Digit)) → active_at gait todo ≡ triggered_by signal word before after (active_at gait todo)
active_stays gait [] signal word before after = refl
active_stays gait (i ∷ rest) signal word before after = refl

told_wait : (w : Wait) (todo : Todo) (signal word : ℕ) (before after : Option (List Digit)) →
    place_by (if word_wakes (waited w) signal word before after then Nothing Woken else w) todo ≡ triggered_by signal word before after (place_by w todo)
told_wait (Nothing gait) todo signal word before after = active_stays gait todo signal word before after
told_wait (Until due) todo signal word before after = refl
told_wait Inactive todo signal word before after = refl
told_wait (Terms n ts) todo signal word before after = placed_if (word_wakes ts.now signal word before after) n (Terms n ts) ts.now todo refl

gone_if : (b : Bool) (p : Process) (counters : List ℕ) → place_in (if b then gone_on p else p) counters ≡ place_by (if b then Nothing Woken else p.wait) (todo_on p.script.now counters p.index)
gone_if true p counters = refl
gone_if false p counters = refl

told_place : (x : Process) (counters : List ℕ) (signal word : ℕ) (before after : List Digit) →
    place_in (triggered_process signal word before after x) counters ≡ triggered_by signal word (Some before) (Some after) (place_in x counters)
told_place x counters signal word before after =
    gone_if (word_wakes (waited x.wait) signal word (Some before) (Some after)) x counters
    ∙ told_wait x.wait (todo_on x.script.now counters x.index) signal word (Some before) (Some after)

triggered_places : (signal word : ℕ) (before after : List Digit) (counters : List (List ℕ)) (xs : List Process) →
    places_of counters (map (triggered_process signal word before after) xs) ≡ map (triggered_by signal word (Some before) (Some after)) (places_of counters xs)
triggered_places signal word before after counters [] = refl
triggered_places signal word before after [] (x ∷ xs) =
    ap₂ (λ (a : Place) (l : List Place). a ∷ l) (told_place x [] signal word before after) (triggered_places signal word before after [] xs)
triggered_places signal word before after (c ∷ counters) (x ∷ xs) =
    ap₂ (λ (a : Place) (l : List Place). a ∷ l) (told_place x c signal word before after) (triggered_places signal word before after counters xs)

-- what holds of each element holds of each that a function keeps it of
all_map : {A : Type 0} (P : ℕ → A → Type 0) (f : A → A) → ((i : ℕ) (x : A) → P i x → P i (f x)) → (xs : List A) → ((i : ℕ) (x : A) → slice_get xs i ≡ Some x → P i x) →
    (i : ℕ) (y : A) → slice_get (map f xs) i ≡ Some y → P i y
all_map P f keeps [] h i y here = absurd (none-some y here)
all_map P f keeps (x ∷ xs) h zero y here = subst (P zero) (same_Some (f x) y here) (keeps zero x (h zero x refl))
all_map P f keeps (x ∷ xs) h (suc i) y here = all_map (λ j z. P (suc j) z) f (λ j z p. keeps (suc j) z p) xs (λ j z e. h (suc j) z e) i y here

one_waits : (terms : List ProcessTerm) (i : ℕ) (b : Bool) (x : Process) → IsWaiting terms i x.wait → IsWaiting terms i (if b then gone_on x else x).wait
one_waits terms i true x h = tt
one_waits terms i false x h = h

-- the processes that aren't woken wait as before
still_waiting : (terms : List ProcessTerm) (signal word : ℕ) (before after : List Digit) (xs : List Process) → AreWaiting terms xs →
    AreWaiting terms (map (triggered_process signal word before after) xs)
still_waiting terms signal word before after xs h = record {
  each = all_map (λ i (x : Process). IsWaiting terms i x.wait) (triggered_process signal word before after)
      (λ i x p. one_waits terms i (word_wakes (waited x.wait) signal word (Some before) (Some after)) x p) xs (λ i x here. h.each i x here);
}

-- a process that is woken waited for an event
some_waited : (w : Wait) (signal word : ℕ) (before after : Option (List Digit)) → word_wakes (waited w) signal word before after ≡ true → waits_some w ≡ true
some_waited (Nothing gait) signal word before after h = absurd (false≢true h)
some_waited (Until due) signal word before after h = absurd (false≢true h)
some_waited Inactive signal word before after h = absurd (false≢true h)
some_waited (Terms n ts) signal word before after h = refl

gone_each : (f : Process → Process) → ((p : Process) → HasGone p (Some (f p))) → (xs : List Process) (i : ℕ) (p : Process) → slice_get xs i ≡ Some p → HasGone p (slice_get (map f xs) i)
gone_each f goes [] i p here = absurd (none-some p here)
gone_each f goes (x ∷ xs) zero p here = subst (λ (y : Process). HasGone y (Some (f x))) (same_Some x p here) (goes x)
gone_each f goes (x ∷ xs) (suc i) p here = gone_each f goes xs i p here

-- some of those that waited go on
gone_processes : (signal word : ℕ) (before after : List Digit) (xs : List Process) → GoneOn xs (map (triggered_process signal word before after) xs)
gone_processes signal word before after xs = record {
  len = length-map xs (triggered_process signal word before after);
  each = gone_each (triggered_process signal word before after)
      (λ p. triggered_by_test p (word_wakes (waited p.wait) signal word (Some before) (Some after)) (some_waited p.wait signal word (Some before) (Some after))) xs;
}

-- ---- the row of a signal

pub wakes_row : (d : Parts) (terms : List ProcessTerm) (tables : Tables) (signal word : ℕ) (change : WordChange) (row : Row) (differing : ℕ) (before after : List Digit)
    (assigns new_assigns : List AssignState) (processes new_processes : List Process) → AreWatched d terms tables assigns processes → IsChangeOf change before after →
    slice_get tables.rows.items signal ≡ Some row → word < every_word → differing < 2 ^ 64 → AreEdges Any before after differing →
    new_assigns ≡ woken_watched (has_one word differing) (spelled (meaning tables.groups) (between row.readers row.any tables.watchers.items)) assigns →
    AreWalked tables.watchers.items row word change processes new_processes →
    AreWoken d terms tables signal word before after assigns new_assigns processes new_processes
wakes_row d terms tables signal word change row differing before after assigns new_assigns processes new_processes is of here within below differ woken looked =
    let has : HasRow row tables.groups tables.watchers.items (readers d.assigns signal) (named signal terms) = is.rows.each signal row here in
    let tells : IsRow row tables.watchers.items has.front (named signal terms) = row_is has in
    let by_readers : new_assigns ≡ all_woken (sees word differing) (readers d.assigns signal) assigns =
    woken ∙ ap (λ (l : List Watcher). woken_watched (has_one word differing) (spelled (meaning tables.groups) l) assigns) tells.readers
    ∙ ap (λ (l : List Watcher). woken_watched (has_one word differing) l assigns) (row_means has)
    ∙ readers_watched word differing within below (readers d.assigns signal) assigns
    in
    let all : new_assigns ≡ map (woken_by (word_changes signal word (Some before) (Some after))) assigns =
    woken_for_word d assigns new_assigns signal word before after differing (readers d.assigns signal) is.sources of.size differ refl by_readers
    in
    let a = looked.any before after of in
    let r = looked.rising before after of in
    let f = looked.falling before after of in
    let walked_all : new_processes
    ≡ walked_by word f.number (between row.falling row.end tables.watchers.items)
    (walked_by word r.number (between row.rising row.falling tables.watchers.items) (walked_by word a.number (between row.any row.rising tables.watchers.items) processes)) =
    f.new_is
    ∙ ap (walked_by word f.number (between row.falling row.end tables.watchers.items))
    (r.new_is ∙ ap (walked_by word r.number (between row.rising row.falling tables.watchers.items)) a.new_is)
    in
    let going_on : new_processes ≡ map (triggered_process signal word before after) processes =
    walked_processes terms signal word a.number r.number f.number before after within a.fits r.fits f.fits of.size of.limit a.edges r.edges f.edges
    (between row.any row.rising tables.watchers.items) (between row.rising row.falling tables.watchers.items) (between row.falling row.end tables.watchers.items)
    processes new_processes is.waiting tells.any tells.rising tells.falling walked_all
    in
    record {
      assigns_are = all;
      places_are = λ counters. ap (places_of counters) going_on ∙ triggered_places signal word before after counters processes;
      gone = subst (GoneOn processes) (sym going_on) (gone_processes signal word before after processes);
      watched = record {
        rows = is.rows;
        sources = subst (AreOf d) (sym all) (woken_of d (word_changes signal word (Some before) (Some after)) assigns is.sources);
        waiting = subst (AreWaiting terms) (sym going_on) (still_waiting terms signal word before after processes is.waiting);
      };
    }

-- no bit wakes none
no_bits : (word : ℕ) (w : Watcher) → has_one word 0 w ≡ false
no_bits word w =
    let none : bit_and w.mask.bits 0 ≡ 0 = omega (arith, and_le_r w.mask.bits 0) in
    ap (λ (n : ℕ). not (n == 0) && ((w.mask.word == every_word) || (w.mask.word == word))) none

pub no_bits_wake : (word bits : ℕ) (ws : List Watcher) (xs : List Process) → bits ≡ 0 → xs ≡ walked_by word bits ws xs
no_bits_wake word bits ws xs none =
    sym (walked_none waits_for gone_on idle (has_one word 0) (no_bits word) ws xs) ∙ sym (ap (λ (n : ℕ). walked_by word n ws xs) none)

-- nothing stands between two places of which the second isn't after the first
pub none_between : (word bits from to : ℕ) (ws : List Watcher) (xs : List Process) → to ≤ from → xs ≡ walked_by word bits (between from to ws) xs
none_between word bits from to ws xs h =
    let none : to - from ≡ 0 = omega arith in
    sym (ap (λ (n : ℕ). walked_by word bits (take n (drop from ws)) xs) none)

-- where event controls wait for rises alone, the others have been looked at
pub rises_walked : (watchers : List Watcher) (row : Row) (word differing : ℕ) (change : WordChange) (xs ys : List Process) → row.rising ≤ row.any → row.end ≤ row.falling →
    differing < 2 ^ 64 → AreEdgesOf Any change differing → KindsWalked Posedge (between row.rising row.falling watchers) word change xs ys → AreWalked watchers row word change xs ys
rises_walked watchers row word differing change xs ys none_any none_falling below differ rises = record {
  first = xs;
  second = ys;
  any = λ before after of. record {
    number = differing;
    fits = below;
    edges = differ before after of;
    new_is = none_between word differing row.any row.rising watchers xs none_any;
  };
  rising = rises;
  falling = λ before after of. record {
    number = edge_number Negedge before after;
    fits = edge_number-fits Negedge before after of.limit;
    edges = falls-are before after of.size;
    new_is = none_between word (edge_number Negedge before after) row.falling row.end watchers ys none_falling;
  };
}

-- the change of a signal that none watches wakes nothing
pub unwatched : (d : Parts) (terms : List ProcessTerm) (tables : Tables) (signal word : ℕ) (change : WordChange) (row : Row) (differing : ℕ) (before after : List Digit)
    (assigns : List AssignState) (processes : List Process) → AreWatched d terms tables assigns processes → IsChangeOf change before after →
    slice_get tables.rows.items signal ≡ Some row → word < every_word → differing < 2 ^ 64 → AreEdgesOf Any change differing → Fits row (length tables.watchers.items) →
    row.end ≤ row.readers → AreWoken d terms tables signal word before after assigns assigns processes processes
unwatched d terms tables signal word change row differing before after assigns processes is of here within below differ fits none =
    let watchers : List Watcher = tables.watchers.items in
    let ups : row.rising ≤ row.any = omega (arith, fits, none) in
    let downs : row.falling ≤ row.rising = omega (arith, fits, none) in
    let ends : row.end ≤ row.falling = omega (arith, fits, none) in
    let unread : row.any - row.readers ≡ 0 = omega (arith, fits, none) in
    let rises : KindsWalked Posedge (between row.rising row.falling watchers) word change processes processes = λ before after of. record {
      number = edge_number Posedge before after;
      fits = edge_number-fits Posedge before after of.limit;
      edges = rises-are before after of.size;
      new_is = none_between word (edge_number Posedge before after) row.rising row.falling watchers processes downs;
    } in
    wakes_row d terms tables signal word change row differing before after assigns assigns processes processes is of here within below (differ before after of)
    (sym (ap (λ (n : ℕ). woken_watched (has_one word differing) (spelled (meaning tables.groups) (take n (drop row.readers watchers))) assigns) unread))
    (rises_walked watchers row word differing change processes processes ups ends below differ rises)
