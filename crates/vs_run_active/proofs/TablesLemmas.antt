-- Lemmas on the rows of all signals.
use Rattle.std.proofs.Common.{◌≡◌, ℕ, zero, suc, ◌+◌, ◌<◌, ◌≤◌, ◌⊎◌, Bool, true, false, if◌then◌else◌, map, Some, List, [], ◌∷◌, ◌++◌, length, get_or, slice_get, inl, inr, refl, sym, ◌∙◌, ap, ap₂, subst, append_assoc, arith}
use Rattle.std.specs.declared.vec.Vec.{Vec}
use Rattle.std.specs.declared.alloc.Global.{Global}
use Rattle.std.proofs.lemmas.List.{append-nil, length-append, length-map, map-append}
use Rattle.std.proofs.lemmas.Option.{none-some, same_Some}
use Rattle.vs_design.specs.declared.design.Assign.{Assign}
use Rattle.vs_design.specs.declared.range.BitRange.{BitRange}
use Rattle.vs_design.specs.declared.readers.Reader.{Reader}
use Rattle.vs_design.specs.Readers.{readers, readers_from, readings}
use Rattle.vs_design.specs.Tables.{rows}
use Rattle.vs_design.specs.Uses.{is_of, reads}
use Rattle.vs_run_active.specs.declared.groups.Group.{Group}
use Rattle.vs_run_active.specs.declared.groups.Groups.{Groups}
use Rattle.vs_run_active.specs.declared.rows.Row.{Row}
use Rattle.vs_run_active.specs.declared.watchers.Watcher.{Watcher}
use Rattle.vs_run_active.specs.declared.watchers.ProcessTerm.{ProcessTerm}
use Rattle.vs_run_active.specs.Groups.{AllAssigns, Spells, meaning, meant_by, spelled}
use Rattle.vs_run_active.specs.Lists.{AreBySignal, named}
use Rattle.vs_run_active.specs.Rows.{row_at, row_watchers, AreRows, HasRow, IsRow, RowAdded, RowsFit}
use Rattle.vs_run_active.specs.Watchers.{reader_watcher}
use Rattle.vs_run_active.proofs.GroupsLemmas.{spells_later}
use Rattle.vs_run_active.proofs.RowsLemmas.{row_tells}

-- an element of a list with one more at its end
pub old_or_new : {A : Type 0} (xs : List A) (y z : A) (i : ℕ) → slice_get (xs ++ y ∷ []) i ≡ Some z → (slice_get xs i ≡ Some z) ⊎ ((i ≡ length xs) × (z ≡ y))
old_or_new [] y z zero h = inr (refl, sym (same_Some y z h))
old_or_new [] y z (suc i) h = absurd (none-some z h)
old_or_new (x ∷ xs) y z zero h = inl h
old_or_new (x ∷ xs) y z (suc i) h = elim (old_or_new xs y z i h) [ inl e ↦ inl e | inr p ↦ inr (ap suc p.0, p.1) ]

pub no_rows : (assigns : List Assign) (terms : List ProcessTerm) (groups : Groups) (rs : List Row) (ws : List Watcher) → rs ≡ [] → groups.assigns ≡ length assigns →
    AreRows 0 assigns terms groups rs ws
no_rows assigns terms groups rs ws h known = record {
  all = ap (λ (l : List Row). length l) h;
  known = known;
  each = λ signal row e. absurd (none-some row (ap (λ (l : List Row). slice_get l signal) (sym h) ∙ e));
}

-- the list of a signal, as code has it
rows_at : {A : Type 0} (xs : List (Vec A Global)) (i : ℕ) (d : Vec A Global) → i < length xs → get_or (rows xs) i [] ≡ (get_or xs i d).items
rows_at [] i d h = absurd (omega arith)
rows_at (x ∷ xs) zero d h = refl
rows_at (x ∷ xs) (suc i) d h = rows_at xs i d (omega arith)

pub list_is : (terms : List ProcessTerm) (signals signal : ℕ) (lists : List (Vec ProcessTerm Global)) (list : Vec ProcessTerm Global) → AreBySignal terms signals (rows lists) →
    signal < signals → list ≡ get_or lists signal list → list.items ≡ named signal terms
list_is terms signals signal lists list by below is =
    let within : signal < length lists = omega (arith, below, by.all, length-map lists (λ (row : Vec ProcessTerm Global). row.items)) in
    ap (λ (v : Vec ProcessTerm Global). v.items) is ∙ sym (rows_at lists signal list within) ∙ by.each signal below

-- ---- the numbers of readers

all_both : (k : ℕ) (us ws : List Watcher) → AllAssigns k us → AllAssigns k ws → AllAssigns k (us ++ ws)
all_both k [] ws h g = g
all_both k (u ∷ us) ws h g = (h.0, all_both k us ws h.1 g)

one_below : (k number : ℕ) (r : BitRange) (rs : List Reader) (b : Bool) → number < k → AllAssigns k (map reader_watcher rs) →
    AllAssigns k (map reader_watcher (if b then record { assign = number; range = r } ∷ rs else rs))
one_below k number r rs true h g = (h, g)
one_below k number r rs false h g = g

readings_below : (k number : ℕ) (rs : List BitRange) (signal : ℕ) → number < k → AllAssigns k (map reader_watcher (readings number rs signal))
readings_below k number [] signal h = tt
readings_below k number (r ∷ rs) signal h = one_below k number r (readings number rs signal) (is_of signal r) h (readings_below k number rs signal h)

from_below : (k number : ℕ) (as' : List Assign) (signal : ℕ) → number + length as' ≤ k → AllAssigns k (map reader_watcher (readers_from number as' signal))
from_below k number [] signal h = tt
from_below k number (a ∷ rest) signal h =
    subst (AllAssigns k) (sym (map-append reader_watcher (readings number (reads a.source) signal) (readers_from (suc number) rest signal)))
    (all_both k (map reader_watcher (readings number (reads a.source) signal)) (map reader_watcher (readers_from (suc number) rest signal))
    (readings_below k number (reads a.source) signal (omega (arith, h))) (from_below k (suc number) rest signal (omega (arith, h))))

pub readers_below : (assigns : List Assign) (signal known : ℕ) (plain : List Watcher) (read : List Reader) → known ≡ length assigns → plain ≡ map reader_watcher read → read ≡ readers assigns signal →
    AllAssigns known plain
readers_below assigns signal known plain read same is of =
    subst (λ (k : ℕ). AllAssigns k plain) (sym same)
    (subst (AllAssigns (length assigns)) (sym (is ∙ ap (map reader_watcher) of)) (from_below (length assigns) 0 assigns signal (omega arith)))

-- ---- rows

-- a row is there after another one has come
row_later : (old new : Groups) (before after : List Watcher) (row other : Row) (plain : List Watcher) (read : List Reader) (terms listed : List ProcessTerm) →
    RowAdded old new before after other plain listed → HasRow row old before read terms → HasRow row new after read terms
row_later old new before after row other plain read terms listed added h = record {
  front = h.front;
  tells = λ rest.
      subst (λ (l : List Watcher). IsRow row l h.front terms) (sym (append_assoc before (row_watchers added.adds.watchers listed) rest) ∙ ap (λ (l : List Watcher). l ++ rest) (sym added.after_is))
      (h.tells (row_watchers added.adds.watchers listed ++ rest));
  spells = spells_later old new added.adds.groups added.adds.members h.front (map reader_watcher read) added.adds.groups_are added.adds.members_are added.adds.assigns_are h.spells;
}

-- the row that has come
row_new : (old new : Groups) (before after : List Watcher) (row : Row) (plain : List Watcher) (read : List Reader) (listed : List ProcessTerm) → RowAdded old new before after row plain listed →
    plain ≡ map reader_watcher read → HasRow row new after read listed
row_new old new before after row plain read listed added is = record {
  front = added.adds.watchers;
  tells = λ rest.
      subst (λ (r : Row). IsRow r (after ++ rest) added.adds.watchers listed) (sym added.row_is)
      (subst (λ (l : List Watcher). IsRow (row_at (length before) added.adds.watchers listed) (l ++ rest) added.adds.watchers listed) (sym added.after_is)
      (row_tells before rest added.adds.watchers listed));
  spells = subst (Spells new added.adds.watchers) is added.adds.spell;
}

pub rows_next : (n : ℕ) (assigns : List Assign) (terms : List ProcessTerm) (old new : Groups) (rs rs_next : List Row) (ws ws_next : List Watcher) (row : Row) (plain : List Watcher)
    (read : List Reader) (listed : List ProcessTerm) → AreRows n assigns terms old rs ws → plain ≡ map reader_watcher read → read ≡ readers assigns n → listed ≡ named n terms →
    RowAdded old new ws ws_next row plain listed → rs_next ≡ rs ++ row ∷ [] → AreRows (n + 1) assigns terms new rs_next ws_next
rows_next n assigns terms old new rs rs_next ws ws_next row plain read listed so_far is reads lists added pushed = record {
  all = ap (λ (l : List Row). length l) pushed ∙ length-append rs (row ∷ []) ∙ ap (λ (k : ℕ). k + 1) so_far.all;
  known = added.adds.assigns_are ∙ so_far.known;
  each = λ signal found e. elim (old_or_new rs row found signal (ap (λ (l : List Row). slice_get l signal) (sym pushed) ∙ e)) [
    | inl before ↦ row_later old new ws ws_next found row plain (readers assigns signal) (named signal terms) listed added (so_far.each signal found before)
    | inr here ↦
        let at : n ≡ signal = sym so_far.all ∙ sym here.0 in
        let own : HasRow row new ws_next read listed = row_new old new ws ws_next row plain read listed added is in
        let by_readers : HasRow row new ws_next (readers assigns signal) listed = subst (λ (l : List Reader). HasRow row new ws_next l listed) (reads ∙ ap (readers assigns) at) own in
        let by_terms : HasRow row new ws_next (readers assigns signal) (named signal terms) =
        subst (λ (l : List ProcessTerm). HasRow row new ws_next (readers assigns signal) l) (lists ∙ ap (λ (k : ℕ). named k terms) at) by_readers
        in
        subst (λ (r : Row). HasRow r new ws_next (readers assigns signal) (named signal terms)) (sym here.1) by_terms
  ];
}

-- what the row of a signal tells where nothing comes after the watchers
pub row_is : {groups : Groups} {row : Row} {ws : List Watcher} {read : List Reader} {terms : List ProcessTerm} → (h : HasRow row groups ws read terms) → IsRow row ws h.front terms
row_is {row = row} {ws = ws} {terms = terms} h = subst (λ (l : List Watcher). IsRow row l h.front terms) (append-nil ws) (h.tells [])

-- and what its watchers stand for where no groups come later
pub row_means : {groups : Groups} {row : Row} {ws : List Watcher} {read : List Reader} {terms : List ProcessTerm} → (h : HasRow row groups ws read terms) →
    spelled (meaning groups) h.front ≡ map reader_watcher read
row_means {groups = groups} h =
    sym (ap₂ (λ (g : List Group) (m : List ℕ). spelled (meant_by groups.assigns g m) h.front) (append-nil groups.groups.items) (append-nil groups.members.items)) ∙ h.spells [] []

-- rows that tell fit
pub rows_fit : {n : ℕ} {assigns : List Assign} {terms : List ProcessTerm} {groups : Groups} {rs : List Row} {ws : List Watcher} → AreRows n assigns terms groups rs ws → RowsFit rs ws
rows_fit are = λ signal row here. (row_is (are.each signal row here)).fits
