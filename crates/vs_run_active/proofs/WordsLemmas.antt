-- The watchers of each word of an array.
use Rattle.std.proofs.Common.{◌≡◌, ◌≢◌, ℕ, zero, suc, ◌+◌, ◌<◌, ◌≤◌, ◌==◌, ◌||◌, Bool, true, false, if◌then◌else◌, Some, List, [], ◌∷◌, ◌++◌, take, length, get_or, slice_get, inl, inr, refl, sym, ◌∙◌, ap, ap₂, subst, append-nil, arith}
use Rattle.std.specs.declared.vec.Vec.{Vec}
use Rattle.std.specs.declared.alloc.Global.{Global}
use Rattle.std.proofs.lemmas.Bool.{cases_Bool, eqb-true, eq-eqb, false_from_ne_true, false≢true}
use Rattle.std.proofs.lemmas.List.{length-map, take_more}
use Rattle.std.proofs.lemmas.Option.{none-some, same_Some, slice_get_within as within}
use Rattle.vs_design.specs.declared.design.Assign.{Assign}
use Rattle.vs_design.specs.Stores.{changed_at}
use Rattle.vs_design.specs.Tables.{empty_rows, rows}
use Rattle.vs_design.proofs.Stores.{length-changed_at}
use Rattle.vs_design.proofs.Tables.{at_other as get_other, at_changed as get_same, none_at as none_in_empty}
use Rattle.vs_eval.specs.Masks.{every_word}
use Rattle.vs_run_active.specs.declared.groups.Groups.{Groups}
use Rattle.vs_run_active.specs.declared.rows.Row.{Row}
use Rattle.vs_run_active.specs.declared.watchers.ProcessTerm.{ProcessTerm}
use Rattle.vs_run_active.specs.declared.watchers.Watcher.{Watcher}
use Rattle.vs_run_active.specs.Rows.{row_at, row_watchers, AreRows, Fits, RowAdded}
use Rattle.vs_run_active.specs.Watchers.{between}
use Rattle.vs_run_active.specs.Words.{AreByWord, AreSeeing, NotedIn, changed_before, seeing, sees_word}
use Rattle.vs_run_active.proofs.RowsLemmas.{row_tells}
use Rattle.vs_run_active.proofs.TablesLemmas.{old_or_new, row_is}

-- ---- watchers that see a word

one_or_none : (b : Bool) (u : Watcher) (all us ws : List Watcher) → all ≡ us ++ ws → (if b then u ∷ all else all) ≡ (if b then u ∷ us else us) ++ ws
one_or_none true u all us ws h = ap (λ (l : List Watcher). u ∷ l) h
one_or_none false u all us ws h = h

seeing-append : (word : ℕ) (us ws : List Watcher) → seeing word (us ++ ws) ≡ seeing word us ++ seeing word ws
seeing-append word [] ws = refl
seeing-append word (u ∷ us) ws = one_or_none (sees_word word u) u (seeing word (us ++ ws)) (seeing word us) (seeing word ws) (seeing-append word us ws)

one_twice : (word : ℕ) (w : Watcher) (seen : List Watcher) (b : Bool) → sees_word word w ≡ b → seeing word seen ≡ seen →
    seeing word (if b then w ∷ seen else seen) ≡ (if b then w ∷ seen else seen)
one_twice word w seen true is h = ap (λ (b : Bool). if b then w ∷ seeing word seen else seeing word seen) is ∙ ap (λ (l : List Watcher). w ∷ l) h
one_twice word w seen false is h = h

-- those that see a word all do
pub seeing_twice : (word : ℕ) (ws : List Watcher) → seeing word (seeing word ws) ≡ seeing word ws
seeing_twice word [] = refl
seeing_twice word (w ∷ ws) = one_twice word w (seeing word ws) (sees_word word w) refl (seeing_twice word ws)

-- ---- lists with one watcher more

pub before_more : {A : Type 0} (f : A → A) (n : ℕ) (xs : List A) → changed_at f n (changed_before f n xs) ≡ changed_before f (suc n) xs
before_more f zero [] = refl
before_more f zero (x ∷ xs) = refl
before_more f (suc n) [] = refl
before_more {A = A} f (suc n) (x ∷ xs) = ap (λ (l : List A). f x ∷ l) (before_more f n xs)

length_before : {A : Type 0} (f : A → A) (n : ℕ) (xs : List A) → length (changed_before f n xs) ≡ length xs
length_before f zero xs = refl
length_before f (suc n) [] = refl
length_before f (suc n) (x ∷ xs) = ap suc (length_before f n xs)

get_before : {A : Type 0} (f : List A → List A) (n i : ℕ) (xs : List (List A)) → i < length xs → length xs ≤ n → get_or (changed_before f n xs) i [] ≡ f (get_or xs i [])
get_before f n i [] lt le = absurd (omega arith)
get_before f zero i (x ∷ xs) lt le = absurd (omega arith)
get_before f (suc n) zero (x ∷ xs) lt le = refl
get_before f (suc n) (suc i) (x ∷ xs) lt le = get_before f n i xs (omega arith) (omega arith)

-- whether a watcher sees a word, by what its mask names
sees_by : (word : ℕ) (w : Watcher) (every own : Bool) → (w.mask.word == every_word) ≡ every → (w.mask.word == word) ≡ own → seeing word (w ∷ []) ≡ (if every || own then w ∷ [] else [])
sees_by word w every own h k = ap₂ (λ (a b : Bool). if a || b then w ∷ [] else []) h k

one_at : (w : Watcher) (lists : List (List Watcher)) (word : ℕ) → (w.mask.word == every_word) ≡ false → word < length lists →
    get_or (changed_at (λ list. list ++ w ∷ []) w.mask.word lists) word [] ≡ get_or lists word [] ++ seeing word (w ∷ [])
one_at w lists word apart lt = elim (cases_Bool (w.mask.word == word)) [
  | inl here ↦
      ap (λ (i : ℕ). get_or (changed_at (λ list. list ++ w ∷ []) i lists) word []) (eqb-true w.mask.word word here)
      ∙ get_same (λ list. list ++ w ∷ []) word lists lt
      ∙ ap (λ (l : List Watcher). get_or lists word [] ++ l) (sym (sees_by word w false true apart here))
  | inr other ↦
      get_other (λ list. list ++ w ∷ []) w.mask.word word lists (λ e. false≢true (sym other ∙ eq-eqb w.mask.word word e))
      ∙ sym (append-nil (get_or lists word []))
      ∙ ap (λ (l : List Watcher). get_or lists word [] ++ l) (sym (sees_by word w false false apart other))
]

-- a watcher of one word has come into the list of that
pub noted_one : (w : Watcher) (old new : List (List Watcher)) → w.mask.word ≢ every_word → new ≡ changed_at (λ list. list ++ w ∷ []) w.mask.word old → NotedIn w old new
noted_one w old new apart is =
    let one : (w.mask.word == every_word) ≡ false = false_from_ne_true (w.mask.word == every_word) (λ t. apart (eqb-true w.mask.word every_word t)) in
    record {
      size = ap (λ (l : List (List Watcher)). length l) is ∙ length-changed_at (λ list. list ++ w ∷ []) w.mask.word old;
      each = λ word lt. ap (λ (l : List (List Watcher)). get_or l word []) is ∙ one_at w old word one lt;
    }

-- one of every word into each
pub noted_every : (w : Watcher) (n : ℕ) (old new : List (List Watcher)) → w.mask.word ≡ every_word → length old ≤ n → new ≡ changed_before (λ list. list ++ w ∷ []) n old →
    NotedIn w old new
noted_every w n old new every le is =
    let all : (w.mask.word == every_word) ≡ true = eq-eqb w.mask.word every_word every in
    record {
      size = ap (λ (l : List (List Watcher)). length l) is ∙ length_before (λ list. list ++ w ∷ []) n old;
      each = λ word lt.
          ap (λ (l : List (List Watcher)). get_or l word []) is ∙ get_before (λ list. list ++ w ∷ []) n word old lt le
          ∙ ap (λ (l : List Watcher). get_or old word [] ++ l) (sym (sees_by word w true (w.mask.word == word) all refl));
    }

-- ---- lists of all watchers

pub no_lists : (ws : List Watcher) (lists : List (Vec Watcher Global)) → lists ≡ [] → AreSeeing ws (rows lists)
no_lists ws lists h = λ word lt.
    let none : length (rows lists) ≡ 0 = ap (λ (l : List (Vec Watcher Global)). length (rows l)) h in
    absurd (omega (arith, lt, none))

pub none_seen : (n : ℕ) (lists : List (List Watcher)) → lists ≡ empty_rows n → AreSeeing [] lists
none_seen n lists h = λ word lt. ap (λ (l : List (List Watcher)). get_or l word []) h ∙ none_in_empty n word

pub seen_more : (ws : List Watcher) (i : ℕ) (d w : Watcher) (old new : List (List Watcher)) → i < length ws → w ≡ get_or ws i d → AreSeeing (take i ws) old → NotedIn w old new →
    AreSeeing (take (i + 1) ws) new
seen_more ws i d w old new lt is so_far noted = λ word within.
    let inside : word < length old = omega (arith, within, noted.size) in
    noted.each word inside ∙ ap (λ (l : List Watcher). l ++ seeing word (w ∷ [])) (so_far word inside) ∙ sym (seeing-append word (take i ws) (w ∷ []))
    ∙ ap (seeing word) (ap (λ (x : Watcher). take i ws ++ x ∷ []) is ∙ sym (take_more ws i d lt))

-- ---- the lists of all signals

-- the parts of a row that has come stand one after another
pub added_fits : (old new : Groups) (before after : List Watcher) (row : Row) (plain : List Watcher) (terms : List ProcessTerm) → RowAdded old new before after row plain terms →
    Fits row (length after)
added_fits old new before after row plain terms added =
    let front = added.adds.watchers in
    let all : (before ++ row_watchers front terms) ++ [] ≡ after = append-nil (before ++ row_watchers front terms) ∙ sym added.after_is in
    subst (λ (r : Row). Fits r (length after)) (sym added.row_is)
    (subst (λ (l : List Watcher). Fits (row_at (length before) front terms) (length l)) all (row_tells before [] front terms).fits)

-- a row that was there tells of the same readers after another one has come
same_readers : (old new : Groups) (before after plain : List Watcher) (row other : Row) (n signal : ℕ) (assigns : List Assign) (terms listed : List ProcessTerm) (rs : List Row) →
    AreRows n assigns terms old rs before → slice_get rs signal ≡ Some row → RowAdded old new before after other plain listed →
    between row.readers row.any before ≡ between row.readers row.any after
same_readers old new before after plain row other n signal assigns terms listed rs are here added =
    let has = are.each signal row here in
    (row_is has).readers ∙ sym (has.tells (row_watchers added.adds.watchers listed)).readers ∙ ap (between row.readers row.any) (sym added.after_is)

pub by_word_next : (n : ℕ) (assigns : List Assign) (terms listed : List ProcessTerm) (old new : Groups) (rs rs_next : List Row) (ws ws_next plain : List Watcher)
    (words words_next : List (Vec (Vec Watcher Global) Global)) (row : Row) (lists : Vec (Vec Watcher Global) Global) → AreRows n assigns terms old rs ws → AreByWord rs ws words →
    length words ≡ n → RowAdded old new ws ws_next row plain listed → rs_next ≡ rs ++ row ∷ [] → words_next ≡ words ++ lists ∷ [] →
    AreSeeing (between row.readers row.any ws_next) (rows lists.items) → AreByWord rs_next ws_next words_next
by_word_next n assigns terms listed old new rs rs_next ws ws_next plain words words_next row lists are so_far size added pushed listed_too own = λ signal r l here there.
    elim (old_or_new rs row r signal (ap (λ (k : List Row). slice_get k signal) (sym pushed) ∙ here)) [
      | inl before ↦ elim (old_or_new words lists l signal (ap (λ (k : List (Vec (Vec Watcher Global) Global)). slice_get k signal) (sym listed_too) ∙ there)) [
        | inl kept ↦ subst (λ (k : List Watcher). AreSeeing k (rows l.items)) (same_readers old new ws ws_next plain r row n signal assigns terms listed rs are before added)
            (so_far signal r l before kept)
        | inr last ↦ let lt : signal < length rs = within rs signal r before in let at : signal ≡ length words = last.0 in absurd (omega (arith, lt, at, size, are.all))
      ]
      | inr now ↦ elim (old_or_new words lists l signal (ap (λ (k : List (Vec (Vec Watcher Global) Global)). slice_get k signal) (sym listed_too) ∙ there)) [
        | inl kept ↦ let lt : signal < length words = within words signal l kept in let at : signal ≡ length rs = now.0 in absurd (omega (arith, lt, at, size, are.all))
        | inr last ↦ subst (λ (k : Row). AreSeeing (between k.readers k.any ws_next) (rows l.items)) (sym now.1)
            (subst (λ (k : Vec (Vec Watcher Global) Global). AreSeeing (between row.readers row.any ws_next) (rows k.items)) (sym last.1) own)
      ]
    ]

-- the list of a word, as code has it
pub list_at : {A : Type 0} (lists : List (Vec A Global)) (i : ℕ) (v : Vec A Global) → slice_get lists i ≡ Some v → get_or (rows lists) i [] ≡ v.items
list_at [] i v h = absurd (none-some v h)
list_at {A = A} (x ∷ lists) zero v h = ap (λ (y : Vec A Global). y.items) (same_Some x v h)
list_at (x ∷ lists) (suc i) v h = list_at lists i v h

-- a list that code finds has the watchers that see its word
pub found_seeing : (ws list : List Watcher) (lists : List (Vec Watcher Global)) (word : ℕ) (v : Vec Watcher Global) → AreSeeing ws (rows lists) → slice_get lists word ≡ Some v →
    list ≡ v.items → seeing word list ≡ seeing word ws
found_seeing ws list lists word v are here is =
    let inside : word < length (rows lists) = omega (arith, within lists word v here, length-map lists (λ (row : Vec Watcher Global). row.items)) in
    ap (seeing word) (is ∙ sym (list_at lists word v here) ∙ are word inside) ∙ seeing_twice word ws
