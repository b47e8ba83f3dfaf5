-- Lemmas on the words of a store by one number each.
use Rattle.std.proofs.Common.{◌≡◌, ℕ, zero, suc, ◌+◌, ◌-◌, ◌<◌, ◌≤◌, ⊎_elim, Bool, true, false, nat_lt, if◌then◌else◌, Some, List, [], ◌∷◌, ◌++◌, map, length, replicate, get_or, slice_get, sym, ◌∙◌, ap, subst, arith}
use Rattle.std.proofs.lemmas.Bool.{cases_lt, lt-ltb, le-ltb}
use Rattle.std.proofs.Math.ListN.{get_or-append}
use Rattle.std.proofs.lemmas.List.{get_or-append-add, get_or-append_right, length-append, length-map, length-replicate}
use Rattle.std.proofs.lemmas.Option.{none-some, same_Some, slice_get-get_or}
use Rattle.vs_logic4.specs.declared.digit.Digit.{Digit}
use Rattle.vs_logic4.proofs.Basics.{same_first, tail_is}
use Rattle.vs_design.specs.declared.extent.Layout.{Layout}
use Rattle.vs_design.specs.declared.extent.Spot.{Spot}
use Rattle.vs_design.specs.declared.signal.Signal.{Signal}
use Rattle.vs_design.specs.Stores.{Store, changed_at, word_of}
use Rattle.vs_design.specs.InOrder.{with_word, words_in_order, numbered_word, words_before, word_sizes, sizes_of_signals, IsStoreOf}
use Rattle.vs_design.specs.passes.Planes.{word_at, words_from, words_of, store_of, spot_of, InTurn, IsWord, AreWords}
use Rattle.vs_design.proofs.PlanesLemmas.{chosen, length-words_from}

-- ---- what planes hold

words_read : (width : ℕ) (vs us : List ℕ) (index n k : ℕ) → k < n → get_or (words_from width vs us index n) k [] ≡ word_at width vs us (index + k)
words_read width vs us index zero k h = absurd (omega arith)
words_read width vs us index (suc n) zero h = let place : index ≡ index + 0 = omega arith in ap (λ m. word_at width vs us m) place
words_read width vs us index (suc n) (suc k) h =
    let place : suc index + k ≡ index + suc k = omega arith in
    words_read width vs us (suc index) n k (omega arith) ∙ ap (λ m. word_at width vs us m) place

-- planes have as many words as there are
pub as_many_words : (es : List Layout) (vs us : List ℕ) (from end : ℕ) → InTurn from es end → from + length (words_in_order (store_of es vs us)) ≡ end
as_many_words [] vs us from end t = let whole : from + 0 ≡ from = omega arith in whole ∙ t
as_many_words (e ∷ es) vs us from end t =
    let rest = as_many_words es vs us (from + e.count) end t.1 in
    omega (arith, rest, length-append (words_of e vs us) (words_in_order (store_of es vs us)), length-words_from e.width vs us e.first e.count)

-- what is known of the word at an index: of which signal it is, where it is, what it holds, and what another word there makes of the store
pub record IsHeld (es : List Layout) (vs us : List ℕ) (from index : ℕ) : Type 0 where
  pub signal : ℕ
  pub word : ℕ
  pub spot : Spot
  pub found : spot_of es signal word ≡ Some spot
  pub at : spot.index ≡ index
  pub digits : get_or (words_in_order (store_of es vs us)) (index - from) [] ≡ word_at spot.width vs us index
  pub is_word : IsWord spot.width vs us index
  pub changed : (ds : List Digit) → with_word (store_of es vs us) (index - from) ds ≡ changed_at (changed_at (λ (w : List Digit). ds) word) signal (store_of es vs us)

-- whether the word of a number is of the first signal
with_first : (words : List (List Digit)) (rest : Store) (number : ℕ) (ds : List Digit) (b : Bool) → nat_lt number (length words) ≡ b →
    with_word (words ∷ rest) number ds ≡ (if b then changed_at (λ (w : List Digit). ds) number words ∷ rest else words ∷ with_word rest (number - length words) ds)
with_first words rest number ds b h = ap (λ c. if c then changed_at (λ (w : List Digit). ds) number words ∷ rest else words ∷ with_word rest (number - length words) ds) h

-- the word of an index of the planes
pub word_held : (es : List Layout) (vs us : List ℕ) (from end index : ℕ) → InTurn from es end → AreWords es vs us → from ≤ index → index < end → IsHeld es vs us from index
word_held [] vs us from end index t are low high = absurd (omega (arith, t))
word_held (e ∷ es) vs us from end index t are low high =
    ⊎_elim
    (λ here.
    let below : index - from < e.count = omega arith in
    let place : e.first + (index - from) ≡ index = omega (arith, t.0) in
    let long : index - from < length (words_of e vs us) = omega (arith, length-words_from e.width vs us e.first e.count) in
    record {
      signal = 0;
      word = index - from;
      spot = record { index = e.first + (index - from); width = e.width };
      found = chosen e (index - from) true (lt-ltb (index - from) e.count below);
      at = place;
      digits =
          get_or-append (words_of e vs us) (words_in_order (store_of es vs us)) [] (index - from) long
          ∙ words_read e.width vs us e.first e.count (index - from) below
          ∙ ap (word_at e.width vs us) place;
      is_word = subst (IsWord e.width vs us) place (are.0 (index - from) below);
      changed = λ ds. with_first (words_of e vs us) (store_of es vs us) (index - from) ds true (lt-ltb (index - from) (length (words_of e vs us)) long);
    })
    (λ past.
    let rest = word_held es vs us (from + e.count) end index t.1 are.1 past high in
    let place : (index - from) - e.count ≡ index - (from + e.count) = omega arith in
    let long = length-words_from e.width vs us e.first e.count in
    let after : length (words_of e vs us) ≤ index - from = omega (arith, long) in
    record {
      signal = suc rest.signal;
      word = rest.word;
      spot = rest.spot;
      found = rest.found;
      at = rest.at;
      digits =
          get_or-append_right (words_of e vs us) (words_in_order (store_of es vs us)) e.count (index - from) [] long (omega arith)
          ∙ ap (λ k. get_or (words_in_order (store_of es vs us)) k []) place
          ∙ rest.digits;
      is_word = rest.is_word;
      changed = λ ds.
          with_first (words_of e vs us) (store_of es vs us) (index - from) ds false (le-ltb (index - from) (length (words_of e vs us)) after)
          ∙ ap (λ n. words_of e vs us ∷ with_word (store_of es vs us) ((index - from) - n) ds) long
          ∙ ap (λ n. words_of e vs us ∷ with_word (store_of es vs us) n ds) place
          ∙ ap (λ (store : Store). words_of e vs us ∷ store) (rest.changed ds);
    })
    (cases_lt index (from + e.count))

-- ---- where the words of a signal are

-- what is known of a word of a signal
pub record IsNumbered (signals : List Signal) (store : Store) (signal word : ℕ) (s : Signal) : Type 0 where
  pub below : words_before signals signal + word < length (words_in_order store)
  pub is : word_of store signal word ≡ Some (numbered_word store (words_before signals signal + word))
  pub size : length (numbered_word store (words_before signals signal + word)) ≡ s.width

pub head_long : (words : List (List Digit)) (s : Signal) → map length words ≡ replicate s.count s.width → length words ≡ s.count
head_long words s h = sym (length-map words length) ∙ ap length h ∙ length-replicate s.count s.width

size_read : (words : List (List Digit)) (n width k : ℕ) → map length words ≡ replicate n width → k < n → length (get_or words k []) ≡ width
size_read [] zero width k h below = absurd (omega arith)
size_read [] (suc n) width k h below = cc
size_read (w ∷ ws) zero width k h below = absurd (omega arith)
size_read (w ∷ ws) (suc n) width zero h below = same_first (length w) width (map length ws) (replicate n width) h
size_read (w ∷ ws) (suc n) width (suc k) h below = size_read ws n width k (tail_is (length w) width (map length ws) (replicate n width) h) (omega arith)

pub word_numbered : (signals : List Signal) (store : Store) (signal word : ℕ) (s : Signal) → IsStoreOf signals store → slice_get signals signal ≡ Some s → word < s.count →
    IsNumbered signals store signal word s
word_numbered [] store signal word s is at below = absurd (none-some s at)
word_numbered (x ∷ xs) [] signal word s is at below = cc
word_numbered (x ∷ xs) (ws ∷ rest) zero word s is at below =
    let same = same_Some x s at in
    let here = subst (λ (y : Signal). map length ws ≡ replicate y.count y.width) same (same_first (map length ws) (replicate x.count x.width) (word_sizes rest) (sizes_of_signals xs) is) in
    let long : word < length ws = omega (arith, head_long ws s here) in
    let all : length (ws ++ words_in_order rest) ≡ length ws + length (words_in_order rest) = length-append ws (words_in_order rest) in
    let none : 0 + word ≡ word = omega arith in
    let read : get_or (ws ++ words_in_order rest) (0 + word) [] ≡ get_or ws word [] =
    ap (λ k. get_or (ws ++ words_in_order rest) k []) none ∙ get_or-append ws (words_in_order rest) [] word long in
    record {
      below = omega arith;
      is = slice_get-get_or ws word [] long ∙ ap Some (sym read);
      size = ap length read ∙ size_read ws s.count s.width word here below;
    }
word_numbered (x ∷ xs) (ws ∷ rest) (suc i) word s is at below =
    let long = head_long ws x (same_first (map length ws) (replicate x.count x.width) (word_sizes rest) (sizes_of_signals xs) is) in
    let inner = word_numbered xs rest i word s (tail_is (map length ws) (replicate x.count x.width) (word_sizes rest) (sizes_of_signals xs) is) at below in
    let all : length (ws ++ words_in_order rest) ≡ length ws + length (words_in_order rest) = length-append ws (words_in_order rest) in
    let place : (x.count + words_before xs i) + word ≡ length ws + (words_before xs i + word) = omega (arith, long) in
    let read : get_or (ws ++ words_in_order rest) ((x.count + words_before xs i) + word) [] ≡ get_or (words_in_order rest) (words_before xs i + word) [] =
    ap (λ k. get_or (ws ++ words_in_order rest) k []) place ∙ get_or-append-add ws (words_in_order rest) (words_before xs i + word) [] in
    record {
      below = omega (arith, inner.below);
      is = inner.is ∙ ap Some (sym read);
      size = ap length read ∙ inner.size;
    }

-- another word of a signal, by its number
pub word_placed : (signals : List Signal) (store : Store) (signal word : ℕ) (s : Signal) (ds : List Digit) → IsStoreOf signals store → slice_get signals signal ≡ Some s → word < s.count →
    with_word store (words_before signals signal + word) ds ≡ changed_at (changed_at (λ (w : List Digit). ds) word) signal store
word_placed [] store signal word s ds is at below = absurd (none-some s at)
word_placed (x ∷ xs) [] signal word s ds is at below = cc
word_placed (x ∷ xs) (ws ∷ rest) zero word s ds is at below =
    let same = same_Some x s at in
    let here = subst (λ (y : Signal). map length ws ≡ replicate y.count y.width) same (same_first (map length ws) (replicate x.count x.width) (word_sizes rest) (sizes_of_signals xs) is) in
    let long : 0 + word < length ws = omega (arith, head_long ws s here) in
    let none : 0 + word ≡ word = omega arith in
    with_first ws rest (0 + word) ds true (lt-ltb (0 + word) (length ws) long) ∙ ap (λ k. changed_at (λ (w : List Digit). ds) k ws ∷ rest) none
word_placed (x ∷ xs) (ws ∷ rest) (suc i) word s ds is at below =
    let long = head_long ws x (same_first (map length ws) (replicate x.count x.width) (word_sizes rest) (sizes_of_signals xs) is) in
    let inner = word_placed xs rest i word s ds (tail_is (map length ws) (replicate x.count x.width) (word_sizes rest) (sizes_of_signals xs) is) at below in
    let after : length ws ≤ (x.count + words_before xs i) + word = omega (arith, long) in
    let place : ((x.count + words_before xs i) + word) - length ws ≡ words_before xs i + word = omega (arith, long) in
    with_first ws rest ((x.count + words_before xs i) + word) ds false (le-ltb ((x.count + words_before xs i) + word) (length ws) after)
    ∙ ap (λ n. ws ∷ with_word rest n ds) place
    ∙ ap (λ (store : Store). ws ∷ store) inner

-- ---- the table of a design

-- the first word of a signal stands after as many as the signals before it have
pub first_is : (signals : List Signal) (es : List Layout) (from end i : ℕ) (e : Layout) → InTurn from es end →
    map (λ (x : Layout). x.count) es ≡ map (λ (s : Signal). s.count) signals → slice_get es i ≡ Some e → e.first ≡ from + words_before signals i
first_is signals [] from end i e t same at = absurd (none-some e at)
first_is [] (x ∷ es) from end i e t same at = cc
first_is (s ∷ ss) (x ∷ es) from end zero e t same at = let whole : from ≡ from + 0 = omega arith in sym (ap (λ (y : Layout). y.first) (same_Some x e at)) ∙ t.0 ∙ whole
first_is (s ∷ ss) (x ∷ es) from end (suc i) e t same at =
    let head = same_first x.count s.count (map (λ (y : Layout). y.count) es) (map (λ (y : Signal). y.count) ss) same in
    let rest = first_is ss es (from + x.count) end i e t.1 (tail_is x.count s.count (map (λ (y : Layout). y.count) es) (map (λ (y : Signal). y.count) ss) same) at in
    omega (arith, rest, head)
