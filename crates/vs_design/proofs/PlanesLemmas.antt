-- Lemmas on the planes of a store.
use Rattle.std.proofs.Common.{◌≡◌, ◌≢◌, ℕ, zero, suc, ◌+◌, ◌<◌, ◌≤◌, ◌^◌, ◌⊎◌, inl, inr, ⊎_elim, nat_lt, if◌then◌else◌, Bool, true, false, Option, Some, None, List, [], ◌∷◌, ◌++◌, length, replicate, take, get_or, slice_get, slice_index, option_map, refl, sym, ◌∙◌, ap, ap₂, subst, arith}
use Rattle.std.specs.Prelude.{slice_set}
use Rattle.std.proofs.lemmas.Bool.{cases_lt, lt-ltb, le-ltb}
use Rattle.std.proofs.Math.ListN.{get_or-append}
use Rattle.std.proofs.lemmas.List.{get_or-set_same, get_or-set_other, get_or-replicate, get_or-append-add, length-set, length-replicate, length-append, map-append}
use Rattle.std.proofs.lemmas.Option.{none-some, same_Some, slice_get-map, slice_get_past, slice_get_read}
use Rattle.vs_logic4.specs.declared.digit.Digit.{Digit}
use Rattle.vs_logic4.specs.Planes.{digits_of_planes, value_plane, unknown_plane, ArePlanes}
use Rattle.vs_logic4.specs.PlaneLaws.{digits_of_planes-of, value_plane-lt, unknown_plane-lt}
use Rattle.vs_design.specs.declared.extent.Layout.{Layout}
use Rattle.vs_design.specs.declared.extent.Spot.{Spot}
use Rattle.vs_design.specs.Stores.{changed_at, word_of, word_in}
use Rattle.vs_design.specs.passes.Planes.{word_at, words_from, words_of, store_of, spot_in, spot_of, InTurn, IsWord, AreWords, ArePlanesOf, IsSpot}
use Rattle.vs_design.proofs.Stores.{changed_at-kept, changed_at-past}

-- ---- where a word is

-- what is known of where a word is
record IsFound (es : List Layout) (i word : ℕ) (s : Spot) : Type 0 where
  extent : Layout
  signal : slice_get es i ≡ Some extent
  below : word < extent.count
  index : extent.first + word ≡ s.index
  width : extent.width ≡ s.width

pub chosen : (e : Layout) (word : ℕ) (b : Bool) → nat_lt word e.count ≡ b → spot_in (Some e) word ≡ (if b then Some (record { index = e.first + word; width = e.width }) else None)
chosen e word b h = ap (λ c. if c then Some (record { index = e.first + word; width = e.width }) else None) h

-- a word that a signal has
pub spot_read : (es : List Layout) (i word : ℕ) (e : Layout) → i < length es → e ≡ get_or es i e → word < e.count →
    Some (record { index = e.first + word; width = e.width }) ≡ spot_of es i word
spot_read es i word e lt is below = sym (ap (λ o. spot_in o word) (slice_get_read es (length es) i e refl lt is) ∙ chosen e word true (lt-ltb word e.count below))

-- a word that a signal doesn't have
pub no_spot : (es : List Layout) (i word : ℕ) (e : Layout) → i < length es → e ≡ get_or es i e → e.count ≤ word → None ≡ spot_of es i word
no_spot es i word e lt is above = sym (ap (λ o. spot_in o word) (slice_get_read es (length es) i e refl lt is) ∙ chosen e word false (le-ltb word e.count above))

-- a word of no signal
pub no_signal : (es : List Layout) (i word : ℕ) → length es ≤ i → None ≡ spot_of es i word
no_signal es i word past = ap (λ o. spot_in o word) (sym (slice_get_past es i past))

spot_within : (e : Layout) (word : ℕ) (s : Spot) → spot_in (Some e) word ≡ Some s → (word < e.count) × (record { index = e.first + word; width = e.width } ≡ s)
spot_within e word s h =
    ⊎_elim
    (λ below. (below, same_Some _ s (sym (chosen e word true (lt-ltb word e.count below)) ∙ h)))
    (λ above. absurd (none-some s (sym (chosen e word false (le-ltb word e.count above)) ∙ h)))
    (cases_lt word e.count)

spot_past : (e : Layout) (word : ℕ) → spot_in (Some e) word ≡ None → e.count ≤ word
spot_past e word h =
    ⊎_elim (λ below. absurd (none-some _ (sym h ∙ chosen e word true (lt-ltb word e.count below)))) (λ above. above) (cases_lt word e.count)

module _ (es : List Layout) (i word : ℕ) where
  spot_found : (s : Spot) → spot_of es i word ≡ Some s → IsFound es i word s
  spot_found s h = at (slice_get es i) refl h
    where
      at : (o : Option Layout) → slice_get es i ≡ o → spot_in o word ≡ Some s → IsFound es i word s
      at None e k = absurd (none-some s k)
      at (Some x) e k =
          let here = spot_within x word s k in
          record { extent = x; signal = e; below = here.0; index = ap (λ (t : Spot). t.index) here.1; width = ap (λ (t : Spot). t.width) here.1 }

begins_within : (es : List Layout) (from end : ℕ) → InTurn from es end → from ≤ end
begins_within [] from end t = omega arith
begins_within (e ∷ es) from end t = omega (arith, begins_within es (from + e.count) end t.1)

-- the words of a signal end where those of all end, or before
pub ends_within : (es : List Layout) (from end i : ℕ) (e : Layout) → InTurn from es end → slice_get es i ≡ Some e → (from ≤ e.first) × (e.first + e.count ≤ end)
ends_within [] from end i e t h = absurd (none-some e h)
ends_within (x ∷ es) from end zero e t h =
    let past = begins_within es (from + x.count) end t.1 in
    subst (λ (y : Layout). (from ≤ y.first) × (y.first + y.count ≤ end)) (same_Some x e h) (omega (arith, t.0), omega (arith, t.0, past))
ends_within (x ∷ es) from end (suc i) e t h =
    let rest = ends_within es (from + x.count) end i e t.1 h in (omega (arith, rest.0), rest.1)

-- each word of a signal has its width
words_are : (es : List Layout) (vs us : List ℕ) (i : ℕ) (e : Layout) → AreWords es vs us → slice_get es i ≡ Some e → (k : ℕ) → k < e.count → IsWord e.width vs us (e.first + k)
words_are [] vs us i e a h = absurd (none-some e h)
words_are (x ∷ es) vs us zero e a h = subst (λ (y : Layout). (k : ℕ) → k < y.count → IsWord y.width vs us (y.first + k)) (same_Some x e h) a.0
words_are (x ∷ es) vs us (suc i) e a h = words_are es vs us i e a.1 h

-- a spot is within the planes
pub is_spot : (es : List Layout) (vs us : List ℕ) (i word : ℕ) (s : Spot) → ArePlanesOf es vs us → spot_of es i word ≡ Some s → IsSpot s vs us
is_spot es vs us i word s p h =
    let f = spot_found es i word s h in
    let within = (ends_within es 0 (length vs) i f.extent p.in_turn f.signal).1 in
    record {
      in_values = omega (arith, f.below, f.index, within);
      in_unknowns = omega (arith, f.below, f.index, within, p.as_long);
      is_word = subst (λ w. IsWord w vs us s.index) f.width (subst (IsWord f.extent.width vs us) f.index (words_are es vs us i f.extent p.words f.signal word f.below));
    }

-- ---- what a word holds

word_here : (width : ℕ) (vs us : List ℕ) (index n k : ℕ) → k < n → slice_get (words_from width vs us index n) k ≡ Some (word_at width vs us (index + k))
word_here width vs us index zero k h = absurd (omega arith)
word_here width vs us index (suc n) zero h =
    let place : index ≡ index + 0 = omega arith in ap (λ m. Some (word_at width vs us m)) place
word_here width vs us index (suc n) (suc k) h =
    let place : suc index + k ≡ index + suc k = omega arith in
    word_here width vs us (suc index) n k (omega arith) ∙ ap (λ m. Some (word_at width vs us m)) place

pub length-words_from : (width : ℕ) (vs us : List ℕ) (index n : ℕ) → length (words_from width vs us index n) ≡ n
length-words_from width vs us index zero = refl
length-words_from width vs us index (suc n) = ap suc (length-words_from width vs us (suc index) n)

module _ (es : List Layout) (vs us : List ℕ) (i : ℕ) where
  signal_is : (o : Option Layout) → slice_get es i ≡ o → slice_get (store_of es vs us) i ≡ option_map (λ (e : Layout). words_of e vs us) o
  signal_is o h = slice_get-map _ es i ∙ ap (option_map (λ (e : Layout). words_of e vs us)) h

  pub word_is : (word : ℕ) (s : Spot) → spot_of es i word ≡ Some s → Some (word_at s.width vs us s.index) ≡ word_of (store_of es vs us) i word
  word_is word s h =
      let f = spot_found es i word s h in
      sym
      (ap (λ o. word_in o word) (signal_is (Some f.extent) f.signal)
      ∙ word_here f.extent.width vs us f.extent.first f.extent.count word f.below
      ∙ ap₂ (λ w n. Some (word_at w vs us n)) f.width f.index)

  word_past : (e : Layout) (word : ℕ) → spot_in (Some e) word ≡ None → slice_get (words_of e vs us) word ≡ None
  word_past e word k = slice_get_past (words_of e vs us) word (subst (λ n. n ≤ word) (sym (length-words_from e.width vs us e.first e.count)) (spot_past e word k))

  pub word_missing : (word : ℕ) → spot_of es i word ≡ None → None ≡ word_of (store_of es vs us) i word
  word_missing word h = at (slice_get es i) refl h
    where
      at : (o : Option Layout) → slice_get es i ≡ o → spot_in o word ≡ None → None ≡ word_of (store_of es vs us) i word
      at None e k = sym (ap (λ ws. word_in ws word) (signal_is None e))
      at (Some x) e k = sym (ap (λ ws. word_in ws word) (signal_is (Some x) e) ∙ word_past x word k)

  -- no word to change
  pub nothing_written : (f : List Digit → List Digit) (word : ℕ) → spot_of es i word ≡ None → store_of es vs us ≡ changed_at (changed_at f word) i (store_of es vs us)
  nothing_written f word h = at (slice_get es i) refl h
    where
      at : (o : Option Layout) → slice_get es i ≡ o → spot_in o word ≡ None → store_of es vs us ≡ changed_at (changed_at f word) i (store_of es vs us)
      at None e k = changed_at-past (changed_at f word) i (store_of es vs us) (signal_is None e)
      at (Some x) e k =
          sym (changed_at-kept (changed_at f word) i (store_of es vs us)
          (λ ws found. subst (λ xs. changed_at f word xs ≡ xs) (same_Some (words_of x vs us) ws (sym (signal_is (Some x) e) ∙ found))
          (sym (changed_at-past f word (words_of x vs us) (word_past x word k)))))

-- ---- planes with the same words

module _ (vs us vs' us' : List ℕ) where
  -- the planes have the same words from an index to an end
  abbrev Same : ℕ → ℕ → Type 0
  Same from end = (k : ℕ) → from ≤ k → k < end → (slice_index vs k ≡ slice_index vs' k) × (slice_index us k ≡ slice_index us' k)

  same_words_from : (width index n : ℕ) → Same index (index + n) → words_from width vs us index n ≡ words_from width vs' us' index n
  same_words_from width index zero h = refl
  same_words_from width index (suc n) h =
      let here = h index (omega arith) (omega arith) in
      ap₂ (λ w ws. w ∷ ws) (ap₂ (digits_of_planes width) here.0 here.1) (same_words_from width (suc index) n (λ k low high. h k (omega arith) (omega arith)))

  same_word : (width index : ℕ) → Same index (suc index) → IsWord width vs us index → IsWord width vs' us' index
  same_word width index h is =
      let here = h index (omega arith) (omega arith) in
      subst (λ v. ArePlanes width v (slice_index us' index)) here.0 (subst (ArePlanes width (slice_index vs index)) here.1 is)

  -- the words of a signal have its width in both
  abbrev pub Both : Layout → Type 0
  Both e = ((k : ℕ) → k < e.count → IsWord e.width vs us (e.first + k)) → (k : ℕ) → k < e.count → IsWord e.width vs' us' (e.first + k)

  same_signal_words : (e : Layout) → Same e.first (e.first + e.count) → Both e
  same_signal_words e h is k below = same_word e.width (e.first + k) (λ m low high. h m (omega arith) (omega arith)) (is k below)

  pub same_store : (es : List Layout) (from end : ℕ) → InTurn from es end → Same from end → store_of es vs us ≡ store_of es vs' us'
  same_store [] from end t h = refl
  same_store (e ∷ es) from end t h =
      let past = begins_within es (from + e.count) end t.1 in
      ap₂ (λ ws s. ws ∷ s) (same_words_from e.width e.first e.count (λ k low high. h k (omega (arith, t.0)) (omega (arith, t.0, past))))
      (same_store es (from + e.count) end t.1 (λ k low high. h k (omega arith) high))

  pub same_words_are : (es : List Layout) (from end : ℕ) → InTurn from es end → Same from end → AreWords es vs us → AreWords es vs' us'
  same_words_are [] from end t h is = tt
  same_words_are (e ∷ es) from end t h is =
      let past = begins_within es (from + e.count) end t.1 in (
        same_signal_words e (λ k low high. h k (omega (arith, t.0)) (omega (arith, t.0, past))) is.0,
        same_words_are es (from + e.count) end t.1 (λ k low high. h k (omega arith) high) is.1,
      )

-- ---- a word written

-- other digits of a vector at an index of the planes
module _ (vs us : List ℕ) (index : ℕ) (ds : List Digit) where
  abbrev pub new_values : List ℕ
  new_values = slice_set vs index (value_plane ds)

  abbrev pub new_unknowns : List ℕ
  new_unknowns = slice_set us index (unknown_plane ds)

  apart : (from end : ℕ) → (index < from) ⊎ (end ≤ index) → Same vs us new_values new_unknowns from end
  apart from end h k low high =
      let other : k ≢ index = λ e. ⊎_elim (λ below. omega arith) (λ past. omega arith) h in
      (sym (get_or-set_other vs index k (value_plane ds) 0 other), sym (get_or-set_other us index k (unknown_plane ds) 0 other))

  module _ (in_values : index < length vs) (in_unknowns : index < length us) where
    written : (width : ℕ) → length ds ≡ width → word_at width new_values new_unknowns index ≡ ds
    written width h =
        ap₂ (digits_of_planes width) (get_or-set_same vs index (value_plane ds) 0 in_values) (get_or-set_same us index (unknown_plane ds) 0 in_unknowns)
        ∙ ap (λ w. digits_of_planes w (value_plane ds) (unknown_plane ds)) (sym h)
        ∙ digits_of_planes-of ds

    is_written : (width : ℕ) → length ds ≡ width → 0 < width → width ≤ 64 → IsWord width new_values new_unknowns index
    is_written width h some most =
        let value : value_plane ds < 2 ^ width = subst (λ n. value_plane ds < 2 ^ n) h (value_plane-lt ds) in
        let unknown : unknown_plane ds < 2 ^ width = subst (λ n. unknown_plane ds < 2 ^ n) h (unknown_plane-lt ds) in
        record {
          some = some;
          most = most;
          value_below = subst (λ n. n < 2 ^ width) (sym (get_or-set_same vs index (value_plane ds) 0 in_values)) value;
          unknown_below = subst (λ n. n < 2 ^ width) (sym (get_or-set_same us index (unknown_plane ds) 0 in_unknowns)) unknown;
        }

    module _ (f : List Digit → List Digit) (width : ℕ) (long : length ds ≡ width) (is : ds ≡ f (word_at width vs us index)) where
      words_written : (at n k : ℕ) → k < n → at + k ≡ index → words_from width new_values new_unknowns at n ≡ changed_at f k (words_from width vs us at n)
      words_written at zero k h e = absurd (omega arith)
      words_written at (suc n) zero h e =
          let here : at ≡ index = omega arith in
          ap₂ (λ w ws. w ∷ ws)
          (ap (word_at width new_values new_unknowns) here ∙ written width long ∙ is ∙ ap (λ m. f (word_at width vs us m)) (sym here))
          (sym (same_words_from vs us new_values new_unknowns width (suc at) n (apart (suc at) (suc at + n) (inl (omega arith)))))
      words_written at (suc n) (suc k) h e =
          let here = apart at (suc at) (inr (omega arith)) at (omega arith) (omega arith) in
          ap₂ (λ w ws. w ∷ ws) (ap₂ (digits_of_planes width) (sym here.0) (sym here.1)) (words_written (suc at) n k (omega arith) (omega arith))

at_or_apart : (n index : ℕ) → (n ≡ index) ⊎ ((index < n) ⊎ (suc n ≤ index))
at_or_apart n index =
    ⊎_elim (λ less. inr (inr less)) (λ le. ⊎_elim (λ less. inr (inl less)) (λ ge. inl (omega arith)) (cases_lt index n)) (cases_lt n index)

module _ (vs us : List ℕ) (index : ℕ) (ds : List Digit) (in_values : index < length vs) (in_unknowns : index < length us) where
  abbrev vs' : List ℕ
  vs' = new_values vs us index ds

  abbrev us' : List ℕ
  us' = new_unknowns vs us index ds

  -- the signal of the word has its width behind the change
  signal_stays : (e : Layout) → length ds ≡ e.width → IsWord e.width vs us index → Both vs us vs' us' e
  signal_stays e long is are k below =
      ⊎_elim
      (λ here. subst (IsWord e.width vs' us') (sym here) (is_written vs us index ds in_values in_unknowns e.width long is.some is.most))
      (λ other. same_word vs us vs' us' e.width (e.first + k) (apart vs us index ds (e.first + k) (suc (e.first + k)) other) (are k below))
      (at_or_apart (e.first + k) index)

  -- a signal before that of the word
  module _ (x e : Layout) (es : List Layout) (from end i k : ℕ) (t : InTurn from (x ∷ es) end) (h : slice_get es i ≡ Some e) (place : e.first + k ≡ index) where
    before : Same vs us vs' us' x.first (x.first + x.count)
    before = let after = (ends_within es (from + x.count) end i e t.1 h).0 in apart vs us index ds x.first (x.first + x.count) (inr (omega (arith, t.0, after, place)))

  -- the signals behind that of the word
  module _ (x e : Layout) (from end k : ℕ) (same : x ≡ e) (first : x.first ≡ from) (below : k < e.count) (place : e.first + k ≡ index) where
    behind : Same vs us vs' us' (from + x.count) end
    behind =
        let past : index < from + x.count = omega (arith, first, below, place, ap (λ (y : Layout). y.first) same, ap (λ (y : Layout). y.count) same) in
        apart vs us index ds (from + x.count) end (inl past)

  module _ (e : Layout) (k : ℕ) (below : k < e.count) (place : e.first + k ≡ index) (long : length ds ≡ e.width) where
    store_written : (f : List Digit → List Digit) → ds ≡ f (word_at e.width vs us index) → (es : List Layout) (from end i : ℕ) → InTurn from es end → slice_get es i ≡ Some e →
        store_of es vs' us' ≡ changed_at (changed_at f k) i (store_of es vs us)
    store_written f is [] from end i t h = absurd (none-some e h)
    store_written f is (x ∷ es) from end zero t h =
        let same = same_Some x e h in
        ap₂ (λ ws s. ws ∷ s)
        (subst (λ (y : Layout). words_of y vs' us' ≡ changed_at f k (words_of y vs us)) (sym same)
        (words_written vs us index ds in_values in_unknowns f e.width long is e.first e.count k below place))
        (sym (same_store vs us vs' us' es (from + x.count) end t.1 (behind x e from end k same t.0 below place)))
    store_written f is (x ∷ es) from end (suc i) t h =
        ap₂ (λ ws s. ws ∷ s)
        (sym (same_words_from vs us vs' us' x.width x.first x.count (before x e es from end i k t h place)))
        (store_written f is es (from + x.count) end i t.1 h)

    words_stay : IsWord e.width vs us index → (es : List Layout) (from end i : ℕ) → InTurn from es end → slice_get es i ≡ Some e → AreWords es vs us → AreWords es vs' us'
    words_stay is [] from end i t h are = absurd (none-some e h)
    words_stay is (x ∷ es) from end zero t h are =
        let same = same_Some x e h in (
          subst (Both vs us vs' us') (sym same) (signal_stays e long is) are.0,
          same_words_are vs us vs' us' es (from + x.count) end t.1 (behind x e from end k same t.0 below place) are.1,
        )
    words_stay is (x ∷ es) from end (suc i) t h are =
        (same_signal_words vs us vs' us' x (before x e es from end i k t h place) are.0, words_stay is es (from + x.count) end i t.1 h are.1)

-- a word of a signal is written
module _ (es : List Layout) (vs us : List ℕ) (i word : ℕ) (s : Spot) (ds : List Digit) where
  module _ (p : ArePlanesOf es vs us) (h : spot_of es i word ≡ Some s) (long : length ds ≡ s.width) where
    pub planes_written : ArePlanesOf es (new_values vs us s.index ds) (new_unknowns vs us s.index ds)
    planes_written =
        let f = spot_found es i word s h in
        let known = is_spot es vs us i word s p h in
        let is_word = subst (λ w. IsWord w vs us s.index) (sym f.width) known.is_word in
        let long_values = length-set vs s.index (value_plane ds) in
        let long_unknowns = length-set us s.index (unknown_plane ds) in
        record {
          in_turn = subst (InTurn 0 es) (sym long_values) p.in_turn;
          as_long = long_unknowns ∙ p.as_long ∙ sym long_values;
          words =
              words_stay vs us s.index ds known.in_values known.in_unknowns f.extent word f.below f.index (long ∙ sym f.width) is_word
              es 0 (length vs) i p.in_turn f.signal p.words;
        }

    pub put_written : (f : List Digit → List Digit) → ds ≡ f (word_at s.width vs us s.index) →
        store_of es (new_values vs us s.index ds) (new_unknowns vs us s.index ds) ≡ changed_at (changed_at f word) i (store_of es vs us)
    put_written change is =
        let f = spot_found es i word s h in
        let known = is_spot es vs us i word s p h in
        store_written vs us s.index ds known.in_values known.in_unknowns f.extent word f.below f.index (long ∙ sym f.width)
        change (is ∙ ap (λ w. change (word_at w vs us s.index)) (sym f.width)) es 0 (length vs) i p.in_turn f.signal

-- ---- a signal added

pub in_turn_added : (es : List Layout) (from end : ℕ) (e : Layout) → InTurn from es end → e.first ≡ end → InTurn from (es ++ e ∷ []) (end + e.count)
in_turn_added [] from end e t h = (h ∙ sym t, ap (λ n. n + e.count) t)
in_turn_added (x ∷ es) from end e t h = (t.0, in_turn_added es (from + x.count) end e t.1 h)

-- where the words of the next signal are
pub next_first : (es : List Layout) (from end total i : ℕ) (e : Layout) → InTurn from es total → InTurn from (take i es) end → slice_get es i ≡ Some e → e.first ≡ end
next_first [] from end total i e t p h = absurd (none-some e h)
next_first (x ∷ es) from end total zero e t p h = sym (ap (λ (y : Layout). y.first) (same_Some x e h)) ∙ t.0 ∙ p
next_first (x ∷ es) from end total (suc i) e t p h = next_first es (from + x.count) end total i e t.1 p.1 h

words_added : (es : List Layout) (e : Layout) (vs us : List ℕ) → AreWords es vs us → ((k : ℕ) → k < e.count → IsWord e.width vs us (e.first + k)) → AreWords (es ++ e ∷ []) vs us
words_added [] e vs us are is = (is, tt)
words_added (x ∷ es) e vs us are is = (are.0, words_added es e vs us are.1 is)

-- words that are all alike
words_alike : (width : ℕ) (vs us : List ℕ) (ds : List Digit) (index n : ℕ) → ((k : ℕ) → k < n → word_at width vs us (index + k) ≡ ds) → words_from width vs us index n ≡ replicate n ds
words_alike width vs us ds index zero h = refl
words_alike width vs us ds index (suc n) h =
    let here : index ≡ index + 0 = omega arith in
    ap₂ (λ w ws. w ∷ ws) (ap (word_at width vs us) here ∙ h 0 (omega arith))
    (words_alike width vs us ds (suc index) n (λ k below. let next : suc index + k ≡ index + suc k = omega arith in ap (word_at width vs us) next ∙ h (suc k) (omega arith)))

-- a plane with words behind it, all alike
filled_below : (xs : List ℕ) (n x k : ℕ) → k < length xs → slice_index xs k ≡ slice_index (xs ++ replicate n x) k
filled_below xs n x k below = sym (get_or-append xs (replicate n x) 0 k below)

filled_above : (xs : List ℕ) (n x k : ℕ) → k < n → slice_index (xs ++ replicate n x) (length xs + k) ≡ x
filled_above xs n x k below = get_or-append-add xs (replicate n x) k 0 ∙ get_or-replicate n k x 0 below

module _ (es : List Layout) (vs us : List ℕ) (e : Layout) (ds : List Digit) where
  abbrev more_values : List ℕ
  more_values = vs ++ replicate e.count (value_plane ds)

  abbrev more_unknowns : List ℕ
  more_unknowns = us ++ replicate e.count (unknown_plane ds)

  module _ (p : ArePlanesOf es vs us) (first : e.first ≡ length vs) (width : e.width ≡ length ds) where
    same_before : Same vs us more_values more_unknowns 0 (length vs)
    same_before k low high = (filled_below vs e.count (value_plane ds) k high, filled_below us e.count (unknown_plane ds) k (omega (arith, p.as_long)))

    option_values : (k : ℕ) → k < e.count → slice_index more_values (e.first + k) ≡ value_plane ds
    option_values k below = ap (λ n. slice_index more_values (n + k)) first ∙ filled_above vs e.count (value_plane ds) k below

    unknowns_behind : (k : ℕ) → k < e.count → slice_index more_unknowns (e.first + k) ≡ unknown_plane ds
    unknowns_behind k below = ap (λ n. slice_index more_unknowns (n + k)) (first ∙ sym p.as_long) ∙ filled_above us e.count (unknown_plane ds) k below

    pub store_added : store_of (es ++ e ∷ []) more_values more_unknowns ≡ store_of es vs us ++ replicate e.count ds ∷ []
    store_added =
        map-append (λ (x : Layout). words_of x more_values more_unknowns) es (e ∷ [])
        ∙ ap₂ (λ s ws. s ++ ws ∷ [])
        (sym (same_store vs us more_values more_unknowns es 0 (length vs) p.in_turn same_before))
        (words_alike e.width more_values more_unknowns ds e.first e.count
        (λ k below.
        ap₂ (digits_of_planes e.width) (option_values k below) (unknowns_behind k below)
        ∙ ap (λ w. digits_of_planes w (value_plane ds) (unknown_plane ds)) width
        ∙ digits_of_planes-of ds))

    pub planes_added : 0 < length ds → length ds ≤ 64 → ArePlanesOf (es ++ e ∷ []) more_values more_unknowns
    planes_added some most =
        let long_values : length more_values ≡ length vs + e.count = length-append vs _ ∙ ap (λ n. length vs + n) (length-replicate e.count (value_plane ds)) in
        let long_unknowns : length more_unknowns ≡ length us + e.count = length-append us _ ∙ ap (λ n. length us + n) (length-replicate e.count (unknown_plane ds)) in
        let planes : ArePlanes e.width (value_plane ds) (unknown_plane ds) =
        subst (λ w. ArePlanes w (value_plane ds) (unknown_plane ds)) (sym width) (record { some = some; most = most; value_below = value_plane-lt ds; unknown_below = unknown_plane-lt ds }) in
        record {
          in_turn = subst (InTurn 0 (es ++ e ∷ [])) (sym long_values) (in_turn_added es 0 (length vs) e p.in_turn first);
          as_long = long_unknowns ∙ ap (λ n. n + e.count) p.as_long ∙ sym long_values;
          words =
              words_added es e more_values more_unknowns (same_words_are vs us more_values more_unknowns es 0 (length vs) p.in_turn same_before p.words)
              (λ k below.
              subst (λ v. ArePlanes e.width v (slice_index more_unknowns (e.first + k))) (sym (option_values k below))
              (subst (ArePlanes e.width (value_plane ds)) (sym (unknowns_behind k below)) planes));
        }

-- what the planes are with one signal more
module _ (es es' : List Layout) (vs us vs' us' : List ℕ) (e : Layout) (n : ℕ) (ds : List Digit) where
  module _ (added : es' ≡ es ++ e ∷ []) (values : vs' ≡ vs ++ replicate n (value_plane ds)) (unknowns : us' ≡ us ++ replicate n (unknown_plane ds)) where
    module _ (p : ArePlanesOf es vs us) (first : e.first ≡ length vs) (count : e.count ≡ n) (width : e.width ≡ length ds) where
      pub planes_grown : 0 < length ds → length ds ≤ 64 → ArePlanesOf es' vs' us'
      planes_grown some most = rw (added, values, unknowns, ← count) (planes_added es vs us e ds p first width some most)

      pub store_grown : store_of es' vs' us' ≡ store_of es vs us ++ replicate n ds ∷ []
      store_grown = rw (added, values, unknowns, ← count) (store_added es vs us e ds p first width)
