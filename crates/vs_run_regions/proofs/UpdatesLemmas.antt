-- Updates of a slot in memory: what their lists are after each call.
use Rattle.std.proofs.Common.{◌≡◌, ℕ, zero, suc, ◌+◌, ◌-◌, ◌<◌, ◌≤◌, ◌||◌, not, Bool, true, false, ltb, Option, Some, None, List, [], ◌∷◌, ◌++◌, map, length, drop, take, get_or, slice_get, slice_set, refl, sym, ◌∙◌, ap, ap₂, subst, arith}
use Rattle.std.specs.List.{list_any, remove}
use Rattle.std.specs.Prelude.{IfNone, OnErr}
use Rattle.std.specs.declared.result.Result.{Result}
use Rattle.std.specs.declared.result.Result.TheVariants.{Ok, Err}
use Rattle.std.proofs.lemmas.List.{drop_more, length-append, length-map, map-append}
use Rattle.std.proofs.lemmas.Option.{none-some, same_Some, slice_get-get_or}
use borrow.Author.Tests.{ltb-true}
use Rattle.std.proofs.lemmas.Bool.{ltb-false, true≢false}
use Rattle.vs_design.specs.declared.signal.Signal.{Signal}
use Rattle.vs_design.specs.Writes.{Write, shares}
use Rattle.vs_design.specs.vs_logic4.proofs.Basics.{map_at}
use Rattle.vs_run_regions.specs.declared.update.Update.{Update}
use Rattle.vs_run_regions.specs.declared.update.Update.TheVariants as u
use Rattle.vs_run_regions.specs.Updates.{AreIn, AreSlotUpdates, IsIn, is_first_left, is_shared, is_shown, left_of, somes, what_of}

-- ---- one more at the end
pub in_more : (signals : List Signal) (ws : List Write) (xs : List Update) (x : Update) → AreIn signals ws xs → IsIn signals ws x → AreIn signals ws (xs ++ x ∷ [])
in_more signals ws [] x known new = (new, tt)
in_more signals ws (y ∷ ys) x known new = (known.0, in_more signals ws ys x known.1 new)

pub left_more : (ws : List Write) (xs : List Update) (x : Update) (w : Write) → map (left_of ws) xs ≡ map Some (map (what_of ws) xs) → left_of ws x ≡ Some w → what_of ws x ≡ w →
    map (left_of ws) (xs ++ x ∷ []) ≡ map Some (map (what_of ws) (xs ++ x ∷ []))
left_more ws xs x w known left what =
    map-append (left_of ws) xs (x ∷ [])
    ∙ ap₂ (λ (a : List (Option Write)) (o : Option Write). a ++ o ∷ []) known (left ∙ ap Some (sym what))
    ∙ sym (map-append Some (map (what_of ws) xs) (what_of ws x ∷ []))
    ∙ sym (ap (map Some) (map-append (what_of ws) xs (x ∷ [])))

-- ---- one more write of any kind
first_there : (ws : List Write) (w : Write) (n : ℕ) → n < length ws → get_or (ws ++ w ∷ []) n [] ≡ get_or ws n []
first_there [] w n h = absurd (omega arith)
first_there (x ∷ xs) w zero h = refl
first_there (x ∷ xs) w (suc n) h = first_there xs w n (omega arith)

pub last_there : (ws : List Write) (w : Write) (n : ℕ) → n ≡ length ws → get_or (ws ++ w ∷ []) n [] ≡ w
last_there [] w zero h = refl
last_there [] w (suc n) h = absurd (omega arith)
last_there (x ∷ xs) w zero h = absurd (omega arith)
last_there (x ∷ xs) w (suc n) h = last_there xs w n (omega arith)

is_in_grown : (signals : List Signal) (ws : List Write) (w : Write) (x : Update) → IsIn signals ws x → IsIn signals (ws ++ w ∷ []) x
is_in_grown signals ws w (u.Bits b) known = known
is_in_grown signals ws w (u.Any n) known = let long = length-append ws (w ∷ []) in omega (arith, long)
is_in_grown signals ws w u.Gone known = tt

pub in_grown : (signals : List Signal) (ws : List Write) (w : Write) (xs : List Update) → AreIn signals ws xs → AreIn signals (ws ++ w ∷ []) xs
in_grown signals ws w [] known = tt
in_grown signals ws w (x ∷ xs) known = (is_in_grown signals ws w x known.0, in_grown signals ws w xs known.1)

what_grown : (signals : List Signal) (ws : List Write) (w : Write) (x : Update) → IsIn signals ws x → what_of (ws ++ w ∷ []) x ≡ what_of ws x
what_grown signals ws w (u.Bits b) known = refl
what_grown signals ws w (u.Any n) known = first_there ws w n known
what_grown signals ws w u.Gone known = refl

left_grown : (signals : List Signal) (ws : List Write) (w : Write) (x : Update) → IsIn signals ws x → left_of (ws ++ w ∷ []) x ≡ left_of ws x
left_grown signals ws w (u.Bits b) known = refl
left_grown signals ws w (u.Any n) known = ap Some (first_there ws w n known)
left_grown signals ws w u.Gone known = refl

pub whats_grown : (signals : List Signal) (ws : List Write) (w : Write) (xs : List Update) → AreIn signals ws xs → map (what_of (ws ++ w ∷ [])) xs ≡ map (what_of ws) xs
whats_grown signals ws w [] known = refl
whats_grown signals ws w (x ∷ xs) known = ap₂ (λ (a : Write) (l : List Write). a ∷ l) (what_grown signals ws w x known.0) (whats_grown signals ws w xs known.1)

lefts_grown : (signals : List Signal) (ws : List Write) (w : Write) (xs : List Update) → AreIn signals ws xs → map (left_of (ws ++ w ∷ [])) xs ≡ map (left_of ws) xs
lefts_grown signals ws w [] known = refl
lefts_grown signals ws w (x ∷ xs) known = ap₂ (λ (a : Option Write) (l : List (Option Write)). a ∷ l) (left_grown signals ws w x known.0) (lefts_grown signals ws w xs known.1)

pub none_gone_grown : (signals : List Signal) (ws : List Write) (w : Write) (xs : List Update) → AreIn signals ws xs → map (left_of ws) xs ≡ map Some (map (what_of ws) xs) →
    map (left_of (ws ++ w ∷ [])) xs ≡ map Some (map (what_of (ws ++ w ∷ [])) xs)
none_gone_grown signals ws w xs known h = lefts_grown signals ws w xs known ∙ h ∙ sym (ap (map Some) (whats_grown signals ws w xs known))

-- ---- the lists of a call
pub listed_bits : (signals : List Signal) (active : List Update) (made left : ℕ) (ws : List Write) (due : List Update) (dws : List Write) (x : Update) (w : Write) →
    AreSlotUpdates signals active made left ws due dws → IsIn signals dws x → left_of dws x ≡ Some w → what_of dws x ≡ w → AreSlotUpdates signals active made left ws (due ++ x ∷ []) dws
listed_bits signals active made left ws due dws x w h new left_is what_is = record {
  active_in = h.active_in;
  counted = h.counted;
  due_in = in_more signals dws due x h.due_in new;
  none_gone = left_more dws due x w h.none_gone left_is what_is;
}

pub listed_grown : (signals : List Signal) (active : List Update) (made left : ℕ) (ws : List Write) (due : List Update) (dws : List Write) (w : Write) →
    AreSlotUpdates signals active made left ws due dws → AreSlotUpdates signals active made left ws due (dws ++ w ∷ [])
listed_grown signals active made left ws due dws w h = record {
  active_in = h.active_in;
  counted = h.counted;
  due_in = in_grown signals dws w due h.due_in;
  none_gone = none_gone_grown signals dws w due h.due_in h.none_gone;
}

pub listed_any : (signals : List Signal) (active : List Update) (made left : ℕ) (ws : List Write) (due : List Update) (dws : List Write) (w : Write) (n : ℕ) → n ≡ length dws →
    AreSlotUpdates signals active made left ws due dws → AreSlotUpdates signals active made left ws (due ++ u.Any n ∷ []) (dws ++ w ∷ [])
listed_any signals active made left ws due dws w n is h =
    let last = last_there dws w n is in
    let long = length-append dws (w ∷ []) in
    listed_bits signals active made left ws due (dws ++ w ∷ []) (u.Any n) w (listed_grown signals active made left ws due dws w h) (omega (arith, long, is)) (ap Some last) last

pub whats_any : (signals : List Signal) (due : List Update) (dws : List Write) (w : Write) (n : ℕ) → n ≡ length dws → AreIn signals dws due →
    map (what_of (dws ++ w ∷ [])) (due ++ u.Any n ∷ []) ≡ map (what_of dws) due ++ w ∷ []
whats_any signals due dws w n is known =
    map-append (what_of (dws ++ w ∷ [])) due (u.Any n ∷ [])
    ∙ ap₂ (λ (l : List Write) (x : Write). l ++ x ∷ []) (whats_grown signals dws w due known) (last_there dws w n is)

-- ---- the oldest one
pub drop_there : {A : Type 0} (xs : List A) (k : ℕ) (x : A) → slice_get xs k ≡ Some x → drop k xs ≡ x ∷ drop (suc k) xs
drop_there [] k x h = absurd (none-some x h)
drop_there (y ∷ ys) zero x h = ap (λ (z : _). z ∷ ys) (same_Some y x h)
drop_there (y ∷ ys) (suc k) x h = drop_there ys k x h

pub drop_past : {A : Type 0} (xs : List A) (k : ℕ) → slice_get xs k ≡ None → drop k xs ≡ []
drop_past [] zero h = refl
drop_past [] (suc k) h = refl
drop_past (y ∷ ys) zero h = cc
drop_past (y ∷ ys) (suc k) h = drop_past ys k h

pub in_at : (signals : List Signal) (ws : List Write) (xs : List Update) (k : ℕ) (x : Update) → AreIn signals ws xs → slice_get xs k ≡ Some x → IsIn signals ws x
in_at signals ws [] k x known h = absurd (none-some x h)
in_at signals ws (y ∷ ys) zero x known h = subst (IsIn signals ws) (same_Some y x h) known.0
in_at signals ws (y ∷ ys) (suc k) x known h = in_at signals ws ys k x known.1 h

-- how many are left after the oldest one
pub counted_next : (ws : List Write) (xs : List Update) (x : Update) (left : ℕ) (w : Write) → left ≡ length (somes (map (left_of ws) (x ∷ xs))) → left_of ws x ≡ Some w →
    (0 < left) × (left - 1 ≡ length (somes (map (left_of ws) xs)))
counted_next ws xs x left w counted is =
    let more : length (somes (map (left_of ws) (x ∷ xs))) ≡ suc (length (somes (map (left_of ws) xs))) = ap (λ (o : Option Write). length (somes (o ∷ map (left_of ws) xs))) is in
    (omega (arith, counted, more), omega (arith, counted, more))

pub counted_gone : (ws : List Write) (xs : List Update) (x : Update) (left : ℕ) → left ≡ length (somes (map (left_of ws) (x ∷ xs))) → left_of ws x ≡ None →
    left ≡ length (somes (map (left_of ws) xs))
counted_gone ws xs x left counted is = counted ∙ ap (λ (o : Option Write). length (somes (o ∷ map (left_of ws) xs))) is

-- ---- one by its number
pub slice_get-drop : {A : Type 0} (xs : List A) (k n : ℕ) → slice_get (drop k xs) n ≡ slice_get xs (k + n)
slice_get-drop xs zero n = let whole : n ≡ 0 + n = omega arith in ap (slice_get xs) whole
slice_get-drop [] (suc k) zero = refl
slice_get-drop [] (suc k) (suc n) = refl
slice_get-drop (x ∷ xs) (suc k) n = let next : suc (k + n) ≡ suc k + n = omega arith in slice_get-drop xs k n ∙ ap (slice_get (x ∷ xs)) next

pub slice_set-drop : {A : Type 0} (xs : List A) (k n : ℕ) (x : A) → drop k (slice_set xs (k + n) x) ≡ slice_set (drop k xs) n x
slice_set-drop xs zero n x = let whole : 0 + n ≡ n = omega arith in ap (λ i. slice_set xs i x) whole
slice_set-drop [] (suc k) zero x = refl
slice_set-drop [] (suc k) (suc n) x = refl
slice_set-drop (y ∷ ys) (suc k) n x = let next : suc k + n ≡ suc (k + n) = omega arith in ap (λ i. drop (suc k) (slice_set (y ∷ ys) i x)) next ∙ slice_set-drop ys k n x

pub slice_set-map : {A B : Type 0} (f : A → B) (xs : List A) (n : ℕ) (x : A) → map f (slice_set xs n x) ≡ slice_set (map f xs) n (f x)
slice_set-map f [] zero x = refl
slice_set-map f [] (suc n) x = refl
slice_set-map f (y ∷ ys) zero x = refl
slice_set-map f (y ∷ ys) (suc n) x = ap (λ l. f y ∷ l) (slice_set-map f ys n x)

pub slice_map_none : {A B : Type 0} (f : A → B) (xs : List A) (n : ℕ) → slice_get xs n ≡ None → slice_get (map f xs) n ≡ None
slice_map_none f [] zero h = refl
slice_map_none f [] (suc n) h = refl
slice_map_none f (y ∷ ys) zero h = cc
slice_map_none f (y ∷ ys) (suc n) h = slice_map_none f ys n h

pub in_set : (signals : List Signal) (ws : List Write) (xs : List Update) (k : ℕ) → AreIn signals ws xs → AreIn signals ws (slice_set xs k u.Gone)
in_set signals ws [] zero known = tt
in_set signals ws [] (suc k) known = tt
in_set signals ws (y ∷ ys) zero known = (tt, known.1)
in_set signals ws (y ∷ ys) (suc k) known = (known.0, in_set signals ws ys k known.1)

-- the number of one among those that are left
pub somes_without : {A : Type 0} (xs : List (Option A)) (n : ℕ) (w : A) → slice_get xs n ≡ Some (Some w) → somes (slice_set xs n None) ≡ remove (somes xs) (length (somes (take n xs)))
somes_without [] n w h = absurd (none-some (Some w) h)
somes_without (None ∷ xs) zero w h = cc
somes_without (Some x ∷ xs) zero w h = refl
somes_without (None ∷ xs) (suc n) w h = somes_without xs n w h
somes_without (Some x ∷ xs) (suc n) w h = ap (λ l. x ∷ l) (somes_without xs n w h)

pub somes_there : {A : Type 0} (xs : List (Option A)) (n : ℕ) (w : A) → slice_get xs n ≡ Some (Some w) → slice_get (somes xs) (length (somes (take n xs))) ≡ Some w
somes_there [] n w h = absurd (none-some (Some w) h)
somes_there (None ∷ xs) zero w h = cc
somes_there (Some x ∷ xs) zero w h = same_Some (Some x) (Some w) h
somes_there (None ∷ xs) (suc n) w h = somes_there xs n w h
somes_there (Some x ∷ xs) (suc n) w h = somes_there xs n w h

somes_less : {A : Type 0} (xs : List (Option A)) (n : ℕ) (w : A) → slice_get xs n ≡ Some (Some w) → length (somes xs) ≡ suc (length (somes (slice_set xs n None)))
somes_less [] n w h = absurd (none-some (Some w) h)
somes_less (None ∷ xs) zero w h = cc
somes_less (Some x ∷ xs) zero w h = refl
somes_less (None ∷ xs) (suc n) w h = somes_less xs n w h
somes_less (Some x ∷ xs) (suc n) w h = ap suc (somes_less xs n w h)

-- the older ones that are left
pub somes_before : {A : Type 0} (xs : List (Option A)) (n : ℕ) → somes (take n xs) ≡ take (length (somes (take n xs))) (somes xs)
somes_before [] zero = refl
somes_before [] (suc n) = refl
somes_before (x ∷ xs) zero = refl
somes_before (None ∷ xs) (suc n) = somes_before xs n
somes_before (Some x ∷ xs) (suc n) = ap (λ l. x ∷ l) (somes_before xs n)

-- the lists after one was taken out by its number
module _ (signals : List Signal) (active : List Update) (made left : ℕ) (ws : List Write) (due : List Update) (dws : List Write) (h : AreSlotUpdates signals active made left ws due dws)
    (n at : ℕ) (at_is : at ≡ made + n) (x : Update) (there : slice_get active at ≡ Some x) where
  abbrev lefts : List (Option Write)
  lefts = map (left_of ws) (drop made active)

  pub left_there : slice_get lefts n ≡ Some (left_of ws x)
  left_there = map_at (left_of ws) (drop made active) n x (slice_get-drop active made n ∙ ap (slice_get active) (sym at_is) ∙ there)

  pub lefts_without : map (left_of ws) (drop made (slice_set active at u.Gone)) ≡ slice_set lefts n None
  lefts_without =
      ap (λ k. map (left_of ws) (drop made (slice_set active k u.Gone))) at_is
      ∙ ap (map (left_of ws)) (slice_set-drop active made n u.Gone)
      ∙ slice_set-map (left_of ws) (drop made active) n u.Gone

  module _ (w : Write) (is : left_of ws x ≡ Some w) where
    less : (0 < left) × (left - 1 ≡ length (somes (slice_set lefts n None)))
    less =
        let one = somes_less lefts n w (left_there ∙ ap Some is) in
        let all = h.counted in
        (omega (arith, one, all), omega (arith, one, all))

    pub some_left : 0 < left
    some_left = less.0

    pub listed_taken : AreSlotUpdates signals (slice_set active at u.Gone) made (left - 1) ws due dws
    listed_taken = record {
      active_in = in_set signals ws active at h.active_in;
      counted = less.1 ∙ ap (λ l. length (somes l)) (sym lefts_without);
      due_in = h.due_in;
      none_gone = h.none_gone;
    }

-- ---- activation
pub somes_all : {A : Type 0} (xs : List A) → somes (map Some xs) ≡ xs
somes_all [] = refl
somes_all (x ∷ xs) = ap (λ l. x ∷ l) (somes_all xs)

pub listed_activated : (signals : List Signal) (active : List Update) (made left : ℕ) (ws : List Write) (due : List Update) (dws : List Write) →
    AreSlotUpdates signals active made left ws due dws → AreSlotUpdates signals due 0 (length due) dws [] []
listed_activated signals active made left ws due dws h = record {
  active_in = h.due_in;
  counted =
      sym (ap (λ l. length (somes l)) h.none_gone
      ∙ ap length (somes_all (map (what_of dws) due))
      ∙ length-map due (what_of dws));
  due_in = tt;
  none_gone = refl;
}

-- ---- the first of its signals
pub shared_by : (ws : List Write) (o : Update) (w : Write) → shares (what_of ws o) w ≡ is_shared w (left_of ws o)
shared_by ws (u.Bits b) w = refl
shared_by ws (u.Any n) w = refl
shared_by ws u.Gone w = refl

pub is_left : (ws : List Write) (x : Update) → (x ≡ u.Gone → ⊥) → left_of ws x ≡ Some (what_of ws x)
is_left ws (u.Bits b) h = refl
is_left ws (u.Any n) h = refl
is_left ws u.Gone h = absurd (h refl)

-- one older update more
pub shares_more : (ws : List Write) (w : Write) (xs : List Update) (i : ℕ) (d : Update) (b : Bool) → i < length xs → shares (what_of ws (get_or xs i d)) w ≡ b →
    list_any (is_shared w) (map (left_of ws) (drop i xs)) ≡ (b || list_any (is_shared w) (map (left_of ws) (drop (i + 1) xs)))
shares_more ws w xs i d b lt is =
    ap (λ (l : List Update). list_any (is_shared w) (map (left_of ws) l)) (drop_more xs i d lt)
    ∙ ap (λ (t : Bool). t || list_any (is_shared w) (map (left_of ws) (drop (i + 1) xs))) (sym (shared_by ws (get_or xs i d) w) ∙ is)

map-take : {A B : Type 0} (f : A → B) (xs : List A) (n : ℕ) → map f (take n xs) ≡ take n (map f xs)
map-take f [] zero = refl
map-take f [] (suc n) = refl
map-take f (x ∷ xs) zero = refl
map-take f (x ∷ xs) (suc n) = ap (λ l. f x ∷ l) (map-take f xs n)

-- whether the one at a place is the first of its signals
module _ (ws : List Write) (active : List Update) (made n at : ℕ) (at_is : at ≡ made + n) where
  abbrev left_ones : List (Option Write)
  left_ones = map (left_of ws) (drop made active)

  first_by : (o : Option (Option Write)) → slice_get left_ones n ≡ o → is_first_left left_ones n ≡ is_shown (take n left_ones) o
  first_by o h = ap (is_shown (take n left_ones)) h

  there : (x : Update) → slice_get active at ≡ Some x → slice_get left_ones n ≡ Some (left_of ws x)
  there x h = map_at (left_of ws) (drop made active) n x (slice_get-drop active made n ∙ ap (slice_get active) (sym at_is) ∙ h)

  pub shown_first : (x : Update) → slice_get active at ≡ Some x → (x ≡ u.Gone → ⊥) → (b : Bool) →
      b ≡ list_any (is_shared (what_of ws x)) (map (left_of ws) (take (at - made) (drop made active))) → not b ≡ is_first_left left_ones n
  shown_first x h some b is =
      let many : at - made ≡ n = omega (arith, at_is) in
      ap not (is ∙ ap (λ (k : ℕ). list_any (is_shared (what_of ws x)) (map (left_of ws) (take k (drop made active)))) many
      ∙ ap (list_any (is_shared (what_of ws x))) (map-take (left_of ws) (drop made active) n))
      ∙ sym (first_by (Some (Some (what_of ws x))) (there x h ∙ ap Some (is_left ws x some)))

pub any_somes : (w : Write) (xs : List (Option Write)) → list_any (is_shared w) xs ≡ list_any (λ (older : Write). shares older w) (somes xs)
any_somes w [] = refl
any_somes w (None ∷ xs) = any_somes w xs
any_somes w (Some x ∷ xs) = ap (λ b. shares x w || b) (any_somes w xs)

-- ---- what a look finds
pub found : {A : Type 0} (xs ys : List A) (i : ℕ) (x : A) → ys ≡ xs → true ≡ ltb i (length ys) → x ≡ get_or ys i x → slice_get xs i ≡ Some x
found xs ys i x same within is = ap (λ l. slice_get l i) (sym same) ∙ slice_get-get_or ys i x (ltb-true i (length ys) (sym within)) ∙ ap Some (sym is)

pub drop_next : {A : Type 0} (xs : List A) (k : ℕ) (x : A) → slice_get xs k ≡ Some x → drop k xs ≡ x ∷ drop (k + 1) xs
drop_next xs k x h = let one : suc k ≡ k + 1 = omega arith in drop_there xs k x h ∙ ap (λ n. x ∷ drop n xs) one

-- the lists after the oldest one is made
module _ (signals : List Signal) (active : List Update) (made left : ℕ) (ws : List Write) (due : List Update) (dws : List Write) (h : AreSlotUpdates signals active made left ws due dws)
    (x : Update) (there : slice_get active made ≡ Some x) where
  next_counted : left ≡ length (somes (map (left_of ws) (x ∷ drop (made + 1) active)))
  next_counted = h.counted ∙ ap (λ (l : List Update). length (somes (map (left_of ws) l))) (drop_next active made x there)

  pub next_left : (x ≡ u.Gone → ⊥) → 0 < left
  next_left some = (counted_next ws (drop (made + 1) active) x left (what_of ws x) next_counted (is_left ws x some)).0

  pub listed_next : (x ≡ u.Gone → ⊥) → AreSlotUpdates signals active (made + 1) (left - 1) ws due dws
  listed_next some = record {
    active_in = h.active_in;
    counted = (counted_next ws (drop (made + 1) active) x left (what_of ws x) next_counted (is_left ws x some)).1;
    due_in = h.due_in;
    none_gone = h.none_gone;
  }

  pub listed_gone : x ≡ u.Gone → AreSlotUpdates signals active (made + 1) left ws due dws
  listed_gone gone = record {
    active_in = h.active_in;
    counted = counted_gone ws (drop (made + 1) active) x left next_counted (ap (left_of ws) gone);
    due_in = h.due_in;
    none_gone = h.none_gone;
  }

pub listed_swapped : (signals : List Signal) (active : List Update) (made left : ℕ) (ws : List Write) (due : List Update) (dws : List Write) →
    AreSlotUpdates signals active made left ws due dws → (active' : List Update) (left' : ℕ) (ws' : List Write) (due' : List Update) (dws' : List Write) → active' ≡ due →
    left' ≡ length due → ws' ≡ dws → due' ≡ [] → dws' ≡ [] → AreSlotUpdates signals active' 0 left' ws' due' dws'
listed_swapped signals active made left ws due dws h active' left' ws' due' dws' a l w d e =
    subst (λ x. AreSlotUpdates signals x 0 left' ws' due' dws') (sym a)
    (subst (λ x. AreSlotUpdates signals due 0 x ws' due' dws') (sym l)
    (subst (λ x. AreSlotUpdates signals due 0 (length due) x due' dws') (sym w)
    (subst (λ x. AreSlotUpdates signals due 0 (length due) dws x dws') (sym d)
    (subst (λ x. AreSlotUpdates signals due 0 (length due) dws [] x) (sym e) (listed_activated signals active made left ws due dws h)))))

-- what holds anyway holds where there is an error
pub on_err : {A E : Type 0} {P : Type 0} (r : Result A E) → P → OnErr r P
on_err (Ok x) p = tt
on_err (Err e) p = p

pub on_none : {A P : Type 0} (r : Option A) → P → IfNone r P
on_none None p = p
on_none (Some x) p = tt

-- ---- the first that is left
shown_skip : (older : List (Option Write)) (o : Option (Option Write)) → is_shown (None ∷ older) o ≡ is_shown older o
shown_skip older None = refl
shown_skip older (Some None) = refl
shown_skip older (Some (Some w)) = refl

-- where none is the first of its signals none is left
pub none_first : (xs : List (Option Write)) → ((n : ℕ) → n < length xs → is_first_left xs n ≡ false) → somes xs ≡ []
none_first [] h = refl
none_first (None ∷ xs) h = none_first xs (λ n below. sym (shown_skip (take n xs) (slice_get xs n)) ∙ h (suc n) (omega (arith, below)))
none_first (Some w ∷ xs) h = absurd (true≢false (h 0 (omega arith)))

pub left_short : (ws : List Write) (xs : List Update) (made : ℕ) → length (map (left_of ws) (drop made xs)) ≤ length xs
left_short ws [] zero = omega arith
left_short ws [] (suc n) = omega arith
left_short ws (x ∷ xs) zero = let same : length (map (left_of ws) xs) ≡ length xs = length-map xs (left_of ws) in omega (arith, same)
left_short ws (x ∷ xs) (suc n) = let rest : length (map (left_of ws) (drop n xs)) ≤ length xs = left_short ws xs n in omega (arith, rest)

-- one more number that is none of a first one
pub firsts_more : (xs : List (Option Write)) (k : ℕ) → ((n : ℕ) → n < k → is_first_left xs n ≡ false) → is_first_left xs k ≡ false → (n : ℕ) → n < k + 1 → is_first_left xs n ≡ false
firsts_more xs k h here n below = by (ltb n k) refl
  where
    by : (b : Bool) → ltb n k ≡ b → is_first_left xs n ≡ false
    by true is = h n (ltb-true n k is)
    by false is = let same : n ≡ k = omega (arith, below, ltb-false n k is) in subst (λ (i : ℕ). is_first_left xs i ≡ false) (sym same) here
