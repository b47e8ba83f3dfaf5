-- What the writer keeps, and the changes that it makes of it.
use Rattle.std.proofs.Common.{◌≡◌, ℕ, zero, suc, ◌+◌, ◌*◌, ◌<◌, ◌≤◌, ◌⊎◌, min, Bool, true, false, Option, Some, None, List, [], ◌∷◌, ◌++◌, length, take, drop, get_or, refl, sym, ap, subst, ◌∙◌, append_assoc, append-nil, length-append, add-one, arith, inl, inr}
use Rattle.std.proofs.lemmas.Bool.{cases_lt, cond-true, cond-false}
use Rattle.std.proofs.lemmas.List.{take_all, drop_more}
use Rattle.std.proofs.lemmas.Option.{none-some, same_Some}
use Rattle.std.proofs.lemmas.List.Elements.{All-nil, All-cons, All-append}
use Rattle.std.specs.Prelude.{slice_get, if◌then◌else◌}
use Rattle.std.specs.List.{All}
use Rattle.vs_design.specs.vs_logic4.specs.declared.digit.Digit.{Digit}
use Rattle.vs_design.specs.vs_logic4.specs.Vectors.{same_digits}
use Rattle.vs_design.specs.vs_logic4.specs.Sameness.{same_digits-true}
use Rattle.vs_design.specs.Stores.{Store}
use Rattle.vs_vcd_writing.specs.declared.kept.Kept.{Kept}
use Rattle.vs_vcd_writing.specs.declared.kept.DumpChange.{DumpChange}
use Rattle.vs_vcd_writing.specs.declared.marks.BlockRange.{BlockRange}
use Rattle.vs_vcd_writing.specs.Values.{shown_value}
use Rattle.vs_vcd_writing.specs.Marks.{is_marked, IsBlock, IsNextMark}
use Rattle.vs_vcd_writing.specs.Kept.{codes_of, with_value, kept_after, kept_changes, change_to, first_by, first_change, later_by, later_change, AreLater, is_chosen, chosen_change, next_changes, time_kept}
use Rattle.vs_vcd_writing.specs.Progress.{Progress, Follows}
use Rattle.vs_vcd_writing.proofs.MarkLemmas.{marked_in, unmarked_before, unmarked_all}

abbrev By : Type 0
By = ℕ → Kept → List DumpChange

-- ---- changes one after another

-- the changes of one signal more
kept_more : (by : By) (first n i : ℕ) (xs : List Kept) (x : Kept) → n ≡ first + i → slice_get xs i ≡ Some x
    → kept_changes by first (take (suc i) xs) ≡ kept_changes by first (take i xs) ++ by n x
kept_more by first n i [] x e get = absurd (none-some x get)
kept_more by first n zero (y ∷ ys) x e get =
    let same : first ≡ n = omega (arith, e) in
    append-nil (by first y) ∙ ap (λ k. by k y) same ∙ ap (by n) (same_Some y x get)
kept_more by first n (suc i) (y ∷ ys) x e get =
    ap (λ l. by first y ++ l) (kept_more by (suc first) n i ys x (omega (arith, e)) get)
    ∙ sym (append_assoc (by first y) (kept_changes by (suc first) (take i ys)) (by n x))

-- the changes of one signal more are listed
pub signals_more : (old mid new : List DumpChange) (by : By) (xs : List Kept) (i : ℕ) (x : Kept) → slice_get xs i ≡ Some x
    → mid ≡ old ++ kept_changes by 0 (take i xs) → new ≡ mid ++ by i x → new ≡ old ++ kept_changes by 0 (take (i + 1) xs)
signals_more old mid new by xs i x get first second =
    second ∙ ap (λ l. l ++ by i x) first ∙ append_assoc old (kept_changes by 0 (take i xs)) (by i x)
    ∙ ap (λ l. old ++ l) (sym (kept_more by 0 i i xs x (omega arith) get) ∙ ap (λ k. kept_changes by 0 (take k xs)) (sym (add-one i)))

-- signals without changes add nothing
skipped : (by : By) (k a b : ℕ) (xs : List Kept) → a ≤ b → ((i : ℕ) (e : Kept) → k + a ≤ i → i < k + b → by i e ≡ [])
    → kept_changes by k (take b xs) ≡ kept_changes by k (take a xs)
skipped by k zero zero xs order none = refl
skipped by k zero (suc b) [] order none = refl
skipped by k zero (suc b) (x ∷ xs) order none =
    ap (λ l. l ++ kept_changes by (suc k) (take b xs)) (none k x (omega arith) (omega arith))
    ∙ skipped by (suc k) zero b xs (omega arith) (λ i e ge lt. none i e (omega (arith, ge)) (omega (arith, lt)))
skipped by k (suc a) zero xs order none = absurd (omega (arith, order))
skipped by k (suc a) (suc b) [] order none = refl
skipped by k (suc a) (suc b) (x ∷ xs) order none =
    ap (λ l. by k x ++ l) (skipped by (suc k) a b xs (omega (arith, order)) (λ i e ge lt. none i e (omega (arith, ge)) (omega (arith, lt))))

-- all changes are listed where the signals behind have none
whole_listed : (old new : List DumpChange) (by : By) (a : ℕ) (xs : List Kept) → ((i : ℕ) (e : Kept) → a ≤ i → i < length xs → by i e ≡ [])
    → new ≡ old ++ kept_changes by 0 (take a xs) → new ≡ old ++ kept_changes by 0 xs
whole_listed old new by a xs none so_far =
    elim (cases_lt a (length xs)) [
      | inl lt ↦
          so_far ∙ ap (λ l. old ++ l)
          (sym (skipped by 0 a (length xs) xs (omega (arith, lt)) (λ i e ge below. none i e (omega (arith, ge)) (omega (arith, below)))) ∙ ap (kept_changes by 0) (take_all (length xs) xs (omega arith)))
      | inr ge ↦ so_far ∙ ap (λ l. old ++ kept_changes by 0 l) (take_all a xs ge)
    ]

-- ---- marked blocks

-- a signal that isn't marked has no change
unmarked_change : (marks : List ℕ) (store : Store) (i : ℕ) (e : Kept) → is_marked marks i ≡ false → chosen_change false marks store i e ≡ []
unmarked_change marks store i e h = cond-false (is_marked marks i) (later_change store i e) [] h

-- the changes of a marked block are those of its signals
pub block_later : (marks : List ℕ) (store : Store) (from block count : ℕ) (r : BlockRange) → IsNextMark marks from (Some block) → IsBlock block count (Some r)
    → AreLater (chosen_change false marks store) store r.from r.to
block_later marks store from block count r next is i e ge lt =
    cond-true (is_marked marks i) (later_change store i e) [] (marked_in marks block i next.1 (omega (arith, ge, is.0)) (omega (arith, lt, is.2)))

-- up to a marked block nothing is added
pub block_before : (marks : List ℕ) (store : Store) (from block count : ℕ) (r : BlockRange) (old new : List DumpChange) (xs : List Kept) → IsNextMark marks from (Some block) → IsBlock block count (Some r)
    → new ≡ old ++ kept_changes (chosen_change false marks store) 0 (take (8 * from) xs) → new ≡ old ++ kept_changes (chosen_change false marks store) 0 (take r.from xs)
block_before marks store from block count r old new xs next is so_far =
    so_far ∙ ap (λ l. old ++ l)
    (sym (skipped (chosen_change false marks store) 0 (8 * from) (8 * block) xs (omega (arith, next.0)) (λ i e ge lt. unmarked_change marks store i e (unmarked_before marks from block i next (omega (arith, ge)) (omega (arith, lt)))))
    ∙ ap (λ n. kept_changes (chosen_change false marks store) 0 (take n xs)) (sym is.0))

take_min : (n : ℕ) (xs : List Kept) → take (min n (length xs)) xs ≡ take n xs
take_min n xs =
    elim (cases_lt n (length xs)) [
      | inl lt ↦ let same : min n (length xs) ≡ n = omega (arith, lt) in ap (λ k. take k xs) same
      | inr ge ↦ let same : min n (length xs) ≡ length xs = omega (arith, ge) in ap (λ k. take k xs) same ∙ take_all (length xs) xs (omega arith) ∙ sym (take_all n xs ge)
    ]

-- with a block the signals before the next one are listed
pub block_listed : (by : By) (block : ℕ) (r : BlockRange) (old new : List DumpChange) (xs : List Kept) → IsBlock block (length xs) (Some r)
    → new ≡ old ++ kept_changes by 0 (take r.to xs) → new ≡ old ++ kept_changes by 0 (take (8 * (block + 1)) xs)
block_listed by block r old new xs is so_far =
    let at : 8 * block + 8 ≡ 8 * (block + 1) = omega arith in
    so_far ∙ ap (λ n. old ++ kept_changes by 0 (take n xs)) is.2 ∙ ap (λ l. old ++ kept_changes by 0 l) (take_min (8 * block + 8) xs ∙ ap (λ n. take n xs) at)

-- no mark is left
pub none_marked : (marks : List ℕ) (store : Store) (from : ℕ) (old new : List DumpChange) (xs : List Kept) → IsNextMark marks from None
    → new ≡ old ++ kept_changes (chosen_change false marks store) 0 (take (8 * from) xs) → new ≡ old ++ kept_changes (chosen_change false marks store) 0 xs
none_marked marks store from old new xs next so_far =
    whole_listed old new (chosen_change false marks store) (8 * from) xs (λ i e ge lt. unmarked_change marks store i e (unmarked_all marks from i next ge)) so_far

-- the next marked block is past the signals
pub none_within : (marks : List ℕ) (store : Store) (from block : ℕ) (old new : List DumpChange) (xs : List Kept) → IsNextMark marks from (Some block) → IsBlock block (length xs) None
    → new ≡ old ++ kept_changes (chosen_change false marks store) 0 (take (8 * from) xs) → new ≡ old ++ kept_changes (chosen_change false marks store) 0 xs
none_within marks store from block old new xs next past so_far =
    whole_listed old new (chosen_change false marks store) (8 * from) xs (λ i e ge lt. unmarked_change marks store i e (unmarked_before marks from block i next ge (omega (arith, past, lt)))) so_far

-- ---- what is kept

codes_of-with_value : (xs : List Kept) (i : ℕ) (value : List Digit) → codes_of (with_value xs i value) ≡ codes_of xs
codes_of-with_value [] i value = refl
codes_of-with_value (x ∷ xs) zero value = refl
codes_of-with_value (x ∷ xs) (suc i) value = ap (λ l. x.code ∷ l) (codes_of-with_value xs i value)

length-with_value : (xs : List Kept) (i : ℕ) (value : List Digit) → length (with_value xs i value) ≡ length xs
length-with_value [] i value = refl
length-with_value (x ∷ xs) zero value = refl
length-with_value (x ∷ xs) (suc i) value = ap suc (length-with_value xs i value)

-- changes leave the number of signals
pub length-behind : (xs : List Kept) (cs : List DumpChange) → length (kept_after xs cs) ≡ length xs
length-behind xs [] = refl
length-behind xs (c ∷ cs) = length-behind (with_value xs c.signal c.value) cs ∙ length-with_value xs c.signal c.value

-- changes leave the codes
codes_of-behind : (xs : List Kept) (cs : List DumpChange) → codes_of (kept_after xs cs) ≡ codes_of xs
codes_of-behind xs [] = refl
codes_of-behind xs (c ∷ cs) = codes_of-behind (with_value xs c.signal c.value) cs ∙ codes_of-with_value xs c.signal c.value

-- one change more is kept
pub keep_more : (first xs : List Kept) (cs : List DumpChange) (i : ℕ) (c d : DumpChange) → i < length cs → c ≡ get_or cs i d
    → kept_after xs (drop i cs) ≡ kept_after first cs → kept_after (with_value xs c.signal c.value) (drop (i + 1) cs) ≡ kept_after first cs
keep_more first xs cs i c d lt at so_far =
    ap (λ (x : DumpChange). kept_after (with_value xs x.signal x.value) (drop (i + 1) cs)) at
    ∙ sym (ap (kept_after xs) (drop_more cs i d lt)) ∙ so_far

-- ---- what is kept behind the changes of a slot

-- changes of the signal of a number: one or none
abbrev AreOwn : ℕ → List DumpChange → Type 0
AreOwn n [] = Unit {0}
AreOwn n (c ∷ []) = c.signal ≡ n
AreOwn n (c ∷ d ∷ cs) = ⊥

own_cond : (b : Bool) (n : ℕ) (xs ys : List DumpChange) → AreOwn n xs → AreOwn n ys → AreOwn n (if b then xs else ys)
own_cond true n xs ys p q = p
own_cond false n xs ys p q = q

own_first : (store : Store) (n : ℕ) (code : Option ℕ) → AreOwn n (first_by store n code)
own_first store n None = tt
own_first store n (Some m) = refl

own_later : (store : Store) (n : ℕ) (value : List Digit) (code : Option ℕ) → AreOwn n (later_by store n value code)
own_later store n value None = tt
own_later store n value (Some m) = own_cond (same_digits value (shown_value store n)) n [] (change_to store n m ∷ []) tt refl

own_chosen : (all : Bool) (marks : List ℕ) (store : Store) (n : ℕ) (k : Kept) → AreOwn n (chosen_change all marks store n k)
own_chosen all marks store n k = own_cond (is_chosen all marks n) n (later_change store n k) [] (own_later store n k.value k.code) tt

abbrev OwnEach : By → Type 0
OwnEach by = (n : ℕ) (k : Kept) → AreOwn n (by n k)

-- what is kept of a signal behind its changes
abbrev after : List DumpChange → Kept → Kept
after [] k = k
after (c ∷ cs) k = record k { value = c.value }

abbrev each_behind : By → ℕ → List Kept → List Kept
each_behind by n [] = []
each_behind by n (k ∷ ks) = after (by n k) k ∷ each_behind by (suc n) ks

with_value-append : (front : List Kept) (x : Kept) (xs : List Kept) (n : ℕ) (value : List Digit) → n ≡ length front
    → with_value (front ++ x ∷ xs) n value ≡ front ++ record x { value = value } ∷ xs
with_value-append [] x xs n value e = ap (λ m. with_value (x ∷ xs) m value) e
with_value-append (f ∷ fs) x xs zero value e = absurd (omega (arith, e))
with_value-append (f ∷ fs) x xs (suc n) value e = ap (λ l. f ∷ l) (with_value-append fs x xs n value (omega (arith, e)))

step_each : (cs : List DumpChange) (front : List Kept) (x : Kept) (xs : List Kept) (rest : List DumpChange) (n : ℕ) → n ≡ length front → AreOwn n cs
    → kept_after (front ++ x ∷ xs) (cs ++ rest) ≡ kept_after (front ++ after cs x ∷ xs) rest
step_each [] front x xs rest n e own = refl
step_each (c ∷ []) front x xs rest n e own = ap (λ l. kept_after l rest) (with_value-append front x xs c.signal c.value (own ∙ e))
step_each (c ∷ d ∷ cs) front x xs rest n e own = absurd own

kept_each : (by : By) → OwnEach by → (front xs : List Kept) (n : ℕ) → n ≡ length front → kept_after (front ++ xs) (kept_changes by n xs) ≡ front ++ each_behind by n xs
kept_each by own front [] n e = refl
kept_each by own front (x ∷ xs) n e =
    let y = after (by n x) x in
    let long : suc n ≡ length (front ++ y ∷ []) = omega (arith, e, length-append front (y ∷ [])) in
    step_each (by n x) front x xs (kept_changes by (suc n) xs) n e (own n x)
    ∙ ap (λ l. kept_after l (kept_changes by (suc n) xs)) (sym (append_assoc front (y ∷ []) xs))
    ∙ kept_each by own (front ++ y ∷ []) xs (suc n) long ∙ append_assoc front (y ∷ []) (each_behind by (suc n) xs)

each_got : (by : By) (n i j : ℕ) (xs : List Kept) (k : Kept) → j ≡ n + i → slice_get (each_behind by n xs) i ≡ Some k
    → (x : Kept) × ((slice_get xs i ≡ Some x) × (after (by j x) x ≡ k))
each_got by n i j [] k at h = cc
each_got by n zero j (x ∷ xs) k at h =
    let same : j ≡ n = omega (arith, at) in
    let is : after (by n x) x ≡ k = cc in (x, (refl, ap (λ m. after (by m x) x) same ∙ is))
each_got by n (suc i) j (x ∷ xs) k at h = each_got by (suc n) i j xs k (omega (arith, at)) h

-- of a signal that has a code the first slot keeps the value in the store
value_first : (store : Store) (i n : ℕ) (code : Option ℕ) (x k : Kept) → x.code ≡ code → after (first_by store i code) x ≡ k → k.code ≡ Some n → k.value ≡ shown_value store i
value_first store i n None x k is h has = let same : k.code ≡ x.code = ap (λ (e : Kept). e.code) (sym h) in cc
value_first store i n (Some m) x k is h has = ap (λ (e : Kept). e.value) (sym h)

value_changed : (store : Store) (i m : ℕ) (same : Bool) (x k : Kept) → same_digits x.value (shown_value store i) ≡ same → after (if same then [] else change_to store i m ∷ []) x ≡ k
    → k.value ≡ shown_value store i
value_changed store i m true x k is h = ap (λ (e : Kept). e.value) (sym h) ∙ same_digits-true x.value (shown_value store i) is
value_changed store i m false x k is h = ap (λ (e : Kept). e.value) (sym h)

-- of a signal that has a code and is looked at a later slot keeps it too
value_later : (store : Store) (i n : ℕ) (code : Option ℕ) (x k : Kept) → x.code ≡ code → after (later_by store i x.value code) x ≡ k → k.code ≡ Some n → k.value ≡ shown_value store i
value_later store i n None x k is h has = let same : k.code ≡ x.code = ap (λ (e : Kept). e.code) (sym h) in cc
value_later store i n (Some m) x k is h has = value_changed store i m (same_digits x.value (shown_value store i)) x k refl h

value_chosen : (store : Store) (i n : ℕ) (seen : Bool) (x k : Kept) (o : Option Kept) → o ≡ Some x → after (if seen then later_change store i x else []) x ≡ k → k.code ≡ Some n
    → (k.value ≡ shown_value store i) ⊎ ((seen ≡ false) × (o ≡ Some k))
value_chosen store i n true x k o get h has = inl (value_later store i n x.code x k refl h has)
value_chosen store i n false x k o get h has = inr (refl, get ∙ ap Some h)

-- the values that are kept behind a slot
option_values : (kept : List Kept) (last : Option ℕ) (all : Bool) (marks : List ℕ) (store : Store) (i n : ℕ) (k : Kept)
    → slice_get (kept_after kept (next_changes kept last all marks store)) i ≡ Some k → k.code ≡ Some n
    → (k.value ≡ shown_value store i) ⊎ ((is_chosen all marks i ≡ false) × (slice_get kept i ≡ Some k))
option_values kept None all marks store i n k get has =
    let by = first_change store in
    let is = each_got by 0 i i kept k (omega arith) (sym (ap (λ l. slice_get l i) (kept_each by (λ n k. own_first store n k.code) [] kept 0 refl)) ∙ get) in
    inl (value_first store i n is.0.code is.0 k refl is.1.1 has)
option_values kept (Some t) all marks store i n k get has =
    let by = chosen_change all marks store in
    let is = each_got by 0 i i kept k (omega arith) (sym (ap (λ l. slice_get l i) (kept_each by (own_chosen all marks store) [] kept 0 refl)) ∙ get) in
    value_chosen store i n (is_chosen all marks i) is.0 k (slice_get kept i) is.1.0 is.1.1 has

-- a writer that keeps the changes of a slot follows
pub follows : (old new : Progress) (all : Bool) (marks : List ℕ) (t : ℕ) (store : Store) (cs : List DumpChange) → cs ≡ next_changes old.kept old.last all marks store
    → new.kept ≡ kept_after old.kept cs → new.last ≡ Some (time_kept old.kept old.last all marks t store) → Follows old new all marks t store
follows old new all marks t store cs listed kept time =
    let is = kept ∙ ap (kept_after old.kept) listed in record {
      codes = ap codes_of is ∙ codes_of-behind old.kept (next_changes old.kept old.last all marks store);
      last = time;
      values = λ i n k get has. option_values old.kept old.last all marks store i n k (sym (ap (λ l. slice_get l i) is) ∙ get) has;
    }

-- ---- the signals of changes

below_own : (cs : List DumpChange) (n m : ℕ) → AreOwn n cs → n < m → All (λ (c : DumpChange). c.signal < m) cs
below_own [] n m own h = All-nil (λ (c : DumpChange). c.signal < m)
below_own (c ∷ []) n m own h = All-cons (λ (d : DumpChange). d.signal < m) c [] (omega (arith, own, h)) (All-nil (λ (d : DumpChange). d.signal < m))
below_own (c ∷ d ∷ cs) n m own h = absurd own

below_each : (by : By) → OwnEach by → (n m : ℕ) (xs : List Kept) → n + length xs ≤ m → All (λ (c : DumpChange). c.signal < m) (kept_changes by n xs)
below_each by own n m [] h = All-nil (λ (c : DumpChange). c.signal < m)
below_each by own n m (x ∷ xs) h =
    All-append (λ (c : DumpChange). c.signal < m) (by n x) (kept_changes by (suc n) xs) (below_own (by n x) n m (own n x) (omega (arith, h))) (below_each by own (suc n) m xs (omega (arith, h)))

below_next : (kept : List Kept) (last : Option ℕ) (all : Bool) (marks : List ℕ) (store : Store) → All (λ (c : DumpChange). c.signal < length kept) (next_changes kept last all marks store)
below_next kept None all marks store = below_each (first_change store) (λ n k. own_first store n k.code) 0 (length kept) kept (omega arith)
below_next kept (Some t) all marks store = below_each (chosen_change all marks store) (own_chosen all marks store) 0 (length kept) kept (omega arith)

-- the changes of a slot are of signals that are kept
pub changes_within : (kept : List Kept) (last : Option ℕ) (all : Bool) (marks : List ℕ) (store : Store) (cs : List DumpChange) → cs ≡ next_changes kept last all marks store
    → All (λ (c : DumpChange). c.signal < length kept) cs
changes_within kept last all marks store cs listed = subst (All (λ (c : DumpChange). c.signal < length kept)) (sym listed) (below_next kept last all marks store)
