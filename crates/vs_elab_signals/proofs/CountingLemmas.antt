-- Names that are counted.
use Rattle.std.proofs.Common.{◌≡◌, ℕ, suc, ◌+◌, ◌<◌, ◌≤◌, Bool, true, false, true≢false, ◌||◌, cond, List, [], ◌∷◌, ◌++◌, Some, length, take, get_or, refl, ap, sym, subst, ◌∙◌, append_assoc, arith, Bor}
use Rattle.std.specs.List.{list_any}
use Rattle.std.specs.Str.{bytes_eq}
use Rattle.std.proofs.lemmas.Slice.Eq.{bytes_eq-Decides}
use Rattle.std.proofs.lemmas.List.{append-nil, map-append, length-map, length-take, take_all, get_or_default}
use Rattle.vs_widths.specs.Names.{meaning_of, Binds}
use Rattle.vs_scopes.specs.Ports.{without_name, left_over}
use Rattle.vs_scopes.specs.scopes_passes.Answers.{borrowed}
use Rattle.vs_scopes.proofs.DeclaredLemmas.{bytes_eq-sym}
use Rattle.vs_design.specs.vs_logic4.proofs.Basics.{take_push}
use Rattle.vs_elab_signals.specs.passes.Counting.{occurrences, count_of, Counts, TakesOne, Leaves}

-- ---- counting

push_both : (a t : Bool) (k : ℕ) → cond a (suc (cond t (suc k) k)) (cond t (suc k) k) ≡ cond t (suc (cond a (suc k) k)) (cond a (suc k) k)
push_both true true k = refl
push_both true false k = refl
push_both false true k = refl
push_both false false k = refl

occurrences_push : (ns : List (List ℕ)) (m n : List ℕ) → occurrences (ns ++ m ∷ []) n ≡ cond (bytes_eq n m) (suc (occurrences ns n)) (occurrences ns n)
occurrences_push [] m n = refl
occurrences_push (k ∷ ks) m n = ap (λ z. cond (bytes_eq n k) (suc z) z) (occurrences_push ks m n) ∙ push_both (bytes_eq n k) (bytes_eq n m) (occurrences ks n)

pub occurrences_most : (ns : List (List ℕ)) (n : List ℕ) → occurrences ns n ≤ length ns
occurrences_most [] n = omega arith
occurrences_most (k ∷ ks) n = by (bytes_eq n k) (occurrences_most ks n)
  where
    by : (t : Bool) → occurrences ks n ≤ length ks → cond t (suc (occurrences ks n)) (occurrences ks n) ≤ suc (length ks)
    by true h = omega arith
    by false h = omega arith

-- a count is no more than how many names there are
pub count_most : (names : List (Bor (List ℕ))) (i : ℕ) (n : List ℕ) (counts : List (List ℕ × ℕ)) (k : ℕ) → k ≡ count_of (meaning_of counts n) → Counts (borrowed (take i names)) counts → i < length names → k < length names
count_most names i n counts k e h l =
    let most = occurrences_most (borrowed (take i names)) n in
    let long : length (borrowed (take i names)) ≤ i = rw length-map (rw length-take (omega arith)) in
    let same : k ≡ occurrences (borrowed (take i names)) n = e ∙ h n in
    omega arith

counts_step : (names : List (Bor (List ℕ))) (i : ℕ) (x : Bor (List ℕ)) (counts new : List (List ℕ × ℕ)) (k : ℕ) → i < length names → x ≡ get_or names i x → k ≡ count_of (meaning_of counts x.now) → Binds counts new x.now (k + 1) →
    Counts (borrowed (take i names)) counts → Counts (borrowed (take (i + 1) names)) new
counts_step names i x counts new k h e is b before n =
    ap count_of (b n) ∙ by (bytes_eq x.now n) refl ∙ sym (occurrences_push (borrowed (take i names)) x.now n)
    ∙ ap (λ z. occurrences z n) (sym (map-append (λ (z : Bor (List ℕ)). z.now) (take i names) (x ∷ [])) ∙ ap borrowed (sym (take_push names i x h e)))
  where
    by : (t : Bool) → bytes_eq x.now n ≡ t → count_of (cond t (Some (k + 1)) (meaning_of counts n)) ≡ cond (bytes_eq n x.now) (suc (occurrences (borrowed (take i names)) n)) (occurrences (borrowed (take i names)) n)
    by true q =
        let same : x.now ≡ n = (bytes_eq-Decides x.now n).0 q in
        let here : k ≡ occurrences (borrowed (take i names)) n = is ∙ ap (λ z. count_of (meaning_of counts z)) same ∙ before n in
        let more : k + 1 ≡ suc (occurrences (borrowed (take i names)) n) = omega arith in
        more ∙ sym (ap (λ t. cond t (suc (occurrences (borrowed (take i names)) n)) (occurrences (borrowed (take i names)) n)) (bytes_eq-sym n x.now ∙ q))
    by false q = before n ∙ sym (ap (λ t. cond t (suc (occurrences (borrowed (take i names)) n)) (occurrences (borrowed (take i names)) n)) (bytes_eq-sym n x.now ∙ q))

pub counts_at : (names : List (Bor (List ℕ))) (i : ℕ) (d : Bor (List ℕ)) (counts new : List (List ℕ × ℕ)) (k : ℕ) → i < length names → k ≡ count_of (meaning_of counts (get_or names i d).now) → Binds counts new (get_or names i d).now (k + 1) →
    Counts (borrowed (take i names)) counts → Counts (borrowed (take (i + 1) names)) new
counts_at names i d counts new k h is b before = counts_step names i (get_or names i d) counts new k h (get_or_default names i d (get_or names i d) h) is b before

-- ---- taking away

any_none : (ns : List (List ℕ)) (m : List ℕ) → occurrences ns m ≡ 0 → list_any (bytes_eq m) ns ≡ false
any_none [] m h = refl
any_none (k ∷ ks) m h = by (bytes_eq m k) h (any_none ks m)
  where
    by : (t : Bool) → cond t (suc (occurrences ks m)) (occurrences ks m) ≡ 0 → (occurrences ks m ≡ 0 → list_any (bytes_eq m) ks ≡ false) → (t || list_any (bytes_eq m) ks) ≡ false
    by true e rest = absurd (omega arith)
    by false e rest = rest e

any_some : (ns : List (List ℕ)) (m : List ℕ) → 0 < occurrences ns m → list_any (bytes_eq m) ns ≡ true
any_some [] m h = absurd (omega arith)
any_some (k ∷ ks) m h = by (bytes_eq m k) h (any_some ks m)
  where
    by : (t : Bool) → 0 < cond t (suc (occurrences ks m)) (occurrences ks m) → (0 < occurrences ks m → list_any (bytes_eq m) ks ≡ true) → (t || list_any (bytes_eq m) ks) ≡ true
    by true e rest = refl
    by false e rest = rest e

taken_same : (ns : List (List ℕ)) (m : List ℕ) → list_any (bytes_eq m) ns ≡ true → occurrences ns m ≡ suc (occurrences (without_name m ns) m)
taken_same [] m h = absurd (true≢false (sym h))
taken_same (k ∷ ks) m h = by (bytes_eq m k) refl h (taken_same ks m)
  where
    by : (t : Bool) → bytes_eq m k ≡ t → (t || list_any (bytes_eq m) ks) ≡ true → (list_any (bytes_eq m) ks ≡ true → occurrences ks m ≡ suc (occurrences (without_name m ks) m)) →
        cond t (suc (occurrences ks m)) (occurrences ks m) ≡ suc (occurrences (cond t ks (k ∷ without_name m ks)) m)
    by true e g rest = refl
    by false e g rest =
        rest g ∙ ap suc (sym (ap (λ t. cond t (suc (occurrences (without_name m ks) m)) (occurrences (without_name m ks) m)) e))

taken_other : (ns : List (List ℕ)) (m n : List ℕ) → bytes_eq m n ≡ false → occurrences (without_name m ns) n ≡ occurrences ns n
taken_other [] m n h = refl
taken_other (k ∷ ks) m n h = by (bytes_eq m k) refl (taken_other ks m n h)
  where
    by : (t : Bool) → bytes_eq m k ≡ t → occurrences (without_name m ks) n ≡ occurrences ks n → occurrences (cond t ks (k ∷ without_name m ks)) n ≡ cond (bytes_eq n k) (suc (occurrences ks n)) (occurrences ks n)
    by true e rest =
        let other : bytes_eq n k ≡ false = ap (bytes_eq n) (sym ((bytes_eq-Decides m k).0 e)) ∙ bytes_eq-sym n m ∙ h in
        sym (ap (λ t. cond t (suc (occurrences ks n)) (occurrences ks n)) other)
    by false e rest = ap (λ z. cond (bytes_eq n k) (suc z) z) rest

-- a name that is there is taken away
pub takes_one : (ns : List (List ℕ)) (m : List ℕ) (counts new : List (List ℕ × ℕ)) (k less : ℕ) → Counts ns counts → k ≡ count_of (meaning_of counts m) → 0 < k → less + 1 ≡ k → Binds counts new m less → TakesOne ns m new true
takes_one ns m counts new k less h e some one b =
    let here : k ≡ occurrences ns m = e ∙ h m in
    let stands : list_any (bytes_eq m) ns ≡ true = any_some ns m (omega arith) in
    (stands, λ n. ap count_of (b n) ∙ by n stands (bytes_eq m n) refl)
  where
    by : (n : List ℕ) → list_any (bytes_eq m) ns ≡ true → (t : Bool) → bytes_eq m n ≡ t → count_of (cond t (Some less) (meaning_of counts n)) ≡ occurrences (without_name m ns) n
    by n stands true q =
        let same : m ≡ n = (bytes_eq-Decides m n).0 q in
        let taken = taken_same ns m stands in
        let here : k ≡ occurrences ns m = e ∙ h m in
        let left : less ≡ occurrences (without_name m ns) m = omega arith in
        left ∙ ap (occurrences (without_name m ns)) same
    by n stands false q = h n ∙ sym (taken_other ns m n q)

pub takes_none : (ns : List (List ℕ)) (m : List ℕ) (counts : List (List ℕ × ℕ)) (k : ℕ) → Counts ns counts → k ≡ count_of (meaning_of counts m) → k ≡ 0 → TakesOne ns m counts false
takes_none ns m counts k h e z = (any_none ns m (sym (h m) ∙ sym e ∙ z), h)

-- ---- what is left over

pub leaves_none : (ns old : List (List ℕ)) (counts : List (List ℕ × ℕ)) → Counts ns counts → Leaves ns [] old old counts
leaves_none ns old counts h = record { left = ns; counts_left = h; same = λ rest. refl }

pub leaves_nothing : (ns ms old : List (List ℕ)) (counts : List (List ℕ × ℕ)) → ms ≡ [] → Counts ns counts → Leaves ns ms old old counts
leaves_nothing ns ms old counts e h = subst (λ z. Leaves ns z old old counts) (sym e) (leaves_none ns old counts h)

pub leaves_then : (ns ms ks old mid new : List (List ℕ)) (a b : List (List ℕ × ℕ)) (h : Leaves ns ms old mid a) → Leaves h.left ks mid new b → Leaves ns (ms ++ ks) old new b
leaves_then ns ms ks old mid new a b h k =
    record { left = k.left; counts_left = k.counts_left; same = λ rest. k.same rest ∙ h.same (ks ++ rest) ∙ ap (λ z. old ++ left_over ns z) (sym (append_assoc ms ks rest)) }

pub leaves_taken : (ns : List (List ℕ)) (m : List ℕ) (old : List (List ℕ)) (counts : List (List ℕ × ℕ)) → TakesOne ns m counts true → Leaves ns (m ∷ []) old old counts
leaves_taken ns m old counts h =
    record { left = without_name m ns; counts_left = h.1; same = λ rest. ap (λ z. old ++ z) (sym (ap (λ t. cond t (left_over (without_name m ns) rest) (m ∷ left_over ns rest)) h.0)) }

pub leaves_pushed : (ns : List (List ℕ)) (m : List ℕ) (old : List (List ℕ)) (counts : List (List ℕ × ℕ)) → TakesOne ns m counts false → Leaves ns (m ∷ []) old (old ++ m ∷ []) counts
leaves_pushed ns m old counts h =
    record {
      left = ns;
      counts_left = h.1;
      same = λ rest. append_assoc old (m ∷ []) (left_over ns rest) ∙ ap (λ z. old ++ z) (sym (ap (λ t. cond t (left_over (without_name m ns) rest) (m ∷ left_over ns rest)) h.0));
    }

pub leaves_pushed_at : (ns : List (List ℕ)) (x : Bor (List ℕ)) (old new : List (Bor (List ℕ))) (counts : List (List ℕ × ℕ)) → new ≡ old ++ x ∷ [] → TakesOne ns x.now counts false → Leaves ns (x.now ∷ []) (borrowed old) (borrowed new) counts
leaves_pushed_at ns x old new counts e h =
    subst (λ z. Leaves ns (x.now ∷ []) (borrowed old) z counts) (sym (ap borrowed e ∙ map-append (λ (n : Bor (List ℕ)). n.now) old (x ∷ []))) (leaves_pushed ns x.now (borrowed old) counts h)

module _ {X : Type 0} (g : List X → List (List ℕ)) (xs : List X) (i : ℕ) where
  -- one element more
  pub leaves_more : (x : X) (more ns old mid new : List (List ℕ)) (a b : List (List ℕ × ℕ)) → i < length xs → x ≡ get_or xs i x → ((ys : List X) → g (ys ++ x ∷ []) ≡ g ys ++ more) → (h : Leaves ns (g (take i xs)) old mid a) → Leaves h.left more mid new b → Leaves ns (g (take (i + 1) xs)) old new b
  leaves_more x more ns old mid new a b l is e h k =
      subst (λ z. Leaves ns z old new b) (sym (ap g (take_push xs i x l is) ∙ e (take i xs))) (leaves_then ns (g (take i xs)) more old mid new a b h k)

  -- all of them
  pub leaves_all : (ns old new : List (List ℕ)) (a : List (List ℕ × ℕ)) → length xs ≤ i → Leaves ns (g (take i xs)) old new a → Leaves ns (g xs) old new a
  leaves_all ns old new a l h = subst (λ z. Leaves ns (g z) old new a) (take_all i xs l) h

-- nothing comes behind
pub leaves_end : (ns ms new : List (List ℕ)) (a : List (List ℕ × ℕ)) → Leaves ns ms [] new a → new ≡ left_over ns ms
leaves_end ns ms new a h = sym (append-nil new) ∙ h.same [] ∙ ap (left_over ns) (append-nil ms)
