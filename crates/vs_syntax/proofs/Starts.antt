-- How a tree of the grammar begins, and how high it is at least.
use Rattle.std.specs.Prelude.{◌≡◌, ℕ, suc, max, ◌≤◌, Bool, true, false, cond, ◌&&◌, ◌||◌, List, [], ◌∷◌, ◌++◌, refl}
use Rattle.std.proofs.Common.{sym, ◌∙◌, ap, subst, append_assoc, arith}
use Rattle.vs_syntax.specs.Symbols.{Symbol, Class, class_of, same_class, first}
use Rattle.vs_syntax.specs.Grammar.{Nonterminal, Grammar, seq, part, chain, optional, rule}
use Rattle.vs_syntax.specs.Tables.{Front, null, low, beside, above, fronts, among, need, goes}
use Rattle.vs_syntax.specs.Derivation.{Tree, tokens, height, Is, is_nothing, is_token, is_seq, is_left, is_right, is_stop, is_more, is_part, is_node, is_one, is_chain, is_present, is_absent}
use Rattle.vs_syntax.proofs.Checks.{rule_null, rule_low, rule_fronts}
use Rattle.vs_syntax.proofs.Fronts.{clash, same_class-refl, goes-seq, goes-either, goes-node, goes-chain, among-beside, among-above, goes-present, need-append_le, need-beside_le, need-above_le}
use Rattle.std.proofs.lemmas.Bool.{or_parts as or_false, or_right, or_left, and_right as and_false}
use Rattle.std.proofs.lemmas.Bool.{and_from as and_both}

-- parts of an empty list are empty
pub nil_left : (xs ys : List Symbol) → xs ++ ys ≡ [] → xs ≡ []
nil_left [] ys e = refl
nil_left (x ∷ xs) ys e = cc

pub nil_right : (xs ys : List Symbol) → xs ++ ys ≡ [] → ys ≡ []
nil_right [] ys e = e
nil_right (x ∷ xs) ys e = cc

-- what comes next, behind nothing
pub goes_behind : (g : Grammar) (xs m : List Symbol) → xs ≡ [] → goes g (xs ++ m) ≡ goes g m
goes_behind g xs m e = ap (λ u. goes g (u ++ m)) e

-- the test of a sequence, from those of its parts
seq_none : (a b : Grammar) (ts : List Symbol) → goes a ts ≡ false → goes b ts ≡ false → goes (seq a b) ts ≡ false
seq_none a b ts p q = goes-seq a b ts ∙ rw p (and_false (null a) (goes b ts) q)

chain_none : (a b : Grammar) (ts : List Symbol) → goes a ts ≡ false → goes b ts ≡ false → goes (chain a b) ts ≡ false
chain_none a b ts p q = goes-chain a b ts ∙ rw p (and_false (null a) (goes b ts) q)

pub goes-part : (p : Nonterminal) (ts : List Symbol) → goes (rule p) ts ≡ goes (part p) ts
goes-part p ts = ap (among (first ts)) (rule_fronts p)

-- A tree without tokens stands only where what comes next can't begin it.
pub quiet : {g : Grammar} {x : Tree} {m : List Symbol} → Is g x m → tokens x ≡ [] → goes g m ≡ false
quiet is_nothing e = refl
quiet (is_token p) e = cc
quiet (is_seq {a = a} {b = b} {x = x} {y = y} {more = m} p q) e =
    let ex : tokens x ≡ [] = nil_left (tokens x) (tokens y) e in
    let ey : tokens y ≡ [] = nil_right (tokens x) (tokens y) e in
    seq_none a b m (sym (goes_behind a (tokens y) m ey) ∙ quiet p ex) (quiet q ey)
quiet (is_left {a = a} {x = x} {more = m} h p) e = absurd (clash h (goes_behind a (tokens x) m e ∙ quiet p e))
quiet (is_right {a = a} {b = b} {x = x} {more = m} h p) e = goes-either a b m ∙ rw (sym (goes_behind a (tokens x) m e) ∙ h) (quiet p e)
quiet (is_stop h) e = h
quiet (is_more {a = a} {x = x} {y = y} {more = m} h p q) e =
    let ex : tokens x ≡ [] = nil_left (tokens x) (tokens y) e in
    absurd (clash h (goes_behind a (tokens x) (tokens y ++ m) ex ∙ quiet p ex))
quiet (is_part {p = k} {more = m} p) e = sym (goes-part k m) ∙ quiet p e
quiet (is_node {a = a} {more = m} p) e = goes-node a m ∙ quiet p e
quiet (is_one {a = a} {b = b} {more = m} h p) e = chain_none a b m (quiet p e) h
quiet (is_chain {a = a} {b = b} {x = x} {y = y} {more = m} h p q) e =
    let ey : tokens y ≡ [] = nil_right (tokens x) (tokens y) e in
    absurd (clash h (goes_behind b (tokens y) m ey ∙ quiet q ey))
quiet (is_present h p) e = cc
quiet (is_absent h) e = h

-- A tree without tokens stands only where the grammar allows none.
pub is_null : {g : Grammar} {x : Tree} {m : List Symbol} → Is g x m → tokens x ≡ [] → null g ≡ true
is_null is_nothing e = refl
is_null (is_token p) e = cc
is_null (is_seq {a = a} {b = b} {x = x} {y = y} p q) e = and_both (null a) (null b) (is_null p (nil_left (tokens x) (tokens y) e)) (is_null q (nil_right (tokens x) (tokens y) e))
is_null (is_left {a = a} {b = b} h p) e = or_left (null a) (null b) (is_null p e)
is_null (is_right {a = a} {b = b} h p) e = or_right (null a) (null b) (is_null p e)
is_null (is_stop h) e = refl
is_null (is_more h p q) e = refl
is_null (is_part {p = k} p) e = sym (rule_null k) ∙ is_null p e
is_null (is_node p) e = is_null p e
is_null (is_one h p) e = is_null p e
is_null (is_chain {x = x} {y = y} h p q) e = is_null p (nil_left (tokens x) (tokens y) e)
is_null (is_present h p) e = refl
is_null (is_absent h) e = refl

-- the tests of the parts, from that of a sequence that can't begin so
pub seq_first : (a b : Grammar) (ts : List Symbol) → goes (seq a b) ts ≡ false → goes a ts ≡ false
seq_first a b ts h = (or_false (goes a ts) (null a && goes b ts) (sym (goes-seq a b ts) ∙ h)).0

pub seq_second : (a b : Grammar) (ts : List Symbol) → null a ≡ true → goes (seq a b) ts ≡ false → goes b ts ≡ false
seq_second a b ts n h = ap (λ u. u && goes b ts) (sym n) ∙ (or_false (goes a ts) (null a && goes b ts) (sym (goes-seq a b ts) ∙ h)).1

chain_first : (a b : Grammar) (ts : List Symbol) → goes (chain a b) ts ≡ false → goes a ts ≡ false
chain_first a b ts h = (or_false (goes a ts) (null a && goes b ts) (sym (goes-chain a b ts) ∙ h)).0

chain_second : (a b : Grammar) (ts : List Symbol) → null a ≡ true → goes (chain a b) ts ≡ false → goes b ts ≡ false
chain_second a b ts n h = ap (λ u. u && goes b ts) (sym n) ∙ (or_false (goes a ts) (null a && goes b ts) (sym (goes-chain a b ts) ∙ h)).1

both_empty : (xs ys : List Symbol) → xs ≡ [] → ys ≡ [] → xs ++ ys ≡ []
both_empty xs ys p q = rw p q

-- A tree whose symbols the grammar can't begin has none.
pub silent : {g : Grammar} {x : Tree} {m : List Symbol} → Is g x m → goes g (tokens x ++ m) ≡ false → tokens x ≡ []
silent is_nothing h = refl
silent (is_token {c = c} {x = s} p) h = absurd (clash (or_left (same_class (class_of s) c) false (ap (λ u. same_class (class_of s) u) (sym p) ∙ same_class-refl (class_of s))) h)
silent (is_seq {a = a} {b = b} {x = x} {y = y} {more = m} p q) h =
    let t : goes (seq a b) (tokens x ++ (tokens y ++ m)) ≡ false = ap (goes (seq a b)) (sym (append_assoc (tokens x) (tokens y) m)) ∙ h in
    let ex : tokens x ≡ [] = silent p (seq_first a b (tokens x ++ (tokens y ++ m)) t) in
    both_empty (tokens x) (tokens y) ex (silent q (sym (goes_behind b (tokens x) (tokens y ++ m) ex) ∙ seq_second a b (tokens x ++ (tokens y ++ m)) (is_null p ex) t))
silent (is_left {a = a} {b = b} {x = x} {more = m} h p) k = absurd (clash h (or_false (goes a (tokens x ++ m)) (goes b (tokens x ++ m)) (sym (goes-either a b (tokens x ++ m)) ∙ k)).0)
silent (is_right {a = a} {b = b} {x = x} {more = m} h p) k = silent p (or_false (goes a (tokens x ++ m)) (goes b (tokens x ++ m)) (sym (goes-either a b (tokens x ++ m)) ∙ k)).1
silent (is_stop h) k = refl
silent (is_more {a = a} {x = x} {y = y} {more = m} h p q) k = absurd (clash h (ap (goes a) (sym (append_assoc (tokens x) (tokens y) m)) ∙ k))
silent (is_part {p = k} {x = x} {more = m} p) h = silent p (goes-part k (tokens x ++ m) ∙ h)
silent (is_node {a = a} {x = x} {more = m} p) h = silent p (sym (goes-node a (tokens x ++ m)) ∙ h)
silent (is_one {a = a} {b = b} {x = x} {more = m} h p) k = silent p (chain_first a b (tokens x ++ m) k)
silent (is_chain {a = a} {b = b} {x = x} {y = y} {more = m} h p q) k =
    let t : goes (chain a b) (tokens x ++ (tokens y ++ m)) ≡ false = ap (goes (chain a b)) (sym (append_assoc (tokens x) (tokens y) m)) ∙ k in
    let ex : tokens x ≡ [] = silent p (chain_first a b (tokens x ++ (tokens y ++ m)) t) in
    absurd (clash h (sym (goes_behind b (tokens x) (tokens y ++ m) ex) ∙ chain_second a b (tokens x ++ (tokens y ++ m)) (is_null p ex) t))
silent (is_present {c = c} {a = a} {s = s} {x = x} {more = m} h p) k = absurd (clash (goes-present c a s (tokens x ++ m) h) k)
silent (is_absent h) k = refl

-- A tree is at least as high as the grammar's least.
pub lowest : {g : Grammar} {x : Tree} {m : List Symbol} → Is g x m → low g ≤ height x
lowest is_nothing = omega arith
lowest (is_token p) = omega arith
lowest (is_seq p q) = omega (arith, lowest p, lowest q)
lowest (is_left h p) = omega (arith, lowest p)
lowest (is_right h p) = omega (arith, lowest p)
lowest (is_stop h) = omega arith
lowest (is_more h p q) = omega arith
lowest (is_part {p = k} {x = x} p) = subst (λ (n : ℕ). n ≤ height x) (rule_low k) (lowest p)
lowest (is_node p) = omega (arith, lowest p)
lowest (is_one h p) = lowest p
lowest (is_chain h p q) = omega (arith, lowest p)
lowest (is_present h p) = omega arith
lowest (is_absent h) = omega arith

-- the need at the first symbol
abbrev pub need_at : Grammar → List Symbol → ℕ
need_at g ts = need (first ts) (fronts g)

-- the need of what stands behind a part that can be without tokens
need-cond_le : (c : Class) (b : Bool) (fs : List Front) (n : ℕ) → (b ≡ true → need c fs ≤ n) → need c (cond b fs []) ≤ n
need-cond_le c true fs n h = h refl
need-cond_le c false fs n h = omega arith

need-seq_le : (a b : Grammar) (ts : List Symbol) (n : ℕ) → (goes a ts ≡ true → max (low b) (need_at a ts) ≤ n) → (goes a ts ≡ false → null a ≡ true → max (low a) (need_at b ts) ≤ n) → need_at (seq a b) ts ≤ n
need-seq_le a b ts n p q =
    need-append_le (first ts) (beside (low b) (fronts a)) (cond (null a) (beside (low a) (fronts b)) []) n
    (λ h. let d : need (first ts) (beside (low b) (fronts a)) ≤ max (low b) (need_at a ts) = need-beside_le (first ts) (low b) (fronts a) in
    let e : max (low b) (need_at a ts) ≤ n = p (sym (among-beside (first ts) (low b) (fronts a)) ∙ h) in omega (arith, d, e))
    (λ h. need-cond_le (first ts) (null a) (beside (low a) (fronts b)) n
    (λ k. let d : need (first ts) (beside (low a) (fronts b)) ≤ max (low a) (need_at b ts) = need-beside_le (first ts) (low a) (fronts b) in
    let e : max (low a) (need_at b ts) ≤ n = q (sym (among-beside (first ts) (low b) (fronts a)) ∙ h) k in omega (arith, d, e)))

need-chain_le : (a b : Grammar) (ts : List Symbol) (n : ℕ) → (goes a ts ≡ true → need_at a ts ≤ n) → (goes a ts ≡ false → null a ≡ true → need (first ts) (above (beside (low a) (fronts b))) ≤ n) → need_at (chain a b) ts ≤ n
need-chain_le a b ts n p q =
    need-append_le (first ts) (fronts a) (cond (null a) (above (beside (low a) (fronts b))) []) n p
    (λ h. need-cond_le (first ts) (null a) (above (beside (low a) (fronts b))) n (λ k. q h k))

need-link_le : (a b : Grammar) (ts : List Symbol) → need (first ts) (above (beside (low a) (fronts b))) ≤ suc (max (low a) (need_at b ts))
need-link_le a b ts =
    let d : need (first ts) (beside (low a) (fronts b)) ≤ max (low a) (need_at b ts) = need-beside_le (first ts) (low a) (fronts b) in
    let f : need (first ts) (above (beside (low a) (fronts b))) ≤ suc (need (first ts) (beside (low a) (fronts b))) = need-above_le (first ts) (beside (low a) (fronts b)) in omega (arith, d, f)

-- what the need depends on
need_behind : (g : Grammar) (xs m : List Symbol) → xs ≡ [] → need_at g (xs ++ m) ≡ need_at g m
need_behind g xs m e = ap (λ u. need_at g (u ++ m)) e

-- a class that isn't among them has no need
need_none : (c : Class) (fs : List Front) → among c fs ≡ false → need c fs ≡ 0
need_none c [] h = refl
need_none c (f ∷ fs) h = elim (same_class c f.class) as (λ s. (s || among c fs) ≡ false → cond s f.need (need c fs) ≡ 0) [ true ↦ λ k. absurd (clash refl k) | false ↦ λ k. need_none c fs k ] h

-- A tree is at least as high as the need of its first symbol.
pub enough : {g : Grammar} {x : Tree} {m : List Symbol} → Is g x m → need_at g (tokens x ++ m) ≤ height x
enough is_nothing = omega arith
enough (is_token {c = c} {x = s} p) = elim (same_class (class_of s) c) as (λ u. cond u 0 0 ≤ 0) [ true ↦ omega arith | false ↦ omega arith ]
enough (is_seq {a = a} {b = b} {x = x} {y = y} {more = m} p q) =
    let i : need_at a (tokens x ++ (tokens y ++ m)) ≤ height x = enough p in
    let j : need_at b (tokens y ++ m) ≤ height y = enough q in
    let k : low a ≤ height x = lowest p in
    let l : low b ≤ height y = lowest q in
    rw (append_assoc (tokens x) (tokens y) m)
    (need-seq_le a b (tokens x ++ (tokens y ++ m)) (max (height x) (height y)) (λ h. omega (arith, i, l))
    (λ h n. let e : need_at b (tokens x ++ (tokens y ++ m)) ≡ need_at b (tokens y ++ m) = need_behind b (tokens x) (tokens y ++ m) (silent p h) in omega (arith, e, j, k)))
enough (is_left {a = a} {b = b} {x = x} {more = m} h p) = need-append_le (first (tokens x ++ m)) (fronts a) (fronts b) (height x) (λ u. enough p) (λ u. absurd (clash h u))
enough (is_right {a = a} {b = b} {x = x} {more = m} h p) = need-append_le (first (tokens x ++ m)) (fronts a) (fronts b) (height x) (λ u. absurd (clash u h)) (λ u. enough p)
enough (is_stop {a = a} {more = m} h) = rw (need_none (first m) (fronts a) h) (omega arith)
enough (is_more {a = a} {x = x} {y = y} {more = m} h p q) =
    let i : need_at a (tokens x ++ (tokens y ++ m)) ≤ height x = enough p in
    rw (append_assoc (tokens x) (tokens y) m) (omega (arith, i))
enough (is_part {p = k} {x = x} {more = m} p) = subst (λ (fs : List Front). need (first (tokens x ++ m)) fs ≤ height x) (rule_fronts k) (enough p)
enough (is_node {a = a} {x = x} {more = m} p) =
    let i : need_at a (tokens x ++ m) ≤ height x = enough p in
    let j : need (first (tokens x ++ m)) (above (fronts a)) ≤ suc (need_at a (tokens x ++ m)) = need-above_le (first (tokens x ++ m)) (fronts a) in omega (arith, i, j)
enough (is_one {a = a} {b = b} {x = x} {more = m} h p) = need-chain_le a b (tokens x ++ m) (height x) (λ u. enough p)
    (λ u n. let e : among (first (tokens x ++ m)) (above (beside (low a) (fronts b))) ≡ false = among-above (first (tokens x ++ m)) (beside (low a) (fronts b)) ∙ among-beside (first (tokens x ++ m)) (low a) (fronts b) ∙ goes_behind b (tokens x) m (silent p u) ∙ h in
    rw (need_none (first (tokens x ++ m)) (above (beside (low a) (fronts b))) e) (omega arith))
enough (is_chain {a = a} {b = b} {x = x} {y = y} {more = m} h p q) =
    let i : need_at a (tokens x ++ (tokens y ++ m)) ≤ height x = enough p in
    let j : need_at b (tokens y ++ m) ≤ height y = enough q in
    let k : low a ≤ height x = lowest p in
    rw (append_assoc (tokens x) (tokens y) m)
    (need-chain_le a b (tokens x ++ (tokens y ++ m)) (suc (max (height x) (height y))) (λ u. omega (arith, i))
    (λ u n. let e : need_at b (tokens x ++ (tokens y ++ m)) ≡ need_at b (tokens y ++ m) = need_behind b (tokens x) (tokens y ++ m) (silent p u) in
    let f : need (first (tokens x ++ (tokens y ++ m))) (above (beside (low a) (fronts b))) ≤ suc (max (low a) (need_at b (tokens x ++ (tokens y ++ m)))) = need-link_le a b (tokens x ++ (tokens y ++ m)) in omega (arith, e, f, j, k)))
enough (is_present {c = c} {a = a} {s = s} {x = x} h p) =
    let i : low a ≤ height x = lowest p in
    elim (same_class (class_of s) c) as (λ u. cond u (low a) 0 ≤ max 0 (height x)) [ true ↦ omega (arith, i) | false ↦ omega arith ]
enough (is_absent {c = c} {a = a} {more = m} h) = rw (need_none (first m) (fronts (optional c a)) h) (omega arith)
