-- The first of some things that break a rule.
use Rattle.std.proofs.Common.{◌≡◌, ℕ, zero, suc, ◌+◌, ◌-◌, ◌<◌, ◌≤◌, ◌⊎◌, inl, inr, Option, Some, None, List, [], ◌∷◌, ◌++◌, length, map, take, get_or, slice_get, append_assoc, refl, sym, ◌∙◌, ap, subst, arith}
use Rattle.std.specs.List.{All}
use Rattle.std.proofs.lemmas.List.{length-map, map-append, take_more}
use Rattle.std.proofs.lemmas.List.Elements.{All-nil, All-cons, All-append}
use Rattle.std.proofs.lemmas.Simd.{map-map}
use Rattle.vs_design.specs.Parts.{Parts}
use Rattle.vs_rules_of_starts.specs.vs_rules.specs.Claims.{Claims, Name}
use Rattle.vs_rules_of_starts.specs.vs_rules.specs.Verdict.{numbers, subjects}
use Rattle.vs_rules_of_signals.specs.vs_graph.specs.Verdicts.{IsFirst}
use Rattle.vs_cert_check.specs.declared.verdict.Broken.{Broken}
use Rattle.vs_cert_check.specs.Broken.{FirstBroken, asked, broken_view, violation_at, AreFirstBroken}
use Rattle.vs_cert_check.specs.Verdicts.{KeepsAt, AllKeptBelow}

-- ---- one thing more, kept or broken

-- nothing is broken among nothing
pub nothing : {A : Type 0} (keeps : A → Type 0) (most : ℕ) → FirstBroken keeps most [] []
nothing keeps zero = refl
nothing keeps (suc most) = refl

pub passes : {A : Type 0} (keeps : A → Type 0) (most : ℕ) (xs found : List A) (x : A) → FirstBroken keeps most xs found → keeps x →
    FirstBroken keeps most (xs ++ x ∷ []) found
passes keeps zero xs found x h kept = h
passes keeps (suc most) [] found x h kept = inl (kept, h)
passes keeps (suc most) (y ∷ ys) found x h kept =
    elim h [
      | inl a ↦ inl (a.0, passes keeps (suc most) ys found x a.1 kept)
      | inr b ↦ inr (b.0, b.1, b.2, passes keeps most ys b.1 x b.3 kept)
    ]

shorter : {A : Type 0} (y : A) (found rest : List A) → found ≡ y ∷ rest → length found ≡ suc (length rest)
shorter y found rest is = ap length is

pub adds : {A : Type 0} (keeps : A → Type 0) (most : ℕ) (xs found : List A) (x : A) → FirstBroken keeps most xs found → length found < most →
    (keeps x → ⊥) → FirstBroken keeps most (xs ++ x ∷ []) (found ++ x ∷ [])
adds keeps zero xs found x h less breaks = absurd (omega (arith, less))
adds {A} keeps (suc most) [] found x h less breaks = inr (breaks, [], ap (λ (f : List A). f ++ x ∷ []) h, nothing keeps most)
adds {A} keeps (suc most) (y ∷ ys) found x h less breaks =
    elim h [
      | inl a ↦ inl (a.0, adds keeps (suc most) ys found x a.1 less breaks)
      | inr b ↦ inr (
        b.0,
        b.1 ++ x ∷ [],
        ap (λ (f : List A). f ++ x ∷ []) b.2,
        adds keeps most ys b.1 x b.3 (omega (arith, less, shorter y found b.1 b.2)) breaks,
      )
    ]

-- where so many are found, no more are
pub stays : {A : Type 0} (keeps : A → Type 0) (most : ℕ) (xs more found : List A) → FirstBroken keeps most xs found → most ≤ length found →
    FirstBroken keeps most (xs ++ more) found
stays keeps zero xs more found h full = h
stays keeps (suc most) [] more found h full = absurd (omega (arith, full, ap length h))
stays keeps (suc most) (y ∷ ys) more found h full =
    elim h [
      | inl a ↦ inl (a.0, stays keeps (suc most) ys more found a.1 full)
      | inr b ↦ inr (b.0, b.1, b.2, stays keeps most ys more b.1 b.3 (omega (arith, full, shorter y found b.1 b.2)))
    ]

-- ---- numbers

split : (a i m : ℕ) → numbers a (i + m) ≡ numbers a i ++ numbers (a + i) m
split a zero m =
    let none : 0 + m ≡ m = omega arith in
    let here : a ≡ a + 0 = omega arith in
    ap (numbers a) none ∙ ap (λ (k : ℕ). numbers k m) here
split a (suc i) m =
    let one : suc i + m ≡ suc (i + m) = omega arith in
    let next : suc a + i ≡ a + suc i = omega arith in
    ap (numbers a) one ∙ ap (λ (ns : List ℕ). a ∷ ns) (split (suc a) i m ∙ ap (λ (k : ℕ). numbers (suc a) i ++ numbers k m) next)

pub one_more : (i : ℕ) → numbers 0 (i + 1) ≡ numbers 0 i ++ i ∷ []
one_more i =
    let here : 0 + i ≡ i = omega arith in
    split 0 i 1 ∙ ap (λ (k : ℕ). numbers 0 i ++ k ∷ []) here

-- where so many are found among the first, the others don't count
pub stays_all : (keeps : ℕ → Type 0) (most i n : ℕ) (found : List ℕ) → FirstBroken keeps most (numbers 0 i) found → most ≤ length found → i ≤ n →
    FirstBroken keeps most (numbers 0 n) found
stays_all keeps most i n found h full within =
    let whole : i + (n - i) ≡ n = omega (arith, within) in
    subst (λ (ns : List ℕ). FirstBroken keeps most ns found) (sym (split 0 i (n - i)) ∙ ap (numbers 0) whole)
    (stays keeps most (numbers 0 i) (numbers (0 + i) (n - i)) found h full)

pub passes_next : (keeps : ℕ → Type 0) (most i : ℕ) (found : List ℕ) → FirstBroken keeps most (numbers 0 i) found → keeps i →
    FirstBroken keeps most (numbers 0 (i + 1)) found
passes_next keeps most i found h kept = subst (λ (ns : List ℕ). FirstBroken keeps most ns found) (sym (one_more i)) (passes keeps most (numbers 0 i) found i h kept)

pub adds_next : (keeps : ℕ → Type 0) (most i : ℕ) (found : List ℕ) → FirstBroken keeps most (numbers 0 i) found → length found < most → (keeps i → ⊥) →
    FirstBroken keeps most (numbers 0 (i + 1)) (found ++ i ∷ [])
adds_next keeps most i found h less breaks =
    subst (λ (ns : List ℕ). FirstBroken keeps most ns (found ++ i ∷ [])) (sym (one_more i)) (adds keeps most (numbers 0 i) found i h less breaks)

-- ---- the first one alone

first_or_behind : (keeps : ℕ → Type 0) (first i : ℕ) → keeps first → (first < i → keeps i) → first ≤ i → keeps i
first_or_behind keeps first i at behind from =
    elim (either first i) [
      | inl less ↦ behind less
      | inr not_less ↦ let same : first ≡ i = omega (arith, from, not_less) in subst keeps same at
    ]
  where
    either : (a b : ℕ) → (a < b) ⊎ (b ≤ a)
    either a b = grind arith

pub all_kept : (keeps : ℕ → Type 0) (first n : ℕ) → FirstBroken keeps 1 (numbers first n) [] → (i : ℕ) → first ≤ i → i < first + n → keeps i
all_kept keeps first zero h i from below = absurd (omega (arith, from, below))
all_kept keeps first (suc n) h i from below =
    elim h [
      | inl a ↦ first_or_behind keeps first i a.0 (λ behind. all_kept keeps (suc first) n a.1 i behind (omega (arith, below))) from
      | inr b ↦ absurd (omega (arith, ap length b.2))
    ]

pub record IsHead (keeps : ℕ → Type 0) (first n x : ℕ) : Type 0 where
  pub from : first ≤ x
  pub below : x < first + n
  pub broken : keeps x → ⊥
  pub before : (j : ℕ) → first ≤ j → j < x → keeps j

pub head_of : (keeps : ℕ → Type 0) (first n x : ℕ) (rest : List ℕ) → FirstBroken keeps 1 (numbers first n) (x ∷ rest) → IsHead keeps first n x
head_of keeps first zero x rest h = absurd (omega (arith, ap length h))
head_of keeps first (suc n) x rest h =
    elim h [
      | inl a ↦ let s = head_of keeps (suc first) n x rest a.1 in record {
        from = omega (arith, s.from);
        below = omega (arith, s.below);
        broken = s.broken;
        before = λ j from less. first_or_behind keeps first j a.0 (λ behind. s.before j behind less) from;
      }
      | inr b ↦ let same : x ≡ first = heads x first rest b.1 b.2 in record {
        from = omega (arith, same);
        below = omega (arith, same);
        broken = λ k. b.0 (subst keeps same k);
        before = λ j from less. absurd (omega (arith, same, from, less));
      }
    ]
  where
    head_or : List ℕ → ℕ
    head_or [] = 0
    head_or (y ∷ ys) = y

    heads : (x first : ℕ) (xs ys : List ℕ) → x ∷ xs ≡ first ∷ ys → x ≡ first
    heads x first xs ys e = ap head_or e

-- ---- what a loop has found

-- those that break a rule of the things below i, at most so many; all are below n
pub record AreFound (keeps : ℕ → Type 0) (most i n : ℕ) (found : List ℕ) : Type 0 where
  pub first : FirstBroken keeps most (numbers 0 i) found
  pub within : All (λ j. j < n) found

pub found_next : (keeps : ℕ → Type 0) (most i n : ℕ) (old new : List ℕ) → AreFound keeps most i n old → length old < most → i < n → (keeps i → ⊥) →
    new ≡ old ++ i ∷ [] → AreFound keeps most (i + 1) n new
found_next keeps most i n old new a room within breaks put = record {
  first = subst (λ (f : List ℕ). FirstBroken keeps most (numbers 0 (i + 1)) f) (sym put) (adds_next keeps most i old a.first room breaks);
  within = subst (All (λ (j : ℕ). j < n)) (sym put)
      (All-append (λ (j : ℕ). j < n) old (i ∷ []) a.within (All-cons (λ (j : ℕ). j < n) i [] within (All-nil (λ (j : ℕ). j < n))));
}

pub kept_next : (keeps : ℕ → Type 0) (most i n : ℕ) (old new : List ℕ) → AreFound keeps most i n old → keeps i → new ≡ old → AreFound keeps most (i + 1) n new
kept_next keeps most i n old new a kept same = record {
  first = subst (λ (f : List ℕ). FirstBroken keeps most (numbers 0 (i + 1)) f) (sym same) (passes_next keeps most i old a.first kept);
  within = subst (All (λ (j : ℕ). j < n)) (sym same) a.within;
}

pub enough_found : (keeps : ℕ → Type 0) (most i n : ℕ) (found : List ℕ) → AreFound keeps most i n found → most ≤ length found → i ≤ n →
    FirstBroken keeps most (numbers 0 n) found
enough_found keeps most i n found a full within = stays_all keeps most i n found a.first full within

pub is_first : (keeps : ℕ → Type 0) (n : ℕ) (found : List ℕ) → FirstBroken keeps 1 (numbers 0 n) found → IsFirst keeps n (slice_get found 0)
is_first keeps n [] h = λ i below. all_kept keeps 0 n h i (omega arith) (omega (arith, below))
is_first keeps n (x ∷ rest) h =
    let s = head_of keeps 0 n x rest h in
    (omega (arith, s.below), s.broken, λ j less. s.before j (omega arith) less)

-- ---- lists after one another

pub append : {A : Type 0} (keeps : A → Type 0) (most left : ℕ) (xs found more others : List A) → length found + left ≡ most →
    FirstBroken keeps most xs found → FirstBroken keeps left more others → FirstBroken keeps most (xs ++ more) (found ++ others)
append {A} keeps zero left xs found more others e h g =
    let none : left ≡ 0 = omega (arith, e) in
    ap (λ (f : List A). f ++ others) h ∙ subst (λ (n : ℕ). FirstBroken keeps n more others) none g
append {A} keeps (suc most) left [] found more others e h g =
    let all : left ≡ suc most = omega (arith, e, ap length h) in
    subst (λ (f : List A). FirstBroken keeps (suc most) more (f ++ others)) (sym h) (subst (λ (n : ℕ). FirstBroken keeps n more others) all g)
append {A} keeps (suc most) left (y ∷ ys) found more others e h g =
    elim h [
      | inl a ↦ inl (a.0, append keeps (suc most) left ys found more others e a.1 g)
      | inr b ↦ inr (
        b.0,
        b.1 ++ others,
        ap (λ (f : List A). f ++ others) b.2,
        append keeps most left ys b.1 more others (omega (arith, e, shorter y found b.1 b.2)) b.3 g,
      )
    ]

pub few : {A : Type 0} (keeps : A → Type 0) (most : ℕ) (xs found : List A) → FirstBroken keeps most xs found → length found ≤ most
few keeps zero xs found h = omega (arith, ap length h)
few keeps (suc most) [] found h = omega (arith, ap length h)
few keeps (suc most) (y ∷ ys) found h =
    elim h [
      | inl a ↦ few keeps (suc most) ys found a.1
      | inr b ↦ omega (arith, few keeps most ys b.1 b.3, shorter y found b.1 b.2)
    ]

mapped : {A B : Type 0} (f : A → B) (keeps : B → Type 0) (most : ℕ) (xs found : List A) → FirstBroken (λ (a : A). keeps (f a)) most xs found →
    FirstBroken keeps most (map f xs) (map f found)
mapped f keeps zero xs found h = ap (map f) h
mapped f keeps (suc most) [] found h = ap (map f) h
mapped f keeps (suc most) (y ∷ ys) found h =
    elim h [
      | inl a ↦ inl (a.0, mapped f keeps (suc most) ys found a.1)
      | inr b ↦ inr (b.0, map f b.1, ap (map f) b.2, mapped f keeps most ys b.1 b.3)
    ]

-- ---- rules that are kept

abbrev of_pair : (ℕ → ℕ → Type 0) → ℕ × ℕ → Type 0
of_pair keeps x = keeps x.0 x.1

abbrev paired : ℕ → ℕ → ℕ × ℕ
paired k i = (k, i)

rule_kept : (keeps : ℕ → ℕ → Type 0) (k first n most : ℕ) → ((i : ℕ) → i < first + n → keeps k i) →
    FirstBroken (of_pair keeps) most (map (paired k) (numbers first n)) []
rule_kept keeps k first zero most h = nothing (of_pair keeps) most
rule_kept keeps k first (suc n) zero h = refl
rule_kept keeps k first (suc n) (suc most) h =
    inl (h first (omega arith), rule_kept keeps k (suc first) n (suc most) (λ i below. h i (omega (arith, below))))

rules_kept : (keeps : ℕ → ℕ → Type 0) (r n most : ℕ) → ((k : ℕ) → k < r → (i : ℕ) → i < n → keeps k i) →
    FirstBroken (of_pair keeps) most (asked r n) []
rules_kept keeps zero n most h = nothing (of_pair keeps) most
rules_kept keeps (suc r) n most h =
    append (of_pair keeps) most most (asked r n) [] (map (paired r) (numbers 0 n)) [] (omega arith)
    (rules_kept keeps r n most (λ k below. h k (omega (arith, below)))) (rule_kept keeps r 0 n most (λ i below. h r (omega arith) i (omega (arith, below))))

-- ---- what is told

-- where all rules below a number are kept, nothing is told
pub none_told : (d : Parts) (c : Claims) (rules most : ℕ) → AllKeptBelow d c rules → AreFirstBroken d c rules most []
none_told d c rules most h = record { found = []; first = rules_kept (KeepsAt d c) rules (length (subjects d c)) most h; told = refl }

as_many : (d : Parts) (c : Claims) (rules most : ℕ) (list : List Broken) → (l : AreFirstBroken d c rules most list) → length list ≡ length l.found
as_many d c rules most list l = sym (length-map list broken_view) ∙ ap length l.told ∙ length-map l.found (violation_at d c)

pub at_most : (d : Parts) (c : Claims) (rules most : ℕ) (list : List Broken) → AreFirstBroken d c rules most list → length list ≤ most
at_most d c rules most list l =
    omega (arith, as_many d c rules most list l, few (of_pair (KeepsAt d c)) most (asked rules (length (subjects d c))) l.found l.first)

-- one rule more
pub next_told : (d : Parts) (c : Claims) (rule most left n : ℕ) (old new : List Broken) (found : List ℕ) → AreFirstBroken d c rule most old →
    n ≡ length (subjects d c) → length old + left ≡ most → FirstBroken (KeepsAt d c rule) left (numbers 0 n) found →
    map broken_view new ≡ map broken_view old ++ map (λ (i : ℕ). violation_at d c (rule, i)) found → AreFirstBroken d c (suc rule) most new
next_told d c rule most left n old new found l many room broken put =
    let all = length (subjects d c) in
    let here = subst (λ (m : ℕ). FirstBroken (KeepsAt d c rule) left (numbers 0 m) found) many broken in
    let so_many : length l.found + left ≡ most = omega (arith, room, as_many d c rule most old l) in
    record {
      found = l.found ++ map (paired rule) found;
      first = append (of_pair (KeepsAt d c)) most left (asked rule all) l.found (map (paired rule) (numbers 0 all)) (map (paired rule) found) so_many l.first
          (mapped (paired rule) (of_pair (KeepsAt d c)) left (numbers 0 all) found here);
      told = put ∙ ap (λ (xs : List (ℕ × Option Name)). xs ++ map (λ (i : ℕ). violation_at d c (rule, i)) found) l.told
          ∙ ap (λ (xs : List (ℕ × Option Name)). map (violation_at d c) l.found ++ xs) (sym (map-map (violation_at d c) (paired rule) found))
          ∙ sym (map-append (violation_at d c) l.found (map (paired rule) found));
    }

-- where none are asked for, none are told
pub none_asked : (d : Parts) (c : Claims) (rules most : ℕ) → most ≡ 0 → AreFirstBroken d c rules most []
none_asked d c rules most none = record {
  found = [];
  first = subst (λ (n : ℕ). FirstBroken (of_pair (KeepsAt d c)) n (asked rules (length (subjects d c))) []) (sym none) refl;
  told = refl;
}

-- ---- one subject more is told

pub told_next : (d : Parts) (c : Claims) (rule n : ℕ) (old now new : List Broken) (found : List ℕ) (b : Broken) → n < length found →
    map broken_view now ≡ map broken_view old ++ map (λ (i : ℕ). violation_at d c (rule, i)) (take n found) → new ≡ now ++ b ∷ [] →
    broken_view b ≡ violation_at d c (rule, get_or found n 0) →
    map broken_view new ≡ map broken_view old ++ map (λ (i : ℕ). violation_at d c (rule, i)) (take (n + 1) found)
told_next d c rule n old now new found b within so_far put is =
    let told = λ (i : ℕ). violation_at d c (rule, i) in
    let at_end : map told (take n found) ++ broken_view b ∷ [] ≡ map told (take (n + 1) found) =
    ap (λ (x : ℕ × Option Name). map told (take n found) ++ x ∷ []) is ∙ sym (map-append told (take n found) (get_or found n 0 ∷ []))
    ∙ ap (map told) (sym (take_more found n 0 within)) in
    ap (map broken_view) put ∙ map-append broken_view now (b ∷ []) ∙ ap (λ (xs : List (ℕ × Option Name)). xs ++ broken_view b ∷ []) so_far
    ∙ append_assoc (map broken_view old) (map told (take n found)) (broken_view b ∷ [])
    ∙ ap (λ (xs : List (ℕ × Option Name)). map broken_view old ++ xs) at_end
