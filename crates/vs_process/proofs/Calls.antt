-- Calls of `$strobe`: where each process made the same ones, in their order, their lines stand equally often.
use Rattle.std.proofs.Common.{◌≡◌, ℕ, ◌+◌, ◌==◌, Bool, true, false, Option, Some, None, List, [], ◌∷◌, ◌++◌, map, filter, refl, sym, ◌∙◌, ap, ap₂, subst, inl, inr, arith, eqb-true, eq-eqb, if◌then◌else◌}
use Rattle.std.specs.Str.{bytes_eq}
use Rattle.std.proofs.lemmas.Bool.{cases_Bool}
use Rattle.std.proofs.lemmas.List.Elements.{filter-append}
use Rattle.std.proofs.lemmas.List.{append-nil}
use Rattle.vs_design.specs.Stores.{Store}
use Rattle.vs_design.specs.Traces.{times_in}
use Rattle.vs_process.specs.vs_strobe.specs.Lines.{Format}
use Rattle.vs_process.specs.States.{Called, calls_after}
use Rattle.vs_process.specs.Executions.{strobe_line}
use Rattle.vs_process.proofs.ThreadStores.{filter_hit, filter_miss}

abbrev is_of : ℕ → Called → Bool
is_of i c = c.by == i

-- the calls that a process made
abbrev pub of : ℕ → List Called → List Called
of i cs = filter (is_of i) cs

-- each process made the same calls
abbrev pub SameCalls : List Called → List Called → Type 0
SameCalls xs ys = (i : ℕ) → of i xs ≡ of i ys

-- one more call, or none, of this process
pub of_own : (i : ℕ) (o : Option Format) (cs : List Called) → of i (calls_after i o cs) ≡ calls_after i o (of i cs)
of_own i None cs = refl
of_own i (Some f) cs =
    let c : Called = record { by = i; call = f } in
    filter-append (is_of i) cs (c ∷ []) ∙ ap (λ l. of i cs ++ l) (filter_hit (is_of i) c [] (eq-eqb i i refl))

-- of another one
pub of_other : (i k : ℕ) (o : Option Format) (cs : List Called) → (i == k) ≡ false → of k (calls_after i o cs) ≡ of k cs
of_other i k None cs ne = refl
of_other i k (Some f) cs ne =
    let c : Called = record { by = i; call = f } in
    filter-append (is_of k) cs (c ∷ []) ∙ ap (λ l. of k cs ++ l) (filter_miss (is_of k) c [] ne) ∙ append-nil (of k cs)

-- the first call of a process among others: what stands before it, and behind it
record Found (a : Called) (ys : List Called) : Type 0 where
  pub before : List Called
  pub behind : List Called
  pub is : ys ≡ before ++ a ∷ behind
  pub first : of a.by before ≡ []

found : (a : Called) (rest ys : List Called) → of a.by ys ≡ a ∷ rest → Found a ys
found a rest [] h = cc
found a rest (b ∷ ys) h =
    elim (cases_Bool (is_of a.by b)) [
      | inl hit ↦ let e : b ∷ of a.by ys ≡ a ∷ rest = sym (filter_hit (is_of a.by) b ys hit) ∙ h in let same : b ≡ a = cc in
          record { before = []; behind = ys; is = ap (λ c. c ∷ ys) same; first = refl }
      | inr miss ↦ let f = found a rest ys (sym (filter_miss (is_of a.by) b ys miss) ∙ h) in
          record { before = b ∷ f.before; behind = f.behind; is = ap (λ l. b ∷ l) f.is; first = filter_miss (is_of a.by) b f.before miss ∙ f.first }
    ]

-- without it
others : (a : Called) (xs before behind : List Called) → SameCalls (a ∷ xs) (before ++ a ∷ behind) → of a.by before ≡ [] → SameCalls xs (before ++ behind)
others a xs before behind same first i =
    elim (cases_Bool (is_of i a)) [
      | inl hit ↦
          let by : a.by ≡ i = eqb-true a.by i hit in
          let none : of i before ≡ [] = subst (λ k. of k before ≡ []) by first in
          let e : a ∷ of i xs ≡ a ∷ of i behind =
          sym (filter_hit (is_of i) a xs hit) ∙ same i ∙ filter-append (is_of i) before (a ∷ behind) ∙ ap₂ (λ l m. l ++ m) none (filter_hit (is_of i) a behind hit) in
          let tail : of i xs ≡ of i behind = cc in
          tail ∙ sym (filter-append (is_of i) before behind ∙ ap (λ l. l ++ of i behind) none)
      | inr miss ↦
          sym (filter_miss (is_of i) a xs miss) ∙ same i ∙ filter-append (is_of i) before (a ∷ behind) ∙ ap (λ l. of i before ++ l) (filter_miss (is_of i) a behind miss)
          ∙ sym (filter-append (is_of i) before behind)
    ]

-- how often a text stands among the lines of calls
abbrev tally : Store → ℕ → List ℕ → List Called → ℕ
tally store time text cs = times_in text (map (λ c. strobe_line c store time) cs)

abbrev once : Store → ℕ → List ℕ → Called → ℕ
once store time text c = if bytes_eq (strobe_line c store time).text text then 1 else 0

tally-cons : (store : Store) (time : ℕ) (text : List ℕ) (c : Called) (cs : List Called) → tally store time text (c ∷ cs) ≡ once store time text c + tally store time text cs
tally-cons store time text c cs = by_test (bytes_eq (strobe_line c store time).text text) (tally store time text cs)
  where
    by_test : (t : Bool) (n : ℕ) → (if t then 1 + n else n) ≡ (if t then 1 else 0) + n
    by_test true n = refl
    by_test false n = omega arith

tally-append : (store : Store) (time : ℕ) (text : List ℕ) (xs ys : List Called) → tally store time text (xs ++ ys) ≡ tally store time text xs + tally store time text ys
tally-append store time text [] ys = omega arith
tally-append store time text (a ∷ xs) ys =
    let whole = tally-cons store time text a (xs ++ ys) in
    let head = tally-cons store time text a xs in
    let below = tally-append store time text xs ys in
    omega (arith, whole, head, below)

-- where each process made the same calls, each line stands xs often
pub same_lines : (store : Store) (time : ℕ) (text : List ℕ) (xs ys : List Called) → SameCalls xs ys →
    times_in text (map (λ c. strobe_line c store time) xs) ≡ times_in text (map (λ c. strobe_line c store time) ys)
same_lines store time text [] [] same = refl
same_lines store time text [] (b ∷ ys) same = let e : b ∷ of b.by ys ≡ [] = sym (filter_hit (is_of b.by) b ys (eq-eqb b.by b.by refl)) ∙ sym (same b.by) in cc
same_lines store time text (a ∷ xs) ys same =
    let f = found a (of a.by xs) ys (sym (same a.by) ∙ filter_hit (is_of a.by) a xs (eq-eqb a.by a.by refl)) in
    let rest = same_lines store time text xs (f.before ++ f.behind) (others a xs f.before f.behind (subst (λ l. SameCalls (a ∷ xs) l) f.is same) f.first) in
    let left = tally-cons store time text a xs in
    let cut = tally-append store time text f.before (a ∷ f.behind) in
    let right = tally-cons store time text a f.behind in
    let joined = tally-append store time text f.before f.behind in
    let e : tally store time text (a ∷ xs) ≡ tally store time text (f.before ++ a ∷ f.behind) = omega (arith, rest, left, cut, right, joined) in
    e ∙ ap (tally store time text) (sym f.is)
