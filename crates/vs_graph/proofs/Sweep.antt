-- What a search of a graph keeps.
use Rattle.std.proofs.Common.{◌≡◌, ℕ, zero, suc, ◌+◌, ◌<◌, ◌⊎◌, inl, inr, Bool, true, false, List, [], ◌∷◌, ◌++◌, length, get_or, set, replicate, refl, sym, ◌∙◌, ap, subst, arith, length-append}
use Rattle.std.specs.List.{Contains}
use Rattle.std.proofs.lemmas.List.{get_or-set_same, get_or-replicate, length-replicate, length-set}
use Rattle.std.proofs.lemmas.List.Elements.{Contains-append_left, Contains-append_right, Contains-append_cases}
use Rattle.vs_graph.specs.Reached.{Reached, begins, goes_on}
use Rattle.vs_graph.specs.Owed.{owed}

abbrev pub Marked : List Bool → ℕ → Type 0
Marked marks k = get_or marks k false ≡ true

-- all that it holds is reached, and what it has left behind has no new successor
pub record Sweep (nexts : ℕ → List ℕ) (seeds : List ℕ) (marks : List Bool) (todo : List ℕ) : Type 0 where
  pub sound : (k : ℕ) → Marked marks k → Reached nexts seeds k
  pub held : (k : ℕ) → Contains todo k → Reached nexts seeds k
  pub begun : (k : ℕ) → k < length marks → Contains seeds k → Marked marks k ⊎ Contains todo k
  pub closed : (a b : ℕ) → Marked marks a → Contains (nexts a) b → b < length marks → Marked marks b ⊎ Contains todo b

pub none_in : (k : ℕ) → Contains [] k → ⊥
none_in k h = omega (arith, h.1)

-- an element of a list with one more at its end
pub last_or : (rest : List ℕ) (k b : ℕ) → Contains (rest ++ k ∷ []) b → Contains rest b ⊎ (b ≡ k)
last_or rest k b h = elim (Contains-append_cases rest (k ∷ []) b h) [ inl a ↦ inl a | inr c ↦ inr (one k b c) ] where
  one : (k b : ℕ) → Contains (k ∷ []) b → b ≡ k
  one k b (zero, l, e) = sym e
  one k b (suc n, l, e) = absurd (omega (arith, l))

pub last_in : (rest : List ℕ) (k : ℕ) → Contains (rest ++ k ∷ []) k
last_in rest k = Contains-append_right rest (k ∷ []) k (0, omega arith, refl)

-- what is reached is below the bound
reached_in : (nexts : ℕ → List ℕ) (seeds : List ℕ) (n : ℕ) → ((s : ℕ) → Contains seeds s → s < n) → ((a b : ℕ) → Contains (nexts a) b → b < n) → (k : ℕ) → Reached nexts seeds k → k < n
reached_in nexts seeds n first inside _ (begins a h) = first a h
reached_in nexts seeds n first inside _ (goes_on a b h e) = inside a b e

-- at the end all that is reached is marked
pub complete : (nexts : ℕ → List ℕ) (seeds : List ℕ) (marks : List Bool) → Sweep nexts seeds marks [] → ((s : ℕ) → Contains seeds s → s < length marks) →
    ((a b : ℕ) → Contains (nexts a) b → b < length marks) → (k : ℕ) → Reached nexts seeds k → Marked marks k
complete nexts seeds marks s first inside _ (begins a h) = elim (s.begun a (first a h) h) [ inl m ↦ m | inr t ↦ absurd (none_in a t) ]
complete nexts seeds marks s first inside _ (goes_on a b h e) =
    elim (s.closed a b (complete nexts seeds marks s first inside a h) e (inside a b e)) [ inl m ↦ m | inr t ↦ absurd (none_in b t) ]

-- a marked node is below the bound
pub marked_within : (marks : List Bool) (k : ℕ) → Marked marks k → k < length marks
marked_within [] k h = absurd (grind (arith, h))
marked_within (m ∷ marks) zero h = omega arith
marked_within (m ∷ marks) (suc k) h = omega (arith, marked_within marks k h)

-- a node that stood in the list is dropped, since it is marked or beyond the end
pub dropped : (nexts : ℕ → List ℕ) (seeds : List ℕ) (marks : List Bool) (todo rest : List ℕ) (k : ℕ) → todo ≡ rest ++ k ∷ [] → (k < length marks → Marked marks k) →
    Sweep nexts seeds marks todo → Sweep nexts seeds marks rest
dropped nexts seeds marks todo rest k is done s = record {
  sound = s.sound;
  held = λ b h. s.held b (subst (λ (l : List ℕ). Contains l b) (sym is) (Contains-append_left rest (k ∷ []) b h));
  begun = λ b within h. still b within (s.begun b within h);
  closed = λ a b m e within. still b within (s.closed a b m e within);
} where
  still : (b : ℕ) → b < length marks → Marked marks b ⊎ Contains todo b → Marked marks b ⊎ Contains rest b
  still b within (inl m) = inl m
  still b within (inr t) = elim (last_or rest k b (subst (λ (l : List ℕ). Contains l b) is t)) [
    | inl r ↦ inr r
    | inr e ↦ inl (subst (Marked marks) (sym e) (done (omega (arith, within, e))))
  ]

-- marks stay, and what is marked anew is the node
pub set_cases : (marks : List Bool) (k b : ℕ) → Marked (set marks k true) b → Marked marks b ⊎ (b ≡ k)
set_cases [] k b h = inl h
set_cases (m ∷ marks) zero zero h = inr refl
set_cases (m ∷ marks) zero (suc b) h = inl h
set_cases (m ∷ marks) (suc k) zero h = inl h
set_cases (m ∷ marks) (suc k) (suc b) h = elim (set_cases marks k b h) [ inl i ↦ inl i | inr e ↦ inr (ap suc e) ]

pub set_keeps : (marks : List Bool) (k b : ℕ) → Marked marks b → Marked (set marks k true) b
set_keeps [] k b h = h
set_keeps (m ∷ marks) zero zero h = refl
set_keeps (m ∷ marks) zero (suc b) h = h
set_keeps (m ∷ marks) (suc k) zero h = h
set_keeps (m ∷ marks) (suc k) (suc b) h = set_keeps marks k b h

pub set_marks : (marks : List Bool) (k : ℕ) → k < length marks → Marked (set marks k true) k
set_marks marks k h = get_or-set_same marks k true false h

-- a node that wasn't marked is marked, and its successors stand in the list
pub visited : (nexts : ℕ → List ℕ) (seeds : List ℕ) (marks : List Bool) (todo rest : List ℕ) (k : ℕ) → todo ≡ rest ++ k ∷ [] → k < length marks →
    Sweep nexts seeds marks todo → Sweep nexts seeds (set marks k true) (rest ++ nexts k)
visited nexts seeds marks todo rest k is inside s = record {
  sound = λ b m. elim (set_cases marks k b m) [ inl o ↦ s.sound b o | inr e ↦ subst (Reached nexts seeds) (sym e) here ];
  held = λ b h. elim (Contains-append_cases rest (nexts k) b h) [
    | inl r ↦ s.held b (subst (λ (l : List ℕ). Contains l b) (sym is) (Contains-append_left rest (k ∷ []) b r))
    | inr n ↦ goes_on k b here n
  ];
  begun = λ b within h. still b (s.begun b (subst (λ (n : ℕ). b < n) (length-set marks k true) within) h);
  closed = λ a b m e within. elim (set_cases marks k a m) [
    | inl o ↦ still b (s.closed a b o e (subst (λ (n : ℕ). b < n) (length-set marks k true) within))
    | inr same ↦ inr (Contains-append_right rest (nexts k) b (subst (λ (n : ℕ). Contains (nexts n) b) same e))
  ];
} where
  here : Reached nexts seeds k
  here = s.held k (subst (λ (l : List ℕ). Contains l k) (sym is) (last_in rest k))

  still : (b : ℕ) → Marked marks b ⊎ Contains todo b → Marked (set marks k true) b ⊎ Contains (rest ++ nexts k) b
  still b (inl m) = inl (set_keeps marks k b m)
  still b (inr t) = elim (last_or rest k b (subst (λ (l : List ℕ). Contains l b) is t)) [
    | inl r ↦ inr (Contains-append_left rest (nexts k) b r)
    | inr e ↦ inl (subst (Marked (set marks k true)) (sym e) (set_marks marks k inside))
  ]

-- nothing is marked at the beginning
pub at_first : (nexts : ℕ → List ℕ) (seeds todo : List ℕ) (marks : List Bool) (n : ℕ) → marks ≡ replicate n false → todo ≡ seeds → Sweep nexts seeds marks todo
at_first nexts seeds todo marks n is same = record {
  sound = λ k m. absurd (none k m);
  held = λ k h. begins k (subst (λ (l : List ℕ). Contains l k) same h);
  begun = λ k within h. inr (subst (λ (l : List ℕ). Contains l k) (sym same) h);
  closed = λ a b m e within. absurd (none a m);
} where
  none : (k : ℕ) → Marked marks k → ⊥
  none k m = unmarked n k (subst (λ (l : List Bool). Marked l k) is m) where
    unmarked : (n k : ℕ) → Marked (replicate n false) k → ⊥
    unmarked n k h = let w : k < n = subst (λ (l : ℕ). k < l) (length-replicate n false) (marked_within (replicate n false) k h) in
        grind (arith, h, get_or-replicate n k false false w)

-- at the end nothing is left
pub done : (nexts : ℕ → List ℕ) (seeds : List ℕ) (marks : List Bool) (todo : List ℕ) → length todo ≡ 0 → Sweep nexts seeds marks todo → Sweep nexts seeds marks []
done nexts seeds marks [] h s = s
done nexts seeds marks (k ∷ todo) h s = absurd (omega (arith, h))

pub owed_set : (nexts : ℕ → List ℕ) (i : ℕ) (marks : List Bool) (k : ℕ) → k < length marks → get_or marks k true ≡ false →
    owed nexts i (set marks k true) + (1 + length (nexts (i + k))) ≡ owed nexts i marks
owed_set nexts i [] k within un = absurd (omega (arith, within))
owed_set nexts i (false ∷ marks) zero within un = let e : length (nexts (i + 0)) ≡ length (nexts i) = ap (λ (n : ℕ). length (nexts n)) (omega arith) in omega (arith, e)
owed_set nexts i (true ∷ marks) zero within un = absurd (grind (arith, un))
owed_set nexts i (true ∷ marks) (suc k) within un =
    let e : length (nexts (i + suc k)) ≡ length (nexts (i + 1 + k)) = ap (λ (n : ℕ). length (nexts n)) (omega arith) in
    omega (arith, e, owed_set nexts (i + 1) marks k (omega (arith, within)) un)
owed_set nexts i (false ∷ marks) (suc k) within un =
    let e : length (nexts (i + suc k)) ≡ length (nexts (i + 1 + k)) = ap (λ (n : ℕ). length (nexts n)) (omega arith) in
    omega (arith, e, owed_set nexts (i + 1) marks k (omega (arith, within)) un)

pub owes_less : (nexts : ℕ → List ℕ) (marks marks' : List Bool) (todo todo' rest : List ℕ) (k : ℕ) → todo ≡ rest ++ k ∷ [] → todo' ≡ rest ++ nexts k →
    k < length marks → get_or marks k true ≡ false → marks' ≡ set marks k true → length todo' + owed nexts 0 marks' < length todo + owed nexts 0 marks
owes_less nexts marks marks' todo todo' rest k is is' within un same =
    let a : length todo ≡ length rest + 1 = ap length is ∙ length-append rest (k ∷ []) in
    let b : length todo' ≡ length rest + length (nexts k) = ap length is' ∙ length-append rest (nexts k) in
    let c : owed nexts 0 marks' ≡ owed nexts 0 (set marks k true) = ap (owed nexts 0) same in
    let d : owed nexts 0 (set marks k true) + (1 + length (nexts k)) ≡ owed nexts 0 marks =
    subst (λ (n : ℕ). owed nexts 0 (set marks k true) + (1 + length (nexts n)) ≡ owed nexts 0 marks) (omega arith) (owed_set nexts 0 marks k within un) in
    omega (arith, a, b, c, d)
