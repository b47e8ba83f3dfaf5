-- What a search of a graph keeps that marks a node when it is met.
use Rattle.std.proofs.Common.{◌≡◌, ℕ, zero, suc, ◌+◌, ◌<◌, ◌≤◌, ◌⊎◌, inl, inr, Bool, true, false, List, [], ◌∷◌, ◌++◌, length, get_or, set, take, replicate, refl, sym, ◌∙◌, ap, subst, arith, length-append}
use Rattle.std.specs.List.{Contains}
use Rattle.std.proofs.lemmas.List.{get_or-replicate, length-replicate, length-set, take_all, take_more}
use Rattle.std.proofs.lemmas.List.Elements.{Contains-append_left, Contains-append_right, Contains-append_cases}
use Rattle.vs_graph.specs.Reached.{Reached, begins, goes_on, AreMarkedNow, IsMarkedNow, WasMarked, unmarked}
use Rattle.vs_graph.proofs.Sweep.{Marked, last_in, last_or, marked_within, none_in, owed_set, set_cases, set_keeps, set_marks}

-- ---- nodes are marked one after another

-- none is
pub none_marked : (marks : List Bool) (todo : List ℕ) → AreMarkedNow [] marks todo marks todo
none_marked marks todo = record {
  long = refl;
  kept = λ k m. m;
  marked = λ k h l. absurd (none_in k h);
  only = λ k m. inl m;
  stay = λ k h. h;
  come = λ k h. inl h;
  fresh = λ k m. inl m;
  as_many = refl;
}

-- one more, which wasn't marked
pub one_marked : (xs : List ℕ) (old new more : List Bool) (before after further : List ℕ) (k : ℕ) → IsMarkedNow k new more → further ≡ after ++ k ∷ [] →
    AreMarkedNow xs old before new after → AreMarkedNow (xs ++ k ∷ []) old before more further
one_marked xs old new more before after further k now made h = subst (λ (t : List ℕ). AreMarkedNow (xs ++ k ∷ []) old before more t) (sym made)
    (subst (λ (m : List Bool). AreMarkedNow (xs ++ k ∷ []) old before m (after ++ k ∷ [])) (sym now.2) marked_so)
  where
    within : k < length old
    within = omega (arith, now.0, h.long)

    marked_so : AreMarkedNow (xs ++ k ∷ []) old before (set new k true) (after ++ k ∷ [])
    marked_so = record {
      long = length-set new k true ∙ h.long;
      kept = λ b m. set_keeps new k b (h.kept b m);
      marked = λ b c l. elim (last_or xs k b c) [
        | inl o ↦ set_keeps new k b (h.marked b o l)
        | inr e ↦ subst (Marked (set new k true)) (sym e) (set_marks new k now.0)
      ];
      only = λ b m. elim (set_cases new k b m) [
        | inl o ↦ elim (h.only b o) [ inl p ↦ inl p | inr c ↦ inr (Contains-append_left xs (k ∷ []) b c) ]
        | inr e ↦ inr (subst (Contains (xs ++ k ∷ [])) (sym e) (last_in xs k))
      ];
      stay = λ b c. Contains-append_left after (k ∷ []) b (h.stay b c);
      come = λ b c. elim (last_or after k b c) [
        | inl o ↦ elim (h.come b o) [ inl p ↦ inl p | inr y ↦ inr (Contains-append_left xs (k ∷ []) b y.0, y.1) ]
        | inr e ↦ inr (subst (Contains (xs ++ k ∷ [])) (sym e) (last_in xs k), omega (arith, within, e))
      ];
      fresh = λ b m. elim (set_cases new k b m) [
        | inl o ↦ elim (h.fresh b o) [ inl p ↦ inl p | inr c ↦ inr (Contains-append_left after (k ∷ []) b c) ]
        | inr e ↦ inr (subst (Contains (after ++ k ∷ [])) (sym e) (last_in after k))
      ];
      as_many =
          let a : length (after ++ k ∷ []) ≡ length after + 1 = length-append after (k ∷ []) in
          let b : unmarked (set new k true) + 1 ≡ unmarked new = owed_set (λ n. []) 0 new k now.0 now.1 in
          omega (arith, a, b, h.as_many);
    }

-- one more, which was
pub one_was_marked : (xs : List ℕ) (old new more : List Bool) (before after : List ℕ) (k : ℕ) → WasMarked k new more →
    AreMarkedNow xs old before new after → AreMarkedNow (xs ++ k ∷ []) old before more after
one_was_marked xs old new more before after k was h = subst (λ (m : List Bool). AreMarkedNow (xs ++ k ∷ []) old before m after) (sym was.0) (record {
  long = h.long;
  kept = h.kept;
  marked = λ b c l. elim (last_or xs k b c) [
    | inl o ↦ h.marked b o l
    | inr e ↦ subst (Marked new) (sym e) (was.1 (omega (arith, l, e, h.long)))
  ];
  only = λ b m. elim (h.only b m) [ inl p ↦ inl p | inr c ↦ inr (Contains-append_left xs (k ∷ []) b c) ];
  stay = h.stay;
  come = λ b c. elim (h.come b c) [ inl p ↦ inl p | inr y ↦ inr (Contains-append_left xs (k ∷ []) b y.0, y.1) ];
  fresh = h.fresh;
  as_many = h.as_many;
})

pub more_marked : (nodes : List ℕ) (i d : ℕ) (old new : List Bool) (before after : List ℕ) → i < length nodes → AreMarkedNow (take i nodes ++ get_or nodes i d ∷ []) old before new after →
    AreMarkedNow (take (i + 1) nodes) old before new after
more_marked nodes i d old new before after h m = subst (λ (xs : List ℕ). AreMarkedNow xs old before new after) (sym (take_more nodes i d h)) m

pub all_marked : (nodes : List ℕ) (i : ℕ) (old new : List Bool) (before after : List ℕ) → length nodes ≤ i → AreMarkedNow (take i nodes) old before new after →
    AreMarkedNow nodes old before new after
all_marked nodes i old new before after past m = subst (λ (xs : List ℕ). AreMarkedNow xs old before new after) (take_all i nodes past) m

-- ---- the search

-- all that is marked is reached, and what is marked and left behind has no successor that isn't marked
pub record Spread (nexts : ℕ → List ℕ) (seeds : List ℕ) (marks : List Bool) (todo : List ℕ) : Type 0 where
  pub sound : (k : ℕ) → Marked marks k → Reached nexts seeds k
  pub held : (k : ℕ) → Contains todo k → Marked marks k
  pub begun : (k : ℕ) → k < length marks → Contains seeds k → Marked marks k
  pub closed : (a b : ℕ) → Marked marks a → Contains (nexts a) b → b < length marks → Marked marks b ⊎ Contains todo a

-- nothing is marked at the beginning
pub clear_none : (n : ℕ) (marks : List Bool) → marks ≡ replicate n false → (k : ℕ) → Marked marks k → ⊥
clear_none n marks is k m = unmarked_all n k (subst (λ (l : List Bool). Marked l k) is m) where
  unmarked_all : (n k : ℕ) → Marked (replicate n false) k → ⊥
  unmarked_all n k h = let w : k < n = subst (λ (l : ℕ). k < l) (length-replicate n false) (marked_within (replicate n false) k h) in
      grind (arith, h, get_or-replicate n k false false w)

-- the seeds are marked
pub spread_first : (nexts : ℕ → List ℕ) (seeds todo : List ℕ) (clear marks : List Bool) → ((k : ℕ) → Marked clear k → ⊥) → AreMarkedNow seeds clear [] marks todo →
    Spread nexts seeds marks todo
spread_first nexts seeds todo clear marks none h = record {
  sound = λ k m. elim (h.only k m) [ inl o ↦ absurd (none k o) | inr c ↦ begins k c ];
  held = λ k c. elim (h.come k c) [ inl o ↦ absurd (none_in k o) | inr y ↦ h.marked k y.0 y.1 ];
  begun = λ k within c. h.marked k c (omega (arith, within, h.long));
  closed = λ a b m e within. elim (h.fresh a m) [ inl o ↦ absurd (none a o) | inr c ↦ inr c ];
}

-- the successors of a node are marked
pub spread_on : (nexts : ℕ → List ℕ) (seeds todo rest more : List ℕ) (marks new : List Bool) (k : ℕ) → todo ≡ rest ++ k ∷ [] → AreMarkedNow (nexts k) marks rest new more →
    Spread nexts seeds marks todo → Spread nexts seeds new more
spread_on nexts seeds todo rest more marks new k is h s = record {
  sound = λ b m. elim (h.only b m) [ inl o ↦ s.sound b o | inr c ↦ goes_on k b (s.sound k here) c ];
  held = λ b c. elim (h.come b c) [ inl o ↦ h.kept b (s.held b (in_todo b o)) | inr y ↦ h.marked b y.0 y.1 ];
  begun = λ b within c. h.kept b (s.begun b (omega (arith, within, h.long)) c);
  closed = λ a b m e within. elim (h.fresh a m) [
    | inl o ↦ elim (s.closed a b o e (omega (arith, within, h.long))) [
      | inl was ↦ inl (h.kept b was)
      | inr c ↦ elim (last_or rest k a (subst (λ (l : List ℕ). Contains l a) is c)) [
        | inl r ↦ inr (h.stay a r)
        | inr same ↦ inl (h.marked b (subst (λ (n : ℕ). Contains (nexts n) b) same e) (omega (arith, within, h.long)))
      ]
    ]
    | inr c ↦ inr c
  ];
} where
  in_todo : (b : ℕ) → Contains rest b → Contains todo b
  in_todo b c = subst (λ (l : List ℕ). Contains l b) (sym is) (Contains-append_left rest (k ∷ []) b c)

  here : Marked marks k
  here = s.held k (subst (λ (l : List ℕ). Contains l k) (sym is) (last_in rest k))

-- at the end nothing is left
pub spread_done : (nexts : ℕ → List ℕ) (seeds : List ℕ) (marks : List Bool) (todo : List ℕ) → length todo ≡ 0 → Spread nexts seeds marks todo → Spread nexts seeds marks []
spread_done nexts seeds marks [] h s = s
spread_done nexts seeds marks (k ∷ todo) h s = absurd (omega (arith, h))

-- and all that is reached is marked
pub spread_whole : (nexts : ℕ → List ℕ) (seeds : List ℕ) (marks : List Bool) → Spread nexts seeds marks [] → ((s : ℕ) → Contains seeds s → s < length marks) →
    ((a b : ℕ) → Contains (nexts a) b → b < length marks) → (k : ℕ) → Reached nexts seeds k → Marked marks k
spread_whole nexts seeds marks s first inside _ (begins a h) = s.begun a (first a h) h
spread_whole nexts seeds marks s first inside _ (goes_on a b h e) =
    elim (s.closed a b (spread_whole nexts seeds marks s first inside a h) e (inside a b e)) [ inl m ↦ m | inr t ↦ absurd (none_in a t) ]
