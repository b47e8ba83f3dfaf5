-- Marks, and the nodes that have them.
use Rattle.std.proofs.Common.{◌≡◌, ℕ, zero, suc, ◌+◌, ◌<◌, ◌≤◌, ◌↔◌, inl, inr, Bool, true, false, IsTrue, List, [], ◌∷◌, ◌++◌, length, get_or, set, sym, ◌∙◌, subst, arith}
use Rattle.std.specs.List.{Contains}
use Rattle.std.proofs.lemmas.List.Elements.{Contains-append_left, Contains-append_right, Contains-append_cases}
use Rattle.vs_graph.specs.Reached.{begins}
use Rattle.vs_graph.proofs.Sweep.{Marked, Sweep, set_cases, set_keeps, none_in, set_marks}
use Rattle.vs_graph.proofs.Sets.{same_read}
use Rattle.vs_graph.proofs.RowLemmas.{below_or}
use Rattle.vs_graph.specs.Clear.{AreClear}

-- ---- marks that are taken away

-- of the first nodes of a list the marks are gone
abbrev pub AreGone : List Bool → List ℕ → ℕ → Type 0
AreGone marks nodes i = (j : ℕ) → j < i → IsTrue (get_or marks (get_or nodes j 0) false) → ⊥

pub one_gone : (old new : List Bool) (nodes : List ℕ) (i : ℕ) → ((k : ℕ) → IsTrue (get_or new k false) → IsTrue (get_or old k false)) →
    (IsTrue (get_or new (get_or nodes i 0) false) → ⊥) → AreGone old nodes i → AreGone new nodes (i + 1)
one_gone old new nodes i kept gone before j h m =
    elim (below_or j i h) [ inl l ↦ before j l (kept (get_or nodes j 0) m) | inr e ↦ gone (subst (λ (n : ℕ). IsTrue (get_or new (get_or nodes n 0) false)) e m) ]

pub all_gone : (marks : List Bool) (nodes : List ℕ) (i : ℕ) → length nodes ≤ i → AreGone marks nodes i → (k : ℕ) → Contains nodes k → IsTrue (get_or marks k false) → ⊥
all_gone marks nodes i past gone k c m =
    gone c.0 (omega (arith, past, c.1)) (subst (λ (n : ℕ). IsTrue (get_or marks n false)) (sym (same_read nodes c.0 0 k c.1 ∙ c.2)) m)

-- ---- a search

-- nothing is marked at the beginning
pub at_first : (nexts : ℕ → List ℕ) (seeds todo : List ℕ) (marks : List Bool) (n : ℕ) → AreClear n marks → todo ≡ seeds → Sweep nexts seeds marks todo
at_first nexts seeds todo marks n clear same = record {
  sound = λ k m. absurd (clear.1 k m);
  held = λ k h. begins k (subst (λ (l : List ℕ). Contains l k) same h);
  begun = λ k within h. inr (subst (λ (l : List ℕ). Contains l k) (sym same) h);
  closed = λ a b m e within. absurd (clear.1 a m);
}

-- what is found is what is marked
abbrev pub AreFound : List Bool → List ℕ → Type 0
AreFound marks found = (k : ℕ) → (Marked marks k ↔ Contains found k)

pub none_found : (n : ℕ) (marks : List Bool) (found : List ℕ) → AreClear n marks → found ≡ [] → AreFound marks found
none_found n marks found clear empty k = (
  λ m. absurd (clear.1 k m),
  λ c. absurd (none_in k (subst (λ (l : List ℕ). Contains l k) empty c)),
)

only : (i x : ℕ) → Contains (i ∷ []) x → x ≡ i
only i x (zero, l, e) = sym e
only i x (suc n, l, e) = absurd (omega (arith, l))

-- one more is
pub one_found : (marks new : List Bool) (found more : List ℕ) (node : ℕ) → node < length marks → new ≡ set marks node true → more ≡ found ++ node ∷ [] →
    AreFound marks found → AreFound new more
one_found marks new found more node within marked made before k = (
  λ m. subst (λ (l : List ℕ). Contains l k) (sym made) (elim (set_cases marks node k (subst (λ (l : List Bool). Marked l k) marked m)) [
    | inl o ↦ Contains-append_left found (node ∷ []) k ((before k).0 o)
    | inr e ↦ Contains-append_right found (node ∷ []) k (0, omega arith, sym e)
  ]),
  λ c. subst (λ (l : List Bool). Marked l k) (sym marked)
      (elim (Contains-append_cases found (node ∷ []) k (subst (λ (l : List ℕ). Contains l k) made c)) [
        | inl o ↦ set_keeps marks node k ((before k).1 o)
        | inr e ↦ subst (Marked (set marks node true)) (sym (only node k e)) (set_marks marks node within)
      ]),
)

-- none is, as before
pub same_found : (marks new : List Bool) (found : List ℕ) → new ≡ marks → AreFound marks found → AreFound new found
same_found marks new found same before = subst (λ (l : List Bool). AreFound l found) (sym same) before

-- marks of what was found are gone: none is left
pub clear_again : (n : ℕ) (marks new : List Bool) (found : List ℕ) → length marks ≡ n → AreFound marks found → length new ≡ length marks →
    ((k : ℕ) → IsTrue (get_or new k false) → IsTrue (get_or marks k false)) → ((k : ℕ) → Contains found k → IsTrue (get_or new k false) → ⊥) → AreClear n new
clear_again n marks new found long those same kept gone = (same ∙ long, λ k m. gone k ((those k).0 (kept k m)) m)
