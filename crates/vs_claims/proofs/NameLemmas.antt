-- Names of lists, and subjects by their numbers.
use Rattle.std.proofs.Common.{◌≡◌, ℕ, zero, suc, ◌+◌, ◌⊎◌, ◌↔◌, inl, inr, true, false, Option, Some, None, is_some, List, [], ◌∷◌, ◌++◌, map, append_assoc, add-one, refl, sym, ◌∙◌, ap, arith}
use Rattle.std.proofs.lemmas.List.{map-append}
use Rattle.vs_claims.specs.vs_rules.specs.Claims.{Name, Claims, all_names, edge_names, process_names, signal_names}
use Rattle.vs_claims.specs.vs_rules.specs.Verdict.{Subject, numbers}
use Rattle.vs_claims.specs.declared.subjects.Subject as kept
use Rattle.vs_claims.specs.Subjects.{subject_view}

-- ---- the names of all lists

pub all_are : (x : Claims) (none some more most all : List Name) → none ≡ [] → some ≡ none ++ edge_names x → more ≡ some ++ x.order →
    most ≡ more ++ process_names x → all ≡ most ++ signal_names x → all ≡ all_names x
all_are x none some more most all a b d f g =
    g ∙ ap (λ (ns : List Name). ns ++ signal_names x)
    (f ∙ ap (λ (ns : List Name). ns ++ process_names x)
    (d ∙ ap (λ (ns : List Name). ns ++ x.order) (b ∙ ap (λ (ns : List Name). ns ++ edge_names x) a)))

-- ---- numbers

numbers_snoc : (a n : ℕ) → numbers a (suc n) ≡ numbers a n ++ (a + n) ∷ []
numbers_snoc a zero = ap (λ (k : ℕ). k ∷ []) (omega arith)
numbers_snoc a (suc n) = ap (λ (ns : List ℕ). a ∷ ns) (numbers_snoc (suc a) n ∙ ap (λ (k : ℕ). numbers (suc a) n ++ k ∷ []) (omega arith))

numbers_more : (n : ℕ) → numbers 0 (n + 1) ≡ numbers 0 n ++ n ∷ []
numbers_more n = ap (numbers 0) (add-one n) ∙ numbers_snoc 0 n ∙ ap (λ (k : ℕ). numbers 0 n ++ k ∷ []) (omega arith)

-- subjects of one number more
pub pushed : (f : ℕ → Subject) (old now new : List kept.Subject) (x : kept.Subject) (i : ℕ) →
    map subject_view now ≡ map subject_view old ++ map f (numbers 0 i) → new ≡ now ++ x ∷ [] → subject_view x ≡ f i →
    map subject_view new ≡ map subject_view old ++ map f (numbers 0 (i + 1))
pushed f old now new x i so_far put is =
    let at_end : map f (numbers 0 i) ++ subject_view x ∷ [] ≡ map f (numbers 0 (i + 1)) =
    ap (λ (s : Subject). map f (numbers 0 i) ++ s ∷ []) is ∙ sym (map-append f (numbers 0 i) (i ∷ [])) ∙ ap (map f) (sym (numbers_more i)) in
    ap (map subject_view) put ∙ map-append subject_view now (x ∷ []) ∙ ap (λ (l : List Subject). l ++ subject_view x ∷ []) so_far
    ∙ append_assoc (map subject_view old) (map f (numbers 0 i)) (subject_view x ∷ []) ∙ ap (λ (l : List Subject). map subject_view old ++ l) at_end

-- ---- names that the design has

pub some_named : (P : ℕ → Type 0) (o : Option ℕ) → ((v : ℕ) → (P v ↔ o ≡ Some v)) → is_some o ≡ true → (v : ℕ) × P v
some_named P None h is = absurd (cc)
some_named P (Some v) h is = (v, (h v).1 refl)

pub none_named : (P : ℕ → Type 0) (o : Option ℕ) → ((v : ℕ) → (P v ↔ o ≡ Some v)) → is_some o ≡ false → (v : ℕ) × P v → ⊥
none_named P None h is x = let e = (h x.0).0 x.1 in cc
none_named P (Some v) h is x = cc

some_is : (o : Option ℕ) (v : ℕ) → o ≡ Some v → is_some o ≡ true
some_is o v e = ap is_some e

pub last_named : (A B : Type 0) (P : ℕ → Type 0) (o : Option ℕ) → ((v : ℕ) → (P v ↔ o ≡ Some v)) → (A → ⊥) → (B → ⊥) →
    (is_some o ≡ true ↔ (A ⊎ (B ⊎ ((v : ℕ) × P v))))
last_named A B P o h no_a no_b = (λ e. inr (inr (some_named P o h e)), back) where
  back : A ⊎ (B ⊎ ((v : ℕ) × P v)) → is_some o ≡ true
  back (inl a) = absurd (no_a a)
  back (inr (inl b)) = absurd (no_b b)
  back (inr (inr x)) = some_is o x.0 ((h x.0).0 x.1)
