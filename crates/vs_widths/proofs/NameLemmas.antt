-- The map of names, seen by the names' bytes.
use Rattle.std.proofs.Common.{◌≡◌, ℕ, ◌+◌, ◌<◌, Bool, true, false, cond, List, [], ◌∷◌, ◌++◌, length, drop, get_or, Option, Some, None, refl, ap, sym, subst, ◌∙◌, is_some, IsSome, true≢false}
use Rattle.std.proofs.lemmas.List.{at_drop_more}
use Rattle.std.specs.Map.{lookup}
use Rattle.std.specs.Str.{bytes_eq}
use Rattle.std.specs.Borrow.{Bor}
use Rattle.std.specs.BTreeMap.{BTreeMap, get_by, UpdatesBy}
use Rattle.std.specs.Ordering.{is_eq, nat_cmp}
use Rattle.std.specs.Cmp.Lexicographic.{slice_cmp}
use Rattle.std.proofs.lemmas.Map.Text.{is_eq-slice_cmp, btree_map_updates_str}
use Rattle.vs_widths.specs.Names.{by_bytes, meaning_of, nested_names, Binds, Declares}

none_from_false : {A : Type 0} (o : Option A) → false ≡ is_some o → o ≡ None
none_from_false None h = refl
none_from_false (Some x) h = absurd (true≢false (sym h))

module _ {V : Type 0} where
  -- a look-up by bytes
  lookup_by_bytes : (n : List ℕ) (es : List (Bor (List ℕ) × V)) → lookup (λ k. is_eq (slice_cmp nat_cmp n k.now)) es ≡ meaning_of (by_bytes es) n
  lookup_by_bytes n [] = refl
  lookup_by_bytes n (e ∷ es) =
      ap (λ b. cond b (Some e.1) (lookup (λ k. is_eq (slice_cmp nat_cmp n k.now)) es)) (is_eq-slice_cmp n e.0.now) ∙ ap (cond (bytes_eq n e.0.now) (Some e.1)) (lookup_by_bytes n es)

  pub found_by_bytes : (n : List ℕ) (m : BTreeMap (Bor (List ℕ)) V) → get_by (λ k. slice_cmp nat_cmp n k.now) m ≡ meaning_of (by_bytes m.entries) n
  found_by_bytes n m = lookup_by_bytes n m.entries

  -- a name with a new meaning
  pub binds : (m new : BTreeMap (Bor (List ℕ)) V) (env : List (List ℕ × V)) (n : List ℕ) (v : V) → by_bytes m.entries ≡ env →
      UpdatesBy (λ x y. slice_cmp nat_cmp x.now y.now) (λ k. slice_cmp nat_cmp n k.now) m new (Some v) → Binds env (by_bytes new.entries) n v
  binds m new env n v e h =
      let P : List (List ℕ × V) → Type 0 = λ z. Binds z (by_bytes new.entries) n v in
      subst P e (λ k. sym (found_by_bytes k new) ∙ btree_map_updates_str n m new (Some v) h k ∙ ap (λ o. cond (bytes_eq n k) (Some v) o) (found_by_bytes k m))

  -- a fresh name
  pub declares_fresh : (m new : BTreeMap (Bor (List ℕ)) V) (env : List (List ℕ × V)) (n : List ℕ) (v : V) → by_bytes m.entries ≡ env →
      UpdatesBy (λ x y. slice_cmp nat_cmp x.now y.now) (λ k. slice_cmp nat_cmp n k.now) m new (Some v) →
      false ≡ is_some (get_by (λ k. slice_cmp nat_cmp n k.now) m) → Declares true env (by_bytes new.entries) n v
  declares_fresh m new env n v e h absent =
      (subst (λ z. meaning_of z n ≡ None) e (sym (found_by_bytes n m) ∙ none_from_false _ absent), binds m new env n v e h)

  pub declares_known : (m : BTreeMap (Bor (List ℕ)) V) (env : List (List ℕ × V)) (n : List ℕ) (v : V) → by_bytes m.entries ≡ env →
      true ≡ is_some (get_by (λ k. slice_cmp nat_cmp n k.now) m) → IsSome (meaning_of env n)
  declares_known m env n v e h = subst (λ s. IsSome (meaning_of s n)) e (subst IsSome (found_by_bytes n m) (sym h))

  -- what is found
  pub finds : (m : BTreeMap (Bor (List ℕ)) V) (env : List (List ℕ × V)) (n : List ℕ) (o : Option V) → by_bytes m.entries ≡ env →
      o ≡ get_by (λ k. slice_cmp nat_cmp n k.now) m → o ≡ meaning_of env n
  finds m env n o e h = h ∙ found_by_bytes n m ∙ ap (λ s. meaning_of s n) e

-- ---- names of scopes in scopes

-- what is said here, or else there
abbrev pub or_else : {V : Type 0} → Option V → Option V → Option V
or_else None there = there
or_else (Some v) there = Some v

or_else_cond : {V : Type 0} (b : Bool) (v : V) (here there : Option V) → cond b (Some v) (or_else here there) ≡ or_else (cond b (Some v) here) there
or_else_cond true v here there = refl
or_else_cond false v here there = refl

module _ {V : Type 0} where
  -- a name is looked up in the first names, and then in the others
  pub meaning_of_append : (own outer : List (List ℕ × V)) (n : List ℕ) → meaning_of (own ++ outer) n ≡ or_else (meaning_of own n) (meaning_of outer n)
  meaning_of_append [] outer n = refl
  meaning_of_append (e ∷ es) outer n =
      ap (cond (bytes_eq n e.0) (Some e.1)) (meaning_of_append es outer n) ∙ or_else_cond (bytes_eq n e.0) e.1 (meaning_of es n) (meaning_of outer n)

  pub found_own : (own outer : List (List ℕ × V)) (n : List ℕ) (o : Option V) (v : V) → o ≡ meaning_of own n → o ≡ Some v → Some v ≡ meaning_of (own ++ outer) n
  found_own own outer n o v found is = sym (meaning_of_append own outer n ∙ ap (λ x. or_else x (meaning_of outer n)) (sym found ∙ is))

  pub found_outward : (own outer : List (List ℕ × V)) (n : List ℕ) (o : Option V) → o ≡ meaning_of own n → o ≡ None → meaning_of (own ++ outer) n ≡ meaning_of outer n
  found_outward own outer n o found is = meaning_of_append own outer n ∙ ap (λ x. or_else x (meaning_of outer n)) (sym found ∙ is)

  -- the scopes from one on, where that is next
  pub next_scope : (scopes : List (Bor (List (List ℕ × V)))) (i : ℕ) (scope : Bor (List (List ℕ × V))) (n : List ℕ) → i < length scopes →
      scope ≡ get_or scopes i scope → meaning_of (nested_names (drop i scopes)) n ≡ meaning_of (scope.now ++ nested_names (drop (i + 1) scopes)) n
  next_scope scopes i scope n below is =
      at_drop_more (λ s. meaning_of (nested_names s) n) scopes i scope below ∙ ap (λ (s : Bor (List (List ℕ × V))). meaning_of (s.now ++ nested_names (drop (i + 1) scopes)) n) (sym is)
