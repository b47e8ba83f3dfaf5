-- Lemmas on names in order.
use Rattle.std.proofs.Common.{◌≡◌, ◌∙◌, ℕ, ◌+◌, ◌<◌, ◌≤◌, ◌||◌, Bool, cond, true, false, List, [], ◌∷◌, ◌++◌, length, get_or, take, None, Some, is_some, refl, ap, sym, subst}
use Rattle.std.specs.Borrow.{Bor}
use Rattle.std.specs.List.{list_any}
use Rattle.std.specs.Str.{bytes_eq}
use Rattle.std.proofs.lemmas.List.{take_all, take_more, map-append}
use Rattle.std.proofs.lemmas.List.Folds.{list_any-append}
use Rattle.vs_widths.specs.Names.{Binds, meaning_of}
use Rattle.vs_scopes.specs.Reads.{read_names}
use Rattle.vs_scopes.proofs.ConnectionLemmas.{bytes_eq-sym}
use Rattle.vs_program_words.specs.targets_passes.Names.{AreIndexed}

-- a name more
pub more : (names : List (List ℕ)) (old new : List (List ℕ × Bool)) (n : List ℕ) → AreIndexed names old → Binds old new n true → AreIndexed (names ++ n ∷ []) new
more names old new n all binds k = ap is_some (binds k) ∙ go (bytes_eq n k) refl
  where
    go : (b : Bool) → bytes_eq n k ≡ b → is_some (cond b (Some true) (meaning_of old k)) ≡ list_any (bytes_eq k) (names ++ n ∷ [])
    go true e = sym (list_any-append (bytes_eq k) names (n ∷ []) ∙ ap (λ b. list_any (bytes_eq k) names || (b || false)) (bytes_eq-sym k n ∙ e) ∙ last (list_any (bytes_eq k) names))
      where
        last : (a : Bool) → (a || true) ≡ true
        last true = refl
        last false = refl
    go false e = all k ∙ sym (list_any-append (bytes_eq k) names (n ∷ []) ∙ ap (λ b. list_any (bytes_eq k) names || (b || false)) (bytes_eq-sym k n ∙ e) ∙ last (list_any (bytes_eq k) names))
      where
        last : (a : Bool) → (a || false) ≡ a
        last true = refl
        last false = refl

pub one_indexed : (names : List (Bor (List ℕ))) (i : ℕ) (n : Bor (List ℕ)) (old new : List (List ℕ × Bool)) → i < length names → n ≡ get_or names i n
    → AreIndexed (read_names (take i names)) old → Binds old new n.now true → AreIndexed (read_names (take (i + 1) names)) new
one_indexed names i n old new within here all binds =
    rw (take_more names i n within, ← here, map-append) (more (read_names (take i names)) old new n.now all binds)

pub all_indexed : (names : List (Bor (List ℕ))) (i : ℕ) (index : List (List ℕ × Bool)) → length names ≤ i → AreIndexed (read_names (take i names)) index
    → AreIndexed (read_names names) index
all_indexed names i index end all = subst (λ l. AreIndexed (read_names l) index) (take_all i names end) all

-- a name that has no meaning is none of them, and one that has a meaning is one of them
pub no_name : (names : List (List ℕ)) (index : List (List ℕ × Bool)) (n : List ℕ) → AreIndexed names index → meaning_of index n ≡ None → list_any (bytes_eq n) names ≡ false
no_name names index n all none = sym (all n) ∙ ap is_some none

pub some_name : (names : List (List ℕ)) (index : List (List ℕ × Bool)) (n : List ℕ) (b : Bool) → AreIndexed names index → meaning_of index n ≡ Some b → list_any (bytes_eq n) names ≡ true
some_name names index n b all some = sym (all n) ∙ ap is_some some
