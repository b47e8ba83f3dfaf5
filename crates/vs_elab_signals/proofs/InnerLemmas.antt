-- Names of genvars and of inner scopes, each once.
use Rattle.std.proofs.Common.{◌≡◌, ℕ, ◌||◌, Bool, true, false, cond, List, [], ◌∷◌, ◌++◌, Some, is_some, map, reverse, refl, ap, sym, ◌∙◌}
use Rattle.std.specs.List.{list_any}
use Rattle.std.specs.Str.{bytes_eq}
use Rattle.std.proofs.lemmas.List.{map-append, reverse-append}
use Rattle.std.proofs.lemmas.Slice.Eq.{bytes_eq-Decides}
use Rattle.vs_elab_signals.specs.vs_widths.specs.Names.{meaning_of, Binds}
use Rattle.vs_scopes.specs.Declarations.{each_once}
use Rattle.vs_elab_signals.specs.signal_passes.Naming.{KeepsOnce}
use Rattle.vs_elab_signals.proofs.BindLemmas.{bytes_eq_equiv}

pub map_reverse : {A B : Type 0} (f : A → B) (xs : List A) → map f (reverse xs) ≡ reverse (map f xs)
map_reverse f [] = refl
map_reverse f (x ∷ xs) = ap (map f) (reverse-append (x ∷ []) xs) ∙ map-append f (reverse xs) (x ∷ []) ∙ ap (λ z. z ++ f x ∷ []) (map_reverse f xs) ∙ sym (reverse-append (f x ∷ []) (map f xs))

-- a name that is there already
pub keeps_old : (n : List ℕ) (ns : List (List ℕ)) (there : List (List ℕ × Bool)) (kept : List (List ℕ)) → is_some (meaning_of there n) ≡ true → KeepsOnce ns there kept → KeepsOnce (n ∷ ns) there kept
keeps_old n ns there kept h k =
    let among : list_any (bytes_eq n) ns ≡ true = sym (k.names_there n) ∙ h in
    record {
      names_there = λ m. k.names_there m ∙ same m (bytes_eq m n) refl among;
      once = k.once ∙ ap (λ t. cond t (each_once ns) (n ∷ each_once ns)) (sym among);
    }
  where
    same : (m : List ℕ) (t : Bool) → bytes_eq m n ≡ t → list_any (bytes_eq n) ns ≡ true → list_any (bytes_eq m) ns ≡ (t || list_any (bytes_eq m) ns)
    same m true e a = ap (λ z. list_any (bytes_eq z) ns) ((bytes_eq-Decides m n).0 e) ∙ a
    same m false e a = refl

-- a fresh name
pub keeps_fresh : (n : List ℕ) (ns : List (List ℕ)) (there new : List (List ℕ × Bool)) (kept all : List (List ℕ)) → is_some (meaning_of there n) ≡ false → Binds there new n true → all ≡ kept ++ n ∷ [] → KeepsOnce ns there kept → KeepsOnce (n ∷ ns) new all
keeps_fresh n ns there new kept all h b e k =
    let among : list_any (bytes_eq n) ns ≡ false = sym (k.names_there n) ∙ h in
    record {
      names_there = λ m. ap is_some (b m) ∙ by m (bytes_eq n m) refl;
      once = ap reverse e ∙ reverse-append kept (n ∷ []) ∙ ap (λ z. n ∷ z) k.once ∙ ap (λ t. cond t (each_once ns) (n ∷ each_once ns)) (sym among);
    }
  where
    by : (m : List ℕ) (t : Bool) → bytes_eq n m ≡ t → is_some (cond t (Some true) (meaning_of there m)) ≡ (bytes_eq m n || list_any (bytes_eq m) ns)
    by m true q = sym (ap (λ t. t || list_any (bytes_eq m) ns) (bytes_eq_equiv.symm m n ∙ q))
    by m false q = k.names_there m ∙ sym (ap (λ t. t || list_any (bytes_eq m) ns) (bytes_eq_equiv.symm m n ∙ q))
