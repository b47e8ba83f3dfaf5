-- Maps from names, and names by their numbers.
use Rattle.std.proofs.Common.{ℕ, ◌≡◌, ◌+◌, Bool, true, false, cond, List, [], ◌∷◌, ◌++◌, length, Option, Some, None, refl, ap, sym, ◌∙◌, is_some, arith}
use Rattle.std.specs.Prelude.{option_map}
use Rattle.std.specs.BTreeMap.{insert_entry}
use Rattle.std.specs.Cmp.Lexicographic.{slice_cmp}
use Rattle.std.specs.Map.{lookup}
use Rattle.std.specs.Ordering.{is_eq, nat_cmp, match_ordering}
use Rattle.std.specs.declared.cmp.Ordering.{Ordering}
use Rattle.std.specs.declared.cmp.Ordering.TheVariants.{Less, Equal, Greater}
use Rattle.std.specs.Str.{bytes_eq}
use Rattle.std.proofs.lemmas.Map.Lookups.{exact_bytes}
use Rattle.std.proofs.lemmas.Map.Text.{is_eq-slice_cmp}
use Rattle.std.proofs.lemmas.Slice.Eq.{bytes_eq-Decides}
use Rattle.std.proofs.lemmas.Bool.{false≢true}
use Rattle.vs_prep_macros.specs.Formals.{number_of}

-- bytes that are equal are the same, and are equal the other way round
equal_same : (n m : List ℕ) → bytes_eq n m ≡ true → n ≡ m
equal_same n m e = (bytes_eq-Decides n m).0 e

equal_self : (n : List ℕ) → bytes_eq n n ≡ true
equal_self n = (bytes_eq-Decides n n).1 refl

twice : {A : Type 0} (b : Bool) (x y z : A) → cond b x z ≡ cond b x (cond b y z)
twice true x y z = refl
twice false x y z = refl

-- of two tests that don't both hold either may be asked first
apart : {A : Type 0} (b c : Bool) (x y z : A) → (c ≡ true → b ≡ false) → cond b x (cond c y z) ≡ cond c y (cond b x z)
apart true true x y z h = absurd (false≢true (sym (h refl)))
apart true false x y z h = refl
apart false true x y z h = refl
apart false false x y z h = refl

module _ {K X : Type 0} (items : K → List ℕ) where
  -- what a map has at a name
  abbrev pub at_name : List ℕ → List (K × X) → Option X
  at_name n es = lookup (λ k. is_eq (slice_cmp nat_cmp n (items k))) es

  -- a map with an entry more has it at its name, and at the others what it had
  pub at_name_inserted : (n : List ℕ) (es : List (K × X)) (k : K) (v : X) → at_name n (insert_entry (λ x y. slice_cmp nat_cmp (items x) (items y)) es k v) ≡ cond (bytes_eq n (items k)) (Some v) (at_name n es)
  at_name_inserted n [] k v = ap (λ b. cond b (Some v) None) (is_eq-slice_cmp n (items k))
  at_name_inserted n (e ∷ es) k v = by (slice_cmp nat_cmp (items k) (items e.0)) refl (at_name_inserted n es k v)
    where
      cmp : K → K → Ordering
      cmp = λ x y. slice_cmp nat_cmp (items x) (items y)

      by : (r : Ordering) → slice_cmp nat_cmp (items k) (items e.0) ≡ r
          → at_name n (insert_entry (λ x y. slice_cmp nat_cmp (items x) (items y)) es k v) ≡ cond (bytes_eq n (items k)) (Some v) (at_name n es)
          → at_name n (match_ordering r ((k, v) ∷ e ∷ es) ((e.0, v) ∷ es) (e ∷ insert_entry (λ x y. slice_cmp nat_cmp (items x) (items y)) es k v)) ≡ cond (bytes_eq n (items k)) (Some v) (at_name n (e ∷ es))
      by Less h later = ap (λ b. cond b (Some v) (at_name n (e ∷ es))) (is_eq-slice_cmp n (items k))
      by Equal h later =
          let same : items k ≡ items e.0 = exact_bytes (items k) (items e.0) h in
          let tests : is_eq (slice_cmp nat_cmp n (items e.0)) ≡ bytes_eq n (items k) = is_eq-slice_cmp n (items e.0) ∙ ap (bytes_eq n) (sym same) in
          ap (λ b. cond b (Some v) (at_name n es)) tests ∙ twice (bytes_eq n (items k)) (Some v) (Some e.1) (at_name n es)
          ∙ ap (λ b. cond (bytes_eq n (items k)) (Some v) (cond b (Some e.1) (at_name n es))) (sym tests)
      by Greater h later =
          let other : bytes_eq (items k) (items e.0) ≡ false = sym (is_eq-slice_cmp (items k) (items e.0)) ∙ ap is_eq h in
          let not_both : bytes_eq n (items k) ≡ true → is_eq (slice_cmp nat_cmp n (items e.0)) ≡ false =
          λ t. is_eq-slice_cmp n (items e.0) ∙ ap (λ m. bytes_eq m (items e.0)) (equal_same n (items k) t) ∙ other in
          ap (λ o. cond (is_eq (slice_cmp nat_cmp n (items e.0))) (Some e.1) o) later
          ∙ apart (is_eq (slice_cmp nat_cmp n (items e.0))) (bytes_eq n (items k)) (Some e.1) (Some v) (at_name n es) not_both

map_cond : (b : Bool) (x : ℕ) (o : Option ℕ) → option_map (λ i. i + 1) (cond b (Some x) o) ≡ cond b (Some (x + 1)) (option_map (λ i. i + 1) o)
map_cond true x o = refl
map_cond false x o = refl

not_mapped : (o : Option ℕ) → is_some (option_map (λ i. i + 1) o) ≡ false → is_some o ≡ false
not_mapped None h = refl
not_mapped (Some i) h = absurd (false≢true (sym h))

first_differs : (b : Bool) (o : Option ℕ) → is_some (cond b (Some 0) o) ≡ false → b ≡ false
first_differs true o h = absurd (false≢true (sym h))
first_differs false o h = refl

then_others : (b : Bool) (o : Option ℕ) → is_some (cond b (Some 0) o) ≡ false → is_some o ≡ false
then_others true o h = absurd (false≢true (sym h))
then_others false o h = h

-- a name that is put behind others has the next number
pub number_of_pushed : (names : List (List ℕ)) (k n : List ℕ) → is_some (number_of names k) ≡ false → number_of (names ++ k ∷ []) n ≡ cond (bytes_eq n k) (Some (length names)) (number_of names n)
number_of_pushed [] k n h = refl
number_of_pushed (m ∷ ms) k n h =
    let other : bytes_eq k m ≡ false = first_differs (bytes_eq k m) (option_map (λ i. i + 1) (number_of ms k)) h in
    let later : is_some (number_of ms k) ≡ false = not_mapped (number_of ms k) (then_others (bytes_eq k m) (option_map (λ i. i + 1) (number_of ms k)) h) in
    let not_both : bytes_eq n k ≡ true → bytes_eq n m ≡ false = λ t. ap (λ x. bytes_eq x m) (equal_same n k t) ∙ other in
    let more : length ms + 1 ≡ length (m ∷ ms) = omega arith in
    ap (λ o. cond (bytes_eq n m) (Some 0) (option_map (λ i. i + 1) o)) (number_of_pushed ms k n later)
    ∙ ap (λ o. cond (bytes_eq n m) (Some 0) o) (map_cond (bytes_eq n k) (length ms) (number_of ms n))
    ∙ apart (bytes_eq n m) (bytes_eq n k) (Some 0) (Some (length ms + 1)) (option_map (λ i. i + 1) (number_of ms n)) not_both
    ∙ ap (λ x. cond (bytes_eq n k) (Some x) (cond (bytes_eq n m) (Some 0) (option_map (λ i. i + 1) (number_of ms n)))) more
