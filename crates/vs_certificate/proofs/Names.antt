-- The names of an object's members, and what is found under them.
use Rattle.std.proofs.Common.{nat_eq, ne_eqb, ◌≡◌, ℕ, zero, suc, ◌+◌, ◌<◌, ◌≤◌, Bool, true, false, ◌&&◌, not, List, [], ◌∷◌, length, get_or, drop, map, bytes_eq, Bor, Option, Some, Ordering, Less, Equal, Greater, nat_cmp, is_eq, true≢false, refl, ap, sym, subst, ◌∙◌, arith}
use Rattle.std.proofs.lemmas.Bool.{and_parts, not-false}
use Rattle.std.proofs.lemmas.List.{drop_more}
use Rattle.std.proofs.lemmas.Bool.Decides.{nat_tests}
use Rattle.std.proofs.lemmas.Cmp.{nat_list_cmp_total, tied_itself}
use Rattle.std.proofs.lemmas.Slice.Eq.{bytes_eq-Decides}
use Rattle.std.specs.Cmp.Lexicographic.{slice_cmp}
use Rattle.std.specs.Ordering.{match_ordering}
use Rattle.serde_json.specs.Data.{Data, null, boolean, number, string, array, object, Members, no_members, member}
use Rattle.serde_json.specs.Find.{get, get_member}
use Rattle.vs_certificate.specs.JsonValue.{members_with, object_with}
use Rattle.vs_certificate.specs.Shape.{are_names, has_names}

nat_eq-suc : (m n : ℕ) → nat_eq (suc m) (suc n) ≡ nat_eq m n
nat_eq-suc m n = grind (arith, nat_tests)

-- an object with no more members has the names where none is left
pub are_names-end : (names : List (Bor (List ℕ))) (k : ℕ) → k ≤ length names → nat_eq k (length names) ≡ are_names (map (λ n. n.now) (drop k names)) no_members
are_names-end [] zero h = refl
are_names-end [] (suc k) h = absurd (omega arith)
are_names-end (n ∷ ns) zero h = ne_eqb 0 (suc (length ns)) (λ e. absurd (omega arith))
are_names-end (n ∷ ns) (suc k) h = nat_eq-suc k (length ns) ∙ are_names-end ns k (omega arith)

module _ (names : List (Bor (List ℕ))) (k : ℕ) {key : List ℕ} {d : Data} {all ms : Members} (is : all ≡ member key d ms) where
  -- a member of the next name is passed over
  pub are_names-next : (default : Bor (List ℕ)) → k < length names → not (bytes_eq key (get_or names k default).now) ≡ false → are_names (map (λ n. n.now) (drop (k + 1) names)) ms ≡ are_names (map (λ n. n.now) (drop k names)) all
  are_names-next default within same = sym (rw (is, drop_more names k default within, not-false _ same) refl)

-- ---- an object is known by its names and what is found under each

abbrev Fields : Type 0
Fields = List (List ℕ × Data)

abbrev is_apart : List ℕ → Fields → Bool
is_apart name [] = true
is_apart name (f ∷ fs) = not (is_eq (slice_cmp nat_cmp f.0 name)) && is_apart name fs

-- no name stands there twice
abbrev pub are_apart : List (List ℕ × Data) → Bool
are_apart [] = true
are_apart (f ∷ fs) = is_apart f.0 fs && are_apart fs

-- each is found under its name
abbrev pub Found : List (List ℕ × Data) → Data → Type 0
Found [] d = Unit {0}
Found (f ∷ fs) d = (get f.0 d ≡ Some f.1) × Found fs d

passed_over : (o : Ordering) (a b : Option Data) → not (is_eq o) ≡ true → match_ordering o a b a ≡ a
passed_over Less a b e = refl
passed_over Equal a b e = absurd (true≢false (sym e))
passed_over Greater a b e = refl

Found-later : (fs : Fields) (name : List ℕ) (d : Data) (ms : Members) → is_apart name fs ≡ true → Found fs (object (member name d ms)) → Found fs (object ms)
Found-later [] name d ms apart found = tt
Found-later (f ∷ fs) name d ms apart found =
    let p = and_parts _ _ apart in
    (sym (passed_over (slice_cmp nat_cmp f.0 name) (get_member f.0 ms) (Some d) p.0) ∙ found.0, Found-later fs name d ms p.1 found.1)

the_same : {d e : Data} → Some d ≡ Some e → d ≡ e
the_same h = cc

found_first : (name : List ℕ) (d e : Data) (ms : Members) → get_member name (member name d ms) ≡ Some e → e ≡ d
found_first name d e ms found = the_same (sym found ∙ ap (λ o. match_ordering o (get_member name ms) (Some d) (get_member name ms)) (tied_itself nat_list_cmp_total name))

members_from : (fs : Fields) (ms : Members) → are_names (map (λ f. f.0) fs) ms ≡ true → are_apart fs ≡ true → Found fs (object ms) → members_with fs ≡ ms
members_from [] no_members named apart found = refl
members_from [] (member k d ms) named apart found = absurd (true≢false (sym named))
members_from (f ∷ fs) no_members named apart found = absurd (true≢false (sym named))
members_from (f ∷ fs) (member k d ms) named apart found =
    let p = and_parts _ _ named in
    let a = and_parts _ _ apart in
    let name : k ≡ f.0 = (bytes_eq-Decides k f.0).0 p.0 in
    let here = subst (λ (key : List ℕ). Found (f ∷ fs) (object (member key d ms))) name found in
    let value : f.1 ≡ d = found_first f.0 d f.1 ms here.0 in
    rw (name, sym value) (ap (member f.0 f.1) (members_from fs ms p.1 a.1 (Found-later fs f.0 d ms a.0 here.1)))

-- an object that has exactly these names, and under each name this value
pub object_from : (fs : List (List ℕ × Data)) (d : Data) → has_names (map (λ f. f.0) fs) d ≡ true → are_apart fs ≡ true → Found fs d → object_with fs ≡ d
object_from fs null named apart found = absurd (true≢false (sym named))
object_from fs (boolean b) named apart found = absurd (true≢false (sym named))
object_from fs (number n) named apart found = absurd (true≢false (sym named))
object_from fs (string s) named apart found = absurd (true≢false (sym named))
object_from fs (array ds) named apart found = absurd (true≢false (sym named))
object_from fs (object ms) named apart found = ap object (members_from fs ms named apart found)
