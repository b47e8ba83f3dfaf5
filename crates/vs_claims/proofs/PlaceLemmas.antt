-- Places of names in lists.
use Rattle.std.proofs.Common.{◌≡◌, ℕ, zero, suc, ◌<◌, ◌↔◌, Bool, true, false, Option, Some, None, List, [], ◌∷◌, length, map, slice_get, slice_index_or, option_map, refl, sym, ◌∙◌, ap, subst, if◌then◌else◌}
use Rattle.std.specs.List.{AllByRecursion, IsDistinct}
use Rattle.std.specs.Str.{bytes_eq}
use Rattle.std.proofs.lemmas.Option.{none-some, same_Some, slice_get_within}
use Rattle.std.proofs.lemmas.Slice.Eq.{bytes_eq-Decides}
use Rattle.std.proofs.lemmas.Map.Keys.{IsDistinct-head, IsDistinct-tail}
use Rattle.vs_rules.specs.Claims.{Name}
use Rattle.vs_claims.specs.Places.{place_for, place_in}

pub none_rest : (b : Bool) (o : Option ℕ) → (if b then Some 0 else option_map suc o) ≡ None → (b ≡ false) × (o ≡ None)
none_rest true o h = absurd (cc)
none_rest false None h = (refl, refl)
none_rest false (Some k) h = absurd (cc)

slice_get_cons : (n : Name) (ns : List Name) (i : ℕ) → slice_get (n ∷ ns) (suc i) ≡ slice_get ns i
slice_get_cons n ns i = refl

pub same_name : (n name : Name) → bytes_eq n name ≡ true → n ≡ name
same_name n name h = (bytes_eq-Decides n name).0 h

place_cases : (n name : Name) (ns : List Name) (i : ℕ) (b : Bool) (o : Option ℕ) → bytes_eq n name ≡ b → ((k : ℕ) → o ≡ Some k → slice_get ns k ≡ Some name) →
    (if b then Some 0 else option_map suc o) ≡ Some i → slice_get (n ∷ ns) i ≡ Some name
place_cases n name ns i true o here rest is =
    subst (λ (k : ℕ). slice_get (n ∷ ns) k ≡ Some name) (same_Some 0 i is) (ap Some (same_name n name here))
place_cases n name ns i false None here rest is = absurd (cc)
place_cases n name ns i false (Some k) here rest is =
    subst (λ (k : ℕ). slice_get (n ∷ ns) k ≡ Some name) (same_Some (suc k) i is) (slice_get_cons n ns k ∙ rest k refl)

-- where the first place of a name is, the name is there
pub at_place : (ns : List Name) (name : Name) (i : ℕ) → place_in ns name ≡ Some i → slice_get ns i ≡ Some name
at_place [] name i h = absurd (cc)
at_place (n ∷ ns) name i h = place_cases n name ns i (bytes_eq n name) (place_in ns name) refl (λ k e. at_place ns name k e) h

all_at : (P : Name → Type 0) (ns : List Name) (i : ℕ) (x : Name) → AllByRecursion P ns → slice_get ns i ≡ Some x → P x
all_at P [] i x h is = absurd (cc)
all_at P (n ∷ ns) zero x h is = subst P (same_Some n x is) h.0
all_at P (n ∷ ns) (suc i) x h is = all_at P ns i x h.1 (sym (slice_get_cons n ns i) ∙ is)

distinct_head : (n : Name) (ns : List Name) (i : ℕ) (name : Name) → IsDistinct bytes_eq (n ∷ ns) → slice_get ns i ≡ Some name → bytes_eq n name ≡ false
distinct_head n ns i name h is = all_at (λ y. bytes_eq n y ≡ false) ns i name (IsDistinct-head bytes_eq n ns h) is

-- of names that differ, each has its place
pub place_at : (ns : List Name) (name : Name) (i : ℕ) → IsDistinct bytes_eq ns → slice_get ns i ≡ Some name → place_in ns name ≡ Some i
place_at [] name i h is = absurd (cc)
place_at (n ∷ ns) name zero h is =
    ap (λ (b : Bool). if b then Some 0 else option_map suc (place_in ns name)) ((bytes_eq-Decides n name).1 (same_Some n name is))
place_at (n ∷ ns) name (suc i) h is =
    ap (λ (b : Bool). if b then Some 0 else option_map suc (place_in ns name)) (distinct_head n ns i name h is)
    ∙ ap (option_map suc) (place_at ns name i (IsDistinct-tail bytes_eq n ns h) is)

pub named_is : (ns : List Name) (name : Name) (i : ℕ) → IsDistinct bytes_eq ns → (slice_get ns i ≡ Some name ↔ place_in ns name ≡ Some i)
named_is ns name i h = (place_at ns name i h, at_place ns name i)

-- ---- by numbers

pub places_at : (ns names : List Name) (i : ℕ) → slice_index_or (map (place_in ns) names) i None ≡ place_for ns (slice_get names i)
places_at ns [] i = refl
places_at ns (n ∷ names) zero = refl
places_at ns (n ∷ names) (suc i) = places_at ns names i

pub for_within : (ns : List Name) (o : Option Name) (k : ℕ) → place_for ns o ≡ Some k → k < length ns
for_within ns None k h = absurd (none-some k h)
for_within ns (Some name) k h = slice_get_within ns k name (at_place ns name k h)
