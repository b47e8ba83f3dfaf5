-- A list of values beside the items that it stands for.
use Rattle.std.proofs.Common.{nat_eq, ne_eqb, ◌≡◌, ℕ, zero, suc, ◌+◌, ◌<◌, ◌≤◌, Bool, true, false, ◌&&◌, List, [], ◌∷◌, ◌++◌, length, get_or, take, drop, map, Some, refl, ap, ap₂, sym, ◌∙◌, arith}
use Rattle.std.proofs.lemmas.Bool.{and_parts}
use Rattle.std.proofs.lemmas.List.{take_more, take_all, drop_more, drop_all, map_push}
use Rattle.serde_json.specs.Data.{Data, null, boolean, number, string, array, object, Items}
use Rattle.serde_json.specs.Find.{as_array}
use Rattle.serde_json.specs.View.{view, items_view, items_of}
use Rattle.serde_json.specs.declared.value.Value.{Value}
use Rattle.vs_certificate.specs.Shape.{all_items}

-- each of a list's values passes where all its items do
pub all_items-at : (test : Data → Bool) (vs : List Value) (i : ℕ) (d : Value) → i < length vs → all_items test (items_view vs) ≡ true → test (view (get_or vs i d)) ≡ true
all_items-at test [] i d within h = absurd (omega arith)
all_items-at test (v ∷ vs) zero d within h = (and_parts _ _ h).0
all_items-at test (v ∷ vs) (suc i) d within h = all_items-at test vs i d (omega arith) (and_parts _ _ h).1

-- the items from one on pass where it does, and those behind it do
pub all_items-drop : (test : Data → Bool) (vs : List Value) (i : ℕ) (x : Value) → i < length vs → x ≡ get_or vs i x → all_items test (items_view (drop i vs)) ≡ (test (view x) && all_items test (items_view (drop (i + 1) vs)))
all_items-drop test vs i x within at = ap (λ ws. all_items test (items_view ws)) (drop_more vs i x within) ∙ ap (λ w. test (view w) && all_items test (items_view (drop (i + 1) vs))) (sym at)

pub all_items-past : (test : Data → Bool) (vs : List Value) (i : ℕ) → length vs ≤ i → all_items test (items_view (drop i vs)) ≡ true
all_items-past test vs i past = ap (λ ws. all_items test (items_view ws)) (drop_all i vs past)

-- what has these items is the array of them
pub array_from_items : (d : Data) (ds : Items) → as_array d ≡ Some ds → d ≡ array ds
array_from_items null ds e = absurd cc
array_from_items (boolean b) ds e = absurd cc
array_from_items (number n) ds e = absurd cc
array_from_items (string s) ds e = absurd cc
array_from_items (array es) ds e = cc
array_from_items (object ms) ds e = absurd cc

-- a list with nothing in it has no items that would fail
pub all_items-none : (vs : List Value) → nat_eq (length vs) 0 ≡ all_items (λ _. false) (items_view vs)
all_items-none [] = refl
all_items-none (v ∷ vs) = ne_eqb _ 0 (λ e. absurd (omega arith))

-- the images of one more of each are the same
pub images_more : {A B : Type 0} (f : A → Data) (g : B → Data) (done : List A) (new : A) (all : List B) (i : ℕ) (x : B) → i < length all → x ≡ get_or all i x → f new ≡ g x → map f done ≡ map g (take i all)
    → map f (done ++ new ∷ []) ≡ map g (take (i + 1) all)
images_more f g done new all i x within at same so_far =
    map_push f done new ∙ ap₂ (λ ds d. ds ++ d ∷ []) so_far (same ∙ ap g at) ∙ sym (ap (map g) (take_more all i x within) ∙ map_push g (take i all) (get_or all i x))

pub images_all : {A B : Type 0} (f : A → Data) (g : B → Data) (done : List A) (all : List B) (i : ℕ) → length all ≤ i → map f done ≡ map g (take i all) → array (items_of (map f done)) ≡ array (items_of (map g all))
images_all f g done all i past so_far = ap (λ ds. array (items_of ds)) (so_far ∙ ap (map g) (take_all i all past))

-- the entries of a list from one on pass where it does, and those behind it do
module _ (test : Data → Bool) (entries : List Value) (i : ℕ) (entry : Value) (within : i < length entries) (is : entry ≡ get_or entries i entry) where
  pub entry_passes : test (view entry) ≡ true → all_items test (items_view (drop (i + 1) entries)) ≡ all_items test (items_view (drop i entries))
  entry_passes e = sym (rw (drop_more entries i entry within, ← is, e) refl)

  pub entry_fails : test (view entry) ≡ false → false ≡ all_items test (items_view (drop i entries))
  entry_fails e = sym (rw (drop_more entries i entry within, ← is, e) refl)
