-- Paths of scopes and of signals differ.
use Rattle.std.proofs.Common.{◌≡◌, ℕ, zero, suc, ◌+◌, ◌^◌, ◌<◌, ◌≤◌, ℤ, Bool, false, ◌&&◌, List, [], ◌∷◌, ◌++◌, Option, Some, None, length, map, refl, ap, ap₂, sym, subst, ◌∙◌, append_assoc, append-nil, arith, true≢false}
use Rattle.std.specs.Bool.{Decides}
use Rattle.std.specs.List.{flat_map, IsDistinct, AllByRecursion}
use Rattle.std.specs.Cmp.Lexicographic.{pointwise_decides}
use Rattle.std.specs.Str.{bytes_eq}
use Rattle.std.proofs.lemmas.Bool.{false_from_ne_true, and_parts}
use Rattle.std.proofs.lemmas.Bool.Decides.{Decides-int_eq}
use Rattle.std.proofs.lemmas.List.{length-append, append_cancel_left}
use Rattle.std.proofs.lemmas.List.Concat.{flat_map-append, flat_map_single}
use Rattle.std.proofs.lemmas.List.Elements.{recursion_from_All}
use Rattle.std.proofs.lemmas.Option.{same_Some}
use Rattle.std.proofs.lemmas.Slice.Eq.{bytes_eq-Decides}
use Rattle.vs_syntax.specs.declared.tree.Module.{Module}
use Rattle.vs_scopes.specs.Printed.{PathName, plainly, Path, same_turn, same_part, same_path}
use Rattle.vs_scopes.specs.Generate.{Inner}
use Rattle.vs_scopes.specs.Nets.{permits_nets}
use Rattle.vs_scopes.specs.Scopes.{Scope, named, named_at, names_of, all_names_of, module_named, Before, before_following, within_first, inner_of, opened, of_opened, below, scopes_within, deepest, opened_top, scopes_of}
use Rattle.vs_elab_hierarchy.specs.Laws.{PathsDiffer}
use Rattle.vs_elab_hierarchy.proofs.PathsLists.{each_more, each_append, each_left, each_right, distinct_append}
use Rattle.vs_elab_hierarchy.proofs.PathsOpened.{title_of, what_is_opened, what_is_opened_top}
use Rattle.vs_elab_hierarchy.proofs.PathsText.{HasText}
use Rattle.vs_elab_hierarchy.proofs.TitleLemmas.{names_make_apart, signals_differ, titles_differ}

-- ---- names of paths

turn_decides : (a b : Option ℤ) → Decides (same_turn a b) (a ≡ b)
turn_decides None None = (λ e. refl, λ e. refl)
turn_decides None (Some w) = (λ e. absurd (true≢false (sym e)), λ e. cc)
turn_decides (Some v) None = (λ e. absurd (true≢false (sym e)), λ e. cc)
turn_decides (Some v) (Some w) = (λ e. ap Some ((Decides-int_eq v w).0 e), λ e. (Decides-int_eq v w).1 (same_Some v w e))

pub part_decides : (p q : PathName) → Decides (same_part p q) (p ≡ q)
part_decides p q = (
  λ e. (let both = and_parts (bytes_eq p.name q.name) (same_turn p.turn q.turn) e in
      ap₂ (λ n t. record { name = n; turn = t }) ((bytes_eq-Decides p.name q.name).0 both.0) ((turn_decides p.turn q.turn).0 both.1)),
  λ e. ap₂ (λ a b. a && b) ((bytes_eq-Decides p.name q.name).1 (ap (λ (n : PathName). n.name) e)) ((turn_decides p.turn q.turn).1 (ap (λ (n : PathName). n.turn) e)),
)

-- ---- paths

pub paths_apart : (p q : Path) → (p ≡ q → ⊥) → same_path p q ≡ false
paths_apart p q h = false_from_ne_true (same_path p q) (λ e. h ((pointwise_decides part_decides p q).0 e))

pub paths_not_same : (p q : Path) → same_path p q ≡ false → p ≡ q → ⊥
paths_not_same p q h e = true≢false (sym ((pointwise_decides part_decides p q).1 e) ∙ h)

parts_apart : (m n : PathName) → same_part m n ≡ false → m ≡ n → ⊥
parts_apart m n h e = true≢false (sym ((part_decides m n).1 e) ∙ h)

pub first_same : (m n : PathName) (ms ns : Path) → m ∷ ms ≡ n ∷ ns → m ≡ n
first_same m n ms ns e = cc

-- a path that goes so many names on from another one, or more
record IsBelow (more : ℕ) (p q : Path) : Type 0 where
  rest : Path
  is : q ≡ p ++ rest
  long : more ≤ length rest

-- paths behind two names of one scope
below_apart : (more : ℕ) (p : Path) (m n : PathName) (x y : Path) → same_part m n ≡ false → IsBelow more (p ++ m ∷ []) x → IsBelow more (p ++ n ∷ []) y → same_path x y ≡ false
below_apart more p m n x y h a b = paths_apart x y (λ e.
    (let left : x ≡ p ++ (m ∷ a.rest) = a.is ∙ append_assoc p (m ∷ []) a.rest in
    let right : y ≡ p ++ (n ∷ b.rest) = b.is ∙ append_assoc p (n ∷ []) b.rest in
    parts_apart m n h (first_same m n a.rest b.rest (append_cancel_left p (m ∷ a.rest) (n ∷ b.rest) (sym left ∙ e ∙ right)))))

-- paths of a scope, and one that goes further
longer_apart : (more : ℕ) (p : Path) (n : PathName) (x y : Path) → length x ≡ length p + more → IsBelow more (p ++ n ∷ []) y → same_path x y ≡ false
longer_apart more p n x y h b = paths_apart x y (λ e. omega (arith, ap length e, ap length b.is, length-append (p ++ n ∷ []) b.rest, length-append p (n ∷ []), h, b.long))

-- ---- what scopes list

-- the names of a scope differ, and its constructs can be counted
record IsGood (s : Scope) : Type 0 where
  once : IsDistinct bytes_eq (all_names_of s)
  few : length s.pieces < 2 ^ 63
  text : HasText s

-- a path that goes so many names on from another one
record IsAt (more : ℕ) (p q : Path) : Type 0 where
  rest : Path
  is : q ≡ p ++ rest
  long : length rest ≡ more

-- paths that each scope gives, all so many names on from its own
module _ (more : ℕ) (g : Scope → List Path) (own : (s : Scope) → AllByRecursion (IsAt more s.path) (g s)) (differ : (s : Scope) → IsGood s → IsDistinct same_path (g s)) where
  -- a path below what stands in a scope under such a name
  record IsUnder (s : Scope) (P : PathName → Type 0) (q : Path) : Type 0 where
    name : PathName
    such : P name
    is : IsBelow more (named_at s name) q

  module _ (ms : List Module) (f : Scope → List Scope) (inside : (t : Scope) → AllByRecursion (IsBelow more t.path) (flat_map g (f t))) (s : Scope) where
    opened_inside : (at : Before) (x : Inner) (o : Option Scope) → opened ms s at x ≡ o → AllByRecursion (IsBelow more (named_at s (title_of x))) (flat_map g (of_opened f o))
    opened_inside at x None e = tt
    opened_inside at x (Some t) e = subst (λ p. AllByRecursion (IsBelow more p) (flat_map g (f t))) (what_is_opened ms s at x t e).path (inside t)

    below_under : (P : PathName → Type 0) (at : Before) (xs : List Inner) → AllByRecursion P (map title_of xs) → AllByRecursion (IsUnder s P) (flat_map g (below ms f s at xs))
    below_under P at [] h = tt
    below_under P at (x ∷ xs) h =
        let inner = of_opened f (opened ms s at x) in
        let others = below ms f s (before_following at inner) xs in
        let here = each_more (IsBelow more (named_at s (title_of x))) (IsUnder s P) (λ q b. record { name = title_of x; such = h.0; is = b }) (flat_map g inner) (opened_inside at x (opened ms s at x) refl) in
        subst (AllByRecursion (IsUnder s P)) (sym (flat_map-append g inner others))
        (each_append (IsUnder s P) (flat_map g inner) (flat_map g others) here (below_under P (before_following at inner) xs h.1))

    module _ (apart : (t : Scope) → AllByRecursion IsGood (f t) → IsDistinct same_path (flat_map g (f t))) where
      opened_differ : (o : Option Scope) → AllByRecursion IsGood (of_opened f o) → IsDistinct same_path (flat_map g (of_opened f o))
      unfolding IsDistinct
      opened_differ None h = tt
      opened_differ (Some t) h = apart t h

      below_differ : (at : Before) (xs : List Inner) → IsDistinct same_part (map title_of xs) → AllByRecursion IsGood (below ms f s at xs) → IsDistinct same_path (flat_map g (below ms f s at xs))
      unfolding IsDistinct
      below_differ at [] d h = tt
      below_differ at (x ∷ xs) d h =
          let o = opened ms s at x in
          let inner = of_opened f o in
          let others = below ms f s (before_following at inner) xs in
          subst (IsDistinct same_path) (sym (flat_map-append g inner others))
          (distinct_append same_path (IsBelow more (named_at s (title_of x))) (IsUnder s (λ n. same_part (title_of x) n ≡ false))
          (λ y z a b. below_apart more s.path (title_of x) b.name y z b.such a b.is)
          (flat_map g inner) (flat_map g others)
          (opened_differ o (each_left IsGood inner others h))
          (below_differ (before_following at inner) xs d.1 (each_right IsGood inner others h))
          (opened_inside at x o refl)
          (below_under (λ n. same_part (title_of x) n ≡ false) (before_following at inner) xs d.0))

  at_below : (p q : Path) → IsAt more p q → IsBelow more p q
  at_below p q a = record { rest = a.rest; is = a.is; long = omega (arith, a.long) }

  under_below : (s : Scope) (q : Path) → IsUnder s (λ n. Unit {0}) q → IsBelow more s.path q
  under_below s q u = record { rest = u.name ∷ u.is.rest; is = u.is.is ∙ append_assoc s.path (u.name ∷ []) u.is.rest; long = omega (arith, u.is.long) }

  any_name : (ns : List PathName) → AllByRecursion (λ n. Unit {0}) ns
  any_name [] = tt
  any_name (n ∷ ns) = (tt, any_name ns)

  within_inside : (n : ℕ) (ms : List Module) (s : Scope) → AllByRecursion (IsBelow more s.path) (flat_map g (scopes_within n ms s))
  unfolding scopes_within
  within_inside zero ms s = each_append (IsBelow more s.path) (g s) [] (each_more (IsAt more s.path) (IsBelow more s.path) (at_below s.path) (g s) (own s)) tt
  within_inside (suc n) ms s =
      let inner = flat_map g (below ms (scopes_within n ms) s (within_first s) (inner_of s)) in
      each_append (IsBelow more s.path) (g s) inner
      (each_more (IsAt more s.path) (IsBelow more s.path) (at_below s.path) (g s) (own s))
      (each_more (IsUnder s (λ n. Unit {0})) (IsBelow more s.path) (under_below s) inner (below_under ms (scopes_within n ms) (within_inside n ms) s (λ n. Unit {0}) (within_first s) (inner_of s) (any_name (map title_of (inner_of s)))))

  own_under : (s : Scope) (x y : Path) → IsAt more s.path x → IsUnder s (λ n. Unit {0}) y → same_path x y ≡ false
  own_under s x y a b = longer_apart more s.path b.name x y (ap length a.is ∙ length-append s.path a.rest ∙ ap (λ k. length s.path + k) a.long) b.is

  within_differ : (n : ℕ) (ms : List Module) (s : Scope) → AllByRecursion IsGood (scopes_within n ms s) → IsDistinct same_path (flat_map g (scopes_within n ms s))
  unfolding IsDistinct scopes_within
  within_differ zero ms s h = subst (IsDistinct same_path) (sym (append-nil (g s))) (differ s h.0)
  within_differ (suc n) ms s h =
      let scopes = below ms (scopes_within n ms) s (within_first s) (inner_of s) in
      distinct_append same_path (IsAt more s.path) (IsUnder s (λ n. Unit {0})) (own_under s) (g s) (flat_map g scopes)
      (differ s h.0)
      (below_differ ms (scopes_within n ms) (within_inside n ms) s (within_differ n ms) (within_first s) (inner_of s) (titles_differ s h.0.once h.0.few h.0.text) h.1)
      (own s)
      (below_under ms (scopes_within n ms) (within_inside n ms) s (λ n. Unit {0}) (within_first s) (inner_of s) (any_name (map title_of (inner_of s))))

  opened_paths_differ : (n : ℕ) (ms : List Module) (o : Option Scope) → AllByRecursion IsGood (of_opened (scopes_within n ms) o) → IsDistinct same_path (flat_map g (of_opened (scopes_within n ms) o))
  unfolding IsDistinct
  opened_paths_differ n ms None h = tt
  opened_paths_differ n ms (Some s) h = within_differ n ms s h

-- ---- paths of scopes and of signals

scopes_own : (s : Scope) → AllByRecursion (IsAt 0 s.path) (s.path ∷ [])
scopes_own s = (record { rest = []; is = sym (append-nil s.path); long = refl }, tt)

scopes_once : (s : Scope) → IsGood s → IsDistinct same_path (s.path ∷ [])
unfolding IsDistinct
scopes_once s d = (tt, tt)

names_own : (s : Scope) (ns : List (List ℕ)) → AllByRecursion (IsAt 1 s.path) (map (named s) ns)
names_own s [] = tt
names_own s (n ∷ ns) = (record { rest = plainly n ∷ []; is = refl; long = refl }, names_own s ns)

named_apart : (s : Scope) (n : List ℕ) (ns : List (List ℕ)) → AllByRecursion (λ m. bytes_eq n m ≡ false) ns → AllByRecursion (λ q. same_path (named s n) q ≡ false) (map (named s) ns)
named_apart s n [] h = tt
named_apart s n (m ∷ ns) h =
    let apart = paths_apart (named s n) (named s m) (λ e. parts_apart (plainly n) (plainly m) (names_make_apart (plainly n) (plainly m) h.0) (first_same (plainly n) (plainly m) [] [] (append_cancel_left s.path (plainly n ∷ []) (plainly m ∷ []) e))) in
    (apart, named_apart s n ns h.1)

named_once : (s : Scope) (ns : List (List ℕ)) → IsDistinct bytes_eq ns → IsDistinct same_path (map (named s) ns)
unfolding IsDistinct
named_once s [] d = tt
named_once s (n ∷ ns) d = (named_apart s n ns d.0, named_once s ns d.1)

all_good : (ss : List Scope) → AllByRecursion (λ s. IsDistinct bytes_eq (all_names_of s)) ss → AllByRecursion (λ s. length s.pieces < 2 ^ 63) ss → AllByRecursion HasText ss → AllByRecursion IsGood ss
all_good [] h k t = tt
all_good (s ∷ ss) h k t = (record { once = h.0; few = k.0; text = t.0 }, all_good ss h.1 k.1 t.1)

-- ---- the names of what opens scopes

module _ (ms : List Module) (f : Scope → List Scope) (inside : (t : Scope) → HasText t → AllByRecursion HasText (f t)) (s : Scope) where
  opened_text : (at : Before) (x : Inner) (o : Option Scope) → opened ms s at x ≡ o → AllByRecursion HasText (of_opened f o)
  opened_text at x None e = tt
  opened_text at x (Some t) e = inside t (what_is_opened ms s at x t e).text

  below_text : (at : Before) (xs : List Inner) → AllByRecursion HasText (below ms f s at xs)
  below_text at [] = tt
  below_text at (x ∷ xs) =
      let inner = of_opened f (opened ms s at x) in
      each_append HasText inner (below ms f s (before_following at inner) xs) (opened_text at x (opened ms s at x) refl) (below_text (before_following at inner) xs)

within_text : (n : ℕ) (ms : List Module) (s : Scope) → HasText s → AllByRecursion HasText (scopes_within n ms s)
unfolding scopes_within
within_text zero ms s h = (h, tt)
within_text (suc n) ms s h = (h, below_text ms (scopes_within n ms) (within_text n ms) s (within_first s) (inner_of s))

top_text : (n : ℕ) (ms : List Module) (nets : Bool) (o : Option Module) (t : Option Scope) → opened_top nets o ≡ t → AllByRecursion HasText (of_opened (scopes_within n ms) t)
top_text n ms nets o None e = tt
top_text n ms nets o (Some s) e = within_text n ms s (what_is_opened_top nets o s e).1.text

pub paths_differ : PathsDiffer
paths_differ ms top h k =
    let ss = scopes_of ms top in
    let good = all_good ss (recursion_from_All (λ s. IsDistinct bytes_eq (all_names_of s)) ss h) (recursion_from_All (λ s. length s.pieces < 2 ^ 63) ss k)
    (top_text deepest ms (permits_nets ms top) (module_named ms top) (opened_top (permits_nets ms top) (module_named ms top)) refl) in
    let o = opened_top (permits_nets ms top) (module_named ms top) in (
      subst (IsDistinct same_path) (flat_map_single (λ (s : Scope). s.path) ss) (opened_paths_differ 0 (λ s. s.path ∷ []) scopes_own scopes_once deepest ms o good),
      opened_paths_differ 1 (λ s. map (named s) (names_of s)) (λ s. names_own s (names_of s)) (λ s d. named_once s (names_of s) (signals_differ s d.once)) deepest ms o good,
    )
