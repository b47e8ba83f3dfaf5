-- Printed paths of signals differ, and so do the names of parts of scopes whose paths differ.
use Rattle.std.proofs.Common.{◌≡◌, ℕ, false, List, [], ◌∷◌, map, refl, ap, sym, subst, ◌∙◌}
use Rattle.std.specs.List.{flat_map, IsDistinct, AllByRecursion}
use Rattle.std.specs.Str.{bytes_eq}
use Rattle.std.proofs.lemmas.Bool.{false_from_ne_true, true≢false}
use Rattle.std.proofs.lemmas.List.{map-append}
use Rattle.std.proofs.lemmas.Slice.Eq.{bytes_eq-Decides}
use Rattle.vs_scopes.specs.Printed.{Path, printed, part_name, same_path}
use Rattle.vs_scopes.specs.Scopes.{Scope}
use Rattle.vs_elab_hierarchy.specs.Laws.{HasTurnsThatFit, scope_paths}
use Rattle.vs_elab_hierarchy.proofs.PathsDiffer.{paths_not_same}
use Rattle.vs_elab_hierarchy.proofs.PathsPrinted.{printed_same, parts_same}
use Rattle.vs_elab_hierarchy.proofs.PathsLists.{each_more, each_append, distinct_append}
use Rattle.vs_design.specs.vs_logic4.proofs.Basics.{bytes_apart as texts_apart}

-- ---- printed paths

printed_apart : (p : Path) (qs : List Path) → HasTurnsThatFit p → AllByRecursion HasTurnsThatFit qs → AllByRecursion (λ q. same_path p q ≡ false) qs → AllByRecursion (λ t. bytes_eq (printed p) t ≡ false) (map printed qs)
printed_apart p [] f fs h = tt
printed_apart p (q ∷ qs) f fs h = (texts_apart (printed p) (printed q) (λ e. paths_not_same p q h.0 (printed_same p q f fs.0 e)), printed_apart p qs f fs.1 h.1)

-- paths that differ are printed differently
pub printed_differ : (ps : List Path) → AllByRecursion HasTurnsThatFit ps → IsDistinct same_path ps → IsDistinct bytes_eq (map printed ps)
unfolding IsDistinct
printed_differ [] f d = tt
printed_differ (p ∷ ps) f d = (printed_apart p ps f.0 f.1 d.0, printed_differ ps f.1 d.1)

-- ---- parts

-- the name of a part in its scope begins with `#`
pub record IsMarked (n : List ℕ) : Type 0 where
  pub rest : List ℕ
  pub is : n ≡ 35 ∷ rest

-- two marked names behind two paths
part_same : (p q : Path) (m n : List ℕ) → HasTurnsThatFit p → HasTurnsThatFit q → IsMarked m → IsMarked n → part_name p m ≡ part_name q n → (p ≡ q) × (m ≡ n)
part_same p q m n f g a b e =
    let both : part_name p (35 ∷ a.rest) ≡ part_name q (35 ∷ b.rest) = ap (part_name p) (sym a.is) ∙ e ∙ ap (part_name q) b.is in
    let (paths, rests) = parts_same p q a.rest b.rest f g both in
    (paths, a.is ∙ ap (λ r. 35 ∷ r) rests ∙ sym b.is)

module _ {A : Type 0} (path : A → Path) (name : A → List ℕ) where
  -- a part as it is named
  abbrev pub part_text : A → List ℕ
  part_text x = part_name (path x) (name x)

  -- a part of a scope of this path, with a marked name
  pub record IsPartAt (p : Path) (x : A) : Type 0 where
    pub at : path x ≡ p
    pub marked : IsMarked (name x)

  -- the text of a part of a scope of this path
  record IsTextAt (p : Path) (t : List ℕ) : Type 0 where
    part : A
    is : IsPartAt p part
    text : t ≡ part_text part

  texts_at : (p : Path) (xs : List A) → AllByRecursion (IsPartAt p) xs → AllByRecursion (IsTextAt p) (map part_text xs)
  texts_at p [] h = tt
  texts_at p (x ∷ xs) h = (record { part = x; is = h.0; text = refl }, texts_at p xs h.1)

  fits_at : (p : Path) (x : A) → HasTurnsThatFit p → IsPartAt p x → HasTurnsThatFit (path x)
  fits_at p x f a = subst HasTurnsThatFit (sym a.at) f

  part_apart : (p : Path) (x : A) (xs : List A) → HasTurnsThatFit p → IsPartAt p x → AllByRecursion (IsPartAt p) xs → AllByRecursion (λ n. bytes_eq (name x) n ≡ false) (map name xs) → AllByRecursion (λ t. bytes_eq (part_text x) t ≡ false) (map part_text xs)
  part_apart p x [] f a h d = tt
  part_apart p x (y ∷ xs) f a h d =
      let apart = texts_apart (part_text x) (part_text y) (λ e. true≢false (sym ((bytes_eq-Decides (name x) (name y)).1 (part_same (path x) (path y) (name x) (name y) (fits_at p x f a) (fits_at p y f h.0) a.marked h.0.marked e).1) ∙ d.0)) in
      (apart, part_apart p x xs f a h.1 d.1)

  -- parts of one scope
  own_differ : (p : Path) (xs : List A) → HasTurnsThatFit p → AllByRecursion (IsPartAt p) xs → IsDistinct bytes_eq (map name xs) → IsDistinct bytes_eq (map part_text xs)
  unfolding IsDistinct
  own_differ p [] f h d = tt
  own_differ p (x ∷ xs) f h d = (part_apart p x xs f h.0 h.1 d.0, own_differ p xs f h.1 d.1)

  module _ (g : Scope → List A) (at : (s : Scope) → AllByRecursion (IsPartAt s.path) (g s)) where
    -- the text of a part of a scope with such a path
    record IsTextWhere (P : Path → Type 0) (t : List ℕ) : Type 0 where
      home : Path
      such : P home
      fits : HasTurnsThatFit home
      is : IsTextAt home t

    texts_where : (P : Path → Type 0) (ss : List Scope) → AllByRecursion HasTurnsThatFit (scope_paths ss) → AllByRecursion P (scope_paths ss) → AllByRecursion (IsTextWhere P) (map part_text (flat_map g ss))
    texts_where P [] fs h = tt
    texts_where P (s ∷ ss) fs h =
        let here = each_more (IsTextAt s.path) (IsTextWhere P) (λ t a. record { home = s.path; such = h.0; fits = fs.0; is = a }) (map part_text (g s)) (texts_at s.path (g s) (at s)) in
        subst (AllByRecursion (IsTextWhere P)) (sym (map-append part_text (g s) (flat_map g ss))) (each_append (IsTextWhere P) (map part_text (g s)) (map part_text (flat_map g ss)) here (texts_where P ss fs.1 h.1))

    scopes_apart : (p : Path) (x y : List ℕ) → HasTurnsThatFit p → IsTextAt p x → IsTextWhere (λ q. same_path p q ≡ false) y → bytes_eq x y ≡ false
    scopes_apart p x y f a b = texts_apart x y (λ e.
        (let both = part_same (path a.part) (path b.is.part) (name a.part) (name b.is.part) (fits_at p a.part f a.is) (fits_at b.home b.is.part b.fits b.is.is) a.is.marked b.is.is.marked (sym a.text ∙ e ∙ b.is.text) in
        paths_not_same p b.home b.such (sym a.is.at ∙ both.0 ∙ b.is.is.at)))

    -- parts of scopes whose paths differ, where the names in each scope differ
    pub parts_differ : (ss : List Scope) → AllByRecursion HasTurnsThatFit (scope_paths ss) → IsDistinct same_path (scope_paths ss) → AllByRecursion (λ s. IsDistinct bytes_eq (map name (g s))) ss → IsDistinct bytes_eq (map part_text (flat_map g ss))
    unfolding IsDistinct
    parts_differ [] fs d h = tt
    parts_differ (s ∷ ss) fs d h =
        subst (IsDistinct bytes_eq) (sym (map-append part_text (g s) (flat_map g ss)))
        (distinct_append bytes_eq (IsTextAt s.path) (IsTextWhere (λ q. same_path s.path q ≡ false)) (λ x y. scopes_apart s.path x y fs.0)
        (map part_text (g s)) (map part_text (flat_map g ss))
        (own_differ s.path (g s) fs.0 (at s) h.0)
        (parts_differ ss fs.1 d.1 h.1)
        (texts_at s.path (g s) (at s))
        (texts_where (λ q. same_path s.path q ≡ false) ss fs.1 d.0))
