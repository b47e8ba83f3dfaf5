-- What passes answer, from what their parts do.
use Rattle.std.proofs.Common.{◌≡◌, ℕ, zero, suc, ◌+◌, ◌<◌, ◌≤◌, Bool, true, false, List, [], ◌∷◌, ◌++◌, length, map, take, get_or, Result, Ok, Err, refl, ap, sym, subst, ◌∙◌, append_assoc, arith}
use Rattle.std.specs.List.{flat_map}
use Rattle.std.proofs.lemmas.List.{append-nil, take_all}
use Rattle.vs_scopes.specs.declared.faults.Reason.{Reason}
use Rattle.vs_scopes.specs.declared.faults.BodyFault.{BodyFault}
use Rattle.vs_scopes.specs.declared.faults.BodyFault.TheVariants as b
use Rattle.vs_scopes.specs.declared.faults.ElabFault.{ElabFault}
use Rattle.vs_scopes.specs.declared.faults.ElabFault.TheVariants.{Memory, At}
use Rattle.vs_scopes.specs.Printed.{Path}
use Rattle.vs_scopes.specs.scopes_passes.Answers.{Refuses, Elaborates, IsReported, IsFaultAt, IsRefusal, Grows}
use Rattle.vs_scopes.proofs.Folds.{flat_more}
use Rattle.std.proofs.lemmas.List.Concat.{flat_map_single as flat_one}

-- a fault of a part is one of the whole
pub refused_by : (stands also : Reason → Bool) (e : BodyFault) → ((q : Reason) → stands q ≡ true → also q ≡ true) → Refuses stands e → Refuses also e
refused_by stands also b.Memory bad h = tt
refused_by stands also (b.Refused q) bad h = bad q h

pub answered_by : {A : Type 0} (stands also : Reason → Bool) (P Q : A → Type 0) (r : Result A BodyFault) → ((x : A) → ((q : Reason) → stands q ≡ false) → P x → ((q : Reason) → also q ≡ false) × Q x) → ((q : Reason) → stands q ≡ true → also q ≡ true) → Elaborates stands P r → Elaborates also Q r
answered_by stands also P Q (Ok x) good bad h = good x h.0 h.1
answered_by stands also P Q (Err e) good bad h = refused_by stands also e bad h

-- a fault at a path stands where its reason does
pub told_at : (Stands : Reason → Path → Type 0) (r : Reason) (p : Path) (e : ElabFault) → Stands r p → IsFaultAt r p e → IsReported Stands e
told_at Stands r p Memory s h = tt
told_at Stands r p (At q bytes) s h = (p, h.1, subst (λ z. Stands z p) (sym h.0) s)

pub told_by : (Stands Also : Reason → Path → Type 0) (e : ElabFault) → ((r : Reason) (p : Path) → Stands r p → Also r p) → IsReported Stands e → IsReported Also e
told_by Stands Also Memory f h = tt
told_by Stands Also (At r bytes) f h = (h.0, h.1, f r h.0 h.2)

-- a fault of a part of a scope
pub told_part : (Stands : Reason → Path → Type 0) (stands : Reason → Bool) (p : Path) (f : BodyFault) (e : ElabFault) → ((r : Reason) → stands r ≡ true → Stands r p) → Refuses stands f → IsRefusal p f e → IsReported Stands e
told_part Stands stands p b.Memory e g h k = subst (IsReported Stands) (sym k) tt
told_part Stands stands p (b.Refused r) e g h k = told_at Stands r p e (g r h) k

-- what holds of elements done holds with more behind them
abbrev pub Kept : {A C : Type 0} → (C → List A → Type 0) → (C → List A → Type 0) → List A → Type 0
Kept {A} {C} Old New xs = (start : C) (done : List A) → Old start done → New start (done ++ xs)

-- a fault among more elements is one among all
abbrev pub Grown : {A C : Type 0} → (C → List A → Reason → Path → Type 0) → Type 0
Grown {A} {C} Stands = (start : C) (xs ys : List A) (r : Reason) (p : Path) → Stands start xs r p → Stands start (xs ++ ys) r p

-- the same elements under another name
pub grows_same : {A B C : Type 0} (Old New : C → List A → Type 0) (Stands : C → List A → Reason → Path → Type 0) (xs ys : List A) (r : Result B ElabFault) → xs ≡ ys → Grows Old New Stands xs r → Grows Old New Stands ys r
grows_same Old New Stands xs ys r e h = subst (λ z. Grows Old New Stands z r) e h

pub kept_none : {A C : Type 0} (Old : C → List A → Type 0) → Kept Old Old []
kept_none Old start done h = subst (Old start) (sym (append-nil done)) h

-- a list's pieces up to an element, its own, and the rest
pub flat_split : {A X : Type 0} (f : X → List A) (xs : List X) (i : ℕ) (x : X) → i < length xs → x ≡ get_or xs i x → (rest : List A) × (flat_map f (take i xs) ++ (f x ++ rest) ≡ flat_map f xs)
flat_split f [] i x h k = absurd (omega arith)
flat_split f (y ∷ ys) zero x h k = (flat_map f ys, ap (λ z. f z ++ flat_map f ys) k)
flat_split f (y ∷ ys) (suc i) x h k = let p = flat_split f ys i x (omega arith) k in (p.0, append_assoc (f y) (flat_map f (take i ys)) (f x ++ p.0) ∙ ap (λ z. f y ++ z) p.1)

module _ {A C X : Type 0} (f : X → List A) where
  -- one element more
  pub kept_more : (Old Mid New : C → List A → Type 0) (xs : List X) (i : ℕ) (x : X) → i < length xs → x ≡ get_or xs i x → Kept Old Mid (flat_map f (take i xs)) → Kept Mid New (f x) → Kept Old New (flat_map f (take (i + 1) xs))
  kept_more Old Mid New xs i x h k g m start done o =
      let before = flat_map f (take i xs) in
      subst (New start) (append_assoc done before (f x) ∙ ap (λ z. done ++ z) (sym (flat_more f xs i x h k))) (m start (done ++ before) (g start done o))

  -- the end
  pub kept_all : (Old New : C → List A → Type 0) (xs : List X) (i : ℕ) → length xs ≤ i → Kept Old New (flat_map f (take i xs)) → Kept Old New (flat_map f xs)
  kept_all Old New xs i h g start done o = subst (λ z. New start (done ++ flat_map f z)) (take_all i xs h) (g start done o)

  -- a fault of one element
  pub kept_fault : (Old Mid : C → List A → Type 0) (Stands : C → List A → Reason → Path → Type 0) (xs : List X) (i : ℕ) (x : X) (e : ElabFault) → i < length xs → x ≡ get_or xs i x → Grown Stands → Kept Old Mid (flat_map f (take i xs)) → ((start : C) (done : List A) → Mid start done → IsReported (Stands start (done ++ f x)) e) → (start : C) (done : List A) → Old start done → IsReported (Stands start (done ++ flat_map f xs)) e
  kept_fault Old Mid Stands xs i x e h k more g m start done o =
      let before = flat_map f (take i xs) in
      let rest = flat_split f xs i x h k in
      let whole : ((done ++ before) ++ f x) ++ rest.0 ≡ done ++ flat_map f xs = append_assoc (done ++ before) (f x) rest.0 ∙ append_assoc done before (f x ++ rest.0) ∙ ap (λ z. done ++ z) rest.1 in
      let told = told_by _ (Stands start (((done ++ before) ++ f x) ++ rest.0)) e (λ r p s. more start ((done ++ before) ++ f x) rest.0 r p s) (m start (done ++ before) (g start done o)) in
      subst (λ z. IsReported (Stands start z) e) whole told

-- the same, where each element has one piece
module _ {A C X : Type 0} (f : X → A) where
  pub one_more : (Old Mid New : C → List A → Type 0) (xs : List X) (i : ℕ) (x : X) → i < length xs → x ≡ get_or xs i x → Kept Old Mid (map f (take i xs)) → Kept Mid New (f x ∷ []) → Kept Old New (map f (take (i + 1) xs))
  one_more Old Mid New xs i x h k g m =
      subst (Kept Old New) (flat_one f (take (i + 1) xs)) (kept_more (λ z. f z ∷ []) Old Mid New xs i x h k (subst (Kept Old Mid) (sym (flat_one f (take i xs))) g) m)

  pub one_all : (Old New : C → List A → Type 0) (xs : List X) (i : ℕ) → length xs ≤ i → Kept Old New (map f (take i xs)) → Kept Old New (map f xs)
  one_all Old New xs i h g start done o = subst (λ z. New start (done ++ map f z)) (take_all i xs h) (g start done o)

  pub one_fault : (Old Mid : C → List A → Type 0) (Stands : C → List A → Reason → Path → Type 0) (xs : List X) (i : ℕ) (x : X) (e : ElabFault) → i < length xs → x ≡ get_or xs i x → Grown Stands → Kept Old Mid (map f (take i xs)) → ((start : C) (done : List A) → Mid start done → IsReported (Stands start (done ++ f x ∷ [])) e) → (start : C) (done : List A) → Old start done → IsReported (Stands start (done ++ map f xs)) e
  one_fault Old Mid Stands xs i x e h k more g m start done o =
      subst (λ z. IsReported (Stands start (done ++ z)) e) (flat_one f xs) (kept_fault (λ z. f z ∷ []) Old Mid Stands xs i x e h k more (subst (Kept Old Mid) (sym (flat_one f (take i xs))) g) m start done o)
