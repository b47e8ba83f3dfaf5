-- Lists that loops make, by what is left of those that they read.
use Rattle.std.proofs.Common.{◌≡◌, ℕ, zero, suc, ◌+◌, ◌<◌, ◌≤◌, List, [], ◌∷◌, ◌++◌, Option, None, Some, length, map, drop, get_or, true, false, cond, refl, ap, sym, ◌∙◌, append_assoc, add-one, arith, Bor}
use Rattle.std.specs.List.{flat_map}
use Rattle.std.proofs.lemmas.List.{map-append, append-nil, drop_more, drop_all, drop-map}
use Rattle.std.proofs.lemmas.List.Concat.{flat_map-append}
use Rattle.vs_syntax.specs.declared.tree.Expr.{Expr}
use Rattle.vs_scopes.specs.passes.Ends.{read_end, read_ends}
use Rattle.vs_scopes.specs.Connections.{in_text, in_order}
use Rattle.vs_scopes.specs.Overrides.{Parameter, first_end, other_ends, overridable, given_from}
use Rattle.vs_syntax.specs.vs_logic4.proofs.Basics.{front_of as drop_at}

-- one element made more
pub moved : {A B : Type 0} (f : A → B) (old new : List A) (x : A) (y : B) (before rest whole : List B) → new ≡ old ++ x ∷ [] → f x ≡ y → before ≡ y ∷ rest → map f old ++ before ≡ whole → map f new ++ rest ≡ whole
moved f old new x y before rest whole e g b h =
    ap (λ z. map f z ++ rest) e ∙ ap (λ z. z ++ rest) (map-append f old (x ∷ [])) ∙ append_assoc (map f old) (f x ∷ []) rest ∙ ap (λ z. map f old ++ z ∷ rest) g ∙ ap (λ z. map f old ++ z) (sym b) ∙ h

-- several made more
pub moved_by : {A : Type 0} (old new ys before rest whole : List A) → new ≡ old ++ ys → before ≡ ys ++ rest → old ++ before ≡ whole → new ++ rest ≡ whole
moved_by old new ys before rest whole e b h = ap (λ z. z ++ rest) e ∙ append_assoc old ys rest ∙ ap (λ z. old ++ z) (sym b) ∙ h

-- nothing is left
pub ended : {A : Type 0} (made rest whole : List A) → rest ≡ [] → made ++ rest ≡ whole → made ≡ whole
ended made rest whole e h = sym (append-nil made) ∙ ap (λ z. made ++ z) (sym e) ∙ h

-- what f gives of the rest of a list
pub map_at : {A B : Type 0} (f : A → B) (xs : List A) (i : ℕ) (x : A) → i < length xs → x ≡ get_or xs i x → map f (drop i xs) ≡ f x ∷ map f (drop (i + 1) xs)
map_at f xs i x h k = ap (map f) (drop_at xs i x h k)

pub flat_at : {A B : Type 0} (f : A → List B) (xs : List A) (i : ℕ) (x : A) → i < length xs → x ≡ get_or xs i x → flat_map f (drop i xs) ≡ f x ++ flat_map f (drop (i + 1) xs)
flat_at f xs i x h k = ap (flat_map f) (drop_at xs i x h k)

-- what is left behind the first of the rest
others_left : (i : ℕ) (xs : List (Option Expr)) → other_ends (drop i xs) ≡ drop (suc i) xs
others_left zero [] = refl
others_left zero (x ∷ xs) = refl
others_left (suc i) [] = refl
others_left (suc i) (x ∷ xs) = others_left i xs

pub other_dropped : (i : ℕ) (xs : List (Option Expr)) → other_ends (drop i xs) ≡ drop (i + 1) xs
other_dropped i xs = others_left i xs ∙ ap (λ k. drop k xs) (sym (add-one i))

-- the first of the rest
pub first_at : (xs : List (Option Expr)) (i : ℕ) (x : Option Expr) → i < length xs → x ≡ get_or xs i x → first_end (drop i xs) ≡ x
first_at xs i x h k = ap first_end (drop_at xs i x h k)

pub first_all : (xs : List (Option Expr)) (i : ℕ) → length xs ≤ i → first_end (drop i xs) ≡ None
first_all xs i h = ap first_end (drop_all i xs h)

-- maps of one element more
pub maps_two : {A B C : Type 0} (f : A → B) (g : B → C) (x : A) (ys : List A) → map g (map f (ys ++ x ∷ [])) ≡ map g (map f ys) ++ g (f x) ∷ []
maps_two f g x ys = ap (map g) (map-append f ys (x ∷ [])) ∙ map-append g (map f ys) (f x ∷ [])

pub maps_three : {A B C D : Type 0} (f : A → B) (g : B → C) (h : C → D) (x : A) (ys : List A) → map h (map g (map f (ys ++ x ∷ []))) ≡ map h (map g (map f ys)) ++ h (g (f x)) ∷ []
maps_three f g h x ys = ap (λ z. map h (map g z)) (map-append f ys (x ∷ [])) ∙ maps_two g h (f x) (map f ys)

pub maps_flat : {A B C : Type 0} (f : A → List B) (g : B → C) (x : A) (ys : List A) → map g (flat_map f (ys ++ x ∷ [])) ≡ map g (flat_map f ys) ++ map g (f x)
maps_flat f g x ys = ap (map g) (flat_map-append f ys (x ∷ []) ∙ ap (λ z. flat_map f ys ++ z) (append-nil (f x))) ∙ map-append g (flat_map f ys) (f x)

-- connections in order, at a name
pub ordered_at : (xs : List (Option Expr)) (ns : List (List ℕ)) (i : ℕ) → i < length ns → in_order (drop i xs) (drop i ns) ≡ first_end (drop i xs) ∷ in_order (drop (i + 1) xs) (drop (i + 1) ns)
ordered_at xs ns i h =
    ap (in_order (drop i xs)) (drop_more ns i [] h) ∙ by (drop i xs) (get_or ns i []) (drop (i + 1) ns) ∙ ap (λ z. first_end (drop i xs) ∷ in_order z (drop (i + 1) ns)) (other_dropped i xs)
  where
    by : (ys : List (Option Expr)) (m : List ℕ) (ms : List (List ℕ)) → in_order ys (m ∷ ms) ≡ first_end ys ∷ in_order (other_ends ys) ms
    by [] m ms = refl
    by (y ∷ ys) m ms = refl

-- what overrides parameters, at one
pub fixed_at : (p : Parameter) (ps : List Parameter) (xs : List (Option Expr)) → p.fixed ≡ true → given_from (p ∷ ps) xs ≡ (p, None) ∷ given_from ps xs
fixed_at p ps xs h = ap (λ t. cond t ((p, None) ∷ given_from ps xs) ((p, first_end xs) ∷ given_from ps (other_ends xs))) h

pub given_at : (p : Parameter) (ps : List Parameter) (xs : List (Option Expr)) (i : ℕ) → p.fixed ≡ false → given_from (p ∷ ps) (drop i xs) ≡ (p, first_end (drop i xs)) ∷ given_from ps (drop (i + 1) xs)
given_at p ps xs i h =
    ap (λ t. cond t ((p, None) ∷ given_from ps (drop i xs)) ((p, first_end (drop i xs)) ∷ given_from ps (other_ends (drop i xs)))) h ∙ ap (λ z. (p, first_end (drop i xs)) ∷ given_from ps z) (other_dropped i xs)

-- the names of parameters that may be overridden, at one
pub overridable_fixed : (p : Parameter) (ps : List Parameter) → p.fixed ≡ true → overridable (p ∷ ps) ≡ overridable ps
overridable_fixed p ps h = ap (λ t. cond t (overridable ps) (p.name ∷ overridable ps)) h

pub overridable_other : (p : Parameter) (ps : List Parameter) → p.fixed ≡ false → overridable (p ∷ ps) ≡ p.name ∷ overridable ps
overridable_other p ps h = ap (λ t. cond t (overridable ps) (p.name ∷ overridable ps)) h

-- the first of what is left of optional references
pub first_map : (xs : List (Option (Bor Expr))) (i : ℕ) (x : Option (Bor Expr)) → i < length xs → x ≡ get_or xs i x → first_end (drop i (read_ends xs)) ≡ read_end x
first_map xs i x h k = ap first_end (drop-map read_end i xs ∙ map_at read_end xs i x h k)

-- the first of what is left of connections in order, behind the first of them
pub first_placed : (first : Option Expr) (rest : List (Option Expr)) (i k : ℕ) (x : Option Expr) → i ≡ suc k → k < length rest → x ≡ get_or rest k x → first_end (drop i (in_text first rest)) ≡ x
first_placed None [] i k x e h q = absurd (omega arith)
first_placed None (y ∷ ys) i k x e h q = ap (λ z. first_end (drop z (None ∷ y ∷ ys))) e ∙ first_at (y ∷ ys) k x h q
first_placed (Some z) ys i k x e h q = ap (λ w. first_end (drop w (Some z ∷ ys))) e ∙ first_at ys k x h q
