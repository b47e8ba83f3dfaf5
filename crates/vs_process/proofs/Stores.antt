-- What a write leaves of a store, and what the store behind it depends on.
use Rattle.std.proofs.Common.{◌≡◌, ℕ, zero, suc, ◌==◌, false, option_map, List, [], ◌∷◌, map, length, slice_get, refl, sym, ◌∙◌, ap, subst, inl, inr, pos, ◌+ℤ◌, neg_ℤ, ℤ}
use Rattle.std.proofs.lemmas.Bool.{eqb-false, cases_eq, or_parts}
use Rattle.vs_design.specs.vs_logic4.specs.declared.digit.Digit.{Digit}
use Rattle.vs_design.specs.vs_logic4.specs.Parts.{replaced_from}
use Rattle.vs_design.specs.declared.write.Part.{Part}
use Rattle.vs_design.specs.Stores.{Store, changed_at, overlaid, put_part, put}
use Rattle.vs_design.specs.Writes.{Write, names}
use Rattle.vs_design.proofs.Stores.{slice_get-changed_at as changed_same}

pub changed_other : {A : Type 0} (f : A → A) (i v : ℕ) (xs : List A) → (v ≡ i → ⊥) → slice_get (changed_at f i xs) v ≡ slice_get xs v
changed_other f i v [] h = refl
changed_other f zero zero (x ∷ xs) h = absurd (h refl)
changed_other f zero (suc v) (x ∷ xs) h = refl
changed_other f (suc i) zero (x ∷ xs) h = refl
changed_other f (suc i) (suc v) (x ∷ xs) h = changed_other f i v xs (λ e. h (ap suc e))

changed_local : {A : Type 0} (f : A → A) (i v : ℕ) (xs ys : List A) → slice_get xs v ≡ slice_get ys v → slice_get (changed_at f i xs) v ≡ slice_get (changed_at f i ys) v
changed_local f i v xs ys h =
    elim (cases_eq v i) [
      | inl e ↦ subst (λ n. slice_get (changed_at f n xs) v ≡ slice_get (changed_at f n ys) v) e (changed_same f v xs ∙ ap (option_map f) h ∙ sym (changed_same f v ys))
      | inr ne ↦ changed_other f i v xs ne ∙ h ∙ sym (changed_other f i v ys ne)
    ]

-- a signal that a write doesn't name stays
pub put_other : (store : Store) (w : Write) (v : ℕ) → names w v ≡ false → slice_get (put store w) v ≡ slice_get store v
put_other store [] v h = refl
put_other store (p ∷ ps) v h =
    let parts = or_parts (p.signal == v) (names ps v) h in
    put_other (put_part store p) ps v parts.1 ∙ changed_other (changed_at (overlaid p.low p.digits) p.word) p.signal v store (λ e. eqb-false p.signal v parts.0 (sym e))

-- a signal behind a write depends on the write and on that signal alone
pub put_local : (a b : Store) (w : Write) (v : ℕ) → slice_get a v ≡ slice_get b v → slice_get (put a w) v ≡ slice_get (put b w) v
put_local a b [] v h = h
put_local a b (p ∷ ps) v h = put_local (put_part a p) (put_part b p) ps v (changed_local (changed_at (overlaid p.low p.digits) p.word) p.signal v a b h)

-- how many signals, words and digits a store has
abbrev pub shape : Store → List (List ℕ)
shape store = map (λ words. map length words) store

map_changed : {A B : Type 0} (g : A → B) (f : A → A) → ((x : A) → g (f x) ≡ g x) → (i : ℕ) (xs : List A) → map g (changed_at f i xs) ≡ map g xs
map_changed g f h i [] = refl
map_changed g f h zero (x ∷ xs) = ap (λ y. y ∷ map g xs) (h x)
map_changed g f h (suc i) (x ∷ xs) = ap (λ ys. g x ∷ ys) (map_changed g f h i xs)

length-replaced_from : (place : ℤ) (part ds : List Digit) → length (replaced_from place part ds) ≡ length ds
length-replaced_from place part [] = refl
length-replaced_from place part (d ∷ ds) = ap suc (length-replaced_from (place +ℤ pos 1) part ds)

length-overlaid : (low : ℤ) (digits word : List Digit) → length (overlaid low digits word) ≡ length word
length-overlaid low digits word = length-replaced_from (neg_ℤ low) digits word

shape-put_part : (store : Store) (p : Part) → shape (put_part store p) ≡ shape store
shape-put_part store p =
    map_changed (λ words. map length words) (changed_at (overlaid p.low p.digits) p.word)
    (λ words. map_changed length (overlaid p.low p.digits) (length-overlaid p.low p.digits) p.word words) p.signal store

-- a write keeps the shape
pub shape-put : (store : Store) (w : Write) → shape (put store w) ≡ shape store
shape-put store [] = refl
shape-put store (p ∷ ps) = shape-put (put_part store p) ps ∙ shape-put_part store p
