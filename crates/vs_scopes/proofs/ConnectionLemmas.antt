-- Connections by name.
use Rattle.std.proofs.Common.{◌≡◌, ℕ, ◌+◌, ◌<◌, Bool, true, false, true≢false, ◌||◌, not, cond, is_some, List, [], ◌∷◌, ◌++◌, Option, Some, None, length, take, drop, get_or, refl, ap, sym, subst, ◌∙◌, append_assoc, Bor}
use Rattle.std.specs.List.{list_any}
use Rattle.std.specs.Str.{bytes_eq}
use Rattle.std.proofs.lemmas.Slice.Eq.{bytes_eq-Decides}
use Rattle.std.proofs.lemmas.Bool.{or_parts}
use Rattle.std.proofs.lemmas.List.{map-append, take-append-drop, take_more}
use Rattle.std.proofs.lemmas.List.Folds.{list_any-append}
use Rattle.vs_syntax.specs.declared.tree.Expr.{Expr}
use Rattle.vs_syntax.specs.declared.tree.Connection.{Connection}
use Rattle.vs_widths.specs.Names.{meaning_of, Binds, Declares}
use Rattle.vs_scopes.specs.Connections.{names_given, has_twice, has_other, by_name}
use Rattle.vs_scopes.specs.passes.Ends.{borrowed, read_end, value_under, IsSet, Gathers, is_named_mismatch, GathersMore}
use Rattle.std.proofs.lemmas.Bool.{or_from as both_false, or_left as left_true, or_right as right_true}
use Rattle.vs_syntax.specs.vs_logic4.proofs.Basics.{front_of as drop_at}
use Rattle.vs_syntax.specs.vs_logic4.proofs.Basics.{or_four as swap, or_none as or_false}

-- ---- names among others

-- whether two names are one is the same from both sides
pub bytes_eq-sym : (x y : List ℕ) → bytes_eq x y ≡ bytes_eq y x
bytes_eq-sym x y = by (bytes_eq x y) (bytes_eq y x) refl refl
  where
    by : (a b : Bool) → bytes_eq x y ≡ a → bytes_eq y x ≡ b → bytes_eq x y ≡ bytes_eq y x
    by true b h k = h ∙ sym ((bytes_eq-Decides y x).1 (sym ((bytes_eq-Decides x y).0 h)))
    by false true h k = absurd (true≢false (sym ((bytes_eq-Decides x y).1 (sym ((bytes_eq-Decides y x).0 k))) ∙ h))
    by false false h k = h ∙ sym k

any_more : (p : List ℕ → Bool) (ns : List (List ℕ)) (n : List ℕ) → list_any p (ns ++ n ∷ []) ≡ (list_any p ns || p n)
any_more p ns n = list_any-append p ns (n ∷ []) ∙ ap (λ z. list_any p ns || z) (or_false (p n))

cond_some : {V : Type 0} (a b : Bool) (v : V) (o : Option V) → is_some (cond a (Some v) o) ≡ (is_some o || a)
cond_some true b v None = refl
cond_some true b v (Some w) = refl
cond_some false b v o = sym (or_false (is_some o))

-- a name more in a set
bound_more : {V : Type 0} (old new : List (List ℕ × V)) (ns : List (List ℕ)) (m : List ℕ) (v : V) → Binds old new m v → ((n : List ℕ) → is_some (meaning_of old n) ≡ list_any (bytes_eq n) ns) → (n : List ℕ) → is_some (meaning_of new n) ≡ list_any (bytes_eq n) (ns ++ m ∷ [])
bound_more old new ns m v b h n =
    ap is_some (b n) ∙ cond_some (bytes_eq m n) true v (meaning_of old n) ∙ ap (λ z. z || bytes_eq m n) (h n) ∙ ap (λ z. list_any (bytes_eq n) ns || z) (bytes_eq-sym m n) ∙ sym (any_more (bytes_eq n) ns m)

pub set_more : (old new : List (List ℕ × Bool)) (ns : List (List ℕ)) (m : List ℕ) (v : Bool) → Binds old new m v → IsSet ns old → IsSet (ns ++ m ∷ []) new
set_more old new ns m v b h = bound_more old new ns m v b h

-- names up to one more
pub set_at : (names : List (Bor (List ℕ))) (i : ℕ) (d : Bor (List ℕ)) (old new : List (List ℕ × Bool)) → i < length names → Binds old new (get_or names i d).now true → IsSet (borrowed (take i names)) old → IsSet (borrowed (take (i + 1) names)) new
set_at names i d old new h b s =
    subst (λ z. IsSet z new) (sym (ap borrowed (take_more names i d h) ∙ map-append (λ (n : Bor (List ℕ)). n.now) (take i names) (get_or names i d ∷ []))) (set_more old new (borrowed (take i names)) (get_or names i d).now true b s)

-- ---- names that stand twice, or are none

twice_push : (ns : List (List ℕ)) (n : List ℕ) → has_twice (ns ++ n ∷ []) ≡ (has_twice ns || list_any (bytes_eq n) ns)
twice_push [] n = refl
twice_push (m ∷ ms) n =
    ap (λ z. z || has_twice (ms ++ n ∷ [])) (any_more (bytes_eq m) ms n) ∙ ap (λ z. (list_any (bytes_eq m) ms || bytes_eq m n) || z) (twice_push ms n)
    ∙ swap (list_any (bytes_eq m) ms) (bytes_eq m n) (has_twice ms) (list_any (bytes_eq n) ms) ∙ ap (λ z. (list_any (bytes_eq m) ms || has_twice ms) || (z || list_any (bytes_eq n) ms)) (bytes_eq-sym m n)

names_push : (cs : List Connection) (c : Connection) → names_given (cs ++ c ∷ []) ≡ names_given cs ++ c.name.items ∷ []
names_push cs c = map-append (λ (x : Connection). x.name.items) cs (c ∷ [])

any_left : (p : List ℕ → Bool) (xs ys : List (List ℕ)) → list_any p xs ≡ true → list_any p (xs ++ ys) ≡ true
any_left p xs ys h = list_any-append p xs ys ∙ left_true (list_any p xs) (list_any p ys) h

twice_left : (xs ys : List (List ℕ)) → has_twice xs ≡ true → has_twice (xs ++ ys) ≡ true
twice_left [] ys h = absurd (true≢false (sym h))
twice_left (x ∷ xs) ys h = by (list_any (bytes_eq x) xs) refl h (twice_left xs ys)
  where
    by : (t : Bool) → list_any (bytes_eq x) xs ≡ t → (t || has_twice xs) ≡ true → (has_twice xs ≡ true → has_twice (xs ++ ys) ≡ true) → (list_any (bytes_eq x) (xs ++ ys) || has_twice (xs ++ ys)) ≡ true
    by true e k rest = left_true _ _ (any_left (bytes_eq x) xs ys e)
    by false e k rest = right_true _ _ (rest k)

-- connections among which some don't fit
pub mismatch_left : (cs ds : List Connection) (ns : List (List ℕ)) → is_named_mismatch cs ns ≡ true → is_named_mismatch (cs ++ ds) ns ≡ true
mismatch_left cs ds ns h = by (has_twice (names_given cs)) refl h
  where
    e : names_given (cs ++ ds) ≡ names_given cs ++ names_given ds
    e = map-append (λ (x : Connection). x.name.items) cs ds

    by : (t : Bool) → has_twice (names_given cs) ≡ t → (t || has_other (names_given cs) ns) ≡ true → is_named_mismatch (cs ++ ds) ns ≡ true
    by true f k = left_true _ _ (ap has_twice e ∙ twice_left (names_given cs) (names_given ds) f)
    by false f k = right_true _ _ (ap (λ z. has_other z ns) e ∙ any_left (λ n. not (list_any (bytes_eq n) ns)) (names_given cs) (names_given ds) k)

-- ---- one connection more

other_name : (cs : List Connection) (c : Connection) (k : List ℕ) → bytes_eq k c.name.items ≡ false → by_name (cs ++ c ∷ []) k ≡ by_name cs k
other_name [] c k h = ap (λ t. cond t c.value None) h
other_name (d ∷ ds) c k h = ap (cond (bytes_eq k d.name.items) d.value) (other_name ds c k h)

new_name : (cs : List Connection) (c : Connection) (k : List ℕ) → list_any (bytes_eq k) (names_given cs) ≡ false → bytes_eq k c.name.items ≡ true → by_name (cs ++ c ∷ []) k ≡ c.value
new_name [] c k h e = ap (λ t. cond t c.value None) e
new_name (d ∷ ds) c k h e = ap (λ t. cond t d.value (by_name (ds ++ c ∷ []) k)) (or_parts _ _ h).0 ∙ new_name ds c k (or_parts _ _ h).1 e

module _ (ns : List (List ℕ)) (cs : List Connection) (c : Connection) (set : List (List ℕ × Bool)) (old : List (List ℕ × Option (Bor Expr))) (s : IsSet ns set) (h : Gathers ns cs old) where
  -- its name is none of those that there are
  pub gathers_other : is_some (meaning_of set c.name.items) ≡ false → is_named_mismatch (cs ++ c ∷ []) ns ≡ true
  gathers_other k =
      let none : list_any (bytes_eq c.name.items) ns ≡ false = sym (s c.name.items) ∙ k in
      right_true _ _ (ap (λ z. has_other z ns) (names_push cs c) ∙ any_more (λ n. not (list_any (bytes_eq n) ns)) (names_given cs) c.name.items ∙ right_true _ _ (ap not none))

  module _ (new : List (List ℕ × Option (Bor Expr))) (v : Option (Bor Expr)) (e : read_end v ≡ c.value) where
    values_more : Declares true old new c.name.items v → (k : List ℕ) → value_under (meaning_of new k) ≡ by_name (cs ++ c ∷ []) k
    values_more d k = ap value_under (d.1 k) ∙ by (bytes_eq c.name.items k) refl
      where
        by : (t : Bool) → bytes_eq c.name.items k ≡ t → value_under (cond t (Some v) (meaning_of old k)) ≡ by_name (cs ++ c ∷ []) k
        by true f =
            let same : c.name.items ≡ k = (bytes_eq-Decides c.name.items k).0 f in
            let fresh : list_any (bytes_eq k) (names_given cs) ≡ false = sym (h.named k) ∙ ap is_some (ap (meaning_of old) (sym same) ∙ d.0) in
            e ∙ sym (new_name cs c k fresh (bytes_eq-sym k c.name.items ∙ f))
        by false f = h.values k ∙ sym (other_name cs c k (bytes_eq-sym k c.name.items ∙ f))

    -- a connection by a name that there is
    pub gathers_more : (fresh : Bool) → is_some (meaning_of set c.name.items) ≡ true → Declares fresh old new c.name.items v → GathersMore ns cs c fresh new
    gathers_more true k d = record {
      once = ap has_twice (names_push cs c) ∙ twice_push (names_given cs) c.name.items ∙ both_false _ _ h.once (sym (h.named c.name.items) ∙ ap is_some d.0);
      known = ap (λ z. has_other z ns) (names_push cs c) ∙ any_more (λ n. not (list_any (bytes_eq n) ns)) (names_given cs) c.name.items ∙ both_false _ _ h.known (ap not (sym (s c.name.items) ∙ k));
      named = λ n. bound_more old new (names_given cs) c.name.items v d.1 h.named n ∙ ap (list_any (bytes_eq n)) (sym (names_push cs c));
      values = values_more d;
    }
    gathers_more false k d = left_true _ _ (ap has_twice (names_push cs c) ∙ twice_push (names_given cs) c.name.items ∙ right_true _ _ (sym (h.named c.name.items) ∙ d))

-- ---- all of them

pub gathers_none : (ns : List (List ℕ)) → Gathers ns [] []
gathers_none ns = record { once = refl; known = refl; named = λ n. refl; values = λ n. refl }

-- connections up to one, and those behind it
pub whole_at : (first : Connection) (rest : List Connection) (i : ℕ) (c : Connection) → i < length rest → c ≡ get_or rest i c → ((first ∷ take i rest) ++ c ∷ []) ++ drop (i + 1) rest ≡ first ∷ rest
whole_at first rest i c h k = append_assoc (first ∷ take i rest) (c ∷ []) (drop (i + 1) rest) ∙ ap (λ z. (first ∷ take i rest) ++ z) (sym (drop_at rest i c h k)) ∙ ap (λ z. first ∷ z) (take-append-drop i rest)
