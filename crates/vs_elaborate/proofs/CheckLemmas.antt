-- Which bits of nets the continuous assignments of a design drive, one after another.
use Rattle.std.proofs.Common.{◌≡◌, ℕ, zero, suc, ◌+◌, ◌<◌, ◌≤◌, Bool, List, [], ◌∷◌, ◌++◌, Some, None, length, take, drop, get_or, refl, ap, sym, subst, ◌∙◌, append_assoc, arith, drop_of_length-le}
use Rattle.std.specs.List.{AllZip}
use Rattle.std.proofs.lemmas.Option.{slice_get-get_or}
use Rattle.std.proofs.lemmas.List.{append-nil, length-append}
use Rattle.vs_design.specs.declared.design.Assign.{Assign}
use Rattle.vs_design.specs.declared.range.BitRange.{BitRange}
use Rattle.vs_design.specs.declared.signal.Signal.{Signal}
use Rattle.vs_design.specs.Uses.{writes}
use Rattle.vs_design.specs.WellFormed.{driven}
use Rattle.vs_elab_statements.specs.vs_scopes.proofs.Folds.{flat_more}
use Rattle.vs_elab_statements.specs.vs_scopes.proofs.AnswerLemmas.{flat_split}
use Rattle.vs_elaborate.specs.passes.Filling.{IsDrivenTwice}
use Rattle.vs_elaborate.specs.Marks.{AreWithin, Marks, MarksAll, SharesBit}
use Rattle.vs_elaborate.proofs.MarkLemmas.{shares_more, get_front}

-- a pass over continuous assignments
pub check_more : (ss : List Signal) (xs : List Assign) (i : ℕ) (a : Assign) (ranges : List BitRange) (old new : List Bool) → i < length xs → a ≡ get_or xs i a → ranges ≡ writes a.target → Marks ss (driven (take i xs)) old → MarksAll ss ranges old new None → Marks ss (driven (take (i + 1) xs)) new
check_more ss xs i a ranges old new h k w m all =
    subst (λ z. Marks ss z new) (ap (λ z. driven (take i xs) ++ z) w ∙ sym (flat_more (λ (z : Assign). writes z.target) xs i a h k)) (all (driven (take i xs)) m)

pub check_shared : (ss : List Signal) (xs : List Assign) (i : ℕ) (a : Assign) (ranges : List BitRange) (old new : List Bool) (n : ℕ) (x : Signal) (bytes : List ℕ) → i < length xs → a ≡ get_or xs i a → ranges ≡ writes a.target →
    Marks ss (driven (take i xs)) old → MarksAll ss ranges old new (Some n) → x ≡ get_or ss n x → bytes ≡ x.path.items → IsDrivenTwice ss xs bytes
check_shared ss xs i a ranges old new n x bytes h k w m all e path =
    let split = flat_split (λ (z : Assign). writes z.target) xs i a h k in
    let shares = all.1 (driven (take i xs)) m in
    let whole : (driven (take i xs) ++ ranges) ++ split.0 ≡ driven xs = ap (λ z. (driven (take i xs) ++ z) ++ split.0) w ∙ append_assoc (driven (take i xs)) (writes a.target) split.0 ∙ split.1 in
    record {
      number = n;
      shares = subst (λ z. SharesBit ss z n) whole (shares_more ss (driven (take i xs) ++ ranges) split.0 n shares);
      signal = x;
      stands = slice_get-get_or ss n x all.0 ∙ ap Some (sym e);
      path = path;
    }

-- a table that is written back into its vector
pub written_back : (ss : List Signal) (done more : List BitRange) (old new : List Bool) (n : ℕ) → n ≡ length old → Marks ss done old → Marks ss more new → Marks ss more (take n (new ++ drop (length new) old))
written_back ss done more old new n h m k =
    let long : length old ≤ length new = omega (arith, m.size, k.size) in
    let rest : drop (length new) old ≡ [] = drop_of_length-le old long in
    let all : length (new ++ []) ≤ n = omega (arith, ap length (append-nil new), h, m.size, k.size) in
    subst (λ z. Marks ss more (take n (new ++ z))) (sym rest) (subst (Marks ss more) (sym (take_full (new ++ []) n all ∙ append-nil new)) k)
  where
    take_full : {A : Type 0} (xs : List A) (n : ℕ) → length xs ≤ n → take n xs ≡ xs
    take_full [] zero l = refl
    take_full [] (suc n) l = refl
    take_full (x ∷ xs) zero l = absurd (omega arith)
    take_full (x ∷ xs) (suc n) l = ap (λ z. x ∷ z) (take_full xs n (omega arith))

-- the ranges of an assignment are of signals of the design
pub ranges_within : (ss : List Signal) (xs : List Assign) (i : ℕ) (a : Assign) (ranges : List BitRange) → i < length xs → a ≡ get_or xs i a → ranges ≡ writes a.target → AreWithin ss (driven xs) → AreWithin ss ranges
ranges_within ss xs i a ranges h k w within =
    let split = flat_split (λ (z : Assign). writes z.target) xs i a h k in
    let whole : AreWithin ss (driven (take i xs) ++ (writes a.target ++ split.0)) = subst (AreWithin ss) (sym split.1) within in
    subst (AreWithin ss) (sym w) (front (writes a.target) split.0 (behind (driven (take i xs)) (writes a.target ++ split.0) whole))
  where
    front : (us vs : List BitRange) → AreWithin ss (us ++ vs) → AreWithin ss us
    front us vs g j d l = subst (λ (z : BitRange). z.signal < length ss) (get_front us vs j d l) (g j d (omega (arith, l, length-append us vs)))

    behind : (us vs : List BitRange) → AreWithin ss (us ++ vs) → AreWithin ss vs
    behind [] vs g = g
    behind (u ∷ us) vs g = behind us vs (λ j d l. g (suc j) d (omega (arith, l)))

-- a copy of bytes
pub same_clones : (xs ys : List ℕ) → AllZip (λ x y. y ≡ x) xs ys → ys ≡ xs
same_clones [] [] h = refl
same_clones [] (y ∷ ys) h = absurd h
same_clones (x ∷ xs) [] h = absurd h
same_clones (x ∷ xs) (y ∷ ys) h = ap (λ z. z ∷ ys) h.0 ∙ ap (λ z. x ∷ z) (same_clones xs ys h.1)
