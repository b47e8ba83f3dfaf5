-- Lists of what can begin a part.
use Rattle.std.specs.Prelude.{◌≡◌, ℕ, suc, max, ◌≤◌, Bool, true, false, cond, ◌&&◌, ◌||◌, List, [], ◌∷◌, ◌++◌, refl}
use Rattle.std.proofs.Common.{sym, ◌∙◌, ap, arith}
use denote.Enum.Bare.{true_same}
use Rattle.vs_lexer.specs.contracts.token.Mark as marks
use Rattle.vs_lexer.specs.contracts.token.Word as words
use Rattle.vs_syntax.specs.Symbols.{Symbol, Class, class_of, no_token, the_mark, the_word, any_name, any_number, the_cast, any_text, the_print, the_finish, the_dump, the_time, the_directive, any_other, same_class, first}
use Rattle.vs_syntax.specs.Grammar.{Grammar, seq, either, node, chain, optional}
use Rattle.vs_syntax.specs.Tables.{Front, null, low, beside, above, fronts, among, need, goes}
use Rattle.std.proofs.lemmas.Bool.{and_right as and_false, or_left, or_parts as or_false, or_right}

-- a flag is not both
pub clash : {b : Bool} → b ≡ true → b ≡ false → ⊥
clash p q = cc

pub same_class-refl : (c : Class) → same_class c c ≡ true
same_class-refl no_token = refl
same_class-refl (the_mark m) = true_same marks.the_type m m refl
same_class-refl (the_word w) = true_same words.the_type w w refl
same_class-refl any_name = refl
same_class-refl any_number = refl
same_class-refl the_cast = refl
same_class-refl any_text = refl
same_class-refl the_print = refl
same_class-refl the_finish = refl
same_class-refl the_dump = refl
same_class-refl the_time = refl
same_class-refl the_directive = refl
same_class-refl any_other = refl

pub first-append : (ts r m : List Symbol) → first r ≡ first m → first (ts ++ r) ≡ first (ts ++ m)
first-append [] r m e = e
first-append (t ∷ ts) r m e = refl

-- what can begin a part depends on the first symbol alone
pub goes_same : (g : Grammar) (r m : List Symbol) → first r ≡ first m → goes g r ≡ goes g m
goes_same g r m e = ap (λ c. among c (fronts g)) e

pub among-append : (c : Class) (fs gs : List Front) → among c (fs ++ gs) ≡ (among c fs || among c gs)
among-append c [] bs = refl
among-append c (f ∷ fs) bs = elim (same_class c f.class) as (λ s. (s || among c (fs ++ bs)) ≡ ((s || among c fs) || among c bs)) [ true ↦ refl | false ↦ among-append c fs bs ]

pub among-beside : (c : Class) (n : ℕ) (fs : List Front) → among c (beside n fs) ≡ among c fs
among-beside c n [] = refl
among-beside c n (f ∷ fs) = ap (λ b. same_class c f.class || b) (among-beside c n fs)

pub among-above : (c : Class) (fs : List Front) → among c (above fs) ≡ among c fs
among-above c [] = refl
among-above c (f ∷ fs) = ap (λ b. same_class c f.class || b) (among-above c fs)

among-cond : (c : Class) (b : Bool) (fs : List Front) → among c (cond b fs []) ≡ (b && among c fs)
among-cond c true fs = refl
among-cond c false fs = refl

pub among-seq : (a b : Grammar) (c : Class) → among c (fronts (seq a b)) ≡ (among c (fronts a) || (null a && among c (fronts b)))
among-seq a b c = among-append c (beside (low b) (fronts a)) (cond (null a) (beside (low a) (fronts b)) [])
    ∙ ap (λ u. u || among c (cond (null a) (beside (low a) (fronts b)) [])) (among-beside c (low b) (fronts a))
    ∙ ap (λ u. among c (fronts a) || u) (among-cond c (null a) (beside (low a) (fronts b)) ∙ ap (λ u. null a && u) (among-beside c (low a) (fronts b)))

pub goes-seq : (a b : Grammar) (ts : List Symbol) → goes (seq a b) ts ≡ (goes a ts || (null a && goes b ts))
goes-seq a b ts = among-seq a b (first ts)

pub goes-either : (a b : Grammar) (ts : List Symbol) → goes (either a b) ts ≡ (goes a ts || goes b ts)
goes-either a b ts = among-append (first ts) (fronts a) (fronts b)

pub goes-node : (a : Grammar) (ts : List Symbol) → goes (node a) ts ≡ goes a ts
goes-node a ts = among-above (first ts) (fronts a)

pub goes-chain : (a b : Grammar) (ts : List Symbol) → goes (chain a b) ts ≡ (goes a ts || (null a && goes b ts))
goes-chain a b ts = among-append (first ts) (fronts a) (cond (null a) (above (beside (low a) (fronts b))) [])
    ∙ ap (λ u. goes a ts || u) (among-cond (first ts) (null a) (above (beside (low a) (fronts b))) ∙ ap (λ u. null a && u) (among-above (first ts) (beside (low a) (fronts b)) ∙ among-beside (first ts) (low a) (fronts b)))

pub need-append_le : (c : Class) (fs gs : List Front) (n : ℕ) → (among c fs ≡ true → need c fs ≤ n) → (among c fs ≡ false → need c gs ≤ n) → need c (fs ++ gs) ≤ n
need-append_le c [] gs n inside outside = outside refl
need-append_le c (f ∷ fs) gs n inside outside = elim (same_class c f.class) as (λ s. ((s || among c fs) ≡ true → cond s f.need (need c fs) ≤ n) → ((s || among c fs) ≡ false → need c gs ≤ n) → cond s f.need (need c (fs ++ gs)) ≤ n)
    [ true ↦ λ y z. y refl | false ↦ λ y z. need-append_le c fs gs n y z ] inside outside

pub need-beside_le : (c : Class) (k : ℕ) (fs : List Front) → need c (beside k fs) ≤ max k (need c fs)
need-beside_le c k [] = omega arith
need-beside_le c k (f ∷ fs) = elim (same_class c f.class) as (λ s. cond s (max k f.need) (need c (beside k fs)) ≤ max k (cond s f.need (need c fs))) [ true ↦ omega arith | false ↦ need-beside_le c k fs ]

pub need-above_le : (c : Class) (fs : List Front) → need c (above fs) ≤ suc (need c fs)
need-above_le c [] = omega arith
need-above_le c (f ∷ fs) = elim (same_class c f.class) as (λ s. cond s (suc f.need) (need c (above fs)) ≤ suc (cond s f.need (need c fs))) [ true ↦ omega arith | false ↦ need-above_le c fs ]

-- an optional part begins with its class alone
pub goes-present : (c : Class) (a : Grammar) (s : Symbol) (ts : List Symbol) → class_of s ≡ c → goes (optional c a) (s ∷ ts) ≡ true
goes-present c a s ts e = or_left (same_class (class_of s) c) false (ap (λ u. same_class (class_of s) u) (sym e) ∙ same_class-refl (class_of s))
