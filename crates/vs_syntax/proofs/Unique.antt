-- Symbols have at most one derivation tree.
use Rattle.std.specs.Prelude.{◌≡◌, true, false, List, ◌++◌, refl}
use Rattle.std.proofs.Common.{sym, ◌∙◌, ap, append_assoc}
use Rattle.std.proofs.lemmas.List.{append_cancel_left}
use Rattle.vs_syntax.specs.Symbols.{Symbol, first}
use Rattle.vs_syntax.specs.Grammar.{Grammar, optional}
use Rattle.vs_syntax.specs.Tables.{goes}
use Rattle.vs_syntax.specs.Derivation.{Tree, down, tokens, Is, is_nothing, is_token, is_seq, is_left, is_right, is_stop, is_more, is_part, is_node, is_one, is_chain, is_present, is_absent}
use Rattle.vs_syntax.proofs.Fronts.{clash, first-append, goes_same, goes-present}

-- what follows equal trees in equal lists
pub after_same : (x x' : Tree) (r s : List Symbol) → x' ≡ x → tokens x ++ r ≡ tokens x' ++ s → r ≡ s
after_same x x' r s e h = append_cancel_left (tokens x) r s (h ∙ ap (λ u. tokens u ++ s) e)

-- the same lists, with the second part beside the rest
pub regroup : (x y x' y' : Tree) (r m : List Symbol) → (tokens x ++ tokens y) ++ r ≡ (tokens x' ++ tokens y') ++ m → tokens x ++ (tokens y ++ r) ≡ tokens x' ++ (tokens y' ++ m)
regroup x y x' y' r m e = sym (append_assoc (tokens x) (tokens y) r) ∙ e ∙ append_assoc (tokens x') (tokens y') m

regroup_left : (x y x' : Tree) (r m : List Symbol) → (tokens x ++ tokens y) ++ r ≡ tokens x' ++ m → tokens x ++ (tokens y ++ r) ≡ tokens x' ++ m
regroup_left x y x' r m e = sym (append_assoc (tokens x) (tokens y) r) ∙ e

regroup_right : (x x' y' : Tree) (r m : List Symbol) → tokens x ++ r ≡ (tokens x' ++ tokens y') ++ m → tokens x ++ r ≡ tokens x' ++ (tokens y' ++ m)
regroup_right x x' y' r m e = e ∙ append_assoc (tokens x') (tokens y') m

-- a test of what comes next can't differ between lists with one beginning
goes_clash : (g : Grammar) (r m n : List Symbol) → goes g m ≡ true → goes g n ≡ false → first r ≡ first m → r ≡ n → ⊥
goes_clash g r m n can cannot f e = clash (goes_same g r m f ∙ can) (ap (goes g) e ∙ cannot)

-- Two trees of one grammar over the same symbols are one, where what follows begins alike.
pub unique : {g : Grammar} {x x' : Tree} {m m' : List Symbol} → Is g x m → Is g x' m' → (r : List Symbol) → tokens x ++ r ≡ tokens x' ++ m' → first r ≡ first m → x' ≡ x
unique is_nothing is_nothing r e f = refl
unique (is_token {x = s} p) (is_token {x = s'} p') r e f = cc
unique (is_seq {x = x} {y = y} {more = m} p q) (is_seq {x = x'} {y = y'} {more = m'} p' q') r e f =
    let h : x' ≡ x = unique p p' (tokens y ++ r) (regroup x y x' y' r m' e) (first-append (tokens y) r m f) in
    let k : y' ≡ y = unique q q' r (after_same x x' (tokens y ++ r) (tokens y' ++ m') h (regroup x y x' y' r m' e)) f in cc
unique (is_left h p) (is_left h' p') r e f = unique p p' r e f
unique (is_left {a = a} {x = x} {more = m} h p) (is_right {x = x'} {more = m'} h' p') r e f = absurd (goes_clash a (tokens x ++ r) (tokens x ++ m) (tokens x' ++ m') h h' (first-append (tokens x) r m f) e)
unique (is_right {a = a} {x = x} {more = m} h p) (is_left {x = x'} {more = m'} h' p') r e f = absurd (clash (ap (goes a) e ∙ h') (goes_same a (tokens x ++ r) (tokens x ++ m) (first-append (tokens x) r m f) ∙ h))
unique (is_right h p) (is_right h' p') r e f = unique p p' r e f
unique (is_stop h) (is_stop h') r e f = refl
unique (is_stop {a = a} {more = m} h) (is_more {x = x'} {y = y'} {more = m'} h' p' q') r e f = absurd (clash (ap (goes a) (e ∙ append_assoc (tokens x') (tokens y') m') ∙ h') (goes_same a r m f ∙ h))
unique (is_more {a = a} {x = x} {y = y} {more = m} h p q) (is_stop {more = m'} h') r e f =
    absurd (goes_clash a (tokens x ++ (tokens y ++ r)) (tokens x ++ (tokens y ++ m)) m' h h' (first-append (tokens x) (tokens y ++ r) (tokens y ++ m) (first-append (tokens y) r m f)) (sym (append_assoc (tokens x) (tokens y) r) ∙ e))
unique (is_more {x = x} {y = y} {more = m} h p q) (is_more {x = x'} {y = y'} {more = m'} h' p' q') r e f =
    let i : x' ≡ x = unique p p' (tokens y ++ r) (regroup x y x' y' r m' e) (first-append (tokens y) r m f) in
    let k : y' ≡ y = unique q q' r (after_same x x' (tokens y ++ r) (tokens y' ++ m') i (regroup x y x' y' r m' e)) f in cc
unique (is_part p) (is_part p') r e f = unique p p' r e f
unique (is_node p) (is_node p') r e f = ap down (unique p p' r e f)
unique (is_one h p) (is_one h' p') r e f = unique p p' r e f
unique (is_one {b = b} {x = x} {more = m} h p) (is_chain {x = x'} {y = y'} {more = m'} h' p' q') r e f =
    let i : x' ≡ x = unique p p' r (regroup_right x x' y' r m' e) f in
    absurd (clash (ap (goes b) (after_same x x' r (tokens y' ++ m') i (regroup_right x x' y' r m' e)) ∙ h') (goes_same b r m f ∙ h))
unique (is_chain {b = b} {x = x} {y = y} {more = m} h p q) (is_one {x = x'} {more = m'} h' p') r e f =
    let i : x' ≡ x = unique p p' (tokens y ++ r) (regroup_left x y x' r m' e) (first-append (tokens y) r m f) in
    absurd (goes_clash b (tokens y ++ r) (tokens y ++ m) m' h h' (first-append (tokens y) r m f) (after_same x x' (tokens y ++ r) m' i (regroup_left x y x' r m' e)))
unique (is_chain {x = x} {y = y} {more = m} h p q) (is_chain {x = x'} {y = y'} {more = m'} h' p' q') r e f =
    let i : x' ≡ x = unique p p' (tokens y ++ r) (regroup x y x' y' r m' e) (first-append (tokens y) r m f) in
    let k : y' ≡ y = unique q q' r (after_same x x' (tokens y ++ r) (tokens y' ++ m') i (regroup x y x' y' r m' e)) f in cc
unique (is_present {s = s} {x = x} {more = m} h p) (is_present {s = s'} {x = x'} {more = m'} h' p') r e f =
    let i : tokens x ++ r ≡ tokens x' ++ m' = cc in
    let k : x' ≡ x = unique p p' r i f in cc
unique (is_present {c = c} {a = a} {s = s} {x = x} h p) (is_absent h') r e f = absurd (clash (ap (goes (optional c a)) (sym e) ∙ goes-present c a s (tokens x ++ r) h) h')
unique (is_absent {c = c} {a = a} {more = m} h) (is_present {s = s'} {x = x'} {more = m'} h' p') r e f =
    absurd (clash (ap (goes (optional c a)) e ∙ goes-present c a s' (tokens x' ++ m') h') (goes_same (optional c a) r m f ∙ h))
unique (is_absent h) (is_absent h') r e f = refl
