-- Printed paths.
use Rattle.std.proofs.Common.{◌≡◌, ℕ, ◌+◌, ◌<◌, ◌≤◌, List, [], ◌∷◌, ◌++◌, length, map, take, get_or, refl, ap, sym, ◌∙◌, append_assoc, add-one, arith}
use Rattle.std.specs.List.{join_with_byte}
use Rattle.std.proofs.lemmas.List.{append-nil, map-append, length-map, length-take, take_more, take_all}
use Rattle.vs_scopes.specs.Printed.{PathName, Path, plainly, printed_name, printed_part, printed}
use Rattle.vs_scopes.specs.declared.printed.PathName.{PathName as FoundName}
use Rattle.vs_scopes.specs.scopes_passes.Names.{read_title, read_path}

join_push : (c : ℕ) (xs : List (List ℕ)) (y : List ℕ) → 0 < length xs → join_with_byte c (xs ++ y ∷ []) ≡ join_with_byte c xs ++ c ∷ y
join_push c [] y h = absurd (omega arith)
join_push c (x ∷ []) y h = refl
join_push c (x ∷ z ∷ zs) y h = let more : 0 < length (z ∷ zs) = omega arith in ap (λ t. x ++ (c ∷ t)) (join_push c (z ∷ zs) y more) ∙ sym (append_assoc x (c ∷ join_with_byte c (z ∷ zs)) (c ∷ y))

-- a path with one more name
pub printed_push : (p : Path) (n : PathName) → 0 < length p → printed (p ++ n ∷ []) ≡ printed p ++ 46 ∷ printed_part n
printed_push p n h =
    let some : 0 < length (map printed_part p) = rw length-map h in
    ap (join_with_byte 46) (map-append printed_part p (n ∷ [])) ∙ join_push 46 (map printed_part p) (printed_part n) some

-- a name that is no turn of a loop
pub part_plain : (n : List ℕ) → printed_part (plainly n) ≡ printed_name n
part_plain n = append-nil (printed_name n)

-- a printed path, a name further
pub path_more : (path : List FoundName) (first : FoundName) (others : List FoundName) (i : ℕ) (d : FoundName) (a b c : List ℕ) → path ≡ first ∷ others → i < length others → a ≡ printed (read_path (take (i + 1) path)) → b ≡ a ++ 46 ∷ [] → c ≡ b ++ printed_part (read_title (get_or others i d)) → c ≡ printed (read_path (take (i + 1 + 1) path))
path_more path first others i d a b c e h p q r =
    let long : length path ≡ length (first ∷ others) = ap length e in
    let inside : i + 1 < length path = omega (arith, long) in
    let some : 0 < length (read_path (take (i + 1) path)) = rw length-map (rw length-take (omega (arith, long))) in
    let same : get_or path (i + 1) d ≡ get_or others i d = ap (λ (z : List FoundName). get_or z (i + 1) d) e ∙ rw add-one refl in
    let last : read_path (take (i + 1 + 1) path) ≡ read_path (take (i + 1) path) ++ read_title (get_or others i d) ∷ [] =
    ap read_path (take_more path (i + 1) d inside) ∙ map-append read_title (take (i + 1) path) (get_or path (i + 1) d ∷ []) ∙ ap (λ (z : FoundName). read_path (take (i + 1) path) ++ read_title z ∷ []) same in
    r ∙ ap (λ t. t ++ printed_part (read_title (get_or others i d))) (q ∙ ap (λ t. t ++ 46 ∷ []) p) ∙ append_assoc (printed (read_path (take (i + 1) path))) (46 ∷ []) (printed_part (read_title (get_or others i d))) ∙ sym (printed_push (read_path (take (i + 1) path)) (read_title (get_or others i d)) some) ∙ ap printed (sym last)

pub path_all : (path : List FoundName) (first : FoundName) (others : List FoundName) (i : ℕ) → path ≡ first ∷ others → length others ≤ i → take (i + 1) path ≡ path
path_all path first others i e h = let long : length path ≡ length (first ∷ others) = ap length e in take_all (i + 1) path (omega (arith, long))

pub path_first : (path : List FoundName) (first : FoundName) (others : List FoundName) → path ≡ first ∷ others → printed (read_path (take 1 path)) ≡ printed_part (read_title first)
path_first path first others e = ap (λ (x : List FoundName). printed (read_path (take 1 x))) e ∙ refl

pub member_text : (p : Path) (n : List ℕ) (a b c : List ℕ) → 0 < length p → a ≡ printed p → b ≡ a ++ 46 ∷ [] → c ≡ b ++ printed_name n → c ≡ printed (p ++ plainly n ∷ [])
member_text p n a b c h e f g =
    g ∙ ap (λ t. t ++ printed_name n) (f ∙ ap (λ t. t ++ 46 ∷ []) e) ∙ append_assoc (printed p) (46 ∷ []) (printed_name n) ∙ ap (λ t. printed p ++ 46 ∷ t) (sym (part_plain n))
    ∙ sym (printed_push p (plainly n) h)
