-- The names in paths of what stands in one scope differ.
use Rattle.std.proofs.Common.{◌≡◌, ℕ, zero, suc, ◌+◌, ◌^◌, ◌<◌, ◌≤◌, nat_lt, ℤ, Bool, true, false, ◌&&◌, ◌||◌, cond, ◌⊎◌, inl, inr, ⊎_elim, List, [], ◌∷◌, ◌++◌, Option, Some, None, length, map, replicate, drop, refl, ap, ap₂, sym, subst, ◌∙◌, true≢false, arith}
use Rattle.std.specs.List.{flat_map, list_any, IsDistinct, AllByRecursion}
use Rattle.std.specs.Fmt.{decimal}
use Rattle.std.specs.Str.{bytes_eq}
use Rattle.std.specs.Str.Parse.{digits_value}
use Rattle.std.proofs.lemmas.Bool.{false_from_ne_true}
use Rattle.std.proofs.lemmas.Fmt.{decimal_is_IsNumeral}
use Rattle.std.proofs.lemmas.List.{map-append}
use Rattle.std.proofs.lemmas.List.Elements.{recursion_from_All}
use Rattle.std.proofs.lemmas.Slice.Eq.{bytes_eq-Decides}
use Rattle.vs_syntax.specs.declared.tree.Item.{Item}
use Rattle.vs_syntax.specs.declared.tree.LoopHeader.{LoopHeader}
use Rattle.vs_syntax.specs.declared.tree.ModuleItem.{ModuleItem}
use Rattle.vs_scopes.specs.vs_widths.specs.declared.constants.Const.{Const}
use Rattle.vs_scopes.specs.vs_widths.specs.Environment.{Environment}
use Rattle.vs_scopes.specs.Pieces.{NamedBlock, blocks_of, Piece, plain, loop, choice, local, inside, net, Content, nothing, block, content_of, block_name, branch_names, other_names}
use Rattle.vs_scopes.specs.Printed.{PathName, plainly, same_turn, same_part}
use Rattle.vs_scopes.specs.vs_widths.specs.declared.bindings.Binding.{Binding}
use Rattle.vs_scopes.specs.vs_widths.specs.declared.bindings.Binding.TheVariants.{Genvar, Other}
use Rattle.vs_scopes.specs.Ports.{ports_again}
use Rattle.vs_scopes.specs.Declarations.{Bindings, DeclaredName, names_in, Use, uses_by_item, genvars_in, inner_names_in, inner_names_among, each_once, bound_to}
use Rattle.vs_scopes.specs.Scopes.{Scope, declarations_of, names_of, numbered_names, constant_names, bindings_of, keys, all_names_of, text_names, environment, inner_of}
use Rattle.vs_scopes.specs.Generate.{genvar_number, Turns, turns, faulty, endless, turns_of, Taken, takes, refused, chosen, numbered_name, free_name, unnamed_name, name_of_block, Inner, instance, generates, content_inner, turns_inner, loop_inner, choice_inner, inner_in, after_piece, inner_from}
use Rattle.vs_scopes.specs.Generate as g
use Rattle.vs_elab_hierarchy.specs.Laws.{FitsTurn, IsTurn}
use Rattle.vs_elab_hierarchy.proofs.PathsLists.{each_more, each_append, each_right, distinct_append, distinct_left, distinct_right}
use Rattle.vs_elab_hierarchy.proofs.PathsOpened.{title_of}
use Rattle.vs_elab_hierarchy.proofs.PathsText.{keys_append, keys_bound}
use Rattle.vs_elab_hierarchy.proofs.TurnLemmas.{turns_differ}
use Rattle.vs_elab_hierarchy.proofs.BranchLemmas.{Among, among_first, among_left, among_right, IsNamedIn, chosen_named}
use Rattle.vs_design.specs.vs_logic4.proofs.Basics.{bytes_apart}

-- ---- names that differ

-- a name that differs from each of a list, and one that is in it
apart_from : (m : List ℕ) (ns : List (List ℕ)) (n : List ℕ) → AllByRecursion (λ y. bytes_eq m y ≡ false) ns → Among n ns → bytes_eq m n ≡ false
apart_from m [] n h k = absurd (true≢false (sym k))
apart_from m (y ∷ ns) n h k = by (bytes_eq n y) refl k (apart_from m ns n h.1)
  where
    by : (a : Bool) → bytes_eq n y ≡ a → a || list_any (bytes_eq n) ns ≡ true → (Among n ns → bytes_eq m n ≡ false) → bytes_eq m n ≡ false
    by true e i rest = ap (bytes_eq m) ((bytes_eq-Decides n y).0 e) ∙ h.0
    by false e i rest = rest i

-- names in two lists of which the elements differ
apart_in : (ms ns : List (List ℕ)) (m n : List ℕ) → IsDistinct bytes_eq (ms ++ ns) → Among m ms → Among n ns → bytes_eq m n ≡ false
unfolding IsDistinct
apart_in [] ns m n d h k = absurd (true≢false (sym h))
apart_in (x ∷ ms) ns m n d h k = by (bytes_eq m x) refl h (apart_in ms ns m n d.1)
  where
    by : (a : Bool) → bytes_eq m x ≡ a → a || list_any (bytes_eq m) ms ≡ true → (Among m ms → Among n ns → bytes_eq m n ≡ false) → bytes_eq m n ≡ false
    by true e i rest = ap (λ z. bytes_eq z n) ((bytes_eq-Decides m x).0 e) ∙ apart_from x ns n (each_right (λ y. bytes_eq x y ≡ false) ms ns d.0) k
    by false e i rest = rest i k

pub names_make_apart : (p q : PathName) → bytes_eq p.name q.name ≡ false → same_part p q ≡ false
names_make_apart p q h = ap (λ b. b && same_turn p.turn q.turn) h

turns_make_apart : (p q : PathName) → same_turn p.turn q.turn ≡ false → same_part p q ≡ false
turns_make_apart p q h = ap (λ b. bytes_eq p.name q.name && b) h ∙ by (bytes_eq p.name q.name)
  where
    by : (a : Bool) → (a && false) ≡ false
    by true = refl
    by false = refl

-- ---- numbered names

zeros_count_nothing : (zeros : ℕ) (ds : List ℕ) → digits_value 10 (replicate zeros 48 ++ ds) ≡ digits_value 10 ds
zeros_count_nothing zero ds = refl
zeros_count_nothing (suc zeros) ds = zeros_count_nothing zeros ds

number_of_name : (zeros k : ℕ) → k < 2 ^ 64 → digits_value 10 (drop 6 (numbered_name zeros k)) ≡ k
number_of_name zeros k h = zeros_count_nothing zeros (decimal k) ∙ (decimal_is_IsNumeral k h).1

numbers_same : (zeros others j k : ℕ) → j < 2 ^ 64 → k < 2 ^ 64 → numbered_name zeros j ≡ numbered_name others k → j ≡ k
numbers_same zeros others j k h i e = sym (number_of_name zeros j h) ∙ ap (λ t. digits_value 10 (drop 6 t)) e ∙ number_of_name others k i

-- ---- names of what a scope opens

module _ (env : Environment) (names : List (List ℕ)) where
  -- a name of a construct's number, from the first to below the last, that the text doesn't declare
  record IsFree (first last : ℕ) (n : List ℕ) : Type 0 where
    zeros : ℕ
    number : ℕ
    from : first ≤ number
    below : number < last
    is : n ≡ numbered_name zeros number
    absent : list_any (bytes_eq n) names ≡ false

  -- a name that the text declares so, or a free one; its turn has a number that fits
  record IsTitle (declared : List (List ℕ)) (first last : ℕ) (t : PathName) : Type 0 where
    name : Among t.name declared ⊎ IsFree first last t.name
    fits : FitsTurn t.turn

  title_more : (ds es : List (List ℕ)) (i j k l : ℕ) (t : PathName) → ((n : List ℕ) → Among n ds → Among n es) → k ≤ i → j ≤ l → IsTitle ds i j t → IsTitle es k l t
  title_more ds es i j k l t more low high h = record {
    name = ⊎_elim (λ a. inl (more t.name a)) (λ (f : IsFree i j t.name). inr (record { zeros = f.zeros; number = f.number; from = omega (arith, low, f.from); below = omega (arith, high, f.below); is = f.is; absent = f.absent })) h.name;
    fits = h.fits;
  }

  -- a declared name and a free one
  not_free : (m n : List ℕ) (i j : ℕ) → Among m names → IsFree i j n → m ≡ n → ⊥
  not_free m n i j h f e = true≢false (sym h ∙ ap (λ z. list_any (bytes_eq z) names) e ∙ f.absent)

  both_free : (m n : List ℕ) (i j k l : ℕ) → j ≤ k → l < 2 ^ 64 → IsFree i j m → IsFree k l n → m ≡ n → ⊥
  both_free m n i j k l h small a b e =
      let same : a.number ≡ b.number = numbers_same a.zeros b.zeros a.number b.number (omega (arith, a.below, b.from, b.below, h, small)) (omega (arith, b.below, small)) (sym a.is ∙ e ∙ b.is) in
      omega (arith, same, a.below, b.from, h)

  -- names of two pieces of a scope
  titles_apart : (ds es : List (List ℕ)) (i j k l : ℕ) → IsDistinct bytes_eq (ds ++ es) → ((n : List ℕ) → Among n (ds ++ es) → Among n names) → j ≤ k → l < 2 ^ 64 →
      (p q : PathName) → IsTitle ds i j p → IsTitle es k l q → same_part p q ≡ false
  titles_apart ds es i j k l d known h small p q a b =
      names_make_apart p q
      (⊎_elim
      (λ (x : Among p.name ds). ⊎_elim (λ (y : Among q.name es). apart_in ds es p.name q.name d x y) (λ (y : IsFree k l q.name). bytes_apart p.name q.name (not_free p.name q.name k l (known p.name (among_left p.name ds es x)) y)) b.name)
      (λ (x : IsFree i j p.name). ⊎_elim (λ (y : Among q.name es). bytes_apart p.name q.name (λ e. not_free q.name p.name i j (known q.name (among_right q.name ds es y)) x (sym e))) (λ (y : IsFree k l q.name). bytes_apart p.name q.name (both_free p.name q.name i j k l h small x y)) b.name)
      a.name)

  -- ---- instances and named blocks

  plain_titles : (ns ds : List (List ℕ)) (i j : ℕ) → ((n : List ℕ) → Among n ns → Among n ds) → AllByRecursion (IsTitle ds i j) (map plainly ns)
  plain_titles [] ds i j more = tt
  plain_titles (n ∷ ns) ds i j more =
      (record { name = inl (more n (among_first n ns)); fits = tt }, plain_titles ns ds i j (λ m h. more m (among_right m (n ∷ []) ns h)))

  plain_apart : (n : List ℕ) (ns : List (List ℕ)) → AllByRecursion (λ m. bytes_eq n m ≡ false) ns → AllByRecursion (λ q. same_part (plainly n) q ≡ false) (map plainly ns)
  plain_apart n [] h = tt
  plain_apart n (m ∷ ns) h = (names_make_apart (plainly n) (plainly m) h.0, plain_apart n ns h.1)

  plain_differ : (ns : List (List ℕ)) → IsDistinct bytes_eq ns → IsDistinct same_part (map plainly ns)
  unfolding IsDistinct
  plain_differ [] d = tt
  plain_differ (n ∷ ns) d = (plain_apart n ns d.0, plain_differ ns d.1)

  map_map : {A B C : Type 0} (f : B → C) (k : A → B) (xs : List A) → map f (map k xs) ≡ map (λ x. f (k x)) xs
  map_map f k [] = refl
  map_map f k (x ∷ xs) = ap (λ ys. f (k x) ∷ ys) (map_map f k xs)

  item_titles : (us : List Use) (bs : List NamedBlock) → map title_of (map instance us ++ map g.named bs) ≡ map plainly (map (λ (u : Use). u.name) us ++ map (λ (b : NamedBlock). b.name) bs)
  item_titles us bs =
      map-append title_of (map instance us) (map g.named bs)
      ∙ ap₂ (λ xs ys. xs ++ ys) (map_map title_of instance us ∙ sym (map_map plainly (λ (u : Use). u.name) us)) (map_map title_of g.named bs ∙ sym (map_map plainly (λ (b : NamedBlock). b.name) bs))
      ∙ sym (map-append plainly (map (λ (u : Use). u.name) us) (map (λ (b : NamedBlock). b.name) bs))

  -- ---- generate blocks

  -- the name of a block, where it has one
  abbrev title_name : ℕ → Content → Option (List ℕ)
  title_name k nothing = None
  title_name k (block o xs) = name_of_block names k o

  -- the names of turns
  abbrev turn_titles : Option (List ℕ) → List Const → List PathName
  turn_titles None cs = []
  turn_titles (Some m) cs = map (λ c. record { name = m; turn = genvar_number c }) cs

  -- the name of one block
  abbrev one_title : Option (List ℕ) → Option ℤ → List PathName
  one_title None turn = []
  one_title (Some m) turn = record { name = m; turn = turn } ∷ []

  generated_titles : (i : ℕ) (o : Option (List ℕ)) (turn : Option ℤ) (cs : List (List ℕ × Const)) (xs : List ModuleItem) → map title_of (generates i o turn cs xs) ≡ one_title o turn
  generated_titles i None turn cs xs = refl
  generated_titles i (Some n) turn cs xs = refl

  content_titles : (i k : ℕ) (turn : Option ℤ) (cs : List (List ℕ × Const)) (x : Content) → map title_of (content_inner i names k turn cs x) ≡ one_title (title_name k x) turn
  content_titles i k turn cs nothing = refl
  content_titles i k turn cs (block o xs) = generated_titles i (name_of_block names k o) turn cs xs

  one_more_title : (o : Option (List ℕ)) (c : Const) (cs : List Const) → one_title o (genvar_number c) ++ turn_titles o cs ≡ turn_titles o (c ∷ cs)
  one_more_title None c cs = refl
  one_more_title (Some m) c cs = refl

  no_titles : (o : Option (List ℕ)) → [] ≡ turn_titles o []
  no_titles None = refl
  no_titles (Some m) = refl

  turns_titles : (i k : ℕ) (n : List ℕ) (x : Content) (cs : List Const) → map title_of (turns_inner i names k n x cs) ≡ turn_titles (title_name k x) cs
  turns_titles i k n x [] = no_titles (title_name k x)
  turns_titles i k n x (c ∷ cs) =
      map-append title_of (content_inner i names k (genvar_number c) ((n, c) ∷ []) x) (turns_inner i names k n x cs)
      ∙ ap₂ (λ ys zs. ys ++ zs) (content_titles i k (genvar_number c) ((n, c) ∷ []) x) (turns_titles i k n x cs)
      ∙ one_more_title (title_name k x) c cs

  -- names that the text gives or that are free
  abbrev IsNameOf : List (List ℕ) → ℕ → Option (List ℕ) → Type 0
  IsNameOf ds k None = Unit {0}
  IsNameOf ds k (Some n) = Among n ds ⊎ IsFree k (suc k) n

  free_is : (room k many : ℕ) (ds : List (List ℕ)) → IsNameOf ds k (free_name room names many k)
  unfolding free_name
  free_is zero k many ds = tt
  free_is (suc room) k many ds = by (nat_lt 1024 (length (numbered_name many k))) (list_any (bytes_eq (numbered_name many k)) names) refl (free_is room k (suc many) ds)
    where
      by : (a b : Bool) → list_any (bytes_eq (numbered_name many k)) names ≡ b → IsNameOf ds k (free_name room names (suc many) k) → IsNameOf ds k (cond a None (cond b (free_name room names (suc many) k) (Some (numbered_name many k))))
      by true b h rest = tt
      by false true h rest = rest
      by false false h rest = inr (record { zeros = many; number = k; from = omega arith; below = omega arith; is = refl; absent = h })

  name_is : (k : ℕ) (o : Option (List ℕ)) (ds : List (List ℕ)) → ((n : List ℕ) → o ≡ Some n → Among n ds) → IsNameOf ds k (name_of_block names k o)
  name_is k None ds h = free_is 1024 k 0 ds
  name_is k (Some n) ds h = inl (h n refl)

  one_is_title : (ds : List (List ℕ)) (k : ℕ) (o : Option (List ℕ)) (turn : Option ℤ) → IsNameOf ds k o → FitsTurn turn → AllByRecursion (IsTitle ds k (suc k)) (one_title o turn)
  one_is_title ds k None turn h fits = tt
  one_is_title ds k (Some n) turn h fits = (record { name = h; fits = fits }, tt)

  one_differs : (o : Option (List ℕ)) (turn : Option ℤ) → IsDistinct same_part (one_title o turn)
  unfolding IsDistinct
  one_differs None turn = tt
  one_differs (Some n) turn = (tt, tt)

  turns_are_titles : (ds : List (List ℕ)) (k : ℕ) (o : Option (List ℕ)) (cs : List Const) → IsNameOf ds k o → AllByRecursion IsTurn cs → AllByRecursion (IsTitle ds k (suc k)) (turn_titles o cs)
  turns_are_titles ds k None cs h all = tt
  turns_are_titles ds k (Some n) [] h all = tt
  turns_are_titles ds k (Some n) (c ∷ cs) h all = (record { name = h; fits = all.0.1 }, turns_are_titles ds k (Some n) cs h all.1)

  turn_apart_each : (m : List ℕ) (c : Const) (cs : List Const) → AllByRecursion (λ o. same_turn (genvar_number c) o ≡ false) (map genvar_number cs) → AllByRecursion (λ q. same_part (record { name = m; turn = genvar_number c }) q ≡ false) (turn_titles (Some m) cs)
  turn_apart_each m c [] h = tt
  turn_apart_each m c (d ∷ ds) h = (turns_make_apart (record { name = m; turn = genvar_number c }) (record { name = m; turn = genvar_number d }) h.0, turn_apart_each m c ds h.1)

  turns_part : (o : Option (List ℕ)) (cs : List Const) → IsDistinct same_turn (map genvar_number cs) → IsDistinct same_part (turn_titles o cs)
  unfolding IsDistinct
  turns_part None cs d = tt
  turns_part (Some m) [] d = tt
  turns_part (Some m) (c ∷ cs) d = (turn_apart_each m c cs d.0, turns_part (Some m) cs d.1)

  -- ---- pieces

  -- what is opened has such names, and they differ
  record HaveTitles (declared : List (List ℕ)) (first last : ℕ) (xs : List Inner) : Type 0 where
    titles : AllByRecursion (IsTitle declared first last) (map title_of xs)
    differ : IsDistinct bytes_eq declared → IsDistinct same_part (map title_of xs)

  none_titled : (ds : List (List ℕ)) (i j : ℕ) → HaveTitles ds i j []
  unfolding IsDistinct
  none_titled ds i j = record { titles = tt; differ = λ d. tt }

  plain_titled : (i k : ℕ) (x : Item) → HaveTitles (inner_names_in (plain x)) k k (inner_in i env names k (plain x))
  plain_titled i k x =
      let ns = inner_names_in (plain x) in
      let same = item_titles (uses_by_item x) (blocks_of x) in
      record {
        titles = subst (AllByRecursion (IsTitle ns k k)) (sym same) (plain_titles ns ns k k (λ n h. h));
        differ = λ d. subst (IsDistinct same_part) (sym same) (plain_differ ns d);
      }

  inside_titled : (k : ℕ) (b : NamedBlock) → HaveTitles (b.name ∷ []) k k (g.named b ∷ [])
  inside_titled k b = record { titles = plain_titles (b.name ∷ []) (b.name ∷ []) k k (λ n h. h); differ = λ d. plain_differ (b.name ∷ []) d }

  content_name : (k : ℕ) (x : Content) → IsNameOf (block_name x) k (title_name k x)
  content_name k nothing = tt
  content_name k (block None xs) = free_is 1024 k 0 []
  content_name k (block (Some n) xs) = inl (among_first n [])

  loop_titled : (i k : ℕ) (h : LoopHeader) (x : Content) (t : Turns) → turns_of env h ≡ t → HaveTitles (block_name x) k (suc k) (loop_inner i names k h.name.items x t)
  loop_titled i k h x (turns cs) e =
      let is = turns_differ env h cs e in
      let same = turns_titles i k h.name.items x cs in
      record {
        titles = subst (AllByRecursion (IsTitle (block_name x) k (suc k))) (sym same) (turns_are_titles (block_name x) k (title_name k x) cs (content_name k x) (recursion_from_All IsTurn cs is.0));
        differ = λ d. subst (IsDistinct same_part) (sym same) (turns_part (title_name k x) cs is.1);
      }
  loop_titled i k h x (faulty w) e = none_titled (block_name x) k (suc k)
  loop_titled i k h x endless e = none_titled (block_name x) k (suc k)

  taken_name : (k : ℕ) (ns : List (List ℕ)) (x : Content) → IsNamedIn ns (takes x) → IsNameOf ns k (title_name k x)
  taken_name k ns nothing h = tt
  taken_name k ns (block None xs) h = free_is 1024 k 0 ns
  taken_name k ns (block (Some n) xs) h = inl h

  choice_titled : (i k : ℕ) (ns : List (List ℕ)) (t : Taken) → IsNamedIn ns t → HaveTitles ns k (suc k) (choice_inner i names k t)
  choice_titled i k ns (takes x) h =
      let same = content_titles i k None [] x in
      record {
        titles = subst (AllByRecursion (IsTitle ns k (suc k))) (sym same) (one_is_title ns k (title_name k x) None (taken_name k ns x h) tt);
        differ = λ d. subst (IsDistinct same_part) (sym same) (one_differs (title_name k x) None);
      }
  choice_titled i k ns (refused w) h = none_titled ns k (suc k)

  piece_titled : (i k : ℕ) (p : Piece) → HaveTitles (inner_names_in p) k (after_piece k p) (inner_in i env names k p)
  piece_titled i k (plain x) = plain_titled i k x
  piece_titled i k (loop h x) = loop_titled i k h (content_of x) (turns_of env h) refl
  piece_titled i k (choice e x o) = choice_titled i k (each_once (branch_names x ++ other_names o)) (chosen env e x o) (chosen_named env e x o)
  piece_titled i k (local x) = none_titled [] k k
  piece_titled i k (inside b) = inside_titled k b
  piece_titled i k (net n) = none_titled [] k k

  record IsLaterThan (k j : ℕ) : Type 0 where
    low : k ≤ j
    high : j ≤ suc k

  behind_is : (k : ℕ) (p : Piece) → IsLaterThan k (after_piece k p)
  behind_is k (plain x) = record { low = omega arith; high = omega arith }
  behind_is k (loop h x) = record { low = omega arith; high = omega arith }
  behind_is k (choice e x o) = record { low = omega arith; high = omega arith }
  behind_is k (local x) = record { low = omega arith; high = omega arith }
  behind_is k (inside b) = record { low = omega arith; high = omega arith }
  behind_is k (net n) = record { low = omega arith; high = omega arith }

  titles_from : (i k : ℕ) (ps : List Piece) → AllByRecursion (IsTitle (inner_names_among ps) k (k + length ps)) (map title_of (inner_from i env names k ps))
  titles_from i k [] = tt
  titles_from i k (p ∷ ps) =
      let j = after_piece k p in
      let is = behind_is k p in
      let here = inner_in i env names k p in
      let others = inner_from (suc i) env names j ps in
      let ds = inner_names_in p in
      let es = inner_names_among ps in
      let whole = k + length (p ∷ ps) in
      subst (AllByRecursion (IsTitle (ds ++ es) k whole)) (sym (map-append title_of here others))
      (each_append (IsTitle (ds ++ es) k whole) (map title_of here) (map title_of others)
      (each_more (IsTitle ds k j) (IsTitle (ds ++ es) k whole) (λ t h. title_more ds (ds ++ es) k j k whole t (λ n a. among_left n ds es a) (omega arith) (omega (arith, is.high)) h) (map title_of here) (piece_titled i k p).titles)
      (each_more (IsTitle es j (j + length ps)) (IsTitle (ds ++ es) k whole) (λ t h. title_more es (ds ++ es) j (j + length ps) k whole t (λ n a. among_right n ds es a) is.low (omega (arith, is.high)) h) (map title_of others) (titles_from (suc i) j ps)))

  titles_differ_from : (i k : ℕ) (ps : List Piece) → k + length ps < 2 ^ 64 → IsDistinct bytes_eq (inner_names_among ps) → ((n : List ℕ) → Among n (inner_names_among ps) → Among n names) → IsDistinct same_part (map title_of (inner_from i env names k ps))
  unfolding IsDistinct
  titles_differ_from i k [] small d known = tt
  titles_differ_from i k (p ∷ ps) small d known =
      let j = after_piece k p in
      let is = behind_is k p in
      let here = inner_in i env names k p in
      let others = inner_from (suc i) env names j ps in
      let ds = inner_names_in p in
      let es = inner_names_among ps in
      let few : j + length ps < 2 ^ 64 = omega (arith, small, is.high) in
      subst (IsDistinct same_part) (sym (map-append title_of here others))
      (distinct_append same_part (IsTitle ds k j) (IsTitle es j (j + length ps)) (titles_apart ds es k j j (j + length ps) d known (omega arith) few)
      (map title_of here) (map title_of others)
      ((piece_titled i k p).differ (distinct_left bytes_eq ds es d))
      (titles_differ_from (suc i) j ps few (distinct_right bytes_eq ds es d) (λ n h. known n (among_right n ds es h)))
      (piece_titled i k p).titles
      (titles_from (suc i) j ps))

-- ---- scopes

keys_numbered : (base : ℕ) (ds : List DeclaredName) → keys (numbered_names base ds) ≡ names_in ds
keys_numbered base [] = refl
keys_numbered base (d ∷ ds) = ap (λ ms. d.name ∷ ms) (keys_numbered (suc base) ds)

module _ (s : Scope) where
  abbrev constants : Bindings
  constants = constant_names s.constants

  abbrev signals : Bindings
  signals = numbered_names s.base (declarations_of s)

  abbrev genvars : Bindings
  genvars = bound_to Genvar (flat_map genvars_in s.pieces)

  abbrev inners : Bindings
  inners = bound_to Other (inner_names_among s.pieces)

  module _ (d : IsDistinct bytes_eq (all_names_of s)) where
    bound_differ : IsDistinct bytes_eq (keys (constants ++ signals ++ genvars ++ inners))
    bound_differ = distinct_left bytes_eq (keys (bindings_of s)) (ports_again s.ports s.pieces) d

    inners_differ : IsDistinct bytes_eq (inner_names_among s.pieces)
    inners_differ =
        subst (IsDistinct bytes_eq) (keys_bound Other (inner_names_among s.pieces))
        (distinct_right bytes_eq (keys (constants ++ signals ++ genvars)) (keys inners) (subst (IsDistinct bytes_eq) (keys_append (constants ++ signals ++ genvars) inners) bound_differ))

    pub signals_differ : IsDistinct bytes_eq (names_of s)
    signals_differ =
        let others = distinct_left bytes_eq (keys (constants ++ signals ++ genvars)) (keys inners) (subst (IsDistinct bytes_eq) (keys_append (constants ++ signals ++ genvars) inners) bound_differ) in
        let first = distinct_left bytes_eq (keys (constants ++ signals)) (keys genvars) (subst (IsDistinct bytes_eq) (keys_append (constants ++ signals) genvars) others) in
        subst (IsDistinct bytes_eq) (keys_numbered s.base (declarations_of s)) (distinct_right bytes_eq (keys constants) (keys signals) (subst (IsDistinct bytes_eq) (keys_append constants signals) first))

    pub titles_differ : length s.pieces < 2 ^ 63 → ((n : List ℕ) → Among n (inner_names_among s.pieces) → Among n (text_names s)) → IsDistinct same_part (map title_of (inner_of s))
    titles_differ few known = titles_differ_from (environment s) (text_names s) 0 1 s.pieces (omega (arith, few)) inners_differ known

  pub titles_fit : AllByRecursion (λ (n : PathName). FitsTurn n.turn) (map title_of (inner_of s))
  titles_fit =
      each_more (IsTitle (environment s) (text_names s) (inner_names_among s.pieces) 1 (1 + length s.pieces)) (λ n. FitsTurn n.turn) (λ n t. t.fits) (map title_of (inner_of s)) (titles_from (environment s) (text_names s) 0 1 s.pieces)
