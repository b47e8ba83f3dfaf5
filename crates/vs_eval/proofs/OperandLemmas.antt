-- Lemmas on nodes made of those of operands.
use Rattle.std.proofs.Common.{◌≡◌, ℕ, ◌+◌, ◌-◌, ◌*◌, ◌<◌, ◌≤◌, min, List, [], ◌∷◌, ◌++◌, map, length, get_or, take, drop, refl, sym, ◌∙◌, ap, ap₂, subst, arith}
use Rattle.std.specs.Prelude.{Option, Some, None, Result, Ok, Err, IfOk, IfSome, if◌then◌else◌}
use Rattle.std.proofs.lemmas.List.{drop_all, length-take, map-append, take_all, take_more}
use Rattle.std.specs.declared.alloc.Global.{Global}
use Rattle.std.specs.declared.boxed.Box.{Box}
use Rattle.std.specs.declared.vec.Vec.{Vec}
use Rattle.vs_design.specs.vs_logic4.specs.declared.digit.Digit.{Digit}
use Rattle.vs_design.specs.vs_logic4.specs.Comparisons.{truth}
use Rattle.vs_design.specs.vs_logic4.specs.Lengths.{length-concatenation, length-replication}
use Rattle.vs_design.specs.vs_logic4.specs.Operators.{is_one_bit, sizing_of}
use Rattle.vs_design.specs.vs_logic4.specs.Parts.{concatenation, replication}
use Rattle.vs_design.specs.vs_logic4.proofs.Basics.{only_one}
use Rattle.vs_design.specs.declared.expression.Count.{Count}
use Rattle.vs_design.specs.declared.expression.Link.{Link}
use Rattle.vs_design.specs.declared.expression.Typed.{Typed}
use Rattle.vs_design.specs.declared.signal.Signal.{Signal}
use Rattle.vs_design.specs.InOrder.{IsStoreOf}
use Rattle.vs_design.specs.Stores.{Store}
use Rattle.vs_eval.specs.Values.{linked, chained, picked, chosen, concatenated, value_of}
use Rattle.vs_eval.proofs.ValueLemmas.{chosen_before}
use Rattle.vs_eval.specs.declared.node.Node.{Node}
use Rattle.vs_eval.specs.declared.node.Node.TheVariants as v
use Rattle.vs_eval.specs.declared.node.Planes.{Planes}
use Rattle.vs_eval.specs.declared.node.Sides.{Sides}
use Rattle.vs_eval.specs.declared.node.Size.{Size}
use Rattle.vs_eval.specs.Copies.{links_of, pairs_of, parts_of}
use Rattle.vs_eval.specs.Meant.{AreSides, AreSized, IsMeant, Means, Values}
use Rattle.vs_eval.specs.Nodes as nodes
use Rattle.vs_eval.specs.Nodes.{combined, planes_in}
use Rattle.vs_eval.specs.PlanesOf.{planes_of, digits_of}
use Rattle.vs_eval.proofs.MeantLemmas.{chosen_planes, linked_long, linked_planes, picked_long}
use Rattle.vs_eval.proofs.NodeLemmas.{in_chain, in_concat, in_if, in_repeat, in_two}
use Rattle.vs_eval.proofs.PlanesLemmas.{own_digits}

-- a node that means a value means an equal one
pub means_as : (signals : List Signal) (values others : Values) (node : Node) (width : ℕ) → ((store : Store) (time : ℕ) → values store time ≡ others store time) →
    Means signals values node width → Means signals others node width
means_as signals values others node width same m = record {
  sized = λ store time is. ap length (sym (same store time)) ∙ m.sized store time is;
  same = λ store time is. m.same store time is ∙ ap planes_of (same store time);
}

-- ---- results

-- what holds of what is answered, where anything is
pub answered : {A E : Type 0} (P Q : A → Type 0) (r : Result (Option A) E) → ((a : A) → P a → Q a) → IfOk r (λ o. IfSome o P) → IfOk r (λ o. IfSome o Q)
answered P Q (Ok (Some a)) f h = f a h
answered P Q (Ok None) f h = h
answered P Q (Err e) f h = h

-- ---- operators between operands

-- an operator between two operands that have their meaning
module _ (signals : List Signal) (values : Values) (link : Link) (e : Typed) (sides : Sides) (left right next : ℕ) (a b : Box Node Global) (x y : Node) (a_is : a.value ≡ x) (b_is : b.value ≡ y) where
  pub pair_means : AreSides link sides left right → next ≡ (if is_one_bit (sizing_of link.operator) then 1 else link.width) → IsMeant signals e y right → Means signals values x left →
      Means signals (λ store time. linked (values store time) (link, value_of e store time)) (v.Two sides a b) next
  pair_means s wide my mx = record {
    sized = λ store time is. linked_long link (values store time) (value_of e store time) ∙ sym wide;
    same = λ store time is.
        in_two store time sides a b
        ∙ ap₂ (λ (m n : Node). combined (planes_in m store time) (sides, planes_in n store time)) a_is b_is
        ∙ ap₂ (λ p q. combined p (sides, q)) (mx.same store time is) (my.same store time is)
        ∙ linked_planes sides link (values store time) (value_of e store time) s.operator s.signed (s.left_is (values store time) (mx.sized store time is)) (s.right_is (value_of e store time) (my.sized store time is));
  }

-- one link more on the right
chained_more : (first : List Digit) (ls : List (Link × List Digit)) (l : Link × List Digit) → chained first (ls ++ l ∷ []) ≡ linked (chained first ls) l
chained_more first [] l = refl
chained_more first (k ∷ ls) l = chained_more (linked first k) ls l

combined_more : (first : Planes) (ls : List (Sides × Planes)) (l : Sides × Planes) → nodes.chained first (ls ++ l ∷ []) ≡ combined (nodes.chained first ls) l
combined_more first [] l = refl
combined_more first (k ∷ ls) l = combined_more (combined first k) ls l

-- the planes after operators
abbrev pub sides_of : List (Sides × Node) → Store → ℕ → List (Sides × Planes)
sides_of all store time = map (λ l. (l.0, planes_in l.1 store time)) all

-- whether nodes after a first one mean what some links give after its value, at this size
pub record AreLinked (signals : List Signal) (values : Values) (first : Node) (links : List (Link × Typed)) (all : List (Sides × Node)) (width : ℕ) : Type 0 where
  pub sized : AreSized signals (λ store time. chained (values store time) (links_of links store time)) width
  pub same : (store : Store) (time : ℕ) → IsStoreOf signals store →
      nodes.chained (planes_in first store time) (sides_of all store time) ≡ planes_of (chained (values store time) (links_of links store time))

module _ (signals : List Signal) (values : Values) (first : Node) where
  -- before the first link
  pub none_linked : (width : ℕ) → Means signals values first width → AreLinked signals values first [] [] width
  none_linked width m = record { sized = m.sized; same = m.same }

  link_added : (link : Link) (e : Typed) (sides : Sides) (y : Node) (left right next : ℕ) (links : List (Link × Typed)) (all : List (Sides × Node)) → AreSides link sides left right →
      IsMeant signals e y right → ((l r : List Digit) → length (linked l (link, r)) ≡ next) → AreLinked signals values first links all left →
      AreLinked signals values first (links ++ (link, e) ∷ []) (all ++ (sides, y) ∷ []) next
  link_added link e sides y left right next links all s m size so_far =
      let more : (store : Store) (time : ℕ) → chained (values store time) (links_of (links ++ (link, e) ∷ []) store time)
      ≡ linked (chained (values store time) (links_of links store time)) (link, value_of e store time) =
      λ store time.
      ap (chained (values store time)) (map-append (λ (l : Link × Typed). (l.0, value_of l.1 store time)) links ((link, e) ∷ []))
      ∙ chained_more (values store time) (links_of links store time) (link, value_of e store time) in
      record {
        sized = λ store time is. ap length (more store time) ∙ size (chained (values store time) (links_of links store time)) (value_of e store time);
        same = λ store time is.
            ap (nodes.chained (planes_in first store time)) (map-append (λ (l : Sides × Node). (l.0, planes_in l.1 store time)) all ((sides, y) ∷ []))
            ∙ combined_more (planes_in first store time) (sides_of all store time) (sides, planes_in y store time)
            ∙ ap₂ (λ p q. combined p (sides, q)) (so_far.same store time is) (m.same store time is)
            ∙ linked_planes sides link (chained (values store time) (links_of links store time)) (value_of e store time) s.operator s.signed
            (s.left_is (chained (values store time) (links_of links store time)) (so_far.sized store time is)) (s.right_is (value_of e store time) (m.sized store time is))
            ∙ ap planes_of (sym (more store time));
      }

  -- a loop's step
  pub link_step : (xs : List (Link × Typed)) (i : ℕ) (x : Link × Typed) (all more : List (Sides × Node)) (sides : Sides) (y : Node) (left right next : ℕ) → i < length xs → x ≡ get_or xs i x →
      more ≡ all ++ (sides, y) ∷ [] → AreSides x.0 sides left right → IsMeant signals x.1 y right → ((l r : List Digit) → length (linked l (x.0, r)) ≡ next) →
      AreLinked signals values first (take i xs) all left → AreLinked signals values first (take (i + 1) xs) more next
  link_step xs i x all more sides y left right next below is pushed s m size so_far =
      let front : take (i + 1) xs ≡ take i xs ++ x ∷ [] = take_more xs i x below ∙ ap (λ z. take i xs ++ z ∷ []) (sym is) in
      subst (λ z. AreLinked signals values first z more next) (sym front)
      (subst (λ z. AreLinked signals values first (take i xs ++ x ∷ []) z next) (sym pushed)
      (link_added x.0 x.1 sides y left right next (take i xs) all s m size so_far))

  -- one link alone
  pub one_linked : (xs : List (Link × Typed)) (x : Link × Typed) (node : Node) (width : ℕ) → length xs ≡ 1 → x ≡ get_or xs 0 x →
      Means signals (λ store time. linked (values store time) (x.0, value_of x.1 store time)) node width → Means signals (λ store time. chained (values store time) (links_of xs store time)) node width
  one_linked xs x node width long is m =
      means_as signals (λ store time. linked (values store time) (x.0, value_of x.1 store time)) (λ store time. chained (values store time) (links_of xs store time)) node width
      (λ store time. ap (λ ls. chained (values store time) (links_of ls store time)) (sym (only_one xs x long is))) m

  -- after the last link
  pub all_linked : (xs : List (Link × Typed)) (i : ℕ) (all : Vec (Sides × Node) Global) (width : ℕ) (box : Box Node Global) → length xs ≤ i → box.value ≡ first →
      AreLinked signals values first (take i xs) all.items width → Means signals (λ store time. chained (values store time) (links_of xs store time)) (v.Chain box all) width
  all_linked xs i all width box end made so_far =
      let whole : AreLinked signals values first xs all.items width = subst (λ z. AreLinked signals values first z all.items width) (take_all i xs end) so_far in
      record {
        sized = whole.sized;
        same = λ store time is.
            in_chain store time box all
            ∙ ap (λ (n : Node). nodes.chained (planes_in n store time) (sides_of all.items store time)) made
            ∙ whole.same store time is;
      }

-- ---- choices

module _ (signals : List Signal) (others : Values) (condition e : Typed) (size width : Size) (c x y : Box Node Global) (cn xn yn : Node) (c_is : c.value ≡ cn) (x_is : x.value ≡ xn) (y_is : y.value ≡ yn) where
  pub if_means : IsMeant signals condition cn size.width → IsMeant signals e xn width.width → Means signals others yn width.width →
      Means signals (λ store time. picked (truth (value_of condition store time)) (value_of e store time) (others store time)) (v.If size width c x y) width.width
  if_means mc mx my = record {
    sized = λ store time is. picked_long (truth (value_of condition store time)) (value_of e store time) (others store time) width.width (mx.sized store time is) (my.sized store time is);
    same = λ store time is.
        in_if store time size width c x y
        ∙ ap (λ n. nodes.chosen (truth (digits_of size.width (planes_in n store time))) width (planes_in x.value store time) (planes_in y.value store time)) c_is
        ∙ ap (λ p. nodes.chosen (truth (digits_of size.width p)) width (planes_in x.value store time) (planes_in y.value store time)) (mc.same store time is)
        ∙ ap (λ ds. nodes.chosen (truth ds) width (planes_in x.value store time) (planes_in y.value store time)) (own_digits size.width (value_of condition store time) (mc.sized store time is))
        ∙ ap₂ (λ (m n : Node). nodes.chosen (truth (value_of condition store time)) width (planes_in m store time) (planes_in n store time)) x_is y_is
        ∙ ap₂ (λ p q. nodes.chosen (truth (value_of condition store time)) width p q) (mx.same store time is) (my.same store time is)
        ∙ chosen_planes (truth (value_of condition store time)) width (value_of e store time) (others store time) (mx.sized store time is);
  }

module _ (signals : List Signal) (values : Values) (pairs : List (Typed × Typed)) where
  -- before the last pair
  pub none_chosen : (i : ℕ) (node : Node) (width : ℕ) → length pairs ≤ i → Means signals values node width →
      Means signals (λ store time. chosen (pairs_of (drop i pairs) store time) (values store time)) node width
  none_chosen i node width end m =
      means_as signals values (λ store time. chosen (pairs_of (drop i pairs) store time) (values store time)) node width
      (λ store time. ap (λ ps. chosen (pairs_of ps store time) (values store time)) (sym (drop_all i pairs end))) m

  -- one pair more before the others
  pub pair_before : (i : ℕ) (p : Typed × Typed) (node : Node) (width : ℕ) → 0 < i → i ≤ length pairs → p ≡ get_or pairs (i - 1) p →
      Means signals (λ store time. picked (truth (value_of p.0 store time)) (value_of p.1 store time) (chosen (pairs_of (drop i pairs) store time) (values store time))) node width →
      Means signals (λ store time. chosen (pairs_of (drop (i - 1) pairs) store time) (values store time)) node width
  pair_before i p node width some most is m =
      means_as signals
      (λ store time. picked (truth (value_of p.0 store time)) (value_of p.1 store time) (chosen (pairs_of (drop i pairs) store time) (values store time)))
      (λ store time. chosen (pairs_of (drop (i - 1) pairs) store time) (values store time)) node width
      (λ store time. chosen_before (λ (q : Typed × Typed). (value_of q.0 store time, value_of q.1 store time)) pairs i p (values store time) (chosen (pairs_of (drop i pairs) store time) (values store time)) _ some most is refl refl) m

-- ---- concatenations

concatenated_more : (high : List Digit) (ls : List (List Digit)) (l : List Digit) → concatenated high (ls ++ l ∷ []) ≡ take 64 (concatenation (concatenated high ls) l)
concatenated_more high [] l = refl
concatenated_more high (k ∷ ls) l = concatenated_more (take 64 (concatenation high k)) ls l

-- the vectors of parts of their sizes
abbrev pub digits_in : List (Size × Node) → Store → ℕ → List (List Digit)
digits_in parts store time = map (λ p. digits_of p.0.width (planes_in p.1 store time)) parts

-- whether nodes after a first one are parts of these values, all of them of this size
pub record AreJoined (signals : List Signal) (values : Values) (others : List Typed) (parts : List (Size × Node)) (width : ℕ) : Type 0 where
  pub sized : AreSized signals (λ store time. concatenated (values store time) (parts_of others store time)) width
  pub same : (store : Store) (time : ℕ) → IsStoreOf signals store → digits_in parts store time ≡ parts_of others store time

module _ (signals : List Signal) (values : Values) where
  -- before the first of the others
  pub none_joined : (width : ℕ) → AreSized signals values width → AreJoined signals values [] [] width
  none_joined width sized = record { sized = sized; same = λ store time is. refl }

  part_added : (others : List Typed) (e : Typed) (parts : List (Size × Node)) (y : Node) (size : Size) (high next : ℕ) → next ≡ min 64 (high + size.width) → IsMeant signals e y size.width →
      AreJoined signals values others parts high → AreJoined signals values (others ++ e ∷ []) (parts ++ (size, y) ∷ []) next
  part_added others e parts y size high next joined m so_far = record {
    sized = λ store time is.
        let before = concatenated (values store time) (parts_of others store time) in
        ap length
        (ap (concatenated (values store time)) (map-append (λ (e : Typed). value_of e store time) others (e ∷ []))
        ∙ concatenated_more (values store time) (parts_of others store time) (value_of e store time))
        ∙ omega (arith, length-take 64 (concatenation before (value_of e store time)), length-concatenation before (value_of e store time), so_far.sized store time is, m.sized store time is, joined);
    same = λ store time is.
        map-append (λ (p : Size × Node). digits_of p.0.width (planes_in p.1 store time)) parts ((size, y) ∷ [])
        ∙ ap₂ (λ ds d. ds ++ d ∷ []) (so_far.same store time is) (ap (digits_of size.width) (m.same store time is) ∙ own_digits size.width (value_of e store time) (m.sized store time is))
        ∙ sym (map-append (λ (e : Typed). value_of e store time) others (e ∷ []));
  }

  -- a loop's step
  pub part_step : (xs : List Typed) (i : ℕ) (x : Typed) (parts more : List (Size × Node)) (y : Node) (size : Size) (high next : ℕ) → i < length xs → x ≡ get_or xs i x →
      more ≡ parts ++ (size, y) ∷ [] → next ≡ min 64 (high + size.width) → IsMeant signals x y size.width → AreJoined signals values (take i xs) parts high →
      AreJoined signals values (take (i + 1) xs) more next
  part_step xs i x parts more y size high next below is pushed joined m so_far =
      let front : take (i + 1) xs ≡ take i xs ++ x ∷ [] = take_more xs i x below ∙ ap (λ z. take i xs ++ z ∷ []) (sym is) in
      subst (λ z. AreJoined signals values z more next) (sym front)
      (subst (λ z. AreJoined signals values (take i xs ++ x ∷ []) z next) (sym pushed) (part_added (take i xs) x parts y size high next joined m so_far))

  -- after the last part
  pub all_parts : (first : Node) (own : Size) (xs : List Typed) (i : ℕ) (parts : Vec (Size × Node) Global) (width : ℕ) (box : Box Node Global) → length xs ≤ i → box.value ≡ first →
      Means signals values first own.width → AreJoined signals values (take i xs) parts.items width →
      Means signals (λ store time. concatenated (values store time) (parts_of xs store time)) (v.Concat own box parts) width
  all_parts first own xs i parts width box end made m so_far =
      let whole : AreJoined signals values xs parts.items width = subst (λ z. AreJoined signals values z parts.items width) (take_all i xs end) so_far in
      record {
        sized = whole.sized;
        same = λ store time is.
            in_concat store time own box parts
            ∙ ap (λ (n : Node). nodes.joined own (planes_in n store time) (map (λ p. (p.0, planes_in p.1 store time)) parts.items)) made
            ∙ ap planes_of
            (ap₂ concatenated (ap (digits_of own.width) (m.same store time is) ∙ own_digits own.width (values store time) (m.sized store time is))
            (map_map parts.items store time ∙ whole.same store time is));
      }
    where
      map_map : (ps : List (Size × Node)) (store : Store) (time : ℕ) →
          map (λ (p : Size × Planes). digits_of p.0.width p.1) (map (λ (p : Size × Node). (p.0, planes_in p.1 store time)) ps) ≡ digits_in ps store time
      map_map [] store time = refl
      map_map (p ∷ ps) store time = ap (λ ds. digits_of p.0.width (planes_in p.1 store time) ∷ ds) (map_map ps store time)

  -- a part that is repeated
  pub repeat_means : (x : Node) (count : Count) (own : Size) (width : ℕ) (box : Box Node Global) → width ≡ min 64 (count.times * own.width) → box.value ≡ x → Means signals values x own.width →
      Means signals (λ store time. take 64 (replication count.times (values store time))) (v.Repeat count own box) width
  repeat_means x count own width box wide made m = record {
    sized = λ store time is.
        length-take 64 (replication count.times (values store time))
        ∙ ap (min 64) (length-replication count.times (values store time) ∙ ap (λ k. count.times * k) (m.sized store time is))
        ∙ sym wide;
    same = λ store time is.
        in_repeat store time count own box
        ∙ ap (λ (n : Node). nodes.repeated count own (planes_in n store time)) made
        ∙ ap (λ ds. planes_of (take 64 (replication count.times ds))) (ap (digits_of own.width) (m.same store time is) ∙ own_digits own.width (values store time) (m.sized store time is));
  }
