-- Signals behind inverters, and the nodes of their graph.
use Rattle.std.proofs.Common.{◌≡◌, ℕ, ◌+◌, ◌-◌, ◌<◌, ◌≤◌, ◌⊎◌, ◌↔◌, inl, inr, Bool, true, false, not, if◌then◌else◌, Option, Some, List, [], ◌∷◌, length, map, get_or, nat_lt, take, IsTrue, refl, sym, ◌∙◌, ap, subst, arith}
use Rattle.std.proofs.Common.{Result, Ok, Err}
use Rattle.std.specs.Result.{IfOk}
use Rattle.std.specs.List.{Contains}
use Rattle.std.proofs.lemmas.Bool.{cases_lt, lt-ltb, le-ltb}
use Rattle.std.proofs.lemmas.List.{get_or_past, get_or-take, length-take}
use Rattle.std.proofs.lemmas.List.Elements.{Contains-append_left, Contains-append_right, Contains-append_cases}
use Rattle.std.proofs.lemmas.Option.{same_Some, slice_get_within}
use Rattle.vs_design.specs.declared.signal.Signal.{Signal}
use Rattle.vs_design.specs.Kinds.{is_variable}
use Rattle.vs_design.specs.Parts.{Parts}
use Rattle.vs_maps.specs.vs_graph.specs.Reached.{Reached, AreReached, begins, goes_on}
use Rattle.vs_maps.specs.vs_graph.specs.Rows.{AreRows, row}
use Rattle.vs_maps.specs.vs_graph.proofs.RowLemmas.{head_in, tail_in, in_either as split}
use Rattle.vs_maps.proofs.SignalLemmas.{image_in}
use Rattle.vs_slots_constants.specs.Inverted.{AreInverted}
use Rattle.vs_slots_constants.specs.vs_rules.specs.Claims.{HasKind}
use Rattle.vs_slots_constants.specs.vs_rules.specs.Copies.{IsOneBit, CopiesRoot, itself, copy, inverse, is_odd, IsInverted}
use Rattle.vs_slots_constants.specs.vs_rules.proofs.Copies.{never_inverted}
use Rattle.vs_design.specs.vs_logic4.proofs.Basics.{none_in}
use Rattle.vs_drivers.specs.Copies.{AreSources, IsOf, IsCopyOf, source_in}
use Rattle.vs_drivers.specs.Inverses.{AreStarts, AreBack, AreWithin, node, copy_nodes, mirrored}
use Rattle.vs_drivers.proofs.CopyLemmas.{copied_bit, copy_within}

-- ---- lists

map_has : {A B : Type 0} (f : A → B) (xs : List A) (a : A) → Contains xs a → Contains (map f xs) (f a)
map_has f [] a h = absurd (none_in a h)
map_has {A = A} {B = B} f (x ∷ xs) a h = elim (split x a xs h) [
  | inl e ↦ subst (λ (y : B). Contains (f x ∷ map f xs) y) (ap f e) (head_in (f x) (map f xs))
  | inr l ↦ tail_in (f x) (f a) (map f xs) (map_has f xs a l)
]

-- ---- results

pub both : {X Y : Type 0} (r : Result X Y) (P Q R : X → Type 0) → ((x : X) → P x → Q x → R x) → IfOk r P → IfOk r Q → IfOk r R
both (Ok x) P Q R f p q = f x p q
both (Err e) P Q R f p q = tt

-- ---- variables

pub start_is : (d : Parts) (v : ℕ) → IsOneBit d v → (HasKind false d v → ⊥) → HasKind true d v
start_is d v one net = by (is_variable one.0.kind) refl where
  by : (b : Bool) → is_variable one.0.kind ≡ b → HasKind true d v
  by true e = (one.0, one.1, e)
  by false e = absurd (net (one.0, one.1, e))

pub unset : (b : Bool) → (IsTrue b → ⊥) → IsTrue (not b)
unset false h = refl
unset true h = absurd (h refl)

pub no_net : (d : Parts) (v : ℕ) → HasKind true d v → HasKind false d v → ⊥
no_net d v a b =
    let e : true ≡ false = sym a.2 ∙ ap (λ (s : Signal). is_variable s.kind) (same_Some a.0 b.0 (sym a.1 ∙ b.1)) ∙ b.2 in
    cc

-- ---- rows of copies

pub back_is : (d : Parts) (turned : Bool) (n : ℕ) (sources : List (Option ℕ)) (table : List (List ℕ)) → n ≡ length d.signals → AreSources d turned sources → length table ≡ n →
    AreRows (λ v u. source_in sources v ≡ Some u) n n table → AreBack d turned table
back_is d turned n sources table count are long rows u v = by (cases_lt u n) where
  by : (u < n) ⊎ (n ≤ u) → (Contains (row table u) v ↔ IsCopyOf d turned v u)
  by (inl l) = (
    λ h. (are v u).1 ((rows u v l).0 h).1,
    λ c. (rows u v l).1 (omega (arith, count, (copy_within d turned v u c).0), (are v u).0 c),
  )
  by (inr l) = (
    λ h. absurd (none_in v (subst (λ (r : List ℕ). Contains r v) (get_or_past table u [] (omega (arith, long, l))) h)),
    λ c. absurd (omega (arith, count, l, (copy_within d turned v u c).1)),
  )

pub back_within : (d : Parts) (turned : Bool) (table : List (List ℕ)) → AreBack d turned table → AreWithin table (length d.signals)
back_within d turned table back u v h = (copy_within d turned v u ((back u v).0 h)).0

-- ---- nodes

node_within : (n : ℕ) (odd : Bool) (v : ℕ) → v < n → node n odd v < n + n
node_within n true v h = omega (arith, h)
node_within n false v h = omega (arith, h)

nodes_within : (n : ℕ) (odd : Bool) (table : List (List ℕ)) (u b : ℕ) → AreWithin table n → Contains (map (node n odd) (row table u)) b → b < n + n
nodes_within n odd table u b inside h =
    let m = image_in (node n odd) (row table u) b h in
    subst (λ (k : ℕ). k < n + n) m.2 (node_within n odd m.0 (inside u m.0 m.1))

put_headed_within : (copies inverses : List (List ℕ)) (n : ℕ) (odd : Bool) (u b : ℕ) → AreWithin copies n → AreWithin inverses n → Contains (copy_nodes copies inverses n odd u) b → b < n + n
put_headed_within copies inverses n odd u b these those h = elim (Contains-append_cases (map (node n odd) (row copies u)) (map (node n (not odd)) (row inverses u)) b h) [
  | inl l ↦ nodes_within n odd copies u b these l
  | inr r ↦ nodes_within n (not odd) inverses u b those r
]

pub mirrored_within : (copies inverses : List (List ℕ)) (n : ℕ) → AreWithin copies n → AreWithin inverses n → (a b : ℕ) → Contains (mirrored copies inverses n a) b → b < n + n
mirrored_within copies inverses n these those a b h = by (nat_lt a n) h where
  by : (c : Bool) → Contains (if c then copy_nodes copies inverses n true a else copy_nodes copies inverses n false (a - n)) b → b < n + n
  by true k = put_headed_within copies inverses n true a b these those k
  by false k = put_headed_within copies inverses n false (a - n) b these those k

-- what lies behind the node of a signal
mirrored_at : (copies inverses : List (List ℕ)) (n : ℕ) (odd : Bool) (u : ℕ) → u < n → mirrored copies inverses n (node n odd u) ≡ copy_nodes copies inverses n odd u
mirrored_at copies inverses n true u h =
    ap (λ (c : Bool). if c then copy_nodes copies inverses n true u else copy_nodes copies inverses n false (u - n)) (lt-ltb u n h)
mirrored_at copies inverses n false u h =
    let e : n + u - n ≡ u = omega arith in
    ap (λ (c : Bool). if c then copy_nodes copies inverses n true (n + u) else copy_nodes copies inverses n false (n + u - n)) (le-ltb (n + u) n (omega arith))
    ∙ ap (copy_nodes copies inverses n false) e

-- ---- what is reached

-- a signal shows a variable, by so many inverters
abbrev Shows : Parts → Bool → ℕ → Type 0
Shows d odd v = (root : ℕ) × HasKind true d root × (c : CopiesRoot d true root v) × (is_odd c ≡ odd)

abbrev many : Parts → ℕ
many d = length d.signals

-- a number is that of the node of a signal that shows a variable so
abbrev IsNode : Parts → ℕ → Type 0
IsNode d a = (odd : Bool) × (v : ℕ) × (v < many d) × (node (many d) odd v ≡ a) × Shows d odd v

root_bit : (d : Parts) (wide : Bool) (root v : ℕ) → CopiesRoot d wide root v → IsOneBit d v
root_bit d wide root _ (itself one) = one
root_bit d wide root _ (copy v u one c rest) = one
root_bit d wide root _ (inverse v u e one c rest) = one

bit_within : (d : Parts) (v : ℕ) → IsOneBit d v → v < length d.signals
bit_within d v one = slice_get_within d.signals v one.0 one.1

pub starts_within : (d : Parts) (seeds : List ℕ) → AreStarts d seeds → (s : ℕ) → Contains seeds s → s < length d.signals + length d.signals
starts_within d seeds starts s h =
    let n = length d.signals in
    let x = (starts s).0 h in
    subst (λ (k : ℕ). k < n + n) x.2.1 (node_within n false x.0 x.1)

-- a node behind one
step : (d : Parts) (copies inverses : List (List ℕ)) → AreBack d false copies → AreBack d true inverses → (odd : Bool) (u b : ℕ) → Shows d odd u →
    Contains (map (node (many d) odd) (row copies u)) b ⊎ Contains (map (node (many d) (not odd)) (row inverses u)) b → IsNode d b
step d copies inverses these those odd u b shows (inl l) =
    let m = image_in (node (many d) odd) (row copies u) b l in
    let c = (these u m.0).0 m.1 in
    let bit = copied_bit d (IsOf d false) m.0 u c (root_bit d true shows.0 u shows.2) in
    (odd, m.0, bit_within d m.0 bit, m.2, (shows.0, shows.1, copy m.0 u bit c shows.2, shows.3))
step d copies inverses these those odd u b shows (inr r) =
    let m = image_in (node (many d) (not odd)) (row inverses u) b r in
    let c = (those u m.0).0 m.1 in
    let bit = copied_bit d (IsOf d true) m.0 u c (root_bit d true shows.0 u shows.2) in
    (not odd, m.0, bit_within d m.0 bit, m.2, (shows.0, shows.1, inverse m.0 u refl bit c shows.2, ap not shows.3))

reached_there : (d : Parts) (copies inverses : List (List ℕ)) (seeds : List ℕ) → AreBack d false copies → AreBack d true inverses → AreStarts d seeds →
    (a : ℕ) → Reached (mirrored copies inverses (many d)) seeds a → IsNode d a
reached_there d copies inverses seeds these those starts _ (begins a h) =
    let x = (starts a).0 h in
    (false, x.0, x.1, x.2.1, (x.0, x.2.0.1, itself x.2.0.0, refl))
reached_there d copies inverses seeds these those starts _ (goes_on a b r c) =
    let x = reached_there d copies inverses seeds these those starts a r in
    let at = subst (λ (k : ℕ). Contains (mirrored copies inverses (many d) k) b) (sym x.3) c in
    let next = subst (λ (l : List ℕ). Contains l b) (mirrored_at copies inverses (many d) x.0 x.1 x.2) at in
    step d copies inverses these those x.0 x.1 b x.4 (Contains-append_cases (map (node (many d) x.0) (row copies x.1)) (map (node (many d) (not x.0)) (row inverses x.1)) b next)

reached_back : (d : Parts) (copies inverses : List (List ℕ)) (seeds : List ℕ) → AreBack d false copies → AreBack d true inverses → AreStarts d seeds →
    (root v : ℕ) → HasKind true d root → (c : CopiesRoot d true root v) → Reached (mirrored copies inverses (many d)) seeds (node (many d) (is_odd c) v)
reached_back d copies inverses seeds these those starts root _ kind (itself one) =
    begins (node (many d) false root) ((starts (node (many d) false root)).1 (root, bit_within d root one, ((one, kind), refl)))
reached_back d copies inverses seeds these those starts root _ kind (copy v u one c rest) =
    let odd = is_odd rest in
    goes_on (node (many d) odd u) (node (many d) odd v) (reached_back d copies inverses seeds these those starts root u kind rest)
    (subst (λ (l : List ℕ). Contains l (node (many d) odd v)) (sym (mirrored_at copies inverses (many d) odd u (bit_within d u (root_bit d true root u rest))))
    (Contains-append_left (map (node (many d) odd) (row copies u)) (map (node (many d) (not odd)) (row inverses u)) (node (many d) odd v)
    (map_has (node (many d) odd) (row copies u) v ((these u v).1 c))))
reached_back d copies inverses seeds these those starts root _ kind (inverse v u e one c rest) =
    let odd = is_odd rest in
    goes_on (node (many d) odd u) (node (many d) (not odd) v) (reached_back d copies inverses seeds these those starts root u kind rest)
    (subst (λ (l : List ℕ). Contains l (node (many d) (not odd) v)) (sym (mirrored_at copies inverses (many d) odd u (bit_within d u (root_bit d true root u rest))))
    (Contains-append_right (map (node (many d) odd) (row copies u)) (map (node (many d) (not odd)) (row inverses u)) (node (many d) (not odd) v)
    (map_has (node (many d) (not odd)) (row inverses u) v ((those u v).1 c))))

-- ---- the table

odd_node : (d : Parts) (v : ℕ) → v < length d.signals → IsNode d v → IsInverted d true v
odd_node d v h (true, u, l, e, s) =
    let t = subst (Shows d true) e s in
    record { root = t.0; variable = t.1; copies = t.2; odd = t.3 }
odd_node d v h (false, u, l, e, s) = absurd (omega (arith, h, e))

pub inverted_are : (d : Parts) (copies inverses : List (List ℕ)) (seeds : List ℕ) (marks : List Bool) → AreBack d false copies → AreBack d true inverses →
    AreStarts d seeds → length marks ≡ many d + many d → AreReached (mirrored copies inverses (many d)) seeds (many d + many d) marks → AreInverted d true (take (many d) marks)
inverted_are d copies inverses seeds marks these those starts long are v = by (cases_lt v (many d)) where
  by : (v < many d) ⊎ (many d ≤ v) → (get_or (take (many d) marks) v false ≡ true ↔ IsInverted d true v)
  by (inl l) =
      let e = get_or-take (many d) marks v false l in
      let m = are v (omega (arith, l)) in (
        λ h. odd_node d v l (reached_there d copies inverses seeds these those starts v (m.0 (sym e ∙ h))),
        λ i. e ∙ m.1 (subst (λ (odd : Bool). Reached (mirrored copies inverses (many d)) seeds (node (many d) odd v)) i.odd
            (reached_back d copies inverses seeds these those starts i.root v i.variable i.copies)),
      )
  by (inr l) = (
    λ h. let e : false ≡ true = sym (get_or_past (take (many d) marks) v false (omega (arith, l, length-take (many d) marks))) ∙ h in cc,
    λ i. absurd (omega (arith, l, bit_within d v (root_bit d true i.root v i.copies))),
  )

pub none_inverted : (d : Parts) (wide : Bool) → wide ≡ false → AreInverted d wide []
none_inverted d wide narrow v = (
  λ h. let e : false ≡ true = sym (get_or_past {X = Bool} [] v false (omega arith)) ∙ h in cc,
  λ i. absurd (never_inverted d v (subst (λ (w : Bool). IsInverted d w v) narrow i)),
)
