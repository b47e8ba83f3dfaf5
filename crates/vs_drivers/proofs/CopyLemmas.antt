-- Which net copies which signal, or its inverse.
use Rattle.std.proofs.Common.{◌≡◌, ℕ, zero, suc, ◌+◌, ◌<◌, ◌≤◌, ◌⊎◌, ◌↔◌, ◌++◌, inl, inr, Bool, true, false, Option, Some, None, List, [], ◌∷◌, length, map, get_or, slice_get, IsTrue, refl, sym, ◌∙◌, ap, subst, arith}
use Rattle.std.specs.List.{Contains}
use Rattle.std.proofs.lemmas.List.{get_or_past, length_push}
use Rattle.std.proofs.lemmas.List.Elements.{Contains-append_left, Contains-append_right, Contains-append_cases}
use Rattle.vs_design.specs.vs_logic4.specs.declared.operators.Unary.TheVariants as y
use Rattle.vs_design.specs.declared.signal.SignalKind.{SignalKind}
use Rattle.vs_design.specs.declared.signal.SignalKind.TheVariants.{Reg, Integer}
use Rattle.vs_design.specs.Kinds.{is_variable}
use Rattle.std.proofs.lemmas.Option.{same_Some, slice_get_within, slice_get_past, slice_get-get_or}
use Rattle.vs_design.specs.declared.design.Assign.{Assign}
use Rattle.vs_design.specs.declared.expression.Typed.{Typed, Typed-F}
use Rattle.vs_design.specs.declared.expression.Typed.TheViews.{out-Typed}
use Rattle.vs_design.specs.declared.expression.Typed.TheOpen as t
use Rattle.vs_design.specs.declared.range.BitRange.{BitRange}
use Rattle.vs_design.specs.declared.statement.Target.{Target}
use Rattle.vs_design.specs.Parts.{Parts}
use Rattle.vs_design.specs.Uses.{aim_range, slice_range, writes}
use Rattle.vs_maps.specs.vs_graph.specs.Reached.{Reached, AreReached, begins, goes_on}
use Rattle.vs_maps.specs.vs_graph.proofs.RowLemmas.{head_in as first_in}
use Rattle.vs_slots_constants.specs.vs_rules.specs.Claims.{HasKind}
use Rattle.vs_slots_constants.specs.vs_rules.specs.Constants.{IsWholeSelect, IsWholeLayer, IsNegationLayer, InvertsLayer, IsWholeTarget}
use Rattle.vs_slots_constants.specs.vs_rules.specs.Copies.{IsCopyBy, IsOneBit, CopiesRoot}
use Rattle.vs_slots_constants.specs.vs_rules.specs.Copies as r
use Rattle.vs_slots_constants.specs.vs_rules.specs.Blocks.{CopiesWhole, itself, copy}
use Rattle.vs_slots_constants.specs.Wholes.{is_plain}
use Rattle.vs_slots_constants.proofs.WholeLemmas.{plain_of, plain_by}
use Rattle.vs_maps.specs.Ranges.{HasSignal}
use Rattle.vs_maps.proofs.RangeLemmas.{lists_signal}
use Rattle.vs_maps.proofs.Join.{only as in_single}
use Rattle.vs_drivers.specs.Copies.{IsOnly, NamesTarget, AreDrivers, AreSources, IsOf, IsCopyOf, IsCopied, HaveSameWidth, IsLinked, Leads, here, on, counted, known, ends_of, links_of, source_in}

-- ---- whole signals

select_within : (d : Parts) (u width : ℕ) (x : Typed-F Typed) → IsWholeSelect d u width x → u < length d.signals
select_within d u width (t.Slice s) h = slice_get_within d.signals u h.0.signal h.0.is
select_within d u width _ h = absurd h

layer_within : (d : Parts) (u : ℕ) (x : Typed-F Typed) → IsWholeLayer d u x → u < length d.signals
layer_within d u (t.Signal o) h = slice_get_within d.signals u h.signal h.is
layer_within d u (t.Slice s) h = slice_get_within d.signals u h.signal h.is
layer_within d u (t.Resized size x) h = select_within d u size.width (out-Typed x.value) h
layer_within d u _ h = absurd h

negated_within : (d : Parts) (u : ℕ) (x : Typed-F Typed) → IsNegationLayer d u x → u < length d.signals
negated_within d u (t.Unary y.LogicalNot x) h = layer_within d u (out-Typed x.value) h
negated_within d u _ h = absurd h

inverted_within : (d : Parts) (u : ℕ) (x : Typed-F Typed) → InvertsLayer d u x → u < length d.signals
inverted_within d u (t.Unary y.Not x) h = layer_within d u (out-Typed x.value) h
inverted_within d u (t.Resized size x) h = negated_within d u (out-Typed x.value) h.1
inverted_within d u _ h = absurd h

of_within : (d : Parts) (inverse : Bool) (u : ℕ) (e : Typed) → IsOf d inverse u e → u < length d.signals
of_within d false u e h = layer_within d u (out-Typed e) h
of_within d true u e h = inverted_within d u (out-Typed e) h

pub whole_names : (d : Parts) (v : ℕ) (target : Target) → IsWholeTarget d v target → HasSignal (writes target) v
whole_names d v target h =
    (slice_range h.slice, subst (λ (l : List BitRange). Contains l (slice_range h.slice)) (sym (ap (map aim_range) h.only)) (first_in (slice_range h.slice) []), h.whole.of)

-- ---- the one assignment that drives a net

pub record Parted (d : Parts) (inverse : Bool) (v u : ℕ) (drivers : List ℕ) : Type 0 where
  pub driver : ℕ
  pub only : IsOnly (λ y. Contains drivers y) driver
  pub copied : IsCopied d inverse driver v u
  pub same : HaveSameWidth d v u

pub parted : (d : Parts) (inverse : Bool) (v u : ℕ) (drivers : List ℕ) → AreDrivers d v drivers → IsCopyOf d inverse v u → Parted d inverse v u drivers
parted d inverse v u drivers are c = record {
  driver = c.number;
  only = (
    (are c.number).1 (slice_get_within d.assigns c.number c.assign c.is, (c.assign, c.is, whole_names d v c.assign.target c.whole)),
    λ y h. let n = ((are y).0 h).1 in c.alone y n.0 n.1 ((lists_signal d (writes n.0.target) v).0 n.2),
  );
  copied = (c.assign, c.is, c.whole, c.copies);
  same = c.same;
}

pub joined_copy : (d : Parts) (inverse : Bool) (v u j : ℕ) (drivers : List ℕ) → AreDrivers d v drivers → HasKind false d v → IsOnly (λ y. Contains drivers y) j → IsCopied d inverse j v u → HaveSameWidth d v u →
    IsCopyOf d inverse v u
joined_copy d inverse v u j drivers are net only h same = record {
  is_net = net;
  number = j;
  assign = h.0;
  is = h.1;
  whole = h.2;
  copies = h.3;
  same = same;
  alone = λ k a at lists. only.1 k ((are k).1 (slice_get_within d.assigns k a at, (a, at, (lists_signal d (writes a.target) v).1 lists)));
}

pub copied_is : (d : Parts) (inverse : Bool) (j v : ℕ) (a : Assign) → slice_get d.assigns j ≡ Some a → (u : ℕ) → (IsCopied d inverse j v u ↔ (IsWholeTarget d v a.target × IsOf d inverse u a.source))
copied_is d inverse j v a is u = (
  λ h. subst (λ (b : Assign). IsWholeTarget d v b.target × IsOf d inverse u b.source) (same_Some h.0 a (sym h.1 ∙ is)) (h.2, h.3),
  λ h. (a, is, h.0, h.1),
)

-- ---- for all signals

pub source_at : (xs : List (Option ℕ)) (v : ℕ) (x : Option ℕ) → v < length xs → x ≡ get_or xs v x → source_in xs v ≡ x
source_at xs v x h e = ap known (slice_get-get_or xs v x h) ∙ sym e

pub source_past : (xs : List (Option ℕ)) (v : ℕ) → length xs ≤ v → source_in xs v ≡ None
source_past xs v h = ap known (slice_get_past xs v h)

pub copy_within : (d : Parts) (inverse : Bool) (v u : ℕ) → IsCopyOf d inverse v u → (v < length d.signals) × (u < length d.signals)
copy_within d inverse v u c = (slice_get_within d.signals v c.is_net.0 c.is_net.1, of_within d inverse u c.assign.source c.copies)

pub record SoFar (d : Parts) (inverse : Bool) (n : ℕ) (sources : List (Option ℕ)) : Type 0 where
  pub long : length sources ≡ n
  pub exact : (v u : ℕ) → v < n → (IsCopyOf d inverse v u ↔ source_in sources v ≡ Some u)

pub all_sources : (d : Parts) (inverse : Bool) (n : ℕ) (sources : List (Option ℕ)) → length d.signals ≤ n → SoFar d inverse n sources → AreSources d inverse sources
all_sources d inverse n sources h so v u = (
  λ c. (so.exact v u (omega (arith, (copy_within d inverse v u c).0, h))).0 c,
  λ e. (so.exact v u (below e)).1 e,
) where
  below : source_in sources v ≡ Some u → v < n
  below e = by (cases v n) where
    cases : (a b : ℕ) → (a < b) ⊎ (b ≤ a)
    cases a b = grind arith

    by : (v < n) ⊎ (n ≤ v) → v < n
    by (inl l) = l
    by (inr l) = let f : None ≡ Some u = sym (source_past sources v (omega (arith, so.long, l))) ∙ e in cc

pub source_more : (xs : List (Option ℕ)) (x : Option ℕ) (v : ℕ) → v < length xs → source_in (xs ++ x ∷ []) v ≡ source_in xs v
source_more [] x v h = absurd (omega (arith, h))
source_more (y ∷ ys) x zero h = refl
source_more (y ∷ ys) x (suc v) h = source_more ys x v (omega (arith, h))

pub source_last : (xs : List (Option ℕ)) (x : Option ℕ) → source_in (xs ++ x ∷ []) (length xs) ≡ x
source_last [] x = refl
source_last (y ∷ ys) x = source_last ys x

pub one_more : (d : Parts) (inverse : Bool) (n : ℕ) (old new : List (Option ℕ)) (x : Option ℕ) → SoFar d inverse n old → new ≡ old ++ x ∷ [] → ((u : ℕ) → (IsCopyOf d inverse n u ↔ x ≡ Some u)) → SoFar d inverse (n + 1) new
one_more d inverse n old new x so e last = record {
  long = ap length e ∙ length_push old x ∙ ap (λ (m : ℕ). m + 1) so.long;
  exact = λ v u h. by v u (cases v h);
} where
  cases : (v : ℕ) → v < n + 1 → (v < n) ⊎ (v ≡ n)
  cases v h = grind (arith, h)

  by : (v u : ℕ) → (v < n) ⊎ (v ≡ n) → (IsCopyOf d inverse v u ↔ source_in new v ≡ Some u)
  by v u (inl l) =
      let f : source_in new v ≡ source_in old v = ap (λ l. source_in l v) e ∙ source_more old x v (omega (arith, so.long, l)) in
      (λ c. f ∙ (so.exact v u l).0 c, λ g. (so.exact v u l).1 (sym f ∙ g))
  by v u (inr i) =
      let f : source_in new v ≡ x = ap (λ l. source_in l v) e ∙ ap (source_in (old ++ x ∷ [])) (i ∙ sym so.long) ∙ source_last old x in
      subst (λ (w : ℕ). (IsCopyOf d inverse w u ↔ source_in new v ≡ Some u)) (sym i) (λ c. f ∙ (last u).0 c, λ g. (last u).1 (sym f ∙ g))

-- ---- chains

pub ends_in : (o : Option ℕ) (b : ℕ) → Contains (ends_of o) b → o ≡ Some b
ends_in None b h = absurd (omega (arith, h.1))
ends_in (Some u) b h = ap Some (in_single u b h)

pub ends_has : (o : Option ℕ) (b : ℕ) → o ≡ Some b → Contains (ends_of o) b
ends_has o b e = subst (λ (x : Option ℕ). Contains (ends_of x) b) (sym e) (first_in b [])

near : (nexts : ℕ → List ℕ) (v u g : ℕ) → Contains (nexts v) u → Reached nexts (u ∷ []) g → Reached nexts (v ∷ []) g
near nexts v u _ c (begins a h) = subst (Reached nexts (v ∷ [])) (in_single u a h) (goes_on v u (begins v (first_in v [])) c)
near nexts v u _ c (goes_on a b h e) = goes_on a b (near nexts v u a c h) e

-- a signal that is linked to one which is linked to another is linked to that one
far : (d : Parts) (wide : Bool) (a b v : ℕ) → Leads d wide a v → IsLinked d wide a b → Leads d wide b v
far d wide a b _ here c = on a b c here
far d wide a b _ (on v u first rest) c = on v u first (far d wide a b u rest c)

-- the lists of signals are those that signals are linked to
abbrev AreLinks : Parts → Bool → (ℕ → List ℕ) → Type 0
AreLinks d wide nexts = (v u : ℕ) → (IsLinked d wide v u ↔ Contains (nexts v) u)

chain_there : (d : Parts) (wide : Bool) (nexts : ℕ → List ℕ) → AreLinks d wide nexts → (v g : ℕ) → Reached nexts (v ∷ []) g → Leads d wide g v
chain_there d wide nexts are v _ (begins a h) = subst (λ (n : ℕ). Leads d wide n v) (in_single v a h) here
chain_there d wide nexts are v _ (goes_on a b h c) = far d wide a b v (chain_there d wide nexts are v a h) ((are a b).1 c)

chain_back : (d : Parts) (wide : Bool) (nexts : ℕ → List ℕ) → AreLinks d wide nexts → (g v : ℕ) → Leads d wide g v → Reached nexts (v ∷ []) g
chain_back d wide nexts are g _ here = begins g (first_in g [])
chain_back d wide nexts are g _ (on v u c rest) = near nexts v u g ((are v u).0 c) (chain_back d wide nexts are g u rest)

source_link : (d : Parts) (wide : Bool) (sources inverses : List (Option ℕ)) → AreSources d false sources → AreSources d true inverses → (v u : ℕ) →
    Contains (ends_of (source_in sources v)) u ⊎ Contains (ends_of (source_in (counted wide inverses) v)) u → IsLinked d wide v u
source_link d wide sources inverses are turned v u (inl h) = inl ((are v u).1 (ends_in (source_in sources v) u h))
source_link d true sources inverses are turned v u (inr h) = inr (refl, (turned v u).1 (ends_in (source_in inverses v) u h))
source_link d false sources inverses are turned v u (inr h) = let e : None ≡ Some u = sym (source_past [] v (omega arith)) ∙ ends_in (source_in [] v) u h in cc

links_there : (d : Parts) (wide : Bool) (sources inverses : List (Option ℕ)) → AreSources d false sources → AreSources d true inverses → (v u : ℕ) →
    IsLinked d wide v u → Contains (links_of sources (counted wide inverses) v) u
links_there d wide sources inverses are turned v u (inl c) =
    Contains-append_left (ends_of (source_in sources v)) (ends_of (source_in (counted wide inverses) v)) u (ends_has (source_in sources v) u ((are v u).0 c))
links_there d wide sources inverses are turned v u (inr c) =
    Contains-append_right (ends_of (source_in sources v)) (ends_of (source_in (counted wide inverses) v)) u
    (subst (λ (w : Bool). Contains (ends_of (source_in (counted w inverses) v)) u) (sym c.0) (ends_has (source_in inverses v) u ((turned v u).0 c.1)))

links_are : (d : Parts) (wide : Bool) (sources inverses : List (Option ℕ)) → AreSources d false sources → AreSources d true inverses →
    AreLinks d wide (links_of sources (counted wide inverses))
links_are d wide sources inverses are turned v u = (
  links_there d wide sources inverses are turned v u,
  λ h. source_link d wide sources inverses are turned v u (Contains-append_cases (ends_of (source_in sources v)) (ends_of (source_in (counted wide inverses) v)) u h),
)

pub chain_is : (d : Parts) (wide : Bool) (sources inverses : List (Option ℕ)) → AreSources d false sources → AreSources d true inverses → (v g : ℕ) →
    (Reached (links_of sources (counted wide inverses)) (v ∷ []) g ↔ Leads d wide g v)
chain_is d wide sources inverses are turned v g =
    let links = links_are d wide sources inverses are turned in
    (chain_there d wide (links_of sources (counted wide inverses)) links v g, chain_back d wide (links_of sources (counted wide inverses)) links g v)

linked_within : (d : Parts) (wide : Bool) (a b : ℕ) → IsLinked d wide a b → (a < length d.signals) × (b < length d.signals)
linked_within d wide a b (inl c) = copy_within d false a b c
linked_within d wide a b (inr c) = copy_within d true a b c.1

pub chain_within : (d : Parts) (wide : Bool) (sources inverses : List (Option ℕ)) → AreSources d false sources → AreSources d true inverses → (a b : ℕ) →
    Contains (links_of sources (counted wide inverses) a) b → b < length d.signals
chain_within d wide sources inverses are turned a b h = (linked_within d wide a b ((links_are d wide sources inverses are turned a b).1 h)).1

pub reached_within : (nexts : ℕ → List ℕ) (n v g : ℕ) → ((a b : ℕ) → Contains (nexts a) b → b < n) → v < n → Reached nexts (v ∷ []) g → g < n
reached_within nexts n v _ inside h (begins a c) = subst (λ (x : ℕ). x < n) (in_single v a c) h
reached_within nexts n v _ inside h (goes_on a b r c) = inside a b c

pub marked_is : (nexts : ℕ → List ℕ) (n v g : ℕ) (marks : List Bool) → ((a b : ℕ) → Contains (nexts a) b → b < n) → v < n → length marks ≡ n → AreReached nexts (v ∷ []) n marks →
    (IsTrue (get_or marks g false) ↔ Reached nexts (v ∷ []) g)
marked_is nexts n v g marks inside first long are = by (cases g n) where
  cases : (a b : ℕ) → (a < b) ⊎ (b ≤ a)
  cases a b = grind arith

  by : (g < n) ⊎ (n ≤ g) → (IsTrue (get_or marks g false) ↔ Reached nexts (v ∷ []) g)
  by (inl l) = are g l
  by (inr l) = (
    λ t. let e : false ≡ true = sym (get_or_past marks g false (omega (arith, long, l))) ∙ t in cc,
    λ h. absurd (omega (arith, l, reached_within nexts n v g inside first h)),
  )

pub at_index : {A : Type 0} (xs ys : List A) (j : ℕ) (x : A) → xs ≡ ys → j < length ys → x ≡ get_or xs j x → slice_get ys j ≡ Some x
at_index xs ys j x e h is = ap (λ zs. slice_get zs j) (sym e) ∙ slice_get-get_or xs j x (subst (λ (zs : List _). j < length zs) (sym e) h) ∙ ap Some (sym is)

pub past_itself : (d : Parts) (wide : Bool) (v g : ℕ) → length d.signals ≤ v → Leads d wide g v → g ≡ v
past_itself d wide _ g h here = refl
past_itself d wide _ g h (on v u c rest) = absurd (omega (arith, h, (linked_within d wide v u c).0))

-- where inverses don't count
pub whole_leads : (d : Parts) (g v : ℕ) → CopiesWhole d g v → Leads d false g v
whole_leads d g _ itself = here
whole_leads d g _ (copy v u c rest) = on v u (inl c) (whole_leads d g u rest)

pub leads_whole : (d : Parts) (g v : ℕ) → Leads d false g v → CopiesWhole d g v
leads_whole d g _ here = itself
leads_whole d g _ (on v u (inl c) rest) = copy v u c (leads_whole d g u rest)
leads_whole d g _ (on v u (inr c) rest) = let e : false ≡ true = c.0 in cc

-- ---- of one bit

pub copied_bit : (d : Parts) (is_of : ℕ → Typed → Type 0) (v u : ℕ) → IsCopyBy d is_of v u → IsOneBit d u → IsOneBit d v
copied_bit d is_of v u c one =
    let s = c.whole.whole.signal in
    (s, c.whole.whole.is, c.same s one.0 c.whole.whole.is one.1 ∙ one.2, c.whole.whole.count, c.whole.whole.no_array)

pub leads_root : (d : Parts) (wide : Bool) (root v : ℕ) → IsOneBit d root → Leads d wide root v → CopiesRoot d wide root v × IsOneBit d v
leads_root d wide root _ one here = (r.itself one, one)
leads_root d wide root _ one (on v u (inl c) rest) =
    let h = leads_root d wide root u one rest in
    let bit = copied_bit d (IsOf d false) v u c h.1 in
    (r.copy v u bit c h.0, bit)
leads_root d wide root _ one (on v u (inr c) rest) =
    let h = leads_root d wide root u one rest in
    let bit = copied_bit d (IsOf d true) v u c.1 h.1 in
    (r.inverse v u c.0 bit c.1 h.0, bit)

pub root_leads : (d : Parts) (wide : Bool) (root v : ℕ) → CopiesRoot d wide root v → IsOneBit d root × Leads d wide root v
root_leads d wide root _ (r.itself one) = (one, here)
root_leads d wide root _ (r.copy v u one c rest) = let h = root_leads d wide root u rest in (h.0, on v u (inl c) h.1)
root_leads d wide root _ (r.inverse v u e one c rest) = let h = root_leads d wide root u rest in (h.0, on v u (inr (e, c)) h.1)

pub one_bit : (d : Parts) (v : ℕ) → (is_plain (slice_get d.signals v) 1 ≡ true ↔ IsOneBit d v)
one_bit d v = (
  λ h. let p = plain_of (slice_get d.signals v) 1 h in (p.signal, p.is, p.width_is, p.count, p.no_array),
  λ h. plain_by (slice_get d.signals v) 1 (record { signal = h.0; is = h.1; no_array = h.4; count = h.3; width_is = h.2 }),
)

-- ---- what is named

pub variable_kind : (k : SignalKind) → (k ≡ Reg) ⊎ (k ≡ Integer) → is_variable k ≡ true
variable_kind k (inl e) = ap is_variable e
variable_kind k (inr e) = ap is_variable e

pub at_here : {A : Type 0} (xs ys : List A) (j : ℕ) (x : A) → xs ≡ ys → j < length xs → x ≡ get_or xs j x → slice_get ys j ≡ Some x
at_here xs ys j x e h is = ap (λ zs. slice_get zs j) (sym e) ∙ slice_get-get_or xs j x h ∙ ap Some (sym is)

named_is : (d : Parts) (i : ℕ) (a : Assign) → slice_get d.assigns i ≡ Some a → (rs : List BitRange) → rs ≡ writes a.target → (v : ℕ) → (HasSignal rs v ↔ NamesTarget d i v)
named_is d i a at rs e v = (
  λ h. (a, at, subst (λ (l : List BitRange). HasSignal l v) e h),
  λ h. subst (λ (l : List BitRange). HasSignal l v) (sym (e ∙ ap (λ (b : Assign). writes b.target) (same_Some a h.0 (sym at ∙ h.1)))) h.2,
)

either_is : (A B C : Type 0) → (B ↔ C) → (A ⊎ B ↔ (A ⊎ C))
either_is A B C f = (there, back) where
  there : A ⊎ B → A ⊎ C
  there (inl a) = inl a
  there (inr b) = inr (f.0 b)

  back : A ⊎ C → A ⊎ B
  back (inl a) = inl a
  back (inr c) = inr (f.1 c)

pub put_targets : (d : Parts) (i : ℕ) (a : Assign) → slice_get d.assigns i ≡ Some a → (old new : List ℕ) (rs : List BitRange) → rs ≡ writes a.target →
    ((v : ℕ) → (Contains new v ↔ (Contains old v ⊎ HasSignal rs v))) → (v : ℕ) → (Contains new v ↔ (Contains old v ⊎ NamesTarget d i v))
put_targets d i a at old new rs e h v =
    let f = either_is (Contains old v) (HasSignal rs v) (NamesTarget d i v) (named_is d i a at rs e v) in
    (λ c. f.0 ((h v).0 c), λ c. (h v).1 (f.1 c))
