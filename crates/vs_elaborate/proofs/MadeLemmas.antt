-- What is made of an opened source is its design.
use Rattle.std.proofs.Common.{◌≡◌, ℕ, zero, suc, ◌+◌, ◌^◌, ◌⊎◌, ◌||◌, ◌<◌, ◌≤◌, Bool, true, false, if◌then◌else◌, nat_lt, nat_eq, List, [], ◌∷◌, ◌++◌, Option, Some, None, inl, inr, length, map, get_or, slice_get, option_map, All, refl, ap, ap₂, sym, subst, ◌∙◌, arith, true≢false}
use Rattle.std.specs.List.{list_any, flat_map, AllByRecursion, IsDistinct, Contains}
use Rattle.std.specs.Str.{bytes_eq}
use Rattle.std.proofs.lemmas.Bool.{false_from_ne_true}
use Rattle.std.proofs.lemmas.Option.{none-some, same_Some, slice_get-map, slice_get_within, slice_get-get_or}
use Rattle.std.proofs.lemmas.List.{map-append, length-map}
use Rattle.std.proofs.lemmas.List.Folds.{list_any-append}
use Rattle.std.proofs.lemmas.List.Elements.{recursion_from_All}
use Rattle.std.proofs.lemmas.Map.Keys.{IsDistinct-from_apart}
use Rattle.std.proofs.lemmas.Slice.Eq.{bytes_eq-Decides}
use Rattle.std.proofs.lemmas.Slice.Zip.{AllZip-long}
use Rattle.vs_syntax.specs.declared.tree.Source.{Source}
use Rattle.vs_design.specs.Parts.{Parts}
use Rattle.vs_design.specs.WellFormed.{WellFormed, is_sound_assign, share_a_bit, driven, declared_in as declared_by_outline}
use Rattle.vs_design.specs.declared.signal.Signal.{Signal}
use Rattle.vs_design.specs.declared.design.Assign.{Assign}
use Rattle.vs_elab_statements.specs.vs_scopes.specs.vs_widths.specs.declared.bindings.Binding.TheVariants as b
use Rattle.vs_elab_statements.specs.vs_widths.specs.Names.{meaning_of}
use Rattle.vs_elab_hierarchy.specs.vs_scopes.specs.Reads.{read_piece}
use Rattle.vs_elab_statements.specs.vs_scopes.specs.declared.faults.Reason.{Reason}
use Rattle.vs_elab_statements.specs.vs_scopes.specs.declared.faults.Reason.TheVariants.{NoModule, Inside, PortMismatch, ParameterMismatch, DeclaredTwice, DrivenTwice, Limit, Width, Endless, Unnamed, Timescales, Format}
use Rattle.vs_elab_statements.specs.vs_scopes.specs.declared.faults.ElabFault.{ElabFault}
use Rattle.vs_elab_statements.specs.vs_scopes.specs.declared.faults.ElabFault.TheVariants.{Memory, At}
use Rattle.vs_elab_statements.specs.vs_scopes.specs.Printed.{Path, same_path, printed}
use Rattle.vs_elab_statements.specs.vs_scopes.specs.Ports.{names_where, is_joined, without_name}
use Rattle.vs_elab_statements.specs.vs_scopes.specs.Declarations.{DeclaredName, declared_by_port, declared_among, not_joined, declaration_fault, names_in}
use Rattle.vs_elab_statements.specs.vs_scopes.specs.Scopes.{Scope, declarations_of, names_of, all_names_of, named, environment, environment_at, has_wrong_end, scopes_of, signal_count, signal_paths}
use Rattle.std.proofs.lemmas.Bool.{or_left as left_true, or_right as right_true}
use Rattle.vs_elab_hierarchy.specs.Laws.{HasTurnsThatFit, DeclareOnce, HaveCountedPieces, scope_paths}
use Rattle.vs_elab_hierarchy.proofs.PathsDiffer.{paths_differ, paths_not_same}
use Rattle.vs_elab_hierarchy.proofs.PathsFit.{turns_fit}
use Rattle.vs_elab_hierarchy.proofs.PathsNumbered.{scopes_are_numbered}
use Rattle.vs_elab_hierarchy.proofs.PathsParts.{printed_differ}
use Rattle.vs_elab_statements.specs.vs_elab_signals.specs.declared.opened.ElabScope.{ElabScope as FoundScope}
use Rattle.vs_elab_statements.specs.vs_elab_signals.specs.declared.opened.Hierarchy.{Hierarchy}
use Rattle.vs_elab_statements.specs.vs_elab_signals.specs.Opened.{IsWithin, IsOutermost, HasParentScope, IsOpened, AreSeated, HasBlocks, OpensAll}
use Rattle.vs_elab_statements.specs.vs_elab_signals.specs.Outlines.{Declared, declared, signal_of, signals_of}
use Rattle.vs_elab_statements.specs.vs_elab_signals.specs.ScopeFaults.{Repeated, HoldsOpening}
use Rattle.vs_elab_statements.specs.Surroundings.{surroundings_at}
use Rattle.vs_elab_statements.specs.passes.Bodies.{counting}
use Rattle.vs_elab_statements.specs.passes.Views.{AreSites, IsPlaced}
use Rattle.vs_elab_statements.proofs.BlockLemmas.{zip_other}
use Rattle.vs_design.specs.vs_logic4.proofs.Basics.{zip_at}
use Rattle.vs_elab_statements.proofs.WellFormedLemmas.{IsGood}
use Rattle.vs_elaborate.specs.declared.contents.Contents.{Contents}
use Rattle.vs_elaborate.specs.Timescales.{timescale_of, has_other_timescale}
use Rattle.vs_elaborate.specs.Faults.{Faults, DrivesTwice, surroundings_of}
use Rattle.vs_elaborate.specs.DesignOf.{DesignOf}
use Rattle.vs_elaborate.specs.passes.Filling.{AreLefts, Fills, DrivenTwiceOnly}
use Rattle.vs_elaborate.specs.Marks.{AreWithin}
use Rattle.vs_elaborate.proofs.SignalLemmas.{AreSized, AreInside, AreBased, each_at, good_inside, good_around}
use Rattle.vs_elab_hierarchy.proofs.AddLemmas.{signals_shown as signals_counted}
use Rattle.vs_design.specs.vs_logic4.proofs.Basics.{there}
use Rattle.vs_elaborate.proofs.WellFormedLemmas.{IsFine, OfNet, processes_sound, assigns_sound, driven_nets, of_net_within}
use Rattle.vs_elaborate.proofs.OutlineLemmas.{outline_declares, counting_below, counting_distinct, counting_contains}
use Rattle.vs_elaborate.proofs.PartLemmas.{processes_named, assigns_named}
use Rattle.vs_elaborate.proofs.DriverLemmas.{driven_once, driven_twice}
use Rattle.vs_elaborate.proofs.SoundLemmas.{opening_at, none_stands}
use Rattle.vs_design.specs.vs_logic4.proofs.Basics.{or_parts}

each_from : {A : Type 0} (P : A → Type 0) (xs : List A) → ((i : ℕ) (x : A) → slice_get xs i ≡ Some x → P x) → AllByRecursion P xs
each_from P [] f = tt
each_from P (x ∷ xs) f = (f 0 x refl, each_from P xs (λ i y h. f (suc i) y h))

all_from : {A : Type 0} (P : A → Type 0) (xs : List A) → ((i : ℕ) (x : A) → slice_get xs i ≡ Some x → P x) → All P xs
all_from P xs f i d l = f i (get_or xs i d) (slice_get-get_or xs i d l)

-- ---- names that differ

-- names of which none is repeated differ
distinct_from : (ns : List (List ℕ)) → ((n : List ℕ) → Repeated ns n → ⊥) → IsDistinct bytes_eq ns
distinct_from ns none = IsDistinct-from_apart bytes_eq ns (λ i j e h l. false_from_ne_true (bytes_eq (get_or ns i e) (get_or ns j e)) (λ q.
    (let same : get_or ns i e ≡ get_or ns j e = (bytes_eq-Decides (get_or ns i e) (get_or ns j e)).0 q in
    none (get_or ns i e) (record { first = i; second = j; before = h; one = slice_get-get_or ns i e (omega (arith, h, l)); other = slice_get-get_or ns j e l ∙ ap Some (sym same) }))))

-- ---- ranges without faults

module _ (test : DeclaredName → Bool) where
  joined_any : (ns : List (List ℕ)) (ds : List DeclaredName) → list_any test (not_joined ns ds) ≡ true → list_any test ds ≡ true
  joined_any ns [] h = h
  joined_any ns (d ∷ ds) h = by (list_any (bytes_eq d.name) ns) (joined_any (without_name d.name ns) ds) (joined_any ns ds) h
    where
      by : (c : Bool) → (list_any test (not_joined (without_name d.name ns) ds) ≡ true → list_any test ds ≡ true) → (list_any test (not_joined ns ds) ≡ true → list_any test ds ≡ true) →
          list_any test (if c then not_joined (without_name d.name ns) ds else d ∷ not_joined ns ds) ≡ true → list_any test (d ∷ ds) ≡ true
      by true fewer others k = right_true (test d) (list_any test ds) (fewer k)
      by false fewer others k = one (or_parts (test d) (list_any test (not_joined ns ds)) k)
        where
          one : (test d ≡ true) ⊎ (list_any test (not_joined ns ds) ≡ true) → list_any test (d ∷ ds) ≡ true
          one (inl u) = left_true (test d) (list_any test ds) u
          one (inr u) = right_true (test d) (list_any test ds) (others u)

  declared_any : (s : Scope) → list_any test (declarations_of s) ≡ true → list_any test (map (declared_by_port s.known) s.ports ++ declared_among s.known s.pieces) ≡ true
  declared_any s h =
      let ports = map (declared_by_port s.known) s.ports in
      let among = declared_among s.known s.pieces in
      let rest = not_joined (names_where is_joined s.ports) among in
      list_any-append test ports among ∙ by ports among rest (or_parts (list_any test ports) (list_any test rest) (sym (list_any-append test ports rest) ∙ h)) (joined_any (names_where is_joined s.ports) among)
    where
      by : (ports among rest : List DeclaredName) → (list_any test ports ≡ true) ⊎ (list_any test rest ≡ true) → (list_any test rest ≡ true → list_any test among ≡ true) → (list_any test ports || list_any test among) ≡ true
      by ports among rest (inl u) k = left_true (list_any test ports) (list_any test among) u
      by ports among rest (inr u) k = right_true (list_any test ports) (list_any test among) (k u)

-- ---- scopes by their paths

-- the scope of a path is the first of those that have it
names_found : (xs : List Scope) → IsDistinct same_path (scope_paths xs) → (place : ℕ) (s : Scope) → slice_get xs place ≡ Some s → environment_at xs s.path ≡ environment s
unfolding IsDistinct
names_found [] d place s e = absurd (none-some s e)
names_found (x ∷ xs) d zero s e = subst (λ (z : Scope). environment_at (x ∷ xs) z.path ≡ environment z) (same_Some x s e) (by (same_path x.path x.path) (λ h. paths_not_same x.path x.path h refl))
  where
    by : (c : Bool) → (c ≡ false → ⊥) → (if c then environment x else environment_at xs x.path) ≡ environment x
    by true h = refl
    by false h = absurd (h refl)
names_found (x ∷ xs) d (suc i) s e =
    let at : slice_get (scope_paths xs) i ≡ Some s.path = slice_get-map (λ (z : Scope). z.path) xs i ∙ ap (option_map (λ (z : Scope). z.path)) e in
    let apart : same_path x.path s.path ≡ false = each_at (λ q. same_path x.path q ≡ false) (scope_paths xs) i s.path d.0 at in
    by (same_path x.path s.path) apart ∙ names_found xs d.1 i s e
  where
    by : (c : Bool) → c ≡ false → (if c then environment x else environment_at xs s.path) ≡ environment_at xs s.path
    by true h = absurd (true≢false h)
    by false h = refl

-- names of each scope of a path are bound to signals of the design
good_among : (now : List Signal) (xs : List Scope) → ((i : ℕ) (s : Scope) → slice_get xs i ≡ Some s → IsGood now (environment s)) → (p : Path) → IsGood now (environment_at xs p)
good_among now [] g p = λ n m k e. absurd (none-some (b.Signal m k) e)
good_among now (x ∷ xs) g p = by (same_path x.path p) (good_among now xs (λ i s e. g (suc i) s e) p)
  where
    by : (c : Bool) → IsGood now (environment_at xs p) → IsGood now (if c then environment x else environment_at xs p)
    by true others = g 0 x refl
    by false others = others

-- ---- what is shown

-- the paths of a scope's signals, as they are printed
own_paths : (s : Scope) (ds : List DeclaredName) → map (λ (z : Declared). z.path) (map (signal_of s) ds) ≡ map printed (map (named s) (names_in ds))
own_paths s [] = refl
own_paths s (d ∷ ds) = ap (λ z. printed (named s d.name) ∷ z) (own_paths s ds)

paths_shown : (ss : List Scope) → map (λ (z : Declared). z.path) (flat_map signals_of ss) ≡ map printed (signal_paths ss)
paths_shown [] = refl
paths_shown (s ∷ ss) =
    map-append (λ (z : Declared). z.path) (signals_of s) (flat_map signals_of ss) ∙ ap₂ (λ x y. x ++ y) (own_paths s (declarations_of s)) (paths_shown ss)
    ∙ sym (map-append printed (map (named s) (names_of s)) (signal_paths ss))

paths_kept : (now : List Signal) → map (λ (x : Signal). x.path.items) now ≡ map (λ (z : Declared). z.path) (map declared now)
paths_kept [] = refl
paths_kept (x ∷ now) = ap (λ z. x.path.items ∷ z) (paths_kept now)

-- ---- a source whose scopes are opened

module _ (source : Source) (top : List ℕ) (x : Hierarchy) (o : OpensAll source.modules.items top x) where
  -- a scope of the list has what the one that it stands for has
  pub opened_at : (i : ℕ) (s : Scope) → slice_get (scopes_of source.modules.items top) i ≡ Some s → (y : FoundScope) × ((slice_get x.scopes.items i ≡ Some y) × IsOpened (scopes_of source.modules.items top) y s)
  opened_at i s h = zip_other (IsOpened (scopes_of source.modules.items top)) x.scopes.items (scopes_of source.modules.items top) i s o.scopes.each h

  none_at : (i : ℕ) (s : Scope) (r : Reason) (p : Path) → slice_get (scopes_of source.modules.items top) i ≡ Some s → HoldsOpening source.modules.items s r p → ⊥
  none_at i s r p h u = o.none r p (inr (opening_at source.modules.items (scopes_of source.modules.items top) i s r p h u))

  pub named_once : (i : ℕ) (s : Scope) → slice_get (scopes_of source.modules.items top) i ≡ Some s → IsDistinct bytes_eq (all_names_of s)
  named_once i s h = distinct_from (all_names_of s) (λ n u. none_at i s DeclaredTwice (named s n) h (inl (record { name = n; repeated = u; path = refl })))

  once : DeclareOnce (scopes_of source.modules.items top)
  once = all_from (λ (s : Scope). IsDistinct bytes_eq (all_names_of s)) (scopes_of source.modules.items top) named_once

  pub counted_at : (i : ℕ) (s : Scope) → slice_get (scopes_of source.modules.items top) i ≡ Some s → length s.pieces < 2 ^ 63
  counted_at i s h =
      let y = opened_at i s h in
      let ps = y.0.pieces in
      let same : length ps.items ≡ length s.pieces = sym (length-map ps.items read_piece) ∙ ap length y.1.1.entered.pieces in
      omega (arith, same, ps.ok.0, ps.ok.1, ps.small)

  few : HaveCountedPieces (scopes_of source.modules.items top)
  few = all_from (λ (s : Scope). length s.pieces < 2 ^ 63) (scopes_of source.modules.items top) counted_at

  sized : AreSized (scopes_of source.modules.items top)
  sized i s h w = false_from_ne_true (list_any (declaration_fault (Width w)) (declarations_of s)) (λ u. none_at i s (Width w) s.path h (inr (inr (inr (inr (declared_any (declaration_fault (Width w)) s u, refl))))))

  based : AreBased (scopes_of source.modules.items top)
  based i s h = (scopes_are_numbered source.modules.items top i s h).1

  pub inside : AreInside (scopes_of source.modules.items top)
  inside i s h = (let y = opened_at i s h in by y.0.around y.1.1.entered.around)
    where
      by : (a : Option ℕ) → HasParentScope (scopes_of source.modules.items top) a s → IsOutermost s ⊎ ((j : ℕ) × ((j < i) × IsWithin (scopes_of source.modules.items top) j s))
      by None u = inl u
      by (Some j) u = (let place = o.scopes.places i s h in let below : j < s.number = u.before in inr (j, (omega (arith, place, below), u)))

  pub differ : IsDistinct same_path (scope_paths (scopes_of source.modules.items top)) × IsDistinct same_path (signal_paths (scopes_of source.modules.items top))
  differ = paths_differ source.modules.items top once few

  -- ---- what the scopes of the list must be

  pub sites : (ratio : ℕ) → AreSites x.scopes.items (scopes_of source.modules.items top) (surroundings_at ratio (scopes_of source.modules.items top))
  sites ratio = record { opened = o.scopes; blocks = o.blocks; ratio = ratio; names = names_found (scopes_of source.modules.items top) differ.0; ratios = λ place s e. refl }

  pub long : length (scopes_of source.modules.items top) ≡ length x.scopes.items
  long = AllZip-long (IsOpened (scopes_of source.modules.items top)) x.scopes.items (scopes_of source.modules.items top) o.scopes.each

  blocks_within : (k : ℕ) (y : FoundScope) (n : List ℕ) (inner : ℕ) → slice_get x.scopes.items k ≡ Some y → meaning_of y.blocks n ≡ Some inner → inner < length x.scopes.items
  blocks_within k y n inner h e =
      let s = there (scopes_of source.modules.items top) k (omega (arith, long, slice_get_within x.scopes.items k y h)) in
      let found = (zip_at (HasBlocks (scopes_of source.modules.items top)) x.scopes.items (scopes_of source.modules.items top) k y s.0 o.blocks h s.1).found n inner e in
      let below : inner < length (scopes_of source.modules.items top) = slice_get_within (scopes_of source.modules.items top) inner found.inner found.stands in
      omega (arith, long, below)

  pub placed : AreSeated x.scopes.items → (place : ℕ) → place < length x.scopes.items → IsPlaced x.scopes.items place
  placed seated place h = record { within = h; seated = seated; blocks = blocks_within }

  pub lefts : (place : ℕ) (y : FoundScope) → slice_get x.scopes.items place ≡ Some y → AreLefts y
  lefts place y h =
      let s = there (scopes_of source.modules.items top) place (omega (arith, long, slice_get_within x.scopes.items place y h)) in
      let entered = (zip_at (IsOpened (scopes_of source.modules.items top)) x.scopes.items (scopes_of source.modules.items top) place y s.0 o.scopes.each h s.1).entered in
      ap₂ has_wrong_end entered.ports entered.ends ∙ entered.lefts

  -- ---- the design

  module _ (c : Contents) (f : Fills (surroundings_of source top) (scopes_of source.modules.items top) c) where
    -- the parts of the design
    abbrev pub parts_of : Parts
    parts_of = record {
      timescale = timescale_of source;
      signals = x.signals.items;
      assigns = c.assigns.items;
      processes = c.processes.items;
      outline = x.outline.items;
    }

    inner_good : (i : ℕ) (s : Scope) → slice_get (scopes_of source.modules.items top) i ≡ Some s → IsGood x.signals.items (environment s)
    inner_good = good_inside (scopes_of source.modules.items top) x.signals.items o.signals sized based inside

    good : (p : Path) → IsGood x.signals.items (environment_at (scopes_of source.modules.items top) p)
    good = good_among x.signals.items (scopes_of source.modules.items top) inner_good

    fine : AllByRecursion (IsFine x.signals.items) (scopes_of source.modules.items top)
    fine = each_from (IsFine x.signals.items) (scopes_of source.modules.items top) (λ i s h. record { inside = inner_good i s h; around = good_around (scopes_of source.modules.items top) x.signals.items o.signals sized based inside i s h })

    each_once : AllByRecursion (λ s. IsDistinct bytes_eq (all_names_of s)) (scopes_of source.modules.items top)
    each_once = each_from (λ s. IsDistinct bytes_eq (all_names_of s)) (scopes_of source.modules.items top) named_once

    assigns_are_sound : All (λ (a : Assign). is_sound_assign x.signals.items a ≡ true) c.assigns.items
    assigns_are_sound = assigns_sound x.signals.items (scopes_of source.modules.items top) c.assigns.items fine f.drivers

    nets : All (OfNet x.signals.items) (driven c.assigns.items)
    nets = driven_nets x.signals.items c.assigns.items assigns_are_sound

    counted : length x.signals.items ≡ signal_count (scopes_of source.modules.items top)
    counted = sym (length-map x.signals.items declared) ∙ ap length o.signals ∙ signals_counted (scopes_of source.modules.items top)

    -- ranges that are driven are of signals of the design
    pub drivers_within : AreWithin x.signals.items (driven c.assigns.items)
    drivers_within i d l = of_net_within x.signals.items (get_or (driven c.assigns.items) i d).signal (nets i d l)

    -- a net that is driven twice stands
    pub driving_stands : (e : ElabFault) → DrivenTwiceOnly x.signals.items c.assigns.items e → Faults source top e
    driving_stands Memory h = tt
    driving_stands (At DrivenTwice bytes) h =
        let t = driven_twice (scopes_of source.modules.items top) x.signals.items c.assigns.items bytes.items o.signals f.drivers nets h in
        record { path = t.0; text = t.1; stands = inl t.2 }
    driving_stands (At NoModule bytes) h = absurd h
    driving_stands (At Inside bytes) h = absurd h
    driving_stands (At PortMismatch bytes) h = absurd h
    driving_stands (At ParameterMismatch bytes) h = absurd h
    driving_stands (At DeclaredTwice bytes) h = absurd h
    driving_stands (At Limit bytes) h = absurd h
    driving_stands (At (Width w) bytes) h = absurd h
    driving_stands (At Endless bytes) h = absurd h
    driving_stands (At Unnamed bytes) h = absurd h
    driving_stands (At Timescales bytes) h = absurd h
    driving_stands (At (Format wrong) bytes) h = absurd h

    module _ (apart : IsDistinct (share_a_bit x.signals.items) (driven c.assigns.items)) where
      driven_so : (p : Path) → DrivesTwice (scopes_of source.modules.items top) p → ⊥
      driven_so = driven_once (scopes_of source.modules.items top) x.signals.items c.assigns.items o.signals f.drivers apart

      -- the design of a source and a top
      pub designed : has_other_timescale source ≡ false → DesignOf source top parts_of
      designed same = record {
        none = none_stands source top o.none f.sound driven_so same;
        found = record { timescale = refl; signals = o.signals; assigns = f.drivers; processes = f.behaviors; outline = o.outline };
      }

      -- it is well formed
      pub well_formed : length c.assigns.items < 2 ^ 64 → length c.processes.items < 2 ^ 64 → WellFormed parts_of
      well_formed short small =
          let all = scopes_of source.modules.items top in
          let signals = x.signals.items in
          let fit = turns_fit source.modules.items top in
          let scopes_fit = recursion_from_All HasTurnsThatFit (scope_paths all) fit.0 in
          let declares : declared_by_outline x.outline.items ≡ counting 0 (length signals) = outline_declares source.modules.items top x.outline.items o.outline ∙ ap (counting 0) (sym counted) in
          let from_zero : 0 + length signals ≤ length signals = omega arith in
          let paths : map (λ (z : Signal). z.path.items) signals ≡ map printed (signal_paths all) = paths_kept signals ∙ ap (map (λ (z : Declared). z.path)) o.signals ∙ paths_shown all in
          record {
            processes = processes_sound signals (surroundings_of source top) all good c.processes.items f.behaviors;
            assigns = assigns_are_sound;
            drivers = apart;
            declared = subst (λ z. All (λ k. nat_lt k (length signals) ≡ true) z) (sym declares) (counting_below 0 (length signals) (length signals) from_zero);
            declared_once = subst (IsDistinct nat_eq) (sym declares) (counting_distinct 0 (length signals));
            all_declared = λ n h. subst (λ z. Contains z n) (sym declares) (counting_contains (length signals) n h);
            paths = subst (IsDistinct bytes_eq) (sym paths) (printed_differ (signal_paths all) (recursion_from_All HasTurnsThatFit (signal_paths all) fit.1) differ.1);
            names = processes_named (surroundings_of source top) all c.processes.items scopes_fit differ.0 f.behaviors (omega (arith, small));
            assign_names = assigns_named all c.assigns.items scopes_fit differ.0 each_once f.drivers (omega (arith, short));
          }
