-- Nets that are declared behind their use, and generate blocks with the names of implicit nets.
use Rattle.std.proofs.Common.{◌≡◌, ℕ, zero, suc, ◌+◌, ◌<◌, Bool, false, ◌||◌, List, [], ◌∷◌, ◌++◌, Some, Result, Ok, Err, Bor, length, map, drop, get_or, slice_get, refl, ap, sym, subst, ◌∙◌, arith}
use Rattle.std.specs.Prelude.{MatchResult}
use Rattle.std.specs.List.{list_any}
use Rattle.std.proofs.lemmas.Option.{none-some, same_Some}
use Rattle.vs_syntax.specs.declared.tree.ModuleItem.{ModuleItem}
use Rattle.vs_scopes.specs.vs_widths.specs.declared.constants.Const.{Const}
use Rattle.vs_elab_signals.specs.vs_scopes.specs.Uses.{names_used}
use Rattle.vs_elab_signals.specs.vs_scopes.specs.Reads.{read_piece}
use Rattle.vs_elab_signals.specs.vs_scopes.specs.declared.scope.ScopePiece.{ScopePiece as FoundPiece}
use Rattle.vs_elab_signals.specs.vs_elab_constants.specs.Reads.{read_inner}
use Rattle.vs_elab_signals.specs.vs_elab_constants.specs.declared.opening.Inner.{Inner as FoundInner}
use Rattle.vs_scopes.specs.declared.faults.Reason.{Reason}
use Rattle.vs_scopes.specs.declared.faults.Reason.TheVariants.{NoModule, Inside, PortMismatch, ParameterMismatch, DeclaredTwice, DrivenTwice, Limit, Width, Endless, Unnamed, Timescales, Format}
use Rattle.vs_scopes.specs.declared.faults.ElabFault.{ElabFault}
use Rattle.vs_scopes.specs.Printed.{PathName, Path}
use Rattle.vs_scopes.specs.Nets.{Sight, unseen, seen, coming, coming_paths}
use Rattle.vs_scopes.specs.Generate.{Inner, generated}
use Rattle.vs_scopes.specs.Scopes.{Scope, named, is_implicit, is_named_as_net, sight_in, late_from}
use Rattle.vs_scopes.specs.scopes_passes.Answers.{borrowed, IsReported, IsFaultAt}
use Rattle.vs_scopes.proofs.AnswerLemmas.{told_at, told_by}
use Rattle.vs_scopes.proofs.PassLemmas.{map_at}
use Rattle.vs_elab_signals.specs.declared.sights.Level.{Level}
use Rattle.vs_elab_signals.specs.declared.sights.Level.TheVariants.{Here, Late, Outward}
use Rattle.vs_elab_signals.specs.declared.sights.Sight.TheVariants as f
use Rattle.vs_elab_signals.specs.signal_passes.Sights.{level_of, sight_of_level, IsSight}
use Rattle.vs_design.specs.vs_logic4.proofs.Basics.{at_front}
use Rattle.vs_elab_signals.proofs.SightLemmas.{level_sight}
use Rattle.vs_elab_constants.specs.vs_widths.specs.Names.{meaning_of}
use Rattle.vs_scopes.specs.Declarations.{Bindings}
use Rattle.vs_elab_signals.specs.nets_passes.Nets.{HasNetPlaces, IsLate, late_among, IsNetName, IsNamedAsNet}
use Rattle.vs_design.specs.vs_logic4.proofs.Basics.{at_place}

-- ---- one name

-- how a name stands in a scope, by how it does there alone
pub told_is : (s : Scope) (text : Bindings) (told : List (List ℕ × ℕ)) (place : ℕ) (n : List ℕ) (level : Level) → HasNetPlaces s text told → level ≡ level_of (meaning_of told n) place (meaning_of text n) → sight_in s place n ≡ sight_of_level s n level
told_is s text told place n level t h =
    level_sight s place n ∙ ap (λ z. sight_of_level s n (level_of z place (meaning_of s.text n))) (sym (t.places n))
    ∙ ap (λ z. sight_of_level s n (level_of (meaning_of told n) place z)) (sym (t.names n)) ∙ ap (sight_of_level s n) (sym h)

module _ (s : Scope) (place : ℕ) (n : List ℕ) (level : Level) (is : sight_in s place n ≡ sight_of_level s n level) where
  pub here_timely : level ≡ Here → coming_paths (sight_in s place n) ≡ []
  here_timely e = ap coming_paths (is ∙ ap (sight_of_level s n) e)

  pub late_told : (e : ElabFault) → level ≡ Late → IsFaultAt DeclaredTwice (named s n) e → IsReported (IsLate (coming_paths (sight_in s place n))) e
  late_told e h k = told_at (IsLate (coming_paths (sight_in s place n))) DeclaredTwice (named s n) e (0, ap (λ z. slice_get (coming_paths z) 0) (is ∙ ap (sight_of_level s n) h)) k

  pub outward_same : level ≡ Outward → coming_paths (s.sight n) ≡ coming_paths (sight_in s place n)
  outward_same e = sym (ap coming_paths (is ∙ ap (sight_of_level s n) e))

-- a name that isn't declared, or is
pub not_unseen : (ss : List Scope) (n : List ℕ) (x : Sight) → IsSight ss n x f.Unseen → coming_paths x ≡ []
not_unseen ss n unseen h = refl
not_unseen ss n seen h = refl
not_unseen ss n (coming p) h = absurd h

pub not_seen : (ss : List Scope) (n : List ℕ) (x : Sight) → IsSight ss n x f.Seen → coming_paths x ≡ []
not_seen ss n unseen h = refl
not_seen ss n seen h = refl
not_seen ss n (coming p) h = absurd h

-- one of a net that is declared behind
pub coming_of : (ss : List Scope) (n : List ℕ) (x : Sight) (place : ℕ) → IsSight ss n x (f.Coming place) → (t : Scope) × (slice_get ss place ≡ Some t) × (coming_paths x ≡ named t n ∷ [])
coming_of ss n unseen place h = absurd h
coming_of ss n seen place h = absurd h
coming_of ss n (coming p) place h = (h.scope, h.stands, ap (λ z. z ∷ []) h.path)

pub coming_told : (ss : List Scope) (n : List ℕ) (x : Sight) (t : Scope) (e : ElabFault) → coming_paths x ≡ named t n ∷ [] → IsFaultAt DeclaredTwice (named t n) e → IsReported (IsLate (coming_paths x)) e
coming_told ss n x t e h k = told_at (IsLate (coming_paths x)) DeclaredTwice (named t n) e (0, ap (λ z. slice_get z 0) h) k

-- ---- names and pieces one after another

-- one among the first is one among all
late_front : (ps qs : List Path) (r : Reason) (p : Path) → IsLate ps r p → IsLate (ps ++ qs) r p
late_front ps qs DeclaredTwice p h = (h.0, (at_front ps qs h.0 p h.1).1)
late_front ps qs NoModule p h = h
late_front ps qs Inside p h = h
late_front ps qs PortMismatch p h = h
late_front ps qs ParameterMismatch p h = h
late_front ps qs DrivenTwice p h = h
late_front ps qs Limit p h = h
late_front ps qs (Width w) p h = h
late_front ps qs Endless p h = h
late_front ps qs Unnamed p h = h
late_front ps qs Timescales p h = h
late_front ps qs (Format wrong) p h = h

module _ (s : Scope) (place : ℕ) (ns : List (Bor (List ℕ))) (i : ℕ) (n : Bor (List ℕ)) (below : i < length ns) (is : n ≡ get_or ns i n) where
  names_at : late_among s place (borrowed (drop i ns)) ≡ coming_paths (sight_in s place n.now) ++ late_among s place (borrowed (drop (i + 1) ns))
  names_at = ap (late_among s place) (map_at (λ (m : Bor (List ℕ)). m.now) ns i n below is)

  -- one name more
  pub names_timely : (whole : List Path) → coming_paths (sight_in s place n.now) ≡ [] → late_among s place (borrowed (drop i ns)) ≡ whole → late_among s place (borrowed (drop (i + 1) ns)) ≡ whole
  names_timely whole h e = sym (names_at ∙ ap (λ z. z ++ late_among s place (borrowed (drop (i + 1) ns))) h) ∙ e

  -- one of a net that is declared behind
  pub names_late : (whole : List Path) (e : ElabFault) → late_among s place (borrowed (drop i ns)) ≡ whole → IsReported (IsLate (coming_paths (sight_in s place n.now))) e → IsReported (IsLate whole) e
  names_late whole e h k =
      let one = coming_paths (sight_in s place n.now) in
      let rest = late_among s place (borrowed (drop (i + 1) ns)) in
      subst (λ z. IsReported (IsLate z) e) (sym names_at ∙ h) (told_by (IsLate one) (IsLate (one ++ rest)) e (late_front one rest) k)

module _ (s : Scope) (ps : List FoundPiece) (i : ℕ) (x : FoundPiece) (below : i < length ps) (is : x ≡ get_or ps i x) where
  pieces_at : late_from s i (map read_piece (drop i ps)) ≡ late_among s i (names_used (read_piece x)) ++ late_from s (i + 1) (map read_piece (drop (i + 1) ps))
  pieces_at =
      let more : suc i ≡ i + 1 = omega arith in
      ap (late_from s i) (map_at read_piece ps i x below is) ∙ ap (λ (z : ℕ). late_among s i (names_used (read_piece x)) ++ late_from s z (map read_piece (drop (i + 1) ps))) more

  pub pieces_timely : (whole : List Path) → late_among s i (names_used (read_piece x)) ≡ [] → late_from s i (map read_piece (drop i ps)) ≡ whole → late_from s (i + 1) (map read_piece (drop (i + 1) ps)) ≡ whole
  pieces_timely whole h e = sym (pieces_at ∙ ap (λ z. z ++ late_from s (i + 1) (map read_piece (drop (i + 1) ps))) h) ∙ e

  pub pieces_late : (whole : List Path) (e : ElabFault) → late_from s i (map read_piece (drop i ps)) ≡ whole → IsReported (IsLate (late_among s i (names_used (read_piece x)))) e → IsReported (IsLate whole) e
  pieces_late whole e h k =
      let one = late_among s i (names_used (read_piece x)) in
      let rest = late_from s (i + 1) (map read_piece (drop (i + 1) ps)) in
      subst (λ z. IsReported (IsLate z) e) (sym pieces_at ∙ h) (told_by (IsLate one) (IsLate (one ++ rest)) e (late_front one rest) k)

-- ---- generate blocks

-- a block with the name of an implicit net
net_block : (s : Scope) (i : ℕ) (t : PathName) (cs : List (List ℕ × Const)) (xs : List ModuleItem) (r : Reason) (p : Path) → IsNetName s t.name r p → IsNamedAsNet s (generated i t cs xs ∷ []) r p
net_block s i t cs xs DeclaredTwice p h = record { place = 0; piece = i; title = t; constants = cs; items = xs; stands = refl; holds = h.0; path = h.1 }
net_block s i t cs xs NoModule p h = h
net_block s i t cs xs Inside p h = h
net_block s i t cs xs PortMismatch p h = h
net_block s i t cs xs ParameterMismatch p h = h
net_block s i t cs xs DrivenTwice p h = h
net_block s i t cs xs Limit p h = h
net_block s i t cs xs (Width w) p h = h
net_block s i t cs xs Endless p h = h
net_block s i t cs xs Unnamed p h = h
net_block s i t cs xs Timescales p h = h
net_block s i t cs xs (Format wrong) p h = h

pub block_told : (s : Scope) (i : ℕ) (t : PathName) (cs : List (List ℕ × Const)) (xs : List ModuleItem) (e : ElabFault) → IsReported (IsNetName s t.name) e → IsReported (IsNamedAsNet s (generated i t cs xs ∷ [])) e
block_told s i t cs xs e h = told_by (IsNetName s t.name) (IsNamedAsNet s (generated i t cs xs ∷ [])) e (net_block s i t cs xs) h

-- the same of what one name answers
pub block_answers : (s : Scope) (i : ℕ) (t : PathName) (cs : List (List ℕ × Const)) (xs : List ModuleItem) (r : Result (Unit {0}) ElabFault) → MatchResult r (λ u. is_implicit s t.name ≡ false) (IsReported (IsNetName s t.name)) →
    MatchResult r (λ u. is_named_as_net s (generated i t cs xs) ≡ false) (IsReported (IsNamedAsNet s (generated i t cs xs ∷ [])))
block_answers s i t cs xs (Ok u) h = h
block_answers s i t cs xs (Err e) h = block_told s i t cs xs e h

first_is : (x y : Inner) (k : ℕ) → slice_get (x ∷ []) k ≡ Some y → x ≡ y
first_is x y zero h = same_Some x y h
first_is x y (suc k) h = absurd (none-some y h)

module _ (s : Scope) (xs : List FoundInner) (i : ℕ) (x : FoundInner) (below : i < length xs) (is : x ≡ get_or xs i x) where
  net_among : (r : Reason) (p : Path) → IsNamedAsNet s (read_inner x ∷ []) r p → IsNamedAsNet s (map read_inner xs) r p
  net_among DeclaredTwice p h = record {
    place = i;
    piece = h.piece;
    title = h.title;
    constants = h.constants;
    items = h.items;
    stands = at_place read_inner xs i x below is ∙ ap Some (first_is (read_inner x) (generated h.piece h.title h.constants h.items) h.place h.stands);
    holds = h.holds;
    path = h.path;
  }
  net_among NoModule p h = h
  net_among Inside p h = h
  net_among PortMismatch p h = h
  net_among ParameterMismatch p h = h
  net_among DrivenTwice p h = h
  net_among Limit p h = h
  net_among (Width w) p h = h
  net_among Endless p h = h
  net_among Unnamed p h = h
  net_among Timescales p h = h
  net_among (Format wrong) p h = h

  pub inner_told : (e : ElabFault) → IsReported (IsNamedAsNet s (read_inner x ∷ [])) e → IsReported (IsNamedAsNet s (map read_inner xs)) e
  inner_told e h = told_by (IsNamedAsNet s (read_inner x ∷ [])) (IsNamedAsNet s (map read_inner xs)) e net_among h

  pub inner_free : (whole : Bool) → is_named_as_net s (read_inner x) ≡ false → list_any (is_named_as_net s) (map read_inner (drop i xs)) ≡ whole → list_any (is_named_as_net s) (map read_inner (drop (i + 1) xs)) ≡ whole
  inner_free whole h e = sym (ap (list_any (is_named_as_net s)) (map_at read_inner xs i x below is) ∙ ap (λ t. t || list_any (is_named_as_net s) (map read_inner (drop (i + 1) xs))) h) ∙ e
