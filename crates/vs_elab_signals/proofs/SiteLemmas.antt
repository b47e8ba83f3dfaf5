-- Where scopes stand, and what names are bound to outward of them.
use Rattle.std.proofs.Common.{◌≡◌, ℕ, zero, suc, ◌<◌, Bool, true, false, cond, List, [], ◌∷◌, ◌++◌, Option, None, Some, length, reverse, get_or, slice_get, refl, ap, sym, subst, ◌∙◌, append_assoc, arith}
use Rattle.std.specs.List.{AllZip}
use Rattle.std.specs.Str.{bytes_eq}
use Rattle.std.specs.Borrow.{Bor}
use Rattle.std.proofs.lemmas.List.{append-nil, reverse-append}
use Rattle.std.proofs.lemmas.Option.{none-some, same_Some}
use Rattle.vs_design.specs.declared.design.ScopeKind.{ScopeKind}
use Rattle.vs_elab_signals.specs.vs_widths.specs.Names.{meaning_of, nested_names}
use Rattle.vs_design.specs.declared.design.ScopeKind.TheVariants as opened_by
use Rattle.vs_scopes.specs.Parameters.{said}
use Rattle.vs_scopes.specs.Declarations.{Bindings}
use Rattle.vs_scopes.specs.Scopes.{Scope, bindings_of, seen_from, environment}
use Rattle.vs_scopes.specs.declared.printed.PathName.{PathName as FoundName}
use Rattle.vs_scopes.specs.scopes_passes.Names.{read_path}
use Rattle.vs_elab_signals.specs.declared.opened.ElabScope.{ElabScope as FoundScope}
use Rattle.vs_elab_signals.specs.Opened.{IsWithin, IsOutermost, HasParentScope, HasSight, IsHome, IsScopeOf, IsOpened, AreOpened, AreSeated}
use Rattle.vs_elab_signals.specs.signal_passes.Sites.{outward_place}
use Rattle.vs_design.specs.vs_logic4.proofs.Basics.{at_front, got}
use Rattle.vs_design.specs.vs_logic4.proofs.Basics.{zip_at}

-- ---- more scopes behind those

pub within_more : (ss more : List Scope) (k : ℕ) (s : Scope) → IsWithin ss k s → IsWithin (ss ++ more) k s
within_more ss more k s h = record {
  outer_scope = h.outer_scope;
  stands = (at_front ss more k h.outer_scope h.stands).1;
  before = h.before;
  path = h.path;
  around = h.around;
  outer = h.outer;
}

pub around_more : (ss more : List Scope) (o : Option ℕ) (s : Scope) → HasParentScope ss o s → HasParentScope (ss ++ more) o s
around_more ss more None s h = h
around_more ss more (Some k) s h = within_more ss more k s h

pub sight_more : (ss more : List Scope) (o : Option ℕ) (piece : ℕ) (s : Scope) → HasSight ss o piece s → HasSight (ss ++ more) o piece s
sight_more ss more None piece s h = h
sight_more ss more (Some k) piece s h = record { outer_scope = h.outer_scope; stands = (at_front ss more k h.outer_scope h.stands).1; sight = h.sight }

pub home_more : (ss more : List Scope) (k : ℕ) (s : Scope) → IsHome ss k s → IsHome (ss ++ more) k s
home_more ss more k s h = record {
  home_scope = h.home_scope;
  stands = (at_front ss more k h.home_scope h.stands).1;
  kind = h.kind;
  path = h.path;
  within = h.within;
}

pub entered_more : (ss more : List Scope) (o : FoundScope) (s : Scope) → IsScopeOf ss o s → IsScopeOf (ss ++ more) o s
entered_more ss more o s h = record {
  title = h.title;
  kind = h.kind;
  number = h.number;
  base = h.base;
  instances = h.instances;
  turns = h.turns;
  depth = h.depth;
  nets = h.nets;
  text = h.text;
  told = h.told;
  ports = h.ports;
  pieces = h.pieces;
  constants = h.constants;
  known = h.known;
  within = h.within;
  home = home_more ss more o.home s h.home;
  around = around_more ss more o.around s h.around;
  sight = sight_more ss more o.around o.piece s h.sight;
  ends = h.ends;
  lefts = h.lefts;
}

pub opened_more : (ss more : List Scope) (o : FoundScope) (s : Scope) → IsOpened ss o s → IsOpened (ss ++ more) o s
opened_more ss more o s h = record { entered = entered_more ss more o s h.entered; names = h.names }

-- ---- names outward

pub said_twice : {A : Type 0} (a b c : Option A) → said a (said b c) ≡ said (said a b) c
said_twice a b None = refl
said_twice a b (Some x) = refl

pub meaning_behind : (xs ys : Bindings) (n : List ℕ) → meaning_of (xs ++ ys) n ≡ said (meaning_of ys n) (meaning_of xs n)
meaning_behind [] ys n = refl
meaning_behind (x ∷ xs) ys n = by (bytes_eq n x.0) (meaning_behind xs ys n)
  where
    by : (t : Bool) → meaning_of (xs ++ ys) n ≡ said (meaning_of ys n) (meaning_of xs n) → cond t (Some x.1) (meaning_of (xs ++ ys) n) ≡ said (meaning_of ys n) (cond t (Some x.1) (meaning_of xs n))
    by true h = refl
    by false h = h

-- What is bound outward of a scope, where names of the scopes up to another one are gathered: that one's own names are the next.
pub outward_more : (s t : Scope) (levels own : Bindings) (n : List ℕ) → meaning_of own n ≡ meaning_of (bindings_of t) n → said (environment t n) (meaning_of levels n) ≡ environment s n →
    said (seen_from t.kind t.outer n) (meaning_of (levels ++ own) n) ≡ environment s n
outward_more s t levels own n e h =
    let seen = seen_from t.kind t.outer n in
    ap (said seen) (meaning_behind levels own n) ∙ said_twice seen (meaning_of own n) (meaning_of levels n) ∙ ap (λ z. said (said seen z) (meaning_of levels n)) e ∙ h

pub nested_push : {V : Type 0} → (xs : List (Bor (List (List ℕ × V)))) (x : Bor (List (List ℕ × V))) → nested_names (xs ++ x ∷ []) ≡ nested_names xs ++ x.now
nested_push [] x = append-nil x.now
nested_push (y ∷ ys) x = ap (λ z. y.now ++ z) (nested_push ys x) ∙ sym (append_assoc y.now (nested_names ys) x.now)

-- ---- scopes at their places

module _ (list : List FoundScope) (ss : List Scope) (a : AreOpened list ss) (at : ℕ) (o : FoundScope) (l : at < length list) (is : o ≡ get_or list at o) where
  -- the scope that an element stands for
  pub opened_at : (t : Scope) → slice_get ss at ≡ Some t → IsOpened ss o t
  opened_at t h = zip_at (IsOpened ss) list ss at o t a.each (got list at o l is) h

  -- the first scope stands in none
  pub first_outermost : (t : Scope) → slice_get ss at ≡ Some t → at ≡ 0 → IsOutermost t
  first_outermost t h z = by o.around (opened_at t h).entered.around
    where
      by : (around : Option ℕ) → HasParentScope ss around t → IsOutermost t
      by None k = k
      by (Some p) k = absurd (omega (arith, k.before, a.places at t h, z))

pub outermost_around : (ss : List Scope) (around : Option ℕ) (t : Scope) → around ≡ None → HasParentScope ss around t → IsOutermost t
outermost_around ss around t e h = subst (λ z. HasParentScope ss z t) e h

-- the next scope outward stands before
pub seated_next : (list : List FoundScope) (at next : ℕ) (o : FoundScope) → AreSeated list → at < length list → o ≡ get_or list at o → o.around ≡ Some next → next < at
seated_next list at next o h l is e = h.around at next o (got list at o l is) e

pub place_outward : (kind : ScopeKind) (around : Option ℕ) (next : ℕ) → outward_place kind around ≡ Some next → (kind ≡ opened_by.Begin) × (around ≡ Some next)
place_outward opened_by.Module around next h = absurd (none-some next h)
place_outward opened_by.Begin around next h = (refl, h)

-- the scope whose names are seen in one, and what they mean
pub seen_within : (ss : List Scope) (t : Scope) (next : ℕ) → HasParentScope ss (Some next) t → t.kind ≡ opened_by.Begin → (u : Scope) × (slice_get ss next ≡ Some u) × ((n : List ℕ) → seen_from t.kind t.outer n ≡ environment u n)
seen_within ss t next w k = (w.outer_scope, w.stands, λ n. ap (λ z. seen_from z t.outer n) k ∙ ap (λ f. f n) w.outer)

-- no names are seen around a scope
pub seen_nothing : (ss : List Scope) (t : Scope) (kind : ScopeKind) (around : Option ℕ) → outward_place kind around ≡ None → kind ≡ t.kind → HasParentScope ss around t → t.kind ≡ opened_by.Module
seen_nothing ss t opened_by.Module around e k a = sym k
seen_nothing ss t opened_by.Begin None e k a = a.kind
seen_nothing ss t opened_by.Begin (Some p) e k a = absurd (none-some p (sym e))

pub seen_none : (t : Scope) (n : List ℕ) → t.kind ≡ opened_by.Module → seen_from t.kind t.outer n ≡ None
seen_none t n k = ap (λ z. seen_from z t.outer n) k

-- ---- names gathered outward

-- names of the scopes outward of a scope up to the one at a place, which are all but what is seen in that one
pub record Gathers (ss : List Scope) (s : Scope) (at : ℕ) (levels : Bindings) : Type 0 where
  pub scope : Scope
  pub stands : slice_get ss at ≡ Some scope
  pub means : (n : List ℕ) → said (environment scope n) (meaning_of levels n) ≡ environment s n

pub gathers_none : (ss : List Scope) (s : Scope) (at : ℕ) → slice_get ss at ≡ Some s → Gathers ss s at []
gathers_none ss s at h = record { scope = s; stands = h; means = λ n. refl }

module _ (ss : List Scope) (s : Scope) (at : ℕ) (o : FoundScope) (levels new : List (Bor Bindings)) (x : Bor Bindings) (p : new ≡ levels ++ x ∷ []) (q : x.now ≡ o.names) (g : Gathers ss s at (nested_names levels)) (h : IsOpened ss o g.scope) where
  -- with the names of one more
  gathers_own : (n : List ℕ) → said (seen_from g.scope.kind g.scope.outer n) (meaning_of (nested_names new) n) ≡ environment s n
  gathers_own n =
      ap (λ z. said (seen_from g.scope.kind g.scope.outer n) (meaning_of z n)) (ap nested_names p ∙ nested_push levels x)
      ∙ outward_more s g.scope (nested_names levels) x.now n (ap (λ (z : Bindings). meaning_of z n) q ∙ h.names n) (g.means n)

  pub gathers_more : (next : ℕ) → outward_place o.kind o.around ≡ Some next → Gathers ss s next (nested_names new)
  gathers_more next e =
      let f = place_outward o.kind o.around next e in
      let w = seen_within ss g.scope next (subst (λ z. HasParentScope ss z g.scope) f.1 h.entered.around) (sym h.entered.kind ∙ f.0) in
      record { scope = w.0; stands = w.1; means = λ n. ap (λ z. said z (meaning_of (nested_names new) n)) (sym (w.2 n)) ∙ gathers_own n }

  pub gathers_all : g.scope.kind ≡ opened_by.Module → (n : List ℕ) → meaning_of (nested_names new) n ≡ environment s n
  gathers_all k n = said_before (meaning_of (nested_names new) n) ∙ ap (λ z. said z (meaning_of (nested_names new) n)) (sym (seen_none g.scope n k)) ∙ gathers_own n
    where
      said_before : {A : Type 0} (m : Option A) → m ≡ said None m
      said_before None = refl
      said_before (Some y) = refl

-- ---- names of a path upward

-- names from a scope upward to the one at a place, but for the path of that one
pub record Climbs (ss : List Scope) (s : Scope) (at : ℕ) (titles : List FoundName) : Type 0 where
  pub scope : Scope
  pub stands : slice_get ss at ≡ Some scope
  pub path : scope.path ++ read_path (reverse titles) ≡ s.path

pub climbs_none : (ss : List Scope) (s : Scope) (at : ℕ) → slice_get ss at ≡ Some s → Climbs ss s at []
climbs_none ss s at h = record { scope = s; stands = h; path = append-nil s.path }

module _ (ss : List Scope) (s : Scope) (at : ℕ) (o : FoundScope) (titles new : List FoundName) (p : new ≡ titles ++ o.title ∷ []) (g : Climbs ss s at titles) (h : IsOpened ss o g.scope) where
  climbs_push : read_path (reverse new) ≡ g.scope.title ∷ read_path (reverse titles)
  climbs_push = ap (λ z. read_path (reverse z)) p ∙ ap read_path (reverse-append titles (o.title ∷ [])) ∙ ap (λ z. z ∷ read_path (reverse titles)) h.entered.title

  pub climbs_more : (next : ℕ) → o.around ≡ Some next → Climbs ss s next new
  climbs_more next e =
      let w : IsWithin ss next g.scope = subst (λ z. HasParentScope ss z g.scope) e h.entered.around in
      record {
        scope = w.outer_scope;
        stands = w.stands;
        path = ap (λ z. w.outer_scope.path ++ z) climbs_push ∙ sym (append_assoc w.outer_scope.path (g.scope.title ∷ []) (read_path (reverse titles))) ∙ ap (λ z. z ++ read_path (reverse titles)) (sym w.path) ∙ g.path;
      }

  pub climbs_all : IsOutermost g.scope → read_path (reverse new) ≡ s.path
  climbs_all w = climbs_push ∙ ap (λ z. z ++ read_path (reverse titles)) (sym w.path) ∙ g.path
