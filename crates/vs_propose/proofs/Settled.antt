-- Designs without processes of which some certificate has an order in which their continuous assignments settle.
use Rattle.std.proofs.Common.{◌≡◌, ℕ, zero, suc, ◌<◌, ◌⊎◌, inl, inr, Option, Some, None, List, length, map, slice_get, IsUtf8, refl, ◌∙◌, ap, subst, arith}
use Rattle.std.specs.List.{Contains}
use Rattle.std.proofs.lemmas.Option.{same_Some, slice_get_within}
use Rattle.std.proofs.lemmas.Str.{IsUtf8-string_bytes}
use Rattle.vs_certificate.specs.declared.members.Certificate.{Certificate}
use Rattle.vs_design.specs.declared.design.Assign.{Assign}
use Rattle.vs_design.specs.declared.signal.Signal.{Signal}
use Rattle.vs_design.specs.Parts.{Parts}
use Rattle.vs_design.specs.WellFormed.{WellFormed}
use Rattle.vs_drivers.specs.vs_rules.specs.Certificates.{name_from, signal_claim, claims_of}
use Rattle.vs_drivers.specs.vs_rules.specs.Claims.{Name, Claims, SignalClaim, place_of, assign_name, signal_name, signal_names, IsSignalNamed, IsAssignNamed}
use Rattle.vs_drivers.specs.vs_rules.specs.Drivers.{assign, Precedes}
use Rattle.vs_drivers.specs.vs_rules.specs.Rules.{K4}
use Rattle.vs_design.specs.vs_logic4.proofs.Basics.{map_at as mapped}
use Rattle.vs_propose.specs.Claimed.{HasTexts}
use Rattle.vs_propose.specs.Needs.{ReadsFrom, IsOrder}
use Rattle.vs_propose.specs.Settling.{Settles}
use Rattle.vs_propose.proofs.Places.{mapped_back, has_or, there, distinct}

-- ---- names

pub named_signal : (o : Option Signal) (name : Name) → signal_name o ≡ Some name → (s : Signal) × (o ≡ Some s) × (s.path.items ≡ name)
named_signal None name h = absurd (cc)
named_signal (Some s) name h = (s, refl, same_Some s.path.items name h)

pub named_assign : (o : Option Assign) (name : Name) → assign_name o ≡ Some name → (a : Assign) × (o ≡ Some a) × (a.name.items ≡ name)
named_assign None name h = absurd (cc)
named_assign (Some a) name h = (a, refl, same_Some a.name.items name h)

pub signal_once : (d : Parts) → WellFormed d → (v w : ℕ) (name : Name) → IsSignalNamed d v name → IsSignalNamed d w name → v ≡ w
signal_once d formed v w name a b =
    let s = named_signal (slice_get d.signals v) name a in
    let t = named_signal (slice_get d.signals w) name b in
    distinct (map (λ (s : Signal). s.path.items) d.signals) v w name formed.paths
    (mapped (λ (s : Signal). s.path.items) d.signals v s.0 s.1 ∙ ap (λ x. Some x) s.2) (mapped (λ (s : Signal). s.path.items) d.signals w t.0 t.1 ∙ ap (λ x. Some x) t.2)

pub assign_once : (d : Parts) → WellFormed d → (j k : ℕ) (name : Name) → IsAssignNamed d j name → IsAssignNamed d k name → j ≡ k
assign_once d formed j k name a b =
    let s = named_assign (slice_get d.assigns j) name a in
    let t = named_assign (slice_get d.assigns k) name b in
    distinct (map (λ (a : Assign). a.name.items) d.assigns) j k name formed.assign_names
    (mapped (λ (a : Assign). a.name.items) d.assigns j s.0 s.1 ∙ ap (λ x. Some x) s.2) (mapped (λ (a : Assign). a.name.items) d.assigns k t.0 t.1 ∙ ap (λ x. Some x) t.2)

pub no_both : (d : Parts) (c : Claims) → Settles d c → (v j : ℕ) (name : Name) → IsSignalNamed d v name → IsAssignNamed d j name → ⊥
no_both d c s v j name signal named = omega (arith, (s.signals v name signal).nowhere, ((s.assigns j).listed name named).once)

-- the names are texts, since the certificate has them
pub has_texts : (d : Parts) (c : Certificate) → Settles d (claims_of c) → HasTexts d
has_texts d c s = record {
  signals = λ v name is.
      let p = there (signal_names (claims_of c)) name (s.signals v name is).once in
      let claim = mapped_back (λ (x : SignalClaim). x.name) (map signal_claim c.signals.items) p.0 name p.1 in
      let entry = mapped_back signal_claim c.signals.items p.0 claim.0 claim.1 in
      subst IsUtf8 (ap (λ (x : SignalClaim). x.name) entry.2 ∙ claim.2) (IsUtf8-string_bytes entry.0.name);
  assigns = λ j name is.
      let p = there (claims_of c).order name ((s.assigns j).listed name is).once in
      let text = mapped_back name_from c.order.items p.0 name p.1 in
      subst IsUtf8 text.2 (IsUtf8-string_bytes text.0);
}

-- ---- an order of all

-- the place of a name that may be there
abbrev place_in : Option Name → List Name → ℕ
place_in None order = 0
place_in (Some name) order = place_of name order

abbrev pub rank : Parts → Claims → ℕ → ℕ
rank d c j = place_in (assign_name (slice_get d.assigns j)) c.order

ranked : (d : Parts) (c : Claims) (x y : ℕ) → Precedes d c (assign y) (assign x) → rank d c y < rank d c x
ranked d c x y s =
    let one : rank d c y ≡ place_of s.one c.order = ap (λ o. place_in o c.order) s.is in
    let other : rank d c x ≡ place_of s.other c.order = ap (λ o. place_in o c.order) s.other_is in
    omega (arith, s.before, one, other)

-- what is read from comes before, under the claims
before : (d : Parts) (c : Claims) (x y : ℕ) → K4 d c (assign x) → ReadsFrom d x y → rank d c y < rank d c x
before d c x y keeps r = by (keeps.earlier r.read r.share.bit (assign y) tt r.reads r.share.is r.share.has tt (record { range = r.written; writes = r.writes; has = r.share.other_has }))
  where
    by : ⊥ ⊎ Precedes d c (assign y) (assign x) → rank d c y < rank d c x
    by (inl h) = absurd h
    by (inr s) = ranked d c x y s

pub writes_within : (d : Parts) (x y : ℕ) → ReadsFrom d x y → y < length d.assigns
writes_within d x y r = slice_get_within d.assigns y r.writes.0 r.writes.1

-- so none is left out
pub all_ordered : (d : Parts) (c : Claims) (order : List ℕ) → IsOrder d order → ((j : ℕ) → K4 d c (assign j)) → (n x : ℕ) → rank d c x < n → x < length d.assigns → Contains order x
all_ordered d c order o keeps zero x low within = absurd (omega (arith, low))
all_ordered d c order o keeps (suc n) x low within = elim (has_or order x) [
  | inl has ↦ has
  | inr out ↦
      let l = o.sorted.lacks x (omega (arith, within, o.needs.long)) out in
      let reads : ReadsFrom d x l.lacked = (o.needs.exact x l.lacked).0 l.needs in
      absurd (l.is_out (all_ordered d c order o keeps n l.lacked (omega (arith, low, before d c x l.lacked (keeps x) reads)) (writes_within d x l.lacked reads)))
]

pub ordered : (d : Parts) (c : Claims) (order : List ℕ) → IsOrder d order → ((j : ℕ) → K4 d c (assign j)) → (x : ℕ) → x < length d.assigns → Contains order x
ordered d c order o keeps x within = all_ordered d c order o keeps (suc (rank d c x)) x (omega arith) within
