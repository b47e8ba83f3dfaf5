-- The copies that the rules name are copies, and the inverse ones inverse: an edge signal shows its root, and where it has an edge the root has the same
-- one, or the opposite one where the signal shows it inverted.
use Rattle.std.proofs.Common.{◌≡◌, ℕ, zero, suc, Bool, true, false, not, refl, sym, ◌∙◌, ap, subst}
use Rattle.std.proofs.lemmas.Bool.{true≢false, false≢true}
use Rattle.vs_design.specs.vs_logic4.specs.declared.digit.Digit.{Digit}
use Rattle.vs_design.specs.vs_logic4.specs.declared.digit.Digit.TheVariants.{Zero, One, X, Z}
use Rattle.vs_design.specs.vs_logic4.specs.declared.edge.Edge.{Edge}
use Rattle.vs_design.specs.vs_logic4.specs.declared.edge.Edge.TheVariants.{Any, Posedge, Negedge}
use Rattle.vs_design.specs.vs_logic4.specs.Edges.{is_edge}
use Rattle.vs_design.specs.vs_logic4.specs.Tables.{not_digit}
use Rattle.vs_design.specs.declared.statement.EventTerm.{EventTerm}
use Rattle.vs_design.specs.Parts.{Parts}
use Rattle.vs_design.specs.WellFormed.{WellFormed}
use Rattle.vs_independence.specs.vs_process.specs.Executions.{is_any}
use Rattle.vs_independence.specs.vs_process.proofs.WellFormed.{variable_undriven}
use Rattle.vs_rules.specs.Claims.{HasKind}
use Rattle.vs_rules.specs.Copies.{IsOneBit, CopiesRoot, itself, copy, inverse, is_odd, opposite, SeenAs}
use Rattle.vs_rules.specs.vs_process.specs.Edges.{Copies, inverted, inverses, one_more}
use Rattle.vs_rules.specs.vs_process.specs.Edges as a
use Rattle.vs_rules.specs.vs_process.proofs.ThreadLinks.{one_root, one_count}
use Rattle.vs_independence.proofs.Links.{inverts_value, link_by, net_bit, variable_bit, whole_value}
use Rattle.vs_independence.proofs.Roots.{whole_reads, inverse_reads}

-- ---- chains of copies

-- whether a number is odd
abbrev pub odd : ℕ → Bool
odd zero = false
odd (suc n) = not (odd n)

root_one : (d : Parts) (wide : Bool) (root n : ℕ) → CopiesRoot d wide root n → IsOneBit d n
root_one d wide root _ (itself one) = one
root_one d wide root n (copy n' m one link more) = one
root_one d wide root n (inverse n' m e one link more) = one

-- a signal has the value of a root, or its inverse where an odd number of the copies between are inverse
pub record Shows (d : Parts) (root n : ℕ) (inverse : Bool) : Type 0 where
  pub copies : Copies d root n
  pub parity : odd (inverses copies) ≡ inverse

-- one that copies a root by the rules does
pub shows_root : (d : Parts) → WellFormed d → (wide : Bool) (root n : ℕ) → HasKind true d root → (k : CopiesRoot d wide root n) → Shows d root n (is_odd k)
shows_root d formed wide root _ kind (itself one) =
    record { copies = a.itself (variable_bit d root one kind) (variable_undriven d formed root kind); parity = refl }
shows_root d formed wide root n kind (copy n' m one link more) =
    let before = shows_root d formed wide root m kind more in
    let l = link_by d formed n m one link (whole_reads d m link.assign.source link.copies) false
    (λ store time z hm. whole_value d m link.assign.source store time z link.copies (root_one d wide root m more) hm) in
    record { copies = a.through m n before.copies l.0 (net_bit d n m one link); parity = ap (λ b. odd (one_more b (inverses before.copies))) l.1 ∙ before.parity }
shows_root d formed wide root n kind (inverse n' m e one link more) =
    let before = shows_root d formed wide root m kind more in
    let l = link_by d formed n m one link (inverse_reads d m link.assign.source link.copies) true
    (λ store time z hm. inverts_value d m link.assign.source store time z link.copies (root_one d wide root m more) hm) in
    record { copies = a.through m n before.copies l.0 (net_bit d n m one link); parity = ap (λ b. odd (one_more b (inverses before.copies))) l.1 ∙ ap not before.parity }

pub copies_root : (d : Parts) → WellFormed d → (wide : Bool) (root n : ℕ) → HasKind true d root → CopiesRoot d wide root n → Copies d root n
copies_root d formed wide root n kind k = (shows_root d formed wide root n kind k).copies

-- a signal has one root
pub same_root : (d : Parts) → WellFormed d → (wide : Bool) (root other v : ℕ) → Copies d root v → CopiesRoot d wide other v → HasKind true d other → root ≡ other
same_root d formed wide root other v copies k kind = one_root d root other v copies (copies_root d formed wide other v kind k)

-- and one parity
pub parity_of : (d : Parts) → WellFormed d → (wide : Bool) (root v w : ℕ) → v ≡ w → HasKind true d root →
    (k : CopiesRoot d wide root v) (e : Copies d root w) → odd (inverses e) ≡ is_odd k
parity_of d formed wide root v w same kind k =
    let s = shows_root d formed wide root v kind k in
    subst (λ n. (e : Copies d root n) → odd (inverses e) ≡ is_odd k) same (λ e. ap odd (one_count d root v e s.copies) ∙ s.parity)

same_parity : (d : Parts) → WellFormed d → (wide : Bool) (root other v : ℕ) → HasKind true d root → HasKind true d other →
    (k : CopiesRoot d wide root v) (l : CopiesRoot d wide other v) → is_odd k ≡ is_odd l
same_parity d formed wide root other v kind other_kind k l =
    let s = shows_root d formed wide root v kind k in
    let same : root ≡ other = same_root d formed wide root other v s.copies l other_kind in
    sym s.parity
    ∙ subst (λ r. (e : Copies d r v) → odd (inverses e) ≡ is_odd l) (sym same) (λ e. parity_of d formed wide other v v refl other_kind l e) s.copies

-- ---- the edge that a root has where a signal has one

abbrev pub seen_of : Bool → Edge → Edge
seen_of false edge = edge
seen_of true edge = opposite edge

-- it is by the parity of the copies between them
pub seen : (d : Parts) → WellFormed d → (wide : Bool) (root : ℕ) (t : EventTerm) → HasKind true d root → (k : CopiesRoot d wide root t.range.signal) →
    SeenAs d wide t (seen_of (is_odd k) t.edge)
seen d formed wide root t kind k = by_parity (is_odd k) refl
  where
    by_parity : (b : Bool) → is_odd k ≡ b → SeenAs d wide t (seen_of b t.edge)
    by_parity false e = record {
      plain = λ straight. refl;
      inverse = λ x. absurd (true≢false (sym x.odd ∙ same_parity d formed wide x.root root t.range.signal x.variable kind x.copies k ∙ e));
    }
    by_parity true e = record {
      plain = λ straight. absurd (straight (record { root = root; variable = kind; copies = k; odd = e }));
      inverse = λ x. refl;
    }

-- and no other
pub one_seen : (d : Parts) → WellFormed d → (wide : Bool) (root : ℕ) (t : EventTerm) → HasKind true d root →
    (k : CopiesRoot d wide root t.range.signal) (edge : Edge) → SeenAs d wide t edge → edge ≡ seen_of (is_odd k) t.edge
one_seen d formed wide root t kind k edge s = by_parity (is_odd k) refl
  where
    by_parity : (b : Bool) → is_odd k ≡ b → edge ≡ seen_of b t.edge
    by_parity false e = s.plain (λ x. true≢false (sym x.odd ∙ same_parity d formed wide x.root root t.range.signal x.variable kind x.copies k ∙ e))
    by_parity true e = s.inverse (record { root = root; variable = kind; copies = k; odd = e })

-- ---- edges behind inverters

-- where what is behind an inverter has an edge, what is before it has the opposite one
edge_before : (edge : Edge) (a z : Digit) → is_any edge ≡ false → is_edge edge a (not_digit z) ≡ true → is_edge (opposite edge) (not_digit a) z ≡ true
edge_before Any a z level h = absurd (true≢false level)
edge_before Posedge Zero Zero level h = refl
edge_before Posedge Zero One level h = absurd (false≢true h)
edge_before Posedge Zero X level h = refl
edge_before Posedge Zero Z level h = refl
edge_before Posedge One Zero level h = absurd (false≢true h)
edge_before Posedge One One level h = absurd (false≢true h)
edge_before Posedge One X level h = absurd (false≢true h)
edge_before Posedge One Z level h = absurd (false≢true h)
edge_before Posedge X Zero level h = refl
edge_before Posedge X One level h = absurd (false≢true h)
edge_before Posedge X X level h = absurd (false≢true h)
edge_before Posedge X Z level h = absurd (false≢true h)
edge_before Posedge Z Zero level h = refl
edge_before Posedge Z One level h = absurd (false≢true h)
edge_before Posedge Z X level h = absurd (false≢true h)
edge_before Posedge Z Z level h = absurd (false≢true h)
edge_before Negedge Zero Zero level h = absurd (false≢true h)
edge_before Negedge Zero One level h = absurd (false≢true h)
edge_before Negedge Zero X level h = absurd (false≢true h)
edge_before Negedge Zero Z level h = absurd (false≢true h)
edge_before Negedge One Zero level h = absurd (false≢true h)
edge_before Negedge One One level h = refl
edge_before Negedge One X level h = refl
edge_before Negedge One Z level h = refl
edge_before Negedge X Zero level h = absurd (false≢true h)
edge_before Negedge X One level h = refl
edge_before Negedge X X level h = absurd (false≢true h)
edge_before Negedge X Z level h = absurd (false≢true h)
edge_before Negedge Z Zero level h = absurd (false≢true h)
edge_before Negedge Z One level h = refl
edge_before Negedge Z X level h = absurd (false≢true h)
edge_before Negedge Z Z level h = absurd (false≢true h)

inverted_not : (count : ℕ) (z : Digit) → inverted count (not_digit z) ≡ not_digit (inverted count z)
inverted_not zero z = refl
inverted_not (suc count) z = ap not_digit (inverted_not count z)

seen_more : (b : Bool) (edge : Edge) → seen_of (not b) edge ≡ seen_of b (opposite edge)
seen_more false edge = refl
seen_more true Any = refl
seen_more true Posedge = refl
seen_more true Negedge = refl

pub seen_level : (b : Bool) (edge : Edge) → is_any edge ≡ false → is_any (seen_of b edge) ≡ false
seen_level false edge level = level
seen_level true Any level = level
seen_level true Posedge level = refl
seen_level true Negedge level = refl

-- so before several of them it has the one that is seen
pub edge_seen : (count : ℕ) (edge : Edge) (a z : Digit) → is_any edge ≡ false → is_edge edge a (inverted count z) ≡ true →
    is_edge (seen_of (odd count) edge) (inverted count a) z ≡ true
edge_seen zero edge a z level h = h
edge_seen (suc count) edge a z level h =
    ap (λ e. is_edge e (not_digit (inverted count a)) z) (seen_more (odd count) edge)
    ∙ ap (λ y. is_edge (seen_of (odd count) (opposite edge)) y z) (sym (inverted_not count a))
    ∙ edge_seen count (opposite edge) (not_digit a) z (seen_level true edge level) (edge_before edge a (inverted count z) level h)
