-- What a block reads and writes, by signals and by terms.
use Rattle.std.proofs.Common.{◌≡◌, ℕ, ◌<◌, ◌⊎◌, inl, inr, ◌↔◌, true, false, IsTrue, Bool, Some, List, [], ◌∷◌, map, slice_get, refl, sym, ◌∙◌, ap, subst, arith}
use Rattle.std.specs.List.{Contains}
use Rattle.std.proofs.lemmas.Option.{same_Some}
use Rattle.vs_design.specs.declared.design.Process.{Process}
use Rattle.vs_design.specs.declared.range.BitRange.{BitRange}
use Rattle.vs_design.specs.declared.signal.Signal.{Signal}
use Rattle.vs_design.specs.declared.statement.EventTerm.{EventTerm}
use Rattle.vs_design.specs.Parts.{Parts}
use Rattle.vs_process.specs.Writes.{statement_writes}
use Rattle.vs_drivers.specs.vs_rules.specs.Paths.{Has, text_reads}
use Rattle.vs_claims.specs.vs_maps.specs.Ranges.{HasSignal, HasTermAt}
use Rattle.vs_claims.specs.vs_maps.specs.Reaches.{Chart}
use Rattle.vs_claims.specs.vs_maps.proofs.RangeLemmas.{later_in, in_either}
use Rattle.vs_drivers.specs.Places.{bit}
use Rattle.vs_drivers.specs.Ranges.{Cover}
use Rattle.vs_drivers.proofs.Words.{parted}
use Rattle.vs_drivers.specs.Signals.{AreOf}
use Rattle.vs_graph.proofs.RowLemmas.{head_in as first_in}
use Rattle.vs_cert_blocks.specs.Blocks.{IsNamed, AreNamed, AreWrittenFirst, AreOfOrNamed, IsSignalFirst, AreSignalsFirst, KeepsText}
use Rattle.vs_cert_blocks.specs.Walks.{IsWrittenFirst}

-- ---- terms

map_on : (terms : List EventTerm) (r : BitRange) → Contains (map (λ (t : EventTerm). t.range) terms) r → (term : EventTerm) × Contains terms term × (term.range ≡ r)
map_on [] r h = absurd (omega (arith, h.1))
map_on (t ∷ terms) r h = elim (in_either t.range (map (λ (t : EventTerm). t.range) terms) r h) [
  | inl e ↦ (t, first_in t terms, e)
  | inr c ↦ let y = map_on terms r c in (y.0, later_in t terms y.0 y.1, y.2)
]

map_back : (terms : List EventTerm) (term : EventTerm) → Contains terms term → Contains (map (λ (t : EventTerm). t.range) terms) term.range
map_back [] term h = absurd (omega (arith, h.1))
map_back (t ∷ terms) term h = elim (in_either t terms term h) [
  | inl e ↦ subst (λ (x : EventTerm). Contains (t.range ∷ map (λ (t : EventTerm). t.range) terms) x.range) e (first_in t.range (map (λ (t : EventTerm). t.range) terms))
  | inr c ↦ later_in t.range (map (λ (t : EventTerm). t.range) terms) term.range (map_back terms term c)
]

-- the ranges of the terms of a map cover a range exactly where it is named
named_on : (d : Parts) (t : Chart) (terms : List EventTerm) (named : List BitRange) → ((term : EventTerm) → (Contains terms term ↔ HasTermAt t term)) →
    named ≡ map (λ (t : EventTerm). t.range) terms → (r : BitRange) → Cover d named r → IsNamed d t r
named_on d t terms named are e r h b is has =
    let x = h b is has in
    let y = map_on terms x.range (subst (λ (l : List BitRange). Contains l x.range) e x.listed) in
    (y.0, (are y.0).0 y.1, subst (λ (q : BitRange). Has q b) (sym y.2) x.has)

named_back : (d : Parts) (t : Chart) (terms : List EventTerm) (named : List BitRange) → ((term : EventTerm) → (Contains terms term ↔ HasTermAt t term)) →
    named ≡ map (λ (t : EventTerm). t.range) terms → (r : BitRange) → IsNamed d t r → Cover d named r
named_back d t terms named are e r h b is has =
    let x = h b is has in record {
      range = x.0.range;
      listed = subst (λ (l : List BitRange). Contains l x.0.range) (sym e) (map_back terms x.0 ((are x.0).1 x.1));
      has = x.2;
    }

-- ranges in another order, and those of one signal alone
pub cover_same : (d : Parts) (all some : List BitRange) (r : BitRange) → ((q : BitRange) → (Contains some q ↔ Contains all q)) → (Cover d some r ↔ Cover d all r)
cover_same d all some r are = (
  λ h b is has. let x = h b is has in record { range = x.range; listed = (are x.range).0 x.listed; has = x.has },
  λ h b is has. let x = h b is has in record { range = x.range; listed = (are x.range).1 x.listed; has = x.has },
)

pub cover_part : (d : Parts) (all some : List BitRange) (r : BitRange) → AreOf all r.signal some → (Cover d some r ↔ Cover d all r)
cover_part d all some r are = (
  λ h b is has. let x = h b is has in record { range = x.range; listed = ((are x.range).0 x.listed).0; has = x.has },
  λ h b is has.
      let x = h b is has in
      let one = (parted x.range b.signal b.word b.place x.has).of in
      let other = (parted r b.signal b.word b.place has).of in
      record { range = x.range; listed = (are x.range).1 (x.listed, one ∙ sym other); has = x.has },
)

pub named_is : (d : Parts) (t : Chart) (signals set : List ℕ) (read : List BitRange) (terms : List EventTerm) (ranges named : List BitRange) →
    ((term : EventTerm) → (Contains terms term ↔ HasTermAt t term)) → ranges ≡ map (λ (t : EventTerm). t.range) terms →
    ((r : BitRange) → (Contains named r ↔ Contains ranges r)) → ((v : ℕ) → (Contains set v ↔ Contains signals v)) → (good : Bool) →
    (IsTrue good ↔ ((r : BitRange) → Contains read r → Contains set r.signal ⊎ Cover d named r)) → (IsTrue good ↔ AreOfOrNamed d t signals read)
named_is d t signals set read terms ranges named are e same put good h = (
  λ y r c. elim (h.0 y r c) [
    | inl s ↦ inl ((put r.signal).0 s)
    | inr n ↦ inr (named_on d t terms ranges are e r ((cover_same d ranges named r same).0 n))
  ],
  λ all. h.1 (λ r c. elim (all r c) [
    | inl s ↦ inl ((put r.signal).1 s)
    | inr n ↦ inr ((cover_same d ranges named r same).1 (named_back d t terms ranges are e r n))
  ]),
)

-- ---- signals

pub signal_first_is : (d : Parts) (t : Chart) (v : ℕ) (s : Signal) → slice_get d.signals v ≡ Some s → (good : Bool) →
    (IsTrue good ↔ ((w n : ℕ) → w < s.count → n < s.width → IsWrittenFirst t (bit v w n))) → (IsTrue good ↔ IsSignalFirst d t v)
signal_first_is d t v s is good h = (
  λ y b there of.
      let same : there.signal ≡ s = same_Some there.signal s (sym (ap (slice_get d.signals) (sym of) ∙ there.is) ∙ is) in
      subst (λ (x : ℕ). IsWrittenFirst t (bit x b.word b.place)) (sym of)
      (h.0 y b.word b.place (subst (λ (x : Signal). b.word < x.count) same there.word) (subst (λ (x : Signal). b.place < x.width) same there.place)),
  λ all. h.1 (λ w n low less. all (bit v w n) (record { signal = s; is = is; word = low; place = less }) refl),
)

-- ---- of a text

pub named_same : (d : Parts) (t : Chart) (signals : List ℕ) (written read : List BitRange) → ((v : ℕ) → (Contains signals v ↔ HasSignal written v)) →
    (AreOfOrNamed d t signals read ↔ AreNamed d t written read)
named_same d t signals written read are = (
  λ h r c. elim (h r c) [ inl s ↦ inl ((are r.signal).0 s) | inr n ↦ inr n ],
  λ h r c. elim (h r c) [ inl s ↦ inl ((are r.signal).1 s) | inr n ↦ inr n ],
)

pub first_same : (d : Parts) (t : Chart) (signals : List ℕ) (written : List BitRange) → ((v : ℕ) → (Contains signals v ↔ HasSignal written v)) →
    (AreSignalsFirst d t signals ↔ AreWrittenFirst d t written)
first_same d t signals written are = (λ h b is s. h b.signal ((are b.signal).1 s) b is refl, λ h v c b is of. h b is (subst (λ (x : ℕ). HasSignal written x) (sym of) ((are v).0 c)))

-- the signals of a text, and the ranges that it reads
pub record IsOfText (q : Process) (written : List BitRange) (signals one other : List ℕ) (read : List BitRange) : Type 0 where
  pub written_are : written ≡ statement_writes q.body
  pub read_are : read ≡ text_reads q.body
  pub signals_are : (v : ℕ) → (Contains signals v ↔ HasSignal written v)
  pub one_is : one ≡ signals
  pub other_is : other ≡ signals

text_named : (d : Parts) (q : Process) (t : Chart) (written : List BitRange) (signals one other : List ℕ) (read : List BitRange) → IsOfText q written signals one other read →
    (AreOfOrNamed d t one read ↔ AreNamed d t (statement_writes q.body) (text_reads q.body))
text_named d q t written signals one other read h =
    subst (λ (w : List BitRange). (AreOfOrNamed d t one read ↔ AreNamed d t w (text_reads q.body))) h.written_are
    (subst (λ (r : List BitRange). (AreOfOrNamed d t one read ↔ AreNamed d t written r)) h.read_are
    (named_same d t one written read (λ v. subst (λ (l : List ℕ). (Contains l v ↔ HasSignal written v)) (sym h.one_is) (h.signals_are v))))

text_first : (d : Parts) (q : Process) (t : Chart) (written : List BitRange) (signals one other : List ℕ) (read : List BitRange) → IsOfText q written signals one other read →
    (AreSignalsFirst d t other ↔ AreWrittenFirst d t (statement_writes q.body))
text_first d q t written signals one other read h =
    subst (λ (w : List BitRange). (AreSignalsFirst d t other ↔ AreWrittenFirst d t w)) h.written_are
    (first_same d t other written (λ v. subst (λ (l : List ℕ). (Contains l v ↔ HasSignal written v)) (sym h.other_is) (h.signals_are v)))

pub text_not : (d : Parts) (q : Process) (t : Chart) (written : List BitRange) (signals one other : List ℕ) (read : List BitRange) → IsOfText q written signals one other read →
    (good : Bool) → (IsTrue good ↔ AreOfOrNamed d t one read) → good ≡ false → (IsTrue false ↔ KeepsText d q t)
text_not d q t written signals one other read h good is not =
    (λ x. absurd (grind (arith, x)), λ k. sym not ∙ is.1 ((text_named d q t written signals one other read h).1 k.0))

pub text_is : (d : Parts) (q : Process) (t : Chart) (written : List BitRange) (signals one other : List ℕ) (read : List BitRange) → IsOfText q written signals one other read →
    (named : Bool) → (IsTrue named ↔ AreOfOrNamed d t one read) → named ≡ true → (good : Bool) → (IsTrue good ↔ AreSignalsFirst d t other) → (IsTrue good ↔ KeepsText d q t)
text_is d q t written signals one other read h named is yes_named good all = (
  λ x. ((text_named d q t written signals one other read h).0 (is.0 yes_named), (text_first d q t written signals one other read h).0 (all.0 x)),
  λ k. all.1 ((text_first d q t written signals one other read h).1 k.1),
)
