-- Expressions by their form, measured.
use Rattle.std.proofs.Common.{◌≡◌, ℕ, zero, suc, ◌+◌, ◌*◌, ◌<◌, ◌≤◌, Bool, true, false, ◌||◌, List, [], ◌∷◌, ◌++◌, Option, Some, None, IsSome, Result, Ok, Err, option_map, length, map, take, drop, get_or, refl, ap, ap₂, sym, subst, ◌∙◌, arith}
use Rattle.std.proofs.Math.Seq.{drop-cons}
use Rattle.std.proofs.lemmas.List.{take_all}
use Rattle.std.proofs.lemmas.Option.{none-some, same_Some}
use Rattle.std.proofs.lemmas.Bool.{eq-eqb, le-leb, lt-leb}
use Rattle.std.specs.declared.vec.Vec.{Vec}
use Rattle.std.specs.declared.boxed.Box.{Box}
use Rattle.std.specs.declared.alloc.Global.{Global}
use Rattle.vs_design.specs.vs_logic4.specs.declared.digit.Digit.{Digit}
use Rattle.vs_design.specs.vs_logic4.specs.declared.operators.Unary.{Unary}
use Rattle.vs_design.specs.vs_logic4.specs.declared.operators.Binary.{Binary}
use Rattle.vs_design.specs.vs_logic4.specs.Operators.{sizing_of, gives_bit}
use Rattle.vs_design.specs.vs_logic4.specs.Vectors.{resized}
use Rattle.vs_design.specs.vs_logic4.specs.Parts.{replication}
use Rattle.vs_syntax.specs.vs_lexer.specs.declared.token.Literal.{Literal}
use Rattle.vs_syntax.specs.declared.tree.Expr.{Expr, Expr-F, map-Expr, roll-Expr, fold-roll-Expr}
use Rattle.vs_syntax.specs.declared.tree.Expr.TheVariants as e
use Rattle.vs_syntax.specs.declared.tree.Expr.TheOpen as x
use Rattle.vs_design.specs.Stores.{Store}
use Rattle.vs_design.specs.Uses.{joined}
use Rattle.vs_design.specs.WellFormed.{choice_size, picked_size, sum_size, at_most_64}
use Rattle.vs_widths.specs.vs_eval.specs.Values.{chosen, concatenated}
use Rattle.vs_widths.specs.declared.shape.Shape.{Shape}
use Rattle.vs_widths.specs.declared.faults.WidthReason.{WidthReason}
use Rattle.vs_widths.specs.declared.faults.WidthReason.TheVariants.{TooWide}
use Rattle.vs_widths.specs.declared.faults.WidthFault.{WidthFault}
use Rattle.vs_widths.specs.declared.faults.WidthFault.TheVariants.{Memory, Refused}
use Rattle.vs_widths.specs.declared.forms.Sizable.{Sizable}
use Rattle.vs_widths.specs.declared.forms.Sizable.TheVariants as v
use Rattle.vs_widths.specs.declared.forms.Sizable.TheOpen as f
use Rattle.vs_widths.specs.declared.forms.Measured.{Measured}
use Rattle.vs_widths.specs.Environment.{Environment}
use Rattle.vs_widths.specs.Findings.{Finding, Has, Lacks, has_width_fault, together, alone, alike, linked_shape, second, unsigned, beside, repeated, too_wide, Refuses}
use Rattle.vs_widths.specs.Layers.{brought}
use Rattle.vs_widths.specs.Selects.{size_found}
use Rattle.vs_widths.specs.Meants.{Meant, own}
use Rattle.vs_widths.specs.Expressions.{meant, meant_step, number_meant, name_meant, unary_finding, unary_meant, cast_meant, linked_meant, chain_meant, choice_finding, choice_meant, sum_finding, joined_value, concat_meant, repeated_value, repeat_meant}
use Rattle.vs_widths.specs.Constants.{where_none, where_some, constant_finding, count_finding, natural_of, positive}
use Rattle.vs_widths.specs.Senses.{Sense, sense}
use Rattle.vs_widths.specs.select_passes.Measures.{meaning, IsFlexible, IsMeasured, Measures, IsOwnPart, IsCount}
use Rattle.vs_widths.specs.passes.Forms.{links_meant, pairs_meant, IsChoicePair, IsPartOf, AreJoined, IsRepetition, Repeats, Closes}
use Rattle.vs_widths.specs.Each.{Each, each_none, each_more}
use Rattle.vs_widths.proofs.FittingLemmas.{layer, pairs_sensed}
use Rattle.vs_widths.proofs.FixingLemmas.{meant_same}
use Rattle.vs_design.specs.vs_logic4.proofs.Basics.{front_of}
use Rattle.vs_widths.proofs.PlaceLemmas.{refused_by}
use Rattle.vs_widths.proofs.AimLemmas.{stands_left, stands_right, stands_alone}

-- ---- faults

pub stands_unary : (b : Bool) (a : Finding) (r : WidthReason) → has_width_fault r a ≡ true → has_width_fault r (unary_finding b a) ≡ true
stands_unary true a r h = stands_alone (λ width signed. Has 1 false) a r h
stands_unary false a r h = h

pub stands_chain : (a : Meant) (ls : List (Binary × Meant)) (r : WidthReason) → has_width_fault r a.finding ≡ true → has_width_fault r (chain_meant a ls).finding ≡ true
stands_chain a [] r h = h
stands_chain a (l ∷ ls) r h = stands_chain (linked_meant a l) ls r (stands_left (linked_shape (sizing_of l.0)) a.finding l.1.finding r h)

pub stands_choice : (a : Finding) (ps : List (Meant × Meant)) (r : WidthReason) → has_width_fault r a ≡ true → has_width_fault r (choice_finding a ps) ≡ true
stands_choice a [] r h = h
stands_choice a (p ∷ ps) r h =
    stands_choice (together second p.0.finding (together alike a p.1.finding)) ps r (stands_right second p.0.finding (together alike a p.1.finding) r (stands_left alike a p.1.finding r h))

pub stands_sum : (a : Finding) (ms : List Meant) (r : WidthReason) → has_width_fault r a ≡ true → has_width_fault r (sum_finding a ms) ≡ true
stands_sum a [] r h = h
stands_sum a (m ∷ ms) r h = stands_sum (together beside a m.finding) ms r (stands_left beside a m.finding r h)

-- ---- forms of expressions

module _ (env : Environment) where
  pub form : (y : Expr-F Expr) (z : Expr) → roll-Expr y ≡ z → meant env z ≡ meant_step env (map-Expr Expr Meant (meant env) y)
  form y z h = ap (meant env) (sym h) ∙ fold-roll-Expr Meant (meant_step env) y

  pub meant_Number : (l : Literal) → meant env (e.Number l) ≡ number_meant l
  meant_Number l = form (x.Number l) (e.Number l) (e.rolls-Number l)

  pub meant_Name : (n : Vec ℕ Global) → meant env (e.Name n) ≡ name_meant (env n.items)
  meant_Name n = form (x.Name n) (e.Name n) (e.rolls-Name n)

  pub meant_Group : (b : Box Expr Global) → meant env (e.Group b) ≡ meant env b.value
  meant_Group b = form (x.Group b) (e.Group b) (e.rolls-Group b)

  pub meant_Unary : (op : Unary) (b : Box Expr Global) → meant env (e.Unary op b) ≡ unary_meant op (meant env b.value)
  meant_Unary op b = form (x.Unary op b) (e.Unary op b) (e.rolls-Unary op b)

  pub meant_Chain : (b : Box Expr Global) (ls : Vec (Binary × Expr) Global) → meant env (e.Chain b ls) ≡ chain_meant (meant env b.value) (links_meant env ls.items)
  meant_Chain b ls = form (x.Chain b ls) (e.Chain b ls) (e.rolls-Chain b ls)

  pub meant_Choice : (ps : Vec (Expr × Expr) Global) (b : Box Expr Global) → meant env (e.Choice ps b) ≡ choice_meant (pairs_meant env ps.items) (meant env b.value)
  meant_Choice ps b = form (x.Choice ps b) (e.Choice ps b) (e.rolls-Choice ps b)

  pub meant_Concat : (b : Box Expr Global) (es : Vec Expr Global) → meant env (e.Concat b es) ≡ concat_meant (meant env b.value) (map (meant env) es.items)
  meant_Concat b es = form (x.Concat b es) (e.Concat b es) (e.rolls-Concat b es)

  pub meant_Repeat : (n b : Box Expr Global) (es : Vec Expr Global) → meant env (e.Repeat n b es) ≡ repeat_meant (meant env n.value) (meant env b.value) (map (meant env) es.items)
  meant_Repeat n b es = form (x.Repeat n b es) (e.Repeat n b es) (e.rolls-Repeat n b es)

  pub meant_Cast : (s : Bool) (b : Box Expr Global) → meant env (e.Cast s b) ≡ cast_meant s (meant env b.value)
  meant_Cast s b = form (x.Cast s b) (e.Cast s b) (e.rolls-Cast s b)

-- what measures one meaning measures the same under another name
pub measures_as : (m n : Meant) (r : Result Measured WidthFault) → n ≡ m → Measures m r → Measures n r
measures_as m n r h k = subst (λ z. Measures z r) (sym h) k

pub refuses_as : (a b : Finding) (d : WidthFault) → b ≡ a → Refuses a d → Refuses b d
refuses_as a b d h k = subst (λ z. Refuses z d) (sym h) k

abbrev pub paired : List Digit → List Digit → List Digit × List Digit
paired a b = (a, b)

picked_same : (c : Option ℕ) (w : ℕ) → IsSome c → picked_size c (Some w) (Some w) ≡ Some w
picked_same None w h = cc
picked_same (Some n) w h = rw (eq-eqb w w refl) refl

-- ---- operators of two operands

drop_end : {A : Type 0} (xs : List A) (i : ℕ) → length xs ≤ i → drop i xs ≡ []
drop_end [] zero h = refl
drop_end [] (suc i) h = refl
drop_end (y ∷ ys) zero h = absurd (omega arith)
drop_end (y ∷ ys) (suc i) h = drop_end ys i (omega arith)

module _ (env : Environment) where
  -- a loop's step over operands
  pub links_step : (all b new : Measured) (first : Meant) (ls : List (Binary × Expr)) (i : ℕ) (l : Binary × Expr) → i < length ls → l ≡ get_or ls i l → IsMeasured (meant env l.1) b →
      IsMeasured (linked_meant (meaning all) (l.0, meaning b)) new → chain_meant (meaning all) (links_meant env (drop i ls)) ≡ chain_meant first (links_meant env ls) →
      chain_meant (meaning new) (links_meant env (drop (i + 1) ls)) ≡ chain_meant first (links_meant env ls)
  links_step all b new first ls i l h k p q whole =
      let rest = links_meant env (drop (i + 1) ls) in
      let same : meaning new ≡ linked_meant (meaning all) (l.0, meant env l.1) = sym q.means ∙ ap (λ z. linked_meant (meaning all) (l.0, z)) (sym p.means) in
      ap (λ z. chain_meant z rest) same ∙ ap (λ z. chain_meant (meaning all) (links_meant env z)) (sym (front_of ls i l h k)) ∙ whole

  -- a fault of an operand
  pub link_refused : (all : Measured) (first : Meant) (ls : List (Binary × Expr)) (i : ℕ) (l : Binary × Expr) (d : WidthFault) → i < length ls → l ≡ get_or ls i l → Refuses (meant env l.1).finding d →
      chain_meant (meaning all) (links_meant env (drop i ls)) ≡ chain_meant first (links_meant env ls) → Refuses (chain_meant first (links_meant env ls)).finding d
  link_refused all first ls i l d h k bad whole =
      let rest = links_meant env (drop (i + 1) ls) in
      let here : chain_meant first (links_meant env ls) ≡ chain_meant (linked_meant (meaning all) (l.0, meant env l.1)) rest =
      sym whole ∙ ap (λ z. chain_meant (meaning all) (links_meant env z)) (front_of ls i l h k) in
      refuses_as _ _ d (ap (λ z. z.finding) here) (
      refused_by (meant env l.1).finding (chain_meant (linked_meant (meaning all) (l.0, meant env l.1)) rest).finding d
      (λ r s. stands_chain (linked_meant (meaning all) (l.0, meant env l.1)) rest r (stands_right (linked_shape (sizing_of l.0)) (meaning all).finding (meant env l.1).finding r s)) bad
      )

  pub links_end : (all : Measured) (first : Meant) (ls : List (Binary × Expr)) (i : ℕ) → length ls ≤ i → IsFlexible all.form →
      chain_meant (meaning all) (links_meant env (drop i ls)) ≡ chain_meant first (links_meant env ls) → IsMeasured (chain_meant first (links_meant env ls)) all
  links_end all first ls i h p whole = record {
    means = sym whole ∙ ap (λ z. chain_meant (meaning all) (links_meant env z)) (drop_end ls i h);
    flexible = p;
  }

  -- ---- choices

  pub pair_of : (p : Expr × Expr) (c o : Measured) (a : Sizable) → IsMeasured (meant env p.0) c → IsMeasured (meant env p.1) o → IsOwnPart c a → IsChoicePair env p (a, o.form)
  pair_of p c o a h k q = record {
    condition_size = λ w. subst IsSome (sym (q.size w ∙ h.flexible c.shape.width)) refl;
    condition_ranges = q.ranges ∙ sym (ap (λ z. z.reads) h.means);
    condition_value = λ store time w g. q.value store time w g ∙ sym (ap (λ z. own z store time) h.means);
    size = k.flexible;
    ranges = sym (ap (λ z. z.reads) k.means);
    value = λ store time w g. sym (ap (λ z. z.at store time w g) k.means);
  }

  pub pairs_step : (old new s : Shape) (ps : List (Expr × Expr)) (i : ℕ) (p : Expr × Expr) (c o : Measured) → i < length ps → p ≡ get_or ps i p → IsMeasured (meant env p.0) c → IsMeasured (meant env p.1) o →
      alike old.width old.signed o.shape.width o.shape.signed ≡ Has new.width new.signed →
      choice_finding (Has old.width old.signed) (pairs_meant env (drop i ps)) ≡ choice_finding (Has s.width s.signed) (pairs_meant env ps) →
      choice_finding (Has new.width new.signed) (pairs_meant env (drop (i + 1) ps)) ≡ choice_finding (Has s.width s.signed) (pairs_meant env ps)
  pairs_step old new s ps i p c o h k m n j whole =
      let rest = pairs_meant env (drop (i + 1) ps) in
      let here : together second (meant env p.0).finding (together alike (Has old.width old.signed) (meant env p.1).finding) ≡ Has new.width new.signed =
      ap₂ (λ a b. together second a (together alike (Has old.width old.signed) b)) (ap (λ z. z.finding) m.means) (ap (λ z. z.finding) n.means)
      ∙ ap (together second (Has c.shape.width c.shape.signed)) j in
      ap (λ z. choice_finding z rest) (sym here) ∙ ap (λ z. choice_finding (Has old.width old.signed) (pairs_meant env z)) (sym (front_of ps i p h k)) ∙ whole

  pub pair_refused : (old s : Shape) (ps : List (Expr × Expr)) (i : ℕ) (p : Expr × Expr) (d : WidthFault) → i < length ps → p ≡ get_or ps i p →
      choice_finding (Has old.width old.signed) (pairs_meant env (drop i ps)) ≡ choice_finding (Has s.width s.signed) (pairs_meant env ps) →
      Refuses (together second (meant env p.0).finding (together alike (Has old.width old.signed) (meant env p.1).finding)) d →
      Refuses (choice_finding (Has s.width s.signed) (pairs_meant env ps)) d
  pair_refused old s ps i p d h k whole bad =
      let rest = pairs_meant env (drop (i + 1) ps) in
      let here = together second (meant env p.0).finding (together alike (Has old.width old.signed) (meant env p.1).finding) in
      let is : choice_finding (Has s.width s.signed) (pairs_meant env ps) ≡ choice_finding here rest =
      sym whole ∙ ap (λ z. choice_finding (Has old.width old.signed) (pairs_meant env z)) (front_of ps i p h k) in
      refuses_as _ _ d is (refused_by here (choice_finding here rest) d (λ r t. stands_choice here rest r t) bad)

  pub condition_refused : (old s : Shape) (ps : List (Expr × Expr)) (i : ℕ) (p : Expr × Expr) (d : WidthFault) → i < length ps → p ≡ get_or ps i p →
      choice_finding (Has old.width old.signed) (pairs_meant env (drop i ps)) ≡ choice_finding (Has s.width s.signed) (pairs_meant env ps) →
      Refuses (meant env p.0).finding d → Refuses (choice_finding (Has s.width s.signed) (pairs_meant env ps)) d
  condition_refused old s ps i p d h k whole bad =
      pair_refused old s ps i p d h k whole (
      refused_by (meant env p.0).finding (together second (meant env p.0).finding (together alike (Has old.width old.signed) (meant env p.1).finding)) d
      (λ r t. stands_left second (meant env p.0).finding (together alike (Has old.width old.signed) (meant env p.1).finding) r t) bad
      )

  pub operand_refused : (old s : Shape) (ps : List (Expr × Expr)) (i : ℕ) (p : Expr × Expr) (d : WidthFault) → i < length ps → p ≡ get_or ps i p →
      choice_finding (Has old.width old.signed) (pairs_meant env (drop i ps)) ≡ choice_finding (Has s.width s.signed) (pairs_meant env ps) →
      Refuses (meant env p.1).finding d → Refuses (choice_finding (Has s.width s.signed) (pairs_meant env ps)) d
  operand_refused old s ps i p d h k whole bad =
      let more = together alike (Has old.width old.signed) (meant env p.1).finding in
      pair_refused old s ps i p d h k whole (
      refused_by (meant env p.1).finding (together second (meant env p.0).finding more) d
      (λ r t. stands_right second (meant env p.0).finding more r (stands_right alike (Has old.width old.signed) (meant env p.1).finding r t)) bad
      )

  pairs_size : (w : ℕ) (ps : List (Expr × Expr)) (qs : List (Sizable × Sizable)) → Each (IsChoicePair env) ps qs → choice_size (map (λ (q : Sense × Sense). (q.0.size w, q.1.size w)) (pairs_sensed qs)) (Some w) ≡ Some w
  pairs_size w _ _ each_none = refl
  pairs_size w _ _ (each_more p q ps qs h r) =
      ap₂ (λ a b. picked_size ((sense q.0).size w) a b) (h.size w) (pairs_size w ps qs r) ∙ picked_same ((sense q.0).size w) w (h.condition_size w)

  pairs_reads : (ps : List (Expr × Expr)) (qs : List (Sizable × Sizable)) → Each (IsChoicePair env) ps qs →
      joined (map (λ (q : Sense × Sense). q.0.reads ++ q.1.reads) (pairs_sensed qs)) ≡ joined (map (λ (p : Meant × Meant). p.0.reads ++ p.1.reads) (pairs_meant env ps))
  pairs_reads _ _ each_none = refl
  pairs_reads _ _ (each_more p q ps qs h r) = ap₂ (λ a b. a ++ b) (ap₂ (λ a b. a ++ b) h.condition_ranges h.ranges) (pairs_reads ps qs r)

  pairs_value : (store : Store) (time w : ℕ) (g : Bool) (ps : List (Expr × Expr)) (qs : List (Sizable × Sizable)) → Each (IsChoicePair env) ps qs →
      map {B = List Digit × List Digit} (λ (q : Sense × Sense). (q.0.at store time w g, q.1.at store time w g)) (pairs_sensed qs)
      ≡ map {B = List Digit × List Digit} (λ (p : Meant × Meant). (own p.0 store time, p.1.at store time w g)) (pairs_meant env ps)
  pairs_value store time w g _ _ each_none = refl
  pairs_value store time w g _ _ (each_more p q ps qs h r) =
      ap₂ (λ a b. a ∷ b) (ap₂ paired (h.condition_value store time w g) (h.value store time w g)) (pairs_value store time w g ps qs r)

  pub pairs_end : (last : Measured) (s : Shape) (ps : List (Expr × Expr)) (i : ℕ) (qs : Vec (Sizable × Sizable) Global) (b : Box Sizable Global) → length ps ≤ i → b.value ≡ last.form → IsFlexible last.form →
      choice_finding (Has s.width s.signed) (pairs_meant env (drop i ps)) ≡ choice_finding (Has last.shape.width last.shape.signed) (pairs_meant env ps) → Each (IsChoicePair env) (take i ps) qs.items →
      IsMeasured (choice_meant (pairs_meant env ps) (meaning last)) (record { shape = s; form = v.Choice qs b })
  pairs_end last s ps i qs b h k p whole done =
      let same = layer (f.Choice qs b) (v.Choice qs b) (v.rolls-Choice qs b) in
      let all : Each (IsChoicePair env) ps qs.items = subst (λ z. Each (IsChoicePair env) z qs.items) (take_all i ps h) done in
      record {
        means = meant_same (choice_meant (pairs_meant env ps) (meaning last)) (meaning (record { shape = s; form = v.Choice qs b }))
            (sym whole ∙ ap (λ z. choice_finding (Has s.width s.signed) (pairs_meant env z)) (drop_end ps i h))
            (sym (ap (λ z. z.reads) same ∙ ap₂ (λ a z. a ++ (sense z).reads) (pairs_reads ps qs.items all) k))
            (λ store time w g. sym (ap (λ z. z.at store time w g) same ∙ ap₂ (λ a z. chosen a ((sense z).at store time w g)) (pairs_value store time w g ps qs.items all) k))
            (λ w. sym (ap (λ z. z.layer w) same));
        flexible = λ w. ap (λ z. z.size w) same ∙ ap (λ z. choice_size (map (λ (q : Sense × Sense). (q.0.size w, q.1.size w)) (pairs_sensed qs.items)) z) (ap (λ z. (sense z).size w) k ∙ p w) ∙ pairs_size w ps qs.items all;
      }

-- ---- concatenations

-- a sum of two sizes
pub record IsSum (o : Option ℕ) (n a : ℕ) : Type 0 where
  pub rest : ℕ
  pub known : o ≡ Some rest
  pub sum : n + rest ≡ a

sum_of : (o : Option ℕ) (n a : ℕ) → option_map (λ m. n + m) o ≡ Some a → IsSum o n a
sum_of None n a h = absurd (none-some a h)
sum_of (Some m) n a h = record { rest = m; known = refl; sum = same_Some (n + m) a h }

sum_push : (sizes : List (Option ℕ)) (n a : ℕ) → sum_size sizes ≡ Some a → sum_size (sizes ++ Some n ∷ []) ≡ Some (a + n)
sum_push [] n a h =
    let zero_is : 0 ≡ a = same_Some 0 a h in
    ap Some (omega arith)
sum_push (None ∷ sizes) n a h = absurd (none-some a h)
sum_push (Some m ∷ sizes) n a h =
    let s = sum_of (sum_size sizes) m a h in
    let all : m + (s.rest + n) ≡ a + n = omega (arith, s.sum) in
    ap (option_map (λ k. m + k)) (sum_push sizes n s.rest s.known) ∙ ap Some all

pub sum_one : (n : ℕ) → sum_size (Some n ∷ []) ≡ Some n
sum_one n = ap Some (omega arith)

abbrev pub sizes_of : ℕ → List Sizable → List (Option ℕ)
sizes_of w xs = map (λ (s : Sense). s.size w) (map sense xs)

sizes_push : (w : ℕ) (xs : List Sizable) (y : Sizable) → sizes_of w (xs ++ y ∷ []) ≡ sizes_of w xs ++ (sense y).size w ∷ []
sizes_push w [] y = refl
sizes_push w (x ∷ xs) y = ap (λ z. (sense x).size w ∷ z) (sizes_push w xs y)

at_most_is : (n : ℕ) → n ≤ 64 → at_most_64 (Some n) ≡ Some n
at_most_is n h = rw (le-leb n 64 h) refl

module _ (env : Environment) where
  pub part_of : (m : Expr) (c : Measured) (a : Sizable) → IsMeasured (meant env m) c → IsOwnPart c a → IsPartOf env m a
  part_of m c a h q = record {
    ranges = q.ranges ∙ sym (ap (λ z. z.reads) h.means);
    value = λ store time w g. q.value store time w g ∙ sym (ap (λ z. own z store time) h.means);
  }

  abbrev pub sum_from : ℕ → List Expr → Finding
  sum_from w es = sum_finding (Has w false) (map (meant env) es)

  unsigned_fits : (w : ℕ) → w ≤ 64 → unsigned w ≡ Has w false
  unsigned_fits w h = rw (le-leb w 64 h) refl

  unsigned_wide : (w : ℕ) → 64 < w → unsigned w ≡ Lacks too_wide
  unsigned_wide w h = rw (lt-leb w 64 h) refl

  pub parts_step : (old new s : ℕ) (es : List Expr) (i : ℕ) (m : Expr) (c : Measured) → i < length es → m ≡ get_or es i m → IsMeasured (meant env m) c → new ≡ old + c.shape.width → new ≤ 64 →
      sum_from old (drop i es) ≡ sum_from s es → sum_from new (drop (i + 1) es) ≡ sum_from s es
  parts_step old new s es i m c h k p j fits whole =
      let rest = map (meant env) (drop (i + 1) es) in
      let here : together beside (Has old false) (meant env m).finding ≡ Has new false =
      ap (λ z. together beside (Has old false) z.finding) p.means ∙ ap unsigned (sym j) ∙ unsigned_fits new fits in
      ap (λ z. sum_finding z rest) (sym here) ∙ ap (λ z. sum_from old z) (sym (front_of es i m h k)) ∙ whole

  pub size_step : (w s old new : ℕ) (xs ys : List Sizable) (c : Measured) (a : Sizable) → IsFlexible c.form → IsOwnPart c a → new ≡ old + c.shape.width → ys ≡ xs ++ a ∷ [] →
      sum_size (Some s ∷ sizes_of w xs) ≡ Some old → sum_size (Some s ∷ sizes_of w ys) ≡ Some new
  size_step w s old new xs ys c a p q j k h =
      let last : (sense a).size w ≡ Some c.shape.width = q.size w ∙ p c.shape.width in
      ap (λ z. sum_size (Some s ∷ z)) (ap (sizes_of w) k ∙ sizes_push w xs a ∙ ap (λ z. sizes_of w xs ++ z ∷ []) last)
      ∙ sum_push (Some s ∷ sizes_of w xs) c.shape.width old h ∙ ap Some (sym j)

  part_stands : (old s : ℕ) (es : List Expr) (i : ℕ) (m : Expr) (d : WidthFault) → i < length es → m ≡ get_or es i m → sum_from old (drop i es) ≡ sum_from s es →
      Refuses (together beside (Has old false) (meant env m).finding) d → Refuses (sum_from s es) d
  part_stands old s es i m d h k whole bad =
      let rest = map (meant env) (drop (i + 1) es) in
      let here = together beside (Has old false) (meant env m).finding in
      refuses_as _ _ d (sym whole ∙ ap (λ z. sum_from old z) (front_of es i m h k)) (refused_by here (sum_finding here rest) d (λ r t. stands_sum here rest r t) bad)

  pub part_refused : (old s : ℕ) (es : List Expr) (i : ℕ) (m : Expr) (d : WidthFault) → i < length es → m ≡ get_or es i m → sum_from old (drop i es) ≡ sum_from s es →
      Refuses (meant env m).finding d → Refuses (sum_from s es) d
  part_refused old s es i m d h k whole bad =
      part_stands old s es i m d h k whole (refused_by (meant env m).finding (together beside (Has old false) (meant env m).finding) d (λ r t. stands_right beside (Has old false) (meant env m).finding r t) bad)

  pub part_too_wide : (old s : ℕ) (es : List Expr) (i : ℕ) (m : Expr) (c : Measured) → i < length es → m ≡ get_or es i m → IsMeasured (meant env m) c → 64 < old + c.shape.width → sum_from old (drop i es) ≡ sum_from s es →
      has_width_fault TooWide (sum_from s es) ≡ true
  part_too_wide old s es i m c h k p wide whole =
      part_stands old s es i m (Refused TooWide) h k whole (ap (λ z. has_width_fault TooWide (together beside (Has old false) z.finding)) p.means ∙ ap (has_width_fault TooWide) (unsigned_wide (old + c.shape.width) wide))

  parts_reads : (es : List Expr) (xs : List Sizable) → Each (IsPartOf env) es xs → joined (map (λ (s : Sense). s.reads) (map sense xs)) ≡ joined (map (λ (m : Meant). m.reads) (map (meant env) es))
  parts_reads _ _ each_none = refl
  parts_reads _ _ (each_more m y ms ys h r) = ap₂ (λ a b. a ++ b) h.ranges (parts_reads ms ys r)

  parts_value : (store : Store) (time w : ℕ) (g : Bool) (es : List Expr) (xs : List Sizable) → Each (IsPartOf env) es xs →
      map (λ (s : Sense). s.at store time w g) (map sense xs) ≡ map (λ (m : Meant). own m store time) (map (meant env) es)
  parts_value store time w g _ _ each_none = refl
  parts_value store time w g _ _ (each_more m y ms ys h r) = ap₂ (λ a b. a ∷ b) (h.value store time w g) (parts_value store time w g ms ys r)

  pub parts_end : (first : Measured) (a : Sizable) (s : Shape) (n : ℕ) (es : List Expr) (i : ℕ) (xs : Vec Sizable Global) (b : Box Sizable Global) → length es ≤ i → b.value ≡ a → IsFlexible first.form → IsOwnPart first a → n ≤ 64 → s.signed ≡ false → s.width ≡ n →
      sum_from n (drop i es) ≡ sum_from first.shape.width es → ((w : ℕ) → sum_size (Some first.shape.width ∷ sizes_of w xs.items) ≡ Some n) → Each (IsPartOf env) (take i es) xs.items →
      AreJoined (meaning first) (map (meant env) es) (record { shape = s; form = v.Concat b xs })
  parts_end first a s n es i xs b h k p q fits sign wide whole sum done =
      let same = layer (f.Concat b xs) (v.Concat b xs) (v.rolls-Concat b xs) in
      let all : Each (IsPartOf env) es xs.items = subst (λ z. Each (IsPartOf env) z xs.items) (take_all i es h) done in
      record {
        found = sym whole ∙ ap (λ z. sum_from n z) (drop_end es i h) ∙ ap₂ Has (sym wide) (sym sign);
        size = λ w.
            ap (λ z. z.size w) same ∙ ap (λ z. at_most_64 (sum_size (z ∷ sizes_of w xs.items))) (ap (λ z. (sense z).size w) k ∙ q.size w ∙ p first.shape.width)
            ∙ ap at_most_64 (sum w) ∙ at_most_is n fits ∙ ap Some (sym wide);
        ranges = ap (λ z. z.reads) same ∙ ap₂ (λ c d. c ++ d) (ap (λ z. (sense z).reads) k ∙ q.ranges) (parts_reads es xs.items all);
        value = λ store time w g. ap (λ z. z.at store time w g) same ∙ ap₂ concatenated (ap (λ z. (sense z).at store time w g) k ∙ q.value store time w g) (parts_value store time w g es xs.items all);
        layer = λ w. ap (λ z. z.layer w) same;
      }

-- ---- replications

pub is_repeat : (count : Measured) (n : ℕ) (first : Meant) (rest : List Meant) (x y : Measured) → IsCount (meaning count) n → AreJoined first rest x → IsRepetition n x y →
    IsMeasured (repeat_meant (meaning count) first rest) y
is_repeat count n first rest x y k h r =
    let counted = k.found count.shape.width count.shape.signed refl in
    record {
      means = meant_same (repeat_meant (meaning count) first rest) (meaning y)
          (ap₂ (together (λ w s width signed. repeated (positive (natural_of (meaning count))) width)) counted h.found ∙ ap (λ z. repeated z x.shape.width) k.times ∙ r.found)
          (sym (r.ranges ∙ h.ranges))
          (λ store time w g. ap (λ z. resized g w (repeated_value z (joined_value first rest store time))) k.times
          ∙ sym (r.value store time w g ∙ ap (λ z. resized g w (take 64 (replication n z))) (h.value store time y.shape.width y.shape.signed)))
          (λ w. sym (r.layer w));
      flexible = λ w. r.size w ∙ ap (λ z. option_map (λ m. w) (at_most_64 (option_map (λ m. n * m) z))) (h.size y.shape.width) ∙ ap (option_map (λ m. w)) (at_most_is (n * x.shape.width) r.most);
    }

pub repeat_too_wide : (count : Measured) (n : ℕ) (first : Meant) (rest : List Meant) (x : Measured) (d : WidthFault) → IsCount (meaning count) n → AreJoined first rest x → Refuses (unsigned (n * x.shape.width)) d →
    Refuses (repeat_meant (meaning count) first rest).finding d
repeat_too_wide count n first rest x d k h bad =
    let counted = k.found count.shape.width count.shape.signed refl in
    refuses_as _ _ d (ap₂ (together (λ w s width signed. repeated (positive (natural_of (meaning count))) width)) counted h.found ∙ ap (λ z. repeated z x.shape.width) k.times) bad

pub repeats : (count : Measured) (n : ℕ) (first : Meant) (rest : List Meant) (x : Measured) (r : Result Measured WidthFault) → IsCount (meaning count) n → AreJoined first rest x → Repeats n x r → Measures (repeat_meant (meaning count) first rest) r
repeats count n first rest x (Ok y) k h q = is_repeat count n first rest x y k h q
repeats count n first rest x (Err d) k h q = repeat_too_wide count n first rest x d k h q

-- ---- concatenations and casts in a context

pub concat_closed : (first : Meant) (rest : List Meant) (x : Measured) (r : Result Measured WidthFault) → AreJoined first rest x → Closes x x.shape r → Measures (concat_meant first rest) r
concat_closed first rest x (Ok y) h k = record {
  means = meant_same (concat_meant first rest) (meaning y) (h.found ∙ ap (λ z. Has z.width z.signed) (sym k.shape_is)) (sym (k.ranges ∙ h.ranges))
      (λ store time w g. sym (k.value store time w g ∙ ap (resized g w) (h.value store time x.shape.width x.shape.signed)))
      (λ w. sym (k.layer w ∙ ap (brought w) (h.layer x.shape.width)));
  flexible = λ w. k.size w ∙ ap (option_map (λ n. w)) (h.size x.shape.width);
}
concat_closed first rest x (Err d) h k = rw k tt

pub cast_closed : (sign : Bool) (m : Meant) (x : Measured) (s : Shape) (r : Result Measured WidthFault) → IsMeasured m x → s.width ≡ x.shape.width → s.signed ≡ sign → Closes x s r → Measures (cast_meant sign m) r
cast_closed sign m x s (Ok y) h p q k = record {
  means = meant_same (cast_meant sign m) (meaning y)
      (ap (λ z. alone (λ width signed. Has width sign) z.finding) h.means ∙ ap₂ Has (sym p) (sym q) ∙ ap (λ z. Has z.width z.signed) (sym k.shape_is))
      (ap (λ z. z.reads) h.means ∙ sym k.ranges)
      (λ store time w g. ap (λ z. resized g w (own z store time)) h.means ∙ sym (k.value store time w g))
      (λ w. ap (λ z. brought w (z.layer (size_found z.finding))) h.means ∙ sym (k.layer w));
  flexible = λ w. k.size w ∙ ap (option_map (λ n. w)) (h.flexible x.shape.width);
}
cast_closed sign m x s (Err d) h p q k = rw k tt

-- ---- faults of the first part

pub unary_refused : (op : Unary) (m : Meant) (d : WidthFault) → Refuses m.finding d → Refuses (unary_meant op m).finding d
unary_refused op m d h = refused_by m.finding (unary_meant op m).finding d (λ r s. stands_unary (gives_bit op) m.finding r s) h

pub cast_refused : (sign : Bool) (m : Meant) (d : WidthFault) → Refuses m.finding d → Refuses (cast_meant sign m).finding d
cast_refused sign m d h = refused_by m.finding (cast_meant sign m).finding d (λ r s. stands_alone (λ width signed. Has width sign) m.finding r s) h

pub chain_refused : (a : Meant) (ls : List (Binary × Meant)) (d : WidthFault) → Refuses a.finding d → Refuses (chain_meant a ls).finding d
chain_refused a ls d h = refused_by a.finding (chain_meant a ls).finding d (λ r s. stands_chain a ls r s) h

pub choice_refused : (ps : List (Meant × Meant)) (a : Meant) (d : WidthFault) → Refuses a.finding d → Refuses (choice_meant ps a).finding d
choice_refused ps a d h = refused_by a.finding (choice_finding a.finding ps) d (λ r s. stands_choice a.finding ps r s) h

pub concat_refused : (a : Meant) (ms : List Meant) (d : WidthFault) → Refuses a.finding d → Refuses (concat_meant a ms).finding d
concat_refused a ms d h =
    let f = λ (width : ℕ) (signed : Bool). Has width false in
    refused_by a.finding (concat_meant a ms).finding d (λ r s. stands_sum (alone f a.finding) ms r (stands_alone f a.finding r s)) h

pub count_refused : (count first : Meant) (rest : List Meant) (d : WidthFault) → Refuses (count_finding count) d → Refuses (repeat_meant count first rest).finding d
count_refused count first rest d h =
    refused_by (count_finding count) (repeat_meant count first rest).finding d
    (λ r s. stands_left (λ w t width signed. repeated (positive (natural_of count)) width) (count_finding count) (concat_meant first rest).finding r s) h

pub counted_refused : (count : Meant) (d : WidthFault) → Refuses count.finding d → Refuses (count_finding count) d
counted_refused count d h =
    refused_by count.finding (count_finding count) d
    (λ r s. stands_alone (where_some (positive (natural_of count))) (constant_finding count) r (stands_alone (where_none count.reads) count.finding r s)) h

pub parts_refused : (count first : Meant) (rest : List Meant) (d : WidthFault) → Refuses (concat_meant first rest).finding d → Refuses (repeat_meant count first rest).finding d
parts_refused count first rest d h =
    refused_by (concat_meant first rest).finding (repeat_meant count first rest).finding d
    (λ r s. stands_right (λ w t width signed. repeated (positive (natural_of count)) width) (count_finding count) (concat_meant first rest).finding r s) h

-- ---- each form

module _ (env : Environment) where
  pub form_Unary : (op : Unary) (b : Box Expr Global) (a : Expr) (r : Result Measured WidthFault) → a ≡ b.value → Measures (unary_meant op (meant env a)) r → Measures (meant env (e.Unary op b)) r
  form_Unary op b a r k h = measures_as _ _ r (meant_Unary env op b ∙ ap (λ z. unary_meant op (meant env z)) (sym k)) h

  pub form_Cast : (s : Bool) (b : Box Expr Global) (a : Expr) (r : Result Measured WidthFault) → a ≡ b.value → Measures (cast_meant s (meant env a)) r → Measures (meant env (e.Cast s b)) r
  form_Cast s b a r k h = measures_as _ _ r (meant_Cast env s b ∙ ap (λ z. cast_meant s (meant env z)) (sym k)) h

  pub form_Chain : (b : Box Expr Global) (ls : Vec (Binary × Expr) Global) (a : Expr) (ks : List (Binary × Expr)) (r : Result Measured WidthFault) → a ≡ b.value → ks ≡ ls.items →
      Measures (chain_meant (meant env a) (links_meant env ks)) r → Measures (meant env (e.Chain b ls)) r
  form_Chain b ls a ks r k l h = measures_as _ _ r (meant_Chain env b ls ∙ ap₂ (λ z y. chain_meant (meant env z) (links_meant env y)) (sym k) (sym l)) h

  pub form_Choice : (ps : Vec (Expr × Expr) Global) (b : Box Expr Global) (ks : List (Expr × Expr)) (a : Expr) (r : Result Measured WidthFault) → ks ≡ ps.items → a ≡ b.value →
      Measures (choice_meant (pairs_meant env ks) (meant env a)) r → Measures (meant env (e.Choice ps b)) r
  form_Choice ps b ks a r l k h = measures_as _ _ r (meant_Choice env ps b ∙ ap₂ (λ z y. choice_meant (pairs_meant env z) (meant env y)) (sym l) (sym k)) h

  pub form_Concat : (b : Box Expr Global) (es : Vec Expr Global) (a : Expr) (ks : List Expr) (r : Result Measured WidthFault) → a ≡ b.value → ks ≡ es.items →
      Measures (concat_meant (meant env a) (map (meant env) ks)) r → Measures (meant env (e.Concat b es)) r
  form_Concat b es a ks r k l h = measures_as _ _ r (meant_Concat env b es ∙ ap₂ (λ z y. concat_meant (meant env z) (map (meant env) y)) (sym k) (sym l)) h

  pub form_Repeat : (n b : Box Expr Global) (es : Vec Expr Global) (m a : Expr) (ks : List Expr) (r : Result Measured WidthFault) → m ≡ n.value → a ≡ b.value → ks ≡ es.items →
      Measures (repeat_meant (meant env m) (meant env a) (map (meant env) ks)) r → Measures (meant env (e.Repeat n b es)) r
  form_Repeat n b es m a ks r j k l h =
      measures_as _ _ r (meant_Repeat env n b es ∙ ap (λ z. repeat_meant (meant env z) (meant env b.value) (map (meant env) es.items)) (sym j)
      ∙ ap₂ (λ z y. repeat_meant (meant env m) (meant env z) (map (meant env) y)) (sym k) (sym l)) h
