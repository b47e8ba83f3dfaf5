-- Left sides of assignments by their form.
use Rattle.std.proofs.Common.{◌≡◌, ℕ, suc, ◌+◌, ◌<◌, ◌≤◌, true, false, ◌&&◌, List, [], ◌∷◌, ◌++◌, Option, Some, None, Result, length, map, sum, take, drop, get_or, refl, ap, ap₂, sym, subst, ◌∙◌, arith}
use Rattle.std.proofs.Math.Seq.{drop-cons}
use Rattle.std.proofs.lemmas.Bool.{le-leb}
use Rattle.std.proofs.lemmas.List.{map-append, append_assoc, take_all, take_more, take-append-drop}
use Rattle.std.proofs.lemmas.List.Sums.{sum_by-append}
use Rattle.std.specs.List.{list_any}
use Rattle.std.specs.declared.vec.Vec.{Vec}
use Rattle.std.specs.declared.boxed.Box.{Box}
use Rattle.std.specs.declared.alloc.Global.{Global}
use Rattle.vs_syntax.specs.declared.tree.Expr.{Expr}
use Rattle.vs_syntax.specs.declared.tree.Left.{Left}
use Rattle.vs_syntax.specs.declared.tree.Left.TheOpen.{Left-F}
use Rattle.vs_syntax.specs.declared.tree.Left.TheOpen as x
use Rattle.vs_syntax.specs.declared.tree.Left.TheVariants as l
use Rattle.vs_syntax.specs.declared.tree.Left.{map-Left, roll-Left, fold-roll-Left}
use Rattle.vs_syntax.specs.declared.tree.PartSelect.{PartSelect}
use Rattle.vs_design.specs.declared.statement.Target.{Target}
use Rattle.vs_design.specs.Uses.{aim_range}
use Rattle.vs_design.specs.WellFormed.{aim_width}
use Rattle.vs_widths.specs.Each.{Each, each_none, each_more}
use Rattle.vs_widths.specs.declared.faults.WidthReason.{WidthReason}
use Rattle.vs_widths.specs.declared.faults.WidthFault.{WidthFault}
use Rattle.vs_widths.specs.Environment.{Environment}
use Rattle.vs_widths.specs.Findings.{Finding, Has, Lacks, has_width_fault, together, unsigned, beside, Refuses}
use Rattle.vs_widths.specs.Selects.{Select, Named, named_range, select_has_fault}
use Rattle.vs_widths.specs.Expressions.{meant_selects}
use Rattle.vs_widths.specs.declared.kinds.AssignmentKind.{AssignmentKind}
use Rattle.vs_widths.specs.Lefts.{Aimed, name_aimed, sum_found, from_last, concat_aimed, aimed_step, aimed}
use Rattle.vs_widths.specs.Aiming.{IsPlace, IsTarget}
use Rattle.vs_widths.specs.passes.Aims.{AreWithin, Aims, IsJoined}
use Rattle.vs_widths.proofs.ReadLemmas.{reads_within}
use Rattle.vs_widths.proofs.AimLemmas.{stands_left, stands_right, selects_refused}
use Rattle.vs_widths.proofs.PlaceLemmas.{refused_by}
use Rattle.vs_design.specs.vs_logic4.proofs.Basics.{take_push as split_at}

-- ---- faults of parts

stands_sum : (a : Finding) (bs : List Finding) (r : WidthReason) → has_width_fault r a ≡ true → has_width_fault r (sum_found a bs) ≡ true
stands_sum a [] r h = h
stands_sum a (b ∷ bs) r h = stands_sum (together beside a b) bs r (stands_left beside a b r h)

sum_append : (a : Finding) (bs cs : List Finding) → sum_found a (bs ++ cs) ≡ sum_found (sum_found a bs) cs
sum_append a [] cs = refl
sum_append a (b ∷ bs) cs = sum_append (together beside a b) bs cs

-- ---- lists

each_append : {A B : Type 0} (R : A → B → Type 0) (xs vs : List A) (ys ws : List B) → Each R xs ys → Each R vs ws → Each R (xs ++ vs) (ys ++ ws)
each_append R _ vs _ ws each_none k = k
each_append R _ vs _ ws (each_more x y xs ys h r) k = each_more x y (xs ++ vs) (ys ++ ws) h (each_append R xs vs ys ws r k)

from_last_push : (nss : List (List Named)) (ns : List Named) → from_last (nss ++ ns ∷ []) ≡ ns ++ from_last nss
from_last_push [] [] = refl
from_last_push [] (n ∷ ns) = ap (λ z. n ∷ z) (from_last_push [] ns)
from_last_push (ms ∷ nss) ns = ap (λ z. z ++ ms) (from_last_push nss ns) ∙ append_assoc ns (from_last nss) ms

sum_of_two : (xs ys : List ℕ) → sum (xs ++ ys) ≡ sum xs + sum ys
sum_of_two xs ys = sum_by-append (λ x. x) xs ys

split_front : {A : Type 0} (ls : List A) (i : ℕ) (m : A) → i < length ls → m ≡ get_or ls i m → ls ≡ take i ls ++ m ∷ drop (i + 1) ls
split_front ls i m h k =
    let next : suc i ≡ i + 1 = omega arith in
    sym (take-append-drop i ls) ∙ ap (λ z. take i ls ++ z) (drop-cons ls i m h ∙ ap₂ (λ z n. z ∷ drop n ls) (sym k) next)

swapped : (m n : ℕ) → m + n ≡ n + m
swapped m n = omega arith

-- ---- forms

form : (how : AssignmentKind) (env : Environment) (y : Left-F Left) (z : Left) → roll-Left y ≡ z → aimed how env z ≡ aimed_step how env (map-Left Left Aimed (aimed how env) y)
form how env y z h = ap (aimed how env) (sym h) ∙ fold-roll-Left Aimed (aimed_step how env) y

pub aimed_Name : (how : AssignmentKind) (env : Environment) (n : Vec ℕ Global) (ss : Vec (Expr × Option (PartSelect × Expr)) Global) → aimed how env (l.Name n ss) ≡ name_aimed how (env n.items) (meant_selects env ss.items)
aimed_Name how env n ss = form how env (x.Name n ss) (l.Name n ss) (l.rolls-Name n ss)

pub aimed_Concat : (how : AssignmentKind) (env : Environment) (b : Box Left Global) (ls : Vec Left Global) → aimed how env (l.Concat b ls) ≡ concat_aimed (aimed how env b.value) (map (aimed how env) ls.items)
aimed_Concat how env b ls = form how env (x.Concat b ls) (l.Concat b ls) (l.rolls-Concat b ls)

pub refuses_as : (a b : Finding) (d : WidthFault) → b ≡ a → Refuses a d → Refuses b d
refuses_as a b d h k = subst (λ z. Refuses z d) (sym h) k

pub aims_as : (how : AssignmentKind) (env : Environment) (m n : Aimed) (r : Result Target WidthFault) → n ≡ m → Aims how env m r → Aims how env n r
aims_as how env m n r h k = subst (λ z. Aims how env z r) (sym h) k

pub first_refused : (m : Aimed) (ms : List Aimed) (d : WidthFault) → Refuses m.finding d → Refuses (concat_aimed m ms).finding d
first_refused m ms d h = refused_by m.finding (concat_aimed m ms).finding d (λ r s. stands_sum m.finding (map (λ (a : Aimed). a.finding) ms) r s) h

-- ---- names

pub selects_within : (env : Environment) (es : List (Expr × Option (PartSelect × Expr))) → AreWithin env (meant_selects env es)
selects_within env [] test h = refl
selects_within env ((e, None) ∷ es) test h = ap₂ (λ p q. p && q) (reads_within env test h e) (selects_within env es test h)
selects_within env ((e, Some (how, m)) ∷ es) test h =
    ap₂ (λ p q. p && q) (ap₂ (λ p q. p && q) (reads_within env test h e) (reads_within env test h m)) (selects_within env es test h)

pub name_selects_refused : (how : AssignmentKind) (env : Environment) (m : Aimed) (name : List ℕ) (ss es : List (Expr × Option (PartSelect × Expr))) (d : WidthFault) → m ≡ name_aimed how (env name) (meant_selects env ss) → es ≡ ss →
    Refuses (Lacks (λ r. list_any (select_has_fault r) (meant_selects env es))) d → Refuses m.finding d
name_selects_refused how env m name ss es d e k h =
    refuses_as _ _ d (ap (λ z. z.finding) e)
    (selects_refused how (env name) (meant_selects env ss) d (subst (λ z. Refuses (Lacks (λ r. list_any (select_has_fault r) (meant_selects env z))) d) k h))

pub name_aims : (how : AssignmentKind) (env : Environment) (m : Aimed) (name n : List ℕ) (ss qs : List Select) (r : Result Target WidthFault) → m ≡ name_aimed how (env name) ss → n ≡ name → qs ≡ ss →
    Aims how env (name_aimed how (env n) qs) r → Aims how env m r
name_aims how env m name n ss qs r e k h p =
    aims_as how env (name_aimed how (env n) qs) m r (e ∙ ap₂ (λ b z. name_aimed how b z) (ap env (sym k)) (sym h)) p

-- ---- concatenations

pub concat_refused : (m a : Aimed) (ms : List Aimed) (d : WidthFault) → m ≡ concat_aimed a ms → Refuses a.finding d → Refuses m.finding d
concat_refused m a ms d e h = refuses_as _ _ d (ap (λ z. z.finding) e) (first_refused a ms d h)

pub concat_aims : (how : AssignmentKind) (env : Environment) (m a b : Aimed) (ms ns : List Aimed) (r : Result Target WidthFault) → m ≡ concat_aimed a ms → b ≡ a → ns ≡ ms → Aims how env (concat_aimed b ns) r → Aims how env m r
concat_aims how env m a b ms ns r e k h p = aims_as how env (concat_aimed b ns) m r (e ∙ ap₂ concat_aimed (sym k) (sym h)) p

-- parts of a kind that mean targets
module _ (how : AssignmentKind) (env : Environment) {A : Type 0} (g : A → Aimed) where
  abbrev pub found_of : A → Finding
  found_of a = (g a).finding

  abbrev pub front : Aimed → List A → Aimed
  front m ls = concat_aimed m (map g ls)

  -- a fault of the parts up to one of them
  part_stands : (m : Aimed) (ls : List A) (i : ℕ) (part : A) (d : WidthFault) → i < length ls → part ≡ get_or ls i part →
      Refuses (together beside (front m (take i ls)).finding (found_of part)) d → Refuses (front m ls).finding d
  part_stands m ls i part d h k bad =
      let whole : ls ≡ take i ls ++ part ∷ drop (i + 1) ls = split_front ls i part h k in
      let here = together beside (front m (take i ls)).finding (found_of part) in
      let rest = map (λ (a : Aimed). a.finding) (map g (drop (i + 1) ls)) in
      let same : (front m ls).finding ≡ sum_found here rest =
      ap (λ z. (front m z).finding) whole ∙ ap (λ z. sum_found m.finding (map (λ (a : Aimed). a.finding) z)) (map-append g (take i ls) (part ∷ drop (i + 1) ls))
      ∙ ap (sum_found m.finding) (map-append (λ (a : Aimed). a.finding) (map g (take i ls)) (map g (part ∷ drop (i + 1) ls)))
      ∙ sum_append m.finding (map (λ (a : Aimed). a.finding) (map g (take i ls))) (found_of part ∷ rest) in
      refuses_as _ _ d same (refused_by here (sum_found here rest) d (λ r s. stands_sum here rest r s) bad)

  pub part_refused : (m : Aimed) (ls : List A) (i : ℕ) (part : A) (d : WidthFault) → i < length ls → part ≡ get_or ls i part → Refuses (found_of part) d → Refuses (front m ls).finding d
  part_refused m ls i part d h k bad =
      let before = (front m (take i ls)).finding in
      part_stands m ls i part d h k (refused_by (found_of part) (together beside before (found_of part)) d (λ r s. stands_right beside before (found_of part) r s) bad)

  pub sum_refused : (m : Aimed) (ls : List A) (i : ℕ) (part : A) (high low : Target) (d : WidthFault) → i < length ls → part ≡ get_or ls i part → IsTarget how env (front m (take i ls)) high →
      IsTarget how env (g part) low → Refuses (unsigned (high.width + low.width)) d → Refuses (front m ls).finding d
  sum_refused m ls i part high low d h k p q bad =
      part_stands m ls i part d h k (refuses_as _ _ d (ap₂ (together beside) p.found q.found) bad)

  fits : (n : ℕ) → n ≤ 64 → unsigned n ≡ Has n false
  fits n h = rw (le-leb n 64 h) refl

  -- a part behind others
  behind : (m n : Aimed) (high low t : Target) → IsTarget how env m high → IsTarget how env n low → IsJoined high low t → (o : Aimed) → o.finding ≡ together beside m.finding n.finding → o.places ≡ n.places ++ m.places → IsTarget how env o t
  behind m n high low t p q j o e f = record {
    signed = false;
    found = e ∙ ap₂ (together beside) p.found q.found ∙ ap unsigned (sym j.width) ∙ fits t.width t.sized.1;
    places = rw (f, j.parts) (each_append (IsPlace how env) n.places m.places low.parts.items high.parts.items q.places p.places);
    width =
        ap (λ z. sum (map aim_width z)) j.parts ∙ ap sum (map-append aim_width low.parts.items high.parts.items) ∙ sum_of_two (map aim_width low.parts.items) (map aim_width high.parts.items)
        ∙ ap₂ (λ a b. a + b) q.width p.width ∙ swapped low.width high.width ∙ sym j.width;
    ranges =
        ap (map aim_range) j.parts ∙ map-append aim_range low.parts.items high.parts.items ∙ ap₂ (λ a b. a ++ b) q.ranges p.ranges
        ∙ sym (ap (map named_range) f ∙ map-append named_range n.places m.places);
  }

  pub parts_step : (m : Aimed) (ls : List A) (i : ℕ) (part : A) (high low t : Target) → i < length ls → part ≡ get_or ls i part → IsTarget how env (front m (take i ls)) high →
      IsTarget how env (g part) low → IsJoined high low t → IsTarget how env (front m (take (i + 1) ls)) t
  parts_step m ls i part high low t h k p q j =
      let before = take i ls in
      let more : map g (take (i + 1) ls) ≡ map g before ++ g part ∷ [] =
      ap (map g) (split_at ls i part h k) ∙ map-append g before (part ∷ []) in
      behind (front m before) (g part) high low t p q j (front m (take (i + 1) ls))
      (ap (λ z. sum_found m.finding (map (λ (a : Aimed). a.finding) z)) more
      ∙ ap (sum_found m.finding) (map-append (λ (a : Aimed). a.finding) (map g before) (g part ∷ []))
      ∙ sum_append m.finding (map (λ (a : Aimed). a.finding) (map g before)) (found_of part ∷ []))
      (ap (λ z. from_last (m.places ∷ map (λ (a : Aimed). a.places) z)) more
      ∙ ap (λ z. from_last (m.places ∷ z)) (map-append (λ (a : Aimed). a.places) (map g before) (g part ∷ []))
      ∙ from_last_push (m.places ∷ map (λ (a : Aimed). a.places) (map g before)) (g part).places)

  pub parts_end : (m : Aimed) (ls : List A) (i : ℕ) (t : Target) → length ls ≤ i → IsTarget how env (front m (take i ls)) t → IsTarget how env (front m ls) t
  parts_end m ls i t h p = subst (λ z. IsTarget how env (front m z) t) (take_all i ls h) p

  pub parts_start : (m : Aimed) (ls : List A) (t : Target) → IsTarget how env m t → IsTarget how env (front m (take 0 ls)) t
  parts_start m ls t p = record { signed = p.signed; found = p.found; places = p.places; width = p.width; ranges = p.ranges }
