-- Where reading a part stops, no tree of the part goes on.
use Rattle.std.specs.Prelude.{◌≡◌, ℕ, suc, max, ◌≤◌, Bool, true, List, [], ◌∷◌, ◌++◌, refl}
use Rattle.std.proofs.Common.{sym, ◌∙◌, ap, append_assoc, arith}
use Rattle.vs_syntax.specs.Symbols.{Symbol, first}
use Rattle.vs_syntax.specs.Grammar.{Grammar, optional}
use Rattle.vs_syntax.specs.Tables.{fronts, need, goes}
use Rattle.vs_syntax.specs.Derivation.{Tree, tokens, height, Is, is_seq, is_left, is_right, is_stop, is_more, is_part, is_node, is_one, is_chain, is_present, is_absent}
use Rattle.vs_syntax.specs.Reading.{Gets, Stuck, stuck_here, stuck_deep, stuck_first, stuck_second, stuck_left, stuck_right, stuck_many, stuck_more, stuck_part, stuck_node, stuck_one, stuck_link, stuck_high, stuck_behind}
use Rattle.vs_syntax.proofs.Fronts.{clash, first-append, goes_same, goes-present}
use Rattle.vs_syntax.proofs.Unique.{unique, after_same}
use Rattle.vs_syntax.proofs.Starts.{silent, is_null, enough, need_at}

-- the symbols before the place where reading stopped
abbrev pub front_of : {g : Grammar} {depth : ℕ} {deep : Bool} {ts rest : List Symbol} → Stuck g depth deep ts rest → List Symbol
front_of (stuck_here n h) = []
front_of (stuck_deep h n) = []
front_of (stuck_first s) = front_of s
front_of (stuck_second {x = x} p s) = tokens x ++ front_of s
front_of (stuck_left h n s) = front_of s
front_of (stuck_right h n s) = front_of s
front_of (stuck_many h n s) = front_of s
front_of (stuck_more {x = x} h p s) = tokens x ++ front_of s
front_of (stuck_part s) = front_of s
front_of (stuck_node n s) = front_of s
front_of (stuck_one s) = front_of s
front_of (stuck_link {x = x} p n h s) = tokens x ++ front_of s
front_of (stuck_high {x = x} p h n) = tokens x
front_of (stuck_behind {s = z} h n s) = z ∷ front_of s

-- the text of a part that was read, and of the front of what follows
joined : (x : Tree) (ts mid w rest : List Symbol) → ts ≡ tokens x ++ mid → mid ≡ w ++ rest → ts ≡ (tokens x ++ w) ++ rest
joined x ts mid w rest e f = e ∙ ap (λ u. tokens x ++ u) f ∙ sym (append_assoc (tokens x) w rest)

pub front_text : {g : Grammar} {depth : ℕ} {deep : Bool} {ts rest : List Symbol} → (s : Stuck g depth deep ts rest) → ts ≡ front_of s ++ rest
front_text (stuck_here n h) = refl
front_text (stuck_deep h n) = refl
front_text (stuck_first s) = front_text s
front_text (stuck_second {ts = ts} {mid = mid} {rest = rest} {x = x} p s) = joined x ts mid (front_of s) rest p.text (front_text s)
front_text (stuck_left h n s) = front_text s
front_text (stuck_right h n s) = front_text s
front_text (stuck_many h n s) = front_text s
front_text (stuck_more {ts = ts} {mid = mid} {rest = rest} {x = x} h p s) = joined x ts mid (front_of s) rest p.text (front_text s)
front_text (stuck_part s) = front_text s
front_text (stuck_node n s) = front_text s
front_text (stuck_one s) = front_text s
front_text (stuck_link {ts = ts} {mid = mid} {rest = rest} {x = x} p n h s) = joined x ts mid (front_of s) rest p.text (front_text s)
front_text (stuck_high p h n) = p.text
front_text (stuck_behind {s = z} h n s) = ap (λ u. z ∷ u) (front_text s)

-- lists that begin as the symbols read do begin with the same symbol
pub begins_same : {g : Grammar} {depth : ℕ} {deep : Bool} {ts rest : List Symbol} → (s : Stuck g depth deep ts rest) → (r : List Symbol) → first r ≡ first rest → first (front_of s ++ r) ≡ first ts
begins_same {rest = rest} s r f = first-append (front_of s) r rest f ∙ ap first (sym (front_text s))

-- a whole tree over the same symbols, behind a part that was read, begins with that part
same_part : (a : Grammar) (depth : ℕ) (ts mid w rest r : List Symbol) (x x' : Tree) (more : List Symbol) → Gets a depth ts x mid → Is a x' more → mid ≡ w ++ rest → tokens x' ++ more ≡ (tokens x ++ w) ++ r → first r ≡ first rest → (x' ≡ x) × (more ≡ w ++ r)
same_part a depth ts mid w rest r x x' more p q t e f =
    let u : tokens x ++ (w ++ r) ≡ tokens x' ++ more = sym (append_assoc (tokens x) w r) ∙ sym e in
    let h : x' ≡ x = unique p.is q (w ++ r) u (first-append w r rest f ∙ ap first (sym t)) in
    (h, sym (after_same x x' (w ++ r) more h u))

-- No tree of the part has the symbols before the place and then one of the class found there; none of any nesting, where the place isn't too deep.
pub refused : {g : Grammar} {depth : ℕ} {deep : Bool} {ts rest : List Symbol} → (s : Stuck g depth deep ts rest) → (x : Tree) (more r : List Symbol) → Is g x more → (deep ≡ true → height x ≤ depth) → tokens x ++ more ≡ front_of s ++ r → first r ≡ first rest → ⊥
refused (stuck_here {a = a} {ts = ts} n h) x more r p low_enough e f =
    clash (is_null p (silent p (goes_same a (tokens x ++ more) ts (ap first e ∙ f) ∙ h))) n
refused (stuck_deep {a = a} {depth = depth} {ts = ts} h n) x more r p low_enough e f =
    let i : need_at a (tokens x ++ more) ≤ height x = enough p in
    let j : need_at a (tokens x ++ more) ≡ need_at a ts = ap (λ c. need c (fronts a)) (ap first e ∙ f) in
    let k : height x ≤ depth = low_enough refl in omega (arith, i, j, k, n)
refused {depth = depth} (stuck_first s) _ more r (is_seq {x = x} {y = y} p q) low_enough e f =
    refused s x (tokens y ++ more) r p (λ d. let k : max (height x) (height y) ≤ depth = low_enough d in omega (arith, k)) (sym (append_assoc (tokens x) (tokens y) more) ∙ e) f
refused {depth = depth} {rest = rest} (stuck_second {a = a} {ts = ts} {mid = mid} {x = z} g s) _ more r (is_seq {x = x} {y = y} p q) low_enough e f =
    let i = same_part a depth ts mid (front_of s) rest r z x (tokens y ++ more) g p (front_text s) (sym (append_assoc (tokens x) (tokens y) more) ∙ e) f in
    refused s y more r q (λ d. let k : max (height x) (height y) ≤ depth = low_enough d in omega (arith, k)) i.1 f
refused (stuck_left h n s) x more r (is_left i p) low_enough e f = refused s x more r p low_enough e f
refused (stuck_left {a = a} {ts = ts} h n s) x more r (is_right i p) low_enough e f = clash h (sym (goes_same a (tokens x ++ more) ts (ap first e ∙ begins_same s r f)) ∙ i)
refused (stuck_right {a = a} {ts = ts} h n s) x more r (is_left i p) low_enough e f = clash (sym (goes_same a (tokens x ++ more) ts (ap first e ∙ begins_same s r f)) ∙ i) h
refused (stuck_right h n s) x more r (is_right i p) low_enough e f = refused s x more r p low_enough e f
refused (stuck_many {a = a} {ts = ts} h n s) _ more r (is_stop i) low_enough e f = clash h (sym (goes_same a more ts (ap first e ∙ begins_same s r f)) ∙ i)
refused {depth = depth} (stuck_many h n s) _ more r (is_more {x = x} {y = y} i p q) low_enough e f =
    refused s x (tokens y ++ more) r p (λ d. let k : max (height x) (height y) ≤ depth = low_enough d in omega (arith, k)) (sym (append_assoc (tokens x) (tokens y) more) ∙ e) f
refused {rest = rest} (stuck_more {a = a} {ts = ts} {mid = mid} {x = z} h g s) _ more r (is_stop i) low_enough e f =
    clash h (sym (goes_same a more ts (ap first e ∙ first-append (tokens z ++ front_of s) r rest f ∙ ap first (sym (front_text (stuck_more h g s))))) ∙ i)
refused {depth = depth} {rest = rest} (stuck_more {a = a} {ts = ts} {mid = mid} {x = z} h g s) _ more r (is_more {x = x} {y = y} i p q) low_enough e f =
    let j = same_part a depth ts mid (front_of s) rest r z x (tokens y ++ more) g p (front_text s) (sym (append_assoc (tokens x) (tokens y) more) ∙ e) f in
    refused s y more r q (λ d. let k : max (height x) (height y) ≤ depth = low_enough d in omega (arith, k)) j.1 f
refused (stuck_part s) x more r (is_part p) low_enough e f = refused s x more r p low_enough e f
refused {depth = depth} (stuck_node n s) _ more r (is_node {x = x} p) low_enough e f =
    refused s x more r p (λ d. let k : suc (height x) ≤ depth = low_enough d in omega (arith, k)) e f
refused (stuck_one s) x more r (is_one h p) low_enough e f = refused s x more r p low_enough e f
refused {depth = depth} (stuck_one s) _ more r (is_chain {x = x} {y = y} h p q) low_enough e f =
    refused s x (tokens y ++ more) r p (λ d. let k : suc (max (height x) (height y)) ≤ depth = low_enough d in omega (arith, k)) (sym (append_assoc (tokens x) (tokens y) more) ∙ e) f
refused {depth = depth} {rest = rest} (stuck_link {a = a} {b = b} {ts = ts} {mid = mid} {x = z} g n h s) x more r (is_one i p) low_enough e f =
    let j = same_part a depth ts mid (front_of s) rest r z x more g p (front_text s) e f in
    clash h (sym (goes_same b more mid (ap first j.1 ∙ begins_same s r f)) ∙ i)
refused {depth = depth} {rest = rest} (stuck_link {a = a} {ts = ts} {mid = mid} {x = z} g n h s) _ more r (is_chain {x = x} {y = y} i p q) low_enough e f =
    let j = same_part a depth ts mid (front_of s) rest r z x (tokens y ++ more) g p (front_text s) (sym (append_assoc (tokens x) (tokens y) more) ∙ e) f in
    refused s y more r q (λ d. let k : suc (max (height x) (height y)) ≤ depth = low_enough d in omega (arith, k)) j.1 f
refused {depth = depth} (stuck_high {a = a} {b = b} {mid = mid} {x = z} g h n) x more r (is_one i p) low_enough e f =
    let j : x ≡ z = unique g.is p r (sym e) f in
    clash h (goes_same b mid more (sym f ∙ ap first (after_same z x r more j (sym e))) ∙ i)
refused {depth = depth} (stuck_high {a = a} {b = b} {mid = mid} {x = z} g h n) _ more r (is_chain {x = x} {y = y} i p q) low_enough e f =
    let j : x ≡ z = unique g.is p r (sym (sym (append_assoc (tokens x) (tokens y) more) ∙ e)) f in
    let k : suc (max (height x) (height y)) ≤ depth = low_enough refl in
    let l : height x ≡ height z = ap height j in omega (arith, k, l, n)
refused {depth = depth} (stuck_behind {s = z} h n s) _ more r (is_present {s = z'} {x = x} i p) low_enough e f =
    let j : tokens x ++ more ≡ front_of s ++ r = cc in
    refused s x more r p (λ d. let k : max 0 (height x) ≤ depth = low_enough d in omega (arith, k)) j f
refused (stuck_behind {c = c} {a = a} {s = z} h n s) _ more r (is_absent i) low_enough e f = clash (ap (goes (optional c a)) e ∙ goes-present c a z (front_of s ++ r) h) i
