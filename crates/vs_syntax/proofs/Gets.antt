-- What was read, by the operators of the grammar.
use Rattle.std.specs.Prelude.{◌≡◌, ℕ, ◌-◌, ◌<◌, ◌≤◌, true, false, List, ◌∷◌, ◌++◌, refl}
use Rattle.std.proofs.Common.{sym, ◌∙◌, ap, subst, append_assoc, arith}
use Rattle.vs_syntax.specs.Symbols.{Symbol, Class, class_of}
use Rattle.vs_syntax.specs.Grammar.{Nonterminal, Grammar, nothing, token, seq, either, many, part, node, chain, optional, rule}
use Rattle.vs_syntax.specs.Tables.{goes}
use Rattle.vs_syntax.specs.Derivation.{Tree, empty, leaf, both, down, tokens, height, Is, is_nothing, is_token, is_seq, is_left, is_right, is_stop, is_more, is_part, is_node, is_one, is_chain, is_present, is_absent}
use Rattle.vs_syntax.specs.Reading.{Gets}

-- two parts in a row are the symbols of the one and of the other
along : (x y : Tree) (ts mid rest : List Symbol) → ts ≡ tokens x ++ mid → mid ≡ tokens y ++ rest → ts ≡ (tokens x ++ tokens y) ++ rest
along x y ts mid rest e f = e ∙ ap (λ u. tokens x ++ u) f ∙ sym (append_assoc (tokens x) (tokens y) rest)

-- a tree stands before the symbols that were read next
ahead : (a : Grammar) (x y : Tree) (mid rest : List Symbol) → mid ≡ tokens y ++ rest → Is a x mid → Is a x (tokens y ++ rest)
ahead a x y mid rest e p = subst (λ (u : List Symbol). Is a x u) e p

pub gets_nothing : {depth : ℕ} {ts : List Symbol} → Gets nothing depth ts empty ts
gets_nothing = record { is = is_nothing; text = refl; fits = omega arith }

pub gets_token : {c : Class} {depth : ℕ} {s : Symbol} {rest : List Symbol} → class_of s ≡ c → Gets (token c) depth (s ∷ rest) (leaf s) rest
gets_token e = record { is = is_token e; text = refl; fits = omega arith }

pub gets_seq : {a b : Grammar} {depth : ℕ} {ts mid rest : List Symbol} {x y : Tree} → Gets a depth ts x mid → Gets b depth mid y rest → Gets (seq a b) depth ts (both x y) rest
gets_seq {a} {b} {depth} {ts} {mid} {rest} {x} {y} p q =
    let h : height x ≤ depth = p.fits in
    let k : height y ≤ depth = q.fits in
    record { is = is_seq (ahead a x y mid rest q.text p.is) q.is; text = along x y ts mid rest p.text q.text; fits = omega (arith, h, k) }

pub gets_left : {a b : Grammar} {depth : ℕ} {ts rest : List Symbol} {x : Tree} → goes a ts ≡ true → Gets a depth ts x rest → Gets (either a b) depth ts x rest
gets_left {a} h p = record { is = is_left (ap (goes a) (sym p.text) ∙ h) p.is; text = p.text; fits = p.fits }

pub gets_right : {a b : Grammar} {depth : ℕ} {ts rest : List Symbol} {x : Tree} → goes a ts ≡ false → Gets b depth ts x rest → Gets (either a b) depth ts x rest
gets_right {a} h p = record { is = is_right (ap (goes a) (sym p.text) ∙ h) p.is; text = p.text; fits = p.fits }

pub gets_stop : {a : Grammar} {depth : ℕ} {ts : List Symbol} → goes a ts ≡ false → Gets (many a) depth ts empty ts
gets_stop h = record { is = is_stop h; text = refl; fits = omega arith }

pub gets_more : {a : Grammar} {depth : ℕ} {ts mid rest : List Symbol} {x y : Tree} → goes a ts ≡ true → Gets a depth ts x mid → Gets (many a) depth mid y rest → Gets (many a) depth ts (both x y) rest
gets_more {a} {depth} {ts} {mid} {rest} {x} {y} h p q =
    let i : height x ≤ depth = p.fits in
    let k : height y ≤ depth = q.fits in
    record { is = is_more (ap (goes a) (ap (λ u. tokens x ++ u) (sym q.text) ∙ sym p.text) ∙ h) (ahead a x y mid rest q.text p.is) q.is; text = along x y ts mid rest p.text q.text; fits = omega (arith, i, k) }

pub gets_part : {p : Nonterminal} {depth : ℕ} {ts rest : List Symbol} {x : Tree} → Gets (rule p) depth ts x rest → Gets (part p) depth ts x rest
gets_part p = record { is = is_part p.is; text = p.text; fits = p.fits }

pub gets_node : {a : Grammar} {depth : ℕ} {ts rest : List Symbol} {x : Tree} → 0 < depth → Gets a (depth - 1) ts x rest → Gets (node a) depth ts (down x) rest
gets_node {depth = depth} {x = x} n p =
    let h : height x ≤ depth - 1 = p.fits in record { is = is_node p.is; text = p.text; fits = omega (arith, h, n) }

pub gets_one : {a b : Grammar} {depth : ℕ} {ts rest : List Symbol} {x : Tree} → goes b rest ≡ false → Gets a depth ts x rest → Gets (chain a b) depth ts x rest
gets_one h p = record { is = is_one h p.is; text = p.text; fits = p.fits }

pub gets_chain : {a b : Grammar} {depth : ℕ} {ts mid rest : List Symbol} {x y : Tree} → Gets a depth ts x mid → height x < depth → goes b mid ≡ true → Gets b (depth - 1) mid y rest → Gets (chain a b) depth ts (down (both x y)) rest
gets_chain {a} {b} {depth} {ts} {mid} {rest} {x} {y} p n h q =
    let k : height y ≤ depth - 1 = q.fits in
    record { is = is_chain (ap (goes b) (sym q.text) ∙ h) (ahead a x y mid rest q.text p.is) q.is; text = along x y ts mid rest p.text q.text; fits = omega (arith, k, n) }

pub gets_present : {c : Class} {a : Grammar} {depth : ℕ} {s : Symbol} {ts rest : List Symbol} {x : Tree} → class_of s ≡ c → Gets a depth ts x rest → Gets (optional c a) depth (s ∷ ts) (both (leaf s) x) rest
gets_present {depth = depth} {s = s} {x = x} e p =
    let h : height x ≤ depth = p.fits in record { is = is_present e p.is; text = ap (λ u. s ∷ u) p.text; fits = omega (arith, h) }

pub gets_absent : {c : Class} {a : Grammar} {depth : ℕ} {ts : List Symbol} → goes (optional c a) ts ≡ false → Gets (optional c a) depth ts empty ts
gets_absent h = record { is = is_absent h; text = refl; fits = omega arith }
