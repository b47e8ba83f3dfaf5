-- Where reading a part stops, the symbols before the place begin a part.
use Rattle.std.specs.Prelude.{◌≡◌, ℕ, suc, max, ◌-◌, ◌<◌, ◌≤◌, Bool, true, false, List, [], ◌∷◌, ◌++◌, refl}
use Rattle.std.proofs.Common.{sym, ◌∙◌, ap, subst, inl, inr, append_assoc, arith}
use Rattle.std.proofs.lemmas.List.{append-nil}
use Rattle.vs_syntax.specs.Symbols.{Symbol, Class, class_of, first}
use Rattle.vs_syntax.specs.Grammar.{Grammar, seq, either, many, chain, optional}
use Rattle.vs_syntax.specs.Tables.{low, goes}
use Rattle.vs_syntax.specs.Derivation.{Tree, empty, leaf, both, down, tokens, height, Is, is_seq, is_left, is_right, is_stop, is_more, is_part, is_node, is_one, is_chain, is_present}
use Rattle.vs_syntax.specs.Reading.{Gets, Stuck, stuck_here, stuck_deep, stuck_first, stuck_second, stuck_left, stuck_right, stuck_many, stuck_more, stuck_part, stuck_node, stuck_one, stuck_link, stuck_high, stuck_behind}
use Rattle.vs_syntax.proofs.Checks.{rule_low}
use Rattle.vs_syntax.proofs.Fronts.{goes_same}
use Rattle.vs_syntax.proofs.Starts.{quiet}
use Rattle.vs_syntax.proofs.Ends.{goes_again, again}
use Rattle.vs_syntax.proofs.Least.{least, is_class, sound, rule_sound, least_is, least-height, before_least, sound_seq, sound_either, sound_many, sound_chain, first_nil}
use Rattle.vs_logic4.proofs.Basics.{and_right}
use Rattle.vs_syntax.proofs.Refused.{front_of, front_text}

-- These symbols begin a part of the grammar, of at most this nesting.
pub record Viable (g : Grammar) (depth : ℕ) (w : List Symbol) : Type 0 where
  pub tree : Tree
  pub tail : List Symbol
  pub is : Is g tree []
  pub fits : height tree ≤ depth
  pub text : tokens tree ≡ w ++ tail

-- no symbols begin any part
pub from_least : (g : Grammar) (depth : ℕ) → sound g ≡ true → low g ≤ depth → Viable g depth []
from_least g depth h n = record { tree = least g; tail = tokens (least g); is = least_is g h; fits = (let e : height (least g) ≡ low g = least-height g in omega (arith, e)); text = refl }

-- symbols that are there, or none
or_least : (g : Grammar) (depth : ℕ) (w : List Symbol) → sound g ≡ true → low g ≤ depth → ((s : Symbol) (ss : List Symbol) → w ≡ s ∷ ss → Viable g depth w) → Viable g depth w
or_least g depth [] h n f = from_least g depth h n
or_least g depth (s ∷ ss) h n f = f s ss refl

-- what a tree that the symbols begin begins with
first_front : (w : List Symbol) (s : Symbol) (ss tree tail ts rest : List Symbol) → w ≡ s ∷ ss → tree ≡ w ++ tail → ts ≡ w ++ rest → first (tree ++ []) ≡ first ts
first_front w s ss tree tail ts rest e p q = first_nil tree ∙ ap first p ∙ ap (λ u. first (u ++ tail)) e ∙ sym (ap first q ∙ ap (λ u. first (u ++ rest)) e)

-- one part, and the least of the next
pub viable_first : (a b : Grammar) (depth : ℕ) (w : List Symbol) → sound (seq a b) ≡ true → low (seq a b) ≤ depth → Viable a depth w → Viable (seq a b) depth w
viable_first a b depth w h n v =
    let s = sound_seq a b h in
    let e : height (least b) ≡ low b = least-height b in
    let f : height v.tree ≤ depth = v.fits in
    let n' : max (low a) (low b) ≤ depth = n in
    record {
      tree = both v.tree (least b);
      tail = v.tail ++ tokens (least b);
      is = is_seq (before_least a b v.tree [] v.is s.2) (least_is b s.1);
      fits = omega (arith, e, f, n');
      text = ap (λ u. u ++ tokens (least b)) v.text ∙ append_assoc w v.tail (tokens (least b));
    }

-- a part that was read, and what the symbols behind it begin
pub viable_second : (a b : Grammar) (depth : ℕ) (ts mid w rest : List Symbol) (x : Tree) → sound (seq a b) ≡ true → low (seq a b) ≤ depth → Gets a depth ts x mid → mid ≡ w ++ rest → Viable b depth w → Viable (seq a b) depth (tokens x ++ w)
viable_second a b depth ts mid [] rest x h n p t v =
    let s = sound_seq a b h in
    let e : height (least b) ≡ low b = least-height b in
    let f : height x ≤ depth = p.fits in
    let n' : max (low a) (low b) ≤ depth = n in
    record {
      tree = both x (least b);
      tail = tokens (least b);
      is = is_seq (before_least a b x mid p.is s.2) (least_is b s.1);
      fits = omega (arith, e, f, n');
      text = ap (λ u. u ++ tokens (least b)) (sym (append-nil (tokens x)));
    }
viable_second a b depth ts mid (c ∷ cs) rest x h n p t v =
    let f : height x ≤ depth = p.fits in
    let g : height v.tree ≤ depth = v.fits in
    record {
      tree = both x v.tree;
      tail = v.tail;
      is = is_seq (again p.is (tokens v.tree ++ []) (inl (first_front (c ∷ cs) c cs (tokens v.tree) v.tail mid rest refl v.text t))) v.is;
      fits = omega (arith, f, g);
      text = ap (λ u. tokens x ++ u) v.text ∙ sym (append_assoc (tokens x) (c ∷ cs) v.tail);
    }

pub viable_left : (a b : Grammar) (depth : ℕ) (ts w rest : List Symbol) → sound (either a b) ≡ true → low (either a b) ≤ depth → goes a ts ≡ true → ts ≡ w ++ rest → Viable a depth w → Viable (either a b) depth w
viable_left a b depth ts w rest h n i t v =
    or_least (either a b) depth w h n (λ s ss e. record {
      tree = v.tree;
      tail = v.tail;
      is = is_left (goes_same a (tokens v.tree ++ []) ts (first_front w s ss (tokens v.tree) v.tail ts rest e v.text t) ∙ i) v.is;
      fits = v.fits;
      text = v.text;
    })

pub viable_right : (a b : Grammar) (depth : ℕ) (ts w rest : List Symbol) → sound (either a b) ≡ true → low (either a b) ≤ depth → goes a ts ≡ false → ts ≡ w ++ rest → Viable b depth w → Viable (either a b) depth w
viable_right a b depth ts w rest h n i t v =
    or_least (either a b) depth w h n (λ s ss e. record {
      tree = v.tree;
      tail = v.tail;
      is = is_right (goes_same a (tokens v.tree ++ []) ts (first_front w s ss (tokens v.tree) v.tail ts rest e v.text t) ∙ i) v.is;
      fits = v.fits;
      text = v.text;
    })

pub viable_many : (a : Grammar) (depth : ℕ) (ts w rest : List Symbol) → sound (many a) ≡ true → goes a ts ≡ true → ts ≡ w ++ rest → Viable a depth w → Viable (many a) depth w
viable_many a depth ts w rest h i t v =
    or_least (many a) depth w h (omega arith) (λ s ss e.
    let f : height v.tree ≤ depth = v.fits in
    record {
      tree = both v.tree empty;
      tail = v.tail;
      is = is_more (goes_same a (tokens v.tree ++ []) ts (first_front w s ss (tokens v.tree) v.tail ts rest e v.text t) ∙ i) v.is (is_stop (sound_many a h).2);
      fits = omega (arith, f);
      text = append-nil (tokens v.tree) ∙ v.text;
    })

pub viable_more : (a : Grammar) (depth : ℕ) (ts mid w rest : List Symbol) (x : Tree) → sound (many a) ≡ true → goes a ts ≡ true → Gets a depth ts x mid → mid ≡ w ++ rest → Viable (many a) depth w → Viable (many a) depth (tokens x ++ w)
viable_more a depth ts mid [] rest x h i p t v =
    let s = sound_many a h in
    let f : height x ≤ depth = p.fits in
    record {
      tree = both x empty;
      tail = [];
      is = is_more (goes_again a (tokens x) mid [] (ap (goes a) (sym p.text) ∙ i) (λ e. quiet p.is e)) (again p.is [] (inr s.1)) (is_stop s.2);
      fits = omega (arith, f);
      text = sym (append-nil (tokens x ++ []));
    }
viable_more a depth ts mid (c ∷ cs) rest x h i p t v =
    let f : height x ≤ depth = p.fits in
    let g : height v.tree ≤ depth = v.fits in
    record {
      tree = both x v.tree;
      tail = v.tail;
      is = is_more (goes_again a (tokens x) mid (tokens v.tree ++ []) (ap (goes a) (sym p.text) ∙ i) (λ e. quiet p.is e))
          (again p.is (tokens v.tree ++ []) (inl (first_front (c ∷ cs) c cs (tokens v.tree) v.tail mid rest refl v.text t))) v.is;
      fits = omega (arith, f, g);
      text = ap (λ u. tokens x ++ u) v.text ∙ sym (append_assoc (tokens x) (c ∷ cs) v.tail);
    }

-- an operand alone
viable_one : (a b : Grammar) (depth : ℕ) (ts mid : List Symbol) (x : Tree) → sound (chain a b) ≡ true → Gets a depth ts x mid → Viable (chain a b) depth (tokens x)
viable_one a b depth ts mid x h p =
    let s = sound_chain a b h in
    record { tree = x; tail = []; is = is_one s.3 (again p.is [] (inr s.2)); fits = p.fits; text = sym (append-nil (tokens x)) }

pub viable_link : (a b : Grammar) (depth : ℕ) (ts mid w rest : List Symbol) (x : Tree) → sound (chain a b) ≡ true → Gets a depth ts x mid → height x < depth → goes b mid ≡ true → mid ≡ w ++ rest → Viable b (depth - 1) w → Viable (chain a b) depth (tokens x ++ w)
viable_link a b depth ts mid [] rest x h p n i t v = subst (λ (u : List Symbol). Viable (chain a b) depth u) (sym (append-nil (tokens x))) (viable_one a b depth ts mid x h p)
viable_link a b depth ts mid (c ∷ cs) rest x h p n i t v =
    let g : height v.tree ≤ depth - 1 = v.fits in
    let same : first (tokens v.tree ++ []) ≡ first mid = first_front (c ∷ cs) c cs (tokens v.tree) v.tail mid rest refl v.text t in
    record {
      tree = down (both x v.tree);
      tail = v.tail;
      is = is_chain (goes_same b (tokens v.tree ++ []) mid same ∙ i) (again p.is (tokens v.tree ++ []) (inl same)) v.is;
      fits = omega (arith, n, g);
      text = ap (λ u. tokens x ++ u) v.text ∙ sym (append_assoc (tokens x) (c ∷ cs) v.tail);
    }

-- a part behind its token
pub viable_behind : (c : Class) (a : Grammar) (depth : ℕ) (s : Symbol) (w : List Symbol) → class_of s ≡ c → Viable a depth w → Viable (optional c a) depth (s ∷ w)
viable_behind c a depth s w e v =
    let f : height v.tree ≤ depth = v.fits in
    record { tree = both (leaf s) v.tree; tail = v.tail; is = is_present e v.is; fits = omega (arith, f); text = ap (λ u. s ∷ u) v.text }

-- The symbols before the place begin a part of the grammar.
pub viable : {g : Grammar} {depth : ℕ} {deep : Bool} {ts rest : List Symbol} → (s : Stuck g depth deep ts rest) → sound g ≡ true → low g ≤ depth → Viable g depth (front_of s)
viable {g} {depth} (stuck_here n h) i l = from_least g depth i l
viable {g} {depth} (stuck_deep h n) i l = from_least g depth i l
viable {depth = depth} (stuck_first {a = a} {b = b} s) i l =
    let l' : max (low a) (low b) ≤ depth = l in viable_first a b depth (front_of s) i l (viable s (sound_seq a b i).0 (omega (arith, l')))
viable {depth = depth} (stuck_second {a = a} {b = b} {ts = ts} {mid = mid} {rest = rest} {x = x} p s) i l =
    let l' : max (low a) (low b) ≤ depth = l in viable_second a b depth ts mid (front_of s) rest x i l p (front_text s) (viable s (sound_seq a b i).1 (omega (arith, l')))
viable {depth = depth} (stuck_left {a = a} {b = b} {ts = ts} {rest = rest} h n s) i l = viable_left a b depth ts (front_of s) rest i l h (front_text s) (viable s (sound_either a b i).0 n)
viable {depth = depth} (stuck_right {a = a} {b = b} {ts = ts} {rest = rest} h n s) i l = viable_right a b depth ts (front_of s) rest i l h (front_text s) (viable s (sound_either a b i).1 n)
viable {depth = depth} (stuck_many {a = a} {ts = ts} {rest = rest} h n s) i l = viable_many a depth ts (front_of s) rest i h (front_text s) (viable s (sound_many a i).0 n)
viable {depth = depth} (stuck_more {a = a} {ts = ts} {mid = mid} {rest = rest} {x = x} h p s) i l = viable_more a depth ts mid (front_of s) rest x i h p (front_text s) (viable s i l)
viable {depth = depth} (stuck_part {p = k} s) i l =
    let v = viable s (rule_sound k) (subst (λ (n : ℕ). n ≤ depth) (sym (rule_low k)) l) in
    record { tree = v.tree; tail = v.tail; is = is_part v.is; fits = v.fits; text = v.text }
viable {depth = depth} (stuck_node {a = a} n s) i l =
    let l' : suc (low a) ≤ depth = l in
    let v = viable s i (omega (arith, l')) in
    let f : height v.tree ≤ depth - 1 = v.fits in
    record { tree = down v.tree; tail = v.tail; is = is_node v.is; fits = omega (arith, f, n); text = v.text }
viable {depth = depth} (stuck_one {a = a} {b = b} s) i l =
    let t = sound_chain a b i in
    let v = viable s t.0 l in
    record { tree = v.tree; tail = v.tail; is = is_one t.3 v.is; fits = v.fits; text = v.text }
viable {depth = depth} (stuck_link {a = a} {b = b} {ts = ts} {mid = mid} {rest = rest} {x = x} p n h s) i l =
    let t = sound_chain a b i in
    let e : low b ≡ 0 = t.4 in
    viable_link a b depth ts mid (front_of s) rest x i p n h (front_text s) (viable s t.1 (omega (arith, e)))
viable {depth = depth} (stuck_high {a = a} {b = b} {ts = ts} {mid = mid} {x = x} p h n) i l = viable_one a b depth ts mid x i p
viable {depth = depth} (stuck_behind {c = c} {a = a} {s = z} h n s) i l = viable_behind c a depth z (front_of s) h (viable s (and_right (is_class c) (sound a) i) n)
