-- The lines of a dump lead from the start to an end.
use Rattle.std.proofs.Common.{◌≡◌, ℕ, zero, suc, Bool, true, false, List, [], ◌∷◌, ◌++◌, length, refl, sym, subst, append_assoc, length-append, arith}
use Rattle.std.proofs.lemmas.Bool.{false≢true}
use Rattle.std.proofs.lemmas.List.{append-nil}
use Rattle.vs_design.specs.vs_logic4.specs.declared.digit.Digit.{Digit}
use Rattle.vs_design.specs.declared.design.ScopeKind.TheVariants.{Module}
use Rattle.vs_vcd_lines.specs.declared.dump.ValueChange.{ValueChange}
use Rattle.vs_vcd_reader.specs.Plain.{PlainDeclaration, PlainDump, PlainMoment}
use Rattle.vs_vcd_reader.specs.Plain.{PlainDeclaration as d}
use Rattle.vs_vcd_reader.specs.Layout.{with_change, written, values_of, widths_of, AreAll, AreChanges, AreDeclared, AreLater, AreMoments, AreVariables, AreScopes, IsLayout}
use Rattle.vs_vcd_reader.specs.Layout.{AreAll as a, AreChanges as c, AreLater as l, AreVariables as v, AreScopes as z}
use Rattle.vs_vcd_reader.specs.Walks.{closes, AreGood}
use Rattle.vs_vcd_reader.specs.Steps.{Item, Place, Step, Steps, IsLast, change_items, later_items, body_items, declared_items, items_of}
use Rattle.vs_vcd_reader.specs.Steps.{Item as i, Place as p, Step as s, Steps as t}
use Rattle.vs_vcd_reader.proofs.WalkLemmas.{declared_closes}

-- lines lead from a place to an end
pub record IsEnded (here : Place) (items : List Item) : Type 0 where
  pub last : Place
  pub steps : Steps here items last
  pub is : IsLast last

pub one_more : (here : Place) (x : Item) (next : Place) (items : List Item) → Step here x next → IsEnded next items → IsEnded here (x ∷ items)
one_more here x next items step h = record { last = h.last; steps = t.go here x next items h.last step h.steps; is = h.is }

-- ---- the body

changes_end : (ws : List ℕ) (vs : List (List Digit)) (last from : ℕ) (cs : List ValueChange) (rest : List Item) → AreChanges ws vs from cs
    → ((f : ℕ) → IsEnded (p.Later ws (written vs cs) last f false) rest) → IsEnded (p.Later ws vs last from false) (change_items cs ++ rest)
changes_end ws vs last from _ rest (c.none _ _) h = h from
changes_end ws vs last from _ rest (c.more _ _ x cs least is more) h =
    one_more (p.Later ws vs last from false) (i.Change x) (p.Later ws (with_change vs x) last (suc x.number) false) (change_items cs ++ rest)
    (s.change ws vs last from false x least is) (changes_end ws (with_change vs x) last (suc x.number) cs rest more h)

changes_ended : (ws : List ℕ) (vs : List (List Digit)) (last : ℕ) (x : ValueChange) (cs : List ValueChange) (rest : List Item) → AreChanges ws vs 0 (x ∷ cs)
    → ((f : ℕ) → IsEnded (p.Later ws (written vs (x ∷ cs)) last f false) rest) → IsEnded (p.Later ws vs last 0 true) (change_items (x ∷ cs) ++ rest)
changes_ended ws vs last x cs rest (c.more _ _ _ _ least is more) h =
    one_more (p.Later ws vs last 0 true) (i.Change x) (p.Later ws (with_change vs x) last (suc x.number) false) (change_items cs ++ rest)
    (s.change ws vs last 0 true x least is) (changes_end ws (with_change vs x) last (suc x.number) cs rest more h)

later_end : (ws : List ℕ) (vs : List (List Digit)) (last from : ℕ) (ms : List PlainMoment) → AreLater ws vs last ms → IsEnded (p.Later ws vs last from false) (later_items ms)
later_end ws vs last from _ (l.none _ _) = record { last = p.Later ws vs last from false; steps = t.stay (p.Later ws vs last from false); is = tt }
later_end ws vs last from _ (l.end _ _ time after small) =
    one_more (p.Later ws vs last from false) (i.Time time) (p.Later ws vs time 0 true) [] (s.time ws vs last from time after small)
    (record { last = p.Later ws vs time 0 true; steps = t.stay (p.Later ws vs time 0 true); is = tt })
later_end ws vs last from _ (l.more _ _ time x cs ms after small changed more) =
    one_more (p.Later ws vs last from false) (i.Time time) (p.Later ws vs time 0 true) (change_items (x ∷ cs) ++ later_items ms) (s.time ws vs last from time after small)
    (changes_ended ws vs time x cs (later_items ms) changed (λ f. later_end ws (written vs (x ∷ cs)) time f ms more))

all_end : (ws : List ℕ) (n : ℕ) (cs : List ValueChange) (rest : List Item) → AreAll ws n cs → (vs : List (List Digit)) → length vs ≡ n
    → IsEnded (p.Later ws (vs ++ values_of cs) 0 (length ws) false) rest → IsEnded (p.Values ws vs) (change_items cs ++ (i.End ∷ rest))
all_end ws _ _ rest a.none vs size h =
    one_more (p.Values ws vs) i.End (p.Later ws vs 0 (length ws) false) rest (s.end ws vs size)
    (subst (λ v. IsEnded (p.Later ws v 0 (length ws) false) rest) (append-nil vs) h)
all_end ws _ _ rest (a.more x cs sized more) vs size h =
    one_more (p.Values ws vs) (i.Change x) (p.Values ws (vs ++ x.value ∷ [])) (change_items cs ++ (i.End ∷ rest)) (s.value ws vs x (sym size) sized)
    (all_end ws (suc x.number) cs rest more (vs ++ x.value ∷ []) (omega (arith, length-append vs (x.value ∷ []), size))
    (subst (λ v. IsEnded (p.Later ws v 0 (length ws) false) rest) (sym (append_assoc vs (x.value ∷ []) (values_of cs))) h))

body_end : (ws : List ℕ) (ms : List PlainMoment) → AreMoments ws ms → IsEnded (p.Zero ws) (body_items ms)
body_end ws ms h =
    subst (λ m. IsEnded (p.Zero ws) (body_items m)) (sym h.are)
    (one_more (p.Zero ws) (i.Time 0) (p.First ws) (i.Values ∷ (change_items h.first ++ (i.End ∷ later_items h.later))) (s.at_zero ws)
    (one_more (p.First ws) i.Values (p.Values ws []) (change_items h.first ++ (i.End ∷ later_items h.later)) (s.values ws)
    (all_end ws 0 h.first (later_items h.later) h.all [] refl (later_end ws (values_of h.first) 0 (length ws) h.later h.changes))))

-- ---- declarations

header_end : (ws : List ℕ) (depth : ℕ) (own : Bool) (ds : List PlainDeclaration) (rest : List Item) → closes depth own ds ≡ true → AreGood ds
    → IsEnded (p.Zero (ws ++ widths_of ds)) rest → IsEnded (p.Header ws depth own) (declared_items (length ws) ds ++ (i.Definitions ∷ rest))
header_end ws zero own [] rest closed good h =
    one_more (p.Header ws zero own) i.Definitions (p.Zero ws) rest (s.definitions ws own) (subst (λ w. IsEnded (p.Zero w) rest) (append-nil ws) h)
header_end ws zero own (x ∷ ds) rest closed good h = absurd (false≢true closed)
header_end ws (suc depth) own [] rest closed good h = absurd (false≢true closed)
header_end ws (suc depth) own (d.Scope kind name ∷ ds) rest closed good h =
    one_more (p.Header ws (suc depth) own) (i.Scope kind name) (p.Header ws (suc (suc depth)) true) (declared_items (length ws) ds ++ (i.Definitions ∷ rest))
    (s.scope ws depth own kind name good.0) (header_end ws (suc (suc depth)) true ds rest closed good.1 h)
header_end ws (suc depth) own (d.Upscope ∷ ds) rest closed good h =
    one_more (p.Header ws (suc depth) own) i.Upscope (p.Header ws depth false) (declared_items (length ws) ds ++ (i.Definitions ∷ rest))
    (s.upscope ws depth own) (header_end ws depth false ds rest closed good.1 h)
header_end ws (suc depth) false (d.Variable x ∷ ds) rest closed good h = absurd (false≢true closed)
header_end ws (suc depth) true (d.Variable x ∷ ds) rest closed good h =
    let size : length (ws ++ x.width ∷ []) ≡ suc (length ws) = omega (arith, length-append ws (x.width ∷ [])) in
    one_more (p.Header ws (suc depth) true) (i.Variable x (length ws)) (p.Header (ws ++ x.width ∷ []) (suc depth) true)
    (declared_items (suc (length ws)) ds ++ (i.Definitions ∷ rest)) (s.variable ws depth x good.0)
    (subst (λ n. IsEnded (p.Header (ws ++ x.width ∷ []) (suc depth) true) (declared_items n ds ++ (i.Definitions ∷ rest))) size
    (header_end (ws ++ x.width ∷ []) (suc depth) true ds rest closed good.1
    (subst (λ w. IsEnded (p.Zero w) rest) (sym (append_assoc ws (x.width ∷ []) (widths_of ds))) h)))

good_append : (xs ys : List PlainDeclaration) → AreGood xs → AreGood ys → AreGood (xs ++ ys)
good_append [] ys h k = k
good_append (x ∷ xs) ys h k = (h.0, good_append xs ys h.1 k)

good_variables : (ds : List PlainDeclaration) → AreVariables ds → AreGood ds
good_variables _ v.none = tt
good_variables _ (v.more x ds is more) = (is, good_variables ds more)

good_scopes : (ds : List PlainDeclaration) → AreScopes ds → AreGood ds
good_scopes _ z.none = tt
good_scopes _ (z.more kind name own inner others named variables scopes more) = (
  named,
  good_append (own ++ inner) (d.Upscope ∷ others) (good_append own inner (good_variables own variables) (good_scopes inner scopes))
      (tt, good_scopes others more),
)

-- ---- the whole

declared_end : (ds : List PlainDeclaration) (rest : List Item) → AreDeclared ds → IsEnded (p.Zero (widths_of ds)) rest
    → IsEnded p.Top (declared_items 0 ds ++ (i.Definitions ∷ rest))
declared_end ds rest h ended =
    let inner = (h.own ++ h.inner) ++ d.Upscope ∷ [] in
    let good = good_append (h.own ++ h.inner) (d.Upscope ∷ []) (good_append h.own h.inner (good_variables h.own h.variables) (good_scopes h.inner h.scopes)) (tt, tt) in
    subst (λ l. IsEnded p.Top (declared_items 0 l ++ (i.Definitions ∷ rest))) (sym h.are)
    (one_more p.Top (i.Scope Module h.name) (p.Header [] 1 true) (declared_items 0 inner ++ (i.Definitions ∷ rest)) (s.top h.name h.named)
    (header_end [] 1 true inner rest (declared_closes h.own h.inner h.variables h.scopes) good
    (subst (λ l. IsEnded (p.Zero (widths_of l)) rest) h.are ended)))

pub dump_end : (text : List ℕ) (x : PlainDump) → IsLayout text x → IsEnded p.Start (items_of x)
dump_end text x h =
    one_more p.Start (i.Tick x.tick) p.Top (declared_items 0 x.declarations ++ (i.Definitions ∷ body_items x.moments)) (s.tick x.tick)
    (declared_end x.declarations (body_items x.moments) h.declared (body_end (widths_of x.declarations) x.moments h.moments))
