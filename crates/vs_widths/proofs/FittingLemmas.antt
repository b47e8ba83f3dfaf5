-- Forms at the size and with the sign of a context.
use Rattle.std.proofs.Common.{◌≡◌, ℕ, ◌+◌, ◌*◌, ◌<◌, ◌≤◌, Bool, false, if◌then◌else◌, List, [], ◌∷◌, ◌++◌, Option, Some, None, Result, Ok, Err, IfOk, option_map, length, map, take, get_or, refl, ap, ap₂, sym, subst, ◌∙◌}
use Rattle.std.proofs.lemmas.List.{take_more, take_all}
use Rattle.std.specs.declared.vec.Vec.{Vec}
use Rattle.std.specs.declared.boxed.Box.{Box}
use Rattle.std.specs.declared.alloc.Global.{Global}
use Rattle.vs_design.specs.vs_logic4.specs.declared.digit.Digit.{Digit}
use Rattle.vs_design.specs.vs_logic4.specs.declared.operators.Binary.{Binary}
use Rattle.vs_design.specs.vs_logic4.specs.declared.operators.Unary.{Unary}
use Rattle.vs_design.specs.vs_logic4.specs.Operators.{unary, gives_bit, sizing_of}
use Rattle.vs_design.specs.vs_logic4.specs.Parts.{replication}
use Rattle.vs_design.specs.vs_logic4.specs.Vectors.{resized}
use Rattle.vs_design.specs.vs_logic4.specs.Comparisons.{truth}
use Rattle.vs_design.specs.declared.expression.Link.{Link}
use Rattle.vs_design.specs.declared.expression.Count.{Count}
use Rattle.vs_design.specs.declared.expression.Excerpt.{Excerpt}
use Rattle.vs_design.specs.declared.expression.Operand.{Operand}
use Rattle.vs_design.specs.declared.expression.Slice.{Slice}
use Rattle.vs_design.specs.declared.expression.Selection.{Selection}
use Rattle.vs_design.specs.declared.expression.Typed.{Typed, Typed-F, fold-roll-Typed, map-Typed, roll-Typed}
use Rattle.vs_design.specs.declared.expression.Typed.TheVariants as t
use Rattle.vs_design.specs.declared.expression.Typed.TheOpen as o
use Rattle.vs_design.specs.declared.range.BitRange.{BitRange}
use Rattle.vs_design.specs.Stores.{Store}
use Rattle.vs_design.specs.Uses.{whole, all_words, joined, reads, reads_step}
use Rattle.vs_design.specs.WellFormed.{sized_by, linked_size, chain_size, picked_size, choice_size, indexed_size, sum_size, at_most_64, size_of, size_step}
use Rattle.vs_eval.specs.Values.{excerpt_value, linked, chained, picked, chosen, concatenated, value_of, value_step, selection_value}
use Rattle.vs_widths.specs.declared.shape.Shape.{Shape}
use Rattle.vs_widths.specs.declared.forms.Sizable.{Sizable, Sizable-F, fold-roll-Sizable, map-Sizable, roll-Sizable}
use Rattle.vs_widths.specs.declared.forms.Sizable.TheVariants as v
use Rattle.vs_widths.specs.declared.forms.Sizable.TheOpen as f
use Rattle.vs_widths.specs.Layers.{Layer, name, brought, operator_layer, layer_of, layer_step}
use Rattle.vs_widths.specs.Operations.{operated}
use Rattle.vs_widths.specs.Each.{Each, each_none, each_more}
use Rattle.vs_widths.specs.Senses.{Sense, form_step, sense, open_size, open_link, open_value, IsFitted, IsExtended, IsLink, IsTest, IsPair, IsPart}

-- ---- lists

pub each_push : {A B : Type 0} (R : A → B → Type 0) (xs : List A) (ys : List B) (x : A) (y : B) → Each R xs ys → R x y → Each R (xs ++ x ∷ []) (ys ++ y ∷ [])
each_push R _ _ x y each_none h = each_more x y [] [] h each_none
each_push R _ _ x y (each_more a b as' bs k r) h = each_more a b _ _ k (each_push R as' bs x y r h)

-- behind the last value, all of them are related
pub each_all : {A B : Type 0} (R : A → B → Type 0) (xs : List A) (i : ℕ) (ys : List B) → Each R (take i xs) ys → length xs ≤ i → Each R xs ys
each_all R xs i ys h end = subst (λ z. Each R z ys) (take_all i xs end) h

-- a loop's step
pub each_step : {A B : Type 0} (R : A → B → Type 0) (xs : List A) (i : ℕ) (x : A) (ys zs : List B) (y : B) → i < length xs → x ≡ get_or xs i x → zs ≡ ys ++ y ∷ [] → Each R (take i xs) ys → R x y → Each R (take (i + 1) xs) zs
each_step R xs i x ys zs y h k e r p =
    let front : take (i + 1) xs ≡ take i xs ++ x ∷ [] = take_more xs i x h ∙ ap (λ z. take i xs ++ z ∷ []) (sym k) in
    subst (λ z. Each R z zs) (sym front) (subst (λ z. Each R (take i xs ++ x ∷ []) z) (sym e) (each_push R (take i xs) ys x y r p))

-- ---- a layer

pub layer : (x : Sizable-F Sizable) (z : Sizable) → roll-Sizable x ≡ z → sense z ≡ form_step (map-Sizable Sizable Sense sense x)
layer x z h = ap sense (sym h) ∙ fold-roll-Sizable Sense form_step x

pub fitted_as : (x : Sizable-F Sizable) (z : Sizable) → roll-Sizable x ≡ z → (w : ℕ) (g : Bool) (y : Typed-F Typed) (e : Typed) → roll-Typed y ≡ e →
    size_step (map-Typed Typed (Option ℕ) size_of y) ≡ (form_step (map-Sizable Sizable Sense sense x)).size w →
    ((store : Store) (time : ℕ) → value_step store time (map-Typed Typed (List Digit) (λ e. value_of e store time) y) ≡ (form_step (map-Sizable Sizable Sense sense x)).at store time w g) →
    reads_step (map-Typed Typed (List BitRange) reads y) ≡ (form_step (map-Sizable Sizable Sense sense x)).reads →
    layer_step (map-Typed Typed Layer layer_of y) ≡ (form_step (map-Sizable Sizable Sense sense x)).layer w → IsFitted (sense z) w g e
fitted_as x z h w g y e k size value ranges outermost =
    let same = layer x z h in
    subst (λ s. IsFitted s w g e) (sym same) (record {
      size = ap size_of (sym k) ∙ fold-roll-Typed (Option ℕ) size_step y ∙ size;
      value = λ store time. ap (λ z. value_of z store time) (sym k) ∙ fold-roll-Typed (List Digit) (value_step store time) y ∙ value store time;
      ranges = ap reads (sym k) ∙ fold-roll-Typed (List BitRange) reads_step y ∙ ranges;
      layer = ap layer_of (sym k) ∙ fold-roll-Typed Layer layer_step y ∙ outermost;
    })

-- a part that is brought to a context
pub fitted_extended : (x : Sizable-F Sizable) (z : Sizable) → roll-Sizable x ≡ z → (w : ℕ) (g : Bool) (y e : Typed) → IsExtended y w g e →
    option_map (λ n. w) (size_of y) ≡ (form_step (map-Sizable Sizable Sense sense x)).size w →
    ((store : Store) (time : ℕ) → resized g w (value_of y store time) ≡ (form_step (map-Sizable Sizable Sense sense x)).at store time w g) →
    reads y ≡ (form_step (map-Sizable Sizable Sense sense x)).reads → brought w (layer_of y) ≡ (form_step (map-Sizable Sizable Sense sense x)).layer w → IsFitted (sense z) w g e
fitted_extended x z h w g y e k size value ranges outermost =
    let same = layer x z h in
    subst (λ s. IsFitted s w g e) (sym same) (record {
      size = k.size ∙ size;
      value = λ store time. k.value store time ∙ value store time;
      ranges = k.ranges ∙ ranges;
      layer = k.layer ∙ outermost;
    })

pub fits_Slice : (n : Slice) (w : ℕ) (g : Bool) → IsFitted (sense (v.Slice n)) w g (t.Slice n)
fits_Slice n w g = fitted_as (f.Slice n) (v.Slice n) (v.rolls-Slice n) w g (o.Slice n) (t.Slice n) (t.rolls-Slice n) refl (λ store time. refl) refl refl

pub fits_Select : (s : Box Selection Global) (c : Selection) (xw xl : Box Sizable Global) (aw al : Sizable) (bw bl : Box Typed Global) (w : ℕ) (g : Bool) → c ≡ s.value → aw ≡ xw.value → al ≡ xl.value →
    IsFitted (sense aw) w g bw.value → IsFitted (sense al) w g bl.value → IsFitted (sense (v.Select s xw xl)) w g (t.Select c bw bl)
fits_Select s c xw xl aw al bw bl w g hc hw hl pw pl =
    let qw : IsFitted (sense xw.value) w g bw.value = subst (λ z. IsFitted (sense z) w g bw.value) hw pw in
    let ql : IsFitted (sense xl.value) w g bl.value = subst (λ z. IsFitted (sense z) w g bl.value) hl pl in
    rw hc (
    fitted_as (f.Select s xw xl) (v.Select s xw xl) (v.rolls-Select s xw xl) w g (o.Select s.value bw bl) (t.Select s.value bw bl) (t.rolls-Select s.value bw bl)
    (ap₂ (indexed_size s.value.width) qw.size ql.size)
    (λ store time. ap₂ (selection_value s.value store) (qw.value store time) (ql.value store time))
    (ap₂ (λ a b. all_words s.value.signal ∷ a ++ b) qw.ranges ql.ranges) refl)

pub fits_Signal : (n : ℕ) (k : Operand) (w : ℕ) (g : Bool) → k.signal ≡ n → k.width ≡ w → k.signed ≡ g → IsFitted (sense (v.Signal n)) w g (t.Signal k)
fits_Signal n k w g hn hw hg =
    fitted_as (f.Signal n) (v.Signal n) (v.rolls-Signal n) w g (o.Signal k) (t.Signal k) (t.rolls-Signal k)
    (ap (λ z. Some z) hw) (λ store time. rw (hn, hw, hg) refl) (ap (λ z. whole z ∷ []) hn) (ap₂ name hn hw)

pub fits_Excerpt : (s : Box Excerpt Global) (c : Excerpt) (x : Box Sizable Global) (a : Sizable) (b : Box Typed Global) (w : ℕ) (g : Bool) → c ≡ s.value → a ≡ x.value → IsFitted (sense a) w g b.value →
    IsFitted (sense (v.Excerpt s x)) w g (t.Excerpt c b)
fits_Excerpt s c x a b w g hc h p =
    let q : IsFitted (sense x.value) w g b.value = subst (λ z. IsFitted (sense z) w g b.value) h p in
    rw hc (
    fitted_as (f.Excerpt s x) (v.Excerpt s x) (v.rolls-Excerpt s x) w g (o.Excerpt s.value b) (t.Excerpt s.value b) (t.rolls-Excerpt s.value b)
    (ap (option_map (λ n. s.value.width)) q.size) (λ store time. ap (excerpt_value s.value) (q.value store time)) q.ranges refl)

pub fits_Unary : (op : Unary) (x : Box Sizable Global) (a : Sizable) (b : Box Typed Global) (w : ℕ) (g : Bool) → a ≡ x.value → IsFitted (sense a) w g b.value → IsFitted (sense (v.Unary op x)) w g (t.Unary op b)
fits_Unary op x a b w g h p =
    let q : IsFitted (sense x.value) w g b.value = subst (λ z. IsFitted (sense z) w g b.value) h p in
    fitted_as (f.Unary op x) (v.Unary op x) (v.rolls-Unary op x) w g (o.Unary op b) (t.Unary op b) (t.rolls-Unary op b)
    (ap (option_map (λ n. if gives_bit op then 1 else n)) q.size) (λ store time. ap (unary op) (q.value store time)) q.ranges
    (ap (operator_layer op) q.layer)

pub fits_Repeat : (n : Count) (x : Box Sizable Global) (a : Sizable) (b : Box Typed Global) (w : ℕ) (g : Bool) → a ≡ x.value → IsFitted (sense a) w g b.value → IsFitted (sense (v.Repeat n x)) w g (t.Repeat n b)
fits_Repeat n x a b w g h p =
    let q : IsFitted (sense x.value) w g b.value = subst (λ z. IsFitted (sense z) w g b.value) h p in
    fitted_as (f.Repeat n x) (v.Repeat n x) (v.rolls-Repeat n x) w g (o.Repeat n b) (t.Repeat n b) (t.rolls-Repeat n b)
    (ap (λ z. at_most_64 (option_map (λ m. n.times * m) z)) q.size) (λ store time. ap (λ ds. take 64 (replication n.times ds)) (q.value store time)) q.ranges refl

-- ---- operands behind the first one

abbrev pub links_sensed : List (Binary × Sizable) → List (Binary × Sense)
links_sensed ls = map (λ (l : Binary × Sizable). (l.0, sense l.1)) ls

abbrev pub tests_sensed : List (Link × Sizable) → List (Link × Sense)
tests_sensed ls = map (λ (l : Link × Sizable). (l.0, sense l.1)) ls

abbrev pub links_sized : List (Link × Typed) → List (Link × Option ℕ)
links_sized ls = map (λ (l : Link × Typed). (l.0, size_of l.1)) ls

abbrev pub links_valued : Store → ℕ → List (Link × Typed) → List (Link × List Digit)
links_valued store time ls = map (λ (l : Link × Typed). (l.0, value_of l.1 store time)) ls

abbrev pub links_read : List (Link × Typed) → List (Link × List BitRange)
links_read ls = map (λ (l : Link × Typed). (l.0, reads l.1)) ls

link_size : (w : ℕ) (s r : Option ℕ) (l : Link) (op : Binary) → l.operator ≡ op → l.width ≡ w → linked_size s (l, r) ≡ open_link w s (op, r)
link_size w None None l op h k = refl
link_size w None (Some b) l op h k = refl
link_size w (Some a) None l op h k = refl
link_size w (Some a) (Some b) l op h k = ap (λ z. sized_by (sizing_of z) l.width a b) h ∙ ap (λ z. sized_by (sizing_of op) z a b) k

links_size : (w : ℕ) (g : Bool) (s : Option ℕ) (ls : List (Binary × Sizable)) (ys : List (Link × Typed)) → Each (IsLink w g) ls ys →
    chain_size s (links_sized ys) ≡ open_size w s (map (λ (l : Binary × Sense). (l.0, l.1.size w)) (links_sensed ls))
links_size w g s _ _ each_none = refl
links_size w g s _ _ (each_more x y xs ys h r) =
    ap (λ z. chain_size (linked_size s (y.0, z)) (links_sized ys)) h.fits.size
    ∙ ap (λ z. chain_size z (links_sized ys)) (link_size w s ((sense x.1).size w) y.0 x.0 h.operator h.width_is)
    ∙ links_size w g (open_link w s (x.0, (sense x.1).size w)) xs ys r

links_value : (w : ℕ) (g : Bool) (store : Store) (time : ℕ) (first : List Digit) (ls : List (Binary × Sizable)) (ys : List (Link × Typed)) → Each (IsLink w g) ls ys →
    chained first (links_valued store time ys) ≡ open_value w g first (map (λ (l : Binary × Sense). (l.0, l.1.at store time w g)) (links_sensed ls))
links_value w g store time first _ _ each_none = refl
links_value w g store time first _ _ (each_more x y xs ys h r) =
    let rest = links_valued store time ys in
    let d = value_of y.1 store time in
    ap (λ z. chained (operated z y.0.width y.0.signed first d) rest) h.operator
    ∙ ap (λ z. chained (operated x.0 z y.0.signed first d) rest) h.width_is
    ∙ ap (λ z. chained (operated x.0 w z first d) rest) h.sign_is
    ∙ ap (λ z. chained (operated x.0 w g first z) rest) (h.fits.value store time)
    ∙ links_value w g store time (operated x.0 w g first ((sense x.1).at store time w g)) xs ys r

links_reads : (w : ℕ) (g : Bool) (ls : List (Binary × Sizable)) (ys : List (Link × Typed)) → Each (IsLink w g) ls ys →
    joined (map (λ (l : Link × List BitRange). l.1) (links_read ys)) ≡ joined (map (λ (l : Binary × Sense). l.1.reads) (links_sensed ls))
links_reads w g _ _ each_none = refl
links_reads w g _ _ (each_more x y xs ys h r) = ap₂ (λ a b. a ++ b) h.fits.ranges (links_reads w g xs ys r)

tests_size : (s : Option ℕ) (ls : List (Link × Sizable)) (ys : List (Link × Typed)) → Each IsTest ls ys →
    chain_size s (links_sized ys) ≡ chain_size s (map (λ (l : Link × Sense). (l.0, l.1.size l.0.width)) (tests_sensed ls))
tests_size s _ _ each_none = refl
tests_size s _ _ (each_more x y xs ys h r) =
    ap (λ z. chain_size (linked_size s (z, size_of y.1)) (links_sized ys)) h.link
    ∙ ap (λ z. chain_size (linked_size s (x.0, z)) (links_sized ys)) h.fits.size
    ∙ tests_size (linked_size s (x.0, (sense x.1).size x.0.width)) xs ys r

tests_valued : (store : Store) (time : ℕ) (first : List Digit) (ls : List (Link × Sizable)) (ys : List (Link × Typed)) → Each IsTest ls ys →
    chained first (links_valued store time ys) ≡ chained first (map (λ (l : Link × Sense). (l.0, l.1.at store time l.0.width l.0.signed)) (tests_sensed ls))
tests_valued store time first _ _ each_none = refl
tests_valued store time first _ _ (each_more x y xs ys h r) =
    ap (λ z. chained (linked first (z, value_of y.1 store time)) (links_valued store time ys)) h.link
    ∙ ap (λ z. chained (linked first (x.0, z)) (links_valued store time ys)) (h.fits.value store time)
    ∙ tests_valued store time (linked first (x.0, (sense x.1).at store time x.0.width x.0.signed)) xs ys r

tests_reads : (ls : List (Link × Sizable)) (ys : List (Link × Typed)) → Each IsTest ls ys →
    joined (map (λ (l : Link × List BitRange). l.1) (links_read ys)) ≡ joined (map (λ (l : Link × Sense). l.1.reads) (tests_sensed ls))
tests_reads _ _ each_none = refl
tests_reads _ _ (each_more x y xs ys h r) = ap₂ (λ a b. a ++ b) h.fits.ranges (tests_reads xs ys r)

-- ---- chains

pub fits_Chain : (x : Box Sizable Global) (ls : Vec (Binary × Sizable) Global) (a : Sizable) (ks : List (Binary × Sizable)) (b : Box Typed Global) (ys : Vec (Link × Typed) Global) (w : ℕ) (g : Bool) → a ≡ x.value → ks ≡ ls.items →
    IsFitted (sense a) w g b.value → Each (IsLink w g) ks ys.items → IsFitted (sense (v.Chain x ls)) w g (t.Chain b ys)
fits_Chain x ls a ks b ys w g h l p r =
    let q : IsFitted (sense x.value) w g b.value = subst (λ z. IsFitted (sense z) w g b.value) h p in
    let e : Each (IsLink w g) ls.items ys.items = subst (λ z. Each (IsLink w g) z ys.items) l r in
    fitted_as (f.Chain x ls) (v.Chain x ls) (v.rolls-Chain x ls) w g (o.Chain b ys) (t.Chain b ys) (t.rolls-Chain b ys)
    (ap (λ z. chain_size z (links_sized ys.items)) q.size ∙ links_size w g ((sense x.value).size w) ls.items ys.items e)
    (λ store time. ap (λ z. chained z (links_valued store time ys.items)) (q.value store time) ∙ links_value w g store time ((sense x.value).at store time w g) ls.items ys.items e)
    (ap₂ (λ c d. c ++ d) q.ranges (links_reads w g ls.items ys.items e)) refl

pub fits_Tests : (x : Box Sizable Global) (ls : Vec (Link × Sizable) Global) (a : Sizable) (ks : List (Link × Sizable)) (b : Box Typed Global) (ys : Vec (Link × Typed) Global) (w : ℕ) (g : Bool) (e : Typed) → a ≡ x.value → ks ≡ ls.items →
    IsFitted (sense a) 1 false b.value → Each IsTest ks ys.items → IsExtended (t.Chain b ys) w g e → IsFitted (sense (v.Tests x ls)) w g e
fits_Tests x ls a ks b ys w g e h l p r z =
    let q : IsFitted (sense x.value) 1 false b.value = subst (λ z. IsFitted (sense z) 1 false b.value) h p in
    let d : Each IsTest ls.items ys.items = subst (λ z. Each IsTest z ys.items) l r in
    let first = sense x.value in
    fitted_extended (f.Tests x ls) (v.Tests x ls) (v.rolls-Tests x ls) w g (t.Chain b ys) e z
    (ap (option_map (λ n. w)) (
    ap size_of (sym (t.rolls-Chain b ys)) ∙ fold-roll-Typed (Option ℕ) size_step (o.Chain b ys)
    ∙ ap (λ z. chain_size z (links_sized ys.items)) q.size ∙ tests_size (first.size 1) ls.items ys.items d
    ))
    (λ store time. ap (resized g w) (
    ap (λ z. value_of z store time) (sym (t.rolls-Chain b ys)) ∙ fold-roll-Typed (List Digit) (value_step store time) (o.Chain b ys)
    ∙ ap (λ z. chained z (links_valued store time ys.items)) (q.value store time) ∙ tests_valued store time (first.at store time 1 false) ls.items ys.items d
    ))
    (ap reads (sym (t.rolls-Chain b ys)) ∙ fold-roll-Typed (List BitRange) reads_step (o.Chain b ys) ∙ ap₂ (λ c d. c ++ d) q.ranges (tests_reads ls.items ys.items d))
    (ap (brought w) (ap layer_of (sym (t.rolls-Chain b ys)) ∙ fold-roll-Typed Layer layer_step (o.Chain b ys)))

-- ---- choices

-- an operand behind a condition, and what the rest gives
abbrev pub chosen_before : List Digit → List Digit → List Digit → List Digit
chosen_before condition value rest = picked (truth condition) value rest

abbrev pub pairs_sensed : List (Sizable × Sizable) → List (Sense × Sense)
pairs_sensed ps = map (λ (p : Sizable × Sizable). (sense p.0, sense p.1)) ps

pairs_size : (w : ℕ) (g : Bool) (s : Option ℕ) (ps : List (Sizable × Sizable)) (qs : List (Typed × Typed)) → Each (IsPair w g) ps qs →
    choice_size (map (λ (q : Typed × Typed). (size_of q.0, size_of q.1)) qs) s ≡ choice_size (map (λ (p : Sense × Sense). (p.0.size w, p.1.size w)) (pairs_sensed ps)) s
pairs_size w g s _ _ each_none = refl
pairs_size w g s _ _ (each_more x y xs ys h r) =
    let rest = choice_size (map (λ (q : Typed × Typed). (size_of q.0, size_of q.1)) ys) s in
    ap (λ z. picked_size z (size_of y.1) rest) h.condition.size ∙ ap (λ z. picked_size ((sense x.0).size w) z rest) h.value.size
    ∙ ap (picked_size ((sense x.0).size w) ((sense x.1).size w)) (pairs_size w g s xs ys r)

pairs_value : (w : ℕ) (g : Bool) (store : Store) (time : ℕ) (last : List Digit) (ps : List (Sizable × Sizable)) (qs : List (Typed × Typed)) → Each (IsPair w g) ps qs →
    chosen (map (λ (q : Typed × Typed). (value_of q.0 store time, value_of q.1 store time)) qs) last
    ≡ chosen (map (λ (p : Sense × Sense). (p.0.at store time w g, p.1.at store time w g)) (pairs_sensed ps)) last
pairs_value w g store time last _ _ each_none = refl
pairs_value w g store time last _ _ (each_more x y xs ys h r) =
    let rest = map (λ (q : Typed × Typed). (value_of q.0 store time, value_of q.1 store time)) ys in
    ap (λ z. chosen ((z, value_of y.1 store time) ∷ rest) last) (h.condition.value store time)
    ∙ ap (λ z. chosen (((sense x.0).at store time w g, z) ∷ rest) last) (h.value.value store time)
    ∙ ap (λ z. chosen_before ((sense x.0).at store time w g) ((sense x.1).at store time w g) z) (pairs_value w g store time last xs ys r)

pairs_reads : (w : ℕ) (g : Bool) (ps : List (Sizable × Sizable)) (qs : List (Typed × Typed)) → Each (IsPair w g) ps qs →
    joined (map (λ (p : List BitRange × List BitRange). p.0 ++ p.1) (map (λ (q : Typed × Typed). (reads q.0, reads q.1)) qs))
    ≡ joined (map (λ (p : Sense × Sense). p.0.reads ++ p.1.reads) (pairs_sensed ps))
pairs_reads w g _ _ each_none = refl
pairs_reads w g _ _ (each_more x y xs ys h r) = ap₂ (λ a b. a ++ b) (ap₂ (λ a b. a ++ b) h.condition.ranges h.value.ranges) (pairs_reads w g xs ys r)

pub fits_Choice : (ps : Vec (Sizable × Sizable) Global) (x : Box Sizable Global) (ks : List (Sizable × Sizable)) (a : Sizable) (qs : Vec (Typed × Typed) Global) (b : Box Typed Global) (w : ℕ) (g : Bool) → ks ≡ ps.items → a ≡ x.value →
    Each (IsPair w g) ks qs.items → IsFitted (sense a) w g b.value → IsFitted (sense (v.Choice ps x)) w g (t.Choice qs b)
fits_Choice ps x ks a qs b w g l h r p =
    let q : IsFitted (sense x.value) w g b.value = subst (λ z. IsFitted (sense z) w g b.value) h p in
    let e : Each (IsPair w g) ps.items qs.items = subst (λ z. Each (IsPair w g) z qs.items) l r in
    fitted_as (f.Choice ps x) (v.Choice ps x) (v.rolls-Choice ps x) w g (o.Choice qs b) (t.Choice qs b) (t.rolls-Choice qs b)
    (pairs_size w g (size_of b.value) ps.items qs.items e ∙ ap (choice_size (map (λ (p : Sense × Sense). (p.0.size w, p.1.size w)) (pairs_sensed ps.items))) q.size)
    (λ store time. pairs_value w g store time (value_of b.value store time) ps.items qs.items e
    ∙ ap (chosen (map (λ (p : Sense × Sense). (p.0.at store time w g, p.1.at store time w g)) (pairs_sensed ps.items))) (q.value store time))
    (ap₂ (λ c d. c ++ d) (pairs_reads w g ps.items qs.items e) q.ranges) refl

-- ---- concatenations

parts_size : (w : ℕ) (g : Bool) (xs : List Sizable) (ys : List Typed) → Each (IsPart w g) xs ys → map size_of ys ≡ map (λ (s : Sense). s.size w) (map sense xs)
parts_size w g _ _ each_none = refl
parts_size w g _ _ (each_more x y xs ys h r) = ap₂ (λ a b. a ∷ b) h.size (parts_size w g xs ys r)

parts_value : (w : ℕ) (g : Bool) (store : Store) (time : ℕ) (xs : List Sizable) (ys : List Typed) → Each (IsPart w g) xs ys →
    map (λ (y : Typed). value_of y store time) ys ≡ map (λ (s : Sense). s.at store time w g) (map sense xs)
parts_value w g store time _ _ each_none = refl
parts_value w g store time _ _ (each_more x y xs ys h r) = ap₂ (λ a b. a ∷ b) (h.value store time) (parts_value w g store time xs ys r)

parts_reads : (w : ℕ) (g : Bool) (xs : List Sizable) (ys : List Typed) → Each (IsPart w g) xs ys → joined (map reads ys) ≡ joined (map (λ (s : Sense). s.reads) (map sense xs))
parts_reads w g _ _ each_none = refl
parts_reads w g _ _ (each_more x y xs ys h r) = ap₂ (λ a b. a ++ b) h.ranges (parts_reads w g xs ys r)

pub fits_Concat : (x : Box Sizable Global) (xs : Vec Sizable Global) (a : Sizable) (ks : List Sizable) (b : Box Typed Global) (ys : Vec Typed Global) (w : ℕ) (g : Bool) → a ≡ x.value → ks ≡ xs.items →
    IsFitted (sense a) w g b.value → Each (IsPart w g) ks ys.items → IsFitted (sense (v.Concat x xs)) w g (t.Concat b ys)
fits_Concat x xs a ks b ys w g h l p r =
    let q : IsFitted (sense x.value) w g b.value = subst (λ z. IsFitted (sense z) w g b.value) h p in
    let e : Each (IsPart w g) xs.items ys.items = subst (λ z. Each (IsPart w g) z ys.items) l r in
    fitted_as (f.Concat x xs) (v.Concat x xs) (v.rolls-Concat x xs) w g (o.Concat b ys) (t.Concat b ys) (t.rolls-Concat b ys)
    (ap at_most_64 (ap₂ (λ c d. sum_size (c ∷ d)) q.size (parts_size w g xs.items ys.items e)))
    (λ store time. ap₂ concatenated (q.value store time) (parts_value w g store time xs.items ys.items e))
    (ap₂ (λ c d. c ++ d) q.ranges (parts_reads w g xs.items ys.items e)) refl

-- ---- parts with a size of their own

pub fits_Closed : (s : Shape) (x : Box Sizable Global) (a : Sizable) (y e : Typed) (w : ℕ) (g : Bool) → a ≡ x.value → IsFitted (sense a) s.width s.signed y → IsExtended y w g e → IsFitted (sense (v.Closed s x)) w g e
fits_Closed s x a y e w g h p k =
    let q : IsFitted (sense x.value) s.width s.signed y = subst (λ z. IsFitted (sense z) s.width s.signed y) h p in
    fitted_extended (f.Closed s x) (v.Closed s x) (v.rolls-Closed s x) w g y e k
    (ap (option_map (λ n. w)) q.size) (λ store time. ap (resized g w) (q.value store time)) q.ranges (ap (brought w) q.layer)

-- ---- what is brought to a context, where memory suffices

pub tests_fitted : {E : Type 0} (x : Box Sizable Global) (ls : Vec (Link × Sizable) Global) (a : Sizable) (ks : List (Link × Sizable)) (b : Box Typed Global) (ys : Vec (Link × Typed) Global) (w : ℕ) (g : Bool) (r : Result Typed E) → a ≡ x.value → ks ≡ ls.items →
    IsFitted (sense a) 1 false b.value → Each IsTest ks ys.items → IfOk r (λ e. IsExtended (t.Chain b ys) w g e) → IfOk r (λ e. IsFitted (sense (v.Tests x ls)) w g e)
tests_fitted x ls a ks b ys w g (Ok e) h l p r z = fits_Tests x ls a ks b ys w g e h l p r z
tests_fitted x ls a ks b ys w g (Err d) h l p r z = z
