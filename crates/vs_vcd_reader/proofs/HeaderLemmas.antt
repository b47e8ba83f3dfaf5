-- The declarations as they are read.
use Rattle.std.proofs.Common.{◌≡◌, ℕ, zero, suc, ◌+◌, ◌-◌, ◌<◌, ◌≤◌, ◌^◌, Bool, true, false, Option, Some, None, MatchOption, List, [], ◌∷◌, ◌++◌, codes, decimal, length, map, refl, sym, ap, subst, ◌∙◌, length-append, arith}
use Rattle.std.proofs.lemmas.Bool.{false≢true}
use Rattle.std.proofs.lemmas.List.{append-nil}
use Rattle.std.specs.declared.alloc.Global.{Global}
use Rattle.std.specs.declared.vec.Vec.{Vec}
use denote.RawPtr.{null_ptr}
use Rattle.vs_design.specs.declared.design.ScopeKind.{ScopeKind}
use Rattle.vs_design.specs.declared.design.ScopeKind.TheVariants.{Module}
use Rattle.vs_design.specs.declared.timescale.TimeSpan.{TimeSpan}
use Rattle.vs_vcd_lines.specs.vs_vcd_writing.specs.Codes.{code}
use Rattle.vs_vcd_lines.specs.vs_vcd_writing.specs.Text.{kind_word, range_text, scope_line, scope_word}
use Rattle.vs_vcd_lines.specs.declared.dump.Declaration.{Declaration}
use Rattle.vs_vcd_lines.specs.declared.dump.Declaration.TheVariants as v
use Rattle.vs_vcd_lines.specs.declared.dump.Variable.{Variable}
use Rattle.vs_vcd_lines.specs.Lines.{declaration_line, span_line, IsDeclaration}
use Rattle.vs_vcd_lines.specs.Names.{IsScopeName}
use Rattle.vs_vcd_lines.specs.Cuts.{lacks, IsCut}
use Rattle.vs_vcd_reader.specs.declared.fault.VcdFault.{VcdFault}
use Rattle.vs_vcd_reader.specs.declared.fault.VcdFault.TheVariants as f
use Rattle.vs_vcd_reader.specs.declared.header.Header.{Header}
use Rattle.vs_vcd_reader.specs.Plain.{plain_declaration, plain_variable, PlainDeclaration, PlainVariable}
use Rattle.vs_vcd_reader.specs.Plain.{PlainDeclaration as d}
use Rattle.vs_vcd_reader.specs.Layout.{variable_text, widths_of, IsPlainVariable}
use Rattle.vs_vcd_reader.specs.Headers.{declared, depth_with, header_items, header_place, item_for, own_with, Goes, IsBegun, IsClosed, IsHeader, IsHeaderFault, IsExtendedBy, MayOccur}
use Rattle.vs_vcd_reader.specs.Steps.{Item, Place, Step, Steps, Follows, declared_items, line_of, text_from}
use Rattle.vs_vcd_reader.specs.Steps.{Item as i, Place as p, Step as s, Steps as t}
use Rattle.vs_vcd_reader.specs.Stops.{GoesOn, IsKindAt, IsReportedAt, IsUnended}
use Rattle.vs_vcd_lines.specs.Beginnings.{Begins}
use Rattle.vs_vcd_reader.proofs.BodyLemmas.{begins_by, begins_on}
use Rattle.vs_vcd_reader.proofs.FaultLemmas.{told_bad, told_end, told_later}
use Rattle.vs_vcd_reader.proofs.FollowLemmas.{steps_more, text_more}
use Rattle.vs_vcd_reader.proofs.OnceLemmas.{other_letter, scope_once}

-- ---- one more declaration

declared_more : (n : ℕ) (ds : List PlainDeclaration) (x : PlainDeclaration)
    → declared_items n (ds ++ x ∷ []) ≡ declared_items n ds ++ declared_items (n + length (widths_of ds)) (x ∷ [])
declared_more n [] x = ap (λ m. declared_items m (x ∷ [])) (omega arith)
declared_more n (d.Scope kind name ∷ ds) x = ap (λ l. i.Scope kind name ∷ l) (declared_more n ds x)
declared_more n (d.Variable v ∷ ds) x =
    ap (λ l. i.Variable v n ∷ l)
    (declared_more (suc n) ds x ∙ ap (λ m. declared_items (suc n) ds ++ declared_items m (x ∷ [])) (omega arith))
declared_more n (d.Upscope ∷ ds) x = ap (λ l. i.Upscope ∷ l) (declared_more n ds x)

widths_more : (ds : List PlainDeclaration) (x : PlainDeclaration) → widths_of (ds ++ x ∷ []) ≡ widths_of ds ++ widths_of (x ∷ [])
widths_more [] x = refl
widths_more (d.Scope kind name ∷ ds) x = widths_more ds x
widths_more (d.Variable v ∷ ds) x = ap (λ l. v.width ∷ l) (widths_more ds x)
widths_more (d.Upscope ∷ ds) x = widths_more ds x

plain_more : (ds : List Declaration) (x : Declaration) → map plain_declaration (ds ++ x ∷ []) ≡ map plain_declaration ds ++ plain_declaration x ∷ []
plain_more [] x = refl
plain_more (y ∷ ds) x = ap (λ l. plain_declaration y ∷ l) (plain_more ds x)

one_item : (n : ℕ) (x : Declaration) → declared_items n (plain_declaration x ∷ []) ≡ item_for n x ∷ []
one_item n (v.Scope kind name) = refl
one_item n (v.Variable x) = refl
one_item n v.Upscope = refl

pub taken : (old new : Header) (x : Declaration) → IsHeader old → new.declarations.items ≡ old.declarations.items ++ x ∷ []
    → Step (header_place old) (item_for (length old.widths.items) x) (header_place new) → new.widths.items ≡ old.widths.items ++ widths_of (plain_declaration x ∷ [])
    → new.depth ≤ old.depth + 1 → IsExtendedBy old x new
taken old new x kept pushed step sizes deep =
    let plain : declared new ≡ declared old ++ plain_declaration x ∷ [] = ap (map plain_declaration) pushed ∙ plain_more old.declarations.items x in
    let number : 0 + length (widths_of (declared old)) ≡ length old.widths.items = let same = ap length (sym kept.widths) in omega (arith, same) in
    let items : header_items new ≡ header_items old ++ item_for (length old.widths.items) x ∷ [] =
    ap (declared_items 0) plain ∙ declared_more 0 (declared old) (plain_declaration x)
    ∙ ap (λ n. header_items old ++ declared_items n (plain_declaration x ∷ [])) number
    ∙ ap (λ l. header_items old ++ l) (one_item (length old.widths.items) x) in
    let was = kept.deep in
    let size = ap length pushed ∙ length-append old.declarations.items (x ∷ []) in
    record {
      kept = record {
        steps = subst (λ l. Steps p.Top l (header_place new)) (sym items)
            (steps_more p.Top (header_place old) (header_place new) (header_items old) (item_for (length old.widths.items) x) kept.steps step);
        widths = sizes ∙ ap (λ l. l ++ widths_of (plain_declaration x ∷ [])) kept.widths ∙ sym (widths_more (declared old) (plain_declaration x))
            ∙ ap widths_of (sym plain);
        deep = omega (arith, was, size, deep);
      };
      items = items;
    }

pub step_scope : (ws xs : List ℕ) (depth next : ℕ) (own after : Bool) (kind : ScopeKind) (name : List ℕ) → xs ≡ ws → 0 < depth → next ≡ depth + 1 → after ≡ true
    → IsScopeName kind name → Step (p.Header ws depth own) (i.Scope kind name) (p.Header xs next after)
step_scope ws xs zero next own after kind name same opened more inside named = absurd (omega (arith, opened))
step_scope ws xs (suc depth) next own after kind name same opened more inside named =
    let n : next ≡ suc (suc depth) = omega (arith, more) in
    subst (λ l. Step (p.Header ws (suc depth) own) (i.Scope kind name) (p.Header l next after)) (sym same)
    (subst (λ m. Step (p.Header ws (suc depth) own) (i.Scope kind name) (p.Header ws m after)) (sym n)
    (subst (λ b. Step (p.Header ws (suc depth) own) (i.Scope kind name) (p.Header ws (suc (suc depth)) b)) (sym inside) (s.scope ws depth own kind name named)))

pub step_upscope : (ws xs : List ℕ) (depth next : ℕ) (own after : Bool) → xs ≡ ws → 0 < depth → next ≡ depth - 1 → after ≡ false
    → Step (p.Header ws depth own) i.Upscope (p.Header xs next after)
step_upscope ws xs zero next own after same opened less outside = absurd (omega (arith, opened))
step_upscope ws xs (suc depth) next own after same opened less outside =
    let n : next ≡ depth = omega (arith, less) in
    subst (λ l. Step (p.Header ws (suc depth) own) i.Upscope (p.Header l next after)) (sym same)
    (subst (λ m. Step (p.Header ws (suc depth) own) i.Upscope (p.Header ws m after)) (sym n)
    (subst (λ b. Step (p.Header ws (suc depth) own) i.Upscope (p.Header ws depth b)) (sym outside) (s.upscope ws depth own)))

pub step_variable : (ws xs : List ℕ) (depth next : ℕ) (own after : Bool) (v : PlainVariable) → xs ≡ ws ++ v.width ∷ [] → 0 < depth → next ≡ depth → own ≡ true → after ≡ own
    → IsPlainVariable v → Step (p.Header ws depth own) (i.Variable v (length ws)) (p.Header xs next after)
step_variable ws xs zero next own after v same opened stays may kept is = absurd (omega (arith, opened))
step_variable ws xs (suc depth) next own after v same opened stays may kept is =
    subst (λ l. Step (p.Header ws (suc depth) own) (i.Variable v (length ws)) (p.Header l next after)) (sym same)
    (subst (λ m. Step (p.Header ws (suc depth) own) (i.Variable v (length ws)) (p.Header (ws ++ v.width ∷ []) m after)) (sym stays)
    (subst (λ b. Step (p.Header ws (suc depth) own) (i.Variable v (length ws)) (p.Header (ws ++ v.width ∷ []) (suc depth) b)) (sym kept)
    (subst (λ b. Step (p.Header ws (suc depth) b) (i.Variable v (length ws)) (p.Header (ws ++ v.width ∷ []) (suc depth) b)) (sym may) (s.variable ws depth v is))))

-- ---- lines that are none of these

abbrev vec : Global → (l : List ℕ) → length l < 2 ^ 63 → Vec ℕ Global
vec g l h = record { ptr = null_ptr; len = length l; cap = length l; alloc = g; items = l; ok = (refl, omega arith); small = h }

scope_short : (kind : ScopeKind) (name : List ℕ) → length name ≤ length (scope_line kind name)
scope_short kind name =
    let a = codes "$scope " ++ scope_word kind ++ codes " " in
    omega (arith, length-append (a ++ name) (codes " $end"), length-append a name)

variable_short : (v : PlainVariable) (n : ℕ) → length v.name ≤ length (variable_text v n)
variable_short v n =
    let a = codes "$var " ++ kind_word v.kind ++ codes " " ++ decimal v.width ++ codes " " ++ code n ++ codes " " in
    omega (arith, length-append (a ++ v.name ++ range_text v.range) (codes " $end"), length-append (a ++ v.name) (range_text v.range), length-append a v.name)

refuses : (g : Global) (ws : List ℕ) (depth : ℕ) (own : Bool) (line : List ℕ) (x : Item) (next : Place) → 0 < depth → length line < 2 ^ 63
    → ((x : Declaration) → IsDeclaration x → line ≡ declaration_line x (length ws) → ⊥) → Step (p.Header ws depth own) x next → line ≡ line_of x → ⊥
refuses g ws _ own line _ _ opened short none (s.scope _ above _ kind name named) is =
    let size = ap length is in
    none (v.Scope kind (vec g name (omega (arith, scope_short kind name, size, short)))) named is
refuses g ws _ _ line _ _ opened short none (s.variable _ above x good) is =
    let size = ap length is in
    none
    (v.Variable (record { kind = x.kind; width = x.width; name = vec g x.name (omega (arith, variable_short x (length ws), size, short)); range = x.range }))
    (record { named = good.named; some = good.some; most = good.most; ranged = good.ranged }) is
refuses g ws _ own line _ _ opened short none (s.upscope _ above _) is = none v.Upscope tt is
refuses g ws _ own line _ _ opened short none (s.definitions _ _) is = omega (arith, opened)

pub header_refuses : (g : Global) (ws : List ℕ) (depth : ℕ) (own : Bool) (line : List ℕ) → 0 < depth → length line < 2 ^ 63
    → ((x : Declaration) → IsDeclaration x → line ≡ declaration_line x (length ws) → ⊥) → Follows (p.Header ws depth own) line → ⊥
header_refuses g ws depth own line opened short none follows =
    refuses g ws depth own line follows.item follows.next opened short none follows.step follows.is

-- a variable that may not stand there
no_variable : (ws : List ℕ) (depth : ℕ) (own : Bool) (line : List ℕ) (v : PlainVariable) (x : Item) (next : Place) → 0 < depth → own ≡ false
    → line ≡ variable_text v (length ws) → Step (p.Header ws depth own) x next → line ≡ line_of x → ⊥
no_variable ws _ own line v _ _ opened outside is (s.scope _ above _ kind name named) e = other_letter _ _ (sym is ∙ e) (λ h. omega (arith, h))
no_variable ws _ _ line v _ _ opened outside is (s.variable _ above x good) e = false≢true (sym outside)
no_variable ws _ own line v _ _ opened outside is (s.upscope _ above _) e = other_letter _ _ (sym is ∙ e) (λ h. omega (arith, h))
no_variable ws _ own line v _ _ opened outside is (s.definitions _ _) e = omega (arith, opened)

pub variable_refused : (ws : List ℕ) (depth : ℕ) (own : Bool) (line : List ℕ) (v : Variable) → 0 < depth → own ≡ false
    → line ≡ variable_text (plain_variable v) (length ws) → Follows (p.Header ws depth own) line → ⊥
variable_refused ws depth own line v opened outside is follows =
    no_variable ws depth own line (plain_variable v) follows.item follows.next opened outside is follows.step follows.is

pub line_of_declaration : (n : ℕ) (x : Declaration) → declaration_line x n ≡ line_of (item_for n x)
line_of_declaration n (v.Scope kind name) = refl
line_of_declaration n (v.Variable x) = refl
line_of_declaration n v.Upscope = refl

-- ---- the top module, and the end

start_none : (line : List ℕ) (x : Item) (next : Place) → ((span : TimeSpan) → line ≡ span_line span → ⊥) → Step p.Start x next → line ≡ line_of x → ⊥
start_none line _ _ none (s.tick span) is = none span is

pub start_refuses : (line : List ℕ) → ((span : TimeSpan) → line ≡ span_line span → ⊥) → Follows p.Start line → ⊥
start_refuses line none follows = start_none line follows.item follows.next none follows.step follows.is

top_none : (line : List ℕ) (x : Item) (next : Place) → ((kind : ScopeKind) (name : List ℕ) → IsScopeName kind name → line ≡ scope_line kind name → ⊥)
    → Step p.Top x next → line ≡ line_of x → ⊥
top_none line _ _ none (s.top name named) is = none Module name named is

end_none : (ws : List ℕ) (depth : ℕ) (own : Bool) (line : List ℕ) (x : Item) (next : Place) → depth ≡ 0 → (line ≡ codes "$enddefinitions $end" → ⊥)
    → Step (p.Header ws depth own) x next → line ≡ line_of x → ⊥
end_none ws _ own line _ _ closed none (s.definitions _ _) is = none is
end_none ws _ own line _ _ closed none (s.scope _ above _ kind name named) is = omega (arith, closed)
end_none ws _ _ line _ _ closed none (s.variable _ above x good) is = omega (arith, closed)
end_none ws _ own line _ _ closed none (s.upscope _ above _) is = omega (arith, closed)

pub top_refuses : (line : List ℕ) → ((kind : ScopeKind) (name : List ℕ) → IsScopeName kind name → line ≡ scope_line kind name → ⊥) → Follows p.Top line → ⊥
top_refuses line none follows = top_none line follows.item follows.next none follows.step follows.is

pub end_refuses : (ws : List ℕ) (depth : ℕ) (own : Bool) (line : List ℕ) → depth ≡ 0 → (line ≡ codes "$enddefinitions $end" → ⊥) → Follows (p.Header ws depth own) line → ⊥
end_refuses ws depth own line closed none follows = end_none ws depth own line follows.item follows.next closed none follows.step follows.is

-- ---- the parts of the header

top_other_by : (line : List ℕ) (kind : ScopeKind) (name : List ℕ) (x : Item) (next : Place) → line ≡ scope_line kind name → (kind ≡ Module → ⊥) → Step p.Top x next
    → line ≡ line_of x → ⊥
top_other_by line kind name _ _ e other (s.top n named) is = other (scope_once kind Module name n (sym e ∙ is)).0

pub top_other : (line : List ℕ) (kind : ScopeKind) (name : List ℕ) → line ≡ scope_line kind name → (kind ≡ Module → ⊥) → Follows p.Top line → ⊥
top_other line kind name e other follows = top_other_by line kind name follows.item follows.next e other follows.step follows.is

pub top_made : (text line rest : List ℕ) (h : Header) (kind : ScopeKind) (name : List ℕ) (kept : Vec ℕ Global) → text ≡ line ++ 10 ∷ rest → line ≡ scope_line kind name
    → IsScopeName kind name → kind ≡ Module → kept.items ≡ name → h.declarations.items ≡ v.Scope kind kept ∷ [] → h.widths.items ≡ [] → h.depth ≡ 1 → h.own ≡ true
    → IsBegun text h rest
top_made text line rest h kind name kept cut is named top same pushed none one inside =
    let item : i.Scope kind kept.items ≡ i.Scope Module name = ap (λ k. i.Scope k kept.items) top ∙ ap (i.Scope Module) same in
    let items : header_items h ≡ i.Scope Module name ∷ [] = ap (λ l. declared_items 0 (map plain_declaration l)) pushed ∙ ap (λ x. x ∷ []) item in
    let step : Step p.Top (i.Scope Module name) (p.Header [] 1 true) = s.top name (subst (λ k. IsScopeName k name) top named) in
    let made = λ (ws : List ℕ) (n : ℕ) (b : Bool). p.Header ws n b in
    let place : p.Header [] 1 true ≡ header_place h = ap (λ ws. made ws 1 true) (sym none) ∙ ap (λ n. made h.widths.items n true) (sym one) ∙ ap (made h.widths.items h.depth) (sym inside) in
    let steps = t.go p.Top (i.Scope Module name) (p.Header [] 1 true) [] (p.Header [] 1 true) step (t.stay (p.Header [] 1 true)) in
    let size = ap length pushed in
    record {
      kept = record {
        steps = subst (λ q. Steps p.Top (header_items h) q) place (subst (λ l. Steps p.Top l (p.Header [] 1 true)) (sym items) steps);
        widths = none ∙ ap (λ l. widths_of (map plain_declaration l)) (sym pushed);
        deep = omega (arith, size, one);
      };
      is = text_more text [] (i.Scope Module name) text line rest refl cut (is ∙ ap (λ k. scope_line k name) top) ∙ ap (λ l. text_from l ++ rest) (sym items);
    }

pub goes_on : (text rest line after : List ℕ) (old new : Header) → IsBegun text old rest → rest ≡ line ++ 10 ∷ after → Goes old line new → IsBegun text new after
goes_on text rest line after old new b cut g = record {
  kept = g.kept;
  is = text_more text (header_items old) g.item rest line after b.is cut g.is ∙ ap (λ l. text_from l ++ after) (sym g.items);
}

header_told : (text rest : List ℕ) (h : Header) (fault : VcdFault) → IsBegun text h rest → IsReportedAt (header_place h) rest fault → IsReportedAt p.Top text fault
header_told text rest h fault b told = told_later p.Top (header_place h) text rest (header_items h) fault b.kept.steps b.is told

pub header_end : (text rest : List ℕ) (h : Header) (fault : VcdFault) → IsBegun text h rest → lacks 10 rest ≡ true → IsUnended (header_place h) rest fault
    → IsReportedAt p.Top text fault
header_end text rest h fault b one told = header_told text rest h fault b (told_end (header_place h) rest fault one (λ _ e. e) told)

-- what is told of a last line of the header, by a test
pub unended_header : (here : Place) (part : List ℕ) (b : Bool) (fault : VcdFault) → IsKindAt here part f.Header
    → (b ≡ true → GoesOn here part) × (GoesOn here part → b ≡ true) → (b ≡ true → fault ≡ f.Cut) → (b ≡ false → fault ≡ f.Header) → IsUnended here part fault
unended_header here part true fault kind tells cut bad = subst (IsUnended here part) (sym (cut refl)) (tells.0 refl)
unended_header here part false fault kind tells cut bad = subst (IsUnended here part) (sym (bad refl)) (λ h. false≢true (tells.1 h), kind)

end_stands : (ws : List ℕ) (depth : ℕ) (own : Bool) → depth ≡ 0 → Follows (p.Header ws depth own) (codes "$enddefinitions $end")
end_stands ws depth own closed =
    subst (λ n. Follows (p.Header ws n own) (codes "$enddefinitions $end")) (sym closed)
    (record { item = i.Definitions; next = p.Zero ws; step = s.definitions ws own; is = refl })

end_by : (ws : List ℕ) (depth : ℕ) (own : Bool) (line : List ℕ) (x : Item) (next : Place) → depth ≡ 0 → Step (p.Header ws depth own) x next → line ≡ line_of x
    → line ≡ codes "$enddefinitions $end"
end_by ws _ own line _ _ closed (s.definitions _ _) is = is
end_by ws _ own line _ _ closed (s.scope _ above _ kind name named) is = absurd (omega (arith, closed))
end_by ws _ _ line _ _ closed (s.variable _ above x good) is = absurd (omega (arith, closed))
end_by ws _ own line _ _ closed (s.upscope _ above _) is = absurd (omega (arith, closed))

-- what goes on to the end of the header
pub end_goes_on : (h : Header) (part : List ℕ) (b : Bool) → h.depth ≡ 0
    → (b ≡ true → Begins part (codes "$enddefinitions $end")) × (Begins part (codes "$enddefinitions $end") → b ≡ true)
    → (b ≡ true → GoesOn (header_place h) part) × (GoesOn (header_place h) part → b ≡ true)
end_goes_on h part b closed tells = (
  λ e. begins_on (header_place h) (codes "$enddefinitions $end") part (end_stands h.widths.items h.depth h.own closed) (tells.0 e),
  λ g. tells.1
      (begins_by (header_place h) (codes "$enddefinitions $end") part
      (λ line k. end_by h.widths.items h.depth h.own line k.item k.next closed k.step k.is) g),
)

pub header_bad : (text rest line after : List ℕ) (h : Header) (fault : VcdFault) → IsBegun text h rest → IsCut 10 rest line after → IsHeaderFault h line fault
    → IsReportedAt p.Top text fault
header_bad text rest line after h f.Memory b cut bad = tt
header_bad text rest line after h f.Header b cut bad = header_told text rest h f.Header b (told_bad (header_place h) rest line after f.Header cut bad refl)
header_bad text rest line after h f.Line b cut bad = absurd bad
header_bad text rest line after h f.Code b cut bad = absurd bad
header_bad text rest line after h f.Time b cut bad = absurd bad
header_bad text rest line after h f.Cut b cut bad = absurd bad

pub end_bad : (text rest line after : List ℕ) (h : Header) → IsBegun text h rest → IsCut 10 rest line after → h.depth ≡ 0 → (line ≡ codes "$enddefinitions $end" → ⊥)
    → IsReportedAt p.Top text f.Header
end_bad text rest line after h b cut closed other =
    header_told text rest h f.Header b
    (told_bad (header_place h) rest line after f.Header cut (end_refuses h.widths.items h.depth h.own line closed other) refl)

pub closed_made : (text rest line after : List ℕ) (h : Header) → IsBegun text h rest → rest ≡ line ++ 10 ∷ after → h.depth ≡ 0 → line ≡ codes "$enddefinitions $end"
    → IsClosed text h after
closed_made text rest line after h b cut closed is =
    let step : Step (header_place h) i.Definitions (p.Zero h.widths.items) =
    subst (λ n. Step (p.Header h.widths.items n h.own) i.Definitions (p.Zero h.widths.items)) (sym closed) (s.definitions h.widths.items h.own) in
    record {
      steps = steps_more p.Top (header_place h) (p.Zero h.widths.items) (header_items h) i.Definitions b.kept.steps step;
      widths = b.kept.widths;
      is = text_more text (header_items h) i.Definitions rest line after b.is cut is;
    }

-- ---- one more declaration of any kind

pub taken_all : (old new : Header) (x : Declaration) → IsHeader old → 0 < old.depth → MayOccur old.own x → IsDeclaration x
    → new.declarations.items ≡ old.declarations.items ++ x ∷ [] → new.widths.items ≡ old.widths.items ++ widths_of (plain_declaration x ∷ [])
    → new.depth ≡ depth_with old.depth x → new.own ≡ own_with old.own x → IsExtendedBy old x new
taken_all old new (v.Scope kind name) kept deep may good pushed sizes depth own =
    taken old new (v.Scope kind name) kept pushed
    (step_scope old.widths.items new.widths.items old.depth new.depth old.own new.own kind name.items (sizes ∙ append-nil old.widths.items) deep depth own good) sizes
    (omega (arith, depth))
taken_all old new (v.Variable x) kept deep may good pushed sizes depth own =
    taken old new (v.Variable x) kept pushed
    (step_variable old.widths.items new.widths.items old.depth new.depth old.own new.own (plain_variable x) sizes deep depth may own
    (record { named = good.named; some = good.some; most = good.most; ranged = good.ranged })) sizes (omega (arith, depth))
taken_all old new v.Upscope kept deep may good pushed sizes depth own =
    taken old new v.Upscope kept pushed
    (step_upscope old.widths.items new.widths.items old.depth new.depth old.own new.own (sizes ∙ append-nil old.widths.items) deep depth own) sizes (omega (arith, depth))

-- ---- what a line is found to be

pub none_at : (o : Option Declaration) (line : List ℕ) (m n : ℕ) → MatchOption o ((x : Declaration) → IsDeclaration x → line ≡ declaration_line x m → ⊥)
    (λ x. IsDeclaration x × (line ≡ declaration_line x m)) → o ≡ None → m ≡ n → (x : Declaration) → IsDeclaration x → line ≡ declaration_line x n → ⊥
none_at None line m n h is same = subst (λ k. (x : Declaration) → IsDeclaration x → line ≡ declaration_line x k → ⊥) same h
none_at (Some y) line m n h is same = absurd cc

pub some_at : (o : Option Declaration) (y : Declaration) (line : List ℕ) (m n : ℕ) → MatchOption o ((x : Declaration) → IsDeclaration x → line ≡ declaration_line x m → ⊥)
    (λ x. IsDeclaration x × (line ≡ declaration_line x m)) → o ≡ Some y → m ≡ n → IsDeclaration y × (line ≡ declaration_line y n)
some_at o y line m n h is same =
    subst (λ k. IsDeclaration y × (line ≡ declaration_line y k)) same
    (subst
    (λ q. MatchOption q ((x : Declaration) → IsDeclaration x → line ≡ declaration_line x m → ⊥) (λ x. IsDeclaration x × (line ≡ declaration_line x m))) is h)

pub not_fitting : (ws : List ℕ) (depth : ℕ) (own : Bool) (line : List ℕ) (x : Declaration) → 0 < depth → IsDeclaration x × (line ≡ declaration_line x (length ws))
    → (MayOccur own x → ⊥) → Follows (p.Header ws depth own) line → ⊥
not_fitting ws depth own line (v.Scope kind name) deep is none = absurd (none tt)
not_fitting ws depth own line v.Upscope deep is none = absurd (none tt)
not_fitting ws depth true line (v.Variable x) deep is none = absurd (none refl)
not_fitting ws depth false line (v.Variable x) deep is none = variable_refused ws depth false line x deep refl is.1
