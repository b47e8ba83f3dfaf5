-- Expressions of `case` statements.
use Rattle.std.proofs.Common.{◌≡◌, ℕ, zero, suc, ◌+◌, ◌<◌, ◌≤◌, Bool, true, false, ◌||◌, ◌&&◌, List, [], ◌∷◌, ◌++◌, length, map, take, drop, get_or, Result, append_assoc, refl, ap, sym, subst, ◌∙◌}
use Rattle.std.specs.List.{list_any, flat_map}
use Rattle.std.proofs.Math.Bool.{or_assoc}
use Rattle.std.proofs.lemmas.List.{take_all}
use Rattle.vs_syntax.specs.declared.tree.Expr.{Expr}
use Rattle.vs_syntax.specs.declared.tree.CaseLabel.{CaseLabel}
use Rattle.vs_syntax.specs.declared.tree.Stmt.{Stmt}
use Rattle.vs_design.specs.declared.expression.Typed.{Typed}
use Rattle.vs_scopes.specs.vs_widths.specs.declared.shape.Shape.{Shape}
use Rattle.vs_scopes.specs.vs_widths.specs.declared.faults.WidthReason.{WidthReason}
use Rattle.vs_scopes.specs.vs_widths.specs.declared.faults.WidthFault.{WidthFault}
use Rattle.vs_scopes.specs.vs_widths.specs.declared.faults.WidthFault.TheVariants as fault
use Rattle.vs_scopes.specs.vs_widths.specs.Environment.{Environment}
use Rattle.vs_scopes.specs.vs_widths.specs.Findings.{Finding, Has, Lacks, has_width_fault, together, alike, Refuses as Found}
use Rattle.vs_widths.specs.Expressions.{meant}
use Rattle.vs_widths.specs.Typing.{IsTypedAs}
use Rattle.vs_scopes.specs.declared.faults.Reason.{Reason}
use Rattle.vs_scopes.specs.declared.faults.Reason.TheVariants.{NoModule, Inside, PortMismatch, ParameterMismatch, DeclaredTwice, DrivenTwice, Limit, Width, Endless, Unnamed, Timescales, Format}
use Rattle.vs_scopes.specs.scopes_passes.Answers.{Refuses, body_fault}
use Rattle.vs_scopes.proofs.Folds.{any_at, any_push, flat_more}
use Rattle.std.proofs.lemmas.Bool.{or_right as right_true, or_left as left_true}
use Rattle.vs_design.specs.vs_logic4.proofs.Basics.{take_push}
use Rattle.vs_scopes.proofs.AnswerLemmas.{flat_split}
use Rattle.vs_elab_statements.specs.Statements.{AreTypedAt, no_typed, more_typed, operand_fault, label_exprs, common_finding, case_finding, case_fault, is_default, has_two_defaults}
use Rattle.vs_elab_statements.specs.passes.Bodies.{IsCase, Shapes}
use Rattle.vs_design.specs.vs_logic4.proofs.Basics.{or_none}

-- ---- sizes and signs

stands_together : (w : WidthReason) (a b : Finding) → has_width_fault w (together alike a b) ≡ (has_width_fault w a || has_width_fault w b)
stands_together w (Has n g) (Has m h) = refl
stands_together w (Has n g) (Lacks others) = refl
stands_together w (Lacks faults) (Has m h) = sym (or_none (faults w))
stands_together w (Lacks faults) (Lacks others) = refl

-- a fault of expressions of one context is one of theirs
pub stands_common : (w : WidthReason) (env : Environment) (found : Finding) (es : List Expr) → has_width_fault w (common_finding env found es) ≡ (has_width_fault w found || list_any (λ e. has_width_fault w (meant env e).finding) es)
stands_common w env found [] = sym (or_none (has_width_fault w found))
stands_common w env found (e ∷ es) =
    stands_common w env (together alike found (meant env e).finding) es
    ∙ ap (λ b. b || list_any (λ e. has_width_fault w (meant env e).finding) es) (stands_together w found (meant env e).finding)
    ∙ or_assoc (has_width_fault w found) (has_width_fault w (meant env e).finding) (list_any (λ e. has_width_fault w (meant env e).finding) es)

pub common_append : (env : Environment) (found : Finding) (es fs : List Expr) → common_finding env found (es ++ fs) ≡ common_finding env (common_finding env found es) fs
common_append env found [] fs = refl
common_append env found (e ∷ es) fs = common_append env (together alike found (meant env e).finding) es fs

pub found_by : (a b : Finding) (e : WidthFault) → ((w : WidthReason) → has_width_fault w a ≡ true → has_width_fault w b ≡ true) → Found a e → Found b e
found_by a b fault.Memory h k = tt
found_by a b (fault.Refused w) h k = h w k

take_drop : {A : Type 0} (n : ℕ) (xs : List A) → take n xs ++ drop n xs ≡ xs
take_drop zero xs = refl
take_drop (suc n) [] = refl
take_drop (suc n) (x ∷ xs) = ap (λ ys. x ∷ ys) (take_drop n xs)

-- a fault of the first expressions is one of all
pub common_more : (env : Environment) (found : Finding) (es fs gs : List Expr) (e : WidthFault) → es ++ fs ≡ gs → Found (common_finding env found es) e → Found (common_finding env found gs) e
common_more env found es fs gs e i h =
    found_by (common_finding env found es) (common_finding env found gs) e
    (λ w k. ap (λ z. has_width_fault w (common_finding env found z)) (sym i) ∙ ap (has_width_fault w) (common_append env found es fs) ∙ stands_common w env (common_finding env found es) fs ∙ left_true _ _ k) h

-- one expression more
pub common_one : (env : Environment) (found : Finding) (es : List Expr) (i : ℕ) (e : Expr) (a b : Shape) → i < length es → e ≡ get_or es i e → common_finding env found (take i es) ≡ Has a.width a.signed →
    together alike (Has a.width a.signed) (meant env e).finding ≡ Has b.width b.signed → common_finding env found (take (i + 1) es) ≡ Has b.width b.signed
common_one env found es i e a b h k p q =
    ap (common_finding env found) (take_push es i e h k) ∙ common_append env found (take i es) (e ∷ []) ∙ ap (λ z. together alike z (meant env e).finding) p ∙ q

-- an expression that has a fault
pub common_refused : (env : Environment) (found : Finding) (es : List Expr) (i : ℕ) (e : Expr) (a : Shape) (d : WidthFault) → i < length es → e ≡ get_or es i e → common_finding env found (take i es) ≡ Has a.width a.signed →
    Found (together alike (Has a.width a.signed) (meant env e).finding) d → Found (common_finding env found es) d
common_refused env found es i e a d h k p f =
    let first : Found (common_finding env found (take (i + 1) es)) d =
    subst (λ z. Found z d) (sym (ap (common_finding env found) (take_push es i e h k) ∙ common_append env found (take i es) (e ∷ []) ∙ ap (λ z. together alike z (meant env e).finding) p)) f in
    common_more env found (take (i + 1) es) (drop (i + 1) es) es d (take_drop (i + 1) es) first

pub common_all : (env : Environment) (found : Finding) (es : List Expr) (i : ℕ) (a : Shape) → length es ≤ i → common_finding env found (take i es) ≡ Has a.width a.signed → common_finding env found es ≡ Has a.width a.signed
common_all env found es i a h p = ap (common_finding env found) (sym (take_all i es h)) ∙ p

-- ---- labels

-- the expressions of items
abbrev pub exprs_in : List (CaseLabel × Stmt) → List Expr
exprs_in xs = flat_map (λ (x : CaseLabel × Stmt). label_exprs x.0) xs

pub exprs_of : (xs : List (CaseLabel × Stmt)) → flat_map label_exprs (map (λ (x : CaseLabel × Stmt). x.0) xs) ≡ exprs_in xs
exprs_of [] = refl
exprs_of (x ∷ xs) = ap (λ es. label_exprs x.0 ++ es) (exprs_of xs)

-- the labels of one item more
pub label_one : (env : Environment) (found : Finding) (xs : List (CaseLabel × Stmt)) (i : ℕ) (x : CaseLabel × Stmt) (a b : Shape) → i < length xs → x ≡ get_or xs i x → common_finding env found (exprs_in (take i xs)) ≡ Has a.width a.signed →
    common_finding env (Has a.width a.signed) (label_exprs x.0) ≡ Has b.width b.signed → common_finding env found (exprs_in (take (i + 1) xs)) ≡ Has b.width b.signed
label_one env found xs i x a b h k p q =
    ap (common_finding env found) (flat_more (λ (x : CaseLabel × Stmt). label_exprs x.0) xs i x h k) ∙ common_append env found (exprs_in (take i xs)) (label_exprs x.0)
    ∙ ap (λ z. common_finding env z (label_exprs x.0)) p ∙ q

-- an item whose labels have a fault
pub label_refused : (env : Environment) (e : Expr) (xs : List (CaseLabel × Stmt)) (i : ℕ) (x : CaseLabel × Stmt) (a : Shape) (d : WidthFault) → i < length xs → x ≡ get_or xs i x → common_finding env (meant env e).finding (exprs_in (take i xs)) ≡ Has a.width a.signed →
    Found (common_finding env (Has a.width a.signed) (label_exprs x.0)) d → Found (case_finding env e (map (λ (x : CaseLabel × Stmt). x.0) xs)) d
label_refused env e xs i x a d h k p f =
    let found = (meant env e).finding in
    let split = flat_split (λ (x : CaseLabel × Stmt). label_exprs x.0) xs i x h k in
    let whole : (exprs_in (take i xs) ++ label_exprs x.0) ++ split.0 ≡ flat_map label_exprs (map (λ (x : CaseLabel × Stmt). x.0) xs) =
    append_assoc (exprs_in (take i xs)) (label_exprs x.0) split.0 ∙ split.1 ∙ sym (exprs_of xs) in
    let first : Found (common_finding env found (exprs_in (take i xs) ++ label_exprs x.0)) d =
    subst (λ z. Found z d) (sym (common_append env found (exprs_in (take i xs)) (label_exprs x.0) ∙ ap (λ z. common_finding env z (label_exprs x.0)) p)) f in
    common_more env found (exprs_in (take i xs) ++ label_exprs x.0) split.0 (flat_map label_exprs (map (λ (x : CaseLabel × Stmt). x.0) xs)) d whole first

pub label_all : (env : Environment) (e : Expr) (xs : List (CaseLabel × Stmt)) (i : ℕ) (a : Shape) → length xs ≤ i → common_finding env (meant env e).finding (exprs_in (take i xs)) ≡ Has a.width a.signed →
    case_finding env e (map (λ (x : CaseLabel × Stmt). x.0) xs) ≡ Has a.width a.signed
label_all env e xs i a h p = ap (common_finding env (meant env e).finding) (exprs_of xs ∙ ap exprs_in (sym (take_all i xs h))) ∙ p

-- the first expression of a label, and the others
pub first_refused : (env : Environment) (found : Finding) (e : Expr) (es : List Expr) (d : WidthFault) → Found (together alike found (meant env e).finding) d → Found (common_finding env found (e ∷ es)) d
first_refused env found e es d h = common_more env found (e ∷ []) es (e ∷ es) d refl h

pub others_shape : (env : Environment) (found : Finding) (a : Shape) (e : Expr) (es fs : List Expr) (label : CaseLabel) (r : Result Shape WidthFault) → together alike found (meant env e).finding ≡ Has a.width a.signed → fs ≡ es → label_exprs label ≡ e ∷ es →
    Shapes (common_finding env (Has a.width a.signed) fs) r → Shapes (common_finding env found (label_exprs label)) r
others_shape env found a e es fs label r p i j h =
    subst (λ z. Shapes (common_finding env found z) r) (sym j) (subst (λ z. Shapes (common_finding env z es) r) (sym p) (subst (λ z. Shapes (common_finding env (Has a.width a.signed) z) r) i h))

-- ---- `default`

-- whether one more than one of these is a `default`, where one was seen
abbrev pub defaults_left : Bool → List CaseLabel → Bool
defaults_left seen ls = (seen && list_any is_default ls) || has_two_defaults ls

-- ---- the expression of a `case`

pub case_is : (env : Environment) (e : Expr) (ls : List CaseLabel) (s : Shape) (x : Typed) → case_finding env e ls ≡ Has s.width s.signed → has_two_defaults ls ≡ false → IsTypedAs (meant env e) s.width s.signed x →
    ((r : Reason) → case_fault r env e ls ≡ false) × IsCase env e ls s x
case_is env e ls s x p q h = (by, record { found = p; typed = h; defaults = q })
  where
    by : (r : Reason) → case_fault r env e ls ≡ false
    by (Width w) = ap (has_width_fault w) p
    by DeclaredTwice = q
    by NoModule = refl
    by Inside = refl
    by PortMismatch = refl
    by ParameterMismatch = refl
    by DrivenTwice = refl
    by Limit = refl
    by Endless = refl
    by Unnamed = refl
    by Timescales = refl
    by (Format wrong) = refl

pub case_refused : (env : Environment) (e : Expr) (ls : List CaseLabel) (d : WidthFault) → Found (case_finding env e ls) d → Refuses (λ r. case_fault r env e ls) (body_fault d)
case_refused env e ls fault.Memory h = tt
case_refused env e ls (fault.Refused w) h = h

-- a fault of the expression itself is one of all
pub selector_found : (env : Environment) (e : Expr) (xs : List (CaseLabel × Stmt)) (d : WidthFault) → Found (meant env e).finding d → Found (case_finding env e (map (λ (x : CaseLabel × Stmt). x.0) xs)) d
selector_found env e xs d h =
    let es = flat_map label_exprs (map (λ (x : CaseLabel × Stmt). x.0) xs) in
    common_more env (meant env e).finding [] es es d refl h

-- a fault of the expression itself
pub selector_refused : (env : Environment) (e : Expr) (ls : List CaseLabel) (d : WidthFault) → Found (meant env e).finding d → Refuses (λ r. case_fault r env e ls) (body_fault d)
selector_refused env e ls d h = case_refused env e ls d (common_more env (meant env e).finding [] (flat_map label_exprs ls) (flat_map label_exprs ls) d refl h)

-- ---- expressions at a size and a sign

-- expressions that have no fault, as those of a design
pub record ValuesAre (env : Environment) (width : ℕ) (signed : Bool) (es : List Expr) (ys : List Typed) : Type 0 where
  pub sound : (r : Reason) → list_any (operand_fault r env) es ≡ false
  pub means : AreTypedAt env width signed es ys

typed_push : {env : Environment} {width : ℕ} {signed : Bool} (es : List Expr) (ys : List Typed) (e : Expr) (y : Typed) → AreTypedAt env width signed es ys → IsTypedAs (meant env e) width signed y → AreTypedAt env width signed (es ++ e ∷ []) (ys ++ y ∷ [])
typed_push _ _ e y no_typed h = more_typed e y [] [] h no_typed
typed_push _ _ e y (more_typed u z us zs g gs) h = more_typed u z _ _ g (typed_push us zs e y gs h)

-- an expression that has a meaning has no fault
pub operand_sound : (env : Environment) (e : Expr) (width : ℕ) (signed : Bool) (y : Typed) → IsTypedAs (meant env e) width signed y → (r : Reason) → operand_fault r env e ≡ false
operand_sound env e width signed y h (Width w) = h.sound w
operand_sound env e width signed y h NoModule = refl
operand_sound env e width signed y h Inside = refl
operand_sound env e width signed y h PortMismatch = refl
operand_sound env e width signed y h ParameterMismatch = refl
operand_sound env e width signed y h DeclaredTwice = refl
operand_sound env e width signed y h DrivenTwice = refl
operand_sound env e width signed y h Limit = refl
operand_sound env e width signed y h Endless = refl
operand_sound env e width signed y h Unnamed = refl
operand_sound env e width signed y h Timescales = refl
operand_sound env e width signed y h (Format wrong) = refl

values_one : (env : Environment) (width : ℕ) (signed : Bool) (es : List Expr) (ys : List Typed) (e : Expr) (y : Typed) → ValuesAre env width signed es ys → IsTypedAs (meant env e) width signed y → ValuesAre env width signed (es ++ e ∷ []) (ys ++ y ∷ [])
values_one env width signed es ys e y h k = record {
  sound = λ r. any_push (operand_fault r env) es e (h.sound r) (operand_sound env e width signed y k r);
  means = typed_push es ys e y h.means k;
}

pub values_first : (env : Environment) (width : ℕ) (signed : Bool) (e : Expr) (es : List Expr) (y : Typed) (ys zs : List Typed) → ys ≡ [] → zs ≡ ys ++ y ∷ [] → IsTypedAs (meant env e) width signed y → ValuesAre env width signed (e ∷ take 0 es) zs
values_first env width signed e es y ys zs i j h =
    subst (ValuesAre env width signed (e ∷ [])) (sym (j ∙ ap (λ z. z ++ y ∷ []) i)) (values_one env width signed [] [] e y (record { sound = λ r. refl; means = no_typed }) h)

pub values_more : (env : Environment) (width : ℕ) (signed : Bool) (e : Expr) (es : List Expr) (i : ℕ) (x : Expr) (ys zs : List Typed) (y : Typed) → i < length es → x ≡ get_or es i x → zs ≡ ys ++ y ∷ [] → ValuesAre env width signed (e ∷ take i es) ys → IsTypedAs (meant env x) width signed y → ValuesAre env width signed (e ∷ take (i + 1) es) zs
values_more env width signed e es i x ys zs y h k j p q =
    subst (λ z. ValuesAre env width signed z zs) (sym (ap (λ z. e ∷ z) (take_push es i x h k)))
    (subst (ValuesAre env width signed ((e ∷ take i es) ++ x ∷ [])) (sym j) (values_one env width signed (e ∷ take i es) ys x y p q))

pub values_all : (env : Environment) (width : ℕ) (signed : Bool) (e : Expr) (es : List Expr) (i : ℕ) (ys : List Typed) → length es ≤ i → ValuesAre env width signed (e ∷ take i es) ys →
    ((r : Reason) → list_any (operand_fault r env) (e ∷ es) ≡ false) × AreTypedAt env width signed (e ∷ es) ys
values_all env width signed e es i ys h p = let q = subst (λ z. ValuesAre env width signed (e ∷ z) ys) (take_all i es h) p in (q.sound, q.means)

-- an expression that has a fault, among others
pub value_refused : (env : Environment) (e : Expr) (es : List Expr) (i : ℕ) (x : Expr) (d : WidthFault) → i < length es → x ≡ get_or es i x → Found (meant env x).finding d → Refuses (λ r. list_any (operand_fault r env) (e ∷ es)) (body_fault d)
value_refused env e es i x fault.Memory h k f = tt
value_refused env e es i x (fault.Refused w) h k f = right_true (has_width_fault w (meant env e).finding) _ (any_at (operand_fault (Width w) env) es i x h k f)

pub no_values : (env : Environment) (width : ℕ) (signed : Bool) (ys : List Typed) → ys ≡ [] → ((r : Reason) → list_any (operand_fault r env) [] ≡ false) × AreTypedAt env width signed [] ys
no_values env width signed ys h = (λ r. refl, subst (AreTypedAt env width signed []) (sym h) no_typed)
