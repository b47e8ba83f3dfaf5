-- Terms of event controls.
use Rattle.std.proofs.Common.{◌≡◌, ℕ, ◌+◌, ◌<◌, ◌≤◌, Bool, true, false, ◌||◌, List, [], ◌∷◌, ◌++◌, Option, Result, length, map, take, get_or, refl, ap, sym, subst, ◌∙◌, true≢false}
use Rattle.std.specs.List.{list_any}
use Rattle.std.proofs.lemmas.List.{map-append, take_all}
use Rattle.std.specs.declared.boxed.Box.{Box}
use Rattle.std.specs.declared.vec.Vec.{Vec}
use Rattle.std.specs.declared.alloc.Global.{Global}
use Rattle.vs_syntax.specs.declared.tree.Expr.{Expr}
use Rattle.vs_syntax.specs.declared.tree.PartSelect.{PartSelect}
use Rattle.vs_syntax.specs.declared.tree.EventControl.{EventControl}
use Rattle.vs_syntax.specs.declared.tree.EventControl.TheVariants as c
use Rattle.vs_syntax.specs.declared.tree.EventExpr.{EventExpr}
use Rattle.vs_syntax.specs.declared.tree.Separator.{Separator}
use Rattle.vs_design.specs.vs_logic4.specs.declared.edge.Edge.{Edge}
use Rattle.vs_design.specs.vs_logic4.specs.declared.edge.Edge.TheVariants.{Any}
use Rattle.vs_design.specs.declared.statement.Statement.{Statement}
use Rattle.vs_design.specs.Statements.{statement_reads}
use Rattle.vs_widths.specs.Expressions.{meant_selects}
use Rattle.vs_design.specs.declared.expression.Slice.{Slice}
use Rattle.vs_design.specs.declared.range.BitRange.{BitRange}
use Rattle.vs_design.specs.declared.statement.Aim.{Aim}
use Rattle.vs_design.specs.declared.statement.Aim.TheVariants.{Fixed, Chosen}
use Rattle.vs_design.specs.declared.statement.EventTerm.{EventTerm}
use Rattle.vs_design.specs.declared.statement.Target.{Target}
use Rattle.vs_scopes.specs.vs_widths.specs.Each.{Each, each_none, each_more}
use Rattle.vs_scopes.specs.vs_widths.specs.declared.bindings.Binding.{Binding}
use Rattle.vs_scopes.specs.vs_widths.specs.declared.faults.WidthReason.{WidthReason}
use Rattle.vs_scopes.specs.vs_widths.specs.Environment.{Environment}
use Rattle.vs_scopes.specs.vs_widths.specs.Findings.{has_width_fault}
use Rattle.vs_scopes.specs.vs_widths.specs.Selects.{Select, Named}
use Rattle.vs_widths.specs.declared.kinds.AssignmentKind.TheVariants.{Event}
use Rattle.vs_widths.specs.Lefts.{Aimed, name_aimed, takes_reads}
use Rattle.vs_widths.specs.Aiming.{IsPlace, IsTarget, is_none_read}
use Rattle.vs_scopes.specs.declared.faults.Reason.{Reason}
use Rattle.vs_scopes.specs.declared.faults.Reason.TheVariants.{NoModule, Inside, PortMismatch, ParameterMismatch, DeclaredTwice, DrivenTwice, Limit, Width, Endless, Unnamed, Timescales, Format}
use Rattle.vs_scopes.specs.declared.faults.BodyFault.{BodyFault}
use Rattle.vs_scopes.specs.scopes_passes.Answers.{Refuses, Elaborates}
use Rattle.vs_scopes.specs.scopes_passes.Sizes.{width_faults}
use Rattle.vs_scopes.proofs.Folds.{any_at, any_push}
use Rattle.vs_design.specs.vs_logic4.proofs.Basics.{take_push}
use Rattle.vs_scopes.proofs.AnswerLemmas.{refused_by, answered_by}
use Rattle.vs_scopes.proofs.SizeLemmas.{no_faults}
use Rattle.vs_elab_statements.specs.Statements.{IsTerm, AreTerms, no_terms, more_terms, AreEvents, are_star, are_grouped, are_name, are_terms, event_aimed, events_aimed, event_fault, level_term, watched}
use Rattle.vs_elab_statements.specs.passes.Bodies.{IsAlone, terms_fault}

-- ---- places

constant_place : (n : Named) (a : Aim) → takes_reads Event n.reads ≡ true → (rs : List BitRange) → takes_reads Event rs ≡ true → is_none_read rs ≡ true
constant_place n a h [] k = refl
constant_place n a h (r ∷ rs) k = k

alone_in : (env : Environment) (n : Named) (aims : List Aim) → Each (IsPlace Event env) (n ∷ []) aims → (place : Slice) × (aims ≡ Fixed place ∷ [])
alone_in env _ _ (each_more n (Fixed s) _ _ p each_none) = (s, refl)
alone_in env _ _ (each_more n (Chosen s word low) _ _ p each_none) =
    absurd (true≢false (sym (constant_place n (Chosen s word low) p.constant n.reads p.constant) ∙ sym p.fixed))

-- what an event control names has one place, by constant selects
pub alone_place : (env : Environment) (b : Option Binding) (ss : List Select) (t : Target) → IsTarget Event env (name_aimed Event b ss) t → IsAlone t
alone_place env b ss t h = alone_in env _ t.parts.items h.places

-- the term of what is named
pub term_is : (env : Environment) (edge : Edge) (b : Option Binding) (ss : List Select) (t : Target) (y : EventTerm) → IsTarget Event env (name_aimed Event b ss) t →
    ((place : Slice) → t.parts.items ≡ Fixed place ∷ [] → y ≡ record { edge = edge; range = watched edge place }) →
    ((r : Reason) → width_faults (λ w. has_width_fault w (name_aimed Event b ss).finding) r ≡ false) × IsTerm env edge (name_aimed Event b ss) y
term_is env edge b ss t y h f =
    let p = alone_place env b ss t h in
    let is : y ≡ record { edge = edge; range = watched edge p.0 } = f p.0 p.1 in (
      no_faults (λ w. has_width_fault w (name_aimed Event b ss).finding) (λ w. ap (has_width_fault w) h.found),
      record { place = p.0; target = t; named = h; alone = p.1; edge_is = ap (λ (z : EventTerm). z.edge) is; range = ap (λ (z : EventTerm). z.range) is },
    )

-- ---- several

-- a fault of a size is one of another where each reason is
pub widths_by : (f g : WidthReason → Bool) → ((w : WidthReason) → f w ≡ true → g w ≡ true) → (r : Reason) → width_faults f r ≡ true → width_faults g r ≡ true
widths_by f g h (Width w) k = h w k
widths_by f g h NoModule k = k
widths_by f g h Inside k = k
widths_by f g h PortMismatch k = k
widths_by f g h ParameterMismatch k = k
widths_by f g h DeclaredTwice k = k
widths_by f g h DrivenTwice k = k
widths_by f g h Limit k = k
widths_by f g h Endless k = k
widths_by f g h Unnamed k = k
widths_by f g h Timescales k = k
widths_by f g h (Format wrong) k = k

-- a term that has no fault
abbrev pub TermIs : Environment → EventExpr → EventTerm → Type 0
TermIs env t y = ((r : Reason) → width_faults (λ w. has_width_fault w (event_aimed env t).finding) r ≡ false) × IsTerm env t.edge (event_aimed env t) y

-- terms that have no fault
pub record TermsAre (env : Environment) (ts : List EventExpr) (ys : List EventTerm) : Type 0 where
  pub sound : (r : Reason) → terms_fault env ts r ≡ false
  pub means : AreTerms env ts ys

terms_push : {env : Environment} (ts : List EventExpr) (ys : List EventTerm) (t : EventExpr) (y : EventTerm) → AreTerms env ts ys → IsTerm env t.edge (event_aimed env t) y → AreTerms env (ts ++ t ∷ []) (ys ++ y ∷ [])
terms_push _ _ t y no_terms h = more_terms t y [] [] h no_terms
terms_push _ _ t y (more_terms u z us zs g gs) h = more_terms u z _ _ g (terms_push us zs t y gs h)

terms_one : (env : Environment) (ts : List EventExpr) (ys : List EventTerm) (t : EventExpr) (y : EventTerm) → TermsAre env ts ys → TermIs env t y → TermsAre env (ts ++ t ∷ []) (ys ++ y ∷ [])
terms_one env ts ys t y h k = record {
  sound = no_faults (λ w. list_any (λ (a : Aimed). has_width_fault w a.finding) (map (event_aimed env) (ts ++ t ∷ [])))
      (λ w. ap (list_any (λ (a : Aimed). has_width_fault w a.finding)) (map-append (event_aimed env) ts (t ∷ [])) ∙ any_push (λ (a : Aimed). has_width_fault w a.finding) (map (event_aimed env) ts) (event_aimed env t) (h.sound (Width w)) (k.0 (Width w)));
  means = terms_push ts ys t y h.means k.1;
}

-- the first terms of an event control
abbrev pub first_terms : EventExpr → List (Separator × EventExpr) → ℕ → List EventExpr
first_terms t xs i = t ∷ map (λ (x : Separator × EventExpr). x.1) (take i xs)

pub terms_first : (env : Environment) (t : EventExpr) (xs : List (Separator × EventExpr)) (y : EventTerm) (ys zs : List EventTerm) → ys ≡ [] → zs ≡ ys ++ y ∷ [] → TermIs env t y → TermsAre env (first_terms t xs 0) zs
terms_first env t xs y ys zs e f h =
    subst (TermsAre env (t ∷ [])) (sym (f ∙ ap (λ z. z ++ y ∷ []) e)) (terms_one env [] [] t y (record { sound = no_faults (λ w. false) (λ w. refl); means = no_terms }) h)

pub terms_more : (env : Environment) (t : EventExpr) (xs : List (Separator × EventExpr)) (i : ℕ) (x : Separator × EventExpr) (ys zs : List EventTerm) (y : EventTerm) → i < length xs → x ≡ get_or xs i x → zs ≡ ys ++ y ∷ [] → TermsAre env (first_terms t xs i) ys → TermIs env x.1 y → TermsAre env (first_terms t xs (i + 1)) zs
terms_more env t xs i x ys zs y h k e p q =
    let second : Separator × EventExpr → EventExpr = λ z. z.1 in
    let is : first_terms t xs (i + 1) ≡ first_terms t xs i ++ x.1 ∷ [] = ap (λ z. t ∷ map second z) (take_push xs i x h k) ∙ ap (λ z. t ∷ z) (map-append second (take i xs) (x ∷ [])) in
    subst (λ z. TermsAre env z zs) (sym is) (subst (TermsAre env (first_terms t xs i ++ x.1 ∷ [])) (sym e) (terms_one env (first_terms t xs i) ys x.1 y p q))

pub terms_all : (env : Environment) (t : EventExpr) (xs : List (Separator × EventExpr)) (i : ℕ) (ys : List EventTerm) → length xs ≤ i → TermsAre env (first_terms t xs i) ys →
    ((r : Reason) → terms_fault env (t ∷ map (λ (x : Separator × EventExpr). x.1) xs) r ≡ false) × AreTerms env (t ∷ map (λ (x : Separator × EventExpr). x.1) xs) ys
terms_all env t xs i ys h p =
    let q = subst (λ z. TermsAre env (t ∷ map (λ (x : Separator × EventExpr). x.1) z) ys) (take_all i xs h) p in
    (q.sound, q.means)

any_of : (w : WidthReason) (env : Environment) (xs : List (Separator × EventExpr)) → list_any (λ (a : Aimed). has_width_fault w a.finding) (map (event_aimed env) (map (λ (x : Separator × EventExpr). x.1) xs)) ≡ list_any (λ (x : Separator × EventExpr). has_width_fault w (event_aimed env x.1).finding) xs
any_of w env [] = refl
any_of w env (x ∷ xs) = ap (λ b. has_width_fault w (event_aimed env x.1).finding || b) (any_of w env xs)

pub term_refused : (env : Environment) (t : EventExpr) (xs : List (Separator × EventExpr)) (i : ℕ) (x : Separator × EventExpr) (e : BodyFault) → i < length xs → x ≡ get_or xs i x → Refuses (width_faults (λ w. has_width_fault w (event_aimed env x.1).finding)) e → Refuses (terms_fault env (t ∷ map (λ (x : Separator × EventExpr). x.1) xs)) e
term_refused env t xs i x e h k f =
    refused_by (width_faults (λ w. has_width_fault w (event_aimed env x.1).finding)) (terms_fault env (t ∷ map (λ (x : Separator × EventExpr). x.1) xs)) e
    (widths_by (λ w. has_width_fault w (event_aimed env x.1).finding) (λ w. list_any (λ (a : Aimed). has_width_fault w a.finding) (map (event_aimed env) (t ∷ map (λ (x : Separator × EventExpr). x.1) xs)))
    (λ w u. by w (has_width_fault w (event_aimed env t).finding) (any_of w env xs ∙ any_at (λ (x : Separator × EventExpr). has_width_fault w (event_aimed env x.1).finding) xs i x h k u))) f
  where
    by : (w : WidthReason) (b : Bool) → list_any (λ (a : Aimed). has_width_fault w a.finding) (map (event_aimed env) (map (λ (x : Separator × EventExpr). x.1) xs)) ≡ true → (b || list_any (λ (a : Aimed). has_width_fault w a.finding) (map (event_aimed env) (map (λ (x : Separator × EventExpr). x.1) xs))) ≡ true
    by w true u = refl
    by w false u = u

-- the term of a name with its selects
pub term_of : (env : Environment) (t : EventExpr) (n : List ℕ) (ss : List (Expr × Option (PartSelect × Expr))) (u : Target) (y : EventTerm) → n ≡ t.name.items → ss ≡ t.selects.items → IsTarget Event env (name_aimed Event (env n) (meant_selects env ss)) u →
    ((place : Slice) → u.parts.items ≡ Fixed place ∷ [] → y ≡ record { edge = t.edge; range = watched t.edge place }) → TermIs env t y
term_of env t n ss u y i j h f =
    let named : IsTarget Event env (event_aimed env t) u =
    subst (λ z. IsTarget Event env (name_aimed Event (env z) (meant_selects env t.selects.items)) u) i (subst (λ z. IsTarget Event env (name_aimed Event (env n) (meant_selects env z)) u) j h) in
    term_is env t.edge (env t.name.items) (meant_selects env t.selects.items) u y named f

-- ---- event controls

events_sound : (env : Environment) (e : EventControl) → ((w : WidthReason) → list_any (λ (a : Aimed). has_width_fault w a.finding) (events_aimed env e) ≡ false) → (r : Reason) → event_fault r env e ≡ false
events_sound env e h (Width w) = h w
events_sound env e h NoModule = refl
events_sound env e h Inside = refl
events_sound env e h PortMismatch = refl
events_sound env e h ParameterMismatch = refl
events_sound env e h DeclaredTwice = refl
events_sound env e h DrivenTwice = refl
events_sound env e h Limit = refl
events_sound env e h Endless = refl
events_sound env e h Unnamed = refl
events_sound env e h Timescales = refl
events_sound env e h (Format wrong) = refl

-- an event control without faults, with its terms
abbrev pub EventsAre : Environment → Statement → EventControl → List EventTerm → Type 0
EventsAre env body e ys = ((r : Reason) → event_fault r env e ≡ false) × AreEvents env body e ys

pub events_star : (env : Environment) (body : Statement) (ys : List EventTerm) → ys ≡ map level_term (statement_reads body) → EventsAre env body c.Star ys
events_star env body ys h = (events_sound env c.Star (λ w. refl), subst (AreEvents env body c.Star) (sym h) are_star)

pub events_grouped : (env : Environment) (body : Statement) (ys : List EventTerm) → ys ≡ map level_term (statement_reads body) → EventsAre env body c.GroupedStar ys
events_grouped env body ys h = (events_sound env c.GroupedStar (λ w. refl), subst (AreEvents env body c.GroupedStar) (sym h) are_grouped)

pub events_name : (env : Environment) (body : Statement) (n : Vec ℕ Global) (m : List ℕ) (y : EventTerm) (ys zs : List EventTerm) → m ≡ n.items → ys ≡ [] → zs ≡ ys ++ y ∷ [] →
    ((r : Reason) → width_faults (λ w. has_width_fault w (name_aimed Event (env m) []).finding) r ≡ false) × IsTerm env Any (name_aimed Event (env m) []) y → EventsAre env body (c.Name n) zs
events_name env body n m y ys zs i j k h =
    let one : IsTerm env Any (name_aimed Event (env n.items) []) y = subst (λ z. IsTerm env Any (name_aimed Event (env z) []) y) i h.1 in (
      events_sound env (c.Name n) (λ w. ap (λ z. has_width_fault w (name_aimed Event (env z) []).finding || false) (sym i) ∙ ap (λ b. b || false) (h.0 (Width w))),
      subst (AreEvents env body (c.Name n)) (sym (k ∙ ap (λ z. z ++ y ∷ []) j)) (are_name n y one),
    )

pub events_terms : (env : Environment) (body : Statement) (t : Box EventExpr Global) (ts : Vec (Separator × EventExpr) Global) (xs : List (Separator × EventExpr)) (r : Result (Vec EventTerm Global) BodyFault) → xs ≡ ts.items →
    Elaborates (terms_fault env (t.value ∷ map (λ (x : Separator × EventExpr). x.1) xs)) (λ v. AreTerms env (t.value ∷ map (λ (x : Separator × EventExpr). x.1) xs) v.items) r →
    Elaborates (λ r. event_fault r env (c.Terms t ts)) (λ v. AreEvents env body (c.Terms t ts) v.items) r
events_terms env body t ts xs r i h =
    let second : Separator × EventExpr → EventExpr = λ x. x.1 in
    answered_by (terms_fault env (t.value ∷ map second ts.items)) (λ r. event_fault r env (c.Terms t ts)) (λ v. AreTerms env (t.value ∷ map second ts.items) v.items) (λ v. AreEvents env body (c.Terms t ts) v.items) r
    (λ v u m. (events_sound env (c.Terms t ts) (λ w. u (Width w)), are_terms t ts v.items m)) by
    (subst (λ z. Elaborates (terms_fault env (t.value ∷ map second z)) (λ v. AreTerms env (t.value ∷ map second z) v.items) r) i h)
  where
    by : (q : Reason) → terms_fault env (t.value ∷ map (λ (x : Separator × EventExpr). x.1) ts.items) q ≡ true → event_fault q env (c.Terms t ts) ≡ true
    by (Width w) u = u
    by NoModule u = u
    by Inside u = u
    by PortMismatch u = u
    by ParameterMismatch u = u
    by DeclaredTwice u = u
    by DrivenTwice u = u
    by Limit u = u
    by Endless u = u
    by Unnamed u = u
    by Timescales u = u
    by (Format wrong) u = u
