-- Outlines open and close scopes as dumps do.
use Rattle.std.proofs.Common.{◌≡◌, ℕ, zero, suc, Bool, true, false, Option, Some, None, List, [], ◌∷◌, ◌++◌, cond, refl, sym, ap, subst, ◌∙◌, append_assoc}
use Rattle.std.proofs.lemmas.Bool.{cond_both}
use Rattle.std.proofs.lemmas.Grind.{flat_map-append}
use Rattle.std.proofs.lemmas.Option.{none-some, same_Some}
use Rattle.std.specs.Prelude.{slice_get}
use Rattle.std.specs.List.{flat_map}
use Rattle.vs_syntax.specs.declared.tree.Module.{Module}
use Rattle.vs_design.specs.declared.design.ScopeKind.{ScopeKind}
use Rattle.vs_design.specs.declared.design.ScopeKind.TheVariants as k
use Rattle.vs_design.specs.declared.signal.Signal.{Signal}
use Rattle.vs_design.specs.Parts.{Parts}
use Rattle.vs_elaborate.specs.vs_scopes.specs.Generate.{Inner}
use Rattle.vs_elaborate.specs.vs_scopes.specs.Printed.{printed_part}
use Rattle.vs_elaborate.specs.vs_scopes.specs.Scopes.{Scope, Before, before_following, declarations_of, has_no_values, inner_of, of_opened, nowhere, opened, opened_top, scopes_within, top_scope, within_first}
use Rattle.vs_elab_signals.specs.Outlines.{Line, declare, enter, leave, declare_from, outline_around, outline_below, outline_within}
use Rattle.vs_vcd_lines.specs.Names.{IsScopeName}
use Rattle.vs_vcd_lines.specs.vs_vcd_writing.specs.Codes.{is_array}
use Rattle.vs_vcd_reader.specs.Plain.{PlainDeclaration}
use Rattle.vs_vcd_reader.specs.Plain.{PlainDeclaration as p}
use Rattle.vs_vcd_reader.specs.Layout.{AreDeclared, AreScopes, AreVariables, IsPlainVariable}
use Rattle.vs_vcd_reader.specs.Layout.{AreScopes as z, AreVariables as v}
use Rattle.vs_vcd_reader.specs.Said.{said_of, variable_of}

-- what a dump says of a line
abbrev pub said_line : Parts → Line → List PlainDeclaration
said_line d (enter kind name) = p.Scope kind name ∷ []
said_line d (declare i) = said_of (slice_get d.signals i)
said_line d leave = p.Upscope ∷ []

abbrev pub said : Parts → List Line → List PlainDeclaration
said d ls = flat_map (said_line d) ls

-- a line that opens a scope has a name as it is printed
abbrev pub IsNamed : Line → Type 0
IsNamed (enter kind name) = IsScopeName kind name
IsNamed (declare i) = Unit {0}
IsNamed leave = Unit {0}

abbrev pub AreNamed : List Line → Type 0
AreNamed [] = Unit {0}
AreNamed (l ∷ ls) = IsNamed l × AreNamed ls

named_parts : (xs ys : List Line) → AreNamed (xs ++ ys) → AreNamed xs × AreNamed ys
named_parts [] ys h = (tt, h)
named_parts (x ∷ xs) ys h = let parts = named_parts xs ys h.1 in ((h.0, parts.0), parts.1)

-- each signal is a variable of a dump
abbrev pub AreGood : Parts → Type 0
AreGood d = (i : ℕ) (s : Signal) → slice_get d.signals i ≡ Some s → IsPlainVariable (variable_of s)

-- ---- one scope

said_variables : (o : Option Signal) (ds : List PlainDeclaration) → ((s : Signal) → o ≡ Some s → IsPlainVariable (variable_of s)) → AreVariables ds
    → AreVariables (said_of o ++ ds)
said_variables None ds good more = more
said_variables (Some s) ds good more =
    cond_both (is_array s) [] (p.Variable (variable_of s) ∷ []) (λ l. AreVariables (l ++ ds)) (λ e. more) (λ e. v.more (variable_of s) ds (good s refl) more)

own_variables : {A : Type 0} (d : Parts) (base : ℕ) (xs : List A) → AreGood d → AreVariables (said d (declare_from base xs))
own_variables d base [] good = v.none
own_variables d base (x ∷ xs) good =
    said_variables (slice_get d.signals base) (said d (declare_from (suc base) xs)) (λ s e. good base s e) (own_variables d (suc base) xs good)

-- the lines of one scope of this kind
pub record IsOneScope (kind : ScopeKind) (ds : List PlainDeclaration) : Type 0 where
  pub name : List ℕ
  pub own : List PlainDeclaration
  pub inner : List PlainDeclaration
  pub named : IsScopeName kind name
  pub variables : AreVariables own
  pub scopes : AreScopes inner
  pub are : ds ≡ p.Scope kind name ∷ own ++ inner ++ p.Upscope ∷ []

inside_named : (s : Scope) (ls : List Line) → AreNamed (outline_around s ls) → AreNamed ls
inside_named s ls h =
    let own = declare_from s.base (declarations_of s) in
    (named_parts own ls (named_parts (own ++ ls) (leave ∷ []) h.1).0).1

around_nested : (d : Parts) (s : Scope) (ls : List Line) → AreGood d → AreNamed (outline_around s ls) → AreScopes (said d ls)
    → IsOneScope s.kind (said d (outline_around s ls))
around_nested d s ls good h inside =
    let own = declare_from s.base (declarations_of s) in
    record {
      name = printed_part s.title;
      own = said d own;
      inner = said d ls;
      named = h.0;
      variables = own_variables d s.base (declarations_of s) good;
      scopes = inside;
      are = ap (λ l. p.Scope s.kind (printed_part s.title) ∷ l)
          (flat_map-append (said_line d) (own ++ ls) (leave ∷ []) ∙ ap (λ l. l ++ p.Upscope ∷ []) (flat_map-append (said_line d) own ls));
    }

-- ---- the scopes that instances and blocks open

module _ (d : Parts) (ms : List Module) (f : Scope → List Scope) (g : Scope → List Line) (inside : (t : Scope) → AreNamed (g t) → IsOneScope t.kind (said d (g t))) (s : Scope) where
  one_more : (o : Option Scope) (ds : List PlainDeclaration) → AreNamed (of_opened g o) → AreScopes ds → AreScopes (said d (of_opened g o) ++ ds)
  one_more None ds h more = more
  one_more (Some t) ds h more =
      let one = inside t h in
      subst AreScopes
      (sym (ap (λ l. l ++ ds) one.are ∙ ap (λ l. p.Scope t.kind one.name ∷ l) (append_assoc (one.own ++ one.inner) (p.Upscope ∷ []) ds)))
      (z.more t.kind one.name one.own one.inner ds one.named one.variables one.scopes more)

  below_nested : (at : Before) (xs : List Inner) → AreNamed (outline_below ms f g s at xs) → AreScopes (said d (outline_below ms f g s at xs))
  below_nested at [] h = z.none
  below_nested at (x ∷ xs) h =
      let o = opened ms s at x in
      let next = before_following at (of_opened f o) in
      let lines = outline_below ms f g s next xs in
      let parts = named_parts (of_opened g o) lines h in
      subst AreScopes (sym (flat_map-append (said_line d) (of_opened g o) lines)) (one_more o (said d lines) parts.0 (below_nested next xs parts.1))

pub within_nested : (d : Parts) (n : ℕ) (ms : List Module) (s : Scope) → AreGood d → AreNamed (outline_within n ms s) → IsOneScope s.kind (said d (outline_within n ms s))
within_nested d zero ms s good h = around_nested d s [] good h z.none
within_nested d (suc n) ms s good h =
    let lines = outline_below ms (scopes_within n ms) (outline_within n ms) s (within_first s) (inner_of s) in
    around_nested d s lines good h
    (below_nested d ms (scopes_within n ms) (outline_within n ms) (λ t named. within_nested d n ms t good named) s (within_first s) (inner_of s) (inside_named s lines h))

-- ---- the top

top_kind : (b nets : Bool) (m : Module) (t : Scope) → cond b None (Some (top_scope nets m)) ≡ Some t → t.kind ≡ k.Module
top_kind true nets m t e = absurd (none-some t e)
top_kind false nets m t e = ap (λ (s : Scope). s.kind) (sym (same_Some (top_scope nets m) t e))

opened_kind : (nets : Bool) (o : Option Module) (t : Scope) → opened_top nets o ≡ Some t → t.kind ≡ k.Module
opened_kind nets None t e = absurd (none-some t e)
opened_kind nets (Some m) t e = top_kind (has_no_values nowhere None m) nets m t e

one_is_declared : (kind : ScopeKind) (ds : List PlainDeclaration) → kind ≡ k.Module → IsOneScope kind ds → AreDeclared ds
one_is_declared kind ds e h =
    let one = subst (λ x. IsOneScope x ds) e h in
    record { name = one.name; own = one.own; inner = one.inner; named = one.named; variables = one.variables; scopes = one.scopes; are = one.are }

pub top_declared : (d : Parts) (n : ℕ) (ms : List Module) (nets : Bool) (o : Option Module) (t : Option Scope) → opened_top nets o ≡ t → AreGood d
    → AreNamed (of_opened (outline_within n ms) t) → (t ≡ None → ⊥) → AreDeclared (said d (of_opened (outline_within n ms) t))
top_declared d n ms nets o None e good h some = absurd (some refl)
top_declared d n ms nets o (Some t) e good h some =
    one_is_declared t.kind (said d (outline_within n ms t)) (opened_kind nets o t e) (within_nested d n ms t good h)
