-- Declarations that close what they open are those of a dump, and no others.
use Rattle.std.proofs.Common.{◌≡◌, ℕ, zero, suc, ◌<◌, ◌≤◌, Bool, true, false, List, [], ◌∷◌, ◌++◌, length, refl, sym, ap, subst, ◌∙◌, append_assoc, arith}
use Rattle.std.proofs.lemmas.Bool.{false≢true, and_parts}
use Rattle.vs_design.specs.declared.design.ScopeKind.TheVariants.{Module}
use Rattle.vs_vcd_reader.specs.Plain.{PlainDeclaration}
use Rattle.vs_vcd_reader.specs.Plain.{PlainDeclaration as d}
use Rattle.vs_vcd_reader.specs.Layout.{AreVariables, AreScopes, AreDeclared}
use Rattle.vs_vcd_reader.specs.Layout.{AreVariables as v, AreScopes as s}
use Rattle.vs_vcd_reader.specs.Walks.{closes, AreGood}

-- ---- those of a dump close

closes_variables : (depth : ℕ) (own rest : List PlainDeclaration) → AreVariables own → closes (suc depth) true (own ++ rest) ≡ closes (suc depth) true rest
closes_variables depth _ rest v.none = refl
closes_variables depth _ rest (v.more x ds h more) = closes_variables depth ds rest more

closes_scopes : (depth : ℕ) (own : Bool) (ds rest : List PlainDeclaration) → AreScopes ds → closes (suc depth) own (ds ++ (d.Upscope ∷ rest)) ≡ closes depth false rest
closes_scopes depth own _ rest s.none = refl
closes_scopes depth own _ rest (s.more kind name vs inner others named variables scopes more) =
    ap (closes (suc (suc depth)) true)
    (append_assoc (vs ++ inner) (d.Upscope ∷ others) (d.Upscope ∷ rest) ∙ append_assoc vs inner (d.Upscope ∷ (others ++ (d.Upscope ∷ rest))))
    ∙ closes_variables (suc depth) vs (inner ++ (d.Upscope ∷ (others ++ (d.Upscope ∷ rest)))) variables
    ∙ closes_scopes (suc depth) true inner (others ++ (d.Upscope ∷ rest)) scopes
    ∙ closes_scopes depth false others rest more

-- what stands after the line of the top module closes it
pub declared_closes : (own inner : List PlainDeclaration) → AreVariables own → AreScopes inner → closes 1 true (own ++ inner ++ d.Upscope ∷ []) ≡ true
declared_closes own inner variables scopes =
    ap (closes 1 true) (append_assoc own inner (d.Upscope ∷ []))
    ∙ closes_variables 0 own (inner ++ (d.Upscope ∷ [])) variables ∙ closes_scopes 0 true inner [] scopes

-- ---- what closes is of a dump

-- the innermost open scope closes: its variables, where there may be some, its scopes, and what stands after its end
record IsWalked (depth : ℕ) (own : Bool) (ds : List PlainDeclaration) : Type 0 where
  pub variables : List PlainDeclaration
  pub scopes : List PlainDeclaration
  pub rest : List PlainDeclaration
  pub declared : AreVariables variables
  pub inner : AreScopes scopes
  pub is : ds ≡ (variables ++ scopes) ++ (d.Upscope ∷ rest)
  pub none : own ≡ false → variables ≡ []
  pub closed : closes depth false rest ≡ true
  pub good : AreGood rest
  pub shorter : length rest < length ds

walked : (n depth : ℕ) (own : Bool) (ds : List PlainDeclaration) → length ds ≤ n → AreGood ds → closes (suc depth) own ds ≡ true → IsWalked depth own ds
walked n depth own [] size good h = absurd (false≢true h)
walked zero depth own (x ∷ ds) size good h = absurd (omega (arith, size))
walked (suc n) depth own (d.Upscope ∷ ds) size good h = record {
  variables = [];
  scopes = [];
  rest = ds;
  declared = v.none;
  inner = s.none;
  is = refl;
  none = λ _. refl;
  closed = h;
  good = good.1;
  shorter = omega arith;
}
walked (suc n) depth own (d.Variable x ∷ ds) size good h =
    let both = and_parts own (closes (suc depth) true ds) h in
    let w = walked n depth true ds (omega (arith, size)) good.1 both.1 in
    let less = w.shorter in
    record {
      variables = d.Variable x ∷ w.variables;
      scopes = w.scopes;
      rest = w.rest;
      declared = v.more x w.variables good.0 w.declared;
      inner = w.inner;
      is = ap (λ l. d.Variable x ∷ l) w.is;
      none = λ e. absurd (false≢true (sym e ∙ both.0));
      closed = w.closed;
      good = w.good;
      shorter = omega (arith, less);
    }
walked (suc n) depth own (d.Scope kind name ∷ ds) size good h =
    let w = walked n (suc depth) true ds (omega (arith, size)) good.1 h in
    let less = w.shorter in
    let u = walked n depth false w.rest (omega (arith, size, less)) w.good w.closed in
    let fewer = u.shorter in
    let after : w.rest ≡ u.scopes ++ (d.Upscope ∷ u.rest) = u.is ∙ ap (λ l. (l ++ u.scopes) ++ (d.Upscope ∷ u.rest)) (u.none refl) in
    record {
      variables = [];
      scopes = d.Scope kind name ∷ w.variables ++ w.scopes ++ d.Upscope ∷ u.scopes;
      rest = u.rest;
      declared = v.none;
      inner = s.more kind name w.variables w.scopes u.scopes good.0 w.declared w.inner u.inner;
      is =
          ap (λ l. d.Scope kind name ∷ l)
          (w.is ∙ ap (λ l. (w.variables ++ w.scopes) ++ (d.Upscope ∷ l)) after
          ∙ sym (append_assoc (w.variables ++ w.scopes) (d.Upscope ∷ u.scopes) (d.Upscope ∷ u.rest)));
      none = λ _. refl;
      closed = u.closed;
      good = u.good;
      shorter = omega (arith, less, fewer);
    }

nothing_left : (rest : List PlainDeclaration) → closes 0 false rest ≡ true → rest ≡ []
nothing_left [] h = refl
nothing_left (x ∷ ds) h = absurd (false≢true h)

pub closed_is_declared : (ds : List PlainDeclaration) (rest : List PlainDeclaration) (name : List ℕ) → ds ≡ d.Scope Module name ∷ rest → AreGood ds → closes 1 true rest ≡ true → AreDeclared ds
closed_is_declared ds rest name is good h =
    let here = subst AreGood is good in
    let w = walked (length rest) 0 true rest (omega arith) here.1 h in
    record {
      name = name;
      own = w.variables;
      inner = w.scopes;
      named = here.0;
      variables = w.declared;
      scopes = w.inner;
      are = is ∙ ap (λ l. d.Scope Module name ∷ l) (w.is ∙ ap (λ l. (w.variables ++ w.scopes) ++ (d.Upscope ∷ l)) (nothing_left w.rest w.closed));
    }
