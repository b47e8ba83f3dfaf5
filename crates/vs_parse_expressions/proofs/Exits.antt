-- Exits that each function has.
use Rattle.std.specs.Prelude.{◌≡◌, ℕ, ◌<◌, true, false, Bool, List, Result, Ok, Err, IfOk}
use Rattle.std.proofs.Common.{ap, sym, ◌∙◌, subst}
use Rattle.vs_syntax.specs.Symbols.{Symbol, Class, first}
use Rattle.vs_syntax.specs.Grammar.{Nonterminal, Grammar, part}
use Rattle.vs_syntax.specs.Tables.{fronts, fronts_of, among, need, goes}
use Rattle.vs_syntax.specs.Derivation.{height}
use Rattle.vs_syntax.specs.Reading.{Stuck, stuck_deep}
use Rattle.vs_syntax.specs.Views.{expr_tree}
use Rattle.vs_parse_expressions.specs.declared.expression.Nested.{Nested}
use Rattle.vs_parse_expressions.specs.declared.reading.ReadFault.{ReadFault}
use Rattle.vs_parse_expressions.specs.declared.reading.ReadFault.TheVariants as stop
use Rattle.vs_parse_expressions.specs.Answers.{seen, FailsToRead, Nests, Measured}

-- an inner part stopped, so the outer one does
pub fails_by : (a b : Grammar) (r r' : ℕ) (ts ts' : List Symbol) → ((deep : Bool) (at : List Symbol) → Stuck a r deep ts at → Stuck b r' deep ts' at) → (e : ReadFault) → FailsToRead a r ts e → FailsToRead b r' ts' e
fails_by a b r r' ts ts' f stop.Memory p = tt
fails_by a b r r' ts ts' f (stop.Unexpected at) p = f false (seen at.now) p
fails_by a b r r' ts ts' f (stop.TooDeep at) p = f true (seen at.now) p

-- a part whose first token has no depth
pub deep_at : (p : Nonterminal) (depth : ℕ) (ts : List Symbol) (c : Class) → first ts ≡ c → among c (fronts_of p) ≡ true → depth < need c (fronts_of p) → Stuck (part p) depth true ts ts
deep_at p depth ts c e h n = stuck_deep (ap (λ u. among u (fronts_of p)) e ∙ h) (subst (λ (u : Class). depth < need u (fronts_of p)) (sym e) n)

-- whether the next token can begin the part, by its class
pub goes_at : (g : Grammar) (ts : List Symbol) (c : Class) (b : Bool) → first ts ≡ c → among c (fronts g) ≡ b → goes g ts ≡ b
goes_at g ts c b e h = ap (λ u. among u (fronts g)) e ∙ h

-- an expression that was read, and its nesting
pub measured_by : (a : Grammar) (depth : ℕ) (ts : List Symbol) (r : Result Nested ReadFault) → Nests a depth ts r → IfOk r (λ x. x.height ≡ height (expr_tree x.tree)) → Measured a depth ts r
measured_by a depth ts (Ok x) p h = (p, h)
measured_by a depth ts (Err e) p h = p
