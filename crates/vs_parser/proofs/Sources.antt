-- How modules and directives make a source, and where it stops.
use Rattle.std.specs.Prelude.{◌≡◌, ℕ, ◌≤◌, Bool, true, List, [], ◌∷◌, ◌++◌, map, drop, refl}
use Rattle.std.specs.List.{flat_map}
use Rattle.std.proofs.Common.{ap, sym, subst, ◌∙◌, append_assoc, arith}
use Rattle.std.proofs.lemmas.Grind.{flat_map-append}
use Rattle.std.proofs.lemmas.List.{append-nil, map-append}
use Rattle.std.specs.declared.vec.Vec.{Vec}
use Rattle.std.specs.declared.alloc.Global.{Global}
use Rattle.vs_syntax.specs.vs_lexer.specs.declared.token.Directive.{Directive}
use Rattle.vs_syntax.specs.vs_lexer.specs.declared.token.Token.{Token}
use Rattle.vs_syntax.specs.vs_lexer.specs.declared.token.Word.TheVariants as w
use Rattle.vs_syntax.specs.Symbols.{Symbol, a_word, a_directive, the_word, first}
use Rattle.vs_syntax.specs.Grammar.{many, part, a_module}
use Rattle.vs_syntax.specs.Tables.{goes}
use Rattle.vs_syntax.specs.Derivation.{Tree}
use Rattle.vs_syntax.specs.Reading.{Gets, Stuck, stuck_left, stuck_many}
use Rattle.vs_syntax.specs.Views.{module_tree, directive_tree, directed_trees}
use Rattle.vs_syntax.specs.declared.tree.Module.{Module}
use Rattle.vs_syntax.proofs.Gets.{gets_token, gets_left, gets_right}
use Rattle.vs_parser.specs.vs_parse_expressions.specs.Answers.{seen}
use Rattle.vs_parser.specs.vs_parse_expressions.proofs.Exits.{goes_at}
use Rattle.vs_parser.specs.vs_parse_expressions.proofs.Rows.{Along, along_none, along_one}
use Rattle.vs_parser.specs.declared.parser_head.SourceHead.{SourceHead}
use Rattle.vs_parser.specs.ParserHeads.{source_symbol, module_or_directive}

-- the trees of modules, and of the directives behind them
abbrev pub source_trees : List Module → List Directive → List Tree
source_trees ms ds = flat_map directed_trees ms ++ map directive_tree ds

pub source_start : (depth : ℕ) (ts us : List Token) (ms : List Module) (ds : List Directive) → us ≡ drop 0 ts → ms ≡ [] → ds ≡ [] → Along module_or_directive depth (seen ts) (seen us) (source_trees ms ds)
source_start depth ts us ms ds e f g = rw (e, f, g) (along_none module_or_directive depth (seen ts))

-- one more directive
one_more : (ms : List Module) (ds ds' : List Directive) (x : Directive) → ds' ≡ ds ++ x ∷ [] → source_trees ms ds' ≡ source_trees ms ds ++ directive_tree x ∷ []
one_more ms ds ds' x e =
    ap (λ u. flat_map directed_trees ms ++ u) (ap (map directive_tree) e ∙ map-append directive_tree ds (x ∷ []))
    ∙ sym (append_assoc (flat_map directed_trees ms) (map directive_tree ds) (directive_tree x ∷ []))

directive_goes : (ts after : List Symbol) (x : Directive) → ts ≡ a_directive x ∷ after → goes module_or_directive ts ≡ true
directive_goes ts after x e = ap (goes module_or_directive) e

directive_read : (depth : ℕ) (ts after : List Symbol) (x : Directive) → ts ≡ a_directive x ∷ after → Gets module_or_directive depth ts (directive_tree x) after
directive_read depth ts after x e = rw e (gets_right refl (gets_token refl))

pub directive_push : (depth : ℕ) (start rest after : List Symbol) (ms : List Module) (ds ds' : List Directive) (x : Directive) → ds' ≡ ds ++ x ∷ [] → rest ≡ a_directive x ∷ after → Along module_or_directive depth start rest (source_trees ms ds) → Along module_or_directive depth start after (source_trees ms ds')
directive_push depth start rest after ms ds ds' x e f l =
    subst (λ (u : List Tree). Along module_or_directive depth start after u) (sym (one_more ms ds ds' x e))
    (along_one module_or_directive depth start rest after (source_trees ms ds) (directive_tree x) l (directive_goes rest after x f) (directive_read depth rest after x f))

-- one more module
module_goes : (ts after : List Symbol) → ts ≡ a_word w.Module ∷ after → goes (part a_module) ts ≡ true
module_goes ts after e = goes_at (part a_module) ts (the_word w.Module) true (ap first e) refl

begins_module : (ts after : List Symbol) → ts ≡ a_word w.Module ∷ after → goes module_or_directive ts ≡ true
begins_module ts after e = ap (goes module_or_directive) e

last_module : (m : Module) (ds : Vec Directive Global) → m.directives ≡ ds → directed_trees m ≡ map directive_tree ds.items ++ module_tree m ∷ []
last_module m ds e = ap (λ (u : Vec Directive Global). map directive_tree u.items ++ module_tree m ∷ []) e

another_module : (ms ms' : List Module) (ds : Vec Directive Global) (ds' : List Directive) (m : Module) → ms' ≡ ms ++ m ∷ [] → m.directives ≡ ds → ds' ≡ [] → source_trees ms' ds' ≡ source_trees ms ds.items ++ module_tree m ∷ []
another_module ms ms' ds ds' m e f g =
    ap (λ u. source_trees ms' u) g
    ∙ append-nil (flat_map directed_trees ms')
    ∙ ap (flat_map directed_trees) e
    ∙ flat_map-append directed_trees ms (m ∷ [])
    ∙ ap (λ u. flat_map directed_trees ms ++ u) (append-nil (directed_trees m) ∙ last_module m ds f)
    ∙ sym (append_assoc (flat_map directed_trees ms) (map directive_tree ds.items) (module_tree m ∷ []))

pub module_push : (depth : ℕ) (start rest after behind : List Symbol) (ms ms' : List Module) (ds : Vec Directive Global) (ds' : List Directive) (m : Module) → ms' ≡ ms ++ m ∷ [] → m.directives ≡ ds → ds' ≡ [] → rest ≡ a_word w.Module ∷ after → Gets (part a_module) depth rest (module_tree m) behind → Along module_or_directive depth start rest (source_trees ms ds.items) → Along module_or_directive depth start behind (source_trees ms' ds')
module_push depth start rest after behind ms ms' ds ds' m e f g h p l =
    subst (λ (u : List Tree). Along module_or_directive depth start behind u) (sym (another_module ms ms' ds ds' m e f g))
    (along_one module_or_directive depth start rest behind (source_trees ms ds.items) (module_tree m) l (begins_module rest after h) (gets_left (module_goes rest after h) p))

pub module_stuck : (depth : ℕ) (deep : Bool) (ts after at : List Symbol) → ts ≡ a_word w.Module ∷ after → Stuck (part a_module) depth deep ts at → Stuck (many module_or_directive) depth deep ts at
module_stuck depth deep ts after at e s =
    let none : 0 ≤ depth = omega arith in
    stuck_many (begins_module ts after e) none (stuck_left (module_goes ts after e) none s)

-- a beginning that is known
pub head_of : (ts after : List Symbol) (k k' : SourceHead) → k ≡ k' → ts ≡ source_symbol k ∷ after → ts ≡ source_symbol k' ∷ after
head_of ts after k k' e b = subst (λ (u : SourceHead). ts ≡ source_symbol u ∷ after) e b
