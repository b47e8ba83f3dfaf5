-- How the parts of a module's header make it, and where they stop.
use Rattle.std.specs.Prelude.{◌≡◌, ℕ, false, List, [], ◌∷◌, Some, Result, map, refl}
use Rattle.std.proofs.Common.{sym, ap, subst}
use Rattle.std.specs.declared.vec.Vec.{Vec}
use Rattle.std.specs.declared.alloc.Global.{Global}
use Rattle.vs_syntax.specs.vs_lexer.specs.declared.token.Mark.TheVariants as m
use Rattle.vs_syntax.specs.vs_lexer.specs.declared.token.Word.TheVariants as w
use Rattle.vs_syntax.specs.vs_lexer.specs.declared.token.Token.{Token}
use Rattle.vs_syntax.specs.Symbols.{Symbol, a_mark, a_word}
use Rattle.vs_syntax.specs.Grammar.{Grammar, nothing, ◌·◌, ◌or◌, part, mark, word, parameter_form, header_parameters, a_constant, a_header_parameter}
use Rattle.vs_syntax.specs.Tables.{goes}
use Rattle.vs_syntax.specs.Derivation.{leaf, both}
use Rattle.vs_syntax.specs.Reading.{Gets}
use Rattle.vs_syntax.specs.Views.{commas_tree, parameter_form_tree, parameter_word_tree, header_parameter_tree, header_parameters_tree}
use Rattle.vs_syntax.specs.declared.tree.HeaderParameter.{HeaderParameter}
use Rattle.vs_syntax.specs.declared.tree.ParameterForm.{ParameterForm}
use Rattle.vs_syntax.proofs.Gets.{gets_nothing, gets_token, gets_seq, gets_right}
use Rattle.vs_parse_expressions.specs.declared.reading.Parsed.{Parsed}
use Rattle.vs_parse_expressions.specs.declared.reading.ReadFault.{ReadFault}
use Rattle.vs_parse_expressions.specs.Answers.{seen, ReadsTree}
use Rattle.vs_parser.proofs.Declarations.{beyond_present, within_beyond}
use Rattle.vs_parse_expressions.specs.Lists.{comma_tail, Grown}
use Rattle.vs_parse_expressions.specs.Parts.{Within, ReadsWithin, Beyond}
use Rattle.vs_parse_expressions.proofs.Parts.{beyond_part, beyond_behind}

-- the first parameter, and what stands behind the sign before the parameters
abbrev pub first_parameter : Grammar
first_parameter = (word w.Parameter · parameter_form) · part a_constant

abbrev pub parameters_within : Grammar
parameters_within = mark m.Open · first_parameter · comma_tail (part a_header_parameter) · mark m.Close

pub no_parameters : (depth : ℕ) (ts : List Symbol) (xs : List HeaderParameter) → goes (mark m.Hash) ts ≡ false → xs ≡ [] → Gets (header_parameters or nothing) depth ts (header_parameters_tree (map header_parameter_tree xs)) ts
no_parameters depth ts xs h e = subst (λ u. Gets (header_parameters or nothing) depth ts (header_parameters_tree (map header_parameter_tree u)) ts) (sym e) (gets_right h gets_nothing)

-- what stands behind the mark before the parameters
abbrev pub parameters_inside : Grammar
parameters_inside = first_parameter · comma_tail (part a_header_parameter) · mark m.Close

pub inside_read : (depth : ℕ) (ts start rest at : List Symbol) (x : HeaderParameter) (ys : Vec HeaderParameter Global) → Gets first_parameter depth ts (header_parameter_tree x) start → Grown (part a_header_parameter) depth header_parameter_tree start rest (x ∷ []) ys.items →
    Gets (mark m.Close) depth rest (leaf (a_mark m.Close)) at → Within (λ (xs : Vec HeaderParameter Global). header_parameters_tree (map header_parameter_tree xs.items)) (λ y. both (leaf (a_mark m.Hash)) (both (leaf (a_mark m.Open)) y)) parameters_inside depth ts ys at
inside_read depth ts start rest at x ys q l r = record {
  inner = both (header_parameter_tree x) (both (commas_tree (map header_parameter_tree l.others)) (leaf (a_mark m.Close)));
  whole = ap (λ (u : List HeaderParameter). header_parameters_tree (map header_parameter_tree u)) l.all;
  gets = gets_seq q (gets_seq l.gets r);
}

pub inside_beyond : (depth : ℕ) (ts after inside : List Symbol) → ts ≡ a_mark m.Hash ∷ after → Gets (mark m.Open) depth after (leaf (a_mark m.Open)) inside → Beyond parameters_inside (header_parameters or nothing) (λ y. both (leaf (a_mark m.Hash)) (both (leaf (a_mark m.Open)) y)) depth ts inside
inside_beyond depth ts after inside e p =
    beyond_behind parameters_inside parameters_within (header_parameters or nothing) (both (leaf (a_mark m.Open))) (both (leaf (a_mark m.Hash))) depth ts after inside
    (beyond_present (a_mark m.Hash) parameters_within depth ts after refl e)
    (beyond_part (mark m.Open) parameters_inside depth after inside (leaf (a_mark m.Open)) p)

-- a parameter with its word, by what reading its name and its value answers
pub word_beyond : (depth : ℕ) (ts after : List Symbol) → ts ≡ a_word w.Parameter ∷ after → Beyond parameter_form (word w.Parameter · parameter_form) (both (leaf (a_word w.Parameter))) depth ts after
word_beyond depth ts after e = beyond_part (word w.Parameter) parameter_form depth ts after (leaf (a_word w.Parameter)) (rw e (gets_token refl))

pub parameter_answers : (front : Grammar) (depth : ℕ) (ts mid : List Token) (after : List Symbol) (f : ParameterForm) (r : Result (Parsed HeaderParameter) ReadFault) → Beyond parameter_form front (both (leaf (a_word w.Parameter))) depth (seen ts) after → Gets parameter_form depth after (parameter_form_tree f) (seen mid) →
    ReadsWithin header_parameter_tree (λ y. both (parameter_word_tree (Some f)) y) (part a_constant) depth mid r → ReadsTree (front · part a_constant) depth ts header_parameter_tree r
parameter_answers front depth ts mid after f r b p w =
    within_beyond (part a_constant) (front · part a_constant) header_parameter_tree _ depth ts mid r
    (beyond_part front (part a_constant) depth (seen ts) (seen mid) (parameter_word_tree (Some f)) (b.reads (parameter_form_tree f) (seen mid) p)) w
