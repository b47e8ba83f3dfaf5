-- How what stands before the statement of a `case` item makes it, and where it stops.
use Rattle.std.specs.Prelude.{◌≡◌, ℕ, ◌≤◌, Bool, false, List, ◌∷◌, refl}
use Rattle.vs_syntax.specs.vs_lexer.specs.declared.token.Mark.TheVariants as m
use Rattle.vs_syntax.specs.vs_lexer.specs.declared.token.Word.TheVariants as w
use Rattle.vs_syntax.specs.Symbols.{Symbol, a_mark, a_word}
use Rattle.vs_syntax.specs.Grammar.{Grammar, nothing, ◌·◌, ◌or◌, part, mark, word, a_stmt, a_case_item, an_expr}
use Rattle.vs_syntax.specs.Tables.{goes}
use Rattle.vs_syntax.specs.Derivation.{Tree, empty, leaf}
use Rattle.vs_syntax.specs.Reading.{Gets, Stuck, stuck_second, stuck_left, stuck_right, stuck_part}
use Rattle.vs_syntax.specs.Views.{colon_tree, labelled_tree}
use Rattle.vs_syntax.specs.declared.tree.CaseLabel.TheVariants as n
use Rattle.vs_syntax.proofs.Gets.{gets_nothing, gets_token, gets_seq, gets_left, gets_right, gets_part}
use Rattle.vs_parse_expressions.specs.Lists.{comma_tail}
use Rattle.vs_parse_expressions.specs.Parts.{Beyond}

-- the colon behind `default`, or nothing
abbrev pub may_colon : Grammar
may_colon = mark m.Colon or nothing

pub colon_read : (depth : ℕ) (ts rest : List Symbol) → ts ≡ a_mark m.Colon ∷ rest → Gets may_colon depth ts (leaf (a_mark m.Colon)) rest
colon_read depth ts rest e = rw e (gets_left refl (gets_token refl))

pub colon_none : (depth : ℕ) (ts : List Symbol) → goes (mark m.Colon) ts ≡ false → Gets may_colon depth ts empty ts
colon_none depth ts h = gets_right h gets_nothing

-- `default` and its colon
pub default_beyond : (depth : ℕ) (ts after rest : List Symbol) (colon : Bool) → 1 ≤ depth → ts ≡ a_word w.Default ∷ after → Gets may_colon depth after (colon_tree colon) rest → Beyond (part a_stmt) (part a_case_item) (labelled_tree (n.Default colon)) depth ts rest
default_beyond depth ts after rest colon h e q = record {
  reads = λ y at p. rw e (gets_part (gets_left refl (gets_seq (gets_token refl) (gets_seq q p))));
  stops = λ deep at s. rw e (stuck_part (stuck_left refl h (stuck_second (gets_token refl) (stuck_second q s))));
}

-- expressions, a colon and a statement
abbrev pub chosen : Grammar
chosen = part an_expr · comma_tail (part an_expr) · mark m.Colon · part a_stmt

pub chosen_stuck : (depth : ℕ) (deep : Bool) (ts at : List Symbol) → 1 ≤ depth → goes (word w.Default) ts ≡ false → Stuck chosen depth deep ts at → Stuck (part a_case_item) depth deep ts at
chosen_stuck depth deep ts at h i s = stuck_part (stuck_right i h s)

pub chosen_read : (depth : ℕ) (ts rest : List Symbol) (x : Tree) → goes (word w.Default) ts ≡ false → Gets chosen depth ts x rest → Gets (part a_case_item) depth ts x rest
chosen_read depth ts rest x i p = gets_part (gets_right i p)
