-- How statements and their parts begin.
use Rattle.std.specs.Prelude.{◌≡◌, ℕ, ◌<◌, suc, ◌||◌, Bool, true, false, List, ◌∷◌, Some, refl}
use Rattle.std.proofs.Common.{ap, sym}
use Rattle.vs_syntax.specs.vs_lexer.specs.declared.token.Word.TheVariants as w
use Rattle.vs_syntax.specs.Symbols.{Symbol, a_word, class_of, first}
use Rattle.vs_syntax.specs.Grammar.{part, word, statements, a_stmt, a_case_item, an_expr}
use Rattle.vs_syntax.specs.Tables.{low, among, need, fronts_of, operand_fronts, goes}
use Rattle.vs_syntax.specs.Reading.{Stuck}
use Rattle.vs_syntax.proofs.Fronts.{among-beside}
use Rattle.std.proofs.lemmas.Bool.{or_parts as or_false}
use Rattle.vs_parser.specs.declared.head.StatementWord.{StatementWord}
use Rattle.vs_parser.specs.declared.head.StatementWord.TheVariants as s
use Rattle.vs_parser.specs.declared.head.StatementHead.{StatementHead}
use Rattle.vs_parser.specs.declared.head.StatementHead.TheVariants as h
use Rattle.vs_parser.specs.Heads.{symbol_of, grammar_after, BeginsStatement, class_of_statement}
use Rattle.vs_parse_expressions.proofs.Exits.{deep_at, goes_at}
use Rattle.vs_parse_expressions.proofs.Choices.{branch}

-- each statement with a word or a mark of its own, by it
pub word_branch : (k : StatementWord) → branch (class_of (symbol_of k)) statements ≡ Some (grammar_after k)
word_branch s.Null = refl
word_branch _ = refl

pub word_need : (k : StatementWord) → need (class_of (symbol_of k)) (fronts_of a_stmt) ≡ suc (low (grammar_after k))
word_need s.Null = refl
word_need _ = refl

word_among : (k : StatementWord) → among (class_of (symbol_of k)) (fronts_of a_stmt) ≡ true
word_among s.Null = refl
word_among _ = refl

-- the first symbol of a statement
pub head_first : (ts after : List Symbol) (head : StatementHead) → BeginsStatement ts head after → first ts ≡ class_of_statement head
head_first ts after h.Name e = e
head_first ts after h.Brace e = e
head_first ts after (h.Word k) e = ap first e

head_among : (head : StatementHead) → among (class_of_statement head) (fronts_of a_stmt) ≡ true
head_among h.Name = refl
head_among h.Brace = refl
head_among (h.Word k) = word_among k

pub head_goes : (ts after : List Symbol) (head : StatementHead) → BeginsStatement ts head after → goes (part a_stmt) ts ≡ true
head_goes ts after head e = goes_at (part a_stmt) ts (class_of_statement head) true (head_first ts after head e) (head_among head)

pub head_deep : (depth : ℕ) (ts after : List Symbol) (head : StatementHead) → BeginsStatement ts head after → depth < need (class_of_statement head) (fronts_of a_stmt) → Stuck (part a_stmt) depth true ts ts
head_deep depth ts after head e n = deep_at a_stmt depth ts (class_of_statement head) (head_first ts after head e) (head_among head) n

-- the symbols begin an item of a `case` statement: by its word, or by its first expression
pub default_goes : (ts after : List Symbol) → ts ≡ a_word w.Default ∷ after → goes (part a_case_item) ts ≡ true
default_goes ts after e = ap (goes (part a_case_item)) e

case_item_by : (d x b : Bool) → d ≡ false → b ≡ x → (d || b) ≡ x
case_item_by true x b h e = cc
case_item_by false x b h e = e

pub choice_goes : (ts : List Symbol) → goes (word w.Default) ts ≡ false → goes (part an_expr) ts ≡ goes (part a_case_item) ts
choice_goes ts h = sym (case_item_by _ (goes (part an_expr) ts) _ (or_false _ false h).0 (among-beside (first ts) 1 operand_fronts))
