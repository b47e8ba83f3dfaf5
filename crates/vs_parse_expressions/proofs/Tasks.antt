-- How what stands behind system tasks is made, and where it stops.
use Rattle.std.specs.Prelude.{◌≡◌, ℕ, Bool, true, false, ◌||◌, List, ◌∷◌, Option, Result, Ok, Err, refl}
use Rattle.std.proofs.Common.{arith, ap, sym, ◌∙◌}
use Rattle.vs_syntax.specs.vs_lexer.specs.Texts.{text_value}
use Rattle.vs_syntax.specs.vs_lexer.specs.declared.token.Kind.{Kind}
use Rattle.vs_syntax.specs.vs_lexer.specs.declared.token.Kind.TheVariants as k
use Rattle.vs_syntax.specs.vs_lexer.specs.declared.token.Literal.{Literal}
use Rattle.vs_syntax.specs.vs_lexer.specs.declared.token.Mark.TheVariants as m
use Rattle.vs_syntax.specs.vs_lexer.specs.declared.token.Token.{Token}
use Rattle.vs_syntax.specs.Symbols.{Symbol, a_mark, a_number, a_text, a_finish, a_time, the_mark, any_text, the_time, class_of, symbol_of, same_class}
use Rattle.vs_syntax.specs.Grammar.{Grammar, ◌·◌, token, seq, part, mark, number, late, finish_argument, an_argument, a_dump_argument, an_expr}
use Rattle.vs_syntax.specs.Tables.{goes}
use Rattle.vs_syntax.specs.Derivation.{Tree, empty, leaf, both}
use Rattle.vs_syntax.specs.Reading.{Gets, Stuck, stuck_first, stuck_second, stuck_left, stuck_right, stuck_part}
use Rattle.vs_syntax.specs.Views.{finish_tree, stmt_tree}
use Rattle.vs_syntax.specs.declared.tree.Stmt.{Stmt}
use Rattle.vs_syntax.proofs.Fronts.{goes-seq}
use Rattle.std.proofs.lemmas.Bool.{or_left}
use Rattle.vs_syntax.proofs.Gets.{gets_nothing, gets_token, gets_seq, gets_left, gets_right, gets_part}
use Rattle.vs_parse_expressions.specs.Answers.{seen}
use Rattle.vs_parse_expressions.specs.declared.reading.Parsed.{Parsed}
use Rattle.vs_parse_expressions.specs.declared.reading.ReadFault.{ReadFault}
use Rattle.vs_parse_expressions.proofs.Exits.{fails_by}
use Rattle.vs_parse_expressions.proofs.Tokens.{seen_kind, read_token, system_class}
use Rattle.vs_parse_expressions.specs.Lists.{comma_tail}
use Rattle.vs_parse_expressions.specs.Parts.{ReadsWithin, headed}
use Rattle.vs_parse_expressions.specs.Tasks.{text_and_arguments, printed, counted}
use Rattle.vs_parse_expressions.proofs.Forms.{absent, present_stuck, present_read}

-- an argument: `$time`, or an expression
pub time_read : (depth : ℕ) (ts rest : List Symbol) → ts ≡ a_time ∷ rest → Gets (part an_argument) depth ts (leaf a_time) rest
time_read depth ts rest e = rw e (gets_part (gets_left refl (gets_token refl)))

pub value_stuck : (depth : ℕ) (deep : Bool) (ts at : List Symbol) → goes (token the_time) ts ≡ false → Stuck (part an_expr) depth deep ts at → Stuck (part an_argument) depth deep ts at
value_stuck depth deep ts at h s = stuck_part (stuck_right h (omega arith) s)

pub value_read : (depth : ℕ) (ts rest : List Symbol) (x : Tree) → goes (token the_time) ts ≡ false → Gets (part an_expr) depth ts x rest → Gets (part an_argument) depth ts x rest
value_read depth ts rest x h p = gets_part (gets_right h p)

-- an argument of a dump: a text, or an expression
pub text_stuck : (depth : ℕ) (deep : Bool) (ts at : List Symbol) → goes (token any_text) ts ≡ true → Stuck (token any_text) depth deep ts at → Stuck (part a_dump_argument) depth deep ts at
text_stuck depth deep ts at h s = stuck_part (stuck_left h (omega arith) s)

pub text_read : (depth : ℕ) (ts rest : List Symbol) (x : Tree) → goes (token any_text) ts ≡ true → Gets (token any_text) depth ts x rest → Gets (part a_dump_argument) depth ts x rest
text_read depth ts rest x h p = gets_part (gets_left h p)

pub dumped_stuck : (depth : ℕ) (deep : Bool) (ts at : List Symbol) → goes (token any_text) ts ≡ false → Stuck (part an_expr) depth deep ts at → Stuck (part a_dump_argument) depth deep ts at
dumped_stuck depth deep ts at h s = stuck_part (stuck_right h (omega arith) s)

pub dumped_read : (depth : ℕ) (ts rest : List Symbol) (x : Tree) → goes (token any_text) ts ≡ false → Gets (part an_expr) depth ts x rest → Gets (part a_dump_argument) depth ts x rest
dumped_read depth ts rest x h p = gets_part (gets_right h p)

-- a text and what it prints
abbrev pub listing : Grammar
listing = token any_text · comma_tail (part an_argument)

text_goes : (ts : List Symbol) → goes (token any_text) ts ≡ true → goes listing ts ≡ true
text_goes ts h = goes-seq (token any_text) (comma_tail (part an_argument)) ts ∙ or_left (goes (token any_text) ts) false h

no_text_goes : (ts : List Symbol) → goes (token any_text) ts ≡ false → goes listing ts ≡ false
no_text_goes ts h = goes-seq (token any_text) (comma_tail (part an_argument)) ts ∙ ap (λ b. b || false) h

pub listing_stuck : (depth : ℕ) (deep : Bool) (ts at : List Symbol) → goes (token any_text) ts ≡ true → Stuck listing depth deep ts at → Stuck printed depth deep ts at
listing_stuck depth deep ts at h s = stuck_first (stuck_left (text_goes ts h) (omega arith) s)

pub listing_read : (depth : ℕ) (ts mid rest : List Symbol) (x y : Tree) → goes (token any_text) ts ≡ true → Gets listing depth ts x mid → Gets (mark m.Close) depth mid y rest → Gets printed depth ts (both x y) rest
listing_read depth ts mid rest x y h p q = gets_seq (gets_left (text_goes ts h) p) q

pub listing_close : (depth : ℕ) (deep : Bool) (ts mid at : List Symbol) (x : Tree) → goes (token any_text) ts ≡ true → Gets listing depth ts x mid → Stuck (mark m.Close) depth deep mid at → Stuck printed depth deep ts at
listing_close depth deep ts mid at x h p s = stuck_second (gets_left (text_goes ts h) p) s

pub no_listing : (depth : ℕ) (ts : List Symbol) → goes (token any_text) ts ≡ false → Gets text_and_arguments depth ts empty ts
no_listing depth ts h = gets_right (no_text_goes ts h) gets_nothing

-- a text that was read
pub text_is : (depth : ℕ) (ts : List Token) (t : Token) (rest : List Token) (bytes : List ℕ) → ts ≡ t ∷ rest → t.kind ≡ k.Text → bytes ≡ text_value t.bytes.now → Gets (token any_text) depth (seen ts) (leaf (a_text bytes)) (seen rest)
text_is depth ts t rest bytes e f g = read_token any_text depth (seen ts) (a_text bytes) (seen rest) (seen_kind ts t rest k.Text e f ∙ ap (λ u. a_text u ∷ seen rest) (sym g)) refl

-- the number of a `$finish`
pub no_count : (depth : ℕ) (ts : List Symbol) → goes (mark m.Open) ts ≡ false → Gets finish_argument depth ts empty ts
no_count depth ts h = absent (the_mark m.Open) counted depth ts h

pub count_stuck : (depth : ℕ) (deep : Bool) (ts after at : List Symbol) → ts ≡ a_mark m.Open ∷ after → Stuck counted depth deep after at → Stuck finish_argument depth deep ts at
count_stuck depth deep ts after at e s = present_stuck (a_mark m.Open) counted depth deep ts after at refl e s

pub count_read : (depth : ℕ) (ts after mid rest : List Symbol) (x : Tree) → ts ≡ a_mark m.Open ∷ after → Gets number depth after x mid → Gets (mark m.Close) depth mid (leaf (a_mark m.Close)) rest → Gets finish_argument depth ts (both (leaf (a_mark m.Open)) (both x (leaf (a_mark m.Close)))) rest
count_read depth ts after mid rest x e p q = present_read (a_mark m.Open) counted depth ts after rest (both x (leaf (a_mark m.Close))) e (gets_seq p q)

-- what stands behind `$finish`, by its number
pub finish_within : (depth : ℕ) (ts mid : List Token) (n : Option Literal) (r : Result (Parsed Stmt) ReadFault) → Gets finish_argument depth (seen ts) (finish_tree n) (seen mid) → ReadsWithin stmt_tree (λ y. headed a_finish (both (finish_tree n) y)) (mark m.Semicolon) depth mid r → ReadsWithin stmt_tree (headed a_finish) (finish_argument · mark m.Semicolon) depth ts r
finish_within depth ts mid n (Ok x) p w = record { inner = both (finish_tree n) w.inner; whole = w.whole; gets = gets_seq p w.gets }
finish_within depth ts mid n (Err e) p f =
    fails_by (mark m.Semicolon) (finish_argument · mark m.Semicolon) depth depth (seen mid) (seen ts) (λ deep at s. stuck_second p s) e f

-- a token that is no text
pub no_text : (kind : Kind) (bytes : List ℕ) → (kind ≡ k.Text → ⊥) → same_class (class_of (symbol_of kind bytes)) any_text ≡ false
no_text k.Text bytes f = absurd (f refl)
no_text k.System bytes f = system_class any_text bytes refl
no_text _ bytes f = refl
