-- How the parts of delays and event controls make them, and where they stop.
use Rattle.std.specs.Prelude.{◌≡◌, ℕ, ◌≤◌, Bool, true, false, List, ◌∷◌, Result, Ok, Err, refl}
use Rattle.std.proofs.Common.{ap, subst, arith}
use Rattle.vs_syntax.specs.vs_lexer.specs.declared.token.Mark.TheVariants as m
use Rattle.vs_syntax.specs.vs_lexer.specs.declared.token.Token.{Token}
use Rattle.vs_syntax.specs.vs_lexer.specs.declared.token.Word.TheVariants as w
use Rattle.vs_syntax.specs.Symbols.{Symbol, a_mark, a_word, any_name, any_number, first}
use Rattle.vs_syntax.specs.Grammar.{Grammar, ◌·◌, ◌or◌, part, mark, word, name, number, delay, event, event_exprs, an_expr, an_event_expr}
use Rattle.vs_syntax.specs.Tables.{goes}
use Rattle.vs_syntax.specs.Derivation.{Tree, leaf, both}
use Rattle.vs_syntax.specs.Reading.{Gets, Stuck, stuck_second, stuck_left, stuck_right}
use Rattle.vs_syntax.specs.Views.{separator_tree, event_tree}
use Rattle.vs_syntax.specs.declared.tree.Separator.{Separator}
use Rattle.vs_syntax.specs.declared.tree.Separator.TheVariants as r
use Rattle.vs_syntax.specs.declared.tree.EventControl.{EventControl}
use Rattle.vs_syntax.proofs.Gets.{gets_token, gets_seq, gets_left, gets_right}
use Rattle.vs_parser.specs.declared.head.DelayHead.{DelayHead}
use Rattle.vs_parser.specs.declared.head.EventHead.{EventHead}
use Rattle.vs_parser.specs.Heads.{BeginsDelay, BeginsEvent, separator_symbol, edge_word}
use Rattle.vs_parse_expressions.specs.Parts.{ReadsWithin, marked}
use Rattle.vs_parse_expressions.specs.declared.reading.Parsed.{Parsed}
use Rattle.vs_parse_expressions.specs.declared.reading.ReadFault.{ReadFault}
use Rattle.vs_parse_expressions.specs.Answers.{seen, ReadsTree}
use Rattle.vs_parse_expressions.proofs.Exits.{fails_by, goes_at}

-- the words of edges
pub posedge_read : (depth : ℕ) (ts after : List Symbol) → ts ≡ a_word w.Posedge ∷ after → Gets edge_word depth ts (leaf (a_word w.Posedge)) after
posedge_read depth ts after e = rw e (gets_left refl (gets_token refl))

pub negedge_read : (depth : ℕ) (ts after : List Symbol) → ts ≡ a_word w.Negedge ∷ after → Gets edge_word depth ts (leaf (a_word w.Negedge)) after
negedge_read depth ts after e = rw e (gets_right refl (gets_left refl (gets_token refl)))

-- a beginning that is known
pub delay_of : (ts after : List Symbol) (head head' : DelayHead) → head ≡ head' → BeginsDelay ts head after → BeginsDelay ts head' after
delay_of ts after head head' e h = subst (λ (u : DelayHead). BeginsDelay ts u after) e h

pub event_of : (ts after : List Symbol) (head head' : EventHead) → head ≡ head' → BeginsEvent ts head after → BeginsEvent ts head' after
event_of ts after head head' e h = subst (λ (u : EventHead). BeginsEvent ts u after) e h

-- a delay
pub delay_number_stuck : (depth : ℕ) (deep : Bool) (ts at : List Symbol) → first ts ≡ any_number → Stuck number depth deep ts at → Stuck delay depth deep ts at
delay_number_stuck depth deep ts at e s =
    let none : 0 ≤ depth = omega arith in
    stuck_left (goes_at number ts any_number true e refl) none s

pub delay_number_read : (depth : ℕ) (ts rest : List Symbol) (x : Tree) → first ts ≡ any_number → Gets number depth ts x rest → Gets delay depth ts x rest
delay_number_read depth ts rest x e p = gets_left (goes_at number ts any_number true e refl) p

pub delay_name_stuck : (depth : ℕ) (deep : Bool) (ts at : List Symbol) → first ts ≡ any_name → Stuck name depth deep ts at → Stuck delay depth deep ts at
delay_name_stuck depth deep ts at e s =
    let none : 0 ≤ depth = omega arith in
    stuck_right (goes_at number ts any_name false e refl) none (stuck_left (goes_at name ts any_name true e refl) none s)

pub delay_name_read : (depth : ℕ) (ts rest : List Symbol) (x : Tree) → first ts ≡ any_name → Gets name depth ts x rest → Gets delay depth ts x rest
delay_name_read depth ts rest x e p = gets_right (goes_at number ts any_name false e refl) (gets_left (goes_at name ts any_name true e refl) p)

pub delay_group_stuck : (depth : ℕ) (deep : Bool) (ts after at : List Symbol) → ts ≡ a_mark m.Open ∷ after → Stuck (part an_expr · mark m.Close) depth deep after at → Stuck delay depth deep ts at
delay_group_stuck depth deep ts after at e s =
    let none : 0 ≤ depth = omega arith in
    rw e (stuck_right refl none (stuck_right refl none (stuck_second (gets_token refl) s)))

pub delay_group_read : (depth : ℕ) (ts after rest : List Symbol) (x : Tree) → ts ≡ a_mark m.Open ∷ after → Gets (part an_expr · mark m.Close) depth after x rest → Gets delay depth ts (both (leaf (a_mark m.Open)) x) rest
delay_group_read depth ts after rest x e p = rw e (gets_right refl (gets_right refl (gets_seq (gets_token refl) p)))

-- what an event control waits for
pub event_star : (depth : ℕ) (ts after : List Symbol) → ts ≡ a_mark m.Star ∷ after → Gets event depth ts (leaf (a_mark m.Star)) after
event_star depth ts after e = rw e (gets_left refl (gets_token refl))

pub event_name_stuck : (depth : ℕ) (deep : Bool) (ts at : List Symbol) → first ts ≡ any_name → Stuck name depth deep ts at → Stuck event depth deep ts at
event_name_stuck depth deep ts at e s =
    let none : 0 ≤ depth = omega arith in
    stuck_right (goes_at (mark m.Star) ts any_name false e refl) none (stuck_left (goes_at name ts any_name true e refl) none s)

pub event_name_read : (depth : ℕ) (ts rest : List Symbol) (x : Tree) → first ts ≡ any_name → Gets name depth ts x rest → Gets event depth ts x rest
event_name_read depth ts rest x e p = gets_right (goes_at (mark m.Star) ts any_name false e refl) (gets_left (goes_at name ts any_name true e refl) p)

-- what stands in the parentheses of an event control
abbrev pub waited : Grammar
waited = mark m.Star or event_exprs

abbrev pub grouped : Grammar
grouped = waited · mark m.Close

event_group_stuck : (depth : ℕ) (deep : Bool) (ts after at : List Symbol) → ts ≡ a_mark m.Open ∷ after → Stuck grouped depth deep after at → Stuck event depth deep ts at
event_group_stuck depth deep ts after at e s =
    let none : 0 ≤ depth = omega arith in
    rw e (stuck_right refl none (stuck_right refl none (stuck_second (gets_token refl) s)))

event_group_read : (depth : ℕ) (ts after rest : List Symbol) (x : Tree) → ts ≡ a_mark m.Open ∷ after → Gets grouped depth after x rest → Gets event depth ts (marked m.Open x) rest
event_group_read depth ts after rest x e p = rw e (gets_right refl (gets_right refl (gets_seq (gets_token refl) p)))

pub event_group : (depth : ℕ) (ts after : List Token) (r : Result (Parsed EventControl) ReadFault) → seen ts ≡ a_mark m.Open ∷ seen after → ReadsWithin event_tree (marked m.Open) grouped depth after r → ReadsTree event depth ts event_tree r
event_group depth ts after (Ok x) e p = rw p.whole (event_group_read depth (seen ts) (seen after) (seen x.rest.now) p.inner e p.gets)
event_group depth ts after (Err f) e p =
    fails_by grouped event depth depth (seen after) (seen ts) (λ deep at s. event_group_stuck depth deep (seen ts) (seen after) at e s) f p

pub star_read : (depth : ℕ) (ts after : List Symbol) → ts ≡ a_mark m.Star ∷ after → Gets waited depth ts (leaf (a_mark m.Star)) after
star_read depth ts after e = rw e (gets_left refl (gets_token refl))

pub terms_stuck : (depth : ℕ) (deep : Bool) (ts at : List Symbol) → goes (mark m.Star) ts ≡ false → Stuck event_exprs depth deep ts at → Stuck waited depth deep ts at
terms_stuck depth deep ts at h s = let none : 0 ≤ depth = omega arith in stuck_right h none s

-- a term behind what stands before it
abbrev pub separator : Grammar
separator = word w.Or or mark m.Comma

abbrev pub another_term : Grammar
another_term = separator · part an_event_expr

separator_read : (depth : ℕ) (ts after : List Symbol) (s : Separator) → ts ≡ separator_symbol s ∷ after → Gets separator depth ts (separator_tree s) after
separator_read depth ts after r.Or e = rw e (gets_left refl (gets_token refl))
separator_read depth ts after r.Comma e = rw e (gets_right refl (gets_token refl))

pub term_goes : (ts after : List Symbol) (s : Separator) → ts ≡ separator_symbol s ∷ after → goes another_term ts ≡ true
term_goes ts after r.Or e = ap (goes another_term) e
term_goes ts after r.Comma e = ap (goes another_term) e

pub term_read : (depth : ℕ) (ts after rest : List Symbol) (s : Separator) (x : Tree) → ts ≡ separator_symbol s ∷ after → Gets (part an_event_expr) depth after x rest → Gets another_term depth ts (both (separator_tree s) x) rest
term_read depth ts after rest s x e p = gets_seq (separator_read depth ts after s e) p

pub term_stuck : (depth : ℕ) (deep : Bool) (ts after at : List Symbol) (s : Separator) → ts ≡ separator_symbol s ∷ after → Stuck (part an_event_expr) depth deep after at → Stuck another_term depth deep ts at
term_stuck depth deep ts after at s e u = stuck_second (separator_read depth ts after s e) u
