-- How ports make the list in the header of a module, and where they stop.
use Rattle.std.specs.Prelude.{◌≡◌, ℕ, ◌<◌, ◌≤◌, Bool, true, false, ◌||◌, List, [], ◌∷◌, ◌++◌, Option, Some, None, Result, Ok, Err, IfOk, MatchResult, length, drop, refl}
use Rattle.std.proofs.Common.{sym, ◌∙◌, ap, subst, append_assoc, arith}
use Rattle.std.proofs.lemmas.List.{append-nil, length-append}
use Rattle.std.specs.declared.vec.Vec.{Vec}
use Rattle.std.specs.declared.alloc.Global.{Global}
use Rattle.vs_syntax.specs.vs_lexer.specs.declared.token.Mark.TheVariants as m
use Rattle.vs_syntax.specs.vs_lexer.specs.declared.token.Word.TheVariants as w
use Rattle.vs_syntax.specs.vs_lexer.specs.declared.token.Token.{Token}
use Rattle.vs_syntax.specs.Symbols.{Symbol, a_mark, a_word, the_mark, the_word, same_class, first}
use Rattle.vs_syntax.specs.Grammar.{Grammar, nothing, either, ◌·◌, ◌or◌, part, mark, word, name, form, variable_kind, net_kind, direction, directed_ports, net_ports, variable_ports, port_names, may_value, an_expr, rule}
use Rattle.vs_syntax.specs.Tables.{among, fronts, low, goes}
use Rattle.vs_syntax.specs.Derivation.{Tree, empty, leaf, both, tokens}
use Rattle.vs_syntax.specs.Reading.{Gets, Stuck, stuck_first, stuck_second, stuck_left, stuck_right, stuck_part}
use Rattle.vs_syntax.specs.Views.{name_tree, value_tree, form_tree, direction_word, kind_tree, port_form_tree, port_tree, more_ports_tree, ports_tree}
use Rattle.vs_syntax.specs.declared.tree.Direction.{Direction}
use Rattle.vs_syntax.specs.declared.tree.Direction.TheVariants as o
use Rattle.vs_syntax.specs.declared.tree.PortKind.{PortKind}
use Rattle.vs_syntax.specs.declared.tree.PortKind.TheVariants as k
use Rattle.vs_syntax.specs.declared.tree.Expr.{Expr}
use Rattle.vs_syntax.specs.declared.tree.Form.{Form}
use Rattle.vs_syntax.specs.declared.tree.PortForm.{PortForm}
use Rattle.vs_syntax.specs.declared.tree.Port.{Port}
use Rattle.vs_syntax.proofs.Fronts.{goes-either}
use Rattle.std.proofs.lemmas.Bool.{or_parts as or_false}
use Rattle.vs_syntax.proofs.Gets.{gets_nothing, gets_token, gets_seq, gets_left, gets_right, gets_part}
use Rattle.vs_parse_expressions.specs.declared.reading.Parsed.{Parsed}
use Rattle.vs_parse_expressions.specs.declared.reading.ReadFault.{ReadFault}
use Rattle.vs_parse_expressions.specs.Answers.{seen, FailsToRead, ReadsTree}
use Rattle.vs_parse_expressions.proofs.Exits.{fails_by, goes_at}
use Rattle.vs_parse_expressions.specs.Parts.{Beyond, Leads}
use Rattle.vs_parse_expressions.proofs.Forms.{absent, present_stuck, present_read}
use Rattle.vs_parse_expressions.proofs.Parts.{beyond_part, beyond_behind, beyond_fails}
use Rattle.vs_parser.specs.declared.port.Said.{Said}
use Rattle.vs_parser.specs.declared.port.Said.TheVariants as s
use Rattle.vs_parser.specs.Ports.{port_kind, IsKind, ports_within, said_of, said_after, named_by, value_by, other_by, others_by, named_port_tree, LeadsOn, Followed}

-- ---- kinds

-- neither of two parts
either_false : (a b : Grammar) (ts : List Symbol) → goes (either a b) ts ≡ false → (goes a ts ≡ false) × (goes b ts ≡ false)
either_false a b ts h = or_false (goes a ts) (goes b ts) (sym (goes-either a b ts) ∙ h)

-- none of the words
no_words : (ts : List Symbol) → goes port_kind ts ≡ false → (goes (word w.Wire) ts ≡ false) × (goes (word w.Reg) ts ≡ false) × (goes (word w.Integer) ts ≡ false)
no_words ts h =
    let p = either_false (word w.Wire) (word w.Reg or word w.Integer or nothing) ts h in
    let q = either_false (word w.Reg) (word w.Integer or nothing) ts p.1 in
    let r = either_false (word w.Integer) nothing ts q.1 in
    (p.0, q.0, r.0)

pub kind_gets : (depth : ℕ) (o : Option PortKind) (ts rest : List Symbol) → IsKind ts o rest → Gets port_kind depth ts (kind_tree o) rest
kind_gets depth None ts rest (h, e) =
    let n = no_words ts h in
    subst (λ (u : List Symbol). Gets port_kind depth ts empty u) (sym e) (gets_right n.0 (gets_right n.1 (gets_right n.2 gets_nothing)))
kind_gets depth (Some k.Wire) ts rest e = rw e (gets_left refl (gets_token refl))
kind_gets depth (Some k.Reg) ts rest e = rw e (gets_right refl (gets_left refl (gets_token refl)))
kind_gets depth (Some k.Integer) ts rest e = rw e (gets_right refl (gets_right refl (gets_left refl (gets_token refl))))

-- a part of the first of two, and one of the second
in_left : (a b c : Grammar) (depth : ℕ) (ts rest : List Symbol) (x : Tree) → goes (a · b) ts ≡ true → low (a · b) ≤ depth → Gets a depth ts x rest → Beyond b (a · b or c) (both x) depth ts rest
in_left a b c depth ts rest x h n p = record { reads = λ y at q. gets_left h (gets_seq p q); stops = λ deep at s. stuck_left h n (stuck_second p s) }

in_right : (a b c : Grammar) (depth : ℕ) (ts rest : List Symbol) (x : Tree) → goes c ts ≡ false → low (a · b) ≤ depth → Gets a depth ts x rest → Beyond b (c or a · b) (both x) depth ts rest
in_right a b c depth ts rest x h n p = record { reads = λ y at q. gets_right h (gets_seq p q); stops = λ deep at s. stuck_right h n (stuck_second p s) }

-- a port that is a variable, and one that is a net, behind the direction
abbrev variable_form : Grammar
variable_form = variable_kind · form · part variable_ports

abbrev net_form : Grammar
net_form = net_kind · form · part net_ports

neither : (a b : Bool) → (a || false) ≡ false → (b || false) ≡ false → (a || (b || false)) ≡ false
neither false false h k = refl
neither _ _ h k = cc

no_variable : (ts : List Symbol) → goes (word w.Reg) ts ≡ false → goes (word w.Integer) ts ≡ false → goes variable_form ts ≡ false
no_variable ts h k = neither (same_class (first ts) (the_word w.Reg)) (same_class (first ts) (the_word w.Integer)) h k

kind_beyond : (depth : ℕ) (o : Option PortKind) (ts rest : List Symbol) → IsKind ts o rest → Beyond (form · part (named_by (said_of o))) (variable_form or net_form) (both (kind_tree o)) depth ts rest
kind_beyond depth None ts rest (h, e) =
    let n = no_words ts h in
    let none : 0 ≤ depth = omega arith in
    subst (λ (u : List Symbol). Beyond (form · part net_ports) (variable_form or net_form) (both empty) depth ts u) (sym e)
    (in_right net_kind (form · part net_ports) variable_form depth ts ts empty (no_variable ts n.1 n.2) none (gets_right n.0 gets_nothing))
kind_beyond depth (Some k.Wire) ts rest e =
    let none : 0 ≤ depth = omega arith in
    rw e (in_right net_kind (form · part net_ports) variable_form depth (a_word w.Wire ∷ rest) rest (leaf (a_word w.Wire)) refl none (gets_left refl (gets_token refl)))
kind_beyond depth (Some k.Reg) ts rest e =
    let none : 0 ≤ depth = omega arith in
    rw e (in_left variable_kind (form · part variable_ports) net_form depth (a_word w.Reg ∷ rest) rest (leaf (a_word w.Reg)) refl none (gets_left refl (gets_token refl)))
kind_beyond depth (Some k.Integer) ts rest e =
    let none : 0 ≤ depth = omega arith in
    rw e (in_left variable_kind (form · part variable_ports) net_form depth (a_word w.Integer ∷ rest) rest (leaf (a_word w.Integer)) refl none (gets_right refl (gets_token refl)))

-- ---- what stands before a name

direction_read : (d : Direction) (depth : ℕ) (after : List Symbol) → Gets direction depth (a_word (direction_word d) ∷ after) (leaf (a_word (direction_word d))) after
direction_read o.Input depth after = gets_left refl (gets_token refl)
direction_read o.Output depth after = gets_right refl (gets_token refl)

direction_among : (d : Direction) → among (the_word (direction_word d)) (fronts (part directed_ports)) ≡ true
direction_among o.Input = refl
direction_among o.Output = refl

direction_goes : (d : Direction) (ts after : List Symbol) → ts ≡ a_word (direction_word d) ∷ after → goes (part directed_ports) ts ≡ true
direction_goes d ts after e = goes_at (part directed_ports) ts (the_word (direction_word d)) true (ap first e) (direction_among d)

direction_beyond : (depth : ℕ) (d : Direction) (ts after : List Symbol) → ts ≡ a_word (direction_word d) ∷ after → Beyond (variable_form or net_form) (part directed_ports) (both (leaf (a_word (direction_word d)))) depth ts after
direction_beyond depth d ts after e =
    subst (λ (u : List Symbol). Beyond (variable_form or net_form) (part directed_ports) (both (leaf (a_word (direction_word d)))) depth u after) (sym e) (record {
      reads = λ y at q. gets_part (gets_seq (direction_read d depth after) q);
      stops = λ deep at s. stuck_part (stuck_second (direction_read d depth after) s);
    })

pub form_beyond : (depth : ℕ) (d : Direction) (o : Option PortKind) (f : Form) (ts after mid rest : List Symbol) → ts ≡ a_word (direction_word d) ∷ after → IsKind after o mid → Gets form depth mid (form_tree f) rest →
    Beyond (part (named_by (said_of o))) (part directed_ports) (port_form_tree (Some (record { direction = d; kind = o; form = f }))) depth ts rest
form_beyond depth d o f ts after mid rest e h p =
    let named = part (named_by (said_of o)) in
    beyond_behind named (variable_form or net_form) (part directed_ports) (λ y. both (kind_tree o) (both (form_tree f) y)) (both (leaf (a_word (direction_word d)))) depth ts after rest (direction_beyond depth d ts after e)
    (beyond_behind named (form · named) (variable_form or net_form) (both (form_tree f)) (both (kind_tree o)) depth after mid rest (kind_beyond depth o after mid h) (beyond_part form named depth mid rest (form_tree f) p))

pub form_fails : (depth : ℕ) (d : Direction) (o : Option PortKind) (ts after mid : List Symbol) (e : ReadFault) → ts ≡ a_word (direction_word d) ∷ after → IsKind after o mid → FailsToRead form depth mid e → FailsToRead (part directed_ports) depth ts e
form_fails depth d o ts after mid e i h f =
    fails_by form (part directed_ports) depth depth mid ts (λ deep at s. (direction_beyond depth d ts after i).stops deep at ((kind_beyond depth o after mid h).stops deep at (stuck_first s))) e f

-- ---- names

rule_by : (said : Said) → rule (named_by said) ≡ name · value_by said · others_by said
rule_by s.Nothing = refl
rule_by s.Net = refl
rule_by s.Variable = refl

pub name_beyond : (said : Said) (depth : ℕ) (ts mid rest : List Symbol) (n : List ℕ) (x : Tree) → Gets name depth ts (name_tree n) mid → Gets (value_by said) depth mid x rest →
    Beyond (others_by said) (part (named_by said)) (λ y. both (name_tree n) (both x y)) depth ts rest
name_beyond said depth ts mid rest n x p v = record {
  reads = λ y at q. gets_part (subst (λ (g : Grammar). Gets g depth ts (both (name_tree n) (both x y)) at) (sym (rule_by said)) (gets_seq p (gets_seq v q)));
  stops = λ deep at s. stuck_part (subst (λ (g : Grammar). Stuck g depth deep ts at) (sym (rule_by said)) (stuck_second p (stuck_second v s)));
}

pub name_stuck : (said : Said) (depth : ℕ) (deep : Bool) (ts at : List Symbol) → Stuck name depth deep ts at → Stuck (part (named_by said)) depth deep ts at
name_stuck said depth deep ts at s = stuck_part (subst (λ (g : Grammar). Stuck g depth deep ts at) (sym (rule_by said)) (stuck_first s))

pub value_stuck : (said : Said) (depth : ℕ) (deep : Bool) (ts mid at : List Symbol) (n : List ℕ) → Gets name depth ts (name_tree n) mid → Stuck (value_by said) depth deep mid at → Stuck (part (named_by said)) depth deep ts at
value_stuck said depth deep ts mid at n p s = stuck_part (subst (λ (g : Grammar). Stuck g depth deep ts at) (sym (rule_by said)) (stuck_second p (stuck_first s)))

-- no value, where none may stand, and where none is next
pub no_value : (said : Said) (depth : ℕ) (ts us : List Symbol) (o : Option Expr) → value_by said ≡ nothing → o ≡ None → us ≡ ts → Gets (value_by said) depth ts (value_tree o) us
no_value said depth ts us o n e f = rw (n, e, f) gets_nothing

pub absent_value : (depth : ℕ) (ts us : List Symbol) (o : Option Expr) → goes (mark m.Assign) ts ≡ false → o ≡ None → us ≡ ts → Gets may_value depth ts (value_tree o) us
absent_value depth ts us o h e f = rw (e, f) (absent (the_mark m.Assign) (part an_expr) depth ts h)

-- ---- lengths

gets_length : (g : Grammar) (depth : ℕ) (ts rest : List Symbol) (x : Tree) → Gets g depth ts x rest → length rest ≤ length ts
gets_length g depth ts rest x p = omega (arith, ap length p.text, length-append (tokens x) rest)

pub name_shorter : (g : Grammar) (depth : ℕ) (ts mid rest : List Symbol) (n : List ℕ) (x : Tree) → Gets name depth ts (name_tree n) mid → Gets g depth mid x rest → length rest < length ts
name_shorter g depth ts mid rest n x p q = omega (arith, ap length p.text, gets_length g depth mid rest x q)

pub form_shorter : (depth : ℕ) (d : Direction) (o : Option PortKind) (x : Tree) (ts after mid rest : List Symbol) → ts ≡ a_word (direction_word d) ∷ after → IsKind after o mid → Gets form depth mid x rest → length rest < length ts
form_shorter depth d o x ts after mid rest e h p =
    omega (arith, ap length e, gets_length port_kind depth after mid (kind_tree o) (kind_gets depth o after mid h), gets_length form depth mid rest x p)

-- what is shorter behind a part, behind one that stands before it too
pub still_shorter : (ts mid : List Symbol) (r : Result (Parsed Port) ReadFault) → length mid < length ts → IfOk r (λ x. length (seen x.rest.now) < length mid) → IfOk r (λ x. length (seen x.rest.now) < length ts)
still_shorter ts mid (Ok x) h k = omega (arith, h, k)
still_shorter ts mid (Err e) h k = k

-- less is left behind one more port
pub comma_shorter : (ts after rest : List Symbol) → ts ≡ a_mark m.Comma ∷ after → length rest < length after → length rest < length ts
comma_shorter ts after rest e h = omega (arith, ap length e, h)

-- ---- a port

pub told_leads : (said : Said) (depth : ℕ) (ts mid : List Token) (f : PortForm) (r : Result (Parsed Port) ReadFault) → Beyond (part (named_by (said_of f.kind))) (part directed_ports) (port_form_tree (Some f)) depth (seen ts) (seen mid) →
    Leads (others_by (said_of f.kind)) (part (named_by (said_of f.kind))) named_port_tree depth mid r → IfOk r (λ x. x.tree.form ≡ Some f) → LeadsOn said (part directed_ports) depth ts r
told_leads said depth ts mid f (Ok x) b l e =
    subst (λ (u : Option PortForm). Beyond (others_by (said_after said u)) (part directed_ports) (λ y. port_form_tree u (named_port_tree x.tree y)) depth (seen ts) (seen x.rest.now)) (sym e)
    (beyond_behind (others_by (said_of f.kind)) (part (named_by (said_of f.kind))) (part directed_ports) (named_port_tree x.tree) (port_form_tree (Some f)) depth (seen ts) (seen mid) (seen x.rest.now) b l)
told_leads said depth ts mid f (Err e) b l h = beyond_fails (part (named_by (said_of f.kind))) (part directed_ports) (port_form_tree (Some f)) depth (seen ts) (seen mid) e b l

-- a name alone
alone_beyond : (a g : Grammar) (depth : ℕ) (ts rest : List Symbol) (x : Port) → x.form ≡ None → Beyond a g (named_port_tree x) depth ts rest → Beyond a g (port_tree x) depth ts rest
alone_beyond a g depth ts rest x e b = subst (λ (u : Option PortForm). Beyond a g (λ y. port_form_tree u (named_port_tree x y)) depth ts rest) (sym e) b

pub alone_leads : (said : Said) (depth : ℕ) (ts : List Token) (r : Result (Parsed Port) ReadFault) → Leads (others_by said) (part (named_by said)) named_port_tree depth ts r → IfOk r (λ x. x.tree.form ≡ None) → LeadsOn said (part (named_by said)) depth ts r
alone_leads said depth ts (Ok x) l e =
    subst (λ (u : Option PortForm). Beyond (others_by (said_after said u)) (part (named_by said)) (λ y. port_form_tree u (named_port_tree x.tree y)) depth (seen ts) (seen x.rest.now)) (sym e) l
alone_leads said depth ts (Err e) l h = l

pub leads_left : (said : Said) (a b : Grammar) (depth : ℕ) (ts : List Token) (r : Result (Parsed Port) ReadFault) → goes a (seen ts) ≡ true → low a ≤ depth → LeadsOn said a depth ts r → LeadsOn said (a or b) depth ts r
leads_left said a b depth ts (Ok x) h n l = record { reads = λ y at q. gets_left h (l.reads y at q); stops = λ deep at s. stuck_left h n (l.stops deep at s) }
leads_left said a b depth ts (Err e) h n l = fails_by a (a or b) depth depth (seen ts) (seen ts) (λ deep at s. stuck_left h n s) e l

pub leads_right : (said : Said) (a b : Grammar) (depth : ℕ) (ts : List Token) (r : Result (Parsed Port) ReadFault) → goes a (seen ts) ≡ false → low b ≤ depth → LeadsOn said b depth ts r → LeadsOn said (a or b) depth ts r
leads_right said a b depth ts (Ok x) h n l = record { reads = λ y at q. gets_right h (l.reads y at q); stops = λ deep at s. stuck_right h n (l.stops deep at s) }
leads_right said a b depth ts (Err e) h n l = fails_by b (a or b) depth depth (seen ts) (seen ts) (λ deep at s. stuck_right h n s) e l

-- a port with its direction, where a name alone may stand too, and the other way round
pub told_first : (said : Said) (depth : ℕ) (d : Direction) (ts : List Token) (after : List Symbol) (r : Result (Parsed Port) ReadFault) → seen ts ≡ a_word (direction_word d) ∷ after → LeadsOn said (part directed_ports) depth ts r → LeadsOn said (part directed_ports or part (named_by said)) depth ts r
told_first said depth d ts after r e l =
    let none : 0 ≤ depth = omega arith in
    leads_left said (part directed_ports) (part (named_by said)) depth ts r (direction_goes d (seen ts) after e) none l

low_by : (said : Said) → low (part (named_by said)) ≡ 0
low_by s.Nothing = refl
low_by s.Net = refl
low_by s.Variable = refl

pub named_second : (said : Said) (depth : ℕ) (ts : List Token) (r : Result (Parsed Port) ReadFault) → goes direction (seen ts) ≡ false → LeadsOn said (part (named_by said)) depth ts r → LeadsOn said (part directed_ports or part (named_by said)) depth ts r
named_second said depth ts r h l =
    let none : low (part (named_by said)) ≤ depth = omega (arith, low_by said) in
    leads_right said (part directed_ports) (part (named_by said)) depth ts r h none l

-- ---- the ports behind one

-- The ports up to the rest were read behind one of which the first is said; of the last one the second is said.
pub record Joined (before said : Said) (depth : ℕ) (start rest : List Symbol) (first : Port) (all : List Port) : Type 0 where
  pub others : List Port
  pub all_are : all ≡ first ∷ others
  pub reads : (ps : List Port) (at : List Symbol) → Gets (others_by said) depth rest (more_ports_tree ps) at → Gets (others_by before) depth start (more_ports_tree (others ++ ps)) at
  pub stops : (deep : Bool) (at : List Symbol) → Stuck (others_by said) depth deep rest at → Stuck (others_by before) depth deep start at

joined_none : (said : Said) (depth : ℕ) (ts : List Symbol) (x : Port) (xs : List Port) → xs ≡ x ∷ [] → Joined said said depth ts ts x xs
joined_none said depth ts x xs e = record { others = []; all_are = e; reads = λ ps at p. p; stops = λ deep at s. s }

-- before the second one
pub joined_start : (said : Said) (depth : ℕ) (ts us : List Token) (x : Port) (xs : List Port) → us ≡ drop 0 ts → xs ≡ x ∷ [] → Joined said said depth (seen ts) (seen us) x xs
joined_start said depth ts us x xs e f = subst (λ (u : List Token). Joined said said depth (seen ts) (seen u) x xs) (sym e) (joined_none said depth (seen ts) x xs f)

low_other : (said : Said) → low (other_by said) ≡ 0
low_other s.Nothing = refl
low_other s.Net = refl
low_other s.Variable = refl

pub joined_one : (before said : Said) (depth : ℕ) (start rest after behind : List Symbol) (x y : Port) (xs ys : List Port) → ys ≡ xs ++ y ∷ [] → Joined before said depth start rest x xs → rest ≡ a_mark m.Comma ∷ after →
    Beyond (others_by (said_after said y.form)) (other_by said) (port_tree y) depth after behind → Joined before (said_after said y.form) depth start behind x ys
joined_one before said depth start rest after behind x y xs ys e j c b = record {
  others = j.others ++ y ∷ [];
  all_are = e ∙ ap (λ u. u ++ y ∷ []) j.all_are;
  reads = λ ps at p.
      subst (λ (u : List Port). Gets (others_by before) depth start (more_ports_tree u) at) (sym (append_assoc j.others (y ∷ []) ps))
      (j.reads (y ∷ ps) at (present_read (a_mark m.Comma) (other_by said) depth rest after at (port_tree y (more_ports_tree ps)) c (b.reads (more_ports_tree ps) at p)));
  stops = λ deep at s. j.stops deep at (present_stuck (a_mark m.Comma) (other_by said) depth deep rest after at (low_other said) c (b.stops deep at s));
}

pub joined_stuck : (before said : Said) (depth : ℕ) (deep : Bool) (start rest after at : List Symbol) (x : Port) (xs : List Port) → Joined before said depth start rest x xs → rest ≡ a_mark m.Comma ∷ after → Stuck (other_by said) depth deep after at → Stuck (others_by before) depth deep start at
joined_stuck before said depth deep start rest after at x xs j c s = j.stops deep at (present_stuck (a_mark m.Comma) (other_by said) depth deep rest after at (low_other said) c s)

pub joined_all : (before said : Said) (depth : ℕ) (start rest : List Symbol) (x : Port) (xs : List Port) → Joined before said depth start rest x xs → goes (mark m.Comma) rest ≡ false → Followed (others_by before) depth start rest x xs
joined_all before said depth start rest x xs j h = record {
  others = j.others;
  all_are = j.all_are;
  gets = subst (λ (u : List Port). Gets (others_by before) depth start (more_ports_tree u) rest) (append-nil j.others) (j.reads [] rest (absent (the_mark m.Comma) (other_by said) depth rest h));
}

-- ---- the whole list

followed_answers : (a g : Grammar) (depth : ℕ) (ts mid : List Token) (x : Port) (r : Result (Parsed (Vec Port Global)) ReadFault) → Beyond a g (port_tree x) depth (seen ts) (seen mid) →
    MatchResult r (λ y. Followed a depth (seen mid) (seen y.rest.now) x y.tree.items) (λ e. FailsToRead a depth (seen mid) e) → ReadsTree g depth ts (λ ps. ports_tree ps.items) r
followed_answers a g depth ts mid x (Ok y) b f = subst (λ (u : List Port). Gets g depth (seen ts) (ports_tree u) (seen y.rest.now)) (sym f.all_are) (b.reads (more_ports_tree f.others) (seen y.rest.now) f.gets)
followed_answers a g depth ts mid x (Err e) b f = beyond_fails a g (port_tree x) depth (seen ts) (seen mid) e b f

told_within : (depth : ℕ) (ts : List Token) (r : Result (Parsed (Vec Port Global)) ReadFault) → goes (part directed_ports) (seen ts) ≡ true → ReadsTree (part directed_ports) depth ts (λ ps. ports_tree ps.items) r → ReadsTree ports_within depth ts (λ ps. ports_tree ps.items) r
told_within depth ts (Ok y) h q = gets_left h q
told_within depth ts (Err s) h q =
    let none : 0 ≤ depth = omega arith in
    fails_by (part directed_ports) ports_within depth depth (seen ts) (seen ts) (λ deep at t. stuck_left h none t) s q

pub told_answers : (depth : ℕ) (d : Direction) (ts mid : List Token) (after : List Symbol) (x : Port) (r : Result (Parsed (Vec Port Global)) ReadFault) → seen ts ≡ a_word (direction_word d) ∷ after →
    Beyond (others_by (said_after s.Nothing x.form)) (part directed_ports) (port_tree x) depth (seen ts) (seen mid) →
    MatchResult r (λ y. Followed (others_by (said_after s.Nothing x.form)) depth (seen mid) (seen y.rest.now) x y.tree.items) (λ e. FailsToRead (others_by (said_after s.Nothing x.form)) depth (seen mid) e) →
    ReadsTree ports_within depth ts (λ ps. ports_tree ps.items) r
told_answers depth d ts mid after x r e b f = told_within depth ts r (direction_goes d (seen ts) after e) (followed_answers (others_by (said_after s.Nothing x.form)) (part directed_ports) depth ts mid x r b f)

pub told_stuck : (depth : ℕ) (deep : Bool) (d : Direction) (ts after at : List Symbol) → ts ≡ a_word (direction_word d) ∷ after → Stuck (part directed_ports) depth deep ts at → Stuck ports_within depth deep ts at
told_stuck depth deep d ts after at e s =
    let none : 0 ≤ depth = omega arith in
    stuck_left (direction_goes d ts after e) none s

pub no_ports : (depth : ℕ) (ts : List Symbol) (xs : List Port) → goes direction ts ≡ false → goes name ts ≡ false → xs ≡ [] → Gets ports_within depth ts (ports_tree xs) ts
no_ports depth ts xs d h e = subst (λ (u : List Port). Gets ports_within depth ts (ports_tree u) ts) (sym e) (gets_right d (gets_right h gets_nothing))

pub names_stuck : (depth : ℕ) (deep : Bool) (ts at : List Symbol) → goes direction ts ≡ false → goes name ts ≡ true → Stuck (part port_names) depth deep ts at → Stuck ports_within depth deep ts at
names_stuck depth deep ts at d h s =
    let none : 0 ≤ depth = omega arith in
    stuck_right d none (stuck_left h none s)

names_within : (depth : ℕ) (ts : List Token) (r : Result (Parsed (Vec Port Global)) ReadFault) → goes direction (seen ts) ≡ false → goes name (seen ts) ≡ true → ReadsTree (part port_names) depth ts (λ ps. ports_tree ps.items) r → ReadsTree ports_within depth ts (λ ps. ports_tree ps.items) r
names_within depth ts (Ok y) d h q = gets_right d (gets_left h q)
names_within depth ts (Err s) d h q = fails_by (part port_names) ports_within depth depth (seen ts) (seen ts) (λ deep at t. names_stuck depth deep (seen ts) at d h t) s q

pub names_answers : (depth : ℕ) (ts mid : List Token) (x : Port) (r : Result (Parsed (Vec Port Global)) ReadFault) → goes direction (seen ts) ≡ false → goes name (seen ts) ≡ true → x.form ≡ None →
    Beyond (others_by s.Nothing) (part port_names) (named_port_tree x) depth (seen ts) (seen mid) →
    MatchResult r (λ y. Followed (others_by s.Nothing) depth (seen mid) (seen y.rest.now) x y.tree.items) (λ e. FailsToRead (others_by s.Nothing) depth (seen mid) e) →
    ReadsTree ports_within depth ts (λ ps. ports_tree ps.items) r
names_answers depth ts mid x r d h e b f =
    names_within depth ts r d h (followed_answers (others_by s.Nothing) (part port_names) depth ts mid x r (alone_beyond (others_by s.Nothing) (part port_names) depth (seen ts) (seen mid) x e b) f)
