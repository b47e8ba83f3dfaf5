-- Reserved words, marks and operators: the texts that are tokens of their own.
use Rattle.std.specs.Prelude.{ℕ, List, [], ◌∷◌, Option, None, Some, if◌then◌else◌, codes, map}
use Rattle.std.specs.Borrow.{Bor}
use Rattle.std.specs.Str.{bytes_eq}
use Rattle.vs_lexer.specs.declared.token.Kind.{Kind}
use Rattle.vs_lexer.specs.declared.token.Kind.TheVariants as k
use Rattle.vs_lexer.specs.declared.token.Mark.TheVariants as m
use Rattle.vs_lexer.specs.declared.token.Word.TheVariants as w

-- what stands beside a text in a table
abbrev pub kind_in : List (List ℕ × Kind) → List ℕ → Option Kind
kind_in [] text = None
kind_in (e ∷ es) text = if bytes_eq e.0 text then Some e.1 else kind_in es text

-- a table without where its texts lie in memory
abbrev pub table_of : List (Bor (List ℕ) × Kind) → List (List ℕ × Kind)
table_of table = map (λ e. (e.0.now, e.1)) table

-- the reserved words of the subset (annex B)
abbrev pub words : List (List ℕ × Kind)
words =
    (codes "always", k.Word w.Always) ∷
    (codes "assign", k.Word w.Assign) ∷
    (codes "begin", k.Word w.Begin) ∷
    (codes "case", k.Word w.Case) ∷
    (codes "casex", k.Word w.Casex) ∷
    (codes "casez", k.Word w.Casez) ∷
    (codes "default", k.Word w.Default) ∷
    (codes "else", k.Word w.Else) ∷
    (codes "end", k.Word w.End) ∷
    (codes "endcase", k.Word w.Endcase) ∷
    (codes "endgenerate", k.Word w.Endgenerate) ∷
    (codes "endmodule", k.Word w.Endmodule) ∷
    (codes "for", k.Word w.For) ∷
    (codes "forever", k.Word w.Forever) ∷
    (codes "generate", k.Word w.Generate) ∷
    (codes "genvar", k.Word w.Genvar) ∷
    (codes "if", k.Word w.If) ∷
    (codes "initial", k.Word w.Initial) ∷
    (codes "input", k.Word w.Input) ∷
    (codes "integer", k.Word w.Integer) ∷
    (codes "localparam", k.Word w.Localparam) ∷
    (codes "module", k.Word w.Module) ∷
    (codes "negedge", k.Word w.Negedge) ∷
    (codes "or", k.Word w.Or) ∷
    (codes "output", k.Word w.Output) ∷
    (codes "parameter", k.Word w.Parameter) ∷
    (codes "posedge", k.Word w.Posedge) ∷
    (codes "reg", k.Word w.Reg) ∷
    (codes "repeat", k.Word w.Repeat) ∷
    (codes "signed", k.Word w.Signed) ∷
    (codes "while", k.Word w.While) ∷
    (codes "wire", k.Word w.Wire) ∷
    []

-- the reserved words that the subset leaves out, those that begin with a letter up to h (annex B)
abbrev pub left_out_words_to_h : List (List ℕ × Kind)
left_out_words_to_h =
    (codes "and", k.LeftOut) ∷
    (codes "automatic", k.LeftOut) ∷
    (codes "buf", k.LeftOut) ∷
    (codes "bufif0", k.LeftOut) ∷
    (codes "bufif1", k.LeftOut) ∷
    (codes "cell", k.LeftOut) ∷
    (codes "cmos", k.LeftOut) ∷
    (codes "config", k.LeftOut) ∷
    (codes "deassign", k.LeftOut) ∷
    (codes "defparam", k.LeftOut) ∷
    (codes "design", k.LeftOut) ∷
    (codes "disable", k.LeftOut) ∷
    (codes "edge", k.LeftOut) ∷
    (codes "endconfig", k.LeftOut) ∷
    (codes "endfunction", k.LeftOut) ∷
    (codes "endprimitive", k.LeftOut) ∷
    (codes "endspecify", k.LeftOut) ∷
    (codes "endtable", k.LeftOut) ∷
    (codes "endtask", k.LeftOut) ∷
    (codes "event", k.LeftOut) ∷
    (codes "force", k.LeftOut) ∷
    (codes "fork", k.LeftOut) ∷
    (codes "function", k.LeftOut) ∷
    (codes "highz0", k.LeftOut) ∷
    (codes "highz1", k.LeftOut) ∷
    []

-- the reserved words that the subset leaves out, those that begin with a letter from i to r (annex B)
abbrev pub left_out_words_to_r : List (List ℕ × Kind)
left_out_words_to_r =
    (codes "ifnone", k.LeftOut) ∷
    (codes "incdir", k.LeftOut) ∷
    (codes "include", k.LeftOut) ∷
    (codes "inout", k.LeftOut) ∷
    (codes "instance", k.LeftOut) ∷
    (codes "join", k.LeftOut) ∷
    (codes "large", k.LeftOut) ∷
    (codes "liblist", k.LeftOut) ∷
    (codes "library", k.LeftOut) ∷
    (codes "macromodule", k.LeftOut) ∷
    (codes "medium", k.LeftOut) ∷
    (codes "nand", k.LeftOut) ∷
    (codes "nmos", k.LeftOut) ∷
    (codes "nor", k.LeftOut) ∷
    (codes "noshowcancelled", k.LeftOut) ∷
    (codes "not", k.LeftOut) ∷
    (codes "notif0", k.LeftOut) ∷
    (codes "notif1", k.LeftOut) ∷
    (codes "pmos", k.LeftOut) ∷
    (codes "primitive", k.LeftOut) ∷
    (codes "pull0", k.LeftOut) ∷
    (codes "pull1", k.LeftOut) ∷
    (codes "pulldown", k.LeftOut) ∷
    (codes "pullup", k.LeftOut) ∷
    (codes "pulsestyle_ondetect", k.LeftOut) ∷
    (codes "pulsestyle_onevent", k.LeftOut) ∷
    (codes "rcmos", k.LeftOut) ∷
    (codes "real", k.LeftOut) ∷
    (codes "realtime", k.LeftOut) ∷
    (codes "release", k.LeftOut) ∷
    (codes "rnmos", k.LeftOut) ∷
    (codes "rpmos", k.LeftOut) ∷
    (codes "rtran", k.LeftOut) ∷
    (codes "rtranif0", k.LeftOut) ∷
    (codes "rtranif1", k.LeftOut) ∷
    []

-- the reserved words that the subset leaves out, those that begin with a letter from s on (annex B)
abbrev pub left_out_words_to_x : List (List ℕ × Kind)
left_out_words_to_x =
    (codes "scalared", k.LeftOut) ∷
    (codes "showcancelled", k.LeftOut) ∷
    (codes "small", k.LeftOut) ∷
    (codes "specify", k.LeftOut) ∷
    (codes "specparam", k.LeftOut) ∷
    (codes "strong0", k.LeftOut) ∷
    (codes "strong1", k.LeftOut) ∷
    (codes "supply0", k.LeftOut) ∷
    (codes "supply1", k.LeftOut) ∷
    (codes "table", k.LeftOut) ∷
    (codes "task", k.LeftOut) ∷
    (codes "time", k.LeftOut) ∷
    (codes "tran", k.LeftOut) ∷
    (codes "tranif0", k.LeftOut) ∷
    (codes "tranif1", k.LeftOut) ∷
    (codes "tri", k.LeftOut) ∷
    (codes "tri0", k.LeftOut) ∷
    (codes "tri1", k.LeftOut) ∷
    (codes "triand", k.LeftOut) ∷
    (codes "trior", k.LeftOut) ∷
    (codes "trireg", k.LeftOut) ∷
    (codes "unsigned", k.LeftOut) ∷
    (codes "use", k.LeftOut) ∷
    (codes "uwire", k.LeftOut) ∷
    (codes "vectored", k.LeftOut) ∷
    (codes "wait", k.LeftOut) ∷
    (codes "wand", k.LeftOut) ∷
    (codes "weak0", k.LeftOut) ∷
    (codes "weak1", k.LeftOut) ∷
    (codes "wor", k.LeftOut) ∷
    (codes "xnor", k.LeftOut) ∷
    (codes "xor", k.LeftOut) ∷
    []

-- marks and operators of one byte (clauses 3.4 and 5)
abbrev pub one_byte_marks : List (List ℕ × Kind)
one_byte_marks =
    (codes "#", k.Mark m.Hash) ∷
    (codes "(", k.Mark m.Open) ∷
    (codes ")", k.Mark m.Close) ∷
    (codes ";", k.Mark m.Semicolon) ∷
    (codes ",", k.Mark m.Comma) ∷
    (codes "=", k.Mark m.Assign) ∷
    (codes "[", k.Mark m.OpenBracket) ∷
    (codes "]", k.Mark m.CloseBracket) ∷
    (codes ":", k.Mark m.Colon) ∷
    (codes ".", k.Mark m.Dot) ∷
    (codes "@", k.Mark m.At) ∷
    (codes "{", k.Mark m.OpenBrace) ∷
    (codes "}", k.Mark m.CloseBrace) ∷
    (codes "?", k.Mark m.Question) ∷
    (codes "+", k.Mark m.Plus) ∷
    (codes "-", k.Mark m.Minus) ∷
    (codes "*", k.Mark m.Star) ∷
    (codes "/", k.Mark m.Slash) ∷
    (codes "%", k.Mark m.Percent) ∷
    (codes "!", k.Mark m.Not) ∷
    (codes "~", k.Mark m.Tilde) ∷
    (codes "&", k.Mark m.And) ∷
    (codes "|", k.Mark m.Or) ∷
    (codes "^", k.Mark m.Xor) ∷
    (codes "<", k.Mark m.Less) ∷
    (codes ">", k.Mark m.Greater) ∷
    []

-- marks and operators of two bytes (clauses 3.4 and 5)
abbrev pub two_byte_marks : List (List ℕ × Kind)
two_byte_marks =
    (codes "+:", k.Mark m.PlusColon) ∷
    (codes "-:", k.Mark m.MinusColon) ∷
    (codes "~&", k.Mark m.Nand) ∷
    (codes "~|", k.Mark m.Nor) ∷
    (codes "~^", k.Mark m.Xnor) ∷
    (codes "^~", k.Mark m.XorNot) ∷
    (codes "<<", k.Mark m.ShiftLeft) ∷
    (codes ">>", k.Mark m.ShiftRight) ∷
    (codes "<=", k.Mark m.LessEqual) ∷
    (codes ">=", k.Mark m.GreaterEqual) ∷
    (codes "==", k.Mark m.Equal) ∷
    (codes "!=", k.Mark m.NotEqual) ∷
    (codes "&&", k.Mark m.LogicalAnd) ∷
    (codes "||", k.Mark m.LogicalOr) ∷
    (codes "**", k.Mark m.Power) ∷
    (codes "->", k.Mark m.Trigger) ∷
    (codes "=>", k.Mark m.ParallelPath) ∷
    (codes "*>", k.Mark m.FullPath) ∷
    []

-- marks and operators of three bytes (clauses 3.4 and 5)
abbrev pub three_byte_marks : List (List ℕ × Kind)
three_byte_marks =
    (codes "<<<", k.Mark m.ArithmeticShiftLeft) ∷
    (codes ">>>", k.Mark m.ArithmeticShiftRight) ∷
    (codes "===", k.Mark m.CaseEqual) ∷
    (codes "!==", k.Mark m.CaseNotEqual) ∷
    (codes "&&&", k.Mark m.EventAnd) ∷
    []
