-- The lines of the header and of times.
use Rattle.std.proofs.Common.{◌≡◌, ℕ, ◌<◌, ◌^◌, Option, Some, None, MatchOption, Bor, List, [], ◌∷◌, ◌++◌, codes, decimal, subst, refl, sym, ap, ◌∙◌, append_assoc, arith}
use Rattle.std.proofs.lemmas.List.{append_cancel_left, append_cancel_right}
use Rattle.vs_design.specs.declared.design.ScopeKind.{ScopeKind}
use Rattle.vs_design.specs.declared.timescale.TimeSpan.{TimeSpan}
use Rattle.vs_vcd_writing.specs.Text.{scope_word, magnitude_word, unit_word, span_text, scope_line, time_line}
use Rattle.vs_design.specs.declared.design.ScopeKind.TheVariants.{Module, Begin}
use Rattle.vs_vcd_lines.specs.Cuts.{IsCut}
use Rattle.vs_vcd_lines.specs.Names.{IsScopeName}
use Rattle.vs_vcd_lines.specs.Lines.{span_line}
use Rattle.vs_vcd_lines.proofs.CutLemmas.{cut_once}
use Rattle.vs_vcd_lines.proofs.WordLemmas.{magnitude_lacks, scope_lacks}

pub between_some : (line beginning rest end middle : List ℕ) → line ≡ beginning ++ rest → rest ≡ middle ++ end → line ≡ beginning ++ middle ++ end
between_some line beginning rest end middle first last = first ∙ ap (λ l. beginning ++ l) last ∙ sym (append_assoc beginning middle end)

pub between_none : (line beginning rest end middle : List ℕ) → line ≡ beginning ++ rest → line ≡ beginning ++ middle ++ end → rest ≡ middle ++ end
between_none line beginning rest end middle first is =
    append_cancel_left beginning rest (middle ++ end) (sym first ∙ is ∙ append_assoc beginning middle end)

pub between_is : (line beginning rest end : List ℕ) (r : Option (Bor (List ℕ))) → line ≡ beginning ++ rest
    → MatchOption r ((front : List ℕ) → rest ≡ front ++ end → ⊥) (λ front. rest ≡ front.now ++ end)
    → MatchOption r ((middle : List ℕ) → line ≡ beginning ++ middle ++ end → ⊥) (λ middle. line ≡ beginning ++ middle.now ++ end)
between_is line beginning rest end (Some middle) first h = between_some line beginning rest end middle.now first h
between_is line beginning rest end None first h = λ middle is. h middle (between_none line beginning rest end middle first is)

-- what stands between a beginning and an end, once
pub middle_once : (beginning a b end : List ℕ) → beginning ++ a ++ end ≡ beginning ++ b ++ end → a ≡ b
middle_once beginning a b end e = append_cancel_left beginning a b (append_cancel_right (beginning ++ a) (beginning ++ b) end e)

pub time_is : (line rest : List ℕ) (r : Option ℕ) → line ≡ codes "#" ++ rest
    → MatchOption r ((n : ℕ) → n < 2 ^ 64 → rest ≡ decimal n → ⊥) (λ n. (n < 2 ^ 64) × (rest ≡ decimal n))
    → MatchOption r ((n : ℕ) → n < 2 ^ 64 → line ≡ time_line n → ⊥) (λ n. (n < 2 ^ 64) × (line ≡ time_line n))
time_is line rest (Some n) first h = (h.0, first ∙ ap (λ l. 35 ∷ l) h.1)
time_is line rest None first h = λ n small is. h n small (append_cancel_left (codes "#") rest (decimal n) (sym first ∙ is))

-- ---- what a tick stands for

pub span_middle : (line middle : List ℕ) (span : TimeSpan) → line ≡ codes "$timescale " ++ middle ++ codes " $end" → line ≡ span_line span
    → middle ≡ magnitude_word span.magnitude ++ (32 ∷ unit_word span.unit)
span_middle line middle span first is =
    middle_once (codes "$timescale ") middle (span_text span) (codes " $end") (sym first ∙ is)
    ∙ append_assoc (magnitude_word span.magnitude) (codes " ") (unit_word span.unit)

pub span_parts : (line middle count word : List ℕ) (span : TimeSpan) → line ≡ codes "$timescale " ++ middle ++ codes " $end" → IsCut 32 middle count word
    → line ≡ span_line span → (count ≡ magnitude_word span.magnitude) × (word ≡ unit_word span.unit)
span_parts line middle count word span first cut is =
    cut_once 32 count (magnitude_word span.magnitude) word (unit_word span.unit) cut.first (magnitude_lacks span.magnitude)
    (sym cut.is ∙ span_middle line middle span first is)

pub span_made : (line middle count word : List ℕ) (span : TimeSpan) → line ≡ codes "$timescale " ++ middle ++ codes " $end" → IsCut 32 middle count word
    → count ≡ magnitude_word span.magnitude → word ≡ unit_word span.unit → line ≡ span_line span
span_made line middle count word span first cut e f =
    first
    ∙ ap (λ l. codes "$timescale " ++ l ++ codes " $end")
    (cut.is ∙ ap (λ l. l ++ (32 ∷ word)) e ∙ ap (λ l. magnitude_word span.magnitude ++ (32 ∷ l)) f
    ∙ sym (append_assoc (magnitude_word span.magnitude) (codes " ") (unit_word span.unit)))

-- ---- scopes

pub scope_assoc : (beginning word name end : List ℕ) → beginning ++ word ++ codes " " ++ name ++ end ≡ beginning ++ (word ++ (32 ∷ name)) ++ end
scope_assoc beginning word name end =
    ap (λ l. l ++ end)
    (append_assoc (beginning ++ word) (codes " ") name ∙ append_assoc beginning word (32 ∷ name))

pub scope_middle : (line middle : List ℕ) (kind : ScopeKind) (name : List ℕ) → line ≡ codes "$scope " ++ middle ++ codes " $end" → line ≡ scope_line kind name
    → middle ≡ scope_word kind ++ (32 ∷ name)
scope_middle line middle kind name first is =
    middle_once (codes "$scope ") middle (scope_word kind ++ (32 ∷ name)) (codes " $end")
    (sym first ∙ is ∙ scope_assoc (codes "$scope ") (scope_word kind) name (codes " $end"))

pub scope_parts : (line middle word rest : List ℕ) (kind : ScopeKind) (name : List ℕ) → line ≡ codes "$scope " ++ middle ++ codes " $end"
    → IsCut 32 middle word rest → line ≡ scope_line kind name → (word ≡ scope_word kind) × (rest ≡ name)
scope_parts line middle word rest kind name first cut is =
    cut_once 32 word (scope_word kind) rest name cut.first (scope_lacks kind) (sym cut.is ∙ scope_middle line middle kind name first is)

pub scope_made : (line middle word name : List ℕ) (kind : ScopeKind) → line ≡ codes "$scope " ++ middle ++ codes " $end" → IsCut 32 middle word name
    → word ≡ scope_word kind → line ≡ scope_line kind name
scope_made line middle word name kind first cut e =
    first ∙ ap (λ l. codes "$scope " ++ l ++ codes " $end") (cut.is ∙ ap (λ l. l ++ (32 ∷ name)) e)
    ∙ sym (scope_assoc (codes "$scope ") (scope_word kind) name (codes " $end"))

abbrev first_or : ℕ → List ℕ → ℕ
first_or d [] = d
first_or d (b ∷ bs) = b

m≢b : (a b : ℕ) → a ≡ 109 → b ≡ 98 → a ≡ b → ⊥
m≢b a b p q e = omega (arith, p, q, e)

-- a word is of one kind of scope
word_once : (a b : ScopeKind) → scope_word a ≡ scope_word b → a ≡ b
word_once Module Module e = refl
word_once Module Begin e = absurd (m≢b (first_or 0 (scope_word Module)) (first_or 0 (scope_word Begin)) refl refl (ap (first_or 0) e))
word_once Begin Module e = absurd (m≢b (first_or 0 (scope_word Module)) (first_or 0 (scope_word Begin)) refl refl (sym (ap (first_or 0) e)))
word_once Begin Begin e = refl

pub scope_named : (word : List ℕ) (a b : ScopeKind) (rest name : List ℕ) → word ≡ scope_word a → word ≡ scope_word b → rest ≡ name → IsScopeName b name
    → IsScopeName a rest
scope_named word a b rest name e f same named =
    subst (λ k. IsScopeName k rest) (sym (word_once a b (sym e ∙ f))) (subst (IsScopeName b) (sym same) named)
