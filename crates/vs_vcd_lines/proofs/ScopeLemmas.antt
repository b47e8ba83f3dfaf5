-- Beginnings of the lines of scopes.
use Rattle.std.proofs.Common.{◌≡◌, inl, inr, ℕ, ◌<◌, Bool, true, false, List, ◌∷◌, ◌++◌, codes, pos, refl, sym, ap, subst, ◌∙◌, append_assoc, arith}
use Rattle.std.specs.Fmt.{signed_decimal}
use Rattle.std.specs.Int.{IsInRange}
use Rattle.vs_design.specs.declared.design.ScopeKind.{ScopeKind}
use Rattle.vs_design.specs.declared.design.ScopeKind.TheVariants.{Module, Begin}
use Rattle.vs_vcd_lines.specs.vs_vcd_writing.specs.Text.{scope_line}
use Rattle.vs_vcd_lines.specs.Names.{IsName, IsNumber, IsScopeName}
use Rattle.vs_vcd_lines.specs.Names.IsShort.{short}
use Rattle.vs_vcd_lines.proofs.NameLemmas.{lacks-signed_decimal}
use Rattle.vs_vcd_lines.specs.Cuts.{lacks}
use Rattle.vs_vcd_lines.specs.Beginnings.{Begins, BeginsScope}
use Rattle.vs_vcd_lines.specs.BeginningsParts.{scope_beginning, AreBoundsEnd, BeginsSome, IsEnd, IsLast, IsNamedThen, IsPrefixed, IsScopeEnd, IsTail, IsTurnEnd}
use Rattle.vs_vcd_lines.proofs.PartLemmas.{either_first, either_second, fixed_tells, joined_some, named_some, prefixed_after, prefixed_before, AllLack, HasText}
use Rattle.vs_vcd_lines.proofs.TextLemmas.{Tells}

-- ---- numbers and the end

out_of_digits : (byte : ℕ) → (57 < byte) → IsInRange 48 57 byte → ⊥
out_of_digits byte above h = omega (arith, above, h)

number_lacks : (byte : ℕ) → 57 < byte → AllLack byte IsNumber
number_lacks byte above word h =
    ap (lacks byte) h.is ∙ lacks-signed_decimal byte h.value (out_of_digits byte above) (λ e. absurd (omega (arith, above, e))) h.short

pub numbers_lack_bracket : AllLack 93 IsNumber
numbers_lack_bracket = number_lacks 93 (omega arith)

pub numbers_lack_colon : AllLack 58 IsNumber
numbers_lack_colon = number_lacks 58 (omega arith)

pub end_some : HasText IsEnd
end_some = (codes " $end", refl)

pub number_some : HasText IsNumber
number_some = (signed_decimal (pos 0), record { value = pos 0; short = short 0 (omega arith); is = refl })

pub last_some : HasText IsLast
last_some = joined_some 93 IsNumber IsEnd number_some end_some

pub bounds_some : HasText AreBoundsEnd
bounds_some = joined_some 58 IsNumber IsLast number_some last_some

pub end_tail : (text : List ℕ) → IsEnd text → IsTail text
end_tail text e = record { first = 32; rest = codes "$end"; are = e; other = refl }

-- ---- what stands after the name of a scope

pub scope_tails : (kind : ScopeKind) (text : List ℕ) → IsScopeEnd kind text → IsTail text
scope_tails Module text e = end_tail text e
scope_tails Begin text (inl e) = end_tail text e
scope_tails Begin text (inr h) = record { first = 91; rest = h.rest; are = h.are; other = refl }

pub scope_end_some : (kind : ScopeKind) → HasText (IsScopeEnd kind)
scope_end_some Module = end_some
scope_end_some Begin = (codes " $end", inl refl)

pub scope_name_some : (kind : ScopeKind) → HasText (IsNamedThen (IsScopeEnd kind))
scope_name_some kind = named_some (IsScopeEnd kind) (scope_end_some kind)

pub module_end : (kind : ScopeKind) (text : List ℕ) (b : Bool) → kind ≡ Module → Tells b (Begins text (codes " $end")) → Tells b (BeginsSome (IsScopeEnd kind) text)
module_end kind text b is tells =
    subst (λ k. Tells b (BeginsSome (IsScopeEnd k) text)) (sym is) (fixed_tells text (codes " $end") b tells)

pub block_first : (kind : ScopeKind) (text : List ℕ) (a : Bool) → kind ≡ Begin → a ≡ true → Tells a (Begins text (codes " $end"))
    → Tells a (BeginsSome (IsScopeEnd kind) text)
block_first kind text a is told tells =
    subst (λ k. Tells a (BeginsSome (IsScopeEnd k) text)) (sym is)
    (either_first IsEnd IsTurnEnd text a told (fixed_tells text (codes " $end") a tells))

pub block_second : (kind : ScopeKind) (text : List ℕ) (a b : Bool) → kind ≡ Begin → a ≡ false → Tells a (Begins text (codes " $end"))
    → Tells b (BeginsSome IsTurnEnd text) → Tells b (BeginsSome (IsScopeEnd kind) text)
block_second kind text a b is other tells turns =
    subst (λ k. Tells b (BeginsSome (IsScopeEnd k) text)) (sym is)
    (either_second IsEnd IsTurnEnd text a b other (fixed_tells text (codes " $end") a tells) turns)

-- ---- the line

turn_assoc : (name number e : List ℕ) → (name ++ codes "[" ++ number ++ codes "]") ++ e ≡ name ++ (91 ∷ (number ++ (93 ∷ e)))
turn_assoc name number e =
    let opened = name ++ codes "[" in
    append_assoc (opened ++ number) (codes "]") e ∙ append_assoc opened number (93 ∷ e) ∙ append_assoc name (codes "[") (number ++ (93 ∷ e))

scope_form : (kind : ScopeKind) (name : List ℕ) → scope_line kind name ≡ scope_beginning kind ++ (name ++ codes " $end")
scope_form Module name = refl
scope_form Begin name = refl

-- a name and what stands after it are the name of a scope and the end
record IsOfScope (kind : ScopeKind) (name rest : List ℕ) : Type 0 where
  pub full : List ℕ
  pub named : IsScopeName kind full
  pub are : name ++ rest ≡ full ++ codes " $end"

of_scope : (kind : ScopeKind) (name rest : List ℕ) → IsName name → IsScopeEnd kind rest → IsOfScope kind name rest
of_scope Module name rest named e = record { full = name; named = named; are = ap (λ l. name ++ l) e }
of_scope Begin name rest named (inl e) = record { full = name; named = inl named; are = ap (λ l. name ++ l) e }
of_scope Begin name rest named (inr h) =
    let number = h.is.is_word in
    let digits = signed_decimal number.value in
    let tail : rest ≡ 91 ∷ (digits ++ (93 ∷ codes " $end")) =
    h.are ∙ ap (λ l. 91 ∷ l) (h.is.are ∙ ap (λ w. w ++ 93 ∷ h.is.rest) number.is ∙ ap (λ l. digits ++ 93 ∷ l) h.is.is_rest) in
    record {
      full = name ++ codes "[" ++ digits ++ codes "]";
      named = inr (record { name = name; value = number.value; named = named; short = number.short; is = refl });
      are = ap (λ l. name ++ l) tail ∙ sym (turn_assoc name digits (codes " $end"));
    }

scope_rest : (kind : ScopeKind) (full : List ℕ) → IsScopeName kind full → IsNamedThen (IsScopeEnd kind) (full ++ codes " $end")
scope_rest Module full named = record { name = full; rest = codes " $end"; named = named; is = refl; are = refl }
scope_rest Begin full (inl named) = record { name = full; rest = codes " $end"; named = named; is = inl refl; are = refl }
scope_rest Begin full (inr t) =
    let digits = signed_decimal t.value in
    record {
      name = t.name;
      rest = 91 ∷ (digits ++ (93 ∷ codes " $end"));
      named = t.named;
      is = inr
          (record {
            rest = digits ++ (93 ∷ codes " $end");
            is = record {
              word = digits;
              rest = codes " $end";
              is_word = record { value = t.value; short = t.short; is = refl };
              is_rest = refl;
              are = refl;
            };
            are = refl;
          });
      are = ap (λ l. l ++ codes " $end") t.is ∙ turn_assoc t.name digits (codes " $end");
    }

pub scope_told : (kind : ScopeKind) (part : List ℕ) (b : Bool) → Tells b (BeginsSome (IsPrefixed (scope_beginning kind) (IsNamedThen (IsScopeEnd kind))) part)
    → Tells b (BeginsScope kind part)
scope_told kind part b tells = (
  λ e.
      let h = tells.0 e in
      let n = h.is.is in
      let s = of_scope kind n.name n.rest n.named n.is in
      record {
        name = s.full;
        named = s.named;
        begins = (
          h.begins.0,
          scope_form kind s.full ∙ ap (λ l. scope_beginning kind ++ l) (sym s.are ∙ sym n.are) ∙ sym h.is.are ∙ h.begins.1,
        );
      },
  λ g. tells.1
      (record {
        whole = scope_beginning kind ++ (g.name ++ codes " $end");
        is = record { rest = g.name ++ codes " $end"; is = scope_rest kind g.name g.named; are = refl };
        begins = (g.begins.0, sym (scope_form kind g.name) ∙ g.begins.1);
      }),
)

pub scope_after : (kind : ScopeKind) (part rest beginning : List ℕ) (b : Bool) → beginning ≡ scope_beginning kind → part ≡ beginning ++ rest
    → Tells b (BeginsSome (IsNamedThen (IsScopeEnd kind)) rest) → Tells b (BeginsScope kind part)
scope_after kind part rest beginning b same is tells =
    scope_told kind part b
    (prefixed_after (scope_beginning kind) (IsNamedThen (IsScopeEnd kind)) part rest b (is ∙ ap (λ l. l ++ rest) same) tells)

pub scope_before : (kind : ScopeKind) (part beginning : List ℕ) (b : Bool) → beginning ≡ scope_beginning kind
    → ((rest : List ℕ) → part ≡ beginning ++ rest → ⊥) → Tells b (Begins part beginning) → Tells b (BeginsScope kind part)
scope_before kind part beginning b same none tells =
    scope_told kind part b
    (prefixed_before (scope_beginning kind) (IsNamedThen (IsScopeEnd kind)) part b (λ rest e. none rest (e ∙ ap (λ l. l ++ rest) (sym same))) (scope_name_some kind)
    (subst (λ l. Tells b (Begins part l)) same tells))
