-- Beginnings of the texts of sets.
use Rattle.std.proofs.Common.{◌≡◌, ◌⊎◌, inl, inr, ℕ, Bool, true, false, List, [], ◌∷◌, ◌++◌, refl, sym, ap, subst, ◌∙◌, append_assoc}
use Rattle.std.proofs.lemmas.Bool.{false≢true}
use Rattle.std.proofs.lemmas.List.{append_cancel_left}
use Rattle.vs_vcd_lines.specs.Cuts.{lacks, IsCut}
use Rattle.vs_vcd_lines.specs.Names.{IsName}
use Rattle.vs_vcd_lines.proofs.CutLemmas.{cut_once}
use Rattle.vs_vcd_lines.specs.Beginnings.{Begins}
use Rattle.vs_vcd_lines.specs.BeginningsParts.{BeginsSome, IsAfterName, IsEither, IsFixed, IsJoined, IsNamedThen, IsPrefixed, IsTail, IsWithinName}
use Rattle.vs_vcd_lines.proofs.TextLemmas.{begins_before, begins_more, either_begins, Tells}

-- a set has a text
abbrev pub HasText : (List ℕ → Type 0) → Type 0
HasText L = (text : List ℕ) × L text

-- no word of a set has a byte
abbrev pub AllLack : ℕ → (List ℕ → Type 0) → Type 0
AllLack byte W = (word : List ℕ) → W word → lacks byte word ≡ true

-- ---- one text, and either of two sets

pub fixed_tells : (text whole : List ℕ) (b : Bool) → Tells b (Begins text whole) → Tells b (BeginsSome (IsFixed whole) text)
fixed_tells text whole b tells = (
  λ e. record { whole = whole; is = refl; begins = tells.0 e },
  λ g. tells.1 (subst (λ w. Begins text w) g.is g.begins),
)

pub either_first : (L M : List ℕ → Type 0) (text : List ℕ) (a : Bool) → a ≡ true → Tells a (BeginsSome L text) → Tells a (BeginsSome (IsEither L M) text)
either_first L M text a is tells = (λ e. let h = tells.0 e in record { whole = h.whole; is = inl h.is; begins = h.begins }, λ g. is)

either_by : (L M : List ℕ → Type 0) (text whole : List ℕ) (a b : Bool) → a ≡ false → (BeginsSome L text → a ≡ true) → (BeginsSome M text → b ≡ true)
    → Begins text whole → L whole ⊎ M whole → b ≡ true
either_by L M text whole a b other first second begins (inl is) =
    absurd (false≢true (sym other ∙ first (record { whole = whole; is = is; begins = begins })))
either_by L M text whole a b other first second begins (inr is) = second (record { whole = whole; is = is; begins = begins })

pub either_second : (L M : List ℕ → Type 0) (text : List ℕ) (a b : Bool) → a ≡ false → Tells a (BeginsSome L text) → Tells b (BeginsSome M text)
    → Tells b (BeginsSome (IsEither L M) text)
either_second L M text a b other first second = (
  λ e. let h = second.0 e in record { whole = h.whole; is = inr h.is; begins = h.begins },
  λ g. either_by L M text g.whole a b other first.1 second.1 g.begins g.is,
)

-- ---- a beginning, and a text of a set after it

pub prefixed_after : (beginning : List ℕ) (L : List ℕ → Type 0) (text rest : List ℕ) (b : Bool) → text ≡ beginning ++ rest → Tells b (BeginsSome L rest)
    → Tells b (BeginsSome (IsPrefixed beginning L) text)
prefixed_after beginning L text rest b is tells = (
  λ e.
      let h = tells.0 e in
      record {
        whole = beginning ++ h.whole;
        is = record { rest = h.whole; is = h.is; are = refl };
        begins = (
          h.begins.0,
          ap (λ l. beginning ++ l) h.begins.1 ∙ sym (append_assoc beginning rest h.begins.0) ∙ ap (λ l. l ++ h.begins.0) (sym is),
        );
      },
  λ g.
      let same = append_cancel_left beginning g.is.rest (rest ++ g.begins.0)
      (sym g.is.are ∙ g.begins.1 ∙ ap (λ l. l ++ g.begins.0) is ∙ append_assoc beginning rest g.begins.0) in
      tells.1 (record { whole = g.is.rest; is = g.is.is; begins = (g.begins.0, same) }),
)

begun_by : (beginning text rest more : List ℕ) → ((r : List ℕ) → text ≡ beginning ++ r → ⊥) → text ++ more ≡ beginning ++ rest → Begins text beginning
begun_by beginning text rest more none e =
    elim (either_begins text more beginning rest e) [
      | inl begins ↦ begins
      | inr other ↦ absurd (none other.0 other.1)
    ]

pub prefixed_before : (beginning : List ℕ) (L : List ℕ → Type 0) (text : List ℕ) (b : Bool) → ((r : List ℕ) → text ≡ beginning ++ r → ⊥) → HasText L
    → Tells b (Begins text beginning) → Tells b (BeginsSome (IsPrefixed beginning L) text)
prefixed_before beginning L text b none some tells = (
  λ e.
      record {
        whole = beginning ++ some.0;
        is = record { rest = some.0; is = some.1; are = refl };
        begins = begins_more text beginning some.0 (tells.0 e);
      },
  λ g. tells.1 (begun_by beginning text g.is.rest g.begins.0 none (sym g.begins.1 ∙ g.is.are)),
)

-- ---- a word, a byte that it lacks, and a text of a set after it

joined_parts : (byte : ℕ) (W L : List ℕ → Type 0) (text word rest : List ℕ) → AllLack byte W → IsCut byte text word rest → (g : BeginsSome (IsJoined byte W L) text)
    → (g.is.word ≡ word) × (g.is.rest ≡ rest ++ g.begins.0)
joined_parts byte W L text word rest lack cut g =
    cut_once byte g.is.word word g.is.rest (rest ++ g.begins.0) (lack g.is.word g.is.is_word) cut.first
    (sym g.is.are ∙ g.begins.1 ∙ ap (λ l. l ++ g.begins.0) cut.is ∙ append_assoc word (byte ∷ rest) g.begins.0)

pub joined_cut : (byte : ℕ) (W L : List ℕ → Type 0) (text word rest : List ℕ) (b : Bool) → AllLack byte W → IsCut byte text word rest → W word
    → Tells b (BeginsSome L rest) → Tells b (BeginsSome (IsJoined byte W L) text)
joined_cut byte W L text word rest b lack cut is tells = (
  λ e.
      let h = tells.0 e in
      record {
        whole = word ++ byte ∷ h.whole;
        is = record { word = word; rest = h.whole; is_word = is; is_rest = h.is; are = refl };
        begins = (
          h.begins.0,
          ap (λ l. word ++ byte ∷ l) h.begins.1 ∙ sym (append_assoc word (byte ∷ rest) h.begins.0) ∙ ap (λ l. l ++ h.begins.0) (sym cut.is),
        );
      },
  λ g.
      let parts = joined_parts byte W L text word rest lack cut g in
      tells.1 (record { whole = g.is.rest; is = g.is.is_rest; begins = (g.begins.0, parts.1) }),
)

pub joined_other : (byte : ℕ) (W L : List ℕ → Type 0) (text word rest : List ℕ) (b : Bool) → AllLack byte W → IsCut byte text word rest → b ≡ false
    → Tells b (W word) → Tells b (BeginsSome (IsJoined byte W L) text)
joined_other byte W L text word rest b lack cut other tells = (
  λ e. absurd (false≢true (sym other ∙ e)),
  λ g. tells.1 (subst W (joined_parts byte W L text word rest lack cut g).0 g.is.is_word),
)

pub joined_uncut : (byte : ℕ) (W L : List ℕ → Type 0) (text : List ℕ) (b : Bool) → lacks byte text ≡ true → HasText L → Tells b (BeginsSome W text)
    → Tells b (BeginsSome (IsJoined byte W L) text)
joined_uncut byte W L text b one some tells = (
  λ e.
      let h = tells.0 e in
      record {
        whole = h.whole ++ byte ∷ some.0;
        is = record { word = h.whole; rest = some.0; is_word = h.is; is_rest = some.1; are = refl };
        begins = begins_more text h.whole (byte ∷ some.0) h.begins;
      },
  λ g.
      let within = begins_before byte text g.begins.0 g.is.word g.is.rest one (sym g.begins.1 ∙ g.is.are) in
      tells.1 (record { whole = g.is.word; is = g.is.is_word; begins = within }),
)

pub joined_some : (byte : ℕ) (W L : List ℕ → Type 0) → HasText W → HasText L → HasText (IsJoined byte W L)
joined_some byte W L word rest =
    (word.0 ++ byte ∷ rest.0, record { word = word.0; rest = rest.0; is_word = word.1; is_rest = rest.1; are = refl })

-- ---- a name, and a text of a set after it

-- each text of a set shows where the name before it ends
abbrev pub AreTails : (List ℕ → Type 0) → Type 0
AreTails L = (text : List ℕ) → L text → IsTail text

pub named_after : (L : List ℕ → Type 0) (text rest : List ℕ) (b : Bool) → AreTails L → IsAfterName text rest → Tells b (BeginsSome L rest)
    → Tells b (BeginsSome (IsNamedThen L) text)
named_after L text rest b tails after tells = (
  λ e.
      let h = tells.0 e in
      record {
        whole = after.name ++ h.whole;
        is = record { name = after.name; rest = h.whole; named = after.named; is = h.is; are = refl };
        begins = (
          h.begins.0,
          ap (λ l. after.name ++ l) h.begins.1 ∙ sym (append_assoc after.name rest h.begins.0) ∙ ap (λ l. l ++ h.begins.0) (sym after.is),
        );
      },
  λ g.
      let same = after.once g.is.name g.is.rest g.begins.0 g.is.named (tails g.is.rest g.is.is) (sym g.begins.1 ∙ g.is.are) in
      tells.1 (record { whole = g.is.rest; is = g.is.is; begins = (g.begins.0, sym same) }),
)

pub named_within : (L : List ℕ → Type 0) (text : List ℕ) (b : Bool) → AreTails L → HasText L → IsWithinName text → Tells b (BeginsSome IsName text)
    → Tells b (BeginsSome (IsNamedThen L) text)
named_within L text b tails some within tells = (
  λ e.
      let h = tells.0 e in
      record {
        whole = h.whole ++ some.0;
        is = record { name = h.whole; rest = some.0; named = h.is; is = some.1; are = refl };
        begins = begins_more text h.whole some.0 h.begins;
      },
  λ g. tells.1
      (record {
        whole = g.is.name;
        is = g.is.named;
        begins = within g.is.name g.is.rest g.begins.0 g.is.named (tails g.is.rest g.is.is) (sym g.begins.1 ∙ g.is.are);
      }),
)

pub named_some : (L : List ℕ → Type 0) → HasText L → HasText (IsNamedThen L)
named_some L rest = (97 ∷ rest.0, record { name = 97 ∷ []; rest = rest.0; named = inl refl; is = rest.1; are = refl })
