-- The text of a value whose numbers are unsigned and whose texts are UTF-8 reads back as that value.
use Rattle.std.proofs.Common.{◌≡◌, ℕ, ◌^◌, ◌<◌, ◌≤◌, true, false, Bool, List, [], ◌∷◌, Some, IsUtf8, option_map, option_and_then, decimal, refl, sym, ap, ◌∙◌, append-nil}
use Rattle.std.proofs.lemmas.Fmt.{IsAscii-decimal}
use Rattle.std.proofs.lemmas.Str.{IsUtf8-append, IsUtf8-from_ascii, IsUtf8-nil}
use Rattle.std.specs.Prelude.{⊤}
use Rattle.json.specs.Lex.{tokens}
use Rattle.json.specs.Json as json
use Rattle.json.specs.Print.{quoted}
use Rattle.json.specs.Tree as tree
use Rattle.json.proofs.Printed.Decimals.{IsNumber-decimal}
use Rattle.json.proofs.Printed.Tokens.{tokens-print}
use Rattle.json.proofs.Printed.Trees.{value-json_tokens, ArePrintable-json_tokens}
use Rattle.json.proofs.Printed.Utf8.{are_ascii, IsUtf8-are_ascii, IsUtf8-quoted, IsUtf8-boolean}
use Rattle.serde_json.specs.Data.{Num, unsigned, negative, float, Data, null, boolean, number, string, array, object, Items, no_items, item, Members, no_members, member}
use Rattle.serde_json.specs.Read.{read, max_depth, of_json, of_items, of_members}
use Rattle.serde_json.specs.Written.{outline, items_outline, members_outline, comma_if, compact_text, items_text, members_text}
use Rattle.serde_json.proofs.Numbers.{number_of-decimal}
use Rattle.serde_json.proofs.Texts.{print-outline}

abbrev pub IsPlainNumber : Num → Type 0
IsPlainNumber (unsigned n) = n < 2 ^ 64
IsPlainNumber (negative z) = ⊥
IsPlainNumber (float x) = ⊥

-- numbers are unsigned, texts are UTF-8, and each object is what its members, read one after another, give
abbrev mutual
  pub IsPlain : Data → Type 0
  IsPlain null = ⊤
  IsPlain (boolean b) = ⊤
  IsPlain (number n) = IsPlainNumber n
  IsPlain (string s) = IsUtf8 s
  IsPlain (array ds) = ArePlainItems ds
  IsPlain (object ms) = ArePlainMembers ms × (of_members (members_outline ms) no_members ≡ Some ms)

  pub ArePlainItems : Items → Type 0
  ArePlainItems no_items = ⊤
  ArePlainItems (item d ds) = IsPlain d × ArePlainItems ds

  pub ArePlainMembers : Members → Type 0
  ArePlainMembers no_members = ⊤
  ArePlainMembers (member k d ms) = (are_ascii k ≡ true) × IsPlain d × ArePlainMembers ms

has_number : (n : Num) → IsPlainNumber n → tree.HasNumbers (outline (number n))
has_number (unsigned n) h = IsNumber-decimal n h
has_number (negative z) h = absurd h
has_number (float x) h = absurd h

mutual
  HasNumbers-outline : (d : Data) → IsPlain d → tree.HasNumbers (outline d)
  HasNumbers-outline null h = tt
  HasNumbers-outline (boolean b) h = tt
  HasNumbers-outline (number n) h = has_number n h
  HasNumbers-outline (string s) h = tt
  HasNumbers-outline (array ds) h = ItemsHaveNumbers-outline ds h
  HasNumbers-outline (object ms) h = MembersHaveNumbers-outline ms h.0

  ItemsHaveNumbers-outline : (ds : Items) → ArePlainItems ds → tree.ItemsHaveNumbers (items_outline ds)
  ItemsHaveNumbers-outline no_items h = tt
  ItemsHaveNumbers-outline (item d ds) h = (HasNumbers-outline d h.0, ItemsHaveNumbers-outline ds h.1)

  MembersHaveNumbers-outline : (ms : Members) → ArePlainMembers ms → tree.MembersHaveNumbers (members_outline ms)
  MembersHaveNumbers-outline no_members h = tt
  MembersHaveNumbers-outline (member k d ms) h = (HasNumbers-outline d h.1, MembersHaveNumbers-outline ms h.2)

number_again : (n : Num) → IsPlainNumber n → of_json (outline (number n)) ≡ Some (number n)
number_again (unsigned n) h = ap (option_map number) (number_of-decimal n h)
number_again (negative z) h = absurd h
number_again (float x) h = absurd h

mutual
  pub of_json-outline : (d : Data) → IsPlain d → of_json (outline d) ≡ Some d
  of_json-outline null h = refl
  of_json-outline (boolean b) h = refl
  of_json-outline (number n) h = number_again n h
  of_json-outline (string s) h = refl
  of_json-outline (array ds) h = ap (option_map array) (of_items-outline ds h)
  of_json-outline (object ms) h = ap (option_map object) h.1

  of_items-outline : (ds : Items) → ArePlainItems ds → of_items (items_outline ds) ≡ Some ds
  of_items-outline no_items h = refl
  of_items-outline (item d ds) h = ap (option_and_then (λ e. option_map (item e) (of_items (items_outline ds)))) (of_json-outline d h.0) ∙ ap (option_map (item d)) (of_items-outline ds h.1)

-- ---- UTF-8

ascii : (text : List ℕ) → are_ascii text ≡ true → IsUtf8 text
ascii = IsUtf8-are_ascii

comma_utf8 : (later : Bool) → IsUtf8 (comma_if later)
comma_utf8 true = ascii (44 ∷ []) refl
comma_utf8 false = IsUtf8-nil

number_utf8 : (n : Num) → IsPlainNumber n → IsUtf8 (compact_text (number n))
number_utf8 (unsigned n) h = IsUtf8-from_ascii (decimal n) (IsAscii-decimal n h)
number_utf8 (negative z) h = absurd h
number_utf8 (float x) h = absurd h

mutual
  pub IsUtf8-compact_text : (d : Data) → IsPlain d → IsUtf8 (compact_text d)
  IsUtf8-compact_text null h = ascii _ refl
  IsUtf8-compact_text (boolean b) h = IsUtf8-boolean b
  IsUtf8-compact_text (number n) h = number_utf8 n h
  IsUtf8-compact_text (string s) h = IsUtf8-quoted s h
  IsUtf8-compact_text (array ds) h = IsUtf8-append (91 ∷ []) _ (ascii (91 ∷ []) refl) (IsUtf8-items_text false ds h)
  IsUtf8-compact_text (object ms) h = IsUtf8-append (123 ∷ []) _ (ascii (123 ∷ []) refl) (IsUtf8-members_text false ms h.0)

  IsUtf8-items_text : (later : Bool) (ds : Items) → ArePlainItems ds → IsUtf8 (items_text later ds)
  IsUtf8-items_text later no_items h = ascii (93 ∷ []) refl
  IsUtf8-items_text later (item d ds) h = IsUtf8-append (comma_if later) _ (comma_utf8 later) (IsUtf8-append (compact_text d) _ (IsUtf8-compact_text d h.0) (IsUtf8-items_text true ds h.1))

  IsUtf8-members_text : (later : Bool) (ms : Members) → ArePlainMembers ms → IsUtf8 (members_text later ms)
  IsUtf8-members_text later no_members h = ascii (125 ∷ []) refl
  IsUtf8-members_text later (member k d ms) h =
      let value = IsUtf8-append (compact_text d) _ (IsUtf8-compact_text d h.1) (IsUtf8-members_text true ms h.2) in
      let named = IsUtf8-append (quoted k) _ (IsUtf8-quoted k (IsUtf8-are_ascii k h.0)) (IsUtf8-append (58 ∷ []) _ (ascii (58 ∷ []) refl) value) in
      IsUtf8-append (comma_if later) _ (comma_utf8 later) named

-- ---- reading

pub read-compact_text : (d : Data) → IsPlain d → tree.depth (outline d) ≤ max_depth → read (compact_text d) ≡ Some d
read-compact_text d h shallow =
    let j = outline d in
    let printed : tokens (compact_text d) ≡ tree.json_tokens j = ap tokens (sym (print-outline d)) ∙ tokens-print (tree.json_tokens j) (ArePrintable-json_tokens j (HasNumbers-outline d h)) in
    let parsed : json.value max_depth (tokens (compact_text d)) ≡ Some (j, []) = ap (json.value max_depth) (printed ∙ sym (append-nil (tree.json_tokens j))) ∙ value-json_tokens j max_depth [] shallow in
    ap (λ r. option_and_then of_json (option_and_then (λ p. json.if_last p.0 p.1) r)) parsed ∙ of_json-outline d h
