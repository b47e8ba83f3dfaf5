-- Looking a text up in a table, entry by entry.
use Rattle.std.proofs.Common.{◌≡◌, ℕ, ◌+◌, ◌<◌, true, false, Some, List, map, length, get_or, drop, refl, sym}
use Rattle.std.specs.Str.{bytes_eq}
use Rattle.std.proofs.lemmas.List.{drop_more}
use Rattle.vs_lexer.specs.declared.token.Kind.{Kind}
use Rattle.vs_lexer.specs.Reserved.{kind_in}

module _ {A : Type 0} (of : A → List ℕ × Kind) (table : List A) (i : ℕ) (default : A) (text : List ℕ) (within : i < length table) where
  -- an entry of another text is passed over
  pub entry_passed : bytes_eq (of (get_or table i default)).0 text ≡ false → kind_in (map of (drop (i + 1) table)) text ≡ kind_in (map of (drop i table)) text
  entry_passed e = sym (rw (drop_more table i default within, e) refl)

  -- an entry of the text is found
  pub entry_found : bytes_eq (of (get_or table i default)).0 text ≡ true → kind_in (map of (drop i table)) text ≡ Some (of (get_or table i default)).1
  entry_found e = rw (drop_more table i default within, e) refl
