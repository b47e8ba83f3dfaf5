-- A name of a system task is no name.
use Rattle.std.proofs.Common.{ℕ, List, length, nat_lt, refl}
use Rattle.std.specs.List.{list_all}
use Rattle.vs_lexer.specs.declared.refusal.Refusal.TheVariants as r
use Rattle.vs_lexer.specs.declared.token.Kind.TheVariants as k
use Rattle.vs_lexer.specs.Bytes.{in_name}
use Rattle.vs_lexer.specs.Forms.{run_of}
use Rattle.vs_lexer.specs.Pieces.{limited, system_piece}
use Rattle.vs_lexer.proofs.NameLines.{NoName, NoNamePiece, either, none, refused}

system_no_name_piece : (text rest : List ℕ) → NoNamePiece (system_piece text rest)
system_no_name_piece text rest =
    let small = either NoNamePiece (nat_lt 1024 (length text)) (refused r.TooLong) (record { is = refl }) in
    either NoNamePiece (nat_lt 1 (length text)) {x = limited text k.System} small (refused r.BadByte)

pub system_no_name : (text rest : List ℕ) → NoName (run_of in_name system_piece text rest)
system_no_name text rest = either NoName (list_all in_name text) (system_no_name_piece text rest) none
