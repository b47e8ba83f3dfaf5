use Rattle.std.proofs.Common.{◌≡◌, ◌≤◌, ◌++◌, length, refl, sym, arith, false}
use Rattle.vs_syntax.specs.vs_lexer.specs.Tokens.{lexeme}
use Rattle.vs_parser.proofs.Faulty as faulty
use Rattle.vs_parser.proofs.parser.unexpected.Goals as goal

pub returns-then-left_out : goal.returns-then-left_out
returns-then-left_out c =
    let s : length c.args.rest.now ≤ length c.args.tokens.now = faulty.rest_shorter false _ _ c.requires in
    let e : c.args.tokens.now ≡ c.split_at.result.0.now ++ c.split_at.result.1.now = faulty.cut _ _ _ _ c.split_at.ensures.front c.split_at.ensures.back in
    let l : length c.split_at.result.1.now ≡ length c.args.rest.now = omega (arith, s) in
    (lexeme c.in-Some.token.now, faulty.wrong _ _ _ _ c.in-Some.token.now (faulty.split_there false _ _ _ _ c.requires e l) e c.in-Some.ensures, refl, sym c.if-left_out.ensures, refl)

pub returns-else-left_out : goal.returns-else-left_out
returns-else-left_out c =
    let s : length c.args.rest.now ≤ length c.args.tokens.now = faulty.rest_shorter false _ _ c.requires in
    let e : c.args.tokens.now ≡ c.split_at.result.0.now ++ c.split_at.result.1.now = faulty.cut _ _ _ _ c.split_at.ensures.front c.split_at.ensures.back in
    let l : length c.split_at.result.1.now ≡ length c.args.rest.now = omega (arith, s) in
    (lexeme c.in-Some.token.now, faulty.wrong _ _ _ _ c.in-Some.token.now (faulty.split_there false _ _ _ _ c.requires e l) e c.in-Some.ensures, refl, sym c.if-left_out.ensures)
