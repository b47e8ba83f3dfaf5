use Rattle.std.proofs.Common.{◌≡◌, ◌≤◌, ◌++◌, length, refl, arith, true}
use Rattle.vs_syntax.specs.vs_lexer.specs.Tokens.{lexeme}
use Rattle.vs_parser.proofs.Faulty as faulty
use Rattle.vs_parser.proofs.parser.too_deep.Goals as goal

pub returns : goal.returns
returns c =
    let s : length c.args.rest.now ≤ length c.args.tokens.now = faulty.rest_shorter true _ _ c.requires in
    let e : c.args.tokens.now ≡ c.split_at.result.0.now ++ c.split_at.result.1.now = faulty.cut _ _ _ _ c.split_at.ensures.front c.split_at.ensures.back in
    let l : length c.split_at.result.1.now ≡ length c.args.rest.now = omega (arith, s) in
    (lexeme c.in-Some.token.now, faulty.too_deep _ _ _ _ c.in-Some.token.now (faulty.split_there true _ _ _ _ c.requires e l) e c.in-Some.ensures, refl)
