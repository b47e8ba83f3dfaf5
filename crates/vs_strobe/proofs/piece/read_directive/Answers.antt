use Rattle.std.proofs.Common.{◌≡◌, ◌≢◌, ◌-◌, ◌<◌, ◌≤◌, length, get_or, take, drop, sym, ◌∙◌, ap, rules, arith}
use Rattle.vs_strobe.specs.Pieces.{joined, pieces_of}
use Rattle.vs_strobe.proofs.PieceLemmas.{second_percent, zero_letter, letter, rest_length}
use Rattle.vs_strobe.proofs.piece.read_directive.Goals as goal

pub returns-in-37 : goal.returns-in-37
returns-in-37 c =
    let bytes = c.args.bytes.now in
    let some : 1 ≤ length bytes = search rules in
    let first : get_or bytes 0 0 ≡ 37 = search rules in
    (second_percent bytes some first, omega (arith, rest_length bytes 1))

pub returns-in_ok-directive_of-in-48 : goal.returns-in_ok-directive_of-in-48
returns-in_ok-directive_of-in-48 c =
    let bytes = c.args.bytes.now in
    let rest = take (length bytes - 2) (drop 2 bytes) in
    (zero_letter bytes c.in-48.len_at_least (omega arith) ∙ ap (λ p. joined p (pieces_of rest)) (sym c.directive_of.ensures ∙ c.in_ok-directive_of-in-48.was), omega (arith, rest_length bytes 2))

pub returns-in_err-directive_of-in-48 : goal.returns-in_err-directive_of-in-48
returns-in_err-directive_of-in-48 c =
    let bytes = c.args.bytes.now in
    let rest = take (length bytes - 2) (drop 2 bytes) in
    rw c.from_residual.ensures
    (zero_letter bytes c.in-48.len_at_least (omega arith) ∙ ap (λ p. joined p (pieces_of rest)) (sym c.directive_of.ensures ∙ c.in_err-directive_of-in-48.was))

pub returns-in_ok-directive_of-in-len1-up : goal.returns-in_ok-directive_of-in-len1-up
returns-in_ok-directive_of-in-len1-up c =
    let bytes = c.args.bytes.now in
    let rest = take (length bytes - 1) (drop 1 bytes) in
    let some : 1 ≤ length bytes = search rules in
    let other : get_or bytes 0 0 ≢ 37 = search rules in
    let last : get_or bytes 0 0 ≡ 48 → length bytes < 2 = search rules in (
      letter bytes some other last
          ∙ ap (λ p. joined p (pieces_of rest)) (sym c.directive_of-in-len1-up.ensures ∙ c.in_ok-directive_of-in-len1-up.was),
      omega (arith, rest_length bytes 1),
    )

pub returns-in_err-directive_of-in-len1-up : goal.returns-in_err-directive_of-in-len1-up
returns-in_err-directive_of-in-len1-up c =
    let bytes = c.args.bytes.now in
    let rest = take (length bytes - 1) (drop 1 bytes) in
    let some : 1 ≤ length bytes = search rules in
    let other : get_or bytes 0 0 ≢ 37 = search rules in
    let last : get_or bytes 0 0 ≡ 48 → length bytes < 2 = search rules in
    rw c.from_residual-in_err-directive_of-in-len1-up.ensures
    (letter bytes some other last
    ∙ ap (λ p. joined p (pieces_of rest)) (sym c.directive_of-in-len1-up.ensures ∙ c.in_err-directive_of-in-len1-up.was))
