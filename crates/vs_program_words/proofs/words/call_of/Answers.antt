use Rattle.std.proofs.Common.{◌≡◌, ◌∙◌, ◌==◌, ◌||◌, not, [], ap, map, sym, length}
use Rattle.std.proofs.lemmas.Bool.{eqb-true}
use Rattle.std.proofs.lemmas.List.{nil_from_length}
use Rattle.clap.specs.Words.{first_value, found_of}
use Rattle.vs_program_words.specs.Asks.{by_lack, has_ticks, name_of}
use Rattle.vs_program_words.proofs.words.call_of.Goals as goal

pub returns-then-is_wanting-clause-err : goal.returns-then-is_wanting-clause-err
returns-then-is_wanting-clause-err c =
    let files = c.in_ok-sources.sources.files in
    let words = first_value (found_of c.args.matches.now) in
    let unit = c.in_ok-moment.moment.unit in
    let none : files.items ≡ [] = nil_from_length files.items (eqb-true (length files.items) 0 (ap (λ n. n == 0) (sym files.ok.0) ∙ sym c.is_empty.ensures ∙ c.if-is_empty.true)) in
    by_lack (sym c.in_ok-sources.ensures.files ∙ ap (λ l. map (λ w. w.now) l) none) c.in_ok-moment.moment.count.count unit c.in_ok-moment.ensures.ok
    (ap (λ a. a || not (has_ticks (name_of c.args.name.now) words unit)) (sym c.lacks_top-finds_top.ensures)
    ∙ ap (λ b. c.lacks_top-finds_top.result || not b) (sym c.has_ticks.ensures) ∙ sym c.wants_files-is_wanting.ensures ∙ c.if-is_wanting.true)
