use Rattle.std.proofs.Common.{◌≡◌, true, false, codes, sym, ◌∙◌, rules}
use Rattle.serde_json.specs.View.{view}
use Rattle.vs_certificate.specs.Shape.{is_natural}
use Rattle.vs_certificate.specs.Shape as Shape
use Rattle.vs_certificate.proofs.Found.{third, combinational_parts, edge_parts, times_parts, mixed_word, get-is_word}
use Rattle.vs_certificate.proofs.processes.kind_from_value.Goals as goal

pub from_value_at-requires : goal.from_value_at-requires
from_value_at-requires c =
    let comb : Shape.is_combinational (view c.args.json.now) ≡ true = search rules in
    (combinational_parts (view c.args.json.now) comb).start

pub returns-in_ok-start : goal.returns-in_ok-start
returns-in_ok-start c =
    let comb : Shape.is_combinational (view c.args.json.now) ≡ true = search rules in
    let p = combinational_parts (view c.args.json.now) comb in
    (p.kind, p.slots, c.in_ok-start.ensures)

pub returns-then-is_edge_process : goal.returns-then-is_edge_process
returns-then-is_edge_process c =
    let edge : Shape.is_edge_process (view c.args.json.now) ≡ true = search rules in
    let p = edge_parts (view c.args.json.now) edge in
    (p.kind, p.slots, p.start)

pub from_value_at-requires-else-is_edge_process : goal.from_value_at-requires-else-is_edge_process
from_value_at-requires-else-is_edge_process c =
    let not_comb : Shape.is_combinational (view c.args.json.now) ≡ false = search rules in
    let not_edge : Shape.is_edge_process (view c.args.json.now) ≡ false = search rules in
    (times_parts is_natural (view c.args.json.now) (third _ _ _ c.requires not_comb not_edge)).slots

pub returns-then-is_word_at : goal.returns-then-is_word_at
returns-then-is_word_at c =
    let not_comb : Shape.is_combinational (view c.args.json.now) ≡ false = search rules in
    let not_edge : Shape.is_edge_process (view c.args.json.now) ≡ false = search rules in
    let p = times_parts is_natural (view c.args.json.now) (third _ _ _ c.requires not_comb not_edge) in
    (get-is_word (codes "kind") (codes "delay") (view c.args.json.now) (sym c.is_word_at.ensures ∙ c.if-is_word_at.true), c.in_ok-slots.ensures, p.start)

pub returns-else-is_word_at : goal.returns-else-is_word_at
returns-else-is_word_at c =
    let not_comb : Shape.is_combinational (view c.args.json.now) ≡ false = search rules in
    let not_edge : Shape.is_edge_process (view c.args.json.now) ≡ false = search rules in
    let times = third _ _ _ c.requires not_comb not_edge in
    let p = times_parts is_natural (view c.args.json.now) times in
    (mixed_word is_natural (view c.args.json.now) times (sym c.is_word_at.ensures ∙ c.if-is_word_at.false), c.in_ok-slots.ensures, p.start)
