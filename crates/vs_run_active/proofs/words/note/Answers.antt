use Rattle.std.proofs.Common.{◌≡◌, ◌+◌, ◌≤◌, ℕ, suc, List, ◌++◌, ◌∷◌, [], length, ◌∙◌, ap, arith}
use Rattle.std.proofs.lemmas.List.{length-map}
use Rattle.std.specs.declared.vec.Vec.{Vec}
use Rattle.std.specs.declared.alloc.Global.{Global}
use Rattle.vs_design.specs.Stores.{changed_at}
use Rattle.vs_design.specs.Tables.{rows}
use Rattle.vs_run_active.specs.declared.watchers.Watcher.{Watcher}
use Rattle.vs_run_active.specs.Words.{changed_before}
use Rattle.vs_run_active.proofs.WordsLemmas.{before_more, noted_every, noted_one}
use Rattle.vs_run_active.proofs.words.note.Goals as goal

pub returns-then-watcher-ne18446744073709551615 : goal.returns-then-watcher-ne18446744073709551615
returns-then-watcher-ne18446744073709551615 c =
    noted_one c.args.watcher (rows c.args.lists.now.items) (rows c.push_at.new.lists.items) c.if-watcher-ne18446744073709551615.true c.in_ok-push_at.ensures

pub loop-word-preserved : goal.loop-word-preserved
loop-word-preserved c =
    let f = λ (list : List Watcher). list ++ c.args.watcher ∷ [] in
    let next : suc c.loop-word.word ≡ c.loop-word.word + 1 = omega arith in
    c.in_ok-push_at-2.ensures ∙ ap (changed_at f c.loop-word.word) c.loop-word.invariant ∙ before_more f c.loop-word.word (rows c.args.lists.now.items)
    ∙ ap (λ (k : ℕ). changed_before f k (rows c.args.lists.now.items)) next

pub returns : goal.returns
returns c =
    let long : length (rows c.args.lists.now.items) ≡ length c.args.lists.now.items = length-map c.args.lists.now.items (λ (row : Vec Watcher Global). row.items) in
    let all : length (rows c.args.lists.now.items) ≤ c.loop-word.word = omega (arith, long, c.len-word-end.ensures, c.args.lists.now.ok.0, c.loop-word-test.false) in
    noted_every c.args.watcher c.loop-word.word (rows c.args.lists.now.items) (rows c.loop-word.lists.items) c.if-watcher-ne18446744073709551615.false all c.loop-word.invariant
