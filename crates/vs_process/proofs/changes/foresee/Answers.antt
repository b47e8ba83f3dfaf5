use Rattle.std.proofs.Common.{◌≡◌, ◌∙◌, ◌+◌, ◌++◌, List, ◌∷◌, Option, drop, sym, ap, ap₂, append_assoc, arith}
use Rattle.std.proofs.lemmas.List.{drop_more}
use Rattle.vs_design.specs.vs_logic4.specs.declared.digit.Digit.{Digit}
use Rattle.vs_design.specs.declared.write.Part.{Part}
use Rattle.vs_design.specs.Stores.{put}
use Rattle.vs_process.specs.declared.changes.Change.{Change}
use Rattle.vs_process.specs.Changes.{changed_word, changed_part, changed_words}
use Rattle.vs_process.proofs.changes.foresee.Goals as goal

pub loop-part-preserved : goal.loop-part-preserved
loop-part-preserved c =
    let part : Part = c.part-item.result in
    let parts : List Part = c.parts-parts.result.now in
    let store = c.args.store.now in
    let new = put store c.args.write.now in
    let xs : List Change = c.loop-part.changes.items in
    let rest : List Change = changed_words store new (drop (c.loop-part.part-index + 1) parts) in
    let more : c.note_word.new.changes.items ≡ xs ++ changed_part store new part =
    c.note_word.ensures.noted ∙ ap₂ (λ (a b : Option (List Digit)). xs ++ changed_word part.signal part.word a b) c.word-before.ensures c.word_after_write-behind.ensures
    in
    let next : drop c.loop-part.part-index parts ≡ part ∷ drop (c.loop-part.part-index + 1) parts =
    drop_more parts c.loop-part.part-index part c.loop-part-test.true ∙ ap (λ (p : Part). p ∷ drop (c.loop-part.part-index + 1) parts) (sym c.part-item.is)
    in
    record {
      noted =
          ap (λ (l : List Change). l ++ rest) more ∙ append_assoc xs (changed_part store new part) rest
          ∙ sym (ap (λ (ps : List Part). xs ++ changed_words store new ps) next) ∙ c.loop-part.invariant.noted;
      room = omega (arith, c.note_word.ensures.length, c.note_word.ensures.capacity, c.loop-part.invariant.room, c.loop-part-test.true);
    }
