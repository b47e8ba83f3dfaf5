use Rattle.std.proofs.Common.{◌≡◌, Some, List, slice_get, refl, ◌∙◌, ap, sym}
use Rattle.std.proofs.lemmas.Option.{slice_get_read}
use Rattle.std.specs.declared.vec.Vec.{Vec}
use Rattle.std.specs.declared.alloc.Global.{Global}
use Rattle.vs_run_active.specs.declared.watchers.Watcher.{Watcher}
use Rattle.vs_run_active.specs.Watchers.{between}
use Rattle.vs_run_active.proofs.WordsLemmas.{found_seeing}
use Rattle.vs_run_active.proofs.tables.Tables.readers_of_word.Goals as goal

pub returns-in-Some-get : goal.returns-in-Some-get
returns-in-Some-get c =
    let words : slice_get c.args.self.now.words.items c.args.signal ≡ Some c.in-Some.lists.now =
    ap (λ (l : List (Vec (Vec Watcher Global) Global)). slice_get l c.args.signal) (sym c.deref.ensures.value) ∙ slice_get_read _ _ _ _ refl c.in-Some.ensures.lookup.3.0 c.in-Some.ensures.lookup.1
    in
    let list : slice_get c.in-Some.lists.now.items c.args.word ≡ Some c.in-Some-get.list.now =
    ap (λ (l : List (Vec Watcher Global)). slice_get l c.args.word) (sym c.deref-2.ensures.value) ∙ slice_get_read _ _ _ _ refl c.in-Some-get.ensures.lookup.3.0 c.in-Some-get.ensures.lookup.1
    in
    found_seeing (between c.args.row.readers c.args.row.any c.args.self.now.watchers.items) c.deref-in-Some-get.result.now c.in-Some.lists.now.items c.args.word c.in-Some-get.list.now
    (c.args.self.now.by_word c.args.signal c.args.row c.in-Some.lists.now c.requires.there words) list c.deref-in-Some-get.ensures.value
