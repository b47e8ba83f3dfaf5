use Rattle.std.proofs.Common.{◌≡◌, Bool, false, IsTrue, Some, List, length, get_or, slice_get, refl, sym, ◌∙◌, ap, subst}
use Rattle.std.specs.Prelude.{not}
use Rattle.std.specs.declared.vec.Vec.{Vec}
use Rattle.std.specs.declared.alloc.Global.{Global}
use Rattle.std.proofs.lemmas.Option.{slice_get_read}
use Rattle.vs_slots.specs.vs_claims.specs.Facts.{Case}
use Rattle.vs_rules_of_processes.specs.Classes.{IsClear}
use Rattle.vs_rules_of_processes.proofs.ClassLemmas.{clear, off_by}
use Rattle.vs_rules_of_processes.proofs.classes.WriteClasses.is_clear.Goals as goal

pub returns-in-Some : goal.returns-in-Some
returns-in-Some c =
    let x = c.self.inside.slots.now in
    let k = c.class_of.result in
    let v = c.args.v in
    let row = c.in-Some.marks.now in
    let is = subst (λ (l : List (Vec Bool Global)). slice_get l k ≡ Some row) c.deref.ensures.value
    (slice_get_read c.deref.result.now (length c.deref.result.now) k row refl c.in-Some.ensures.lookup.3.0 c.in-Some.ensures.lookup.1) in
    let mark = c.is_marked.ensures ∙ ap (λ (l : List Bool). get_or l v false) c.deref-in-Some.ensures.value in
    subst (λ (f : Case). IsTrue (not c.is_marked.result) → IsClear f.design f.claims v c.args.residue) c.self.view_is
    (λ t. clear x.design x.claims v k c.args.residue row.items (sym c.class_of.ensures) (c.self.invariant k row is) (sym mark ∙ off_by c.is_marked.result t))
