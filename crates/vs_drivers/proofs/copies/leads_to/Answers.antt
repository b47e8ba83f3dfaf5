use Rattle.std.proofs.Common.{◌≡◌, Bool, false, List, get_or, sym, ap, ◌∙◌}
use Rattle.vs_drivers.specs.Copies.{links_of}
use Rattle.vs_drivers.proofs.CopyLemmas.{marked_is}
use Rattle.vs_drivers.proofs.copies.leads_to.Goals as goal

pub returns : goal.returns
returns c =
    let l = marked_is (links_of c.args.sources.now c.args.inverses.now) c.args.count c.args.v c.args.g c.in_ok-marks.marks.items c.requires.within c.requires.v c.in_ok-marks.ensures.len
    c.in_ok-marks.ensures.exact in
    let e : c.is_marked.result ≡ get_or c.in_ok-marks.marks.items c.args.g false = c.is_marked.ensures ∙ ap (λ (l : List Bool). get_or l c.args.g false) c.deref.ensures.value in
    (λ t. l.0 (sym e ∙ t), λ h. e ∙ l.1 h)
