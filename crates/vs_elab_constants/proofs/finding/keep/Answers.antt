use Rattle.std.proofs.Common.{◌≡◌, ◌∙◌, Some, set, slice_get, get_or, map, refl, ap, sym, subst, arith}
use Rattle.vs_scopes.specs.Declarations.{Bindings}
use Rattle.vs_scopes.specs.scopes_passes.Parts.{read_given}
use Rattle.vs_elab_constants.specs.passes.Finding.{is_number, AreNamed}
use Rattle.vs_elab_constants.proofs.FindingLemmas.{named_first, named_later}
use Rattle.vs_design.specs.vs_logic4.proofs.Basics.{at_place as get_map}
use Rattle.vs_elab_constants.proofs.finding.keep.Goals as goal
use Rattle.vs_elab_constants.proofs.finding.keep.Goals.{then-is_first+in_ok-bind, else-is_first}

pub returns-clause-named : goal.returns-clause-named
returns-clause-named c outward env h =
    let k = c.args.number in
    let x = get_or c.args.list.now k c.index-list-number.result in
    let gs = map read_given c.args.list.now in
    let vs = c.args.values.now.items in
    let v = c.args.constant.now in
    let at : slice_get gs k ≡ Some (read_given x) = get_map read_given c.args.list.now k x c.requires.within (ap (get_or c.args.list.now k) c.index-list-number.is) in
    let first = sym (ap (λ o. is_number o k) (c.requires.numbers x.parameter.name.now)) ∙ sym c.is_first.ensures in
    elim c.if-is_first.branch [
      | then-is_first+in_ok-bind w ↦
          subst (λ (z : Bindings). AreNamed outward env gs (set vs k (Some v)) z) (sym w.known-is)
          (named_first outward env gs vs (set vs k (Some v)) c.args.known.now w.bind.new.names k (read_given x) v at (omega (arith, c.requires.all, c.requires.within)) (first ∙ w.if-is_first.true) refl w.in_ok-bind.ensures h)
      | else-is_first w ↦ named_later outward env gs vs (set vs k (Some v)) c.args.known.now c.if-is_first.known k (read_given x) v at (first ∙ w.if-is_first.false) refl (sym w.known-is) h
    ]
