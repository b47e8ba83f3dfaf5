use Rattle.std.proofs.Common.{◌≡◌, ℕ, true, None, List, Result, OnOk, refl, ap, subst}
use Rattle.std.specs.declared.alloc.AllocError.{AllocError}
use Rattle.vs_syntax.specs.declared.tree.Declarator.{Declarator}
use Rattle.vs_syntax.specs.declared.tree.Form.{Form}
use Rattle.vs_design.specs.declared.signal.SignalKind.{SignalKind}
use Rattle.vs_design.specs.declared.signal.SignalKind.TheVariants as k
use Rattle.vs_scopes.specs.vs_widths.specs.Names.{meaning_of}
use Rattle.vs_scopes.specs.Ports.{kind_among}
use Rattle.vs_scopes.specs.declared.declared.KindSaid.{KindSaid}
use Rattle.vs_scopes.specs.scopes_passes.Parts.{read_end}
use Rattle.vs_scopes.specs.scopes_passes.Declared.{first_of, form_of, read_said}
use Rattle.vs_scopes.proofs.declared.add_item_kinds.Goals as goal

-- a declaration that is read
module _ (kind : SignalKind) (old new : List (List ℕ × KindSaid)) (r : Result (Unit {0}) AllocError) where
  abbrev Adds : Form → List Declarator → Type 0
  Adds f ds = OnOk r ((n : List ℕ) → read_said (meaning_of new n) ≡ first_of (read_said (meaning_of old n)) (kind_among kind f ds n))

  adds_read : (f g : Form) (ds es : List Declarator) → f ≡ g → ds ≡ es → Adds f ds → Adds g es
  adds_read f g ds es e d h = subst (λ z. Adds z es) e (subst (Adds f) d h)

pub returns-in-Wire : goal.returns-in-Wire
returns-in-Wire c =
    let f = c.in-Wire.form in
    rw c.in-Wire.is (adds_read k.Wire c.args.kinds.now c.add_kinds.new.kinds c.add_kinds.result (form_of f.signed (read_end c.as_ref.result)) f c.deref.result.now c.in-Wire.list.items (ap (form_of f.signed) c.as_ref.ensures.value) c.deref.ensures.value c.add_kinds.ensures)

pub returns-in-Reg : goal.returns-in-Reg
returns-in-Reg c =
    let f = c.in-Reg.form in
    rw c.in-Reg.is
    (adds_read k.Reg c.args.kinds.now c.add_kinds-in-Reg.new.kinds c.add_kinds-in-Reg.result (form_of f.signed (read_end c.as_ref-in-Reg.result)) f c.deref-in-Reg.result.now c.in-Reg.list.items (ap (form_of f.signed) c.as_ref-in-Reg.ensures.value) c.deref-in-Reg.ensures.value c.add_kinds-in-Reg.ensures)

pub returns-in-Integer : goal.returns-in-Integer
returns-in-Integer c =
    let f = form_of true None in
    rw c.in-Integer.is (adds_read k.Integer c.args.kinds.now c.add_kinds-in-Integer.new.kinds c.add_kinds-in-Integer.result f f c.deref-in-Integer.result.now c.in-Integer.list.items refl c.deref-in-Integer.ensures.value c.add_kinds-in-Integer.ensures)
