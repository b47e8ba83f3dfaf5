use Rattle.std.proofs.Common.{rules, refl}
use Rattle.std.proofs.lemmas.Result.{err_from_is_err_and}
use Rattle.vs_parser.specs.declared.items_head.PlainHead.TheVariants as k
use Rattle.vs_parser.proofs.ItemsHeads.{plain_fails, plain_is}
use Rattle.vs_parser.proofs.item.plain_item.Goals as goal
use Rattle.vs_parser.proofs.item.plain_item.Goals.{in-Name+in_ok-name-in-Name+in_ok-placed-in-Name, in-Declaration+in_ok-declaration-in-Declaration, in-Assign+in_ok-assignments-in-Assign, in-Initial+in_ok-inner-in-Initial, in-Always+in_ok-repeated-in-Always}

pub returns-in_err-placed-in-Name : goal.returns-in_err-placed-in-Name
returns-in_err-placed-in-Name c =
    let p = err_from_is_err_and c.from_residual-in_err-placed-in-Name.result c.from_residual-in_err-placed-in-Name.ensures.1 in
    rw (p.1, p.2) (plain_fails _ (k.Name c.in-Name.module) c.args.depth _ _ c.in-Name.is c.in_err-placed-in-Name.ensures)

pub returns-in_err-declaration-in-Declaration : goal.returns-in_err-declaration-in-Declaration
returns-in_err-declaration-in-Declaration c =
    let p = err_from_is_err_and c.from_residual-in_err-declaration-in-Declaration.result c.from_residual-in_err-declaration-in-Declaration.ensures.1 in
    rw (p.1, p.2) (plain_fails _ (k.Declaration c.in-Declaration.word) c.args.depth _ _ c.in-Declaration.is c.in_err-declaration-in-Declaration.ensures.reads)

pub returns-in_err-assignments-in-Assign : goal.returns-in_err-assignments-in-Assign
returns-in_err-assignments-in-Assign c =
    let p = err_from_is_err_and c.from_residual-in_err-assignments-in-Assign.result c.from_residual-in_err-assignments-in-Assign.ensures.1 in
    rw (p.1, p.2) (plain_fails _ k.Assign c.args.depth _ _ c.in-Assign.is c.in_err-assignments-in-Assign.ensures)

pub returns-in_err-inner-in-Initial : goal.returns-in_err-inner-in-Initial
returns-in_err-inner-in-Initial c =
    let p = err_from_is_err_and c.from_residual-in_err-inner-in-Initial.result c.from_residual-in_err-inner-in-Initial.ensures.1 in
    rw (p.1, p.2) (plain_fails _ k.Initial c.args.depth _ _ c.in-Initial.is c.in_err-inner-in-Initial.ensures)

pub returns-in_err-repeated-in-Always : goal.returns-in_err-repeated-in-Always
returns-in_err-repeated-in-Always c =
    let p = err_from_is_err_and c.from_residual-in_err-repeated-in-Always.result c.from_residual-in_err-repeated-in-Always.ensures.1 in
    rw (p.1, p.2) (plain_fails _ k.Always c.args.depth _ _ c.in-Always.is c.in_err-repeated-in-Always.ensures)

pub returns : goal.returns
returns c = elim c.match-head.branch [
  | in-Name+in_ok-name-in-Name+in_ok-placed-in-Name w ↦ rw w.tree-is (plain_is _ (k.Name w.in-Name.module) c.args.depth _ _ _ w.in-Name.is w.in_ok-placed-in-Name.ensures (search rules))
  | in-Declaration+in_ok-declaration-in-Declaration w ↦ rw w.tree-is (plain_is _ (k.Declaration w.in-Declaration.word) c.args.depth _ _ _ w.in-Declaration.is w.in_ok-declaration-in-Declaration.ensures.reads w.in_ok-declaration-in-Declaration.ensures.symbol)
  | in-Assign+in_ok-assignments-in-Assign w ↦ rw w.tree-is (plain_is _ k.Assign c.args.depth _ _ _ w.in-Assign.is w.in_ok-assignments-in-Assign.ensures refl)
  | in-Initial+in_ok-inner-in-Initial w ↦ rw w.tree-is (plain_is _ k.Initial c.args.depth _ _ _ w.in-Initial.is w.in_ok-inner-in-Initial.ensures refl)
  | in-Always+in_ok-repeated-in-Always w ↦ rw w.tree-is (plain_is _ k.Always c.args.depth _ _ _ w.in-Always.is w.in_ok-repeated-in-Always.ensures refl)
]
