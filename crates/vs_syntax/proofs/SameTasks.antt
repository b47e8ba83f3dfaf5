-- System tasks and delays of one tree of the grammar say the same.
use Rattle.std.specs.Prelude.{◌≡◌, Option, None, Some, refl}
use Rattle.std.proofs.Common.{ap, subst}
use Rattle.std.specs.declared.vec.Vec.{Vec}
use Rattle.std.specs.declared.alloc.Global.{Global}
use Rattle.vs_lexer.specs.declared.token.Literal.{Literal}
use Rattle.vs_syntax.specs.declared.tree.DelayValue.{DelayValue}
use Rattle.vs_syntax.specs.declared.tree.DelayValue.TheVariants as d
use Rattle.vs_syntax.specs.declared.tree.Argument.{Argument}
use Rattle.vs_syntax.specs.declared.tree.Argument.TheVariants as a
use Rattle.vs_syntax.specs.declared.tree.PrintArguments.{PrintArguments}
use Rattle.vs_syntax.specs.declared.tree.PrintArguments.TheVariants as p
use Rattle.vs_syntax.specs.declared.tree.DumpArgument.{DumpArgument}
use Rattle.vs_syntax.specs.declared.tree.DumpArgument.TheVariants as u
use Rattle.vs_syntax.specs.Symbols.{a_text, a_time}
use Rattle.vs_syntax.specs.Views.{delay_tree, late_tree, argument_tree, print_tree, finish_tree, dump_argument_tree, dump_tree}
use Rattle.vs_syntax.specs.Same.{SameDelay, same_delay_number, same_delay_name, same_delay_group, SameOption, both_absent, both_there, SameArgument, same_value_argument, same_time_argument, SamePrint, same_missing, same_empty, same_printed, SameDumpArgument, same_dump_text, same_dump_value, SameDump}
use Rattle.vs_syntax.proofs.Sameness.{same_expr, expr_no_leaf}
use Rattle.vs_syntax.proofs.SameRows.{comma_pairs}

same_numbers : (l l' : Literal) → l ≡ l' → SameDelay (d.Number l) (d.Number l')
same_numbers l l' h = subst (λ (k : Literal). SameDelay (d.Number l) (d.Number k)) h (same_delay_number l)

pub same_value : (x x' : DelayValue) → delay_tree x ≡ delay_tree x' → SameDelay x x'
same_value (d.Number l) (d.Number l') h = same_numbers l l' (cc)
same_value (d.Name n) (d.Name n') h = same_delay_name n n' (cc)
same_value (d.Group x) (d.Group x') h = same_delay_group x x' (same_expr x.value x'.value (cc))
same_value _ _ h = cc

pub same_late : (v v' : Option DelayValue) → late_tree v ≡ late_tree v' → SameOption SameDelay v v'
same_late None None h = both_absent
same_late None (Some v') h = cc
same_late (Some v) None h = cc
same_late (Some v) (Some v') h = both_there v v' (same_value v v' (cc))

same_argument : (x x' : Argument) → argument_tree x ≡ argument_tree x' → SameArgument x x'
same_argument (a.Value x) (a.Value x') h = same_value_argument x x' (same_expr x x' h)
same_argument a.Time a.Time h = same_time_argument
same_argument (a.Value x) a.Time h = absurd (expr_no_leaf x a_time refl h)
same_argument a.Time (a.Value x') h = absurd (expr_no_leaf x' a_time refl (cc))

-- Arguments of `$display` or `$strobe` of one tree say the same.
pub same_prints : (x x' : PrintArguments) → print_tree x ≡ print_tree x' → SamePrint x x'
same_prints p.Missing p.Missing h = same_missing
same_prints p.Empty p.Empty h = same_empty
same_prints (p.Text n xs) (p.Text n' xs') h = same_printed n n' xs xs' (cc) (comma_pairs SameArgument argument_tree same_argument xs.items xs'.items (cc))
same_prints _ _ h = cc

-- Numbers of a `$finish` of one tree are the same.
pub same_number : (n n' : Option Literal) → finish_tree n ≡ finish_tree n' → n ≡ n'
same_number None None h = refl
same_number None (Some l') h = cc
same_number (Some l) None h = cc
same_number (Some l) (Some l') h = let e : l ≡ l' = cc in ap Some e

same_dump_argument : (x x' : DumpArgument) → dump_argument_tree x ≡ dump_argument_tree x' → SameDumpArgument x x'
same_dump_argument (u.Text n) (u.Text n') h = same_dump_text n n' (cc)
same_dump_argument (u.Value x) (u.Value x') h = same_dump_value x x' (same_expr x.value x'.value h)
same_dump_argument (u.Text n) (u.Value x') h = absurd (expr_no_leaf x'.value (a_text n.items) refl (cc))
same_dump_argument (u.Value x) (u.Text n') h = absurd (expr_no_leaf x.value (a_text n'.items) refl h)

-- Arguments of `$dumpfile` or `$dumpvars` of one tree say the same.
pub same_dumps : (xs xs' : Option (DumpArgument × Vec DumpArgument Global)) → dump_tree xs ≡ dump_tree xs' → SameOption SameDump xs xs'
same_dumps None None h = both_absent
same_dumps None (Some xs') h = cc
same_dumps (Some xs) None h = cc
same_dumps (Some xs) (Some xs') h = both_there xs xs' (record {
  first = same_dump_argument xs.0 xs'.0 (cc);
  others = comma_pairs SameDumpArgument dump_argument_tree same_dump_argument xs.1.items xs'.1.items (cc);
})
