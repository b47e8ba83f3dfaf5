use Rattle.std.proofs.Common.{◌≡◌, nat_eq, length, sym, ◌∙◌, rules}
use Rattle.vs_certificate.proofs.Lists.{all_items-none}
use Rattle.vs_certificate.proofs.form.is_empty_list.Goals as goal

pub returns-in-Some : goal.returns-in-Some
returns-in-Some c =
    let empty : c.is_empty.result ≡ nat_eq (length c.in-Some.list.now.items) 0 = search rules in
    empty ∙ all_items-none c.in-Some.list.now.items ∙ rw (sym c.in-Some.ensures)
