use Rattle.std.proofs.Common.{◌≡◌, List, [], ◌∷◌, ◌++◌, ◌∙◌, ap, refl}
use Rattle.vs_elab_statements.proofs.around.repeated.Goals as goal

two_pushed : {A : Type 0} (a b : A) (x y z : List A) → x ≡ [] → y ≡ x ++ a ∷ [] → z ≡ y ++ b ∷ [] → z ≡ a ∷ b ∷ []
two_pushed a b x y z h k e = e ∙ ap (λ l. l ++ b ∷ []) (k ∙ ap (λ l. l ++ a ∷ []) h)

pub returns : goal.returns
returns c = record {
  all = c.push-4.new.self;
  inner = c.push-2.new.self;
  body = c.in_ok-body.body;
  whole = refl;
  parts = two_pushed _ _ _ _ _ c.in_ok-all.ensures.items c.in_ok-push-3.ensures.items c.in_ok-push-4.ensures.items;
  turn = c.in_ok-body.ensures.ok;
  turns = two_pushed _ _ _ _ _ c.in_ok-inner.ensures.items c.in_ok-push.ensures.items c.in_ok-push-2.ensures.items;
}
