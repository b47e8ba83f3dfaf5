-- Lemmas on what each form of expression gives.
use Rattle.std.proofs.Common.{◌≡◌, ℕ, take, List, Some, length, sym, ◌∙◌, ap, ap₂}
use Rattle.std.specs.declared.alloc.Global.{Global}
use Rattle.std.specs.declared.boxed.Box.{Box}
use Rattle.std.specs.declared.vec.Vec.{Vec}
use Rattle.vs_design.specs.vs_logic4.specs.declared.digit.Digit.{Digit}
use Rattle.vs_design.specs.vs_logic4.specs.declared.operators.Unary.{Unary}
use Rattle.vs_design.specs.vs_logic4.specs.Extensions.{length-resized}
use Rattle.vs_design.specs.vs_logic4.specs.Operators.{unary}
use Rattle.vs_design.specs.vs_logic4.specs.Parts.{replication}
use Rattle.vs_design.specs.vs_logic4.specs.Vectors.{resized}
use Rattle.vs_design.specs.declared.expression.Count.{Count}
use Rattle.vs_design.specs.declared.expression.Excerpt.{Excerpt}
use Rattle.vs_design.specs.declared.expression.Extension.{Extension}
use Rattle.vs_design.specs.declared.expression.Link.{Link}
use Rattle.vs_design.specs.declared.expression.Operand.{Operand}
use Rattle.vs_design.specs.declared.expression.Selection.{Selection}
use Rattle.vs_design.specs.declared.expression.Slice.{Slice}
use Rattle.vs_design.specs.declared.expression.Typed.{Typed}
use Rattle.vs_design.specs.declared.expression.Typed.TheOpen as layer
use Rattle.vs_design.specs.declared.expression.Typed.TheVariants as t
use Rattle.vs_design.specs.declared.signal.Signal.{Signal}
use Rattle.vs_design.specs.Selects.{place_of}
use Rattle.vs_design.specs.Stores.{Store, word_of}
use Rattle.vs_eval.specs.Values.{value_of, operand_value, bits_value, selection_value, chained, chosen, concatenated}
use Rattle.vs_eval.proofs.ValueLemmas.{value_layer}
use Rattle.vs_eval.specs.declared.node.Node.{Node}
use Rattle.vs_eval.specs.Copies.{links_of, pairs_of, parts_of}
use Rattle.vs_eval.specs.Meant.{AreSized, IsMeant, Means}
use Rattle.vs_eval.proofs.OperandLemmas.{means_as}
use Rattle.vs_eval.proofs.WordLemmas.{bits_long}

module _ (e : Typed) where
  pub number_law : (digits : List Digit) → e ≡ t.Number digits → (store : Store) (time : ℕ) → value_of e store time ≡ digits
  number_law digits is store time = value_layer e store time (layer.Number digits) (t.rolls-Number digits ∙ sym is)

  pub signal_law : (o : Operand) → e ≡ t.Signal o → (store : Store) (time : ℕ) → value_of e store time ≡ operand_value o.signed o.width (word_of store o.signal 0)
  signal_law o is store time = value_layer e store time (layer.Signal o) (t.rolls-Signal o ∙ sym is)

  pub slice_law : (s : Slice) → e ≡ t.Slice s → (store : Store) (time : ℕ) → value_of e store time ≡ bits_value s.low s.width (word_of store s.signal s.word)
  slice_law s is store time = value_layer e store time (layer.Slice s) (t.rolls-Slice s ∙ sym is)

  pub select_law : (s : Selection) (word low : Box Typed Global) (w l : Typed) → e ≡ t.Select s word low → w ≡ word.value → l ≡ low.value →
      (store : Store) (time : ℕ) → value_of e store time ≡ selection_value s store (value_of w store time) (value_of l store time)
  select_law s word low w l is w_is l_is store time =
      value_layer e store time (layer.Select s word low) (t.rolls-Select s word low ∙ sym is)
      ∙ ap₂ (λ (x y : Typed). selection_value s store (value_of x store time) (value_of y store time)) (sym w_is) (sym l_is)

module _ (signals : List Signal) (e : Typed) where
  pub excerpt_long : (s : Excerpt) (low : Box Typed Global) → e ≡ t.Excerpt s low → AreSized signals (λ store time. value_of e store time) s.width
  excerpt_long s low is = λ store time _.
      ap length (value_layer e store time (layer.Excerpt s low) (t.rolls-Excerpt s low ∙ sym is))
      ∙ bits_long (place_of s.bits s.width (value_of low.value store time)) s.width (Some s.digits)

  pub unary_meant : (operator : Unary) (x : Box Typed Global) (y : Typed) (node : Node) (width : ℕ) → e ≡ t.Unary operator x → y ≡ x.value →
      Means signals (λ store time. unary operator (value_of y store time)) node width → IsMeant signals e node width
  unary_meant operator x y node width is y_is m =
      means_as signals (λ store time. unary operator (value_of y store time)) (λ store time. value_of e store time) node width
      (λ store time.
      ap (λ (z : Typed). unary operator (value_of z store time)) y_is
      ∙ sym (value_layer e store time (layer.Unary operator x) (t.rolls-Unary operator x ∙ sym is))) m

  pub chain_meant : (x : Box Typed Global) (links : Vec (Link × Typed) Global) (y : Typed) (ls : List (Link × Typed)) (node : Node) (width : ℕ) → e ≡ t.Chain x links → y ≡ x.value → ls ≡ links.items →
      Means signals (λ store time. chained (value_of y store time) (links_of ls store time)) node width → IsMeant signals e node width
  chain_meant x links y ls node width is y_is ls_are m =
      means_as signals (λ store time. chained (value_of y store time) (links_of ls store time)) (λ store time. value_of e store time) node width
      (λ store time.
      ap₂ (λ (z : Typed) (ks : List (Link × Typed)). chained (value_of z store time) (links_of ks store time)) y_is ls_are
      ∙ sym (value_layer e store time (layer.Chain x links) (t.rolls-Chain x links ∙ sym is))) m

  pub choice_meant : (pairs : Vec (Typed × Typed) Global) (x : Box Typed Global) (y : Typed) (ps : List (Typed × Typed)) (node : Node) (width : ℕ) → e ≡ t.Choice pairs x → y ≡ x.value → ps ≡ pairs.items →
      Means signals (λ store time. chosen (pairs_of ps store time) (value_of y store time)) node width → IsMeant signals e node width
  choice_meant pairs x y ps node width is y_is ps_are m =
      means_as signals (λ store time. chosen (pairs_of ps store time) (value_of y store time)) (λ store time. value_of e store time) node width
      (λ store time.
      ap₂ (λ (z : Typed) (qs : List (Typed × Typed)). chosen (pairs_of qs store time) (value_of z store time)) y_is ps_are
      ∙ sym (value_layer e store time (layer.Choice pairs x) (t.rolls-Choice pairs x ∙ sym is))) m

  pub concat_meant : (x : Box Typed Global) (others : Vec Typed Global) (y : Typed) (es : List Typed) (node : Node) (width : ℕ) → e ≡ t.Concat x others → y ≡ x.value → es ≡ others.items →
      Means signals (λ store time. concatenated (value_of y store time) (parts_of es store time)) node width → IsMeant signals e node width
  concat_meant x others y es node width is y_is es_are m =
      means_as signals (λ store time. concatenated (value_of y store time) (parts_of es store time)) (λ store time. value_of e store time) node width
      (λ store time.
      ap₂ (λ (z : Typed) (ds : List Typed). concatenated (value_of z store time) (parts_of ds store time)) y_is es_are
      ∙ sym (value_layer e store time (layer.Concat x others) (t.rolls-Concat x others ∙ sym is))) m

  pub repeat_meant : (n : Count) (x : Box Typed Global) (y : Typed) (node : Node) (width : ℕ) → e ≡ t.Repeat n x → y ≡ x.value →
      Means signals (λ store time. take 64 (replication n.times (value_of y store time))) node width → IsMeant signals e node width
  repeat_meant n x y node width is y_is m =
      means_as signals (λ store time. take 64 (replication n.times (value_of y store time))) (λ store time. value_of e store time) node width
      (λ store time.
      ap (λ (z : Typed). take 64 (replication n.times (value_of z store time))) y_is
      ∙ sym (value_layer e store time (layer.Repeat n x) (t.rolls-Repeat n x ∙ sym is))) m

  pub resized_long : (size : Extension) (x : Box Typed Global) → e ≡ t.Resized size x → AreSized signals (λ store time. value_of e store time) size.width
  resized_long size x is = λ store time _.
      ap length (value_layer e store time (layer.Resized size x) (t.rolls-Resized size x ∙ sym is)) ∙ length-resized size.signed size.width (value_of x.value store time)

  pub resized_meant : (size : Extension) (x : Box Typed Global) (y : Typed) (node : Node) (width : ℕ) → e ≡ t.Resized size x → y ≡ x.value →
      Means signals (λ store time. resized size.signed size.width (value_of y store time)) node width → IsMeant signals e node width
  resized_meant size x y node width is y_is m =
      means_as signals (λ store time. resized size.signed size.width (value_of y store time)) (λ store time. value_of e store time) node width
      (λ store time.
      ap (λ (z : Typed). resized size.signed size.width (value_of z store time)) y_is
      ∙ sym (value_layer e store time (layer.Resized size x) (t.rolls-Resized size x ∙ sym is))) m
