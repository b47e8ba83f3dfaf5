-- Where reading stops since it would be too deep, the symbols up to the place begin a part of a deeper nesting.
use Rattle.std.specs.Prelude.{◌≡◌, ℕ, zero, suc, max, ◌-◌, ◌<◌, ◌≤◌, Bool, true, false, not, ◌&&◌, ◌||◌, ◌⊎◌, List, [], ◌∷◌, ◌++◌, refl}
use Rattle.std.proofs.Common.{sym, ◌∙◌, ap, subst, inl, inr, append_assoc, arith}
use Rattle.vs_lexer.specs.declared.token.Mark.{Mark}
use Rattle.vs_syntax.specs.Symbols.{Symbol, Class, class_of, first, same_class}
use Rattle.vs_syntax.specs.Grammar.{Nonterminal, a_source, a_module, a_header_parameter, directed_ports, net_ports, variable_ports, port_names, a_bare_name, a_generate_block, a_local, an_item, a_constant, an_instance, a_connection, a_net, a_variable, an_assignment, a_stmt, an_argument, a_dump_argument, a_case_item, an_event_expr, a_target, an_expr, a_level, Grammar, nothing, token, seq, either, many, part, node, chain, optional, operands, levels, level_at, rule}
use Rattle.vs_syntax.specs.Tables.{Front, null_of, operand_fronts, fronts_of, null, low, fronts, among, goes}
use Rattle.vs_syntax.specs.Derivation.{Tree, empty, leaf, both, down, tokens, height, Is, is_nothing, is_token, is_seq, is_right, is_stop, is_part, is_node, is_one, is_present, is_absent}
use Rattle.vs_syntax.specs.Reading.{Gets, Stuck, stuck_here, stuck_deep, stuck_first, stuck_second, stuck_left, stuck_right, stuck_many, stuck_more, stuck_part, stuck_node, stuck_one, stuck_link, stuck_high, stuck_behind}
use Rattle.vs_syntax.proofs.Fronts.{clash, goes-seq, goes-either, goes-node, goes-chain}
use Rattle.std.proofs.lemmas.Bool.{or_parts as or_false, or_left, or_right, not-true as not_true}
use Rattle.vs_syntax.proofs.Starts.{silent, goes_behind, seq_first, seq_second}
use Rattle.vs_syntax.proofs.Least.{least, least_is, least-height, is_class, sound, rule_sound, sound_seq, sound_either, sound_many, sound_chain, first_nil}
use Rattle.vs_logic4.proofs.Basics.{and_left, and_right}
use Rattle.vs_syntax.proofs.Refused.{front_of, front_text}
use Rattle.vs_syntax.proofs.Viable.{Viable, viable_first, viable_second, viable_left, viable_right, viable_many, viable_more, viable_link, viable_behind}
use Rattle.vs_syntax.proofs.Plainly.{same_class-true}
use Rattle.vs_logic4.proofs.Basics.{or_parts as or_cases}

-- The symbols begin a part of the grammar, of some nesting.
pub record Begun (g : Grammar) (w : List Symbol) : Type 0 where
  pub depth : ℕ
  pub viable : Viable g depth w

raise : (g : Grammar) (r n : ℕ) (w : List Symbol) → Viable g r w → r ≤ n → Viable g n w
raise g r n w v h = let f : height v.tree ≤ r = v.fits in record { tree = v.tree; tail = v.tail; is = v.is; fits = omega (arith, f, h); text = v.text }

raise_gets : (g : Grammar) (r n : ℕ) (ts rest : List Symbol) (x : Tree) → Gets g r ts x rest → r ≤ n → Gets g n ts x rest
raise_gets g r n ts rest x p h = let f : height x ≤ r = p.fits in record { is = p.is; text = p.text; fits = omega (arith, f, h) }

-- The operators, without a bound on the nesting.
begun_first : (a b : Grammar) (w : List Symbol) → sound (seq a b) ≡ true → Begun a w → Begun (seq a b) w
begun_first a b w h v =
    let n = max v.depth (low (seq a b)) in
    record { depth = n; viable = viable_first a b n w h (omega arith) (raise a v.depth n w v.viable (omega arith)) }

begun_second : (a b : Grammar) (r : ℕ) (ts mid w rest : List Symbol) (x : Tree) → sound (seq a b) ≡ true → Gets a r ts x mid → mid ≡ w ++ rest → Begun b w → Begun (seq a b) (tokens x ++ w)
begun_second a b r ts mid w rest x h p t v =
    let n = max (max r v.depth) (low (seq a b)) in
    record { depth = n; viable = viable_second a b n ts mid w rest x h (omega arith) (raise_gets a r n ts mid x p (omega arith)) t (raise b v.depth n w v.viable (omega arith)) }

begun_left : (a b : Grammar) (ts w rest : List Symbol) → sound (either a b) ≡ true → goes a ts ≡ true → ts ≡ w ++ rest → Begun a w → Begun (either a b) w
begun_left a b ts w rest h i t v =
    let n = max v.depth (low (either a b)) in
    record { depth = n; viable = viable_left a b n ts w rest h (omega arith) i t (raise a v.depth n w v.viable (omega arith)) }

begun_right : (a b : Grammar) (ts w rest : List Symbol) → sound (either a b) ≡ true → goes a ts ≡ false → ts ≡ w ++ rest → Begun b w → Begun (either a b) w
begun_right a b ts w rest h i t v =
    let n = max v.depth (low (either a b)) in
    record { depth = n; viable = viable_right a b n ts w rest h (omega arith) i t (raise b v.depth n w v.viable (omega arith)) }

begun_many : (a : Grammar) (ts w rest : List Symbol) → sound (many a) ≡ true → goes a ts ≡ true → ts ≡ w ++ rest → Begun a w → Begun (many a) w
begun_many a ts w rest h i t v = record { depth = v.depth; viable = viable_many a v.depth ts w rest h i t v.viable }

begun_more : (a : Grammar) (r : ℕ) (ts mid w rest : List Symbol) (x : Tree) → sound (many a) ≡ true → goes a ts ≡ true → Gets a r ts x mid → mid ≡ w ++ rest → Begun (many a) w → Begun (many a) (tokens x ++ w)
begun_more a r ts mid w rest x h i p t v =
    let n = max r v.depth in
    record { depth = n; viable = viable_more a n ts mid w rest x h i (raise_gets a r n ts mid x p (omega arith)) t (raise (many a) v.depth n w v.viable (omega arith)) }

begun_part : (p : Nonterminal) (w : List Symbol) → Begun (rule p) w → Begun (part p) w
begun_part p w v = let u = v.viable in record { depth = v.depth; viable = record { tree = u.tree; tail = u.tail; is = is_part u.is; fits = u.fits; text = u.text } }

begun_node : (a : Grammar) (w : List Symbol) → Begun a w → Begun (node a) w
begun_node a w v =
    let u = v.viable in
    let f : height u.tree ≤ v.depth = u.fits in
    record { depth = suc v.depth; viable = record { tree = down u.tree; tail = u.tail; is = is_node u.is; fits = omega (arith, f); text = u.text } }

begun_one : (a b : Grammar) (w : List Symbol) → sound (chain a b) ≡ true → Begun a w → Begun (chain a b) w
begun_one a b w h v = let u = v.viable in record { depth = v.depth; viable = record { tree = u.tree; tail = u.tail; is = is_one (sound_chain a b h).3 u.is; fits = u.fits; text = u.text } }

begun_link : (a b : Grammar) (r : ℕ) (ts mid w rest : List Symbol) (x : Tree) → sound (chain a b) ≡ true → Gets a r ts x mid → goes b mid ≡ true → mid ≡ w ++ rest → Begun b w → Begun (chain a b) (tokens x ++ w)
begun_link a b r ts mid w rest x h p i t v =
    let n = suc (max r v.depth) in
    let f : height x ≤ r = p.fits in
    let lower : height x < n = omega (arith, f) in
    record { depth = n; viable = viable_link a b n ts mid w rest x h (raise_gets a r n ts mid x p (omega arith)) lower i t (raise b v.depth (n - 1) w v.viable (omega arith)) }

begun_behind : (c : Class) (a : Grammar) (s : Symbol) (w : List Symbol) → class_of s ≡ c → Begun a w → Begun (optional c a) (s ∷ w)
begun_behind c a s w e v = record { depth = v.depth; viable = viable_behind c a v.depth s w e v.viable }

-- A tree without tokens, where what comes next can't begin the grammar.
record Nothing (g : Grammar) (m : List Symbol) : Type 0 where
  tree : Tree
  is : Is g tree m
  none : tokens tree ≡ []

part_nothing : (p : Nonterminal) → null_of p ≡ true → (m : List Symbol) → goes (part p) m ≡ false → Nothing (part p) m
part_nothing a_source n m h = record { tree = empty; is = is_part (is_stop h); none = refl }
part_nothing a_module n m h = absurd (clash n refl)
part_nothing a_header_parameter n m h = absurd (clash n refl)
part_nothing directed_ports n m h = absurd (clash n refl)
part_nothing net_ports n m h = absurd (clash n refl)
part_nothing variable_ports n m h = absurd (clash n refl)
part_nothing port_names n m h = absurd (clash n refl)
part_nothing a_bare_name n m h = absurd (clash n refl)
part_nothing a_generate_block n m h = absurd (clash n refl)
part_nothing a_local n m h = absurd (clash n refl)
part_nothing an_item n m h = absurd (clash n refl)
part_nothing a_constant n m h = absurd (clash n refl)
part_nothing an_instance n m h = absurd (clash n refl)
part_nothing a_connection n m h = absurd (clash n refl)
part_nothing a_stmt n m h = absurd (clash n refl)
part_nothing an_argument n m h = absurd (clash n refl)
part_nothing a_dump_argument n m h = absurd (clash n refl)
part_nothing a_case_item n m h = absurd (clash n refl)
part_nothing an_event_expr n m h = absurd (clash n refl)
part_nothing a_target n m h = absurd (clash n refl)
part_nothing an_assignment n m h = absurd (clash n refl)
part_nothing a_net n m h = absurd (clash n refl)
part_nothing a_variable n m h = absurd (clash n refl)
part_nothing an_expr n m h = absurd (clash n refl)
part_nothing (a_level k) n m h = absurd (clash n refl)

or_other : (a b : Bool) → a ≡ false → (a || b) ≡ true → b ≡ true
or_other a b p h = ap (λ u. u || b) (sym p) ∙ h

pub either_none : (a b : Grammar) (m : List Symbol) → goes (either a b) m ≡ false → (goes a m ≡ false) × (goes b m ≡ false)
either_none a b m h = or_false (goes a m) (goes b m) (sym (goes-either a b m) ∙ h)

null_tree : (g : Grammar) → sound g ≡ true → null g ≡ true → (m : List Symbol) → goes g m ≡ false → Nothing g m
null_tree nothing s n m h = record { tree = empty; is = is_nothing; none = refl }
null_tree (token c) s n m h = absurd (clash n refl)
null_tree (seq a b) s n m h =
    let t = sound_seq a b s in
    let na : null a ≡ true = and_left (null a) (null b) n in
    let y = null_tree b t.1 (and_right (null a) (null b) n) m (seq_second a b m na h) in
    let x = null_tree a t.0 na (tokens y.tree ++ m) (goes_behind a (tokens y.tree) m y.none ∙ seq_first a b m h) in
    record { tree = both x.tree y.tree; is = is_seq x.is y.is; none = rw (x.none, y.none) refl }
null_tree (either a b) s n m h =
    let t = sound_either a b s in
    let e = either_none a b m h in
    let y = null_tree b t.1 (or_other (null a) (null b) t.3 n) m e.1 in
    record { tree = y.tree; is = is_right (goes_behind a (tokens y.tree) m y.none ∙ e.0) y.is; none = y.none }
null_tree (many a) s n m h = record { tree = empty; is = is_stop h; none = refl }
null_tree (part p) s n m h = part_nothing p n m h
null_tree (node a) s n m h =
    let x = null_tree a s n m (sym (goes-node a m) ∙ h) in
    record { tree = down x.tree; is = is_node x.is; none = x.none }
null_tree (chain a b) s n m h = absurd (clash n (sound_chain a b s).5)
null_tree (optional c a) s n m h = record { tree = empty; is = is_absent h; none = refl }

-- whether a part of the grammar can begin with the class, where r says so of the parts that have a rule
abbrev pub reach_in : (Nonterminal → Bool) → Grammar → Class → Bool
reach_in r nothing c = false
reach_in r (token k) c = same_class c k
reach_in r (seq a b) c = reach_in r a c || (not (among c (fronts a)) && (null a && reach_in r b c))
reach_in r (either a b) c = reach_in r a c || (not (among c (fronts a)) && reach_in r b c)
reach_in r (many a) c = reach_in r a c
reach_in r (part p) c = r p
reach_in r (node a) c = reach_in r a c
reach_in r (chain a b) c = reach_in r a c
reach_in r (optional k a) c = same_class c k

-- whether the part is operands that the class can begin
abbrev pub reach_level : Class → Nonterminal → Bool
reach_level c (a_level n) = among c operand_fronts
reach_level c _ = false

-- the same by rules within one another, at most so many
abbrev pub reach : ℕ → Class → Nonterminal → Bool
reach zero c p = reach_level c p
reach (suc n) c p = reach_level c p || reach_in (reach n c) (rule p) c

not_nil : (s : Symbol) (ss : List Symbol) → s ∷ ss ≡ [] → ⊥
not_nil s ss e = cc

-- a part that begins with the symbol can begin so
goes_begun : (a : Grammar) (s : Symbol) → Begun a (s ∷ []) → goes a (s ∷ []) ≡ true
goes_begun a s v =
    let u = v.viable in
    let t : first (tokens u.tree ++ []) ≡ class_of s = first_nil (tokens u.tree) ∙ ap first u.text in
    elim (goes a (s ∷ [])) as (λ b. goes a (s ∷ []) ≡ b → b ≡ true) [
      | true ↦ λ e. refl
      | false ↦ λ e. absurd (not_nil s u.tail (sym u.text ∙ silent u.is (ap (λ c. among c (fronts a)) t ∙ e)))
    ] refl

grown_seq : (a b : Grammar) (s : Symbol) → sound (seq a b) ≡ true → null a ≡ true → goes a (s ∷ []) ≡ false → Begun b (s ∷ []) → Begun (seq a b) (s ∷ [])
grown_seq a b s h n i v =
    let x = null_tree a (sound_seq a b h).0 n (s ∷ []) i in
    let t : s ∷ [] ≡ tokens x.tree ++ (s ∷ []) = ap (λ u. u ++ (s ∷ [])) (sym x.none) in
    subst (λ (u : List Symbol). Begun (seq a b) (u ++ (s ∷ []))) x.none
    (begun_second a b (height x.tree) (s ∷ []) (s ∷ []) (s ∷ []) [] x.tree h (record { is = x.is; text = t; fits = omega arith }) refl v)

-- A symbol that the grammar can begin with begins a part of it.
grown_in : (r : Nonterminal → Bool) (s : Symbol) → ((q : Nonterminal) → r q ≡ true → Begun (part q) (s ∷ [])) → (g : Grammar) → sound g ≡ true → reach_in r g (class_of s) ≡ true → Begun g (s ∷ [])
grown_in r s f nothing h k = absurd (clash k refl)
grown_in r s f (token c) h k = record { depth = 0; viable = record { tree = leaf s; tail = []; is = is_token (same_class-true (class_of s) c k); fits = omega arith; text = refl } }
grown_in r s f (seq a b) h k =
    let t = sound_seq a b h in
    elim (or_cases (reach_in r a (class_of s)) (not (goes a (s ∷ [])) && (null a && reach_in r b (class_of s))) k) as (λ _. Begun (seq a b) (s ∷ [])) [
      | inl i ↦ begun_first a b (s ∷ []) h (grown_in r s f a t.0 i)
      | inr i ↦
          let j = and_right (not (goes a (s ∷ []))) (null a && reach_in r b (class_of s)) i in
          grown_seq a b s h (and_left (null a) (reach_in r b (class_of s)) j) (not_true (goes a (s ∷ [])) (and_left (not (goes a (s ∷ []))) (null a && reach_in r b (class_of s)) i))
          (grown_in r s f b t.1 (and_right (null a) (reach_in r b (class_of s)) j))
    ]
grown_in r s f (either a b) h k =
    let t = sound_either a b h in
    elim (or_cases (reach_in r a (class_of s)) (not (goes a (s ∷ [])) && reach_in r b (class_of s)) k) as (λ _. Begun (either a b) (s ∷ [])) [
      | inl i ↦ let v = grown_in r s f a t.0 i in begun_left a b (s ∷ []) (s ∷ []) [] h (goes_begun a s v) refl v
      | inr i ↦ begun_right a b (s ∷ []) (s ∷ []) [] h (not_true (goes a (s ∷ [])) (and_left (not (goes a (s ∷ []))) (reach_in r b (class_of s)) i)) refl
          (grown_in r s f b t.1 (and_right (not (goes a (s ∷ []))) (reach_in r b (class_of s)) i))
    ]
grown_in r s f (many a) h k = let v = grown_in r s f a (sound_many a h).0 k in begun_many a (s ∷ []) (s ∷ []) [] h (goes_begun a s v) refl v
grown_in r s f (part p) h k = f p k
grown_in r s f (node a) h k = begun_node a (s ∷ []) (grown_in r s f a h k)
grown_in r s f (chain a b) h k = begun_one a b (s ∷ []) h (grown_in r s f a (sound_chain a b h).0 k)
grown_in r s f (optional c a) h k =
    let e : height (least a) ≡ low a = least-height a in
    record {
      depth = low a;
      viable = record { tree = both (leaf s) (least a); tail = tokens (least a); is = is_present (same_class-true (class_of s) c k) (least_is a (and_right (is_class c) (sound a) h)); fits = omega (arith, e); text = refl };
    }

-- whether all of them pass
abbrev pub all_pass : (Class → Bool) → List Front → Bool
all_pass p [] = true
all_pass p (f ∷ fs) = p f.class && all_pass p fs

all_pass-among : (p : Class → Bool) (c : Class) (fs : List Front) → all_pass p fs ≡ true → among c fs ≡ true → p c ≡ true
all_pass-among p c [] h k = absurd (clash k refl)
all_pass-among p c (f ∷ fs) h k =
    elim (same_class c f.class) as (λ s. same_class c f.class ≡ s → (s || among c fs) ≡ true → p c ≡ true) [
      | true ↦ λ e i. ap p (same_class-true c f.class e) ∙ and_left (p f.class) (all_pass p fs) h
      | false ↦ λ e i. all_pass-among p c fs (and_right (p f.class) (all_pass p fs) h) i
    ] refl k

-- operands begin as one operand does
operand_reach : all_pass (λ c. reach_in (λ q. false) (rule (a_level zero)) c) operand_fronts ≡ true
operand_reach = refl

operands_grown : (n : ℕ) (ops : List Mark) (s : Symbol) → sound (operands (a_level n) ops) ≡ true → Begun (part (a_level n)) (s ∷ []) → Begun (operands (a_level n) ops) (s ∷ [])
operands_grown n [] s h v = v
operands_grown n (op ∷ ops) s h v = begun_one (part (a_level n)) _ (s ∷ []) h v

level_grown : (n : ℕ) (s : Symbol) → among (class_of s) operand_fronts ≡ true → Begun (part (a_level n)) (s ∷ [])
level_grown zero s h = begun_part (a_level zero) (s ∷ [])
    (grown_in (λ q. false) s (λ q i. absurd (clash i refl)) (rule (a_level zero)) (rule_sound (a_level zero))
    (all_pass-among (λ c. reach_in (λ q. false) (rule (a_level zero)) c) (class_of s) operand_fronts operand_reach h))
level_grown (suc n) s h = begun_part (a_level (suc n)) (s ∷ []) (operands_grown n (level_at levels n) s (rule_sound (a_level (suc n))) (level_grown n s h))

level_reached : (p : Nonterminal) (s : Symbol) → reach_level (class_of s) p ≡ true → Begun (part p) (s ∷ [])
level_reached (a_level n) s h = level_grown n s h
level_reached _ s h = absurd (clash h refl)

part_grown : (n : ℕ) (p : Nonterminal) (s : Symbol) → reach n (class_of s) p ≡ true → Begun (part p) (s ∷ [])
part_grown zero p s h = level_reached p s h
part_grown (suc n) p s h =
    elim (or_cases (reach_level (class_of s) p) (reach_in (reach n (class_of s)) (rule p) (class_of s)) h) as (λ _. Begun (part p) (s ∷ [])) [
      | inl i ↦ level_reached p s i
      | inr i ↦ begun_part p (s ∷ []) (grown_in (reach n (class_of s)) s (λ q k. part_grown n q s k) (rule p) (rule_sound p) i)
    ]

-- each class that can begin a part is reached in it
rule_reach : (p : Nonterminal) → all_pass (λ c. reach 4 c p) (fronts_of p) ≡ true
rule_reach a_source = refl
rule_reach a_module = refl
rule_reach a_header_parameter = refl
rule_reach directed_ports = refl
rule_reach net_ports = refl
rule_reach variable_ports = refl
rule_reach port_names = refl
rule_reach a_bare_name = refl
rule_reach a_generate_block = refl
rule_reach a_local = refl
rule_reach an_item = refl
rule_reach a_constant = refl
rule_reach an_instance = refl
rule_reach a_connection = refl
rule_reach a_net = refl
rule_reach a_variable = refl
rule_reach an_assignment = refl
rule_reach a_stmt = refl
rule_reach an_argument = refl
rule_reach a_dump_argument = refl
rule_reach a_case_item = refl
rule_reach an_event_expr = refl
rule_reach a_target = refl
rule_reach an_expr = refl
rule_reach (a_level n) = refl

front_seq : (ga na gb ra rb : Bool) → (ga ≡ true → ra ≡ true) → (gb ≡ true → rb ≡ true) → (ga || (na && gb)) ≡ true → (ra || (not ga && (na && rb))) ≡ true
front_seq true na gb ra rb f g h = or_left ra (false && (na && rb)) (f refl)
front_seq false na gb ra rb f g h = or_right ra (na && rb) (rw (and_left na gb h, g (and_right na gb h)) refl)

front_either : (ga gb ra rb : Bool) → (ga ≡ true → ra ≡ true) → (gb ≡ true → rb ≡ true) → (ga || gb) ≡ true → (ra || (not ga && rb)) ≡ true
front_either true gb ra rb f g h = or_left ra (false && rb) (f refl)
front_either false gb ra rb f g h = or_right ra rb (g h)

pub or_nil : (a : Bool) → (a || false) ≡ true → a ≡ true
or_nil true h = refl
or_nil false h = h

front_chain : (ga na gb : Bool) → na ≡ false → (ga || (na && gb)) ≡ true → ga ≡ true
front_chain true na gb n h = refl
front_chain false na gb n h = absurd (clash h (ap (λ u. u && gb) n))

front_reach : (g : Grammar) (s : Symbol) → sound g ≡ true → goes g (s ∷ []) ≡ true → reach_in (λ p. goes (part p) (s ∷ [])) g (class_of s) ≡ true
front_reach nothing s h k = k
front_reach (token c) s h k = or_nil (same_class (class_of s) c) k
front_reach (seq a b) s h k =
    let t = sound_seq a b h in
    let r = reach_in (λ p. goes (part p) (s ∷ [])) in
    front_seq (goes a (s ∷ [])) (null a) (goes b (s ∷ [])) (r a (class_of s)) (r b (class_of s)) (front_reach a s t.0) (front_reach b s t.1) (sym (goes-seq a b (s ∷ [])) ∙ k)
front_reach (either a b) s h k =
    let t = sound_either a b h in
    let r = reach_in (λ p. goes (part p) (s ∷ [])) in
    front_either (goes a (s ∷ [])) (goes b (s ∷ [])) (r a (class_of s)) (r b (class_of s)) (front_reach a s t.0) (front_reach b s t.1) (sym (goes-either a b (s ∷ [])) ∙ k)
front_reach (many a) s h k = front_reach a s (sound_many a h).0 k
front_reach (part p) s h k = k
front_reach (node a) s h k = front_reach a s h (sym (goes-node a (s ∷ [])) ∙ k)
front_reach (chain a b) s h k =
    let t = sound_chain a b h in
    front_reach a s t.0 (front_chain (goes a (s ∷ [])) (null a) (goes b (s ∷ [])) t.5 (sym (goes-chain a b (s ∷ [])) ∙ k))
front_reach (optional c a) s h k = or_nil (same_class (class_of s) c) k

grown : (g : Grammar) (s : Symbol) → sound g ≡ true → goes g (s ∷ []) ≡ true → Begun g (s ∷ [])
grown g s h k = grown_in (λ p. goes (part p) (s ∷ [])) s (λ q i. part_grown 4 q s (all_pass-among (λ c. reach 4 c q) (class_of s) (fronts_of q) (rule_reach q) i)) g h (front_reach g s h k)

-- up to the place and on
on_to : (ts front rest : List Symbol) (s : Symbol) (ss : List Symbol) → ts ≡ front ++ rest → rest ≡ s ∷ ss → ts ≡ (front ++ (s ∷ [])) ++ ss
on_to ts front rest s ss e f = e ∙ ap (λ u. front ++ u) f ∙ sym (append_assoc front (s ∷ []) ss)

moved : (g : Grammar) (x : Tree) (w : List Symbol) (s : Symbol) → Begun g (tokens x ++ (w ++ (s ∷ []))) → Begun g ((tokens x ++ w) ++ (s ∷ []))
moved g x w s v = subst (λ (u : List Symbol). Begun g u) (sym (append_assoc (tokens x) w (s ∷ []))) v

-- The symbols up to the place begin a part of the grammar, of some nesting.
pub deeper : {g : Grammar} {depth : ℕ} {deep : Bool} {ts rest : List Symbol} → (st : Stuck g depth deep ts rest) → deep ≡ true → sound g ≡ true → (s : Symbol) (ss : List Symbol) → rest ≡ s ∷ ss → Begun g (front_of st ++ (s ∷ []))
deeper (stuck_here n h) d i s ss e = absurd (clash d refl)
deeper (stuck_deep {a = a} h n) d i s ss e = grown a s i (ap (λ u. among (first u) (fronts a)) (sym e) ∙ h)
deeper (stuck_first {a = a} {b = b} st) d i s ss e = begun_first a b (front_of st ++ (s ∷ [])) i (deeper st d (sound_seq a b i).0 s ss e)
deeper {depth = depth} (stuck_second {a = a} {b = b} {ts = ts} {mid = mid} {rest = rest} {x = x} p st) d i s ss e =
    moved (seq a b) x (front_of st) s (begun_second a b depth ts mid (front_of st ++ (s ∷ [])) ss x i p (on_to mid (front_of st) rest s ss (front_text st) e) (deeper st d (sound_seq a b i).1 s ss e))
deeper (stuck_left {a = a} {b = b} {ts = ts} {rest = rest} h n st) d i s ss e = begun_left a b ts (front_of st ++ (s ∷ [])) ss i h (on_to ts (front_of st) rest s ss (front_text st) e) (deeper st d (sound_either a b i).0 s ss e)
deeper (stuck_right {a = a} {b = b} {ts = ts} {rest = rest} h n st) d i s ss e = begun_right a b ts (front_of st ++ (s ∷ [])) ss i h (on_to ts (front_of st) rest s ss (front_text st) e) (deeper st d (sound_either a b i).1 s ss e)
deeper (stuck_many {a = a} {ts = ts} {rest = rest} h n st) d i s ss e = begun_many a ts (front_of st ++ (s ∷ [])) ss i h (on_to ts (front_of st) rest s ss (front_text st) e) (deeper st d (sound_many a i).0 s ss e)
deeper {depth = depth} (stuck_more {a = a} {ts = ts} {mid = mid} {rest = rest} {x = x} h p st) d i s ss e =
    moved (many a) x (front_of st) s (begun_more a depth ts mid (front_of st ++ (s ∷ [])) ss x i h p (on_to mid (front_of st) rest s ss (front_text st) e) (deeper st d i s ss e))
deeper (stuck_part {p = k} st) d i s ss e = begun_part k (front_of st ++ (s ∷ [])) (deeper st d (rule_sound k) s ss e)
deeper (stuck_node {a = a} n st) d i s ss e = begun_node a (front_of st ++ (s ∷ [])) (deeper st d i s ss e)
deeper (stuck_one {a = a} {b = b} st) d i s ss e = begun_one a b (front_of st ++ (s ∷ [])) i (deeper st d (sound_chain a b i).0 s ss e)
deeper {depth = depth} (stuck_link {a = a} {b = b} {ts = ts} {mid = mid} {rest = rest} {x = x} p n h st) d i s ss e =
    moved (chain a b) x (front_of st) s (begun_link a b depth ts mid (front_of st ++ (s ∷ [])) ss x i p h (on_to mid (front_of st) rest s ss (front_text st) e) (deeper st d (sound_chain a b i).1 s ss e))
deeper {depth = depth} (stuck_high {a = a} {b = b} {ts = ts} {mid = mid} {x = x} p h n) d i s ss e =
    begun_link a b depth ts mid (s ∷ []) ss x i p h e (grown b s (sound_chain a b i).1 (ap (λ u. among (first u) (fronts b)) (sym e) ∙ h))
deeper (stuck_behind {c = c} {a = a} {s = z} h n st) d i s ss e = begun_behind c a z (front_of st ++ (s ∷ [])) h (deeper st d (and_right (is_class c) (sound a) i) s ss e)
