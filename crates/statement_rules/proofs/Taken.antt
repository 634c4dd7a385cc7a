-- Choices taken one after the other.
use Rattle.std.proofs.Common.{◌≡◌, refl, sym, ap, ◌∙◌, ℕ, Bool, true, false, ◌&&◌, ◌||◌, List, [], ◌∷◌, ◌++◌, append_assoc, append-nil, flat_map}
use Rattle.resolved_tree.specs.declared.code_node.CodeNode.{CodeNode}
use Rattle.resolved_tree.specs.declared.code_node.CodeNode.TheVariants as code_node
use Rattle.resolved_tree.specs.Nodes.{code_of}
use Rattle.resolved_tree.specs.Trees.{Tree, Code, More, code_items}
use Rattle.type_definitions.specs.Names.{Context}
use Rattle.type_definitions.specs.Statements.{cover_of, any_others, all_sound, is_others, choice_faults}
use Rattle.type_definitions.specs.Types.{is_nil}
use Rattle.type_definitions.specs.Declarations.{alternative_choices, choices_of}
use Rattle.statement_rules.specs.declared.case_choices.Choices.{Choices}
use Rattle.statement_rules.specs.Taken.{Takes}

or_assoc : (a b c : Bool) → ((a || b) || c) ≡ (a || (b || c))
or_assoc true b c = refl
or_assoc false b c = refl

and_assoc : (a b c : Bool) → ((a && b) && c) ≡ (a && (b && c))
and_assoc true b c = refl
and_assoc false b c = refl

or_false : (a : Bool) → a ≡ (a || false)
or_false true = refl
or_false false = refl

and_true : (a : Bool) → a ≡ (a && true)
and_true true = refl
and_true false = refl

covers_append : (c : Context) (t : ℕ) (a b : List Code) → flat_map (cover_of c t) (a ++ b) ≡ flat_map (cover_of c t) a ++ flat_map (cover_of c t) b
covers_append c t [] b = refl
covers_append c t (k ∷ a) b = ap (λ rest. cover_of c t k ++ rest) (covers_append c t a b) ∙ sym (append_assoc (cover_of c t k) (flat_map (cover_of c t) a) (flat_map (cover_of c t) b))

others_append : (a b : List Code) → any_others (a ++ b) ≡ (any_others a || any_others b)
others_append [] b = refl
others_append (k ∷ a) b = ap (λ rest. is_others k || rest) (others_append a b) ∙ sym (or_assoc (is_others k) (any_others a) (any_others b))

sound_append : (c : Context) (t : ℕ) (a b : List Code) → all_sound c t (a ++ b) ≡ (all_sound c t a && all_sound c t b)
sound_append c t [] b = refl
sound_append c t (k ∷ a) b =
    ap (λ rest. is_nil (choice_faults c t true k) && rest) (sound_append c t a b)
    ∙ sym (and_assoc (is_nil (choice_faults c t true k)) (all_sound c t a) (all_sound c t b))

pub takes_none : (c : Context) (t : ℕ) (k : Choices) → Takes c t [] k k
takes_none c t k = record {
  covers = sym (append-nil k.covers.items);
  others = or_false k.has_others;
  sound = and_true k.are_sound;
}

pub takes_both : (c : Context) (t : ℕ) (a b : List Code) (x y z : Choices) → Takes c t a x y → Takes c t b y z → Takes c t (a ++ b) x z
takes_both c t a b x y z first second = record {
  covers = second.covers ∙ ap (λ front. front ++ flat_map (cover_of c t) b) first.covers ∙ append_assoc x.covers.items (flat_map (cover_of c t) a) (flat_map (cover_of c t) b)
      ∙ ap (λ rest. x.covers.items ++ rest) (sym (covers_append c t a b));
  others = second.others ∙ ap (λ front. front || any_others b) first.others
      ∙ or_assoc x.has_others (any_others a) (any_others b) ∙ ap (λ rest. x.has_others || rest) (sym (others_append a b));
  sound = second.sound ∙ ap (λ front. front && all_sound c t b) first.sound
      ∙ and_assoc x.are_sound (all_sound c t a) (all_sound c t b) ∙ ap (λ rest. x.are_sound && rest) (sym (sound_append c t a b));
}

pub takes_first : (c : Context) (t : ℕ) (list first rest : Code) (x y z : Choices) → list ≡ More first rest
    → y.covers.items ≡ x.covers.items ++ cover_of c t first → y.has_others ≡ (x.has_others || is_others first)
    → y.are_sound ≡ (x.are_sound && is_nil (choice_faults c t true first)) → Takes c t (code_items rest) y z → Takes c t (code_items list) x z
takes_first c t list first rest x y z is covers others sound behind =
    let one : Takes c t (first ∷ []) x y = record {
      covers = covers ∙ ap (λ xs. x.covers.items ++ xs) (sym (append-nil (cover_of c t first)));
      others = others ∙ ap (λ b. x.has_others || b) (or_false (is_others first));
      sound = sound ∙ ap (λ b. x.are_sound && b) (and_true (is_nil (choice_faults c t true first)));
    } in
    rw is (takes_both c t (first ∷ []) (code_items rest) x y z one behind)

pub takes_alternative : (c : Context) (t : ℕ) (list first rest : Code) (x y z : Choices) → list ≡ More first rest
    → Takes c t (alternative_choices first) x y → Takes c t (choices_of rest) y z → Takes c t (choices_of list) x z
takes_alternative c t list first rest x y z is one others = rw is (takes_both c t (alternative_choices first) (choices_of rest) x y z one others)

-- A list ends where its node is no more of it.
no_items : (tree : ℕ → Tree) (code : ℕ → Code) (n : CodeNode) → ((a b : ℕ) → n ≡ code_node.More a b → ⊥) → code_items (code_of tree code n) ≡ []
no_items tree code (code_node.More a b) none = absurd (none a b refl)
no_items tree code _ none = refl

no_choices : (tree : ℕ → Tree) (code : ℕ → Code) (n : CodeNode) → ((a b : ℕ) → n ≡ code_node.More a b → ⊥) → choices_of (code_of tree code n) ≡ []
no_choices tree code (code_node.More a b) none = absurd (none a b refl)
no_choices tree code _ none = refl

pub takes_end : (c : Context) (t : ℕ) (tree : ℕ → Tree) (code : ℕ → Code) (n : CodeNode) (list : Code) (x : Choices)
    → list ≡ code_of tree code n → ((a b : ℕ) → n ≡ code_node.More a b → ⊥) → Takes c t (code_items list) x x
takes_end c t tree code n list x is none = rw is (rw (no_items tree code n none) (takes_none c t x))

pub takes_last : (c : Context) (t : ℕ) (tree : ℕ → Tree) (code : ℕ → Code) (n : CodeNode) (list : Code) (x : Choices)
    → list ≡ code_of tree code n → ((a b : ℕ) → n ≡ code_node.More a b → ⊥) → Takes c t (choices_of list) x x
takes_last c t tree code n list x is none = rw is (rw (no_choices tree code n none) (takes_none c t x))
