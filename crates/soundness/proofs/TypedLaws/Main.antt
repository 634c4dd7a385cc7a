-- Expressions that break no sentence have the types of their places, and their names stay within
-- what they name.
use Rattle.std.proofs.Common.{◌≡◌, ℕ, false, List, []}
use Rattle.machine.specs.resolved_tree.Trees.{Tree, Number, Text, Null, Named, Parens, Unary, Binary, Aggregate, Others, New, Applied, Argument, More}
use Rattle.machine.specs.type_definitions.declared.judgement.Where.{Where}
use Rattle.machine.specs.type_definitions.Expressions.{around, inside}
use Rattle.machine.specs.typed_tree.declared.object.Object.{Object}
use Rattle.machine.specs.typed_tree.Expressions.{Site, typed_expression}
use Rattle.machine.specs.flow_paths.Objects.{Typing, Signature}
use Rattle.soundness.specs.TypedLaws.Fine.{Has, Laws, IsMeant, AreSuffixes, IsSuffix, AreArguments}
use Rattle.soundness.proofs.TypedLaws.Steps.{typing}
use Rattle.soundness.proofs.TypedLaws.Named.{Fine, AreFine, IsFineSuffix, AreFineSuffixes}
use Rattle.soundness.proofs.TypedLaws.Cases.{placed, number_good, text_good, null_good, named_good, parens_good, unary_good}
use Rattle.soundness.proofs.TypedLaws.Operators.{binary_good}
use Rattle.soundness.proofs.TypedLaws.Wholes.{others_good, new_good, aggregate_good}

module _ (s : Site) (objects : List Object) (subs : List Signature) (made : ℕ → Type 0) (laws : Laws s.context.known made) where
  abbrev y : Typing
  y = typing s objects subs made laws

  mutual
    unfolding IsMeant AreSuffixes IsSuffix AreArguments

    pub fine : (e : Tree) → IsMeant s y e → Fine s objects subs made laws e
    fine (Number p n) meant = number_good s objects subs made laws p n
    fine (Text p t) meant = text_good s objects subs made laws p t
    fine (Null p) meant = null_good s objects subs made laws p
    fine (Named p d rest) meant = named_good s objects subs made laws p d rest meant.0 (fine_suffixes rest meant.1)
    fine (Parens p e) meant = parens_good s objects subs made laws p e (fine e meant)
    fine (Unary p op e) meant = unary_good s objects subs made laws p op e (fine e meant)
    fine (Binary p op a b) meant = binary_good s objects subs made laws p op a b (fine a meant.0) (fine b meant.1)
    fine (Aggregate p args) meant = aggregate_good s objects subs made laws p args (fine_arguments args meant)
    fine (Others p e) meant = others_good s objects subs made laws p e meant (fine e meant)
    fine (New p m v) meant = new_good s objects subs made laws p m v meant.0 (fine_arguments v meant.1)
    fine e meant = absurd meant

    pub fine_suffixes : (e : Tree) → AreSuffixes s y e → AreFineSuffixes s objects subs made laws e
    fine_suffixes (More a rest) meant = (fine_suffix a meant.0, fine_suffixes rest meant.1)
    fine_suffixes e meant = tt

    fine_suffix : (e : Tree) → IsSuffix s y e → IsFineSuffix s objects subs made laws e
    fine_suffix (Applied args) meant = fine_arguments args meant
    fine_suffix e meant = tt

    fine_arguments : (e : Tree) → AreArguments s y e → AreFine s objects subs made laws e
    fine_arguments (Argument w e rest) meant = (fine e meant.0, fine_arguments rest meant.1)
    fine_arguments e meant = tt

  -- The law.
  pub has_type : (e : Tree) (at : Where) (want : ℕ) → IsMeant s y e → made want → around s.context at want e ≡ [] → inside s.context false want e ≡ []
      → Has y want (typed_expression s want e)
  has_type e at want meant m none within = placed s objects subs made laws e at want (fine e meant) m none within
