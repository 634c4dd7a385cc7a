-- What is known of choices after some more of them.
use Rattle.std.specs.Prelude.{◌≡◌, ℕ, Bool, not, ◌&&◌, ◌||◌, List, [], ◌++◌, flat_map}
use Rattle.spark_base.specs.declared.position.Pos.{Pos}
use Rattle.resolved_tree.specs.Trees.{Tree, position, Code}
use Rattle.type_definitions.specs.declared.judgement.Cover.{Cover}
use Rattle.type_definitions.specs.declared.judgement.Fault.{Fault}
use Rattle.type_definitions.specs.Faults.{demand}
use Rattle.type_definitions.specs.Types.{full}
use Rattle.type_definitions.specs.Names.{Context}
use Rattle.type_definitions.specs.Expressions.{is_demanding, is_unknown, own_type, scalar_own}
use Rattle.type_definitions.specs.Statements.{choice_value, cover_of, any_others, all_sound, bounds_of, chosen_type, doubled, has_gap}
use Rattle.statement_rules.specs.declared.case_choices.Choices.{Choices}

abbrev pub cover_between : Context → Tree → Tree → Cover
cover_between c a b = record { at = position a; low = choice_value c a; high = choice_value c b }

-- Nothing is said of the choices where the expression isn't known to be scalar.
abbrev pub is_passed : Context → Tree → Bool
is_passed c e = is_unknown c.known (own_type c e) || is_demanding (own_type c e) || not (scalar_own c (own_type c e))

-- What is broken by choices that are all taken.
abbrev pub taken_faults : Context → Pos → Tree → Choices → List Fault
taken_faults c p e k =
    doubled [] k.covers.items
    ++ demand 4 p (k.has_others || not k.are_sound
    || not (has_gap (bounds_of (full c.known.table (chosen_type c e))).0 (bounds_of (full c.known.table (chosen_type c e))).1 k.covers.items))

pub record Takes (c : Context) (t : ℕ) (choices : List Code) (before after : Choices) : Type 0 where
  pub covers : after.covers.items ≡ before.covers.items ++ flat_map (cover_of c t) choices
  pub others : after.has_others ≡ (before.has_others || any_others choices)
  pub sound : after.are_sound ≡ (before.are_sound && all_sound c t choices)
