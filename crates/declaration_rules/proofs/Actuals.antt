-- The actual for a formal, by its position or its name.
use Rattle.std.proofs.Common.{◌≡◌, refl, ap, ◌∙◌, ℕ, ◌+◌, Some, None, if◌then◌else◌}
use Rattle.resolved_tree.specs.Trees.{Tree, Argument}
use Rattle.type_definitions.specs.Expressions.{Given}
use Rattle.type_definitions.specs.Statements.{name_name, name_object}
use Rattle.type_definitions.specs.Gathered.{actual_type, instance_actual, instance_type, is_for_name}
use Rattle.type_definitions.specs.Declarations.{is_for_object, object_actual}
use Rattle.declaration_rules.specs.Actuals.{actual_for, is_for}

for_name : (i : ℕ) (w : Given) → is_for 1 name_name i w ≡ is_for_name i w
for_name i None = refl
for_name i (Some v) = refl

for_object : (i : ℕ) (w : Given) → is_for 0 name_object i w ≡ is_for_object i w
for_object i None = refl
for_object i (Some v) = refl

name_from : (i : ℕ) (args : Tree) → actual_for 1 name_name i args ≡ instance_actual i args
name_from i (Argument w e rest) =
    ap (λ b. if b then actual_type e else actual_for 1 name_name (i + 1) rest) (for_name i w)
    ∙ ap (λ t. if is_for_name i w then actual_type e else t) (name_from (i + 1) rest)
name_from i _ = refl

object_from : (i : ℕ) (args : Tree) → actual_for 0 name_object i args ≡ object_actual i args
object_from i (Argument w e rest) =
    ap (λ b. if b then actual_type e else actual_for 0 name_object (i + 1) rest) (for_object i w)
    ∙ ap (λ t. if is_for_object i w then actual_type e else t) (object_from (i + 1) rest)
object_from i _ = refl

-- The type that stands for Name, and the one that stands for Object.
pub name_is : (args : Tree) → actual_for 1 name_name 0 args ≡ instance_type args
name_is args = name_from 0 args

pub object_is : (args : Tree) → actual_for 0 name_object 0 args ≡ object_actual 0 args
object_is args = object_from 0 args
