-- Where no type is an anonymous access type, declarations of objects and of subprograms make no rows.
use Rattle.std.proofs.Common.{◌≡◌, refl, ◌∙◌}
use Rattle.machine.specs.resolved_tree.Trees.{Code}
use Rattle.machine.specs.type_definitions.declared.table.InitialValue.{InitialValue}
use Rattle.machine.specs.type_definitions.Types.{Table}
use Rattle.machine.specs.type_definitions.Names.{Context}
use Rattle.machine.specs.type_definitions.Gathered.{each, with_number}
use Rattle.settled_types.proofs.Cases.{each_end, on_more}

abbrev table_of : Context → Table
table_of c = c.known.table

each_table : (f : Code → Context → Context) → ((a : Code) (c : Context) → table_of (f a c) ≡ table_of c) → (ids : Code) (c : Context)
    → table_of (each f ids c) ≡ table_of c
each_table f same = on_more (λ ids. (c : Context) → table_of (each f ids c) ≡ table_of c)
    (λ a rest next c.
    next (f a c) ∙ same a c)
    (λ ids other c. rw (each_end f ids c other) (refl))

pub numbers_table : (v : InitialValue) (ids : Code) (c : Context) → table_of (each (with_number v) ids c) ≡ table_of c
numbers_table v ids c = each_table (with_number v) (λ d c. refl) ids c
