-- What is compared in TypedSources: the resolved tree of a program, and the typed program that the
-- definitions make of it.
use Rattle.std.proofs.Common.{◌≡◌}
use Rattle.std.specs.Prelude.{None}
use Rattle.resolved_tree.specs.Trees.{Program}
use Rattle.type_definitions.specs.Types.{words_within, parts_within, words, parts, owns_within, is_owning}
use Rattle.type_definitions.specs.Entries.{is_complete}
use Rattle.type_definitions.specs.Names.{seen, step, along, reading_of}
use Rattle.type_definitions.specs.Statics.{is_static, value}
use Rattle.type_definitions.specs.Expressions.{own_type, compares, inside, arguments, within_suffix, behind}
use Rattle.type_definitions.specs.Statements.{range_faults, has_gap}
use Rattle.type_definitions.specs.Gathered.{gather}
use Rattle.type_definitions.specs.Declarations.{some_part, code_faults, alternatives_faults, alternative_faults}
use Rattle.type_definitions.specs.Whole.{made, known_of, sentence_faults, all_made, type_sizes, type_fault}
use Rattle.typed_tree.specs.Expressions.{characters, typed_expression, typed_steps, typed_step, typed_actuals, typed_imaged, typed_first, typed_values}
use Rattle.typed_tree.specs.Statements.{scope_count, statements}
use Rattle.typed_tree.specs.Programs.{TypedProgram, scopes_in, objects_in, bodies_in, subs_in, typed_program}

-- The program breaks no rule of typing, and means this typed program.
abbrev pub IsTypedAs : Program → TypedProgram → Type 0
IsTypedAs program expected = (type_fault program ≡ None) × (typed_program (known_of program) program.units ≡ expected)

-- The definitions that are computed where a lemma names this one.
unfoldable pub typing : Type 0
unfolding words_within parts_within words parts owns_within is_owning is_complete seen step along reading_of is_static value
    own_type compares inside arguments within_suffix behind range_faults has_gap gather some_part code_faults
    alternatives_faults alternative_faults made known_of sentence_faults all_made type_sizes type_fault characters
    typed_expression typed_steps typed_step typed_actuals typed_imaged typed_first typed_values scope_count statements
    scopes_in objects_in bodies_in subs_in typed_program
typing = Unit {0}
