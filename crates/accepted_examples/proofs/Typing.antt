-- What is computed of types, typed programs and their layout.
use Rattle.machine.specs.type_definitions.Types.{words_within, parts_within, words, parts, owns_within, is_owning}
use Rattle.machine.specs.type_definitions.Entries.{is_complete}
use Rattle.machine.specs.type_definitions.Names.{seen, step, along, reading_of}
use Rattle.machine.specs.type_definitions.Statics.{is_static, value}
use Rattle.machine.specs.type_definitions.Expressions.{own_type, compares, inside, arguments, within_suffix, behind}
use Rattle.machine.specs.type_definitions.Statements.{range_faults, has_gap}
use Rattle.machine.specs.type_definitions.Gathered.{gather}
use Rattle.machine.specs.type_definitions.Declarations.{some_part, code_faults, alternatives_faults, alternative_faults}
use Rattle.machine.specs.type_definitions.Whole.{made, known_of}
use Rattle.machine.specs.typed_tree.Expressions.{characters, typed_expression}
use Rattle.machine.specs.typed_tree.Statements.{scope_count, statements}
use Rattle.machine.specs.typed_tree.Programs.{scopes_in, objects_in, bodies_in, subs_in, typed_program}
use Rattle.machine.specs.flow_paths.Names.{selectors, has_call, waiting}
use Rattle.machine.specs.flow_paths.Acts.{acts_in}
use Rattle.machine.specs.flow_paths.Prep.{held, prep}
use Rattle.machine.specs.flow_paths.Layout.{declared, choices_of, laid}
use Rattle.machine.specs.flow_paths.Laid.{distinct, declared_within, flow_program}
use Rattle.machine.specs.type_definitions.Whole.{sentence_faults, all_made, type_sizes, type_fault}
use Rattle.tree_lowering.specs.Lowered.{lowered_files, lowered_unit, lowered_subprogram, lowered_subspec, lowered_stmts, lowered_stmt_box, stmts_row, lowered_stmt, lowered_simple}

-- The definitions that are computed where a lemma names this one.
unfoldable pub typing : Type 0
unfolding words_within parts_within words parts owns_within is_owning is_complete seen step along reading_of is_static value own_type compares inside arguments within_suffix behind range_faults has_gap gather some_part code_faults alternatives_faults alternative_faults made characters typed_expression scope_count statements scopes_in objects_in bodies_in subs_in typed_program selectors has_call waiting acts_in held prep declared choices_of laid distinct declared_within flow_program known_of sentence_faults all_made type_sizes type_fault
    lowered_files lowered_unit lowered_subprogram lowered_subspec lowered_stmts lowered_stmt_box stmts_row lowered_stmt lowered_simple
typing = Unit {0}
