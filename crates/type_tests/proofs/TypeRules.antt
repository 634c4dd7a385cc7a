-- What is compared in the modules of sources: the resolved tree of a program, and what the
-- definitions of typing say of it.
use Rattle.std.proofs.Common.{◌≡◌, ℕ}
use Rattle.std.specs.Prelude.{None, Some}
use Rattle.spark_base.specs.declared.position.Pos.{Pos}
use Rattle.resolved_tree.specs.Trees.{Program}
use Rattle.type_definitions.specs.Types.{words_within, parts_within, words, parts, owns_within, is_owning}
use Rattle.type_definitions.specs.Entries.{is_complete}
use Rattle.type_definitions.specs.Names.{seen, step, along, reading_of}
use Rattle.type_definitions.specs.Statics.{is_static, value}
use Rattle.type_definitions.specs.Expressions.{own_type, compares, inside, arguments, within_suffix, behind}
use Rattle.type_definitions.specs.Statements.{range_faults, has_gap}
use Rattle.type_definitions.specs.Gathered.{gather}
use Rattle.type_definitions.specs.Declarations.{some_part, code_faults, alternatives_faults, alternative_faults}
use Rattle.type_definitions.specs.Whole.{made, known_of, sentence_faults, all_made, type_sizes, Size, Sentence, type_fault}

-- One of K1 to K8 is the first rule that the program breaks, at this position.
abbrev pub BreaksSentence : ℕ → Pos → Program → Type 0
BreaksSentence code pos program = type_fault program ≡ Some (Sentence (record { pos = pos; code = code }))

-- One of Y1 to Y3 is, at this position.
abbrev pub HasSize : ℕ → Pos → Program → Type 0
HasSize code pos program = type_fault program ≡ Some (Size (record { pos = pos; code = code }))

-- It breaks none.
abbrev pub IsTyped : Program → Type 0
IsTyped program = type_fault program ≡ None

-- The definitions that are computed where a lemma names this one.
unfoldable pub typing : Type 0
unfolding words_within parts_within words parts owns_within is_owning is_complete seen step along reading_of is_static value
    own_type compares inside arguments within_suffix behind range_faults has_gap gather some_part code_faults
    alternatives_faults alternative_faults made known_of sentence_faults all_made type_sizes type_fault
typing = Unit {0}
