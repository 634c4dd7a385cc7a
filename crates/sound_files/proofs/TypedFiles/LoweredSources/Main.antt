-- The law: parsed files that break no rule of names and of types are lowered.
use Rattle.std.proofs.Common.{◌≡◌, ◌≤◌, ℕ, true, List, ◌∷◌, map, ℤ, pos, negsuc, None, arith}
use Rattle.machine.specs.spark_base.Lists.{Has}
use Rattle.ada_lexer.specs.Tokens.{Cut}
use Rattle.ada_tree.specs.declared.unit.SourceUnit.{SourceUnit}
use Rattle.name_events.specs.Outline.{source_events}
use Rattle.name_events.specs.Identified.{identified}
use Rattle.name_events.specs.Faults.{name_fault}
use Rattle.machine.specs.resolved_tree.Trees.{Code, Program}
use Rattle.machine.specs.type_definitions.declared.table.Entry.{Entry}
use Rattle.machine.specs.type_definitions.declared.table.Entry.TheVariants as entry
use Rattle.machine.specs.type_definitions.declared.table.Shape.{Shape}
use Rattle.machine.specs.type_definitions.declared.table.Shape.TheVariants as shape
use Rattle.machine.specs.type_definitions.Types.{shape_of, view_of}
use Rattle.machine.specs.type_definitions.Entries.{entry_of}
use Rattle.machine.specs.type_definitions.Gathered.{natural_of}
use Rattle.machine.specs.type_definitions.Whole.{known_of, type_fault}
use Rattle.typing_steps.specs.Programs.{program_of}
use Rattle.machine.specs.typed_tree.Programs.{TypedSub, DeclaredObject, program_objects, elaboration, over_units, subs_in, typed_program}
use Rattle.soundness.specs.run_values.Arithmetic.{is_integer}
use Rattle.settled_types.specs.Orderly.{at_start}
use Rattle.settled_types.specs.OrderlyFiles.Apart.{AreApart}
use Rattle.settled_types.specs.OrderlyFiles.Ended.{AllEnded}
use Rattle.settled_types.specs.FilePositions.Order.{Ascends, event_positions}
use Rattle.settled_types.specs.FilePositions.Texts.{AreParsed}
use Rattle.settled_types.proofs.FilePositions.Ascending.{events_ascend}
use Rattle.settled_types.proofs.FilePositions.Main.{files_apart, files_ended}
use Rattle.settled_types.specs.OrderLaws.ScopeLaws.Code.{Once}
use Rattle.settled_types.proofs.OrderLaws.ScopeLaws.Lists.{all_has}
use Rattle.settled_types.proofs.OrderLaws.Faults.{units_faultless}
use Rattle.sound_files.proofs.Once.{files_once}
use Rattle.sound_files.proofs.SeenFiles.Main.{files_seen, files_values_seen}
use Rattle.sound_files.specs.TypedFiles.TypedRuns.Meant.{typed_in, laid_in, site_in}
use Rattle.sound_files.specs.TypedFiles.TypedTexts.Literals.{literal_count}
use Rattle.sound_files.specs.TypedFiles.TypedTexts.Meant.{IsMeant}
use Rattle.sound_files.proofs.TypedFiles.TypedTexts.Bounds.{at_most, HasBoth, IsPosition, bounds_kept, positions_kept}
use Rattle.sound_files.proofs.TypedFiles.Main.{are_meant}
use Rattle.run_codes.specs.Lowered.{max_position}
use Rattle.run_codes.specs.Programs.{lowered_program}
use Rattle.sound_files.specs.TypedFiles.LoweredFiles.Code.{code_literals}
use Rattle.sound_files.proofs.TypedFiles.LoweredTexts.Main.{text_lowered}
use Rattle.sound_files.specs.TypedFiles.LoweredSources.Words.{IsWord}
use Rattle.sound_files.specs.TypedFiles.LoweredSources.Tokens.{token_count}
use Rattle.settled_types.proofs.OrderLaws.PackageValues.Packages.{package_values}
use Rattle.sound_files.proofs.TypedFiles.LoweredSources.Readings.{HasWords, IsWordEntry, HasWordsAll}
use Rattle.sound_files.proofs.TypedFiles.LoweredSources.Statements.{IsWordedSub, all_worded}
use Rattle.sound_files.proofs.TypedFiles.LoweredSources.Few.{literals_few}

-- ---- few literals

abbrev Few : ℕ → Type 0
Few n = n ≤ 2147483648

fewer : (m n : ℕ) → m ≤ n → Few n → Few m
fewer m n less few = omega (arith, less, few)

integers : Few 2147483648
integers = omega arith

natural_word : (v : ℤ) → is_integer v ≡ true → IsWord (natural_of v)
natural_word (pos n) is = at_most n is
natural_word (negsuc n) is = omega arith

shape_words : (z : Shape) → HasBoth Few fewer integers z → HasWords (view_of z)
shape_words (shape.Whole low high) is = (natural_word low is.0, natural_word high is.1)
shape_words (shape.Listed literals low high) is = let first = is.0 in let last = is.1 in (omega (arith, first), omega (arith, last))
shape_words (shape.Access d constant named) is = tt
shape_words (shape.Fields components) is = tt
shape_words (shape.Elements low high of) is = tt
shape_words (shape.Same of) is = tt

entry_word : (e : Entry) → IsPosition Few fewer integers e → IsWordEntry e
entry_word (entry.Literal t n) is = omega (arith, is)
entry_word (entry.Object o) is = tt
entry_word (entry.Subprogram p) is = tt
entry_word (entry.Instance t) is = tt
entry_word (entry.Predefined which) is = tt
entry_word entry.Type is = tt
entry_word entry.Package is = tt
entry_word entry.Nothing is = tt

module _ (p : Program) (few : (u : Code) → Has p.units u → literal_count u ≤ 2147483648) where
  known_words : HasWordsAll (known_of p)
  known_words = record {
    types = λ t. shape_words (shape_of (known_of p).table t) (bounds_kept Few fewer integers p few t);
    entries = λ d. entry_word (entry_of (known_of p) d) (positions_kept Few fewer integers p few d);
  }

  literal_words : (sub : TypedSub) → Has (typed_in p).subs sub → (n : ℕ) → Has (code_literals sub.body) n → n ≤ max_position
  unfolding typed_program
  literal_words sub has =
      all_has IsWordedSub (elaboration (site_in p) p.units ∷ over_units (subs_in (site_in p)) 1 p.units) sub (all_worded (site_in p) known_words p.units) has

-- ---- files

module _ (files : List (List SourceUnit)) where
  abbrev p : Program
  p = program_of files

  module _ (apart : AreApart (identified files)) (ended : AllEnded at_start p.units) (up : Ascends (event_positions (source_events files))) (named : name_fault files ≡ None)
      (none : type_fault p ≡ None) (few : (u : Code) → Has p.units u → literal_count u ≤ 2147483648) where
    once : Once (map (λ (o : DeclaredObject). o.number) (program_objects (known_of p) p.units))
    once = files_once files apart (known_of p)

    meant : IsMeant p
    meant = are_meant files apart ended up named none

    -- Files with few literals, whose identifiers stand in the order of the text.
    pub files_lowered : lowered_program (laid_in p) ≡ None → ⊥
    files_lowered =
        text_lowered p none meant once (files_seen files up named once) (files_values_seen files up named once)
        (package_values (known_of p) p.units meant.written (units_faultless p none)) (literal_words p few)

  -- The law.
  pub parsed_lowered : (texts : List (List Cut)) → AreParsed 0 texts files → token_count texts ≤ max_position → name_fault files ≡ None → type_fault p ≡ None
      → lowered_program (laid_in p) ≡ None → ⊥
  parsed_lowered texts parsed short named none =
      files_lowered (files_apart texts files parsed) (files_ended (identified files) texts files parsed) (events_ascend texts files parsed) named none
      (λ u has. (let less = literals_few (identified files) texts files parsed u has in omega (arith, less, short)))
