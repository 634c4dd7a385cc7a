-- No two identifiers of parsed files have one position, and full types end after all marks up to there.
use Rattle.std.proofs.Common.{ℕ, suc, ◌≡◌, sym, ap, ◌∙◌, subst, List, [], ◌∷◌, map}
use Rattle.std.proofs.lemmas.List.Concat.{flat_map-append}
use Rattle.spark_base.proofs.Lists.{Has-map}
use Rattle.ada_lexer.specs.Tokens.{Cut}
use Rattle.ada_tree.specs.declared.unit.SourceUnit.{SourceUnit}
use Rattle.ada_tree.specs.Spelling.{source_spelling}
use Rattle.name_events.specs.declared.declaration.Identified.{Identified}
use Rattle.name_events.specs.Identified.{identified}
use Rattle.machine.specs.resolved_tree.Trees.{Code}
use Rattle.expression_lowering.specs.LoweredExpressions.{Numbers}
use Rattle.tree_lowering.specs.Lowered.{lowered_unit, lowered_files}
use Rattle.settled_types.specs.Orderly.{at_start}
use Rattle.settled_types.specs.OrderlyFiles.Apart.{AreApart}
use Rattle.settled_types.specs.OrderlyFiles.Ended.{AllEnded}
use Rattle.settled_types.specs.FilePositions.Order.{Ascends, IsLeftOf, token_positions, spelled_positions}
use Rattle.settled_types.specs.FilePositions.Stops.{stops, all_stops}
use Rattle.settled_types.specs.FilePositions.Texts.{told_cut, AreParsed}
use Rattle.settled_types.proofs.FilePositions.Rows.{left_both}
use Rattle.settled_types.proofs.FilePositions.Ascending.{left_ascends, file_positions, text_positions, texts_ascend}
use Rattle.settled_types.proofs.FilePositions.Identifiers.{identified_ascend, apart}
use Rattle.settled_types.proofs.FilePositions.Stopped.{file_stops}
use Rattle.settled_types.proofs.FilePositions.Ended.{units_ended}

all_apart : (items : List Identified) → Ascends (map (λ item. item.pos) items) → AreApart items
all_apart [] up = tt
all_apart (item ∷ rest) up =
    ((λ x is. apart item.pos x.pos (up.0 x.pos (Has-map (λ (item : Identified). item.pos) rest x is))), all_apart rest up.1)

-- What `orderly_files` asks of identifiers.
pub files_apart : (texts : List (List Cut)) (files : List (List SourceUnit)) → AreParsed 0 texts files → AreApart (identified files)
files_apart texts files are = all_apart (identified files) (identified_ascend texts files are)

stops_left : (numbers : Numbers) (file : ℕ) (texts : List (List Cut)) (files : List (List SourceUnit)) → AreParsed file texts files
    → IsLeftOf (all_stops (lowered_files numbers files)) (text_positions texts)
unfolding lowered_files
stops_left numbers file [] [] are = tt
stops_left numbers file [] (units ∷ files) are = absurd are
stops_left numbers file (cuts ∷ texts) [] are = absurd are
stops_left numbers file (cuts ∷ texts) (units ∷ files) are =
    let here : List Code = map (lowered_unit numbers) units in
    let spelled : spelled_positions (source_spelling units) ≡ token_positions (map told_cut cuts)
    = sym (file_positions (source_spelling units)) ∙ ap token_positions are.1.spelled in
    let left = subst (IsLeftOf (all_stops here)) spelled (file_stops numbers units are.1.fits.placed) in
    subst (λ ps. IsLeftOf ps (text_positions (cuts ∷ texts))) (sym (flat_map-append stops here (lowered_files numbers files)))
    (left_both (all_stops here) (all_stops (lowered_files numbers files)) (token_positions (map told_cut cuts)) (text_positions texts)
    left (stops_left numbers (suc file) texts files are.2))

-- And what it asks of full types.
pub files_ended : (numbers : Numbers) (texts : List (List Cut)) (files : List (List SourceUnit)) → AreParsed 0 texts files
    → AllEnded at_start (lowered_files numbers files)
files_ended numbers texts files are =
    units_ended (lowered_files numbers files)
    (left_ascends (all_stops (lowered_files numbers files)) (text_positions texts) (stops_left numbers 0 texts files are) (texts_ascend 0 texts files are))
