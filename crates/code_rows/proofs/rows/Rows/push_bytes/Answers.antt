use Rattle.std.proofs.Common.{◌≡◌, ◌++◌, refl, arith}
use Rattle.std.proofs.lemmas.Grind.{common_steps}
use Rattle.code_rows.specs.declared.rows.Rows.{Rows}
use Rattle.code_rows.specs.Points.{RowsGrew}
use Rattle.code_rows.proofs.rows.Rows.push_bytes.Goals as goal
use Rattle.code_rows.proofs.Filled.{fills_none}
use Rattle.code_rows.proofs.Kept.{longer_none, longer_by, sound_bytes}

pub returns-clause-sound : goal.returns-clause-sound
returns-clause-sound c =
    let old : Rows = c.args.self.now in
    let new : Rows = record c.args.self.now { bytes = c.extend_from_slice.new.self } in
    let is : c.extend_from_slice.new.self.items ≡ c.args.self.now.bytes.items ++ c.args.bytes.now = grind (arith, common_steps) in
    let grew : RowsGrew old new =
    record {
      parts = fills_none old.nodes old.fills;
      actuals = longer_none old.actuals.items;
      texts = longer_none old.texts.items;
      bytes = longer_by old.bytes.items c.args.bytes.now new.bytes.items is;
      choices = longer_none old.choices.items;
    } in
    sound_bytes old new refl refl refl refl refl grew c.requires.sound
