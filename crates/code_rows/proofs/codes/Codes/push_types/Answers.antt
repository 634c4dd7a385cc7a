use Rattle.std.proofs.Common.{rules, ◌≡◌, [], ◌∷◌, ◌++◌, refl, arith}
use Rattle.std.proofs.lemmas.Grind.{common_steps}
use Rattle.code_rows.specs.declared.codes.Codes.{Codes}
use Rattle.code_rows.specs.Points.{IsWhole, Longer}
use Rattle.code_rows.proofs.codes.Codes.push_types.Goals as goal
use Rattle.code_rows.proofs.Kept.{longer_none, longer_by, wider_grew, wider_whole, wider_program}

pub returns-clause-program : goal.returns-clause-program
returns-clause-program c =
    let whole : IsWhole c.args.self.now = search rules in
    let is : c.extend_from_slice.new.self.items ≡ c.args.self.now.types.items ++ c.args.types.now = grind (arith, common_steps) in
    let longer : Longer c.args.self.now.types.items c.extend_from_slice.new.self.items = longer_by c.args.self.now.types.items (c.args.types.now) c.extend_from_slice.new.self.items is in
    wider_program c.args.self.now (record c.args.self.now { types = c.extend_from_slice.new.self }) whole refl longer (longer_none c.args.self.now.rooms.items) refl refl refl

pub returns-clause-grew : goal.returns-clause-grew
returns-clause-grew c =
    let whole : IsWhole c.args.self.now = search rules in
    let is : c.extend_from_slice.new.self.items ≡ c.args.self.now.types.items ++ c.args.types.now = grind (arith, common_steps) in
    let longer : Longer c.args.self.now.types.items c.extend_from_slice.new.self.items = longer_by c.args.self.now.types.items (c.args.types.now) c.extend_from_slice.new.self.items is in
    wider_grew c.args.self.now (record c.args.self.now { types = c.extend_from_slice.new.self }) whole refl longer (longer_none c.args.self.now.rooms.items) refl refl refl

pub returns-clause-whole : goal.returns-clause-whole
returns-clause-whole c =
    let whole : IsWhole c.args.self.now = search rules in
    let is : c.extend_from_slice.new.self.items ≡ c.args.self.now.types.items ++ c.args.types.now = grind (arith, common_steps) in
    let longer : Longer c.args.self.now.types.items c.extend_from_slice.new.self.items = longer_by c.args.self.now.types.items (c.args.types.now) c.extend_from_slice.new.self.items is in
    wider_whole c.args.self.now (record c.args.self.now { types = c.extend_from_slice.new.self }) whole refl longer (longer_none c.args.self.now.rooms.items) refl refl refl
