use Rattle.std.proofs.Common.{rules, ◌≡◌, [], ◌∷◌, ◌++◌, refl, arith}
use Rattle.std.proofs.lemmas.Grind.{common_steps}
use Rattle.code_rows.specs.declared.codes.Codes.{Codes}
use Rattle.code_rows.specs.Points.{IsWhole, Longer}
use Rattle.code_rows.proofs.codes.Codes.push_room.Goals as goal
use Rattle.code_rows.proofs.Kept.{longer_none, longer_by, wider_grew, wider_whole, wider_program}

pub returns-clause-program : goal.returns-clause-program
returns-clause-program c =
    let whole : IsWhole c.args.self.now = search rules in
    let is : c.push.new.self.items ≡ c.args.self.now.rooms.items ++ c.args.room ∷ [] = grind (arith, common_steps) in
    let longer : Longer c.args.self.now.rooms.items c.push.new.self.items = longer_by c.args.self.now.rooms.items (c.args.room ∷ []) c.push.new.self.items is in
    wider_program c.args.self.now (record c.args.self.now { rooms = c.push.new.self }) whole refl (longer_none c.args.self.now.types.items) longer refl refl refl

pub returns-clause-grew : goal.returns-clause-grew
returns-clause-grew c =
    let whole : IsWhole c.args.self.now = search rules in
    let is : c.push.new.self.items ≡ c.args.self.now.rooms.items ++ c.args.room ∷ [] = grind (arith, common_steps) in
    let longer : Longer c.args.self.now.rooms.items c.push.new.self.items = longer_by c.args.self.now.rooms.items (c.args.room ∷ []) c.push.new.self.items is in
    wider_grew c.args.self.now (record c.args.self.now { rooms = c.push.new.self }) whole refl (longer_none c.args.self.now.types.items) longer refl refl refl

pub returns-clause-whole : goal.returns-clause-whole
returns-clause-whole c =
    let whole : IsWhole c.args.self.now = search rules in
    let is : c.push.new.self.items ≡ c.args.self.now.rooms.items ++ c.args.room ∷ [] = grind (arith, common_steps) in
    let longer : Longer c.args.self.now.rooms.items c.push.new.self.items = longer_by c.args.self.now.rooms.items (c.args.room ∷ []) c.push.new.self.items is in
    wider_whole c.args.self.now (record c.args.self.now { rooms = c.push.new.self }) whole refl (longer_none c.args.self.now.types.items) longer refl refl refl
