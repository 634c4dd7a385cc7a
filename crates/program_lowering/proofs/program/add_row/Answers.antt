use Rattle.std.proofs.Common.{◌≡◌, [], ◌∷◌, ◌++◌, length, refl, ap, ◌∙◌, arith}
use Rattle.std.proofs.lemmas.Grind.{common_steps}
use Rattle.flow_paths.specs.Stands.{flow_sub_of}
use Rattle.program_typing.specs.Typings.{typing}
use Rattle.run_codes.specs.Programs.{Program, objects_of}
use Rattle.code_rows.specs.declared.point.Sub.{Sub}
use Rattle.code_rows.specs.Points.{some, program_of, sub_of}
use Rattle.program_lowering.specs.Subs.{rooms_in}
use Rattle.program_lowering.proofs.Subs.{sub_is}
use Rattle.program_lowering.proofs.program.add_row.Goals as goal

pub returns-clause-sub : goal.returns-clause-sub
returns-clause-sub c = λ rows.
    let row : Sub = record { first = c.args.first; words = c.args.sub.now.object_words; rooms = c.in_ok-rooms.rooms; formals = c.in_ok-formals.formals } in
    let rooms : some c.add_rooms.new.codes.rooms.items c.in_ok-rooms.rooms ≡ rooms_in (typing c.args.typing.now) (objects_of (flow_sub_of rows c.args.sub.now)) =
    grind (arith, common_steps, c.requires.kept rows) in
    let formals : c.in_ok-formals.formals ≡ length c.args.sub.now.formals = grind (arith, common_steps) in
    c.in_ok-push_sub.ensures.sub
    ∙ (ap (λ (q : Program). q.subs ++ sub_of c.add_rooms.new.codes row ∷ []) c.in_ok-rooms.ensures.same
    ∙ ap (λ s. (program_of c.args.codes.now).subs ++ s ∷ [])
    (sub_is c.add_rooms.new.codes (typing c.args.typing.now) (flow_sub_of rows c.args.sub.now) row rooms refl formals))
