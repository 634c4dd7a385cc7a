-- Tests of a program that is laid out: of its types, and of its subprograms in the rows of code.
use Rattle.std.specs.Prelude.{◌≡◌, ℕ, suc, Bool, true, ◌&&◌, not, List, [], ◌∷◌, length, get_or, is_some, nat_lt, nat_le, Option, Some, None}
use Rattle.std.specs.List.{list_all}
use Rattle.typed_tree.specs.declared.object.Object.{Object}
use Rattle.typed_tree.specs.Programs.{text_io}
use Rattle.flow_paths.specs.declared.instr.Instr.{Instr}
use Rattle.flow_paths.specs.declared.instr.Instr.TheVariants as instr
use Rattle.flow_paths.specs.declared.point.Point.{Point}
use Rattle.flow_paths.specs.declared.point.LaidSub.{LaidSub}
use Rattle.flow_paths.specs.Objects.{is_state}
use Rattle.laid_program.specs.declared.laid.Laid.{Laid}
use Rattle.settled_types.specs.TableLaws.Ranks.{IsFit}

-- Each is greater than those before it; the first one is not below this bound.
abbrev pub ascend : ℕ → List ℕ → Bool
ascend low [] = true
ascend low (x ∷ rest) = nat_le low x && ascend (suc x) rest

-- An object that belongs to no package.
abbrev pub is_outside : List Object → ℕ → Bool
is_outside objects x = not (is_some (get_or objects x text_io).«package» && not (is_state (get_or objects x text_io).kind))

-- It is one of so many subprograms, and not that of the package objects.
abbrev pub is_called : ℕ → ℕ → Bool
is_called subs n = nat_lt 0 n && nat_lt n subs

abbrev pub call_stands : ℕ → Instr → Bool
call_stands subs (instr.Call sub actuals result) = is_called subs sub
call_stands subs _ = true

abbrev pub sub_calls : ℕ → LaidSub → Bool
sub_calls subs sub = list_all (λ (p : Point). call_stands subs p.instr) sub.points

-- Its formals are different objects, none of packages, and it has a point.
abbrev pub sub_enters : List Object → LaidSub → Bool
sub_enters objects sub = ascend 0 sub.formals && (list_all (is_outside objects) sub.formals && nat_lt 0 (length sub.points))

-- The first one declares the package objects, and isn't called.
abbrev pub subs_enter : List Object → List LaidSub → Bool
subs_enter objects [] = true
subs_enter objects (first ∷ rest) = ascend 0 first.formals && list_all (sub_enters objects) rest

abbrev pub main_fits : ℕ → Option ℕ → Bool
main_fits subs None = true
main_fits subs (Some n) = is_called subs n

-- What may be called can be entered.
abbrev pub frames_fit : Laid → Bool
frames_fit laid =
    list_all (sub_calls (length laid.subs)) laid.subs && (subs_enter laid.objects laid.subs && main_fits (length laid.subs) laid.main)

-- What the laws on runs ask of a program is told by its table and by its rows.
pub record IsReady (laid : Laid) : Type 0 where
  pub types : IsFit laid.table
  pub frames : frames_fit laid ≡ true
