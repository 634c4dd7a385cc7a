-- What is stored where.
use Rattle.std.proofs.Common.{◌≡◌, refl, sym, ℕ, Bool, true, false, not, ◌&&◌, List, Option, Some, None, IsTrue, length, nat_lt, is_some, arith}
use Rattle.std.specs.Prelude.{ℤ}
use Rattle.spark_base.specs.declared.position.Pos.{Pos}
use Rattle.type_definitions.specs.declared.table.Shape.{Shape}
use Rattle.run_codes.specs.Codes.{Code, Number, Local, Global, Via, Scaled, Plus, Unary, Binary, Short, IsNull, Waiting, EndOfFile, Nothing, InFrame, Checked, Pointer, Put, Store, Assign}
use Rattle.run_codes.specs.Lowered.{Placed}
use Rattle.run_codes.specs.Programs.{kind_at, put_at}
use Rattle.code_rows.specs.declared.node.Node.{Node}
use Rattle.code_rows.specs.Rows.{code_at}
use Rattle.run_lowering.specs.declared.found.Base.{Base}
use Rattle.run_lowering.specs.declared.found.Base.TheVariants as base
use Rattle.run_lowering.specs.declared.found.Found.{Found}
use Rattle.run_lowering.specs.Found.{place_in, index_of, placed, is_offset, index_there, base_there, is_there}
use Rattle.program_lowering.specs.Stores.{is_frame, is_local}

false_true : {A : Type 0} → false ≡ true → A
false_true e = absurd cc

and_second : (a b : Bool) → IsTrue (a && b) → IsTrue b
and_second a b p = grind arith

-- Offsets that are evaluated are no number.
offset_scalar : (s : Shape) (at of : ℕ) (c e : Code) (low high : ℤ) (checks : Option Pos) (next : Option ℕ) → IsTrue (is_offset c)
    → put_at s (record { place = InFrame at c; of = of }) (Checked e low high) checks next ≡ Store (InFrame at c) (Checked e low high) (kind_at s) next
offset_scalar s at of (Number v) e low high checks next is = false_true is
offset_scalar s at of (Local a i) e low high checks next is = refl
offset_scalar s at of (Global a i) e low high checks next is = refl
offset_scalar s at of (Via p a i k) e low high checks next is = refl
offset_scalar s at of (Scaled i a b size) e low high checks next is = refl
offset_scalar s at of (Plus a b) e low high checks next is = refl
offset_scalar s at of (Unary op a) e low high checks next is = refl
offset_scalar s at of (Binary op a b) e low high checks next is = refl
offset_scalar s at of (Short op a b) e low high checks next is = refl
offset_scalar s at of (IsNull equal a) e low high checks next is = refl
offset_scalar s at of (Waiting a) e low high checks next is = refl
offset_scalar s at of EndOfFile e low high checks next is = refl
offset_scalar s at of Nothing e low high checks next is = refl

offset_pointer : (s : Shape) (at of : ℕ) (c e : Code) (next : Option ℕ) → IsTrue (is_offset c)
    → put_at s (record { place = InFrame at c; of = of }) (Pointer e) None next ≡ Assign (InFrame at c) (Pointer e) of None next
offset_pointer s at of (Number v) e next is = false_true is
offset_pointer s at of (Local a i) e next is = refl
offset_pointer s at of (Global a i) e next is = refl
offset_pointer s at of (Via p a i k) e next is = refl
offset_pointer s at of (Scaled i a b size) e next is = refl
offset_pointer s at of (Plus a b) e next is = refl
offset_pointer s at of (Unary op a) e next is = refl
offset_pointer s at of (Binary op a b) e next is = refl
offset_pointer s at of (Short op a b) e next is = refl
offset_pointer s at of (IsNull equal a) e next is = refl
offset_pointer s at of (Waiting a) e next is = refl
offset_pointer s at of EndOfFile e next is = refl
offset_pointer s at of Nothing e next is = refl

module _ (nodes : List Node) (s : Shape) (of at : ℕ) where
  abbrev there : Base → Option ℕ → Placed
  there b i = record { place = place_in nodes b at (index_of nodes i); of = of }

  local_scalar_by : (b : Base) (i : Option ℕ) (e : Code) (low high : ℤ) (checks : Option Pos) (next : Option ℕ)
      → is_frame b && not (is_some i) ≡ true → put_at s (there b i) (Checked e low high) checks next ≡ Put at (Checked e low high) next
  local_scalar_by base.Frame None e low high checks next is = refl
  local_scalar_by base.Frame (Some i) e low high checks next is = false_true is
  local_scalar_by base.Packages i e low high checks next is = false_true is
  local_scalar_by (base.Cell p) i e low high checks next is = false_true is

  far_scalar_by : (b : Base) (i : Option ℕ) (e : Code) (low high : ℤ) (checks : Option Pos) (next : Option ℕ)
      → is_frame b && not (is_some i) ≡ false → IsTrue (index_there nodes i)
      → put_at s (there b i) (Checked e low high) checks next ≡ Store (there b i).place (Checked e low high) (kind_at s) next
  far_scalar_by base.Frame None e low high checks next far is = false_true (sym far)
  far_scalar_by base.Frame (Some i) e low high checks next far is =
      offset_scalar s at of (code_at nodes i) e low high checks next (and_second (nat_lt i (length nodes)) (is_offset (code_at nodes i)) is)
  far_scalar_by base.Packages i e low high checks next far is = refl
  far_scalar_by (base.Cell p) i e low high checks next far is = refl

  local_pointer_by : (b : Base) (i : Option ℕ) (e : Code) (next : Option ℕ)
      → is_frame b && not (is_some i) ≡ true → put_at s (there b i) (Pointer e) None next ≡ Put at (Pointer e) next
  local_pointer_by base.Frame None e next is = refl
  local_pointer_by base.Frame (Some i) e next is = false_true is
  local_pointer_by base.Packages i e next is = false_true is
  local_pointer_by (base.Cell p) i e next is = false_true is

  far_pointer_by : (b : Base) (i : Option ℕ) (e : Code) (next : Option ℕ)
      → is_frame b && not (is_some i) ≡ false → IsTrue (index_there nodes i)
      → put_at s (there b i) (Pointer e) None next ≡ Assign (there b i).place (Pointer e) of None next
  far_pointer_by base.Frame None e next far is = false_true (sym far)
  far_pointer_by base.Frame (Some i) e next far is =
      offset_pointer s at of (code_at nodes i) e next (and_second (nat_lt i (length nodes)) (is_offset (code_at nodes i)) is)
  far_pointer_by base.Packages i e next far is = refl
  far_pointer_by (base.Cell p) i e next far is = refl

index_of_there : (nodes : List Node) (f : Found) → IsTrue (is_there nodes f) → IsTrue (index_there nodes f.index)
index_of_there nodes f is = and_second (base_there nodes f.base) (index_there nodes f.index) is

pub local_scalar : (nodes : List Node) (s : Shape) (f : Found) (e : Code) (low high : ℤ) (checks : Option Pos) (next : Option ℕ)
    → is_local f ≡ true → put_at s (placed nodes f) (Checked e low high) checks next ≡ Put f.at (Checked e low high) next
local_scalar nodes s f e low high checks next is = local_scalar_by nodes s f.of f.at f.base f.index e low high checks next is

pub far_scalar : (nodes : List Node) (s : Shape) (f : Found) (e : Code) (low high : ℤ) (checks : Option Pos) (next : Option ℕ)
    → is_local f ≡ false → IsTrue (is_there nodes f)
    → put_at s (placed nodes f) (Checked e low high) checks next ≡ Store (placed nodes f).place (Checked e low high) (kind_at s) next
far_scalar nodes s f e low high checks next far is =
    far_scalar_by nodes s f.of f.at f.base f.index e low high checks next far (index_of_there nodes f is)

pub local_pointer : (nodes : List Node) (s : Shape) (f : Found) (e : Code) (next : Option ℕ)
    → is_local f ≡ true → put_at s (placed nodes f) (Pointer e) None next ≡ Put f.at (Pointer e) next
local_pointer nodes s f e next is = local_pointer_by nodes s f.of f.at f.base f.index e next is

pub far_pointer : (nodes : List Node) (s : Shape) (f : Found) (e : Code) (next : Option ℕ)
    → is_local f ≡ false → IsTrue (is_there nodes f)
    → put_at s (placed nodes f) (Pointer e) None next ≡ Assign (placed nodes f).place (Pointer e) f.of None next
far_pointer nodes s f e next far is = far_pointer_by nodes s f.of f.at f.base f.index e next far (index_of_there nodes f is)
