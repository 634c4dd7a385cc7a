-- What full views tell of definitions.
use Rattle.std.proofs.Common.{◌≡◌, refl, ap, ℕ, Bool, true, false, Option, Some, None, pos, if◌then◌else◌}
use Rattle.std.specs.Prelude.{ℤ}
use Rattle.run_values.specs.declared.value.Kind.{Kind}
use Rattle.run_values.specs.declared.value.Kind.TheVariants as sort
use Rattle.type_definitions.specs.declared.table.Shape.{Shape}
use Rattle.type_definitions.specs.declared.table.Shape.TheVariants as shape
use Rattle.type_definitions.specs.declared.judgement.View.{View}
use Rattle.type_definitions.specs.declared.judgement.View.TheVariants as view
use Rattle.type_definitions.specs.Types.{shape_of, full, view_of}
use Rattle.typed_tree.specs.Trees.{TypedTree}
use Rattle.flow_paths.specs.Points.{FlowPoint}
use Rattle.machine.specs.Typed.{designates}
use Rattle.run_codes.specs.Codes as codes
use Rattle.run_codes.specs.Lowered.{Placed}
use Rattle.run_codes.specs.Programs.{Around, typing, going, on_going, own_offset, type_of, name_pos, kind_at, is_scalar_shape, release_at, scope_end}
use Rattle.program_lowering.specs.Ends.{is_named}

some_same : {A : Type 0} (a b : A) → Some a ≡ Some b → a ≡ b
some_same a b e = cc

none_some : {A : Type 0} {B : Type 0} (a : A) → None ≡ Some a → B
none_some a e = absurd cc

abbrev pub kind_of_view : View → Kind
kind_of_view (view.Whole low high) = sort.Int
kind_of_view (view.Listed low high) = sort.Enum
kind_of_view _ = sort.Access

pub kind_viewed : (s : Shape) → kind_at s ≡ kind_of_view (view_of s)
kind_viewed (shape.Whole low high) = refl
kind_viewed (shape.Listed literals low high) = refl
kind_viewed (shape.Access d constant named) = refl
kind_viewed (shape.Fields components) = refl
kind_viewed (shape.Elements low high element) = refl
kind_viewed (shape.Same of) = refl

abbrev pub is_scalar_view : View → Bool
is_scalar_view (view.Whole low high) = true
is_scalar_view (view.Listed low high) = true
is_scalar_view _ = false

pub scalar_viewed : (s : Shape) → is_scalar_shape s ≡ is_scalar_view (view_of s)
scalar_viewed (shape.Whole low high) = refl
scalar_viewed (shape.Listed literals low high) = refl
scalar_viewed (shape.Access d constant named) = refl
scalar_viewed (shape.Fields components) = refl
scalar_viewed (shape.Elements low high element) = refl
scalar_viewed (shape.Same of) = refl

-- Only Integer has these bounds in its view.
pub whole_viewed : (s : Shape) (low high : ℤ) → view_of s ≡ view.Whole low high → s ≡ shape.Whole low high
whole_viewed (shape.Whole a b) low high e = cc
whole_viewed (shape.Listed literals a b) low high e = absurd cc
whole_viewed (shape.Access d constant named) low high e = absurd cc
whole_viewed (shape.Fields components) low high e = absurd cc
whole_viewed (shape.Elements a b element) low high e = absurd cc
whole_viewed (shape.Same of) low high e = absurd cc

module _ (a : Around) (p : FlowPoint) where
  release_by : (e : TypedTree) (q : Placed) (d : ℕ) (s : Shape) → shape_of (typing a).table q.of ≡ s → designates s ≡ Some d
      → release_at a p e q ≡ on_going a p (λ n. Some (codes.Release q.place d (name_pos p.pos e) n))
  release_by e q d (shape.Access c constant named) is of = rw is (ap (λ t. on_going a p (λ n. Some (codes.Release q.place t (name_pos p.pos e) n))) (some_same c d of))
  release_by e q d (shape.Whole low high) is of = none_some d of
  release_by e q d (shape.Listed literals low high) is of = none_some d of
  release_by e q d (shape.Fields components) is of = none_some d of
  release_by e q d (shape.Elements low high element) is of = none_some d of
  release_by e q d (shape.Same t) is of = none_some d of

  pub release_is : (e : TypedTree) (q : Placed) (d : ℕ) → designates (shape_of (typing a).table q.of) ≡ Some d
      → release_at a p e q ≡ on_going a p (λ n. Some (codes.Release q.place d (name_pos p.pos e) n))
  release_is e q d of = release_by e q d (shape_of (typing a).table q.of) refl of

  scope_by : (x at : ℕ) (n : Option ℕ) (s : Shape) (b : Bool) → shape_of (typing a).table (type_of a x) ≡ s → own_offset a x ≡ Some at → going a p 0 ≡ Some n
      → is_named (view_of s) ≡ b
      → scope_end a p x ≡ Some (if b then codes.EndPointer at n else codes.EndScope at (type_of a x) n)
  scope_by x at n (shape.Access d constant true) b is own next named = rw own (rw next (rw is (ap (λ c. Some (if c then codes.EndPointer at n else codes.EndScope at (type_of a x) n)) named)))
  scope_by x at n (shape.Access d constant false) b is own next named = rw own (rw next (rw is (ap (λ c. Some (if c then codes.EndPointer at n else codes.EndScope at (type_of a x) n)) named)))
  scope_by x at n (shape.Whole low high) b is own next named = rw own (rw next (rw is (ap (λ c. Some (if c then codes.EndPointer at n else codes.EndScope at (type_of a x) n)) named)))
  scope_by x at n (shape.Listed literals low high) b is own next named = rw own (rw next (rw is (ap (λ c. Some (if c then codes.EndPointer at n else codes.EndScope at (type_of a x) n)) named)))
  scope_by x at n (shape.Fields components) b is own next named = rw own (rw next (rw is (ap (λ c. Some (if c then codes.EndPointer at n else codes.EndScope at (type_of a x) n)) named)))
  scope_by x at n (shape.Elements low high element) b is own next named = rw own (rw next (rw is (ap (λ c. Some (if c then codes.EndPointer at n else codes.EndScope at (type_of a x) n)) named)))
  scope_by x at n (shape.Same t) b is own next named = rw own (rw next (rw is (ap (λ c. Some (if c then codes.EndPointer at n else codes.EndScope at (type_of a x) n)) named)))

  pub scope_pointer : (x at : ℕ) (n : Option ℕ) → own_offset a x ≡ Some at → going a p 0 ≡ Some n → is_named (full (typing a).table (type_of a x)) ≡ true
      → scope_end a p x ≡ Some (codes.EndPointer at n)
  scope_pointer x at n own next named = scope_by x at n (shape_of (typing a).table (type_of a x)) true refl own next named

  pub scope_other : (x at : ℕ) (n : Option ℕ) → own_offset a x ≡ Some at → going a p 0 ≡ Some n → is_named (full (typing a).table (type_of a x)) ≡ false
      → scope_end a p x ≡ Some (codes.EndScope at (type_of a x) n)
  scope_other x at n own next named = scope_by x at n (shape_of (typing a).table (type_of a x)) false refl own next named
