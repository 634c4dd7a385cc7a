-- What points that only read look at has the kinds of its types: conditions, texts, and the places of input and releases.
use Rattle.std.proofs.Common.{◌≡◌, refl, ap, subst, ℕ, ◌+◌, Bool, List, [], ◌∷◌, ◌++◌, map, Option, Some, None, ℤ}
use Rattle.std.specs.Prelude.{option_and_then}
use Rattle.typed_tree.specs.Trees.{TypedTree, Parens, Text, Image, Binary}
use Rattle.flow_paths.specs.Names.{waiting}
use Rattle.type_definitions.specs.declared.table.Shape.TheVariants as shape
use Rattle.type_definitions.specs.Types.{Table, shape_of, base as base_of}
use Rattle.run_values.specs.declared.value.Kind.{Kind}
use Rattle.run_values.specs.declared.value.Kind.TheVariants as sort
use Rattle.machine.specs.Evaluate.{AsValue}
use Rattle.machine.specs.Typed.{Sort, Whole, Position, Pointer}
use Rattle.run_codes.specs.Codes.{Code, Place, Piece, Bytes, NumberImage, LiteralImage}
use Rattle.run_codes.specs.Flat.{Flat, Given, Spot, kind_of, kinds, spot, words_at}
use Rattle.run_codes.specs.Lowered.{Site, Lowered, lowered}
use Rattle.run_codes.specs.Programs.{append_all, image_piece, pieces, truth_code, chosen_code}
use Rattle.run_codes.specs.Related.{IsTable}
use Rattle.run_codes.proofs.Expressions.{and_then_some}
use Rattle.run_codes.proofs.Places.{impossible, some_same}
use Rattle.handled_runs.specs.Alike.{StandAt}
use Rattle.handled_runs.specs.Looks.{Looks}
use Rattle.handled_runs.specs.Released.{IsOwner, LooksFor}
use Rattle.handled_steps.specs.Looks.{LooksData, LooksPieces}
use Rattle.handled_kinds.specs.Kinds.{PlaceKinds, HasKinds}
use Rattle.handled_kinds.proofs.Places.{place_stands, looks_at}
use Rattle.handled_kinds.proofs.Lowered.{IsRead, lowered_reads}

both_look : (m : Flat) (here taken : List Kind) (all more : List Piece) → LooksPieces m here taken all → LooksPieces m here taken more → LooksPieces m here taken (all ++ more)
both_look m here taken [] more first second = second
both_look m here taken (p ∷ all) more first second = (first.0, both_look m here taken all more first.1 second)

both_some : {A : Type 0} (x y : Option (List A)) (v : List A) → append_all x y ≡ Some v → (a : List A) × (b : List A) × (x ≡ Some a) × (y ≡ Some b) × (a ++ b ≡ v)
both_some (Some a) (Some b) v e = (a, b, refl, refl, some_same (a ++ b) v e)
both_some (Some a) None v e = impossible v e
both_some None y v e = impossible v e

module _ (c : Site) (laws : IsTable c.typing.table) (m : Flat) (here taken : List Kind) (has : HasKinds c m.base here taken) where
  abbrev table : Table
  table = c.typing.table

  -- ---- conditions and choices

  truth_data : (l : Lowered) (code : Code) → truth_code l ≡ Some code → IsRead c laws m here taken has l → LooksData m here taken code
  truth_data l code is reads = by l.sort reads is
    where
      by : (s : Sort) → Looks m here taken l.code (kind_of s) → truth_code (record { code = l.code; sort = s }) ≡ Some code → LooksData m here taken code
      by Position reads e = (sort.Enum, tt, subst (λ x. Looks m here taken x sort.Enum) (some_same l.code code e) reads)
      by Whole reads e = impossible code e
      by (Pointer d) reads e = impossible code e

  pub condition_looks : (e : TypedTree) (code : Code) → option_and_then truth_code (lowered c 0 AsValue e) ≡ Some code → LooksData m here taken code
  condition_looks e code is =
      let l = and_then_some truth_code (lowered c 0 AsValue e) code is in
      truth_data l.0 code l.2 (lowered_reads c laws m here taken has e 0 AsValue l.0 l.1)

  pub choice_looks : (e : TypedTree) (code : Code) → option_and_then chosen_code (lowered c 0 AsValue e) ≡ Some code → LooksData m here taken code
  choice_looks e code is =
      let l = and_then_some chosen_code (lowered c 0 AsValue e) code is in
      by l.0 l.0.sort (lowered_reads c laws m here taken has e 0 AsValue l.0 l.1) l.2
    where
      by : (l : Lowered) (s : Sort) → Looks m here taken l.code (kind_of s) → chosen_code (record { code = l.code; sort = s }) ≡ Some code → LooksData m here taken code
      by l Whole reads f = (sort.Int, tt, subst (λ x. Looks m here taken x sort.Int) (some_same l.code code f) reads)
      by l Position reads f = (sort.Enum, tt, subst (λ x. Looks m here taken x sort.Enum) (some_same l.code code f) reads)
      by l (Pointer d) reads f = impossible code f

  -- ---- texts

  image_looks : (t : ℕ) (l : Lowered) (all : List Piece) → image_piece table t l ≡ Some all → IsRead c laws m here taken has l → LooksPieces m here taken all
  image_looks t l all is reads = by l.sort reads is
    where
      by : (s : Sort) → Looks m here taken l.code (kind_of s) → image_piece table t (record { code = l.code; sort = s }) ≡ Some all → LooksPieces m here taken all
      by Whole reads e = subst (LooksPieces m here taken) (some_same (NumberImage l.code ∷ []) all e) ((sort.Int, tt, reads), tt)
      by Position reads e = subst (LooksPieces m here taken) (some_same (LiteralImage l.code (base_of table t) ∷ []) all e) ((sort.Enum, tt, reads), tt)
      by (Pointer d) reads e = impossible all e

  pub text_looks : (e : TypedTree) (k : ℕ) (all : List Piece) → pieces c k e ≡ Some all → LooksPieces m here taken all
  unfolding pieces
  text_looks (Text bytes) k all is = subst (LooksPieces m here taken) (some_same (Bytes bytes ∷ []) all is) (tt, tt)
  text_looks (Image t e) k all is =
      let l = and_then_some (image_piece table t) (lowered c k AsValue e) all is in image_looks t l.0 all l.2 (lowered_reads c laws m here taken has e k AsValue l.0 l.1)
  text_looks (Parens e) k all is = text_looks e k all is
  text_looks (Binary op a b) k all is =
      let two = both_some (pieces c k a) (pieces c (k + waiting a) b) all is in
      subst (LooksPieces m here taken) two.4 (both_look m here taken two.0 two.1 (text_looks a k two.0 two.2) (text_looks b (k + waiting a) two.1 two.3))
  text_looks _ k all is = impossible all is

  -- ---- places of access values that are released

  pub release_looks : (p : Place) (of d : ℕ) (constant named : Bool) → shape_of table of ≡ shape.Access d constant named → PlaceKinds table m here taken p of
      → ((q : Spot) → spot m p ≡ Given q → (z : ℤ) → words_at m q (sort.Access ∷ []) ≡ Given (z ∷ []) → IsOwner table m d z) → LooksFor table m here taken p d
  release_looks p of d constant named is at owner =
      let one : kinds table of ≡ sort.Access ∷ [] = ap (map kind_of) (laws.access of d constant named is) in
      (looks_at table m here taken p of at, λ q e. (subst (StandAt m here q) one (place_stands table m here taken p of q at e), owner q e))
