-- Assignments to places whose type is no anonymous access type: the target is a place, and the
-- source has its type.
use Rattle.std.proofs.Common.{◌≡◌, refl, ap, ℕ, Bool, true, false, ◌&&◌, List, [], ◌++◌, if◌then◌else◌}
use Rattle.machine.specs.spark_base.declared.position.Pos.{Pos}
use Rattle.machine.specs.resolved_tree.Trees.{Tree, Named}
use Rattle.machine.specs.type_definitions.declared.judgement.Fault.{Fault}
use Rattle.machine.specs.type_definitions.declared.judgement.Reading.{Reading}
use Rattle.machine.specs.type_definitions.declared.judgement.Reading.TheVariants as reading
use Rattle.machine.specs.type_definitions.declared.judgement.Where.TheVariants as stands
use Rattle.machine.specs.type_definitions.Types.{full}
use Rattle.machine.specs.type_definitions.Entries.{entry_of, integer}
use Rattle.machine.specs.type_definitions.Names.{reading_of, is_end}
use Rattle.machine.specs.type_definitions.Expressions.{own_of, own_type, around, inside, is_anonymous}
use Rattle.machine.specs.type_definitions.Statements.{target_faults, assign_faults, is_object_entry}
use Rattle.std.proofs.Common.{subst, sym, ap, ◌∙◌}
use Rattle.std.proofs.lemmas.Bool.{false≢true}
use Rattle.machine.specs.type_definitions.declared.table.Shape.TheVariants as shape
use Rattle.machine.specs.type_definitions.Types.{shape_of, base, view_of, is_same, is_untyped}
use Rattle.machine.specs.type_definitions.Names.{seen}
use Rattle.machine.specs.type_definitions.Expressions.{is_access, designated, reading_faults, given_names, call_arguments}
use Rattle.machine.specs.type_definitions.Statements.{designates}
use Rattle.soundness.specs.TypedLaws.Fine.{Agree}
use Rattle.soundness.proofs.TypedLaws.Agreeing.{of_known, and_left, and_right, is_free}
use Rattle.soundness.proofs.TypedLaws.Steps.{seen_access}
use Rattle.soundness.proofs.TypedLaws.Named.{named_has}
use Rattle.soundness.proofs.TypedLaws.Cases.{is_access_view, one_base}
use Rattle.soundness.proofs.TypedLaws.Main.{fine_suffixes}
use Rattle.machine.specs.typed_tree.Trees.{TypedTree, Name}
use Rattle.machine.specs.typed_tree.declared.object.Object.{Object}
use Rattle.machine.specs.typed_tree.Expressions.{Site, typed_expression, typed_name}
use Rattle.machine.specs.flow_paths.Objects.{Typing, Signature, object_at}
use Rattle.soundness.specs.TypedLaws.Fine.{Has, Leads, Laws, IsMeant}
use Rattle.soundness.proofs.TypedLaws.Agreeing.{nil_left, nil_right}
use Rattle.soundness.proofs.TypedLaws.Steps.{typing}
use Rattle.soundness.proofs.TypedLaws.Main.{fine, has_type}
use Rattle.soundness.proofs.TypedLaws.Readings.{is_place, place_type}

abbrev pub IsPlace : Typing → TypedTree → ℕ → Type 0
IsPlace y (Name p x steps t) u = Leads y (object_at y x).of steps t × (t ≡ u)
IsPlace y e u = ⊥

module _ (s : Site) (objects : List Object) (subs : List Signature) (made : ℕ → Type 0) (laws : Laws s.context.known made) where
  abbrev y : Typing
  y = typing s objects subs made laws

  place_name : (p : Pos) (d t : ℕ) (r : Reading) (steps actuals imaged : TypedTree) → r ≡ reading.Place t → Has y t (typed_name s p d r steps actuals imaged)
      → IsPlace y (typed_name s p d r steps actuals imaged) t
  unfolding Has
  place_name p d t (reading.Place u) steps actuals imaged is has = (has.0, ap place_type is)
  place_name p d t r steps actuals imaged is has = absurd (false≢true (ap is_place is))

  target_within : (b : Bool) (a c n : List Fault) → (if b then a ++ n else c) ≡ [] → (b ≡ false → c ≡ [] → ⊥) → n ≡ []
  target_within true a c n e never = nil_right a n e
  target_within false a c n e never = absurd (never refl e)

  -- A name that is read as a place.
  pub named_placed : (p : Pos) (d t want : ℕ) (rest : Tree) → IsMeant s y (Named p d rest) → inside s.context false want (Named p d rest) ≡ []
      → reading_of s.context d rest ≡ reading.Place t → made t × IsPlace y (typed_expression s want (Named p d rest)) t
  unfolding own_type typed_expression
  named_placed p d t want rest meant within is =
      let has = (fine s objects subs made laws (Named p d rest) meant).by_own want t (ap (own_of s.context.known) is) within in
      (has.0, place_name p d t (reading_of s.context d rest) _ _ _ is has.1)

  pub target_placed : (p : Pos) (d t : ℕ) (rest : Tree) → IsMeant s y (Named p d rest) → target_faults s.context (Named p d rest) ≡ []
      → reading_of s.context d rest ≡ reading.Place t → made t × IsPlace y (typed_expression s integer (Named p d rest)) t
  target_placed p d t rest meant none is =
      let within = target_within (is_object_entry (entry_of s.context.known d)) _ _ (inside s.context false integer (Named p d rest)) none (λ e f. false≢true (ap is_free f)) in
      named_placed p d t integer rest meant within is

  pub source_has : (p : Pos) (d t : ℕ) (rest e : Tree) → IsMeant s y e → made t → reading_of s.context d rest ≡ reading.Place t
      → is_end rest && is_anonymous (full s.context.known.table t) ≡ false → assign_faults s.context (Named p d rest) e ≡ [] → Has y t (typed_expression s t e)
  source_has p d t rest e meant m is named none =
      let at = rw is at none in
      let plain : around s.context stands.Stored t e ++ inside s.context false t e ≡ [] = rw named at at in
      has_type s objects subs made laws e stands.Stored t meant m (nil_left (around s.context stands.Stored t e) _ plain) (nil_right (around s.context stands.Stored t e) _ plain)

  -- ---- objects and results of anonymous access types

  -- A source that is looked at designates the type that is wanted, maybe by the name of a subtype.
  pub source_view : (p : Pos) (d t want to : ℕ) (constant named : Bool) (rest : Tree) → IsMeant s y (Named p d rest) → made want
      → shape_of s.context.known.table want ≡ shape.Access to constant named → reading_of s.context d rest ≡ reading.Place t
      → designates s.context want (own_of s.context.known (reading_of s.context d rest)) ≡ true → inside s.context true integer (Named p d rest) ≡ []
      → IsPlace y (typed_expression s want (Named p d rest)) t
      × (of : ℕ) × (k : Bool) × (n : Bool) × (shape_of s.context.known.table t ≡ shape.Access of k n) × Agree s.context.known.table of to
  unfolding inside typed_expression IsMeant
  source_view p d t want to constant named rest meant m defined is fit loose =
      let back = nil_right (reading_faults s.context p d true (given_names (call_arguments rest)) (reading_of s.context d rest)) _ loose in
      let has = named_has s objects subs made laws p d t rest (reading_of s.context d rest) _ _ meant.0 (fine_suffixes s objects subs made laws rest meant.1) refl (ap (own_of s.context.known) is) back in
      let source = is_access (seen s.context t) && is_same s.context.known.table (designated (full s.context.known.table t)) (designated (full s.context.known.table want)) in
      let fits = of_known (is_untyped s.context.known.table t) source (laws.certain t has.0)
      (subst (λ z. designates s.context want (own_of s.context.known z) ≡ true) is fit) in
      let found = is_access_view (seen s.context t) (and_left (is_access (seen s.context t)) _ fits) in
      let defined_as = seen_access s.context t found.0 found.1 found.2 found.3 in
      let same = and_right (is_access (seen s.context t)) _ fits in
      let left : designated (full s.context.known.table t) ≡ found.0 = ap (λ z. designated (view_of z)) defined_as in
      let right : designated (full s.context.known.table want) ≡ to = ap (λ z. designated (view_of z)) defined in
      let bases = one_base s objects subs made laws (designated (full s.context.known.table t)) (designated (full s.context.known.table want))
      (subst made (sym left) (laws.target t found.0 found.1 found.2 has.0 defined_as)) (subst made (sym right) (laws.target want to constant named m defined)) same in
      let one : base s.context.known.table found.0 ≡ base s.context.known.table to =
      ap (base s.context.known.table) (sym left) ∙ bases ∙ ap (base s.context.known.table) right in (
        place_name p d t (reading_of s.context d rest) _ _ _ is has.1,
        found.0,
        found.1,
        found.2,
        defined_as,
        laws.same found.0 to (laws.target t found.0 found.1 found.2 has.0 defined_as) (laws.target want to constant named m defined) one,
      )
