-- The actuals of a call, one for each formal, are lowered; and so are strings.
use Rattle.std.proofs.Common.{◌≡◌, refl, sym, ◌∙◌, subst, inl, ℕ, ◌+◌, Bool, true, false, not, List, [], ◌∷◌, map, Option, Some, None, if◌then◌else◌}
use Rattle.std.specs.Prelude.{is_some}
use Rattle.std.proofs.lemmas.Bool.{false≢true, true≢false}
use Rattle.machine.specs.spark_base.declared.position.Pos.{Pos}
use Rattle.machine.specs.place_names.declared.act.Mode.{Mode}
use Rattle.machine.specs.place_names.declared.act.Mode.TheVariants as mode
use Rattle.machine.specs.type_definitions.declared.table.Shape.{Shape}
use Rattle.machine.specs.type_definitions.declared.table.Shape.TheVariants as shape
use Rattle.machine.specs.type_definitions.Types.{Table, shape_of, view_of, full, is_scalar, is_owning, owns_of}
use Rattle.machine.specs.type_definitions.Entries.{integer, boolean}
use Rattle.machine.specs.typed_tree.Trees.{TypedTree, Text, Name, Parens, Image, Binary, NoMore, More}
use Rattle.machine.specs.flow_paths.Objects.{Typing, object_at, sub_at, Passing, passing, passing_by, passings, traverses, first_traversed}
use Rattle.machine.specs.flow_paths.Names.{waiting}
use Rattle.machine.specs.Evaluate.{AsValue, AsView}
use Rattle.machine.specs.Typed.{Sort}
use Rattle.soundness.specs.TypedLaws.Fine.{Agree, counts, lists, Has}
use Rattle.soundness.proofs.TypedLaws.Agreeing.{Owns}
use Rattle.soundness.specs.TypedLaws.TypedSteps.Steps.{Taken, IsPlaceOf, IsText, IsActual, ActualsTaken, IsCall}
use Rattle.run_codes.specs.Codes.{Actual}
use Rattle.run_codes.specs.Codes as codes
use Rattle.run_codes.specs.Lowered.{Site, Placed, Lowered, lowered, place, value, one_type, scalar_of, option_map}
use Rattle.run_codes.specs.Programs.{taken_types, use_for, is_scalar_shape, viewed_value, actual_place, actual, with_first, actuals, append_all, image_piece, pieces}
use Rattle.sound_files.proofs.TypedFiles.LoweredLaws.Found.{Found, Any, then_found, map_found, if_found, unless_found, there}
use Rattle.sound_files.proofs.TypedFiles.LoweredLaws.Shapes.{IsScalarOf, SortsLaw, scalar_is, agree_sorts}
use Rattle.sound_files.proofs.TypedFiles.LoweredLaws.Takes.{IsAt, at_first, at_next}
use Rattle.sound_files.proofs.TypedFiles.LoweredLaws.Fits.{Fits}
use Rattle.sound_files.proofs.TypedFiles.LoweredLaws.Words as lowering
use Rattle.sound_files.proofs.TypedFiles.LoweredLaws.Values as filling

pub first_found : {A : Type 0} (a : Option A) (rest : Option (List A)) → Found Any a → Found Any rest → Found Any (with_first a rest)
first_found (Some a) (Some rest) h g = tt
first_found (Some a) None h g = absurd g
first_found None rest h g = absurd h

pub append_found : {A : Type 0} (a b : Option (List A)) → Found Any a → Found Any b → Found Any (append_all a b)
append_found (Some a) (Some b) h g = tt
append_found (Some a) None h g = absurd g
append_found None b h g = absurd h

-- ---- types that are no scalars

view_scalar : (z : Shape) → is_scalar (view_of z) ≡ false → is_some (scalar_of z) ≡ false
view_scalar (shape.Whole low high) e = absurd (true≢false e)
view_scalar (shape.Listed k low high) e = absurd (true≢false e)
view_scalar z e = refl

owned_scalar : (f : ℕ → Bool) (z : Shape) → owns_of f z ≡ true → is_some (scalar_of z) ≡ false
owned_scalar f (shape.Whole low high) e = absurd (false≢true e)
owned_scalar f (shape.Listed k low high) e = absurd (false≢true e)
owned_scalar f z e = refl

module _ (c : Site) (owns : Owns c.typing.table) (whole : counts (shape_of c.typing.table integer) ≡ true) (listed : lists (shape_of c.typing.table boolean) ≡ true)
    (law : SortsLaw c.typing.table) where
  abbrev s : Typing
  s = c.typing

  abbrev table : Table
  table = c.typing.table

  abbrev pub type_of : ℕ → ℕ
  type_of x = (object_at c.typing x).of

  -- ---- actuals

  place_of_found : (e : TypedTree) (k t : ℕ) → IsPlaceOf s t e → Fits c e → IsAt c.takes k (taken_types s e) → Found (λ (q : Placed). q.of ≡ t) (place c k e)
  unfolding Fits taken_types
  place_of_found (Name p x steps u) k t is fits at =
      subst (λ t. Found (λ (q : Placed). q.of ≡ t) (place c k (Name p x steps u))) is.1 (filling.place_found c owns whole listed law k x u p steps is.0 fits.0 fits.1 at)
  place_of_found e k t is fits at = absurd is

  pub placed : (e : TypedTree) (k t : ℕ) → IsPlaceOf s t e → Fits c e → IsAt c.takes k (taken_types s e) → (q : Placed) × (place c k e ≡ Some q) × (q.of ≡ t)
  placed e k t is fits at = there (λ (q : Placed). q.of ≡ t) (place c k e) (place_of_found e k t is fits at)

  place_found : (e : TypedTree) (k t u : ℕ) (f : Placed → Actual) → IsPlaceOf s t e → Agree table t u → Fits c e → IsAt c.takes k (taken_types s e) → Found Any (actual_place c k u e f)
  place_found e k t u f is agree fits at =
      then_found (λ (q : Placed). q.of ≡ t) Any (λ q. if one_type table q.of u then Some (f q) else None) (place c k e) (place_of_found e k t is fits at)
      (λ q same. if_found Any (one_type table q.of u) (Some (f q)) (subst (λ t. one_type table t u ≡ true) (sym same) (agree_sorts table law t u agree)) tt)

  view_found : (e : TypedTree) (k t : ℕ) → is_scalar_shape (shape_of table t) ≡ false → Taken s t e → Fits c e → IsAt c.takes k (taken_types s e) → Found Any (viewed_value c k t e)
  view_found e k t plain taken fits at =
      unless_found Any (is_scalar_shape (shape_of table t)) (option_map codes.ByValue (value c k AsView t e)) plain
      (map_found Any Any codes.ByValue (value c k AsView t e) (filling.takens c owns whole listed law e k AsView t taken fits at) (λ v h. tt))

  value_found : (e : TypedTree) (k x : ℕ) → Taken s (type_of x) e → Fits c e → IsAt c.takes k (taken_types s e)
      → Found Any (option_map codes.ByValue (value c k (use_for table (type_of x)) (type_of x) e))
  value_found e k x taken fits at =
      map_found Any Any codes.ByValue (value c k (use_for table (type_of x)) (type_of x) e) (filling.takens c owns whole listed law e k (use_for table (type_of x)) (type_of x) taken fits at) (λ v h. tt)

  -- what a place is given, by the mode of the formal
  abbrev Suits : ℕ → TypedTree → Mode → Type 0
  Suits x e mode.In = Taken s (type_of x) e
  Suits x e _ = (t : ℕ) × IsPlaceOf s t e × Agree table t (type_of x)

  suits : (x : ℕ) (e : TypedTree) (m : Mode) → (object_at s x).mode ≡ m → IsActual s x e → Suits x e m
  suits x e mode.In is h = rw is at h
  suits x e mode.Out is h = rw is at h
  suits x e mode.InOut is h = rw is at h

  by_mode : (p : Pos) (e : TypedTree) (k x : ℕ) (m : Mode) (owning access : Bool) → is_owning table (type_of x) ≡ owning → Suits x e m → Fits c e → IsAt c.takes k (taken_types s e)
      → Found Any (actual c p k (passing_by m owning access) x e)
  by_mode p e k x mode.In true access owning taken fits at =
      view_found e k (type_of x) (owned_scalar (is_owning table) (shape_of table (type_of x)) (sym (owns (type_of x)) ∙ owning)) taken fits at
  by_mode p e k x mode.In false access owning taken fits at = value_found e k x taken fits at
  by_mode p e k x mode.Out owning access is h fits at = place_found e k h.0 (type_of x) _ h.1 h.2 fits at
  by_mode p e k x mode.InOut owning access is h fits at = place_found e k h.0 (type_of x) _ h.1 h.2 fits at

  actual_found : (p : Pos) (procedure : Bool) (e : TypedTree) (k x : ℕ) → IsActual s x e → Fits c e → IsAt c.takes k (taken_types s e)
      → Found Any (actual c p k (passing s procedure x) x e)
  actual_found p procedure e k x is fits at =
      by_mode p e k x (object_at s x).mode (is_owning table (type_of x)) _ refl (suits x e (object_at s x).mode refl is) fits at

  each_found : (p : Pos) (procedure : Bool) (formals : List ℕ) (e : TypedTree) (k : ℕ) → ActualsTaken s formals e → Fits c e → IsAt c.takes k (taken_types s e)
      → Found Any (actuals c p k (map (passing s procedure) formals) formals e)
  unfolding Fits taken_types
  each_found p procedure (x ∷ formals) (More e rest) k taken fits at =
      first_found (actual c p k (passing s procedure x) x e) (actuals c p (k + waiting e) (map (passing s procedure) formals) formals rest)
      (actual_found p procedure e k x taken.0 fits.0 (at_first c.takes k (taken_types s e) (taken_types s rest) at))
      (each_found p procedure formals rest (k + waiting e) taken.1 fits.1 (at_next s c.takes k e (taken_types s rest) at))
  each_found p procedure [] NoMore k taken fits at = tt
  each_found p procedure formals e k taken fits at = absurd taken

  place_taken : (e : TypedTree) (x : ℕ) → (t : ℕ) × IsPlaceOf s t e × Agree table t (type_of x) → Taken s (type_of x) e
  unfolding Has
  place_taken (Name p y steps u) x (t, is, agree) = inl (is.0, subst (λ t. Agree table t (type_of x)) (sym is.1) agree)
  place_taken e x (t, is, agree) = absurd is

  suited_taken : (x : ℕ) (e : TypedTree) (m : Mode) → Suits x e m → Taken s (type_of x) e
  suited_taken x e mode.In h = h
  suited_taken x e mode.Out h = place_taken e x h
  suited_taken x e mode.InOut h = place_taken e x h

  -- a traversal goes through the first one
  through_found : (p : Pos) (procedure : Bool) (formals : List ℕ) (e : TypedTree) (k : ℕ)
      → ((x : ℕ) (rest : List ℕ) → formals ≡ x ∷ rest → is_scalar (full table (type_of x)) ≡ false) → ActualsTaken s formals e → Fits c e → IsAt c.takes k (taken_types s e)
      → Found Any (actuals c p k (first_traversed (map (passing s procedure) formals)) formals e)
  unfolding Fits taken_types
  through_found p procedure (x ∷ formals) (More e rest) k plain taken fits at =
      first_found (viewed_value c k (type_of x) e) (actuals c p (k + waiting e) (map (passing s procedure) formals) formals rest)
      (view_found e k (type_of x) (view_scalar (shape_of table (type_of x)) (plain x formals refl)) (suited_taken x e (object_at s x).mode (suits x e (object_at s x).mode refl taken.0)) fits.0
      (at_first c.takes k (taken_types s e) (taken_types s rest) at))
      (each_found p procedure formals rest (k + waiting e) taken.1 fits.1 (at_next s c.takes k e (taken_types s rest) at))
  through_found p procedure [] NoMore k plain taken fits at = tt
  through_found p procedure formals e k plain taken fits at = absurd taken

  pub actuals_found : (p : Pos) (given : Bool) (sub : ℕ) (e : TypedTree) → IsCall s given sub e → Fits c e → IsAt c.takes 0 (taken_types s e)
      → Found Any (actuals c p 0 (passings s (sub_at s sub)) (sub_at s sub).formals e)
  actuals_found p given sub e is fits at = by (traverses table (sub_at s sub).result) refl
    where
      procedure : Bool
      procedure = not (is_some (sub_at s sub).result)

      each : List Passing
      each = map (passing s procedure) (sub_at s sub).formals

      by : (b : Bool) → traverses table (sub_at s sub).result ≡ b → Found Any (actuals c p 0 (if b then first_traversed each else each) (sub_at s sub).formals e)
      by true through = through_found p procedure (sub_at s sub).formals e 0 (is.1 through) is.0 fits at
      by false direct = each_found p procedure (sub_at s sub).formals e 0 is.0 fits at

  -- ---- strings

  image_by : (z : Shape) (so : Sort) (t : ℕ) (l : Lowered) → IsScalarOf z so → l.sort ≡ so → Found Any (image_piece table t l)
  image_by (shape.Whole low high) so t l is e = rw (e ∙ is) tt
  image_by (shape.Listed k low high) so t l is e = rw (e ∙ is) tt
  image_by z so t l is e = absurd is

  pub pieces_found : (e : TypedTree) (k : ℕ) → IsText s e → Fits c e → IsAt c.takes k (taken_types s e) → Found Any (pieces c k e)
  unfolding pieces IsText Fits taken_types
  pieces_found (Text bytes) k is fits at = tt
  pieces_found (Image t e) k is fits at =
      let scalar = scalar_is (shape_of table t) is.0 in
      then_found (λ (l : Lowered). l.sort ≡ scalar.0) Any (image_piece table t) (lowered c k AsValue e) (lowering.words c owns whole listed e k AsValue t scalar.0 is.1 scalar.1 fits at)
      (λ l same. image_by (shape_of table t) scalar.0 t l scalar.1 same)
  pieces_found (Parens e) k is fits at = pieces_found e k is fits at
  pieces_found (Binary op a b) k is fits at =
      append_found (pieces c k a) (pieces c (k + waiting a) b) (pieces_found a k is.0 fits.0 (at_first c.takes k (taken_types s a) (taken_types s b) at))
      (pieces_found b (k + waiting a) is.1 fits.1 (at_next s c.takes k a (taken_types s b) at))
  pieces_found e k is fits at = absurd is
