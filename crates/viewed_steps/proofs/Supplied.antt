-- The values that actuals take where a subprogram is called: they own nothing, and are of the types of what functions gave.
use Rattle.std.proofs.Common.{false, ◌≡◌, refl, sym, ap, ◌∙◌, subst, ◌⊎◌, inl, inr, ℕ, Bool, true, ◌||◌, List, [], ◌∷◌, ◌++◌}
use Rattle.std.specs.List.{AllByRecursion}
use Rattle.std.proofs.lemmas.Bool.{false≢true}
use Rattle.machine.specs.type_definitions.declared.table.Shape.{Shape}
use Rattle.machine.specs.type_definitions.declared.table.Shape.TheVariants as shape
use Rattle.machine.specs.type_definitions.Types.{shape_of, view_of, full, is_scalar, is_owning}
use Rattle.machine.specs.typed_tree.Trees.{TypedTree, Number, Literal, Name, Call, EndOfFile, Parens, Unary, Binary, Short, IsNull, Aggregate, Alike, New, More}
use Rattle.machine.specs.typed_tree.Trees as typed
use Rattle.machine.specs.flow_paths.Names.{waiting as waits_in}
use Rattle.machine.specs.flow_paths.Objects.{Typing, object_at}
use Rattle.machine.specs.Words as machine
use Rattle.machine.specs.Memory.{Memory}
use Rattle.machine.specs.States.{Waiting}
use Rattle.machine.specs.Typed.{is_array, is_record}
use Rattle.soundness.specs.TypedLaws.Needed.{Gives, IsPlace, Matches}
use Rattle.soundness.specs.PartOffsets.Parts.{IsSettled}
use Rattle.soundness.specs.Seen.{in_hand}
use Rattle.soundness.specs.Typed.{Kept, OwnsByShape, Points}
use Rattle.soundness.proofs.Fixed.{matches_scalar, plain_word}
use Rattle.soundness.proofs.Keeping.{retyped_points, top_points}
use Rattle.soundness.proofs.Lasting.{less_kept}
use Rattle.soundness.proofs.Passing.{plain_type}
use Rattle.soundness.proofs.Taking.{Takes}
use Rattle.soundness.specs.ViewedSoundness.Taken.{type_given, types_taken, AreScalarTypes, TakesFit, IsOfType, AreOfTypes}
use Rattle.soundness.proofs.ViewedSoundness.Fed.{split_values, takes_values, types_count}
use Rattle.soundness.proofs.ViewedSoundness.Hands.{first_words, first_both}
use Rattle.viewed_steps.specs.Awaited.{Fits, AreFor, AreFilled, AreScalar, AreOwnless}
use Rattle.viewed_steps.specs.Ready.{IsSeen}
use Rattle.viewed_steps.proofs.Entered.{IsFit}
use Rattle.viewed_steps.proofs.Constructors.{is_access_shape}

-- ---- values that own nothing

-- Scalar types own nothing.
pub scalar_ownless : (s : Typing) → OwnsByShape s.table → (xs : List ℕ) → AreScalar s xs → AreOwnless s xs
scalar_ownless s own_law [] scalar = tt
scalar_ownless s own_law (x ∷ xs) scalar = (plain_type s own_law (object_at s x).of scalar.0, scalar_ownless s own_law xs scalar.1)

-- So do values for temporaries of types that own nothing.
pub ownless_values : (s : Typing) → OwnsByShape s.table → (waits : List Waiting) (xs : List ℕ) → AreFor s waits xs → AreOwnless s xs
    → AllByRecursion (λ (v : Waiting). is_owning s.table v.of ≡ false) waits
ownless_values s own_law [] [] all none = tt
ownless_values s own_law [] (x ∷ xs) all none = absurd all
ownless_values s own_law (v ∷ waits) [] all none = absurd all
ownless_values s own_law (v ∷ waits) (x ∷ xs) ((fits, long), all) (none, others) = (
  elim fits [ inl both ↦ plain_type s own_law v.of both.0 | inr same ↦ ap (is_owning s.table) same ∙ none ],
  ownless_values s own_law waits xs all others,
)

-- What temporaries are filled with has their types.
pub of_types : (s : Typing) (types xs : List ℕ) (values : List Waiting) → AreFilled s types xs → AreFor s values xs → AreOfTypes s types values
of_types s [] [] [] filled there = tt
of_types s [] [] (v ∷ values) filled there = absurd there
of_types s [] (x ∷ xs) values filled there = absurd filled
of_types s (t ∷ types) [] values filled there = absurd filled
of_types s (t ∷ types) (x ∷ xs) [] filled there = absurd there
of_types s (t ∷ types) (x ∷ xs) (v ∷ values) filled there = ((one filled.0 there.0.0, there.0.1), of_types s types xs values filled.1 there.1)
  where
    one : Fits s t x → Fits s v.of x → ((is_scalar (full s.table t) ≡ true) × (is_scalar (full s.table v.of) ≡ true)) ⊎ (t ≡ v.of)
    one (inl both) (inl mine) = inl (both.0, mine.0)
    one (inl both) (inr same) = inl (both.0, ap (λ z. is_scalar (full s.table z)) same ∙ both.1)
    one (inr is) (inl mine) = inl (ap (λ z. is_scalar (full s.table z)) is ∙ mine.1, mine.0)
    one (inr is) (inr same) = inr (is ∙ sym same)

-- What values in hand designate is of the types of their parts.
pub points_there : (s : Typing) → IsSettled s.table → (m : Memory) (vs hands : List Waiting) → Kept s m (vs ++ hands)
    → AllByRecursion (λ v. Points s m (in_hand v)) vs
points_there s settled m [] hands kept = tt
points_there s settled m (v ∷ vs) hands kept =
    (top_points s settled m v (vs ++ hands) kept.points, points_there s settled m vs hands (less_kept s settled m v (vs ++ hands) kept))

-- ---- what is taken

-- Values of these types are there, the last one first.
pub record Supplies (s : Typing) (m : Memory) (types : List ℕ) (before on : List (List machine.Word)) : Type 0 where
  pub values : List Waiting
  pub is : before ≡ first_words values on
  pub fit : AreOfTypes s types values
  pub points : AllByRecursion (λ v. Points s m (in_hand v)) values

points_both : (s : Typing) (m : Memory) (xs ys : List Waiting) → AllByRecursion (λ v. Points s m (in_hand v)) (xs ++ ys)
    → AllByRecursion (λ v. Points s m (in_hand v)) xs × AllByRecursion (λ v. Points s m (in_hand v)) ys
points_both s m [] ys all = (tt, all)
points_both s m (x ∷ xs) ys all = (let more = points_both s m xs ys all.1 in ((all.0, more.0), more.1))

-- first those of the one, and then those of the other
pub supplies_both : (s : Typing) (m : Memory) (ts us : List ℕ) (before on : List (List machine.Word)) → Supplies s m (us ++ ts) before on
    → (mid : List (List machine.Word)) × Supplies s m ts before mid × Supplies s m us mid on
supplies_both s m ts us before on supplied =
    let two = split_values s us ts supplied.values supplied.fit in
    let points = points_both s m two.0 two.1 (subst (AllByRecursion (λ v. Points s m (in_hand v))) two.2 supplied.points) in (
      first_words two.0 on,
      record {
        values = two.1;
        is = supplied.is ∙ ap (λ z. first_words z on) two.2 ∙ first_both two.0 two.1 on;
        fit = two.4;
        points = points.1;
      },
      record { values = two.0; is = refl; fit = two.3; points = points.0 },
    )

pub supplies_none : (s : Typing) (m : Memory) (before on : List (List machine.Word)) → Supplies s m [] before on → before ≡ on
supplies_none s m before on supplied = none supplied.values supplied.is supplied.fit
  where
    none : (vs : List Waiting) → before ≡ first_words vs on → AreOfTypes s [] vs → before ≡ on
    none [] is fit = is
    none (v ∷ vs) is fit = absurd fit

-- one value
pub supplies_one : (s : Typing) → IsSettled s.table → (m : Memory) (t : ℕ) (before on : List (List machine.Word)) → Supplies s m (t ∷ []) before on
    → (ws : List machine.Word) × (before ≡ ws ∷ on) × IsFit s m t ws
supplies_one s settled m t before on supplied = one supplied.values supplied.is supplied.fit supplied.points
  where
    fitting : (v : Waiting) → IsOfType s t v → Points s m (in_hand v) → IsFit s m t v.words
    fitting v (inl both, long) points = (
      long ∙ plain_word s settled v.of both.1 ∙ sym (plain_word s settled t both.0),
      retyped_points s settled m v.of t v.words (inr (both.1, both.0)) points,
    )
    fitting v (inr same, long) points = subst (λ z. IsFit s m z v.words) (sym same) (long, points)

    one : (vs : List Waiting) → before ≡ first_words vs on → AreOfTypes s (t ∷ []) vs → AllByRecursion (λ v. Points s m (in_hand v)) vs
        → (ws : List machine.Word) × (before ≡ ws ∷ on) × IsFit s m t ws
    one [] is fit points = absurd fit
    one (v ∷ []) is fit points = (v.words, is, fitting v fit.0 points.0)
    one (v ∷ (w ∷ vs)) is fit points = absurd fit.1

-- where their types are scalar
pub takes_supplied : (s : Typing) → IsSettled s.table → (m : Memory) (e : TypedTree) (before on : List (List machine.Word)) → AreScalarTypes s (types_taken s e)
    → Supplies s m (types_taken s e) before on → Takes (waits_in e) before on
takes_supplied s settled m e before on scalar supplied =
    subst (λ z. Takes (waits_in e) z on) (sym supplied.is)
    (subst (λ k. Takes k (first_words supplied.values on) on) (types_count s e)
    (takes_values s settled (types_taken s e) supplied.values supplied.fit scalar on))

-- ---- which are scalar

no_parts : (sh : Shape) → is_scalar (view_of sh) ≡ true → is_record sh || is_array sh ≡ true → ⊥
no_parts (shape.Fields cs) plain made = false≢true plain
no_parts (shape.Elements low high element) plain made = false≢true plain
no_parts (shape.Whole a b) plain made = false≢true made
no_parts (shape.Listed l a b) plain made = false≢true made
no_parts (shape.Access d c n) plain made = false≢true plain
no_parts (shape.Same of) plain made = false≢true plain

array_parts : (sh : Shape) → is_array sh ≡ true → is_record sh || is_array sh ≡ true
array_parts (shape.Elements low high element) array = refl
array_parts (shape.Fields cs) array = refl
array_parts (shape.Whole a b) array = array
array_parts (shape.Listed l a b) array = array
array_parts (shape.Access d c n) array = array
array_parts (shape.Same of) array = array

no_access : (sh : Shape) (d : ℕ) (c n : Bool) → is_scalar (view_of sh) ≡ true → sh ≡ shape.Access d c n → ⊥
no_access (shape.Access d c n) k e o plain is = false≢true plain
no_access (shape.Fields cs) k e o plain is = absurd (false≢true (ap is_access_shape is))
no_access (shape.Elements low high element) k e o plain is = absurd (false≢true (ap is_access_shape is))
no_access (shape.Whole a b) k e o plain is = absurd (false≢true (ap is_access_shape is))
no_access (shape.Listed l a b) k e o plain is = absurd (false≢true (ap is_access_shape is))
no_access (shape.Same of) k e o plain is = absurd (false≢true (ap is_access_shape is))

pub scalar_source : (s : Typing) (t u : ℕ) → Matches s.table t u → is_scalar (full s.table u) ≡ true → is_scalar (full s.table t) ≡ true
scalar_source s t u (inl e) plain = matches_scalar s u t (inl (sym e)) plain
scalar_source s t u (inr both) plain = both.0

module _ (s : Typing) where
  -- what gives a scalar value takes such ones
  pub scalar_types : (e : TypedTree) (want : ℕ) → is_scalar (full s.table want) ≡ true → Gives s want e → TakesFit s e → AreScalarTypes s (types_taken s e)
  unfolding Gives TakesFit types_taken
  scalar_types (Number n) want plain gives takes = takes
  scalar_types (Literal n) want plain gives takes = takes
  scalar_types EndOfFile want plain gives takes = takes
  scalar_types typed.Null want plain gives takes = takes
  scalar_types (Name p x steps t) want plain gives takes = takes
  scalar_types (Unary op e) want plain gives takes = takes
  scalar_types (Binary op a b) want plain gives takes = takes
  scalar_types (Short op p a q b) want plain gives takes = takes
  scalar_types (IsNull equal e) want plain gives takes = takes
  scalar_types (Parens e) want plain gives takes = scalar_types e want plain gives takes
  scalar_types (Call p n actuals) want plain (t, result, fits) takes =
      (subst (λ r. is_scalar (full s.table (type_given r)) ≡ true) (sym result) (scalar_source s t want fits plain), tt)
  scalar_types (Aggregate t es) want plain (fits, made, count, gives) takes = absurd (no_parts (shape_of s.table t) (scalar_source s t want fits plain) made)
  scalar_types (Alike t e) want plain (fits, array, none, gives) takes =
      absurd (no_parts (shape_of s.table t) (scalar_source s t want fits plain) (array_parts (shape_of s.table t) array))
  scalar_types (New t v) want plain (d, c, n, is, fits, gives) takes = absurd (no_access (shape_of s.table want) d c n plain is)
  scalar_types e want plain gives takes = absurd gives

  -- so do names
  pub place_types : (e : TypedTree) (t : ℕ) → IsPlace s e t → TakesFit s e → AreScalarTypes s (types_taken s e)
  unfolding TakesFit types_taken
  place_types (Name p x steps u) t place takes = takes
  place_types e t place takes = absurd place

  pub seen_types : (x : ℕ) (e : TypedTree) → IsSeen s x e → TakesFit s e → AreScalarTypes s (types_taken s e)
  unfolding TakesFit types_taken
  seen_types x typed.Null seen takes = takes
  seen_types x (Name p y steps u) seen takes = takes
  seen_types x e seen takes = absurd seen

-- ---- the actuals

-- Those for which there are formals take these values, one after the other.
abbrev pub SuppliesAll : Typing → Memory → List ℕ → TypedTree → List (List machine.Word) → List (List machine.Word) → Type 0
SuppliesAll s m (x ∷ formals) (More e rest) before on =
    (mid : List (List machine.Word)) × TakesFit s e × Supplies s m (types_taken s e) before mid × SuppliesAll s m formals rest mid on
SuppliesAll s m formals actuals before on = before ≡ on

pub supplies_each : (s : Typing) (m : Memory) (formals : List ℕ) (actuals : TypedTree) (before on : List (List machine.Word)) → TakesFit s actuals
    → Supplies s m (types_taken s actuals) before on → (end : List (List machine.Word)) × SuppliesAll s m formals actuals before end
unfolding TakesFit types_taken
supplies_each s m (x ∷ formals) (More e rest) before on takes supplied =
    let two = supplies_both s m (types_taken s e) (types_taken s rest) before on supplied in
    let later = supplies_each s m formals rest two.0 on takes.1 two.2 in (later.0, (two.0, takes.0, two.1, later.1))
supplies_each s m [] actuals before on takes supplied = (before, refl)
supplies_each s m (x ∷ formals) actuals before on takes supplied = (before, refl)
