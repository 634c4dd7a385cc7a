-- The calls and the operands of short circuits within an expression that breaks no sentence.
use Rattle.std.proofs.Common.{◌≡◌, refl, sym, ap, ◌∙◌, subst, inl, inr, ℕ, suc, ◌+◌, Bool, true, false, ◌&&◌, List, [], ◌∷◌, ◌++◌, map, get_or, nat_eq, ℤ, negsuc, not, Option, Some, None, if◌then◌else◌, is_some}
use Rattle.std.specs.Prelude.{is_some}
use Rattle.std.specs.List.{AllByRecursion}
use Rattle.std.proofs.lemmas.Bool.{false≢true, true≢false}
use Rattle.machine.specs.spark_base.declared.position.Pos.{Pos}
use Rattle.machine.specs.resolved_tree.declared.node.Mark.{Mark}
use Rattle.machine.specs.resolved_tree.declared.operator.Operator.{Operator}
use Rattle.machine.specs.resolved_tree.declared.operator.Operator.TheVariants as operator
use Rattle.machine.specs.resolved_tree.declared.operator.UnaryOperator.{UnaryOperator}
use Rattle.machine.specs.resolved_tree.declared.operator.UnaryOperator.TheVariants as unary
use Rattle.machine.specs.resolved_tree.Trees.{Tree, Number, Text, Null, Named, Parens, Unary, Binary, Aggregate, Others, New, Selected, All, Applied, Argument, NoMore, More, position}
use Rattle.machine.specs.type_definitions.declared.table.Component.{Component}
use Rattle.machine.specs.type_definitions.declared.table.Entry.{Entry}
use Rattle.machine.specs.type_definitions.declared.table.Entry.TheVariants as entry
use Rattle.machine.specs.type_definitions.declared.table.FormalInfo.{FormalInfo}
use Rattle.machine.specs.type_definitions.declared.table.Known.{Known}
use Rattle.machine.specs.type_definitions.declared.table.ObjectInfo.{ObjectInfo}
use Rattle.machine.specs.type_definitions.declared.table.Profile.{Profile}
use Rattle.machine.specs.type_definitions.declared.judgement.View.{View}
use Rattle.machine.specs.type_definitions.declared.judgement.View.TheVariants as view
use Rattle.machine.specs.type_definitions.declared.judgement.Own.{Own}
use Rattle.machine.specs.type_definitions.declared.judgement.Own.TheVariants as own
use Rattle.machine.specs.type_definitions.declared.judgement.Reading.{Reading}
use Rattle.machine.specs.type_definitions.declared.judgement.Reading.TheVariants as reading
use Rattle.machine.specs.type_definitions.declared.judgement.Role.{Role}
use Rattle.machine.specs.type_definitions.declared.judgement.Role.TheVariants as role
use Rattle.machine.specs.type_definitions.declared.judgement.Where.TheVariants as stands
use Rattle.machine.specs.type_definitions.declared.judgement.Way.TheVariants as way
use Rattle.machine.specs.type_definitions.Types.{Table, base, full, fields, is_scalar}
use Rattle.machine.specs.type_definitions.Gathered.{natural_of}
use Rattle.machine.specs.type_definitions.Entries.{entry_of, integer, boolean, denotes_type, marked, is_complete, same_word}
use Rattle.machine.specs.type_definitions.Faults.{demand}
use Rattle.machine.specs.type_definitions.Names.{Context, seen, step, through, reading_of}
use Rattle.machine.specs.type_definitions.Statics.{is_alone}
use Rattle.machine.specs.type_definitions.Expressions.{Given, own_type, operator_gives, is_join, around, around_role, around_parens, around_operands, traversal_faults, is_traversal, is_anonymous, result_type, formal, around_formal, inside, arguments, behind, within_suffix, way_of, next_type, reading_faults, given_names, call_arguments, role_type, part, part_type, meant, by_name, no_component, no_formal, parts_role, repeated_type, element_type, mark_faults, is_null, operand_type, unary_type, is_arithmetic, profile_of, formal_names, associates, all_by_position, aggregates, repeats, is_loose}
use Rattle.machine.specs.typed_tree.Trees.{TypedTree, typed_list}
use Rattle.machine.specs.typed_tree.Trees as typed
use Rattle.machine.specs.typed_tree.declared.object.Object.{Object}
use Rattle.machine.specs.typed_tree.Expressions.{Site, number, value_of_type, sub_number, typed_expression, typed_name, typed_steps, typed_step, typed_actuals, typed_imaged, typed_first, typed_values, object_type, called_function, operands, designating, element, component_number, named_value, arranged, role_names}
use Rattle.machine.specs.flow_paths.Objects.{Typing, Signature, sub_at}
use Rattle.machine.specs.flow_paths.Objects as flow
use Rattle.soundness.specs.TypedLaws.Fine.{Has, Laws, IsMeant, AreSuffixes, IsSuffix, AreArguments}
use Rattle.soundness.proofs.TypedLaws.Agreeing.{holds, nil_left, nil_right, and_left, not_true}
use Rattle.soundness.proofs.TypedLaws.Readings.{call_of, place_along}
use Rattle.soundness.proofs.TypedLaws.Steps.{seen_elements}
use Rattle.soundness.proofs.TypedLaws.Cases.{mark_denotes, marked_is}
use Rattle.soundness.proofs.TypedLaws.Main.{fine, has_type}
use Rattle.soundness.proofs.TypedLaws.TypedPoints.Values.{unwanted, scalar_own_type}
use Rattle.soundness.proofs.TypedLaws.TypedPoints.Statements.{based_scalar}
use Rattle.soundness.specs.TypedLaws.TypedSteps.Steps.{IsCall}
use Rattle.sound_files.specs.TypedFiles.TypedRuns.Code.{ArePassed, GivesNoView, Within, WithinSource}
use Rattle.sound_files.specs.TypedFiles.TypedRuns.Formals.{formals_of, IsProfiled, AreProfiled}
use Rattle.sound_files.proofs.TypedFiles.TypedRuns.Actuals.{tight, traversed_named, call_given}
use Rattle.soundness.proofs.TypedLaws.TypedPoints.Images.{IsImage, image_read, join_only}

-- What stands within an expression; it may be what a traversal function gives where that may stand.
abbrev WithinAs : Typing → Bool → TypedTree → Type 0
WithinAs y loose (typed.Call p sub actuals) =
    IsCall y true sub actuals × ArePassed y sub actuals × (loose ≡ false → GivesNoView y sub) × Within y actuals
WithinAs y loose e = Within y e

tightened : (y : Typing) (e : TypedTree) → WithinAs y false e → Within y e
unfolding Within
tightened y (typed.Call p sub actuals) h = (h.0, h.1, h.2 refl, h.3)
tightened y e h = h

loosened : (y : Typing) (loose : Bool) (e : TypedTree) → Within y e → WithinAs y loose e
unfolding Within
loosened y loose (typed.Call p sub actuals) h = (h.0, h.1, (λ none. h.2), h.3)
loosened y loose e h = h

sourced : (y : Typing) (want : ℕ) (loose : Bool) (e : TypedTree) → (loose ≡ true → flow.is_anonymous (full y.table want) ≡ true) → WithinAs y loose e → WithinSource y want e
unfolding Within
sourced y want true (typed.Call p sub actuals) view h = (h.0, h.1, inr (view refl), h.3)
sourced y want false (typed.Call p sub actuals) view h = (h.0, h.1, inl (h.2 refl), h.3)
sourced y want loose e view h = h

pub plain_within : (y : Typing) (want : ℕ) (e : TypedTree) → Within y e → WithinSource y want e
unfolding Within
plain_within y want (typed.Call p sub actuals) h = (h.0, h.1, inl h.2, h.3)
plain_within y want e h = h

pub view_plain : (v : View) → is_anonymous v ≡ false → flow.is_anonymous v ≡ false
view_plain (view.Access d k true) e = refl
view_plain (view.Access d k false) e = absurd (true≢false e)
view_plain (view.Whole low high) e = refl
view_plain (view.Listed low high) e = refl
view_plain (view.Elements low high of) e = refl
view_plain v e = refl

pub view_shown : (v : View) → is_anonymous v ≡ true → flow.is_anonymous v ≡ true
view_shown (view.Access d true false) e = refl
view_shown (view.Access d false false) e = refl
view_shown (view.Access d k true) e = absurd (false≢true e)
view_shown v e = absurd (false≢true e)

-- ---- lists of values

abbrev AllWithin : Typing → List TypedTree → Type 0
AllWithin y vs = AllByRecursion (Within y) vs

listed_within : (y : Typing) (vs : List TypedTree) → AllWithin y vs → Within y (typed_list vs)
unfolding Within
listed_within y [] h = tt
listed_within y (v ∷ vs) h = (h.0, listed_within y vs h.1)

named_within : (y : Typing) (w : List ℕ) (given : List Given) (vs : List TypedTree) → AllWithin y vs → Within y (named_value w given vs)
unfolding Within
named_within y w [] vs h = tt
named_within y w (g ∷ given) [] h = tt
named_within y w (None ∷ given) (v ∷ vs) h = named_within y w given vs h.1
named_within y w (Some u ∷ given) (v ∷ vs) h = by (same_word w u) (named_within y w given vs h.1)
  where
    by : (b : Bool) → Within y (named_value w given vs) → Within y (if b then v else named_value w given vs)
    by true more = h.0
    by false more = more

names_within : (y : Typing) (names : List (List ℕ)) (given : List Given) (vs : List TypedTree) → AllWithin y vs → AllWithin y (map (λ w. named_value w given vs) names)
names_within y [] given vs h = tt
names_within y (w ∷ names) given vs h = (named_within y w given vs h, names_within y names given vs h)

arranged_within : (y : Typing) (names : List (List ℕ)) (given : List Given) (vs : List TypedTree) → AllWithin y vs → Within y (arranged names given vs)
arranged_within y names given vs h = listed_within y (if all_by_position given then vs else map (λ w. named_value w given vs) names) (by (all_by_position given))
  where
    by : (b : Bool) → AllWithin y (if b then vs else map (λ w. named_value w given vs) names)
    by true = h
    by false = names_within y names given vs h

-- ---- values and steps

value_within : (y : Typing) (t : ℕ) (v : ℤ) → Within y (value_of_type t v)
unfolding Within
value_within y t v = by (nat_eq t integer)
  where
    by : (b : Bool) → Within y (if b then number v else typed.Literal (natural_of v))
    by true = tt
    by false = tt

designating_within : (y : Typing) (w : View) (steps : TypedTree) → Within y steps → Within y (designating w steps)
unfolding Within
designating_within y (view.Access d k n) steps h = h
designating_within y w steps h = h

element_within : (y : Typing) (w : View) (index after : TypedTree) → Within y index → Within y after → Within y (element w index after)
unfolding Within
element_within y (view.Elements low high of) index after h g = (h, g)
element_within y w index after h g = g

-- Of both operands, and what a short circuit asks of them.
operands_within : (y : Typing) (op : Operator) (p q : Pos) (l r : Bool) (a b : TypedTree) → Within y a → Within y b → (t : ℕ)
    → Has y t (operands op p q l r a b) → Within y (operands op p q l r a b)
unfolding Within Has
operands_within y operator.AndThen p q l r a b h g t has = (has.1, has.2, h, g)
operands_within y operator.OrElse p q l r a b h g t has = (has.1, has.2, h, g)
operands_within y operator.Equal p q true r a b h g t has = g
operands_within y operator.Equal p q false true a b h g t has = h
operands_within y operator.Equal p q false false a b h g t has = (h, g)
operands_within y operator.NotEqual p q true r a b h g t has = g
operands_within y operator.NotEqual p q false true a b h g t has = h
operands_within y operator.NotEqual p q false false a b h g t has = (h, g)
operands_within y op p q l r a b h g t has = (h, g)

joined_within : (y : Typing) (p q : Pos) (l r : Bool) (a b : TypedTree) → Within y a → Within y b → Within y (operands operator.Concatenate p q l r a b)
unfolding Within
joined_within y p q l r a b h g = (h, g)

-- ---- types that are made

by_name_made : (made : ℕ → Type 0) (w : List ℕ) (cs : List Component) → made integer → ((i : ℕ) → made (get_or cs i no_component).of) → made (by_name (λ (k : Component). k.name) no_component w cs).of
by_name_made made w [] m all = m
by_name_made made w (k ∷ cs) m all = by (same_word w k.name) (by_name_made made w cs m (λ i. all (suc i)))
  where
    by : (b : Bool) → made (by_name (λ (x : Component). x.name) no_component w cs).of → made (if b then k else by_name (λ (x : Component). x.name) no_component w cs).of
    by true more = all 0
    by false more = more

formal_made : (made : ℕ → Type 0) (w : List ℕ) (fs : List FormalInfo) → made integer → ((i : ℕ) → made (get_or fs i no_formal).of) → made (by_name (λ (k : FormalInfo). k.name) no_formal w fs).of
formal_made made w [] m all = m
formal_made made w (k ∷ fs) m all = by (same_word w k.name) (formal_made made w fs m (λ i. all (suc i)))
  where
    by : (b : Bool) → made (by_name (λ (x : FormalInfo). x.name) no_formal w fs).of → made (if b then k else by_name (λ (x : FormalInfo). x.name) no_formal w fs).of
    by true more = all 0
    by false more = more

-- A subprogram with a result gives what its actuals are for.
function_way : (known : Known) (d t : ℕ) (e : Entry) → (profile_of e).result ≡ Some t → way_of known d e ≡ way.Giving (role.Actuals d)
function_way known d t (entry.Subprogram p) is = refl
function_way known d t e is = absurd (false≢true (ap is_some is))

place_read : (c : Context) (d t : ℕ) (rest : Tree) → reading_of c d rest ≡ reading.Place t → (o : ObjectInfo) × (entry_of c.known d ≡ entry.Object o)
unfolding reading_of
place_read c d t rest is = let found = place_along c d t (entry_of c.known d) rest is in (found.0, found.1)

pub call_read : (c : Context) (d f : ℕ) (rest : Tree) → reading_of c d rest ≡ reading.Call f → (f ≡ d) × (t : ℕ) × ((profile_of (entry_of c.known d)).result ≡ Some t)
unfolding reading_of
call_read c d f rest is = call_of c d f (entry_of c.known d) rest is

gives_known : (op : Operator) → operator_gives op ≡ own.Unknown → ⊥
gives_known op e = by (is_join op) (is_arithmetic op) e
  where
    by : (j a : Bool) → (if j then own.Text else if a then own.Of integer else own.Of boolean) ≡ own.Unknown → ⊥
    by true a f = cc
    by false true f = cc
    by false false f = cc

gives_demanding : (op : Operator) → operator_gives op ≡ own.Demanding → ⊥
gives_demanding op e = by (is_join op) (is_arithmetic op) e
  where
    by : (j a : Bool) → (if j then own.Text else if a then own.Of integer else own.Of boolean) ≡ own.Demanding → ⊥
    by true a f = cc
    by false true f = cc
    by false false f = cc

pub function_entry : (known : Known) (d t : ℕ) → (profile_of (entry_of known d)).result ≡ Some t → (p : Profile) × (entry_of known d ≡ entry.Subprogram p)
function_entry known d t is = by (entry_of known d) is
  where
    by : (e : Entry) → (profile_of e).result ≡ Some t → (p : Profile) × (e ≡ entry.Subprogram p)
    by (entry.Subprogram p) h = (p, refl)
    by e h = absurd (false≢true (ap is_some h))

module _ (s : Site) (objects : List Object) (subs : List Signature) (made : ℕ → Type 0) (laws : Laws s.context.known made) where
  abbrev y : Typing
  y = record { table = s.context.known.table; objects = objects; subs = subs }

  abbrev table : Table
  table = s.context.known.table

  abbrev c : Context
  c = s.context

  part_made : (want : ℕ) → made want → (i : ℕ) (w : Given) → made (part c want i w)
  part_made want m i w = by (seen c want) refl w
    where
      by : (v : View) → seen c want ≡ v → (w : Given) → made (part_type v (fields table want) i w)
      by view.Fields is None = laws.component want i m
      by view.Fields is (Some u) = by_name_made made u (fields table want) laws.integers (λ j. laws.component want j m)
      by (view.Elements low high of) is w = laws.element want of low high m (seen_elements c want low high of is)
      by v is w = laws.integers

  element_made : (want : ℕ) → made want → made (element_type (seen c want))
  element_made want m = by (seen c want) refl
    where
      by : (v : View) → seen c want ≡ v → made (element_type v)
      by (view.Elements low high of) is = laws.element want of low high m (seen_elements c want low high of is)
      by v is = laws.integers

  unary_made : (op : UnaryOperator) → made (unary_type op)
  unary_made unary.Not = laws.booleans
  unary_made op = laws.integers

  operand_made : (op : Operator) → made (operand_type op)
  operand_made op = by (is_arithmetic op)
    where
      by : (b : Bool) → made (if b then integer else boolean)
      by true = laws.integers
      by false = laws.booleans

  allocated_made : (m : Mark) → mark_faults c.known m ≡ [] → made (marked c.known m)
  allocated_made m none =
      let denotes = and_left (denotes_type c.known m.decl) _ (holds 1 m.pos (denotes_type c.known m.decl && is_complete c.known (marked c.known m) m.pos) (nil_left _ _ none)) in
      let found = mark_denotes c.known m.decl denotes in
      subst made (sym (marked_is c.known m.decl found.0 found.1 found.2)) (laws.typed found.0 found.2)

  -- What an image is of is scalar, so it means the same for Integer.
  pub imaged_same : (d : ℕ) (e : Tree) → IsMeant s y e → made d → is_scalar (seen c d) ≡ true → around c stands.Elsewhere (base table d) e ≡ [] → inside c false (base table d) e ≡ []
      → typed_expression s (base table d) e ≡ typed_expression s integer e
  imaged_same d e meant m scalar around_none inner =
      let b = base table d in
      let has = has_type s objects subs made laws e stands.Elsewhere b meant (laws.based d m) around_none inner in
      unwanted s e b integer (λ is. scalar_own_type s y e b meant has (based_scalar s objects subs made laws c.in_loop c.starts d m scalar) is)

  module _ (profiled : AreProfiled s.context.known s.bodies y made) where
    abbrev RoleMade : Role → Type 0
    RoleMade for = (i : ℕ) (w : Given) → made (role_type c for i w)

    actuals_made : (f : ℕ) → IsProfiled s.context.known s.bodies y made f → RoleMade (role.Actuals f)
    actuals_made f of i None = of.types i
    actuals_made f of i (Some w) = formal_made made w (formals_of c.known f) laws.integers of.types

    role_tight : (for : Role) (i : ℕ) (w : Given) (e : Tree) → around_role c for i w e ≡ [] → inside c (is_loose c for i w) (role_type c for i w) e ≡ []
        → inside c false (role_type c for i w) e ≡ []
    role_tight (role.Actuals f) i w e around none = by (formal c f i w).traversed refl around none
      where
        of : ℕ
        of = (formal c f i w).of

        by : (b : Bool) → (formal c f i w).traversed ≡ b → around_formal c (formal c f i w) e ≡ [] → inside c b of e ≡ [] → inside c false of e ≡ []
        by false is demands h = h
        by true is demands h = tight s objects subs made laws e of (traversed_named s objects subs made laws (formal c f i w) e is demands h) h
    role_tight (role.Parts t) i w e around none = none
    role_tight (role.Allocated t) i w e around none = none
    role_tight (role.Every t) i w e around none = none

    -- what isn't loose is no traversal call
    no_view : (loose : Bool) (f : ℕ) (p : Pos) → IsProfiled s.context.known s.bodies y made f → traversal_faults loose (is_traversal c.known (profile_of (entry_of c.known f))) p ≡ []
        → loose ≡ false → GivesNoView y (sub_number s f)
    no_view true f p of none is = absurd (true≢false is)
    no_view false f p of none is =
        ap (flow.traverses table) of.result ∙ by (profile_of (entry_of c.known f)).result (not_true (is_traversal c.known (profile_of (entry_of c.known f))) (holds 6 p (not (is_traversal c.known (profile_of (entry_of c.known f)))) none))
      where
        by : (r : Option ℕ) → is_some r && is_anonymous (full table (result_type r)) ≡ false → flow.traverses table r ≡ false
        by None e = refl
        by (Some t) e = view_plain (full table t) e

    -- and a traversal call is one
    pub view_given : (f : ℕ) → IsProfiled s.context.known s.bodies y made f → is_traversal c.known (profile_of (entry_of c.known f)) ≡ true
        → flow.traverses table (sub_at y (sub_number s f)).result ≡ true
    view_given f of is = ap (flow.traverses table) of.result ∙ by (profile_of (entry_of c.known f)).result is
      where
        by : (r : Option ℕ) → is_some r && is_anonymous (full table (result_type r)) ≡ true → flow.traverses table r ≡ true
        by None e = absurd (false≢true e)
        by (Some t) e = view_shown (full table t) e

    mutual
      unfolding own_type inside arguments behind within_suffix typed_expression typed_steps typed_step typed_actuals typed_imaged typed_first typed_values Within IsMeant AreSuffixes IsSuffix AreArguments

      within_as : (e : Tree) (loose : Bool) (want : ℕ) → IsMeant s y e → made want → inside c loose want e ≡ [] → WithinAs y loose (typed_expression s want e)
      within_as (Number p n) loose want meant m none = tt
      within_as (Text p t) loose want meant m none = tt
      within_as (Null p) loose want meant m none = tt
      within_as (Named p d rest) loose want meant m none =
          by (reading_of c d rest) refl none (λ t e. steps_within rest t meant.1 e) (λ f of gives e fit. actuals_within true f rest of gives meant.1 e fit)
          (λ t is e. imaged_within d t rest is meant.1 e)
        where
          by : (r : Reading) → reading_of c d rest ≡ r
              → reading_faults c p d loose (given_names (call_arguments rest)) r ++ behind c (way_of c.known d (entry_of c.known d)) rest ≡ []
              → ((t : ℕ) → behind c (way.Along t) rest ≡ [] → Within y (typed_steps s t rest))
              → ((f : ℕ) → IsProfiled s.context.known s.bodies y made f → is_some (profile_of (entry_of c.known f)).result ≡ true → behind c (way.Giving (role.Actuals f)) rest ≡ []
              → associates (formal_names (profile_of (entry_of c.known f))) (given_names (call_arguments rest)) ≡ true → IsCall y true (sub_number s f) (typed_actuals s f rest) × ArePassed y (sub_number s f) (typed_actuals s f rest) × Within y (typed_actuals s f rest))
              → ((t : ℕ) → IsImage c d t (entry_of c.known d) rest → behind c (way_of c.known d (entry_of c.known d)) rest ≡ [] → Within y (typed_imaged s rest))
              → WithinAs y loose (typed_name s p d r (typed_steps s (object_type (entry_of c.known d)) rest) (typed_actuals s (called_function r) rest) (typed_imaged s rest))
          by reading.Off is h steps calls images = tt
          by (reading.Place t) is h steps calls images =
              let o = place_read c d t rest is in
              let after = nil_right (reading_faults c p d loose (given_names (call_arguments rest)) (reading.Place t)) _ h in
              subst (λ e. Within y (typed_steps s (object_type e) rest)) (sym o.1) (steps o.0.of (subst (λ e. behind c (way_of c.known d e) rest ≡ []) o.1 after))
          by (reading.Value t v) is h steps calls images = loosened y loose (value_of_type t v) (value_within y t v)
          by (reading.Call f) is h steps calls images =
              let found = call_read c d f rest is in
              let here = nil_left (reading_faults c p d loose (given_names (call_arguments rest)) (reading.Call f)) _ h in
              let more = nil_right (demand 8 p (not c.starts)) _ here in
              let fit = holds 3 p (associates (formal_names (profile_of (entry_of c.known f))) (given_names (call_arguments rest)))
              (nil_right (traversal_faults loose (is_traversal c.known (profile_of (entry_of c.known f))) p) _ more) in
              let after = nil_right (reading_faults c p d loose (given_names (call_arguments rest)) (reading.Call f)) _ h in
              let way_is : way_of c.known d (entry_of c.known d) ≡ way.Giving (role.Actuals f) =
              function_way c.known d found.1 (entry_of c.known d) found.2 ∙ ap (λ z. way.Giving (role.Actuals z)) (sym found.0) in
              let result_is : (profile_of (entry_of c.known f)).result ≡ Some found.1 = subst (λ z. (profile_of (entry_of c.known z)).result ≡ Some found.1) (sym found.0) found.2 in
              let entry_is = function_entry c.known f found.1 result_is in
              let of = profiled f entry_is.0 entry_is.1 in
              let call = calls f of (ap is_some result_is) (subst (λ z. behind c z rest ≡ []) way_is after) fit in
              let free = nil_left (traversal_faults loose (is_traversal c.known (profile_of (entry_of c.known f))) p) _ more in
              (call.0, call.1, no_view loose f p of free, call.2)
          by (reading.Image t) is h steps calls images =
              images t (image_read c d t rest is) (nil_right (reading_faults c p d loose (given_names (call_arguments rest)) (reading.Image t)) _ h)
          by reading.EndOfFile is h steps calls images = tt
      within_as (Parens p e) loose want meant m none = tightened y (typed_expression s want e) (within_as e false want meant m (nil_right (around_parens c p want e) _ none))
      within_as (Unary p op e) loose want meant m none =
          loosened y loose (if is_alone op e then typed.Number (negsuc 2147483647) else typed.Unary op (typed_expression s (unary_type op) e))
          (by (is_alone op e) none (λ h. tightened y (typed_expression s (unary_type op) e) (within_as e false (unary_type op) meant (unary_made op) h)))
        where
          by : (b : Bool) → (if b then [] else around c stands.Elsewhere (unary_type op) e ++ inside c false (unary_type op) e) ≡ []
              → (inside c false (unary_type op) e ≡ [] → Within y (typed_expression s (unary_type op) e))
              → Within y (if b then typed.Number (negsuc 2147483647) else typed.Unary op (typed_expression s (unary_type op) e))
          by true h on = tt
          by false h on = on (nil_right (around c stands.Elsewhere (unary_type op) e) _ h)
      within_as (Binary p op a b) loose want meant m none =
          let parts = nil_right (around_operands c p op a b) _ none in
          let left = tightened y (typed_expression s (operand_type op) a) (within_as a false (operand_type op) meant.0 (operand_made op) (nil_left (inside c false (operand_type op) a) _ parts)) in
          let right = tightened y (typed_expression s (operand_type op) b) (within_as b false (operand_type op) meant.1 (operand_made op) (nil_right (inside c false (operand_type op) a) _ parts)) in
          loosened y loose (operands op (position a) (position b) (is_null a) (is_null b) (typed_expression s (operand_type op) a) (typed_expression s (operand_type op) b))
          (by (operator_gives op) refl left right)
        where
          by : (o : Own) → operator_gives op ≡ o → Within y (typed_expression s (operand_type op) a) → Within y (typed_expression s (operand_type op) b)
              → Within y (operands op (position a) (position b) (is_null a) (is_null b) (typed_expression s (operand_type op) a) (typed_expression s (operand_type op) b))
          by (own.Of t) is l r =
              operands_within y op (position a) (position b) (is_null a) (is_null b) (typed_expression s (operand_type op) a) (typed_expression s (operand_type op) b) l r t
              ((fine s objects subs made laws (Binary p op a b) meant).by_own want t is none).1
          by own.Text is l r =
              subst (λ o. Within y (operands o (position a) (position b) (is_null a) (is_null b) (typed_expression s (operand_type op) a) (typed_expression s (operand_type op) b)))
              (sym (join_only op is)) (joined_within y (position a) (position b) (is_null a) (is_null b) (typed_expression s (operand_type op) a) (typed_expression s (operand_type op) b) l r)
          by own.Unknown is l r = absurd (gives_known op is)
          by own.Demanding is l r = absurd (gives_demanding op is)
      within_as (Aggregate p args) loose want meant m none =
          let known = laws.certain want m in
          let role_is : parts_role c want ≡ role.Parts want = ap (λ b. if b then role.Every want else role.Parts want) known in
          arranged_within y (role_names c (role.Parts want)) (given_names args) (typed_values s (role.Parts want) 0 args)
          (values_within args (role.Parts want) 0 meant (λ i w. part_made want m i w)
          (subst (λ z. arguments c z 0 args ≡ []) role_is (nil_right (demand 4 p (aggregates c want (given_names args))) _ none)))
      within_as (Others p e) loose want meant m none =
          let known = laws.certain want m in
          let part_is : repeated_type c want ≡ element_type (seen c want) = ap (λ b. if b then want else element_type (seen c want)) known in
          let more = subst (λ z. around c stands.AfterOthers z e ++ inside c false z e ≡ []) part_is (nil_right (demand 4 p (repeats c want)) _ none) in
          tightened y (typed_expression s (element_type (seen c want)) e)
          (within_as e false (element_type (seen c want)) meant (element_made want m) (nil_right (around c stands.AfterOthers (element_type (seen c want)) e) _ more))
      within_as (New p k v) loose want meant m none =
          let t = marked c.known k in
          let mt = allocated_made k (nil_left (mark_faults c.known k) _ none) in
          listed_within y (typed_values s (role.Allocated t) 0 v) (values_within v (role.Allocated t) 0 meant.1 (λ i w. mt) (nil_right (mark_faults c.known k) _ none))
      within_as e loose want meant m none = absurd meant

      -- The values of arguments.
      values_within : (args : Tree) (for : Role) (i : ℕ) → AreArguments s y args → RoleMade for → arguments c for i args ≡ [] → AllWithin y (typed_values s for i args)
      values_within (Argument w e rest) for i meant types none =
          let more = nil_right (around_role c for i w e) _ none in (
            tightened y (typed_expression s (role_type c for i w) e)
                (within_as e false (role_type c for i w) meant.0 (types i w)
                (role_tight for i w e (nil_left (around_role c for i w e) _ none) (nil_left (inside c (is_loose c for i w) (role_type c for i w) e) _ more))),
            values_within rest for (i + 1) meant.1 types (nil_right (inside c (is_loose c for i w) (role_type c for i w) e) _ more),
          )
      values_within args for i meant types none = tt

      -- The one argument of an index.
      first_within : (args : Tree) → AreArguments s y args → arguments c (role.Every integer) 0 args ≡ [] → Within y (typed_first s integer args)
      first_within (Argument w e rest) meant none =
          tightened y (typed_expression s integer e)
          (within_as e false integer meant.0 laws.integers (nil_left (inside c false integer e) _ (nil_right (around_role c (role.Every integer) 0 w e) _ none)))
      first_within args meant none = tt

      steps_within : (rest : Tree) (t : ℕ) → AreSuffixes s y rest → behind c (way.Along t) rest ≡ [] → Within y (typed_steps s t rest)
      steps_within (More a rest) t meant none =
          step_within a t (typed_steps s (next_type (step c a t)) rest) meant.0 (nil_left (within_suffix c (way.Along t) a) _ none)
          (steps_within rest (next_type (step c a t)) meant.1 (nil_right (within_suffix c (way.Along t) a) _ none))
      steps_within rest t meant none = tt

      step_within : (a : Tree) (t : ℕ) (after : TypedTree) → IsSuffix s y a → within_suffix c (way.Along t) a ≡ [] → Within y after → Within y (typed_step s t a after)
      step_within (Selected w) t after meant none h =
          designating_within y (seen c t) (typed.Component (component_number w (fields table (through (seen c t) t))) after) h
      step_within All t after meant none h = h
      step_within (Applied args) t after meant none h =
          designating_within y (seen c t) (element (seen c (through (seen c t) t)) (typed_first s integer args) after)
          (element_within y (seen c (through (seen c t) t)) (typed_first s integer args) after (first_within args meant none) h)
      step_within a t after meant none h = h

      -- The actuals of a call.
      pub actuals_within : (given : Bool) (f : ℕ) (rest : Tree) → IsProfiled s.context.known s.bodies y made f → is_some (profile_of (entry_of c.known f)).result ≡ given
          → AreSuffixes s y rest → behind c (way.Giving (role.Actuals f)) rest ≡ []
          → associates (formal_names (profile_of (entry_of c.known f))) (given_names (call_arguments rest)) ≡ true
          → IsCall y given (sub_number s f) (typed_actuals s f rest) × ArePassed y (sub_number s f) (typed_actuals s f rest) × Within y (typed_actuals s f rest)
      actuals_within given f (More (Applied args) rest) of gives meant none fit =
          let here = nil_left (arguments c (role.Actuals f) 0 args) _ none in
          let call = call_given s objects subs made laws f of given gives args meant.0 here fit in (
            call.0,
            call.1,
            arranged_within y (role_names c (role.Actuals f)) (given_names args) (typed_values s (role.Actuals f) 0 args)
                (values_within args (role.Actuals f) 0 meant.0 (actuals_made f of) here),
          )
      actuals_within given f rest of gives meant none fit =
          (let call = call_given s objects subs made laws f of given gives NoMore tt refl fit in (call.0, call.1, tt))

      imaged_within : (d t : ℕ) (rest : Tree) → IsImage c d t (entry_of c.known d) rest → AreSuffixes s y rest → behind c (way_of c.known d (entry_of c.known d)) rest ≡ []
          → Within y (typed_imaged s rest)
      imaged_within d t (More a (More (Applied (Argument w e more)) rest)) is meant none =
          let b = base table d in
          let kept : behind c (way.Giving (role.Every b)) (More a (More (Applied (Argument w e more)) rest)) ≡ [] =
          subst (λ z. behind c z (More a (More (Applied (Argument w e more)) rest)) ≡ []) (ap (way_of c.known d) is.4) none in
          let after = nil_right (within_suffix c (way.Giving (role.Every b)) a) _ kept in
          let own = nil_left (arguments c (role.Every b) 0 (Argument w e more)) _ after in
          let around_none = nil_left (around c stands.Elsewhere b e) _ own in
          let inner = nil_left (inside c false b e) _ (nil_right (around c stands.Elsewhere b e) _ own) in
          let m = laws.typed d is.4 in
          subst (Within y) (imaged_same d e meant.1.0.0 m is.6 around_none inner)
          (tightened y (typed_expression s b e) (within_as e false b meant.1.0.0 (laws.based d m) inner))
      imaged_within d t rest is meant none = tt

    -- The law.
    pub within : (e : Tree) (want : ℕ) → IsMeant s y e → made want → inside c false want e ≡ [] → Within y (typed_expression s want e)
    within e want meant m none = tightened y (typed_expression s want e) (within_as e false want meant m none)

    -- A source that may be what a traversal function gives, where it's for an anonymous access type.
    pub source_within : (e : Tree) (loose : Bool) (want : ℕ) → IsMeant s y e → made want → (loose ≡ true → flow.is_anonymous (full table want) ≡ true)
        → inside c loose want e ≡ [] → WithinSource y want (typed_expression s want e)
    source_within e loose want meant m view none = sourced y want loose (typed_expression s want e) view (within_as e loose want meant m none)
