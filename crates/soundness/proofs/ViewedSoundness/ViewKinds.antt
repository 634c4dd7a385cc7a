-- What sees cells that it doesn't own, and what only sees: kinds of objects and of their types.
use Rattle.std.proofs.Common.{◌≡◌, refl, sym, ap, ◌∙◌, ℕ, Bool, true, false, not, ◌&&◌, ◌||◌, [], length}
use Rattle.std.specs.List.{list_any}
use Rattle.std.proofs.lemmas.Bool.{false≢true, true≢false}
use Rattle.machine.specs.place_names.Names.{Name as PlaceName}
use Rattle.machine.specs.type_definitions.declared.judgement.View.{View}
use Rattle.machine.specs.type_definitions.declared.judgement.View.TheVariants as view
use Rattle.machine.specs.type_definitions.declared.table.Shape.{Shape}
use Rattle.machine.specs.type_definitions.declared.table.Shape.TheVariants as shape
use Rattle.machine.specs.type_definitions.Types.{Table, is_nil, is_owning, shape_of, components_of, full, view_of as view_of_shape}
use Rattle.machine.specs.typed_tree.declared.object.ObjectKind.{ObjectKind}
use Rattle.machine.specs.typed_tree.declared.object.ObjectKind.TheVariants as object_kind
use Rattle.machine.specs.flow_paths.Objects.{Typing, object_at, is_formal, is_formal_kind, is_anonymous, is_borrowing, is_named_access, is_observing, is_observer, is_variable, view_of}
use Rattle.machine.specs.Words.{count_of}
use Rattle.machine.specs.Owners.{is_in_formal, is_in}
use Rattle.soundness.specs.Seen.{is_view_formal}
use Rattle.soundness.specs.ViewedSoundness.Holds.{IsNamed, is_view, is_access, is_bundle, IsAccess, is_given, is_of_procedure, is_exclusive, sees_only, Seeing, is_fixed}

pub true_false : (b : Bool) → b ≡ true → b ≡ false → ⊥
true_false b e f = cc

pub either : (a b : Bool) → a || b ≡ true → b ≡ false → a ≡ true
either true b e f = refl
either false b e f = absurd (true_false b e f)

pub neither : (a b : Bool) → a || b ≡ false → (a ≡ false) × (b ≡ false)
neither true b e = absurd (true≢false e)
neither false b e = (refl, e)

pub either_true : (a b : Bool) → b ≡ true → a || b ≡ true
either_true true b e = refl
either_true false b e = e

pub both_no : (a b : Bool) → a ≡ false → b ≡ false → a || b ≡ false
both_no a b e f = ap (λ z. z || b) e ∙ f

named_of : (c n : Bool) → (not n && not c) || (not n && c) ≡ false → n ≡ true
named_of c true e = refl
named_of true false e = absurd (true≢false e)
named_of false false e = absurd (true≢false e)

pub plain_named : (table : Table) (t : ℕ) → is_anonymous (full table t) ≡ false → IsNamed table t
plain_named table t plain d c n is = named_of c n (sym (ap (λ z. is_anonymous (view_of_shape z)) is) ∙ plain)

pub view_access : (sh : Shape) → is_anonymous (view_of_shape sh) ≡ true → (components_of sh ≡ []) × (count_of sh ≡ 0)
view_access (shape.Whole a b) e = (refl, refl)
view_access (shape.Listed l a b) e = (refl, refl)
view_access (shape.Access d c n) e = (refl, refl)
view_access (shape.Fields cs) e = absurd (false≢true e)
view_access (shape.Elements a b el) e = absurd (false≢true e)
view_access (shape.Same of) e = absurd (false≢true e)

clash : (c n : Bool) → (not n && not c) || (not n && c) ≡ true → n ≡ true → ⊥
clash c true e is = absurd (false≢true e)
clash c false e is = absurd (false≢true is)

view_unnamed : (sh : Shape) → is_anonymous (view_of_shape sh) ≡ true → ((d : ℕ) (c n : Bool) → sh ≡ shape.Access d c n → n ≡ true) → ⊥
view_unnamed (shape.Access d c n) e named = let is = named d c n refl in clash c n e is
view_unnamed (shape.Whole a b) e named = false≢true e
view_unnamed (shape.Listed l a b) e named = false≢true e
view_unnamed (shape.Fields cs) e named = false≢true e
view_unnamed (shape.Elements a b el) e named = false≢true e
view_unnamed (shape.Same of) e named = false≢true e

-- the type of a view is anonymous
pub not_view : (table : Table) (t : ℕ) → is_anonymous (full table t) ≡ true → IsNamed table t → ⊥
not_view table t view named = view_unnamed (shape_of table t) view named

-- an access type has no components and no elements
pub no_parts_in : (sh : Shape) → (d : ℕ) × (c : Bool) × (n : Bool) × (sh ≡ shape.Access d c n) → (length (components_of sh) ≡ 0) × (count_of sh ≡ 0)
no_parts_in sh (d, c, n, is) = (ap (λ z. length (components_of z)) is, ap count_of is)

no_and : (b c : Bool) → c ≡ false → b && c ≡ false
no_and true c e = e
no_and false c e = refl

and_true : (a b : Bool) → a && b ≡ true → (a ≡ true) × (b ≡ true)
and_true true b e = (refl, e)
and_true false b e = absurd (false≢true e)

pub given_view : (s : Typing) (x : ℕ) → is_given s x ≡ true → is_view s x ≡ true
given_view s x given = by (is_view_formal s x) (is_in_formal s x) (is_anonymous (view_of s x)) given
  where
    by : (f i a : Bool) → f || (i && a) ≡ true → a || f ≡ true
    by f i true e = refl
    by true i false e = refl
    by false true false e = absurd (false≢true e)
    by false false false e = absurd (false≢true e)

pub bundle_formal : (s : Typing) (x : ℕ) → is_bundle s x ≡ true → is_view_formal s x ≡ true
bundle_formal s x bundle = (and_true (is_view_formal s x) (not (is_access (view_of s x))) bundle).0

pub bundle_view : (s : Typing) (x : ℕ) → is_bundle s x ≡ true → is_view s x ≡ true
bundle_view s x bundle = either_true (is_anonymous (view_of s x)) (is_view_formal s x) (bundle_formal s x bundle)

-- a bundle is of no access type
pub bundle_access : (s : Typing) (x d : ℕ) (c n : Bool) → is_bundle s x ≡ true → shape_of s.table (object_at s x).of ≡ shape.Access d c n → ⊥
bundle_access s x d c n bundle is =
    let none = (and_true (is_view_formal s x) (not (is_access (view_of s x))) bundle).1 in
    let no : not (is_access (view_of_shape (shape.Access d c n))) ≡ true = ap (λ z. not (is_access (view_of_shape z))) (sym is) ∙ none in false≢true no

pub bundle_named : (s : Typing) (x : ℕ) → is_bundle s x ≡ true → IsNamed s.table (object_at s x).of
bundle_named s x bundle d c n is = absurd (bundle_access s x d c n bundle is)

pub own_bundle : (s : Typing) (x : ℕ) → is_view_formal s x ≡ false → is_bundle s x ≡ false
own_bundle s x own = ap (λ b. b && not (is_access (view_of s x))) own

pub access_bundle : (s : Typing) (x : ℕ) → IsAccess s x → is_bundle s x ≡ false
access_bundle s x (d, c, n, is) = by_kind (is_bundle s x) refl
  where
    by_kind : (b : Bool) → is_bundle s x ≡ b → is_bundle s x ≡ false
    by_kind false e = e
    by_kind true e = absurd (bundle_access s x d c n e is)

pub anonymous_bundle : (s : Typing) (x : ℕ) → is_anonymous (view_of s x) ≡ true → is_bundle s x ≡ false
anonymous_bundle s x view = by_kind (is_bundle s x) refl
  where
    by_kind : (b : Bool) → is_bundle s x ≡ b → is_bundle s x ≡ false
    by_kind false e = e
    by_kind true e = absurd (not_view s.table (object_at s x).of view (bundle_named s x e))

-- nor is a variable
pub variable_given : (s : Typing) (x : ℕ) → is_formal s x ≡ false → is_given s x ≡ false
variable_given s x none = by (is_formal s x) (is_in (object_at s x).mode) (is_owning s.table (object_at s x).of) (is_anonymous (view_of s x)) none
  where
    by : (f i o a : Bool) → f ≡ false → ((f && i) && o) || ((f && i) && a) ≡ false
    by false i o a e = refl
    by true i o a e = absurd (true≢false e)

-- what isn't a view doesn't see another's cell
pub plain_sees : (s : Typing) (sees : ℕ → Bool) (seeing : Seeing s sees) (x : ℕ) → is_view s x ≡ false → sees x ≡ false
plain_sees s sees seeing x plain = by_kind (sees x) refl
  where
    by_kind : (b : Bool) → sees x ≡ b → sees x ≡ false
    by_kind false e = e
    by_kind true e = absurd (true_false (is_view s x) (seeing.views x e) plain)

pub owner_sees : (s : Typing) (sees : ℕ → Bool) (seeing : Seeing s sees) (x : ℕ) → is_anonymous (view_of s x) ≡ false → is_view_formal s x ≡ false → sees x ≡ false
owner_sees s sees seeing x own plain = plain_sees s sees seeing x (both_no (is_anonymous (view_of s x)) (is_view_formal s x) own plain)

-- what sees is a view
pub sees_view : (s : Typing) (sees : ℕ → Bool) (seeing : Seeing s sees) (x : ℕ) → sees x ≡ true → is_view s x ≡ true
sees_view s sees seeing x is = seeing.views x is

-- an observer sees, and what is neither one nor a formal doesn't
pub observer_sees : (s : Typing) (sees : ℕ → Bool) (seeing : Seeing s sees) (x : ℕ) → is_observer s x ≡ true → sees x ≡ true
observer_sees s sees seeing x is = seeing.observers x is

-- nothing is changed through a formal with parts, so it only sees
pub open_bundle : (s : Typing) (x : ℕ) → is_bundle s x ≡ true → is_exclusive s x ≡ false
open_bundle s x bundle = no_access (view_of s x) (list_any (is_of_procedure x) s.subs) (parts (is_view_formal s x) (not (is_access (view_of s x))) bundle)
  where
    no_access : (v : View) (any : Bool) → not (is_access v) ≡ true → is_named_access v && any ≡ false
    no_access (view.Access d c n) any none = absurd (false≢true none)
    no_access v any none = refl

    parts : (a b : Bool) → a && b ≡ true → b ≡ true
    parts true b e = e
    parts false b e = absurd (false≢true e)

pub bundle_sees : (s : Typing) (sees : ℕ → Bool) (seeing : Seeing s sees) (x : ℕ) → is_bundle s x ≡ true → sees x ≡ true
bundle_sees s sees seeing x bundle = by (sees x) refl
  where
    formal : (a b : Bool) → a && b ≡ true → a ≡ true
    formal true b e = refl
    formal false b e = absurd (false≢true e)

    by : (b : Bool) → sees x ≡ b → b ≡ true
    by true e = refl
    by false e =
        absurd (true_false (is_exclusive s x)
        (seeing.lends x (ap (λ b. b || (is_in_formal s x && is_anonymous (view_of s x))) (formal (is_view_formal s x) (not (is_access (view_of s x))) bundle)) e)
        (open_bundle s x bundle))

-- a formal that nothing is lent to sees
pub given_sees : (s : Typing) (sees : ℕ → Bool) (seeing : Seeing s sees) (x : ℕ) → is_given s x ≡ true → is_exclusive s x ≡ false → sees x ≡ true
given_sees s sees seeing x given none = by_kind (sees x) refl
  where
    by_kind : (b : Bool) → sees x ≡ b → sees x ≡ true
    by_kind true e = e
    by_kind false e = absurd (true_false (is_exclusive s x) (seeing.lends x given e) none)

-- a name that is changed isn't one through what only sees, nor a formal itself
pub free_sees : (s : Typing) (sees : ℕ → Bool) (n : PlaceName) → is_fixed s sees n ≡ false → sees n.root ≡ false
free_sees s sees n e = (neither (sees n.root) (is_given s n.root && is_nil n.sels) e).0

pub free_formal : (s : Typing) (sees : ℕ → Bool) (n : PlaceName) → is_fixed s sees n ≡ false → is_view_formal s n.root ≡ true → n.sels ≡ [] → ⊥
free_formal s sees n e formal none =
    true_false (is_given s n.root && is_nil n.sels) (ap (λ b. (b || (is_in_formal s n.root && is_anonymous (view_of s n.root))) && is_nil n.sels) formal ∙ ap is_nil none)
    (neither (sees n.root) (is_given s n.root && is_nil n.sels) e).1

-- so it is of observers and the formals that nothing is lent to
pub only_seeing : (s : Typing) → Seeing s (sees_only s)
only_seeing s = record {
  observers = λ x is. ap (λ b. b || (is_given s x && not (is_exclusive s x))) is;
  views = λ x is. seen_view x (is_observer s x) (is_given s x) refl refl is;
  lends = λ x given none. lent (is_observer s x) (is_given s x) (is_exclusive s x) given none;
  changes = λ x given exclusive. changed (is_observer s x) (is_given s x) (is_exclusive s x) (formal_observer x given) exclusive;
}
  where
    observed : (a b c f : Bool) → a && c ≡ true → (b || c) || f ≡ true
    observed true true c f is = refl
    observed true false true f is = refl
    observed true false false f is = absurd (false≢true is)
    observed false b c f is = absurd (false≢true is)

    seen_view : (x : ℕ) (o g : Bool) → is_observer s x ≡ o → is_given s x ≡ g → sees_only s x ≡ true → is_view s x ≡ true
    seen_view x true g is given any = observed (is_variable (object_at s x).kind) (is_borrowing (view_of s x)) (is_observing (view_of s x)) (is_view_formal s x) is
    seen_view x o true is given any = given_view s x given
    seen_view x false false is given any =
        absurd (true_false (sees_only s x) any (both_no (is_observer s x) (is_given s x && not (is_exclusive s x)) is (ap (λ b. b && not (is_exclusive s x)) given)))

    lent : (a b c : Bool) → b ≡ true → a || (b && not c) ≡ false → c ≡ true
    lent true b c is e = absurd (true≢false e)
    lent false true true is e = refl
    lent false true false is e = sym e
    lent false false c is e = absurd (false≢true is)

    changed : (a b c : Bool) → a ≡ false → c ≡ true → a || (b && not c) ≡ false
    changed true b c none is = none
    changed false true true none is = refl
    changed false true false none is = sym is
    changed false false c none is = refl

    given_formal : (f i o a : Bool) → ((f && i) && o) || ((f && i) && a) ≡ true → f ≡ true
    given_formal true i o a e = refl
    given_formal false i o a e = absurd (false≢true e)

    no_variable : (k : ObjectKind) → is_formal_kind k ≡ true → is_variable k ≡ false
    no_variable object_kind.Formal is = refl
    no_variable k is = absurd (false≢true is)

    formal_observer : (x : ℕ) → is_given s x ≡ true → is_observer s x ≡ false
    formal_observer x given =
        ap (λ b. b && is_observing (view_of s x))
        (no_variable (object_at s x).kind (given_formal (is_formal s x) (is_in (object_at s x).mode) (is_owning s.table (object_at s x).of) (is_anonymous (view_of s x)) given))
