-- Types that agree, and expressions that have one of them.
use Rattle.std.proofs.Common.{slice_get, ◌≡◌, refl, sym, ap, ◌∙◌, subst, inl, inr, ℕ, Bool, true, false, not, ◌&&◌, ◌||◌, List, [], ◌∷◌, ◌++◌, ℤ, Some, None, if◌then◌else◌}
use Rattle.std.proofs.lemmas.Bool.{false≢true, true≢false}
use Rattle.machine.specs.spark_base.declared.position.Pos.{Pos}
use Rattle.machine.specs.type_definitions.declared.table.Shape.{Shape}
use Rattle.machine.specs.type_definitions.declared.table.Shape.TheVariants as shape
use Rattle.machine.specs.type_definitions.declared.judgement.Fault.{Fault}
use Rattle.machine.specs.type_definitions.Types.{Table, meant_type, shape_found, shape_of, is_owning, owns_of}
use Rattle.machine.specs.type_definitions.Faults.{demand}
use Rattle.machine.specs.type_definitions.Expressions.{unary_type}
use Rattle.machine.specs.type_definitions.Statics.{as_integer}
use Rattle.machine.specs.typed_tree.Trees.{TypedTree}
use Rattle.machine.specs.typed_tree.Trees as typed
use Rattle.machine.specs.typed_tree.Expressions.{within_integer}
use Rattle.machine.specs.flow_paths.Objects.{Typing}
use Rattle.run_values.specs.Arithmetic.{is_integer}
use Rattle.machine.specs.Typed.{same_kind}
use Rattle.soundness.specs.TypedLaws.Fine.{Agree, counts, lists, Has, operator_type}

-- ---- numbers

-- what stands for a number is a value of Integer
pub whole_number : (v : ℤ) → is_integer (within_integer (as_integer v)) ≡ true
whole_number v = by (is_integer v) refl
  where
    by : (b : Bool) → is_integer v ≡ b → is_integer (within_integer (if b then Some v else None)) ≡ true
    by true e = e
    by false e = refl

-- ---- lists of faults

-- Whether there are none.
abbrev pub is_free : List Fault → Bool
is_free [] = true
is_free (f ∷ fs) = false

-- what holds where a type isn't known, or else
pub of_known : (b a : Bool) → b ≡ false → b || a ≡ true → a ≡ true
of_known false a is e = e
of_known true a is e = absurd (true≢false is)

pub nil_left : (a b : List Fault) → a ++ b ≡ [] → a ≡ []
nil_left [] b e = refl
nil_left (x ∷ a) b e = cc

pub nil_right : (a b : List Fault) → a ++ b ≡ [] → b ≡ []
nil_right [] b e = e
nil_right (x ∷ a) b e = cc

pub holds : (n : ℕ) (p : Pos) (b : Bool) → demand n p b ≡ [] → b ≡ true
holds n p true e = refl
holds n p false e = cc

pub and_left : (a b : Bool) → a && b ≡ true → a ≡ true
and_left true b e = refl
and_left false b e = e

pub and_right : (a b : Bool) → a && b ≡ true → b ≡ true
and_right true b e = e
and_right false b e = absurd (false≢true e)

pub either_left : (a b : Bool) → a ≡ true → a || b ≡ true
either_left true b e = refl
either_left false b e = absurd (false≢true e)

pub either_right : (a b : Bool) → b ≡ true → a || b ≡ true
either_right true b e = refl
either_right false b e = e

pub not_true : (b : Bool) → not b ≡ true → b ≡ false
not_true true e = absurd (false≢true e)
not_true false e = refl

-- ---- types that agree

kind_trans : (a b c : Shape) → same_kind a b ≡ true → same_kind b c ≡ true → same_kind a c ≡ true
kind_trans (shape.Whole u v) (shape.Whole w x) (shape.Whole y z) e f = refl
kind_trans (shape.Listed k u v) (shape.Listed l w x) (shape.Listed m y z) e f = refl
kind_trans (shape.Whole u v) (shape.Whole w x) (shape.Listed m y z) e f = absurd (false≢true f)
kind_trans (shape.Whole u v) (shape.Whole w x) (shape.Access d k n) e f = absurd (false≢true f)
kind_trans (shape.Whole u v) (shape.Whole w x) (shape.Fields cs) e f = absurd (false≢true f)
kind_trans (shape.Whole u v) (shape.Whole w x) (shape.Elements y z el) e f = absurd (false≢true f)
kind_trans (shape.Whole u v) (shape.Whole w x) (shape.Same of) e f = absurd (false≢true f)
kind_trans (shape.Listed k u v) (shape.Listed l w x) (shape.Whole y z) e f = absurd (false≢true f)
kind_trans (shape.Listed k u v) (shape.Listed l w x) (shape.Access d m n) e f = absurd (false≢true f)
kind_trans (shape.Listed k u v) (shape.Listed l w x) (shape.Fields cs) e f = absurd (false≢true f)
kind_trans (shape.Listed k u v) (shape.Listed l w x) (shape.Elements y z el) e f = absurd (false≢true f)
kind_trans (shape.Listed k u v) (shape.Listed l w x) (shape.Same of) e f = absurd (false≢true f)
kind_trans (shape.Whole u v) (shape.Listed l w x) c e f = absurd (false≢true e)
kind_trans (shape.Whole u v) (shape.Access d k n) c e f = absurd (false≢true e)
kind_trans (shape.Whole u v) (shape.Fields cs) c e f = absurd (false≢true e)
kind_trans (shape.Whole u v) (shape.Elements y z el) c e f = absurd (false≢true e)
kind_trans (shape.Whole u v) (shape.Same of) c e f = absurd (false≢true e)
kind_trans (shape.Listed k u v) (shape.Whole l w) c e f = absurd (false≢true e)
kind_trans (shape.Listed k u v) (shape.Access d m n) c e f = absurd (false≢true e)
kind_trans (shape.Listed k u v) (shape.Fields cs) c e f = absurd (false≢true e)
kind_trans (shape.Listed k u v) (shape.Elements y z el) c e f = absurd (false≢true e)
kind_trans (shape.Listed k u v) (shape.Same of) c e f = absurd (false≢true e)
kind_trans (shape.Access d k n) b c e f = absurd (false≢true e)
kind_trans (shape.Fields cs) b c e f = absurd (false≢true e)
kind_trans (shape.Elements y z el) b c e f = absurd (false≢true e)
kind_trans (shape.Same of) b c e f = absurd (false≢true e)

-- one type has one definition
pub one_shape : (table : Table) (t u : ℕ) → meant_type table t ≡ meant_type table u → shape_of table t ≡ shape_of table u
one_shape table t u e = ap (λ z. shape_found (slice_get table z)) e

pub agree_trans : (table : Table) (t u v : ℕ) → Agree table t u → Agree table u v → Agree table t v
agree_trans table t u v (inl e) (inl f) = inl (e ∙ f)
agree_trans table t u v (inl e) (inr f) = inr (subst (λ z. same_kind z (shape_of table v) ≡ true) (sym (one_shape table t u e)) f)
agree_trans table t u v (inr e) (inl f) = inr (subst (λ z. same_kind (shape_of table t) z ≡ true) (one_shape table u v f) e)
agree_trans table t u v (inr e) (inr f) = inr (kind_trans (shape_of table t) (shape_of table u) (shape_of table v) e f)

kind_owns : (f : ℕ → Bool) (a b : Shape) → same_kind a b ≡ true → owns_of f a ≡ owns_of f b
kind_owns f (shape.Whole u v) (shape.Whole w x) e = refl
kind_owns f (shape.Listed k u v) (shape.Listed l w x) e = refl
kind_owns f (shape.Whole u v) (shape.Listed l w x) e = absurd (false≢true e)
kind_owns f (shape.Whole u v) (shape.Access d k n) e = absurd (false≢true e)
kind_owns f (shape.Whole u v) (shape.Fields cs) e = absurd (false≢true e)
kind_owns f (shape.Whole u v) (shape.Elements y z el) e = absurd (false≢true e)
kind_owns f (shape.Whole u v) (shape.Same of) e = absurd (false≢true e)
kind_owns f (shape.Listed k u v) (shape.Whole l w) e = absurd (false≢true e)
kind_owns f (shape.Listed k u v) (shape.Access d m n) e = absurd (false≢true e)
kind_owns f (shape.Listed k u v) (shape.Fields cs) e = absurd (false≢true e)
kind_owns f (shape.Listed k u v) (shape.Elements y z el) e = absurd (false≢true e)
kind_owns f (shape.Listed k u v) (shape.Same of) e = absurd (false≢true e)
kind_owns f (shape.Access d k n) b e = absurd (false≢true e)
kind_owns f (shape.Fields cs) b e = absurd (false≢true e)
kind_owns f (shape.Elements y z el) b e = absurd (false≢true e)
kind_owns f (shape.Same of) b e = absurd (false≢true e)

kind_counts : (a b : Shape) → same_kind a b ≡ true → (counts a ≡ counts b) × (lists a ≡ lists b)
kind_counts (shape.Whole u v) (shape.Whole w x) e = (refl, refl)
kind_counts (shape.Listed k u v) (shape.Listed l w x) e = (refl, refl)
kind_counts (shape.Whole u v) (shape.Listed l w x) e = absurd (false≢true e)
kind_counts (shape.Whole u v) (shape.Access d k n) e = absurd (false≢true e)
kind_counts (shape.Whole u v) (shape.Fields cs) e = absurd (false≢true e)
kind_counts (shape.Whole u v) (shape.Elements y z el) e = absurd (false≢true e)
kind_counts (shape.Whole u v) (shape.Same of) e = absurd (false≢true e)
kind_counts (shape.Listed k u v) (shape.Whole l w) e = absurd (false≢true e)
kind_counts (shape.Listed k u v) (shape.Access d m n) e = absurd (false≢true e)
kind_counts (shape.Listed k u v) (shape.Fields cs) e = absurd (false≢true e)
kind_counts (shape.Listed k u v) (shape.Elements y z el) e = absurd (false≢true e)
kind_counts (shape.Listed k u v) (shape.Same of) e = absurd (false≢true e)
kind_counts (shape.Access d k n) b e = absurd (false≢true e)
kind_counts (shape.Fields cs) b e = absurd (false≢true e)
kind_counts (shape.Elements y z el) b e = absurd (false≢true e)
kind_counts (shape.Same of) b e = absurd (false≢true e)

kind_access : (a b : Shape) (d : ℕ) (k n : Bool) → a ≡ shape.Access d k n → same_kind a b ≡ true → ⊥
kind_access a b d k n e f = absurd (false≢true (subst (λ z. same_kind z b ≡ true) e f))

pub agree_counts : (table : Table) (t u : ℕ) → Agree table t u → counts (shape_of table t) ≡ true → counts (shape_of table u) ≡ true
agree_counts table t u (inl e) h = subst (λ z. counts z ≡ true) (one_shape table t u e) h
agree_counts table t u (inr e) h = sym (kind_counts (shape_of table t) (shape_of table u) e).0 ∙ h

pub agree_lists : (table : Table) (t u : ℕ) → Agree table t u → lists (shape_of table t) ≡ true → lists (shape_of table u) ≡ true
agree_lists table t u (inl e) h = subst (λ z. lists z ≡ true) (one_shape table t u e) h
agree_lists table t u (inr e) h = sym (kind_counts (shape_of table t) (shape_of table u) e).1 ∙ h

pub agree_access : (table : Table) (t u d : ℕ) (k n : Bool) → Agree table t u → shape_of table t ≡ shape.Access d k n → shape_of table u ≡ shape.Access d k n
agree_access table t u d k n (inl e) h = sym (one_shape table t u e) ∙ h
agree_access table t u d k n (inr e) h = absurd (kind_access (shape_of table t) (shape_of table u) d k n h e)

-- Whether a type owns goes by its definition.
abbrev pub Owns : Table → Type 0
Owns table = (t : ℕ) → is_owning table t ≡ owns_of (is_owning table) (shape_of table t)

pub agree_owns : (table : Table) (t u : ℕ) → Owns table → Agree table t u → is_owning table t ≡ is_owning table u
agree_owns table t u law (inl e) = law t ∙ ap (owns_of (is_owning table)) (one_shape table t u e) ∙ sym (law u)
agree_owns table t u law (inr e) = law t ∙ kind_owns (is_owning table) (shape_of table t) (shape_of table u) e ∙ sym (law u)

counted_owns : (f : ℕ → Bool) (a : Shape) → counts a || lists a ≡ true → owns_of f a ≡ false
counted_owns f (shape.Whole u v) e = refl
counted_owns f (shape.Listed k u v) e = refl
counted_owns f (shape.Access d k n) e = absurd (false≢true e)
counted_owns f (shape.Fields cs) e = absurd (false≢true e)
counted_owns f (shape.Elements y z el) e = absurd (false≢true e)
counted_owns f (shape.Same of) e = absurd (false≢true e)

pub scalar_owns : (table : Table) (t : ℕ) → Owns table → counts (shape_of table t) || lists (shape_of table t) ≡ true → is_owning table t ≡ false
scalar_owns table t law e = law t ∙ counted_owns (is_owning table) (shape_of table t) e

-- ---- an expression of a type has each type that agrees with it

pub retyped : (y : Typing) → Owns y.table → (e : TypedTree) (t u : ℕ) → Agree y.table t u → Has y t e → Has y u e
unfolding Has
retyped y law (typed.Number v) t u agree h = (agree_counts y.table t u agree h.0, h.1)
retyped y law (typed.Literal v) t u agree h = agree_lists y.table t u agree h
retyped y law typed.EndOfFile t u agree h = agree_lists y.table t u agree h
retyped y law typed.Null t u agree h = (h.0, h.1, h.2, agree_access y.table t u h.0 h.1 h.2 agree h.3)
retyped y law (typed.Name p x steps of) t u agree h = (h.0, agree_trans y.table of t u h.1 agree)
retyped y law (typed.Call p sub actuals) t u agree h = (h.0, h.1, agree_trans y.table h.0 t u h.2 agree)
retyped y law (typed.Parens e) t u agree h = (sym (agree_owns y.table t u law agree) ∙ h.0, retyped y law e t u agree h.1)
retyped y law (typed.Unary op e) t u agree h = (agree_trans y.table (unary_type op) t u h.0 agree, h.1)
retyped y law (typed.Binary op a b) t u agree h = (h.0, agree_trans y.table (operator_type op) t u h.1 agree, h.2, h.3, h.4, h.5, h.6)
retyped y law (typed.Short op p a q b) t u agree h = (agree_trans y.table 3 t u h.0 agree, h.1, h.2)
retyped y law (typed.IsNull equal e) t u agree h = (agree_trans y.table 3 t u h.0 agree, h.1)
retyped y law (typed.Aggregate of es) t u agree h = (agree_trans y.table of t u h.0 agree, h.1, h.2, h.3)
retyped y law (typed.Alike of e) t u agree h = (agree_trans y.table of t u h.0 agree, h.1, h.2, h.3, h.4, h.5, h.6)
retyped y law (typed.New of v) t u agree h = (h.0, h.1, h.2, agree_access y.table t u h.0 h.1 h.2 agree h.3, h.4, h.5)
retyped y law (typed.Text b) t u agree h = absurd h
retyped y law (typed.Image of e) t u agree h = absurd h
retyped y law (typed.Component i rest) t u agree h = absurd h
retyped y law (typed.Designated rest) t u agree h = absurd h
retyped y law (typed.Element i low high rest) t u agree h = absurd h
retyped y law typed.NoMore t u agree h = absurd h
retyped y law (typed.More e rest) t u agree h = absurd h
