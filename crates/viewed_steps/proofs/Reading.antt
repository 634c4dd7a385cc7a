-- The acts of reading what is passed for formals of mode `in`.
use Rattle.std.proofs.Common.{◌≡◌, refl, sym, ap, ◌∙◌, subst, inl, inr, ℕ, Bool, true, false, List, [], ◌∷◌, ◌++◌, Option, Some, None, if◌then◌else◌}
use Rattle.machine.specs.spark_base.Lists.{Has}
use Rattle.soundness.proofs.Lists.{Has-append_cases}
use Rattle.machine.specs.place_names.declared.act.Act.{Act}
use Rattle.machine.specs.place_names.declared.act.Act.TheVariants as act
use Rattle.machine.specs.place_names.declared.act.Placed.{Placed}
use Rattle.machine.specs.place_names.Names.{Name as PlaceName}
use Rattle.machine.specs.place_names.Facts.{adds}
use Rattle.machine.specs.type_definitions.Types.{full, is_scalar, is_owning, parts, owns_of}
use Rattle.machine.specs.typed_tree.Trees.{TypedTree, Number, Literal, Text, Name, Component as IntoComponent, Designated, Element, Call, EndOfFile, Parens, Image, Unary, Binary, Short, IsNull, Aggregate, Alike, New, NoMore, More}
use Rattle.machine.specs.typed_tree.Trees as typed
use Rattle.machine.specs.flow_paths.Objects.{Typing, object_at}
use Rattle.machine.specs.flow_paths.Names.{Written, has_call, name_of}
use Rattle.machine.specs.flow_paths.Acts.{placed, naming, used, acts_in, index_acts}
use Rattle.soundness.specs.Typed.{Matches, OwnsByShape}
use Rattle.soundness.specs.TypedLaws.Needed.{Stays, Leads, IsPlace as IsPlaceOf}
use Rattle.soundness.proofs.Passing.{IsRead, AreReads, AddNone, plain_type}

-- ---- acts that read

pub no_reads : AreReads []
no_reads p has = absurd has

pub one_read : (p : Placed) → IsRead p → AreReads (p ∷ [])
one_read p read q (inl e) = subst IsRead e read
one_read p read q (inr never) = absurd never

pub both_reads : (ps qs : List Placed) → AreReads ps → AreReads qs → AreReads (ps ++ qs)
both_reads ps qs h g p has = elim (Has-append_cases ps qs p has) [ inl l ↦ h p l | inr r ↦ g p r ]

pub if_reads : (b : Bool) (ps : List Placed) → AreReads ps → AreReads (if b then [] else ps)
if_reads true ps h = no_reads
if_reads false ps h = h

pub naming_adds : (w : Option Written) (act_of : PlaceName → Act) → ((m : PlaceName) → adds (act_of m) ≡ []) → AddNone (naming w act_of)
naming_adds None act_of none p has f new = has
naming_adds (Some w) act_of none p (inl e) f new = subst (λ z. Has z f) (ap (λ (z : Placed). adds z.act) (sym e) ∙ none w.name) new
naming_adds (Some w) act_of none p (inr never) f new = never

module _ (s : Typing) (own_law : OwnsByShape s.table) where
  pub used_read : (m : PlaceName) (t : ℕ) → is_scalar (full s.table t) ≡ true → used s m t ≡ act.Read m
  used_read m t e = ap (λ b. if b then act.Move m (parts s.table t) else act.Read m) (plain_type s own_law t e)

  -- a type that matches one that owns nothing owns nothing
  pub unowned : (t u : ℕ) → Matches s.table t u → is_owning s.table u ≡ false → is_owning s.table t ≡ false
  unowned t u (inl e) none = own_law t ∙ ap (owns_of (is_owning s.table)) e ∙ sym (own_law u) ∙ none
  unowned t u (inr both) none = plain_type s own_law t both.0

  pub unowned_read : (m : PlaceName) (t u : ℕ) → Matches s.table t u → is_owning s.table u ≡ false → used s m t ≡ act.Read m
  unowned_read m t u fits none = ap (λ b. if b then act.Move m (parts s.table t) else act.Read m) (unowned t u fits none)

  mutual
    unfolding Stays Leads acts_in

    pub reads_in : (e : TypedTree) → Stays s e → AreReads (acts_in s e)
    reads_in (Name p x steps t) (leads, plain) =
        both_reads (acts_in s steps) (placed p (used s (name_of x steps) t) ∷ []) (steps_read (object_at s x).of t steps leads)
        (one_read (placed p (used s (name_of x steps) t)) (name_of x steps, inl (used_read (name_of x steps) t plain)))
    reads_in (Parens e) stays = reads_in e stays
    reads_in (Unary op e) stays = reads_in e stays
    reads_in (Binary op a b) stays = both_reads (acts_in s a) (acts_in s b) (reads_in a stays.0) (reads_in b stays.1)
    reads_in (Short op p a q b) stays =
        if_reads (has_call b) (acts_in s a ++ acts_in s b) (both_reads (acts_in s a) (acts_in s b) (reads_in a stays.0) (reads_in b stays.1))
    reads_in (IsNull equal (Name p x steps t)) leads =
        both_reads (acts_in s steps) (placed p (act.Look (name_of x steps)) ∷ []) (steps_read (object_at s x).of t steps leads)
        (one_read (placed p (act.Look (name_of x steps))) (name_of x steps, inr refl))
    reads_in (IsNull equal (Call p sub actuals)) stays = no_reads
    reads_in (IsNull equal e) stays = absurd stays
    reads_in (Call p sub actuals) stays = no_reads
    reads_in (Number v) stays = no_reads
    reads_in (Literal n) stays = no_reads
    reads_in typed.Null stays = no_reads
    reads_in EndOfFile stays = no_reads
    reads_in (Text b) stays = absurd stays
    reads_in (Image t e) stays = absurd stays
    reads_in NoMore stays = absurd stays
    reads_in (More e rest) stays = absurd stays
    reads_in (Aggregate t es) stays = absurd stays
    reads_in (Alike t e) stays = absurd stays
    reads_in (New t v) stays = absurd stays
    reads_in (IntoComponent i rest) stays = absurd stays
    reads_in (Designated rest) stays = absurd stays
    reads_in (Element index low high rest) stays = absurd stays

    steps_read : (t u : ℕ) (steps : TypedTree) → Leads s t steps u → AreReads (acts_in s steps)
    steps_read t u (IntoComponent i rest) (less, leads) = steps_read _ u rest leads
    steps_read t u (Designated rest) (d, c, n, is, leads) = steps_read d u rest leads
    steps_read t u (Element index low high rest) (e, is, stays, leads) =
        both_reads (acts_in s index) (acts_in s rest) (reads_in index stays) (steps_read e u rest leads)
    steps_read t u NoMore leads = no_reads
    steps_read t u steps leads = absurd leads

  pub index_reads : (e : TypedTree) (t : ℕ) → IsPlaceOf s e t → AreReads (index_acts s e)
  index_reads (Name p x path u) t place = steps_read (object_at s x).of u path place.0
  index_reads e t place = absurd place

-- ---- how actuals are passed to a procedure
