-- Where a name leads that may be rooted in a borrower or observer, and that it touches no freed
-- cell.
use Rattle.std.proofs.Common.{◌≡◌, refl, sym, ap, ◌∙◌, subst, ◌⊎◌, inl, inr, ℕ, ◌<◌, Bool, true, false, not, ◌||◌, List, [], ◌∷◌, append-nil, map, take, drop, length, get_or, arith, Option, Some, None, if◌then◌else◌}
use Rattle.std.proofs.lemmas.Bool.{false≢true}
use Rattle.machine.specs.place_names.declared.fact.Fact.{Fact}
use Rattle.machine.specs.type_definitions.declared.table.Shape.{Shape}
use Rattle.machine.specs.type_definitions.declared.table.Shape.TheVariants as shape
use Rattle.machine.specs.type_definitions.Types.{Table, is_scalar, shape_of, fields, words, words_of, view_of as view_of_shape}
use Rattle.machine.specs.flow_paths.Objects.{Typing, object_at, designated, designated_of, is_anonymous, view_of}
use Rattle.machine.specs.Words.{component_type, element_type, element_count}
use Rattle.machine.specs.Words as machine
use Rattle.machine.specs.Memory.{Slot, Memory, Place, cell, no_slot, variable_slots, slots_at, slots_of, words_of as place_words}
use Rattle.machine.specs.Evaluate.{Here, Now, Evaluated, Done, Raises, Traps, followed_by, cell_place, component_place, element_place, designated_place, walked, variable_place, Touched}
use Rattle.machine.specs.Evaluate as run
use Rattle.machine.specs.States.{Waiting, Leak}
use Rattle.soundness.specs.OwnedWays.Ways.{Step, Component, Element, part, along, Root, OfVariable, OfHand, Loc, OfRoot, OfCell, Way, Object, Lost, Into, All, Empty, Held, View, Reaches, IsRooted, Past, Owned, Named, Under, number_of}
use Rattle.soundness.specs.PartOffsets.Parts.{IsSettled, has_part, type_in, offset_in}
use Rattle.soundness.proofs.OwnedWays.Locations.{past_under, under_itself}
use Rattle.soundness.specs.Seen.{IsNear, content, trunk, steps_in, seen, home, is_view_formal}
use Rattle.soundness.specs.Typed.{Kept, Spot, Matches}
use Rattle.soundness.proofs.Joined.{trunk_part, steps_part}
use Rattle.soundness.proofs.Contents.{word_dead}
use Rattle.soundness.proofs.Near.{named_near, past_near}
use Rattle.soundness.proofs.Walks.{way_step, way_along, Lead, Walked}
use Rattle.soundness.proofs.Scalars.{number_along, named_along}
use Rattle.soundness.specs.OwnedLoans.Views.{Around, Go, Part, Down, go, on, Views, way_at, expand_root, expand, IsObject, ExcusedBy, Viewed, Lifted, InPart}
use Rattle.soundness.proofs.OwnedLoans.Ways.{Meet, beginnings, on_deep, IsDeep, expand_go, expand_in, in_part_way, part_root, lifts, further, further_in, lifted_root, lifted_way}
use Rattle.soundness.proofs.OwnedLoans.Meeting.{IsPlain}
use Rattle.soundness.proofs.OwnedLoans.Safe.{Open}
use Rattle.soundness.proofs.OwnedLoans.Others.{open_away, seen_away, part_above_away}
use Rattle.soundness.proofs.OwnedLoans.Moves.{IsPlace, reached}
use Rattle.soundness.proofs.OwnedLoans.Ended.{stands_itself}
use Rattle.soundness.specs.ViewedSoundness.Holds.{IsNamed, PartsAreNamed, is_view, is_bundle, part_word, IsOwners, Holds, PartsHold, Seeing}
use Rattle.soundness.proofs.ViewedSoundness.Walks.{owners_rooted, walk, component_spot, element_spot, one_slot as one_there, slot_is}
use Rattle.soundness.proofs.ViewedSoundness.Spared.{gone_off}
use Rattle.soundness.proofs.ViewedSoundness.ViewKinds.{either, neither, either_true, true_false, plain_named, not_view, no_parts_in, bundle_view, bundle_access, bundle_named, plain_sees}
use Rattle.soundness.proofs.Constructors.{is_held_word}

-- ---- steps from the variable of a view

-- As `Lead`, but the first access value may be that of a view.
abbrev pub Starts : Table → ℕ → List run.Step → ℕ → Type 0
Starts table t [] u = t ≡ u
Starts table t (run.ToComponent i ∷ rest) u = (i < length (fields table t)) × Lead table (component_type table t i) rest u
Starts table t (run.ToElement n ∷ rest) u = (n < element_count table t) × Lead table (element_type table t) rest u
Starts table t (run.ToDesignated ∷ rest) u = (d : ℕ) × (c : Bool) × (n : Bool) × (shape_of table t ≡ shape.Access d c n) × Lead table d rest u

pub starts_leads : (table : Table) (t u : ℕ) (way : List run.Step) → IsNamed table t → Starts table t way u → Lead table t way u
starts_leads table t u [] named s = s
starts_leads table t u (run.ToComponent i ∷ rest) named s = s
starts_leads table t u (run.ToElement n ∷ rest) named s = s
starts_leads table t u (run.ToDesignated ∷ rest) named (d, c, n, is, lead) = (d, c, is ∙ ap (λ z. shape.Access d c z) (named d c n is), lead)

-- ---- names along steps

abbrev go_of : run.Step → Go
go_of (run.ToComponent i) = Part (Component i)
go_of (run.ToElement n) = Part (Element n)
go_of run.ToDesignated = Down

step_go : (step : run.Step) (w : Way) → way_step step w ≡ go (go_of step) w
step_go (run.ToComponent i) w = refl
step_go (run.ToElement n) w = refl
step_go run.ToDesignated w = refl

not_object : (step : run.Step) (w : Way) → IsObject (way_step step w) → ⊥
not_object (run.ToComponent i) w d = d
not_object (run.ToElement n) w d = d
not_object run.ToDesignated w d = d

deep_step : (step : run.Step) (w : Way) → IsDeep w → IsDeep (way_step step w)
deep_step (run.ToComponent i) w deep = deep
deep_step (run.ToElement n) w deep = deep
deep_step run.ToDesignated w deep = tt

deep_object : (w : Way) → IsDeep w → IsObject w → ⊥
deep_object (Object r) deep d = deep
deep_object (Lost n) deep d = d
deep_object (Into w i) deep d = d
deep_object (All w) deep d = d

pub expand_steps : (v : Views) (way : List run.Step) (w : Way) → IsDeep w → expand v (way_along way w) ≡ way_along way (expand v w)
expand_steps v [] w deep = refl
expand_steps v (step ∷ rest) w deep =
    expand_steps v rest (way_step step w) (deep_step step w deep)
    ∙ ap (way_along rest) (ap (expand v) (step_go step w) ∙ expand_go v (go_of step) w (deep_object w deep) (inl deep) ∙ sym (step_go step (expand v w)))

under_step : (t w : Way) (step : run.Step) → Under t w → Under t (way_step step w)
under_step t w (run.ToComponent i) u = inr u
under_step t w (run.ToElement n) u = inr u
under_step t w run.ToDesignated u = inr u

pub under_way_along : (rest : List run.Step) (w : Way) → Under w (way_along rest w)
under_way_along rest w = further_on rest w (under_itself w)
  where
    further_on : (rest : List run.Step) (z : Way) → Under w z → Under w (way_along rest z)
    further_on [] z u = u
    further_on (step ∷ rest) z u = further_on rest (way_step step z) (under_step w z step u)

lifted_step : (v : Views) (step : run.Step) (w : Way) → Lifted v w → Lifted v (way_step step w)
lifted_step v (run.ToComponent i) w l = further v (Part (Component i)) w l
lifted_step v (run.ToElement n) w l = further v (Part (Element n)) w l
lifted_step v run.ToDesignated w l = further v Down w l

in_part_step : (v : Views) (step : run.Step) (w : Way) → InPart v w → InPart v (way_step step w)
in_part_step v (run.ToComponent i) w l = further_in v (Part (Component i)) w l
in_part_step v (run.ToElement n) w l = further_in v (Part (Element n)) w l
in_part_step v run.ToDesignated w l = further_in v Down w l

pub in_part_along : (v : Views) (way : List run.Step) (w : Way) → InPart v w → InPart v (way_along way w)
in_part_along v [] w l = l
in_part_along v (step ∷ rest) w l = in_part_along v rest (way_step step w) (in_part_step v step w l)

lifted_along : (v : Views) (way : List run.Step) (w : Way) → Lifted v w → Lifted v (way_along way w)
lifted_along v [] w l = l
lifted_along v (step ∷ rest) w l = lifted_along v rest (way_step step w) (lifted_step v step w l)

cell_is : (n k : ℕ) → OfCell n ≡ OfCell k → n ≡ k
cell_is n k e = cc

-- the cell that a way reaches is there
pub way_live : (s : View) (w : Way) (n : ℕ) → Owned s → IsRooted w → Reaches s w (OfCell n) → s.freed n ≡ false
way_live s (Object r) n owned rooted e = cc
way_live s (Lost k) n owned rooted r = absurd rooted
way_live s (Into w i) n owned rooted (m, r, e) = cc
way_live s (All w) n owned rooted (m, k, r, held, e) =
    let same : n ≡ k = cell_is n k e in ap s.freed same ∙ owned.live m k held

-- ---- types of views

pub not_object_along : (rest : List run.Step) (step : run.Step) (w : Way) → IsObject (way_along (step ∷ rest) w) → ⊥
not_object_along [] step w d = not_object step w d
not_object_along (next ∷ rest) step w d = not_object_along rest next (way_step step w) d

root_is : (a b : Root) → Object a ≡ Object b → a ≡ b
root_is a b e = cc

-- a name of a named type isn't that of a view, if it isn't a formal itself
pub is_place : (s : Typing) (v : Views) (f x t : ℕ) (way : List run.Step) → Starts s.table (object_at s x).of way t → IsNamed s.table t
    → (is_view_formal s x ≡ true → way ≡ [] → ⊥)
    → ((y : ℕ) (w : Way) → v.way y ≡ Some w → is_view s y ≡ true) → IsPlace v (way_along way (Object (OfVariable f x)))
is_place s v f x t [] starts named own only r e = ap (way_at v) (sym (root_is (OfVariable f x) r e)) ∙ no_way (v.way x) refl
  where
    not_formal : (b : Bool) → is_view_formal s x ≡ b → is_view_formal s x ≡ false
    not_formal true e = absurd (own e refl)
    not_formal false e = e

    no_way : (o : Option Way) → v.way x ≡ o → v.way x ≡ None
    no_way None e = e
    no_way (Some w) e =
        absurd (not_view s.table (object_at s x).of
        (either (is_anonymous (view_of s x)) (is_view_formal s x) (only x w e) (not_formal (is_view_formal s x) refl))
        (subst (IsNamed s.table) (sym starts) named))
is_place s v f x t (step ∷ rest) starts named own only r e =
    absurd (not_object_along rest step (Object (OfVariable f x)) (subst IsObject (sym e) tt))

-- only a view itself has the type of a view
pub lead_named : (table : Table) → PartsAreNamed table → (t u : ℕ) (way : List run.Step) → IsNamed table t → Lead table t way u → IsNamed table u
lead_named table parts t u [] named e = subst (IsNamed table) e named
lead_named table parts t u (run.ToComponent i ∷ rest) named (less, lead) = lead_named table parts (component_type table t i) u rest (parts.component t i) lead
lead_named table parts t u (run.ToElement n ∷ rest) named (less, lead) = lead_named table parts (element_type table t) u rest (parts.element t) lead
lead_named table parts t u (run.ToDesignated ∷ rest) named (d, c, is, lead) = lead_named table parts d u rest (parts.designated t d c true is) lead

pub starts_named : (table : Table) → PartsAreNamed table → (t u : ℕ) (step : run.Step) (rest : List run.Step) → Starts table t (step ∷ rest) u → IsNamed table u
starts_named table parts t u (run.ToComponent i) rest (less, lead) = lead_named table parts (component_type table t i) u rest (parts.component t i) lead
starts_named table parts t u (run.ToElement n) rest (less, lead) = lead_named table parts (element_type table t) u rest (parts.element t) lead
starts_named table parts t u run.ToDesignated rest (d, c, n, is, lead) = lead_named table parts d u rest (parts.designated t d c n is) lead

-- a name that a view leads to is that of a place
pub lifted_place : (v : Views) (u : Way) → Lifted v u → IsPlace v u
lifted_place v u l r e =
    absurd (on_deep (All (Object (OfVariable l.frame l.object))) l.rest (λ d. d) (subst IsObject (sym e ∙ l.is) tt))

deep_on : (w : Way) (r : List Go) → IsDeep w → IsDeep (on w r)
deep_on w [] deep = deep
deep_on w (Part i ∷ r) deep = deep_on w r deep
deep_on w (Down ∷ r) deep = tt

pub lifted_deep : (v : Views) (u : Way) → Lifted v u → IsDeep u
lifted_deep v u l = subst IsDeep (sym l.is) (deep_on (All (Object (OfVariable l.frame l.object))) l.rest tt)

pub in_part_deep : (v : Views) (u : Way) → InPart v u → IsDeep u
in_part_deep v u l = subst IsDeep (sym l.is) (deep_on (All (along (Object (OfVariable l.frame l.object)) l.steps)) l.rest tt)

pub in_part_place : (v : Views) (u : Way) → InPart v u → IsPlace v u
in_part_place v u l r e =
    absurd (on_deep (All (along (Object (OfVariable l.frame l.object)) l.steps)) l.rest (λ d. d) (subst IsObject (sym e ∙ l.is) tt))

owners_on : (s : Typing) (w : Way) (rest : List Go) → IsOwners s w → IsOwners s (on w rest)
owners_on s w [] o = o
owners_on s w (Part i ∷ rest) o = owners_on s w rest o
owners_on s w (Down ∷ rest) o = owners_on s w rest o

named_owners : (s : Typing) (frame : ℕ) (u : Way) → Named (home s frame) u → is_view_formal s (number_of u) ≡ false → IsOwners s u
named_owners s frame (Object (OfVariable f x)) n o = o
named_owners s frame (Object (OfHand k)) n o = absurd n
named_owners s frame (Lost n) m o = absurd m
named_owners s frame (Into w i) n o = named_owners s frame w n o
named_owners s frame (All w) n o = named_owners s frame w n o

pub lifted_owners : (s : Typing) (sees : ℕ → Bool) (frame : ℕ) (v : Views) (m : Memory) (u : Way) → Holds s sees frame v m → Lifted v u → IsOwners s (expand v u)
lifted_owners s sees frame v m u holds l = subst (IsOwners s) (sym (lifted_way v u l)) (owners_on s l.way l.rest (holds.owners l.object l.way l.has))

pub part_owners : (s : Typing) (sees : ℕ → Bool) (frame : ℕ) (v : Views) (m : Memory) (u : Way) → Holds s sees frame v m → InPart v u → IsOwners s (expand v u)
part_owners s sees frame v m u holds l = subst (IsOwners s) (sym (in_part_way v u l)) (owners_on s l.way l.rest (holds.parts.owners l.object l.steps l.way l.has))

-- what a name stands for begins at an owner, if the name doesn't stand for a formal itself
pub stands_owners : (s : Typing) (sees : ℕ → Bool) (frame : ℕ) (v : Views) (m : Memory) (u : Way) → Holds s sees frame v m → Named (home s frame) u
    → (is_view_formal s (number_of u) ≡ false) ⊎ Lifted v u → IsOwners s (expand v u)
stands_owners s sees frame v m u holds named (inr l) = lifted_owners s sees frame v m u holds l
stands_owners s sees frame v m u holds named (inl own) = elim (lifts v u) [
  | inl e ↦ subst (IsOwners s) (sym e) (named_owners s frame u named own)
  | inr (inl l) ↦ lifted_owners s sees frame v m u holds l
  | inr (inr l) ↦ part_owners s sees frame v m u holds l
]

only_one : (xs : List Slot) → length xs ≡ 1 → take 1 (drop 0 xs) ≡ get_or xs 0 no_slot ∷ []
only_one [] e = absurd (omega (arith, e))
only_one (a ∷ []) e = refl
only_one (a ∷ b ∷ xs) e = absurd (omega (arith, e))

-- the parts of formals, where their words stay
pub parts_same : (s : Typing) (sees : ℕ → Bool) (frame : ℕ) (v : Views) (m n : Memory) → ((x : ℕ) (p : List Step) → is_bundle s x ≡ true → part_word s frame n x p ≡ part_word s frame m x p)
    → PartsHold s sees frame v m → PartsHold s sees frame v n
parts_same s sees frame v m n same parts = record {
  held = λ x p d c b k bundle there is e. parts.held x p d c b k bundle there is (sym (same x p bundle) ∙ e);
  only = parts.only;
  owners = parts.owners;
  looks = parts.looks;
}

-- ---- names

scalar_no_access : (sh : Shape) (d : ℕ) (c n : Bool) → sh ≡ shape.Access d c n → is_scalar (view_of_shape sh) ≡ true → ⊥
scalar_no_access sh d c n is plain = (let no : is_scalar (view_of_shape (shape.Access d c n)) ≡ true = ap (λ z. is_scalar (view_of_shape z)) (sym is) ∙ plain in false≢true no)

module _ (h : Here) (sees : ℕ → Bool) (seeing : Seeing h.typing sees) (settled : IsSettled h.typing.table) (hands : List Waiting) (leaks : List Leak) (m : Memory) (waits : List (List machine.Word))
    (other : Around (home h.typing h.frame)) (facts : List Fact) (v : Views) (kept : Kept h.typing m hands)
    (viewed : Viewed (home h.typing h.frame) sees other v (seen h.typing m hands leaks) facts) (holds : Holds h.typing sees h.frame v m)
    (alone : (w : Way) → IsNear h.frame w → other.gone w → ⊥)
    (live : (w : Way) (l : Loc) → IsOwners h.typing w → Reaches (seen h.typing m hands leaks) w l → (content h.typing m hands (trunk l)).owns ≡ true) where
  abbrev s : Typing
  s = h.typing

  abbrev view_here : View
  view_here = seen h.typing m hands leaks

  abbrev pub variable : ℕ → Way
  variable x = Object (OfVariable (home h.typing h.frame x) x)

  abbrev here_now : Now
  here_now = record { memory = m; waits = waits }

  abbrev pub excused : Way → Type 0
  excused = ExcusedBy (home h.typing h.frame) v other facts

  -- The name is open, unless it is looked at through an observer.
  abbrev pub Opens : ℕ → Way → Type 0
  Opens x u = sees x ≡ false → Open facts u

  -- an object that isn't a view has no way
  owner_way : (x : ℕ) → is_view s x ≡ false → v.way x ≡ None
  owner_way x plain = no_way (v.way x) refl
    where
      no_way : (o : Option Way) → v.way x ≡ o → v.way x ≡ None
      no_way None e = e
      no_way (Some w) e = absurd (true_false (is_view s x) (holds.only x w e) plain)

  owner_part : (x : ℕ) (p : List Step) → is_view s x ≡ false → v.part_way x p ≡ None
  owner_part x p plain = no_way (v.part_way x p) refl
    where
      no_way : (o : Option Way) → v.part_way x p ≡ o → v.part_way x p ≡ None
      no_way None e = e
      no_way (Some w) e = absurd (true_false (is_view s x) (bundle_view s x (holds.parts.only x p w e)) plain)

  -- a name that isn't rooted in a view stands for itself
  owner_itself : (x : ℕ) (way : List run.Step) → is_view s x ≡ false → expand v (way_along way (variable x)) ≡ way_along way (variable x)
  owner_itself x way plain =
      stands_itself (home s h.frame) sees other v (way_along way (variable x)) (named_along (home s h.frame) way (variable x) refl)
      (ap v.way (number_along way (variable x)) ∙ owner_way x plain)
      (λ p. ap (λ z. v.part_way z p) (number_along way (variable x)) ∙ owner_part x p plain)

  -- nothing was moved on its way
  pub owner_clean : (x : ℕ) (way : List run.Step) → is_view s x ≡ false → Opens x (way_along way (variable x))
      → (w : Way) → Past w (way_along way (variable x)) → excused w → ⊥
  owner_clean x way plain opens w past moved =
      let u : Way = way_along way (variable x) in
      let named : Named (home s h.frame) u = named_along (home s h.frame) way (variable x) refl in
      let seen_not = plain_sees s sees seeing x plain in
      let name : IsPlain (home s h.frame) sees v view_here facts viewed.views u = (named, ap sees (number_along way (variable x)) ∙ seen_not) in
      elim moved [
        | inr o ↦ alone w (past_near h.frame w u past (named_near s h.frame u named)) o
        | inl by ↦ open_away (home s h.frame) sees other v view_here facts viewed u w name (opens seen_not)
            (subst (Past w) (sym (owner_itself x way plain)) past) by
      ]

  owner_walked : (x t : ℕ) (way : List run.Step) → is_view s x ≡ false → Starts s.table (object_at s x).of way t
      → Opens x (way_along way (variable x))
      → Walked s settled hands leaks m waits (expand v (way_along way (variable x))) t (walked s way (variable_place h x) here_now)
  owner_walked x t way plain starts opens =
      let none = neither (is_anonymous (view_of s x)) (is_view_formal s x) plain in
      subst (λ z. Walked s settled hands leaks m waits z t (walked s way (variable_place h x) here_now)) (sym (owner_itself x way plain))
      (walk s settled hands leaks m waits excused kept viewed.owned viewed.known live way (variable_place h x)
      (OfRoot (OfVariable (home s h.frame x) x)) (variable x) t
      (record { base = refl; made = tt; at = refl; there = refl; of = inl refl }) none.1 refl
      (starts_leads s.table (object_at s x).of t way (plain_named s.table (object_at s x).of none.0) starts) (owner_clean x way plain opens))

  -- nothing was moved on the way through a view
  pub view_clean : (x : ℕ) (rest : List run.Step) (w : Way) → v.way x ≡ Some w → Opens x (way_along rest (All (variable x)))
      → (z : Way) → Past z (way_along rest w) → excused z → ⊥
  view_clean x rest w has opens z past (inr o) = elim (viewed.views.0 x w has) [
    | inl own ↦ gone_off s sees h.frame other v view_here facts viewed alone (v.up x) z own.named own.plain
        (subst (Meet z) (sym own.leads) (beginnings z w (way_along rest w) (past_under z (way_along rest w) past) (under_way_along rest w))) o
    | inr passed ↦ viewed.whole x w z has (inr passed.given) o
        (beginnings z w (way_along rest w) (past_under z (way_along rest w) past) (under_way_along rest w))
  ]
  view_clean x rest w has opens z past (inl moved) =
      let u : Way = way_along rest (All (variable x)) in
      let named : Named (home s h.frame) u = named_along (home s h.frame) rest (All (variable x)) refl in
      let root : number_of u ≡ x = number_along rest (All (variable x)) in
      let same : expand v u ≡ way_along rest w =
      expand_steps v rest (All (variable x)) tt ∙ ap (way_along rest) (ap (λ o. expand_root o (OfVariable (home s h.frame x) x)) has) in
      let goes : Past z (expand v u) = subst (Past z) (sym same) past in
      by_kind (sees x) refl named root goes
    where
      by_kind : (b : Bool) → sees x ≡ b → Named (home s h.frame) (way_along rest (All (variable x)))
          → number_of (way_along rest (All (variable x))) ≡ x → Past z (expand v (way_along rest (All (variable x)))) → ⊥
      by_kind false e named root goes =
          open_away (home s h.frame) sees other v view_here facts viewed (way_along rest (All (variable x))) z
          (named, ap sees root ∙ e) (opens e) goes moved
      by_kind true e named root goes =
          let l : Lifted v (way_along rest (All (variable x))) = lifted_along v rest (All (variable x))
          (record { frame = home s h.frame x; object = x; rest = []; way = w; is = refl; has = has }) in
          seen_away (home s h.frame) sees other v view_here facts viewed (way_along rest (All (variable x))) z l named
          (ap sees (sym (lifted_root v (way_along rest (All (variable x))) l) ∙ root) ∙ e) goes moved

  abbrev slot_of : ℕ → Slot
  slot_of x = get_or (variable_slots s (home s h.frame x) x m.variables) 0 no_slot

  -- the variable of a view has one word
  pub one_slot : (x d : ℕ) (c n : Bool) → shape_of s.table (object_at s x).of ≡ shape.Access d c n → place_words s m (variable_place h x) ≡ (slot_of x).word ∷ []
  one_slot x d c n is =
      let one : words s.table (object_at s x).of ≡ 1 = settled.word_law (object_at s x).of ∙ ap (words_of (words s.table)) is in
      let slots : List Slot = variable_slots s (home s h.frame x) x m.variables in
      ap (λ k. map (λ (z : Slot). z.word) (take k (drop 0 slots))) one
      ∙ ap (map (λ (z : Slot). z.word)) (only_one slots (kept.variables (home s h.frame x) x ∙ one))

  -- the first step goes to the cell that the view designates
  met : (x t : ℕ) (rest : List run.Step) (d : ℕ) (c n : Bool) → is_view s x ≡ true → is_bundle s x ≡ false → shape_of s.table (object_at s x).of ≡ shape.Access d c n
      → Lead s.table d rest t → Opens x (way_along rest (All (variable x))) → (z : machine.Word) → (slot_of x).word ≡ z
      → Walked s settled hands leaks m waits (expand v (way_along rest (All (variable x)))) t (followed_by (designated_place d (z ∷ []) here_now) (walked s rest))
  met x t rest d c n view bare is lead opens (machine.Int k) e = refl
  met x t rest d c n view bare is lead opens (machine.Enumerated k) e = refl
  met x t rest d c n view bare is lead opens machine.Null e = refl
  met x t rest d c n view bare is lead opens (machine.Cell k) e =
      let own = holds.held x k view bare e in
      let w : Way = own.0 in
      let known_view = viewed.views.0 x w own.1 in
      let owns : IsOwners s w = holds.owners x w own.1 in
      let reaches : Reaches view_here w (OfCell k) =
      subst (λ z. Reaches view_here w (OfCell z)) own.2 (reached (home s h.frame) sees other v view_here facts x w known_view) in
      let alive : (cell m k).freed ≡ false = way_live view_here w k viewed.owned (owners_rooted s w owns) reaches in
      let points = kept.points (OfRoot (OfVariable (home s h.frame x) x)) [] d c n k refl is e in
      let spot : Spot s m hands (cell_place d k) (OfCell k) = record { base = refl; made = (points.0, points.1); at = refl; there = refl; of = points.2 } in
      let same : expand v (way_along rest (All (variable x))) ≡ way_along rest w =
      expand_steps v rest (All (variable x)) tt ∙ ap (way_along rest) (ap (λ o. expand_root o (OfVariable (home s h.frame x) x)) own.1) in
      subst (λ z. Walked s settled hands leaks m waits z t (followed_by (designated_place d (machine.Cell k ∷ []) here_now) (walked s rest))) (sym same)
      (subst (λ b. Walked s settled hands leaks m waits (way_along rest w) t (followed_by (if b then Traps Touched here_now else Done (cell_place d k) here_now) (walked s rest)))
      (sym alive)
      (walk s settled hands leaks m waits excused kept viewed.owned viewed.known live rest (cell_place d k) (OfCell k) w t spot owns reaches lead
      (view_clean x rest w own.1 opens)))

  view_walked : (x t : ℕ) (rest : List run.Step) (d : ℕ) (c n : Bool) → is_view s x ≡ true → is_bundle s x ≡ false → shape_of s.table (object_at s x).of ≡ shape.Access d c n
      → Lead s.table d rest t → Opens x (way_along rest (All (variable x)))
      → Walked s settled hands leaks m waits (expand v (way_along rest (All (variable x)))) t (walked s (run.ToDesignated ∷ rest) (variable_place h x) here_now)
  view_walked x t rest d c n view bare is lead opens =
      let type : designated s.table (object_at s x).of ≡ d = ap (λ z. designated_of (object_at s x).of (view_of_shape z)) is in
      subst (λ z. Walked s settled hands leaks m waits (expand v (way_along rest (All (variable x)))) t
      (followed_by (designated_place (designated s.table (object_at s x).of) z here_now) (walked s rest))) (sym (one_slot x d c n is))
      (subst (λ z. Walked s settled hands leaks m waits (expand v (way_along rest (All (variable x)))) t
      (followed_by (designated_place z ((slot_of x).word ∷ []) here_now) (walked s rest))) (sym type)
      (met x t rest d c n view bare is lead opens (slot_of x).word refl))

  -- ---- the parts of a formal

  -- nothing was moved on the way through one
  pub part_clean : (rest : List run.Step) (x : ℕ) (p : List Step) (w : Way) (u : Way) → v.part_way x p ≡ Some w → (l : InPart v u) → expand v u ≡ way_along rest w
      → (z : Way) → Past z (way_along rest w) → excused z → ⊥
  part_clean rest x p w u has l same z past (inr gone) =
      viewed.whole_parts x p w z has gone (beginnings z w (way_along rest w) (past_under z (way_along rest w) past) (under_way_along rest w))
  part_clean rest x p w u has l same z past (inl away) =
      part_above_away (home s h.frame) sees other v view_here facts viewed u z l (subst (Under z) (sym same) (past_under z (way_along rest w) past)) away

  -- A place in a formal, by the steps to it.
  abbrev pub InBundle : ℕ → List Step → Loc
  InBundle x p = part (OfRoot (OfVariable (home s h.frame x) x)) p

  abbrev pub slot_there : Place → Slot
  slot_there k = get_or (slots_at s m k.base) k.at no_slot

  abbrev pub bundle_way : ℕ → List Step → Way
  bundle_way x p = along (variable x) p

  bundle_itself : (x : ℕ) (p : List Step) → expand v (bundle_way x p) ≡ bundle_way x p
  bundle_itself x [] = refl
  bundle_itself x (i ∷ p) = ap (λ z. Into z i) (bundle_itself x p)

  reaches_bundle : (x : ℕ) (p : List Step) → Reaches view_here (bundle_way x p) (InBundle x p)
  reaches_bundle x [] = refl
  reaches_bundle x (i ∷ p) = (InBundle x p, reaches_bundle x p, refl)

  -- a part whose word is the number of a cell has a way to it
  pub part_found_there : (x : ℕ) (p : List Step) (k : Place) (d : ℕ) (c n : Bool) (a : ℕ) → is_bundle s x ≡ true → Spot s m hands k (InBundle x p)
      → shape_of s.table k.of ≡ shape.Access d c n → (get_or (slots_at s m k.base) k.at no_slot).word ≡ machine.Cell a
      → (w : Way) × (v.part_way x p ≡ Some w) × (expand v (All (bundle_way x p)) ≡ w) × Reaches view_here w (OfCell a) × (p ≡ [] → ⊥) × IsOwners s w × Spot s m hands (cell_place d a) (OfCell a)
  part_found_there x p k d c n a bundle spot is e =
      let trunk_is : trunk (InBundle x p) ≡ OfRoot (OfVariable (home s h.frame x) x) = trunk_part (OfRoot (OfVariable (home s h.frame x) x)) p in
      let steps_is : steps_in (InBundle x p) ≡ p = steps_part (OfRoot (OfVariable (home s h.frame x) x)) p ∙ append-nil p in
      let of_is : (content s m hands (trunk (InBundle x p))).of ≡ (object_at s x).of = ap (λ z. (content s m hands z).of) trunk_is in
      let there : has_part s.table (object_at s x).of p ≡ true = (λ j. has_part s.table (sym of_is j) (sym steps_is j)) ∙ spot.there in
      let type : shape_of s.table (type_in s.table (object_at s x).of p) ≡ shape.Access d c n =
      (λ j. shape_of s.table (type_in s.table (sym of_is j) (sym steps_is j))) ∙ type_there spot.of in
      let word : part_word s h.frame m x p ≡ machine.Cell a =
      (λ j. (get_or (content s m hands (sym trunk_is j)).slots (offset_in s.table (content s m hands (sym trunk_is j)).of (sym steps_is j)) no_slot).word)
      ∙ ap (λ (z : Slot). z.word) (slot_is s settled hands leaks m waits excused kept viewed.owned viewed.known live k (InBundle x p) spot) ∙ e in
      let own = holds.parts.held x p d c n a bundle there type word in
      let deep : p ≡ [] → ⊥ = (λ none. bundle_access s x d c n bundle (ap (λ z. shape_of s.table (type_in s.table (object_at s x).of z)) (sym none) ∙ type)) in
      let points = kept.points (OfRoot (OfVariable (home s h.frame x) x)) p d c n a there type word in (
        own.0,
        own.1,
        expand_in v (home s h.frame x) x p own.0 deep own.1,
        subst (λ z. Reaches view_here own.0 (OfCell z)) own.2 (viewed.views.1 x p own.0 own.1).reaches,
        deep,
        holds.parts.owners x p own.0 own.1,
        record { base = refl; made = (points.0, points.1); at = refl; there = refl; of = points.2 },
      )
    where
      type_there : Matches s.table k.of (type_in s.table (content s m hands (trunk (InBundle x p))).of (steps_in (InBundle x p)))
          → shape_of s.table (type_in s.table (content s m hands (trunk (InBundle x p))).of (steps_in (InBundle x p))) ≡ shape.Access d c n
      type_there (inl same) = sym same ∙ is
      type_there (inr both) = absurd (scalar_no_access (shape_of s.table k.of) d c n is both.0)

  -- what a part designates
  part_met : (x t : ℕ) (rest : List run.Step) (p : List Step) (k : Place) (d : ℕ) (c n : Bool) → is_bundle s x ≡ true → Spot s m hands k (InBundle x p)
      → shape_of s.table k.of ≡ shape.Access d c n → Lead s.table d rest t
      → (q : machine.Word) → (get_or (slots_at s m k.base) k.at no_slot).word ≡ q
      → Walked s settled hands leaks m waits (expand v (way_along rest (All (bundle_way x p)))) t (followed_by (designated_place d (q ∷ []) here_now) (walked s rest))
  part_met x t rest p k d c n bundle spot is lead (machine.Int a) e = refl
  part_met x t rest p k d c n bundle spot is lead (machine.Enumerated a) e = refl
  part_met x t rest p k d c n bundle spot is lead machine.Null e = refl
  part_met x t rest p k d c n bundle spot is lead (machine.Cell a) e =
      let found = part_found_there x p k d c n a bundle spot is e in
      let w : Way = found.0 in
      let alive : (cell m a).freed ≡ false = way_live view_here w a viewed.owned (owners_rooted s w found.5) found.3 in
      let same : expand v (way_along rest (All (bundle_way x p))) ≡ way_along rest w =
      expand_steps v rest (All (bundle_way x p)) tt ∙ ap (way_along rest) found.2 in
      let inner : InPart v (way_along rest (All (bundle_way x p))) = in_part_along v rest (All (bundle_way x p))
      (record { frame = home s h.frame x; object = x; steps = p; rest = []; way = w; is = refl; has = found.1; deep = found.4 }) in
      subst (λ z. Walked s settled hands leaks m waits z t (followed_by (designated_place d (machine.Cell a ∷ []) here_now) (walked s rest))) (sym same)
      (subst (λ b. Walked s settled hands leaks m waits (way_along rest w) t (followed_by (if b then Traps Touched here_now else Done (cell_place d a) here_now) (walked s rest)))
      (sym alive)
      (walk s settled hands leaks m waits excused kept viewed.owned viewed.known live rest (cell_place d a) (OfCell a) w t found.6 found.5 found.3 lead
      (part_clean rest x p w (way_along rest (All (bundle_way x p))) found.1 inner same)))

  -- a name that begins in a formal goes on in its own words up to the first dereference
  bundle_on : (x t : ℕ) (way : List run.Step) (p : List Step) (k : Place) → is_bundle s x ≡ true → Spot s m hands k (InBundle x p) → Lead s.table k.of way t
      → Walked s settled hands leaks m waits (expand v (way_along way (bundle_way x p))) t (walked s way k here_now)
  bundle_on x t [] p k bundle spot lead =
      (InBundle x p, refl, spot, subst (λ z. Reaches view_here z (InBundle x p)) (sym (bundle_itself x p)) (reaches_bundle x p), lead)
  bundle_on x t (run.ToComponent i ∷ rest) p k bundle spot lead =
      bundle_on x t rest (Component i ∷ p) (component_place s.table i k) bundle (component_spot s settled hands leaks m k (InBundle x p) i spot lead.0) lead.1
  bundle_on x t (run.ToElement n ∷ rest) p k bundle spot lead =
      bundle_on x t rest (Element n ∷ p) (element_place s.table n k) bundle (element_spot s settled hands leaks m k (InBundle x p) n spot lead.0) lead.1
  bundle_on x t (run.ToDesignated ∷ rest) p k bundle spot (d, c, is, lead) =
      let word : slots_of s m k ≡ slot_there k ∷ [] = one_there s settled hands leaks m waits excused kept viewed.owned viewed.known live k (InBundle x p) d c spot is in
      let type : designated s.table k.of ≡ d = ap (λ z. designated_of k.of (view_of_shape z)) is in
      subst (λ z. Walked s settled hands leaks m waits (expand v (way_along rest (All (bundle_way x p)))) t
      (followed_by (designated_place (designated s.table k.of) z here_now) (walked s rest))) (sym (ap (map (λ (z : Slot). z.word)) word))
      (subst (λ z. Walked s settled hands leaks m waits (expand v (way_along rest (All (bundle_way x p)))) t
      (followed_by (designated_place z ((slot_there k).word ∷ []) here_now) (walked s rest))) (sym type)
      (part_met x t rest p k d c true bundle spot is lead (slot_there k).word refl))

  pub name_walked : (x t : ℕ) (way : List run.Step) → Starts s.table (object_at s x).of way t → Opens x (way_along way (variable x))
      → Walked s settled hands leaks m waits (expand v (way_along way (variable x))) t (walked s way (variable_place h x) here_now)
  name_walked x t way starts opens = by_type (is_view s x) refl (is_bundle s x) refl way starts opens
    where
      by_type : (b : Bool) → is_view s x ≡ b → (c : Bool) → is_bundle s x ≡ c → (way : List run.Step) → Starts s.table (object_at s x).of way t
          → Opens x (way_along way (variable x))
          → Walked s settled hands leaks m waits (expand v (way_along way (variable x))) t (walked s way (variable_place h x) here_now)
      by_type false plain c bundle way starts opens = owner_walked x t way plain starts opens
      by_type true view true bundle way starts opens =
          bundle_on x t way [] (variable_place h x) bundle (record { base = refl; made = tt; at = refl; there = refl; of = inl refl })
          (starts_leads s.table (object_at s x).of t way (bundle_named s x bundle) starts)
      by_type true view false bare [] starts opens =
          (OfRoot (OfVariable (home s h.frame x) x), refl, record { base = refl; made = tt; at = refl; there = refl; of = inl refl }, refl, starts)
      by_type true view false bare (run.ToComponent i ∷ rest) (less, lead) opens =
          let none = no_parts_in (shape_of s.table (object_at s x).of) (holds.access x view bare) in absurd (omega (arith, none.0, less))
      by_type true view false bare (run.ToElement n ∷ rest) (less, lead) opens =
          let none = no_parts_in (shape_of s.table (object_at s x).of) (holds.access x view bare) in absurd (omega (arith, none.1, less))
      by_type true view false bare (run.ToDesignated ∷ rest) (d, c, n, is, lead) opens = view_walked x t rest d c n view bare is lead opens

  reached_front : (rest : List run.Step) (w : Way) (l : Loc) → Reaches view_here (way_along rest w) l → (k : Loc) × Reaches view_here w k
  reached_front [] w l reaches = (l, reaches)
  reached_front (step ∷ rest) w l reaches = (let r = reached_front rest (way_step step w) l reaches in one step r.0 r.1)
    where
      one : (step : run.Step) (k : Loc) → Reaches view_here (way_step step w) k → (k : Loc) × Reaches view_here w k
      one (run.ToComponent i) k r = (r.0, r.1)
      one (run.ToElement n) k r = (r.0, r.1)
      one run.ToDesignated k r = (r.0, r.2)

  -- what a name reaches through a formal of an access type that owns nothing, it reaches by the way of the formal
  pub formal_lifted : (x t : ℕ) (way : List run.Step) → is_view_formal s x ≡ true → is_bundle s x ≡ false → (way ≡ [] → ⊥) → Starts s.table (object_at s x).of way t → (l : Loc)
      → Reaches view_here (expand v (way_along way (variable x))) l → Lifted v (way_along way (variable x))
  formal_lifted x t [] formal bare whole starts l reaches = absurd (whole refl)
  formal_lifted x t (run.ToComponent i ∷ rest) formal bare whole (less, lead) l reaches =
      let none = no_parts_in (shape_of s.table (object_at s x).of) (holds.access x (either_true (is_anonymous (view_of s x)) (is_view_formal s x) formal) bare) in
      absurd (omega (arith, none.0, less))
  formal_lifted x t (run.ToElement n ∷ rest) formal bare whole (less, lead) l reaches =
      let none = no_parts_in (shape_of s.table (object_at s x).of) (holds.access x (either_true (is_anonymous (view_of s x)) (is_view_formal s x) formal) bare) in
      absurd (omega (arith, none.1, less))
  formal_lifted x t (run.ToDesignated ∷ rest) formal bare whole starts l reaches = elim (lifts v (way_along rest (All (variable x)))) [
    | inr (inl found) ↦ found
    | inr (inr inner) ↦ absurd (true_false (is_bundle s x)
        (subst (λ z. is_bundle s z ≡ true) (sym (part_root v (way_along rest (All (variable x))) inner) ∙ number_along rest (All (variable x)))
        (holds.parts.only inner.object inner.steps inner.way inner.has)) bare)
    | inl same ↦ (
        let front = reached_front rest (All (variable x)) l (subst (λ z. Reaches view_here z l) same reaches) in
        let root : front.1.0 ≡ OfRoot (OfVariable (home s h.frame x) x) = front.1.2 in
        let held : view_here.word (OfRoot (OfVariable (home s h.frame x) x)) ≡ Held front.1.1 = ap view_here.word (sym root) ∙ front.1.3 in
        absurd (empty_held (sym (word_dead s.table (content s m hands (OfRoot (OfVariable (home s h.frame x) x))) [] (ap not formal)) ∙ held)))
  ]
    where
      empty_held : {n : ℕ} → Empty ≡ Held n → ⊥
      empty_held e = absurd (false≢true (ap is_held_word e))

  -- what is changed begins at an owner
  pub changed_owners : (x t : ℕ) (way : List run.Step) → sees x ≡ false → (is_view_formal s x ≡ true → way ≡ [] → ⊥) → Starts s.table (object_at s x).of way t → (l : Loc)
      → Reaches view_here (expand v (way_along way (variable x))) l → IsOwners s (expand v (way_along way (variable x)))
  changed_owners x t way plain whole starts l reaches = by_kind (is_view_formal s x) refl
    where
      bare : (b : Bool) → is_bundle s x ≡ b → is_bundle s x ≡ false
      bare false e = e
      bare true e = absurd (true_false (sees x) (holds.parts.looks x e) plain)

      by_kind : (b : Bool) → is_view_formal s x ≡ b → IsOwners s (expand v (way_along way (variable x)))
      by_kind false e =
          stands_owners s sees h.frame v m (way_along way (variable x)) holds (named_along (home s h.frame) way (variable x) refl)
          (inl (ap (is_view_formal s) (number_along way (variable x)) ∙ e))
      by_kind true e =
          lifted_owners s sees h.frame v m (way_along way (variable x)) holds (formal_lifted x t way e (bare (is_bundle s x) refl) (whole e) starts l reaches)

  -- the same parts of formals are seen
  pub seen_parts : (x : ℕ) → sees x ≡ false → (p : List Step) → v.part_way x p ≡ None
  seen_parts x plain p = no_way (v.part_way x p) refl
    where
      no_way : (o : Option Way) → v.part_way x p ≡ o → v.part_way x p ≡ None
      no_way None e = e
      no_way (Some w) e = absurd (true_false (sees x) (viewed.views.1 x p w e).sees plain)

  -- An exception, with the memory as it was.
  abbrev pub IsRaised : Memory → Evaluated Place → Type 0
  IsRaised m (Raises e n) = n.memory ≡ m
  IsRaised m _ = ⊥

  -- a name that begins in a formal with parts is one of its own words, or goes through a part, or raises
  abbrev pub IsWithin : ℕ → ℕ → Way → Evaluated Place → Type 0
  IsWithin x t u y =
      (q : List Step) × (k : Place) × (u ≡ bundle_way x q) × (y ≡ Done k here_now) × Spot s m hands k (InBundle x q) × (k.of ≡ t)

  cases_on : (x t : ℕ) (way : List run.Step) (p : List Step) (k : Place) → is_bundle s x ≡ true → Spot s m hands k (InBundle x p) → Lead s.table k.of way t
      → IsWithin x t (way_along way (bundle_way x p)) (walked s way k here_now) ⊎ (InPart v (way_along way (bundle_way x p)) ⊎ IsRaised m (walked s way k here_now))
  cases_on x t [] p k bundle spot lead = inl (p, k, refl, refl, spot, lead)
  cases_on x t (run.ToComponent i ∷ rest) p k bundle spot lead =
      cases_on x t rest (Component i ∷ p) (component_place s.table i k) bundle (component_spot s settled hands leaks m k (InBundle x p) i spot lead.0) lead.1
  cases_on x t (run.ToElement n ∷ rest) p k bundle spot lead =
      cases_on x t rest (Element n ∷ p) (element_place s.table n k) bundle (element_spot s settled hands leaks m k (InBundle x p) n spot lead.0) lead.1
  cases_on x t (run.ToDesignated ∷ rest) p k bundle spot (d, c, is, lead) =
      let word : slots_of s m k ≡ slot_there k ∷ [] = one_there s settled hands leaks m waits excused kept viewed.owned viewed.known live k (InBundle x p) d c spot is in
      let type : designated s.table k.of ≡ d = ap (λ z. designated_of k.of (view_of_shape z)) is in
      inr (subst (λ z. InPart v (way_along rest (All (bundle_way x p))) ⊎ IsRaised m (followed_by (designated_place (designated s.table k.of) z here_now) (walked s rest)))
      (sym (ap (map (λ (z : Slot). z.word)) word))
      (subst (λ z. InPart v (way_along rest (All (bundle_way x p))) ⊎ IsRaised m (followed_by (designated_place z ((slot_there k).word ∷ []) here_now) (walked s rest))) (sym type)
      (by_word (slot_there k).word refl)))
    where
      by_word : (z : machine.Word) → (slot_there k).word ≡ z
          → InPart v (way_along rest (All (bundle_way x p))) ⊎ IsRaised m (followed_by (designated_place d (z ∷ []) here_now) (walked s rest))
      by_word (machine.Int a) e = inr refl
      by_word (machine.Enumerated a) e = inr refl
      by_word machine.Null e = inr refl
      by_word (machine.Cell a) e =
          let found = part_found_there x p k d c true a bundle spot is e in
          inl (in_part_along v rest (All (bundle_way x p))
          (record { frame = home s h.frame x; object = x; steps = p; rest = []; way = found.0; is = refl; has = found.1; deep = found.4 }))

  pub bundle_cases : (x t : ℕ) (way : List run.Step) → is_bundle s x ≡ true → Starts s.table (object_at s x).of way t
      → IsWithin x t (way_along way (variable x)) (walked s way (variable_place h x) here_now)
      ⊎ (InPart v (way_along way (variable x)) ⊎ IsRaised m (walked s way (variable_place h x) here_now))
  bundle_cases x t way bundle starts =
      cases_on x t way [] (variable_place h x) bundle (record { base = refl; made = tt; at = refl; there = refl; of = inl refl })
      (starts_leads s.table (object_at s x).of t way (bundle_named s x bundle) starts)

  -- A name that is rooted in a view with a value.
  abbrev pub IsLifted : ℕ → Way → Type 0
  IsLifted x u = (l : Lifted v u) × (l.object ≡ x) × IsOwners s (expand v u)

  -- A name is a formal.
  abbrev pub IsFormalItself : ℕ → List run.Step → Type 0
  IsFormalItself x way = (is_view_formal s x ≡ true) × (way ≡ [])

  -- a name of a named type isn't rooted in a view, or it is rooted in one with a value, or it raises,
  -- or it is a formal itself (rooted in no formal with parts)
  pub name_lifted : (x t : ℕ) (way : List run.Step) → is_bundle s x ≡ false → IsNamed s.table t → Starts s.table (object_at s x).of way t
      → (is_view s x ≡ false) ⊎ ((IsLifted x (way_along way (variable x)))
      ⊎ (IsRaised m (walked s way (variable_place h x) here_now) ⊎ IsFormalItself x way))
  name_lifted x t way bare named starts = by_kind (is_view s x) refl
    where
      lift : (rest : List run.Step) (k : ℕ) → is_view s x ≡ true → (slot_of x).word ≡ machine.Cell k
          → IsLifted x (way_along rest (All (variable x)))
      lift rest k view e =
          let own = holds.held x k view bare e in
          let u : Way = way_along rest (All (variable x)) in
          let l : Lifted v u = lifted_along v rest (All (variable x)) (record { frame = home s h.frame x; object = x; rest = []; way = own.0; is = refl; has = own.1 }) in
          let named = named_along (home s h.frame) rest (All (variable x)) refl in
          (l, sym (lifted_root v u l) ∙ number_along rest (All (variable x)), stands_owners s sees h.frame v m u holds named (inr l))

      by_word : (rest : List run.Step) (d : ℕ) → is_view s x ≡ true → (z : machine.Word) → (slot_of x).word ≡ z
          → (IsLifted x (way_along rest (All (variable x))))
          ⊎ IsRaised m (followed_by (designated_place d (z ∷ []) here_now) (walked s rest))
      by_word rest d view (machine.Int k) e = inr refl
      by_word rest d view (machine.Enumerated k) e = inr refl
      by_word rest d view machine.Null e = inr refl
      by_word rest d view (machine.Cell k) e = inl (lift rest k view e)

      formal_true : (a b : Bool) → a || b ≡ true → (a ≡ true → ⊥) → b ≡ true
      formal_true true b e none = absurd (none refl)
      formal_true false b e none = e

      raised_or : {A B C : Type 0} → A ⊎ B → A ⊎ (B ⊎ C)
      raised_or (inl a) = inl a
      raised_or (inr b) = inr (inl b)

      by_steps : (way : List run.Step) → is_view s x ≡ true → Starts s.table (object_at s x).of way t
          → (IsLifted x (way_along way (variable x)))
          ⊎ (IsRaised m (walked s way (variable_place h x) here_now) ⊎ IsFormalItself x way)
      by_steps [] view starts = inr (inr (
        formal_true (is_anonymous (view_of s x)) (is_view_formal s x) view
            (λ e. not_view s.table (object_at s x).of e (subst (IsNamed s.table) (sym starts) named)),
        refl,
      ))
      by_steps (run.ToComponent i ∷ rest) view (less, lead) =
          let none = no_parts_in (shape_of s.table (object_at s x).of) (holds.access x view bare) in absurd (omega (arith, none.0, less))
      by_steps (run.ToElement n ∷ rest) view (less, lead) =
          let none = no_parts_in (shape_of s.table (object_at s x).of) (holds.access x view bare) in absurd (omega (arith, none.1, less))
      by_steps (run.ToDesignated ∷ rest) view (d, c, n, is, lead) =
          let type : designated s.table (object_at s x).of ≡ d = ap (λ z. designated_of (object_at s x).of (view_of_shape z)) is in
          raised_or (subst (λ z. (IsLifted x (way_along rest (All (variable x))))
          ⊎ IsRaised m (followed_by (designated_place (designated s.table (object_at s x).of) z here_now) (walked s rest))) (sym (one_slot x d c n is))
          (subst (λ z. (IsLifted x (way_along rest (All (variable x))))
          ⊎ IsRaised m (followed_by (designated_place z ((slot_of x).word ∷ []) here_now) (walked s rest))) (sym type)
          (by_word rest d view (slot_of x).word refl)))

      by_kind : (b : Bool) → is_view s x ≡ b
          → (is_view s x ≡ false) ⊎ ((IsLifted x (way_along way (variable x)))
          ⊎ (IsRaised m (walked s way (variable_place h x) here_now) ⊎ IsFormalItself x way))
      by_kind false e = inl e
      by_kind true e = inr (by_steps way e starts)
