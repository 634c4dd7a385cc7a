-- The leak checks of a call are those of what is passed for formals of mode `out`. None fails that is excused, if facts are
-- exact before the call.
use Rattle.std.proofs.Common.{◌≡◌, refl, sym, ap, ◌∙◌, subst, inl, inr, ℕ, ◌+◌, Bool, true, false, ◌&&◌, List, [], ◌∷◌, ◌++◌, map, length, append_assoc, arith}
use Rattle.std.proofs.lemmas.List.{length-append, length-map}
use Rattle.std.proofs.lemmas.Bool.{true≢false}
use Rattle.machine.specs.spark_base.Lists.{Has}
use Rattle.machine.specs.spark_base.declared.position.Pos.{Pos}
use Rattle.machine.specs.place_names.declared.selector.Sel.{Sel}
use Rattle.machine.specs.place_names.declared.act.Mode.{Mode}
use Rattle.machine.specs.place_names.declared.act.Mode.TheVariants as mode
use Rattle.machine.specs.place_names.declared.act.Placed.{Placed}
use Rattle.machine.specs.place_names.declared.fact.Fact.{Fact}
use Rattle.machine.specs.place_names.declared.fact.Fact.TheVariants.{Moved}
use Rattle.machine.specs.place_names.Names.{Name as PlaceName, extend, has_elem}
use Rattle.machine.specs.type_definitions.Types.{shape_of, parts, parts_of, full, is_scalar, is_owning}
use Rattle.machine.specs.typed_tree.Trees.{TypedTree, Name, More}
use Rattle.machine.specs.flow_paths.declared.point.LeakSpot.{LeakSpot}
use Rattle.machine.specs.flow_paths.Objects.{Typing, object_at, is_named_access, view_of, passing, passing_by}
use Rattle.machine.specs.flow_paths.Names.{name_of, written}
use Rattle.machine.specs.flow_paths.Acts.{spot, actual_spots, actual_act, actual_acts, call_spots}
use Rattle.machine.specs.Words.{offsets}
use Rattle.machine.specs.Memory.{Memory, Place, slots_at}
use Rattle.machine.specs.Calls.{Passed, Value, From, To, checked_at, checks_at, written_pos, out_checks}
use Rattle.machine.specs.States.{Waiting, Leak}
use Rattle.soundness.specs.OwnedWays.Ways.{Way}
use Rattle.soundness.specs.OwnedWays.Ways as ways
use Rattle.soundness.specs.PartOffsets.Parts.{IsSettled}
use Rattle.soundness.specs.Seen.{home, seen}
use Rattle.soundness.specs.Typed.{Matches, Kept}
use Rattle.soundness.proofs.Fixed.{matches_scalar}
use Rattle.soundness.proofs.Freeing.{plain_parts}
use Rattle.soundness.specs.OwnedLoans.Views.{Views, expand}
use Rattle.viewed_steps.specs.Ready.{IsActualTo, AreActualsTo}
use Rattle.viewed_steps.specs.Taken.{IsInside}
use Rattle.viewed_steps.proofs.LaidOut.{IsPlainAt, IsBackLaid, IsLaidOne, AreLaidOut}
use Rattle.viewed_steps.proofs.Carried.{inside_at, inside_spot, inside_reached}
use Rattle.soundness.specs.ExactFacts.Exact.{IsOfVariable, NoneFails}
use Rattle.recycled_runs.specs.ViewedFacts.Exact.{IsDefinite, IsExact}
use Rattle.recycled_runs.proofs.ViewedFacts.Checks.{place_holds}
use Rattle.soundness.proofs.ViewedSoundness.ViewKinds.{bundle_view}
use Rattle.viewed_steps.proofs.Views.{AreOnly}
use Rattle.viewed_steps.proofs.Entered.{own_named, own_itself}

-- ---- lists of checks

both_hold : (Excused : LeakSpot → Type 0) (a b : List LeakSpot) (c d : List (List Leak)) → length a ≡ length c → NoneFails Excused a c → NoneFails Excused b d
    → NoneFails Excused (a ++ b) (c ++ d)
both_hold Excused [] b [] d same one two = two
both_hold Excused (x ∷ a) b (y ∷ c) d same one two = (one.0, both_hold Excused a b c d (omega (arith, same)) one.1 two)
both_hold Excused [] b (y ∷ c) d same one two = absurd (omega (arith, same))
both_hold Excused (x ∷ a) b [] d same one two = absurd (omega (arith, same))

-- none is made of actuals of mode `in`
pub ins_none : (s own : Typing) (procedure : Bool) (formals : List ℕ) (actuals : TypedTree) (before : ℕ) → ((x : ℕ) → Has formals x → (object_at s x).mode ≡ mode.In)
    → call_spots own (map (passing s procedure) formals) actuals before ≡ []
ins_none s own procedure [] actuals before modes = refl
ins_none s own procedure (x ∷ formals) (More e rest) before modes =
    ap (λ z. z ++ call_spots own (map (passing s procedure) formals) rest (before + length (actual_act (passing s procedure x) e)))
    (subst (λ z. actual_spots own (passing_by z owning access) e before ≡ []) (sym (modes x (inl refl))) (by_owning owning))
    ∙ ins_none s own procedure formals rest (before + length (actual_act (passing s procedure x) e)) (λ y has. modes y (inr has))
  where
    owning : Bool
    owning = is_owning s.table (object_at s x).of

    access : Bool
    access = procedure && is_named_access (view_of s x)

    by_owning : (b : Bool) → actual_spots own (passing_by mode.In b access) e before ≡ []
    by_owning true = refl
    by_owning false = refl
ins_none s own procedure (x ∷ formals) actuals before modes = refl

-- those of one that is passed
abbrev head_checks : Typing → Pos → Memory → Passed → TypedTree → List (List Leak)
head_checks s p m (To k) e = checks_at s (written_pos p (written e)) m k
head_checks s p m a e = []

head_first : (s : Typing) (p : Pos) (m : Memory) (a : Passed) (passed : List Passed) (e rest : TypedTree)
    → out_checks s p m (a ∷ passed) (More e rest) ≡ head_checks s p m a e ++ out_checks s p m passed rest
head_first s p m (Value ws) passed e rest = refl
head_first s p m (From k) passed e rest = refl
head_first s p m (To k) passed e rest = refl

-- ---- one of them

module _ (s : Typing) (sees : ℕ → Bool) (settled : IsSettled s.table) (depth : ℕ) (v : Views) (elsewhere : Way → Type 0) (m : Memory) (hands : List Waiting) (leaks : List Leak)
    (facts : List Fact) (variables : (w : Way) → IsDefinite (home s depth) v elsewhere facts w → IsOfVariable w)
    (exact : IsExact s (home s depth) v elsewhere m facts) (typed : Kept s m hands)
    (only : AreOnly s v) (Excused : LeakSpot → Type 0) (pos : Pos) where
  -- What an excused spot says, before some acts.
  abbrev KnowsAt : ℕ → PlaceName → Type 0
  KnowsAt before name =
      (p : Pos) (q : List Sel) → Excused (spot p name before q) → (has_elem (name.sels ++ q) ≡ false) × Has facts (Moved (extend name q))

  abbrev Holds : List LeakSpot → List (List Leak) → Type 0
  Holds spots checks = (length spots ≡ length checks) × NoneFails Excused spots checks

  no_parts : (t : ℕ) → is_scalar (full s.table t) ≡ true → parts s.table t ≡ []
  no_parts t scalar = settled.part_law t ∙ plain_parts (parts s.table) (shape_of s.table t) scalar

  -- a scalar place has no access parts
  scalar_holds : (spots : List Sel → LeakSpot) (check : List Sel → List Leak) (t u : ℕ) → is_scalar (full s.table t) ≡ true → is_scalar (full s.table u) ≡ true
      → Holds (map spots (parts s.table t)) (map check (parts s.table u))
  scalar_holds spots check t u one two =
      subst (λ z. Holds (map spots z) (map check (parts s.table u))) (sym (no_parts t one))
      (subst (λ z. Holds [] (map check z)) (sym (no_parts u two)) (refl, tt))

  parts_same : (t u : ℕ) → shape_of s.table t ≡ shape_of s.table u → parts s.table t ≡ parts s.table u
  parts_same t u e = settled.part_law t ∙ ap (parts_of (parts s.table)) e ∙ sym (settled.part_law u)

  -- the place is in a variable, or in a cell that a way leads to
  own_holds : (y u before : ℕ) (p pos' : Pos) (path : TypedTree) (k : Place) (to : Way) (inside : IsInside s depth k to) (name : Way) → ways.Named (home s depth) name
      → expand v name ≡ to → ways.name_of name ≡ name_of y path
      → ways.Reaches (seen s m hands leaks) inside.trunk inside.start → shape_of s.table k.of ≡ shape_of s.table u → KnowsAt before (name_of y path)
      → Holds (map (spot p (name_of y path) before) (parts s.table u)) (checks_at s pos' m k)
  own_holds y u before p pos' path k to inside name named means called begins same known =
      subst (λ z. Holds (map (spot p (name_of y path) before) z) (checks_at s pos' m k)) (parts_same k.of u same) (
        length-map (parts s.table k.of) (spot p (name_of y path) before)
            ∙ sym (length-map (parts s.table k.of) (λ part. checked_at pos' k.at (slots_at s m k.base) (offsets s.table k.of part))),
        subst (λ z. NoneFails Excused (map (spot p z before) (parts s.table k.of)) (checks_at s pos' m k)) called
            (place_holds s settled (home s depth) v elsewhere m hands leaks facts variables exact k (inside_at s depth k to inside) name (inside_spot s depth k to inside settled m hands leaks typed begins)
            named
            (subst (λ w. ways.Reaches (seen s m hands leaks) w (inside_at s depth k to inside)) (sym means)
            (inside_reached s depth k to inside (seen s m hands leaks) begins)) Excused pos' p before
            (λ q has. subst (KnowsAt before) (sym called) known p q)),
      )

  scalar_type : (t u : ℕ) → Matches s.table t u → is_scalar (full s.table u) ≡ true → is_scalar (full s.table t) ≡ true
  scalar_type t u (inl e) plain = matches_scalar s u t (inl (sym e)) plain
  scalar_type t u (inr both) plain = both.0

  same_type : (t u : ℕ) → Matches s.table t u → is_scalar (full s.table u) ≡ false → shape_of s.table t ≡ shape_of s.table u
  same_type t u (inl e) many = e
  same_type t u (inr both) many = (let no : true ≡ false = sym both.1 ∙ many in absurd (true≢false no))

  abbrev view : ways.View
  view = seen s m hands leaks

  plain_scalar : (p : Pos) (y u : ℕ) (path : TypedTree) (k : Place) → IsPlainAt s sees depth v view (Name p y path u) k → is_scalar (full s.table k.of) ≡ true
  plain_scalar p y u path k (inl (fixed, bare)) = fixed.scalar
  plain_scalar p y u path k (inr lodged) = lodged.2

  -- what is named is of the shape of the formal, if that isn't scalar
  shape_named : (x y u t : ℕ) (path : TypedTree) (k : Place) → Matches s.table k.of (object_at s x).of → is_scalar (full s.table (object_at s x).of) ≡ false → u ≡ t
      → Matches s.table t (object_at s x).of → shape_of s.table k.of ≡ shape_of s.table u
  shape_named x y u t path k fits many type match =
      same_type k.of (object_at s x).of fits many ∙ sym (same_type t (object_at s x).of match many) ∙ sym (ap (shape_of s.table) type)

  place_holds_at : (x before : ℕ) (e : TypedTree) (k : Place) (owning access : Bool) → IsBackLaid s sees depth v view x e k → IsActualTo s x mode.Out e
      → ((name : PlaceName) → KnowsAt before name) → Holds (actual_spots s (passing_by mode.Out owning access) e before) (head_checks s pos m (To k) e)
  place_holds_at x before (Name p y path u) k owning access (inl (inl (plain, at))) (t, (leads, type), match, which) known =
      scalar_holds (spot p (name_of y path) before) (λ part. checked_at p k.at (slots_at s m k.base) (offsets s.table k.of part)) u k.of
      (subst (λ z. is_scalar (full s.table z) ≡ true) (sym type) (scalar_type t (object_at s x).of match plain)) (plain_scalar p y u path k at)
  place_holds_at x before (Name p y path u) k owning access (inl (inr (many, own))) (t, (leads, type), match, which) known =
      own_holds y u before p p path k own.0 own.1 own.0 (own_named s settled depth k own.0 own.1 own.5) (own_itself s settled depth k own.0 own.1 own.5 v only.0 (λ z q w has. bundle_view s z (only.1 z q w has))) own.2 (subst (λ z. ways.Reaches view z (own.1).start) (sym (own.5).0) (own.5).1)
      (shape_named x y u t path k own.4 many type match) (known (name_of y path))
  place_holds_at x before (Name p y path u) k owning access (inr (many, housed)) (t, (leads, type), match, which) known =
      own_holds y u before p p path k housed.to housed.inside housed.name housed.named housed.means housed.called (subst (ways.Reaches view (housed.inside).trunk) (sym housed.start) housed.reaches)
      (shape_named x y u t path k housed.fits many type match) (known (name_of y path))
  place_holds_at x before e k owning access laid (t, never, match, which) known = absurd never

  one_holds : (x before : ℕ) (mode_of : Mode) (owning access : Bool) (e : TypedTree) (a : Passed) → IsLaidOne s sees m depth v view x mode_of e a → IsActualTo s x mode_of e
      → ((name : PlaceName) → KnowsAt before name) → Holds (actual_spots s (passing_by mode_of owning access) e before) (head_checks s pos m a e)
  one_holds x before mode.In true access e (Value ws) laid stay known = (refl, tt)
  one_holds x before mode.In false access e (Value ws) laid stay known = (refl, tt)
  one_holds x before mode.InOut owning access e (From k) laid stay known = (refl, tt)
  one_holds x before mode.Out owning access e (To k) laid stay known = place_holds_at x before e k owning access laid stay known
  one_holds x before m' owning access e a laid stay known = absurd laid

  -- ---- all of them

  module _ (procedure : Bool) (placed : List Placed)
      (known : (front others : List Placed) → placed ≡ front ++ others → (name : PlaceName) → KnowsAt (length front) name) where
    pub outs_hold : (formals : List ℕ) (actuals : TypedTree) (passed : List Passed) → AreLaidOut s sees m depth v view formals actuals passed → AreActualsTo s formals actuals
        → (front : List Placed) → placed ≡ front ++ actual_acts (map (passing s procedure) formals) actuals
        → NoneFails Excused (call_spots s (map (passing s procedure) formals) actuals (length front)) (out_checks s pos m passed actuals)
    outs_hold [] actuals passed laid stay front is = tt
    outs_hold (x ∷ formals) (More e rest) (a ∷ passed) laid stay front is =
        let owning : Bool = is_owning s.table (object_at s x).of in
        let access : Bool = procedure && is_named_access (view_of s x) in
        let act : List Placed = actual_act (passing s procedure x) e in
        let later : List Placed = actual_acts (map (passing s procedure) formals) rest in
        let first = one_holds x (length front) (object_at s x).mode owning access e a laid.0 stay.0 (known front (act ++ later) is) in
        let longer : length (front ++ act) ≡ length front + length act = length-append front act in
        subst (NoneFails Excused (call_spots s (map (passing s procedure) (x ∷ formals)) (More e rest) (length front))) (sym (head_first s pos m a passed e rest))
        (both_hold Excused (actual_spots s (passing s procedure x) e (length front))
        (call_spots s (map (passing s procedure) formals) rest (length front + length act)) (head_checks s pos m a e) (out_checks s pos m passed rest) first.0 first.1
        (subst (λ z. NoneFails Excused (call_spots s (map (passing s procedure) formals) rest z) (out_checks s pos m passed rest)) longer
        (outs_hold formals rest passed laid.1 stay.1 (front ++ act) (is ∙ sym (append_assoc front act later)))))
    outs_hold (x ∷ formals) (More e rest) [] laid stay front is = absurd laid
    outs_hold (x ∷ formals) actuals passed laid stay front is = tt
