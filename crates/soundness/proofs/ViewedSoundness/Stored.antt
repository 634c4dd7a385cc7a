-- An assignment to a target that isn't a view, but may be named through a borrower: the source is
-- evaluated, the place of the target found, the leak checks made, and the value stored.
use Rattle.std.proofs.Common.{◌≡◌, refl, sym, ap, ◌∙◌, subst, inl, ℕ, ◌+◌, true, false, Bool, not, List, [], ◌∷◌, ◌++◌, take, drop, length, get_or, append_assoc}
use Rattle.std.proofs.lemmas.Bool.{false≢true}
use Rattle.machine.specs.spark_base.declared.position.Pos.{Pos}
use Rattle.machine.specs.place_names.declared.act.Act.{Act}
use Rattle.machine.specs.place_names.declared.act.Act.TheVariants as act
use Rattle.machine.specs.place_names.declared.fact.Fact.{Fact}
use Rattle.machine.specs.place_names.Facts.{effect}
use Rattle.machine.specs.type_definitions.Types.{shape_of, words}
use Rattle.machine.specs.typed_tree.Trees.{TypedTree, Name}
use Rattle.machine.specs.flow_paths.Objects.{object_at, is_anonymous, view_of}
use Rattle.machine.specs.flow_paths.Names.{has_call, waiting, name_of}
use Rattle.machine.specs.flow_paths.Acts.{acts_in, stored_acts}
use Rattle.machine.specs.Words as machine
use Rattle.machine.specs.Memory.{Memory, Base, Place, fresh, no_slot, slots_at, variable_slots, stored}
use Rattle.machine.specs.Memory as memory
use Rattle.machine.specs.Evaluate.{Here, Now, AsValue, Evaluated, Done, Raises, Traps, followed_by, evaluate, steps_of, checked, variable_place, walked, place_of}
use Rattle.machine.specs.Evaluate as run
use Rattle.machine.specs.Step.{Stored}
use Rattle.machine.specs.States.{Waiting, Leak}
use Rattle.soundness.specs.OwnedWays.Ways.{OfVariable, OfHand, Loc, OfRoot, Way, Object, Reaches, Named, Allows, after, AllowsAll}
use Rattle.soundness.specs.OwnedWays.Ways as ways
use Rattle.soundness.specs.PartOffsets.Parts.{type_in, offset_in, has_part, IsSettled}
use Rattle.soundness.specs.Seen.{IsNear, content, trunk, steps_in, seen, home, is_view_formal}
use Rattle.soundness.specs.Changes.{leaks_at}
use Rattle.soundness.specs.Typed.{Matches, OwnsByShape, Kept, Spot, loc_of}
use Rattle.soundness.specs.TypedLaws.Needed.{Leads, Gives, IndexLaw}
use Rattle.soundness.proofs.Near.{near_under}
use Rattle.soundness.proofs.Walks.{way_along, Walked}
use Rattle.soundness.proofs.Scalars.{after_append, allows_both, acts, acts_append, number_along, named_along}
use Rattle.soundness.proofs.Stays.{Quiet}
use Rattle.soundness.proofs.Taking.{Takes, no_takes}
use Rattle.soundness.proofs.Lasting.{put_away}
use Rattle.soundness.proofs.Evaluated.{regrouped, Keeps}
use Rattle.soundness.proofs.Memories.{put_other}
use Rattle.soundness.proofs.Steps.{plain_end}
use Rattle.soundness.specs.OwnedLoans.Views.{Around, Views, expand, Viewed}
use Rattle.soundness.proofs.OwnedLoans.Allowed.{write_open}
use Rattle.soundness.specs.ViewedSoundness.Holds.{IsNamed, PartsAreNamed, is_view, is_fixed, Holds, AllKeep, Seeing}
use Rattle.soundness.proofs.ViewedSoundness.Names.{Starts, changed_owners, is_place, parts_same}
use Rattle.soundness.proofs.ViewedSoundness.ViewKinds.{either, free_sees, free_formal, view_access, not_view, bundle_view}
use Rattle.soundness.proofs.ViewedSoundness.Stays.{Goes, no_selectors, steps_taking, name_on}
use Rattle.soundness.proofs.ViewedSoundness.Moments.{stored_viewed}
use Rattle.soundness.specs.ViewedSoundness.Taken.{GivesPlainly}
use Rattle.soundness.proofs.ViewedSoundness.Evaluated.{keep_both, matches_named, gives_plainly, Ready, GivenOn, live_trunk, checked_on, evaluated_on}

other_base : (f x g y : ℕ) → OfVariable f x ≡ OfVariable g y → memory.OfVariable f x ≡ memory.OfVariable g y
other_base f x g y e = (let a : f ≡ g = cc in let b : x ≡ y = cc in cc)

module _ (h : Here) (sees : ℕ → Bool) (seeing : Seeing h.typing sees) (settled : IsSettled h.typing.table) (leaks : List Leak) (waits : List (List machine.Word)) (other : Around (home h.typing h.frame))
    (alone : (w : Way) → IsNear h.frame w → other.gone w → ⊥) (keeps : Keeps h.typing)
    (index_law : IndexLaw) (own_law : OwnsByShape h.typing.table)
    (v : Views) (parts_named : PartsAreNamed h.typing.table) where
  -- What it comes to: a state that is sound and typed once the value is stored after its leak
  -- checks, or an exception.
  abbrev pub Assigns : List Waiting → List Fact → Evaluated Stored → Type 0
  Assigns hands facts (Done st n) =
      ((pos : Pos) → Viewed (home h.typing h.frame) sees other v
      (seen h.typing (stored h.typing st.place st.words n.memory) hands (leaks ++ leaks_at h.typing pos n.memory st.place)) facts)
      × Kept h.typing (stored h.typing st.place st.words n.memory) hands
      × Holds h.typing sees h.frame v (stored h.typing st.place st.words n.memory)
  Assigns hands facts (Raises e n) = Unit {0}
  Assigns hands facts (Traps t n) = ⊥

  -- where a name leads that isn't a formal itself that owns nothing
  pub place_owns : (m : Memory) (hands : List Waiting) (facts : List Fact) (x t : ℕ) (way : List run.Step)
      → Ready h sees seeing settled leaks waits other alone keeps index_law own_law v parts_named m hands facts → sees x ≡ false → (is_view_formal h.typing x ≡ true → way ≡ [] → ⊥)
      → Starts h.typing.table (object_at h.typing x).of way t → (l : Loc)
      → Reaches (seen h.typing m hands leaks) (expand v (way_along way (Object (OfVariable (home h.typing h.frame x) x)))) l
      → (content h.typing m hands (trunk l)).owns ≡ true
  place_owns m hands facts x t way ready plain whole starts l reaches =
      let w : Way = way_along way (Object (OfVariable (home h.typing h.frame x) x)) in
      let live = live_trunk h sees seeing settled leaks waits other alone keeps index_law own_law v parts_named m hands ready.viewed.owned in
      live (expand v w) l
      (changed_owners h sees seeing settled hands leaks m waits other facts v ready.kept ready.viewed ready.holds alone live x t way plain whole starts l reaches) reaches

  -- no place of a named type is in the variable of a view
  pub no_view_place : (m : Memory) (hands : List Waiting) (t : ℕ) (k : Place) (l : Loc) → IsNamed h.typing.table t → k.of ≡ t → Spot h.typing m hands k l
      → (content h.typing m hands (trunk l)).owns ≡ true
      → (y : ℕ) → is_view h.typing y ≡ true → k.base ≡ memory.OfVariable (home h.typing h.frame y) y → ⊥
  no_view_place m hands t k l named of spot owns y sight base =
      let root : trunk l ≡ OfRoot (OfVariable (home h.typing h.frame y) y) = spot.base ∙ ap loc_of base in
      let own : is_view_formal h.typing y ≡ false =
      not_true (is_view_formal h.typing y) (sym (ap (λ z. (content h.typing m hands z).owns) root) ∙ owns) in
      let view : is_anonymous (view_of h.typing y) ≡ true = either (is_anonymous (view_of h.typing y)) (is_view_formal h.typing y) sight own in
      let plain = view_access (shape_of h.typing.table (object_at h.typing y).of) view in
      let there : has_part h.typing.table (object_at h.typing y).of (steps_in l) ≡ true =
      subst (λ z. has_part h.typing.table (content h.typing m hands z).of (steps_in l) ≡ true) root spot.there in
      let none = plain_end h.typing.table settled (object_at h.typing y).of plain.0 plain.1 (steps_in l) there in
      let fits : Matches h.typing.table k.of (object_at h.typing y).of =
      subst (λ p. Matches h.typing.table k.of (type_in h.typing.table (object_at h.typing y).of p)) none
      (subst (λ z. Matches h.typing.table k.of (type_in h.typing.table (content h.typing m hands z).of (steps_in l))) root spot.of) in
      not_view h.typing.table (object_at h.typing y).of view (matches_named h.typing.table k.of (object_at h.typing y).of fits (subst (IsNamed h.typing.table) (sym of) named))
    where
      not_true : (b : Bool) → not b ≡ true → b ≡ false
      not_true true e = absurd (false≢true e)
      not_true false e = refl

  -- a store elsewhere leaves what the variables of views have
  pub holds_stored : (m : Memory) (k : Place) (ws : List machine.Word)
      → ((y : ℕ) → is_view h.typing y ≡ true → k.base ≡ memory.OfVariable (home h.typing h.frame y) y → ⊥)
      → Holds h.typing sees h.frame v m → Holds h.typing sees h.frame v (stored h.typing k ws m)
  holds_stored m k ws off holds = record {
    held = λ y n view bare e. holds.held y n view bare (sym (ap (λ z. (get_or z 0 no_slot).word) (same y view k.base (off y view))) ∙ e);
    only = holds.only;
    owners = holds.owners;
    access = holds.access;
    own = holds.own;
    taken = holds.taken;
    parts = parts_same h.typing sees h.frame v m (stored h.typing k ws m)
        (λ y p bundle. ap (λ z. (get_or z (offset_in h.typing.table (object_at h.typing y).of p) no_slot).word) (same y (bundle_view h.typing y bundle) k.base (off y (bundle_view h.typing y bundle))))
        holds.parts;
  }
    where
      same : (y : ℕ) → is_view h.typing y ≡ true → (b : Base) → (b ≡ memory.OfVariable (home h.typing h.frame y) y → ⊥)
          → variable_slots h.typing (home h.typing h.frame y) y (memory.put b (take k.at (slots_at h.typing m k.base) ++ fresh ws ++ drop (k.at + length (fresh ws)) (slots_at h.typing m k.base)) m).variables
          ≡ variable_slots h.typing (home h.typing h.frame y) y m.variables
      same y view (memory.OfCell n) ne = refl
      same y view (memory.OfVariable f x) ne =
          put_other h.typing f x (home h.typing h.frame y) y (λ e. ne (other_base f x (home h.typing h.frame y) y e))
          (take k.at (slots_at h.typing m k.base) ++ fresh ws ++ drop (k.at + length (fresh ws)) (slots_at h.typing m k.base)) m.variables

  -- what is written isn't a formal itself
  pub whole : (x t : ℕ) (steps : TypedTree) (way : List run.Step) → is_fixed h.typing sees (name_of x steps) ≡ false
      → Goes h.typing.table (object_at h.typing x).of t steps way → is_view_formal h.typing x ≡ true → way ≡ [] → ⊥
  whole x t steps way free goes formal none =
      free_formal h.typing sees (name_of x steps) free formal (no_selectors h.typing.table (object_at h.typing x).of t steps way goes none)

  -- the place is found, with the value in hand
  found : (on : List (List machine.Word)) (m : Memory) (hands : List Waiting) (facts : List Fact) (x t : ℕ) (steps : TypedTree) (ws : List machine.Word)
      → Ready h sees seeing settled leaks waits other alone keeps index_law own_law v parts_named m (record { of = t; words = ws } ∷ hands) facts
      → length ws ≡ words h.typing.table t → IsNamed h.typing.table t → is_fixed h.typing sees (name_of x steps) ≡ false
      → (way : List run.Step) → Goes h.typing.table (object_at h.typing x).of t steps way → Allows facts (act.Write (name_of x steps))
      → (y : Evaluated Place) → Walked h.typing settled (record { of = t; words = ws } ∷ hands) leaks m on (expand v (way_along way (Object (OfVariable (home h.typing h.frame x) x)))) t y
      → Assigns hands (effect (act.Write (name_of x steps)) facts) (followed_by y (λ k now. Done (record { words = ws; place = k }) now))
  found on m hands facts x t steps ws ready long own free way goes allowed (Done k n) (l, same, spot, reaches, of) = (
    λ pos. (
        let w : Way = way_along way (Object (OfVariable (home h.typing h.frame x) x)) in
        let named : Named (home h.typing h.frame) w = named_along (home h.typing h.frame) way (Object (OfVariable (home h.typing h.frame x) x)) refl in
        let called : ways.name_of w ≡ name_of x steps = (λ j. record {
          root = number_along way (Object (OfVariable (home h.typing h.frame x) x)) j;
          sels = goes.sels (Object (OfVariable (home h.typing h.frame x) x)) j;
        }) in
        subst (λ z. Viewed (home h.typing h.frame) sees other v (seen h.typing (stored h.typing k ws z.memory) hands (leaks ++ leaks_at h.typing pos z.memory k)) (effect (act.Write (name_of x steps)) facts))
        (sym same)
        (subst (λ z. Viewed (home h.typing h.frame) sees other v (seen h.typing (stored h.typing k ws m) hands (leaks ++ leaks_at h.typing pos m k)) (effect (act.Write z) facts)) called
        (stored_viewed h.typing settled (home h.typing h.frame) sees other v m (record { of = t; words = ws }) hands leaks facts k l w pos ready.viewed (λ z b u o. alone b (near_under h.frame (Object (OfHand z)) b u tt) o)
        ready.kept spot named (ap sees (number_along way (Object (OfVariable (home h.typing h.frame x) x))) ∙ free_sees h.typing sees (name_of x steps) free)
        (is_place h.typing v (home h.typing h.frame x) x t way goes.lead own (whole x t steps way free goes) ready.holds.only) reaches
        (place_owns m (record { of = t; words = ws } ∷ hands) facts x t way ready (free_sees h.typing sees (name_of x steps) free) (whole x t steps way free goes) goes.lead l reaches)
        (subst (λ z. Allows facts (act.Write z)) (sym called) allowed)
        (long ∙ ap (words h.typing.table) (sym of)) (inl (ap (shape_of h.typing.table) (sym of)))))),
    subst (λ z. Kept h.typing (stored h.typing k ws z.memory) hands) (sym same)
        (put_away h.typing settled m (record { of = t; words = ws }) hands k l ready.kept spot (long ∙ ap (words h.typing.table) (sym of))
        (inl (ap (shape_of h.typing.table) (sym of)))),
    subst (λ z. Holds h.typing sees h.frame v (stored h.typing k ws z.memory)) (sym same)
        (holds_stored m k ws (no_view_place m (record { of = t; words = ws } ∷ hands) t k l own of spot
        (place_owns m (record { of = t; words = ws } ∷ hands) facts x t way ready (free_sees h.typing sees (name_of x steps) free) (whole x t steps way free goes) goes.lead l reaches)) ready.holds),
  )
  found on m hands facts x t steps ws ready long own free way goes allowed (Raises e n) is = tt
  found on m hands facts x t steps ws ready long own free way goes allowed (Traps e n) none = none

  then_found : {A : Type 0} (now : Now) (P : A → Type 0) (hands : List Waiting) (facts : List Fact) (y : Evaluated A) (f : A → Now → Evaluated Stored)
      → Quiet now P y → ((a : A) → P a → Assigns hands facts (f a now)) → Assigns hands facts (followed_by y f)
  then_found now P hands facts (Done a n) f (same, p) next = subst (λ z. Assigns hands facts (f a z)) (sym same) (next a p)
  then_found now P hands facts (Raises e n) f is next = tt
  then_found now P hands facts (Traps t n) f none next = none

  -- the value is there
  pub then_placed : (mid on : List (List machine.Word)) (p : Pos) (x t : ℕ) (steps : TypedTree) (hands : List Waiting) (facts : List Fact) → IsNamed h.typing.table t
      → is_fixed h.typing sees (name_of x steps) ≡ false → Leads h.typing (object_at h.typing x).of steps t
      → Takes (waiting steps) mid on → AllowsAll facts (acts (acts_in h.typing steps) ++ act.Write (name_of x steps) ∷ []) → (y : Evaluated (List machine.Word))
      → GivenOn h sees seeing settled leaks waits other alone keeps index_law own_law v parts_named mid t hands facts y
      → Assigns hands (effect (act.Write (name_of x steps)) (after (acts (acts_in h.typing steps)) facts))
      (followed_by y (λ ws now. followed_by (place_of h (Name p x steps t) now) (λ k now. Done (record { words = ws; place = k }) now)))
  then_placed mid on p x t steps hands facts own free lead takes allowed (Done ws n) (ready, long, same) =
      let now : Now = record { memory = n.memory; waits = mid } in
      let got : Waiting = record { of = t; words = ws } in
      let each = allows_both facts (acts (acts_in h.typing steps)) (act.Write (name_of x steps) ∷ []) allowed in
      let live = live_trunk h sees seeing settled leaks waits other alone keeps index_law own_law v parts_named n.memory (got ∷ hands) ready.viewed.owned in
      let inner = steps_taking h sees seeing settled (got ∷ hands) leaks n.memory waits other facts v ready.kept ready.viewed ready.holds alone live index_law own_law parts_named
      (object_at h.typing x).of t steps lead mid on takes each.0 in
      let writes : Allows facts (act.Write (name_of x steps)) = subst (λ z. Allows z (act.Write (name_of x steps))) inner.1 each.1.0 in
      subst (λ z. Assigns hands (effect (act.Write (name_of x steps)) (after (acts (acts_in h.typing steps)) facts))
      (followed_by (place_of h (Name p x steps t) (record { memory = n.memory; waits = z })) (λ k now. Done (record { words = ws; place = k }) now))) (sym same)
      (subst (λ z. Assigns hands (effect (act.Write (name_of x steps)) z)
      (followed_by (place_of h (Name p x steps t) now) (λ k now. Done (record { words = ws; place = k }) now))) (sym inner.1)
      (subst (λ z. Assigns hands (effect (act.Write (name_of x steps)) facts) z)
      (sym (regrouped (steps_of h steps now) (λ way now. walked h.typing way (variable_place h x) now) (λ k now. Done (record { words = ws; place = k }) now)))
      (then_found (record { memory = n.memory; waits = on }) (λ way. Goes h.typing.table (object_at h.typing x).of t steps way) hands (effect (act.Write (name_of x steps)) facts) (steps_of h steps now)
      (λ way now. followed_by (walked h.typing way (variable_place h x) now) (λ k now. Done (record { words = ws; place = k }) now)) inner.0
      (λ way goes. found on n.memory hands facts x t steps ws ready long own free way goes writes (walked h.typing way (variable_place h x) (record { memory = n.memory; waits = on }))
      (name_on h sees seeing settled (got ∷ hands) leaks n.memory waits other facts v ready.kept ready.viewed ready.holds alone live index_law own_law parts_named on x steps t way goes
      (λ w named same. write_open facts w (subst (λ z. Allows facts (act.Write z)) (sym same) writes)))))))
  then_placed mid on p x t steps hands facts own free lead takes allowed (Raises e n) given = tt
  then_placed mid on p x t steps hands facts own free lead takes allowed (Traps e n) none = none

  -- k := e, for a target that isn't a borrower or observer
  pub assigned_on : (before mid on : List (List machine.Word)) (p : Pos) (x t : ℕ) (steps e : TypedTree) → IsNamed h.typing.table t → Gives h.typing t e
      → Leads h.typing (object_at h.typing x).of steps t
      → GivesPlainly h.typing e → Takes (waiting e) before mid → Takes (waiting steps) mid on → (m : Memory) (hands : List Waiting) (facts : List Fact)
      → Ready h sees seeing settled leaks waits other alone keeps index_law own_law v parts_named m hands facts
      → AllowsAll facts (acts (stored_acts h.typing (Name p x steps t) e)) → AllKeep (is_fixed h.typing sees) (acts (stored_acts h.typing (Name p x steps t) e))
      → Assigns hands (after (acts (stored_acts h.typing (Name p x steps t) e)) facts)
      (followed_by (followed_by (evaluate h AsValue e (record { memory = m; waits = before })) (checked h t))
      (λ ws now. followed_by (place_of h (Name p x steps t) now) (λ k now. Done (record { words = ws; place = k }) now)))
  assigned_on before mid on p x t steps e own gives lead calls takes takes' m hands facts ready allowed keep =
      let a : List Act = acts (acts_in h.typing e) in
      let b : List Act = acts (acts_in h.typing steps) in
      let whole : acts (stored_acts h.typing (Name p x steps t) e) ≡ a ++ (b ++ act.Write (name_of x steps) ∷ []) =
      acts_append (acts_in h.typing e ++ acts_in h.typing steps) (record { pos = p; act = act.Write (name_of x steps) } ∷ [])
      ∙ ap (λ z. z ++ (act.Write (name_of x steps) ∷ [])) (acts_append (acts_in h.typing e) (acts_in h.typing steps))
      ∙ append_assoc a b (act.Write (name_of x steps) ∷ []) in
      let each = allows_both facts a (b ++ act.Write (name_of x steps) ∷ []) (subst (AllowsAll facts) whole allowed) in
      let names = keep_both (is_fixed h.typing sees) a (b ++ act.Write (name_of x steps) ∷ []) (subst (AllKeep (is_fixed h.typing sees)) whole keep) in
      let last = keep_both (is_fixed h.typing sees) b (act.Write (name_of x steps) ∷ []) names.1 in
      let given = checked_on h sees seeing settled leaks waits other alone keeps index_law own_law v parts_named mid t t hands (after a facts)
      (evaluate h AsValue e (record { memory = m; waits = before }))
      (evaluated_on h sees seeing settled leaks waits other alone keeps index_law own_law v parts_named e t gives calls before mid takes m hands facts ready each.0 own names.0) in
      let behind : after (acts (stored_acts h.typing (Name p x steps t) e)) facts ≡ effect (act.Write (name_of x steps)) (after b (after a facts)) =
      ap (λ z. after z facts) whole ∙ after_append a (b ++ act.Write (name_of x steps) ∷ []) facts
      ∙ after_append b (act.Write (name_of x steps) ∷ []) (after a facts) in
      subst (λ z. Assigns hands z (followed_by (followed_by (evaluate h AsValue e (record { memory = m; waits = before })) (checked h t))
      (λ ws now. followed_by (place_of h (Name p x steps t) now) (λ k now. Done (record { words = ws; place = k }) now)))) (sym behind)
      (then_placed mid on p x t steps hands (after a facts) own last.1.0 lead takes' each.1 (followed_by (evaluate h AsValue e (record { memory = m; waits = before })) (checked h t)) given)

  pub assigned : (p : Pos) (x t : ℕ) (steps e : TypedTree) → IsNamed h.typing.table t → Gives h.typing t e → Leads h.typing (object_at h.typing x).of steps t
      → has_call e ≡ false → has_call steps ≡ false → (m : Memory) (hands : List Waiting) (facts : List Fact)
      → Ready h sees seeing settled leaks waits other alone keeps index_law own_law v parts_named m hands facts
      → AllowsAll facts (acts (stored_acts h.typing (Name p x steps t) e)) → AllKeep (is_fixed h.typing sees) (acts (stored_acts h.typing (Name p x steps t) e))
      → Assigns hands (after (acts (stored_acts h.typing (Name p x steps t) e)) facts)
      (followed_by (followed_by (evaluate h AsValue e (record { memory = m; waits = waits })) (checked h t))
      (λ ws now. followed_by (place_of h (Name p x steps t) now) (λ k now. Done (record { words = ws; place = k }) now)))
  assigned p x t steps e own gives lead calls calls' m hands facts ready allowed keep =
      assigned_on waits waits waits p x t steps e own gives lead (gives_plainly h.typing e (inl calls)) (no_takes e calls waits) (no_takes steps calls' waits) m hands facts ready allowed keep
