-- Facts without an element stay exact in an assignment to what isn't a view, and its excused leak checks don't fail.
use Rattle.std.proofs.Common.{◌≡◌, refl, sym, ap, ◌∙◌, subst, inl, ℕ, false, List, [], ◌∷◌, ◌++◌, map, length, append_assoc, Bool}
use Rattle.soundness.specs.ViewedSoundness.Taken.{GivesPlainly}
use Rattle.machine.specs.spark_base.Lists.{Has}
use Rattle.machine.specs.spark_base.declared.position.Pos.{Pos}
use Rattle.machine.specs.place_names.declared.act.Act.{Act}
use Rattle.machine.specs.place_names.declared.act.Act.TheVariants as act
use Rattle.machine.specs.place_names.declared.fact.Fact.{Fact}
use Rattle.machine.specs.place_names.Names.{Name as PlaceName}
use Rattle.machine.specs.place_names.Facts.{effect}
use Rattle.machine.specs.type_definitions.Types.{shape_of, words, parts}
use Rattle.machine.specs.typed_tree.Trees.{TypedTree, Name}
use Rattle.machine.specs.flow_paths.declared.point.LeakSpot.{LeakSpot}
use Rattle.machine.specs.flow_paths.Objects.{object_at}
use Rattle.machine.specs.flow_paths.Names.{waiting, name_of}
use Rattle.machine.specs.flow_paths.Acts.{acts_in, stored_acts, spot}
use Rattle.machine.specs.Words as machine
use Rattle.machine.specs.Memory.{Memory, Place, stored}
use Rattle.machine.specs.Evaluate.{Here, Now, AsValue, Evaluated, Done, Raises, Traps, followed_by, evaluate, steps_of, checked, variable_place, walked, place_of}
use Rattle.machine.specs.Evaluate as run
use Rattle.machine.specs.Calls.{checks_at}
use Rattle.machine.specs.Step.{Stored}
use Rattle.machine.specs.States.{Waiting, Leak}
use Rattle.soundness.specs.OwnedWays.Ways.{OfVariable, Way, Object, Named, Allows, after, AllowsAll, number_of}
use Rattle.soundness.specs.OwnedWays.Ways as ways
use Rattle.soundness.specs.PartOffsets.Parts.{IsSettled}
use Rattle.soundness.specs.Seen.{seen, home, IsNear}
use Rattle.soundness.specs.Typed.{OwnsByShape}
use Rattle.soundness.specs.TypedLaws.Needed.{Leads, Gives, IndexLaw}
use Rattle.soundness.proofs.Walks.{way_along, Walked}
use Rattle.soundness.proofs.Scalars.{after_append, allows_both, acts, acts_append, number_along, named_along}
use Rattle.soundness.proofs.Taking.{Takes}
use Rattle.soundness.proofs.Stays.{Quiet}
use Rattle.soundness.proofs.Evaluated.{regrouped, Keeps}
use Rattle.soundness.specs.OwnedLoans.Views.{Around, Views, expand}
use Rattle.soundness.proofs.OwnedLoans.Allowed.{write_open}
use Rattle.soundness.specs.ViewedSoundness.Holds.{is_fixed, IsNamed, PartsAreNamed, AllKeep, Seeing}
use Rattle.soundness.proofs.ViewedSoundness.Stays.{Goes, steps_taking, name_on}
use Rattle.soundness.proofs.ViewedSoundness.Evaluated.{keep_both, Ready, GivenOn, live_trunk, checked_on, evaluated_on}
use Rattle.soundness.specs.ExactFacts.Exact.{NoneFails, Knows}
use Rattle.recycled_runs.specs.ViewedFacts.Exact.{IsExact}
use Rattle.recycled_runs.proofs.ViewedFacts.Steps.{IsAway, definite_variable, IsOthers, of_others}
use Rattle.recycled_runs.proofs.ViewedFacts.Memories.{stored_exact}
use Rattle.recycled_runs.proofs.ViewedFacts.Evaluated.{ExactTo, checked_exact, exact_on}
use Rattle.recycled_runs.proofs.ViewedFacts.Checks.{place_holds}
use Rattle.soundness.proofs.ViewedSoundness.Stored.{place_owns, whole}
use Rattle.soundness.proofs.ViewedSoundness.ViewKinds.{free_sees}

module _ (h : Here) (sees : ℕ → Bool) (seeing : Seeing h.typing sees) (settled : IsSettled h.typing.table) (leaks : List Leak) (waits : List (List machine.Word)) (other : Around (home h.typing h.frame))
    (alone : (w : Way) → IsNear h.frame w → other.gone w → ⊥) (keeps : Keeps h.typing)
    (index_law : IndexLaw) (own_law : OwnsByShape h.typing.table)
    (v : Views) (parts_named : PartsAreNamed h.typing.table)
    (elsewhere : Way → Type 0) (away : (w : Way) → elsewhere w → IsAway h.typing h.frame other w) (Excused : LeakSpot → Type 0) where
  abbrev ReadyIn : Memory → List Waiting → List Fact → Type 0
  ReadyIn m hands facts = Ready h sees seeing settled leaks waits other alone keeps index_law own_law v parts_named m hands facts

  abbrev Exact : Memory → List Fact → Type 0
  Exact m facts = IsExact h.typing (home h.typing h.frame) v elsewhere m facts

  apart : (w : Way) → elsewhere w → IsOthers (home h.typing h.frame) other w
  apart w e = of_others h.typing h.frame other w (away w e)

  -- What it comes to: facts are exact once the value is stored, and no check of the place fails that
  -- is excused by the facts before.
  abbrev pub StoresExact : PlaceName → ℕ → List Fact → List Fact → Evaluated Stored → Type 0
  StoresExact name t before behind (Done st n) =
      IsExact h.typing (home h.typing h.frame) v elsewhere (stored h.typing st.place st.words n.memory) behind
      × ((pos pos' : Pos) (count : ℕ) → Knows Excused pos' name count before (parts h.typing.table t)
      → NoneFails Excused (map (spot pos' name count) (parts h.typing.table t)) (checks_at h.typing pos n.memory st.place))
  StoresExact name t before behind (Raises e n) = Unit {0}
  StoresExact name t before behind (Traps e n) = Unit {0}

  -- the place is found, with the value in hand
  found_exact : (on : List (List machine.Word)) (p : Pos) (m : Memory) (hands : List Waiting) (facts : List Fact) (x t : ℕ) (steps : TypedTree) (ws : List machine.Word)
      → ReadyIn m (record { of = t; words = ws } ∷ hands) facts
      → Exact m facts → length ws ≡ words h.typing.table t → is_fixed h.typing sees (name_of x steps) ≡ false
      → (way : List run.Step) → Goes h.typing.table (object_at h.typing x).of t steps way → Allows facts (act.Write (name_of x steps))
      → (y : Evaluated Place) → Walked h.typing settled (record { of = t; words = ws } ∷ hands) leaks m on (expand v (way_along way (Object (OfVariable (home h.typing h.frame x) x)))) t y
      → StoresExact (name_of x steps) t facts (effect (act.Write (name_of x steps)) facts) (followed_by y (λ k now. Done (record { words = ws; place = k }) now))
  found_exact on p m hands facts x t steps ws ready exact long free way goes allowed (Done k n) (l, same, place, reaches, of) =
      subst (λ (z : Now). StoresExact (name_of x steps) t facts (effect (act.Write (name_of x steps)) facts) (Done (record { words = ws; place = k }) z)) (sym same)
      (subst (λ z. StoresExact z t facts (effect (act.Write z) facts) (Done (record { words = ws; place = k }) (record { memory = m; waits = on }))) called (
        stored_exact h.typing settled (home h.typing h.frame) sees other v elsewhere apart m (record { of = t; words = ws }) hands leaks facts k l w p
            ready.viewed ready.kept place named plain reaches
            (place_owns h sees seeing settled leaks waits other alone keeps index_law own_law v parts_named m (record { of = t; words = ws } ∷ hands) facts x t way ready (free_sees h.typing sees (name_of x steps) free) (whole h sees seeing settled leaks waits other alone keeps index_law own_law v parts_named x t steps way free goes) goes.lead l reaches)
            (subst (λ z. Allows facts (act.Write z)) (sym called) allowed)
            (long ∙ ap (words h.typing.table) (sym of)) (inl (ap (shape_of h.typing.table) (sym of))) exact,
        λ pos pos' count known.
            subst (λ z. NoneFails Excused (map (spot pos' (ways.name_of w) count) (parts h.typing.table z)) (checks_at h.typing pos m k)) of
            (place_holds h.typing settled (home h.typing h.frame) v elsewhere m (record { of = t; words = ws } ∷ hands) leaks facts
            (definite_variable (home h.typing h.frame) sees other v elsewhere apart (seen h.typing m (record { of = t; words = ws } ∷ hands) leaks) facts ready.viewed)
            exact k l w place named reaches Excused pos pos' count
            (λ q has. known q (subst (λ z. Has (parts h.typing.table z) q) of has))),
      ))
    where
      w : Way
      w = way_along way (Object (OfVariable (home h.typing h.frame x) x))

      named : Named (home h.typing h.frame) (way_along way (Object (OfVariable (home h.typing h.frame x) x)))
      named = named_along (home h.typing h.frame) way (Object (OfVariable (home h.typing h.frame x) x)) refl

      plain : sees (number_of (way_along way (Object (OfVariable (home h.typing h.frame x) x)))) ≡ false
      plain = ap sees (number_along way (Object (OfVariable (home h.typing h.frame x) x))) ∙ free_sees h.typing sees (name_of x steps) free

      called : ways.name_of (way_along way (Object (OfVariable (home h.typing h.frame x) x))) ≡ name_of x steps
      called = (λ j. record {
        root = number_along way (Object (OfVariable (home h.typing h.frame x) x)) j;
        sels = goes.sels (Object (OfVariable (home h.typing h.frame x) x)) j;
      })
  found_exact on p m hands facts x t steps ws ready exact long free way goes allowed (Raises e n) is = tt
  found_exact on p m hands facts x t steps ws ready exact long free way goes allowed (Traps e n) none = tt

  then_found : {A : Type 0} (now : Now) (P : A → Type 0) (name : PlaceName) (t : ℕ) (facts facts' : List Fact) (y : Evaluated A) (f : A → Now → Evaluated Stored)
      → Quiet now P y → ((a : A) → P a → StoresExact name t facts facts' (f a now)) → StoresExact name t facts facts' (followed_by y f)
  then_found now P name t facts facts' (Done a n) f (same, p) next = subst (λ z. StoresExact name t facts facts' (f a z)) (sym same) (next a p)
  then_found now P name t facts facts' (Raises e n) f is next = tt
  then_found now P name t facts facts' (Traps e n) f none next = tt

  -- the value is there
  pub then_placed : (mid on : List (List machine.Word)) (p : Pos) (x t : ℕ) (steps : TypedTree) (hands : List Waiting) (facts : List Fact) → is_fixed h.typing sees (name_of x steps) ≡ false
      → Leads h.typing (object_at h.typing x).of steps t
      → Takes (waiting steps) mid on → AllowsAll facts (acts (acts_in h.typing steps) ++ act.Write (name_of x steps) ∷ []) → (y : Evaluated (List machine.Word))
      → GivenOn h sees seeing settled leaks waits other alone keeps index_law own_law v parts_named mid t hands facts y
      → ExactTo h sees seeing settled leaks waits other alone keeps index_law own_law v parts_named elsewhere away facts y
      → StoresExact (name_of x steps) t (after (acts (acts_in h.typing steps)) facts) (effect (act.Write (name_of x steps)) (after (acts (acts_in h.typing steps)) facts))
      (followed_by y (λ ws now. followed_by (place_of h (Name p x steps t) now) (λ k now. Done (record { words = ws; place = k }) now)))
  then_placed mid on p x t steps hands facts free lead takes allowed (Done ws n) (ready, long, same) exact =
      let now : Now = record { memory = n.memory; waits = mid } in
      let later : Now = record { memory = n.memory; waits = on } in
      let got : Waiting = record { of = t; words = ws } in
      let each = allows_both facts (acts (acts_in h.typing steps)) (act.Write (name_of x steps) ∷ []) allowed in
      let live = live_trunk h sees seeing settled leaks waits other alone keeps index_law own_law v parts_named n.memory (got ∷ hands) ready.viewed.owned in
      let inner = steps_taking h sees seeing settled (got ∷ hands) leaks n.memory waits other facts v ready.kept ready.viewed ready.holds alone live index_law own_law parts_named
      (object_at h.typing x).of t steps lead mid on takes each.0 in
      let writes : Allows facts (act.Write (name_of x steps)) = subst (λ z. Allows z (act.Write (name_of x steps))) inner.1 each.1.0 in
      subst (λ z. StoresExact (name_of x steps) t (after (acts (acts_in h.typing steps)) facts) (effect (act.Write (name_of x steps)) (after (acts (acts_in h.typing steps)) facts))
      (followed_by (place_of h (Name p x steps t) (record { memory = n.memory; waits = z })) (λ k now. Done (record { words = ws; place = k }) now))) (sym same)
      (subst (λ z. StoresExact (name_of x steps) t z (effect (act.Write (name_of x steps)) z)
      (followed_by (place_of h (Name p x steps t) now) (λ k now. Done (record { words = ws; place = k }) now))) (sym inner.1)
      (subst (λ z. StoresExact (name_of x steps) t facts (effect (act.Write (name_of x steps)) facts) z)
      (sym (regrouped (steps_of h steps now) (λ way now. walked h.typing way (variable_place h x) now) (λ k now. Done (record { words = ws; place = k }) now)))
      (then_found later (λ way. Goes h.typing.table (object_at h.typing x).of t steps way) (name_of x steps) t facts (effect (act.Write (name_of x steps)) facts) (steps_of h steps now)
      (λ way now. followed_by (walked h.typing way (variable_place h x) now) (λ k now. Done (record { words = ws; place = k }) now)) inner.0
      (λ way goes. found_exact on p n.memory hands facts x t steps ws ready exact long free way goes writes (walked h.typing way (variable_place h x) later)
      (name_on h sees seeing settled (got ∷ hands) leaks n.memory waits other facts v ready.kept ready.viewed ready.holds alone live index_law own_law parts_named on x steps t way goes
      (λ w named same. write_open facts w (subst (λ z. Allows facts (act.Write z)) (sym same) writes)))))))
  then_placed mid on p x t steps hands facts free lead takes allowed (Raises e n) given exact = tt
  then_placed mid on p x t steps hands facts free lead takes allowed (Traps e n) none exact = tt

  -- k := e, for a target that isn't a borrower or observer
  pub assigned_exact : (before mid on : List (List machine.Word)) (p : Pos) (x t : ℕ) (steps e : TypedTree) → IsNamed h.typing.table t → Gives h.typing t e
      → Leads h.typing (object_at h.typing x).of steps t
      → GivesPlainly h.typing e → Takes (waiting e) before mid → Takes (waiting steps) mid on → (m : Memory) (hands : List Waiting) (facts : List Fact)
      → ReadyIn m hands facts
      → AllowsAll facts (acts (stored_acts h.typing (Name p x steps t) e)) → AllKeep (is_fixed h.typing sees) (acts (stored_acts h.typing (Name p x steps t) e))
      → Exact m facts
      → StoresExact (name_of x steps) t (after (acts (acts_in h.typing e ++ acts_in h.typing steps)) facts) (after (acts (stored_acts h.typing (Name p x steps t) e)) facts)
      (followed_by (followed_by (evaluate h AsValue e (record { memory = m; waits = before })) (checked h t))
      (λ ws now. followed_by (place_of h (Name p x steps t) now) (λ k now. Done (record { words = ws; place = k }) now)))
  assigned_exact before mid on p x t steps e own gives lead calls takes takes' m hands facts ready allowed keep exact =
      let a : List Act = acts (acts_in h.typing e) in
      let b : List Act = acts (acts_in h.typing steps) in
      let now : Now = record { memory = m; waits = before } in
      let front : acts (acts_in h.typing e ++ acts_in h.typing steps) ≡ a ++ b = acts_append (acts_in h.typing e) (acts_in h.typing steps) in
      let whole : acts (stored_acts h.typing (Name p x steps t) e) ≡ a ++ (b ++ act.Write (name_of x steps) ∷ []) =
      acts_append (acts_in h.typing e ++ acts_in h.typing steps) (record { pos = p; act = act.Write (name_of x steps) } ∷ [])
      ∙ ap (λ z. z ++ (act.Write (name_of x steps) ∷ [])) front
      ∙ append_assoc a b (act.Write (name_of x steps) ∷ []) in
      let each = allows_both facts a (b ++ act.Write (name_of x steps) ∷ []) (subst (AllowsAll facts) whole allowed) in
      let names = keep_both (is_fixed h.typing sees) a (b ++ act.Write (name_of x steps) ∷ []) (subst (AllKeep (is_fixed h.typing sees)) whole keep) in
      let last = keep_both (is_fixed h.typing sees) b (act.Write (name_of x steps) ∷ []) names.1 in
      let given = checked_on h sees seeing settled leaks waits other alone keeps index_law own_law v parts_named mid t t hands (after a facts)
      (evaluate h AsValue e now)
      (evaluated_on h sees seeing settled leaks waits other alone keeps index_law own_law v parts_named e t gives calls before mid takes m hands facts ready each.0 own names.0) in
      let told = checked_exact h sees seeing settled leaks waits other alone keeps index_law own_law v parts_named elsewhere away t (after a facts) (evaluate h AsValue e now)
      (exact_on h sees seeing settled leaks waits other alone keeps index_law own_law v parts_named elsewhere away e t gives calls before mid takes m hands facts ready each.0 own names.0 exact) in
      let acted : after (acts (acts_in h.typing e ++ acts_in h.typing steps)) facts ≡ after b (after a facts) = ap (λ z. after z facts) front ∙ after_append a b facts in
      let behind : after (acts (stored_acts h.typing (Name p x steps t) e)) facts ≡ effect (act.Write (name_of x steps)) (after b (after a facts)) =
      ap (λ z. after z facts) whole ∙ after_append a (b ++ act.Write (name_of x steps) ∷ []) facts
      ∙ after_append b (act.Write (name_of x steps) ∷ []) (after a facts) in
      let result = then_placed mid on p x t steps hands (after a facts) last.1.0 lead takes' each.1 (followed_by (evaluate h AsValue e now) (checked h t)) given told in
      subst (λ z. StoresExact (name_of x steps) t z (after (acts (stored_acts h.typing (Name p x steps t) e)) facts)
      (followed_by (followed_by (evaluate h AsValue e now) (checked h t))
      (λ ws now. followed_by (place_of h (Name p x steps t) now) (λ k now. Done (record { words = ws; place = k }) now)))) (sym acted)
      (subst (λ z. StoresExact (name_of x steps) t (after b (after a facts)) z
      (followed_by (followed_by (evaluate h AsValue e now) (checked h t))
      (λ ws now. followed_by (place_of h (Name p x steps t) now) (λ k now. Done (record { words = ws; place = k }) now)))) (sym behind) result)
