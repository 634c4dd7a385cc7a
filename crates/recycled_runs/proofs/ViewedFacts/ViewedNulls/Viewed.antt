-- Names and expressions in programs with borrowers and observers behave as instructions ask.
use Rattle.std.proofs.Common.{◌≡◌, refl, sym, ap, ◌∙◌, subst, inl, ℕ, Bool, true, false, List, [], ◌∷◌}
use Rattle.std.proofs.lemmas.Bool.{true≢false}
use Rattle.machine.specs.place_names.declared.act.Act.TheVariants as act
use Rattle.machine.specs.place_names.declared.fact.Fact.{Fact}
use Rattle.machine.specs.place_names.declared.rule.Loan.TheVariants.{Borrowed}
use Rattle.machine.specs.place_names.Names.{Name as PlaceName}
use Rattle.machine.specs.type_definitions.declared.table.Shape.TheVariants as shape
use Rattle.machine.specs.type_definitions.Types.{Table, shape_of, view_of as view_of_shape, parts}
use Rattle.machine.specs.typed_tree.Trees.{TypedTree, Parens, Aggregate, Alike, New, More}
use Rattle.machine.specs.flow_paths.Objects.{Typing, object_at, is_anonymous}
use Rattle.machine.specs.flow_paths.Names.{name_of}
use Rattle.machine.specs.flow_paths.Acts.{acts_in}
use Rattle.machine.specs.Words as machine
use Rattle.machine.specs.Memory.{Memory}
use Rattle.machine.specs.Evaluate.{Here, Now, AsValue, Evaluated, Done, Raises, Traps, evaluate, variable_place, component_place, element_place, walked}
use Rattle.machine.specs.Evaluate as run
use Rattle.machine.specs.States.{Waiting, Leak}
use Rattle.soundness.specs.OwnedWays.Ways.{Component, Element, OfVariable, Loc, OfRoot, Way, Object, All, Reaches, Past, Allows, after}
use Rattle.soundness.specs.OwnedWays.Ways as ways
use Rattle.soundness.proofs.OwnedWays.Locations.{under_itself}
use Rattle.soundness.specs.PartOffsets.Parts.{IsSettled}
use Rattle.soundness.specs.Seen.{IsNear, content, trunk, seen, home, is_view_formal}
use Rattle.soundness.specs.Typed.{OwnsByShape, Spot}
use Rattle.soundness.specs.Sound.{goes_through_none}
use Rattle.soundness.specs.TypedLaws.Needed.{IndexLaw}
use Rattle.soundness.proofs.Walks.{way_along, past_along, Lead}
use Rattle.soundness.proofs.Scalars.{acts, number_along}
use Rattle.soundness.proofs.Lasting.{keeps}
use Rattle.soundness.specs.OwnedLoans.Views.{Around, Views, expand, ExcusedBy}
use Rattle.soundness.proofs.OwnedLoans.Safe.{Open, OpenWhole}
use Rattle.soundness.proofs.OwnedLoans.Allowed.{read_open, look_open, look_whole, move_open, move_unlent, move_unmoved, write_open, free_open, free_whole}
use Rattle.soundness.specs.ViewedSoundness.Taken.{GivesPlainly}
use Rattle.soundness.specs.ViewedSoundness.Holds.{is_fixed, IsNamed, PartsAreNamed, AllKeep, IsOwners, Seeing}
use Rattle.soundness.proofs.ViewedSoundness.Names.{Starts, name_walked}
use Rattle.soundness.proofs.ViewedSoundness.ViewKinds.{free_sees, free_formal}
use Rattle.soundness.proofs.ViewedSoundness.Stays.{Goes, taking, steps_taking, no_selectors}
use Rattle.soundness.proofs.ViewedSoundness.Evaluated.{keep_both, matches_named, part_named, Ready, GivenOn, live_trunk, evaluated_on}
use Rattle.recycled_runs.proofs.ViewedFacts.NullPlaces.Only.{OnlyOwners}
use Rattle.recycled_runs.proofs.ViewedFacts.ViewedNulls.Led.{owners_same}
use Rattle.soundness.proofs.ViewedSoundness.Walks.{walk, component_spot, element_spot}
use Rattle.recycled_runs.proofs.ViewedFacts.NullPlaces.Direct.{has_deref, past_deref, selectors_direct}
use Rattle.recycled_runs.proofs.ViewedFacts.NullPlaces.Laws.{Premises, LeadsSame, LeadsWhole, Behaves, GivenBy, Values, IsMovableAt, Finds}
use Rattle.recycled_runs.proofs.ViewedFacts.ViewedNulls.Names.{name_same, own_at, found_at, view_whole, access_found, owner_found}
use Rattle.viewed_steps.proofs.Views.{AreAccess}

-- the type of a view
pub anonymous_access : (c : Bool) → is_anonymous (view_of_shape (shape.Access 0 c false)) ≡ true
anonymous_access true = refl
anonymous_access false = refl

-- the calls of an expression are those of what is in it
pub gives_held : (s : Typing) (e : TypedTree) → GivesPlainly s (Parens e) → GivesPlainly s e
unfolding GivesPlainly
gives_held s e plain = plain

pub gives_filled : (s : Typing) (t : ℕ) (es : TypedTree) → GivesPlainly s (Aggregate t es) → GivesPlainly s es
unfolding GivesPlainly
gives_filled s t es plain = plain

pub gives_alike : (s : Typing) (t : ℕ) (e : TypedTree) → GivesPlainly s (Alike t e) → GivesPlainly s e
unfolding GivesPlainly
gives_alike s t e plain = plain

pub gives_made : (s : Typing) (t : ℕ) (e : TypedTree) → GivesPlainly s (New t e) → GivesPlainly s e
unfolding GivesPlainly
gives_made s t e plain = plain

pub gives_both : (s : Typing) (e rest : TypedTree) → GivesPlainly s (More e rest) → GivesPlainly s e × GivesPlainly s rest
unfolding GivesPlainly
gives_both s e rest plain = plain

-- What may own takes results of scalar types alone, but for a call alone. Nothing is moved, written or
-- freed through an observer, and no value is taken for a view.
abbrev pub viewed_premises : (h : Here) (sees : ℕ → Bool) → PartsAreNamed h.typing.table → Premises h
viewed_premises h sees parts_named = record {
  calls = λ b. Unit {0};
  both_calls = λ a b any. (tt, tt);
  gives = GivesPlainly h.typing;
  held = gives_held h.typing;
  filled = gives_filled h.typing;
  alike = gives_alike h.typing;
  made = gives_made h.typing;
  both_give = gives_both h.typing;
  keeps = AllKeep (is_fixed h.typing sees);
  both_keep = keep_both (is_fixed h.typing sees);
  takes = IsNamed h.typing.table;
  part = λ t i made. part_named h.typing.table parts_named t i (shape_of h.typing.table t) refl made;
  element = parts_named.element;
  new = λ want t d c n is fits. matches_named h.typing.table d t fits (parts_named.designated want d c n is);
  goes = λ t u steps way. Goes h.typing.table t u steps way;
}

-- Steps that go through no access value lead on without the word of a view.
direct_lead : (table : Table) (t u : ℕ) (way : List run.Step) (w : Way) → ((z : Way) → Past z (way_along way w) → ⊥) → Starts table t way u → Lead table t way u
direct_lead table t u [] w direct lead = lead
direct_lead table t u (run.ToComponent i ∷ way) w direct lead = lead
direct_lead table t u (run.ToElement n ∷ way) w direct lead = lead
direct_lead table t u (run.ToDesignated ∷ way) w direct lead = absurd (direct w (past_along w (All w) way (under_itself w)))

module _ (h : Here) (sees : ℕ → Bool) (seeing : Seeing h.typing sees) (settled : IsSettled h.typing.table) (leaks : List Leak) (other : Around (home h.typing h.frame))
    (alone : (w : Way) → IsNear h.frame w → other.gone w → ⊥) (in_formals : AreAccess h.typing) (index_law : IndexLaw)
    (own_law : OwnsByShape h.typing.table) (v : Views) (parts_named : PartsAreNamed h.typing.table) where
  abbrev pub IsReadyIn : Memory → List Waiting → List Fact → Type 0
  IsReadyIn m hands facts = Ready h sees seeing settled leaks [] other alone (keeps h.typing settled own_law) index_law own_law v parts_named m hands facts

  -- ---- names and scalar expressions

  module _ (m : Memory) (hands : List Waiting) (facts : List Fact)
      (ready : Ready h sees seeing settled leaks [] other alone (keeps h.typing settled own_law) index_law own_law v parts_named m hands facts)
      (only : OnlyOwners h.typing m) where
    abbrev at : List (List machine.Word) → Now
    at ws = record { memory = m; waits = ws }

    abbrev variable : ℕ → Way
    variable x = Object (OfVariable (home h.typing h.frame x) x)

    live : (w : Way) (l : Loc) → IsOwners h.typing w → Reaches (seen h.typing m hands leaks) w l → (content h.typing m hands (trunk l)).owns ≡ true
    live = live_trunk h sees seeing settled leaks [] other alone (keeps h.typing settled own_law) index_law own_law v parts_named m hands ready.viewed.owned

    abbrev Along : ℕ → ℕ → TypedTree → List run.Step → Type 0
    Along x t steps way = Goes h.typing.table (object_at h.typing x).of t steps way

    abbrev Same : List (List machine.Word) → ℕ → ℕ → List run.Step → Type 0
    Same on x t way = LeadsSame h (viewed_premises h sees parts_named) m hands facts on x t way

    abbrev Whole : List (List machine.Word) → ℕ → ℕ → List run.Step → Type 0
    Whole on x t way = LeadsWhole h (viewed_premises h sees parts_named) m hands facts on x t way

    called : (x t : ℕ) (steps : TypedTree) (way : List run.Step) → Along x t steps way → ways.name_of (way_along way (variable x)) ≡ name_of x steps
    called x t steps way goes = (λ j. record { root = number_along way (variable x) j; sels = goes.sels (variable x) j })

    -- what an act says of the name says it of its way
    of_way : (x t : ℕ) (steps : TypedTree) (way : List run.Step) → Along x t steps way → (P : PlaceName → Type 0) → P (name_of x steps)
        → P (ways.name_of (way_along way (variable x)))
    of_way x t steps way goes P mine = subst P (sym (called x t steps way goes)) mine

    pub leads : (on : List (List machine.Word)) (x t : ℕ) (steps : TypedTree) (way : List run.Step) → Along x t steps way → Open facts (way_along way (variable x))
        → Same on x t way
    leads on x t steps way goes opens = (
      found_at h sees seeing settled hands leaks m on other facts v ready.kept ready.viewed ready.holds alone live only in_formals (expand v (way_along way (variable x))) t
          (walked h.typing way (variable_place h x) (at on))
          (name_walked h sees seeing settled hands leaks m on other facts v ready.kept ready.viewed ready.holds alone live x t way goes.lead (λ e. opens)),
      name_same h sees seeing settled hands leaks m on other facts v ready.kept ready.viewed ready.holds alone live only in_formals x t way goes.lead (λ e. opens),
    )

    -- an access value of a named type
    pub leads_access : (on : List (List machine.Word)) (x t : ℕ) (steps : TypedTree) (way : List run.Step) → Along x t steps way → (d : ℕ) (c : Bool)
        → shape_of h.typing.table t ≡ shape.Access d c true → Open facts (way_along way (variable x)) → OpenWhole facts (way_along way (variable x)) → Whole on x t way
    leads_access on x t steps way goes d c is opens whole = (
      access_found h sees seeing settled hands leaks m on other facts v ready.kept ready.viewed ready.holds alone live only in_formals index_law own_law parts_named x t d c way goes.lead is
          (λ e. opens) (λ e. whole),
      name_same h sees seeing settled hands leaks m on other facts v ready.kept ready.viewed ready.holds alone live only in_formals x t way goes.lead (λ e. opens),
    )

    look_at : (on : List (List machine.Word)) (x t : ℕ) (steps : TypedTree) (way : List run.Step) → Along x t steps way → (d : ℕ) (c n : Bool)
        → shape_of h.typing.table t ≡ shape.Access d c n → Allows facts (act.Look (name_of x steps)) → Whole on x t way
    look_at on x t steps way goes d c true is looks =
        let mine = of_way x t steps way goes (λ z. Allows facts (act.Look z)) looks in
        leads_access on x t steps way goes d c is (look_open facts (way_along way (variable x)) mine) (look_whole facts (way_along way (variable x)) mine)
    look_at on x t steps way goes d c false is looks =
        let opens = look_open facts (way_along way (variable x)) (of_way x t steps way goes (λ z. Allows facts (act.Look z)) looks) in (
          view_whole h sees seeing settled hands leaks m on other facts v ready.kept ready.viewed ready.holds alone live only in_formals x t way goes.lead
              (ap (λ z. is_anonymous (view_of_shape z)) is ∙ anonymous_access c) (λ e. opens),
          name_same h sees seeing settled hands leaks m on other facts v ready.kept ready.viewed ready.holds alone live only in_formals x t way goes.lead (λ e. opens),
        )

    free_at : (on : List (List machine.Word)) (x t : ℕ) (steps : TypedTree) (way : List run.Step) → Along x t steps way → (d : ℕ)
        → shape_of h.typing.table t ≡ shape.Access d false true → Allows facts (act.Free (name_of x steps)) → Whole on x t way
    free_at on x t steps way goes d is frees =
        let mine = of_way x t steps way goes (λ z. Allows facts (act.Free z)) frees in
        leads_access on x t steps way goes d false is (free_open facts (way_along way (variable x)) mine) (free_whole facts (way_along way (variable x)) mine)

    move_at : (on : List (List machine.Word)) (x t : ℕ) (steps : TypedTree) (way : List run.Step) → Along x t steps way
        → Allows facts (act.Move (name_of x steps) (parts h.typing.table t)) → is_fixed h.typing sees (name_of x steps) ≡ false
        → Finds h (viewed_premises h sees parts_named) m hands facts on x way (IsMovableAt h (viewed_premises h sees parts_named) m hands facts t)
    move_at on x t steps way goes moves free =
        let u : Way = way_along way (variable x) in
        let mine = of_way x t steps way goes (λ z. Allows facts (act.Move z (parts h.typing.table t))) moves in
        let opens = move_open facts u (parts h.typing.table t) mine in (
          owner_found h sees seeing settled hands leaks m on other facts v ready.kept ready.viewed ready.holds alone live only in_formals index_law own_law parts_named x t way goes.lead (free_sees h.typing sees (name_of x steps) free)
              (λ formal none. free_formal h.typing sees (name_of x steps) free formal (no_selectors h.typing.table (object_at h.typing x).of t steps way goes none))
              (λ e. opens) (λ b n has over. move_unlent facts u (parts h.typing.table t) mine Borrowed b n has over) (move_unmoved facts u (parts h.typing.table t) mine),
          name_same h sees seeing settled hands leaks m on other facts v ready.kept ready.viewed ready.holds alone live only in_formals x t way goes.lead (λ e. opens),
        )

    -- one that goes through no access value
    direct_at : (on : List (List machine.Word)) (x t : ℕ) (steps : TypedTree) (way : List run.Step) → Along x t steps way → goes_through_none steps ≡ true → Same on x t way
    direct_at on x t steps way goes direct = by_kind (is_view_formal h.typing x) refl
      where
        nothing_past : (z : Way) → Past z (way_along way (variable x)) → ⊥
        nothing_past z past =
            let none : has_deref (ways.sels_of (way_along way (variable x))) ≡ false = ap has_deref (goes.sels (variable x)) ∙ selectors_direct steps direct in
            let no : true ≡ false = sym (past_deref z (way_along way (variable x)) past) ∙ none in absurd (true≢false no)

        spot : Spot h.typing m hands (variable_place h x) (OfRoot (OfVariable (home h.typing h.frame x) x))
        spot = record { base = refl; made = tt; at = refl; there = refl; of = inl refl }

        -- a formal that owns nothing
        itself : (way : List run.Step) → is_view_formal h.typing x ≡ true → ((z : Way) → Past z (way_along way (variable x)) → ⊥)
            → Starts h.typing.table (object_at h.typing x).of way t → Same on x t way
        itself [] formal nothing starts = ((refl, (OfRoot (OfVariable (home h.typing h.frame x) x), spot, starts)), λ n' same. (refl, same))
        itself (run.ToComponent i ∷ rest) formal nothing (less, lead) =
            own_at h sees seeing settled hands leaks m on other facts v ready.kept ready.viewed ready.holds alone live only in_formals x t rest (Component i ∷ [])
            (component_place h.typing.table i (variable_place h x))
            (component_spot h.typing settled hands leaks m (variable_place h x) (OfRoot (OfVariable (home h.typing h.frame x) x)) i spot less) lead nothing
        itself (run.ToElement n ∷ rest) formal nothing (less, lead) =
            own_at h sees seeing settled hands leaks m on other facts v ready.kept ready.viewed ready.holds alone live only in_formals x t rest (Element n ∷ [])
            (element_place h.typing.table n (variable_place h x))
            (element_spot h.typing settled hands leaks m (variable_place h x) (OfRoot (OfVariable (home h.typing h.frame x) x)) n spot less) lead nothing
        itself (run.ToDesignated ∷ rest) formal nothing starts = absurd (nothing (variable x) (past_along (variable x) (All (variable x)) rest (under_itself (variable x))))

        moved : Way → Type 0
        moved = ExcusedBy (home h.typing h.frame) v other facts

        by_kind : (b : Bool) → is_view_formal h.typing x ≡ b → Same on x t way
        by_kind true formal = itself way formal nothing_past goes.lead
        by_kind false owner =
            let lead = direct_lead h.typing.table (object_at h.typing x).of t way (variable x) nothing_past goes.lead in (
              found_at h sees seeing settled hands leaks m on other facts v ready.kept ready.viewed ready.holds alone live only in_formals (way_along way (variable x)) t
                  (walked h.typing way (variable_place h x) (at on))
                  (walk h.typing settled hands leaks m on moved ready.kept ready.viewed.owned ready.viewed.known live way (variable_place h x)
                  (OfRoot (OfVariable (home h.typing h.frame x) x)) (variable x) t spot owner refl lead (λ z past gone. nothing_past z past)),
              owners_same h.typing settled hands leaks m on moved ready.kept ready.viewed.owned ready.viewed.known live only way (variable_place h x)
                  (OfRoot (OfVariable (home h.typing h.frame x) x)) (variable x) t spot owner refl lead (λ z past gone. nothing_past z past),
            )

    -- ---- all together

    pub viewed_behaves : Behaves h (viewed_premises h sees parts_named) m hands facts
    viewed_behaves = record {
      kept = ready.kept;
      only = only;
      quiet = λ u e stays before on takes calls allowed.
          taking h sees seeing settled hands leaks m [] other facts v ready.kept ready.viewed ready.holds alone live index_law own_law parts_named u e stays before on takes allowed;
      steps = λ t u path lead before on takes calls allowed.
          steps_taking h sees seeing settled hands leaks m [] other facts v ready.kept ready.viewed ready.holds alone live index_law own_law parts_named t u path lead before on takes allowed;
      read = λ on x t path way goes reads.
          leads on x t path way goes (read_open facts (way_along way (variable x)) (of_way x t path way goes (λ z. Allows facts (act.Read z)) reads));
      write = λ on x t path way goes writes.
          leads on x t path way goes (write_open facts (way_along way (variable x)) (of_way x t path way goes (λ z. Allows facts (act.Write z)) writes));
      direct = λ on x t path way goes direct. direct_at on x t path way goes direct;
      look = λ on x t path way goes d c n is looks. look_at on x t path way goes d c n is looks;
      move = λ on x t path way goes owns moves kept. move_at on x t path way goes moves kept.0;
      free = λ on x t path way goes d is frees kept. free_at on x t path way goes d is frees;
    }

  -- ---- values

  pub given_by : (on : List (List machine.Word)) (want : ℕ) (hands : List Waiting) (facts : List Fact) (y : Evaluated (List machine.Word))
      → GivenOn h sees seeing settled leaks [] other alone (keeps h.typing settled own_law) index_law own_law v parts_named on want hands facts y
      → GivenBy h IsReadyIn on want hands facts y
  given_by on want hands facts (Done ws n) given = given
  given_by on want hands facts (Raises e n) given = tt
  given_by on want hands facts (Traps e n) none = none

  pub viewed_values : Values h (viewed_premises h sees parts_named)
      (λ m hands facts. Ready h sees seeing settled leaks [] other alone (keeps h.typing settled own_law) index_law own_law v parts_named m hands facts)
  viewed_values = record {
    behaves = λ m hands facts ready only. viewed_behaves m hands facts ready only;
    given = λ e want gives calls own_calls before on takes m hands facts ready allowed own keep.
        given_by on want hands (after (acts (acts_in h.typing e)) facts) (evaluate h AsValue e (record { memory = m; waits = before }))
        (evaluated_on h sees seeing settled leaks [] other alone (keeps h.typing settled own_law) index_law own_law v parts_named e want gives own_calls before on takes m hands facts
        ready allowed own keep);
  }
