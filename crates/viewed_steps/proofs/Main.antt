-- The state before the first step is sound, and so each moment of the run is well owned, and none is
-- a trap.
use Rattle.viewed_steps.proofs.Traversed.{none_given, empty_given, begins_given, procedure_traverses}
use Rattle.viewed_steps.specs.Awaited.{lasting_of}
use Rattle.std.proofs.Common.{◌≡◌, refl, sym, ap, subst, ℕ, zero, suc, Bool, true, false, nat_le, List, [], ◌∷◌, ◌++◌, get_or, inl, inr, Some, None, if◌then◌else◌, ◌∙◌, is_some}
use Rattle.std.proofs.lemmas.Bool.{false≢true}
use Rattle.machine.specs.spark_base.Lists.{Has}
use Rattle.machine.specs.type_definitions.Types.{Table}
use Rattle.machine.specs.typed_tree.Programs.{TypedProgram}
use Rattle.machine.specs.flow_paths.declared.report.Effects.{Effects}
use Rattle.machine.specs.flow_paths.Objects.{Typing, object_at}
use Rattle.machine.specs.flow_paths.Points.{NamedPoint, FlowPoint}
use Rattle.machine.specs.flow_paths.Laid.{FlowSub, FlowProgram, flow_sub, typing_of, flow_typing, flow_program}
use Rattle.machine.specs.flow_paths.Paths.{begins}
use Rattle.machine.specs.Words as machine
use Rattle.machine.specs.Memory.{no_slot, variable_slots}
use Rattle.machine.specs.Evaluate.{StorageError}
use Rattle.machine.specs.States.{Frame, State, Ending, Raised, Outcome, Goes, Ends, state_of, sub_of, frame_words, stack_words, frame_at_start}
use Rattle.machine.specs.Step.{main_frame}
use Rattle.machine.specs.Owners.{WellOwned}
use Rattle.machine.specs.Run.{empty_memory, frames_at_start, state_at_start, step, then_on, within, run_of, main_of, moment}
use Rattle.soundness.specs.OwnedWays.Ways.{Way, Lost}
use Rattle.soundness.specs.Seen.{home, seen}
use Rattle.soundness.specs.Sound.{Stage, IsTrap, ending_of, RunIsSound, view_of as view_here}
use Rattle.soundness.proofs.Defaults.{none_default}
use Rattle.soundness.proofs.Keeping.{cell_has}
use Rattle.soundness.proofs.Owners.{well_owned}
use Rattle.soundness.proofs.Beginning.{empty_sound, empty_kept, empty_scope}
use Rattle.soundness.proofs.Points.{sub_there}
use Rattle.soundness.specs.OwnedLoans.Views.{known_gone, Views, ViewedAlone}
use Rattle.viewed_steps.specs.Sound.{ViewStage, GoneElsewhere, IsSound, LeadsOn}
use Rattle.viewed_steps.specs.Ready.{IsReady}
use Rattle.viewed_steps.proofs.Packages.{stage, first_point, first_waits, main_awaits, main_runs}
use Rattle.viewed_steps.proofs.Stepping.{sound_step}
use Rattle.viewed_steps.proofs.Standing.{bundle_sees, in_formals}
use Rattle.viewed_steps.proofs.Views.{parts_none}
use Rattle.soundness.specs.ViewedSoundness.Holds.{PartsHold}
use Rattle.viewed_steps.specs.Seeing.{sees_in}
use Rattle.soundness.proofs.Parted.{some_same}

-- ---- the start

-- No object has a way.
abbrev pub no_views : Views
no_views = record { way = λ x. None; loan = λ x. Lost 0; up = λ x. Lost 0; cell = λ x. 0; part_way = λ x p. None; part_cell = λ x p. 0 }

none_some : (w : Way) → None ≡ Some w → ⊥
none_some w e = absurd (false≢true (ap is_some e))

module _ (s : Typing) (sees : ℕ → Bool) where
  empty_viewed : (at_home : ℕ → ℕ) (other : Way → Type 0) → ViewedAlone at_home sees (known_gone at_home other) no_views (seen s empty_memory [] []) []
  empty_viewed at_home other =
      let sound = empty_sound s at_home other [] in
      record {
        owned = sound.owned;
        covered = sound.covered;
        known = λ w l rooted r gone. absurd (elim ((empty_sound s at_home (λ w. ⊥) []).known w l rooted r gone) [ inl moved ↦ moved.1 | inr o ↦ o ]);
        clear = record {
          moved = λ l h n m has there over. has;
          lent = λ b h n m has there off over. has;
          seen = λ b h n m has there over. has;
          owned = λ n has. absurd has;
        };
        views = (λ x w has. absurd (none_some w has), λ x p w has. absurd (none_some w has));
        whole = λ x w z has. absurd (none_some w has);
        whole_parts = λ x p w z has. absurd (none_some w has);
      }

  empty_word : (f x i n : ℕ) → (get_or (variable_slots s f x empty_memory.variables) i no_slot).word ≡ machine.Cell n → ⊥
  empty_word f x i n e = none_default s.table (object_at s x).of n (cell_has (machine.default s.table (object_at s x).of) i n e)

module _ (table : Table) (typed : TypedProgram) (effects : Effects) (input : List ℕ) (ready : IsReady table typed effects) where
  abbrev sees : ℕ → Bool
  sees = sees_in (flow_program table typed)

  empty_parts : (frame : ℕ) → PartsHold (flow_typing (flow_program table typed)) sees frame no_views empty_memory
  empty_parts frame =
      parts_none (flow_typing (flow_program table typed)) sees (in_formals table typed effects input ready) frame no_views empty_memory
      (λ x i n bundle at. empty_word (flow_typing (flow_program table typed)) sees (home (flow_typing (flow_program table typed)) frame x) x i n at)
      (bundle_sees table typed effects input ready) (λ x p. refl)

  abbrev program : FlowProgram
  program = flow_program table typed

  abbrev s : Typing
  s = flow_typing program

  abbrev started : List Frame → State
  started frames = record (state_at_start program) { frames = frames }

  abbrev stage_of : ℕ → ℕ → Stage
  stage_of n depth = stage table typed effects input ready n depth

  -- A sound state none of whose frames has executed a point.
  abbrev pub IsFresh : State → Type 0
  IsFresh state =
      (sound : IsSound table typed effects state)
      × ((g : ViewStage) → Has (record { stage = sound.top; views = sound.views; cells = [] } ∷ sound.older) g → g.stage.before ≡ [])

  abbrev first_frame : ViewStage
  first_frame = record { stage = stage_of 0 0; views = no_views; cells = [] }

  -- the package objects are declared first
  packages_start : (p : NamedPoint) (rest : List NamedPoint) → ready.packages.points ≡ p ∷ rest → IsFresh (started (frame_at_start 0 [] ∷ []))
  packages_start p rest is = (
    record {
      top = stage_of 0 0;
      views = no_views;
      older = [];
      stages = (refl, refl, tt);
      running = (refl, (refl, refl, refl), (λ x. refl), refl, refl, (λ x p. refl));
      awaited = (refl, refl);
      path = begins (first_point table typed effects input ready 0 ready.packages ready.stands p rest is);
      viewed = empty_viewed s sees (home s 0) (GoneElsewhere program effects []);
      kept = empty_kept s;
      named = ready.packages;
      of_sub = ready.stands;
      point = p;
      at_point = ([], rest, is, refl);
      scope = empty_scope s 0 (lasting_of s p.scope);
      holds = record {
        held = λ x n lasts view bare e. absurd (empty_word s sees (home s 0 x) x 0 n e);
        within = λ x n view bare e. absurd (empty_word s sees (home s 0 x) x 0 n e);
        only = λ x w has. absurd (none_some w has);
        lies = λ x w has. absurd (none_some w has);
        owners = λ x w has. absurd (none_some w has);
        passed = λ x w has. absurd (none_some w has);
        own = λ x w has. absurd (none_some w has);
        taken = λ x w has. absurd (none_some w has);
        parts = empty_parts 0;
        low = λ x p w has. absurd (none_some w has);
      };
      placed = λ x w has. absurd (none_some w has);
      past = ((λ x w has. absurd (none_some w has)), ((λ x w has. absurd (none_some w has)), (λ x q w has. absurd (none_some w has))));
      none_above = (λ f x n less view e. empty_word s sees f x 0 n e, λ f x i n less bundle e. empty_word s sees f x i n e);
      traversals = (none_given table typed (view_here s (started (frame_at_start 0 [] ∷ []))) first_frame (empty_given table typed first_frame refl), tt);
    },
    λ g has. elim has [ inl e ↦ ap (λ (z : ViewStage). z.stage.before) (sym e) | inr none ↦ absurd none ],
  )

  -- without any, the main procedure begins
  main_start : IsFresh (started (frame_at_start ready.main [] ∷ (frame_at_start 0 [] ∷ [])))
  main_start = (
    record {
      top = stage_of ready.main 1;
      views = no_views;
      older = record { stage = stage_of 0 0; views = no_views; cells = [] } ∷ [];
      stages = (refl, refl, (refl, refl, tt));
      running = (
        main_runs table typed effects input ready,
        ((λ x has. inl (ready.main_plain x has)), (λ r has. absurd has)),
        ((refl, (refl, refl, refl), (λ x. refl), refl, refl, (λ x p. refl)), refl),
      );
      awaited = (
        first_waits table typed effects input ready 1 ready.main [] ready.main_there.named ready.main_there.stands ready.main_there.point
            ready.main_there.points ready.main_there.begins,
        (main_awaits table typed effects input ready, refl),
      );
      path = begins (first_point table typed effects input ready ready.main ready.main_there.named ready.main_there.stands
          ready.main_there.point ready.main_there.points ready.main_there.begins);
      viewed = empty_viewed s sees (home s 1) (GoneElsewhere program effects (record { stage = stage_of 0 0; views = no_views; cells = [] } ∷ []));
      kept = empty_kept s;
      named = ready.main_there.named;
      of_sub = ready.main_there.stands;
      point = ready.main_there.point;
      at_point = ([], ready.main_there.points, ready.main_there.begins, refl);
      scope = empty_scope s 1 (lasting_of s ready.main_there.point.scope);
      holds = record {
        held = λ x n lasts view bare e. absurd (empty_word s sees (home s 1 x) x 0 n e);
        within = λ x n view bare e. absurd (empty_word s sees (home s 1 x) x 0 n e);
        only = λ x w has. absurd (none_some w has);
        lies = λ x w has. absurd (none_some w has);
        owners = λ x w has. absurd (none_some w has);
        passed = λ x w has. absurd (none_some w has);
        own = λ x w has. absurd (none_some w has);
        taken = λ x w has. absurd (none_some w has);
        parts = empty_parts 1;
        low = λ x p w has. absurd (none_some w has);
      };
      placed = λ x w has. absurd (none_some w has);
      past = ((λ x w has. absurd (none_some w has)), ((λ x w has. absurd (none_some w has)), (λ x q w has. absurd (none_some w has))));
      none_above = (λ f x n less view e. empty_word s sees f x 0 n e, λ f x i n less bundle e. empty_word s sees f x i n e);
      traversals = (
        begins_given table typed (view_here s (started (frame_at_start ready.main [] ∷ (frame_at_start 0 [] ∷ [])))) (record { stage = stage_of ready.main 1; views = no_views; cells = [] })
            first_frame refl refl,
        (
          λ f traversed. absurd (procedure_traverses table typed (sub_of program ready.main) f
              (ap (λ (z : FlowSub). z.result) (sub_there table typed ready.main ready.main_there.named ready.main_there.stands)
              ∙ ready.main_there.procedure ready.main_there.named ready.main_there.stands) traversed),
          tt,
        ),
      );
    },
    λ g has. elim has [
      | inl e ↦ ap (λ (z : ViewStage). z.stage.before) (sym e)
      | inr more ↦ elim more [ inl e ↦ ap (λ (z : ViewStage). z.stage.before) (sym e) | inr none ↦ absurd none ]
    ],
  )

  -- by the points of the package objects
  abbrev numbered_there : List NamedPoint → List FlowPoint
  numbered_there points = (flow_sub (typing_of table typed) (record ready.packages { points = points })).points

  by_points : (points : List NamedPoint) → ready.packages.points ≡ points → IsFresh (started (frames_at_start program (numbered_there points)))
  by_points [] is =
      subst (λ fs. IsFresh (started fs))
      (sym (ap (λ z. main_frame (record program { main = z }) ++ (frame_at_start 0 [] ∷ [])) ready.is_main)) main_start
  by_points (p ∷ rest) is = packages_start p rest is

  pub fresh_start : IsFresh (state_at_start program)
  fresh_start =
      subst (λ (z : FlowSub). IsFresh (started (frames_at_start program z.points)))
      (sym (sub_there table typed 0 ready.packages ready.stands)) (by_points ready.packages.points refl)

  pub sound_start : IsSound table typed effects (state_at_start program)
  sound_start = fresh_start.0

  -- ---- runs

  sound_owned : (state : State) → IsSound table typed effects state → WellOwned s state
  sound_owned state sound = well_owned s ready.accepted.settled ready.owns state sound.viewed.owned sound.viewed.covered

  go : (o : Outcome) (on : State → Outcome) → LeadsOn table typed effects o
      → ((state : State) → IsSound table typed effects state → LeadsOn table typed effects (on state)) → LeadsOn table typed effects (then_on o on)
  go (Goes t) on leads next = next t leads
  go (Ends e t) on leads next = leads

  many : (n : ℕ) (state : State) → IsSound table typed effects state → LeadsOn table typed effects (within n (flow_program table typed) input state)
  unfolding within
  many zero state sound = ((λ t. t), sound_owned state sound)
  many (suc n) state sound =
      go (step (flow_program table typed) input state) (within n (flow_program table typed) input) (sound_step table typed effects input ready state sound) (λ t leads. many n t leads)

  -- where the frames at the start have too many words, the run ends there
  whole_run : (main n : ℕ) → LeadsOn table typed effects (run_of (flow_program table typed) main input n)
  whole_run main n = by_room (nat_le (frame_words (flow_program table typed) (frame_at_start main [] ∷ frame_at_start 0 [] ∷ [])) stack_words)
    where
      by_room : (b : Bool) → LeadsOn table typed effects
          (if b then within n (flow_program table typed) input (state_at_start (flow_program table typed))
          else Ends (Raised StorageError (sub_of (flow_program table typed) main).pos) (state_at_start (flow_program table typed)))
      by_room true = many n (state_at_start (flow_program table typed)) sound_start
      by_room false = ((λ t. t), sound_owned (state_at_start (flow_program table typed)) sound_start)

  -- Each moment of the run of a program that is ready is well owned, and none is a trap.
  pub ready_sound : RunIsSound table typed input
  unfolding moment
  ready_sound = record {
    owned = λ n. owned_at (run_of (flow_program table typed) (main_of (flow_program table typed).main) input n) (whole_run (main_of (flow_program table typed).main) n);
    no_trap = λ n e is. no_trap_at (run_of (flow_program table typed) (main_of (flow_program table typed).main) input n)
        (whole_run (main_of (flow_program table typed).main) n) e is;
  }
    where
      owned_at : (o : Outcome) → LeadsOn table typed effects o → WellOwned (flow_typing (flow_program table typed)) (state_of o)
      owned_at (Goes t) leads = sound_owned t leads
      owned_at (Ends e t) leads = leads.1

      no_trap_at : (o : Outcome) → LeadsOn table typed effects o → (e : Ending) → ending_of o ≡ Some e → IsTrap e → ⊥
      no_trap_at (Goes t) leads e is trap = false≢true (ap is_some is)
      no_trap_at (Ends f t) leads e is trap = leads.0 (subst IsTrap (sym (some_same is)) trap)
