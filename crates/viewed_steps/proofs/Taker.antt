-- What takes the result of a traversal function borrows, observes or gives what the first actual names. So nothing
-- of that is moved or borrowed there.
use Rattle.viewed_steps.proofs.Sources.{observer_only}
use Rattle.soundness.proofs.Contents.{bool_cases}
use Rattle.soundness.proofs.Scalars.{acts}
use Rattle.machine.specs.place_names.declared.act.Act.{Act}
use Rattle.machine.specs.place_names.declared.act.Act.TheVariants as act
use Rattle.machine.specs.place_names.Names.{Name as PlaceName}
use Rattle.std.proofs.Common.{◌≡◌, refl, sym, ap, ◌∙◌, subst, ◌⊎◌, inl, inr, ℕ, Bool, true, false, List, ◌++◌, ◌||◌, ◌&&◌, if◌then◌else◌}
use Rattle.std.proofs.lemmas.Bool.{true≢false, false≢true}
use Rattle.machine.specs.spark_base.declared.position.Pos.{Pos}
use Rattle.machine.specs.typed_tree.Trees.{NoMore, More, Name}
use Rattle.machine.specs.flow_paths.Instructions.{Instruction}
use Rattle.machine.specs.flow_paths.Acts.{Frame, acts_of, acts_in, source_acts, index_acts, reborrow, observe, stored_acts, gives_variable, target_pos, returned_acts}
use Rattle.machine.specs.flow_paths.Names.{written, source}
use Rattle.machine.specs.flow_paths.Objects.{Typing, view_of, is_borrowing, is_observing, is_borrower, is_observer}
use Rattle.machine.specs.place_names.declared.fact.Fact.{Fact}
use Rattle.soundness.specs.OwnedWays.Ways.{Way, AllowsAll, Allows, name_of, number_of}
use Rattle.soundness.proofs.OwnedLoans.Allowed.{Cleared, borrow_clears, observe_clears, reborrow_clears, give_clears}
use Rattle.viewed_steps.specs.Traversals.{IsSeer, IsViewTaker, TraversalCall, call_in, traversed_name}

sight : (a b : Bool) → a || b ≡ true → a ≡ false → b ≡ true
sight true b is none = absurd (true≢false none)
sight false b is none = is

module _ (s : Typing) (n : ℕ) (c : TraversalCall) where
  abbrev Sees : ℕ → Type 0
  Sees x = IsSeer s x

  pub kind_of : (x : ℕ) → Sees x → (is_borrower s x ≡ true) ⊎ ((is_borrower s x ≡ false) × (is_observer s x ≡ true))
  kind_of x these = let (variable, view) = these in elim (bool_cases (is_borrower s x)) [
    | inl borrows ↦ inl borrows
    | inr none ↦ inr (
      none,
      ap (λ b. b && is_observing (view_of s x)) variable ∙ sight (is_borrowing (view_of s x)) (is_observing (view_of s x)) view
          (sym (ap (λ b. b && is_borrowing (view_of s x)) variable) ∙ none),
    )
  ]

  module _ (f : Frame) (of_frame : f.typing ≡ s) (p : Pos) (facts : List Fact) (u : Way) (called : name_of u ≡ traversed_name c) where
    root_there : number_of u ≡ c.root
    root_there = ap (λ (m : PlaceName). m.root) called

    by_name : (a : PlaceName → Act) → Allows facts (a (traversed_name c)) → Allows facts (a (name_of u))
    by_name a allowed = subst (λ m. Allows facts (a m)) (sym called) allowed

    by_declared : (x : ℕ) → Sees x
        → AllowsAll facts (acts (if is_borrower s x then source_acts s (call_in n c) (act.Borrow x)
        else (if is_observer s x then source_acts s (call_in n c) (observe s x) else acts_in s (More (call_in n c) NoMore))))
        → Cleared facts u
    by_declared x view = by_kind (is_borrower s x) (is_observer s x) (kind_of x view)
      where
        by_kind : (borrows observes : Bool) → (borrows ≡ true) ⊎ ((borrows ≡ false) × (observes ≡ true))
            → AllowsAll facts (acts (if borrows then source_acts s (call_in n c) (act.Borrow x)
            else (if observes then source_acts s (call_in n c) (observe s x) else acts_in s (More (call_in n c) NoMore))))
            → Cleared facts u
        by_kind true observes kind allowed = borrow_clears facts x u (by_name (act.Borrow x) allowed.0)
        by_kind false true kind allowed = observe_clears facts x (is_observer s (traversed_name c).root) u
            (by_name (λ m. act.Observe x m (is_observer s (traversed_name c).root)) allowed.0)
        by_kind false false (inl never) allowed = absurd (false≢true never)
        by_kind false false (inr (none, never)) allowed = absurd (false≢true never)

    by_assigned : (q : Pos) (x t : ℕ) → Sees x → (is_observer s x ≡ false → c.root ≡ x)
        → AllowsAll facts (acts (if is_borrower s x then index_acts s (call_in n c) ++ reborrow (target_pos p (written (Name q x NoMore t))) x (source (call_in n c))
        else (if is_observer s x then source_acts s (call_in n c) (observe s x) else stored_acts s (Name q x NoMore t) (call_in n c))))
        → Cleared facts u
    by_assigned q x t view itself = by_kind (is_borrower s x) (is_observer s x) (kind_of x view) itself (observer_only s x)
      where
        by_kind : (borrows observes : Bool) → (borrows ≡ true) ⊎ ((borrows ≡ false) × (observes ≡ true)) → (observes ≡ false → c.root ≡ x)
            → (observes ≡ true → borrows ≡ false)
            → AllowsAll facts (acts (if borrows then index_acts s (call_in n c) ++ reborrow (target_pos p (written (Name q x NoMore t))) x (source (call_in n c))
            else (if observes then source_acts s (call_in n c) (observe s x) else stored_acts s (Name q x NoMore t) (call_in n c))))
            → Cleared facts u
        by_kind true false kind own only allowed = reborrow_clears facts x u (root_there ∙ own refl) (by_name (act.Reborrow x) allowed.0)
        by_kind true true kind own only allowed = (let never : true ≡ false = only refl in absurd (true≢false never))
        by_kind false true kind own only allowed = observe_clears facts x (is_observer s (traversed_name c).root) u
            (by_name (λ m. act.Observe x m (is_observer s (traversed_name c).root)) allowed.0)
        by_kind false false (inl never) own only allowed = absurd (false≢true never)
        by_kind false false (inr (none, never)) own only allowed = absurd (false≢true never)

    -- by the acts of its point
    pub taker_clears : (i : Instruction) → IsViewTaker s n c f.result i → AllowsAll facts (acts (acts_of f p i)) → Cleared facts u
    taker_clears i (inl (x, is, view)) allowed =
        by_declared x view (subst (λ (t : Typing). AllowsAll facts (acts (if is_borrower t x then source_acts t (call_in n c) (act.Borrow x)
        else (if is_observer t x then source_acts t (call_in n c) (observe t x) else acts_in t (More (call_in n c) NoMore))))) of_frame
        (subst (λ z. AllowsAll facts (acts (acts_of f p z))) is allowed))
    taker_clears i (inr (inl (q, x, t, is, view, itself))) allowed =
        by_assigned q x t view itself (subst (λ (z : Typing). AllowsAll facts (acts (if is_borrower z x then index_acts z (call_in n c) ++ reborrow (target_pos p (written (Name q x NoMore t))) x (source (call_in n c))
        else (if is_observer z x then source_acts z (call_in n c) (observe z x) else stored_acts z (Name q x NoMore t) (call_in n c))))) of_frame
        (subst (λ z. AllowsAll facts (acts (acts_of f p z))) is allowed))
    taker_clears i (inr (inr (is, gives))) allowed =
        give_clears facts (gives_variable s f.result) u (by_name (λ m. act.Give m (gives_variable s f.result))
        (subst (λ b. AllowsAll facts (acts (if b then source_acts s (call_in n c) (λ m. act.Give m (gives_variable s f.result)) else acts_in s (More (call_in n c) NoMore)))) gives
        (subst (λ (z : Typing). AllowsAll facts (acts (returned_acts z f.result (More (call_in n c) NoMore)))) of_frame
        (subst (λ z. AllowsAll facts (acts (acts_of f p z))) is allowed))).0)
