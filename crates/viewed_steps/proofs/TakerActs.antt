-- The point that takes the result of a traversal function has an act on what the first actual names: it reads that, or
-- borrows it.
use Rattle.std.proofs.Common.{◌≡◌, refl, sym, ap, ◌∙◌, subst, ◌⊎◌, inl, inr, ℕ, Bool, true, false, List, ◌++◌, Option, ◌==◌, eq-eqb, if◌then◌else◌}
use Rattle.std.proofs.lemmas.Bool.{true≢false, false≢true}
use Rattle.machine.specs.spark_base.Lists.{Has}
use Rattle.machine.specs.spark_base.declared.position.Pos.{Pos}
use Rattle.machine.specs.place_names.declared.act.Act.{Act}
use Rattle.machine.specs.place_names.declared.act.Act.TheVariants as act
use Rattle.machine.specs.place_names.declared.act.Placed.{Placed}
use Rattle.machine.specs.typed_tree.Trees.{NoMore, More, Name}
use Rattle.machine.specs.flow_paths.Instructions.{Instruction}
use Rattle.machine.specs.flow_paths.Acts.{Frame, placed, acts_of, acts_in, source_acts, index_acts, reborrow, observe, stored_acts, gives_variable, target_pos}
use Rattle.machine.specs.flow_paths.Effects.{act_writes, act_reads}
use Rattle.machine.specs.flow_paths.Names.{written, source}
use Rattle.machine.specs.flow_paths.Objects.{Typing, is_borrower, is_observer, is_package_object}
use Rattle.soundness.proofs.ViewedSoundness.ViewKinds.{true_false}
use Rattle.viewed_steps.proofs.Sources.{observer_only}
use Rattle.viewed_steps.proofs.Taker.{kind_of}
use Rattle.viewed_steps.specs.Traversals.{IsSeer, IsViewTaker, TraversalCall, call_in, traversed_name}

module _ (s : Typing) (n : ℕ) (c : TraversalCall) (result : Option ℕ) (roots : List ℕ) (p : Pos) (local : (x : ℕ) → is_borrower s x ≡ true → is_package_object s x ≡ false)
    (shared : is_package_object s c.root ≡ true) where
  abbrev frame : Frame
  frame = record { typing = s; result = result; roots = roots }

  -- an act that names the object
  abbrev IsNaming : Act → Type 0
  IsNaming a = (act_writes c.root a ≡ true) ⊎ (act_reads c.root a ≡ true)

  abbrev Acts : (Act → Type 0) → List Placed → Type 0
  Acts is acts = (a : Placed) × Has acts a × is a.act

  itself : (c.root == c.root) ≡ true
  itself = eq-eqb c.root c.root refl

  by_declared : (x : ℕ) → IsSeer s x
      → Acts IsNaming (if is_borrower s x then source_acts s (call_in n c) (act.Borrow x)
      else (if is_observer s x then source_acts s (call_in n c) (observe s x) else acts_in s (More (call_in n c) NoMore)))
  by_declared x view = by_kind (is_borrower s x) (is_observer s x) (kind_of s n c x view)
    where
      by_kind : (borrows observes : Bool) → (borrows ≡ true) ⊎ ((borrows ≡ false) × (observes ≡ true))
          → Acts IsNaming (if borrows then source_acts s (call_in n c) (act.Borrow x)
          else (if observes then source_acts s (call_in n c) (observe s x) else acts_in s (More (call_in n c) NoMore)))
      by_kind true observes kind = (placed c.name_pos (act.Borrow x (traversed_name c)), inl refl, inl itself)
      by_kind false true kind = (placed c.name_pos (observe s x (traversed_name c)), inl refl, inr itself)
      by_kind false false (inl never) = absurd (false≢true never)
      by_kind false false (inr (none, never)) = absurd (false≢true never)

  -- a borrower isn't assigned what goes through a package object
  not_itself : (x : ℕ) → is_borrower s x ≡ true → c.root ≡ x → ⊥
  not_itself x borrows same = true_false (is_package_object s c.root) shared (ap (is_package_object s) same ∙ local x borrows)

  by_assigned : (q : Pos) (x t : ℕ) → IsSeer s x → (is_observer s x ≡ false → c.root ≡ x)
      → Acts IsNaming (if is_borrower s x then index_acts s (call_in n c) ++ reborrow (target_pos p (written (Name q x NoMore t))) x (source (call_in n c))
      else (if is_observer s x then source_acts s (call_in n c) (observe s x) else stored_acts s (Name q x NoMore t) (call_in n c)))
  by_assigned q x t view own = by_kind (is_borrower s x) (is_observer s x) (kind_of s n c x view) own (observer_only s x) (not_itself x)
    where
      by_kind : (borrows observes : Bool) → (borrows ≡ true) ⊎ ((borrows ≡ false) × (observes ≡ true)) → (observes ≡ false → c.root ≡ x)
          → (observes ≡ true → borrows ≡ false) → (borrows ≡ true → c.root ≡ x → ⊥)
          → Acts IsNaming (if borrows then index_acts s (call_in n c) ++ reborrow (target_pos p (written (Name q x NoMore t))) x (source (call_in n c))
          else (if observes then source_acts s (call_in n c) (observe s x) else stored_acts s (Name q x NoMore t) (call_in n c)))
      by_kind true false kind own only none = absurd (none refl (own refl))
      by_kind true true kind own only none = absurd (let never : true ≡ false = only refl in true≢false never)
      by_kind false true kind own only none = (placed c.name_pos (observe s x (traversed_name c)), inl refl, inr itself)
      by_kind false false (inl never) own only none = absurd (false≢true never)
      by_kind false false (inr (none_there, never)) own only none = absurd (false≢true never)

  pub taker_names : (i : Instruction) → IsViewTaker s n c result i → Acts IsNaming (acts_of frame p i)
  taker_names i (inl (x, is, view)) = subst (λ z. Acts IsNaming (acts_of frame p z)) (sym is) (by_declared x view)
  taker_names i (inr (inl (q, x, t, is, view, own))) = subst (λ z. Acts IsNaming (acts_of frame p z)) (sym is) (by_assigned q x t view own)
  taker_names i (inr (inr (is, gives))) =
      subst (λ z. Acts IsNaming (acts_of frame p z)) (sym is)
      (subst (λ b. Acts IsNaming (if b then source_acts s (call_in n c) (λ m. act.Give m (gives_variable s result)) else acts_in s (More (call_in n c) NoMore))) (sym gives)
      (placed c.name_pos (act.Give (traversed_name c) (gives_variable s result)), inl refl, inr itself))
