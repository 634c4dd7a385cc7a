-- What stands in the stack, and stores.
use Rattle.std.proofs.Common.{◌≡◌, ℕ, ◌+◌, ◌-◌, ◌≤◌, Bool, true, false, nat_le, List, length, take, drop, refl, sym, subst, ℤ, arith, if◌then◌else◌}
use Rattle.std.proofs.lemmas.List.{length-drop}
use Rattle.run_values.specs.declared.value.Kind.{Kind}
use Rattle.run_codes.specs.Flat.{Given, Broken, is_broken, spliced, InStack}
use Rattle.slot_heap.specs.Heaps.{Heap}
use Rattle.handled_runs.specs.Slots.{Slots, held}
use Rattle.handled_runs.specs.Changes.{stored, with_stack}
use Rattle.slot_memory.specs.Memory.{Kept, Ghosts, Stands, Shows, Changes, slots}
use Rattle.slot_memory.proofs.OfKinds.{tested, front_given, front_within}

pub reads_out : (s : Slots) (n : ℕ) (ks : List Kind) → is_broken (held s (InStack n) ks) ≡ false
    → (held s (InStack n) ks ≡ Given (take (length ks) (drop n s.stack))) × (length ks ≤ length s.stack - n)
reads_out s n ks is = (front_given ks (drop n s.stack) is, omega (arith, front_within ks (drop n s.stack) is, length-drop n s.stack))

-- What is given is what was.
pub given_same : {A : Type 0} (a b : A) → Given a ≡ Given b → a ≡ b
given_same a b is = cc

given_where : {A : Type 0} (b : Bool) (a t : A) → (if b then Given a else Broken) ≡ Given t → a ≡ t
given_where true a t is = given_same a t is
given_where false a t is = cc

-- A change that is given leaves a memory that stands for what it gives.
pub changes_given : {R : Type 0} (Means : R → Heap → Type 0) (m n : Kept R) (b : Slots → Bool) (f : Slots → Slots)
    → ((g : Ghosts) → Stands Means m g → b (slots m g) ≡ true → Shows Means n (f (slots m g))) → Changes Means m (λ s. if b s then Given (f s) else Broken) n
changes_given Means m n b f shows = λ g stands t is. by g stands t (b (slots m g)) refl is
  where
    by : (g : Ghosts) → Stands Means m g → (t : Slots) (c : Bool) → b (slots m g) ≡ c → (if c then Given (f (slots m g)) else Broken) ≡ Given t → Shows Means n t
    by g stands t true e is = (let P : Slots → Type 0 = λ u. Shows Means n u in subst P (given_same (f (slots m g)) t is) (shows g stands e))
    by g stands t false e is = cc

-- Words are stored in the stack.
pub stack_shows : {R : Type 0} (Means : R → Heap → Type 0) (m : Kept R) (g : Ghosts) (stack : List ℤ) → Stands Means m g
    → Shows Means (record m { stack = stack }) (with_stack (slots m g) stack)
stack_shows Means m g stack stands = (record { cells = stands.cells; moves = stands.moves }, refl)

pub stack_stored : {R : Type 0} (Means : R → Heap → Type 0) (m n : Kept R) (at : ℕ) (ks : List Kind) (zs : List ℤ)
    → n ≡ record m { stack = spliced at zs m.stack } → Changes Means m (λ s. stored s (InStack at) ks zs) n
stack_stored Means m n at ks zs is =
    let P : Kept _ → Type 0 = λ k. Changes Means m (λ s. stored s (InStack at) ks zs) k in
    subst P (sym is)
    (changes_given Means m (record m { stack = spliced at zs m.stack }) (λ s. nat_le (at + length zs) (length s.stack)) (λ s. with_stack s (spliced at zs s.stack))
    (λ g stands e. stack_shows Means m g (spliced at zs m.stack) stands))

pub stack_room : (s : Slots) (at : ℕ) (ks : List Kind) (zs : List ℤ) → is_broken (stored s (InStack at) ks zs) ≡ false → at + length zs ≤ length s.stack
stack_room s at ks zs is =
    let t = tested (nat_le (at + length zs) (length s.stack)) (Given (with_stack s (spliced at zs s.stack))) is in
    le_is (at + length zs) (length s.stack) t.0
  where
    le_is : (a b : ℕ) → nat_le a b ≡ true → a ≤ b
    le_is a b e = grind arith
