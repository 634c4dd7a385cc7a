-- The facts that an act may change or be forbidden by: those that concern the object it speaks of.
use Rattle.std.specs.Prelude.{◌≡◌, ℕ, suc, Bool, true, ◌||◌, ◌==◌, List, [], ◌∷◌, Option, Some, None, if◌then◌else◌}
use Rattle.std.specs.Ordering.{nat_cmp}
use Rattle.std.specs.Map.{lookup}
use Rattle.std.specs.BTreeMap.{is_at}
use Rattle.place_names.specs.declared.fact.Fact.{Fact}
use Rattle.place_names.specs.declared.fact.Fact.TheVariants.{Moved, Lent}
use Rattle.place_names.specs.declared.act.Act.{Act}
use Rattle.place_names.specs.declared.act.Act.TheVariants.{Read, Look, Write, Move, Borrow, Observe, Reborrow, EndScope, Return, Actual, Global, Free, Give}

-- A fact concerns the object that its place is rooted in, and the one that holds the loan.
abbrev pub concerns : ℕ → Fact → Bool
concerns x (Moved n) = n.root == x
concerns x (Lent l h n) = (n.root == x) || (h == x)

-- The object that an act speaks of. A return speaks of many, and none is named.
abbrev pub object_of : Act → Option ℕ
object_of (Read m) = Some m.root
object_of (Look m) = Some m.root
object_of (Write k) = Some k.root
object_of (Move m parts) = Some m.root
object_of (Borrow h m) = Some m.root
object_of (Observe h m from_observer) = Some m.root
object_of (Reborrow b m) = Some b
object_of (EndScope x borrower) = Some x
object_of (Return roots) = None
object_of (Actual m mode owning access) = Some m.root
object_of (Global g written) = Some g
object_of (Free k) = Some k.root
object_of (Give m borrows) = Some m.root

-- A fact concerns an object, if one is named.
abbrev pub concerns_any : Option ℕ → Fact → Bool
concerns_any None f = true
concerns_any (Some x) f = concerns x f

-- An act touches a fact that concerns its object.
abbrev pub touches : Act → Fact → Bool
touches a f = concerns_any (object_of a) f

-- ---- numbers of facts

-- The numbers of the elements of a list that are as asked, in order, where the first one has the
-- number n.
abbrev pub numbers_from : {A : Type 0} → (A → Bool) → ℕ → List A → List ℕ
numbers_from asked n [] = []
numbers_from asked n (x ∷ xs) = if asked x then n ∷ numbers_from asked (suc n) xs else numbers_from asked (suc n) xs

abbrev pub numbers_of : {A : Type 0} → (A → Bool) → List A → List ℕ
numbers_of asked xs = numbers_from asked 0 xs

-- These are the numbers of some facts, and of all that an act touches.
abbrev pub HasTouched : Act → List Fact → List ℕ → Type 0
HasTouched a facts numbers = (asked : Fact → Bool) × (numbers ≡ numbers_of asked facts) × ((f : Fact) → touches a f ≡ true → asked f ≡ true)

-- ---- the facts of each object, looked up

abbrev pub listed : Option (List ℕ) → List ℕ
listed None = []
listed (Some numbers) = numbers

abbrev pub numbers_in : List (ℕ × List ℕ) → ℕ → List ℕ
numbers_in entries x = listed (lookup (is_at (nat_cmp x)) entries)

-- For each object they have the numbers of the facts that concern it.
abbrev pub AreIndexed : List (ℕ × List ℕ) → List Fact → Type 0
AreIndexed entries facts = (x : ℕ) → numbers_in entries x ≡ numbers_of (concerns x) facts
