-- When a value that is moved or made is that of the machine, with what is left in memory.
use Rattle.std.specs.Prelude.{◌≡◌, ◌⊎◌, ◌≤◌, ℕ, ◌+◌, Bool, true, IsTrue, List, [], ◌∷◌, ◌++◌, length, take, drop, get_or, slice_get, Some, ℤ, pos}
use Rattle.spark_base.specs.Lists.{Has}
use Rattle.run_values.specs.Arithmetic.{is_integer}
use Rattle.type_definitions.specs.declared.table.Shape.TheVariants as shape
use Rattle.type_definitions.specs.Types.{Table, shape_found, shape_of, words, is_owning}
use Rattle.flow_paths.specs.Objects.{Typing}
use Rattle.machine.specs.Words.{Word, access_offsets}
use Rattle.machine.specs.Typed.{Sort, sorts}
use Rattle.machine.specs.Memory.{Memory}
use Rattle.machine.specs.Evaluate.{Now, Evaluated, Done}
use Rattle.machine.specs.Evaluate as machine
use Rattle.run_codes.specs.Flat.{Flat, Stop, Raises, Traps, Made, Failed}
use Rattle.run_codes.specs.Flat as flat
use Rattle.run_codes.specs.Lowered.{words_before_value}
use Rattle.run_codes.specs.Related.{IsValue, IsTable, Seen, table, types, Lying, lying_sorts, Related, AreApart, IsSited}

-- ---- what is known of a table of types, besides

-- Low bounds are values of Integer, and an owning access type is its own access part.
pub record HasParts (table : Table) : Type 0 where
  pub whole : (t : ℕ) (low high : ℤ) → shape_found (slice_get table t) ≡ shape.Whole low high → IsTrue (is_integer low)
  pub listed : (t low high : ℕ) → (literals : _) → shape_found (slice_get table t) ≡ shape.Listed literals low high → IsTrue (is_integer (pos low))
  pub single : (t d : ℕ) (constant named : Bool) → shape_of table t ≡ shape.Access d constant named → is_owning table t ≡ true → access_offsets table t ≡ 0 ∷ []

-- ---- while a point is evaluated

-- All of the memory stands for the machine's, where the objects of the site lie in the stack, and the values
-- that the point takes wait.
pub record IsWhole (e : Seen) (all : List Lying) : Type 0 where
  pub laws : IsTable (table e)
  pub parts : HasParts (table e)
  pub related : Related e.site.typing all e.memory e.flat
  pub apart : AreApart e.site.typing all (length e.flat.stack)
  pub sited : IsSited e.site e.frame e.flat.base all
  pub waits : (k t : ℕ) → slice_get e.site.takes k ≡ Some t
      → IsValue (table e) (types e.memory) (sorts (table e) t) (get_or e.waits k []) (take (words (table e) t) (drop (words_before_value e.site k) e.flat.waits))

-- Memories of both sides later in the evaluation.
abbrev pub at : Seen → Memory → Flat → Seen
at e m f = record e { memory = m; flat = f }

-- So many words of the stack lie in no object.
abbrev pub IsOutside : Typing → List Lying → ℕ → ℕ → Type 0
IsOutside s all c n = (l : Lying) → Has all l → (l.at + length (lying_sorts s l) ≤ c) ⊎ (c + n ≤ l.at)

-- They stand for each other still, cells were made after those that there were, and what lies in no object
-- is as before.
pub record Later (e : Seen) (all : List Lying) (m : Memory) (f : Flat) : Type 0 where
  pub whole : IsWhole (at e m f) all
  pub more : List ℕ
  pub grown : types m ≡ types e.memory ++ more
  pub long : length f.stack ≡ length e.flat.stack
  pub base : f.base ≡ e.flat.base
  pub rest : f.rest ≡ e.flat.rest
  pub elsewhere : (c n : ℕ) → IsOutside e.site.typing all c n → take n (drop c f.stack) ≡ take n (drop c e.flat.stack)

-- ---- results

-- Both stop alike, with memories that stand for each other: the cells that were made are among them. Where
-- memory is out, the machine may go on.
abbrev pub Halts : Seen → List Lying → Stop → Flat → Evaluated (List Word) → Type 0
Halts e all (Raises x) f ev = (n : Now) × (ev ≡ machine.Raises x n) × Later e all n.memory f
Halts e all (Traps t) f ev = (n : Now) × (ev ≡ machine.Traps t n) × Later e all n.memory f
Halts e all flat.Memory f ev = Unit {0}

-- The value is the machine's, after so many values were taken, or both stop.
abbrev pub Filled : Seen → List Lying → ℕ → List Sort → Evaluated (List Word) → Made (List ℤ) → Type 0
Filled e all k want ev (flat.Done zs f) =
    (ws : List Word) × (m : Memory) × (ev ≡ Done ws (record { memory = m; waits = drop k e.waits })) × Later e all m f × IsValue (table e) (types m) want ws zs
Filled e all k want ev (flat.Halted stop f) = Halts e all stop f ev
Filled e all k want ev Failed = ⊥
