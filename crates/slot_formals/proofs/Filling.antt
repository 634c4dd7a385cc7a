-- A frame whose formals get what is passed.
use Rattle.std.proofs.Common.{◌≡◌, ℕ, List, ◌++◌, length, sym, ap, subst, ◌∙◌}
use Rattle.type_definitions.specs.Types.{Table}
use Rattle.slot_heap.specs.Heaps.{Heap}
use Rattle.std.specs.Prelude.{flat_map, map}
use Rattle.code_rows.specs.declared.codes.Codes.{Codes}
use Rattle.code_rows.specs.declared.point.Room.{Room}
use Rattle.code_rows.specs.declared.point.Sub as row
use Rattle.code_rows.specs.Points.{room_of, rooms_of, sub_of}
use Rattle.run_codes.specs.Codes.{Sub}
use Rattle.run_codes.specs.Points.{Passed, template, room_words}
use Rattle.handled_steps.specs.States.{with_frame}
use Rattle.slot_memory.specs.Memory.{Kept, Ghosts, Stands, Changes, slots}
use Rattle.slot_formals.specs.Formals.{placed, placed_in}
use Rattle.slot_formals.specs.Leads.{Gives}

-- the words of a frame are pushed
pub pushed_is : {R : Type 0} (table : Table) (codes : Codes) (sub : row.Sub) (rs : List Room) (m n : Kept R) → rs ≡ rooms_of codes sub
    → n ≡ record m { stack = m.stack ++ flat_map (room_words table) (map room_of rs) } → n ≡ record m { stack = m.stack ++ template table (sub_of codes sub) }
pushed_is table codes sub rs m n same is = is ∙ ap (λ l. record m { stack = m.stack ++ flat_map (room_words table) (map room_of l) }) same

module _ {R : Type 0} (Means : R → Heap → Type 0) (table : Table) (sub : Sub) (passed : List Passed) (m n : Kept R) (fs : List ℕ) (base : ℕ)
    (pushed : n ≡ record m { stack = m.stack ++ template table sub }) (formals : fs ≡ sub.formals) (at : base ≡ length m.stack) where
  stands_on : (g : Ghosts) → Stands Means m g → Stands Means n g
  stands_on g stands = subst (λ (k : Kept R). Stands Means k g) (sym pushed) (record { cells = stands.cells; moves = stands.moves })

  slots_are : (g : Ghosts) → slots n g ≡ with_frame table sub (slots m g)
  slots_are g = ap (λ (k : Kept R). slots k g) pushed

  same : (g : Ghosts) → placed table base fs passed (slots n g) ≡ placed_in table sub passed (slots m g)
  same g =
      ap (placed table base fs passed) (slots_are g)
      ∙ ap (λ b. placed table b fs passed (with_frame table sub (slots m g))) at
      ∙ ap (λ l. placed table (length m.stack) l passed (with_frame table sub (slots m g))) formals

  pub fill_gives : Gives Means m (placed_in table sub passed) → Gives Means n (placed table base fs passed)
  fill_gives gives = record { ghosts = gives.ghosts; stands = stands_on gives.ghosts gives.stands; after = gives.after; is = same gives.ghosts ∙ gives.is }

  pub fill_changes : (k : Kept R) → Changes Means n (placed table base fs passed) k → Changes Means m (placed_in table sub passed) k
  fill_changes k changes g stands t is = changes g (stands_on g stands) t (same g ∙ is)
