-- An evaluation frees no cell, and leaves objects of frames that aren't there without a value.
use Rattle.std.proofs.Common.{◌≡◌, inl, inr, ℕ, zero, suc, ◌+◌, ◌<◌, ◌≤◌, true, false, Bool, List, [], ◌∷◌, ◌++◌, map, length, take, drop, get_or, refl, sym, ap, subst, ◌∙◌, arith, length-append, if◌then◌else◌}
use Rattle.std.proofs.lemmas.List.{length-map}
use Rattle.std.proofs.lemmas.Bool.{cases_lt}
use Rattle.flow_paths.specs.Objects.{Typing, is_package_object}
use Rattle.machine.specs.Words.{Word, access_offsets}
use Rattle.machine.specs.Memory.{Memory, Slot, HeapCell, Base, Place, OfVariable, OfCell, no_cell, cell, at_number, fresh, gone_at, slots_at, slots_of, put, moved_out, with_new_cell}
use Rattle.machine.specs.Evaluate.{Here, variable_place}
use Rattle.run_codes.proofs.News.{get_before}
use Rattle.run_codes.proofs.Cells.{number_long}
use Rattle.run_points.specs.States.{AreUndeclared, IsLow}
use Rattle.run_points.proofs.Stacks.{undeclared_on}
use Rattle.run_points.proofs.Keeping.{IsKeeping}

-- ---- cells that are freed

-- Whether the cell with a number from 0 was freed before.
abbrev pub was_freed : Memory → ℕ → Bool
was_freed m n = get_or (map (λ (c : HeapCell). c.freed) m.cells) n false

-- No other one is freed in a later memory.
pub record FreesNone (before m : Memory) : Type 0 where
  pub more : length before.cells ≤ length m.cells
  pub same : (n : ℕ) → n < length m.cells → (cell m (suc n)).freed ≡ was_freed before n

flag_at : (cells : List HeapCell) (n : ℕ) → n < length cells → (get_or cells n no_cell).freed ≡ get_or (map (λ (c : HeapCell). c.freed) cells) n false
flag_at [] n lt = absurd (omega (arith, lt))
flag_at (c ∷ cells) zero lt = refl
flag_at (c ∷ cells) (suc n) lt = flag_at cells n (omega (arith, lt))

no_flag : (cells : List Bool) (n : ℕ) → length cells ≤ n → get_or cells n false ≡ false
no_flag [] n le = refl
no_flag (c ∷ cells) zero le = absurd (omega (arith, le))
no_flag (c ∷ cells) (suc n) le = no_flag cells n (omega (arith, le))

pub frees_none : (m : Memory) → FreesNone m m
frees_none m = record { more = same (length m.cells); same = λ n lt. flag_at m.cells n lt }
  where
    same : (n : ℕ) → n ≤ n
    same n = omega arith

-- Other slots leave the flags as they are.
flag_put : (k n : ℕ) (slots : List Slot) (cells : List HeapCell) → (get_or (at_number k (λ (c : HeapCell). record c { slots = slots }) cells) n no_cell).freed ≡ (get_or cells n no_cell).freed
flag_put k n slots [] = refl
flag_put zero zero slots (c ∷ cells) = refl
flag_put zero (suc n) slots (c ∷ cells) = refl
flag_put (suc k) zero slots (c ∷ cells) = refl
flag_put (suc k) (suc n) slots (c ∷ cells) = flag_put k n slots cells

pub frees_put : (before : Memory) (b : Base) (slots : List Slot) (m : Memory) → FreesNone before m → FreesNone before (put b slots m)
frees_put before (OfVariable frame x) slots m is = record { more = is.more; same = is.same }
frees_put before (OfCell zero) slots m is = record { more = is.more; same = is.same }
frees_put before (OfCell (suc k)) slots m is =
    let long = number_long k (λ (c : HeapCell). record c { slots = slots }) m.cells in
    record {
      more = subst (λ j. length before.cells ≤ j) (sym long) is.more;
      same = λ n lt. flag_put k n slots m.cells ∙ is.same n (subst (λ j. n < j) long lt);
    }

pub frees_moved : (before : Memory) (s : Typing) (p : Place) (m : Memory) → FreesNone before m → FreesNone before (moved_out s p m)
frees_moved before s p m is = frees_put before p.base (take p.at (slots_at s m p.base) ++ slots ++ drop (p.at + length slots) (slots_at s m p.base)) m is
  where
    slots : List Slot
    slots = gone_at (access_offsets s.table p.of) (slots_of s m p)

flag_last : (cells : List HeapCell) (c : HeapCell) → (get_or (cells ++ c ∷ []) (length cells) no_cell) ≡ c
flag_last [] c = refl
flag_last (b ∷ cells) c = flag_last cells c

frees_new : (before : Memory) (t : ℕ) (ws : List Word) (m : Memory) → FreesNone before m → FreesNone before (with_new_cell t ws m)
frees_new before t ws m is =
    let long = length-append m.cells (new ∷ []) in
    record {
      more = omega (arith, long, is.more);
      same = λ n lt. elim (cases_lt n (length m.cells)) [
        | inl old ↦ ap (λ (c : HeapCell). c.freed) (get_before m.cells (new ∷ []) n no_cell old) ∙ is.same n old
        | inr last ↦ (
            let at : n ≡ length m.cells = omega (arith, lt, last, long) in
            let count = length-map before.cells (λ (c : HeapCell). c.freed) in
            ap (λ k. (get_or (m.cells ++ new ∷ []) k no_cell).freed) at ∙ ap (λ (c : HeapCell). c.freed) (flag_last m.cells new)
            ∙ sym (no_flag (map (λ (c : HeapCell). c.freed) before.cells) n (omega (arith, count, last, is.more))))
      ];
    }
  where
    new : HeapCell
    new = record { of = t; slots = fresh ws; freed = false }

-- Of all places.
abbrev pub Anywhere : Base → Type 0
Anywhere b = Unit {0}

pub keeps_flags : (h : Here) (before : Memory) → IsKeeping h Anywhere (FreesNone before)
keeps_flags h before = record {
  variables = λ x. tt;
  cells = λ n. tt;
  moves = λ p m low is. frees_moved before h.typing p m is;
  news = λ t ws m is. frees_new before t ws m is;
}

-- ---- frames that aren't there

put_low : (s : Typing) (n : ℕ) (b : Base) (slots : List Slot) (m : Memory) → IsLow n b → AreUndeclared s n m → AreUndeclared s n (put b slots m)
put_low s n (OfVariable frame x) slots m low is = undeclared_on s n frame x slots m low is
put_low s n (OfCell zero) slots m low is = is
put_low s n (OfCell (suc k)) slots m low is = is

pub low_moved : (s : Typing) (n : ℕ) (p : Place) (m : Memory) → IsLow n p.base → AreUndeclared s n m → AreUndeclared s n (moved_out s p m)
low_moved s n p m low is = put_low s n p.base (take p.at (slots_at s m p.base) ++ slots ++ drop (p.at + length slots) (slots_at s m p.base)) m low is
  where
    slots : List Slot
    slots = gone_at (access_offsets s.table p.of) (slots_of s m p)

low_variable : (h : Here) (n x : ℕ) → h.frame < n → IsLow n (variable_place h x).base
low_variable h n x low = by (is_package_object h.typing x)
  where
    first : (a n : ℕ) → a < n → 0 < n
    first a n low = omega (arith, low)

    by : (b : Bool) → (if b then 0 else h.frame) < n
    by true = first h.frame n low
    by false = low

pub keeps_undeclared : (h : Here) (n : ℕ) → h.frame < n → IsKeeping h (IsLow n) (AreUndeclared h.typing n)
keeps_undeclared h n low = record {
  variables = λ x. low_variable h n x low;
  cells = λ k. tt;
  moves = λ p m at is. low_moved h.typing n p m at is;
  news = λ t ws m is. is;
}
