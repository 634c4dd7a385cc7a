-- Nothing is gone as a step begins.
use Rattle.std.proofs.Common.{◌≡◌, refl, sym, ap, ◌∙◌, subst, ℕ, zero, suc, ◌-◌, Bool, true, false, List, [], ◌∷◌, ◌++◌, map, flat_map, reverse, length, take, nat_lt, slice_get, Some, ℤ, pos, negsuc, if◌then◌else◌, arith}
use Rattle.std.proofs.lemmas.List.{reverse-append}
use Rattle.std.proofs.lemmas.Bool.{false≢true}
use Rattle.std.specs.Prelude.{is_some}
use Rattle.machine.specs.type_definitions.Types.{Table}
use Rattle.kept_cells.specs.run_values.declared.value.Value.{Value}
use Rattle.kept_cells.specs.run_values.declared.value.Value.TheVariants as value
use Rattle.kept_cells.specs.run_values.declared.value.Kind.{Kind}
use Rattle.kept_cells.specs.run_values.declared.value.Kind.TheVariants as sort
use Rattle.kept_cells.specs.run_values.Values.{kind}
use Rattle.machine.specs.Words.{Word}
use Rattle.machine.specs.Typed.{Sort, Whole, Position, Pointer, sorts}
use Rattle.machine.specs.Memory.{fresh}
use Rattle.machine.specs.States.{Waiting}
use Rattle.kept_cells.specs.Cells.{Cell}
use Rattle.run_codes.specs.Codes.{Point}
use Rattle.run_codes.specs.Flat.{Flat, gone_from, kind_of, kinds, word_of, words_in}
use Rattle.run_codes.specs.Points.{Held, Frame, State}
use Rattle.run_codes.specs.Points as points
use Rattle.run_codes.specs.Programs.{Program}
use Rattle.run_codes.specs.Related.{AllStand}
use Rattle.run_points.specs.States.{WaitsStand}
use Rattle.run_points.proofs.Waits.{first_stand}
use Rattle.handled_runs.specs.Alike.{AreNumbers}
use Rattle.handled_runs.specs.Looks.{IsNumber, IsKept, IsKeptAs, AreKept, IsClear}
use Rattle.handled_steps.specs.Alike.{frame_kinds}
use Rattle.handled_steps.specs.Clear.{cleared_word, cleared_words, cleared_value, cleared_cell, cleared_flat}
use Rattle.handled_steps.specs.Looks.{turn_of, taken_kinds}
use Rattle.handled_steps.proofs.Tables.{template_numbers}
use Rattle.soundness.proofs.Parted.{some_same}

-- Neither in the stack nor in a cell.
abbrev pub NoneGone : List Kind → Flat → Type 0
NoneGone here m = AreKept here m.stack × ((n : ℕ) (c : Cell) → slice_get m.cells n ≡ Some c → AreKept (map kind c.words) (words_in c.words))

-- ---- lists

pub kept_on : (ks js : List Kind) (zs ws : List ℤ) → length ks ≡ length zs → AreKept ks zs → AreKept js ws → AreKept (ks ++ js) (zs ++ ws)
kept_on [] js [] ws long first second = second
kept_on [] js (z ∷ zs) ws long first second = absurd (omega (arith, long))
kept_on (k ∷ ks) js [] ws long first second = absurd (omega (arith, long))
kept_on (k ∷ ks) js (z ∷ zs) ws long first second = (first.0, kept_on ks js zs ws (omega (arith, long)) first.1 second)

-- ---- words that are cleared

word_kept : (k : Kind) (z : ℤ) → IsKeptAs k (cleared_word k z)
word_kept sort.Int z = tt
word_kept sort.Enum z = tt
word_kept sort.Access (pos n) = tt
word_kept sort.Access (negsuc n) = tt

words_kept : (ks : List Kind) (zs : List ℤ) → AreKept ks (cleared_words ks zs)
words_kept [] zs = tt
words_kept (k ∷ ks) [] = tt
words_kept (k ∷ ks) (z ∷ zs) = (word_kept k z, words_kept ks zs)

value_kept : (v : Value) → IsKeptAs (kind (cleared_value v)) (word_of (cleared_value v))
value_kept (value.Int i) = tt
value_kept (value.Enum n) = tt
value_kept value.Null = tt
value_kept (value.Cell n) = by (nat_lt n gone_from) refl
  where
    in_cell : (b : Bool) → nat_lt n gone_from ≡ b → b ≡ true → IsKeptAs sort.Access (if nat_lt n gone_from then pos (suc n) else negsuc (n - gone_from))
    in_cell b low is = subst (λ c. IsKeptAs sort.Access (if c then pos (suc n) else negsuc (n - gone_from))) (sym (low ∙ is)) tt

    by : (b : Bool) → nat_lt n gone_from ≡ b → IsKeptAs (kind (if b then value.Cell n else value.Null)) (word_of (if b then value.Cell n else value.Null))
    by true low = in_cell true low refl
    by false low = tt

values_kept : (vs : List Value) → AreKept (map kind (map cleared_value vs)) (words_in (map cleared_value vs))
values_kept [] = tt
values_kept (v ∷ vs) = (value_kept v, values_kept vs)

cells_kept : (cells : List Cell) (n : ℕ) (c : Cell) → slice_get (map cleared_cell cells) n ≡ Some c → AreKept (map kind c.words) (words_in c.words)
cells_kept [] n c is = absurd (false≢true (ap is_some is))
cells_kept (k ∷ cells) zero c is = subst (λ (x : Cell). AreKept (map kind x.words) (words_in x.words)) (some_same is) (values_kept k.words)
cells_kept (k ∷ cells) (suc n) c is = cells_kept cells n c is

pub cleared_kept : (here : List Kind) (m : Flat) → NoneGone here (cleared_flat here m)
cleared_kept here m = (words_kept here m.stack, cells_kept m.cells)

-- ---- frames without a value

number_kept : (k : Kind) (z : ℤ) → IsNumber k z → IsKeptAs k z
number_kept sort.Int z is = tt
number_kept sort.Enum z is = tt
number_kept sort.Access z is = subst IsKept (sym is) tt

numbers_kept : (ks : List Kind) (zs : List ℤ) → AreNumbers ks zs → AreKept ks zs
numbers_kept [] zs are = tt
numbers_kept (k ∷ ks) [] are = tt
numbers_kept (k ∷ ks) (z ∷ zs) are = (number_kept k z are.0, numbers_kept ks zs are.1)

pub template_kept : (table : Table) (sub : _) → AreKept (frame_kinds table sub) (points.template table sub)
template_kept table sub = numbers_kept (frame_kinds table sub) (points.template table sub) (template_numbers table sub)

-- ---- values that wait

fresh_kept : (table : Table) (made : List ℕ) (all : List Sort) (ws : List Word) (zs : List ℤ) → AllStand table made all (fresh ws) zs → AreKept (map kind_of all) zs
fresh_kept table made [] ws zs stand = tt
fresh_kept table made (s ∷ all) [] zs stand = absurd stand
fresh_kept table made (s ∷ all) (w ∷ ws) [] stand = absurd stand
fresh_kept table made (Whole ∷ all) (w ∷ ws) (z ∷ zs) stand = (tt, fresh_kept table made all ws zs stand.1)
fresh_kept table made (Position ∷ all) (w ∷ ws) (z ∷ zs) stand = (tt, fresh_kept table made all ws zs stand.1)
fresh_kept table made (Pointer d ∷ all) (w ∷ ws) (pos n ∷ zs) stand = (tt, fresh_kept table made all ws zs stand.1)
fresh_kept table made (Pointer d ∷ all) (w ∷ ws) (negsuc n ∷ zs) stand = (let no : false ≡ true = stand.0.1 in absurd (false≢true no))

module _ (table : Table) where
  abbrev of_held : Held → List Kind
  of_held h = kinds table h.of

  abbrev in_held : Held → List ℤ
  in_held h = h.words

  -- All of them have values of their types.
  abbrev AllHeld : List Held → Type 0
  AllHeld [] = Unit {0}
  AllHeld (h ∷ hs) = ((length (of_held h) ≡ length h.words) × AreKept (of_held h) h.words) × AllHeld hs

  held_on : (hs gs : List Held) → AllHeld hs → AllHeld gs → AllHeld (hs ++ gs)
  held_on [] gs all others = others
  held_on (h ∷ hs) gs all others = (all.0, held_on hs gs all.1 others)

  held_reversed : (hs : List Held) → AllHeld hs → AllHeld (reverse hs)
  held_reversed [] all = tt
  held_reversed (h ∷ hs) all = subst AllHeld (sym (reverse-append (h ∷ []) hs)) (held_on (reverse hs) (h ∷ []) (held_reversed hs all.1) (all.0, tt))

  held_kept : (hs : List Held) → AllHeld hs → AreKept (flat_map of_held hs) (flat_map in_held hs)
  held_kept [] all = tt
  held_kept (h ∷ hs) all = kept_on (of_held h) (flat_map of_held hs) h.words (flat_map in_held hs) all.0.0 all.0.1 (held_kept hs all.1)

  waits_held : (made : List ℕ) (ws : List Waiting) (hs : List Held) → WaitsStand table made ws hs → AllHeld hs
  waits_held made [] [] stand = tt
  waits_held made [] (h ∷ hs) stand = absurd stand
  waits_held made (w ∷ ws) [] stand = absurd stand
  waits_held made (w ∷ ws) (h ∷ hs) stand = (
    subst (λ of. (length (kinds table of) ≡ length h.words) × AreKept (kinds table of) h.words) (sym stand.0.of)
        (map_long (sorts table w.of) ∙ sym stand.0.value.numbers, fresh_kept table made (sorts table w.of) w.words h.words stand.0.value.stand),
    waits_held made ws hs stand.1,
  )
    where
      map_long : (all : List Sort) → length (map kind_of all) ≡ length all
      map_long [] = refl
      map_long (s ∷ all) = ap suc (map_long all)

  pub clear_start : (p : Program) (input : List ℕ) (g : State) (h : Frame) (gs : List Frame) (q : Point) (here : List Kind) (made : List ℕ) (ws : List Waiting)
      → WaitsStand table made ws h.waits → NoneGone here g.memory
      → IsClear here (taken_kinds (turn_of table p input g h gs q)) (points.start (turn_of table p input g h gs q))
  clear_start p input g h gs q here made ws stand none = record {
    stack = none.0;
    waits = held_kept (points.taken (turn_of table p input g h gs q))
        (held_reversed (take (length q.takes) h.waits) (waits_held made (take (length q.takes) ws) (take (length q.takes) h.waits) (first_stand table made (length q.takes) ws h.waits stand)));
    cells = none.1;
  }
