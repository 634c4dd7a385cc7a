-- Points that write and read, over both heaps.
use Rattle.std.proofs.Common.{◌≡◌, refl, sym, ap, ◌∙◌, subst, ℕ, Bool, true, false, List, [], ◌∷◌, ◌++◌, map, get_or, Option, ℤ, if◌then◌else◌}
use Rattle.std.specs.Prelude.{unsigned_abs}
use Rattle.std.specs.Char.{to_ascii_uppercase}
use Rattle.handled_runs.specs.type_definitions.Types.{shape_of}
use Rattle.handled_runs.specs.run_values.declared.value.Kind.{Kind}
use Rattle.handled_runs.specs.run_values.declared.value.Kind.TheVariants as sort
use Rattle.handled_runs.specs.run_values.declared.items.Item.{Item}
use Rattle.handled_runs.specs.run_values.declared.items.Item.TheVariants as item
use Rattle.handled_runs.specs.run_values.Images.{image}
use Rattle.handled_runs.specs.run_values.Items.{next_item}
use Rattle.handled_runs.specs.machine.Evaluate.{DataError, EndError, literals}
use Rattle.handled_runs.specs.run_codes.Codes.{Code, Place, Piece, Bytes, NumberImage, LiteralImage}
use Rattle.handled_runs.specs.run_codes.Flat.{Flat, Got, Given, Raises, and_then, constraint, is_between, Spot}
use Rattle.handled_runs.specs.run_codes.Flat as flat
use Rattle.handled_runs.specs.run_codes.Points as points
use Rattle.handled_runs.specs.Slots.{Slots}
use Rattle.handled_runs.specs.Slots as slots
use Rattle.handled_runs.specs.Changes.{stored}
use Rattle.handled_runs.specs.Beside.{GotsAlike, spot_renamed, Beside}
use Rattle.handled_runs.specs.Alike.{StandAt, LooksThere}
use Rattle.handled_steps.specs.States.{State, Outcome, Goes, Turn, start, waiting, halted, on_got, after}
use Rattle.handled_steps.specs.Steps.{piece_bytes, text, writing, output, reading, read, input}
use Rattle.handled_steps.specs.Alike.{StatesAlike, OutcomesAlike, led_kinds}
use Rattle.handled_steps.specs.Looks.{LooksData, LooksPiece, LooksPieces, taken_kinds}
use Rattle.handled_steps.proofs.Turns.{Both, flat_turn, slot_turn, start_more, got_on, halted_alike, after_alike, waiting_on, back_on}
use Rattle.handled_runs.proofs.Gots.{gots_then}
use Rattle.handled_runs.proofs.Places.{spot_gots}
use Rattle.handled_runs.proofs.There.{stored_gots}
use Rattle.handled_steps.proofs.Gots.{data_gots}

module _ (handles : List ℕ) (here : List Kind) (z : Both handles here) where
  abbrev t : points.Turn
  t = flat_turn handles here z

  abbrev u : Turn
  u = slot_turn handles here z

  abbrev takes : List Kind
  takes = taken_kinds t

  abbrev m : Flat
  m = points.start t

  abbrev s : Slots
  s = start u

  abbrev hs : List ℕ
  hs = handles ++ []

  abbrev Same : List Kind → points.Outcome → Outcome → Type 0
  Same = OutcomesAlike z.table handles

  beside : Beside hs here takes m s
  beside = start_more handles here z

  -- ---- output

  abbrev SameBytes : Got (List ℕ) → Got (List ℕ) → Type 0
  SameBytes = GotsAlike (λ a b. b ≡ a)

  word_piece : (c : Code) (f : ℤ → List ℕ) → LooksData m here takes c → SameBytes (and_then (flat.word m c) (λ w. Given (f w))) (and_then (slots.word s c) (λ w. Given (f w)))
  word_piece c f looks =
      gots_then (λ a b. b ≡ a) (λ a b. b ≡ a) (flat.word m c) (slots.word s c) (λ w. Given (f w)) (λ w. Given (f w)) (data_gots hs here takes m s beside z.clear c looks) (λ w v e same. ap f same)

  piece_gots : (p : Piece) → LooksPiece m here takes p → SameBytes (points.piece_bytes z.table m p) (piece_bytes z.table s p)
  piece_gots (Bytes bytes) looks = refl
  piece_gots (NumberImage c) looks = word_piece c image looks
  piece_gots (LiteralImage c of) looks = word_piece c (λ w. map to_ascii_uppercase (get_or (literals (shape_of z.table of)) (unsigned_abs w) [])) looks

  text_gots : (pieces : List Piece) → LooksPieces m here takes pieces → SameBytes (points.text z.table m pieces) (text z.table s pieces)
  text_gots [] looks = refl
  text_gots (p ∷ rest) looks =
      gots_then (λ a b. b ≡ a) (λ a b. b ≡ a) (points.piece_bytes z.table m p) (piece_bytes z.table s p)
      (λ bytes. and_then (points.text z.table m rest) (λ more. Given (bytes ++ more))) (λ bytes. and_then (text z.table s rest) (λ more. Given (bytes ++ more))) (piece_gots p looks.0)
      (λ bytes others e same.
      gots_then (λ a b. b ≡ a) (λ a b. b ≡ a) (points.text z.table m rest) (text z.table s rest) (λ more. Given (bytes ++ more)) (λ more. Given (others ++ more)) (text_gots rest looks.1)
      (λ more mores f same_more. ap (λ xs. xs ++ mores) same ∙ ap (λ ys. bytes ++ ys) same_more))

  written_alike : (ks : List Kind) (bytes : List ℕ) (a : points.State) (b : State) → StatesAlike z.table hs ks a b → StatesAlike z.table hs ks (record a { output = a.output ++ bytes }) (writing bytes b)
  written_alike ks bytes a b is = record {
    taken = is.taken;
    memory = is.memory;
    frames = is.frames;
    at = is.at;
    output = ap (λ out. out ++ bytes) is.output;
    leaks = is.leaks;
    steps = is.steps;
  }

  pub output_alike : (pieces : List Piece) (line : Bool) (n : Option ℕ) → LooksPieces m here takes pieces → Same (led_kinds t here n) (points.output t pieces line n) (output u pieces line n)
  output_alike pieces line n looks =
      got_on handles here z [] here takes m s beside (λ a b. b ≡ a) (led_kinds t here n) (points.text z.table m pieces) (text z.table s pieces)
      (λ bytes. points.Goes (record (points.after t (points.waiting t) m n) { output = (points.after t (points.waiting t) m n).output ++ (bytes ++ (if line then 10 ∷ [] else [])) }))
      (λ bytes. Goes (writing (bytes ++ (if line then 10 ∷ [] else [])) (after u (waiting u) s n)))
      (text_gots pieces looks)
      (λ bytes others found same.
      subst (λ xs. Same (led_kinds t here n) (points.Goes (record (points.after t (points.waiting t) m n) { output = (points.after t (points.waiting t) m n).output ++ (bytes ++ (if line then 10 ∷ [] else [])) }))
      (Goes (writing (xs ++ (if line then 10 ∷ [] else [])) (after u (waiting u) s n)))) (sym same) (
        [],
        written_alike (led_kinds t here n) (bytes ++ (if line then 10 ∷ [] else [])) (points.after t (points.waiting t) m n) (after u (waiting u) s n)
            (after_alike handles here z [] here takes m s beside (points.waiting t) (waiting u) (waiting_on handles here z [] here takes m s beside) n),
        back_on handles here z m beside.known (points.waiting t) n,
      ))

  -- ---- input

  abbrev flat_read : ℤ → ℤ → Option ℕ → Spot → Item → points.Outcome
  flat_read low high n q item.Missing = points.halted t (Raises EndError) m
  flat_read low high n q item.Bad = points.halted t (Raises DataError) m
  flat_read low high n q (item.Number v end) =
      if is_between low high v
      then points.on_got t m (flat.stored m q (sort.Int ∷ []) (v ∷ [])) (λ k. points.Goes (record (points.after t (points.waiting t) k n) { at = end }))
      else points.halted t constraint m

  moved_alike : (ks : List Kind) (end : ℕ) (a : points.State) (b : State) → StatesAlike z.table hs ks a b → StatesAlike z.table hs ks (record a { at = end }) (reading end b)
  moved_alike ks end a b is = record {
    taken = is.taken;
    memory = is.memory;
    frames = is.frames;
    at = refl;
    output = is.output;
    leaks = is.leaks;
    steps = is.steps;
  }

  read_alike : (low high : ℤ) (n : Option ℕ) (q : Spot) (i : Item) → StandAt m here q (sort.Int ∷ []) → Same (led_kinds t here n) (flat_read low high n q i) (read u low high n (spot_renamed hs q) i)
  read_alike low high n q item.Missing stand = halted_alike handles here z [] here takes m s beside (led_kinds t here n) (Raises EndError)
  read_alike low high n q item.Bad stand = halted_alike handles here z [] here takes m s beside (led_kinds t here n) (Raises DataError)
  read_alike low high n q (item.Number v end) stand = by (is_between low high v)
    where
      by : (c : Bool)
          → Same (led_kinds t here n)
          (if c then points.on_got t m (flat.stored m q (sort.Int ∷ []) (v ∷ [])) (λ k. points.Goes (record (points.after t (points.waiting t) k n) { at = end })) else points.halted t constraint m)
          (if c then on_got u s (stored s (spot_renamed hs q) (sort.Int ∷ []) (v ∷ [])) (λ k. Goes (reading end (after u (waiting u) k n))) else halted u constraint s)
      by true =
          got_on handles here z [] here takes m s beside (Beside hs here takes) (led_kinds t here n) (flat.stored m q (sort.Int ∷ []) (v ∷ [])) (stored s (spot_renamed hs q) (sort.Int ∷ []) (v ∷ []))
          (λ k. points.Goes (record (points.after t (points.waiting t) k n) { at = end })) (λ k. Goes (reading end (after u (waiting u) k n)))
          (stored_gots hs here takes m s beside q (sort.Int ∷ []) (v ∷ []) stand refl (tt, tt))
          (λ i j found both. (
            [],
            moved_alike (led_kinds t here n) end (points.after t (points.waiting t) i n) (after u (waiting u) j n)
                (after_alike handles here z [] here takes i j both (points.waiting t) (waiting u) (waiting_on handles here z [] here takes i j both) n),
            back_on handles here z i both.known (points.waiting t) n,
          ))
      by false = halted_alike handles here z [] here takes m s beside (led_kinds t here n) constraint

  pub input_alike : (p : Place) (low high : ℤ) (n : Option ℕ) → LooksThere z.f.base here takes p (sort.Int ∷ []) → Same (led_kinds t here n) (points.input t p low high n) (input u p low high n)
  input_alike p low high n looks =
      got_on handles here z [] here takes m s beside (λ q r. r ≡ spot_renamed hs q) (led_kinds t here n) (flat.spot m p) (slots.spot s p)
      (λ q. flat_read low high n q (next_item z.input z.a.at)) (λ q. read u low high n q (next_item z.input z.b.at))
      (spot_gots hs here takes m s beside z.clear p (looks m refl).0)
      (λ q r found same.
      subst (λ x. Same (led_kinds t here n) (flat_read low high n q (next_item z.input z.a.at)) (read u low high n x (next_item z.input z.b.at))) (sym same)
      (subst (λ i. Same (led_kinds t here n) (flat_read low high n q (next_item z.input z.a.at)) (read u low high n (spot_renamed hs q) (next_item z.input i))) (sym z.states.at)
      (read_alike low high n q (next_item z.input z.a.at) ((looks m refl).1 q found))))
