-- What is in hand keeps words typed.
use Rattle.std.proofs.Common.{◌≡◌, refl, sym, ap, ◌∙◌, subst, ◌⊎◌, inl, inr, ℕ, zero, suc, ◌+◌, ◌*◌, ◌<◌, ◌≤◌, Bool, true, ◌==◌, List, [], ◌∷◌, ◌++◌, map, length, get_or, ℤ, arith, append-nil, eqb-true, length-append, suc-mul, nat_lt, ltb-true, if◌then◌else◌}
use Rattle.std.proofs.lemmas.List.{get_or_past, get_or_append_left, get_or-append-add}
use Rattle.std.proofs.lemmas.Bool.{false≢true}
use Rattle.machine.specs.spark_base.Lists.{Has}
use Rattle.spark_base.proofs.Lists.{ends}
use Rattle.machine.specs.type_definitions.declared.table.Shape.{Shape}
use Rattle.machine.specs.type_definitions.declared.table.Shape.TheVariants as shape
use Rattle.machine.specs.type_definitions.Types.{shape_of, components_of, span, words, words_of as shape_words, full, view_of, is_scalar, is_nil}
use Rattle.machine.specs.flow_paths.Objects.{Typing}
use Rattle.machine.specs.Words as machine
use Rattle.machine.specs.Typed.{is_array}
use Rattle.machine.specs.Memory.{Slot, Memory, Place, fresh, no_slot, slots_of, words_of}
use Rattle.machine.specs.States.{Waiting}
use Rattle.machine.specs.Owners.{no_value, waiting_at}
use Rattle.soundness.specs.OwnedWays.Ways as ways
use Rattle.soundness.specs.OwnedWays.Ways.{Step, OfVariable, OfHand, Loc, OfRoot, OfCell, Inside}
use Rattle.soundness.specs.PartOffsets.Parts.{type_in, offset_in, has_part, IsSettled}
use Rattle.soundness.proofs.PartOffsets.Ranges.{all_within, lie, first_in, second_in, aside}
use Rattle.soundness.specs.Seen.{in_hand, content, trunk, steps_in}
use Rattle.soundness.specs.Typed.{Matches, IsCell, Points, Kept, Spot}
use Rattle.soundness.proofs.Joined.{type_join, offset_join, part_join}
use Rattle.soundness.proofs.Contents.{bool_cases}
use Rattle.soundness.proofs.Steps.{hand_top, hand_past, plain_shape, plain_end, same_below, room, taken_slots, content_slots}
use Rattle.soundness.proofs.Defaults.{NoCell}
use Rattle.soundness.proofs.Joining.{fresh_append, fresh_length}
use Rattle.soundness.proofs.Constructors.{is_access_shape, is_cell_word}

pub cell_has : (ws : List machine.Word) (o n : ℕ) → (get_or (fresh ws) o no_slot).word ≡ machine.Cell n → Has ws (machine.Cell n)
cell_has [] zero n e = cc
cell_has [] (suc o) n e = cc
cell_has (w ∷ ws) zero n e = inl e
cell_has (w ∷ ws) (suc o) n e = inr (cell_has ws o n e)

no_access : (d : ℕ) (c n : Bool) (s : Shape) → s ≡ shape.Access d c n → is_scalar (view_of s) ≡ true → ⊥
no_access d c n s e f = let is : is_scalar (view_of (shape.Access d c n)) ≡ true = ap (λ z. is_scalar (view_of z)) (sym e) ∙ f in false≢true is

nil_right : (r p : List Step) → [] ≡ r ++ p → p ≡ []
nil_right [] p e = sym e
nil_right (i ∷ r) p e = cc

module _ (s : Typing) (settled : IsSettled s.table) (m : Memory) where
  hand_points : (v : Waiting) (rest : List Waiting) → Points s m (in_hand v) → ((l : Loc) → Points s m (content s m rest l)) → (l : Loc) → Points s m (content s m (v ∷ rest) l)
  hand_points v rest mine others (OfRoot (OfVariable f x)) = others (OfRoot (OfVariable f x))
  hand_points v rest mine others (OfRoot (OfHand h)) = elim (bool_cases (h == length rest)) [
    | inl e ↦ subst (λ z. Points s m (in_hand z)) (sym (ap (λ b. if b then v else waiting_at rest h) e)) mine
    | inr e ↦ subst (λ z. Points s m (in_hand z)) (sym (ap (λ b. if b then v else waiting_at rest h) e)) (others (OfRoot (OfHand h)))
  ]
  hand_points v rest mine others (OfCell n) = others (OfCell n)
  hand_points v rest mine others (Inside l i) = hand_points v rest mine others l

  pub kept_with : (v : Waiting) (rest : List Waiting) → Points s m (in_hand v) → Kept s m rest → Kept s m (v ∷ rest)
  kept_with v rest mine kept = record { variables = kept.variables; cells = kept.cells; points = hand_points v rest mine kept.points }

  -- the hands below one
  pub below : (v : Waiting) (rest : List Waiting) → ((l : Loc) → Points s m (content s m (v ∷ rest) l)) → (w : Waiting) → Points s m (in_hand w)
      → (l : Loc) → Points s m (content s m (w ∷ rest) l)
  below v rest all w mine (OfRoot (OfVariable f x)) = all (OfRoot (OfVariable f x))
  below v rest all w mine (OfRoot (OfHand h)) = elim (bool_cases (h == length rest)) [
    | inl e ↦ subst (λ z. Points s m (in_hand z)) (sym (ap (λ b. if b then w else waiting_at rest h) e)) mine
    | inr e ↦ subst (λ z. Points s m (in_hand z)) (ap (λ b. if b then v else waiting_at rest h) e ∙ sym (ap (λ b. if b then w else waiting_at rest h) e))
        (all (OfRoot (OfHand h)))
  ]
  below v rest all w mine (OfCell n) = all (OfCell n)
  below v rest all w mine (Inside l i) = below v rest all w mine l

  pub plain : (v : Waiting) (rest : List Waiting) → NoCell v.words → Kept s m rest → Kept s m (v ∷ rest)
  plain v rest none kept = kept_with v rest (λ p d c n k has is e. absurd (none k (cell_has v.words (offset_in s.table v.of p) k e))) kept

  pub scalar : (v : Waiting) (rest : List Waiting) → is_scalar (full s.table v.of) ≡ true → Kept s m rest → Kept s m (v ∷ rest)
  scalar v rest plain_type kept = kept_with v rest
      (λ p d c n k has is e. (
      let shapes = plain_shape (shape_of s.table v.of) plain_type in
      let none = plain_end s.table settled v.of shapes.0 shapes.1 p has in
      absurd (no_access d c n (shape_of s.table v.of) (ap (λ z. shape_of s.table (type_in s.table v.of z)) (sym none) ∙ is) plain_type))) kept

  pub retyped_points : (t u : ℕ) (ws : List machine.Word) → Matches s.table t u → Points s m (in_hand (record { of = t; words = ws }))
      → Points s m (in_hand (record { of = u; words = ws }))
  retyped_points t u ws (inl e) mine p d c n k has is at =
      let same = same_below s.table settled t u e p in
      mine p d c n k (same.2 ∙ has) (same.0 ∙ is) (ap (λ o. (get_or (fresh ws) o no_slot).word) same.1 ∙ at)
  retyped_points t u ws (inr (a, b)) mine p d c n k has is at =
      let shapes = plain_shape (shape_of s.table u) b in
      let none = plain_end s.table settled u shapes.0 shapes.1 p has in
      absurd (no_access d c n (shape_of s.table u) (ap (λ z. shape_of s.table (type_in s.table u z)) (sym none) ∙ is) b)

  pub top_points : (v : Waiting) (rest : List Waiting) → ((l : Loc) → Points s m (content s m (v ∷ rest) l)) → Points s m (in_hand v)
  top_points v rest all = subst (λ z. Points s m (in_hand z)) (hand_top v rest) (all (OfRoot (OfHand (length rest))))

  pub retyped : (t u : ℕ) (ws : List machine.Word) (rest : List Waiting) → Matches s.table t u
      → Kept s m (record { of = t; words = ws } ∷ rest) → Kept s m (record { of = u; words = ws } ∷ rest)
  retyped t u ws rest fits kept = record {
    variables = kept.variables;
    cells = kept.cells;
    points = below (record { of = t; words = ws }) rest kept.points (record { of = u; words = ws })
        (retyped_points t u ws fits (top_points (record { of = t; words = ws }) rest kept.points));
  }

  word_map : (xs : List Slot) (i : ℕ) → (get_or (fresh (map (λ (x : Slot). x.word) xs)) i no_slot).word ≡ (get_or xs i no_slot).word
  word_map [] zero = refl
  word_map [] (suc i) = refl
  word_map (x ∷ xs) zero = refl
  word_map (x ∷ xs) (suc i) = word_map xs i

  -- what a place has points where the place does
  pub copied_points : (rest : List Waiting) (k : Place) (l : Loc) → Spot s m rest k l → Kept s m rest
      → Points s m (in_hand (record { of = k.of; words = words_of s m k }))
  copied_points rest k l spot kept p d c n i has is at = by_type spot.of
    where
      -- the offset is within the words of the place
      inside : offset_in s.table k.of p < words s.table k.of
      inside =
          let in_ = (all_within s.table settled k.of p [] (ap (has_part s.table k.of) (append-nil p) ∙ has)).stop in
          let flat : offset_in s.table k.of (p ++ []) ≡ offset_in s.table k.of p = ap (offset_in s.table k.of) (append-nil p) in
          let type : words s.table (type_in s.table k.of (p ++ [])) ≡ words s.table (type_in s.table k.of p) = ap (λ z. words s.table (type_in s.table k.of z)) (append-nil p) in
          let one : words s.table (type_in s.table k.of p) ≡ 1 = settled.word_law (type_in s.table k.of p) ∙ ap (shape_words (words s.table)) is in
          omega (arith, in_, flat, type, one)

      by_type : Matches s.table k.of (type_in s.table (content s m rest (trunk l)).of (steps_in l)) → IsCell s m d i
      by_type (inr (a, b)) =
          let shapes = plain_shape (shape_of s.table k.of) a in
          let none = plain_end s.table settled k.of shapes.0 shapes.1 p has in
          absurd (no_access d c n (shape_of s.table k.of) (ap (λ z. shape_of s.table (type_in s.table k.of z)) (sym none) ∙ is) a)
      by_type (inl e) =
          let q : List Step = steps_in l in
          let t : ℕ = (content s m rest (trunk l)).of in
          let same = same_below s.table settled k.of (type_in s.table t q) e p in
          kept.points (trunk l) (p ++ q) d c n i
          (part_join s.table t q p spot.there ∙ sym same.2 ∙ has)
          (ap (shape_of s.table) (type_join s.table t q p) ∙ sym same.0 ∙ is)
          (
          ap (λ o. (get_or (content s m rest (trunk l)).slots o no_slot).word)
          (offset_join s.table t q p ∙ ap (λ o. offset_in s.table t q + o) (sym same.1) ∙ ap (λ o. o + offset_in s.table k.of p) (sym spot.at))
          ∙ ap (λ z. (get_or (content s m rest z).slots (k.at + offset_in s.table k.of p) no_slot).word) spot.base
          ∙ ap (λ z. (get_or z (k.at + offset_in s.table k.of p) no_slot).word) (content_slots s m rest k.base spot.made)
          ∙ ap (λ (x : Slot). x.word) (sym ((taken_slots s settled m k (room s settled m rest kept k l spot)).1 (offset_in s.table k.of p) inside))
          ∙ sym (word_map (slots_of s m k) (offset_in s.table k.of p))
          ∙ at
          )

  pub copied : (rest : List Waiting) (k : Place) (l : Loc) → Spot s m rest k l → Kept s m rest
      → Kept s m (record { of = k.of; words = words_of s m k } ∷ rest)
  copied rest k l spot kept = kept_with (record { of = k.of; words = words_of s m k }) rest (copied_points rest k l spot kept) kept

  -- ---- values in hand that are put together

  no_word : (o n : ℕ) → (get_or (fresh []) o no_slot).word ≡ machine.Cell n → ⊥
  no_word o n e = cell_has [] o n e

  -- without the latest hand
  pub less : (v : Waiting) (rest : List Waiting) → ((l : Loc) → Points s m (content s m (v ∷ rest) l)) → (l : Loc) → Points s m (content s m rest l)
  less v rest all (OfRoot (OfVariable f x)) = all (OfRoot (OfVariable f x))
  less v rest all (OfRoot (OfHand h)) = elim (bool_cases (h == length rest)) [
    | inl e ↦ subst (λ z. Points s m (in_hand z)) (sym (hand_past rest h (let same = eqb-true h (length rest) e in omega (arith, same))))
        (λ p d c n k has is at. absurd (no_word (offset_in s.table (in_hand no_value).of p) k at))
    | inr e ↦ subst (λ z. Points s m (in_hand z)) (ap (λ b. if b then v else waiting_at rest h) e) (all (OfRoot (OfHand h)))
  ]
  less v rest all (OfCell n) = all (OfCell n)
  less v rest all (Inside l i) = less v rest all l

  -- an access type has no parts
  pub access_end : (t : ℕ) (d : ℕ) (c n : Bool) → shape_of s.table t ≡ shape.Access d c n → (p : List Step) → has_part s.table t p ≡ true → p ≡ []
  access_end t d c n is p has = plain_end s.table settled t (ap components_of is) (ap machine.count_of is) p has

  pub one_word : (t d : ℕ) (c n : Bool) → shape_of s.table t ≡ shape.Access d c n → words s.table t ≡ 1
  one_word t d c n is = settled.word_law t ∙ ap (shape_words (words s.table)) is

  module _ (u t : ℕ) (ws acc : List machine.Word) (step : Step) (there : has_part s.table t (step ∷ []) ≡ true)
      (offset : offset_in s.table t (step ∷ []) ≡ length acc) (long : length ws ≡ words s.table (type_in s.table t (step ∷ [])))
      (fits : Matches s.table u (type_in s.table t (step ∷ []))) (points_value : Points s m (in_hand (record { of = u; words = ws })))
      (points_part : Points s m (in_hand (record { of = t; words = acc }))) where
    -- in the new part
    in_new : (r : List Step) (d : ℕ) (c n : Bool) (k : ℕ) → has_part s.table t (r ++ step ∷ []) ≡ true
        → shape_of s.table (type_in s.table t (r ++ step ∷ [])) ≡ shape.Access d c n
        → (get_or (fresh (acc ++ ws)) (offset_in s.table t (r ++ step ∷ [])) no_slot).word ≡ machine.Cell k → IsCell s m d k
    in_new r d c n k has is at =
        retyped_points u (type_in s.table t (step ∷ [])) ws fits points_value r d c n k
        (sym (part_join s.table t (step ∷ []) r there) ∙ has)
        (ap (shape_of s.table) (sym (type_join s.table t (step ∷ []) r)) ∙ is)
        (
        ap (λ (x : Slot). x.word) (
        sym (get_or-append-add (fresh acc) (fresh ws) (offset_in s.table (type_in s.table t (step ∷ [])) r) no_slot)
        ∙ ap (λ z. get_or (fresh acc ++ fresh ws) (z + offset_in s.table (type_in s.table t (step ∷ [])) r) no_slot) (fresh_length acc ∙ sym offset)
        ∙ ap (λ z. get_or (fresh acc ++ fresh ws) z no_slot) (sym (offset_join s.table t (step ∷ []) r))
        ∙ ap (λ z. get_or z (offset_in s.table t (r ++ step ∷ [])) no_slot) (sym (fresh_append acc ws)))
        ∙ at
        )

    joined_points : Points s m (in_hand (record { of = t; words = acc ++ ws }))
    joined_points p d c n k has is at =
        let one = one_word (type_in s.table t p) d c n is in
        elim (lie s.table settled t p (step ∷ []) has there) [
          | first_in r e ↦ in_new r d c n k (ap (has_part s.table t) (sym e) ∙ has)
              (ap (λ z. shape_of s.table (type_in s.table t z)) (sym e) ∙ is)
              (ap (λ z. (get_or (fresh (acc ++ ws)) (offset_in s.table t z) no_slot).word) (sym e) ∙ at)
          | second_in r e ↦ at_front r e
          | aside x ↦ elim x [
            | inl before ↦ points_part p d c n k has is
                (ap (λ (x : Slot). x.word) (sym (get_or_append_left (fresh acc) (fresh ws) no_slot (offset_in s.table t p)
                (let e = fresh_length acc in omega (arith, before, one, offset, e))))
                ∙ ap (λ z. (get_or z (offset_in s.table t p) no_slot).word) (sym (fresh_append acc ws)) ∙ at)
            | inr behind ↦ absurd (past p k behind at)
          ]
        ]
      where
        past : (p : List Step) (k : ℕ) → offset_in s.table t (step ∷ []) + words s.table (type_in s.table t (step ∷ [])) ≤ offset_in s.table t p
            → (get_or (fresh (acc ++ ws)) (offset_in s.table t p) no_slot).word ≡ machine.Cell k → ⊥
        past p k behind at =
            let e = fresh_length (acc ++ ws) in
            let both : length (acc ++ ws) ≡ length acc + length ws = length-append acc ws in
            let none : machine.Null ≡ machine.Cell k =
            sym (ap (λ (x : Slot). x.word) (get_or_past (fresh (acc ++ ws)) (offset_in s.table t p) no_slot (omega (arith, e, both, behind, offset, long)))) ∙ at in absurd (false≢true (ap is_cell_word none))

        at_front : (r : List Step) → step ∷ [] ≡ r ++ p → IsCell s m d k
        at_front [] e = in_new [] d c n k there (ap (λ z. shape_of s.table (type_in s.table t z)) e ∙ is)
            (ap (λ z. (get_or (fresh (acc ++ ws)) (offset_in s.table t z) no_slot).word) e ∙ at)
        at_front (i ∷ r) e =
            let rest : [] ≡ r ++ p = cc in
            let none = nil_right r p rest in
            let no : step ∷ [] ≡ [] = access_end t d c n (ap (λ z. shape_of s.table (type_in s.table t z)) (sym none) ∙ is) (step ∷ []) there in absurd (false≢true (ap is_nil no))

  -- the latest value goes after the words of the one below
  pub joined : (u t : ℕ) (ws acc : List machine.Word) (rest : List Waiting) (step : Step) → has_part s.table t (step ∷ []) ≡ true
      → offset_in s.table t (step ∷ []) ≡ length acc → length ws ≡ words s.table (type_in s.table t (step ∷ []))
      → Matches s.table u (type_in s.table t (step ∷ [])) → Kept s m (record { of = u; words = ws } ∷ record { of = t; words = acc } ∷ rest)
      → Kept s m (record { of = t; words = acc ++ ws } ∷ rest)
  joined u t ws acc rest step there offset long fits kept =
      let part : Waiting = record { of = t; words = acc } in
      let value : Waiting = record { of = u; words = ws } in
      let under = less value (part ∷ rest) kept.points in
      record {
        variables = kept.variables;
        cells = kept.cells;
        points = below part rest under (record { of = t; words = acc ++ ws })
            (joined_points u t ws acc step there offset long fits (top_points value (part ∷ rest) kept.points) (top_points part rest under));
      }

  -- ---- one value for all elements

  word_repeated : (n j : ℕ) (ws : List machine.Word) (o : ℕ) → j < n → o < length ws
      → get_or (fresh (machine.repeated n ws)) (j * length ws + o) no_slot ≡ get_or (fresh ws) o no_slot
  word_repeated zero j ws o lt le = absurd (omega (arith, lt))
  word_repeated (suc n) zero ws o lt le =
      ap (λ z. get_or (fresh (ws ++ machine.repeated n ws)) z no_slot) (let none : 0 * length ws + o ≡ o = omega arith in none)
      ∙ ap (λ z. get_or z o no_slot) (fresh_append ws (machine.repeated n ws))
      ∙ get_or_append_left (fresh ws) (fresh (machine.repeated n ws)) no_slot o (let e = fresh_length ws in omega (arith, le, e))
  word_repeated (suc n) (suc j) ws o lt le =
      let at : suc j * length ws + o ≡ length (fresh ws) + (j * length ws + o) =
      (let a : suc j * length ws ≡ j * length ws + length ws = suc-mul j (length ws) in let e = fresh_length ws in omega (arith, a, e)) in
      ap (λ z. get_or (fresh (ws ++ machine.repeated n ws)) z no_slot) at
      ∙ ap (λ z. get_or z (length (fresh ws) + (j * length ws + o)) no_slot) (fresh_append ws (machine.repeated n ws))
      ∙ get_or-append-add (fresh ws) (fresh (machine.repeated n ws)) (j * length ws + o) no_slot
      ∙ word_repeated n j ws o (omega (arith, lt)) le

  repeated_points : (t : ℕ) (low high : ℤ) (el : ℕ) (ws : List machine.Word) → shape_of s.table t ≡ shape.Elements low high el
      → length ws ≡ words s.table el → Points s m (in_hand (record { of = el; words = ws }))
      → Points s m (in_hand (record { of = t; words = machine.repeated (span low high) ws }))
  repeated_points t low high el ws array long mine p d c n k has is at = by_end (ends p)
    where
      in_element : (r : List Step) (j : ℕ) → p ≡ r ++ ways.Element j ∷ [] → IsCell s m d k
      in_element r j e =
          let has' : has_part s.table t (r ++ ways.Element j ∷ []) ≡ true = ap (has_part s.table t) (sym e) ∙ has in
          let whole = (all_within s.table settled t r (ways.Element j ∷ []) has').whole in
          let lt : j < span low high = ltb-true j (span low high) (sym (ap (λ z. nat_lt j (machine.count_of z)) array) ∙ whole) in
          let type : type_in s.table t (ways.Element j ∷ []) ≡ el = ap machine.element_of array in
          let there : has_part s.table el r ≡ true = ap (λ z. has_part s.table z r) (sym type) ∙ sym (part_join s.table t (ways.Element j ∷ []) r whole) ∙ has' in
          let is' : shape_of s.table (type_in s.table el r) ≡ shape.Access d c n =
          ap (λ z. shape_of s.table (type_in s.table z r)) (sym type) ∙ ap (shape_of s.table) (sym (type_join s.table t (ways.Element j ∷ []) r))
          ∙ ap (λ z. shape_of s.table (type_in s.table t z)) (sym e) ∙ is in
          let inner = (all_within s.table settled el r [] (ap (has_part s.table el) (append-nil r) ∙ there)).stop in
          let flat : offset_in s.table el (r ++ []) ≡ offset_in s.table el r = ap (offset_in s.table el) (append-nil r) in
          let kind : words s.table (type_in s.table el (r ++ [])) ≡ words s.table (type_in s.table el r) = ap (λ z. words s.table (type_in s.table el z)) (append-nil r) in
          let one = one_word (type_in s.table el r) d c n is' in
          let inside : offset_in s.table el r < length ws = omega (arith, inner, flat, kind, one, long) in
          let size : j * words s.table (machine.element_type s.table t) ≡ j * length ws = ap (λ z. j * words s.table z) type ∙ ap (λ z. j * z) (sym long) in
          let joint = offset_join s.table t (ways.Element j ∷ []) r in
          let local : offset_in s.table (type_in s.table t (ways.Element j ∷ [])) r ≡ offset_in s.table el r = ap (λ z. offset_in s.table z r) type in
          let where_ : offset_in s.table t p ≡ j * length ws + offset_in s.table el r =
          (let same : offset_in s.table t p ≡ offset_in s.table t (r ++ ways.Element j ∷ []) = ap (offset_in s.table t) e in omega (arith, same, joint, size, local)) in
          mine r d c n k there is'
          (ap (λ (x : Slot). x.word) (sym (word_repeated (span low high) j ws (offset_in s.table el r) lt inside))
          ∙ ap (λ o. (get_or (fresh (machine.repeated (span low high) ws)) o no_slot).word) (sym where_) ∙ at)

      by_step : (r : List Step) (i : Step) → p ≡ r ++ i ∷ [] → IsCell s m d k
      by_step r (ways.Element j) e = in_element r j e
      by_step r (ways.Component j) e =
          let whole = (all_within s.table settled t r (ways.Component j ∷ []) (ap (has_part s.table t) (sym e) ∙ has)).whole in
          let lt : j < 0 = ltb-true j 0 (sym (ap (λ z. nat_lt j (length (components_of z))) array) ∙ whole) in
          absurd (omega (arith, lt))

      by_end : (p ≡ []) ⊎ ((r : List Step) × (i : Step) × (p ≡ r ++ i ∷ [])) → IsCell s m d k
      by_end (inl none) =
          let no : shape.Elements low high el ≡ shape.Access d c n = sym array ∙ ap (λ z. shape_of s.table (type_in s.table t z)) (sym none) ∙ is in absurd (false≢true (ap is_access_shape no))
      by_end (inr more) = by_step more.0 more.1 more.2

  elements_repeated : (t : ℕ) (low high : ℤ) (el : ℕ) (ws : List machine.Word) (rest : List Waiting) → shape_of s.table t ≡ shape.Elements low high el
      → length ws ≡ words s.table el → Kept s m (record { of = el; words = ws } ∷ rest)
      → Kept s m (record { of = t; words = machine.repeated (span low high) ws } ∷ rest)
  elements_repeated t low high el ws rest array long kept = record {
    variables = kept.variables;
    cells = kept.cells;
    points = below (record { of = el; words = ws }) rest kept.points (record { of = t; words = machine.repeated (span low high) ws })
        (repeated_points t low high el ws array long (top_points (record { of = el; words = ws }) rest kept.points));
  }

  pub repeated : (t : ℕ) (ws : List machine.Word) (rest : List Waiting) (sh : Shape) → shape_of s.table t ≡ sh → is_array sh ≡ true
      → length ws ≡ words s.table (machine.element_type s.table t) → Kept s m (record { of = machine.element_type s.table t; words = ws } ∷ rest)
      → Kept s m (record { of = t; words = machine.repeated (machine.element_count s.table t) ws } ∷ rest)
  repeated t ws rest (shape.Elements low high el) e is long kept =
      subst (λ z. Kept s m (record { of = t; words = machine.repeated (machine.count_of z) ws } ∷ rest)) (sym e)
      (elements_repeated t low high el ws rest e (long ∙ ap (λ z. words s.table (machine.element_of z)) e)
      (subst (λ z. Kept s m (record { of = machine.element_of z; words = ws } ∷ rest)) e kept))
  repeated t ws rest (shape.Whole a b) e is long kept = absurd (false≢true is)
  repeated t ws rest (shape.Listed l a b) e is long kept = absurd (false≢true is)
  repeated t ws rest (shape.Access d c n) e is long kept = absurd (false≢true is)
  repeated t ws rest (shape.Fields cs) e is long kept = absurd (false≢true is)
  repeated t ws rest (shape.Same of) e is long kept = absurd (false≢true is)

pub length_repeated : (n : ℕ) (ws : List machine.Word) → length (machine.repeated n ws) ≡ n * length ws
length_repeated zero ws = omega arith
length_repeated (suc n) ws =
    let a = length_repeated n ws in
    let b : length (ws ++ machine.repeated n ws) ≡ length ws + length (machine.repeated n ws) = length-append ws (machine.repeated n ws) in
    let c : suc n * length ws ≡ n * length ws + length ws = suc-mul n (length ws) in
    omega (arith, a, b, c)

-- the words of an array that is made of one value
pub repeated_long : (s : Typing) → IsSettled s.table → (t : ℕ) (ws : List machine.Word) (sh : Shape) → shape_of s.table t ≡ sh → is_array sh ≡ true
    → length ws ≡ words s.table (machine.element_type s.table t) → length (machine.repeated (machine.element_count s.table t) ws) ≡ words s.table t
repeated_long s settled t ws (shape.Elements low high el) e is long =
    ap (λ z. length (machine.repeated (machine.count_of z) ws)) e ∙ length_repeated (span low high) ws
    ∙ ap (λ z. span low high * z) (long ∙ ap (λ z. words s.table (machine.element_of z)) e)
    ∙ sym (settled.word_law t ∙ ap (shape_words (words s.table)) e)
repeated_long s settled t ws (shape.Whole a b) e is long = absurd (false≢true is)
repeated_long s settled t ws (shape.Listed l a b) e is long = absurd (false≢true is)
repeated_long s settled t ws (shape.Access d c n) e is long = absurd (false≢true is)
repeated_long s settled t ws (shape.Fields cs) e is long = absurd (false≢true is)
repeated_long s settled t ws (shape.Same of) e is long = absurd (false≢true is)
