-- Where the i-th part of a record or an array stands.
use Rattle.std.proofs.Common.{◌≡◌, refl, sym, ap, ◌∙◌, ℕ, suc, ◌+◌, ◌*◌, ◌<◌, true, ◌||◌, List, [], ◌∷◌, map, sum, take, length, get_or, arith, suc-mul, nat_lt, lt-ltb}
use Rattle.std.proofs.lemmas.Bool.{false≢true}
use Rattle.machine.specs.type_definitions.declared.table.Component.{Component as Part}
use Rattle.machine.specs.type_definitions.declared.table.Shape.{Shape}
use Rattle.machine.specs.type_definitions.declared.table.Shape.TheVariants as shape
use Rattle.machine.specs.type_definitions.Types.{Table, shape_of, components_of, span, words, words_of}
use Rattle.machine.specs.Words.{no_component, count_of, element_of, words_before, element_type}
use Rattle.machine.specs.Evaluate.{part_type}
use Rattle.machine.specs.Typed.{field_count, is_record, is_array}
use Rattle.soundness.specs.OwnedWays.Ways.{Step}
use Rattle.soundness.specs.OwnedWays.Ways as ways
use Rattle.soundness.specs.PartOffsets.Parts.{type_in, offset_in, has_part}
use Rattle.soundness.proofs.PartOffsets.Sums.{sum_next}

abbrev pub nth_part : Shape → ℕ → Step
nth_part (shape.Elements low high e) i = ways.Element i
nth_part _ i = ways.Component i

-- the words of the parts before the i-th
abbrev pub words_to : (ℕ → ℕ) → Shape → ℕ → ℕ
words_to w (shape.Fields cs) i = sum (map (λ (c : Part). w c.of) (take i cs))
words_to w (shape.Elements low high e) i = i * w e
words_to w _ i = 0

pub words_none : (w : ℕ → ℕ) (s : Shape) → words_to w s 0 ≡ 0
words_none w (shape.Fields []) = refl
words_none w (shape.Fields (c ∷ cs)) = refl
words_none w (shape.Elements low high e) = omega arith
words_none w (shape.Whole a b) = refl
words_none w (shape.Listed l a b) = refl
words_none w (shape.Access d c n) = refl
words_none w (shape.Same of) = refl

pub words_next : (w : ℕ → ℕ) (s : Shape) (i : ℕ) → i < field_count s → words_to w s i + w (part_type s i) ≡ words_to w s (suc i)
words_next w (shape.Fields cs) i lt = sum_next (λ (c : Part). w c.of) no_component cs i lt
words_next w (shape.Elements low high e) i lt = sym (suc-mul i (w e))
words_next w (shape.Whole a b) i lt = absurd (omega (arith, lt))
words_next w (shape.Listed l a b) i lt = absurd (omega (arith, lt))
words_next w (shape.Access d c n) i lt = absurd (omega (arith, lt))
words_next w (shape.Same of) i lt = absurd (omega (arith, lt))

take_all : (cs : List Part) → take (length cs) cs ≡ cs
take_all [] = refl
take_all (c ∷ cs) = ap (λ z. c ∷ z) (take_all cs)

pub words_whole : (w : ℕ → ℕ) (s : Shape) → is_record s || is_array s ≡ true → words_to w s (field_count s) ≡ words_of w s
words_whole w (shape.Fields cs) is = ap (λ z. sum (map (λ (c : Part). w c.of) z)) (take_all cs)
words_whole w (shape.Elements low high e) is = refl
words_whole w (shape.Whole a b) is = absurd (false≢true is)
words_whole w (shape.Listed l a b) is = absurd (false≢true is)
words_whole w (shape.Access d c n) is = absurd (false≢true is)
words_whole w (shape.Same of) is = absurd (false≢true is)

module _ (table : Table) (t : ℕ) where
  pub part_there : (s : Shape) → shape_of table t ≡ s → (i : ℕ) → i < field_count s → has_part table t (nth_part s i ∷ []) ≡ true
  part_there (shape.Fields cs) e i lt = ap (λ z. nat_lt i (length (components_of z))) e ∙ lt-ltb i (length cs) lt
  part_there (shape.Elements low high el) e i lt = ap (λ z. nat_lt i (count_of z)) e ∙ lt-ltb i (span low high) lt
  part_there (shape.Whole a b) e i lt = absurd (omega (arith, lt))
  part_there (shape.Listed l a b) e i lt = absurd (omega (arith, lt))
  part_there (shape.Access d c n) e i lt = absurd (omega (arith, lt))
  part_there (shape.Same of) e i lt = absurd (omega (arith, lt))

  pub part_is : (s : Shape) → shape_of table t ≡ s → (i : ℕ) → i < field_count s → type_in table t (nth_part s i ∷ []) ≡ part_type s i
  part_is (shape.Fields cs) e i lt = ap (λ z. (get_or (components_of z) i no_component).of) e
  part_is (shape.Elements low high el) e i lt = ap element_of e
  part_is (shape.Whole a b) e i lt = absurd (omega (arith, lt))
  part_is (shape.Listed l a b) e i lt = absurd (omega (arith, lt))
  part_is (shape.Access d c n) e i lt = absurd (omega (arith, lt))
  part_is (shape.Same of) e i lt = absurd (omega (arith, lt))

  pub part_offset : (s : Shape) → shape_of table t ≡ s → (i : ℕ) → i < field_count s
      → offset_in table t (nth_part s i ∷ []) ≡ words_to (words table) s i
  part_offset (shape.Fields cs) e i lt =
      let is : words_before table t i ≡ sum (map (λ (c : Part). words table c.of) (take i cs)) =
      ap (λ z. sum (map (λ (c : Part). words table c.of) (take i (components_of z)))) e in
      omega (arith, is)
  part_offset (shape.Elements low high el) e i lt =
      let is : i * words table (element_type table t) ≡ i * words table el = ap (λ z. i * words table (element_of z)) e in
      omega (arith, is)
  part_offset (shape.Whole a b) e i lt = absurd (omega (arith, lt))
  part_offset (shape.Listed l a b) e i lt = absurd (omega (arith, lt))
  part_offset (shape.Access d c n) e i lt = absurd (omega (arith, lt))
  part_offset (shape.Same of) e i lt = absurd (omega (arith, lt))
