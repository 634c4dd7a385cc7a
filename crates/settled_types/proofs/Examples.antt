-- A small program in order; and one that declares a number twice, has no fault of typing, and has a type
-- in itself.
use Rattle.std.proofs.Common.{◌≡◌, ◌≤◌, ◌<◌, inl, inr, ℕ, Bool, true, false, ◌||◌, List, [], ◌∷◌, arith, refl, sym, ap, ◌∙◌, nat_eq, Some, None, true≢false}
use Rattle.machine.specs.spark_base.declared.position.Pos.{Pos}
use Rattle.machine.specs.spark_base.Lists.{Has}
use Rattle.machine.specs.resolved_tree.declared.node.Mark.{Mark}
use Rattle.machine.specs.resolved_tree.Trees.{NoMore, More, Code, Declared, Record, Components, Access, Incomplete, Private, TypeDecl, Package, Program}
use Rattle.machine.specs.type_definitions.Gathered.{gather}
use Rattle.machine.specs.type_definitions.Entries.{is_complete}
use Rattle.machine.specs.type_definitions.Faults.{is_before}
use Rattle.machine.specs.type_definitions.Whole.{known_of, type_fault, type_sizes, all_made, made, sentence_faults}
use Rattle.machine.specs.type_definitions.Declarations.{code_faults, some_part}
use Rattle.machine.specs.type_definitions.Types.{words, words_within, words_of, shape_of, parts, parts_within}
use Rattle.type_settled.specs.Rings.{Inside, here, deeper}
use Rattle.settled_types.specs.Orderly.{Past, at_start, with_incomplete, with_private, with_defined, within, IsNew, IsOrderly, Orderly, past_after}

abbrev it : ℕ → ℕ → Code
it line n = Declared (record { file = 0; line = line; column = 1 }) n []

abbrev mark : ℕ → ℕ → Mark
mark line d = record { pos = record { file = 0; line = line; column = 9 }; decl = Some d }

abbrev end : ℕ → Pos
end line = record { file = 0; line = line; column = 20 }

abbrev component : ℕ → ℕ → ℕ → Code
component line n t = Components (More (it line n) NoMore) (mark line t)

-- ---- in order

-- package P (15) is
--   type T (16) is private;
-- private
--   type C (17);
--   type A (18) is access C;
--   type T is record N : A; end record;
--   type C is record N : T; end record;
abbrev small : Program
small = record {
  count = 21;
  units = Package (it 1 15) (More (Private (it 2 16)) NoMore)
      (More (Incomplete (it 3 17))
      (More (TypeDecl (it 4 18) (Access (mark 4 17)) (end 4))
      (More (TypeDecl (it 5 16) (Record (More (component 5 19 18) NoMore)) (end 5))
      (More (TypeDecl (it 6 17) (Record (More (component 6 20 16) NoMore)) (end 6))
      NoMore)))) ∷ [];
}

-- the marks in C and in T stand before the end of C
before : (at : Pos) → Has ((mark 6 16).pos ∷ (mark 5 18).pos ∷ []) at → is_before (end 6) at ≡ false
before at (inl is) = ap (is_before (end 6)) (sym is)
before at (inr (inl is)) = ap (is_before (end 6)) (sym is)
before at (inr (inr never)) = absurd never

abbrev is_in : ℕ → List ℕ → Bool
is_in d [] = false
is_in d (x ∷ rest) = nat_eq x d || is_in d rest

absent : (xs : List ℕ) (d : ℕ) → is_in d xs ≡ false → Has xs d → ⊥
absent [] d none is = is
absent (x ∷ rest) d none is = elim is [
  | inl same ↦ true≢false (sym (number x d same) ∙ first (nat_eq x d) (is_in d rest) none)
  | inr later ↦ absent rest d (second (nat_eq x d) (is_in d rest) none) later
]
  where
    number : (x d : ℕ) → x ≡ d → nat_eq x d ≡ true
    number x d same = grind (arith, same)

    first : (a b : Bool) → a || b ≡ false → a ≡ false
    first true b e = e
    first false b e = refl

    second : (a b : Bool) → a || b ≡ false → b ≡ false
    second true b e = absurd (true≢false e)
    second false b e = e

new : (d : ℕ) (past : Past) → 15 ≤ d → d < 21 → is_in d past.awaited ≡ false → is_in d past.defined ≡ false → IsNew 21 d past
new d past low high first second = (low, high, absent past.awaited d first, absent past.defined d second)

-- what stands before the visible part, after it, and after the first and the second private declaration
abbrev zero_past : Past
zero_past = within true at_start

abbrev one : Past
one = with_private 16 zero_past

abbrev two : Past
two = with_incomplete 17 one

abbrev three : Past
three = with_defined 18 [] two

orderly_small : IsOrderly small
unfolding Orderly past_after
orderly_small = (
  (
    new 15 at_start (omega arith) (omega arith) refl refl,
    (
      (new 16 zero_past (omega arith) (omega arith) refl refl, tt),
      (
        new 17 one (omega arith) (omega arith) refl refl,
        (
          ((omega arith, omega arith, inl (new 18 two (omega arith) (omega arith) refl refl)), tt),
          (
            ((omega arith, omega arith, inr (inl (inl refl))), tt),
            (((omega arith, omega arith, inr (inr (inl refl, before))), tt), tt),
          ),
        ),
      ),
    ),
  ),
  tt,
)

-- ---- a number declared twice

-- C (16) is declared as a record of Integer, D (17) as one of C, and C again as one of D and Integer.
abbrev twice : Program
twice = record {
  count = 21;
  units = Package (it 1 15)
      (More (TypeDecl (it 2 16) (Record (More (component 2 18 0) NoMore)) (end 2))
      (More (TypeDecl (it 3 17) (Record (More (component 3 18 16) NoMore)) (end 3))
      (More (TypeDecl (it 4 16) (Record (More (component 4 18 17) (More (component 4 19 0) NoMore))) (end 4))
      NoMore))) NoMore ∷ [];
}

ring_twice : Inside (known_of twice).table 16 16
unfolding known_of gather
ring_twice = deeper 16 17 refl (here 17 refl)

fault_twice : type_fault twice ≡ None
unfolding type_fault type_sizes all_made made sentence_faults code_faults known_of gather is_complete some_part words words_within parts parts_within
fault_twice = refl

-- the law of words doesn't hold there
no_law_twice : words (known_of twice).table 16 ≡ words_of (words (known_of twice).table) (shape_of (known_of twice).table 16) → ⊥
unfolding words words_within known_of gather
no_law_twice e = not_so 10 11 refl refl e
  where
    not_so : (a b : ℕ) → a ≡ 10 → b ≡ 11 → a ≡ b → ⊥
    not_so a b is are e = absurd (omega (arith, is, are, e))
