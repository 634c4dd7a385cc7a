-- The types of a program without a fault of typing are those of their whole definitions.
use Rattle.std.proofs.Common.{◌≡◌, ◌⊎◌, inl, inr, ℕ, zero, suc, ◌-◌, ◌<◌, ◌≤◌, Bool, true, false, ◌||◌, List, [], ◌∷◌, length, replicate, refl, sym, ap, ◌∙◌, arith, IsTrue, nat_eq, None, is_some, true≢false, subst, if◌then◌else◌}
use Rattle.std.specs.Prelude.{slice_get}
use Rattle.std.proofs.lemmas.Bool.{cases_eq}
use Rattle.std.proofs.lemmas.List.{length-replicate}
use Rattle.machine.specs.spark_base.Lists.{Has}
use Rattle.machine.specs.resolved_tree.Trees.{Code, Program}
use Rattle.machine.specs.type_definitions.declared.table.Known.{Known}
use Rattle.machine.specs.type_definitions.declared.table.Entry.TheVariants as entry
use Rattle.machine.specs.type_definitions.declared.table.Shape.TheVariants as shape
use Rattle.machine.specs.type_definitions.Types.{Table, info, info_found, base, no_type}
use Rattle.machine.specs.type_definitions.Entries.{entry_of, is_type}
use Rattle.machine.specs.type_definitions.Names.{Context}
use Rattle.machine.specs.type_definitions.Gathered.{gather}
use Rattle.machine.specs.type_definitions.Whole.{type_fault, known_of, known_from, outside, at_first, gather_units, predefined_types}
use Rattle.type_settled.specs.Reach.{holds}
use Rattle.type_settled.specs.Rings.{IsPart}
use Rattle.type_sizes.specs.Formed.{all_formed}
use Rattle.settled_types.specs.Wholes.{written, AreFinite, AreWhole}
use Rattle.settled_types.specs.Orderly.{Past, at_start, past_after, past_units, AllOrderly, IsOrderly}
use Rattle.settled_types.specs.Stamped.{AllOpen, LeadsTo, AreRows, AreStamped}
use Rattle.settled_types.proofs.Ringless.{is_same}
use Rattle.settled_types.proofs.Wholes.{finite_whole}
use Rattle.settled_types.proofs.Lone.{lone}
use Rattle.settled_types.proofs.Homes.{AtHome, homes}
use Rattle.settled_types.proofs.Turns.{Turn, stay, and_then}
use Rattle.settled_types.proofs.Gathered.{gathered, row_same, row_plain}
use Rattle.settled_types.proofs.Faultless.{program_open}

-- ---- the table at first

none_of : (n t v : ℕ) → holds true (λ u. nat_eq u v) (info (replicate n no_type) t) ≡ false
none_of zero t v = refl
none_of (suc n) zero v = refl
none_of (suc n) (suc t) v = none_of n t v

same_none : (n t of : ℕ) → written (replicate n no_type) t ≡ shape.Same of → ⊥
same_none zero t of e = cc
same_none (suc n) zero of e = cc
same_none (suc n) (suc t) of e = same_none n t of e

unseen_of : (n t : ℕ) → is_some (info (replicate n no_type) t).seen_in ≡ false
unseen_of zero t = refl
unseen_of (suc n) zero = refl
unseen_of (suc n) (suc t) = unseen_of n t

abbrev pub first_table : ℕ → Table
first_table count = (at_first false count).table

-- One of these types is made of another one: it stands for Integer where a mark denotes no type.
first_parts : (count t v : ℕ) → IsPart (first_table count) v t → t ≡ 4
first_parts count zero v part = absurd (true≢false (sym part))
first_parts count (suc zero) v part = absurd (true≢false (sym part))
first_parts count (suc (suc zero)) v part = absurd (true≢false (sym part))
first_parts count (suc (suc (suc zero))) v part = absurd (true≢false (sym part))
first_parts count (suc (suc (suc (suc zero)))) v part = refl
first_parts count (suc (suc (suc (suc (suc t))))) v part = absurd (true≢false (sym part ∙ none_of (count - 5) t v))

pub first_same : (count t of : ℕ) → written (first_table count) t ≡ shape.Same of → t ≡ 4
first_same count zero of e = cc
first_same count (suc zero) of e = cc
first_same count (suc (suc zero)) of e = cc
first_same count (suc (suc (suc zero))) of e = cc
first_same count (suc (suc (suc (suc zero)))) of e = refl
first_same count (suc (suc (suc (suc (suc t))))) of e = absurd (same_none (count - 5) t of e)

pub first_unseen : (count t : ℕ) → is_some (info (first_table count) t).seen_in ≡ false
first_unseen count zero = refl
first_unseen count (suc zero) = refl
first_unseen count (suc (suc zero)) = refl
first_unseen count (suc (suc (suc zero))) = refl
first_unseen count (suc (suc (suc (suc zero)))) = refl
first_unseen count (suc (suc (suc (suc (suc t))))) = unseen_of (count - 5) t

pub first_rows : (count t : ℕ) → t < 5 → slice_get (first_table count) t ≡ slice_get (predefined_types false) t
first_rows count zero less = refl
first_rows count (suc zero) less = refl
first_rows count (suc (suc zero)) less = refl
first_rows count (suc (suc (suc zero))) less = refl
first_rows count (suc (suc (suc (suc zero)))) less = refl
first_rows count (suc (suc (suc (suc (suc t))))) less = absurd (omega (arith, less))

pub first_long : (count : ℕ) → count ≤ length (first_table count)
first_long count = let a = length-replicate (count - 5) no_type in omega (arith, a)

no_entry : (n t : ℕ) → is_type (entry_of (record { entries = replicate n entry.Nothing; table = [] }) t) ≡ false
no_entry zero t = refl
no_entry (suc n) zero = refl
no_entry (suc n) (suc t) = no_entry n t

-- The types among the predefined declarations.
pub first_types : (count v : ℕ) → is_type (entry_of (at_first false count) v) ≡ true → v < 5
first_types count zero is = omega arith
first_types count (suc zero) is = omega arith
first_types count (suc (suc zero)) is = omega arith
first_types count (suc (suc (suc zero))) is = omega arith
first_types count (suc (suc (suc (suc zero)))) is = absurd (true≢false (sym is))
first_types count (suc (suc (suc (suc (suc zero))))) is = absurd (true≢false (sym is))
first_types count (suc (suc (suc (suc (suc (suc zero)))))) is = absurd (true≢false (sym is))
first_types count (suc (suc (suc (suc (suc (suc (suc zero))))))) is = absurd (true≢false (sym is))
first_types count (suc (suc (suc (suc (suc (suc (suc (suc zero)))))))) is = absurd (true≢false (sym is))
first_types count (suc (suc (suc (suc (suc (suc (suc (suc (suc zero))))))))) is = absurd (true≢false (sym is))
first_types count (suc (suc (suc (suc (suc (suc (suc (suc (suc (suc zero)))))))))) is = absurd (true≢false (sym is))
first_types count (suc (suc (suc (suc (suc (suc (suc (suc (suc (suc (suc zero))))))))))) is = absurd (true≢false (sym is))
first_types count (suc (suc (suc (suc (suc (suc (suc (suc (suc (suc (suc (suc zero)))))))))))) is = absurd (true≢false (sym is))
first_types count (suc (suc (suc (suc (suc (suc (suc (suc (suc (suc (suc (suc (suc zero))))))))))))) is = absurd (true≢false (sym is))
first_types count (suc (suc (suc (suc (suc (suc (suc (suc (suc (suc (suc (suc (suc (suc zero)))))))))))))) is = absurd (true≢false (sym is))
first_types count (suc (suc (suc (suc (suc (suc (suc (suc (suc (suc (suc (suc (suc (suc (suc v))))))))))))))) is =
    absurd (true≢false (sym is ∙ no_entry (count - 15) v))

-- ---- a turn

-- What a table has to be where a turn begins.
pub record Begins (count : ℕ) (table : Table) : Type 0 where
  pub long : count ≤ length table
  pub predefined : (t : ℕ) → t < 5 → slice_get table t ≡ slice_get (predefined_types false) t
  pub based : (t : ℕ) → is_some (info table t).seen_in ≡ true → base table t ≡ t

abbrev pub begin : ℕ → Table → Known
begin count table = record (at_first false count) { table = table }

pub begin_rows : (count : ℕ) (table : Table) → Begins count table → AreRows count table at_start (begin count table)
begin_rows count table begins = record {
  long = begins.long;
  predefined = begins.predefined;
  types = λ v is. inl (first_types count v is);
  based = begins.based;
  rest = λ t v none part. part;
  plain = λ t of none e. e;
  awaited = λ d of is. absurd is;
  private = λ t is. absurd is;
  incomplete = λ t is. absurd is;
}

module _ (final : Known) (count : ℕ) (all : List ℕ) (start : Table)
    (unlike : (d of : ℕ) → 15 ≤ d → Has all d → written start d ≡ shape.Same of → ⊥) where
  pub units_turn : (units : List Code) (p : Past) (c : Context) → AllOrderly count p units → AllOpen final units → AtHome p c
      → Turn final count all start p c.known (past_units units p) (gather_units units c).known
  units_turn [] p c are opens at = stay final count all start unlike p c.known
  units_turn (u ∷ rest) p c are opens at =
      and_then final count all start unlike p (past_after u p) (past_units rest (past_after u p)) c.known (gather u c).known
      (gather_units rest (gather u c)).known (gathered final count all start unlike u p c are.0 opens.0 at)
      (units_turn rest (past_after u p) (gather u c) are.1 opens.1 (homes u p c at))

-- ---- the second turn begins with what the first one knows

-- The fourth row is made of the first one.
part_four : (count : ℕ) (table : Table) → Begins count table → (v : ℕ) → IsPart table v 4 → v ≡ 0
part_four count table begins v part =
    let less : 4 < 5 = omega arith in
    by (ap (λ o. holds true (λ u. nat_eq u v) (info_found o)) (sym (begins.predefined 4 less)) ∙ part)
  where
    by : holds true (λ u. nat_eq u v) (info (predefined_types false) 4) ≡ true → v ≡ 0
    by e = cases (nat_eq 0 v) refl e
      where
        cases : (b : Bool) → nat_eq 0 v ≡ b → b || b ≡ true → v ≡ 0
        cases true is e = sym (is_same 0 v is)
        cases false is e = absurd (true≢false (sym e))

abbrev stamp_four : ℕ → ℕ
stamp_four t = if nat_eq t 4 then 1 else 0

stamp_low : (t : ℕ) → stamp_four t < 2
stamp_low t = low (nat_eq t 4)
  where
    low : (b : Bool) → (if b then 1 else 0) < 2
    low true = omega arith
    low false = omega arith

begin_stamped : (final : Known) (count : ℕ) (table : Table) → Begins count table → AreStamped final at_start (begin count table)
begin_stamped final count table begins = record {
  stamp = stamp_four;
  now = 2;
  old = stamp_low;
  parts = λ t v is part. inl (low v (zero_of t v is part));
  early = λ t v is part. inl (earlier t v is (zero_of t v is part));
  closed = λ t v is part. inl (low v (zero_of t v is part));
  short = λ t of on is e goes. no_chain t of on is e goes;
}
  where
    four : (t : ℕ) → Has at_start.defined t → t ≡ 4
    four t (inl same) = sym same
    four t (inr never) = absurd never

    zero_of : (t v : ℕ) → Has at_start.defined t → IsPart table v t → v ≡ 0
    zero_of t v is part = part_four count table begins v (subst (λ t. IsPart table v t) (four t is) part)

    low : (v : ℕ) → v ≡ 0 → v < 5
    low v e = omega (arith, e)

    earlier : (t v : ℕ) → Has at_start.defined t → v ≡ 0 → stamp_four v < stamp_four t
    earlier t v is e =
        let a : stamp_four v ≡ 0 = ap stamp_four e in
        let b : stamp_four t ≡ 1 = ap stamp_four (four t is) in
        omega (arith, a, b)

    no_chain : (t of on : ℕ) → Has at_start.defined t → written table t ≡ shape.Same of → written table of ≡ shape.Same on → ⊥
    no_chain t of on is e goes =
        let rows : AreRows count table at_start (begin count table) = begin_rows count table begins in
        let less : t < 5 = let a = four t is in omega (arith, a) in
        row_plain count table at_start (begin count table) rows on
        (ap (written table) (sym (row_same count table at_start (begin count table) rows t of less e)) ∙ goes)

-- ---- whether a type is defined

pub find : (xs : List ℕ) (t : ℕ) → Has xs t ⊎ (Has xs t → ⊥)
find [] t = inr (λ is. is)
find (x ∷ rest) t = elim (cases_eq x t) [
  | inl same ↦ inl (inl same)
  | inr other ↦
      elim (find rest t) [
        | inl is ↦ inl (inr is)
        | inr none ↦ inr (λ is. elim is [ inl same ↦ other same | inr is ↦ none is ])
      ]
]

-- ---- the program

module _ (p : Program) (are : IsOrderly p) (opens : AllOpen (known_of p) p.units) where
  abbrev pub end : Past
  end = past_units p.units at_start

  abbrev pub first : Table
  first = first_table p.count

  pub turn : (table : Table) → ((d of : ℕ) → 15 ≤ d → Has end.awaited d → written table d ≡ shape.Same of → ⊥)
      → Turn (known_of p) p.count end.awaited table at_start (begin p.count table) end (known_from p table)
  turn table unlike = units_turn (known_of p) p.count end.awaited table unlike p.units at_start (outside (begin p.count table)) are opens (λ is. absurd (true≢false (sym is)))

  pub begins_first : Begins p.count first
  begins_first = record {
    long = first_long p.count;
    predefined = first_rows p.count;
    based = λ t is. absurd (true≢false (sym is ∙ first_unseen p.count t));
  }

  pub unlike_first : (d of : ℕ) → 15 ≤ d → Has end.awaited d → written first d ≡ shape.Same of → ⊥
  unlike_first d of high is e = let a = first_same p.count d of e in omega (arith, a, high)

  -- what is known after the first turn
  pub rows_first : AreRows p.count first end (known_from p first)
  rows_first = ((turn first unlike_first).goes (λ d is. is) (begin_rows p.count first begins_first)).rows

  abbrev pub second : Table
  second = (known_from p first).table

  pub begins_second : Begins p.count second
  begins_second = record { long = rows_first.long; predefined = rows_first.predefined; based = rows_first.based }

  pub turn_second : Turn (known_of p) p.count end.awaited second at_start (begin p.count second) end (known_from p second)
  turn_second = turn second (λ d of high is. rows_first.awaited d of is)

  pub rows_second : AreRows p.count second end (known_from p second)
  rows_second = (turn_second.goes (λ d is. is) (begin_rows p.count second begins_second)).rows

  stamped_second : LeadsTo (known_of p) end (known_from p second) → AreStamped (known_of p) end (known_from p second)
  stamped_second later =
      (turn_second.goes (λ d is. is) (begin_rows p.count second begins_second)).stamped later (begin_stamped (known_of p) p.count second begins_second)

  four_defined : (t : ℕ) → t ≡ 4 → Has end.defined t
  four_defined t e = turn_second.defines t (inl (sym e))

  -- what isn't defined is made of nothing, and the same as nothing
  is_defined : (t v : ℕ) → IsPart (known_from p second).table v t → Has end.defined t
  is_defined t v part = elim (find end.defined t) [
    | inl is ↦ is
    | inr none ↦ four_defined t (first_parts p.count t v (rows_first.rest t v none (rows_second.rest t v none part)))
  ]

  same_defined : (t of : ℕ) → written (known_from p second).table t ≡ shape.Same of → Has end.defined t
  same_defined t of e = elim (find end.defined t) [
    | inl is ↦ is
    | inr none ↦ four_defined t (first_same p.count t of (rows_first.plain t of none (rows_second.plain t of none e)))
  ]

  -- no type has itself in it
  pub finite_known : AreFinite (known_of p).table
  unfolding known_of
  finite_known =
      let stamped : AreStamped (known_of p) end (known_from p second) = stamped_second (record { keeps = λ v is. is; fixed = λ t is. refl }) in record {
        lone = lone (known_of p).table stamped.stamp (λ t v part. stamped.early t v (is_defined t v part) part) rows_second.based;
        short = λ t of on e goes. stamped.short t of on (same_defined t of e) e goes;
      }

pub finite : (p : Program) → IsTrue (all_formed p.units) → IsOrderly p → type_fault p ≡ None → AreFinite (known_of p).table
finite p formed are none = finite_known p are (program_open p formed none)

-- words, parts and owning are those of whole definitions
pub whole : (p : Program) → IsTrue (all_formed p.units) → IsOrderly p → type_fault p ≡ None → AreWhole (known_of p).table
whole p formed are none = finite_whole (known_of p).table (finite p formed are none)
