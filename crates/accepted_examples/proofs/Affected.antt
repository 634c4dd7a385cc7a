-- What the subprograms of a program read and write of package objects, over chains of calls: found by computation, for
-- programs in which each chain that counts is no longer than there are subprograms.
use Rattle.std.specs.Prelude.{IsTrue, is_some}
use Rattle.std.specs.List.{list_any}
use Rattle.std.proofs.Common.{◌≡◌, ◌⊎◌, inl, inr, ◌<◌, ◌≤◌, arith, ℕ, zero, suc, Bool, true, false, not, ◌&&◌, ◌||◌, ◌==◌, eqb-true, List, [], ◌∷◌, ◌++◌, length, get_or, refl, sym, ap, ◌∙◌, subst, None, if◌then◌else◌, true≢false}
use Rattle.std.proofs.Math.Nat.{eq-or-lt_of_le}
use Rattle.std.proofs.lemmas.List.{get_or_past}
use Rattle.machine.specs.spark_base.Lists.{Has}
use Rattle.machine.specs.typed_tree.Programs.{text_io}
use Rattle.machine.specs.flow_paths.declared.report.Effects.{Effects}
use Rattle.machine.specs.flow_paths.Objects.{Typing, is_package_object, is_state}
use Rattle.machine.specs.flow_paths.Laid.{FlowSub, FlowProgram, flow_typing}
use Rattle.machine.specs.flow_paths.Effects.{AreEffects, Ascends, CallChain, ends, calls_on, own_reads, own_writes, point_reads, point_writes, is_global, is_in, sub_calls, flow_sub_at}
use Rattle.accepted_examples.proofs.Quiet.{all_pass, left_of, right_of, each}

-- ---- numbers

abbrev pub below : ℕ → List ℕ
below zero = []
below (suc n) = below n ++ n ∷ []

has_last : (xs : List ℕ) (n : ℕ) → Has (xs ++ n ∷ []) n
has_last [] n = inl refl
has_last (x ∷ rest) n = inr (has_last rest n)

has_front : (xs ys : List ℕ) (n : ℕ) → Has xs n → Has (xs ++ ys) n
has_front [] ys n has = absurd has
has_front (x ∷ rest) ys n (inl is) = inl is
has_front (x ∷ rest) ys n (inr has) = inr (has_front rest ys n has)

has_cases : (xs : List ℕ) (m n : ℕ) → Has (xs ++ m ∷ []) n → Has xs n ⊎ (m ≡ n)
has_cases [] m n (inl is) = inr is
has_cases [] m n (inr none) = absurd none
has_cases (x ∷ rest) m n (inl is) = inl (inl is)
has_cases (x ∷ rest) m n (inr has) = elim (has_cases rest m n has) [ inl there ↦ inl (inr there) | inr is ↦ inr is ]

below_has : (b n : ℕ) → n < b → Has (below b) n
below_has zero n less = absurd (omega (arith, less))
below_has (suc b) n less = elim (at_or_below b n (omega (arith, less))) [
  | inl is ↦ subst (Has (below b ++ b ∷ [])) (sym is) (has_last (below b) b)
  | inr few ↦ has_front (below b) (b ∷ []) n (below_has b n few)
]
  where
    at_or_below : (b n : ℕ) → n ≤ b → (n ≡ b) ⊎ (n < b)
    at_or_below b n most = eq-or-lt_of_le most

below_less : (b n : ℕ) → Has (below b) n → n < b
below_less zero n has = absurd has
below_less (suc b) n has = elim (has_cases (below b) b n has) [
  | inl there ↦ (let less = below_less b n there in omega (arith, less))
  | inr is ↦ omega (arith, is)
]

within : (n b : ℕ) → (n < b) ⊎ (b ≤ n)
within n zero = inr (omega arith)
within zero (suc b) = inl (omega arith)
within (suc n) (suc b) = elim (within n b) [ inl less ↦ inl (omega (arith, less)) | inr more ↦ inr (omega (arith, more)) ]

-- ---- lists

either : (a b : Bool) → a || b ≡ true → (a ≡ true) ⊎ (b ≡ true)
either true b e = inl refl
either false b e = inr e

implied : (a b : Bool) → not a || b ≡ true → a ≡ true → b ≡ true
implied true b e is = e
implied false b e is = absurd (true≢false (sym is))

member : (g : ℕ) (xs : List ℕ) → is_in g xs ≡ true → Has xs g
member g [] e = absurd (true≢false (sym e))
member g (y ∷ rest) e = elim (either (g == y) (is_in g rest) e) [
  | inl same ↦ inl (sym (eqb-true g y same))
  | inr more ↦ inr (member g rest more)
]

found : (test : ℕ → Bool) (xs : List ℕ) → list_any test xs ≡ true → (x : ℕ) × (test x ≡ true)
found test [] e = absurd (true≢false (sym e))
found test (y ∷ rest) e = elim (either (test y) (list_any test rest) e) [ inl is ↦ (y, is) | inr more ↦ found test rest more ]

abbrev only : (ℕ → Bool) → List ℕ → List ℕ
only test [] = []
only test (x ∷ rest) = if test x then x ∷ only test rest else only test rest

abbrev rows_of : (ℕ → List ℕ) → List ℕ → List (List ℕ)
rows_of row [] = []
rows_of row (p ∷ rest) = row p ∷ rows_of row rest

abbrev ascends : List ℕ → Bool
ascends [] = true
ascends (x ∷ rest) = all_pass (λ y. is_in x (below y)) rest && ascends rest

are_ascending : (xs : List ℕ) → ascends xs ≡ true → Ascends xs
are_ascending [] e = tt
are_ascending (x ∷ rest) e = (
  λ y has. below_less y x (member x (below y) (each (λ y. is_in x (below y)) rest (left_of (all_pass (λ y. is_in x (below y)) rest) (ascends rest) e) y has)),
  are_ascending rest (right_of (all_pass (λ y. is_in x (below y)) rest) (ascends rest) e),
)

row_ascends : (rows : List (List ℕ)) → all_pass ascends rows ≡ true → (p : ℕ) → Ascends (get_or rows p [])
row_ascends [] e p = tt
row_ascends (row ∷ rest) e zero = are_ascending row (left_of (ascends row) (all_pass ascends rest) e)
row_ascends (row ∷ rest) e (suc p) = row_ascends rest (right_of (ascends row) (all_pass ascends rest) e) p

abbrev no_sub : FlowSub
no_sub = record { pos = record { file = 0; line = 1; column = 1 }; words = 1; formals = []; result = None; points = []; facts = [] }

-- ---- rows that say what subprograms do, over chains of calls

module _ (program : FlowProgram) (own : FlowSub → ℕ → Bool) (objects : ℕ) where
  -- A chain of at most so many calls leads to a text that does it.
  abbrev does : ℕ → ℕ → ℕ → Bool
  does zero p g = false
  does (suc k) p g = own (flow_sub_at program p) g || list_any (λ q. sub_calls (flow_sub_at program p) q && does k q g) (below (length program.subs))

  abbrev pub rows_done : List (List ℕ)
  rows_done = rows_of (λ p. only (does (length program.subs) p) (below objects)) (below (length program.subs))

  module _ (rows : List (List ℕ)) where
    abbrev row : ℕ → List ℕ
    row p = get_or rows p []

    abbrev has_own : ℕ → Bool
    has_own p = all_pass (λ g. not (own (flow_sub_at program p) g) || is_in g (row p)) (below objects)

    abbrev has_called : ℕ → Bool
    has_called p = all_pass (λ q. not (sub_calls (flow_sub_at program p) q) || all_pass (λ g. is_in g (row p)) (row q)) (below (length program.subs))

    abbrev row_passes : ℕ → Bool
    row_passes p = has_own p && (has_called p && all_pass (does (length program.subs) p) (row p))

    abbrev pub rows_pass : Bool
    rows_pass = all_pass ascends rows && all_pass row_passes (below (length program.subs))

    module _ (idle : (g : ℕ) → own no_sub g ≡ false) (bounded : (sub : FlowSub) (g : ℕ) → objects ≤ g → own sub g ≡ false) (counts : length rows ≡ length program.subs)
        (passes : rows_pass ≡ true) where
      abbrev Affects : ℕ → ℕ → Type 0
      Affects p g = (last : ℕ) × CallChain program p last × IsTrue (own (flow_sub_at program last) g)

      pub order : (p : ℕ) → Ascends (row p)
      order = row_ascends rows (left_of (all_pass ascends rows) (all_pass row_passes (below (length program.subs))) passes)

      at_row : (p : ℕ) → p < length program.subs → row_passes p ≡ true
      at_row p less =
          each row_passes (below (length program.subs)) (right_of (all_pass ascends rows) (all_pass row_passes (below (length program.subs))) passes) p (below_has (length program.subs) p less)

      past_sub : (p : ℕ) → length program.subs ≤ p → flow_sub_at program p ≡ no_sub
      past_sub p past = get_or_past program.subs p no_sub past

      own_in : (p g : ℕ) → own (flow_sub_at program p) g ≡ true → Has (row p) g
      own_in p g is = elim (within p (length program.subs)) [
        | inr past ↦ absurd (true≢false (sym (ap (λ z. own z g) (sym (past_sub p past)) ∙ is) ∙ idle g))
        | inl less ↦ elim (within g objects) [
          | inr more ↦ absurd (true≢false (sym is ∙ bounded (flow_sub_at program p) g more))
          | inl few ↦ member g (row p)
              (implied (own (flow_sub_at program p) g) (is_in g (row p))
              (each (λ g. not (own (flow_sub_at program p) g) || is_in g (row p)) (below objects)
              (left_of (has_own p) (has_called p && all_pass (does (length program.subs) p) (row p)) (at_row p less)) g (below_has objects g few)) is)
        ]
      ]

      called_in : (p q g : ℕ) → sub_calls (flow_sub_at program p) q ≡ true → Has (row q) g → Has (row p) g
      called_in p q g calls has = elim (within p (length program.subs)) [
        | inr past ↦ absurd (true≢false (sym (ap (λ z. sub_calls z q) (sym (past_sub p past)) ∙ calls)))
        | inl less ↦ elim (within q (length program.subs)) [
          | inr past ↦ absurd (subst (λ xs. Has xs g) (get_or_past rows q [] (let count = counts in omega (arith, count, past))) has)
          | inl few ↦ member g (row p)
              (each (λ g. is_in g (row p)) (row q)
              (implied (sub_calls (flow_sub_at program p) q) (all_pass (λ g. is_in g (row p)) (row q))
              (each (λ q. not (sub_calls (flow_sub_at program p) q) || all_pass (λ g. is_in g (row p)) (row q)) (below (length program.subs))
              (left_of (has_called p) (all_pass (does (length program.subs) p) (row p))
              (right_of (has_own p) (has_called p && all_pass (does (length program.subs) p) (row p)) (at_row p less))) q (below_has (length program.subs) q few)) calls) g has)
        ]
      ]

      pub complete : (p last g : ℕ) → CallChain program p last → IsTrue (own (flow_sub_at program last) g) → Has (row p) g
      complete _ _ g (ends p) is = own_in p g is
      complete _ _ g (calls_on p q last calls chain) is = called_in p q g calls (complete q last g chain is)

      reason : (k p g : ℕ) → does k p g ≡ true → Affects p g
      reason zero p g e = absurd (true≢false (sym e))
      reason (suc k) p g e =
          elim (either (own (flow_sub_at program p) g) (list_any (λ q. sub_calls (flow_sub_at program p) q && does k q g) (below (length program.subs))) e) [
            | inl mine ↦ (p, ends p, mine)
            | inr by ↦ (
                let (q, both) = found (λ q. sub_calls (flow_sub_at program p) q && does k q g) (below (length program.subs)) by in
                let (last, chain, is) = reason k q g (right_of (sub_calls (flow_sub_at program p) q) (does k q g) both) in
                (last, calls_on p q last (left_of (sub_calls (flow_sub_at program p) q) (does k q g) both) chain, is))
          ]

      pub sound : (p g : ℕ) → p < length program.subs → Has (row p) g → Affects p g
      sound p g less has =
          reason (length program.subs) p g
          (each (does (length program.subs) p) (row p)
          (right_of (has_called p) (all_pass (does (length program.subs) p) (row p))
          (right_of (has_own p) (has_called p && all_pass (does (length program.subs) p) (row p)) (at_row p less))) g has)

-- ---- effects

and_none : (a b : Bool) → b ≡ false → a && b ≡ false
and_none true b e = e
and_none false b e = refl

module _ (program : FlowProgram) where
  abbrev s : Typing
  s = flow_typing program

  -- Ada.Text_IO has number 0, and stands for what has no number of an object.
  abbrev objects : ℕ
  objects = suc (length s.objects)

  abbrev pub affected : Effects
  affected = record { read = rows_done program (own_reads s) objects; written = rows_done program (own_writes s) objects }

  abbrev pub effects_pass : Bool
  effects_pass = rows_pass program (own_reads s) objects affected.read && rows_pass program (own_writes s) objects affected.written

  past_global : (g : ℕ) → objects ≤ g → is_global s g ≡ false
  past_global zero past = absurd (omega (arith, past))
  past_global (suc g) past =
      neither (suc g == 0) (is_package_object s (suc g)) (not_zero (suc g == 0) refl)
      (ap (λ o. is_some o.«package» && not (is_state o.kind)) (get_or_past s.objects (suc g) text_io (omega (arith, past))))
    where
      neither : (a b : Bool) → a ≡ false → b ≡ false → a || b ≡ false
      neither true b e h = e
      neither false b e h = h

      not_zero : (b : Bool) → (suc g == 0) ≡ b → (suc g == 0) ≡ false
      not_zero true e = absurd (let is : suc g ≡ 0 = eqb-true (suc g) 0 e in omega (arith, is))
      not_zero false e = e

  idle_reads : (g : ℕ) → own_reads s no_sub g ≡ false
  idle_reads g = and_none (is_global s g) (list_any (point_reads g) no_sub.points) refl

  idle_writes : (g : ℕ) → own_writes s no_sub g ≡ false
  idle_writes g = and_none (is_global s g) (list_any (point_writes g) no_sub.points) refl

  few_reads : (sub : FlowSub) (g : ℕ) → objects ≤ g → own_reads s sub g ≡ false
  few_reads sub g past = ap (λ b. b && list_any (point_reads g) sub.points) (past_global g past)

  few_writes : (sub : FlowSub) (g : ℕ) → objects ≤ g → own_writes s sub g ≡ false
  few_writes sub g past = ap (λ b. b && list_any (point_writes g) sub.points) (past_global g past)

  pub effects_are : length affected.read ≡ length program.subs → length affected.written ≡ length program.subs → effects_pass ≡ true → AreEffects program affected
  effects_are reads writes passes = record {
    read_count = reads;
    written_count = writes;
    read_order = order program (own_reads s) objects affected.read idle_reads few_reads reads first;
    written_order = order program (own_writes s) objects affected.written idle_writes few_writes writes second;
    reads = λ p g less. (
      (λ has. (let (last, chain, own) = sound program (own_reads s) objects affected.read idle_reads few_reads reads first p g less has in record { last = last; chain = chain; own = own })),
      (λ is. complete program (own_reads s) objects affected.read idle_reads few_reads reads first p is.last g is.chain is.own),
    );
    writes = λ p g less. (
      (λ has. (let (last, chain, own) = sound program (own_writes s) objects affected.written idle_writes few_writes writes second p g less has in record { last = last; chain = chain; own = own })),
      (λ is. complete program (own_writes s) objects affected.written idle_writes few_writes writes second p is.last g is.chain is.own),
    );
  }
    where
      first : rows_pass program (own_reads s) objects affected.read ≡ true
      first = left_of (rows_pass program (own_reads s) objects affected.read) (rows_pass program (own_writes s) objects affected.written) passes

      second : rows_pass program (own_writes s) objects affected.written ≡ true
      second = right_of (rows_pass program (own_reads s) objects affected.read) (rows_pass program (own_writes s) objects affected.written) passes
