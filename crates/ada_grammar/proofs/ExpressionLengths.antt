-- How many tokens a reader takes: at least one, or none.
use Rattle.std.proofs.Common.{◌≡◌, sym, ap, ℕ, zero, suc, ◌<◌, ◌≤◌, Bool, true, false, List, [], ◌∷◌, length, Option, Some, None, inl, inr, arith}
use Rattle.std.specs.Prelude.{if◌then◌else◌}
use Rattle.spark_base.specs.declared.position.Pos.{Pos}
use Rattle.ada_lexer.specs.declared.token.Symbol.{Symbol}
use Rattle.ada_lexer.specs.declared.token.Reserved.{Reserved}
use Rattle.token_reading.specs.declared.side.Side.{Side}
use Rattle.token_reading.specs.declared.side.Side.TheVariants.{Within}
use Rattle.token_reading.specs.Spelled.{Spelled}
use Rattle.token_reading.specs.Weights.{Weight, resting, opening, operating}
use Rattle.token_reading.specs.Reading.{OverLimit, Refused, Got, Reader, starts, word_position, symbol_position, identifier_of, string_of, number_of, word, operator_word, symbol, opens_symbol, operator_symbol, ident, string, number, position, stays, here, one_of, taken, and_then, to, seq_on, seq, nothing, choose, optional, many, many_up_to}
use Rattle.token_reading.proofs.Law.{failed, got_same, got_fails, and_then_got}
use Rattle.token_reading.proofs.Loop.{Shortens}

-- What is left is no longer than before.
abbrev pub Keeps : {A : Type 0} → Reader A → Type 0
Keeps {A} p = (k : ℕ) (ts : List Spelled) (a : A) (j : ℕ) (rest : List Spelled) → p k ts ≡ Got a j rest → length rest ≤ length ts

-- ---- one token, and none

pub shortened : {A : Type 0} {p : Reader A} → Shortens p → Keeps p
shortened short k ts a j rest e = let less : length rest < length ts = short k ts a j rest e in omega (arith, less)

left_length : {A : Type 0} (a b : A) (j i : ℕ) (ts rest : List Spelled) → Got a j ts ≡ Got b i rest → length rest ≡ length ts
left_length a b j i ts rest e = ap length (sym (got_same a b j i ts rest e).2)

weighed_length : {A : Type 0} (exceeds : Bool) (a b : A) (i j : ℕ) (t : Spelled) (ts rest : List Spelled)
    → (if exceeds then failed A OverLimit (t ∷ ts) else Got a i ts) ≡ Got b j rest → length rest < suc (length ts)
weighed_length true a b i j t ts rest e = absurd (got_fails b j OverLimit rest (t ∷ ts) (sym e))
weighed_length false a b i j t ts rest e = let same : length rest ≡ length ts = left_length a b i j ts rest e in omega (arith, same)

taken_length : {A : Type 0} (w : Weight) (found : Option A) (k : ℕ) (t : Spelled) (ts : List Spelled) (b : A) (j : ℕ) (rest : List Spelled)
    → taken w found k t ts ≡ Got b j rest → length rest < suc (length ts)
taken_length w None k t ts b j rest e = absurd (got_fails b j Refused rest (t ∷ ts) (sym e))
taken_length w (Some a) k t ts b j rest e = weighed_length (w.exceeds k) a b (w.step k) j t ts rest e

pub one_short : {A : Type 0} (w : Weight) (f : Spelled → Option A) → Shortens (one_of w f)
one_short w f k [] a j rest e = absurd (got_fails a j Refused rest [] (sym e))
one_short w f k (t ∷ ts) a j rest e = taken_length w (f t) k t ts a j rest e

stays_length : (found : Option Pos) (k : ℕ) (ts : List Spelled) (a : Pos) (j : ℕ) (rest : List Spelled) → stays found k ts ≡ Got a j rest
    → length rest ≤ length ts
stays_length None k ts a j rest e = absurd (got_fails a j Refused rest ts (sym e))
stays_length (Some pos) k ts a j rest e = let same : length rest ≡ length ts = left_length pos a k j ts rest e in omega (arith, same)

pub here_keeps : Keeps here
here_keeps k [] a j rest e = absurd (got_fails a j Refused rest [] (sym e))
here_keeps k (t ∷ ts) a j rest e = stays_length (position t) k (t ∷ ts) a j rest e

pub nothing_keeps : Keeps nothing
nothing_keeps k ts a j rest e = let same : length rest ≡ length ts = left_length tt a k j ts rest e in omega (arith, same)

-- ---- larger readers

pub to_short : {A B : Type 0} (f : A → B) (p : Reader A) → Shortens p → Shortens (to f p)
to_short f p short k ts b i rest e =
    let at = and_then_got (p k ts) (λ a j more. Got (f a) j more) b i rest e in
    let less : length at.1.1.0 < length ts = short k ts at.0 at.1.0 at.1.1.0 at.1.1.1.0 in
    let same : length rest ≡ length at.1.1.0 = left_length (f at.0) b at.1.0 i at.1.1.0 rest at.1.1.1.1 in
    omega (arith, less, same)

pub to_keeps : {A B : Type 0} (f : A → B) (p : Reader A) → Keeps p → Keeps (to f p)
to_keeps f p keeps k ts b i rest e =
    let at = and_then_got (p k ts) (λ a j more. Got (f a) j more) b i rest e in
    let less : length at.1.1.0 ≤ length ts = keeps k ts at.0 at.1.0 at.1.1.0 at.1.1.1.0 in
    let same : length rest ≡ length at.1.1.0 = left_length (f at.0) b at.1.0 i at.1.1.0 rest at.1.1.1.1 in
    omega (arith, less, same)

module _ {A B : Type 0} (p : Reader A) (q : A → Reader B) where
  pub chained_short : Shortens p → ((a : A) → Keeps (q a)) → Shortens (seq_on p q)
  chained_short short keeps k ts b i rest e =
      let at = and_then_got (p k ts) (λ a j more. to (λ x. (a, x)) (q a) j more) b i rest e in
      let less : length at.1.1.0 < length ts = short k ts at.0 at.1.0 at.1.1.0 at.1.1.1.0 in
      let last : length rest ≤ length at.1.1.0 = to_keeps (λ x. (at.0, x)) (q at.0) (keeps at.0) at.1.0 at.1.1.0 b i rest at.1.1.1.1 in
      omega (arith, less, last)

  pub chained_keeps : Keeps p → ((a : A) → Keeps (q a)) → Keeps (seq_on p q)
  chained_keeps short keeps k ts b i rest e =
      let at = and_then_got (p k ts) (λ a j more. to (λ x. (a, x)) (q a) j more) b i rest e in
      let less : length at.1.1.0 ≤ length ts = short k ts at.0 at.1.0 at.1.1.0 at.1.1.1.0 in
      let last : length rest ≤ length at.1.1.0 = to_keeps (λ x. (at.0, x)) (q at.0) (keeps at.0) at.1.0 at.1.1.0 b i rest at.1.1.1.1 in
      omega (arith, less, last)

  pub chained_late : Keeps p → ((a : A) → Shortens (q a)) → Shortens (seq_on p q)
  chained_late short keeps k ts b i rest e =
      let at = and_then_got (p k ts) (λ a j more. to (λ x. (a, x)) (q a) j more) b i rest e in
      let less : length at.1.1.0 ≤ length ts = short k ts at.0 at.1.0 at.1.1.0 at.1.1.1.0 in
      let last : length rest < length at.1.1.0 = to_short (λ x. (at.0, x)) (q at.0) (keeps at.0) at.1.0 at.1.1.0 b i rest at.1.1.1.1 in
      omega (arith, less, last)

-- the first part takes a token
pub seq_short : {A B : Type 0} (p : Reader A) (q : Reader B) → Shortens p → Keeps q → Shortens (seq p q)
seq_short p q short keeps = chained_short p (λ a. q) short (λ a. keeps)

pub seq_keeps : {A B : Type 0} (p : Reader A) (q : Reader B) → Keeps p → Keeps q → Keeps (seq p q)
seq_keeps p q first second = chained_keeps p (λ a. q) first (λ a. second)

-- the second part takes a token
pub seq_late : {A B : Type 0} (p : Reader A) (q : Reader B) → Keeps p → Shortens q → Shortens (seq p q)
seq_late p q keeps short = chained_late p (λ a. q) keeps (λ a. short)

module _ {A B : Type 0} (ms : List ℕ) (p : Reader A) (q : Reader B) where
  choice_short : (r : Bool) → Shortens p → Shortens q → Shortens (λ k ts. if r then to inl p k ts else to inr q k ts)
  choice_short true first second k ts a j rest e = to_short inl p first k ts a j rest e
  choice_short false first second k ts a j rest e = to_short inr q second k ts a j rest e

  choice_keeps : (r : Bool) → Keeps p → Keeps q → Keeps (λ k ts. if r then to inl p k ts else to inr q k ts)
  choice_keeps true first second k ts a j rest e = to_keeps inl p first k ts a j rest e
  choice_keeps false first second k ts a j rest e = to_keeps inr q second k ts a j rest e

  pub choose_short : Shortens p → Shortens q → Shortens (choose ms p q)
  choose_short first second k ts a j rest e = choice_short (starts ms ts) first second k ts a j rest e

  pub choose_keeps : Keeps p → Keeps q → Keeps (choose ms p q)
  choose_keeps first second k ts a j rest e = choice_keeps (starts ms ts) first second k ts a j rest e

module _ {A : Type 0} (ms : List ℕ) (p : Reader A) (keeps : Keeps p) where
  part_keeps : (r : Bool) → Keeps (λ k ts. if r then to Some p k ts else Got None k ts)
  part_keeps true k ts a j rest e = to_keeps Some p keeps k ts a j rest e
  part_keeps false k ts a j rest e = let same : length rest ≡ length ts = left_length None a k j ts rest e in omega (arith, same)

  pub optional_keeps : Keeps (optional ms p)
  optional_keeps k ts a j rest e = part_keeps (starts ms ts) k ts a j rest e

  turn_keeps : (r : Bool) (n : ℕ) → Keeps (many_up_to ms p n)
      → Keeps (λ k ts. if r then and_then (p k ts) (λ a j more. and_then (many_up_to ms p n j more) (λ xs i rest. Got (a ∷ xs) i rest)) else Got [] k ts)
  turn_keeps true n more_keeps k ts b i rest e =
      let at = and_then_got (p k ts) (λ a j more. to (λ xs. a ∷ xs) (many_up_to ms p n) j more) b i rest e in
      let first : length at.1.1.0 ≤ length ts = keeps k ts at.0 at.1.0 at.1.1.0 at.1.1.1.0 in
      let last : length rest ≤ length at.1.1.0 = to_keeps (λ xs. at.0 ∷ xs) (many_up_to ms p n) more_keeps at.1.0 at.1.1.0 b i rest at.1.1.1.1 in
      omega (arith, first, last)
  turn_keeps false n more_keeps k ts b i rest e = let same : length rest ≡ length ts = left_length [] b k i ts rest e in omega (arith, same)

  many_of_keeps : (n : ℕ) → Keeps (many_up_to ms p n)
  many_of_keeps zero k ts b i rest e = let same : length rest ≡ length ts = left_length [] b k i ts rest e in omega (arith, same)
  many_of_keeps (suc n) k ts b i rest e = turn_keeps (starts ms ts) n (many_of_keeps n) k ts b i rest e

  pub many_keeps : Keeps (many ms p)
  unfolding many
  many_keeps k ts b i rest e = many_of_keeps (length ts) k ts b i rest e

-- ---- the same, of a reader by its form

-- The reader takes a token.
pub record Takes {A : Type 0} (p : Reader A) : Type 0 where
  pub shortens : Shortens p

-- The reader gives no token back.
pub record Passes {A : Type 0} (p : Reader A) : Type 0 where
  pub keeps : Keeps p

pub passes : {A : Type 0} {p : Reader A} → Takes p → Passes p
passes P = record { keeps = shortened P.shortens }

pub takes_made : {A B : Type 0} {p : Reader A} (f : A → B) → Takes p → Takes (to f p)
takes_made f P = record { shortens = to_short f _ P.shortens }

pub takes_first : {A B : Type 0} {p : Reader A} {q : Reader B} → Takes p → Passes q → Takes (seq p q)
takes_first P Q = record { shortens = seq_short _ _ P.shortens Q.keeps }

pub takes_on : {A B : Type 0} {p : Reader A} {q : A → Reader B} → Takes p → ((a : A) → Passes (q a)) → Takes (seq_on p q)
takes_on P Q = record { shortens = chained_short _ _ P.shortens (λ a. (Q a).keeps) }

pub passes_both : {A B : Type 0} {p : Reader A} {q : Reader B} → Passes p → Passes q → Passes (seq p q)
passes_both P Q = record { keeps = seq_keeps _ _ P.keeps Q.keeps }

pub takes_placed : {A : Type 0} {p : Reader A} → Takes p → Takes (seq here p)
takes_placed P = record { shortens = seq_late _ _ here_keeps P.shortens }

pub takes_either : {A B : Type 0} {p : Reader A} {q : Reader B} (ms : List ℕ) → Takes p → Takes q → Takes (choose ms p q)
takes_either ms P Q = record { shortens = choose_short ms _ _ P.shortens Q.shortens }

pub passes_either : {A B : Type 0} {p : Reader A} {q : Reader B} (ms : List ℕ) → Passes p → Passes q → Passes (choose ms p q)
passes_either ms P Q = record { keeps = choose_keeps ms _ _ P.keeps Q.keeps }

pub passes_some : {A : Type 0} {p : Reader A} (ms : List ℕ) → Passes p → Passes (optional ms p)
passes_some ms P = record { keeps = optional_keeps ms _ P.keeps }

pub passes_all : {A : Type 0} {p : Reader A} (ms : List ℕ) → Takes p → Passes (many ms p)
passes_all ms P = record { keeps = many_keeps ms _ (shortened P.shortens) }

pub passes_nothing : Passes nothing
passes_nothing = record { keeps = nothing_keeps }

pub takes_word : (side : Side) (v : Reserved) → Takes (word side v)
takes_word side v = record { shortens = one_short (resting side) (word_position v) }

pub takes_operator_word : (v : Reserved) → Takes (operator_word v)
takes_operator_word v = record { shortens = one_short operating (word_position v) }

pub takes_symbol : (side : Side) (v : Symbol) → Takes (symbol side v)
takes_symbol side v = record { shortens = one_short (resting side) (symbol_position v) }

pub takes_operator : (v : Symbol) → Takes (operator_symbol v)
takes_operator v = record { shortens = one_short operating (symbol_position v) }

pub takes_opener : (side : Side) (v : Symbol) (d : ℕ) → Takes (opens_symbol side v d)
takes_opener side v d = record { shortens = one_short (opening side d) (symbol_position v) }

pub takes_ident : (side : Side) → Takes (ident side)
takes_ident side = record { shortens = one_short (resting side) identifier_of }

pub takes_string : Takes string
takes_string = record { shortens = one_short (resting Within) string_of }

pub takes_number : Takes number
takes_number = record { shortens = one_short (resting Within) number_of }
