-- The laws of the readers of identifiers and dotted names, and of a part that is refused.
use Rattle.std.proofs.Common.{◌≡◌, refl, sym, ap, ℕ, Bool, true, false, List, [], ◌∷◌, ◌++◌, Option, Some, None}
use Rattle.std.specs.Prelude.{if◌then◌else◌}
use Rattle.spark_base.specs.declared.position.Pos.{Pos}
use Rattle.ada_lexer.specs.declared.token.Symbol.TheVariants as s
use Rattle.ada_tree.specs.declared.identifier.Identifier.{Identifier}
use Rattle.ada_tree.specs.declared.identifier.Dotted.{Dotted}
use Rattle.ada_tree.specs.declared.identifier.NextPart.{NextPart}
use Rattle.ada_tree.specs.declared.identifier.NextPart.TheVariants as next_part_of
use Rattle.ada_tree.specs.declared.identifier.NextDotted.{NextDotted}
use Rattle.ada_tree.specs.declared.identifier.NextDotted.TheVariants as next_dotted_of
use Rattle.ada_tree.specs.Spelling.{id_mark, next_part_spelling, dotted_spelling, next_dotted_spelling}
use Rattle.ada_tree.specs.WellPlaced.{DottedPlaced, NextDottedPlaced}
use Rattle.token_reading.specs.declared.side.Side.{Side}
use Rattle.token_reading.specs.declared.side.Side.TheVariants.{Apart}
use Rattle.token_reading.specs.Spelled.{Spelled}
use Rattle.token_reading.specs.Weights.{WeighedToken, bare, after}
use Rattle.token_reading.specs.Reading.{Cause, Refused, Outcome, Got, Fails, starts, of_symbol, optional, Each}
use Rattle.token_reading.proofs.Lists.{nothing_before}
use Rattle.token_reading.proofs.Sets.{Leads}
use Rattle.token_reading.proofs.Law.{Law, Read, Accepted, Broken, Leaves, put, failed, got_fails, read_same, refused_here}
use Rattle.token_reading.proofs.Tokens.{Any, law_symbol, law_ident}
use Rattle.token_reading.proofs.Seq.{Both, law_seq}
use Rattle.token_reading.proofs.Made.{law_to, law_wider}
use Rattle.token_reading.proofs.Choice.{same_start, Maybe, maybe_spelled}
use Rattle.token_reading.proofs.Many.{law_each}
use Rattle.ada_grammar.specs.Expressions.{refused, make_identifier, identifier, identifier_first, make_next_part, next_part, make_dotted, dotted, dotted_first, dotted_last, make_next_dotted, next_dotted}

-- ---- nothing, where the next token is of none of these kinds; else it is refused

abbrev pub Never : {A : Type 0} → A → Type 0
Never a = ⊥

abbrev bar : {A : Type 0} → Bool → ℕ → List Spelled → Outcome (Option A)
bar {A = A} r k ts = if r then failed (Option A) Refused ts else Got None k ts

module _ {A : Type 0} (ms : List ℕ) (spelled : A → List WeighedToken) where
  bar_sound : (r : Bool) (k : ℕ) (ts : List Spelled) (a : Option A) (j : ℕ) (rest : List Spelled) → bar r k ts ≡ Got a j rest
      → Read (Maybe Never) (maybe_spelled spelled) k ts a j rest
  bar_sound true k ts a j rest e = absurd (got_fails a j Refused rest ts (sym e))
  bar_sound false k ts a j rest e = read_same k ts None a k j ts rest e (record { fits = tt; within_limits = tt; count = refl; whole = refl })

  bar_accepts : (k : ℕ) (a : Option A) (rest : List Spelled) → Maybe Never a → starts ms rest ≡ false
      → Accepted a k (maybe_spelled spelled a) rest (bar (starts ms (bare (maybe_spelled spelled a) ++ rest)) k (bare (maybe_spelled spelled a) ++ rest))
  bar_accepts k None rest good stop = rw stop (refl, refl, refl, tt)
  bar_accepts k (Some a) rest good stop = absurd good

  bar_breaks : (r : Bool) (k : ℕ) (ts : List Spelled) (c : Cause) (rest : List Spelled) → bar {A = A} r k ts ≡ Fails c rest
      → Broken (Maybe Never) (maybe_spelled spelled) k c ts rest
  bar_breaks true k ts c rest e = refused_here None tt k ts c rest e
  bar_breaks false k ts c rest e = absurd (got_fails None k c ts rest e)

  bar_local : (r : Bool) (k : ℕ) (u : List Spelled) (x : Spelled) (v q : List Spelled) → Leaves (bar {A = A} r k (u ++ (x ∷ v))) (x ∷ v)
      → bar {A = A} r k (u ++ (x ∷ q)) ≡ put (x ∷ q) (bar r k (u ++ (x ∷ v)))
  bar_local true k u x v q left = let none : u ≡ [] = nothing_before u (x ∷ v) left in ap (λ w. failed (Option A) Refused (w ++ (x ∷ q))) none
  bar_local false k u x v q left = let none : u ≡ [] = nothing_before u (x ∷ v) left in ap (λ w. Got None k (w ++ (x ∷ q))) none

  bar_leads : (a : Option A) → Maybe Never a → Leads true [] (bare (maybe_spelled spelled a))
  bar_leads None good = refl
  bar_leads (Some a) good = absurd good

  pub law_barred : Law (optional ms refused) (Maybe Never) (maybe_spelled spelled) [] ms true
  law_barred = record {
    example = None;
    sample = tt;
    leads = bar_leads;
    sound = λ k ts a j rest e. bar_sound (starts ms ts) k ts a j rest e;
    accepts = λ k a rest good e. bar_accepts k a rest good e;
    breaks = λ k ts c rest e. bar_breaks (starts ms ts) k ts c rest e;
    local = λ k u x v q left. rw (same_start ms u x v q) (bar_local (starts ms (u ++ (x ∷ v))) k u x v q left);
  }

-- ---- identifiers and dotted names

pub each_any : {A : Type 0} (xs : List A) → Each Any xs
each_any [] = tt
each_any (x ∷ xs) = (tt, each_any xs)

pub law_identifier : (side : Side) → Law (identifier side) Any (λ id. id_mark side id ∷ []) identifier_first [] false
unfolding identifier
law_identifier side =
    law_to make_identifier Any (λ id. id_mark side id ∷ []) (law_ident side) (λ x good. tt) (λ x good. refl)
    (λ id good. ((id.pos, id.text), (tt, refl)))

next_part_onto : (x : NextPart) → Any x → (y : Pos × Identifier) × (Both Any Any y × (make_next_part y ≡ x))
next_part_onto (next_part_of.FurtherPart pos id) good = ((pos, id), ((tt, tt), refl))

pub law_next_part : (side : Side) → Law (next_part side) Any (next_part_spelling side) (of_symbol s.Dot ∷ []) [] false
unfolding next_part next_part_spelling
law_next_part side =
    law_to make_next_part Any (next_part_spelling side) (law_seq (law_symbol side s.Dot) (law_identifier side) refl) (λ x good. tt) (λ x good. refl)
    next_part_onto

dotted_onto : (x : Dotted) → DottedPlaced x → (y : Identifier × List NextPart) × (Both Any (Each Any) y × (make_dotted y ≡ x))
unfolding DottedPlaced
dotted_onto x good = ((x.first, x.rest), ((tt, each_any x.rest), ap (λ pos. record { pos = pos; first = x.first; rest = x.rest }) good))

pub law_dotted : (side : Side) → Law (dotted side) DottedPlaced (dotted_spelling side) dotted_first dotted_last false
unfolding dotted dotted_spelling DottedPlaced
law_dotted side =
    law_wider dotted_first dotted_last
    (law_to make_dotted DottedPlaced (dotted_spelling side)
    (law_seq (law_identifier side) (law_each (of_symbol s.Dot ∷ []) (law_next_part side) refl refl) refl)
    (λ x good. refl) (λ x good. refl) dotted_onto) refl refl

next_dotted_onto : (x : NextDotted) → NextDottedPlaced x → (y : Pos × Dotted) × (Both Any DottedPlaced y × (make_next_dotted y ≡ x))
unfolding NextDottedPlaced
next_dotted_onto (next_dotted_of.FurtherDotted pos dotted) good = ((pos, dotted), ((tt, good), refl))

pub law_next_dotted : Law next_dotted NextDottedPlaced next_dotted_spelling (of_symbol s.Comma ∷ []) dotted_last false
unfolding next_dotted next_dotted_spelling NextDottedPlaced
law_next_dotted =
    law_to make_next_dotted NextDottedPlaced next_dotted_spelling (law_seq (law_symbol Apart s.Comma) (law_dotted Apart) refl) (λ x good. good.1)
    (λ x good. refl) next_dotted_onto
