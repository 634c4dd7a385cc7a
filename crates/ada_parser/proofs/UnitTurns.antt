-- Lists of parts of units, and the units of a file: at least one, and then one after the other.
use Rattle.std.proofs.Common.{◌≡◌, refl, ap, ◌∙◌, ℕ, List, [], ◌∷◌}
use Rattle.std.specs.Prelude.{Err}
use Rattle.ada_lexer.specs.declared.token.Symbol.TheVariants as s
use Rattle.token_reading.specs.declared.fault.ReadFault.{ReadFault}
use Rattle.token_reading.specs.declared.fault.ReadFault.TheVariants as fault
use Rattle.token_reading.specs.Spelled.{Spelled}
use Rattle.token_reading.specs.Reading.{Outcome, Got, Fails, Reader, Ahead, Gives, of_symbol, at, and_then, many, some, in_front}
use Rattle.token_reading.proofs.Many.{shorter}
use Rattle.token_reading.proofs.Loop.{Shortens, with_front}
use Rattle.ada_grammar.specs.Units.{next_formal, decl_first, decl, body_part, context_first, context, unit_first, unit}
use Rattle.ada_grammar.proofs.UnitParts.{law_next_formal}
use Rattle.ada_grammar.proofs.UnitDecls.{law_decl}
use Rattle.ada_grammar.proofs.UnitBodies.{law_body_part}
use Rattle.ada_grammar.proofs.UnitLaws.{law_context, law_unit}

module _ {A : Type 0} (ms : List ℕ) (p : Reader A) where
  abbrev made : Outcome A → Outcome (List A)
  made o = and_then (and_then o (λ a j more. and_then (many ms p j more) (λ xs i rest. Got (a, xs) i rest))) (λ x i rest. Got (in_front x) i rest)

  shape : (a : A) (o : Outcome (List A)) → and_then (and_then o (λ xs i rest. Got (a, xs) i rest)) (λ x i rest. Got (in_front x) i rest)
      ≡ with_front (a ∷ []) o
  shape a (Got xs i rest) = refl
  shape a (Fails c rest) = refl

  -- the first has been read
  pub some_begins : (old new : Ahead) (a : A) → at p old ≡ Got a new.operators new.tokens
      → at (some ms p) old ≡ with_front (a ∷ []) (at (many ms p) new)
  some_begins old new a e = ap made e ∙ shape a (at (many ms p) new)

  pub some_breaks : (cause : ReadFault) (old new : Ahead) → Gives (at p old) (Err cause) new → Gives (at (some ms p) old) (Err cause) new
  some_breaks fault.Refused old new e = ap made e
  some_breaks fault.OverLimit old new e = ap made e
  some_breaks fault.Memory old new e = tt

-- ---- each element of a list takes a token, so that a loop over them ends

pub next_formal_shortens : Shortens next_formal
next_formal_shortens = shorter (of_symbol s.Semicolon ∷ []) law_next_formal refl refl

pub decl_shortens : Shortens decl
decl_shortens = shorter decl_first law_decl refl refl

pub body_part_shortens : Shortens body_part
body_part_shortens = shorter decl_first law_body_part refl refl

pub context_shortens : Shortens context
context_shortens = shorter context_first law_context refl refl

pub unit_shortens : Shortens unit
unit_shortens = shorter unit_first law_unit refl refl
