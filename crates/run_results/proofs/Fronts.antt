-- Sinks that got a front of some bytes.
use Rattle.std.proofs.Common.{ℕ, List, [], ◌++◌, refl, sym, ◌∙◌, ap, append_assoc, append-nil, Option, None, Some}
use Rattle.std.specs.Io.KnownBytes.{Appends, Keeps}
use Rattle.std.proofs.KnownBytes.{Appends-nil, Appends-trans}
use Rattle.spark_base.specs.Outside.{AppendsPrefix}

-- None of them.
pub none_front : (sink : Option (List ℕ)) (piece : List ℕ) → AppendsPrefix sink sink piece
none_front sink piece = ([], piece, refl, Appends-nil sink)

kept_nothing : (old new : Option (List ℕ)) → Keeps old new → Appends old new []
kept_nothing None new kept = tt
kept_nothing (Some xs) None kept = absurd kept
kept_nothing (Some xs) (Some ys) kept = kept ∙ sym (append-nil xs)

pub kept_front : (old new : Option (List ℕ)) (piece : List ℕ) → Keeps old new → AppendsPrefix old new piece
kept_front old new piece kept = ([], piece, refl, kept_nothing old new kept)

-- All of them.
pub all_front : (old new : Option (List ℕ)) (piece : List ℕ) → Appends old new piece → AppendsPrefix old new piece
all_front old new piece written = (piece, [], sym (append-nil piece), written)

-- It is a front of more bytes.
pub front_more : (old new : Option (List ℕ)) (piece more : List ℕ) → AppendsPrefix old new piece → AppendsPrefix old new (piece ++ more)
front_more old new piece more (front, back, is, written) =
    (front, back ++ more, ap (λ l. l ++ more) is ∙ append_assoc front back more, written)

-- It comes after bytes that were written.
pub front_after : (old now new : Option (List ℕ)) (before piece : List ℕ) → Appends old now before → AppendsPrefix now new piece → AppendsPrefix old new (before ++ piece)
front_after old now new before piece first (front, back, is, written) = (
  before ++ front,
  back,
  ap (λ l. before ++ l) is ∙ sym (append_assoc before front back),
  Appends-trans old now new before front first written,
)
