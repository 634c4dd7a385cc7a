-- What a copy of a piece leaves.
use Rattle.std.proofs.Common.{◌≡◌, ◌+◌, ◌++◌, ℕ, List, length, take, drop, sym, ap, ◌∙◌, subst}
use Rattle.std.proofs.lemmas.List.{take-append-drop, drop-drop}
use Rattle.std.proofs.Math.Seq.{take-append_seam}

-- a piece from an index on, and the rest after it
pub copied_piece : (bytes piece back : List ℕ) (at n : ℕ) → piece ≡ take n (drop at bytes) → length piece ≡ n
    → drop at bytes ≡ take n (piece ++ back) ++ drop (at + n) bytes
copied_piece bytes piece back at n is size =
    let front : take n (piece ++ back) ≡ take n (drop at bytes) = subst (λ (k : ℕ). take k (piece ++ back) ≡ piece) size (take-append_seam piece back) ∙ is in
    let rest : drop n (drop at bytes) ≡ drop (at + n) bytes = drop-drop n at bytes in
    sym (take-append-drop n (drop at bytes)) ∙ ap (λ l. l ++ drop n (drop at bytes)) (sym front) ∙ ap (λ l. take n (piece ++ back) ++ l) rest
