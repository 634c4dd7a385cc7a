-- Words as texts.
use Rattle.std.proofs.Common.{◌≡◌, ◌<◌, ℕ, List, length, map, All, get_or, String, string_bytes, sym, ap, ◌∙◌, subst}
use Rattle.std.specs.declared.alloc.Global.{Global}
use Rattle.std.proofs.lemmas.List.{length-map}
use Rattle.std.proofs.lemmas.List.Elements.{All-get_or}
use Rattle.std.proofs.Math.ListN.{get_or-map}

-- a fact of each text of a list, at one of its words
pub All-map_at : (P : List ℕ → Type 0) (words : List (String Global)) (i : ℕ) (word : String Global) → i < length words
    → word ≡ get_or words i word → All P (map string_bytes words) → P (string_bytes word)
All-map_at P words i word within is all =
    let inside : i < length (map string_bytes words) = subst (λ (n : ℕ). i < n) (sym (length-map words string_bytes)) within in
    let there : P (get_or (map string_bytes words) i (string_bytes word)) = All-get_or P (map string_bytes words) i (string_bytes word) inside all in
    let same : get_or (map string_bytes words) i (string_bytes word) ≡ string_bytes word = get_or-map string_bytes words i word ∙ ap string_bytes (sym is) in
    subst P same there
