-- Values that a point takes, one after the other.
use Rattle.std.proofs.Common.{◌≡◌, ◌⊎◌, inl, inr, sym, ap, ◌∙◌, ℕ, ◌+◌, ◌<◌, ◌≤◌, List, [], ◌∷◌, ◌++◌, map, sum, take, length, get_or, arith}
use Rattle.std.proofs.lemmas.Grind.{common_steps}
use Rattle.std.proofs.lemmas.Bool.{cases_lt}
use Rattle.std.proofs.lemmas.List.{take-append-le, get_or_append_left}
use Rattle.std.proofs.Math.Seq.{get_or-append_seam, take-append_seam}
use Rattle.type_definitions.specs.Types.{Table, words}
use Rattle.run_lowering.specs.Offsets.{AreStarts}
use Rattle.run_lowering.specs.declared.takes.Takes.{Takes}
use Rattle.run_lowering.specs.Takes.{IsTakes}
use Rattle.run_lowering.proofs.Rooms.{map_end, sum_end}

pub takes_first : (table : Table) (t : Takes) → t.types.items ≡ [] → t.starts.items ≡ [] → t.words ≡ 0 → IsTakes table t
takes_first table t types starts none = record {
  starts = λ k lt. absurd (omega (arith, lt, ap length starts));
  long = ap length starts ∙ sym (ap length types);
  all = none ∙ sym (ap (λ ts. sum (map (words table) ts)) types);
}

starts_at : (table : Table) (types starts : List ℕ) (t w k : ℕ) → length starts ≡ length types → w ≡ sum (map (words table) types)
    → AreStarts table types starts → k < length (starts ++ w ∷ []) → (k < length starts) ⊎ (length starts ≤ k)
    → get_or (starts ++ w ∷ []) k 0 ≡ sum (map (words table) (take k (types ++ t ∷ [])))
starts_at table types starts t w k long is are within (inl lt) =
    get_or_append_left starts (w ∷ []) 0 k lt
    ∙ (are k lt ∙ sym (ap (λ ts. sum (map (words table) ts)) (take-append-le k types (t ∷ []) (omega (arith, lt, long)))))
starts_at table types starts t w k long is are within (inr le) =
    let at : k ≡ length starts = grind (arith, common_steps, within, le) in
    let same : length types ≡ k = omega (arith, at, long) in
    ap (λ k. get_or (starts ++ w ∷ []) k 0) at
    ∙ (get_or-append_seam starts w [] 0
    ∙ (is ∙ (ap (λ ts. sum (map (words table) ts)) (sym (take-append_seam types (t ∷ [])))
    ∙ ap (λ n. sum (map (words table) (take n (types ++ t ∷ [])))) same)))

pub takes_next : (table : Table) (a b : Takes) (t : ℕ) → IsTakes table a → b.types.items ≡ a.types.items ++ t ∷ []
    → b.starts.items ≡ a.starts.items ++ a.words ∷ [] → b.words ≡ a.words + words table t → IsTakes table b
takes_next table a b t is types starts more =
    let end : sum (map (words table) (a.types.items ++ t ∷ [])) ≡ sum (map (words table) a.types.items) + words table t =
    ap sum (map_end (words table) a.types.items t) ∙ sum_end (map (words table) a.types.items) (words table t) in
    record {
      starts = λ k lt.
          ap (λ s. get_or s k 0) starts
          ∙ (starts_at table a.types.items a.starts.items t a.words k is.long is.all is.starts (omega (arith, lt, ap length starts))
          (cases_lt k (length a.starts.items))
          ∙ sym (ap (λ ts. sum (map (words table) (take k ts))) types));
      long = grind (arith, common_steps, is.long, types, starts);
      all = omega (arith, more, is.all, end, ap (λ ts. sum (map (words table) ts)) types);
    }
