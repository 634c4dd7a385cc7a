-- Subprograms that are laid out one after the other.
use Rattle.std.proofs.Common.{◌≡◌, ◌<◌, ℕ, ◌+◌, List, [], ◌∷◌, ◌++◌, drop, get_or, length, map, refl, sym, ap, ◌∙◌, subst, arith, None}
use Rattle.std.proofs.lemmas.List.{append_assoc, append-nil, drop_more, length-append}
use Rattle.typed_tree.specs.Nodes.{TypedNodes}
use Rattle.typed_tree.specs.Programs.{TypedSub}
use Rattle.typed_statements.specs.declared.subs.Subprogram.{Subprogram}
use Rattle.typed_statements.specs.Bodies.{sub_at}
use Rattle.flow_paths.specs.Objects.{Typing}
use Rattle.flow_paths.specs.Laid.{FlowSub}
use Rattle.flow_paths.specs.Limits.{beyond}
use Rattle.numbered_points.specs.Programs.{NumberedSub, numbered_sub, numbered_subs}
use Rattle.lay_out.specs.declared.refusal.LayRefusal.{LayRefusal}
use Rattle.lay_out.specs.Refusals.{Says}
use Rattle.lay_out.specs.Subs.{next_temporary, subs_of, types_of}
use Rattle.lay_out.proofs.Limits.{beyond_later, says_first}

-- The subprograms that are left, after temporaries of these types.
abbrev pub left : Typing → List ℕ → List TypedSub → List NumberedSub
left s types subs = numbered_subs s (next_temporary s types) subs

-- What is laid out so far, with what is left, is all that is to be laid out; what is laid out since
-- the beginning is within the limits.
pub record IsPart (s : Typing) (subs_first : List FlowSub) (types_first : List ℕ) (all : List TypedSub) (subs : List FlowSub) (types : List ℕ)
    (rest : List TypedSub) : Type 0 where
  pub subs_are : subs ++ subs_of (left s types rest) ≡ subs_first ++ subs_of (left s types_first all)
  pub types_are : types ++ types_of (left s types rest) ≡ types_first ++ types_of (left s types_first all)
  pub limits : beyond (subs_of (left s types rest)) ≡ beyond (subs_of (left s types_first all))

pub begins : (s : Typing) (subs : List FlowSub) (types : List ℕ) (all : List TypedSub) → IsPart s subs types all subs types all
begins s subs types all = record { subs_are = refl; types_are = refl; limits = refl }

module _ (s : Typing) (subs_first : List FlowSub) (types_first : List ℕ) (all : List TypedSub) where
  next_is : (types more : List ℕ) → next_temporary s (types ++ more) ≡ next_temporary s types + length more
  next_is types more =
      let grown : length (types ++ more) ≡ length types + length more = length-append types more in
      omega (arith, grown)

  one_more : (subs : List FlowSub) (types : List ℕ) (sub : TypedSub) (rest : List TypedSub)
      → IsPart s subs_first types_first all subs types (sub ∷ rest)
      → beyond ((numbered_sub s (next_temporary s types) sub).sub ∷ []) ≡ None
      → IsPart s subs_first types_first all (subs ++ (numbered_sub s (next_temporary s types) sub).sub ∷ [])
      (types ++ (numbered_sub s (next_temporary s types) sub).types) rest
  one_more subs types sub rest part within =
      let n : NumberedSub = numbered_sub s (next_temporary s types) sub in
      let others : left s (types ++ n.types) rest ≡ numbered_subs s (next_temporary s types + length n.types) rest =
      ap (λ t. numbered_subs s t rest) (next_is types n.types) in
      let before : List NumberedSub = numbered_subs s (next_temporary s types + length n.types) rest in
      record {
        subs_are =
            ap (λ (ns : List NumberedSub). (subs ++ n.sub ∷ []) ++ subs_of ns) others
            ∙ append_assoc subs (n.sub ∷ []) (subs_of before) ∙ part.subs_are;
        types_are =
            ap (λ (ns : List NumberedSub). (types ++ n.types) ++ types_of ns) others
            ∙ append_assoc types n.types (types_of before) ∙ part.types_are;
        limits = ap (λ (ns : List NumberedSub). beyond (subs_of ns)) others ∙ sym (beyond_later n.sub (subs_of before) within) ∙ part.limits;
      }

  -- One step.
  pub goes_on : (rows : TypedNodes) (kept : List Subprogram) (i : ℕ) (b : Subprogram) (subs later : List FlowSub) (types grown : List ℕ)
      → i < length kept → b ≡ get_or kept i b
      → IsPart s subs_first types_first all subs types (map (sub_at rows) (drop i kept))
      → later ≡ subs ++ (numbered_sub s (next_temporary s types) (sub_at rows b)).sub ∷ []
      → grown ≡ types ++ (numbered_sub s (next_temporary s types) (sub_at rows b)).types
      → beyond ((numbered_sub s (next_temporary s types) (sub_at rows b)).sub ∷ []) ≡ None
      → IsPart s subs_first types_first all later grown (map (sub_at rows) (drop (i + 1) kept))
  goes_on rows kept i b subs later types grown below at part later_is grown_is within =
      let next : map (sub_at rows) (drop i kept) ≡ sub_at rows b ∷ map (sub_at rows) (drop (i + 1) kept) =
      ap (map (sub_at rows)) (drop_more kept i b below)
      ∙ ap (λ (c : Subprogram). sub_at rows c ∷ map (sub_at rows) (drop (i + 1) kept)) (sym at) in
      let made : IsPart s subs_first types_first all (subs ++ (numbered_sub s (next_temporary s types) (sub_at rows b)).sub ∷ [])
      (types ++ (numbered_sub s (next_temporary s types) (sub_at rows b)).types) (map (sub_at rows) (drop (i + 1) kept)) =
      one_more subs types (sub_at rows b) (map (sub_at rows) (drop (i + 1) kept))
      (subst (IsPart s subs_first types_first all subs types) next part) within in
      subst (λ (ns : List FlowSub). IsPart s subs_first types_first all ns grown (map (sub_at rows) (drop (i + 1) kept))) (sym later_is)
      (subst
      (λ (ns : List ℕ). IsPart s subs_first types_first all (subs ++ (numbered_sub s (next_temporary s types) (sub_at rows b)).sub ∷ []) ns
      (map (sub_at rows) (drop (i + 1) kept))) (sym grown_is) made)

  -- A refusal of the next one is one of all.
  pub refused : (rows : TypedNodes) (kept : List Subprogram) (i : ℕ) (b : Subprogram) (subs : List FlowSub) (types : List ℕ) (e : LayRefusal)
      → i < length kept → b ≡ get_or kept i b
      → IsPart s subs_first types_first all subs types (map (sub_at rows) (drop i kept))
      → Says e (beyond ((numbered_sub s (next_temporary s types) (sub_at rows b)).sub ∷ []))
      → Says e (beyond (subs_of (left s types_first all)))
  refused rows kept i b subs types e below at part says =
      let next : map (sub_at rows) (drop i kept) ≡ sub_at rows b ∷ map (sub_at rows) (drop (i + 1) kept) =
      ap (map (sub_at rows)) (drop_more kept i b below)
      ∙ ap (λ (c : Subprogram). sub_at rows c ∷ map (sub_at rows) (drop (i + 1) kept)) (sym at) in
      let n : NumberedSub = numbered_sub s (next_temporary s types) (sub_at rows b) in
      let others : List NumberedSub = numbered_subs s (next_temporary s types + length n.types) (map (sub_at rows) (drop (i + 1) kept)) in
      let is : beyond (n.sub ∷ subs_of others) ≡ beyond (subs_of (left s types_first all)) =
      ap (λ (rest : List TypedSub). beyond (subs_of (left s types rest))) (sym next) ∙ part.limits in
      subst (Says e) is (says_first e n.sub (subs_of others) says)

  -- Nothing is left.
  pub ended_subs : (subs : List FlowSub) (types : List ℕ) → IsPart s subs_first types_first all subs types []
      → subs ≡ subs_first ++ subs_of (left s types_first all)
  ended_subs subs types part = sym (append-nil subs) ∙ part.subs_are

  pub ended_types : (subs : List FlowSub) (types : List ℕ) → IsPart s subs_first types_first all subs types []
      → types ≡ types_first ++ types_of (left s types_first all)
  ended_types subs types part = sym (append-nil types) ∙ part.types_are

  pub ended_limits : (subs : List FlowSub) (types : List ℕ) → IsPart s subs_first types_first all subs types []
      → beyond (subs_of (left s types_first all)) ≡ None
  ended_limits subs types part = sym part.limits
