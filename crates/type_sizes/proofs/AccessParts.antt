-- Access parts with a selector in front.
use Rattle.std.proofs.Common.{◌≡◌, ℕ, zero, suc, ◌+◌, ◌<◌, ◌≤◌, Bool, ◌&&◌, List, [], ◌∷◌, ◌++◌, map, drop, length, get_or, IsTrue, refl, sym, ap, ◌∙◌, arith, append_assoc}
use Rattle.std.specs.Prelude.{nat_le}
use Rattle.std.proofs.Math.Seq.{drop-cons}
use Rattle.place_names.specs.declared.selector.Sel.{Sel}
use Rattle.place_names.specs.declared.selector.Sel.TheVariants.{Field}
use Rattle.type_definitions.specs.declared.table.Component.{Component}
use Rattle.type_definitions.specs.Types.{numbered}
use Rattle.type_definitions.specs.Whole.{all_short}

and_first : (a b : Bool) → IsTrue (a && b) → IsTrue a
and_first a b p = grind arith

and_second : (a b : Bool) → IsTrue (a && b) → IsTrue b
and_second a b p = grind arith

short_length : (n : ℕ) → IsTrue (nat_le n 16) → n ≤ 16
short_length n h = grind arith

-- With a selector in front of each they are short, so without it they have room for one.
pub short_at : (s : Sel) (qs : List (List Sel)) (k : ℕ) (d : List Sel) → IsTrue (all_short (map (λ q. s ∷ q) qs)) → k < length qs
    → length (get_or qs k d) < 16
short_at s [] k d short lt = absurd (omega (arith, lt))
short_at s (q ∷ rest) zero d short lt =
    let le : suc (length q) ≤ 16 =
    short_length (length (s ∷ q)) (and_first (nat_le (length (s ∷ q)) 16) (all_short (map (λ q. s ∷ q) rest)) short) in
    omega (arith, le)
short_at s (q ∷ rest) (suc k) d short lt =
    short_at s rest k d (and_second (nat_le (length (s ∷ q)) 16) (all_short (map (λ q. s ∷ q) rest)) short) (omega (arith, lt))

pub short_item : (s : Sel) (qs : List (List Sel)) (k : ℕ) (q : List Sel) → IsTrue (all_short (map (λ q. s ∷ q) qs)) → k < length qs
    → q ≡ get_or qs k q → length q < 16
short_item s qs k q short lt is =
    let e : length q ≡ length (get_or qs k q) = ap length is in
    let room : length (get_or qs k q) < 16 = short_at s qs k q short lt in
    omega (arith, e, room)

short_front : (qs rs : List (List Sel)) → IsTrue (all_short (qs ++ rs)) → IsTrue (all_short qs)
short_front [] rs short = refl
short_front (q ∷ rest) rs short =
    let first : IsTrue (nat_le (length q) 16) = and_first (nat_le (length q) 16) (all_short (rest ++ rs)) short in
    let others : IsTrue (all_short rest) = short_front rest rs (and_second (nat_le (length q) 16) (all_short (rest ++ rs)) short) in
    rw first others

short_back : (qs rs : List (List Sel)) → IsTrue (all_short (qs ++ rs)) → IsTrue (all_short rs)
short_back [] rs short = short
short_back (q ∷ rest) rs short = short_back rest rs (and_second (nat_le (length q) 16) (all_short (rest ++ rs)) short)

-- The parts of one more component of a record.
module _ (parts : ℕ → List (List Sel)) (cs : List Component) (i : ℕ) (d : Component) (made : List (List Sel)) (lt : i < length cs)
    (is : made ++ numbered i parts (drop i cs) ≡ numbered 0 parts cs) where
  component : Component
  component = get_or cs i d

  split : drop i cs ≡ component ∷ drop (suc i) cs
  unfolding component
  split = drop-cons cs i d lt

  here : made ++ (map (λ q. Field i ∷ q) (parts component.of) ++ numbered (i + 1) parts (drop (suc i) cs)) ≡ numbered 0 parts cs
  here = ap (λ xs. made ++ numbered i parts xs) (sym split) ∙ is

  pub component_short : IsTrue (all_short (numbered 0 parts cs)) → IsTrue (all_short (map (λ q. Field i ∷ q) (parts (get_or cs i d).of)))
  unfolding component
  component_short short =
      short_front (map (λ q. Field i ∷ q) (parts component.of)) (numbered (i + 1) parts (drop (suc i) cs))
      (short_back made (map (λ q. Field i ∷ q) (parts component.of) ++ numbered (i + 1) parts (drop (suc i) cs))
      (ap all_short here ∙ short))

  pub component_more : (j : ℕ) → j ≡ i + 1
      → (made ++ map (λ q. Field i ∷ q) (parts (get_or cs i d).of)) ++ numbered j parts (drop j cs) ≡ numbered 0 parts cs
  unfolding component
  component_more j e =
      let e : j ≡ suc i = omega (arith, e) in
      let f : suc i ≡ i + 1 = omega arith in
      append_assoc made (map (λ q. Field i ∷ q) (parts component.of)) (numbered j parts (drop j cs))
      ∙ ap (λ k. made ++ (map (λ q. Field i ∷ q) (parts component.of) ++ numbered k parts (drop k cs))) e
      ∙ ap (λ k. made ++ (map (λ q. Field i ∷ q) (parts component.of) ++ numbered k parts (drop (suc i) cs))) f
      ∙ here

-- As a loop over the components has it.
module _ (parts : ℕ → List (List Sel)) (cs : List Component) (i : ℕ) (c : Component) (number : ℕ) (tails made : List (List Sel))
    (lt : i < length cs) (is : made ++ numbered i parts (drop i cs) ≡ numbered 0 parts cs) (at : c ≡ get_or cs i c) (numbered_so : number ≡ i)
    (tails_are : tails ≡ parts c.of) where
  same : map (λ q. Field number ∷ q) tails ≡ map (λ q. Field i ∷ q) (parts (get_or cs i c).of)
  same =
      ap (λ n. map (λ q. Field n ∷ q) tails) numbered_so
      ∙ ap (λ qs. map (λ q. Field i ∷ q) qs) (tails_are ∙ ap (λ c. parts c.of) at)

  pub next_short : IsTrue (all_short (numbered 0 parts cs)) → IsTrue (all_short (map (λ q. Field number ∷ q) tails))
  next_short short = ap all_short same ∙ component_short parts cs i c made lt is short

  pub next_parts : (after : List (List Sel)) (j : ℕ) → after ≡ made ++ map (λ q. Field number ∷ q) tails → j ≡ i + 1
      → after ++ numbered j parts (drop j cs) ≡ numbered 0 parts cs
  next_parts after j more e =
      ap (λ qs. qs ++ numbered j parts (drop j cs)) (more ∙ ap (λ qs. made ++ qs) same)
      ∙ component_more parts cs i c made lt is j e
