-- The item that follows separators, and where there is none.
use Rattle.std.proofs.Common.{◌≡◌, refl, sym, ap, ◌∙◌, ℕ, ◌+◌, Bool, true, false, eqb, List, [], ◌∷◌, take, drop, Option, ℤ, arith, one-add}
use Rattle.std.proofs.Math.Dec.{eqb-suc-zero}
use Rattle.std.specs.List.{list_all}
use Rattle.std.proofs.lemmas.List.{drop-drop}
use Rattle.run_values.specs.declared.items.Item.{Item}
use Rattle.run_values.specs.declared.items.Item.TheVariants.{Missing}
use Rattle.run_values.specs.Items.{is_separator, separator_length, item_length, number, item_of, next_item}

-- only separators are left where no other byte follows them
abbrev other_bytes : List ℕ → ℕ
other_bytes xs = item_length (drop (separator_length xs) xs)

none_by : (x : ℕ) (xs : List ℕ) (t : Bool) → is_separator x ≡ t
    → list_all is_separator xs ≡ eqb (other_bytes xs) 0
    → list_all is_separator (x ∷ xs) ≡ eqb (other_bytes (x ∷ xs)) 0
none_by x xs true e rest = rw (e, one-add) rest
none_by x xs false e rest = rw (e, e, one-add) (sym (eqb-suc-zero (item_length xs)))

none_left : (xs : List ℕ) → list_all is_separator xs ≡ eqb (other_bytes xs) 0
none_left [] = refl
none_left (x ∷ xs) = none_by x xs (is_separator x) refl (none_left xs)

-- The lengths that the code has: of the separators, and of the item after them.
pub record IsFound (input : List ℕ) (at n len : ℕ) : Type 0 where
  pub before : n ≡ separator_length (drop at input)
  pub item : len ≡ item_length (drop (at + n) input)

is_missing : (input : List ℕ) (at n len : ℕ) → IsFound input at n len
    → list_all is_separator (drop at input) ≡ eqb len 0
is_missing input at n len f =
    none_left (drop at input)
    ∙ ap (λ k. eqb (item_length (drop k (drop at input))) 0) (sym f.before)
    ∙ ap (λ rest. eqb (item_length rest) 0) (drop-drop n at input)
    ∙ ap (λ k. eqb k 0) (sym f.item)

pub next_missing : (input : List ℕ) (at n len : ℕ) → IsFound input at n len → len ≡ 0
    → Missing ≡ next_item input at
next_missing input at n len f none = rw (is_missing input at n len f, none) refl

pub next_number : (input : List ℕ) (at n len : ℕ) (found : Option ℤ) (item : Item)
    → IsFound input at n len → (len ≡ 0 → ⊥) → found ≡ number (take len (drop (at + n) input))
    → item ≡ item_of found (at + n + len) → item ≡ next_item input at
next_number input at n len found item f some is result =
    let test : eqb len 0 ≡ false = grind arith in
    rw (is_missing input at n len f, test, ← f.before, ← f.item, ← is) result
