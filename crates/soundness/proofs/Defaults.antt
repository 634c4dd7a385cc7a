-- An object without a value has no cell.
use Rattle.std.proofs.Common.{◌≡◌, refl, ap, ◌∙◌, inl, inr, ℕ, zero, suc, Bool, List, [], ◌∷◌, ◌++◌, flat_map, length, get_or, nat_eq, ℤ, pos, if◌then◌else◌}
use Rattle.std.specs.Prelude.{slice_get}
use Rattle.std.proofs.lemmas.Bool.{false≢true}
use Rattle.machine.specs.spark_base.Lists.{Has}
use Rattle.spark_base.proofs.Lists.{Has-append_cases}
use Rattle.machine.specs.type_definitions.declared.table.Component.{Component as Part}
use Rattle.machine.specs.type_definitions.declared.table.Shape.{Shape}
use Rattle.machine.specs.type_definitions.declared.table.Shape.TheVariants as shape
use Rattle.machine.specs.type_definitions.Types.{Table, shape_found, span}
use Rattle.machine.specs.type_definitions.Entries.{integer}
use Rattle.machine.specs.Words.{Word, Int, Enumerated, Null, Cell, repeated, default_of, default_within, default}
use Rattle.machine.specs.Memory.{fresh, no_slot}
use Rattle.soundness.specs.OwnedWays.Ways as ways
use Rattle.soundness.specs.PartOffsets.Parts.{is_leaf, offset_in}
use Rattle.soundness.specs.Seen.{Content, word_in, owner_word}
use Rattle.soundness.proofs.Contents.{bool_cases, word_yes, word_no, word_dead}
use Rattle.soundness.proofs.Constructors.{is_cell_word}

abbrev pub NoCell : List Word → Type 0
NoCell ws = (k : ℕ) → Has ws (Cell k) → ⊥

none_append : (xs ys : List Word) → NoCell xs → NoCell ys → NoCell (xs ++ ys)
none_append xs ys a b k h = elim (Has-append_cases xs ys (Cell k) h) [ inl x ↦ a k x | inr y ↦ b k y ]

pub none_repeated : (n : ℕ) (ws : List Word) → NoCell ws → NoCell (repeated n ws)
none_repeated zero ws a k h = absurd h
none_repeated (suc n) ws a k h = none_append ws (repeated n ws) a (none_repeated n ws a) k h

none_flat : (f : ℕ → List Word) → ((t : ℕ) → NoCell (f t)) → (cs : List Part) → NoCell (flat_map (λ (c : Part). f c.of) cs)
none_flat f each [] k h = absurd h
none_flat f each (c ∷ cs) k h = none_append (f c.of) (flat_map (λ (c : Part). f c.of) cs) (each c.of) (none_flat f each cs) k h

none_first : (t : ℕ) (v : ℤ) (b : Bool) (k : ℕ) → Int (if b then pos 0 else v) ≡ Cell k → ⊥
none_first t v b k e = absurd (false≢true (ap is_cell_word e))

none_in : (f : ℕ → List Word) → ((t : ℕ) → NoCell (f t)) → (t : ℕ) (s : Shape) → NoCell (default_of f t s)
none_in f each t (shape.Whole low high) k (inl e) = none_first t low (nat_eq t integer) k e
none_in f each t (shape.Whole low high) k (inr h) = absurd h
none_in f each t (shape.Listed l low high) k (inl e) = cc
none_in f each t (shape.Listed l low high) k (inr h) = absurd h
none_in f each t (shape.Access d c n) k (inl e) = cc
none_in f each t (shape.Access d c n) k (inr h) = absurd h
none_in f each t (shape.Fields cs) k h = none_flat f each cs k h
none_in f each t (shape.Elements low high e) k h = none_repeated (span low high) (f e) (each e) k h
none_in f each t (shape.Same of) k h = each of k h

none_within : (n : ℕ) (table : Table) (t : ℕ) → NoCell (default_within n table t)
unfolding default_within
none_within zero table t k h = absurd h
none_within (suc n) table t k h = none_in (default_within n table) (none_within n table) t (shape_found (slice_get table t)) k h

pub none_default : (table : Table) (t : ℕ) → NoCell (default table t)
unfolding default
none_default table t k h = none_within (length table) table t k h

-- words without a cell show nothing
no_owner : (ws : List Word) → NoCell ws → (o : ℕ) → owner_word (get_or (fresh ws) o no_slot) ≡ ways.Empty
no_owner [] none zero = refl
no_owner [] none (suc o) = refl
no_owner (Int v ∷ ws) none zero = refl
no_owner (Enumerated v ∷ ws) none zero = refl
no_owner (Null ∷ ws) none zero = refl
no_owner (Cell k ∷ ws) none zero = absurd (none k (inl refl))
no_owner (w ∷ ws) none (suc o) = no_owner ws (λ k h. none k (inr h)) o

pub blank_word : (table : Table) (c : Content) (ws : List Word) → c.slots ≡ fresh ws → NoCell ws → (p : List ways.Step) → word_in table c p ≡ ways.Empty
blank_word table c ws is none p = elim (bool_cases (is_leaf table c.of p)) [
  | inr isnt ↦ word_no table c p isnt
  | inl holds ↦ elim (bool_cases c.owns) [
    | inr dead ↦ word_dead table c p dead
    | inl own ↦ word_yes table c p own holds ∙ ap (λ z. owner_word (get_or z (offset_in table c.of p) no_slot)) is ∙ no_owner ws none (offset_in table c.of p)
  ]
]
