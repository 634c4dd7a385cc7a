-- What has no object of its number has the type Integer.
use Rattle.std.proofs.Common.{◌≡◌, ◌<◌, ◌⊎◌, inl, inr, ℕ, zero, suc, List, [], ◌∷◌, length, get_or, false, refl, ap, ◌∙◌, arith}
use Rattle.std.specs.List.{list_any}
use Rattle.type_definitions.specs.Types.{parts}
use Rattle.type_definitions.specs.Entries.{integer}
use Rattle.typed_tree.specs.declared.object.Object.{Object}
use Rattle.typed_tree.specs.Programs.{text_io}
use Rattle.flow_paths.specs.Objects.{Typing, object_at}
use Rattle.deep_names.specs.Found.{is_past}
use Rattle.deep_names.specs.Shallow.{IsShallow}

split : (xs : List Object) (x : ℕ) (d : Object) → (x < length xs) ⊎ (get_or xs x d ≡ d)
split [] x d = inr refl
split (y ∷ xs) zero d = inl (omega arith)
split (y ∷ xs) (suc x) d = elim (split xs x d) [ inl l ↦ inl (omega (arith, l)) | inr e ↦ inr e ]

pub all_shallow : (s : Typing) → list_any (is_past 0) (parts s.table integer) ≡ false
    → ((x : ℕ) → x < length s.objects → list_any (is_past 0) (parts s.table (object_at s x).of) ≡ false) → IsShallow s
all_shallow s none each x = elim (split s.objects x text_io) [
  | inl l ↦ each x l
  | inr e ↦ ap (λ (o : Object). list_any (is_past 0) (parts s.table o.of)) e ∙ none
]
