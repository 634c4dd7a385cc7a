-- How a search finds a file.
use Rattle.std.proofs.Common.{◌≡◌, ◌<◌, ℕ, suc, true, List, ◌∷◌, Some, length, get_or, drop, refl, sym, ap, ◌∙◌, string_bytes}
use Rattle.std.specs.List.{slice_get}
use Rattle.std.specs.Str.{bytes_eq}
use Rattle.std.proofs.Math.Seq.{drop-cons}
use Rattle.std.proofs.lemmas.Option.{slice_get_read}
use Rattle.spark_base.specs.Outside.{file_bytes}
use Rattle.spark_base.specs.NamedFiles.{NamedFile, file_pairs}

-- the file at the front has the name
first_has : (file : NamedFile) (files : List NamedFile) (name : List ℕ) → bytes_eq (string_bytes file.0) name ≡ true
    → file_bytes (file_pairs (file ∷ files)) name ≡ Some file.1.items
first_has file files name same = rw same

-- no file before has the name, and the one here does
pub found_there : (files : List NamedFile) (name : List ℕ) (i : ℕ) (file : NamedFile) → i < length files → file ≡ get_or files i file
    → bytes_eq (string_bytes file.0) name ≡ true → file_bytes (file_pairs files) name ≡ file_bytes (file_pairs (drop i files)) name
    → (x : NamedFile) × (slice_get files i ≡ Some x) × (file_bytes (file_pairs files) name ≡ Some x.1.items)
found_there files name i file within is same before =
    let front : drop i files ≡ file ∷ drop (suc i) files = drop-cons files i file within ∙ ap (λ f. f ∷ drop (suc i) files) (sym is) in
    let here : file_bytes (file_pairs (drop i files)) name ≡ Some file.1.items =
    ap (λ fs. file_bytes (file_pairs fs) name) front ∙ first_has file (drop (suc i) files) name same in
    (file, slice_get_read files (length files) i file refl within is, before ∙ here)
