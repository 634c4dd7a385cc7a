-- Files with their names, as a program holds them.
use Rattle.std.specs.Prelude.{◌≡◌, ℕ, List, map, Option, None, Some, MatchOption, Vec, String, string_bytes, slice_get}
use Rattle.std.specs.declared.alloc.Global.{Global}
use Rattle.spark_base.specs.Outside.{file_bytes}

abbrev pub NamedFile : Type 0
NamedFile = String Global × Vec ℕ Global

-- The name and the bytes of each file.
abbrev pub file_pairs : List NamedFile → List (List ℕ × List ℕ)
file_pairs files = map (λ file. (string_bytes file.0, file.1.items)) files

-- An index finds the first file with a name; none is found where there is none.
abbrev pub index_finds : List NamedFile → List ℕ → Option ℕ → Type 0
index_finds files name found =
    MatchOption found (file_bytes (file_pairs files) name ≡ None)
    (λ index. (file : NamedFile) × (slice_get files index ≡ Some file) × (file_bytes (file_pairs files) name ≡ Some file.1.items))
