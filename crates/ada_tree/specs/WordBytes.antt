-- The bytes of a word, wherever they lie. No public clause cites this module.
use Rattle.std.specs.Prelude.{ℕ, List}
use Rattle.ada_tree.specs.declared.word.Bytes.{Bytes}
use Rattle.ada_tree.specs.declared.word.Bytes.TheVariants.{Short, Long}

abbrev pub bytes_view : Bytes → List ℕ
bytes_view (Short bytes) = bytes
bytes_view (Long bytes) = bytes.items
