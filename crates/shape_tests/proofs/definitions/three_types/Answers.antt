use Rattle.std.proofs.Common.{◌≡◌, List, [], ◌∷◌, sym, ap, ◌∙◌, get_or, rules}
use Rattle.type_definitions.specs.Types.{Table}
use Rattle.type_table.specs.declared.table.TypeSize.{TypeSize}
use Rattle.type_table.specs.Sizes.{no_size, size_of}
use Rattle.shape_tests.specs.Tables.{one_word, three_types}
use Rattle.shape_tests.proofs.Sizes.{sizes_are}
use Rattle.shape_tests.proofs.definitions.three_types.Goals as goal

pub new-requires : goal.new-requires
new-requires c =
    let sizes : c.in_ok-sizes.sizes.items ≡ one_word ∷ one_word ∷ one_word ∷ [] = search rules in
    let infos : c.from_vec.result ≡ three_types = search rules in
    λ t. ap (λ (s : List TypeSize). get_or s t no_size) sizes ∙ sizes_are t ∙ ap (λ (table : Table). size_of table t) (sym infos)
