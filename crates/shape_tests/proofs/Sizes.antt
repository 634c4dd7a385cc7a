-- Each of the three types has one word.
use Rattle.std.proofs.Common.{refl, zero, suc, [], ◌∷◌}
use Rattle.type_definitions.specs.Types.{words, words_within, parts, parts_within, is_owning, owns_within}
use Rattle.type_table.specs.Sizes.{AreSizes}
use Rattle.shape_tests.specs.Tables.{one_word, three_types}

pub sizes_are : AreSizes three_types (one_word ∷ one_word ∷ one_word ∷ [])
unfolding words words_within parts parts_within is_owning owns_within
sizes_are zero = refl
sizes_are (suc zero) = refl
sizes_are (suc (suc zero)) = refl
sizes_are (suc (suc (suc n))) = refl
