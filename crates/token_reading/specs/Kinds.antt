-- The number of each kind of token that can begin a form.
use Rattle.std.specs.Prelude.{ℕ}
use Rattle.token_reading.specs.declared.kind.Kind.{Kind}
use Rattle.token_reading.specs.declared.kind.Kind.TheVariants as kind
use Rattle.token_reading.specs.Reading.{of_word, of_symbol, of_ident, of_number, of_string}

abbrev pub of_kind : Kind → ℕ
of_kind (kind.Word word) = of_word word
of_kind (kind.Delimiter symbol) = of_symbol symbol
of_kind kind.Identifier = of_ident
of_kind kind.Number = of_number
of_kind kind.Str = of_string
