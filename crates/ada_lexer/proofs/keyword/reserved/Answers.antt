use Rattle.std.proofs.Common.{refl, length, [], None, arith}
use Rattle.ada_lexer.specs.ReservedWords.{reserved_words}
use Rattle.ada_lexer.proofs.WordTables.{table_serves, none_of_length}
use Rattle.ada_lexer.proofs.keyword.reserved.Goals as goal

pub returns-in-2 : goal.returns-in-2
unfolding reserved_words
returns-in-2 c = table_serves 2 _ _ _ refl c.in-2.is c.entry_of.ensures

pub returns-in-3 : goal.returns-in-3
unfolding reserved_words
returns-in-3 c = table_serves 3 _ _ _ refl c.in-3.is c.entry_of-in-3.ensures

pub returns-in-4 : goal.returns-in-4
unfolding reserved_words
returns-in-4 c = table_serves 4 _ _ _ refl c.in-4.is c.entry_of-in-4.ensures

pub returns-in-5 : goal.returns-in-5
unfolding reserved_words
returns-in-5 c = table_serves 5 _ _ _ refl c.in-5.is c.entry_of-in-5.ensures

pub returns-in-6 : goal.returns-in-6
unfolding reserved_words
returns-in-6 c = table_serves 6 _ _ _ refl c.in-6.is c.entry_of-in-6.ensures

pub returns-in-7 : goal.returns-in-7
unfolding reserved_words
returns-in-7 c = table_serves 7 _ _ _ refl c.in-7.is c.entry_of-in-7.ensures

pub returns-in-8 : goal.returns-in-8
unfolding reserved_words
returns-in-8 c = table_serves 8 _ _ _ refl c.in-8.is c.entry_of-in-8.ensures

pub returns-in-9 : goal.returns-in-9
unfolding reserved_words
returns-in-9 c = table_serves 9 _ _ _ refl c.in-9.is c.entry_of-in-9.ensures

pub returns-in-10 : goal.returns-in-10
unfolding reserved_words
returns-in-10 c = table_serves 10 _ _ _ refl c.in-10.is c.entry_of-in-10.ensures

pub returns-in-12 : goal.returns-in-12
unfolding reserved_words
returns-in-12 c = table_serves 12 _ _ _ refl c.in-12.is c.entry_of-in-12.ensures

pub returns-in_default : goal.returns-in_default
returns-in_default c =
    let none = none_of_length (length c.args.word.now) (omega arith) (omega arith) (omega arith) (omega arith) (omega arith)
    (omega arith) (omega arith) (omega arith) (omega arith) (omega arith) in
    table_serves (length c.args.word.now) [] c.args.word.now None none refl refl
