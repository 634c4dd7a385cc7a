use Rattle.std.proofs.Common.{◌≡◌, ◌++◌, List, ℤ, OnOk, sym, ◌∙◌, ap, subst, arith, drop, get_or, replicate, to_z, of_z, w64}
use Rattle.std.proofs.lemmas.Int.{to_z-of_z}
use Rattle.type_words.specs.Parts.{copies}
use Rattle.type_words.proofs.Copies.{one_copied}
use Rattle.type_words.proofs.repeats.repeat_words.Goals as goal

pub returns-then-len-first-eq1 : goal.returns-then-len-first-eq1
returns-then-len-first-eq1 c =
    let word = c.word_at-word.result in
    let at : word ≡ get_or c.args.words.now.items c.args.first word =
    subst (λ (l : List ℤ). word ≡ get_or l c.args.first word) c.deref.ensures.value c.word_at-word.ensures in
    let same : copies c.args.times (drop c.args.first c.args.words.now.items) ≡ replicate c.args.times (to_z w64 (of_z w64 word)) =
    one_copied c.args.words.now.items c.args.first c.args.times word (omega (arith, c.if-len-first-eq1.true, c.len.ensures)) at
    ∙ ap (λ x. replicate c.args.times x) (sym (to_z-of_z w64 word (record { sfits = c.word_at-word.type_inv }))) in
    subst (λ l. OnOk c.push_word.result (c.push_word.new.words.items ≡ c.args.words.now.items ++ l)) (sym same) c.push_word.ensures
