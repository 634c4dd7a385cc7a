use Rattle.std.proofs.Common.{◌≡◌, [], ◌∷◌, ◌++◌, Some, sym, ap, ◌∙◌}
use Rattle.run_codes.specs.Codes.{Bytes}
use Rattle.code_rows.specs.declared.point.Text.TheVariants as text
use Rattle.code_rows.specs.Points.{text_of}
use Rattle.program_lowering.specs.Arounds.{texts_in}
use Rattle.program_lowering.proofs.Rows.{texts_same}
use Rattle.program_lowering.proofs.texts.literal.Goals as goal

pub returns-clause-texts : goal.returns-clause-texts
returns-clause-texts c =
    let kept : texts_in c.push_bytes.new.self ≡ texts_in c.args.rows.now =
    texts_same c.args.rows.now c.push_bytes.new.self c.in_ok-bytes.ensures.grew c.requires c.in_ok-bytes.ensures.texts in
    ap (λ xs. Some xs) (sym (c.in_ok-push_text.ensures.text
    ∙ (ap (λ xs. xs ++ text_of c.push_bytes.new.self (text.Bytes c.in_ok-bytes.bytes) ∷ []) kept
    ∙ ap (λ b. texts_in c.args.rows.now ++ Bytes b ∷ []) c.in_ok-bytes.ensures.bytes.1)))
