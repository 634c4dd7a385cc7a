use Rattle.std.proofs.Common.{◌<◌, ◌≤◌, ◌∙◌, sym, ap, ◌||◌, ◌&&◌, not, Bool, false, zip, length, take, take_all, arith}
use Rattle.std.specs.List.{list_all}
use Rattle.std.proofs.lemmas.List.Folds.{list_all_more}
use Rattle.std.proofs.lemmas.Slice.Zip.{length-zip, get_or-zip}
use Rattle.state_trees.proofs.Passes.{has_all-decides}
use Rattle.state_trees.proofs.marks.has_all.Goals as goal

-- a mark is in the first list, or not in the second
abbrev there : Bool × Bool → Bool
there p = p.0 || not p.1

pub marks-preserved : goal.marks-preserved
marks-preserved c =
    let mine = c.args.mine.now in
    let other = c.args.other.now in
    let i = c.marks.i in
    let within : i < length (zip mine other) = omega (arith, length-zip mine other, c.requires, c.marks-test.true) in
    c.both-all.ensures
    ∙ (λ t. c.marks.invariant t && c.is_there.ensures t)
    ∙ ap (λ (p : Bool × Bool). list_all there (take i (zip mine other)) && there p)
    (sym (get_or-zip mine other i (false, false) c.marks-test.true (omega (arith, c.requires, c.marks-test.true))))
    ∙ sym (list_all_more there (zip mine other) i (false, false) within)

pub returns : goal.returns
returns c =
    let mine = c.args.mine.now in
    let other = c.args.other.now in
    let decides = has_all-decides mine other c.requires in
    let all : length (zip mine other) ≤ c.marks.i = omega (arith, length-zip mine other, c.requires, c.marks-test.false) in
    let is = c.marks.invariant ∙ ap (list_all there) (take_all c.marks.i (zip mine other) all) in
    (λ yes. decides.0 (sym is ∙ yes), λ same. is ∙ decides.1 same)
