use Rattle.std.proofs.Common.{◌≡◌, ◌<◌, ◌+◌, ◌∙◌, refl, sym, ap, ℕ, Bool, false, not, List, length, get_or, unwrap_or, Option, arith, rules}
use Rattle.place_names.specs.declared.fact.Fact.{Fact}
use Rattle.place_names.specs.Facts.{holds_behind}
use Rattle.state_trees.proofs.Left.{twice}
use Rattle.state_trees.proofs.Numbered.{next, next_last}
use Rattle.state_trees.proofs.Passes.{passed, passed_next, passed_stays, passed_may, passed_lacks}
use Rattle.state_trees.proofs.Touched.{touched_first, touched_here, touched_later, touched_within, may_over, lacks_over}
use Rattle.state_trees.proofs.marks.pass.Goals as goal
use Rattle.state_trees.proofs.marks.pass.Goals.{in-Some, in_default}

pub numbers-init : goal.numbers-init
numbers-init c =
    let act = c.args.act.now in
    let facts = c.args.facts.now in
    let may = c.args.may.now.items in
    let lacks = c.args.lacks.now.items in
    record {
      may = touched_first act facts c.args.numbers.now (λ n. may ≡ passed (λ f m. holds_behind act f m) n facts may)
          c.requires.touched (may_over act facts may may) refl;
      lacks = touched_first act facts c.args.numbers.now (λ n. lacks ≡ passed (λ f l. not (holds_behind act f (not l))) n facts lacks)
          c.requires.touched (lacks_over act facts lacks lacks) refl;
    }

pub bounds-facts-i : goal.bounds-facts-i
bounds-facts-i c =
    touched_within c.args.act.now c.args.facts.now c.args.numbers.now c.numbers.k c.at-i.result c.requires.touched c.at-i.ensures
    (omega (arith, c.numbers-test.true, c.len-k-end.ensures))

pub index_mut-requires : goal.index_mut-requires
index_mut-requires c =
    let there : c.at-i.result < length c.args.facts.now =
    touched_within c.args.act.now c.args.facts.now c.args.numbers.now c.numbers.k c.at-i.result c.requires.touched c.at-i.ensures
    (omega (arith, c.numbers-test.true, c.len-k-end.ensures)) in
    search (rules, c.requires.may)

pub index_mut-requires-in-Some : goal.index_mut-requires-in-Some
index_mut-requires-in-Some c =
    let there : c.at-i.result < length c.args.facts.now =
    touched_within c.args.act.now c.args.facts.now c.args.numbers.now c.numbers.k c.at-i.result c.requires.touched c.at-i.ensures
    (omega (arith, c.numbers-test.true, c.len-k-end.ensures)) in
    search (rules, c.requires.lacks)

pub numbers-preserved : goal.numbers-preserved
numbers-preserved c =
    let act = c.args.act.now in
    let facts : List Fact = c.args.facts.now in
    let numbers : List ℕ = c.args.numbers.now in
    let k : ℕ = c.numbers.k in
    let i : ℕ = c.at-i.result in
    let among : k < length numbers = omega (arith, c.numbers-test.true, c.len-k-end.ensures) in
    let there : i < length facts = touched_within act facts numbers k i c.requires.touched c.at-i.ensures among in
    let fact : Fact = c.index-facts-i.result in
    let may0 : List Bool = c.args.may.now.items in
    let lacks0 : List Bool = c.args.lacks.now.items in
    let may : List Bool = c.numbers.may.items in
    let lacks : List Bool = c.numbers.lacks.items in
    let new_may : List Bool = c.match-settled.may.items in
    let new_lacks : List Bool = c.match-settled.lacks.items in
    let may_so : may ≡ passed (λ f m. holds_behind act f m) i facts may0 =
    touched_here facts numbers (λ n. may ≡ passed (λ f m. holds_behind act f m) n facts may0) k i c.at-i.ensures among c.numbers.invariant.may in
    let lacks_so : lacks ≡ passed (λ f l. not (holds_behind act f (not l))) i facts lacks0 =
    touched_here facts numbers (λ n. lacks ≡ passed (λ f l. not (holds_behind act f (not l))) n facts lacks0) k i c.at-i.ensures among c.numbers.invariant.lacks in
    let settles : (held : Bool) → holds_behind act fact held ≡ unwrap_or c.settled.result held = c.settled.ensures in
    let passes : record {
      may : new_may ≡ passed (λ f m. holds_behind act f m) (i + 1) facts may0;
      lacks : new_lacks ≡ passed (λ f l. not (holds_behind act f (not l))) (i + 1) facts lacks0;
    } =
    elim c.match-settled.branch [
      | in-Some w ↦ (
          let holds : (held : Bool) → w.in-Some.holds ≡ holds_behind act fact held =
          λ held. sym (settles held ∙ ap (λ (r : Option Bool). unwrap_or r held) w.in-Some.is) in
          record {
            may = (λ t. (w.may-is t).items)
                ∙ passed_next (λ f m. holds_behind act f m) i facts may0 may may_so there
                (omega (arith, c.args.may.now.ok.0, c.requires.may, there))
                fact fact (get_or may i false) false w.in-Some.holds c.index-facts-i.is refl (holds (get_or may i false));
            lacks = (λ t. (w.lacks-is t).items)
                ∙ passed_next (λ f l. not (holds_behind act f (not l))) i facts lacks0 lacks lacks_so there
                (omega (arith, c.args.lacks.now.ok.0, c.requires.lacks, there))
                fact fact (get_or lacks i false) false (not w.in-Some.holds) c.index-facts-i.is refl (ap not (holds (not (get_or lacks i false))));
          })
      | in_default w ↦ (
          let stays : (held : Bool) → holds_behind act fact held ≡ held =
          λ held. settles held ∙ ap (λ (r : Option Bool). unwrap_or r held) w.in_default.is in
          record {
            may = (λ t. (w.may-is t).items)
                ∙ passed_stays (λ f m. holds_behind act f m) i facts may0 may may_so there
                fact fact c.index-facts-i.is stays;
            lacks = (λ t. (w.lacks-is t).items)
                ∙ passed_stays (λ f l. not (holds_behind act f (not l))) i facts lacks0 lacks lacks_so there
                fact fact c.index-facts-i.is (λ l. ap not (stays (not l)) ∙ twice l);
          })
    ] in
    record {
      may = touched_later act facts numbers (λ n. new_may ≡ passed (λ f m. holds_behind act f m) n facts may0) k i
          c.requires.touched (may_over act facts may0 new_may) c.at-i.ensures among passes.may;
      lacks = touched_later act facts numbers (λ n. new_lacks ≡ passed (λ f l. not (holds_behind act f (not l))) n facts lacks0) k i
          c.requires.touched (lacks_over act facts lacks0 new_lacks) c.at-i.ensures among passes.lacks;
    }

pub returns-clause-may : goal.returns-clause-may
returns-clause-may c =
    let facts = c.args.facts.now in
    let last = next_last facts c.args.numbers.now c.numbers.k (omega (arith, c.numbers-test.false, c.len-k-end.ensures)) in
    c.numbers.invariant.may
    ∙ passed_may c.args.act.now (next facts c.args.numbers.now c.numbers.k) facts c.args.may.now.items
    (omega (arith, c.args.may.now.ok.0, c.requires.may)) (omega (arith, last))

pub returns-clause-lacks : goal.returns-clause-lacks
returns-clause-lacks c =
    let facts = c.args.facts.now in
    let last = next_last facts c.args.numbers.now c.numbers.k (omega (arith, c.numbers-test.false, c.len-k-end.ensures)) in
    c.numbers.invariant.lacks
    ∙ passed_lacks c.args.act.now (next facts c.args.numbers.now c.numbers.k) facts c.args.lacks.now.items
    (omega (arith, c.args.lacks.now.ok.0, c.requires.lacks)) (omega (arith, last))
