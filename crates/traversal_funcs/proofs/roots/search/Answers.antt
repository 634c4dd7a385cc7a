use Rattle.std.proofs.Common.{◌∙◌, ℕ, Bool, arith}
use Rattle.program_typing.specs.Typings.{typing}
use Rattle.traversal_funcs.specs.Questions.{is_answer}
use Rattle.traversal_funcs.specs.Searches.{starts_of}
use Rattle.traversal_funcs.proofs.Found.{search_starts, work_starts, search_turn, work_turn, turn_pays, search_ends, none_left}
use Rattle.traversal_funcs.proofs.roots.search.Goals as goal

pub turns-init : goal.turns-init
turns-init c =
    let first : ℕ → Bool = is_answer (typing c.args.known) c.args.question in
    let ls = c.args.lendings.now in (
      search_starts first ls c.new-found.result.keys c.new-work.result.items c.start.new.found.keys c.start.new.work.items
          c.new-found.ensures.empty c.new-work.ensures.items c.in_ok-start.ensures,
      work_starts (starts_of (typing c.args.known) c.args.question ls) c.new-found.result.keys c.new-work.result.items c.start.new.found.keys
          c.start.new.work.items c.new-work.ensures.items c.in_ok-start.ensures,
    )

pub turns-smaller : goal.turns-smaller
turns-smaller c =
    turn_pays c.args.lendings.now c.in-Some.x c.holders_at.result.now c.turns.work.items c.pop.new.self.items c.turns.found.keys c.spread.new.found.keys
    c.spread.new.work.items c.in-Some.ensures.items (c.holders_at.ensures ∙ c.requires c.in-Some.x) c.in_ok-spread.ensures

pub turns-preserved : goal.turns-preserved
turns-preserved c =
    let first : ℕ → Bool = is_answer (typing c.args.known) c.args.question in (
      search_turn first c.args.lendings.now c.in-Some.x c.holders_at.result.now c.turns.work.items c.pop.new.self.items c.turns.found.keys
          c.spread.new.found.keys c.spread.new.work.items c.in-Some.ensures.items (c.holders_at.ensures ∙ c.requires c.in-Some.x) c.turns.invariant.1
          c.turns.invariant.0 c.in_ok-spread.ensures,
      work_turn c.in-Some.x c.holders_at.result.now c.turns.work.items c.pop.new.self.items c.turns.found.keys
          c.spread.new.found.keys c.spread.new.work.items c.in-Some.ensures.items c.turns.invariant.1 c.in_ok-spread.ensures,
    )

pub returns : goal.returns
returns c =
    search_ends (is_answer (typing c.args.known) c.args.question) c.args.lendings.now c.turns.found.keys c.turns.work.items
    (none_left c.turns.work.items (omega (arith, c.turns.work.ok.0, c.in_default.ensures.cases.0))) c.turns.invariant.0
