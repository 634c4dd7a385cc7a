use Rattle.std.proofs.Common.{sym, subst, ◌∙◌}
use Rattle.code_rows.specs.Points.{program_of}
use Rattle.slot_leads.proofs.Started.{packages_started, main_started}
use Rattle.slot_parts.specs.Begins.{IsBegun}
use Rattle.slot_parts.proofs.Begun.{begun}
use Rattle.slot_parts.proofs.begins.begin.Goals as goal

pub returns-then-declares : goal.returns-then-declares
returns-then-declares g c =
    subst (λ b. IsBegun g.R.Store.Means c.args.table.now (program_of c.args.codes.now) c.args.store.ghost_name c.args.input.now b c.in-Ok.parts) (sym c.if-declares.true)
    (begun g.R.Store.Means c.args.table.now (program_of c.args.codes.now) c.args.store.ghost_name c.args.input.now _ c.in-Ok.parts
    (packages_started g.R.Store.Means c.args.table.now (program_of c.args.codes.now) c.args.store.now c.args.store.ghost_name c.args.input.now c.in-Ok.parts.memory c.in-Ok.parts.frames c.in-Ok.parts.words
    c.requires.store c.in-Ok.ensures.packages) c.in-Ok.ensures.silent)

pub returns-in-Ok-push_main : goal.returns-in-Ok-push_main
returns-in-Ok-push_main g c =
    subst (λ b. IsBegun g.R.Store.Means c.args.table.now (program_of c.args.codes.now) c.args.store.ghost_name c.args.input.now b c.push_main.new.parts) (sym c.if-declares.false)
    (begun g.R.Store.Means c.args.table.now (program_of c.args.codes.now) c.args.store.ghost_name c.args.input.now _ c.push_main.new.parts
    (main_started g.R.Store.Means c.args.table.now (program_of c.args.codes.now) c.args.store.now c.args.store.ghost_name c.args.input.now c.in-Ok.parts.memory c.in-Ok.parts.frames c.in-Ok.parts.words
    c.requires.store c.in-Ok.ensures.packages c.push_main.new.parts.memory c.push_main.new.parts.frames c.push_main.new.parts.words c.in-Ok-push_main.ensures.main c.in-Ok-push_main.ensures.words)
    (record { output = c.push_main.ensures.output ∙ c.in-Ok.ensures.silent.output; leaks = c.push_main.ensures.leaks ∙ c.in-Ok.ensures.silent.leaks }))
