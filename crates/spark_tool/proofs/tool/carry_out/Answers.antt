use Rattle.std.proofs.Common.{◌≡◌, refl, subst, map, string_bytes, true, List, [], ℕ, Option, None, IfSome}
use Rattle.std.proofs.KnownBytes.{Keeps-refl}
use Rattle.laid_program.specs.Programs.{program_of}
use Rattle.answered_runs.specs.run_command.Answers.{Answer, Tells, TellsFront}
use Rattle.answered_runs.specs.self_test.Summaries.{test_line}
use Rattle.spark_tool.specs.declared.stop.Stop.TheVariants.{Write, Memory}
use Rattle.answered_runs.specs.run_command.Runs.{run_answer}
use Rattle.answered_runs.specs.run_command.Stores.{Running, IsLeftBy, run_made}
use Rattle.slot_heap.specs.Heaps.{Heap, no_heap}
use Rattle.spark_base.specs.declared.limits.TheConstants.{STEPS}
use Rattle.spark_tool.specs.declared.finding.Outcome.{Outcome}
use Rattle.spark_tool.specs.declared.finding.Outcome.TheVariants as outcome
use Rattle.spark_tool.specs.Answers.{answer_of, names_of}
use Rattle.answered_runs.specs.tool_answers.Commands.{command_of, runs}
use Rattle.answered_runs.specs.tool_answers.Product.{fixed_answer, tested}
use Rattle.spark_tool.specs.Refusals.{IsFor, IsMade, IsReady}
use Rattle.spark_tool.proofs.Complete.{answer_delivers_front, run_delivers_front, no_more, nothing_more, fixed_tells_front}
use Rattle.spark_tool.proofs.Outcomes.{gives_this, ok_delivers, ok_fixed, ok_unrun, at_stop, run_ok_delivers, no_fixed, ok_no_fixed, run_reads, makes_this, ok_leaves, input_known, any_known, ok_any_known}
use Rattle.spark_tool.proofs.Uses.{run_uses, not_run, not_used}
use Rattle.spark_tool.proofs.tool.carry_out.Goals as goal

pub returns-in_err-answer-clause-memory : goal.returns-in_err-answer-clause-memory
returns-in_err-answer-clause-memory g c stopped =
    let words : List (List ℕ) = map string_bytes c.args.words.now in
    nothing_more (g.F.FileStore.stored c.args.files.now) (runs (command_of words)) (g.S.Source.left c.args.input.now) words
    (g.K.Sink.written c.args.out.now) (g.K.Sink.written c.args.out.now) (g.K.Sink.written c.args.err.now) (g.K.Sink.written c.args.err.now)
    (Keeps-refl (g.K.Sink.written c.args.out.now)) (Keeps-refl (g.K.Sink.written c.args.err.now))

pub returns-in-Answers-clause-answered : goal.returns-in-Answers-clause-answered
returns-in-Answers-clause-answered g c =
    let words : List (List ℕ) = map string_bytes c.args.words.now in
    ok_delivers c.write_answer.result (g.F.FileStore.stored c.args.files.now) (runs (command_of words)) (g.S.Source.left c.args.input.now) words
    (answer_of c.in-Answers.answer) (g.K.Sink.written c.args.out.now) (g.K.Sink.written c.write_answer.new.out)
    (g.K.Sink.written c.args.err.now) (g.K.Sink.written c.write_answer.new.err)
    (gives_this (g.F.FileStore.stored c.args.files.now) (command_of words) c.in_ok-answer.field-0 (outcome.Answers c.in-Answers.answer) c.in-Answers.is
    c.in_ok-answer.ensures.gives) c.write_answer.ensures.told

pub returns-in-Answers-clause-fixed : goal.returns-in-Answers-clause-fixed
returns-in-Answers-clause-fixed g c =
    let fixed : Option Answer = fixed_answer (command_of (map string_bytes c.args.words.now)) in
    ok_fixed c.write_answer.result fixed (answer_of c.in-Answers.answer) (g.K.Sink.written c.args.out.now) (g.K.Sink.written c.write_answer.new.out)
    (g.K.Sink.written c.args.err.now) (g.K.Sink.written c.write_answer.new.err)
    (subst (λ (o : Outcome). IfSome fixed (λ told. IsMade told o)) c.in-Answers.is c.in_ok-answer.ensures.fixed) c.write_answer.ensures.told

pub returns-in-Answers-clause-all_read : goal.returns-in-Answers-clause-all_read
returns-in-Answers-clause-all_read g c run =
    let ready : IsReady (outcome.Answers c.in-Answers.answer) = subst IsReady c.in-Answers.is c.in_ok-answer.ensures.ready in
    let only : IsFor (command_of (map string_bytes c.args.words.now)) (outcome.Answers c.in-Answers.answer) =
    subst (IsFor (command_of (map string_bytes c.args.words.now))) c.in-Answers.is c.in_ok-answer.ensures.only in
    ok_unrun c.write_answer.result c.in-Answers.answer.status _ c.write_answer.ensures.status ready.0 (only.1 run)

pub returns-in-Answers-clause-front : goal.returns-in-Answers-clause-front
returns-in-Answers-clause-front g c stopped =
    let words : List (List ℕ) = map string_bytes c.args.words.now in
    answer_delivers_front (g.F.FileStore.stored c.args.files.now) (runs (command_of words)) (g.S.Source.left c.args.input.now) words
    (answer_of c.in-Answers.answer) (g.K.Sink.written c.args.out.now) (g.K.Sink.written c.write_answer.new.out)
    (g.K.Sink.written c.args.err.now) (g.K.Sink.written c.write_answer.new.err)
    (gives_this (g.F.FileStore.stored c.args.files.now) (command_of words) c.in_ok-answer.field-0 (outcome.Answers c.in-Answers.answer) c.in-Answers.is
    c.in_ok-answer.ensures.gives)
    (at_stop c.write_answer.result Write _ stopped c.write_answer.ensures.front)

pub returns-in-Answers-clause-memory : goal.returns-in-Answers-clause-memory
returns-in-Answers-clause-memory g c stopped =
    let words : List (List ℕ) = map string_bytes c.args.words.now in
    no_more (g.F.FileStore.stored c.args.files.now) (runs (command_of words)) (g.S.Source.left c.args.input.now) words
    (g.K.Sink.written c.args.out.now) (g.K.Sink.written c.write_answer.new.out)
    (g.K.Sink.written c.args.err.now) (g.K.Sink.written c.write_answer.new.err)
    (answer_delivers_front (g.F.FileStore.stored c.args.files.now) (runs (command_of words)) (g.S.Source.left c.args.input.now) words
    (answer_of c.in-Answers.answer) (g.K.Sink.written c.args.out.now) (g.K.Sink.written c.write_answer.new.out)
    (g.K.Sink.written c.args.err.now) (g.K.Sink.written c.write_answer.new.err)
    (gives_this (g.F.FileStore.stored c.args.files.now) (command_of words) c.in_ok-answer.field-0 (outcome.Answers c.in-Answers.answer) c.in-Answers.is
    c.in_ok-answer.ensures.gives)
    (at_stop c.write_answer.result Memory _ stopped c.write_answer.ensures.front))

pub returns-in-Answers-clause-fixed_front : goal.returns-in-Answers-clause-fixed_front
returns-in-Answers-clause-fixed_front g c stopped =
    let fixed : Option Answer = fixed_answer (command_of (map string_bytes c.args.words.now)) in
    fixed_tells_front fixed (answer_of c.in-Answers.answer) (g.K.Sink.written c.args.out.now) (g.K.Sink.written c.write_answer.new.out)
    (g.K.Sink.written c.args.err.now) (g.K.Sink.written c.write_answer.new.err)
    (subst (λ (o : Outcome). IfSome fixed (λ told. IsMade told o)) c.in-Answers.is c.in_ok-answer.ensures.fixed)
    (at_stop c.write_answer.result Write _ stopped c.write_answer.ensures.front)

pub returns-in-Tests-clause-answered : goal.returns-in-Tests-clause-answered
returns-in-Tests-clause-answered g c =
    let words : List (List ℕ) = map string_bytes c.args.words.now in
    ok_delivers c.test.result (g.F.FileStore.stored c.args.files.now) (runs (command_of words)) (g.S.Source.left c.args.input.now) words
    (tested (test_line c.in-Tests.number (program_of c.in-Tests.program.laid))) (g.K.Sink.written c.args.out.now) (g.K.Sink.written c.test.new.out)
    (g.K.Sink.written c.args.err.now) (g.K.Sink.written c.test.new.err)
    (gives_this (g.F.FileStore.stored c.args.files.now) (command_of words) c.in_ok-answer.field-0 (outcome.Tests c.in-Tests.program c.in-Tests.number) c.in-Tests.is
    c.in_ok-answer.ensures.gives) c.test.ensures.told

pub returns-in-Tests-clause-fixed : goal.returns-in-Tests-clause-fixed
returns-in-Tests-clause-fixed g c =
    let fixed : Option Answer = fixed_answer (command_of (map string_bytes c.args.words.now)) in
    ok_no_fixed c.test.result fixed
    (λ status told. Tells told (g.K.Sink.written c.args.out.now) (g.K.Sink.written c.test.new.out) (g.K.Sink.written c.args.err.now) (g.K.Sink.written c.test.new.err) status)
    (subst (λ (o : Outcome). IfSome fixed (λ told. IsMade told o)) c.in-Tests.is c.in_ok-answer.ensures.fixed)

pub returns-in-Tests-clause-all_read : goal.returns-in-Tests-clause-all_read
returns-in-Tests-clause-all_read g c run =
    absurd (not_run (command_of (map string_bytes c.args.words.now)) run
    (subst (IsFor (command_of (map string_bytes c.args.words.now))) c.in-Tests.is c.in_ok-answer.ensures.only).0)

pub returns-in-Tests-clause-front : goal.returns-in-Tests-clause-front
returns-in-Tests-clause-front g c stopped =
    let words : List (List ℕ) = map string_bytes c.args.words.now in
    answer_delivers_front (g.F.FileStore.stored c.args.files.now) (runs (command_of words)) (g.S.Source.left c.args.input.now) words
    (tested (test_line c.in-Tests.number (program_of c.in-Tests.program.laid))) (g.K.Sink.written c.args.out.now) (g.K.Sink.written c.test.new.out)
    (g.K.Sink.written c.args.err.now) (g.K.Sink.written c.test.new.err)
    (gives_this (g.F.FileStore.stored c.args.files.now) (command_of words) c.in_ok-answer.field-0 (outcome.Tests c.in-Tests.program c.in-Tests.number) c.in-Tests.is
    c.in_ok-answer.ensures.gives)
    (at_stop c.test.result Write _ stopped c.test.ensures.front)

pub returns-in-Tests-clause-memory : goal.returns-in-Tests-clause-memory
returns-in-Tests-clause-memory g c stopped =
    let words : List (List ℕ) = map string_bytes c.args.words.now in
    nothing_more (g.F.FileStore.stored c.args.files.now) (runs (command_of words)) (g.S.Source.left c.args.input.now) words
    (g.K.Sink.written c.args.out.now) (g.K.Sink.written c.test.new.out) (g.K.Sink.written c.args.err.now) (g.K.Sink.written c.test.new.err)
    (c.test.ensures.memory stopped).0 (c.test.ensures.memory stopped).1

pub returns-in-Tests-clause-fixed_front : goal.returns-in-Tests-clause-fixed_front
returns-in-Tests-clause-fixed_front g c stopped =
    let fixed : Option Answer = fixed_answer (command_of (map string_bytes c.args.words.now)) in
    no_fixed fixed
    (λ told. TellsFront told (g.K.Sink.written c.args.out.now) (g.K.Sink.written c.test.new.out) (g.K.Sink.written c.args.err.now) (g.K.Sink.written c.test.new.err))
    (subst (λ (o : Outcome). IfSome fixed (λ told. IsMade told o)) c.in-Tests.is c.in_ok-answer.ensures.fixed)

pub returns-in-Tests-clause-idle_store : goal.returns-in-Tests-clause-idle_store
returns-in-Tests-clause-idle_store g c idle =
    absurd (not_used (command_of (map string_bytes c.args.words.now))
    (subst (IsFor (command_of (map string_bytes c.args.words.now))) c.in-Tests.is c.in_ok-answer.ensures.only).1 idle)

pub returns-in-Runs-clause-idle_store : goal.returns-in-Runs-clause-idle_store
returns-in-Runs-clause-idle_store g c idle =
    absurd (not_used (command_of (map string_bytes c.args.words.now))
    (run_uses (command_of (map string_bytes c.args.words.now))
    (subst (IsFor (command_of (map string_bytes c.args.words.now))) c.in-Runs.is c.in_ok-answer.ensures.only)) idle)

pub returns-in-Runs-clause-front : goal.returns-in-Runs-clause-front
returns-in-Runs-clause-front g c stopped =
    let words : List (List ℕ) = map string_bytes c.args.words.now in
    run_delivers_front (g.F.FileStore.stored c.args.files.now) (runs (command_of words)) (g.S.Source.left c.args.input.now) words
    (λ input. run_answer (names_of c.in-Runs.program) (program_of c.in-Runs.program.laid) input c.in-Runs.steps c.in-Runs.stats)
    (g.K.Sink.written c.args.out.now) (g.K.Sink.written c.start.new.out) (g.K.Sink.written c.args.err.now) (g.K.Sink.written c.start.new.err)
    (subst (IsFor (command_of words)) c.in-Runs.is c.in_ok-answer.ensures.only)
    (gives_this (g.F.FileStore.stored c.args.files.now) (command_of words) c.in_ok-answer.field-0 (outcome.Runs c.in-Runs.program c.in-Runs.steps c.in-Runs.stats) c.in-Runs.is
    c.in_ok-answer.ensures.gives)
    (at_stop c.start.result Write _ stopped c.start.ensures.front)

pub returns-in-Runs-clause-memory : goal.returns-in-Runs-clause-memory
returns-in-Runs-clause-memory g c stopped =
    let words : List (List ℕ) = map string_bytes c.args.words.now in
    no_more (g.F.FileStore.stored c.args.files.now) (runs (command_of words)) (g.S.Source.left c.args.input.now) words
    (g.K.Sink.written c.args.out.now) (g.K.Sink.written c.start.new.out) (g.K.Sink.written c.args.err.now) (g.K.Sink.written c.start.new.err)
    (run_delivers_front (g.F.FileStore.stored c.args.files.now) (runs (command_of words)) (g.S.Source.left c.args.input.now) words
    (λ input. run_answer (names_of c.in-Runs.program) (program_of c.in-Runs.program.laid) input c.in-Runs.steps c.in-Runs.stats)
    (g.K.Sink.written c.args.out.now) (g.K.Sink.written c.start.new.out) (g.K.Sink.written c.args.err.now) (g.K.Sink.written c.start.new.err)
    (subst (IsFor (command_of words)) c.in-Runs.is c.in_ok-answer.ensures.only)
    (gives_this (g.F.FileStore.stored c.args.files.now) (command_of words) c.in_ok-answer.field-0 (outcome.Runs c.in-Runs.program c.in-Runs.steps c.in-Runs.stats) c.in-Runs.is
    c.in_ok-answer.ensures.gives)
    (at_stop c.start.result Memory _ stopped c.start.ensures.front))

pub returns-in-Runs-clause-answered : goal.returns-in-Runs-clause-answered
returns-in-Runs-clause-answered g c =
    let words : List (List ℕ) = map string_bytes c.args.words.now in
    let run : runs (command_of words) ≡ true = subst (IsFor (command_of words)) c.in-Runs.is c.in_ok-answer.ensures.only in
    run_ok_delivers c.start.result (g.F.FileStore.stored c.args.files.now) (runs (command_of words)) (g.S.Source.left c.args.input.now) words
    (λ input. run_answer (names_of c.in-Runs.program) (program_of c.in-Runs.program.laid) input c.in-Runs.steps c.in-Runs.stats)
    (g.K.Sink.written c.args.out.now) (g.K.Sink.written c.start.new.out) (g.K.Sink.written c.args.err.now) (g.K.Sink.written c.start.new.err) run
    (gives_this (g.F.FileStore.stored c.args.files.now) (command_of words) c.in_ok-answer.field-0 (outcome.Runs c.in-Runs.program c.in-Runs.steps c.in-Runs.stats) c.in-Runs.is
    c.in_ok-answer.ensures.gives) c.start.ensures.answer

pub returns-in-Runs-clause-fixed : goal.returns-in-Runs-clause-fixed
returns-in-Runs-clause-fixed g c =
    let fixed : Option Answer = fixed_answer (command_of (map string_bytes c.args.words.now)) in
    ok_no_fixed c.start.result fixed
    (λ status told. Tells told (g.K.Sink.written c.args.out.now) (g.K.Sink.written c.start.new.out) (g.K.Sink.written c.args.err.now) (g.K.Sink.written c.start.new.err) status)
    (subst (λ (o : Outcome). IfSome fixed (λ told. IsMade told o)) c.in-Runs.is c.in_ok-answer.ensures.fixed)

pub returns-in-Runs-clause-reads : goal.returns-in-Runs-clause-reads
returns-in-Runs-clause-reads g c stopped =
    let words : List (List ℕ) = map string_bytes c.args.words.now in
    run_reads (command_of words) (subst (IsFor (command_of words)) c.in-Runs.is c.in_ok-answer.ensures.only)

pub returns-in-Runs-clause-fixed_front : goal.returns-in-Runs-clause-fixed_front
returns-in-Runs-clause-fixed_front g c stopped =
    let fixed : Option Answer = fixed_answer (command_of (map string_bytes c.args.words.now)) in
    no_fixed fixed
    (λ told. TellsFront told (g.K.Sink.written c.args.out.now) (g.K.Sink.written c.start.new.out) (g.K.Sink.written c.args.err.now) (g.K.Sink.written c.start.new.err))
    (subst (λ (o : Outcome). IfSome fixed (λ told. IsMade told o)) c.in-Runs.is c.in_ok-answer.ensures.fixed)

-- ---- what is left in the store

pub returns-in-Answers-clause-left : goal.returns-in-Answers-clause-left
returns-in-Answers-clause-left g c =
    let words : List (List ℕ) = map string_bytes c.args.words.now in
    ok_leaves c.write_answer.result (g.F.FileStore.stored c.args.files.now) (runs (command_of words)) (g.S.Source.left c.args.input.now) words (λ input. None)
    (g.R.Store.Means c.args.store.now)
    (makes_this (g.F.FileStore.stored c.args.files.now) (command_of words) c.in_ok-answer.field-0 (outcome.Answers c.in-Answers.answer) c.in-Answers.is
    c.in_ok-answer.ensures.makes)
    (any_known c.write_answer.result (runs (command_of words)) (g.S.Source.left c.args.input.now) _ (λ input. (no_heap, (c.requires.store, refl))))

pub returns-in-Runs-clause-left : goal.returns-in-Runs-clause-left
returns-in-Runs-clause-left g c =
    let words : List (List ℕ) = map string_bytes c.args.words.now in
    let ran : List ℕ → Option Running = λ input. run_made (program_of c.in-Runs.program.laid) input c.in-Runs.steps in
    ok_leaves c.start.result (g.F.FileStore.stored c.args.files.now) (runs (command_of words)) (g.S.Source.left c.args.input.now) words ran
    (g.R.Store.Means c.start.new.store)
    (makes_this (g.F.FileStore.stored c.args.files.now) (command_of words) c.in_ok-answer.field-0
    (outcome.Runs c.in-Runs.program c.in-Runs.steps c.in-Runs.stats) c.in-Runs.is c.in_ok-answer.ensures.makes)
    (input_known c.start.result (runs (command_of words)) (g.S.Source.left c.args.input.now)
    (λ input. (m : Heap) × (g.R.Store.Means c.start.new.store m × IsLeftBy (ran input) m))
    (subst (IsFor (command_of words)) c.in-Runs.is c.in_ok-answer.ensures.only) c.start.ensures.left)

pub returns-in-Tests-clause-left : goal.returns-in-Tests-clause-left
returns-in-Tests-clause-left g c =
    let words : List (List ℕ) = map string_bytes c.args.words.now in
    let ran : Option Running = run_made (program_of c.in-Tests.program.laid) [] STEPS in
    ok_leaves c.test.result (g.F.FileStore.stored c.args.files.now) (runs (command_of words)) (g.S.Source.left c.args.input.now) words (λ input. ran)
    (g.R.Store.Means c.test.new.store)
    (makes_this (g.F.FileStore.stored c.args.files.now) (command_of words) c.in_ok-answer.field-0 (outcome.Tests c.in-Tests.program c.in-Tests.number) c.in-Tests.is
    c.in_ok-answer.ensures.makes)
    (ok_any_known c.test.result (runs (command_of words)) (g.S.Source.left c.args.input.now)
    (λ input. (m : Heap) × (g.R.Store.Means c.test.new.store m × IsLeftBy ran m))
    ((m : Heap) × (g.R.Store.Means c.test.new.store m × IsLeftBy ran m)) (λ known input. known) c.test.ensures.left)
