use Rattle.std.proofs.Common.{sym, subst, ap, ◌∙◌}
use Rattle.name_events.specs.Outline.{source_events}
use Rattle.name_events.specs.Faults.{name_fault}
use Rattle.name_resolve.specs.Inputs.{trees_of}
use Rattle.name_resolve.specs.Judges.{Says}
use Rattle.name_resolve.specs.OfEvents.{fault_of_events, identified_of_events, infos_of_events, numbers_of_events}
use Rattle.name_resolve.proofs.Files.{decls_is, denotes_is, fault_is, identified_is}
use Rattle.name_resolve.proofs.Occurrences.{handed_on}
use Rattle.name_resolve.proofs.source_files.resolve.Goals as goal

pub returns-in_err-made-clause-fault : goal.returns-in_err-made-clause-fault
returns-in_err-made-clause-fault c =
    handed_on _ c.from_residual-in_err-made.result _ c.in_err-made.field-0.0 (name_fault (trees_of c.args.files.items))
    c.from_residual-in_err-made.ensures.0 c.from_residual-in_err-made.ensures.1 (λ r h. h)
    (subst (Says c.in_err-made.field-0.0)
    (ap fault_of_events (c.as_slice.ensures ∙ c.in_ok-events.ensures ∙ ap (λ files. source_events (trees_of files)) c.deref.ensures.value) ∙ sym (fault_is (trees_of c.args.files.items)))
    c.in_err-made.ensures.fault)

pub returns-clause-fault : goal.returns-clause-fault
returns-clause-fault c =
    fault_is (trees_of c.args.files.items)
    ∙ sym (ap fault_of_events (c.as_slice.ensures ∙ c.in_ok-events.ensures ∙ ap (λ files. source_events (trees_of files)) c.deref.ensures.value))
    ∙ c.in_ok-made.ensures.fault

pub returns-clause-decls : goal.returns-clause-decls
returns-clause-decls c =
    c.in_ok-made.ensures.decls
    ∙ ap infos_of_events (c.as_slice.ensures ∙ c.in_ok-events.ensures ∙ ap (λ files. source_events (trees_of files)) c.deref.ensures.value)
    ∙ sym (decls_is (trees_of c.args.files.items))

pub returns-clause-denotes : goal.returns-clause-denotes
returns-clause-denotes c =
    c.in_ok-made.ensures.denotes
    ∙ ap numbers_of_events (c.as_slice.ensures ∙ c.in_ok-events.ensures ∙ ap (λ files. source_events (trees_of files)) c.deref.ensures.value)
    ∙ sym (denotes_is (trees_of c.args.files.items))

pub returns-clause-identified : goal.returns-clause-identified
returns-clause-identified c =
    c.in_ok-made.ensures.identified
    ∙ ap identified_of_events (c.as_slice.ensures ∙ c.in_ok-events.ensures ∙ ap (λ files. source_events (trees_of files)) c.deref.ensures.value)
    ∙ sym (identified_is (trees_of c.args.files.items))

pub invariant_of-result-clause-named : goal.invariant_of-result-clause-named
invariant_of-result-clause-named c = ∣ record {
  texts = c.requires.read.0;
  read = c.requires.read.1;
  named = fault_is (trees_of c.args.files.items)
      ∙ sym (ap fault_of_events (c.as_slice.ensures ∙ c.in_ok-events.ensures ∙ ap (λ files. source_events (trees_of files)) c.deref.ensures.value))
      ∙ c.in_ok-made.ensures.fault;
} ∣₁

pub invariant_of-result-clause-fault : goal.invariant_of-result-clause-fault
invariant_of-result-clause-fault c =
    ∣ fault_is (trees_of c.args.files.items)
    ∙ sym (ap fault_of_events (c.as_slice.ensures ∙ c.in_ok-events.ensures ∙ ap (λ files. source_events (trees_of files)) c.deref.ensures.value))
    ∙ c.in_ok-made.ensures.fault ∣₁

pub invariant_of-result-clause-decls_are : goal.invariant_of-result-clause-decls_are
invariant_of-result-clause-decls_are c =
    ∣ c.in_ok-made.ensures.decls
    ∙ ap infos_of_events (c.as_slice.ensures ∙ c.in_ok-events.ensures ∙ ap (λ files. source_events (trees_of files)) c.deref.ensures.value)
    ∙ sym (decls_is (trees_of c.args.files.items)) ∣₁

pub invariant_of-result-clause-denotes_are : goal.invariant_of-result-clause-denotes_are
invariant_of-result-clause-denotes_are c =
    ∣ c.in_ok-made.ensures.denotes
    ∙ ap numbers_of_events (c.as_slice.ensures ∙ c.in_ok-events.ensures ∙ ap (λ files. source_events (trees_of files)) c.deref.ensures.value)
    ∙ sym (denotes_is (trees_of c.args.files.items)) ∣₁

pub invariant_of-result-clause-identified_are : goal.invariant_of-result-clause-identified_are
invariant_of-result-clause-identified_are c =
    ∣ c.in_ok-made.ensures.identified
    ∙ ap identified_of_events (c.as_slice.ensures ∙ c.in_ok-events.ensures ∙ ap (λ files. source_events (trees_of files)) c.deref.ensures.value)
    ∙ sym (identified_is (trees_of c.args.files.items)) ∣₁
