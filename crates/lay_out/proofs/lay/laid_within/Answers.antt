use Rattle.std.proofs.Common.{◌≡◌, map, refl, sym, ap, ◌∙◌, subst}
use Rattle.std.specs.Prelude.{None}
use Rattle.typed_statements.specs.declared.subs.Subprogram.{Subprogram}
use Rattle.type_rules.specs.declared.typed.Typed.{Typed}
use Rattle.flow_paths.specs.Laid.{flow_program}
use Rattle.flow_paths.specs.Limits.{deep_name}
use Rattle.flow_paths.specs.Objects.{Typing}
use Rattle.lay_out.specs.Known.{signature_of}
use Rattle.lay_out.specs.Programs.{known_of, source}
use Rattle.lay_out.specs.Refusals.{Judges}
use Rattle.lay_out.proofs.Whole.{fault_behind, fault_deep, known_is, program_is}
use Rattle.lay_out.proofs.lay.laid_within.Goals as goal

pub laid_subs-requires : goal.laid_subs-requires
laid_subs-requires c = record {
  known =
      known_is c.args.typed.now c.args.typed.now.table c.as_slice-3.result.now c.deref.result.now refl c.as_slice-3.ensures
      (c.deref.ensures.value ∙ c.in_ok-signatures.ensures ∙ ap (map signature_of) c.as_slice.ensures);
}

pub returns-in-Some-clause-judges : goal.returns-in-Some-clause-judges
returns-in-Some-clause-judges c =
    let typed : Typed = c.args.typed.now in
    let s : Typing = record { table = typed.table; objects = c.as_slice-3.result.now; subs = c.deref.result.now } in
    let known : s ≡ known_of typed =
    known_is typed typed.table c.as_slice-3.result.now c.deref.result.now refl c.as_slice-3.ensures
    (c.deref.ensures.value ∙ c.in_ok-signatures.ensures ∙ ap (map signature_of) c.as_slice.ensures) in
    let bodies : c.deref-2.result.now ≡ map (λ (b : Subprogram). b.body) typed.subs =
    c.deref-2.ensures.value ∙ c.in_ok-bodies.ensures ∙ ap (map (λ (b : Subprogram). b.body)) c.as_slice-2.ensures in
    fault_deep typed.table (source typed) c.in-Some.pos
    (sym c.in-Some.is ∙ c.deep_name.ensures (source typed) (program_is typed s c.deref-2.result.now known bodies))

pub returns-clause-judges : goal.returns-clause-judges
returns-clause-judges c =
    let typed : Typed = c.args.typed.now in
    let s : Typing = record { table = typed.table; objects = c.as_slice-3.result.now; subs = c.deref.result.now } in
    let known : s ≡ known_of typed =
    known_is typed typed.table c.as_slice-3.result.now c.deref.result.now refl c.as_slice-3.ensures
    (c.deref.ensures.value ∙ c.in_ok-signatures.ensures ∙ ap (map signature_of) c.as_slice.ensures) in
    let bodies : c.deref-2.result.now ≡ map (λ (b : Subprogram). b.body) typed.subs =
    c.deref-2.ensures.value ∙ c.in_ok-bodies.ensures ∙ ap (map (λ (b : Subprogram). b.body)) c.as_slice-2.ensures in
    let none : None ≡ deep_name (flow_program typed.table (source typed)) =
    sym c.in-None.is ∙ c.deep_name.ensures (source typed) (program_is typed s c.deref-2.result.now known bodies) in
    subst (Judges c.laid_subs.result) (sym (fault_behind typed.table (source typed) none)) c.laid_subs.ensures.judges
