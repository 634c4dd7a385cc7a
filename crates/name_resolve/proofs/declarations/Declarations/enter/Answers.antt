use Rattle.std.proofs.Common.{sym, ap, ◌∙◌, ◌∷◌, ◌++◌, []}
use Rattle.std.specs.Prelude.{◌||◌}
use Rattle.name_events.specs.Faults.{is_library_procedure}
use Rattle.name_resolve.proofs.Lists.{any_push, map_push}
use Rattle.name_resolve.proofs.declarations.Declarations.enter.Goals as goal

pub returns-clause-stands : goal.returns-clause-stands
returns-clause-stands c word declared pending ended completed has s =
    let w = c.args.self.now.words in
    let d = c.args.declaration in
    record {
      declared = c.in_ok-note.ensures.stands w word declared has s.declared;
      awaiting = c.in_ok-note_awaiting.ensures.first w word declared has s.awaiting;
      awaiting_only = c.in_ok-note_awaiting.ensures.only w word has s.awaiting_only;
      all = c.in_ok-push.ensures.items ∙ ap (λ xs. xs ++ d ∷ []) s.all ∙ sym (map_push (λ entry. entry.1) declared (word, d));
      procedure = c.either-self.ensures ∙ (λ j. s.procedure j || c.is_library_procedure.ensures word j)
          ∙ sym (any_push is_library_procedure declared (word, d));
      pending = s.pending;
      ended = s.ended;
      holders = s.holders;
      completed = s.completed;
    }
