use Rattle.std.proofs.Common.{sym}
use Rattle.name_resolve.specs.Tables.{is_source_package}
use Rattle.name_resolve.proofs.Answering.{answers_noted}
use Rattle.name_resolve.proofs.Firsts.{first_answers_left, first_answers_noted}
use Rattle.name_resolve.proofs.entry_index.EntryIndex.note.Goals as goal

pub returns-in_ok-note_first-clause-stands : goal.returns-in_ok-note_first-clause-stands
returns-in_ok-note_first-clause-stands c words word entries has s = record {
  last = answers_noted _ _ entries word c.args.declaration (c.in_ok-note.ensures.searched words word has) s.last;
  packages = first_answers_noted is_source_package _ _ entries word c.args.declaration (sym c.if-is_source_package.ensures)
      (c.in_ok-note_first.ensures.searched words word has) s.packages;
  last_only = c.in_ok-note.ensures.only words word has s.last_only;
  packages_only = c.in_ok-note_first.ensures.only words word has s.packages_only;
}

pub returns-else-is_source_package-clause-stands : goal.returns-else-is_source_package-clause-stands
returns-else-is_source_package-clause-stands c words word entries has s = record {
  last = answers_noted _ _ entries word c.args.declaration (c.in_ok-note.ensures.searched words word has) s.last;
  packages = first_answers_left is_source_package _ entries word c.args.declaration (sym c.if-is_source_package.ensures) s.packages;
  last_only = c.in_ok-note.ensures.only words word has s.last_only;
  packages_only = s.packages_only;
}
