-- What is owed to sinks, as bytes are added and written.
use Rattle.std.proofs.Common.{◌≡◌, inl, inr, ℕ, ◌+◌, List, [], ◌∷◌, ◌++◌, length, refl, sym, ◌∙◌, ap, subst, append_assoc, append-nil, Option}
use Rattle.std.specs.Io.KnownBytes.{Appends}
use Rattle.std.proofs.KnownBytes.{Appends-nil, Appends-trans}
use Rattle.std.proofs.lemmas.List.{length-append}
use Rattle.spark_base.specs.Outside.{AppendsPrefix}
use Rattle.machine.specs.States.{Leak}
use Rattle.run_results.specs.Lines.{leak_line, leak_lines}
use Rattle.run_results.proofs.Fronts.{none_front, all_front, front_more, front_after}
use Rattle.slot_runs.specs.Pasts.{Past}
use Rattle.slot_runs.specs.Turns.{Untold}
use Rattle.slot_runs.specs.Tellings.{Owes, Sinks, IsTold, Flushes, with_untold, TellsOn, HaveFronts, TellsFronts}

-- ---- one sink

-- All that is owed is written.
pub owed_written : (start old new : Option (List ℕ)) (rest all : List ℕ) → Owes start old rest all → Appends old new rest → Owes start new [] all
owed_written start old new rest all (front, before, is) written =
    (front ++ rest, Appends-trans start old new front rest before written, is ∙ sym (append-nil (front ++ rest)))

-- More is owed.
pub owed_more : (start now : Option (List ℕ)) (rest all more : List ℕ) → Owes start now rest all → Owes start now (rest ++ more) (all ++ more)
owed_more start now rest all more (front, before, is) = (front, before, ap (λ l. l ++ more) is ∙ append_assoc front rest more)

-- At first nothing is.
pub owed_none : (start : Option (List ℕ)) → Owes start start [] []
owed_none start = ([], Appends-nil start, refl)

-- Nothing is owed any more.
pub owed_all : (start now : Option (List ℕ)) (all : List ℕ) → Owes start now [] all → Appends start now all
owed_all start now all (front, before, is) = subst (λ l. Appends start now l) (sym (is ∙ append-nil front)) before

-- Some front of what is owed is written, and no more.
pub owed_front : (start old new : Option (List ℕ)) (rest all more : List ℕ) → Owes start old rest all → AppendsPrefix old new rest → AppendsPrefix start new (all ++ more)
owed_front start old new rest all more (front, before, is) cut =
    front_more start new all more (subst (λ l. AppendsPrefix start new l) (sym is) (front_after start old new front rest before cut))

-- ---- lines

pub lines_more : (files : List (List ℕ)) (a b : List Leak) → leak_lines files (a ++ b) ≡ leak_lines files a ++ leak_lines files b
lines_more files [] b = refl
lines_more files (x ∷ a) b =
    ap (λ l. leak_line files x ++ l) (lines_more files a b) ∙ sym (append_assoc (leak_line files x) (leak_lines files a) (leak_lines files b))

-- ---- what was told

-- The output is written, or none of it is.
pub output_told : (files : List (List ℕ)) (start now : Sinks) (new : Option (List ℕ)) (lines : List ℕ) (leaked : ℕ) (p : Past) (u : Untold) (after : List ℕ)
    → IsTold files start now lines leaked p → Flushes now.output new u.output after
    → (q : Past) × IsTold files start (record now { output = new }) lines leaked q × (with_untold q (record u { output = after }) ≡ with_untold p u)
output_told files start now new lines leaked p u after told (inl (appends, gone)) = (
  record p { output = p.output ++ u.output },
  record { output = owed_written start.output now.output new u.output (p.output ++ u.output) (owed_more start.output now.output [] p.output u.output told.output) appends; lines = told.lines; leaked = told.leaked },
  ap (λ l. record (with_untold p u) { output = (p.output ++ u.output) ++ l }) gone ∙ ap (λ l. record (with_untold p u) { output = l }) (append-nil (p.output ++ u.output)),
)
output_told files start now new lines leaked p u after told (inr (same, kept)) = (
  p,
  record { output = subst (λ o. Owes start.output o [] p.output) (sym same) told.output; lines = told.lines; leaked = told.leaked },
  ap (λ l. record (with_untold p u) { output = p.output ++ l }) kept,
)

-- The leaks are told.
pub leaks_told : (files : List (List ℕ)) (start now : Sinks) (lines : List ℕ) (leaked : ℕ) (p : Past) (u : Untold)
    → IsTold files start now lines leaked p
    → (q : Past) × IsTold files start now (lines ++ leak_lines files u.leaks) (leaked + length u.leaks) q × (with_untold q (record u { leaks = [] }) ≡ with_untold p u)
leaks_told files start now lines leaked p u told = (
  record p { leaks = p.leaks ++ u.leaks },
  record {
    output = told.output;
    lines = subst (λ l. Owes start.lines now.lines (lines ++ leak_lines files u.leaks) l) (sym (lines_more files p.leaks u.leaks)) (owed_more start.lines now.lines lines (leak_lines files p.leaks) (leak_lines files u.leaks) told.lines);
    leaked = ap (λ n. n + length u.leaks) told.leaked ∙ sym (length-append p.leaks u.leaks);
  },
  ap (λ l. record (with_untold p u) { leaks = l }) (append-nil (p.leaks ++ u.leaks)),
)

-- Their lines are written, or none of them is.
pub lines_told : (files : List (List ℕ)) (start now : Sinks) (new : Option (List ℕ)) (lines after : List ℕ) (leaked : ℕ) (p : Past)
    → IsTold files start now lines leaked p → Flushes now.lines new lines after → IsTold files start (record now { lines = new }) after leaked p
lines_told files start now new lines after leaked p told (inl (appends, gone)) = record {
  output = told.output;
  lines = subst (λ l. Owes start.lines new l (leak_lines files p.leaks)) (sym gone) (owed_written start.lines now.lines new lines (leak_lines files p.leaks) told.lines appends);
  leaked = told.leaked;
}
lines_told files start now new lines after leaked p told (inr (same, kept)) = record {
  output = told.output;
  lines =
      subst (λ l. Owes start.lines new l (leak_lines files p.leaks)) (sym kept)
      (subst (λ o. Owes start.lines o lines (leak_lines files p.leaks)) (sym same) told.lines);
  leaked = told.leaked;
}

-- All three.
pub tells_on : (files : List (List ℕ)) (old new : Sinks) (before middle after : List ℕ) (was is : ℕ) (u v w : Untold)
    → v ≡ record u { output = v.output } → Flushes old.output new.output u.output v.output
    → w ≡ record v { leaks = [] } → middle ≡ before ++ leak_lines files v.leaks → is ≡ was + length v.leaks
    → Flushes old.lines new.lines middle after
    → TellsOn files old new before after was is u w
tells_on files old new before middle after was is u v w more output none lines leaked flushed = λ start p told.
    let a = output_told files start old new.output before was p u v.output told output in
    let b = leaks_told files start (record old { output = new.output }) before was a.0 v a.1 in
    let c : IsTold files start (record old { output = new.output }) middle is b.0 =
    subst (λ l. IsTold files start (record old { output = new.output }) l is b.0) (sym lines)
    (subst (λ n. IsTold files start (record old { output = new.output }) (before ++ leak_lines files v.leaks) n b.0) (sym leaked) b.1) in (
      b.0,
      lines_told files start (record old { output = new.output }) new.lines middle after is b.0 c flushed,
      ap (with_untold b.0) none ∙ b.2 ∙ ap (with_untold a.0) more ∙ a.2,
    )

-- The output alone.
pub tells_output : (files : List (List ℕ)) (old : Sinks) (output : Option (List ℕ)) (before : List ℕ) (was : ℕ) (u v : Untold)
    → v ≡ record u { output = v.output } → Flushes old.output output u.output v.output
    → TellsOn files old (record old { output = output }) before before was was u v
tells_output files old output before was u v more flushed = λ start p told.
    let a = output_told files start old output before was p u v.output told flushed in
    (a.0, a.1, ap (with_untold a.0) more ∙ a.2)

-- ---- fronts, where a telling fails

-- A front of the output is written.
pub output_cut : (files : List (List ℕ)) (old new : Sinks) (before : List ℕ) (was : ℕ) (u : Untold) (bytes : List ℕ)
    → bytes ≡ u.output → AppendsPrefix old.output new.output bytes → new.lines ≡ old.lines → TellsFronts files old new before was u
output_cut files old new before was u bytes same cut none = λ start p told. record {
  output = output_front start p told;
  lines = lines_front start p told;
}
  where
    output_front : (start : Sinks) (p : Past) → IsTold files start old before was p → AppendsPrefix start.output new.output (p.output ++ u.output)
    output_front start p told =
        front_after start.output old.output new.output p.output u.output (owed_all start.output old.output p.output told.output)
        (subst (λ l. AppendsPrefix old.output new.output l) same cut)

    lines_front : (start : Sinks) (p : Past) → IsTold files start old before was p → AppendsPrefix start.lines new.lines (leak_lines files (p.leaks ++ u.leaks))
    lines_front start p told =
        subst (λ l. AppendsPrefix start.lines new.lines l) (sym (lines_more files p.leaks u.leaks))
        (owed_front start.lines old.lines new.lines before (leak_lines files p.leaks) (leak_lines files u.leaks) told.lines
        (subst (λ o. AppendsPrefix old.lines o before) (sym none) (none_front old.lines before)))

-- Nothing is.
pub none_cut : (files : List (List ℕ)) (old : Sinks) (before : List ℕ) (was : ℕ) (u : Untold) → TellsFronts files old old before was u
none_cut files old before was u = output_cut files old old before was u u.output refl (none_front old.output u.output) refl

-- The output is written, or none of it is.
pub flushed_cut : (files : List (List ℕ)) (old new : Sinks) (before : List ℕ) (was : ℕ) (u : Untold) (after : List ℕ)
    → Flushes old.output new.output u.output after → new.lines ≡ old.lines → TellsFronts files old new before was u
flushed_cut files old new before was u after (inl (appends, gone)) none =
    output_cut files old new before was u u.output refl (all_front old.output new.output u.output appends) none
flushed_cut files old new before was u after (inr (same, kept)) none =
    output_cut files old new before was u u.output refl (subst (λ o. AppendsPrefix old.output o u.output) (sym same) (none_front old.output u.output)) none

-- So it is, and a front of the lines is written.
pub lines_cut : (files : List (List ℕ)) (old new : Sinks) (before middle : List ℕ) (was : ℕ) (u : Untold) (leaks : List Leak)
    → TellsFronts files old (record new { lines = old.lines }) before was u
    → leaks ≡ u.leaks → middle ≡ before ++ leak_lines files leaks → AppendsPrefix old.lines new.lines middle → TellsFronts files old new before was u
lines_cut files old new before middle was u leaks first same more cut = λ start p told. record {
  output = (first start p told).output;
  lines =
      subst (λ l. AppendsPrefix start.lines new.lines l) (sym (lines_more files p.leaks u.leaks))
      (subst (λ l. AppendsPrefix start.lines new.lines l) (append-nil (leak_lines files p.leaks ++ leak_lines files u.leaks))
      (owed_front start.lines old.lines new.lines (before ++ leak_lines files u.leaks) (leak_lines files p.leaks ++ leak_lines files u.leaks) []
      (owed_more start.lines old.lines before (leak_lines files p.leaks) (leak_lines files u.leaks) told.lines)
      (subst (λ l. AppendsPrefix old.lines new.lines l) (more ∙ ap (λ l. before ++ leak_lines files l) same) cut)));
}

-- ---- fronts of what a run has

pub none_had : (files : List (List ℕ)) (sinks : Sinks) (bytes : List ℕ) (leaks : List Leak) → HaveFronts files sinks sinks bytes leaks
none_had files sinks bytes leaks = record { output = none_front sinks.output bytes; lines = none_front sinks.lines (leak_lines files leaks) }

pub had_more : (files : List (List ℕ)) (old new : Sinks) (bytes more : List ℕ) (leaks others : List Leak)
    → HaveFronts files old new bytes leaks → HaveFronts files old new (bytes ++ more) (leaks ++ others)
had_more files old new bytes more leaks others is = record {
  output = front_more old.output new.output bytes more is.output;
  lines =
      subst (λ l. AppendsPrefix old.lines new.lines l) (sym (lines_more files leaks others))
      (front_more old.lines new.lines (leak_lines files leaks) (leak_lines files others) is.lines);
}
