-- What subprograms are laid out by, and what is made of them.
use Rattle.std.specs.Prelude.{◌≡◌, ℕ, ◌+◌, List, map, flat_map, length, Option, Result, Ok, Err}
use Rattle.spark_base.specs.declared.position.Pos.{Pos}
use Rattle.typed_tree.specs.Programs.{TypedSub}
use Rattle.typed_statements.specs.declared.subs.Subprogram.{Subprogram}
use Rattle.typed_statements.specs.Bodies.{sub_at}
use Rattle.flow_paths.specs.Objects.{Typing, has_scope_end}
use Rattle.flow_paths.specs.Laid.{FlowSub}
use Rattle.flow_paths.specs.Stands.{flow_sub_of}
use Rattle.flow_paths.specs.declared.refusal.LayFault.{LayFault}
use Rattle.numbered_points.specs.Programs.{NumberedSub}
use Rattle.bare_points.specs.Spans.{ends_of}
use Rattle.bare_points.specs.Sized.{ArePreps, AreSpans}
use Rattle.flow_acts.specs.Frames as frames
use Rattle.sub_layout.specs.declared.fault.SubFault.{SubFault}
use Rattle.sub_layout.specs.declared.fault.SubFault.TheVariants as sub_fault
use Rattle.sub_layout.specs.Words.{AreWords}
use Rattle.lay_out.specs.declared.refusal.LayRefusal.{LayRefusal}
use Rattle.lay_out.specs.declared.refusal.LayRefusal.TheVariants as refusal
use Rattle.lay_out.specs.Refusals.{Says}
use Rattle.lay_out.specs.declared.laid_subs.LaidSubs.{LaidSubs}
use Rattle.lay_out.specs.declared.sub_writer.SubWriter.{SubWriter}

abbrev pub site : SubWriter → Typing
site w = frames.site w.acts

-- All tables are of the same rows, and have what they are asked for.
pub record IsReady (w : SubWriter) : Type 0 where
  pub rows : w.sizes.rows.now ≡ w.acts.rows.now
  pub preps : ArePreps w.sizes.rows.now (length w.sizes.rows.now.0) w.sizes.preps.now
  pub spans : AreSpans w.sizes.rows.now (ends_of w.sizes.ends.now) (length w.sizes.rows.now.1) w.sizes.spans.now
  pub whole : length w.sizes.spans.now ≡ length w.sizes.rows.now.1
  pub ends : (x : ℕ) → ends_of w.sizes.ends.now x ≡ has_scope_end (site w) x
  pub words : AreWords (site w) w.acts.rows.now (length w.acts.rows.now.1) w.words.now

-- The subprograms that stand in its rows.
abbrev pub subs_in : SubWriter → List Subprogram → List TypedSub
subs_in w subs = map (sub_at w.acts.rows.now) subs

-- Those that are laid out, as those of the definitions.
abbrev pub flow_subs : SubWriter → LaidSubs → List FlowSub
flow_subs w made = map (flow_sub_of w.acts.rows.now) made.subs

abbrev pub subs_of : List NumberedSub → List FlowSub
subs_of all = map (λ (n : NumberedSub). n.sub) all

abbrev pub types_of : List NumberedSub → List ℕ
types_of all = flat_map (λ (n : NumberedSub). n.types) all

-- Temporaries follow all objects.
abbrev pub next_temporary : Typing → List ℕ → ℕ
next_temporary s types = length s.objects + length types

abbrev pub refusal_by : SubFault → Pos → LayRefusal
refusal_by sub_fault.Memory p = refusal.Memory
refusal_by sub_fault.TooDeep p = refusal.Memory
refusal_by sub_fault.TooManyFacts p = refusal.TooManyFacts p

-- A refusal tells what these are beyond.
abbrev pub Refuses : {A : Type 0} → Result A LayRefusal → Option LayFault → Type 0
Refuses (Ok a) found = Unit {0}
Refuses (Err refusal) found = Says refusal found
