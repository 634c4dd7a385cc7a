-- The ends of calls, over both heaps.
use Rattle.std.proofs.Common.{◌≡◌, refl, sym, ap, ◌∙◌, subst, ℕ, suc, ◌+◌, Bool, true, false, List, [], ◌∷◌, ◌++◌, arith, take, length, ℤ, if◌then◌else◌}
use Rattle.handled_runs.specs.type_definitions.Types.{Table}
use Rattle.handled_runs.specs.run_values.declared.value.Kind.{Kind}
use Rattle.handled_runs.specs.machine.Words.{access_offsets}
use Rattle.handled_runs.specs.machine.States.{Normal}
use Rattle.handled_runs.specs.run_codes.Flat.{Flat, Got, Given, Stops, Broken, Made, Halted, and_then, constraint, kinds, reads, Spot, InStack}
use Rattle.handled_runs.specs.run_codes.Flat as flat
use Rattle.handled_runs.specs.run_codes.Points.{Return, Frame, fits}
use Rattle.handled_runs.specs.run_codes.Points as points
use Rattle.handled_runs.specs.Slots.{Slots}
use Rattle.handled_runs.specs.Slots as slots
use Rattle.handled_runs.specs.Changes.{with_stack, stored}
use Rattle.handled_runs.specs.Beside.{GotsAlike, spot_renamed, sizes_of, Beside}
use Rattle.handled_steps.specs.States.{Outcome, Turn, start, counted, halted, on_got}
use Rattle.handled_steps.specs.Steps.{in_stack, copied_back, returned, finish}
use Rattle.handled_steps.specs.Alike.{Paired, ReturnAlike, FrameAlike, StatesAlike, OutcomesAlike}
use Rattle.handled_steps.specs.Backs.{LooksReturn, LooksBack, LookBack}
use Rattle.handled_steps.specs.Looks.{taken_kinds}
use Rattle.handled_steps.proofs.Pairs.{return_on, paired_on, frames_on}
use Rattle.handled_steps.proofs.Turns.{Both, flat_turn, slot_turn, start_beside, start_more, read_on, stops_alike, silent_halts}
use Rattle.handled_steps.proofs.GivenUp.{IsMade}
use Rattle.handled_steps.proofs.Frames.{frame_left}
use Rattle.handled_runs.proofs.There.{AreRenamed}
use Rattle.handled_runs.proofs.Unmarked.{all_kept}
use Rattle.handled_runs.proofs.Backs.{Back, back_held, back_moved}
use Rattle.handled_steps.proofs.Moving.{reached_is, reached_silent, fits_same}

-- What is copied back, by handles.
abbrev renamed_return : List ℕ → Return → Return
renamed_return handles r = record { at = r.at; from = r.from; to = spot_renamed handles r.to; of = r.of }

return_is : (handles : List ℕ) (r q : Return) → ReturnAlike handles r q → q ≡ renamed_return handles r
return_is handles r q is =
    ap (λ x. record { at = x; from = q.from; to = q.to; of = q.of }) is.at
    ∙ (ap (λ x. record { at = r.at; from = x; to = q.to; of = q.of }) is.from
    ∙ (ap (λ x. record { at = r.at; from = r.from; to = x; of = q.of }) is.to ∙ ap (λ x. record { at = r.at; from = r.from; to = spot_renamed handles r.to; of = x }) is.of))

-- What is only read, and what comes then.
reads_on : {A B : Type 0} (t : points.Turn) (m : Flat) (x : Got A) (K : A → Made B) (F : B → Flat → points.Outcome) → points.on_made t (reads m x K) F ≡ points.on_got t m x (λ a. points.on_made t (K a) F)
reads_on t m (Given a) K F = refl
reads_on t m (Stops x) K F = refl
reads_on t m Broken K F = refl

-- A formal is moved to its place.
abbrev back_stored : Table → Flat → Return → List ℤ → Got Flat
back_stored table m r zs =
    and_then (flat.moved_out m (points.in_stack m r.at) (kinds table r.from) (access_offsets table r.from)) (λ n. flat.stored n r.to (kinds table r.of) zs)

module _ (table : Table) (handles : List ℕ) (here taken : List Kind) (base : ℕ) (m : Flat) (s : Slots) (back : Back handles here taken base m s) (r : Return) (looks : LooksReturn table base here r) where
  slots_base : s.base ≡ base
  slots_base = back.2.base ∙ (ap (λ (y : Flat). y.base) back.1.same ∙ back.1.frame)

  held_at : GotsAlike (AreRenamed handles (kinds table r.from)) (flat.held m (points.in_stack m r.at) (kinds table r.from)) (slots.held s (in_stack s r.at) (kinds table r.from))
  held_at =
      subst (λ b. GotsAlike (AreRenamed handles (kinds table r.from)) (flat.held m (InStack (b + r.at)) (kinds table r.from)) (slots.held s (in_stack s r.at) (kinds table r.from))) (sym back.1.frame)
      (subst (λ b. GotsAlike (AreRenamed handles (kinds table r.from)) (flat.held m (InStack (base + r.at)) (kinds table r.from)) (slots.held s (InStack (b + r.at)) (kinds table r.from))) (sym slots_base)
      (back_held handles here taken base m s back (base + r.at) (kinds table r.from) looks.0))

  stored_at : (zs us : List ℤ) → AreRenamed handles (kinds table r.from) zs us
      → GotsAlike (Back handles here taken base) (back_stored table m r zs) (stored s (spot_renamed handles r.to) (kinds table r.of) us)
  stored_at zs us words =
      subst (λ b. GotsAlike (Back handles here taken base)
      (and_then (flat.moved_out m (InStack (b + r.at)) (kinds table r.from) (access_offsets table r.from)) (λ n. flat.stored n r.to (kinds table r.of) zs)) (stored s (spot_renamed handles r.to) (kinds table r.of) us)) (sym back.1.frame)
      (back_moved handles here taken base m s back (base + r.at) (kinds table r.from) (kinds table r.of) (access_offsets table r.from) r.to zs us (omega arith) looks.0 looks.3
      (subst (λ ks. AreRenamed handles ks zs us) looks.1 words))

  back_made : IsMade handles m s
  back_made =
      let cells : back.0.cells ≡ m.cells = ap (λ (y : Flat). y.cells) back.1.same in
      ((back.2.made.0 ∙ ap length cells, back.2.made.1 ∙ ap sizes_of cells), back.2.cells.len ∙ ap length cells, back.2.small)

module _ (handles : List ℕ) (here : List Kind) (z : Both handles here) where
  abbrev t : points.Turn
  t = flat_turn handles here z

  abbrev u : Turn
  u = slot_turn handles here z

  abbrev takes : List Kind
  takes = taken_kinds t

  abbrev hs : List ℕ
  hs = handles ++ []

  abbrev Same : List Kind → points.Outcome → Outcome → Type 0
  Same = OutcomesAlike z.table handles

  abbrev flat_next : (F : Flat → Flat → points.Outcome) → Return → List Return → Flat → List ℤ → points.Outcome
  flat_next F r rs m zs =
      if fits z.table r.of zs then points.on_got t m (back_stored z.table m r zs) (λ n. points.on_made t (points.copied_back z.table rs n) F) else points.halted t constraint m

  abbrev slots_next : (G : Slots → Outcome) → Return → List Return → Slots → List ℤ → Outcome
  slots_next G r qs s us =
      if fits z.table r.of us then on_got u s (stored s (spot_renamed hs r.to) (kinds z.table r.of) us) (λ n. copied_back u qs n G) else halted u constraint s

  -- what the first one does, read by read
  flat_first : (F : Flat → Flat → points.Outcome) (r : Return) (rs : List Return) (m : Flat) → points.reached m r.to ≡ Given r.to
      → points.on_made t (points.copied_back z.table (r ∷ rs) m) F ≡ points.on_got t m (flat.held m (points.in_stack m r.at) (kinds z.table r.from)) (flat_next F r rs m)
  flat_first F r rs m reached =
      ap (λ g. points.on_made t (reads m g after_spot) F) reached
      ∙ reads_then (flat.held m (points.in_stack m r.at) (kinds z.table r.from))
    where
      after_words : Spot → List ℤ → Made Flat
      after_words s zs =
          if fits z.table r.of zs
          then reads m (and_then (flat.moved_out m (points.in_stack m r.at) (kinds z.table r.from) (access_offsets z.table r.from)) (λ n. flat.stored n s (kinds z.table r.of) zs))
          (points.copied_back z.table rs)
          else Halted constraint m

      after_spot : Spot → Made Flat
      after_spot s = reads m (flat.held m (points.in_stack m r.at) (kinds z.table r.from)) (after_words s)

      bounded : (b : Bool) (zs : List ℤ)
          → points.on_made t (if b
          then reads m (and_then (flat.moved_out m (points.in_stack m r.at) (kinds z.table r.from) (access_offsets z.table r.from)) (λ n. flat.stored n r.to (kinds z.table r.of) zs))
          (points.copied_back z.table rs)
          else Halted constraint m) F
          ≡ (if b then points.on_got t m (back_stored z.table m r zs) (λ n. points.on_made t (points.copied_back z.table rs n) F) else points.halted t constraint m)
      bounded true zs = reads_on t m (back_stored z.table m r zs) (points.copied_back z.table rs) F
      bounded false zs = refl

      reads_then : (g : Got (List ℤ)) → points.on_made t (reads m g (after_words r.to)) F ≡ points.on_got t m g (flat_next F r rs m)
      reads_then (Given zs) = bounded (fits z.table r.of zs) zs
      reads_then (Stops x) = refl
      reads_then Broken = refl

  abbrev after_spot : Return → List Return → Flat → Spot → Made Flat
  after_spot r rs m s =
      reads m (flat.held m (points.in_stack m r.at) (kinds z.table r.from))
      (λ zs. if fits z.table r.of zs
      then reads m (and_then (flat.moved_out m (points.in_stack m r.at) (kinds z.table r.from) (access_offsets z.table r.from)) (λ n. flat.stored n s (kinds z.table r.of) zs)) (points.copied_back z.table rs)
      else Halted constraint m)

  flat_stops : (F : Flat → Flat → points.Outcome) (r : Return) (rs : List Return) (m : Flat) (x : flat.Stop) → points.reached m r.to ≡ Stops x
      → points.on_made t (points.copied_back z.table (r ∷ rs) m) F ≡ points.halted t x m
  flat_stops F r rs m x e = ap (λ g. points.on_made t (reads m g (after_spot r rs m)) F) e

  flat_breaks : (F : Flat → Flat → points.Outcome) (r : Return) (rs : List Return) (m : Flat) → points.reached m r.to ≡ Broken → points.on_made t (points.copied_back z.table (r ∷ rs) m) F ≡ points.Fails
  flat_breaks F r rs m e = ap (λ g. points.on_made t (reads m g (after_spot r rs m)) F) e

  abbrev Backwards : Flat → Slots → Type 0
  Backwards = Back hs here takes z.f.base

  module _ (ks : List Kind) (F : Flat → Flat → points.Outcome) (G : Slots → Outcome) (on : (m : Flat) (s : Slots) → Backwards m s → Same ks (F m m) (G s)) where
    next_alike : (r : Return) (rs qs : List Return) (m : Flat) (s : Slots) → Backwards m s → LooksReturn z.table z.f.base here r → (zs us : List ℤ) → AreRenamed hs (kinds z.table r.from) zs us
        → ((n : Flat) (i : Slots) → Backwards n i → Same ks (points.on_made t (points.copied_back z.table rs n) F) (copied_back u qs i G))
        → Same ks (flat_next F r rs m zs) (slots_next G r qs s us)
    next_alike r rs qs m s back looks zs us is more =
        subst (λ b. Same ks (flat_next F r rs m zs) (slots_by b)) (sym same) (by (fits z.table r.of zs))
      where
        same : fits z.table r.of us ≡ fits z.table r.of zs
        same = ap (fits z.table r.of) is.words ∙ fits_same hs z.table r.of (kinds z.table r.from) zs looks.2 is.known

        slots_by : Bool → Outcome
        slots_by b = if b then on_got u s (stored s (spot_renamed hs r.to) (kinds z.table r.of) us) (λ n. copied_back u qs n G) else halted u constraint s

        by : (b : Bool) → Same ks (if b then points.on_got t m (back_stored z.table m r zs) (λ n. points.on_made t (points.copied_back z.table rs n) F) else points.halted t constraint m) (slots_by b)
        by true =
            read_on handles here z [] m s (back_made z.table hs here takes z.f.base m s back r looks) Backwards ks (back_stored z.table m r zs) (stored s (spot_renamed hs r.to) (kinds z.table r.of) us)
            (λ n. points.on_made t (points.copied_back z.table rs n) F) (λ n. copied_back u qs n G) (stored_at z.table hs here takes z.f.base m s back r looks zs us is) (λ n i given both. more n i both)
        by false = stops_alike handles here z [] m s (back_made z.table hs here takes z.f.base m s back r looks) ks constraint

    first_alike : (r : Return) (rs qs : List Return) (m : Flat) (s : Slots) (g : Got Spot) → points.reached m r.to ≡ g → Backwards m s → LooksReturn z.table z.f.base here r
        → ((n : Flat) (i : Slots) → Backwards n i → Same ks (points.on_made t (points.copied_back z.table rs n) F) (copied_back u qs i G))
        → Same ks (points.on_made t (points.copied_back z.table (r ∷ rs) m) F) (copied_back u (renamed_return hs r ∷ qs) s G)
    first_alike r rs qs m s (Given q) reached back looks more =
        subst (λ x. Same ks x (copied_back u (renamed_return hs r ∷ qs) s G)) (sym (flat_first F r rs m (reached ∙ ap Given (reached_is m r.to q reached))))
        (read_on handles here z [] m s (back_made z.table hs here takes z.f.base m s back r looks) (AreRenamed hs (kinds z.table r.from)) ks (flat.held m (points.in_stack m r.at) (kinds z.table r.from))
        (slots.held s (in_stack s r.at) (kinds z.table r.from)) (flat_next F r rs m) (slots_next G r qs s)
        (held_at z.table hs here takes z.f.base m s back r looks)
        (λ zs us found is. next_alike r rs qs m s back looks zs us is more))
    first_alike r rs qs m s (Stops x) reached back looks more =
        subst (λ y. Same ks y (copied_back u (renamed_return hs r ∷ qs) s G)) (sym (flat_stops F r rs m x reached))
        (silent_halts handles here z m ks x (copied_back u (renamed_return hs r ∷ qs) s G) (reached_silent m r.to x reached))
    first_alike r rs qs m s Broken reached back looks more =
        subst (λ y. Same ks y (copied_back u (renamed_return hs r ∷ qs) s G)) (sym (flat_breaks F r rs m reached)) tt

    back_alike : (rs qs : List Return) (m : Flat) (s : Slots) → Paired (ReturnAlike hs) rs qs → Backwards m s → LooksBack z.table z.f.base rs here
        → Same ks (points.on_made t (points.copied_back z.table rs m) F) (copied_back u qs s G)
    back_alike [] [] m s paired back looks = on m s back
    back_alike [] (q ∷ qs) m s paired back looks = absurd paired
    back_alike (r ∷ rs) [] m s paired back looks = absurd paired
    back_alike (r ∷ rs) (q ∷ qs) m s paired back looks =
        subst (λ x. Same ks (points.on_made t (points.copied_back z.table (r ∷ rs) m) F) (copied_back u (x ∷ qs) s G)) (sym (return_is hs r q paired.0))
        (first_alike r rs qs m s (points.reached m r.to) refl back looks.0 (λ n i both. back_alike rs qs n i paired.1 both looks.1))

  -- ---- the frame is given back

  abbrev flat_left : List Frame → Flat → points.Outcome
  flat_left (outer ∷ []) m = points.Ends Normal (points.counted (record z.a { memory = m; frames = outer ∷ [] }))
  flat_left outer m = points.Goes (points.counted (record z.a { memory = m; frames = outer }))

  left_states : (ks : List Kind) (m : Flat) (s : Slots) (fs gs : List Frame) → Beside hs ks takes m s → Paired (FrameAlike z.table hs) fs gs
      → StatesAlike z.table hs ks (points.counted (record z.a { memory = m; frames = fs })) (counted (record z.b { memory = s; frames = gs }))
  left_states ks m s fs gs beside frames = record {
    taken = takes;
    memory = beside;
    frames = frames;
    at = z.states.at;
    output = z.states.output;
    leaks = z.states.leaks;
    steps = ap suc z.states.steps;
  }

  left_alike : (ks : List Kind) (m : Flat) (s : Slots) → Beside hs ks takes m s → (fs gs : List Frame) → Paired (FrameAlike z.table hs) fs gs → LookBack z.table ks fs → Same ks (flat_left fs m) (returned u gs s)
  left_alike ks m s beside [] [] frames back = ([], left_states ks m s [] [] beside frames, back)
  left_alike ks m s beside [] (g ∷ gs) frames back = absurd frames
  left_alike ks m s beside (f ∷ fs) [] frames back = absurd frames
  left_alike ks m s beside (f ∷ []) (g ∷ []) frames back = (refl, (ks, ([], left_states ks m s (f ∷ []) (g ∷ []) beside frames)))
  left_alike ks m s beside (f ∷ []) (g ∷ h ∷ gs) frames back = absurd frames.1
  left_alike ks m s beside (f ∷ e ∷ fs) (g ∷ []) frames back = absurd frames.1
  left_alike ks m s beside (f ∷ e ∷ fs) (g ∷ h ∷ gs) frames back = ([], left_states ks m s (f ∷ e ∷ fs) (g ∷ h ∷ gs) beside frames, back)

  first_back : Backwards (points.start t) (start u)
  first_back =
      let known = (start_beside handles here z).known in (
        points.start t,
        record { stack = all_kept here z.a.memory.stack known z.clear.stack; known = known; low = refl; same = refl; frame = refl },
        start_more handles here z,
      )

  pub finish_alike : Same (take z.f.base here) (points.finish t) (finish u)
  finish_alike =
      back_alike (take z.f.base here) (λ f m. flat_left z.fs (record f { stack = take z.f.base f.stack })) (λ f. returned u z.gs (with_stack f (take z.g.base f.stack)))
      (λ m s back.
      subst (λ b. Same (take z.f.base here) (flat_left z.fs (record m { stack = take z.f.base m.stack })) (returned u z.gs (with_stack s (take b s.stack)))) (sym z.frame.base)
      (left_alike (take z.f.base here) (record m { stack = take z.f.base m.stack }) (with_stack s (take z.f.base s.stack))
      (subst (λ y. Beside hs (take z.f.base here) takes y (with_stack s (take z.f.base s.stack)))
      (ap (λ (y : Flat). record y { stack = take z.f.base back.0.stack }) back.1.same ∙ ap (λ st. record m { stack = st }) back.1.low)
      (frame_left hs here takes back.0 s back.2 z.f.base)) z.fs z.gs
      (frames_on handles [] z.table z.fs z.gs z.outer) z.back.1))
      z.f.returns z.g.returns (points.start t) (start u)
      (paired_on (ReturnAlike handles) (ReturnAlike hs) (return_on handles []) z.f.returns z.g.returns z.frame.returns) first_back z.back.0
