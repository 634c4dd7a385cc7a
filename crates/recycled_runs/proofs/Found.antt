-- The place of a name, as it is lowered, is a part of a variable or a cell of the machine: what its leak checks tell of is there.
use Rattle.std.proofs.Common.{◌≡◌, refl, sym, ap, ◌∙◌, subst, inl, inr, ◌⊎◌, ℕ, zero, suc, ◌+◌, ◌<◌, arith, true, false, not, List, [], ◌∷◌, take, drop, length, get_or, slice_get, Some, ℤ, pos}
use Rattle.std.proofs.lemmas.List.{drop-drop}
use Rattle.std.proofs.lemmas.Bool.{false≢true}
use Rattle.std.specs.Prelude.{is_some}
use Rattle.machine.specs.spark_base.Lists.{Has}
use Rattle.machine.specs.spark_base.declared.position.Pos.{Pos}
use Rattle.machine.specs.typed_tree.Trees.{TypedTree, Name, Call, NoMore, More}
use Rattle.machine.specs.flow_paths.Instructions.{Test}
use Rattle.machine.specs.flow_paths.Names.{waiting}
use Rattle.machine.specs.flow_paths.Objects.{Typing, object_at}
use Rattle.machine.specs.flow_paths.Points.{FlowPoint}
use Rattle.machine.specs.flow_paths.Laid.{FlowProgram, flow_typing}
use Rattle.soundness.specs.PartOffsets.Parts.{IsSettled}
use Rattle.soundness.specs.OwnedWays.Ways.{Owned}
use Rattle.soundness.specs.Seen.{is_view_formal, content}
use Rattle.soundness.specs.Typed.{Kept, loc_of}
use Rattle.soundness.specs.Sound.{view_of}
use Rattle.soundness.specs.TypedLaws.Needed.{Leads}
use Rattle.machine.specs.Words.{access_offsets}
use Rattle.machine.specs.Typed.{Sort, Pointer, sorts}
use Rattle.machine.specs.Owners.{waiting_in}
use Rattle.machine.specs.Memory.{Base, OfVariable, OfCell, cell, slots_at}
use Rattle.machine.specs.Evaluate.{Evaluated, place_of}
use Rattle.machine.specs.Memory as machine_memory
use Rattle.machine.specs.States as machine
use Rattle.recycled_runs.specs.ViewedFacts.NullPlaces.Agrees.{SameState}
use Rattle.recycled_runs.proofs.ViewedFacts.NullPlaces.Memories.{cell_agree}
use Rattle.run_codes.specs.Codes.{Point}
use Rattle.run_codes.specs.Flat.{Flat, Given, Broken, kinds, Spot, InStack, InCell, spot, words_at, words_in}
use Rattle.run_codes.specs.Lowered.{Placed, place}
use Rattle.run_codes.specs.Programs.{Program}
use Rattle.run_codes.specs.Points.{Frame, State, start, are_taken}
use Rattle.run_codes.specs.Related.{types, AllStand, Seen, table, here, now, IsSeen, LiesIn, IsPlace, IsThere, SpotSame}
use Rattle.run_codes.proofs.Spots.{place_same}
use Rattle.run_codes.proofs.Held.{is_held}
use Rattle.run_points.specs.States.{StateStands, FramesStand, MemoryStands, Runs, site_of}
use Rattle.run_points.specs.Turns.{Turns, seen, TurnStands, HasTypes}
use Rattle.run_points.proofs.Waits.{is_seen}
use Rattle.handled_runs.specs.Leaks.{AreLeaked}
use Rattle.handled_steps.specs.Looks.{turn_of}
use Rattle.recycled_runs.proofs.Keeps.{IsNull, kept_null}
use Rattle.recycled_runs.proofs.Walks.{GoesThrough, IsLive, IsCellBase, place_found}
use Rattle.recycled_runs.proofs.Parts.{type_of, part_leaked}
use Rattle.soundness.proofs.Parted.{base_objects, some_same}

-- ---- lists

get_drop : (n o : ℕ) (zs : List ℤ) → get_or (drop n zs) o (pos 0) ≡ get_or zs (n + o) (pos 0)
get_drop zero o zs = let same : 0 + o ≡ o = omega arith in ap (λ i. get_or zs i (pos 0)) (sym same)
get_drop (suc n) o [] = refl
get_drop (suc n) o (z ∷ zs) = let same : suc n + o ≡ suc (n + o) = omega arith in get_drop n o zs ∙ ap (λ i. get_or (z ∷ zs) i (pos 0)) (sym same)

get_take : (n o : ℕ) (zs : List ℤ) → o < n → get_or (take n zs) o (pos 0) ≡ get_or zs o (pos 0)
get_take zero o zs less = absurd (omega (arith, less))
get_take (suc n) o [] less = refl
get_take (suc n) zero (z ∷ zs) less = refl
get_take (suc n) (suc o) (z ∷ zs) less = get_take n o zs (omega (arith, less))

pub below_length : (all : List Sort) (o : ℕ) (x : Sort) → slice_get all o ≡ Some x → o < length all
below_length [] o x e = absurd (false≢true (ap is_some e))
below_length (s ∷ all) zero x e = omega arith
below_length (s ∷ all) (suc o) x e = let less = below_length all o x e in omega (arith, less)

-- ---- what a place is a part of

module _ (e : Seen) (is : IsSeen e) where
  abbrev base_type : Base → ℕ
  base_type (OfVariable f x) = (object_at e.site.typing x).of
  base_type (OfCell n) = (cell e.memory n).of

  -- All its words.
  pub record Whole (b : Base) (at : ℕ) (zs : List ℤ) : Type 0 where
    pub all : List ℤ
    pub stand : AllStand (table e) (types e.memory) (sorts (table e) (base_type b)) (slots_at e.site.typing e.memory b) all
    pub part : zs ≡ drop at all

  object_whole : (frame x start at n : ℕ) → LiesIn e frame x start → n ≡ start + at → Whole (OfVariable frame x) at (drop n e.flat.stack)
  object_whole frame x start at n lies place =
      record {
        all = drop start e.flat.stack;
        stand = by lies;
        part = ap (λ i. drop i e.flat.stack) place ∙ sym (drop-drop at start e.flat.stack);
      }
    where
      by : LiesIn e frame x start → AllStand (table e) (types e.memory) (sorts (table e) (object_at e.site.typing x).of) (slots_at e.site.typing e.memory (OfVariable frame x)) (drop start e.flat.stack)
      by (inl own) =
          subst (λ f. AllStand (table e) (types e.memory) (sorts (table e) (object_at e.site.typing x).of) (slots_at e.site.typing e.memory (OfVariable f x)) (drop start e.flat.stack)) (sym own.runs)
          (subst (λ i. AllStand (table e) (types e.memory) (sorts (table e) (object_at e.site.typing x).of) (slots_at e.site.typing e.memory (OfVariable e.frame x)) (drop i e.flat.stack)) (sym own.begins)
          (is.own x own.at own.there own.own))
      by (inr packages) =
          subst (λ f. AllStand (table e) (types e.memory) (sorts (table e) (object_at e.site.typing x).of) (slots_at e.site.typing e.memory (OfVariable f x)) (drop start e.flat.stack)) (sym packages.first)
          (is.packages x start packages.there packages.packages)

  pub whole_at : (k t : ℕ) (w : Spot) (zs : List ℤ) (ev : Evaluated machine_memory.Place) (at : IsPlace e k t w zs ev) → IsThere e t w zs → Whole at.p.base at.p.at zs
  whole_at k t (InStack n) zs ev at there =
      let from = at.from in
      subst (λ b. Whole b at.p.at zs) (sym from.base) (subst (Whole (OfVariable from.frame from.object) at.p.at) (sym there) (object_whole from.frame from.object from.start at.p.at n from.lies from.at))
  whole_at k t (InCell n o) zs ev at there =
      let from = at.from in
      let have = is.cells n from.within in
      let same : have.0 ≡ there.c = one have.0 there.c (sym have.1 ∙ there.there) in
      subst (λ b. Whole b at.p.at zs) (sym from.base)
      (record {
        all = words_in have.0.words;
        stand = have.2.words;
        part = there.words ∙ (λ j. drop (from.at j) (words_in (sym same j).words));
      })
    where
      one : {A : Type 0} (a b : A) → Some a ≡ Some b → a ≡ b
      one a b e = some_same e

-- ---- a step

-- A point that takes so many values.
pub taking : ℕ → TypedTree
taking zero = NoMore
taking (suc n) = More (Call (record { file = 0; line = 0; column = 0 }) 0 NoMore) (taking n)

many_taken : (n : ℕ) → waiting (taking n) ≡ n
unfolding waiting taking
many_taken zero = refl
many_taken (suc n) = let e = many_taken n in omega (arith, e)

module _ (program : FlowProgram) (has : HasTypes program) (settled : IsSettled (flow_typing program).table) (p : Program) (input : List ℕ)
    (s t : machine.State) (g : State) (owned : Owned (view_of (flow_typing program) s)) (kept : Kept (flow_typing program) s.memory (waiting_in s)) (same : SameState s t)
    (null : IsNull (flow_typing program) t.memory) (stands : StateStands program t g)
    (m : machine.Frame) (fs : List machine.Frame) (f : Frame) (outer : List Frame) (frames : t.frames ≡ m ∷ fs)
    (stand : FramesStand program stands.laid (types t.memory) g.memory.stack (m ∷ fs) (f ∷ outer)) (runs : Runs program m)
    (fp : FlowPoint) (q : Point) (taken : are_taken (turn_of (flow_typing program).table p input g f outer q) ≡ true) where
  abbrev typed : Typing
  typed = flow_typing program

  abbrev b : Turns
  b = record {
    program = program;
    lowered = p;
    input = input;
    point = record fp { instr = Test (taking (length q.takes)) };
    takes = q.takes;
    at = g.at;
    output = g.output;
    leaks = g.leaks;
    steps = g.steps;
    memory = t.memory;
    checks = [];
    frame = m;
    outer = fs;
    flat = g.memory;
    flat_frame = f;
    flat_outer = outer;
  }

  abbrev pub seen_of : Seen
  seen_of = seen b

  -- as the step begins
  abbrev pub x : Flat
  x = start (turn_of typed.table p input g f outer q)

  turn_stands : TurnStands b stands.laid
  turn_stands = record {
    laws = has.laws;
    parts = has.parts;
    truth = has.truth;
    memory = subst (λ n. MemoryStands program stands.laid n t.memory g.memory) (ap (λ (l : List machine.Frame). length l) frames) stands.memory;
    frame = stand.0;
    runs = runs;
    outer = stand.1;
    many = many_taken (length q.takes);
    taken = taken;
  }

  -- The name is rooted in what owns, or goes through an access value.
  abbrev pub IsOwners : ℕ → TypedTree → Type 0
  IsOwners y path = (is_view_formal typed y ≡ false) ⊎ GoesThrough path

  -- No name of a place is broken, and where it leads, its words are there.
  pub record Safe (r : Placed) : Type 0 where
    pub given : spot x r.place ≡ Broken → ⊥
    pub leaked : (w : Spot) → spot x r.place ≡ Given w
        → (us : List ℤ) × (words_at x w (kinds typed.table r.of) ≡ Given us) × AreLeaked g.memory.cells us (access_offsets typed.table r.of)

  module _ (k : ℕ) (y u : ℕ) (path : TypedTree) (name : Pos) (r : Placed) (lowers : place (site_of program m.sub q.takes) k (Name name y path u) ≡ Some r) where
    abbrev e : Seen
    e = seen b

    abbrev ev : Evaluated machine_memory.Place
    ev = place_of (here e) (Name name y path u) (now e k)

    -- It is a place of the machine.
    pub spots : SpotSame e (k + waiting (Name name y path u)) r.of ev (spot x r.place)
    spots = place_same e (is_seen b stands.laid turn_stands) (Name name y path u) k r lowers

    module _ (leads : Leads typed (object_at typed y).of path u) (owners : IsOwners y path) where
      owns : (c : Base) → IsLive t.memory c → (IsCellBase c ⊎ ((frame : ℕ) × (c ≡ OfVariable frame y) × (is_view_formal typed y ≡ false))) → (content typed s.memory (waiting_in s) (loc_of c)).owns ≡ true
      owns (OfVariable frame z) live (inl none) = absurd none
      owns (OfVariable frame z) live (inr own) = ap not (ap (is_view_formal typed) (object_same frame own.0 z y own.1) ∙ own.2)
        where
          object_same : (a b x y : ℕ) → OfVariable a x ≡ OfVariable b y → x ≡ y
          object_same a b x y e = base_objects e
      owns (OfCell n) live own = ap not ((cell_agree s.memory t.memory same.1 n).1 ∙ live)

      leaked_at : (w : Spot) → SpotSame e (k + waiting (Name name y path u)) r.of ev (Given w)
          → (us : List ℤ) × (words_at x w (kinds typed.table r.of) ≡ Given us) × AreLeaked g.memory.cells us (access_offsets typed.table r.of)
      leaked_at w (zs, at, there) =
          let few = stands.memory.related.counted.few in
          let held = is_held e few (k + waiting (Name name y path u)) r.of w zs ev at there in
          let whole = whole_at e (is_seen b stands.laid turn_stands) (k + waiting (Name name y path u)) r.of w zs ev at there in
          let found = place_found (here e) t.memory (waiting_in s) (kept_null typed s.memory t.memory (waiting_in s) same.1 null kept) name y u path (now e k) at.p (drop (k + waiting (Name name y path u)) e.waits) leads at.gives in
          let rooted : IsCellBase at.p.base ⊎ ((frame : ℕ) × (at.p.base ≡ OfVariable frame y) × (is_view_formal typed y ≡ false)) = elim owners [
            | inl own ↦ elim found.1.base [
              | inl cell ↦ inl cell
              | inr base ↦ inr (_, base, own)
            ]
            | inr through ↦ inl (found.1.through (found.2 through))
          ] in
          let owning = owns at.p.base found.1.live rooted in
          let us : List ℤ = take (length (sorts typed.table r.of)) zs in
          let leaks = part_leaked program has.laws settled s t g owned same stands at.p found.1.at found.1.spot owning whole.all (stand_of at.p.base whole.all whole.stand) us
          (λ o has_o. sym (get_drop at.p.at o whole.all) ∙ (ap (λ ws. get_or ws o (pos 0)) (sym whole.part)
          ∙ sym (get_take (length (sorts typed.table r.of)) o zs (within o (subst (λ z. Has (access_offsets typed.table z) o) at.of has_o))))) in
          (us, held.words, subst (λ z. AreLeaked g.memory.cells us (access_offsets typed.table z)) at.of leaks)
        where
          within : (o : ℕ) → Has (access_offsets typed.table r.of) o → o < length (sorts typed.table r.of)
          within o has_o = let at = has.laws.accesses r.of o has_o in below_length (sorts typed.table r.of) o (Pointer at.0) at.1

          stand_of : (c : Base) (all : List ℤ) → AllStand typed.table (types t.memory) (sorts typed.table (base_type e (is_seen b stands.laid turn_stands) c)) (slots_at typed t.memory c) all
              → AllStand typed.table (types t.memory) (sorts typed.table (type_of program has.laws settled s t g owned same stands c)) (slots_at typed t.memory c) all
          stand_of (OfVariable frame z) all is = is
          stand_of (OfCell n) all is = subst (λ z. AllStand typed.table (types t.memory) (sorts typed.table z) (cell t.memory n).slots all) (sym (cell_agree s.memory t.memory same.1 n).0) is

      pub safe : Safe r
      safe = record {
        given = λ broken. subst (λ h. SpotSame e (k + waiting (Name name y path u)) r.of ev h) broken spots;
        leaked = λ w is. leaked_at w (subst (λ h. SpotSame e (k + waiting (Name name y path u)) r.of ev h) is spots);
      }
