-- Formals are copied back on both sides alike, when a call ends.
use Rattle.std.proofs.Common.{◌≡◌, ◌⊎◌, inl, inr, ℕ, suc, ◌+◌, ◌<◌, ◌≤◌, true, false, Bool, ◌&&◌, List, [], ◌∷◌, ◌++◌, length, take, drop, refl, sym, ap, subst, ◌∙◌, arith, Some, slice_get, ℤ, append-nil, if◌then◌else◌}
use Rattle.std.proofs.lemmas.List.{length-map}
use Rattle.run_values.specs.declared.value.Kind.{Kind}
use Rattle.run_values.specs.declared.value.Value.{Value}
use Rattle.kept_cells.specs.Cells.{Cell as StoredCell}
use Rattle.flow_paths.specs.Objects.{Typing, object_at, is_package_object}
use Rattle.machine.specs.Words.{Word, fits_type, access_offsets}
use Rattle.machine.specs.Typed.{Sort, sorts}
use Rattle.machine.specs.Memory.{Memory, Slot, HeapCell, Base, Place, OfVariable, OfCell, fresh, cell, slots_at, slots_of, gone_at, words_of, moved_out, stored}
use Rattle.machine.specs.Evaluate.{Here, Now, Evaluated, Done, ConstraintError, Touched, followed_by, variable_place, checked}
use Rattle.machine.specs.Evaluate as evaluation
use Rattle.machine.specs.States as machine
use Rattle.run_codes.specs.Flat.{Flat, Got, Given, Stops, Broken, Traps, and_then, touched, kinds, values, all_fresh, are_words, are_in, constraint, Spot, InStack, InCell, held, spliced, with_stack, with_words, Made, reads}
use Rattle.run_codes.specs.Flat as flat
use Rattle.run_codes.specs.Lowered.{Site, offset_of}
use Rattle.run_codes.specs.Points.{Return, in_stack, fits, copied_back}
use Rattle.run_codes.specs.Points as points
use Rattle.run_codes.specs.Related.{AllStand, AllKinds, IsValue, Seen, table, here, now, types, IsSplit, IsPlace, Lying, lying_sorts, Related}
use Rattle.run_codes.proofs.Parts.{whole_split, split_inside, first_kinds, second_kinds}
use Rattle.run_codes.proofs.Places.{type_at}
use Rattle.run_codes.proofs.Stores.{stored_in_stack}
use Rattle.run_codes.proofs.Heaps.{stored_in_cell}
use Rattle.run_codes.proofs.Held.{is_held, in_cell_there}
use Rattle.run_codes.proofs.Seeing.{stack_stored}
use Rattle.run_fills.specs.Filled.{IsWhole, at, Later}
use Rattle.run_fills.proofs.Wholes.{later_from, later_on, value_later}
use Rattle.run_fills.proofs.Values.{value_as}
use Rattle.run_fills.proofs.Made.{are_there}
use Rattle.run_fills.proofs.Moved.{types_put, is_taken}
use Rattle.run_fills.proofs.Outside.{object_outside}
use Rattle.run_points.specs.States.{PlaceStands, ReturnStands, ReturnsStand, AreUndeclared, IsLow}
use Rattle.run_points.proofs.More.{place_more, returns_more}
use Rattle.run_points.proofs.Stacks.{spliced_long}
use Rattle.run_points.proofs.Undeclared.{put_low}
use Rattle.run_points.proofs.Flags.{low_moved, frees_none, frees_moved}
use Rattle.run_points.proofs.Turned.{sorts_turned}
use Rattle.run_points.proofs.Passing.{Stopping, fits_same}

-- ---- the formal

-- It is an object of the frame that runs.
formal_place : (e : Seen) (all : List Lying) (m : Memory) (f : Flat) → IsWhole (at e m f) all → (x o : ℕ) → is_package_object e.site.typing x ≡ false → offset_of e.site x ≡ Some o
    → IsPlace (at e m f) 0 (object_at e.site.typing x).of (InStack (f.base + o)) (drop (f.base + o) f.stack) (Done (variable_place (here e) x) (now (at e m f) 0))
formal_place e all m f whole x o own there = record {
  p = variable_place (here e) x;
  gives = refl;
  of = refl;
  stand = subst (λ b. Stand (if b then 0 else e.frame)) (sym own) (whole.related.objects (record { frame = e.frame; object = x; at = f.base + o }) (whole.sited.own x o there own));
  from = record {
    frame = e.frame;
    object = x;
    start = f.base + o;
    lies = inl (record { at = o; there = there; own = own; runs = refl; begins = refl });
    base = ap (λ b. OfVariable (if b then 0 else e.frame) x) own;
    at = none (f.base + o);
    split = whole_split (sorts (table e) (object_at e.site.typing x).of);
  };
}
  where
    none : (n : ℕ) → n ≡ n + 0
    none n = omega arith

    Stand : ℕ → Type 0
    Stand n = AllStand (table e) (types m) (sorts (table e) (object_at e.site.typing x).of) (drop 0 (slots_at e.site.typing m (OfVariable n x))) (drop (f.base + o) f.stack)

done_same : {A : Type 0} (a b : A) (n m : Now) → Done a n ≡ Done b m → a ≡ b
done_same a b n m is = cc

-- What it holds, and both memories without it.
record IsFormal (e : Seen) (all : List Lying) (m : Memory) (f : Flat) (x o : ℕ) : Type 0 where
  zs : List ℤ
  held_is : held f (in_stack f o) (kinds (table e) (object_at e.site.typing x).of) ≡ Given zs
  value : IsValue (table e) (types m) (sorts (table e) (object_at e.site.typing x).of) (words_of e.site.typing m (variable_place (here e) x)) zs
  after : Flat
  gives : flat.moved_out f (in_stack f o) (kinds (table e) (object_at e.site.typing x).of) (access_offsets (table e) (object_at e.site.typing x).of) ≡ Given after
  later : Later (at e m f) all (moved_out e.site.typing (variable_place (here e) x) m) after

is_formal : (e : Seen) (all : List Lying) (m : Memory) (f : Flat) → IsWhole (at e m f) all → (x o : ℕ) → is_package_object e.site.typing x ≡ false → offset_of e.site x ≡ Some o → IsFormal e all m f x o
is_formal e all m f whole x o own there =
    let t : ℕ = (object_at e.site.typing x).of in
    let w : Spot = InStack (f.base + o) in
    let us : List ℤ = drop (f.base + o) f.stack in
    let ev : Evaluated Place = Done (variable_place (here e) x) (now (at e m f) 0) in
    let place = formal_place e all m f whole x o own there in
    let value = is_held (at e m f) whole.related.counted.few 0 t w us ev place refl in
    let gone = is_taken (at e m f) all whole 0 t w us ev place refl in
    let same = sym (done_same (variable_place (here e) x) place.p (now (at e m f) 0) (now (at e m f) 0) place.gives) in
    let zs : List ℤ = all_fresh (kinds (table e) t) (take (length (sorts (table e) t)) us) in
    record {
      zs = zs;
      held_is = value.value;
      value = subst (λ q. IsValue (table e) (types m) (sorts (table e) t) (words_of e.site.typing m q) zs) same value.is;
      after = gone.after;
      gives = gone.gives;
      later = subst (λ q. Later (at e m f) all (moved_out e.site.typing q m) gone.after) same gone.later;
    }

-- ---- a value goes to a place of another frame, or to a cell

-- The flat memory with it.
record IsBack (e : Seen) (all : List Lying) (m : Memory) (f : Flat) (p : Place) (w : Spot) (t : ℕ) (ws : List Word) (zs : List ℤ) : Type 0 where
  after : Flat
  gives : flat.stored f w (kinds (table e) t) zs ≡ Given after
  later : Later (at e m f) all (stored e.site.typing p ws m) after

no_types : (s : Typing) (p : Place) (ws : List Word) (m : Memory) → types (stored s p ws m) ≡ types m ++ []
no_types s p ws m =
    types_put p.base (take p.at (slots_at s m p.base) ++ fresh ws ++ drop (p.at + length (fresh ws)) (slots_at s m p.base)) m ∙ sym (append-nil (types m))

-- A cell that isn't freed.
abbrev IsLiveAt : Memory → Spot → Type 0
IsLiveAt m (InStack n) = Unit {0}
IsLiveAt m (InCell n o) = (cell m (suc n)).freed ≡ false

part_kinds : (all part : List Sort) (o : ℕ) (vs : List Value) → IsSplit all o part → AllKinds all vs → AllKinds part (drop o vs)
part_kinds all part o vs split is =
    subst (λ n. AllKinds part (drop n vs)) split.long
    (first_kinds part split.rest (drop (length split.front) vs) (second_kinds split.front (part ++ split.rest) vs (subst (λ l. AllKinds l vs) split.is is)))

put_back : (e : Seen) (all : List Lying) (m : Memory) (f : Flat) → IsWhole (at e m f) all → (p : Place) (w : Spot) (t : ℕ) → p.of ≡ t → PlaceStands e.site.typing all (types m) p w → IsLiveAt m w
    → (ws : List Word) (zs : List ℤ) → IsValue (table e) (types m) (sorts (table e) t) ws zs → IsBack e all m f p w t ws zs
put_back e all m f whole p (InStack n) t of is live ws zs value =
    let s : Typing = e.site.typing in
    let l : Lying = is.0 in
    let split : IsSplit (lying_sorts s l) p.at (sorts s.table t) = subst (λ u. IsSplit (lying_sorts s l) p.at (sorts s.table u)) of is.4 in
    let inside = split_inside (lying_sorts s l) (sorts s.table t) p.at split in
    let within = whole.apart.within l is.1 in
    let fits : n + length zs ≤ length f.stack = omega (arith, inside, within, value.numbers, is.3) in
    let small : p.at + length zs ≤ length (lying_sorts s l) = omega (arith, inside, value.numbers) in
    record {
      after = with_stack f (spliced n zs f.stack);
      gives = stack_stored f n (kinds (table e) t) zs fits;
      later = later_from (at e m f) all (stored s p ws m) (with_stack f (spliced n zs f.stack)) [] whole (no_types s p ws m)
          (stored_in_stack s all m f l p n (sorts s.table t) ws zs whole.related whole.apart is.1 is.2 is.3 split inside value) (spliced_long n zs f.stack fits) refl refl refl
          (λ c k out. object_outside s all l n p.at zs f.stack c k is.1 is.3 small within out);
    }
put_back e all m f whole p (InCell n o) t of is live ws zs value =
    let s : Typing = e.site.typing in
    let ks : List Kind = kinds (table e) t in
    let within : n < length m.cells = subst (λ j. n < j) (length-map m.cells (λ (c : HeapCell). c.of)) is.2 in
    let have = whole.related.cells n within in
    let c : StoredCell = have.0 in
    let split : IsSplit (sorts s.table (cell m (suc n)).of) p.at (sorts s.table t) =
    subst (λ u. IsSplit (sorts s.table (cell m (suc n)).of) p.at (sorts s.table u)) of (subst (λ u. IsSplit (sorts s.table u) p.at (sorts s.table p.of)) (type_at m.cells n) is.3) in
    let inside = split_inside (sorts s.table (cell m (suc n)).of) (sorts s.table t) p.at split in
    let few : length (types m) ≤ flat.most_cells = subst (λ l. l ≤ flat.most_cells) (sym (length-map m.cells (λ (c : HeapCell). c.of))) whole.related.counted.few in
    let new : Flat = with_words f n o (values ks zs) in
    let kinds_there : AllKinds (sorts s.table t) (drop o c.words) =
    subst (λ j. AllKinds (sorts s.table t) (drop j c.words)) (sym is.1) (part_kinds (sorts s.table (cell m (suc n)).of) (sorts s.table t) p.at c.words split have.2.kinds) in
    record {
      after = new;
      gives =
          ap (λ g. touched g (words_stored ks new)) have.1
          ∙ ap (λ d. if d then Stops (Traps Touched) else words_stored ks new c) (sym have.2.freed ∙ live)
          ∙ ap (λ d. if d && are_in o ks c then Given new else Broken) (are_there s.table (types m) (sorts s.table t) ws zs few value.numbers value.stand)
          ∙ ap (λ d. if d then Given new else Broken) (in_cell_there (sorts s.table t) o c have.2.small (omega (arith, inside, is.1, have.2.room)) kinds_there);
      later = later_from (at e m f) all (stored s p ws m) new [] whole (no_types s p ws m)
          (subst (λ j. Related s all (stored s p ws m) (with_words f n j (values ks zs))) (sym is.1) (stored_in_cell s all m f p n t ws zs whole.related within is.0 split value)) refl refl refl refl (λ c k out. refl);
    }
  where
    words_stored : List Kind → Flat → StoredCell → Got Flat
    words_stored ks new c = if are_words ks zs && are_in o ks c then Given new else Broken

-- ---- one formal is copied back

-- While formals are copied back.
pub record IsCopying (e : Seen) (all : List Lying) (m : Memory) (f : Flat) : Type 0 where
  pub later : Later e all m f
  pub undeclared : AreUndeclared e.site.typing (suc e.frame) m

-- What the machine does with a place that is copied back to: what was in a freed cell isn't there.
abbrev pub in_base : Base → Place → Now → Evaluated Place
in_base (OfCell n) k n' = if (cell n'.memory n).freed then evaluation.Traps Touched n' else Done k n'
in_base (OfVariable frame x) k n' = Done k n'

abbrev pub machine_copied : Here → List machine.Return → Now → Evaluated Memory
machine_copied h [] n = Done n.memory n
machine_copied h (r ∷ rest) n =
    followed_by (in_base r.to.base r.to n) (λ k n. followed_by (checked h k.of (words_of h.typing n.memory (variable_place h r.formal)) n)
    (λ ws n. machine_copied h rest (record n { memory = stored h.typing k ws (moved_out h.typing (variable_place h r.formal) n.memory) })))

abbrev pub CopiesBack : Seen → List Lying → Evaluated Memory → Made Flat → Type 0
CopiesBack e all ev (flat.Done a f) = (m : Memory) × (ev ≡ Done m (record { memory = m; waits = e.waits })) × (a ≡ f) × IsCopying e all m f
CopiesBack e all ev (flat.Halted stop f) = Stopping e all stop f ev
CopiesBack e all ev flat.Failed = ⊥

abbrev pub here_now : (e : Seen) (m : Memory) → Now
here_now e m = record { memory = m; waits = e.waits }

-- The place is there on both sides, or was in a cell that is freed.
reaches : (e : Seen) (all : List Lying) (m : Memory) (f : Flat) → IsWhole (at e m f) all → (p : Place) (w : Spot) → PlaceStands e.site.typing all (types m) p w
    → (IsLiveAt m w × (in_base p.base p (here_now e m) ≡ Done p (here_now e m)) × (points.reached f w ≡ Given w))
    ⊎ ((in_base p.base p (here_now e m) ≡ evaluation.Traps Touched (here_now e m)) × (points.reached f w ≡ Stops (Traps Touched)))
reaches e all m f whole p (InStack n) is = inl (tt, ap (λ b. in_base b p (here_now e m)) is.2, refl)
reaches e all m f whole p (InCell n o) is =
    let within : n < length m.cells = subst (λ j. n < j) (length-map m.cells (λ (c : HeapCell). c.of)) is.2 in
    let have = whole.related.cells n within in
    by (cell m (suc n)).freed refl have.0 have.1 have.2.freed
  where
    stops : Bool → Got Spot
    stops b = if b then Stops (Traps Touched) else Given (InCell n o)

    ends : Bool → Evaluated Place
    ends b = if b then evaluation.Traps Touched (here_now e m) else Done p (here_now e m)

    by : (b : Bool) → (cell m (suc n)).freed ≡ b → (c : StoredCell) → slice_get f.cells n ≡ Some c → (cell m (suc n)).freed ≡ c.freed
        → (IsLiveAt m (InCell n o) × (in_base p.base p (here_now e m) ≡ Done p (here_now e m)) × (points.reached f (InCell n o) ≡ Given (InCell n o)))
        ⊎ ((in_base p.base p (here_now e m) ≡ evaluation.Traps Touched (here_now e m)) × (points.reached f (InCell n o) ≡ Stops (Traps Touched)))
    by false live c there same = inl (
      live,
      ap (λ b. in_base b p (here_now e m)) is.0 ∙ ap ends live,
      ap (λ g. touched g (λ c. Given (InCell n o))) there ∙ ap stops (sym same ∙ live),
    )
    by true gone c there same = inr (
      ap (λ b. in_base b p (here_now e m)) is.0 ∙ ap ends gone,
      ap (λ g. touched g (λ c. Given (InCell n o))) there ∙ ap stops (sym same ∙ gone),
    )

live_moved : (s : Typing) (q : Place) (m : Memory) (f : Flat) (all : List Lying) (p : Place) (w : Spot) → PlaceStands s all (types m) p w → length (moved_out s q m).cells ≡ length m.cells → IsLiveAt m w → IsLiveAt (moved_out s q m) w
live_moved s q m f all p (InStack n) is long live = tt
live_moved s q m f all p (InCell n o) is long live =
    let within : n < length m.cells = subst (λ j. n < j) (length-map m.cells (λ (c : HeapCell). c.of)) is.2 in
    (frees_moved m s q m (frees_none m)).same n (subst (λ j. n < j) (sym long) within) ∙ sym ((frees_none m).same n within) ∙ live

cells_long : (m n : Memory) (more : List ℕ) → types n ≡ types m ++ [] → length n.cells ≡ length m.cells
cells_long m n more is =
    sym (length-map n.cells (λ (c : HeapCell). c.of)) ∙ ap (λ (l : List ℕ). length l) (is ∙ append-nil (types m)) ∙ length-map m.cells (λ (c : HeapCell). c.of)

higher : (n : ℕ) (b : Base) → IsLow n b → IsLow (suc n) b
higher n (OfVariable frame x) is = by frame n is
  where
    by : (a n : ℕ) → a < n → a < suc n
    by a n is = omega (arith, is)
higher n (OfCell k) is = tt

own_low : (e : Seen) (x : ℕ) → is_package_object e.site.typing x ≡ false → IsLow (suc e.frame) (variable_place (here e) x).base
own_low e x own = subst (λ b. (if b then 0 else e.frame) < suc e.frame) (sym own) (last e.frame)
  where
    last : (n : ℕ) → n < suc n
    last n = omega arith

-- Both memories after one formal.
record IsCopied (e : Seen) (all : List Lying) (m : Memory) (f : Flat) (r : machine.Return) (q : Return) (zs : List ℤ) : Type 0 where
  after : Flat
  gives : and_then (flat.moved_out f (in_stack f q.at) (kinds (table e) q.from) (access_offsets (table e) q.from)) (λ n. flat.stored n q.to (kinds (table e) q.of) zs) ≡ Given after
  is : IsCopying e all (stored e.site.typing r.to (words_of e.site.typing m (variable_place (here e) r.formal)) (moved_out e.site.typing (variable_place (here e) r.formal) m)) after
  on : Later (at e m f) all (stored e.site.typing r.to (words_of e.site.typing m (variable_place (here e) r.formal)) (moved_out e.site.typing (variable_place (here e) r.formal) m)) after

abbrev pub formal_site : Seen → Site
formal_site e = record { typing = e.site.typing; own = e.site.own; package_objects = e.site.package_objects; takes = [] }

is_copied : (e : Seen) (all : List Lying) (m : Memory) (f : Flat) → IsCopying e all m f → (r : machine.Return) (q : Return) (stands : ReturnStands (formal_site e) all e.frame (types m) r q)
    → IsLiveAt m q.to → (formal : IsFormal e all m f r.formal q.at)
    → IsValue (table e) (types m) (sorts (table e) r.to.of) (words_of e.site.typing m (variable_place (here e) r.formal)) formal.zs → IsCopied e all m f r q formal.zs
is_copied e all m f is r q stands live formal value =
    let s : Typing = e.site.typing in
    let k : Place = variable_place (here e) r.formal in
    let ws : List Word = words_of s m k in
    let m' : Memory = moved_out s k m in
    let grown : types m' ≡ types m ++ [] = moved_types s k m in
    let place : PlaceStands s all (types m') r.to q.to = subst (λ made. PlaceStands s all made r.to q.to) (sym grown) (place_more s all (types m) [] r.to q.to stands.to) in
    let back = put_back e all m' formal.after formal.later.whole r.to q.to r.to.of refl place (live_moved s k m f all r.to q.to stands.to (cells_long m m' [] grown) live) ws formal.zs
    (value_later (at e m f) all m' formal.after (sorts (table e) r.to.of) ws formal.zs formal.later value) in
    record {
      after = back.after;
      gives =
          ap (λ t. and_then (flat.moved_out f (in_stack f q.at) (kinds (table e) t) (access_offsets (table e) t)) (λ n. flat.stored n q.to (kinds (table e) q.of) formal.zs)) stands.from
          ∙ ap (λ y. and_then y (λ n. flat.stored n q.to (kinds (table e) q.of) formal.zs)) formal.gives
          ∙ ap (λ t. flat.stored formal.after q.to (kinds (table e) t) formal.zs) stands.of ∙ back.gives;
      is = record {
        later = later_on e all m (stored s r.to ws m') f back.after is.later (later_on (at e m f) all m' (stored s r.to ws m') formal.after back.after formal.later back.later);
        undeclared = put_low s (suc e.frame) r.to.base (take r.to.at (slots_at s m' r.to.base) ++ fresh ws ++ drop (r.to.at + length (fresh ws)) (slots_at s m' r.to.base)) m' (higher e.frame r.to.base stands.low)
            (low_moved s (suc e.frame) k m (own_low e r.formal stands.own) is.undeclared);
      };
      on = later_on (at e m f) all m' (stored s r.to ws m') formal.after back.after formal.later back.later;
    }
  where
    moved_types : (s : Typing) (k : Place) (m : Memory) → types (moved_out s k m) ≡ types m ++ []
    moved_types s k m =
        let slots : List Slot = gone_at (access_offsets s.table k.of) (slots_of s m k) in
        types_put k.base (take k.at (slots_at s m k.base) ++ slots ++ drop (k.at + length slots) (slots_at s m k.base)) m ∙ sym (append-nil (types m))

-- ---- all formals

returns_later : (e : Seen) (all : List Lying) (m n : Memory) (f g : Flat) (rs : List machine.Return) (qs : List Return) → Later (at e m f) all n g → ReturnsStand (formal_site e) all e.frame (types m) rs qs
    → ReturnsStand (formal_site e) all e.frame (types n) rs qs
returns_later e all m n f g rs qs later is =
    subst (λ made. ReturnsStand (formal_site e) all e.frame made rs qs) (sym later.grown) (returns_more (formal_site e) all e.frame (types m) later.more rs qs is)

copies_by : (e : Seen) (all : List Lying) (m : Memory) (f : Flat) → IsCopying e all m f → (r : machine.Return) (q : Return) → ReturnStands (formal_site e) all e.frame (types m) r q → IsLiveAt m q.to
    → (on : Now → Evaluated Memory) (further : Flat → Made Flat)
    → ((n : Memory) (g : Flat) → IsCopying e all n g → Later (at e m f) all n g → CopiesBack e all (on (here_now e n)) (further g))
    → CopiesBack e all
    (followed_by (checked (here e) r.to.of (words_of e.site.typing m (variable_place (here e) r.formal)) (here_now e m))
    (λ ws n. on (record n { memory = stored e.site.typing r.to ws (moved_out e.site.typing (variable_place (here e) r.formal) n.memory) })))
    (reads f (held f (in_stack f q.at) (kinds (table e) q.from))
    (λ zs. if fits (table e) q.of zs
    then reads f (and_then (flat.moved_out f (in_stack f q.at) (kinds (table e) q.from) (access_offsets (table e) q.from)) (λ n. flat.stored n q.to (kinds (table e) q.of) zs)) further
    else flat.Halted constraint f))
copies_by e all m f is r q stands live on further next =
    let s : Typing = e.site.typing in
    let formal = is_formal e all m f is.later.whole r.formal q.at stands.own stands.at in
    let ws : List Word = words_of s m (variable_place (here e) r.formal) in
    let laws = is.later.whole.laws in
    let t : ℕ = (object_at s r.formal).of in
    let value = value_as (table e) (types m) (sorts (table e) t) (sorts (table e) r.to.of) ws formal.zs laws (sorts_turned (table e) (sorts (table e) t) (sorts (table e) r.to.of) ∙ stands.fits) formal.value in
    let held_is : held f (in_stack f q.at) (kinds (table e) q.from) ≡ Given formal.zs = ap (λ u. held f (in_stack f q.at) (kinds (table e) u)) stands.from ∙ formal.held_is in
    let same : fits (table e) q.of formal.zs ≡ fits_type (table e) r.to.of ws = ap (λ u. fits (table e) u formal.zs) stands.of ∙ fits_same (table e) laws (types m) r.to.of ws formal.zs value in
    subst (λ g. CopiesBack e all (goes ws (fits_type (table e) r.to.of ws)) (reads f g (λ zs. if fits (table e) q.of zs then stores zs else flat.Halted constraint f))) (sym held_is)
    (subst (λ b. CopiesBack e all (goes ws (fits_type (table e) r.to.of ws)) (if b then stores formal.zs else flat.Halted constraint f)) (sym same)
    (by formal value (fits_type (table e) r.to.of ws)))
  where
    goes : List Word → Bool → Evaluated Memory
    goes ws b =
        followed_by (if b then Done ws (here_now e m) else evaluation.Raises ConstraintError (here_now e m))
        (λ ws n. on (record n { memory = stored e.site.typing r.to ws (moved_out e.site.typing (variable_place (here e) r.formal) n.memory) }))

    stores : List ℤ → Made Flat
    stores zs = reads f (and_then (flat.moved_out f (in_stack f q.at) (kinds (table e) q.from) (access_offsets (table e) q.from)) (λ n. flat.stored n q.to (kinds (table e) q.of) zs)) further

    by : (formal : IsFormal e all m f r.formal q.at) → IsValue (table e) (types m) (sorts (table e) r.to.of) (words_of e.site.typing m (variable_place (here e) r.formal)) formal.zs → (b : Bool)
        → CopiesBack e all (goes (words_of e.site.typing m (variable_place (here e) r.formal)) b) (if b then stores formal.zs else flat.Halted constraint f)
    by formal value false = (here_now e m, refl, is.later)
    by formal value true =
        let copied = is_copied e all m f is r q stands live formal value in
        let n : Memory = stored e.site.typing r.to (words_of e.site.typing m (variable_place (here e) r.formal)) (moved_out e.site.typing (variable_place (here e) r.formal) m) in
        subst (λ g. CopiesBack e all (on (here_now e n)) (reads f g further)) (sym copied.gives) (next n copied.after copied.is copied.on)

pub copies_back : (e : Seen) (all : List Lying) (m : Memory) (f : Flat) → IsCopying e all m f → (rs : List machine.Return) (qs : List Return) → ReturnsStand (formal_site e) all e.frame (types m) rs qs
    → CopiesBack e all (machine_copied (here e) rs (here_now e m)) (copied_back (table e) qs f)
copies_back e all m f is [] [] stands = (m, refl, refl, is)
copies_back e all m f is (r ∷ rs) (q ∷ qs) stands = elim (reaches e all m f is.later.whole r.to q.to stands.0.to) [
  | inl live ↦
      subst (λ v. CopiesBack e all (followed_by v goes) (copied_back (table e) (q ∷ qs) f)) (sym live.1)
      (subst (λ g. CopiesBack e all (goes r.to (here_now e m)) (reads f g stores)) (sym live.2)
      (copies_by e all m f is r q stands.0 live.0 (machine_copied (here e) rs) (copied_back (table e) qs)
      (λ n g copying later. copies_back e all n g copying rs qs (returns_later e all m n f g rs qs later stands.1))))
  | inr gone ↦
      subst (λ v. CopiesBack e all (followed_by v goes) (copied_back (table e) (q ∷ qs) f)) (sym gone.0)
      (subst (λ g. CopiesBack e all (evaluation.Traps Touched (here_now e m)) (reads f g stores)) (sym gone.1) (here_now e m, refl, is.later))
]
  where
    goes : Place → Now → Evaluated Memory
    goes k n =
        followed_by (checked (here e) k.of (words_of e.site.typing n.memory (variable_place (here e) r.formal)) n)
        (λ ws n. machine_copied (here e) rs (record n { memory = stored e.site.typing k ws (moved_out e.site.typing (variable_place (here e) r.formal) n.memory) }))

    stores : Spot → Made Flat
    stores w =
        reads f (held f (in_stack f q.at) (kinds (table e) q.from))
        (λ zs. if fits (table e) q.of zs
        then reads f (and_then (flat.moved_out f (in_stack f q.at) (kinds (table e) q.from) (access_offsets (table e) q.from)) (λ n. flat.stored n w (kinds (table e) q.of) zs)) (copied_back (table e) qs)
        else flat.Halted constraint f)
copies_back e all m f is [] (q ∷ qs) stands = absurd stands
copies_back e all m f is (r ∷ rs) [] stands = absurd stands
