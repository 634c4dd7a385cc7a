-- What lowering asks of where objects and points are holds of the layout of a typed program that is
-- arranged.
use Rattle.std.proofs.Common.{◌≡◌, refl, sym, ap, ◌∙◌, subst, inl, inr, ℕ, zero, suc, ◌+◌, ◌<◌, ◌≤◌, true, false, not, ◌&&◌, List, [], ◌∷◌, ◌++◌, map, length, get_or, arith, if◌then◌else◌}
use Rattle.std.specs.Prelude.{flat_map, is_some, reverse}
use Rattle.std.specs.List.{AllByRecursion}
use Rattle.std.proofs.lemmas.Bool.{false≢true}
use Rattle.machine.specs.spark_base.Lists.{Has}
use Rattle.soundness.proofs.Lists.{Has-append_left, Has-append_right, Has-append_cases, Has-map, Has-map_from}
use Rattle.machine.specs.type_definitions.Types.{Table}
use Rattle.machine.specs.typed_tree.declared.object.Object.{Object}
use Rattle.machine.specs.typed_tree.Trees.{TypedCode}
use Rattle.machine.specs.typed_tree.Trees as typed
use Rattle.machine.specs.typed_tree.Programs.{TypedSub, TypedProgram, text_io}
use Rattle.machine.specs.flow_paths.Instructions.{Instruction}
use Rattle.machine.specs.flow_paths.Instructions as instruction
use Rattle.machine.specs.flow_paths.Objects.{Typing, object_at, is_package_object, is_state}
use Rattle.machine.specs.flow_paths.Acts.{Frame}
use Rattle.machine.specs.flow_paths.Prep.{Setting}
use Rattle.machine.specs.flow_paths.Points.{NamedPoint, FlowPoint, entry, flow_point}
use Rattle.machine.specs.flow_paths.Layout.{declared, laid}
use Rattle.machine.specs.flow_paths.Laid.{temporary_object, FlowSub, FlowProgram, NamedSub, typing_of, flow_typing, around_body, unnumbered, numbers_from, number_in, frame_of, kept_roots, sub_facts, procedure_end, function_end, sub_temporaries, named_sub, named_subs, elaborated, all_named, flow_sub, flow_named, flow_program, declared_within}
use Rattle.machine.specs.States.{no_sub, sub_of}
use Rattle.settled_types.specs.OrderLaws.ScopeLaws.Code.{objects_of}
use Rattle.settled_types.specs.OrderLaws.ScopeLaws.Order.{named_in}
use Rattle.settled_types.proofs.OrderLaws.ScopeLaws.Lists.{and_first, and_second, all_has, has_reverse, once_right, once_apart}
use Rattle.settled_types.proofs.OrderLaws.ScopeLaws.Ordered.{declared_within_has}
use Rattle.settled_types.specs.OrderLaws.ReadyLaws.InOrder.{declares_only}
use Rattle.settled_types.specs.OrderLaws.Placed.{is_placed, parameters}
use Rattle.settled_types.proofs.OrderLaws.PackageValues.Declared.{Declares as IsDeclared, package_declares}
use Rattle.laid_program.proofs.Successors.{all_numbers}
use Rattle.run_codes.specs.Lowered.{Kept, Site, max_position}
use Rattle.run_codes.specs.Programs.{kept, has_room, is_loop}
use Rattle.run_codes.specs.Programs as codes
use Rattle.sound_files.specs.TypedFiles.LoweredLaws.Lowers.{literals_in, HasRoom, IsOwn, Declares, IsPlaced, IsDeclaration, site_of, ArePlaced}
use Rattle.sound_files.specs.TypedFiles.LoweredFiles.Code.{plain_objects}
use Rattle.sound_files.specs.TypedFiles.LoweredFiles.Arranged.{IsArrangedSub, IsArranged}
use Rattle.sound_files.proofs.TypedFiles.LoweredFiles.Each.{sub_asked, package_asked, all_of}
use Rattle.sound_files.proofs.TypedFiles.LoweredFiles.Opened.{Stands, stands}
use Rattle.sound_files.proofs.TypedFiles.LoweredFiles.Uses.{Every, declared_plain, Asked, asks, suited_uses}
use Rattle.sound_files.proofs.TypedFiles.LoweredFiles.Rooms.{rooms_kept, opened, formal_room, Turns, rooms_loop, formals_loop, loop_is}
use Rattle.sound_files.proofs.TypedFiles.LoweredFiles.Apart.{plain_within, parameters_within, apart}

-- ---- objects

-- Objects keep their numbers where temporaries follow.
object_kept : (objects more : List Object) (x : ℕ) → x < length objects → get_or (objects ++ more) x text_io ≡ get_or objects x text_io
object_kept [] more x low = absurd (omega (arith, low))
object_kept (o ∷ objects) more zero low = refl
object_kept (o ∷ objects) more (suc x) low = object_kept objects more x (omega (arith, low))

in_named : (s : Typing) (n : ℕ) (subs : List TypedSub) (named : NamedSub) → Has (named_subs s n subs) named
    → (sub : TypedSub) × Has subs sub × (m : ℕ) × (named_sub s m (sub_temporaries s sub) sub ≡ named)
in_named s n [] named has = absurd has
in_named s n (sub ∷ subs) named (inl e) = (sub, inl refl, n, e)
in_named s n (sub ∷ subs) named (inr has) =
    let more = in_named s (n + length (sub_temporaries s sub)) subs named has in (more.0, inr more.1, more.2, more.3)

no_parameters : (c : TypedCode) (x : ℕ) → declares_only c ≡ true → Has (parameters c) x → ⊥
unfolding declares_only parameters
no_parameters (typed.Declare p y v) x only has = has
no_parameters (typed.More a rest) x only has = elim (Has-append_cases (parameters a) (parameters rest) x has) [
  | inl here ↦ no_parameters a x (and_first (declares_only a) (declares_only rest) only) here
  | inr later ↦ no_parameters rest x (and_second (declares_only a) (declares_only rest) only) later
]
no_parameters typed.NoMore x only has = has
no_parameters c x only has = absurd (false≢true only)

-- ---- rooms

-- Each object of code has a point that gives it room.
laid_stands : (s : Setting) (sub : TypedSub) (end : List NamedPoint) (x : ℕ) → is_placed sub.body ≡ true → Has (declared_within sub.body) x
    → Stands x (laid s sub.body (0 ∷ []) (around_body s sub) (entry end []) ++ end)
laid_stands s sub end x placed has =
    let found = stands s x sub.body (0 ∷ []) (around_body s sub) (entry end []) placed has in
    (found.0, Has-append_left (laid s sub.body (0 ∷ []) (around_body s sub) (entry end [])) end found.0 found.1, found.2)

module _ (s : Typing) (named : NamedSub) where
  abbrev frame : Frame
  frame = frame_of s named.sub (kept_roots s 0 s.objects (sub_facts s named.sub named.points))

  abbrev numbered : NamedPoint → FlowPoint
  numbered q = flow_point frame (number_in named.points) q

  abbrev own : List Kept
  own = codes.objects_of (flow_sub s named)

  point_room : (x : ℕ) → Stands x named.points → has_room x own ≡ true
  point_room x st = opened x (map numbered named.points) (map (λ y. kept y false) named.sub.formals) (numbered st.0) (Has-map numbered named.points st.0 st.1) st.2

  formal_own : (x : ℕ) → Has named.sub.formals x → has_room x own ≡ true
  formal_own x has = rooms_kept x (map numbered named.points) (map (λ y. kept y false) named.sub.formals) (formal_room x named.sub.formals has)

  loop_own : (x : ℕ) → (Has named.sub.formals x → ⊥) → ((q : NamedPoint) → Has named.points q → Turns x q.instr) → has_room x own ≡ true → is_loop x own ≡ true
  loop_own x lacks turns room =
      loop_is x own room (rooms_loop x (map numbered named.points) (map (λ y. kept y false) named.sub.formals)
      (λ p has. (let from = Has-map_from numbered named.points p has in subst (λ (z : FlowPoint). Turns x z.instr) from.2 (turns from.0 from.1)))
      (formals_loop x named.sub.formals lacks))

-- ---- all of a program

module _ (table : Table) (program : TypedProgram) (arranged : IsArranged table program) where
  abbrev s : Typing
  s = typing_of table program

  abbrev flow : FlowProgram
  flow = flow_program table program

  abbrev f : Typing
  f = flow_typing flow

  object_same : (x : ℕ) → x < length program.objects → object_at f x ≡ object_at s x
  unfolding flow_program
  object_same x low = object_kept program.objects (map temporary_object (flat_map (λ (n : NamedSub). n.temporaries) (flow_named table program))) x low

  package_same : (x : ℕ) → x < length program.objects → is_package_object f x ≡ is_package_object s x
  package_same x low = ap (λ (o : Object). is_some o.«package» && not (is_state o.kind)) (object_same x low)

  -- subprograms that are laid out
  abbrev first : NamedSub
  first = elaborated s arranged.first

  flow_subs : flow.subs ≡ flow_sub s first ∷ map (flow_sub s) (named_subs s (length s.objects) arranged.rest)
  unfolding flow_program
  flow_subs = ap (λ l. map (flow_sub s) (all_named s l)) arranged.subs

  first_is : sub_of flow 0 ≡ flow_sub s first
  first_is = ap (λ (l : List FlowSub). get_or l 0 no_sub) flow_subs

  -- objects of packages
  package_room : (x : ℕ) → Has (declared_within arranged.first.body) x → has_room x (codes.objects_of (sub_of flow 0)) ≡ true
  package_room x has =
      subst (λ (u : FlowSub). has_room x (codes.objects_of u) ≡ true) (sym first_is)
      (point_room s first x (laid_stands (unnumbered s) arranged.first [] x arranged.elaborated.placed has))

  first_low : (x : ℕ) → Has (declared_within arranged.first.body) x → x < length program.objects
  first_low x has = arranged.elaborated.within x (Has-append_right arranged.first.formals (declared_within arranged.first.body) x has)

  -- whichever subprogram names it
  package_has : (c : Site) → c.typing ≡ f → c.package_objects ≡ codes.objects_of (sub_of flow 0) → (x : ℕ) → is_package_object s x ≡ true → HasRoom c x
  package_has c same is x of =
      let has = arranged.package_declared x of in
      subst (λ b. (if b then has_room x c.package_objects else has_room x c.own) ≡ true)
      (sym (ap (λ t. is_package_object t x) same ∙ package_same x (first_low x has) ∙ of))
      (subst (λ all. has_room x all ≡ true) (sym is) (package_room x has))

  -- ---- the first subprogram

  abbrev first_site : Site
  first_site = site_of flow (flow_sub s first)

  first_own : (x : ℕ) → Has (declared_within arranged.first.body) x → IsOwn first_site true x
  first_own x has = (
    package_same x (first_low x has) ∙ arranged.of_package x has,
    point_room s first x (laid_stands (unnumbered s) arranged.first [] x arranged.elaborated.placed has),
  )

  abbrev FirstTurns : ℕ → Type 0
  FirstTurns x = IsOwn first_site true x × (is_loop x first_site.own ≡ true)

  abbrev FirstAsked : Instruction → Type 0
  FirstAsked i = Asked (HasRoom first_site) (IsOwn first_site true) FirstTurns i

  first_declares : (i : Instruction) → FirstAsked i → Declares first_site true i
  first_declares (instruction.Declare x v) h = h.2
  first_declares (instruction.EndScope x) h = h.2
  first_declares (instruction.Start x reversed low high) h = h.2
  first_declares (instruction.Next x reversed low high) h = h.2
  first_declares i h = tt

  no_formals : (x : ℕ) → Has (reverse arranged.first.formals) x → ⊥
  no_formals x has = subst (λ xs. Has xs x) arranged.no_formals (has_reverse arranged.first.formals x has)

  first_points : AllByRecursion (λ (q : NamedPoint). FirstAsked q.instr) first.points
  first_points =
      package_asked FirstAsked (IsOwn first_site true) (asks (HasRoom first_site) (IsOwn first_site true) FirstTurns) (unnumbered s) arranged.first
      (all_of (IsOwn first_site true) (declared arranged.first.body) (λ x has. first_own x (declared_within_has arranged.first.body x has)))
      (suited_uses (HasRoom first_site) (IsOwn first_site true) FirstTurns (is_package_object s) (λ x of. package_has first_site refl refl x of) arranged.first.body (reverse arranged.first.formals)
      arranged.elaborated.seen (λ x has. absurd (no_formals x has)) (record {
        rooms = λ x has. package_has first_site refl refl x (arranged.of_package x has);
        owned = λ x has. first_own x (plain_within arranged.first.body x has);
        turned = λ x has. absurd (no_parameters arranged.first.body x arranged.declares has);
        words = arranged.elaborated.words;
      }))

  first_placed : (p : FlowPoint) → Has (flow_sub s first).points p
      → IsPlaced first_site true (length (flow_sub s first).points) p × IsDeclaration p.instr
  first_placed p has =
      let from = Has-map_from (numbered s first) first.points p has in
      let asked = all_has (λ (q : NamedPoint). FirstAsked q.instr) first.points from.0 first_points from.1 in
      let declares = all_has IsDeclared first.points from.0 (package_declares (unnumbered s) arranged.first arranged.declares arranged.no_calls) from.1 in
      let i = ap (λ (z : FlowPoint). z.instr) from.2 in (
        record {
          named = subst (λ i. Every (HasRoom first_site) (named_in i)) i asked.0;
          literals = subst (λ i. (n : ℕ) → Has (literals_in i) n → n ≤ max_position) i asked.1;
          declares = subst (Declares first_site true) i (first_declares from.0.instr asked);
          within = λ n next. all_numbers s program.subs (flow_sub s first) (subst (λ subs. Has (map (flow_sub s) (all_named s subs)) (flow_sub s first)) (sym arranged.subs) (inl refl)) p n has next;
        },
        subst IsDeclaration (sym declares.2 ∙ i) tt,
      )

  -- ---- another one

  module _ (sub : TypedSub) (in_rest : Has arranged.rest sub) (m : ℕ) where
    abbrev here : NamedSub
    here = named_sub s m (sub_temporaries s sub) sub

    abbrev setting : Setting
    setting = record { typing = s; temporary = numbers_from m (sub_temporaries s sub) }

    abbrev c : Site
    c = site_of flow (flow_sub s here)

    abbrev is : IsArrangedSub s sub
    is = arranged.local sub in_rest

    own_room : (x : ℕ) → Has (objects_of sub) x → has_room x c.own ≡ true
    own_room x has = elim (Has-append_cases sub.formals (declared_within sub.body) x has) [
      | inl formal ↦ formal_own s here x formal
      | inr declared ↦ point_room s here x
          (laid_stands setting sub (if is_some sub.result then function_end sub else procedure_end setting sub) x is.placed declared)
    ]

    no_package : (x : ℕ) → Has (objects_of sub) x → is_package_object f x ≡ false
    no_package x has = package_same x (is.within x has) ∙ arranged.own sub in_rest x has

    own_has : (x : ℕ) → Has (objects_of sub) x → HasRoom c x
    own_has x has = subst (λ b. (if b then has_room x c.package_objects else has_room x c.own) ≡ true) (sym (no_package x has)) (own_room x has)

    own_is : (x : ℕ) → Has (objects_of sub) x → IsOwn c false x
    own_is x has = (no_package x has, own_room x has)

    declared_object : (x : ℕ) → Has (declared_within sub.body) x → Has (objects_of sub) x
    declared_object x has = Has-append_right sub.formals (declared_within sub.body) x has

    -- what points declare is no parameter of a loop
    abbrev PlainAsked : Instruction → Type 0
    PlainAsked i = Asked (λ x. Unit {0}) (λ x. Has (plain_objects sub.body) x) (λ x. Unit {0}) i

    plain_points : AllByRecursion (λ (q : NamedPoint). PlainAsked q.instr) here.points
    plain_points =
        sub_asked PlainAsked (λ x. Has (plain_objects sub.body) x) (asks (λ x. Unit {0}) (λ x. Has (plain_objects sub.body) x) (λ x. Unit {0})) setting sub
        (all_of (λ x. Has (plain_objects sub.body) x) (declared sub.body) (λ x has. declared_plain sub.body x has))
        (suited_uses (λ x. Unit {0}) (λ x. Has (plain_objects sub.body) x) (λ x. Unit {0}) (is_package_object s) (λ x of. tt) sub.body (reverse sub.formals)
        is.seen (λ x has. tt) (record { rooms = λ x has. tt; owned = λ x has. has; turned = λ x has. tt; words = is.words }))

    turns : (x : ℕ) (i : Instruction) → Has (parameters sub.body) x → PlainAsked i → Turns x i
    turns x (instruction.Declare y v) there asked = λ same. apart sub.body x (once_right sub.formals (declared_within sub.body) is.once) (subst (λ z. Has (plain_objects sub.body) z) same asked.2) there
    turns x i there asked = tt

    loop_is_own : (x : ℕ) → Has (parameters sub.body) x → IsOwn c false x × (is_loop x c.own ≡ true)
    loop_is_own x there =
        let declared = parameters_within sub.body x there in (
          own_is x (declared_object x declared),
          loop_own s here x (λ formal. once_apart sub.formals (declared_within sub.body) x is.once formal declared)
              (λ q has. turns x q.instr there (all_has (λ (q : NamedPoint). PlainAsked q.instr) here.points q plain_points has)) (own_room x (declared_object x declared)),
        )

    abbrev OwnTurns : ℕ → Type 0
    OwnTurns x = IsOwn c false x × (is_loop x c.own ≡ true)

    abbrev OwnAsked : Instruction → Type 0
    OwnAsked i = Asked (HasRoom c) (IsOwn c false) OwnTurns i

    own_declares : (i : Instruction) → OwnAsked i → Declares c false i
    own_declares (instruction.Declare x v) h = h.2
    own_declares (instruction.EndScope x) h = h.2
    own_declares (instruction.Start x reversed low high) h = h.2
    own_declares (instruction.Next x reversed low high) h = h.2
    own_declares i h = tt

    own_points : AllByRecursion (λ (q : NamedPoint). OwnAsked q.instr) here.points
    own_points =
        sub_asked OwnAsked (IsOwn c false) (asks (HasRoom c) (IsOwn c false) OwnTurns) setting sub
        (all_of (IsOwn c false) (declared sub.body) (λ x has. own_is x (declared_object x (declared_within_has sub.body x has))))
        (suited_uses (HasRoom c) (IsOwn c false) OwnTurns (is_package_object s) (λ x of. package_has c refl refl x of) sub.body (reverse sub.formals) is.seen
        (λ x has. own_has x (Has-append_left sub.formals (declared_within sub.body) x (has_reverse sub.formals x has))) (record {
          rooms = λ x has. own_has x (declared_object x has);
          owned = λ x has. own_is x (declared_object x (plain_within sub.body x has));
          turned = loop_is_own;
          words = is.words;
        }))

    sub_placed : Has (map (flow_sub s) (all_named s program.subs)) (flow_sub s here) → (p : FlowPoint) → Has (flow_sub s here).points p → IsPlaced c false (length (flow_sub s here).points) p
    sub_placed there p has =
        let from = Has-map_from (numbered s here) here.points p has in
        let asked = all_has (λ (q : NamedPoint). OwnAsked q.instr) here.points from.0 own_points from.1 in
        let i = ap (λ (z : FlowPoint). z.instr) from.2 in
        record {
          named = subst (λ i. Every (HasRoom c) (named_in i)) i asked.0;
          literals = subst (λ i. (n : ℕ) → Has (literals_in i) n → n ≤ max_position) i asked.1;
          declares = subst (Declares c false) i (own_declares from.0.instr asked);
          within = λ n next. all_numbers s program.subs (flow_sub s here) there p n has next;
        }

  other_placed : (sub : FlowSub) → Has (map (flow_sub s) (named_subs s (length s.objects) arranged.rest)) sub → (p : FlowPoint) → Has sub.points p
      → IsPlaced (site_of flow sub) false (length sub.points) p
  other_placed sub has p point =
      let laid_out = Has-map_from (flow_sub s) (named_subs s (length s.objects) arranged.rest) sub has in
      let found = in_named s (length s.objects) arranged.rest laid_out.0 laid_out.1 in
      let same : flow_sub s (named_sub s found.2 (sub_temporaries s found.0) found.0) ≡ sub = ap (flow_sub s) found.3 ∙ laid_out.2 in
      let there : Has (map (flow_sub s) (all_named s program.subs)) sub =
      subst (λ subs. Has (map (flow_sub s) (all_named s subs)) sub) (sym arranged.subs) (inr has) in
      subst (λ (u : FlowSub). Has u.points p → IsPlaced (site_of flow u) false (length u.points) p) same
      (λ at. sub_placed found.0 found.1 found.2 (subst (λ u. Has (map (flow_sub s) (all_named s program.subs)) u) (sym same) there) p at) point

  -- The law.
  pub are_placed : ArePlaced flow flow.subs
  are_placed = subst (ArePlaced flow) (sym flow_subs) (first_placed, other_placed)
