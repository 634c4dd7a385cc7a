-- What only sees in an accepted program: a borrower does, if what it is declared from does, and only then. A
-- borrower that does has a formal of its function for a root.
use Rattle.std.specs.Prelude.{flat_map}
use Rattle.std.proofs.Common.{◌≡◌, refl, sym, ap, ◌∙◌, subst, inl, inr, ℕ, ◌<◌, Bool, true, false, not, ◌&&◌, ◌||◌, List, [], ◌∷◌, map, length, Some, if◌then◌else◌}
use Rattle.std.proofs.lemmas.Bool.{false≢true, true≢false}
use Rattle.machine.specs.spark_base.Lists.{Has}
use Rattle.soundness.proofs.Lists.{Has-append_left, Has-append_right, Has-append_cases, Has-map, Has-map_from}
use Rattle.machine.specs.place_names.declared.act.Act.{Act}
use Rattle.machine.specs.place_names.declared.act.Act.TheVariants as act
use Rattle.machine.specs.place_names.declared.act.Placed.{Placed}
use Rattle.machine.specs.place_names.Names.{Name as PlaceName}
use Rattle.machine.specs.type_definitions.declared.judgement.View.{View}
use Rattle.machine.specs.type_definitions.declared.judgement.View.TheVariants as view
use Rattle.machine.specs.type_definitions.Types.{Table, is_owning}
use Rattle.machine.specs.typed_tree.declared.object.ObjectKind.{ObjectKind}
use Rattle.machine.specs.typed_tree.declared.object.ObjectKind.TheVariants as object_kind
use Rattle.machine.specs.typed_tree.Trees.{TypedTree, NoMore, More}
use Rattle.machine.specs.typed_tree.Programs.{TypedProgram}
use Rattle.machine.specs.spark_base.declared.position.Pos.{Pos}
use Rattle.machine.specs.flow_paths.declared.report.Effects.{Effects}
use Rattle.machine.specs.flow_paths.Instructions.{Declare}
use Rattle.machine.specs.flow_paths.Acts.{acts_of, source_acts, acts_in, observe}
use Rattle.machine.specs.flow_paths.Names.{Written, name_of, source, first}
use Rattle.machine.specs.flow_paths.Objects.{Typing, object_at, is_variable, is_borrower, is_borrowing, is_observer, is_observing, is_anonymous, is_formal, is_formal_kind, view_of}
use Rattle.machine.specs.flow_paths.Points.{NamedPoint, FlowPoint}
use Rattle.machine.specs.flow_paths.Laid.{FlowSub, FlowProgram, NamedSub, declared_within, kept_roots, sub_facts, flow_sub, typing_of, flow_typing, flow_program, flow_named}
use Rattle.machine.specs.flow_paths.Views.{sub_acts}
use Rattle.machine.specs.Owners.{is_in}
use Rattle.soundness.proofs.Points.{flow_at}
use Rattle.soundness.proofs.Scalars.{acts}
use Rattle.settled_types.specs.OrderLaws.ScopeLaws.Code.{Once, objects_of}
use Rattle.settled_types.proofs.OrderLaws.ScopeLaws.Lists.{and_first, and_second, once_right}
use Rattle.settled_types.proofs.OrderLaws.ScopeLaws.Values.{IsDeclared, declared_there, one_value, sub_declared}
use Rattle.settled_types.proofs.OrderLaws.ReadyLaws.Subs.{setting_from, object_named}
use Rattle.soundness.specs.ViewedSoundness.Holds.{is_given, is_exclusive, sees_only}
use Rattle.viewed_steps.specs.Seeing.{program_acts, sees_in}
use Rattle.viewed_steps.specs.Traversals.{IsSourceName}
use Rattle.viewed_steps.proofs.Sees.{borrower_sees, source_sees}
use Rattle.viewed_steps.proofs.Traversed.{source_named}
use Rattle.accepted_runs.specs.ViewedFiles.ViewLaws.Program.{IsViewProgram}
use Rattle.accepted_runs.proofs.ViewedFiles.ViewLaws.Reports.{not_observed}
use Rattle.accepted_runs.proofs.ViewedFiles.ViewLaws.Borrowing.{IsBorrow, borrow_is}
use Rattle.accepted_runs.proofs.ViewedFiles.ViewLaws.Scoped as scoped
use Rattle.accepted_runs.proofs.ViewedFiles.ViewLaws.Valued as valued
use Rattle.accepted_runs.proofs.ViewedFiles.ViewLaws.Points as points
use Rattle.accepted_runs.proofs.ViewedFiles.ViewLaws.Constructors.{declared_object}

-- ---- lists

flat_has : {A B : Type 0} (f : A → List B) (xs : List A) (x : A) (y : B) → Has xs x → Has (f x) y → Has (flat_map f xs) y
flat_has f [] x y has there = absurd has
flat_has f (z ∷ xs) x y (inl same) there = Has-append_left (f z) (flat_map f xs) y (subst (λ w. Has (f w) y) (sym same) there)
flat_has f (z ∷ xs) x y (inr has) there = Has-append_right (f z) (flat_map f xs) y (flat_has f xs x y has there)

flat_from : {A B : Type 0} (f : A → List B) (xs : List A) (y : B) → Has (flat_map f xs) y → (x : A) × Has xs x × Has (f x) y
flat_from f [] y has = absurd has
flat_from f (z ∷ xs) y has = elim (Has-append_cases (f z) (flat_map f xs) y has) [
  | inl here ↦ (z, inl refl, here)
  | inr later ↦ (let found = flat_from f xs y later in (found.0, inr found.1, found.2))
]

some_same : {A : Type 0} (a b : A) → Some a ≡ Some b → a ≡ b
some_same a b is = cc

-- ---- borrowers

-- a view is a borrower or an observer
one_kind : (v : View) → is_borrowing v ≡ true → is_observing v ≡ false
one_kind (view.Access d true true) is = absurd (false≢true is)
one_kind (view.Access d true false) is = absurd (false≢true is)
one_kind (view.Access d false true) is = absurd (false≢true is)
one_kind (view.Access d false false) is = refl
one_kind v is = absurd (false≢true is)

module _ (s : Typing) (x : ℕ) (borrows : is_borrower s x ≡ true) where
  pub borrower_anonymous : is_anonymous (view_of s x) ≡ true
  borrower_anonymous = ap (λ b. b || is_observing (view_of s x)) (and_second (is_variable (object_at s x).kind) (is_borrowing (view_of s x)) borrows)

  pub borrower_observes : is_observer s x ≡ false
  borrower_observes =
      (λ j. and_first (is_variable (object_at s x).kind) (is_borrowing (view_of s x)) borrows j
      && one_kind (view_of s x) (and_second (is_variable (object_at s x).kind) (is_borrowing (view_of s x)) borrows) j)

-- it isn't one that sees by itself
no_formal : (k : ObjectKind) → is_variable k ≡ true → is_formal_kind k ≡ false
no_formal object_kind.Variable is = refl
no_formal k is = absurd (false≢true is)

unseen : (observes given exclusive : Bool) → observes ≡ false → given ≡ false → observes || (given && not exclusive) ≡ false
unseen true given exclusive none other = none
unseen false true exclusive none other = absurd (true≢false other)
unseen false false exclusive none other = refl

not_given : (formal inn owning anonymous : Bool) → formal ≡ false → ((formal && inn) && owning) || ((formal && inn) && anonymous) ≡ false
not_given true inn owning anonymous none = absurd (true≢false none)
not_given false inn owning anonymous none = refl

pub borrower_plain : (s : Typing) (x : ℕ) → is_borrower s x ≡ true → sees_only s x ≡ false
borrower_plain s x borrows =
    unseen (is_observer s x) (is_given s x) (is_exclusive s x) (borrower_observes s x borrows)
    (not_given (is_formal s x) (is_in (object_at s x).mode) (is_owning s.table (object_at s x).of) (is_anonymous (view_of s x))
    (no_formal (object_at s x).kind (and_first (is_variable (object_at s x).kind) (is_borrowing (view_of s x)) borrows)))

-- the name that a source is
source_is : (s : Typing) (of : ℕ) (v : TypedTree) (q : Pos) (y : ℕ) (path : TypedTree) (u : ℕ) → IsSourceName s of v q y path u
    → (w : Written) × (source v ≡ Some w) × (w.name ≡ name_of y path)
source_is s of v q y path u (inl is) = (record { pos = q; name = name_of y path; of = u }, ap source is, refl)
source_is s of v q y path u (inr (r, n, more, is, gives)) = (record { pos = q; name = name_of y path; of = u }, ap source is, refl)

-- ---- programs

module _ (table : Table) (typed : TypedProgram) (effects : Effects) (given : IsViewProgram table typed effects) where
  abbrev program : FlowProgram
  program = flow_program table typed

  abbrev s : Typing
  s = flow_typing program

  abbrev own : Typing
  own = typing_of table typed

  -- An act at a point declares a borrower of a name.
  pub record IsBorrowed (x : ℕ) (m : PlaceName) : Type 0 where
    pub named : NamedSub
    pub has : Has (flow_named table typed) named
    pub point : NamedPoint
    pub there : Has named.points point
    pub act_is : Placed
    pub act_there : Has (flow_at own named point).acts act_is
    pub is : act_is.act ≡ act.Borrow x m

  pub borrowed_here : (x : ℕ) (m : PlaceName) → Has (program_acts program) (act.Borrow x m) → IsBorrowed x m
  unfolding flow_program
  borrowed_here x m has =
      let sub = flat_from sub_acts program.subs (act.Borrow x m) has in
      let p = flat_from (λ (z : FlowPoint). map (λ (a : Placed). a.act) z.acts) (sub.0).points (act.Borrow x m) sub.2 in
      let a = Has-map_from (λ (a : Placed). a.act) (p.0).acts (act.Borrow x m) p.2 in
      let named = Has-map_from (flow_sub own) (flow_named table typed) sub.0 sub.1 in
      let q = Has-map_from (λ (z : NamedPoint). flow_at own named.0 z) (named.0).points p.0 (subst (λ (z : FlowSub). Has z.points p.0) (sym named.2) p.1) in
      record {
        named = named.0;
        has = named.1;
        point = q.0;
        there = q.1;
        act_is = a.0;
        act_there = subst (λ (z : FlowPoint). Has z.acts a.0) (sym q.2) a.1;
        is = a.2;
      }

  module _ (x : ℕ) (m : PlaceName) (b : IsBorrowed x m) where
    declared : IsBorrow s b.point.instr x m
    declared =
        borrow_is s b.named.sub.result (kept_roots own 0 own.objects (sub_facts own b.named.sub b.named.points)) b.point.pos b.point.instr b.act_is
        (subst (λ ps. Has ps b.act_is)
        (sym (scoped.acts_same table typed effects given b.named b.has b.point b.there b.named.sub.result (kept_roots own 0 own.objects (sub_facts own b.named.sub b.named.points))))
        b.act_there) x m b.is

    pub inside : Has (valued.bodies table typed effects given) b.named
    inside = elim (valued.where_is table typed effects given b.named b.has) [
      | inr found ↦ found
      | inl e ↦ absurd (
          let found = points.package_there table typed effects given b.named b.has e b.point b.there in
          let both : Declare x declared.value ≡ Declare found.0 found.1 = sym declared.declares ∙ found.2 in
          let same : x ≡ found.0 = ap (declared_object x) both in
          let no : true ≡ false = sym (borrower_anonymous s x declared.borrows) ∙ ap (λ z. is_anonymous (view_of s z)) same ∙ found.3 in absurd (true≢false no))
    ]

    abbrev pub body : scoped.OfBody table typed effects given b.named
    body = valued.body table typed effects given b.named b.has inside

    -- the text declares it
    in_text : IsDeclared x declared.value b.named.sub.body
    in_text =
        subst (λ (z : NamedSub). IsDeclared x declared.value z.sub.body) body.4
        (sub_declared (setting_from own body.2 body.0) body.0 b.point (subst (λ (z : NamedSub). Has z.points b.point) (sym body.4) b.there) x declared.value declared.declares)

    pub object_there : Has (objects_of b.named.sub) x
    object_there = Has-append_right b.named.sub.formals (declared_within b.named.sub.body) x (declared_there x declared.value b.named.sub.body in_text)

    numbered_once : Once (declared_within b.named.sub.body)
    numbered_once =
        once_right b.named.sub.formals (declared_within b.named.sub.body)
        (subst (λ (z : NamedSub). Once (objects_of z.sub)) body.4 (given.order.bodies body.0 (scoped.in_subs table typed effects given body.0 body.1)).once)

    -- it has a greater number than what it is declared from
    less : m.root < x
    less =
        let d = points.declared_there table typed effects given b.named b.has body b.point b.there x declared.value declared.declares (borrower_anonymous s x declared.borrows) in
        let w = source_is s (object_at s x).of d.4 d.0 d.1 d.2 d.3 d.6 in
        let same : declared.from ≡ w.0 = some_same declared.from w.0 (sym declared.source_is ∙ ap (λ z. source (first z)) d.5 ∙ w.1) in
        let root : d.1 ≡ m.root = sym (ap (λ (z : PlaceName). z.root) (sym declared.name_is ∙ ap (λ (z : Written). z.name) same ∙ w.2)) in
        subst (λ z. z < x) root (d.8 (borrower_observes s x declared.borrows))

  pub all_less : (x : ℕ) (m : PlaceName) → Has (program_acts program) (act.Borrow x m) → m.root < x
  all_less x m has = less x m (borrowed_here x m has)

  -- ---- one declaration

  -- An object of two bodies is that of one.
  pub one_body : (a b : NamedSub) → Has (valued.bodies table typed effects given) a → Has (valued.bodies table typed effects given) b
      → (x : ℕ) → Has (objects_of a.sub) x → Has (objects_of b.sub) x → a ≡ b
  one_body = object_named own (length own.objects) given.order.rest given.order.apart

  -- a borrower is declared from one name
  one_source : (x : ℕ) (m k : PlaceName) → IsBorrowed x m → IsBorrowed x k → m ≡ k
  one_source x m k b c =
      let d = declared x m b in
      let e = declared x k c in
      let same : b.named ≡ c.named = one_body b.named c.named (inside x m b) (inside x k c) x (object_there x m b) (object_there x k c) in
      let value : d.value ≡ e.value =
      one_value x d.value e.value b.named.sub.body (numbered_once x m b) (in_text x m b) (subst (λ (z : NamedSub). IsDeclared x e.value z.sub.body) (sym same) (in_text x k c)) in
      let from : d.from ≡ e.from = some_same d.from e.from (sym d.source_is ∙ ap (λ z. source (first z)) value ∙ e.source_is) in
      sym d.name_is ∙ ap (λ (z : Written). z.name) from ∙ e.name_is

  -- ---- where a borrower is declared

  module _ (named : NamedSub) (has : Has (flow_named table typed) named) (p : NamedPoint) (there : Has named.points p) where
    abbrev sub : FlowSub
    sub = flow_sub own named

    abbrev at : FlowPoint
    at = flow_at own named p

    abbrev kept : List ℕ
    kept = kept_roots own 0 own.objects (sub_facts own named.sub named.points)

    acts_there : (a : Act) → Has (acts (acts_of (record { typing = s; result = named.sub.result; roots = kept }) p.pos p.instr)) a → Has (acts at.acts) a
    acts_there a h = subst (λ ps. Has (acts ps) a) (scoped.acts_same table typed effects given named has p there named.sub.result kept) h

    pub act_of_sub : (a : Act) → Has (acts at.acts) a → Has (sub_acts sub) a
    act_of_sub a h =
        flat_has (λ (z : FlowPoint). map (λ (b : Placed). b.act) z.acts) sub.points at a (Has-map (λ (q : NamedPoint). flow_at own named q) named.points p there) h

    act_of_program : (a : Act) → Has (acts at.acts) a → Has (program_acts program) a
    act_of_program a h = flat_has sub_acts program.subs sub a (scoped.in_program table typed effects given named has) (act_of_sub a h)

    -- its act borrows
    act_there : (x : ℕ) (v : TypedTree) → p.instr ≡ Declare x (More v NoMore) → is_borrower s x ≡ true → (q : Pos) (y : ℕ) (path : TypedTree) (u : ℕ)
        → IsSourceName s (object_at s x).of v q y path u → Has (acts at.acts) (act.Borrow x (name_of y path))
    act_there x v is borrows q y path u source =
        acts_there (act.Borrow x (name_of y path))
        (subst (λ i. Has (acts (acts_of (record { typing = s; result = named.sub.result; roots = kept }) p.pos i)) (act.Borrow x (name_of y path))) (sym is)
        (subst (λ b. Has (acts (if b then source_acts s v (act.Borrow x) else (if is_observer s x then source_acts s v (observe s x) else acts_in s (More v NoMore)))) (act.Borrow x (name_of y path)))
        (sym borrows) (source_named s (object_at s x).of v q y path u source (act.Borrow x))))

    borrows_there : (x : ℕ) (v : TypedTree) → p.instr ≡ Declare x (More v NoMore) → is_borrower s x ≡ true → (q : Pos) (y : ℕ) (path : TypedTree) (u : ℕ)
        → IsSourceName s (object_at s x).of v q y path u → Has (program_acts program) (act.Borrow x (name_of y path))
    borrows_there x v is borrows q y path u source =
        act_of_program (act.Borrow x (name_of y path)) (act_there x v is borrows q y path u source)

    -- It sees just if what it is declared from does.
    pub sees_alike : (x : ℕ) (v : TypedTree) → p.instr ≡ Declare x (More v NoMore) → is_borrower s x ≡ true → (q : Pos) (y : ℕ) (path : TypedTree) (u : ℕ)
        → IsSourceName s (object_at s x).of v q y path u → sees_in program x ≡ sees_in program y
    sees_alike x v is borrows q y path u source = by (sees_in program x) (sees_in program y) refl refl
      where
        acts_borrow : Has (program_acts program) (act.Borrow x (name_of y path))
        acts_borrow = borrows_there x v is borrows q y path u source

        forth : sees_in program y ≡ true → sees_in program x ≡ true
        forth sees = borrower_sees program all_less x (name_of y path) borrows acts_borrow sees

        back : sees_in program x ≡ true → sees_in program y ≡ true
        back sees =
            let from = source_sees program all_less x sees (borrower_plain s x borrows) in
            let same : from.0 ≡ name_of y path = one_source x from.0 (name_of y path) (borrowed_here x from.0 from.1) (borrowed_here x (name_of y path) acts_borrow) in
            subst (λ (z : PlaceName). sees_in program z.root ≡ true) same from.2

        by : (b c : Bool) → sees_in program x ≡ b → sees_in program y ≡ c → b ≡ c
        by true c one other = sym (back one) ∙ other
        by false true one other = sym one ∙ forth other
        by false false one other = refl

    -- nor is that an observer
    pub source_plain : scoped.OfBody table typed effects given named → (x : ℕ) (v : TypedTree) → p.instr ≡ Declare x (More v NoMore) → is_borrower s x ≡ true → (q : Pos) (y : ℕ) (path : TypedTree) (u : ℕ)
        → IsSourceName s (object_at s x).of v q y path u → is_observer s y ≡ false
    source_plain body x v is borrows q y path u source =
        let from = Has-map_from (λ (a : Placed). a.act) at.acts (act.Borrow x (name_of y path)) (act_there x v is borrows q y path u source) in
        not_observed program effects given.accepted.no_reports sub (scoped.in_program table typed effects given named has)
        (points.formals_known table typed effects given named has body) at (scoped.in_sub table typed effects given named has p there) from.0 from.1 x (name_of y path) from.2
