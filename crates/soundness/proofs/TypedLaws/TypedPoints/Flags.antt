-- What an expression means doesn't depend on whether a loop stands around it, nor on whether it is
-- the initial value of a package object: only which sentences it breaks does.
use Rattle.std.proofs.Common.{◌≡◌, refl, ap, ◌∙◌, ℕ, ◌+◌, Bool, ◌∷◌, negsuc, if◌then◌else◌}
use Rattle.machine.specs.resolved_tree.Trees.{Tree, Number, Text, Null, Named, Parens, Unary, Binary, Aggregate, Others, New, Selected, All, Applied, Attr, Argument, NoMore, More, position}
use Rattle.machine.specs.type_definitions.declared.table.Entry.{Entry}
use Rattle.machine.specs.type_definitions.declared.table.Entry.TheVariants as entry
use Rattle.machine.specs.type_definitions.declared.judgement.Next.{Next}
use Rattle.machine.specs.type_definitions.declared.judgement.Next.TheVariants.{Goes, Gives, Stops}
use Rattle.machine.specs.type_definitions.declared.judgement.Role.{Role}
use Rattle.machine.specs.type_definitions.declared.judgement.Role.TheVariants as role
use Rattle.machine.specs.type_definitions.Entries.{entry_of, integer, marked}
use Rattle.machine.specs.type_definitions.Statics.{is_alone}
use Rattle.machine.specs.type_definitions.Names.{Context, seen, step, through, reading_of, along, led_on, of_entry, of_type}
use Rattle.machine.specs.type_definitions.Expressions.{Given, own_of, own_type, role_type, operand_type, unary_type, element_type, is_null, next_type}
use Rattle.machine.specs.typed_tree.Trees.{TypedTree, typed_list}
use Rattle.machine.specs.typed_tree.Trees as typed
use Rattle.machine.specs.typed_tree.Expressions.{Site, designating, element, object_type, typed_name, operands, arguments_given, called_function, typed_expression, typed_steps, typed_step, typed_actuals, typed_imaged, typed_first, typed_values}
use Rattle.machine.specs.flow_paths.Objects.{Typing}
use Rattle.soundness.specs.TypedLaws.Fine.{IsMeant, AreSuffixes, IsSuffix, AreArguments}

abbrev pub flagged : Bool → Bool → Context → Context
flagged looped starts c = record c { in_loop = looped; starts = starts }

abbrev pub at_flags : Bool → Bool → Site → Site
at_flags looped starts s = record s { context = flagged looped starts s.context }

module _ (looped starts : Bool) where
  -- ---- names

  step_same : (c : Context) (a : Tree) (t : ℕ) → step (flagged looped starts c) a t ≡ step c a t
  unfolding step seen
  step_same c (Selected w) t = refl
  step_same c (Applied args) t = refl
  step_same c All t = refl
  step_same c (Attr a) t = refl
  step_same c a t = refl

  along_same : (c : Context) (t : ℕ) (rest : Tree) → along (flagged looped starts c) t rest ≡ along c t rest
  unfolding along
  along_same c t (More a rest) = ap (led_on (λ u. along (flagged looped starts c) u rest) rest) (step_same c a t) ∙ by (step c a t) (λ u. along_same c u rest)
    where
      by : (n : Next) → ((u : ℕ) → along (flagged looped starts c) u rest ≡ along c u rest)
          → led_on (λ u. along (flagged looped starts c) u rest) rest n ≡ led_on (λ u. along c u rest) rest n
      by (Goes u) on = on u
      by (Gives v) on = refl
      by Stops on = refl
  along_same c t rest = refl

  type_same : (c : Context) (t : ℕ) (rest : Tree) → of_type (flagged looped starts c) t rest ≡ of_type c t rest
  unfolding seen
  type_same c t (More (Attr a) rest) = refl
  type_same c t rest = refl

  entry_same : (c : Context) (d : ℕ) (e : Entry) (rest : Tree) → of_entry (flagged looped starts c) d e rest ≡ of_entry c d e rest
  entry_same c d (entry.Object o) rest = along_same c o.of rest
  entry_same c d entry.Type rest = type_same c d rest
  entry_same c d e rest = refl

  pub reading_same : (c : Context) (d : ℕ) (rest : Tree) → reading_of (flagged looped starts c) d rest ≡ reading_of c d rest
  unfolding reading_of
  reading_same c d rest = entry_same c d (entry_of c.known d) rest

  role_same : (c : Context) (for : Role) (i : ℕ) (w : Given) → role_type (flagged looped starts c) for i w ≡ role_type c for i w
  unfolding seen
  role_same c (role.Parts t) i w = refl
  role_same c (role.Actuals f) i w = refl
  role_same c (role.Allocated t) i w = refl
  role_same c (role.Every t) i w = refl

  -- ---- what is meant

  mutual
    unfolding typed_expression typed_steps typed_step typed_actuals typed_imaged typed_first typed_values seen

    pub typed_same : (s : Site) (want : ℕ) (e : Tree) → typed_expression (at_flags looped starts s) want e ≡ typed_expression s want e
    typed_same s want (Named p d rest) =
        let z = at_flags looped starts s in
        let t = object_type (entry_of s.context.known d) in
        let old = reading_of z.context d rest in
        let new = reading_of s.context d rest in
        let read = reading_same s.context d rest in
        let acted : typed_actuals z (called_function old) rest ≡ typed_actuals s (called_function new) rest =
        ap (λ r. typed_actuals z (called_function r) rest) read ∙ actuals_same s (called_function new) rest in
        ap (λ r. typed_name s p d r (typed_steps z t rest) (typed_actuals z (called_function old) rest) (typed_imaged z rest)) read
        ∙ ap (λ x. typed_name s p d new x (typed_actuals z (called_function old) rest) (typed_imaged z rest)) (steps_same s t rest)
        ∙ ap (λ x. typed_name s p d new (typed_steps s t rest) x (typed_imaged z rest)) acted
        ∙ ap (λ x. typed_name s p d new (typed_steps s t rest) (typed_actuals s (called_function new) rest) x) (imaged_same s rest)
    typed_same s want (Parens p e) = ap typed.Parens (typed_same s want e)
    typed_same s want (Unary p op e) =
        ap (λ x. if is_alone op e then typed.Number (negsuc 2147483647) else typed.Unary op x) (typed_same s (unary_type op) e)
    typed_same s want (Binary p op a b) =
        ap (λ x. operands op (position a) (position b) (is_null a) (is_null b) x (typed_expression (at_flags looped starts s) (operand_type op) b)) (typed_same s (operand_type op) a)
        ∙ ap (λ x. operands op (position a) (position b) (is_null a) (is_null b) (typed_expression s (operand_type op) a) x) (typed_same s (operand_type op) b)
    typed_same s want (Aggregate p args) =
        ap (λ x. typed.Aggregate want (arguments_given s.context (role.Parts want) args x)) (values_same s (role.Parts want) 0 args)
    typed_same s want (Others p e) = ap (typed.Alike want) (typed_same s (element_type (seen s.context want)) e)
    typed_same s want (New p m v) =
        ap (λ x. typed.New (marked s.context.known m) (typed_list x)) (values_same s (role.Allocated (marked s.context.known m)) 0 v)
    typed_same s want e = refl

    steps_same : (s : Site) (t : ℕ) (rest : Tree) → typed_steps (at_flags looped starts s) t rest ≡ typed_steps s t rest
    steps_same s t (More a rest) =
        let z = at_flags looped starts s in
        ap (λ n. typed_step z t a (typed_steps z (next_type n) rest)) (step_same s.context a t)
        ∙ ap (typed_step z t a) (steps_same s (next_type (step s.context a t)) rest)
        ∙ one_step_same s t a (typed_steps s (next_type (step s.context a t)) rest)
    steps_same s t rest = refl

    one_step_same : (s : Site) (t : ℕ) (a : Tree) (behind : TypedTree) → typed_step (at_flags looped starts s) t a behind ≡ typed_step s t a behind
    one_step_same s t (Selected w) behind = refl
    one_step_same s t All behind = refl
    one_step_same s t (Applied args) behind =
        ap (λ x. designating (seen s.context t) (element (seen s.context (through (seen s.context t) t)) x behind)) (first_same s integer args)
    one_step_same s t a behind = refl

    actuals_same : (s : Site) (f : ℕ) (rest : Tree) → typed_actuals (at_flags looped starts s) f rest ≡ typed_actuals s f rest
    actuals_same s f (More (Applied args) rest) = ap (arguments_given s.context (role.Actuals f) args) (values_same s (role.Actuals f) 0 args)
    actuals_same s f rest = refl

    imaged_same : (s : Site) (rest : Tree) → typed_imaged (at_flags looped starts s) rest ≡ typed_imaged s rest
    imaged_same s (More a (More (Applied args) rest)) = first_same s integer args
    imaged_same s rest = refl

    pub first_same : (s : Site) (want : ℕ) (args : Tree) → typed_first (at_flags looped starts s) want args ≡ typed_first s want args
    first_same s want (Argument w e rest) = typed_same s want e
    first_same s want args = refl

    values_same : (s : Site) (for : Role) (i : ℕ) (args : Tree) → typed_values (at_flags looped starts s) for i args ≡ typed_values s for i args
    values_same s for i (Argument w e rest) =
        let z = at_flags looped starts s in
        ap (λ t. typed_expression z t e ∷ typed_values z for (i + 1) rest) (role_same s.context for i w)
        ∙ ap (λ x. x ∷ typed_values z for (i + 1) rest) (typed_same s (role_type s.context for i w) e)
        ∙ ap (λ xs. typed_expression s (role_type s.context for i w) e ∷ xs) (values_same s for (i + 1) rest)
    values_same s for i args = refl

  pub own_same : (c : Context) (e : Tree) → own_type (flagged looped starts c) e ≡ own_type c e
  unfolding own_type
  own_same c (Named p d rest) = ap (own_of c.known) (reading_same c d rest)
  own_same c (Parens p e) = own_same c e
  own_same c e = refl

  -- ---- trees of the grammar

  mutual
    unfolding IsMeant AreSuffixes IsSuffix AreArguments

    pub meant_same : (s : Site) (y : Typing) (e : Tree) → IsMeant s y e → IsMeant (at_flags looped starts s) y e
    meant_same s y (Number p n) h = tt
    meant_same s y (Text p t) h = tt
    meant_same s y (Null p) h = tt
    meant_same s y (Named p d rest) h = (h.0, suffixes_same s y rest h.1)
    meant_same s y (Parens p e) h = meant_same s y e h
    meant_same s y (Unary p op e) h = meant_same s y e h
    meant_same s y (Binary p op a b) h = (meant_same s y a h.0, meant_same s y b h.1)
    meant_same s y (Aggregate p args) h = arguments_same s y args h
    meant_same s y (Others p e) h = meant_same s y e h
    meant_same s y (New p m v) h = (h.0, arguments_same s y v h.1)
    meant_same s y e h = absurd h

    suffixes_same : (s : Site) (y : Typing) (e : Tree) → AreSuffixes s y e → AreSuffixes (at_flags looped starts s) y e
    suffixes_same s y (More a rest) h = (suffix_same s y a h.0, suffixes_same s y rest h.1)
    suffixes_same s y NoMore h = tt
    suffixes_same s y e h = absurd h

    suffix_same : (s : Site) (y : Typing) (e : Tree) → IsSuffix s y e → IsSuffix (at_flags looped starts s) y e
    suffix_same s y (Selected w) h = tt
    suffix_same s y All h = tt
    suffix_same s y (Applied args) h = arguments_same s y args h
    suffix_same s y (Attr a) h = tt
    suffix_same s y e h = absurd h

    arguments_same : (s : Site) (y : Typing) (e : Tree) → AreArguments s y e → AreArguments (at_flags looped starts s) y e
    arguments_same s y (Argument w e rest) h = (meant_same s y e h.0, arguments_same s y rest h.1)
    arguments_same s y NoMore h = tt
    arguments_same s y e h = absurd h
