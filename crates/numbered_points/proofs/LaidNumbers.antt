-- The points of statements, by numbers.
use Rattle.std.proofs.Common.{◌≡◌, ℕ, suc, ◌+◌, Bool, List, [], ◌∷◌, ◌++◌, length, refl, ap, ◌∙◌, arith, None}
use Rattle.std.specs.Prelude.{flat_map, reverse}
use Rattle.std.proofs.lemmas.List.{map-append}
use Rattle.spark_base.specs.declared.position.Pos.{Pos}
use Rattle.typed_tree.specs.Trees.{TypedTree, TypedCode, Declare, Assign, Skip, Output, Input, Release, If, Branch, Case, When, Loop, While, For, Exit, Return, Block, More}
use Rattle.typed_tree.specs.Trees as typed
use Rattle.flow_paths.specs.Instructions.{Instruction}
use Rattle.flow_paths.specs.Instructions as instruction
use Rattle.flow_paths.specs.Points.{Place, PointName, row_at, NamedPoint, point, entry, flow_point}
use Rattle.flow_paths.specs.Prep.{with_held, prep}
use Rattle.flow_paths.specs.Layout as layout
use Rattle.flow_paths.specs.Layout.{Around, within_loop, within_block, with_scope, declared, ending, ends, closing, uses, uses_both, choices_of, laid, laid_branches, laid_branch, laid_whens, laid_when}
use Rattle.flow_paths.specs.Laid.{Temporary}
use Rattle.flow_paths.proofs.Entries.{entry_same, same_entry}
use Rattle.numbered_points.specs.Extents.{prep_size, filled_in, Extent, Ways, size, code_extent, branches_extent, branch_extent, when_extent}
use Rattle.numbered_points.specs.Prepared.{make, next_of}
use Rattle.numbered_points.specs.Statements.{around_loop, around_block, ended, closed, used_both, unless_empty, whens_begin, laid_numbers, branches_numbers, branch_numbers, whens_numbers, when_numbers}
use Rattle.numbered_points.proofs.Fillings.{Measured}
use Rattle.numbered_points.proofs.PrepMeasured.{prep_temporaries}
use Rattle.numbered_points.proofs.UsesMeasured.{ends_measured, both_used_measured}
use Rattle.numbered_points.proofs.LaidMeasured.{code_temporaries, branches_temporaries, branch_temporaries, when_temporaries, laid_measured, branches_measured, branch_measured, when_measured}
use Rattle.numbered_points.proofs.Stands.{Plan, setting_of, numbers_of, made, Stands, stands_at, behind, front, chain, chain_on, entry_next}
use Rattle.numbered_points.proofs.UsesNumbers.{ends_made, last_made, last_begins, uses_made, uses_then, both_used_made, unless_numbers}

-- What stands around, with numbers.
abbrev pub ways_of : Plan → Around → Ways
ways_of l w = record { leave = numbers_of l w.leave; in_loop = w.in_loop; in_all = w.in_all }

-- Where statements begin, and what follows them.
stmts_begin : (l : Plan) (c : TypedCode) (at : Place) (w : Around) (k rest : List PointName) (n t : ℕ)
    → Stands l n t (laid (setting_of l) c at w k)
    → numbers_of l (entry (laid (setting_of l) c at w k) k ++ rest)
    ≡ next_of (size (code_extent l.maker.frame.typing c) (ways_of l w)) n (numbers_of l k) ++ numbers_of l rest
stmts_begin l c at w k rest n t s =
    let x : Extent = code_extent l.maker.frame.typing c in
    map-append l.number (entry (laid (setting_of l) c at w k) k) rest
    ∙ ap (λ ks. ks ++ numbers_of l rest)
    (entry_next l n t (size x (ways_of l w)) x.filled (laid (setting_of l) c at w k) (code_temporaries l.maker.frame.typing c at) k
    (laid_measured (setting_of l) c at w k) s)

-- Where a plain loop begins, the same wherever its statements lead.
loop_begins : (l : Plan) (c : TypedCode) (at : Place) (w : Around) (k turn : List PointName) (n t : ℕ)
    → Stands l n t (laid (setting_of l) c at (within_loop k w) turn)
    → numbers_of l (entry (laid (setting_of l) c at (within_loop k w) k) k)
    ≡ next_of (size (code_extent l.maker.frame.typing c) (around_loop (numbers_of l k) (ways_of l w))) n (numbers_of l k)
loop_begins l c at w k turn n t s =
    let x : Extent = code_extent l.maker.frame.typing c in
    ap (numbers_of l)
    (entry_same (laid (setting_of l) c at (within_loop k w) k) (laid (setting_of l) c at (within_loop k w) turn)
    (same_entry (setting_of l) c at (within_loop k w) k k k turn) k)
    ∙ entry_next l n t (size x (ways_of l (within_loop k w))) x.filled (laid (setting_of l) c at (within_loop k w) turn)
    (code_temporaries l.maker.frame.typing c at) k (laid_measured (setting_of l) c at (within_loop k w) turn) s

-- Where the alternatives of a `case` begin.
alternatives_begin : (l : Plan) (c : TypedCode) (at : Place) (w : Around) (k : List PointName) (n t : ℕ)
    → Stands l n t (flat_map (λ ps. ps) (laid_whens (setting_of l) c at w k))
    → numbers_of l (flat_map (λ ps. entry ps k) (laid_whens (setting_of l) c at w k))
    ≡ whens_begin l.maker.frame.typing c n (ways_of l w) (numbers_of l k)
unfolding laid
alternatives_begin l (More a rest) at w k n t s =
    let x : Extent = when_extent l.maker.frame.typing a in
    let ps : List NamedPoint = laid_when (setting_of l) a (0 ∷ at) w k in
    let qs : List (List NamedPoint) = laid_whens (setting_of l) rest (1 ∷ at) w k in
    let ts : List Temporary = when_temporaries l.maker.frame.typing a (0 ∷ at) in
    let h : Measured l.maker.frame.typing ps (size x (ways_of l w)) x.filled ts = when_measured (setting_of l) a (0 ∷ at) w k in
    let first : numbers_of l (entry ps k) ≡ next_of (size x (ways_of l w)) n (numbers_of l k) =
    entry_next l n t (size x (ways_of l w)) x.filled ps ts k h (front l n t ps (flat_map (λ zs. zs) qs) s) in
    let later : numbers_of l (flat_map (λ zs. entry zs k) qs)
    ≡ whens_begin l.maker.frame.typing rest (n + size x (ways_of l w)) (ways_of l w) (numbers_of l k) =
    alternatives_begin l rest (1 ∷ at) w k (n + size x (ways_of l w)) (t + x.filled)
    (behind l n t (size x (ways_of l w)) x.filled ps (flat_map (λ zs. zs) qs) ts h s) in
    map-append l.number (entry ps k) (flat_map (λ zs. entry zs k) qs) ∙ (λ i. first i ++ later i)
alternatives_begin l _ at w k n t s = refl

-- Start, Next and the statements of a loop.
for_made : (l : Plan) (p : Pos) (x : ℕ) (reversed : Bool) (low high : TypedTree) (stmts : TypedCode) (at : Place) (w : Around) (k : List PointName) (n t : ℕ)
    → ((m u : ℕ) → Stands l m u (laid (setting_of l) stmts (2 ∷ at) (with_scope (x ∷ []) (within_loop k w)) (row_at at 1 ∷ []))
    → made l (laid (setting_of l) stmts (2 ∷ at) (with_scope (x ∷ []) (within_loop k w)) (row_at at 1 ∷ []))
    ≡ laid_numbers l.maker stmts m u (around_loop (numbers_of l k) (ways_of l w)) (l.number (row_at at 1) ∷ []))
    → Stands l n t (laid (setting_of l) (For p x reversed low high stmts) at w k)
    → made l (laid (setting_of l) (For p x reversed low high stmts) at w k)
    ≡ laid_numbers l.maker (For p x reversed low high stmts) n t (ways_of l w) (numbers_of l k)
unfolding laid laid_numbers
for_made l p x reversed low high stmts at w k n t of_stmts s =
    let next : PointName = row_at at 1 in
    let wide : Around = with_scope (x ∷ []) (within_loop k w) in
    let inner : List NamedPoint = laid (setting_of l) stmts (2 ∷ at) wide (next ∷ []) in
    let i : Instruction = instruction.Start x reversed low high in
    let j : Instruction = instruction.Next x reversed low high in
    let held_low : List ℕ = with_held (setting_of l) low (0 ∷ at) w.scope in
    let start : List NamedPoint = uses_both (setting_of l) at p low high i w (next ∷ []) in
    let row : NamedPoint = point next p j (x ∷ w.scope) (entry inner (next ∷ []) ++ k) in
    let ts : List Temporary = prep_temporaries l.maker.frame.typing low (0 ∷ at) ++ prep_temporaries l.maker.frame.typing high (1 ∷ at) in
    let h : Measured l.maker.frame.typing start (prep_size low + prep_size high + 1) (filled_in low + filled_in high) ts =
    both_used_measured (setting_of l) low (0 ∷ at) w.scope high (1 ∷ at) held_low (row_at at 0) p i
    (with_held (setting_of l) high (1 ∷ at) held_low) (next ∷ []) refl in
    let m : ℕ = n + prep_size low + prep_size high + 1 in
    let u : ℕ = t + filled_in low + filled_in high in
    let later : Stands l m u (row ∷ inner) =
    stands_at l (n + (prep_size low + prep_size high + 1)) m (t + (filled_in low + filled_in high)) u (row ∷ inner) (omega arith) (omega arith)
    (behind l n t (prep_size low + prep_size high + 1) (filled_in low + filled_in high) start (row ∷ inner) ts h s) in
    let deeper : Stands l (m + 1) u inner = stands_at l (m + 1) (m + 1) (u + 0) u inner refl (omega arith) later.2 in
    let ways : Ways = around_loop (numbers_of l k) (ways_of l w) in
    let count : ℕ = size (code_extent l.maker.frame.typing stmts) ways in
    let one : made l start ≡ used_both l.maker p low high i n t (m ∷ []) =
    both_used_made l low (0 ∷ at) w.scope high (1 ∷ at) held_low (row_at at 0) p i (with_held (setting_of l) high (1 ∷ at) held_low) (next ∷ []) n t
    (front l n t start (row ∷ inner) s)
    ∙ ap (λ q. used_both l.maker p low high i n t (q ∷ [])) later.0 in
    let leads : numbers_of l (entry inner (next ∷ []) ++ k) ≡ next_of count (m + 1) (m ∷ []) ++ numbers_of l k =
    stmts_begin l stmts (2 ∷ at) wide (next ∷ []) k (m + 1) u deeper ∙ ap (λ q. next_of count (m + 1) (q ∷ []) ++ numbers_of l k) later.0 in
    let two : made l inner ≡ laid_numbers l.maker stmts (m + 1) u ways (m ∷ []) =
    of_stmts (m + 1) u deeper ∙ ap (λ q. laid_numbers l.maker stmts (m + 1) u ways (q ∷ [])) later.0 in
    map-append (flow_point l.maker.frame l.number) start (row ∷ inner)
    ∙ (λ q. one q ++ make l.maker p j (leads q) ∷ two q)

mutual
  unfolding laid laid_numbers code_extent code_temporaries

  pub laid_made : (l : Plan) (c : TypedCode) (at : Place) (w : Around) (k : List PointName) (n t : ℕ)
      → Stands l n t (laid (setting_of l) c at w k)
      → made l (laid (setting_of l) c at w k) ≡ laid_numbers l.maker c n t (ways_of l w) (numbers_of l k)
  laid_made l (More a rest) at w k n t s =
      let x : Extent = code_extent l.maker.frame.typing a in
      let y : Extent = code_extent l.maker.frame.typing rest in
      let m : ℕ = size x (ways_of l w) in
      let later : List NamedPoint = laid (setting_of l) rest (1 ∷ at) (with_scope (declared a) w) k in
      chain_on l (laid (setting_of l) a (0 ∷ at) w (entry later k)) later n t m x.filled (size y (ways_of l w)) y.filled
      (code_temporaries l.maker.frame.typing a (0 ∷ at)) (code_temporaries l.maker.frame.typing rest (1 ∷ at)) k
      (λ ks. laid_numbers l.maker a n t (ways_of l w) ks) (laid_numbers l.maker rest (n + m) (t + x.filled) (ways_of l w) (numbers_of l k))
      (laid_measured (setting_of l) a (0 ∷ at) w (entry later k)) (laid_measured (setting_of l) rest (1 ∷ at) (with_scope (declared a) w) k) s
      (λ z. laid_made l a (0 ∷ at) w (entry later k) n t z)
      (λ z. laid_made l rest (1 ∷ at) (with_scope (declared a) w) k (n + m) (t + x.filled) z)
  laid_made l (Declare p x v) at w k n t s = uses_made l at p v (instruction.Declare x v) w k n t s
  laid_made l (Assign p target e) at w k n t s =
      both_used_made l e (1 ∷ at) w.scope target (0 ∷ at) (with_held (setting_of l) e (1 ∷ at) w.scope) (row_at at 0) p (instruction.Assign target e)
      (with_held (setting_of l) target (0 ∷ at) (with_held (setting_of l) e (1 ∷ at) w.scope)) k n t s
  laid_made l (Skip p) at w k n t s = refl
  laid_made l (typed.Call p sub actuals) at w k n t s = uses_made l at p actuals (instruction.Call sub actuals None) w k n t s
  laid_made l (Output p text line) at w k n t s = uses_made l at p text (instruction.Output text line) w k n t s
  laid_made l (Input p target) at w k n t s = uses_made l at p target (instruction.Input target) w k n t s
  laid_made l (Release p m) at w k n t s = uses_made l at p m (instruction.Release m) w k n t s
  laid_made l (If branches otherwise) at w k n t s =
      let x : Extent = branches_extent l.maker.frame.typing branches in
      let y : Extent = code_extent l.maker.frame.typing otherwise in
      let m : ℕ = size x (ways_of l w) in
      let later : List NamedPoint = laid (setting_of l) otherwise (1 ∷ at) w k in
      chain_on l (laid_branches (setting_of l) branches (0 ∷ at) w k (entry later k)) later n t m x.filled (size y (ways_of l w)) y.filled
      (branches_temporaries l.maker.frame.typing branches (0 ∷ at)) (code_temporaries l.maker.frame.typing otherwise (1 ∷ at)) k
      (λ ks. branches_numbers l.maker branches n t (ways_of l w) (numbers_of l k) ks)
      (laid_numbers l.maker otherwise (n + m) (t + x.filled) (ways_of l w) (numbers_of l k))
      (branches_measured (setting_of l) branches (0 ∷ at) w k (entry later k)) (laid_measured (setting_of l) otherwise (1 ∷ at) w k) s
      (λ z. branches_made l branches (0 ∷ at) w k (entry later k) n t z)
      (λ z. laid_made l otherwise (1 ∷ at) w k (n + m) (t + x.filled) z)
  laid_made l (Case p e whens) at w k n t s =
      let inner : ℕ = n + prep_size e + 1 in
      uses_then l at p e (instruction.Choose e (choices_of whens)) w (flat_map (λ ps. entry ps k) (laid_whens (setting_of l) whens (1 ∷ at) w k))
      (flat_map (λ ps. ps) (laid_whens (setting_of l) whens (1 ∷ at) w k)) n t
      (whens_begin l.maker.frame.typing whens inner (ways_of l w) (numbers_of l k))
      (whens_numbers l.maker whens inner (t + filled_in e) (ways_of l w) (numbers_of l k)) refl s
      (λ is z. (alternatives_begin l whens (1 ∷ at) w k inner (t + filled_in e) z, whens_made l whens (1 ∷ at) w k inner (t + filled_in e) z))
  laid_made l (Loop stmts) at w k n t s =
      let turn : List PointName = entry (laid (setting_of l) stmts (0 ∷ at) (within_loop k w) k) k in
      laid_made l stmts (0 ∷ at) (within_loop k w) turn n t s
      ∙ ap (λ ks. laid_numbers l.maker stmts n t (around_loop (numbers_of l k) (ways_of l w)) ks) (loop_begins l stmts (0 ∷ at) w k turn n t s)
  laid_made l (While p e stmts) at w k n t s =
      let turn : List PointName = entry (prep (setting_of l) e (0 ∷ at) w.scope (row_at at 0 ∷ [])) (row_at at 0 ∷ []) in
      let inner : List NamedPoint = laid (setting_of l) stmts (1 ∷ at) (within_loop k w) turn in
      let ways : Ways = around_loop (numbers_of l k) (ways_of l w) in
      let m : ℕ = size (code_extent l.maker.frame.typing stmts) ways in
      let first : ℕ = n + prep_size e + 1 in
      uses_then l at p e (instruction.Test e) w (entry inner turn ++ k) inner n t
      (next_of m first (n ∷ []) ++ numbers_of l k) (laid_numbers l.maker stmts first (t + filled_in e) ways (n ∷ [])) refl s
      (λ is z. (
        stmts_begin l stmts (1 ∷ at) (within_loop k w) turn k first (t + filled_in e) z ∙ ap (λ ks. next_of m first ks ++ numbers_of l k) is,
        laid_made l stmts (1 ∷ at) (within_loop k w) turn first (t + filled_in e) z
            ∙ ap (λ ks. laid_numbers l.maker stmts first (t + filled_in e) ways ks) is,
      ))
  laid_made l (For p x reversed low high stmts) at w k n t s =
      for_made l p x reversed low high stmts at w k n t
      (λ m u z. laid_made l stmts (2 ∷ at) (with_scope (x ∷ []) (within_loop k w)) (row_at at 1 ∷ []) m u z) s
  laid_made l (Exit p e) at w k n t s =
      let out : List NamedPoint = ends at 1 p w.in_loop w.scope w.leave in
      let first : ℕ = n + prep_size e + 1 in
      uses_then l at p e (instruction.LeaveLoop e) w (entry out w.leave ++ layout.unless_empty e k) out n t
      (next_of (length w.in_loop) first (numbers_of l w.leave) ++ unless_empty e (numbers_of l k)) (ended l.maker p w.in_loop first (numbers_of l w.leave)) refl s
      (λ is z. (
        map-append l.number (entry out w.leave) (layout.unless_empty e k)
            ∙ (λ i. entry_next l first (t + filled_in e) (length w.in_loop) 0 out [] w.leave
            (ends_measured l.maker.frame.typing at 1 p w.in_loop w.scope w.leave) z i ++ unless_numbers l e k i),
        ends_made l at 1 p w.in_loop w.scope w.leave first (t + filled_in e) z,
      ))
  laid_made l (Return p v) at w k n t s =
      let first : ℕ = n + prep_size v + 1 in
      uses_then l at p v (instruction.Hold v) w (entry (closing at 1 p w) []) (closing at 1 p w) n t (first ∷ []) (closed l.maker p w.in_all first) refl s
      (λ is z. (
        last_begins l at 1 p w.in_all w.scope (row_at at (suc (length w.in_all))) w.formals [] first (t + filled_in v) z,
        last_made l at 1 p w.in_all w.scope (row_at at (suc (length w.in_all))) w.formals first (t + filled_in v) z,
      ))
  laid_made l (Block b stmts end) at w k n t s =
      let xs : List ℕ = ending (setting_of l) stmts in
      let scope : List ℕ = reverse (declared stmts) ++ w.scope in
      let out : List NamedPoint = ends at 0 end xs scope k in
      let ways : Ways = around_block xs (ways_of l w) in
      let x : Extent = code_extent l.maker.frame.typing stmts in
      let m : ℕ = size x ways in
      chain_on l (laid (setting_of l) stmts (0 ∷ at) (within_block xs w) (entry out k)) out n t m x.filled (length xs) 0
      (code_temporaries l.maker.frame.typing stmts (0 ∷ at)) [] k
      (λ ks. laid_numbers l.maker stmts n t ways ks) (ended l.maker end xs (n + m) (numbers_of l k))
      (laid_measured (setting_of l) stmts (0 ∷ at) (within_block xs w) (entry out k)) (ends_measured l.maker.frame.typing at 0 end xs scope k) s
      (λ z. laid_made l stmts (0 ∷ at) (within_block xs w) (entry out k) n t z) (λ z. ends_made l at 0 end xs scope k (n + m) (t + x.filled) z)
  laid_made l _ at w k n t s = refl

  pub branches_made : (l : Plan) (c : TypedCode) (at : Place) (w : Around) (k otherwise : List PointName) (n t : ℕ)
      → Stands l n t (laid_branches (setting_of l) c at w k otherwise)
      → made l (laid_branches (setting_of l) c at w k otherwise)
      ≡ branches_numbers l.maker c n t (ways_of l w) (numbers_of l k) (numbers_of l otherwise)
  branches_made l (More a rest) at w k otherwise n t s =
      let x : Extent = branch_extent l.maker.frame.typing a in
      let y : Extent = branches_extent l.maker.frame.typing rest in
      let m : ℕ = size x (ways_of l w) in
      let later : List NamedPoint = laid_branches (setting_of l) rest (1 ∷ at) w k otherwise in
      chain_on l (laid_branch (setting_of l) a (0 ∷ at) w k (entry later otherwise)) later n t m x.filled (size y (ways_of l w)) y.filled
      (branch_temporaries l.maker.frame.typing a (0 ∷ at)) (branches_temporaries l.maker.frame.typing rest (1 ∷ at)) otherwise
      (λ ks. branch_numbers l.maker a n t (ways_of l w) (numbers_of l k) ks)
      (branches_numbers l.maker rest (n + m) (t + x.filled) (ways_of l w) (numbers_of l k) (numbers_of l otherwise))
      (branch_measured (setting_of l) a (0 ∷ at) w k (entry later otherwise)) (branches_measured (setting_of l) rest (1 ∷ at) w k otherwise) s
      (λ z. branch_made l a (0 ∷ at) w k (entry later otherwise) n t z)
      (λ z. branches_made l rest (1 ∷ at) w k otherwise (n + m) (t + x.filled) z)
  branches_made l _ at w k otherwise n t s = refl

  pub branch_made : (l : Plan) (c : TypedCode) (at : Place) (w : Around) (k otherwise : List PointName) (n t : ℕ)
      → Stands l n t (laid_branch (setting_of l) c at w k otherwise)
      → made l (laid_branch (setting_of l) c at w k otherwise)
      ≡ branch_numbers l.maker c n t (ways_of l w) (numbers_of l k) (numbers_of l otherwise)
  branch_made l (Branch p e stmts) at w k otherwise n t s =
      let inner : List NamedPoint = laid (setting_of l) stmts (1 ∷ at) w k in
      let m : ℕ = size (code_extent l.maker.frame.typing stmts) (ways_of l w) in
      let first : ℕ = n + prep_size e + 1 in
      uses_then l at p e (instruction.Test e) w (entry inner k ++ otherwise) inner n t
      (next_of m first (numbers_of l k) ++ numbers_of l otherwise) (laid_numbers l.maker stmts first (t + filled_in e) (ways_of l w) (numbers_of l k)) refl s
      (λ is z. (
        stmts_begin l stmts (1 ∷ at) w k otherwise first (t + filled_in e) z,
        laid_made l stmts (1 ∷ at) w k first (t + filled_in e) z,
      ))
  branch_made l _ at w k otherwise n t s = refl

  pub whens_made : (l : Plan) (c : TypedCode) (at : Place) (w : Around) (k : List PointName) (n t : ℕ)
      → Stands l n t (flat_map (λ ps. ps) (laid_whens (setting_of l) c at w k))
      → made l (flat_map (λ ps. ps) (laid_whens (setting_of l) c at w k)) ≡ whens_numbers l.maker c n t (ways_of l w) (numbers_of l k)
  whens_made l (More a rest) at w k n t s =
      let x : Extent = when_extent l.maker.frame.typing a in
      let m : ℕ = size x (ways_of l w) in
      chain l (laid_when (setting_of l) a (0 ∷ at) w k) (flat_map (λ ps. ps) (laid_whens (setting_of l) rest (1 ∷ at) w k)) n t m x.filled
      (when_temporaries l.maker.frame.typing a (0 ∷ at)) (when_numbers l.maker a n t (ways_of l w) (numbers_of l k))
      (whens_numbers l.maker rest (n + m) (t + x.filled) (ways_of l w) (numbers_of l k)) (when_measured (setting_of l) a (0 ∷ at) w k) s
      (λ z y. when_made l a (0 ∷ at) w k n t z) (λ z. whens_made l rest (1 ∷ at) w k (n + m) (t + x.filled) z)
  whens_made l _ at w k n t s = refl

  pub when_made : (l : Plan) (c : TypedCode) (at : Place) (w : Around) (k : List PointName) (n t : ℕ)
      → Stands l n t (laid_when (setting_of l) c at w k)
      → made l (laid_when (setting_of l) c at w k) ≡ when_numbers l.maker c n t (ways_of l w) (numbers_of l k)
  when_made l (When choices stmts) at w k n t s = laid_made l stmts (1 ∷ at) w k n t s
  when_made l _ at w k n t s = refl
