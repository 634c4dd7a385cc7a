-- The uses of expressions in code whose names are in scope: what they name has room where all that
-- the code declares has.
use Rattle.std.proofs.Common.{◌≡◌, refl, subst, ◌⊎◌, inl, inr, ℕ, ◌≤◌, Bool, true, false, ◌&&◌, ◌||◌, List, [], ◌∷◌, ◌++◌}
use Rattle.std.specs.Prelude.{reverse}
use Rattle.machine.specs.spark_base.Lists.{Has}
use Rattle.soundness.proofs.Lists.{Has-append_left, Has-append_right, Has-append_cases}
use Rattle.machine.specs.typed_tree.Trees.{TypedTree, Name, Component, Designated, Element, Image, Parens, Unary, Binary, Short, IsNull, Aggregate, Alike, New, TypedCode, Declare, Assign, Output, Input, Release, If, Branch, Case, When, Loop, While, For, Exit, Return, Block}
use Rattle.machine.specs.typed_tree.Trees as typed
use Rattle.machine.specs.flow_paths.Instructions.{Instruction}
use Rattle.machine.specs.flow_paths.Instructions as instruction
use Rattle.machine.specs.flow_paths.Layout.{declared}
use Rattle.machine.specs.flow_paths.Laid.{declared_within}
use Rattle.machine.specs.flow_paths.Scopes.{is_within}
use Rattle.settled_types.specs.OrderLaws.ScopeLaws.Code.{roots, are_seen, is_seen, is_each_seen}
use Rattle.settled_types.specs.OrderLaws.ScopeLaws.Order.{named_in}
use Rattle.settled_types.proofs.OrderLaws.ScopeLaws.Lists.{and_first, and_second, within_has, has_reverse}
use Rattle.settled_types.proofs.OrderLaws.ScopeLaws.Ordered.{declared_within_has}
use Rattle.settled_types.specs.OrderLaws.Placed.{parameters}
use Rattle.run_codes.specs.Lowered.{max_position}
use Rattle.sound_files.specs.TypedFiles.LoweredLaws.Lowers.{literals, literals_in}
use Rattle.sound_files.specs.TypedFiles.LoweredFiles.Code.{code_literals, plain_objects}
use Rattle.sound_files.proofs.TypedFiles.LoweredFiles.Each.{Asks, Parts, Uses, EachUse, all_of}

-- All of a list are as told.
abbrev pub Every : (ℕ → Type 0) → List ℕ → Type 0
Every P xs = (x : ℕ) → Has xs x → P x

pub every_left : (P : ℕ → Type 0) (xs ys : List ℕ) → Every P (xs ++ ys) → Every P xs
every_left P xs ys every x has = every x (Has-append_left xs ys x has)

pub every_right : (P : ℕ → Type 0) (xs ys : List ℕ) → Every P (xs ++ ys) → Every P ys
every_right P xs ys every x has = every x (Has-append_right xs ys x has)

pub every_both : (P : ℕ → Type 0) (xs ys : List ℕ) → Every P xs → Every P ys → Every P (xs ++ ys)
every_both P xs ys first second x has = elim (Has-append_cases xs ys x has) [ inl here ↦ first x here | inr later ↦ second x later ]

every_none : (P : ℕ → Type 0) → Every P []
every_none P x has = absurd has

-- What code declares without loops of its own is no parameter.
pub declared_plain : (c : TypedCode) (x : ℕ) → Has (declared c) x → Has (plain_objects c) x
unfolding declared plain_objects
declared_plain (Declare p y v) x has = has
declared_plain (typed.More a rest) x has = elim (Has-append_cases (declared a) (declared rest) x has) [
  | inl here ↦ Has-append_left (plain_objects a) (plain_objects rest) x (declared_plain a x here)
  | inr later ↦ Has-append_right (plain_objects a) (plain_objects rest) x (declared_plain rest x later)
]
declared_plain c x has = absurd has

-- R: objects with room; O: those that are declared; Q: parameters of loops.
module _ (R O Q : ℕ → Type 0) where
  abbrev IsWord : ℕ → Type 0
  IsWord n = n ≤ max_position

  abbrev Owned : Instruction → Type 0
  Owned (instruction.Declare x v) = O x
  Owned (instruction.EndScope x) = O x
  Owned (instruction.Start x reversed low high) = Q x
  Owned (instruction.Next x reversed low high) = Q x
  Owned _ = Unit {0}

  -- What a step names has room, its literals are words, and what it declares is as told.
  abbrev pub Asked : Instruction → Type 0
  Asked i = Every R (named_in i) × Every IsWord (literals_in i) × Owned i

  pub asks : Asks Asked O
  asks = record {
    skip = (every_none R, every_none IsWord, tt);
    finish = (every_none R, every_none IsWord, tt);
    fall = (every_none R, every_none IsWord, tt);
    ends = λ x is. (every_none R, every_none IsWord, is);
  }

  -- ---- expressions

  parts : (e : TypedTree) → Every R (roots e) → Every IsWord (literals e) → Parts Asked e
  unfolding Parts roots literals
  parts (typed.Call p sub actuals) room words = (λ t. (room, words, tt), parts actuals room words)
  parts (Short op p a q b) room words =
      let one = every_left R (roots a) (roots b) room in
      let two = every_right R (roots a) (roots b) room in
      let first = every_left IsWord (literals a) (literals b) words in
      let second = every_right IsWord (literals a) (literals b) words in
      (λ t. (one, first, tt), λ t. (two, second, tt), parts a one first, parts b two second)
  parts (Binary op a b) room words = (
    parts a (every_left R (roots a) (roots b) room) (every_left IsWord (literals a) (literals b) words),
    parts b (every_right R (roots a) (roots b) room) (every_right IsWord (literals a) (literals b) words),
  )
  parts (typed.More a b) room words = (
    parts a (every_left R (roots a) (roots b) room) (every_left IsWord (literals a) (literals b) words),
    parts b (every_right R (roots a) (roots b) room) (every_right IsWord (literals a) (literals b) words),
  )
  parts (Element a low high b) room words = (
    parts a (every_left R (roots a) (roots b) room) (every_left IsWord (literals a) (literals b) words),
    parts b (every_right R (roots a) (roots b) room) (every_right IsWord (literals a) (literals b) words),
  )
  parts (Name p x e t) room words = parts e (λ y has. room y (inr has)) words
  parts (Component i e) room words = parts e room words
  parts (Designated e) room words = parts e room words
  parts (Image t e) room words = parts e room words
  parts (Parens e) room words = parts e room words
  parts (Unary op e) room words = parts e room words
  parts (IsNull equal e) room words = parts e room words
  parts (Aggregate t e) room words = parts e room words
  parts (Alike t e) room words = parts e room words
  parts (New t e) room words = parts e room words
  parts e room words = tt

  -- ---- code

  module _ (outer : ℕ → Bool) (out : (x : ℕ) → outer x ≡ true → R x) where
    any_either : (a b : Bool) → a || b ≡ true → (a ≡ true) ⊎ (b ≡ true)
    any_either true b e = inl refl
    any_either false b e = inr e

    either_room : (scope : List ℕ) (y : ℕ) → Every R scope → is_within y scope || outer y ≡ true → R y
    either_room scope y room seen = elim (any_either (is_within y scope) (outer y) seen) [
      | inl within ↦ room y (within_has y scope within)
      | inr is ↦ out y is
    ]

    seen_room : (scope xs : List ℕ) → are_seen outer scope xs ≡ true → Every R scope → Every R xs
    seen_room scope [] seen room x has = absurd has
    seen_room scope (y ∷ xs) seen room x (inl e) =
        subst R e (either_room scope y room (and_first (is_within y scope || outer y) (are_seen outer scope xs) seen))
    seen_room scope (y ∷ xs) seen room x (inr has) =
        seen_room scope xs (and_second (is_within y scope || outer y) (are_seen outer scope xs) seen) room x has

    -- What is asked of the objects and the literals of code.
    pub record Suits (ds ps qs ns : List ℕ) : Type 0 where
      pub rooms : Every R ds
      pub owned : Every O ps
      pub turned : Every Q qs
      pub words : Every IsWord ns

    abbrev Suited : TypedCode → Type 0
    Suited c = Suits (declared_within c) (plain_objects c) (parameters c) (code_literals c)

    first_suits : (ds ps qs ns es qt rs ms : List ℕ) → Suits (ds ++ es) (ps ++ qt) (qs ++ rs) (ns ++ ms) → Suits ds ps qs ns
    first_suits ds ps qs ns es qt rs ms h = record {
      rooms = every_left R ds es h.rooms;
      owned = every_left O ps qt h.owned;
      turned = every_left Q qs rs h.turned;
      words = every_left IsWord ns ms h.words;
    }

    second_suits : (ds ps qs ns es qt rs ms : List ℕ) → Suits (ds ++ es) (ps ++ qt) (qs ++ rs) (ns ++ ms) → Suits es qt rs ms
    second_suits ds ps qs ns es qt rs ms h = record {
      rooms = every_right R ds es h.rooms;
      owned = every_right O ps qt h.owned;
      turned = every_right Q qs rs h.turned;
      words = every_right IsWord ns ms h.words;
    }

    -- after the literals of an expression
    later_suits : (ds ps qs ns ms : List ℕ) → Suits ds ps qs (ns ++ ms) → Suits ds ps qs ms
    later_suits ds ps qs ns ms h = record { rooms = h.rooms; owned = h.owned; turned = h.turned; words = every_right IsWord ns ms h.words }

    more_room : (x : ℕ) (scope : List ℕ) → R x → Every R scope → Every R (x ∷ scope)
    more_room x scope is room y (inl e) = subst R e is
    more_room x scope is room y (inr has) = room y has

    mutual
      unfolding is_seen is_each_seen Uses EachUse declared_within plain_objects parameters code_literals

      pub suited_uses : (c : TypedCode) (scope : List ℕ) → is_seen outer scope c ≡ true → Every R scope → Suited c → Uses Asked O c
      suited_uses (Declare p x v) scope seen room h =
          let named = seen_room scope (roots v) seen room in ((named, h.words, h.owned x (inl refl)), parts v named h.words)
      suited_uses (Assign p target e) scope seen room h =
          let one = seen_room scope (roots e) (and_first (are_seen outer scope (roots e)) (are_seen outer scope (roots target)) seen) room in
          let two = seen_room scope (roots target) (and_second (are_seen outer scope (roots e)) (are_seen outer scope (roots target)) seen) room in (
            (every_both R (roots e) (roots target) one two, h.words, tt),
            parts target two (every_right IsWord (literals e) (literals target) h.words),
            parts e one (every_left IsWord (literals e) (literals target) h.words),
          )
      suited_uses (typed.Call p sub actuals) scope seen room h =
          let named = seen_room scope (roots actuals) seen room in ((named, h.words, tt), parts actuals named h.words)
      suited_uses (Output p text line) scope seen room h =
          let named = seen_room scope (roots text) seen room in ((named, h.words, tt), parts text named h.words)
      suited_uses (Input p target) scope seen room h =
          let named = seen_room scope (roots target) seen room in ((named, h.words, tt), parts target named h.words)
      suited_uses (Release p m) scope seen room h =
          let named = seen_room scope (roots m) seen room in ((named, h.words, tt), parts m named h.words)
      suited_uses (If branches otherwise) scope seen room h = (
        each_uses branches scope (and_first (is_each_seen outer scope branches) (is_seen outer scope otherwise) seen) room
            (first_suits (declared_within branches) (plain_objects branches) (parameters branches) (code_literals branches) (declared_within otherwise) (plain_objects otherwise)
            (parameters otherwise) (code_literals otherwise) h),
        suited_uses otherwise scope (and_second (is_each_seen outer scope branches) (is_seen outer scope otherwise) seen) room
            (second_suits (declared_within branches) (plain_objects branches) (parameters branches) (code_literals branches) (declared_within otherwise) (plain_objects otherwise)
            (parameters otherwise) (code_literals otherwise) h),
      )
      suited_uses (Branch p e stmts) scope seen room h =
          let named = seen_room scope (roots e) (and_first (are_seen outer scope (roots e)) (is_seen outer scope stmts) seen) room in
          let own = every_left IsWord (literals e) (code_literals stmts) h.words in (
            (named, own, tt),
            parts e named own,
            suited_uses stmts scope (and_second (are_seen outer scope (roots e)) (is_seen outer scope stmts) seen) room
                (later_suits (declared_within stmts) (plain_objects stmts) (parameters stmts) (literals e) (code_literals stmts) h),
          )
      suited_uses (Case p e whens) scope seen room h =
          let named = seen_room scope (roots e) (and_first (are_seen outer scope (roots e)) (is_each_seen outer scope whens) seen) room in
          let own = every_left IsWord (literals e) (code_literals whens) h.words in (
            (named, own, tt),
            parts e named own,
            each_uses whens scope (and_second (are_seen outer scope (roots e)) (is_each_seen outer scope whens) seen) room
                (later_suits (declared_within whens) (plain_objects whens) (parameters whens) (literals e) (code_literals whens) h),
          )
      suited_uses (When choices stmts) scope seen room h = suited_uses stmts scope seen room h
      suited_uses (Loop stmts) scope seen room h = suited_uses stmts scope seen room h
      suited_uses (While p e stmts) scope seen room h =
          let named = seen_room scope (roots e) (and_first (are_seen outer scope (roots e)) (is_seen outer scope stmts) seen) room in
          let own = every_left IsWord (literals e) (code_literals stmts) h.words in (
            (named, own, tt),
            parts e named own,
            suited_uses stmts scope (and_second (are_seen outer scope (roots e)) (is_seen outer scope stmts) seen) room
                (later_suits (declared_within stmts) (plain_objects stmts) (parameters stmts) (literals e) (code_literals stmts) h),
          )
      suited_uses (For p x reversed low high stmts) scope seen room h =
          let bounds = and_first (are_seen outer scope (roots low) && are_seen outer scope (roots high)) (is_seen outer (x ∷ scope) stmts) seen in
          let inner = and_second (are_seen outer scope (roots low) && are_seen outer scope (roots high)) (is_seen outer (x ∷ scope) stmts) seen in
          let one = seen_room scope (roots low) (and_first (are_seen outer scope (roots low)) (are_seen outer scope (roots high)) bounds) room in
          let two = seen_room scope (roots high) (and_second (are_seen outer scope (roots low)) (are_seen outer scope (roots high)) bounds) room in
          let own = every_left IsWord (literals low ++ literals high) (code_literals stmts) h.words in (
            (every_both R (roots low) (roots high) one two, own, h.turned x (inl refl)),
            (every_none R, every_none IsWord, h.turned x (inl refl)),
            parts low one (every_left IsWord (literals low) (literals high) own),
            parts high two (every_right IsWord (literals low) (literals high) own),
            suited_uses stmts (x ∷ scope) inner (more_room x scope (h.rooms x (inl refl)) room)
                (record {
                  rooms = λ y has. h.rooms y (inr has);
                  owned = h.owned;
                  turned = λ y has. h.turned y (inr has);
                  words = every_right IsWord (literals low ++ literals high) (code_literals stmts) h.words;
                }),
          )
      suited_uses (Exit p e) scope seen room h =
          let named = seen_room scope (roots e) seen room in ((named, h.words, tt), parts e named h.words)
      suited_uses (Return p v) scope seen room h =
          let named = seen_room scope (roots v) seen room in ((named, h.words, tt), parts v named h.words)
      suited_uses (Block n stmts end) scope seen room h =
          (all_of O (declared stmts) (λ x has. h.owned x (declared_plain stmts x has)), suited_uses stmts scope seen room h)
      suited_uses (typed.More a rest) scope seen room h = (
        suited_uses a scope (and_first (is_seen outer scope a) (is_seen outer (reverse (declared a) ++ scope) rest) seen) room
            (first_suits (declared_within a) (plain_objects a) (parameters a) (code_literals a) (declared_within rest) (plain_objects rest) (parameters rest) (code_literals rest) h),
        suited_uses rest (reverse (declared a) ++ scope) (and_second (is_seen outer scope a) (is_seen outer (reverse (declared a) ++ scope) rest) seen)
            (every_both R (reverse (declared a)) scope
            (λ x has. h.rooms x (Has-append_left (declared_within a) (declared_within rest) x (declared_within_has a x (has_reverse (declared a) x has)))) room)
            (second_suits (declared_within a) (plain_objects a) (parameters a) (code_literals a) (declared_within rest) (plain_objects rest) (parameters rest) (code_literals rest) h),
      )
      suited_uses c scope seen room h = tt

      each_uses : (c : TypedCode) (scope : List ℕ) → is_each_seen outer scope c ≡ true → Every R scope → Suited c → EachUse Asked O c
      each_uses (typed.More a rest) scope seen room h = (
        suited_uses a scope (and_first (is_seen outer scope a) (is_each_seen outer scope rest) seen) room
            (first_suits (declared_within a) (plain_objects a) (parameters a) (code_literals a) (declared_within rest) (plain_objects rest) (parameters rest) (code_literals rest) h),
        each_uses rest scope (and_second (is_seen outer scope a) (is_each_seen outer scope rest) seen) room
            (second_suits (declared_within a) (plain_objects a) (parameters a) (code_literals a) (declared_within rest) (plain_objects rest) (parameters rest) (code_literals rest) h),
      )
      each_uses c scope seen room h = tt
