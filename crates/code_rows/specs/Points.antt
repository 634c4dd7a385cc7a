-- The points and the programs that rows stand for.
use Rattle.std.specs.Prelude.{◌≡◌, ◌+◌, ℕ, Bool, true, ◌&&◌, ◌==◌, List, [], ◌∷◌, ◌++◌, map, flat_map, length, take, drop, not, nat_lt, nat_le, Option, Some, None, IsTrue, if◌then◌else◌}
use Rattle.std.specs.List.{list_all}
use Rattle.run_codes.specs.Codes.{Checked, Pointer as LookedAt, Go, Put, Store, Assign, Call, Output, Input, Release, Test, Choose, Start, Next, EvaluateLeft, EvaluateRight, Hold, EndPointer, EndScope, Finish, Fall, ByValue, From, To, Bytes, NumberImage, LiteralImage, Object, Counter}
use Rattle.run_codes.specs.Codes as codes
use Rattle.run_codes.specs.Programs.{Program}
use Rattle.code_rows.specs.declared.range.Range.{Range}
use Rattle.code_rows.specs.declared.point.Actual.{Actual}
use Rattle.code_rows.specs.declared.point.Actual.TheVariants as actual
use Rattle.code_rows.specs.declared.point.Text.{Text}
use Rattle.code_rows.specs.declared.point.Text.TheVariants as text
use Rattle.code_rows.specs.declared.point.Choice.{Choice}
use Rattle.code_rows.specs.declared.point.Room.{Room}
use Rattle.code_rows.specs.declared.point.Room.TheVariants as room
use Rattle.code_rows.specs.declared.point.Does.{Does}
use Rattle.code_rows.specs.declared.point.Does.TheVariants as does
use Rattle.code_rows.specs.declared.point.Point.{Point}
use Rattle.code_rows.specs.declared.point.Sub.{Sub}
use Rattle.code_rows.specs.declared.rows.Rows.{Rows}
use Rattle.code_rows.specs.declared.codes.Codes.{Codes}
use Rattle.code_rows.specs.Rows.{code_at, is_place_below, place_of}
use Rattle.code_rows.specs.Values.{fill_at, are_within, AllGrew}

-- ---- ranges

-- Those that a range names.
abbrev pub some : {A : Type 0} → List A → Range → List A
some all r = take r.count (drop r.first all)

abbrev pub is_range : {A : Type 0} → List A → Range → Bool
is_range all r = nat_le (r.first + r.count) (length all)

-- The number of the point that follows.
abbrev pub next_of : ℕ → Option ℕ
next_of n = if n == 4294967295 then None else Some n

-- ---- parts of points

abbrev pub actual_of : Rows → Actual → codes.Actual
actual_of rows (actual.Word v low high) = ByValue (Checked (code_at rows.nodes v) low high)
actual_of rows (actual.Value v) = ByValue (fill_at rows.nodes rows.fills v)
actual_of rows (actual.From p of formal) = From (place_of (code_at rows.nodes) p) of formal
actual_of rows (actual.To p of pos) = To (place_of (code_at rows.nodes) p) of pos

abbrev pub text_of : Rows → Text → codes.Piece
text_of rows (text.Bytes r) = Bytes (some rows.bytes.items r)
text_of rows (text.Number v) = NumberImage (code_at rows.nodes v)
text_of rows (text.Literal v of) = LiteralImage (code_at rows.nodes v) of

abbrev pub choice_of : Choice → codes.Choice
choice_of c = record { low = c.low; high = c.high; next = c.next }

abbrev pub actuals_of : Rows → Range → List codes.Actual
actuals_of rows r = map (actual_of rows) (some rows.actuals.items r)

abbrev pub texts_of : Rows → Range → List codes.Piece
texts_of rows r = map (text_of rows) (some rows.texts.items r)

abbrev pub choices_of : Rows → Range → List codes.Choice
choices_of rows r = map choice_of (some rows.choices.items r)

-- Their parts are there, and a choice leads to a point.
abbrev pub is_node : Rows → ℕ → Bool
is_node rows n = nat_lt n (length rows.nodes)

abbrev pub is_value : Rows → ℕ → Bool
is_value rows n = nat_lt n (length rows.fills)

abbrev pub is_actual_there : Rows → Actual → Bool
is_actual_there rows (actual.Word v low high) = is_node rows v
is_actual_there rows (actual.Value v) = is_value rows v
is_actual_there rows (actual.From p of formal) = is_place_below (length rows.nodes) p
is_actual_there rows (actual.To p of pos) = is_place_below (length rows.nodes) p

abbrev pub is_text_there : Rows → Text → Bool
is_text_there rows (text.Bytes r) = is_range rows.bytes.items r
is_text_there rows (text.Number v) = is_node rows v
is_text_there rows (text.Literal v of) = is_node rows v

abbrev pub is_choice_there : Choice → Bool
is_choice_there c = not (c.next == 4294967295)

-- ---- points

abbrev pub does_of : Rows → Does → codes.Does
does_of rows (does.Go n) = Go (next_of n)
does_of rows (does.Put at v low high n) = Put at (Checked (code_at rows.nodes v) low high) (next_of n)
does_of rows (does.PutPointer at v n) = Put at (LookedAt (code_at rows.nodes v)) (next_of n)
does_of rows (does.Store p v low high k n) =
    Store (place_of (code_at rows.nodes) p) (Checked (code_at rows.nodes v) low high) k (next_of n)
does_of rows (does.Assign p v of pos n) =
    Assign (place_of (code_at rows.nodes) p) (fill_at rows.nodes rows.fills v) of pos (next_of n)
does_of rows (does.Call sub r n) = Call sub (actuals_of rows r) (next_of n)
does_of rows (does.Output r line n) = Output (texts_of rows r) line (next_of n)
does_of rows (does.Input p low high n) = Input (place_of (code_at rows.nodes) p) low high (next_of n)
does_of rows (does.Release p of pos n) = Release (place_of (code_at rows.nodes) p) of pos (next_of n)
does_of rows (does.Test c holds fails) = Test (code_at rows.nodes c) (next_of holds) (next_of fails)
does_of rows (does.Choose c r) = Choose (code_at rows.nodes c) (choices_of rows r)
does_of rows (does.Start at counter low high first last n) =
    Start at counter (code_at rows.nodes low) (code_at rows.nodes high) first last (next_of n)
does_of rows (does.Next at counter reversed without turn leave) = Next at counter reversed without (next_of turn) (next_of leave)
does_of rows (does.EvaluateLeft c or_else n decided) = EvaluateLeft (code_at rows.nodes c) or_else (next_of n) (next_of decided)
does_of rows (does.EvaluateRight c n) = EvaluateRight (code_at rows.nodes c) (next_of n)
does_of rows (does.Hold v of n) = Hold (fill_at rows.nodes rows.fills v) of (next_of n)
does_of rows (does.EndPointer at n) = EndPointer at (next_of n)
does_of rows (does.EndScope at of n) = EndScope at of (next_of n)
does_of rows does.Finish = Finish
does_of rows does.Fall = Fall

abbrev pub is_does_there : Rows → Does → Bool
is_does_there rows (does.Put at v low high n) = is_node rows v
is_does_there rows (does.PutPointer at v n) = is_node rows v
is_does_there rows (does.Store p v low high k n) = is_place_below (length rows.nodes) p && is_node rows v
is_does_there rows (does.Assign p v of pos n) = is_place_below (length rows.nodes) p && is_value rows v
is_does_there rows (does.Call sub r n) = is_range rows.actuals.items r
is_does_there rows (does.Output r line n) = is_range rows.texts.items r
is_does_there rows (does.Input p low high n) = is_place_below (length rows.nodes) p
is_does_there rows (does.Release p of pos n) = is_place_below (length rows.nodes) p
is_does_there rows (does.Test c holds fails) = is_node rows c
is_does_there rows (does.Choose c r) = is_node rows c && is_range rows.choices.items r
is_does_there rows (does.Start at counter low high first last n) = is_node rows low && is_node rows high
is_does_there rows (does.EvaluateLeft c or_else n decided) = is_node rows c
is_does_there rows (does.EvaluateRight c n) = is_node rows c
is_does_there rows (does.Hold v of n) = is_value rows v
is_does_there rows _ = true

-- ---- programs

-- The values are made of nodes that are there, and so are the parts of points.
abbrev pub are_parts_there : Rows → Bool
are_parts_there rows = list_all (is_actual_there rows) rows.actuals.items && list_all (is_text_there rows) rows.texts.items

abbrev pub are_sound : Rows → Bool
are_sound rows = are_within rows.nodes rows.fills && (are_parts_there rows && list_all is_choice_there rows.choices.items)

abbrev pub AreSound : Rows → Type 0
AreSound rows = IsTrue (are_sound rows)

abbrev pub point_of : Codes → Point → codes.Point
point_of c p = record { takes = some c.types.items p.takes; does = does_of c.rows p.does; pos = p.pos }

abbrev pub is_point_there : Codes → Point → Bool
is_point_there c p = is_does_there c.rows p.does && is_range c.types.items p.takes

abbrev pub room_of : Room → codes.Room
room_of (room.Object of) = Object of
room_of room.Counter = Counter

abbrev pub type_of : Room → List ℕ
type_of (room.Object of) = of ∷ []
type_of room.Counter = []

abbrev pub rooms_of : Codes → Sub → List Room
rooms_of c s = some c.rooms.items s.rooms

abbrev pub sub_of : Codes → Sub → codes.Sub
sub_of c s = record {
  first = s.first;
  words = s.words;
  rooms = map room_of (rooms_of c s);
  formals = flat_map type_of (take s.formals (rooms_of c s));
}

abbrev pub is_sub_there : Codes → Sub → Bool
is_sub_there c s = is_range c.rooms.items s.rooms

abbrev pub program_of : Codes → Program
program_of c = record {
  points = map (point_of c) c.points.items;
  subs = map (sub_of c) c.subs.items;
  main = c.main;
}

-- All that points and subprograms are made of is there.
abbrev pub are_all_there : Codes → Bool
are_all_there c = list_all (is_point_there c) c.points.items && list_all (is_sub_there c) c.subs.items

abbrev pub is_whole : Codes → Bool
is_whole c = are_sound c.rows && are_all_there c

abbrev pub IsWhole : Codes → Type 0
IsWhole c = IsTrue (is_whole c)

-- ---- what is added

-- Some stand after those that were there.
pub record Longer {A : Type 0} (old new : List A) : Type 0 where
  pub more : List A
  pub is : new ≡ old ++ more

-- All rows that were there are there.
pub record RowsGrew (old new : Rows) : Type 0 where
  pub parts : AllGrew old.nodes old.fills new.nodes new.fills
  pub actuals : Longer old.actuals.items new.actuals.items
  pub texts : Longer old.texts.items new.texts.items
  pub bytes : Longer old.bytes.items new.bytes.items
  pub choices : Longer old.choices.items new.choices.items

-- The same of a program. What was there stands for the same.
pub record CodesGrew (old new : Codes) : Type 0 where
  pub rows : RowsGrew old.rows new.rows
  pub types : Longer old.types.items new.types.items
  pub rooms : Longer old.rooms.items new.rooms.items
  pub points : Longer (program_of old).points (program_of new).points
  pub subs : Longer (program_of old).subs (program_of new).subs
  pub main : new.main ≡ old.main
