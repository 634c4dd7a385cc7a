-- What is known of the objects of a frame.
use Rattle.std.specs.Prelude.{◌≡◌, ℕ, [], map, sum, get_or, None, is_some}
use Rattle.flow_paths.specs.Objects.{Typing}
use Rattle.run_codes.specs.Lowered.{kept_words}
use Rattle.run_codes.specs.Programs.{has_room}
use Rattle.run_lowering.specs.Offsets.{kept_in, AreOffsets}
use Rattle.run_lowering.specs.declared.frames.Frame.{Frame}

-- Those that have room have an offset, and no others.
abbrev pub HasRooms : Frame → Type 0
HasRooms f = (x : ℕ) → has_room x (map kept_in f.kept.items) ≡ is_some (get_or f.offsets.items x None)

pub record IsFrame (s : Typing) (f : Frame) : Type 0 where
  pub offsets : AreOffsets s (map kept_in f.kept.items) f.offsets.items
  pub words : f.words ≡ sum (map (kept_words s) (map kept_in f.kept.items))
  pub room : HasRooms f

-- No object has room.
pub record IsClear (f : Frame) : Type 0 where
  pub kept : f.kept.items ≡ []
  pub words : f.words ≡ 0
  pub offsets : (x : ℕ) → get_or f.offsets.items x None ≡ None
