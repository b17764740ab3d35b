-- The frame of a paragraph, by the settings that it was made from.
use Rattle.std.specs.Prelude.{ℕ, List}
use Rattle.textwrap_words.specs.Words.{WordText}
use Rattle.textwrap_layout.specs.Options.{Settings, layout_view}
use Rattle.textwrap_layout.specs.Paragraph.{widths_of}
use Rattle.textwrap_layout.specs.Places.{CutLine, division_cuts}
use Rattle.textwrap_layout.specs.declared.frame.Frame.{Frame}

abbrev pub frame_settings : Frame → Settings
frame_settings frame = layout_view frame.layout

-- the widths that its lines are divided for
abbrev pub frame_widths : Frame → List ℕ
frame_widths frame = widths_of (frame_settings frame) frame.is_later

-- the lines of its pieces that are divided so
abbrev pub frame_lines : Frame → List (List WordText) → List CutLine
frame_lines frame division = division_cuts (frame_settings frame) frame.is_later division
