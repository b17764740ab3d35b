-- How the pieces of a paragraph are laid out.
use Rattle.std.specs.Prelude.{ℕ, ◌-◌, ◌^◌, Bool, List, [], if◌then◌else◌}
use Rattle.textwrap_words.specs.Words.{WordText}
use Rattle.textwrap_layout.specs.Options.{Settings}
use Rattle.textwrap_layout.specs.Paragraph.{front_pieces, later_width}

-- the pieces that stand before its words
abbrev pub front_of : Settings → List WordText
front_of settings = if settings.break_words then front_pieces settings else []

-- the columns past which a word is broken on lines of a width: no word has the most that there are
abbrev pub limit_at : Bool → ℕ → ℕ
limit_at breaks width = if breaks then width else 2 ^ 64 - 1

abbrev pub break_limit : Settings → ℕ
break_limit settings = limit_at settings.break_words (later_width settings)
