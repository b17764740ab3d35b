-- Marks: words that make up a prefix.
use Rattle.std.specs.Prelude.{ℕ, ◌-◌, ◌==◌, ◌&&◌, ◌||◌, Bool, not, nat_eq, nat_lt, List, [], ◌∷◌}
use Rattle.std.specs.Prelude.{length, take, slice_index, slice_range, if◌then◌else◌, codes}
use Rattle.std.specs.Prelude.{bytes_eq}
use Rattle.std.specs.Char.{is_ascii_alphabetic, is_ascii_digit}
use Rattle.std.specs.List.{list_all, list_any, starts_with}
use Rattle.textwrap_marks.specs.Words.{contains, has_bytes, has_letter, is_made_of}
use Rattle.textwrap_marks.specs.declared.options.ReflowOptions.{ReflowOptions}
use denote.Ref.{Bor}

-- begins with `/*`, has no letter, and does not close what it opens
abbrev pub is_comment_opening : List ℕ → Bool
is_comment_opening word =
    starts_with nat_eq word (codes "/*") && not (has_letter word) && not (contains (codes "*/") word)

-- the comment marks of lines
abbrev pub is_line_comment : List ℕ → Bool
is_line_comment word =
    bytes_eq word (codes "//") || bytes_eq word (codes "///") || bytes_eq word (codes "//!")
    || bytes_eq word (codes "#") || bytes_eq word (codes "--") || bytes_eq word (codes ";")
    || bytes_eq word (codes ";;") || bytes_eq word (codes ";;;") || bytes_eq word (codes ";;;;")
    || bytes_eq word (codes "%") || bytes_eq word (codes "%%") || bytes_eq word (codes "%%%")

-- `>` several times, but for `>>>`, the prompt of Python
abbrev pub is_quote : List ℕ → Bool
is_quote word = has_bytes word && is_made_of 62 word && not (length word == 3)

-- one to three digits
abbrev pub is_short_number : List ℕ → Bool
is_short_number text = list_all is_ascii_digit text && nat_lt 0 (length text) && nat_lt (length text) 4

-- one letter
abbrev pub is_one_letter : List ℕ → Bool
is_one_letter text = length text == 1 && list_all is_ascii_alphabetic text

-- two to four of the letters i, v and x
abbrev pub is_roman_digit : ℕ → Bool
is_roman_digit c = c == 105 || c == 118 || c == 120 || c == 73 || c == 86 || c == 88

abbrev pub is_roman : List ℕ → Bool
is_roman text = list_all is_roman_digit text && nat_lt 1 (length text) && nat_lt (length text) 5

-- what the items of a list are counted by
abbrev pub is_counter : List ℕ → Bool
is_counter text = is_short_number text || is_one_letter text || is_roman text

-- what is a label in brackets, or before a closing one
abbrev pub label_inside : List ℕ → List ℕ
label_inside word =
    let first = slice_index word 0 in
    let last = slice_index word (length word - 1) in
    if (first == 40 && last == 41) || (first == 91 && last == 93)
    then slice_range word 1 (length word - 1)
    else if last == 41 then take (length word - 1) word
    else []

abbrev pub is_label : List ℕ → Bool
is_label word =
    is_counter (if slice_index word (length word - 1) == 46 then take (length word - 1) word
    else label_inside word)

abbrev pub is_bullet_sign : List ℕ → Bool
is_bullet_sign word =
    bytes_eq word (codes "-") || bytes_eq word (codes "+") || bytes_eq word (codes "*")
    || bytes_eq word (0xE2 ∷ 0x80 ∷ 0xA2 ∷ [])

-- `-` `+` `*` `•`, or a label: `1.` `1)` `(1)` `[1]`, and so `a.` or `ii.`
abbrev pub is_bullet : List ℕ → Bool
is_bullet word = is_bullet_sign word || is_label word

-- one of these texts
abbrev pub is_among : List ℕ → List (Bor (List ℕ)) → Bool
is_among word marks = list_any (λ mark. bytes_eq word mark.now) marks

module _ (options : ReflowOptions) where
  -- a comment mark of lines, an opening, or what the caller declared; Markdown has no comments
  abbrev pub is_comment : List ℕ → Bool
  is_comment word =
      is_among word options.markers.now
      || (not options.markdown && (is_line_comment word || is_comment_opening word))

  -- in a block comment the mark is `*`
  abbrev pub is_comment_at : Bool → List ℕ → Bool
  is_comment_at in_block word =
      if in_block then bytes_eq word (codes "*") else is_comment word
