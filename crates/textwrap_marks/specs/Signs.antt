-- How a text begins, and what no paragraph contains.
use Rattle.std.specs.Prelude.{◌≡◌, ℕ, ◌-◌, ◌==◌, ◌&&◌, ◌||◌, Bool, true, false, not, nat_eq, nat_lt}
use Rattle.std.specs.Prelude.{List}
use Rattle.std.specs.Prelude.{[], ◌∷◌, length, take, drop, slice_get, slice_index, chars, codes}
use Rattle.std.specs.Prelude.{bytes_eq}
use Rattle.std.specs.Prelude.{if◌then◌else◌, Option, Some, None}
use Rattle.std.specs.List.{All, ends_with, fold, list_all, list_any, starts_with}
use Rattle.textwrap_marks.specs.Marks.{is_among, is_bullet}
use Rattle.textwrap_marks.specs.Words.{contains, has_byte, has_bytes, has_letter, is_letter_or_digit}
use Rattle.textwrap_marks.specs.Words.{SpacedText}
use Rattle.textwrap_marks.specs.declared.options.ReflowOptions.{ReflowOptions}

-- ---- how a text begins

abbrev pub first_word : List SpacedText → List ℕ
first_word [] = []
first_word (w ∷ ws) = w.word

-- the last word alone
abbrev pub last_of : List SpacedText → List SpacedText
last_of words = drop (length words - 1) words

abbrev pub last_word : List SpacedText → List ℕ
last_word words = first_word (last_of words)

abbrev pub first_white : List SpacedText → List ℕ
first_white [] = []
first_white (w ∷ ws) = w.white

-- the white behind the last word
abbrev pub last_white : List SpacedText → List ℕ
last_white words = first_white (last_of words)

-- what may stand in a key: a letter or digit, a hyphen or a low line
abbrev pub is_key_character : ℕ → Bool
is_key_character c = is_letter_or_digit c || c == 45 || c == 95

-- one or more such characters, and then a colon
abbrev pub is_key : List ℕ → Bool
is_key word =
    let front = take (length word - 1) word in
    if ends_with nat_eq word (codes ":")
    then has_bytes front && list_all is_key_character (chars front) else false

-- # ; % > < | = .
abbrev pub is_sign_byte : ℕ → Bool
is_sign_byte c =
    c == 35 || c == 59 || c == 37 || c == 62 || c == 60 || c == 124 || c == 61 || c == 46

-- what begins code in a comment that Doxygen, JSDoc, Javadoc or Scaladoc reads
abbrev pub opens_code : List ℕ → Bool
opens_code word =
    starts_with nat_eq word (codes "@code") || starts_with nat_eq word (codes "\\code")
    || starts_with nat_eq word (codes "@verbatim") || starts_with nat_eq word (codes "\\verbatim")
    || starts_with nat_eq word (codes "@example") || starts_with nat_eq word (codes "{@snippet")
    || bytes_eq word (codes "{{{")

-- and what ends it
abbrev pub ends_code : List ℕ → Bool
ends_code word =
    starts_with nat_eq word (codes "@endcode") || starts_with nat_eq word (codes "\\endcode")
    || starts_with nat_eq word (codes "@endverbatim")
    || starts_with nat_eq word (codes "\\endverbatim") || starts_with nat_eq word (codes "}}}")

-- what begins a comment that a linter, a formatter or an editor reads
abbrev pub is_tool_word : List ℕ → Bool
is_tool_word word =
    bytes_eq word (codes "clang-format") || bytes_eq word (codes "shellcheck")
    || bytes_eq word (codes "noqa") || bytes_eq word (codes "noqa:")
    || bytes_eq word (codes "nolint") || bytes_eq word (codes "pylint:")
    || bytes_eq word (codes "type:") || bytes_eq word (codes "fmt:")
    || bytes_eq word (codes "isort:") || bytes_eq word (codes "eslint-disable")
    || bytes_eq word (codes "eslint-enable") || bytes_eq word (codes "eslint-disable-next-line")
    || bytes_eq word (codes "prettier-ignore") || bytes_eq word (codes "rubocop:disable")
    || bytes_eq word (codes "rubocop:enable") || bytes_eq word (codes "vim:")

-- so does a constraint of Go, and marks of C++ and TypeScript
abbrev pub is_for_tools : List ℕ → Bool
is_for_tools word =
    starts_with nat_eq word (codes "+build") || starts_with nat_eq word (codes "NOLINT")
    || starts_with nat_eq word (codes "@ts-") || is_tool_word word

-- what tells a program something of the lines around it: of Markdown an alert, a table of contents
-- or a container, what a tool reads, what begins a formula, and what begins code
abbrev pub is_directive : List ℕ → Bool
is_directive word =
    starts_with nat_eq word (codes "[!") || starts_with nat_eq word (codes "[TOC]")
    || starts_with nat_eq word (codes ":::") || is_for_tools word
    || starts_with nat_eq word (codes "$$") || opens_code word

-- what may mean something at the beginning of a line, to a compiler or in Markdown
abbrev pub is_sign : List ℕ → Bool
is_sign word =
    is_sign_byte (slice_index word 0)
    || starts_with nat_eq word (codes "//") || starts_with nat_eq word (codes "/*")
    || starts_with nat_eq word (codes "```") || starts_with nat_eq word (codes "~~~")
    || is_directive word

-- a key, `Copyright`, `@word`, `\word`, or `:word` without a backtick
abbrev pub opens_paragraph : List ℕ → Bool
opens_paragraph word =
    let c = slice_index word 0 in
    is_key word || bytes_eq word (codes "Copyright") || c == 64 || c == 92
    || (c == 58 && not (has_byte 96 word))

-- a word with a letter, but no sign, nor one with `*` in front where a block comment has no marks
abbrev pub begins_text : Bool → List ℕ → Bool
begins_text starred word =
    has_letter word && not (is_sign word) && not (starred && slice_index word 0 == 42)

-- a paragraph may have a line, after its first, that this word begins
abbrev pub may_go_on : ReflowOptions → Bool → List ℕ → Bool
may_go_on options starred word =
    begins_text starred word && not (opens_paragraph word) && not (is_bullet word)
    && not (is_among word options.markers.now)

-- ---- what no paragraph contains

-- a closing quote or bracket: ) ] " ' * _ ” ’ »
abbrev pub is_closing_sign : ℕ → Bool
is_closing_sign c =
    c == 41 || c == 93 || c == 34 || c == 39 || c == 42 || c == 95 || c == 0x201D || c == 0x2019
    || c == 0xBB

-- . ? ! :
abbrev pub is_end : ℕ → Bool
is_end c = c == 46 || c == 63 || c == 33 || c == 58

-- the last character that closes nothing ends a sentence
abbrev pub ends_sentence : List ℕ → Bool
ends_sentence word = fold (λ ends c. if is_closing_sign c then ends else is_end c) false (chars word)

-- three blanks or more, or two that do not follow the end of a sentence
abbrev pub has_wide_gap : SpacedText → Bool
has_wide_gap w = nat_lt 2 (length w.white) || (length w.white == 2 && not (ends_sentence w.word))

-- a tab, or so much white; where lines are justified, a tab alone
abbrev pub is_gap : Bool → SpacedText → Bool
is_gap justify w = has_byte 9 w.white || (not justify && has_wide_gap w)

-- what begins a comment behind text in one of many languages
abbrev pub is_comment_behind : List ℕ → Bool
is_comment_behind word =
    starts_with nat_eq word (codes "//") || starts_with nat_eq word (codes "/*")
    || bytes_eq word (codes "#") || bytes_eq word (codes "%") || bytes_eq word (codes "%%")
    || bytes_eq word (codes "--") || bytes_eq word (codes ";") || bytes_eq word (codes ";;")
    || bytes_eq word (codes ";;;")

-- `|`, `=`, a comment behind text, a carriage return, what ends a label of a link, or `<pre`
abbrev pub is_column_word : List ℕ → Bool
is_column_word word =
    bytes_eq word (codes "|") || bytes_eq word (codes "=") || is_comment_behind word || has_byte 13 word
    || contains (codes "]:") word || contains (codes "<pre") word

-- | = / # % - ; carriage return ] <
abbrev pub is_column_byte : ℕ → Bool
is_column_byte c =
    c == 124 || c == 61 || c == 47 || c == 35 || c == 37 || c == 45 || c == 59 || c == 13 || c == 93 || c == 60

-- none of these bytes is in the words
abbrev pub ArePlain : List SpacedText → Type 0
ArePlain words = All (λ w. list_any is_column_byte w.word ≡ false) words

-- all words but the last
abbrev pub words_before_last : List SpacedText → List SpacedText
words_before_last words = take (length words - 1) words

-- such a word, or a gap between two words
abbrev pub has_columns : Bool → List SpacedText → Bool
has_columns justify words =
    list_any (λ w. is_column_word w.word) words || list_any (is_gap justify) (words_before_last words)

-- this text stands in one of the words
abbrev pub any_contains : List ℕ → List SpacedText → Bool
any_contains part words = list_any (λ w. contains part w.word) words

-- the end of a block comment stands in the words
abbrev pub closes_block : List SpacedText → Bool
closes_block words = any_contains (codes "*/") words

-- a word does not end in that, or has another one
abbrev pub ends_early : List ℕ → Bool
ends_early word =
    if ends_with nat_eq word (codes "*/") then contains (codes "*/") (take (length word - 2) word)
    else true

-- it stands there, and not only at their end
abbrev pub closes_early : List SpacedText → Bool
closes_early words = closes_block (words_before_last words) || ends_early (last_word words)

-- one character, three times at least, which is no letter, digit, tilde or backtick
abbrev pub is_rule_of : Option ℕ → List ℕ → Bool
is_rule_of None cs = false
is_rule_of (Some first) cs =
    nat_lt 2 (length cs) && list_all (λ c. c == first) cs
    && not (is_letter_or_digit first || first == 96 || first == 126)

abbrev pub is_rule_characters : List ℕ → Bool
is_rule_characters cs = is_rule_of (slice_get cs 0) cs

abbrev pub is_rule : List SpacedText → Bool
is_rule [] = false
is_rule (w ∷ []) = is_rule_characters (chars w.word)
is_rule (w ∷ v ∷ ws) = false

-- ---- what a line says of those below it

-- a prompt of a shell, or of Python
abbrev pub is_prompt : List ℕ → Bool
is_prompt word = bytes_eq word (codes "$") || bytes_eq word (codes ">>>")

-- below the head of a table: with bars and hyphens, and without a letter or digit
abbrev pub is_table_rule : List SpacedText → Bool
is_table_rule words =
    any_contains (codes "|") words && any_contains (codes "-") words
    && not (list_any (λ w. has_letter w.word) words)

-- all lines belong to it, up to one without text
abbrev pub opens_session : List SpacedText → Bool
opens_session words = is_prompt (first_word words) || is_table_rule words

-- `Usage:`, `Example:` or `Examples:`
abbrev pub is_example_key : List ℕ → Bool
is_example_key word =
    bytes_eq word (codes "Usage:") || bytes_eq word (codes "usage:")
    || bytes_eq word (codes "Example:") || bytes_eq word (codes "example:")
    || bytes_eq word (codes "Examples:") || bytes_eq word (codes "examples:")

-- code is deeper by one column, if the text above it begins with `..`, ends in `::` or such a key, or
-- stands behind a single blank, and else by four
abbrev pub deeper_by : List ℕ → List SpacedText → ℕ
deeper_by hanging words =
    let last = last_word words in
    if ends_with nat_eq last (codes "::") || is_example_key last || bytes_eq hanging (codes " ")
    || bytes_eq (first_word words) (codes "..")
    then 1 else 4
