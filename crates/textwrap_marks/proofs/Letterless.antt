-- Texts without a letter or digit.
use Rattle.std.specs.Char.Unicode.Alphabetic.{alphabetic_ranges, is_alphabetic}
use Rattle.std.specs.Char.Unicode.{Numeric.numeric_ranges, Numeric.is_numeric, Rows.in_ranges}
use Rattle.std.{proofs.Math.Bool.and-false, specs.Str.chars}
use Rattle.textwrap_marks.proofs.Common.{ReflowOptions, is_comment_at, SpacedText, has_letter, bytes_eq}
use Rattle.textwrap_marks.proofs.Common.{contains, list_any, length, codes, false, Bool, List, refl, true}
use Rattle.textwrap_marks.proofs.Common.{◌==◌, ◌||◌, not, ◌∙◌, ◌∷◌, ◌≡◌, [], ap, ℕ}
use Rattle.textwrap_marks.specs.Marks.{is_comment_opening, is_line_comment, is_among, is_quote}
use Rattle.textwrap_marks.specs.Signs.{is_table_rule, opens_session, any_contains, first_word}
use Rattle.textwrap_marks.{proofs.ListLemmas.told-apart, specs.Words.is_made_of, specs.Words.has_bytes}
use Rattle.textwrap_text.proofs.Common.{starts_with, and_parts, and_right, eqb-true, nat_eq, ◌&&◌}

abbrev pub IsPlainMark : List ℕ → Type 0
IsPlainMark mark = has_letter mark ≡ false

prompts-plain : IsPlainMark (codes "$") × IsPlainMark (codes ">>>")
unfolding chars is_alphabetic in_ranges alphabetic_ranges is_numeric numeric_ranges
prompts-plain = (refl, refl)

pub dots-plain : has_letter (codes "..") ≡ false
unfolding chars is_alphabetic in_ranges alphabetic_ranges is_numeric numeric_ranges
dots-plain = refl

pub star-plain : has_letter (codes "*") ≡ false
unfolding chars is_alphabetic in_ranges alphabetic_ranges is_numeric numeric_ranges
star-plain = refl

pub box-plain : has_letter (codes "[") ≡ false
unfolding chars is_alphabetic in_ranges alphabetic_ranges is_numeric numeric_ranges
box-plain = refl

-- the comment marks of lines
comments-plain : IsPlainMark (codes "//") × IsPlainMark (codes "///") × IsPlainMark (codes "//!")
    × IsPlainMark (codes "#") × IsPlainMark (codes "--") × IsPlainMark (codes ";")
    × IsPlainMark (codes ";;") × IsPlainMark (codes ";;;") × IsPlainMark (codes ";;;;")
    × IsPlainMark (codes "%") × IsPlainMark (codes "%%") × IsPlainMark (codes "%%%")
unfolding chars is_alphabetic in_ranges alphabetic_ranges is_numeric numeric_ranges
comments-plain = (refl, refl, refl, refl, refl, refl, refl, refl, refl, refl, refl, refl)

no-line-comment : (word : List ℕ) → has_letter word ≡ true → is_line_comment word ≡ false
no-line-comment word is =
    let (a, b, c, d, e, f, g, h, i, j, k, l) = comments-plain in
    let other : (mark : List ℕ) → IsPlainMark mark → bytes_eq word mark ≡ false =
    λ mark none. told-apart has_letter word mark is none in
    rw (
      other _ a,
      other _ b,
      other _ c,
      other _ d,
      other _ e,
      other _ f,
      other _ g,
      other _ h,
      other _ i,
      other _ j,
      other _ k,
      other _ l,
    ) refl

-- quote marks have no letter
signs-plain : (cs : List ℕ) → is_made_of 62 cs ≡ true → has_letter cs ≡ false
unfolding chars is_alphabetic in_ranges alphabetic_ranges is_numeric numeric_ranges
signs-plain [] made = refl
signs-plain (c ∷ []) made =
    ap (λ b. has_letter (b ∷ [])) (eqb-true c 62 (and_parts (c == 62) true made).0)
signs-plain (c ∷ d ∷ cs) made =
    let both = and_parts (c == 62) (is_made_of 62 (d ∷ cs)) made in
    ap (λ b. has_letter (b ∷ d ∷ cs)) (eqb-true c 62 both.0) ∙ signs-plain (d ∷ cs) both.1

pub quote-plain : (word : List ℕ) → is_quote word ≡ true → IsPlainMark word
quote-plain word is =
    signs-plain word (and_parts (has_bytes word) (is_made_of 62 word) (and_parts _ (not (length word == 3)) is).0).1

-- nor is it an opening, or another comment mark
pub no-comment : (options : ReflowOptions) (in_block : Bool) (word : List ℕ) → has_letter word ≡ true
    → is_among word options.markers.now ≡ false → is_comment_at options in_block word ≡ false
no-comment options true word letter marker = told-apart has_letter word (codes "*") letter star-plain
no-comment options false word letter marker =
    let opening : is_comment_opening word ≡ false =
    ap (λ b. b && not (contains (codes "*/") word))
    (and_right (starts_with nat_eq word (codes "/*")) (not (has_letter word)) (ap not letter)) in
    rw (marker, no-line-comment word letter, opening) (and-false (not options.markdown))

-- nor does it begin a session
pub no-session : (words : List SpacedText) → has_letter (first_word words) ≡ true
    → opens_session words ≡ false
no-session [] letter = refl
no-session (w ∷ ws) letter =
    let bars = any_contains (codes "|") (w ∷ ws) in
    let hyphens = any_contains (codes "-") (w ∷ ws) in
    ap (λ b. (b || bytes_eq w.word (codes ">>>")) || is_table_rule (w ∷ ws))
    (told-apart has_letter w.word (codes "$") letter prompts-plain.0)
    ∙ ap (λ b. b || is_table_rule (w ∷ ws)) (told-apart has_letter w.word (codes ">>>") letter prompts-plain.1)
    ∙ ap (λ b. bars && hyphens && not (b || list_any (λ v. has_letter v.word) ws)) letter
    ∙ and-false (bars && hyphens)
