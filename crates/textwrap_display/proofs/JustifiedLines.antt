-- A text filled with its lines justified, one paragraph after another.
use Rattle.{std.proofs.Math.Bool.or-true, textwrap_display.proofs.Common.HoldsJustified}
use Rattle.textwrap_display.proofs.Common.{IsJustifiedText, WordText, justified, layout_view, line_bytes}
use Rattle.textwrap_display.specs.JustifiedSinks.{TakesLine, Writes, WritesParagraph, waiting}
use Rattle.textwrap_display.specs.JustifiedText.{added_lines, all_but_last, joined_on, justified_after}
use Rattle.textwrap_display.specs.JustifiedText.{justified_after_indents, justified_line, justified_lines}
use Rattle.textwrap_display.specs.declared.justified_lines.JustifiedLines.{JustifiedLines}
use Rattle.textwrap_layout.proofs.Common.{AreGroups, AreParagraphParts, DividesAs, DividesBy, HasParts}
use Rattle.textwrap_layout.proofs.Common.{LineParts, Settings, indent_of, line_from, parts_from, parts_of}
use Rattle.textwrap_layout.proofs.{Common.settings_view, Paragraph.Pieces.divides, Text.Sinks.assembled-bytes}
use Rattle.textwrap_layout.specs.declared.options.Options.{Options}
use Rattle.textwrap_text.proofs.Common.{Bool, List, [], ap, append-nil, append_assoc, arith, cases_Bool}
use Rattle.textwrap_text.proofs.Common.{cond, drop_all, drop_at, ending_bytes, false, flat_map, join_with}
use Rattle.textwrap_text.proofs.Common.{length, length_push, lt-ltb, map, nat_lt, paragraphs_of}
use Rattle.textwrap_text.proofs.Common.{refl, rules, string_bytes, subst, suc, sym, take_all, take_at}
use Rattle.textwrap_text.proofs.Common.{text_width, true, ℕ, ◌++◌, ◌+◌, ◌-◌, ◌||◌, ◌∙◌, ◌∷◌, ◌≡◌}
use Rattle.textwrap_text.proofs.{Lists.Parts.starts_with-true, Numbers.or_false, Numbers.some_later}
use Rattle.textwrap_words.proofs.Common.{Algorithm, Splitter}

-- ---- worked rows on lists of which all but the last are changed

abbrev changed : List ℕ → List ℕ
changed = all_but_last (λ n. n + 10) (λ n. n + 20) (λ n. n)

rows-changed : (changed (1 ∷ 2 ∷ 3 ∷ 4 ∷ []) ≡ 11 ∷ 22 ∷ 23 ∷ 4 ∷ [])
    × (changed (1 ∷ 2 ∷ []) ≡ 11 ∷ 2 ∷ []) × (changed (1 ∷ []) ≡ 1 ∷ []) × (changed [] ≡ [])
rows-changed = (refl, refl, refl, refl)

-- ---- one line

-- a line of its indent and what follows
after-front : (width : ℕ) (indent line rest : List ℕ) → line ≡ indent ++ rest
    → justified_after width indent line ≡ indent ++ line_bytes (justified (width - text_width indent) rest)
after-front width indent line rest is = search (rules, arith, starts_with-true, take_at, drop_at)

line-justified : (settings : Settings) (is_later : Bool) (words : List WordText)
    → justified_after settings.width (indent_of settings is_later)
    (line_bytes (line_from (parts_of settings is_later words)))
    ≡ justified_line settings.width (parts_of settings is_later words)
line-justified settings is_later [] = grind (arith, take_all, drop_all, cases_Bool)
line-justified settings is_later (w ∷ words) =
    search (rules, arith, after-front, assembled-bytes, append_assoc)

-- ---- the lines of a paragraph

pub parts-justified : (settings : Settings) (is_later : Bool) (division : List (List WordText))
    → justified_after_indents settings is_later
    (map line_bytes (map line_from (parts_from settings is_later division)))
    ≡ justified_lines settings.width (parts_from settings is_later division)
parts-justified settings is_later [] = refl
parts-justified settings is_later (words ∷ []) = refl
parts-justified settings is_later (words ∷ next ∷ division) =
    grind (arith, line-justified, parts-justified settings true (next ∷ division))

pub justified-length : (width : ℕ) (parts : List LineParts)
    → length (justified_lines width parts) ≡ length parts
justified-length width [] = refl
justified-length width (p ∷ []) = refl
justified-length width (p ∷ q ∷ parts) = ap suc (justified-length width (q ∷ parts))

-- ---- lines in a row

-- after the first line the ending stands before each
join-after : (ending x : List ℕ) (xs : List (List ℕ))
    → join_with ending (x ∷ xs) ≡ x ++ joined_on ending true xs
join-after ending x [] = sym (append-nil x)
join-after ending x (y ∷ xs) = rw (join-after ending y xs) (simp append_assoc)

pub join-on : (ending : List ℕ) (lines : List (List ℕ))
    → join_with ending lines ≡ joined_on ending false lines
join-on ending [] = refl
join-on ending (x ∷ xs) = join-after ending x xs

pub joined_on-append : (ending : List ℕ) (is_later : Bool) (xs ys : List (List ℕ))
    → joined_on ending is_later (xs ++ ys)
    ≡ joined_on ending is_later xs ++ joined_on ending (is_later || nat_lt 0 (length xs)) ys
joined_on-append ending is_later [] ys = ap (λ b. joined_on ending b ys) (sym (or_false is_later))
joined_on-append ending is_later (x ∷ xs) ys =
    grind (arith, append_assoc, some_later, joined_on-append ending true xs ys)

module _ (settings : Settings) where
  -- the lines of groups in a row
  abbrev pub rows : Bool → List (List LineParts) → List ℕ
  rows is_later groups = joined_on (ending_bytes settings.line_ending) is_later
      (flat_map (justified_lines settings.width) groups)

  -- those of one more group
  pub rows-more : (filled new : List ℕ) (is_later then_later : Bool) (division : List (List WordText))
      (groups : List (List LineParts)) → new ≡ filled ++ added_lines settings is_later
      (map line_bytes (map line_from (parts_from settings is_later division)))
      → then_later ≡ is_later || nat_lt 0 (length (parts_from settings is_later division))
      → filled ++ rows is_later (parts_from settings is_later division ∷ groups)
      ≡ new ++ rows then_later groups
  rows-more filled new is_later then_later division groups is later =
      grind (arith, append_assoc, joined_on-append, justified-length, parts-justified)

-- ---- a text that is filled with its lines justified, one paragraph after another

-- with right lines of the paragraphs that are left, it is the whole
module _ (settings : Settings) (Divides : Bool → List ℕ → List (List WordText) → Type 0) where
  pub record IsJustifiedSoFar (text filled : List ℕ) (is_later : Bool) (left : List (List ℕ))
      : Type 0 where
    pub done : List (List ℕ)
    pub paragraphs : paragraphs_of settings.line_ending text ≡ done ++ left
    pub whole : (groups : List (List LineParts))
        → AreGroups (AreParagraphParts settings Divides) is_later left groups
        → IsJustifiedText settings Divides text (filled ++ rows settings is_later groups)

module _ {settings : Settings} {Divides : Bool → List ℕ → List (List WordText) → Type 0} where
  pub so_far-start : (text filled : List ℕ) → filled ≡ []
      → IsJustifiedSoFar settings Divides text filled false (paragraphs_of settings.line_ending text)
  so_far-start text filled none = search (rules, arith, join-on)

  -- the lines of one more paragraph
  pub so_far-more : {text filled new : List ℕ} {is_later then_later : Bool} {paragraph : List ℕ}
      {after : List (List ℕ)} (parts : List LineParts)
      → IsJustifiedSoFar settings Divides text filled is_later (paragraph ∷ after)
      → AreParagraphParts settings Divides is_later paragraph parts
      → new ≡ filled ++ added_lines settings is_later (map line_bytes (map line_from parts))
      → then_later ≡ is_later || nat_lt 0 (length parts)
      → IsJustifiedSoFar settings Divides text new then_later after
  so_far-more {text = text} {filled = filled} {new = new} {is_later = is_later} {then_later = then_later}
      {paragraph = paragraph} {after = after} parts so_far (division, laid_out, are) is then = record {
        done = so_far.done ++ paragraph ∷ [];
        paragraphs = so_far.paragraphs ∙ sym (append_assoc so_far.done (paragraph ∷ []) after);
        whole = λ groups rest.
            subst (IsJustifiedText settings Divides text)
            (rw are (rows-more settings filled new is_later then_later division groups (rw are at is)
            (rw are at then))) (so_far.whole (parts ∷ groups) ((division, laid_out, are), rw then at rest));
      }

  pub so_far-end : {text filled : List ℕ} {is_later : Bool}
      → IsJustifiedSoFar settings Divides text filled is_later []
      → IsJustifiedText settings Divides text filled
  so_far-end so_far = rw append-nil at (so_far.whole [] refl)

-- the same text, where all parts are built in and can be named
pub justified-as : {E C : Type 0} {e : _} {c : _} (options : Options E C e c) (settings : Settings)
    (splitter : Splitter) (algorithm : Algorithm) → HasParts options settings splitter algorithm
    → (text filled : List ℕ) → IsJustifiedText (settings_view options) (DividesBy options) text filled
    → IsJustifiedText settings (DividesAs splitter algorithm settings) text filled
justified-as options settings splitter algorithm parts text filled is = search (rules, arith, divides)

module _ (settings : Settings) where
  -- a line that waited and is not the last, before those that come
  one-written : (has_lines waits : Bool) (text line next : List ℕ) (more : List (List ℕ))
      → (text ++ cond waits (cond has_lines (ending_bytes settings.line_ending) []
      ++ justified_after settings.width (indent_of settings has_lines) line) [])
      ++ added_lines settings (has_lines || waits) (next ∷ more)
      ≡ text ++ added_lines settings has_lines (cond waits (line ∷ []) [] ++ next ∷ more)
  one-written has_lines waits text line next more = grind (arith, cases_Bool, append_assoc, append-nil)

  -- one that is the last
  last-written : (has_lines waits : Bool) (line : List ℕ)
      → joined_on (ending_bytes settings.line_ending) has_lines (cond waits (line ∷ []) [])
      ≡ added_lines settings has_lines (cond waits (line ∷ []) [] ++ [])
  last-written has_lines waits line = grind (arith, cases_Bool)

module _ {Z : Type 0} where
  pub justified-none : (first : JustifiedLines Z) → first.waits ≡ false → HoldsJustified first first []
  justified-none first waits =
      record { text = λ more. rw waits; waits = waits; some = refl; layout_is = refl }

  pub justified-one : {first old new : JustifiedLines Z} {held : List (List ℕ)} {line : List ℕ}
      → HoldsJustified first old held → TakesLine old new line → HoldsJustified first new (held ++ line ∷ [])
  justified-one {first = first} {old = old} {new = new} {held = held} {line = line} given takes =
      let last : waiting new ≡ line ∷ [] = rw takes.waits (ap (λ b. b ∷ []) takes.line_is) in
      let some : nat_lt 0 (length (held ++ line ∷ [])) ≡ true = search (rules, arith, lt-ltb, length_push) in
      record {
        text = λ more. let written = one-written (layout_view old.layout) old.has_lines old.waits
            (string_bytes old.text) (string_bytes old.line) line more in
            cc (last, written, given.text (line ∷ more), append_assoc held (line ∷ []) more);
        waits = takes.waits ∙ sym some;
        some = rw takes.waits (or-true new.has_lines ∙ sym (or-true first.has_lines));
        layout_is = takes.writes.layout_is ∙ given.layout_is;
      }

  pub paragraph-written : {first then new : JustifiedLines Z} {lines : List (List ℕ)}
      → HoldsJustified first then lines → Writes then new
      (joined_on (ending_bytes then.layout.line_ending) then.has_lines (waiting then))
      → new.waits ≡ false → WritesParagraph first new lines
  paragraph-written {first = first} {then = then} {lines = lines} given writes waits = record {
    text = let last = last-written (layout_view then.layout) then.has_lines then.waits
        (string_bytes then.line) in cc (writes.text, last, given.text [], append-nil lines);
    has_lines = writes.has_lines ∙ given.some ∙ ap (λ b. first.has_lines || b) given.waits;
    waits = waits;
    layout_is = writes.layout_is ∙ given.layout_is;
  }
