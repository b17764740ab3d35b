use Rattle.textwrap_marked_lines.proofs.lines.line_from.Goals as goal
use Rattle.std.proofs.lemmas.List.Elements.{All-drop}
use Rattle.textwrap_text.proofs.Common.{Option, None, Some, drop}
use Rattle.textwrap_marks.specs.Signs.{is_key}
use Rattle.textwrap_marks.proofs.Common.{false, subst, Bool, List, refl}
use Rattle.textwrap_marks.specs.Signs.{closes_block}
use Rattle.textwrap_marks.specs.Words.{spaced_words}
use Rattle.textwrap_marked_lines.specs.Lines.{stands_apart, StateText}
use Rattle.textwrap_text.proofs.Common.{string_bytes}
use Rattle.textwrap_marked_lines.specs.Hanging.{hanging_bullets}
use Rattle.textwrap_marked_lines.specs.Lines.{line_from_words, without_returns}
use Rattle.textwrap_marks.specs.declared.options.ReflowOptions.{ReflowOptions}
use Rattle.textwrap_text.proofs.Common.{option_map}
use Rattle.textwrap_marks.specs.Words.{has_byte}
use Rattle.textwrap_marked_lines.specs.Lines.{is_ended, is_deep}
use Rattle.textwrap_marks.proofs.Common.{list_any, arith}
use Rattle.std.specs.Prelude.{is_some}
use Rattle.textwrap_text.proofs.Common.{slice_range}
use Rattle.textwrap_marks.specs.Words.{spaced_text}
use Rattle.textwrap_marks.proofs.Common.{SpacedText, cases_Bool, not}
use Rattle.textwrap_marks.specs.Signs.{first_word}
use Rattle.textwrap_marks.proofs.Common.{take, true, ◌++◌, ◌==◌, ◌||◌, sym, ◌∙◌, ◌≡◌, ap, ℕ}
use Rattle.textwrap_text.proofs.Common.{◌&&◌}
use Rattle.textwrap_marked_lines.specs.Hanging.{hanging_margin, has_opening}
use Rattle.textwrap_marked_lines.specs.Lines.{state_view, is_chosen}
use Rattle.textwrap_marks.proofs.{PlainWords.words-plain, WordCuts.text-of}
use Rattle.textwrap_marked_lines.specs.declared.fences.Fence.{Fence}
use Rattle.textwrap_marked_lines.specs.declared.prefixes.PrefixEnds.{PrefixEnds}
use Rattle.textwrap_marked_lines.specs.Fences.{fence_view}
use Rattle.textwrap_marks.specs.Signs.{is_column_byte, ArePlain}

is_some-view : (fence : Option Fence) → is_some fence ≡ is_some (option_map fence_view fence)
is_some-view None = refl
is_some-view (Some fence) = refl

-- the parts of a line, each from those before it
module _ (options : ReflowOptions) (state : StateText) (raw : List ℕ) (fed : Bool)
    (all : List SpacedText) (ends : PrefixEnds) where
  line-is : (margin prefix form hanging : List ℕ) (words : List SpacedText)
      (opening star deeper key opens fenced apart ended chosen : Bool)
      → margin ≡ spaced_text (take ends.margin all) → prefix ≡ spaced_text (take ends.text all)
      → form ≡ hanging_margin options.bare ends all
      → hanging ≡ form ++ hanging_bullets (slice_range all ends.margin ends.text)
      → words ≡ drop ends.text all → opening ≡ has_opening ends all → star ≡ has_byte 42 form
      → deeper ≡ is_deep options state form → key ≡ is_key (first_word words)
      → opens ≡ (opening && not (closes_block words)) → fenced ≡ is_some state.fence
      → apart ≡ stands_apart options.justify (state.in_block || opening)
      ((state.in_block || opening) && not star) (key && ends.margin == ends.text) words
      → ended ≡ is_ended (state.in_block || opening) words → chosen ≡ is_chosen options margin
      → record {
        raw = raw;
        fed = fed;
        prefix = prefix;
        hanging = hanging;
        words = words;
        starred = (state.in_block || opening) && not star;
        opens_block = opens;
        deeper = deeper;
        apart = fenced || deeper || state.prompted || apart;
        field = key && ends.margin == ends.text;
        ended = ended;
        chosen = chosen;
      } ≡ line_from_words options state raw fed all ends
  line-is margin prefix form hanging words opening star deeper key opens fenced apart ended chosen
      m p f h w o s d k c n a e x = rw (x, e, a, n, c, k, d, s, o, w, h, f, p, m) refl

-- if the line has none of the bytes, its text is plain
text-plain : (raw bytes line : List ℕ) (at : ℕ) (has : Bool) (words : List SpacedText)
    → words ≡ drop at (spaced_words line) → line ≡ without_returns raw → bytes ≡ line
    → has ≡ list_any is_column_byte bytes → not has ≡ true → ArePlain words
text-plain raw bytes line at has words are whole same is plain =
    let none : has ≡ false = grind (arith, cases_Bool, plain) in
    subst ArePlain (sym are) (All-drop (λ w. list_any is_column_byte w.word ≡ false) at
    (spaced_words line) (words-plain line (ap (list_any is_column_byte) (sym same) ∙ sym is ∙ none)))

pub stands_apart-by_words-requires : goal.stands_apart-by_words-requires
stands_apart-by_words-requires c = λ plain.
    text-plain c.args.raw.now _ _ c.args.ends.now.text _ _ c.split_words-2.ensures.behind
    c.without_returns-line.ensures c.as_bytes-2.ensures.value c.has_column_byte-plain.ensures plain

pub returns-clause-plain : goal.returns-clause-plain
returns-clause-plain c = λ plain.
    text-plain c.args.raw.now _ _ c.args.ends.now.text _ _ c.split_words-2.ensures.behind
    c.without_returns-line.ensures c.as_bytes-2.ensures.value c.has_column_byte-plain.ensures plain

pub returns-clause-line : goal.returns-clause-line
returns-clause-line c =
    let options = c.args.options.now in
    let state = state_view c.args.state.now in
    let line = c.without_returns-line.result.now in
    let all = spaced_words line in
    let ends = c.args.ends.now in
    line-is options state c.args.raw.now c.args.fed all ends
    c.split_words.result.0.now c.split_words-2.result.0.now
    (string_bytes c.in_ok-hanging.hanging) (string_bytes c.push_hanging_bullets.new.output)
    (spaced_words c.split_words-2.result.1.now) c.has_opening-opening.result c.has_byte.result
    c.in_ok-deeper.deeper c.is_key.result c.stays_open-opens_block.result c.is_some-fenced.result
    c.stands_apart-by_words.result c.is_ended-ended.result c.is_chosen-chosen.result
    (text-of c.split_words.result.0.now (take ends.margin all) c.split_words.ensures.front)
    (text-of c.split_words-2.result.0.now (take ends.text all) c.split_words-2.ensures.front)
    c.in_ok-hanging.ensures (c.in_ok-push_hanging_bullets.ensures
    ∙ ap (λ ws. string_bytes c.in_ok-hanging.hanging ++ hanging_bullets ws) c.words_between.ensures)
    c.split_words-2.ensures.behind c.has_opening-opening.ensures
    (c.has_byte.ensures ∙ ap (has_byte 42) (c.as_bytes.ensures.value ∙ c.as_str-form.ensures.value))
    (c.in_ok-deeper.ensures ∙ ap (is_deep options state) c.as_str-form.ensures.value)
    (c.is_key.ensures ∙ ap is_key c.first_word.ensures) c.stays_open-opens_block.ensures
    (c.is_some-fenced.ensures ∙ is_some-view c.args.state.now.fence) c.stands_apart-by_words.ensures
    c.is_ended-ended.ensures c.is_chosen-chosen.ensures
    ∙ ap (λ t. line_from_words options state c.args.raw.now c.args.fed (spaced_words t) ends)
    c.without_returns-line.ensures
