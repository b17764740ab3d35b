use Rattle.textwrap_layout.proofs.pieces.find_split_words.Goals as goal
use Rattle.textwrap_text.proofs.Common.{All, All-weaker, IsUtf8, List, None, Some, ap, map, refl}
use Rattle.textwrap_text.proofs.Common.{subst, sym, text_width, ℕ, ◌∙◌, ◌≡◌}
use Rattle.textwrap_layout.proofs.Common.{AreWordsCut, IsMeasured, WordText, word_view}
use Rattle.textwrap_layout.proofs.Paragraph.Pieces.{AreWordsCut-texts}
use Rattle.textwrap_words.proofs.Word.Cuts.{inner-cuts}
use Rattle.textwrap_words.specs.Cuts.{parts_between}
use Rattle.textwrap_words.specs.Words.{word_of}

-- words that are cut have the widths of their texts
measured : (line : List ℕ) (words : List WordText) → IsUtf8 line → AreWordsCut line words
    → All (λ w. w.width ≡ text_width w.word) words
measured line words utf8 cut =
    All-weaker IsMeasured (λ (w : WordText). w.width ≡ text_width w.word) (λ w is. is.width) words
    (AreWordsCut-texts line words utf8 cut).measured

pub words_between-requires : goal.words_between-requires
words_between-requires g c =
    rw c.deref.ensures.value (inner-cuts c.args.paragraph.now c.in-Some.cuts.items
    (rw c.in-Some.is at c.in_ok-cuts.ensures.cuts))

pub split_each-requires : goal.split_each-requires
split_each-requires g c =
    rw c.words_at_blanks.ensures (measured c.args.paragraph.now _ c.utf8.paragraph (None, tt, refl))

pub split_list-requires : goal.split_list-requires
split_list-requires g c =
    let line = c.args.paragraph.now in
    subst (All (λ (w : WordText). w.width ≡ text_width w.word))
    (sym (ap (map word_view) c.deref-2.ensures.value ∙ c.in_ok-words.ensures
    ∙ ap (λ cuts. map word_of (parts_between cuts line)) c.deref.ensures.value))
    (measured line _ c.utf8.paragraph
    (Some c.in-Some.cuts.items, rw c.in-Some.is at c.in_ok-cuts.ensures.cuts, refl))
