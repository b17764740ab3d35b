use Rattle.textwrap_calls.proofs.Common.{List, Settings, ap, options_settings, separator_of, ℕ, ◌∙◌}
use Rattle.textwrap_calls.specs.Options.{options_points}
use Rattle.textwrap_layout.proofs.Common.{broken_pieces_of}
use Rattle.textwrap_more_calls.{proofs.Common.WritesText-answer, specs.Pieces.piece_places}
use Rattle.textwrap_more_calls.specs.declared.pieces.TextwrapPiece.{TextwrapPiece}
use Rattle.textwrap_plain.specs.Options.{points_by, split_by_points, words_by}
use Rattle.textwrap_plain.specs.declared.options.PlainSeparator.{PlainSeparator}
use Rattle.textwrap_more_calls.proofs.pieces.textwrap_pieces.Goals as goal

pub returns-in-Ok-listed_pieces-clause-pieces : goal.returns-in-Ok-listed_pieces-clause-pieces
returns-in-Ok-listed_pieces-clause-pieces c =
    let o = c.args.options.now in
    let given = c.in-Ok.options in
    let read = c.in-Ok.ensures.read in
    let places : Settings → (List ℕ → List ℕ) → PlainSeparator → List ℕ → List TextwrapPiece =
    λ settings points separator paragraph.
    piece_places 0 (broken_pieces_of settings (split_by_points points (words_by separator paragraph))) in
    let points = points_by given.word_splitter in
    let says = c.deref.ensures.value ∙ c.in-Ok-listed_pieces.ensures
    ∙ ap (λ s. places s points given.word_separator c.in-Ok-from_utf8.paragraph.now) read.settings
    ∙ ap (λ p. places (options_settings o) p given.word_separator c.in-Ok-from_utf8.paragraph.now)
    read.points
    ∙ ap (λ w. places (options_settings o) (options_points o) w c.in-Ok-from_utf8.paragraph.now)
    read.separator
    ∙ ap (places (options_settings o) (options_points o) (separator_of o)) c.in-Ok-from_utf8.ensures.0
    in WritesText-answer says c.put.ensures.text
