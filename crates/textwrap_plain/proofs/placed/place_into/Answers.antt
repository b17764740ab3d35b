use Rattle.textwrap_layout.proofs.Common.{built_text, reported_line}
use Rattle.textwrap_lines.proofs.Common.{ap, lines_of, map, places_of, rules, ◌∙◌}
use Rattle.textwrap_text.specs.LentText.{written_over}
use Rattle.textwrap_plain.proofs.placed.place_into.Goals as goal

pub returns-in-Some-clause-lines : goal.returns-in-Some-clause-lines
returns-in-Some-clause-lines c =
    let (direct, splitter, first_fit) = c.in-Some.ensures in
    let (taken, found, end, holds) = c.in_ok-fill_to.ensures.lines in
    let are = rw (c.layout-layout.ensures, splitter, first_fit) at found in
    let places = places_of 0 taken in
    let built = built_text (lines_of taken) in
    let none = c.new-placed.ensures.none in
    rw (direct.separator, direct.algorithm) (
      lines_of taken,
      places,
      record { are = are.are; places_are = ap (places_of 0) are.cuts_are },
      record {
        lines = record {
          room_is = search rules ∙ holds.placed.lines.room_is
              ∙ ap (λ before. written_over before (map reported_line places))
              (none.lines.room_is ∙ search rules);
          len_is = c.counts.ensures.lines ∙ (search rules ∙ holds.placed.lines.len_is);
        };
        text = record {
          room_is = search rules ∙ holds.placed.text.room_is
              ∙ ap (λ before. written_over before built) (none.text.room_is ∙ search rules);
          len_is = c.counts.ensures.built ∙ (search rules ∙ holds.placed.text.len_is);
        };
      },
    )

pub returns-clause-lines : goal.returns-clause-lines
returns-clause-lines c =
    let (taken, found, end, holds) = c.in_ok-fill_to-2.ensures.lines in
    let are = rw (c.layout-layout.ensures, c.parts.ensures.words, c.parts.ensures.splitter, c.parts.ensures.algorithm) at found
    in
    let writes = rw (c.as_slice.ensures.value, c.as_slice-2.ensures.value, holds.built)
    at c.write_places.ensures in (
      lines_of taken,
      _,
      record { are = are.are; places_are = holds.places ∙ ap (places_of 0) are.cuts_are },
      writes,
    )
