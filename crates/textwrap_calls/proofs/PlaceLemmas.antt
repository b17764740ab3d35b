-- Lines stand where they are reported: those that were cut from a text, all of a text, and rows.
use Rattle.std.proofs.Math.Seq.{drop-append_seam, take-append_seam, take-length}
use Rattle.std.proofs.lemmas.Simd.{map-map}
use Rattle.textwrap_base.proofs.Division.Map.{IsDividedBy-whole}
use Rattle.textwrap_calls.proofs.Common.{AreGroups, length-drop, Place, Settings, Slice, WordText}
use Rattle.textwrap_calls.proofs.Common.{Bool, Built, lines_of, map, take, tiled, ◌++◌, ◌∙◌, ◌≡◌}
use Rattle.textwrap_calls.proofs.Common.{[], built_text, drop, nat_lt, StartsWith, sym, ℕ, ◌+◌, ◌≤◌}
use Rattle.textwrap_calls.proofs.Common.{ap, done, false, flat, IsUtf8, Line, refl, ◌==◌, ◌||◌, ◌∷◌}
use Rattle.textwrap_calls.proofs.Common.{append-nil, covered_by, places_of, subst, widths_of, ◌-◌}
use Rattle.textwrap_calls.proofs.Common.{append_assoc, ArePlacedRows, length-append, map_push, true}
use Rattle.textwrap_calls.proofs.Common.{arith, join_with, LineParts, take-append-drop, too_small}
use Rattle.textwrap_calls.proofs.Common.{ending_bytes, length, List, place_of, ShowLines, sizes_of}
use Rattle.textwrap_calls.proofs.Common.{join-paragraphs_of, line_from, paragraphs_of, slice_range}
use Rattle.textwrap_calls.proofs.Common.{Divides, TextwrapOptions, options_algorithm}
use Rattle.textwrap_calls.proofs.Common.{options_settings, separator_of}
use Rattle.textwrap_calls.{proofs.ReadOptions.options-cuts, specs.Options.options_points}
use Rattle.textwrap_layout.proofs.{Paragraph.Pieces.pieces-tile, Text.Paragraphs.paragraphs_of-utf8}
use Rattle.textwrap_layout.proofs.Text.Sinks.{built_text-push, lines_of-cut_lines, places_of-push}
use Rattle.textwrap_layout.specs.Places.{built_bytes, cut_line, cut_lines, CutLine, text_cuts}
use Rattle.textwrap_lines.proofs.Text.Groups.{groups-tile}
use Rattle.textwrap_plain.{proofs.Words.texts-at, specs.Options.words_by}
use Rattle.textwrap_text.proofs.Common.{drop-drop, map-append, starts_with_length, ⊤}
use Rattle.textwrap_calls.proofs.{Common.{cond, ◌⊎◌}, RoomLemmas.WritesLines-reported}
use Rattle.textwrap_calls.specs.{Columns.{AreRows, row_cuts}, Reported.WritesReported}
use Rattle.textwrap_calls.{proofs.Common.{ArePlacedLines, TextwrapLine}, specs.Wrapping.WritesLines}

-- ---- lines that were cut from a text stand where they are reported

-- ---- what a text goes on with

-- at a place inside it or at its end, the text goes on so
pub record HasRest (text : List ℕ) (at : ℕ) (rest : List ℕ) : Type 0 where
  pub within : at ≤ length text
  pub is : drop at text ≡ rest

-- with these bytes, it shows them there, and goes on after them
pub record Passes (text bytes rest : List ℕ) (at : ℕ) : Type 0 where
  pub within : at + length bytes ≤ length text
  pub here : slice_range text at (at + length bytes) ≡ bytes
  pub after : HasRest text (at + length bytes) rest

pub passes : (text bytes rest : List ℕ) (at : ℕ) → HasRest text at (bytes ++ rest)
    → Passes text bytes rest at
passes text bytes rest at goes =
    let total = ap length goes.is in
    let one = length-drop at text in
    let two = length-append bytes rest in
    let len : at + length bytes - at ≡ length bytes = omega arith in
    let within : at + length bytes ≤ length text = omega (arith, total, one, two, goes.within) in
    record {
      within = within;
      here = ap (λ n. take n (drop at text)) len ∙ ap (take (length bytes)) goes.is
          ∙ take-append_seam bytes rest;
      after = record {
        within = within;
        is = sym (drop-drop (length bytes) at text) ∙ ap (drop (length bytes)) goes.is
            ∙ drop-append_seam bytes rest;
      };
    }

-- ---- where lines were cut from

abbrev pub IsCut : List ℕ → ℕ → ℕ → Line → Type 0
IsCut text from at (Slice bytes) = (from ≤ at) × (at + length bytes ≤ length text)
    × (slice_range text at (at + length bytes) ≡ bytes)
IsCut text from at (Built bytes) = ⊤

abbrev pub cut_end : ℕ → ℕ → Line → ℕ
cut_end from at (Slice bytes) = at + length bytes
cut_end from at (Built bytes) = from

-- each slice stands in the text where it was cut from, after those before it
abbrev pub AreCut : List ℕ → ℕ → List CutLine → Type 0
AreCut text from [] = ⊤
AreCut text from (cut ∷ cuts) =
    IsCut text from cut.at cut.line × AreCut text (cut_end from cut.at cut.line) cuts

shown-line : (text room room_rest : List ℕ) (at : ℕ) (line : Line) (lines : List Line)
    (reported : List Place) (from used : ℕ) → IsCut text from at line
    → HasRest room used (built_bytes line ++ room_rest)
    → ShowLines text room (cut_end from at line) (used + length (built_bytes line)) lines reported
    → ShowLines text room from used (line ∷ lines) (place_of at used line ∷ reported)
shown-line text room room_rest at (Slice bytes) lines reported from used is_cut goes rest =
    let (after, within, here) = is_cut in (
      record {
        not_built = refl;
        shows = record { len = refl; within = within; bytes_are = here };
        after = after;
      },
      subst (λ n. ShowLines text room (at + length bytes) n lines reported) (omega arith) rest,
    )
shown-line text room room_rest at (Built bytes) lines reported from used is_cut goes rest =
    let pass = passes room bytes room_rest used goes in (
      record {
        built = refl;
        shows = record { len = refl; within = pass.within; bytes_are = pass.here };
        offset = refl;
      },
      rest,
    )

-- where the room goes on with the text of those that are no slices, each is shown
pub shown : (text room room_rest : List ℕ) (cuts : List CutLine) (from used : ℕ)
    → AreCut text from cuts → HasRest room used (built_text (lines_of cuts) ++ room_rest)
    → ShowLines text room from used (lines_of cuts) (places_of used cuts)
shown text room room_rest [] from used are goes = refl
shown text room room_rest (cut ∷ cuts) from used (here, rest) goes =
    let own = built_bytes cut.line in
    let more = built_text (lines_of cuts) ++ room_rest in
    let goes_here = subst (HasRest room used)
    (append_assoc own (built_text (lines_of cuts)) room_rest) goes in
    shown-line text room more cut.at cut.line (lines_of cuts) (places_of (used + length own) cuts)
    from used here goes_here
    (shown text room room_rest cuts (cut_end from cut.at cut.line) (used + length own) rest
    (passes room own more used goes_here).after)

-- and so the lines are shown that were cut from a text
pub shown-places : (text : List ℕ) (cuts : List CutLine) (places : List Place) → AreCut text 0 cuts
    → places ≡ places_of 0 cuts → (rest : List ℕ)
    → ShowLines text (built_text (lines_of cuts) ++ rest) 0 0 (lines_of cuts) places
shown-places text cuts places are is rest =
    rw is (shown text (built_text (lines_of cuts) ++ rest) rest cuts 0 0 are
    (record { within = omega arith; is = refl }))

-- ---- the lines of a text stand where they are reported

-- a line in front of others: a slice where the text goes on with it, or a text of its own
line-cut : (text : List ℕ) (others : List CutLine) (is_slice : Bool)
    (slice left_off built rest : List ℕ) (from at : ℕ) → from ≤ at
    → HasRest text at ((slice ++ left_off) ++ rest)
    → ((next : ℕ) → next ≤ at + length (slice ++ left_off) → AreCut text next others)
    → AreCut text from (cut_line at (cond is_slice (Slice slice) (Built built)) ∷ others)
line-cut text others true slice left_off built rest from at after goes more =
    let pass = passes text slice (left_off ++ rest) at
    (subst (HasRest text at) (append_assoc slice left_off rest) goes) in
    let sum = length-append slice left_off in
    ((after, pass.within, pass.here), more (at + length slice) (omega (arith, sum)))
line-cut text others false slice left_off built rest from at after goes more =
    (tt, more from (omega (arith, after)))

-- the lines of a paragraph in front of others
pub paragraph-cut : (text : List ℕ) (others : List CutLine) (parts : List LineParts) (rest : List ℕ)
    (from at : ℕ) → from ≤ at → HasRest text at (covered_by parts ++ rest)
    → ((next : ℕ) → next ≤ at + length (covered_by parts) → AreCut text next others)
    → AreCut text from (cut_lines at parts ++ others)
paragraph-cut text others [] rest from at after goes more = more from (omega (arith, after))
paragraph-cut text others (p ∷ parts) rest from at after goes more =
    let piece = p.slice ++ p.left_off in
    let covered = covered_by parts in
    let here = subst (HasRest text at) (append_assoc piece covered rest) goes in
    let sum = length-append piece covered in
    line-cut text (cut_lines (at + length piece) parts ++ others)
    (length (p.indent ++ p.penalty) == 0) p.slice p.left_off (p.indent ++ p.slice ++ p.penalty)
    (covered ++ rest) from at after here
    (λ next le. paragraph-cut text others parts rest next (at + length piece) le
    (passes text piece (covered ++ rest) at here).after
    (λ last within. more last (omega (arith, within, sum))))

-- each paragraph begins with what its lines cover
abbrev pub AreBegun : Bool → List (List ℕ) → List (List LineParts) → Type 0
AreBegun = AreGroups (λ is_later paragraph parts. StartsWith paragraph (covered_by parts))

begun-rest : (text paragraph covered rest : List ℕ) (at : ℕ) → StartsWith paragraph covered
    → HasRest text at (paragraph ++ rest)
    → HasRest text at (covered ++ (drop (length covered) paragraph ++ rest))
begun-rest text paragraph covered rest at begins goes =
    let tail = drop (length covered) paragraph in
    subst (HasRest text at) (ap (λ bytes. bytes ++ rest)
    (sym (take-append-drop (length covered) paragraph) ∙ ap (λ bytes. bytes ++ tail) begins)
    ∙ append_assoc covered tail rest) goes

-- where the text goes on with such paragraphs
pub groups-cut : (text separator : List ℕ) (is_later : Bool) (paragraphs : List (List ℕ))
    (groups : List (List LineParts)) (from start : ℕ) → from ≤ start
    → HasRest text start (join_with separator paragraphs) → AreBegun is_later paragraphs groups
    → AreCut text from (text_cuts (length separator) start paragraphs groups)
groups-cut text separator is_later [] groups from start after goes begun = tt
groups-cut text separator is_later (paragraph ∷ paragraphs) [] from start after goes begun = tt
groups-cut text separator is_later (paragraph ∷ []) (parts ∷ groups) from start after goes begun =
    paragraph-cut text [] parts _ from start after
    (begun-rest text paragraph (covered_by parts) [] start begun.0
    (subst (HasRest text start) (sym (append-nil paragraph)) goes)) (λ next le. tt)
groups-cut text separator is_later (paragraph ∷ more ∷ paragraphs) (parts ∷ groups) from start after
    goes begun =
    let joined = join_with separator (more ∷ paragraphs) in
    let here = subst (HasRest text start) (append_assoc paragraph separator joined) goes in
    let past = (passes text paragraph (separator ++ joined) start here).after in
    let next_goes = (passes text separator joined (start + length paragraph) past).after in
    let short = starts_with_length paragraph (covered_by parts) begun.0 in
    paragraph-cut text _ parts _ from start after
    (begun-rest text paragraph (covered_by parts) (separator ++ joined) start begun.0 here)
    (λ next le. groups-cut text separator (is_later || nat_lt 0 (length parts)) (more ∷ paragraphs)
    groups next (start + length paragraph + length separator) (omega (arith, le, short)) next_goes
    begun.1)

-- paragraphs that the lines cover
begun-all : (is_later : Bool) (groups : List (List LineParts))
    → AreBegun is_later (map covered_by groups) groups
begun-all is_later [] = refl
begun-all is_later (parts ∷ groups) =
    (take-length (covered_by parts), begun-all (is_later || nat_lt 0 (length parts)) groups)

lines_of-text_cuts : (ending start : ℕ) (groups : List (List LineParts))
    → lines_of (text_cuts ending start (map covered_by groups) groups)
    ≡ map line_from (flat groups)
lines_of-text_cuts ending start [] = refl
lines_of-text_cuts ending start (parts ∷ groups) = simp (
  map-append,
  lines_of-cut_lines,
  lines_of-text_cuts ending (start + length (covered_by parts) + ending) groups,
)

-- the pieces of a divided paragraph are the paragraph
pub divided-tile : (o : TextwrapOptions) (settings : Settings) (is_later : Bool) (paragraph : List ℕ)
    (division : List (List WordText)) → IsUtf8 paragraph
    → Divides o settings is_later paragraph division → tiled (flat division) ≡ paragraph
divided-tile o settings is_later paragraph division utf8 (pieces, are, divided) =
    ap tiled (IsDividedBy-whole sizes_of (options_algorithm o) (widths_of settings is_later) pieces
    division divided)
    ∙ pieces-tile settings (λ line words. words ≡ words_by (separator_of o) line)
    (λ word points. points ≡ options_points o word) (texts-at (separator_of o)) (options-cuts o)
    paragraph pieces utf8 are

-- what is reported of the lines of a text shows them
pub placed-shown : (o : TextwrapOptions) (text : List ℕ) (lines : List Line) (places : List Place)
    → IsUtf8 text
    → ArePlacedLines (options_settings o) (Divides o (options_settings o)) text lines places
    → (rest : List ℕ) → ShowLines text (built_text lines ++ rest) 0 0 lines places
placed-shown o text lines places utf8 placed rest =
    let settings = options_settings o in
    let ending = ending_bytes settings.line_ending in
    let paragraphs = paragraphs_of settings.line_ending text in
    let groups = placed.are.groups in
    let tile : map covered_by groups ≡ paragraphs =
    groups-tile settings (Divides o settings) (divided-tile o settings) false paragraphs groups
    (paragraphs_of-utf8 settings.line_ending text utf8) placed.are.defined in
    let given = ap (λ ps. lines_of (text_cuts (length ending) 0 ps groups)) (sym tile)
    ∙ lines_of-text_cuts (length ending) 0 groups ∙ sym placed.are.given in
    subst (λ ls. ShowLines text (built_text ls ++ rest) 0 0 ls places) given
    (shown-places text (text_cuts (length ending) 0 paragraphs groups) places
    (groups-cut text ending false paragraphs groups 0 0 (omega arith) (record {
      within = omega arith;
      is = sym (join-paragraphs_of settings.line_ending text);
    })
    (subst (λ ps. AreBegun false ps groups) tile (begun-all false groups))) placed.places_are rest)

-- ---- the rows of a table, which are all lines of their own, stand where they are reported

lines_of-rows : (rows : List (List ℕ)) → lines_of (row_cuts rows) ≡ map Built rows
lines_of-rows rows = map-map (λ cut. cut.line) (λ row. cut_line 0 (Built row)) rows

rows-cut : (text : List ℕ) (rows : List (List ℕ)) (from : ℕ) → AreCut text from (row_cuts rows)
rows-cut text [] from = tt
rows-cut text (row ∷ rows) from = (tt, rows-cut text rows from)

-- placed rows were written
pub rows-written : {Are : List (List ℕ) → Type 0} {text : List ℕ} {places : List Place}
    {built : List ℕ} {status : ℕ} {lines_before lines_after : List TextwrapLine}
    {count_before count_after : ℕ} {room_before room_after : List ℕ} {len_before len_after : ℕ}
    (rows : List (List ℕ)) → Are rows → ArePlacedRows rows places built
    → (status ≡ done) ⊎ (status ≡ too_small)
    → WritesReported (λ n. n) places built status lines_before lines_after count_after room_before
    room_after len_after
    → WritesLines (λ lines _. AreRows Are lines) text status lines_before lines_after count_before
    count_after room_before room_after len_before len_after
rows-written {text = text} {places = places} rows are (places_are, built_is) statuses writes =
    WritesLines-reported (map Built rows) (rows, are, refl)
    (built_is ∙ ap built_text (lines_of-rows rows))
    (λ rest. rw (← lines_of-rows rows)
    (shown-places text (row_cuts rows) places (rows-cut text rows 0) places_are rest))
    statuses writes

pub ArePlacedRows-push : {all : List (List ℕ)} {places more : List Place} {built grown : List ℕ}
    (rows : List (List ℕ)) (row : List ℕ) → rows ++ row ∷ [] ≡ all → ArePlacedRows rows places built
    → more ≡ places ++ place_of 0 (length built) (Built ([] ++ row ++ [])) ∷ []
    → grown ≡ built ++ [] ++ row ++ [] → ArePlacedRows all more grown
ArePlacedRows-push {built = built} rows row all_is (places_are, built_is) more_is grown_is =
    let cut = cut_line 0 (Built row) in
    let pushed = map_push (λ bytes. cut_line 0 (Built bytes)) rows row in
    let len : length built ≡ 0 + length (built_text (lines_of (row_cuts rows))) =
    omega (arith, ap length built_is) in (
      cc (all_is, append-nil row, pushed, places_of-push 0 (length built) (row_cuts rows) cut len),
      cc (
        all_is,
        append-nil row,
        append-nil built,
        append-nil ((built ++ []) ++ row),
        pushed,
        built_text-push (row_cuts rows) cut,
      ),
    )
