-- Lines that are found word by word: a word that has room as a whole stands for all its pieces.
use Rattle.textwrap_lines.proofs.Common.{All, All-cons, All-drop, All-head, All-nil, All-tail, All-take}
use Rattle.textwrap_lines.proofs.Common.{Bool, HasNoPenalty, IsPrintable, IsPrintableByte, List, Settings}
use Rattle.textwrap_lines.proofs.Common.{WordText, ap, append-nil, append_assoc, arith, cond, cond_both}
use Rattle.textwrap_lines.proofs.Common.{broken_word, closed_width, drop, false, indent_of}
use Rattle.textwrap_lines.proofs.Common.{later_width, length, length-drop, length-slice}
use Rattle.textwrap_lines.proofs.Common.{Line, line_from, open_width, parts_of, piece}
use Rattle.textwrap_lines.proofs.Common.{printable-width, refl, sizes_of, slice_range, subst, sym}
use Rattle.textwrap_lines.proofs.Common.{tile_of, tiled, tiled-append, true, ℕ, [], ◌++◌, ◌+◌, ◌-◌, ◌<◌}
use Rattle.textwrap_lines.proofs.Common.{ends_in_hyphen, nat_lt, ◌==◌, ◌∙◌, ◌∷◌, ◌≡◌, ◌≤◌}
use Rattle.textwrap_lines.proofs.Common.{length-map}
use Rattle.textwrap_text.proofs.Common.{add-one, drop_more, drop_split, get_or, get_or-map, eqb-true, take, le-ltb, flat_map-append, length_push}
use Rattle.textwrap_base.proofs.Division.Greedy.{closed_width-push, open_width-append, open_width-cons}
use Rattle.textwrap_base.proofs.Division.Grown.{grown, grown-full, grown-room}
use Rattle.textwrap_words.proofs.Common.{AreSplit, cut_penalty, split_from, split_pieces}
use Rattle.textwrap_words.proofs.Word.Cuts.{inner-cuts}
use Rattle.textwrap_words.proofs.Word.Pieces.{split_from-measured, tiled-split_pieces}
use Rattle.textwrap_words.proofs.Word.Words.{tiled-push}
use Rattle.textwrap_words.specs.Cuts.{AreInnerCuts, AreLaterCuts}
use Rattle.textwrap_layout.proofs.Paragraph.Covered.{covered-push}
use Rattle.textwrap_layout.proofs.Paragraph.LeftOff.{parts_of-push}
use Rattle.textwrap_lines.proofs.Common.{CutLine, cut_line, cut_lines, cut_lines-next}
use Rattle.textwrap_layout.specs.Direct.{HasInnerPoints}
use Rattle.textwrap_layout.specs.Layout.{front_of}
use Rattle.textwrap_layout.specs.Paragraph.{assembled_line, broken_pieces_of, broken_split, empty_word}
use Rattle.textwrap_layout.specs.Paragraph.{fitting_pieces, front_pieces, keeps_whitespace, room_of}
use Rattle.textwrap_layout.specs.Places.{division_cuts}
use Rattle.textwrap_lines.proofs.Common.{HasTaken, HasTaken-end, HasTaken-next, HasTaken-start, Pushed}
use Rattle.textwrap_lines.proofs.Common.{AreCuts, break_limit, IsCharBoundary-start, IsMeasured, map}
use Rattle.textwrap_lines.proofs.Common.{parts_from, Word, word_view}
use Rattle.textwrap_layout.proofs.Paragraph.Room.{fitting-tile}
use Rattle.textwrap_lines.specs.WordLines.{after_line, AreOn, GoesOnBehind, lines_onward, with_word}
use Rattle.textwrap_lines.specs.declared.word_lines.WordLine.{WordLine}

-- ---- a line that ends with a piece

-- behind what the pieces before it tile
abbrev pub ended_line : Settings → Bool → List ℕ → WordText → Line
ended_line settings is_later front x =
    assembled_line (indent_of settings is_later)
    (cond (keeps_whitespace settings x) (front ++ tile_of x) (front ++ x.word)) x.penalty

pub line-push : (settings : Settings) (is_later : Bool) (ws : List WordText) (x : WordText)
    → line_from (parts_of settings is_later (ws ++ x ∷ []))
    ≡ ended_line settings is_later (tiled ws) x
line-push settings is_later ws x =
    rw (parts_of-push settings is_later ws x, tiled-push ws x, covered-push ws x) refl

pub pushed-some : (ws : List WordText) (x : WordText) → (length (ws ++ x ∷ []) == 0) ≡ false
pushed-some ws x = search (arith, length_push, add-one)

-- one more piece
pub are_on-push : (line : WordLine) (held on : List WordText) (x : WordText) → AreOn line held on
    → AreOn (with_word line x) (held ++ x ∷ []) (on ++ x ∷ [])
are_on-push line held on x are = record {
  columns = omega (
    arith,
    are.columns,
    open_width-append sizes_of on (x ∷ []),
    open_width-cons sizes_of x [],
  );
  tiles = tiled-push held x ∙ ap (λ t. t ++ tile_of x) are.tiles ∙ sym (tiled-push on x);
  some = pushed-some held x ∙ sym (pushed-some on x);
  same = λ settings is_later. line-push settings is_later held x
      ∙ ap (λ t. ended_line settings is_later t x) are.tiles
      ∙ sym (line-push settings is_later on x);
}

-- a line without words has no columns
pub columns-none : (line : WordLine) (held : List Word)
    → ((on : List WordText) × AreOn line (map word_view held) on) → length held ≡ 0
    → line.columns ≡ 0
columns-none line [] ([], are) none = are.columns
columns-none line [] (w ∷ on, are) none = absurd (omega (arith, eqb-true (length (w ∷ on)) 0 (sym are.some)))
columns-none line (w ∷ held) on none = absurd (omega (arith, none))

-- ---- the pieces of a word

module _ (w : WordText) where
  -- the last has what follows the word
  record EndsIn (start : ℕ) (pieces : List WordText) : Type 0 where
    pub front : List WordText
    pub text : List ℕ
    pub is : pieces ≡ front ++ piece text w.whitespace w.penalty ∷ []
    pub tiles : tiled front ++ text ≡ drop start w.word

  ends_in : (start : ℕ) (points : List ℕ) → AreLaterCuts start w.word points
      → EndsIn start (split_from w start points)
  ends_in start [] are = record { front = []; text = drop start w.word; is = refl; tiles = refl }
  ends_in start (point ∷ points) ((after, inside, at), rest) =
      let later = ends_in point points rest in
      let slice = slice_range w.word start point in
      record {
        front = piece slice [] (cut_penalty w.word point) ∷ later.front;
        text = later.text;
        is = ap (λ ps. piece slice [] (cut_penalty w.word point) ∷ ps) later.is;
        tiles = ap (λ t. t ++ later.text)
            (ap (λ t. t ++ tiled later.front) (append-nil slice))
            ∙ append_assoc slice (tiled later.front) later.text
            ∙ ap (λ t. slice ++ t) later.tiles
            ∙ sym (drop_split w.word start point (omega (arith, after)));
      }

  pub cut_penalty-short : (point : ℕ) → length (cut_penalty w.word point) ≤ 1
  cut_penalty-short point =
      cond_both (ends_in_hyphen (take point w.word)) [] (45 ∷ []) (λ p. length p ≤ 1)
      (λ _. omega arith) (λ _. omega arith)

  module _ (printable : IsPrintable w.word) (width : w.width ≡ length w.word)
      (plain : HasNoPenalty w) where
    rest-width : (start : ℕ) (whitespace penalty : List ℕ)
        → (piece (drop start w.word) whitespace penalty).width ≡ length w.word - start
    rest-width start whitespace penalty =
        printable-width (drop start w.word) (All-drop IsPrintableByte start w.word printable)
        ∙ length-drop start w.word

    inner-width : (start point : ℕ) (penalty : List ℕ) → start ≤ point → point ≤ length w.word
        → (piece (slice_range w.word start point) [] penalty).width ≡ point - start
    inner-width start point penalty order within =
        printable-width (slice_range w.word start point)
        (All-take IsPrintableByte (point - start) (drop start w.word)
        (All-drop IsPrintableByte start w.word printable))
        ∙ length-slice w.word start point within

    -- together they take what the word does
    open-split : (start : ℕ) (points : List ℕ) → AreLaterCuts start w.word points
        → start ≤ length w.word
        → open_width sizes_of (split_from w start points) + start
        ≡ length w.word + length w.whitespace
    open-split start [] are within =
        let own = rest-width start w.whitespace w.penalty in
        omega (arith, own, within, open_width-cons sizes_of (piece (drop start w.word) w.whitespace w.penalty) [])
    open-split start (point ∷ points) ((after, inside, at), rest) within =
        let penalty = cut_penalty w.word point in
        let x = piece (slice_range w.word start point) [] penalty in
        let own = inner-width start point penalty (omega (arith, after)) (omega (arith, inside)) in
        let later = open-split point points rest (omega (arith, inside)) in
        omega (arith, own, later, after, open_width-cons sizes_of x (split_from w point points))

    -- they stand on the line in place of the word
    pub are_on-split : (line : WordLine) (held on : List WordText) (points : List ℕ)
        → AreInnerCuts w.word points → AreOn line held on
        → AreOn (with_word line w) (held ++ w ∷ []) (on ++ split_pieces points w)
    are_on-split line held on points cuts are =
        let pieces = split_pieces points w in
        let end = ends_in 0 points cuts in
        let last = piece end.text w.whitespace w.penalty in
        let whole : on ++ pieces ≡ (on ++ end.front) ++ last ∷ [] =
        ap (λ ps. on ++ ps) end.is ∙ sym (append_assoc on end.front (last ∷ [])) in
        let front : tiled (on ++ end.front) ++ end.text ≡ tiled held ++ w.word =
        ap (λ t. t ++ end.text) (tiled-append on end.front)
        ∙ append_assoc (tiled on) (tiled end.front) end.text
        ∙ ap (λ t. tiled on ++ t) end.tiles ∙ ap (λ t. t ++ w.word) (sym are.tiles) in
        let tile : tiled (on ++ end.front) ++ tile_of last ≡ tiled held ++ tile_of w =
        sym (append_assoc (tiled (on ++ end.front)) end.text w.whitespace)
        ∙ ap (λ t. t ++ w.whitespace) front ∙ append_assoc (tiled held) w.word w.whitespace in
        record {
          columns = omega (
            arith,
            are.columns,
            width,
            open_width-append sizes_of on pieces,
            open-split 0 points cuts (omega arith),
          );
          tiles = tiled-push held w ∙ ap (λ t. t ++ tile_of w) are.tiles
              ∙ ap (λ t. tiled on ++ t)
              (sym (tiled-split_pieces points w (inner-cuts w.word points cuts)))
              ∙ sym (tiled-append on pieces);
          some = pushed-some held w ∙ sym (ap (λ ps. length ps == 0) whole
              ∙ pushed-some (on ++ end.front) last);
          same = λ settings is_later. line-push settings is_later held w
              ∙ ap₂-line settings is_later (sym tile) (sym front)
              ∙ sym (ap (λ ps. line_from (parts_of settings is_later ps)) whole
              ∙ line-push settings is_later (on ++ end.front) last);
        }
      where
        ap₂-line : (settings : Settings) (is_later : Bool) {t u f g : List ℕ} → t ≡ u → f ≡ g
            → assembled_line (indent_of settings is_later) (cond (keeps_whitespace settings w) t f)
            w.penalty
            ≡ assembled_line (indent_of settings is_later) (cond (keeps_whitespace settings w) u g)
            w.penalty
        ap₂-line settings is_later tiles words = rw (tiles, words) refl

    module _ (later line_width : ℕ) where
      -- each of them has room where the word has
      pub grown-split : (start : ℕ) (points : List ℕ) (left on : List WordText)
          → AreLaterCuts start w.word points → start ≤ length w.word
          → open_width sizes_of on + (length w.word - start) ≤ line_width
          → grown sizes_of later line_width (split_from w start points ++ left) on
          ≡ grown sizes_of later line_width left (on ++ split_from w start points)
      grown-split start [] left on are within room =
          let x = piece (drop start w.word) w.whitespace w.penalty in
          let own = rest-width start w.whitespace w.penalty in
          grown-room sizes_of later line_width x left on
          (λ some. omega (arith, own, room, ap length plain, closed_width-push sizes_of on x))
      grown-split start (point ∷ points) left on ((after, inside, at), rest) within room =
          let penalty = cut_penalty w.word point in
          let x = piece (slice_range w.word start point) [] penalty in
          let own = inner-width start point penalty (omega (arith, after)) (omega (arith, inside)) in
          let short = cut_penalty-short point in
          let pieces = split_from w point points in
          grown-room sizes_of later line_width x (pieces ++ left) on
          (λ some. omega (arith, own, room, short, inside, after, closed_width-push sizes_of on x))
          ∙ grown-split point points left (on ++ x ∷ []) rest (omega (arith, inside))
          (omega (
            arith,
            own,
            room,
            after,
            inside,
            open_width-append sizes_of on (x ∷ []),
            open_width-cons sizes_of x [],
          ))
          ∙ ap (grown sizes_of later line_width left) (append_assoc on (x ∷ []) pieces)

    abbrev IsNarrow : ℕ → WordText → Type 0
    IsNarrow limit x = x.width + length x.penalty ≤ limit

    narrow-split : (limit start : ℕ) (points : List ℕ) → length w.word ≤ limit
        → AreLaterCuts start w.word points → start ≤ length w.word
        → All (IsNarrow limit) (split_from w start points)
    narrow-split limit start [] wide are within =
        let x = piece (drop start w.word) w.whitespace w.penalty in
        All-cons (IsNarrow limit) x [] (omega (arith, rest-width start w.whitespace w.penalty, wide, ap length plain))
        (All-nil (IsNarrow limit))
    narrow-split limit start (point ∷ points) wide ((after, inside, at), rest) within =
        let penalty = cut_penalty w.word point in
        let x = piece (slice_range w.word start point) [] penalty in
        let own = inner-width start point penalty (omega (arith, after)) (omega (arith, inside)) in
        let short = cut_penalty-short point in
        All-cons (IsNarrow limit) x (split_from w point points) (omega (arith, own, short, wide, inside, after))
        (narrow-split limit point points wide rest (omega (arith, inside)))

    -- they are not broken, where the word is not
    pub broken-split : (settings : Settings) (points : List ℕ) → AreInnerCuts w.word points
        → (settings.break_words ≡ true → w.width ≤ later_width settings)
        → broken_split settings (split_pieces points w) ≡ split_pieces points w
    broken-split settings points cuts narrow =
        cond_both settings.break_words (fitting_pieces settings (split_pieces points w))
        (split_pieces points w) (λ ps. ps ≡ split_pieces points w)
        (λ breaks. fitting settings (split_pieces points w)
        (narrow-split (later_width settings) 0 points (omega (arith, width, narrow breaks)) cuts
        (omega arith)))
        (λ _. refl)
      where
        room : (settings : Settings) (x : WordText) → IsNarrow (later_width settings) x
            → nat_lt (room_of settings x) x.width ≡ false
        room settings x narrow =
            elim settings.room_for_hyphens as (λ b. nat_lt (cond b
            (later_width settings - length x.penalty) (later_width settings)) x.width ≡ false) [
              | true ↦ search (arith, le-ltb, narrow)
              | false ↦ search (arith, le-ltb, narrow)
            ]

        fitting : (settings : Settings) (ps : List WordText)
            → All (IsNarrow (later_width settings)) ps → fitting_pieces settings ps ≡ ps
        fitting settings [] all = refl
        fitting settings (x ∷ ps) all =
            let own = room settings x (All-head (IsNarrow (later_width settings)) x ps all) in
            rw own (ap (λ qs. x ∷ qs)
            (fitting settings ps (All-tail (IsNarrow (later_width settings)) x ps all)))

pub broken_split-append : (settings : Settings) (one two : List WordText)
    → broken_split settings (one ++ two) ≡ broken_split settings one ++ broken_split settings two
broken_split-append settings one two =
    elim settings.break_words as (λ b. cond b (fitting_pieces settings (one ++ two)) (one ++ two)
    ≡ cond b (fitting_pieces settings one) one ++ cond b (fitting_pieces settings two) two) [
      | true ↦ flat_map-append (λ w. broken_word (room_of settings w) w) one two
      | false ↦ refl
    ]

broken_split-none : (settings : Settings) → broken_split settings [] ≡ []
broken_split-none settings = elim settings.break_words as (λ b. cond {A = List WordText} b [] [] ≡ []) [
  | true ↦ refl
  | false ↦ refl
]

pub broken_pieces-front : (settings : Settings) (split : List WordText)
    → front_of settings ++ broken_split settings split ≡ broken_pieces_of settings split
broken_pieces-front settings split =
    elim settings.break_words as (λ b. cond b (front_pieces settings) []
    ++ cond b (fitting_pieces settings split) split
    ≡ cond b (front_pieces settings ++ fitting_pieces settings split) split) [
      | true ↦ refl
      | false ↦ refl
    ]

-- ---- what is taken goes on

module _ {S : Type 0} (Holds : S → S → ℕ → List CutLine → Type 0) (settings : Settings) where
  abbrev pub later : ℕ
  later = later_width settings

  -- behind some pieces, and then behind others
  pub goes_on-then : (line next last : WordLine) (held holding ending come more : List WordText)
      (lines after final : S) → GoesOnBehind Holds settings line held lines come next holding after
      → GoesOnBehind Holds settings next holding after more last ending final
      → GoesOnBehind Holds settings line held lines (come ++ more) last ending final
  goes_on-then line next last held holding ending come more lines after final one two = λ pieces are.
      let (on, open_are, takes) = one pieces are in
      let (end, end_are, takes_more) = two on open_are in (
        end,
        end_are,
        λ all first left has. takes_more all first left (takes all first (more ++ left)
            (subst (λ ps. HasTaken Holds all first lines (lines_onward settings line pieces ps))
            (append_assoc come more left) has)),
      )

  pub goes_on-none : (line : WordLine) (held : List WordText) (lines : S)
      → GoesOnBehind Holds settings line held lines [] line held lines
  goes_on-none line held lines = λ pieces are. (pieces, are, λ all first left has. has)

  filled : (line : WordLine) (held pieces : List WordText) → AreOn line held pieces
      → 0 < length pieces → 0 < length held
  filled line [] pieces are some =
      absurd (omega (arith, some, eqb-true (length pieces) 0 (sym are.some)))
  filled line (w ∷ held) pieces are some = omega arith

  -- a piece that has room
  pub takes-room : (line : WordLine) (held : List WordText) (lines : S) (x : WordText)
      → (0 < length held → line.columns + x.width + length x.penalty ≤ line.width)
      → GoesOnBehind Holds settings line held lines (x ∷ []) (with_word line x) (held ++ x ∷ []) lines
  takes-room line held lines x room = λ pieces are.
      let fits : 0 < length pieces → closed_width sizes_of (pieces ++ x ∷ []) ≤ line.width =
      λ some. omega (arith, room (filled line held pieces are some), are.columns, closed_width-push sizes_of pieces x) in (
        pieces ++ x ∷ [],
        are_on-push line held pieces x are,
        λ all first left has. subst (λ division. HasTaken Holds all first lines
            (cut_lines line.start (parts_from settings line.is_later division)))
            (grown-room sizes_of later line.width x left pieces fits) has,
      )

  -- one that has none, where the line is pushed
  pub takes-full : (line : WordLine) (held : List WordText) (lines : S) (x : WordText) (after : S)
      → 0 < length held → line.width < line.columns + x.width + length x.penalty
      → Pushed Holds lines after
      (cut_lines line.start (parts_of settings line.is_later held ∷ []))
      → GoesOnBehind Holds settings line held lines (x ∷ [])
      (with_word (after_line later line held) x) (x ∷ []) after
  takes-full line held lines x after some over pushed = λ pieces are.
      let next = after_line later line held in
      let many : 0 < length pieces = any held pieces are some in
      let past : line.width < closed_width sizes_of (pieces ++ x ∷ []) =
      omega (arith, over, are.columns, closed_width-push sizes_of pieces x) in
      let seam : next.start ≡ line.start + length (tiled pieces) =
      ap (λ t. line.start + length t) are.tiles in (
        x ∷ [],
        are_on-push next [] [] x (record { columns = refl; tiles = refl; some = refl; same = λ _ _. refl }),
        λ all first left has.
            let goes_on = subst (λ cuts. HasTaken Holds all first lines cuts)
            (ap (λ division. cut_lines line.start (parts_from settings line.is_later division))
            (grown-full sizes_of later line.width x left pieces many past)
            ∙ cut_lines-next settings line.is_later line.start next.start pieces
            (grown sizes_of later later left (x ∷ [])) seam) has in
            HasTaken-next all first lines after _ _ goes_on
            (subst (λ l. Pushed Holds lines after (cut_line line.start l ∷ []))
            (are.same settings line.is_later) pushed),
      )
    where
      any : (held pieces : List WordText) → AreOn line held pieces → 0 < length held → 0 < length pieces
      any held [] are some = absurd (omega (arith, some, eqb-true (length held) 0 are.some))
      any held (w ∷ pieces) are some = omega arith

  -- a word that has room as a whole
  pub takes-word : (line : WordLine) (held : List WordText) (lines : S) (w : WordText)
      (points : List ℕ) → IsPrintable w.word → w.width ≡ length w.word → HasNoPenalty w
      → AreInnerCuts w.word points → line.columns + w.width ≤ line.width
      → (settings.break_words ≡ true → w.width ≤ later)
      → GoesOnBehind Holds settings line held lines (broken_split settings (split_pieces points w))
      (with_word line w) (held ++ w ∷ []) lines
  takes-word line held lines w points printable width plain cuts room narrow =
      rw (broken-split w printable width plain settings points cuts narrow) (λ pieces are. (
        pieces ++ split_pieces points w,
        are_on-split w printable width plain line held pieces points cuts are,
        λ all first left has. subst (λ division. HasTaken Holds all first lines
            (cut_lines line.start (parts_from settings line.is_later division)))
            (grown-split w printable width plain later line.width 0 points left pieces cuts
            (omega arith) (omega (arith, room, width, are.columns))) has,
      ))

  -- ---- the words of a paragraph

  module _ (Points : List ℕ → List ℕ → Type 0) (words : List WordText) (width : ℕ)
      (is_later : Bool) where
    -- the lines of these words, if they are split so
    abbrev pub lines_of_split : List WordText → List CutLine
    lines_of_split whole =
        division_cuts settings is_later
        (grown sizes_of later width (front_of settings ++ broken_split settings whole) [])

    -- however the words that are left are split
    pub record AreTaken (first : S) (line : WordLine) (held : List WordText) (lines : S)
        (left : List WordText) : Type 0 where
      pub on : List WordText
      pub are : AreOn line held on
      pub goes_on : (split : List WordText) → AreSplit Points left split
          → (whole : List WordText) × AreSplit Points words whole
          × HasTaken Holds (lines_of_split whole) first lines
          (lines_onward settings line on (broken_split settings split))

    pub taken-start : (first : S) (line : WordLine) (held : List WordText) → line.start ≡ 0
        → line.width ≡ width → line.is_later ≡ is_later → line.columns ≡ 0
        → held ≡ front_of settings → AreTaken first line held first words
    taken-start first line held start wide is columns front = record {
      on = front_of settings;
      are = record {
        columns = columns ∙ sym (front-width settings.break_words);
        tiles = ap tiled front;
        some = ap (λ ws. length ws == 0) front;
        same = λ s l. ap (λ ws. line_from (parts_of s l ws)) front;
      };
      goes_on = λ split are. (
        split,
        are,
        rw (start, wide, is, sym (front-grown settings.break_words (broken_split settings split)))
            (HasTaken-start (lines_of_split split) first),
      );
    }
      where
        front-width : (b : Bool) → open_width sizes_of (cond b (front_pieces settings) []) ≡ 0
        front-width true = cond_both (length settings.initial_indent == 0) [] (empty_word ∷ [])
            (λ ws. open_width sizes_of ws ≡ 0) (λ _. refl) (λ _. refl)
        front-width false = refl

        front-grown : (b : Bool) (left : List WordText)
            → grown sizes_of later width (cond b (front_pieces settings) [] ++ left) []
            ≡ grown sizes_of later width left (cond b (front_pieces settings) [])
        front-grown true left = cond_both (length settings.initial_indent == 0) [] (empty_word ∷ [])
            (λ ws. grown sizes_of later width (ws ++ left) [] ≡ grown sizes_of later width left ws)
            (λ _. refl) (λ _. refl)
        front-grown false left = refl

    pub taken-left : {first : S} {line : WordLine} {held : List WordText} {lines : S}
        {left more : List WordText} → left ≡ more → AreTaken first line held lines left
        → AreTaken first line held lines more
    taken-left {first} {line} {held} {lines} is taken = subst (AreTaken first line held lines) is taken

    pub taken-next : (first : S) (line next : WordLine) (held holding : List WordText)
        (lines after : S) (w : WordText) (left : List WordText) (points : List ℕ)
        → Points w.word points → AreTaken first line held lines (w ∷ left)
        → GoesOnBehind Holds settings line held lines (broken_split settings (split_pieces points w))
        next holding after
        → AreTaken first next holding after left
    taken-next first line next held holding lines after w left points points_are so_far goes_on =
        let (on, are, takes) = goes_on so_far.on so_far.are in record {
          on = on;
          are = are;
          goes_on = λ split split_are.
              let (whole, whole_are, has) = so_far.goes_on (split_pieces points w ++ split)
              (points, split, points_are, split_are, refl) in (
                whole,
                whole_are,
                takes (lines_of_split whole) first (broken_split settings split)
                    (subst (λ ps. HasTaken Holds (lines_of_split whole) first lines
                    (lines_onward settings line so_far.on ps))
                    (broken_split-append settings (split_pieces points w) split) has),
              );
        }

    -- a word that has room as a whole
    pub taken-whole : HasInnerPoints Points → (first : S) (line : WordLine) (held : List WordText)
        (lines : S) (w : WordText) (left : List WordText) → IsPrintable w.word → IsMeasured w
        → HasNoPenalty w → line.columns + w.width ≤ line.width
        → (settings.break_words ≡ true → w.width ≤ later)
        → AreTaken first line held lines (w ∷ left)
        → AreTaken first (with_word line w) (held ++ w ∷ []) lines left
    taken-whole have_points first line held lines w left printable measured plain room narrow so_far =
        let (points, are, cuts) = have_points w.word measured.utf8 in
        taken-next first line (with_word line w) held (held ++ w ∷ []) lines lines w left points are
        so_far
        (takes-word line held lines w points printable (measured.width ∙ printable-width w.word printable)
        plain cuts room narrow)

    -- where none is left, and the line is pushed
    pub taken-end : (first : S) (line : WordLine) (held : List WordText) (lines last : S)
        → AreTaken first line held lines []
        → Pushed Holds lines last (cut_lines line.start (parts_of settings line.is_later held ∷ []))
        → (whole : List WordText) × AreSplit Points words whole
        × Pushed Holds first last (lines_of_split whole)
    taken-end first line held lines last so_far pushed =
        let (whole, whole_are, has) = so_far.goes_on [] refl in (
          whole,
          whole_are,
          HasTaken-end (lines_of_split whole) first last
              (HasTaken-next (lines_of_split whole) first lines last _ []
              (subst (λ ps. HasTaken Holds (lines_of_split whole) first lines
              (lines_onward settings line so_far.on ps)) (broken_split-none settings) has)
              (subst (λ l. Pushed Holds lines last (cut_line line.start l ∷ []))
              (so_far.are.same settings line.is_later) pushed)),
        )

-- what stands in a text from a line on, with one more of the words that are left
pub standing : (text : List ℕ) (start : ℕ) (held : List ℕ) (words : List Word) (i : ℕ) (d : Word)
    (rest : List ℕ) → i < length words
    → drop start text ≡ (held ++ tiled (map word_view (drop i words))) ++ rest
    → drop start text ≡ (held ++ tiled (word_view (get_or words i d) ∷ []))
    ++ (tiled (map word_view (drop (i + 1) words)) ++ rest)
standing text start held words i d rest inside seam =
    rw (drop_more words i d inside) at seam ∙ regroup held (tile_of (word_view (get_or words i d)))
    (tiled (map word_view (drop (i + 1) words))) rest
  where
    regroup : (held tile tiles rest : List ℕ)
        → (held ++ (tile ++ tiles)) ++ rest ≡ (held ++ (tile ++ [])) ++ (tiles ++ rest)
    regroup held tile tiles rest = search (append_assoc, append-nil)

-- the pieces of a word tile it, broken or not
pub broken-tile : (settings : Settings) (w : WordText) (points : List ℕ) → IsMeasured w
    → AreCuts w.word points → tiled (broken_split settings (split_pieces points w)) ≡ tile_of w
broken-tile settings w points measured cuts =
    let split = split_pieces points w in
    let tile = tiled-split_pieces points w cuts in
    cond_both settings.break_words (fitting_pieces settings split) split (λ ps. tiled ps ≡ tile_of w)
    (λ _. fitting-tile settings split (split_from-measured w 0 points measured
    (IsCharBoundary-start w.word measured.utf8) cuts) ∙ tile)
    (λ _. tile)

-- the columns past which words are broken are those of a later line
pub limit-later : (settings : Settings) (limit n : ℕ) → limit ≡ break_limit settings → n ≤ limit
    → settings.break_words ≡ true → n ≤ later_width settings
limit-later settings limit n is within breaks = subst (λ m. n ≤ m) (rw breaks at is) within

-- what holds of each word holds of the one at a place
pub at-word : (P : WordText → Type 0) (words : List Word) (i : ℕ) (d : Word) → i < length words
    → All P (map word_view words) → P (word_view (get_or words i d))
at-word P words i d inside all =
    subst P (get_or-map word_view words i d (word_view d) inside)
    (all i (word_view d) (omega (arith, inside, length-map words word_view)))

-- what stands in front tiles nothing
pub front-tile : (settings : Settings) → tiled (front_of settings) ≡ []
front-tile settings = cond_both settings.break_words (front_pieces settings) [] (λ ws. tiled ws ≡ [])
    (λ _. cond_both (length settings.initial_indent == 0) [] (empty_word ∷ []) (λ ws. tiled ws ≡ [])
    (λ _. refl) (λ _. refl)) (λ _. refl)
