-- A full line: no word that takes columns goes on it, whatever its points are.
use Rattle.textwrap_lines.proofs.Common.{All-nil, ltb-true, AreCuts, HasNoPenalty, IsPrintable, IsPrintableByte}
use Rattle.textwrap_lines.proofs.Common.{List, Settings, WordText, ap, append-nil, arith, broken_word, closed_width}
use Rattle.textwrap_lines.proofs.Common.{cond_both, cut_line, cut_lines, CutLine, cut_lines-next, false, HasTaken, HasTaken-next}
use Rattle.textwrap_lines.proofs.Common.{later_width, length, length-slice, line_from, parts_from, parts_of}
use Rattle.textwrap_lines.proofs.Common.{piece, printable-width, Pushed, refl, sizes_of, slice_range, subst, tiled, true, ℕ, Bool}
use Rattle.textwrap_lines.proofs.Common.{cond, [], ◌++◌, ◌+◌, ◌-◌, ◌<◌, ◌==◌, ◌∙◌, ◌∷◌, ◌≡◌, ◌≤◌, sym, zero, suc}
use Rattle.textwrap_base.proofs.Division.Greedy.{closed_width-push}
use Rattle.textwrap_base.proofs.Division.Grown.{grown, grown-full, grown-room}
use Rattle.std.proofs.Common.{ltb}
use Rattle.textwrap_text.proofs.Common.{eqb-true}
use Rattle.textwrap_words.proofs.Common.{cut_penalty, split_from, split_pieces}
use Rattle.textwrap_layout.specs.Paragraph.{broken_split, fitting_pieces, room_of}
use Rattle.textwrap_lines.proofs.PrintableTexts.Bytes.{begins_wide-step}
use Rattle.textwrap_lines.proofs.PrintableTexts.Pieces.{printable-slice}
use Rattle.textwrap_lines.proofs.WordLines.{AreTaken, broken_split-append, cut_penalty-short, lines_of_split}
use Rattle.textwrap_lines.specs.WordLines.{after_line, lines_onward}
use Rattle.textwrap_lines.specs.declared.word_lines.WordLine.{WordLine}

-- the first of these pieces takes a column
pub record BeginsSome (pieces : List WordText) : Type 0 where
  pub first : WordText
  pub others : List WordText
  pub are : pieces ≡ first ∷ others
  pub some : 0 < first.width + length first.penalty

begins-append : (pieces more : List WordText) → BeginsSome pieces → BeginsSome (pieces ++ more)
begins-append pieces more begins = record {
  first = begins.first;
  others = begins.others ++ more;
  are = ap (λ ps. ps ++ more) begins.are;
  some = begins.some;
}

-- also where it is broken, in room of a column at least
broken-begins : (room : ℕ) (x : WordText) → 0 < room → IsPrintable x.word
    → x.width ≡ length x.word → 0 < x.width + length x.penalty → BeginsSome (broken_word room x)
broken-begins room x some printable width takes = by (length x.word) refl
  where
    by : (n : ℕ) → length x.word ≡ n → BeginsSome (broken_word room x)
    by zero is = record { first = x; others = []; are = whole; some = takes }
      where
        whole : broken_word room x ≡ x ∷ []
        whole = cond_both (ltb room x.width) _ _ (λ ps. ps ≡ x ∷ [])
            (λ over. absurd (omega (arith, ltb-true room x.width over, width, is))) (λ _. refl)
    by (suc n) is =
        let wide = begins_wide-step room 1 x [] some some printable width (omega (arith, is)) in
        record {
          first = wide.first;
          others = wide.others;
          are = sym (append-nil (broken_word room x)) ∙ wide.are;
          some = omega (arith, wide.wide);
        }

module _ (settings : Settings) (room : settings.break_words ≡ true → 1 < later_width settings)
    (w : WordText) (printable : IsPrintable w.word) (some : 0 < length w.word) where
  room-some : (x : WordText) → length x.penalty ≤ 1 → settings.break_words ≡ true → 0 < room_of settings x
  room-some x short breaks = elim settings.room_for_hyphens as (λ b. 0 < cond b
      (later_width settings - length x.penalty) (later_width settings)) [
        | true ↦ omega (arith, room breaks, short)
        | false ↦ omega (arith, room breaks)
      ]

  first-begins : (x : WordText) (rest : List WordText) → IsPrintable x.word → x.width ≡ length x.word
      → length x.penalty ≤ 1 → 0 < x.width + length x.penalty
      → BeginsSome (broken_split settings (x ∷ rest))
  first-begins x rest printable width short takes =
      cond_both settings.break_words (fitting_pieces settings (x ∷ rest)) (x ∷ rest) BeginsSome
      (λ breaks. begins-append (broken_word (room_of settings x) x) (fitting_pieces settings rest)
      (broken-begins (room_of settings x) x (room-some x short breaks) printable width takes))
      (λ _. record { first = x; others = rest; are = refl; some = takes })

  -- a printable word begins so, wherever it is cut
  pub word-begins : HasNoPenalty w → (points : List ℕ) → AreCuts w.word points
      → BeginsSome (broken_split settings (split_pieces points w))
  word-begins plain [] cuts = first-begins (piece w.word w.whitespace w.penalty) [] printable
      (printable-width w.word printable) (omega (arith, ap length plain))
      (omega (arith, printable-width w.word printable, some))
  word-begins plain (zero ∷ points) cuts =
      let none = All-nil IsPrintableByte in
      first-begins (piece [] [] (cut_penalty w.word 0)) (split_from w 0 points) none
      (printable-width [] none) (cut_penalty-short w 0) (omega arith)
  word-begins plain (suc n ∷ points) ((order, inside, at), rest) =
      let point = suc n in
      let front = slice_range w.word 0 point in
      let front_printable = printable-slice w.word 0 point printable in
      let width = printable-width front front_printable in
      let len = length-slice w.word 0 point (omega (arith, inside)) in
      first-begins (piece front [] (cut_penalty w.word point)) (split_from w point points)
      front_printable width (cut_penalty-short w point) (omega (arith, width, len))

-- ---- it is pushed before the word

module _ {S : Type 0} (Holds : S → S → ℕ → List CutLine → Type 0) (settings : Settings)
    (Points : List ℕ → List ℕ → Type 0) (words : List WordText) (width : ℕ) (is_later : Bool) where
  -- where each split of the word begins with a piece that takes a column
  pub taken-closed : (first : S) (line next : WordLine) (held : List WordText) (lines after : S)
      (w : WordText) (left : List WordText)
      → ((points : List ℕ) → Points w.word points
      → BeginsSome (broken_split settings (split_pieces points w)))
      → 0 < length held → line.width ≤ line.columns
      → next ≡ after_line (later_width settings) line held
      → Pushed Holds lines after (cut_lines line.start (parts_of settings line.is_later held ∷ []))
      → AreTaken Holds settings Points words width is_later first line held lines (w ∷ left)
      → AreTaken Holds settings Points words width is_later first next [] after (w ∷ left)
  taken-closed first line next held lines after w left begins some full next_is pushed so_far =
      let on = so_far.on in
      let are = so_far.are in
      let later = later_width settings in
      let many : 0 < length on = filled on are.some in
      let start = line.start + length (tiled held) in
      let seam : start ≡ line.start + length (tiled on) =
      ap (λ t. line.start + length t) are.tiles in
      subst (λ l. AreTaken Holds settings Points words width is_later first l [] after (w ∷ left))
      (sym next_is) (record {
        on = [];
        are = record { columns = refl; tiles = refl; some = refl; same = λ _ _. refl };
        goes_on = λ split split_are.
            let (whole, whole_are, has) = so_far.goes_on split split_are in
            let all = lines_of_split Holds settings Points words width is_later whole in
            let (points, others, points_are, others_are, is) = split_are in
            let own = begins-append (broken_split settings (split_pieces points w)) (broken_split settings others)
            (begins points points_are) in
            let x = own.first in
            let pieces : broken_split settings split ≡ x ∷ own.others =
            ap (broken_split settings) is ∙ broken_split-append settings (split_pieces points w) others ∙ own.are in
            let past : line.width < closed_width sizes_of (on ++ x ∷ []) =
            omega (arith, full, are.columns, own.some, closed_width-push sizes_of on x) in
            let cuts : lines_onward settings line on (broken_split settings split)
            ≡ cut_line line.start (line_from (parts_of settings line.is_later on))
            ∷ cut_lines start (parts_from settings true (grown sizes_of later later own.others (x ∷ []))) =
            ap (lines_onward settings line on) pieces
            ∙ ap (λ division. cut_lines line.start (parts_from settings line.is_later division))
            (grown-full sizes_of later line.width x own.others on many past)
            ∙ cut_lines-next settings line.is_later line.start start on
            (grown sizes_of later later own.others (x ∷ [])) seam in
            let fresh : grown sizes_of later later (broken_split settings split) []
            ≡ grown sizes_of later later own.others (x ∷ []) =
            ap (λ ps. grown sizes_of later later ps []) pieces
            ∙ grown-room sizes_of later later x own.others [] (λ none. absurd (omega (arith, none))) in (
              whole,
              whole_are,
              subst (λ division. HasTaken Holds all first after
                  (cut_lines start (parts_from settings true division))) (sym fresh)
                  (HasTaken-next all first lines after _ _
                  (subst (HasTaken Holds all first lines) cuts has)
                  (subst (λ l. Pushed Holds lines after (cut_line line.start l ∷ []))
                  (are.same settings line.is_later) pushed)),
            );
      })
    where
      filled : (pieces : List WordText) → (length held == 0) ≡ (length pieces == 0) → 0 < length pieces
      filled [] same = absurd (omega (arith, some, eqb-true (length held) 0 same))
      filled (x ∷ pieces) same = omega arith
