use Rattle.textwrap_words.proofs.pieces.first_word.Goals as goal
use Rattle.textwrap_text.proofs.Common.{cases_lt, is_blank, get_or, length, ne_eqb, arith, refl, ap}
use Rattle.textwrap_text.proofs.Common.{true, inl, inr, ◌+◌, ◌≡◌}
use Rattle.textwrap_words.proofs.Common.{IsCharBoundary-end, as_splitter, is_stop}
use Rattle.textwrap_words.proofs.Word.Scanned.{scanned-letters, stops-between, stop-here}
use Rattle.textwrap_words.proofs.Word.FirstPieces.{first-word, no-word}

pub returns-then-bytes-start-eq32 : goal.returns-then-bytes-start-eq32
returns-then-bytes-start-eq32 c =
    let splitter = as_splitter c.args.splitter in
    let text = c.args.text.now in
    let at = c.args.at in
    let n = c.letters_len-width.result in
    let bytes = c.as_bytes-bytes.ensures.value in
    let letters = rw bytes at c.letters_len-width.ensures.letters in
    let inside = rw bytes at c.if-start-bytes.true in
    let blank : is_blank (get_or text (at + n) 0) ≡ true =
    ap is_blank (rw bytes at c.if-bytes-start-eq32.true) in
    elim (cases_lt 0 n) [
      | inr none ↦
          let same : n ≡ 0 = omega (arith, none) in
          let here : at + 0 ≡ at = omega arith in
          rw (same, here) (no-word splitter c.args.limit text c.utf8.text at c.requires.boundary
          c.requires.inside (rw (same, here) at blank))
      | inl some ↦
          let past = scanned-letters true splitter c.args.limit text c.utf8.text at c.requires.boundary
          (stops-between true splitter text c.utf8.text) n c.letters_len-width.ensures.most
          (omega (arith, inside)) letters in
          let stops : is_stop true splitter text (at + n) ≡ true = rw blank refl in
          let here : at + 0 ≡ at = omega arith in
          first-word splitter c.args.limit text c.utf8.text at c.requires.boundary c.requires.inside
          (at + n) n
          (stop-here true splitter text c.utf8.text (length text) c.requires.boundary
          (IsCharBoundary-end text) past.scanned (omega (arith, inside)) (λ _. stops)
          (λ _. omega (arith, some)))
          (ne_eqb (get_or text at 0) 32 (rw here at (letters 0 some).not_blank))
    ]

pub returns : goal.returns
returns c =
    let text = c.args.text.now in
    let at = c.args.at in
    let bytes = c.as_bytes-bytes.ensures.value in
    let here : at + 0 ≡ at = omega arith in
    first-word (as_splitter c.args.splitter) c.args.limit text c.utf8.text at c.requires.boundary
    c.requires.inside c.read_on.result.0 c.read_on.result.1 c.read_on.ensures
    (ne_eqb (get_or text at 0) 32 (elim (cases_lt 0 c.letters_len-width.result) [
      | inl some ↦ rw (bytes, here) at (c.letters_len-width.ensures.letters 0 some).not_blank
      | inr none ↦
          let same : c.letters_len-width.result ≡ 0 = omega (arith, none) in
          elim c.else-start-bytes.branch [
            | goal.else-start-bytes-via-then-start-bytes+else-bytes-start-eq32 w ↦
                rw (bytes, same, here) at w.if-bytes-start-eq32.false
            | goal.else-start-bytes-via-else-start-bytes w ↦ absurd (omega (
              arith,
              w.if-start-bytes.false,
              ap length bytes,
              c.requires.inside,
              same,
            ))
          ]
    ]))
