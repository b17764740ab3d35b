use Rattle.textwrap_calls.proofs.columns.textwrap_wrap_columns.Goals as goal
use Rattle.textwrap_calls.proofs.Common.{arith, IsInColumns, IsUtf8, string_bytes, TextwrapOptions}
use Rattle.textwrap_calls.proofs.Common.{inl, inr, List, map, refl, ℕ, ◌<◌, ◌↔◌, ◌≡◌, ◌≢◌, ◌≤◌, ◌⊎◌}
use Rattle.textwrap_calls.specs.{Options.AreTexts, Status.{not_utf8, unknown_options}}
use Rattle.textwrap_calls.specs.{declared.columns.TextwrapGaps.TextwrapGaps, Options.AreKnown}
use Rattle.textwrap_calls.{proofs.PlaceLemmas.rows-written, specs.Columns.AreKnownGaps}
use Rattle.textwrap_calls.{proofs.ReadOptions.as-read, specs.Columns.AreTextGaps}

pub returns-clause-columns : goal.returns-clause-columns
returns-clause-columns c =
    let texts = c.in-Ok-Ok-Ok-Ok in
    let rows = map string_bytes c.in-Ok-wrap_columns_by.found.items in
    let are = as-read c.args.options.now c.in-Ok.options c.in-Ok.ensures.read
    (λ s Divides. IsInColumns s Divides c.args.columns texts.text.now texts.left.now
    texts.middle.now texts.right.now rows)
    (rw (
      c.layout-layout.ensures,
      c.parts-parts.ensures.words,
      c.parts-parts.ensures.splitter,
      c.parts-parts.ensures.algorithm,
    ) at c.in-Ok-wrap_columns_by.ensures.rows) in
    let here = rw (
      texts.ensures.0,
      texts.ensures'.0,
      texts.ensures''.0,
      texts.ensures'''.0,
    ) at are in
    rows-written rows here c.in-Ok-place_rows.ensures c.put_lines.ensures.statuses
    c.put_lines.ensures.lines

-- where all is known, the status does not say that something is not
not-unknown : (status columns : ℕ) (options : TextwrapOptions) (gaps : TextwrapGaps)
    → status ≢ unknown_options → 1 ≤ columns → AreKnown options → AreKnownGaps gaps
    → status ≡ unknown_options ↔ (columns < 1) ⊎ (¬ AreKnown options) ⊎ (¬ AreKnownGaps gaps)
not-unknown status columns options gaps other some known whole = (
  λ told. absurd (other told),
  λ fault. elim fault [
    | inl none ↦ absurd (omega arith)
    | inr (inl unknown) ↦ absurd (unknown known)
    | inr (inr unknown) ↦ absurd (unknown whole)
  ],
)

-- and where all are texts, it does not say that something is none
not-not_utf8 : (status columns : ℕ) (text : List ℕ) (options : TextwrapOptions) (gaps : TextwrapGaps)
    → status ≢ not_utf8 → IsUtf8 text → AreTexts options → IsUtf8 gaps.left.now
    → IsUtf8 gaps.middle.now → IsUtf8 gaps.right.now
    → status ≡ not_utf8 ↔ (1 ≤ columns) × AreKnown options × AreKnownGaps gaps
    × ¬ (IsUtf8 text × AreTexts options × AreTextGaps gaps)
not-not_utf8 status columns text options gaps other utf8 texts left middle right = (
  λ told. absurd (other told),
  λ fault. absurd (fault.3 (utf8, texts, record { left = left; middle = middle; right = right })),
)

pub returns-in_default-clause-unknown : goal.returns-in_default-clause-unknown
returns-in_default-clause-unknown c = not-unknown _ _ _ _ (omega arith)
    (omega arith) c.in-Ok.ensures.known (c.if-not-are_known_gaps.ensures.0 refl)

pub returns-in_default-wrap_columns_by-clause-unknown : goal.returns-in_default-wrap_columns_by-clause-unknown
returns-in_default-wrap_columns_by-clause-unknown c = not-unknown _ _ _ _ (omega arith)
    (omega arith) c.in-Ok.ensures.known (c.if-not-are_known_gaps.ensures.0 refl)

pub returns-in_default-place_rows-clause-unknown : goal.returns-in_default-place_rows-clause-unknown
returns-in_default-place_rows-clause-unknown c = not-unknown _ _ _ _ (omega arith)
    (omega arith) c.in-Ok.ensures.known (c.if-not-are_known_gaps.ensures.0 refl)

pub returns-clause-unknown : goal.returns-clause-unknown
returns-clause-unknown c = not-unknown _ _ _ _ (omega (arith, c.put_lines.ensures.statuses))
    (omega arith) c.in-Ok.ensures.known (c.if-not-are_known_gaps.ensures.0 refl)

pub returns-in_default-wrap_columns_by-clause-not_utf8 : goal.returns-in_default-wrap_columns_by-clause-not_utf8
returns-in_default-wrap_columns_by-clause-not_utf8 c =
    let t = c.in-Ok-Ok-Ok-Ok in
    not-not_utf8 _ _ _ _ _ (omega arith) t.ensures.1 c.in-Ok.ensures.texts
    t.ensures'.1 t.ensures''.1 t.ensures'''.1

pub returns-in_default-place_rows-clause-not_utf8 : goal.returns-in_default-place_rows-clause-not_utf8
returns-in_default-place_rows-clause-not_utf8 c =
    let t = c.in-Ok-Ok-Ok-Ok in
    not-not_utf8 _ _ _ _ _ (omega arith) t.ensures.1 c.in-Ok.ensures.texts
    t.ensures'.1 t.ensures''.1 t.ensures'''.1

pub returns-clause-not_utf8 : goal.returns-clause-not_utf8
returns-clause-not_utf8 c =
    let t = c.in-Ok-Ok-Ok-Ok in
    not-not_utf8 _ _ _ _ _ (omega (arith, c.put_lines.ensures.statuses)) t.ensures.1 c.in-Ok.ensures.texts
    t.ensures'.1 t.ensures''.1 t.ensures'''.1
