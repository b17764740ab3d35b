-- The laws of diffs: their hunks patch the old text into the new one, and turned round back.
use Rattle.std.proofs.Common.{◌≡◌, ◌∙◌, ap, ap₂, refl, sym, ℕ, ◌+◌, ◌-◌, arith, List, [], ◌∷◌, ◌++◌}
use Rattle.std.proofs.Common.{length, take, drop, map, append_assoc, drop_at, take_at}
use Rattle.std.proofs.Common.{length-append}
use Rattle.textwrap_text.proofs.TextLines.{ended_parts-flat}
use Rattle.text_files.specs.Differences.{HunkText, Patches, SignedText, new_end, news, old_end}
use Rattle.text_files.specs.{Differences.olds, Laws.DiffsLeadBack}
use Rattle.text_files.specs.Laws.{DiffsLeadOn, TextsAreTheirLines, patched, turned, turned_line}

-- ---- lists in three parts

drop-two : (front mid left : List (List ℕ)) (n : ℕ) → n ≡ length front + length mid
    → drop n (front ++ (mid ++ left)) ≡ left
drop-two front mid left n is =
    let len : length (front ++ mid) ≡ n = length-append front mid ∙ sym is in
    ap (drop n) (sym (append_assoc front mid left)) ∙ drop_at (front ++ mid) left n len

-- ---- forwards

patches-patched : (hunks : List HunkText) (old_at new_at : ℕ) (old new : List (List ℕ))
    → Patches old_at new_at old new hunks → patched hunks old_at old ≡ new
patches-patched [] old_at new_at old new same = sym same
patches-patched (hunk ∷ hunks) old_at new_at old new
    (kept, old_left, new_left, is_old, is_new, old_start, new_start, rest) =
    let len : length kept ≡ hunk.old_start - old_at = omega arith in
    let front : take (hunk.old_start - old_at) old ≡ kept =
    ap (take (hunk.old_start - old_at)) is_old
    ∙ take_at kept (olds hunk.lines ++ old_left) (hunk.old_start - old_at) len in
    let behind : drop (old_end hunk - old_at) old ≡ old_left =
    ap (drop (old_end hunk - old_at)) is_old
    ∙ drop-two kept (olds hunk.lines) old_left (old_end hunk - old_at) (omega arith) in
    ap₂ (λ ks ls. ks ++ (news hunk.lines ++ patched hunks (old_end hunk) ls)) front behind
    ∙ ap (λ ls. kept ++ (news hunk.lines ++ ls))
    (patches-patched hunks (old_end hunk) (new_end hunk) old_left new_left rest)
    ∙ sym is_new

-- ---- turned round

olds-turned : (lines : List SignedText) → olds (map turned_line lines) ≡ news lines
olds-turned [] = refl
olds-turned (line ∷ lines) = grind (arith, olds-turned lines)

news-turned : (lines : List SignedText) → news (map turned_line lines) ≡ olds lines
news-turned [] = refl
news-turned (line ∷ lines) = grind (arith, news-turned lines)

patches-turned : (hunks : List HunkText) (old_at new_at : ℕ) (old new : List (List ℕ))
    → Patches old_at new_at old new hunks → Patches new_at old_at new old (map turned hunks)
patches-turned [] old_at new_at old new same = sym same
patches-turned (hunk ∷ hunks) old_at new_at old new
    (kept, old_left, new_left, is_old, is_new, old_start, new_start, rest) =
    let olds_are = olds-turned hunk.lines in
    let news_are = news-turned hunk.lines in (
      kept,
      new_left,
      old_left,
      is_new ∙ ap (λ ls. kept ++ (ls ++ new_left)) (sym olds_are),
      is_old ∙ ap (λ ls. kept ++ (ls ++ old_left)) (sym news_are),
      new_start,
      old_start,
      rw (olds_are, news_are)
          (patches-turned hunks (old_end hunk) (new_end hunk) old_left new_left rest),
    )

-- ---- the laws

pub lead-on : DiffsLeadOn
lead-on old new hunks is = patches-patched hunks 0 0 old new is.patches

pub lead-back : DiffsLeadBack
lead-back old new hunks is = grind (arith, patches-patched, patches-turned)

pub are-lines : TextsAreTheirLines
are-lines text = ended_parts-flat text
