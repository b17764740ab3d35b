use Rattle.std.proofs.Common.{refl}
use Rattle.textwrap_text.proofs.ClassNames.{Bool, add-one, cases_lt, false, is_space, subst, true, ℕ}
use Rattle.textwrap_text.proofs.ClassNames.{ap, inl, inr, sym, ◌++◌, ◌+◌, ◌-◌, ◌<◌, ◌||◌, ◌∙◌, ◌≡◌}
use Rattle.textwrap_text.proofs.ClassNames.{append-nil, append_assoc, arith, cases_Bool, slice_index}
use Rattle.textwrap_text.specs.ClassSets.{is_letter}
use Rattle.textwrap_text.proofs.Common.{cases_eq}
use Rattle.textwrap_unicode.proofs.WordVerdicts.{letters-same}
use Rattle.textwrap_unicode.specs.WordStarts.{IsPlainLetter, is_behind_blank, is_behind_sign}
use Rattle.textwrap_unicode.specs.WordStarts.{IsWordByte, word_starts}
use Rattle.textwrap_unicode.proofs.cuts.push_words.Goals as goal

pub loop-len-init : goal.loop-len-init
loop-len-init c = grind (arith, append-nil)

none-behind : (blank sign : Bool) (k : ℕ) → ((blank || sign) ≡ true → k ≡ 0) → 0 < k
    → (blank ≡ false) × (sign ≡ false)
none-behind blank sign k none some = grind (arith, cases_Bool)

of-letter : (c : ℕ) → IsPlainLetter c → IsWordByte c
of-letter c letter = record { ascii = letter.ascii; class = inl letter.class }

pub loop-len-preserved : goal.loop-len-preserved
loop-len-preserved c =
    let h = c.loop-len.invariant in
    let rest = c.args.rest.now in
    let at = c.args.at in
    let len = c.loop-len.len in
    let old = c.args.cuts.now.items in
    let found = c.is_word_byte.ensures c.if-is_word_byte.true in
    let class = c.ascii_class-class.ensures in
    let blank : c.is_space-is_behind_blank.result ≡ is_behind_blank rest (len + 1) =
    rw (add-one len) (c.is_space-is_behind_blank.ensures ∙ ap is_space class) in
    let sign : c.is_sign_behind-is_behind_sign.result ≡ is_behind_sign rest (len + 1) =
    rw (add-one len, ← h.sign, ← class) c.is_sign_behind-is_behind_sign.ensures in
    let letter = c.is_letter.ensures ∙ ap is_letter class in
    let cuts : c.push_cut.new.cuts.items ≡ old ++ word_starts at rest (len + 1) =
    rw (add-one len, ← h.blank, ← letter)
    (c.in_ok-push_cut.ensures ∙ rw (h.cuts, append_assoc old (word_starts at rest len)) refl) in
    let more = c.letters_len-len.ensures in
    let k = c.letters_len-len.result in
    let same = letters-same at rest (len + 1) k
    (λ some. let (no_blank, no_sign) = none-behind _ _ k more.none some in
    (sym blank ∙ no_blank, sym sign ∙ no_sign)) more.letters in
    record {
      within = more.within;
      words = λ j below. elim (cases_lt j len) [
        | inl before ↦ h.words j before
        | inr from ↦ elim (cases_eq j len) [
          | inl here ↦ subst (λ i. IsWordByte (slice_index rest i)) (sym here) found
          | inr other ↦
              let place : len + 1 + (j - (len + 1)) ≡ j = omega (arith, from, other) in
              subst (λ i. IsWordByte (slice_index rest i)) place
              (of-letter _ (more.letters (j - (len + 1)) (omega (arith, below, from, other))))
        ]
      ];
      blank = blank ∙ sym same.blank;
      sign = sign ∙ sym same.sign;
      cuts = cuts ∙ ap (λ l. old ++ l) (sym same.starts);
    }
