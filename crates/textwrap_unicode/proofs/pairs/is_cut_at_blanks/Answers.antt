use Rattle.textwrap_text.proofs.ClassNames.{arith, subst, sym, true, ◌≡◌}
use Rattle.textwrap_unicode.specs.Pairs.{IsCutAtBlanks}
use Rattle.textwrap_unicode.proofs.PrintableCuts.{all-usual, usual-blanks, words-same}
use Rattle.textwrap_unicode.proofs.pairs.is_cut_at_blanks.Goals as goal
use Rattle.textwrap_unicode.proofs.pairs.is_cut_at_blanks.Goals.{After-is_usual_up_to}

so-cut : (c : After-is_usual_up_to) → c.is_usual_up_to.result ≡ true
    → IsCutAtBlanks c.args.text.now
so-cut c usual = grind (arith, c.as_bytes-bytes.ensures.value, usual-blanks)

pub returns-then-is_printable : goal.returns-then-is_printable
returns-then-is_printable c = record {
  exact = (
    so-cut c,
    λ h. c.is_usual_up_to.ensures.1 (λ k start below.
        all-usual c.as_bytes-bytes.result.now
        (subst IsCutAtBlanks (sym c.as_bytes-bytes.ensures.value) h) k start (omega (arith, below, c.trimmed_len.ensures.value))),
  );
  words = λ usual. words-same c.args.text.now (so-cut c usual);
}
