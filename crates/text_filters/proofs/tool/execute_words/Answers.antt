use Rattle.std.proofs.{Common.{inl, inr, refl}, KnownBytes.Keeps-refl}
use Rattle.text_filters.proofs.tool.execute_words.Goals as goal

pub returns-in-Ok : goal.returns-in-Ok
returns-in-Ok g c =
    inl (
      c.in-Ok.ensures.kinds,
      rw c.in-Ok.ensures.matches at c.serve_matches.ensures,
    )

pub returns-in-Err : goal.returns-in-Err
returns-in-Err g c =
    inr (
      c.in-Err.error,
      c.in-Err.ensures.kinds,
      Keeps-refl (g.R.ReadWhole.remaining c.args.reader.now),
      refl,
      rw c.about-about.ensures at (rw c.kind.ensures at c.explain_parse.ensures),
    )
