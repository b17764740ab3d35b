use Rattle.std.proofs.Common.{◌∙◌, ap}
use Rattle.textwrap_hyphens.specs.Points.{hyphenation_points}
use Rattle.textwrap_calls.specs.Dictionary.{hyphenation_of}
use Rattle.textwrap_more_calls.proofs.hyphens.points.textwrap_hyphen_points.Goals as goal

pub returns-in-Ok-points-clause-points : goal.returns-in-Ok-points-clause-points
returns-in-Ok-points-clause-points c =
    let says = c.deref.ensures.value ∙ c.in-Ok-points.ensures.points
    ∙ ap (λ h. hyphenation_points h c.in-Ok.word.now) c.in-Some.ensures.1
    ∙ ap (hyphenation_points (hyphenation_of c.args.dictionary.now)) c.in-Ok.ensures.0 in
    let put = c.put.ensures.text in
    record {
      written = λ status. let (answer, is, len, room, small) = put.written status in (
        answer,
        is ∙ says,
        len,
        room,
        small,
      );
      kept = put.kept;
      kept_len = put.kept_len;
    }
