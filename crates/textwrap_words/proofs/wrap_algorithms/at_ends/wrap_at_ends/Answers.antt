use Rattle.textwrap_words.proofs.wrap_algorithms.at_ends.wrap_at_ends.Goals as goal
use Rattle.textwrap_text.proofs.Common.{subst, refl, sym, ◌∙◌, ap}
use Rattle.textwrap_words.specs.LineEnds.{lines_between, AreEnds}

pub lines_between-requires : goal.lines_between-requires
lines_between-requires g c = subst (AreEnds c.args.words.now) (sym c.deref.ensures.value)
    (c.args.line_ends.answers c.args.line_ends.alloc c.args.words c.args.line_widths _
    c.in_ok-ends.ensures.0 c.in_ok-ends.ends refl)

pub returns : goal.returns
returns g c = record {
  divided = (
    c.in_ok-ends.ends.items,
    (
      c.args.line_ends.alloc,
      _,
      c.args.line_widths,
      c.in_ok-ends.ends,
      refl,
      refl,
      refl,
      c.in_ok-ends.ensures.0,
    ),
    c.in_ok-lines.ensures.lines ∙ ap (λ ends. lines_between ends c.args.words.now) c.deref.ensures.value,
  );
}
