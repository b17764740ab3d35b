use Rattle.textwrap_lines.proofs.wrapping.push_pieces.Goals as goal
use Rattle.textwrap_lines.proofs.Common.{rules, subst, sym, ◌≡◌}
use Rattle.textwrap_layout.specs.Direct.{words_cut}
use Rattle.std.specs.Option.{option_map}

pub returns-in_default-algorithm-clause-taken : goal.returns-in_default-algorithm-clause-taken
returns-in_default-algorithm-clause-taken g c =
    let (words, division, separated, greedy, took) = c.in_ok-push_by_first_fit.ensures.pushed in (
      division,
      (rw c.in-Some.is at c.requires.built_in) c.args.frame.now.is_later c.args.paragraph.now words
          division separated (rw c.in_default-algorithm.is greedy),
      took,
    )

pub returns-clause-taken : goal.returns-clause-taken
returns-clause-taken g c =
    let (division, optimal, took) = c.in_ok-push_by_least_cost.ensures.pushed in
    let words : option_map (λ places. places.now) c.as_deref.result
    ≡ option_map (λ cuts. cuts.items) c.in_ok-found.found = search (rules, c.as_deref.ensures) in (
      division,
      (rw c.in-Some.is at c.requires.built_in) c.args.frame.now.is_later c.args.paragraph.now _
          division (subst (λ cuts. (g.P.Parts.may c.args.parts.now).Words c.args.paragraph.now
          (words_cut cuts c.args.paragraph.now)) (sym words) c.in_ok-found.ensures.words) (rw c.in-OptimalFit.is optimal),
      took,
    )
