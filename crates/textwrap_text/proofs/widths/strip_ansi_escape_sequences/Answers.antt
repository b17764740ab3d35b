use Rattle.textwrap_text.proofs.Common.{append-nil, arith, escape, rules, string_bytes, stripped}
use Rattle.textwrap_text.proofs.Common.{All, subst, sym, ◌≡◌, ◌≢◌}
use Rattle.textwrap_text.proofs.Units.{Characters.shown-all, Reading.stripped-plain}
use Rattle.textwrap_text.proofs.widths.strip_ansi_escape_sequences.Goals.{In-None}
use Rattle.textwrap_text.proofs.widths.strip_ansi_escape_sequences.Goals as goal

pub loop-character-init : goal.loop-character-init
loop-character-init g c = search (rules, arith, shown-all)

whole : (g : _) (c : In-None g) → string_bytes c.loop-character.plain ≡ stripped c.args.text.now
whole g c = search (rules, arith, append-nil)

pub returns-clause-stripped : goal.returns-clause-stripped
returns-clause-stripped g c = whole g c

pub returns-clause-no_escape : goal.returns-clause-no_escape
returns-clause-no_escape g c =
    subst (All (λ b. b ≢ escape)) (sym (whole g (goal.at.returns-clause-no_escape g c).In-None))
    (stripped-plain c.args.text.now)
