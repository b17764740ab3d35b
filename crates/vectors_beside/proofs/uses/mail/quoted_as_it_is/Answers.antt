use Rattle.std.{proofs.lemmas.Str.IsUtf8-from_is_utf8, specs.Str.chars, specs.Str.is_utf8}
use Rattle.std.proofs.Common.{codes, refl, rules, true, ◌≡◌}
use Rattle.textwrap.specs.Indentation.{HasNoLineFeed}
use lib.Utf8.{encode}
use Rattle.vectors_beside.proofs.uses.mail.quoted_as_it_is.Goals as goal

is_text : is_utf8 (codes "> ") ≡ true
unfolding is_utf8 chars encode
is_text = refl

no_line_feed : HasNoLineFeed (codes "> ")
no_line_feed = search rules

pub returns-clause-comes_back : goal.returns-clause-comes_back
returns-clause-comes_back c =
    rw c.in_ok-quoted.ensures.indented
    (c.indents_are_parts.ensures.come_back (codes "> ") c.args.mail.now
    (IsUtf8-from_is_utf8 (codes "> ") is_text) no_line_feed).1
