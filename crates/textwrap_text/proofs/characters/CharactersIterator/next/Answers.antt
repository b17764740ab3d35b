use Rattle.textwrap_text.proofs.characters.CharactersIterator.next.Goals as goal
use Rattle.textwrap_text.proofs.Common.{IsUtf8-past_char, chars_past_char, nil_from_length, length}
use Rattle.textwrap_text.proofs.Common.{length-append, chars-nil, arith, ap, ℕ}

pub returns-in_default-clause-steps : goal.returns-in_default-clause-steps
returns-in_default-clause-steps c = grind (arith, nil_from_length, chars-nil)

pub invariant_of-self-2 : goal.invariant_of-self-2
invariant_of-self-2 c =
    let s = c.in-Some.ensures.steps in
    let before = c.args.self.now in
    record {
      utf8 = IsUtf8-past_char _ _ c.in-Some.ch before.utf8 s.1;
      bound = omega (arith, before.bound, s.2, ap length s.1, length-append {A = ℕ});
    }

pub returns-clause-steps : goal.returns-clause-steps
returns-clause-steps c = grind (arith, chars_past_char)

pub returns-clause-goes : goal.returns-clause-goes
returns-clause-goes c = omega (arith, ap length (returns-clause-steps c))
