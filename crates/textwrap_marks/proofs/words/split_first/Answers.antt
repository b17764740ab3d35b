use Rattle.textwrap_marks.proofs.words.split_first.Goals as goal
use Rattle.textwrap_marks.proofs.Common.{List, drop, take, sym, ◌<◌, ◌∙◌, ◌∷◌, ◌≡◌, ap, ℕ}
use Rattle.textwrap_marks.proofs.Common.{behind_spaced, spaced_words, prefix_len, is_white, length, subst}
use Rattle.textwrap_marks.proofs.SpacedLemmas.{behind-shorter, words-turn, word_len}

-- what is left behind the first word
left : (text after rest : List ℕ) → after ≡ drop (word_len text) text
    → rest ≡ drop (prefix_len is_white after) after → rest ≡ behind_spaced text
left text after rest word white = white ∙ ap (λ t. drop (prefix_len is_white t) t) word

pub returns-clause-behind : goal.returns-clause-behind
returns-clause-behind c =
    left c.args.text.now _ _ c.split_word.ensures.rest c.split_white.ensures.rest

pub returns-clause-words : goal.returns-clause-words
returns-clause-words c =
    let text = c.args.text.now in
    let rest = left text _ _ c.split_word.ensures.rest c.split_white.ensures.rest in
    let white = c.split_white.ensures.white
    ∙ ap (λ t. take (prefix_len is_white t) t) c.split_word.ensures.rest in
    words-turn text c.requires
    ∙ (λ i. record { word = sym c.split_word.ensures.word i; white = sym white i } ∷ spaced_words (sym rest i))

pub returns-clause-shorter : goal.returns-clause-shorter
returns-clause-shorter c =
    subst (λ t. length t < length c.args.text.now)
    (sym (left c.args.text.now _ _ c.split_word.ensures.rest c.split_white.ensures.rest))
    (behind-shorter c.args.text.now c.requires)
