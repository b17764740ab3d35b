use Rattle.textwrap_layout.proofs.pieces.split_list.Goals as goal
use Rattle.textwrap_text.proofs.Common.{All, List, ap, get_or, get_or-map, length, length-map, map, map_push, subst}
use Rattle.textwrap_text.proofs.Common.{take, text_width}
use Rattle.textwrap_text.proofs.Common.{take_all, take_more, arith, ℕ, ◌++◌, ◌+◌, ◌<◌, ◌∙◌, ◌≡◌}
use Rattle.textwrap_words.proofs.Common.{AreSplit, WordText, split_pieces, word_view}
use Rattle.textwrap_words.proofs.Word.Pieces.{AreSplit-push}
use Rattle.textwrap_words.specs.declared.words.Word.{Word}

-- the first words are split, with the one at this place
split-more : (Points : List ℕ → List ℕ → Type 0) (words : List Word) (i : ℕ) (d : Word)
    (pieces more : List WordText) (points : List ℕ) → i < length words
    → AreSplit Points (map word_view (take i words)) pieces
    → Points (get_or words i d).word.now points
    → more ≡ pieces ++ split_pieces points (word_view (get_or words i d))
    → AreSplit Points (map word_view (take (i + 1) words)) more
split-more Points words i d pieces more points inside split are pushed =
    let next = ap (map word_view) (take_more words i d inside)
    ∙ map_push word_view (take i words) (get_or words i d) in
    rw (next, pushed) (AreSplit-push Points (map word_view (take i words)) pieces
    (word_view (get_or words i d)) points split are)

-- so has the one at this place
measured-at : (words : List Word) (i : ℕ) (d : Word) → i < length words
    → All (λ w. w.width ≡ text_width w.word) (map word_view words)
    → (get_or words i d).width ≡ text_width (get_or words i d).word.now
measured-at words i d inside all =
    subst (λ (w : WordText). w.width ≡ text_width w.word)
    (get_or-map word_view words i d (word_view d) inside)
    (all i (word_view d) (omega (arith, inside, length-map words word_view)))

pub push_pieces-requires : goal.push_pieces-requires
push_pieces-requires g c =
    measured-at c.args.words.now c.loop-word.word-index _ c.loop-word-test.true c.requires

pub loop-word-init : goal.loop-word-init
loop-word-init g c = ap (map word_view) c.new-pieces.ensures.items

pub loop-word-preserved : goal.loop-word-preserved
loop-word-preserved g c =
    let (found, are, pushed) = c.in_ok-push_pieces.ensures in
    split-more (g.P.Parts.may c.args.parts.now).Points c.args.words.now c.loop-word.word-index _ _
    _ found c.loop-word-test.true c.loop-word.invariant are pushed

pub returns : goal.returns
returns g c =
    subst (λ ws. AreSplit (g.P.Parts.may c.args.parts.now).Points (map word_view ws)
    (map word_view c.loop-word.pieces.items))
    (take_all c.loop-word.word-index c.args.words.now (omega (arith, c.loop-word-test.false)))
    c.loop-word.invariant
