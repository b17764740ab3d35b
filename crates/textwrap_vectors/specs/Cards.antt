-- The cards of a deck, as fragments.
use Rattle.textwrap.specs.Sizes.{Sizes}
use Rattle.textwrap_vectors.specs.declared.cards.Card.{Card}

abbrev pub card_sizes : Card → Sizes
card_sizes card = record { width = card.width; whitespace = card.whitespace; penalty = card.penalty }
