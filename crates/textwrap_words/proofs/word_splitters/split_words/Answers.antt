use Rattle.textwrap_text.proofs.Common.{arith, map_push, rules}
use Rattle.textwrap_words.proofs.Word.Pieces.{AreSplit-push}
use Rattle.textwrap_words.proofs.word_splitters.split_words.Goals as goal

pub loop-word-preserved : goal.loop-word-preserved
loop-word-preserved g c = search (rules, arith, map_push, AreSplit-push)
