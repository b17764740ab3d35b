use Rattle.textwrap_text.proofs.{Common.sym, Common.◌∙◌, Common.◌∷◌, Units.Characters.ahead-next}
use Rattle.textwrap_text.proofs.Common.{append-nil, arith, false, length-append, refl, rules, true}
use Rattle.textwrap_text.specs.CharactersLeft.{characters_left}
use Rattle.textwrap_words.proofs.Word.Offsets.{IsFinding, IsFinding-start, IsFinding-step}
use Rattle.textwrap_words.proofs.word_separators.offsets.find_cuts.Goals.{In-Some}
use Rattle.textwrap_words.proofs.word_separators.offsets.find_cuts.Goals as goal

pub loop-character-init : goal.loop-character-init
loop-character-init g c =
    rw (c.into_iter-character-iterator.ensures.into_iter_gives, c.of-character-items.ensures, c.new-cuts.ensures.items)
    (IsFinding-start c.args.offsets.now c.args.line.now c.utf8.line)

-- the reader before the character
before : (g : _) (c : In-Some g) → IsFinding c.args.offsets.now c.args.line.now
    (c.in-Some.character ∷ characters_left c.next.new.self) c.loop-character.shown
    c.loop-character.cuts.items
before g c = grind arith

pub overflow_add-shown : goal.overflow_add-shown
overflow_add-shown g c = search (rules, arith, before, In-Some, length-append)

pub overflow_add-character : goal.overflow_add-character
overflow_add-character g c =
    let h = before g (goal.at.overflow_add-character g c).In-Some in
    omega (arith, (ahead-next _ _ _ h.ahead).room, c.len_utf8-len.ensures.len)

pub loop-character-preserved-in-Continue-1 : goal.loop-character-preserved-in-Continue-1
loop-character-preserved-in-Continue-1 g c =
    rw (c.in_ok-push.ensures.items, c.len_utf8-len.ensures.len)
    (IsFinding-step _ _ _ _ _ _ true true
    (before g (goal.at.loop-character-preserved-in-Continue-1 g c).In-Some) c.if-character.true
    (rw (c.visible_len-total.ensures, c.len_utf8-len.ensures.len)
    at (sym c.is_cut_after.ensures ∙ c.if-is_cut_after.true)))

pub loop-character-preserved-else-is_cut_after : goal.loop-character-preserved-else-is_cut_after
loop-character-preserved-else-is_cut_after g c =
    rw c.len_utf8-len.ensures.len (IsFinding-step _ _ _ _ _ _ true false
    (before g (goal.at.loop-character-preserved-else-is_cut_after g c).In-Some) c.if-character.true
    (rw (c.visible_len-total.ensures, c.len_utf8-len.ensures.len)
    at (sym c.is_cut_after.ensures ∙ c.if-is_cut_after.false)))

pub loop-character-preserved : goal.loop-character-preserved
loop-character-preserved g c = IsFinding-step _ _ _ _ _ _ false _
    (before g (goal.at.loop-character-preserved g c).In-Some) c.if-character.false refl

pub returns : goal.returns
returns g c = search (rules, arith, append-nil)
