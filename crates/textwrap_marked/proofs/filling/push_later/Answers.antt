use Rattle.textwrap_marked.proofs.filling.push_later.Goals as goal
use Rattle.textwrap_marked.proofs.Common.{append_assoc, length-drop, length-map, line_texts, piece_view}
use Rattle.textwrap_marked.proofs.Common.{drop_more, line_text, nat_tests, WordText, flat_map, get_or, ap}
use Rattle.textwrap_marked.proofs.Common.{length, nat_lt, arith, Bool, List, drop, ◌&&◌, ◌++◌, map, sym}
use Rattle.textwrap_marked.proofs.Common.{◌+◌, ◌-◌, ◌<◌, ◌∙◌, ◌∷◌, ◌≡◌, ℕ}
use Rattle.textwrap_marked.proofs.PrintedLines.{texts_more}

fewer : (n m : ℕ) → nat_lt 0 (n - m) ≡ nat_lt m n
fewer n m = grind (arith, nat_tests)

-- one line more is written, and the text is still the same with those that are left
module _ {X Y : Type 0} (h : X → Y) (g : Y → List WordText) (justify : Bool) (room : ℕ)
    (ending hanging : List ℕ) (lines : List X) (i : ℕ) (d : X) (within : i < length lines) where
  abbrev left : ℕ → List (List ℕ)
  left n = line_texts justify room room (map g (map h (drop n lines)))

  abbrev text : List ℕ
  text = line_text (justify && nat_lt (i + 1) (length lines)) room (g (h (get_or lines i d)))

  left-is : left i ≡ text ∷ left (i + 1)
  left-is =
      let rest = drop (i + 1) lines in
      ap (λ l. line_texts justify room room (map g (map h l))) (drop_more lines i d within)
      ∙ texts_more justify room room (g (h (get_or lines i d))) (map g (map h rest))
      ∙ ap (λ b. line_text (justify && b) room (g (h (get_or lines i d))) ∷ left (i + 1))
      (ap (nat_lt 0) (length-map (map h rest) g ∙ length-map rest h ∙ length-drop (i + 1) lines)
      ∙ fewer (length lines) (i + 1))

  abbrev behind : List (List ℕ) → List ℕ
  behind texts = flat_map (λ t. (ending ++ hanging) ++ t) texts

  pub later-turn : (before ended hung after whole : List ℕ) → ended ≡ before ++ ending
      → hung ≡ ended ++ hanging → after ≡ hung ++ text → before ++ behind (left i) ≡ whole
      → after ++ behind (left (i + 1)) ≡ whole
  later-turn before ended hung after whole end hang more is =
      ap (λ l. l ++ behind (left (i + 1)))
      (more ∙ ap (λ l. l ++ text) (hang ∙ ap (λ l. l ++ hanging) end)) ∙ grown
      ∙ ap (λ l. before ++ behind l) (sym left-is) ∙ is
    where
      grown : (((before ++ ending) ++ hanging) ++ text) ++ behind (left (i + 1))
          ≡ before ++ (((ending ++ hanging) ++ text) ++ behind (left (i + 1)))
      grown = simp append_assoc

pub loop-i-preserved : goal.loop-i-preserved
loop-i-preserved c =
    later-turn (λ line. line.now) (map piece_view) c.args.justify c.args.room c.args.ending.now
    c.args.hanging.now c.args.lines.now c.loop-i.i _ c.loop-i-test.true _ _ _ _ _
    c.in_ok-push_str.ensures.bytes c.in_ok-push_str-2.ensures.bytes c.in_ok-push_text.ensures
    c.loop-i.invariant
