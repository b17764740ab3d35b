use Rattle.textwrap_marked.proofs.filling.push_division.Goals as goal
use Rattle.std.proofs.lemmas.Result.{on_ok_weaker}
use Rattle.textwrap_marked.proofs.Common.{append_assoc, length-map, line_texts, piece_view, line_text, []}
use Rattle.textwrap_marked.proofs.Common.{length, nat_lt, Bool, List, drop, refl, take, ◌&&◌, ◌++◌, ◌==◌}
use Rattle.textwrap_marked.proofs.Common.{map, not, sym, ◌-◌, ◌<◌, ◌∙◌, ◌∷◌, ◌≡◌, ap, ℕ}
use Rattle.textwrap_marked.proofs.Common.{nat_tests, WordText, flat_map, take_all, printed, get_or, arith}
use Rattle.textwrap_marked.proofs.PrintedLines.{texts_more}

not-none : (n : ℕ) → not (n == 0) ≡ nat_lt 0 n
not-none n = grind (arith, nat_tests)

-- the first line is written, and then the others
module _ {X Y : Type 0} (h : X → Y) (g : Y → List WordText) (justify : Bool) (room later : ℕ)
    (ending prefix hanging : List ℕ) where
  pub lines-written : (lines : List X) (d : X) → 0 < length lines → (rest : List X) (empty : Bool)
      (r l : ℕ) (old front begun text behind new : List ℕ)
      → rest ≡ take (length lines - 1) (drop 1 lines) → empty ≡ (length rest == 0)
      → r ≡ room → l ≡ later → front ≡ prefix → behind ≡ hanging → begun ≡ old ++ front
      → text ≡ begun ++ line_text (justify && not empty) r (g (h (get_or lines 0 d)))
      → new ≡ text ++ flat_map (λ t. (ending ++ behind) ++ t) (line_texts justify l l
      (map g (map h rest)))
      → new ≡ old ++ printed ending prefix hanging (line_texts justify room later (map g (map h lines)))
  lines-written [] d some rest empty r l old front begun text behind new are none first second front_is
      behind_is begins writes is = absurd (omega (arith, some))
  lines-written (x ∷ xs) d some rest empty r l old front begun text behind new are none first second
      front_is behind_is begins writes is =
      let others : rest ≡ xs = are ∙ take_all (length (x ∷ xs) - 1) xs (omega arith) in
      let words = map g (map h xs) in
      let last : not empty ≡ nat_lt 0 (length words) =
      ap not none ∙ not-none (length rest)
      ∙ ap (nat_lt 0) (ap length others ∙ sym (length-map (map h xs) g ∙ length-map xs h)) in
      let line = line_text (justify && nat_lt 0 (length words)) room (g (h x)) in
      let more = flat_map (λ t. (ending ++ hanging) ++ t) (line_texts justify later later words) in
      let grouped : ((old ++ prefix) ++ line) ++ more ≡ old ++ ((prefix ++ line) ++ more) =
      simp append_assoc in
      rw (is, writes, begins, last, others, first, second, front_is, behind_is) (grouped
      ∙ ap (λ ls. old ++ printed ending prefix hanging ls)
      (sym (texts_more justify room later (g (h x)) words)))

pub returns : goal.returns
returns c =
    on_ok_weaker c.push_later.result (λ is. lines-written (λ line. line.now) (map piece_view)
    c.args.options.now.justify _ _ c.args.ending.now _ _ c.args.lines.now _ c.in-len1-up.len_at_least
    _ _ _ _ _ _ _ _ _ _ refl c.is_empty.ensures c.room_behind-room.ensures
    c.room_behind-room-2.ensures refl refl
    c.in_ok-push_str.ensures.bytes c.in_ok-push_text.ensures is) c.push_later.ensures
