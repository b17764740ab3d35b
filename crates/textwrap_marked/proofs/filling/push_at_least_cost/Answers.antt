use Rattle.textwrap_marked.proofs.filling.push_at_least_cost.Goals as goal
use Rattle.textwrap_marked.proofs.Common.{LineText, WordText, flat_map, sizes_of, AreCuts, printed, subst}
use Rattle.textwrap_marked.proofs.Common.{ReflowOptions, parts_between, string_bytes, IsDividedBy, IsUtf8}
use Rattle.textwrap_marked.proofs.Common.{dividing_algorithm, marked_line_view, words_of_lines, Algorithm}
use Rattle.textwrap_marked.proofs.Common.{joined_view, filled_end, line_texts, with_blank, AreFilled, map}
use Rattle.textwrap_marked.proofs.Common.{word_of, pieces, Bool, List, drop, ◌++◌, sym, ◌∙◌, ◌∷◌, ◌≡◌, []}
use Rattle.textwrap_marked.proofs.PieceLemmas.{joined-pieces, joined-cuts}
use Rattle.textwrap_marked.proofs.{Common.ap, Common.ℕ, LaidLemmas.divided-filled, LaidLemmas.first-of}
use Rattle.textwrap_marked.specs.{Pieces.IsJoined, Pieces.Joined, Reflow.room_behind}

-- the lines of the joined words are written, and what stands behind them
joined-filled : (options : ReflowOptions) (ending : List ℕ) (algorithm : Algorithm)
    (first : LineText) (rest : List LineText) (joined : Joined) (words prefix hanging end old begun new : List ℕ)
    → dividing_algorithm options.algorithm ≡ algorithm → words ≡ joined.text
    → IsJoined options first.starred (words_of_lines (first ∷ rest)) joined
    → prefix ≡ first.prefix → hanging ≡ first.hanging → end ≡ filled_end ending (first ∷ rest)
    → ((division : List (List WordText)) × IsDividedBy algorithm sizes_of
    (room_behind options prefix ∷ room_behind options hanging ∷ [])
    (map word_of (parts_between joined.cuts words)) division
    × (begun ≡ old ++ printed ending prefix hanging (line_texts options.justify
    (room_behind options prefix) (room_behind options hanging) division)))
    → new ≡ begun ++ end
    → (text : List ℕ) × AreFilled options ending (first ∷ rest) text × (new ≡ old ++ text)
joined-filled options ending algorithm first rest joined words prefix hanging end old begun new chosen w are p h e
    (division, divided, writes) more =
    let all = words_of_lines (first ∷ rest) in
    divided-filled options ending algorithm first rest old begun new chosen (
      division,
      subst (λ (ws : List ℕ). IsDividedBy algorithm sizes_of ws
          (map word_of (pieces options first.starred all)) division)
          (λ i. room_behind options (p i) ∷ room_behind options (h i) ∷ [])
          (subst (λ ps. IsDividedBy algorithm sizes_of
          (room_behind options prefix ∷ room_behind options hanging ∷ []) ps division)
          ((λ i. map word_of (parts_between (are.cuts i) ((w ∙ are.text) i)))
          ∙ ap (map word_of) (joined-pieces options first.starred all)) divided),
      writes ∙ (λ i. old ++ printed ending (p i) (h i) (line_texts options.justify
          (room_behind options (p i)) (room_behind options (h i)) division)),
    ) (more ∙ ap (λ t. begun ++ t) e)

-- their text may be cut there
cuts-are : (options : ReflowOptions) (starred : Bool) (words : List (List ℕ)) (joined : Joined)
    (text : List ℕ) → text ≡ joined.text → IsJoined options starred words joined → IsUtf8 text
    → AreCuts text joined.cuts
cuts-are options starred words joined text w are utf8 =
    let whole = w ∙ are.text in
    subst (λ t. AreCuts t joined.cuts) (sym whole)
    (subst (AreCuts (flat_map with_blank words)) (sym are.cuts)
    (joined-cuts options starred words (subst IsUtf8 whole utf8)))

pub push_joined-requires : goal.push_joined-requires
push_joined-requires c =
    cuts-are c.args.options.now c.first-item.result.starred
    (words_of_lines (map marked_line_view c.deref.result.now)) (joined_view c.in_ok-joined.joined)
    c.as_str-2.result.now c.as_str-2.ensures.value c.in_ok-joined.ensures c.as_str-2.utf8

pub returns-clause-filled : goal.returns-clause-filled
returns-clause-filled c =
    let options = c.args.options.now in
    let ending = c.args.ending.now in
    let lines = c.args.lines.items in
    let first = c.first-item.result in
    let rest = map marked_line_view (drop 1 lines) in
    let begins = first-of lines c.as_slice.result.now first c.as_slice.ensures.value
    c.in-len1-up.len_at_least c.first-item.is in
    let are = subst (λ ls. IsJoined options first.starred (words_of_lines ls)
    (joined_view c.in_ok-joined.joined)) (ap (map marked_line_view) c.deref.ensures.value ∙ begins)
    c.in_ok-joined.ensures in
    let end = c.as_str-4.ensures.value ∙ c.in_ok-push_end.ensures
    ∙ ap (λ t. t ++ filled_end ending (map marked_line_view c.deref-2.result.now)) c.new-end.ensures.bytes
    ∙ ap (filled_end ending) (ap (map marked_line_view) c.deref-2.ensures.value ∙ begins) in
    subst (λ ls. (text : List ℕ) × AreFilled options ending ls text
    × (string_bytes c.push_str.new.self ≡ string_bytes c.args.output.now ++ text)) (sym begins)
    (joined-filled options ending _ (marked_line_view first) rest (joined_view c.in_ok-joined.joined)
    c.as_str-2.result.now first.prefix.now c.as_str-3.result.now c.as_str-4.result.now _ _ _
    (ap dividing_algorithm c.requires) c.as_str-2.ensures.value are (λ i. first.prefix.now)
    (c.as_str-3.ensures.value ∙ c.in_ok-hanging.ensures.ok ∙ c.as_str.ensures.value) end
    c.in_ok-push_joined.ensures.lines c.in_ok-push_str.ensures.bytes)
