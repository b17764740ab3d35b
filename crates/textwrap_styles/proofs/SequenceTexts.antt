-- Texts of whole sequences and texts between them: their units, and what they show.
use lib.Utf8.{encode}
use Rattle.std.{proofs.lemmas.Bool.agree_below_at, specs.Str.chars}
use Rattle.textwrap_layout.proofs.Text.Paragraphs.{units-append}
use Rattle.textwrap_styles.proofs.Common.{closing, concat, IsWhole, link_end, open_link, open_styles}
use Rattle.textwrap_styles.proofs.Common.{penned_text, plain_rendition, Rendition, rendition_of, sequence_of}
use Rattle.textwrap_styles.{proofs.Common.{sequences, style_end, with_sequence}, specs.Penned.penned_units}
use Rattle.textwrap_styles.specs.Styled.{IsWholeText}
use Rattle.textwrap_text.proofs.Common.{[], ℕ, ◌++◌, ◌==◌, ◌∙◌, ◌∷◌, ◌≡◌, All, All-append, All-cons, All-head}
use Rattle.textwrap_text.proofs.Common.{All-nil, All-tail, ap, append-nil, arith, Bool, cases_Bool}
use Rattle.textwrap_text.proofs.Common.{characters, chars-append, chars-nil, chars_from_encodes, codes, cond}
use Rattle.textwrap_text.proofs.Common.{encode_utf8_all, encodes-chars, false, flat_map, flat_map-append}
use Rattle.textwrap_text.proofs.Common.{fold, inl, IsUtf8, IsUtf8-append, IsUtf8-nil, length, List, map, refl}
use Rattle.textwrap_text.proofs.Common.{rules, Sequence, subst, sym, take, TextUnit, true, units, Visible}
use Rattle.textwrap_text.proofs.{Common.visible_of, Texts.{utf8-back, utf8-front}, Units.Texts.units-tile}
use Rattle.textwrap_text.{proofs.Units.Texts.units_unique, specs.Units.{ends, visible}}

-- ---- the units of texts of whole sequences that are put together

pub text_units-append : (xs ys : List ℕ) → IsWholeText xs
    → units (chars (xs ++ ys)) ≡ units (chars xs) ++ units (chars ys)
text_units-append xs ys whole =
    ap units (chars-append xs ys whole.0) ∙ units-append (chars xs) (chars ys) whole.1

pub whole_text-append : (xs ys : List ℕ) → IsWholeText xs → IsWholeText ys → IsWholeText (xs ++ ys)
whole_text-append xs ys first second =
    let all = All-append IsWhole (units (chars xs)) (units (chars ys)) first.1 second.1 in
    (IsUtf8-append xs ys first.0 second.0, rw (text_units-append xs ys first) all)

-- ---- a sequence of a text, as a text by itself, and such sequences in a row

-- a text that is one whole sequence
pub record IsSequence (s : List ℕ) : Type 0 where
  pub utf8 : IsUtf8 s
  pub unit : units (chars s) ≡ Sequence (chars s) ∷ []
  pub whole : IsWhole (Sequence (chars s))

pub unit-sequence : (s cs : List ℕ) → IsUtf8 s → chars s ≡ cs → IsWhole (Sequence cs) → IsSequence s
unit-sequence s cs utf8 are whole =
    let own : Sequence cs ∷ [] ≡ units cs =
    (units_unique cs (Sequence cs ∷ [])).0 (append-nil cs, inl whole) in
    record {
      utf8 = utf8;
      unit = ap units are ∙ sym own ∙ ap (λ l. Sequence l ∷ []) (sym are);
      whole = subst (λ l. IsWhole (Sequence l)) (sym are) whole;
    }

units-sequences : (us : List TextUnit) → IsUtf8 (encode_utf8_all (flat_map characters us))
    → All IsWhole us → All IsSequence (flat_map sequence_of us)
units-sequences [] utf8 whole = All-nil IsSequence
units-sequences (Visible c ∷ us) utf8 whole = search (rules, arith, units-sequences us, utf8-back, All-tail)
units-sequences (Sequence cs ∷ us) utf8 whole =
    let one : IsUtf8 (encode_utf8_all cs) → IsWhole (Sequence cs) → IsSequence (encode_utf8_all cs) =
    λ own. unit-sequence (encode_utf8_all cs) cs own
    (sym (chars_from_encodes cs (encode_utf8_all cs) own refl)) in
    search (rules, units-sequences us, utf8-back, utf8-front, one, All-cons, All-head, All-tail)

-- the sequences of a text
pub text-sequences : (text : List ℕ) → IsWholeText text → All IsSequence (sequences text)
text-sequences text whole = search (rules, arith, units-sequences, units-tile, encodes-chars)

abbrev pub sequence_units : List (List ℕ) → List TextUnit
sequence_units xs = map (λ s. Sequence (chars s)) xs

sequence-whole : (s : List ℕ) → IsSequence s → IsWholeText s
sequence-whole s is = search (rules, arith, All-cons)

pub concat-units : (xs : List (List ℕ)) → All IsSequence xs → units (chars (concat xs)) ≡ sequence_units xs
concat-units [] are = ap units chars-nil
concat-units (s ∷ xs) are =
    let is = All-head IsSequence s xs are in
    let others = concat-units xs (All-tail IsSequence s xs are) in
    grind (arith, text_units-append s (concat xs) (sequence-whole s is), is.unit, others)

pub nil-whole : IsWholeText []
nil-whole = (IsUtf8-nil, subst (λ cs. All IsWhole (units cs)) (sym chars-nil) (All-nil IsWhole))

pub concat-whole : (xs : List (List ℕ)) → All IsSequence xs → IsWholeText (concat xs)
concat-whole [] are = nil-whole
concat-whole (s ∷ xs) are =
    search (rules, arith, whole_text-append, sequence-whole, concat-whole xs, All-head, All-tail)

pub units-again : (xs : List (List ℕ)) → All IsSequence xs → flat_map sequence_of (sequence_units xs) ≡ xs
units-again [] are = refl
units-again (s ∷ xs) are =
    let own = encodes-chars s (All-head IsSequence s xs are).utf8 in
    grind (arith, own, units-again xs (All-tail IsSequence s xs are))

pub none-visible : (xs : List (List ℕ)) → flat_map visible_of (sequence_units xs) ≡ []
none-visible [] = refl
none-visible (s ∷ xs) = none-visible xs

-- ---- what ends the styles and the link that are open

abbrev pub closing_sequences : List (List ℕ) → List (List ℕ)
closing_sequences before =
    cond (length (open_styles before) == 0) [] (style_end ∷ [])
    ++ cond (length (open_link before) == 0) [] (link_end ∷ [])

pub closing-is : (before : List (List ℕ)) → closing before ≡ concat (closing_sequences before)
closing-is before = grind (arith, cases_Bool)

style_end-is : IsSequence style_end
unfolding chars encode
style_end-is =
    let body = codes "[0m" in
    unit-sequence style_end style_end (style_end, (refl, refl)) refl
    (body, refl, refl, λ k. agree_below_at (λ i. ends (take i body)) (λ i. false) 3 k refl)

link_end-is : IsSequence link_end
unfolding chars encode
link_end-is =
    let body = codes "]8;;\u{1b}\\" in
    unit-sequence link_end link_end (link_end, (refl, refl)) refl
    (body, refl, refl, λ k. agree_below_at (λ i. ends (take i body)) (λ i. false) 6 k refl)

one-sequence : (s : List ℕ) (b : Bool) → IsSequence s → All IsSequence (cond b [] (s ∷ []))
one-sequence s true is = All-nil IsSequence
one-sequence s false is = All-cons IsSequence s [] is (All-nil IsSequence)

pub closing-sequences : (before : List (List ℕ)) → All IsSequence (closing_sequences before)
closing-sequences before = search (rules, arith, All-append, one-sequence, style_end-is, link_end-is)

pub penned-append : (us vs : List TextUnit) (now : Rendition)
    → penned_units now (us ++ vs) ≡ penned_units now us
    ++ penned_units (fold with_sequence now (flat_map sequence_of us)) vs
penned-append [] vs now = refl
penned-append (Visible c ∷ us) vs now =
    ap (λ shown. record { character = c; rendition = now } ∷ shown) (penned-append us vs now)
penned-append (Sequence cs ∷ us) vs now = penned-append us vs (with_sequence now (encode_utf8_all cs))

-- sequences show nothing
pub sequences-show : (xs : List (List ℕ)) (now : Rendition) → penned_units now (sequence_units xs) ≡ []
sequences-show [] now = refl
sequences-show (s ∷ xs) now = sequences-show xs (with_sequence now (encode_utf8_all (chars s)))

-- ---- what stands before a text, and the text, between sequences: its units, and what it shows

module _ (front text : List ℕ) (starts ends : List (List ℕ)) (front_whole : IsWholeText front)
    (text_whole : IsWholeText text) (are_starts : All IsSequence starts)
    (are_ends : All IsSequence ends) where
  parts-units : units (chars (front ++ concat starts ++ text ++ concat ends))
      ≡ units (chars front) ++ sequence_units starts ++ units (chars text) ++ sequence_units ends
  parts-units = search (rules, arith, concat-whole, whole_text-append, text_units-append, concat-units)

  pub parts-sequences : sequences (front ++ concat starts ++ text ++ concat ends)
      ≡ sequences front ++ starts ++ sequences text ++ ends
  parts-sequences = grind (arith, parts-units, flat_map-append, units-again)

  pub parts-visible : visible (chars (front ++ concat starts ++ text ++ concat ends))
      ≡ visible (chars (front ++ text))
  parts-visible = search (rules, arith, parts-units, none-visible, flat_map-append, text_units-append)

  -- where what sets anew what is open gives this
  pub parts-penned : (now : Rendition) → rendition_of (sequences front ++ starts) ≡ now
      → penned_text plain_rendition (front ++ concat starts ++ text ++ concat ends)
      ≡ penned_text plain_rendition front ++ penned_text now text
  parts-penned now is =
      search (rules, arith, parts-units, penned-append, sequences-show, flat_map-append, units-again)
